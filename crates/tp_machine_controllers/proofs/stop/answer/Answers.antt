use Rattle.std.proofs.Common.{◌≡◌, ℕ, false, Ok, refl, arith, sym, ap, ◌∙◌}
use Rattle.tp_record.specs.declared.entries.Ask.TheVariants as ask
use Rattle.tp_record.specs.declared.entries.Did.TheVariants as did
use Rattle.tp_record.specs.Left.{mark}
use Rattle.tp_record.specs.State.{state}
use Rattle.tp_queue.specs.Queues.{waiting_of}
use Rattle.tp_machine_state.specs.declared.parts.Parts.{Parts}
use Rattle.tp_machine_state.specs.Steps.{Fits}
use Rattle.tp_machine_state.specs.Terms.{terms}
use Rattle.tp_machine_state.proofs.Answering.{refuses_fitting}
use Rattle.tp_machine_state.proofs.Few.{few_queued}
use Rattle.tp_machine_state.proofs.Rules.{accepts_given, refuses_given}
use Rattle.std.specs.Prelude.{length}
use Rattle.tp_machine_controllers.proofs.Stopping.{stop_moves, queued_read}
use Rattle.tp_machine_controllers.proofs.stop.answer.Goals as goal

module _ {P : Type 0} (p : Parts P) where
  fits : (n : ℕ) → n ≡ length (waiting_of p.queue).items → Fits p ask.Stop (did.Stop n)
  fits n is = λ h rs legal may sh. (ap (λ k. Ok (did.Stop k)) (queued_read p (mark rs (state (terms p) h)) sh ∙ sym is), tt)

pub overflow_cast-count : goal.overflow_cast-count
overflow_cast-count g c = let few = few_queued c.args.parts.now c.requires.stands in let n = c.len-count.ensures in omega (arith, few, n)

pub returns-clause-refuses : goal.returns-clause-refuses
returns-clause-refuses g c =
    let p = c.args.parts.now in
    let n = c.len-count.result in
    refuses_given p ask.Stop (λ k. did.Stop k) c.fall.result 0 n
    (λ full. refuses_fitting p ask.Stop (did.Stop n) c.fall.result 0 false full refl (fits p n c.len-count.ensures) (λ s w. refl) (stop_moves p n c.fall.result c.fall.ensures)) c.in_room.result c.in_room.ensures

pub returns-clause-accepts : goal.returns-clause-accepts
returns-clause-accepts g c =
    let p = c.args.parts.now in
    let n = c.len-count.result in
    accepts_given p ask.Stop (λ k. did.Stop k) c.fall.result 0 n (fits p n c.len-count.ensures) (stop_moves p n c.fall.result c.fall.ensures) c.in_room.result c.in_room.ensures
