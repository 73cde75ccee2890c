use Rattle.std.proofs.Common.{◌≡◌, false, Result, Ok, Err, refl, arith, ap, sym, subst, ◌∙◌}
use Rattle.std.specs.Prelude.{OnOk, IsTrue, is_err, is_some}
use Rattle.std.proofs.lemmas.Bool.{true≢false}
use Rattle.tp_types.specs.Queues.{is_open}
use Rattle.tp_tasks.specs.Table.{row_of_task}
use Rattle.tp_machine_state.proofs.Keeping.{most_counted, most_fewer}
use Rattle.tp_machine_state.proofs.Ties.{tied_roomier}
use Rattle.tp_machine_state.proofs.parts.Parts.make_room.Goals as goal

pub returns-then-is_err-clause-tied : goal.returns-then-is_err-clause-tied
returns-then-is_err-clause-tied g c = λ config n tied.
    tied_roomier config n c.args.self.now tied c.args.self.now.tasks (record { tasks = λ t. refl; done = λ g. refl; fates = λ f. refl; submitted = refl }) c.reserve.new.self c.reserve.ensures.same c.reserve.ensures.kept

pub returns-clause-tied : goal.returns-clause-tied
returns-clause-tied g c = λ config n tied.
    tied_roomier config n c.args.self.now tied c.reserve-2.new.self c.reserve-2.ensures.unchanged c.reserve.new.self c.reserve.ensures.same c.reserve.ensures.kept

on_ok : {A E X Y : Type 0} (r : Result A E) → (X → Y) → OnOk r X → OnOk r Y
on_ok (Ok v) f x = f x
on_ok (Err e) f x = tt

where_ok : {A E X : Type 0} (r : Result A E) → is_err r ≡ false → OnOk r X → X
where_ok (Ok v) is x = x
where_ok (Err e) is x = absurd (true≢false is)

pub returns-clause-memory : goal.returns-clause-memory
returns-clause-memory g c =
    on_ok c.reserve-2.result (λ ready. record {
      task = ready;
      place = λ is.
          let made = where_ok c.reserve.result (sym c.is_err.ensures.value ∙ c.if-is_err.false) c.reserve.ensures.room (subst (λ k. IsTrue (is_open k)) (ap (λ w. w.kind) c.reserve.ensures.same) is) in (
            c.kept.result,
            most_fewer c.args.self.now.tasks c.reserve-2.new.self c.kept.result (λ t has. ap (λ (k : _). is_some (row_of_task k)) (sym (c.reserve-2.ensures.unchanged.tasks t)) ∙ has) (most_counted c.args.self.now.tasks c.kept.result c.kept.ensures.released),
            omega (arith, made),
          );
    }) c.reserve-2.ensures.ready
