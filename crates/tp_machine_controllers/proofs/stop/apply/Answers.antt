use Rattle.std.proofs.Common.{ℕ, suc, max, [], arith, subst, ap, ◌∙◌}
use mathlib.Core.Path.{fun_ext}
use Rattle.tp_record.specs.declared.entries.Ask.TheVariants as ask
use Rattle.tp_record.specs.declared.entries.Did.TheVariants as did
use Rattle.tp_record.specs.declared.rows.TaskRow.{TaskRow}
use Rattle.tp_record.specs.Left.{mark}
use Rattle.tp_record.specs.State.{state}
use Rattle.tp_laws.specs.View.{View, view}
use Rattle.tp_laws.proofs.Effects.Controllers.Shutdown.{woken_slot}
use Rattle.tp_record.specs.State.{slot_at}
use Rattle.tp_machine_state.specs.Drained.{drained}
use Rattle.tp_machine_state.specs.Shows.{Views}
use Rattle.tp_machine_state.specs.Terms.{terms}
use Rattle.tp_machine_state.proofs.Standing.{fits_accepted, falling_here}
use Rattle.tp_machine_state.proofs.Leading.{leads_from}
use Rattle.tp_machine_state.proofs.Drains.{queued_once, queued_open, gone_queued}
use Rattle.tp_machine_state.proofs.Falls.{effect_by}
use Rattle.tp_laws.proofs.Effects.Controllers.Stop.{stop as stop_effect}
use Rattle.tp_machine_controllers.proofs.Stopping.{stop_read}
use Rattle.tp_machine_controllers.proofs.stop.apply.Goals as goal

pub count_entry-requires : goal.count_entry-requires
count_entry-requires g c =
    let old = c.args.parts.now in
    let stands = c.requires.stands in
    let n = c.fall.result in
    let e = falling_here old stands ask.Stop (did.Stop c.args.count) _ n 0 n c.requires.accepts (λ given. effect_by (state (terms old) stands.history) (did.Stop c.args.count) _ _ n 0 (stop_read old c.args.count n c.fall.ensures (mark stands.released (state (terms old) stands.history)) stands.shows) (stop_effect (terms old) stands.history c.args.count stands.legal given)) (omega arith) in
    record { few = e.0; fall = e.1 }

pub drain_queue-requires-clause-known : goal.drain_queue-requires-clause-known
drain_queue-requires-clause-known g c =
    let old = c.args.parts.now in
    let stands = c.requires.stands in
    record {
      seen = _;
      views = c.wake_all.ensures.views _ (c.reach.ensures.views _ (c.count_entry.ensures.views _ stands.shows.seen));
      once = queued_once (terms old) stands.history stands.legal;
      unended = queued_open (terms old) stands.history stands.legal stands.released stands.may;
    }

pub returns-clause-leads : goal.returns-clause-leads
returns-clause-leads g c =
    let fits = fits_accepted c.args.parts.now ask.Stop (did.Stop c.args.count) c.requires.accepts in
    let old = c.args.parts.now in
    let new = c.drain_queue.new.self in
    let n = c.fall.result in
    let k = c.count_entry.ensures.rest in
    let m = c.reach.ensures.rest in
    let r = c.wake_all.ensures.rest in
    let q = c.drain_queue.ensures.rest in
    leads_from old new ask.Stop (did.Stop c.args.count) n 0 n c.requires.stands fits
    (λ h rs legal given sh.
    let s = mark rs (state (terms old) h) in
    let v : View = drained (record (view s) { rank = max 2 s.rank; slots = λ w. woken_slot (slot_at s.slots w); idling = [] }) in
    let V : (ℕ → TaskRow) → Type 0 = λ rows. Views new (record v { tasks = rows }) in
    (_, effect_by (state (terms old) h) (did.Stop c.args.count) _ _ n 0 (stop_read old c.args.count n c.fall.ensures s sh) (stop_effect (terms old) h c.args.count legal given), subst V (fun_ext (gone_queued (terms old) h legal)) (c.drain_queue.ensures.views _ (c.wake_all.ensures.views _ (c.reach.ensures.views _ (c.count_entry.ensures.views _ sh.seen))))))
    (omega arith) (ap terms q ∙ ap terms r ∙ ap terms m ∙ ap terms k) (cc) (cc)
    (λ tied. c.drain_queue.ensures.tied (terms old) (suc old.steps) (c.wake_all.ensures.tied (terms old) (suc old.steps) (c.reach.ensures.tied (terms old) (suc old.steps) (c.count_entry.ensures.tied (terms old) (suc old.steps) tied))))
