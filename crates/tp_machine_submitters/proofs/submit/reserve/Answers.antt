use Rattle.std.proofs.Common.{◌≡◌, suc, Some, arith, refl, sym, ap, subst, ◌∙◌}
use Rattle.std.specs.Prelude.{count_by, is_some, length}
use Rattle.tp_types.specs.declared.tasks.Place.TheVariants as at
use Rattle.tp_record.specs.declared.entries.Ask.TheVariants as ask
use Rattle.tp_record.specs.declared.entries.Did.TheVariants as did
use Rattle.tp_record.specs.declared.entries.Looked.TheVariants as looked
use Rattle.tp_record.specs.Left.{mark}
use Rattle.tp_record.specs.State.{state, task_at}
use Rattle.tp_record.specs.Step.{slot_count}
use Rattle.tp_tasks.specs.Tasks.{submissions}
use Rattle.tp_laws.specs.View.{view, put}
use Rattle.tp_laws.proofs.Effects.Rows.{new_row, for_core}
use Rattle.tp_laws.proofs.Effects.Submitters.Submit.{submit_reserve}
use Rattle.tp_machine_state.specs.Memory.{HasMemory}
use Rattle.tp_machine_state.specs.Steps.{Fits}
use Rattle.tp_machine_state.specs.Terms.{terms}
use Rattle.tp_machine_state.proofs.Ties.{tied_more}
use Rattle.tp_machine_state.proofs.Standing.{given_here, fits_accepted, rising_here}
use Rattle.tp_machine_state.proofs.Leading.{leads_by}
use Rattle.tp_machine_state.proofs.Slots.{seats_left, views_numbered}
use Rattle.tp_machine_submitters.proofs.Submitting.{few_fits}
use Rattle.tp_machine_submitters.proofs.submit.reserve.Goals as goal

pub count_rising_entry-requires : goal.count_rising_entry-requires
count_rising_entry-requires g c =
    let old = c.args.parts.now in
    let stands = c.requires.stands in
    let e = rising_here old stands (ask.Submit c.args.kind c.args.priority) (did.Submit (record { 0 = submissions old.tasks }) c.args.kind c.args.priority (looked.Reserve c.args.w)) _ 12 c.requires.accepts (submit_reserve (terms old) stands.history (record { 0 = submissions old.tasks }) c.args.kind c.args.priority c.args.w stands.legal) in
    let more = e.1 in
    let rise : c.rise.result ≡ 12 = c.rise.ensures.rise in
    record { few = e.0; rise = omega (arith, more, rise) }

pub reserve-requires : goal.reserve-requires
reserve-requires g c =
    let fits = fits_accepted c.args.parts.now (ask.Submit c.args.kind c.args.priority) (did.Submit (record { 0 = submissions c.args.parts.now.tasks }) c.args.kind c.args.priority (looked.Reserve c.args.w)) c.requires.accepts in
    let old = c.args.parts.now in
    let stands = c.requires.stands in
    let given = given_here old stands (ask.Submit c.args.kind c.args.priority) (did.Submit (record { 0 = submissions old.tasks }) c.args.kind c.args.priority (looked.Reserve c.args.w)) fits in
    let below = given.1.1 in
    let core = stands.shows.seen.core_size in
    let sizes = stands.tied.sizes in
    let left = seats_left old stands old.core (omega (arith, sizes)) (omega (arith, below, core)) in
    let same : c.put_task-t.new.self.slots ≡ old.slots = ap (λ p. p.slots) c.put_task-t.ensures.rest ∙ ap (λ p. p.slots) c.count_rising_entry.ensures.rest in
    let taken = ap (λ s. count_by is_some s.slots) same in
    let places = ap (λ s. s.places) same in
    record { room = omega (arith, left, taken, places); reserved = refl }

pub returns-clause-leads : goal.returns-clause-leads
returns-clause-leads g c =
    let fits = fits_accepted c.args.parts.now (ask.Submit c.args.kind c.args.priority) (did.Submit (record { 0 = submissions c.args.parts.now.tasks }) c.args.kind c.args.priority (looked.Reserve c.args.w)) c.requires.accepts in
    let old = c.args.parts.now in
    let kind = c.args.kind in
    let priority = c.args.priority in
    let w = c.args.w in
    let t = c.put_task-t.result in
    let k = c.count_rising_entry.ensures.rest in
    let m = c.put_task-t.ensures.rest in
    let r = c.reserve.ensures.rest in
    let number = c.put_task-t.ensures.number ∙ ap (λ p. submissions p.tasks) k in
    let slot = c.reserve.ensures.number ∙ ap (λ p. p.slots.next) m ∙ ap (λ p. p.slots.next) k ∙ sym c.requires.next in
    let due = ap (λ p. p.due) r ∙ ap (λ p. p.due) m ∙ ap (λ p. p.due) k in
    let rise : c.rise.result ≡ 12 = c.rise.ensures.rise in
    leads_by old c.reserve.new.self (ask.Submit kind priority) (did.Submit t kind priority (looked.Reserve w)) 0 12 (subst (λ n. Fits old (ask.Submit kind priority) (did.Submit (record { 0 = n }) kind priority (looked.Reserve w))) (sym number) fits)
    (λ h rs legal given sh.
    let s = mark rs (state (terms old) h) in
    let v = record (view s) { submitted = suc (length s.tasks); tasks = put t.0 (new_row kind priority (at.Held w)) (task_at s) } in (
      _,
      submit_reserve (terms old) h t kind priority w legal given,
      views_numbered c.reserve.new.self v _ _ (Some (for_core t)) (suc (slot_count s)) slot (c.reserve.ensures.views v (c.put_task-t.ensures.views _ (c.count_rising_entry.ensures.views _ sh.seen))),
    ))
    (ap terms r ∙ ap terms m ∙ ap terms k) (ap (λ p. p.steps) r ∙ ap (λ p. p.steps) m ∙ ap (λ p. p.steps) k) (omega (arith, due, rise))
    (c.reserve.ensures.tied (terms old) (suc old.steps) (c.put_task-t.ensures.tied (terms old) (suc old.steps) (c.count_rising_entry.ensures.tied (terms old) (suc old.steps) (tied_more (terms old) old.steps old c.requires.stands.tied))))

pub put_task-t-requires-clause-few : goal.put_task-t-requires-clause-few
put_task-t-requires-clause-few g c =
    let fits = fits_accepted c.args.parts.now (ask.Submit c.args.kind c.args.priority) (did.Submit (record { 0 = submissions c.args.parts.now.tasks }) c.args.kind c.args.priority (looked.Reserve c.args.w)) c.requires.accepts in
    let few = few_fits c.args.parts.now c.requires.stands c.args.kind c.args.priority _ (looked.Reserve c.args.w) fits in
    let same = ap (λ p. submissions p.tasks) c.count_rising_entry.ensures.rest in
    omega (arith, few, same)

pub put_task-t-requires-clause-memory : goal.put_task-t-requires-clause-memory
put_task-t-requires-clause-memory g c =
    let memory = c.requires.memory in
    subst (λ p. HasMemory p c.args.kind) (sym c.count_rising_entry.ensures.rest) (record { task = memory.task; place = memory.place })
