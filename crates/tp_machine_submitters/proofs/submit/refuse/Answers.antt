use Rattle.std.proofs.Common.{◌≡◌, suc, arith, sym, ap, subst, ◌∙◌}
use Rattle.tp_record.specs.declared.entries.Ask.TheVariants as ask
use Rattle.tp_record.specs.declared.entries.Did.TheVariants as did
use Rattle.tp_record.specs.declared.entries.Looked.TheVariants as looked
use Rattle.tp_tasks.specs.Tasks.{submissions}
use Rattle.tp_laws.proofs.Effects.Submitters.Submit.{submit_refuse}
use Rattle.tp_machine_state.specs.Memory.{HasMemory}
use Rattle.tp_machine_state.specs.Steps.{Fits}
use Rattle.tp_machine_state.specs.Terms.{terms}
use Rattle.tp_machine_state.proofs.Ties.{tied_more}
use Rattle.tp_machine_state.proofs.Standing.{fits_accepted, rising_here}
use Rattle.tp_machine_state.proofs.Leading.{leads_by}
use Rattle.tp_machine_submitters.proofs.Submitting.{few_fits}
use Rattle.tp_machine_submitters.proofs.submit.refuse.Goals as goal

pub count_rising_entry-requires : goal.count_rising_entry-requires
count_rising_entry-requires g c =
    let old = c.args.parts.now in
    let stands = c.requires.stands in
    let e = rising_here old stands (ask.Submit c.args.kind c.args.priority) (did.Submit (record { 0 = submissions old.tasks }) c.args.kind c.args.priority looked.Refuse) _ 2 c.requires.accepts (submit_refuse (terms old) stands.history (record { 0 = submissions old.tasks }) c.args.kind c.args.priority stands.legal) in
    let more = e.1 in
    let rise : c.rise.result ≡ 2 = c.rise.ensures.rise in
    record { few = e.0; rise = omega (arith, more, rise) }

pub returns-clause-leads : goal.returns-clause-leads
returns-clause-leads g c =
    let fits = fits_accepted c.args.parts.now (ask.Submit c.args.kind c.args.priority) (did.Submit (record { 0 = submissions c.args.parts.now.tasks }) c.args.kind c.args.priority looked.Refuse) c.requires.accepts in
    let old = c.args.parts.now in
    let kind = c.args.kind in
    let priority = c.args.priority in
    let t = c.put_task.result in
    let k = c.count_rising_entry.ensures.rest in
    let m = c.put_task.ensures.rest in
    let number = c.put_task.ensures.number ∙ ap (λ p. submissions p.tasks) k in
    let due = ap (λ p. p.due) m ∙ ap (λ p. p.due) k in
    let rise : c.rise.result ≡ 2 = c.rise.ensures.rise in
    leads_by old c.put_task.new.self (ask.Submit kind priority) (did.Submit t kind priority looked.Refuse) 0 2 (subst (λ n. Fits old (ask.Submit kind priority) (did.Submit (record { 0 = n }) kind priority looked.Refuse)) (sym number) fits)
    (λ h rs legal given sh. (_, submit_refuse (terms old) h t kind priority legal given, c.put_task.ensures.views _ (c.count_rising_entry.ensures.views _ sh.seen)))
    (ap terms m ∙ ap terms k) (ap (λ p. p.steps) m ∙ ap (λ p. p.steps) k) (omega (arith, due, rise))
    (c.put_task.ensures.tied (terms old) (suc old.steps) (c.count_rising_entry.ensures.tied (terms old) (suc old.steps) (tied_more (terms old) old.steps old c.requires.stands.tied)))

pub put_task-requires-clause-few : goal.put_task-requires-clause-few
put_task-requires-clause-few g c =
    let fits = fits_accepted c.args.parts.now (ask.Submit c.args.kind c.args.priority) (did.Submit (record { 0 = submissions c.args.parts.now.tasks }) c.args.kind c.args.priority looked.Refuse) c.requires.accepts in
    let few = few_fits c.args.parts.now c.requires.stands c.args.kind c.args.priority _ looked.Refuse fits in
    let same = ap (λ p. submissions p.tasks) c.count_rising_entry.ensures.rest in
    omega (arith, few, same)

pub put_task-requires-clause-memory : goal.put_task-requires-clause-memory
put_task-requires-clause-memory g c =
    let memory = c.requires.memory in
    subst (λ p. HasMemory p c.args.kind) (sym c.count_rising_entry.ensures.rest) (record { task = memory.task; place = memory.place })
