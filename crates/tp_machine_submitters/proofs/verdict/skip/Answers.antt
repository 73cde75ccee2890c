use Rattle.std.proofs.Common.{suc, true, arith, refl, sym, ap, ◌∙◌}
use Rattle.std.specs.Prelude.{not, ◌&&◌}
use Rattle.tp_types.specs.declared.tasks.Place.TheVariants as at
use Rattle.tp_record.specs.declared.entries.Ask.TheVariants as ask
use Rattle.tp_record.specs.declared.entries.Did.TheVariants as did
use Rattle.tp_record.specs.declared.entries.Ruled.TheVariants as ruled
use Rattle.tp_record.specs.State.{state, task_at}
use Rattle.tp_tasks.specs.Tasks.{row_of, payload_of}
use Rattle.tp_laws.proofs.Effects.Submitters.Verdict.{verdict_skip}
use Rattle.tp_machine_state.specs.Tied.{is_before, waits}
use Rattle.tp_machine_state.specs.Terms.{terms}
use Rattle.tp_machine_state.proofs.Ties.{tied_more}
use Rattle.tp_machine_state.proofs.Standing.{given_here, task_here, cancelled_here, fits_accepted, fall_here, falling_here}
use Rattle.tp_machine_state.proofs.Leading.{leads_by}
use Rattle.tp_machine_submitters.proofs.verdict.skip.Goals as goal
use Rattle.tp_tasks.specs.Tasks.{promise_of}
use Rattle.tp_machine_submitters.proofs.Payloads.{nothing_out}

pub count_entry-requires : goal.count_entry-requires
count_entry-requires g c =
    let old = c.args.parts.now in
    let stands = c.requires.stands in
    let here = falling_here old stands (ask.Verdict c.args.t c.args.verdict) (did.Verdict c.args.t c.args.verdict ruled.Skip) _ 2 0 2 c.requires.accepts (verdict_skip (terms old) stands.history c.args.t c.args.verdict stands.legal) (omega arith) in
    record { few = here.0; fall = here.1 }

pub place_task-requires : goal.place_task-requires
place_task-requires g c =
    let fits = fits_accepted c.args.parts.now (ask.Verdict c.args.t c.args.verdict) (did.Verdict c.args.t c.args.verdict ruled.Skip) c.requires.accepts in
    let old = c.args.parts.now in
    let stands = c.requires.stands in
    let given = given_here old stands (ask.Verdict c.args.t c.args.verdict) (did.Verdict c.args.t c.args.verdict ruled.Skip) fits in
    let there = task_here old stands c.args.t.0 at.Refused given.0 refl in
    let over = cancelled_here old stands c.args.t.0 true given.0.0 given.1.1 in
    record { known = (task_at (state (terms old) stands.history) c.args.t.0, ap (λ p. row_of p.tasks c.args.t.0) c.count_entry.ensures.rest ∙ there.0, sym (λ i. is_before (there.1 i) && not (over i))) }

pub returns-clause-payloads : goal.returns-clause-payloads
returns-clause-payloads g c =
    let fits = fits_accepted c.args.parts.now (ask.Verdict c.args.t c.args.verdict) (did.Verdict c.args.t c.args.verdict ruled.Skip) c.requires.accepts in
    let old = c.args.parts.now in
    let stands = c.requires.stands in
    let given = given_here old stands (ask.Verdict c.args.t c.args.verdict) (did.Verdict c.args.t c.args.verdict ruled.Skip) fits in
    let there = task_here old stands c.args.t.0 at.Refused given.0 refl in
    let over = cancelled_here old stands c.args.t.0 true given.0.0 given.1.1 in
    let kept = c.place_task.ensures.payloads in
    let was = stands.tied.payloads c.args.t.0 ∙ ap waits there.0 ∙ (λ i. is_before (there.1 i) && not (over i)) in
    let k = c.count_entry.ensures.rest in
    nothing_out old.tasks c.place_task.new.self.tasks c.args.t.0 was (record { payloads = λ u. kept.payloads u ∙ ap (λ p. payload_of p.tasks u) k; promises = λ u. kept.promises u ∙ ap (λ p. promise_of p.tasks u) k })

pub returns-clause-leads : goal.returns-clause-leads
returns-clause-leads g c =
    let fits = fits_accepted c.args.parts.now (ask.Verdict c.args.t c.args.verdict) (did.Verdict c.args.t c.args.verdict ruled.Skip) c.requires.accepts in
    let old = c.args.parts.now in
    let stands = c.requires.stands in
    let t = c.args.t in
    let a = ask.Verdict t c.args.verdict in
    let d = did.Verdict t c.args.verdict ruled.Skip in
    let k = c.count_entry.ensures.rest in
    let m = c.place_task.ensures.rest in
    let here = fall_here old stands a d _ 2 0 2 fits (verdict_skip (terms old) stands.history t c.args.verdict stands.legal) (omega arith) in
    let due = ap (λ p. p.due) m ∙ ap (λ p. p.due) k in
    leads_by old c.place_task.new.self a d 2 0 fits
    (λ h rs legal given sh. (_, verdict_skip (terms old) h t c.args.verdict legal given, c.place_task.ensures.views _ (c.count_entry.ensures.views _ sh.seen)))
    (ap terms m ∙ ap terms k) (ap (λ p. p.steps) m ∙ ap (λ p. p.steps) k) (omega (arith, due, here))
    (c.place_task.ensures.tied (terms old) (suc old.steps) (c.count_entry.ensures.tied (terms old) (suc old.steps) (tied_more (terms old) old.steps old stands.tied)))
