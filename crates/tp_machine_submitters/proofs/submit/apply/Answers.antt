use Rattle.std.proofs.Common.{subst}
use Rattle.tp_record.specs.declared.entries.Ask.TheVariants as ask
use Rattle.tp_record.specs.declared.entries.Did.TheVariants as did
use Rattle.tp_tasks.specs.Tasks.{submissions}
use Rattle.tp_machine_state.specs.Steps.{Accepts}
use Rattle.tp_machine_submitters.proofs.submit.apply.Goals as goal

pub reserve-requires-clause-accepts : goal.reserve-requires-clause-accepts
reserve-requires-clause-accepts g c =
    let p = c.args.parts.now in
    subst (λ l. Accepts p (ask.Submit c.args.kind c.args.priority) (did.Submit (record { 0 = submissions p.tasks }) c.args.kind c.args.priority l)) c.in-Reserve.is c.requires.accepts

pub queue-requires-clause-accepts : goal.queue-requires-clause-accepts
queue-requires-clause-accepts g c =
    let p = c.args.parts.now in
    subst (λ l. Accepts p (ask.Submit c.args.kind c.args.priority) (did.Submit (record { 0 = submissions p.tasks }) c.args.kind c.args.priority l)) c.in-Queue.is c.requires.accepts

pub refuse-requires-clause-accepts : goal.refuse-requires-clause-accepts
refuse-requires-clause-accepts g c =
    let p = c.args.parts.now in
    subst (λ l. Accepts p (ask.Submit c.args.kind c.args.priority) (did.Submit (record { 0 = submissions p.tasks }) c.args.kind c.args.priority l)) c.in-Refuse.is c.requires.accepts
