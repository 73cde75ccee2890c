use Rattle.std.proofs.Common.{refl, sym, ap, ◌∙◌}
use Rattle.std.specs.Prelude.{is_some}
use Rattle.tp_types.specs.declared.tasks.Place.TheVariants as at
use Rattle.tp_record.specs.declared.entries.Ask.TheVariants as ask
use Rattle.tp_record.specs.declared.entries.Did.TheVariants as did
use Rattle.tp_machine_state.proofs.Standing.{given_here, task_here}
use Rattle.tp_machine_workers.proofs.end.EndStep.apply.Goals as goal

pub dies-requires-clause-dies : goal.dies-requires-clause-dies
dies-requires-clause-dies g c = λ s sh. sym (c.is_plain_fault.ensures s c.args.self.0 sh) ∙ c.if-is_plain_fault.true

pub works-requires-clause-lives : goal.works-requires-clause-lives
works-requires-clause-lives g c = λ s sh. sym (c.is_plain_fault.ensures s c.args.self.0 sh) ∙ c.if-is_plain_fault.false

pub is_plain_fault-requires : goal.is_plain_fault-requires
is_plain_fault-requires g c =
    let old = c.args.parts.now in
    let stands = c.requires.stands in
    let given = given_here old stands (ask.End c.args.self.0 c.args.self.1) (did.End c.args.self.0 c.args.t c.args.self.1) c.requires.fits.0 in
    record { known = ap (λ o. is_some o) (task_here old stands c.args.t.0 (at.Running c.args.self.0) given.1 refl).0 }
