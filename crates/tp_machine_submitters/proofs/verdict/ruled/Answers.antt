use Rattle.std.proofs.Common.{ap, sym, subst, ◌∙◌}
use Rattle.std.specs.Prelude.{if◌then◌else◌}
use Rattle.tp_record.specs.declared.entries.Ruled.TheVariants as ruled
use Rattle.tp_record.specs.Fields.{queue}
use Rattle.tp_record.specs.Left.{mark}
use Rattle.tp_record.specs.State.{state}
use Rattle.tp_record.specs.Step.{retry_of, rule}
use Rattle.tp_machine_state.specs.Room.{TellsRoom}
use Rattle.tp_machine_state.specs.Terms.{terms}
use Rattle.tp_machine_submitters.specs.Owed.{retry_rise}
use Rattle.tp_machine_submitters.proofs.Verdicts.{retried_by}
use Rattle.tp_machine_submitters.proofs.verdict.ruled.Goals as goal

pub returns-then-has_room : goal.returns-then-has_room
returns-then-has_room g c = λ h rs legal reads.
    let p = c.args.parts.now in
    let s = mark rs (state (terms p) h) in
    let q = queue (terms p) h in
    let none = c.in-None.is in
    let e = c.retry_of-retry.ensures q (c.head.ensures s reads) in
    e ∙ ap (λ b. if b then retry_of q else ruled.Discarded) (sym c.if-has_room.true)
    ∙ retried_by p h rs reads.shows c.args.t c.args.row (c.requires.known s reads) legal c.requires.refused (c.rule.ensures.runs none s reads) (c.rule.ensures.few none) c.has_room.result
    (subst (λ n. TellsRoom p 0 n c.has_room.result) (c.rise.ensures.rise ∙ ap retry_rise e) c.has_room.ensures)
    ∙ ap (rule (terms p) s c.args.t c.args.row) (sym (c.rule.ensures.retries none))

pub returns-else-has_room : goal.returns-else-has_room
returns-else-has_room g c = λ h rs legal reads.
    let p = c.args.parts.now in
    let s = mark rs (state (terms p) h) in
    let q = queue (terms p) h in
    let none = c.in-None.is in
    let e = c.retry_of-retry.ensures q (c.head.ensures s reads) in
    ap (λ b. if b then retry_of q else ruled.Discarded) (sym c.if-has_room.false)
    ∙ retried_by p h rs reads.shows c.args.t c.args.row (c.requires.known s reads) legal c.requires.refused (c.rule.ensures.runs none s reads) (c.rule.ensures.few none) c.has_room.result
    (subst (λ n. TellsRoom p 0 n c.has_room.result) (c.rise.ensures.rise ∙ ap retry_rise e) c.has_room.ensures)
    ∙ ap (rule (terms p) s c.args.t c.args.row) (sym (c.rule.ensures.retries none))
