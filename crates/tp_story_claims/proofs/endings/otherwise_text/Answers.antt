use Rattle.std.proofs.Common.{◌++◌, ◌∙◌, ap, ap₂, sym}
use Rattle.std.specs.List.{flat_map}
use Rattle.std.proofs.lemmas.List.{take_all}
use Rattle.tp_story_claims.specs.Endings.{end_line}
use Rattle.tp_story_claims.proofs.Ended.{flat_more}
use Rattle.tp_story_claims.proofs.endings.otherwise_text.Goals as goal

pub loop-ends-preserved : goal.loop-ends-preserved
loop-ends-preserved c =
    c.in_ok-extend_from_slice.ensures.items ∙ ap₂ (λ x y. x ++ y) c.loop-ends.invariant (c.as_bytes.ensures.value ∙ c.in_ok-line.ensures)
    ∙ sym (flat_more (end_line c.args.form) c.args.found.now c.loop-ends.ends-index _ c.loop-ends-test.true)

pub returns : goal.returns
returns c = c.loop-ends.invariant ∙ ap (flat_map (end_line c.args.form)) (take_all c.loop-ends.ends-index c.args.found.now c.loop-ends-test.false)
