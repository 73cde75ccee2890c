use Rattle.std.proofs.Common.{◌≡◌, false, take, sym, ap, subst, ◌∙◌, arith}
use Rattle.std.specs.Prelude.{string_bytes}
use Rattle.std.proofs.lemmas.Grind.{common_steps}
use Rattle.std.proofs.lemmas.List.Folds.{list_all-map, list_all_at}
use Rattle.tp_explore.specs.Situation.{seen}
use Rattle.tp_explore_text.specs.Ends.{has_part}
use Rattle.tp_explore_text.proofs.ends.has_parts.Goals as goal

pub returns-then-not-branch : goal.returns-then-not-branch
returns-then-not-branch c =
    let labels = c.args.labels.now in
    let s = seen c.args.state.now in
    let parts = c.args.parts.now in
    let item = c.part-item.result in
    let no : c.in_ok-has_part.field-0 ≡ false = grind arith in
    let here : has_part labels s (string_bytes item) ≡ false = ap (has_part labels s) (sym c.as_str.ensures.value) ∙ sym c.in_ok-has_part.ensures ∙ no in
    sym (list_all-map (has_part labels s) string_bytes parts
    ∙ list_all_at (λ q. has_part labels s (string_bytes q)) parts c.loop-part.part-index item c.loop-part-test.true (subst (λ q. has_part labels s (string_bytes q) ≡ false) c.part-item.is here))

pub returns : goal.returns
returns c =
    let parts = c.args.parts.now in
    let all : take c.loop-part.part-index parts ≡ parts = grind (arith, common_steps) in
    sym (list_all-map (has_part c.args.labels.now (seen c.args.state.now)) string_bytes parts ∙ rw all at c.loop-part.invariant)
