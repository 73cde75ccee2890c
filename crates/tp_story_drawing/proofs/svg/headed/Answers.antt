use Rattle.std.proofs.Common.{◌++◌, ◌∙◌, ap}
use Rattle.tp_story_drawing.proofs.svg.headed.Goals as goal

pub returns : goal.returns
returns c = (
  c.as_bytes-2.result.now,
  c.in_ok-extend_from_slice.ensures.items ∙ ap (λ xs. xs ++ c.as_bytes-2.result.now) (c.in_ok-text.ensures.items ∙ c.as_bytes.ensures.value),
)
