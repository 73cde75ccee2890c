use Rattle.std.proofs.Common.{[], ◌∷◌, ◌++◌, refl}
use Rattle.tp_story_words.proofs.Written.{on_ok}
use Rattle.tp_story_words.proofs.forms.write_line.Goals as goal

pub returns : goal.returns
returns c =
    let words = c.one_line-words.result.now in
    on_ok c.write.result _ _ (λ e. (words ++ 10 ∷ [], (words, c.one_line-words.ensures.single, refl), e)) c.write.ensures.bytes
