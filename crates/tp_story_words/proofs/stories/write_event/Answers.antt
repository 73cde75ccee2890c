use Rattle.std.proofs.Common.{◌≡◌, ◌++◌, rules, sym, subst}
use Rattle.std.specs.Prelude.{string_bytes}
use Rattle.tp_story_words.specs.Lines.{event_line}
use Rattle.tp_story_words.proofs.Written.{on_ok}
use Rattle.tp_story_words.proofs.stories.write_event.Goals as goal

pub returns-in-Words : goal.returns-in-Words
returns-in-Words c =
    let words = c.one_line-words in
    on_ok c.write.result _ _
    (λ e. (words.result.now, words.ensures.single, subst (λ f. string_bytes c.write.new.self ≡ string_bytes c.args.text.now ++ event_line f c.args.shown.event.now.number words.result.now) (sym c.in-Words.is) (search rules)))
    c.write.ensures.bytes

pub returns : goal.returns
returns c =
    let words = c.one_line-words in
    on_ok c.write-in-Json.result _ _
    (λ e. (words.result.now, words.ensures.single, subst (λ f. string_bytes c.write-in-Json.new.self ≡ string_bytes c.args.text.now ++ event_line f c.args.shown.event.now.number words.result.now) (sym c.in-Json.is) e))
    c.write-in-Json.ensures.bytes
