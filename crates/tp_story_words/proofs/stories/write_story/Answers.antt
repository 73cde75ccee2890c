use Rattle.std.proofs.Common.{sym, subst}
use Rattle.std.specs.Prelude.{string_bytes}
use Rattle.tp_story_words.proofs.Written.{Behind, on_ok, story_told}
use Rattle.tp_story_words.proofs.stories.write_story.Goals as goal

pub returns : goal.returns
returns c =
    let a = string_bytes c.args.text.now in
    let b = string_bytes c.write_head.new.text in
    let d = string_bytes c.write_events.new.text in
    let lines = subst (λ es. Behind c.args.form es b d) c.events.ensures.events c.in_ok-write_events.ensures in
    on_ok c.write_end.result _ _
    (λ w h tells. story_told c.args.form c.args.story.now.events _ c.args.story.now.fated a b d (string_bytes c.write_end.new.text) c.in_ok-write_head.ensures lines (w h tells))
    c.write_end.ensures
