use Rattle.std.proofs.Common.{◌≡◌, Option, Some, None, ◌∙◌, sym, subst}
use Rattle.tp_types.specs.declared.tasks.Fate.{Fate}
use Rattle.tp_story_words.specs.Lines.{IsEnd}
use Rattle.tp_story_words.proofs.Written.{no_fate, no_number, on_ok}
use Rattle.tp_story_words.proofs.stories.write_end.Goals as goal

pub returns-in-Some-fated : goal.returns-in-Some-fated
returns-in-Some-fated c =
    on_ok c.write_fate.result _ _
    (λ w h tells. (w.0, subst (λ (o : Option Fate). IsEnd c.args.form o c.args.story.now.fated w.0) (c.in-Some.ensures h tells) (subst (λ n. IsEnd c.args.form (Some c.in-Some.fate) n w.0) c.in-Some-fated.ensures.fated w.1), w.2))
    c.write_fate.ensures

pub returns-in-None-fated : goal.returns-in-None-fated
returns-in-None-fated c =
    on_ok c.write_left.result _ _
    (λ w h tells. (w.0, subst (λ (o : Option Fate). IsEnd c.args.form o c.args.story.now.fated w.0) (c.in-Some.ensures h tells) (subst (λ n. IsEnd c.args.form (Some c.in-Some.fate) n w.0) c.in-None-fated.ensures.fated (no_number c.args.form (Some c.in-Some.fate) w.0 w.1)), w.2))
    c.write_left.ensures

pub returns-in-None : goal.returns-in-None
returns-in-None c =
    on_ok c.write_left-in-None.result _ _
    (λ w h tells. (w.0, subst (λ (o : Option Fate). IsEnd c.args.form o c.args.story.now.fated w.0) (c.in-None.ensures h tells) (no_fate c.args.form c.args.story.now.fated w.0 w.1), w.2))
    c.write_left-in-None.ensures
