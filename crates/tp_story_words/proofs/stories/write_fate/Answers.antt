use Rattle.std.proofs.Common.{◌++◌, Some, ap, sym, subst}
use Rattle.std.specs.Prelude.{codes}
use Rattle.std.specs.Fmt.{decimal}
use Rattle.tp_story_words.specs.Lines.{IsEnd}
use Rattle.tp_story_words.proofs.Written.{on_ok}
use Rattle.tp_story_words.proofs.stories.write_fate.Goals as goal

pub returns-in-Words : goal.returns-in-Words
returns-in-Words c =
    let more = codes ", at entry " ++ (decimal c.args.number ++ codes "\n") in
    let line = codes "fate: " ++ (c.name-name.result.now ++ more) in
    on_ok c.write.result _ _
    (λ e. (line, subst (λ f. IsEnd f (Some c.args.fate) (Some c.args.number) line) (sym c.in-Words.is) (ap (λ x. codes "fate: " ++ (x ++ more)) c.name-name.ensures), e))
    c.write.ensures.bytes

pub returns-in-Json : goal.returns-in-Json
returns-in-Json c =
    let more = codes "\",\"at\":" ++ (decimal c.args.number ++ codes "}\n") in
    let line = codes "{\"fate\":\"" ++ (c.name-name.result.now ++ more) in
    on_ok c.write-in-Json.result _ _
    (λ e. (line, subst (λ f. IsEnd f (Some c.args.fate) (Some c.args.number) line) (sym c.in-Json.is) (ap (λ x. codes "{\"fate\":\"" ++ (x ++ more)) c.name-name.ensures), e))
    c.write-in-Json.ensures.bytes
