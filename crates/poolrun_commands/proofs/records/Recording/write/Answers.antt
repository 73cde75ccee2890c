use Rattle.std.proofs.Common.{◌≡◌, ◌∙◌, ap, sym, subst}
use Rattle.std.specs.Io.KnownBytes.{Appends}
use Rattle.std.proofs.lemmas.Result.{on_ok_weaker}
use Rattle.tp_types.specs.declared.configs.Config.{Config}
use Rattle.tp_text_record.specs.declared.versions.Version.TheVariants as version
use Rattle.tp_text_record.specs.RecordText.{record_text}
use Rattle.tp_scenario.specs.Plays.{entries_in}
use Rattle.poolrun_commands.proofs.records.Recording.write.Goals as goal

pub returns-in_default-clause-written : goal.returns-in_default-clause-written
returns-in_default-clause-written g c = λ d xs heard. let none = heard.0 in cc

pub returns-clause-written : goal.returns-clause-written
returns-clause-written g c =
    let contents = g.W.Write.contents in
    on_ok_weaker c.write_text.result
    (λ appends d xs heard.
    let config : Config = c.in-Some.config in
    let one = sym c.in-Some.is ∙ heard.0 in
    let same : config ≡ d = cc in
    let text : c.as_slice-2.result.now ≡ record_text version.Two d (entries_in xs) =
    c.as_slice-2.ensures.value ∙ c.in-Ok.ensures.text ∙ ap (λ es. record_text version.Two config es) (c.as_slice.ensures.value ∙ heard.1) ∙ ap (λ (x : Config). record_text version.Two x (entries_in xs)) same in
    subst (Appends (contents c.args.out.now.inner) (contents c.write_text.new.writer.inner)) text appends)
    c.write_text.ensures.written
