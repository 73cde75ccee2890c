use Rattle.std.proofs.Common.{◌++◌, ◌∙◌, ap, sym, option_to_list}
use Rattle.std.specs.Result.{result_ok}
use Rattle.std.proofs.lemmas.Result.{on_ok_weaker}
use Rattle.poolrun_commands.proofs.Entries.{entries_on}
use Rattle.poolrun_commands.proofs.records.RecordingListener.hear.Goals as goal

pub returns : goal.returns
returns c =
    let x = c.args.answered.now in
    on_ok_weaker c.keep.result (λ kept d xs heard. (heard.0, kept ∙ ap (λ es. es ++ option_to_list (result_ok x)) heard.1 ∙ sym (entries_on xs x))) c.keep.ensures
