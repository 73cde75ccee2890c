use Rattle.std.proofs.Common.{[], ◌∷◌, codes, string_bytes}
use Rattle.tp_text.specs.EntryLine.{behind, switch_word}
use Rattle.tp_text.proofs.LineLaws.{more_on_ok}
use Rattle.tp_text.proofs.answers.write_core_timeout.Goals as goal

pub returns : goal.returns
returns c =
    more_on_ok c.write_switch.result (string_bytes c.args.line.now) (string_bytes c.text.new.line) (string_bytes c.write_switch.new.line) (codes " coretimeout") (behind (switch_word c.args.on ∷ [])) c.in_ok-text.ensures c.write_switch.ensures
