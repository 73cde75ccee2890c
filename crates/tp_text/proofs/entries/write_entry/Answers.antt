use Rattle.std.proofs.Common.{string_bytes}
use Rattle.tp_text.proofs.LineLaws.{entry_on_ok}
use Rattle.tp_text.proofs.entries.write_entry.Goals as goal

pub returns : goal.returns
returns c =
    entry_on_ok c.text.result c.args.number c.args.entry.now (string_bytes c.args.line.now) (string_bytes c.write_place.new.line) (string_bytes c.write_did.new.line) (string_bytes c.text.new.line) c.in_ok-write_place.ensures c.in_ok-write_did.ensures c.text.ensures
