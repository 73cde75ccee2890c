use Rattle.std.proofs.Common.{◌≡◌, suc, take}
use Rattle.std.specs.Prelude.{string_bytes}
use Rattle.std.specs.List.{flat_map}
use Rattle.tp_text.specs.Lines.{ended}
use Rattle.tp_text_record.specs.RecordText.{entry_texts}
use Rattle.tp_journal.proofs.writers.lines_of.Given as goal

abbrev pub invariant-loop-i : goal.invariant-loop-i
invariant-loop-i l = string_bytes l.text ≡ flat_map ended (entry_texts (suc l.before) (take l.i l.entries))
