use Rattle.std.proofs.Common.{◌≡◌, ◌++◌, take}
use Rattle.std.specs.Prelude.{string_bytes}
use Rattle.std.specs.List.{flat_map}
use Rattle.tp_text.specs.Lines.{ended}
use Rattle.tp_text_record.specs.declared.versions.Version.TheVariants as version
use Rattle.tp_text_record.specs.ReadRecord.{head}
use Rattle.tp_text_record.specs.RecordText.{entry_texts}
use Rattle.tp_text_record.proofs.writing.write_record.Given as goal

abbrev pub invariant-loop-i : goal.invariant-loop-i
invariant-loop-i l = string_bytes l.text ≡ string_bytes l.fn.text ++ (head version.Two l.config ++ flat_map ended (entry_texts 1 (take l.i l.entries)))
