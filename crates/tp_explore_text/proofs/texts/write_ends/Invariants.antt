use Rattle.std.proofs.Common.{◌≡◌, ◌++◌, take}
use Rattle.std.specs.Prelude.{string_bytes}
use Rattle.std.specs.List.{flat_map}
use Rattle.tp_explore_text.specs.Texts.{end_line}
use Rattle.tp_explore_text.proofs.texts.write_ends.Given as goal

abbrev pub invariant-loop-end : goal.invariant-loop-end
invariant-loop-end l = string_bytes l.text ≡ string_bytes l.fn.text ++ flat_map end_line (take l.end-index l.ends)
