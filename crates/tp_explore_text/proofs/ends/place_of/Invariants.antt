use Rattle.std.proofs.Common.{◌≢◌, take}
use Rattle.std.specs.List.{All}
use Rattle.tp_explore_text.specs.Ends.{text_of}
use Rattle.tp_explore_text.proofs.ends.place_of.Given as goal

abbrev pub invariant-loop-i : goal.invariant-loop-i
invariant-loop-i l = All (λ e. text_of e ≢ l.text) (take l.i l.ends)
