-- What is printed of an exploration.
use Rattle.std.specs.Prelude.{◌≡◌, ℕ, List, ◌++◌, codes}
use Rattle.std.specs.Fmt.{decimal}
use Rattle.std.specs.List.{flat_map}
use Rattle.tp_text.specs.Reads.{spaced}
use Rattle.tp_explore_walk.specs.declared.counts.Count.{Count}
use Rattle.tp_explore_walk.specs.declared.counts.Count.TheVariants.{Exactly, Over}
use Rattle.tp_explore_text.specs.declared.ends.End.{End}
use Rattle.tp_explore_text.specs.Ends.{text_of}

-- a number of interleavings, as long as it has at most 128 bits
abbrev pub count_text : Count → List ℕ
count_text (Exactly n) = decimal n
count_text Over = codes "over 340282366920938463463374607431768211455"

-- the line of an end: how many interleavings lead there, and what became of each task
abbrev pub end_line : End → List ℕ
end_line e = spaced (count_text e.count) (text_of e) ++ codes "\n"

-- behind what stands at first the text has a line for each end, in their order
abbrev pub ListsEnds : List End → List ℕ → Type 0
ListsEnds ends text = (first : List ℕ) × (text ≡ first ++ flat_map end_line ends)
