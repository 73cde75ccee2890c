-- Tasks of a sort that have a fate.
use Rattle.std.specs.Prelude.{Bool, true, false, Option, Some, None, is_none}
use Rattle.tp_types.specs.declared.tasks.Fate.{Fate}
use Rattle.tp_types.specs.declared.tasks.Kind.{Kind}
use Rattle.tp_types.specs.declared.tasks.Kind.TheVariants as kinds
use Rattle.tp_record.specs.State.{is_fate}
use Rattle.tp_story.specs.declared.fates.Sort.{Sort}
use Rattle.tp_story.specs.declared.fates.Sort.TheVariants as sorts

-- a kind is of this sort, whatever its group
abbrev pub is_of : Sort → Kind → Bool
is_of sorts.Plain kinds.Plain = true
is_of sorts.Future kinds.Future = true
is_of sorts.Group (kinds.Group g) = true
is_of s k = false

-- a task has this fate, or none where none is wanted
abbrev pub has_fate : Option Fate → Option Fate → Bool
has_fate (Some f) o = is_fate f o
has_fate None o = is_none o
