-- Completed tasks by group.
use Rattle.std.specs.Prelude.{ℕ, List, [], Option, Some, None, nat_eq}
use Rattle.std.specs.declared.collections.VecDeque.{VecDeque}
use Rattle.std.specs.VecDeque.{deque_items}
use Rattle.indexmap.specs.IndexMap.{get}
use Rattle.tp_audit.specs.declared.done.Done.{Done}

abbrev pub listed : {Z : Type 0} → Option (VecDeque ℕ Z) → List ℕ
listed None = []
listed (Some d) = deque_items d

-- the completed tasks of group g that are not handed out, in the order of their completion
abbrev pub done_in : Done → ℕ → List ℕ
done_in d g = listed (get nat_eq d.groups g)
