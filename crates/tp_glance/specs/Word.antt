-- The word of a published run state: it is the rank of the pool's history, which the book's seat knows whole; each other
-- seat knows a front of it. A history has its entries, and the tasks that were released: the latest first of either.
use Rattle.std.specs.Prelude.{◌≡◌, ℕ, ◌≤◌, List, [], ◌∷◌, ◌++◌, true, false}
use mathlib.Core.Option.{some}
use lib.ListN.{get_elem?}
use Rattle.atomic_table.specs.Seated.{TableId}
use Rattle.atomic_table.specs.Table.{State, Me, Step}
use Rattle.tp_record.specs.declared.entries.Entry.{Entry}
use Rattle.tp_record.specs.Fields.{rank}
use Rattle.tp_glance.specs.declared.view.History.{History}
use Rattle.tp_glance.specs.declared.view.View.{View}

-- the name of no table
abbrev pub no_table : TableId
no_table = record { words = 0; slots = 0; views_name = 0; atom = 0; block = 0; offset = 0; slot_names = [] }

-- the history of a new pool
abbrev pub no_history : History
no_history = record { entries = []; released = [] }

-- a history with one entry more
abbrev pub with_entry : Entry → History → History
with_entry e h = record { entries = e ∷ h.entries; released = h.released }

-- a history in which one task more was released
abbrev pub with_released : ℕ → History → History
with_released t h = record { entries = h.entries; released = t ∷ h.released }

-- the first is a front of the second: that goes on from it by what is later
pub record IsFrontOf {A : Type 0} (front history : List A) : Type 0 where
  pub later : List A
  pub goes_on : history ≡ later ++ front

-- so it is in the entries, and in the released tasks
abbrev pub IsPartOf : History → History → Type 0
IsPartOf front history = IsFrontOf front.entries history.entries × IsFrontOf front.released history.released

-- what the book's seat knows: the whole history, and a front that it was told of
abbrev pub book_view : History → History → View
book_view history told = record { raises = true; front = history; told = told }

-- what a pass's seat knows: a front
abbrev pub pass_view : History → View
pass_view front = record { raises = false; front = front; told = no_history }

-- the view that raises is that of the book's seat, and knows the history; each view knows a front of it
pub record FitsWord (book : ℕ) (history : History) (seat : ℕ) (v : View) : Type 0 where
  pub own : v.raises ≡ true → (seat ≡ book) × (v.front ≡ history)
  pub front : IsPartOf v.front history
  pub told : IsPartOf v.told history

-- there is one word, the rank of the history, and each seat's view fits it, a dropped seat's too
abbrev pub IsPublished : {S : Type 0} → State S View → Type 0
IsPublished s = (book : ℕ) × (history : History) × (s.words ≡ rank history.entries ∷ []) × ((seat : ℕ) (v : View) → get_elem? s.views seat ≡ some v → FitsWord book history seat v)

-- a look finds the rank of the history of that moment, which has then been seen, and goes on from what was known; the book's seat knew it
abbrev pub Looked : {S : Type 0} → Step S → Me S View → ℕ → Me S View → Type 0
Looked step before found after =
    (after.0 ≡ record { raises = before.0.raises; front = after.0.front; told = before.0.told }) × (after.1 ≡ before.1) × (found ≡ rank after.0.front.entries) × (found ≤ 4)
    × IsPartOf before.0.front after.0.front × IsPartOf before.0.told after.0.front × (before.0.raises ≡ true → after.0.front ≡ before.0.front)

-- the book's seat notes what makes this history of the one before, and finds the rank that there was; what it was told of is a front of the history before
abbrev pub Noted : {S : Type 0} → (History → History) → Step S → Me S View → ℕ → Me S View → Type 0
Noted next step before found after =
    (after.0 ≡ book_view (next before.0.front) before.0.told) × (after.1 ≡ before.1) × (found ≡ rank before.0.front.entries) × (found ≤ 4)
    × IsPartOf before.0.told before.0.front
