-- The longest of spans, as one more is added.
use Rattle.std.proofs.Common.{◌≡◌, ℕ, List, [], ◌∷◌, ◌++◌, length, arith, refl, ap, ◌∙◌}
use Rattle.std.specs.Prelude.{max, slice_get, Option, Some, None}
use Rattle.tp_record.specs.declared.entries.Entry.{Entry}
use Rattle.tp_record.specs.declared.entries.Did.{Did}
use Rattle.tp_story.specs.declared.times.Since.{Since}
use Rattle.tp_story.specs.Since.{latest, task_since}
use Rattle.tp_story.specs.declared.spans.Span.{Span}
use Rattle.tp_story.specs.Counted.{Mover, span_since, span_to, spans}
use Rattle.tp_story_claims.specs.Checks.{longer, most}

-- the greater of three numbers
max_assoc : (a b c : ℕ) → max a (max b c) ≡ max (max a b) c
max_assoc a b c = grind arith

most_more : (xs : List Span) (s : Span) → most (xs ++ s ∷ []) ≡ max (most xs) s.entries
most_more [] s = grind arith
most_more (x ∷ xs) s = ap (max x.entries) (most_more xs s) ∙ max_assoc x.entries (most xs) s.entries

-- what stands behind a list
behind_one : (xs : List Span) (s : Span) → slice_get (xs ++ s ∷ []) (length xs) ≡ Some s
behind_one [] s = refl
behind_one (x ∷ xs) s = behind_one xs s

behind_none : (xs : List Span) → slice_get (xs ++ []) (length xs) ≡ None
behind_none [] = refl
behind_none (x ∷ xs) = behind_none xs

append_none : (xs : List Span) → xs ++ [] ≡ xs
append_none [] = refl
append_none (x ∷ xs) = ap (λ ys. x ∷ ys) (append_none xs)

by_since : (xs : List Span) (to : Since) (m : Mover) (o : Option Since) → longer (most xs) (xs ++ span_since to m o) (length xs) ≡ most (xs ++ span_since to m o)
by_since xs to m None = grind (arith, behind_none xs, append_none xs)
by_since xs to m (Some from) = grind (arith, behind_one xs, most_more xs)

by_mover : (h : List Entry) (xs : List Span) (to : Since) (o : Option Mover) → longer (most xs) (xs ++ span_to h to o) (length xs) ≡ most (xs ++ span_to h to o)
by_mover h xs to None = grind (arith, behind_none xs, append_none xs)
by_mover h xs to (Some m) = by_since xs to m (task_since h m.0.0)

-- the longest span goes on with the next entry
pub longest_next : (f : Did → Option Mover) (e : Entry) (h : List Entry) (was : ℕ) → was ≡ most (spans f h) → longer was (spans f (e ∷ h)) (length (spans f h)) ≡ most (spans f (e ∷ h))
longest_next f e h was is = ap (λ n. longer n (spans f (e ∷ h)) (length (spans f h))) is ∙ by_mover h (spans f h) (latest (e ∷ h)) (f e.did)
