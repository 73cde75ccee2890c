-- The history of a front of the entries.
use Rattle.std.proofs.Common.{◌≡◌, ℕ, ◌+◌, ◌<◌, List, [], ◌∷◌, length, take, reverse, get_or, max, refl, arith, ap, ◌∙◌}
use Rattle.std.proofs.lemmas.List.{take_more, reverse-append}
use Rattle.tp_record.specs.declared.entries.Entry.{Entry}
use Rattle.tp_record.specs.Fields as fields

-- one more entry, as the latest
pub history_more : (es : List Entry) (i : ℕ) (d : Entry) → i < length es → reverse (take (i + 1) es) ≡ get_or es i d ∷ reverse (take i es)
history_more es i d h = ap reverse (take_more es i d h) ∙ reverse-append (take i es) (get_or es i d ∷ [])

-- the greatest number of live slots, with one more entry
pub largest_more : (es : List Entry) (i : ℕ) → i < length es →
    fields.largest (reverse (take (i + 1) es)) ≡ max (fields.live (reverse (take (i + 1) es))) (fields.largest (reverse (take i es)))
largest_more [] i h = absurd (omega arith)
largest_more (e ∷ es) i h = rw (history_more (e ∷ es) i e h) refl
