-- How many lines stand before a line.
use Rattle.std.proofs.Common.{◌≡◌, ◌+◌, ℕ, List, [], ◌∷◌, ◌++◌, length, sym, ◌∙◌, ap, arith, append_assoc, append-nil, length-append}
use Rattle.std.specs.List.{AllByRecursion, flat_map}
use Rattle.std.proofs.lemmas.List.Concat.{flat_map-append}
use Rattle.tp_text.specs.Lines.{HasNoLineFeed, ended}

-- what is left of a text begins with line k
pub record Reached (text rest : List ℕ) (k : ℕ) : Type 0 where
  pub before : List (List ℕ)
  pub each : AllByRecursion HasNoLineFeed before
  pub whole : text ≡ flat_map ended before ++ rest
  pub number : length before + 1 ≡ k

pushed : (ls : List (List ℕ)) (l : List ℕ) → AllByRecursion HasNoLineFeed ls → HasNoLineFeed l → AllByRecursion HasNoLineFeed (ls ++ l ∷ [])
pushed [] l a x = (x, tt)
pushed (m ∷ ls) l a x = (a.0, pushed ls l a.1 x)

-- one more line
pub line_on : (text behind line rest : List ℕ) (k : ℕ) → Reached text behind k → behind ≡ line ++ 10 ∷ rest → HasNoLineFeed line → Reached text rest (k + 1)
line_on text behind line rest k r goes one =
    record {
      before = r.before ++ line ∷ [];
      each = pushed r.before line r.each one;
      whole = r.whole ∙ ap (λ v. flat_map ended r.before ++ v) (goes ∙ sym (append_assoc line (10 ∷ []) rest) ∙ ap (λ v. v ++ rest) (sym (append-nil (ended line))))
          ∙ sym (append_assoc (flat_map ended r.before) (flat_map ended (line ∷ [])) rest) ∙ ap (λ v. v ++ rest) (sym (flat_map-append ended r.before (line ∷ [])));
      number = let e : length (r.before ++ line ∷ []) ≡ length r.before + 1 = length-append r.before (line ∷ []) in let n : length r.before + 1 ≡ k = r.number in omega (arith, e, n);
    }
