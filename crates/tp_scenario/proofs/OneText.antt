-- A text says one thing.
use Rattle.std.proofs.Common.{◌≡◌, ℕ, suc, ◌<◌, List, [], ◌∷◌, get_or, Option, Some, None, Ok, Err, refl, sym, ◌∙◌, ap, subst, arith, inl, inr}
use Rattle.tp_text.specs.Reads.{followed}
use Rattle.tp_text.specs.declared.pools.PoolLine.{PoolLine}
use Rattle.tp_scenario.specs.declared.forms.LineRead.{LineRead}
use Rattle.tp_scenario.specs.declared.forms.LineRead.TheVariants as read
use Rattle.tp_scenario.specs.declared.forms.PoolRead.{PoolRead}
use Rattle.tp_scenario.specs.declared.forms.PoolRead.TheVariants as head
use Rattle.tp_text.specs.Pools.{pool_text}
use Rattle.tp_text.specs.Lines.{IsSkipped}
use Rattle.tp_scenario.specs.PoolText.{Before, BeforePool, IsPoolText, LinesSaid, LinesSay, ReadsLine, ReadsPoolLine, TextSaid, TextSays}
use Rattle.tp_text.proofs.LineSplits.{same_lines}
use Rattle.tp_text.proofs.PoolReading.{pool_text-injective}

-- what begins with a letter does so whatever follows
pub followed_first : (w : List ℕ) (r : Option (List ℕ)) → 96 < get_or w 0 0 → 96 < get_or (followed w r) 0 0
followed_first [] r h = absurd (omega arith)
followed_first (b ∷ w) None h = h
followed_first (b ∷ w) (Some r) h = h

-- a text that begins with a letter is not skipped
pub letter_not_skipped : (bytes : List ℕ) → 96 < get_or bytes 0 0 → IsSkipped bytes → ⊥
letter_not_skipped bytes h (inl is) = let at : get_or bytes 0 0 ≡ 0 = ap (λ x. get_or x 0 0) is in absurd (omega arith)
letter_not_skipped bytes h (inr is) = absurd (omega (arith, is.1))

pool_not_skipped : (bytes : List ℕ) (p : PoolLine) → bytes ≡ pool_text p → IsSkipped bytes → ⊥
pool_not_skipped bytes p is skipped =
    let at : get_or bytes 0 0 ≡ 112 = ap (λ x. get_or x 0 0) is in letter_not_skipped bytes (omega arith) skipped

same_pool_read : (bytes : List ℕ) (r q : PoolRead) → ReadsPoolLine bytes r → ReadsPoolLine bytes q → r ≡ q
same_pool_read bytes head.Skipped head.Skipped a b = refl
same_pool_read bytes head.Skipped (head.Pool p) a b = absurd (pool_not_skipped bytes p b.2 a)
same_pool_read bytes head.Skipped head.Bad a b = absurd (b.0 a)
same_pool_read bytes (head.Pool p) head.Skipped a b = absurd (pool_not_skipped bytes p a.2 b)
same_pool_read bytes (head.Pool p) (head.Pool q) a b = ap head.Pool (pool_text-injective p q a.1 b.1 (sym a.2 ∙ b.2))
same_pool_read bytes (head.Pool p) head.Bad a b = absurd (b.1 a.0 p a.1 a.2)
same_pool_read bytes head.Bad head.Skipped a b = absurd (a.0 b)
same_pool_read bytes head.Bad (head.Pool q) a b = absurd (a.1 b.0 q b.1 b.2)
same_pool_read bytes head.Bad head.Bad a b = refl

-- lines of a form of which none is skipped, and no two have one text
module _ {L : Type 0} (text_of : L → List ℕ) (fits : L → Type 0)
    (unskipped : (bytes : List ℕ) (l : L) → bytes ≡ text_of l → IsSkipped bytes → ⊥)
    (one : (l m : L) → fits l → fits m → text_of l ≡ text_of m → l ≡ m) where
  -- a line is one thing
  same_read : (bytes : List ℕ) (r q : LineRead L) → ReadsLine text_of fits bytes r → ReadsLine text_of fits bytes q → r ≡ q
  same_read bytes read.Skipped read.Skipped a b = refl
  same_read bytes read.Skipped (read.Says l) a b = absurd (unskipped bytes l b.2 a)
  same_read bytes read.Skipped read.Bad a b = absurd (b.0 a)
  same_read bytes (read.Says l) read.Skipped a b = absurd (unskipped bytes l a.2 b)
  same_read bytes (read.Says l) (read.Says m) a b = ap read.Says (one l m a.1 b.1 (sym a.2 ∙ b.2))
  same_read bytes (read.Says l) read.Bad a b = absurd (b.1 a.0 l a.1 a.2)
  same_read bytes read.Bad read.Skipped a b = absurd (a.0 b)
  same_read bytes read.Bad (read.Says m) a b = absurd (a.1 b.0 m b.1 b.2)
  same_read bytes read.Bad read.Bad a b = refl

  same_before : (r : LineRead L) (k : ℕ) (on : LinesSaid L → Type 0) → ((a b : LinesSaid L) → on a → on b → a ≡ b) → (a b : LinesSaid L) → Before r k on a → Before r k on b → a ≡ b
  same_before read.Skipped k on same a b x y = same a b x y
  same_before (read.Says l) k on same ([], bad) b x y = absurd x
  same_before (read.Says l) k on same (s ∷ lines, bad) ([], worse) x y = absurd y
  same_before (read.Says l) k on same (s ∷ lines, bad) (t ∷ more, worse) x y =
      let e = same (lines, bad) (more, worse) x.1 y.1 in
      ap (λ v. (v ∷ lines, bad)) (x.0 ∙ sym y.0) ∙ ap (λ (v : LinesSaid L). (t ∷ v.0, v.1)) e
  same_before read.Bad k on same a b x y = x ∙ sym y

  same_lines_said : (lines : List (List ℕ)) (k : ℕ) (rest : List ℕ) (a b : LinesSaid L) → LinesSay text_of fits k lines rest a → LinesSay text_of fits k lines rest b → a ≡ b
  same_lines_said [] k [] a b x y = x ∙ sym y
  same_lines_said [] k (c ∷ cs) a b x y = x ∙ sym y
  same_lines_said (l ∷ lines) k rest a b x y =
      let P : LineRead L → Type 0 = λ r. Before r k (LinesSay text_of fits (suc k) lines rest) b in
      same_before x.0 k (LinesSay text_of fits (suc k) lines rest) (same_lines_said lines (suc k) rest) a b x.2 (subst P (same_read l y.0 x.0 y.1 x.1) y.2)

  same_opening : (r : PoolRead) (k : ℕ) (on : TextSaid L → Type 0) (asks : LinesSaid L → Type 0) → ((s t : TextSaid L) → on s → on t → s ≡ t) → ((a b : LinesSaid L) → asks a → asks b → a ≡ b)
      → (s t : TextSaid L) → BeforePool r k on asks s → BeforePool r k on asks t → s ≡ t
  same_opening head.Skipped k on asks same also s t x y = same s t x y
  same_opening (head.Pool p) k on asks same also (Ok q) (Ok r) x y = ap (λ v. Ok (v, q.1)) (x.0 ∙ sym y.0) ∙ ap (λ v. Ok (r.0, v)) (also q.1 r.1 x.1 y.1)
  same_opening (head.Pool p) k on asks same also (Ok q) (Err n) x y = absurd y
  same_opening (head.Pool p) k on asks same also (Err m) t x y = absurd x
  same_opening head.Bad k on asks same also s t x y = x ∙ sym y

  same_says : (lines : List (List ℕ)) (k : ℕ) (rest : List ℕ) (s t : TextSaid L) → TextSays text_of fits k lines rest s → TextSays text_of fits k lines rest t → s ≡ t
  same_says [] k rest s t x y = x ∙ sym y
  same_says (l ∷ lines) k rest s t x y =
      let P : PoolRead → Type 0 = λ r. BeforePool r k (TextSays text_of fits (suc k) lines rest) (LinesSay text_of fits (suc k) lines rest) t in
      same_opening x.0 k (TextSays text_of fits (suc k) lines rest) (LinesSay text_of fits (suc k) lines rest) (same_says lines (suc k) rest) (same_lines_said lines (suc k) rest) s t x.2 (subst P (same_pool_read l y.0 x.0 y.1 x.1) y.2)

  -- a text says one thing
  pub one_said : (text : List ℕ) (s t : TextSaid L) → IsPoolText text_of fits text s → IsPoolText text_of fits text t → s ≡ t
  one_said text s t x y =
      let e = same_lines text y.0 x.0 y.1 x.1 y.2 x.2 in
      let P : List (List ℕ) → Type 0 = λ v. TextSays text_of fits 1 v y.1 t in
      let Q : List ℕ → Type 0 = λ v. TextSays text_of fits 1 x.0 v t in
      same_says x.0 1 x.1 s t x.3 (subst Q e.1 (subst P e.0 y.3))
