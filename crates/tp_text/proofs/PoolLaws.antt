-- Which texts are those of pool lines.
use Rattle.std.proofs.Common.{◌≡◌, ◌≢◌, ℕ, ◌<◌, ◌^◌, List, ◌∷◌, ◌++◌, Option, Some, None, true, false, refl, sym, ◌∙◌, ap, codes, append_assoc, Bor}
use Rattle.std.specs.Option.{MatchOption}
use Rattle.std.proofs.lemmas.Option.{none-some, same_Some}
use Rattle.std.specs.Fmt.{decimal}
use Rattle.std.proofs.lemmas.List.{append_cancel_left}
use Rattle.std.proofs.lemmas.Fmt.{decimal_injective}
use Rattle.tp_types.specs.declared.configs.Policy.{Policy}
use Rattle.tp_types.specs.declared.configs.QueueKind.{QueueKind}
use Rattle.tp_types.specs.declared.configs.QueueKind.TheVariants.{Handoff, Unbounded, Bounded, Priority}
use Rattle.tp_text.specs.declared.pools.PoolLine.{PoolLine}
use Rattle.tp_text.specs.Reads.{FirstWord, followed, spaced, ReadsNumberOn}
use Rattle.tp_text.specs.Fits.{Fits32, Fits64}
use Rattle.tp_text.specs.Pools.{FitsOptions, FitsPool, FitsQueue, FitsSizes, Options, Sizes, pool_text, said, sizes_text, limit_text, options_text, keep_text, waiting_text}
use Rattle.tp_text.proofs.WordSplits.{differ, word_from_test}
use Rattle.tp_text.proofs.NumberTexts.{word_decimal}

-- the keep-alive, the policy and the options
abbrev pub Kept : Type 0
Kept = ℕ × (Policy × Options)

abbrev pub FitsKept : Kept → Type 0
FitsKept k = Fits64 k.0 × FitsOptions k.1.1

-- a text whose first word is no number that fits
pub no_number : (fits : ℕ → Type 0) → ((n : ℕ) → fits n → n < 2 ^ 64) → (bs w : List ℕ) (r : Option (List ℕ)) → FirstWord bs w r → ((n : ℕ) → fits n → w ≢ decimal n) → (n : ℕ) (rest : List ℕ) → fits n → bs ≢ spaced (decimal n) rest
no_number fits small bs w r first none n rest fit same = none n fit (first.only (decimal n) (Some rest) (word_decimal n (small n fit)) same).0

-- a text whose first word stands alone
pub no_rest : (fits : ℕ → Type 0) → ((n : ℕ) → fits n → n < 2 ^ 64) → (bs w : List ℕ) (r : Option (List ℕ)) → FirstWord bs w r → r ≡ None → (n : ℕ) (rest : List ℕ) → fits n → bs ≢ spaced (decimal n) rest
no_rest fits small bs w r first none n rest fit same = none-some _ (sym none ∙ (first.only (decimal n) (Some rest) (word_decimal n (small n fit)) same).1)

-- a number and what follows it are read in one way
pub one_number : (fits : ℕ → Type 0) → ((n : ℕ) → fits n → n < 2 ^ 64) → (bs w x : List ℕ) (r : Option (List ℕ)) (k : ℕ) → FirstWord bs w r → fits k → w ≡ decimal k → r ≡ Some x → ReadsNumberOn fits bs (Some (k, x))
one_number fits small bs w x r k first fit is goes = (
  fit,
  first.whole ∙ ap (λ v. followed v r) is ∙ ap (followed (decimal k)) goes,
  λ n rest fits_n same.
      let q = first.only (decimal n) (Some rest) (word_decimal n (small n fits_n)) same in
      (decimal_injective k n (small k fit) (small n fits_n) (sym is ∙ q.0), same_Some _ _ (sym goes ∙ q.1)),
)

-- what follows a word and a space, from what follows the word
pub behind_space : (text word mid : List ℕ) (o : Option (Bor (List ℕ))) → text ≡ word ++ mid → MatchOption o ((rest : List ℕ) → mid ≢ 32 ∷ rest) (λ x. mid ≡ 32 ∷ x.now)
    → MatchOption o ((rest : List ℕ) → text ≢ spaced word rest) (λ x. text ≡ spaced word x.now)
behind_space text word mid None is none = λ rest same. none rest (append_cancel_left word mid (32 ∷ rest) (sym is ∙ same))
behind_space text word mid (Some x) is goes = is ∙ ap (λ v. word ++ v) goes

-- options other than none at all, core timeout, or what a limit follows
pub no_options : (text : List ℕ) → text ≢ codes "coretimeout" → ((rest : List ℕ) → text ≢ spaced (codes "coretimeout") rest) → ((n : ℕ) → Fits32 n → text ≢ limit_text n)
    → (p : Options) → FitsOptions p → Some text ≢ options_text p
no_options text alone none limit (false, None) fits = λ e. none-some _ (sym e)
no_options text alone none limit (true, None) fits = λ e. alone (same_Some _ _ e)
no_options text alone none limit (false, Some n) fits = λ e. limit n fits (same_Some _ _ e)
no_options text alone none limit (true, Some n) fits = λ e. none (limit_text n) (same_Some _ _ e)

-- what the kinds of queue begin with and go on with
pub record NoQueue (w : List ℕ) (r : Option (List ℕ)) : Type 0 where
  pub handoff : (k : Kept) → FitsKept k → w ≡ codes "handoff" → r ≢ Some (keep_text k)
  pub unbounded : (k : Kept) → FitsKept k → w ≡ codes "unbounded" → r ≢ Some (keep_text k)
  pub bounded : (n : ℕ) (k : Kept) → Fits32 n → FitsKept k → w ≡ codes "bounded" → r ≢ Some (spaced (decimal n) (keep_text k))
  pub priority : (k : Kept) → FitsKept k → w ≡ codes "priority" → r ≢ Some (keep_text k)

pub no_queue : (bs w : List ℕ) (r : Option (List ℕ)) → FirstWord bs w r → NoQueue w r → (p : QueueKind × Kept) → FitsQueue p.0 × Fits64 p.1.0 × FitsOptions p.1.1.1 → bs ≢ waiting_text p
no_queue bs w r first none (Handoff, k) fits same =
    let q = first.only (codes "handoff") (Some (keep_text k)) (word_from_test (codes "handoff") refl) same in none.handoff k (fits.1, fits.2) q.0 q.1
no_queue bs w r first none (Unbounded, k) fits same =
    let q = first.only (codes "unbounded") (Some (keep_text k)) (word_from_test (codes "unbounded") refl) same in none.unbounded k (fits.1, fits.2) q.0 q.1
no_queue bs w r first none (Bounded n, k) fits same =
    let q = first.only (codes "bounded") (Some (spaced (decimal n) (keep_text k))) (word_from_test (codes "bounded") refl) (same ∙ append_assoc (codes "bounded") (32 ∷ decimal n) (32 ∷ keep_text k)) in none.bounded n k fits.0 (fits.1, fits.2) q.0 q.1
no_queue bs w r first none (Priority, k) fits same =
    let q = first.only (codes "priority") (Some (keep_text k)) (word_from_test (codes "priority") refl) same in none.priority k (fits.1, fits.2) q.0 q.1

-- a queue's word alone begins nothing
pub queue_alone : (w : List ℕ) (r : Option (List ℕ)) → r ≡ None → NoQueue w r
queue_alone w r none = record {
  handoff = λ k f e s. none-some _ (sym none ∙ s);
  unbounded = λ k f e s. none-some _ (sym none ∙ s);
  bounded = λ n k f g e s. none-some _ (sym none ∙ s);
  priority = λ k f e s. none-some _ (sym none ∙ s);
}

-- a bounded queue's word stands before a capacity only
pub no_capacity : (w : List ℕ) (r : Option (List ℕ)) (rest : List ℕ) → w ≡ codes "bounded" → r ≡ Some rest
    → ((p : ℕ × Kept) → Fits32 p.0 × Fits64 p.1.0 × FitsOptions p.1.1.1 → rest ≢ spaced (decimal p.0) (keep_text p.1)) → NoQueue w r
no_capacity w r rest is goes none = record {
  handoff = λ k f e s. differ (codes "bounded") (codes "handoff") refl (sym is ∙ e);
  unbounded = λ k f e s. differ (codes "bounded") (codes "unbounded") refl (sym is ∙ e);
  bounded = λ n k f g e s. none (n, k) (f, g.0, g.1) (same_Some _ _ (sym goes ∙ s));
  priority = λ k f e s. differ (codes "bounded") (codes "priority") refl (sym is ∙ e);
}

-- no other word begins a queue
pub no_queue_word : (w : List ℕ) (r : Option (List ℕ)) → w ≢ codes "handoff" → w ≢ codes "unbounded" → w ≢ codes "bounded" → w ≢ codes "priority" → NoQueue w r
no_queue_word w r handoff unbounded bounded priority = record {
  handoff = λ k f e s. handoff e;
  unbounded = λ k f e s. unbounded e;
  bounded = λ n k f g e s. bounded e;
  priority = λ k f e s. priority e;
}

-- what stands behind the first word is no pool's
pub no_pool : (bs rest : List ℕ) → bs ≡ spaced (codes "pool") rest → ((p : Sizes) → FitsSizes p → rest ≢ sizes_text p) → (p : PoolLine) → FitsPool p → bs ≢ pool_text p
no_pool bs rest is none p fits same = none (said p) fits (append_cancel_left (codes "pool ") rest (sizes_text (said p)) (sym is ∙ same))
