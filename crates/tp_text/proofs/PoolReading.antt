-- No text is that of two pool lines.
use Rattle.std.proofs.Common.{◌≡◌, ◌≢◌, ℕ, ◌<◌, ◌^◌, List, Some, None, true, false, refl, sym, ap, arith, codes}
use Rattle.std.proofs.lemmas.Option.{none-some, same_Some}
use Rattle.std.proofs.lemmas.Fmt.{decimal_injective}
use Rattle.std.specs.Fmt.{decimal}
use Rattle.tp_types.specs.declared.configs.Policy.{Policy}
use Rattle.tp_types.specs.declared.configs.Policy.TheVariants as policy
use Rattle.tp_types.specs.declared.configs.QueueKind.{QueueKind}
use Rattle.tp_types.specs.declared.configs.QueueKind.TheVariants.{Handoff, Unbounded, Bounded, Priority}
use Rattle.tp_text.specs.declared.pools.PoolLine.{PoolLine}
use Rattle.tp_text.specs.Reads.{IsWord, spaced}
use Rattle.tp_text.specs.Fits.{Fits32, Fits64}
use Rattle.tp_text.specs.Pools.{FitsOptions, FitsPool, FitsQueue, Options, Sizes, pool_text, said, sizes_text, limit_text, options_text, policy_text, queue_text, keep_text}
use Rattle.tp_types.specs.Policy.{policy_name}
use Rattle.tp_text.proofs.WordSplits.{differ, word_from_test}
use Rattle.tp_text.proofs.NumberTexts.{word_decimal}
use Rattle.tp_text.proofs.WordSplits.{same_words}

-- texts whose first words have no space fall apart there
same_spaced : (w v r q : List ℕ) → IsWord w → IsWord v → spaced w r ≡ spaced v q → (w ≡ v) × (r ≡ q)
same_spaced w v r q x y e = let p = same_words w v (Some r) (Some q) x y e in (p.0, same_Some r q p.1)

-- texts that begin with one word
behind_word : (w r q : List ℕ) → IsWord w → spaced w r ≡ spaced w q → r ≡ q
behind_word w r q x e = (same_spaced w w r q x x e).1

-- texts that begin with a number
behind_number : (m n : ℕ) (r q : List ℕ) → m < 2 ^ 64 → n < 2 ^ 64 → spaced (decimal m) r ≡ spaced (decimal n) q → (m ≡ n) × (r ≡ q)
behind_number m n r q x y e =
    let p = same_spaced (decimal m) (decimal n) r q (word_decimal m x) (word_decimal n y) e in (decimal_injective m n x y p.0, p.1)

limit_text-injective : (m n : ℕ) → Fits32 m → Fits32 n → limit_text m ≡ limit_text n → m ≡ n
limit_text-injective m n x y e =
    decimal_injective m n (omega (arith, x)) (omega (arith, y)) (behind_word (codes "limit") (decimal m) (decimal n) (word_from_test (codes "limit") refl) e)

timeout_alone : (n : ℕ) → codes "coretimeout" ≢ spaced (codes "coretimeout") (limit_text n)
timeout_alone n e =
    none-some (limit_text n) (same_words (codes "coretimeout") (codes "coretimeout") None (Some (limit_text n)) (word_from_test (codes "coretimeout") refl) (word_from_test (codes "coretimeout") refl) e).1

timeout_no_limit : (n : ℕ) → codes "coretimeout" ≢ limit_text n
timeout_no_limit n e =
    differ (codes "coretimeout") (codes "limit") refl (same_words (codes "coretimeout") (codes "limit") None (Some (decimal n)) (word_from_test (codes "coretimeout") refl) (word_from_test (codes "limit") refl) e).0

both_no_limit : (m n : ℕ) → spaced (codes "coretimeout") (limit_text m) ≢ limit_text n
both_no_limit m n e =
    differ (codes "coretimeout") (codes "limit") refl (same_spaced (codes "coretimeout") (codes "limit") (limit_text m) (decimal n) (word_from_test (codes "coretimeout") refl) (word_from_test (codes "limit") refl) e).0

options_text-injective : (p q : Options) → FitsOptions p → FitsOptions q → options_text p ≡ options_text q → p ≡ q
options_text-injective (false, None) (false, None) x y e = refl
options_text-injective (false, None) (true, None) x y e = absurd (none-some _ e)
options_text-injective (false, None) (false, Some n) x y e = absurd (none-some _ e)
options_text-injective (false, None) (true, Some n) x y e = absurd (none-some _ e)
options_text-injective (true, None) (false, None) x y e = absurd (none-some _ (sym e))
options_text-injective (true, None) (true, None) x y e = refl
options_text-injective (true, None) (false, Some n) x y e = absurd (timeout_no_limit n (same_Some _ _ e))
options_text-injective (true, None) (true, Some n) x y e = absurd (timeout_alone n (same_Some _ _ e))
options_text-injective (false, Some m) (false, None) x y e = absurd (none-some _ (sym e))
options_text-injective (false, Some m) (true, None) x y e = absurd (timeout_no_limit m (sym (same_Some _ _ e)))
options_text-injective (false, Some m) (false, Some n) x y e = ap (λ k. (false, Some k)) (limit_text-injective m n x y (same_Some _ _ e))
options_text-injective (false, Some m) (true, Some n) x y e = absurd (both_no_limit n m (sym (same_Some _ _ e)))
options_text-injective (true, Some m) (false, None) x y e = absurd (none-some _ (sym e))
options_text-injective (true, Some m) (true, None) x y e = absurd (timeout_alone m (sym (same_Some _ _ e)))
options_text-injective (true, Some m) (false, Some n) x y e = absurd (both_no_limit m n (same_Some _ _ e))
options_text-injective (true, Some m) (true, Some n) x y e =
    ap (λ k. (true, Some k)) (limit_text-injective m n x y (behind_word (codes "coretimeout") (limit_text m) (limit_text n) (word_from_test (codes "coretimeout") refl) (same_Some _ _ e)))

policy_is_word : (p : Policy) → IsWord (policy_name p)
policy_is_word policy.Abort = word_from_test (codes "abort") refl
policy_is_word policy.CallerRuns = word_from_test (codes "callerruns") refl
policy_is_word policy.Discard = word_from_test (codes "discard") refl
policy_is_word policy.DiscardOldest = word_from_test (codes "discardoldest") refl
policy_is_word policy.Own = word_from_test (codes "own") refl

policy_word-injective : (p q : Policy) → policy_name p ≡ policy_name q → p ≡ q
policy_word-injective policy.Abort policy.Abort e = refl
policy_word-injective policy.Abort policy.CallerRuns e = absurd (differ (codes "abort") (codes "callerruns") refl e)
policy_word-injective policy.Abort policy.Discard e = absurd (differ (codes "abort") (codes "discard") refl e)
policy_word-injective policy.Abort policy.DiscardOldest e = absurd (differ (codes "abort") (codes "discardoldest") refl e)
policy_word-injective policy.Abort policy.Own e = absurd (differ (codes "abort") (codes "own") refl e)
policy_word-injective policy.CallerRuns policy.Abort e = absurd (differ (codes "callerruns") (codes "abort") refl e)
policy_word-injective policy.CallerRuns policy.CallerRuns e = refl
policy_word-injective policy.CallerRuns policy.Discard e = absurd (differ (codes "callerruns") (codes "discard") refl e)
policy_word-injective policy.CallerRuns policy.DiscardOldest e = absurd (differ (codes "callerruns") (codes "discardoldest") refl e)
policy_word-injective policy.CallerRuns policy.Own e = absurd (differ (codes "callerruns") (codes "own") refl e)
policy_word-injective policy.Discard policy.Abort e = absurd (differ (codes "discard") (codes "abort") refl e)
policy_word-injective policy.Discard policy.CallerRuns e = absurd (differ (codes "discard") (codes "callerruns") refl e)
policy_word-injective policy.Discard policy.Discard e = refl
policy_word-injective policy.Discard policy.DiscardOldest e = absurd (differ (codes "discard") (codes "discardoldest") refl e)
policy_word-injective policy.Discard policy.Own e = absurd (differ (codes "discard") (codes "own") refl e)
policy_word-injective policy.DiscardOldest policy.Abort e = absurd (differ (codes "discardoldest") (codes "abort") refl e)
policy_word-injective policy.DiscardOldest policy.CallerRuns e = absurd (differ (codes "discardoldest") (codes "callerruns") refl e)
policy_word-injective policy.DiscardOldest policy.Discard e = absurd (differ (codes "discardoldest") (codes "discard") refl e)
policy_word-injective policy.DiscardOldest policy.DiscardOldest e = refl
policy_word-injective policy.DiscardOldest policy.Own e = absurd (differ (codes "discardoldest") (codes "own") refl e)
policy_word-injective policy.Own policy.Abort e = absurd (differ (codes "own") (codes "abort") refl e)
policy_word-injective policy.Own policy.CallerRuns e = absurd (differ (codes "own") (codes "callerruns") refl e)
policy_word-injective policy.Own policy.Discard e = absurd (differ (codes "own") (codes "discard") refl e)
policy_word-injective policy.Own policy.DiscardOldest e = absurd (differ (codes "own") (codes "discardoldest") refl e)
policy_word-injective policy.Own policy.Own e = refl

policy_text-injective : (p q : Policy) (x y : Options) → FitsOptions x → FitsOptions y → policy_text (p, x) ≡ policy_text (q, y) → (p ≡ q) × (x ≡ y)
policy_text-injective p q x y f h e =
    let t = same_words (policy_name p) (policy_name q) (options_text x) (options_text y) (policy_is_word p) (policy_is_word q) e in
    (policy_word-injective p q t.0, options_text-injective x y f h t.1)

keep_text-injective : (m n : ℕ) (p q : Policy) (x y : Options) → Fits64 m → Fits64 n → FitsOptions x → FitsOptions y → keep_text (m, (p, x)) ≡ keep_text (n, (q, y)) → (m ≡ n) × (p ≡ q) × (x ≡ y)
keep_text-injective m n p q x y f h i j e =
    let t = behind_number m n (policy_text (p, x)) (policy_text (q, y)) f h (behind_word (codes "keep") _ _ (word_from_test (codes "keep") refl) e) in
    let u = policy_text-injective p q x y i j t.1 in (t.0, u.0, u.1)

-- texts that begin with a queue
behind_queue : (a b : QueueKind) (r q : List ℕ) → FitsQueue a → FitsQueue b → spaced (queue_text a) r ≡ spaced (queue_text b) q → (a ≡ b) × (r ≡ q)
behind_queue Handoff Handoff r q x y e = (refl, behind_word (codes "handoff") r q (word_from_test (codes "handoff") refl) e)
behind_queue Handoff Unbounded r q x y e = absurd (differ (codes "handoff") (codes "unbounded") refl (same_spaced (codes "handoff") (codes "unbounded") r q (word_from_test (codes "handoff") refl) (word_from_test (codes "unbounded") refl) e).0)
behind_queue Handoff (Bounded n) r q x y e = absurd (differ (codes "handoff") (codes "bounded") refl (same_spaced (codes "handoff") (codes "bounded") r (spaced (decimal n) q) (word_from_test (codes "handoff") refl) (word_from_test (codes "bounded") refl) e).0)
behind_queue Handoff Priority r q x y e = absurd (differ (codes "handoff") (codes "priority") refl (same_spaced (codes "handoff") (codes "priority") r q (word_from_test (codes "handoff") refl) (word_from_test (codes "priority") refl) e).0)
behind_queue Unbounded Handoff r q x y e = absurd (differ (codes "unbounded") (codes "handoff") refl (same_spaced (codes "unbounded") (codes "handoff") r q (word_from_test (codes "unbounded") refl) (word_from_test (codes "handoff") refl) e).0)
behind_queue Unbounded Unbounded r q x y e = (refl, behind_word (codes "unbounded") r q (word_from_test (codes "unbounded") refl) e)
behind_queue Unbounded (Bounded n) r q x y e = absurd (differ (codes "unbounded") (codes "bounded") refl (same_spaced (codes "unbounded") (codes "bounded") r (spaced (decimal n) q) (word_from_test (codes "unbounded") refl) (word_from_test (codes "bounded") refl) e).0)
behind_queue Unbounded Priority r q x y e = absurd (differ (codes "unbounded") (codes "priority") refl (same_spaced (codes "unbounded") (codes "priority") r q (word_from_test (codes "unbounded") refl) (word_from_test (codes "priority") refl) e).0)
behind_queue (Bounded m) Handoff r q x y e = absurd (differ (codes "bounded") (codes "handoff") refl (same_spaced (codes "bounded") (codes "handoff") (spaced (decimal m) r) q (word_from_test (codes "bounded") refl) (word_from_test (codes "handoff") refl) e).0)
behind_queue (Bounded m) Unbounded r q x y e = absurd (differ (codes "bounded") (codes "unbounded") refl (same_spaced (codes "bounded") (codes "unbounded") (spaced (decimal m) r) q (word_from_test (codes "bounded") refl) (word_from_test (codes "unbounded") refl) e).0)
behind_queue (Bounded m) (Bounded n) r q x y e =
    let t = behind_number m n r q (omega (arith, x)) (omega (arith, y)) (behind_word (codes "bounded") (spaced (decimal m) r) (spaced (decimal n) q) (word_from_test (codes "bounded") refl) e) in
    (ap Bounded t.0, t.1)
behind_queue (Bounded m) Priority r q x y e = absurd (differ (codes "bounded") (codes "priority") refl (same_spaced (codes "bounded") (codes "priority") (spaced (decimal m) r) q (word_from_test (codes "bounded") refl) (word_from_test (codes "priority") refl) e).0)
behind_queue Priority Handoff r q x y e = absurd (differ (codes "priority") (codes "handoff") refl (same_spaced (codes "priority") (codes "handoff") r q (word_from_test (codes "priority") refl) (word_from_test (codes "handoff") refl) e).0)
behind_queue Priority Unbounded r q x y e = absurd (differ (codes "priority") (codes "unbounded") refl (same_spaced (codes "priority") (codes "unbounded") r q (word_from_test (codes "priority") refl) (word_from_test (codes "unbounded") refl) e).0)
behind_queue Priority (Bounded n) r q x y e = absurd (differ (codes "priority") (codes "bounded") refl (same_spaced (codes "priority") (codes "bounded") r (spaced (decimal n) q) (word_from_test (codes "priority") refl) (word_from_test (codes "bounded") refl) e).0)
behind_queue Priority Priority r q x y e = (refl, behind_word (codes "priority") r q (word_from_test (codes "priority") refl) e)

-- the line that says so
line_of : Sizes → PoolLine
line_of p = record { core = p.0; maximum = p.1.0; queue = p.1.1.0; keep = p.1.1.1.0; policy = p.1.1.1.1.0; core_timeout = p.1.1.1.1.1.0; limit = p.1.1.1.1.1.1 }

same_said : (p q : PoolLine) → FitsPool p → FitsPool q → pool_text p ≡ pool_text q → said p ≡ said q
same_said p q f h e =
    let t = behind_number p.core q.core _ _ (omega (arith, f.0)) (omega (arith, h.0)) (behind_word (codes "pool") (sizes_text (said p)) (sizes_text (said q)) (word_from_test (codes "pool") refl) e) in
    let u = behind_number p.maximum q.maximum _ _ (omega (arith, f.1)) (omega (arith, h.1)) t.1 in
    let v = behind_queue p.queue q.queue _ _ f.2 h.2 u.1 in
    let w = keep_text-injective p.keep q.keep p.policy q.policy (p.core_timeout, p.limit) (q.core_timeout, q.limit) f.3 h.3 f.4 h.4 v.1 in
    cc

-- a pool line is the only one of its text
pub pool_text-injective : (p q : PoolLine) → FitsPool p → FitsPool q → pool_text p ≡ pool_text q → p ≡ q
unfolding line_of
pool_text-injective p q f h e = ap line_of (same_said p q f h e)
