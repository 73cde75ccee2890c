-- The lines of a record text.
use Rattle.std.proofs.Common.{◌≡◌, ℕ, suc, ◌+◌, ◌<◌, ◌^◌, List, [], ◌∷◌, ◌++◌, length, true, false, not, ◌&&◌, ◌==◌, Some, None, refl, arith, codes}
use Rattle.std.specs.Fmt.{decimal}
use Rattle.std.specs.List.{AllByRecursion, list_all}
use Rattle.std.specs.Prelude.{nat_lt}
use Rattle.std.specs.Str.{IsAscii}
use Rattle.std.proofs.lemmas.Str.{IsAscii-append}
use Rattle.tp_types.specs.declared.configs.Config.{Config}
use Rattle.tp_types.specs.declared.configs.Policy.{Policy}
use Rattle.tp_types.specs.declared.configs.Policy.TheVariants as policy
use Rattle.tp_types.specs.declared.configs.QueueKind.{QueueKind}
use Rattle.tp_types.specs.declared.configs.QueueKind.TheVariants.{Handoff, Unbounded, Bounded, Priority}
use Rattle.tp_types.specs.Policy.{policy_name}
use Rattle.tp_record.specs.declared.entries.Entry.{Entry}
use Rattle.tp_text.specs.declared.pools.PoolLine.{PoolLine}
use Rattle.tp_text.specs.EntryLine.{words, did_words, pass_words}
use Rattle.tp_text.specs.Fits.{Fits32}
use Rattle.tp_text.specs.Lines.{HasNoLineFeed}
use Rattle.tp_text.specs.Pools.{FitsOptions, FitsPool, FitsQueue, Options, keep_text, options_text, policy_text, pool_text, queue_text, said, sizes_text, waiting_text}
use Rattle.tp_text.specs.Reads.{followed, spaced}
use Rattle.tp_text.proofs.LineSplits.{single-append, single_from_test}
use Rattle.tp_text.proofs.WordSplits.{differ}
use Rattle.tp_text_record.specs.declared.versions.Version.{Version}
use Rattle.tp_text_record.specs.declared.versions.Version.TheVariants as version
use Rattle.tp_text_record.specs.EntryFits.{HasLine, IsStep}
use Rattle.tp_text_record.specs.RecordText.{HasPoolLine, HasText, end_line, entry_text, entry_texts, header, pool_line, record_lines, written}
use Rattle.tp_text_record.proofs.Pieces.{IsPiece, Pieces, code, entry_pieces, number_piece, space_ascii, words_are_ascii}

-- ASCII without a line feed
pub record IsPlainLine (w : List ℕ) : Type 0 where
  pub ascii : IsAscii w
  pub single : HasNoLineFeed w

of_piece : (w : List ℕ) → IsPiece w → IsPlainLine w
of_piece w is = record { ascii = is.ascii; single = is.single }

joined : (v w : List ℕ) → IsPlainLine v → IsPlainLine w → IsPlainLine (v ++ w)
joined v w x y = record { ascii = IsAscii-append v w x.ascii y.ascii; single = single-append v w x.single y.single }

a_space : IsPlainLine (32 ∷ [])
a_space = record { ascii = space_ascii; single = single_from_test (32 ∷ []) refl }

behind_space : (w : List ℕ) → IsPlainLine w → IsPlainLine (32 ∷ w)
behind_space w x = joined (32 ∷ []) w a_space x

spaced_plain : (v w : List ℕ) → IsPlainLine v → IsPlainLine w → IsPlainLine (spaced v w)
spaced_plain v w x y = joined v (32 ∷ w) x (behind_space w y)

number_plain : (n : ℕ) → n < 2 ^ 64 → IsPlainLine (decimal n)
number_plain n small = of_piece (decimal n) (number_piece n small)

word_plain : (w : List ℕ) → list_all (λ b. not (b == 32) && nat_lt b 128) w ≡ true → list_all (λ b. not (b == 10)) w ≡ true → nat_lt (length w) 22 ≡ true → IsPlainLine w
word_plain w test feeds few = of_piece w (code w test feeds few)

-- pool lines

policy_plain : (p : Policy) → IsPlainLine (policy_name p)
policy_plain policy.Abort = word_plain (codes "abort") refl refl refl
policy_plain policy.CallerRuns = word_plain (codes "callerruns") refl refl refl
policy_plain policy.Discard = word_plain (codes "discard") refl refl refl
policy_plain policy.DiscardOldest = word_plain (codes "discardoldest") refl refl refl
policy_plain policy.Own = word_plain (codes "own") refl refl refl

limit_plain : (n : ℕ) → Fits32 n → IsPlainLine (spaced (codes "limit") (decimal n))
limit_plain n fits = spaced_plain (codes "limit") (decimal n) (word_plain (codes "limit") refl refl refl) (number_plain n (omega (arith, fits)))

options_plain : (o : Options) (w : List ℕ) → FitsOptions o → IsPlainLine w → IsPlainLine (followed w (options_text o))
options_plain (false, None) w fits x = x
options_plain (true, None) w fits x = spaced_plain w (codes "coretimeout") x (word_plain (codes "coretimeout") refl refl refl)
options_plain (false, Some n) w fits x = spaced_plain w (spaced (codes "limit") (decimal n)) x (limit_plain n fits)
options_plain (true, Some n) w fits x =
    spaced_plain w (spaced (codes "coretimeout") (spaced (codes "limit") (decimal n))) x
    (spaced_plain (codes "coretimeout") (spaced (codes "limit") (decimal n)) (word_plain (codes "coretimeout") refl refl refl) (limit_plain n fits))

queue_plain : (q : QueueKind) → FitsQueue q → IsPlainLine (queue_text q)
queue_plain Handoff fits = word_plain (codes "handoff") refl refl refl
queue_plain Unbounded fits = word_plain (codes "unbounded") refl refl refl
queue_plain Priority fits = word_plain (codes "priority") refl refl refl
queue_plain (Bounded n) fits = spaced_plain (codes "bounded") (decimal n) (word_plain (codes "bounded") refl refl refl) (number_plain n (omega (arith, fits)))

pool_plain : (p : PoolLine) → FitsPool p → IsPlainLine (pool_text p)
pool_plain p fits =
    let s = said p in
    let policy = options_plain s.1.1.1.1.1 (policy_name s.1.1.1.1.0) fits.4 (policy_plain s.1.1.1.1.0) in
    let keep = spaced_plain (codes "keep") (spaced (decimal s.1.1.1.0) (policy_text s.1.1.1.1)) (word_plain (codes "keep") refl refl refl) (spaced_plain (decimal s.1.1.1.0) (policy_text s.1.1.1.1) (number_plain s.1.1.1.0 fits.3) policy) in
    let waiting = spaced_plain (queue_text s.1.1.0) (keep_text s.1.1.1) (queue_plain s.1.1.0 fits.2) keep in
    let sizes = spaced_plain (decimal s.0) (spaced (decimal s.1.0) (waiting_text s.1.1)) (number_plain s.0 (omega (arith, fits.0))) (spaced_plain (decimal s.1.0) (waiting_text s.1.1) (number_plain s.1.0 (omega (arith, fits.1))) waiting) in
    spaced_plain (codes "pool") (sizes_text s) (word_plain (codes "pool") refl refl refl) sizes

pub pool_line-plain : (c : Config) → HasPoolLine c → IsPlainLine (pool_line c)
pool_line-plain c fits = pool_plain (written c) fits.0

-- the other lines

pub header-plain : (v : Version) → IsPlainLine (header v)
header-plain version.One = spaced_plain (codes "tprecord") (codes "1") (word_plain (codes "tprecord") refl refl refl) (word_plain (codes "1") refl refl refl)
header-plain version.Two = spaced_plain (codes "tprecord") (codes "2") (word_plain (codes "tprecord") refl refl refl) (word_plain (codes "2") refl refl refl)

-- no line begins a text of both forms
pub header-injective : (v w : Version) → header v ≡ header w → v ≡ w
header-injective version.One version.One same = refl
header-injective version.One version.Two same = absurd (differ (codes "tprecord 1") (codes "tprecord 2") refl same)
header-injective version.Two version.One same = absurd (differ (codes "tprecord 2") (codes "tprecord 1") refl same)
header-injective version.Two version.Two same = refl

pub end_line-plain : (n : ℕ) → Fits32 n → IsPlainLine (end_line n)
end_line-plain n fits = spaced_plain (codes "end") (decimal n) (word_plain (codes "end") refl refl refl) (number_plain n (omega (arith, fits)))

words_single : (w : List ℕ) (ws : List (List ℕ)) → Pieces (w ∷ ws) → HasNoLineFeed (words (w ∷ ws))
words_single w [] are = are.0.single
words_single w (v ∷ vs) are = single-append w (32 ∷ words (v ∷ vs)) are.0.single (single-append (32 ∷ []) (words (v ∷ vs)) a_space.single (words_single v vs are.1))

pub entry_text-plain : (n : ℕ) (e : Entry) → Fits32 n → HasLine e → IsPlainLine (entry_text n e)
entry_text-plain n e number step =
    let pieces = entry_pieces n e number step.0 step.1 in
    let behind = pass_words e.by ++ did_words e.did in
    record { ascii = words_are_ascii (decimal n) behind pieces; single = words_single (decimal n) behind pieces }

body_single : (v : Version) (n m : ℕ) (es : List Entry) → Fits32 m → n + length es < 2 ^ 32 → AllByRecursion (IsStep v) es → AllByRecursion HasNoLineFeed (entry_texts (suc n) es ++ end_line m ∷ [])
body_single v n m [] end small steps = ((end_line-plain m end).single, tt)
body_single v n m (e ∷ es) end small steps = ((entry_text-plain (suc n) e (omega (arith, small)) steps.0.0).single, body_single v (suc n) m es end (omega (arith, small)) steps.1)

-- no line of a record text has a line feed
pub record_lines-single : (v : Version) (c : Config) (es : List Entry) → HasText v c es → AllByRecursion HasNoLineFeed (record_lines v c es)
record_lines-single v c es has =
    ((header-plain v).single, ((pool_line-plain c has.config.0).single, body_single v 0 (length es) es has.count (omega (arith, has.count)) has.steps))
