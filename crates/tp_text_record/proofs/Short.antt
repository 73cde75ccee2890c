-- No line of a record is long.
use Rattle.std.proofs.Common.{◌≡◌, ℕ, suc, ◌+◌, ◌*◌, ◌<◌, ◌≤◌, ◌^◌, List, [], ◌∷◌, ◌++◌, length, Bool, true, false, ◌==◌, Option, Some, None, Ok, Err, refl, arith, codes, length-append}
use Rattle.std.proofs.lemmas.Bool.Decides.{nat_tests}
use Rattle.std.specs.Fmt.{decimal}
use Rattle.std.specs.List.{AllByRecursion}
use Rattle.std.proofs.lemmas.Fmt.{length-decimal-le}
use Rattle.tp_types.specs.declared.configs.Config.{Config}
use Rattle.tp_types.specs.declared.configs.Policy.{Policy}
use Rattle.tp_types.specs.declared.configs.Policy.TheVariants as policy
use Rattle.tp_types.specs.declared.configs.QueueKind.{QueueKind}
use Rattle.tp_types.specs.declared.configs.QueueKind.TheVariants.{Handoff, Unbounded, Bounded, Priority}
use Rattle.tp_types.specs.declared.ids.SlotId.{SlotId}
use Rattle.tp_types.specs.declared.tasks.Kind.{Kind}
use Rattle.tp_types.specs.declared.tasks.Kind.TheVariants as kinds
use Rattle.tp_types.specs.Policy.{policy_name}
use Rattle.tp_record.specs.declared.entries.Did.{Did}
use Rattle.tp_record.specs.declared.entries.Did.TheVariants as did
use Rattle.tp_record.specs.declared.entries.Entry.{Entry}
use Rattle.tp_record.specs.declared.entries.Failed.{Failed}
use Rattle.tp_record.specs.declared.entries.Failed.TheVariants as failed
use Rattle.tp_record.specs.declared.entries.Grown.{Grown}
use Rattle.tp_record.specs.declared.entries.Grown.TheVariants as grown
use Rattle.tp_record.specs.declared.entries.Looked.{Looked}
use Rattle.tp_record.specs.declared.entries.Looked.TheVariants as looked
use Rattle.tp_record.specs.declared.entries.Offered.{Offered}
use Rattle.tp_record.specs.declared.entries.Offered.TheVariants as offered
use Rattle.tp_record.specs.declared.entries.Opened.{Opened}
use Rattle.tp_record.specs.declared.entries.Opened.TheVariants as opened
use Rattle.tp_record.specs.declared.entries.Ruled.{Ruled}
use Rattle.tp_record.specs.declared.entries.Ruled.TheVariants as ruled
use Rattle.tp_record.specs.declared.entries.Seconded.{Seconded}
use Rattle.tp_record.specs.declared.entries.Seconded.TheVariants as seconded
use Rattle.tp_record.specs.declared.entries.Started.{Started}
use Rattle.tp_record.specs.declared.entries.Started.TheVariants as started
use Rattle.tp_record.specs.declared.entries.Took.{Took}
use Rattle.tp_record.specs.declared.entries.Took.TheVariants as took
use Rattle.tp_record.specs.Effects.{Outcome}
use Rattle.tp_text.specs.declared.pools.PoolLine.{PoolLine}
use Rattle.tp_text.specs.EntryLine.{words, kind_words, priority_words, outcome_words, looked_words, offered_words, seconded_words, grown_words, ruled_words, opened_words, failed_words, took_words, started_words, reserved_words, flag_words, argument_words, did_words, pass_words, entry_words}
use Rattle.tp_text.specs.Fits.{Fits32}
use Rattle.tp_text.specs.Pools.{FitsOptions, FitsPool, FitsQueue, Options, keep_text, options_text, policy_text, pool_text, queue_text, said, sizes_text, waiting_text}
use Rattle.tp_text.specs.Reads.{followed, spaced}
use Rattle.tp_text_record.specs.declared.versions.Version.{Version}
use Rattle.tp_text_record.specs.declared.versions.Version.TheVariants as version
use Rattle.tp_text_record.specs.EntryFits.{HasLine, IsStep}
use Rattle.tp_text_record.specs.RecordText.{HasPoolLine, HasText, end_line, entry_text, entry_texts, header, pool_line, record_lines, written}
use Rattle.tp_text_record.proofs.Pieces.{Pieces, entry_pieces}

-- entries: as many words as these, none of more than 21 bytes

kind_count : (k : Kind) → length (kind_words k) ≤ 2
kind_count kinds.Plain = omega arith
kind_count kinds.Future = omega arith
kind_count (kinds.Group g) = omega arith

priority_count : (p : ℕ) (b : Bool) → (p == 0) ≡ b → length (priority_words p) ≤ 2
priority_count p true is = rw is (omega arith)
priority_count p false is = rw is (omega arith)

outcome_count : (o : Outcome) → length (outcome_words o) ≤ 2
outcome_count (Ok v) = omega arith
outcome_count (Err n) = omega arith

reserved_count : (o : Option SlotId) → length (reserved_words o) ≤ 2
reserved_count None = omega arith
reserved_count (Some w) = omega arith

flag_count : (flag effect : Bool) → length (flag_words flag effect) ≤ 2
flag_count true effect = omega arith
flag_count false effect = omega arith

looked_count : (x : Looked) → length (looked_words x) ≤ 2
looked_count (looked.Reserve w) = omega arith
looked_count looked.Queue = omega arith
looked_count looked.Refuse = omega arith

offered_count : (x : Offered) → length (offered_words x) ≤ 2
offered_count offered.Queued = omega arith
offered_count (offered.Hand w) = omega arith
offered_count offered.Full = omega arith

seconded_count : (x : Seconded) → length (seconded_words x) ≤ 3
seconded_count seconded.Stay = omega arith
seconded_count (seconded.StayReserve w) = omega arith
seconded_count seconded.Back = omega arith

grown_count : (x : Grown) → length (grown_words x) ≤ 2
grown_count (grown.Reserve w) = omega arith
grown_count grown.Refuse = omega arith

ruled_count : (x : Ruled) → length (ruled_words x) ≤ 3
ruled_count ruled.Rejected = omega arith
ruled_count ruled.Caller = omega arith
ruled_count ruled.Skip = omega arith
ruled_count ruled.Discarded = omega arith
ruled_count ruled.Retry = omega arith
ruled_count (ruled.RetryDrop t) = omega arith

opened_count : (x : Opened) → length (opened_words x) ≤ 3
opened_count opened.Live = omega arith
opened_count opened.GivenUp = omega arith
opened_count (opened.GivenUpRefuse t) = omega arith

failed_count : (x : Failed) → length (failed_words x) ≤ 2
failed_count failed.Nothing = omega arith
failed_count (failed.Offer t) = omega arith
failed_count (failed.Refuse t) = omega arith

took_count : (x : Took) → length (took_words x) ≤ 2
took_count (took.Held t) = omega arith
took_count (took.Head t) = omega arith
took_count took.Leave = omega arith
took_count took.Idle = omega arith

started_count : (x : Started) → length (started_words x) ≤ 2
started_count (started.Run t) = omega arith
started_count (started.Skip t) = omega arith

argument_count : (d : Did) → length (argument_words d) ≤ 7
argument_count (did.Submit t k p l) =
    omega (arith, length-append (kind_words k) (priority_words p ++ looked_words l), length-append (priority_words p) (looked_words l), kind_count k, priority_count p (p == 0) refl, looked_count l)
argument_count (did.Look t l) = omega (arith, looked_count l)
argument_count (did.Offer t l) = omega (arith, offered_count l)
argument_count (did.Second t l) = omega (arith, seconded_count l)
argument_count (did.Grow t l) = omega (arith, grown_count l)
argument_count (did.CallerEnd t l) = omega (arith, outcome_count l)
argument_count (did.Verdict t v r) = omega (arith, ruled_count r)
argument_count (did.Open w o) = omega (arith, opened_count o)
argument_count (did.Fail w o) = omega (arith, failed_count o)
argument_count (did.Take w o) = omega (arith, took_count o)
argument_count (did.Begin w o) = omega (arith, started_count o)
argument_count (did.Leave w o) = omega (arith, reserved_count o)
argument_count (did.End w t o) = omega (arith, outcome_count o)
argument_count (did.Cancel t flag e) = omega (arith, flag_count flag e)
argument_count _ = grind (arith, nat_tests)

pass_count : (by : ℕ) (b : Bool) → (by == 0) ≡ b → length (pass_words by) ≤ 1
pass_count by true is = rw is (omega arith)
pass_count by false is = rw is (omega arith)

entry_count : (n : ℕ) (e : Entry) → length (entry_words n e) ≤ 10
entry_count n e = omega (arith, length-append (pass_words e.by) (did_words e.did), pass_count e.by (e.by == 0) refl, argument_count e.did)

words_short : (w : List ℕ) (ws : List (List ℕ)) → Pieces (w ∷ ws) → length (words (w ∷ ws)) + 1 ≤ 22 * length (w ∷ ws)
words_short w [] are = omega (arith, are.0.short)
words_short w (v ∷ vs) are = omega (arith, are.0.short, words_short v vs are.1, length-append w (32 ∷ words (v ∷ vs)))

abbrev IsShort : List ℕ → Type 0
IsShort line = length line ≤ 256

entry_short : (n : ℕ) (e : Entry) → Fits32 n → HasLine e → IsShort (entry_text n e)
entry_short n e number step =
    omega (arith, words_short (decimal n) (pass_words e.by ++ did_words e.did) (entry_pieces n e number step.0 step.1), entry_count n e)

-- the other lines

spaced_short : (v w : List ℕ) (a b : ℕ) → length v ≤ a → length w ≤ b → length (spaced v w) ≤ a + b + 1
spaced_short v w a b x y = omega (arith, x, y, length-append v (32 ∷ w))

number_short : (n : ℕ) → n < 2 ^ 64 → length (decimal n) ≤ 20
number_short n small = length-decimal-le 20 n (omega arith) (omega (arith, small)) small

policy_short : (p : Policy) → length (policy_name p) ≤ 13
policy_short policy.Abort = omega arith
policy_short policy.CallerRuns = omega arith
policy_short policy.Discard = omega arith
policy_short policy.DiscardOldest = omega arith
policy_short policy.Own = omega arith

limit_short : (n : ℕ) → Fits32 n → length (spaced (codes "limit") (decimal n)) ≤ 26
limit_short n fits = spaced_short (codes "limit") (decimal n) 5 20 (omega arith) (number_short n (omega (arith, fits)))

options_short : (o : Options) (w : List ℕ) → FitsOptions o → length w ≤ 13 → length (followed w (options_text o)) ≤ 52
options_short (false, None) w fits x = omega (arith, x)
options_short (true, None) w fits x = let all = spaced_short w (codes "coretimeout") 13 11 x (omega arith) in omega (arith, all)
options_short (false, Some n) w fits x = let all = spaced_short w (spaced (codes "limit") (decimal n)) 13 26 x (limit_short n fits) in omega (arith, all)
options_short (true, Some n) w fits x =
    let more = spaced_short (codes "coretimeout") (spaced (codes "limit") (decimal n)) 11 26 (omega arith) (limit_short n fits) in
    let all = spaced_short w (spaced (codes "coretimeout") (spaced (codes "limit") (decimal n))) 13 38 x more in
    omega (arith, all)

queue_short : (q : QueueKind) → FitsQueue q → length (queue_text q) ≤ 28
queue_short Handoff fits = omega arith
queue_short Unbounded fits = omega arith
queue_short Priority fits = omega arith
queue_short (Bounded n) fits = spaced_short (codes "bounded") (decimal n) 7 20 (omega arith) (number_short n (omega (arith, fits)))

pool_short : (p : PoolLine) → FitsPool p → IsShort (pool_text p)
pool_short p fits =
    let s = said p in
    let policy = options_short s.1.1.1.1.1 (policy_name s.1.1.1.1.0) fits.4 (policy_short s.1.1.1.1.0) in
    let ticks = spaced_short (decimal s.1.1.1.0) (policy_text s.1.1.1.1) 20 52 (number_short s.1.1.1.0 fits.3) policy in
    let keep = spaced_short (codes "keep") (spaced (decimal s.1.1.1.0) (policy_text s.1.1.1.1)) 4 73 (omega arith) ticks in
    let waiting = spaced_short (queue_text s.1.1.0) (keep_text s.1.1.1) 28 78 (queue_short s.1.1.0 fits.2) keep in
    let maximum = spaced_short (decimal s.1.0) (waiting_text s.1.1) 20 107 (number_short s.1.0 (omega (arith, fits.1))) waiting in
    let sizes = spaced_short (decimal s.0) (spaced (decimal s.1.0) (waiting_text s.1.1)) 20 128 (number_short s.0 (omega (arith, fits.0))) maximum in
    let all = spaced_short (codes "pool") (sizes_text s) 4 149 (omega arith) sizes in
    omega (arith, all)

pub pool_line-short : (c : Config) → HasPoolLine c → IsShort (pool_line c)
pool_line-short c fits = pool_short (written c) fits.0

pub header-short : (v : Version) → IsShort (header v)
header-short version.One = omega arith
header-short version.Two = omega arith

end_short : (n : ℕ) → Fits32 n → IsShort (end_line n)
end_short n fits = let all = spaced_short (codes "end") (decimal n) 3 20 (omega arith) (number_short n (omega (arith, fits))) in omega (arith, all)

body_short : (v : Version) (n m : ℕ) (es : List Entry) → Fits32 m → n + length es < 2 ^ 32 → AllByRecursion (IsStep v) es → AllByRecursion (λ l. length l ≤ 256) (entry_texts (suc n) es ++ end_line m ∷ [])
body_short v n m [] end small steps = (end_short m end, tt)
body_short v n m (e ∷ es) end small steps = (entry_short (suc n) e (omega (arith, small)) steps.0.0, body_short v (suc n) m es end (omega (arith, small)) steps.1)

-- no line of a record has more than 256 bytes
pub record_lines-short : (v : Version) (c : Config) (es : List Entry) → HasText v c es → AllByRecursion (λ l. length l ≤ 256) (record_lines v c es)
record_lines-short v c es has =
    (header-short v, (pool_line-short c has.config.0, body_short v 0 (length es) es has.count (omega (arith, has.count)) has.steps))
