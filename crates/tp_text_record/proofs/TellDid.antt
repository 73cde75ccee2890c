-- What was done is told from its words: a way back from the words of each answer.
use Rattle.std.proofs.Common.{◌≡◌, ◌≢◌, ℕ, suc, ◌<◌, ◌^◌, ◌-◌, List, [], ◌∷◌, ◌++◌, get_or, Bool, true, false, ◌==◌, Option, Some, None, Ok, Err, refl, sym, ◌∙◌, ap, arith, codes, if◌then◌else◌, inl, inr}
use Rattle.std.specs.Prelude.{ℤ, pos, negsuc}
use Rattle.std.specs.Fmt.{decimal, signed_decimal}
use Rattle.std.specs.Str.{bytes_eq}
use Rattle.std.specs.Str.Parse.{digits_value}
use Rattle.std.proofs.lemmas.Bool.Decides.{eqb_tells}
use Rattle.std.proofs.lemmas.Fmt.{decimal_nonempty, digits_decimal, digits_value-decimal}
use Rattle.std.proofs.lemmas.Str.Parse.{not_in_digits}
use Rattle.tp_types.specs.declared.configs.Verdict.{Verdict}
use Rattle.tp_types.specs.declared.configs.Verdict.TheVariants as verdict
use Rattle.tp_types.specs.declared.ids.SlotId.{SlotId}
use Rattle.tp_types.specs.declared.ids.TaskId.{TaskId}
use Rattle.tp_types.specs.declared.tasks.Kind.{Kind}
use Rattle.tp_types.specs.declared.tasks.Kind.TheVariants as kinds
use Rattle.tp_types.specs.Verdict.{verdict_name}
use Rattle.tp_record.specs.declared.entries.Did.{Did}
use Rattle.tp_record.specs.declared.entries.Did.TheVariants as did
use Rattle.tp_record.specs.declared.entries.Failed.{Failed}
use Rattle.tp_record.specs.declared.entries.Failed.TheVariants as failed
use Rattle.tp_record.specs.declared.entries.Grown.{Grown}
use Rattle.tp_record.specs.declared.entries.Grown.TheVariants as grown
use Rattle.tp_record.specs.declared.entries.Looked.{Looked}
use Rattle.tp_record.specs.declared.entries.Looked.TheVariants as looked
use Rattle.tp_record.specs.declared.entries.Offered.{Offered}
use Rattle.tp_record.specs.declared.entries.Offered.TheVariants as offered
use Rattle.tp_record.specs.declared.entries.Opened.{Opened}
use Rattle.tp_record.specs.declared.entries.Opened.TheVariants as opened
use Rattle.tp_record.specs.declared.entries.Ruled.{Ruled}
use Rattle.tp_record.specs.declared.entries.Ruled.TheVariants as ruled
use Rattle.tp_record.specs.declared.entries.Seconded.{Seconded}
use Rattle.tp_record.specs.declared.entries.Seconded.TheVariants as seconded
use Rattle.tp_record.specs.declared.entries.Started.{Started}
use Rattle.tp_record.specs.declared.entries.Started.TheVariants as started
use Rattle.tp_record.specs.declared.entries.Took.{Took}
use Rattle.tp_record.specs.declared.entries.Took.TheVariants as took
use Rattle.tp_record.specs.Effects.{Outcome}
use Rattle.tp_text.specs.declared.commands.Command.{Command}
use Rattle.tp_text.specs.declared.commands.Command.TheVariants as command
use Rattle.tp_text.specs.declared.commands.TaskVerb.TheVariants as task
use Rattle.tp_text.specs.declared.commands.SlotVerb.TheVariants as slot
use Rattle.tp_text.specs.declared.commands.PoolVerb.TheVariants as pool
use Rattle.tp_text.specs.declared.commands.SizeVerb.TheVariants as size
use Rattle.tp_text.specs.declared.commands.TickVerb.TheVariants as ticks
use Rattle.tp_text.specs.Commands.{command_word}
use Rattle.tp_text.specs.EntryLine.{task_name, slot_name, effect_word, switch_word, kind_words, priority_words, outcome_words, looked_words, offered_words, seconded_words, grown_words, ruled_words, opened_words, failed_words, took_words, started_words, reserved_words, prestart_words, flag_words, command_of, argument_words, did_words}
use Rattle.tp_text.specs.Fits.{Fits32, Fits64, FitsKind, FitsOutcome, FitsValue}
use Rattle.tp_text.proofs.CommandWords.{command_word-injective}
use Rattle.tp_text.proofs.NumberTexts.{own}
use Rattle.tp_text_record.specs.EntryFits.{FitsTask, FitsSlot, FitsLooked, FitsOffered, FitsSeconded, FitsGrown, FitsRuled, FitsOpened, FitsFailed, FitsTook, FitsStarted, FitsReserved, FitsDid}
use Rattle.tp_text_record.proofs.AnswerLaws.{priority_unwritten, priority_written}

-- the value beside the word in the table, else the other
among : {V : Type 0} → V → List (List ℕ × V) → List ℕ → V
among other [] w = other
among other (p ∷ ps) w = if bytes_eq w p.0 then p.1 else among other ps w

-- a function of two equals is the same
two : {A B C : Type 0} (f : A → B → C) {a x : A} {b y : B} → a ≡ x → b ≡ y → f a b ≡ f x y
two f {a} {x} {b} {y} p q = ap (λ v. f v b) p ∙ ap (λ v. f x v) q

-- numbers

number_of : List ℕ → ℕ
number_of ds = digits_value 10 ds

back_number : (n : ℕ) → Fits64 n → number_of (decimal n) ≡ n
unfolding number_of
back_number n small = digits_value-decimal own n small

-- behind a letter
marked_of : List ℕ → ℕ
marked_of [] = 0
marked_of (b ∷ ds) = number_of ds

task_of : List ℕ → TaskId
task_of w = record { 0 = marked_of w }

slot_of : List ℕ → SlotId
slot_of w = record { 0 = marked_of w }

numbered_task : ℕ → TaskId
numbered_task n = record { 0 = n }

numbered_slot : ℕ → SlotId
numbered_slot n = record { 0 = n }

back_task : (t : TaskId) → FitsTask t → task_of (task_name t) ≡ t
unfolding task_of marked_of numbered_task
back_task t fits = ap numbered_task (back_number t.0 (omega (arith, fits)))

back_slot : (w : SlotId) → FitsSlot w → slot_of (slot_name w) ≡ w
unfolding slot_of marked_of numbered_slot
back_slot w fits = ap numbered_slot (back_number w.0 fits)

value_of : List ℕ → ℤ
value_of w = if get_or w 0 0 == 45 then negsuc (marked_of w - 1) else pos (number_of w)

no_minus : (n : ℕ) → n < 2 ^ 64 → get_or (decimal n) 0 0 ≢ 45
no_minus n small = not_in_digits own (decimal n) 45 (digits_decimal own n small) (λ r. absurd (omega arith)) 0 (decimal_nonempty n small)

positive : (w : List ℕ) → get_or w 0 0 ≢ 45 → value_of w ≡ pos (number_of w)
unfolding value_of
positive w none = elim (eqb_tells (get_or w 0 0) 45) [ inl p ↦ absurd (none p.1) | inr p ↦ rw p.0 refl ]

one_less : (k n : ℕ) → k ≡ suc n → k - 1 ≡ n
one_less k n e = omega (arith, e)

back_value : (v : ℤ) → FitsValue v → value_of (signed_decimal v) ≡ v
unfolding value_of marked_of
back_value (pos n) fits = positive (decimal n) (no_minus n (omega arith)) ∙ ap pos (back_number n (omega arith))
back_value (negsuc n) fits = ap negsuc (one_less (number_of (decimal (suc n))) n (back_number (suc n) (omega arith)))

-- words that stand for a choice

effect_of : List ℕ → Bool
effect_of w = among false ((codes "yes", true) ∷ []) w

back_effect : (b : Bool) → effect_of (effect_word b) ≡ b
unfolding effect_of among
back_effect true = refl
back_effect false = refl

switch_of : List ℕ → Bool
switch_of w = among false ((codes "on", true) ∷ []) w

back_switch : (b : Bool) → switch_of (switch_word b) ≡ b
unfolding switch_of among
back_switch true = refl
back_switch false = refl

verdict_of : List ℕ → Verdict
verdict_of w = among verdict.Abort ((codes "callerruns", verdict.CallerRuns) ∷ (codes "discard", verdict.Discard) ∷ (codes "discardoldest", verdict.DiscardOldest) ∷ []) w

back_verdict : (v : Verdict) → verdict_of (verdict_name v) ≡ v
unfolding verdict_of among
back_verdict verdict.Abort = refl
back_verdict verdict.CallerRuns = refl
back_verdict verdict.Discard = refl
back_verdict verdict.DiscardOldest = refl

-- answers

reserved_of : List (List ℕ) → Option SlotId
reserved_of (w ∷ v ∷ ws) = Some (slot_of v)
reserved_of ws = None

back_reserved : (o : Option SlotId) → FitsReserved o → reserved_of (reserved_words o) ≡ o
unfolding reserved_of
back_reserved None fits = refl
back_reserved (Some w) fits = ap Some (back_slot w fits)

back_prestart : (o : Option SlotId) → FitsReserved o → reserved_of (prestart_words o) ≡ o
unfolding reserved_of
back_prestart None fits = refl
back_prestart (Some w) fits = ap Some (back_slot w fits)

looked_of : List (List ℕ) → Looked
looked_of (w ∷ v ∷ ws) = looked.Reserve (slot_of v)
looked_of (w ∷ []) = among looked.Refuse ((codes "queue", looked.Queue) ∷ []) w
looked_of [] = looked.Refuse

back_looked : (x : Looked) → FitsLooked x → looked_of (looked_words x) ≡ x
unfolding looked_of among
back_looked (looked.Reserve w) fits = ap looked.Reserve (back_slot w fits)
back_looked looked.Queue fits = refl
back_looked looked.Refuse fits = refl

offered_of : List (List ℕ) → Offered
offered_of (w ∷ v ∷ ws) = offered.Hand (slot_of v)
offered_of (w ∷ []) = among offered.Full ((codes "queued", offered.Queued) ∷ []) w
offered_of [] = offered.Full

back_offered : (x : Offered) → FitsOffered x → offered_of (offered_words x) ≡ x
unfolding offered_of among
back_offered offered.Queued fits = refl
back_offered (offered.Hand w) fits = ap offered.Hand (back_slot w fits)
back_offered offered.Full fits = refl

seconded_of : List (List ℕ) → Seconded
seconded_of (w ∷ v ∷ u ∷ ws) = seconded.StayReserve (slot_of u)
seconded_of (w ∷ ws) = among seconded.Stay ((codes "back", seconded.Back) ∷ []) w
seconded_of [] = seconded.Stay

back_seconded : (x : Seconded) → FitsSeconded x → seconded_of (seconded_words x) ≡ x
unfolding seconded_of among
back_seconded seconded.Stay fits = refl
back_seconded (seconded.StayReserve w) fits = ap seconded.StayReserve (back_slot w fits)
back_seconded seconded.Back fits = refl

grown_of : List (List ℕ) → Grown
grown_of (w ∷ v ∷ ws) = grown.Reserve (slot_of v)
grown_of ws = grown.Refuse

back_grown : (x : Grown) → FitsGrown x → grown_of (grown_words x) ≡ x
unfolding grown_of
back_grown (grown.Reserve w) fits = ap grown.Reserve (back_slot w fits)
back_grown grown.Refuse fits = refl

ruled_of : List (List ℕ) → Ruled
ruled_of (w ∷ v ∷ u ∷ ws) = ruled.RetryDrop (task_of u)
ruled_of (w ∷ ws) = among ruled.Retry ((codes "rejected", ruled.Rejected) ∷ (codes "caller", ruled.Caller) ∷ (codes "skip", ruled.Skip) ∷ (codes "discarded", ruled.Discarded) ∷ []) w
ruled_of [] = ruled.Retry

back_ruled : (x : Ruled) → FitsRuled x → ruled_of (ruled_words x) ≡ x
unfolding ruled_of among
back_ruled ruled.Rejected fits = refl
back_ruled ruled.Caller fits = refl
back_ruled ruled.Skip fits = refl
back_ruled ruled.Discarded fits = refl
back_ruled ruled.Retry fits = refl
back_ruled (ruled.RetryDrop t) fits = ap ruled.RetryDrop (back_task t fits)

opened_of : List (List ℕ) → Opened
opened_of (w ∷ v ∷ ws) = opened.GivenUpRefuse (task_of v)
opened_of (w ∷ []) = among opened.GivenUp ((codes "live", opened.Live) ∷ []) w
opened_of [] = opened.GivenUp

back_opened : (x : Opened) → FitsOpened x → opened_of (opened_words x) ≡ x
unfolding opened_of among
back_opened opened.Live fits = refl
back_opened opened.GivenUp fits = refl
back_opened (opened.GivenUpRefuse t) fits = ap opened.GivenUpRefuse (back_task t fits)

failed_of : List (List ℕ) → Failed
failed_of (w ∷ v ∷ ws) = among (failed.Refuse (task_of w)) ((codes "offer", failed.Offer (task_of w)) ∷ []) v
failed_of ws = failed.Nothing

back_failed : (x : Failed) → FitsFailed x → failed_of (failed_words x) ≡ x
unfolding failed_of among
back_failed failed.Nothing fits = refl
back_failed (failed.Offer t) fits = ap failed.Offer (back_task t fits)
back_failed (failed.Refuse t) fits = ap failed.Refuse (back_task t fits)

took_of : List (List ℕ) → Took
took_of (w ∷ v ∷ ws) = among (took.Head (task_of v)) ((codes "held", took.Held (task_of v)) ∷ []) w
took_of (w ∷ []) = among took.Idle ((codes "leave", took.Leave) ∷ []) w
took_of [] = took.Idle

back_took : (x : Took) → FitsTook x → took_of (took_words x) ≡ x
unfolding took_of among
back_took (took.Held t) fits = ap took.Held (back_task t fits)
back_took (took.Head t) fits = ap took.Head (back_task t fits)
back_took took.Leave fits = refl
back_took took.Idle fits = refl

started_of : List (List ℕ) → Started
started_of (w ∷ v ∷ ws) = started.Skip (task_of v)
started_of (w ∷ []) = started.Run (task_of w)
started_of [] = started.Run (task_of [])

back_started : (x : Started) → FitsStarted x → started_of (started_words x) ≡ x
unfolding started_of
back_started (started.Run t) fits = ap started.Run (back_task t fits)
back_started (started.Skip t) fits = ap started.Skip (back_task t fits)

outcome_of : List (List ℕ) → Outcome
outcome_of (w ∷ v ∷ ws) = among (Ok (value_of v)) ((codes "fault", Err (number_of v)) ∷ []) w
outcome_of ws = Err 0

back_outcome : (x : Outcome) → FitsOutcome x → outcome_of (outcome_words x) ≡ x
unfolding outcome_of among
back_outcome (Ok v) fits = ap {A = ℤ} {B = Outcome} (λ z. Ok z) (back_value v fits)
back_outcome (Err n) fits = ap {A = ℕ} {B = Outcome} (λ k. Err k) (back_number n (omega (arith, fits)))

flags_of : List (List ℕ) → Bool × Bool
flags_of (w ∷ v ∷ ws) = (true, effect_of v)
flags_of (w ∷ []) = (false, effect_of w)
flags_of [] = (false, false)

back_flags : (flag effect : Bool) → flags_of (flag_words flag effect) ≡ (flag, effect)
unfolding flags_of
back_flags true effect = ap (λ b. (true, b)) (back_effect effect)
back_flags false effect = ap (λ b. (false, b)) (back_effect effect)

ranked_of : List (List ℕ) → ℕ × Looked
ranked_of (w ∷ v ∷ ws) = among (0, looked_of (w ∷ v ∷ ws)) ((codes "prio", (number_of v, looked_of ws)) ∷ []) w
ranked_of ws = (0, looked_of ws)

back_unranked : (x : Looked) → FitsLooked x → ranked_of (looked_words x) ≡ (0, x)
unfolding ranked_of among
back_unranked (looked.Reserve w) fits = ap (λ l. (0, l)) (back_looked (looked.Reserve w) fits)
back_unranked looked.Queue fits = ap (λ l. (0, l)) (back_looked looked.Queue fits)
back_unranked looked.Refuse fits = ap (λ l. (0, l)) (back_looked looked.Refuse fits)

back_stated : (p : ℕ) (x : Looked) → Fits32 p → FitsLooked x → ranked_of (codes "prio" ∷ decimal p ∷ looked_words x) ≡ (p, x)
unfolding ranked_of among
back_stated p x small fits = two (λ n (l : Looked). (n, l)) (back_number p (omega (arith, small))) (back_looked x fits)

back_ranked : (p : ℕ) (x : Looked) → Fits32 p → FitsLooked x → ranked_of (priority_words p ++ looked_words x) ≡ (p, x)
back_ranked p x small fits =
    elim (eqb_tells p 0) [
      | inl is ↦ ap (λ ws. ranked_of (ws ++ looked_words x)) (priority_unwritten p is.1) ∙ back_unranked x fits ∙ ap (λ n. (n, x)) (sym is.1)
      | inr is ↦ ap (λ ws. ranked_of (ws ++ looked_words x)) (priority_written p is.1) ∙ back_stated p x small fits
    ]

grouped_of : List (List ℕ) → Kind × (ℕ × Looked)
grouped_of (g ∷ ws) = (kinds.Group (number_of g), ranked_of ws)
grouped_of [] = (kinds.Plain, (0, looked.Refuse))

submitted_of : List (List ℕ) → Kind × (ℕ × Looked)
submitted_of (w ∷ ws) = among (kinds.Plain, ranked_of ws) ((codes "future", (kinds.Future, ranked_of ws)) ∷ (codes "group", grouped_of ws) ∷ []) w
submitted_of [] = (kinds.Plain, (0, looked.Refuse))

back_submitted : (k : Kind) (p : ℕ) (x : Looked) → FitsKind k → Fits32 p → FitsLooked x → submitted_of (kind_words k ++ (priority_words p ++ looked_words x)) ≡ (k, (p, x))
unfolding submitted_of grouped_of among
back_submitted kinds.Plain p x k small fits = ap (λ l. (kinds.Plain, l)) (back_ranked p x small fits)
back_submitted kinds.Future p x k small fits = ap (λ l. (kinds.Future, l)) (back_ranked p x small fits)
back_submitted (kinds.Group g) p x k small fits = two (λ n (l : ℕ × Looked). (kinds.Group n, l)) (back_number g (omega (arith, k))) (back_ranked p x small fits)

-- what was done, from its command and the words behind it
did_of : Command → List (List ℕ) → Did
did_of command.Submit (t ∷ ws) = did.Submit (task_of t) (submitted_of ws).0 (submitted_of ws).1.0 (submitted_of ws).1.1
did_of (command.OfTask task.Look) (t ∷ ws) = did.Look (task_of t) (looked_of ws)
did_of (command.OfTask task.Offer) (t ∷ ws) = did.Offer (task_of t) (offered_of ws)
did_of (command.OfTask task.Second) (t ∷ ws) = did.Second (task_of t) (seconded_of ws)
did_of (command.OfTask task.Grow) (t ∷ ws) = did.Grow (task_of t) (grown_of ws)
did_of (command.OfTask task.CallerEnd) (t ∷ ws) = did.CallerEnd (task_of t) (outcome_of ws)
did_of (command.OfTask task.Remove) (t ∷ e ∷ ws) = did.Remove (task_of t) (effect_of e)
did_of command.Verdict (t ∷ v ∷ ws) = did.Verdict (task_of t) (verdict_of v) (ruled_of ws)
did_of (command.OfSlot slot.Open) (w ∷ ws) = did.Open (slot_of w) (opened_of ws)
did_of (command.OfSlot slot.Fail) (w ∷ ws) = did.Fail (slot_of w) (failed_of ws)
did_of (command.OfSlot slot.Take) (w ∷ ws) = did.Take (slot_of w) (took_of ws)
did_of (command.OfSlot slot.Begin) (w ∷ ws) = did.Begin (slot_of w) (started_of ws)
did_of (command.OfSlot slot.End) (w ∷ t ∷ ws) = did.End (slot_of w) (task_of t) (outcome_of ws)
did_of (command.OfSlot slot.Leave) (w ∷ ws) = did.Leave (slot_of w) (reserved_of ws)
did_of (command.OfPool pool.Shutdown) ws = did.Shutdown
did_of (command.OfPool pool.Stop) (w ∷ n ∷ ws) = did.Stop (number_of n)
did_of (command.OfPool pool.Tidy) ws = did.Tidy
did_of (command.OfPool pool.Ended) ws = did.Ended
did_of (command.OfPool pool.Purge) (n ∷ ws) = did.Purge (number_of n)
did_of (command.OfPool pool.Prestart) ws = did.Prestart (reserved_of ws)
did_of command.Cancel (t ∷ ws) = did.Cancel (task_of t) (flags_of ws).0 (flags_of ws).1
did_of (command.OfSize size.TakeDone) (g ∷ t ∷ ws) = did.TakeDone (number_of g) (task_of t)
did_of (command.OfSize size.Core) (n ∷ w ∷ k ∷ ws) = did.Core (number_of n) (number_of k)
did_of (command.OfSize size.Maximum) (n ∷ ws) = did.Maximum (number_of n)
did_of (command.OfTicks ticks.Keep) (n ∷ ws) = did.Keep (number_of n)
did_of (command.OfTicks ticks.Tick) (n ∷ ws) = did.Tick (number_of n)
did_of command.CoreTimeout (w ∷ ws) = did.CoreTimeout (switch_of w)
did_of c ws = did.Shutdown

back_did : (d : Did) → FitsDid d → did_of (command_of d) (argument_words d) ≡ d
unfolding did_of
back_did (did.Submit t k p l) fits = two (λ u (x : Kind × (ℕ × Looked)). did.Submit u x.0 x.1.0 x.1.1) (back_task t fits.0) (back_submitted k p l fits.1 fits.2 fits.3)
back_did (did.Look t l) fits = two did.Look (back_task t fits.0) (back_looked l fits.1)
back_did (did.Offer t l) fits = two did.Offer (back_task t fits.0) (back_offered l fits.1)
back_did (did.Second t l) fits = two did.Second (back_task t fits.0) (back_seconded l fits.1)
back_did (did.Grow t l) fits = two did.Grow (back_task t fits.0) (back_grown l fits.1)
back_did (did.CallerEnd t o) fits = two did.CallerEnd (back_task t fits.0) (back_outcome o fits.1)
back_did (did.Remove t e) fits = two did.Remove (back_task t fits) (back_effect e)
back_did (did.Verdict t v r) fits = two (λ u (p : Verdict × Ruled). did.Verdict u p.0 p.1) (back_task t fits.0) (two (λ x y. (x, y)) (back_verdict v) (back_ruled r fits.1))
back_did (did.Open w o) fits = two did.Open (back_slot w fits.0) (back_opened o fits.1)
back_did (did.Fail w o) fits = two did.Fail (back_slot w fits.0) (back_failed o fits.1)
back_did (did.Take w o) fits = two did.Take (back_slot w fits.0) (back_took o fits.1)
back_did (did.Begin w o) fits = two did.Begin (back_slot w fits.0) (back_started o fits.1)
back_did (did.End w t o) fits = two (λ u (p : TaskId × Outcome). did.End u p.0 p.1) (back_slot w fits.0) (two (λ x y. (x, y)) (back_task t fits.1) (back_outcome o fits.2))
back_did (did.Leave w o) fits = two did.Leave (back_slot w fits.0) (back_reserved o fits.1)
back_did did.Shutdown fits = refl
back_did (did.Stop n) fits = ap did.Stop (back_number n (omega (arith, fits)))
back_did did.Tidy fits = refl
back_did did.Ended fits = refl
back_did (did.Purge n) fits = ap did.Purge (back_number n (omega (arith, fits)))
back_did (did.Prestart o) fits = ap did.Prestart (back_prestart o fits)
back_did (did.Cancel t flag e) fits = two (λ u (p : Bool × Bool). did.Cancel u p.0 p.1) (back_task t fits) (back_flags flag e)
back_did (did.TakeDone g t) fits = two did.TakeDone (back_number g (omega (arith, fits.0))) (back_task t fits.1)
back_did (did.Core n k) fits = two did.Core (back_number n (omega (arith, fits.0))) (back_number k (omega (arith, fits.1)))
back_did (did.Maximum n) fits = ap did.Maximum (back_number n (omega (arith, fits)))
back_did (did.Keep n) fits = ap did.Keep (back_number n fits)
back_did (did.Tick n) fits = ap did.Tick (back_number n fits)
back_did (did.CoreTimeout on) fits = ap did.CoreTimeout (back_switch on)

-- no two answers share their words
pub did_words-injective : (d e : Did) → FitsDid d → FitsDid e → did_words d ≡ did_words e → d ≡ e
did_words-injective d e x y same =
    let word : command_word (command_of d) ≡ command_word (command_of e) = cc in
    let rest : argument_words d ≡ argument_words e = cc in
    sym (back_did d x) ∙ two did_of (command_word-injective (command_of d) (command_of e) word) rest ∙ back_did e y
