-- The words of each entry are ASCII and have neither a space nor a line feed.
use Rattle.std.proofs.Common.{◌≡◌, ◌≢◌, ℕ, zero, suc, ◌<◌, ◌≤◌, ◌^◌, List, [], ◌∷◌, ◌++◌, length, get_or, Bool, true, false, not, ◌&&◌, ◌==◌, Option, Some, None, Ok, Err, refl, ◌∙◌, ap, arith, codes, inl, inr}
use Rattle.std.specs.Prelude.{ℤ, pos, negsuc, nat_lt}
use Rattle.std.specs.Fmt.{decimal, signed_decimal}
use Rattle.std.specs.List.{All, list_all}
use Rattle.std.specs.Str.{IsAscii}
use Rattle.std.proofs.lemmas.Bool.{ltb-true}
use Rattle.std.proofs.lemmas.Bool.Decides.{eqb_tells}
use Rattle.std.proofs.lemmas.Fmt.{IsAscii-decimal, length-decimal-le}
use Rattle.std.proofs.lemmas.List.Splits.{slice_split_none, slice_split_at}
use Rattle.std.proofs.lemmas.List.Elements.{All-from_get_or}
use Rattle.std.proofs.lemmas.Str.{IsAscii-append}
use Rattle.std.proofs.lemmas.Str.Ascii.{IsAscii-from_all}
use Rattle.tp_types.specs.declared.configs.Verdict.{Verdict}
use Rattle.tp_types.specs.declared.configs.Verdict.TheVariants as verdict
use Rattle.tp_types.specs.declared.ids.SlotId.{SlotId}
use Rattle.tp_types.specs.declared.ids.TaskId.{TaskId}
use Rattle.tp_types.specs.declared.tasks.Kind.{Kind}
use Rattle.tp_types.specs.declared.tasks.Kind.TheVariants as kinds
use Rattle.tp_types.specs.Verdict.{verdict_name}
use Rattle.tp_record.specs.declared.entries.Did.{Did}
use Rattle.tp_record.specs.declared.entries.Did.TheVariants as did
use Rattle.tp_record.specs.declared.entries.Entry.{Entry}
use Rattle.tp_record.specs.declared.entries.Failed.{Failed}
use Rattle.tp_record.specs.declared.entries.Failed.TheVariants as failed
use Rattle.tp_record.specs.declared.entries.Grown.{Grown}
use Rattle.tp_record.specs.declared.entries.Grown.TheVariants as grown
use Rattle.tp_record.specs.declared.entries.Looked.{Looked}
use Rattle.tp_record.specs.declared.entries.Looked.TheVariants as looked
use Rattle.tp_record.specs.declared.entries.Offered.{Offered}
use Rattle.tp_record.specs.declared.entries.Offered.TheVariants as offered
use Rattle.tp_record.specs.declared.entries.Opened.{Opened}
use Rattle.tp_record.specs.declared.entries.Opened.TheVariants as opened
use Rattle.tp_record.specs.declared.entries.Ruled.{Ruled}
use Rattle.tp_record.specs.declared.entries.Ruled.TheVariants as ruled
use Rattle.tp_record.specs.declared.entries.Seconded.{Seconded}
use Rattle.tp_record.specs.declared.entries.Seconded.TheVariants as seconded
use Rattle.tp_record.specs.declared.entries.Started.{Started}
use Rattle.tp_record.specs.declared.entries.Started.TheVariants as started
use Rattle.tp_record.specs.declared.entries.Took.{Took}
use Rattle.tp_record.specs.declared.entries.Took.TheVariants as took
use Rattle.tp_record.specs.Effects.{Outcome}
use Rattle.tp_text.specs.declared.commands.Command.{Command}
use Rattle.tp_text.specs.declared.commands.Command.TheVariants as command
use Rattle.tp_text.specs.declared.commands.TaskVerb.TheVariants as task
use Rattle.tp_text.specs.declared.commands.SlotVerb.TheVariants as slot
use Rattle.tp_text.specs.declared.commands.PoolVerb.TheVariants as pool
use Rattle.tp_text.specs.declared.commands.SizeVerb.TheVariants as size
use Rattle.tp_text.specs.declared.commands.TickVerb.TheVariants as ticks
use Rattle.tp_text.specs.Commands.{command_word}
use Rattle.tp_text.specs.EntryLine.{words, task_name, slot_name, pass_name, effect_word, switch_word, kind_words, priority_words, outcome_words, looked_words, offered_words, seconded_words, grown_words, ruled_words, opened_words, failed_words, took_words, started_words, reserved_words, prestart_words, flag_words, command_of, argument_words, did_words, pass_words, entry_words}
use Rattle.tp_text.specs.Fits.{Fits32, FitsKind, FitsOutcome, FitsValue}
use Rattle.tp_text.specs.Lines.{HasNoLineFeed}
use Rattle.tp_text.specs.Reads.{IsWord}
use Rattle.tp_text.proofs.LineSplits.{single-append, single_from_test}
use Rattle.tp_text.proofs.NumberTexts.{single_decimal, word_decimal}
use Rattle.tp_text.proofs.WordSplits.{word_from_test}
use Rattle.tp_text_record.specs.EntryFits.{FitsTask, FitsSlot, FitsLooked, FitsOffered, FitsSeconded, FitsGrown, FitsRuled, FitsOpened, FitsFailed, FitsTook, FitsStarted, FitsReserved, FitsDid}
use Rattle.tp_text_record.specs.Rests.{split_words}

-- a word in ASCII without a space and without a line feed
pub record IsPiece (w : List ℕ) : Type 0 where
  pub is_word : IsWord w
  pub ascii : IsAscii w
  pub single : HasNoLineFeed w
  pub short : length w ≤ 21

abbrev pub Pieces : List (List ℕ) → Type 0
Pieces [] = Unit {0}
Pieces (w ∷ ws) = IsPiece w × Pieces ws

pub both : (vs ws : List (List ℕ)) → Pieces vs → Pieces ws → Pieces (vs ++ ws)
both [] ws a b = b
both (v ∷ vs) ws a b = (a.0, both vs ws a.1 b)

and_left : (a b : Bool) → (a && b) ≡ true → a ≡ true
and_left true b e = refl
and_left false b e = cc

and_right : (a b : Bool) → (a && b) ≡ true → b ≡ true
and_right true b e = e
and_right false b e = cc

all_ascii : (w : List ℕ) → list_all (λ b. not (b == 32) && nat_lt b 128) w ≡ true → (i : ℕ) → i < length w → get_or w i 0 < 128
all_ascii [] test i within = absurd (omega arith)
all_ascii (b ∷ w) test zero within = ltb-true b 128 (and_right (not (b == 32)) (nat_lt b 128) (and_left (not (b == 32) && nat_lt b 128) (list_all (λ x. not (x == 32) && nat_lt x 128) w) test))
all_ascii (b ∷ w) test (suc i) within = all_ascii w (and_right (not (b == 32) && nat_lt b 128) (list_all (λ x. not (x == 32) && nat_lt x 128) w) test) i (omega arith)

no_spaces : (w : List ℕ) → list_all (λ b. not (b == 32) && nat_lt b 128) w ≡ true → list_all (λ b. not (b == 32)) w ≡ true
no_spaces [] test = refl
no_spaces (b ∷ w) test =
    let here = and_left (not (b == 32)) (nat_lt b 128) (and_left (not (b == 32) && nat_lt b 128) (list_all (λ x. not (x == 32) && nat_lt x 128) w) test) in
    let there = no_spaces w (and_right (not (b == 32) && nat_lt b 128) (list_all (λ x. not (x == 32) && nat_lt x 128) w) test) in
    ap (λ x. x && list_all (λ y. not (y == 32)) w) here ∙ there

pub code : (w : List ℕ) → list_all (λ b. not (b == 32) && nat_lt b 128) w ≡ true → list_all (λ b. not (b == 10)) w ≡ true → nat_lt (length w) 22 ≡ true → IsPiece w
code w test feeds few = record {
  is_word = word_from_test w (no_spaces w test);
  ascii = IsAscii-from_all w (All-from_get_or (λ b. b < 128) w 0 (all_ascii w test));
  single = single_from_test w feeds;
  short = let below = ltb-true (length w) 22 few in omega (arith, below);
}

short_number : (n : ℕ) → n < 2 ^ 64 → length (decimal n) ≤ 20
short_number n small = length-decimal-le 20 n (omega arith) (omega (arith, small)) small

pub number_piece : (n : ℕ) → n < 2 ^ 64 → IsPiece (decimal n)
number_piece n small = record { is_word = word_decimal n small; ascii = IsAscii-decimal n small; single = single_decimal n small; short = omega (arith, short_number n small) }

longer_word : (b : ℕ) (w : List ℕ) → b ≢ 32 → IsWord w → IsWord (b ∷ w)
longer_word b w other is zero within = other
longer_word b w other is (suc i) within = is i (omega arith)

-- a letter before a number
marked_piece : (b n : ℕ) → b ≢ 32 → IsPiece (b ∷ []) → n < 2 ^ 64 → IsPiece (b ∷ decimal n)
marked_piece b n other mark small = record {
  is_word = longer_word b (decimal n) other (word_decimal n small);
  ascii = IsAscii-append (b ∷ []) (decimal n) mark.ascii (IsAscii-decimal n small);
  single = single-append (b ∷ []) (decimal n) mark.single (single_decimal n small);
  short = omega (arith, short_number n small);
}

task_piece : (t : TaskId) → FitsTask t → IsPiece (task_name t)
task_piece t fits = marked_piece 116 t.0 (λ e. absurd (omega arith)) (code (codes "t") refl refl refl) (omega (arith, fits))

slot_piece : (w : SlotId) → FitsSlot w → IsPiece (slot_name w)
slot_piece w fits = marked_piece 119 w.0 (λ e. absurd (omega arith)) (code (codes "w") refl refl refl) fits

pass_piece : (by : ℕ) → Fits32 by → IsPiece (pass_name by)
pass_piece by fits = marked_piece 112 by (λ e. absurd (omega arith)) (code (codes "p") refl refl refl) (omega (arith, fits))

value_piece : (v : ℤ) → FitsValue v → IsPiece (signed_decimal v)
value_piece (pos n) fits = number_piece n (omega arith)
value_piece (negsuc n) fits = marked_piece 45 (suc n) (λ e. absurd (omega arith)) (code (codes "-") refl refl refl) (omega arith)

effect_piece : (b : Bool) → IsPiece (effect_word b)
effect_piece true = code (codes "yes") refl refl refl
effect_piece false = code (codes "no") refl refl refl

switch_piece : (b : Bool) → IsPiece (switch_word b)
switch_piece true = code (codes "on") refl refl refl
switch_piece false = code (codes "off") refl refl refl

verdict_piece : (v : Verdict) → IsPiece (verdict_name v)
verdict_piece verdict.Abort = code (codes "abort") refl refl refl
verdict_piece verdict.CallerRuns = code (codes "callerruns") refl refl refl
verdict_piece verdict.Discard = code (codes "discard") refl refl refl
verdict_piece verdict.DiscardOldest = code (codes "discardoldest") refl refl refl

kind_pieces : (k : Kind) → FitsKind k → Pieces (kind_words k)
kind_pieces kinds.Plain fits = (code (codes "plain") refl refl refl, tt)
kind_pieces kinds.Future fits = (code (codes "future") refl refl refl, tt)
kind_pieces (kinds.Group g) fits = (code (codes "group") refl refl refl, (number_piece g (omega (arith, fits)), tt))

outcome_pieces : (o : Outcome) → FitsOutcome o → Pieces (outcome_words o)
outcome_pieces (Ok v) fits = (code (codes "value") refl refl refl, (value_piece v fits, tt))
outcome_pieces (Err n) fits = (code (codes "fault") refl refl refl, (number_piece n (omega (arith, fits)), tt))

reserved_pieces : (o : Option SlotId) → FitsReserved o → Pieces (reserved_words o)
reserved_pieces None fits = tt
reserved_pieces (Some w) fits = (code (codes "reserve") refl refl refl, (slot_piece w fits, tt))

prestart_pieces : (o : Option SlotId) → FitsReserved o → Pieces (prestart_words o)
prestart_pieces None fits = (code (codes "none") refl refl refl, tt)
prestart_pieces (Some w) fits = (code (codes "reserve") refl refl refl, (slot_piece w fits, tt))

flag_pieces : (flag effect : Bool) → Pieces (flag_words flag effect)
flag_pieces true effect = (code (codes "flag") refl refl refl, (effect_piece effect, tt))
flag_pieces false effect = (effect_piece effect, tt)

looked_pieces : (x : Looked) → FitsLooked x → Pieces (looked_words x)
looked_pieces (looked.Reserve w) fits = (code (codes "reserve") refl refl refl, (slot_piece w fits, tt))
looked_pieces looked.Queue fits = (code (codes "queue") refl refl refl, tt)
looked_pieces looked.Refuse fits = (code (codes "refuse") refl refl refl, tt)

offered_pieces : (x : Offered) → FitsOffered x → Pieces (offered_words x)
offered_pieces offered.Queued fits = (code (codes "queued") refl refl refl, tt)
offered_pieces (offered.Hand w) fits = (code (codes "hand") refl refl refl, (slot_piece w fits, tt))
offered_pieces offered.Full fits = (code (codes "full") refl refl refl, tt)

seconded_pieces : (x : Seconded) → FitsSeconded x → Pieces (seconded_words x)
seconded_pieces seconded.Stay fits = (code (codes "stay") refl refl refl, tt)
seconded_pieces (seconded.StayReserve w) fits = (code (codes "stay") refl refl refl, (code (codes "reserve") refl refl refl, (slot_piece w fits, tt)))
seconded_pieces seconded.Back fits = (code (codes "back") refl refl refl, tt)

grown_pieces : (x : Grown) → FitsGrown x → Pieces (grown_words x)
grown_pieces (grown.Reserve w) fits = (code (codes "reserve") refl refl refl, (slot_piece w fits, tt))
grown_pieces grown.Refuse fits = (code (codes "refuse") refl refl refl, tt)

ruled_pieces : (x : Ruled) → FitsRuled x → Pieces (ruled_words x)
ruled_pieces ruled.Rejected fits = (code (codes "rejected") refl refl refl, tt)
ruled_pieces ruled.Caller fits = (code (codes "caller") refl refl refl, tt)
ruled_pieces ruled.Skip fits = (code (codes "skip") refl refl refl, tt)
ruled_pieces ruled.Discarded fits = (code (codes "discarded") refl refl refl, tt)
ruled_pieces ruled.Retry fits = (code (codes "retry") refl refl refl, tt)
ruled_pieces (ruled.RetryDrop t) fits = (code (codes "retry") refl refl refl, (code (codes "drop") refl refl refl, (task_piece t fits, tt)))

opened_pieces : (x : Opened) → FitsOpened x → Pieces (opened_words x)
opened_pieces opened.Live fits = (code (codes "live") refl refl refl, tt)
opened_pieces opened.GivenUp fits = (code (codes "givenup") refl refl refl, tt)
opened_pieces (opened.GivenUpRefuse t) fits = (code (codes "givenup") refl refl refl, (task_piece t fits, (code (codes "refuse") refl refl refl, tt)))

failed_pieces : (x : Failed) → FitsFailed x → Pieces (failed_words x)
failed_pieces failed.Nothing fits = (code (codes "none") refl refl refl, tt)
failed_pieces (failed.Offer t) fits = (task_piece t fits, (code (codes "offer") refl refl refl, tt))
failed_pieces (failed.Refuse t) fits = (task_piece t fits, (code (codes "refuse") refl refl refl, tt))

took_pieces : (x : Took) → FitsTook x → Pieces (took_words x)
took_pieces (took.Held t) fits = (code (codes "held") refl refl refl, (task_piece t fits, tt))
took_pieces (took.Head t) fits = (code (codes "head") refl refl refl, (task_piece t fits, tt))
took_pieces took.Leave fits = (code (codes "leave") refl refl refl, tt)
took_pieces took.Idle fits = (code (codes "idle") refl refl refl, tt)

started_pieces : (x : Started) → FitsStarted x → Pieces (started_words x)
started_pieces (started.Run t) fits = (task_piece t fits, tt)
started_pieces (started.Skip t) fits = (code (codes "skip") refl refl refl, (task_piece t fits, tt))

command_piece : (c : Command) → IsPiece (command_word c)
command_piece (command.OfTask task.Look) = code (codes "look") refl refl refl
command_piece (command.OfSlot slot.Open) = code (codes "open") refl refl refl
command_piece (command.OfPool pool.Stop) = code (codes "stop") refl refl refl
command_piece (command.OfSize size.Core) = code (codes "core") refl refl refl
command_piece (command.OfTicks ticks.Tick) = code (codes "tick") refl refl refl
command_piece _ = code _ refl refl refl

priority_pieces : (p : ℕ) (b : Bool) → (p == 0) ≡ b → Fits32 p → Pieces (priority_words p)
priority_pieces p true is fits = rw is tt
priority_pieces p false is fits = rw is (code (codes "prio") refl refl refl, (number_piece p (omega (arith, fits)), tt))

argument_pieces : (d : Did) → FitsDid d → Pieces (argument_words d)
argument_pieces (did.Submit t k p l) fits =
    let rest = both (priority_words p) (looked_words l) (priority_pieces p (p == 0) refl fits.2) (looked_pieces l fits.3) in
    (task_piece t fits.0, both (kind_words k) (priority_words p ++ looked_words l) (kind_pieces k fits.1) rest)
argument_pieces (did.Look t l) fits = (task_piece t fits.0, looked_pieces l fits.1)
argument_pieces (did.Offer t l) fits = (task_piece t fits.0, offered_pieces l fits.1)
argument_pieces (did.Second t l) fits = (task_piece t fits.0, seconded_pieces l fits.1)
argument_pieces (did.Grow t l) fits = (task_piece t fits.0, grown_pieces l fits.1)
argument_pieces (did.CallerEnd t l) fits = (task_piece t fits.0, outcome_pieces l fits.1)
argument_pieces (did.Verdict t v r) fits = (task_piece t fits.0, (verdict_piece v, ruled_pieces r fits.1))
argument_pieces (did.Open w o) fits = (slot_piece w fits.0, opened_pieces o fits.1)
argument_pieces (did.Fail w o) fits = (slot_piece w fits.0, failed_pieces o fits.1)
argument_pieces (did.Take w o) fits = (slot_piece w fits.0, took_pieces o fits.1)
argument_pieces (did.Begin w o) fits = (slot_piece w fits.0, started_pieces o fits.1)
argument_pieces (did.Leave w o) fits = (slot_piece w fits.0, reserved_pieces o fits.1)
argument_pieces (did.End w t o) fits = (slot_piece w fits.0, (task_piece t fits.1, outcome_pieces o fits.2))
argument_pieces did.Shutdown fits = tt
argument_pieces did.Tidy fits = tt
argument_pieces did.Ended fits = tt
argument_pieces (did.Stop n) fits = (code (codes "drained") refl refl refl, (number_piece n (omega (arith, fits)), tt))
argument_pieces (did.Remove t e) fits = (task_piece t fits, (effect_piece e, tt))
argument_pieces (did.Purge n) fits = (number_piece n (omega (arith, fits)), tt)
argument_pieces (did.Cancel t flag e) fits = (task_piece t fits, flag_pieces flag e)
argument_pieces (did.TakeDone g t) fits = (number_piece g (omega (arith, fits.0)), (task_piece t fits.1, tt))
argument_pieces (did.Core n k) fits = (number_piece n (omega (arith, fits.0)), (code (codes "add") refl refl refl, (number_piece k (omega (arith, fits.1)), tt)))
argument_pieces (did.Maximum n) fits = (number_piece n (omega (arith, fits)), tt)
argument_pieces (did.Keep n) fits = (number_piece n fits, tt)
argument_pieces (did.Tick n) fits = (number_piece n fits, tt)
argument_pieces (did.CoreTimeout on) fits = (switch_piece on, tt)
argument_pieces (did.Prestart o) fits = prestart_pieces o fits

pass_pieces : (by : ℕ) (b : Bool) → (by == 0) ≡ b → Fits32 by → Pieces (pass_words by)
pass_pieces by true is fits = rw is tt
pass_pieces by false is fits = rw is (pass_piece by fits, tt)

-- each word of an entry is ASCII and has no space
pub entry_pieces : (n : ℕ) (e : Entry) → Fits32 n → Fits32 e.by → FitsDid e.did → Pieces (entry_words n e)
entry_pieces n e number pass fits = (number_piece n (omega (arith, number)), both (pass_words e.by) (did_words e.did) (pass_pieces e.by (e.by == 0) refl pass) (command_piece (command_of e.did), argument_pieces e.did fits))

no_space : (w : List ℕ) → IsWord w → All (λ b. (b == 32) ≡ false) w
no_space w is = All-from_get_or (λ b. (b == 32) ≡ false) w 0 (λ i within. elim (eqb_tells (get_or w i 0) 32) [ inl p ↦ absurd (is i within p.1) | inr p ↦ p.0 ])

-- words joined by spaces fall apart into them
pub split-words : (w : List ℕ) (ws : List (List ℕ)) → Pieces (w ∷ ws) → split_words (words (w ∷ ws)) ≡ w ∷ ws
split-words w [] are = slice_split_none (λ b. b == 32) w (no_space w are.0.is_word)
split-words w (v ∷ vs) are = slice_split_at (λ b. b == 32) w 32 (words (v ∷ vs)) (no_space w are.0.is_word) refl ∙ ap (λ x. w ∷ x) (split-words v vs are.1)

-- a space alone

space_below : (i : ℕ) → i < length {A = ℕ} (32 ∷ []) → get_or {A = ℕ} (32 ∷ []) i 0 < 128
space_below zero within = omega arith
space_below (suc i) within = absurd (omega arith)

pub space_ascii : IsAscii (32 ∷ [])
space_ascii = IsAscii-from_all (32 ∷ []) (All-from_get_or (λ b. b < 128) (32 ∷ []) 0 space_below)

pub words_are_ascii : (w : List ℕ) (ws : List (List ℕ)) → Pieces (w ∷ ws) → IsAscii (words (w ∷ ws))
words_are_ascii w [] are = are.0.ascii
words_are_ascii w (v ∷ vs) are = IsAscii-append w (32 ∷ words (v ∷ vs)) are.0.ascii (IsAscii-append (32 ∷ []) (words (v ∷ vs)) space_ascii (words_are_ascii v vs are.1))
