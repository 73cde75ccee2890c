-- Which words are those of no answer with their command.
use Rattle.std.proofs.Common.{◌≡◌, ◌≢◌, ℕ, List, [], ◌∷◌, ◌++◌, Option, Some, None, Bool, sym, ◌∙◌, ap, subst, codes}
use Rattle.std.specs.Fmt.{decimal}
use Rattle.tp_types.specs.declared.configs.Verdict.{Verdict}
use Rattle.tp_types.specs.declared.ids.SlotId.{SlotId}
use Rattle.tp_types.specs.declared.ids.TaskId.{TaskId}
use Rattle.tp_types.specs.declared.tasks.Kind.{Kind}
use Rattle.tp_types.specs.Verdict.{verdict_name}
use Rattle.tp_record.specs.declared.entries.Did.{Did}
use Rattle.tp_record.specs.declared.entries.Failed.{Failed}
use Rattle.tp_record.specs.declared.entries.Grown.{Grown}
use Rattle.tp_record.specs.declared.entries.Looked.{Looked}
use Rattle.tp_record.specs.declared.entries.Offered.{Offered}
use Rattle.tp_record.specs.declared.entries.Opened.{Opened}
use Rattle.tp_record.specs.declared.entries.Ruled.{Ruled}
use Rattle.tp_record.specs.declared.entries.Seconded.{Seconded}
use Rattle.tp_record.specs.declared.entries.Started.{Started}
use Rattle.tp_record.specs.declared.entries.Took.{Took}
use Rattle.tp_record.specs.declared.entries.Did.TheVariants as did
use Rattle.tp_record.specs.Effects.{Outcome}
use Rattle.tp_text.specs.declared.commands.Command.{Command}
use Rattle.tp_text.specs.declared.commands.Command.TheVariants as command
use Rattle.tp_text.specs.declared.commands.TaskVerb.TheVariants as task
use Rattle.tp_text.specs.declared.commands.SlotVerb.TheVariants as slot
use Rattle.tp_text.specs.declared.commands.PoolVerb.TheVariants as pool
use Rattle.tp_text.specs.declared.commands.SizeVerb.TheVariants as size
use Rattle.tp_text.specs.declared.commands.TickVerb.TheVariants as ticks
use Rattle.tp_text.specs.Commands.{command_word}
use Rattle.tp_text.specs.EntryLine.{task_name, slot_name, effect_word, switch_word, kind_words, priority_words, outcome_words, looked_words, offered_words, seconded_words, grown_words, ruled_words, opened_words, failed_words, took_words, started_words, reserved_words, prestart_words, flag_words, command_of, argument_words, did_words}
use Rattle.tp_text.specs.Fits.{Fits32, Fits64, FitsKind, FitsOutcome}
use Rattle.tp_text.specs.Reads.{ReadsAs}
use Rattle.tp_text.proofs.CommandWords.{command_word-injective}
use Rattle.tp_text_record.specs.EntryFits.{FitsTask, FitsSlot, FitsLooked, FitsOffered, FitsSeconded, FitsGrown, FitsRuled, FitsOpened, FitsFailed, FitsTook, FitsStarted, FitsReserved, FitsDid, ReadsDid}
use Rattle.tp_text_record.specs.Rests.{Alone}

-- the words are those of no arguments of the command
abbrev pub NoArguments : Command → List (List ℕ) → Type 0
NoArguments command.Submit ws =
    (p : TaskId × (Kind × (ℕ × Looked))) → FitsTask p.0 × (FitsKind p.1.0 × (Fits32 p.1.1.0 × FitsLooked p.1.1.1)) → ws ≢ task_name p.0 ∷ (kind_words p.1.0 ++ (priority_words p.1.1.0 ++ looked_words p.1.1.1))
NoArguments (command.OfTask task.Look) ws = (p : TaskId × Looked) → FitsTask p.0 × FitsLooked p.1 → ws ≢ task_name p.0 ∷ looked_words p.1
NoArguments (command.OfTask task.Offer) ws = (p : TaskId × Offered) → FitsTask p.0 × FitsOffered p.1 → ws ≢ task_name p.0 ∷ offered_words p.1
NoArguments (command.OfTask task.Second) ws = (p : TaskId × Seconded) → FitsTask p.0 × FitsSeconded p.1 → ws ≢ task_name p.0 ∷ seconded_words p.1
NoArguments (command.OfTask task.Grow) ws = (p : TaskId × Grown) → FitsTask p.0 × FitsGrown p.1 → ws ≢ task_name p.0 ∷ grown_words p.1
NoArguments (command.OfTask task.CallerEnd) ws = (p : TaskId × Outcome) → FitsTask p.0 × FitsOutcome p.1 → ws ≢ task_name p.0 ∷ outcome_words p.1
NoArguments (command.OfTask task.Remove) ws = (p : TaskId × Bool) → FitsTask p.0 → ws ≢ task_name p.0 ∷ effect_word p.1 ∷ []
NoArguments command.Verdict ws = (p : TaskId × (Verdict × Ruled)) → FitsTask p.0 × FitsRuled p.1.1 → ws ≢ task_name p.0 ∷ verdict_name p.1.0 ∷ ruled_words p.1.1
NoArguments (command.OfSlot slot.Open) ws = (p : SlotId × Opened) → FitsSlot p.0 × FitsOpened p.1 → ws ≢ slot_name p.0 ∷ opened_words p.1
NoArguments (command.OfSlot slot.Fail) ws = (p : SlotId × Failed) → FitsSlot p.0 × FitsFailed p.1 → ws ≢ slot_name p.0 ∷ failed_words p.1
NoArguments (command.OfSlot slot.Take) ws = (p : SlotId × Took) → FitsSlot p.0 × FitsTook p.1 → ws ≢ slot_name p.0 ∷ took_words p.1
NoArguments (command.OfSlot slot.Begin) ws = (p : SlotId × Started) → FitsSlot p.0 × FitsStarted p.1 → ws ≢ slot_name p.0 ∷ started_words p.1
NoArguments (command.OfSlot slot.End) ws = (p : SlotId × (TaskId × Outcome)) → FitsSlot p.0 × (FitsTask p.1.0 × FitsOutcome p.1.1) → ws ≢ slot_name p.0 ∷ (task_name p.1.0 ∷ outcome_words p.1.1)
NoArguments (command.OfSlot slot.Leave) ws = (p : SlotId × Option SlotId) → FitsSlot p.0 × FitsReserved p.1 → ws ≢ slot_name p.0 ∷ reserved_words p.1
NoArguments (command.OfPool pool.Shutdown) ws = ws ≢ []
NoArguments (command.OfPool pool.Tidy) ws = ws ≢ []
NoArguments (command.OfPool pool.Ended) ws = ws ≢ []
NoArguments (command.OfPool pool.Stop) ws = (n : ℕ) → Fits32 n → ws ≢ codes "drained" ∷ decimal n ∷ []
NoArguments (command.OfPool pool.Purge) ws = (n : ℕ) → Fits32 n → ws ≢ decimal n ∷ []
NoArguments (command.OfPool pool.Prestart) ws = (o : Option SlotId) → FitsReserved o → ws ≢ prestart_words o
NoArguments command.Cancel ws = (p : TaskId × (Bool × Bool)) → FitsTask p.0 → ws ≢ task_name p.0 ∷ flag_words p.1.0 p.1.1
NoArguments (command.OfSize size.TakeDone) ws = (p : ℕ × TaskId) → Fits32 p.0 × FitsTask p.1 → ws ≢ decimal p.0 ∷ task_name p.1 ∷ []
NoArguments (command.OfSize size.Core) ws = (p : ℕ × ℕ) → Fits32 p.0 × Fits32 p.1 → ws ≢ decimal p.0 ∷ codes "add" ∷ decimal p.1 ∷ []
NoArguments (command.OfSize size.Maximum) ws = (n : ℕ) → Fits32 n → ws ≢ decimal n ∷ []
NoArguments (command.OfTicks ticks.Keep) ws = (n : ℕ) → Fits64 n → ws ≢ decimal n ∷ []
NoArguments (command.OfTicks ticks.Tick) ws = (n : ℕ) → Fits64 n → ws ≢ decimal n ∷ []
NoArguments command.CoreTimeout ws = (on : Bool) → Unit {0} → ws ≢ switch_word on ∷ []

no_arguments_of : (d : Did) (ws : List (List ℕ)) → NoArguments (command_of d) ws → FitsDid d → ws ≢ argument_words d
no_arguments_of (did.Submit t k p l) ws none fits same = none (t, (k, (p, l))) (fits.0, (fits.1, (fits.2, fits.3))) same
no_arguments_of (did.Look t l) ws none fits same = none (t, l) (fits.0, fits.1) same
no_arguments_of (did.Offer t l) ws none fits same = none (t, l) (fits.0, fits.1) same
no_arguments_of (did.Second t l) ws none fits same = none (t, l) (fits.0, fits.1) same
no_arguments_of (did.Grow t l) ws none fits same = none (t, l) (fits.0, fits.1) same
no_arguments_of (did.CallerEnd t l) ws none fits same = none (t, l) (fits.0, fits.1) same
no_arguments_of (did.Remove t l) ws none fits same = none (t, l) fits same
no_arguments_of (did.Verdict t v r) ws none fits same = none (t, (v, r)) (fits.0, fits.1) same
no_arguments_of (did.Open w o) ws none fits same = none (w, o) (fits.0, fits.1) same
no_arguments_of (did.Fail w o) ws none fits same = none (w, o) (fits.0, fits.1) same
no_arguments_of (did.Take w o) ws none fits same = none (w, o) (fits.0, fits.1) same
no_arguments_of (did.Begin w o) ws none fits same = none (w, o) (fits.0, fits.1) same
no_arguments_of (did.End w t o) ws none fits same = none (w, (t, o)) (fits.0, (fits.1, fits.2)) same
no_arguments_of (did.Leave w o) ws none fits same = none (w, o) (fits.0, fits.1) same
no_arguments_of did.Shutdown ws none fits same = none same
no_arguments_of did.Tidy ws none fits same = none same
no_arguments_of did.Ended ws none fits same = none same
no_arguments_of (did.Stop n) ws none fits same = none n fits same
no_arguments_of (did.Purge n) ws none fits same = none n fits same
no_arguments_of (did.Prestart o) ws none fits same = none o fits same
no_arguments_of (did.Cancel t flag effect) ws none fits same = none (t, (flag, effect)) fits same
no_arguments_of (did.TakeDone g t) ws none fits same = none (g, t) (fits.0, fits.1) same
no_arguments_of (did.Core n k) ws none fits same = none (n, k) (fits.0, fits.1) same
no_arguments_of (did.Maximum n) ws none fits same = none n fits same
no_arguments_of (did.Keep n) ws none fits same = none n fits same
no_arguments_of (did.Tick n) ws none fits same = none n fits same
no_arguments_of (did.CoreTimeout on) ws none fits same = none on tt same

-- where the words are those of no arguments, no answer with the command has them
pub no_did : (c : Command) (ws : List (List ℕ)) → NoArguments c ws → (d : Did) → FitsDid d → command_of d ≡ c → ws ≢ argument_words d
no_did c ws none d fits is = no_arguments_of d ws (subst (λ x. NoArguments x ws) (sym is) none) fits

-- a command that stands alone
pub alone_did : (d : Did) (ws : List (List ℕ)) (r : Option Did) → FitsDid d → argument_words d ≡ [] → (ws ≢ [] → NoArguments (command_of d) ws) → Alone ws d r → ReadsDid (command_of d) ws r
alone_did d ws (Some x) fits bare none is = (subst FitsDid (sym is.1) fits, ap command_of is.1, is.0 ∙ sym bare ∙ ap argument_words (sym is.1))
alone_did d ws None fits bare none is = no_did (command_of d) ws (none is)

-- what is read behind the command is what is read of all words
pub did_read : (ws rest : List (List ℕ)) (w : List ℕ) (c : Command) (r : Option Did) → ws ≡ w ∷ rest → w ≡ command_word c → ReadsDid c rest r → ReadsAs did_words FitsDid ws r
did_read ws rest w c (Some d) is named reads = (reads.0, is ∙ ap (λ x. x ∷ rest) (named ∙ ap command_word (sym reads.1)) ∙ ap (λ x. command_word (command_of d) ∷ x) reads.2)
did_read ws rest w c None is named reads = λ d fits same. let word : command_word (command_of d) ≡ command_word c = cc in let behind : rest ≡ argument_words d = cc in reads d fits (command_word-injective (command_of d) c word) behind

-- a first word that is no command
pub no_command : (ws rest : List (List ℕ)) (w : List ℕ) → ws ≡ w ∷ rest → ((c : Command) → Unit {0} → w ≢ command_word c) → (d : Did) → FitsDid d → ws ≢ did_words d
no_command ws rest w is none d fits same = none (command_of d) tt cc
