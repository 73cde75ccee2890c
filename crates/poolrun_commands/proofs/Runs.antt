-- The run of a scenario.
use Rattle.std.proofs.Common.{◌≡◌, ◌≢◌, ◌⊎◌, ◌==◌, inl, inr, ℕ, Bool, true, false, List, [], Option, Some, None, Result, Ok, Err, IfSome, IfOk, unwrap_or, refl, sym, ◌∙◌, ap, subst}
use Rattle.std.specs.Io.KnownBytes.{Keeps}
use Rattle.std.proofs.KnownBytes.{Keeps-refl}
use Rattle.tp_types.specs.declared.configs.Config.{Config}
use Rattle.tp_types.specs.declared.refusals.PoolError.{PoolError}
use Rattle.tp_types.specs.declared.refusals.PoolError.TheVariants.{NoMemory, ReadFailed, WriteFailed}
use Rattle.tp_text.specs.declared.watched.WatchedWriter.{WatchedWriter}
use Rattle.tp_text.specs.Watching.{TellsWriter}
use Rattle.tp_text.proofs.Outputs.{known_or}
use Rattle.tp_text.proofs.Watchings.{none_written, not_unread, not_unwritten, write_refused}
use Rattle.tp_scenario.specs.declared.listeners.Both.{Both}
use Rattle.tp_scenario.specs.Played.{Ending, IsPlayed, IsRun}
use Rattle.tp_scenario.proofs.Endings.{ran_from, unread}
use Rattle.tp_scenario.specs.Plays.{Answered, IsPlayOf, RefusesPlay, refusals_in}
use Rattle.poolrun_commands.specs.declared.records.Recording.{Recording}
use Rattle.poolrun_commands.specs.declared.refusals.Refusals.{Refusals}
use Rattle.poolrun_commands.specs.Records.{IsRecordOf}
use Rattle.poolrun_choices.specs.declared.choices.Playing.{Playing}
use Rattle.poolrun_commands.specs.Steps.{IsPassed, IsRecordRun, OfText, Plays, PrintsRecord, ending}

known_as : (input : Option (List ℕ)) (text got : List ℕ) → got ≡ text → IfSome input (λ xs. text ≡ xs) → IfSome input (λ xs. got ≡ xs)
known_as None text got is known = tt
known_as (Some xs) text got is known = is ∙ known

-- what holds of a text holds of what each reader gave that gave it
pub of_text : (input : Option (List ℕ)) (text : List ℕ) (P : List ℕ → Type 0) → IfSome input (λ xs. text ≡ xs) → OfText (Some text) P → OfText input P
of_text input text P known of = (of.0, known_as input text of.0 of.1 known, of.2)

record_from : (input old new : Option (List ℕ)) (text : List ℕ) (r : Result Bool PoolError) → IfSome input (λ xs. text ≡ xs) → IsRecordRun (Some text) old new r → IsRecordRun input old new r
record_from input old new text (Ok passed) known run = of_text input text (λ t. PrintsRecord t old new) known run
record_from input old new text (Err ReadFailed) known run = run
record_from input old new text (Err WriteFailed) known run = tt
record_from input old new text (Err e) known run = (of_text input text (λ t. RefusesPlay t e) known run.0, run.1)

passed_from : (input : Option (List ℕ)) (text : List ℕ) (strict : Bool) (r : Result Bool PoolError) → IfSome input (λ xs. text ≡ xs) → IfOk r (λ b. OfText (Some text) (λ t. IsPassed strict t b)) → IfOk r (λ b. OfText input (λ t. IsPassed strict t b))
passed_from input text strict (Ok b) known passed = of_text input text (λ t. IsPassed strict t b) known passed
passed_from input text strict (Err e) known passed = tt

-- a run over a text is one from each reader that gave it
pub plays_from : {W : Type 0} (contents : W → Option (List ℕ)) (playing : Playing) (input : Option (List ℕ)) (text : List ℕ) (old new : WatchedWriter W) (r : Result Bool PoolError) → IfSome input (λ xs. text ≡ xs) → Plays contents playing (Some text) old r new → Plays contents playing input old r new
plays_from contents playing input text old new r known plays = record {
  output = λ no. ran_from input (contents old.inner) (contents new.inner) text (ending r) known (plays.output no);
  printed = λ yes. record_from input (contents old.inner) (contents new.inner) text r known (plays.printed yes);
  passed = passed_from input text playing.is_strict r known plays.passed;
  tells_writer = plays.tells_writer;
}

record_unread : (input old : Option (List ℕ)) (e : PoolError) → (e ≡ ReadFailed) ⊎ (e ≡ NoMemory) → IsRecordRun input old old (Err e)
record_unread input old e (inl is) = subst (λ x. IsRecordRun input old old (Err x)) (sym is) (Keeps-refl old)
record_unread input old e (inr is) = subst (λ x. IsRecordRun input old old (Err x)) (sym is) ((unwrap_or input [], known_or input, inl refl), Keeps-refl old)

-- a run that was not read
pub plays_unread : {W : Type 0} (contents : W → Option (List ℕ)) (playing : Playing) (input : Option (List ℕ)) (old : WatchedWriter W) (e : PoolError) → (e ≡ ReadFailed) ⊎ (e ≡ NoMemory) → Plays contents playing input old (Err e) old
plays_unread contents playing input old e refused = record {
  output = λ no. unread input (contents old.inner) e refused;
  printed = λ yes. record_unread input (contents old.inner) e refused;
  passed = tt;
  tells_writer = none_written old (Err e) (not_unwritten e refused);
}

-- a run whose record was refused
pub record_refused : (text : List ℕ) (old : Option (List ℕ)) (e : PoolError) → RefusesPlay text e → IsRecordRun (Some text) old old (Err e)
record_refused text old ReadFailed refuses = Keeps-refl old
record_refused text old WriteFailed refuses = tt
record_refused text old e refuses = ((text, refl, refuses), Keeps-refl old)

-- a run whose record was not written
pub record_unwritten : {W : Type 0} (contents : W → Option (List ℕ)) (text : List ℕ) (old new : WatchedWriter W) (e : PoolError) → (e ≡ NoMemory) ⊎ (e ≡ WriteFailed)
    → (◌≡◌ {A = Result (Unit {0}) PoolError} (Err e) (Err NoMemory) → new ≡ old) → IsRecordRun (Some text) (contents old.inner) (contents new.inner) (Err e)
record_unwritten contents text old new e (inl is) kept =
    subst (λ x. IsRecordRun (Some text) (contents old.inner) (contents new.inner) (Err x)) (sym is)
    ((text, refl, inl refl), subst (λ w. Keeps (contents old.inner) (contents w.inner)) (sym (kept (ap (λ x. Err x) is))) (Keeps-refl (contents old.inner)))
record_unwritten contents text old new e (inr is) kept = subst (λ x. IsRecordRun (Some text) (contents old.inner) (contents new.inner) (Err x)) (sym is) tt

-- and that is no failure to read
pub unwritten_reads : (e : PoolError) → (e ≡ NoMemory) ⊎ (e ≡ WriteFailed) → ◌≢◌ {A = Result Bool PoolError} (Err e) (Err ReadFailed)
unwritten_reads e (inl is) same = let both : ◌≡◌ {A = Result Bool PoolError} (Err NoMemory) (Err ReadFailed) = ap (λ x. Err x) (sym is) ∙ same in cc
unwritten_reads e (inr is) same = not_unread e is same

-- a run over a text wrote what comes of it
pub run_played : (text : List ℕ) (old new : Option (List ℕ)) → IsRun (Some text) old new (Ok tt) → (out : List ℕ) × IsPlayed text out (Ok tt)
run_played text old new run = (run.1, subst (λ x. IsPlayed x run.1 (Ok tt)) run.2 run.3)

passed_of : (text : List ℕ) (strict : Bool) (r : Result Bool PoolError) → IfOk r (IsPassed strict text) → IfOk r (λ b. OfText (Some text) (λ t. IsPassed strict t b))
passed_of text strict (Ok b) passed = (text, refl, passed)
passed_of text strict (Err e) passed = tt

-- a run that went to its end
pub plays_whole : {W : Type 0} (contents : W → Option (List ℕ)) (playing : Playing) (text : List ℕ) (old new : WatchedWriter W) (passed : Bool) → playing.prints_record ≡ false
    → IsRun (Some text) (contents old.inner) (contents new.inner) (Ok tt) → TellsWriter {A = Unit {0}} old (Ok tt) new → IsPassed playing.is_strict text passed → Plays contents playing (Some text) old (Ok passed) new
plays_whole contents playing text old new passed prints run tells passes = record {
  output = λ is. run;
  printed = λ is. let both : false ≡ true = sym prints ∙ is in cc;
  passed = (text, refl, passes);
  tells_writer = (λ is. cc, λ other. tells.1 (λ is. cc));
}

tells_refused : {W : Type 0} (old new : WatchedWriter W) (e : PoolError) → TellsWriter {A = Unit {0}} old (Err e) new → TellsWriter {A = Bool} old (Err e) new
tells_refused old new e tells = write_refused old new e tells

-- a run that was refused
pub plays_refused : {W : Type 0} (contents : W → Option (List ℕ)) (playing : Playing) (text : List ℕ) (old new : WatchedWriter W) (e : PoolError) → playing.prints_record ≡ false
    → IsRun (Some text) (contents old.inner) (contents new.inner) (Err e) → TellsWriter {A = Unit {0}} old (Err e) new → Plays contents playing (Some text) old (Err e) new
plays_refused contents playing text old new e prints run tells = record {
  output = λ is. run;
  printed = λ is. let both : false ≡ true = sym prints ∙ is in cc;
  passed = tt;
  tells_writer = tells_refused old new e tells;
}

-- a run whose record is to be printed
pub plays_record : {W : Type 0} (contents : W → Option (List ℕ)) (playing : Playing) (text : List ℕ) (old new : WatchedWriter W) (r : Result Bool PoolError) → playing.prints_record ≡ true
    → IsRecordRun (Some text) (contents old.inner) (contents new.inner) r → IfOk r (IsPassed playing.is_strict text) → TellsWriter old r new → Plays contents playing (Some text) old r new
plays_record contents playing text old new r prints run passed tells = record {
  output = λ is. let both : true ≡ false = sym prints ∙ is in cc;
  printed = λ is. run;
  passed = passed_of text playing.is_strict r passed;
  tells_writer = tells;
}

-- what is heard of a play: whether each step was accepted
abbrev pub heard_refusals : Refusals → Config → List Answered → Type 0
heard_refusals r c xs = r.is_whole ≡ (refusals_in xs == 0)

-- and its record
abbrev pub heard_record : Both Recording Refusals → Config → List Answered → Type 0
heard_record b c xs = IsRecordOf b.one c xs × heard_refusals b.other c xs

-- beside one of whom nothing is said
abbrev pub heard_beside : {A : Type 0} → Both A Refusals → Config → List Answered → Type 0
heard_beside b c xs = Unit {0} × heard_refusals b.other c xs

-- a play that went to its end had memory
pub had_memory : (r : Ending) → r ≡ Ok tt → r ≢ Err NoMemory
had_memory r is none = let both : ◌≡◌ {A = Ending} (Ok tt) (Err NoMemory) = sym is ∙ none in cc

-- whether a play is let pass
pub passes_so : (text : List ℕ) (strict passed whole : Bool) (c : Config) (xs : List Answered) → IsPlayOf text c None xs → whole ≡ (refusals_in xs == 0) → (strict ≡ false → passed ≡ true) → (strict ≡ true → passed ≡ whole) → IsPassed strict text passed
passes_so text false passed whole c xs plays heard each all = each refl
passes_so text true passed whole c xs plays heard each all = (c, xs, plays, all refl ∙ heard)
