-- What is written of a judgment, and what a refused audit leaves.
use Rattle.std.proofs.Common.{◌≡◌, ◌≢◌, Bool, true, false, ◌⊎◌, ◌<◌, ◌≤◌, ℕ, List, [], ◌++◌, length, reverse, Option, Some, None, Result, Ok, Err, IfErr, IfOk, IfSome, IsOk, IsOkUnless, unwrap_or, refl, sym, ◌∙◌, ap, subst, arith, inl, inr}
use Rattle.std.proofs.KnownBytes.{Keeps-refl}
use Rattle.tp_types.specs.declared.configs.Config.{Config}
use Rattle.tp_types.specs.declared.refusals.PoolError.{PoolError}
use Rattle.tp_types.specs.declared.refusals.PoolError.TheVariants.{NoMemory, ReadFailed, WriteFailed}
use Rattle.tp_types.specs.declared.states.Counts.{Counts}
use Rattle.tp_types.specs.declared.states.RunState.{RunState}
use Rattle.tp_types.specs.declared.states.RunState.TheVariants.{Running, Shutdown, Stop, Tidying, Terminated}
use Rattle.tp_types.specs.RunState.{state_rank}
use Rattle.tp_record.specs.declared.entries.Entry.{Entry}
use Rattle.tp_record.specs.Fields.{rank}
use Rattle.tp_audit_plain.specs.declared.summary.Summary.{Summary}
use Rattle.tp_audit_plain.specs.Audit.{IsSummary}
use Rattle.tp_text.specs.EndLines.{counts_line, state_at, state_line}
use Rattle.tp_text.proofs.Outputs.{known_or}
use Rattle.tp_text.proofs.Refusals.{is_outer, outer_err}
use Rattle.tp_text.specs.declared.watched.WatchedReader.{WatchedReader}
use Rattle.tp_text.specs.Watching.{TellsReader}
use Rattle.tp_text.proofs.Watchings.{not_read, not_written, read_refused}
use Rattle.tp_text_record.specs.declared.reading.Body.{Body}
use Rattle.tp_text_record.specs.declared.versions.Version.{Version}
use Rattle.tp_text_record.specs.ReadRecord.{IsRefusedText}
use Rattle.tp_text_record.specs.Reading.{IsTaken, OfReader}
use Rattle.tp_text_record.proofs.LinesRead.{refused_inner, whole_text}
use Rattle.tp_audit.specs.Audited.{settings}
use Rattle.tp_text_record.specs.declared.judging.Judging.{Judging}
use Rattle.tp_text_record.specs.declared.judgments.Judgment.{Judgment}
use Rattle.tp_text_record.specs.AuditText.{IsAudit, IsJudged, JudgesFrom, JudgesText, legal_line, legal_lines}
use Rattle.tp_text_record.specs.Judging.{IsToldBy}

state_back : (s : RunState) → state_at (state_rank s) ≡ s
state_back Running = refl
state_back Shutdown = refl
state_back Stop = refl
state_back Tidying = refl
state_back Terminated = refl

-- the lines of a summary are those of the record
pub lines_of_summary : (c : Config) (es : List Entry) (s : Summary) (n : ℕ) (out : List ℕ) → IsSummary c (reverse es) s → n ≡ length es → out ≡ legal_line n ++ (state_line s.state ++ counts_line s.counts) → out ≡ legal_lines c es
lines_of_summary c es s n out is counted written =
    written ∙ ap (λ x. legal_line x ++ (state_line s.state ++ counts_line s.counts)) counted
    ∙ ap (λ x. legal_line (length es) ++ (state_line x ++ counts_line s.counts)) (sym (state_back s.state) ∙ ap state_at is.rank)
    ∙ ap (λ (x : Counts). legal_line (length es) ++ (state_line (state_at (rank (reverse es))) ++ counts_line x)) is.counts

-- an audit whose text was not read
pub unread : (input old : Option (List ℕ)) (e : PoolError) → (e ≡ ReadFailed) ⊎ (e ≡ NoMemory) → IsAudit input old old (Err e)
unread input old e (inl is) = subst (λ x. IsAudit input old old (Err x)) (sym is) (Keeps-refl old)
unread input old e (inr is) = subst (λ x. IsAudit input old old (Err x)) (sym is) ((unwrap_or input [], known_or input, inl refl), Keeps-refl old)

-- an audit whose text was refused
pub refused : (input old : Option (List ℕ)) (text : List ℕ) (e : PoolError) → IfSome input (λ xs. text ≡ xs) → IsRefusedText text e → IsAudit input old old (Err e)
refused input old text ReadFailed known is = Keeps-refl old
refused input old text WriteFailed known is = tt
refused input old text e known is = ((text, known, is), Keeps-refl old)

-- a text that was read whole is not too long
pub not_long : (input : Option (List ℕ)) (text : List ℕ) (P : Type 0) → IfSome input (λ xs. text ≡ xs) → length text ≤ 1048576 → IfSome input (λ xs. 1048576 < length xs → P)
not_long None text P known short = tt
not_long (Some xs) text P known short = λ long. absurd (omega (arith, ap length known))

-- an audit whose judgment was not written
pub unwritten : (input old new : Option (List ℕ)) (e : PoolError) → e ≡ WriteFailed → IsAudit input old new (Err e)
unwritten input old new e is = subst (λ x. IsAudit input old new (Err x)) (sym is) tt

-- what a text is judged from the entries that were taken from it

abbrev pub about_pool : Judging → Version → Config → Type 0
about_pool j v c = settings j.auditor ≡ c

abbrev pub told : Judging → List Entry → Type 0
told j es = IsToldBy j.auditor j.flaw es

-- what is judged of all entries
abbrev pub JudgesAll : Body Judging → Result Judgment PoolError → Type 0
JudgesAll b r = IfOk r (λ j. (es : List Entry) → IsToldBy b.taker.auditor b.taker.flaw es → b.entries ≡ length es → IsJudged (settings b.taker.auditor) es j.legal j.lines.items)

pub judged_text : (text : List ℕ) (b : Body Judging) (r : Result Judgment PoolError) → IsTaken about_pool told b text → b.is_over ≡ true → JudgesAll b r → IsOkUnless r NoMemory → JudgesText text r
judged_text text b (Ok j) is over judged memory = record {
  version = b.version;
  config = is.config;
  entries = is.entries;
  has_text = is.has_text;
  accepted = is.accepted;
  is_text = whole_text about_pool told b text is over;
  judged = subst (λ x. IsJudged x is.entries j.legal j.lines.items) is.about_pool (judged is.entries is.taken is.counted);
}
judged_text text b (Err e) is over judged memory = inl memory

-- what is judged of a text is judged of what each reader gives that gave it
pub judged_from : (input : Option (List ℕ)) (text : List ℕ) (r : Result Judgment PoolError) → IfSome input (λ xs. text ≡ xs) → JudgesText text r → JudgesFrom input r
judged_from input text (Ok j) known is = (text, known, is)
judged_from input text (Err e) known is = inr (text, known, is)

pub judged_stream : (input : Option (List ℕ)) (b : Body Judging) (r : Result Judgment PoolError) → OfReader input (IsTaken about_pool told b) → b.is_over ≡ true → JudgesAll b r → IsOkUnless r NoMemory → JudgesFrom input r
judged_stream input b r of over judged memory = judged_from input of.0 r of.1 (judged_text of.0 b r of.2 over judged memory)

-- a judgment brings no refusal of a reader or a writer
pub judged_inner : (r : Result Judgment PoolError) → IsOkUnless r NoMemory → outer_err r ≡ false
judged_inner (Ok j) memory = refl
judged_inner (Err e) memory = ap is_outer memory

-- an audit of what was refused, or not read
pub refused_from : (input old : Option (List ℕ)) (e : PoolError) → (e ≡ ReadFailed) ⊎ OfReader input (λ text. IsRefusedText text e) → IsAudit input old old (Err e)
refused_from input old e (inl is) = subst (λ x. IsAudit input old old (Err x)) (sym is) (Keeps-refl old)
refused_from input old e (inr of) = refused input old of.0 e of.1 of.2

pub refused_unwritten : (A : Type 0) (input : Option (List ℕ)) (e : PoolError) → (e ≡ ReadFailed) ⊎ OfReader input (λ text. IsRefusedText text e) → ◌≢◌ {A = Result A PoolError} (Err e) (Err WriteFailed)
refused_unwritten A input e (inl is) same = let f : ◌≡◌ {A = Result A PoolError} (Err ReadFailed) (Err WriteFailed) = ap (λ x. Err x) (sym is) ∙ same in cc
refused_unwritten A input e (inr of) same = not_written {A = A} (Err e) (refused_inner A of.0 e of.2) same

-- a whole text is judged, and what comes of it is no failure to read
pub judged_read : (text : List ℕ) (j : Result Judgment PoolError) (r : Result Bool PoolError) → JudgesText text j → IfErr j (λ e. r ≡ Err e) → (IsOk j → r ≢ Err ReadFailed) → r ≢ Err ReadFailed
judged_read text (Ok j) r is stays reads same = reads refl same
judged_read text (Err e) r is stays reads same = not_read {A = Bool} (Err e) (refused_inner Bool text e is) (sym stays ∙ same)

-- what a stream tells of its reader, told of what came of its judgment
pub judged_tells : {R : Type 0} (old new : WatchedReader R) (j : Result Judgment PoolError) (r : Result Bool PoolError) → TellsReader old j new → IfErr j (λ e. r ≡ Err e) → (IsOk j → r ≢ Err ReadFailed) → TellsReader old r new
judged_tells old new (Ok j) r tells stays reads = (λ is. absurd (reads refl is), λ other. tells.1 (λ is. cc))
judged_tells old new (Err e) r tells stays reads = subst (λ x. TellsReader old x new) (sym stays) (read_refused {A = Judgment} {B = Bool} old new e tells)
