-- How a command ends.
use Rattle.std.proofs.Common.{◌≡◌, ◌⊎◌, ◌<◌, ◌≤◌, inl, inr, ℕ, Bool, List, length, Option, Some, None, Result, Ok, Err, IfSome, OnOk, IsOkUnless, ap, subst, arith}
use Rattle.std.specs.Io.KnownBytes.{Appends}
use Rattle.tp_types.specs.declared.refusals.PoolError.{PoolError}
use Rattle.tp_types.specs.declared.refusals.PoolError.TheVariants.{NoMemory, ReadFailed, WriteFailed}
use Rattle.tp_text.specs.declared.watched.WatchedWriter.{WatchedWriter}
use Rattle.tp_text.specs.EndLines.{refusal_line}
use Rattle.tp_text.specs.Watching.{TellsWriter}
use Rattle.poolrun_commands.specs.Status.{IsFinished}

-- a refusal's line was written, or the writer failed
pub written_or_failed : {W : Type 0} (contents : W → Option (List ℕ)) (old new : WatchedWriter W) (e : PoolError) (line : List ℕ) (r : Result (Unit {0}) PoolError) → line ≡ refusal_line e
    → OnOk r (Appends (contents old.inner) (contents new.inner) line) → IsOkUnless r WriteFailed → TellsWriter old r new → IsFinished contents old (Err e) new
written_or_failed contents old new e line (Ok u) is appends only tells = inl (subst (Appends (contents old.inner) (contents new.inner)) is appends, tells.1 (λ same. cc))
written_or_failed contents old new e line (Err x) is appends only tells = inr (tells.0 (ap Err only))

-- a text that was not read
pub not_read_long : (input : Option (List ℕ)) (e : PoolError) → (e ≡ ReadFailed) ⊎ (e ≡ NoMemory) → IfSome input (λ text. 1048576 < length text → (◌≡◌ {A = Result Bool PoolError} (Err e) (Err ReadFailed)) ⊎ (◌≡◌ {A = Result Bool PoolError} (Err e) (Err NoMemory)))
not_read_long None e refused = tt
not_read_long (Some text) e (inl is) = λ long. inl (ap Err is)
not_read_long (Some text) e (inr is) = λ long. inr (ap Err is)

-- a text that was read whole is not too long
pub not_long : (input : Option (List ℕ)) (text : List ℕ) (P : Type 0) → IfSome input (λ xs. text ≡ xs) → length text ≤ 1048576 → IfSome input (λ xs. 1048576 < length xs → P)
not_long None text P known short = tt
not_long (Some xs) text P known short = λ long. absurd (omega (arith, long, ap length known))
