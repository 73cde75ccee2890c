-- What is told of a reader and a writer, handed on.
use Rattle.std.proofs.Common.{◌≡◌, ◌≢◌, ◌⊎◌, inl, inr, refl, sym, ◌∙◌, ap, true, false, Result, Ok, Err}
use Rattle.tp_types.specs.declared.refusals.PoolError.{PoolError}
use Rattle.tp_types.specs.declared.refusals.PoolError.TheVariants.{NoMemory, ReadFailed, WriteFailed}
use Rattle.tp_text.specs.declared.watched.WatchedReader.{WatchedReader}
use Rattle.tp_text.specs.declared.watched.WatchedWriter.{WatchedWriter}
use Rattle.tp_text.specs.Watching.{TellsReader, TellsWriter}
use Rattle.tp_text.proofs.Refusals.{outer_err, same_outer}

abbrev refusal_or : {A : Type 0} → Result A PoolError → PoolError → PoolError
refusal_or (Ok a) d = d
refusal_or (Err e) d = e

-- what is refused otherwise than a reader or a writer is
pub not_read : {A : Type 0} (r : Result A PoolError) → outer_err r ≡ false → r ≢ Err ReadFailed
not_read r inner is = let e : false ≡ true = sym inner ∙ same_outer r (Err ReadFailed) is in cc

pub not_written : {A : Type 0} (r : Result A PoolError) → outer_err r ≡ false → r ≢ Err WriteFailed
not_written r inner is = let e : false ≡ true = sym inner ∙ same_outer r (Err WriteFailed) is in cc

-- a text was read, and what came of it is another answer
pub read_well : {R A B : Type 0} (old new : WatchedReader R) (a : A) (r : Result B PoolError) → TellsReader {A = A} old (Ok a) new → outer_err r ≡ false → TellsReader old r new
read_well old new a r tells inner = (λ is. absurd (not_read r inner is), λ _. tells.1 (λ is. cc))

-- a text was read, and what came of it was not written
pub read_unwritten : {R A B : Type 0} (old new : WatchedReader R) (a : A) (r : Result B PoolError) → TellsReader {A = A} old (Ok a) new → r ≢ Err ReadFailed → TellsReader old r new
read_unwritten old new a r tells other = (λ is. absurd (other is), λ _. tells.1 (λ is. cc))

-- a text was not read
pub read_refused : {R A B : Type 0} (old new : WatchedReader R) (e : PoolError) → TellsReader {A = A} old (Err e) new → TellsReader {A = B} old (Err e) new
read_refused {R = R} {A = A} {B = B} old new e tells = (
  λ is. tells.0 (ap (λ x. Err x) (ap (λ (r : Result B PoolError). refusal_or r e) is)),
  λ other. tells.1 (λ is. other (ap (λ x. Err x) (ap (λ (r : Result A PoolError). refusal_or r e) is))),
)

-- nothing was written
pub none_written : {W A : Type 0} (w : WatchedWriter W) (r : Result A PoolError) → r ≢ Err WriteFailed → TellsWriter w r w
none_written w r other = (λ is. absurd (other is), λ _. refl)

-- a text was written, and the answer is another
pub written_well : {W A B : Type 0} (old new : WatchedWriter W) (a : A) (r : Result B PoolError) → TellsWriter {A = A} old (Ok a) new → r ≢ Err WriteFailed → TellsWriter old r new
written_well old new a r tells other = (λ is. absurd (other is), λ _. tells.1 (λ is. cc))

-- a text was not written
pub write_refused : {W A B : Type 0} (old new : WatchedWriter W) (e : PoolError) → TellsWriter {A = A} old (Err e) new → TellsWriter {A = B} old (Err e) new
write_refused {W = W} {A = A} {B = B} old new e tells = (
  λ is. tells.0 (ap (λ x. Err x) (ap (λ (r : Result B PoolError). refusal_or r e) is)),
  λ other. tells.1 (λ is. other (ap (λ x. Err x) (ap (λ (r : Result A PoolError). refusal_or r e) is))),
)

-- what was not read is not what was not written
pub not_unwritten : {A : Type 0} (e : PoolError) → (e ≡ ReadFailed) ⊎ (e ≡ NoMemory) → ◌≢◌ {A = Result A PoolError} (Err e) (Err WriteFailed)
not_unwritten {A = A} e (inl is) same = let f : ◌≡◌ {A = Result A PoolError} (Err ReadFailed) (Err WriteFailed) = ap (λ x. Err x) (sym is) ∙ same in cc
not_unwritten {A = A} e (inr is) same = let f : ◌≡◌ {A = Result A PoolError} (Err NoMemory) (Err WriteFailed) = ap (λ x. Err x) (sym is) ∙ same in cc

-- nor the other way round
pub not_unread : {A : Type 0} (e : PoolError) → e ≡ WriteFailed → ◌≢◌ {A = Result A PoolError} (Err e) (Err ReadFailed)
not_unread {A = A} e is same = let f : ◌≡◌ {A = Result A PoolError} (Err WriteFailed) (Err ReadFailed) = ap (λ x. Err x) (sym is) ∙ same in cc
