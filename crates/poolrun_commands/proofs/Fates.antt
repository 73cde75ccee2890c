-- The fates of two records, side by side.
use Rattle.std.proofs.Common.{◌≡◌, ℕ, Bool, List, Option, Result, Err, Ok, IfOk, IsOkUnless, refl, sym, subst}
use Rattle.std.specs.Io.KnownBytes.{Appends}
use Rattle.std.specs.declared.vec.Vec.{Vec}
use Rattle.std.specs.declared.alloc.Global.{Global}
use Rattle.tp_types.specs.declared.refusals.PoolError.{PoolError}
use Rattle.tp_types.specs.declared.refusals.PoolError.TheVariants.{WriteFailed}
use Rattle.tp_types.specs.declared.tasks.Fate.{Fate}
use Rattle.tp_text.specs.declared.watched.WatchedReader.{WatchedReader}
use Rattle.tp_text.specs.declared.watched.WatchedWriter.{WatchedWriter}
use Rattle.tp_text.specs.Watching.{sink, source}
use Rattle.tp_text_record.specs.Reading.{OfReader}
use Rattle.tp_story_words.specs.declared.forms.Form.{Form}
use Rattle.tp_story_claims.specs.Endings.{AreFatesOf}
use Rattle.poolrun_commands.specs.Differences.{Says, SetsFates}

module _ {R S W : Type 0} (one_left : R → Option (List ℕ)) (other_left : S → Option (List ℕ)) (contents : W → Option (List ℕ)) (f : Form) (one : WatchedReader R) (other : WatchedReader S) (old : WatchedWriter W) where
  -- a refusal has written nothing
  pub sets_refused : (e : PoolError) → SetsFates one_left other_left contents f one other old (Err e) old
  sets_refused WriteFailed = tt
  sets_refused e = refl

  -- a writer failed
  sets_unwritten : (e : PoolError) (new : WatchedWriter W) → e ≡ WriteFailed → SetsFates one_left other_left contents f one other old (Err e) new
  sets_unwritten e new is = subst (λ x. SetsFates one_left other_left contents f one other old (Err x) new) (sym is) tt

  -- what is said of both was written, or the writer failed
  pub sets_told : (first second : Option (Vec (Option Fate) Global)) (out : List ℕ) (same : Bool) (r : Result Bool PoolError) (new : WatchedWriter W) → OfReader (one_left (source one)) (λ a. AreFatesOf a first)
      → OfReader (other_left (source other)) (λ b. AreFatesOf b second) → Says f first second out same → IfOk r (λ b. (b ≡ same) × Appends (contents (sink old)) (contents (sink new)) out) → IsOkUnless r WriteFailed
      → SetsFates one_left other_left contents f one other old r new
  sets_told first second out same (Ok b) new of_one of_other says wrote only =
      let so : Says f first second out b = subst (λ x. Says f first second out x) (sym wrote.0) says in
      (out, (of_one.0, of_one.1, (of_other.0, of_other.1, record { first = first; second = second; first_fates = of_one.2; second_fates = of_other.2; says = so })), wrote.1)
  sets_told first second out same (Err e) new of_one of_other says wrote only = sets_unwritten e new only
