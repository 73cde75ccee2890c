-- What the command check does.
use Rattle.std.specs.Prelude.{◌≡◌, ◌⊎◌, ℕ, List, Option, Err, length}
use Rattle.std.specs.declared.alloc.Global.{Global}
use Rattle.std.specs.declared.vec.Vec.{Vec}
use Rattle.tp_types.specs.declared.refusals.PoolError.TheVariants.{NoMemory}
use Rattle.tp_audit.specs.Audited.{settings}
use Rattle.tp_text.specs.declared.watched.WatchedReader.{WatchedReader}
use Rattle.tp_text.specs.declared.watched.WatchedWriter.{WatchedWriter}
use Rattle.tp_story_words.specs.declared.forms.Form.{Form}
use Rattle.tp_story_claims.specs.declared.checks.Checking.{Checking}
use Rattle.tp_story_claims.specs.declared.claims.Claim.{Claim}
use Rattle.tp_story_claims.specs.Checks.{IsAsked, IsChecked, Says}
use Rattle.poolrun_commands.specs.Questions.{Asks}
use Rattle.poolrun_commands.specs.Status.{Ends, IsFinished}

module _ {R W : Type 0} (remaining : R → Option (List ℕ)) (contents : W → Option (List ℕ)) where
  -- so many claims were held against the record, or a word was no claim, or there was no memory for the claims; then nothing was read
  abbrev pub Checks : ℕ → Form → WatchedReader R → WatchedReader R → WatchedWriter W → ℕ → WatchedWriter W → Type 0
  Checks n form before after old status new =
      ((claims : Vec Claim Global) × (length claims.items ≡ n) × Ends contents (Asks remaining contents (λ (k : Checking). settings k.stats.judge) (λ q k. IsAsked q.items k) IsChecked (λ k h f out holds. Says k h holds) claims form before after old) status new)
      ⊎ ((after ≡ before) × (((status ≡ 2) × (new ≡ old)) ⊎ ((status ≡ 1) × IsFinished contents old (Err NoMemory) new)))
