-- What the command diff does.
use Rattle.std.specs.Prelude.{◌≡◌, ℕ, Bool, true, false, List, [], ◌∷◌, Option, Some, None, Result, Ok, Err}
use Rattle.std.specs.Io.KnownBytes.{Appends}
use Rattle.std.specs.List.{flat_map}
use Rattle.std.specs.declared.vec.Vec.{Vec}
use Rattle.std.specs.declared.alloc.Global.{Global}
use Rattle.tp_types.specs.declared.refusals.PoolError.{PoolError}
use Rattle.tp_types.specs.declared.refusals.PoolError.TheVariants.{WriteFailed}
use Rattle.tp_types.specs.declared.tasks.Fate.{Fate}
use Rattle.tp_text.specs.declared.watched.WatchedReader.{WatchedReader}
use Rattle.tp_text.specs.declared.watched.WatchedWriter.{WatchedWriter}
use Rattle.tp_text.specs.Watching.{sink, source}
use Rattle.tp_text_record.specs.Reading.{OfReader}
use Rattle.tp_story_words.specs.declared.forms.Form.{Form}
use Rattle.tp_story_claims.specs.declared.endings.Otherwise.{Otherwise}
use Rattle.tp_story_claims.specs.Endings.{AreFatesOf, AreOtherwise, end_line, tasks_of}

-- no task ended otherwise
abbrev pub is_none : List Otherwise → Bool
is_none [] = true
is_none (o ∷ os) = false

-- of the fates of two records it is told which tasks ended otherwise, and whether none did; nothing where a record has a flaw
abbrev pub Says : Form → Option (Vec (Option Fate) Global) → Option (Vec (Option Fate) Global) → List ℕ → Bool → Type 0
Says f (Some a) (Some b) out same =
    (found : List Otherwise) × AreOtherwise a.items b.items (tasks_of a.items b.items) found × (out ≡ flat_map (end_line f) found) × (same ≡ is_none found)
Says f None b out same = (out ≡ []) × (same ≡ false)
Says f (Some a) None out same = (out ≡ []) × (same ≡ false)

-- the fates of the tasks of the records of two texts were set side by side, and this is said of them
pub record AreSet (f : Form) (one other out : List ℕ) (same : Bool) : Type 0 where
  pub first : Option (Vec (Option Fate) Global)
  pub second : Option (Vec (Option Fate) Global)
  pub first_fates : AreFatesOf one first
  pub second_fates : AreFatesOf other second
  pub says : Says f first second out same

module _ {R S W : Type 0} (one_left : R → Option (List ℕ)) (other_left : S → Option (List ℕ)) (contents : W → Option (List ℕ)) where
  -- what is said of the fates in two records that readers give is written; a refusal has written nothing, but where the writer failed
  abbrev pub SetsFates : Form → WatchedReader R → WatchedReader S → WatchedWriter W → Result Bool PoolError → WatchedWriter W → Type 0
  SetsFates f one other old (Ok same) new =
      (out : List ℕ) × OfReader (one_left (source one)) (λ a. OfReader (other_left (source other)) (λ b. AreSet f a b out same)) × Appends (contents (sink old)) (contents (sink new)) out
  SetsFates f one other old (Err WriteFailed) new = Unit {0}
  SetsFates f one other old (Err e) new = new ≡ old
