-- The question that was chosen.
use Rattle.std.proofs.Common.{◌≡◌, ℕ, List, Option, sym, subst}
use Rattle.tp_text.specs.declared.watched.WatchedReader.{WatchedReader}
use Rattle.tp_text.specs.declared.watched.WatchedWriter.{WatchedWriter}
use Rattle.tp_story_words.specs.declared.forms.Form.{Form}
use Rattle.poolrun_choices.specs.declared.choices.Question.{Question}
use Rattle.poolrun_commands.specs.Questions.{AsksChosen}
use Rattle.poolrun_commands.specs.Status.{Ends}

module _ {R W : Type 0} (remaining : R → Option (List ℕ)) (contents : W → Option (List ℕ)) (before after : WatchedReader R) (old new : WatchedWriter W) (status : ℕ) where
  abbrev pub Asked : Question → Form → Type 0
  Asked q f = Ends contents (AsksChosen remaining contents q f before after old) status new

  -- what holds of a question holds of one that is the same
  pub chosen : (q p : Question) (f : Form) → q ≡ p → Asked p f → Asked q f
  chosen q p f same asked = subst (λ x. Asked x f) (sym same) asked
