-- What the command draw does.
use Rattle.std.specs.Prelude.{◌≡◌, ℕ, Bool, List, Option, Result}
use Rattle.tp_types.specs.declared.refusals.PoolError.{PoolError}
use Rattle.tp_audit.specs.Audited.{settings}
use Rattle.tp_text.specs.declared.watched.WatchedReader.{WatchedReader}
use Rattle.tp_text.specs.declared.watched.WatchedWriter.{WatchedWriter}
use Rattle.tp_story_words.specs.declared.forms.Form.TheVariants.{Words}
use Rattle.tp_story_drawing.specs.declared.drawings.Drawing.{Drawing}
use Rattle.tp_story_drawing.specs.declared.drawings.Window.{Window}
use Rattle.tp_story_drawing.specs.Drawn.{IsDrawn, Says}
use Rattle.poolrun_commands.specs.Questions.{Asks}

module _ {R W : Type 0} (remaining : R → Option (List ℕ)) (contents : W → Option (List ℕ)) where
  -- the record that a reader gives is drawn within a window
  abbrev pub Draws : Window → WatchedReader R → WatchedReader R → WatchedWriter W → Result Bool PoolError → WatchedWriter W → Type 0
  Draws w = Asks remaining contents (λ (d : Drawing). settings d.auditor) (λ q d. d.window ≡ q) IsDrawn (λ d h form out holds. Says d out holds) w Words
