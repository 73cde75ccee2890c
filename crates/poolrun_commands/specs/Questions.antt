-- What a command does that asks a question of a record.
use Rattle.std.specs.Prelude.{◌≡◌, ℕ, Bool, true, List, Option, Result}
use Rattle.tp_types.specs.declared.configs.Config.{Config}
use Rattle.tp_types.specs.declared.refusals.PoolError.{PoolError}
use Rattle.tp_record.specs.declared.entries.Entry.{Entry}
use Rattle.tp_audit.specs.Audited.{Judged, settings}
use Rattle.tp_text.specs.declared.watched.WatchedReader.{WatchedReader}
use Rattle.tp_text.specs.declared.watched.WatchedWriter.{WatchedWriter}
use Rattle.tp_text.specs.Watching.{TellsReader, TellsWriter, sink, source}
use Rattle.tp_story.specs.Stories.{Telling, Tells}
use Rattle.tp_story.specs.declared.subjects.Subject.TheVariants as subject
use Rattle.tp_story.specs.Fronts.{Followed, Follows}
use Rattle.tp_story.specs.Counted.{Counts}
use Rattle.tp_story_words.specs.declared.forms.Form.{Form}
use Rattle.tp_story_questions.specs.declared.numbers.Counted.{Counted}
use Rattle.tp_story_questions.specs.Answers.{IsAsked}
use Rattle.tp_story_questions.specs.Saying.{SaysCut, SaysFront, SaysStory}
use Rattle.poolrun_choices.specs.declared.choices.Question.{Question}
use Rattle.poolrun_choices.specs.declared.choices.Question.TheVariants as question

module _ {R W : Type 0} (remaining : R → Option (List ℕ)) (contents : W → Option (List ℕ)) where
  -- a question about the record that a reader gives, by what its account is told and says
  pub record Asks {A Q : Type 0} (settings : A → Config) (is_asked : Q → A → Type 0) (tells : A → List Entry → Type 0) (says : A → List Entry → Form → List ℕ → Bool → Type 0) (q : Q) (form : Form) (before after : WatchedReader R) (old : WatchedWriter W) (r : Result Bool PoolError) (new : WatchedWriter W) : Type 0 where
    pub asked : IsAsked settings is_asked tells says q form (remaining (source before)) (contents (sink old)) (contents (sink new)) r
    pub tells_reader : TellsReader before r after
    pub tells_writer : TellsWriter old r new

  -- the question that the command line chose
  abbrev pub AsksChosen : Question → Form → WatchedReader R → WatchedReader R → WatchedWriter W → Result Bool PoolError → WatchedWriter W → Type 0
  AsksChosen (question.Task t) = Asks (λ (s : Telling). settings s.judge) (λ q s. s.subject ≡ q) Tells SaysStory (subject.Task (record { 0 = t }))
  AsksChosen (question.Slot w) = Asks (λ (s : Telling). settings s.judge) (λ q s. s.subject ≡ q) Tells SaysStory (subject.Slot (record { 0 = w }))
  AsksChosen (question.Now until) = Asks (λ (f : Followed). settings f.judge) (λ q f. f.until ≡ q) Follows SaysFront until
  AsksChosen (question.Stats top) = Asks (λ (c : Counted). settings c.stats.judge) (λ q c. c.top ≡ q) (λ c. Counts c.stats) (λ c h form out holds. holds ≡ true) top
  AsksChosen question.Cut = Asks settings (λ q a. Unit {0}) Judged SaysCut (tt {0})
