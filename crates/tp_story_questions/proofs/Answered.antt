-- What comes of a question.
use Rattle.std.proofs.Common.{◌≡◌, ◌≢◌, ◌⊎◌, inl, inr, ℕ, Bool, false, List, Option, Result, Ok, Err, IfOk, IfSome, IsOkUnless, refl, sym, ◌∙◌, ap, subst}
use Rattle.std.proofs.KnownBytes.{Keeps-refl}
use Rattle.tp_types.specs.declared.configs.Config.{Config}
use Rattle.tp_types.specs.declared.refusals.PoolError.{PoolError}
use Rattle.tp_types.specs.declared.refusals.PoolError.TheVariants.{NoMemory, ReadFailed, WriteFailed}
use Rattle.tp_record.specs.declared.entries.Entry.{Entry}
use Rattle.tp_text.specs.declared.watched.WatchedReader.{WatchedReader}
use Rattle.tp_text.specs.declared.watched.WatchedWriter.{WatchedWriter}
use Rattle.tp_text.specs.Watching.{TellsReader, TellsWriter}
use Rattle.tp_text.proofs.Refusals.{is_outer, outer_err}
use Rattle.tp_text.proofs.Watchings.{none_written, not_written, read_refused}
use Rattle.tp_text_record.specs.declared.reading.Body.{Body}
use Rattle.tp_text_record.specs.declared.versions.Version.{Version}
use Rattle.tp_text_record.specs.ReadRecord.{IsRefusedText}
use Rattle.tp_text_record.specs.Reading.{IsTaken, OfReader}
use Rattle.tp_text_record.proofs.LinesRead.{refused_inner}
use Rattle.tp_story_words.specs.declared.forms.Form.{Form}
use Rattle.tp_story_questions.specs.declared.accounts.Said.{Said}
use Rattle.tp_story_questions.specs.declared.asking.Asking.{Asking}
use Rattle.tp_story_questions.specs.Answers.{AnswersFrom, IsAnswer, IsAsked, IsWritten}
use Rattle.tp_story_questions.specs.Asking.{IsAskedOf, IsToldAll, SaysOfAll}

module _ {A Q : Type 0} (settings : A → Config) (is_asked : Q → A → Type 0) (tells : A → List Entry → Type 0) (says : A → List Entry → Form → List ℕ → Bool → Type 0) where
  abbrev pub about : Q → Asking A → Version → Config → Type 0
  about q a v c = IsAskedOf settings is_asked q a.account c

  abbrev pub took : Asking A → List Entry → Type 0
  took a es = IsToldAll settings tells a.account a.flaw es

  -- what is said of the entries of a text is the answer to a question about it
  pub answered_text : (q : Q) (form : Form) (text out : List ℕ) (holds : Bool) (b : Body (Asking A)) → IsTaken (about q) took b text
      → ((es : List Entry) → took b.taker es → SaysOfAll settings says b.taker.account b.taker.flaw es form out holds) → IsAnswer settings is_asked tells says q form text out holds
  answered_text q form text out holds b taken said = record {
    config = taken.config;
    entries = taken.entries;
    is_record = record {
      version = b.version;
      is_over = b.is_over;
      left = taken.left;
      has_text = taken.has_text;
      accepted = taken.accepted;
      is_text = taken.is_text;
      is_part = taken.is_part;
      none_left = taken.none_left;
    };
    account = b.taker.account;
    flaw = b.taker.flaw;
    asked = taken.about_pool;
    told = taken.taken;
    said = said taken.entries taken.taken;
  }

  -- what is said of the entries of a text that a reader gave, or that memory gave out
  pub answered : (q : Q) (form : Form) (input : Option (List ℕ)) (b : Body (Asking A)) (r : Result Said PoolError) → OfReader input (IsTaken (about q) took b)
      → IfOk r (λ s. (es : List Entry) → took b.taker es → SaysOfAll settings says b.taker.account b.taker.flaw es form s.text.items s.holds) → IsOkUnless r NoMemory → AnswersFrom settings is_asked tells says q form input r
  answered q form input b (Ok s) of said memory = (of.0, of.1, answered_text q form of.0 s.text.items s.holds b of.2 said)
  answered q form input b (Err e) of said memory = inr (of.0, of.1, inl memory)

  refused : (q : Q) (form : Form) (input old : Option (List ℕ)) (text : List ℕ) (e : PoolError) → IfSome input (λ xs. text ≡ xs) → IsRefusedText text e → IsAsked settings is_asked tells says q form input old old (Err e)
  refused q form input old text ReadFailed known is = Keeps-refl old
  refused q form input old text WriteFailed known is = tt
  refused q form input old text e known is = ((text, known, is), Keeps-refl old)

  refused_from : (q : Q) (form : Form) (input old : Option (List ℕ)) (e : PoolError) → (e ≡ ReadFailed) ⊎ OfReader input (λ text. IsRefusedText text e) → IsAsked settings is_asked tells says q form input old old (Err e)
  refused_from q form input old e (inl is) = subst (λ x. IsAsked settings is_asked tells says q form input old old (Err x)) (sym is) (Keeps-refl old)
  refused_from q form input old e (inr of) = refused q form input old of.0 e of.1 of.2

  refused_unwritten : (q : Q) (form : Form) (input : Option (List ℕ)) (e : PoolError) → AnswersFrom settings is_asked tells says q form input (Err e) → ◌≢◌ {A = Result Bool PoolError} (Err e) (Err WriteFailed)
  refused_unwritten q form input e (inl is) same = let f : ◌≡◌ {A = Result Bool PoolError} (Err ReadFailed) (Err WriteFailed) = ap (λ x. Err x) (sym is) ∙ same in cc
  refused_unwritten q form input e (inr of) same = not_written {A = Bool} (Err e) (refused_inner Bool of.0 e of.2) same

  -- what is said of what a reader gave, written
  module _ {W : Type 0} (contents : W → Option (List ℕ)) where
    pub asked_from : (q : Q) (form : Form) (input : Option (List ℕ)) (s : Result Said PoolError) (old new : WatchedWriter W) (r : Result Bool PoolError) → AnswersFrom settings is_asked tells says q form input s → IsWritten contents s old r new
        → IsAsked settings is_asked tells says q form input (contents old.inner) (contents new.inner) r
    asked_from q form input (Ok s) old new r from (inl written) =
        subst (IsAsked settings is_asked tells says q form input (contents old.inner) (contents new.inner)) (sym written.0) (from.0, s.text.items, from.1, from.2, written.1)
    asked_from q form input (Ok s) old new r from (inr failed) = subst (IsAsked settings is_asked tells says q form input (contents old.inner) (contents new.inner)) (sym failed.0) tt
    asked_from q form input (Err e) old new r from written =
        subst (IsAsked settings is_asked tells says q form input (contents old.inner) (contents new.inner)) (sym written.0)
        (subst (λ (w : WatchedWriter W). IsAsked settings is_asked tells says q form input (contents old.inner) (contents w.inner) (Err e)) (sym written.1) (refused_from q form input (contents old.inner) e from))

    pub asked_tells_writer : (q : Q) (form : Form) (input : Option (List ℕ)) (s : Result Said PoolError) (old new : WatchedWriter W) (r : Result Bool PoolError) → AnswersFrom settings is_asked tells says q form input s → IsWritten contents s old r new → TellsWriter old r new
    asked_tells_writer q form input (Ok s) old new r from (inl written) = (λ is. let f : ◌≡◌ {A = Result Bool PoolError} (Ok s.holds) (Err WriteFailed) = sym written.0 ∙ is in cc, λ other. written.2)
    asked_tells_writer q form input (Ok s) old new r from (inr failed) = (λ is. failed.1, λ other. absurd (other failed.0))
    asked_tells_writer q form input (Err e) old new r from written =
        subst (λ (w : WatchedWriter W). TellsWriter old r w) (sym written.1)
        (none_written old r (λ is. refused_unwritten q form input e from (sym written.0 ∙ is)))

module _ {R W : Type 0} (contents : W → Option (List ℕ)) where
  pub asked_tells_reader : (s : Result Said PoolError) (before after : WatchedReader R) (old new : WatchedWriter W) (r : Result Bool PoolError) → TellsReader before s after → IsWritten contents s old r new → TellsReader before r after
  asked_tells_reader (Ok s) before after old new r tells (inl written) = (λ is. let f : ◌≡◌ {A = Result Bool PoolError} (Ok s.holds) (Err ReadFailed) = sym written.0 ∙ is in cc, λ other. tells.1 (λ is. cc))
  asked_tells_reader (Ok s) before after old new r tells (inr failed) = (λ is. let f : ◌≡◌ {A = Result Bool PoolError} (Err WriteFailed) (Err ReadFailed) = sym failed.0 ∙ is in cc, λ other. tells.1 (λ is. cc))
  asked_tells_reader (Err e) before after old new r tells written = subst (λ x. TellsReader before x after) (sym written.0) (read_refused {A = Said} {B = Bool} before after e tells)

-- want of memory is no refusal of a reader or a writer
pub inner : (r : Result Said PoolError) → IsOkUnless r NoMemory → outer_err r ≡ false
inner (Ok s) memory = refl
inner (Err e) memory = ap is_outer memory
