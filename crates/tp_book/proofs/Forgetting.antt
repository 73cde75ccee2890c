-- What a machine forgets, as the book does.
use Rattle.std.proofs.Common.{◌≡◌, ◌+◌, ℕ, Bool, true, false, List, [], ◌∷◌, ◌++◌, length, sym, ap, subst, refl, ◌∙◌, inl, inr, arith}
use Rattle.std.proofs.lemmas.Bool.{true≢false}
use Rattle.tp_types.specs.declared.configs.Config.{Config}
use Rattle.tp_record.specs.declared.entries.Entry.{Entry}
use Rattle.tp_record.specs.Left.{left, MayRelease}
use Rattle.tp_record.specs.State.{State, state}
use Rattle.tp_laws.proofs.Left.LeftOut.{left_length}
use Rattle.tp_tasks.specs.Tasks.{KeepsOthers}
use Rattle.tp_glance.specs.declared.view.History.{History}
use Rattle.tp_glance.specs.Word.{with_released}
use Rattle.tp_machine.specs.Seen.{Seen, At, config_of}
use Rattle.tp_machine.specs.Readings.{EachState}
use Rattle.tp_machine.specs.Releases.{MayForget}
use Rattle.tp_book.specs.PassView.{AccountsView}
use Rattle.tp_book.specs.BookView.{BookView, IsHeld, Forgets, ForgetsGone, ForgetsAllGone, tells, config, left_of, released_of, state_of}
use Rattle.tp_book.proofs.Reading.{LetsNone, seen}
use Rattle.tp_book.proofs.Stepping.{book_at}

-- what is left without tasks has so many left out
more_out : (rs : List ℕ) (s : State) → length (left rs s).left_out ≡ length rs + length s.left_out
more_out [] s = omega arith
more_out (t ∷ rs) s = let more : length (left rs s).left_out ≡ length rs + length s.left_out = more_out rs s in omega (arith, more)

not_kept : (keeps : Bool) → (keeps ≡ true → true ≡ false) → keeps ≡ false
not_kept true never = never refl
not_kept false never = refl

module _ {P R : Type 0} (told : R → List Entry → List ℕ → Type 0) (terms : Config → Config) (keeps : Bool) (free : LetsNone told keeps) (old : BookView P) (mid : Seen P R)
    (accounts : AccountsView) (history : History) (held : IsHeld told terms mid history) (is : seen mid history keeps accounts ≡ old) where
  -- what holds of each state of the machine holds of what is left
  pub each_left : (F : State → Type 0) → EachState told mid F → F (left_of old)
  each_left F each = subst (λ b. F (left_of b)) is (each history.entries history.released held.stands)

  module _ (new : Seen P R) (t : ℕ) (others : KeepsOthers mid.parts.tasks new.parts.tasks t) (same : config_of new ≡ config_of mid) where
    forgets : MayRelease (left_of old) t → At told new history.entries (t ∷ history.released) → Forgets old (seen new (with_released t history) keeps accounts) t
    forgets may at = record {
      may = may;
      stands =
          subst (λ rs. At tells (seen new (with_released t history) keeps accounts).machine history.entries (t ∷ rs)) (ap released_of is)
          (book_at told keeps free new (with_released t history) history.entries (t ∷ history.released) refl refl accounts at);
      others = subst (λ (x : BookView P). KeepsOthers x.machine.parts.tasks new.parts.tasks t) is others;
      config = same ∙ ap config is;
      history = ap (λ (x : BookView P). x.history) is;
      accounts = ap (λ (x : BookView P). x.accounts) is;
    }

    -- it forgot the task
    pub forgets_gone : (forgot : Bool) → forgot ≡ true → (keeps ≡ true → forgot ≡ false) → (forgot ≡ true → (h : List Entry) (rs : List ℕ) → At told mid h rs → MayForget (left rs (state (config_of mid) h)) t) →
        At told new history.entries (t ∷ history.released) → ForgetsGone keeps old (seen new (with_released t history) keeps accounts) t
    forgets_gone forgot so whole goes at =
        let may : MayForget (left_of old) t = each_left (λ s. MayForget s t) (goes so) in
        inl (not_kept keeps (λ kept. sym so ∙ whole kept), may, forgets may.may at)

    -- it has forgotten the task that it was to forget
    pub forgotten : ((h : List Entry) (rs : List ℕ) → At told mid h rs → MayRelease (left rs (state (config_of mid) h)) t × At told new h (t ∷ rs)) →
        Forgets old (seen new (with_released t history) keeps accounts) t
    forgotten goes = forgets (each_left (λ s. MayRelease s t) (λ h rs at. (goes h rs at).0)) (goes history.entries history.released held.stands).1

  -- it forgot nothing
  pub stays_unforgotten : (new : Seen P R) (t : ℕ) → new ≡ mid → (keeps ≡ false → (h : List Entry) (rs : List ℕ) → At told mid h rs → ¬ MayForget (left rs (state (config_of mid) h)) t) →
      ForgetsGone keeps old (seen new history keeps accounts) t
  stays_unforgotten new t same never =
      inr ((λ none. each_left (λ s. ¬ MayForget s t) (never none)), ap (λ m. seen m history keeps accounts) same ∙ is)

  -- what is not kept was released
  pub counts_kept : (n : ℕ) → EachState told mid (λ s. n + length s.left_out ≡ length s.tasks) → n + length (released_of old) ≡ length (state_of old).tasks
  counts_kept n each =
      subst (λ b. n + length (released_of b) ≡ length (state_of b).tasks) is
      (let whole = each history.entries history.released held.stands in
      let out = more_out history.released (state (config_of mid) history.entries) in
      let all = left_length history.released (state (config_of mid) history.entries) in
      let none : length (state (config_of mid) history.entries).left_out ≡ 0 = refl in
      let kept : n + length history.released ≡ length (state (config_of mid) history.entries).tasks = omega (arith, whole, out, all, none) in
      kept)

-- More than one task

module _ {P : Type 0} (keeps : Bool) where
  forgotten_config : (old new : BookView P) (t : ℕ) → ForgetsGone keeps old new t → config new ≡ config old
  forgotten_config old new t (inl gone) = gone.2.config
  forgotten_config old new t (inr same) = ap config same.1

  forgotten_history : (old new : BookView P) (t : ℕ) → ForgetsGone keeps old new t → new.history ≡ old.history
  forgotten_history old new t (inl gone) = gone.2.history
  forgotten_history old new t (inr same) = ap (λ (b : BookView P). b.history) same.1

  -- they change neither the settings nor the history
  pub all_config : (old new : BookView P) (ts : List ℕ) → ForgetsAllGone keeps old new ts → config new ≡ config old
  all_config old new [] same = ap config same
  all_config old new (t ∷ ts) all = all_config all.0 new ts all.2 ∙ forgotten_config old all.0 t all.1

  pub all_history : (old new : BookView P) (ts : List ℕ) → ForgetsAllGone keeps old new ts → new.history ≡ old.history
  all_history old new [] same = ap (λ (b : BookView P). b.history) same
  all_history old new (t ∷ ts) all = all_history all.0 new ts all.2 ∙ forgotten_history old all.0 t all.1

  -- one task more
  pub forgets_more : (old mid new : BookView P) (ts : List ℕ) (t : ℕ) → ForgetsAllGone keeps old mid ts → ForgetsGone keeps mid new t → ForgetsAllGone keeps old new (ts ++ t ∷ [])
  forgets_more old mid new [] t same one = (new, subst (λ b. ForgetsGone keeps b new t) same one, refl)
  forgets_more old mid new (u ∷ us) t all one = (all.0, all.1, forgets_more all.0 mid new us t all.2 one)
