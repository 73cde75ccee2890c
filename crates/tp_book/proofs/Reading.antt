-- What is read of a book's machine is what the history says, of which the seat knows it.
use Rattle.std.proofs.Common.{◌≡◌, ◌⊎◌, ℕ, ◌<◌, ◌≤◌, Bool, true, false, List, [], length, Option, Some, None, Ok, Err, refl, sym, ap, subst, ◌∙◌, inl, inr}
use Rattle.std.specs.Prelude.{ℤ, Result, IfOk, IfErr, OnOk, IfSome, IfNone}
use Rattle.std.proofs.lemmas.Bool.{true≢false}
use Rattle.tp_types.specs.Config.{IsConfig}
use Rattle.tp_types.specs.declared.configs.Config.{Config}
use Rattle.tp_types.specs.declared.refusals.PoolError.{PoolError}
use Rattle.tp_types.specs.declared.refusals.PoolError.TheVariants.{UnknownTask}
use Rattle.tp_types.specs.declared.tasks.Fate.{Fate}
use Rattle.tp_record.specs.declared.entries.Entry.{Entry}
use Rattle.tp_record.specs.declared.rows.TaskRow.{TaskRow}
use Rattle.tp_record.specs.Lists.{is_among}
use Rattle.tp_record.specs.Left.{left}
use Rattle.tp_record.specs.State.{State, state, task_at}
use Rattle.tp_record.specs.Step.{is_known}
use Rattle.tp_glance.specs.declared.view.History.{History}
use Rattle.tp_machine.specs.Seen.{Seen, config_of}
use Rattle.tp_machine.specs.Readings.{EachState, value_in}
use Rattle.tp_book.specs.PassView.{AccountsView}
use Rattle.tp_book.specs.BookView.{BookView, IsHeld, IsReleased, OrReleased, StandsThere, remembered, config, released_of, state_of, recalled}
use Rattle.tp_book.proofs.Left.{else_left, known_parts, known_row, unknown_parts, value_left, value_out}

-- what is seen of a book with this machine, of which the seat knows this history
abbrev pub seen : {P R : Type 0} → Seen P R → History → Bool → AccountsView → BookView P
seen m h keeps accounts =
    record {
      machine = record { parts = m.parts; noted = record { history = h.entries; released = h.released; whole = keeps } };
      accounts = accounts;
      history = h.entries;
    }

-- a recorder that keeps the record lets no task be released
abbrev pub LetsNone : {R : Type 0} → (R → List Entry → List ℕ → Type 0) → Bool → Type 0
LetsNone {R} told keeps = keeps ≡ true → (r : R) (h : List Entry) (rs : List ℕ) → told r h rs → rs ≡ []

pub or_released : (keeps : Bool) (So Released : Type 0) → Released ⊎ So → (keeps ≡ true → ¬ Released) → OrReleased keeps So Released
or_released true So Released (inl released) never = absurd (never refl released)
or_released true So Released (inr so) never = so
or_released false So Released (inl released) never = inr released
or_released false So Released (inr so) never = inl so

pub or_else : (keeps : Bool) {So Released So' Released' : Type 0} → (So → So') → (Released → Released') → OrReleased keeps So Released → OrReleased keeps So' Released'
or_else true so released is = so is
or_else false so released (inl is) = inl (so is)
or_else false so released (inr is) = inr (released is)

-- no task is one of none
pub none_among : (t : ℕ) (rs : List ℕ) → rs ≡ [] → ¬ (is_among t rs ≡ true)
none_among t rs none among = true≢false (sym among ∙ ap (is_among t) none)

-- where none is released all is remembered
pub recalls : (keeps : Bool) (rs : List ℕ) (s : State) → (keeps ≡ true → rs ≡ []) → left rs s ≡ remembered keeps rs s
recalls true rs s none = ap (λ xs. left xs s) (none refl)
recalls false rs s none = refl

module _ {P R : Type 0} (told : R → List Entry → List ℕ → Type 0) (terms : Config → Config) (m : Seen P R) (h : History) (keeps : Bool) (accounts : AccountsView)
    (held : IsHeld told terms m h) where
  abbrev s : State
  s = state (config_of m) h.entries

  module _ (b : BookView P) (is : seen m h keeps accounts ≡ b) where
    -- what is said of a state, where it is the same of what is left
    pub reads : {A : Type 0} (f : State → A) (a : A) → EachState told m (λ s. a ≡ f s) → f (left h.released s) ≡ f s → a ≡ f (state_of b)
    reads f a each same = subst (λ x. a ≡ f (state_of x)) is (each h.entries h.released held.stands ∙ same)

    -- what holds of a state, where it does so of the whole one if it does of what is left
    pub holds : (F : State → Type 0) → EachState told m F → (F (left h.released s) → F s) → F (state_of b)
    holds F each same = subst (λ x. F (state_of x)) is (same (each h.entries h.released held.stands))

    -- what does not look at rows, fates and what is left out
    pub reads_else : {A : Type 0} (f : State → A) (a : A) → EachState told m (λ s. a ≡ f s) →
        ((s : State) (rows : List TaskRow) (out : List ℕ) (forgotten : Fate → ℕ) → f (record s { tasks = rows; left_out = out; forgotten = forgotten }) ≡ f s) → a ≡ f (state_of b)
    reads_else f a each same = reads f a each (else_left f same h.released s)

    -- what is said of an answer in the settings and a state
    pub some_holds : {X : Type 0} (F : Config → State → X → Type 0) (r : Option X) → IfSome r (λ x. EachState told m (λ s. F (config_of m) s x)) →
        ((x : X) → F (config_of m) (left h.released s) x → F (config_of m) s x) → IfSome r (λ x. F (config b) (state_of b) x)
    some_holds F (Some x) each same = subst (λ y. F (config y) (state_of y) x) is (same x (each h.entries h.released held.stands))
    some_holds F None each same = tt

    pub none_holds : {X : Type 0} (F : Config → State → Type 0) (r : Option X) → IfNone r (EachState told m (λ s. F (config_of m) s)) →
        (F (config_of m) (left h.released s) → F (config_of m) s) → IfNone r (F (config b) (state_of b))
    none_holds F (Some x) each same = tt
    none_holds F None each same = subst (λ y. F (config y) (state_of y)) is (same (each h.entries h.released held.stands))

    -- a task that is known was submitted
    pub known : {X : Type 0} (t : ℕ) (r : Result X PoolError) → OnOk r (EachState told m (λ s. is_known s t ≡ true)) → OnOk r (t < length (state_of b).tasks)
    known t (Ok x) each = subst (λ x. t < length (state_of x).tasks) is (known_parts (config_of m) h.entries h.released t (each h.entries h.released held.stands)).1
    known t (Err e) each = tt

    -- what is read of its row
    pub row : {X : Type 0} (f : TaskRow → X) (t : ℕ) (r : Result X PoolError) → IfOk r (λ x. EachState told m (λ s. x ≡ f (task_at s t))) →
        OnOk r (EachState told m (λ s. is_known s t ≡ true)) → IfOk r (λ x. x ≡ f (task_at (state_of b) t))
    row f t (Ok a) each is_so =
        subst (λ x. a ≡ f (task_at (state_of x) t)) is
        (each h.entries h.released held.stands ∙ ap f (known_row (config_of m) h.entries h.released t (is_so h.entries h.released held.stands)))
    row f t (Err e) each is_so = tt

    module _ (free : LetsNone told keeps) where
      same : left h.released s ≡ remembered keeps h.released s
      same = recalls keeps h.released s (λ kept. free kept m.noted h.entries h.released held.stands.told)

      -- the book stands at its history
      pub stands_there : (keeps ≡ false → (c : Config) → ¬ IsConfig (terms c)) → StandsThere b
      stands_there endless =
          subst StandsThere is
          (record {
            stands = record { told = (refl, refl, none); legal = held.stands.legal; may = held.stands.may; shows = held.stands.shows };
            whole = λ good. by keeps refl good;
          })
        where
          none : keeps ≡ true → h.released ≡ []
          none whole = free whole m.noted h.entries h.released held.stands.told

          by : (k : Bool) → keeps ≡ k → IsConfig (config_of m) → h.released ≡ []
          by true whole good = none whole
          by false off good = absurd (endless off held.settings (subst IsConfig held.judged good))

      -- a task that is known is remembered
      pub kept : {X : Type 0} (t : ℕ) (r : Result X PoolError) → OnOk r (EachState told m (λ s. is_known s t ≡ true)) → OnOk r (is_known (recalled keeps b) t ≡ true)
      kept t (Ok x) each = subst (λ x. is_known (recalled keeps x) t ≡ true) is (ap (λ s. is_known s t) (sym same) ∙ each h.entries h.released held.stands)
      kept t (Err e) each = tt

      -- one that is not known was not submitted, or was released
      forgotten : (t : ℕ) → EachState told m (λ s. is_known s t ≡ false) → OrReleased keeps (length (state_of b).tasks ≤ t) (IsReleased b t)
      forgotten t each = or_released keeps (length (state_of b).tasks ≤ t) (IsReleased b t)
          (elim (unknown_parts (config_of m) h.entries h.released t (each h.entries h.released held.stands) (is_among t h.released) refl) [
            | inl among ↦ inl (subst (λ x. is_among t (released_of x) ≡ true) is among)
            | inr past ↦ inr (subst (λ x. length (state_of x).tasks ≤ t) is past)
          ])
          (λ whole. none_among t (released_of b) (ap released_of (sym is) ∙ free whole m.noted h.entries h.released held.stands.told))

      pub unknown : {X : Type 0} (t : ℕ) (r : Result X PoolError) → IfErr r (λ e. (e ≡ UnknownTask) × EachState told m (λ s. is_known s t ≡ false)) →
          IfErr r (λ e. (e ≡ UnknownTask) × OrReleased keeps (length (state_of b).tasks ≤ t) (IsReleased b t))
      unknown t (Ok x) each = tt
      unknown t (Err e) each = (each.0, forgotten t each.1)

      -- what its future answers
      pub value : (t : ℕ) (v : Result (Option ℤ) PoolError) → EachState told m (λ s. v ≡ value_in s t) → v ≡ value_in (recalled keeps b) t
      value t v each = subst (λ x. v ≡ value_in (recalled keeps x) t) is (each h.entries h.released held.stands ∙ ap (λ s. value_in s t) same)

-- what is answered of a task that is remembered is so of the whole state
pub value_certain : {P : Type 0} (keeps : Bool) (b : BookView P) (t : ℕ) (v : Result (Option ℤ) PoolError) → v ≡ value_in (recalled keeps b) t → ¬ (v ≡ Err UnknownTask) → v ≡ value_in (state_of b) t
value_certain true b t v is other = is
value_certain false b t v is other = by (is_among t (released_of b)) refl
  where
    by : (among : Bool) → is_among t (released_of b) ≡ among → v ≡ value_in (state_of b) t
    by true among = absurd (other (is ∙ value_out (config b) b.history (released_of b) t among))
    by false kept = is ∙ value_left (config b) b.history (released_of b) t kept
