-- What a step in a hold is to the pass that it was made with.
use Rattle.std.proofs.Common.{◌≡◌, ℕ, Bool, true, ◌+◌, List, [], ◌∷◌, None, inl, inr, refl, ap, sym, ◌∙◌, subst}
use Rattle.std.specs.Prelude.{Result, Ok, Err, IfOk, IfErr, OnOk, OnErr}
use Rattle.std.proofs.lemmas.List.Elements.{All-nil, All-cons}
use Rattle.tp_types.specs.declared.configs.Config.{Config}
use Rattle.tp_types.specs.declared.refusals.PoolError.{PoolError}
use Rattle.tp_types.specs.declared.refusals.PoolError.TheVariants.{UnknownTask}
use Rattle.tp_record.specs.declared.entries.Entry.{Entry}
use Rattle.tp_record.specs.declared.entries.Ask.{Ask}
use Rattle.tp_record.specs.declared.entries.Did.{Did}
use Rattle.tp_record.specs.declared.entries.Ask.TheVariants as ask
use Rattle.tp_record.specs.declared.entries.Did.TheVariants as did
use Rattle.tp_record.specs.declared.entries.Took.TheVariants as took
use Rattle.tp_record.specs.Left.{MayRelease, asked}
use Rattle.tp_record.specs.Lists.{is_among}
use Rattle.tp_record.specs.State.{state, counts}
use Rattle.tp_record.specs.Step.{Legal}
use Rattle.tp_slots.specs.Table.{first_slot}
use Rattle.tp_machine_state.specs.Steps.{IsFitting}
use Rattle.tp_glance.specs.Word.{IsFrontOf}
use Rattle.tp_waking.specs.Heard.{IsHeard}
use Rattle.tp_tasks.specs.declared.tasks.Tasks.{Tasks}
use Rattle.tp_machine.specs.Steps.{IsRefusedAt}
use Rattle.tp_waking.specs.declared.waking.Waking.{Waking}
use Rattle.tp_book.specs.BookView.{BookView, config, released_of, state_of, Advances, ForgetsAllGone, IsDenied, IsReleased, IsUnmoved, NamesReleased, OrReleased}
use Rattle.tp_book.specs.PassView.{PassView, receipts_with}
use Rattle.tp_book.proofs.Reading.{or_else}
use Rattle.tp_book.proofs.Forgetting.{all_config, all_history}
use Rattle.tp_pool_holds.specs.LockedView.{LockedView}
use Rattle.tp_pool_holds.specs.Gone.{gone_with}
use Rattle.tp_pool_holds.specs.Holds.{Holds, Denies}
use Rattle.tp_pool_holds.specs.Roused.{IsRoused}
use Rattle.tp_pool_holds.specs.Rosters.{RosterView}
use Rattle.tp_pool_holds.specs.Moments.{AtFront, IsBook}
use Rattle.tp_pool_holds.specs.Passes.{AddsStep, IsRefusal, LooksOnly, entry_of}
use Rattle.tp_pool_holds.specs.Steps.{Makes, Refused}
use Rattle.tp_pool_holds.specs.Waits.{HasNoOutcome}
use Rattle.tp_pool_holds.specs.declared.tasks.Payload.{Payload}
use Rattle.tp_pool_holds.proofs.Moments.{legal_at, known_at}
use Rattle.tp_pool_holds.proofs.Refusals.{fits, unreleased}

-- the pass after a step of its own
abbrev pub Paid : PassView → PassView → Ask → Did → Type 0
Paid old new a d =
    new ≡ record { number = old.number; amount = old.amount + 1; front = new.front; released = new.released; keeps = old.keeps; receipts = receipts_with old (entry_of old.number a d ∷ []); room = new.room }

module _ {J : Type 0} (c : Config) where
  -- the history after a step is legal
  pub legal_made : (by : ℕ) (before : List Entry) (a : Ask) (d : Did) (moves : Tasks (Payload J) → Tasks (Payload J) → Type 0) (after : List Entry) →
      Makes J c by before a d moves after → Legal c after
  legal_made by before a d moves after made =
      let settings : config made.new ≡ c = made.step.step.config ∙ made.is.settings in
      let legal = (made.step.step.writes made.old.history (released_of made.old) made.is.stands.stands).legal in
      subst (λ h. Legal c h) (sym (made.shown ∙ made.step.notes)) (subst (λ k. Legal k (record { by = by; ask = a; did = d } ∷ made.old.history)) settings legal)

  -- and that at which it was refused
  pub legal_refused : (keeps : Bool) (before : List Entry) (a : Ask) (e : PoolError) (after : List Entry) → Refused J keeps c before a e after → Legal c after
  legal_refused keeps before a e after refused = subst (λ h. Legal c h) (sym refused.shown) (legal_at refused.book c refused.is)

  -- a refusal of an ask with which no outcome comes is the machine's
  refusal_of : (keeps : Bool) (b : BookView (Payload J)) (a : Ask) (e : PoolError) → IsDenied keeps b a e → HasNoOutcome a →
      OrReleased keeps (IsRefusedAt (config b) (state_of b) a e) ((e ≡ UnknownTask) × NamesReleased b a)
  refusal_of keeps b a e (inl torn) none = absurd (torn.1 (fits b.machine a none))
  refusal_of keeps b a e (inr denied) none = denied.1

  -- so it is Step's, at the history at which it is refused
  own_at : (b : BookView (Payload J)) → IsBook (Payload J) c b → (h : List Entry) → h ≡ b.history → (a : Ask) (e : PoolError) → IsRefusedAt (config b) (state_of b) a e → AtFront c h (λ s. IsRefusedAt c s a e)
  own_at b is h shown a e refuses = known_at b c is h (λ s. IsRefusedAt c s a e) shown (subst (λ k. IsRefusedAt k (state_of b) a e) is.settings refuses)

  -- or else its task was released, as a pass knows that knows the book's history
  pub refusal : (keeps : Bool) (b : BookView (Payload J)) → IsBook (Payload J) c b → (p : PassView) → p.front ≡ b.history → p.released ≡ released_of b → (a : Ask) (e : PoolError) → IsDenied keeps b a e →
      HasNoOutcome a → IsRefusal keeps c p a e
  refusal keeps b is p shown released a e denied none =
      or_else keeps (own_at b is p.front shown a e)
      (λ named. (
        named.0,
        (
          named.1.0,
          named.1.1,
          (subst (λ rs. is_among named.1.0 rs ≡ true) (sym released) named.1.2, known_at b c is p.front (λ s. MayRelease s named.1.0) shown (is.stands.stands.may.each named.1.0 named.1.2)),
        ),
      ))
      (refusal_of keeps b a e denied none)

  -- but no task that the ask names, where it names none
  pub own_refusal : (keeps : Bool) (before : List Entry) (a : Ask) (e : PoolError) (after : List Entry) → asked a ≡ None → HasNoOutcome a → Refused J keeps c before a e after →
      AtFront c after (λ s. IsRefusedAt c s a e)
  own_refusal keeps before a e after unnamed none refused =
      own_at refused.book refused.is after refused.shown a e (unreleased keeps (λ t. IsReleased refused.book t) a e unnamed (refusal_of keeps refused.book a e refused.denied none))

  -- so it is with the answer of a step, whose pass then knows the history
  pub refusals : {A : Type 0} (keeps : Bool) (old new : LockedView J) → IsBook (Payload J) c old.book → (p : PassView) (a : Ask) (r : Result A PoolError) → IfErr r (Denies keeps old new a) →
      OnErr r (p.front ≡ old.book.history) → p.released ≡ released_of old.book → IfErr r (λ e. HasNoOutcome a → IsRefusal keeps c p a e)
  refusals keeps old new is p a (Ok x) denies shown released = tt
  refusals keeps old new is p a (Err e) denies shown released = λ none. refusal keeps old.book is p shown released a e denies.denied none

  module _ (old new : PassView) (a : Ask) where
    pub adds_step : (d : Did) (moves : Tasks (Payload J) → Tasks (Payload J) → Type 0) → Makes J c old.number old.front a d moves new.front → Paid old new a d → AddsStep c old a d new
    adds_step d moves made paid = record {
      number = ap (λ p. p.number) paid;
      keeps = ap (λ p. p.keeps) paid;
      receipts = ap (λ p. p.receipts) paid;
      own = All-cons (λ (e : Entry). e.by ≡ old.number) (entry_of old.number a d) [] refl (All-nil (λ (e : Entry). e.by ≡ old.number));
      amount = ap (λ p. p.amount) paid;
      leads = (made.old.history, made.goes_on, record { later = []; goes_on = made.shown ∙ made.step.notes });
      legal = legal_made old.number old.front a d moves new.front made;
    }

    pub added : {A : Type 0} (X : Type 0) (did : A → Did) (moves : A → Tasks (Payload J) → Tasks (Payload J) → Type 0) (r : Result A PoolError) →
        IfOk r (λ x. Makes J c old.number old.front a (did x) (moves x) new.front) → IfOk r (λ x. Paid old new a (did x) × X) → IfOk r (λ x. AddsStep c old a (did x) new)
    added X did moves (Ok x) makes paid = adds_step (did x) (moves x) makes paid.0
    added X did moves (Err e) makes paid = tt

-- it leaves room for all but its own receipt
pub left_room : {A : Type 0} (X : Type 0) (P : A → Type 0) (r : Result A PoolError) → IfOk r (λ x. P x × X) → OnOk r X
left_room X P (Ok x) paid = paid.1
left_room X P (Err e) paid = tt

-- a pass whose step is refused looks at the pool
pub looks : {A : Type 0} (c : Config) (old new : PassView) (h : List Entry) (r : Result A PoolError) → OnErr r (new ≡ record old { front = new.front; released = new.released }) → IsFrontOf old.front h →
    OnErr r (new.front ≡ h) → Legal c new.front → OnErr r (LooksOnly c old new)
looks c old new h (Ok x) shown on front legal = tt
looks c old new h (Err e) shown on front legal = (shown, subst (λ g. IsFrontOf old.front g) (sym front) on, legal)

-- a step that is refused in a hold
pub denies : {J : Type 0} (keeps : Bool) (old : LockedView J) (book new : BookView (Payload J)) (roster : RosterView) (waking : Waking) → record { book = book; roster = roster; waking = waking } ≡ old →
    (a : Ask) (e : PoolError) → IsDenied keeps book a e → IsUnmoved book new → Denies keeps old (record { book = new; roster = roster; waking = waking }) a e
denies keeps old book new roster waking is a e denied unmoved =
    subst (λ o. Denies keeps o (record { book = new; roster = roster; waking = waking }) a e) is (record { denied = denied; unmoved = unmoved; asleep = refl; threads = refl })

-- whom a step rouses, it rouses as well where tasks are forgotten after it
roused_then : {P : Type 0} (keeps : Bool) (mid new : BookView P) (gone : List ℕ) → ForgetsAllGone keeps mid new gone → (waking waking' : Waking) (a : Ask) (d : Did) → IsRoused mid waking waking' a d →
    IsRoused new waking waking' a d
roused_then keeps mid new gone forgets_gone waking waking' a d roused =
    let settings = all_config keeps mid new gone forgets_gone in
    let history = all_history keeps mid new gone forgets_gone in
    let same : state_of new ≡ state_of mid = λ i. state (settings i) (history i) in
    record {
      told = roused.told;
      hand = roused.hand;
      leaves =
          λ w first leaves.
          roused.leaves w (ap (λ s. first_slot s.idling) (sym same) ∙ first)
          (subst (λ h. IsFitting (config mid) (state (config mid) h) (ask.Take w) (did.Take w took.Leave)) history
          (subst (λ k. IsFitting k (state k new.history) (ask.Take w) (did.Take w took.Leave)) settings leaves));
      all = roused.all;
      state = roused.state;
      rank = roused.rank ∙ ap (λ s. s.rank) (sym same);
      heard = subst (λ s. IsHeard waking waking' a d roused.state (counts s).live (counts s).queued) (sym same) roused.heard;
    }

-- a step that is made in a hold, after which tasks are forgotten
pub holds : {J : Type 0} (keeps : Bool) (old : LockedView J) (book mid new : BookView (Payload J)) (roster : RosterView) (waking waking' : Waking) → record { book = book; roster = roster; waking = waking } ≡ old →
    (by : ℕ) (a : Ask) (d : Did) (moves : Tasks (Payload J) → Tasks (Payload J) → Type 0) → Advances book mid by a d moves → ForgetsAllGone keeps mid new (gone_with d (state_of book).queue) →
    IsRoused mid waking waking' a d →
    Holds keeps old (record { book = new; roster = roster; waking = waking' }) by a d moves
holds keeps old book mid new roster waking waking' is by a d moves made forgets_gone roused =
    subst (λ o. Holds keeps o (record { book = new; roster = roster; waking = waking' }) by a d moves) is
    (record { book = mid; made = made; forgets_gone = forgets_gone; roused = roused_then keeps mid new (gone_with d (state_of book).queue) forgets_gone waking waking' a d roused; threads = refl })
