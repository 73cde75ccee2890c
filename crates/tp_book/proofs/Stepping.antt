-- What a machine's step does, as a step of the book, whichever step it is.
use Rattle.std.proofs.Common.{◌≡◌, ◌⊎◌, ℕ, ◌<◌, ◌+◌, Bool, true, false, List, ◌∷◌, length, Option, Some, None, sym, ap, subst, refl, ◌∙◌, inl, inr}
use Rattle.std.specs.Prelude.{IsSome}
use Rattle.tp_types.specs.declared.configs.Config.{Config}
use Rattle.tp_types.specs.declared.refusals.PoolError.{PoolError}
use Rattle.tp_types.specs.declared.refusals.PoolError.TheVariants.{UnknownTask}
use Rattle.tp_record.specs.declared.entries.Entry.{Entry}
use Rattle.tp_record.specs.declared.entries.Ask.{Ask}
use Rattle.tp_record.specs.declared.entries.Ask.TheVariants as ask
use Rattle.tp_record.specs.declared.entries.Did.{Did}
use Rattle.tp_record.specs.Fields.{rank, slot_row}
use Rattle.tp_record.specs.Packed.{HasSmallSlots}
use Rattle.tp_record.specs.Asked.{asked as ask_of}
use Rattle.tp_record.specs.Left.{left, asked, is_one_of}
use Rattle.tp_record.specs.Lists.{is_among}
use Rattle.tp_record.specs.State.{State, slot_at, state}
use Rattle.tp_laws.proofs.Left.Marks.{left_else, left_slots}
use Rattle.tp_laws.proofs.Model.Readings.{slot_read}
use Rattle.tp_laws.proofs.Model.Told.{told_legal}
use Rattle.tp_laws.proofs.Asked.{gives_asked}
use Rattle.tp_laws.proofs.Small.{IsSmall, small_between}
use Rattle.tp_tasks.specs.declared.tasks.Tasks.{Tasks}
use Rattle.tp_machine.specs.Seen.{Seen, At, config_of}
use Rattle.tp_machine.specs.Steps.{IsStep, Stays, IsRefusedAt, NeedsMemory}
use Rattle.tp_machine.specs.Stepped.{FitsOutcome}
use Rattle.tp_machine.specs.Typed.{IsDeniedBy}
use Rattle.tp_machine.specs.Readings.{EachState}
use Rattle.tp_machine.proofs.Released.{refuses_whole, refuses_named, gives_whole, never_named}
use Rattle.tp_book.specs.PassView.{AccountsView}
use Rattle.tp_glance.specs.declared.view.History.{History}
use Rattle.tp_glance.specs.Word.{with_entry}
use Rattle.tp_book.specs.BookView.{BookView, IsHeld, NamesReleased, tells, config, released_of, state_of, Advances, IsUnmoved, IsDenied}
use Rattle.tp_book.proofs.Left.{else_left}
use Rattle.tp_book.proofs.Reading.{LetsNone, seen, or_released, none_among}

module _ {P R : Type 0} (told : R → List Entry → List ℕ → Type 0) (keeps : Bool) where
  -- where the book's machine stands at the history that it knows, its own does, of which the recorder told the one
  pub own_at : (m : Seen P R) (h0 : History) (h : List Entry) (rs : List ℕ) → told m.noted h0.entries h0.released → (accounts : AccountsView) → At tells (seen m h0 keeps accounts).machine h rs →
      At told m h rs
  own_at m h0 h rs is accounts at = record {
    told = subst (λ xs. told m.noted h xs) at.told.1 (subst (λ h. told m.noted h h0.released) at.told.0 is);
    legal = at.legal;
    may = at.may;
    shows = at.shows;
  }

  -- and the other way
  pub book_at : LetsNone told keeps → (m : Seen P R) (h0 : History) (h : List Entry) (rs : List ℕ) → h0.entries ≡ h → h0.released ≡ rs → (accounts : AccountsView) → At told m h rs →
      At tells (seen m h0 keeps accounts).machine h rs
  book_at free m h0 h rs same also accounts at =
      record { told = (same, also, λ whole. free whole m.noted h rs at.told); legal = at.legal; may = at.may; shows = at.shows }

module _ {P R : Type 0} (told : R → List Entry → List ℕ → Type 0) (terms : Config → Config) where
  -- after a step the machine stands at the history with its entry, whatever that was put together from
  pub grown : (mid new : Seen P R) (h : History) (by : ℕ) (a asked : Ask) (d said : Did) → IsHeld told terms mid h → IsStep told mid new by a d →
      asked ≡ a → said ≡ d → IsHeld told terms new (with_entry (record { by = by; ask = asked; did = said }) h)
  grown mid new h by a asked d said held step is made =
      record {
        stands =
            subst (λ x. At told new (record { by = by; ask = x; did = said } ∷ h.entries) h.released) (sym is)
            (subst (λ x. At told new (record { by = by; ask = a; did = x } ∷ h.entries) h.released) (sym made) (step.writes h.entries h.released held.stands));
        settings = held.settings;
        judged = step.config ∙ held.judged;
      }

  -- after a refusal it stands where it stood
  pub stayed : (mid new : Seen P R) (h : History) → IsHeld told terms mid h → Stays told mid new → IsHeld told terms new h
  stayed mid new h held stays =
      record { stands = stays.stands h.entries h.released held.stands; settings = held.settings; judged = stays.config ∙ held.judged }

  -- what a step did tells what was asked
  pub asked_step : (mid new : Seen P R) (h : History) (by : ℕ) (a asks : Ask) (d does : Did) → IsHeld told terms mid h → IsStep told mid new by a d → asks ≡ a → does ≡ d → asks ≡ ask_of does
  asked_step mid new h by a asks d does held step is made =
      is ∙ gives_asked (config_of mid) (left h.released (state (config_of mid) h.entries)) a d (step.gives h.entries h.released held.stands) ∙ sym (ap ask_of made)

  -- the slots that a step's entry names have small numbers, where the slots before it and after it have
  pub small_step : (mid new : Seen P R) (h : History) (by : ℕ) (a : Ask) (d said : Did) → IsHeld told terms mid h → IsStep told mid new by a d → said ≡ d → EachState told mid (λ s. (w : ℕ) → IsSome (slot_at s.slots w) → IsSmall w) →
      EachState told new (λ s. (w : ℕ) → IsSome (slot_at s.slots w) → IsSmall w) → HasSmallSlots said
  small_step mid new h by a d said held step made before after =
      let e : Entry = record { by = by; ask = a; did = d } in
      let at = step.writes h.entries h.released held.stands in
      subst HasSmallSlots (sym made)
      (small_between (config_of new) h.entries e
      (λ w some. before h.entries h.released held.stands w (subst IsSome (sym (slots_left (config_of mid) h.released h.entries w)) some))
      (λ w some. after (e ∷ h.entries) h.released at w (subst IsSome (sym (slots_left (config_of new) h.released (e ∷ h.entries) w)) some))
      (told_legal (config_of new) (e ∷ h.entries) at.legal).0)
    where
      slots_left : (c : Config) (rs : List ℕ) (h : List Entry) (w : ℕ) → slot_at (left rs (state c h)).slots w ≡ slot_row h w
      slots_left c rs h w = ap (λ xs. slot_at xs w) (left_slots rs (state c h)) ∙ slot_read h w

  -- a machine that stands at the history has its rank
  pub rank_at : (m : Seen P R) (h : History) (n : ℕ) → IsHeld told terms m h → EachState told m (λ s. n ≡ s.rank) → n ≡ rank h.entries
  rank_at m h n held is = is h.entries h.released held.stands ∙ else_left (λ s. s.rank) (λ _ _ _ _. refl) h.released (state (config_of m) h.entries)

-- a machine wants memory alike for what is left
needs_left : (s : State) (rs : List ℕ) (a : Ask) → NeedsMemory (left rs s) a → NeedsMemory s a
needs_left s rs (ask.Submit k p) needs = needs
needs_left s rs ask.Stop needs = subst (λ (x : State). 0 < length x.queue) (left_else rs s) needs
needs_left s rs (ask.Maximum n) needs = subst (λ (x : State). x.maximum < n) (left_else rs s) needs
needs_left s rs _ needs = absurd needs

module _ {P R : Type 0} (told : R → List Entry → List ℕ → Type 0) (terms : Config → Config) (keeps : Bool) (free : LetsNone told keeps) (old : BookView P) (mid : Seen P R)
    (accounts : AccountsView) (history : History) (held : IsHeld told terms mid history) (is : seen mid history keeps accounts ≡ old) where
  own : (h : List Entry) (rs : List ℕ) → At tells (seen mid history keeps accounts).machine h rs → At told mid h rs
  own h rs at = own_at told keeps mid history h rs held.stands.told accounts at

  pub advances : (new : Seen P R) (accounts' : AccountsView) (history' : History) (at by : ℕ) (a asked : Ask) (d said : Did) (moves : Tasks P → Tasks P → Type 0) →
      at ≡ by → asked ≡ a → said ≡ d → FitsOutcome mid a → IsStep told mid new at a d → moves mid.parts.tasks new.parts.tasks →
      accounts' ≡ record accounts { total = accounts.total + 1 } → history' ≡ with_entry (record { by = at; ask = asked; did = said }) history →
      Advances old (seen new history' keeps accounts') by a d moves
  advances new accounts' history' at by a asked d said moves same asks made promised step payloads accounted noted =
      let notes : history'.entries ≡ record { by = at; ask = a; did = d } ∷ history.entries =
      ap (λ (x : History). x.entries) noted ∙ (λ i. record { by = at; ask = asks i; did = made i } ∷ history.entries) in
      let also : history'.released ≡ history.released = ap (λ (x : History). x.released) noted in
      let whole : Advances (seen mid history keeps accounts) (seen new history' keeps accounts') at a d moves =
      record {
        promised = promised;
        step =
            record {
              gives = λ h rs there. step.gives h rs (own h rs there);
              writes =
                  λ h rs there.
                  book_at told keeps free new history' (record { by = at; ask = a; did = d } ∷ h) rs (notes ∙ ap (λ xs. record { by = at; ask = a; did = d } ∷ xs) there.told.0) (also ∙ there.told.1) accounts'
                  (step.writes h rs (own h rs there));
              config = step.config;
            };
        payloads = payloads;
        notes = notes;
        accounts = accounted;
      } in
      subst (λ n. Advances old (seen new history' keeps accounts') n a d moves) same
      (subst (λ b. Advances b (seen new history' keeps accounts') at a d moves) is whole)

  pub unmoved : (new : Seen P R) (history' : History) → history' ≡ history → Stays told mid new → IsUnmoved old (seen new history' keeps accounts)
  unmoved new history' same stays =
      let whole : IsUnmoved (seen mid history keeps accounts) (seen new history' keeps accounts) =
      record {
        machine =
            record {
              stands =
                  λ h rs there.
                  book_at told keeps free new history' h rs (ap (λ (x : History). x.entries) same ∙ there.told.0) (ap (λ (x : History). x.released) same ∙ there.told.1) accounts (stays.stands h rs (own h rs there));
              config = stays.config;
              payloads = stays.payloads;
              promises = stays.promises;
            };
        accounts = refl;
        history = ap (λ (x : History). x.entries) same;
      } in
      subst (λ b. IsUnmoved b (seen new history' keeps accounts)) is whole

  -- an ask that is refused in what is left is refused in the whole state, or names a task that was released
  refused : (a : Ask) (e : PoolError) → IsRefusedAt (config_of mid) (left history.released (state (config_of mid) history.entries)) a e → (b : Bool) → is_one_of (asked a) history.released ≡ b →
      ((e ≡ UnknownTask) × NamesReleased old a) ⊎ IsRefusedAt (config old) (state_of old) a e
  refused a e why true named = inl (unknown why, names (asked a) refl named)
    where
      unknown : IsRefusedAt (config_of mid) (left history.released (state (config_of mid) history.entries)) a e → e ≡ UnknownTask
      unknown (inl refuses) = refuses_named (config_of mid) history.entries history.released a e named refuses
      unknown (inr want) = absurd (never_named (config_of mid) history.entries history.released a want.2.0 named want.2.1)

      names : (o : Option ℕ) → asked a ≡ o → is_one_of o history.released ≡ true → NamesReleased old a
      names None so among = absurd (cc)
      names (Some t) so among = (t, so, subst (λ x. is_among t (released_of x) ≡ true) is among)
  refused a e why false off = inr (subst (λ x. IsRefusedAt (config x) (state_of x) a e) is (whole why))
    where
      whole : IsRefusedAt (config_of mid) (left history.released (state (config_of mid) history.entries)) a e → IsRefusedAt (config_of mid) (state (config_of mid) history.entries) a e
      whole (inl refuses) = inl (refuses_whole (config_of mid) history.entries history.released a e held.stands.legal held.stands.may off refuses)
      whole (inr want) =
          inr (
            want.0,
            needs_left (state (config_of mid) history.entries) history.released a want.1,
            (want.2.0, gives_whole (config_of mid) history.entries history.released a want.2.0 held.stands.legal held.stands.may want.2.1),
          )

  pub denies : (a : Ask) (e : PoolError) → IsDeniedBy told mid a e → IsDenied keeps old a e
  denies a e (inl torn) = inl (torn.0, λ fits. torn.1 (subst (λ x. FitsOutcome x.machine a) (sym is) fits))
  denies a e (inr why) =
      inr (
        subst (λ x. FitsOutcome x.machine a) is why.0,
        or_released keeps (IsRefusedAt (config old) (state_of old) a e) ((e ≡ UnknownTask) × NamesReleased old a)
            (refused a e (why.1 history.entries history.released held.stands) (is_one_of (asked a) history.released) refl)
            (λ kept named. none_among named.1.0 (released_of old)
            (ap released_of (sym is) ∙ free kept mid.noted history.entries history.released held.stands.told) named.1.2),
      )
