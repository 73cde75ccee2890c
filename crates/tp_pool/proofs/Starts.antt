-- Prestarts one after another, with their receipts.
use Rattle.std.proofs.Common.{◌≡◌, ℕ, ◌+◌, ◌<◌, ◌≤◌, Bool, true, false, List, [], ◌∷◌, ◌++◌, length, length-append, append_assoc, refl, inl, inr, ap, sym, subst, ◌∙◌, ⊎_elim, arith}
use Rattle.std.specs.Prelude.{flat_map, Some, None, Result, Ok, Err, IfOk}
use Rattle.std.proofs.lemmas.List.{flat_map_more}
use Rattle.std.proofs.lemmas.Bool.{eqb-true}
use Rattle.tp_types.specs.declared.configs.Config.{Config}
use Rattle.tp_types.specs.declared.ids.SlotId.{SlotId}
use Rattle.tp_types.specs.declared.refusals.PoolError.{PoolError}
use Rattle.tp_record.specs.declared.entries.Ask.{Ask}
use Rattle.tp_record.specs.declared.entries.Ask.TheVariants as ask
use Rattle.tp_record.specs.declared.entries.Did.{Did}
use Rattle.tp_record.specs.declared.entries.Did.TheVariants as did
use Rattle.tp_record.specs.declared.entries.Opened.TheVariants as opened
use Rattle.tp_record.specs.declared.entries.Entry.{Entry}
use Rattle.tp_record.specs.Step.{Legal}
use Rattle.tp_book.specs.PassView.{PassView}
use Rattle.tp_pool_holds.specs.Passes.{Adds, AddsStep, AddsNone, LooksOnly, entry_of, opening}
use Rattle.tp_pool_holds.specs.Endings.{IsBarred}
use Rattle.tp_pool.specs.Prestarts.{prestarted, is_live, IsPrestart, AddsPrestart, live_start, IsStarts, AddsStarts}
use Rattle.tp_pool_holds.proofs.Receipts.{adds_both, adds_behind, step_behind, looks_adds, looks_none, stands_looking}

live_opening : (by : ℕ) (w : SlotId) (staffed : Bool) (d : Did) → is_live w staffed d ≡ true → entry_of by (opening w staffed) d ≡ entry_of by (ask.Open w) (did.Open w opened.Live)
live_opening by w true (did.Open v opened.Live) is = ap (λ (n : ℕ). entry_of by (ask.Open w) (did.Open (record { 0 = n }) opened.Live)) (eqb-true v.0 w.0 is)
live_opening by w true _ is = absurd (cc)
live_opening by w false _ is = absurd (cc)

module _ (c : Config) where
  -- a prestart whose worker lives
  live_steps : (by : ℕ) (steps history : List Entry) → IsPrestart c by steps true history → (w : SlotId) × (steps ≡ live_start by w)
  live_steps by steps history is =
      ⊎_elim (λ (x : (steps ≡ prestarted by None ∷ []) × (true ≡ false)). let other = x.1 in absurd (cc))
      (⊎_elim (λ (x : (w : SlotId) × (staffed : Bool) × (steps ≡ prestarted by (Some w) ∷ []) × (true ≡ false) × IsBarred c history (opening w staffed)). let other = x.3 in absurd (cc))
      (λ (x : (w : SlotId) × (staffed : Bool) × (d : Did) × (steps ≡ prestarted by (Some w) ∷ entry_of by (opening w staffed) d ∷ []) × (true ≡ is_live w staffed d)).
      (x.0, x.3 ∙ ap (λ e. prestarted by (Some x.0) ∷ e ∷ []) (live_opening by x.0 x.1 x.2 (sym x.4)))))
      is

  -- it makes a step at least
  asks : (by : ℕ) (steps history : List Entry) (live : Bool) → IsPrestart c by steps live history → 0 < length steps
  asks by steps history live is =
      ⊎_elim (λ (x : (steps ≡ prestarted by None ∷ []) × (live ≡ false)). omega (arith, ap length x.0))
      (⊎_elim (λ (x : (w : SlotId) × (staffed : Bool) × (steps ≡ prestarted by (Some w) ∷ []) × (live ≡ false) × IsBarred c history (opening w staffed)). omega (arith, ap length x.2))
      (λ (x : (w : SlotId) × (staffed : Bool) × (d : Did) × (steps ≡ prestarted by (Some w) ∷ entry_of by (opening w staffed) d ∷ []) × (live ≡ is_live w staffed d)). omega (arith, ap length x.3)))
      is

  pub prestart_asks : (old new : PassView) (live : Bool) → AddsPrestart c old live new → old.amount < new.amount
  prestart_asks old new live adds = let some = asks old.number adds.0 new.front live adds.1 in omega (arith, adds.2.amount, some)

  -- a prestart behind room for its receipts
  prestart_behind : (old mid new : PassView) (live : Bool) → AddsNone old mid → AddsPrestart c mid live new → AddsPrestart c old live new
  prestart_behind old mid new live none adds =
      (adds.0, subst (λ by. IsPrestart c by adds.0 live new.front) (ap (λ p. p.number) none.0) adds.1, adds_behind c old mid new adds.0 none adds.2)

  pub prestarts_behind : (old mid new : PassView) (r : Result Bool PoolError) → AddsNone old mid → IfOk r (λ live. AddsPrestart c mid live new) → IfOk r (λ live. AddsPrestart c old live new)
  prestarts_behind old mid new (Ok live) none adds = prestart_behind old mid new live none adds
  prestarts_behind old mid new (Err e) none adds = tt

  -- so many workers were started, all of which live: what is added then comes behind the entries of their starts
  pub record Started (old : PassView) (live : ℕ) (new : PassView) : Type 0 where
    pub slots : List SlotId
    pub count : length slots ≡ live
    pub number : new.number ≡ old.number
    pub amount : old.amount + live ≤ new.amount
    pub behind : (ys : List Entry) (last : PassView) → Adds c new ys last → Adds c old (flat_map (live_start old.number) slots ++ ys) last
    pub legal : 0 < live → Legal c new.front

  pub none_started : (old new : PassView) → AddsNone old new → Started old 0 new
  none_started old new none = record {
    slots = [];
    count = refl;
    number = ap (λ p. p.number) none.0;
    amount = omega (arith, ap (λ p. p.amount) none.0);
    behind = λ ys last adds. adds_behind c old new last ys none adds;
    legal = λ some. absurd (omega (arith, some));
  }

  pub looked : (old mid new : PassView) (live : ℕ) → Started old live mid → LooksOnly c mid new → Started old live new
  looked old mid new live started looks = record {
    slots = started.slots;
    count = started.count;
    number = ap (λ p. p.number) looks.0 ∙ started.number;
    amount = omega (arith, ap (λ p. p.amount) looks.0, started.amount);
    behind = λ ys last adds. started.behind ys last (adds_behind c mid new last ys (looks_none c mid new looks) adds);
    legal = λ some. looks.2;
  }

  pub one_more : (old mid new : PassView) (live : ℕ) → Started old live mid → AddsPrestart c mid true new → Started old (live + 1) new
  one_more old mid new live before more =
      let by = subst (λ by. IsPrestart c by more.0 true new.front) before.number more.1 in
      let start = live_steps old.number more.0 new.front by in
      let w = start.0 in
      let first : Adds c mid (live_start old.number w) new = subst (λ steps. Adds c mid steps new) start.1 more.2 in
      let starts = flat_map (live_start old.number) before.slots in
      let same : flat_map (live_start old.number) (before.slots ++ w ∷ []) ≡ starts ++ live_start old.number w = sym (flat_map_more (live_start old.number) [] before.slots w) in record {
        slots = before.slots ++ w ∷ [];
        count = length-append before.slots (w ∷ []) ∙ ap (λ n. n + 1) before.count;
        number = first.number ∙ before.number;
        amount = omega (arith, first.amount, before.amount);
        behind = λ ys last adds. subst (λ steps. Adds c old steps last)
            (sym (ap (λ steps. steps ++ ys) same ∙ append_assoc starts (live_start old.number w) ys))
            (before.behind (live_start old.number w ++ ys) last (adds_both c mid new last (live_start old.number w) ys first adds));
        legal = λ some. first.legal;
      }

  module _ (Stops : List Entry → Type 0) where
    -- one more prestart starts none
    pub starts_fail : (old mid new : PassView) (live most : ℕ) → Started old live mid → live < most → AddsPrestart c mid false new → AddsStarts c Stops most [] old live new
    starts_fail old mid new live most started within last = (
      flat_map (live_start old.number) started.slots ++ last.0,
      (started.slots, last.0, started.count, refl, inr (inr (subst (λ by. IsPrestart c by last.0 false new.front) started.number last.1, within))),
      started.behind last.0 new last.2,
    )

    -- no more are to be started
    pub starts_stop : (old mid new : PassView) (live most : ℕ) → Started old live mid → live < most → LooksOnly c mid new → Stops new.front → AddsStarts c Stops most [] old live new
    starts_stop old mid new live most started within looks stops = (
      flat_map (live_start old.number) started.slots ++ [],
      (started.slots, [], started.count, refl, inr (inl (refl, within, stops))),
      started.behind [] new (looks_adds c mid new looks),
    )

    -- all were
    pub starts_all : (old new : PassView) (most : ℕ) → Started old most new → Legal c new.front → AddsStarts c Stops most [] old most new
    starts_all old new most started legal = (
      flat_map (live_start old.number) started.slots ++ [],
      (started.slots, [], started.count, refl, inl (refl, refl)),
      started.behind [] new (looks_adds c new new (stands_looking c new legal)),
    )

    -- starts behind room for more and a step
    pub core_and_starts : (old mid after new : PassView) (core added most live : ℕ) → AddsNone old mid → AddsStep c mid (ask.Core core) (did.Core core added) after →
        AddsStarts c Stops most [] after live new → AddsStarts c Stops most (entry_of old.number (ask.Core core) (did.Core core added) ∷ []) old live new
    core_and_starts old mid after new core added most live none step starts =
        let first : AddsStep c old (ask.Core core) (did.Core core added) after = step_behind c old mid after (ask.Core core) (did.Core core added) none step in (
          starts.0,
          subst (λ by. IsStarts c Stops by most starts.0 live new.front) first.number starts.1,
          adds_both c old after new (entry_of old.number (ask.Core core) (did.Core core added) ∷ []) starts.0 first starts.2,
        )
