-- Receipts that come after receipts, and fronts after fronts.
use Rattle.std.proofs.Common.{ℕ, ◌≡◌, ◌+◌, Bool, true, false, List, [], ◌∷◌, ◌++◌, length, append_assoc, length-append, refl, ap, sym, subst, ◌∙◌, arith}
use Rattle.std.specs.Prelude.{All, if◌then◌else◌}
use Rattle.std.proofs.lemmas.List.{append-nil}
use Rattle.std.proofs.lemmas.List.Elements.{All-nil, All-append}
use Rattle.tp_types.specs.declared.configs.Config.{Config}
use Rattle.tp_record.specs.declared.entries.Ask.{Ask}
use Rattle.tp_record.specs.declared.entries.Did.{Did}
use Rattle.tp_record.specs.declared.entries.Entry.{Entry}
use Rattle.tp_record.specs.Step.{Legal}
use Rattle.tp_glance.specs.Word.{IsFrontOf}
use Rattle.tp_glance.proofs.Fronts.{IsFrontOf_refl, IsFrontOf_trans}
use Rattle.tp_book.specs.PassView.{PassView, receipts_with}
use Rattle.tp_pool_holds.specs.Passes.{Leads, Adds, AddsStep, AddsNone, LooksOnly, entry_of}

-- a history that goes on further
pub leads_on : (f g h : List Entry) (es : List Entry) → Leads f es g → IsFrontOf g h → Leads f es h
leads_on f g h [] leads on = IsFrontOf_trans leads on
leads_on f g h (e ∷ es) leads on = (leads.0, leads.1, leads_on (e ∷ leads.0) g h es leads.2 on)

-- one that began earlier
pub leads_from : (f g h : List Entry) (es : List Entry) → IsFrontOf f g → Leads g es h → Leads f es h
leads_from f g h [] on leads = IsFrontOf_trans on leads
leads_from f g h (e ∷ es) on leads = (leads.0, IsFrontOf_trans on leads.1, leads.2)

leads_both : (f g h : List Entry) (es ds : List Entry) → Leads f es g → Leads g ds h → Leads f (es ++ ds) h
leads_both f g h [] ds a b = leads_from f g h ds a b
leads_both f g h (e ∷ es) ds a b = (a.0, a.1, leads_both (e ∷ a.0) g h es ds a.2 b)

-- the last front goes on from the first
pub leads_front : (f g : List Entry) (es : List Entry) → Leads f es g → IsFrontOf f g
leads_front f g [] leads = leads
leads_front f g (e ∷ es) leads =
    let noted : IsFrontOf leads.0 (e ∷ leads.0) = record { later = e ∷ []; goes_on = refl } in
    IsFrontOf_trans (IsFrontOf_trans leads.1 noted) (leads_front (e ∷ leads.0) g es leads.2)

-- a pass that has only looked
abbrev pub Later : PassView → PassView → Type 0
Later old new = (new ≡ record old { front = new.front; released = new.released }) × IsFrontOf old.front new.front

pub later_refl : (p : PassView) → Later p p
later_refl p = (refl, IsFrontOf_refl p.front)

pub shown_later : (old new : PassView) (h : List Entry) {rs : List ℕ} → new ≡ record old { front = h; released = rs } → IsFrontOf old.front h → Later old new
shown_later old new h shown on =
    let front = ap (λ p. p.front) shown in
    let released = ap (λ p. p.released) shown in
    (shown ∙ (λ i. record old { front = sym front i; released = sym released i }), subst (λ f. IsFrontOf old.front f) (sym front) on)

pub later_looks : (c : Config) (old mid new : PassView) → Later old mid → LooksOnly c mid new → Later old new
later_looks c old mid new later looks =
    (looks.0 ∙ ap (λ (p : PassView). record p { front = new.front; released = new.released }) later.0, IsFrontOf_trans later.1 looks.1)

pub looks_behind : (c : Config) (old mid new : PassView) → Later old mid → LooksOnly c mid new → LooksOnly c old new
looks_behind c old mid new later looks = let both = later_looks c old mid new later looks in (both.0, both.1, looks.2)

pub later_none : (old new : PassView) → Later old new → AddsNone old new
later_none old new later = (later.0 ∙ ap (λ room. record old { front = new.front; released = new.released; room = room }) (sym (ap (λ p. p.room) later.0)), later.1)

pub looks_none : (c : Config) (old new : PassView) → LooksOnly c old new → AddsNone old new
looks_none c old new looks = later_none old new (looks.0, looks.1)

-- room for more makes no step
pub reserved : (old new : PassView) → new ≡ record old { room = new.room } → AddsNone old new
reserved old new same =
    let front = ap (λ p. p.front) same in
    let released = ap (λ p. p.released) same in
    (same ∙ (λ i. record old { front = sym front i; released = sym released i; room = new.room }), subst (λ f. IsFrontOf old.front f) (sym front) (IsFrontOf_refl old.front))

-- nothing has changed
pub none_added : (old new : PassView) → new ≡ old → AddsNone old new
none_added old new same = later_none old new (subst (λ p. Later old p) (sym same) (later_refl old))

pub none_behind : (old mid new : PassView) → AddsNone old mid → AddsNone mid new → AddsNone old new
none_behind old mid new first later =
    (later.0 ∙ ap (λ (p : PassView). record p { front = new.front; released = new.released; room = new.room }) first.0, IsFrontOf_trans first.1 later.1)

-- no receipts more
with_none : (p : PassView) → receipts_with p [] ≡ p.receipts
with_none p = by p.keeps
  where
    by : (keeps : Bool) → (if keeps then p.receipts ++ [] else p.receipts) ≡ p.receipts
    by true = append-nil p.receipts
    by false = refl

-- some, and then more, whether or not the pass keeps them
with_both : (old mid : PassView) (xs ys : List Entry) → mid.keeps ≡ old.keeps → mid.receipts ≡ receipts_with old xs → receipts_with mid ys ≡ receipts_with old (xs ++ ys)
with_both old mid xs ys keeps receipts =
    ap (λ k. if k then mid.receipts ++ ys else mid.receipts) keeps ∙ ap (λ rs. if old.keeps then rs ++ ys else rs) receipts ∙ by old.keeps
  where
    by : (keeps : Bool) → (if keeps then (if keeps then old.receipts ++ xs else old.receipts) ++ ys else (if keeps then old.receipts ++ xs else old.receipts)) ≡ (if keeps then old.receipts ++ (xs ++ ys) else old.receipts)
    by true = append_assoc old.receipts xs ys
    by false = refl

module _ (c : Config) where
  -- no receipts, where the pass has looked
  pub looks_adds : (old new : PassView) → LooksOnly c old new → Adds c old [] new
  looks_adds old new looks = record {
    number = ap (λ p. p.number) looks.0;
    keeps = ap (λ p. p.keeps) looks.0;
    receipts = ap (λ p. p.receipts) looks.0 ∙ sym (with_none old);
    own = All-nil (λ (e : Entry). e.by ≡ old.number);
    amount = ap (λ p. p.amount) looks.0 ∙ (let none : old.amount ≡ old.amount + 0 = omega arith in none);
    leads = looks.1;
    legal = looks.2;
  }

  -- where the front is legal already
  pub stands_looking : (p : PassView) → Legal c p.front → LooksOnly c p p
  stands_looking p legal = (refl, IsFrontOf_refl p.front, legal)

  -- some, and then more
  pub adds_both : (old mid new : PassView) (xs ys : List Entry) → Adds c old xs mid → Adds c mid ys new → Adds c old (xs ++ ys) new
  adds_both old mid new xs ys a b = record {
    number = b.number ∙ a.number;
    keeps = b.keeps ∙ a.keeps;
    receipts = b.receipts ∙ with_both old mid xs ys a.keeps a.receipts;
    own = All-append (λ (e : Entry). e.by ≡ old.number) xs ys a.own (subst (λ (n : ℕ). All (λ (e : Entry). e.by ≡ n) ys) a.number b.own);
    amount = omega (arith, a.amount, b.amount, length-append xs ys);
    leads = leads_both old.front mid.front new.front xs ys a.leads b.leads;
    legal = b.legal;
  }

  -- some, and then a look
  pub adds_looks : (old mid new : PassView) (xs : List Entry) → Adds c old xs mid → LooksOnly c mid new → Adds c old xs new
  adds_looks old mid new xs adds looks = record {
    number = ap (λ p. p.number) looks.0 ∙ adds.number;
    keeps = ap (λ p. p.keeps) looks.0 ∙ adds.keeps;
    receipts = ap (λ p. p.receipts) looks.0 ∙ adds.receipts;
    own = adds.own;
    amount = ap (λ p. p.amount) looks.0 ∙ adds.amount;
    leads = leads_on old.front mid.front new.front xs adds.leads looks.1;
    legal = looks.2;
  }

  -- some, and then that of one step
  pub adds_then : (old mid new : PassView) (xs : List Entry) (a : Ask) (d : Did) → Adds c old xs mid → AddsStep c mid a d new → Adds c old (xs ++ entry_of old.number a d ∷ []) new
  adds_then old mid new xs a d before step =
      adds_both old mid new xs (entry_of old.number a d ∷ []) before (subst (λ by. Adds c mid (entry_of by a d ∷ []) new) before.number step)

  -- some behind room for more, or behind looks
  pub adds_behind : (old mid new : PassView) (xs : List Entry) → AddsNone old mid → Adds c mid xs new → Adds c old xs new
  adds_behind old mid new xs none adds = record {
    number = adds.number ∙ ap (λ p. p.number) none.0;
    keeps = adds.keeps ∙ ap (λ p. p.keeps) none.0;
    receipts = adds.receipts ∙ ap (λ p. receipts_with p xs) none.0;
    own = subst (λ (n : ℕ). All (λ (e : Entry). e.by ≡ n) xs) (ap (λ p. p.number) none.0) adds.own;
    amount = adds.amount ∙ ap (λ p. p.amount + length xs) none.0;
    leads = leads_from old.front mid.front new.front xs none.1 adds.leads;
    legal = adds.legal;
  }

  pub step_behind : (old mid new : PassView) (a : Ask) (d : Did) → AddsNone old mid → AddsStep c mid a d new → AddsStep c old a d new
  step_behind old mid new a d none step =
      subst (λ (by : ℕ). Adds c old (entry_of by a d ∷ []) new) (ap (λ p. p.number) none.0) (adds_behind old mid new (entry_of mid.number a d ∷ []) none step)
