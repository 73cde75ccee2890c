-- Fronts of a record, and what a legal record says of its length and its rank.
use Rattle.std.proofs.Common.{◌≡◌, ℕ, suc, ◌+◌, ◌<◌, ◌≤◌, Bool, true, false, cond, List, [], ◌∷◌, ◌++◌, length, take, drop, reverse, get_or, Ok, Err, refl, sym, ap, ◌∙◌, ◌⊎◌, inl, inr, subst, arith, append_assoc, length-take, ◌↔◌, IsTrue}
use Rattle.std.specs.Prelude.{Result, unwrap_or, IfOk, IfSome}
use Rattle.std.proofs.lemmas.Bool.{leb-true}
use Rattle.std.proofs.lemmas.List.{reverse-append, take-append-drop, drop_more}
use Rattle.tp_types.specs.declared.configs.Config.{Config}
use Rattle.tp_types.specs.declared.refusals.PoolError.TheVariants.{BookFull}
use Rattle.tp_types.specs.Config.{IsConfig}
use Rattle.tp_record.specs.declared.entries.Entry.{Entry}
use Rattle.tp_record.specs.declared.entries.Did.{Did}
use Rattle.tp_record.specs.declared.entries.Did.TheVariants as did
use Rattle.tp_record.specs.Effects.{reaches, reserves}
use Rattle.tp_record.specs.Fields.{rank}
use Rattle.tp_record.specs.State.{State, state, next, due}
use Rattle.tp_record.specs.Step.{Answer, Gives, Legal, step, within_room, leaves_room, is_free_for}
use Rattle.tp_rules.proofs.Histories.{history_more}
use Rattle.tp_audit_plain.specs.Audit.{IsFirstFlaw, OneJudgment}

-- what holds at all events holds of an Ok
pub if_ok : {T E : Type 0} (r : Result T E) (P : Type 0) → P → IfOk r (λ s. P)
if_ok (Ok s) P holds = holds
if_ok (Err f) P holds = tt

-- an entry is within the record's limit
within_limit : (c : Config) (s : State) (a : Answer) (d : Did) → within_room c s a ≡ Ok d → suc s.steps ≤ c.record_limit
within_limit c s (Err e) d is = cc
within_limit c s (Ok x) d is = by_room (leaves_room c s x) refl is
  where
    by_room : (b : Bool) → leaves_room c s x ≡ b → cond b (Ok x) (Err BookFull) ≡ Ok d → suc s.steps ≤ c.record_limit
    by_room true room is =
        let fits : suc s.steps + due (next s x) ≤ c.record_limit = leb-true _ _ room in
        omega (arith, fits)
    by_room false room is = cc

-- a legal record is within its limit
pub legal_length : (c : Config) (h : List Entry) → IsConfig c → Legal c h → length h ≤ 1048576
legal_length c [] config legal = omega arith
legal_length c (e ∷ h) config legal = omega (arith, within_limit c (state c h) _ e.did legal.0.0, config.greatest_limit)

reaches-le : (d : Did) → reaches d ≤ 4
reaches-le did.Shutdown = omega arith
reaches-le (did.Stop n) = omega arith
reaches-le did.Tidy = omega arith
reaches-le did.Ended = omega arith
reaches-le _ = omega arith

-- the ranks are 0 to 4
pub rank-le : (h : List Entry) → rank h ≤ 4
rank-le [] = omega arith
rank-le (e ∷ h) = omega (arith, reaches-le e.did, rank-le h)

-- each front of a legal record is legal, and its next entry is given
legal_tail : (c : Config) (later h : List Entry) → Legal c (later ++ h) → Legal c h
legal_tail c [] h legal = legal
legal_tail c (e ∷ later) h legal = legal_tail c later h legal.1

-- the history of a record in three parts: a front, one entry, and those later
history_parts : (before later : List Entry) (e : Entry) → reverse (before ++ e ∷ later) ≡ reverse later ++ e ∷ reverse before
history_parts before later e =
    reverse-append before (e ∷ later) ∙ ap (λ h. h ++ reverse before) (reverse-append (e ∷ []) later)
    ∙ append_assoc (reverse later) (e ∷ []) (reverse before)

-- a record with a flaw is not legal
not_both : (c : Config) (es : List Entry) (n : ℕ) → IsFirstFlaw c es n → Legal c (reverse es) → ⊥
not_both c es n flaw legal =
    let P : List Entry → Type 0 = λ h. Legal c h in
    let whole : Legal c (reverse flaw.later ++ flaw.entry ∷ reverse flaw.before) =
    subst P (ap reverse flaw.parts ∙ history_parts flaw.before flaw.later flaw.entry) legal in
    flaw.not_given (legal_tail c (reverse flaw.later) (flaw.entry ∷ reverse flaw.before) whole).0

-- list b begins with a and then d
abbrev Goes : List Entry → Entry → List Entry → Type 0
Goes a d b = (between : List Entry) × (b ≡ a ++ d ∷ between)

-- two fronts of one list: they are one, or one goes on into the other
abbrev Fronts : List Entry → Entry → List Entry → Entry → Type 0
Fronts a d b e = (a ≡ b) ⊎ (Goes a d b ⊎ Goes b e a)

fronts_more : (x y d e : Entry) (a b : List Entry) → x ≡ y → Fronts a d b e → Fronts (x ∷ a) d (y ∷ b) e
fronts_more x y d e a b is (inl same) = inl (cc)
fronts_more x y d e a b is (inr (inl goes)) = let at = goes.1 in inr (inl (goes.0, cc))
fronts_more x y d e a b is (inr (inr goes)) = let at = goes.1 in inr (inr (goes.0, cc))

fronts : (a b m n : List Entry) (d e : Entry) → a ++ d ∷ m ≡ b ++ e ∷ n → Fronts a d b e
fronts [] [] m n d e is = inl refl
fronts [] (y ∷ b) m n d e is = inr (inl (b, cc))
fronts (x ∷ a) [] m n d e is = inr (inr (a, cc))
fronts (x ∷ a) (y ∷ b) m n d e is = fronts_more x y d e a b (cc) (fronts a b m n d e (cc))

-- the front of a first flaw is legal, so no other flaw stands in it
in_front : (c : Config) (es fs : List Entry) (n m : ℕ) (flaw : IsFirstFlaw c es n) (other : IsFirstFlaw c fs m) → Goes flaw.before flaw.entry other.before → ⊥
in_front c es fs n m flaw other goes =
    not_both c other.before n (record {
      before = flaw.before;
      entry = flaw.entry;
      later = goes.0;
      parts = goes.1;
      number = flaw.number;
      legal = flaw.legal;
      not_given = flaw.not_given;
    }) other.legal

one_flaw : (c : Config) (es : List Entry) (n m : ℕ) → IsFirstFlaw c es n → IsFirstFlaw c es m → n ≡ m
one_flaw c es n m flaw other =
    elim (fronts flaw.before other.before flaw.later other.later flaw.entry other.entry (sym flaw.parts ∙ other.parts)) [
      | inl same ↦ flaw.number ∙ ap (λ b. suc (length b)) same ∙ sym other.number
      | inr (inl goes) ↦ absurd (in_front c es es n m flaw other goes)
      | inr (inr goes) ↦ absurd (in_front c es es m n other flaw goes)
    ]

pub one_judgment : OneJudgment
one_judgment = record { not_both = not_both; one_flaw = one_flaw }

-- Entry i of a record, counted from 0, after those before it

module _ (c : Config) (es : List Entry) (i : ℕ) (d : Entry) (within : i < length es) (legal : Legal c (reverse (take i es))) where
  pub legal_more : Gives c (state c (reverse (take i es))) (get_or es i d).ask (get_or es i d).did → Legal c (reverse (take (i + 1) es))
  legal_more gives = let P : List Entry → Type 0 = λ h. Legal c h in subst P (sym (history_more es i d within)) (gives, legal)

  pub first_flaw : (Gives c (state c (reverse (take i es))) (get_or es i d).ask (get_or es i d).did → ⊥) → IsFirstFlaw c es (i + 1)
  first_flaw not_given =
      record {
        before = take i es;
        entry = get_or es i d;
        later = drop (i + 1) es;
        parts = sym (take-append-drop i es) ∙ ap (λ xs. take i es ++ xs) (drop_more es i d within);
        number = omega (arith, length-take i es);
        legal = legal;
        not_given = not_given;
      }

-- an entry is given where the step answers so over the history's state, and the number of a slot that it makes is free
pub given_by : (c : Config) (p s : State) (e : Entry) (b : Bool) → p ≡ s → step c p (unwrap_or (reserves e.did) 0) e.ask ≡ Ok e.did →
    (IsTrue b ↔ IfSome (reserves e.did) (λ w. is_free_for p e.did w ≡ true)) → (IsTrue b ↔ Gives c s e.ask e.did)
given_by c p s e b same is free =
    let P : State → Type 0 = λ q. (IsTrue b ↔ Gives c q e.ask e.did) in
    subst P same ((λ t. (is, free.0 t)), (λ gives. free.1 gives.1))
