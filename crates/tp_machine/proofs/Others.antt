-- In a run with releases the steps that name no released task are a run, and the others are answered 6.
use Rattle.std.proofs.Common.{◌≡◌, ℕ, Bool, true, false, List, [], ◌∷◌, Option, Some, None, Result, Ok, Err, refl, sym, ap, ◌∙◌, subst}
use Rattle.std.specs.Prelude.{map, unwrap_or, if◌then◌else◌}
use Rattle.tp_types.specs.declared.configs.Config.{Config}
use Rattle.tp_types.specs.declared.refusals.PoolError.{PoolError}
use Rattle.tp_types.specs.declared.refusals.PoolError.TheVariants.{UnknownTask}
use Rattle.tp_record.specs.declared.entries.Entry.{Entry}
use Rattle.tp_record.specs.declared.entries.Ask.{Ask}
use Rattle.tp_record.specs.declared.entries.Did.{Did}
use Rattle.tp_record.specs.Effects.{reserves}
use Rattle.tp_record.specs.Left.{left, asked, is_one_of, MayAll}
use Rattle.tp_record.specs.State.{state, next}
use Rattle.tp_record.specs.Step.{Gives, IsRefused, Legal, RunFrom}
use Rattle.tp_laws.proofs.Model.NextState.{next_is_state}
use Rattle.tp_laws.proofs.Left.LeftOut.{may_legal, may_more}
use Rattle.tp_machine.proofs.Released.{gives_unnamed, gives_whole, never_named, refused_named, refused_whole}
use Rattle.tp_machine.specs.declared.tallies.TallyAsk.{TallyAsk}
use Rattle.tp_machine.specs.declared.tallies.TallyAsk.TheVariants as asks
use Rattle.tp_machine.specs.Tallies.{Made, TallyFrom, others, AreUnknown}

abbrev Answered : Type 0
Answered = Result (Option Did) PoolError

-- a run of these steps
abbrev pub IsRunOf : Config → List Entry → List Made → List Entry → Type 0
IsRunOf c h made h' = RunFrom c h (map (λ x. x.0) made) (map (λ x. x.1) made) h'

module _ (c : Config) where
  -- the tasks may be released after a step that names none of them
  may_after : (h : List Entry) (rs : List ℕ) (by : ℕ) (a : Ask) (d : Did) → Legal c h → MayAll rs (state c h) → is_one_of (asked a) rs ≡ false → Gives c (state c h) a d →
      MayAll rs (state c (record { by = by; ask = a; did = d } ∷ h))
  may_after h rs by a d legal may off gives =
      subst (MayAll rs) (sym (next_is_state c h (record { by = by; ask = a; did = d }) legal gives)) (may_legal c h legal rs (unwrap_or (reserves d) 0) a d may off gives.0)

  -- a list that goes on with one step more, unless it names one of them
  more_or_not : (h h' : List Entry) (b : Bool) (x : Made) (rest : List Made) → (b ≡ true → IsRunOf c h rest h') → (b ≡ false → IsRunOf c h (x ∷ rest) h') → IsRunOf c h (if b then rest else x ∷ rest) h'
  more_or_not h h' true x rest named off = named refl
  more_or_not h h' false x rest named off = off refl

  pub others_run : (h : List Entry) (rs : List ℕ) (xs : List TallyAsk) (ys : List Answered) (h' : List Entry) (rs' : List ℕ) → Legal c h → MayAll rs (state c h) → TallyFrom c h rs xs ys h' rs' →
      IsRunOf c h (others rs xs ys) h'
  others_run h rs [] [] h' rs' legal may run = run.0
  others_run h rs [] (y ∷ ys) h' rs' legal may run = absurd run
  others_run h rs (asks.Step by a ∷ xs) [] h' rs' legal may run = absurd run
  others_run h rs (asks.Step by a ∷ xs) (Ok None ∷ ys) h' rs' legal may run = absurd run
  others_run h rs (asks.Step by a ∷ xs) (Ok (Some d) ∷ ys) h' rs' legal may run =
      let off = gives_unnamed c h rs a d run.0 (is_one_of (asked a) rs) refl in
      let gives = gives_whole c h rs a d legal may run.0 in
      let rest = others_run (record { by = by; ask = a; did = d } ∷ h) rs xs ys h' rs' (gives, legal) (may_after h rs by a d legal may off gives) run.1 in
      subst (λ (b : Bool). IsRunOf c h (if b then others rs xs ys else ((by, a), Ok d) ∷ others rs xs ys) h') (sym off) (gives, rest)
  others_run h rs (asks.Step by a ∷ xs) (Err e ∷ ys) h' rs' legal may run =
      let rest = others_run h rs xs ys h' rs' legal may run.1 in
      more_or_not h h' (is_one_of (asked a) rs) ((by, a), Err e) (others rs xs ys) (λ named. rest) (λ off. (refused_whole c h rs a e legal may off run.0, rest))
  others_run h rs (asks.Release t ∷ xs) [] h' rs' legal may run = absurd run
  others_run h rs (asks.Release t ∷ xs) (Ok None ∷ ys) h' rs' legal may run = others_run h (t.0 ∷ rs) xs ys h' rs' legal (may_more rs (state c h) t.0 may run.0) run.1
  others_run h rs (asks.Release t ∷ xs) (Ok (Some d) ∷ ys) h' rs' legal may run = absurd run
  others_run h rs (asks.Release t ∷ xs) (Err e ∷ ys) h' rs' legal may run = others_run h rs xs ys h' rs' legal may run.1

  pub named_unknown : (h : List Entry) (rs : List ℕ) (xs : List TallyAsk) (ys : List Answered) (h' : List Entry) (rs' : List ℕ) → TallyFrom c h rs xs ys h' rs' → AreUnknown rs xs ys
  named_unknown h rs [] [] h' rs' run = tt
  named_unknown h rs [] (y ∷ ys) h' rs' run = tt
  named_unknown h rs (asks.Step by a ∷ xs) [] h' rs' run = tt
  named_unknown h rs (asks.Step by a ∷ xs) (Ok None ∷ ys) h' rs' run = absurd run
  named_unknown h rs (asks.Step by a ∷ xs) (Ok (Some d) ∷ ys) h' rs' run =
      (λ named. absurd (never_named c h rs a d named run.0), named_unknown (record { by = by; ask = a; did = d } ∷ h) rs xs ys h' rs' run.1)
  named_unknown h rs (asks.Step by a ∷ xs) (Err e ∷ ys) h' rs' run = (λ named. ap (λ x. Err x) (refused_named c h rs a e named run.0), named_unknown h rs xs ys h' rs' run.1)
  named_unknown h rs (asks.Release t ∷ xs) [] h' rs' run = tt
  named_unknown h rs (asks.Release t ∷ xs) (Ok None ∷ ys) h' rs' run = named_unknown h (t.0 ∷ rs) xs ys h' rs' run.1
  named_unknown h rs (asks.Release t ∷ xs) (Ok (Some d) ∷ ys) h' rs' run = tt
  named_unknown h rs (asks.Release t ∷ xs) (Err e ∷ ys) h' rs' run = named_unknown h rs xs ys h' rs' run.1
