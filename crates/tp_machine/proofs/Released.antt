-- What a step gives and refuses in a state from which tasks are left out.
use Rattle.std.proofs.Common.{◌≡◌, ℕ, Bool, true, false, ◌||◌, List, length, None, Ok, Err, arith, refl, sym, ap, subst, ◌∙◌, inl, inr}
use Rattle.std.specs.Prelude.{unwrap_or, is_none, IfSome}
use Rattle.std.proofs.lemmas.List.{get_or_past}
use Rattle.tp_types.specs.declared.configs.Config.{Config}
use Rattle.tp_types.specs.declared.refusals.PoolError.{PoolError}
use Rattle.tp_types.specs.declared.refusals.PoolError.TheVariants.{UnknownTask}
use Rattle.tp_record.specs.declared.entries.Entry.{Entry}
use Rattle.tp_record.specs.declared.entries.Ask.{Ask}
use Rattle.tp_record.specs.declared.entries.Did.{Did}
use Rattle.tp_record.specs.Effects.{reserves, frees}
use Rattle.tp_record.specs.Lists.{is_it}
use Rattle.tp_record.specs.Fields.{slot_rows}
use Rattle.tp_record.specs.Left.{left, mark, MayAll, asked, is_one_of}
use Rattle.tp_record.specs.State.{state, slot_at}
use Rattle.tp_record.specs.Step.{Answer, Legal, Gives, Refuses, IsRefused, IsFreeTo}
use Rattle.tp_laws.proofs.Left.LeftOut.{step_legal, unknown_left}
use Rattle.tp_laws.proofs.Left.Marks.{step_marked, left_slots}
use Rattle.tp_machine_state.specs.Shows.{Shows}
use Rattle.tp_machine_state.proofs.Leaving.{shows_left, shows_marked}
use Rattle.tp_machine.specs.Seen.{Seen, At, config_of}

-- what a machine shows where the tasks that were released are only marked, as the proofs of steps speak of it
pub marked : {P R : Type 0} (tells : R → List Entry → List ℕ → Type 0) (m : Seen P R) (h : List Entry) (rs : List ℕ) → At tells m h rs → Shows m.parts (mark rs (state (config_of m) h))
marked tells m h rs at = shows_marked (config_of m) h rs at.legal at.may m.parts at.shows

-- it stands where it shows that
pub stands_at : {P R : Type 0} (tells : R → List Entry → List ℕ → Type 0) (m : Seen P R) (h : List Entry) (rs : List ℕ) → tells m.noted h rs → Legal (config_of m) h → MayAll rs (state (config_of m) h) →
    Shows m.parts (mark rs (state (config_of m) h)) → At tells m h rs
stands_at tells m h rs told legal may shows = record { told = told; legal = legal; may = may; shows = shows_left (config_of m) h rs legal may m.parts shows }

-- a number that no slot has
pub free_here : (c : Config) (h : List Entry) (a : Ask) → IsFreeTo (state c h) a (length (slot_rows h))
free_here c h a = inl (get_or_past (slot_rows h) (length (slot_rows h)) None (omega arith))

pub free_marked : (c : Config) (h : List Entry) (rs : List ℕ) (a : Ask) → IsFreeTo (mark rs (state c h)) a (length (slot_rows h))
free_marked c h rs a = inl (get_or_past (slot_rows h) (length (slot_rows h)) None (omega arith))

same_error : (e f : PoolError) → ◌≡◌ {A = Answer} (Err e) (Err f) → f ≡ e
same_error e f is = grind arith

two_answers : (e : PoolError) (d : Did) → ◌≡◌ {A = Answer} (Err e) (Ok d) → ⊥
two_answers e d is = cc

module _ (c : Config) (h : List Entry) (rs : List ℕ) where
  -- the same numbers are free
  free_left : (a : Ask) (w : ℕ) → IsFreeTo (state c h) a w → IsFreeTo (left rs (state c h)) a w
  free_left a w (inl none) = inl (ap (λ xs. slot_at xs w) (left_slots rs (state c h)) ∙ none)
  free_left a w (inr own) = inr own

  free_whole : (a : Ask) (w : ℕ) → IsFreeTo (left rs (state c h)) a w → IsFreeTo (mark rs (state c h)) a w
  free_whole a w (inl none) = inl (ap (λ xs. slot_at xs w) (sym (left_slots rs (state c h))) ∙ none)
  free_whole a w (inr own) = inr own

  -- what the step gives where these tasks are only marked, it gives in what is left
  pub gives_left : (a : Ask) (d : Did) → Legal c h → MayAll rs (state c h) → Gives c (mark rs (state c h)) a d → Gives c (left rs (state c h)) a d
  gives_left a d legal may gives = (
    sym (step_marked c h rs (unwrap_or (reserves d) 0) a legal may) ∙ gives.0,
    subst (λ xs. IfSome (reserves d) (λ w. (is_none (slot_at xs w) || is_it (frees d) w) ≡ true)) (sym (left_slots rs (state c h))) gives.1,
  )

  -- and what it refuses, it refuses
  pub refuses_left : (a : Ask) (e : PoolError) → Legal c h → MayAll rs (state c h) → Refuses c (mark rs (state c h)) a e → Refuses c (left rs (state c h)) a e
  refuses_left a e legal may refuses = λ w free. sym (step_marked c h rs w a legal may) ∙ refuses w (free_whole a w free)

  -- an ask that names none of them is refused in the whole state too
  pub refuses_whole : (a : Ask) (e : PoolError) → Legal c h → MayAll rs (state c h) → is_one_of (asked a) rs ≡ false → Refuses c (left rs (state c h)) a e → Refuses c (state c h) a e
  refuses_whole a e legal may off refuses = λ w free. sym (step_legal c h legal rs w a may off) ∙ refuses w (free_left a w free)

  -- one that names one of them is refused as that of an unknown task
  pub refuses_named : (a : Ask) (e : PoolError) → is_one_of (asked a) rs ≡ true → Refuses c (left rs (state c h)) a e → e ≡ UnknownTask
  refuses_named a e named refuses =
      let w = length (slot_rows h) in
      same_error UnknownTask e (sym (unknown_left c rs (state c h) w a named) ∙ refuses w (free_left a w (free_here c h a)))

  -- and is not given
  pub gives_unnamed : (a : Ask) (d : Did) → Gives c (left rs (state c h)) a d → (b : Bool) → is_one_of (asked a) rs ≡ b → is_one_of (asked a) rs ≡ false
  gives_unnamed a d gives true named = absurd (two_answers UnknownTask d (sym (unknown_left c rs (state c h) (unwrap_or (reserves d) 0) a named) ∙ gives.0))
  gives_unnamed a d gives false off = off

  pub never_named : (a : Ask) (d : Did) → is_one_of (asked a) rs ≡ true → ¬ Gives c (left rs (state c h)) a d
  never_named a d named gives = two_answers UnknownTask d (sym (unknown_left c rs (state c h) (unwrap_or (reserves d) 0) a named) ∙ gives.0)

  pub gives_whole : (a : Ask) (d : Did) → Legal c h → MayAll rs (state c h) → Gives c (left rs (state c h)) a d → Gives c (state c h) a d
  gives_whole a d legal may gives =
      let n = unwrap_or (reserves d) 0 in (
        sym (step_legal c h legal rs n a may (gives_unnamed a d gives (is_one_of (asked a) rs) refl)) ∙ gives.0,
        subst (λ xs. IfSome (reserves d) (λ w. (is_none (slot_at xs w) || is_it (frees d) w) ≡ true)) (left_slots rs (state c h)) gives.1,
      )

  -- so is what the model refuses
  pub refused_whole : (a : Ask) (e : PoolError) → Legal c h → MayAll rs (state c h) → is_one_of (asked a) rs ≡ false → IsRefused c (left rs (state c h)) a e → IsRefused c (state c h) a e
  refused_whole a e legal may off (inl refuses) = inl (refuses_whole a e legal may off refuses)
  refused_whole a e legal may off (inr want) = inr (want.0, want.1, (want.2.0, gives_whole a want.2.0 legal may want.2.1))

  pub refused_named : (a : Ask) (e : PoolError) → is_one_of (asked a) rs ≡ true → IsRefused c (left rs (state c h)) a e → e ≡ UnknownTask
  refused_named a e named (inl refuses) = refuses_named a e named refuses
  refused_named a e named (inr want) =
      absurd (two_answers UnknownTask want.2.0 (sym (unknown_left c rs (state c h) (unwrap_or (reserves want.2.0) 0) a named) ∙ want.2.1.0))
