-- When a program's answer is the step's.
use Rattle.std.specs.Prelude.{MatchResult}
use Rattle.std.proofs.Common.{◌≡◌, Result, Ok, Err, inl, refl, sym, subst, ◌∙◌}
use Rattle.tp_types.specs.declared.refusals.PoolError.{PoolError}
use Rattle.tp_record.specs.declared.entries.Did.{Did}
use Rattle.tp_record.specs.State.{State}
use Rattle.tp_record.specs.Step.{Answer}
use Rattle.tp_rules.specs.Answers.{Says}
use Rattle.tp_rules.specs.PlainState.{IsAnswer}

IsAnswer-self : (Lacks : Type 0) (a : Answer) → IsAnswer Lacks a a
IsAnswer-self Lacks (Ok d) = refl
IsAnswer-self Lacks (Err e) = inl refl

-- the same answer
IsAnswer-same : (Lacks : Type 0) (x a : Answer) → x ≡ a → IsAnswer Lacks x a
IsAnswer-same Lacks x a e = subst (λ (y : Answer). IsAnswer Lacks y a) (sym e) (IsAnswer-self Lacks a)

-- what is answered to a step is answered to one that says the same at each state that is read
pub says_same : {X : Type 0} (Reads : State → Type 0) (old new : State → Answer) (f : X → Did) (r : Result X PoolError) → ((s : State) → Reads s → new s ≡ old s) → Says Reads old f r → Says Reads new f r
says_same Reads old new f (Ok x) same says = λ s reads. same s reads ∙ says s reads
says_same Reads old new f (Err e) same says = λ s reads. same s reads ∙ says s reads

-- the entry d where the step fits that makes it
pub told_answer : {X : Type 0} (Lacks : Type 0) (Reads : State → Type 0) (step : State → Answer) (d : Did) (a : Result X PoolError) (r : Answer) →
    Says Reads step (λ x. d) a → MatchResult a (λ x. r ≡ Ok d) (λ e. r ≡ Err e) → (s : State) → Reads s → IsAnswer Lacks r (step s)
told_answer Lacks Reads step d (Ok x) r says told s reads = IsAnswer-same Lacks r (step s) (told ∙ sym (says s reads))
told_answer Lacks Reads step d (Err e) r says told s reads = IsAnswer-same Lacks r (step s) (told ∙ sym (says s reads))
