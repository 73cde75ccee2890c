-- Each entry of a legal record has the ask that its answer answers: a record need not keep its asks.
use Rattle.std.proofs.Common.{arith, ◌≡◌, ℕ, ◌-◌, not, List, [], ◌∷◌, Ok, subst}
use Rattle.std.specs.Prelude.{IfOk, unwrap_or}
use Rattle.std.specs.List.{AllByRecursion}
use Rattle.std.proofs.lemmas.Bool.Decides.{nat_tests}
use Rattle.tp_types.specs.declared.configs.Config.{Config}
use Rattle.tp_record.specs.declared.entries.Entry.{Entry}
use Rattle.tp_record.specs.declared.entries.Ask.{Ask}
use Rattle.tp_record.specs.declared.entries.Ask.TheVariants as ask
use Rattle.tp_record.specs.declared.entries.Did.{Did}
use Rattle.tp_record.specs.Asked.{asked}
use Rattle.tp_record.specs.Effects.{reserves}
use Rattle.tp_record.specs.State.{State, state}
use Rattle.tp_record.specs.Step.{Answer, Gives, Legal, fitting}
use Rattle.tp_laws.proofs.Model.Weak.{within}

-- an answer, where it is none of a refusal, is of the form of this ask
abbrev pub HasForm : Ask → Answer → Type 0
HasForm a r = IfOk r (λ d. a ≡ asked d)

-- each answer that fits is of the form of its ask
pub fitting_form : (c : Config) (s : State) (w : ℕ) (a : Ask) → HasForm a (fitting c s w a)
fitting_form c s w (ask.Submit k p) = grind (arith, nat_tests)
fitting_form c s w _ = grind (arith, nat_tests)

abbrev pub IsAsked : Entry → Type 0
IsAsked e = e.ask ≡ asked e.did

-- so is an answer that is given, whatever is left out of the state
pub gives_asked : (c : Config) (s : State) (a : Ask) (d : Did) → Gives c s a d → a ≡ asked d
gives_asked c s a d gives =
    let w = unwrap_or (reserves d) 0 in
    let fits : fitting c s w a ≡ Ok d = within c s (fitting c s w a) d gives.0 in
    subst (HasForm a) fits (fitting_form c s w a)

-- so is each answer of a legal record
pub asked_each : (c : Config) (h : List Entry) → Legal c h → AllByRecursion IsAsked h
asked_each c [] legal = tt
asked_each c (e ∷ h) legal = (gives_asked c (state c h) e.ask e.did legal.0, asked_each c h legal.1)
