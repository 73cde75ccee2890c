-- How the machine's answers are the runner's.
use Rattle.std.proofs.Common.{◌≡◌, ◌≢◌, ℕ, zero, suc, List, [], ◌∷◌, ◌++◌, length, Option, Some, Ok, Err, refl, sym, ◌∙◌, ap, subst, arith, inl, inr}
use Rattle.std.specs.Prelude.{◌==◌, nat_lt, is_some, map, option_map, slice_get, if◌then◌else◌}
use Rattle.std.specs.declared.alloc.Global.{Global}
use Rattle.std.specs.declared.vec.Vec.{Vec}
use Rattle.std.specs.Option.{option_to_list}
use Rattle.std.proofs.lemmas.Bool.Decides.{nat_tests}
use Rattle.std.proofs.lemmas.Bool.{cases_lt, ltb-true, lt-ltb}
use Rattle.tp_types.specs.declared.configs.Config.{Config}
use Rattle.tp_types.specs.declared.ids.TaskId.{TaskId}
use Rattle.tp_types.specs.declared.refusals.PoolError.{PoolError}
use Rattle.tp_record.specs.declared.entries.Entry.{Entry}
use Rattle.tp_record.specs.declared.entries.Ask.{Ask}
use Rattle.tp_record.specs.declared.entries.Ask.TheVariants as ask
use Rattle.tp_record.specs.declared.entries.Did.{Did}
use Rattle.tp_record.specs.declared.entries.Did.TheVariants as did
use Rattle.tp_record.specs.Effects.{Outcome, submits}
use Rattle.tp_record.specs.State.{State, state}
use Rattle.tp_record.specs.Step.{Gives, IsRefused, is_known, fitting}
use Rattle.tp_laws.proofs.Model.Weak.{within, submits_next}
use Rattle.tp_machine_state.specs.Payloads.{PutsIn}
use Rattle.tp_machine.specs.Seen.{Seen, At, config_of, promise}
use Rattle.tp_machine.specs.Steps.{IsStep, IsRefusedBy, Stays}
use Rattle.tp_machine.specs.Readings.{EachState}
use Rattle.tp_machine.proofs.Refusals.{refused_as}
use Rattle.tp_text.specs.RunText.{drained}
use Rattle.tp_scenario.specs.declared.counted.Counted.{Counted}
use Rattle.tp_scenario.specs.Played.{Outcomes}
use Rattle.tp_scenario.specs.Answered.{ArePromised, IsAt, Playing, Tells, notes, promise_of}

-- only a stop says how many tasks it handed back
stop_asked : (c : Config) (s : State) (w : ℕ) (a : Ask) (n : ℕ) → fitting c s w a ≡ Ok (did.Stop n) → a ≡ ask.Stop
stop_asked c s w ask.Stop n is = refl
stop_asked c s w _ n is = absurd (grind (arith, nat_tests))

-- another ask hands no task back
quiet : (c : Config) (s : State) (h : List Entry) (a : Ask) (d : Did) → Gives c s a d → a ≢ ask.Stop → (b : Config) → drained b h d ≡ []
quiet c s h a (did.Stop n) gives other b = absurd (other (stop_asked c s _ a n (within c s _ _ gives.0)))
quiet c s h a _ gives other b = refl

-- as many tasks as outcomes
known_at : (os : Outcomes) (t : ℕ) → is_some (option_map promise_of (slice_get os t)) ≡ nat_lt t (length os)
known_at [] t = grind (arith, nat_tests)
known_at (o ∷ os) zero = sym (lt-ltb 0 (length (o ∷ os)) (omega arith))
known_at (o ∷ os) (suc t) = known_at os t ∙ grind (arith, nat_tests)

same_bound : (n k : ℕ) → ((t : ℕ) → nat_lt t n ≡ nat_lt t k) → n ≡ k
same_bound n k same =
    elim (cases_lt n k) [
      | inl below ↦ absurd (omega (arith, ltb-true n n (same n ∙ lt-ltb n k below)))
      | inr above ↦ elim (cases_lt k n) [ inl less ↦ absurd (omega (arith, ltb-true k k (sym (same k) ∙ lt-ltb k n less))) | inr up ↦ omega arith ]
    ]

-- one more outcome
more_at : (os : Outcomes) (o : Outcome) (u : ℕ) → (if u == length os then Some (promise_of o) else option_map promise_of (slice_get os u)) ≡ option_map promise_of (slice_get (os ++ o ∷ []) u)
more_at [] o zero = refl
more_at [] o (suc u) = grind (arith, nat_tests)
more_at (x ∷ os) o zero = grind (arith, nat_tests)
more_at (x ∷ os) o (suc u) =
    let same : (suc u == length (x ∷ os)) ≡ (u == length os) = grind (arith, nat_tests) in
    ap (λ b. if b then Some (promise_of o) else option_map promise_of (slice_get os u)) same ∙ more_at os o u

module _ (m n : Seen (Unit {0}) Counted) (os : Outcomes) (p : Playing) (is : IsAt (record { machine = m; outcomes = os }) p) where
  -- an accepted step is told with its entry
  pub accepted : (zs : Outcomes) (o : Option Outcome) (a : Ask) (d : Did) (v : Vec (TaskId × Option (Unit {0})) Global) → IsStep notes m n 0 a d → zs ≡ os ++ option_to_list o
      → map (λ y. y.0.0) v.items ≡ drained p.config p.history d
      → Tells p a o (record { answer = Ok (record { by = 0; ask = a; did = d }); handed = v }) (record { machine = n; outcomes = zs })
  accepted zs o a d v step grows back = record {
    answers = record {
      answers = (refl, subst (λ c. Gives c (state c p.history) a d) is.config (step.gives p.history [] is.at));
      leads = record { at = step.writes p.history [] is.at; config = step.config ∙ is.config; outcomes = grows ∙ ap (λ ys. ys ++ option_to_list o) is.outcomes };
    };
    asks = refl;
    back = back;
  }

  -- a refused one with its refusal, and nothing has changed
  pub denied : (o : Option Outcome) (a : Ask) (e : PoolError) (v : Vec (TaskId × Option (Unit {0})) Global) → Stays notes m n → IsRefusedBy notes m a e
      → Tells p a o (record { answer = Err (record { ask = a; error = e }); handed = v }) (record { machine = n; outcomes = os })
  denied o a e v stays says = record {
    answers = record {
      answers = subst (λ c. IsRefused c (state c p.history) a e) is.config (refused_as (config_of m) (state (config_of m) p.history) a e (says p.history [] is.at));
      leads = record { at = stays.stands p.history [] is.at; config = stays.config ∙ is.config; outcomes = is.outcomes };
    };
    asks = refl;
    back = tt;
  }

  -- a step that is no stop hands no task back
  pub none_back : (a : Ask) (d : Did) → IsStep notes m n 0 a d → a ≢ ask.Stop → [] ≡ drained p.config p.history d
  none_back a d step other = sym (quiet (config_of m) (state (config_of m) p.history) p.history a d (step.gives p.history [] is.at) other p.config)

  -- what is read of the machine, said of where the runner stands
  pub seen : (F : State → Type 0) → EachState notes m F → F (state p.config p.history)
  seen F each = subst (λ c. F (state c p.history)) is.config (each p.history [] is.at)

-- promises stay, or one more comes
module _ (m n : Seen (Unit {0}) Counted) (os : Outcomes) (promised : ArePromised m os) where
  pub promised_more : (h : List Entry) (a : Ask) (d : Did) (t : ℕ) (o : Outcome) → At notes m h [] → IsStep notes m n 0 a d → submits d ≡ Some t → PutsIn m.parts.tasks n.parts.tasks t (promise_of o) tt
      → EachState notes m (λ s. (u : ℕ) → is_some (promise m u) ≡ is_known s u) → ArePromised n (os ++ o ∷ [])
  promised_more h a d t o at step names puts law u =
      let c = config_of m in
      let s = state c h in
      let many : length s.tasks ≡ length os = same_bound (length s.tasks) (length os) (λ v. sym (law h [] at v) ∙ ap is_some (promised v) ∙ known_at os v) in
      let number : t ≡ length os = submits_next c s _ a d t (within c s _ _ (step.gives h [] at).0) names ∙ many in
      puts.promises u ∙ ap (λ x. if u == x then Some (promise_of o) else promise m u) number ∙ ap (λ x. if u == length os then Some (promise_of o) else x) (promised u) ∙ more_at os o u
