-- A run of one ask more, and machines whose tasks all promise the same.
use Rattle.std.proofs.Common.{◌≡◌, ℕ, ◌+◌, ◌==◌, ◌<◌, ◌≤◌, Bool, true, false, List, [], ◌∷◌, ◌++◌, length, take, get_or, reverse, Option, Some, None, Ok, Err, refl, sym, ap, ◌∙◌, subst}
use Rattle.std.specs.Prelude.{IfSome, IfOk, IfErr, OnErr, if◌then◌else◌}
use Rattle.std.proofs.lemmas.List.{take_more, take_all}
use Rattle.tp_types.specs.Promise.{FitsPromise}
use Rattle.tp_types.specs.declared.configs.Config.{Config}
use Rattle.tp_types.specs.declared.tasks.Promise.{Promise}
use Rattle.tp_types.specs.declared.refusals.PoolError.{PoolError}
use Rattle.tp_record.specs.declared.entries.Entry.{Entry}
use Rattle.tp_record.specs.declared.entries.Ask.{Ask}
use Rattle.tp_record.specs.declared.entries.Ask.TheVariants as ask
use Rattle.tp_record.specs.declared.entries.Did.{Did}
use Rattle.tp_record.specs.Effects.{Outcome}
use Rattle.tp_record.specs.State.{state}
use Rattle.tp_record.specs.Step.{Answer, Gives, IsRefused, Legal, Run, RunFrom}
use Rattle.tp_types.specs.Config.{IsConfig}
use Rattle.tp_laws.specs.Lawful.{IsLawful}
use Rattle.tp_laws.proofs.AllLaws.{legal_is_lawful}
use Rattle.tp_record.specs.Kept.{Kept}
use Rattle.tp_tasks.specs.declared.tasks.Tasks.{Tasks}
use Rattle.tp_tasks.specs.Tasks.{promise_of}
use Rattle.tp_machine_state.specs.Payloads.{PutsIn}
use Rattle.tp_machine.specs.Seen.{Seen, At, config_of, promise}
use Rattle.tp_machine.specs.Steps.{IsStep, Stays, IsRefusedBy}
use Rattle.tp_machine.specs.Stepped.{FitsOutcome}
use Rattle.tp_machine.proofs.Refusals.{refused_as}
use Rattle.tp_machine.specs.Runs.{AllPromise, IfOutcome}

-- what a recorder that keeps every entry tells
abbrev pub told_by : Kept → List Entry → List ℕ → Type 0
told_by f h rs = (reverse f.entries ≡ h) × (rs ≡ [])

-- one ask more, which adds an entry
pub run_more : (c : Config) (h : List Entry) (asks : List (ℕ × Ask)) (answers : List Answer) (mid : List Entry) (by : ℕ) (a : Ask) (d : Did) →
    RunFrom c h asks answers mid → Gives c (state c mid) a d →
    RunFrom c h (asks ++ (by, a) ∷ []) (answers ++ Ok d ∷ []) (record { by = by; ask = a; did = d } ∷ mid)
run_more c h [] [] mid by a d run gives = (subst (λ x. Gives c (state c x) a d) run gives, ap (λ x. record { by = by; ask = a; did = d } ∷ x) run)
run_more c h [] (y ∷ ys) mid by a d run gives = absurd run
run_more c h (x ∷ xs) [] mid by a d run gives = absurd run
run_more c h (x ∷ xs) (Ok y ∷ ys) mid by a d run gives = (run.0, run_more c _ xs ys mid by a d run.1 gives)
run_more c h (x ∷ xs) (Err y ∷ ys) mid by a d run gives = (run.0, run_more c h xs ys mid by a d run.1 gives)

-- one ask more, which is refused
pub run_refused : (c : Config) (h : List Entry) (asks : List (ℕ × Ask)) (answers : List Answer) (mid : List Entry) (by : ℕ) (a : Ask) (e : PoolError) →
    RunFrom c h asks answers mid → IsRefused c (state c mid) a e →
    RunFrom c h (asks ++ (by, a) ∷ []) (answers ++ Err e ∷ []) mid
run_refused c h [] [] mid by a e run refused = (subst (λ x. IsRefused c (state c x) a e) run refused, run)
run_refused c h [] (y ∷ ys) mid by a e run refused = absurd run
run_refused c h (x ∷ xs) [] mid by a e run refused = absurd run
run_refused c h (x ∷ xs) (Ok y ∷ ys) mid by a e run refused = (run.0, run_refused c _ xs ys mid by a e run.1 refused)
run_refused c h (x ∷ xs) (Err y ∷ ys) mid by a e run refused = (run.0, run_refused c h xs ys mid by a e run.1 refused)

module _ {P R : Type 0} (p : Promise) (m : Seen P R) (all : AllPromise p m) where
  -- an outcome that is as the promise of all tasks is as its own task's
  as_promised : (o : Outcome) (t : ℕ) (x : Option Promise) → IfSome x (λ y. y ≡ p) → FitsPromise p o → IfSome x (λ y. FitsPromise y o)
  as_promised o t None is fits = tt
  as_promised o t (Some y) is fits = subst (λ z. FitsPromise z o) (sym is) fits

  pub outcome_fits : (a : Ask) → IfOutcome a (FitsPromise p) → FitsOutcome m a
  outcome_fits (ask.CallerEnd t o) fits = λ there. as_promised o t.0 (promise m t.0) (all t.0) fits
  outcome_fits (ask.End w o) fits = λ t in_slot there. as_promised o t.0 (promise m t.0) (all t.0) fits
  outcome_fits _ fits = tt

-- a task that comes with the promise of all others
pub all_put : {P : Type 0} (p : Promise) (old new : Tasks P) (t : ℕ) (payload : P) → PutsIn old new t p payload →
    ((u : ℕ) → IfSome (promise_of old u) (λ x. x ≡ p)) → (u : ℕ) → IfSome (promise_of new u) (λ x. x ≡ p)
all_put p old new t payload puts all u = subst (λ o. IfSome o (λ x. x ≡ p)) (sym (puts.promises u)) (by_number (u == t))
  where
    by_number : (b : Bool) → IfSome (if b then Some p else promise_of old u) (λ x. x ≡ p)
    by_number true = refl
    by_number false = all u

-- and no task that comes
pub all_kept : {P : Type 0} (p : Promise) (old new : Tasks P) → ((u : ℕ) → promise_of new u ≡ promise_of old u) →
    ((u : ℕ) → IfSome (promise_of old u) (λ x. x ≡ p)) → (u : ℕ) → IfSome (promise_of new u) (λ x. x ≡ p)
all_kept p old new same all u = subst (λ o. IfSome o (λ x. x ≡ p)) (sym (same u)) (all u)

-- so far, the asks were answered so, and the machine stands at its record, which is their run
pub record HasRun {P : Type 0} (c : Config) (asks : List (ℕ × Ask)) (answers : List Answer) (m : Seen P Kept) : Type 0 where
  pub stands : At told_by m (reverse m.noted.entries) []
  pub config : config_of m ≡ c
  pub run : Run c asks answers (reverse m.noted.entries)

module _ {P : Type 0} (c : Config) (asks : List (ℕ × Ask)) (answers : List Answer) (old new : Seen P Kept) (so_far : HasRun c asks answers old) (by : ℕ) (a : Ask) where
  abbrev h : List Entry
  h = reverse old.noted.entries

  after_step : (d : Did) → IsStep told_by old new by a d → HasRun c (asks ++ (by, a) ∷ []) (answers ++ Ok d ∷ []) new
  after_step d step =
      let at = step.writes h [] so_far.stands in
      let gives : Gives c (state c h) a d = subst (λ k. Gives k (state k h) a d) so_far.config (step.gives h [] so_far.stands) in
      record {
        stands = subst (λ x. At told_by new x []) (sym at.told.0) at;
        config = step.config ∙ so_far.config;
        run = subst (λ x. Run c (asks ++ (by, a) ∷ []) (answers ++ Ok d ∷ []) x) (sym at.told.0) (run_more c [] asks answers h by a d so_far.run gives);
      }

  after_refusal : (e : PoolError) → IsRefusedBy told_by old a e → Stays told_by old new → HasRun c (asks ++ (by, a) ∷ []) (answers ++ Err e ∷ []) new
  after_refusal e refused stays =
      let at = stays.stands h [] so_far.stands in
      let given : IsRefused c (state c h) a e = subst (λ k. IsRefused k (state k h) a e) so_far.config (refused_as (config_of old) (state (config_of old) h) a e (refused h [] so_far.stands)) in
      record {
        stands = subst (λ x. At told_by new x []) (sym at.told.0) at;
        config = stays.config ∙ so_far.config;
        run = subst (λ x. Run c (asks ++ (by, a) ∷ []) (answers ++ Err e ∷ []) x) (sym at.told.0) (run_refused c [] asks answers h by a e so_far.run given);
      }

  pub has_run_on : (r : Answer) → IfOk r (λ d. IsStep told_by old new by a d) → IfErr r (λ e. IsRefusedBy told_by old a e) → OnErr r (Stays told_by old new) →
      HasRun c (asks ++ (by, a) ∷ []) (answers ++ r ∷ []) new
  has_run_on (Ok d) step refused stays = after_step d step
  has_run_on (Err e) step refused stays = after_refusal e refused stays

-- a machine that stands at no entry has run no asks
pub none_run : {P : Type 0} (c : Config) (m : Seen P Kept) → At told_by m [] [] → config_of m ≡ c → HasRun c [] [] m
none_run c m stands config = record { stands = subst (λ h. At told_by m h []) (sym stands.told.0) stands; config = config; run = stands.told.0 }

-- and no task of it has promised anything
pub none_promised : {P R : Type 0} (p : Promise) (m : Seen P R) → ((t : ℕ) → promise m t ≡ None) → AllPromise p m
none_promised p m none t = subst (λ o. IfSome o (λ x. x ≡ p)) (sym (none t)) tt

-- one ask more of a list
pub has_run_next : {P : Type 0} (c : Config) (asks : List (ℕ × Ask)) (i : ℕ) (d : ℕ × Ask) (answers more : List Answer) (old new : Seen P Kept) (r : Answer) →
    HasRun c (take i asks) answers old → i < length asks → more ≡ answers ++ r ∷ [] →
    IfOk r (λ x. IsStep told_by old new (get_or asks i d).0 (get_or asks i d).1 x) → IfErr r (λ e. IsRefusedBy told_by old (get_or asks i d).1 e) → OnErr r (Stays told_by old new) →
    HasRun c (take (i + 1) asks) more new
has_run_next c asks i d answers more old new r so_far within pushed step refused stays =
    subst (λ xs. HasRun c xs more new) (sym (take_more asks i d within))
    (subst (λ ys. HasRun c (take i asks ++ get_or asks i d ∷ []) ys new) (sym pushed)
    (has_run_on c (take i asks) answers old new so_far (get_or asks i d).0 (get_or asks i d).1 r step refused stays))

-- all asks of a list
module _ {P : Type 0} (c : Config) (asks : List (ℕ × Ask)) (i : ℕ) (answers : List Answer) (m : Seen P Kept) (ran : HasRun c (take i asks) answers m) (es : List Entry) (is : es ≡ m.noted.entries) where
  pub ran_all : length asks ≤ i → Run c asks answers (reverse es)
  ran_all past = subst (λ xs. Run c xs answers (reverse es)) (take_all i asks past) (subst (λ x. Run c (take i asks) answers (reverse x)) (sym is) ran.run)

  ran_legal : Legal c (reverse es)
  ran_legal = subst (λ k. Legal k (reverse es)) ran.config (subst (λ x. Legal (config_of m) (reverse x)) (sym is) ran.stands.legal)

  pub ran_lawful : IsConfig c → IsLawful c (reverse es)
  ran_lawful config = legal_is_lawful c (reverse es) config ran_legal
