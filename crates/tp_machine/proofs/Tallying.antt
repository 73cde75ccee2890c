-- A run of steps and releases of one ask more.
use Rattle.std.proofs.Common.{◌≡◌, ℕ, ◌+◌, ◌<◌, ◌≤◌, List, [], ◌∷◌, ◌++◌, length, take, get_or, Option, Some, None, Result, Ok, Err, refl, sym, ap, ◌∙◌, subst, inl, inr}
use Rattle.std.specs.Prelude.{IfSome}
use Rattle.std.proofs.lemmas.Bool.{cases_eq, ne_eqb, false≢true}
use Rattle.std.proofs.lemmas.List.{take_more, take_all}
use Rattle.tp_types.specs.RunState.{state_rank}
use Rattle.tp_types.specs.declared.configs.Config.{Config}
use Rattle.tp_types.specs.declared.ids.TaskId.{TaskId}
use Rattle.tp_types.specs.declared.tasks.Promise.{Promise}
use Rattle.tp_types.specs.declared.refusals.PoolError.{PoolError}
use Rattle.tp_record.specs.declared.entries.Entry.{Entry}
use Rattle.tp_record.specs.declared.entries.Ask.{Ask}
use Rattle.tp_record.specs.declared.entries.Did.{Did}
use Rattle.tp_record.specs.declared.recorders.Tally.{Tally}
use Rattle.tp_record.specs.Left.{left, MayRelease, MayAll}
use Rattle.tp_record.specs.State.{State, state, counts as counts_of}
use Rattle.tp_record.specs.Step.{Legal}
use Rattle.tp_laws.proofs.Left.LeftOut.{counts_legal}
use Rattle.tp_laws.proofs.Left.Marks.{left_else}
use Rattle.tp_tasks.specs.declared.table.KeptTask.{KeptTask}
use Rattle.tp_tasks.specs.declared.tasks.Tasks.{Tasks}
use Rattle.tp_tasks.specs.Table.{promise_of_task}
use Rattle.tp_tasks.specs.Tasks.{task_of, promise_of, KeepsOthers}
use Rattle.tp_machine_state.specs.Releases.{IsKept}
use Rattle.tp_machine.specs.Readings.{EachState}
use Rattle.tp_machine.specs.Seen.{Seen, At, config_of}
use Rattle.tp_machine.specs.Steps.{IsStep, Stays, IsRefusedBy}
use Rattle.tp_machine.proofs.Refusals.{refused_as}
use Rattle.tp_machine.specs.declared.tallies.TallyAsk.{TallyAsk}
use Rattle.tp_machine.specs.declared.tallies.TallyAsk.TheVariants as asks
use Rattle.tp_machine.specs.declared.tallies.TallyRun.{TallyRun}
use Rattle.tp_machine.specs.Tallies.{TallyFrom, Answers, IsTallied}
use Rattle.tp_machine.proofs.Others.{others_run, named_unknown}
use Rattle.tp_record.specs.Terms.{without_end}

abbrev Answered : Type 0
Answered = Result (Option Did) PoolError

-- what a recorder that keeps no entries tells
abbrev pub counted_by : Tally → List Entry → List ℕ → Type 0
counted_by t h rs = t.steps ≡ length h

-- one ask more
tally_more : (c : Config) (h : List Entry) (rs : List ℕ) (xs : List TallyAsk) (ys : List Answered) (mid : List Entry) (ms : List ℕ) (a : TallyAsk) (r : Answered) (h' : List Entry) (rs' : List ℕ) →
    TallyFrom c h rs xs ys mid ms → TallyFrom c mid ms (a ∷ []) (r ∷ []) h' rs' → TallyFrom c h rs (xs ++ a ∷ []) (ys ++ r ∷ []) h' rs'
tally_more c h rs [] [] mid ms a r h' rs' run one =
    subst (λ x. TallyFrom c x rs (a ∷ []) (r ∷ []) h' rs') run.0 (subst (λ x. TallyFrom c mid x (a ∷ []) (r ∷ []) h' rs') run.1 one)
tally_more c h rs [] (y ∷ ys) mid ms a r h' rs' run one = absurd run
tally_more c h rs (asks.Step by b ∷ xs) [] mid ms a r h' rs' run one = absurd run
tally_more c h rs (asks.Step by b ∷ xs) (Ok None ∷ ys) mid ms a r h' rs' run one = absurd run
tally_more c h rs (asks.Step by b ∷ xs) (Ok (Some d) ∷ ys) mid ms a r h' rs' run one = (run.0, tally_more c (record { by = by; ask = b; did = d } ∷ h) rs xs ys mid ms a r h' rs' run.1 one)
tally_more c h rs (asks.Step by b ∷ xs) (Err e ∷ ys) mid ms a r h' rs' run one = (run.0, tally_more c h rs xs ys mid ms a r h' rs' run.1 one)
tally_more c h rs (asks.Release t ∷ xs) [] mid ms a r h' rs' run one = absurd run
tally_more c h rs (asks.Release t ∷ xs) (Ok None ∷ ys) mid ms a r h' rs' run one = (run.0, tally_more c h (t.0 ∷ rs) xs ys mid ms a r h' rs' run.1 one)
tally_more c h rs (asks.Release t ∷ xs) (Ok (Some d) ∷ ys) mid ms a r h' rs' run one = absurd run
tally_more c h rs (asks.Release t ∷ xs) (Err e ∷ ys) mid ms a r h' rs' run one = (run.0, tally_more c h rs xs ys mid ms a r h' rs' run.1 one)

module _ {P R : Type 0} (tells : R → List Entry → List ℕ → Type 0) (old new : Seen P R) where
  -- a step is answered so, or refused
  pub step_answered : (by : ℕ) (a : Ask) (d : Did) → IsStep tells old new by a d → Answers tells old new (asks.Step by a) (Ok (Some d))
  step_answered by a d step = λ h rs at. (record { by = by; ask = a; did = d } ∷ h, rs, (step.gives h rs at, (refl, refl)), step.writes h rs at)

  pub step_refused : (by : ℕ) (a : Ask) (e : PoolError) → IsRefusedBy tells old a e → Stays tells old new → Answers tells old new (asks.Step by a) (Err e)
  step_refused by a e refused stays = λ h rs at.
      (h, rs, (refused_as (config_of old) (left rs (state (config_of old) h)) a e (refused h rs at), (refl, refl)), stays.stands h rs at)

  -- and so is a release
  pub release_answered : (t : TaskId) → ((h : List Entry) (rs : List ℕ) → At tells old h rs → MayRelease (left rs (state (config_of old) h)) t.0 × At tells new h (t.0 ∷ rs)) →
      Answers tells old new (asks.Release t) (Ok None)
  release_answered t released = λ h rs at. let made = released h rs at in (h, t.0 ∷ rs, (made.0, (refl, refl)), made.1)

  pub release_refused : (t : TaskId) (e : PoolError) → EachState tells old (λ s. IsKept s t.0 e) → new ≡ old → Answers tells old new (asks.Release t) (Err e)
  release_refused t e kept same = λ h rs at. (h, rs, (kept h rs at, (refl, refl)), subst (λ m. At tells m h rs) (sym same) at)

-- the other tasks promise what they promised, and this one nothing
pub all_but : {P : Type 0} (p : Promise) (old new : Tasks P) (t : ℕ) → task_of new t ≡ None → KeepsOthers old new t → ((u : ℕ) → IfSome (promise_of old u) (λ x. x ≡ p)) → (u : ℕ) → IfSome (promise_of new u) (λ x. x ≡ p)
all_but {P} p old new t gone others all u = elim (cases_eq u t) [
  | inl same ↦ subst Q (sym (ap (task_of new) same ∙ gone)) tt
  | inr apart ↦ subst Q (sym (others u (ne_eqb t u (λ b. apart (sym b))))) (all u)
]
  where
    Q : Option (KeptTask P) → Type 0
    Q o = IfSome (promise_of_task o) (λ x. x ≡ p)

-- so far, the asks were answered so, and the machine stands at what they lead to
pub record HasTallied {P R : Type 0} (tells : R → List Entry → List ℕ → Type 0) (c : Config) (xs : List TallyAsk) (ys : List Answered) (m : Seen P R) : Type 0 where
  pub history : List Entry
  pub released : List ℕ
  pub stands : At tells m history released
  pub config : config_of m ≡ c
  pub answered : TallyFrom c [] [] xs ys history released

-- a new machine has answered nothing
pub none_tallied : {P R : Type 0} (tells : R → List Entry → List ℕ → Type 0) (c : Config) (m : Seen P R) → At tells m [] [] → config_of m ≡ c → HasTallied tells c [] [] m
none_tallied tells c m stands config = record { history = []; released = []; stands = stands; config = config; answered = (refl, refl) }

-- one ask more of a list
pub has_tallied_next : {P R : Type 0} (tells : R → List Entry → List ℕ → Type 0) (c : Config) (all : List TallyAsk) (i : ℕ) (d : TallyAsk) (ys more : List Answered) (old new : Seen P R) (r : Answered) →
    HasTallied tells c (take i all) ys old → i < length all → more ≡ ys ++ r ∷ [] → Answers tells old new (get_or all i d) r → config_of new ≡ config_of old → HasTallied tells c (take (i + 1) all) more new
has_tallied_next tells c all i d ys more old new r so_far within pushed answers config =
    let a = get_or all i d in
    let made = answers so_far.history so_far.released so_far.stands in
    let one = subst (λ k. TallyFrom k so_far.history so_far.released (a ∷ []) (r ∷ []) made.0 made.1) so_far.config made.2 in
    subst (λ xs. HasTallied tells c xs more new) (sym (take_more all i d within)) (subst (λ zs. HasTallied tells c (take i all ++ a ∷ []) zs new) (sym pushed) (record {
      history = made.0;
      released = made.1;
      stands = made.3;
      config = config ∙ so_far.config;
      answered = tally_more c [] [] (take i all) ys so_far.history so_far.released a r made.0 made.1 so_far.answered one;
    }))

-- before the first ask no task is released
none_may : {s : State} → MayAll [] s
none_may = record { once = tt; each = λ t among. absurd (false≢true among) }

-- all asks of a list
pub tallied_all : {P R : Type 0} (tells : R → List Entry → List ℕ → Type 0) (c : Config) (all : List TallyAsk) (i : ℕ) (m : Seen P R) (r : TallyRun) → HasTallied tells (without_end c) (take i all) r.answers.items m → length all ≤ i →
    EachState tells m (λ s. r.counts ≡ counts_of s) → EachState tells m (λ s. state_rank r.state ≡ s.rank) → IsTallied c all r
tallied_all tells c all i m r ran past counted ranked =
    let h = ran.history in
    let rs = ran.released in
    let answered = subst (λ xs. TallyFrom (without_end c) [] [] xs r.answers.items h rs) (take_all i all past) ran.answered in
    record {
      history = h;
      released = rs;
      legal = subst (λ k. Legal k h) ran.config ran.stands.legal;
      answered = answered;
      run = others_run (without_end c) [] [] all r.answers.items h rs tt none_may answered;
      unknown = named_unknown (without_end c) [] [] all r.answers.items h rs answered;
      counts = subst (λ k. r.counts ≡ counts_of (state k h)) ran.config (counted h rs ran.stands ∙ counts_legal (config_of m) h ran.stands.legal rs ran.stands.may);
      rank = subst (λ k. state_rank r.state ≡ (state k h).rank) ran.config (ranked h rs ran.stands ∙ ap (λ (s : State). s.rank) (left_else rs (state (config_of m) h)));
    }
