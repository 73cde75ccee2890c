-- Runs on a pool that keeps no record: asks are steps, or release a task.
use Rattle.std.specs.Prelude.{ℕ, ◌≡◌, Bool, true, ⊤, List, [], ◌∷◌, map, Option, Some, None, Result, Ok, Err, if◌then◌else◌}
use Rattle.tp_types.specs.RunState.{state_rank}
use Rattle.tp_types.specs.declared.configs.Config.{Config}
use Rattle.tp_types.specs.declared.refusals.PoolError.{PoolError}
use Rattle.tp_types.specs.declared.refusals.PoolError.TheVariants.{UnknownTask}
use Rattle.tp_record.specs.declared.entries.Ask.{Ask}
use Rattle.tp_record.specs.declared.entries.Did.{Did}
use Rattle.tp_record.specs.declared.entries.Entry.{Entry}
use Rattle.tp_record.specs.Left.{left, asked, is_one_of, MayRelease}
use Rattle.tp_record.specs.State.{state, counts as counts_of}
use Rattle.tp_record.specs.Step.{Answer, Gives, IsRefused, Legal, Run}
use Rattle.tp_record.specs.Terms.{without_end}
use Rattle.tp_machine_state.specs.Releases.{IsKept}
use Rattle.tp_machine.specs.Seen.{Seen, At, config_of}
use Rattle.tp_machine.specs.declared.tallies.TallyAsk.{TallyAsk}
use Rattle.tp_machine.specs.declared.tallies.TallyAsk.TheVariants as asks
use Rattle.tp_machine.specs.declared.tallies.TallyRun.{TallyRun}

-- from the history h, of which the tasks rs were released, the asks are answered so, and lead to the history h' and the released tasks rs'.
-- A step is judged by the state without the released tasks, and a release by its rule over that state
abbrev pub TallyFrom : Config → List Entry → List ℕ → List TallyAsk → List (Result (Option Did) PoolError) → List Entry → List ℕ → Type 0
TallyFrom c h rs [] [] h' rs' = (h' ≡ h) × (rs' ≡ rs)
TallyFrom c h rs (asks.Step by a ∷ more) (Ok (Some d) ∷ answers) h' rs' =
    Gives c (left rs (state c h)) a d × TallyFrom c (record { by = by; ask = a; did = d } ∷ h) rs more answers h' rs'
TallyFrom c h rs (asks.Step by a ∷ more) (Err e ∷ answers) h' rs' =
    IsRefused c (left rs (state c h)) a e × TallyFrom c h rs more answers h' rs'
TallyFrom c h rs (asks.Release t ∷ more) (Ok None ∷ answers) h' rs' =
    MayRelease (left rs (state c h)) t.0 × TallyFrom c h (t.0 ∷ rs) more answers h' rs'
TallyFrom c h rs (asks.Release t ∷ more) (Err e ∷ answers) h' rs' =
    IsKept (left rs (state c h)) t.0 e × TallyFrom c h rs more answers h' rs'
TallyFrom c h rs _ _ h' rs' = ⊥

-- where the old machine stands at a history and released tasks, the ask is answered as they say, and the new one stands at what it leads to
abbrev pub Answers : {P R : Type 0} → (R → List Entry → List ℕ → Type 0) → Seen P R → Seen P R → TallyAsk → Result (Option Did) PoolError → Type 0
Answers tells old new a r =
    (h : List Entry) (rs : List ℕ) → At tells old h rs → (h' : List Entry) × (rs' : List ℕ) × TallyFrom (config_of old) h rs (a ∷ []) (r ∷ []) h' rs' × At tells new h' rs'

-- a step of a run, with its answer
abbrev pub Made : Type 0
Made = (ℕ × Ask) × Answer

-- where the tasks rs were released: the steps among the asks that name no task which is released by then, each with its answer
abbrev pub others : List ℕ → List TallyAsk → List (Result (Option Did) PoolError) → List Made
others rs (asks.Step by a ∷ more) (Ok (Some d) ∷ answers) = if is_one_of (asked a) rs then others rs more answers else ((by, a), Ok d) ∷ others rs more answers
others rs (asks.Step by a ∷ more) (Err e ∷ answers) = if is_one_of (asked a) rs then others rs more answers else ((by, a), Err e) ∷ others rs more answers
others rs (asks.Release t ∷ more) (Ok None ∷ answers) = others (t.0 ∷ rs) more answers
others rs (asks.Release t ∷ more) (Err e ∷ answers) = others rs more answers
others rs _ _ = []

-- and each step that names one is answered 6
abbrev pub AreUnknown : List ℕ → List TallyAsk → List (Result (Option Did) PoolError) → Type 0
AreUnknown rs (asks.Step by a ∷ more) (r ∷ answers) = (is_one_of (asked a) rs ≡ true → r ≡ Err UnknownTask) × AreUnknown rs more answers
AreUnknown rs (asks.Release t ∷ more) (Ok None ∷ answers) = AreUnknown (t.0 ∷ rs) more answers
AreUnknown rs (asks.Release t ∷ more) (Err e ∷ answers) = AreUnknown rs more answers
AreUnknown rs _ _ = ⊤

-- what came of these asks: there is a legal record that they lead to, whose counters and run state these are; it is that of a run of the
-- steps that name no released task, and the others are answered 6
pub record IsTallied (c : Config) (all : List TallyAsk) (r : TallyRun) : Type 0 where
  pub history : List Entry
  pub released : List ℕ
  pub legal : Legal (without_end c) history
  pub answered : TallyFrom (without_end c) [] [] all r.answers.items history released
  pub run : Run (without_end c) (map (λ x. x.0) (others [] all r.answers.items)) (map (λ x. x.1) (others [] all r.answers.items)) history
  pub unknown : AreUnknown [] all r.answers.items
  pub counts : r.counts ≡ counts_of (state (without_end c) history)
  pub rank : state_rank r.state ≡ (state (without_end c) history).rank
