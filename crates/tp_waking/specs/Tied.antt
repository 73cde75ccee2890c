-- How the states and the list of sleepers belong together. No public clause cites this module.
use Rattle.std.specs.Prelude.{ℕ, ◌≡◌, ◌<◌, ◌≤◌, List, length, map, count_by, get_or}
use Rattle.tp_waking.specs.declared.sleepers.Rest.{Rest}
use Rattle.tp_waking.specs.declared.sleepers.Rest.TheVariants as rests
use Rattle.tp_waking.specs.declared.states.SleepState.{SleepState}
use Rattle.tp_waking.specs.declared.states.SleepState.TheVariants as states
use Rattle.tp_waking.specs.Rests.{is_listed, searching as marks}

-- what a contract sees of a state
abbrev pub rest_of : SleepState → Rest
rest_of states.Away = rests.Away
rest_of (states.Listed i) = rests.Listed
rest_of states.Marked = rests.Marked

abbrev pub rests_of : List SleepState → List Rest
rests_of all = map rest_of all

abbrev pub state_at : List SleepState → ℕ → SleepState
state_at all w = get_or all w states.Away

-- just those who sleep are listed, each at its state's index
pub record IsTied (all : List SleepState) (listed : List ℕ) : Type 0 where
  pub indexed : (i : ℕ) → i < length listed → state_at all (get_or listed i 0) ≡ states.Listed i
  pub placed : (w i : ℕ) → state_at all w ≡ states.Listed i → (i < length listed) × (get_or listed i 0 ≡ w)
  pub counted : length listed ≡ count_by is_listed (rests_of all)

-- the fields of a list of sleepers agree, and there is room in it for all
pub record IsSound (all : List SleepState) (listed : List ℕ) (searching capacity : ℕ) : Type 0 where
  pub tied : IsTied all listed
  pub counted : searching ≡ marks (rests_of all)
  pub room : length all ≤ capacity
