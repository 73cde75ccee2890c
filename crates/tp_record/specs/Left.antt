-- A state from which tasks are left out: what is known of a pool that has forgotten tasks that are gone and owe nothing.
use Rattle.std.specs.Prelude.{ℕ, suc, set, ◌≡◌, Bool, true, false, List, [], ◌∷◌, Option, Some, None, if◌then◌else◌}
use Rattle.tp_types.specs.declared.tasks.Place.TheVariants as at
use Rattle.tp_record.specs.declared.entries.Ask.{Ask}
use Rattle.tp_record.specs.declared.entries.Ask.TheVariants as ask
use Rattle.tp_record.specs.Lists.{is_among, IsOnce}
use Rattle.tp_record.specs.State.{State, no_row, task_at, is_fate, fate_of}
use Rattle.tp_record.specs.Step.{is_known}

-- the state without task t: its row is blank, its number is left out, and its fate is only counted
abbrev pub leave_out : ℕ → State → State
leave_out t s =
    record s {
      tasks = set s.tasks t no_row;
      left_out = t ∷ s.left_out;
      forgotten = λ f. if is_fate f (fate_of (task_at s t)) then suc (s.forgotten f) else s.forgotten f;
    }

-- the state without these tasks, of which the last one released stands first
abbrev pub left : List ℕ → State → State
left [] s = s
left (t ∷ rs) s = leave_out t (left rs s)

-- the whole state, in which these tasks are only marked as left out: what the proofs of steps speak of
abbrev pub mark : List ℕ → State → State
mark rs s = record s { left_out = rs }

-- task t may be released: it is known and gone, owes no second look, and its completion waits for nobody
pub record MayRelease (s : State) (t : ℕ) : Type 0 where
  pub known : is_known s t ≡ true
  pub gone : (task_at s t).place ≡ at.Gone
  pub paid : (task_at s t).second ≡ false
  pub handed_out : is_among t s.done ≡ false

-- distinct tasks, each of which may be released
pub record MayAll (rs : List ℕ) (s : State) : Type 0 where
  pub once : IsOnce rs
  pub each : (t : ℕ) → is_among t rs ≡ true → MayRelease s t

-- the task that an ask names
abbrev pub asked : Ask → Option ℕ
asked (ask.Look t) = Some t.0
asked (ask.Offer t) = Some t.0
asked (ask.Second t) = Some t.0
asked (ask.Grow t) = Some t.0
asked (ask.Verdict t v) = Some t.0
asked (ask.CallerEnd t o) = Some t.0
asked (ask.Remove t) = Some t.0
asked (ask.Cancel t flag) = Some t.0
asked _ = None

-- the option names one of these
abbrev pub is_one_of : Option ℕ → List ℕ → Bool
is_one_of None rs = false
is_one_of (Some t) rs = is_among t rs
