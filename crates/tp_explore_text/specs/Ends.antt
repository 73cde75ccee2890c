-- What is told of the ends.
use Rattle.std.specs.Prelude.{◌≡◌, ◌<◌, ℕ, List, [], ◌++◌, map, length, count_by, Bool, ◌||◌, Option, Some, None, if◌then◌else◌, codes, string_bytes}
use Rattle.std.specs.List.{All, Contains, IsDistinct, flat_map, list_all, list_any}
use Rattle.std.specs.Str.{bytes_eq}
use Rattle.tp_types.specs.declared.ids.TaskId.{TaskId}
use Rattle.tp_types.specs.declared.tasks.Fate.{Fate}
use Rattle.tp_types.specs.declared.tasks.Fate.TheVariants as fate
use Rattle.tp_types.specs.Fate.{fate_name}
use Rattle.tp_types.specs.RunState.{state_name}
use Rattle.tp_record.specs.declared.rows.TaskRow.{TaskRow}
use Rattle.tp_record.specs.Effects.{Outcome}
use Rattle.tp_record.specs.State as states
use Rattle.tp_text.specs.EndLines.{fate_word, state_at}
use Rattle.tp_text.specs.Reads.{spaced}
use Rattle.tp_scenario.specs.Lines.{outcome_text}
use Rattle.tp_explore_walk.specs.Moves.{IsAt, Reaches}
use Rattle.tp_explore_walk.specs.Paths.{Tells, ended, weighed}
use Rattle.tp_explore.specs.declared.plans.Plan.{Plan}
use Rattle.tp_explore.specs.Moves as spec
use Rattle.tp_explore.specs.Situation.{Situation, number}
use Rattle.tp_explore_text.specs.declared.ends.End.{End}
use Rattle.tp_explore_text.specs.declared.ends.Label.{Label}

-- a task's fate, and how its body ended where it ran, as `run 5`
abbrev pub fate_text : Option Fate → Option Outcome → List ℕ
fate_text (Some fate.Run) (Some o) = spaced (fate_name fate.Run) (outcome_text o)
fate_text (Some fate.RunByCaller) (Some o) = spaced (fate_name fate.RunByCaller) (outcome_text o)
fate_text f o = fate_word f

-- what became of a submission: nothing, where it was not made
abbrev pub became : Situation → ℕ → Option Fate × Option Outcome
became s submission = of_task (number s submission)
  where
    of_row : TaskRow → Option Fate × Option Outcome
    of_row r = (states.fate_of r, r.outcome)

    of_task : Option TaskId → Option Fate × Option Outcome
    of_task None = (None, None)
    of_task (Some t) = of_row (states.task_at s.pool t.0)

-- what became of a submission under its name, as `a run 1`
abbrev pub task_text : Situation → Label → List ℕ
task_text s l = let b = became s l.submission in string_bytes l.name ++ (codes " " ++ fate_text b.0 b.1)

abbrev pub rank_text : Situation → List ℕ
rank_text s = state_name (state_at s.pool.rank)

-- what a situation is told as: what became of each submission, and the run state, as `a run 1; b rejected; terminated`
abbrev pub end_text : List Label → Situation → List ℕ
end_text labels s = flat_map (λ l. task_text s l ++ codes "; ") labels ++ rank_text s

-- whether this stands between the semicolons
abbrev pub has_part : List Label → Situation → List ℕ → Bool
has_part labels s part = list_any (λ l. bytes_eq (task_text s l) part) labels || bytes_eq (rank_text s) part

abbrev pub has_parts : List Label → Situation → List (List ℕ) → Bool
has_parts labels s parts = list_all (has_part labels s) parts

abbrev pub text_of : End → List ℕ
text_of e = string_bytes e.text

-- a situation is told so
abbrev pub is_told : List Label → List ℕ → Situation → Bool
is_told labels text z = bytes_eq (end_text labels z) text

-- the situations zs, of which each is at its place in xs, are told: each text once, and beside it so many as the situations with this text have
-- together
pub record AreTold (labels : List Label) (xs zs : List Situation) (ns : List ℕ) (ends : List End) : Type 0 where
  pub beside : length ns ≡ length zs
  pub once : IsDistinct bytes_eq (map text_of ends)
  pub all : All (λ z. Contains (map text_of ends) (end_text labels z)) zs
  pub counted : All (λ e. Tells e.count (weighed (λ z. if is_told labels (text_of e) z then 1 else 0) zs ns)) ends
  pub placed : All (λ e. (z : Situation) × IsAt xs e.place z × Contains zs z × (end_text labels z ≡ text_of e)) ends

-- an interleaving of the plan's calls ends in this situation: it is reached, and nobody can move
abbrev pub IsEnd : Plan → Situation → Type 0
IsEnd plan z = Reaches (spec.moves plan) (spec.starts plan) z × (spec.moves plan z ≡ [])

-- All ends of the plan's interleavings are told, and nothing else: each text once, with how many interleavings end in a situation that is told
-- so, and with the place of one. The rank bounds the moves of an interleaving.
pub record TellsEnds (plan : Plan) (labels : List Label) (xs : List Situation) (ends : List End) : Type 0 where
  pub once : IsDistinct bytes_eq (map text_of ends)
  pub all : (z : Situation) → IsEnd plan z → Contains (map text_of ends) (end_text labels z)
  pub counted : All (λ e. (n : ℕ) → spec.rank plan (spec.starts plan) < n → Tells e.count (count_by (is_told labels (text_of e)) (ended (spec.moves plan) n (spec.starts plan)))) ends
  pub placed : All (λ e. (z : Situation) × IsAt xs e.place z × IsEnd plan z × (end_text labels z ≡ text_of e)) ends
