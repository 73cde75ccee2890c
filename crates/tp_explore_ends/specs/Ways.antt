-- Ways from the new pool, and their records.
use Rattle.std.specs.Prelude.{◌≡◌, ℕ, suc, List, [], ◌∷◌, map, Ok, Err}
use Rattle.std.specs.List.{Contains}
use Rattle.tp_record.specs.declared.entries.Ask.{Ask}
use Rattle.tp_record.specs.declared.entries.Entry.{Entry}
use Rattle.tp_record.specs.State as states
use Rattle.tp_record.specs.Step.{Answer, Legal, Run}
use Rattle.tp_explore.specs.declared.deeds.Mover.{Mover}
use Rattle.tp_explore.specs.declared.deeds.Mover.TheVariants as mover
use Rattle.tp_explore.specs.declared.moves.Move.{Move}
use Rattle.tp_explore.specs.declared.plans.Plan.{Plan}
use Rattle.tp_explore.specs.Moves as spec
use Rattle.tp_explore.specs.Situation.{Situation, seen, bare}

-- the moves lead from one situation to another: each is one that some deed makes there, with the step's answer
abbrev pub IsWay : Plan → Situation → List Move → Situation → Type 0
IsWay plan s [] z = s ≡ z
IsWay plan s (m ∷ ms) z =
    Contains (spec.deeds plan s) m.deed × (spec.answer plan s m.deed ≡ m.answer) × Contains (spec.made plan s m.deed) (seen m.after) × IsWay plan (seen m.after) ms z

-- the pass by which a mover asks: the pool has the first, and each caller its own
abbrev pub pass_of : Mover → ℕ
pass_of mover.Pool = 0
pass_of (mover.Caller i) = suc i

-- what was asked
abbrev pub asked : Move → ℕ × Ask
asked m = (pass_of m.deed.by, m.deed.ask)

-- the record behind h after an answer
abbrev pub noted : ℕ → Ask → Answer → List Entry → List Entry
noted by a (Ok d) h = record { by = by; ask = a; did = d } ∷ h
noted by a (Err e) h = h

-- the record behind h after the moves
abbrev pub record_from : List Entry → List Move → List Entry
record_from h [] = h
record_from h (m ∷ ms) = record_from (noted (pass_of m.deed.by) m.deed.ask m.answer h) ms

-- the moves lead from the new pool to this situation: they are a run of the model, and its record is legal and has the situation's pool
pub record IsWitness (plan : Plan) (ms : List Move) (z : Situation) : Type 0 where
  pub way : IsWay plan (spec.starts plan) ms z
  pub run : Run plan.config (map asked ms) (map (λ m. m.answer) ms) (record_from [] ms)
  pub legal : Legal plan.config (record_from [] ms)
  pub stands : z.pool ≡ bare (states.state plan.config (record_from [] ms))
