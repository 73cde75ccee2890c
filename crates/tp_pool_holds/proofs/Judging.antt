-- An entry that the step gives for a verdict says so.
use Rattle.std.proofs.Common.{◌≡◌, ℕ, Bool, true, false, ◌&&◌, subst, refl}
use Rattle.std.specs.Prelude.{Ok, Err, ⊤, if◌then◌else◌, unwrap_or}
use Rattle.tp_types.specs.declared.configs.Config.{Config}
use Rattle.tp_types.specs.declared.configs.Verdict.{Verdict}
use Rattle.tp_types.specs.declared.ids.TaskId.{TaskId}
use Rattle.tp_types.specs.declared.refusals.PoolError.TheVariants.{BookFull, NotThere, UnknownTask}
use Rattle.tp_record.specs.declared.entries.Ask.TheVariants as ask
use Rattle.tp_record.specs.declared.entries.Did.{Did}
use Rattle.tp_record.specs.declared.entries.Did.TheVariants as did
use Rattle.tp_record.specs.declared.entries.Ruled.{Ruled}
use Rattle.tp_record.specs.State.{State, task_at}
use Rattle.tp_record.specs.Step.{Answer, Gives, allows, fitting, is_known, is_refused_place, leaves_room, rule, verdict_answer, within_room}
use Rattle.tp_record.specs.Effects.{reserves}

module _ (c : Config) (s : State) (t : TaskId) (v : Verdict) where
  abbrev IsVerdict : Answer → Type 0
  IsVerdict (Ok d) = (r : Ruled) × (d ≡ did.Verdict t v r)
  IsVerdict (Err e) = ⊤

  either : (b : Bool) (x y : Answer) → IsVerdict x → IsVerdict y → IsVerdict (if b then x else y)
  either true x y is other = is
  either false x y is other = other

  in_room : (a : Answer) → IsVerdict a → IsVerdict (within_room c s a)
  in_room (Ok d) is = either (leaves_room c s d) (Ok d) (Err BookFull) is tt
  in_room (Err e) is = tt

  fits : (w : ℕ) → IsVerdict (fitting c s w (ask.Verdict t v))
  fits w =
      let row = task_at s t.0 in
      let judged = did.Verdict t v (rule c s t row v) in
      either (is_known s t.0) (verdict_answer c s t v row) (Err UnknownTask)
      (either (is_refused_place row.place && allows c.policy v) (Ok judged) (Err NotThere) (rule c s t row v, refl) tt) tt

  pub verdict_given : (d : Did) → Gives c s (ask.Verdict t v) d → (r : Ruled) × (d ≡ did.Verdict t v r)
  verdict_given d gives = let w = unwrap_or (reserves d) 0 in subst IsVerdict gives.0 (in_room (fitting c s w (ask.Verdict t v)) (fits w))
