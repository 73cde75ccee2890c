-- What a step hands out.
use Rattle.std.proofs.Common.{◌≡◌, ℕ, Bool, true, false, cond, Option, Some, None, refl, ap, ◌∙◌}
use Rattle.std.specs.Prelude.{is_some, ◌==◌}
use Rattle.std.proofs.lemmas.Bool.{eqb-true}
use Rattle.tp_tasks.specs.declared.tasks.Tasks.{Tasks}
use Rattle.tp_tasks.specs.Tasks.{payload_of}
use Rattle.tp_machine_state.specs.Payloads.{Keeps, HandsOut}

-- where task t has no payload, to keep all is to hand out nothing
pub nothing_out : {P : Type 0} (old new : Tasks P) (t : ℕ) → is_some (payload_of old t) ≡ false → Keeps old new → HandsOut old new t None
nothing_out {P = P} old new t none kept = record {
  was = nothing (payload_of old t) none;
  payloads = λ u. kept.payloads u ∙ by u (u == t) refl;
  promises = kept.promises;
}
  where
    nothing : (o : Option P) → is_some o ≡ false → o ≡ None
    nothing None is = refl
    nothing (Some x) is = absurd (let n : ⊥ = cc in n)

    by : (u : ℕ) (b : Bool) → (u == t) ≡ b → payload_of old u ≡ cond b None (payload_of old u)
    by u true is = ap (payload_of old) (eqb-true u t is) ∙ nothing (payload_of old t) none
    by u false is = refl
