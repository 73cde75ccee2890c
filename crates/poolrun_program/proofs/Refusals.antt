-- How a submission is refused before its first step.
use Rattle.std.proofs.Common.{ℕ, ◌≡◌, ◌⊎◌, Bool, true, false, length, inl, inr, arith}
use Rattle.std.specs.Prelude.{Ok, Err, None, ⊤, if◌then◌else◌}
use Rattle.std.proofs.lemmas.List.{get_or_past}
use Rattle.tp_types.specs.declared.configs.Config.{Config}
use Rattle.tp_types.specs.declared.refusals.PoolError.{PoolError}
use Rattle.tp_types.specs.declared.refusals.PoolError.TheVariants.{NoMemory, BookFull}
use Rattle.tp_types.specs.declared.tasks.Kind.{Kind}
use Rattle.tp_record.specs.declared.entries.Ask.TheVariants as ask
use Rattle.tp_record.specs.declared.entries.Did.{Did}
use Rattle.tp_record.specs.State.{State, state}
use Rattle.tp_record.specs.Step.{Answer, leaves_room, within_room}
use Rattle.tp_book.specs.PassView.{PassView}
use Rattle.tp_pool_holds.specs.Passes.{Refuses}

-- a refusal by a test is that of the test
by_test : (b : Bool) (d : Did) (x e : PoolError) → ◌≡◌ {A = Answer} (if b then Ok d else Err x) (Err e) → e ≡ x
by_test true d x e is = absurd (grind arith)
by_test false d x e is = grind arith

-- where a test refuses for want of room, so does the look at the room
by_room : (c : Config) (s : State) (b : Bool) (d : Did) (e : PoolError) → ◌≡◌ {A = Answer} (within_room c s (if b then Ok d else Err BookFull)) (Err e) → e ≡ BookFull
by_room c s true d e is = by_test (leaves_room c s d) d BookFull e is
by_room c s false d e is = grind arith

pub before_first : (c : Config) (pass : PassView) (k : Kind) (p : ℕ) (e : PoolError) → Refuses true c ⊤ pass (ask.Submit k p) e → (e ≡ NoMemory) ⊎ (e ≡ BookFull)
before_first c pass k p e (inl none) = inl none.0
before_first c pass k p e (inr at) =
    let s = state c pass.front in
    elim at.holds [
      | inl refuses ↦ inr (by_room c s _ _ e (refuses (length s.slots) (inl (get_or_past s.slots (length s.slots) None (omega arith)))))
      | inr want ↦ inl want.0
    ]
