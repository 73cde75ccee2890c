-- What a step does to a pool's structures.
use Rattle.std.specs.Prelude.{ℕ, suc, ◌≡◌, true, List, Ok, unwrap_or, IfSome}
use Rattle.tp_types.specs.declared.configs.Config.{Config}
use Rattle.tp_types.specs.declared.refusals.PoolError.{PoolError}
use Rattle.tp_record.specs.declared.entries.Entry.{Entry}
use Rattle.tp_record.specs.declared.entries.Ask.{Ask}
use Rattle.tp_record.specs.declared.entries.Did.{Did}
use Rattle.tp_record.specs.Effects.{reserves}
use Rattle.tp_record.specs.State.{State, state, next}
use Rattle.tp_record.specs.Step.{Legal, Gives, fitting, is_free_for, Refuses as StepRefuses}
use Rattle.tp_machine_state.specs.declared.parts.Parts.{Parts}
use Rattle.tp_record.specs.Left.{mark, MayAll}
use Rattle.tp_machine_state.specs.Shows.{Shows}
use Rattle.tp_machine_state.specs.Terms.{terms}
use Rattle.tp_machine_state.specs.Tied.{IsTied}

-- d is the answer that fits, and the number of a slot that it makes is free
abbrev pub IsFitting : Config → State → Ask → Did → Type 0
IsFitting c s a d = (fitting c s (unwrap_or (reserves d) 0) a ≡ Ok d) × IfSome (reserves d) (λ w. is_free_for s d w ≡ true)

module _ {P : Type 0} where
  -- the structures show the state of a legal history, but for tasks that were released, and are tied
  pub record Stands (p : Parts P) : Type 0 where
    pub history : List Entry
    pub released : List ℕ
    pub legal : Legal (terms p) history
    pub may : MayAll released (state (terms p) history)
    pub shows : Shows p (mark released (state (terms p) history))
    pub tied : IsTied (terms p) p.steps p

  -- at each legal history whose state they show, whatever was released, d is the answer that fits this ask, before the room is looked at
  abbrev pub Fits : Parts P → Ask → Did → Type 0
  Fits p a d = (h : List Entry) (rs : List ℕ) → Legal (terms p) h → MayAll rs (state (terms p) h) → Shows p (mark rs (state (terms p) h)) → IsFitting (terms p) (mark rs (state (terms p) h)) a d

  -- at each legal history whose state they show, whatever was released, the step gives d for this ask
  abbrev pub Accepts : Parts P → Ask → Did → Type 0
  Accepts p a d = (h : List Entry) (rs : List ℕ) → Legal (terms p) h → MayAll rs (state (terms p) h) → Shows p (mark rs (state (terms p) h)) → Gives (terms p) (mark rs (state (terms p) h)) a d

  -- at each legal history whose state they show, whatever was released, the step refuses this ask so
  abbrev pub Refuses : Parts P → Ask → PoolError → Type 0
  Refuses p a e = (h : List Entry) (rs : List ℕ) → Legal (terms p) h → MayAll rs (state (terms p) h) → Shows p (mark rs (state (terms p) h)) → StepRefuses (terms p) (mark rs (state (terms p) h)) a e

  -- where the old ones show a legal history's state, the new ones show the state after the entry d, and are tied
  pub record Leads (old : Parts P) (d : Did) (new : Parts P) : Type 0 where
    pub shows : (h : List Entry) (rs : List ℕ) → Legal (terms old) h → MayAll rs (state (terms old) h) → Shows old (mark rs (state (terms old) h)) → Shows new (mark rs (next (state (terms old) h) d))
    pub tied : IsTied (terms old) (suc old.steps) new
    pub config : terms new ≡ terms old
    pub steps : new.steps ≡ suc old.steps
