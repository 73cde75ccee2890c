-- A way from the new pool is a run of the model, and its record is legal.
use Rattle.std.proofs.Common.{◌≡◌, ℕ, List, [], ◌∷◌, map, Option, Some, None, Ok, Err, refl, sym, ap, ◌∙◌, subst, inl, inr, arith}
use Rattle.std.specs.List.{Contains}
use Rattle.tp_types.specs.declared.refusals.PoolError.{PoolError}
use Rattle.tp_record.specs.declared.entries.Ask.{Ask}
use Rattle.tp_record.specs.declared.entries.Ask.TheVariants as ask
use Rattle.tp_record.specs.declared.entries.Did.{Did}
use Rattle.tp_record.specs.declared.entries.Entry.{Entry}
use Rattle.tp_record.specs.declared.rows.SlotRow.{SlotRow}
use Rattle.tp_record.specs.State as states
use Rattle.tp_record.specs.Step.{Answer, Gives, IsFreeTo, Legal, Refuses, RunFrom, step}
use Rattle.tp_laws.proofs.Model.Functions.{refused_legal}
use Rattle.tp_laws.proofs.Model.NextState.{next_is_state}
use Rattle.tp_rules.specs.PlainState.{least_free}
use Rattle.tp_explore.specs.declared.callers.Caller.{Caller}
use Rattle.tp_explore.specs.declared.callers.Doing.{Doing}
use Rattle.tp_explore.specs.declared.callers.Doing.TheVariants.{Nothing, Submitting, Starting, Staffing}
use Rattle.tp_explore.specs.declared.deeds.NextAsk.{NextAsk}
use Rattle.tp_explore.specs.declared.deeds.Mover.{Mover}
use Rattle.tp_explore.specs.declared.deeds.Mover.TheVariants as mover
use Rattle.tp_explore.specs.declared.moves.Move.{Move}
use Rattle.tp_explore.specs.declared.plans.Plan.{Plan}
use Rattle.tp_explore.specs.Situation.{Situation, bare, seen}
use Rattle.tp_explore.specs.Moves as spec
use Rattle.tp_explore.proofs.Bare.{step_bare}
use Rattle.tp_explore.proofs.Lowering.{gives, one_of}
use Rattle.tp_explore_ends.specs.Ways.{IsWay, IsWitness, asked, pass_of, record_from}

-- a slot that an ask makes may have the number that it gets here

least_is_free : (slots : List (Option SlotRow)) → states.slot_at slots (least_free slots) ≡ None
least_is_free [] = refl
least_is_free (None ∷ slots) = refl
least_is_free (Some r ∷ slots) = least_is_free slots

is_free : (s : states.State) (a : Ask) → IsFreeTo s a (spec.new_slot s a)
is_free s (ask.Leave v) = inr refl
is_free s _ = inl (least_is_free s.slots)

-- what an answer makes of the pool

accepted_pool : (plan : Plan) (s : Situation) (m : Mover) (d : Did) → (spec.accepted plan s m d).pool ≡ bare (states.next s.pool d)
accepted_pool plan s mover.Pool d = refl
accepted_pool plan s (mover.Caller i) d = refl

refused_pool : (s : Situation) (i : ℕ) (c : Caller) (x : Doing) (y : Situation) → Contains (spec.refused_in s i c x) y → y.pool ≡ s.pool
refused_pool s i c Nothing y r = sym (ap (λ z. z.pool) (one_of _ y r))
refused_pool s i c (Starting more) y r = sym (ap (λ z. z.pool) (one_of _ y r))
refused_pool s i c (Submitting t) y r = absurd (nothing _ r)
  where
    nothing : (y : Situation) → Contains [] y → ⊥
    nothing y r = omega (arith, r.1)
refused_pool s i c (Staffing w more) y r = absurd (nothing _ r)
  where
    nothing : (y : Situation) → Contains [] y → ⊥
    nothing y r = omega (arith, r.1)

-- the pool of a record, with what no step asks for left out

module _ (plan : Plan) where
  abbrev pub IsPoolOf : List Entry → Situation → Type 0
  IsPoolOf h s = s.pool ≡ bare (states.state plan.config h)

  answered_there : (h : List Entry) (s : Situation) (d : NextAsk) → IsPoolOf h s → spec.answer plan s d ≡ step plan.config (states.state plan.config h) (spec.new_slot (states.state plan.config h) d.ask) d.ask
  answered_there h s d stands =
      ap (λ p. step plan.config p (spec.new_slot p d.ask) d.ask) stands
      ∙ same (states.state plan.config h) d.ask
    where
      same : (st : states.State) (a : Ask) → step plan.config (bare st) (spec.new_slot (bare st) a) a ≡ step plan.config st (spec.new_slot st a) a
      same st a = ap (λ n. step plan.config (bare st) n a) (number st a) ∙ step_bare plan.config st (spec.new_slot st a) a
        where
          number : (st : states.State) (a : Ask) → spec.new_slot (bare st) a ≡ spec.new_slot st a
          number st (ask.Leave v) = refl
          number st _ = refl

  -- what is so of the moves that lead on from a record
  abbrev Runs : List Move → Situation → List Entry → Type 0
  Runs ms z h = RunFrom plan.config h (map asked ms) (map (λ m. m.answer) ms) (record_from h ms) × Legal plan.config (record_from h ms) × IsPoolOf (record_from h ms) z

  -- from any legal record
  runs : (ms : List Move) (h : List Entry) (s z : Situation) → Legal plan.config h → IsPoolOf h s → IsWay plan s ms z → Runs ms z h
  runs [] h s z legal stands way = (refl, legal, ap (λ x. x.pool) (sym way) ∙ stands)
  runs (m ∷ ms) h s z legal stands way =
      by_answer (λ k l st. runs ms k (seen m.after) z l st way.3) m.answer refl (sym (answered_there h s m.deed stands) ∙ way.1)
    where
      there : (x : Answer) → m.answer ≡ x → Contains (spec.made_by plan s m.deed.by x) (seen m.after)
      there x is = subst (λ y. Contains (spec.made_by plan s m.deed.by y) (seen m.after)) (way.1 ∙ is) way.2

      stays : (b : Mover) (e : PoolError) → Contains (spec.made_by plan s b (Err e)) (seen m.after) → (seen m.after).pool ≡ s.pool
      stays mover.Pool e c = absurd (omega (arith, c.1))
      stays (mover.Caller i) e c = refused_pool s i (spec.moved_on_at plan s i) (spec.moved_on_at plan s i).doing (seen m.after) c

      by_answer : ((k : List Entry) → Legal plan.config k → IsPoolOf k (seen m.after) → Runs ms z k) → (x : Answer) → m.answer ≡ x →
          step plan.config (states.state plan.config h) (spec.new_slot (states.state plan.config h) m.deed.ask) m.deed.ask ≡ x → Runs (m ∷ ms) z h
      by_answer next (Ok d) is gave =
          let e : Entry = record { by = pass_of m.deed.by; ask = m.deed.ask; did = d } in
          let given : Gives plan.config (states.state plan.config h) m.deed.ask d = gives plan.config (states.state plan.config h) m.deed.ask d gave in
          let after : IsPoolOf (e ∷ h) (seen m.after) =
          ap (λ x. x.pool) (sym (one_of _ (seen m.after) (there (Ok d) is))) ∙ accepted_pool plan s m.deed.by d
          ∙ ap (λ p. bare (states.next p d)) stands ∙ ap bare (sym (next_is_state plan.config h e legal given)) in
          let rest = next (e ∷ h) (given, legal) after in
          rw is ((given, rest.0), rest.1, rest.2)
      by_answer next (Err e) is gave =
          let after : IsPoolOf h (seen m.after) = stays m.deed.by e (there (Err e) is) ∙ stands in
          let rest = next h legal after in
          let free = is_free (states.state plan.config h) m.deed.ask in
          let refuses : Refuses plan.config (states.state plan.config h) m.deed.ask e = λ w other. refused_legal plan.config h (spec.new_slot (states.state plan.config h) m.deed.ask) w m.deed.ask e legal free other gave in
          rw is ((inl refuses, rest.0), rest.1, rest.2)

  pub witnessed : (ms : List Move) (z : Situation) → IsWay plan (spec.starts plan) ms z → IsWitness plan ms z
  witnessed ms z way =
      let all = runs ms [] (spec.starts plan) z tt refl way in
      record { way = way; run = all.0; legal = all.1; stands = all.2 }
