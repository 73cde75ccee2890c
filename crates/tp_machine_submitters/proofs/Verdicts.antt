-- What a verdict answers.
use Rattle.std.proofs.Common.{◌≡◌, ℕ, ◌<◌, Bool, true, false, cond, List, [], ◌∷◌, length, Ok, Err, refl, arith, sym, ap, subst, ◌∙◌}
use Rattle.std.specs.Prelude.{◌||◌, ◌&&◌, not, nat_lt, nat_le, if◌then◌else◌}
use Rattle.std.proofs.lemmas.Bool.{and_parts, ltb-true}
use Rattle.std.proofs.lemmas.Bool.Decides.{nat_tests}
use Rattle.tp_record.specs.Left.{mark}
use Rattle.tp_types.specs.declared.configs.Config.{Config}
use Rattle.tp_types.specs.declared.configs.Verdict.{Verdict}
use Rattle.tp_types.specs.declared.configs.Verdict.TheVariants as verdict
use Rattle.tp_types.specs.declared.ids.TaskId.{TaskId}
use Rattle.tp_types.specs.declared.refusals.PoolError.TheVariants.{BookFull, NotThere}
use Rattle.tp_types.specs.declared.tasks.Place.TheVariants as at
use Rattle.tp_record.specs.declared.entries.Entry.{Entry}
use Rattle.tp_record.specs.declared.entries.Ask.TheVariants as ask
use Rattle.tp_record.specs.declared.entries.Did.TheVariants as did
use Rattle.tp_record.specs.declared.entries.Ruled.{Ruled}
use Rattle.tp_record.specs.declared.entries.Ruled.TheVariants as ruled
use Rattle.tp_record.specs.declared.rows.TaskRow.{TaskRow}
use Rattle.tp_record.specs.Lists.{is_among}
use Rattle.tp_record.specs.Effects.{is_retry}
use Rattle.tp_record.specs.Fields.{rank, submitted, retries, queue}
use Rattle.tp_record.specs.State.{State, state, task_at}
use Rattle.tp_record.specs.Step.{Answer, Legal, is_known, of_task, leaves_room, within_room, retry_of, retried, rule, allows, is_refused_place, verdict_answer}
use Rattle.tp_laws.proofs.Model.Given.{IsAt}
use Rattle.tp_laws.proofs.Model.Readings.{row_read, tasks_counted}
use Rattle.tp_laws.proofs.Model.Inversion.{head_at}
use Rattle.tp_laws.proofs.Model.Told.{sound_legal}
use Rattle.tp_laws.specs.View.{View, Effect}
use Rattle.tp_laws.proofs.Effects.Submitters.Verdict.{verdict_retry, verdict_retry_drop}
use Rattle.tp_machine_state.specs.declared.parts.Parts.{Parts}
use Rattle.tp_machine_state.specs.Room.{TellsRoom}
use Rattle.tp_machine_state.specs.Shows.{Shows, Reads}
use Rattle.tp_machine_state.specs.Steps.{Stands, Fits, Accepts}
use Rattle.tp_machine_state.specs.Terms.{terms}
use Rattle.tp_machine_state.proofs.Standing.{accepts_owed}
use Rattle.tp_machine_state.proofs.Answering.{marked_effect}
use Rattle.tp_machine_state.proofs.Reading.{reads_marked}
use Rattle.tp_machine_submitters.specs.Owed.{retry_rise}

-- what is owed rises with a retry
retry_moves : (c : Config) (h : List Entry) (t : TaskId) (v : Verdict) → Legal c h → IsAt h t.0 at.Refused → rank h ≡ 0 → retries h t.0 < 64 → (q : List ℕ) → queue c h ≡ q →
    (w : View) × Effect (state c h) (did.Verdict t v (retry_of q)) w 0 (retry_rise (retry_of q))
retry_moves c h t v legal there runs few [] is = (_, verdict_retry c h t v legal (there, (runs, few, is)))
retry_moves c h t v legal there runs few (u ∷ us) is =
    (_, verdict_retry_drop c h t (record { 0 = u }) v legal (there, (runs, few, (us, is), head_at c h (sound_legal c h legal) u us is)))

module _ {P : Type 0} (p : Parts P) (h : List Entry) (rs : List ℕ) (sh : Shows p (mark rs (state (terms p) h))) (t : TaskId) (row : TaskRow)
    (shown : (is_known (mark rs (state (terms p) h)) t.0 ≡ true) × (task_at (mark rs (state (terms p) h)) t.0 ≡ row)) where
  -- a retry by its tests: b tells whether there is room for it
  pub retried_by : Legal (terms p) h → row.place ≡ at.Refused → rank h ≡ 0 → row.retries < 64 → (b : Bool) → TellsRoom p 0 (retry_rise (retry_of (queue (terms p) h))) b →
      (if b then retry_of (queue (terms p) h) else ruled.Discarded) ≡ retried (terms p) (mark rs (state (terms p) h)) t row
  retried_by legal refused runs few b tells =
      let s = mark rs (state (terms p) h) in
      let d = did.Verdict t verdict.DiscardOldest (retry_of (queue (terms p) h)) in
      let counted = tasks_counted h in
      let known : t.0 < submitted h = let k = ltb-true t.0 (length s.tasks) (and_parts (not (is_among t.0 rs)) (nat_lt t.0 (length s.tasks)) shown.0).1 in omega (arith, counted, k) in
      let read = sym (row_read h t.0 known) ∙ shown.1 in
      let tried = ap (λ r. r.retries) read in
      let moves = retry_moves (terms p) h t verdict.DiscardOldest legal (known, ap (λ r. r.place) read ∙ refused) runs (omega (arith, few, tried)) (queue (terms p) h) refl in
      sym (ap (λ x. cond x ruled.Discarded (cond (leaves_room (terms p) s d) (retry_of (queue (terms p) h)) ruled.Discarded)) (may (rank h) row.retries runs few)
      ∙ ap (λ x. cond x (retry_of (queue (terms p) h)) ruled.Discarded) (sym (tells s d (record moves.0 { left_out = rs }) sh (marked_effect rs (state (terms p) h) d moves.0 0 (retry_rise (retry_of (queue (terms p) h))) moves.1))))
    where
      may : (n m : ℕ) → n ≡ 0 → m < 64 → (nat_lt 0 n || nat_le 64 m) ≡ false
      may n m none few = grind (arith, nat_tests)

-- a verdict that answers a retry leaves room for it
rule_leaves : (c : Config) (s : State) (t : TaskId) (r : TaskRow) (v : Verdict) → is_retry (rule c s t r v) ≡ true → leaves_room c s (did.Verdict t v (rule c s t r v)) ≡ true
rule_leaves c s t r verdict.Abort is = absurd (let n : ⊥ = cc in n)
rule_leaves c s t r verdict.Discard is = absurd (let n : ⊥ = cc in n)
rule_leaves c s t r verdict.CallerRuns is = absurd (never (nat_lt 0 s.rank) r.cancelled is)
  where
    never : (a b : Bool) → is_retry (cond a ruled.Discarded (cond b ruled.Skip ruled.Caller)) ≡ true → ⊥
    never true b is = cc
    never false true is = cc
    never false false is = cc
rule_leaves c s t r verdict.DiscardOldest is = by (nat_lt 0 s.rank || nat_le 64 r.retries) (leaves_room c s (did.Verdict t verdict.DiscardOldest (retry_of s.queue))) refl is
  where
    by : (a b : Bool) → leaves_room c s (did.Verdict t verdict.DiscardOldest (retry_of s.queue)) ≡ b → is_retry (cond a ruled.Discarded (cond b (retry_of s.queue) ruled.Discarded)) ≡ true →
        leaves_room c s (did.Verdict t verdict.DiscardOldest (cond a ruled.Discarded (cond b (retry_of s.queue) ruled.Discarded))) ≡ true
    by true b room is = absurd (let n : ⊥ = cc in n)
    by false true room is = room
    by false false room is = absurd (let n : ⊥ = cc in n)

-- what a step answers of a task that is known and has this row
known_answers : (s : State) (t : TaskId) (r : TaskRow) (answer : TaskRow → Answer) → (is_known s t.0 ≡ true) × (task_at s t.0 ≡ r) → of_task s t answer ≡ answer r
known_answers s t r answer shown = rw (shown.0, shown.1) refl

-- an allowed verdict on a refused task is accepted, with the room that a retry needs
pub accepts_verdict : {P : Type 0} (p : Parts P) → Stands p → (t : TaskId) (row : TaskRow) (v : Verdict) (r : Ruled) → ((s : State) → Reads p s → (is_known s t.0 ≡ true) × (task_at s t.0 ≡ row)) → row.place ≡ at.Refused → allows p.config.policy v ≡ true →
    ((h : List Entry) (rs : List ℕ) → Legal (terms p) h → Reads p (mark rs (state (terms p) h)) → r ≡ rule (terms p) (mark rs (state (terms p) h)) t row v) → Accepts p (ask.Verdict t v) (did.Verdict t v r)
accepts_verdict p stands t row v r there refused allowed ruled_so = by (is_retry r) refl
  where
    fits : Fits p (ask.Verdict t v) (did.Verdict t v r)
    fits h rs legal may sh =
        let s = mark rs (state (terms p) h) in
        let reads = reads_marked p h rs may sh in (
          known_answers s t row (verdict_answer (terms p) s t v) (there s reads)
              ∙ ap (λ b. cond (b && allows p.config.policy v) (Ok (did.Verdict t v (rule (terms p) s t row v))) (Err NotThere)) (ap is_refused_place refused)
              ∙ ap (λ b. cond b (Ok (did.Verdict t v (rule (terms p) s t row v))) (Err NotThere)) allowed
              ∙ ap (λ x. Ok (did.Verdict t v x)) (sym (ruled_so h rs legal reads)),
          tt,
        )

    by : (b : Bool) → is_retry r ≡ b → Accepts p (ask.Verdict t v) (did.Verdict t v r)
    by false is = accepts_owed p stands (ask.Verdict t v) (did.Verdict t v r) (λ n. ap not is) fits
    by true is = λ h rs legal may sh.
        let s = mark rs (state (terms p) h) in
        let e = ruled_so h rs legal (reads_marked p h rs may sh) in
        let leaves = subst (λ x. leaves_room (terms p) s (did.Verdict t v x) ≡ true) (sym e) (rule_leaves (terms p) s t row v (ap is_retry (sym e) ∙ is)) in
        (ap (within_room (terms p) s) (fits h rs legal may sh).0 ∙ ap (λ b. cond b (Ok (did.Verdict t v r)) (Err BookFull)) leaves, tt)
