-- Where tasks are only marked as left out: what fits is what fits the whole state, unless the ask names one of them.
use Rattle.std.proofs.Common.{arith, ◌≡◌, ℕ, Bool, true, false, not, ◌&&◌, ◌||◌, List, [], ◌∷◌, length, Ok, Err, refl, sym, ap, ap₂, ◌∙◌}
use Rattle.std.specs.Prelude.{nat_lt, if◌then◌else◌}
use Rattle.std.proofs.lemmas.Bool.Decides.{nat_tests}
use Rattle.tp_types.specs.declared.configs.Config.{Config}
use Rattle.tp_types.specs.declared.configs.QueueKind.{QueueKind}
use Rattle.tp_types.specs.declared.configs.QueueKind.TheVariants.{Handoff, Unbounded, Bounded, Priority}
use Rattle.tp_types.specs.declared.configs.Verdict.{Verdict}
use Rattle.tp_types.specs.declared.configs.Verdict.TheVariants as verdict
use Rattle.tp_types.specs.declared.ids.TaskId.{TaskId}
use Rattle.tp_types.specs.declared.tasks.Place.{Place}
use Rattle.tp_types.specs.declared.tasks.Place.TheVariants as at
use Rattle.tp_types.specs.declared.refusals.PoolError.TheVariants.{UnknownTask, NotThere}
use Rattle.tp_record.specs.declared.entries.Ask.{Ask}
use Rattle.tp_record.specs.declared.entries.Ask.TheVariants as ask
use Rattle.tp_record.specs.declared.entries.Entry.{Entry}
use Rattle.tp_record.specs.declared.entries.Did.{Did}
use Rattle.tp_record.specs.declared.entries.Did.TheVariants as did
use Rattle.tp_record.specs.declared.rows.TaskRow.{TaskRow}
use Rattle.tp_record.specs.Lists.{is_among}
use Rattle.tp_record.specs.Fields.{is_queued_place}
use Rattle.tp_record.specs.State.{State, state, task_at}
use Rattle.tp_record.specs.Step.{Answer, Legal, is_known, of_task, step, within_room, fitting, look_answer, offer_to, offer_answer, second_answer, grow_answer, rule, verdict_answer, caller_end_answer, cancel_answer, is_refused_place, allows}
use Rattle.tp_record.specs.Left.{leave_out, left, mark, MayAll, MayRelease, asked, is_one_of}
use Rattle.std.proofs.lemmas.Bool.{and_parts, not-true}
use Rattle.tp_laws.proofs.Left.LeftOut.{fitting_unknown, fitting_legal, is_left_out, step_legal, unknown_left, unknown_to, left_out_of, left_length, left_row, left_done}

module _ (s : State) (rs : List ℕ) where
  task_marked : (u : TaskId) (f g : TaskRow → Answer) → is_among u.0 rs ≡ false → ((r : TaskRow) → f r ≡ g r) → of_task (mark rs s) u f ≡ of_task (mark [] s) u g
  task_marked u f g off same =
      ap (λ b. if not b && nat_lt u.0 (length s.tasks) then f (task_at s u.0) else Err UnknownTask) off
      ∙ ap (λ x. if nat_lt u.0 (length s.tasks) then x else Err UnknownTask) (same (task_at s u.0))

  offer_to_marked : (q : QueueKind) (u : TaskId) → offer_to q (mark rs s) u ≡ offer_to q (mark [] s) u
  offer_to_marked Handoff u = refl
  offer_to_marked Unbounded u = refl
  offer_to_marked Priority u = refl
  offer_to_marked (Bounded n) u = refl

  offer_marked : (c : Config) (u : TaskId) (p : Place) → offer_answer c (mark rs s) u p ≡ offer_answer c (mark [] s) u p
  offer_marked c u at.ToOffer = offer_to_marked c.queue u
  offer_marked c u _ = refl

  rule_marked : (c : Config) (u : TaskId) (r : TaskRow) (v : Verdict) → rule c (mark rs s) u r v ≡ rule c (mark [] s) u r v
  rule_marked c u r verdict.Abort = refl
  rule_marked c u r _ = refl

  pub fitting_marked : (c : Config) (w : ℕ) (a : Ask) → is_one_of (asked a) rs ≡ false → fitting c (mark rs s) w a ≡ fitting c (mark [] s) w a
  fitting_marked c w (ask.Look u) off = task_marked u (λ r. look_answer (mark rs s) w u r.place) (λ r. look_answer (mark [] s) w u r.place) off (λ r. refl)
  fitting_marked c w _ off = grind (arith, nat_tests)

module _ (c : Config) (h : List Entry) (rs : List ℕ) where
  -- what fits fits the whole state, and its ask names no task that is left out
  pub fits_whole : (w : ℕ) (a : Ask) (d : Did) → fitting c (mark rs (state c h)) w a ≡ Ok d → (is_one_of (asked a) rs ≡ false) × (fitting c (state c h) w a ≡ Ok d)
  fits_whole w a d is = by_named (is_one_of (asked a) rs) refl
    where
      by_named : (b : Bool) → is_one_of (asked a) rs ≡ b → (is_one_of (asked a) rs ≡ false) × (fitting c (state c h) w a ≡ Ok d)
      by_named true named = absurd (two (sym (fitting_unknown c (mark rs (state c h)) w a named) ∙ is))
        where
          two : ◌≡◌ {A = Answer} (Err UnknownTask) (Ok d) → ⊥
          two e = cc
      by_named false off = (off, sym (fitting_marked (state c h) rs c w a off) ∙ is)

  -- what fits is the same where their rows are blank
  pub fitting_blank : (w : ℕ) (a : Ask) → Legal c h → MayAll rs (state c h) → fitting c (mark rs (state c h)) w a ≡ fitting c (left rs (state c h)) w a
  fitting_blank w a legal may = by_named (is_one_of (asked a) rs) refl
    where
      by_named : (b : Bool) → is_one_of (asked a) rs ≡ b → fitting c (mark rs (state c h)) w a ≡ fitting c (left rs (state c h)) w a
      by_named true named = fitting_unknown c (mark rs (state c h)) w a named ∙ sym (fitting_unknown c (left rs (state c h)) w a (is_left_out (asked a) rs (state c h) named))
      by_named false off = fitting_marked (state c h) rs c w a off ∙ sym (fitting_legal c h legal rs w a may off)

  -- the step is the same where their rows are blank
  pub step_marked : (w : ℕ) (a : Ask) → Legal c h → MayAll rs (state c h) → step c (mark rs (state c h)) w a ≡ step c (left rs (state c h)) w a
  step_marked w a legal may = by_named (is_one_of (asked a) rs) refl
    where
      room : (x : Answer) → within_room c (mark rs (state c h)) x ≡ within_room c (state c h) x
      room (Ok d) = refl
      room (Err e) = refl

      by_named : (b : Bool) → is_one_of (asked a) rs ≡ b → step c (mark rs (state c h)) w a ≡ step c (left rs (state c h)) w a
      by_named true named = unknown_to c (mark rs (state c h)) w a named ∙ sym (unknown_left c rs (state c h) w a named)
      by_named false off =
          ap (within_room c (mark rs (state c h))) (fitting_marked (state c h) rs c w a off)
          ∙ room (fitting c (state c h) w a)
          ∙ sym (step_legal c h legal rs w a may off)

  -- and the same of the whole state, where the ask names no task that is left out
  pub step_whole : (w : ℕ) (a : Ask) → is_one_of (asked a) rs ≡ false → step c (mark rs (state c h)) w a ≡ step c (state c h) w a
  step_whole w a off = ap (within_room c (mark rs (state c h))) (fitting_marked (state c h) rs c w a off) ∙ room (fitting c (state c h) w a)
    where
      room : (x : Answer) → within_room c (mark rs (state c h)) x ≡ within_room c (state c h) x
      room (Ok d) = refl
      room (Err e) = refl

  -- the same tasks are known
  pub known_marked : (t : ℕ) → is_known (left rs (state c h)) t ≡ is_known (mark rs (state c h)) t
  known_marked t = ap₂ (λ a b. not a && nat_lt t b) (left_out_of rs (state c h) t ∙ or_false (is_among t rs)) (left_length rs (state c h))
    where
      or_false : (b : Bool) → (b || false) ≡ b
      or_false true = refl
      or_false false = refl

  -- a task that is known keeps its row
  pub row_marked : (t : ℕ) → is_known (mark rs (state c h)) t ≡ true → task_at (left rs (state c h)) t ≡ task_at (state c h) t
  row_marked t known = left_row rs (state c h) t (not-true (is_among t rs) (and_parts (not (is_among t rs)) (nat_lt t (length (state c h).tasks)) known).0)

  -- the same tasks may be released
  pub may_marked : (t : ℕ) → MayRelease (mark rs (state c h)) t → MayRelease (left rs (state c h)) t
  may_marked t may =
      let row = row_marked t may.known in
      record {
        known = known_marked t ∙ may.known;
        gone = ap (λ (r : TaskRow). r.place) row ∙ may.gone;
        paid = ap (λ (r : TaskRow). r.second) row ∙ may.paid;
        handed_out = ap (is_among t) (left_done rs (state c h)) ∙ may.handed_out;
      }

  pub may_unmarked : (t : ℕ) → MayRelease (left rs (state c h)) t → MayRelease (mark rs (state c h)) t
  may_unmarked t may =
      let known = sym (known_marked t) ∙ may.known in
      let row = row_marked t known in
      record {
        known = known;
        gone = ap (λ (r : TaskRow). r.place) (sym row) ∙ may.gone;
        paid = ap (λ (r : TaskRow). r.second) (sym row) ∙ may.paid;
        handed_out = ap (is_among t) (sym (left_done rs (state c h))) ∙ may.handed_out;
      }

-- all else of the state is the same
pub left_else : (rs : List ℕ) (s : State) → left rs s ≡ record s { tasks = (left rs s).tasks; left_out = (left rs s).left_out; forgotten = (left rs s).forgotten }
left_else [] s = refl
left_else (t ∷ rs) s =
    ap {A = State} {B = State} (λ x. record x { tasks = (leave_out t (left rs s)).tasks; left_out = (leave_out t (left rs s)).left_out; forgotten = (leave_out t (left rs s)).forgotten }) (left_else rs s)

pub left_slots : (rs : List ℕ) (s : State) → (left rs s).slots ≡ s.slots
left_slots rs s = ap (λ (x : State). x.slots) (left_else rs s)
