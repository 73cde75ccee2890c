-- Structures that show a state of which tasks are marked show what is left of it too, and the other way.
use Rattle.std.proofs.Common.{◌≡◌, ℕ, Bool, true, false, ◌||◌, cond, List, [], ◌∷◌, Some, arith, refl, sym, ap, ◌∙◌}
use mathlib.Core.Path.{ap₂}
use Rattle.std.specs.Prelude.{◌==◌, filter, count_by, is_some}
use Rattle.std.proofs.lemmas.Bool.{true≢false, eq-eqb}
use Rattle.tp_types.specs.declared.configs.Config.{Config}
use Rattle.tp_types.specs.declared.states.Counts.{Counts}
use Rattle.tp_types.specs.declared.tasks.Fate.{Fate}
use Rattle.tp_types.specs.declared.tasks.Fate.TheVariants as fate
use Rattle.tp_record.specs.declared.entries.Entry.{Entry}
use Rattle.tp_record.specs.declared.rows.TaskRow.{TaskRow}
use Rattle.tp_record.specs.Lists.{is_among}
use Rattle.tp_record.specs.Fields.{is_live}
use Rattle.tp_record.specs.Left.{left, mark, MayAll}
use Rattle.tp_record.specs.State.{State, state, task_at, slot_at, fated}
use Rattle.tp_record.specs.Step.{Legal, is_known, done_of, is_of_group}
use Rattle.tp_laws.proofs.Left.LeftOut.{left_out_of, left_length, left_row, counts_legal, due_legal}
use Rattle.tp_laws.proofs.Left.Marks.{known_marked, row_marked, left_else}
use Rattle.tp_machine_state.specs.declared.parts.Parts.{Parts}
use Rattle.tp_machine_state.specs.Shows.{Shows}

-- tests that agree on a list pass the same of it
filter_same : (p q : ℕ → Bool) (xs : List ℕ) → ((t : ℕ) → is_among t xs ≡ true → p t ≡ q t) → filter p xs ≡ filter q xs
filter_same p q [] same = refl
filter_same p q (x ∷ xs) same =
    ap₂ (λ b ys. cond b (x ∷ ys) ys) (same x (ap (λ b. b || is_among x xs) (eq-eqb x x refl))) (filter_same p q xs (λ t is. same t (ap (λ b. t == x || b) is ∙ any (t == x))))
  where
    any : (b : Bool) → (b || true) ≡ true
    any true = refl
    any false = refl

or_false : (b : Bool) → (b || false) ≡ b
or_false true = refl
or_false false = refl

module _ (c : Config) (h : List Entry) (rs : List ℕ) (legal : Legal c h) (may : MayAll rs (state c h)) where
  abbrev s : State
  s = state c h

  -- each fate is counted as often
  fated_left : (f : Fate) → fated f (left rs s) ≡ fated f s
  fated_left fate.Run = ap (λ (x : Counts). x.run) (counts_legal c h legal rs may)
  fated_left fate.RunByCaller = ap (λ (x : Counts). x.caller) (counts_legal c h legal rs may)
  fated_left fate.Rejected = ap (λ (x : Counts). x.rejected) (counts_legal c h legal rs may)
  fated_left fate.Discarded = ap (λ (x : Counts). x.discarded) (counts_legal c h legal rs may)
  fated_left fate.HandedBack = ap (λ (x : Counts). x.handedback) (counts_legal c h legal rs may)
  fated_left fate.Removed = ap (λ (x : Counts). x.removed) (counts_legal c h legal rs may)
  fated_left fate.Cancelled = ap (λ (x : Counts). x.cancelled) (counts_legal c h legal rs may)

  -- a completion that is not handed out is none of a task that is left out
  kept_done : (t : ℕ) → is_among t s.done ≡ true → (b : Bool) → is_among t rs ≡ b → is_among t rs ≡ false
  kept_done t done true among = absurd (true≢false (sym done ∙ (may.each t among).handed_out))
  kept_done t done false off = off

  done_left : (g : ℕ) → done_of (left rs s) g ≡ done_of s g
  done_left g =
      ap (filter (λ t. is_of_group g (task_at (left rs s) t).kind)) (ap (λ (x : State). x.done) (left_else rs s))
      ∙ filter_same _ _ s.done (λ t done. ap (λ (r : TaskRow). is_of_group g r.kind) (left_row rs s t (kept_done t done (is_among t rs) refl)))

  -- the same fields
  e : left rs s ≡ record s { tasks = (left rs s).tasks; left_out = (left rs s).left_out; forgotten = (left rs s).forgotten }
  e = left_else rs s

  among_left : (t : ℕ) → is_among t (left rs s).left_out ≡ is_among t rs
  among_left t = left_out_of rs s t ∙ or_false (is_among t rs)

  module _ {P : Type 0} (p : Parts P) where
    pub shows_left : Shows p (mark rs s) → Shows p (left rs s)
    shows_left sh =
        let n = left_length rs s in
        record {
          entries = ap (λ (x : State). x.steps) e ∙ sh.entries;
          seen = record {
            rank = ap (λ (x : State). x.rank) e ∙ sh.seen.rank;
            core_size = ap (λ (x : State). x.core) e ∙ sh.seen.core_size;
            maximum_size = ap (λ (x : State). x.maximum) e ∙ sh.seen.maximum_size;
            keep_alive = ap (λ (x : State). x.keep) e ∙ sh.seen.keep_alive;
            times_out = ap (λ (x : State). x.core_timeout) e ∙ sh.seen.times_out;
            present = ap (λ (x : State). x.now) e ∙ sh.seen.present;
            submitted = n ∙ sh.seen.submitted;
            rows = λ t held.
                let known : is_known (mark rs s) t ≡ true = sym (known_marked c h rs t) ∙ held in
                sh.seen.rows t known ∙ ap (λ r. Some r) (sym (row_marked c h rs t known));
            unknown = λ t off. sh.seen.unknown t (sym (known_marked c h rs t) ∙ off);
            issued = λ t among. let below = sh.seen.issued t (sym (among_left t) ∙ among) in omega (arith, below, n);
            fates = λ f. fated_left f ∙ sh.seen.fates f;
            queued = ap (λ (x : State). x.queue) e ∙ sh.seen.queued;
            seats = λ w. ap (λ (x : State). slot_at x.slots w) e ∙ sh.seen.seats w;
            order = ap (λ (x : State). x.idling) e ∙ sh.seen.order;
            done = λ g. done_left g ∙ sh.seen.done g;
            completed = ap (λ (x : State). x.completions) e ∙ sh.seen.completed;
            most = ap (λ (x : State). x.largest) e ∙ sh.seen.most;
          };
          taken = ap (λ (x : State). count_by is_some x.slots) e ∙ sh.taken;
          live = ap (λ (x : State). count_by is_live x.slots) e ∙ sh.live;
          owed = due_legal c h legal rs may ∙ sh.owed;
        }

    -- and the other way
    pub shows_marked : Shows p (left rs s) → Shows p (mark rs s)
    shows_marked sh =
        let n = left_length rs s in
        record {
          entries = ap (λ (x : State). x.steps) (sym e) ∙ sh.entries;
          seen = record {
            rank = ap (λ (x : State). x.rank) (sym e) ∙ sh.seen.rank;
            core_size = ap (λ (x : State). x.core) (sym e) ∙ sh.seen.core_size;
            maximum_size = ap (λ (x : State). x.maximum) (sym e) ∙ sh.seen.maximum_size;
            keep_alive = ap (λ (x : State). x.keep) (sym e) ∙ sh.seen.keep_alive;
            times_out = ap (λ (x : State). x.core_timeout) (sym e) ∙ sh.seen.times_out;
            present = ap (λ (x : State). x.now) (sym e) ∙ sh.seen.present;
            submitted = sym n ∙ sh.seen.submitted;
            rows = λ t held. sh.seen.rows t (known_marked c h rs t ∙ held) ∙ ap (λ r. Some r) (row_marked c h rs t held);
            unknown = λ t off. sh.seen.unknown t (known_marked c h rs t ∙ off);
            issued = λ t among. let below = sh.seen.issued t (among_left t ∙ among) in omega (arith, below, n);
            fates = λ f. sym (fated_left f) ∙ sh.seen.fates f;
            queued = ap (λ (x : State). x.queue) (sym e) ∙ sh.seen.queued;
            seats = λ w. ap (λ (x : State). slot_at x.slots w) (sym e) ∙ sh.seen.seats w;
            order = ap (λ (x : State). x.idling) (sym e) ∙ sh.seen.order;
            done = λ g. sym (done_left g) ∙ sh.seen.done g;
            completed = ap (λ (x : State). x.completions) (sym e) ∙ sh.seen.completed;
            most = ap (λ (x : State). x.largest) (sym e) ∙ sh.seen.most;
          };
          taken = ap (λ (x : State). count_by is_some x.slots) (sym e) ∙ sh.taken;
          live = ap (λ (x : State). count_by is_live x.slots) (sym e) ∙ sh.live;
          owed = sym (due_legal c h legal rs may) ∙ sh.owed;
        }
