-- Kept states that compare as equal stand for the same.
use Rattle.std.specs.Prelude.{◌≡◌, ◌==◌, ◌&&◌, ◌↔◌, ℕ, ℤ, Bool, true, false, List, [], ◌∷◌, Option, Some, None, Result, Ok, Err, refl}
use Rattle.std.specs.Option.{option_eq}
use Rattle.std.specs.Result.{result_eq}
use mathlib.Core.Path.{ap, sym, subst, ◌∙◌}
use mathlib.Core.Bool.{true≢false}
use lib.Pointwise.{pointwise}
use Rattle.std.specs.Bool.{beq}
use Rattle.std.specs.Ordering.{int_eq}
use Rattle.std.specs.Cmp.{IsEquivalence, IsPartialEquivalence, unsigned_Decides, signed_Decides, booleans_Decides}
use Rattle.tp_types.specs.contracts.ids.TaskIdPartialEq.TheImpl as task_eq
use Rattle.tp_types.specs.contracts.ids.SlotIdPartialEq.TheImpl as slot_eq
use Rattle.tp_types.specs.declared.tasks.Kind.{Kind}
use Rattle.tp_types.specs.declared.tasks.Kind.TheVariants as kind
use Rattle.tp_types.specs.contracts.tasks.KindPartialEq.TheImpl as kind_eq
use Rattle.tp_types.specs.declared.tasks.Place.{Place}
use Rattle.tp_types.specs.declared.tasks.Place.TheVariants as at
use Rattle.tp_types.specs.contracts.tasks.PlacePartialEq.TheImpl as place_eq
use Rattle.tp_types.specs.declared.tasks.Fate.{Fate}
use Rattle.tp_types.specs.declared.tasks.Fate.TheVariants as fate
use Rattle.tp_types.specs.contracts.tasks.FatePartialEq.TheImpl as fate_eq
use Rattle.tp_record.specs.declared.rows.Stage.{Stage}
use Rattle.tp_record.specs.declared.rows.Stage.TheVariants as stage
use Rattle.tp_record.specs.contracts.rows.StagePartialEq.TheImpl as stage_eq
use Rattle.tp_record.specs.declared.rows.TaskRow.{TaskRow}
use Rattle.tp_record.specs.contracts.rows.TaskRowPartialEq.TheImpl as row_eq
use Rattle.tp_record.specs.declared.rows.SlotRow.{SlotRow}
use Rattle.tp_record.specs.contracts.rows.SlotRowPartialEq.TheImpl as seat_eq
use Rattle.tp_rules.specs.declared.plain_state.PlainState.{PlainState}
use Rattle.tp_explore.specs.declared.callers.Doing.{Doing}
use Rattle.tp_explore.specs.declared.callers.Doing.TheVariants as doing
use Rattle.tp_explore.specs.contracts.callers.DoingPartialEq.TheImpl as doing_eq
use Rattle.tp_explore.specs.declared.callers.Caller.{Caller}
use Rattle.tp_explore.specs.contracts.callers.CallerPartialEq.TheImpl as caller_eq
use Rattle.tp_explore.specs.declared.states.State.{State}
use Rattle.tp_explore.specs.Situation.{Situation, seen}

-- a test that holds of equal values alone, and of all
pub record Tests {A : Type 0} (E : A → A → Bool) : Type 0 where
  pub same : (a b : A) → E a b ≡ true → a ≡ b
  pub self : (a : A) → E a a ≡ true

off : {A : Type 0} → false ≡ true → A
off h = absurd (true≢false (sym h))

both : (s t : Bool) → (s && t) ≡ true → (s ≡ true) × (t ≡ true)
both true true h = (refl, refl)
both true false h = off h
both false t h = off h

also : (s t : Bool) → s ≡ true → t ≡ true → (s && t) ≡ true
also s t p q = λ i. p i && q i

numbers : Tests (λ (m n : ℕ). m == n)
numbers = record { same = λ m n h. (unsigned_Decides m n).0 h; self = λ m. (unsigned_Decides m m).1 refl }

values : Tests int_eq
values = record { same = λ v w h. (signed_Decides v w).0 h; self = λ v. (signed_Decides v v).1 refl }

switches : Tests beq
switches = record { same = λ a b h. (booleans_Decides a b).0 h; self = λ a. (booleans_Decides a a).1 refl }

module _ {A : Type 0} (E : A → A → Bool) (t : Tests E) where
  options : Tests (option_eq E)
  options = record { same = same; self = self }
    where
      same : (a b : Option A) → option_eq E a b ≡ true → a ≡ b
      same None None h = refl
      same (Some x) (Some y) h = ap Some (t.same x y h)
      same None (Some y) h = off h
      same (Some x) None h = off h

      self : (a : Option A) → option_eq E a a ≡ true
      self None = refl
      self (Some x) = t.self x

  lists : Tests (pointwise E)
  lists = record { same = same; self = self }
    where
      same : (xs ys : List A) → pointwise E xs ys ≡ true → xs ≡ ys
      same [] [] h = refl
      same [] (y ∷ ys) h = off h
      same (x ∷ xs) [] h = off h
      same (x ∷ xs) (y ∷ ys) h = let p = both (E x y) (pointwise E xs ys) h in λ i. t.same x y p.0 i ∷ same xs ys p.1 i

      self : (xs : List A) → pointwise E xs xs ≡ true
      self [] = refl
      self (x ∷ xs) = also (E x x) (pointwise E xs xs) (t.self x) (self xs)

outcomes : Tests (result_eq int_eq (λ (m n : ℕ). m == n))
outcomes = record { same = same; self = self }
  where
    same : (a b : Result ℤ ℕ) → result_eq int_eq (λ (m n : ℕ). m == n) a b ≡ true → a ≡ b
    same (Ok v) (Ok w) h = ap Ok (values.same v w h)
    same (Err c) (Err d) h = ap Err (numbers.same c d h)
    same (Ok v) (Err d) h = off h
    same (Err c) (Ok w) h = off h

    self : (a : Result ℤ ℕ) → result_eq int_eq (λ (m n : ℕ). m == n) a a ≡ true
    self (Ok v) = values.self v
    self (Err c) = numbers.self c

tasks : Tests task_eq.ghosts.eq
tasks = record { same = λ a b h. λ i. record { 0 = numbers.same a.0 b.0 h i }; self = λ a. numbers.self a.0 }

slots : Tests slot_eq.ghosts.eq
slots = record { same = λ a b h. λ i. record { 0 = numbers.same a.0 b.0 h i }; self = λ a. numbers.self a.0 }

kinds : Tests kind_eq.ghosts.eq
kinds = record { same = same; self = self }
  where
    same : (a b : Kind) → kind_eq.ghosts.eq a b ≡ true → a ≡ b
    same kind.Plain kind.Plain h = refl
    same kind.Future kind.Future h = refl
    same (kind.Group x) (kind.Group y) h = ap kind.Group (numbers.same x y h)
    same _ _ h = off h

    self : (a : Kind) → kind_eq.ghosts.eq a a ≡ true
    self kind.Plain = refl
    self kind.Future = refl
    self (kind.Group x) = numbers.self x

places : Tests place_eq.ghosts.eq
places = record { same = same; self = self }
  where
    same : (a b : Place) → place_eq.ghosts.eq a b ≡ true → a ≡ b
    same at.Looking at.Looking h = refl
    same at.ToOffer at.ToOffer h = refl
    same at.ToGrow at.ToGrow h = refl
    same at.Refused at.Refused h = refl
    same at.Queued at.Queued h = refl
    same (at.Held v) (at.Held w) h = ap at.Held (slots.same v w h)
    same (at.Taken v) (at.Taken w) h = ap at.Taken (slots.same v w h)
    same (at.Running v) (at.Running w) h = ap at.Running (slots.same v w h)
    same at.Caller at.Caller h = refl
    same at.Gone at.Gone h = refl
    same _ _ h = off h

    self : (a : Place) → place_eq.ghosts.eq a a ≡ true
    self at.Looking = refl
    self at.ToOffer = refl
    self at.ToGrow = refl
    self at.Refused = refl
    self at.Queued = refl
    self (at.Held v) = slots.self v
    self (at.Taken v) = slots.self v
    self (at.Running v) = slots.self v
    self at.Caller = refl
    self at.Gone = refl

fates : Tests fate_eq.ghosts.eq
fates = record { same = same; self = self }
  where
    same : (a b : Fate) → fate_eq.ghosts.eq a b ≡ true → a ≡ b
    same fate.Run fate.Run h = refl
    same fate.RunByCaller fate.RunByCaller h = refl
    same fate.Rejected fate.Rejected h = refl
    same fate.Discarded fate.Discarded h = refl
    same fate.HandedBack fate.HandedBack h = refl
    same fate.Removed fate.Removed h = refl
    same fate.Cancelled fate.Cancelled h = refl
    same _ _ h = off h

    self : (a : Fate) → fate_eq.ghosts.eq a a ≡ true
    self fate.Run = refl
    self fate.RunByCaller = refl
    self fate.Rejected = refl
    self fate.Discarded = refl
    self fate.HandedBack = refl
    self fate.Removed = refl
    self fate.Cancelled = refl

stages : Tests stage_eq.ghosts.eq
stages = record { same = same; self = self }
  where
    same : (a b : Stage) → stage_eq.ghosts.eq a b ≡ true → a ≡ b
    same stage.ReservedCore stage.ReservedCore h = refl
    same stage.ReservedMaximum stage.ReservedMaximum h = refl
    same stage.ReservedBare stage.ReservedBare h = refl
    same stage.Working stage.Working h = refl
    same (stage.Idle m) (stage.Idle n) h = ap stage.Idle (numbers.same m n h)
    same stage.Dying stage.Dying h = refl
    same _ _ h = off h

    self : (a : Stage) → stage_eq.ghosts.eq a a ≡ true
    self stage.ReservedCore = refl
    self stage.ReservedMaximum = refl
    self stage.ReservedBare = refl
    self stage.Working = refl
    self (stage.Idle m) = numbers.self m
    self stage.Dying = refl

doings : Tests doing_eq.ghosts.eq
doings = record { same = same; self = self }
  where
    same : (a b : Doing) → doing_eq.ghosts.eq a b ≡ true → a ≡ b
    same doing.Nothing doing.Nothing h = refl
    same (doing.Submitting t) (doing.Submitting u) h = ap doing.Submitting (tasks.same t u h)
    same (doing.Starting m) (doing.Starting n) h = ap doing.Starting (numbers.same m n h)
    same (doing.Staffing v m) (doing.Staffing w n) h = let p = both (slot_eq.ghosts.eq v w) (m == n) h in λ i. doing.Staffing (slots.same v w p.0 i) (numbers.same m n p.1 i)
    same _ _ h = off h

    self : (a : Doing) → doing_eq.ghosts.eq a a ≡ true
    self doing.Nothing = refl
    self (doing.Submitting t) = tasks.self t
    self (doing.Starting m) = numbers.self m
    self (doing.Staffing v m) = also (slot_eq.ghosts.eq v v) (m == m) (slots.self v) (numbers.self m)

rows : Tests row_eq.ghosts.eq
rows = record { same = same; self = self }
  where
    outcome_test : Option (Result ℤ ℕ) → Option (Result ℤ ℕ) → Bool
    outcome_test = option_eq (result_eq int_eq (λ (m n : ℕ). m == n))

    same : (a b : TaskRow) → row_eq.ghosts.eq a b ≡ true → a ≡ b
    same a b h =
        let p1 = both (kind_eq.ghosts.eq a.kind b.kind) _ h in
        let p2 = both (place_eq.ghosts.eq a.place b.place) _ p1.1 in
        let p3 = both (beq a.second b.second) _ p2.1 in
        let p4 = both (beq a.cancelled b.cancelled) _ p3.1 in
        let p5 = both (option_eq fate_eq.ghosts.eq a.ending b.ending) _ p4.1 in
        let p6 = both (outcome_test a.outcome b.outcome) _ p5.1 in
        let p7 = both (a.retries == b.retries) (a.priority == b.priority) p6.1 in
        λ i. record {
          kind = kinds.same a.kind b.kind p1.0 i;
          place = places.same a.place b.place p2.0 i;
          second = switches.same a.second b.second p3.0 i;
          cancelled = switches.same a.cancelled b.cancelled p4.0 i;
          ending = (options fate_eq.ghosts.eq fates).same a.ending b.ending p5.0 i;
          outcome = (options (result_eq int_eq (λ (m n : ℕ). m == n)) outcomes).same a.outcome b.outcome p6.0 i;
          retries = numbers.same a.retries b.retries p7.0 i;
          priority = numbers.same a.priority b.priority p7.1 i;
        }

    self : (a : TaskRow) → row_eq.ghosts.eq a a ≡ true
    self a =
        also (kind_eq.ghosts.eq a.kind a.kind) _ (kinds.self a.kind)
        (also (place_eq.ghosts.eq a.place a.place) _ (places.self a.place)
        (also (beq a.second a.second) _ (switches.self a.second)
        (also (beq a.cancelled a.cancelled) _ (switches.self a.cancelled)
        (also (option_eq fate_eq.ghosts.eq a.ending a.ending) _ ((options fate_eq.ghosts.eq fates).self a.ending)
        (also (outcome_test a.outcome a.outcome) _ ((options (result_eq int_eq (λ (m n : ℕ). m == n)) outcomes).self a.outcome)
        (also (a.retries == a.retries) (a.priority == a.priority) (numbers.self a.retries) (numbers.self a.priority)))))))

seats : Tests seat_eq.ghosts.eq
seats = record { same = same; self = self }
  where
    same : (a b : SlotRow) → seat_eq.ghosts.eq a b ≡ true → a ≡ b
    same a b h =
        let p = both (stage_eq.ghosts.eq a.stage b.stage) (option_eq task_eq.ghosts.eq a.task b.task) h in
        λ i. record { stage = stages.same a.stage b.stage p.0 i; task = (options task_eq.ghosts.eq tasks).same a.task b.task p.1 i }

    self : (a : SlotRow) → seat_eq.ghosts.eq a a ≡ true
    self a = also (stage_eq.ghosts.eq a.stage a.stage) (option_eq task_eq.ghosts.eq a.task a.task) (stages.self a.stage) ((options task_eq.ghosts.eq tasks).self a.task)

callers : Tests caller_eq.ghosts.eq
callers = record { same = same; self = self }
  where
    same : (a b : Caller) → caller_eq.ghosts.eq a b ≡ true → a ≡ b
    same a b h =
        let p = both (a.left == b.left) (doing_eq.ghosts.eq a.doing b.doing) h in
        λ i. record { left = numbers.same a.left b.left p.0 i; doing = doings.same a.doing b.doing p.1 i }

    self : (a : Caller) → caller_eq.ghosts.eq a a ≡ true
    self a = also (a.left == a.left) (doing_eq.ghosts.eq a.doing a.doing) (numbers.self a.left) (doings.self a.doing)

abbrev same_numbers : List ℕ → List ℕ → Bool
same_numbers = pointwise (λ m n. m == n)

-- the comparison of two pools, field by field
abbrev pub same_settings : PlainState → PlainState → Bool
same_settings a b =
    (a.steps == b.steps) && ((a.rank == b.rank) && ((a.core == b.core) && ((a.maximum == b.maximum) && ((a.keep == b.keep) && (beq a.core_timeout b.core_timeout && ((a.moment == b.moment) && (beq a.ranked b.ranked)))))))

abbrev pub same_lists : PlainState → PlainState → Bool
same_lists a b =
    pointwise row_eq.ghosts.eq a.tasks.items b.tasks.items && (same_numbers a.queue.items b.queue.items && (pointwise (option_eq seat_eq.ghosts.eq) a.slots.items b.slots.items && (same_numbers a.idling.items b.idling.items && (same_numbers a.done.items b.done.items))))

abbrev pub same_counts : PlainState → PlainState → Bool
same_counts a b = (a.completions == b.completions) && (a.largest == b.largest)

abbrev pub same_state : State → State → Bool
same_state a b =
    pointwise caller_eq.ghosts.eq a.callers.items b.callers.items && (pointwise (option_eq task_eq.ghosts.eq) a.numbers.items b.numbers.items && (same_settings a.pool b.pool && (same_lists a.pool b.pool && (same_counts a.pool b.pool))))

settings_same : (a b : PlainState) → same_settings a b ≡ true →
    (a.steps ≡ b.steps) × (a.rank ≡ b.rank) × (a.core ≡ b.core) × (a.maximum ≡ b.maximum) × (a.keep ≡ b.keep) × (a.core_timeout ≡ b.core_timeout) × (a.moment ≡ b.moment) × (a.ranked ≡ b.ranked)
settings_same a b h =
    let p1 = both (a.steps == b.steps) _ h in
    let p2 = both (a.rank == b.rank) _ p1.1 in
    let p3 = both (a.core == b.core) _ p2.1 in
    let p4 = both (a.maximum == b.maximum) _ p3.1 in
    let p5 = both (a.keep == b.keep) _ p4.1 in
    let p6 = both (beq a.core_timeout b.core_timeout) _ p5.1 in
    let p7 = both (a.moment == b.moment) (beq a.ranked b.ranked) p6.1 in (
      numbers.same a.steps b.steps p1.0,
      numbers.same a.rank b.rank p2.0,
      numbers.same a.core b.core p3.0,
      numbers.same a.maximum b.maximum p4.0,
      numbers.same a.keep b.keep p5.0,
      switches.same a.core_timeout b.core_timeout p6.0,
      numbers.same a.moment b.moment p7.0,
      switches.same a.ranked b.ranked p7.1,
    )

lists_same : (a b : PlainState) → same_lists a b ≡ true →
    (a.tasks.items ≡ b.tasks.items) × (a.queue.items ≡ b.queue.items) × (a.slots.items ≡ b.slots.items) × (a.idling.items ≡ b.idling.items) × (a.done.items ≡ b.done.items)
lists_same a b h =
    let p1 = both (pointwise row_eq.ghosts.eq a.tasks.items b.tasks.items) _ h in
    let p2 = both (same_numbers a.queue.items b.queue.items) _ p1.1 in
    let p3 = both (pointwise (option_eq seat_eq.ghosts.eq) a.slots.items b.slots.items) _ p2.1 in
    let p4 = both (same_numbers a.idling.items b.idling.items) (same_numbers a.done.items b.done.items) p3.1 in (
      (lists row_eq.ghosts.eq rows).same a.tasks.items b.tasks.items p1.0,
      (lists (λ (m n : ℕ). m == n) numbers).same a.queue.items b.queue.items p2.0,
      (lists (option_eq seat_eq.ghosts.eq) (options seat_eq.ghosts.eq seats)).same a.slots.items b.slots.items p3.0,
      (lists (λ (m n : ℕ). m == n) numbers).same a.idling.items b.idling.items p4.0,
      (lists (λ (m n : ℕ). m == n) numbers).same a.done.items b.done.items p4.1,
    )

pub same_seen : (a b : State) → same_state a b ≡ true → seen a ≡ seen b
same_seen a b h =
    let p1 = both (pointwise caller_eq.ghosts.eq a.callers.items b.callers.items) _ h in
    let p2 = both (pointwise (option_eq task_eq.ghosts.eq) a.numbers.items b.numbers.items) _ p1.1 in
    let p3 = both (same_settings a.pool b.pool) _ p2.1 in
    let p4 = both (same_lists a.pool b.pool) (same_counts a.pool b.pool) p3.1 in
    let p5 = both (a.pool.completions == b.pool.completions) (a.pool.largest == b.pool.largest) p4.1 in
    let s = settings_same a.pool b.pool p3.0 in
    let l = lists_same a.pool b.pool p4.0 in
    let cs = (lists caller_eq.ghosts.eq callers).same a.callers.items b.callers.items p1.0 in
    let js = (lists (option_eq task_eq.ghosts.eq) (options task_eq.ghosts.eq tasks)).same a.numbers.items b.numbers.items p2.0 in
    λ i. record {
      pool = record {
        steps = s.0 i;
        rank = s.1 i;
        core = s.2 i;
        maximum = s.3 i;
        keep = s.4 i;
        core_timeout = s.5 i;
        now = s.6 i;
        tasks = l.0 i;
        ranked = s.7 i;
        queue = l.1 i;
        slots = l.2 i;
        idling = l.3 i;
        done = l.4 i;
        completions = numbers.same a.pool.completions b.pool.completions p5.0 i;
        largest = numbers.same a.pool.largest b.pool.largest p5.1 i;
        left_out = [];
        forgotten = λ f. 0;
      };
      callers = cs i;
      numbers = js i;
    }

-- the same test of what states stand for
abbrev same_settings_of : Situation → Situation → Bool
same_settings_of x y =
    (x.pool.steps == y.pool.steps) && ((x.pool.rank == y.pool.rank) && ((x.pool.core == y.pool.core) && ((x.pool.maximum == y.pool.maximum) && ((x.pool.keep == y.pool.keep) && (beq x.pool.core_timeout y.pool.core_timeout && ((x.pool.now == y.pool.now) && (beq x.pool.ranked y.pool.ranked)))))))

abbrev same_lists_of : Situation → Situation → Bool
same_lists_of x y =
    pointwise row_eq.ghosts.eq x.pool.tasks y.pool.tasks && (same_numbers x.pool.queue y.pool.queue && (pointwise (option_eq seat_eq.ghosts.eq) x.pool.slots y.pool.slots && (same_numbers x.pool.idling y.pool.idling && (same_numbers x.pool.done y.pool.done))))

abbrev same_counts_of : Situation → Situation → Bool
same_counts_of x y = (x.pool.completions == y.pool.completions) && (x.pool.largest == y.pool.largest)

abbrev same_situation : Situation → Situation → Bool
same_situation x y =
    pointwise caller_eq.ghosts.eq x.callers y.callers && (pointwise (option_eq task_eq.ghosts.eq) x.numbers y.numbers && (same_settings_of x y && (same_lists_of x y && (same_counts_of x y))))

self_situation : (x : Situation) → same_situation x x ≡ true
self_situation x =
    also _ _ ((lists caller_eq.ghosts.eq callers).self x.callers)
    (also _ _ ((lists (option_eq task_eq.ghosts.eq) (options task_eq.ghosts.eq tasks)).self x.numbers)
    (also _ _ (also _ _ (numbers.self x.pool.steps) (also _ _ (numbers.self x.pool.rank) (also _ _ (numbers.self x.pool.core) (also _ _ (numbers.self x.pool.maximum) (also _ _ (numbers.self x.pool.keep)
    (also _ _ (switches.self x.pool.core_timeout) (also _ _ (numbers.self x.pool.now) (switches.self x.pool.ranked))))))))
    (also _ _ (also _ _ ((lists row_eq.ghosts.eq rows).self x.pool.tasks) (also _ _ ((lists (λ (m n : ℕ). m == n) numbers).self x.pool.queue)
    (also _ _ ((lists (option_eq seat_eq.ghosts.eq) (options seat_eq.ghosts.eq seats)).self x.pool.slots) (also _ _ ((lists (λ (m n : ℕ). m == n) numbers).self x.pool.idling)
    ((lists (λ (m n : ℕ). m == n) numbers).self x.pool.done)))))
    (also _ _ (numbers.self x.pool.completions) (numbers.self x.pool.largest)))))

-- kept states compare as equal just where they stand for the same
pub tells : (a b : State) → (same_state a b ≡ true) ↔ (seen a ≡ seen b)
tells a b = (same_seen a b, λ e. subst (λ y. same_situation (seen a) y ≡ true) e (self_situation (seen a)))

pub same_laws : IsEquivalence same_state
same_laws = record {
  refl = λ a. (tells a a).1 refl;
  symm = λ a b. one (same_state a b) (same_state b a) (λ h. (tells b a).1 (sym ((tells a b).0 h))) (λ h. (tells a b).1 (sym ((tells b a).0 h)));
  congr = λ a b c h. let e = (tells a b).0 h in one (same_state a c) (same_state b c) (λ k. (tells b c).1 (sym e ∙ (tells a c).0 k)) (λ k. (tells a c).1 (e ∙ (tells b c).0 k));
}
  where
    one : (s t : Bool) → (s ≡ true → t ≡ true) → (t ≡ true → s ≡ true) → s ≡ t
    one true true f g = refl
    one false false f g = refl
    one true false f g = sym (f refl)
    one false true f g = g refl

pub same_laws_partial : IsPartialEquivalence same_state
same_laws_partial = record { symm = same_laws.symm; trans = λ a b c h k. (tells a c).1 ((tells a b).0 h ∙ (tells b c).0 k) }
