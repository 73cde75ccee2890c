-- What is known where structures stand.
use Rattle.std.proofs.Common.{◌≡◌, ℕ, suc, ◌+◌, ◌-◌, ◌^◌, ◌<◌, ◌≤◌, Bool, true, false, List, Option, Some, None, Ok, Err, cond, arith, refl, sym, ap, ap₂, subst, ◌∙◌}
use Rattle.std.specs.Prelude.{unwrap_or, IsSome, ◌↔◌, ◌&&◌, not}
use Rattle.std.proofs.lemmas.Bool.{le-leb, lt-ltb, true≢false}
use Rattle.tp_types.specs.declared.configs.Config.{Config}
use Rattle.tp_types.specs.declared.ids.TaskId.{TaskId}
use Rattle.tp_types.specs.declared.tasks.Place.{Place}
use Rattle.tp_types.specs.declared.tasks.Place.TheVariants as at
use Rattle.tp_types.specs.declared.refusals.PoolError.TheVariants.{BookFull}
use Rattle.tp_record.specs.declared.entries.Entry.{Entry}
use Rattle.tp_record.specs.declared.entries.Ask.{Ask}
use Rattle.tp_record.specs.declared.entries.Did.{Did}
use Rattle.tp_record.specs.declared.rows.Stage.{Stage}
use Rattle.tp_record.specs.Effects.{reserves}
use Rattle.tp_record.specs.Lists.{is_among}
use Rattle.tp_record.specs.Fields.{rank, submitted, is_cancelled, owes_second}
use Rattle.tp_record.specs.Left.{mark, MayAll, asked, is_one_of}
use Rattle.tp_laws.proofs.Left.Marks.{fits_whole}
use Rattle.tp_record.specs.State.{State, state, next, slot_at, task_at, due}
use Rattle.tp_record.specs.declared.rows.TaskRow.{TaskRow}
use Rattle.tp_record.specs.Step.{Gives, Legal, fitting, within_room, leaves_room}
use Rattle.tp_record.specs.Packed.{HasSmallSlots}
use Rattle.tp_laws.proofs.Model.Weak.{within, has_room}
use Rattle.tp_laws.proofs.Model.Given.{Given, IsAt, HasRow}
use Rattle.tp_laws.proofs.Model.Readings.{tasks_counted, row_read, slot_read}
use Rattle.tp_laws.proofs.Model.Told.{given_answer, sound_legal}
use Rattle.tp_laws.proofs.Small.{AreSmall, IsSmall, reserved_few, small_given}
use Rattle.tp_laws.specs.Reserved.{TakesNext}
use Rattle.tp_laws.specs.Room.{lowers}
use Rattle.tp_laws.proofs.OwedLaws.{owed_falls, room_is_enough}
use Rattle.tp_machine_state.specs.declared.parts.Parts.{Parts}
use Rattle.tp_tasks.specs.declared.tasks.Tasks.{Tasks}
use Rattle.tp_tasks.specs.Tasks.{row_of}
use Rattle.tp_laws.specs.View.{View, Effect}
use Rattle.tp_machine_state.specs.Tied.{is_before, is_waiting, IsTied}
use Rattle.tp_laws.proofs.Effects.Invariants.{is_gone}
use Rattle.tp_laws.proofs.Effects.Facts.{open_row}
use Rattle.tp_machine_state.specs.Shows.{Shows}
use Rattle.tp_machine_state.specs.Steps.{Stands, Fits, Accepts, IsFitting}
use Rattle.tp_machine_state.specs.Terms.{terms}

-- what is given where an answer fits
pub given_fitting : (c : Config) (h : List Entry) (rs : List ℕ) (a : Ask) (d : Did) → Legal c h → IsFitting c (mark rs (state c h)) a d → Given c h d
given_fitting c h rs a d legal fits =
    given_answer c h (unwrap_or (reserves d) 0) a d (sound_legal c h legal) (fits_whole c h rs (unwrap_or (reserves d) 0) a d fits.0).1 fits.1

-- a step that is owed is given where it fits: there is room for it
pub gives_owed : (c : Config) (h : List Entry) (rs : List ℕ) (a : Ask) (d : Did) → 64 ≤ c.record_limit → Legal c h → IsFitting c (mark rs (state c h)) a d → lowers (rank h) d ≡ true → Gives c (mark rs (state c h)) a d
gives_owed c h rs a d least legal fits low =
    let whole = fits_whole c h rs (unwrap_or (reserves d) 0) a d fits.0 in
    let falls = owed_falls c h (unwrap_or (reserves d) 0) a d legal whole.1 fits.1 low in
    let room = room_is_enough c h least legal in
    let leaves : leaves_room c (state c h) d ≡ true = le-leb _ _ (omega (arith, falls, room)) in
    (ap (within_room c (mark rs (state c h))) fits.0 ∙ ap (λ b. cond b (Ok d) (Err BookFull)) leaves, fits.1)

-- what is accepted fits
pub fits_accepted : {P : Type 0} (p : Parts P) (a : Ask) (d : Did) → Accepts p a d → Fits p a d
fits_accepted p a d accepts = λ h rs legal may sh.
    let s = mark rs (state (terms p) h) in
    let gives = accepts h rs legal may sh in
    (within (terms p) s (fitting (terms p) s (unwrap_or (reserves d) 0) a) d gives.0, gives.1)

module _ {P : Type 0} (p : Parts P) (stands : Stands p) where
  -- the limit is that of good settings, or greater
  pub least_limit : 64 ≤ p.limit
  least_limit = let l = stands.tied.config.least_limit in let m = stands.tied.limit.0 in omega (arith, l, m)

  -- so is each that is owed at every run state
  pub accepts_owed : (a : Ask) (d : Did) → ((n : ℕ) → lowers n d ≡ true) → Fits p a d → Accepts p a d
  accepts_owed a d low fits = λ h rs legal may sh. gives_owed (terms p) h rs a d least_limit legal (fits h rs legal may sh) (low (rank h))

  -- there is room for all that is owed
  pub room_left : p.steps + p.due ≤ p.limit
  room_left =
      let room = room_is_enough (terms p) stands.history least_limit stands.legal in
      let e = stands.shows.entries in
      let f : due (state (terms p) stands.history) ≡ p.due = stands.shows.owed in
      omega (arith, room, e, f)

  -- what is given at its history
  pub given_here : (a : Ask) (d : Did) → Fits p a d → Given (terms p) stands.history d
  given_here a d fits = given_fitting (terms p) stands.history stands.released a d stands.legal (fits stands.history stands.released stands.legal stands.may stands.shows)

  -- a task that was released is gone, and owes no second look
  pub gone_here : (t : ℕ) → is_among t stands.released ≡ true → ((task_at (state (terms p) stands.history) t).place ≡ at.Gone) × ((task_at (state (terms p) stands.history) t).second ≡ false)
  gone_here t is = let may = stands.may.each t is in (may.gone, may.paid)

  -- an ask that fits names no task that was released
  pub named_here : (a : Ask) (d : Did) → Fits p a d → is_one_of (asked a) stands.released ≡ false
  named_here a d fits =
      (fits_whole (terms p) stands.history stands.released (unwrap_or (reserves d) 0) a d (fits stands.history stands.released stands.legal stands.may stands.shows).0).0

  -- a submitted task's row in the structures, where it was not released
  pub row_here : (t : ℕ) → t < submitted stands.history → is_among t stands.released ≡ false → row_of p.tasks t ≡ Some (task_at (state (terms p) stands.history) t)
  row_here t known off =
      let n = tasks_counted stands.history in
      stands.shows.seen.rows t (ap₂ (λ a b. not a && b) off (lt-ltb t _ (omega (arith, n, known))))

  -- one that owes a second look was not
  pub owing_here : (t : ℕ) → t < submitted stands.history → owes_second stands.history t ≡ true → is_among t stands.released ≡ false
  owing_here t known owes = by (is_among t stands.released) refl
    where
      by : (b : Bool) → is_among t stands.released ≡ b → is_among t stands.released ≡ false
      by true is = absurd (true≢false (sym owes ∙ sym (ap (λ r. r.second) (row_read stands.history t known)) ∙ (gone_here t is).1))
      by false is = is

  -- nor was one that is not gone
  pub placed_here : (t : ℕ) (place : Place) → IsAt stands.history t place → is_gone place ≡ false → is_among t stands.released ≡ false
  placed_here t place is there = by (is_among t stands.released) refl
    where
      by : (b : Bool) → is_among t stands.released ≡ b → is_among t stands.released ≡ false
      by true among =
          absurd (true≢false (sym (ap is_gone (gone_here t among).0) ∙ ap (λ r. is_gone r.place) (row_read stands.history t is.0) ∙ ap is_gone is.1 ∙ there))
      by false among = among

  -- a task that is there: its row in the structures, and its place
  pub task_here : (t : ℕ) (place : Place) → IsAt stands.history t place → is_gone place ≡ false →
      (row_of p.tasks t ≡ Some (task_at (state (terms p) stands.history) t)) × ((task_at (state (terms p) stands.history) t).place ≡ place)
  task_here t place is there = (row_here t is.0 (placed_here t place is there), ap (λ r. r.place) (row_read stands.history t is.0) ∙ is.1)

  -- where it is not gone it has no ending
  pub open_here : (t : ℕ) (place : Place) → IsAt stands.history t place → is_gone place ≡ false → (task_at (state (terms p) stands.history) t).ending ≡ None
  open_here t place is there = open_row (terms p) stands.history stands.legal t (ap is_gone is.1 ∙ there)

  -- whether it was cancelled
  pub cancelled_here : (t : ℕ) (b : Bool) → t < submitted stands.history → is_cancelled stands.history t ≡ b → (task_at (state (terms p) stands.history) t).cancelled ≡ b
  cancelled_here t b known is = ap (λ r. r.cancelled) (row_read stands.history t known) ∙ is

  -- a slot with this row
  pub seat_here : (w : ℕ) (stage : Stage) (task : Option TaskId) → HasRow stands.history w stage task → slot_at p.slots.slots w ≡ Some (record { stage = stage; task = task })
  seat_here w stage task is = sym (stands.shows.seen.seats w) ∙ slot_read stands.history w ∙ is

  -- where the slots and the next one have small numbers, so have those that an answer names which fits
  pub small_here : (a : Ask) (d : Did) → ((w : ℕ) → IsSome (slot_at p.slots.slots w) → IsSmall w) → IsSmall p.slots.next → Fits p a d → TakesNext p.slots.next d → HasSmallSlots d
  small_here a d small next fits is =
      let rows : AreSmall stands.history = λ w some. small w (subst IsSome (sym (slot_read stands.history w) ∙ stands.shows.seen.seats w) some) in
      let given = given_here a d fits in
      small_given (terms p) stands.history rows d given (reserved_few (terms p) stands.history rows p.slots.next next d given is)

  -- what an entry lowers what is owed by is owed
  pub owed_here : (d : Did) (v : View) (fall rise : ℕ) → Effect (state (terms p) stands.history) d v fall rise → fall ≤ p.due + rise
  owed_here d v fall rise effect =
      let e = effect.owes in
      let f : due (state (terms p) stands.history) ≡ p.due = stands.shows.owed in
      omega (arith, e, f)

  -- of it, the n entries by which fewer are owed then
  pub fall_here : (a : Ask) (d : Did) (v : View) (fall rise n : ℕ) → Fits p a d → (Given (terms p) stands.history d → Effect (state (terms p) stands.history) d v fall rise) → fall ≡ n + rise → n ≤ p.due
  fall_here a d v fall rise n fits effect net = let owed = owed_here d v fall rise (effect (given_here a d fits)) in omega (arith, owed, net)

  -- what it takes to count an entry by which n fewer are owed: where n is not 0, the entry itself was owed
  pub entry_here : (a : Ask) (d : Did) (v : View) (fall rise n : ℕ) → Fits p a d → (Given (terms p) stands.history d → Effect (state (terms p) stands.history) d v fall rise) → fall ≡ n + rise → 1 ≤ n →
      (p.steps < 2 ^ 64 - 1) × (n ≤ p.due)
  entry_here a d v fall rise n fits effect net least =
      let most = stands.tied.limit.1 in
      let room = room_left in
      let owed = fall_here a d v fall rise n fits effect net in
      (omega (arith, most, room, owed, least), owed)

  -- there is room for an accepted entry, and for all that is owed after it
  pub room_for : (a : Ask) (d : Did) → Accepts p a d → suc p.steps + due (next (state (terms p) stands.history) d) ≤ p.limit
  room_for a d accepts =
      let s = mark stands.released (state (terms p) stands.history) in
      let gives = accepts stands.history stands.released stands.legal stands.may stands.shows in
      let room : suc s.steps + due (next (state (terms p) stands.history) d) ≤ p.limit = has_room (terms p) s _ d gives.0 in
      let e = stands.shows.entries in
      omega (arith, room, e)

  -- so it can be counted
  pub few_steps : (a : Ask) (d : Did) → Accepts p a d → p.steps < 2 ^ 64 - 1
  few_steps a d accepts = let most = stands.tied.limit.1 in let room = room_for a d accepts in omega (arith, most, room)

  -- by n fewer that are owed
  pub falling_here : (a : Ask) (d : Did) (v : View) (fall rise n : ℕ) → Accepts p a d → (Given (terms p) stands.history d → Effect (state (terms p) stands.history) d v fall rise) → fall ≡ n + rise →
      (p.steps < 2 ^ 64 - 1) × (n ≤ p.due)
  falling_here a d v fall rise n accepts effect net = (few_steps a d accepts, fall_here a d v fall rise n (fits_accepted p a d accepts) effect net)

  -- or by more
  pub rising_here : (a : Ask) (d : Did) (v : View) (rise : ℕ) → Accepts p a d → (Given (terms p) stands.history d → Effect (state (terms p) stands.history) d v 0 rise) →
      (p.steps < 2 ^ 64 - 1) × (p.due + rise < 2 ^ 64)
  rising_here a d v rise accepts effect =
      let most = stands.tied.limit.1 in
      let room = room_for a d accepts in
      let owes = (effect (given_here a d (fits_accepted p a d accepts))).owes in
      let owed : due (state (terms p) stands.history) ≡ p.due = stands.shows.owed in
      (few_steps a d accepts, omega (arith, most, room, owes, owed))

  -- a task that is there, and that waits in another place just as in this one
  pub known_here : (tasks : Tasks P) (t : ℕ) (from to : Place) → tasks ≡ p.tasks → IsAt stands.history t from → is_gone from ≡ false → is_before to ≡ is_before from →
      (r : TaskRow) × (row_of tasks t ≡ Some r) × (is_waiting (record r { place = to }) ≡ is_waiting r)
  known_here tasks t from to same is placed alike =
      let there = task_here t from is placed in
      let r = task_at (state (terms p) stands.history) t in
      (r, ap (λ x. row_of x t) same ∙ there.0, ap (λ b. b && not r.cancelled) (alike ∙ sym (ap is_before there.1)))

-- structures that show the same states, with the same settings, stand and accept alike
module _ {P : Type 0} (old new : Parts P) (config : (terms new) ≡ (terms old)) (same : (s : State) → Shows old s ↔ Shows new s) where
  before : (h : List Entry) (rs : List ℕ) → Shows new (mark rs (state (terms new) h)) → Shows old (mark rs (state (terms old) h))
  before h rs sh = subst (λ c. Shows old (mark rs (state c h))) config ((same (mark rs (state (terms new) h))).1 sh)

  pub stands_same : new.steps ≡ old.steps → ((c : Config) (n : ℕ) → IsTied c n old → IsTied c n new) → Stands old → Stands new
  stands_same steps tied stands = record {
    history = stands.history;
    released = stands.released;
    may = subst (λ c. MayAll stands.released (state c stands.history)) (sym config) stands.may;
    legal = subst (λ c. Legal c stands.history) (sym config) stands.legal;
    shows = subst (λ c. Shows new (mark stands.released (state c stands.history))) (sym config) ((same (mark stands.released (state (terms old) stands.history))).0 stands.shows);
    tied = subst (λ n. IsTied (terms new) n new) (sym steps) (subst (λ c. IsTied c old.steps new) (sym config) (tied (terms old) old.steps stands.tied));
  }

  pub accepts_same : (a : Ask) (d : Did) → Accepts old a d → Accepts new a d
  accepts_same a d accepts = λ h rs legal may sh.
      subst (λ c. Gives c (mark rs (state c h)) a d) (sym config) (accepts h rs (subst (λ c. Legal c h) config legal) (subst (λ c. MayAll rs (state c h)) config may) (before h rs sh))
