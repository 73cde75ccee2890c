-- The answers of steps that look at the room.
use Rattle.std.proofs.Common.{◌≡◌, ℕ, Bool, true, false, List, Ok, Err, cond, refl, sym, ap, ◌∙◌}
use Rattle.std.specs.Prelude.{unwrap_or, IfSome}
use Rattle.tp_types.specs.declared.refusals.PoolError.TheVariants.{BookFull}
use Rattle.tp_record.specs.declared.entries.Entry.{Entry}
use Rattle.tp_record.specs.declared.entries.Ask.{Ask}
use Rattle.tp_record.specs.declared.entries.Did.{Did}
use Rattle.tp_record.specs.Effects.{reserves}
use Rattle.tp_record.specs.State.{State, state}
use Rattle.tp_record.specs.Step.{Legal, IsFreeTo, fitting, within_room, is_free_for}
use Rattle.tp_laws.proofs.Model.Given.{Given}
use Rattle.tp_laws.proofs.Model.Told.{given_answer, sound_legal}
use Rattle.tp_machine_state.specs.declared.parts.Parts.{Parts}
use Rattle.tp_laws.specs.View.{View, Effect}
use Rattle.tp_record.specs.Left.{mark, MayAll}
use Rattle.tp_laws.proofs.Left.Marks.{fits_whole}
use Rattle.tp_machine_state.specs.Shows.{Shows}
use Rattle.tp_machine_state.specs.Steps.{Fits, Accepts, Refuses}
use Rattle.tp_machine_state.specs.Room.{TellsRoom}
use Rattle.tp_machine_state.specs.Terms.{terms}
use Rattle.tp_machine_state.proofs.Standing.{given_fitting}

-- the effect is the same of a state of which tasks are marked
pub marked_effect : (rs : List ℕ) (s : State) (d : Did) (v : View) (fall rise : ℕ) → Effect s d v fall rise → Effect (mark rs s) d (record v { left_out = rs }) fall rise
marked_effect rs s d v fall rise e = record {
  reads = record {
    rank = e.reads.rank;
    core = e.reads.core;
    maximum = e.reads.maximum;
    keep = e.reads.keep;
    core_timeout = e.reads.core_timeout;
    now = e.reads.now;
    submitted = e.reads.submitted;
    tasks = e.reads.tasks;
    fates = e.reads.fates;
    queue = e.reads.queue;
    slots = e.reads.slots;
    taken = e.reads.taken;
    live = e.reads.live;
    largest = e.reads.largest;
    idling = e.reads.idling;
    done = e.reads.done;
    completions = e.reads.completions;
    left_out = refl;
  };
  owes = e.owes;
}

module _ {P : Type 0} (p : Parts P) where
  -- what the entry does at each legal history that is shown: what is owed falls and rises by so much
  abbrev pub Moves : ℕ → ℕ → Did → Type 0
  Moves fall rise d = (h : List Entry) (rs : List ℕ) → Legal (terms p) h → Shows p (mark rs (state (terms p) h)) → Given (terms p) h d → (v : View) × Effect (state (terms p) h) d v fall rise

  -- what fits is accepted where there is room for it
  pub accepts_room : (a : Ask) (d : Did) (fall rise : ℕ) (b : Bool) → TellsRoom p fall rise b → b ≡ true → Fits p a d → Moves fall rise d → Accepts p a d
  accepts_room a d fall rise b tells room fits moves = λ h rs legal may sh.
      let s = mark rs (state (terms p) h) in
      let f = fits h rs legal may sh in
      let e = moves h rs legal sh (given_fitting (terms p) h rs a d legal f) in
      let leaves = sym (tells s d (record e.0 { left_out = rs }) sh (marked_effect rs (state (terms p) h) d e.0 fall rise e.1)) ∙ room in
      (ap (within_room (terms p) s) f.0 ∙ ap (λ x. cond x (Ok d) (Err BookFull)) leaves, f.1)

  -- and is refused where there is none: whatever number w a new slot would get, what fits then leaves no room
  pub refuses_room : (a : Ask) (fall rise : ℕ) (b : Bool) → TellsRoom p fall rise b → b ≡ false →
      ((h : List Entry) (rs : List ℕ) → Legal (terms p) h → MayAll rs (state (terms p) h) → Shows p (mark rs (state (terms p) h)) → (w : ℕ) → IsFreeTo (mark rs (state (terms p) h)) a w →
      (d : Did) × (fitting (terms p) (mark rs (state (terms p) h)) w a ≡ Ok d) × IfSome (reserves d) (λ v. is_free_for (mark rs (state (terms p) h)) d v ≡ true) × Moves fall rise d) →
      Refuses p a BookFull
  refuses_room a fall rise b tells full fitted = λ h rs legal may sh w free.
      let s = mark rs (state (terms p) h) in
      let f = fitted h rs legal may sh w free in
      let e = f.3 h rs legal sh (given_answer (terms p) h w a f.0 (sound_legal (terms p) h legal) (fits_whole (terms p) h rs w a f.0 f.1).1 f.2) in
      let leaves = sym (tells s f.0 (record e.0 { left_out = rs }) sh (marked_effect rs (state (terms p) h) f.0 e.0 fall rise e.1)) ∙ full in
      ap (within_room (terms p) s) f.1 ∙ ap (λ x. cond x (Ok f.0) (Err BookFull)) leaves

  -- so is what fits whichever number a new slot would get
  pub refuses_fitting : (a : Ask) (d : Did) (fall rise : ℕ) (b : Bool) → TellsRoom p fall rise b → b ≡ false → Fits p a d →
      ((s : State) (w : ℕ) → fitting (terms p) s w a ≡ fitting (terms p) s (unwrap_or (reserves d) 0) a) → Moves fall rise d → Refuses p a BookFull
  refuses_fitting a d fall rise b tells full fits same moves =
      refuses_room a fall rise b tells full (λ h rs legal may sh w free. let f = fits h rs legal may sh in (d, same (mark rs (state (terms p) h)) w ∙ f.0, f.1, moves))
