-- The slots that are seen, said otherwise.
use Rattle.std.proofs.Common.{◌≡◌, ℕ, ◌<◌, ◌≤◌, Bool, true, false, cond, List, Option, arith, ap, refl, subst, ◌∙◌}
use Rattle.std.specs.Prelude.{◌==◌, ◌&&◌, count_by, is_some}
use Rattle.tp_record.specs.declared.entries.Entry.{Entry}
use Rattle.tp_record.specs.declared.rows.SlotRow.{SlotRow}
use Rattle.tp_record.specs.Fields.{idling, idled, is_idle}
use Rattle.tp_record.specs.Lists.{without, is_among}
use Rattle.tp_record.specs.State.{state}
use Rattle.tp_record.specs.Step.{slot_count}
use Rattle.tp_laws.proofs.Model.Queues.{among-filter}
use Rattle.tp_laws.proofs.Effects.Lists.{without_absent}
use Rattle.tp_laws.specs.View.{View, put}
use Rattle.tp_machine_state.specs.declared.parts.Parts.{Parts}
use Rattle.tp_machine_state.specs.Shows.{Views}
use Rattle.tp_machine_state.specs.Steps.{Stands}
use Rattle.tp_machine_state.specs.Terms.{terms}

-- slots are seen number by number, and what is seen does not hold their counts
pub views_slots : {P : Type 0} (p : Parts P) (v : View) (slots : ℕ → Option SlotRow) (order : List ℕ) (taken live : ℕ) → ((w : ℕ) → slots w ≡ v.slots w) → order ≡ v.idling → Views p v →
    Views p (record v { slots = slots; idling = order; taken = taken; live = live })
views_slots p v slots order taken live same idle views = record {
  rank = views.rank;
  core_size = views.core_size;
  maximum_size = views.maximum_size;
  keep_alive = views.keep_alive;
  times_out = views.times_out;
  present = views.present;
  submitted = views.submitted;
  rows = views.rows;
  unknown = views.unknown;
  issued = views.issued;
  fates = views.fates;
  queued = views.queued;
  seats = λ w. same w ∙ views.seats w;
  order = idle ∙ views.order;
  done = views.done;
  completed = views.completed;
  most = views.most;
}

-- a row that is put twice was put the last time
pub put_again : {A : Type 0} (w : ℕ) (a b : A) (f : ℕ → A) (x : ℕ) → put w a f x ≡ put w a (put w b f) x
put_again w a b f x = by (x == w)
  where
    by : (is : Bool) → cond is a (f x) ≡ cond is a (cond is b (f x))
    by true = refl
    by false = refl

-- a slot that is not idle does not stand in the order
pub busy_order : (h : List Entry) (w : ℕ) → is_idle h w ≡ false → without w (idling h) ≡ idling h
busy_order h w busy = without_absent w (idling h) (among-filter w (is_idle h) (idled h) ∙ ap (λ b. b && is_among w (idled h)) busy)

-- a slot is reserved under a number that was told before
pub views_numbered : {P : Type 0} (p : Parts P) (v : View) (x y : ℕ) (o : Option SlotRow) (n : ℕ) → x ≡ y → Views p (record v { slots = put x o v.slots; taken = n }) → Views p (record v { slots = put y o v.slots; taken = n })
views_numbered p v x y o n same = subst (λ z. Views p (record v { slots = put z o v.slots; taken = n })) same

-- where there are fewer slots than a size that is within the maximum, there is a place for one more
pub seats_left : {P : Type 0} (p : Parts P) (stands : Stands p) (size : ℕ) → size ≤ p.maximum → slot_count (state (terms p) stands.history) < size → count_by is_some p.slots.slots < p.slots.places
seats_left p stands size within below =
    let taken = stands.shows.taken in
    let places = stands.tied.places in
    omega (arith, within, below, taken, places)
