-- An entry that neither names nor drops a task: what it says of it, and of the slots.
use Rattle.std.proofs.Common.{◌≡◌, ℕ, Bool, false, Option, None, arith, ap, ◌∙◌}
use Rattle.std.specs.Prelude.{unwrap_or}
use Rattle.std.proofs.lemmas.Bool.Decides.{nat_tests}
use Rattle.tp_types.specs.declared.tasks.Fate.{Fate}
use Rattle.tp_types.specs.declared.tasks.Kind.{Kind}
use Rattle.tp_types.specs.declared.tasks.Place.{Place}
use Rattle.tp_types.specs.declared.tasks.Place.TheVariants as at
use Rattle.tp_record.specs.declared.entries.Did.{Did}
use Rattle.tp_record.specs.declared.rows.TaskRow.{TaskRow}
use Rattle.tp_record.specs.declared.rows.SlotRow.{SlotRow}
use Rattle.tp_record.specs.Lists.{said_of, is_it}
use Rattle.tp_record.specs.Effects.{kinds_said, priorities_said, moved, seconds, cancels, endings, outcomes, tries, queues, completes, is_plain_fault}
use Rattle.tp_record.specs.Fields.{swept, handed_back, counted}
use Rattle.tp_record.specs.State.{State, row_after, slot_after}
use Rattle.tp_laws.specs.Seats.{seat_of}
use Rattle.tp_laws.proofs.Effects.Names.{names, drops}

-- the entry neither names the task nor drops it
pub record Spares (d : Did) (t : ℕ) : Type 0 where
  pub unnamed : is_it (names d) t ≡ false
  pub undropped : is_it (drops d) t ≡ false

kind_unsaid : (d : Did) (t : ℕ) → Spares d t → said_of t (kinds_said d) ≡ None
kind_unsaid d t spares = grind (arith, nat_tests)

priority_unsaid : (d : Did) (t : ℕ) → Spares d t → said_of t (priorities_said d) ≡ None
priority_unsaid d t spares = grind (arith, nat_tests)

pub place_unsaid : (d : Did) (t : ℕ) → Spares d t → said_of t (moved d) ≡ None
place_unsaid d t spares = grind (arith, nat_tests)

second_unsaid : (d : Did) (t : ℕ) → Spares d t → said_of t (seconds d) ≡ None
second_unsaid d t spares = grind (arith, nat_tests)

cancel_unsaid : (d : Did) (t : ℕ) → Spares d t → said_of t (cancels d) ≡ None
cancel_unsaid d t spares = grind (arith, nat_tests)

ending_unsaid : (d : Did) (t : ℕ) → Spares d t → said_of t (endings d) ≡ None
ending_unsaid d t spares = grind (arith, nat_tests)

outcome_unsaid : (d : Did) (t : ℕ) → Spares d t → said_of t (outcomes d) ≡ None
outcome_unsaid d t spares = grind (arith, nat_tests)

tries_unsaid : (d : Did) (t : ℕ) → Spares d t → said_of t (tries d) ≡ None
tries_unsaid d t spares = grind (arith, nat_tests)

gone_unswept : (d : Did) (b : Bool) (p : Place) → p ≡ at.Gone → swept d b p ≡ p
gone_unswept d b p gone = grind arith

gone_unreturned : (d : Did) (p : Place) (f : Option Fate) → p ≡ at.Gone → handed_back d p f ≡ f
gone_unreturned d p f gone = grind arith

-- the row of a gone task stays, also where the entry sweeps others
pub spared_row : (d : Did) (t : ℕ) (r : TaskRow) → Spares d t → r.place ≡ at.Gone → row_after d t r ≡ r
spared_row d t r spares gone =
    λ i. record {
      kind = ap (λ o. unwrap_or o r.kind) (kind_unsaid d t spares) i;
      priority = ap (λ o. unwrap_or o r.priority) (priority_unsaid d t spares) i;
      place = (ap (λ o. unwrap_or o (swept d r.cancelled r.place)) (place_unsaid d t spares) ∙ gone_unswept d r.cancelled r.place gone) i;
      second = ap (λ o. unwrap_or o r.second) (second_unsaid d t spares) i;
      cancelled = ap (λ o. unwrap_or o r.cancelled) (cancel_unsaid d t spares) i;
      ending = (ap (λ o. unwrap_or o (handed_back d r.place r.ending)) (ending_unsaid d t spares) ∙ gone_unreturned d r.place r.ending gone) i;
      outcome = ap (λ o. unwrap_or o r.outcome) (outcome_unsaid d t spares) i;
      retries = ap (λ o. counted o r.retries) (tries_unsaid d t spares) i;
    }

-- no slot comes to hold the task
pub spared_seat : (d : Did) (s : State) (t w : ℕ) (o : Option SlotRow) → Spares d t → is_it (seat_of o) t ≡ false → is_it (seat_of (slot_after d s w o)) t ≡ false
spared_seat d s t w o spares out = grind (arith, nat_tests)

-- nor the queue
pub spared_queues : (d : Did) (t : ℕ) → Spares d t → is_it (queues d) t ≡ false
spared_queues d t spares = grind (arith, nat_tests)

-- nor is it completed
pub spared_completes : (d : Did) (kind_of : ℕ → Kind) (cancelled_of : ℕ → Bool) (t : ℕ) → Spares d t → is_it (completes d kind_of cancelled_of) t ≡ false
spared_completes d kind_of cancelled_of t spares = grind (arith, nat_tests)

-- two tables of kinds that agree but on t say the same of the entry
pub same_fault : (d : Did) (t : ℕ) (f g : ℕ → Kind) → Spares d t → ((u : ℕ) → (u ≡ t → ⊥) → f u ≡ g u) → is_plain_fault d f ≡ is_plain_fault d g
same_fault d t f g spares same = grind (arith, nat_tests)

pub same_completes : (d : Did) (t : ℕ) (f g : ℕ → Kind) (p q : ℕ → Bool) → Spares d t → ((u : ℕ) → (u ≡ t → ⊥) → f u ≡ g u) → ((u : ℕ) → (u ≡ t → ⊥) → p u ≡ q u) → completes d f p ≡ completes d g q
same_completes d t f g p q spares kinds cancels = grind (arith, nat_tests)
