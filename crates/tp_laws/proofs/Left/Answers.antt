-- An ask that does not name a task that is out gets no answer that names it.
use Rattle.std.proofs.Common.{◌≡◌, ℕ, ◌<◌, Bool, true, false, not, List, [], ◌∷◌, length, Ok, refl, arith, subst}
use Rattle.std.specs.Prelude.{◌==◌, ◌^◌, ◌-◌, IfOk, nat_lt, if◌then◌else◌}
use Rattle.std.proofs.lemmas.Bool.{or_parts, ne_eqb}
use Rattle.std.proofs.lemmas.Bool.Decides.{nat_tests}
use Rattle.tp_types.specs.declared.configs.Config.{Config}
use Rattle.tp_types.specs.declared.configs.Verdict.{Verdict}
use Rattle.tp_types.specs.declared.ids.TaskId.{TaskId}
use Rattle.tp_types.specs.declared.tasks.Place.TheVariants as at
use Rattle.tp_record.specs.declared.entries.Ask.{Ask}
use Rattle.tp_record.specs.declared.entries.Ask.TheVariants as ask
use Rattle.tp_record.specs.declared.entries.Did.{Did}
use Rattle.tp_record.specs.declared.entries.Did.TheVariants as did
use Rattle.tp_record.specs.Lists.{is_it, is_among}
use Rattle.tp_record.specs.State.{State, task_at, slot_at}
use Rattle.tp_record.specs.Step.{Answer, retry_of, fitting}
use Rattle.tp_laws.specs.Seats.{seat_of}
use Rattle.tp_laws.proofs.Effects.Names.{names, drops}
use Rattle.tp_record.specs.Left.{asked}
use Rattle.tp_laws.proofs.Left.Spared.{Spares}

-- a task that was submitted and is nowhere: gone, in no slot, not in the queue, not among the completions; it owes nothing
pub record IsOut (s : State) (t : ℕ) : Type 0 where
  pub known : t < length s.tasks
  pub gone : (task_at s t).place ≡ at.Gone
  pub paid : (task_at s t).second ≡ false
  pub unqueued : is_among t s.queue ≡ false
  pub unlisted : is_among t s.done ≡ false
  pub unseated : (w : ℕ) → is_it (seat_of (slot_at s.slots w)) t ≡ false

-- an answer that is an entry spares t
abbrev pub Spare : ℕ → Answer → Type 0
Spare t a = IfOk a (λ d. Spares d t)

module _ (t : ℕ) where
  spare_if : (b : Bool) (x y : Answer) → Spare t x → Spare t y → Spare t (if b then x else y)
  spare_if true x y this that = this
  spare_if false x y this that = that

  -- an entry that names no task, or another
  named : (d : Did) → is_it (names d) t ≡ false → is_it (drops d) t ≡ false → Spares d t
  named d one two = record { unnamed = one; undropped = two }

  pub drops_retry : (u : TaskId) (v : Verdict) (q : List ℕ) → is_among t q ≡ false → is_it (drops (did.Verdict u v (retry_of q))) t ≡ false
  drops_retry u v [] out = refl
  drops_retry u v (x ∷ xs) out = (or_parts (t == x) (is_among t xs) out).0

  -- an ask that does not name it is answered without it
  pub fitting_spares : (c : Config) (s : State) → IsOut s t → (w : ℕ) (a : Ask) → is_it (asked a) t ≡ false → Spare t (fitting c s w a)
  fitting_spares c s out w (ask.Submit k p) other =
      let below = out.known in
      spare_if (nat_lt (length s.tasks) (2 ^ 32 - 1)) _ _ (named _ (ne_eqb t (length s.tasks) (λ e. omega arith)) refl) tt
  fitting_spares c s out w _ other = grind (arith, nat_tests)

  -- so it names none of those that are out
  pub answer_spares : (c : Config) (s : State) → IsOut s t → (w : ℕ) (a : Ask) (d : Did) → is_it (asked a) t ≡ false → fitting c s w a ≡ Ok d → Spares d t
  answer_spares c s out w a d other is = subst (Spare t) is (fitting_spares c s out w a other)
