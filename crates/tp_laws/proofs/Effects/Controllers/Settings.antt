-- The settings and the moment.
use Rattle.std.proofs.Common.{◌≡◌, ℕ, ◌+◌, Bool, List, ◌∷◌, refl, arith}
use Rattle.std.proofs.lemmas.Bool.Decides.{nat_tests}
use Rattle.tp_types.specs.declared.configs.Config.{Config}
use Rattle.tp_record.specs.declared.entries.Entry.{Entry}
use Rattle.tp_record.specs.declared.entries.Did.TheVariants as did
use Rattle.tp_record.specs.State.{state}
use Rattle.tp_record.specs.Step.{Legal}
use Rattle.tp_laws.proofs.Model.Given.{Given}
use Rattle.tp_laws.specs.View.{view, Effect}
use Rattle.tp_laws.proofs.Effects.Next.{entry}
use Rattle.tp_laws.proofs.Effects.Sums.{named_due}
use Rattle.tp_laws.proofs.Effects.Lists.{queue_still}
use Rattle.tp_laws.proofs.Effects.Done.{done_same}
use Rattle.tp_laws.proofs.Effects.Shapes.{reads_set, owes_by, tasks_kept, slots_kept}

core_falls : (c : Config) (h : List Entry) (n k : ℕ) → Given c h (did.Core n k) → named_due h (did.Core n k) h + 0 ≡ named_due h (did.Core n k) (entry (did.Core n k) ∷ h) + 0
core_falls c h n k given = grind (arith, nat_tests)

-- the core size is set
pub core : (c : Config) (h : List Entry) (n k : ℕ) → Legal c h → Given c h (did.Core n k) →
    Effect (state c h) (did.Core n k)
    (record (view (state c h)) {
      core = n;
    }) 0 0
core c h n k legal given =
    let d = did.Core n k in
    record {
      reads = reads_set (state c h) d refl
          (tasks_kept c h d legal given refl refl refl refl refl)
          (queue_still c h d refl refl refl)
          (slots_kept c h d legal given refl refl refl refl)
          (done_same c h d legal given refl) refl;
      owes = owes_by c h d legal given refl 0 0 (core_falls c h n k given);
    }

maximum_falls : (c : Config) (h : List Entry) (n : ℕ) → Given c h (did.Maximum n) → named_due h (did.Maximum n) h + 0 ≡ named_due h (did.Maximum n) (entry (did.Maximum n) ∷ h) + 0
maximum_falls c h n given = grind (arith, nat_tests)

-- the maximum size is set
pub maximum : (c : Config) (h : List Entry) (n : ℕ) → Legal c h → Given c h (did.Maximum n) →
    Effect (state c h) (did.Maximum n)
    (record (view (state c h)) {
      maximum = n;
    }) 0 0
maximum c h n legal given =
    let d = did.Maximum n in
    record {
      reads = reads_set (state c h) d refl
          (tasks_kept c h d legal given refl refl refl refl refl)
          (queue_still c h d refl refl refl)
          (slots_kept c h d legal given refl refl refl refl)
          (done_same c h d legal given refl) refl;
      owes = owes_by c h d legal given refl 0 0 (maximum_falls c h n given);
    }

keep_falls : (c : Config) (h : List Entry) (n : ℕ) → Given c h (did.Keep n) → named_due h (did.Keep n) h + 0 ≡ named_due h (did.Keep n) (entry (did.Keep n) ∷ h) + 0
keep_falls c h n given = grind (arith, nat_tests)

-- the keep-alive is set
pub keep : (c : Config) (h : List Entry) (n : ℕ) → Legal c h → Given c h (did.Keep n) →
    Effect (state c h) (did.Keep n)
    (record (view (state c h)) {
      keep = n;
    }) 0 0
keep c h n legal given =
    let d = did.Keep n in
    record {
      reads = reads_set (state c h) d refl
          (tasks_kept c h d legal given refl refl refl refl refl)
          (queue_still c h d refl refl refl)
          (slots_kept c h d legal given refl refl refl refl)
          (done_same c h d legal given refl) refl;
      owes = owes_by c h d legal given refl 0 0 (keep_falls c h n given);
    }

core_timeout_falls : (c : Config) (h : List Entry) (on : Bool) → Given c h (did.CoreTimeout on) → named_due h (did.CoreTimeout on) h + 0 ≡ named_due h (did.CoreTimeout on) (entry (did.CoreTimeout on) ∷ h) + 0
core_timeout_falls c h on given = grind (arith, nat_tests)

-- core workers time out, or not
pub core_timeout : (c : Config) (h : List Entry) (on : Bool) → Legal c h → Given c h (did.CoreTimeout on) →
    Effect (state c h) (did.CoreTimeout on)
    (record (view (state c h)) {
      core_timeout = on;
    }) 0 0
core_timeout c h on legal given =
    let d = did.CoreTimeout on in
    record {
      reads = reads_set (state c h) d refl
          (tasks_kept c h d legal given refl refl refl refl refl)
          (queue_still c h d refl refl refl)
          (slots_kept c h d legal given refl refl refl refl)
          (done_same c h d legal given refl) refl;
      owes = owes_by c h d legal given refl 0 0 (core_timeout_falls c h on given);
    }

tick_falls : (c : Config) (h : List Entry) (n : ℕ) → Given c h (did.Tick n) → named_due h (did.Tick n) h + 0 ≡ named_due h (did.Tick n) (entry (did.Tick n) ∷ h) + 0
tick_falls c h n given = grind (arith, nat_tests)

-- the moment is later
pub tick : (c : Config) (h : List Entry) (n : ℕ) → Legal c h → Given c h (did.Tick n) →
    Effect (state c h) (did.Tick n)
    (record (view (state c h)) {
      now = n;
    }) 0 0
tick c h n legal given =
    let d = did.Tick n in
    record {
      reads = reads_set (state c h) d refl
          (tasks_kept c h d legal given refl refl refl refl refl)
          (queue_still c h d refl refl refl)
          (slots_kept c h d legal given refl refl refl refl)
          (done_same c h d legal given refl) refl;
      owes = owes_by c h d legal given refl 0 0 (tick_falls c h n given);
    }
