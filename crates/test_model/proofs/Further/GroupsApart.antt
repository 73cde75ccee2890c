-- Worked row groups apart: each entry is the one that the step gives at its front, and each refusal is the step's.
use Rattle.std.proofs.Common.{◌≡◌, ℕ, List, [], ◌∷◌, Some, Ok, Err, true, false, map, refl}
use Rattle.test_model.proofs.Entries.{entry, task, slot, front, Config, Unbounded, NotThere, CancelledTask, Entry, queue, state, fate_of, result_of, counts, step, Legal, waiting_line, has_fate, counters, pos}
use Rattle.test_model.proofs.Entries.kinds
use Rattle.test_model.proofs.Entries.fate
use Rattle.test_model.proofs.Entries.policy
use Rattle.test_model.proofs.Entries.ask
use Rattle.test_model.proofs.Entries.did
use Rattle.test_model.proofs.Entries.looked
use Rattle.test_model.proofs.Entries.offered
use Rattle.test_model.proofs.Entries.seconded
use Rattle.test_model.proofs.Entries.opened
use Rattle.test_model.proofs.Entries.took
use Rattle.test_model.proofs.Entries.started
use Rattle.test_model.proofs.Agree.{agrees_at_fronts, owed_at_fronts, NextHolds}

abbrev pub config : Config
config = record { core = 1; maximum = 1; queue = Unbounded; keep = 5; core_timeout = false; policy = policy.Abort; record_limit = 4096 }

abbrev pub row : List Entry
row =
    entry (ask.Submit (kinds.Group 1) 0) (did.Submit (task 0) (kinds.Group 1) 0 (looked.Reserve (slot 0)))
    ∷ entry (ask.Submit (kinds.Group 2) 0) (did.Submit (task 1) (kinds.Group 2) 0 looked.Queue)
    ∷ entry (ask.Offer (task 1)) (did.Offer (task 1) offered.Queued)
    ∷ entry (ask.Second (task 1)) (did.Second (task 1) seconded.Stay)
    ∷ entry (ask.Submit (kinds.Group 1) 0) (did.Submit (task 2) (kinds.Group 1) 0 looked.Queue)
    ∷ entry (ask.Offer (task 2)) (did.Offer (task 2) offered.Queued)
    ∷ entry (ask.Second (task 2)) (did.Second (task 2) seconded.Stay)
    ∷ entry (ask.Submit (kinds.Group 4) 0) (did.Submit (task 3) (kinds.Group 4) 0 looked.Queue)
    ∷ entry (ask.Offer (task 3)) (did.Offer (task 3) offered.Queued)
    ∷ entry (ask.Second (task 3)) (did.Second (task 3) seconded.Stay)
    ∷ entry (ask.Open (slot 0)) (did.Open (slot 0) opened.Live)
    ∷ entry (ask.Take (slot 0)) (did.Take (slot 0) (took.Held (task 0)))
    ∷ entry (ask.Begin (slot 0)) (did.Begin (slot 0) (started.Run (task 0)))
    ∷ entry (ask.End (slot 0) (Ok (pos 5))) (did.End (slot 0) (task 0) (Ok (pos 5)))
    ∷ entry (ask.Take (slot 0)) (did.Take (slot 0) (took.Head (task 1)))
    ∷ entry (ask.Begin (slot 0)) (did.Begin (slot 0) (started.Run (task 1)))
    ∷ entry (ask.End (slot 0) (Ok (pos 6))) (did.End (slot 0) (task 1) (Ok (pos 6)))
    ∷ entry (ask.Take (slot 0)) (did.Take (slot 0) (took.Head (task 2)))
    ∷ entry (ask.Cancel (task 2) false) (did.Cancel (task 2) false true)
    ∷ entry (ask.Begin (slot 0)) (did.Begin (slot 0) (started.Skip (task 2)))
    ∷ entry (ask.Take (slot 0)) (did.Take (slot 0) (took.Head (task 3)))
    ∷ entry (ask.Begin (slot 0)) (did.Begin (slot 0) (started.Run (task 3)))
    ∷ entry (ask.Cancel (task 3) true) (did.Cancel (task 3) true true)
    ∷ entry (ask.End (slot 0) (Ok (pos 9))) (did.End (slot 0) (task 3) (Ok (pos 9)))
    ∷ entry (ask.TakeDone 1) (did.TakeDone 1 (task 0))
    ∷ entry (ask.TakeDone 2) (did.TakeDone 2 (task 1))
    ∷ entry (ask.TakeDone 1) (did.TakeDone 1 (task 2))
    ∷ entry (ask.TakeDone 4) (did.TakeDone 4 (task 3))
    ∷ entry (ask.Cancel (task 0) true) (did.Cancel (task 0) true false)
    ∷ []

pub legal : Legal config (front 29 row)
legal = ((refl, tt), ((refl, tt), ((refl, tt), ((refl, tt), ((refl, tt), ((refl, tt), ((refl, tt), ((refl, tt), ((refl, tt), ((refl, tt), ((refl, tt), ((refl, tt), ((refl, tt), ((refl, tt), ((refl, tt), ((refl, tt), ((refl, tt), ((refl, tt), ((refl, tt), ((refl, tt), ((refl, tt), ((refl, tt), ((refl, tt), ((refl, tt), ((refl, tt), ((refl, tt), ((refl, tt), ((refl, tt), ((refl, refl), tt)))))))))))))))))))))))))))))

pub refused_0 : (w : ℕ) → step config (state config (front 27 row)) w (ask.TakeDone 1) ≡ Err NotThere
refused_0 w = refl

pub refused_1 : (w : ℕ) → step config (state config (front 27 row)) w (ask.TakeDone 3) ≡ Err NotThere
refused_1 w = refl

pub refused_2 : (w : ℕ) → step config (state config (front 28 row)) w (ask.TakeDone 4) ≡ Err NotThere
refused_2 w = refl

pub rank_last : (state config (front 29 row)).rank ≡ 0
rank_last = refl

pub fates_last : map fate_of (state config (front 29 row)).tasks ≡ Some fate.Run ∷ Some fate.Run ∷ Some fate.Cancelled ∷ Some fate.Cancelled ∷ []
fates_last = refl

pub results_last : map result_of (state config (front 29 row)).tasks ≡ Some (Ok (pos 5)) ∷ Some (Ok (pos 6)) ∷ Some (Err CancelledTask) ∷ Some (Err CancelledTask) ∷ []
results_last = refl

pub counts_last : counts (state config (front 29 row)) ≡ record { submitted = 4; run = 2; caller = 0; rejected = 0; discarded = 0; handedback = 0; removed = 0; cancelled = 2; completed = 4; queued = 0; live = 1; largest = 1 }
counts_last = refl

pub counters_last : counters (front 29 row) ≡ record { submitted = 4; run = 2; caller = 0; rejected = 0; discarded = 0; handedback = 0; removed = 0; cancelled = 2; completed = 4; queued = 0; live = 1; largest = 1 }
counters_last = refl

pub fates_in_words : (has_fate fate.Run (front 29 row) 0 ≡ true) × (has_fate fate.RunByCaller (front 29 row) 0 ≡ false) × (has_fate fate.Rejected (front 29 row) 0 ≡ false) × (has_fate fate.Discarded (front 29 row) 0 ≡ false) × (has_fate fate.HandedBack (front 29 row) 0 ≡ false) × (has_fate fate.Removed (front 29 row) 0 ≡ false) × (has_fate fate.Cancelled (front 29 row) 0 ≡ false) × (has_fate fate.Run (front 29 row) 1 ≡ true) × (has_fate fate.RunByCaller (front 29 row) 1 ≡ false) × (has_fate fate.Rejected (front 29 row) 1 ≡ false) × (has_fate fate.Discarded (front 29 row) 1 ≡ false) × (has_fate fate.HandedBack (front 29 row) 1 ≡ false) × (has_fate fate.Removed (front 29 row) 1 ≡ false) × (has_fate fate.Cancelled (front 29 row) 1 ≡ false) × (has_fate fate.Run (front 29 row) 2 ≡ false) × (has_fate fate.RunByCaller (front 29 row) 2 ≡ false) × (has_fate fate.Rejected (front 29 row) 2 ≡ false) × (has_fate fate.Discarded (front 29 row) 2 ≡ false) × (has_fate fate.HandedBack (front 29 row) 2 ≡ false) × (has_fate fate.Removed (front 29 row) 2 ≡ false) × (has_fate fate.Cancelled (front 29 row) 2 ≡ true) × (has_fate fate.Run (front 29 row) 3 ≡ false) × (has_fate fate.RunByCaller (front 29 row) 3 ≡ false) × (has_fate fate.Rejected (front 29 row) 3 ≡ false) × (has_fate fate.Discarded (front 29 row) 3 ≡ false) × (has_fate fate.HandedBack (front 29 row) 3 ≡ false) × (has_fate fate.Removed (front 29 row) 3 ≡ false) × (has_fate fate.Cancelled (front 29 row) 3 ≡ true)
fates_in_words = (refl, refl, refl, refl, refl, refl, refl, refl, refl, refl, refl, refl, refl, refl, refl, refl, refl, refl, refl, refl, refl, refl, refl, refl, refl, refl, refl, refl)

pub words_agree : agrees_at_fronts config (front 29 row) ≡ true
words_agree = refl

pub next_holds : NextHolds config (front 29 row)
next_holds = (refl, refl, (refl, refl, (refl, refl, (refl, refl, (refl, refl, (refl, refl, (refl, refl, (refl, refl, (refl, refl, (refl, refl, (refl, refl, (refl, refl, (refl, refl, (refl, refl, (refl, refl, (refl, refl, (refl, refl, (refl, refl, (refl, refl, (refl, refl, (refl, refl, (refl, refl, (refl, refl, (refl, refl, (refl, refl, (refl, refl, (refl, refl, (refl, refl, (refl, refl, tt)))))))))))))))))))))))))))))

pub owed : owed_at_fronts config (front 29 row) ≡ 6 ∷ 6 ∷ 6 ∷ 6 ∷ 6 ∷ 6 ∷ 9 ∷ 9 ∷ 10 ∷ 12 ∷ 16 ∷ 16 ∷ 18 ∷ 21 ∷ 22 ∷ 24 ∷ 27 ∷ 28 ∷ 29 ∷ 34 ∷ 38 ∷ 39 ∷ 28 ∷ 32 ∷ 33 ∷ 22 ∷ 26 ∷ 27 ∷ 16 ∷ 4 ∷ []
owed = refl

pub line_last : waiting_line config (front 29 row) ≡ queue config (front 29 row)
line_last = refl
