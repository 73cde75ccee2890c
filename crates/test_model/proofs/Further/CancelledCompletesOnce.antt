-- Worked row cancelled completes once: each entry is the one that the step gives at its front, and each refusal is the step's.
use Rattle.std.proofs.Common.{◌≡◌, ℕ, List, [], ◌∷◌, Some, Ok, Err, true, false, map, refl}
use Rattle.test_model.proofs.Entries.{entry, task, slot, front, Config, Unbounded, NotThere, CancelledTask, Entry, queue, state, fate_of, result_of, counts, step, Legal, waiting_line, has_fate, counters, pos}
use Rattle.test_model.proofs.Entries.kinds
use Rattle.test_model.proofs.Entries.fate
use Rattle.test_model.proofs.Entries.policy
use Rattle.test_model.proofs.Entries.ask
use Rattle.test_model.proofs.Entries.did
use Rattle.test_model.proofs.Entries.looked
use Rattle.test_model.proofs.Entries.offered
use Rattle.test_model.proofs.Entries.seconded
use Rattle.test_model.proofs.Entries.opened
use Rattle.test_model.proofs.Entries.took
use Rattle.test_model.proofs.Entries.started
use Rattle.test_model.proofs.Agree.{agrees_at_fronts, owed_at_fronts, NextHolds}

abbrev pub config : Config
config = record { core = 2; maximum = 2; queue = Unbounded; keep = 5; core_timeout = false; policy = policy.Abort; record_limit = 4096 }

abbrev pub row : List Entry
row =
    entry (ask.Submit (kinds.Group 1) 0) (did.Submit (task 0) (kinds.Group 1) 0 (looked.Reserve (slot 0)))
    ∷ entry (ask.Submit (kinds.Group 1) 0) (did.Submit (task 1) (kinds.Group 1) 0 (looked.Reserve (slot 1)))
    ∷ entry (ask.Open (slot 0)) (did.Open (slot 0) opened.Live)
    ∷ entry (ask.Open (slot 1)) (did.Open (slot 1) opened.Live)
    ∷ entry (ask.Take (slot 0)) (did.Take (slot 0) (took.Held (task 0)))
    ∷ entry (ask.Take (slot 1)) (did.Take (slot 1) (took.Held (task 1)))
    ∷ entry (ask.Begin (slot 0)) (did.Begin (slot 0) (started.Run (task 0)))
    ∷ entry (ask.Begin (slot 1)) (did.Begin (slot 1) (started.Run (task 1)))
    ∷ entry (ask.Cancel (task 0) true) (did.Cancel (task 0) true true)
    ∷ entry (ask.End (slot 1) (Ok (pos 6))) (did.End (slot 1) (task 1) (Ok (pos 6)))
    ∷ entry (ask.TakeDone 1) (did.TakeDone 1 (task 0))
    ∷ entry (ask.End (slot 0) (Ok (pos 5))) (did.End (slot 0) (task 0) (Ok (pos 5)))
    ∷ entry (ask.TakeDone 1) (did.TakeDone 1 (task 1))
    ∷ entry (ask.Submit (kinds.Group 1) 0) (did.Submit (task 2) (kinds.Group 1) 0 looked.Queue)
    ∷ entry (ask.Offer (task 2)) (did.Offer (task 2) offered.Queued)
    ∷ entry (ask.Second (task 2)) (did.Second (task 2) seconded.Stay)
    ∷ entry (ask.Take (slot 0)) (did.Take (slot 0) (took.Head (task 2)))
    ∷ entry (ask.Begin (slot 0)) (did.Begin (slot 0) (started.Run (task 2)))
    ∷ entry (ask.Submit (kinds.Group 1) 0) (did.Submit (task 3) (kinds.Group 1) 0 looked.Queue)
    ∷ entry (ask.Offer (task 3)) (did.Offer (task 3) offered.Queued)
    ∷ entry (ask.Second (task 3)) (did.Second (task 3) seconded.Stay)
    ∷ entry (ask.Take (slot 1)) (did.Take (slot 1) (took.Head (task 3)))
    ∷ entry (ask.Begin (slot 1)) (did.Begin (slot 1) (started.Run (task 3)))
    ∷ entry (ask.Cancel (task 2) false) (did.Cancel (task 2) false true)
    ∷ entry (ask.End (slot 1) (Ok (pos 8))) (did.End (slot 1) (task 3) (Ok (pos 8)))
    ∷ entry (ask.End (slot 0) (Ok (pos 7))) (did.End (slot 0) (task 2) (Ok (pos 7)))
    ∷ entry (ask.TakeDone 1) (did.TakeDone 1 (task 2))
    ∷ entry (ask.TakeDone 1) (did.TakeDone 1 (task 3))
    ∷ []

pub legal : Legal config (front 28 row)
legal = ((refl, tt), ((refl, tt), ((refl, tt), ((refl, tt), ((refl, tt), ((refl, tt), ((refl, tt), ((refl, tt), ((refl, tt), ((refl, tt), ((refl, tt), ((refl, tt), ((refl, tt), ((refl, tt), ((refl, tt), ((refl, tt), ((refl, tt), ((refl, tt), ((refl, tt), ((refl, tt), ((refl, tt), ((refl, tt), ((refl, tt), ((refl, tt), ((refl, tt), ((refl, tt), ((refl, refl), ((refl, refl), tt))))))))))))))))))))))))))))

pub refused_0 : (w : ℕ) → step config (state config (front 13 row)) w (ask.TakeDone 1) ≡ Err NotThere
refused_0 w = refl

pub refused_1 : (w : ℕ) → step config (state config (front 28 row)) w (ask.TakeDone 1) ≡ Err NotThere
refused_1 w = refl

pub rank_last : (state config (front 28 row)).rank ≡ 0
rank_last = refl

pub fates_last : map fate_of (state config (front 28 row)).tasks ≡ Some fate.Cancelled ∷ Some fate.Run ∷ Some fate.Cancelled ∷ Some fate.Run ∷ []
fates_last = refl

pub results_last : map result_of (state config (front 28 row)).tasks ≡ Some (Err CancelledTask) ∷ Some (Ok (pos 6)) ∷ Some (Err CancelledTask) ∷ Some (Ok (pos 8)) ∷ []
results_last = refl

pub counts_last : counts (state config (front 28 row)) ≡ record { submitted = 4; run = 2; caller = 0; rejected = 0; discarded = 0; handedback = 0; removed = 0; cancelled = 2; completed = 4; queued = 0; live = 2; largest = 2 }
counts_last = refl

pub counters_last : counters (front 28 row) ≡ record { submitted = 4; run = 2; caller = 0; rejected = 0; discarded = 0; handedback = 0; removed = 0; cancelled = 2; completed = 4; queued = 0; live = 2; largest = 2 }
counters_last = refl

pub fates_in_words : (has_fate fate.Run (front 28 row) 0 ≡ false) × (has_fate fate.RunByCaller (front 28 row) 0 ≡ false) × (has_fate fate.Rejected (front 28 row) 0 ≡ false) × (has_fate fate.Discarded (front 28 row) 0 ≡ false) × (has_fate fate.HandedBack (front 28 row) 0 ≡ false) × (has_fate fate.Removed (front 28 row) 0 ≡ false) × (has_fate fate.Cancelled (front 28 row) 0 ≡ true) × (has_fate fate.Run (front 28 row) 1 ≡ true) × (has_fate fate.RunByCaller (front 28 row) 1 ≡ false) × (has_fate fate.Rejected (front 28 row) 1 ≡ false) × (has_fate fate.Discarded (front 28 row) 1 ≡ false) × (has_fate fate.HandedBack (front 28 row) 1 ≡ false) × (has_fate fate.Removed (front 28 row) 1 ≡ false) × (has_fate fate.Cancelled (front 28 row) 1 ≡ false) × (has_fate fate.Run (front 28 row) 2 ≡ false) × (has_fate fate.RunByCaller (front 28 row) 2 ≡ false) × (has_fate fate.Rejected (front 28 row) 2 ≡ false) × (has_fate fate.Discarded (front 28 row) 2 ≡ false) × (has_fate fate.HandedBack (front 28 row) 2 ≡ false) × (has_fate fate.Removed (front 28 row) 2 ≡ false) × (has_fate fate.Cancelled (front 28 row) 2 ≡ true) × (has_fate fate.Run (front 28 row) 3 ≡ true) × (has_fate fate.RunByCaller (front 28 row) 3 ≡ false) × (has_fate fate.Rejected (front 28 row) 3 ≡ false) × (has_fate fate.Discarded (front 28 row) 3 ≡ false) × (has_fate fate.HandedBack (front 28 row) 3 ≡ false) × (has_fate fate.Removed (front 28 row) 3 ≡ false) × (has_fate fate.Cancelled (front 28 row) 3 ≡ false)
fates_in_words = (refl, refl, refl, refl, refl, refl, refl, refl, refl, refl, refl, refl, refl, refl, refl, refl, refl, refl, refl, refl, refl, refl, refl, refl, refl, refl, refl, refl)

pub words_agree : agrees_at_fronts config (front 28 row) ≡ true
words_agree = refl

pub next_holds : NextHolds config (front 28 row)
next_holds = (refl, refl, (refl, refl, (refl, refl, (refl, refl, (refl, refl, (refl, refl, (refl, refl, (refl, refl, (refl, refl, (refl, refl, (refl, refl, (refl, refl, (refl, refl, (refl, refl, (refl, refl, (refl, refl, (refl, refl, (refl, refl, (refl, refl, (refl, refl, (refl, refl, (refl, refl, (refl, refl, (refl, refl, (refl, refl, (refl, refl, (refl, refl, (refl, refl, tt))))))))))))))))))))))))))))

pub owed : owed_at_fronts config (front 28 row) ≡ 8 ∷ 8 ∷ 8 ∷ 11 ∷ 14 ∷ 14 ∷ 15 ∷ 17 ∷ 21 ∷ 22 ∷ 11 ∷ 12 ∷ 14 ∷ 18 ∷ 19 ∷ 8 ∷ 8 ∷ 11 ∷ 11 ∷ 14 ∷ 14 ∷ 15 ∷ 16 ∷ 17 ∷ 18 ∷ 23 ∷ 28 ∷ 16 ∷ 4 ∷ []
owed = refl

pub line_last : waiting_line config (front 28 row) ≡ queue config (front 28 row)
line_last = refl
