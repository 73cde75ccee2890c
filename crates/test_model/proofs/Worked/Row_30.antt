-- Worked row 30: each entry is the one that the step gives at its front, and each refusal is the step's.
use Rattle.std.proofs.Common.{◌≡◌, ℕ, List, [], ◌∷◌, ◌++◌, Some, Ok, Err, true, false, map, refl}
use Rattle.test_model.proofs.Entries.{entry, task, slot, front, start, Config, Bounded, NotFuture, CancelledTask, Lost, Entry, queue, state, fate_of, result_of, counts, step, Legal, waiting_line, has_fate, counters, pos}
use Rattle.test_model.proofs.Entries.kinds
use Rattle.test_model.proofs.Entries.fate
use Rattle.test_model.proofs.Entries.policy
use Rattle.test_model.proofs.Entries.verdict
use Rattle.test_model.proofs.Entries.ask
use Rattle.test_model.proofs.Entries.did
use Rattle.test_model.proofs.Entries.looked
use Rattle.test_model.proofs.Entries.offered
use Rattle.test_model.proofs.Entries.grown
use Rattle.test_model.proofs.Entries.ruled
use Rattle.test_model.proofs.Entries.opened
use Rattle.test_model.proofs.Entries.took
use Rattle.test_model.proofs.Entries.started
use Rattle.test_model.proofs.Worked.Row_14 as begun
use Rattle.test_model.proofs.Agree.{agrees_at_fronts, owed_at_fronts, NextHolds}

abbrev pub config : Config
config = record { core = 1; maximum = 1; queue = Bounded 2; keep = 0; core_timeout = false; policy = policy.Abort; record_limit = 4096 }

abbrev pub row : List Entry
row =
    start 8 begun.row
    ++ entry (ask.Submit kinds.Future 0) (did.Submit (task 3) kinds.Future 0 looked.Queue)
    ∷ entry (ask.Offer (task 3)) (did.Offer (task 3) offered.Full)
    ∷ entry ask.Purge (did.Purge 1)
    ∷ entry ask.Purge (did.Purge 0)
    ∷ entry (ask.Grow (task 3)) (did.Grow (task 3) grown.Refuse)
    ∷ entry (ask.Verdict (task 3) verdict.Abort) (did.Verdict (task 3) verdict.Abort ruled.Rejected)
    ∷ entry (ask.Open (slot 0)) (did.Open (slot 0) opened.Live)
    ∷ entry (ask.Take (slot 0)) (did.Take (slot 0) (took.Held (task 0)))
    ∷ entry (ask.Begin (slot 0)) (did.Begin (slot 0) (started.Run (task 0)))
    ∷ entry (ask.End (slot 0) (Ok (pos 0))) (did.End (slot 0) (task 0) (Ok (pos 0)))
    ∷ entry (ask.Take (slot 0)) (did.Take (slot 0) (took.Head (task 2)))
    ∷ entry (ask.Begin (slot 0)) (did.Begin (slot 0) (started.Run (task 2)))
    ∷ entry (ask.Cancel (task 2) true) (did.Cancel (task 2) true true)
    ∷ entry (ask.End (slot 0) (Err 4)) (did.End (slot 0) (task 2) (Err 4))
    ∷ []

pub legal : Legal config (front 22 row)
legal = ((refl, tt), ((refl, tt), ((refl, tt), ((refl, tt), ((refl, tt), ((refl, tt), ((refl, tt), ((refl, tt), ((refl, tt), ((refl, tt), ((refl, tt), ((refl, tt), ((refl, tt), ((refl, tt), ((refl, tt), ((refl, tt), ((refl, tt), ((refl, tt), ((refl, tt), ((refl, tt), ((refl, tt), ((refl, refl), tt))))))))))))))))))))))

pub refused_0 : (w : ℕ) → step config (state config (front 14 row)) w (ask.Cancel (task 0) false) ≡ Err NotFuture
refused_0 w = refl

pub rank_last : (state config (front 22 row)).rank ≡ 0
rank_last = refl

pub fates_last : map fate_of (state config (front 22 row)).tasks ≡ Some fate.Run ∷ Some fate.Cancelled ∷ Some fate.Cancelled ∷ Some fate.Rejected ∷ []
fates_last = refl

pub results_last : map result_of (state config (front 22 row)).tasks ≡ Some (Ok (pos 0)) ∷ Some (Err CancelledTask) ∷ Some (Err CancelledTask) ∷ Some (Err (Lost fate.Rejected)) ∷ []
results_last = refl

pub counts_last : counts (state config (front 22 row)) ≡ record { submitted = 4; run = 1; caller = 0; rejected = 1; discarded = 0; handedback = 0; removed = 0; cancelled = 2; completed = 2; queued = 0; live = 1; largest = 1 }
counts_last = refl

pub counters_last : counters (front 22 row) ≡ record { submitted = 4; run = 1; caller = 0; rejected = 1; discarded = 0; handedback = 0; removed = 0; cancelled = 2; completed = 2; queued = 0; live = 1; largest = 1 }
counters_last = refl

pub fates_in_words : (has_fate fate.Run (front 22 row) 0 ≡ true) × (has_fate fate.RunByCaller (front 22 row) 0 ≡ false) × (has_fate fate.Rejected (front 22 row) 0 ≡ false) × (has_fate fate.Discarded (front 22 row) 0 ≡ false) × (has_fate fate.HandedBack (front 22 row) 0 ≡ false) × (has_fate fate.Removed (front 22 row) 0 ≡ false) × (has_fate fate.Cancelled (front 22 row) 0 ≡ false) × (has_fate fate.Run (front 22 row) 1 ≡ false) × (has_fate fate.RunByCaller (front 22 row) 1 ≡ false) × (has_fate fate.Rejected (front 22 row) 1 ≡ false) × (has_fate fate.Discarded (front 22 row) 1 ≡ false) × (has_fate fate.HandedBack (front 22 row) 1 ≡ false) × (has_fate fate.Removed (front 22 row) 1 ≡ false) × (has_fate fate.Cancelled (front 22 row) 1 ≡ true) × (has_fate fate.Run (front 22 row) 2 ≡ false) × (has_fate fate.RunByCaller (front 22 row) 2 ≡ false) × (has_fate fate.Rejected (front 22 row) 2 ≡ false) × (has_fate fate.Discarded (front 22 row) 2 ≡ false) × (has_fate fate.HandedBack (front 22 row) 2 ≡ false) × (has_fate fate.Removed (front 22 row) 2 ≡ false) × (has_fate fate.Cancelled (front 22 row) 2 ≡ true) × (has_fate fate.Run (front 22 row) 3 ≡ false) × (has_fate fate.RunByCaller (front 22 row) 3 ≡ false) × (has_fate fate.Rejected (front 22 row) 3 ≡ true) × (has_fate fate.Discarded (front 22 row) 3 ≡ false) × (has_fate fate.HandedBack (front 22 row) 3 ≡ false) × (has_fate fate.Removed (front 22 row) 3 ≡ false) × (has_fate fate.Cancelled (front 22 row) 3 ≡ false)
fates_in_words = (refl, refl, refl, refl, refl, refl, refl, refl, refl, refl, refl, refl, refl, refl, refl, refl, refl, refl, refl, refl, refl, refl, refl, refl, refl, refl, refl, refl)

pub words_agree : agrees_at_fronts config (front 22 row) ≡ true
words_agree = refl

pub next_holds : NextHolds config (front 22 row)
next_holds = (refl, refl, (refl, refl, (refl, refl, (refl, refl, (refl, refl, (refl, refl, (refl, refl, (refl, refl, (refl, refl, (refl, refl, (refl, refl, (refl, refl, (refl, refl, (refl, refl, (refl, refl, (refl, refl, (refl, refl, (refl, refl, (refl, refl, (refl, refl, (refl, refl, (refl, refl, tt))))))))))))))))))))))

pub owed : owed_at_fronts config (front 22 row) ≡ 6 ∷ 9 ∷ 9 ∷ 10 ∷ 12 ∷ 15 ∷ 16 ∷ 17 ∷ 22 ∷ 24 ∷ 31 ∷ 31 ∷ 37 ∷ 39 ∷ 28 ∷ 28 ∷ 32 ∷ 33 ∷ 22 ∷ 26 ∷ 27 ∷ 16 ∷ 4 ∷ []
owed = refl

pub line_last : waiting_line config (front 22 row) ≡ queue config (front 22 row)
line_last = refl
