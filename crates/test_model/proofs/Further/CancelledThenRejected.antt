-- Worked row cancelled then rejected: each entry is the one that the step gives at its front, and each refusal is the step's.
use Rattle.std.proofs.Common.{◌≡◌, List, [], ◌∷◌, Some, None, Err, true, false, map, refl}
use Rattle.test_model.proofs.Entries.{entry, task, slot, front, Config, Handoff, CancelledTask, Lost, Entry, queue, state, fate_of, result_of, counts, Legal, waiting_line, has_fate, counters}
use Rattle.test_model.proofs.Entries.kinds
use Rattle.test_model.proofs.Entries.fate
use Rattle.test_model.proofs.Entries.policy
use Rattle.test_model.proofs.Entries.verdict
use Rattle.test_model.proofs.Entries.ask
use Rattle.test_model.proofs.Entries.did
use Rattle.test_model.proofs.Entries.looked
use Rattle.test_model.proofs.Entries.offered
use Rattle.test_model.proofs.Entries.grown
use Rattle.test_model.proofs.Entries.ruled
use Rattle.test_model.proofs.Agree.{agrees_at_fronts, owed_at_fronts, NextHolds}

abbrev pub config : Config
config = record { core = 0; maximum = 1; queue = Handoff; keep = 0; core_timeout = false; policy = policy.Own; record_limit = 4096 }

abbrev pub row : List Entry
row =
    entry (ask.Submit kinds.Plain 0) (did.Submit (task 0) kinds.Plain 0 looked.Queue)
    ∷ entry (ask.Offer (task 0)) (did.Offer (task 0) offered.Full)
    ∷ entry (ask.Grow (task 0)) (did.Grow (task 0) (grown.Reserve (slot 0)))
    ∷ entry (ask.Submit kinds.Future 0) (did.Submit (task 1) kinds.Future 0 looked.Queue)
    ∷ entry (ask.Cancel (task 1) false) (did.Cancel (task 1) false true)
    ∷ entry (ask.Offer (task 1)) (did.Offer (task 1) offered.Full)
    ∷ entry (ask.Grow (task 1)) (did.Grow (task 1) grown.Refuse)
    ∷ entry (ask.Verdict (task 1) verdict.Abort) (did.Verdict (task 1) verdict.Abort ruled.Rejected)
    ∷ entry (ask.Submit kinds.Future 0) (did.Submit (task 2) kinds.Future 0 looked.Queue)
    ∷ entry (ask.Cancel (task 2) false) (did.Cancel (task 2) false true)
    ∷ entry (ask.Offer (task 2)) (did.Offer (task 2) offered.Full)
    ∷ entry (ask.Grow (task 2)) (did.Grow (task 2) grown.Refuse)
    ∷ entry (ask.Verdict (task 2) verdict.CallerRuns) (did.Verdict (task 2) verdict.CallerRuns ruled.Skip)
    ∷ entry (ask.Submit kinds.Future 0) (did.Submit (task 3) kinds.Future 0 looked.Queue)
    ∷ entry (ask.Cancel (task 3) false) (did.Cancel (task 3) false true)
    ∷ entry (ask.Offer (task 3)) (did.Offer (task 3) offered.Full)
    ∷ entry (ask.Grow (task 3)) (did.Grow (task 3) grown.Refuse)
    ∷ entry (ask.Verdict (task 3) verdict.Discard) (did.Verdict (task 3) verdict.Discard ruled.Discarded)
    ∷ entry (ask.Submit kinds.Future 0) (did.Submit (task 4) kinds.Future 0 looked.Queue)
    ∷ entry (ask.Offer (task 4)) (did.Offer (task 4) offered.Full)
    ∷ entry (ask.Grow (task 4)) (did.Grow (task 4) grown.Refuse)
    ∷ entry ask.Shutdown did.Shutdown
    ∷ entry (ask.Verdict (task 4) verdict.CallerRuns) (did.Verdict (task 4) verdict.CallerRuns ruled.Discarded)
    ∷ []

pub legal : Legal config (front 23 row)
legal = ((refl, tt), ((refl, tt), ((refl, tt), ((refl, tt), ((refl, tt), ((refl, tt), ((refl, tt), ((refl, tt), ((refl, tt), ((refl, tt), ((refl, tt), ((refl, tt), ((refl, tt), ((refl, tt), ((refl, tt), ((refl, tt), ((refl, tt), ((refl, tt), ((refl, tt), ((refl, tt), ((refl, refl), ((refl, tt), ((refl, tt), tt)))))))))))))))))))))))

pub rank_last : (state config (front 23 row)).rank ≡ 1
rank_last = refl

pub fates_last : map fate_of (state config (front 23 row)).tasks ≡ None ∷ Some fate.Cancelled ∷ Some fate.Cancelled ∷ Some fate.Cancelled ∷ Some fate.Discarded ∷ []
fates_last = refl

pub results_last : map result_of (state config (front 23 row)).tasks ≡ None ∷ Some (Err CancelledTask) ∷ Some (Err CancelledTask) ∷ Some (Err CancelledTask) ∷ Some (Err (Lost fate.Discarded)) ∷ []
results_last = refl

pub counts_last : counts (state config (front 23 row)) ≡ record { submitted = 5; run = 0; caller = 0; rejected = 0; discarded = 1; handedback = 0; removed = 0; cancelled = 3; completed = 0; queued = 0; live = 0; largest = 0 }
counts_last = refl

pub counters_last : counters (front 23 row) ≡ record { submitted = 5; run = 0; caller = 0; rejected = 0; discarded = 1; handedback = 0; removed = 0; cancelled = 3; completed = 0; queued = 0; live = 0; largest = 0 }
counters_last = refl

pub fates_in_words : (has_fate fate.Run (front 23 row) 0 ≡ false) × (has_fate fate.RunByCaller (front 23 row) 0 ≡ false) × (has_fate fate.Rejected (front 23 row) 0 ≡ false) × (has_fate fate.Discarded (front 23 row) 0 ≡ false) × (has_fate fate.HandedBack (front 23 row) 0 ≡ false) × (has_fate fate.Removed (front 23 row) 0 ≡ false) × (has_fate fate.Cancelled (front 23 row) 0 ≡ false) × (has_fate fate.Run (front 23 row) 1 ≡ false) × (has_fate fate.RunByCaller (front 23 row) 1 ≡ false) × (has_fate fate.Rejected (front 23 row) 1 ≡ false) × (has_fate fate.Discarded (front 23 row) 1 ≡ false) × (has_fate fate.HandedBack (front 23 row) 1 ≡ false) × (has_fate fate.Removed (front 23 row) 1 ≡ false) × (has_fate fate.Cancelled (front 23 row) 1 ≡ true) × (has_fate fate.Run (front 23 row) 2 ≡ false) × (has_fate fate.RunByCaller (front 23 row) 2 ≡ false) × (has_fate fate.Rejected (front 23 row) 2 ≡ false) × (has_fate fate.Discarded (front 23 row) 2 ≡ false) × (has_fate fate.HandedBack (front 23 row) 2 ≡ false) × (has_fate fate.Removed (front 23 row) 2 ≡ false) × (has_fate fate.Cancelled (front 23 row) 2 ≡ true) × (has_fate fate.Run (front 23 row) 3 ≡ false) × (has_fate fate.RunByCaller (front 23 row) 3 ≡ false) × (has_fate fate.Rejected (front 23 row) 3 ≡ false) × (has_fate fate.Discarded (front 23 row) 3 ≡ false) × (has_fate fate.HandedBack (front 23 row) 3 ≡ false) × (has_fate fate.Removed (front 23 row) 3 ≡ false) × (has_fate fate.Cancelled (front 23 row) 3 ≡ true) × (has_fate fate.Run (front 23 row) 4 ≡ false) × (has_fate fate.RunByCaller (front 23 row) 4 ≡ false) × (has_fate fate.Rejected (front 23 row) 4 ≡ false) × (has_fate fate.Discarded (front 23 row) 4 ≡ true) × (has_fate fate.HandedBack (front 23 row) 4 ≡ false) × (has_fate fate.Removed (front 23 row) 4 ≡ false) × (has_fate fate.Cancelled (front 23 row) 4 ≡ false)
fates_in_words = (refl, refl, refl, refl, refl, refl, refl, refl, refl, refl, refl, refl, refl, refl, refl, refl, refl, refl, refl, refl, refl, refl, refl, refl, refl, refl, refl, refl, refl, refl, refl, refl, refl, refl, refl)

pub words_agree : agrees_at_fronts config (front 23 row) ≡ true
words_agree = refl

pub next_holds : NextHolds config (front 23 row)
next_holds = (refl, refl, (refl, refl, (refl, refl, (refl, refl, (refl, refl, (refl, refl, (refl, refl, (refl, refl, (refl, refl, (refl, refl, (refl, refl, (refl, refl, (refl, refl, (refl, refl, (refl, refl, (refl, refl, (refl, refl, (refl, refl, (refl, refl, (refl, refl, (refl, refl, (refl, refl, (refl, refl, tt)))))))))))))))))))))))

pub owed : owed_at_fronts config (front 23 row) ≡ 11 ∷ 13 ∷ 14 ∷ 21 ∷ 23 ∷ 12 ∷ 14 ∷ 21 ∷ 23 ∷ 23 ∷ 12 ∷ 14 ∷ 21 ∷ 23 ∷ 23 ∷ 12 ∷ 14 ∷ 21 ∷ 23 ∷ 23 ∷ 12 ∷ 13 ∷ 15 ∷ 4 ∷ []
owed = refl

pub line_last : waiting_line config (front 23 row) ≡ queue config (front 23 row)
line_last = refl
