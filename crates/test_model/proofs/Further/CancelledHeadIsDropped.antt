-- Worked row cancelled head is dropped: each entry is the one that the step gives at its front, and each refusal is the step's.
use Rattle.std.proofs.Common.{◌≡◌, ℕ, List, [], ◌∷◌, Some, None, Err, true, false, map, refl}
use Rattle.test_model.proofs.Entries.{entry, task, slot, front, Config, Bounded, NotThere, CancelledTask, Entry, queue, state, fate_of, result_of, counts, step, Legal, waiting_line, has_fate, counters}
use Rattle.test_model.proofs.Entries.kinds
use Rattle.test_model.proofs.Entries.fate
use Rattle.test_model.proofs.Entries.policy
use Rattle.test_model.proofs.Entries.verdict
use Rattle.test_model.proofs.Entries.ask
use Rattle.test_model.proofs.Entries.did
use Rattle.test_model.proofs.Entries.looked
use Rattle.test_model.proofs.Entries.offered
use Rattle.test_model.proofs.Entries.seconded
use Rattle.test_model.proofs.Entries.grown
use Rattle.test_model.proofs.Entries.ruled
use Rattle.test_model.proofs.Entries.opened
use Rattle.test_model.proofs.Entries.failed
use Rattle.test_model.proofs.Agree.{agrees_at_fronts, owed_at_fronts, NextHolds}

abbrev pub config : Config
config = record { core = 1; maximum = 1; queue = Bounded 1; keep = 0; core_timeout = false; policy = policy.DiscardOldest; record_limit = 4096 }

abbrev pub row : List Entry
row =
    entry (ask.Submit kinds.Plain 0) (did.Submit (task 0) kinds.Plain 0 (looked.Reserve (slot 0)))
    ∷ entry (ask.Submit (kinds.Group 2) 0) (did.Submit (task 1) (kinds.Group 2) 0 looked.Queue)
    ∷ entry (ask.Offer (task 1)) (did.Offer (task 1) offered.Queued)
    ∷ entry (ask.Second (task 1)) (did.Second (task 1) seconded.Stay)
    ∷ entry (ask.Cancel (task 1) false) (did.Cancel (task 1) false true)
    ∷ entry (ask.Submit kinds.Plain 0) (did.Submit (task 2) kinds.Plain 0 looked.Queue)
    ∷ entry (ask.Offer (task 2)) (did.Offer (task 2) offered.Full)
    ∷ entry (ask.Grow (task 2)) (did.Grow (task 2) grown.Refuse)
    ∷ entry (ask.Verdict (task 2) verdict.DiscardOldest) (did.Verdict (task 2) verdict.DiscardOldest (ruled.RetryDrop (task 1)))
    ∷ entry (ask.Look (task 2)) (did.Look (task 2) looked.Queue)
    ∷ entry (ask.Offer (task 2)) (did.Offer (task 2) offered.Queued)
    ∷ entry (ask.Second (task 2)) (did.Second (task 2) seconded.Stay)
    ∷ entry (ask.Fail (slot 0)) (did.Fail (slot 0) (failed.Offer (task 0)))
    ∷ entry (ask.Offer (task 0)) (did.Offer (task 0) offered.Full)
    ∷ entry (ask.Grow (task 0)) (did.Grow (task 0) (grown.Reserve (slot 0)))
    ∷ entry (ask.Open (slot 0)) (did.Open (slot 0) opened.Live)
    ∷ entry (ask.TakeDone 2) (did.TakeDone 2 (task 1))
    ∷ entry (ask.Submit kinds.Plain 0) (did.Submit (task 3) kinds.Plain 0 looked.Queue)
    ∷ []

pub legal : Legal config (front 18 row)
legal = ((refl, tt), ((refl, tt), ((refl, tt), ((refl, refl), ((refl, tt), ((refl, tt), ((refl, tt), ((refl, tt), ((refl, tt), ((refl, tt), ((refl, tt), ((refl, tt), ((refl, tt), ((refl, tt), ((refl, tt), ((refl, tt), ((refl, tt), ((refl, refl), tt))))))))))))))))))

pub refused_0 : (w : ℕ) → step config (state config (front 18 row)) w (ask.Fail (slot 0)) ≡ Err NotThere
refused_0 w = refl

pub rank_last : (state config (front 18 row)).rank ≡ 0
rank_last = refl

pub fates_last : map fate_of (state config (front 18 row)).tasks ≡ None ∷ Some fate.Cancelled ∷ None ∷ None ∷ []
fates_last = refl

pub results_last : map result_of (state config (front 18 row)).tasks ≡ None ∷ Some (Err CancelledTask) ∷ None ∷ None ∷ []
results_last = refl

pub counts_last : counts (state config (front 18 row)) ≡ record { submitted = 4; run = 0; caller = 0; rejected = 0; discarded = 0; handedback = 0; removed = 0; cancelled = 1; completed = 0; queued = 1; live = 1; largest = 1 }
counts_last = refl

pub counters_last : counters (front 18 row) ≡ record { submitted = 4; run = 0; caller = 0; rejected = 0; discarded = 0; handedback = 0; removed = 0; cancelled = 1; completed = 0; queued = 1; live = 1; largest = 1 }
counters_last = refl

pub fates_in_words : (has_fate fate.Run (front 18 row) 0 ≡ false) × (has_fate fate.RunByCaller (front 18 row) 0 ≡ false) × (has_fate fate.Rejected (front 18 row) 0 ≡ false) × (has_fate fate.Discarded (front 18 row) 0 ≡ false) × (has_fate fate.HandedBack (front 18 row) 0 ≡ false) × (has_fate fate.Removed (front 18 row) 0 ≡ false) × (has_fate fate.Cancelled (front 18 row) 0 ≡ false) × (has_fate fate.Run (front 18 row) 1 ≡ false) × (has_fate fate.RunByCaller (front 18 row) 1 ≡ false) × (has_fate fate.Rejected (front 18 row) 1 ≡ false) × (has_fate fate.Discarded (front 18 row) 1 ≡ false) × (has_fate fate.HandedBack (front 18 row) 1 ≡ false) × (has_fate fate.Removed (front 18 row) 1 ≡ false) × (has_fate fate.Cancelled (front 18 row) 1 ≡ true) × (has_fate fate.Run (front 18 row) 2 ≡ false) × (has_fate fate.RunByCaller (front 18 row) 2 ≡ false) × (has_fate fate.Rejected (front 18 row) 2 ≡ false) × (has_fate fate.Discarded (front 18 row) 2 ≡ false) × (has_fate fate.HandedBack (front 18 row) 2 ≡ false) × (has_fate fate.Removed (front 18 row) 2 ≡ false) × (has_fate fate.Cancelled (front 18 row) 2 ≡ false) × (has_fate fate.Run (front 18 row) 3 ≡ false) × (has_fate fate.RunByCaller (front 18 row) 3 ≡ false) × (has_fate fate.Rejected (front 18 row) 3 ≡ false) × (has_fate fate.Discarded (front 18 row) 3 ≡ false) × (has_fate fate.HandedBack (front 18 row) 3 ≡ false) × (has_fate fate.Removed (front 18 row) 3 ≡ false) × (has_fate fate.Cancelled (front 18 row) 3 ≡ false)
fates_in_words = (refl, refl, refl, refl, refl, refl, refl, refl, refl, refl, refl, refl, refl, refl, refl, refl, refl, refl, refl, refl, refl, refl, refl, refl, refl, refl, refl, refl)

pub words_agree : agrees_at_fronts config (front 18 row) ≡ true
words_agree = refl

pub next_holds : NextHolds config (front 18 row)
next_holds = (refl, refl, (refl, refl, (refl, refl, (refl, refl, (refl, refl, (refl, refl, (refl, refl, (refl, refl, (refl, refl, (refl, refl, (refl, refl, (refl, refl, (refl, refl, (refl, refl, (refl, refl, (refl, refl, (refl, refl, (refl, refl, tt))))))))))))))))))

pub owed : owed_at_fronts config (front 18 row) ≡ 28 ∷ 17 ∷ 17 ∷ 18 ∷ 19 ∷ 21 ∷ 22 ∷ 26 ∷ 27 ∷ 29 ∷ 24 ∷ 31 ∷ 33 ∷ 22 ∷ 22 ∷ 26 ∷ 27 ∷ 16 ∷ 4 ∷ []
owed = refl

pub line_last : waiting_line config (front 18 row) ≡ queue config (front 18 row)
line_last = refl
