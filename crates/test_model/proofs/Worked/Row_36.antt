-- Worked row 36: each entry is the one that the step gives at its front, and each refusal is the step's.
use Rattle.std.proofs.Common.{◌≡◌, List, [], ◌∷◌, Some, Ok, true, false, map, refl}
use Rattle.test_model.proofs.Entries.{entry, task, slot, front, pos, Config, Priority, Entry, queue, state, fate_of, counts, Legal, waiting_line, has_fate, counters}
use Rattle.test_model.proofs.Entries.kinds
use Rattle.test_model.proofs.Entries.fate
use Rattle.test_model.proofs.Entries.policy
use Rattle.test_model.proofs.Entries.ask
use Rattle.test_model.proofs.Entries.did
use Rattle.test_model.proofs.Entries.looked
use Rattle.test_model.proofs.Entries.offered
use Rattle.test_model.proofs.Entries.seconded
use Rattle.test_model.proofs.Entries.opened
use Rattle.test_model.proofs.Entries.took
use Rattle.test_model.proofs.Entries.started
use Rattle.test_model.proofs.Agree.{agrees_at_fronts, NextHolds}

abbrev pub config : Config
config = record { core = 1; maximum = 1; queue = Priority; keep = 0; core_timeout = false; policy = policy.Abort; record_limit = 4096 }

abbrev pub row : List Entry
row =
    entry (ask.Submit kinds.Plain 0) (did.Submit (task 0) kinds.Plain 0 (looked.Reserve (slot 0)))
    ∷ entry (ask.Submit kinds.Plain 5) (did.Submit (task 1) kinds.Plain 5 looked.Queue)
    ∷ entry (ask.Offer (task 1)) (did.Offer (task 1) offered.Queued)
    ∷ entry (ask.Second (task 1)) (did.Second (task 1) seconded.Stay)
    ∷ entry (ask.Submit kinds.Plain 2) (did.Submit (task 2) kinds.Plain 2 looked.Queue)
    ∷ entry (ask.Offer (task 2)) (did.Offer (task 2) offered.Queued)
    ∷ entry (ask.Second (task 2)) (did.Second (task 2) seconded.Stay)
    ∷ entry (ask.Submit kinds.Plain 5) (did.Submit (task 3) kinds.Plain 5 looked.Queue)
    ∷ entry (ask.Offer (task 3)) (did.Offer (task 3) offered.Queued)
    ∷ entry (ask.Second (task 3)) (did.Second (task 3) seconded.Stay)
    ∷ entry (ask.Open (slot 0)) (did.Open (slot 0) opened.Live)
    ∷ entry (ask.Take (slot 0)) (did.Take (slot 0) (took.Held (task 0)))
    ∷ entry (ask.Begin (slot 0)) (did.Begin (slot 0) (started.Run (task 0)))
    ∷ entry (ask.End (slot 0) (Ok (pos 0))) (did.End (slot 0) (task 0) (Ok (pos 0)))
    ∷ entry (ask.Take (slot 0)) (did.Take (slot 0) (took.Head (task 2)))
    ∷ entry (ask.Begin (slot 0)) (did.Begin (slot 0) (started.Run (task 2)))
    ∷ entry (ask.End (slot 0) (Ok (pos 2))) (did.End (slot 0) (task 2) (Ok (pos 2)))
    ∷ entry (ask.Take (slot 0)) (did.Take (slot 0) (took.Head (task 1)))
    ∷ entry (ask.Begin (slot 0)) (did.Begin (slot 0) (started.Run (task 1)))
    ∷ entry (ask.End (slot 0) (Ok (pos 1))) (did.End (slot 0) (task 1) (Ok (pos 1)))
    ∷ entry ask.Stop (did.Stop 1)
    ∷ []

pub legal : Legal config (front 21 row)
legal = ((refl, tt), ((refl, tt), ((refl, tt), ((refl, tt), ((refl, tt), ((refl, tt), ((refl, tt), ((refl, tt), ((refl, tt), ((refl, tt), ((refl, tt), ((refl, tt), ((refl, tt), ((refl, tt), ((refl, tt), ((refl, tt), ((refl, tt), ((refl, tt), ((refl, tt), ((refl, tt), ((refl, refl), tt)))))))))))))))))))))

-- the least number leaves first, and of equal ones the earlier offer
pub line_full : queue config (front 10 row) ≡ 2 ∷ 1 ∷ 3 ∷ []
line_full = refl

pub line_full_in_words : waiting_line config (front 10 row) ≡ 2 ∷ 1 ∷ 3 ∷ []
line_full_in_words = refl

-- the task that the stop hands back
pub back_0 : queue config (front 20 row) ≡ 3 ∷ []
back_0 = refl

pub back_in_words_0 : waiting_line config (front 20 row) ≡ 3 ∷ []
back_in_words_0 = refl

pub rank_last : (state config (front 21 row)).rank ≡ 2
rank_last = refl

pub fates_last : map fate_of (state config (front 21 row)).tasks ≡ Some fate.Run ∷ Some fate.Run ∷ Some fate.Run ∷ Some fate.HandedBack ∷ []
fates_last = refl

pub counts_last : counts (state config (front 21 row)) ≡ record { submitted = 4; run = 3; caller = 0; rejected = 0; discarded = 0; handedback = 1; removed = 0; cancelled = 0; completed = 3; queued = 0; live = 1; largest = 1 }
counts_last = refl

pub counters_last : counters (front 21 row) ≡ record { submitted = 4; run = 3; caller = 0; rejected = 0; discarded = 0; handedback = 1; removed = 0; cancelled = 0; completed = 3; queued = 0; live = 1; largest = 1 }
counters_last = refl

pub fates_in_words : (has_fate fate.Run (front 21 row) 0 ≡ true) × (has_fate fate.RunByCaller (front 21 row) 0 ≡ false) × (has_fate fate.Rejected (front 21 row) 0 ≡ false) × (has_fate fate.Discarded (front 21 row) 0 ≡ false) × (has_fate fate.HandedBack (front 21 row) 0 ≡ false) × (has_fate fate.Removed (front 21 row) 0 ≡ false) × (has_fate fate.Cancelled (front 21 row) 0 ≡ false) × (has_fate fate.Run (front 21 row) 1 ≡ true) × (has_fate fate.RunByCaller (front 21 row) 1 ≡ false) × (has_fate fate.Rejected (front 21 row) 1 ≡ false) × (has_fate fate.Discarded (front 21 row) 1 ≡ false) × (has_fate fate.HandedBack (front 21 row) 1 ≡ false) × (has_fate fate.Removed (front 21 row) 1 ≡ false) × (has_fate fate.Cancelled (front 21 row) 1 ≡ false) × (has_fate fate.Run (front 21 row) 2 ≡ true) × (has_fate fate.RunByCaller (front 21 row) 2 ≡ false) × (has_fate fate.Rejected (front 21 row) 2 ≡ false) × (has_fate fate.Discarded (front 21 row) 2 ≡ false) × (has_fate fate.HandedBack (front 21 row) 2 ≡ false) × (has_fate fate.Removed (front 21 row) 2 ≡ false) × (has_fate fate.Cancelled (front 21 row) 2 ≡ false) × (has_fate fate.Run (front 21 row) 3 ≡ false) × (has_fate fate.RunByCaller (front 21 row) 3 ≡ false) × (has_fate fate.Rejected (front 21 row) 3 ≡ false) × (has_fate fate.Discarded (front 21 row) 3 ≡ false) × (has_fate fate.HandedBack (front 21 row) 3 ≡ true) × (has_fate fate.Removed (front 21 row) 3 ≡ false) × (has_fate fate.Cancelled (front 21 row) 3 ≡ false)
fates_in_words = (refl, refl, refl, refl, refl, refl, refl, refl, refl, refl, refl, refl, refl, refl, refl, refl, refl, refl, refl, refl, refl, refl, refl, refl, refl, refl, refl, refl)

pub words_agree : agrees_at_fronts config (front 21 row) ≡ true
words_agree = refl

pub next_holds : NextHolds config (front 21 row)
next_holds = (refl, refl, (refl, refl, (refl, refl, (refl, refl, (refl, refl, (refl, refl, (refl, refl, (refl, refl, (refl, refl, (refl, refl, (refl, refl, (refl, refl, (refl, refl, (refl, refl, (refl, refl, (refl, refl, (refl, refl, (refl, refl, (refl, refl, (refl, refl, (refl, refl, tt)))))))))))))))))))))

pub line_last : waiting_line config (front 21 row) ≡ queue config (front 21 row)
line_last = refl
