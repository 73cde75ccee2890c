-- Worked row 12, the retry limit: each entry is the one that the step gives at its front, and each refusal is the step's.
use Rattle.std.proofs.Common.{◌≡◌, List, [], ◌∷◌, ◌++◌, Some, None, true, false, map, refl}
use Rattle.test_model.proofs.Entries.{entry, task, slot, front, repeat, Config, Handoff, Entry, queue, state, fate_of, counts, Legal, waiting_line, has_fate, counters}
use Rattle.test_model.proofs.Entries.kinds
use Rattle.test_model.proofs.Entries.fate
use Rattle.test_model.proofs.Entries.policy
use Rattle.test_model.proofs.Entries.verdict
use Rattle.test_model.proofs.Entries.ask
use Rattle.test_model.proofs.Entries.did
use Rattle.test_model.proofs.Entries.looked
use Rattle.test_model.proofs.Entries.offered
use Rattle.test_model.proofs.Entries.grown
use Rattle.test_model.proofs.Entries.ruled
use Rattle.test_model.proofs.Agree.{owed_at_fronts}

abbrev pub config : Config
config = record { core = 0; maximum = 1; queue = Handoff; keep = 0; core_timeout = false; policy = policy.DiscardOldest; record_limit = 4096 }

-- the worker of task 0 takes the only place of the pool
abbrev pub opening : List Entry
opening =
    entry (ask.Submit kinds.Plain 0) (did.Submit (task 0) kinds.Plain 0 looked.Queue)
    ∷ entry (ask.Offer (task 0)) (did.Offer (task 0) offered.Full)
    ∷ entry (ask.Grow (task 0)) (did.Grow (task 0) (grown.Reserve (slot 0)))
    ∷ entry (ask.Submit kinds.Plain 0) (did.Submit (task 1) kinds.Plain 0 looked.Queue)
    ∷ []

-- task 1 drops nothing, and is offered again
abbrev pub round : List Entry
round =
    entry (ask.Offer (task 1)) (did.Offer (task 1) offered.Full)
    ∷ entry (ask.Grow (task 1)) (did.Grow (task 1) grown.Refuse)
    ∷ entry (ask.Verdict (task 1) verdict.DiscardOldest) (did.Verdict (task 1) verdict.DiscardOldest ruled.Retry)
    ∷ entry (ask.Look (task 1)) (did.Look (task 1) looked.Queue)
    ∷ []

-- the round after which it is discarded
abbrev pub last : List Entry
last =
    entry (ask.Offer (task 1)) (did.Offer (task 1) offered.Full)
    ∷ entry (ask.Grow (task 1)) (did.Grow (task 1) grown.Refuse)
    ∷ entry (ask.Verdict (task 1) verdict.DiscardOldest) (did.Verdict (task 1) verdict.DiscardOldest ruled.Discarded)
    ∷ []

abbrev pub row : List Entry
row = opening ++ repeat 64 round ++ last

pub legal : Legal config (front 263 row)
legal = ((refl, tt), ((refl, tt), ((refl, tt), ((refl, tt), ((refl, tt), ((refl, tt), ((refl, tt), ((refl, tt), ((refl, tt), ((refl, tt), ((refl, tt), ((refl, tt), ((refl, tt), ((refl, tt), ((refl, tt), ((refl, tt), ((refl, tt), ((refl, tt), ((refl, tt), ((refl, tt), ((refl, tt), ((refl, tt), ((refl, tt), ((refl, tt), ((refl, tt), ((refl, tt), ((refl, tt), ((refl, tt), ((refl, tt), ((refl, tt), ((refl, tt), ((refl, tt), ((refl, tt), ((refl, tt), ((refl, tt), ((refl, tt), ((refl, tt), ((refl, tt), ((refl, tt), ((refl, tt), ((refl, tt), ((refl, tt), ((refl, tt), ((refl, tt), ((refl, tt), ((refl, tt), ((refl, tt), ((refl, tt), ((refl, tt), ((refl, tt), ((refl, tt), ((refl, tt), ((refl, tt), ((refl, tt), ((refl, tt), ((refl, tt), ((refl, tt), ((refl, tt), ((refl, tt), ((refl, tt), ((refl, tt), ((refl, tt), ((refl, tt), ((refl, tt), ((refl, tt), ((refl, tt), ((refl, tt), ((refl, tt), ((refl, tt), ((refl, tt), ((refl, tt), ((refl, tt), ((refl, tt), ((refl, tt), ((refl, tt), ((refl, tt), ((refl, tt), ((refl, tt), ((refl, tt), ((refl, tt), ((refl, tt), ((refl, tt), ((refl, tt), ((refl, tt), ((refl, tt), ((refl, tt), ((refl, tt), ((refl, tt), ((refl, tt), ((refl, tt), ((refl, tt), ((refl, tt), ((refl, tt), ((refl, tt), ((refl, tt), ((refl, tt), ((refl, tt), ((refl, tt), ((refl, tt), ((refl, tt), ((refl, tt), ((refl, tt), ((refl, tt), ((refl, tt), ((refl, tt), ((refl, tt), ((refl, tt), ((refl, tt), ((refl, tt), ((refl, tt), ((refl, tt), ((refl, tt), ((refl, tt), ((refl, tt), ((refl, tt), ((refl, tt), ((refl, tt), ((refl, tt), ((refl, tt), ((refl, tt), ((refl, tt), ((refl, tt), ((refl, tt), ((refl, tt), ((refl, tt), ((refl, tt), ((refl, tt), ((refl, tt), ((refl, tt), ((refl, tt), ((refl, tt), ((refl, tt), ((refl, tt), ((refl, tt), ((refl, tt), ((refl, tt), ((refl, tt), ((refl, tt), ((refl, tt), ((refl, tt), ((refl, tt), ((refl, tt), ((refl, tt), ((refl, tt), ((refl, tt), ((refl, tt), ((refl, tt), ((refl, tt), ((refl, tt), ((refl, tt), ((refl, tt), ((refl, tt), ((refl, tt), ((refl, tt), ((refl, tt), ((refl, tt), ((refl, tt), ((refl, tt), ((refl, tt), ((refl, tt), ((refl, tt), ((refl, tt), ((refl, tt), ((refl, tt), ((refl, tt), ((refl, tt), ((refl, tt), ((refl, tt), ((refl, tt), ((refl, tt), ((refl, tt), ((refl, tt), ((refl, tt), ((refl, tt), ((refl, tt), ((refl, tt), ((refl, tt), ((refl, tt), ((refl, tt), ((refl, tt), ((refl, tt), ((refl, tt), ((refl, tt), ((refl, tt), ((refl, tt), ((refl, tt), ((refl, tt), ((refl, tt), ((refl, tt), ((refl, tt), ((refl, tt), ((refl, tt), ((refl, tt), ((refl, tt), ((refl, tt), ((refl, tt), ((refl, tt), ((refl, tt), ((refl, tt), ((refl, tt), ((refl, tt), ((refl, tt), ((refl, tt), ((refl, tt), ((refl, tt), ((refl, tt), ((refl, tt), ((refl, tt), ((refl, tt), ((refl, tt), ((refl, tt), ((refl, tt), ((refl, tt), ((refl, tt), ((refl, tt), ((refl, tt), ((refl, tt), ((refl, tt), ((refl, tt), ((refl, tt), ((refl, tt), ((refl, tt), ((refl, tt), ((refl, tt), ((refl, tt), ((refl, tt), ((refl, tt), ((refl, tt), ((refl, tt), ((refl, tt), ((refl, tt), ((refl, tt), ((refl, tt), ((refl, tt), ((refl, tt), ((refl, tt), ((refl, tt), ((refl, tt), ((refl, tt), ((refl, tt), ((refl, tt), ((refl, tt), ((refl, tt), ((refl, tt), ((refl, tt), ((refl, tt), ((refl, tt), ((refl, tt), ((refl, tt), ((refl, tt), ((refl, tt), ((refl, tt), ((refl, tt), ((refl, tt), ((refl, tt), ((refl, tt), ((refl, tt), ((refl, tt), ((refl, tt), ((refl, tt), ((refl, refl), ((refl, tt), ((refl, tt), tt)))))))))))))))))))))))))))))))))))))))))))))))))))))))))))))))))))))))))))))))))))))))))))))))))))))))))))))))))))))))))))))))))))))))))))))))))))))))))))))))))))))))))))))))))))))))))))))))))))))))))))))))))))))))))))))))))))))))))))))))))))))))))))))))))))))))

pub rank_last : (state config (front 263 row)).rank ≡ 0
rank_last = refl

pub fates_last : map fate_of (state config (front 263 row)).tasks ≡ None ∷ Some fate.Discarded ∷ []
fates_last = refl

pub counts_last : counts (state config (front 263 row)) ≡ record { submitted = 2; run = 0; caller = 0; rejected = 0; discarded = 1; handedback = 0; removed = 0; cancelled = 0; completed = 0; queued = 0; live = 0; largest = 0 }
counts_last = refl

pub counters_last : counters (front 263 row) ≡ record { submitted = 2; run = 0; caller = 0; rejected = 0; discarded = 1; handedback = 0; removed = 0; cancelled = 0; completed = 0; queued = 0; live = 0; largest = 0 }
counters_last = refl

pub fates_in_words : (has_fate fate.Run (front 263 row) 0 ≡ false) × (has_fate fate.RunByCaller (front 263 row) 0 ≡ false) × (has_fate fate.Rejected (front 263 row) 0 ≡ false) × (has_fate fate.Discarded (front 263 row) 0 ≡ false) × (has_fate fate.HandedBack (front 263 row) 0 ≡ false) × (has_fate fate.Removed (front 263 row) 0 ≡ false) × (has_fate fate.Cancelled (front 263 row) 0 ≡ false) × (has_fate fate.Run (front 263 row) 1 ≡ false) × (has_fate fate.RunByCaller (front 263 row) 1 ≡ false) × (has_fate fate.Rejected (front 263 row) 1 ≡ false) × (has_fate fate.Discarded (front 263 row) 1 ≡ true) × (has_fate fate.HandedBack (front 263 row) 1 ≡ false) × (has_fate fate.Removed (front 263 row) 1 ≡ false) × (has_fate fate.Cancelled (front 263 row) 1 ≡ false)
fates_in_words = (refl, refl, refl, refl, refl, refl, refl, refl, refl, refl, refl, refl, refl, refl)

pub owed : owed_at_fronts config (front 263 row) ≡ 12 ∷ 14 ∷ 21 ∷ 23 ∷ 25 ∷ 14 ∷ 21 ∷ 23 ∷ 25 ∷ 14 ∷ 21 ∷ 23 ∷ 25 ∷ 14 ∷ 21 ∷ 23 ∷ 25 ∷ 14 ∷ 21 ∷ 23 ∷ 25 ∷ 14 ∷ 21 ∷ 23 ∷ 25 ∷ 14 ∷ 21 ∷ 23 ∷ 25 ∷ 14 ∷ 21 ∷ 23 ∷ 25 ∷ 14 ∷ 21 ∷ 23 ∷ 25 ∷ 14 ∷ 21 ∷ 23 ∷ 25 ∷ 14 ∷ 21 ∷ 23 ∷ 25 ∷ 14 ∷ 21 ∷ 23 ∷ 25 ∷ 14 ∷ 21 ∷ 23 ∷ 25 ∷ 14 ∷ 21 ∷ 23 ∷ 25 ∷ 14 ∷ 21 ∷ 23 ∷ 25 ∷ 14 ∷ 21 ∷ 23 ∷ 25 ∷ 14 ∷ 21 ∷ 23 ∷ 25 ∷ 14 ∷ 21 ∷ 23 ∷ 25 ∷ 14 ∷ 21 ∷ 23 ∷ 25 ∷ 14 ∷ 21 ∷ 23 ∷ 25 ∷ 14 ∷ 21 ∷ 23 ∷ 25 ∷ 14 ∷ 21 ∷ 23 ∷ 25 ∷ 14 ∷ 21 ∷ 23 ∷ 25 ∷ 14 ∷ 21 ∷ 23 ∷ 25 ∷ 14 ∷ 21 ∷ 23 ∷ 25 ∷ 14 ∷ 21 ∷ 23 ∷ 25 ∷ 14 ∷ 21 ∷ 23 ∷ 25 ∷ 14 ∷ 21 ∷ 23 ∷ 25 ∷ 14 ∷ 21 ∷ 23 ∷ 25 ∷ 14 ∷ 21 ∷ 23 ∷ 25 ∷ 14 ∷ 21 ∷ 23 ∷ 25 ∷ 14 ∷ 21 ∷ 23 ∷ 25 ∷ 14 ∷ 21 ∷ 23 ∷ 25 ∷ 14 ∷ 21 ∷ 23 ∷ 25 ∷ 14 ∷ 21 ∷ 23 ∷ 25 ∷ 14 ∷ 21 ∷ 23 ∷ 25 ∷ 14 ∷ 21 ∷ 23 ∷ 25 ∷ 14 ∷ 21 ∷ 23 ∷ 25 ∷ 14 ∷ 21 ∷ 23 ∷ 25 ∷ 14 ∷ 21 ∷ 23 ∷ 25 ∷ 14 ∷ 21 ∷ 23 ∷ 25 ∷ 14 ∷ 21 ∷ 23 ∷ 25 ∷ 14 ∷ 21 ∷ 23 ∷ 25 ∷ 14 ∷ 21 ∷ 23 ∷ 25 ∷ 14 ∷ 21 ∷ 23 ∷ 25 ∷ 14 ∷ 21 ∷ 23 ∷ 25 ∷ 14 ∷ 21 ∷ 23 ∷ 25 ∷ 14 ∷ 21 ∷ 23 ∷ 25 ∷ 14 ∷ 21 ∷ 23 ∷ 25 ∷ 14 ∷ 21 ∷ 23 ∷ 25 ∷ 14 ∷ 21 ∷ 23 ∷ 25 ∷ 14 ∷ 21 ∷ 23 ∷ 25 ∷ 14 ∷ 21 ∷ 23 ∷ 25 ∷ 14 ∷ 21 ∷ 23 ∷ 25 ∷ 14 ∷ 21 ∷ 23 ∷ 25 ∷ 14 ∷ 21 ∷ 23 ∷ 25 ∷ 14 ∷ 21 ∷ 23 ∷ 25 ∷ 14 ∷ 21 ∷ 23 ∷ 25 ∷ 14 ∷ 21 ∷ 23 ∷ 25 ∷ 14 ∷ 21 ∷ 23 ∷ 25 ∷ 14 ∷ 21 ∷ 23 ∷ 25 ∷ 14 ∷ 21 ∷ 23 ∷ 25 ∷ 14 ∷ 21 ∷ 23 ∷ 25 ∷ 14 ∷ 21 ∷ 23 ∷ 25 ∷ 14 ∷ 21 ∷ 23 ∷ 12 ∷ 13 ∷ 15 ∷ 4 ∷ []
owed = refl

pub line_last : waiting_line config (front 263 row) ≡ queue config (front 263 row)
line_last = refl
