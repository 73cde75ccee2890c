-- Worked row 04: each entry is the one that the step gives at its front, and each refusal is the step's.
use Rattle.std.proofs.Common.{◌≡◌, List, [], ◌∷◌, Some, None, true, false, map, refl}
use Rattle.test_model.proofs.Entries.{entry, task, slot, front, Config, Bounded, Entry, queue, state, fate_of, counts, Legal, waiting_line, has_fate, counters}
use Rattle.test_model.proofs.Entries.kinds
use Rattle.test_model.proofs.Entries.fate
use Rattle.test_model.proofs.Entries.policy
use Rattle.test_model.proofs.Entries.verdict
use Rattle.test_model.proofs.Entries.ask
use Rattle.test_model.proofs.Entries.did
use Rattle.test_model.proofs.Entries.looked
use Rattle.test_model.proofs.Entries.offered
use Rattle.test_model.proofs.Entries.seconded
use Rattle.test_model.proofs.Entries.grown
use Rattle.test_model.proofs.Entries.ruled
use Rattle.test_model.proofs.Agree.{agrees_at_fronts, owed_at_fronts, NextHolds}

abbrev pub config : Config
config = record { core = 1; maximum = 2; queue = Bounded 1; keep = 0; core_timeout = false; policy = policy.Abort; record_limit = 4096 }

abbrev pub row : List Entry
row =
    entry (ask.Submit kinds.Plain 0) (did.Submit (task 0) kinds.Plain 0 (looked.Reserve (slot 0)))
    ∷ entry (ask.Submit kinds.Plain 0) (did.Submit (task 1) kinds.Plain 0 looked.Queue)
    ∷ entry (ask.Offer (task 1)) (did.Offer (task 1) offered.Queued)
    ∷ entry (ask.Second (task 1)) (did.Second (task 1) seconded.Stay)
    ∷ entry (ask.Submit kinds.Plain 0) (did.Submit (task 2) kinds.Plain 0 looked.Queue)
    ∷ entry (ask.Offer (task 2)) (did.Offer (task 2) offered.Full)
    ∷ entry (ask.Grow (task 2)) (did.Grow (task 2) (grown.Reserve (slot 1)))
    ∷ entry (ask.Submit kinds.Plain 0) (did.Submit (task 3) kinds.Plain 0 looked.Queue)
    ∷ entry (ask.Offer (task 3)) (did.Offer (task 3) offered.Full)
    ∷ entry (ask.Grow (task 3)) (did.Grow (task 3) grown.Refuse)
    ∷ entry (ask.Verdict (task 3) verdict.Abort) (did.Verdict (task 3) verdict.Abort ruled.Rejected)
    ∷ []

pub legal : Legal config (front 11 row)
legal = ((refl, tt), ((refl, tt), ((refl, tt), ((refl, tt), ((refl, refl), ((refl, tt), ((refl, tt), ((refl, tt), ((refl, tt), ((refl, tt), ((refl, refl), tt)))))))))))

pub rank_last : (state config (front 11 row)).rank ≡ 0
rank_last = refl

pub fates_last : map fate_of (state config (front 11 row)).tasks ≡ None ∷ None ∷ None ∷ Some fate.Rejected ∷ []
fates_last = refl

pub counts_last : counts (state config (front 11 row)) ≡ record { submitted = 4; run = 0; caller = 0; rejected = 1; discarded = 0; handedback = 0; removed = 0; cancelled = 0; completed = 0; queued = 1; live = 0; largest = 0 }
counts_last = refl

pub counters_last : counters (front 11 row) ≡ record { submitted = 4; run = 0; caller = 0; rejected = 1; discarded = 0; handedback = 0; removed = 0; cancelled = 0; completed = 0; queued = 1; live = 0; largest = 0 }
counters_last = refl

pub fates_in_words : (has_fate fate.Run (front 11 row) 0 ≡ false) × (has_fate fate.RunByCaller (front 11 row) 0 ≡ false) × (has_fate fate.Rejected (front 11 row) 0 ≡ false) × (has_fate fate.Discarded (front 11 row) 0 ≡ false) × (has_fate fate.HandedBack (front 11 row) 0 ≡ false) × (has_fate fate.Removed (front 11 row) 0 ≡ false) × (has_fate fate.Cancelled (front 11 row) 0 ≡ false) × (has_fate fate.Run (front 11 row) 1 ≡ false) × (has_fate fate.RunByCaller (front 11 row) 1 ≡ false) × (has_fate fate.Rejected (front 11 row) 1 ≡ false) × (has_fate fate.Discarded (front 11 row) 1 ≡ false) × (has_fate fate.HandedBack (front 11 row) 1 ≡ false) × (has_fate fate.Removed (front 11 row) 1 ≡ false) × (has_fate fate.Cancelled (front 11 row) 1 ≡ false) × (has_fate fate.Run (front 11 row) 2 ≡ false) × (has_fate fate.RunByCaller (front 11 row) 2 ≡ false) × (has_fate fate.Rejected (front 11 row) 2 ≡ false) × (has_fate fate.Discarded (front 11 row) 2 ≡ false) × (has_fate fate.HandedBack (front 11 row) 2 ≡ false) × (has_fate fate.Removed (front 11 row) 2 ≡ false) × (has_fate fate.Cancelled (front 11 row) 2 ≡ false) × (has_fate fate.Run (front 11 row) 3 ≡ false) × (has_fate fate.RunByCaller (front 11 row) 3 ≡ false) × (has_fate fate.Rejected (front 11 row) 3 ≡ true) × (has_fate fate.Discarded (front 11 row) 3 ≡ false) × (has_fate fate.HandedBack (front 11 row) 3 ≡ false) × (has_fate fate.Removed (front 11 row) 3 ≡ false) × (has_fate fate.Cancelled (front 11 row) 3 ≡ false)
fates_in_words = (refl, refl, refl, refl, refl, refl, refl, refl, refl, refl, refl, refl, refl, refl, refl, refl, refl, refl, refl, refl, refl, refl, refl, refl, refl, refl, refl, refl)

pub words_agree : agrees_at_fronts config (front 11 row) ≡ true
words_agree = refl

pub next_holds : NextHolds config (front 11 row)
next_holds = (refl, refl, (refl, refl, (refl, refl, (refl, refl, (refl, refl, (refl, refl, (refl, refl, (refl, refl, (refl, refl, (refl, refl, (refl, refl, tt)))))))))))

pub owed : owed_at_fronts config (front 11 row) ≡ 30 ∷ 32 ∷ 39 ∷ 41 ∷ 30 ∷ 31 ∷ 33 ∷ 22 ∷ 26 ∷ 27 ∷ 16 ∷ 4 ∷ []
owed = refl

pub line_last : waiting_line config (front 11 row) ≡ queue config (front 11 row)
line_last = refl
