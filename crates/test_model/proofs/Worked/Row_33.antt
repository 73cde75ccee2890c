-- Worked row 33: each entry is the one that the step gives at its front, and each refusal is the step's.
use Rattle.std.proofs.Common.{◌≡◌, List, [], ◌∷◌, Some, None, Ok, true, false, map, refl}
use Rattle.test_model.proofs.Entries.{entry, task, slot, front, Config, Bounded, Entry, queue, state, fate_of, counts, Legal, waiting_line, has_fate, counters, pos}
use Rattle.test_model.proofs.Entries.kinds
use Rattle.test_model.proofs.Entries.fate
use Rattle.test_model.proofs.Entries.policy
use Rattle.test_model.proofs.Entries.ask
use Rattle.test_model.proofs.Entries.did
use Rattle.test_model.proofs.Entries.looked
use Rattle.test_model.proofs.Entries.offered
use Rattle.test_model.proofs.Entries.opened
use Rattle.test_model.proofs.Entries.took
use Rattle.test_model.proofs.Entries.started
use Rattle.test_model.proofs.Agree.{agrees_at_fronts, owed_at_fronts, NextHolds}

abbrev pub config : Config
config = record { core = 1; maximum = 1; queue = Bounded 3; keep = 0; core_timeout = false; policy = policy.Abort; record_limit = 4096 }

abbrev pub row : List Entry
row =
    entry (ask.Submit kinds.Plain 0) (did.Submit (task 0) kinds.Plain 0 (looked.Reserve (slot 0)))
    ∷ entry (ask.Submit kinds.Plain 0) (did.Submit (task 1) kinds.Plain 0 looked.Queue)
    ∷ entry (ask.Offer (task 1)) (did.Offer (task 1) offered.Queued)
    ∷ entry (ask.Submit kinds.Plain 0) (did.Submit (task 2) kinds.Plain 0 looked.Queue)
    ∷ entry (ask.Offer (task 2)) (did.Offer (task 2) offered.Queued)
    ∷ entry (ask.Submit kinds.Plain 0) (did.Submit (task 3) kinds.Plain 0 looked.Queue)
    ∷ entry (ask.Offer (task 3)) (did.Offer (task 3) offered.Queued)
    ∷ entry (ask.Submit kinds.Plain 0) (did.Submit (task 4) kinds.Plain 0 looked.Queue)
    ∷ entry (ask.Remove (task 2)) (did.Remove (task 2) true)
    ∷ entry (ask.Offer (task 4)) (did.Offer (task 4) offered.Queued)
    ∷ entry (ask.Open (slot 0)) (did.Open (slot 0) opened.Live)
    ∷ entry (ask.Take (slot 0)) (did.Take (slot 0) (took.Held (task 0)))
    ∷ entry (ask.Begin (slot 0)) (did.Begin (slot 0) (started.Run (task 0)))
    ∷ entry (ask.End (slot 0) (Ok (pos 0))) (did.End (slot 0) (task 0) (Ok (pos 0)))
    ∷ entry (ask.Take (slot 0)) (did.Take (slot 0) (took.Head (task 1)))
    ∷ []

pub legal : Legal config (front 15 row)
legal = ((refl, tt), ((refl, tt), ((refl, tt), ((refl, tt), ((refl, tt), ((refl, tt), ((refl, tt), ((refl, tt), ((refl, tt), ((refl, tt), ((refl, tt), ((refl, tt), ((refl, tt), ((refl, tt), ((refl, refl), tt)))))))))))))))

pub rank_last : (state config (front 15 row)).rank ≡ 0
rank_last = refl

pub fates_last : map fate_of (state config (front 15 row)).tasks ≡ Some fate.Run ∷ None ∷ Some fate.Removed ∷ None ∷ None ∷ []
fates_last = refl

pub counts_last : counts (state config (front 15 row)) ≡ record { submitted = 5; run = 1; caller = 0; rejected = 0; discarded = 0; handedback = 0; removed = 1; cancelled = 0; completed = 1; queued = 2; live = 1; largest = 1 }
counts_last = refl

pub counters_last : counters (front 15 row) ≡ record { submitted = 5; run = 1; caller = 0; rejected = 0; discarded = 0; handedback = 0; removed = 1; cancelled = 0; completed = 1; queued = 2; live = 1; largest = 1 }
counters_last = refl

pub fates_in_words : (has_fate fate.Run (front 15 row) 0 ≡ true) × (has_fate fate.RunByCaller (front 15 row) 0 ≡ false) × (has_fate fate.Rejected (front 15 row) 0 ≡ false) × (has_fate fate.Discarded (front 15 row) 0 ≡ false) × (has_fate fate.HandedBack (front 15 row) 0 ≡ false) × (has_fate fate.Removed (front 15 row) 0 ≡ false) × (has_fate fate.Cancelled (front 15 row) 0 ≡ false) × (has_fate fate.Run (front 15 row) 1 ≡ false) × (has_fate fate.RunByCaller (front 15 row) 1 ≡ false) × (has_fate fate.Rejected (front 15 row) 1 ≡ false) × (has_fate fate.Discarded (front 15 row) 1 ≡ false) × (has_fate fate.HandedBack (front 15 row) 1 ≡ false) × (has_fate fate.Removed (front 15 row) 1 ≡ false) × (has_fate fate.Cancelled (front 15 row) 1 ≡ false) × (has_fate fate.Run (front 15 row) 2 ≡ false) × (has_fate fate.RunByCaller (front 15 row) 2 ≡ false) × (has_fate fate.Rejected (front 15 row) 2 ≡ false) × (has_fate fate.Discarded (front 15 row) 2 ≡ false) × (has_fate fate.HandedBack (front 15 row) 2 ≡ false) × (has_fate fate.Removed (front 15 row) 2 ≡ true) × (has_fate fate.Cancelled (front 15 row) 2 ≡ false) × (has_fate fate.Run (front 15 row) 3 ≡ false) × (has_fate fate.RunByCaller (front 15 row) 3 ≡ false) × (has_fate fate.Rejected (front 15 row) 3 ≡ false) × (has_fate fate.Discarded (front 15 row) 3 ≡ false) × (has_fate fate.HandedBack (front 15 row) 3 ≡ false) × (has_fate fate.Removed (front 15 row) 3 ≡ false) × (has_fate fate.Cancelled (front 15 row) 3 ≡ false) × (has_fate fate.Run (front 15 row) 4 ≡ false) × (has_fate fate.RunByCaller (front 15 row) 4 ≡ false) × (has_fate fate.Rejected (front 15 row) 4 ≡ false) × (has_fate fate.Discarded (front 15 row) 4 ≡ false) × (has_fate fate.HandedBack (front 15 row) 4 ≡ false) × (has_fate fate.Removed (front 15 row) 4 ≡ false) × (has_fate fate.Cancelled (front 15 row) 4 ≡ false)
fates_in_words = (refl, refl, refl, refl, refl, refl, refl, refl, refl, refl, refl, refl, refl, refl, refl, refl, refl, refl, refl, refl, refl, refl, refl, refl, refl, refl, refl, refl, refl, refl, refl, refl, refl, refl, refl)

pub words_agree : agrees_at_fronts config (front 15 row) ≡ true
words_agree = refl

pub next_holds : NextHolds config (front 15 row)
next_holds = (refl, refl, (refl, refl, (refl, refl, (refl, refl, (refl, refl, (refl, refl, (refl, refl, (refl, refl, (refl, refl, (refl, refl, (refl, refl, (refl, refl, (refl, refl, (refl, refl, (refl, refl, tt)))))))))))))))

pub owed : owed_at_fronts config (front 15 row) ≡ 38 ∷ 40 ∷ 43 ∷ 44 ∷ 45 ∷ 50 ∷ 51 ∷ 57 ∷ 46 ∷ 47 ∷ 36 ∷ 37 ∷ 26 ∷ 27 ∷ 16 ∷ 4 ∷ []
owed = refl

pub line_last : waiting_line config (front 15 row) ≡ queue config (front 15 row)
line_last = refl
