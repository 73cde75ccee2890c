-- Worked row 14: each entry is the one that the step gives at its front, and each refusal is the step's.
use Rattle.std.proofs.Common.{◌≡◌, List, [], ◌∷◌, Some, None, Err, true, false, map, refl}
use Rattle.test_model.proofs.Entries.{entry, task, slot, front, Config, Unbounded, CancelledTask, Entry, queue, state, fate_of, result_of, counts, Legal, waiting_line, has_fate, counters}
use Rattle.test_model.proofs.Entries.kinds
use Rattle.test_model.proofs.Entries.fate
use Rattle.test_model.proofs.Entries.policy
use Rattle.test_model.proofs.Entries.ask
use Rattle.test_model.proofs.Entries.did
use Rattle.test_model.proofs.Entries.looked
use Rattle.test_model.proofs.Entries.offered
use Rattle.test_model.proofs.Entries.seconded
use Rattle.test_model.proofs.Agree.{agrees_at_fronts, owed_at_fronts, NextHolds}

abbrev pub config : Config
config = record { core = 1; maximum = 1; queue = Unbounded; keep = 0; core_timeout = false; policy = policy.Abort; record_limit = 4096 }

abbrev pub row : List Entry
row =
    entry (ask.Submit kinds.Plain 0) (did.Submit (task 0) kinds.Plain 0 (looked.Reserve (slot 0)))
    ∷ entry (ask.Submit kinds.Future 0) (did.Submit (task 1) kinds.Future 0 looked.Queue)
    ∷ entry (ask.Offer (task 1)) (did.Offer (task 1) offered.Queued)
    ∷ entry (ask.Second (task 1)) (did.Second (task 1) seconded.Stay)
    ∷ entry (ask.Submit kinds.Future 0) (did.Submit (task 2) kinds.Future 0 looked.Queue)
    ∷ entry (ask.Offer (task 2)) (did.Offer (task 2) offered.Queued)
    ∷ entry (ask.Second (task 2)) (did.Second (task 2) seconded.Stay)
    ∷ entry (ask.Cancel (task 1) false) (did.Cancel (task 1) false true)
    ∷ entry (ask.Remove (task 1)) (did.Remove (task 1) true)
    ∷ entry (ask.Cancel (task 2) false) (did.Cancel (task 2) false true)
    ∷ entry ask.Stop (did.Stop 1)
    ∷ []

pub legal : Legal config (front 11 row)
legal = ((refl, tt), ((refl, tt), ((refl, tt), ((refl, tt), ((refl, tt), ((refl, tt), ((refl, tt), ((refl, tt), ((refl, tt), ((refl, tt), ((refl, refl), tt)))))))))))

pub back_0 : queue config (front 10 row) ≡ 2 ∷ []
back_0 = refl

pub back_in_words_0 : waiting_line config (front 10 row) ≡ 2 ∷ []
back_in_words_0 = refl

pub rank_last : (state config (front 11 row)).rank ≡ 2
rank_last = refl

pub fates_last : map fate_of (state config (front 11 row)).tasks ≡ None ∷ Some fate.Cancelled ∷ Some fate.Cancelled ∷ []
fates_last = refl

pub results_last : map result_of (state config (front 11 row)).tasks ≡ None ∷ Some (Err CancelledTask) ∷ Some (Err CancelledTask) ∷ []
results_last = refl

pub counts_last : counts (state config (front 11 row)) ≡ record { submitted = 3; run = 0; caller = 0; rejected = 0; discarded = 0; handedback = 0; removed = 0; cancelled = 2; completed = 0; queued = 0; live = 0; largest = 0 }
counts_last = refl

pub counters_last : counters (front 11 row) ≡ record { submitted = 3; run = 0; caller = 0; rejected = 0; discarded = 0; handedback = 0; removed = 0; cancelled = 2; completed = 0; queued = 0; live = 0; largest = 0 }
counters_last = refl

pub fates_in_words : (has_fate fate.Run (front 11 row) 0 ≡ false) × (has_fate fate.RunByCaller (front 11 row) 0 ≡ false) × (has_fate fate.Rejected (front 11 row) 0 ≡ false) × (has_fate fate.Discarded (front 11 row) 0 ≡ false) × (has_fate fate.HandedBack (front 11 row) 0 ≡ false) × (has_fate fate.Removed (front 11 row) 0 ≡ false) × (has_fate fate.Cancelled (front 11 row) 0 ≡ false) × (has_fate fate.Run (front 11 row) 1 ≡ false) × (has_fate fate.RunByCaller (front 11 row) 1 ≡ false) × (has_fate fate.Rejected (front 11 row) 1 ≡ false) × (has_fate fate.Discarded (front 11 row) 1 ≡ false) × (has_fate fate.HandedBack (front 11 row) 1 ≡ false) × (has_fate fate.Removed (front 11 row) 1 ≡ false) × (has_fate fate.Cancelled (front 11 row) 1 ≡ true) × (has_fate fate.Run (front 11 row) 2 ≡ false) × (has_fate fate.RunByCaller (front 11 row) 2 ≡ false) × (has_fate fate.Rejected (front 11 row) 2 ≡ false) × (has_fate fate.Discarded (front 11 row) 2 ≡ false) × (has_fate fate.HandedBack (front 11 row) 2 ≡ false) × (has_fate fate.Removed (front 11 row) 2 ≡ false) × (has_fate fate.Cancelled (front 11 row) 2 ≡ true)
fates_in_words = (refl, refl, refl, refl, refl, refl, refl, refl, refl, refl, refl, refl, refl, refl, refl, refl, refl, refl, refl, refl, refl)

pub words_agree : agrees_at_fronts config (front 11 row) ≡ true
words_agree = refl

pub next_holds : NextHolds config (front 11 row)
next_holds = (refl, refl, (refl, refl, (refl, refl, (refl, refl, (refl, refl, (refl, refl, (refl, refl, (refl, refl, (refl, refl, (refl, refl, (refl, refl, tt)))))))))))

pub owed : owed_at_fronts config (front 11 row) ≡ 14 ∷ 22 ∷ 22 ∷ 28 ∷ 28 ∷ 32 ∷ 33 ∷ 22 ∷ 26 ∷ 27 ∷ 16 ∷ 4 ∷ []
owed = refl

pub line_last : waiting_line config (front 11 row) ≡ queue config (front 11 row)
line_last = refl
