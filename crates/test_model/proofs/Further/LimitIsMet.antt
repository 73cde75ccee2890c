-- Worked row limit is met: each entry is the one that the step gives at its front, and each refusal is the step's.
use Rattle.std.proofs.Common.{◌≡◌, ℕ, List, [], ◌∷◌, Some, None, Err, true, false, map, refl}
use Rattle.test_model.proofs.Entries.{entry, task, slot, front, Config, Unbounded, BookFull, CancelledTask, Entry, queue, state, fate_of, result_of, counts, step, Legal, waiting_line, has_fate, counters}
use Rattle.test_model.proofs.Entries.kinds
use Rattle.test_model.proofs.Entries.fate
use Rattle.test_model.proofs.Entries.policy
use Rattle.test_model.proofs.Entries.ask
use Rattle.test_model.proofs.Entries.did
use Rattle.test_model.proofs.Entries.looked
use Rattle.test_model.proofs.Entries.offered
use Rattle.test_model.proofs.Entries.seconded
use Rattle.test_model.proofs.Agree.{agrees_at_fronts, owed_at_fronts, NextHolds}

abbrev pub config : Config
config = record { core = 1; maximum = 1; queue = Unbounded; keep = 3; core_timeout = false; policy = policy.Own; record_limit = 64 }

abbrev pub row : List Entry
row =
    entry (ask.Submit kinds.Plain 0) (did.Submit (task 0) kinds.Plain 0 (looked.Reserve (slot 0)))
    ∷ entry ask.Prestart (did.Prestart None)
    ∷ entry (ask.Submit kinds.Future 0) (did.Submit (task 1) kinds.Future 0 looked.Queue)
    ∷ entry (ask.Submit kinds.Future 0) (did.Submit (task 2) kinds.Future 0 looked.Queue)
    ∷ entry (ask.Offer (task 1)) (did.Offer (task 1) offered.Queued)
    ∷ entry (ask.Offer (task 2)) (did.Offer (task 2) offered.Queued)
    ∷ entry (ask.Second (task 1)) (did.Second (task 1) seconded.Stay)
    ∷ entry (ask.Second (task 2)) (did.Second (task 2) seconded.Stay)
    ∷ entry (ask.Cancel (task 1) false) (did.Cancel (task 1) false true)
    ∷ entry (ask.Cancel (task 2) false) (did.Cancel (task 2) false true)
    ∷ entry (ask.Submit kinds.Plain 0) (did.Submit (task 3) kinds.Plain 0 looked.Queue)
    ∷ entry (ask.Submit kinds.Plain 0) (did.Submit (task 4) kinds.Plain 0 looked.Queue)
    ∷ entry (ask.Tick 1) (did.Tick 1)
    ∷ entry (ask.Tick 2) (did.Tick 2)
    ∷ entry ask.Shutdown did.Shutdown
    ∷ entry ask.Stop (did.Stop 2)
    ∷ entry ask.Stop (did.Stop 0)
    ∷ entry ask.Stop (did.Stop 0)
    ∷ entry ask.Stop (did.Stop 0)
    ∷ entry ask.Stop (did.Stop 0)
    ∷ entry ask.Stop (did.Stop 0)
    ∷ []

pub legal : Legal config (front 21 row)
legal = ((refl, tt), ((refl, tt), ((refl, tt), ((refl, tt), ((refl, tt), ((refl, tt), ((refl, tt), ((refl, tt), ((refl, tt), ((refl, tt), ((refl, tt), ((refl, tt), ((refl, tt), ((refl, tt), ((refl, tt), ((refl, tt), ((refl, tt), ((refl, tt), ((refl, tt), ((refl, tt), ((refl, refl), tt)))))))))))))))))))))

pub refused_0 : (w : ℕ) → step config (state config (front 12 row)) w (ask.Submit kinds.Plain 0) ≡ Err BookFull
refused_0 w = refl

pub refused_1 : (w : ℕ) → step config (state config (front 14 row)) w (ask.Tick 3) ≡ Err BookFull
refused_1 w = refl

pub refused_2 : (w : ℕ) → step config (state config (front 14 row)) w (ask.Tick 4) ≡ Err BookFull
refused_2 w = refl

pub refused_3 : (w : ℕ) → step config (state config (front 15 row)) w (ask.Shutdown) ≡ Err BookFull
refused_3 w = refl

pub refused_4 : (w : ℕ) → step config (state config (front 15 row)) w (ask.Shutdown) ≡ Err BookFull
refused_4 w = refl

pub back_0 : queue config (front 15 row) ≡ 1 ∷ 2 ∷ []
back_0 = refl

pub back_in_words_0 : waiting_line config (front 15 row) ≡ 1 ∷ 2 ∷ []
back_in_words_0 = refl

pub rank_last : (state config (front 21 row)).rank ≡ 2
rank_last = refl

pub fates_last : map fate_of (state config (front 21 row)).tasks ≡ None ∷ Some fate.Cancelled ∷ Some fate.Cancelled ∷ None ∷ None ∷ []
fates_last = refl

pub results_last : map result_of (state config (front 21 row)).tasks ≡ None ∷ Some (Err CancelledTask) ∷ Some (Err CancelledTask) ∷ None ∷ None ∷ []
results_last = refl

pub counts_last : counts (state config (front 21 row)) ≡ record { submitted = 5; run = 0; caller = 0; rejected = 0; discarded = 0; handedback = 0; removed = 0; cancelled = 2; completed = 0; queued = 0; live = 0; largest = 0 }
counts_last = refl

pub counters_last : counters (front 21 row) ≡ record { submitted = 5; run = 0; caller = 0; rejected = 0; discarded = 0; handedback = 0; removed = 0; cancelled = 2; completed = 0; queued = 0; live = 0; largest = 0 }
counters_last = refl

pub fates_in_words : (has_fate fate.Run (front 21 row) 0 ≡ false) × (has_fate fate.RunByCaller (front 21 row) 0 ≡ false) × (has_fate fate.Rejected (front 21 row) 0 ≡ false) × (has_fate fate.Discarded (front 21 row) 0 ≡ false) × (has_fate fate.HandedBack (front 21 row) 0 ≡ false) × (has_fate fate.Removed (front 21 row) 0 ≡ false) × (has_fate fate.Cancelled (front 21 row) 0 ≡ false) × (has_fate fate.Run (front 21 row) 1 ≡ false) × (has_fate fate.RunByCaller (front 21 row) 1 ≡ false) × (has_fate fate.Rejected (front 21 row) 1 ≡ false) × (has_fate fate.Discarded (front 21 row) 1 ≡ false) × (has_fate fate.HandedBack (front 21 row) 1 ≡ false) × (has_fate fate.Removed (front 21 row) 1 ≡ false) × (has_fate fate.Cancelled (front 21 row) 1 ≡ true) × (has_fate fate.Run (front 21 row) 2 ≡ false) × (has_fate fate.RunByCaller (front 21 row) 2 ≡ false) × (has_fate fate.Rejected (front 21 row) 2 ≡ false) × (has_fate fate.Discarded (front 21 row) 2 ≡ false) × (has_fate fate.HandedBack (front 21 row) 2 ≡ false) × (has_fate fate.Removed (front 21 row) 2 ≡ false) × (has_fate fate.Cancelled (front 21 row) 2 ≡ true) × (has_fate fate.Run (front 21 row) 3 ≡ false) × (has_fate fate.RunByCaller (front 21 row) 3 ≡ false) × (has_fate fate.Rejected (front 21 row) 3 ≡ false) × (has_fate fate.Discarded (front 21 row) 3 ≡ false) × (has_fate fate.HandedBack (front 21 row) 3 ≡ false) × (has_fate fate.Removed (front 21 row) 3 ≡ false) × (has_fate fate.Cancelled (front 21 row) 3 ≡ false) × (has_fate fate.Run (front 21 row) 4 ≡ false) × (has_fate fate.RunByCaller (front 21 row) 4 ≡ false) × (has_fate fate.Rejected (front 21 row) 4 ≡ false) × (has_fate fate.Discarded (front 21 row) 4 ≡ false) × (has_fate fate.HandedBack (front 21 row) 4 ≡ false) × (has_fate fate.Removed (front 21 row) 4 ≡ false) × (has_fate fate.Cancelled (front 21 row) 4 ≡ false)
fates_in_words = (refl, refl, refl, refl, refl, refl, refl, refl, refl, refl, refl, refl, refl, refl, refl, refl, refl, refl, refl, refl, refl, refl, refl, refl, refl, refl, refl, refl, refl, refl, refl, refl, refl, refl, refl)

pub words_agree : agrees_at_fronts config (front 21 row) ≡ true
words_agree = refl

pub next_holds : NextHolds config (front 21 row)
next_holds = (refl, refl, (refl, refl, (refl, refl, (refl, refl, (refl, refl, (refl, refl, (refl, refl, (refl, refl, (refl, refl, (refl, refl, (refl, refl, (refl, refl, (refl, refl, (refl, refl, (refl, refl, (refl, refl, (refl, refl, (refl, refl, (refl, refl, (refl, refl, (refl, refl, tt)))))))))))))))))))))

pub owed : owed_at_fronts config (front 21 row) ≡ 36 ∷ 36 ∷ 36 ∷ 36 ∷ 36 ∷ 36 ∷ 49 ∷ 50 ∷ 50 ∷ 50 ∷ 39 ∷ 28 ∷ 28 ∷ 28 ∷ 32 ∷ 36 ∷ 37 ∷ 38 ∷ 27 ∷ 16 ∷ 16 ∷ 4 ∷ []
owed = refl

pub line_last : waiting_line config (front 21 row) ≡ queue config (front 21 row)
line_last = refl
