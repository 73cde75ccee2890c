-- Worked row fault of a future: each entry is the one that the step gives at its front, and each refusal is the step's.
use Rattle.std.proofs.Common.{◌≡◌, ℕ, List, [], ◌∷◌, Some, Err, true, false, map, refl}
use Rattle.test_model.proofs.Entries.{entry, task, slot, front, Config, Unbounded, NotThere, Faulted, Entry, queue, state, fate_of, result_of, counts, step, Legal, waiting_line, has_fate, counters}
use Rattle.test_model.proofs.Entries.kinds
use Rattle.test_model.proofs.Entries.fate
use Rattle.test_model.proofs.Entries.policy
use Rattle.test_model.proofs.Entries.ask
use Rattle.test_model.proofs.Entries.did
use Rattle.test_model.proofs.Entries.looked
use Rattle.test_model.proofs.Entries.offered
use Rattle.test_model.proofs.Entries.seconded
use Rattle.test_model.proofs.Entries.opened
use Rattle.test_model.proofs.Entries.took
use Rattle.test_model.proofs.Entries.started
use Rattle.test_model.proofs.Agree.{agrees_at_fronts, owed_at_fronts, NextHolds}

abbrev pub config : Config
config = record { core = 1; maximum = 1; queue = Unbounded; keep = 5; core_timeout = false; policy = policy.Abort; record_limit = 4096 }

abbrev pub row : List Entry
row =
    entry (ask.Submit kinds.Future 0) (did.Submit (task 0) kinds.Future 0 (looked.Reserve (slot 0)))
    ∷ entry (ask.Open (slot 0)) (did.Open (slot 0) opened.Live)
    ∷ entry (ask.Take (slot 0)) (did.Take (slot 0) (took.Held (task 0)))
    ∷ entry (ask.Begin (slot 0)) (did.Begin (slot 0) (started.Run (task 0)))
    ∷ entry (ask.End (slot 0) (Err 4)) (did.End (slot 0) (task 0) (Err 4))
    ∷ entry (ask.Take (slot 0)) (did.Take (slot 0) took.Idle)
    ∷ entry (ask.Submit (kinds.Group 7) 0) (did.Submit (task 1) (kinds.Group 7) 0 looked.Queue)
    ∷ entry (ask.Offer (task 1)) (did.Offer (task 1) offered.Queued)
    ∷ entry (ask.Second (task 1)) (did.Second (task 1) seconded.Stay)
    ∷ entry (ask.Take (slot 0)) (did.Take (slot 0) (took.Head (task 1)))
    ∷ entry (ask.Begin (slot 0)) (did.Begin (slot 0) (started.Run (task 1)))
    ∷ entry (ask.End (slot 0) (Err 5)) (did.End (slot 0) (task 1) (Err 5))
    ∷ entry (ask.Take (slot 0)) (did.Take (slot 0) took.Idle)
    ∷ entry (ask.TakeDone 7) (did.TakeDone 7 (task 1))
    ∷ []

pub legal : Legal config (front 14 row)
legal = ((refl, tt), ((refl, tt), ((refl, tt), ((refl, tt), ((refl, tt), ((refl, tt), ((refl, tt), ((refl, tt), ((refl, tt), ((refl, tt), ((refl, tt), ((refl, tt), ((refl, tt), ((refl, refl), tt))))))))))))))

pub refused_0 : (w : ℕ) → step config (state config (front 5 row)) w (ask.Leave (slot 0)) ≡ Err NotThere
refused_0 w = refl

pub refused_1 : (w : ℕ) → step config (state config (front 14 row)) w (ask.TakeDone 7) ≡ Err NotThere
refused_1 w = refl

pub rank_last : (state config (front 14 row)).rank ≡ 0
rank_last = refl

pub fates_last : map fate_of (state config (front 14 row)).tasks ≡ Some fate.Run ∷ Some fate.Run ∷ []
fates_last = refl

pub results_last : map result_of (state config (front 14 row)).tasks ≡ Some (Err (Faulted 4)) ∷ Some (Err (Faulted 5)) ∷ []
results_last = refl

pub counts_last : counts (state config (front 14 row)) ≡ record { submitted = 2; run = 2; caller = 0; rejected = 0; discarded = 0; handedback = 0; removed = 0; cancelled = 0; completed = 2; queued = 0; live = 1; largest = 1 }
counts_last = refl

pub counters_last : counters (front 14 row) ≡ record { submitted = 2; run = 2; caller = 0; rejected = 0; discarded = 0; handedback = 0; removed = 0; cancelled = 0; completed = 2; queued = 0; live = 1; largest = 1 }
counters_last = refl

pub fates_in_words : (has_fate fate.Run (front 14 row) 0 ≡ true) × (has_fate fate.RunByCaller (front 14 row) 0 ≡ false) × (has_fate fate.Rejected (front 14 row) 0 ≡ false) × (has_fate fate.Discarded (front 14 row) 0 ≡ false) × (has_fate fate.HandedBack (front 14 row) 0 ≡ false) × (has_fate fate.Removed (front 14 row) 0 ≡ false) × (has_fate fate.Cancelled (front 14 row) 0 ≡ false) × (has_fate fate.Run (front 14 row) 1 ≡ true) × (has_fate fate.RunByCaller (front 14 row) 1 ≡ false) × (has_fate fate.Rejected (front 14 row) 1 ≡ false) × (has_fate fate.Discarded (front 14 row) 1 ≡ false) × (has_fate fate.HandedBack (front 14 row) 1 ≡ false) × (has_fate fate.Removed (front 14 row) 1 ≡ false) × (has_fate fate.Cancelled (front 14 row) 1 ≡ false)
fates_in_words = (refl, refl, refl, refl, refl, refl, refl, refl, refl, refl, refl, refl, refl, refl)

pub words_agree : agrees_at_fronts config (front 14 row) ≡ true
words_agree = refl

pub next_holds : NextHolds config (front 14 row)
next_holds = (refl, refl, (refl, refl, (refl, refl, (refl, refl, (refl, refl, (refl, refl, (refl, refl, (refl, refl, (refl, refl, (refl, refl, (refl, refl, (refl, refl, (refl, refl, (refl, refl, tt))))))))))))))

pub owed : owed_at_fronts config (front 14 row) ≡ 5 ∷ 5 ∷ 6 ∷ 9 ∷ 10 ∷ 11 ∷ 15 ∷ 16 ∷ 5 ∷ 6 ∷ 9 ∷ 10 ∷ 11 ∷ 16 ∷ 4 ∷ []
owed = refl

pub line_last : waiting_line config (front 14 row) ≡ queue config (front 14 row)
line_last = refl
