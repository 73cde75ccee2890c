-- Worked row 27: each entry is the one that the step gives at its front, and each refusal is the step's.
use Rattle.std.proofs.Common.{◌≡◌, ℕ, List, [], ◌∷◌, Some, None, Err, true, false, map, refl}
use Rattle.test_model.proofs.Entries.{entry, task, slot, front, Config, Unbounded, BadSizes, UnknownTask, KeepZero, Lost, Entry, queue, state, fate_of, result_of, counts, step, Legal, waiting_line, has_fate, counters}
use Rattle.test_model.proofs.Entries.kinds
use Rattle.test_model.proofs.Entries.fate
use Rattle.test_model.proofs.Entries.policy
use Rattle.test_model.proofs.Entries.ask
use Rattle.test_model.proofs.Entries.did
use Rattle.test_model.proofs.Entries.looked
use Rattle.test_model.proofs.Entries.offered
use Rattle.test_model.proofs.Entries.seconded
use Rattle.test_model.proofs.Agree.{agrees_at_fronts, owed_at_fronts, NextHolds}

abbrev pub config : Config
config = record { core = 0; maximum = 3; queue = Unbounded; keep = 0; core_timeout = false; policy = policy.Abort; record_limit = 4096 }

abbrev pub row : List Entry
row =
    entry (ask.Submit kinds.Plain 0) (did.Submit (task 0) kinds.Plain 0 looked.Queue)
    ∷ entry (ask.Offer (task 0)) (did.Offer (task 0) offered.Queued)
    ∷ entry (ask.Second (task 0)) (did.Second (task 0) (seconded.StayReserve (slot 0)))
    ∷ entry (ask.Submit kinds.Plain 0) (did.Submit (task 1) kinds.Plain 0 looked.Queue)
    ∷ entry (ask.Offer (task 1)) (did.Offer (task 1) offered.Queued)
    ∷ entry (ask.Second (task 1)) (did.Second (task 1) seconded.Stay)
    ∷ entry (ask.Core 3) (did.Core 3 2)
    ∷ entry ask.Prestart (did.Prestart (Some (slot 1)))
    ∷ entry ask.Prestart (did.Prestart (Some (slot 2)))
    ∷ entry ask.Prestart (did.Prestart None)
    ∷ entry (ask.Keep 7) (did.Keep 7)
    ∷ entry (ask.CoreTimeout true) (did.CoreTimeout true)
    ∷ entry (ask.Remove (task 1)) (did.Remove (task 1) true)
    ∷ entry (ask.Remove (task 1)) (did.Remove (task 1) false)
    ∷ []

pub legal : Legal config (front 14 row)
legal = ((refl, tt), ((refl, tt), ((refl, tt), ((refl, tt), ((refl, tt), ((refl, refl), ((refl, refl), ((refl, tt), ((refl, tt), ((refl, tt), ((refl, tt), ((refl, refl), ((refl, tt), ((refl, tt), tt))))))))))))))

pub refused_0 : (w : ℕ) → step config (state config (front 10 row)) w (ask.Core 4) ≡ Err BadSizes
refused_0 w = refl

pub refused_1 : (w : ℕ) → step config (state config (front 10 row)) w (ask.Maximum 2) ≡ Err BadSizes
refused_1 w = refl

pub refused_2 : (w : ℕ) → step config (state config (front 10 row)) w (ask.CoreTimeout true) ≡ Err KeepZero
refused_2 w = refl

pub refused_3 : (w : ℕ) → step config (state config (front 12 row)) w (ask.Keep 0) ≡ Err KeepZero
refused_3 w = refl

pub refused_4 : (w : ℕ) → step config (state config (front 14 row)) w (ask.Remove (task 9)) ≡ Err UnknownTask
refused_4 w = refl

pub rank_last : (state config (front 14 row)).rank ≡ 0
rank_last = refl

pub fates_last : map fate_of (state config (front 14 row)).tasks ≡ None ∷ Some fate.Removed ∷ []
fates_last = refl

pub results_last : map result_of (state config (front 14 row)).tasks ≡ None ∷ Some (Err (Lost fate.Removed)) ∷ []
results_last = refl

pub counts_last : counts (state config (front 14 row)) ≡ record { submitted = 2; run = 0; caller = 0; rejected = 0; discarded = 0; handedback = 0; removed = 1; cancelled = 0; completed = 0; queued = 1; live = 0; largest = 0 }
counts_last = refl

pub counters_last : counters (front 14 row) ≡ record { submitted = 2; run = 0; caller = 0; rejected = 0; discarded = 0; handedback = 0; removed = 1; cancelled = 0; completed = 0; queued = 1; live = 0; largest = 0 }
counters_last = refl

pub fates_in_words : (has_fate fate.Run (front 14 row) 0 ≡ false) × (has_fate fate.RunByCaller (front 14 row) 0 ≡ false) × (has_fate fate.Rejected (front 14 row) 0 ≡ false) × (has_fate fate.Discarded (front 14 row) 0 ≡ false) × (has_fate fate.HandedBack (front 14 row) 0 ≡ false) × (has_fate fate.Removed (front 14 row) 0 ≡ false) × (has_fate fate.Cancelled (front 14 row) 0 ≡ false) × (has_fate fate.Run (front 14 row) 1 ≡ false) × (has_fate fate.RunByCaller (front 14 row) 1 ≡ false) × (has_fate fate.Rejected (front 14 row) 1 ≡ false) × (has_fate fate.Discarded (front 14 row) 1 ≡ false) × (has_fate fate.HandedBack (front 14 row) 1 ≡ false) × (has_fate fate.Removed (front 14 row) 1 ≡ true) × (has_fate fate.Cancelled (front 14 row) 1 ≡ false)
fates_in_words = (refl, refl, refl, refl, refl, refl, refl, refl, refl, refl, refl, refl, refl, refl)

pub words_agree : agrees_at_fronts config (front 14 row) ≡ true
words_agree = refl

pub next_holds : NextHolds config (front 14 row)
next_holds = (refl, refl, (refl, refl, (refl, refl, (refl, refl, (refl, refl, (refl, refl, (refl, refl, (refl, refl, (refl, refl, (refl, refl, (refl, refl, (refl, refl, (refl, refl, (refl, refl, tt))))))))))))))

pub owed : owed_at_fronts config (front 14 row) ≡ 19 ∷ 19 ∷ 25 ∷ 25 ∷ 25 ∷ 25 ∷ 22 ∷ 19 ∷ 19 ∷ 23 ∷ 24 ∷ 13 ∷ 14 ∷ 15 ∷ 4 ∷ []
owed = refl

pub line_last : waiting_line config (front 14 row) ≡ queue config (front 14 row)
line_last = refl
