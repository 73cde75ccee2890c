-- Worked row late offers are drained: each entry is the one that the step gives at its front, and each refusal is the step's.
use Rattle.std.proofs.Common.{◌≡◌, List, [], ◌∷◌, Some, Err, true, false, map, refl}
use Rattle.test_model.proofs.Entries.{entry, task, slot, front, Config, Unbounded, Lost, Entry, queue, state, fate_of, result_of, counts, Legal, waiting_line, has_fate, counters}
use Rattle.test_model.proofs.Entries.kinds
use Rattle.test_model.proofs.Entries.fate
use Rattle.test_model.proofs.Entries.policy
use Rattle.test_model.proofs.Entries.verdict
use Rattle.test_model.proofs.Entries.ask
use Rattle.test_model.proofs.Entries.did
use Rattle.test_model.proofs.Entries.looked
use Rattle.test_model.proofs.Entries.offered
use Rattle.test_model.proofs.Entries.seconded
use Rattle.test_model.proofs.Entries.ruled
use Rattle.test_model.proofs.Entries.opened
use Rattle.test_model.proofs.Agree.{agrees_at_fronts, owed_at_fronts, NextHolds}

abbrev pub config : Config
config = record { core = 1; maximum = 1; queue = Unbounded; keep = 0; core_timeout = false; policy = policy.Abort; record_limit = 4096 }

abbrev pub row : List Entry
row =
    entry (ask.Submit kinds.Plain 0) (did.Submit (task 0) kinds.Plain 0 (looked.Reserve (slot 0)))
    ∷ entry (ask.Submit kinds.Plain 0) (did.Submit (task 1) kinds.Plain 0 looked.Queue)
    ∷ entry (ask.Submit kinds.Plain 0) (did.Submit (task 2) kinds.Plain 0 looked.Queue)
    ∷ entry ask.Stop (did.Stop 0)
    ∷ entry (ask.Open (slot 0)) (did.Open (slot 0) (opened.GivenUpRefuse (task 0)))
    ∷ entry ask.Tidy did.Tidy
    ∷ entry (ask.Offer (task 1)) (did.Offer (task 1) offered.Queued)
    ∷ entry ask.Stop (did.Stop 1)
    ∷ entry (ask.Second (task 1)) (did.Second (task 1) seconded.Stay)
    ∷ entry (ask.Verdict (task 0) verdict.Abort) (did.Verdict (task 0) verdict.Abort ruled.Rejected)
    ∷ entry (ask.Offer (task 2)) (did.Offer (task 2) offered.Queued)
    ∷ entry (ask.Second (task 2)) (did.Second (task 2) seconded.Back)
    ∷ entry ask.Ended did.Ended
    ∷ entry (ask.Verdict (task 2) verdict.Abort) (did.Verdict (task 2) verdict.Abort ruled.Rejected)
    ∷ []

pub legal : Legal config (front 14 row)
legal = ((refl, tt), ((refl, tt), ((refl, tt), ((refl, tt), ((refl, tt), ((refl, tt), ((refl, tt), ((refl, tt), ((refl, tt), ((refl, tt), ((refl, tt), ((refl, tt), ((refl, tt), ((refl, refl), tt))))))))))))))

pub back_0 : queue config (front 7 row) ≡ 1 ∷ []
back_0 = refl

pub back_in_words_0 : waiting_line config (front 7 row) ≡ 1 ∷ []
back_in_words_0 = refl

pub rank_last : (state config (front 14 row)).rank ≡ 4
rank_last = refl

pub fates_last : map fate_of (state config (front 14 row)).tasks ≡ Some fate.Rejected ∷ Some fate.HandedBack ∷ Some fate.Rejected ∷ []
fates_last = refl

pub results_last : map result_of (state config (front 14 row)).tasks ≡ Some (Err (Lost fate.Rejected)) ∷ Some (Err (Lost fate.HandedBack)) ∷ Some (Err (Lost fate.Rejected)) ∷ []
results_last = refl

pub counts_last : counts (state config (front 14 row)) ≡ record { submitted = 3; run = 0; caller = 0; rejected = 2; discarded = 0; handedback = 1; removed = 0; cancelled = 0; completed = 0; queued = 0; live = 0; largest = 0 }
counts_last = refl

pub counters_last : counters (front 14 row) ≡ record { submitted = 3; run = 0; caller = 0; rejected = 2; discarded = 0; handedback = 1; removed = 0; cancelled = 0; completed = 0; queued = 0; live = 0; largest = 0 }
counters_last = refl

pub fates_in_words : (has_fate fate.Run (front 14 row) 0 ≡ false) × (has_fate fate.RunByCaller (front 14 row) 0 ≡ false) × (has_fate fate.Rejected (front 14 row) 0 ≡ true) × (has_fate fate.Discarded (front 14 row) 0 ≡ false) × (has_fate fate.HandedBack (front 14 row) 0 ≡ false) × (has_fate fate.Removed (front 14 row) 0 ≡ false) × (has_fate fate.Cancelled (front 14 row) 0 ≡ false) × (has_fate fate.Run (front 14 row) 1 ≡ false) × (has_fate fate.RunByCaller (front 14 row) 1 ≡ false) × (has_fate fate.Rejected (front 14 row) 1 ≡ false) × (has_fate fate.Discarded (front 14 row) 1 ≡ false) × (has_fate fate.HandedBack (front 14 row) 1 ≡ true) × (has_fate fate.Removed (front 14 row) 1 ≡ false) × (has_fate fate.Cancelled (front 14 row) 1 ≡ false) × (has_fate fate.Run (front 14 row) 2 ≡ false) × (has_fate fate.RunByCaller (front 14 row) 2 ≡ false) × (has_fate fate.Rejected (front 14 row) 2 ≡ true) × (has_fate fate.Discarded (front 14 row) 2 ≡ false) × (has_fate fate.HandedBack (front 14 row) 2 ≡ false) × (has_fate fate.Removed (front 14 row) 2 ≡ false) × (has_fate fate.Cancelled (front 14 row) 2 ≡ false)
fates_in_words = (refl, refl, refl, refl, refl, refl, refl, refl, refl, refl, refl, refl, refl, refl, refl, refl, refl, refl, refl, refl, refl)

pub words_agree : agrees_at_fronts config (front 14 row) ≡ true
words_agree = refl

pub next_holds : NextHolds config (front 14 row)
next_holds = (refl, refl, (refl, refl, (refl, refl, (refl, refl, (refl, refl, (refl, refl, (refl, refl, (refl, refl, (refl, refl, (refl, refl, (refl, refl, (refl, refl, (refl, refl, (refl, refl, tt))))))))))))))

pub owed : owed_at_fronts config (front 14 row) ≡ 0 ∷ 2 ∷ 3 ∷ 11 ∷ 12 ∷ 14 ∷ 18 ∷ 24 ∷ 25 ∷ 26 ∷ 36 ∷ 38 ∷ 27 ∷ 16 ∷ 4 ∷ []
owed = refl

pub line_last : waiting_line config (front 14 row) ≡ queue config (front 14 row)
line_last = refl
