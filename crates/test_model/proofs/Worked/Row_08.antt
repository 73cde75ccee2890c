-- Worked row 08: each entry is the one that the step gives at its front, and each refusal is the step's.
use Rattle.std.proofs.Common.{◌≡◌, List, [], ◌∷◌, ◌++◌, Some, true, false, map, refl}
use Rattle.test_model.proofs.Entries.{entry, task, slot, front, start, Config, Unbounded, Entry, queue, state, fate_of, counts, Legal, waiting_line, has_fate, counters}
use Rattle.test_model.proofs.Entries.fate
use Rattle.test_model.proofs.Entries.policy
use Rattle.test_model.proofs.Entries.verdict
use Rattle.test_model.proofs.Entries.ask
use Rattle.test_model.proofs.Entries.did
use Rattle.test_model.proofs.Entries.offered
use Rattle.test_model.proofs.Entries.seconded
use Rattle.test_model.proofs.Entries.ruled
use Rattle.test_model.proofs.Entries.took
use Rattle.test_model.proofs.Worked.Row_07 as begun
use Rattle.test_model.proofs.Agree.{agrees_at_fronts, owed_at_fronts, NextHolds}

abbrev pub config : Config
config = record { core = 1; maximum = 1; queue = Unbounded; keep = 0; core_timeout = false; policy = policy.Abort; record_limit = 4096 }

abbrev pub row : List Entry
row =
    start 6 begun.row
    ++ entry ask.Stop (did.Stop 0)
    ∷ entry (ask.Offer (task 1)) (did.Offer (task 1) offered.Queued)
    ∷ entry (ask.Take (slot 0)) (did.Take (slot 0) took.Leave)
    ∷ entry (ask.Second (task 1)) (did.Second (task 1) seconded.Back)
    ∷ entry (ask.Verdict (task 1) verdict.Abort) (did.Verdict (task 1) verdict.Abort ruled.Rejected)
    ∷ entry ask.Tidy did.Tidy
    ∷ entry ask.Ended did.Ended
    ∷ []

pub legal : Legal config (front 13 row)
legal = ((refl, tt), ((refl, tt), ((refl, tt), ((refl, tt), ((refl, tt), ((refl, tt), ((refl, tt), ((refl, tt), ((refl, tt), ((refl, tt), ((refl, tt), ((refl, tt), ((refl, refl), tt)))))))))))))

pub rank_last : (state config (front 13 row)).rank ≡ 4
rank_last = refl

pub fates_last : map fate_of (state config (front 13 row)).tasks ≡ Some fate.Run ∷ Some fate.Rejected ∷ []
fates_last = refl

pub counts_last : counts (state config (front 13 row)) ≡ record { submitted = 2; run = 1; caller = 0; rejected = 1; discarded = 0; handedback = 0; removed = 0; cancelled = 0; completed = 1; queued = 0; live = 0; largest = 1 }
counts_last = refl

pub counters_last : counters (front 13 row) ≡ record { submitted = 2; run = 1; caller = 0; rejected = 1; discarded = 0; handedback = 0; removed = 0; cancelled = 0; completed = 1; queued = 0; live = 0; largest = 1 }
counters_last = refl

pub fates_in_words : (has_fate fate.Run (front 13 row) 0 ≡ true) × (has_fate fate.RunByCaller (front 13 row) 0 ≡ false) × (has_fate fate.Rejected (front 13 row) 0 ≡ false) × (has_fate fate.Discarded (front 13 row) 0 ≡ false) × (has_fate fate.HandedBack (front 13 row) 0 ≡ false) × (has_fate fate.Removed (front 13 row) 0 ≡ false) × (has_fate fate.Cancelled (front 13 row) 0 ≡ false) × (has_fate fate.Run (front 13 row) 1 ≡ false) × (has_fate fate.RunByCaller (front 13 row) 1 ≡ false) × (has_fate fate.Rejected (front 13 row) 1 ≡ true) × (has_fate fate.Discarded (front 13 row) 1 ≡ false) × (has_fate fate.HandedBack (front 13 row) 1 ≡ false) × (has_fate fate.Removed (front 13 row) 1 ≡ false) × (has_fate fate.Cancelled (front 13 row) 1 ≡ false)
fates_in_words = (refl, refl, refl, refl, refl, refl, refl, refl, refl, refl, refl, refl, refl, refl)

pub words_agree : agrees_at_fronts config (front 13 row) ≡ true
words_agree = refl

pub next_holds : NextHolds config (front 13 row)
next_holds = (refl, refl, (refl, refl, (refl, refl, (refl, refl, (refl, refl, (refl, refl, (refl, refl, (refl, refl, (refl, refl, (refl, refl, (refl, refl, (refl, refl, (refl, refl, tt)))))))))))))

pub owed : owed_at_fronts config (front 13 row) ≡ 0 ∷ 1 ∷ 2 ∷ 4 ∷ 12 ∷ 13 ∷ 14 ∷ 17 ∷ 6 ∷ 9 ∷ 10 ∷ 11 ∷ 16 ∷ 4 ∷ []
owed = refl

pub line_last : waiting_line config (front 13 row) ≡ queue config (front 13 row)
line_last = refl
