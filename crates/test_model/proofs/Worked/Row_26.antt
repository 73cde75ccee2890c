-- Worked row 26: each entry is the one that the step gives at its front, and each refusal is the step's.
use Rattle.std.proofs.Common.{◌≡◌, ℕ, List, [], ◌∷◌, ◌++◌, Some, Err, true, false, map, refl}
use Rattle.test_model.proofs.Entries.{entry, task, slot, front, start, Config, Handoff, NotThere, Entry, queue, state, fate_of, counts, step, Legal, waiting_line, has_fate, counters}
use Rattle.test_model.proofs.Entries.fate
use Rattle.test_model.proofs.Entries.policy
use Rattle.test_model.proofs.Entries.verdict
use Rattle.test_model.proofs.Entries.ask
use Rattle.test_model.proofs.Entries.did
use Rattle.test_model.proofs.Entries.ruled
use Rattle.test_model.proofs.Entries.failed
use Rattle.test_model.proofs.Worked.Row_11 as begun
use Rattle.test_model.proofs.Agree.{agrees_at_fronts, owed_at_fronts, NextHolds}

abbrev pub config : Config
config = record { core = 0; maximum = 1; queue = Handoff; keep = 0; core_timeout = false; policy = policy.Discard; record_limit = 4096 }

abbrev pub row : List Entry
row =
    start 6 begun.row
    ++ entry (ask.Verdict (task 1) verdict.Discard) (did.Verdict (task 1) verdict.Discard ruled.Discarded)
    ∷ entry (ask.Fail (slot 0)) (did.Fail (slot 0) (failed.Refuse (task 0)))
    ∷ entry (ask.Verdict (task 0) verdict.Discard) (did.Verdict (task 0) verdict.Discard ruled.Discarded)
    ∷ []

pub legal : Legal config (front 9 row)
legal = ((refl, tt), ((refl, tt), ((refl, tt), ((refl, tt), ((refl, tt), ((refl, tt), ((refl, refl), ((refl, tt), ((refl, tt), tt)))))))))

pub refused_0 : (w : ℕ) → step config (state config (front 6 row)) w (ask.Verdict (task 1) verdict.Abort) ≡ Err NotThere
refused_0 w = refl

pub rank_last : (state config (front 9 row)).rank ≡ 0
rank_last = refl

pub fates_last : map fate_of (state config (front 9 row)).tasks ≡ Some fate.Discarded ∷ Some fate.Discarded ∷ []
fates_last = refl

pub counts_last : counts (state config (front 9 row)) ≡ record { submitted = 2; run = 0; caller = 0; rejected = 0; discarded = 2; handedback = 0; removed = 0; cancelled = 0; completed = 0; queued = 0; live = 0; largest = 0 }
counts_last = refl

pub counters_last : counters (front 9 row) ≡ record { submitted = 2; run = 0; caller = 0; rejected = 0; discarded = 2; handedback = 0; removed = 0; cancelled = 0; completed = 0; queued = 0; live = 0; largest = 0 }
counters_last = refl

pub fates_in_words : (has_fate fate.Run (front 9 row) 0 ≡ false) × (has_fate fate.RunByCaller (front 9 row) 0 ≡ false) × (has_fate fate.Rejected (front 9 row) 0 ≡ false) × (has_fate fate.Discarded (front 9 row) 0 ≡ true) × (has_fate fate.HandedBack (front 9 row) 0 ≡ false) × (has_fate fate.Removed (front 9 row) 0 ≡ false) × (has_fate fate.Cancelled (front 9 row) 0 ≡ false) × (has_fate fate.Run (front 9 row) 1 ≡ false) × (has_fate fate.RunByCaller (front 9 row) 1 ≡ false) × (has_fate fate.Rejected (front 9 row) 1 ≡ false) × (has_fate fate.Discarded (front 9 row) 1 ≡ true) × (has_fate fate.HandedBack (front 9 row) 1 ≡ false) × (has_fate fate.Removed (front 9 row) 1 ≡ false) × (has_fate fate.Cancelled (front 9 row) 1 ≡ false)
fates_in_words = (refl, refl, refl, refl, refl, refl, refl, refl, refl, refl, refl, refl, refl, refl)

pub words_agree : agrees_at_fronts config (front 9 row) ≡ true
words_agree = refl

pub next_holds : NextHolds config (front 9 row)
next_holds = (refl, refl, (refl, refl, (refl, refl, (refl, refl, (refl, refl, (refl, refl, (refl, refl, (refl, refl, (refl, refl, tt)))))))))

pub owed : owed_at_fronts config (front 9 row) ≡ 4 ∷ 6 ∷ 12 ∷ 14 ∷ 21 ∷ 23 ∷ 12 ∷ 13 ∷ 15 ∷ 4 ∷ []
owed = refl

pub line_last : waiting_line config (front 9 row) ≡ queue config (front 9 row)
line_last = refl
