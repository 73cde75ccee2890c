-- Worked row 25: each entry is the one that the step gives at its front, and each refusal is the step's.
use Rattle.std.proofs.Common.{◌≡◌, ℕ, List, [], ◌∷◌, ◌++◌, Some, None, Ok, Err, true, false, map, refl}
use Rattle.test_model.proofs.Entries.{entry, task, front, start, Config, Handoff, NotThere, Entry, queue, state, fate_of, counts, step, Legal, waiting_line, has_fate, counters, pos}
use Rattle.test_model.proofs.Entries.fate
use Rattle.test_model.proofs.Entries.policy
use Rattle.test_model.proofs.Entries.verdict
use Rattle.test_model.proofs.Entries.ask
use Rattle.test_model.proofs.Entries.did
use Rattle.test_model.proofs.Entries.ruled
use Rattle.test_model.proofs.Worked.Row_12b as begun
use Rattle.test_model.proofs.Agree.{agrees_at_fronts, owed_at_fronts, NextHolds}

abbrev pub config : Config
config = record { core = 0; maximum = 1; queue = Handoff; keep = 0; core_timeout = false; policy = policy.Own; record_limit = 4096 }

abbrev pub row : List Entry
row =
    start 10 begun.row
    ++ entry (ask.Verdict (task 1) verdict.CallerRuns) (did.Verdict (task 1) verdict.CallerRuns ruled.Caller)
    ∷ entry (ask.CallerEnd (task 1) (Ok (pos 2))) (did.CallerEnd (task 1) (Ok (pos 2)))
    ∷ []

pub legal : Legal config (front 12 row)
legal = ((refl, tt), ((refl, tt), ((refl, tt), ((refl, tt), ((refl, tt), ((refl, tt), ((refl, tt), ((refl, tt), ((refl, tt), ((refl, refl), ((refl, tt), ((refl, tt), tt))))))))))))

pub refused_0 : (w : ℕ) → step config (state config (front 12 row)) w (ask.Verdict (task 1) verdict.Abort) ≡ Err NotThere
refused_0 w = refl

pub rank_last : (state config (front 12 row)).rank ≡ 0
rank_last = refl

pub fates_last : map fate_of (state config (front 12 row)).tasks ≡ None ∷ Some fate.RunByCaller ∷ []
fates_last = refl

pub counts_last : counts (state config (front 12 row)) ≡ record { submitted = 2; run = 0; caller = 1; rejected = 0; discarded = 0; handedback = 0; removed = 0; cancelled = 0; completed = 0; queued = 0; live = 0; largest = 0 }
counts_last = refl

pub counters_last : counters (front 12 row) ≡ record { submitted = 2; run = 0; caller = 1; rejected = 0; discarded = 0; handedback = 0; removed = 0; cancelled = 0; completed = 0; queued = 0; live = 0; largest = 0 }
counters_last = refl

pub fates_in_words : (has_fate fate.Run (front 12 row) 0 ≡ false) × (has_fate fate.RunByCaller (front 12 row) 0 ≡ false) × (has_fate fate.Rejected (front 12 row) 0 ≡ false) × (has_fate fate.Discarded (front 12 row) 0 ≡ false) × (has_fate fate.HandedBack (front 12 row) 0 ≡ false) × (has_fate fate.Removed (front 12 row) 0 ≡ false) × (has_fate fate.Cancelled (front 12 row) 0 ≡ false) × (has_fate fate.Run (front 12 row) 1 ≡ false) × (has_fate fate.RunByCaller (front 12 row) 1 ≡ true) × (has_fate fate.Rejected (front 12 row) 1 ≡ false) × (has_fate fate.Discarded (front 12 row) 1 ≡ false) × (has_fate fate.HandedBack (front 12 row) 1 ≡ false) × (has_fate fate.Removed (front 12 row) 1 ≡ false) × (has_fate fate.Cancelled (front 12 row) 1 ≡ false)
fates_in_words = (refl, refl, refl, refl, refl, refl, refl, refl, refl, refl, refl, refl, refl, refl)

pub words_agree : agrees_at_fronts config (front 12 row) ≡ true
words_agree = refl

pub next_holds : NextHolds config (front 12 row)
next_holds = (refl, refl, (refl, refl, (refl, refl, (refl, refl, (refl, refl, (refl, refl, (refl, refl, (refl, refl, (refl, refl, (refl, refl, (refl, refl, (refl, refl, tt))))))))))))

pub owed : owed_at_fronts config (front 12 row) ≡ 12 ∷ 13 ∷ 14 ∷ 21 ∷ 23 ∷ 25 ∷ 14 ∷ 21 ∷ 23 ∷ 12 ∷ 13 ∷ 15 ∷ 4 ∷ []
owed = refl

pub line_last : waiting_line config (front 12 row) ≡ queue config (front 12 row)
line_last = refl
