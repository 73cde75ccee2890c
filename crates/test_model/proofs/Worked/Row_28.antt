-- Worked row 28: each entry is the one that the step gives at its front, and each refusal is the step's.
use Rattle.std.proofs.Common.{◌≡◌, ℕ, List, [], ◌∷◌, Some, Err, true, false, map, refl}
use Rattle.test_model.proofs.Entries.{entry, task, front, Config, Unbounded, NotThere, Entry, queue, state, fate_of, counts, step, Legal, waiting_line, has_fate, counters}
use Rattle.test_model.proofs.Entries.kinds
use Rattle.test_model.proofs.Entries.fate
use Rattle.test_model.proofs.Entries.policy
use Rattle.test_model.proofs.Entries.verdict
use Rattle.test_model.proofs.Entries.ask
use Rattle.test_model.proofs.Entries.did
use Rattle.test_model.proofs.Entries.looked
use Rattle.test_model.proofs.Entries.ruled
use Rattle.test_model.proofs.Agree.{agrees_at_fronts, owed_at_fronts, NextHolds}

abbrev pub config : Config
config = record { core = 1; maximum = 1; queue = Unbounded; keep = 0; core_timeout = false; policy = policy.Abort; record_limit = 4096 }

abbrev pub row : List Entry
row =
    entry ask.Shutdown did.Shutdown
    ∷ entry ask.Shutdown did.Shutdown
    ∷ entry ask.Tidy did.Tidy
    ∷ entry ask.Ended did.Ended
    ∷ entry (ask.Submit kinds.Plain 0) (did.Submit (task 0) kinds.Plain 0 looked.Refuse)
    ∷ entry (ask.Verdict (task 0) verdict.Abort) (did.Verdict (task 0) verdict.Abort ruled.Rejected)
    ∷ []

pub legal : Legal config (front 6 row)
legal = ((refl, tt), ((refl, tt), ((refl, tt), ((refl, tt), ((refl, tt), ((refl, tt), tt))))))

pub refused_0 : (w : ℕ) → step config (state config (front 0 row)) w (ask.Tidy) ≡ Err NotThere
refused_0 w = refl

pub refused_1 : (w : ℕ) → step config (state config (front 4 row)) w (ask.Ended) ≡ Err NotThere
refused_1 w = refl

pub rank_last : (state config (front 6 row)).rank ≡ 4
rank_last = refl

pub fates_last : map fate_of (state config (front 6 row)).tasks ≡ Some fate.Rejected ∷ []
fates_last = refl

pub counts_last : counts (state config (front 6 row)) ≡ record { submitted = 1; run = 0; caller = 0; rejected = 1; discarded = 0; handedback = 0; removed = 0; cancelled = 0; completed = 0; queued = 0; live = 0; largest = 0 }
counts_last = refl

pub counters_last : counters (front 6 row) ≡ record { submitted = 1; run = 0; caller = 0; rejected = 1; discarded = 0; handedback = 0; removed = 0; cancelled = 0; completed = 0; queued = 0; live = 0; largest = 0 }
counters_last = refl

pub fates_in_words : (has_fate fate.Run (front 6 row) 0 ≡ false) × (has_fate fate.RunByCaller (front 6 row) 0 ≡ false) × (has_fate fate.Rejected (front 6 row) 0 ≡ true) × (has_fate fate.Discarded (front 6 row) 0 ≡ false) × (has_fate fate.HandedBack (front 6 row) 0 ≡ false) × (has_fate fate.Removed (front 6 row) 0 ≡ false) × (has_fate fate.Cancelled (front 6 row) 0 ≡ false)
fates_in_words = (refl, refl, refl, refl, refl, refl, refl)

pub words_agree : agrees_at_fronts config (front 6 row) ≡ true
words_agree = refl

pub next_holds : NextHolds config (front 6 row)
next_holds = (refl, refl, (refl, refl, (refl, refl, (refl, refl, (refl, refl, (refl, refl, tt))))))

pub owed : owed_at_fronts config (front 6 row) ≡ 0 ∷ 2 ∷ 0 ∷ 1 ∷ 3 ∷ 3 ∷ 4 ∷ []
owed = refl

pub line_last : waiting_line config (front 6 row) ≡ queue config (front 6 row)
line_last = refl
