-- Worked row 11: each entry is the one that the step gives at its front, and each refusal is the step's.
use Rattle.std.proofs.Common.{◌≡◌, List, [], ◌∷◌, Some, None, Ok, true, false, map, refl}
use Rattle.test_model.proofs.Entries.{entry, task, slot, front, Config, Handoff, Entry, queue, state, fate_of, counts, Legal, waiting_line, has_fate, counters, pos}
use Rattle.test_model.proofs.Entries.kinds
use Rattle.test_model.proofs.Entries.fate
use Rattle.test_model.proofs.Entries.policy
use Rattle.test_model.proofs.Entries.verdict
use Rattle.test_model.proofs.Entries.ask
use Rattle.test_model.proofs.Entries.did
use Rattle.test_model.proofs.Entries.looked
use Rattle.test_model.proofs.Entries.offered
use Rattle.test_model.proofs.Entries.grown
use Rattle.test_model.proofs.Entries.ruled
use Rattle.test_model.proofs.Agree.{agrees_at_fronts, owed_at_fronts, NextHolds}

abbrev pub config : Config
config = record { core = 0; maximum = 1; queue = Handoff; keep = 0; core_timeout = false; policy = policy.CallerRuns; record_limit = 4096 }

abbrev pub row : List Entry
row =
    entry (ask.Submit kinds.Plain 0) (did.Submit (task 0) kinds.Plain 0 looked.Queue)
    ∷ entry (ask.Offer (task 0)) (did.Offer (task 0) offered.Full)
    ∷ entry (ask.Grow (task 0)) (did.Grow (task 0) (grown.Reserve (slot 0)))
    ∷ entry (ask.Submit kinds.Plain 0) (did.Submit (task 1) kinds.Plain 0 looked.Queue)
    ∷ entry (ask.Offer (task 1)) (did.Offer (task 1) offered.Full)
    ∷ entry (ask.Grow (task 1)) (did.Grow (task 1) grown.Refuse)
    ∷ entry (ask.Verdict (task 1) verdict.CallerRuns) (did.Verdict (task 1) verdict.CallerRuns ruled.Caller)
    ∷ entry (ask.CallerEnd (task 1) (Ok (pos 2))) (did.CallerEnd (task 1) (Ok (pos 2)))
    ∷ entry ask.Shutdown did.Shutdown
    ∷ entry (ask.Submit kinds.Plain 0) (did.Submit (task 2) kinds.Plain 0 looked.Refuse)
    ∷ entry (ask.Verdict (task 2) verdict.CallerRuns) (did.Verdict (task 2) verdict.CallerRuns ruled.Discarded)
    ∷ []

pub legal : Legal config (front 11 row)
legal = ((refl, tt), ((refl, tt), ((refl, tt), ((refl, tt), ((refl, tt), ((refl, tt), ((refl, tt), ((refl, tt), ((refl, refl), ((refl, tt), ((refl, tt), tt)))))))))))

pub rank_last : (state config (front 11 row)).rank ≡ 1
rank_last = refl

pub fates_last : map fate_of (state config (front 11 row)).tasks ≡ None ∷ Some fate.RunByCaller ∷ Some fate.Discarded ∷ []
fates_last = refl

pub counts_last : counts (state config (front 11 row)) ≡ record { submitted = 3; run = 0; caller = 1; rejected = 0; discarded = 1; handedback = 0; removed = 0; cancelled = 0; completed = 0; queued = 0; live = 0; largest = 0 }
counts_last = refl

pub counters_last : counters (front 11 row) ≡ record { submitted = 3; run = 0; caller = 1; rejected = 0; discarded = 1; handedback = 0; removed = 0; cancelled = 0; completed = 0; queued = 0; live = 0; largest = 0 }
counters_last = refl

pub fates_in_words : (has_fate fate.Run (front 11 row) 0 ≡ false) × (has_fate fate.RunByCaller (front 11 row) 0 ≡ false) × (has_fate fate.Rejected (front 11 row) 0 ≡ false) × (has_fate fate.Discarded (front 11 row) 0 ≡ false) × (has_fate fate.HandedBack (front 11 row) 0 ≡ false) × (has_fate fate.Removed (front 11 row) 0 ≡ false) × (has_fate fate.Cancelled (front 11 row) 0 ≡ false) × (has_fate fate.Run (front 11 row) 1 ≡ false) × (has_fate fate.RunByCaller (front 11 row) 1 ≡ true) × (has_fate fate.Rejected (front 11 row) 1 ≡ false) × (has_fate fate.Discarded (front 11 row) 1 ≡ false) × (has_fate fate.HandedBack (front 11 row) 1 ≡ false) × (has_fate fate.Removed (front 11 row) 1 ≡ false) × (has_fate fate.Cancelled (front 11 row) 1 ≡ false) × (has_fate fate.Run (front 11 row) 2 ≡ false) × (has_fate fate.RunByCaller (front 11 row) 2 ≡ false) × (has_fate fate.Rejected (front 11 row) 2 ≡ false) × (has_fate fate.Discarded (front 11 row) 2 ≡ true) × (has_fate fate.HandedBack (front 11 row) 2 ≡ false) × (has_fate fate.Removed (front 11 row) 2 ≡ false) × (has_fate fate.Cancelled (front 11 row) 2 ≡ false)
fates_in_words = (refl, refl, refl, refl, refl, refl, refl, refl, refl, refl, refl, refl, refl, refl, refl, refl, refl, refl, refl, refl, refl)

pub words_agree : agrees_at_fronts config (front 11 row) ≡ true
words_agree = refl

pub next_holds : NextHolds config (front 11 row)
next_holds = (refl, refl, (refl, refl, (refl, refl, (refl, refl, (refl, refl, (refl, refl, (refl, refl, (refl, refl, (refl, refl, (refl, refl, (refl, refl, tt)))))))))))

pub owed : owed_at_fronts config (front 11 row) ≡ 11 ∷ 13 ∷ 11 ∷ 12 ∷ 13 ∷ 14 ∷ 21 ∷ 23 ∷ 12 ∷ 13 ∷ 15 ∷ 4 ∷ []
owed = refl

pub line_last : waiting_line config (front 11 row) ≡ queue config (front 11 row)
line_last = refl
