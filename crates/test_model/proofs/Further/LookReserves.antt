-- Worked row look reserves: each entry is the one that the step gives at its front, and each refusal is the step's.
use Rattle.std.proofs.Common.{◌≡◌, ℕ, List, [], ◌∷◌, Some, Err, true, false, map, refl}
use Rattle.test_model.proofs.Entries.{entry, task, slot, front, Config, Handoff, NotThere, Entry, queue, state, fate_of, counts, step, Legal, waiting_line, has_fate, counters}
use Rattle.test_model.proofs.Entries.kinds
use Rattle.test_model.proofs.Entries.fate
use Rattle.test_model.proofs.Entries.policy
use Rattle.test_model.proofs.Entries.verdict
use Rattle.test_model.proofs.Entries.ask
use Rattle.test_model.proofs.Entries.did
use Rattle.test_model.proofs.Entries.looked
use Rattle.test_model.proofs.Entries.offered
use Rattle.test_model.proofs.Entries.grown
use Rattle.test_model.proofs.Entries.ruled
use Rattle.test_model.proofs.Entries.opened
use Rattle.test_model.proofs.Entries.failed
use Rattle.test_model.proofs.Agree.{agrees_at_fronts, owed_at_fronts, NextHolds}

abbrev pub config : Config
config = record { core = 1; maximum = 1; queue = Handoff; keep = 0; core_timeout = false; policy = policy.DiscardOldest; record_limit = 4096 }

abbrev pub row : List Entry
row =
    entry (ask.Submit kinds.Plain 0) (did.Submit (task 0) kinds.Plain 0 (looked.Reserve (slot 0)))
    ∷ entry (ask.Submit kinds.Plain 0) (did.Submit (task 1) kinds.Plain 0 looked.Queue)
    ∷ entry (ask.Offer (task 1)) (did.Offer (task 1) offered.Full)
    ∷ entry (ask.Grow (task 1)) (did.Grow (task 1) grown.Refuse)
    ∷ entry (ask.Fail (slot 0)) (did.Fail (slot 0) (failed.Offer (task 0)))
    ∷ entry (ask.Verdict (task 1) verdict.DiscardOldest) (did.Verdict (task 1) verdict.DiscardOldest ruled.Retry)
    ∷ entry (ask.Look (task 1)) (did.Look (task 1) (looked.Reserve (slot 0)))
    ∷ entry (ask.Offer (task 0)) (did.Offer (task 0) offered.Full)
    ∷ entry (ask.Grow (task 0)) (did.Grow (task 0) grown.Refuse)
    ∷ entry (ask.Verdict (task 0) verdict.DiscardOldest) (did.Verdict (task 0) verdict.DiscardOldest ruled.Retry)
    ∷ entry ask.Shutdown did.Shutdown
    ∷ entry (ask.Look (task 0)) (did.Look (task 0) looked.Refuse)
    ∷ entry (ask.Verdict (task 0) verdict.DiscardOldest) (did.Verdict (task 0) verdict.DiscardOldest ruled.Discarded)
    ∷ entry (ask.Open (slot 0)) (did.Open (slot 0) (opened.GivenUpRefuse (task 1)))
    ∷ entry (ask.Verdict (task 1) verdict.DiscardOldest) (did.Verdict (task 1) verdict.DiscardOldest ruled.Discarded)
    ∷ []

pub legal : Legal config (front 15 row)
legal = ((refl, tt), ((refl, tt), ((refl, tt), ((refl, tt), ((refl, tt), ((refl, tt), ((refl, tt), ((refl, tt), ((refl, refl), ((refl, tt), ((refl, tt), ((refl, tt), ((refl, tt), ((refl, tt), ((refl, refl), tt)))))))))))))))

pub refused_0 : (w : ℕ) → step config (state config (front 7 row)) w (ask.Verdict (task 1) verdict.DiscardOldest) ≡ Err NotThere
refused_0 w = refl

pub rank_last : (state config (front 15 row)).rank ≡ 1
rank_last = refl

pub fates_last : map fate_of (state config (front 15 row)).tasks ≡ Some fate.Discarded ∷ Some fate.Discarded ∷ []
fates_last = refl

pub counts_last : counts (state config (front 15 row)) ≡ record { submitted = 2; run = 0; caller = 0; rejected = 0; discarded = 2; handedback = 0; removed = 0; cancelled = 0; completed = 0; queued = 0; live = 0; largest = 0 }
counts_last = refl

pub counters_last : counters (front 15 row) ≡ record { submitted = 2; run = 0; caller = 0; rejected = 0; discarded = 2; handedback = 0; removed = 0; cancelled = 0; completed = 0; queued = 0; live = 0; largest = 0 }
counters_last = refl

pub fates_in_words : (has_fate fate.Run (front 15 row) 0 ≡ false) × (has_fate fate.RunByCaller (front 15 row) 0 ≡ false) × (has_fate fate.Rejected (front 15 row) 0 ≡ false) × (has_fate fate.Discarded (front 15 row) 0 ≡ true) × (has_fate fate.HandedBack (front 15 row) 0 ≡ false) × (has_fate fate.Removed (front 15 row) 0 ≡ false) × (has_fate fate.Cancelled (front 15 row) 0 ≡ false) × (has_fate fate.Run (front 15 row) 1 ≡ false) × (has_fate fate.RunByCaller (front 15 row) 1 ≡ false) × (has_fate fate.Rejected (front 15 row) 1 ≡ false) × (has_fate fate.Discarded (front 15 row) 1 ≡ true) × (has_fate fate.HandedBack (front 15 row) 1 ≡ false) × (has_fate fate.Removed (front 15 row) 1 ≡ false) × (has_fate fate.Cancelled (front 15 row) 1 ≡ false)
fates_in_words = (refl, refl, refl, refl, refl, refl, refl, refl, refl, refl, refl, refl, refl, refl)

pub words_agree : agrees_at_fronts config (front 15 row) ≡ true
words_agree = refl

pub next_holds : NextHolds config (front 15 row)
next_holds = (refl, refl, (refl, refl, (refl, refl, (refl, refl, (refl, refl, (refl, refl, (refl, refl, (refl, refl, (refl, refl, (refl, refl, (refl, refl, (refl, refl, (refl, refl, (refl, refl, (refl, refl, tt)))))))))))))))

pub owed : owed_at_fronts config (front 15 row) ≡ 3 ∷ 5 ∷ 15 ∷ 17 ∷ 28 ∷ 29 ∷ 18 ∷ 25 ∷ 27 ∷ 28 ∷ 17 ∷ 18 ∷ 25 ∷ 27 ∷ 16 ∷ 4 ∷ []
owed = refl

pub line_last : waiting_line config (front 15 row) ≡ queue config (front 15 row)
line_last = refl
