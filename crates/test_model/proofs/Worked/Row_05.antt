-- Worked row 05: each entry is the one that the step gives at its front, and each refusal is the step's.
use Rattle.std.proofs.Common.{◌≡◌, List, [], ◌∷◌, Some, None, Ok, true, false, map, refl}
use Rattle.test_model.proofs.Entries.{entry, task, slot, front, Config, Handoff, Entry, queue, state, fate_of, counts, Legal, waiting_line, has_fate, counters, pos}
use Rattle.test_model.proofs.Entries.kinds
use Rattle.test_model.proofs.Entries.fate
use Rattle.test_model.proofs.Entries.policy
use Rattle.test_model.proofs.Entries.ask
use Rattle.test_model.proofs.Entries.did
use Rattle.test_model.proofs.Entries.looked
use Rattle.test_model.proofs.Entries.offered
use Rattle.test_model.proofs.Entries.grown
use Rattle.test_model.proofs.Entries.opened
use Rattle.test_model.proofs.Entries.took
use Rattle.test_model.proofs.Entries.started
use Rattle.test_model.proofs.Agree.{agrees_at_fronts, owed_at_fronts, NextHolds}

abbrev pub config : Config
config = record { core = 0; maximum = 1; queue = Handoff; keep = 10; core_timeout = false; policy = policy.Abort; record_limit = 4096 }

abbrev pub row : List Entry
row =
    entry (ask.Submit kinds.Plain 0) (did.Submit (task 0) kinds.Plain 0 looked.Queue)
    ∷ entry (ask.Offer (task 0)) (did.Offer (task 0) offered.Full)
    ∷ entry (ask.Grow (task 0)) (did.Grow (task 0) (grown.Reserve (slot 0)))
    ∷ entry (ask.Open (slot 0)) (did.Open (slot 0) opened.Live)
    ∷ entry (ask.Take (slot 0)) (did.Take (slot 0) (took.Held (task 0)))
    ∷ entry (ask.Begin (slot 0)) (did.Begin (slot 0) (started.Run (task 0)))
    ∷ entry (ask.End (slot 0) (Ok (pos 1))) (did.End (slot 0) (task 0) (Ok (pos 1)))
    ∷ entry (ask.Take (slot 0)) (did.Take (slot 0) took.Idle)
    ∷ entry (ask.Submit kinds.Plain 0) (did.Submit (task 1) kinds.Plain 0 looked.Queue)
    ∷ entry (ask.Offer (task 1)) (did.Offer (task 1) (offered.Hand (slot 0)))
    ∷ entry (ask.Take (slot 0)) (did.Take (slot 0) (took.Held (task 1)))
    ∷ []

pub legal : Legal config (front 11 row)
legal = ((refl, tt), ((refl, tt), ((refl, tt), ((refl, tt), ((refl, tt), ((refl, tt), ((refl, tt), ((refl, tt), ((refl, refl), ((refl, tt), ((refl, tt), tt)))))))))))

pub rank_last : (state config (front 11 row)).rank ≡ 0
rank_last = refl

pub fates_last : map fate_of (state config (front 11 row)).tasks ≡ Some fate.Run ∷ None ∷ []
fates_last = refl

pub counts_last : counts (state config (front 11 row)) ≡ record { submitted = 2; run = 1; caller = 0; rejected = 0; discarded = 0; handedback = 0; removed = 0; cancelled = 0; completed = 1; queued = 0; live = 1; largest = 1 }
counts_last = refl

pub counters_last : counters (front 11 row) ≡ record { submitted = 2; run = 1; caller = 0; rejected = 0; discarded = 0; handedback = 0; removed = 0; cancelled = 0; completed = 1; queued = 0; live = 1; largest = 1 }
counters_last = refl

pub fates_in_words : (has_fate fate.Run (front 11 row) 0 ≡ true) × (has_fate fate.RunByCaller (front 11 row) 0 ≡ false) × (has_fate fate.Rejected (front 11 row) 0 ≡ false) × (has_fate fate.Discarded (front 11 row) 0 ≡ false) × (has_fate fate.HandedBack (front 11 row) 0 ≡ false) × (has_fate fate.Removed (front 11 row) 0 ≡ false) × (has_fate fate.Cancelled (front 11 row) 0 ≡ false) × (has_fate fate.Run (front 11 row) 1 ≡ false) × (has_fate fate.RunByCaller (front 11 row) 1 ≡ false) × (has_fate fate.Rejected (front 11 row) 1 ≡ false) × (has_fate fate.Discarded (front 11 row) 1 ≡ false) × (has_fate fate.HandedBack (front 11 row) 1 ≡ false) × (has_fate fate.Removed (front 11 row) 1 ≡ false) × (has_fate fate.Cancelled (front 11 row) 1 ≡ false)
fates_in_words = (refl, refl, refl, refl, refl, refl, refl, refl, refl, refl, refl, refl, refl, refl)

pub words_agree : agrees_at_fronts config (front 11 row) ≡ true
words_agree = refl

pub next_holds : NextHolds config (front 11 row)
next_holds = (refl, refl, (refl, refl, (refl, refl, (refl, refl, (refl, refl, (refl, refl, (refl, refl, (refl, refl, (refl, refl, (refl, refl, (refl, refl, tt)))))))))))

pub owed : owed_at_fronts config (front 11 row) ≡ 14 ∷ 15 ∷ 16 ∷ 5 ∷ 6 ∷ 9 ∷ 10 ∷ 11 ∷ 12 ∷ 13 ∷ 15 ∷ 4 ∷ []
owed = refl

pub line_last : waiting_line config (front 11 row) ≡ queue config (front 11 row)
line_last = refl
