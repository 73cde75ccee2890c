-- Worked row hand to longest idle: each entry is the one that the step gives at its front, and each refusal is the step's.
use Rattle.std.proofs.Common.{◌≡◌, ℕ, List, [], ◌∷◌, Some, None, Ok, Err, true, false, map, refl}
use Rattle.test_model.proofs.Entries.{entry, task, slot, front, Config, Handoff, NotThere, Entry, queue, state, fate_of, counts, step, Legal, waiting_line, has_fate, counters, pos}
use Rattle.test_model.proofs.Entries.kinds
use Rattle.test_model.proofs.Entries.fate
use Rattle.test_model.proofs.Entries.policy
use Rattle.test_model.proofs.Entries.ask
use Rattle.test_model.proofs.Entries.did
use Rattle.test_model.proofs.Entries.looked
use Rattle.test_model.proofs.Entries.offered
use Rattle.test_model.proofs.Entries.seconded
use Rattle.test_model.proofs.Entries.grown
use Rattle.test_model.proofs.Entries.opened
use Rattle.test_model.proofs.Entries.took
use Rattle.test_model.proofs.Entries.started
use Rattle.test_model.proofs.Agree.{agrees_at_fronts, owed_at_fronts, NextHolds}

abbrev pub config : Config
config = record { core = 0; maximum = 2; queue = Handoff; keep = 10; core_timeout = false; policy = policy.Abort; record_limit = 4096 }

abbrev pub row : List Entry
row =
    entry (ask.Submit kinds.Plain 0) (did.Submit (task 0) kinds.Plain 0 looked.Queue)
    ∷ entry (ask.Offer (task 0)) (did.Offer (task 0) offered.Full)
    ∷ entry (ask.Grow (task 0)) (did.Grow (task 0) (grown.Reserve (slot 0)))
    ∷ entry (ask.Submit kinds.Plain 0) (did.Submit (task 1) kinds.Plain 0 looked.Queue)
    ∷ entry (ask.Offer (task 1)) (did.Offer (task 1) offered.Full)
    ∷ entry (ask.Grow (task 1)) (did.Grow (task 1) (grown.Reserve (slot 1)))
    ∷ entry (ask.Open (slot 0)) (did.Open (slot 0) opened.Live)
    ∷ entry (ask.Open (slot 1)) (did.Open (slot 1) opened.Live)
    ∷ entry (ask.Take (slot 0)) (did.Take (slot 0) (took.Held (task 0)))
    ∷ entry (ask.Take (slot 1)) (did.Take (slot 1) (took.Held (task 1)))
    ∷ entry (ask.Begin (slot 0)) (did.Begin (slot 0) (started.Run (task 0)))
    ∷ entry (ask.Begin (slot 1)) (did.Begin (slot 1) (started.Run (task 1)))
    ∷ entry (ask.End (slot 1) (Ok (pos 2))) (did.End (slot 1) (task 1) (Ok (pos 2)))
    ∷ entry (ask.End (slot 0) (Ok (pos 1))) (did.End (slot 0) (task 0) (Ok (pos 1)))
    ∷ entry (ask.Take (slot 1)) (did.Take (slot 1) took.Idle)
    ∷ entry (ask.Tick 4) (did.Tick 4)
    ∷ entry (ask.Take (slot 0)) (did.Take (slot 0) took.Idle)
    ∷ entry (ask.Submit kinds.Plain 0) (did.Submit (task 2) kinds.Plain 0 looked.Queue)
    ∷ entry (ask.Offer (task 2)) (did.Offer (task 2) (offered.Hand (slot 1)))
    ∷ entry (ask.Take (slot 1)) (did.Take (slot 1) (took.Held (task 2)))
    ∷ entry (ask.Submit kinds.Plain 0) (did.Submit (task 3) kinds.Plain 0 looked.Queue)
    ∷ entry (ask.Offer (task 3)) (did.Offer (task 3) (offered.Hand (slot 0)))
    ∷ entry (ask.Second (task 3)) (did.Second (task 3) seconded.Stay)
    ∷ entry (ask.Second (task 2)) (did.Second (task 2) seconded.Stay)
    ∷ entry (ask.Submit kinds.Plain 0) (did.Submit (task 4) kinds.Plain 0 looked.Queue)
    ∷ entry (ask.Offer (task 4)) (did.Offer (task 4) offered.Full)
    ∷ entry (ask.Begin (slot 1)) (did.Begin (slot 1) (started.Run (task 2)))
    ∷ entry (ask.End (slot 1) (Ok (pos 3))) (did.End (slot 1) (task 2) (Ok (pos 3)))
    ∷ entry (ask.Tick 5) (did.Tick 5)
    ∷ entry (ask.Take (slot 1)) (did.Take (slot 1) took.Idle)
    ∷ entry (ask.Tick 20) (did.Tick 20)
    ∷ entry (ask.Take (slot 1)) (did.Take (slot 1) took.Leave)
    ∷ entry (ask.Take (slot 0)) (did.Take (slot 0) (took.Held (task 3)))
    ∷ entry (ask.Begin (slot 0)) (did.Begin (slot 0) (started.Run (task 3)))
    ∷ []

pub legal : Legal config (front 34 row)
legal = ((refl, tt), ((refl, tt), ((refl, tt), ((refl, tt), ((refl, tt), ((refl, tt), ((refl, tt), ((refl, tt), ((refl, tt), ((refl, tt), ((refl, tt), ((refl, tt), ((refl, tt), ((refl, tt), ((refl, tt), ((refl, tt), ((refl, tt), ((refl, tt), ((refl, tt), ((refl, tt), ((refl, tt), ((refl, tt), ((refl, tt), ((refl, tt), ((refl, tt), ((refl, tt), ((refl, tt), ((refl, tt), ((refl, refl), ((refl, tt), ((refl, tt), ((refl, refl), ((refl, tt), ((refl, tt), tt))))))))))))))))))))))))))))))))))

pub refused_0 : (w : ℕ) → step config (state config (front 19 row)) w (ask.Take (slot 0)) ≡ Err NotThere
refused_0 w = refl

pub rank_last : (state config (front 34 row)).rank ≡ 0
rank_last = refl

pub fates_last : map fate_of (state config (front 34 row)).tasks ≡ Some fate.Run ∷ Some fate.Run ∷ Some fate.Run ∷ None ∷ None ∷ []
fates_last = refl

pub counts_last : counts (state config (front 34 row)) ≡ record { submitted = 5; run = 3; caller = 0; rejected = 0; discarded = 0; handedback = 0; removed = 0; cancelled = 0; completed = 3; queued = 0; live = 1; largest = 2 }
counts_last = refl

pub counters_last : counters (front 34 row) ≡ record { submitted = 5; run = 3; caller = 0; rejected = 0; discarded = 0; handedback = 0; removed = 0; cancelled = 0; completed = 3; queued = 0; live = 1; largest = 2 }
counters_last = refl

pub fates_in_words : (has_fate fate.Run (front 34 row) 0 ≡ true) × (has_fate fate.RunByCaller (front 34 row) 0 ≡ false) × (has_fate fate.Rejected (front 34 row) 0 ≡ false) × (has_fate fate.Discarded (front 34 row) 0 ≡ false) × (has_fate fate.HandedBack (front 34 row) 0 ≡ false) × (has_fate fate.Removed (front 34 row) 0 ≡ false) × (has_fate fate.Cancelled (front 34 row) 0 ≡ false) × (has_fate fate.Run (front 34 row) 1 ≡ true) × (has_fate fate.RunByCaller (front 34 row) 1 ≡ false) × (has_fate fate.Rejected (front 34 row) 1 ≡ false) × (has_fate fate.Discarded (front 34 row) 1 ≡ false) × (has_fate fate.HandedBack (front 34 row) 1 ≡ false) × (has_fate fate.Removed (front 34 row) 1 ≡ false) × (has_fate fate.Cancelled (front 34 row) 1 ≡ false) × (has_fate fate.Run (front 34 row) 2 ≡ true) × (has_fate fate.RunByCaller (front 34 row) 2 ≡ false) × (has_fate fate.Rejected (front 34 row) 2 ≡ false) × (has_fate fate.Discarded (front 34 row) 2 ≡ false) × (has_fate fate.HandedBack (front 34 row) 2 ≡ false) × (has_fate fate.Removed (front 34 row) 2 ≡ false) × (has_fate fate.Cancelled (front 34 row) 2 ≡ false) × (has_fate fate.Run (front 34 row) 3 ≡ false) × (has_fate fate.RunByCaller (front 34 row) 3 ≡ false) × (has_fate fate.Rejected (front 34 row) 3 ≡ false) × (has_fate fate.Discarded (front 34 row) 3 ≡ false) × (has_fate fate.HandedBack (front 34 row) 3 ≡ false) × (has_fate fate.Removed (front 34 row) 3 ≡ false) × (has_fate fate.Cancelled (front 34 row) 3 ≡ false) × (has_fate fate.Run (front 34 row) 4 ≡ false) × (has_fate fate.RunByCaller (front 34 row) 4 ≡ false) × (has_fate fate.Rejected (front 34 row) 4 ≡ false) × (has_fate fate.Discarded (front 34 row) 4 ≡ false) × (has_fate fate.HandedBack (front 34 row) 4 ≡ false) × (has_fate fate.Removed (front 34 row) 4 ≡ false) × (has_fate fate.Cancelled (front 34 row) 4 ≡ false)
fates_in_words = (refl, refl, refl, refl, refl, refl, refl, refl, refl, refl, refl, refl, refl, refl, refl, refl, refl, refl, refl, refl, refl, refl, refl, refl, refl, refl, refl, refl, refl, refl, refl, refl, refl, refl, refl)

pub words_agree : agrees_at_fronts config (front 34 row) ≡ true
words_agree = refl

pub next_holds : NextHolds config (front 34 row)
next_holds = (refl, refl, (refl, refl, (refl, refl, (refl, refl, (refl, refl, (refl, refl, (refl, refl, (refl, refl, (refl, refl, (refl, refl, (refl, refl, (refl, refl, (refl, refl, (refl, refl, (refl, refl, (refl, refl, (refl, refl, (refl, refl, (refl, refl, (refl, refl, (refl, refl, (refl, refl, (refl, refl, (refl, refl, (refl, refl, (refl, refl, (refl, refl, (refl, refl, (refl, refl, (refl, refl, (refl, refl, (refl, refl, (refl, refl, (refl, refl, tt))))))))))))))))))))))))))))))))))

pub owed : owed_at_fronts config (front 34 row) ≡ 18 ∷ 19 ∷ 20 ∷ 21 ∷ 21 ∷ 22 ∷ 22 ∷ 25 ∷ 26 ∷ 28 ∷ 17 ∷ 21 ∷ 25 ∷ 26 ∷ 15 ∷ 16 ∷ 17 ∷ 6 ∷ 7 ∷ 7 ∷ 8 ∷ 11 ∷ 14 ∷ 15 ∷ 16 ∷ 17 ∷ 18 ∷ 19 ∷ 20 ∷ 21 ∷ 23 ∷ 12 ∷ 13 ∷ 15 ∷ 4 ∷ []
owed = refl

pub line_last : waiting_line config (front 34 row) ≡ queue config (front 34 row)
line_last = refl
