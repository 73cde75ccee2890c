-- Worked row 17: each entry is the one that the step gives at its front, and each refusal is the step's.
use Rattle.std.proofs.Common.{◌≡◌, List, [], ◌∷◌, ◌++◌, Some, None, Ok, true, false, map, refl}
use Rattle.test_model.proofs.Entries.{entry, task, slot, front, start, Config, Bounded, Entry, queue, state, fate_of, counts, Legal, waiting_line, has_fate, counters, pos}
use Rattle.test_model.proofs.Entries.fate
use Rattle.test_model.proofs.Entries.policy
use Rattle.test_model.proofs.Entries.ask
use Rattle.test_model.proofs.Entries.did
use Rattle.test_model.proofs.Entries.grown
use Rattle.test_model.proofs.Entries.opened
use Rattle.test_model.proofs.Entries.took
use Rattle.test_model.proofs.Entries.started
use Rattle.test_model.proofs.Worked.Row_04 as begun
use Rattle.test_model.proofs.Agree.{agrees_at_fronts, owed_at_fronts, NextHolds}

abbrev pub config : Config
config = record { core = 1; maximum = 3; queue = Bounded 1; keep = 0; core_timeout = false; policy = policy.Abort; record_limit = 4096 }

abbrev pub row : List Entry
row =
    start 9 begun.row
    ++ entry (ask.Grow (task 3)) (did.Grow (task 3) (grown.Reserve (slot 2)))
    ∷ entry (ask.Open (slot 0)) (did.Open (slot 0) opened.Live)
    ∷ entry (ask.Open (slot 1)) (did.Open (slot 1) opened.Live)
    ∷ entry (ask.Open (slot 2)) (did.Open (slot 2) opened.Live)
    ∷ entry (ask.Take (slot 0)) (did.Take (slot 0) (took.Held (task 0)))
    ∷ entry (ask.Begin (slot 0)) (did.Begin (slot 0) (started.Run (task 0)))
    ∷ entry (ask.End (slot 0) (Ok (pos 0))) (did.End (slot 0) (task 0) (Ok (pos 0)))
    ∷ entry (ask.Take (slot 1)) (did.Take (slot 1) (took.Held (task 2)))
    ∷ entry (ask.Begin (slot 1)) (did.Begin (slot 1) (started.Run (task 2)))
    ∷ entry (ask.End (slot 1) (Ok (pos 2))) (did.End (slot 1) (task 2) (Ok (pos 2)))
    ∷ entry (ask.Take (slot 2)) (did.Take (slot 2) (took.Held (task 3)))
    ∷ entry (ask.Begin (slot 2)) (did.Begin (slot 2) (started.Run (task 3)))
    ∷ entry (ask.End (slot 2) (Ok (pos 3))) (did.End (slot 2) (task 3) (Ok (pos 3)))
    ∷ entry (ask.Maximum 1) (did.Maximum 1)
    ∷ entry (ask.Take (slot 0)) (did.Take (slot 0) took.Leave)
    ∷ entry (ask.Take (slot 1)) (did.Take (slot 1) took.Leave)
    ∷ entry (ask.Take (slot 2)) (did.Take (slot 2) (took.Head (task 1)))
    ∷ []

pub legal : Legal config (front 26 row)
legal = ((refl, tt), ((refl, tt), ((refl, tt), ((refl, tt), ((refl, tt), ((refl, tt), ((refl, tt), ((refl, tt), ((refl, tt), ((refl, tt), ((refl, tt), ((refl, tt), ((refl, tt), ((refl, tt), ((refl, tt), ((refl, tt), ((refl, refl), ((refl, tt), ((refl, tt), ((refl, refl), ((refl, tt), ((refl, tt), ((refl, tt), ((refl, tt), ((refl, tt), ((refl, refl), tt))))))))))))))))))))))))))

pub rank_last : (state config (front 26 row)).rank ≡ 0
rank_last = refl

pub fates_last : map fate_of (state config (front 26 row)).tasks ≡ Some fate.Run ∷ None ∷ Some fate.Run ∷ Some fate.Run ∷ []
fates_last = refl

pub counts_last : counts (state config (front 26 row)) ≡ record { submitted = 4; run = 3; caller = 0; rejected = 0; discarded = 0; handedback = 0; removed = 0; cancelled = 0; completed = 3; queued = 0; live = 1; largest = 3 }
counts_last = refl

pub counters_last : counters (front 26 row) ≡ record { submitted = 4; run = 3; caller = 0; rejected = 0; discarded = 0; handedback = 0; removed = 0; cancelled = 0; completed = 3; queued = 0; live = 1; largest = 3 }
counters_last = refl

pub fates_in_words : (has_fate fate.Run (front 26 row) 0 ≡ true) × (has_fate fate.RunByCaller (front 26 row) 0 ≡ false) × (has_fate fate.Rejected (front 26 row) 0 ≡ false) × (has_fate fate.Discarded (front 26 row) 0 ≡ false) × (has_fate fate.HandedBack (front 26 row) 0 ≡ false) × (has_fate fate.Removed (front 26 row) 0 ≡ false) × (has_fate fate.Cancelled (front 26 row) 0 ≡ false) × (has_fate fate.Run (front 26 row) 1 ≡ false) × (has_fate fate.RunByCaller (front 26 row) 1 ≡ false) × (has_fate fate.Rejected (front 26 row) 1 ≡ false) × (has_fate fate.Discarded (front 26 row) 1 ≡ false) × (has_fate fate.HandedBack (front 26 row) 1 ≡ false) × (has_fate fate.Removed (front 26 row) 1 ≡ false) × (has_fate fate.Cancelled (front 26 row) 1 ≡ false) × (has_fate fate.Run (front 26 row) 2 ≡ true) × (has_fate fate.RunByCaller (front 26 row) 2 ≡ false) × (has_fate fate.Rejected (front 26 row) 2 ≡ false) × (has_fate fate.Discarded (front 26 row) 2 ≡ false) × (has_fate fate.HandedBack (front 26 row) 2 ≡ false) × (has_fate fate.Removed (front 26 row) 2 ≡ false) × (has_fate fate.Cancelled (front 26 row) 2 ≡ false) × (has_fate fate.Run (front 26 row) 3 ≡ true) × (has_fate fate.RunByCaller (front 26 row) 3 ≡ false) × (has_fate fate.Rejected (front 26 row) 3 ≡ false) × (has_fate fate.Discarded (front 26 row) 3 ≡ false) × (has_fate fate.HandedBack (front 26 row) 3 ≡ false) × (has_fate fate.Removed (front 26 row) 3 ≡ false) × (has_fate fate.Cancelled (front 26 row) 3 ≡ false)
fates_in_words = (refl, refl, refl, refl, refl, refl, refl, refl, refl, refl, refl, refl, refl, refl, refl, refl, refl, refl, refl, refl, refl, refl, refl, refl, refl, refl, refl, refl)

pub words_agree : agrees_at_fronts config (front 26 row) ≡ true
words_agree = refl

pub next_holds : NextHolds config (front 26 row)
next_holds = (refl, refl, (refl, refl, (refl, refl, (refl, refl, (refl, refl, (refl, refl, (refl, refl, (refl, refl, (refl, refl, (refl, refl, (refl, refl, (refl, refl, (refl, refl, (refl, refl, (refl, refl, (refl, refl, (refl, refl, (refl, refl, (refl, refl, (refl, refl, (refl, refl, (refl, refl, (refl, refl, (refl, refl, (refl, refl, (refl, refl, tt))))))))))))))))))))))))))

pub owed : owed_at_fronts config (front 26 row) ≡ 10 ∷ 12 ∷ 14 ∷ 16 ∷ 16 ∷ 19 ∷ 20 ∷ 21 ∷ 24 ∷ 25 ∷ 26 ∷ 29 ∷ 30 ∷ 31 ∷ 32 ∷ 33 ∷ 38 ∷ 39 ∷ 41 ∷ 30 ∷ 31 ∷ 33 ∷ 22 ∷ 26 ∷ 27 ∷ 16 ∷ 4 ∷ []
owed = refl

pub line_last : waiting_line config (front 26 row) ≡ queue config (front 26 row)
line_last = refl
