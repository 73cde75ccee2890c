-- Worked row fault at shutdown: each entry is the one that the step gives at its front, and each refusal is the step's.
use Rattle.std.proofs.Common.{◌≡◌, List, [], ◌∷◌, Some, None, Err, true, false, map, refl}
use Rattle.test_model.proofs.Entries.{entry, task, slot, front, Config, Unbounded, Entry, queue, state, fate_of, counts, Legal, waiting_line, has_fate, counters}
use Rattle.test_model.proofs.Entries.kinds
use Rattle.test_model.proofs.Entries.fate
use Rattle.test_model.proofs.Entries.policy
use Rattle.test_model.proofs.Entries.ask
use Rattle.test_model.proofs.Entries.did
use Rattle.test_model.proofs.Entries.looked
use Rattle.test_model.proofs.Entries.opened
use Rattle.test_model.proofs.Entries.took
use Rattle.test_model.proofs.Entries.started
use Rattle.test_model.proofs.Agree.{agrees_at_fronts, owed_at_fronts, NextHolds}

abbrev pub config : Config
config = record { core = 1; maximum = 1; queue = Unbounded; keep = 0; core_timeout = false; policy = policy.Abort; record_limit = 4096 }

abbrev pub row : List Entry
row =
    entry (ask.Submit kinds.Plain 0) (did.Submit (task 0) kinds.Plain 0 (looked.Reserve (slot 0)))
    ∷ entry (ask.Open (slot 0)) (did.Open (slot 0) opened.Live)
    ∷ entry (ask.Take (slot 0)) (did.Take (slot 0) (took.Held (task 0)))
    ∷ entry (ask.Begin (slot 0)) (did.Begin (slot 0) (started.Run (task 0)))
    ∷ entry ask.Shutdown did.Shutdown
    ∷ entry (ask.End (slot 0) (Err 3)) (did.End (slot 0) (task 0) (Err 3))
    ∷ entry (ask.Leave (slot 0)) (did.Leave (slot 0) None)
    ∷ entry ask.Tidy did.Tidy
    ∷ []

pub legal : Legal config (front 8 row)
legal = ((refl, tt), ((refl, tt), ((refl, tt), ((refl, tt), ((refl, tt), ((refl, tt), ((refl, tt), ((refl, refl), tt))))))))

pub rank_last : (state config (front 8 row)).rank ≡ 3
rank_last = refl

pub fates_last : map fate_of (state config (front 8 row)).tasks ≡ Some fate.Run ∷ []
fates_last = refl

pub counts_last : counts (state config (front 8 row)) ≡ record { submitted = 1; run = 1; caller = 0; rejected = 0; discarded = 0; handedback = 0; removed = 0; cancelled = 0; completed = 1; queued = 0; live = 0; largest = 1 }
counts_last = refl

pub counters_last : counters (front 8 row) ≡ record { submitted = 1; run = 1; caller = 0; rejected = 0; discarded = 0; handedback = 0; removed = 0; cancelled = 0; completed = 1; queued = 0; live = 0; largest = 1 }
counters_last = refl

pub fates_in_words : (has_fate fate.Run (front 8 row) 0 ≡ true) × (has_fate fate.RunByCaller (front 8 row) 0 ≡ false) × (has_fate fate.Rejected (front 8 row) 0 ≡ false) × (has_fate fate.Discarded (front 8 row) 0 ≡ false) × (has_fate fate.HandedBack (front 8 row) 0 ≡ false) × (has_fate fate.Removed (front 8 row) 0 ≡ false) × (has_fate fate.Cancelled (front 8 row) 0 ≡ false)
fates_in_words = (refl, refl, refl, refl, refl, refl, refl)

pub words_agree : agrees_at_fronts config (front 8 row) ≡ true
words_agree = refl

pub next_holds : NextHolds config (front 8 row)
next_holds = (refl, refl, (refl, refl, (refl, refl, (refl, refl, (refl, refl, (refl, refl, (refl, refl, (refl, refl, tt))))))))

pub owed : owed_at_fronts config (front 8 row) ≡ 1 ∷ 3 ∷ 7 ∷ 8 ∷ 9 ∷ 10 ∷ 11 ∷ 16 ∷ 4 ∷ []
owed = refl

pub line_last : waiting_line config (front 8 row) ≡ queue config (front 8 row)
line_last = refl
