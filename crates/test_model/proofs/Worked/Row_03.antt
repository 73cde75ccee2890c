-- Worked row 03: each entry is the one that the step gives at its front, and each refusal is the step's.
use Rattle.std.proofs.Common.{◌≡◌, List, [], ◌∷◌, None, true, false, map, refl}
use Rattle.test_model.proofs.Entries.{entry, task, slot, front, Config, Unbounded, Entry, queue, state, fate_of, counts, Legal, waiting_line, has_fate, counters}
use Rattle.test_model.proofs.Entries.kinds
use Rattle.test_model.proofs.Entries.fate
use Rattle.test_model.proofs.Entries.policy
use Rattle.test_model.proofs.Entries.ask
use Rattle.test_model.proofs.Entries.did
use Rattle.test_model.proofs.Entries.looked
use Rattle.test_model.proofs.Entries.offered
use Rattle.test_model.proofs.Entries.seconded
use Rattle.test_model.proofs.Agree.{agrees_at_fronts, owed_at_fronts, NextHolds}

abbrev pub config : Config
config = record { core = 0; maximum = 1; queue = Unbounded; keep = 0; core_timeout = false; policy = policy.Abort; record_limit = 4096 }

abbrev pub row : List Entry
row =
    entry (ask.Submit kinds.Plain 0) (did.Submit (task 0) kinds.Plain 0 looked.Queue)
    ∷ entry (ask.Offer (task 0)) (did.Offer (task 0) offered.Queued)
    ∷ entry (ask.Second (task 0)) (did.Second (task 0) (seconded.StayReserve (slot 0)))
    ∷ []

pub legal : Legal config (front 3 row)
legal = ((refl, refl), ((refl, tt), ((refl, tt), tt)))

pub rank_last : (state config (front 3 row)).rank ≡ 0
rank_last = refl

pub fates_last : map fate_of (state config (front 3 row)).tasks ≡ None ∷ []
fates_last = refl

pub counts_last : counts (state config (front 3 row)) ≡ record { submitted = 1; run = 0; caller = 0; rejected = 0; discarded = 0; handedback = 0; removed = 0; cancelled = 0; completed = 0; queued = 1; live = 0; largest = 0 }
counts_last = refl

pub counters_last : counters (front 3 row) ≡ record { submitted = 1; run = 0; caller = 0; rejected = 0; discarded = 0; handedback = 0; removed = 0; cancelled = 0; completed = 0; queued = 1; live = 0; largest = 0 }
counters_last = refl

pub fates_in_words : (has_fate fate.Run (front 3 row) 0 ≡ false) × (has_fate fate.RunByCaller (front 3 row) 0 ≡ false) × (has_fate fate.Rejected (front 3 row) 0 ≡ false) × (has_fate fate.Discarded (front 3 row) 0 ≡ false) × (has_fate fate.HandedBack (front 3 row) 0 ≡ false) × (has_fate fate.Removed (front 3 row) 0 ≡ false) × (has_fate fate.Cancelled (front 3 row) 0 ≡ false)
fates_in_words = (refl, refl, refl, refl, refl, refl, refl)

pub words_agree : agrees_at_fronts config (front 3 row) ≡ true
words_agree = refl

pub next_holds : NextHolds config (front 3 row)
next_holds = (refl, refl, (refl, refl, (refl, refl, tt)))

pub owed : owed_at_fronts config (front 3 row) ≡ 13 ∷ 14 ∷ 15 ∷ 4 ∷ []
owed = refl

pub line_last : waiting_line config (front 3 row) ≡ queue config (front 3 row)
line_last = refl
