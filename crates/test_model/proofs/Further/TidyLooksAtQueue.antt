-- Worked row tidy looks at queue: each entry is the one that the step gives at its front, and each refusal is the step's.
use Rattle.std.proofs.Common.{◌≡◌, ℕ, List, [], ◌∷◌, Some, None, Err, true, false, map, refl}
use Rattle.test_model.proofs.Entries.{entry, task, slot, front, Config, Unbounded, NotThere, Entry, queue, state, fate_of, counts, step, Legal, waiting_line, has_fate, counters}
use Rattle.test_model.proofs.Entries.kinds
use Rattle.test_model.proofs.Entries.fate
use Rattle.test_model.proofs.Entries.policy
use Rattle.test_model.proofs.Entries.verdict
use Rattle.test_model.proofs.Entries.ask
use Rattle.test_model.proofs.Entries.did
use Rattle.test_model.proofs.Entries.looked
use Rattle.test_model.proofs.Entries.offered
use Rattle.test_model.proofs.Entries.seconded
use Rattle.test_model.proofs.Entries.ruled
use Rattle.test_model.proofs.Entries.failed
use Rattle.test_model.proofs.Agree.{agrees_at_fronts, owed_at_fronts, NextHolds}

abbrev pub config : Config
config = record { core = 0; maximum = 1; queue = Unbounded; keep = 0; core_timeout = false; policy = policy.Abort; record_limit = 4096 }

abbrev pub row : List Entry
row =
    entry (ask.Submit kinds.Plain 0) (did.Submit (task 0) kinds.Plain 0 looked.Queue)
    ∷ entry (ask.Offer (task 0)) (did.Offer (task 0) offered.Queued)
    ∷ entry (ask.Second (task 0)) (did.Second (task 0) (seconded.StayReserve (slot 0)))
    ∷ entry (ask.Fail (slot 0)) (did.Fail (slot 0) failed.Nothing)
    ∷ entry ask.Shutdown did.Shutdown
    ∷ entry ask.Prestart (did.Prestart None)
    ∷ entry (ask.Submit kinds.Plain 0) (did.Submit (task 1) kinds.Plain 0 looked.Refuse)
    ∷ entry (ask.Verdict (task 1) verdict.Abort) (did.Verdict (task 1) verdict.Abort ruled.Rejected)
    ∷ entry ask.Stop (did.Stop 1)
    ∷ entry ask.Tidy did.Tidy
    ∷ entry ask.Ended did.Ended
    ∷ []

pub legal : Legal config (front 11 row)
legal = ((refl, tt), ((refl, tt), ((refl, tt), ((refl, tt), ((refl, tt), ((refl, tt), ((refl, tt), ((refl, tt), ((refl, refl), ((refl, tt), ((refl, tt), tt)))))))))))

pub refused_0 : (w : ℕ) → step config (state config (front 5 row)) w (ask.Tidy) ≡ Err NotThere
refused_0 w = refl

pub back_0 : queue config (front 8 row) ≡ 0 ∷ []
back_0 = refl

pub back_in_words_0 : waiting_line config (front 8 row) ≡ 0 ∷ []
back_in_words_0 = refl

pub rank_last : (state config (front 11 row)).rank ≡ 4
rank_last = refl

pub fates_last : map fate_of (state config (front 11 row)).tasks ≡ Some fate.HandedBack ∷ Some fate.Rejected ∷ []
fates_last = refl

pub counts_last : counts (state config (front 11 row)) ≡ record { submitted = 2; run = 0; caller = 0; rejected = 1; discarded = 0; handedback = 1; removed = 0; cancelled = 0; completed = 0; queued = 0; live = 0; largest = 0 }
counts_last = refl

pub counters_last : counters (front 11 row) ≡ record { submitted = 2; run = 0; caller = 0; rejected = 1; discarded = 0; handedback = 1; removed = 0; cancelled = 0; completed = 0; queued = 0; live = 0; largest = 0 }
counters_last = refl

pub fates_in_words : (has_fate fate.Run (front 11 row) 0 ≡ false) × (has_fate fate.RunByCaller (front 11 row) 0 ≡ false) × (has_fate fate.Rejected (front 11 row) 0 ≡ false) × (has_fate fate.Discarded (front 11 row) 0 ≡ false) × (has_fate fate.HandedBack (front 11 row) 0 ≡ true) × (has_fate fate.Removed (front 11 row) 0 ≡ false) × (has_fate fate.Cancelled (front 11 row) 0 ≡ false) × (has_fate fate.Run (front 11 row) 1 ≡ false) × (has_fate fate.RunByCaller (front 11 row) 1 ≡ false) × (has_fate fate.Rejected (front 11 row) 1 ≡ true) × (has_fate fate.Discarded (front 11 row) 1 ≡ false) × (has_fate fate.HandedBack (front 11 row) 1 ≡ false) × (has_fate fate.Removed (front 11 row) 1 ≡ false) × (has_fate fate.Cancelled (front 11 row) 1 ≡ false)
fates_in_words = (refl, refl, refl, refl, refl, refl, refl, refl, refl, refl, refl, refl, refl, refl)

pub words_agree : agrees_at_fronts config (front 11 row) ≡ true
words_agree = refl

pub next_holds : NextHolds config (front 11 row)
next_holds = (refl, refl, (refl, refl, (refl, refl, (refl, refl, (refl, refl, (refl, refl, (refl, refl, (refl, refl, (refl, refl, (refl, refl, (refl, refl, tt)))))))))))

pub owed : owed_at_fronts config (front 11 row) ≡ 0 ∷ 1 ∷ 2 ∷ 9 ∷ 11 ∷ 9 ∷ 9 ∷ 10 ∷ 13 ∷ 14 ∷ 15 ∷ 4 ∷ []
owed = refl

pub line_last : waiting_line config (front 11 row) ≡ queue config (front 11 row)
line_last = refl
