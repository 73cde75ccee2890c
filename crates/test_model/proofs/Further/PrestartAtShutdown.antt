-- Worked row prestart at shutdown: each entry is the one that the step gives at its front, and each refusal is the step's.
use Rattle.std.proofs.Common.{◌≡◌, List, [], ◌∷◌, Some, None, Ok, true, false, map, refl}
use Rattle.test_model.proofs.Entries.{entry, task, slot, front, Config, Unbounded, Entry, queue, state, fate_of, counts, Legal, waiting_line, has_fate, counters, pos}
use Rattle.test_model.proofs.Entries.kinds
use Rattle.test_model.proofs.Entries.fate
use Rattle.test_model.proofs.Entries.policy
use Rattle.test_model.proofs.Entries.verdict
use Rattle.test_model.proofs.Entries.ask
use Rattle.test_model.proofs.Entries.did
use Rattle.test_model.proofs.Entries.looked
use Rattle.test_model.proofs.Entries.offered
use Rattle.test_model.proofs.Entries.seconded
use Rattle.test_model.proofs.Entries.ruled
use Rattle.test_model.proofs.Entries.opened
use Rattle.test_model.proofs.Entries.failed
use Rattle.test_model.proofs.Entries.took
use Rattle.test_model.proofs.Entries.started
use Rattle.test_model.proofs.Agree.{agrees_at_fronts, owed_at_fronts, NextHolds}

abbrev pub config : Config
config = record { core = 2; maximum = 3; queue = Unbounded; keep = 0; core_timeout = false; policy = policy.Abort; record_limit = 4096 }

abbrev pub row : List Entry
row =
    entry (ask.Submit kinds.Plain 0) (did.Submit (task 0) kinds.Plain 0 (looked.Reserve (slot 0)))
    ∷ entry ask.Prestart (did.Prestart (Some (slot 1)))
    ∷ entry ask.Prestart (did.Prestart None)
    ∷ entry (ask.Submit kinds.Plain 0) (did.Submit (task 1) kinds.Plain 0 looked.Queue)
    ∷ entry (ask.Offer (task 1)) (did.Offer (task 1) offered.Queued)
    ∷ entry (ask.Second (task 1)) (did.Second (task 1) seconded.Stay)
    ∷ entry (ask.Fail (slot 1)) (did.Fail (slot 1) failed.Nothing)
    ∷ entry ask.Shutdown did.Shutdown
    ∷ entry ask.Prestart (did.Prestart (Some (slot 1)))
    ∷ entry (ask.Open (slot 1)) (did.Open (slot 1) opened.Live)
    ∷ entry (ask.Take (slot 1)) (did.Take (slot 1) (took.Head (task 1)))
    ∷ entry ask.Prestart (did.Prestart None)
    ∷ entry (ask.Fail (slot 0)) (did.Fail (slot 0) (failed.Refuse (task 0)))
    ∷ entry ask.Prestart (did.Prestart None)
    ∷ entry (ask.Begin (slot 1)) (did.Begin (slot 1) (started.Run (task 1)))
    ∷ entry (ask.End (slot 1) (Ok (pos 2))) (did.End (slot 1) (task 1) (Ok (pos 2)))
    ∷ entry (ask.Verdict (task 0) verdict.Abort) (did.Verdict (task 0) verdict.Abort ruled.Rejected)
    ∷ entry (ask.Take (slot 1)) (did.Take (slot 1) took.Leave)
    ∷ entry ask.Prestart (did.Prestart None)
    ∷ []

pub legal : Legal config (front 19 row)
legal = ((refl, tt), ((refl, tt), ((refl, tt), ((refl, tt), ((refl, tt), ((refl, tt), ((refl, tt), ((refl, tt), ((refl, tt), ((refl, tt), ((refl, refl), ((refl, tt), ((refl, tt), ((refl, tt), ((refl, tt), ((refl, tt), ((refl, tt), ((refl, refl), ((refl, refl), tt)))))))))))))))))))

pub rank_last : (state config (front 19 row)).rank ≡ 1
rank_last = refl

pub fates_last : map fate_of (state config (front 19 row)).tasks ≡ Some fate.Rejected ∷ Some fate.Run ∷ []
fates_last = refl

pub counts_last : counts (state config (front 19 row)) ≡ record { submitted = 2; run = 1; caller = 0; rejected = 1; discarded = 0; handedback = 0; removed = 0; cancelled = 0; completed = 1; queued = 0; live = 0; largest = 1 }
counts_last = refl

pub counters_last : counters (front 19 row) ≡ record { submitted = 2; run = 1; caller = 0; rejected = 1; discarded = 0; handedback = 0; removed = 0; cancelled = 0; completed = 1; queued = 0; live = 0; largest = 1 }
counters_last = refl

pub fates_in_words : (has_fate fate.Run (front 19 row) 0 ≡ false) × (has_fate fate.RunByCaller (front 19 row) 0 ≡ false) × (has_fate fate.Rejected (front 19 row) 0 ≡ true) × (has_fate fate.Discarded (front 19 row) 0 ≡ false) × (has_fate fate.HandedBack (front 19 row) 0 ≡ false) × (has_fate fate.Removed (front 19 row) 0 ≡ false) × (has_fate fate.Cancelled (front 19 row) 0 ≡ false) × (has_fate fate.Run (front 19 row) 1 ≡ true) × (has_fate fate.RunByCaller (front 19 row) 1 ≡ false) × (has_fate fate.Rejected (front 19 row) 1 ≡ false) × (has_fate fate.Discarded (front 19 row) 1 ≡ false) × (has_fate fate.HandedBack (front 19 row) 1 ≡ false) × (has_fate fate.Removed (front 19 row) 1 ≡ false) × (has_fate fate.Cancelled (front 19 row) 1 ≡ false)
fates_in_words = (refl, refl, refl, refl, refl, refl, refl, refl, refl, refl, refl, refl, refl, refl)

pub words_agree : agrees_at_fronts config (front 19 row) ≡ true
words_agree = refl

pub next_holds : NextHolds config (front 19 row)
next_holds = (refl, refl, (refl, refl, (refl, refl, (refl, refl, (refl, refl, (refl, refl, (refl, refl, (refl, refl, (refl, refl, (refl, refl, (refl, refl, (refl, refl, (refl, refl, (refl, refl, (refl, refl, (refl, refl, (refl, refl, (refl, refl, (refl, refl, tt)))))))))))))))))))

pub owed : owed_at_fronts config (front 19 row) ≡ 3 ∷ 3 ∷ 4 ∷ 6 ∷ 10 ∷ 11 ∷ 11 ∷ 21 ∷ 21 ∷ 22 ∷ 24 ∷ 21 ∷ 22 ∷ 25 ∷ 29 ∷ 30 ∷ 19 ∷ 19 ∷ 16 ∷ 4 ∷ []
owed = refl

pub line_last : waiting_line config (front 19 row) ≡ queue config (front 19 row)
line_last = refl
