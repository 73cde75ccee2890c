-- Worked row stop wakes: each entry is the one that the step gives at its front, and each refusal is the step's.
use Rattle.std.proofs.Common.{◌≡◌, ℕ, List, [], ◌∷◌, Some, None, Ok, Err, true, false, map, refl}
use Rattle.test_model.proofs.Entries.{entry, task, slot, front, Config, Handoff, NotThere, Entry, queue, state, fate_of, counts, step, Legal, waiting_line, has_fate, counters, pos}
use Rattle.test_model.proofs.Entries.kinds
use Rattle.test_model.proofs.Entries.fate
use Rattle.test_model.proofs.Entries.policy
use Rattle.test_model.proofs.Entries.ask
use Rattle.test_model.proofs.Entries.did
use Rattle.test_model.proofs.Entries.looked
use Rattle.test_model.proofs.Entries.offered
use Rattle.test_model.proofs.Entries.seconded
use Rattle.test_model.proofs.Entries.opened
use Rattle.test_model.proofs.Entries.took
use Rattle.test_model.proofs.Entries.started
use Rattle.test_model.proofs.Agree.{agrees_at_fronts, owed_at_fronts, NextHolds}

abbrev pub config : Config
config = record { core = 2; maximum = 2; queue = Handoff; keep = 5; core_timeout = false; policy = policy.Abort; record_limit = 4096 }

abbrev pub row : List Entry
row =
    entry ask.Prestart (did.Prestart (Some (slot 0)))
    ∷ entry ask.Prestart (did.Prestart (Some (slot 1)))
    ∷ entry ask.Prestart (did.Prestart None)
    ∷ entry (ask.Open (slot 0)) (did.Open (slot 0) opened.Live)
    ∷ entry (ask.Open (slot 1)) (did.Open (slot 1) opened.Live)
    ∷ entry (ask.Take (slot 0)) (did.Take (slot 0) took.Idle)
    ∷ entry (ask.Take (slot 1)) (did.Take (slot 1) took.Idle)
    ∷ entry (ask.Submit kinds.Plain 0) (did.Submit (task 0) kinds.Plain 0 looked.Queue)
    ∷ entry (ask.Offer (task 0)) (did.Offer (task 0) (offered.Hand (slot 0)))
    ∷ entry ask.Stop (did.Stop 0)
    ∷ entry (ask.Second (task 0)) (did.Second (task 0) seconded.Stay)
    ∷ entry (ask.Take (slot 1)) (did.Take (slot 1) took.Leave)
    ∷ entry (ask.Take (slot 0)) (did.Take (slot 0) (took.Held (task 0)))
    ∷ entry (ask.Begin (slot 0)) (did.Begin (slot 0) (started.Run (task 0)))
    ∷ entry (ask.End (slot 0) (Ok (pos 1))) (did.End (slot 0) (task 0) (Ok (pos 1)))
    ∷ entry (ask.Take (slot 0)) (did.Take (slot 0) took.Leave)
    ∷ entry ask.Tidy did.Tidy
    ∷ entry ask.Stop (did.Stop 0)
    ∷ entry ask.Ended did.Ended
    ∷ entry ask.Shutdown did.Shutdown
    ∷ []

pub legal : Legal config (front 20 row)
legal = ((refl, tt), ((refl, tt), ((refl, tt), ((refl, tt), ((refl, tt), ((refl, tt), ((refl, tt), ((refl, tt), ((refl, tt), ((refl, tt), ((refl, tt), ((refl, tt), ((refl, tt), ((refl, tt), ((refl, tt), ((refl, tt), ((refl, tt), ((refl, tt), ((refl, refl), ((refl, refl), tt))))))))))))))))))))

pub refused_0 : (w : ℕ) → step config (state config (front 15 row)) w (ask.Tidy) ≡ Err NotThere
refused_0 w = refl

pub rank_last : (state config (front 20 row)).rank ≡ 4
rank_last = refl

pub fates_last : map fate_of (state config (front 20 row)).tasks ≡ Some fate.Run ∷ []
fates_last = refl

pub counts_last : counts (state config (front 20 row)) ≡ record { submitted = 1; run = 1; caller = 0; rejected = 0; discarded = 0; handedback = 0; removed = 0; cancelled = 0; completed = 1; queued = 0; live = 0; largest = 2 }
counts_last = refl

pub counters_last : counters (front 20 row) ≡ record { submitted = 1; run = 1; caller = 0; rejected = 0; discarded = 0; handedback = 0; removed = 0; cancelled = 0; completed = 1; queued = 0; live = 0; largest = 2 }
counters_last = refl

pub fates_in_words : (has_fate fate.Run (front 20 row) 0 ≡ true) × (has_fate fate.RunByCaller (front 20 row) 0 ≡ false) × (has_fate fate.Rejected (front 20 row) 0 ≡ false) × (has_fate fate.Discarded (front 20 row) 0 ≡ false) × (has_fate fate.HandedBack (front 20 row) 0 ≡ false) × (has_fate fate.Removed (front 20 row) 0 ≡ false) × (has_fate fate.Cancelled (front 20 row) 0 ≡ false)
fates_in_words = (refl, refl, refl, refl, refl, refl, refl)

pub words_agree : agrees_at_fronts config (front 20 row) ≡ true
words_agree = refl

pub next_holds : NextHolds config (front 20 row)
next_holds = (refl, refl, (refl, refl, (refl, refl, (refl, refl, (refl, refl, (refl, refl, (refl, refl, (refl, refl, (refl, refl, (refl, refl, (refl, refl, (refl, refl, (refl, refl, (refl, refl, (refl, refl, (refl, refl, (refl, refl, (refl, refl, (refl, refl, (refl, refl, tt))))))))))))))))))))

pub owed : owed_at_fronts config (front 20 row) ≡ 0 ∷ 0 ∷ 1 ∷ 1 ∷ 2 ∷ 3 ∷ 7 ∷ 8 ∷ 9 ∷ 10 ∷ 14 ∷ 16 ∷ 17 ∷ 6 ∷ 7 ∷ 8 ∷ 9 ∷ 10 ∷ 10 ∷ 7 ∷ 4 ∷ []
owed = refl

pub line_last : waiting_line config (front 20 row) ≡ queue config (front 20 row)
line_last = refl
