-- Worked row 29: each entry is the one that the step gives at its front, and each refusal is the step's.
use Rattle.std.proofs.Common.{◌≡◌, List, [], ◌∷◌, Some, true, map, refl}
use Rattle.test_model.proofs.Entries.{entry, slot, front, Config, Unbounded, Entry, queue, state, fate_of, counts, Legal, waiting_line, counters}
use Rattle.test_model.proofs.Entries.policy
use Rattle.test_model.proofs.Entries.ask
use Rattle.test_model.proofs.Entries.did
use Rattle.test_model.proofs.Entries.opened
use Rattle.test_model.proofs.Entries.took
use Rattle.test_model.proofs.Agree.{agrees_at_fronts, owed_at_fronts, NextHolds}

abbrev pub config : Config
config = record { core = 1; maximum = 1; queue = Unbounded; keep = 5; core_timeout = true; policy = policy.Abort; record_limit = 4096 }

abbrev pub row : List Entry
row =
    entry ask.Prestart (did.Prestart (Some (slot 0)))
    ∷ entry (ask.Open (slot 0)) (did.Open (slot 0) opened.Live)
    ∷ entry (ask.Take (slot 0)) (did.Take (slot 0) took.Idle)
    ∷ entry (ask.Tick 5) (did.Tick 5)
    ∷ entry (ask.Take (slot 0)) (did.Take (slot 0) took.Leave)
    ∷ entry ask.Prestart (did.Prestart (Some (slot 0)))
    ∷ entry ask.Stop (did.Stop 0)
    ∷ entry (ask.Open (slot 0)) (did.Open (slot 0) opened.GivenUp)
    ∷ []

pub legal : Legal config (front 8 row)
legal = ((refl, tt), ((refl, tt), ((refl, refl), ((refl, tt), ((refl, tt), ((refl, tt), ((refl, tt), ((refl, refl), tt))))))))

pub rank_last : (state config (front 8 row)).rank ≡ 2
rank_last = refl

pub fates_last : map fate_of (state config (front 8 row)).tasks ≡ []
fates_last = refl

pub counts_last : counts (state config (front 8 row)) ≡ record { submitted = 0; run = 0; caller = 0; rejected = 0; discarded = 0; handedback = 0; removed = 0; cancelled = 0; completed = 0; queued = 0; live = 0; largest = 1 }
counts_last = refl

pub counters_last : counters (front 8 row) ≡ record { submitted = 0; run = 0; caller = 0; rejected = 0; discarded = 0; handedback = 0; removed = 0; cancelled = 0; completed = 0; queued = 0; live = 0; largest = 1 }
counters_last = refl

pub words_agree : agrees_at_fronts config (front 8 row) ≡ true
words_agree = refl

pub next_holds : NextHolds config (front 8 row)
next_holds = (refl, refl, (refl, refl, (refl, refl, (refl, refl, (refl, refl, (refl, refl, (refl, refl, (refl, refl, tt))))))))

pub owed : owed_at_fronts config (front 8 row) ≡ 2 ∷ 5 ∷ 7 ∷ 4 ∷ 5 ∷ 5 ∷ 6 ∷ 7 ∷ 4 ∷ []
owed = refl

pub line_last : waiting_line config (front 8 row) ≡ queue config (front 8 row)
line_last = refl
