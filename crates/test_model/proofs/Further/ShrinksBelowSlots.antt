-- Worked row shrinks below slots: each entry is the one that the step gives at its front, and each refusal is the step's.
use Rattle.std.proofs.Common.{◌≡◌, ℕ, List, [], ◌∷◌, Some, None, Err, true, false, map, refl}
use Rattle.test_model.proofs.Entries.{entry, slot, front, Config, Unbounded, BadSizes, NotThere, Entry, queue, state, fate_of, counts, step, Legal, waiting_line, counters}
use Rattle.test_model.proofs.Entries.policy
use Rattle.test_model.proofs.Entries.ask
use Rattle.test_model.proofs.Entries.did
use Rattle.test_model.proofs.Entries.opened
use Rattle.test_model.proofs.Entries.failed
use Rattle.test_model.proofs.Entries.took
use Rattle.test_model.proofs.Agree.{agrees_at_fronts, owed_at_fronts, NextHolds}

abbrev pub config : Config
config = record { core = 0; maximum = 3; queue = Unbounded; keep = 9; core_timeout = false; policy = policy.Abort; record_limit = 4096 }

abbrev pub row : List Entry
row =
    entry (ask.Core 3) (did.Core 3 0)
    ∷ entry ask.Prestart (did.Prestart (Some (slot 0)))
    ∷ entry ask.Prestart (did.Prestart (Some (slot 1)))
    ∷ entry ask.Prestart (did.Prestart (Some (slot 2)))
    ∷ entry (ask.Core 1) (did.Core 1 0)
    ∷ entry (ask.Maximum 1) (did.Maximum 1)
    ∷ entry (ask.Open (slot 0)) (did.Open (slot 0) opened.Live)
    ∷ entry (ask.Open (slot 1)) (did.Open (slot 1) opened.Live)
    ∷ entry (ask.Fail (slot 2)) (did.Fail (slot 2) failed.Nothing)
    ∷ entry (ask.Take (slot 0)) (did.Take (slot 0) took.Leave)
    ∷ entry ask.Prestart (did.Prestart None)
    ∷ entry (ask.Take (slot 1)) (did.Take (slot 1) took.Idle)
    ∷ entry (ask.Tick 9) (did.Tick 9)
    ∷ entry (ask.Maximum 3) (did.Maximum 3)
    ∷ entry (ask.Core 3) (did.Core 3 0)
    ∷ []

pub legal : Legal config (front 15 row)
legal = ((refl, tt), ((refl, tt), ((refl, tt), ((refl, tt), ((refl, tt), ((refl, tt), ((refl, tt), ((refl, tt), ((refl, tt), ((refl, tt), ((refl, tt), ((refl, refl), ((refl, refl), ((refl, refl), ((refl, tt), tt)))))))))))))))

pub refused_0 : (w : ℕ) → step config (state config (front 13 row)) w (ask.Take (slot 1)) ≡ Err NotThere
refused_0 w = refl

pub refused_1 : (w : ℕ) → step config (state config (front 13 row)) w (ask.Core 2) ≡ Err BadSizes
refused_1 w = refl

pub refused_2 : (w : ℕ) → step config (state config (front 13 row)) w (ask.Maximum 2000) ≡ Err BadSizes
refused_2 w = refl

pub refused_3 : (w : ℕ) → step config (state config (front 13 row)) w (ask.Maximum 0) ≡ Err BadSizes
refused_3 w = refl

pub refused_4 : (w : ℕ) → step config (state config (front 15 row)) w (ask.Take (slot 1)) ≡ Err NotThere
refused_4 w = refl

pub rank_last : (state config (front 15 row)).rank ≡ 0
rank_last = refl

pub fates_last : map fate_of (state config (front 15 row)).tasks ≡ []
fates_last = refl

pub counts_last : counts (state config (front 15 row)) ≡ record { submitted = 0; run = 0; caller = 0; rejected = 0; discarded = 0; handedback = 0; removed = 0; cancelled = 0; completed = 0; queued = 0; live = 1; largest = 2 }
counts_last = refl

pub counters_last : counters (front 15 row) ≡ record { submitted = 0; run = 0; caller = 0; rejected = 0; discarded = 0; handedback = 0; removed = 0; cancelled = 0; completed = 0; queued = 0; live = 1; largest = 2 }
counters_last = refl

pub words_agree : agrees_at_fronts config (front 15 row) ≡ true
words_agree = refl

pub next_holds : NextHolds config (front 15 row)
next_holds = (refl, refl, (refl, refl, (refl, refl, (refl, refl, (refl, refl, (refl, refl, (refl, refl, (refl, refl, (refl, refl, (refl, refl, (refl, refl, (refl, refl, (refl, refl, (refl, refl, (refl, refl, tt)))))))))))))))

pub owed : owed_at_fronts config (front 15 row) ≡ 5 ∷ 5 ∷ 5 ∷ 5 ∷ 6 ∷ 6 ∷ 8 ∷ 11 ∷ 12 ∷ 13 ∷ 13 ∷ 13 ∷ 10 ∷ 7 ∷ 4 ∷ 4 ∷ []
owed = refl

pub line_last : waiting_line config (front 15 row) ≡ queue config (front 15 row)
line_last = refl
