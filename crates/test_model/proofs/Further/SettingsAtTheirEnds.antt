-- Worked row settings at their ends: each entry is the one that the step gives at its front, and each refusal is the step's.
use Rattle.std.proofs.Common.{◌≡◌, ℕ, List, [], ◌∷◌, Err, true, false, map, refl}
use Rattle.test_model.proofs.Entries.{entry, front, Config, Unbounded, BadSizes, ClockBack, KeepZero, Entry, queue, state, fate_of, counts, step, Legal, waiting_line, counters}
use Rattle.test_model.proofs.Entries.policy
use Rattle.test_model.proofs.Entries.ask
use Rattle.test_model.proofs.Entries.did
use Rattle.test_model.proofs.Agree.{agrees_at_fronts, owed_at_fronts, NextHolds}

abbrev pub config : Config
config = record { core = 0; maximum = 3; queue = Unbounded; keep = 1; core_timeout = false; policy = policy.Abort; record_limit = 4096 }

abbrev pub row : List Entry
row =
    entry (ask.Tick 5) (did.Tick 5)
    ∷ entry (ask.Tick 5) (did.Tick 5)
    ∷ entry (ask.Maximum 1024) (did.Maximum 1024)
    ∷ entry (ask.Maximum 1) (did.Maximum 1)
    ∷ entry (ask.Core 1) (did.Core 1 0)
    ∷ entry (ask.Core 0) (did.Core 0 0)
    ∷ entry (ask.Keep 0) (did.Keep 0)
    ∷ entry (ask.Keep 3) (did.Keep 3)
    ∷ entry (ask.CoreTimeout true) (did.CoreTimeout true)
    ∷ entry (ask.CoreTimeout false) (did.CoreTimeout false)
    ∷ entry (ask.Keep 0) (did.Keep 0)
    ∷ []

pub legal : Legal config (front 11 row)
legal = ((refl, tt), ((refl, tt), ((refl, tt), ((refl, tt), ((refl, tt), ((refl, tt), ((refl, tt), ((refl, tt), ((refl, tt), ((refl, tt), ((refl, tt), tt)))))))))))

pub refused_0 : (w : ℕ) → step config (state config (front 2 row)) w (ask.Tick 4) ≡ Err ClockBack
refused_0 w = refl

pub refused_1 : (w : ℕ) → step config (state config (front 2 row)) w (ask.Maximum 0) ≡ Err BadSizes
refused_1 w = refl

pub refused_2 : (w : ℕ) → step config (state config (front 2 row)) w (ask.Maximum 1025) ≡ Err BadSizes
refused_2 w = refl

pub refused_3 : (w : ℕ) → step config (state config (front 4 row)) w (ask.Core 2) ≡ Err BadSizes
refused_3 w = refl

pub refused_4 : (w : ℕ) → step config (state config (front 7 row)) w (ask.CoreTimeout true) ≡ Err KeepZero
refused_4 w = refl

pub refused_5 : (w : ℕ) → step config (state config (front 9 row)) w (ask.Keep 0) ≡ Err KeepZero
refused_5 w = refl

pub refused_6 : (w : ℕ) → step config (state config (front 11 row)) w (ask.Maximum 2000) ≡ Err BadSizes
refused_6 w = refl

pub rank_last : (state config (front 11 row)).rank ≡ 0
rank_last = refl

pub fates_last : map fate_of (state config (front 11 row)).tasks ≡ []
fates_last = refl

pub counts_last : counts (state config (front 11 row)) ≡ record { submitted = 0; run = 0; caller = 0; rejected = 0; discarded = 0; handedback = 0; removed = 0; cancelled = 0; completed = 0; queued = 0; live = 0; largest = 0 }
counts_last = refl

pub counters_last : counters (front 11 row) ≡ record { submitted = 0; run = 0; caller = 0; rejected = 0; discarded = 0; handedback = 0; removed = 0; cancelled = 0; completed = 0; queued = 0; live = 0; largest = 0 }
counters_last = refl

pub words_agree : agrees_at_fronts config (front 11 row) ≡ true
words_agree = refl

pub next_holds : NextHolds config (front 11 row)
next_holds = (refl, refl, (refl, refl, (refl, refl, (refl, refl, (refl, refl, (refl, refl, (refl, refl, (refl, refl, (refl, refl, (refl, refl, (refl, refl, tt)))))))))))

pub owed : owed_at_fronts config (front 11 row) ≡ 4 ∷ 4 ∷ 4 ∷ 4 ∷ 4 ∷ 4 ∷ 4 ∷ 4 ∷ 4 ∷ 4 ∷ 4 ∷ 4 ∷ []
owed = refl

pub line_last : waiting_line config (front 11 row) ≡ queue config (front 11 row)
line_last = refl
