-- Worked row 02: each entry is the one that the step gives at its front, and each refusal is the step's.
use Rattle.std.proofs.Common.{◌≡◌, List, [], ◌∷◌, true, false, map, refl}
use Rattle.test_model.proofs.Entries.{front, Config, Handoff, Entry, queue, state, fate_of, counts, Legal, waiting_line, counters}
use Rattle.test_model.proofs.Entries.policy
use Rattle.test_model.proofs.Agree.{agrees_at_fronts, owed_at_fronts, NextHolds}

abbrev pub config : Config
config = record { core = 2; maximum = 4; queue = Handoff; keep = 5; core_timeout = false; policy = policy.Discard; record_limit = 4096 }

abbrev pub row : List Entry
row = []

pub legal : Legal config (front 0 row)
legal = tt

pub rank_last : (state config (front 0 row)).rank ≡ 0
rank_last = refl

pub fates_last : map fate_of (state config (front 0 row)).tasks ≡ []
fates_last = refl

pub counts_last : counts (state config (front 0 row)) ≡ record { submitted = 0; run = 0; caller = 0; rejected = 0; discarded = 0; handedback = 0; removed = 0; cancelled = 0; completed = 0; queued = 0; live = 0; largest = 0 }
counts_last = refl

pub counters_last : counters (front 0 row) ≡ record { submitted = 0; run = 0; caller = 0; rejected = 0; discarded = 0; handedback = 0; removed = 0; cancelled = 0; completed = 0; queued = 0; live = 0; largest = 0 }
counters_last = refl

pub words_agree : agrees_at_fronts config (front 0 row) ≡ true
words_agree = refl

pub next_holds : NextHolds config (front 0 row)
next_holds = tt

pub owed : owed_at_fronts config (front 0 row) ≡ 4 ∷ []
owed = refl

pub line_last : waiting_line config (front 0 row) ≡ queue config (front 0 row)
line_last = refl
