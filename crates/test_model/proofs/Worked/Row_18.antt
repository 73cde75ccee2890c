-- Worked row 18: each entry is the one that the step gives at its front, and each refusal is the step's.
use Rattle.std.proofs.Common.{◌≡◌, ℕ, List, [], ◌∷◌, Ok, Err, true, false, refl}
use Rattle.test_model.proofs.Entries.{entry, task, slot, front, Config, Unbounded, UnknownSlot, NotThere, Entry, queue, state, step, Legal, waiting_line, pos}
use Rattle.test_model.proofs.Entries.kinds
use Rattle.test_model.proofs.Entries.policy
use Rattle.test_model.proofs.Entries.ask
use Rattle.test_model.proofs.Entries.did
use Rattle.test_model.proofs.Entries.looked
use Rattle.test_model.proofs.Entries.opened
use Rattle.test_model.proofs.Entries.took
use Rattle.test_model.proofs.Entries.started
use Rattle.test_model.proofs.Agree.{agrees_at_fronts, owed_at_fronts, NextHolds}

abbrev pub config : Config
config = record { core = 1; maximum = 1; queue = Unbounded; keep = 5; core_timeout = false; policy = policy.Abort; record_limit = 4096 }

abbrev pub row : List Entry
row =
    entry (ask.Submit kinds.Plain 0) (did.Submit (task 0) kinds.Plain 0 (looked.Reserve (slot 0)))
    ∷ entry (ask.Open (slot 0)) (did.Open (slot 0) opened.Live)
    ∷ entry (ask.Take (slot 0)) (did.Take (slot 0) (took.Held (task 0)))
    ∷ entry (ask.Begin (slot 0)) (did.Begin (slot 0) (started.Run (task 0)))
    ∷ entry (ask.End (slot 0) (Ok (pos 1))) (did.End (slot 0) (task 0) (Ok (pos 1)))
    ∷ entry (ask.Take (slot 0)) (did.Take (slot 0) took.Idle)
    ∷ []

pub legal : Legal config (front 6 row)
legal = ((refl, tt), ((refl, tt), ((refl, tt), ((refl, tt), ((refl, tt), ((refl, refl), tt))))))

pub refused_0 : (w : ℕ) → step config (state config (front 6 row)) w (ask.Begin (slot 7)) ≡ Err UnknownSlot
refused_0 w = refl

pub refused_1 : (w : ℕ) → step config (state config (front 6 row)) w (ask.Begin (slot 0)) ≡ Err NotThere
refused_1 w = refl

pub words_agree : agrees_at_fronts config (front 6 row) ≡ true
words_agree = refl

pub next_holds : NextHolds config (front 6 row)
next_holds = (refl, refl, (refl, refl, (refl, refl, (refl, refl, (refl, refl, (refl, refl, tt))))))

pub owed : owed_at_fronts config (front 6 row) ≡ 5 ∷ 6 ∷ 9 ∷ 10 ∷ 11 ∷ 16 ∷ 4 ∷ []
owed = refl

pub line_last : waiting_line config (front 6 row) ≡ queue config (front 6 row)
line_last = refl
