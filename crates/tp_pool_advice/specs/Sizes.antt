-- What room so many jobs want in a record.
use Rattle.std.specs.Prelude.{ℕ, ◌≡◌, ◌≢◌, ◌⊎◌, ◌+◌, ◌*◌, ◌<◌, ◌≤◌, true, List, [], ◌∷◌, Err}
use Rattle.tp_types.specs.declared.configs.Config.{Config}
use Rattle.tp_types.specs.declared.refusals.PoolError.TheVariants.{BookFull}
use Rattle.tp_types.specs.declared.tasks.Kind.{Kind}
use Rattle.tp_record.specs.declared.entries.Ask.TheVariants as ask
use Rattle.tp_record.specs.declared.entries.Entry.{Entry}
use Rattle.tp_record.specs.Effects.{is_submit}
use Rattle.tp_record.specs.Fields.{rank, submitted}
use Rattle.tp_record.specs.State.{state}
use Rattle.tp_record.specs.Step.{IsFreeTo, Legal, step}
use Rattle.tp_laws.specs.Room.{lowers}

-- each entry is a submission, or does what is owed: nobody cancels, tells a moment, changes a size or tries a task again
abbrev pub IsOfJobs : List Entry → Type 0
IsOfJobs [] = Unit {0}
IsOfJobs (e ∷ h) = ((is_submit e.did ≡ true) ⊎ (lowers (rank h) e.did ≡ true)) × IsOfJobs h

-- where the record has thirteen entries for each of so many jobs, and four more, the submission of none of them is refused for want of room
abbrev pub JobsHaveRoom : Type 0
JobsHaveRoom = (c : Config) (h : List Entry) (w : ℕ) (k : Kind) (p jobs : ℕ) → Legal c h → IsOfJobs h → submitted h < jobs → jobs * 13 + 4 ≤ c.record_limit → c.record_limit ≤ 1048576 →
    IsFreeTo (state c h) (ask.Submit k p) w → step c (state c h) w (ask.Submit k p) ≢ Err BookFull
