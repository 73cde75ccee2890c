-- What the steps of a submission come to, each by itself.
use Rattle.std.specs.Prelude.{ℕ, Bool, ◌≡◌, List, Option}
use Rattle.tp_types.specs.declared.configs.Config.{Config}
use Rattle.tp_types.specs.declared.configs.Verdict.{Verdict}
use Rattle.tp_types.specs.declared.ids.TaskId.{TaskId}
use Rattle.tp_types.specs.declared.refusals.PoolError.{PoolError}
use Rattle.tp_record.specs.declared.entries.Ask.{Ask}
use Rattle.tp_record.specs.declared.entries.Ask.TheVariants as ask
use Rattle.tp_record.specs.declared.entries.Did.{Did}
use Rattle.tp_record.specs.declared.entries.Entry.{Entry}
use Rattle.tp_record.specs.declared.entries.Ruled.TheVariants as ruled
use Rattle.tp_machine_state.specs.Payloads.{HandsOut}
use Rattle.tp_machine.specs.Answers.{ruled_of}
use Rattle.tp_glance.specs.Word.{IsFrontOf}
use Rattle.tp_book.specs.PassView.{PassView}
use Rattle.tp_pool_holds.specs.Passes.{IsRefusal}
use Rattle.tp_pool_holds.specs.Steps.{Makes}
use Rattle.tp_pool_holds.specs.declared.tasks.Payload.{Payload}

-- as this pass knows it a pool with these settings refuses this ask, whose task it may have released
abbrev pub IsHalted : Bool → Config → PassView → Ask → Type 0
IsHalted keeps c p a = (e : PoolError) × IsRefusal keeps c p a e

-- a verdict of the pass rejected task t, and took this out of the pool's book, where it lay for t: at a history between the two
pub record TakesOut {J : Type 0} (c : Config) (by t : ℕ) (payload : Option (Payload J)) (before after : List Entry) : Type 0 where
  pub number : TaskId
  pub is_task : number.0 ≡ t
  pub verdict : Verdict
  pub made : Did
  pub rejects : ruled_of made ≡ ruled.Rejected
  pub then_history : List Entry
  pub makes : Makes J c by before (ask.Verdict number verdict) made (λ old new. HandsOut old new t payload) then_history
  pub goes_on : IsFrontOf then_history after
