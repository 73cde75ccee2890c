-- What reads a state's completions, or the most workers that it had: no step, and no caller.
use Rattle.std.proofs.Common.{◌≡◌, ℕ, ◌||◌, cond, Err, refl, ap}
use Rattle.std.specs.Prelude.{if◌then◌else◌}
use Rattle.tp_types.specs.declared.configs.Config.{Config}
use Rattle.tp_types.specs.declared.configs.QueueKind.{QueueKind}
use Rattle.tp_types.specs.declared.configs.QueueKind.TheVariants as queues
use Rattle.tp_types.specs.declared.ids.TaskId.{TaskId}
use Rattle.tp_types.specs.declared.refusals.PoolError.TheVariants.{UnknownTask}
use Rattle.tp_types.specs.declared.tasks.Place.{Place}
use Rattle.tp_types.specs.declared.tasks.Place.TheVariants as at
use Rattle.tp_record.specs.declared.entries.Ask.{Ask}
use Rattle.tp_record.specs.declared.entries.Ask.TheVariants as ask
use Rattle.tp_record.specs.declared.entries.Did.{Did}
use Rattle.tp_record.specs.declared.entries.Did.TheVariants as did
use Rattle.tp_record.specs.declared.entries.Seconded.TheVariants as seconded
use Rattle.tp_record.specs.State as states
use Rattle.tp_record.specs.Step.{is_known, offer_answer, offer_to, step, within_room}
use Rattle.tp_explore.specs.declared.callers.Caller.{Caller}
use Rattle.tp_explore.specs.declared.callers.Doing.{Doing}
use Rattle.tp_explore.specs.declared.callers.Doing.TheVariants.{Nothing, Submitting, Starting, Staffing}
use Rattle.tp_explore.specs.Situation.{bare, goes_on, is_with_submitter}
use Rattle.tp_explore.specs.Moves.{along, begun, submitting, after, next_call}

offer_to_bare : (q : QueueKind) (s : states.State) (t : TaskId) → offer_to q (bare s) t ≡ offer_to q s t
offer_to_bare queues.Handoff s t = refl
offer_to_bare _ s t = refl

offer_bare : (c : Config) (s : states.State) (t : TaskId) (p : Place) → offer_answer c (bare s) t p ≡ offer_answer c s t p
offer_bare c s t at.ToOffer = offer_to_bare c.queue s t
offer_bare c s t _ = refl

pub step_bare : (c : Config) (s : states.State) (w : ℕ) (a : Ask) → step c (bare s) w a ≡ step c s w a
step_bare c s w a = by_ask a
  where
    by_ask : (a : Ask) → step c (bare s) w a ≡ step c s w a
    by_ask (ask.Offer t) =
        ap (λ x. within_room c s (if is_known s t.0 then x else Err UnknownTask)) (offer_bare c s t (states.task_at s t.0).place)
    by_ask _ = refl

with_bare : (s : states.State) (p : Place) → is_with_submitter (bare s) p ≡ is_with_submitter s p
with_bare s (at.Held w) = refl
with_bare s _ = refl

goes_bare : (s : states.State) (t : ℕ) → goes_on (bare s) t ≡ goes_on s t
goes_bare s t = ap (λ b. (states.task_at s t).second || b) (with_bare s (states.task_at s t).place)

along_bare : (s : states.State) (c : Caller) (t : TaskId) → along (bare s) c t ≡ along s c t
along_bare s c t = ap (λ b. cond b (record c { doing = Submitting t }) (next_call c)) (goes_bare s t.0)

begun_bare : (s : states.State) (c : Caller) (d : Did) → begun (bare s) c d ≡ begun s c d
begun_bare s c (did.Submit t k p l) = along_bare s c t
begun_bare s c _ = refl

submitting_bare : (s : states.State) (c : Caller) (t : TaskId) (d : Did) → submitting (bare s) c t d ≡ submitting s c t d
submitting_bare s c t (did.Second u (seconded.StayReserve w)) = refl
submitting_bare s c t _ = along_bare s c t

pub after_bare : (s : states.State) (c : Caller) (d : Did) → after (bare s) c d ≡ after s c d
after_bare s c d = by_doing c.doing refl
  where
    by_doing : (x : Doing) → c.doing ≡ x → after (bare s) c d ≡ after s c d
    by_doing Nothing e = rw e (begun_bare s c d)
    by_doing (Submitting t) e = rw e (submitting_bare s c t d)
    by_doing (Starting more) e = rw e refl
    by_doing (Staffing w more) e = rw e refl
