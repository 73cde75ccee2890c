-- Each entry of a legal record has an answer of the form of its ask, so a legal record has a text where its numbers are in the range of their
-- types.
use Rattle.std.proofs.Common.{ℕ, ◌-◌, Bool, true, false, List, [], ◌∷◌, ◌++◌, reverse, Some, None, subst, arith}
use Rattle.std.specs.Prelude.{◌==◌, IfSome, if◌then◌else◌}
use Rattle.std.specs.List.{AllByRecursion}
use Rattle.std.proofs.lemmas.List.{reverse-append, length-reverse}
use Rattle.tp_types.specs.Config.{HasGoodCapacity, IsConfig}
use Rattle.tp_types.specs.declared.configs.Config.{Config}
use Rattle.tp_types.specs.declared.configs.QueueKind.{QueueKind}
use Rattle.tp_types.specs.declared.configs.QueueKind.TheVariants.{Handoff, Unbounded, Bounded, Priority}
use Rattle.tp_record.specs.declared.entries.Entry.{Entry}
use Rattle.tp_record.specs.Step.{Legal}
use Rattle.tp_laws.proofs.Asked.{IsAsked, asked_each}
use Rattle.tp_laws.proofs.OwedLaws.{room_is_enough}
use Rattle.tp_text.specs.Fits.{Fits32, Fits64}
use Rattle.tp_text.specs.Pools.{FitsQueue}
use Rattle.tp_text_record.specs.declared.versions.Version.TheVariants as version
use Rattle.tp_text_record.specs.EntryFits.{IsInRange, IsStep}
use Rattle.tp_text_record.specs.RecordText.{HasPoolLine, HasText}

-- what holds of each of a list holds of each of it backwards

split_last : (P : Entry → Type 0) (ys : List Entry) (x : Entry) → AllByRecursion P (ys ++ x ∷ []) → AllByRecursion P ys × P x
split_last P [] x all = (tt, all.0)
split_last P (y ∷ ys) x all =
    let rest = split_last P ys x all.1 in
    ((all.0, rest.0), rest.1)

each_back : (P : Entry → Type 0) (xs : List Entry) → AllByRecursion P (reverse xs) → AllByRecursion P xs
each_back P [] all = tt
each_back P (x ∷ xs) all =
    let both = split_last P (reverse xs) x (subst (λ ys. AllByRecursion P ys) (reverse-append (x ∷ []) xs) all) in
    (both.1, each_back P xs both.0)

steps_each : (es : List Entry) → AllByRecursion IsInRange es → AllByRecursion IsAsked es → AllByRecursion (IsStep version.Two) es
steps_each [] fits asks = tt
steps_each (e ∷ es) fits asks = (((fits.0.0, fits.0.1, asks.0), tt), steps_each es fits.1 asks.1)

-- the settings that a pool can have are in the range of their types, but for the keep-alive, which has no bound

queue_fits : (q : QueueKind) → HasGoodCapacity q → FitsQueue q
queue_fits Handoff good = tt
queue_fits Unbounded good = tt
queue_fits Priority good = tt
queue_fits (Bounded n) good = let most = good.1 in omega (arith, most)

limit_fits : (b : Bool) (n : ℕ) → Fits32 n → IfSome (if b then None else Some n) Fits32
limit_fits true n fits = tt
limit_fits false n fits = fits

config_fits : (c : Config) → IsConfig c → Fits64 c.keep → HasPoolLine c
config_fits c config keep =
    let most = config.greatest_maximum in
    let below = config.greatest_core in
    let limit : Fits32 c.record_limit = omega (arith, config.greatest_limit) in
    ((omega (arith, most, below), omega (arith, most), queue_fits c.queue config.capacity, keep, limit_fits (c.record_limit == 4096) c.record_limit limit), limit)

pub legal_has_text : (c : Config) (es : List Entry) → IsConfig c → Fits64 c.keep → Legal c (reverse es) → AllByRecursion IsInRange es → HasText version.Two c es
legal_has_text c es config keep legal fits =
    let room = room_is_enough c (reverse es) config.least_limit legal in
    let limit = config.greatest_limit in
    record {
      config = (config_fits c config keep, tt);
      count = omega (arith, room, limit, length-reverse es);
      steps = steps_each es fits (each_back IsAsked es (asked_each c (reverse es) legal));
    }
