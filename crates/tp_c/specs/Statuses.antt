-- How a call ends, by number.
use Rattle.std.specs.Prelude.{ℕ, Bool, true, false, Result, Ok, Err}
use Rattle.tp_types.specs.declared.refusals.PoolError.{PoolError}
use Rattle.tp_types.specs.PoolError.{refusal_number}
use Rattle.tp_c.specs.declared.statuses.Status.{Status}
use Rattle.tp_c.specs.declared.statuses.Status.TheVariants.{Done, Refused, Flaw, TooSmall, WrongKind, WrongAsk, TooMany}

abbrev pub status_number : Status → ℕ
status_number Done = 0
status_number (Refused e) = refusal_number e
status_number Flaw = 32
status_number TooSmall = 33
status_number WrongKind = 34
status_number WrongAsk = 35
status_number TooMany = 37

-- how a run ends that answers nothing, and an audit that answers whether its record is legal
abbrev pub run_status : Result (Unit {0}) PoolError → Status
run_status (Ok _) = Done
run_status (Err e) = Refused e

abbrev pub audit_status : Result Bool PoolError → Status
audit_status (Ok true) = Done
audit_status (Ok false) = Flaw
audit_status (Err e) = Refused e
