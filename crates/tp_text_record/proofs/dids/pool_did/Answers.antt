use Rattle.std.proofs.Common.{refl}
use Rattle.tp_record.specs.declared.entries.Did.TheVariants as did
use Rattle.tp_text_record.proofs.DidLaws.{no_did, alone_did}
use Rattle.tp_text_record.proofs.dids.pool_did.Goals as goal

pub returns-in-Shutdown : goal.returns-in-Shutdown
returns-in-Shutdown c = rw c.in-Shutdown.is (alone_did did.Shutdown _ _ tt refl (λ x. x) c.alone.ensures)

pub returns-in-Tidy : goal.returns-in-Tidy
returns-in-Tidy c = rw c.in-Tidy.is (alone_did did.Tidy _ _ tt refl (λ x. x) c.alone-in-Tidy.ensures)

pub returns-in-Ended : goal.returns-in-Ended
returns-in-Ended c = rw c.in-Ended.is (alone_did did.Ended _ _ tt refl (λ x. x) c.alone-in-Ended.ensures)

pub returns-in_err-drained-in-Stop : goal.returns-in_err-drained-in-Stop
returns-in_err-drained-in-Stop c = rw (c.from_residual.ensures, c.in-Stop.is) (no_did _ _ c.in_err-drained-in-Stop.ensures)

pub returns-in_err-last_number-in-Purge : goal.returns-in_err-last_number-in-Purge
returns-in_err-last_number-in-Purge c = rw (c.from_residual-in_err-last_number-in-Purge.ensures, c.in-Purge.is) (no_did _ _ c.in_err-last_number-in-Purge.ensures)

pub returns-in_err-prestarted-in-Prestart : goal.returns-in_err-prestarted-in-Prestart
returns-in_err-prestarted-in-Prestart c = rw (c.from_residual-in_err-prestarted-in-Prestart.ensures, c.in-Prestart.is) (no_did _ _ c.in_err-prestarted-in-Prestart.ensures)
