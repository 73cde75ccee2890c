use Rattle.std.proofs.Common.{rules, arith}
use Rattle.std.proofs.lemmas.Grind.{common_steps}
use Rattle.tp_text_record.specs.RecordText.{written}
use Rattle.tp_text_record.proofs.PoolTexts.{pool_read, no_usual}
use Rattle.tp_text_record.proofs.records.written_pool.Goals as goal

pub returns-in_err-pool : goal.returns-in_err-pool
returns-in_err-pool c = rw c.from_residual.ensures (λ v fits. c.in_err-pool.ensures (written v) fits.0)

pub returns-then-eq : goal.returns-then-eq
returns-then-eq c = no_usual c.args.text.now c.in_ok-pool.pool c.in_ok-pool.ensures.0 c.in_ok-pool.ensures.1 (search rules)

pub returns : goal.returns
returns c = rw c.config.ensures (pool_read c.args.text.now c.in_ok-pool.pool c.in_ok-pool.ensures.0 c.in_ok-pool.ensures.1 (λ e. grind (arith, common_steps)))
