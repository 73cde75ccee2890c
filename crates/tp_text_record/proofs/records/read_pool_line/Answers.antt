use Rattle.std.proofs.Common.{◌≡◌, true}
use Rattle.tp_text_record.proofs.PoolTexts.{unsuited_pool}
use Rattle.tp_text_record.proofs.records.read_pool_line.Goals as goal

pub returns-in_err-config : goal.returns-in_err-config
returns-in_err-config c = rw c.from_residual.ensures (λ v fits. c.in_err-config.ensures v fits.0)

pub returns-then-suits_queue : goal.returns-then-suits_queue
returns-then-suits_queue c = ((c.in_ok-config.ensures.0, c.suits_queue.ensures.0 c.if-suits_queue.true), c.in_ok-config.ensures.1)

pub returns-else-suits_queue : goal.returns-else-suits_queue
returns-else-suits_queue c =
    unsuited_pool c.args.version c.args.line.now c.in_ok-config.config c.in_ok-config.ensures.0 c.in_ok-config.ensures.1
    (λ suits. let yes : c.suits_queue.result ≡ true = c.suits_queue.ensures.1 suits in let no = c.if-suits_queue.false in cc)
