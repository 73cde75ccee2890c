use Rattle.std.proofs.Common.{◌≢◌, codes, arith}
use Rattle.std.proofs.lemmas.Grind.{common_steps}
use Rattle.tp_text.proofs.PoolLaws.{no_options}
use Rattle.tp_text.proofs.pools.stated_options.Goals as goal

pub returns-in_err-limit-in-None : goal.returns-in_err-limit-in-None
returns-in_err-limit-in-None c =
    let other : c.args.text.now ≢ codes "coretimeout" = (λ e. absurd (grind (arith, common_steps))) in
    rw c.from_residual.ensures (no_options c.args.text.now other c.in-None.ensures c.in_err-limit-in-None.ensures)
