use Rattle.std.proofs.Common.{refl, arith}
use Rattle.tp_text.specs.Fits.{Fits32}
use Rattle.tp_text.proofs.PoolLaws.{no_number, no_rest, one_number}
use Rattle.tp_text.proofs.pools.number_on.Goals as goal

pub returns-in_err-number : goal.returns-in_err-number
returns-in_err-number c = rw c.from_residual.ensures (no_number Fits32 (λ n f. omega (arith, f)) _ _ _ c.first_word.ensures c.in_err-number.ensures)

pub returns-in_err-rest : goal.returns-in_err-rest
returns-in_err-rest c = rw c.from_residual-in_err-rest.ensures (no_rest Fits32 (λ n f. omega (arith, f)) _ _ _ c.first_word.ensures (rw c.in_err-rest.was refl))

pub returns : goal.returns
returns c = one_number Fits32 (λ n f. omega (arith, f)) _ _ c.in_ok-rest.field-0.now _ c.in_ok-number.field-0 c.first_word.ensures c.in_ok-number.ensures.0 c.in_ok-number.ensures.1 (rw c.in_ok-rest.was refl)
