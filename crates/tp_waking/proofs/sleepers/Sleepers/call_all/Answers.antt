use Rattle.std.proofs.Common.{◌≡◌, ◌∙◌, rules, false}
use Rattle.std.specs.Prelude.{is_some}
use Rattle.tp_waking.proofs.Marks.{called-one, called-last}
use Rattle.tp_waking.proofs.sleepers.Sleepers.call_all.Goals as goal

pub loop-preserved : goal.loop-preserved
loop-preserved c = called-one c.loop.self c.call_one.new.self c.call_one.result c.call_one.ensures.some c.call_one.ensures.kept ∙ c.loop.invariant

pub returns-clause-rests : goal.returns-clause-rests
returns-clause-rests c =
    let ended : is_some c.call_one.result ≡ false = search rules in
    called-last c.loop.self c.call_one.new.self c.call_one.result ended c.call_one.ensures.none c.call_one.ensures.kept ∙ c.loop.invariant
