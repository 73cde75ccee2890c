use Rattle.std.proofs.Common.{rules}
use Rattle.tp_story.proofs.Slots.{slots_listed}
use Rattle.tp_story.proofs.times.Times.slots.Goals as goal

pub returns-clause-slots : goal.returns-clause-slots
returns-clause-slots c = λ f h legal timed w. slots_listed f h c.args.self.now c.sort.new.self.items legal timed (search rules) w
