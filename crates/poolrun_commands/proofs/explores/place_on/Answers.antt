use Rattle.poolrun_commands.proofs.Explorations.{end_on_within}
use Rattle.poolrun_commands.proofs.explores.place_on.Goals as goal

pub returns-in-Some : goal.returns-in-Some
returns-in-Some g c =
    let found = c.in-Some.ensures.lookup in
    end_on_within c.args.explored.now c.requires c.deref.result.now c.deref.ensures.value _ c.in-Some.end.now found.3.0 found.1
