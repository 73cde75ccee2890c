use Rattle.poolrun_commands.proofs.Explorations.{told_of_text}
use Rattle.poolrun_commands.proofs.explores.told_of_text.Goals as goal

pub returns : goal.returns
returns g c =
    told_of_text g.P.Reading.says c.args.text.now c.in_ok-named.named c.args.exploring.now c.told_of_named.result c.in_ok-named.ensures.says c.told_of_named.ensures
