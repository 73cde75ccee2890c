use Rattle.tp_text.proofs.RunLaws.{fate_lines-push}
use Rattle.tp_text.proofs.runs.fates_grow.Goals as goal

pub returns : goal.returns
returns c = fate_lines-push
