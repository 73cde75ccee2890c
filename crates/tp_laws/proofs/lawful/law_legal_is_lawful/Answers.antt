use Rattle.tp_laws.proofs.AllLaws as laws
use Rattle.tp_laws.proofs.lawful.law_legal_is_lawful.Goals as goal

pub returns : goal.returns
returns c = laws.sized_is_lawful
