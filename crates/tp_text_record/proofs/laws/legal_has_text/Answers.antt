use Rattle.tp_text_record.proofs.Forms.{legal_has_text}
use Rattle.tp_text_record.proofs.laws.legal_has_text.Goals as goal

pub returns : goal.returns
returns c = legal_has_text
