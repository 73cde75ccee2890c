use Rattle.std.proofs.Common.{sym, ◌∙◌, ap}
use Rattle.tp_text_record.specs.Rests.{left}
use Rattle.tp_text_record.proofs.Splitting.{split_some}
use Rattle.tp_text_record.proofs.words.alone.Goals as goal

pub returns-in-Some : goal.returns-in-Some
returns-in-Some g c = λ e. split_some c.in-Some.field-0.now (sym (ap left c.in-Some.is) ∙ e)
