use Rattle.std.proofs.Common.{◌∙◌, ap}
use Rattle.tp_text_record.specs.Rests.{left}
use Rattle.tp_text_record.proofs.Splitting.{first_taken}
use Rattle.tp_text_record.proofs.words.next_word.Goals as goal

pub returns : goal.returns
returns c = ap left c.in_ok-text.was ∙ first_taken _ _ _ c.first_word.ensures
