use Rattle.tp_text_record.proofs.OneText.{entry_line-injective, record_text-injective}
use Rattle.tp_text_record.proofs.laws.texts_are_distinct.Goals as goal

pub returns-clause-entries : goal.returns-clause-entries
returns-clause-entries c = entry_line-injective

pub returns-clause-records : goal.returns-clause-records
returns-clause-records c = record_text-injective
