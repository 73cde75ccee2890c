use Rattle.tp_laws.proofs.Model.Readings as readings
use Rattle.tp_laws.proofs.stepping.entry_is_given.Goals as goal

pub returns : goal.returns
returns c = readings.entry_given
