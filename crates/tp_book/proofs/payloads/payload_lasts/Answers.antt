use Rattle.tp_book.proofs.Carried.{lasts}
use Rattle.tp_book.proofs.payloads.payload_lasts.Goals as goal

pub returns : goal.returns
returns g c = λ t k ms old new makes none has. lasts t k ms old new makes none has
