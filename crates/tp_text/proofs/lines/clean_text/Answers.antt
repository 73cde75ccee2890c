use Rattle.std.proofs.lemmas.Str.{IsUtf8-from_ascii}
use Rattle.tp_text.proofs.lines.clean_text.Goals as goal

pub from_utf8_unchecked-requires : goal.from_utf8_unchecked-requires
from_utf8_unchecked-requires c = let clean = c.is_clean.ensures.0 c.if-not-is_clean.false in IsUtf8-from_ascii c.args.line.now clean.ascii
