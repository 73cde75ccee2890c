use Rattle.std.proofs.Common.{refl, subst}
use Rattle.std.specs.Io.KnownBytes.{Appends}
use Rattle.tp_text.specs.Watching.{sink}
use Rattle.poolrun_commands.proofs.explores.explore_text.Goals as goal

pub returns-in-Ok-write_text : goal.returns-in-Ok-write_text
returns-in-Ok-write_text g c =
    let told = c.in-Ok.ensures in
    let written = subst (Appends (g.W.Write.contents (sink c.args.out.now)) (g.W.Write.contents (sink c.write_text.new.writer))) c.as_slice.ensures.value c.in-Ok-write_text.ensures.written in
    (c.args.text.now, refl, (told.0, told.1, (c.in-Ok.told.text.items, told.2, written)))
