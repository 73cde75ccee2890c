use Rattle.std.specs.Prelude.{string_bytes}
use Rattle.tp_journal.proofs.Written.{next_line}
use Rattle.tp_journal.proofs.writers.lines_of.Goals as goal

pub loop-i-preserved : goal.loop-i-preserved
loop-i-preserved c =
    next_line (string_bytes c.loop-i.text) (string_bytes c.write_entry.new.line) c.args.before c.args.entries.now c.loop-i.i _ c.loop-i.invariant c.loop-i-test.true c.in_ok-write_entry.ensures
