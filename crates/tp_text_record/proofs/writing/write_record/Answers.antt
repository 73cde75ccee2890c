use Rattle.std.proofs.Common.{Some}
use Rattle.std.specs.Prelude.{string_bytes}
use Rattle.tp_text_record.proofs.WrittenText.{first_written, next_written}
use Rattle.tp_text_record.proofs.writing.write_record.Goals as goal

pub loop-i-init : goal.loop-i-init
loop-i-init c =
    first_written (Some (string_bytes c.args.text.now)) (Some (string_bytes c.write.new.self)) c.args.config.now c.in_ok-write.ensures.bytes

pub loop-i-preserved : goal.loop-i-preserved
loop-i-preserved c =
    next_written (Some (string_bytes c.args.text.now)) (Some (string_bytes c.loop-i.text)) (Some (string_bytes c.write_entry.new.line)) c.args.config.now c.args.entries.now c.loop-i.i _ c.loop-i.invariant c.loop-i-test.true c.in_ok-write_entry.ensures
