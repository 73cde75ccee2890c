use Rattle.std.proofs.Common.{◌++◌, string_bytes}
use Rattle.tp_text.specs.EndLines.{counts_line}
use Rattle.tp_text.proofs.LineLaws.{counts_in_steps, end_on_ok}
use Rattle.tp_text.proofs.ends.write_counts.Goals as goal

pub returns : goal.returns
returns c =
    let old = string_bytes c.args.line.now in
    let all = string_bytes c.write_workers.new.line in
    end_on_ok c.push_str.result all (string_bytes c.push_str.new.self) (old ++ counts_line c.args.counts.now) c.push_str.ensures.bytes
    (counts_in_steps c.args.counts.now old (string_bytes c.write_ran.new.line) (string_bytes c.write_lost.new.line) all c.in_ok-write_ran.ensures c.in_ok-write_lost.ensures c.in_ok-write_workers.ensures)
