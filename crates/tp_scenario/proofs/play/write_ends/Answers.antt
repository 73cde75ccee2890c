use Rattle.std.proofs.Common.{◌∙◌}
use Rattle.tp_record.specs.State.{state}
use Rattle.tp_scenario.proofs.EndLaws.{broken_fates, broken_counts, ends_whole, on_err, where_ok, where_err}
use Rattle.tp_scenario.proofs.play.write_ends.Goals as goal

pub returns-in_err-write_fates-clause-err : goal.returns-in_err-write_fates-clause-err
returns-in_err-write_fates-clause-err c =
    on_err c.from_residual.result
    (λ p is.
    let part = c.in_err-write_fates.ensures.err p is in
    broken_fates c.args.output.now.written.items c.write_fates.new.output.written.items (state p.config p.history) part.0 part.1)

pub returns-clause-ok : goal.returns-clause-ok
returns-clause-ok c =
    where_ok c.counts-2.result
    (λ written p is.
    ends_whole c.args.output.now.written.items c.write_fates.new.output.written.items c.state-2.new.self.written.items c.state.result (state p.config p.history)
    (c.in_ok-write_fates.ensures.ok p is) (c.state.ensures p is) c.in_ok-state.ensures.ok c.counts-2.new.self.written.items c.counts.result (c.counts.ensures p is) written)
    c.counts-2.ensures.ok

pub returns-clause-err : goal.returns-clause-err
returns-clause-err c =
    where_err c.counts-2.result
    (λ same p is.
    broken_counts c.args.output.now.written.items c.write_fates.new.output.written.items c.counts-2.new.self.written.items c.state.result (state p.config p.history)
    (c.in_ok-write_fates.ensures.ok p is) (c.state.ensures p is) (same ∙ c.in_ok-state.ensures.ok))
    c.counts-2.ensures.err
