use Rattle.tp_record.specs.declared.entries.Ask.TheVariants as ask
use Rattle.tp_record.specs.declared.entries.Did.TheVariants as did
use Rattle.tp_record.specs.Step.{fitting}
use Rattle.tp_rules.specs.Answers.{no_settings}
use Rattle.tp_rules.proofs.Answered.{told_answer}
use Rattle.tp_rules.proofs.step.fitting.Goals as goal

pub returns-in-CallerEnd : goal.returns-in-CallerEnd
returns-in-CallerEnd g c = λ s sh.
    rw c.in-CallerEnd.is (told_answer g.S.FullReadings.lacks (g.S.Readings.shows c.args.state.now) (λ x. fitting no_settings x 0 (ask.CallerEnd c.in-CallerEnd.t c.in-CallerEnd.outcome)) (did.CallerEnd c.in-CallerEnd.t c.in-CallerEnd.outcome) c.caller_end.result c.told.result (c.caller_end.ensures c.in-CallerEnd.outcome) c.told.ensures s sh)

pub returns-in-Tidy : goal.returns-in-Tidy
returns-in-Tidy g c = λ s sh.
    rw c.in-Tidy.is (told_answer g.S.FullReadings.lacks (g.S.Readings.shows c.args.state.now) (λ x. fitting no_settings x 0 ask.Tidy) did.Tidy c.tidy.result c.told-in-Tidy.result c.tidy.ensures c.told-in-Tidy.ensures s sh)

pub returns-in-Ended : goal.returns-in-Ended
returns-in-Ended g c = λ s sh.
    rw c.in-Ended.is (told_answer g.S.FullReadings.lacks (g.S.Readings.shows c.args.state.now) (λ x. fitting no_settings x 0 ask.Ended) did.Ended c.ended.result c.told-in-Ended.result c.ended.ensures c.told-in-Ended.ensures s sh)

pub returns-in-Maximum : goal.returns-in-Maximum
returns-in-Maximum g c = λ s sh.
    rw c.in-Maximum.is (told_answer g.S.FullReadings.lacks (g.S.Readings.shows c.args.state.now) (λ x. fitting no_settings x 0 (ask.Maximum c.in-Maximum.size)) (did.Maximum c.in-Maximum.size) c.maximum.result c.told-in-Maximum.result c.maximum.ensures c.told-in-Maximum.ensures s sh)

pub returns-in-Keep : goal.returns-in-Keep
returns-in-Keep g c = λ s sh.
    rw c.in-Keep.is (told_answer g.S.FullReadings.lacks (g.S.Readings.shows c.args.state.now) (λ x. fitting no_settings x 0 (ask.Keep c.in-Keep.ticks)) (did.Keep c.in-Keep.ticks) c.keep.result c.told-in-Keep.result c.keep.ensures c.told-in-Keep.ensures s sh)

pub returns-in-CoreTimeout : goal.returns-in-CoreTimeout
returns-in-CoreTimeout g c = λ s sh.
    rw c.in-CoreTimeout.is (told_answer g.S.FullReadings.lacks (g.S.Readings.shows c.args.state.now) (λ x. fitting no_settings x 0 (ask.CoreTimeout c.in-CoreTimeout.on)) (did.CoreTimeout c.in-CoreTimeout.on) c.core_timeout.result c.told-in-CoreTimeout.result c.core_timeout.ensures c.told-in-CoreTimeout.ensures s sh)

pub returns-in-Tick : goal.returns-in-Tick
returns-in-Tick g c = λ s sh.
    rw c.in-Tick.is (told_answer g.S.FullReadings.lacks (g.S.Readings.shows c.args.state.now) (λ x. fitting no_settings x 0 (ask.Tick c.in-Tick.moment)) (did.Tick c.in-Tick.moment) c.tick.result c.told-in-Tick.result c.tick.ensures c.told-in-Tick.ensures s sh)
