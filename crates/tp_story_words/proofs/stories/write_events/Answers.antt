use Rattle.std.specs.Prelude.{string_bytes}
use Rattle.tp_story_words.proofs.Written.{line_on, no_lines}
use Rattle.tp_story_words.proofs.stories.write_events.Goals as goal

pub loop-event-init : goal.loop-event-init
loop-event-init c = no_lines c.args.form c.args.events.now (string_bytes c.args.text.now)

pub loop-event-preserved : goal.loop-event-preserved
loop-event-preserved c =
    line_on c.args.form c.args.events.now c.loop-event.event-index _ (string_bytes c.args.text.now) (string_bytes c.loop-event.text) (string_bytes c.write_event.new.text) c.loop-event-test.true c.loop-event.invariant c.in_ok-write_event.ensures
