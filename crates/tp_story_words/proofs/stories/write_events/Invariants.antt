use Rattle.std.proofs.Common.{take}
use Rattle.std.specs.Prelude.{string_bytes}
use Rattle.tp_story_words.proofs.Written.{Behind}
use Rattle.tp_story_words.proofs.stories.write_events.Given as goal

abbrev pub invariant-loop-event : goal.invariant-loop-event
invariant-loop-event l = Behind l.form (take l.event-index l.events) (string_bytes l.fn.text) (string_bytes l.text)
