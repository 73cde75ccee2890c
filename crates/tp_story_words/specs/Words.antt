-- What the words of a task's event need of the events before it.
use Rattle.std.specs.Prelude.{ℕ, List, [], ◌∷◌, Option, Some, None, true, fold}
use Rattle.tp_record.specs.declared.entries.Did.{Did}
use Rattle.tp_record.specs.declared.entries.Did.TheVariants as did
use Rattle.tp_record.specs.declared.entries.Offered.TheVariants as offered
use Rattle.tp_record.specs.declared.entries.Ruled.TheVariants as ruled
use Rattle.tp_record.specs.declared.entries.Started.TheVariants as started
use Rattle.tp_story.specs.declared.times.Since.{Since}
use Rattle.tp_story.specs.declared.events.Event.{Event}
use Rattle.tp_story_words.specs.declared.words.Earlier.{Earlier}

-- before the first event
abbrev pub nothing : Earlier
nothing = record { queued = None; begun = None; cancelled = None }

-- after an entry too: when the task was queued last, when its body began last, when it was cancelled
abbrev pub noted : Did → Since → Earlier → Earlier
noted (did.Offer t offered.Queued) s r = record r { queued = Some s }
noted (did.Begin w (started.Run t)) s r = record r { begun = Some s }
noted (did.Verdict t v ruled.Caller) s r = record r { begun = Some s }
noted (did.Cancel t flag true) s r = record r { cancelled = Some s }
noted _ s r = r

-- after an event too
abbrev pub earlier_after : Earlier → Event → Earlier
earlier_after r e = noted e.entry.did (record { number = e.number; moment = e.before.moment }) r
