-- What was asked, read off the answer.
use Rattle.tp_record.specs.declared.entries.Ask.{Ask}
use Rattle.tp_record.specs.declared.entries.Ask.TheVariants as ask
use Rattle.tp_record.specs.declared.entries.Did.{Did}
use Rattle.tp_record.specs.declared.entries.Did.TheVariants as did

-- the ask that an entry with this answer has
abbrev pub asked : Did → Ask
asked (did.Submit t k p l) = ask.Submit k p
asked (did.Look t l) = ask.Look t
asked (did.Offer t o) = ask.Offer t
asked (did.Second t s) = ask.Second t
asked (did.Grow t g) = ask.Grow t
asked (did.Verdict t v r) = ask.Verdict t v
asked (did.CallerEnd t o) = ask.CallerEnd t o
asked (did.Open w o) = ask.Open w
asked (did.Fail w f) = ask.Fail w
asked (did.Take w t) = ask.Take w
asked (did.Begin w s) = ask.Begin w
asked (did.End w t o) = ask.End w o
asked (did.Leave w o) = ask.Leave w
asked did.Shutdown = ask.Shutdown
asked (did.Stop n) = ask.Stop
asked did.Tidy = ask.Tidy
asked did.Ended = ask.Ended
asked (did.Remove t b) = ask.Remove t
asked (did.Purge n) = ask.Purge
asked (did.Cancel t flag b) = ask.Cancel t flag
asked (did.TakeDone g t) = ask.TakeDone g
asked (did.Core n m) = ask.Core n
asked (did.Maximum n) = ask.Maximum n
asked (did.Keep n) = ask.Keep n
asked (did.CoreTimeout on) = ask.CoreTimeout on
asked (did.Tick n) = ask.Tick n
asked (did.Prestart o) = ask.Prestart
