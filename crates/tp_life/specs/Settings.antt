-- What a caller asks of a pool that sets something, and what the step's entry says was done.
use Rattle.tp_record.specs.declared.entries.Ask.{Ask}
use Rattle.tp_record.specs.declared.entries.Ask.TheVariants as ask
use Rattle.tp_record.specs.declared.entries.Did.{Did}
use Rattle.tp_record.specs.declared.entries.Did.TheVariants as did
use Rattle.tp_life.specs.declared.calls.Setting.{Setting}
use Rattle.tp_life.specs.declared.calls.Setting.TheVariants as setting

abbrev pub asked : Setting → Ask
asked (setting.Maximum n) = ask.Maximum n
asked (setting.Keep n) = ask.Keep n
asked (setting.CoreTimeout on) = ask.CoreTimeout on
asked (setting.Tick now) = ask.Tick now

abbrev pub done : Setting → Did
done (setting.Maximum n) = did.Maximum n
done (setting.Keep n) = did.Keep n
done (setting.CoreTimeout on) = did.CoreTimeout on
done (setting.Tick now) = did.Tick now
