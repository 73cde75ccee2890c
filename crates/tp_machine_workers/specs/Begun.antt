-- What a begin does to the payloads.
use Rattle.std.specs.Prelude.{◌≡◌, Option, IsSome, None}
use Rattle.tp_record.specs.declared.entries.Started.{Started}
use Rattle.tp_record.specs.declared.entries.Started.TheVariants.{Run, Skip}
use Rattle.tp_tasks.specs.declared.tasks.Tasks.{Tasks}
use Rattle.tp_machine_state.specs.Payloads.{Keeps, HandsOut}

-- a task that runs hands out its payload, o, and nothing else does
abbrev pub Begins : {P : Type 0} → Tasks P → Started → Tasks P → Option P → Type 0
Begins old (Run t) new o = HandsOut old new t.0 o × IsSome o
Begins old (Skip t) new o = Keeps old new × (o ≡ None)
