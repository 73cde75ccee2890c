use Rattle.std.proofs.Common.{◌≡◌, ℕ, List, Option, None, refl, ◌∙◌}
use Rattle.tp_types.specs.declared.configs.QueueKind.{QueueKind}
use Rattle.tp_types.specs.declared.configs.QueueKind.TheVariants.{Handoff, Unbounded, Bounded, Priority}
use Rattle.tp_types.specs.declared.tasks.Fate.{Fate}
use Rattle.tp_record.specs.declared.rows.TaskRow.{TaskRow}
use Rattle.tp_record.specs.State.{State, state}
use Rattle.tp_machine.specs.Readings.{lacks_room}
use Rattle.tp_machine.specs.Seen.{config_of}
use Rattle.tp_book.proofs.Left.{else_left}
use Rattle.tp_book.proofs.Reading.{none_holds}
use Rattle.tp_book.proofs.book.Book.lacks_room.Goals as goal

-- room is no matter of rows, fates and what is left out
room_else : (q : QueueKind) (s : State) (rows : List TaskRow) (out : List ℕ) (forgotten : Fate → ℕ) → lacks_room q (record s { tasks = rows; left_out = out; forgotten = forgotten }) ≡ lacks_room q s
room_else Handoff s rows out forgotten = refl
room_else Unbounded s rows out forgotten = refl
room_else (Bounded n) s rows out forgotten = refl
room_else Priority s rows out forgotten = refl

pub returns : goal.returns
returns g c =
    let q = (config_of c.self.inside.machine).queue in
    let none : Option ℕ = None in
    none_holds g.R.Recorder.tells g.R.Recorder.terms c.self.inside.machine c.self.inside.seat g.R.Recorder.RECEIPTS c.self.inside.accounts c.self.invariant.0 c.args.self.now c.self.view_is
    (λ settings s. c.lacks_room.result ≡ lacks_room settings.queue s) none c.lacks_room.ensures
    (λ is. is ∙ else_left (λ s. lacks_room q s) (room_else q) c.self.inside.seat.released (state (config_of c.self.inside.machine) c.self.inside.seat.entries))
