use Rattle.std.proofs.Common.{◌≡◌, vec_capacity}
use Rattle.tp_tasks.proofs.Noted.{NotesHomes, NotesBeside}
use Rattle.tp_tasks.proofs.table.note_all.Given as goal

abbrev pub invariant-loop-place : goal.invariant-loop-place
invariant-loop-place g l = NotesHomes l.homes.items l.place l.noted.items × (vec_capacity l.noted ≡ vec_capacity l.fn.noted)

abbrev pub invariant-loop-i : goal.invariant-loop-i
invariant-loop-i g l = NotesBeside l.homes.items l.beside.entries l.i l.noted.items × (vec_capacity l.noted ≡ vec_capacity l.fn.noted)
