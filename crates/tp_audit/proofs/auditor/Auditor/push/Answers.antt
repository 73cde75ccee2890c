use Rattle.std.proofs.Common.{◌∷◌}
use Rattle.tp_audit.proofs.Judging.{all_shown, gives_inside, judged_inside, judged_now, stands_next, suits_shown}
use Rattle.tp_audit.proofs.Standing.{few_shown, due_shown}
use Rattle.tp_audit.proofs.auditor.Auditor.push.Goals as goal

pub note-requires-clause-suits : goal.note-requires-clause-suits
note-requires-clause-suits c =
    let inside = c.self.inside in
    let e = c.args.entry.now in
    let h = c.self.invariant.0 in
    let at = judged_now inside.config inside.tables c.args.self.now c.self.view_is h c.self.invariant.1 in
    let gives = gives_inside inside.config inside.tables c.args.self.now c.self.view_is h e.ask e.did ((c.is_given.ensures h at).0 c.if-not-is_given.false) in
    suits_shown inside.config h inside.tables c.self.invariant.1 e.ask e.did gives

pub note-requires-clause-all : goal.note-requires-clause-all
note-requires-clause-all c = all_shown c.self.inside.config c.self.invariant.0 c.self.inside.tables c.self.invariant.1

pub note-requires-clause-sizes : goal.note-requires-clause-sizes
note-requires-clause-sizes c = few_shown c.self.inside.config c.self.invariant.0 c.self.inside.tables c.self.invariant.1

pub note-requires-clause-ranks : goal.note-requires-clause-ranks
note-requires-clause-ranks c = c.self.invariant.1.shows.ranks

pub note-requires-clause-due : goal.note-requires-clause-due
note-requires-clause-due c = due_shown c.self.inside.config c.self.invariant.0 c.self.inside.tables c.self.invariant.1

pub returns-clause-told : goal.returns-clause-told
returns-clause-told c = λ h at.
    let inside = c.self.inside in
    let e = c.args.entry.now in
    let there = judged_inside inside.config inside.tables c.args.self.now c.self.view_is h at in
    let gives = gives_inside inside.config inside.tables c.args.self.now c.self.view_is h e.ask e.did ((c.is_given.ensures h at).0 c.if-not-is_given.false) in
    stands_next inside.config h inside.tables there e c.note.new.self gives c.in-Ok.ensures.next c.in-Ok.ensures.done c.in-Ok.ensures.due c.note.ensures.ranks

pub invariant_of-self-2 : goal.invariant_of-self-2
invariant_of-self-2 c =
    let inside = c.self.inside in
    let e = c.args.entry.now in
    let h = c.self.invariant.0 in
    let at = judged_now inside.config inside.tables c.args.self.now c.self.view_is h c.self.invariant.1 in
    let gives = gives_inside inside.config inside.tables c.args.self.now c.self.view_is h e.ask e.did ((c.is_given.ensures h at).0 c.if-not-is_given.false) in
    (e ∷ h, stands_next inside.config h inside.tables c.self.invariant.1 e c.note.new.self gives c.in-Ok.ensures.next c.in-Ok.ensures.done c.in-Ok.ensures.due c.note.ensures.ranks)
