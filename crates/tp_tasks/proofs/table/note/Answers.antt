use Rattle.std.proofs.Common.{sym, inl, inr}
use Rattle.std.proofs.lemmas.Bool.{cases_eq, eq-eqb, ne_eqb}
use Rattle.tp_tasks.proofs.Noted.{among_new, among_stays}
use Rattle.tp_tasks.proofs.table.note.Goals as goal

pub returns-then-len-capacity-clause-named : goal.returns-then-len-capacity-clause-named
returns-then-len-capacity-clause-named g c = λ u pass.
    let t = c.args.t in
    let more = c.push_reserved.ensures.items in
    elim (cases_eq t u) [
      | inl same ↦ among_new t c.args.noted.now.items c.push_reserved.new.self.items more u (eq-eqb u t (sym same))
      | inr apart ↦ among_stays t c.args.noted.now.items c.push_reserved.new.self.items more u (c.requires.others u (ne_eqb t u apart) pass)
    ]
