use Rattle.std.proofs.Common.{◌∙◌, sym, ap, subst, length}
use Rattle.std.specs.Prelude.{cond, ◌+◌}
use Rattle.std.specs.Option.{option_copied_mut}
use Rattle.tp_ring.specs.Ring.{living, Rises}
use Rattle.tp_ring.proofs.Deaths.{killed_is, living-killed, living_count, Rises-killed}
use Rattle.tp_ring.proofs.places.kill.Goals as goal

pub returns-clause-living : goal.returns-clause-living
returns-clause-living g c =
    let is = killed_is c.args.ring.now.items c.args.at c.in-Some.item.now (sym c.get_mut.ensures.value ∙ ap option_copied_mut c.in-Some.is) in
    ap living (sym is) ∙ living-killed 0 c.args.ring.now.items c.args.at c.requires.rises.0 c.requires.rises.1 c.requires.within

pub returns-clause-waited : goal.returns-clause-waited
returns-clause-waited g c =
    let at = sym c.get_mut.ensures.value ∙ ap option_copied_mut c.in-Some.is in
    living_count c.args.ring.now.items c.args.at c.in-Some.item.now at
    ∙ ap (λ xs. length (living xs) + cond c.in-Some.item.now.live 1 0) (killed_is c.args.ring.now.items c.args.at c.in-Some.item.now at)

pub returns-clause-rises : goal.returns-clause-rises
returns-clause-rises g c = λ next r.
    let is = killed_is c.args.ring.now.items c.args.at c.in-Some.item.now (sym c.get_mut.ensures.value ∙ ap option_copied_mut c.in-Some.is) in
    subst (λ xs. Rises 0 xs next) is (Rises-killed 0 c.args.ring.now.items c.args.at next r)
