use Rattle.std.proofs.Common.{◌∙◌, sym, ap}
use Rattle.std.specs.Option.{option_copied}
use Rattle.tp_ring.proofs.Rising.{number_read}
use Rattle.tp_ring.proofs.Searches.{split_absent, get_within}
use Rattle.tp_ring.proofs.places.find.Goals as goal

pub returns-in_default-clause-absent : goal.returns-in_default-clause-absent
returns-in_default-clause-absent g c =
    let xs = c.args.ring.now.items in
    let found = sym c.get.ensures ∙ ap option_copied c.in-Some.is in
    split_absent xs c.args.number c.lower_bound-at.result c.requires.0 c.requires.1 c.lower_bound-at.ensures (λ h same. c.if-item-number.false (sym (number_read xs c.lower_bound-at.result c.in-Some.item.now found) ∙ same))

pub returns-in_default-2-clause-absent : goal.returns-in_default-2-clause-absent
returns-in_default-2-clause-absent g c =
    let xs = c.args.ring.now.items in
    split_absent xs c.args.number c.lower_bound-at.result c.requires.0 c.requires.1 c.lower_bound-at.ensures (λ h same. get_within xs c.lower_bound-at.result h (sym c.get.ensures ∙ ap option_copied c.in_default.is))
