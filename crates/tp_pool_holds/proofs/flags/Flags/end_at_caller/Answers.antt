use Rattle.std.proofs.Common.{◌≡◌, rules, map, not, ap, sym, subst, ◌∙◌}
use Rattle.std.specs.Prelude.{filter, nat_eq}
use Rattle.std.proofs.lemmas.Fn.{filter_same}
use Rattle.tp_laws.proofs.Model.ListLaws.{map-filter_of_map}
use Rattle.tp_pool_holds.specs.Flagged.{FlagsView}
use Rattle.tp_pool_holds.proofs.flags.Flags.end_at_caller.Goals as goal

pub returns : goal.returns
returns c =
    let kept = filter_same _ (λ x. not (nat_eq x.0.0 c.args.t.0)) _ (λ x b f k. search rules) _ _ c.retain.ensures.filtered in
    subst (λ (o : FlagsView). record { slots = c.self.inside.slots.items; at_callers = map (λ x. x.0.0) c.retain.new.self.items } ≡ record o { at_callers = filter (λ u. not (nat_eq u c.args.t.0)) o.at_callers })
    c.self.view_is
    (ap (λ xs. record { slots = c.self.inside.slots.items; at_callers = xs })
    (ap (map (λ x. x.0.0)) kept ∙ sym (map-filter_of_map (λ x. x.0.0) (λ u. not (nat_eq u c.args.t.0)) c.self.inside.at_callers.items)))
