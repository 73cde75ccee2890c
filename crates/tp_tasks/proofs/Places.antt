-- A group that is written at its place in the map, or let go of there.
use Rattle.std.proofs.Common.{◌≡◌, ℕ, length, get_or, slice_get, position, Option, Some, None, sym, ap, subst, ◌<◌, ◌∙◌}
use Rattle.std.specs.Prelude.{nat_eq, option_map, IfSome}
use Rattle.std.specs.Map.{keys_of}
use Rattle.std.proofs.lemmas.Bool.{eqb-true}
use Rattle.std.proofs.lemmas.Cmp.{nat_eq_equiv}
use Rattle.std.proofs.lemmas.List.Quantifiers.{position-Some}
use Rattle.std.proofs.lemmas.Option.{slice_get-get_or, slice_get-map, get_or_from_slice_get, same_Some}
use Rattle.indexmap.specs.IndexMap.{IndexMap, values, index_of, with_value_at, IsUnique, Updates}
use Rattle.indexmap.proofs.CallerLemmas.{keys-with_value_at, updates-with_value_at}
use Rattle.tp_tasks.specs.declared.group.Group.{Group}
use Rattle.tp_tasks.specs.Groups.{KeepsOtherGroups}

module _ {S : Type 0} (m : IndexMap ℕ Group S) (i g : ℕ) (place : index_of nat_eq m g ≡ Some i) where
  -- the key at the place of group g is g
  own_key : (k : ℕ) (v : Group) → slice_get m.entries i ≡ Some (k, v) → g ≡ k
  own_key k v at =
      let key : get_or (keys_of m.entries) i k ≡ k = get_or_from_slice_get (keys_of m.entries) i k k (slice_get-map (λ e. e.0) m.entries i ∙ ap (option_map (λ e. e.0)) at) in
      eqb-true g (get_or (keys_of m.entries) i k) (position-Some (nat_eq g) (keys_of m.entries) i k place).1 ∙ key

  own_entry : (v : Group) → slice_get (values m) i ≡ Some v → i < length m.entries → slice_get m.entries i ≡ Some (g, v)
  own_entry v value within =
      let e = get_or m.entries i (g, v) in
      let at : slice_get m.entries i ≡ Some e = slice_get-get_or m.entries i (g, v) within in
      let same : e.1 ≡ v = same_Some e.1 v (sym (slice_get-map (λ e. e.1) m.entries i ∙ ap (option_map (λ e. e.1)) at) ∙ value) in
      at ∙ (λ j. Some (sym (own_key e.0 e.1 at) j, same j))

  -- what is written there is written to group g
  pub written : (v w : Group) → IsUnique nat_eq m → slice_get (values m) i ≡ Some v → i < length m.entries → Updates nat_eq m (with_value_at m i w) g (Some w)
  written v w unique value within = updates-with_value_at m i w nat_eq_equiv unique g v (own_entry v value within)

  -- and leaves it there
  pub still_there : (w : Group) → index_of nat_eq (with_value_at m i w) g ≡ Some i
  still_there w = ap (position (nat_eq g)) (keys-with_value_at m i w) ∙ place

  -- what is let go of there is group g
  pub others_stay : (new : IndexMap ℕ Group S) (taken : Option (ℕ × Group)) (k : ℕ) (v : Group) → slice_get m.entries i ≡ Some (k, v) → taken ≡ slice_get m.entries i →
      IfSome taken (λ p. Updates nat_eq m new p.0 None) → KeepsOtherGroups m new g
  others_stay new taken k v at is updates h ne =
      let gone : Updates nat_eq m new k None = subst (λ o. IfSome o (λ p. Updates nat_eq m new p.0 None)) (is ∙ at) updates in
      gone.2 h (ap (λ n. nat_eq n h) (sym (own_key k v at)) ∙ ne)
