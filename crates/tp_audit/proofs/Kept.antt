-- What is kept of the slots by number, after one of them changes.
use Rattle.std.proofs.Common.{◌≡◌, ℕ, suc, ◌+◌, ◌≤◌, max, Bool, true, false, cond, List, Option, Some, None, slice_set, arith, refl, sym, ap, ◌∙◌}
use Rattle.std.specs.Prelude.{count_by, is_some, nat_eq}
use Rattle.std.proofs.lemmas.Bool.{ne_eqb}
use Rattle.std.proofs.lemmas.List.Sums.{sum_by-le-sum_by}
use Rattle.indexmap.specs.IndexMap.{IndexMap, get, Updates}
use Rattle.tp_record.specs.declared.rows.SlotRow.{SlotRow}
use Rattle.tp_record.specs.Lists.{long_enough}
use Rattle.tp_record.specs.State.{slot_at}
use Rattle.tp_audit.specs.SlotTable.{places_to, slots_to, IsWithin}
use Rattle.tp_audit.proofs.Tabled.{table, table_read, table_set, table_put, count_put, count_free}

-- no more pass a test of slots than there are slots
pub few : (p : Option SlotRow → Bool) → p None ≡ false → (xs : List (Option SlotRow)) → count_by p xs ≤ count_by is_some xs
few p none xs = sum_by-le-sum_by (λ o. cond (p o) 1 0) (λ o. cond (is_some o) 1 0) xs each
  where
    each : (o : Option SlotRow) → cond (p o) 1 0 ≤ cond (is_some o) 1 0
    each None = let z : ◌≡◌ {A = ℕ} (cond (p None) 1 0) 0 = ap (λ b. cond b 1 0) none in omega (arith, z)
    each (Some r) = elim (p (Some r)) as (λ b. cond b 1 0 ≤ 1) [ true ↦ omega arith | false ↦ omega arith ]

module _ {S : Type 0} (greatest : Option ℕ) (m : IndexMap ℕ SlotRow S) (w : ℕ) (past : IsWithin greatest m) where
  -- a slot reads as its row
  pub read : slot_at (slots_to greatest m) w ≡ get nat_eq m w
  read = table_read (places_to greatest) (get nat_eq m) w past

  -- slot w is freed
  module _ (n : IndexMap ℕ SlotRow S) (to : Updates nat_eq m n w None) where
    pub freed_within : IsWithin greatest n
    freed_within v out = to.0 v ∙ elim (nat_eq w v) as (λ b. cond b None (get nat_eq m v) ≡ None) [ true ↦ refl | false ↦ past v out ]

    pub freed_view : slots_to greatest n ≡ slice_set (slots_to greatest m) w None
    freed_view = table_set (places_to greatest) (get nat_eq m) (get nat_eq n) w None to.1 (λ v ne. to.2 v (ne_eqb w v (λ e. ne (sym e))))

    pub freed_count : (p : Option SlotRow → Bool) → p None ≡ false → count_by p (slots_to greatest n) + cond (p (get nat_eq m w)) 1 0 ≡ count_by p (slots_to greatest m)
    freed_count p none = count_free p none (places_to greatest) (get nat_eq m) (get nat_eq n) w past to.1 (λ v ne. to.2 v (ne_eqb w v (λ e. ne (sym e))))

  -- slot w gets a row
  module _ (n : IndexMap ℕ SlotRow S) (g : ℕ) (row : SlotRow) (far : suc g ≡ max (places_to greatest) (suc w)) (to : Updates nat_eq m n w (Some row)) where
    pub put_within : IsWithin (Some g) n
    put_within v out =
        let here : places_to greatest ≤ v = omega (arith, far, out) in
        to.2 v (ne_eqb w v (λ e. absurd (omega (arith, far, out, e)))) ∙ past v here

    pub put_view : slots_to (Some g) n ≡ slice_set (long_enough (Some w) None (slots_to greatest m)) w (Some row)
    put_view =
        ap (λ k. table k (get nat_eq n)) far
        ∙ table_put (places_to greatest) (get nat_eq m) (get nat_eq n) w (Some row) past to.1 (λ v ne. to.2 v (ne_eqb w v (λ e. ne (sym e))))

    pub put_count : (p : Option SlotRow → Bool) → p None ≡ false → count_by p (slots_to (Some g) n) + cond (p (get nat_eq m w)) 1 0 ≡ count_by p (slots_to greatest m) + cond (p (Some row)) 1 0
    put_count p none =
        ap (λ k. count_by p (table k (get nat_eq n)) + cond (p (get nat_eq m w)) 1 0) far
        ∙ count_put p none (places_to greatest) (get nat_eq m) (get nat_eq n) w (Some row) past to.1 (λ v ne. to.2 v (ne_eqb w v (λ e. ne (sym e))))
