-- Each step keeps the rule of the word.
use Rattle.std.proofs.Common.{◌≡◌, ◌≢◌, ℕ, zero, suc, ◌≤◌, List, [], ◌∷◌, set, max, true, false, true≢false, refl, sym, ap, ◌∙◌, subst, ⊎_elim, arith}
use Rattle.std.specs.Prelude.{slice_index}
use mathlib.Core.Option.{some, some-ne-none, some-injective, none}
use lib.ListN.{get_elem?}
use Rattle.atomic_table.specs.Table.{Me, Step, keeps, Allows, Splits, Joins, step, opening}
use Rattle.atomic_table.proofs.Lists.{at_set, at_snoc, set_again}
use Rattle.tp_record.specs.declared.entries.Entry.{Entry}
use Rattle.tp_record.specs.declared.entries.Did.{Did}
use Rattle.tp_record.specs.Effects.{reaches}
use Rattle.tp_record.specs.Fields.{rank}
use Rattle.tp_glance.specs.declared.view.History.{History}
use Rattle.tp_glance.specs.declared.view.View.{View}
use Rattle.tp_glance.proofs.Fronts.{IsPartOf_refl, IsPartOf_empty, IsPartOf_trans}
use Rattle.tp_glance.specs.Word.{IsPartOf, book_view, pass_view, no_history, FitsWord, IsPublished, Looked, Noted}

off : {A : Type 0} → false ≡ true → A
off e = absurd (true≢false (sym e))

reaches-top : (d : Did) → reaches d ≤ 4
reaches-top d = grind arith

pub rank-top : (h : List Entry) → rank h ≤ 4
rank-top [] = omega arith
rank-top (e ∷ h) = let a = reaches-top e.did in let b = rank-top h in omega arith

-- where one seat's view changes, all fit the word if the others do and the new one does
fits_set : (book : ℕ) (now : History) (views : List View) (by : ℕ) (w : View) → ((j : ℕ) (u : View) → j ≢ by → get_elem? views j ≡ some u → FitsWord book now j u) → FitsWord book now by w → (j : ℕ) (u : View) → get_elem? (set views by w) j ≡ some u → FitsWord book now j u
fits_set book now views by w others mine j u e =
    ⊎_elim (λ (x : (j ≡ by) × (w ≡ u)). subst (λ (y : ℕ × View). FitsWord book now y.0 y.1) (λ i. (sym x.0 i, x.1 i)) mine)
    (λ (x : (j ≢ by) × (get_elem? views j ≡ some u)). others j u x.0 x.1)
    (at_set views by j w u e)

begins_one : (by : ℕ) (v : View) → get_elem? (book_view no_history no_history ∷ []) by ≡ some v → FitsWord 0 no_history by v
begins_one zero v e =
    subst (FitsWord 0 no_history 0) (some-injective _ _ e)
    (record { own = λ _. (refl, refl); front = IsPartOf_refl no_history; told = IsPartOf_refl no_history })
begins_one (suc by) v e = absurd (some-ne-none v (sym e))

module _ {S : Type 0} where
  pub begins : (homes : List S) → IsPublished (opening (0 ∷ []) homes (book_view no_history no_history))
  begins homes = (0, no_history, refl, begins_one)

  -- a look, by any seat
  pub looks : (slots id : ℕ) (me : Me S View) → Allows IsPublished slots id me 0 (λ n. n) (Looked (step {S = S} slots 0 0 0 none) me)
  looks slots id me s h len at lt =
      let history = h.1 in
      let found : slice_index s.words 0 ≡ rank history.entries = ap (λ l. slice_index l 0) h.2 in
      let all = h.3 in
      let mine : FitsWord h.0 history id me.0 = all id me.0 at in
      let low : slice_index s.words 0 ≤ 4 = subst (λ (k : ℕ). k ≤ 4) (sym found) (rank-top history.entries) in
      let w : View = record { raises = me.0.raises; front = history; told = me.0.told } in (
        w,
        keeps,
        tt,
        (
          h.0,
          history,
          (λ i. set (h.2 i) 0 (found i)),
          fits_set h.0 history s.views id w (λ j u apart e. all j u e)
              (record { own = λ r. ((mine.own r).0, refl); front = IsPartOf_refl history; told = mine.told }),
        ),
        (refl, refl, found, low, mine.front, mine.told, (λ r. sym (mine.own r).1)),
      )

  -- the book's seat notes what makes this history of the one before, where the word becomes its rank
  noted : (slots id : ℕ) (me : Me S View) (l t : History) (next : History → History) (f : ℕ → ℕ) (st : Step S) → f (rank l.entries) ≡ rank (next l).entries → IsPartOf l (next l) →
      me ≡ (book_view l t, []) → Allows IsPublished slots id me 0 f (Noted next st me)
  noted slots id me l t next f st turns goes is s h len at lt =
      let history = h.1 in
      let found : slice_index s.words 0 ≡ rank history.entries = ap (λ l. slice_index l 0) h.2 in
      let all = h.3 in
      let up : me.0.raises ≡ true = ap (λ (m : Me S View). m.0.raises) is in
      let knows : me.0.front ≡ l = ap (λ (m : Me S View). m.0.front) is in
      let mine : FitsWord h.0 history id me.0 = all id me.0 at in
      let own = mine.own up in
      let same : history ≡ l = sym own.1 ∙ knows in
      let now : History = next history in
      let on : IsPartOf history now = subst (λ x. IsPartOf x (next x)) (sym same) goes in
      let w : View = book_view (next me.0.front) me.0.told in
      let word : f (slice_index s.words 0) ≡ rank now.entries = ap f (found ∙ ap (λ (x : History). rank x.entries) same) ∙ (turns ∙ ap (λ (x : History). rank (next x).entries) (sym same)) in (
        w,
        keeps,
        tt,
        (
          h.0,
          now,
          (λ i. set (h.2 i) 0 (word i)),
          fits_set h.0 now s.views id w
              (λ j u apart at.
              let g = all j u at in
              record { own = λ r. absurd (apart ((g.own r).0 ∙ sym own.0)); front = IsPartOf_trans g.front on; told = IsPartOf_trans g.told on })
              (record {
                own = λ _. (own.0, ap next own.1);
                front = subst (λ x. IsPartOf x now) (ap next (sym own.1)) (IsPartOf_refl now);
                told = IsPartOf_trans mine.told on;
              }),
        ),
        (
          refl,
          refl,
          found ∙ ap (λ (x : History). rank x.entries) (sym own.1),
          subst (λ (k : ℕ). k ≤ 4) (sym found) (rank-top history.entries),
          subst (λ (x : History). IsPartOf me.0.told x) (sym own.1) mine.told,
        ),
      )

  pub notes : (slots id : ℕ) (me : Me S View) (l t : History) (next : History → History) → rank l.entries ≡ rank (next l).entries → IsPartOf l (next l) → me ≡ (book_view l t, []) →
      Allows IsPublished slots id me 0 (λ n. n) (Noted next (step {S = S} slots 0 0 0 none) me)
  notes slots id me l t next = noted slots id me l t next (λ n. n) (step slots 0 0 0 none)

  pub raises : (slots id : ℕ) (me : Me S View) (l t : History) (next : History → History) (k : ℕ) → max (rank l.entries) k ≡ rank (next l).entries → IsPartOf l (next l) → me ≡ (book_view l t, []) →
      Allows IsPublished slots id me 0 (λ n. max n k) (Noted next (step {S = S} slots 0 k 0 none) me)
  raises slots id me l t next k = noted slots id me l t next (λ n. max n k) (step slots 0 k 0 none)

  -- a new seat that knows what the other knows
  pub splits : (id : ℕ) (v : View) → Splits (IsPublished {S = S}) id v v (pass_view v.front)
  splits id v s h at =
      let all = h.3 in
      let mine = all id v at in (
        h.0,
        h.1,
        h.2,
        λ j u e. ⊎_elim
            (λ was. all j u (subst (λ l. get_elem? l j ≡ some u) (set_again s.views id v at) was))
            (λ (same : pass_view v.front ≡ u). subst (FitsWord h.0 h.1 j) same (record { own = λ k. off k; front = mine.front; told = IsPartOf_empty h.1 }))
            (at_snoc (set s.views id v) (pass_view v.front) u j e),
      )

  -- a seat takes in another, which is left with nothing
  joined : (id : ℕ) (v both : View) (other : ℕ) (w : View) → ((book : ℕ) (history : History) → FitsWord book history id v → IsPartOf w.front history → FitsWord book history id both) → Joins (IsPublished {S = S}) id v other w both (pass_view no_history)
  joined id v both other w fits s h at apart there =
      let all = h.3 in
      let mine = all id v at in
      let theirs : IsPartOf w.front h.1 = ⊎_elim (λ (t : (other ≡ id) × (both ≡ w)). absurd (apart t.0)) (λ (t : (other ≢ id) × (get_elem? s.views other ≡ some w)). (all other w t.1).front) (at_set s.views id other both w there) in (
        h.0,
        h.1,
        h.2,
        fits_set h.0 h.1 (set s.views id both) other (pass_view no_history) (λ j u _ e. fits_set h.0 h.1 s.views id both (λ i y _ e'. all i y e') (fits h.0 h.1 mine theirs) j u e)
            (record { own = λ k. off k; front = IsPartOf_empty h.1; told = IsPartOf_empty h.1 }),
      )

  pub tells : (id : ℕ) (n t : History) (v : View) (other : ℕ) (w : View) → v ≡ book_view n t → Joins (IsPublished {S = S}) id v other w (book_view v.front w.front) (pass_view no_history)
  tells id n t v other w is =
      joined id v (book_view v.front w.front) other w
      (λ book history f g. record { own = λ _. f.own (ap (λ (u : View). u.raises) is); front = f.front; told = g })
