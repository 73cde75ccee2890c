-- The list of the tasks that a purge takes: each of them is in it, and there is room for it.
use Rattle.std.proofs.Common.{◌≡◌, ℕ, zero, suc, ◌+◌, ◌-◌, ◌<◌, ◌≤◌, Bool, true, false, ◌||◌, cond, List, [], ◌∷◌, ◌++◌, length, get_or, Option, Some, None, refl, sym, ap, subst, ◌∙◌, arith, inl, inr}
use mathlib.Core.Path.{ap₂}
use Rattle.std.specs.Prelude.{nat_eq, slice_get}
use Rattle.std.specs.Map.{lookup}
use Rattle.std.specs.Option.{option_to_list}
use Rattle.std.proofs.lemmas.Bool.{cases_eq, ne_eqb, eq-eqb, eqb-true, or_cases, false≢true}
use Rattle.std.proofs.lemmas.List.{length-append}
use Rattle.std.proofs.lemmas.Option.{none-some, same_Some}
use Rattle.indexmap.specs.IndexMap.{IndexMap, get}
use Rattle.tp_record.specs.Lists.{is_among}
use Rattle.tp_tasks.specs.declared.homes.Home.{Home}
use Rattle.tp_tasks.specs.declared.homes.Rows.{Rows}
use Rattle.tp_tasks.specs.declared.table.KeptTask.{KeptTask}
use Rattle.tp_tasks.specs.Homes.{home_of, is_purgeable, held, home_at, found, passes, row_of_task, AreNoted, Notes}
use Rattle.tp_tasks.specs.Table.{task_in, row_in, row_count}
use Rattle.tp_tasks.proofs.Away.{or_true, among_append}
use Rattle.tp_tasks.proofs.Finds.{holding, placed_of, counts_task}
use Rattle.std.specs.declared.hash.BuildHasherDefault.{BuildHasherDefault}
use Rattle.std.specs.declared.hash.FoldHasher.{FoldHasher}

-- A list, and one more at its end

module _ (t : ℕ) (xs ns : List ℕ) (more : ns ≡ xs ++ t ∷ []) where
  parts : (u : ℕ) → is_among u ns ≡ (is_among u xs || is_among u (t ∷ []))
  parts u = ap (is_among u) more ∙ among_append u xs (t ∷ [])

  pub among_new : (u : ℕ) → nat_eq u t ≡ true → is_among u ns ≡ true
  among_new u is = parts u ∙ ap (λ b. is_among u xs || (b || false)) is ∙ or_true (is_among u xs)

  pub among_stays : (u : ℕ) → is_among u xs ≡ true → is_among u ns ≡ true
  among_stays u is = parts u ∙ ap (λ b. b || is_among u (t ∷ [])) is

  pub notes_push : (b : Bool) → Notes xs ns t b
  notes_push b = record {
    stay = among_stays;
    there = λ _. among_new t (eq-eqb t t refl);
    long = let e = ap length more in let both = length-append xs (t ∷ []) in omega (arith, e, both);
  }

  -- who is not the last is among the others
  pub among_rest : (u : ℕ) → is_among u ns ≡ true → (u ≡ t → ⊥) → is_among u xs ≡ true
  among_rest u is apart = elim (or_cases (is_among u xs) (is_among u (t ∷ [])) (sym (parts u) ∙ is)) [
    | inl rest ↦ rest
    | inr last ↦ absurd (false≢true (sym (ap (λ b. b || false) (ne_eqb u t apart)) ∙ last))
  ]

-- who is not taken from the end is among those that are left
pub among_left : (old new : List ℕ) (r : Option ℕ) (u : ℕ) → old ≡ new ++ option_to_list r → (r ≡ Some u → ⊥) → is_among u old ≡ true → is_among u new ≡ true
among_left old new None u both apart is = elim (or_cases (is_among u new) false (sym (ap (is_among u) both ∙ among_append u new []) ∙ is)) [
  | inl rest ↦ rest
  | inr out ↦ absurd (false≢true out)
]
among_left old new (Some t) u both apart is = among_rest t new old both u is (λ e. apart (ap (λ x. Some x) (sym e)))

pub notes_none : (t : ℕ) (xs : List ℕ) → Notes xs xs t false
notes_none t xs = record { stay = λ u is. is; there = λ is. absurd (false≢true is); long = omega arith }

-- an entry of the key that is found
lookup_place : {X : Type 0} (t : ℕ) (es : List (ℕ × X)) (v : X) → lookup (nat_eq t) es ≡ Some v → (j : ℕ) × (slice_get es j ≡ Some (t, v))
lookup_place t [] v is = absurd (none-some v is)
lookup_place {X = X} t (e ∷ es) v is = by (nat_eq t e.0) refl is (lookup_place t es v)
  where
    by : (b : Bool) → nat_eq t e.0 ≡ b → cond b (Some e.1) (lookup (nat_eq t) es) ≡ Some v → (lookup (nat_eq t) es ≡ Some v → (j : ℕ) × (slice_get es j ≡ Some (t, v))) → (j : ℕ) × (slice_get (e ∷ es) j ≡ Some (t, v))
    by true same is later = (0, ap₂ (λ k x. Some (k, x)) (sym (eqb-true t e.0 same)) (same_Some e.1 v is))
    by false apart is later = let at = later is in (suc at.0, at.1)

-- The list is made anew

-- the first n homes were looked at
pub record NotesHomes {P : Type 0} (homes : List (Option (Home P))) (n : ℕ) (ts : List ℕ) : Type 0 where
  pub few : length ts ≤ n
  pub each : (j : ℕ) (h : Home P) → j < n → home_at homes j ≡ Some h → is_purgeable h.task.row ≡ true → is_among h.number ts ≡ true

-- all homes were looked at, and the first n entries beside
pub record NotesBeside {P : Type 0} (homes : List (Option (Home P))) (es : List (ℕ × KeptTask P)) (n : ℕ) (ts : List ℕ) : Type 0 where
  pub few : length ts ≤ length homes + n
  pub homes_each : (j : ℕ) (h : Home P) → home_at homes j ≡ Some h → is_purgeable h.task.row ≡ true → is_among h.number ts ≡ true
  pub each : (j t : ℕ) (v : KeptTask P) → j < n → slice_get es j ≡ Some (t, v) → is_purgeable v.row ≡ true → is_among t ts ≡ true

module _ {P : Type 0} (homes : List (Option (Home P))) (i : ℕ) where
  pub homes_next : (ts us : List ℕ) (h : Home P) → home_at homes i ≡ Some h → Notes ts us h.number (is_purgeable h.task.row) → NotesHomes homes i ts → NotesHomes homes (i + 1) us
  homes_next ts us h here n before = record {
    few = let a = before.few in let b = n.long in omega (arith, a, b);
    each = λ j k less there pass. elim (cases_eq j i) [
      | inl e ↦
          let same = same_Some h k (sym here ∙ ap (home_at homes) (sym e) ∙ there) in
          subst (λ x. is_among x us ≡ true) (ap (λ x. x.number) same) (n.there (ap (λ x. is_purgeable x.task.row) same ∙ pass))
      | inr ne ↦ n.stay k.number (before.each j k (omega (arith, less, ne)) there pass)
    ];
  }

  pub homes_skip : (ts : List ℕ) → home_at homes i ≡ None → NotesHomes homes i ts → NotesHomes homes (i + 1) ts
  homes_skip ts none before = record {
    few = let a = before.few in omega (arith, a);
    each = λ j k less there pass. elim (cases_eq j i) [
      | inl e ↦ absurd (none-some k (sym none ∙ ap (home_at homes) (sym e) ∙ there))
      | inr ne ↦ before.each j k (omega (arith, less, ne)) there pass
    ];
  }

module _ {P : Type 0} (homes : List (Option (Home P))) (es : List (ℕ × KeptTask P)) (i : ℕ) where
  pub beside_next : (ts us : List ℕ) (t : ℕ) (v : KeptTask P) → slice_get es i ≡ Some (t, v) → Notes ts us t (is_purgeable v.row) → NotesBeside homes es i ts → NotesBeside homes es (i + 1) us
  beside_next ts us t v here n before = record {
    few = let a = before.few in let b = n.long in omega (arith, a, b);
    homes_each = λ j h there pass. n.stay h.number (before.homes_each j h there pass);
    each = λ j u w less there pass. elim (cases_eq j i) [
      | inl e ↦
          let same = same_Some (t, v) (u, w) (sym here ∙ ap (slice_get es) (sym e) ∙ there) in
          subst (λ x. is_among x us ≡ true) (ap (λ x. x.0) same) (n.there (ap (λ x. is_purgeable x.1.row) same ∙ pass))
      | inr ne ↦ n.stay u (before.each j u w (omega (arith, less, ne)) there pass)
    ];
  }

  pub beside_skip : (ts : List ℕ) → slice_get es i ≡ None → NotesBeside homes es i ts → NotesBeside homes es (i + 1) ts
  beside_skip ts none before = record {
    few = let a = before.few in omega (arith, a);
    homes_each = before.homes_each;
    each = λ j u w less there pass. elim (cases_eq j i) [
      | inl e ↦ absurd (none-some (u, w) (sym none ∙ ap (slice_get es) (sym e) ∙ there))
      | inr ne ↦ before.each j u w (omega (arith, less, ne)) there pass
    ];
  }

-- no home is behind the last
past_homes : {P : Type 0} (homes : List (Option (Home P))) (j : ℕ) (h : Home P) → home_at homes j ≡ Some h → j < length homes
past_homes [] j h is = absurd (none-some h is)
past_homes (o ∷ os) zero h is = omega arith
past_homes (o ∷ os) (suc j) h is = let rest = past_homes os j h is in omega (arith, rest)

past_entries : {X : Type 0} (es : List X) (j : ℕ) (x : X) → slice_get es j ≡ Some x → j < length es
past_entries [] j x is = absurd (none-some x is)
past_entries (e ∷ es) zero x is = omega arith
past_entries (e ∷ es) (suc j) x is = let rest = past_entries es j x is in omega (arith, rest)

module _ {P S : Type 0} (homes : List (Option (Home P))) (beside : IndexMap ℕ (KeptTask P) S) (ts : List ℕ) where
  pub beside_first : (n : ℕ) → length homes ≤ n → n ≤ length homes → NotesHomes homes n ts → NotesBeside homes beside.entries 0 ts
  beside_first n all few before = record {
    few = let a = before.few in omega (arith, a, few);
    homes_each = λ j h there pass. before.each j h (let less = past_homes homes j h there in omega (arith, less, all)) there pass;
    each = λ j u w less there pass. absurd (omega (arith, less));
  }

  pub all_named : (n : ℕ) → length beside.entries ≤ n → NotesBeside homes beside.entries n ts → AreNoted ts homes beside
  all_named n all notes u pass = by (found homes beside u) refl pass
    where
      by : (o : Option (KeptTask P)) → found homes beside u ≡ o → passes is_purgeable (row_of_task o) ≡ true → is_among u ts ≡ true
      by None is pass = absurd (false≢true pass)
      by (Some v) is pass = elim (placed_of (held u (home_at homes (home_of (length homes) u))) (get nat_eq beside u) v is) [
        | inl home ↦
            let h = holding u (home_at homes (home_of (length homes) u)) v home in
            subst (λ x. is_among x ts ≡ true) h.2 (notes.homes_each (home_of (length homes) u) h.0 h.1 (ap (λ (k : KeptTask P). is_purgeable k.row) h.3 ∙ pass))
        | inr there ↦
            let at = lookup_place u beside.entries v there in
            notes.each at.0 u v (let less = past_entries beside.entries at.0 (u, v) at.1 in omega (arith, less, all)) at.1 pass
      ]

-- After a write to task t the others are noted still, and so is t where a purge took it

module _ {P : Type 0} (m : Rows P) (t : ℕ) (homes : List (Option (Home P))) (beside : IndexMap ℕ (KeptTask P) (BuildHasherDefault FoldHasher)) (others : (u : ℕ) → nat_eq t u ≡ false → found homes beside u ≡ task_in m u) where
  pub others_noted : (u : ℕ) → nat_eq t u ≡ false → passes is_purgeable (row_of_task (found homes beside u)) ≡ true → is_among u m.noted.items ≡ true
  unfolding task_in
  others_noted u ne pass = m.named u (sym (ap (λ o. passes is_purgeable (row_of_task o)) (others u ne)) ∙ pass)

  -- it is noted where a purge does not take it
  pub named_off : passes is_purgeable (row_of_task (found homes beside t)) ≡ false → AreNoted m.noted.items homes beside
  named_off off u pass = elim (cases_eq t u) [
    | inl same ↦ absurd (false≢true (sym off ∙ ap (λ x. passes is_purgeable (row_of_task (found homes beside x))) same ∙ pass))
    | inr apart ↦ others_noted u (ne_eqb t u apart) pass
  ]

module _ {P : Type 0} (m : Rows P) where
  pub was_noted : (t : ℕ) → passes is_purgeable (row_in m t) ≡ true → is_among t m.noted.items ≡ true
  unfolding task_in
  was_noted t pass = m.named t pass

  -- where none is noted, a purge takes none
  pub some_noted : 0 < row_count is_purgeable m → m.noted.items ≡ [] → ⊥
  some_noted some none =
      let at = counts_task is_purgeable m some in
      false≢true (sym (ap (is_among at.0) none) ∙ was_noted at.0 (ap (λ o. passes is_purgeable (row_of_task o)) at.2 ∙ at.3))
