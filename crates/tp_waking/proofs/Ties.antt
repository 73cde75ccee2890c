-- The states and the list of sleepers, after one worker falls asleep or is woken.
use Rattle.std.proofs.Common.{◌≡◌, ℕ, ◌+◌, ◌<◌, ◌≤◌, ◌++◌, ◌∷◌, [], Bool, true, false, cond, List, length, set, take, get_or, refl, arith, sym, ap, ◌∙◌, subst, inl, inr}
use Rattle.std.specs.Prelude.{count_by}
use Rattle.std.proofs.lemmas.Bool.{cases_eq, cases_lt, false≢true}
use Rattle.std.proofs.lemmas.List.{map-set, set-get_or, length-set, length-map, length_push, length-take-le, get_or-set_same, get_or-set_other, get_or_past, get_or_append_left, get_or_push, get_or-take, take_at}
use Rattle.std.proofs.lemmas.List.Sums.{sum_by-cons, sum_by-set}
use Rattle.std.proofs.Math.ListN.{get_or-map}
use Rattle.tp_waking.specs.declared.sleepers.Rest.{Rest}
use Rattle.tp_waking.specs.declared.sleepers.Rest.TheVariants as rests
use Rattle.tp_waking.specs.declared.states.SleepState.{SleepState}
use Rattle.tp_waking.specs.declared.states.SleepState.TheVariants as states
use Rattle.tp_waking.specs.Rests.{is_listed}
use Rattle.tp_waking.specs.Tied.{IsTied, rest_of, rests_of, state_at}

abbrev pub one : Bool → ℕ
one b = cond b 1 0

-- the index of a listed state
abbrev index_of : SleepState → ℕ
index_of states.Away = 0
index_of (states.Listed i) = i
index_of states.Marked = 0

pub same_index : (i j : ℕ) → states.Listed i ≡ states.Listed j → i ≡ j
same_index i j same = ap index_of same

abbrev pub listed_state : SleepState → Bool
listed_state s = is_listed (rest_of s)

pub listed_apart : (s : SleepState) (i : ℕ) → s ≡ states.Listed i → listed_state s ≡ false → {A : Type 0} → A
listed_apart s i is not {A} = absurd (false≢true (sym not ∙ ap listed_state is))

-- who is listed has a state
pub listed_within : (all : List SleepState) (w i : ℕ) → state_at all w ≡ states.Listed i → w < length all
listed_within all w i is = elim (cases_lt w (length all)) [ inl h ↦ h | inr past ↦ listed_apart (state_at all w) i is (ap listed_state (get_or_past all w states.Away past)) ]

pub rest_read : (all : List SleepState) (w : ℕ) → get_or (rests_of all) w rests.Away ≡ rest_of (state_at all w)
rest_read all w = get_or-map rest_of all w states.Away

pub rests-set : (all : List SleepState) (w : ℕ) (s : SleepState) → rests_of (set all w s) ≡ set (rests_of all) w (rest_of s)
rests-set all w s = map-set rest_of all w s

-- as many of a sort, but for the one that changes
pub count-set : (p : Rest → Bool) (all : List Rest) (w : ℕ) (r : Rest) → w < length all → count_by p (set all w r) + one (p (get_or all w rests.Away)) ≡ count_by p all + one (p r)
count-set p all w r within = sum_by-set (λ x. one (p x)) all w r rests.Away within

count-within : (p : Rest → Bool) (all : List Rest) → count_by p all ≤ length all
count-within p [] = omega arith
count-within p (r ∷ all) =
    let a = sum_by-cons (λ x. one (p x)) r all in
    let b = count-within p all in
    let c : one (p r) ≤ 1 = elim (p r) as (λ b. one b ≤ 1) [ true ↦ omega arith | false ↦ omega arith ] in
    omega (arith, a, b, c)

-- where somebody is not of a sort, fewer are of it than there are
pub count-below : (p : Rest → Bool) (all : List Rest) (w : ℕ) (r : Rest) → w < length all → p (get_or all w rests.Away) ≡ false → p r ≡ true → count_by p all < length all
count-below p all w r within out here =
    let a = count-set p all w r within in
    let b = count-within p (set all w r) in
    let c = length-set all w r in
    let d = ap one out in
    let e = ap one here in
    omega (arith, a, b, c, d, e)

module _ (all : List SleepState) (listed : List ℕ) (tied : IsTied all listed) where
  -- there is room for one more who sleeps
  pub room : (w : ℕ) → w < length all → state_at all w ≡ states.Away → length listed < length all
  room w within away =
      let a = count-below is_listed (rests_of all) w rests.Listed (subst (λ n. w < n) (sym (length-map all rest_of)) within) (ap is_listed (rest_read all w ∙ ap rest_of away)) refl in
      let b = length-map all rest_of in
      omega (arith, a, b, tied.counted)

  pub tied-put : (w : ℕ) → w < length all → state_at all w ≡ states.Away → IsTied (set all w (states.Listed (length listed))) (listed ++ w ∷ [])
  tied-put w within away = record {
    indexed = λ i below. elim (cases_eq i (length listed)) [
      | inl last ↦ subst (λ k. state_at new (get_or (listed ++ w ∷ []) k 0) ≡ states.Listed k) (sym last)
          (ap (state_at new) (get_or_push listed w 0 (length listed) refl) ∙ get_or-set_same all w here states.Away within)
      | inr other ↦
          let lower : i < length listed = omega (arith, below, length_push listed w, other) in
          let was = tied.indexed i lower in
          ap (state_at new) (get_or_append_left listed (w ∷ []) 0 i lower)
          ∙ get_or-set_other all w (get_or listed i 0) here states.Away (λ e. listed_apart (state_at all w) i (sym (ap (state_at all) e) ∙ was) (ap listed_state away))
          ∙ was
    ];
    placed = λ x i is. elim (cases_eq x w) [
      | inl e ↦
          let at : length listed ≡ i = same_index (length listed) i (sym (get_or-set_same all w here states.Away within) ∙ ap (state_at new) (sym e) ∙ is) in
          (omega (arith, at, length_push listed w), get_or_push listed w 0 i at ∙ sym e)
      | inr other ↦
          let was = tied.placed x i (sym (get_or-set_other all w x here states.Away other) ∙ is) in
          (omega (arith, was.0, length_push listed w), get_or_append_left listed (w ∷ []) 0 i was.0 ∙ was.1)
    ];
    counted =
        let a = count-set is_listed (rests_of all) w rests.Listed (subst (λ n. w < n) (sym (length-map all rest_of)) within) in
        let b = ap (λ r. one (is_listed r)) (rest_read all w ∙ ap rest_of away) in
        let c = ap (count_by is_listed) (rests-set all w here) in
        omega (arith, a, b, c, length_push listed w, tied.counted);
  }
    where
      here : SleepState
      here = states.Listed (length listed)

      new : List SleepState
      new = set all w here

-- a list of sleepers without its last
module _ (all : List SleepState) (listed : List ℕ) (tied : IsTied all listed) (n : ℕ) (counted : length listed ≡ n + 1) where
  abbrev last : ℕ
  last = get_or listed n 0

  pub last-listed : state_at all (get_or listed n 0) ≡ states.Listed n
  last-listed = tied.indexed n (omega (arith, counted))

  pub last-within : get_or listed n 0 < length all
  last-within = listed_within all (get_or listed n 0) n last-listed

  pub index-within : (w index : ℕ) → state_at all w ≡ states.Listed index → index < n + 1
  index-within w index is = omega (arith, counted, (tied.placed w index is).0)

  left : length (take n listed) ≡ n
  left = length-take-le n listed (omega (arith, counted))

  -- as many others sleep, where w does not any more
  off_counted : (new : List Rest) (w index : ℕ) (to : Rest) → state_at all w ≡ states.Listed index → is_listed to ≡ false → new ≡ set (rests_of all) w to → count_by is_listed new ≡ n
  off_counted new w index to is out same =
      let a = count-set is_listed (rests_of all) w to (subst (λ k. w < k) (sym (length-map all rest_of)) (listed_within all w index is)) in
      let b = ap (λ r. one (is_listed r)) (rest_read all w ∙ ap rest_of is) in
      let c = ap one out in
      let d = ap (count_by is_listed) same in
      omega (arith, a, b, c, d, tied.counted, counted)

  -- the last of the list is woken
  pub tied-off_last : (w index : ℕ) (to : SleepState) → state_at all w ≡ states.Listed index → listed_state to ≡ false → get_or listed n 0 ≡ w → IsTied (set all w to) (take n listed)
  tied-off_last w index to is out ends = record {
    indexed = λ i below.
        let lower : i < n = omega (arith, below, left) in
        let was = tied.indexed i (omega (arith, lower, counted)) in
        let apart = λ (e : get_or listed i 0 ≡ w). absurd (omega (arith, lower, same_index i n (sym was ∙ ap (state_at all) (e ∙ sym ends) ∙ last-listed))) in
        ap (state_at (set all w to)) (get_or-take n listed i 0 lower) ∙ get_or-set_other all w (get_or listed i 0) to states.Away apart ∙ was;
    placed = λ x i found. elim (cases_eq x w) [
      | inl e ↦ listed_apart to i (sym (get_or-set_same all w to states.Away (listed_within all w index is)) ∙ ap (state_at (set all w to)) (sym e) ∙ found) out
      | inr other ↦
          let was = tied.placed x i (sym (get_or-set_other all w x to states.Away other) ∙ found) in
          let lower : i < n = elim (cases_eq i n) [ inl e ↦ absurd (other (sym was.1 ∙ ap (λ k. get_or listed k 0) e ∙ ends)) | inr ne ↦ omega (arith, ne, was.0, counted) ] in
          (omega (arith, lower, left), get_or-take n listed i 0 lower ∙ was.1)
    ];
    counted = left ∙ sym (off_counted (rests_of (set all w to)) w index (rest_of to) is out (rests-set all w to));
  }

  -- another is woken, and the last takes its index
  pub rests-off : (w index : ℕ) (to : SleepState) → rests_of (set (set all (get_or listed n 0) (states.Listed index)) w to) ≡ set (rests_of all) w (rest_of to)
  rests-off w index to =
      rests-set (set all last (states.Listed index)) w to
      ∙ ap (λ rs. set rs w (rest_of to)) (rests-set all last (states.Listed index) ∙ ap (set (rests_of all) last) (sym (rest_read all last ∙ ap rest_of last-listed)) ∙ set-get_or (rests_of all) last rests.Away)

  pub tied-off : (w index : ℕ) (to : SleepState) → state_at all w ≡ states.Listed index → listed_state to ≡ false → (get_or listed n 0 ≡ w → ⊥) →
      IsTied (set (set all (get_or listed n 0) (states.Listed index)) w to) (set (take n listed) index (get_or listed n 0))
  tied-off w index to is out other = record {
    indexed = λ i below.
        let lower : i < n = omega (arith, below, size) in
        elim (cases_eq i index) [
          | inl e ↦
              subst (λ k. state_at new (get_or ends k 0) ≡ states.Listed k) (sym e)
              (ap (state_at new) (get_or-set_same (take n listed) index last 0 (omega (arith, at, left)))
              ∙ get_or-set_other mid w last to states.Away other ∙ get_or-set_same all last (states.Listed index) states.Away last-within)
          | inr ne ↦
              let was = tied.indexed i (omega (arith, lower, counted)) in
              let apart = λ (e : get_or listed i 0 ≡ w). ne (same_index i index (sym was ∙ ap (state_at all) e ∙ is)) in
              let before = λ (e : get_or listed i 0 ≡ last). absurd (omega (arith, lower, same_index i n (sym was ∙ ap (state_at all) e ∙ last-listed))) in
              ap (state_at new) (get_or-set_other (take n listed) index i last 0 ne ∙ get_or-take n listed i 0 lower)
              ∙ get_or-set_other mid w (get_or listed i 0) to states.Away apart ∙ get_or-set_other all last (get_or listed i 0) (states.Listed index) states.Away before ∙ was
        ];
    placed = λ x i found. elim (cases_eq x w) [
      | inl e ↦ listed_apart to i (sym (get_or-set_same mid w to states.Away (subst (λ k. w < k) (sym (length-set all last (states.Listed index))) (listed_within all w index is))) ∙ ap (state_at new) (sym e) ∙ found) out
      | inr ne ↦
          let found_mid = sym (get_or-set_other mid w x to states.Away ne) ∙ found in
          elim (cases_eq x last) [
            | inl e ↦
                let same : index ≡ i = same_index index i (sym (get_or-set_same all last (states.Listed index) states.Away last-within) ∙ ap (state_at mid) (sym e) ∙ found_mid) in
                subst (λ k. (k < length ends) × (get_or ends k 0 ≡ x)) same (omega (arith, at, size), get_or-set_same (take n listed) index last 0 (omega (arith, at, left)) ∙ sym e)
            | inr further ↦
                let was = tied.placed x i (sym (get_or-set_other all last x (states.Listed index) states.Away further) ∙ found_mid) in
                let lower : i < n = elim (cases_eq i n) [ inl e ↦ absurd (further (sym was.1 ∙ ap (λ k. get_or listed k 0) e)) | inr apart ↦ omega (arith, apart, was.0, counted) ] in
                let apart = λ (e : i ≡ index). ne (sym was.1 ∙ ap (λ k. get_or listed k 0) e ∙ (tied.placed w index is).1) in
                (omega (arith, lower, size), get_or-set_other (take n listed) index i last 0 apart ∙ get_or-take n listed i 0 lower ∙ was.1)
          ]
    ];
    counted = size ∙ sym (off_counted (rests_of new) w index (rest_of to) is out (rests-off w index to));
  }
    where
      mid : List SleepState
      mid = set all last (states.Listed index)

      new : List SleepState
      new = set mid w to

      ends : List ℕ
      ends = set (take n listed) index last

      size : length ends ≡ n
      size = length-set (take n listed) index last ∙ left

      at : index < n
      at = elim (cases_eq index n) [
        | inl e ↦ absurd (other (ap (λ k. get_or listed k 0) (sym e) ∙ (tied.placed w index is).1))
        | inr ne ↦ omega (arith, ne, index-within w index is)
      ]

-- the same, of a list that is known as its front and its last
module _ (all : List SleepState) (listed : List ℕ) (tied : IsTied all listed) (front : List ℕ) (end : ℕ) (is : listed ≡ front ++ end ∷ []) where
  one_more : length listed ≡ length front + 1
  one_more = ap length is ∙ length_push front end

  fronts : take (length front) listed ≡ front
  fronts = ap (take (length front)) is ∙ take_at front (end ∷ []) (length front) refl

  ends : get_or listed (length front) 0 ≡ end
  ends = ap (λ l. get_or l (length front) 0) is ∙ get_or_push front end 0 (length front) refl

  pub end-within : end < length all
  end-within = subst (λ k. k < length all) ends (last-within all listed tied (length front) one_more)

  pub index-before : (w index : ℕ) → state_at all w ≡ states.Listed index → (end ≡ w → ⊥) → index < length front
  index-before w index here other = elim (cases_eq index (length front)) [
    | inl e ↦ absurd (other (sym ends ∙ ap (λ k. get_or listed k 0) (sym e) ∙ (tied.placed w index here).1))
    | inr ne ↦ omega (arith, ne, (tied.placed w index here).0, one_more)
  ]

  pub tied-end : (w index : ℕ) (to : SleepState) → state_at all w ≡ states.Listed index → listed_state to ≡ false → end ≡ w → IsTied (set all w to) front
  tied-end w index to here out same =
      subst (λ l. IsTied (set all w to) l) fronts (tied-off_last all listed tied (length front) one_more w index to here out (ends ∙ same))

  pub tied-other : (w index : ℕ) (to : SleepState) → state_at all w ≡ states.Listed index → listed_state to ≡ false → (end ≡ w → ⊥) → IsTied (set (set all end (states.Listed index)) w to) (set front index end)
  tied-other w index to here out other =
      subst (λ l. IsTied (set (set all end (states.Listed index)) w to) (set l index end)) fronts
      (subst (λ k. IsTied (set (set all k (states.Listed index)) w to) (set (take (length front) listed) index k)) ends
      (tied-off all listed tied (length front) one_more w index to here out (λ (e : get_or listed (length front) 0 ≡ w). other (sym ends ∙ e))))

  pub rests-other : (w index : ℕ) (to : SleepState) → rests_of (set (set all end (states.Listed index)) w to) ≡ set (rests_of all) w (rest_of to)
  rests-other w index to =
      subst (λ k. rests_of (set (set all k (states.Listed index)) w to) ≡ set (rests_of all) w (rest_of to)) ends (rests-off all listed tied (length front) one_more w index to)
