-- That ends are told one by one.
use Rattle.std.proofs.Common.{◌≡◌, ◌≢◌, ◌<◌, ◌≤◌, ◌+◌, ◌*◌, ℕ, zero, suc, ◌⊎◌, inl, inr, Bool, true, false, List, [], ◌∷◌, ◌++◌, length, get_or, set, map, refl, sym, ap, subst, ◌∙◌, arith, bytes_eq}
use Rattle.std.specs.Prelude.{if◌then◌else◌, IsPermutation}
use Rattle.std.specs.List.{All, AllZip, Contains, IsDistinct, list_any}
use Rattle.std.proofs.lemmas.List.{length-append, length-set, map-append, map-set, get_or-set_same, get_or-set_other, get_or-map, set-get_or, length-map}
use Rattle.std.proofs.lemmas.List.Elements.{All-push, All-set, All-weaker, All-contains, Contains-get_or, Contains-append_left, Contains-push, All-nil, All-head, All-tail, All-map}
use Rattle.std.proofs.lemmas.List.Sorted.{All-permutation, Contains-permutation, IsPermutation-map}
use Rattle.std.proofs.lemmas.List.Folds.{list_any_none}
use Rattle.std.proofs.lemmas.Map.Keys.{apart_from_distinct, IsDistinct-from_apart, IsDistinct-IsPermutation, IsDistinct-push}
use Rattle.std.proofs.lemmas.Cmp.{lists_equiv, nat_eq_equiv}
use Rattle.std.proofs.lemmas.Option.{slice_get_within, get_or_from_slice_get, same_Some}
use Rattle.std.proofs.lemmas.Slice.Eq.{bytes_eq-Decides}
use Rattle.std.proofs.lemmas.Bool.{cases_lt}
use Rattle.tp_explore_walk.specs.declared.counts.Count.{Count}
use Rattle.tp_explore_walk.specs.Moves.{IsAt, IsWalk}
use Rattle.tp_explore_walk.specs.Paths.{CountsPaths, Tells, weighed}
use Rattle.tp_explore_walk.proofs.Places.{contained, place_of, zip_at, zip_from}
use Rattle.tp_explore.specs.declared.plans.Plan.{Plan}
use Rattle.tp_explore.specs.Moves as spec
use Rattle.tp_explore.specs.Situation.{Situation}
use Rattle.tp_explore_text.specs.declared.ends.End.{End}
use Rattle.tp_explore_text.specs.declared.ends.Label.{Label}
use Rattle.tp_explore_text.specs.Ends.{AreTold, IsEnd, TellsEnds, end_text, is_told, text_of}

abbrev hit : List Label → List ℕ → Situation → ℕ
hit labels t z = if is_told labels t z then 1 else 0

hit-yes : (labels : List Label) (t : List ℕ) (z : Situation) → end_text labels z ≡ t → hit labels t z ≡ 1
hit-yes labels t z e = let b : is_told labels t z ≡ true = (bytes_eq-Decides (end_text labels z) t).1 e in rw b refl

hit-no : (labels : List Label) (t : List ℕ) (z : Situation) → end_text labels z ≢ t → hit labels t z ≡ 0
hit-no labels t z other = by_test (is_told labels t z) refl
  where
    by_test : (b : Bool) → is_told labels t z ≡ b → hit labels t z ≡ 0
    by_test true b = absurd (other ((bytes_eq-Decides (end_text labels z) t).0 b))
    by_test false b = rw b refl

weighed-more : {V : Type 0} (f : V → ℕ) (zs : List V) (ns : List ℕ) (z : V) (n : ℕ) → length ns ≡ length zs → weighed f (zs ++ z ∷ []) (ns ++ n ∷ []) ≡ weighed f zs ns + n * f z
weighed-more f [] [] z n e = omega arith
weighed-more f [] (m ∷ ns) z n e = absurd (omega (arith, e))
weighed-more f (y ∷ zs) [] z n e = absurd (omega (arith, e))
weighed-more f (y ∷ zs) (m ∷ ns) z n e = let k = weighed-more f zs ns z n (omega (arith, e)) in omega (arith, k)

-- the number beside an end with the text t, with one more situation
one_more : (labels : List Label) (t : List ℕ) (zs : List Situation) (ns : List ℕ) (z : Situation) (n : ℕ) → length ns ≡ length zs → end_text labels z ≡ t →
    weighed (hit labels t) (zs ++ z ∷ []) (ns ++ n ∷ []) ≡ weighed (hit labels t) zs ns + n
one_more labels t zs ns z n e same = let w = weighed-more (hit labels t) zs ns z n e in let h = hit-yes labels t z same in rw h at w ∙ omega arith

none_more : (labels : List Label) (t : List ℕ) (zs : List Situation) (ns : List ℕ) (z : Situation) (n : ℕ) → length ns ≡ length zs → end_text labels z ≢ t →
    weighed (hit labels t) (zs ++ z ∷ []) (ns ++ n ∷ []) ≡ weighed (hit labels t) zs ns
none_more labels t zs ns z n e other = let w = weighed-more (hit labels t) zs ns z n e in let h = hit-no labels t z other in rw h at w ∙ omega arith

-- an end is told so beside these
abbrev pub IsCounted : List Label → List Situation → List ℕ → End → Type 0
IsCounted labels zs ns e = Tells e.count (weighed (hit labels (text_of e)) zs ns)

-- an end's place is that of a situation with its text
abbrev pub IsPlaced : List Label → List Situation → List Situation → End → Type 0
IsPlaced labels xs zs e = (z : Situation) × IsAt xs e.place z × Contains zs z × (end_text labels z ≡ text_of e)

-- with more situations
wider : (labels : List Label) (xs zs : List Situation) (z : Situation) (e : End) → IsPlaced labels xs zs e → IsPlaced labels xs (zs ++ z ∷ []) e
wider labels xs zs z e p = (p.0, p.1, Contains-append_left zs (z ∷ []) p.0 p.2, p.3)

bytes_sym : (a b : List ℕ) → bytes_eq a b ≡ bytes_eq b a
bytes_sym a b = by_test (bytes_eq a b) (bytes_eq b a) refl refl
  where
    by_test : (s t : Bool) → bytes_eq a b ≡ s → bytes_eq b a ≡ t → bytes_eq a b ≡ bytes_eq b a
    by_test true true p q = p ∙ sym q
    by_test false false p q = p ∙ sym q
    by_test true false p q = let e : bytes_eq b a ≡ true = (bytes_eq-Decides b a).1 (sym ((bytes_eq-Decides a b).0 p)) in cc
    by_test false true p q = let e : bytes_eq a b ≡ true = (bytes_eq-Decides a b).1 (sym ((bytes_eq-Decides b a).0 q)) in cc

-- two ends at different places have different texts
apart_at : (es : List End) (i j : ℕ) (d : End) → IsDistinct bytes_eq (map text_of es) → i ≢ j → i < length es → j < length es → text_of (get_or es i d) ≢ text_of (get_or es j d)
apart_at es i j d once other lt1 lt2 same = by_order (cases_lt i j)
  where
    at : (k : ℕ) → k < length es → get_or (map text_of es) k (text_of d) ≡ text_of (get_or es k d)
    at k lt = get_or-map text_of es k d (text_of d) lt

    differ : (k l : ℕ) → k < l → k < length es → l < length es → text_of (get_or es k d) ≡ text_of (get_or es l d) → ⊥
    differ k l lt kl ll e =
        let apart = apart_from_distinct bytes_eq (map text_of es) k l (text_of d) once lt (rw length-map ll) in
        let is : bytes_eq (get_or (map text_of es) k (text_of d)) (get_or (map text_of es) l (text_of d)) ≡ true = (bytes_eq-Decides _ _).1 (at k kl ∙ e ∙ sym (at l ll)) in cc

    by_order : (i < j) ⊎ (j ≤ i) → ⊥
    by_order (inl lt) = differ i j lt lt1 lt2 same
    by_order (inr le) = differ j i (omega (arith, le, other)) lt2 lt1 (sym same)

-- one of the ends has the text of one more situation, and is counted so many times more
pub told-again : (labels : List Label) (xs zs : List Situation) (ns : List ℕ) (z : Situation) (n : ℕ) (es es' : List End) (i : ℕ) (e e' : End) → AreTold labels xs zs ns es →
    IsAt es i e → end_text labels z ≡ text_of e → es' ≡ set es i e' → text_of e' ≡ text_of e → e'.place ≡ e.place →
    ((m : ℕ) → Tells e.count m → Tells e'.count (m + n)) → AreTold labels xs (zs ++ z ∷ []) (ns ++ n ∷ []) es'
told-again labels xs zs ns z n es es' i e e' told at same is texts places more = record {
  beside = length-append ns (n ∷ []) ∙ ap (λ k. k + 1) told.beside ∙ sym (length-append zs (z ∷ []));
  once = subst (λ ts. IsDistinct bytes_eq ts) (sym as_before) told.once;
  all = subst (λ ts. All (λ z. Contains ts (end_text labels z)) (zs ++ z ∷ [])) (sym as_before)
      (All-push (λ z. Contains (map text_of es) (end_text labels z)) zs z told.all (subst (λ t. Contains (map text_of es) t) (sym same) here));
  counted = subst (λ ys. All (IsCounted labels (zs ++ z ∷ []) (ns ++ n ∷ [])) ys) (sym is) counted;
  placed = subst (λ ys. All (IsPlaced labels xs (zs ++ z ∷ [])) ys) (sym is) (All-set (IsPlaced labels xs (zs ++ z ∷ [])) es i e' placed_here placed_all);
}
  where
    lt : i < length es
    lt = slice_get_within es i e at

    read : (d : End) → get_or es i d ≡ e
    read d = get_or_from_slice_get es i e d at

    as_before : map text_of es' ≡ map text_of es
    as_before = ap (map text_of) is ∙ map-set text_of es i e' ∙ ap (λ t. set (map text_of es) i t) (texts ∙ sym (ap text_of (read e)) ∙ sym (get_or-map text_of es i e (text_of e) lt)) ∙ set-get_or (map text_of es) i (text_of e)

    here : Contains (map text_of es) (text_of e)
    here = let c = Contains-get_or (map text_of es) i (text_of e) (rw length-map lt) in subst (λ t. Contains (map text_of es) t) (get_or-map text_of es i e (text_of e) lt ∙ ap text_of (read e)) c

    placed_all : All (IsPlaced labels xs (zs ++ z ∷ [])) es
    placed_all = All-weaker (IsPlaced labels xs zs) (IsPlaced labels xs (zs ++ z ∷ [])) (wider labels xs zs z) es told.placed

    placed_here : IsPlaced labels xs (zs ++ z ∷ []) e'
    placed_here = let p = subst (IsPlaced labels xs (zs ++ z ∷ [])) (read e) (placed_all i e lt) in (p.0, subst (λ k. IsAt xs k p.0) (sym places) p.1, p.2, p.3 ∙ sym texts)

    counted_here : IsCounted labels (zs ++ z ∷ []) (ns ++ n ∷ []) e'
    counted_here =
        let was : IsCounted labels zs ns e = subst (IsCounted labels zs ns) (read e) (told.counted i e lt) in
        let so = more _ was in
        subst (Tells e'.count) (sym (ap (λ t. weighed (hit labels t) (zs ++ z ∷ []) (ns ++ n ∷ [])) texts ∙ one_more labels (text_of e) zs ns z n told.beside same)) so

    counted : All (IsCounted labels (zs ++ z ∷ []) (ns ++ n ∷ [])) (set es i e')
    counted j d lt' = by_place (cases_lt i j) (cases_lt j i)
      where
        within : j < length es
        within = rw length-set at lt'

        elsewhere : i ≢ j → IsCounted labels (zs ++ z ∷ []) (ns ++ n ∷ []) (get_or (set es i e') j d)
        elsewhere other =
            let apart = apart_at es i j d told.once other lt within in
            let differs : end_text labels z ≢ text_of (get_or es j d) = λ s. apart (ap text_of (read d) ∙ sym same ∙ s) in
            let was = told.counted j d within in
            subst (IsCounted labels (zs ++ z ∷ []) (ns ++ n ∷ [])) (sym (get_or-set_other es i j e' d (λ s. other (sym s))))
            (subst (Tells (get_or es j d).count) (sym (none_more labels (text_of (get_or es j d)) zs ns z n told.beside differs)) was)

        by_place : (i < j) ⊎ (j ≤ i) → (j < i) ⊎ (i ≤ j) → IsCounted labels (zs ++ z ∷ []) (ns ++ n ∷ []) (get_or (set es i e') j d)
        by_place (inl a) b = elsewhere (omega (arith, a))
        by_place (inr a) (inl b) = elsewhere (omega (arith, b))
        by_place (inr a) (inr b) =
            let e : i ≡ j = omega (arith, a, b) in
            subst (λ k. IsCounted labels (zs ++ z ∷ []) (ns ++ n ∷ []) (get_or (set es i e') k d)) e
            (subst (IsCounted labels (zs ++ z ∷ []) (ns ++ n ∷ [])) (sym (get_or-set_same es i e' d lt)) counted_here)

-- where none of the situations has this text, none is counted
uncounted : (labels : List Label) (t : List ℕ) (zs : List Situation) (ns : List ℕ) → All (λ y. end_text labels y ≢ t) zs → weighed (hit labels t) zs ns ≡ 0
uncounted labels t [] ns none = refl
uncounted labels t (z ∷ zs) [] none = refl
uncounted labels t (z ∷ zs) (n ∷ ns) none =
    let h = hit-no labels t z (All-head (λ y. end_text labels y ≢ t) z zs none) in
    let k = uncounted labels t zs ns (All-tail (λ y. end_text labels y ≢ t) z zs none) in
    rw h (omega (arith, k))

zero_more : (n : ℕ) → 0 + n ≡ n
zero_more n = omega arith

-- no end has the text of one more situation, and it is told anew
pub told-anew : (labels : List Label) (xs zs : List Situation) (ns : List ℕ) (z : Situation) (n : ℕ) (es es' : List End) (e : End) → AreTold labels xs zs ns es →
    All (λ a. text_of a ≢ text_of e) es → end_text labels z ≡ text_of e → IsAt xs e.place z → Tells e.count n → es' ≡ es ++ e ∷ [] →
    AreTold labels xs (zs ++ z ∷ []) (ns ++ n ∷ []) es'
told-anew labels xs zs ns z n es es' e told others same at tells is = record {
  beside = length-append ns (n ∷ []) ∙ ap (λ k. k + 1) told.beside ∙ sym (length-append zs (z ∷ []));
  once = subst (λ ts. IsDistinct bytes_eq ts) (sym texts) (IsDistinct-push (lists_equiv nat_eq_equiv) (map text_of es) (text_of e) told.once none_same);
  all = subst (λ ts. All (λ z. Contains ts (end_text labels z)) (zs ++ z ∷ [])) (sym texts)
      (All-push (λ z. Contains (map text_of es ++ text_of e ∷ []) (end_text labels z)) zs z
      (All-weaker (λ z. Contains (map text_of es) (end_text labels z)) (λ z. Contains (map text_of es ++ text_of e ∷ []) (end_text labels z)) (λ y c. Contains-append_left (map text_of es) (text_of e ∷ []) (end_text labels y) c) zs told.all)
      (subst (λ t. Contains (map text_of es ++ text_of e ∷ []) t) (sym same) (Contains-push (map text_of es) (text_of e))));
  counted = subst (λ ys. All (IsCounted labels (zs ++ z ∷ []) (ns ++ n ∷ [])) ys) (sym is) (All-push (IsCounted labels (zs ++ z ∷ []) (ns ++ n ∷ [])) es e counted_before counted_here);
  placed = subst (λ ys. All (IsPlaced labels xs (zs ++ z ∷ [])) ys) (sym is)
      (All-push (IsPlaced labels xs (zs ++ z ∷ [])) es e (All-weaker (IsPlaced labels xs zs) (IsPlaced labels xs (zs ++ z ∷ [])) (wider labels xs zs z) es told.placed) (z, at, Contains-push zs z, same));
}
  where
    texts : map text_of es' ≡ map text_of es ++ text_of e ∷ []
    texts = ap (map text_of) is ∙ map-append text_of es (e ∷ [])

    others_by_text : All (λ t. t ≢ text_of e) (map text_of es)
    others_by_text = All-map (λ t. t ≢ text_of e) text_of es others

    none_same : list_any (bytes_eq (text_of e)) (map text_of es) ≡ false
    none_same = list_any_none (bytes_eq (text_of e)) (map text_of es) (All-weaker (λ t. t ≢ text_of e) (λ t. bytes_eq (text_of e) t ≡ false) (λ t other. differ t other) (map text_of es) others_by_text)
      where
        differ : (t : List ℕ) → t ≢ text_of e → bytes_eq (text_of e) t ≡ false
        differ t other = by_test (bytes_eq (text_of e) t) refl
          where
            by_test : (b : Bool) → bytes_eq (text_of e) t ≡ b → bytes_eq (text_of e) t ≡ false
            by_test true b = absurd (other (sym ((bytes_eq-Decides (text_of e) t).0 b)))
            by_test false b = b

    unlike : All (λ y. end_text labels y ≢ text_of e) zs
    unlike = All-weaker (λ y. Contains (map text_of es) (end_text labels y)) (λ y. end_text labels y ≢ text_of e) (λ y c. All-contains (λ t. t ≢ text_of e) (map text_of es) (end_text labels y) others_by_text c) zs told.all

    counted_here : IsCounted labels (zs ++ z ∷ []) (ns ++ n ∷ []) e
    counted_here = subst (Tells e.count) (sym (one_more labels (text_of e) zs ns z n told.beside same ∙ ap (λ k. k + n) (uncounted labels (text_of e) zs ns unlike) ∙ zero_more n)) tells

    counted_before : All (IsCounted labels (zs ++ z ∷ []) (ns ++ n ∷ [])) es
    counted_before j d lt =
        let differs : end_text labels z ≢ text_of (get_or es j d) = λ s. others j d lt (sym s ∙ same) in
        subst (Tells (get_or es j d).count) (sym (none_more labels (text_of (get_or es j d)) zs ns z n told.beside differs)) (told.counted j d lt)

-- so it is in each order
pub told-ordered : (labels : List Label) (xs zs : List Situation) (ns : List ℕ) (es es' : List End) → AreTold labels xs zs ns es → IsPermutation es es' → AreTold labels xs zs ns es'
told-ordered labels xs zs ns es es' told p = record {
  beside = told.beside;
  once = IsDistinct-IsPermutation bytes_eq bytes_sym (map text_of es) (map text_of es') texts told.once;
  all = All-weaker (λ z. Contains (map text_of es) (end_text labels z)) (λ z. Contains (map text_of es') (end_text labels z)) (λ z c. Contains-permutation (map text_of es) (map text_of es') (end_text labels z) texts c) zs told.all;
  counted = All-permutation (IsCounted labels zs ns) es es' p told.counted;
  placed = All-permutation (IsPlaced labels xs zs) es es' p told.placed;
}
  where
    texts : IsPermutation (map text_of es) (map text_of es')
    texts = IsPermutation-map text_of es es' p

-- no situation is told by no end
pub told-none : (labels : List Label) (xs : List Situation) → AreTold labels xs [] [] []
told-none labels xs = record {
  beside = refl;
  once = IsDistinct-from_apart bytes_eq [] (λ i j d lt1 lt2. absurd (omega (arith, lt2)));
  all = All-nil (λ z. Contains [] (end_text labels z));
  counted = All-nil (IsCounted labels [] []);
  placed = All-nil (IsPlaced labels xs []);
}

-- the situations at the ends of all interleavings are told: so all interleavings are
pub told-all : (plan : Plan) (labels : List Label) (xs : List Situation) (rows : List (List ℕ)) (ends : List ℕ) (counts : List Count) (es : List End) →
    IsWalk (spec.moves plan) (spec.starts plan) xs rows ends → (paths : CountsPaths (spec.moves plan) (spec.starts plan) (spec.rank plan (spec.starts plan)) xs ends counts) →
    AreTold labels xs paths.states paths.numbers es → TellsEnds plan labels xs es
told-all plan labels xs rows ends counts es walk paths told = record {
  once = told.once;
  all = λ z end. all_told z (walk.ended z).1 end;
  counted = λ j d lt n more. subst (Tells (get_or es j d).count) (sym (paths.all (hit labels (text_of (get_or es j d))) n more)) (told.counted j d lt);
  placed = All-weaker (IsPlaced labels xs paths.states) (λ e. (z : Situation) × IsAt xs e.place z × IsEnd plan z × (end_text labels z ≡ text_of e)) (λ e p. (p.0, p.1, is_end p.0 p.2, p.3)) es told.placed;
}
  where
    all_told : (z : Situation) → (IsEnd plan z → (i : ℕ) × Contains ends i × IsAt xs i z) → IsEnd plan z → Contains (map text_of es) (end_text labels z)
    all_told z find end =
        let f = find end in
        let q = zip_from (IsAt xs) ends paths.states paths.at_ends f.1.0 f.0 (place_of ends f.0 f.1) in
        let same : q.0 ≡ z = same_Some _ _ (sym q.2 ∙ f.2) in
        All-contains (λ y. Contains (map text_of es) (end_text labels y)) paths.states z told.all (subst (Contains paths.states) same (contained paths.states f.1.0 q.0 q.1))

    is_end : (z : Situation) → Contains paths.states z → IsEnd plan z
    is_end z c =
        let q = zip_at (IsAt xs) ends paths.states paths.at_ends c.0 z (place_of paths.states z c) in
        (walk.ended z).0 (q.0, contained ends c.0 q.0 q.1, q.2)

-- the last of a list that is beside another
pub zip_last : {A B : Type 0} (R : A → B → Type 0) (xs : List A) (x : A) (ys : List B) → AllZip R (xs ++ x ∷ []) ys → (zs : List B) × (y : B) × (ys ≡ zs ++ y ∷ []) × AllZip R xs zs × R x y
zip_last R [] x [] h = absurd h
zip_last R [] x (y ∷ []) h = ([], y, refl, tt, h.0)
zip_last R [] x (y ∷ (w ∷ ys)) h = absurd h.1
zip_last R (a ∷ xs) x [] h = absurd h
zip_last R (a ∷ xs) x (y ∷ ys) h = let r = zip_last R xs x ys h.1 in (y ∷ r.0, r.1, ap (λ l. y ∷ l) r.2, (h.0, r.3), r.4)

-- one more place and its count, where an end was taken in
pub told-turn : (labels : List Label) (xs : List Situation) (ks : List ℕ) (cs : List Count) (k : ℕ) (c : Count) (text : List ℕ) (es es' : List End) →
    ((zs : List Situation) (ns : List ℕ) → AllZip (IsAt xs) ks zs → AllZip Tells cs ns → AreTold labels xs zs ns es) → ((z : Situation) → IsAt xs k z → end_text labels z ≡ text) →
    ((zs : List Situation) (ns : List ℕ) (z : Situation) (n : ℕ) → AreTold labels xs zs ns es → IsAt xs k z → end_text labels z ≡ text → Tells c n → AreTold labels xs (zs ++ z ∷ []) (ns ++ n ∷ []) es') →
    (zs : List Situation) (ns : List ℕ) → AllZip (IsAt xs) (ks ++ k ∷ []) zs → AllZip Tells (cs ++ c ∷ []) ns → AreTold labels xs zs ns es'
told-turn labels xs ks cs k c text es es' before reads one zs ns at tells =
    let p = zip_last (IsAt xs) ks k zs at in
    let q = zip_last Tells cs c ns tells in
    subst (λ zs. AreTold labels xs zs ns es') (sym p.2) (subst (λ ns. AreTold labels xs (p.0 ++ p.1 ∷ []) ns es') (sym q.2)
    (one p.0 q.0 p.1 q.1 (before p.0 q.0 p.3 q.3) p.4 (reads p.1 p.4) q.4))

pub told-begin : (labels : List Label) (xs zs : List Situation) (ns : List ℕ) (es : List End) → es ≡ [] → AllZip (IsAt xs) [] zs → AllZip Tells [] ns → AreTold labels xs zs ns es
told-begin labels xs [] [] es none at tells = subst (AreTold labels xs [] []) (sym none) (told-none labels xs)
told-begin labels xs [] (n ∷ ns) es none at tells = absurd tells
told-begin labels xs (z ∷ zs) ns es none at tells = absurd at

pub any_default : {A : Type 0} (xs : List A) (i : ℕ) (d e : A) → i < length xs → get_or xs i d ≡ get_or xs i e
any_default [] i d e lt = absurd (omega (arith, lt))
any_default (x ∷ xs) zero d e lt = refl
any_default (x ∷ xs) (suc i) d e lt = any_default xs i d e (omega (arith, lt))
