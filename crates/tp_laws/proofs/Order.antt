-- The order in which tasks leave the queue.
use Rattle.std.proofs.Common.{◌≡◌, ℕ, ◌≤◌, Bool, true, false, List, [], ◌∷◌, ◌++◌, Some, None, Option, refl, arith, sym, ap, ◌∙◌, append_assoc, subst, inl, inr}
use Rattle.std.specs.Prelude.{◌==◌, ◌||◌, nat_le, filter, option_to_list}
use Rattle.std.proofs.lemmas.Bool.{false_from_ne_true, false≢true, eq-eqb, eqb-true, leb-true, or_cases}
use Rattle.std.proofs.lemmas.List.{append-nil}
use Rattle.std.proofs.lemmas.List.Elements.{filter-append}
use Rattle.std.proofs.lemmas.Bool.Decides.{nat_tests}
use Rattle.tp_types.specs.declared.configs.Config.{Config}
use Rattle.tp_types.specs.Queues.{is_ranked}
use Rattle.tp_record.specs.declared.entries.Entry.{Entry}
use Rattle.tp_record.specs.declared.entries.Did.{Did}
use Rattle.tp_record.specs.declared.entries.Did.TheVariants as did
use Rattle.tp_record.specs.declared.entries.Took.TheVariants as took
use Rattle.tp_record.specs.declared.entries.Ruled.TheVariants as ruled
use Rattle.tp_record.specs.Fields.{queue, queued, priority, place, is_queued_place}
use Rattle.tp_record.specs.Lists.{arrange, in_line, is_among, IsOnce}
use Rattle.tp_record.specs.Words.{queued_by, waits_in_queue, offers_in_order}
use Rattle.tp_laws.proofs.Model.Given.{Given, Told}
use Rattle.tp_laws.proofs.Model.Arranged.{AllPass, least-first, equal-first}
use Rattle.tp_laws.proofs.Model.Queues.{among-append, among-queue, once-queued, once-filter}
use Rattle.tp_laws.proofs.WordsTasks.{queued_agrees}
use Rattle.tp_laws.proofs.WordsQueue.{queue_words, waiting_words, priority_agrees}
use Rattle.tp_laws.specs.Laws.{leaves_in_turn, FirstLeaves, QueueOrder, NoneBefore, FirstOfEquals}

-- who leaves in turn is the first of the queue, and is queued
turn_given : (c : Config) (h : List Entry) (d : Did) (u : ℕ) → Given c h d → leaves_in_turn d ≡ Some u → ((rest : List ℕ) × (queue c h ≡ u ∷ rest)) × (is_queued_place (place h u) ≡ true)
turn_given c h (did.Take w (took.Head x)) u given is =
    let same : x.0 ≡ u = cc in
    subst (λ y. ((rest : List ℕ) × (queue c h ≡ y ∷ rest)) × (is_queued_place (place h y) ≡ true)) same (given.1, rw given.2.1 refl)
turn_given c h _ u given is = grind (arith, nat_tests)

pub first_leaves : (c : Config) (e : Entry) (h : List Entry) → Told c (e ∷ h) → FirstLeaves c e h
first_leaves c e h told u is =
    let turn = turn_given c h e.did u told.0 is in
    (turn.0.0, queue_words c h told.1 ∙ turn.0.1)

offers-append : (xs ys : List Entry) → offers_in_order (xs ++ ys) ≡ offers_in_order ys ++ offers_in_order xs
offers-append [] ys = sym (append-nil (offers_in_order ys))
offers-append (e ∷ xs) ys = ap (λ l. l ++ option_to_list (queued_by e.did)) (offers-append xs ys) ∙ append_assoc (offers_in_order ys) (offers_in_order xs) (option_to_list (queued_by e.did))

offers-cons : (e : Entry) (h : List Entry) (t : ℕ) → queued_by e.did ≡ Some t → offers_in_order (e ∷ h) ≡ offers_in_order h ++ t ∷ []
offers-cons e h t is = ap (λ o. offers_in_order h ++ option_to_list o) is

-- the tasks that were put in the queue, where t was put there before u
offers_of : (after between before : List Entry) (eu et : Entry) (t u : ℕ) → queued_by et.did ≡ Some t → queued_by eu.did ≡ Some u →
    offers_in_order (after ++ eu ∷ (between ++ et ∷ before)) ≡ offers_in_order before ++ t ∷ (offers_in_order between ++ u ∷ offers_in_order after)
offers_of after between before eu et t u first second =
    offers-append after (eu ∷ (between ++ et ∷ before))
    ∙ ap (λ l. l ++ offers_in_order after)
    (offers-cons eu (between ++ et ∷ before) u second
    ∙ ap (λ l. l ++ u ∷ []) (offers-append between (et ∷ before) ∙ ap (λ l. l ++ offers_in_order between) (offers-cons et before t first)))
    ∙ grouped (offers_in_order before) (offers_in_order between) (offers_in_order after)
  where
    grouped : (xs ys zs : List ℕ) → (((xs ++ t ∷ []) ++ ys) ++ u ∷ []) ++ zs ≡ xs ++ t ∷ (ys ++ u ∷ zs)
    grouped xs ys zs = simp append_assoc

or_true : (b : Bool) → (b || true) ≡ true
or_true true = refl
or_true false = refl

among_later : (u : ℕ) (ys zs : List ℕ) → is_among u (ys ++ u ∷ zs) ≡ true
among_later u ys zs = among-append u ys (u ∷ zs) ∙ rw (eq-eqb u u refl) (or_true (is_among u ys))

-- a list that begins with u, and has u again after t, has u among its rest
head_again : (xs ys zs rest : List ℕ) (t u : ℕ) → xs ++ t ∷ (ys ++ u ∷ zs) ≡ u ∷ rest → is_among u rest ≡ true
head_again [] ys zs rest t u is =
    let e : ys ++ u ∷ zs ≡ rest = cc in
    ap (is_among u) (sym e) ∙ among_later u ys zs
head_again (x ∷ xs) ys zs rest t u is =
    let e : xs ++ t ∷ (ys ++ u ∷ zs) ≡ rest = cc in
    ap (is_among u) (sym e) ∙ among-append u xs (t ∷ (ys ++ u ∷ zs))
    ∙ ap (λ b. is_among u xs || (u == t || b)) (among_later u ys zs)
    ∙ ap (λ b. is_among u xs || b) (or_true (u == t)) ∙ or_true (is_among u xs)

-- a filter that passes t and u keeps them in place
pub filter_kept : (p : ℕ → Bool) (xs ys zs : List ℕ) (t u : ℕ) → p t ≡ true → p u ≡ true →
    filter p (xs ++ t ∷ (ys ++ u ∷ zs)) ≡ filter p xs ++ t ∷ (filter p ys ++ u ∷ filter p zs)
filter_kept p xs ys zs t u first second =
    filter-append p xs (t ∷ (ys ++ u ∷ zs))
    ∙ ap (λ l. filter p xs ++ l) (rw first (ap (λ l. t ∷ l) (filter-append p ys (u ∷ zs) ∙ ap (λ l. filter p ys ++ l) (rw second refl))))

-- a filter of the tasks that wait has none twice
once-equal : (c : Config) (h : List Entry) (p : ℕ → Bool) (u : ℕ) (rest : List ℕ) → filter p (queued h) ≡ u ∷ rest → IsOnce (u ∷ rest)
once-equal c h p u rest is = subst IsOnce is (once-filter p (queued h) (once-queued h))

-- t was put in the queue before u, and both wait: in a filter of those that wait that begins with u, t does not pass
order_by : (c : Config) (e : Entry) (after between before : List Entry) (eu et : Entry) → Told c (e ∷ (after ++ eu ∷ (between ++ et ∷ before))) →
    (t u : ℕ) → queued_by et.did ≡ Some t → queued_by eu.did ≡ Some u → leaves_in_turn e.did ≡ Some u →
    (p : ℕ → Bool) → p t ≡ true → p u ≡ true → (rest : List ℕ) → filter p (queued (after ++ eu ∷ (between ++ et ∷ before))) ≡ u ∷ rest →
    waits_in_queue (after ++ eu ∷ (between ++ et ∷ before)) t ≡ false
order_by c e after between before eu et told t u first second leaves p at-t at-u rest begins =
    false_from_ne_true (waits_in_queue h t) (λ waits.
    let turn = turn_given c h e.did u told.0 leaves in
    let there : waits_in_queue h u ≡ true = queued_agrees c h told.1 u ∙ turn.1 in
    let line : filter p (filter (waits_in_queue h) (offers_in_order before)) ++ t ∷ (filter p (filter (waits_in_queue h) (offers_in_order between)) ++ u ∷ filter p (filter (waits_in_queue h) (offers_in_order after))) ≡ u ∷ rest =
    sym (filter_kept p (filter (waits_in_queue h) (offers_in_order before)) (filter (waits_in_queue h) (offers_in_order between)) (filter (waits_in_queue h) (offers_in_order after)) t u at-t at-u)
    ∙ ap (filter p)
    (sym (filter_kept (waits_in_queue h) (offers_in_order before) (offers_in_order between) (offers_in_order after) t u waits there)
    ∙ ap (filter (waits_in_queue h)) (sym (offers_of after between before eu et t u first second))
    ∙ waiting_words c h told.1)
    ∙ begins in
    let again : is_among u rest ≡ true = head_again _ _ _ rest t u line in
    let once : IsOnce (u ∷ rest) = once-equal c h p u rest begins in
    false≢true (sym once.0 ∙ again))
  where
    h : List Entry
    h = after ++ eu ∷ (between ++ et ∷ before)

-- the queue is the list of those that wait, where it does not go by priority
plain_queue : (c : Config) (h : List Entry) → is_ranked c.queue ≡ false → queue c h ≡ queued h
plain_queue c h is = ap (λ b. in_line b (priority h) (queued h)) is

filter-true : (xs : List ℕ) → filter (λ x. true) xs ≡ xs
filter-true [] = refl
filter-true (x ∷ xs) = ap (λ ys. x ∷ ys) (filter-true xs)

pub queue_order : (c : Config) (e : Entry) (after between before : List Entry) (eu et : Entry) → is_ranked c.queue ≡ false → Told c (e ∷ (after ++ eu ∷ (between ++ et ∷ before))) →
    QueueOrder e after eu between et before
queue_order c e after between before eu et plain told t u first second leaves =
    let h = after ++ eu ∷ (between ++ et ∷ before) in
    let turn = turn_given c h e.did u told.0 leaves in
    order_by c e after between before eu et told t u first second leaves (λ x. true) refl refl turn.0.0
    (filter-true (queued h) ∙ sym (plain_queue c h plain) ∙ turn.0.1)

-- each that waits is among the queue
least_among : (f : ℕ → ℕ) (u t : ℕ) (rest : List ℕ) → AllPass (λ y. nat_le (f u) (f y)) rest → is_among t (u ∷ rest) ≡ true → f u ≤ f t
least_among f u t rest least found = elim (or_cases (t == u) (is_among t rest) found) [
  | inl same ↦ let e = ap f (eqb-true t u same) in omega (arith, e)
  | inr later ↦ in_rest rest least later
]
  where
    in_rest : (xs : List ℕ) → AllPass (λ y. nat_le (f u) (f y)) xs → is_among t xs ≡ true → f u ≤ f t
    in_rest [] all is = absurd (false≢true is)
    in_rest (x ∷ xs) all is = elim (or_cases (t == x) (is_among t xs) is) [
      | inl same ↦ let e = ap f (eqb-true t x same) in let l = leb-true (f u) (f x) all.0 in omega (arith, e, l)
      | inr later ↦ in_rest xs all.1 later
    ]

ranked_queue : (c : Config) (h : List Entry) → is_ranked c.queue ≡ true → arrange (priority h) (queued h) ≡ queue c h
ranked_queue c h is = sym (ap (λ b. in_line b (priority h) (queued h)) is)

pub none_before : (c : Config) (e : Entry) (h : List Entry) → Told c (e ∷ h) → NoneBefore c e h
none_before c e h told ranked t u leaves waits =
    let turn = turn_given c h e.did u told.0 leaves in
    let found : is_among t (u ∷ turn.0.0) ≡ true = ap (is_among t) (sym turn.0.1) ∙ among-queue c h t ∙ sym (queued_agrees c h told.1 t) ∙ waits in
    let least = least_among (priority h) u t turn.0.0 (least-first (priority h) (queued h) u turn.0.0 (ranked_queue c h ranked ∙ turn.0.1)) found in
    rw (priority_agrees h u, priority_agrees h t) least

pub first_of_equals : (c : Config) (e : Entry) (after between before : List Entry) (eu et : Entry) → Told c (e ∷ (after ++ eu ∷ (between ++ et ∷ before))) →
    FirstOfEquals e after eu between et before
first_of_equals c e after between before eu et told t u first second leaves same = by (is_ranked c.queue) refl
  where
    h : List Entry
    h = after ++ eu ∷ (between ++ et ∷ before)

    by : (b : Bool) → is_ranked c.queue ≡ b → waits_in_queue (after ++ eu ∷ (between ++ et ∷ before)) t ≡ false
    by false plain = queue_order c e after between before eu et plain told t u first second leaves
    by true ranked =
        let turn = turn_given c h e.did u told.0 leaves in
        let equal : priority h t ≡ priority h u = sym (priority_agrees h t) ∙ same ∙ priority_agrees h u in
        order_by c e after between before eu et told t u first second leaves (λ x. priority h x == priority h u)
        (eq-eqb (priority h t) (priority h u) equal) (eq-eqb (priority h u) (priority h u) refl)
        (filter (λ y. priority h y == priority h u) turn.0.0)
        (equal-first (priority h) (queued h) u turn.0.0 (ranked_queue c h ranked ∙ turn.0.1))
