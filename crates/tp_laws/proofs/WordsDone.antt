-- Completions of groups: the words of the rules agree with the working tables.
use Rattle.std.proofs.Common.{◌≡◌, ℕ, suc, ◌+◌, ◌≤◌, Bool, true, false, not, ◌&&◌, cond, List, [], ◌∷◌, ◌++◌, length, drop, Some, None, Option, refl, arith, sym, ap, subst, eqb, ◌∙◌, inl, inr}
use Rattle.std.specs.Prelude.{unwrap_or, nat_lt, ◌==◌, ◌||◌, is_some, filter, count_by, option_to_list, if◌then◌else◌}
use Rattle.std.proofs.lemmas.Bool.{cases_eq, cases_lt, eq-eqb, ne_eqb}
use Rattle.std.proofs.lemmas.Bool.Decides.{nat_tests}
use Rattle.std.proofs.lemmas.List.{append-nil, append_assoc, length-append}
use Rattle.std.proofs.lemmas.List.Elements.{filter-append, filter_agree}
use mathlib.Core.Path.{ap₂}
use Rattle.tp_types.specs.declared.ids.TaskId.{TaskId}
use Rattle.tp_types.specs.declared.tasks.Place.{Place}
use Rattle.tp_types.specs.declared.configs.Config.{Config}
use Rattle.tp_record.specs.declared.entries.Entry.{Entry}
use Rattle.tp_record.specs.declared.entries.Ask.{Ask}
use Rattle.tp_record.specs.declared.entries.Did.{Did}
use Rattle.tp_record.specs.declared.entries.Did.TheVariants as did
use Rattle.tp_types.specs.declared.tasks.Kind.{Kind}
use Rattle.tp_types.specs.declared.tasks.Kind.TheVariants as kinds
use Rattle.tp_types.specs.declared.tasks.Fate.{Fate}
use Rattle.tp_record.specs.Lists.{said_of, is_it, without, at_end, IsOnce}
use Rattle.tp_record.specs.Effects.{cancels, kinds_said, completes, hands_out, is_group}
use Rattle.tp_record.specs.Fields.{place, kind, is_cancelled, ending, submitted, completed, is_done, done}
use Rattle.tp_record.specs.State.{state, task_at}
use Rattle.tp_record.specs.Step.{is_of_group, done_of}
use Rattle.tp_record.specs.Words.{submitted_by, is_submitted, kind_of, was_cancelled, cancelled_by, body_ended_by, is_in_group, keep_where, completions_of, takes_done, done_in_group}
use Rattle.tp_laws.proofs.Model.Given.{Given, Told}
use Rattle.tp_laws.proofs.Model.Readings.{row_read, row_past}
use Rattle.tp_laws.proofs.Model.ListLaws.{filter-filter, filter-filter_agree}
use Rattle.tp_laws.proofs.WordsLists.{count_by-cons, filter_true, without_new, at_end_new, filter_commute, without_absent, filter_head, drop-append_more, drop_head}
use Rattle.tp_laws.proofs.Model.Queues.{once-filter, once-done}
use Rattle.tp_laws.proofs.WordsTasks.{Fits, told_fits, is_submitted_below, cancelled_agrees}
use Rattle.tp_laws.proofs.WordsSlots.{kind_agrees}
use Rattle.tp_laws.proofs.WordsFates.{EndsGone, ending_after, ending_gone}

-- what a cancel says of its task before it
abbrev FitsCancel : Did → ℕ → Bool → Bool → Option Fate → Type 0
FitsCancel (did.Cancel u flag true) t known c f = t ≡ u.0 → (known ≡ true) × (c ≡ false) × (f ≡ None)
FitsCancel _ t known c f = Unit {0}

-- a given cancel says so
fits_cancel : (c : Config) (h : List Entry) (d : Did) (t : ℕ) → is_submitted h t ≡ nat_lt t (submitted h) → Given c h d →
    FitsCancel d t (is_submitted h t) (is_cancelled h t) (ending h t)
fits_cancel c h (did.Cancel u flag true) t known given = λ same.
    (known ∙ grind (arith, nat_tests, given.0), ap (is_cancelled h) same ∙ given.2, ap (ending h) same ∙ given.3)
fits_cancel c h _ t known given = tt

-- a given cancel says so, at a record that was told
told_fits_cancel : (c : Config) (h : List Entry) (d : Did) (t : ℕ) → Told c h → Given c h d → FitsCancel d t (is_submitted h t) (is_cancelled h t) (ending h t)
told_fits_cancel c h d t told given = fits_cancel c h d t (is_submitted_below c h told t) given

-- an entry completes t, of this kind
abbrev completes_now : Did → ℕ → Kind → Bool → Bool
completes_now (did.Cancel u flag true) t k c = (t == u.0) && is_group k
completes_now (did.End w u o) t k c = (t == u.0) && (is_group k && not c)
completes_now (did.CallerEnd u o) t k c = (t == u.0) && (is_group k && not c)
completes_now _ t k c = false

-- a number that is named if it passes a test
is_it_if : (p : ℕ → Bool) (t u : ℕ) → is_it (if p u then Some u else None) t ≡ ((t == u) && p t)
is_it_if p t u =
    by_test (p u)
    ∙ elim (cases_eq t u) [ inl same ↦ ap (λ x. (t == u) && p x) (sym same) | inr other ↦ rw (ne_eqb t u other) refl ]
  where
    by_test : (b : Bool) → is_it (if b then Some u else None) t ≡ ((t == u) && b)
    by_test b = grind (arith, nat_tests)

-- the table names the task that the entry completes
completes_at : (d : Did) (kinds_of : ℕ → Kind) (cancelled_of : ℕ → Bool) (t : ℕ) → is_it (completes d kinds_of cancelled_of) t ≡ completes_now d t (kinds_of t) (cancelled_of t)
completes_at (did.Cancel u flag true) kinds_of cancelled_of t = is_it_if (λ x. is_group (kinds_of x)) t u.0
completes_at (did.End w u o) kinds_of cancelled_of t = is_it_if (λ x. is_group (kinds_of x) && not (cancelled_of x)) t u.0
completes_at (did.CallerEnd u o) kinds_of cancelled_of t = is_it_if (λ x. is_group (kinds_of x) && not (cancelled_of x)) t u.0
completes_at _ kinds_of cancelled_of t = refl

-- an entry completes t
abbrev was_completed : List Entry → ℕ → Bool
was_completed [] t = false
was_completed (e ∷ h) t = is_it (completes e.did (kind h) (is_cancelled h)) t || was_completed h t

-- a completed task was submitted, and was cancelled or has an ending
abbrev IsOver : Bool → Bool → Bool → Option Fate → Type 0
IsOver was known c f = was ≡ true → (known ≡ true) × ((c || is_some f) ≡ true)

-- an entry keeps that
over_step : (d : Did) (t : ℕ) (k : Kind) (c known was : Bool) (p : Place) (f : Option Fate) → Fits d t known p → FitsCancel d t known c f → EndsGone known p f → IsOver was known c f →
    IsOver (completes_now d t k c || was) (is_it (submitted_by d) t || known) (unwrap_or (said_of t (cancels d)) c) (ending_after d t p f)
over_step (did.Submit u j pr l) t k c known was p f fits cancel gone before = grind (arith, nat_tests)
over_step _ t k c known was p f fits cancel gone before = grind (arith, nat_tests)

-- so it is at each record
completed_over : (c : Config) (h : List Entry) → Told c h → (t : ℕ) → IsOver (was_completed h t) (is_submitted h t) (is_cancelled h t) (ending h t)
completed_over c [] told t = λ was. absurd cc
completed_over c (e ∷ h) told t =
    rw (completes_at e.did (kind h) (is_cancelled h) t)
    (over_step e.did t (kind h t) (is_cancelled h t) (is_submitted h t) (was_completed h t) (place h t) (ending h t)
    (told_fits c h e.did t told.1 told.0) (told_fits_cancel c h e.did t told.1 told.0) (ending_gone c h told.1 t) (completed_over c h told.1 t))

-- an entry completes a task that was not completed
new_step : (d : Did) (t : ℕ) (k : Kind) (c known was : Bool) (p : Place) (f : Option Fate) → Fits d t known p → FitsCancel d t known c f → EndsGone known p f → IsOver was known c f →
    completes_now d t k c ≡ true → was ≡ false
new_step (did.CallerEnd u x) t k c known was p f fits cancel gone before is = grind (arith, nat_tests)
new_step (did.End v u x) t k c known was p f fits cancel gone before is = grind (arith, nat_tests)
new_step (did.Cancel u flag x) t k c known was p f fits cancel gone before is = grind (arith, nat_tests)
new_step _ t k c known was p f fits cancel gone before is = absurd cc

-- a task is completed once
completed_new : (c : Config) (h : List Entry) (d : Did) → Told c h → Given c h d → (t : ℕ) → completes d (kind h) (is_cancelled h) ≡ Some t → was_completed h t ≡ false
completed_new c h d told given t is =
    new_step d t (kind h t) (is_cancelled h t) (is_submitted h t) (was_completed h t) (place h t) (ending h t)
    (told_fits c h d t told given) (told_fits_cancel c h d t told given) (ending_gone c h told t) (completed_over c h told t)
    (sym (completes_at d (kind h) (is_cancelled h) t) ∙ ap (λ o. is_it o t) is ∙ eq-eqb t t refl)

-- a list that a test keeps, with one more that passes
kept_more : (o : Option ℕ) (p : ℕ → Bool) (xs : List ℕ) → filter p xs ≡ xs →
    filter (λ t. is_it o t || p t) (xs ++ option_to_list o) ≡ xs ++ option_to_list o
kept_more o p xs all =
    filter-append (λ t. is_it o t || p t) xs (option_to_list o)
    ∙ ap₂ (λ ys zs. ys ++ zs)
    (ap (filter (λ t. is_it o t || p t)) (sym all)
    ∙ filter-filter_agree p (λ t. is_it o t || p t) (λ t. true) (λ t is. by_test (is_it o t) (p t) is) xs
    ∙ filter_true (filter p xs) ∙ all)
    (of_option o)
  where
    by_test : (a b : Bool) → b ≡ true → (a || b) ≡ true
    by_test true b is = refl
    by_test false b is = is

    of_option : (x : Option ℕ) → filter (λ t. is_it x t || p t) (option_to_list x) ≡ option_to_list x
    of_option None = refl
    of_option (Some t) = rw (eq-eqb t t refl) refl

-- the completed tasks
kept : (c : Config) (h : List Entry) → Told c h → filter (was_completed h) (completed h) ≡ completed h
kept c [] told = refl
kept c (e ∷ h) told =
    let o : Option ℕ = completes e.did (kind h) (is_cancelled h) in
    let before : filter (was_completed h) (completed h) ≡ completed h = kept c h told.1 in
    let new : at_end o (completed h) ≡ completed h ++ option_to_list o = at_end_new (was_completed h) o (completed h) before (completed_new c h e.did told.1 told.0) in
    ap (filter (was_completed (e ∷ h))) new ∙ kept_more o (was_completed h) (completed h) before ∙ sym new

-- they are in order of their completion
completed_more : (c : Config) (e : Entry) (h : List Entry) → Told c (e ∷ h) → completed (e ∷ h) ≡ completed h ++ option_to_list (completes e.did (kind h) (is_cancelled h))
completed_more c e h told = at_end_new (was_completed h) _ (completed h) (kept c h told.1) (completed_new c h e.did told.1 told.0)

-- Groups

-- t is of group g
abbrev pub of_group : ℕ → List Entry → ℕ → Bool
of_group g h t = is_of_group g (kind h t)

-- an entry leaves the kind of a task that was submitted
kind_stays : (d : Did) (t : ℕ) (known : Bool) (p : Place) (k : Kind) → Fits d t known p → known ≡ true → unwrap_or (said_of t (kinds_said d)) k ≡ k
kind_stays (did.Submit u j pr l) t known p k fits is = grind (arith, nat_tests)
kind_stays _ t known p k fits is = refl

-- a completed task's group stays
group_stays : (c : Config) (e : Entry) (h : List Entry) → Told c (e ∷ h) → (g t : ℕ) → was_completed h t ≡ true → of_group g (e ∷ h) t ≡ of_group g h t
group_stays c e h told g t was =
    ap (is_of_group g) (kind_stays e.did t (is_submitted h t) (place h t) (kind h t) (told_fits c h e.did t told.1 told.0) (completed_over c h told.1 t was).0)

-- a filter of the completed tasks is one of those that a test keeps
filter_kept : (keep p q : ℕ → Bool) (xs : List ℕ) → filter keep xs ≡ xs → ((t : ℕ) → keep t ≡ true → p t ≡ q t) → filter p xs ≡ filter q xs
filter_kept keep p q xs all same =
    ap (filter p) (sym all) ∙ filter-filter_agree keep p q same xs ∙ ap (filter q) all

-- the completions of a group by an entry, in words
abbrev words_now : ℕ → List Entry → Did → List ℕ
words_now g h d =
    keep_where (λ t. is_in_group g (kind_of h t)) (cancelled_by d)
    ++ keep_where (λ t. is_in_group g (kind_of h t) && not (was_cancelled h t)) (body_ended_by d)

-- a filter of at most one number
filter_if : (p : ℕ → Bool) (t : ℕ) (b : Bool) → filter p (option_to_list (if b then Some t else None)) ≡ (if b && p t then t ∷ [] else [])
filter_if p t true = refl
filter_if p t false = refl

-- a test of the group, where a cancel completes
cancel_group : (g : ℕ) (k : Kind) → is_in_group g k ≡ (is_group k && is_of_group g k)
cancel_group g k = grind (arith, nat_tests)

-- a test of the group, where an end completes
end_group : (g : ℕ) (k : Kind) (c : Bool) → (is_in_group g k && not c) ≡ ((is_group k && not c) && is_of_group g k)
end_group g k c = grind (arith, nat_tests)

-- what an end completes, in words and by the table
kept_end : (c : Config) (h : List Entry) → Told c h → (g t : ℕ) →
    keep_where (λ x. is_in_group g (kind_of h x) && not (was_cancelled h x)) (Some t)
    ≡ filter (of_group g h) (option_to_list (if is_group (kind h t) && not (is_cancelled h t) then Some t else None))
kept_end c h told g t =
    ap (λ b. if b then t ∷ [] else [])
    (ap₂ (λ k b. is_in_group g k && not b) (kind_agrees h t) (cancelled_agrees c h told t) ∙ end_group g (kind h t) (is_cancelled h t))
    ∙ sym (filter_if (of_group g h) t (is_group (kind h t) && not (is_cancelled h t)))

-- what an entry completes, in words and by the table
words_step : (c : Config) (h : List Entry) (d : Did) (g : ℕ) → Told c h →
    words_now g h d ≡ filter (λ t. is_of_group g (unwrap_or (said_of t (kinds_said d)) (kind h t))) (option_to_list (completes d (kind h) (is_cancelled h)))
words_step c h (did.Cancel u flag true) g told =
    append-nil _
    ∙ ap (λ b. if b then u.0 ∷ [] else []) (ap (is_in_group g) (kind_agrees h u.0) ∙ cancel_group g (kind h u.0))
    ∙ sym (filter_if (of_group g h) u.0 (is_group (kind h u.0)))
words_step c h (did.End w u o) g told = kept_end c h told g u.0
words_step c h (did.CallerEnd u o) g told = kept_end c h told g u.0
words_step c h _ g told = refl

-- the completions of a group, in their order
completions_words : (c : Config) (h : List Entry) → Told c h → (g : ℕ) → completions_of g h ≡ filter (of_group g h) (completed h)
completions_words c [] told g = refl
completions_words c (e ∷ h) told g =
    append_assoc (completions_of g h) _ _
    ∙ ap₂ (λ xs ys. xs ++ ys)
    (completions_words c h told.1 g ∙ sym (filter_kept (was_completed h) (of_group g (e ∷ h)) (of_group g h) (completed h) (kept c h told.1) (group_stays c e h told g)))
    (words_step c h e.did g told.1)
    ∙ sym (ap (filter (of_group g (e ∷ h))) (completed_more c e h told) ∙ filter-append (of_group g (e ∷ h)) (completed h) (option_to_list (completes e.did (kind h) (is_cancelled h))))

-- how often the group's next completion was taken
abbrev takes_of : ℕ → List Entry → ℕ
takes_of g h = count_by (λ e. takes_done g e.did) h

-- the completed tasks of a group, and those of them that are not handed out
abbrev completed_in : ℕ → List Entry → List ℕ
completed_in g h = filter (of_group g h) (completed h)

-- those of them that are not handed out
abbrev pub done_in : ℕ → List Entry → List ℕ
done_in g h = filter (of_group g h) (done h)

-- the takes of a group have taken the first of its completions
record Hands (g : ℕ) (h : List Entry) : Type 0 where
  bounded : takes_of g h ≤ length (completed_in g h)
  taken : done_in g h ≡ drop (takes_of g h) (completed_in g h)

-- a task that was never submitted reads as plain
no_kind : (h : List Entry) (t : ℕ) → is_submitted h t ≡ false → kind h t ≡ kinds.Plain
no_kind [] t none = refl
no_kind (e ∷ h) t none = by_did e.did none (no_kind h t)
  where
    by_did : (d : Did) → (is_it (submitted_by d) t || is_submitted h t) ≡ false → (is_submitted h t ≡ false → kind h t ≡ kinds.Plain) → unwrap_or (said_of t (kinds_said d)) (kind h t) ≡ kinds.Plain
    by_did (did.Submit u j pr l) none before = grind (arith, nat_tests)
    by_did _ none before = before none

-- a task's kind in the state
kind_read : (c : Config) (h : List Entry) → Told c h → (t : ℕ) → (task_at (state c h) t).kind ≡ kind h t
kind_read c h told t =
    elim (cases_lt t (submitted h)) [
      | inl below ↦ ap (λ r. r.kind) (row_read h t below)
      | inr past ↦ ap (λ r. r.kind) (row_past h t past) ∙ sym (no_kind h t (is_submitted_below c h told t ∙ grind (arith, nat_tests)))
    ]

-- the done tasks of a group in the state
done_read : (c : Config) (h : List Entry) → Told c h → (g : ℕ) → done_of (state c h) g ≡ done_in g h
done_read c h told g = filter_agree (λ t. is_of_group g (task_at (state c h) t).kind) (of_group g h) (λ t. ap (is_of_group g) (kind_read c h told t)) (done h)

-- an entry that takes nothing: what is done stays, and what it completes is done
done_stays : (d : Did) (t : ℕ) (known : Bool) (p : Place) (o : Option ℕ) (was : Bool) → Fits d t known p → known ≡ true → is_it o t ≡ false → ((g : ℕ) → takes_done g d ≡ false) →
    (if is_it o t then true else unwrap_or (said_of t (hands_out d)) was) ≡ was
done_stays (did.Submit u j pr l) t known p o was fits is other takes = grind (arith, nat_tests)
done_stays (did.TakeDone m u) t known p o was fits is other takes = absurd (let e : eqb m m ≡ false = takes m in let f : eqb m m ≡ true = eq-eqb m m refl in cc)
done_stays _ t known p o was fits is other takes = rw other refl

-- a number that passes a test is not the new one
not_it : (o : Option ℕ) (p : ℕ → Bool) (t : ℕ) → ((u : ℕ) → o ≡ Some u → p u ≡ false) → p t ≡ true → is_it o t ≡ false
not_it None p t new is = refl
not_it (Some u) p t new is =
    elim (cases_eq t u) [
      | inl same ↦ absurd (let e : p u ≡ false = new u refl in let f : p u ≡ true = ap p (sym same) ∙ is in cc)
      | inr other ↦ ne_eqb t u other
    ]

-- what an entry completes is done
all_done : (o : Option ℕ) (q : ℕ → Bool) → filter (λ t. if is_it o t then true else q t) (option_to_list o) ≡ option_to_list o
all_done None q = refl
all_done (Some t) q = rw (eq-eqb t t refl) refl

-- the done tasks after an entry that takes none
done_more : (c : Config) (e : Entry) (h : List Entry) → Told c (e ∷ h) → ((g : ℕ) → takes_done g e.did ≡ false) →
    done (e ∷ h) ≡ done h ++ option_to_list (completes e.did (kind h) (is_cancelled h))
done_more c e h told takes =
    ap (filter (is_done (e ∷ h))) (completed_more c e h told)
    ∙ filter-append (is_done (e ∷ h)) (completed h) (option_to_list (completes e.did (kind h) (is_cancelled h)))
    ∙ ap₂ (λ xs ys. xs ++ ys)
    (filter_kept (was_completed h) (is_done (e ∷ h)) (is_done h) (completed h) (kept c h told.1)
    (λ t was. done_stays e.did t (is_submitted h t) (place h t) (completes e.did (kind h) (is_cancelled h)) (is_done h t)
    (told_fits c h e.did t told.1 told.0) (completed_over c h told.1 t was).0
    (not_it (completes e.did (kind h) (is_cancelled h)) (was_completed h) t (completed_new c h e.did told.1 told.0) was) takes))
    (all_done (completes e.did (kind h) (is_cancelled h)) (λ t. unwrap_or (said_of t (hands_out e.did)) (is_done h t)))

-- an entry that takes none of a group's completions
takes_more : (g : ℕ) (e : Entry) (h : List Entry) → takes_done g e.did ≡ false → takes_of g (e ∷ h) ≡ takes_of g h
takes_more g e h none = count_by-cons (λ x. takes_done g x.did) e h ∙ ap (λ b. cond b (suc (takes_of g h)) (takes_of g h)) none

-- the completed tasks of a group after an entry
completed_in_more : (c : Config) (e : Entry) (h : List Entry) → Told c (e ∷ h) → (g : ℕ) →
    completed_in g (e ∷ h) ≡ completed_in g h ++ filter (of_group g (e ∷ h)) (option_to_list (completes e.did (kind h) (is_cancelled h)))
completed_in_more c e h told g =
    ap (filter (of_group g (e ∷ h))) (completed_more c e h told)
    ∙ filter-append (of_group g (e ∷ h)) (completed h) (option_to_list (completes e.did (kind h) (is_cancelled h)))
    ∙ ap (λ xs. xs ++ filter (of_group g (e ∷ h)) (option_to_list (completes e.did (kind h) (is_cancelled h))))
    (filter_kept (was_completed h) (of_group g (e ∷ h)) (of_group g h) (completed h) (kept c h told.1) (group_stays c e h told g))

-- the done tasks of a group after an entry that takes none
done_in_more : (c : Config) (e : Entry) (h : List Entry) → Told c (e ∷ h) → ((g : ℕ) → takes_done g e.did ≡ false) → (g : ℕ) →
    done_in g (e ∷ h) ≡ done_in g h ++ filter (of_group g (e ∷ h)) (option_to_list (completes e.did (kind h) (is_cancelled h)))
done_in_more c e h told takes g =
    ap (filter (of_group g (e ∷ h))) (done_more c e h told takes)
    ∙ filter-append (of_group g (e ∷ h)) (done h) (option_to_list (completes e.did (kind h) (is_cancelled h)))
    ∙ ap (λ xs. xs ++ filter (of_group g (e ∷ h)) (option_to_list (completes e.did (kind h) (is_cancelled h))))
    (filter_commute (of_group g (e ∷ h)) (is_done h) (completed h)
    ∙ ap (filter (is_done h)) (filter_kept (was_completed h) (of_group g (e ∷ h)) (of_group g h) (completed h) (kept c h told.1) (group_stays c e h told g))
    ∙ filter_commute (is_done h) (of_group g h) (completed h))

-- an entry that takes none keeps that
hands_more : (c : Config) (e : Entry) (h : List Entry) → Told c (e ∷ h) → ((g : ℕ) → takes_done g e.did ≡ false) → (g : ℕ) → Hands g h → Hands g (e ∷ h)
hands_more c e h told takes g before =
    let q : List ℕ = filter (of_group g (e ∷ h)) (option_to_list (completes e.did (kind h) (is_cancelled h))) in
    let same : takes_of g (e ∷ h) ≡ takes_of g h = takes_more g e h (takes g) in
    let more : completed_in g (e ∷ h) ≡ completed_in g h ++ q = completed_in_more c e h told g in
    let long : length (completed_in g (e ∷ h)) ≡ length (completed_in g h) + length q = ap length more ∙ length-append (completed_in g h) q in
    record {
      bounded = omega (arith, before.bounded);
      taken =
          done_in_more c e h told takes g
          ∙ ap (λ xs. xs ++ q) before.taken
          ∙ sym (drop-append_more (takes_of g h) (completed_in g h) q before.bounded)
          ∙ ap₂ drop (sym same) (sym more);
    }

-- a completion that is handed out is not done
done_without : (u t : ℕ) (was : Bool) → unwrap_or (said_of t ((u, false) ∷ [])) was ≡ (was && not (t == u))
done_without u t true = grind (arith, nat_tests)
done_without u t false = grind (arith, nat_tests)

-- a task of one group is not of another
other_group : (k : Kind) (g m : ℕ) → is_of_group m k ≡ true → (g == m) ≡ false → is_of_group g k ≡ false
other_group k g m is other = grind (arith, nat_tests)

-- groups with one number are one
same_group : (g m : ℕ) → (g == m) ≡ true → m ≡ g
same_group g m is = grind (arith, nat_tests)

-- an entry that takes a completion
taken_entry : ℕ → Ask → ℕ → TaskId → Entry
taken_entry p a m u = record { by = p; ask = a; did = did.TakeDone m u }

-- an entry that takes a completion takes the first
hands_taken : (c : Config) (p : ℕ) (a : Ask) (m : ℕ) (u : TaskId) (h : List Entry) → Told c (taken_entry p a m u ∷ h) → (g : ℕ) → Hands g h → Hands g (taken_entry p a m u ∷ h)
unfolding taken_entry
hands_taken c p a m u h told g before = by_group (g == m) refl
  where
    head : done_in m h ≡ u.0 ∷ told.0.0
    head = sym (done_read c h told.1 m) ∙ told.0.1

    left : done_in g (taken_entry p a m u ∷ h) ≡ without u.0 (done_in g h)
    left =
        ap (filter (of_group g h))
        (filter_agree (is_done (taken_entry p a m u ∷ h)) (λ t. is_done h t && not (t == u.0)) (λ t. done_without u.0 t (is_done h t)) (completed h)
        ∙ sym (filter-filter (λ t. not (t == u.0)) (is_done h) (completed h)))
        ∙ filter_commute (of_group g h) (λ t. not (t == u.0)) (done h)

    by_group : (b : Bool) → (g == m) ≡ b → Hands g (taken_entry p a m u ∷ h)
    by_group true is =
        let takes : takes_of g (taken_entry p a m u ∷ h) ≡ suc (takes_of g h) =
        count_by-cons (λ x. takes_done g x.did) (taken_entry p a m u) h ∙ ap (λ b. cond b (suc (takes_of g h)) (takes_of g h)) is in
        let here : done_in g h ≡ u.0 ∷ told.0.0 = ap (λ n. done_in n h) (sym (same_group g m is)) ∙ head in
        let once : IsOnce (u.0 ∷ told.0.0) = subst IsOnce here (once-filter (of_group g h) (done h) (once-done h)) in
        let next = drop_head (takes_of g h) (completed_in g h) u.0 told.0.0 (sym before.taken ∙ here) in
        record {
          bounded = omega (arith, next.1);
          taken =
              left ∙ ap (without u.0) here
              ∙ (rw (eq-eqb u.0 u.0 refl) (without_absent u.0 told.0.0 once.0))
              ∙ sym next.0
              ∙ ap (λ n. drop n (completed_in g h)) (sym takes);
        }
    by_group false is =
        let takes : takes_of g (taken_entry p a m u ∷ h) ≡ takes_of g h = takes_more g (taken_entry p a m u) h is in
        let outside : of_group g h u.0 ≡ false = other_group (kind h u.0) g m (filter_head (of_group m h) u.0 (done h) told.0.0 head) is in
        record {
          bounded = omega (arith, before.bounded);
          taken =
              left
              ∙ without_new (of_group g h) u.0 (done_in g h) (filter-filter_agree (of_group g h) (of_group g h) (λ t. true) (λ t in_it. in_it) (done h) ∙ filter_true (done_in g h)) outside
              ∙ before.taken
              ∙ ap (λ n. drop n (completed_in g h)) (sym takes);
        }

-- each entry keeps that
hands_entry : (c : Config) (p : ℕ) (a : Ask) (d : Did) (h : List Entry) → Told c (record { by = p; ask = a; did = d } ∷ h) → (g : ℕ) → Hands g h → Hands g (record { by = p; ask = a; did = d } ∷ h)
unfolding taken_entry
hands_entry c p a (did.TakeDone m u) h told g before = hands_taken c p a m u h told g before
hands_entry c p a _ h told g before = hands_more c _ h told (λ n. refl) g before

-- so it is at each record
hands : (c : Config) (h : List Entry) → Told c h → (g : ℕ) → Hands g h
hands c [] told g = record { bounded = omega arith; taken = refl }
hands c (e ∷ h) told g = hands_entry c e.by e.ask e.did h told g (hands c h told.1 g)

-- the done tasks of a group: the takes took the first of its completions
pub done_words : (c : Config) (h : List Entry) → Told c h → (g : ℕ) → done_in_group g h ≡ done_of (state c h) g
done_words c h told g =
    ap (drop (takes_of g h)) (completions_words c h told g)
    ∙ sym (hands c h told g).taken
    ∙ sym (done_read c h told g)
