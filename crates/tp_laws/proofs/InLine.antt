-- How the tasks stand in the queue.
use Rattle.std.proofs.Common.{◌≡◌, ◌⊎◌, ℕ, ◌≤◌, Bool, true, false, cond, List, [], ◌∷◌, ◌++◌, Some, None, Option, refl, sym, ap, ◌∙◌, append_assoc, subst, inl, inr}
use Rattle.std.specs.Prelude.{◌==◌, nat_le, filter, option_to_list}
use mathlib.Core.Path.{ap₂}
use Rattle.std.proofs.lemmas.Bool.{leb-true, eq-eqb}
use Rattle.std.proofs.lemmas.List.{append-nil}
use Rattle.tp_types.specs.declared.configs.Config.{Config}
use Rattle.tp_types.specs.Queues.{is_ranked}
use Rattle.tp_record.specs.declared.entries.Entry.{Entry}
use Rattle.tp_record.specs.Lists.{arrange, in_line, is_among, IsOnce}
use Rattle.tp_record.specs.Words.{queued_by, waits_in_queue, offers_in_order as offers, waiting, waiting_line, priority_of}
use Rattle.tp_laws.proofs.Model.Given.{Told}
use Rattle.tp_laws.proofs.Model.Arranged.{AllPass, IsSorted, sorted-arrange, arrange-equal, arrange-filter, filter-passes}
use Rattle.tp_laws.proofs.Model.Queues.{among-queue, once-queue}
use Rattle.tp_laws.proofs.WordsTasks.{queued_agrees}
use Rattle.tp_laws.proofs.WordsQueue.{queue_words}
use Rattle.tp_laws.specs.Laws.{ListsThoseWaiting, LeastFirst, IsQueuedBefore, OffersInOrder}
use Rattle.tp_laws.proofs.Order.{filter_kept}

-- just the tasks that wait are in the queue
pub lists_those_waiting : (c : Config) (h : List Entry) → Told c h → ListsThoseWaiting c h
lists_those_waiting c h told =
    let same = queue_words c h told in
    (subst IsOnce (sym same) (once-queue c h), (λ t. ap (is_among t) same ∙ among-queue c h t ∙ sym (queued_agrees c h told t)))

-- of a sorted list, no element behind another has a smaller number
pass_at : (p : ℕ → Bool) (xs : List ℕ) (u : ℕ) (ys : List ℕ) → AllPass p (xs ++ u ∷ ys) → p u ≡ true
pass_at p [] u ys all = all.0
pass_at p (x ∷ xs) u ys all = pass_at p xs u ys all.1

sorted_at : (f : ℕ → ℕ) (xs : List ℕ) (t : ℕ) (ys : List ℕ) (u : ℕ) (zs : List ℕ) → IsSorted f (xs ++ t ∷ (ys ++ u ∷ zs)) → f t ≤ f u
sorted_at f [] t ys u zs sorted = leb-true (f t) (f u) (pass_at (λ y. nat_le (f t) (f y)) ys u zs sorted.0)
sorted_at f (x ∷ xs) t ys u zs sorted = sorted_at f xs t ys u zs sorted.1

ranked_line : (c : Config) (h : List Entry) → is_ranked c.queue ≡ true → waiting_line c h ≡ arrange (priority_of h) (waiting h)
ranked_line c h is = ap (λ b. in_line b (priority_of h) (waiting h)) is

pub least_first : (c : Config) (h : List Entry) → LeastFirst c h
least_first c h ranked ahead between behind t u line =
    sorted_at (priority_of h) ahead t between u behind
    (subst (IsSorted (priority_of h)) (sym (ranked_line c h ranked) ∙ line) (sorted-arrange (priority_of h) (waiting h)))

-- the list has t, and u behind it
record Stands (xs : List ℕ) (t u : ℕ) : Type 0 where
  ahead : List ℕ
  between : List ℕ
  behind : List ℕ
  is : xs ≡ ahead ++ t ∷ (between ++ u ∷ behind)

-- where a filter has t before the rest, so has the list
record Unfilters (p : ℕ → Bool) (xs : List ℕ) (t : ℕ) (rest : List ℕ) : Type 0 where
  ahead : List ℕ
  behind : List ℕ
  is : xs ≡ ahead ++ t ∷ behind
  passes : filter p behind ≡ rest

unfilters : (p : ℕ → Bool) (xs us : List ℕ) (t : ℕ) (rest : List ℕ) → filter p xs ≡ us ++ t ∷ rest → Unfilters p xs t rest
unfilters p [] [] t rest is = absurd cc
unfilters p [] (u ∷ us) t rest is = absurd cc
unfilters p (x ∷ xs) us t rest is = by (p x) us (λ vs at. unfilters p xs vs t rest at) is
  where
    more : Unfilters p xs t rest → Unfilters p (x ∷ xs) t rest
    more found = record { ahead = x ∷ found.ahead; behind = found.behind; is = ap (λ ys. x ∷ ys) found.is; passes = found.passes }

    by : (b : Bool) (us : List ℕ) → ((vs : List ℕ) → filter p xs ≡ vs ++ t ∷ rest → Unfilters p xs t rest) → cond b (x ∷ filter p xs) (filter p xs) ≡ us ++ t ∷ rest →
        Unfilters p (x ∷ xs) t rest
    by false us again is = more (again us is)
    by true [] again is =
        let here : x ≡ t = cc in
        record { ahead = []; behind = xs; is = ap (λ y. y ∷ xs) here; passes = cc }
    by true (u ∷ us) again is = more (again us cc)

stands_filtered : (p : ℕ → Bool) (xs : List ℕ) (t u : ℕ) → Stands (filter p xs) t u → Stands xs t u
stands_filtered p xs t u stands =
    let first = unfilters p xs stands.ahead t (stands.between ++ u ∷ stands.behind) stands.is in
    let second = unfilters p first.behind stands.between u stands.behind first.passes in
    record { ahead = first.ahead; between = second.ahead; behind = second.behind; is = first.is ∙ ap (λ ys. first.ahead ++ t ∷ ys) second.is }

-- equals of an arranged list stand as they do in the list
equals_stand : (f : ℕ → ℕ) (xs : List ℕ) (t u : ℕ) → f t ≡ f u → Stands (arrange f xs) t u → Stands xs t u
equals_stand f xs t u same stands = stands_filtered p xs t u (record {
  ahead = filter p stands.ahead;
  between = filter p stands.between;
  behind = filter p stands.behind;
  is =
      sym (arrange-equal f (f t) (filter p xs) (filter-passes p xs)) ∙ sym (arrange-filter f p xs) ∙ ap (filter p) stands.is
      ∙ filter_kept p stands.ahead stands.between stands.behind t u (eq-eqb (f t) (f t) refl) (eq-eqb (f u) (f t) (sym same));
})
  where
    p : ℕ → Bool
    p y = f y == f t

-- the last of a list that is one longer
last_or_before : (ls : List ℕ) (v : ℕ) (xs : List ℕ) (u : ℕ) (zs : List ℕ) → ls ++ v ∷ [] ≡ xs ++ u ∷ zs →
    ((ls ≡ xs) × (v ≡ u)) ⊎ ((ys : List ℕ) × (ls ≡ xs ++ u ∷ ys))
last_or_before [] v [] u zs is = inl (refl, cc)
last_or_before [] v (x ∷ []) u zs is = absurd cc
last_or_before [] v (x ∷ y ∷ xs) u zs is = absurd cc
last_or_before (l ∷ ls) v [] u zs is = inr (ls, ap (λ y. y ∷ ls) cc)
last_or_before (l ∷ ls) v (x ∷ xs) u zs is =
    let head : l ≡ x = cc in
    elim (last_or_before ls v xs u zs cc) [
      | inl last ↦ inl (ap₂ (λ y ys. y ∷ ys) head last.0, last.1)
      | inr before ↦ inr (before.0, ap₂ (λ y ys. y ∷ ys) head before.1)
    ]

-- an entry puts u in the queue, after the offers xs
record IsOffered (h : List Entry) (xs : List ℕ) (u : ℕ) : Type 0 where
  after : List Entry
  queues : Entry
  before : List Entry
  whole : h ≡ after ++ queues ∷ before
  queued : queued_by queues.did ≡ Some u
  earlier : offers before ≡ xs

offered_at : (h : List Entry) (xs : List ℕ) (u : ℕ) (zs : List ℕ) → offers h ≡ xs ++ u ∷ zs → IsOffered h xs u
offered_at [] [] u zs is = absurd cc
offered_at [] (x ∷ xs) u zs is = absurd cc
offered_at (e ∷ h) xs u zs is = by (queued_by e.did) refl (λ ys at. offered_at h xs u ys at) is
  where
    more : IsOffered h xs u → IsOffered (e ∷ h) xs u
    more at = record { after = e ∷ at.after; queues = at.queues; before = at.before; whole = ap (λ es. e ∷ es) at.whole; queued = at.queued; earlier = at.earlier }

    by : (o : Option ℕ) → queued_by e.did ≡ o → ((ys : List ℕ) → offers h ≡ xs ++ u ∷ ys → IsOffered h xs u) → offers h ++ option_to_list o ≡ xs ++ u ∷ zs → IsOffered (e ∷ h) xs u
    by None none again is = more (again zs (sym (append-nil (offers h)) ∙ is))
    by (Some v) some again is = elim (last_or_before (offers h) v xs u zs is) [
      | inl last ↦ record { after = []; queues = e; before = h; whole = refl; queued = some ∙ ap (λ n. Some n) last.1; earlier = last.0 }
      | inr before ↦ more (again before.0 before.1)
    ]

-- tasks that stand among the offers were put in the queue one after the other
queued_before : (h : List Entry) (t u : ℕ) → Stands (offers h) t u → IsQueuedBefore h t u
queued_before h t u stands =
    let later = offered_at h (stands.ahead ++ t ∷ stands.between) u stands.behind (stands.is ∙ sym (append_assoc stands.ahead (t ∷ stands.between) (u ∷ stands.behind))) in
    let earlier = offered_at later.before stands.ahead t stands.between later.earlier in
    record {
      after = later.after;
      queues_u = later.queues;
      between = earlier.after;
      queues_t = earlier.queues;
      before = earlier.before;
      whole = later.whole ∙ ap (λ es. later.after ++ later.queues ∷ es) earlier.whole;
      first = earlier.queued;
      second = later.queued;
    }

pub offers_in_order : (c : Config) (h : List Entry) → OffersInOrder c h
offers_in_order c h ahead between behind t u line same =
    queued_before h t u (stands_filtered (waits_in_queue h) (offers h) t u (by (is_ranked c.queue) refl))
  where
    whole : Stands (waiting_line c h) t u
    whole = record { ahead = ahead; between = between; behind = behind; is = line }

    by : (b : Bool) → is_ranked c.queue ≡ b → Stands (waiting h) t u
    by true ranked = equals_stand (priority_of h) (waiting h) t u (same ranked) (subst (λ xs. Stands xs t u) (ranked_line c h ranked) whole)
    by false plain = subst (λ xs. Stands xs t u) (ap (λ b. in_line b (priority_of h) (waiting h)) plain) whole
