-- The queue, the order of idling and what is done, after an entry.
use Rattle.std.proofs.Common.{◌≡◌, ℕ, Bool, true, false, not, List, [], ◌∷◌, ◌++◌, Option, Some, None, refl, sym, ap, subst, ◌∙◌, inl, inr}
use Rattle.std.specs.Prelude.{◌==◌, filter, drop, unwrap_or, option_to_list}
use Rattle.std.proofs.lemmas.Bool.{cases_eq, eq-eqb, eqb-true, ne_eqb, false≢true, true≢false, or_parts}
use Rattle.std.proofs.lemmas.List.{append-nil}
use Rattle.tp_types.specs.declared.configs.Config.{Config}
use Rattle.tp_types.specs.declared.tasks.Place.TheVariants as at
use Rattle.tp_record.specs.declared.entries.Entry.{Entry}
use Rattle.tp_record.specs.declared.entries.Did.{Did}
use Rattle.tp_record.specs.declared.rows.SlotRow.{SlotRow}
use Rattle.tp_types.specs.Queues.{is_ranked}
use Rattle.tp_laws.proofs.Model.Arranged.{filter_pass_agree, filter-passes, line-pass}
use Rattle.tp_record.specs.Lists.{said_of, is_it, without, join_line, is_among, IsOnce}
use Rattle.tp_record.specs.Effects.{moved, queues, idles}
use Rattle.tp_record.specs.Fields.{is_queued, is_queued_place, swept, queued, priority, queue, offered, task_rows, is_idle, is_idle_row, idled, idling, slot_row}
use Rattle.tp_record.specs.State.{state, next, row_at, slot_at, stays_queued, stays_idle, slot_after}
use Rattle.tp_laws.proofs.Model.ListLaws.{filter-filter_agree}
use Rattle.tp_laws.proofs.Model.Readings.{slot_read}
use Rattle.tp_laws.proofs.Model.Queues.{once-queue}
use Rattle.tp_laws.proofs.Effects.Names.{is_wide, names, drops, seats, replaces, place_unsaid, not_swept, other_slot}

-- a filter that lets all pass
pub filter_all : {A : Type 0} (xs : List A) → filter (λ x. true) xs ≡ xs
filter_all [] = refl
filter_all (x ∷ xs) = ap (λ ys. x ∷ ys) (filter_all xs)

-- a list without what is not in it
pub without_absent : (x : ℕ) (ys : List ℕ) → is_among x ys ≡ false → without x ys ≡ ys
without_absent x [] absent = refl
without_absent x (y ∷ ys) absent =
    let parts = or_parts (x == y) (is_among x ys) absent in
    rw (ne_eqb y x (λ same. true≢false (sym (eq-eqb x y (sym same)) ∙ parts.0))) (ap (λ zs. y ∷ zs) (without_absent x ys parts.1))

-- a list without its head, which stands there once
pub without_head : (x : ℕ) (xs ys : List ℕ) → IsOnce xs → xs ≡ x ∷ ys → without x xs ≡ drop 1 xs
without_head x xs ys once is =
    let head : IsOnce (x ∷ ys) = subst IsOnce is once in
    let P : List ℕ → Type 0 = λ zs. without x zs ≡ drop 1 zs in
    subst P (sym is) (rw (eq-eqb x x refl) (without_absent x ys head.0))

module _ (c : Config) (h : List Entry) (d : Did) where
  -- The queue

  -- one more in the queue
  abbrev pub joined : Option ℕ → List ℕ → List ℕ
  joined o xs = join_line (is_ranked c.queue) (λ t. (row_at (task_rows h) t).priority) o xs

  pub queue_filtered : (p : ℕ → Bool) → ((t : ℕ) → is_queued h t ≡ true → stays_queued d (task_rows h) t ≡ p t) → (next (state c h) d).queue ≡ joined (queues d) (filter p (queue c h))
  queue_filtered p same =
      ap (joined (queues d)) (filter_pass_agree (is_queued h) (stays_queued d (task_rows h)) p same (queue c h)
      (line-pass (is_ranked c.queue) (is_queued h) (priority h) (queued h) (filter-passes (is_queued h) (offered h))))

  other_stays : is_wide d ≡ false → (t : ℕ) → is_it (names d) t ≡ false → is_it (drops d) t ≡ false → stays_queued d (task_rows h) t ≡ true
  other_stays narrow t one two =
      ap (λ o. is_queued_place (unwrap_or o (swept d (row_at (task_rows h) t).cancelled at.Queued))) (place_unsaid d t (narrow, one, two))
      ∙ ap is_queued_place (not_swept d (row_at (task_rows h) t).cancelled at.Queued narrow)

  -- an entry that moves no queued task, and may put one at the queue's end
  pub queue_more : is_wide d ≡ false → drops d ≡ None → ((t : ℕ) → is_it (names d) t ≡ true → is_queued h t ≡ false) → (next (state c h) d).queue ≡ joined (queues d) (queue c h)
  queue_more narrow none out =
      queue_filtered (λ t. true) (λ t is. other_stays narrow t (unnamed t is (is_it (names d) t) refl) (ap (λ o. is_it o t) none))
      ∙ ap (joined (queues d)) (filter_all (queue c h))
    where
      unnamed : (t : ℕ) → is_queued h t ≡ true → (b : Bool) → is_it (names d) t ≡ b → is_it (names d) t ≡ false
      unnamed t is true named = absurd (false≢true (sym (out t named) ∙ is))
      unnamed t is false named = named

  -- an entry that leaves the queue
  pub queue_same : is_wide d ≡ false → drops d ≡ None → queues d ≡ None → ((t : ℕ) → is_it (names d) t ≡ true → is_queued h t ≡ false) → (next (state c h) d).queue ≡ queue c h
  queue_same narrow none put out = queue_more narrow none out ∙ ap (λ o. joined o (queue c h)) put

  -- an entry that takes t out of the queue
  pub queue_less : is_wide d ≡ false → queues d ≡ None → (t : ℕ) → stays_queued d (task_rows h) t ≡ false →
      ((u : ℕ) → is_queued h u ≡ true → (u ≡ t → ⊥) → (is_it (names d) u ≡ false) × (is_it (drops d) u ≡ false)) → (next (state c h) d).queue ≡ without t (queue c h)
  queue_less narrow put t leaves others =
      queue_filtered (λ u. not (u == t)) (λ u is. elim (cases_eq u t) [
        | inl same ↦ ap (stays_queued d (task_rows h)) same ∙ leaves ∙ ap not (sym (eq-eqb u t same))
        | inr ne ↦ let off = others u is ne in other_stays narrow u off.0 off.1 ∙ ap not (sym (ne_eqb u t ne))
      ])
      ∙ ap (λ o. joined o (without t (queue c h))) put

  -- an entry that takes the queue's head
  pub queue_rest : is_wide d ≡ false → queues d ≡ None → (t : ℕ) (ts : List ℕ) → queue c h ≡ t ∷ ts → stays_queued d (task_rows h) t ≡ false →
      ((u : ℕ) → is_queued h u ≡ true → (u ≡ t → ⊥) → (is_it (names d) u ≡ false) × (is_it (drops d) u ≡ false)) → (next (state c h) d).queue ≡ drop 1 (queue c h)
  queue_rest narrow put t ts is leaves others = queue_less narrow put t leaves others ∙ without_head t (queue c h) ts (once-queue c h) is

  -- The order of idling

  pub idling_filtered : (p : ℕ → Bool) → ((w : ℕ) → is_idle h w ≡ true → stays_idle d (state c h) w ≡ p w) → (next (state c h) d).idling ≡ filter p (idling h) ++ option_to_list (idles d)
  idling_filtered p same = ap (λ xs. xs ++ option_to_list (idles d)) (filter-filter_agree (is_idle h) (stays_idle d (state c h)) p same (idled h))

  apart_stays : is_wide d ≡ false → (w : ℕ) → is_idle h w ≡ true → is_it (seats d) w ≡ false → is_it (replaces d) w ≡ false → stays_idle d (state c h) w ≡ true
  apart_stays narrow w is one two = ap is_idle_row (other_slot d (state c h) w (slot_at (state c h).slots w) narrow one two ∙ slot_read h w) ∙ is

  -- an entry that wakes no slot, and may leave one idle
  pub idling_more : is_wide d ≡ false → ((w : ℕ) → is_it (seats d) w ≡ true → is_idle h w ≡ false) → ((w : ℕ) → is_it (replaces d) w ≡ true → is_idle h w ≡ false) →
      (next (state c h) d).idling ≡ idling h ++ option_to_list (idles d)
  idling_more narrow one two =
      idling_filtered (λ w. true) (λ w is. apart_stays narrow w is (far (seats d) one w is (is_it (seats d) w) refl) (far (replaces d) two w is (is_it (replaces d) w) refl))
      ∙ ap (λ xs. xs ++ option_to_list (idles d)) (filter_all (idling h))
    where
      far : (o : Option ℕ) → ((w : ℕ) → is_it o w ≡ true → is_idle h w ≡ false) → (w : ℕ) → is_idle h w ≡ true → (b : Bool) → is_it o w ≡ b → is_it o w ≡ false
      far o busy w is true named = absurd (false≢true (sym (busy w named) ∙ is))
      far o busy w is false named = named

  -- an entry that leaves the order of idling
  pub idling_same : is_wide d ≡ false → idles d ≡ None → ((w : ℕ) → is_it (seats d) w ≡ true → is_idle h w ≡ false) → ((w : ℕ) → is_it (replaces d) w ≡ true → is_idle h w ≡ false) →
      (next (state c h) d).idling ≡ idling h
  idling_same narrow none one two = idling_more narrow one two ∙ rw none (append-nil (idling h))

  -- an entry that wakes slot w, or finds it awake
  pub idling_less : is_wide d ≡ false → idles d ≡ None → (w : ℕ) → seats d ≡ Some w → replaces d ≡ None → stays_idle d (state c h) w ≡ false →
      (next (state c h) d).idling ≡ without w (idling h)
  idling_less narrow none w one two wakes =
      idling_filtered (λ v. not (v == w)) (λ v is. elim (cases_eq v w) [
        | inl same ↦ ap (stays_idle d (state c h)) same ∙ wakes ∙ ap not (sym (eq-eqb v w same))
        | inr ne ↦ apart_stays narrow v is (ap (λ o. is_it o v) one ∙ ne_eqb v w ne) (ap (λ o. is_it o v) two) ∙ ap not (sym (ne_eqb v w ne))
      ])
      ∙ rw none (append-nil (without w (idling h)))

-- what holds of x holds of each number that the option names
pub only : {B : Type 0} (f : ℕ → B) (x : ℕ) (b : B) → f x ≡ b → (y : ℕ) → is_it (Some x) y ≡ true → f y ≡ b
only f x b is y named = ap f (eqb-true y x named) ∙ is

pub nothing : {B : Type 0} (y : ℕ) → is_it None y ≡ true → B
nothing y named = absurd (false≢true named)

module _ (c : Config) (h : List Entry) (d : Did) where
  -- an entry that moves no task
  pub queue_still : is_wide d ≡ false → queues d ≡ None → moved d ≡ [] → (next (state c h) d).queue ≡ queue c h
  queue_still narrow put none =
      queue_filtered c h d (λ t. true) (λ t is.
      ap (λ ps. is_queued_place (unwrap_or (said_of t ps) (swept d (row_at (task_rows h) t).cancelled at.Queued))) none
      ∙ ap is_queued_place (not_swept d (row_at (task_rows h) t).cancelled at.Queued narrow))
      ∙ ap (joined c h d (queues d)) (filter_all (queue c h))
      ∙ ap (λ o. joined c h d o (queue c h)) put

  -- an entry that wakes slot w, by its row before and after
  pub idling_out : is_wide d ≡ false → idles d ≡ None → (w : ℕ) → seats d ≡ Some w → replaces d ≡ None → (o p : Option SlotRow) → slot_row h w ≡ o → slot_after d (state c h) w o ≡ p → is_idle_row p ≡ false →
      (next (state c h) d).idling ≡ without w (idling h)
  idling_out narrow none w one two o p was says awake =
      idling_less c h d narrow none w one two (ap (λ x. is_idle_row (slot_after d (state c h) w x)) (slot_read h w ∙ was) ∙ ap is_idle_row says ∙ awake)

-- a slot by its row in the state
pub slot_is : (c : Config) (h : List Entry) (w : ℕ) (o : Option SlotRow) → slot_at (state c h).slots w ≡ o → slot_row h w ≡ o
slot_is c h w o is = sym (slot_read h w) ∙ is
