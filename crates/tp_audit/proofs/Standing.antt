-- What a legal history and an entry that the step gives after it say of the state that the tables show.
use Rattle.std.proofs.Common.{◌≡◌, ℕ, suc, ◌+◌, ◌<◌, ◌≤◌, ◌^◌, Bool, true, false, List, [], ◌∷◌, length, Some, None, refl, arith, sym, ap, subst, ◌∙◌}
use Rattle.std.specs.Prelude.{Contains, ◌==◌, nat_le}
use Rattle.std.proofs.lemmas.Bool.{false≢true, eqb-true, ltb-true}
use Rattle.tp_types.specs.declared.configs.Config.{Config}
use Rattle.tp_types.specs.declared.configs.Verdict.TheVariants as verdict
use Rattle.tp_types.specs.declared.ids.TaskId.{TaskId}
use Rattle.tp_record.specs.declared.entries.Entry.{Entry}
use Rattle.tp_record.specs.declared.entries.Did.{Did}
use Rattle.tp_record.specs.declared.entries.Did.TheVariants as did
use Rattle.tp_record.specs.declared.entries.Offered.TheVariants as offered
use Rattle.tp_record.specs.declared.entries.Took.TheVariants as took
use Rattle.tp_record.specs.declared.entries.Ruled.TheVariants as ruled
use Rattle.tp_record.specs.declared.rows.Stage.TheVariants as stages
use Rattle.tp_record.specs.Lists.{is_it, is_among, IsOnce}
use Rattle.tp_record.specs.Effects.{queues, idles}
use Rattle.tp_record.specs.Fields.{queue, idling, is_queued, is_queued_place, is_idle_row, slot_row, rank, retries}
use Rattle.tp_record.specs.State.{State, state, slot_at, due}
use Rattle.tp_record.specs.Step.{Legal, leaves_room, retry_of}
use Rattle.tp_laws.proofs.Model.Readings.{slot_read, tasks_counted}
use Rattle.tp_laws.proofs.Model.Places.{head_queued}
use Rattle.tp_rules.specs.Answers.{MayTry}
use Rattle.tp_rules.proofs.Sizes.{length-queue}
use Rattle.tp_laws.proofs.Model.Given.{Given, GivenRuled}
use Rattle.tp_laws.proofs.Model.Told.{sound_legal}
use Rattle.tp_laws.proofs.Model.Queues.{among-queue, once-queue, among-idling, among_from_Contains}
use Rattle.tp_laws.proofs.Effects.Names.{names, drops}
use Rattle.tp_laws.proofs.Effects.Next.{row_sound}
use Rattle.tp_audit.specs.declared.tables.Tables.{Tables}
use Rattle.tp_audit.specs.Owed.{room_by}
use Rattle.tp_audit.specs.Tables.{shown, undone, HasSizes, StandsAt, Suits, SuitsAll}
use Rattle.tp_audit.proofs.Owing.{due_given, due_undone}
use Rattle.tp_audit.proofs.Sizes.{few_owed, has_sizes}

-- the retried task is not the one that it drops
names_apart : (c : Config) (h : List Entry) (d : Did) → Given c h d → (t : ℕ) → is_it (names d) t ≡ true → is_it (drops d) t ≡ false
names_apart c h (did.Verdict x v (ruled.RetryDrop u)) given t is = by_test (t == u.0) refl
  where
    by_test : (b : Bool) → (t == u.0) ≡ b → (t == u.0) ≡ false
    by_test true same =
        let e : u.0 ≡ x.0 = sym (eqb-true t u.0 same) ∙ eqb-true t x.0 is in
        absurd (false≢true (sym (ap is_queued_place given.0.1) ∙ ap (is_queued h) (sym e) ∙ ap is_queued_place given.1.3.1))
    by_test false other = other
names_apart c h d given t is = grind arith

out_of_queue : (c : Config) (h : List Entry) (d : Did) → Given c h d → (t : ℕ) → queues d ≡ Some t → is_queued h t ≡ false
out_of_queue c h (did.Offer u offered.Queued) given t is = let same : t ≡ u.0 = grind arith in ap (is_queued h) same ∙ ap is_queued_place given.0.1
out_of_queue c h _ given t is = absurd (grind arith)

worker : (c : Config) (h : List Entry) (d : Did) → Given c h d → (w : ℕ) → idles d ≡ Some w → slot_row h w ≡ Some (record { stage = stages.Working; task = None })
worker c h (did.Take u took.Idle) given w is = let same : u.0 ≡ w = grind arith in subst (λ x. slot_row h x ≡ Some (record { stage = stages.Working; task = None })) same given.0
worker c h _ given w is = absurd (grind arith)

module _ (c : Config) (h : List Entry) (legal : Legal c h) where
  queued_here : (t : ℕ) → Contains (queue c h) t → is_queued h t ≡ true
  queued_here t found = sym (among-queue c h t) ∙ among_from_Contains (queue c h) t found

  idle_here : (w : ℕ) → is_among w (idling h) ≡ true → is_idle_row (slot_at (state c h).slots w) ≡ true
  idle_here w there = ap is_idle_row (slot_read h w) ∙ sym (among-idling h w) ∙ there

  pub suits_all : SuitsAll (undone (state c h))
  suits_all = record {
    queued = λ t is. among-queue c h t ∙ ap (λ r. is_queued_place r.place) (sym (row_sound h (sound_legal c h legal) c t)) ∙ is;
    once = once-queue c h;
    idle = λ w is. among-idling h w ∙ ap is_idle_row (sym (slot_read h w)) ∙ is;
    idling = idle_here;
  }

  pub suits_given : (d : Did) → Given c h d → Suits (undone (state c h)) d
  suits_given d given = record {
    apart = names_apart c h d given;
    unqueued = λ t is found. false≢true (sym (out_of_queue c h d given t is) ∙ queued_here t found);
    idle = λ w found. idle_here w (among_from_Contains (idling h) w found);
    busy = λ w is.
        let row = worker c h d given w is in (
          λ found. false≢true (sym (ap is_idle_row row) ∙ sym (ap is_idle_row (slot_read h w)) ∙ idle_here w (among_from_Contains (idling h) w found)),
          (record { stage = stages.Working; task = None }, slot_read h w ∙ row),
        );
  }

module _ (c : Config) (h : List Entry) (t : Tables) (at : StandsAt c h t) where
  -- what the tables say of the room is what the state says
  pub room_shown : (d : Did) → Given c h d → room_by c d (shown t) t.due ≡ leaves_room c (shown t) d
  room_shown d given =
      let before : room_by c d (shown t) t.due ≡ room_by c d (undone (state c h)) (due (state c h)) = λ i. room_by c d (at.shows.kept i) (at.shows.due i) in
      before
      ∙ ap (λ n. nat_le (suc (length h) + n) c.record_limit) (due_undone d (state c h) (due (state c h)) ∙ due_given c h d at.legal given)
      ∙ ap (λ s. leaves_room c s d) (sym at.shows.kept)

  pub few_shown : HasSizes (shown t)
  few_shown = subst HasSizes (sym at.shows.kept) (has_sizes c h at.config at.legal)

  pub due_shown : t.due < 2 ^ 32
  due_shown = let few = few_owed c h at.config at.legal in let e = at.shows.due in omega (arith, few, e)

  pub queue_shown : length (shown t).queue ≤ 1048577
  queue_shown =
      let few = few_owed c h at.config at.legal in
      let most = length-queue c h in
      let e : length (shown t).queue ≡ length (queue c h) = ap (λ s. length s.queue) at.shows.kept in
      omega (arith, few, most, e)

  pub once_shown : IsOnce (shown t).queue
  once_shown = subst (λ (s : State). IsOnce s.queue) (sym at.shows.kept) (once-queue c h)

  -- a retry is given of a refused task
  pub retry_given : (x : TaskId) → MayTry (state c h) x.0 → Given c h (did.Verdict x verdict.DiscardOldest (retry_of (queue c h)))
  retry_given x may =
      let row = row_sound h (sound_legal c h at.legal) c x.0 in
      let count = tasks_counted h in
      let known = ltb-true x.0 (length (state c h).tasks) may.known in
      let tries = ap (λ r. r.retries) row in
      let few = may.few in
      ((omega (arith, known, count), sym (ap (λ r. r.place) row) ∙ may.refused), ruling (queue c h) refl may.runs (omega (arith, few, tries)))
    where
      ruling : (q : List ℕ) → queue c h ≡ q → rank h ≡ 0 → retries h x.0 < 64 → GivenRuled c h x.0 (retry_of q)
      ruling [] is runs few = (runs, few, is)
      ruling (u ∷ us) is runs few = (runs, few, (us, is), head_queued c h at.legal u us is)

  -- so is the room for it
  pub retry_shown : (x : TaskId) → MayTry (state c h) x.0 →
      room_by c (did.Verdict x verdict.DiscardOldest (retry_of (shown t).queue)) (shown t) t.due ≡ leaves_room c (shown t) (did.Verdict x verdict.DiscardOldest (retry_of (shown t).queue))
  retry_shown x may =
      let queues : queue c h ≡ (shown t).queue = ap (λ s. s.queue) (sym at.shows.kept) in
      room_shown (did.Verdict x verdict.DiscardOldest (retry_of (shown t).queue))
      (subst (λ q. Given c h (did.Verdict x verdict.DiscardOldest (retry_of q))) queues (retry_given x may))
