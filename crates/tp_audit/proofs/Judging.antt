-- What an auditor judges of an entry, by what its tables show.
use Rattle.std.proofs.Common.{◌&&◌, ◌↔◌, IsTrue, inl, inr, map, ◌≡◌, ℕ, suc, ◌+◌, ◌<◌, ◌≤◌, take, reverse, get_or, length-take, Bool, true, false, cond, List, [], ◌∷◌, length, Option, Some, None, Ok, Err, refl, arith, sym, ap, subst, ◌∙◌}
use Rattle.std.specs.Prelude.{count_by, is_some, unwrap_or, IfSome}
use Rattle.std.proofs.lemmas.Bool.{false≢true, and_parts}
use Rattle.std.proofs.lemmas.List.{length-reverse}
use Rattle.tp_types.specs.RunState.{state_rank}
use Rattle.tp_types.specs.Config.{IsConfig}
use Rattle.tp_types.specs.declared.configs.Config.{Config}
use Rattle.tp_types.specs.declared.refusals.PoolError.{PoolError}
use Rattle.tp_types.specs.declared.refusals.PoolError.TheVariants.{BookFull}
use Rattle.tp_record.specs.declared.entries.Entry.{Entry}
use Rattle.tp_record.specs.declared.entries.Ask.{Ask}
use Rattle.tp_record.specs.declared.entries.Did.{Did}
use Rattle.tp_record.specs.Effects.{reserves, completes}
use Rattle.tp_record.specs.Fields.{is_live, rank, task_rows, slot_rows, live, largest}
use Rattle.tp_record.specs.State.{State, state, next, due, task_at, counts, fate_of}
use Rattle.tp_record.specs.Step.{Answer, Legal, Gives, fitting, step, within_room, leaves_room, is_free_for, done_of}
use Rattle.tp_laws.proofs.Model.Weak.{within}
use Rattle.tp_laws.proofs.Model.NextState.{next_is_state}
use Rattle.tp_laws.proofs.Model.Told.{sound_legal, given_answer, given_legal}
use Rattle.tp_rules.specs.PlainState.{IsAnswer}
use Rattle.tp_rules.proofs.Numbers.{taken_at}
use Rattle.tp_rules.proofs.Sizes.{length-task_rows}
use Rattle.tp_audit_plain.specs.declared.summary.Summary.{Summary}
use Rattle.tp_audit_plain.specs.Audit.{IsSummary, IsFirstFlaw}
use Rattle.tp_audit_plain.proofs.Judged.{rank-le, first_flaw}
use Rattle.tp_audit.specs.declared.tables.Tables.{Tables}
use Rattle.tp_audit.specs.Audited.{Judge, Judged, IsDenied}
use Rattle.tp_audit.specs.Done.{done_in}
use Rattle.tp_audit.specs.Owed.{room_by, due_by}
use Rattle.tp_audit.specs.Tables.{shown, undone, grouped, completion, with_completion, handed_out, HasRanks, StandsAt, Suits, SuitsAll}
use Rattle.tp_audit.proofs.Completing.{done_given}
use Rattle.tp_audit.proofs.Kept.{few}
use Rattle.tp_audit.proofs.Owing.{due_given, due_undone}
use Rattle.tp_audit.proofs.Sizes.{few_owed, slots-le}
use Rattle.tp_audit.proofs.Standing.{room_shown, suits_given, suits_all}

grouped_undone : (s : State) (o : Option ℕ) → grouped (undone s) o ≡ grouped s o
grouped_undone s None = refl
grouped_undone s (Some t) = refl

-- an answer that there was no memory for is none of the step's
other_answer : (a : Answer) (e : PoolError) (d : Did) → a ≡ Err e → a ≡ Ok d → ⊥
other_answer a e d err ok = absurd (differ (sym err ∙ ok))
  where
    differ : ◌≡◌ {A = Answer} (Err e) (Ok d) → ⊥
    differ e = cc

-- a refusal for which no memory may be lacking is the step's
refused_is : (a : Answer) (e : PoolError) → IsAnswer {D = Did} ⊥ (Err e) a → a ≡ Err e
refused_is a e (inl is) = is
refused_is a e (inr none) = absurd none.1

is_leaving : (d : Did) (b : Bool) → ◌≡◌ {A = Answer} (cond b (Ok d) (Err BookFull)) (Ok d) → b ≡ true
is_leaving d true e = refl
is_leaving d false e = cc

module _ (c : Config) (h : List Entry) (t : Tables) (at : StandsAt c h t) where
  free_shown : (d : Did) → IfSome (reserves d) (λ w. is_free_for (shown t) d w ≡ true) → IfSome (reserves d) (λ w. is_free_for (state c h) d w ≡ true)
  free_shown d free = subst (λ s. IfSome (reserves d) (λ w. is_free_for s d w ≡ true)) at.shows.kept free

  -- an entry that fits, with a free number and room for it, is given
  pub gives_shown : (a : Ask) (d : Did) → fitting c (state c h) (unwrap_or (reserves d) 0) a ≡ Ok d → IfSome (reserves d) (λ w. is_free_for (shown t) d w ≡ true) →
      room_by c d (shown t) t.due ≡ true → Gives c (state c h) a d
  gives_shown a d fit free room =
      let fresh = free_shown d free in
      let given = given_answer c h (unwrap_or (reserves d) 0) a d (sound_legal c h at.legal) fit fresh in
      let leaves : leaves_room c (state c h) d ≡ true = ap (λ s. leaves_room c s d) (sym at.shows.kept) ∙ sym (room_shown c h t at d given) ∙ room in
      (ap (within_room c (state c h)) fit ∙ ap (λ b. cond b (Ok d) (Err BookFull)) leaves, fresh)

  -- and the other way round
  pub shown_gives : (a : Ask) (d : Did) → Gives c (state c h) a d →
      (fitting c (state c h) (unwrap_or (reserves d) 0) a ≡ Ok d) × (IfSome (reserves d) (λ w. is_free_for (shown t) d w ≡ true) × (room_by c d (shown t) t.due ≡ true))
  shown_gives a d gives =
      let fit = within c (state c h) (fitting c (state c h) (unwrap_or (reserves d) 0) a) d gives.0 in
      let given = given_legal c h a d at.legal gives in
      let leaves = is_leaving d (leaves_room c (state c h) d) (sym (ap (within_room c (state c h)) fit) ∙ gives.0) in (
        fit,
        (
          subst (λ s. IfSome (reserves d) (λ w. is_free_for s d w ≡ true)) (sym at.shows.kept) gives.1,
          room_shown c h t at d given ∙ ap (λ s. leaves_room c s d) at.shows.kept ∙ leaves,
        ),
      )

  -- what the tables need of an entry that is given
  pub suits_shown : (a : Ask) (d : Did) → Gives c (state c h) a d → Suits (shown t) d
  suits_shown a d gives = subst (λ s. Suits s d) (sym at.shows.kept) (suits_given c h at.legal d (given_legal c h a d at.legal gives))

  pub all_shown : SuitsAll (shown t)
  all_shown = subst SuitsAll (sym at.shows.kept) (suits_all c h at.legal)

  -- the tables after an entry that is given stand at the history with it
  pub stands_next : (e : Entry) (new : Tables) → Gives c (state c h) e.ask e.did → shown new ≡ undone (next (shown t) e.did) →
      ((g : ℕ) → done_in new.done g ≡ handed_out e.did g (with_completion (completion e.did (shown t)) g (done_in t.done g))) → new.due ≡ due_by e.did (shown t) t.due → HasRanks new → StandsAt c (e ∷ h) new
  stands_next e new gives kept done owed ranks =
      let s = state c h in
      let d = e.did in
      let given = given_legal c h e.ask d at.legal gives in
      let after = next_is_state c h e at.legal gives in
      let same : due_by d (shown t) t.due ≡ due_by d (undone s) (due s) = λ i. due_by d (at.shows.kept i) (at.shows.due i) in
      let completed : completion d (shown t) ≡ completion d s =
      ap (completion d) at.shows.kept ∙ grouped_undone s (completes d (λ x. (task_at s x).kind) (λ x. (task_at s x).cancelled)) in
      record {
        config = at.config;
        legal = (gives, at.legal);
        shows = record {
          kept = kept ∙ ap (λ x. undone (next x d)) at.shows.kept ∙ ap undone (sym after);
          done = λ g.
              done g
              ∙ ap (λ o. handed_out d g (with_completion o g (done_in t.done g))) completed
              ∙ ap (λ xs. handed_out d g (with_completion (completion d s) g xs)) (at.shows.done g)
              ∙ done_given c h at.legal d given g
              ∙ ap (λ (x : State). done_of x g) (sym after);
          due = owed ∙ same ∙ due_undone d s (due s) ∙ due_given c h d at.legal given ∙ ap due (sym after);
          ranks = ranks;
        };
      }

  -- tables that show the same stand where they stood
  pub stands_still : (new : Tables) → shown new ≡ shown t → ((g : ℕ) → done_in new.done g ≡ done_in t.done g) → new.due ≡ t.due → HasRanks new → StandsAt c h new
  stands_still new kept done owed ranks = record {
    config = at.config;
    legal = at.legal;
    shows = record { kept = kept ∙ at.shows.kept; done = λ g. done g ∙ at.shows.done g; due = owed ∙ at.shows.due; ranks = ranks };
  }

-- the greatest number of live slots is few
pub few_largest : (c : Config) (h : List Entry) → IsConfig c → Legal c h → largest h ≤ 1048576
few_largest c [] config legal = omega arith
few_largest c (e ∷ h) config legal =
    let before = few_largest c h config legal.1 in
    let owed = few_owed c (e ∷ h) config legal in
    let taken = slots-le c (e ∷ h) in
    let most : live (e ∷ h) ≤ count_by is_some (slot_rows (e ∷ h)) = few is_live refl (slot_rows (e ∷ h)) in
    omega (arith, before, owed, taken, most)

-- The judgment of one entry

same_did : (x d : Did) → ◌≡◌ {A = Answer} (Ok x) (Ok d) → x ≡ d
same_did x d e = cc

-- the answer fits, where it is the entry's
pub fits_same : (a : Answer) (x d : Did) (b : Bool) → a ≡ Ok x → (IsTrue b ↔ (x ≡ d)) → IsTrue b ↔ (a ≡ Ok d)
fits_same a x d b is same = (λ t. is ∙ ap (λ (y : Did). as_answer y) (same.0 t), λ e. same.1 (same_did x d (sym is ∙ e)))
  where
    as_answer : Did → Answer
    as_answer y = Ok y

-- a refusal does not fit
pub fits_refused : (a : Answer) (e : PoolError) (d : Did) → IsAnswer ⊥ (Err e) a → IsTrue false ↔ (a ≡ Ok d)
fits_refused a e d is = (λ t. absurd (false≢true t), λ ok. absurd (other_answer a e d (refused_is a e is) ok))

module _ (c : Config) (h : List Entry) (t : Tables) (at : StandsAt c h t) (a : Ask) (d : Did) where
  -- what does not fit is not given
  pub unfit : (IsTrue false ↔ (fitting c (state c h) (unwrap_or (reserves d) 0) a ≡ Ok d)) → IsTrue false ↔ Gives c (state c h) a d
  unfit fits = (λ t. absurd (false≢true t), λ gives. fits.1 (shown_gives c h t at a d gives).0)

  -- what fits is given, where its slot's number is free and there is room
  pub fit : (free room : Bool) → (IsTrue true ↔ (fitting c (state c h) (unwrap_or (reserves d) 0) a ≡ Ok d)) →
      (IsTrue free ↔ IfSome (reserves d) (λ w. is_free_for (shown t) d w ≡ true)) → room ≡ room_by c d (shown t) t.due → IsTrue (free && room) ↔ Gives c (state c h) a d
  fit free room fits number is = (
    λ both.
        let parts = and_parts free room both in
        gives_shown c h t at a d (fits.0 refl) (number.0 parts.0) (sym is ∙ parts.1),
    λ gives.
        let parts = shown_gives c h t at a d gives in
        rw (number.1 parts.1.0, is ∙ parts.1.1) refl,
  )

-- What is answered to an ask, where a slot that is made gets the number w

module _ (c : Config) (s : State) (w : ℕ) (a : Ask) where
  -- what fits there is answered, where it is given
  pub answered_given : (d : Did) → fitting c s w a ≡ Ok d → Gives c s a d → step c s w a ≡ Ok d
  answered_given d fits gives =
      let own = within c s (fitting c s (unwrap_or (reserves d) 0) a) d gives.0 in
      let leaves = is_leaving d (leaves_room c s d) (sym (ap (within_room c s) own) ∙ gives.0) in
      ap (within_room c s) fits ∙ ap (λ b. cond b (Ok d) (Err BookFull)) leaves

  -- what does not fit there is refused so
  pub denied_unfit : (e : PoolError) → IsAnswer ⊥ (Err e) (fitting c s w a) → IsDenied c s w a e
  denied_unfit e is = inl (ap (within_room c s) (refused_is (fitting c s w a) e is))

  -- what fits there and is not given is refused for want of room, or since its number is taken
  pub denied_full : (d : Did) → fitting c s w a ≡ Ok d → (Gives c s a d → ⊥) → IsDenied c s w a BookFull
  denied_full d fits not_given = by_room (leaves_room c s d) refl
    where
      by_room : (b : Bool) → leaves_room c s d ≡ b → IsDenied c s w a BookFull
      by_room false room = inl (ap (within_room c s) fits ∙ ap (λ b. cond b (Ok d) (Err BookFull)) room)
      by_room true room =
          let is : step c s w a ≡ Ok d = ap (within_room c s) fits ∙ ap (λ b. cond b (Ok d) (Err BookFull)) room in
          let taken = taken_at c s w a d is not_given in
          inr (refl, (d, is, taken.0, taken.1))

-- What the auditor answers at the end

module _ (c : Config) (h : List Entry) (t : Tables) (at : StandsAt c h t) where
  pub few_tasks : length (shown t).tasks ≤ 1048577
  few_tasks =
      let few = few_owed c h at.config at.legal in
      let most = length-task_rows h in
      let e : length (shown t).tasks ≡ length (task_rows h) = ap (λ (s : State). length s.tasks) at.shows.kept in
      omega (arith, few, most, e)

  pub few_live : count_by is_live (shown t).slots ≤ 1048577
  few_live =
      let few_of = few_owed c h at.config at.legal in
      let taken = slots-le c h in
      let most = few is_live refl (slot_rows h) in
      let e : count_by is_live (shown t).slots ≡ count_by is_live (slot_rows h) = ap (λ (s : State). count_by is_live s.slots) at.shows.kept in
      omega (arith, few_of, taken, most, e)

  pub largest_shown : (shown t).largest ≤ 1048577
  largest_shown =
      let most = few_largest c h at.config at.legal in
      let e : (shown t).largest ≡ largest h = ap (λ (s : State). s.largest) at.shows.kept in
      omega (arith, most, e)

  pub rank_shown : (shown t).rank ≤ 4
  rank_shown =
      let most = rank-le h in
      let e : (shown t).rank ≡ rank h = ap (λ (s : State). s.rank) at.shows.kept in
      omega (arith, most, e)

  pub summary_shown : (s : Summary) → s.counts ≡ counts (shown t) → state_rank s.state ≡ (shown t).rank → s.fates.items ≡ map fate_of (shown t).tasks → IsSummary c h s
  summary_shown s counted ranked fates = record {
    counts = counted ∙ ap counts at.shows.kept;
    rank = ranked ∙ ap (λ (x : State). x.rank) at.shows.kept;
    fates = fates ∙ ap (λ (x : State). map fate_of x.tasks) at.shows.kept;
  }

-- before the first entry
pub stands_first : (c : Config) (t : Tables) → IsConfig c → shown t ≡ state c [] → ((g : ℕ) → done_in t.done g ≡ []) → t.due ≡ 4 → HasRanks t → StandsAt c [] t
stands_first c t config kept done owed ranks = record {
  config = config;
  legal = tt;
  shows = record { kept = kept; done = done; due = owed; ranks = ranks };
}

-- an auditor's value, and the fields that it is the view of

module _ (c : Config) (t : Tables) (a : Judge) (is : record { config = c; tables = t } ≡ a) (h : List Entry) where
  pub judged_now : StandsAt c h t → Judged a h
  judged_now at = subst (λ (x : Judge). StandsAt x.config h x.tables) is at

  pub judged_inside : Judged a h → StandsAt c h t
  judged_inside at = subst (λ (x : Judge). StandsAt x.config h x.tables) (sym is) at

  pub gives_inside : (k : Ask) (d : Did) → Gives a.config (state a.config h) k d → Gives c (state c h) k d
  gives_inside k d gives = subst (λ (x : Judge). Gives x.config (state x.config h) k d) (sym is) gives

-- the first entry that is not given, by the number that the auditor tells
pub flaw_at : (c : Config) (es : List Entry) (i n : ℕ) (f : Entry) → i < length es → Legal c (reverse (take i es)) → n ≡ suc (length (reverse (take i es))) →
    (Gives c (state c (reverse (take i es))) (get_or es i f).ask (get_or es i f).did → ⊥) → IsFirstFlaw c es n
flaw_at c es i n f within legal number not_given =
    let length_is : n ≡ i + 1 = omega (arith, number, length-reverse (take i es), length-take i es, within) in
    subst (IsFirstFlaw c es) (sym length_is) (first_flaw c es i f within legal not_given)
