-- How far a submission has come, with its receipts.
use Rattle.std.proofs.Common.{◌≡◌, ◌⊎◌, ℕ, Bool, ◌+◌, ◌≤◌, List, [], ◌∷◌, ◌++◌, length, length-append, refl, inl, inr, ap, sym, subst, ◌∙◌, ⊎_elim, arith}
use Rattle.std.specs.Prelude.{true, Option, Some, None, option_map, Result, Ok, Err, IfOk, IfErr, IfNone, IsTrue}
use Rattle.std.specs.Result.{result_ok}
use Rattle.tp_types.specs.declared.configs.Config.{Config}
use Rattle.tp_types.specs.declared.ids.SlotId.{SlotId}
use Rattle.tp_types.specs.declared.ids.TaskId.{TaskId}
use Rattle.tp_types.specs.declared.refusals.PoolError.{PoolError}
use Rattle.tp_types.specs.declared.tasks.Kind.{Kind}
use Rattle.tp_types.specs.declared.tasks.Promise.{Promise}
use Rattle.tp_record.specs.declared.entries.Ask.{Ask}
use Rattle.tp_record.specs.declared.entries.Ask.TheVariants as ask
use Rattle.tp_record.specs.declared.entries.Did.{Did}
use Rattle.tp_record.specs.declared.entries.Did.TheVariants as did
use Rattle.tp_record.specs.declared.entries.Entry.{Entry}
use Rattle.tp_record.specs.declared.entries.Looked.{Looked}
use Rattle.tp_record.specs.declared.entries.Looked.TheVariants as looked
use Rattle.tp_record.specs.Paths.{Admission, Rejected, Follow, Ends, Astray, IsPath, after_look, follows}
use Rattle.tp_machine_state.specs.Payloads.{PutsIn}
use Rattle.tp_protocols.specs.Fronts.{is_submit_of, admission_of, follow_of, goes, IsFront}
use Rattle.tp_protocols.specs.declared.paths.Next.{Next}
use Rattle.tp_protocols.specs.declared.paths.Next.TheVariants as next
use Rattle.tp_protocols.specs.declared.paths.Ending.{Ending}
use Rattle.tp_protocols.specs.declared.paths.Ending.TheVariants as ending
use Rattle.tp_glance.specs.Word.{IsFrontOf}
use Rattle.tp_glance.proofs.Fronts.{IsFrontOf_refl}
use Rattle.tp_book.specs.PassView.{PassView}
use Rattle.tp_pool_holds.specs.Passes.{Adds, AddsStep, IsRefusal, LooksOnly, entry_of, opening}
use Rattle.tp_pool_holds.specs.Steps.{Makes}
use Rattle.tp_types.specs.declared.refusals.PoolError.TheVariants as error
use Rattle.tp_pool_holds.specs.declared.answers.Admitted.{Admitted}
use Rattle.tp_pool_holds.specs.declared.answers.Refused.{Refused}
use Rattle.tp_pool_holds.specs.declared.tasks.Payload.{Payload}
use Rattle.tp_machine.specs.Answers.{ComesBack}
use Rattle.tp_pool.specs.Admissions.{task_of, end_of, AddsFront, AsksFor, Awaits, GotJob, IsUndone, IsAdmitted, IsTurnedAway}
use Rattle.tp_pool_holds.specs.Submitting.{TakesOut}
use Rattle.tp_pool_holds.proofs.Receipts.{adds_looks, adds_then, leads_front}
use Rattle.tp_pool.proofs.Refusals.{refuses_ever}
use Rattle.tp_pool_holds.proofs.Returned.{comes_back_as, takes_from}
use Rattle.tp_pool.proofs.Submissions.{got_on}
use Rattle.std.proofs.lemmas.Bool.{eq-eqb}

-- the laws of fronts, as `law_fronts_are_paths` tells them
abbrev pub Begins : Type 0
Begins = (t : ℕ) (e : Entry) → IsTrue (is_submit_of t e.did) → IsFront t (e ∷ []) (follows t e.did)

abbrev pub GoesOn : Type 0
GoesOn = (t : ℕ) (es : List Entry) (f : Follow) (e : Entry) → IsFront t es f → IsFront t (es ++ e ∷ []) (goes t f e.did)

abbrev pub Closes : Type 0
Closes = (t : ℕ) (es : List Entry) (a : Admission) → IsFront t es (Ends a) → IsPath t es a

-- what follows a submission's first step is no stranger's
looks_on : (t : ℕ) (look : Looked) → ¬ (after_look t look ≡ Astray)
looks_on t (looked.Reserve w) is = absurd (cc)
looks_on t looked.Queue is = absurd (cc)
looks_on t looked.Refuse is = absurd (cc)

-- a deed is awaited, or the submission has ended, or it has left its path
deeds : (t : ℕ) (n : Next) → Awaits (follow_of t n) ⊎ (((end : Ending) × (n ≡ next.End end)) ⊎ (n ≡ next.Astray))
deeds t (next.End end) = inr (inl (end, refl))
deeds t next.Astray = inr (inr refl)
deeds t _ = inl tt

asks_on : (kind : Kind) (priority : ℕ) (es fs : List Entry) → AsksFor kind priority es → AsksFor kind priority (es ++ fs)
asks_on kind priority [] fs asks = absurd asks
asks_on kind priority (e ∷ es) fs asks = asks

-- an opening that the pool refuses leaves the deed undone
pub unopened : (keeps : Bool) (c : Config) (t : TaskId) (w : SlotId) (staffed : Bool) (p : PassView) (r : Result Did PoolError) (o : Option Did) → o ≡ result_ok r → IfErr r (IsRefusal true c p (opening w staffed)) →
    IfNone o (Awaits (follow_of t.0 (next.Staff w)) → IsUndone keeps c t (next.Staff w) p)
unopened keeps c t w staffed p (Ok d) None is refused = absurd (cc)
unopened keeps c t w staffed p (Err e) None is refused = λ on. inl (opening w staffed, (staffed, refl), (e, refuses_ever keeps c p (opening w staffed) e refused))
unopened keeps c t w staffed p r (Some d) is refused = tt

-- a pass that stays as it is, or looks
module _ (c : Config) where
  moved_on : (mid new : PassView) → (new ≡ mid) ⊎ LooksOnly c mid new → IsFrontOf mid.front new.front
  moved_on mid new moved =
      ⊎_elim (λ (same : new ≡ mid). subst (λ p. IsFrontOf mid.front p.front) (sym same) (IsFrontOf_refl mid.front)) (λ (looks : LooksOnly c mid new). looks.1) moved

  adds_moved : (old mid new : PassView) (steps : List Entry) → Adds c old steps mid → (new ≡ mid) ⊎ LooksOnly c mid new → Adds c old steps new
  adds_moved old mid new steps adds moved =
      ⊎_elim (λ (same : new ≡ mid). subst (λ p. Adds c old steps p) (sym same) adds) (λ (looks : LooksOnly c mid new). adds_looks c old mid new steps adds looks) moved

-- the pass has the receipts of a front of the path of t, which is of this kind and priority, behind which this deed was to follow, and of one step more that was not to follow there
pub record Strays (c : Config) (kind : Kind) (priority : ℕ) (t : ℕ) (old new : PassView) : Type 0 where
  pub front : List Entry
  pub deed : Next
  pub is_front : IsFront t front (follow_of t deed)
  pub awaits : Awaits (follow_of t deed)
  pub asks : AsksFor kind priority front
  pub last : Entry
  pub astray : goes t (follow_of t deed) last.did ≡ Astray
  pub adds : Adds c old (front ++ last ∷ []) new

module _ {J : Type 0} (c : Config) (kind : Kind) (priority : ℕ) (job : J) (promise : Promise) where
  -- after so many steps the pass has the receipts of a front of the path of t, which is of this kind and priority, behind which this follows; the pool got the job; and
  -- the pass has room for the others
  pub record Walk (t : ℕ) (old : PassView) (f : Follow) (steps : ℕ) (new : PassView) : Type 0 where
    pub front : List Entry
    pub is_front : IsFront t front f
    pub asks : AsksFor kind priority front
    pub adds : Adds c old front new
    pub got : GotJob c kind priority job promise old.number t old.front new.front
    pub count : length front ≡ steps
    -- where it has left the path, its last entry was not to follow
    pub torn : f ≡ Astray → Strays c kind priority t old new
    pub room : 512 ≤ new.room + steps

  pub begun : Begins → (t : TaskId) (look : Looked) (old new : PassView) (task : Payload J) → task.job ≡ job →
      Makes J c old.number old.front (ask.Submit kind priority) (did.Submit t kind priority look) (λ old new. PutsIn old new t.0 promise task) new.front →
      AddsStep c old (ask.Submit kind priority) (did.Submit t kind priority look) new → 512 ≤ old.room → old.room ≤ new.room + 1 →
      Walk t.0 old (follows t.0 (did.Submit t kind priority look)) 1 new
  begun law t look old new task has makes step had left =
      let d = did.Submit t kind priority look in
      let e = entry_of old.number (ask.Submit kind priority) d in record {
        front = e ∷ [];
        is_front = law t.0 e (eq-eqb t.0 t.0 refl);
        asks = refl;
        adds = step;
        got = record { task = task; look = look; then_history = new.front; has_job = has; number = t; is_task = refl; makes = makes; goes_on = IsFrontOf_refl new.front };
        count = refl;
        torn = λ (astray : follows t.0 d ≡ Astray). absurd (looks_on t.0 look astray);
        room = omega arith;
      }

  pub walked : GoesOn → (t : ℕ) (old mid new : PassView) (n : Next) (steps : ℕ) (a : Ask) (d : Did) → Walk t old (follow_of t n) steps mid → Awaits (follow_of t n) → AddsStep c mid a d new →
      mid.room ≤ new.room + 1 → Walk t old (goes t (follow_of t n) d) (steps + 1) new
  walked law t old mid new n steps a d walk on step left =
      let e = entry_of old.number a d in
      let adds = adds_then c old mid new walk.front a d walk.adds step in record {
        front = walk.front ++ e ∷ [];
        is_front = law t walk.front (follow_of t n) e walk.is_front;
        asks = asks_on kind priority walk.front (e ∷ []) walk.asks;
        adds = adds;
        got = got_on c kind priority job promise old.number t old.front mid.front new.front walk.got (leads_front mid.front new.front (entry_of mid.number a d ∷ []) step.leads);
        count = length-append walk.front (e ∷ []) ∙ ap (λ k. k + 1) walk.count;
        torn = λ (astray : goes t (follow_of t n) d ≡ Astray).
            record { front = walk.front; deed = n; is_front = walk.is_front; awaits = on; asks = walk.asks; last = e; astray = astray; adds = adds };
        room = omega (arith, walk.room);
      }

  -- what the next step takes out of the book is taken out by the submission's pass, behind its first front
  pub taken_on : (t : ℕ) (old mid : PassView) (f : Follow) (steps : ℕ) → Walk t old f steps mid → (held : Option (Payload J)) (after : List Entry) → TakesOut c mid.number t held mid.front after →
      TakesOut c old.number t held old.front after
  taken_on t old mid f steps walk held after out =
      subst (λ (by : ℕ). TakesOut c by t held old.front after) walk.adds.number (takes_from c mid.number t held old.front mid.front after (leads_front old.front mid.front walk.front walk.adds.leads) out)

  -- its end, as the answer says it
  pub admits_at : Closes → (t : TaskId) (old new : PassView) (f : Follow) (steps : ℕ) (end : Admission) → f ≡ Ends end → Walk t.0 old f steps new →
      (r : Result Admitted (Refused J)) → IfOk r (λ a. (task_of a ≡ t) × (end_of a ≡ end)) → IfOk r (IsAdmitted c kind priority job promise old new)
  admits_at law t old new f steps end is walk (Ok a) same =
      let path : IsPath t.0 walk.front end = law t.0 walk.front end (subst (λ f. IsFront t.0 walk.front f) is walk.is_front) in (
        (walk.front, subst (λ (u : TaskId). IsPath u.0 walk.front (end_of a)) (sym same.0) (subst (λ e. IsPath t.0 walk.front e) (sym same.1) path), walk.asks, walk.adds),
        subst (λ (u : TaskId). GotJob c kind priority job promise old.number u.0 old.front new.front) (sym same.0) walk.got,
      )
  admits_at law t old new f steps end is walk (Err x) same = tt

  pub rejects_at : (keeps : Bool) → Closes → (t : TaskId) (old new : PassView) (f : Follow) (steps : ℕ) (end : Ending) → f ≡ Ends (admission_of end) → Walk t.0 old f steps new →
      (held : Option (Payload J)) → (f ≡ Ends Rejected → ComesBack t.0 held new.front × TakesOut c old.number t.0 held old.front new.front) → (r : Result Admitted (Refused J)) → IfErr r (λ x. (x.error ≡ error.Rejected t) × (end ≡ ending.Rejected)) →
      IfErr r (λ x. x.job ≡ option_map (λ k. k.job) held) → IfErr r (IsTurnedAway keeps c kind priority job promise old new)
  rejects_at keeps law t old new f steps end is walk held returned (Ok a) same hands = tt
  rejects_at keeps law t old new f steps end is walk held returned (Err x) same hands =
      let rejected : f ≡ Ends Rejected = is ∙ ap (λ e. Ends (admission_of e)) same.1 in
      let out = returned rejected in
      inl (
        t,
        same.0,
        (walk.front, law t.0 walk.front Rejected (subst (λ f. IsFront t.0 walk.front f) rejected walk.is_front), walk.asks, walk.adds),
        walk.got,
        comes_back_as t.0 new.front held x.job hands out.0,
        (held, hands, out.1),
      )

  -- torn off where the next step is not taken
  pub torn_off : (keeps : Bool) (t : TaskId) (old mid new : PassView) (n : Next) (steps : ℕ) → Walk t.0 old (follow_of t.0 n) steps mid → ((end : Ending) → ¬ (n ≡ next.End end)) →
      (new ≡ mid) ⊎ LooksOnly c mid new → (Awaits (follow_of t.0 n) → IsUndone keeps c t n new ⊎ (512 ≤ steps)) → (x : Refused J) → x.error ≡ error.TornRecord → IsTurnedAway keeps c kind priority job promise old new x
  torn_off keeps t old mid new n steps walk goes_on moved undone x torn =
      let got = got_on c kind priority job promise old.number t.0 old.front mid.front new.front walk.got (moved_on c mid new moved) in
      let awaited : Awaits (follow_of t.0 n) → AddsFront keeps c kind priority t old new = λ on. record {
        front = walk.front;
        deed = n;
        is_front = walk.is_front;
        awaits = on;
        asks = walk.asks;
        adds = inl (adds_moved c old mid new walk.front walk.adds moved, subst (λ k. IsUndone keeps c t n new ⊎ (512 ≤ k)) (sym walk.count) (undone on));
      } in
      let strayed : n ≡ next.Astray → AddsFront keeps c kind priority t old new = λ is.
      let strays = walk.torn (ap (λ n. follow_of t.0 n) is) in record {
        front = strays.front;
        deed = strays.deed;
        is_front = strays.is_front;
        awaits = strays.awaits;
        asks = strays.asks;
        adds = inr (strays.last, strays.astray, adds_moved c old mid new (strays.front ++ strays.last ∷ []) strays.adds moved);
      } in
      inr (inl (t, torn, ⊎_elim awaited (⊎_elim (λ (x : (end : Ending) × (n ≡ next.End end)). absurd (goes_on x.0 x.1)) strayed) (deeds t.0 n), got))
