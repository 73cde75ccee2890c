-- A rejected task's job comes back unless the task was cancelled.
use Rattle.std.proofs.Common.{◌≡◌, ℕ, Bool, true, false, List, ◌∷◌, refl, sym, ap, subst, ◌∙◌}
use Rattle.std.specs.Prelude.{◌==◌, not, Option, Some, None, is_some, option_map, Result, Ok, Err, IfOk, OnOk, OnErr, if◌then◌else◌}
use Rattle.tp_types.specs.declared.configs.Config.{Config}
use Rattle.tp_types.specs.declared.configs.Verdict.{Verdict}
use Rattle.tp_types.specs.declared.ids.TaskId.{TaskId}
use Rattle.tp_types.specs.declared.refusals.PoolError.{PoolError}
use Rattle.tp_record.specs.declared.entries.Ask.{Ask}
use Rattle.tp_record.specs.declared.entries.Ask.TheVariants as ask
use Rattle.tp_record.specs.declared.entries.Did.{Did}
use Rattle.tp_record.specs.declared.entries.Did.TheVariants as did
use Rattle.tp_record.specs.declared.entries.Entry.{Entry}
use Rattle.tp_record.specs.declared.entries.Looked.TheVariants as looked
use Rattle.tp_record.specs.declared.entries.Offered.TheVariants as offered
use Rattle.tp_record.specs.declared.entries.Seconded.TheVariants as seconded
use Rattle.tp_record.specs.declared.entries.Grown.TheVariants as grown
use Rattle.tp_record.specs.declared.entries.Opened.TheVariants as opened
use Rattle.tp_record.specs.declared.entries.Failed.TheVariants as failed
use Rattle.tp_record.specs.declared.entries.Ruled.TheVariants as ruled
use Rattle.tp_record.specs.Fields.{is_cancelled}
use Rattle.tp_record.specs.Paths.{Follow, Then, Ends, Astray, Rejected, follows, is_offer_of, is_verdict_of}
use Rattle.tp_protocols.specs.Fronts.{goes, is_awaited}
use Rattle.tp_tasks.specs.declared.tasks.Tasks.{Tasks}
use Rattle.tp_machine.specs.declared.answers.Judged.{Judged}
use Rattle.tp_machine.specs.Answers.{ComesBack, IsJudged, Judges, ruled_of, ReturnsAt}
use Rattle.tp_glance.specs.Word.{IsFrontOf}
use Rattle.tp_glance.proofs.Fronts.{IsFrontOf_refl, IsFrontOf_trans}
use Rattle.tp_book.specs.PassView.{PassView}
use Rattle.tp_book.proofs.Forgetting.{all_history}
use Rattle.tp_pool_holds.specs.LockedView.{LockedView}
use Rattle.tp_pool_holds.specs.Holds.{Holds}
use Rattle.tp_pool_holds.specs.Passes.{KnowsStep}
use Rattle.tp_pool_holds.specs.Steps.{Makes}
use Rattle.tp_pool_holds.specs.declared.tasks.Payload.{Payload}
use Rattle.tp_pool_holds.specs.Submitting.{TakesOut}

-- a pass that a step was made with knows it, and of the history before it what the answer says
pub knows : {J A : Type 0} (keeps : Bool) (old new : LockedView J) (before after : PassView) (a : Ask) (did : A → Did) (moves : A → Tasks (Payload J) → Tasks (Payload J) → Type 0) (says : A → List Entry → Type 0) (r : Result A PoolError) →
    IfOk r (λ x. Holds keeps old new before.number a (did x) (moves x)) → IfOk r (λ x. says x old.book.history) → OnOk r (after.front ≡ new.book.history) × OnErr r (after.front ≡ old.book.history) →
    IfOk r (λ x. KnowsStep before a (did x) (says x) after)
knows keeps old new before after a did moves says (Ok x) holds said front = (old.book.history, front.0 ∙ all_history keeps holds.book new.book _ holds.forgets_gone ∙ holds.made.notes, said)
knows keeps old new before after a did moves says (Err e) holds said front = tt

mine_if : (b : Bool) (f : Follow) → (if b then f else Astray) ≡ Ends Rejected → f ≡ Ends Rejected
mine_if true f is = is
mine_if false f is = absurd (cc)

goes_on : (fits : Did → Bool) → ¬ (Then fits ≡ Ends Rejected)
goes_on fits is = absurd (cc)

-- a verdict alone rejects
only_rejected : (t : ℕ) (d : Did) → follows t d ≡ Ends Rejected → (u : TaskId) × (v : Verdict) × (d ≡ did.Verdict u v ruled.Rejected)
only_rejected t (did.Verdict u v ruled.Rejected) is = (u, v, refl)
only_rejected t (did.Verdict u v ruled.Discarded) is = absurd (cc)
only_rejected t (did.Verdict u v ruled.Skip) is = absurd (cc)
only_rejected t (did.Verdict u v ruled.Caller) is = absurd (cc)
only_rejected t (did.Verdict u v ruled.Retry) is = absurd (cc)
only_rejected t (did.Verdict u v (ruled.RetryDrop x)) is = absurd (cc)
only_rejected t (did.Submit u k p (looked.Reserve w)) is = absurd (cc)
only_rejected t (did.Submit u k p looked.Queue) is = absurd (cc)
only_rejected t (did.Submit u k p looked.Refuse) is = absurd (cc)
only_rejected t (did.Look u (looked.Reserve w)) is = absurd (cc)
only_rejected t (did.Look u looked.Queue) is = absurd (cc)
only_rejected t (did.Look u looked.Refuse) is = absurd (cc)
only_rejected t (did.Offer u offered.Queued) is = absurd (cc)
only_rejected t (did.Offer u (offered.Hand w)) is = absurd (cc)
only_rejected t (did.Offer u offered.Full) is = absurd (cc)
only_rejected t (did.Second u seconded.Stay) is = absurd (cc)
only_rejected t (did.Second u (seconded.StayReserve w)) is = absurd (cc)
only_rejected t (did.Second u seconded.Back) is = absurd (cc)
only_rejected t (did.Grow u (grown.Reserve w)) is = absurd (cc)
only_rejected t (did.Grow u grown.Refuse) is = absurd (cc)
only_rejected t (did.Open w opened.Live) is = absurd (cc)
only_rejected t (did.Open w opened.GivenUp) is = absurd (cc)
only_rejected t (did.Open w (opened.GivenUpRefuse u)) is = absurd (goes_on (is_verdict_of t) (mine_if (t == u.0) (Then (is_verdict_of t)) is))
only_rejected t (did.Fail w failed.Nothing) is = absurd (cc)
only_rejected t (did.Fail w (failed.Offer u)) is = absurd (goes_on (is_offer_of t) (mine_if (t == u.0) (Then (is_offer_of t)) is))
only_rejected t (did.Fail w (failed.Refuse u)) is = absurd (goes_on (is_verdict_of t) (mine_if (t == u.0) (Then (is_verdict_of t)) is))
only_rejected t (did.CallerEnd u o) is = absurd (cc)
only_rejected t _ is = absurd (cc)

pub judged : (t : ℕ) (f : Follow) (d : Did) → goes t f d ≡ Ends Rejected → follows t d ≡ Ends Rejected
judged t f d is = mine_if (is_awaited f d) (follows t d) is

-- the first entry does not reject it
pub unrejected : (t : ℕ) (d : Did) → ((u : TaskId) (v : Verdict) → ¬ (d ≡ did.Verdict u v ruled.Rejected)) → ¬ (follows t d ≡ Ends Rejected)
unrejected t d other is = let rejects = only_rejected t d is in other rejects.0 rejects.1 rejects.2

-- the job that is handed out where a verdict rejects
pub comes_back : {P : Type 0} (t : TaskId) (d : Did) (payload : Option P) (dropped : Option (TaskId × Option P)) (old new : PassView) (a : Ask) →
    KnowsStep old a d (λ h. ReturnsAt t (ruled_of d) payload dropped h) new → follows t.0 d ≡ Ends Rejected → ComesBack t.0 payload new.front
comes_back t d payload dropped old new a known is =
    let rejects = only_rejected t.0 d is in
    let e : Entry = record { by = old.number; ask = a; did = did.Verdict rejects.0 rejects.1 ruled.Rejected } in
    let said : ReturnsAt t ruled.Rejected payload dropped known.0 = subst (λ x. ReturnsAt t (ruled_of x) payload dropped known.0) rejects.2 known.2 in
    let front : new.front ≡ e ∷ known.0 = known.1 ∙ ap (λ x. record { by = old.number; ask = a; did = x } ∷ known.0) rejects.2 in
    subst (λ h. is_some payload ≡ not (is_cancelled h t.0)) (sym front) said

-- what the verdict took out of the book for its task is what was handed out
pub takes_out : {J : Type 0} (c : Config) (t : TaskId) (v : Verdict) (j : Judged (Payload J)) (old new : PassView) →
    Makes J c old.number old.front (ask.Verdict t v) j.did (λ before after. IsJudged before after t j) new.front → follows t.0 j.did ≡ Ends Rejected → TakesOut c old.number t.0 j.payload old.front new.front
takes_out c t v j old new makes is =
    let rejects = only_rejected t.0 j.did is in
    let ruling : ruled_of j.did ≡ ruled.Rejected = ap ruled_of rejects.2 in
    let out : Judges makes.old.machine.parts.tasks makes.new.machine.parts.tasks t ruled.Rejected j.payload j.dropped =
    subst (λ r. Judges makes.old.machine.parts.tasks makes.new.machine.parts.tasks t r j.payload j.dropped) ruling makes.step.payloads in record {
      number = t;
      is_task = refl;
      verdict = v;
      made = j.did;
      rejects = ruling;
      then_history = new.front;
      makes = record {
        old = makes.old;
        new = makes.new;
        is = makes.is;
        goes_on = makes.goes_on;
        step = record { promised = makes.step.promised; step = makes.step.step; payloads = out.0; notes = makes.step.notes; accounts = makes.step.accounts };
        shown = makes.shown;
      };
      goes_on = IsFrontOf_refl new.front;
    }

-- at a history behind an earlier one it is so, too
pub takes_from : {J : Type 0} (c : Config) (by t : ℕ) (payload : Option (Payload J)) (f g h : List Entry) → IsFrontOf f g → TakesOut c by t payload g h → TakesOut c by t payload f h
takes_from c by t payload f g h on out = record {
  number = out.number;
  is_task = out.is_task;
  verdict = out.verdict;
  made = out.made;
  rejects = out.rejects;
  then_history = out.then_history;
  makes = record { old = out.makes.old; new = out.makes.new; is = out.makes.is; goes_on = IsFrontOf_trans on out.makes.goes_on; step = out.makes.step; shown = out.makes.shown };
  goes_on = out.goes_on;
}

-- so does that of the task that held it
pub comes_back_as : {J : Type 0} (t : ℕ) (h : List Entry) (held : Option (Payload J)) (job : Option J) → job ≡ option_map (λ k. k.job) held → ComesBack t held h → ComesBack t job h
comes_back_as t h None job same is = subst (λ o. ComesBack t o h) (sym same) is
comes_back_as t h (Some k) job same is = subst (λ o. ComesBack t o h) (sym same) is
