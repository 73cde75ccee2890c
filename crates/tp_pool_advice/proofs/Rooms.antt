-- A record has room for each of so many jobs.
use Rattle.std.proofs.Common.{◌≡◌, ℕ, suc, ◌+◌, ◌*◌, ◌≤◌, cond, Bool, true, false, List, [], ◌∷◌, Option, Some, None, length, Ok, Err, refl, sym, ap, ◌∙◌, subst, inl, inr, arith}
use Rattle.std.specs.Prelude.{IfSome}
use Rattle.std.proofs.lemmas.Bool.{le-leb, lt-ltb}
use Rattle.tp_types.specs.declared.configs.Config.{Config}
use Rattle.tp_types.specs.declared.ids.TaskId.{TaskId}
use Rattle.tp_types.specs.declared.refusals.PoolError.TheVariants.{BookFull}
use Rattle.tp_types.specs.declared.tasks.Kind.{Kind}
use Rattle.tp_record.specs.declared.entries.Ask.{Ask}
use Rattle.tp_record.specs.declared.entries.Ask.TheVariants as ask
use Rattle.tp_record.specs.declared.entries.Did.{Did}
use Rattle.tp_record.specs.declared.entries.Did.TheVariants as did
use Rattle.tp_record.specs.declared.entries.Entry.{Entry}
use Rattle.tp_record.specs.declared.entries.Looked.{Looked}
use Rattle.tp_record.specs.declared.entries.Looked.TheVariants as looked
use Rattle.tp_record.specs.Effects.{is_submit, reserves}
use Rattle.tp_record.specs.Fields.{submitted}
use Rattle.tp_record.specs.State.{State, state, next, due}
use Rattle.tp_record.specs.Step.{IsFreeTo, Legal, fitting, is_free_for, leaves_room, look, within_room}
use Rattle.tp_laws.proofs.OwedLaws.{entries_lower}
use Rattle.tp_laws.proofs.Model.Functions.{free_asked, own_asked}
use Rattle.tp_laws.proofs.Model.Given.{Given}
use Rattle.tp_laws.proofs.Model.NextState.{next_is_state}
use Rattle.tp_laws.proofs.Model.Readings.{tasks_counted}
use Rattle.tp_laws.proofs.Model.Told.{given_answer, given_legal, sound_legal}
use Rattle.tp_laws.proofs.Effects.Submitters.Submit.{submit_queue, submit_refuse, submit_reserve}
use Rattle.tp_pool_advice.specs.Sizes.{IsOfJobs, JobsHaveRoom}

-- what is owed rises by twelve at most where a job is submitted
rises : (c : Config) (h : List Entry) (t : TaskId) (k : Kind) (p : ℕ) (l : Looked) → Legal c h → Given c h (did.Submit t k p l) → due (next (state c h) (did.Submit t k p l)) ≤ due (state c h) + 12
rises c h t k p (looked.Reserve w) legal given = let owes = (submit_reserve c h t k p w legal given).owes in omega (arith, owes)
rises c h t k p looked.Queue legal given = let owes = (submit_queue c h t k p legal given).owes in omega (arith, owes)
rises c h t k p looked.Refuse legal given = let owes = (submit_refuse c h t k p legal given).owes in omega (arith, owes)

rises_by : (c : Config) (h : List Entry) (d : Did) → Legal c h → Given c h d → is_submit d ≡ true → due (next (state c h) d) ≤ due (state c h) + 12
rises_by c h (did.Submit t k p l) legal given is = rises c h t k p l legal given
rises_by c h _ legal given is = absurd (grind arith)

-- one more submission, or as many
more : (e : Entry) (h : List Entry) → is_submit e.did ≡ true → submitted (e ∷ h) ≡ suc (submitted h)
more e h is = ap (λ b. cond b (suc (submitted h)) (submitted h)) is

no_fewer : (b : Bool) (n : ℕ) → n ≤ cond b (suc n) n
no_fewer true n = omega arith
no_fewer false n = omega arith

-- each job has thirteen entries at most, those that are owed among them
within : (c : Config) (h : List Entry) → Legal c h → IsOfJobs h → length h + due (state c h) ≤ submitted h * 13 + 4
within c [] legal of = omega arith
within c (e ∷ h) legal (inl is, of) =
    let before = within c h legal.1 of in
    let same : due (state c (e ∷ h)) ≡ due (next (state c h) e.did) = ap due (next_is_state c h e legal.1 legal.0) in
    let rise = rises_by c h e.did legal.1 (given_legal c h e.ask e.did legal.1 legal.0) is in
    let one = more e h is in
    omega (arith, before, same, rise, one)
within c (e ∷ h) legal (inr low, of) =
    let before = within c h legal.1 of in
    let falls = entries_lower c e h legal low in
    let kept : submitted h ≤ submitted (e ∷ h) = no_fewer (is_submit e.did) (submitted h) in
    omega (arith, before, falls, kept)

-- the number that an answer reserves is w, where w is the number of a new slot
free_number : (c : Config) (s : State) (w : ℕ) (a : Ask) (d : Did) → IsFreeTo s a w → fitting c s w a ≡ Ok d → IfSome (reserves d) (λ v. is_free_for s d v ≡ true)
free_number c s w a d free is = by_number (reserves d) refl
  where
    by_number : (o : Option ℕ) → reserves d ≡ o → IfSome o (λ v. is_free_for s d v ≡ true)
    by_number None none = tt
    by_number (Some v) made =
        let own : v ≡ w = own_asked c s w a v d is made in
        subst (λ n. is_free_for s d n ≡ true) (sym own) (free_asked c s a w w d free is)

pub jobs_have_room : JobsHaveRoom
jobs_have_room c h w k p jobs legal of fewer room good free full =
    let s = state c h in
    let t : TaskId = record { 0 = length s.tasks } in
    let d = did.Submit t k p (look s w) in
    let count : length s.tasks ≡ submitted h = tasks_counted h in
    let fits : fitting c s w (ask.Submit k p) ≡ Ok d = ap (λ b. cond b (Ok d) (Err BookFull)) (lt-ltb (length s.tasks) 4294967295 (omega (arith, count, fewer, room, good))) in
    let given = given_answer c h w (ask.Submit k p) d (sound_legal c h legal) fits (free_number c s w (ask.Submit k p) d free fits) in
    let rise = rises c h t k p (look s w) legal given in
    let before = within c h legal of in
    let roomy : leaves_room c s d ≡ true = le-leb _ _ (omega (arith, rise, before, fewer, room)) in
    let made = sym (ap (within_room c s) fits ∙ ap (λ b. cond b (Ok d) (Err BookFull)) roomy) ∙ full in
    absurd (cc)
