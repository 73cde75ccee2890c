-- Submissions one after another, with their receipts.
use Rattle.std.proofs.Common.{suc, Bool, true, ◌≡◌, ◌≢◌, ◌+◌, ◌<◌, ℕ, List, [], ◌∷◌, ◌++◌, length, get_or, take, drop, drop-cons, refl, sym, ap, subst, ◌∙◌, inl, inr, ⊎_elim, append_assoc, arith}
use Rattle.std.specs.Prelude.{Some, ⊤}
use Rattle.std.proofs.lemmas.List.{append-nil, length-map, take_more, take-append-drop, get_or-map}
use Rattle.tp_types.specs.declared.configs.Config.{Config}
use Rattle.tp_types.specs.declared.ids.TaskId.{TaskId}
use Rattle.tp_types.specs.declared.refusals.PoolError.{PoolError}
use Rattle.tp_types.specs.declared.refusals.PoolError.TheVariants as error
use Rattle.tp_types.specs.declared.tasks.Kind.{Kind}
use Rattle.tp_record.specs.declared.entries.Ask.TheVariants as ask
use Rattle.tp_record.specs.declared.entries.Entry.{Entry}
use Rattle.tp_record.specs.Paths.{Admission, Rejected}
use Rattle.tp_book.specs.PassView.{PassView}
use Rattle.tp_pool_holds.specs.Passes.{AddsNone, Refuses}
use Rattle.tp_pool_holds.specs.declared.answers.Refused.{Refused}
use Rattle.tp_scenario.specs.declared.jobs.JobLine.{JobLine}
use Rattle.tp_types.specs.declared.tasks.Promise.{Promise}
use Rattle.tp_machine.specs.Answers.{ComesBack}
use Rattle.tp_pool.specs.Admissions.{AddsPath, AddsFront, GotJob, IsJobOut, IsTurnedAway}
use Rattle.tp_pool_holds.proofs.Receipts.{adds_both, adds_behind, none_behind}
use Rattle.tp_pool.proofs.Submissions.{front_behind}
use Rattle.poolrun_program.specs.Runs.{Asked, AreSubmissions, AddsSubmissions, IsTorn, BreaksOff, asked_of, asked}
use Rattle.poolrun_program.proofs.Refusals.{before_first}

-- a path is one, behind room for it
pub one_submission : (c : Config) (k : Asked) (t : TaskId) (end : Admission) (old mid new : PassView) → AddsNone old mid → AddsPath c k.0 k.1 t end mid new → AddsSubmissions c (k ∷ []) old new
one_submission c k t end old mid new none path =
    (path.0, (path.0, [], sym (append-nil path.0), (t.0, end, path.1, path.2), refl), adds_behind c old mid new path.0 none path.3)

-- those of more tasks behind those of some
are_more : (ks ls : List Asked) (es fs : List Entry) → AreSubmissions ks es → AreSubmissions ls fs → AreSubmissions (ks ++ ls) (es ++ fs)
are_more [] ls es fs first then = subst (λ xs. AreSubmissions ls (xs ++ fs)) (sym first) then
are_more (k ∷ ks) ls es fs first then =
    (first.0, first.1 ++ fs, ap (λ xs. xs ++ fs) first.2 ∙ append_assoc first.0 first.1 fs, first.3, are_more ks ls first.1 fs first.4 then)

pub more_submissions : (c : Config) (old mid new : PassView) (ks ls : List Asked) → AddsSubmissions c ks old mid → AddsSubmissions c ls mid new → AddsSubmissions c (ks ++ ls) old new
more_submissions c old mid new ks ls a b = (a.0 ++ b.0, are_more ks ls a.0 b.0 a.1 b.1, adds_both c old mid new a.0 b.0 a.2 b.2)

-- the next of a file's jobs behind the first of them
pub next_submission : (c : Config) (old mid new : PassView) (jobs : List JobLine) (n : ℕ) (d : JobLine) → n < length jobs → AddsSubmissions c (take n (asked jobs)) old mid →
    AddsSubmissions c (asked_of (get_or jobs n d) ∷ []) mid new → AddsSubmissions c (take (n + 1) (asked jobs)) old new
next_submission c old mid new jobs n d within a b =
    let more : take (n + 1) (asked jobs) ≡ take n (asked jobs) ++ asked_of (get_or jobs n d) ∷ [] =
    take_more (asked jobs) n (asked_of d) (omega (arith, length-map jobs asked_of)) ∙ ap (λ k. take n (asked jobs) ++ k ∷ []) (get_or-map asked_of jobs n d (asked_of d) within) in
    subst (λ ks. AddsSubmissions c ks old new) (sym more) (more_submissions c old mid new (take n (asked jobs)) (asked_of (get_or jobs n d) ∷ []) a b)

module _ {J : Type 0} (keeps : Bool) (c : Config) (kind : Kind) (priority : ℕ) (job : J) (promise : Promise) where
  -- a submission that was turned away by the policy is followed to its end
  pub turned_whole : (old mid new : PassView) (x : Refused J) (t : TaskId) → x.error ≡ error.Rejected t → AddsNone old mid →
      IsTurnedAway keeps c kind priority job promise mid new x → AddsSubmissions c ((kind, priority) ∷ []) old new
  turned_whole old mid new x t rejected none is =
      ⊎_elim (λ (y : (t : TaskId) × (x.error ≡ error.Rejected t) × AddsPath c kind priority t Rejected mid new × GotJob c kind priority job promise mid.number t.0 mid.front new.front × ComesBack t.0 x.job new.front × IsJobOut c mid.number t.0 x.job mid.front new.front). one_submission c (kind, priority) y.0 Rejected old mid new none y.2)
      (⊎_elim (λ (y : (t : TaskId) × (x.error ≡ error.TornRecord) × AddsFront keeps c kind priority t mid new × GotJob c kind priority job promise mid.number t.0 mid.front new.front). let torn = y.1 in absurd (grind arith))
      (λ (y : Refuses true c ⊤ new (ask.Submit kind priority) x.error × (x.job ≡ Some job) × AddsNone mid new).
      ⊎_elim (λ (e : x.error ≡ error.NoMemory). absurd (grind arith)) (λ (e : x.error ≡ error.BookFull). absurd (grind arith)) (before_first c new kind priority x.error y.0)))
      is

  -- one that was turned away otherwise
  pub turned_torn : (old mid new : PassView) (x : Refused J) → ((t : TaskId) → x.error ≢ error.Rejected t) → AddsNone old mid →
      IsTurnedAway keeps c kind priority job promise mid new x → IsTorn keeps c (kind, priority) x.error old new
  turned_torn old mid new x other none is =
      ⊎_elim (λ (y : (t : TaskId) × (x.error ≡ error.Rejected t) × AddsPath c kind priority t Rejected mid new × GotJob c kind priority job promise mid.number t.0 mid.front new.front × ComesBack t.0 x.job new.front × IsJobOut c mid.number t.0 x.job mid.front new.front). absurd (other y.0 y.1))
      (⊎_elim (λ (y : (t : TaskId) × (x.error ≡ error.TornRecord) × AddsFront keeps c kind priority t mid new × GotJob c kind priority job promise mid.number t.0 mid.front new.front). inr (y.1, (y.0, front_behind c keeps kind priority y.0 old mid new none y.2)))
      (λ (y : Refuses true c ⊤ new (ask.Submit kind priority) x.error × (x.job ≡ Some job) × AddsNone mid new). inl (before_first c new kind priority x.error y.0, none_behind old mid new none y.2)))
      is

pub breaks_off : (keeps : Bool) (c : Config) (old mid new : PassView) (jobs : List JobLine) (n : ℕ) (d : JobLine) (e : PoolError) → n < length jobs → AddsSubmissions c (take n (asked jobs)) old mid →
    IsTorn keeps c (asked_of (get_or jobs n d)) e mid new → BreaksOff keeps c (asked jobs) e old new
breaks_off keeps c old mid new jobs n d e within before torn =
    let ks = asked jobs in
    let k = asked_of (get_or jobs n d) in
    let next : drop n ks ≡ k ∷ drop (suc n) ks =
    drop-cons ks n (asked_of d) (omega (arith, length-map jobs asked_of)) ∙ ap (λ k. k ∷ drop (suc n) ks) (get_or-map asked_of jobs n d (asked_of d) within) in
    (take n ks, k, drop (suc n) ks, mid, sym (take-append-drop n ks) ∙ ap (λ rest. take n ks ++ rest) next, before, torn)
