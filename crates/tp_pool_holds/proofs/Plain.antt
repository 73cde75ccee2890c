-- A plain task is never cancelled.
use Rattle.std.proofs.Common.{◌≡◌, ℕ, suc, ◌<◌, ◌≤◌, Bool, true, false, List, [], ◌∷◌, ◌++◌, refl, arith, sym, ap, subst, ◌∙◌, true≢false}
use Rattle.std.specs.Prelude.{◌==◌, Some, None, unwrap_or, if◌then◌else◌}
use Rattle.std.proofs.lemmas.Bool.{eqb-true, eq-eqb}
use Rattle.tp_types.specs.declared.configs.Config.{Config}
use Rattle.tp_types.specs.declared.ids.TaskId.{TaskId}
use Rattle.tp_types.specs.declared.tasks.Kind.TheVariants as kinds
use Rattle.tp_record.specs.declared.entries.Did.{Did}
use Rattle.tp_record.specs.declared.entries.Did.TheVariants as did
use Rattle.tp_record.specs.declared.entries.Entry.{Entry}
use Rattle.tp_record.specs.declared.entries.Looked.{Looked}
use Rattle.tp_record.specs.Effects.{cancels, is_plain, kinds_said, is_submit}
use Rattle.tp_record.specs.Fields.{is_cancelled, kind, submitted}
use Rattle.tp_record.specs.Lists.{said_of}
use Rattle.tp_record.specs.Step.{Legal}
use Rattle.tp_laws.proofs.Model.Given.{Given, Told}
use Rattle.tp_laws.proofs.Model.Told.{told_legal}
use Rattle.tp_glance.specs.Word.{IsFrontOf}

module _ (c : Config) where
  off : (h : List Entry) (t : ℕ) (d : Did) → Given c h d → (is_cancelled h t ≡ true → is_plain (kind h t) ≡ false) →
      unwrap_or (said_of t (cancels d)) (is_cancelled h t) ≡ true → is_plain (unwrap_or (said_of t (kinds_said d)) (kind h t)) ≡ false
  off h t (did.Submit u k p l) given before is = first (t == u.0) (is_cancelled h t) before is
    where
      first : (b o : Bool) → (o ≡ true → is_plain (kind h t) ≡ false) → unwrap_or (if b then Some false else None) o ≡ true → is_plain (unwrap_or (if b then Some k else None) (kind h t)) ≡ false
      first true o before is = absurd (true≢false (sym is))
      first false o before is = before is
  off h t (did.Cancel u flag true) given before is = by (t == u.0) refl is
    where
      by : (b : Bool) → (t == u.0) ≡ b → unwrap_or (if b then Some true else None) (is_cancelled h t) ≡ true → is_plain (kind h t) ≡ false
      by true same is = subst (λ x. is_plain (kind h x) ≡ false) (sym (eqb-true t u.0 same)) given.1
      by false same is = before is
  off h t (did.Cancel u flag false) given before is = before is
  off h t _ given before is = before is

  cancelled_other : (h : List Entry) → Told c h → (t : ℕ) → is_cancelled h t ≡ true → is_plain (kind h t) ≡ false
  cancelled_other [] told t is = absurd (true≢false (sym is))
  cancelled_other (e ∷ h) told t is = off h t e.did told.0 (cancelled_other h told.1 t) is

  -- the kind of a task that was submitted stays
  stays : (h : List Entry) (t : ℕ) (d : Did) → Given c h d → t < submitted h → unwrap_or (said_of t (kinds_said d)) (kind h t) ≡ kind h t
  stays h t (did.Submit u k p l) given known = by (t == u.0) refl
    where
      by : (b : Bool) → (t == u.0) ≡ b → unwrap_or (if b then Some k else None) (kind h t) ≡ kind h t
      by true same = let is = eqb-true t u.0 same in let new = given.0 in absurd (omega (arith, is, new, known))
      by false same = refl
  stays h t _ given known = refl

  grows : (b : Bool) (n : ℕ) → n ≤ (if b then suc n else n)
  grows true n = omega arith
  grows false n = omega arith

  kind_on : (f later : List Entry) → Told c (later ++ f) → (t : ℕ) → t < submitted f → (kind (later ++ f) t ≡ kind f t) × (submitted f ≤ submitted (later ++ f))
  kind_on f [] told t known = (refl, omega arith)
  kind_on f (e ∷ later) told t known =
      let on = kind_on f later told.1 t known in
      let more = grows (is_submit e.did) (submitted (later ++ f)) in
      let least = on.1 in
      (stays (later ++ f) t e.did told.0 (omega (arith, known, least)) ∙ on.0, omega (arith, least, more))

  -- a task that is plain at a front is not cancelled at a history that goes on from it
  pub plain_spared : (f h : List Entry) → IsFrontOf f h → Legal c h → (t : ℕ) → t < submitted f → is_plain (kind f t) ≡ true → is_cancelled h t ≡ false
  plain_spared f h on legal t known plain = by (is_cancelled h t) refl
    where
      by : (b : Bool) → is_cancelled h t ≡ b → b ≡ false
      by false is = refl
      by true is =
          let told = told_legal c h legal in
          let same : kind h t ≡ kind f t = ap (λ x. kind x t) on.goes_on ∙ (kind_on f on.later (subst (λ x. Told c x) on.goes_on told) t known).0 in
          absurd (true≢false (sym plain ∙ sym (ap is_plain same) ∙ cancelled_other h told t is))

  -- a front is told as the history is
  told_front : (f later : List Entry) → Told c (later ++ f) → Told c f
  told_front f [] told = told
  told_front f (e ∷ later) told = told_front f later told.1

  -- what the last entry of a front submits as a plain task is not cancelled later
  pub submitted_plain : (e : Entry) (f h : List Entry) → IsFrontOf (e ∷ f) h → Legal c h → (t : TaskId) (priority : ℕ) (look : Looked) → e.did ≡ did.Submit t kinds.Plain priority look → is_cancelled h t.0 ≡ false
  submitted_plain e f h on legal t priority look is =
      let told : Told c (e ∷ f) = told_front (e ∷ f) on.later (subst (λ x. Told c x) on.goes_on (told_legal c h legal)) in
      let new = subst (λ d. Given c f d) is told.0 in
      let number = new.0 in
      let same : (t.0 == t.0) ≡ true = eq-eqb t.0 t.0 refl in
      let kept : is_plain (kind (e ∷ f) t.0) ≡ true =
      ap (λ d. is_plain (unwrap_or (said_of t.0 (kinds_said d)) (kind f t.0))) is ∙ ap (λ b. is_plain (unwrap_or (if b then Some kinds.Plain else None) (kind f t.0))) same in
      let count : submitted (e ∷ f) ≡ suc (submitted f) = ap (λ d. if is_submit d then suc (submitted f) else submitted f) is in
      plain_spared (e ∷ f) h on legal t.0 (omega (arith, number, count)) kept
