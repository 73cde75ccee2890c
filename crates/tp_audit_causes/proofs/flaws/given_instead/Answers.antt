use Rattle.std.proofs.Common.{ℕ, Result, Ok, Err, IfErr}
use Rattle.tp_record.specs.State.{state}
use Rattle.tp_audit.specs.Audited.{settings, Judged, IsDenied}
use Rattle.tp_audit_causes.proofs.flaws.given_instead.Goals as goal

-- the number that was asked with is told
numbered : {D E H : Type 0} (J : H → Type 0) (P : H → ℕ → E → Type 0) (w : ℕ) (r : Result D E) → IfErr r (λ e. (h : H) → J h → P h w e) → IfErr r (λ e. (h : H) → J h → (v : ℕ) × P h v e)
numbered J P w (Ok d) none = tt
numbered J P w (Err e) is = λ h at. (w, is h at)

pub returns-clause-refused : goal.returns-clause-refused
returns-clause-refused c =
    let now = c.args.auditor.now in
    numbered (λ h. Judged now h) (λ h w e. IsDenied (settings now) (state (settings now) h) w c.args.entry.now.ask e) c.free_number.result.0 c.answer.result c.answer.ensures.refused
