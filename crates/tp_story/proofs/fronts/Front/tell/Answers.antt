use Rattle.std.proofs.Common.{◌≡◌, ◌∙◌, ◌∷◌, suc, length, ap, sym, subst}
use Rattle.tp_record.specs.State.{state}
use Rattle.tp_record.specs.Step.{Gives}
use Rattle.tp_audit.specs.Audited.{settings}
use Rattle.tp_audit.specs.Tables.{StandsAt}
use Rattle.tp_story.specs.Fronts.{Followed, Follows, first_of, is_full}
use Rattle.tp_story.proofs.Cutting.{all_of, counted, grows, times_grow}
use Rattle.tp_story.proofs.fronts.Front.tell.Goals as goal

pub returns-clause-told : goal.returns-clause-told
returns-clause-told c = λ h follows.
    let inside = c.self.inside in
    let e = c.args.entry.now in
    let front = first_of inside.until h in
    let at = subst (λ (f : Followed). Follows f h) (sym c.self.view_is) follows in
    let reached = subst (λ (f : Followed). c.is_reached.result ≡ is_full f.until f.judge.tables.steps) (sym c.self.view_is) c.is_reached.ensures in
    let short = sym reached ∙ c.if-is_reached.false in
    let next = c.in-Ok.ensures.told front at.judged in
    let noted = c.note.ensures.noted c.push.new.self.config front (subst (λ t. StandsAt c.push.new.self.config (e ∷ front) t) (sym c.tables.ensures) next) (c.reserve.ensures.same front at.timed) in
    record {
      config = at.config ∙ sym c.in-Ok.ensures.settings;
      judged = grows inside.auditor.config c.push.new.self.config inside.until inside.auditor.tables c.push.new.self.tables e h at.judged short next;
      timed = times_grow inside.auditor.config inside.until inside.auditor.tables e h c.note.new.self at.judged short noted;
    }

pub returns-in-Err-clause-flaw : goal.returns-in-Err-clause-flaw
returns-in-Err-clause-flaw c = λ n same h follows.
    let inside = c.self.inside in
    let front = first_of inside.until h in
    let at = subst (λ (f : Followed). Follows f h) (sym c.self.view_is) follows in
    let reached = subst (λ (f : Followed). c.is_reached.result ≡ is_full f.until f.judge.tables.steps) (sym c.self.view_is) c.is_reached.ensures in
    let short = ap (is_full inside.until) (sym (counted inside.auditor.config front inside.auditor.tables at.judged)) ∙ sym reached ∙ c.if-is_reached.false in
    let flaw = c.in-Err.ensures.flaw n same front at.judged in
    let e = c.args.entry.now in
    subst (λ (f : Followed). (first_of f.until h ≡ h) × (n ≡ suc (length (first_of f.until h))) × (Gives (settings f.judge) (state (settings f.judge) (first_of f.until h)) e.ask e.did → ⊥)) c.self.view_is
    (all_of inside.until h short, flaw.0, flaw.1)
