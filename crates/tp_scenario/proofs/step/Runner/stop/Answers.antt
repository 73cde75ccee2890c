use Rattle.std.proofs.Common.{◌≡◌, [], None, length, map, sym, subst, append-nil}
use Rattle.tp_record.specs.declared.entries.Ask.TheVariants as ask
use Rattle.tp_record.specs.declared.entries.Did.TheVariants as did
use Rattle.tp_record.specs.Fields.{queue}
use Rattle.tp_scenario.specs.Answered.{IsAt, Running, notes}
use Rattle.tp_machine.proofs.Making.{not_torn}
use Rattle.tp_scenario.proofs.StepLaws.{accepted, denied}
use Rattle.tp_scenario.proofs.step.Runner.stop.Goals.{in-Ok, in-Err}
use Rattle.tp_scenario.proofs.step.Runner.stop.Goals as goal

pub returns : goal.returns
returns c = λ p is.
    let m = c.self.inside.machine in
    let n = c.make.new.machine in
    let os = c.self.inside.outcomes.items in
    let at : IsAt (record { machine = m; outcomes = os }) p = subst (λ (r : Running). IsAt r p) (sym c.self.view_is) is in
    elim c.match-make.branch [
      | in-Ok w ↦ let back = w.in-Ok.handed in rw (w.result-is, w.did-did.ensures) (accepted m n os p at os None ask.Stop (did.Stop (length back.items)) back w.in-Ok.ensures.step (sym (append-nil os))
          (subst (λ k. map (λ x. x.0.0) back.items ≡ queue k p.history) at.config (w.in-Ok.ensures.says p.history [] at.at).0))
      | in-Err w ↦ rw w.result-is (denied m n os p at None ask.Stop w.in-Err.error _ w.in-Err.ensures.unchanged (not_torn notes m ask.Stop w.in-Err.error tt w.in-Err.ensures.refused))
    ]
