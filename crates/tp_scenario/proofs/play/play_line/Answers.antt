use Rattle.std.proofs.Common.{◌≡◌, ◌∙◌, Ok, Err, ap, arith, map, subst}
use Rattle.std.specs.Prelude.{IfOk}
use Rattle.std.proofs.lemmas.Result.{on_ok_weaker}
use Rattle.tp_text.specs.RunText.{drained}
use Rattle.tp_scenario.proofs.PlayLaws.{plays_line}
use Rattle.tp_scenario.proofs.play.play_line.Goals as goal

pub returns-in-Ok-answer-clause-ok : goal.returns-in-Ok-answer-clause-ok
returns-in-Ok-answer-clause-ok g c =
    on_ok_weaker c.entry.result
    (λ written p is counted.
    let tells = c.in-Ok.ensures.tells p is in
    let handed = c.in-Ok.told.handed.items in
    let back = subst (λ x. IfOk x (λ e. map (λ y. y.0.0) handed ≡ drained p.config p.history e.did)) c.in-Ok-answer.is tells.back in
    plays_line g.L.Listener.heard p c.args.step.now c.in-Ok.told (Ok c.in-Ok-answer.entry) c.step.new.self _ c.args.output.now.written.items c.entry.new.self.written.items c.args.listener.now c.hear.new.self
    c.in-Ok-answer.is tells c.in-Ok-hear.ensures (omega (arith, counted))
    (written p.config p.history (omega (arith, counted))
    (ap (map (λ t. t.0)) c.as_slice-in-Ok-answer.ensures.value ∙ c.in-Ok-without_payloads.ensures ∙ ap (map (λ y. y.0.0)) c.as_slice.ensures.value ∙ back)))
    c.entry.ensures.ok

pub returns-clause-ok : goal.returns-clause-ok
returns-clause-ok g c =
    on_ok_weaker c.refusal.result
    (λ written p is counted.
    plays_line g.L.Listener.heard p c.args.step.now c.in-Ok.told (Err c.in-Err.refusal) c.step.new.self c.args.accepted.now c.args.output.now.written.items c.refusal.new.self.written.items c.args.listener.now c.hear.new.self
    c.in-Err.is (c.in-Ok.ensures.tells p is) c.in-Ok-hear.ensures counted written)
    c.refusal.ensures.ok
