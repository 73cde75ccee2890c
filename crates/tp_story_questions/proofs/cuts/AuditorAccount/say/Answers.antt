use Rattle.std.proofs.Common.{◌≡◌, true, ◌∙◌, rules, ap, sym, subst, length}
use Rattle.tp_audit.specs.Audited.{settings}
use Rattle.tp_story.proofs.Cutting.{counted}
use Rattle.tp_story_questions.specs.Saying.{SaysCut, cut_text}
use Rattle.tp_story_questions.proofs.cuts.AuditorAccount.say.Goals.{in-Words+in_ok-text-in-Words, in-Json+in_ok-text-in-Json}
use Rattle.tp_story_questions.proofs.cuts.AuditorAccount.say.Goals as goal

pub returns-clause-said : goal.returns-clause-said
returns-clause-said c = λ h judged.
    let a = c.args.self.now in
    let out = c.into_bytes.result.items in
    let steps : c.tables.result.now.steps ≡ length h = ap (λ t. t.steps) c.tables.ensures ∙ counted (settings a) h a.tables judged in
    elim c.match-form.branch [
      | in-Words+in_ok-text-in-Words w ↦
          let is : out ≡ cut_text c.tables.result.now.steps c.in-Ok.summary = search rules in
          subst (λ f. SaysCut a h f out true) (sym w.in-Words.is) (c.in-Ok.summary, c.in-Ok.ensures.summary h judged, is ∙ ap (λ n. cut_text n c.in-Ok.summary) steps)
      | in-Json+in_ok-text-in-Json w ↦ subst (λ f. SaysCut a h f out true) (sym w.in-Json.is) tt
    ]
