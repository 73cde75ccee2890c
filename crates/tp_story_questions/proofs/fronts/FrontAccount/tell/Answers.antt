use Rattle.std.proofs.Common.{◌≡◌, List, suc, length, subst}
use Rattle.tp_record.specs.declared.entries.Entry.{Entry}
use Rattle.tp_record.specs.State.{state}
use Rattle.tp_record.specs.Step.{Gives, Legal}
use Rattle.tp_story_questions.proofs.fronts.FrontAccount.tell.Goals as goal

pub returns-clause-flaw : goal.returns-clause-flaw
returns-clause-flaw c = λ n same h follows.
    let s = c.args.self.now.judge.config in
    let e = c.args.entry.now in
    let flaw = c.tell.ensures.flaw n same h follows in
    subst (λ (x : List Entry). Legal s x × (n ≡ suc (length x)) × (Gives s (state s x) e.ask e.did → ⊥)) flaw.0 (follows.judged.legal, flaw.1, flaw.2)
