use Rattle.std.proofs.Common.{Result, Err, reverse, ap, sym, subst, ◌∙◌}
use Rattle.tp_audit_plain.specs.declared.summary.Flaw.{Flaw}
use Rattle.tp_story_claims.specs.Differences.{MeetFlaw}
use Rattle.tp_story_claims.proofs.Following.{flawed, met, next_given, went_on}
use Rattle.tp_story_claims.proofs.differences.follow.Goals as goal

abbrev refused : Flaw → Result (Unit {0}) Flaw
refused f = Err f

pub loop-init : goal.loop-init
loop-init g c = c.requires

pub returns-in-Err-next_of : goal.returns-in-Err-next_of
returns-in-Err-next_of g c =
    met g.A.Source.gave g.B.Source.gave c.loop.first c.next_pair.new.first c.loop.second c.next_pair.new.second c.loop.front c.in-Ok.pair.0 c.in-Ok.pair.1 c.in-Err-next_of.meeting c.loop.invariant.1 c.in-Ok.ensures c.in-Err-next_of.ensures.met

pub returns-in-Err-At : goal.returns-in-Err-At
returns-in-Err-At g c =
    let e = c.in-Ok-next_of.entry in
    let n = c.in-Ok-next_of.ensures.shared in
    let gave = next_given g.A.Source.gave g.B.Source.gave c.loop.first c.next_pair.new.first c.loop.second c.next_pair.new.second c.loop.front c.in-Ok.pair.0 c.in-Ok.pair.1 e c.loop.invariant.1 c.in-Ok.ensures n in
    subst (λ m. MeetFlaw g.A.Source.gave g.B.Source.gave c.next_pair.new.first c.next_pair.new.second c.tell.new.self m e) (sym c.in-Err-At.number-is)
    (flawed g.A.Source.gave g.B.Source.gave c.next_pair.new.first c.next_pair.new.second c.loop.front c.tell.new.self c.in-Err-At.number e n.other gave n.alike c.loop.invariant.0 c.in-Err-At.ensures.settings c.in-Err-At.ensures.same
    (c.in-Err-At.ensures.flaw c.in-Err-At.number (ap refused c.in-Err-At.field-0-is)))

pub loop-preserved : goal.loop-preserved
loop-preserved g c =
    let e = c.in-Ok-next_of.entry in
    let n = c.in-Ok-next_of.ensures.shared in
    let gave = next_given g.A.Source.gave g.B.Source.gave c.loop.first c.next_pair.new.first c.loop.second c.next_pair.new.second c.loop.front c.in-Ok.pair.0 c.in-Ok.pair.1 e c.loop.invariant.1 c.in-Ok.ensures n in (
      c.in-Ok-tell.ensures.until ∙ c.loop.invariant.0,
      went_on g.A.Source.gave g.B.Source.gave c.next_pair.new.first c.next_pair.new.second c.loop.front c.tell.new.self e n.other gave n.alike (c.in-Ok-tell.ensures.told (reverse gave.es)),
    )
