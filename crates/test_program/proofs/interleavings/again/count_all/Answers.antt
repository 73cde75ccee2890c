use Rattle.std.proofs.Common.{◌≡◌, List, [], Some, get_or, map, sym, subst}
use Rattle.std.specs.List.{All, Contains}
use Rattle.std.proofs.lemmas.List.{get_or-map, length-map}
use Rattle.std.proofs.lemmas.List.Elements.{All-append, All-cons, All-contains, All-nil, All-pop, Contains-get_or}
use Rattle.tp_explore_walk.proofs.Places.{contained, mapped_at}
use Rattle.tp_explore.specs.declared.plans.Plan.{Plan}
use Rattle.tp_explore.specs.declared.states.State.{State}
use Rattle.tp_explore.specs.Moves as spec
use Rattle.tp_explore.specs.Moves.{Holds}
use Rattle.tp_explore.specs.Situation.{Situation, seen}
use Rattle.tp_explore.proofs.Lowering.{stays_in}
use Rattle.tp_explore_text.specs.declared.explored.Explored.{Explored}
use Rattle.tp_explore_text.specs.Explored.{IsExplored}
use Rattle.test_program.proofs.interleavings.again.count_all.Goals as goal

first_holds : (e : Explored) → IsExplored e → Holds e.named.exploration.plan (spec.starts e.named.exploration.plan)
first_holds e x =
    let plan = e.named.exploration.plan in
    let p = mapped_at seen e.graph.states.items 0 _ x.walked.begins in
    subst (Holds plan) p.2 (All-contains (λ s. Holds plan (seen s)) e.graph.states.items p.0 x.legal (contained e.graph.states.items 0 p.0 p.1))

next_hold : (plan : Plan) (z : Situation) (ns : List State) → Holds plan z → map seen ns ≡ spec.moves plan z → All (λ s. Holds plan (seen s)) ns
next_hold plan z ns h is = λ k d lt.
    let c : Contains (map seen ns) (get_or (map seen ns) k (seen d)) = Contains-get_or (map seen ns) k (seen d) (rw length-map lt) in
    let there : Contains (spec.moves plan z) (seen (get_or ns k d)) = subst (λ xs. Contains xs (seen (get_or ns k d))) is (subst (Contains (map seen ns)) (get_or-map seen ns k d (seen d) lt) c) in
    stays_in plan z (seen (get_or ns k d)) h there

pub loop-turn-init : goal.loop-turn-init
loop-turn-init c =
    let e = c.args.explored.now in
    let plan = e.named.exploration.plan in
    let begun : Holds plan (seen c.in_ok-begin.begin) = subst (Holds plan) (sym c.in_ok-begin.ensures) (first_holds e c.requires) in
    rw (c.in_ok-push.ensures.items, c.new-open.ensures.items) (All-cons (λ s. Holds plan (seen s)) c.in_ok-begin.begin [] begun (All-nil (λ s. Holds plan (seen s))))

pub moves-requires : goal.moves-requires
moves-requires c =
    let plan = c.args.explored.now.named.exploration.plan in
    (All-pop (λ s. Holds plan (seen s)) c.loop-turn.open.items c.pop.new.self.items (Some c.in-Some.state) c.in-Some.ensures.items c.loop-turn.invariant).1

pub loop-turn-preserved : goal.loop-turn-preserved
loop-turn-preserved c =
    let plan = c.args.explored.now.named.exploration.plan in
    let p = All-pop (λ s. Holds plan (seen s)) c.loop-turn.open.items c.pop.new.self.items (Some c.in-Some.state) c.in-Some.ensures.items c.loop-turn.invariant in
    let next = next_hold plan (seen c.in-Some.state) c.in_ok-next.next.items p.1 c.in_ok-next.ensures in
    rw c.in_ok-append.ensures.items (All-append (λ s. Holds plan (seen s)) c.pop.new.self.items c.in_ok-next.next.items p.0 next)
