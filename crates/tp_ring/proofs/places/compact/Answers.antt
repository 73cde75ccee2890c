use Rattle.std.proofs.Common.{◌∙◌, ◌<◌, ◌≤◌, length, sym, ap, arith, add-one}
use Rattle.tp_ring.specs.Ring.{living}
use Rattle.tp_ring.proofs.Passes.{passed_none, passed_rest, ring_living, ring_dead, living-lives, full-lives, front-lives, rises-lives}
use Rattle.tp_ring.proofs.places.compact.Goals as goal
use Rattle.tp_ring.proofs.places.compact.Goals.{in-Some+then-item, in-Some+else-item, in_default}

pub loop-i-preserved : goal.loop-i-preserved
loop-i-preserved g c =
    let old = c.args.ring.now in
    let cur = c.loop-i.ring in
    let i = c.loop-i.invariant in
    let more : c.loop-i._i < length old.items = omega (arith, c.loop-i-test.true, c.loop-i.auto._i-end, c.len-i-end.ensures.len) in
    let fits : length old.items ≤ old.capacity = omega (arith, c.len-i-end.ensures.within.0, c.len-i-end.ensures.len) in
    elim c.match-pop_front.branch [
      | in-Some+then-item w ↦
          let front = sym c.pop_front.ensures.value ∙ w.in-Some.is in
          rw (add-one c.loop-i._i) (ring_living old cur c.pop_front.new.self c.match-pop_front.ring c.loop-i._i w.in-Some.item i.0 i.1 more front c.pop_front.ensures.items fits w.if-item.true (w.ring-is ∙ w.push_back.ensures.items))
      | in-Some+else-item w ↦
          let front = sym c.pop_front.ensures.value ∙ w.in-Some.is in
          rw (add-one c.loop-i._i) (ring_dead old cur c.pop_front.new.self c.match-pop_front.ring c.loop-i._i w.in-Some.item i.0 i.1 more front c.pop_front.ensures.items w.if-item.false w.ring-is)
      | in_default w ↦ absurd (passed_none old.items cur.items c.loop-i._i i.0 more (sym c.pop_front.ensures.value ∙ w.in_default.is))
    ]

pub returns-clause-living : goal.returns-clause-living
returns-clause-living g c =
    let all : length c.args.ring.now.items ≤ c.loop-i._i = omega (arith, c.loop-i-test.false, c.loop-i.auto._i-end, c.len-i-end.ensures.len) in
    ap living (passed_rest _ _ _ c.loop-i.invariant.0 all) ∙ living-lives c.args.ring.now.items

pub returns-clause-full : goal.returns-clause-full
returns-clause-full g c =
    let all : length c.args.ring.now.items ≤ c.loop-i._i = omega (arith, c.loop-i-test.false, c.loop-i.auto._i-end, c.len-i-end.ensures.len) in
    ap length (passed_rest _ _ _ c.loop-i.invariant.0 all) ∙ full-lives c.args.ring.now.items

pub returns-clause-rises : goal.returns-clause-rises
returns-clause-rises g c = λ next rises.
    let all : length c.args.ring.now.items ≤ c.loop-i._i = omega (arith, c.loop-i-test.false, c.loop-i.auto._i-end, c.len-i-end.ensures.len) in
    rw (passed_rest _ _ _ c.loop-i.invariant.0 all) (rises-lives 0 c.args.ring.now.items next rises)

pub returns-clause-front : goal.returns-clause-front
returns-clause-front g c =
    let all : length c.args.ring.now.items ≤ c.loop-i._i = omega (arith, c.loop-i-test.false, c.loop-i.auto._i-end, c.len-i-end.ensures.len) in
    rw (passed_rest _ _ _ c.loop-i.invariant.0 all) (front-lives c.args.ring.now.items)
