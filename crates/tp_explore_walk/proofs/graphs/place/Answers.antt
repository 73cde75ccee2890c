use Rattle.tp_explore_walk.proofs.Walked.{added_inserted}
use Rattle.tp_explore_walk.proofs.graphs.place.Goals as goal

pub returns : goal.returns
returns g c =
    let p = c.in_ok-at.ensures.stored in
    added_inserted _ _ g.met.S.System.tells c.args.states.now.keys c.insert_full.new.self.keys c.args.state p.0 c.in_ok-at.at c.in_ok-at.ensures.keys p.1 p.2
