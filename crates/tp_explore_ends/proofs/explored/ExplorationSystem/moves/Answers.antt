use Rattle.tp_explore.specs.Situation.{seen}
use Rattle.tp_explore.proofs.Lowering.{is_small}
use Rattle.tp_explore_ends.proofs.explored.ExplorationSystem.moves.Goals as goal

pub moves-requires : goal.moves-requires
moves-requires c = is_small c.args.self.now.plan (seen c.args.state.now) c.requires
