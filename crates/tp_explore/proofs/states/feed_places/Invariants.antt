use Rattle.std.proofs.Common.{◌≡◌, fold, take}
use Rattle.std.specs.List.{flat_map}
use Rattle.tp_types.specs.contracts.tasks.PlaceHash.TheImpl as place_hash
use Rattle.tp_explore.proofs.states.feed_places.Given as goal

abbrev pub invariant-loop-task : goal.invariant-loop-task
invariant-loop-task g l = l.state ≡ fold g.H.Hasher.write l.fn.state (flat_map (λ r. place_hash.ghosts.hash_input r.place) (take l.task-index l.tasks))
