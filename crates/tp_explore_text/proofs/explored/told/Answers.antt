use Rattle.std.proofs.Common.{map, refl, sym, ◌∙◌}
use Rattle.std.proofs.lemmas.Slice.Zip.{AllZip-long}
use Rattle.tp_explore_walk.specs.Moves.{IsAt}
use Rattle.tp_explore_walk.specs.Paths.{Tells}
use Rattle.tp_explore.specs.Moves as spec
use Rattle.tp_explore.specs.Situation.{seen}
use Rattle.tp_explore.proofs.Starting.{starts_holds}
use Rattle.tp_explore_text.proofs.Told.{told-all}
use Rattle.tp_explore_text.proofs.explored.told.Goals as goal

pub count_ends-requires : goal.count_ends-requires
count_ends-requires c = let plan = c.args.named.exploration.plan in (spec.starts plan, starts_holds plan c.requires.fit, c.requires.walked)

pub ends_of-requires-clause-beside : goal.ends_of-requires-clause-beside
ends_of-requires-clause-beside c =
    let plan = c.args.named.exploration.plan in
    let xs = map seen c.args.graph.states.items in
    let paths = c.in_ok-counts.ensures (spec.starts plan) c.requires.walked.begins in
    let a = AllZip-long Tells c.in_ok-counts.counts.items paths.numbers paths.told in
    let b = AllZip-long (IsAt xs) c.args.graph.ends.items paths.states paths.at_ends in
    rw c.as_slice-2.ensures.value (sym a ∙ paths.beside ∙ b)

pub returns : goal.returns
returns c =
    let plan = c.args.named.exploration.plan in
    let labels = c.args.named.labels.items in
    let graph = c.args.graph in
    let paths = c.in_ok-counts.ensures (spec.starts plan) c.requires.walked.begins in
    let ends = rw (c.as_slice.ensures.value, c.as_slice-2.ensures.value) at (c.in_ok-ends.ensures paths.states paths.numbers) in (
      refl,
      record {
        walked = c.requires.walked;
        legal = c.requires.legal;
        within = c.requires.within;
        told = told-all plan labels (map seen graph.states.items) (map (λ row. row.items) graph.moves.items) graph.ends.items c.in_ok-counts.counts.items c.in_ok-ends.ends.items c.requires.walked paths (ends paths.at_ends paths.told);
      },
    )
