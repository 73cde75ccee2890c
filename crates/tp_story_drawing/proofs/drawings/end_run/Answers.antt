use Rattle.std.proofs.Common.{◌<◌, length, subst}
use Rattle.tp_story_drawing.proofs.Gathering.{ended_begun}
use Rattle.tp_story_drawing.proofs.drawings.end_run.Goals as goal

pub returns-in-Some : goal.returns-in-Some
returns-in-Some c =
    let within : c.in-Some.i < length c.args.runs.now.items = subst (λ xs. c.in-Some.i < length xs) c.as_slice.ensures.value c.in-Some.ensures in
    ended_begun c.args.runs.now.items c.in-Some.i c.index_mut.result.now c.args.time within c.index_mut.ensures.value
