use Rattle.std.proofs.Common.{subst}
use Rattle.tp_scenario.specs.Played.{IsPlayed}
use Rattle.tp_scenario.proofs.HeardLaws.{heard_whole}
use Rattle.poolrun_commands.proofs.Runs.{had_memory, heard_beside, passes_so}
use Rattle.poolrun_commands.proofs.objects.play_as_json.Goals as goal

pub returns-in-Ok-ending : goal.returns-in-Ok-ending
returns-in-Ok-ending g c =
    let p = c.play-played in
    let text = c.args.text.now in
    let whole = heard_whole heard_beside text p.result.output.items p.new.listener (subst (IsPlayed text p.result.output.items) c.in-Ok-ending.is p.ensures.played) (p.ensures.heard (had_memory p.result.ending c.in-Ok-ending.is)) in
    record { passed = passes_so text c.args.playing.is_strict c.passes.result p.new.listener.other.is_whole whole.0 whole.1 whole.2 whole.3.1 c.passes.ensures.each c.passes.ensures.strict }
