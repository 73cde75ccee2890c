use Rattle.std.proofs.Common.{inl, refl}
use Rattle.std.specs.Prelude.{Err}
use Rattle.tp_scenario.proofs.Endings.{played_pool}
use Rattle.tp_scenario.proofs.HeardLaws.{heard_bad, heard_text}
use Rattle.tp_scenario.proofs.play.play_text.Goals as goal

pub returns-in-Ok-clause-played : goal.returns-in-Ok-clause-played
returns-in-Ok-clause-played g c =
    let played = c.play_pool.ensures in
    played_pool c.args.text.now c.play_pool.new.output.written.items c.in-Ok.pool played.0 c.play_pool.result (c.in-Ok.ensures.pool played.0 played.1) played.2

pub returns-in-Ok-clause-heard : goal.returns-in-Ok-clause-heard
returns-in-Ok-clause-heard g c =
    let played = c.play_pool.ensures in
    heard_text g.L.Listener.heard c.args.text.now c.in-Ok.pool played.0 c.play_pool.result c.play_pool.new.listener (c.in-Ok.ensures.pool played.0 played.1) played.3

pub returns-in-Err-clause-played : goal.returns-in-Err-clause-played
returns-in-Err-clause-played g c = inl (Err c.in-Err.line, c.in-Err.ensures.bad, (c.requires.empty, refl))

pub returns-in-Err-clause-heard : goal.returns-in-Err-clause-heard
returns-in-Err-clause-heard g c = λ some. heard_bad g.L.Listener.heard c.args.text.now c.in-Err.line c.args.listener.now c.in-Err.ensures.bad
