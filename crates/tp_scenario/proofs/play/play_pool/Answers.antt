use Rattle.std.proofs.Common.{◌≡◌, ◌∙◌, ap, sym, subst}
use Rattle.std.specs.Prelude.{OnOk}
use Rattle.tp_types.specs.Config.{checked}
use Rattle.tp_text.specs.Pools.{config_of}
use Rattle.tp_scenario.specs.Scenario.{Asked}
use Rattle.tp_scenario.specs.Plays.{HeardLines}
use Rattle.tp_scenario.specs.Answered.{PlaysLines, settings_of}
use Rattle.tp_scenario.proofs.Endings.{comes_ended, comes_lines, comes_memory, comes_of_new, comes_refused}
use Rattle.tp_scenario.proofs.HeardLaws.{heard_lines, heard_memory, heard_new, heard_refused}
use Rattle.tp_scenario.proofs.play.play_pool.Goals as goal

pub returns-in-Err : goal.returns-in-Err
returns-in-Err g c =
    let said = c.first_bad.ensures in
    let asked : Asked = (said.0, c.first_bad.result) in (
      asked,
      said.1,
      comes_refused c.args.pool.now asked c.args.output.now.written.items c.config-config.result c.in-Err.error c.config-config.ensures (sym c.in-Err.ensures.computed) c.requires.empty,
      heard_refused g.L.Listener.heard (config_of c.args.pool.now) c.config-config.result said.0 c.in-Err.error c.args.listener.now c.config-config.ensures (sym c.in-Err.ensures.computed),
    )

pub returns-in-Err-begun : goal.returns-in-Err-begun
returns-in-Err-begun g c =
    let said = c.first_bad-in-Err-begun.ensures in
    let asked : Asked = (said.0, c.first_bad-in-Err-begun.result) in (
      asked,
      said.1,
      comes_of_new c.args.pool.now asked c.args.output.now.written.items c.config-config.result c.in-Err-begun.error c.config-config.ensures c.in_default.ensures.computed c.requires.empty c.in-Err-begun.ensures.refuses,
      heard_new g.L.Listener.heard (config_of c.args.pool.now) c.config-config.result said.0 c.in-Err-begun.error c.begun.new.listener c.config-config.ensures c.in-Err-begun.ensures.refuses,
    )

pub returns-in-Err-default : goal.returns-in-Err-default
returns-in-Err-default g c =
    let d = settings_of c.in-Ok.runner in
    let r = c.play_lines.new.runner in
    let out = c.play_lines.new.output.written.items in
    let made : d ≡ c.config-config.result = c.in-Ok.ensures.starts.config in
    let played = c.play_lines.ensures in
    let asked : Asked = (played.0, c.play_lines.result.1) in
    let lines = subst (λ x. PlaysLines d played.0 x r out) c.in-Err-default.is-0 played.2 in (
      asked,
      played.1,
      comes_memory c.args.pool.now asked out d r c.in-Err-default.error (made ∙ c.config-config.ensures) (c.in_default.ensures.computed ∙ ap checked (sym made)) lines,
      heard_memory g.L.Listener.heard (config_of c.args.pool.now) played.0 c.in-Err-default.error c.play_lines.new.listener lines.0,
    )

pub returns-in-Ok-Some : goal.returns-in-Ok-Some
returns-in-Ok-Some g c =
    let d = settings_of c.in-Ok.runner in
    let r = c.play_lines.new.runner in
    let out = c.play_lines.new.output.written.items in
    let made : d ≡ c.config-config.result = c.in-Ok.ensures.starts.config in
    let played = c.play_lines.ensures in
    let asked : Asked = (played.0, c.play_lines.result.1) in
    let all = subst (λ x. OnOk x (HeardLines g.L.Listener.heard d played.0 c.play_lines.new.listener)) c.in-Ok-Some.is-0 played.3 in (
      asked,
      played.1,
      comes_lines c.args.pool.now asked out d r c.in-Ok-Some.line (made ∙ c.config-config.ensures) (c.in_default.ensures.computed ∙ ap checked (sym made)) c.in-Ok-Some.is-1
          (subst (λ x. PlaysLines d played.0 x r out) c.in-Ok-Some.is-0 played.2),
      heard_lines g.L.Listener.heard (config_of c.args.pool.now) d played.0 _ c.play_lines.new.listener (made ∙ c.config-config.ensures) all,
    )

pub returns : goal.returns
returns g c =
    let d = settings_of c.in-Ok.runner in
    let r = c.play_lines.new.runner in
    let mid = c.play_lines.new.output.written.items in
    let made : d ≡ c.config-config.result = c.in-Ok.ensures.starts.config in
    let played = c.play_lines.ensures in
    let asked : Asked = (played.0, c.play_lines.result.1) in
    let all = subst (λ x. OnOk x (HeardLines g.L.Listener.heard d played.0 c.play_lines.new.listener)) c.in-Ok-None.is-0 played.3 in (
      asked,
      played.1,
      comes_ended c.args.pool.now asked mid c.write_ends.new.output.written.items d r c.write_ends.result (made ∙ c.config-config.ensures) (c.in_default.ensures.computed ∙ ap checked (sym made)) c.in-Ok-None.is-1
          (subst (λ x. PlaysLines d played.0 x r mid) c.in-Ok-None.is-0 played.2) c.write_ends.ensures.ok c.write_ends.ensures.err c.write_ends.ensures.only_memory,
      heard_lines g.L.Listener.heard (config_of c.args.pool.now) d played.0 _ c.play_lines.new.listener (made ∙ c.config-config.ensures) all,
    )
