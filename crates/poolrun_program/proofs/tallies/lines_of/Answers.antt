use Rattle.std.proofs.Common.{◌++◌, ap, ◌∙◌}
use Rattle.tp_types.specs.declared.states.RunState.TheVariants.{Terminated}
use Rattle.tp_text.specs.EndLines.{state_line, counts_line}
use Rattle.poolrun_program.proofs.tallies.lines_of.Goals as goal

pub returns-clause-text : goal.returns-clause-text
returns-clause-text c =
    c.in_ok-counts.ensures.ok ∙ ap (λ text. text ++ counts_line c.args.counts.now) (c.in_ok-state.ensures.ok ∙ ap (λ text. text ++ state_line Terminated) c.new-output.ensures)
