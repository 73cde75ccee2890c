use Rattle.std.proofs.Common.{◌≡◌, map, take}
use Rattle.tp_record.specs.declared.entries.Ask.TheVariants as ask
use Rattle.tp_explore.proofs.deeds.judge.Given as goal

abbrev pub invariant-loop-verdict : goal.invariant-loop-verdict
invariant-loop-verdict l = l.asks.items ≡ map (λ r. ask.Verdict l.t r) (take l.verdict-index l.verdicts)
