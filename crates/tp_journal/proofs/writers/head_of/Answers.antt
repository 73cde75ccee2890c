use Rattle.std.proofs.Common.{◌≡◌, ◌∙◌, ◌-◌, ap, arith, length, take}
use Rattle.std.specs.Prelude.{vec_len}
use Rattle.tp_journal.proofs.Written.{cut_head}
use Rattle.tp_journal.proofs.writers.head_of.Goals as goal

pub returns-in-Ok-clause-text : goal.returns-in-Ok-clause-text
returns-in-Ok-clause-text c =
    let items = c.in-Ok.text.items in
    let counted : vec_len c.in-Ok.text ≡ length items = omega (arith, c.in-Ok.text.ok.0) in
    c.truncate.ensures.items ∙ ap (λ n. take (n - 6) items) (c.len.ensures ∙ counted) ∙ cut_head c.args.config.now items c.in-Ok.ensures.text
