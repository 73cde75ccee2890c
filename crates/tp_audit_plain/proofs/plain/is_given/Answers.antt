use Rattle.std.proofs.Common.{◌≡◌, Ok, reverse, ap, ◌∙◌, sym}
use Rattle.tp_record.specs.declared.entries.Did.{Did}
use Rattle.tp_record.specs.Effects.{reserves}
use Rattle.tp_record.specs.State.{state}
use Rattle.tp_record.specs.Step.{Answer, step}
use Rattle.std.specs.Prelude.{unwrap_or}
use Rattle.tp_rules.specs.PlainState.{shown}
use Rattle.tp_audit_plain.proofs.Judged.{given_by}
use Rattle.tp_audit_plain.proofs.plain.is_given.Goals as goal

abbrev as_answer : Did → Answer
as_answer d = Ok d

pub returns-then-are_same-clause-given : goal.returns-then-are_same-clause-given
returns-then-are_same-clause-given c =
    let entry = c.args.entry in
    let now = shown c.in_ok-state.state in
    let number : c.unwrap_or.result ≡ unwrap_or (reserves entry.did) 0 = cc (c.unwrap_or.ensures, c.reserved_by.ensures) in
    let same : c.in-Ok.did ≡ entry.did = c.are_same.ensures.0 c.if-are_same.true in
    let answer : step c.args.config.now now (unwrap_or (reserves entry.did) 0) entry.ask ≡ Ok entry.did =
    ap (λ w. step c.args.config.now now w entry.ask) (sym number) ∙ c.in-Ok.ensures ∙ ap (λ (d : Did). as_answer d) same in
    given_by c.args.config.now now (state c.args.config.now (reverse c.args.before.now)) entry c.has_free_number.result
    c.in_ok-state.ensures.state answer c.has_free_number.ensures
