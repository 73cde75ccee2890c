use Rattle.std.proofs.Common.{sym, ap, ◌∙◌}
use Rattle.tp_record.specs.contracts.entries.DidPartialEq.TheImpl as did_eq
use Rattle.tp_record.specs.contracts.entries.DidEq.TheImpl.Laws.{laws-law}
use Rattle.tp_laws.proofs.Same.{did_same}
use Rattle.tp_audit_plain.proofs.plain.are_same.Goals as goal

pub returns : goal.returns
returns c = (
  (λ holds. did_same _ _ (sym c.eq.ensures ∙ holds)),
  (λ same. c.eq.ensures ∙ ap (λ z. did_eq.ghosts.eq c.args.did z) (sym same) ∙ laws-law.refl c.args.did),
)
