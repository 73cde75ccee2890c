use Rattle.std.proofs.Common.{sym, subst}
use Rattle.tp_machine_state.specs.Releases.{IsKept}
use Rattle.tp_book.specs.BookView.{Forgets}
use Rattle.tp_book.proofs.Reading.{seen}
use Rattle.tp_book.proofs.Forgetting.{each_left, forgotten}
use Rattle.tp_book.proofs.book.releases.Book+G+P+Tally.release.Goals as goal

pub returns-in-Ok-clause-released : goal.returns-in-Ok-clause-released
returns-in-Ok-clause-released g c =
    subst (λ h. Forgets c.args.self.now (seen c.release.new.self h _ c.self.inside.accounts) c.args.t.0) (sym c.forget.ensures)
    (forgotten _ _ _ c.law_forgets_at_will.ensures.whole
    c.args.self.now c.self.inside.machine c.self.inside.accounts c.self.inside.seat c.self.invariant.0 c.self.view_is
    c.release.new.self c.args.t.0 c.release.ensures.others c.release.ensures.config c.in-Ok.ensures.released)

pub returns-in-Err-clause-refused : goal.returns-in-Err-clause-refused
returns-in-Err-clause-refused g c =
    each_left _ _ _ c.law_forgets_at_will.ensures.whole
    c.args.self.now c.self.inside.machine c.self.inside.accounts c.self.inside.seat c.self.invariant.0 c.self.view_is
    (λ s. IsKept s c.args.t.0 c.in-Err.error) c.in-Err.ensures.refused
