use Rattle.std.proofs.Common.{◌≡◌, length, rules}
use Rattle.std.specs.Prelude.{◌↔◌, IsTrue}
use Rattle.tp_types.specs.RunState.{state_rank}
use Rattle.tp_record.specs.Step.{slot_count}
use Rattle.tp_book.specs.BookView.{state_of}
use Rattle.tp_pool_holds.specs.Left.{IsUnstaffed}
use Rattle.tp_pool_holds.proofs.Moments.{at_some}
use Rattle.tp_pool_holds.proofs.locked.Locked.is_unstaffed.Goals as goal

pub returns-clause-here : goal.returns-clause-here
returns-clause-here g c =
    let s = state_of c.args.self.now.book in
    let ranks : state_rank c.state.result ≡ s.rank = search rules in
    let slots : c.slots.result ≡ slot_count s = search rules in
    let queued : c.counts.result.queued ≡ length s.queue = search rules in
    c.lacks_staff.ensures s ranks slots queued

pub returns-clause-some : goal.returns-clause-some
returns-clause-some g c =
    let s = state_of c.args.self.now.book in
    let ranks : state_rank c.state.result ≡ s.rank = search rules in
    let slots : c.slots.result ≡ slot_count s = search rules in
    let queued : c.counts.result.queued ≡ length s.queue = search rules in
    at_some c.args.self.now.book (g.R.Recorder.terms g.G.PoolNaming.config) c.law_is_book.ensures (λ s. IsTrue c.lacks_staff.result ↔ IsUnstaffed s) (c.lacks_staff.ensures s ranks slots queued)
