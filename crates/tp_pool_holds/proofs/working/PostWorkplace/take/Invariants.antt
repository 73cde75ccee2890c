use Rattle.std.proofs.Common.{◌≡◌}
use Rattle.tp_pool_holds.specs.Steps.{taking_of}
use Rattle.tp_pool_holds.specs.Deeds.{Takes}
use Rattle.tp_pool_holds.proofs.working.PostWorkplace.take.Given as goal

abbrev pub invariant-loop : goal.invariant-loop
invariant-loop g l =
    (goal.iterator-loop g).can_next l.iterator' × (goal.iterator-loop g).is_finite l.iterator'
    × (l.self.w ≡ l.fn.self.w) × (l.self.pass.number ≡ l.fn.self.pass.number) × (l.self.heir ≡ l.fn.self.heir)
    × Takes g.row.J.Denot g.K.Recorder.RECEIPTS (g.K.Recorder.terms g.G.PoolNaming.config) l.fn.self.pass.number l.fn.self.pass.front l.fn.self.w l.self.pass.front (λ r. l.taking ≡ taking_of r)
