use Rattle.std.proofs.Common.{◌≡◌, rules, refl, subst, sym}
use Rattle.std.specs.Prelude.{IsTrue}
use Rattle.tp_record.specs.declared.entries.Ask.TheVariants as ask
use Rattle.tp_record.specs.declared.entries.Did.TheVariants as did
use Rattle.tp_machine_state.specs.Payloads.{Keeps}
use Rattle.tp_pool_holds.specs.LockedView.{LockedView}
use Rattle.tp_pool_holds.specs.Holds.{Answers}
use Rattle.tp_pool_holds.specs.declared.locked.workers.Taking.TheVariants as taking
use Rattle.tp_pool_holds.proofs.locked.Locked.take.Goals as goal

pub returns-clause-worked : goal.returns-clause-worked
returns-clause-worked g c =
    let t = c.taking_from-taking.result in
    let looked = c.took.ensures.looked in
    let sleeps : t ≡ taking.Sleeps → IsTrue c.eq.result = search rules in
    let mid : LockedView g.row.J.Denot = record { book = c.self.inside.book; roster = c.self.inside.roster; waking = c.self.inside.waking } in (
      mid,
      c.step.result,
      subst (λ (v : LockedView g.row.J.Denot). Answers g.R.Recorder.RECEIPTS c.args.self.now v c.args.pass.now.number (ask.Take c.args.w) (λ x. did.Take c.args.w x) (λ _. Keeps) c.step.result)
          (sym c.self.view_is) (c.step.ensures.holds, c.step.ensures.denies),
      c.taking_from-taking.ensures,
      refl,
      record { over = looked.over; asleep = λ is. looked.asleep (sleeps is); others = looked.others; told = looked.told; kept = looked.kept; waiters = looked.waiters },
    )
