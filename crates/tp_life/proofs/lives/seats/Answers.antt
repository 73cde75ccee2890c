use Rattle.std.proofs.Common.{◌≡◌, ◌≤◌, ap, ◌∙◌, sym, subst, arith}
use Rattle.tp_life.specs.Lived.{IsNewPass}
use Rattle.tp_life.proofs.Parts.{each_pushed, new_pass}
use Rattle.tp_life.proofs.lives.seats.Goals as goal

pub loop-who-init : goal.loop-who-init
loop-who-init g c =
    let same = c.reserve.ensures.same in (
      c.in_ok-reserve.ensures.room,
      omega (arith, c.new-seated.ensures.len),
      omega (arith),
      ap (λ p. p.front) same ∙ c.requires.new.0,
      ap (λ p. p.released) same ∙ c.requires.new.1,
      λ i d below. absurd (omega (arith, below, c.new-seated.ensures.len)),
    )

pub loop-who-preserved : goal.loop-who-preserved
loop-who-preserved g c =
    let keeps = g.K.Recorder.RECEIPTS in
    let first = c.loop-who.first in
    let seated = c.loop-who.seated.items in
    let kept = c.loop-who.invariant in
    let same = c.split_pass.ensures.same in
    let made = c.in-Ok.ensures.new in
    let new = new_pass keeps c.in-Ok.pass made.is.book.accounts.made first.front first.released made.is.holds kept.3 kept.4 in (
      subst (λ p. 4 ≤ p.room) (sym same) kept.0,
      omega (arith, c.in_ok-push.ensures.len, kept.1),
      omega (arith, c.loop-who-test.true),
      ap (λ p. p.front) same ∙ kept.3,
      ap (λ p. p.released) same ∙ kept.4,
      each_pushed (λ n k. (k.who ≡ n) × IsNewPass keeps k.seat.pass) seated _ _ c.in_ok-push.ensures.items kept.5 (sym kept.1, new),
    )
