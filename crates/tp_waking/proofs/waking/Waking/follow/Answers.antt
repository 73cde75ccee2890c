use Rattle.std.proofs.Common.{rules}
use Rattle.tp_waking.proofs.Telling.{told-trans}
use Rattle.tp_waking.proofs.waking.Waking.follow.Goals as goal

pub returns-clause-follows : goal.returns-clause-follows
returns-clause-follows c =
    let leaving = c.call_leaving.ensures in
    let settle = c.settle.ensures.told in
    let hear = c.hear.ensures.told in record {
      told = told-trans _ _ _ (told-trans _ _ _ (told-trans _ _ _ c.call_for.ensures.told leaving.told) settle) hear;
      hand = λ t w is. hear.awake w.0 (settle.awake w.0 (leaving.told.awake w.0 (c.call_for.ensures.hand t w is)));
      leaves = λ w is. hear.awake w.0 (settle.awake w.0 (leaving.up w is));
      all = λ ends v. hear.awake v (settle.awake v (leaving.told.awake v (c.call_for.ensures.all ends v)));
      heard = search rules;
    }
