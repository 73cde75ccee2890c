use Rattle.std.proofs.Common.{◌≡◌, ◌<◌, [], ◌∷◌, length, get_or, ap, sym, ◌∙◌}
use Rattle.std.proofs.lemmas.List.Elements.{Contains-get_or}
use Rattle.tp_types.specs.declared.tasks.Kind.TheVariants.{Plain}
use Rattle.tp_record.specs.declared.entries.Ask.TheVariants.{Submit}
use Rattle.tp_explore.specs.declared.deeds.NextAsk.{NextAsk}
use Rattle.tp_explore.specs.declared.deeds.Mover.TheVariants.{Caller}
use Rattle.tp_explore.specs.Moves as spec
use Rattle.tp_explore.specs.Situation.{seen}
use Rattle.tp_explore.proofs.Lists.{is_move, moves_each, moves_none, moves_some}
use Rattle.tp_explore.proofs.moves.moves.Goals as goal
use Rattle.tp_explore.proofs.moves.moves.Goals.{in-None, in-Some+in_ok-push-in-Some}

pub loop-deed-preserved : goal.loop-deed-preserved
loop-deed-preserved c =
    let plan = c.args.plan.now in
    let s = seen c.args.state.now in
    let ds = spec.deeds plan s in
    let i = c.loop-deed.deed-index in
    let first : NextAsk = record { by = Caller 0; ask = Submit Plain 0 } in
    let all : c.deref-deed-items.result.now ≡ ds = c.deref-deed-items.ensures.value ∙ c.in_ok-deeds.ensures in
    let lt : i < length ds = rw all at c.loop-deed-test.true in
    let made : spec.moved c.in_ok-made.field-0 ≡ spec.made plan s (get_or ds i first) = rw all at c.in_ok-made.ensures.after in
    let old = c.loop-deed.invariant in
    elim c.match-branch-3.branch [
      | in-None w ↦
          let none : [] ≡ spec.made plan s (get_or ds i first) = ap spec.moved (sym w.in-None.is) ∙ made in
          rw w.moves-is (record { after = moves_none plan s ds i first lt c.loop-deed.moves.items old.after none; each = old.each })
      | in-Some+in_ok-push-in-Some w ↦
          let m = w.in-Some.made in
          let one : seen m.after ∷ [] ≡ spec.made plan s (get_or ds i first) = ap spec.moved (sym w.in-Some.is) ∙ made in
          let answered = rw (all, w.in-Some.is) at c.in_ok-made.ensures.answer in
          let is = is_move plan s (get_or ds i first) m (Contains-get_or ds i first lt) one answered in
          rw (w.moves-is, w.in_ok-push-in-Some.ensures.items) (record {
            after = moves_some plan s ds i first lt c.loop-deed.moves.items old.after m one;
            each = moves_each plan s c.loop-deed.moves.items m old.each is;
          })
    ]
