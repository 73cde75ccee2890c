use Rattle.std.proofs.Common.{◌≡◌, ℕ, ◌-◌, Some, length, ap, sym, ◌∙◌, arith}
use Rattle.std.specs.Prelude.{slice_get}
use Rattle.std.specs.Option.{option_to_list}
use Rattle.std.proofs.lemmas.Bool.{false≢true}
use Rattle.std.proofs.lemmas.Option.{slice_get-get_or}
use Rattle.tp_tasks.specs.Table.{task_in}
use Rattle.tp_tasks.proofs.Noted.{among_left}
use Rattle.tp_tasks.proofs.table.drop_last.Goals as goal

pub invariant_of-tasks : goal.invariant_of-tasks
unfolding task_in
invariant_of-tasks g c =
    let m = c.args.tasks.now in
    let kept = c.pop.ensures.capacity in
    let roomy = m.roomy in
    let last : (u : ℕ) → c.pop.result ≡ Some u → slice_get m.noted.items (m.noted.len - 1) ≡ Some u = λ u e.
    let len = c.pop.ensures.len in
    let one = ap (λ r. length (option_to_list r)) e in
    let long = m.noted.ok.0 in
    slice_get-get_or m.noted.items (m.noted.len - 1) u (omega (arith, len, one, long)) ∙ sym (c.pop.ensures.value u (omega (arith, len, one))) ∙ e in
    record {
      sized = m.sized;
      placed = m.placed;
      apart = m.apart;
      unique = m.unique;
      counted = m.counted;
      small = m.small;
      purged = m.purged;
      named = λ u pass. among_left m.noted.items c.pop.new.self.items c.pop.result u c.pop.ensures.items (λ e. false≢true (sym (c.requires u (last u e)) ∙ pass)) (m.named u pass);
      roomy = omega (arith, kept, roomy);
    }
