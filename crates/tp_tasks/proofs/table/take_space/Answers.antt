use Rattle.std.proofs.Common.{◌≡◌, ◌++◌, cond, length, sym, ap, subst, ◌∙◌, arith}
use Rattle.tp_tasks.specs.Homes.{IsSize, ArePlaced, AreApart, AreKept, ArePurgeable, AreNoted}
use Rattle.tp_tasks.proofs.table.take_space.Goals as goal

pub invariant_of-tasks : goal.invariant_of-tasks
invariant_of-tasks g c =
    let m = c.args.tasks.now in
    let homes = m.homes.items in
    let spare = c.args.space.now.homes.items in
    let all = sym c.is_ok.ensures.value ∙ c.if-is_ok.true in
    let moved : c.append.new.self.items ≡ homes = c.append.ensures.items ∙ ap (λ b. cond b (spare ++ homes) spare) all ∙ ap (λ xs. xs ++ homes) c.args.space.now.empty in
    let same = sym (ap (λ v. v.items) c.swap.ensures.y_after ∙ moved) in
    record {
      sized = subst (λ hs. IsSize (length hs)) same m.sized;
      placed = subst ArePlaced same m.placed;
      apart = subst (λ hs. AreApart hs m.beside) same m.apart;
      unique = m.unique;
      counted = subst (λ hs. AreKept m.count hs m.beside) same m.counted;
      small = m.small;
      purged = subst (λ hs. ArePurgeable m.purgeable hs m.beside) same m.purged;
      named = subst (λ hs. AreNoted m.noted.items hs m.beside) same m.named;
      roomy = let len = ap length same in let roomy = m.roomy in omega (arith, len, roomy);
    }
