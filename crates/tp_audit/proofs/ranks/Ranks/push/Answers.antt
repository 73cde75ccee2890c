use Rattle.std.proofs.Common.{◌≡◌, ℕ, List, Result, Ok, Err, OnOk, false, is_err, arith, subst}
use Rattle.std.specs.Prelude.{Contains}
use Rattle.tp_ring.specs.Line.{ids}
use Rattle.tp_record.specs.Lists.{put_behind}
use Rattle.tp_audit.specs.Queued.{HaveRanks}
use Rattle.tp_audit.specs.Ranked.{keyed}
use Rattle.tp_audit.proofs.Treed.{kept_put, ranks_put}
use Rattle.tp_audit.proofs.ranks.Ranks.push.Goals as goal

on_success : {A E : Type 0} (r : Result A E) (P : Type 0) → false ≡ is_err r → OnOk r P → P
on_success (Ok a) P none holds = holds
on_success (Err e) P none holds = cc

pub invariant_of-self-2 : goal.invariant_of-self-2
invariant_of-self-2 c =
    let inside = c.self.inside in
    kept_put inside.tasks.entries inside.keys inside.came c.self.invariant c.args.t c.args.rank c.key_of-key.result c.key_of-key.ensures (omega arith)
    c.reserve.new.self c.insert-2.new.self c.insert.new.self.entries (omega arith) c.reserve.ensures.entries (on_success c.insert.result _ c.if-is_err.ensures.value c.insert.ensures.entries)
    (on_success c.insert-2.result _ c.if-is_err-2.ensures.value c.insert-2.ensures.updates)
    (λ there. c.requires (subst (λ (xs : List (ℕ × ℕ)). Contains (ids xs) c.args.t) c.self.view_is there))

pub returns-clause-ok : goal.returns-clause-ok
returns-clause-ok c = λ rank has are.
    let inside = c.self.inside in
    subst (λ (xs : List (ℕ × ℕ)). HaveRanks rank xs → (ids (keyed c.insert.new.self.entries) ≡ put_behind rank c.args.t (ids xs)) × HaveRanks rank (keyed c.insert.new.self.entries)) c.self.view_is
    (ranks_put inside.tasks.entries inside.keys inside.came c.self.invariant c.args.t c.args.rank c.key_of-key.result c.key_of-key.ensures (omega arith)
    rank c.insert.new.self.entries has (on_success c.insert.result _ c.if-is_err.ensures.value c.insert.ensures.entries)) are
