use Rattle.std.proofs.Common.{◌≡◌, ◌≤◌, [], length, refl, ap, sym, ◌∙◌, subst}
use Rattle.std.specs.Prelude.{map}
use Rattle.std.proofs.lemmas.List.{take_all}
use Rattle.tp_audit.specs.Audited.{settings}
use Rattle.tp_story_claims.specs.declared.checks.Watched.{Watched}
use Rattle.tp_story_claims.specs.Checks.{AreWatched, fresh}
use Rattle.tp_story_claims.proofs.Watching.{asked_claims, watched_none}
use Rattle.tp_story_claims.proofs.checks.CheckingAccount.begin.Goals as goal

pub returns-in-Ok-clause-asked : goal.returns-in-Ok-clause-asked
returns-in-Ok-clause-asked c =
    let q = c.args.question.now.items in
    let all : c.loop-claim.claims.items ≡ map fresh q = c.loop-claim.invariant ∙ ap (map fresh) (take_all c.loop-claim.claim-index q (subst (λ xs. length xs ≤ c.loop-claim.claim-index) c.deref-claim-items.ensures.value c.loop-claim-test.false)) in
    ap (map (λ (w : Watched). w.claim)) all ∙ asked_claims q

pub returns-in-Ok-clause-none : goal.returns-in-Ok-clause-none
returns-in-Ok-clause-none c =
    let q = c.args.question.now.items in
    let all : c.loop-claim.claims.items ≡ map fresh q = c.loop-claim.invariant ∙ ap (map fresh) (take_all c.loop-claim.claim-index q (subst (λ xs. length xs ≤ c.loop-claim.claim-index) c.deref-claim-items.ensures.value c.loop-claim-test.false)) in
    record {
      counts = c.in-Ok.ensures.counts;
      fates = c.none.ensures;
      wait = refl;
      busy = refl;
      claims = subst (AreWatched (settings c.in-Ok.stats.judge) []) (sym all) (watched_none (settings c.in-Ok.stats.judge) q);
    }
