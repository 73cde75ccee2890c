use Rattle.std.proofs.Common.{◌∷◌, ◌∙◌, ap, ap₂, length}
use Rattle.std.specs.Prelude.{map}
use Rattle.tp_audit.specs.Tables.{shown}
use Rattle.tp_story_claims.specs.declared.checks.Watched.{Watched}
use Rattle.tp_story_claims.specs.Checks.{longer}
use Rattle.tp_story_claims.specs.Fates.{named_in}
use Rattle.tp_story_claims.proofs.Watching.{claims_stay}
use Rattle.tp_story_claims.proofs.Checked.{checked_next}
use Rattle.tp_story_claims.proofs.checks.CheckingAccount.tell.Goals as goal

pub returns-clause-told : goal.returns-clause-told
returns-clause-told c = λ h was.
    let k = c.args.self.now in
    let e = c.args.entry.now in
    let st = c.tell.new.self in
    let told = c.in-Ok.ensures.told h was.counts in
    let before = c.named_in-before.ensures ∙ ap (λ t. named_in (shown t) e.did) c.tables.ensures ∙ ap (λ s. named_in s e.did) was.counts.judged.shows.kept in
    let wait = c.longer-self.ensures ∙ ap₂ (λ xs n. longer k.wait xs n) (c.waits.ensures (e ∷ h) told) (ap length (c.waits-waits.ensures h was.counts)) in
    let busy = c.longer-self-2.ensures ∙ ap₂ (λ xs n. longer k.busy xs n) (c.runs.ensures (e ∷ h) told) (ap length (c.runs-runs.ensures h was.counts)) in
    let claims = c.watch.ensures in
    checked_next k e h st c.in-Ok-fates_after.fates c.longer-self.result c.longer-self-2.result c.watch.new.claims c.named_in-before.result c.seen_in-seen.result was told c.in-Ok.ensures.settings before
    (c.in-Ok-fates_after.ensures.fates (e ∷ h) told) wait busy (c.seen_in-seen.ensures (e ∷ h) told) claims

pub returns-clause-asked : goal.returns-clause-asked
returns-clause-asked c = λ q asked. ap (map (λ (w : Watched). w.claim)) c.watch.ensures ∙ claims_stay c.seen_in-seen.result c.args.self.now.claims.items ∙ asked
