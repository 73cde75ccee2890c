-- What a check knows, as one more entry is told.
use Rattle.std.proofs.Common.{◌≡◌, ℕ, List, ◌∷◌, length, sym, ap, ap₂, ◌∙◌, subst}
use Rattle.std.specs.Prelude.{map}
use Rattle.std.specs.declared.alloc.Global.{Global}
use Rattle.std.specs.declared.vec.Vec.{Vec}
use Rattle.tp_record.specs.declared.entries.Entry.{Entry}
use Rattle.tp_record.specs.State.{state}
use Rattle.tp_audit.specs.Audited.{settings}
use Rattle.tp_story.specs.Counted.{Counting, Counts, ended, spans, taken}
use Rattle.tp_story_claims.specs.declared.checks.Checking.{Checking}
use Rattle.tp_story_claims.specs.declared.checks.Watched.{Watched}
use Rattle.tp_story_claims.specs.declared.fates.Fates.{Fates}
use Rattle.tp_story_claims.specs.declared.fates.Named.{Named}
use Rattle.tp_story_claims.specs.declared.quantities.Seen.{Seen}
use Rattle.tp_story_claims.specs.Checks.{AreWatched, IsChecked, fates_after, fates_so_far, longer, most, seen_at, seen_so_far, watched_after}
use Rattle.tp_story_claims.specs.Fates.{named_in}
use Rattle.tp_story_claims.proofs.Spanning.{longest_next}
use Rattle.tp_story_claims.proofs.Watching.{watched_next}

pub checked_next : (k : Checking) (e : Entry) (h : List Entry) (st : Counting) (f : Fates) (wait busy : ℕ) (cs : Vec Watched Global) (before : Named) (seen : Seen) → IsChecked k h → Counts st (e ∷ h) → settings st.judge ≡ settings k.stats.judge
    → before ≡ named_in (state (settings k.stats.judge) h) e.did
    → f ≡ fates_after (settings st.judge) (e ∷ h) e.did before k.fates
    → wait ≡ longer k.wait (spans taken (e ∷ h)) (length (spans taken h))
    → busy ≡ longer k.busy (spans ended (e ∷ h)) (length (spans ended h))
    → seen ≡ seen_at (settings st.judge) (e ∷ h) f wait busy
    → cs.items ≡ map (watched_after seen) k.claims.items
    → IsChecked (record { stats = st; fates = f; wait = wait; busy = busy; claims = cs }) (e ∷ h)
checked_next k e h st f wait busy cs before seen was told set named fates waits runs sees claims =
    let c = settings st.judge in
    let fates_are : f ≡ fates_so_far c (e ∷ h) =
    fates ∙ ap₂ (λ x y. fates_after c (e ∷ h) e.did x y) (named ∙ ap (λ x. named_in (state x h) e.did) (sym set)) (was.fates ∙ ap (λ x. fates_so_far x h) (sym set)) in
    let wait_is : wait ≡ most (spans taken (e ∷ h)) = waits ∙ longest_next taken e h k.wait was.wait in
    let busy_is : busy ≡ most (spans ended (e ∷ h)) = runs ∙ longest_next ended e h k.busy was.busy in
    let seen_is : seen ≡ seen_so_far c (e ∷ h) =
    sees ∙ ap (λ x. seen_at c (e ∷ h) x wait busy) fates_are ∙ ap₂ (λ x y. seen_at c (e ∷ h) (fates_so_far c (e ∷ h)) x y) wait_is busy_is in
    record {
      counts = told;
      fates = fates_are;
      wait = wait_is;
      busy = busy_is;
      claims =
          subst (AreWatched c (e ∷ h)) (sym (claims ∙ ap (λ x. map (watched_after x) k.claims.items) seen_is))
          (watched_next c e h k.claims.items (subst (λ x. AreWatched x h k.claims.items) (sym set) was.claims));
    }
