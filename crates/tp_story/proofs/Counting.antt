-- Counts are small: they are no more than the entries.
use Rattle.std.proofs.Common.{◌≡◌, ℕ, suc, ◌<◌, ◌≤◌, ◌^◌, Bool, true, false, List, [], ◌∷◌, length, arith, ap, ap₂, sym, ◌++◌, ◌∙◌}
use Rattle.std.specs.Prelude.{Option, Some, None}
use Rattle.tp_types.specs.declared.configs.Config.{Config}
use Rattle.tp_record.specs.declared.entries.Entry.{Entry}
use Rattle.tp_record.specs.declared.entries.Did.{Did}
use Rattle.tp_record.specs.Fields.{rank, queue}
use Rattle.tp_audit.specs.declared.tables.Tables.{Tables}
use Rattle.tp_audit.specs.Tables.{StandsAt}
use Rattle.tp_story.specs.declared.reasons.Reason.{Reason}
use Rattle.tp_story.specs.declared.reasons.Reason.TheVariants.{ShutDown, Full, NoWorker}
use Rattle.tp_story.specs.declared.reasons.Refusals.{Refusals}
use Rattle.tp_story.specs.declared.times.Since.{Since}
use Rattle.tp_story.specs.Since.{latest}
use Rattle.tp_story.specs.declared.spans.Span.{Span}
use Rattle.tp_story.specs.declared.stats.Longest.{Longest}
use Rattle.tp_story.specs.Counted.{Mover, count, with_one, refusals, refused, reason, spans, span_to, longest, longer}

-- an auditor's tables know how many entries it was told
pub told_so_many : (c : Config) (h : List Entry) (t : Tables) → StandsAt c h t → t.steps ≡ length h
told_so_many c h t at = ap (λ s. s.steps) at.shows.kept

pub few : (f : Did → Bool) (h : List Entry) → count f h ≤ length h
few f [] = omega arith
few f (e ∷ h) = let before = few f h in by (f e.did) before
  where
    by : (b : Bool) → count f h ≤ length h → with_one b (count f h) ≤ suc (length h)
    by true before = omega (arith, before)
    by false before = omega (arith, before)

-- no reason was more often than n times
record AreFew (r : Refusals) (n : ℕ) : Type 0 where
  shut_down : r.shut_down ≤ n
  full : r.full ≤ n
  no_worker : r.no_worker ≤ n

few_more : (o : Option Reason) (r : Refusals) (n : ℕ) → AreFew r n → AreFew (refused o r) (suc n)
few_more None r n are = record { shut_down = omega (arith, are.shut_down); full = omega (arith, are.full); no_worker = omega (arith, are.no_worker) }
few_more (Some ShutDown) r n are = record { shut_down = omega (arith, are.shut_down); full = omega (arith, are.full); no_worker = omega (arith, are.no_worker) }
few_more (Some Full) r n are = record { shut_down = omega (arith, are.shut_down); full = omega (arith, are.full); no_worker = omega (arith, are.no_worker) }
few_more (Some NoWorker) r n are = record { shut_down = omega (arith, are.shut_down); full = omega (arith, are.full); no_worker = omega (arith, are.no_worker) }

few_refusals : (h : List Entry) → AreFew (refusals h) (length h)
few_refusals [] = record { shut_down = omega arith; full = omega arith; no_worker = omega arith }
few_refusals (e ∷ h) = few_more (reason (rank (e ∷ h)) e.did) (refusals h) (length h) (few_refusals h)

-- a count goes on with the next entry
pub count_next : (f : Did → Bool) (e : Entry) (h : List Entry) (steps was new : ℕ) → steps ≡ suc (length h) → steps < 2 ^ 32 → was ≡ count f h → (was < 2 ^ 32 → new ≡ with_one (f e.did) was) →
    new ≡ count f (e ∷ h)
count_next f e h steps was new told small is next =
    let before = few f h in
    let within : was < 2 ^ 32 = omega (arith, before, told, small, is) in
    next within ∙ ap (with_one (f e.did)) is

-- and so do the refusals
pub refusals_next : (e : Entry) (h : List Entry) (steps r : ℕ) (was new : Refusals) → steps ≡ suc (length h) → steps < 2 ^ 32 → r ≡ rank (e ∷ h) → was ≡ refusals h →
    (was.shut_down < 2 ^ 32 → was.full < 2 ^ 32 → was.no_worker < 2 ^ 32 → new ≡ refused (reason r e.did) was) → new ≡ refusals (e ∷ h)
refusals_next e h steps r was new told small same is next =
    let are = few_refusals h in
    let one : was.shut_down < 2 ^ 32 = omega (arith, are.shut_down, told, small, ap (λ n. n.shut_down) is) in
    let two : was.full < 2 ^ 32 = omega (arith, are.full, told, small, ap (λ n. n.full) is) in
    let three : was.no_worker < 2 ^ 32 = omega (arith, are.no_worker, told, small, ap (λ n. n.no_worker) is) in
    next one two three ∙ ap (λ n. refused (reason n e.did) was) same ∙ ap (refused (reason (rank (e ∷ h)) e.did)) is

abbrev since_at : ℕ → ℕ → Since
since_at n m = record { number = n; moment = m }

-- the tables know the latest entry
pub latest_in : (c : Config) (h : List Entry) (t : Tables) (s : Since) → StandsAt c h t → s.number ≡ t.steps → s.moment ≡ t.moment → s ≡ latest h
latest_in c h t s at number moment = ap₂ since_at (number ∙ ap (λ s. s.steps) at.shows.kept) (moment ∙ ap (λ s. s.now) at.shows.kept)

-- spans go on with the next entry
pub spans_next : (f : Did → Option Mover) (e : Entry) (h : List Entry) (s : Since) (t : Option Mover) (was mid new : List Span) → s ≡ latest (e ∷ h) → t ≡ f e.did →
    was ≡ spans f h → mid ≡ was → new ≡ mid ++ span_to h s t → new ≡ spans f (e ∷ h)
spans_next f e h s t was mid new here task is same next =
    next ∙ ap (λ l. l ++ span_to h s t) (same ∙ is) ∙ ap (λ o. spans f h ++ span_to h s o) task ∙ ap (λ x. spans f h ++ span_to h x (f e.did)) here

-- and so does the longest queue
pub longest_next : (c d : Config) (e : Entry) (h : List Entry) (tasks n : ℕ) (was new : Longest) → d ≡ c → tasks ≡ length (queue d (e ∷ h)) → n ≡ suc (length h) → was ≡ longest c h →
    new ≡ longer tasks n was → new ≡ longest d (e ∷ h)
longest_next c d e h tasks n was new same there told is next =
    next ∙ ap (longer tasks n) (is ∙ ap (λ x. longest x h) (sym same)) ∙ ap (λ k. longer tasks k (longest d h)) told ∙ ap (λ k. longer k (suc (length h)) (longest d h)) there
