-- Claims beside a record: what is told of each.
use Rattle.std.specs.Prelude.{ℕ, max, ◌≡◌, ◌++◌, ◌&&◌, ◌∷◌, Bool, true, false, List, [], Option, Some, None, codes, length, map, slice_get, is_none, nat_lt, if◌then◌else◌}
use Rattle.std.specs.Fmt.{decimal}
use Rattle.tp_types.specs.declared.configs.Config.{Config}
use Rattle.tp_record.specs.declared.entries.Entry.{Entry}
use Rattle.tp_record.specs.declared.entries.Did.{Did}
use Rattle.tp_record.specs.declared.entries.Did.TheVariants as did
use Rattle.tp_record.specs.Fields.{rank}
use Rattle.tp_record.specs.State.{state, counts}
use Rattle.tp_audit.specs.Audited.{settings}
use Rattle.tp_story.specs.declared.spans.Span.{Span}
use Rattle.tp_story.specs.Counted.{Counts, spans, taken, ended, longest}
use Rattle.tp_story_claims.specs.declared.claims.Claim.{Claim}
use Rattle.tp_story_claims.specs.declared.checks.Watched.{Watched}
use Rattle.tp_story_claims.specs.declared.checks.Checking.{Checking}
use Rattle.tp_story_claims.specs.declared.fates.Fates.{Fates}
use Rattle.tp_story_claims.specs.declared.fates.Named.{Named}
use Rattle.tp_story_claims.specs.declared.quantities.Seen.{Seen}
use Rattle.tp_story_claims.specs.Claims.{holds, is_lost}
use Rattle.tp_story_claims.specs.Fates as fated

-- the longest of some spans, in entries
abbrev pub most : List Span → ℕ
most [] = 0
most (s ∷ ss) = max s.entries (most ss)

-- an entry gives fates to tasks that it does not name
abbrev pub hands_back : Did → Bool
hands_back (did.Stop n) = nat_lt 0 n
hands_back _ = false

-- how many tasks have each fate by the model's counters
abbrev pub fates_at : Config → List Entry → Fates
fates_at c h = fated.of (counts (state c h))

-- how many tasks have each fate after these entries, the last of which did so, where the tasks that it names had these fates before it
-- and so many had each. A stop that hands tasks back is counted by the model's counters
abbrev pub fates_after : Config → List Entry → Did → Named → Fates → Fates
fates_after c h d before n = if hands_back d then fates_at c h else fated.after before (fated.named_in (state c h) d) n

-- how many tasks got each fate, entry by entry
abbrev pub fates_so_far : Config → List Entry → Fates
fates_so_far c [] = fated.none
fates_so_far c (e ∷ h) = fates_after c (e ∷ h) e.did (fated.named_in (state c h) e.did) (fates_so_far c h)

-- what a record tells beside these fates, waits and runs
abbrev pub seen_at : Config → List Entry → Fates → ℕ → ℕ → Seen
seen_at c h fates wait busy =
    record {
      submitted = length (state c h).tasks;
      fates = fates;
      queued = (longest c h).tasks;
      live = (state c h).largest;
      wait = wait;
      busy = busy;
      entries = length h;
      rank = rank h;
    }

-- what a record tells after these entries, the fates counted entry by entry
abbrev pub seen_so_far : Config → List Entry → Seen
seen_so_far c h = seen_at c h (fates_so_far c h) (most (spans taken h)) (most (spans ended h))

-- what a record tells at its end, by the model's counters
abbrev pub seen_of : Config → List Entry → Seen
seen_of c h = seen_at c h (fates_at c h) (most (spans taken h)) (most (spans ended h))

-- a claim of which nothing was told
abbrev pub fresh : Claim → Watched
fresh k = record { claim = k; lost = None }

-- a claim after an entry behind which the record tells these numbers
abbrev pub watched_after : Seen → Watched → Watched
watched_after s w = if is_none w.lost && is_lost w.claim s then record w { lost = Some s.entries } else w

-- a claim after these entries: with the first that breached it for good
abbrev pub watched : Config → Claim → List Entry → Watched
watched c k [] = fresh k
watched c k (e ∷ h) = watched_after (seen_so_far c (e ∷ h)) (watched c k h)

-- each claim is as these entries left it
abbrev pub AreWatched : Config → List Entry → List Watched → Type 0
AreWatched c h [] = Unit {0}
AreWatched c h (w ∷ ws) = (w ≡ watched c w.claim h) × AreWatched c h ws

-- the longer of a time and of the span behind so many others
abbrev pub longer : ℕ → List Span → ℕ → ℕ
longer n ss i = longer_by n (slice_get ss i)
  where
    longer_by : ℕ → Option Span → ℕ
    longer_by n None = n
    longer_by n (Some s) = max n s.entries

-- all claims hold of these numbers
abbrev pub all_hold : List Watched → Seen → Bool
all_hold [] s = true
all_hold (w ∷ ws) s = holds w.claim s && all_hold ws s

-- the line of a claim that is lost at an entry
abbrev pub breach_line : ℕ → List ℕ → List ℕ → List ℕ
breach_line n claim left = codes "breach at entry " ++ (decimal n ++ (codes ": " ++ (claim ++ (codes "; at the end it is " ++ (left ++ codes "\n")))))

-- these claims are watched, in this order
abbrev pub IsAsked : List Claim → Checking → Type 0
IsAsked q k = map (λ (w : Watched). w.claim) k.claims.items ≡ q

-- it was told this history: its numbers are those of the history, and each claim is as the entries left it
pub record IsChecked (k : Checking) (h : List Entry) : Type 0 where
  pub counts : Counts k.stats h
  pub fates : k.fates ≡ fates_so_far (settings k.stats.judge) h
  pub wait : k.wait ≡ most (spans taken h)
  pub busy : k.busy ≡ most (spans ended h)
  pub claims : AreWatched (settings k.stats.judge) h k.claims.items

-- what is asked for is there just where each claim holds of the model's counters at the end
abbrev pub Says : Checking → List Entry → Bool → Type 0
Says k h b = b ≡ all_hold k.claims.items (seen_of (settings k.stats.judge) h)
