-- What a claim means, of the numbers that a record tells.
use Rattle.std.specs.Prelude.{ℕ, ◌+◌, ◌-◌, ◌==◌, Bool, true, false, not, ◌&&◌, Option, Some, None, nat_lt, nat_le}
use Rattle.tp_types.specs.RunState.{state_rank}
use Rattle.tp_story_claims.specs.declared.quantities.Quantity.{Quantity}
use Rattle.tp_story_claims.specs.declared.quantities.Quantity.TheVariants as quantity
use Rattle.tp_story_claims.specs.declared.quantities.Seen.{Seen}
use Rattle.tp_story_claims.specs.declared.claims.Relation.{Relation}
use Rattle.tp_story_claims.specs.declared.claims.Relation.TheVariants as relation
use Rattle.tp_story_claims.specs.declared.claims.Terms.{Terms}
use Rattle.tp_story_claims.specs.declared.claims.Claim.{Claim}
use Rattle.tp_story_claims.specs.declared.claims.Claim.TheVariants as claim

-- the tasks that have no fate
abbrev pub open_in : Seen → ℕ
open_in s = s.submitted - s.fates.run - s.fates.caller - s.fates.rejected - s.fates.discarded - s.fates.handedback - s.fates.removed - s.fates.cancelled

-- how great a number is
abbrev pub value : Quantity → Seen → ℕ
value quantity.Submitted s = s.submitted
value quantity.Run s = s.fates.run
value quantity.Caller s = s.fates.caller
value quantity.Rejected s = s.fates.rejected
value quantity.Discarded s = s.fates.discarded
value quantity.HandedBack s = s.fates.handedback
value quantity.Removed s = s.fates.removed
value quantity.Cancelled s = s.fates.cancelled
value quantity.Open s = open_in s
value quantity.Queued s = s.queued
value quantity.Live s = s.live
value quantity.Wait s = s.wait
value quantity.Busy s = s.busy
value quantity.Entries s = s.entries

abbrev pub value_or_zero : Option Quantity → Seen → ℕ
value_or_zero None s = 0
value_or_zero (Some q) s = value q s

-- the sum of a claim's numbers
abbrev pub sum : Terms → Seen → ℕ
sum t s = value t.first s + value_or_zero t.second s + value_or_zero t.third s + value_or_zero t.fourth s

-- how a number is compared with another
abbrev pub relates : Relation → ℕ → ℕ → Bool
relates relation.Equal a b = a == b
relates relation.Unequal a b = not (a == b)
relates relation.Below a b = nat_lt a b
relates relation.AtMost a b = nat_le a b
relates relation.Above a b = nat_lt b a
relates relation.AtLeast a b = nat_le b a

-- a claim holds of these numbers
abbrev pub holds : Claim → Seen → Bool
holds (claim.Sum t r n) s = relates r (sum t s) n
holds (claim.Is x) s = state_rank x == s.rank
holds (claim.IsNot x) s = not (state_rank x == s.rank)

-- no later entry makes it smaller: all but the tasks that have no fate
abbrev pub rises : Quantity → Bool
rises quantity.Open = false
rises _ = true

abbrev pub never_falls : Option Quantity → Bool
never_falls None = true
never_falls (Some q) = rises q

abbrev pub all_rise : Terms → Bool
all_rise t = rises t.first && never_falls t.second && never_falls t.third && never_falls t.fourth

-- a number is so great that neither it nor a greater one is so beside the other
abbrev pub is_beyond : Relation → ℕ → ℕ → Bool
is_beyond relation.Equal a b = nat_lt b a
is_beyond relation.AtMost a b = nat_lt b a
is_beyond relation.Below a b = nat_le b a
is_beyond _ a b = false

-- a claim is breached so that no later entry mends it
abbrev pub is_lost : Claim → Seen → Bool
is_lost (claim.Sum t r n) s = all_rise t && is_beyond r (sum t s) n
is_lost _ s = false
