-- What starts of workers add to their caller's pass.
use Rattle.std.specs.Prelude.{ℕ, Bool, true, false, ◌==◌, ◌≡◌, ◌⊎◌, ◌<◌, List, [], ◌∷◌, ◌++◌, length, flat_map, Option, Some, None}
use Rattle.tp_types.specs.declared.configs.Config.{Config}
use Rattle.tp_types.specs.declared.ids.SlotId.{SlotId}
use Rattle.tp_record.specs.declared.entries.Ask.TheVariants as ask
use Rattle.tp_record.specs.declared.entries.Did.{Did}
use Rattle.tp_record.specs.declared.entries.Did.TheVariants as did
use Rattle.tp_record.specs.declared.entries.Entry.{Entry}
use Rattle.tp_record.specs.declared.entries.Opened.TheVariants as opened
use Rattle.tp_book.specs.PassView.{PassView}
use Rattle.tp_pool_holds.specs.Moments.{AtFront}
use Rattle.tp_pool_holds.specs.Passes.{Adds, entry_of, opening}
use Rattle.tp_pool_holds.specs.Endings.{IsBarred}

-- a prestart, and the slot that it reserved
abbrev pub prestarted : ℕ → Option SlotId → Entry
prestarted by w = entry_of by ask.Prestart (did.Prestart w)

-- a worker was made for this slot, and its opening answered that it lives
abbrev pub is_live : SlotId → Bool → Did → Bool
is_live w true (did.Open v opened.Live) = v.0 == w.0
is_live w _ _ = false

-- the entries of one prestart: none is needed, or a slot is reserved, whose opening is refused at this history; and whether a worker lives
abbrev pub IsPrestart : Config → ℕ → List Entry → Bool → List Entry → Type 0
IsPrestart c by steps live history =
    ((steps ≡ prestarted by None ∷ []) × (live ≡ false))
    ⊎ ((w : SlotId) × (staffed : Bool) × (steps ≡ prestarted by (Some w) ∷ []) × (live ≡ false) × IsBarred c history (opening w staffed))
    ⊎ ((w : SlotId) × (staffed : Bool) × (d : Did) × (steps ≡ prestarted by (Some w) ∷ entry_of by (opening w staffed) d ∷ []) × (live ≡ is_live w staffed d))

-- the pass has the receipts of one prestart
abbrev pub AddsPrestart : Config → PassView → Bool → PassView → Type 0
AddsPrestart c old live new = (steps : List Entry) × IsPrestart c old.number steps live new.front × Adds c old steps new

-- the entries of a prestart whose worker lives
abbrev pub live_start : ℕ → SlotId → List Entry
live_start by w = prestarted by (Some w) ∷ entry_of by (ask.Open w) (did.Open w opened.Live) ∷ []

-- no more is started: at this history the pool refuses a prestart
abbrev pub IsRefusedMore : Config → List Entry → Type 0
IsRefusedMore c history = IsBarred c history ask.Prestart

-- no more is started for queued tasks: at this history none is queued, or the pool refuses a prestart
abbrev pub IsServed : Config → List Entry → Type 0
IsServed c history = AtFront c history (λ s. length s.queue ≡ 0) ⊎ IsBarred c history ask.Prestart

-- the entries of at most so many prestarts: of so many workers that live, and at last of one that does not; or of all, or of fewer where no more is to be started
abbrev pub IsStarts : Config → (List Entry → Type 0) → ℕ → ℕ → List Entry → ℕ → List Entry → Type 0
IsStarts c Stops by most steps live history = (ws : List SlotId) × (last : List Entry) × (length ws ≡ live) × (steps ≡ flat_map (live_start by) ws ++ last)
    × (((last ≡ []) × (live ≡ most)) ⊎ ((last ≡ []) × (live < most) × Stops history) ⊎ (IsPrestart c by last false history × (live < most)))

-- the pass has the receipts of these steps, and then of at most so many prestarts
abbrev pub AddsStarts : Config → (List Entry → Type 0) → ℕ → List Entry → PassView → ℕ → PassView → Type 0
AddsStarts c Stops most first old live new = (steps : List Entry) × IsStarts c Stops old.number most steps live new.front × Adds c old (first ++ steps) new
