-- What a call of a pool adds to its caller's pass.
use Rattle.std.specs.Prelude.{ℕ, Bool, true, false, ◌≡◌, ◌⊎◌, ◌+◌, List, [], ◌∷◌, All, length, Some}
use Rattle.tp_types.specs.declared.configs.Config.{Config}
use Rattle.tp_types.specs.declared.ids.SlotId.{SlotId}
use Rattle.tp_types.specs.declared.refusals.PoolError.{PoolError}
use Rattle.tp_types.specs.declared.refusals.PoolError.TheVariants.{NoMemory, UnknownTask}
use Rattle.tp_record.specs.declared.entries.Entry.{Entry}
use Rattle.tp_record.specs.declared.entries.Ask.{Ask}
use Rattle.tp_record.specs.declared.entries.Ask.TheVariants as ask
use Rattle.tp_record.specs.declared.entries.Did.{Did}
use Rattle.tp_record.specs.declared.entries.Did.TheVariants as did
use Rattle.tp_record.specs.Left.{MayRelease, asked}
use Rattle.tp_record.specs.Lists.{is_among}
use Rattle.tp_record.specs.Step.{Legal}
use Rattle.tp_machine.specs.Steps.{IsRefusedAt}
use Rattle.tp_glance.specs.Word.{IsFrontOf}
use Rattle.tp_book.specs.BookView.{OrReleased}
use Rattle.tp_book.specs.PassView.{PassView, receipts_with}
use Rattle.tp_pool_holds.specs.Moments.{AtFront}

-- the entry of a step that the pass of this number asked for
abbrev pub entry_of : ℕ → Ask → Did → Entry
entry_of by a d = record { by = by; ask = a; did = d }

-- a history goes on to another, and these entries, the oldest first, are among the later ones. Between two holds of a call other
-- threads make steps, so these entries need not stand side by side
abbrev pub Leads : List Entry → List Entry → List Entry → Type 0
Leads before [] after = IsFrontOf before after
Leads before (e ∷ es) after = (h : List Entry) × IsFrontOf before h × Leads (e ∷ h) es after

-- the pass has these receipts more, the oldest first, all of them its own, unless it keeps none, and as many units; and its front
-- goes on by these entries and by those of others, to a history that is legal in the pool's settings
pub record Adds (c : Config) (old : PassView) (steps : List Entry) (new : PassView) : Type 0 where
  pub number : new.number ≡ old.number
  pub keeps : new.keeps ≡ old.keeps
  pub receipts : new.receipts ≡ receipts_with old steps
  pub own : All (λ e. e.by ≡ old.number) steps
  pub amount : new.amount ≡ old.amount + length steps
  pub leads : Leads old.front steps new.front
  pub legal : Legal c new.front

-- it has the receipt of one step more
abbrev pub AddsStep : Config → PassView → Ask → Did → PassView → Type 0
AddsStep c old a d new = Adds c old (entry_of old.number a d ∷ []) new

-- it knows the history with the entry of its step, the last one, and this is so of the history before it
abbrev pub KnowsStep : PassView → Ask → Did → (List Entry → Type 0) → PassView → Type 0
KnowsStep old a d F new = (h : List Entry) × (new.front ≡ entry_of old.number a d ∷ h) × F h

-- it has made no step: at most it knows a later front, and has room for more receipts
abbrev pub AddsNone : PassView → PassView → Type 0
AddsNone old new = (new ≡ record old { front = new.front; released = new.released; room = new.room }) × IsFrontOf old.front new.front

-- it has made no step, and knows the pool's record as it is now, which is legal in the pool's settings
abbrev pub LooksOnly : Config → PassView → PassView → Type 0
LooksOnly c old new = (new ≡ record old { front = new.front; released = new.released }) × IsFrontOf old.front new.front × Legal c new.front

-- how a thread that had a worker made for a slot says whether one was
abbrev pub opening : SlotId → Bool → Ask
opening w true = ask.Open w
opening w false = ask.Fail w

-- the pool released task t, as this pass knows, at whose front the task is gone and owes nothing
abbrev pub WasReleased : Config → PassView → ℕ → Type 0
WasReleased c p t = (is_among t p.released ≡ true) × AtFront c p.front (λ s. MayRelease s t)

-- so it is with the task that the ask names
abbrev pub KnowsReleased : Config → PassView → Ask → Type 0
KnowsReleased c p a = (t : ℕ) × (asked a ≡ Some t) × WasReleased c p t

-- at the front of this pass, legal in these settings, this ask is refused so; or else its task was released, where no record is kept
abbrev pub IsRefusal : Bool → Config → PassView → Ask → PoolError → Type 0
IsRefusal keeps c p a e = OrReleased keeps (AtFront c p.front (λ s. IsRefusedAt c s a e)) ((e ≡ UnknownTask) × KnowsReleased c p a)

-- refused so: for want of memory, which comes only where the call may lack some, or as its step is refused as this pass knows the pool
abbrev pub Refuses : Bool → Config → Type 0 → PassView → Ask → PoolError → Type 0
Refuses keeps c Lacks p a e = ((e ≡ NoMemory) × Lacks) ⊎ IsRefusal keeps c p a e

-- the steps of a pool's end by the pass of this number
abbrev pub tidied : ℕ → Entry
tidied by = entry_of by ask.Tidy did.Tidy

abbrev pub ended : ℕ → Entry
ended by = entry_of by ask.Ended did.Ended
