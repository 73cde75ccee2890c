-- Where the slots of a table have small numbers, so have those that a step names.
use Rattle.std.proofs.Common.{arith, ◌≡◌, ℕ, ◌^◌, ◌<◌, List, ◌∷◌, Option, Some, None, ap, sym, subst, refl, inl, inr}
use Rattle.std.proofs.lemmas.Bool.{eq-eqb}
use Rattle.std.specs.Prelude.{is_some, IfSome, IsSome}
use Rattle.std.proofs.lemmas.Bool.Decides.{nat_tests}
use Rattle.tp_types.specs.declared.configs.Config.{Config}
use Rattle.tp_types.specs.declared.ids.SlotId.{SlotId}
use Rattle.tp_types.specs.declared.ids.TaskId.{TaskId}
use Rattle.tp_record.specs.declared.entries.Entry.{Entry}
use Rattle.tp_record.specs.declared.entries.Did.{Did}
use Rattle.tp_record.specs.declared.entries.Did.TheVariants as did
use Rattle.tp_record.specs.declared.entries.Looked.{Looked}
use Rattle.tp_record.specs.declared.entries.Looked.TheVariants as looked
use Rattle.tp_record.specs.declared.entries.Offered.TheVariants as offered
use Rattle.tp_record.specs.declared.entries.Opened.{Opened}
use Rattle.tp_record.specs.declared.entries.Opened.TheVariants as opened
use Rattle.tp_record.specs.declared.entries.Failed.{Failed}
use Rattle.tp_record.specs.declared.entries.Failed.TheVariants as failed
use Rattle.tp_record.specs.declared.entries.Took.{Took}
use Rattle.tp_record.specs.declared.entries.Took.TheVariants as took
use Rattle.tp_record.specs.declared.entries.Started.{Started}
use Rattle.tp_record.specs.declared.entries.Started.TheVariants as started
use Rattle.tp_record.specs.declared.rows.Stage.{Stage}
use Rattle.tp_record.specs.Effects.{reserves, reserved_looked, reserved_option}
use Rattle.tp_record.specs.Fields.{slot_row}
use Rattle.tp_record.specs.Packed.{HasSmallLook, HasSmallReserve, HasSmallSlots}
use Rattle.tp_laws.specs.Reserved.{TakesNext}
use Rattle.tp_laws.proofs.Model.Given.{Given, HasRow, ReservedWith, Waits}

-- a number that a packed entry has room for
abbrev pub IsSmall : ℕ → Type 0
IsSmall w = w < 2 ^ 16

-- each slot has such a number
abbrev pub AreSmall : List Entry → Type 0
AreSmall h = (w : ℕ) → IsSome (slot_row h w) → IsSmall w

small_look : (l : Looked) → IfSome (reserved_looked l) IsSmall → HasSmallLook l
small_look (looked.Reserve w) few = few
small_look looked.Queue few = tt
small_look looked.Refuse few = tt

small_reserve : (o : Option SlotId) → IfSome (reserved_option o) IsSmall → HasSmallReserve o
small_reserve None few = tt
small_reserve (Some w) few = few

module _ (c : Config) (h : List Entry) (small : AreSmall h) where
  row_small : (w : ℕ) (s : Stage) (t : Option TaskId) → HasRow h w s t → IsSmall w
  row_small w s t row = small w (ap is_some row)

  waits_small : (w : ℕ) → Waits h w → IsSmall w
  waits_small w (inl row) = row_small w _ _ row
  waits_small w (inr idle) = row_small w _ _ idle.1

  reserved_small : (w : ℕ) (t : TaskId) → ReservedWith h w t → IsSmall w
  reserved_small w t (inl row) = row_small w _ _ row
  reserved_small w t (inr row) = row_small w _ _ row

  open_small : (w : SlotId) (o : Opened) → Given c h (did.Open w o) → IsSmall w.0
  open_small w opened.Live (inl bare) = row_small w.0 _ _ bare.0
  open_small w opened.Live (inr held) = reserved_small w.0 held.0 held.1
  open_small w opened.GivenUp given = row_small w.0 _ _ given.0
  open_small w (opened.GivenUpRefuse t) given = reserved_small w.0 t given.0

  fail_small : (w : SlotId) (f : Failed) → Given c h (did.Fail w f) → IsSmall w.0
  fail_small w failed.Nothing given = row_small w.0 _ _ given
  fail_small w (failed.Offer t) given = row_small w.0 _ _ given.0
  fail_small w (failed.Refuse t) (inl row, there) = row_small w.0 _ _ row
  fail_small w (failed.Refuse t) (inr row, there) = row_small w.0 _ _ row.0

  take_small : (w : SlotId) (k : Took) → Given c h (did.Take w k) → IsSmall w.0
  take_small w (took.Held t) given = row_small w.0 _ _ given.0
  take_small w (took.Head t) given = waits_small w.0 given.0
  take_small w took.Leave given = waits_small w.0 given.0
  take_small w took.Idle given = row_small w.0 _ _ given.0

  begin_small : (w : SlotId) (b : Started) → Given c h (did.Begin w b) → IsSmall w.0
  begin_small w (started.Run t) given = row_small w.0 _ _ given.0
  begin_small w (started.Skip t) given = row_small w.0 _ _ given.0

  pub leave_small : (w : SlotId) (o : Option SlotId) → Given c h (did.Leave w o) → IsSmall w.0
  leave_small w None given = row_small w.0 _ _ given.0
  leave_small w (Some v) given = row_small w.0 _ _ given.0

  -- an entry that says what it does of the history names such slots, where the one that it reserves is such a one
  pub small_given : (d : Did) → Given c h d → IfSome (reserves d) IsSmall → HasSmallSlots d
  small_given (did.Submit t k p l) given few = small_look l few
  small_given (did.Offer t (offered.Hand w)) given few = row_small w.0 _ _ given.3.1
  small_given (did.Open w o) given few = open_small w o given
  small_given (did.Fail w f) given few = fail_small w f given
  small_given (did.Take w k) given few = take_small w k given
  small_given (did.Begin w b) given few = begin_small w b given
  small_given (did.End w t o) given few = row_small w.0 _ _ given.0
  small_given (did.Leave w o) given few = (leave_small w o given, small_reserve o few)
  small_given _ given few = grind (arith, nat_tests)

  number_small : (n : ℕ) → IsSmall n → (o : Option ℕ) → IfSome o (λ w. w ≡ n) → IfSome o IsSmall
  number_small n few None is = tt
  number_small n few (Some w) is = subst IsSmall (sym is) few

  own_small : (w : SlotId) (o : Option SlotId) → IsSmall w.0 → IfSome o (λ v. v ≡ w) → IfSome (reserved_option o) IsSmall
  own_small w None few is = tt
  own_small w (Some v) few is = subst (λ (x : SlotId). IsSmall x.0) (sym is) few

  -- a slot that it reserves has such a number where the next one has
  pub reserved_few : (n : ℕ) → IsSmall n → (d : Did) → Given c h d → TakesNext n d → IfSome (reserves d) IsSmall
  reserved_few n few (did.Leave w o) given is = own_small w o (leave_small w o given) is
  reserved_few n few (did.Submit t k p l) given is = number_small n few (reserved_looked l) is
  reserved_few n few _ given is = grind (arith, nat_tests)

-- a slot that an entry reserves is one after it
reserved_row : (h : List Entry) (e : Entry) (w : ℕ) → reserves e.did ≡ Some w → IsSome (slot_row (e ∷ h) w)
reserved_row h e w is = rw (is, eq-eqb w w refl) refl

-- so does an entry that is given, where the slots before it and after it are such
pub small_between : (c : Config) (h : List Entry) (e : Entry) → AreSmall h → AreSmall (e ∷ h) → Given c h e.did → HasSmallSlots e.did
small_between c h e before after given = small_given c h before e.did given (by (reserves e.did) refl)
  where
    by : (o : Option ℕ) → reserves e.did ≡ o → IfSome o IsSmall
    by None is = tt
    by (Some w) is = after w (reserved_row h e w is)
