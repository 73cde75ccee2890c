-- What a submission answers.
use Rattle.std.proofs.Common.{◌≡◌, ℕ, ◌<◌, Bool, true, false, cond, List, None, Ok, Err, refl, arith, ap, ◌∙◌}
use Rattle.std.specs.Prelude.{◌^◌, ◌-◌, ◌||◌, length, nat_lt, is_none, unwrap_or, IfSome}
use Rattle.std.proofs.lemmas.Bool.{lt-ltb, ltb-true}
use Rattle.tp_record.specs.Left.{mark}
use Rattle.tp_types.specs.declared.configs.Config.{Config}
use Rattle.tp_types.specs.declared.ids.TaskId.{TaskId}
use Rattle.tp_types.specs.declared.tasks.Kind.{Kind}
use Rattle.tp_types.specs.declared.refusals.PoolError.TheVariants.{BookFull}
use Rattle.tp_record.specs.declared.entries.Entry.{Entry}
use Rattle.tp_record.specs.declared.entries.Ask.TheVariants as ask
use Rattle.tp_record.specs.declared.entries.Did.TheVariants as did
use Rattle.tp_record.specs.declared.entries.Looked.{Looked}
use Rattle.tp_record.specs.declared.entries.Looked.TheVariants as looked
use Rattle.tp_record.specs.Effects.{reserved_looked}
use Rattle.tp_record.specs.State.{State, state, slot_at}
use Rattle.tp_record.specs.Step.{Legal, look, slot_count, fitting}
use Rattle.tp_laws.proofs.Model.Given.{Given}
use Rattle.tp_tasks.specs.Tasks.{submissions}
use Rattle.tp_laws.specs.View.{View, Effect}
use Rattle.tp_laws.proofs.Effects.Submitters.Submit.{submit_reserve, submit_queue, submit_refuse}
use Rattle.tp_machine_state.specs.declared.parts.Parts.{Parts}
use Rattle.tp_machine_state.specs.Shows.{Shows}
use Rattle.tp_machine_state.specs.Steps.{Stands, Fits}
use Rattle.tp_machine_state.specs.Terms.{terms}
use Rattle.tp_machine_submitters.specs.Owed.{rise_of}

-- a look answers by two tests, and reserves the number that it is told
pub look_again : (s : State) (n : ℕ) → look s (unwrap_or (reserved_looked (look s n)) 0) ≡ look s n
look_again s n = again (nat_lt 0 s.rank) (nat_lt (slot_count s) s.core)
  where
    again : (a b : Bool) → cond a looked.Refuse (cond b (looked.Reserve (record { 0 = unwrap_or (reserved_looked (cond a looked.Refuse (cond b (looked.Reserve (record { 0 = n })) looked.Queue))) 0 })) looked.Queue)
        ≡ cond a looked.Refuse (cond b (looked.Reserve (record { 0 = n })) looked.Queue)
    again true b = refl
    again false true = refl
    again false false = refl

-- what a submission owes does not depend on that number
pub same_rise : (s : State) (n w : ℕ) → rise_of (look s w) ≡ rise_of (look s n)
same_rise s n w = by (nat_lt 0 s.rank) (nat_lt (slot_count s) s.core)
  where
    by : (a b : Bool) → rise_of (cond a looked.Refuse (cond b (looked.Reserve (record { 0 = w })) looked.Queue)) ≡ rise_of (cond a looked.Refuse (cond b (looked.Reserve (record { 0 = n })) looked.Queue))
    by true b = refl
    by false true = refl
    by false false = refl

-- a free number is free for the slot that a look reserves under it
pub look_free : (s : State) (w : ℕ) → slot_at s.slots w ≡ None → IfSome (reserved_looked (look s w)) (λ v. (is_none (slot_at s.slots v) || false) ≡ true)
look_free s w free = by (nat_lt 0 s.rank) (nat_lt (slot_count s) s.core)
  where
    by : (a b : Bool) → IfSome (reserved_looked (cond a looked.Refuse (cond b (looked.Reserve (record { 0 = w })) looked.Queue))) (λ v. (is_none (slot_at s.slots v) || false) ≡ true)
    by true b = tt
    by false true = ap (λ o. is_none o || false) free
    by false false = tt

-- what is owed rises with a submission
pub submit_moves : (c : Config) (h : List Entry) (t : TaskId) (k : Kind) (r : ℕ) (l : Looked) → Legal c h → Given c h (did.Submit t k r l) → (v : View) × Effect (state c h) (did.Submit t k r l) v 0 (rise_of l)
submit_moves c h t k r (looked.Reserve w) legal given = (_, submit_reserve c h t k r w legal given)
submit_moves c h t k r looked.Queue legal given = (_, submit_queue c h t k r legal given)
submit_moves c h t k r looked.Refuse legal given = (_, submit_refuse c h t k r legal given)

-- a submission fits where a number is left, and gets the next one
pub submit_fits : {P : Type 0} (p : Parts P) → submissions p.tasks < 2 ^ 32 - 1 → (k : Kind) (r : ℕ) (h : List Entry) (rs : List ℕ) → Shows p (mark rs (state (terms p) h)) → (w : ℕ) →
    fitting (terms p) (mark rs (state (terms p) h)) w (ask.Submit k r) ≡ Ok (did.Submit (record { 0 = submissions p.tasks }) k r (look (mark rs (state (terms p) h)) w))
submit_fits p few k r h rs sh w =
    let s = mark rs (state (terms p) h) in
    let counted = sh.seen.submitted in
    let below : nat_lt (length s.tasks) (2 ^ 32 - 1) ≡ true = lt-ltb _ _ (omega (arith, few, counted)) in
    ap (λ b. cond b (Ok (did.Submit (record { 0 = length s.tasks }) k r (look s w))) (Err BookFull)) below ∙ ap (λ n. Ok (did.Submit (record { 0 = n }) k r (look s w))) sh.seen.submitted

-- a number is left
pub few_left : (n m : ℕ) → n ≡ m → m < 2 ^ 32 → (n ≡ 4294967295 → ⊥) → m < 2 ^ 32 - 1
few_left n m same small other = omega (arith, same, small, other)

-- one that fits has a number
pub few_fits : {P : Type 0} (p : Parts P) → Stands p → (k : Kind) (r : ℕ) (t : TaskId) (l : Looked) → Fits p (ask.Submit k r) (did.Submit t k r l) → submissions p.tasks < 2 ^ 32 - 1
few_fits p stands k r t l fits = by (nat_lt (length s.tasks) (2 ^ 32 - 1)) refl (fits stands.history stands.released stands.legal stands.may stands.shows).0
  where
    s : State
    s = mark stands.released (state (terms p) stands.history)

    by : (b : Bool) → nat_lt (length s.tasks) (2 ^ 32 - 1) ≡ b → cond b (Ok (did.Submit (record { 0 = length s.tasks }) k r (look s (unwrap_or (reserved_looked l) 0)))) (Err BookFull) ≡ Ok (did.Submit t k r l) → submissions p.tasks < 2 ^ 32 - 1
    by true is fit = let below = ltb-true _ _ is in let counted = stands.shows.seen.submitted in omega (arith, below, counted)
    by false is fit = absurd (let no : ⊥ = cc in no)
