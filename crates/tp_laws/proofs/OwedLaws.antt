-- The laws of what is owed and of the room for it.
use Rattle.std.proofs.Common.{◌≡◌, ◌≢◌, ℕ, suc, ◌+◌, ◌≤◌, ◌⊎◌, cond, Bool, true, false, List, [], ◌∷◌, Option, Some, None, Ok, Err, refl, arith, sym, ap, ◌∙◌, subst, inl, inr}
use Rattle.std.specs.Prelude.{IfSome, ◌&&◌}
use Rattle.std.proofs.lemmas.Bool.{le-leb}
use Rattle.std.proofs.lemmas.Bool.Decides.{nat_tests}
use Rattle.tp_types.specs.declared.configs.Config.{Config}
use Rattle.tp_types.specs.declared.configs.Verdict.{Verdict}
use Rattle.tp_types.specs.declared.configs.Verdict.TheVariants as verdict
use Rattle.tp_types.specs.declared.ids.TaskId.{TaskId}
use Rattle.tp_types.specs.declared.refusals.PoolError.TheVariants.{BookFull}
use Rattle.tp_record.specs.declared.entries.Entry.{Entry}
use Rattle.tp_record.specs.declared.entries.Ask.{Ask}
use Rattle.tp_record.specs.declared.entries.Ask.TheVariants as ask
use Rattle.tp_record.specs.declared.entries.Did.{Did}
use Rattle.tp_record.specs.declared.entries.Did.TheVariants as did
use Rattle.tp_record.specs.declared.entries.Ruled.{Ruled}
use Rattle.tp_record.specs.declared.entries.Ruled.TheVariants as ruled
use Rattle.tp_record.specs.declared.rows.TaskRow.{TaskRow}
use Rattle.tp_record.specs.Effects.{reserves}
use Rattle.tp_record.specs.Fields.{rank}
use Rattle.tp_record.specs.State.{State, state, next, due, task_at}
use Rattle.tp_record.specs.Step.{Answer, fitting, within_room, leaves_room, is_free_for, retry_of, rule, is_refused_place, allows, IsFreeTo, is_known}
use Rattle.tp_laws.specs.Room.{lowers, is_owed, RoomIsEnough, OwedFalls, EntriesLower, NeverShortOfRoom, RoomChangesNoAnswer}
use Rattle.tp_laws.proofs.Model.Weak.{has_room, given}
use Rattle.tp_laws.proofs.Model.NextState.{fits_answer, state-more, next_is_state}
use Rattle.tp_laws.proofs.Model.Functions.{free_asked, own_asked}
use Rattle.tp_laws.proofs.Model.Given.{Given}
use Rattle.tp_laws.proofs.Model.Keystone.{IsSound}
use Rattle.tp_laws.proofs.Model.Told.{given_answer, given_legal, sound_legal}
use Rattle.tp_laws.proofs.Owed.{falls_named}
use Rattle.tp_laws.proofs.OwedNamed.{entry_falls}

-- the record of a legal history has room for all that is owed after it
pub room_is_enough : RoomIsEnough
room_is_enough c [] least legal = omega (arith, least)
room_is_enough c (e ∷ h) least legal =
    let room = has_room c (state c h) _ e.did legal.0.0 in
    let same : due (state c (e ∷ h)) ≡ due (next (state c h) e.did) = ap due (next_is_state c h e legal.1 legal.0) in
    omega (arith, room, same)

-- an entry lowers what is owed, where what is given of it holds
owed_told : (c : Config) (e : Entry) (h : List Entry) → Given c h e.did → IsSound h → lowers (rank h) e.did ≡ true → suc (due (state c (e ∷ h))) ≤ due (state c h)
owed_told c e h given sound low = falls_named c e h given sound low (entry_falls c e.by e.ask h e.did given low)

-- an entry of a legal record that does what is owed lowers it
pub entries_lower : EntriesLower
entries_lower c e h legal low = owed_told c e h (given_legal c h e.ask e.did legal.1 legal.0) (sound_legal c h legal.1) low

-- so does each that fits after a legal record, whatever the room
pub owed_falls : OwedFalls
owed_falls c h w a d legal is free low =
    let e : Entry = record { by = 0; ask = a; did = d } in
    let same : due (state c (e ∷ h)) ≡ due (next (state c h) d) = ap due (state-more c e h (fits_answer c h w a d legal is)) in
    let falls = owed_told c e h (given_answer c h w a d (sound_legal c h legal) is free) (sound_legal c h legal) low in
    omega (arith, same, falls)

-- The answers to an ask for what is owed

-- an entry that does what is owed, or a refusal for another reason than room
abbrev is_fair : ℕ → Answer → Bool
is_fair n (Ok d) = lowers n d
is_fair n (Err BookFull) = false
is_fair n (Err e) = true

-- the entry does what is owed, or is a retry that leaves room
abbrev IsRoomy : Config → State → Did → Type 0
IsRoomy c s d = (lowers s.rank d ≡ true) ⊎ (leaves_room c s d ≡ true)

-- an answer to an ask for what is owed: such an entry, or a refusal for another reason than room
abbrev IsFair : Config → State → Answer → Type 0
IsFair c s (Ok d) = IsRoomy c s d
IsFair c s (Err e) = e ≢ BookFull

-- an answer by a test is fair where both are
fair_if : (c : Config) (s : State) (b : Bool) (x y : Answer) → IsFair c s x → IsFair c s y → IsFair c s (cond b x y)
fair_if c s true x y this that = this
fair_if c s false x y this that = that

-- so is a verdict by a test
ruled_by : (c : Config) (s : State) (t : TaskId) (v : Verdict) (b : Bool) (r q : Ruled) → IsRoomy c s (did.Verdict t v r) → IsRoomy c s (did.Verdict t v q) → IsRoomy c s (did.Verdict t v (cond b r q))
ruled_by c s t v true r q this that = this
ruled_by c s t v false r q this that = that

-- a retry is given only where it leaves room
retried_fair : (c : Config) (s : State) (t : TaskId) (r : Ruled) (b : Bool) → leaves_room c s (did.Verdict t verdict.DiscardOldest r) ≡ b →
    IsRoomy c s (did.Verdict t verdict.DiscardOldest (cond b r ruled.Discarded))
retried_fair c s t r true room = inr room
retried_fair c s t r false room = inl refl

-- each verdict does what is owed, or is a retry that leaves room
rule_fair : (c : Config) (s : State) (t : TaskId) (r : TaskRow) (v : Verdict) → IsRoomy c s (did.Verdict t v (rule c s t r v))
rule_fair c s t r verdict.Abort = inl refl
rule_fair c s t r verdict.Discard = inl refl
rule_fair c s t r verdict.CallerRuns =
    ruled_by c s t verdict.CallerRuns _ ruled.Discarded _ (inl refl) (ruled_by c s t verdict.CallerRuns r.cancelled ruled.Skip ruled.Caller (inl refl) (inl refl))
rule_fair c s t r verdict.DiscardOldest =
    ruled_by c s t verdict.DiscardOldest _ ruled.Discarded _ (inl refl) (retried_fair c s t (retry_of s.queue) (leaves_room c s (did.Verdict t verdict.DiscardOldest (retry_of s.queue))) refl)

-- an ask for a verdict is answered fairly
verdict_fair : (c : Config) (s : State) (w : ℕ) (t : TaskId) (v : Verdict) → IsFair c s (fitting c s w (ask.Verdict t v))
verdict_fair c s w t v =
    fair_if c s (is_known s t.0) _ _
    (fair_if c s (is_refused_place (task_at s t.0).place && allows c.policy v) _ _ (rule_fair c s t (task_at s t.0) v) (λ is. absurd (grind arith)))
    (λ is. absurd (grind arith))

-- an answer that is fair by its test is fair
fair : (c : Config) (s : State) (x : Answer) → is_fair s.rank x ≡ true → IsFair c s x
fair c s (Ok d) is = inl is
fair c s (Err e) is = λ full. absurd (grind arith)

-- each ask for what is owed is answered fairly
owed_fair : (c : Config) (s : State) (w : ℕ) (a : Ask) → is_owed s.rank a ≡ true → IsFair c s (fitting c s w a)
owed_fair c s w (ask.Look t) owed = fair c s (fitting c s w (ask.Look t)) (grind (arith, nat_tests))
owed_fair c s w (ask.Offer t) owed = fair c s (fitting c s w (ask.Offer t)) (grind (arith, nat_tests))
owed_fair c s w (ask.Second t) owed = fair c s (fitting c s w (ask.Second t)) (grind (arith, nat_tests))
owed_fair c s w (ask.Grow t) owed = fair c s (fitting c s w (ask.Grow t)) (grind (arith, nat_tests))
owed_fair c s w (ask.Verdict t v) owed = verdict_fair c s w t v
owed_fair c s w (ask.CallerEnd t o) owed = fair c s (fitting c s w (ask.CallerEnd t o)) (grind (arith, nat_tests))
owed_fair c s w (ask.Open v) owed = fair c s (fitting c s w (ask.Open v)) (grind (arith, nat_tests))
owed_fair c s w (ask.Fail v) owed = fair c s (fitting c s w (ask.Fail v)) (grind (arith, nat_tests))
owed_fair c s w (ask.Take v) owed = fair c s (fitting c s w (ask.Take v)) (grind (arith, nat_tests))
owed_fair c s w (ask.Begin v) owed = fair c s (fitting c s w (ask.Begin v)) (grind (arith, nat_tests))
owed_fair c s w (ask.End v o) owed = fair c s (fitting c s w (ask.End v o)) (grind (arith, nat_tests))
owed_fair c s w (ask.Leave v) owed = fair c s (fitting c s w (ask.Leave v)) (grind (arith, nat_tests))
owed_fair c s w ask.Shutdown owed = inl owed
owed_fair c s w ask.Stop owed = inl owed
owed_fair c s w ask.Tidy owed = fair c s (fitting c s w ask.Tidy) (grind (arith, nat_tests))
owed_fair c s w ask.Ended owed = fair c s (fitting c s w ask.Ended) (grind (arith, nat_tests))
owed_fair c s w _ owed = absurd (grind arith)

-- the number that an answer reserves is w, where w is the number of a new slot
free_number : (c : Config) (s : State) (w : ℕ) (a : Ask) (d : Did) → IsFreeTo s a w → fitting c s w a ≡ Ok d → IfSome (reserves d) (λ v. is_free_for s d v ≡ true)
free_number c s w a d free is = by_number (reserves d) refl
  where
    by_number : (o : Option ℕ) → reserves d ≡ o → IfSome o (λ v. is_free_for s d v ≡ true)
    by_number None none = tt
    by_number (Some v) made =
        let own : v ≡ w = own_asked c s w a v d is made in
        subst (λ n. is_free_for s d n ≡ true) (sym own) (free_asked c s a w w d free is)

-- there is room for an entry where what is owed after it fits
full_room : (c : Config) (s : State) (d : Did) → suc s.steps + due (next s d) ≤ c.record_limit → leaves_room c s d ≡ true
full_room c s d room = le-leb _ _ room

-- the room changes no answer to an ask for a step that is owed
pub room_changes_no_answer : RoomChangesNoAnswer
room_changes_no_answer c h w a least legal owed free = by_answer (fitting c (state c h) w a) refl (owed_fair c (state c h) w a owed)
  where
    allowed : (d : Did) → leaves_room c (state c h) d ≡ true → within_room c (state c h) (Ok d) ≡ Ok d
    allowed d room = ap (λ b. cond b (Ok d) (Err BookFull)) room

    by_answer : (x : Answer) → fitting c (state c h) w a ≡ x → IsFair c (state c h) x → within_room c (state c h) x ≡ x
    by_answer (Err e) is fair = refl
    by_answer (Ok d) is (inl low) =
        let falls = owed_falls c h w a d legal is (free_number c (state c h) w a d free is) low in
        let room = room_is_enough c h least legal in
        allowed d (full_room c (state c h) d (omega (arith, falls, room)))
    by_answer (Ok d) is (inr room) = allowed d room

-- a step that is owed is never refused for want of room
pub never_short_of_room : NeverShortOfRoom
never_short_of_room c h w a least legal owed free full =
    not_full (fitting c (state c h) w a) (owed_fair c (state c h) w a owed) (sym (room_changes_no_answer c h w a least legal owed free) ∙ full)
  where
    not_full : (x : Answer) → IsFair c (state c h) x → x ≡ Err BookFull → ⊥
    not_full (Err e) fair is = fair (grind arith)
    not_full (Ok d) fair is = cc
