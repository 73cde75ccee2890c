-- What the rules of steps answer over the structures fits, or is a refusal.
use Rattle.std.proofs.Common.{◌≡◌, ℕ, Option, None, Result, Ok, Err, true, false, refl, sym, ap, subst, inl, inr, ◌∙◌}
use Rattle.std.specs.Prelude.{unwrap_or, IfOk, IfErr, IfSome}
use Rattle.std.proofs.lemmas.Result.{IfErr-weaker}
use Rattle.tp_types.specs.declared.configs.Config.{Config}
use Rattle.tp_types.specs.declared.refusals.PoolError.{PoolError}
use Rattle.tp_types.specs.declared.refusals.PoolError.TheVariants.{BookFull}
use Rattle.tp_record.specs.declared.entries.Ask.{Ask}
use Rattle.tp_record.specs.declared.entries.Did.{Did}
use Rattle.tp_record.specs.Effects.{reserves}
use Rattle.tp_record.specs.Left.{mark}
use Rattle.tp_record.specs.State.{State, state, slot_at}
use Rattle.tp_record.specs.Step.{IsFreeTo, fitting, within_room, is_free_for}
use Rattle.tp_rules.specs.Answers.{no_settings, Answers, AnswersBy, AnswersAt}
use Rattle.tp_rules.proofs.Numbers.{fitting_at}
use Rattle.tp_machine_state.specs.declared.parts.Parts.{Parts}
use Rattle.tp_machine_state.specs.Outcomes.{Denies, FitsOutcome}
use Rattle.tp_machine_state.specs.Room.{TellsRoom, IsInRoom}
use Rattle.tp_machine_state.specs.Shows.{Reads}
use Rattle.tp_machine_state.specs.Steps.{Fits, Accepts, Refuses}
use Rattle.tp_machine_state.specs.Terms.{terms}
use Rattle.tp_machine_state.proofs.Answering.{Moves, accepts_room, refuses_fitting}
use Rattle.tp_machine_state.proofs.Reading.{reads_marked}

-- The answer x, where the record has room for its entry, by which what is owed falls and rises by so much
module _ {P X : Type 0} (p : Parts P) (a : Ask) (f : X → Did) (fall rise : ℕ) (x : X) where
  -- is accepted where it fits
  pub accepts_given : Fits p a (f x) → Moves p fall rise (f x) → (r : Result X PoolError) → IsInRoom p fall rise (Ok x) r → IfOk r (λ y. Accepts p a (f y))
  accepts_given fits moves r (inl is) = subst (λ (y : Result X PoolError). IfOk y (λ z. Accepts p a (f z))) (sym is.0) (accepts_room p a (f x) fall rise true is.1 refl fits moves)
  accepts_given fits moves r (inr is) = subst (λ (y : Result X PoolError). IfOk y (λ z. Accepts p a (f z))) (sym is.0) tt

  -- and is refused else, where it may be
  pub refuses_given : (TellsRoom p fall rise false → Refuses p a BookFull) → (r : Result X PoolError) → IsInRoom p fall rise (Ok x) r → IfErr r (λ e. Refuses p a e)
  refuses_given full r (inl is) = subst (λ (y : Result X PoolError). IfErr y (λ e. Refuses p a e)) (sym is.0) tt
  refuses_given full r (inr is) = subst (λ (y : Result X PoolError). IfErr y (λ e. Refuses p a e)) (sym is.0) (full is.1)

  pub denies_given : FitsOutcome p a → (TellsRoom p fall rise false → Refuses p a BookFull) → (r : Result X PoolError) → IsInRoom p fall rise (Ok x) r → IfErr r (λ e. Denies p a e)
  denies_given outcome full r is = IfErr-weaker r _ _ (λ e refused. inr (outcome, refused)) (refuses_given full r is)

module _ {P X : Type 0} (p : Parts P) (a : Ask) (f : X → Did) where
  -- by a rule that answers alike by the settings c and by the pool's, and whichever number a new slot would get
  module _ (c : Config) (same : (w : ℕ) (s : State) → fitting c s 0 a ≡ fitting (terms p) s w a) where
    -- its answer fits, where it reserves no slot
    pub fits_by : ((x : X) → reserves (f x) ≡ None) → (r : Result X PoolError) → AnswersBy (Reads p) c a f r → IfOk r (λ x. Fits p a (f x))
    fits_by none (Ok x) answers = λ h rs legal may sh.
        let s = mark rs (state (terms p) h) in
        let F : Option ℕ → Type 0 = λ o. (fitting (terms p) s (unwrap_or o 0) a ≡ Ok (f x)) × IfSome o (λ w. is_free_for s (f x) w ≡ true) in
        subst F (sym (none x)) (sym (same 0 s) ∙ answers s (reads_marked p h rs may sh), tt)
    fits_by none (Err e) answers = tt

    pub refuses_by : (r : Result X PoolError) → AnswersBy (Reads p) c a f r → IfErr r (λ e. Refuses p a e)
    refuses_by (Ok x) answers = tt
    refuses_by (Err e) answers = λ h rs legal may sh w free.
        let s = mark rs (state (terms p) h) in
        ap (within_room (terms p) s) (sym (same w s) ∙ answers s (reads_marked p h rs may sh))

    pub denies_by : FitsOutcome p a → (r : Result X PoolError) → AnswersBy (Reads p) c a f r → IfErr r (λ e. Denies p a e)
    denies_by outcome r answers = IfErr-weaker r _ _ (λ e refuses. inr (outcome, refuses)) (refuses_by r answers)

  -- by one that reads no settings
  module _ (same : (w : ℕ) (s : State) → fitting no_settings s 0 a ≡ fitting (terms p) s w a) where
    pub fits : ((x : X) → reserves (f x) ≡ None) → (r : Result X PoolError) → Answers (Reads p) a f r → IfOk r (λ x. Fits p a (f x))
    fits = fits_by no_settings same

    pub refuses : (r : Result X PoolError) → Answers (Reads p) a f r → IfErr r (λ e. Refuses p a e)
    refuses = refuses_by no_settings same

    pub denies : FitsOutcome p a → (r : Result X PoolError) → Answers (Reads p) a f r → IfErr r (λ e. Denies p a e)
    denies = denies_by no_settings same

    -- where the room is looked at, which falls and rises by so much for what is answered
    module _ (fall rise : ℕ) (none : (x : X) → reserves (f x) ≡ None) where
      pub accepts_in : (q : Result X PoolError) → ((x : X) → q ≡ Ok x → Moves p fall rise (f x)) → (r : Result X PoolError) → IsInRoom p fall rise q r → Answers (Reads p) a f q →
          IfOk r (λ x. Accepts p a (f x))
      accepts_in (Err e) moves r is answers = subst (λ (y : Result X PoolError). IfOk y (λ x. Accepts p a (f x))) (sym is) tt
      accepts_in (Ok x) moves r is answers = accepts_given p a f fall rise x (fits none (Ok x) answers) (moves x refl) r is

      pub refuses_in : (q : Result X PoolError) → ((x : X) → q ≡ Ok x → Moves p fall rise (f x)) → (r : Result X PoolError) → IsInRoom p fall rise q r → Answers (Reads p) a f q →
          IfErr r (λ e. Refuses p a e)
      refuses_in (Err e) moves r is answers = subst (λ (y : Result X PoolError). IfErr y (λ d. Refuses p a d)) (sym is) (refuses (Err e) answers)
      refuses_in (Ok x) moves r is answers =
          refuses_given p a f fall rise x (λ full. refuses_fitting p a (f x) fall rise false full refl (fits none (Ok x) answers) (λ s w. sym (same w s) ∙ same (unwrap_or (reserves (f x)) 0) s) (moves x refl)) r is

      pub denies_in : FitsOutcome p a → (q : Result X PoolError) → ((x : X) → q ≡ Ok x → Moves p fall rise (f x)) → (r : Result X PoolError) → IsInRoom p fall rise q r → Answers (Reads p) a f q →
          IfErr r (λ e. Denies p a e)
      denies_in outcome q moves r is answers = IfErr-weaker r _ _ (λ e refused. inr (outcome, refused)) (refuses_in q moves r is answers)

  -- by one that may reserve the slot n
  module _ (n : ℕ) (same : (w : ℕ) (s : State) → fitting no_settings s w a ≡ fitting (terms p) s w a) where
    -- which it may use
    pub fits_at : ((s : State) → Reads p s → IsFreeTo s a n) → (r : Result X PoolError) → AnswersAt (Reads p) n a f r → IfOk r (λ x. Fits p a (f x))
    fits_at free (Ok x) answers = λ h rs legal may sh.
        let s = mark rs (state (terms p) h) in
        let reads = reads_marked p h rs may sh in
        fitting_at (terms p) s n a (f x) (free s reads) (sym (same n s) ∙ answers s reads)
    fits_at free (Err e) answers = tt

    -- such as the number of the next slot
    pub fits_next : n ≡ p.slots.next → slot_at p.slots.slots p.slots.next ≡ None → (r : Result X PoolError) → AnswersAt (Reads p) n a f r → IfOk r (λ x. Fits p a (f x))
    fits_next next free = fits_at (λ s reads. inl (reads.shows.seen.seats n ∙ ap (slot_at p.slots.slots) next ∙ free))

    pub denies_at : FitsOutcome p a → (r : Result X PoolError) → AnswersAt (Reads p) n a f r → IfErr r (λ e. Denies p a e)
    denies_at outcome (Ok x) answers = tt
    denies_at outcome (Err e) answers = inr (
      outcome,
      λ h rs legal may sh w free.
          let s = mark rs (state (terms p) h) in
          ap (within_room (terms p) s) (sym (same w s) ∙ answers w s (reads_marked p h rs may sh)),
    )
