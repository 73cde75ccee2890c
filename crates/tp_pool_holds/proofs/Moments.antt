-- What the book under the lock tells of the moment of a hold.
use Rattle.std.proofs.Common.{◌≡◌, ℕ, ◌<◌, ◌≤◌, List, [], ◌∷◌, All, subst, sym, refl, true≢false, ⊎_elim, arith}
use Rattle.std.specs.Prelude.{Result, Ok, Err, IsOk, IfErr}
use Rattle.tp_types.specs.declared.configs.Config.{Config}
use Rattle.tp_types.specs.declared.refusals.PoolError.{PoolError}
use Rattle.tp_types.specs.declared.refusals.PoolError.TheVariants.{BookFull, NotTerminated, MissingPass, TornRecord}
use Rattle.tp_record.specs.declared.entries.Did.{Did}
use Rattle.tp_record.specs.declared.entries.Did.TheVariants as did
use Rattle.tp_record.specs.Effects.{reaches}
use Rattle.tp_record.specs.declared.entries.Entry.{Entry}
use Rattle.tp_record.specs.Fields.{rank}
use Rattle.tp_record.specs.State.{State, state}
use Rattle.tp_record.specs.Step.{Legal}
use Rattle.tp_glance.specs.Word.{IsFrontOf}
use Rattle.tp_glance.proofs.Fronts.{rank_grows}
use Rattle.tp_book.specs.BookView.{BookView, released_of, state_of, AreAll, AreOwn, IsUnclosed}
use Rattle.tp_book.specs.PassView.{PassView}
use Rattle.tp_pool_holds.specs.Closing.{KeepsOpen}
use Rattle.tp_pool_holds.specs.Moments.{AtFront, AtSome, BookAt, BookAtSome, BookOf, IsBook}

-- a front of a history that is not at the end is not there either
below_end : (front history : ℕ) → front ≤ history → history ≤ 4 → ¬ (history ≡ 4) → front < 4
below_end front history a b n = omega arith

not_below : (n m : ℕ) → ¬ (n < m) → m ≤ n
not_below n m not = omega arith

-- no step reaches further than TERMINATED
reaches_top : (d : Did) → reaches d ≤ 4
reaches_top did.Shutdown = omega arith
reaches_top (did.Stop n) = omega arith
reaches_top did.Tidy = omega arith
reaches_top did.Ended = omega arith
reaches_top _ = omega arith

pub rank_top : (h : List Entry) → rank h ≤ 4
rank_top [] = omega arith
rank_top (e ∷ h) = let first = reaches_top e.did in let others = rank_top h in omega arith

module _ {P : Type 0} (b : BookView P) (c : Config) (is : IsBook P c b) where
  -- the history is legal
  pub legal_at : Legal c b.history
  legal_at = subst (λ k. Legal k b.history) is.settings is.stands.stands.legal

  -- what is so of the book's state is so at its history
  pub at_front : (F : State → Type 0) → F (state_of b) → AtFront c b.history F
  at_front F holds = record { legal = legal_at; holds = subst (λ k. F (state k b.history)) is.settings holds }

  -- and of a pass that knows the history
  pub known_at : (front : List Entry) (F : State → Type 0) → front ≡ b.history → F (state_of b) → AtFront c front F
  known_at front F same holds = subst (λ h. AtFront c h F) (sym same) (at_front F holds)

  pub at_some : (F : State → Type 0) → F (state_of b) → AtSome c F
  at_some F holds = record { history = b.history; is = at_front F holds }

  -- the book is one of a pool with these settings
  pub book_at : (F : BookView P → Type 0) → F b → BookAt P c b.history F
  book_at F holds = record { book = b; is = is; at = refl; holds = holds }

  -- and so it is for a pass that knows the history
  pub known_book : (front : List Entry) (F : BookView P → Type 0) → front ≡ b.history → F b → BookAt P c front F
  known_book front F same holds = subst (λ h. BookAt P c h F) (sym same) (book_at F holds)

  -- and where the pass knows the released tasks too
  pub known_of : (p : PassView) (F : BookView P → Type 0) → p.front ≡ b.history → p.released ≡ released_of b → F b → BookOf P c p F
  known_of p F same also holds = record { book = b; is = is; at = sym same; released = sym also; holds = holds }

  pub book_at_some : (F : BookView P → Type 0) → F b → BookAtSome P c F
  book_at_some F holds = record { history = b.history; is = book_at F holds }

  -- a close that the book refuses
  module _ (passes : List PassView) (fronts : All (λ p. IsFrontOf p.front b.history) passes) (workers : ℕ) (e : PoolError) (unclosed : IsUnclosed b passes workers e) where
    unseen : e ≡ NotTerminated → All (λ p. rank p.front < 4) passes
    unseen same =
        ⊎_elim (λ (r : (e ≡ NotTerminated) × ¬ (rank b.history ≡ 4)). λ k d within. below_end _ _ (rank_grows (fronts k d within)) (rank_top b.history) r.1)
        (⊎_elim (λ (r : (e ≡ MissingPass) × (rank b.history ≡ 4) × ¬ AreAll b passes workers). let other : e ≡ MissingPass = r.0 in absurd (cc))
        (λ (r : (e ≡ TornRecord) × (rank b.history ≡ 4) × AreAll b passes workers × ¬ AreOwn b passes). let other : e ≡ TornRecord = r.0 in absurd (cc)))
        unclosed

    pub keeps_open : KeepsOpen P c passes e
    keeps_open = record {
      history = b.history;
      refused = book_at (λ b. (workers : ℕ) × IsUnclosed b passes workers e) (workers, unclosed);
      fronts = fronts;
      unseen = unseen;
    }

-- all passes were made where one more is refused
pub full : {P : Type 0} (b : BookView P) (c : Config) → IsBook P c b → (r : Result PassView PoolError) → IfErr r (λ e. e ≡ BookFull) → (b.accounts.made < 4294967295 → IsOk r) →
    IfErr r (λ e. (e ≡ BookFull) × BookAtSome P c (λ b. 4294967295 ≤ b.accounts.made))
full b c is (Ok p) same room = tt
full b c is (Err e) same room = (same, book_at_some b c is (λ b. 4294967295 ≤ b.accounts.made) (not_below b.accounts.made 4294967295 (λ l. true≢false (sym (room l)))))
