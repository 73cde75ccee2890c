-- A payload stays under its task's number until it is handed out.
use Rattle.std.proofs.Common.{◌≡◌, ◌⊎◌, ℕ, Bool, true, false, List, [], ◌∷◌, map, Option, Some, None, inl, inr, refl, sym, ap, subst, ◌∙◌, ⊎_elim}
use Rattle.std.specs.Prelude.{◌==◌, ◌||◌, if◌then◌else◌}
use Rattle.std.proofs.lemmas.Bool.{eqb-true}
use Rattle.tp_types.specs.declared.ids.TaskId.{TaskId}
use Rattle.tp_types.specs.declared.tasks.Promise.{Promise}
use Rattle.tp_record.specs.declared.entries.Ask.{Ask}
use Rattle.tp_record.specs.declared.entries.Ask.TheVariants as ask
use Rattle.tp_record.specs.declared.entries.Did.{Did}
use Rattle.tp_record.specs.declared.entries.Ruled.{Ruled}
use Rattle.tp_record.specs.declared.entries.Ruled.TheVariants as ruled
use Rattle.tp_record.specs.Effects.{submits}
use Rattle.tp_tasks.specs.declared.tasks.Tasks.{Tasks}
use Rattle.tp_tasks.specs.Tasks.{payload_of}
use Rattle.tp_record.specs.Lists.{is_among}
use Rattle.tp_machine_state.specs.Payloads.{Keeps, HandsOut, PutsIn}
use Rattle.tp_machine.specs.declared.answers.Begun.{Begun}
use Rattle.tp_machine.specs.declared.answers.Begun.TheVariants as begun
use Rattle.tp_machine.specs.declared.steps.Stepped.{Stepped}
use Rattle.tp_machine.specs.declared.steps.Stepped.TheVariants as stepped
use Rattle.tp_machine.specs.Answers.{HandsBack, IsRemoval, Judges, ruled_of}
use Rattle.tp_machine.specs.Stepped.{IsAnswer, Moves, did_of}
use Rattle.tp_book.specs.BookView.{BookView}
use Rattle.tp_book.specs.Carried.{Made, IsOf, IsAmong, HandsOutOf, MakesAll, SubmitNone, HandOutOf}

module _ {P : Type 0} (t : ℕ) (k : P) where
  module _ (old new : Tasks P) (has : payload_of old t ≡ Some k) where
    abbrev Stays : Type 0
    Stays = payload_of new t ≡ Some k

    kept : Keeps old new → Stays
    kept keeps = keeps.payloads t ∙ has

    out : (u : ℕ) (o : Option P) → HandsOut old new u o → Stays ⊎ ((u ≡ t) × (o ≡ Some k))
    out u o hands = by (t == u) refl
      where
        by : (b : Bool) → (t == u) ≡ b → Stays ⊎ ((u ≡ t) × (o ≡ Some k))
        by true same = let is = eqb-true t u same in inr (sym is, sym hands.was ∙ ap (λ n. payload_of old n) (sym is) ∙ has)
        by false other = inl (hands.payloads t ∙ ap (λ b. if b then None else payload_of old t) other ∙ has)

    put : (u : ℕ) (promise : Promise) (payload : P) → PutsIn old new u promise payload → ¬ (u ≡ t) → Stays
    put u promise payload puts other = by (t == u) refl
      where
        by : (b : Bool) → (t == u) ≡ b → Stays
        by true same = absurd (other (sym (eqb-true t u same)))
        by false apart = puts.payloads t ∙ ap (λ b. if b then Some payload else payload_of old t) apart ∙ has

    own : (u : TaskId) (payload : Option P) (dropped : Option (TaskId × Option P)) → HandsOut old new u.0 payload →
        Stays ⊎ (IsOf t k (u, payload) ⊎ ((x : TaskId × Option P) × (dropped ≡ Some x) × IsOf t k x))
    own u payload dropped hands = ⊎_elim (λ (stays : Stays). inl stays) (λ (is : (u.0 ≡ t) × (payload ≡ Some k)). inr (inl is)) (out u.0 payload hands)

    judged : (u : TaskId) (r : Ruled) (payload : Option P) (dropped : Option (TaskId × Option P)) → Judges old new u r payload dropped →
        Stays ⊎ (IsOf t k (u, payload) ⊎ ((x : TaskId × Option P) × (dropped ≡ Some x) × IsOf t k x))
    judged u ruled.Retry payload dropped judges = inl (kept judges.0)
    judged u (ruled.RetryDrop x) payload dropped judges =
        ⊎_elim (λ (stays : Stays). inl stays) (λ (is : (x.0 ≡ t) × (judges.0 ≡ Some k)). inr (inr ((x, judges.0), judges.3, (is.0, is.1)))) (out x.0 judges.0 judges.1)
    judged u _ payload dropped judges = own u payload dropped judges.0

    begins : (b : Begun P) (a : Ask) → Moves (stepped.Begin b) a None old new → Stays ⊎ HandsOutOf t k (stepped.Begin b) a
    begins (begun.Run u p) a moves = out u.0 (Some p) moves.0
    begins (begun.Skip u) a moves = inl (kept moves.0)

    removed : (u : TaskId) (r : Option (TaskId × Option P)) (a : Ask) → IsRemoval old new u r → Stays ⊎ HandsOutOf t k (stepped.Remove r) a
    removed u None a removal = inl (kept removal)
    removed u (Some x) a removal =
        ⊎_elim (λ (stays : Stays). inl stays) (λ (is : (u.0 ≡ t) × (x.1 ≡ Some k)). inr (ap (λ (y : TaskId). y.0) removal.0 ∙ is.0, is.1)) (out u.0 x.1 removal.1)

    -- one of them is, where its number is that of the first or is among the others'
    found : (x : TaskId × Option P) (xs : List (TaskId × Option P)) (b : Bool) → (t == x.0.0) ≡ b → x.1 ≡ payload_of old x.0.0 → (b || is_among t (map (λ x. x.0.0) xs)) ≡ true →
        (is_among t (map (λ x. x.0.0) xs) ≡ true → IsAmong t k xs) → IsAmong t k (x ∷ xs)
    found x xs true same first is others = let at = eqb-true t x.0.0 same in inl (sym at, first ∙ ap (λ n. payload_of old n) (sym at) ∙ has)
    found x xs false other first is others = inr (others is)

    first_paid : (x : TaskId × Option P) (xs : List (TaskId × Option P)) → map (λ x. x.1) (x ∷ xs) ≡ map (λ x. payload_of old x.0.0) (x ∷ xs) → x.1 ≡ payload_of old x.0.0
    first_paid x xs each = cc

    others_paid : (x : TaskId × Option P) (xs : List (TaskId × Option P)) → map (λ x. x.1) (x ∷ xs) ≡ map (λ x. payload_of old x.0.0) (x ∷ xs) → map (λ x. x.1) xs ≡ map (λ x. payload_of old x.0.0) xs
    others_paid x xs each = cc

    among : (xs : List (TaskId × Option P)) → map (λ x. x.1) xs ≡ map (λ x. payload_of old x.0.0) xs → is_among t (map (λ x. x.0.0) xs) ≡ true → IsAmong t k xs
    among [] each is = absurd (cc)
    among (x ∷ xs) each is = found x xs (t == x.0.0) refl (first_paid x xs each) is (λ later. among xs (others_paid x xs each) later)

    back : (xs : List (TaskId × Option P)) → HandsBack old new xs → Stays ⊎ IsAmong t k xs
    back xs hands = by (is_among t (map (λ x. x.0.0) xs)) refl
      where
        by : (b : Bool) → is_among t (map (λ x. x.0.0) xs) ≡ b → Stays ⊎ IsAmong t k xs
        by true is = inr (among xs hands.each is)
        by false is = inl (hands.payloads t ∙ ap (λ b. if b then None else payload_of old t) is ∙ has)

    submitted : (u : TaskId) (d : Did) (a : Ask) (came : Option (Promise × P)) → submits d ≡ Some u.0 → ¬ (submits d ≡ Some t) → Moves (stepped.Submit u d) a came old new → Stays
    submitted u d a None is other moves = kept moves
    submitted u d a (Some came) is other moves = put u.0 came.0 came.1 moves (λ same. other (is ∙ ap (λ n. Some n) same))

    -- by one step
    step : (a : Ask) (s : Stepped P) (came : Option (Promise × P)) → IsAnswer a s → ¬ (submits (did_of a s) ≡ Some t) → Moves s a came old new → Stays ⊎ HandsOutOf t k s a
    step a (stepped.Submit u d) came answer other moves = inl (submitted u d a came answer.3 other moves)
    step a (stepped.Verdict j) came answer other moves =
        subst (λ b. Moves (stepped.Verdict j) b came old new → Stays ⊎ HandsOutOf t k (stepped.Verdict j) b) (sym answer.2)
        (λ judges. judged answer.0 (ruled_of j.did) j.payload j.dropped judges) moves
    step a (stepped.Begin b) came answer other moves = begins b a moves
    step a (stepped.Stop handed) came answer other moves = back handed.items moves
    step a (stepped.Remove r) came answer other moves =
        subst (λ b. Moves (stepped.Remove r) b came old new → Stays ⊎ HandsOutOf t k (stepped.Remove r) b) (sym answer.1) (λ removal. removed answer.0 r (ask.Remove answer.0) removal) moves
    step a (stepped.Cancel b o) came answer other moves =
        subst (λ x. Moves (stepped.Cancel b o) x came old new → Stays ⊎ HandsOutOf t k (stepped.Cancel b o) x) (sym answer.2) (λ hands. out answer.0.0 o hands) moves
    step a _ came answer other moves = inl (kept moves)

  -- by any number of steps
  pub lasts : (ms : List (Made P)) (old new : BookView P) → MakesAll ms old new → SubmitNone t ms → payload_of old.machine.parts.tasks t ≡ Some k →
      (payload_of new.machine.parts.tasks t ≡ Some k) ⊎ HandOutOf t k ms
  lasts [] old new same none has = inl (ap (λ (b : BookView P). payload_of b.machine.parts.tasks t) same ∙ has)
  lasts (m ∷ ms) old new makes none has =
      let mid = makes.0 in
      ⊎_elim (λ (stays : payload_of mid.machine.parts.tasks t ≡ Some k).
      ⊎_elim (λ (at : payload_of new.machine.parts.tasks t ≡ Some k). inl at) (λ (later : HandOutOf t k ms). inr (inr later)) (lasts ms mid new makes.2 none.1 stays))
      (λ (now : HandsOutOf t k m.answer m.ask). inr (inl now))
      (step old.machine.parts.tasks mid.machine.parts.tasks has m.ask m.answer m.came makes.1.answer none.0 makes.1.advances.payloads)
