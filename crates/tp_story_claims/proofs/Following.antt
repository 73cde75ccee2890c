-- Two records that are followed side by side.
use Rattle.std.proofs.Common.{◌≡◌, ℕ, suc, List, [], ◌∷◌, ◌++◌, length, reverse, Option, Some, None, refl, sym, ap₂, ◌∙◌, subst, append-nil}
use Rattle.std.proofs.lemmas.List.{map-append, reverse-append}
use Rattle.tp_record.specs.declared.entries.Entry.{Entry}
use Rattle.tp_record.specs.State.{state}
use Rattle.tp_record.specs.Step.{Gives, Legal}
use Rattle.tp_audit_plain.specs.Audit.{IsFirstFlaw}
use Rattle.tp_audit.specs.Audited.{settings}
use Rattle.tp_story.specs.Fronts.{Followed, Follows, first_of}
use Rattle.tp_story_questions.proofs.Flawed.{flaw_here}
use Rattle.tp_story_claims.specs.Listed.{listed}
use Rattle.tp_story_claims.specs.declared.differences.Meeting.{Meeting}
use Rattle.tp_story_claims.specs.declared.differences.Meeting.TheVariants as meeting
use Rattle.tp_story_claims.specs.Differences.{AreNext, Gave, IsEnd, Meet, MeetFlaw, shown}

-- where no number is given, all is followed
pub all_of : (o : Option ℕ) (h : List Entry) → o ≡ None → first_of o h ≡ h
all_of None h is = refl
all_of (Some n) h is = absurd cc

module _ {A B : Type 0} (ga : A → List Entry → Type 0) (gb : B → List Entry → Type 0) where
  -- what the next answers of both sources say
  abbrev pub Answer : A → A → B → B → Option Entry → Option Entry → Type 0
  Answer a₀ a b₀ b x y = (es fs : List Entry) → ga a₀ es → gb b₀ fs → ga a (es ++ listed x) × gb b (fs ++ listed y)

  pub given : (a₀ a : A) (b₀ b : B) (f : Followed) (x y : Option Entry) → Gave ga gb a₀ b₀ f [] [] → Answer a₀ a b₀ b x y → Gave ga gb a b f (listed x) (listed y)
  given a₀ a b₀ b f x y g answer = record {
    es = g.es;
    fs = g.fs;
    first = subst (λ l. ga a (l ++ listed x)) (append-nil g.es) (answer (g.es ++ []) (g.fs ++ []) g.first g.second).0;
    second = subst (λ l. gb b (l ++ listed y)) (append-nil g.fs) (answer (g.es ++ []) (g.fs ++ []) g.first g.second).1;
    alike = g.alike;
    follows = g.follows;
  }

  pub met : (a₀ a : A) (b₀ b : B) (f : Followed) (x y : Option Entry) (m : Meeting) → Gave ga gb a₀ b₀ f [] [] → Answer a₀ a b₀ b x y → IsEnd x y m → Meet ga gb a b f m
  met a₀ a b₀ b f x y meeting.Same g answer end =
      subst (λ l. Gave ga gb a b f (listed l) []) end.0 (subst (λ l. Gave ga gb a b f (listed x) (listed l)) end.1 (given a₀ a b₀ b f x y g answer))
  met a₀ a b₀ b f x y (meeting.Parted p q) g answer end =
      (subst (λ l. Gave ga gb a b f (listed l) (listed q)) (sym end.0) (subst (λ l. Gave ga gb a b f (listed x) (listed l)) (sym end.1) (given a₀ a b₀ b f x y g answer)), end.2)
  met a₀ a b₀ b f x y (meeting.Flawed n e) g answer end = absurd end

  -- the entry that comes next in both
  pub next_given : (a₀ a : A) (b₀ b : B) (f : Followed) (x y : Option Entry) (e : Entry) → Gave ga gb a₀ b₀ f [] [] → Answer a₀ a b₀ b x y → (n : AreNext x y e) → Gave ga gb a b f (e ∷ []) (n.other ∷ [])
  next_given a₀ a b₀ b f x y e g answer n =
      subst (λ l. Gave ga gb a b f (listed l) (n.other ∷ [])) n.first (subst (λ l. Gave ga gb a b f (listed x) (listed l)) n.second (given a₀ a b₀ b f x y g answer))

  -- they go on together
  pub went_on : (a : A) (b : B) (f f₂ : Followed) (e d : Entry) (g : Gave ga gb a b f (e ∷ []) (d ∷ [])) → shown e ≡ shown d → (Follows f (reverse g.es) → Follows f₂ (e ∷ reverse g.es)) → Gave ga gb a b f₂ [] []
  went_on a b f f₂ e d g same told = record {
    es = g.es ++ e ∷ [];
    fs = g.fs ++ d ∷ [];
    first = subst (ga a) (sym (append-nil (g.es ++ e ∷ []))) g.first;
    second = subst (gb b) (sym (append-nil (g.fs ++ d ∷ []))) g.second;
    alike = map-append shown g.es (e ∷ []) ∙ ap₂ (λ xs x. xs ++ x ∷ []) g.alike same ∙ sym (map-append shown g.fs (d ∷ []));
    follows = subst (Follows f₂) (sym (reverse-append g.es (e ∷ []))) (told g.follows);
  }

  -- the next entry is the first flaw
  pub flawed : (a : A) (b : B) (f f₂ : Followed) (n : ℕ) (e d : Entry) (g : Gave ga gb a b f (e ∷ []) (d ∷ [])) → shown e ≡ shown d → f.until ≡ None → settings f₂.judge ≡ settings f.judge
      → ((h : List Entry) → Follows f h → Follows f₂ h)
      → ((h : List Entry) → Follows f h → (first_of f.until h ≡ h) × (n ≡ suc (length (first_of f.until h))) × (Gives (settings f.judge) (state (settings f.judge) (first_of f.until h)) e.ask e.did → ⊥))
      → MeetFlaw ga gb a b f₂ n e
  flawed a b f f₂ n e d g same until set stays told =
      let h = reverse g.es in
      let all = all_of f.until h until in
      let t = told h g.follows in
      let legal = subst (λ l. Legal (settings f.judge) l) all g.follows.judged.legal in
      let number = subst (λ l. n ≡ suc (length l)) all t.1 in
      let wrong = subst (λ l. Gives (settings f.judge) (state (settings f.judge) l) e.ask e.did → ⊥) all t.2 in
      record {
        other = d;
        gave = record { es = g.es; fs = g.fs; first = g.first; second = g.second; alike = g.alike; follows = stays h g.follows };
        alike = same;
        flaw = subst (λ c. IsFirstFlaw c (g.es ++ e ∷ []) n) (sym set) (flaw_here (settings f.judge) g.es n e legal number wrong);
      }
