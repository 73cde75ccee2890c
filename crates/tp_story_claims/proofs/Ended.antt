-- What became of the tasks of records.
use Rattle.std.proofs.Common.{◌≡◌, inl, inr, ℕ, suc, ◌+◌, ◌<◌, List, [], ◌∷◌, ◌++◌, length, take, get_or, reverse, true, false, Option, Some, None, Result, Ok, Err, IfOk, sym, ap, ◌∙◌, subst, append-nil}
use Rattle.std.specs.Prelude.{is_some}
use Rattle.std.specs.List.{flat_map}
use Rattle.std.proofs.lemmas.List.{take_more}
use Rattle.std.proofs.lemmas.List.Concat.{flat_map-append}
use Rattle.std.proofs.lemmas.Bool.{false≢true, true≢false}
use Rattle.std.specs.declared.vec.Vec.{Vec}
use Rattle.std.specs.declared.alloc.Global.{Global}
use Rattle.tp_types.specs.declared.refusals.PoolError.{PoolError}
use Rattle.tp_types.specs.declared.tasks.Fate.{Fate}
use Rattle.tp_record.specs.declared.entries.Entry.{Entry}
use Rattle.tp_audit_plain.specs.Audit.{IsSummary}
use Rattle.tp_audit_plain.specs.declared.summary.Summary.{Summary}
use Rattle.tp_audit.specs.Audited.{Judge, Judged, settings}
use Rattle.tp_text_record.specs.declared.reading.Body.{Body}
use Rattle.tp_text_record.specs.Reading.{IsTaken, OfReader}
use Rattle.tp_story_questions.specs.declared.asking.Asking.{Asking}
use Rattle.tp_story_questions.specs.Asking.{IsToldAll}
use Rattle.tp_story_questions.proofs.Answered.{about, took}
use Rattle.tp_story_claims.specs.declared.endings.Otherwise.{Otherwise}
use Rattle.tp_story_claims.specs.Endings.{AreFates, AreFatesOf, AreOtherwise, ends_of}

-- a flaw that was told
pub flawed : (a : Judge) (o : Option ℕ) (es : List Entry) → is_some o ≡ true → IsToldAll settings Judged a o es → AreFates (settings a) es None
flawed a None es some told = absurd (false≢true some)
flawed a (Some n) es some told = (n, told)

-- the fates of a legal record
pub fated : (a : Judge) (o : Option ℕ) (es : List Entry) (s : Summary) → is_some o ≡ false → ((h : List Entry) → Judged a h → IsSummary (settings a) h s) → IsToldAll settings Judged a o es → AreFates (settings a) es (Some s.fates)
fated a None es s none is told = (told.legal, (is (reverse es) told).fates)
fated a (Some n) es s none is told = absurd (true≢false none)

abbrev pub any : Unit {0} → Judge → Type 0
any q a = Unit {0}

-- the fates in a record's text
pub fates_text : (text : List ℕ) (b : Body (Asking Judge)) (o : Option (Vec (Option Fate) Global)) → IsTaken (about settings any Judged (λ a h f out holds. Unit {0}) tt) (took settings any Judged (λ a h f out holds. Unit {0})) b text
    → ((es : List Entry) → IsToldAll settings Judged b.taker.account b.taker.flaw es → AreFates (settings b.taker.account) es o) → AreFatesOf text o
fates_text text b o taken fates = (
  taken.config,
  taken.entries,
  record {
    version = b.version;
    is_over = b.is_over;
    left = taken.left;
    has_text = taken.has_text;
    accepted = taken.accepted;
    is_text = taken.is_text;
    is_part = taken.is_part;
    none_left = taken.none_left;
  },
  subst (λ c. AreFates c taken.entries o) taken.about_pool.0 (fates taken.entries taken.taken),
)

-- the same of what a reader gave
pub fates_from : (input : Option (List ℕ)) (b : Body (Asking Judge)) (r : Result (Option (Vec (Option Fate) Global)) PoolError)
    → OfReader input (IsTaken (about settings any Judged (λ a h f out holds. Unit {0}) tt) (took settings any Judged (λ a h f out holds. Unit {0})) b)
    → IfOk r (λ o. (es : List Entry) → IsToldAll settings Judged b.taker.account b.taker.flaw es → AreFates (settings b.taker.account) es o) → IfOk r (λ o. OfReader input (λ text. AreFatesOf text o))
fates_from input b (Ok o) of fates = (of.0, of.1, fates_text of.0 b o of.2 fates)
fates_from input b (Err e) of fates = tt

-- one more task that ended otherwise, or alike
pub otherwise_more : (first second : List (Option Fate)) (n : ℕ) (o : Otherwise) (found new : List Otherwise) → o ≡ ends_of first second n → (o.first ≡ o.second → ⊥) → AreOtherwise first second n found → new ≡ found ++ o ∷ [] → AreOtherwise first second (suc n) new
otherwise_more first second n o found new is apart were next =
    inr (λ same. apart (ap (λ (x : Otherwise). x.first) is ∙ same ∙ sym (ap (λ (x : Otherwise). x.second) is)), (found, next ∙ ap (λ x. found ++ x ∷ []) is, were))

pub otherwise_same : (first second : List (Option Fate)) (n : ℕ) (o : Otherwise) (found new : List Otherwise) → o ≡ ends_of first second n → o.first ≡ o.second → AreOtherwise first second n found → new ≡ found → AreOtherwise first second (suc n) new
otherwise_same first second n o found new is same were next =
    inl (sym (ap (λ (x : Otherwise). x.first) is) ∙ same ∙ ap (λ (x : Otherwise). x.second) is, subst (AreOtherwise first second n) (sym next) were)

-- the lines of one more
pub flat_more : {A B : Type 0} (f : A → List B) (xs : List A) (i : ℕ) (d : A) → i < length xs → flat_map f (take (i + 1) xs) ≡ flat_map f (take i xs) ++ f (get_or xs i d)
flat_more f xs i d lt = ap (flat_map f) (take_more xs i d lt) ∙ flat_map-append f (take i xs) (get_or xs i d ∷ []) ∙ ap (λ ys. flat_map f (take i xs) ++ ys) (append-nil (f (get_or xs i d)))
