-- How fronts go on, and where they are paths.
use Rattle.std.proofs.Common.{◌≡◌, ◌≢◌, ℕ, Bool, true, false, List, [], ◌∷◌, ◌++◌, if◌then◌else◌, refl, sym, ◌∙◌, ap}
use Rattle.tp_record.specs.declared.entries.Entry.{Entry}
use Rattle.tp_record.specs.declared.entries.Ask.{Ask}
use Rattle.tp_record.specs.declared.entries.Did.{Did}
use Rattle.tp_record.specs.declared.entries.Did.TheVariants as did
use Rattle.tp_record.specs.Paths.{Follow, Then, Ends, Astray, Admission, IsPath, GoesOn, follows}
use Rattle.tp_protocols.specs.Fronts.{is_submit_of, goes, after, IsFront}
use Rattle.std.proofs.lemmas.Bool.{eqb-true, eq-eqb}

-- one entry more
pub after-last : (t : ℕ) (f : Follow) (es : List Entry) (e : Entry) → after t f (es ++ e ∷ []) ≡ goes t (after t f es) e.did
after-last t f [] e = refl
after-last t f (x ∷ es) e = after-last t (goes t f x.did) es e

pub front-goes-on : (t : ℕ) (es : List Entry) (f : Follow) (e : Entry) → IsFront t es f → IsFront t (es ++ e ∷ []) (goes t f e.did)
front-goes-on t es f e is = after-last t (Then (is_submit_of t)) es e ∙ ap (λ g. goes t g e.did) is

-- what has gone astray does not come back
stays-astray : (t : ℕ) (es : List Entry) → after t Astray es ≡ Astray
stays-astray t [] = refl
stays-astray t (e ∷ es) = stays-astray t es

astray-ends : (t : ℕ) (es : List Entry) (a : Admission) → after t Astray es ≢ Ends a
astray-ends t es a is = is-no-end (sym (stays-astray t es) ∙ is)
  where
    is-no-end : Astray ≡ Ends a → ⊥
    is-no-end same = absurd (cc)

-- what was to follow comes, and goes on to the end
goes-to-end : (t : ℕ) (fits : Did → Bool) (e : Entry) (es : List Entry) (a : Admission) → ((f : Follow) → after t f es ≡ Ends a → GoesOn t f es a) →
    (b : Bool) → fits e.did ≡ b → after t (if b then follows t e.did else Astray) es ≡ Ends a → GoesOn t (Then fits) (e ∷ es) a
goes-to-end t fits e es a rest true here is = (here, rest (follows t e.did) is)
goes-to-end t fits e es a rest false here is = absurd (astray-ends t es a is)

goes-on-to : (t : ℕ) (f : Follow) (es : List Entry) (a : Admission) → after t f es ≡ Ends a → GoesOn t f es a
goes-on-to t (Ends b) [] a is = cc
goes-on-to t (Then fits) [] a is = absurd (cc)
goes-on-to t Astray [] a is = absurd (cc)
goes-on-to t (Ends b) (e ∷ es) a is = absurd (astray-ends t es a is)
goes-on-to t Astray (e ∷ es) a is = absurd (astray-ends t es a is)
goes-on-to t (Then fits) (e ∷ es) a is = goes-to-end t fits e es a (λ f. goes-on-to t f es a) (fits e.did) refl is

came-from : (t : ℕ) (f : Follow) (es : List Entry) (a : Admission) → GoesOn t f es a → after t f es ≡ Ends a
came-from t (Ends b) [] a is = ap Ends is
came-from t (Then fits) [] a is = absurd is
came-from t Astray [] a is = absurd is
came-from t (Ends b) (e ∷ es) a is = absurd is
came-from t Astray (e ∷ es) a is = absurd is
came-from t (Then fits) (e ∷ es) a is = ap (λ b. after t (if b then follows t e.did else Astray) es) is.0 ∙ came-from t (follows t e.did) es a is.1

-- an entry that submits t, and then a path's rest
path-of : (t : ℕ) (by : ℕ) (a : Ask) (d : Did) (es : List Entry) (end : Admission) → is_submit_of t d ≡ true → GoesOn t (follows t d) es end → IsPath t (record { by = by; ask = a; did = d } ∷ es) end
path-of t by a (did.Submit u k p l) es end is rest = (sym (eqb-true t u.0 is), rest)
path-of t by a _ es end is rest = absurd (cc)

path-if : (t : ℕ) (e : Entry) (es : List Entry) (end : Admission) (b : Bool) → is_submit_of t e.did ≡ b → after t (if b then follows t e.did else Astray) es ≡ Ends end → IsPath t (e ∷ es) end
path-if t e es end true here is = path-of t e.by e.ask e.did es end here (goes-on-to t (follows t e.did) es end is)
path-if t e es end false here is = absurd (astray-ends t es end is)

pub front-ends : (t : ℕ) (es : List Entry) (end : Admission) → IsFront t es (Ends end) → IsPath t es end
front-ends t [] end is = absurd (cc)
front-ends t (e ∷ es) end is = path-if t e es end (is_submit_of t e.did) refl is

front-of : (t : ℕ) (by : ℕ) (a : Ask) (d : Did) (es : List Entry) (end : Admission) → IsPath t (record { by = by; ask = a; did = d } ∷ es) end → (is_submit_of t d ≡ true) × GoesOn t (follows t d) es end
front-of t by a (did.Submit u k p l) es end is = (eq-eqb t u.0 (sym is.0), is.1)
front-of t by a _ es end is = absurd is.0

pub path-is-front : (t : ℕ) (es : List Entry) (end : Admission) → IsPath t es end → IsFront t es (Ends end)
path-is-front t [] end is = absurd is
path-is-front t (e ∷ es) end is = ap (λ b. after t (if b then follows t e.did else Astray) es) (front-of t e.by e.ask e.did es end is).0
    ∙ came-from t (follows t e.did) es end (front-of t e.by e.ask e.did es end is).1
