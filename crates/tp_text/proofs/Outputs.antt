-- What a reader gave and a writer took.
use Rattle.std.proofs.Common.{◌≡◌, ℕ, List, [], Option, Some, None, Result, Ok, Err, false, is_err, OnOk, IfSome, unwrap_or, refl, sym, subst, append-nil}
use Rattle.std.specs.Io.KnownBytes.{Appends, Keeps}
use Rattle.std.proofs.KnownBytes.{Appends-kept}

-- some text that a reader may have given
pub known_or : (input : Option (List ℕ)) → IfSome input (λ xs. unwrap_or input [] ≡ xs)
known_or None = tt
known_or (Some xs) = refl

-- nothing more was written
pub no_more : (old : Option (List ℕ)) → Appends old old []
no_more None = tt
no_more (Some xs) = sym (append-nil xs)

-- what holds on success, where there was one
pub on_success : {A E : Type 0} (r : Result A E) (P : Type 0) → false ≡ is_err r → OnOk r P → P
on_success (Ok a) P none holds = holds
on_success (Err e) P none holds = cc

-- what was written before a flush
pub written_out : (old mid new : Option (List ℕ)) (text out : List ℕ) → text ≡ out → Appends old mid text → Keeps mid new → Appends old new out
written_out old mid new text out same appends keeps = subst (Appends old new) same (Appends-kept old mid new text appends keeps)
