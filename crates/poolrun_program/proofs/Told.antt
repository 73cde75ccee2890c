-- What a run of a text of jobs tells of its writer: a refusal of the run is none of the writer's, and none of a reader's.
use Rattle.std.proofs.Common.{◌≡◌, ◌≢◌, ◌⊎◌, inl, inr, sym, ap, ◌∙◌, false, Result, Ok, Err}
use Rattle.std.specs.Prelude.{Option, Some, None, IfErr, IfSome, IsOkUnless, OnOk}
use Rattle.tp_types.specs.Config.{checked}
use Rattle.tp_types.specs.declared.configs.Config.{Config}
use Rattle.tp_types.specs.declared.refusals.PoolError.{PoolError}
use Rattle.tp_types.specs.declared.refusals.PoolError.TheVariants.{ReadFailed, WriteFailed}
use Rattle.tp_text.proofs.Refusals.{checked_inner, is_outer, outer_err, same_outer}
use Rattle.tp_text.proofs.Watchings.{not_unread}
use Rattle.poolrun_program.specs.Runs.{RefusesRun}

-- a run is refused otherwise than a reader or a writer is
pub run_inner : (A : Type 0) (c : Config) (e : PoolError) → RefusesRun c e → outer_err {A = A} (Err e) ≡ false
run_inner A c e (inl settings) = same_outer (Err e) (checked c) (sym settings) ∙ checked_inner c
run_inner A c e (inr (inl memory)) = ap is_outer memory
run_inner A c e (inr (inr (inl full))) = ap is_outer full
run_inner A c e (inr (inr (inr torn))) = ap is_outer torn

-- what a writer alone refuses was read
pub was_read : {A : Type 0} (r : Result A PoolError) → IsOkUnless r WriteFailed → r ≢ Err ReadFailed
was_read (Ok a) only is = cc
was_read (Err e) only is = not_unread e only is

-- what follows from a success follows where there was one
pub on_ok : {A E : Type 0} (r : Result A E) (P Q : Type 0) → (P → Q) → OnOk r P → OnOk r Q
on_ok (Ok a) P Q follows holds = follows holds
on_ok (Err e) P Q follows holds = tt

-- what follows from each value follows where there is one
pub some_so : {A : Type 0} (P Q : A → Type 0) → ((a : A) → P a → Q a) → (o : Option A) → IfSome o P → IfSome o Q
some_so P Q follows (Some a) holds = follows a holds
some_so P Q follows None holds = tt

-- a refusal of the writer's is one of two kinds
pub or_unwritten : {A : Type 0} (r : Result A PoolError) (P : PoolError → Type 0) → IsOkUnless r WriteFailed → IfErr r (λ e. (e ≡ WriteFailed) ⊎ P e)
or_unwritten (Ok a) P only = tt
or_unwritten (Err e) P only = inl only
