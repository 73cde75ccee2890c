-- A submission whose step is refused.
use Rattle.std.proofs.Common.{Bool, true, false, inl, refl}
use Rattle.std.specs.Prelude.{Result, Ok, Err, IfNone, IfErr}
use Rattle.std.specs.Result.{result_ok}
use Rattle.tp_types.specs.declared.configs.Config.{Config}
use Rattle.tp_types.specs.declared.ids.SlotId.{SlotId}
use Rattle.tp_types.specs.declared.ids.TaskId.{TaskId}
use Rattle.tp_types.specs.declared.refusals.PoolError.{PoolError}
use Rattle.tp_record.specs.declared.entries.Ask.{Ask}
use Rattle.tp_record.specs.declared.entries.Did.{Did}
use Rattle.tp_protocols.specs.Fronts.{follow_of}
use Rattle.tp_protocols.specs.declared.paths.Next.TheVariants as next
use Rattle.tp_book.specs.PassView.{PassView}
use Rattle.tp_pool_holds.specs.Passes.{IsRefusal, opening}
use Rattle.tp_pool.specs.Admissions.{Awaits, IsUndone}

-- Step's own refusal is one, whether or not the record is kept
pub refuses_ever : (keeps : Bool) (c : Config) (p : PassView) (a : Ask) (e : PoolError) → IsRefusal true c p a e → IsRefusal keeps c p a e
refuses_ever true c p a e refused = refused
refuses_ever false c p a e refused = inl refused

-- a submission whose step for a worker is refused leaves that deed undone
pub unstaffed : (keeps : Bool) (c : Config) (t : TaskId) (w : SlotId) (staffed : Bool) (p : PassView) (r : Result Did PoolError) → IfErr r (λ e. IsRefusal true c p (opening w staffed) e) →
    IfNone (result_ok r) (Awaits (follow_of t.0 (next.Staff w)) → IsUndone keeps c t (next.Staff w) p)
unstaffed keeps c t w staffed p (Ok d) refused = tt
unstaffed keeps c t w staffed p (Err e) refused = λ awaits. inl (opening w staffed, (staffed, refl), (e, refuses_ever keeps c p (opening w staffed) e refused))
