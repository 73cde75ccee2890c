-- Which tasks may be gone for good with an accepted step: those that it finishes, drops or drains, and the one whose second look it pays. A task
-- that a step skips or purges was cancelled, so it has a future, and its caller releases it.
use Rattle.std.specs.Prelude.{ℕ, true, List, [], ◌∷◌, map}
use Rattle.tp_record.specs.declared.entries.Did.{Did}
use Rattle.tp_record.specs.declared.entries.Did.TheVariants as did
use Rattle.tp_record.specs.declared.entries.Ruled.{Ruled}
use Rattle.tp_record.specs.declared.entries.Ruled.TheVariants as ruled
use Rattle.tp_pool_holds.specs.declared.locked.marks.Gone.{Gone}
use Rattle.tp_pool_holds.specs.declared.locked.marks.Gone.TheVariants as gone

abbrev pub gone_ruled : ℕ → Ruled → List ℕ
gone_ruled t ruled.Rejected = t ∷ []
gone_ruled t ruled.Discarded = t ∷ []
gone_ruled t (ruled.RetryDrop u) = u.0 ∷ []
gone_ruled t _ = []

-- with a step that was so answered, while these tasks were queued
abbrev pub gone_with : Did → List ℕ → List ℕ
gone_with (did.Second t s) queue = t.0 ∷ []
gone_with (did.Verdict t v r) queue = gone_ruled t.0 r
gone_with (did.CallerEnd t o) queue = t.0 ∷ []
gone_with (did.End w t o) queue = t.0 ∷ []
gone_with (did.Stop n) queue = queue
gone_with (did.Remove t true) queue = t.0 ∷ []
gone_with _ queue = []

-- those that an answer names
abbrev pub named : {J : Type 0} → Gone J → List ℕ
named gone.Nobody = []
named (gone.One t) = t.0 ∷ []
named (gone.Drained tasks) = map (λ x. x.0.0) tasks.now
