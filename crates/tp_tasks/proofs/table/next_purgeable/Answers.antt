use Rattle.std.proofs.Common.{◌≡◌, ℕ, ◌-◌, [], ◌∷◌, List, Option, None, length, refl, ap, sym, ◌∙◌, arith}
use Rattle.std.specs.Prelude.{slice_get, option_copied}
use Rattle.std.proofs.lemmas.Option.{none-some, slice_get-get_or}
use Rattle.tp_tasks.proofs.Noted.{some_noted}
use Rattle.tp_tasks.proofs.table.next_purgeable.Goals as goal

nothing : (xs : List ℕ) → ◌≡◌ {A = Option ℕ} None (slice_get xs (length xs - 1)) → xs ≡ []
nothing [] is = refl
nothing (x ∷ xs) is = absurd (none-some _ (is ∙ slice_get-get_or (x ∷ xs) (length (x ∷ xs) - 1) x (omega arith)))

pub unreachable-requires : goal.unreachable-requires
unreachable-requires g c =
    let m = c.loop-tasks.tasks in
    let taken = m.purged in
    let some = c.loop-tasks-test.true in
    some_noted m (omega (arith, taken, some)) (sym c.deref.ensures.value ∙ nothing c.deref.result.now (ap option_copied (sym c.in_default.is) ∙ c.last.ensures.value))
