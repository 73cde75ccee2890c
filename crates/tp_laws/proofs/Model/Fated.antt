-- A submitted task that is gone has a fate.
use Rattle.std.proofs.Common.{◌≡◌, ℕ, suc, ◌<◌, Bool, true, false, ◌&&◌, cond, List, [], ◌∷◌, refl, arith, sym, ap, ◌∙◌}
use mathlib.Core.Path.{ap₂}
use Rattle.std.specs.Prelude.{Option, Some, None, is_none, is_some, nat_lt}
use Rattle.std.proofs.lemmas.Bool.{lt-ltb, true≢false}
use Rattle.std.proofs.lemmas.Bool.Decides.{nat_tests}
use Rattle.tp_types.specs.declared.configs.Config.{Config}
use Rattle.tp_types.specs.declared.tasks.Place.TheVariants as at
use Rattle.tp_record.specs.declared.entries.Entry.{Entry}
use Rattle.tp_record.specs.declared.entries.Did.{Did}
use Rattle.tp_record.specs.declared.entries.Did.TheVariants as did
use Rattle.tp_record.specs.declared.rows.TaskRow.{TaskRow}
use Rattle.tp_record.specs.Effects.{is_submit}
use Rattle.tp_record.specs.Fields.{submitted, task_row, place}
use Rattle.tp_record.specs.State.{row_after, fate_of}
use Rattle.tp_laws.proofs.Model.Given.{Given, Told}
use Rattle.tp_laws.proofs.Model.Weak.{is_gone_place}

-- task t of n that were submitted is gone and has no fate
abbrev is_lost : ℕ → ℕ → TaskRow → Bool
is_lost n t r = nat_lt t n && (is_gone_place r.place && is_none (fate_of r))

-- an entry loses no task, by what is given of it
keeps : (c : Config) (h : List Entry) (d : Did) (t : ℕ) → Given c h d → is_lost (submitted h) t (task_row h t) ≡ false →
    is_lost (cond (is_submit d) (suc (submitted h)) (submitted h)) t (row_after d t (task_row h t)) ≡ false
keeps c h (did.Submit u k p l) t given was = grind (arith, nat_tests)
keeps c h _ t given was = grind (arith, nat_tests)

never_lost : (c : Config) (h : List Entry) → Told c h → (t : ℕ) → is_lost (submitted h) t (task_row h t) ≡ false
never_lost c [] told t = grind (arith, nat_tests)
never_lost c (e ∷ h) told t = keeps c h e.did t told.0 (never_lost c h told.1 t)

pub gone_fated : (c : Config) (h : List Entry) → Told c h → (t : ℕ) → t < submitted h → place h t ≡ at.Gone → is_some (fate_of (task_row h t)) ≡ true
gone_fated c h told t known gone =
    some (fate_of (task_row h t))
    (sym (ap₂ (λ a b. a && (b && is_none (fate_of (task_row h t)))) (lt-ltb t (submitted h) known) (ap is_gone_place gone)) ∙ never_lost c h told t)
  where
    some : {A : Type 0} → (o : Option A) → is_none o ≡ false → is_some o ≡ true
    some None is = absurd (true≢false is)
    some (Some x) is = refl
