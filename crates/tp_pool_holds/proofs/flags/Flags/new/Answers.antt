use Rattle.std.proofs.Common.{◌≡◌, List, [], ◌∷◌, ◌++◌, length, take, replicate, map, rules, refl, ap, sym, subst, ◌∙◌}
use Rattle.std.specs.Prelude.{Option, None}
use Rattle.std.specs.List.{FoldsTo}
use Rattle.std.proofs.Math.Seq.{take-nil}
use Rattle.tp_types.specs.declared.ids.TaskId.{TaskId}
use Rattle.tp_protocols.specs.declared.flags.CancelFlag.{CancelFlag}
use Rattle.tp_pool_holds.specs.Flagged.{FlagsView}
use Rattle.tp_pool_holds.proofs.flags.Flags.new.Goals as goal

-- as many of the same, where each call gives it
all_same : {F X : Type 0} (step : F → X → F → Type 0) (v : X) → ((f : F) (x : X) (g : F) → step f x g → x ≡ v) → (f : F) (xs : List X) (g : F) → FoldsTo step f xs g → xs ≡ replicate (length xs) v
all_same step v each f [] g folds = refl
all_same step v each f (x ∷ xs) g folds =
    subst (λ y. x ∷ xs ≡ y ∷ replicate (length xs) v) (each f x folds.0 folds.1) (ap (λ ys. x ∷ ys) (all_same step v each folds.0 xs g folds.2))

pub returns : goal.returns
returns c =
    let made = c.in_ok-resize_with.ensures.items in
    let empty : c.new-none.result.items ≡ [] = search rules in
    let items = made.2 ∙ ap (λ xs. take c.args.slots xs ++ made.0) empty ∙ ap (λ xs. xs ++ made.0) (take-nil c.args.slots) in
    let all = items ∙ all_same _ None (λ f x g k. search rules) _ made.0 made.1 made.3 in
    let many : length c.resize_with.new.self.items ≡ c.args.slots = search rules in
    let slots : c.resize_with.new.self.items ≡ replicate c.args.slots None = all ∙ ap (λ n. replicate n None) (ap length (sym items) ∙ many) in
    let callers : c.new.result.items ≡ [] = search rules in
    let view : List (Option CancelFlag) → List (TaskId × CancelFlag) → FlagsView = λ r a. record { slots = r; at_callers = map (λ x. x.0.0) a } in
    ap (λ r. view r c.new.result.items) slots ∙ ap (λ a. view (replicate c.args.slots None) a) callers
