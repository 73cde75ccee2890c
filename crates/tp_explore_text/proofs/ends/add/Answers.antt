use Rattle.std.proofs.Common.{◌≡◌, ◌≢◌, refl, sym, ap, subst, ◌∙◌}
use Rattle.std.specs.List.{All}
use Rattle.std.proofs.lemmas.Option.{get_or_from_slice_get}
use Rattle.tp_explore_walk.specs.Moves.{IsAt}
use Rattle.tp_explore_walk.specs.Paths.{Tells}
use Rattle.tp_explore_text.specs.Ends.{text_of}
use Rattle.tp_explore_text.proofs.Told.{told-again, told-anew}
use Rattle.tp_explore_text.proofs.ends.add.Goals as goal

pub returns-in-Some : goal.returns-in-Some
returns-in-Some c = λ labels xs zs ns z n told at same tells.
    let es = c.args.ends.now.items in
    let e = c.in-Some.ensures.0 in
    let there : IsAt es c.in-Some.i e = subst (λ l. IsAt l c.in-Some.i e) c.deref.ensures.value c.in-Some.ensures.1 in
    let text : text_of e ≡ text_of c.args.end = c.in-Some.ensures.2 ∙ c.as_str.ensures.value in
    let changed : c.index_mut.result.now ≡ e = c.index_mut.ensures.value ∙ get_or_from_slice_get es c.in-Some.i e _ there in
    let read : c.index.result.now ≡ e = c.index.ensures ∙ get_or_from_slice_get es c.in-Some.i e _ there in
    told-again labels xs zs ns z n es _ c.in-Some.i e _ told there (same ∙ sym text) refl (ap text_of changed) (ap (λ x. x.place) changed)
    (λ m h. c.plus.ensures m n (subst (λ x. Tells x.count m) (sym read) h) tells)

pub returns-in_ok-push-in-None : goal.returns-in_ok-push-in-None
returns-in_ok-push-in-None c = λ labels xs zs ns z n told at same tells.
    let es = c.args.ends.now.items in
    let others : All (λ a. text_of a ≢ text_of c.args.end) es =
    subst (λ l. All (λ a. text_of a ≢ text_of c.args.end) l) c.deref.ensures.value (subst (λ t. All (λ a. text_of a ≢ t) c.deref.result.now) c.as_str.ensures.value c.in-None.ensures) in
    told-anew labels xs zs ns z n es _ c.args.end told others same at tells c.in_ok-push-in-None.ensures.items
