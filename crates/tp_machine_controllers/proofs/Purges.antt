-- What a purge makes of a state, and that the queue of a state holds those whose place it is.
use Rattle.std.proofs.Common.{◌≡◌, ℕ, ◌*◌, true, List, Ok, Contains, refl, sym, ap, subst, ◌∙◌}
use Rattle.std.specs.Prelude.{count_by}
use Rattle.std.proofs.lemmas.Bool.{false≢true}
use Rattle.tp_types.specs.declared.configs.Config.{Config}
use Rattle.tp_types.specs.declared.tasks.Place.{Place}
use Rattle.tp_types.specs.declared.tasks.Place.TheVariants as at
use Rattle.tp_record.specs.declared.entries.Entry.{Entry}
use Rattle.tp_record.specs.declared.entries.Ask.TheVariants as ask
use Rattle.tp_record.specs.declared.entries.Did.TheVariants as did
use Rattle.tp_record.specs.Fields.{place, queue, is_queued, is_queued_place}
use Rattle.tp_record.specs.Left.{mark, MayAll}
use Rattle.tp_record.specs.State.{state, task_at}
use Rattle.tp_record.specs.Step.{Legal, Answer}
use Rattle.tp_laws.proofs.Model.Queues.{among-queue, Contains-from_among, among_from_Contains}
use Rattle.tp_laws.proofs.Model.Told.{sound_legal}
use Rattle.tp_laws.specs.View.{View, view}
use Rattle.tp_laws.proofs.Effects.Next.{row_sound}
use Rattle.tp_laws.proofs.Effects.Controllers.Purge.{purge}
use Rattle.tp_machine_state.specs.declared.parts.Parts.{Parts}
use Rattle.tp_machine_state.specs.Purges.{HoldsQueued}
use Rattle.tp_machine_state.specs.Shows.{Views}
use Rattle.tp_machine_state.specs.Steps.{Fits}
use Rattle.tp_machine_state.specs.Terms.{terms}
use Rattle.tp_machine_state.proofs.Answering.{Moves}
use Rattle.tp_machine_state.proofs.Drains.{queued_once, queued_held}

queued_place : (p : Place) → is_queued_place p ≡ true → p ≡ at.Queued
queued_place at.Queued is = refl
queued_place _ is = absurd (false≢true is)

pub holds_queued : (c : Config) (h : List Entry) (rs : List ℕ) → Legal c h → MayAll rs (state c h) → HoldsQueued (view (mark rs (state c h)))
holds_queued c h rs legal may = record {
  known = λ t has. queued_held c h legal rs may t (queued t has);
  once = queued_once c h legal;
  placed = λ t. (
    (λ has. read t ∙ queued_place (place h t) (queued t has)),
    (λ placed. Contains-from_among (queue c h) t (among-queue c h t ∙ ap is_queued_place (sym (read t) ∙ placed))),
  );
}
  where
    queued : (t : ℕ) → Contains (queue c h) t → is_queued h t ≡ true
    queued t has = sym (among-queue c h t) ∙ among_from_Contains (queue c h) t has

    read : (t : ℕ) → (task_at (state c h) t).place ≡ place h t
    read t = ap (λ r. r.place) (row_sound h (sound_legal c h legal) c t)

-- what is owed falls by six for each
pub purge_moves : {P : Type 0} (p : Parts P) (n k : ℕ) → k ≡ n → Moves p (6 * k) 0 (did.Purge n)
purge_moves p n k is = let Q : ℕ → Type 0 = λ m. Moves p (6 * m) 0 (did.Purge n) in subst Q (sym is) (λ h rs legal sh given. (_, purge (terms p) h n legal given))

-- the number that was counted is the answer
pub purge_fits : {P : Type 0} (p : Parts P) (n : ℕ) → ((v : View) → Views p v → HoldsQueued v → n ≡ count_by (λ t. (v.tasks t).cancelled) v.queue) → Fits p ask.Purge (did.Purge n)
purge_fits p n counted = λ h rs legal may sh. (ap {A = ℕ} {B = Answer} (λ k. Ok (did.Purge k)) (sym (counted (view (mark rs (state (terms p) h))) sh.seen (holds_queued (terms p) h rs legal may))), tt)
