-- How a step leads from structures that show a state to structures that show the next: what is seen of the next state, and what the changes of the
-- structures keep in view, are the same.
use Rattle.std.proofs.Common.{◌≡◌, ℕ, suc, ◌+◌, ◌-◌, not, ◌&&◌, cond, List, Some, refl, arith, sym, ap, ◌∙◌}
use Rattle.std.specs.Prelude.{nat_lt, is_some}
use Rattle.tp_record.specs.declared.entries.Entry.{Entry}
use Rattle.tp_record.specs.declared.entries.Ask.{Ask}
use Rattle.tp_record.specs.declared.entries.Did.{Did}
use Rattle.tp_record.specs.Lists.{is_among}
use Rattle.tp_record.specs.Fields.{is_live}
use Rattle.tp_record.specs.State.{State, state, next, due}
use Rattle.tp_record.specs.Left.{mark, MayAll}
use Rattle.tp_record.specs.Step.{Legal}
use Rattle.tp_laws.proofs.Model.Given.{Given}
use Rattle.tp_machine_state.specs.declared.parts.Parts.{Parts}
use Rattle.tp_laws.specs.View.{View, view, is_held, Reads, Effect}
use Rattle.tp_machine_state.specs.Shows.{Views, Shows}
use Rattle.tp_machine_state.specs.Tied.{IsTied}
use Rattle.tp_machine_state.specs.Steps.{Stands, Fits, Leads}
use Rattle.tp_machine_state.specs.Terms.{terms}
use Rattle.tp_machine_state.proofs.Standing.{given_fitting, given_here, owed_here}
use Rattle.tp_machine_state.proofs.Sums.{sums_agree}
use Rattle.tp_machine_state.proofs.Ties.{tied_more}

module _ {P : Type 0} where
  -- what is read of a state is what is seen of it
  pub views_read : (p : Parts P) (rs : List ℕ) (s : State) (v : View) → Reads s v → Views p (record v { left_out = rs }) → Views p (view (mark rs s))
  views_read p rs s v reads views =
      let n = reads.submitted in
      record {
        rank = reads.rank ∙ views.rank;
        core_size = reads.core ∙ views.core_size;
        maximum_size = reads.maximum ∙ views.maximum_size;
        keep_alive = reads.keep ∙ views.keep_alive;
        times_out = reads.core_timeout ∙ views.times_out;
        present = reads.now ∙ views.present;
        submitted = reads.submitted ∙ views.submitted;
        rows = λ t known. views.rows t (sym (held t) ∙ known) ∙ ap (λ r. Some r) (sym (reads.tasks t));
        unknown = λ t off. views.unknown t (sym (held t) ∙ off);
        issued = λ t is. let below = views.issued t is in omega (arith, n, below);
        fates = λ f. reads.fates f ∙ views.fates f;
        queued = reads.queue ∙ views.queued;
        seats = λ w. reads.slots w ∙ views.seats w;
        order = reads.idling ∙ views.order;
        done = λ g. reads.done g ∙ views.done g;
        completed = reads.completions ∙ views.completed;
        most = reads.largest ∙ views.most;
      }
    where
      -- the same tasks are held
      held : (t : ℕ) → is_held (view (mark rs s)) t ≡ is_held (record v { left_out = rs }) t
      held t = ap (λ n. not (is_among t rs) && nat_lt t n) reads.submitted

  -- so structures that keep in view what is seen of the next state, count one entry more and owe what it leaves owed show it
  pub shows_next : (old new : Parts P) (rs : List ℕ) (s : State) (d : Did) (v : View) (fall rise : ℕ) → Shows old (mark rs s) → Effect s d v fall rise → Views new (record v { left_out = rs }) →
      new.steps ≡ suc old.steps → new.due + fall ≡ old.due + rise → Shows new (mark rs (next s d))
  shows_next old new rs s d v fall rise sh effect views counted owes =
      let seen = views_read new rs (next s d) v effect.reads views in
      let e = effect.owes in
      let o : due s ≡ old.due = sh.owed in
      record {
        entries = ap suc sh.entries ∙ sym counted;
        seen = seen;
        taken = sums_agree (λ x. cond (is_some x) 1 0) (next s d).slots new.slots.slots refl seen.seats;
        live = sums_agree (λ x. cond (is_live x) 1 0) (next s d).slots new.slots.slots refl seen.seats;
        owed = omega (arith, e, o, owes);
      }

  -- the whole of what a step does: the effect of its entry, in view of the new structures
  pub leads_where : (old new : Parts P) (a : Ask) (d : Did) (fall rise : ℕ) → Fits old a d →
      ((h : List Entry) (rs : List ℕ) → Legal (terms old) h → MayAll rs (state (terms old) h) → Given (terms old) h d → Shows old (mark rs (state (terms old) h)) → (v : View) × Effect (state (terms old) h) d v fall rise × Views new (record v { left_out = rs })) →
      (terms new) ≡ (terms old) → new.steps ≡ suc old.steps → new.due + fall ≡ old.due + rise → IsTied (terms old) (suc old.steps) new → Leads old d new
  leads_where old new a d fall rise fits effects config steps owes tied = record {
    shows = λ h rs legal may sh.
        let e = effects h rs legal may (given_fitting (terms old) h rs a d legal (fits h rs legal may sh)) sh in
        shows_next old new rs (state (terms old) h) d e.0 fall rise sh e.1 e.2 steps owes;
    tied = tied;
    config = config;
    steps = steps;
  }

  -- the same, where the effect does not depend on what was released
  pub leads_by : (old new : Parts P) (a : Ask) (d : Did) (fall rise : ℕ) → Fits old a d →
      ((h : List Entry) (rs : List ℕ) → Legal (terms old) h → Given (terms old) h d → Shows old (mark rs (state (terms old) h)) → (v : View) × Effect (state (terms old) h) d v fall rise × Views new (record v { left_out = rs })) →
      (terms new) ≡ (terms old) → new.steps ≡ suc old.steps → new.due + fall ≡ old.due + rise → IsTied (terms old) (suc old.steps) new → Leads old d new
  leads_by old new a d fall rise fits effects = leads_where old new a d fall rise fits (λ h rs legal may. effects h rs legal)

  -- and of structures that stand, where one entry was counted by which n fewer are owed
  pub leads_from : (old new : Parts P) (a : Ask) (d : Did) (fall rise n : ℕ) → Stands old → Fits old a d →
      ((h : List Entry) (rs : List ℕ) → Legal (terms old) h → Given (terms old) h d → Shows old (mark rs (state (terms old) h)) → (v : View) × Effect (state (terms old) h) d v fall rise × Views new (record v { left_out = rs })) →
      fall ≡ n + rise → (terms new) ≡ (terms old) → new.steps ≡ suc old.steps → new.due ≡ old.due - n → (IsTied (terms old) (suc old.steps) old → IsTied (terms old) (suc old.steps) new) → Leads old d new
  leads_from old new a d fall rise n stands fits effects net config steps due tied =
      let e = effects stands.history stands.released stands.legal (given_here old stands a d fits) stands.shows in
      let owed = owed_here old stands d e.0 fall rise e.1 in
      leads_by old new a d fall rise fits effects config steps (omega (arith, due, owed, net)) (tied (tied_more (terms old) old.steps old stands.tied))
