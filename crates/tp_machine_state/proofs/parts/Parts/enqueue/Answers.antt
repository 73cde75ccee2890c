use Rattle.std.proofs.Common.{true, Option, Some, refl, arith, sym, ap, ◌∙◌, inl, inr}
use Rattle.std.proofs.lemmas.Bool.{cases_eq, eq-eqb, ne_eqb}
use Rattle.std.proofs.lemmas.Option.{none-some}
use Rattle.tp_types.specs.declared.tasks.Place.TheVariants as at
use Rattle.tp_types.specs.Queues.{is_ranked}
use Rattle.tp_ring.specs.Ranks.{enter}
use Rattle.tp_record.specs.declared.rows.TaskRow.{TaskRow}
use Rattle.tp_record.specs.Lists.{join_line}
use Rattle.tp_queue.specs.Queues.{waiting_of}
use Rattle.tp_queue.specs.Waiting.{place_key}
use Rattle.tp_tasks.specs.Table.{row_of_task}
use Rattle.tp_tasks.specs.Tasks.{row_of}
use Rattle.tp_machine_state.specs.Shows.{numbers}
use Rattle.tp_machine_state.proofs.Joins.{joins}
use Rattle.tp_machine_state.proofs.Ties.{tied_row}
use Rattle.tp_machine_state.proofs.Rows.{held_row}
use Rattle.tp_machine_state.proofs.Offers.{waits_on, tied_number, tied_longer, keyed_seen}
use Rattle.tp_machine_state.proofs.parts.Parts.enqueue.Goals as goal

abbrev queued_row : TaskRow → Option TaskRow
queued_row r = Some (record r { place = at.Queued; second = true })

pub returns-clause-views : goal.returns-clause-views
returns-clause-views g c = λ v views.
    let old = c.args.self.now in
    let w = waiting_of old.queue in
    let t = c.args.t in
    let there = sym c.row.ensures ∙ c.in-Some.is in
    let n = c.set_place_number.ensures in
    let s = c.hand.ensures in
    let set = s.set c.in-Some.row (n.row ∙ there) in
    let few = c.requires.few in
    let shown = (held_row old c.hand.new.self v views t.0 c.in-Some.row there).1 in
    record {
      rank = views.rank;
      core_size = views.core_size;
      maximum_size = views.maximum_size;
      keep_alive = views.keep_alive;
      times_out = views.times_out;
      present = views.present;
      submitted = views.submitted ∙ sym (set.submitted ∙ n.submitted);
      rows = λ u held. elim (cases_eq u t.0) [
        | inl same ↦ rw (eq-eqb u t.0 same) (ap (row_of c.hand.new.self) same ∙ set.row ∙ ap queued_row (sym shown))
        | inr apart ↦ rw (ne_eqb u t.0 apart) (ap row_of_task (set.others u (ne_eqb t.0 u (λ b. apart (sym b))) ∙ n.others u (ne_eqb t.0 u (λ b. apart (sym b)))) ∙ views.rows u held)
      ];
      unknown = λ u off. elim (cases_eq u t.0) [
        | inl same ↦ absurd (none-some c.in-Some.row (sym (views.unknown u off) ∙ ap (row_of old.tasks) same ∙ there))
        | inr apart ↦ ap row_of_task (set.others u (ne_eqb t.0 u (λ b. apart (sym b))) ∙ n.others u (ne_eqb t.0 u (λ b. apart (sym b)))) ∙ views.unknown u off
      ];
      issued = views.issued;
      fates = λ f. views.fates f ∙ sym (s.fates f ∙ n.fates f);
      queued =
          ap (join_line (is_ranked w.kind) (λ u. (v.tasks u).priority) (Some t.0)) views.queued
          ∙ sym (joins (is_ranked w.kind) (λ u. (v.tasks u).priority) w.items w.offers t (omega (arith, few)) (keyed_seen old v views c.requires.keyed))
          ∙ ap (λ r. numbers (enter (place_key w.kind r w.offers) t w.items)) (ap (λ r. r.priority) shown)
          ∙ sym (ap (λ y. numbers y.items) c.in-Ok.ensures.queued);
      seats = views.seats;
      order = views.order;
      done = λ k. views.done k ∙ sym (s.done k ∙ n.done k);
      completed = views.completed;
      most = views.most;
    }

pub returns-clause-tied : goal.returns-clause-tied
returns-clause-tied g c = λ config n tied few.
    let old = c.args.self.now in
    let s = c.set_place_number.ensures in
    let before = sym c.row.ensures ∙ c.in-Some.is in
    let there = s.row ∙ before in
    let noted = tied_number config n old tied c.set_place_number.new.self c.args.t c.requires.absent s.others s.row s.promise s.payload in
    let set = c.hand.ensures.set c.in-Some.row there in
    let turned = tied_row config n (record old { tasks = c.set_place_number.new.self }) noted c.hand.new.self c.args.t.0 c.in-Some.row _ there set (waits_on c.requires.known.0 c.in-Some.row (sym c.requires.known.1 ∙ before) c.requires.known.2) refl refl in
    tied_longer config n (record old { tasks = c.hand.new.self }) turned c.offer.new.self c.args.t _ set.row c.in-Ok.ensures.queued few (set.number ∙ s.number ∙ ap (λ x. Some x) c.in-Ok.ensures.place)
