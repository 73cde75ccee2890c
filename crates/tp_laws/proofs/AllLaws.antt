-- All laws hold of a legal record.
use Rattle.std.proofs.Common.{◌≡◌, List, ◌∷◌, ◌++◌, subst}
use Rattle.tp_types.specs.Config.{IsConfig}
use Rattle.tp_types.specs.declared.configs.Config.{Config}
use Rattle.tp_record.specs.declared.entries.Entry.{Entry}
use Rattle.tp_record.specs.Step.{Legal}
use Rattle.tp_laws.proofs.Model.Readings.{legal_tail}
use Rattle.tp_laws.proofs.Model.Given.{Told}
use Rattle.tp_laws.proofs.Model.Told.{told_legal}
use Rattle.tp_laws.proofs.OwedLaws as room
use Rattle.tp_laws.specs.Laws.{HasGoodSizes}
use Rattle.tp_laws.specs.Lawful.{IsLawful}
use Rattle.tp_laws.proofs.Begins as begins
use Rattle.tp_laws.proofs.Fates as fates
use Rattle.tp_laws.proofs.Finishes as finishes
use Rattle.tp_laws.proofs.InLine as line
use Rattle.tp_laws.proofs.Late as late
use Rattle.tp_laws.proofs.Order as order
use Rattle.tp_laws.proofs.Places as places
use Rattle.tp_laws.proofs.QueuedOnce as queued
use Rattle.tp_laws.proofs.Ranks as ranks
use Rattle.tp_laws.proofs.Seconds as seconds
use Rattle.tp_laws.proofs.Serves as serves
use Rattle.tp_laws.proofs.Sizes as sizes
use Rattle.tp_laws.proofs.Slots as slots
use Rattle.tp_laws.proofs.Sums as sums

module _ (c : Config) (h : List Entry) (good : HasGoodSizes c) (legal : Legal c h) where
  -- the record in two parts is legal, and so is its front
  whole : (later front : List Entry) → h ≡ later ++ front → Legal c (later ++ front)
  whole later front parts = subst (λ x. Legal c x) parts legal

  legal_at : (later front : List Entry) → h ≡ later ++ front → Legal c front
  legal_at later front parts = legal_tail c later front (whole later front parts)

  told_whole : (later front : List Entry) → h ≡ later ++ front → Told c (later ++ front)
  told_whole later front parts = told_legal c (later ++ front) (whole later front parts)

  told_at : (later front : List Entry) → h ≡ later ++ front → Told c front
  told_at later front parts = told_legal c front (legal_at later front parts)

  pub sized_is_lawful : IsLawful c h
  sized_is_lawful =
      record {
        one_place = λ later front parts. places.one_place c front (told_at later front parts);
        begins_once = λ later front parts. begins.begins_once c front (told_at later front parts);
        finishes_once = λ later front parts. finishes.finishes_once c front (told_at later front parts);
        one_task_a_slot = λ later front parts. places.one_task_a_slot c front (told_at later front parts);
        fates_are_disjoint = λ later front parts. fates.disjoint c front (told_at later front parts);
        fate_never_changes = λ later front parts. fates.never_changes c later front (told_whole later front parts);
        gone_has_fate = λ later front parts. fates.gone_has_fate c front (told_at later front parts);
        fated_is_gone = λ later front parts. fates.fated_is_gone c front (told_at later front parts);
        numbered_in_order = λ later front parts. sums.numbered_in_order c front (told_at later front parts);
        submissions_add_up = λ later front parts. sums.submissions_add_up c front (told_at later front parts);
        queued_once = λ later front parts. queued.queued_once c front (told_at later front parts);
        first_leaves = λ later e front parts. order.first_leaves c e front (told_at later (e ∷ front) parts);
        queue_order = λ plain later e front parts after between before queues_u queues_t is.
            order.queue_order c e after between before queues_u queues_t plain (subst (λ x. Told c (e ∷ x)) is (told_at later (e ∷ front) parts));
        none_before = λ later e front parts. order.none_before c e front (told_at later (e ∷ front) parts);
        first_of_equals = λ later e front parts after between before queues_u queues_t is.
            order.first_of_equals c e after between before queues_u queues_t (subst (λ x. Told c (e ∷ x)) is (told_at later (e ∷ front) parts));
        lists_those_waiting = λ later front parts. line.lists_those_waiting c front (told_at later front parts);
        least_first = λ later front parts. line.least_first c front;
        offers_in_order = λ later front parts. line.offers_in_order c front;
        nothing_begins_after_shutdown = λ later front parts. late.none_after_shutdown c later front (told_whole later front parts);
        stopped_never_begins = λ later e front parts. late.stopped_never c later e front (told_whole later (e ∷ front) parts);
        queued_late_never_begins = λ later e front parts. late.queued_late_never c later e front (told_whole later (e ∷ front) parts);
        no_idle_after_shutdown = λ later front parts. ranks.none_idle c front (told_at later front parts);
        none_idling = λ later front parts. ranks.none_idling c front (told_at later front parts);
        tidy_once = λ later front parts. ranks.tidy_once c front (told_at later front parts);
        ended_once = λ later front parts. ranks.ended_once c front (told_at later front parts);
        no_slots_after_tidy = λ later front parts between e before is.
            slots.none_after_tidy c between e before (subst (λ x. Told c x) is (told_at later front parts));
        second_look_owed_after_stop = λ later front parts. seconds.second_look_owed c front (told_at later front parts);
        owed_after_tidy = λ later front parts. places.owed_after_tidy c front (told_at later front parts);
        served = λ later front parts. serves.served c front good (told_at later front parts);
        slots_within_maximum = λ later e front parts. sizes.slots_within_maximum c e front good (told_at later (e ∷ front) parts);
        queue_within_capacity = λ later front parts. sizes.queue_within_capacity c front (legal_at later front parts);
        room_is_enough = λ later front parts. room.room_is_enough c front good.least_limit (legal_at later front parts);
        owed_falls = λ later e front parts. room.entries_lower c e front (legal_at later (e ∷ front) parts);
        never_short_of_room = λ later front parts w a. room.never_short_of_room c front w a good.least_limit (legal_at later front parts);
      }

-- so they do in a pool's settings
pub legal_is_lawful : (c : Config) (h : List Entry) → IsConfig c → Legal c h → IsLawful c h
legal_is_lawful c h config = sized_is_lawful c h (sizes.good_sizes c config)
