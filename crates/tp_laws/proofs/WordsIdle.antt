-- The order of idling: the words of the rules agree with the working tables.
use Rattle.std.proofs.Common.{◌≡◌, ℕ, Bool, ◌&&◌, List, [], ◌∷◌, Option, Some, None, refl, ap, ◌∙◌}
use Rattle.std.specs.Prelude.{filter, is_some}
use Rattle.std.proofs.lemmas.List.Elements.{filter_agree}
use Rattle.tp_types.specs.declared.configs.Config.{Config}
use Rattle.tp_record.specs.declared.entries.Entry.{Entry}
use Rattle.tp_record.specs.declared.entries.Did.{Did}
use Rattle.tp_record.specs.declared.entries.Did.TheVariants as did
use Rattle.tp_record.specs.declared.entries.Took.TheVariants as took
use Rattle.tp_record.specs.declared.rows.SlotRow.{SlotRow}
use Rattle.tp_record.specs.declared.rows.Stage.{Stage}
use Rattle.tp_record.specs.declared.rows.Stage.TheVariants as stages
use Rattle.tp_record.specs.Lists.{at_end}
use Rattle.tp_record.specs.Effects.{idles}
use Rattle.tp_record.specs.Fields.{idled, idling, is_idle, is_idle_row, is_idle_stage, is_live, is_live_stage, slot_row}
use Rattle.tp_record.specs.Words.{idle_since, is_live_now}
use Rattle.tp_laws.proofs.Model.Given.{Told}
use Rattle.tp_laws.specs.Agrees.{idle_of}
use Rattle.tp_laws.specs.IdleLine.{idle_line, is_idle_now, waits_from, waits_in_order}
use Rattle.tp_laws.proofs.WordsSlots.{idle_agrees, live_agrees}

from_step : (d : Did) → waits_from d ≡ idles d
from_step (did.Take w took.Idle) = refl
from_step _ = refl

order_agrees : (h : List Entry) → waits_in_order h ≡ idled h
order_agrees [] = refl
order_agrees (e ∷ h) = ap (λ o. at_end o (waits_in_order h)) (from_step e.did) ∙ ap (at_end (idles e.did)) (order_agrees h)

idle_stage : (s : Stage) → (is_live_stage s && is_some (idle_of s)) ≡ is_idle_stage s
idle_stage (stages.Idle m) = refl
idle_stage _ = refl

idle_row : (o : Option SlotRow) (live : Bool) (since : Option ℕ) → live ≡ is_live o → ((r : SlotRow) → o ≡ Some r → since ≡ idle_of r.stage) → (live && is_some since) ≡ is_idle_row o
idle_row None live since lives tells = ap (λ b. b && is_some since) lives
idle_row (Some r) live since lives tells = ap (λ b. b && is_some since) lives ∙ ap (λ o. is_live_stage r.stage && is_some o) (tells r refl) ∙ idle_stage r.stage

-- a slot is idle in words where its row says so
pub idle_now_agrees : (c : Config) (h : List Entry) → Told c h → (w : ℕ) → is_idle_now h w ≡ is_idle h w
idle_now_agrees c h told w = idle_row (slot_row h w) (is_live_now h w) (idle_since h w) (live_agrees c h told w) (idle_agrees h w)

pub idle_line_agrees : (c : Config) (h : List Entry) → Told c h → idle_line h ≡ idling h
idle_line_agrees c h told =
    filter_agree (is_idle_now h) (is_idle h) (idle_now_agrees c h told) (waits_in_order h) ∙ ap (filter (is_idle h)) (order_agrees h)
