-- What became of the tasks of records, and which tasks ended otherwise.
use Rattle.std.specs.Prelude.{ℕ, zero, suc, max, ◌≡◌, ◌≢◌, ◌⊎◌, ◌++◌, ◌∷◌, List, [], Option, Some, None, codes, length, map, reverse, slice_get}
use Rattle.std.specs.Fmt.{decimal}
use Rattle.std.specs.declared.vec.Vec.{Vec}
use Rattle.std.specs.declared.alloc.Global.{Global}
use Rattle.tp_types.specs.Fate.{fate_name}
use Rattle.tp_types.specs.declared.configs.Config.{Config}
use Rattle.tp_types.specs.declared.tasks.Fate.{Fate}
use Rattle.tp_record.specs.declared.entries.Entry.{Entry}
use Rattle.tp_record.specs.Fields.{task_rows}
use Rattle.tp_record.specs.State.{fate_of}
use Rattle.tp_record.specs.Step.{Legal}
use Rattle.tp_audit_plain.specs.Audit.{IsFirstFlaw}
use Rattle.tp_story_words.specs.declared.forms.Form.{Form}
use Rattle.tp_story_words.specs.declared.forms.Form.TheVariants as form
use Rattle.tp_story_questions.specs.Answers.{IsRecordText}
use Rattle.tp_story_claims.specs.declared.endings.Otherwise.{Otherwise}

-- these entries, the oldest first, are a legal record, and these are the fates of its tasks; or they have a flaw
abbrev pub AreFates : Config → List Entry → Option (Vec (Option Fate) Global) → Type 0
AreFates c es (Some fates) = Legal c (reverse es) × (fates.items ≡ map fate_of (task_rows (reverse es)))
AreFates c es None = (n : ℕ) × IsFirstFlaw c es n

-- the same of the record of a text, which may be cut off
abbrev pub AreFatesOf : List ℕ → Option (Vec (Option Fate) Global) → Type 0
AreFatesOf text fates = (c : Config) × (es : List Entry) × IsRecordText text c es × AreFates c es fates

-- what became of a task in two records; None where the record does not submit it
abbrev pub ends_of : List (Option Fate) → List (Option Fate) → ℕ → Otherwise
ends_of first second t = record { task = t; first = slice_get first t; second = slice_get second t }

-- how many tasks the one has that has more
abbrev pub tasks_of : List (Option Fate) → List (Option Fate) → ℕ
tasks_of first second = max (length first) (length second)

-- among the first n tasks just these ended otherwise, the least number first
abbrev pub AreOtherwise : List (Option Fate) → List (Option Fate) → ℕ → List Otherwise → Type 0
AreOtherwise first second zero found = found ≡ []
AreOtherwise first second (suc n) found =
    ((slice_get first n ≡ slice_get second n) × AreOtherwise first second n found)
    ⊎ ((slice_get first n ≢ slice_get second n) × ((before : List Otherwise) × (found ≡ before ++ ends_of first second n ∷ []) × AreOtherwise first second n before))

-- what became of a task, in a word or two
abbrev pub end_name : Option (Option Fate) → List ℕ
end_name None = codes "not submitted"
end_name (Some None) = codes "open"
end_name (Some (Some f)) = fate_name f

-- the line of a task that ended otherwise
abbrev pub end_line : Form → Otherwise → List ℕ
end_line form.Words o = codes "t" ++ (decimal o.task ++ (codes ": " ++ (end_name o.first ++ (codes ", and " ++ (end_name o.second ++ codes "\n")))))
end_line form.Json o =
    codes "{\"task\":" ++ (decimal o.task ++ (codes ",\"first\":\"" ++ (end_name o.first ++ (codes "\",\"second\":\"" ++ (end_name o.second ++ codes "\"}\n")))))
