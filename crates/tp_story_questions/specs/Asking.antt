-- What an account was asked and told, and what it says.
use Rattle.std.specs.Prelude.{ℕ, ◌≡◌, Bool, false, List, [], reverse, Option, Some, None}
use Rattle.tp_types.specs.declared.configs.Config.{Config}
use Rattle.tp_record.specs.declared.entries.Entry.{Entry}
use Rattle.tp_audit_plain.specs.Audit.{IsFirstFlaw}
use Rattle.tp_story_words.specs.declared.forms.Form.{Form}

-- an account was asked this of the record of a pool with these settings
abbrev pub IsAskedOf : {A Q : Type 0} → (A → Config) → (Q → A → Type 0) → Q → A → Config → Type 0
IsAskedOf settings is_asked q a c = (settings a ≡ c) × is_asked q a

-- it was told these entries, oldest first, or this is the number of the first that is a flaw
abbrev pub IsToldAll : {A : Type 0} → (A → Config) → (A → List Entry → Type 0) → A → Option ℕ → List Entry → Type 0
IsToldAll settings tells a None es = tells a (reverse es)
IsToldAll settings tells a (Some n) es = IsFirstFlaw (settings a) es n

-- of these entries it says what it says of their history; of entries with a flaw it says nothing, and that this is so
abbrev pub SaysOfAll : {A : Type 0} → (A → Config) → (A → List Entry → Form → List ℕ → Bool → Type 0) → A → Option ℕ → List Entry → Form → List ℕ → Bool → Type 0
SaysOfAll settings says a None es f out holds = says a (reverse es) f out holds
SaysOfAll settings says a (Some n) es f out holds = IsFirstFlaw (settings a) es n × (out ≡ []) × (holds ≡ false)
