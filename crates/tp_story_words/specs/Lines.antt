-- The lines of a story.
use Rattle.std.specs.Prelude.{ℕ, ◌≡◌, ◌-◌, ◌^◌, ◌++◌, ◌∷◌, List, [], Option, Some, None, codes}
use Rattle.std.specs.Fmt.{decimal, format_spec, styled_decimal}
use Rattle.tp_types.specs.declared.tasks.Fate.{Fate}
use Rattle.tp_types.specs.Fate.{fate_name}
use Rattle.tp_text.specs.Lines.{HasNoLineFeed}
use Rattle.tp_story.specs.declared.events.Event.{Event}
use Rattle.tp_story_words.specs.declared.forms.Form.{Form}
use Rattle.tp_story_words.specs.declared.forms.Form.TheVariants as form

-- one line, with its line feed
abbrev pub IsLine : List ℕ → Type 0
IsLine line = (words : List ℕ) × HasNoLineFeed words × (line ≡ words ++ codes "\n")

-- a number at the right of eight columns, as `{:>8}` writes it
abbrev pub in_column : ℕ → List ℕ
in_column n = styled_decimal (format_spec 32 3 0 8 (2 ^ 64 - 1)) n

-- the line of an entry says its number first
abbrev pub event_line : Form → ℕ → List ℕ → List ℕ
event_line form.Words n words = in_column n ++ (codes "  " ++ (words ++ codes "\n"))
event_line form.Json n words = codes "{\"number\":" ++ (decimal n ++ (codes "," ++ (words ++ codes "\n")))

-- a line for each of these events, in their order, and no other
abbrev pub AreLines : Form → List Event → List ℕ → Type 0
AreLines f [] out = out ≡ []
AreLines f (e ∷ es) out = (words rest : List ℕ) × HasNoLineFeed words × AreLines f es rest × (out ≡ event_line f e.number words ++ rest)

-- the last line says the fate, and the entry that gave it; where there is none it says something else
abbrev pub IsEnd : Form → Option Fate → Option ℕ → List ℕ → Type 0
IsEnd form.Words (Some f) (Some n) out = out ≡ codes "fate: " ++ (fate_name f ++ (codes ", at entry " ++ (decimal n ++ codes "\n")))
IsEnd form.Json (Some f) (Some n) out = out ≡ codes "{\"fate\":\"" ++ (fate_name f ++ (codes "\",\"at\":" ++ (decimal n ++ codes "}\n")))
IsEnd _ _ _ out = IsLine out

-- a story that is told: a line above, the lines of its events, and what became of it
pub record IsToldStory (f : Form) (events : List Event) (fate : Option Fate) (fated : Option ℕ) (out : List ℕ) : Type 0 where
  pub above : List ℕ
  pub lines : List ℕ
  pub below : List ℕ
  pub is_text : out ≡ above ++ lines ++ below
  pub head : IsLine above
  pub each : AreLines f events lines
  pub end : IsEnd f fate fated below
