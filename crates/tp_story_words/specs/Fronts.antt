-- What is said first of the pool after an entry.
use Rattle.std.specs.Prelude.{ℕ, ◌++◌, List, codes}
use Rattle.std.specs.Fmt.{decimal}
use Rattle.tp_types.specs.RunState.{state_name}
use Rattle.tp_audit.specs.declared.tables.Tables.{Tables}
use Rattle.tp_text.specs.EndLines.{state_at}
use Rattle.tp_story_words.specs.declared.forms.Form.{Form}
use Rattle.tp_story_words.specs.declared.forms.Form.TheVariants as form

-- after which entry, the run state, and the moment
abbrev pub front_head : Form → Tables → List ℕ
front_head form.Words t = codes "after entry " ++ (decimal t.steps ++ (codes ": " ++ (state_name (state_at t.rank) ++ (codes ", at moment " ++ (decimal t.moment ++ codes ", ")))))
front_head form.Json t = codes "{\"entry\":" ++ (decimal t.steps ++ (codes ",\"state\":\"" ++ (state_name (state_at t.rank) ++ (codes "\",\"moment\":" ++ (decimal t.moment ++ codes ",")))))
