-- What is said in answer to each question.
use Rattle.std.specs.Prelude.{ℕ, ◌≡◌, ◌++◌, ◌∷◌, Bool, true, false, List, [], length, codes}
use Rattle.std.specs.Fmt.{decimal}
use Rattle.tp_record.specs.declared.entries.Entry.{Entry}
use Rattle.tp_record.specs.State.{state}
use Rattle.tp_audit_plain.specs.declared.summary.Summary.{Summary}
use Rattle.tp_audit_plain.specs.Audit.{IsSummary}
use Rattle.tp_text.specs.EntryLine.{line}
use Rattle.tp_text.specs.EndLines.{counts_line, state_line}
use Rattle.tp_audit.specs.Audited.{Judge, settings}
use Rattle.tp_story.specs.Fronts.{Followed, has_entry}
use Rattle.tp_story.specs.Stories.{Telling, fate_in, fated_at, is_known, story}
use Rattle.tp_story_words.specs.declared.forms.Form.{Form}
use Rattle.tp_story_words.specs.declared.forms.Form.TheVariants as form
use Rattle.tp_story_words.specs.Fronts.{front_head}
use Rattle.tp_story_words.specs.Lines.{IsToldStory}

-- of a task or a slot that the record knows its story is told; of another one nothing
abbrev pub SaysStory : Telling → List Entry → Form → List ℕ → Bool → Type 0
SaysStory s h f out true =
    (is_known s ≡ true) × IsToldStory f (story (settings s.judge) s.subject h) (fate_in (state (settings s.judge) h) s.subject) (fated_at (settings s.judge) s.subject h) out
SaysStory s h f out false = (is_known s ≡ false) × (out ≡ [])

-- of an entry that the record has it is told first after which entry that is, in which state, and at which moment; of another
-- one nothing
abbrev pub SaysFront : Followed → List Entry → Form → List ℕ → Bool → Type 0
SaysFront f h form out true = (has_entry f.until f.judge.tables.steps ≡ true) × ((more : List ℕ) × (out ≡ front_head form f.judge.tables ++ more))
SaysFront f h form out false = (has_entry f.until f.judge.tables.steps ≡ false) × (out ≡ [])

-- so many entries that are legal, the run state and the counters
abbrev pub cut_text : ℕ → Summary → List ℕ
cut_text n s = line (codes "legal" ∷ codes "so" ∷ codes "far" ∷ decimal n ∷ []) ++ (state_line s.state ++ counts_line s.counts)

-- of a record that is legal as far as it goes it is told how far, with what its entries say
abbrev pub SaysCut : Judge → List Entry → Form → List ℕ → Bool → Type 0
SaysCut a h form.Words out true = (s : Summary) × IsSummary (settings a) h s × (out ≡ cut_text (length h) s)
SaysCut a h form.Json out true = Unit {0}
SaysCut a h f out false = ⊥
