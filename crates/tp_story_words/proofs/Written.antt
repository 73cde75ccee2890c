-- Lines, written one behind another.
use Rattle.std.proofs.Common.{◌≡◌, ℕ, zero, suc, ◌+◌, ◌<◌, List, [], ◌∷◌, ◌++◌, length, get_or, take, Option, Some, None, Result, Ok, Err, refl, sym, ◌∙◌, ap, subst, arith, append_assoc, append-nil}
use Rattle.std.specs.Prelude.{IfOk, OnOk, min, codes}
use Rattle.std.proofs.lemmas.List.{take_more}
use Rattle.tp_types.specs.declared.states.RunState.{RunState}
use Rattle.tp_types.specs.declared.states.RunState.TheVariants.{Running, Shutdown, Stop, Tidying, Terminated}
use Rattle.tp_types.specs.RunState.{state_rank}
use Rattle.tp_types.specs.declared.tasks.Fate.{Fate}
use Rattle.tp_text.specs.EndLines.{state_at}
use Rattle.tp_text.specs.Lines.{HasNoLineFeed}
use Rattle.tp_story.specs.declared.events.Event.{Event}
use Rattle.tp_story_words.specs.declared.forms.Form.{Form}
use Rattle.tp_story_words.specs.declared.forms.Form.TheVariants as form
use Rattle.tp_story_words.specs.Lines.{AreLines, IsEnd, IsLine, IsToldStory, event_line}

pub on_ok : {A E : Type 0} (r : Result A E) (P Q : Type 0) → (P → Q) → OnOk r P → OnOk r Q
on_ok (Ok a) P Q on is = on is
on_ok (Err e) P Q on is = tt

-- one more line
pub one_more : (f : Form) (es : List Event) (out : List ℕ) (e : Event) (words : List ℕ) → HasNoLineFeed words → AreLines f es out → AreLines f (es ++ e ∷ []) (out ++ event_line f e.number words)
one_more f [] out e words single none =
    (words, [], single, refl, ap (λ x. x ++ event_line f e.number words) none ∙ sym (append-nil (event_line f e.number words)))
one_more f (x ∷ es) out e words single lines = (
  lines.0,
  lines.1 ++ event_line f e.number words,
  lines.2,
  one_more f es lines.1 e words single lines.3,
  ap (λ o. o ++ event_line f e.number words) lines.4 ∙ append_assoc (event_line f x.number lines.0) lines.1 (event_line f e.number words),
)

-- so many lines were written behind a text
abbrev pub Behind : Form → List Event → List ℕ → List ℕ → Type 0
Behind f es old new = (lines : List ℕ) × AreLines f es lines × (new ≡ old ++ lines)

pub no_lines : (f : Form) (es : List Event) (text : List ℕ) → Behind f (take 0 es) text text
no_lines f es text = ([], refl, sym (append-nil text))

pub line_on : (f : Form) (es : List Event) (n : ℕ) (d : Event) (old mid new : List ℕ) → n < length es → Behind f (take n es) old mid
    → (words : List ℕ) × HasNoLineFeed words × (new ≡ mid ++ event_line f (get_or es n d).number words) → Behind f (take (n + 1) es) old new
line_on f es n d old mid new within behind line =
    subst (λ xs. Behind f xs old new) (sym (take_more es n d within)) (
      behind.0 ++ event_line f (get_or es n d).number line.0,
      one_more f (take n es) behind.0 (get_or es n d) line.0 line.1 behind.1,
      line.2 ∙ ap (λ x. x ++ event_line f (get_or es n d).number line.0) behind.2 ∙ append_assoc old behind.0 (event_line f (get_or es n d).number line.0),
    )

-- a line above, the lines of the events, and the last line
pub story_told : (f : Form) (es : List Event) (fate : Option Fate) (fated : Option ℕ) (a b c d : List ℕ) → (line : List ℕ) × IsLine line × (b ≡ a ++ line) → Behind f es b c
    → (line : List ℕ) × IsEnd f fate fated line × (d ≡ c ++ line) → (out : List ℕ) × IsToldStory f es fate fated out × (d ≡ a ++ out)
story_told f es fate fated a b c d head lines end = (
  head.0 ++ lines.0 ++ end.0,
  record { above = head.0; lines = lines.0; below = end.0; is_text = refl; head = head.1; each = lines.1; end = end.1 },
  end.2 ∙ ap (λ x. x ++ end.0) (lines.2 ∙ ap (λ x. x ++ lines.0) head.2) ∙ ap (λ x. x ++ end.0) (append_assoc a head.0 lines.0) ∙ append_assoc a (head.0 ++ lines.0) end.0,
)

-- the state of a rank, which is at most 4
pub state_named : (r : ℕ) (s : RunState) → state_rank s ≡ min r 4 → state_at r ≡ s
state_named zero Running is = refl
state_named (suc zero) Shutdown is = refl
state_named (suc (suc zero)) Stop is = refl
state_named (suc (suc (suc zero))) Tidying is = refl
state_named (suc (suc (suc (suc n)))) Terminated is = refl
state_named r s is = absurd (omega (arith, is))

-- of a subject without a fate, or whose fate no entry gave, anything may be said at the end
pub no_fate : (f : Form) (n : Option ℕ) (line : List ℕ) → IsLine line → IsEnd f None n line
no_fate form.Words n line is = is
no_fate form.Json n line is = is

pub no_number : (f : Form) (fate : Option Fate) (line : List ℕ) → IsLine line → IsEnd f fate None line
no_number form.Words None line is = is
no_number form.Words (Some x) line is = is
no_number form.Json None line is = is
no_number form.Json (Some x) line is = is

-- pieces of a line, of which the first seven are a line's beginning
pub first_seven : (a b c d e f g more : List ℕ) → a ++ (b ++ (c ++ (d ++ (e ++ (f ++ (g ++ more)))))) ≡ (a ++ (b ++ (c ++ (d ++ (e ++ (f ++ g)))))) ++ more
first_seven a b c d e f g more = sym (simp append_assoc)

pub ok_on : {A E : Type 0} (r : Result A E) (P Q : A → Type 0) → ((a : A) → P a → Q a) → IfOk r P → IfOk r Q
ok_on (Ok a) P Q on is = on a is
ok_on (Err e) P Q on is = tt
