-- Lines that are answered one after another make a run.
use Rattle.std.proofs.Common.{◌≡◌, ℕ, suc, ◌+◌, ◌≤◌, List, [], ◌∷◌, ◌++◌, length, map, Option, Result, Ok, Err, OnOk, refl, sym, ◌∙◌, ap, subst, arith}
use Rattle.std.proofs.lemmas.List.{map_push}
use Rattle.std.proofs.Math.Seq.{take-append_seam}
use Rattle.tp_types.specs.declared.configs.Config.{Config}
use Rattle.tp_types.specs.declared.refusals.PoolError.{PoolError}
use Rattle.tp_types.specs.declared.refusals.PoolError.TheVariants.{NoMemory}
use Rattle.tp_record.specs.declared.entries.Entry.{Entry}
use Rattle.tp_record.specs.declared.entries.Ask.{Ask}
use Rattle.tp_record.specs.State.{state}
use Rattle.tp_record.specs.Step as steps
use Rattle.tp_machine.specs.Seen.{At}
use Rattle.tp_text.specs.RunText.{Answer, after, after_all, answer_lines}
use Rattle.tp_text.proofs.RunLaws.{after_all-push, run_lines-push}
use Rattle.tp_scenario.specs.declared.forms.LineRead.TheVariants as read
use Rattle.tp_scenario.specs.declared.lines.ScenarioLine.{ScenarioLine}
use Rattle.tp_scenario.specs.declared.step.Told.{Told}
use Rattle.tp_scenario.specs.Lines.{FitsLine, line_text}
use Rattle.tp_scenario.specs.PoolText.{LinesSayFrom, ReadsLine}
use Rattle.tp_scenario.specs.Played.{Outcomes, ask_of, asks_of, outcome_said, outcomes_after, told, IsPlay}
use Rattle.tp_scenario.specs.Answered.{Answers, AnswersLine, IsAt, PlaysFrom, PlaysLine, PlaysLines, Playing, Running, Stands, TellsLine, answer_of, asked_by, notes, outcomes_all, outcomes_kept, played}
use Rattle.tp_scenario.specs.Plays.{Answered, HeardLines, HearsOn, PlaysOf, answers_of, asked_of}
use Rattle.tp_scenario.proofs.ReadLaws.{Cut, Reading, lines_all, lines_line, reading_line, reading_skip}

-- as many answers as lines
pub one_each : (c : Config) (h : List Entry) (os : Outcomes) (lines : List ScenarioLine) (answers : List Answer) → PlaysFrom c h os lines answers → length answers ≡ length lines
one_each c h os [] [] plays = refl
one_each c h os [] (a ∷ answers) plays = absurd plays
one_each c h os (l ∷ lines) [] plays = absurd plays
one_each c h os (l ∷ lines) (a ∷ answers) plays = ap suc (one_each c (after h a) (outcomes_after os l a) lines answers plays.1)

-- the answers are a run of what the lines ask
pub runs : (c : Config) (h : List Entry) (os : Outcomes) (lines : List ScenarioLine) (answers : List Answer) → PlaysFrom c h os lines answers
    → steps.RunFrom c h (asks_of c h os lines answers) (map told answers) (after_all h answers)
runs c h os [] [] plays = refl
runs c h os [] (a ∷ answers) plays = absurd plays
runs c h os (l ∷ lines) [] plays = absurd plays
runs c h os (l ∷ lines) (Ok e ∷ answers) plays =
    let rest : List (ℕ × Ask) = asks_of c (e ∷ h) (outcomes_after os l (Ok e)) lines answers in (
      plays.0.1,
      subst (λ (d : Entry). steps.RunFrom c (d ∷ h) rest (map told answers) (after_all (e ∷ h) answers)) plays.0.0
          (runs c (e ∷ h) (outcomes_after os l (Ok e)) lines answers plays.1),
    )
runs c h os (l ∷ lines) (Err r ∷ answers) plays = (plays.0, runs c h (outcomes_after os l (Err r)) lines answers plays.1)

pub play : (c : Config) (lines : List ScenarioLine) (answers : List Answer) → PlaysFrom c [] [] lines answers → IsPlay c lines answers
play c lines answers plays = record { each = one_each c [] [] lines answers plays; run = runs c [] [] lines answers plays }

-- one more line
pub plays_on : (c : Config) (h : List Entry) (os : Outcomes) (lines : List ScenarioLine) (answers : List Answer) (l : ScenarioLine) (a : Answer) → PlaysFrom c h os lines answers
    → Answers c (after_all h answers) (ask_of (state c (after_all h answers)) (outcomes_all os lines answers) l) a → PlaysFrom c h os (lines ++ l ∷ []) (answers ++ a ∷ [])
plays_on c h os [] [] l a plays more = (more, tt)
plays_on c h os [] (b ∷ answers) l a plays more = absurd plays
plays_on c h os (k ∷ lines) [] l a plays more = absurd plays
plays_on c h os (k ∷ lines) (b ∷ answers) l a plays more = (plays.0, plays_on c (after h b) (outcomes_after os k b) lines answers l a plays.1 more)

outcomes_on : (os : Outcomes) (lines : List ScenarioLine) (answers : List Answer) (l : ScenarioLine) (a : Answer) → length answers ≡ length lines
    → outcomes_all os (lines ++ l ∷ []) (answers ++ a ∷ []) ≡ outcomes_after (outcomes_all os lines answers) l a
outcomes_on os [] [] l a each = refl
outcomes_on os [] (b ∷ answers) l a each = absurd (omega arith)
outcomes_on os (k ∷ lines) [] l a each = absurd (omega arith)
outcomes_on os (k ∷ lines) (b ∷ answers) l a each = outcomes_on (outcomes_after os k b) lines answers l a (omega arith)

-- what becomes of outcomes behind a line
kept_line : (os : Outcomes) (l : ScenarioLine) (a : Answer) → outcomes_kept os (outcome_said l) a ≡ outcomes_after os l a
kept_line os l (Ok e) = refl
kept_line os l (Err r) = refl

-- where the runner stands after one more line
pub stands_on : (c : Config) (lines : List ScenarioLine) (answers : List Answer) (r p : Running) (out out' : List ℕ) (l : ScenarioLine) (a : Answer) → Stands c lines answers r out
    → AnswersLine (played c lines answers) l a p
    → out' ≡ out ++ answer_lines c (after_all [] answers) a
    → Stands c (lines ++ l ∷ []) (answers ++ a ∷ []) p out'
stands_on c lines answers r p out out' l a so_far more grows =
    let h : List Entry = after_all [] answers in
    let os : Outcomes = outcomes_all [] lines answers in
    let history : after h a ≡ after_all [] (answers ++ a ∷ []) = sym (after_all-push [] answers a) in
    let outcomes : outcomes_kept os (outcome_said l) a ≡ outcomes_all [] (lines ++ l ∷ []) (answers ++ a ∷ []) =
    kept_line os l a ∙ sym (outcomes_on [] lines answers l a (one_each c [] [] lines answers so_far.plays)) in
    record {
      plays = plays_on c [] [] lines answers l a so_far.plays more.answers;
      runner = record { at = subst (λ h. At notes p.machine h []) history more.leads.at; config = more.leads.config; outcomes = more.leads.outcomes ∙ outcomes };
      output = grows ∙ ap (λ x. x ++ answer_lines c h a) so_far.output ∙ sym (run_lines-push c [] answers a);
    }

-- no line is answered yet
pub stands_first : (c : Config) (r : Running) (out : List ℕ) → IsAt r (record { config = c; history = []; outcomes = [] }) → out ≡ [] → Stands c [] [] r out
stands_first c r out is empty = record { plays = tt; runner = is; output = empty }

-- one more line was answered, its answer was heard, and it was written
pub plays_line : {L : Type 0} (heard : L → Config → List Answered → Type 0) (p : Playing) (l : ScenarioLine) (t : Told) (x : Answered) (r : Running) (accepted : ℕ) (old out : List ℕ) (before after_it : L) → t.answer ≡ x → TellsLine p l t r
    → HearsOn heard before after_it t.answer → accepted ≡ length (after p.history (answer_of x)) → out ≡ old ++ answer_lines p.config p.history (answer_of x) → PlaysLine (HearsOn heard before after_it) p l r accepted old out
plays_line heard p l t x r accepted old out before after_it is tells hears counted written = record {
  answer = x;
  told = subst (λ y. AnswersLine p l (answer_of y) r) is tells.answers;
  asks = subst (λ y. asked_by y ≡ ask_of (state p.config p.history) p.outcomes l) is tells.asks;
  held = subst (HearsOn heard before after_it) is hears;
  counted = counted;
  written = written;
}

-- what one more line asks
asks_on : (c : Config) (h : List Entry) (os : Outcomes) (lines : List ScenarioLine) (answers : List Answer) (l : ScenarioLine) (a : Answer) → length answers ≡ length lines
    → asks_of c h os (lines ++ l ∷ []) (answers ++ a ∷ [])
    ≡ asks_of c h os lines answers ++ (0, ask_of (state c (after_all h answers)) (outcomes_all os lines answers) l) ∷ []
asks_on c h os [] [] l a each = refl
asks_on c h os [] (b ∷ answers) l a each = absurd (omega arith)
asks_on c h os (k ∷ lines) [] l a each = absurd (omega arith)
asks_on c h os (k ∷ lines) (b ∷ answers) l a each =
    ap (λ rest. (0, ask_of (state c h) os k) ∷ rest) (asks_on c (after h b) (outcomes_after os k b) lines answers l a (omega arith))

-- what a play is whose answers were told so
plays_of : (c : Config) (lines : List ScenarioLine) (xs : List Answered) (given : List Answer) → answers_of xs ≡ given → asked_of xs ≡ asks_of c [] [] lines given → PlaysFrom c [] [] lines given → PlaysOf c lines xs
plays_of c lines xs given same asked plays = record {
  asked = subst (λ g. asked_of xs ≡ asks_of c [] [] lines g) (sym same) asked;
  play = subst (λ g. IsPlay c lines g) (sym same) (play c lines given plays);
}

module _ {L : Type 0} (heard : L → Config → List Answered → Type 0) where
  -- how far the lines of a text are played: those that were read are answered, the answers are heard, and as many entries are counted
  -- as the record has
  pub record Going (c : Config) (first : ℕ) (text : List ℕ) (k : ℕ) (rest : List ℕ) (accepted : ℕ) (r : Running) (out : List ℕ) (listener : L) : Type 0 where
    pub before : List ScenarioLine
    pub reading : Reading line_text FitsLine first text k rest before
    pub answers : List Answered
    pub given : List Answer
    pub same : answers_of answers ≡ given
    pub asked : asked_of answers ≡ asks_of c [] [] before given
    pub listened : heard listener c answers
    pub stands : Stands c before given r out
    pub counted : accepted ≡ length (after_all [] given)
    pub few : first + accepted ≤ k

  -- before the first line
  pub going_first : (c : Config) (first : ℕ) (text : List ℕ) (r : Running) (out : List ℕ) (listener : L) → Stands c [] [] r out → heard listener c [] → Going c first text first text 0 r out listener
  going_first c first text r out listener stands begun = record {
    before = [];
    reading = record { counted = omega arith; on = λ said say. say };
    answers = [];
    given = [];
    same = refl;
    asked = refl;
    listened = begun;
    stands = stands;
    counted = refl;
    few = omega arith;
  }

  -- a line is skipped
  pub going_skip : (c : Config) (first : ℕ) (text : List ℕ) (k j : ℕ) (rest line behind : List ℕ) (accepted : ℕ) (r : Running) (out : List ℕ) (listener : L) → Going c first text k rest accepted r out listener → Cut rest line behind
      → ReadsLine line_text FitsLine line read.Skipped → j ≡ k + 1 → Going c first text j behind accepted r out listener
  going_skip c first text k j rest line behind accepted r out listener so_far cut reads next = record {
    before = so_far.before;
    reading = reading_skip line_text FitsLine first text k j rest line behind so_far.before so_far.reading cut reads next;
    answers = so_far.answers;
    given = so_far.given;
    same = so_far.same;
    asked = so_far.asked;
    listened = so_far.listened;
    stands = so_far.stands;
    counted = so_far.counted;
    few = omega (arith, so_far.few, next);
  }

  -- one more line is answered, and its answer is heard and written
  pub going_line : (c : Config) (first : ℕ) (text : List ℕ) (k j : ℕ) (rest line behind : List ℕ) (accepted more : ℕ) (r p : Running) (out out' : List ℕ) (old new : L) (l : ScenarioLine) → Going c first text k rest accepted r out old → Cut rest line behind
      → ReadsLine line_text FitsLine line (read.Says l) → j ≡ k + 1
      → ((q : Playing) → IsAt r q → accepted ≡ length q.history → PlaysLine (HearsOn heard old new) q l p more out out')
      → more ≤ accepted + 1 → Going c first text j behind more p out' new
  going_line c first text k j rest line behind accepted more r p out out' old new l so_far cut reads next plays bound =
      let given : List Answer = so_far.given in
      let at : Playing = played c so_far.before given in
      let one : PlaysLine (HearsOn heard old new) at l p more out out' = plays at so_far.stands.runner so_far.counted in
      let x : Answered = one.answer in
      let a : Answer = answer_of x in
      let each : length given ≡ length so_far.before = one_each c [] [] so_far.before given so_far.stands.plays in
      record {
        before = so_far.before ++ l ∷ [];
        reading = reading_line line_text FitsLine first text k j rest line behind so_far.before l so_far.reading cut reads next;
        answers = so_far.answers ++ x ∷ [];
        given = given ++ a ∷ [];
        same = map_push answer_of so_far.answers x ∙ ap (λ g. g ++ a ∷ []) so_far.same;
        asked = map_push (λ (y : Answered). (0, asked_by y)) so_far.answers x ∙ ap (λ q. asked_of so_far.answers ++ (0, q) ∷ []) one.asks
            ∙ ap (λ q. q ++ (0, ask_of (state c at.history) at.outcomes l) ∷ []) so_far.asked ∙ sym (asks_on c [] [] so_far.before given l a each);
        listened = one.held c so_far.answers so_far.listened;
        stands = stands_on c so_far.before given r p out out' l a so_far.stands one.told one.written;
        counted = one.counted ∙ ap length (sym (after_all-push [] given a));
        few = omega (arith, so_far.few, next, bound);
      }

  -- what the lines of a text come to that were played so
  abbrev pub PlaysText : Config → ℕ → List ℕ → Option ℕ → Result (Unit {0}) PoolError → Running → List ℕ → L → Type 0
  PlaysText c first text bad result r out listener =
      (lines : List ScenarioLine) × LinesSayFrom line_text FitsLine first text (lines, bad) × PlaysLines c lines result r out × OnOk result (HeardLines heard c lines listener)

  -- no more lines come
  pub going_whole : (c : Config) (first : ℕ) (text : List ℕ) (k : ℕ) (rest : List ℕ) (accepted : ℕ) (r : Running) (out : List ℕ) (listener : L) (bad : Option ℕ) → Going c first text k rest accepted r out listener
      → LinesSayFrom line_text FitsLine k rest ([], bad) → PlaysText c first text bad (Ok tt) r out listener
  going_whole c first text k rest accepted r out listener bad so_far say = (
    so_far.before,
    lines_all line_text FitsLine first text k rest so_far.before bad so_far.reading say,
    (so_far.given, so_far.stands),
    (so_far.answers, plays_of c so_far.before so_far.answers so_far.given so_far.same so_far.asked so_far.stands.plays, so_far.listened),
  )

  -- memory gave out at a line: the answers of those before it are written
  pub going_broken : (c : Config) (first : ℕ) (text : List ℕ) (k : ℕ) (rest line behind : List ℕ) (accepted : ℕ) (r p : Running) (out out' : List ℕ) (old new : L) (l : ScenarioLine) (e : PoolError) (bad : Option ℕ)
      → Going c first text k rest accepted r out old → Cut rest line behind → ReadsLine line_text FitsLine line (read.Says l) → e ≡ NoMemory → out' ≡ out
      → (lines : List ScenarioLine) × LinesSayFrom line_text FitsLine (suc k) behind (lines, bad) → PlaysText c first text bad (Err e) p out' new
  going_broken c first text k rest line behind accepted r p out out' old new l e bad so_far cut reads memory same more = (
    so_far.before ++ l ∷ more.0,
    so_far.reading.on (l ∷ more.0, bad) (lines_line line_text FitsLine k rest line behind l more.0 bad cut reads more.1),
    (
      memory,
      (length so_far.before, so_far.given, subst (λ x. PlaysFrom c [] [] x so_far.given) (sym (take-append_seam so_far.before (l ∷ more.0))) so_far.stands.plays, same ∙ so_far.stands.output),
    ),
    tt,
  )
