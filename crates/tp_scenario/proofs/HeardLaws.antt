-- What a listener heard of a text's play.
use Rattle.std.proofs.Common.{◌≡◌, ◌≢◌, ◌⊎◌, inl, inr, ℕ, List, Option, Some, None, Ok, Err, OnOk, refl, sym, ◌∙◌, ap, subst}
use Rattle.tp_types.specs.declared.configs.Config.{Config}
use Rattle.tp_types.specs.declared.refusals.PoolError.{PoolError}
use Rattle.tp_types.specs.declared.refusals.PoolError.TheVariants.{NoMemory, BadLine}
use Rattle.tp_types.specs.Config.{IsConfig, checked}
use Rattle.tp_text.specs.declared.pools.PoolLine.{PoolLine}
use Rattle.tp_text.specs.Pools.{config_of}
use Rattle.tp_scenario.specs.declared.lines.ScenarioLine.{ScenarioLine}
use Rattle.tp_scenario.specs.Scenario.{Asked as Lines, IsScenario, Said}
use Rattle.tp_scenario.specs.Played.{ComesOf, ComesOfPool, Ending, IsPlayed, ending_of}
use Rattle.tp_scenario.specs.Plays.{Answered, Asked, HeardLines, HeardText, IsPlayOf, RefusesPlay, RefusesPool, RefusesSaid}
use Rattle.tp_scenario.proofs.OneScenario.{says_one}

module _ {L : Type 0} (heard : L → Config → List Answered → Type 0) where
  -- what is heard of a pool's lines, memory aside
  abbrev pub HeardPool : Config → List ScenarioLine → Ending → L → Type 0
  HeardPool c lines ending l = ending ≢ Err NoMemory → checked c ≡ Ok tt → HeardLines heard c lines l

  -- nothing, where the settings are refused
  pub heard_refused : (c d : Config) (lines : List ScenarioLine) (e : PoolError) (l : L) → d ≡ c → checked d ≡ Err e → HeardPool c lines (Err e) l
  heard_refused c d lines e l one bad some good = let both : ◌≡◌ {A = Ending} (Err e) (Ok tt) = sym bad ∙ ap checked one ∙ good in cc

  -- nothing, where the pool finds no memory
  pub heard_new : (c d : Config) (lines : List ScenarioLine) (e : PoolError) (l : L) → d ≡ c → (checked d ≡ Err e) ⊎ ((e ≡ NoMemory) × IsConfig d) → HeardPool c lines (Err e) l
  heard_new c d lines e l one (inl bad) = heard_refused c d lines e l one bad
  heard_new c d lines e l one (inr none) = λ some good. absurd (some (ap Err none.0))

  pub heard_memory : (c : Config) (lines : List ScenarioLine) (e : PoolError) (l : L) → e ≡ NoMemory → HeardPool c lines (Err e) l
  heard_memory c lines e l none = λ some good. absurd (some (ap Err none))

  -- all of them, where they were played
  pub heard_lines : (c d : Config) (lines : List ScenarioLine) (ending : Ending) (l : L) → d ≡ c → HeardLines heard d lines l → HeardPool c lines ending l
  heard_lines c d lines ending l one all = λ some good. subst (λ x. HeardLines heard x lines l) one all

  -- what a text says, it says alone
  abbrev HeardSaid : Said → L → Type 0
  HeardSaid (Err k) l = Unit {0}
  HeardSaid (Ok s) l = checked (config_of s.0) ≡ Ok tt → HeardLines heard (config_of s.0) s.1.0 l

  pub heard_text : (text : List ℕ) (p : PoolLine) (asked : Lines) (ending : Ending) (l : L) → IsScenario text (Ok (p, asked)) → HeardPool (config_of p) asked.0 ending l → ending ≢ Err NoMemory → HeardText heard text l
  heard_text text p asked ending l says all some = λ s is.
      subst (λ said. HeardSaid said l) (says_one text (Ok (p, asked)) (Ok s) says is) (all some)

  pub heard_bad : (text : List ℕ) (k : ℕ) (l : L) → IsScenario text (Err k) → HeardText heard text l
  heard_bad text k l says = λ s is. let same : ◌≡◌ {A = Said} (Err k) (Ok s) = says_one text (Err k) (Ok s) says is in cc

  -- a run that was written to its end had memory
  pub heard_well : (ending : Ending) (text : List ℕ) (l : L) → (ending ≢ Err NoMemory → HeardText heard text l) → OnOk ending (HeardText heard text l)
  heard_well (Ok u) text l all = all (λ is. cc)
  heard_well (Err e) text l all = tt

  -- a play that went to its end was heard whole
  abbrev pub HeardWhole : List ℕ → L → Type 0
  HeardWhole text l = (c : Config) × (xs : List Answered) × IsPlayOf text c None xs × heard l c xs

  whole_lines : (text : List ℕ) (s : Asked) (l : L) → IsScenario text (Ok s) → checked (config_of s.0) ≡ Ok tt → ◌≡◌ {A = Ending} (Ok tt) (ending_of s.1.1) → HeardText heard text l → HeardWhole text l
  whole_lines text (p, (lines, None)) l says good ends all =
      let told = all (p, (lines, None)) says good in
      (config_of p, told.0, record { said = (p, (lines, None)); scenario = says; settings = refl; accepted = good; first_bad = refl; plays = told.1 }, told.2)
  whole_lines text (p, (lines, Some k)) l says good ends all = cc

  whole_pool : (text out : List ℕ) (s : Asked) (l : L) (r : Ending) → checked (config_of s.0) ≡ r → IsScenario text (Ok s) → ComesOfPool r (config_of s.0) s.1 out (Ok tt) → HeardText heard text l → HeardWhole text l
  whole_pool text out s l (Err e) is says comes all = let none = comes.1 in cc
  whole_pool text out s l (Ok u) is says comes all = whole_lines text s l says is comes.3 all

  whole_said : (text out : List ℕ) (s : Said) (l : L) → IsScenario text s → ComesOf s out (Ok tt) → HeardText heard text l → HeardWhole text l
  whole_said text out (Err k) l says comes all = let none = comes.1 in cc
  whole_said text out (Ok s) l says comes all = whole_pool text out s l (checked (config_of s.0)) refl says comes all

  pub heard_whole : (text out : List ℕ) (l : L) → IsPlayed text out (Ok tt) → HeardText heard text l → HeardWhole text l
  heard_whole text out l (inl played) all = whole_said text out played.0 l played.1 played.2 all
  heard_whole text out l (inr memory) all = let none = memory.0 in cc

-- why a play does not go to its end

refused_bad : (bad : Option ℕ) (e : PoolError) → ◌≡◌ {A = Ending} (Err e) (ending_of bad) → RefusesPool (Ok tt) bad e
refused_bad (Some k) e is = cc
refused_bad None e is = cc

refused_pool : (r : Ending) (c : Config) (asked : Lines) (out : List ℕ) (e : PoolError) → ComesOfPool r c asked out (Err e) → RefusesPool r asked.1 e
refused_pool (Err x) c asked out e comes = let same = comes.1 in cc
refused_pool (Ok u) c asked out e comes = refused_bad asked.1 e comes.3

refused_said : (s : Said) (out : List ℕ) (e : PoolError) → ComesOf s out (Err e) → RefusesSaid s e
refused_said (Err k) out e comes = let same = comes.1 in cc
refused_said (Ok s) out e comes = refused_pool (checked (config_of s.0)) (config_of s.0) s.1 out e comes

pub refused_play : (text out : List ℕ) (e : PoolError) → IsPlayed text out (Err e) → RefusesPlay text e
refused_play text out e (inl played) = inr (played.0, played.1, refused_said played.0 out e played.2)
refused_play text out e (inr memory) = let same = memory.0 in inl cc
