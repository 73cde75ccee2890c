-- How a run of a scenario ends, case by case.
use Rattle.std.proofs.Common.{◌≡◌, ◌⊎◌, inl, inr, ℕ, List, [], ◌++◌, length, take, false, Option, Some, None, Ok, Err, IfSome, OnOk, OnErr, IsOkUnless, unwrap_or, refl, sym, ◌∙◌, ap, subst, append_assoc}
use Rattle.std.specs.Io.KnownBytes.{Appends}
use Rattle.std.proofs.KnownBytes.{Keeps-refl}
use Rattle.std.proofs.Math.Seq.{take-length}
use Rattle.tp_types.specs.declared.configs.Config.{Config}
use Rattle.tp_types.specs.declared.refusals.PoolError.{PoolError}
use Rattle.tp_types.specs.declared.refusals.PoolError.TheVariants.{NoMemory, BadLine, ReadFailed, WriteFailed}
use Rattle.tp_types.specs.Config.{IsConfig, checked}
use Rattle.tp_record.specs.State.{State, state}
use Rattle.tp_text.specs.RunText.{Answer, after_all, run_lines, end_lines, IsFront}
use Rattle.tp_text.specs.declared.pools.PoolLine.{PoolLine}
use Rattle.tp_text.specs.Pools.{config_of}
use Rattle.tp_text.proofs.Outputs.{known_or, no_more}
use Rattle.tp_text.proofs.Refusals.{checked_inner, outer_err, same_outer}
use Rattle.tp_text.proofs.Watchings.{not_read}
use Rattle.tp_scenario.specs.Scenario.{Asked, IsScenario, Said}
use Rattle.tp_scenario.specs.Played.{Ending, IsPlay, IsPlayed, IsRun, ComesOf, ComesOfPool, BreaksOff, ending_of, written}
use Rattle.tp_scenario.specs.Answered.{Breaks, IsAt, PlaysFrom, PlaysLines, Playing, Running, Stands, played}
use Rattle.tp_scenario.proofs.EndLaws.{Broken}
use Rattle.tp_scenario.proofs.PlayLaws.{play}

-- what a scenario comes to whose steps were all played
pub comes_played : (p : PoolLine) (asked : Asked) (out : List ℕ) (ending : Ending) (c : Config) (answers : List Answer) → c ≡ config_of p → Ok tt ≡ checked c → PlaysFrom c [] [] asked.0 answers
    → out ≡ written c answers asked.1 → ending ≡ ending_of asked.1 → ComesOf (Ok (p, asked)) out ending
comes_played p asked out ending c answers one good plays writes ends =
    let d : Config = config_of p in
    let there : PlaysFrom d [] [] asked.0 answers = subst (λ x. PlaysFrom x [] [] asked.0 answers) one plays in
    subst (λ r. ComesOfPool r d asked out ending) (good ∙ ap checked one) (answers, play d asked.0 answers there, writes ∙ ap (λ x. written x answers asked.1) one, ends)

-- with a bad line
pub comes_bad : (p : PoolLine) (asked : Asked) (k : ℕ) (out : List ℕ) (c : Config) (answers : List Answer) (r : Running) → c ≡ config_of p → Ok tt ≡ checked c → asked.1 ≡ Some k → Stands c asked.0 answers r out
    → ComesOf (Ok (p, asked)) out (Err (BadLine k))
comes_bad p asked k out c answers r one good bad stands =
    comes_played p asked out (Err (BadLine k)) c answers one good stands.plays (stands.output ∙ ap (written c answers) (sym bad)) (ap ending_of (sym bad))

-- with its end
pub comes_whole : (p : PoolLine) (asked : Asked) (mid out : List ℕ) (c : Config) (answers : List Answer) (r : Running) → c ≡ config_of p → Ok tt ≡ checked c → asked.1 ≡ None → Stands c asked.0 answers r mid
    → ((q : Playing) → IsAt r q → out ≡ mid ++ end_lines (state q.config q.history)) → ComesOf (Ok (p, asked)) out (Ok tt)
comes_whole p asked mid out c answers r one good none stands ends =
    comes_played p asked out (Ok tt) c answers one good stands.plays
    (ends (played c asked.0 answers) stands.runner ∙ ap (λ x. x ++ end_lines (state c (after_all [] answers))) stands.output ∙ ap (written c answers) (sym none))
    (ap ending_of (sym none))

-- a pool that could not be made
pub comes_of_new : (p : PoolLine) (asked : Asked) (out : List ℕ) (c : Config) (e : PoolError) → c ≡ config_of p → Ok tt ≡ checked c → out ≡ [] → (checked c ≡ Err e) ⊎ ((e ≡ NoMemory) × IsConfig c)
    → ComesOf (Ok (p, asked)) out (Err e) ⊎ ((◌≡◌ {A = Ending} (Err e) (Err NoMemory)) × BreaksOff (Ok (p, asked)) out)
comes_of_new p asked out c e one good empty (inl is) =
    inl (subst (λ r. ComesOfPool r (config_of p) asked out (Err e)) (sym is ∙ ap checked one) (empty, refl))
comes_of_new p asked out c e one good empty (inr is) = inr (ap Err is.0, (sym (good ∙ ap checked one), ([], 0, (play (config_of p) [] [] tt, inl empty))))

-- memory gave out between two answers
pub breaks_off : (p : PoolLine) (asked : Asked) (out : List ℕ) (c : Config) → c ≡ config_of p → Ok tt ≡ checked c → Breaks c asked.0 out → BreaksOff (Ok (p, asked)) out
breaks_off p asked out c one good b =
    (sym (good ∙ ap checked one), (b.1, b.0, (play (config_of p) (take b.0 asked.0) b.1 (subst (λ x. PlaysFrom x [] [] (take b.0 asked.0) b.1) one b.2), inl (b.3 ∙ ap (λ x. run_lines x [] b.1) one))))

front_of : (front out mid run : List ℕ) (s : State) → mid ≡ run → out ≡ mid ++ front → IsFront front (end_lines s) → IsFront out (run ++ end_lines s)
front_of front out mid run s written grows more =
    (more.0, ap (λ x. run ++ x) more.1 ∙ sym (append_assoc run front more.0) ∙ ap (λ x. x ++ more.0) (sym (grows ∙ ap (λ x. x ++ front) written)))

-- memory gave out at the end
pub breaks_end : (p : PoolLine) (asked : Asked) (mid out : List ℕ) (c : Config) (answers : List Answer) (r : Running) → c ≡ config_of p → Ok tt ≡ checked c → asked.1 ≡ None → Stands c asked.0 answers r mid
    → ((q : Playing) → IsAt r q → Broken mid (state q.config q.history) out) → BreaksOff (Ok (p, asked)) out
breaks_end p asked mid out c answers r one good none stands breaks =
    let d : Config = config_of p in
    let there : PlaysFrom d [] [] asked.0 answers = subst (λ x. PlaysFrom x [] [] asked.0 answers) one stands.plays in
    let more : Broken mid (state c (after_all [] answers)) out = breaks (played c asked.0 answers) stands.runner in
    let more_there : IsFront more.0 (end_lines (state d (after_all [] answers))) = subst (λ x. IsFront more.0 (end_lines (state x (after_all [] answers)))) one more.2 in (
      sym (good ∙ ap checked one),
      (
        answers,
        length asked.0,
        (
          subst (λ x. IsPlay d x answers) (sym (take-length asked.0)) (play d asked.0 answers there),
          inr (refl, none, front_of more.0 out mid (run_lines d [] answers) (state d (after_all [] answers)) (stands.output ∙ ap (λ x. run_lines x [] answers) one) more.1 more_there),
        ),
      ),
    )

-- what a pool's text comes to, whose lines were not played
abbrev pub Comes : PoolLine → Asked → List ℕ → Ending → Type 0
Comes p asked out ending = ComesOf (Ok (p, asked)) out ending ⊎ ((ending ≡ Err NoMemory) × BreaksOff (Ok (p, asked)) out)

-- settings that no pool can have
pub comes_refused : (p : PoolLine) (asked : Asked) (out : List ℕ) (c : Config) (e : PoolError) → c ≡ config_of p → checked c ≡ Err e → out ≡ [] → Comes p asked out (Err e)
comes_refused p asked out c e one bad empty = inl (subst (λ r. ComesOfPool r (config_of p) asked out (Err e)) (sym bad ∙ ap checked one) (empty, refl))

bad_inner : (o : Option ℕ) → outer_err (ending_of o) ≡ false
bad_inner None = refl
bad_inner (Some k) = refl

pool_inner : (r : Ending) (c : Config) (asked : Asked) (out : List ℕ) (ending : Ending) → outer_err r ≡ false → ComesOfPool r c asked out ending → outer_err ending ≡ false
pool_inner (Err e) c asked out ending inner comes = same_outer ending (Err e) comes.1 ∙ inner
pool_inner (Ok u) c asked out ending inner comes = same_outer ending (ending_of asked.1) comes.3 ∙ bad_inner asked.1

said_inner : (s : Said) (out : List ℕ) (ending : Ending) → ComesOf s out ending → outer_err ending ≡ false
said_inner (Err k) out ending comes = same_outer ending (Err (BadLine k)) comes.1
said_inner (Ok q) out ending comes =
    let c : Config = config_of q.0 in
    pool_inner (checked c) c q.1 out ending (checked_inner c) comes

-- what is played is refused otherwise than a reader or a writer is
pub played_inner : (text out : List ℕ) (ending : Ending) → IsPlayed text out ending → outer_err ending ≡ false
played_inner text out ending (inl comes) = said_inner comes.0 out ending comes.2
played_inner text out ending (inr memory) = same_outer ending (Err NoMemory) memory.0

-- a run that was read, played and written
pub ran : (input old new : Option (List ℕ)) (text out : List ℕ) (ending : Ending) → IfSome input (λ xs. text ≡ xs) → IsPlayed text out ending → Appends old new out → IsRun input old new ending
ran input old new text out (Ok u) known played appends = (text, out, known, played, appends)
ran input old new text out (Err ReadFailed) known played appends = absurd (not_read {A = Unit {0}} (Err ReadFailed) (played_inner text out (Err ReadFailed) played) refl)
ran input old new text out (Err WriteFailed) known played appends = tt
ran input old new text out (Err e) known played appends = (text, out, known, played, appends)

-- a run that was not read
pub unread : (input old : Option (List ℕ)) (e : PoolError) → (e ≡ ReadFailed) ⊎ (e ≡ NoMemory) → IsRun input old old (Err e)
unread input old e (inl is) = subst (λ x. IsRun input old old (Err x)) (sym is) (Keeps-refl old)
unread input old e (inr is) = subst (λ x. IsRun input old old (Err x)) (sym is) (unwrap_or input [], [], known_or input, inr (refl, inl refl), no_more old)

-- a run that was not written
pub unwritten : (input old new : Option (List ℕ)) (e : PoolError) → e ≡ WriteFailed → IsRun input old new (Err e)
unwritten input old new e is = subst (λ x. IsRun input old new (Err x)) (sym is) tt

-- what is played behind the pool line is what comes of the text
pub played_pool : (text out : List ℕ) (p : PoolLine) (asked : Asked) (ending : Ending) → IsScenario text (Ok (p, asked)) → Comes p asked out ending → IsPlayed text out ending
played_pool text out p asked ending says (inl comes) = inl (Ok (p, asked), says, comes)
played_pool text out p asked ending says (inr memory) = inr (memory.0, inr (Ok (p, asked), says, memory.1))

-- lines that were played, and how that ends: with the bad line, or for want of memory
pub comes_lines : (p : PoolLine) (asked : Asked) (out : List ℕ) (c : Config) (r : Running) (k : ℕ) → c ≡ config_of p → Ok tt ≡ checked c → asked.1 ≡ Some k → PlaysLines c asked.0 (Ok tt) r out → Comes p asked out (Err (BadLine k))
comes_lines p asked out c r k one good bad plays = inl (comes_bad p asked k out c plays.0 r one good bad plays.1)

pub comes_memory : (p : PoolLine) (asked : Asked) (out : List ℕ) (c : Config) (r : Running) (e : PoolError) → c ≡ config_of p → Ok tt ≡ checked c → PlaysLines c asked.0 (Err e) r out → Comes p asked out (Err e)
comes_memory p asked out c r e one good plays = inr (ap Err plays.0, breaks_off p asked out c one good plays.1)

-- and with its end, as far as that was written
pub comes_ended : (p : PoolLine) (asked : Asked) (mid out : List ℕ) (c : Config) (r : Running) (ending : Ending) → c ≡ config_of p → Ok tt ≡ checked c → asked.1 ≡ None → PlaysLines c asked.0 (Ok tt) r mid
    → OnOk ending ((q : Playing) → IsAt r q → out ≡ mid ++ end_lines (state q.config q.history))
    → OnErr ending ((q : Playing) → IsAt r q → Broken mid (state q.config q.history) out)
    → IsOkUnless ending NoMemory → Comes p asked out ending
comes_ended p asked mid out c r (Ok u) one good none plays ends breaks memory = inl (comes_whole p asked mid out c plays.0 r one good none plays.1 ends)
comes_ended p asked mid out c r (Err e) one good none plays ends breaks memory = inr (ap Err memory, breaks_end p asked mid out c plays.0 r one good none plays.1 breaks)

known_as : (input : Option (List ℕ)) (text got : List ℕ) → got ≡ text → IfSome input (λ xs. text ≡ xs) → IfSome input (λ xs. got ≡ xs)
known_as None text got is known = tt
known_as (Some xs) text got is known = is ∙ known

-- a run over a text is one from each reader that gave it
pub ran_from : (input old new : Option (List ℕ)) (text : List ℕ) (ending : Ending) → IfSome input (λ xs. text ≡ xs) → IsRun (Some text) old new ending → IsRun input old new ending
ran_from input old new text (Ok u) known run = (run.0, run.1, known_as input text run.0 run.2 known, run.3, run.4)
ran_from input old new text (Err ReadFailed) known run = run
ran_from input old new text (Err WriteFailed) known run = tt
ran_from input old new text (Err e) known run = (run.0, run.1, known_as input text run.0 run.2 known, run.3, run.4)
