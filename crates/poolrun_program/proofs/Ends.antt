-- The end of a pool, and what its record says of the caller that made it run.
use Rattle.std.proofs.Common.{◌≡◌, ◌⊎◌, ℕ, true, List, [], ◌∷◌, ◌++◌, reverse, refl, sym, ap, subst, ◌∙◌, inl, inr, ⊎_elim, arith}
use Rattle.std.specs.Prelude.{All, Some, if◌then◌else◌}
use Rattle.std.proofs.lemmas.List.{append-nil, reverse-reverse}
use Rattle.std.proofs.lemmas.List.Elements.{All-nil, All-cons, All-append, All-pop}
use Rattle.tp_types.specs.Config.{IsConfig}
use Rattle.tp_types.specs.declared.configs.Config.{Config}
use Rattle.tp_record.specs.declared.entries.Ask.TheVariants as ask
use Rattle.tp_record.specs.declared.entries.Did.TheVariants as did
use Rattle.tp_record.specs.declared.entries.Entry.{Entry}
use Rattle.tp_record.specs.Fields.{rank}
use Rattle.tp_record.specs.Paths.{own}
use Rattle.tp_record.specs.State.{state, counts}
use Rattle.tp_record.specs.Step.{Legal}
use Rattle.tp_book.specs.PassView.{PassView, receipts_with}
use Rattle.tp_book.specs.Reports.{IsOwn, TellsRecord}
use Rattle.tp_book.specs.declared.reports.Report.{Report}
use Rattle.tp_pool_holds.specs.Passes.{Adds, LooksOnly, entry_of, tidied, ended}
use Rattle.tp_pool_holds.specs.Reports.{Reports}
use Rattle.tp_pool_holds.specs.Endings.{AddsAndEnds, IsBarred, IsEnding}
use Rattle.tp_glance.proofs.Fronts.{rank_grows}
use Rattle.tp_pool_holds.proofs.Moments.{rank_top}
use Rattle.tp_pool_holds.proofs.Receipts.{adds_both, adds_looks}
use Rattle.poolrun_program.specs.Runs.{AddsEnd, AddsSubmissions, Asked, IsEnd, IsLife, IsRun}

two_ended : (by : ℕ) → All (λ e. (e ≡ tidied by) ⊎ (e ≡ ended by)) (tidied by ∷ ended by ∷ [])
two_ended by =
    let P : Entry → Type 0 = λ e. (e ≡ tidied by) ⊎ (e ≡ ended by) in
    All-cons P (tidied by) (ended by ∷ []) (inl refl) (All-cons P (ended by) [] (inr refl) (All-nil P))

are_endings : (c : Config) (by : ℕ) (steps history : List Entry) → IsEnding c by steps history → All (λ e. (e ≡ tidied by) ⊎ (e ≡ ended by)) steps
are_endings c by steps history is =
    let P : Entry → Type 0 = λ e. (e ≡ tidied by) ⊎ (e ≡ ended by) in
    ⊎_elim (λ (x : (steps ≡ []) × IsBarred c history ask.Tidy). subst (All P) (sym x.0) (All-nil P))
    (⊎_elim (λ (x : (steps ≡ tidied by ∷ []) × IsBarred c history ask.Ended). subst (All P) (sym x.0) (All-cons P (tidied by) [] (inl refl) (All-nil P)))
    (λ (x : steps ≡ tidied by ∷ ended by ∷ []). subst (All P) (sym x) (two_ended by)))
    is

-- a shutdown, and the wait for the end
adds_end : (c : Config) (old mid new : PassView) → AddsAndEnds c old ask.Shutdown did.Shutdown mid
    → Adds c mid [] new ⊎ Adds c mid (tidied mid.number ∷ ended mid.number ∷ []) new → rank new.front ≡ 4 → AddsEnd c old new
adds_end c old mid new first waited seen =
    let P : Entry → Type 0 = λ e. (e ≡ tidied old.number) ⊎ (e ≡ ended old.number) in
    let by = first.2.number in
    let steps = entry_of old.number ask.Shutdown did.Shutdown ∷ first.0 in
    let last = tidied old.number ∷ ended old.number ∷ [] in
    ⊎_elim (λ (x : Adds c mid [] new).
    (steps, (first.0, refl, are_endings c old.number first.0 mid.front first.1), subst (λ s. Adds c old s new) (append-nil steps) (adds_both c old mid new steps [] first.2 x), seen))
    (λ (x : Adds c mid (tidied mid.number ∷ ended mid.number ∷ []) new). (
      steps ++ last,
      (first.0 ++ last, refl, All-append P first.0 last (are_endings c old.number first.0 mid.front first.1) (two_ended old.number)),
      adds_both c old mid new steps last first.2 (subst (λ n. Adds c mid (tidied n ∷ ended n ∷ []) new) by x),
      seen,
    ))
    waited

-- the same, where the pass was not touched between the two
pub adds_own_end : (c : Config) (old mid left new : PassView) → AddsAndEnds c old ask.Shutdown did.Shutdown mid → left ≡ mid
    → Adds c left [] new ⊎ Adds c left (tidied left.number ∷ ended left.number ∷ []) new → rank new.front ≡ 4 → AddsEnd c old new
adds_own_end c old mid left new first same waited seen =
    adds_end c old mid new first (subst (λ p. Adds c p [] new ⊎ Adds c p (tidied p.number ∷ ended p.number ∷ []) new) same waited) seen

-- and then a look
pub ends_looks : (c : Config) (old mid new : PassView) → AddsEnd c old mid → (new ≡ mid) ⊎ LooksOnly c mid new → AddsEnd c old new
ends_looks c old mid new end looked =
    ⊎_elim (λ (x : new ≡ mid). subst (λ p. AddsEnd c old p) (sym x) end)
    (λ (x : LooksOnly c mid new). (
      end.0,
      end.1,
      adds_looks c old mid new end.0 end.2 x,
      (
          let grown = rank_grows x.1 in
          let top = rank_top new.front in omega (arith, grown, top, end.3)
          ),
    ))
    looked

-- the list of one caller's pass
pub one_pass : (passes pushed : List PassView) (now : PassView) → passes ≡ [] → pushed ≡ passes ++ now ∷ [] → pushed ≡ now ∷ []
one_pass passes pushed now alone is = is ∙ ap (λ ps. ps ++ now ∷ []) alone

-- the report of a pool with these settings, which the caller with this pass shut down and closed
record IsClosed (c : Config) (pass : PassView) (r : Report) : Type 0 where
  pub good : IsConfig c
  pub legal : Legal c (reverse r.entries.items)
  pub ended : (state c (reverse r.entries.items)).rank ≡ 4
  pub counts : r.counts ≡ counts (state c (reverse r.entries.items))
  pub receipts : (last : List Entry) × IsEnd pass.number last × (own pass.number r.entries.items ≡ receipts_with pass last)

-- the close of a pool by its one caller
closed_by : (c : Config) (pass now : PassView) (r : Report) → AddsEnd c pass now → Reports c (now ∷ []) r → IsClosed c pass r
closed_by c pass now r end reports =
    let turned : reports.history ≡ reverse r.entries.items = sym (ap reverse reports.tells.entries ∙ reverse-reverse reports.history) in
    let owned = (All-pop (λ (p : PassView). IsOwn true reports.history p.number p.receipts) (now ∷ []) [] (Some now) refl reports.receipts).1 refl in
    let own_now = subst (λ es. own now.number es ≡ now.receipts) (sym reports.tells.entries) owned in record {
      good = reports.good;
      legal = subst (λ h. Legal c h) turned reports.legal;
      ended = subst (λ h. (state c h).rank ≡ 4) turned reports.ended;
      counts = subst (λ h. r.counts ≡ counts (state c h)) turned reports.tells.counts;
      receipts = (end.0, end.1, subst (λ n. own n r.entries.items ≡ receipts_with pass end.0) end.2.number (own_now ∙ end.2.receipts));
    }

run_of : (c : Config) (first mid : PassView) (ks : List Asked) (r : Report) → first.number ≡ 0 → first.keeps ≡ true → first.receipts ≡ [] → AddsSubmissions c ks first mid → IsClosed c mid r → IsRun c ks r
run_of c first mid ks r zeroth whole none before closed =
    let number : mid.number ≡ 0 = before.2.number ∙ zeroth in
    let receipts : mid.receipts ≡ before.0 = before.2.receipts ∙ ap (λ k. if k then first.receipts ++ before.0 else first.receipts) whole ∙ ap (λ rs. rs ++ before.0) none in
    let keeps : mid.keeps ≡ true = before.2.keeps ∙ whole in record {
      good = closed.good;
      legal = closed.legal;
      ended = closed.ended;
      counts = closed.counts;
      submissions = (
        before.0,
        closed.receipts.0,
        before.1,
        subst (λ by. IsEnd by closed.receipts.0) number closed.receipts.1,
        subst (λ by. own by r.entries.items ≡ receipts_with mid closed.receipts.0) number closed.receipts.2
            ∙ ap (λ k. if k then mid.receipts ++ closed.receipts.0 else mid.receipts) keeps ∙ ap (λ rs. rs ++ closed.receipts.0) receipts,
      );
    }

-- the whole life
pub is_run : (c : Config) (ks : List Asked) (r : Report) → IsLife TellsRecord true c c ks r → IsRun c ks r
is_run c ks r life =
    run_of c life.first life.submitted ks r (ap (λ p. p.number) life.opened) (ap (λ p. p.keeps) life.opened) (ap (λ p. p.receipts) life.opened) life.submits
    (closed_by c life.submitted life.last r life.ends life.closes)
