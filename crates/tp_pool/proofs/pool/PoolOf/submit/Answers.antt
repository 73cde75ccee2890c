use Rattle.std.proofs.Common.{◌≡◌, ◌+◌, inl, inr, refl, ap, subst, sym, ◌∙◌, arith}
use Rattle.std.specs.Prelude.{ℕ, Some}
use Rattle.tp_types.specs.declared.configs.Verdict.{Verdict}
use Rattle.tp_types.specs.declared.ids.TaskId.{TaskId}
use Rattle.tp_types.specs.declared.tasks.Kind.{Kind}
use Rattle.tp_record.specs.declared.entries.Did.TheVariants as did
use Rattle.tp_record.specs.declared.entries.Looked.{Looked}
use Rattle.tp_record.specs.declared.entries.Ruled.TheVariants as ruled
use Rattle.tp_protocols.specs.Fronts.{admission_of, follow_of}
use Rattle.tp_pool_holds.proofs.Returned.{unrejected}
use Rattle.tp_pool.proofs.Walks.{Walk, begun, walked, taken_on, admits_at, rejects_at, torn_off}
use Rattle.tp_pool.proofs.pool.PoolOf.submit.Goals as goal

submitted_otherwise : {t u : TaskId} {k : Kind} {p : ℕ} {l : Looked} {v : Verdict} → ¬ (did.Submit t k p l ≡ did.Verdict u v ruled.Rejected)
submitted_otherwise is = absurd (cc)

pub loop-init : goal.loop-init
loop-init g c =
    let t = c.in-Ok.submitted.0 in
    let look = c.in-Ok.submitted.1 in
    let got = c.in-Ok.ensures.makes in
    let job = c.args.job in
    let promise = c.args.step.promise in (
      subst (λ f. Walk (g.K.Recorder.terms g.G.PoolNaming.config) c.args.step.kind c.args.step.priority job promise t.0 c.args.pass.now f 1 c.submit.new.pass) (sym c.follows-next.ensures)
          (begun (g.K.Recorder.terms g.G.PoolNaming.config) c.args.step.kind c.args.step.priority job promise c.law_fronts_are_paths.ensures.begins t look c.args.pass.now c.submit.new.pass got.0 got.1
          got.2 c.in-Ok.ensures.step c.requires.room c.in-Ok.ensures.left),
      λ rejected. absurd (unrejected t.0 (did.Submit t c.args.step.kind c.args.step.priority look) (λ u v. submitted_otherwise) (sym c.follows-next.ensures ∙ rejected)),
    )

pub loop-preserved : goal.loop-preserved
loop-preserved g c =
    let t = c.in-Ok.submitted.0.0 in
    let job = c.args.job in
    let promise = c.args.step.promise in
    let step = c.in-Some.ensures.step in (
      subst (λ f. Walk (g.K.Recorder.terms g.G.PoolNaming.config) c.args.step.kind c.args.step.priority job promise t c.args.pass.now f (c.loop.counter + 1) c.advance.new.pass) (sym c.after-next.ensures)
          (walked (g.K.Recorder.terms g.G.PoolNaming.config) c.args.step.kind c.args.step.priority job promise c.law_fronts_are_paths.ensures.goes_on t c.args.pass.now c.loop.pass c.advance.new.pass c.loop.next c.loop.counter step.0 c.in-Some.did
          c.loop.invariant.0 c.in-Some.ensures.on_path step.1 c.in-Some.ensures.left),
      λ rejected. let out = c.in-Some.ensures.returned (sym c.after-next.ensures ∙ rejected) in (
        out.0,
        taken_on (g.K.Recorder.terms g.G.PoolNaming.config) c.args.step.kind c.args.step.priority job promise t c.args.pass.now c.loop.pass
            (follow_of t c.loop.next) c.loop.counter c.loop.invariant.0 c.advance.new.held c.advance.new.pass.front out.1,
      ),
    )

pub returns-in-Err-clause-refused : goal.returns-in-Err-clause-refused
returns-in-Err-clause-refused g c =
    let refused = c.in-Err.ensures in
    inr (inr (refused.refused, ap (λ j. Some j) refused.returned, refused.unchanged))

pub returns-in-End-clause-admitted : goal.returns-in-End-clause-admitted
returns-in-End-clause-admitted g c =
    let t = c.in-Ok.submitted.0 in
    let job = c.args.job in
    admits_at (g.K.Recorder.terms g.G.PoolNaming.config) c.args.step.kind c.args.step.priority job c.args.step.promise c.law_fronts_are_paths.ensures.ends t c.args.pass.now c.loop.pass (follow_of t.0 c.loop.next) c.loop.counter (admission_of c.in-End.ending)
    (ap (λ n. follow_of t.0 n) c.in-End.is) c.loop.invariant.0 c.answer.result c.answer.ensures.admitted

pub returns-in-End-clause-refused : goal.returns-in-End-clause-refused
returns-in-End-clause-refused g c =
    let t = c.in-Ok.submitted.0 in
    let job = c.args.job in
    rejects_at (g.K.Recorder.terms g.G.PoolNaming.config) c.args.step.kind c.args.step.priority job c.args.step.promise g.K.Recorder.RECEIPTS c.law_fronts_are_paths.ensures.ends t c.args.pass.now c.loop.pass (follow_of t.0 c.loop.next) c.loop.counter c.in-End.ending
    (ap (λ n. follow_of t.0 n) c.in-End.is) c.loop.invariant.0 c.loop.held c.loop.invariant.1 c.answer.result c.answer.ensures.rejected c.answer.ensures.job

pub returns-in-End-next-clause-admitted : goal.returns-in-End-next-clause-admitted
returns-in-End-next-clause-admitted g c =
    let t = c.in-Ok.submitted.0 in
    let job = c.args.job in
    admits_at (g.K.Recorder.terms g.G.PoolNaming.config) c.args.step.kind c.args.step.priority job c.args.step.promise c.law_fronts_are_paths.ensures.ends t c.args.pass.now c.loop.pass (follow_of t.0 c.loop.next) c.loop.counter (admission_of c.in-End-next.ending)
    (ap (λ n. follow_of t.0 n) c.in-End-next.is) c.loop.invariant.0 c.answer-in-End-next.result c.answer-in-End-next.ensures.admitted

pub returns-in-End-next-clause-refused : goal.returns-in-End-next-clause-refused
returns-in-End-next-clause-refused g c =
    let t = c.in-Ok.submitted.0 in
    let job = c.args.job in
    rejects_at (g.K.Recorder.terms g.G.PoolNaming.config) c.args.step.kind c.args.step.priority job c.args.step.promise g.K.Recorder.RECEIPTS c.law_fronts_are_paths.ensures.ends t c.args.pass.now c.loop.pass (follow_of t.0 c.loop.next) c.loop.counter c.in-End-next.ending
    (ap (λ n. follow_of t.0 n) c.in-End-next.is) c.loop.invariant.0 c.loop.held c.loop.invariant.1 c.answer-in-End-next.result c.answer-in-End-next.ensures.rejected c.answer-in-End-next.ensures.job

pub returns-in_default-advance : goal.returns-in_default-advance
returns-in_default-advance g c =
    let t = c.in-Ok.submitted.0 in
    let job = c.args.job in record {
      admitted = tt;
      refused = torn_off (g.K.Recorder.terms g.G.PoolNaming.config) c.args.step.kind c.args.step.priority job c.args.step.promise g.K.Recorder.RECEIPTS t c.args.pass.now c.loop.pass c.advance.new.pass c.loop.next c.loop.counter
          c.loop.invariant.0 c.in_default.not-End c.in_default-advance.ensures.unchanged (λ on. inl (c.in_default-advance.ensures.undone on)) c.torn.result c.torn.ensures;
    }

pub returns-in_default-next : goal.returns-in_default-next
returns-in_default-next g c =
    let t = c.in-Ok.submitted.0 in
    let job = c.args.job in record {
      admitted = tt;
      refused = torn_off (g.K.Recorder.terms g.G.PoolNaming.config) c.args.step.kind c.args.step.priority job c.args.step.promise g.K.Recorder.RECEIPTS t c.args.pass.now c.loop.pass c.loop.pass c.loop.next c.loop.counter
          c.loop.invariant.0 c.in_default-next.not-End (inl refl) (λ on. inr (omega arith)) c.torn-in_default-next.result c.torn-in_default-next.ensures;
    }
