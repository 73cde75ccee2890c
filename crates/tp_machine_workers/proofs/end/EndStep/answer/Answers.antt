use Rattle.std.proofs.Common.{◌≡◌, Result, Ok, Err, refl, inr}
use Rattle.std.specs.Prelude.{MatchResult}
use Rattle.std.proofs.lemmas.Result.{IfOk-weaker}
use Rattle.tp_types.specs.declared.ids.SlotId.{SlotId}
use Rattle.tp_types.specs.declared.ids.TaskId.{TaskId}
use Rattle.tp_types.specs.declared.refusals.PoolError.{PoolError}
use Rattle.tp_record.specs.declared.entries.Ask.TheVariants as ask
use Rattle.tp_record.specs.declared.entries.Did.TheVariants as did
use Rattle.tp_record.specs.Effects.{Outcome}
use Rattle.tp_record.specs.State.{State}
use Rattle.tp_record.specs.Step.{fitting}
use Rattle.tp_rules.specs.Answers.{no_settings, Answers}
use Rattle.tp_machine_state.proofs.Rules.{fits, denies}
use Rattle.tp_machine_workers.proofs.Promised.{promised_here}
use Rattle.tp_machine_workers.proofs.end.EndStep.answer.Goals as goal

-- the answer with this outcome
with_outcome : (Reads : State → Type 0) (w : SlotId) (o : Outcome) (r : Result TaskId PoolError) →
    MatchResult r (λ t. (x : Outcome) (s : State) → Reads s → fitting no_settings s 0 (ask.End w x) ≡ Ok (did.End w t x))
    (λ e. (x : Outcome) (s : State) → Reads s → fitting no_settings s 0 (ask.End w x) ≡ Err e) →
    Answers Reads (ask.End w o) (λ t. did.End w t o) r
with_outcome Reads w o (Ok t) answers = answers o
with_outcome Reads w o (Err e) answers = answers o

pub returns-then-fits_there-clause-fits : goal.returns-then-fits_there-clause-fits
returns-then-fits_there-clause-fits g c =
    let p = c.args.parts.now in
    let w = c.args.self.0 in
    let o = c.args.self.1 in
    let promised = c.fits_there.ensures.0 c.if-fits_there.true in
    IfOk-weaker c.end.result _ _
    (λ t fit. (fit, promised_here p c.requires.stands w t o fit promised))
    (fits p (ask.End w o) (λ t. did.End w t o) (λ v s. refl) (λ t. refl) c.end.result (with_outcome _ w o c.end.result c.end.ensures))

pub returns-then-fits_there-clause-denies : goal.returns-then-fits_there-clause-denies
returns-then-fits_there-clause-denies g c =
    let w = c.args.self.0 in
    let o = c.args.self.1 in
    denies c.args.parts.now (ask.End w o) (λ t. did.End w t o) (λ v s. refl) (c.fits_there.ensures.0 c.if-fits_there.true) c.end.result (with_outcome _ w o c.end.result c.end.ensures)
