-- Whole outputs of worked examples, as they stand in the examples' own texts.
use Rattle.std.proofs.Common.{◌≡◌, ℕ, List, [], ◌∷◌, ◌++◌, Ok, Err, true, false, codes, refl}
use Rattle.std.specs.Prelude.{pos}
use Rattle.std.specs.List.{flat_map}
use Rattle.std.specs.Fmt.{digits}
use Rattle.tp_types.specs.declared.tasks.Kind.TheVariants as kinds
use Rattle.tp_types.specs.declared.configs.QueueKind.TheVariants.{Unbounded}
use Rattle.tp_types.specs.declared.configs.Policy.TheVariants.{Abort}
use Rattle.tp_types.specs.declared.refusals.PoolError.TheVariants.{NotThere, ClockBack}
use Rattle.tp_record.specs.declared.entries.Ask.{Ask}
use Rattle.tp_record.specs.declared.entries.Ask.TheVariants as ask
use Rattle.tp_record.specs.declared.entries.Did.{Did}
use Rattle.tp_record.specs.declared.entries.Did.TheVariants as did
use Rattle.tp_record.specs.declared.entries.Looked.TheVariants as looked
use Rattle.tp_record.specs.declared.entries.Offered.TheVariants as offered
use Rattle.tp_record.specs.declared.entries.Opened.TheVariants as opened
use Rattle.tp_record.specs.declared.entries.Seconded.TheVariants as seconded
use Rattle.tp_record.specs.declared.entries.Started.TheVariants as started
use Rattle.tp_record.specs.declared.entries.Took.TheVariants as took
use Rattle.tp_text.specs.RunText.{Answer, output}

-- lines as they are written
abbrev text : List (List ℕ) → List ℕ
text lines = flat_map (λ line. line ++ 10 ∷ []) lines

abbrev accepted : Ask → Did → Answer
accepted a d = Ok (record { by = 0; ask = a; did = d })

-- a stop hands back one task of two that were cancelled
stop_hands_back :
    output (record { core = 1; maximum = 1; queue = Unbounded; keep = 0; core_timeout = false; policy = Abort; record_limit = 4096 })
    (accepted (ask.Submit kinds.Plain 0) (did.Submit (record { 0 = 0 }) kinds.Plain 0 (looked.Reserve (record { 0 = 0 })))
    ∷ accepted (ask.Submit kinds.Future 0) (did.Submit (record { 0 = 1 }) kinds.Future 0 looked.Queue)
    ∷ accepted (ask.Offer (record { 0 = 1 })) (did.Offer (record { 0 = 1 }) offered.Queued)
    ∷ accepted (ask.Second (record { 0 = 1 })) (did.Second (record { 0 = 1 }) seconded.Stay)
    ∷ accepted (ask.Submit kinds.Future 0) (did.Submit (record { 0 = 2 }) kinds.Future 0 looked.Queue)
    ∷ accepted (ask.Offer (record { 0 = 2 })) (did.Offer (record { 0 = 2 }) offered.Queued)
    ∷ accepted (ask.Second (record { 0 = 2 })) (did.Second (record { 0 = 2 }) seconded.Stay)
    ∷ accepted (ask.Cancel (record { 0 = 1 }) false) (did.Cancel (record { 0 = 1 }) false true)
    ∷ accepted (ask.Remove (record { 0 = 1 })) (did.Remove (record { 0 = 1 }) true)
    ∷ accepted (ask.Cancel (record { 0 = 2 }) false) (did.Cancel (record { 0 = 2 }) false true)
    ∷ accepted ask.Stop (did.Stop 1)
    ∷ [])
    ≡ text (codes "1 submit t0 plain reserve w0"
    ∷ codes "2 submit t1 future queue"
    ∷ codes "3 offer t1 queued"
    ∷ codes "4 second t1 stay"
    ∷ codes "5 submit t2 future queue"
    ∷ codes "6 offer t2 queued"
    ∷ codes "7 second t2 stay"
    ∷ codes "8 cancel t1 yes"
    ∷ codes "9 remove t1 yes"
    ∷ codes "10 cancel t2 yes"
    ∷ codes "11 stop drained 1"
    ∷ codes "back t2"
    ∷ codes "t0 open"
    ∷ codes "t1 cancelled"
    ∷ codes "t2 cancelled"
    ∷ codes "state stop"
    ∷ codes "counts submitted=3 run=0 caller=0 rejected=0 discarded=0 handedback=0 removed=0 cancelled=2 completed=0 queued=0 live=0 largest=0"
    ∷ [])
unfolding digits
stop_hands_back = refl

-- a worker times out, and two steps are refused
worker_times_out :
    output (record { core = 0; maximum = 1; queue = Unbounded; keep = 10; core_timeout = false; policy = Abort; record_limit = 4096 })
    (accepted (ask.Submit kinds.Plain 0) (did.Submit (record { 0 = 0 }) kinds.Plain 0 looked.Queue)
    ∷ accepted (ask.Offer (record { 0 = 0 })) (did.Offer (record { 0 = 0 }) offered.Queued)
    ∷ accepted (ask.Second (record { 0 = 0 })) (did.Second (record { 0 = 0 }) (seconded.StayReserve (record { 0 = 0 })))
    ∷ accepted (ask.Open (record { 0 = 0 })) (did.Open (record { 0 = 0 }) opened.Live)
    ∷ accepted (ask.Take (record { 0 = 0 })) (did.Take (record { 0 = 0 }) (took.Head (record { 0 = 0 })))
    ∷ accepted (ask.Begin (record { 0 = 0 })) (did.Begin (record { 0 = 0 }) (started.Run (record { 0 = 0 })))
    ∷ accepted (ask.End (record { 0 = 0 }) (Ok (pos 1))) (did.End (record { 0 = 0 }) (record { 0 = 0 }) (Ok (pos 1)))
    ∷ accepted (ask.Tick 5) (did.Tick 5)
    ∷ accepted (ask.Take (record { 0 = 0 })) (did.Take (record { 0 = 0 }) took.Idle)
    ∷ accepted (ask.Tick 14) (did.Tick 14)
    ∷ Err NotThere
    ∷ accepted (ask.Tick 15) (did.Tick 15)
    ∷ accepted (ask.Take (record { 0 = 0 })) (did.Take (record { 0 = 0 }) took.Leave)
    ∷ Err ClockBack
    ∷ [])
    ≡ text (codes "1 submit t0 plain queue"
    ∷ codes "2 offer t0 queued"
    ∷ codes "3 second t0 stay reserve w0"
    ∷ codes "4 open w0 live"
    ∷ codes "5 take w0 head t0"
    ∷ codes "6 begin w0 t0"
    ∷ codes "7 end w0 t0 value 1"
    ∷ codes "8 tick 5"
    ∷ codes "9 take w0 idle"
    ∷ codes "10 tick 14"
    ∷ codes "refused 8 NotThere"
    ∷ codes "11 tick 15"
    ∷ codes "12 take w0 leave"
    ∷ codes "refused 10 ClockBack"
    ∷ codes "t0 run"
    ∷ codes "state running"
    ∷ codes "counts submitted=1 run=1 caller=0 rejected=0 discarded=0 handedback=0 removed=0 cancelled=0 completed=1 queued=0 live=0 largest=1"
    ∷ [])
unfolding digits
worker_times_out = refl
