-- What a picture shows of a record.
use Rattle.std.specs.Prelude.{ℕ, suc, ◌≡◌, ◌++◌, ◌∷◌, ◌&&◌, Bool, true, false, List, [], Option, Some, None, codes, length, map, is_some, nat_le, if◌then◌else◌}
use Rattle.tp_types.specs.declared.configs.Config.{Config}
use Rattle.tp_record.specs.declared.entries.Did.{Did}
use Rattle.tp_record.specs.declared.entries.Did.TheVariants as did
use Rattle.tp_record.specs.declared.entries.Entry.{Entry}
use Rattle.tp_record.specs.declared.entries.Ruled.TheVariants as ruled
use Rattle.tp_record.specs.declared.entries.Started.TheVariants as started
use Rattle.tp_record.specs.State.{state}
use Rattle.tp_audit.specs.Audited.{Judged, settings}
use Rattle.tp_audit.specs.declared.tables.Tables.{Tables}
use Rattle.tp_story_drawing.specs.declared.drawings.Call.{Call}
use Rattle.tp_story_drawing.specs.declared.drawings.Drawing.{Drawing}
use Rattle.tp_story_drawing.specs.declared.drawings.Mark.{Mark}
use Rattle.tp_story_drawing.specs.declared.drawings.Run.{Run}
use Rattle.tp_story_drawing.specs.declared.drawings.Step.{Step}
use Rattle.tp_story_drawing.specs.declared.drawings.Step.TheVariants as step
use Rattle.tp_story_drawing.specs.declared.drawings.Window.{Window}

abbrev pub is_reached : Option ℕ → ℕ → Bool
is_reached None n = true
is_reached (Some to) n = nat_le n to

-- the entry of this number is drawn
abbrev pub is_within : Window → ℕ → Bool
is_within w n = nat_le w.from n && is_reached w.to n

-- what a caller's entry was
abbrev pub step_of : Did → Option Step
step_of (did.Submit t k p l) = Some (step.Submission t.0)
step_of (did.Verdict t v ruled.Rejected) = Some step.Rejection
step_of (did.Open w o) = None
step_of (did.Fail w f) = None
step_of (did.Take w t) = None
step_of (did.Begin w s) = None
step_of (did.End w t o) = None
step_of (did.Leave w n) = None
step_of (did.Tick m) = None
step_of did.Tidy = None
step_of did.Ended = None
step_of _ = Some step.Other

-- an entry concerns the whole pool
abbrev pub is_mark : Did → Bool
is_mark did.Shutdown = true
is_mark (did.Stop n) = true
is_mark did.Tidy = true
is_mark did.Ended = true
is_mark (did.Tick m) = true
is_mark (did.Core n k) = true
is_mark (did.Maximum n) = true
is_mark (did.Keep n) = true
is_mark (did.CoreTimeout b) = true
is_mark _ = false

-- what is drawn of an entry that came at this time and has this number: a caller's step, a mark, and a run that begins
abbrev pub call_of : ℕ → ℕ → Entry → List Call
call_of t n e = called (step_of e.did)
  where
    called : Option Step → List Call
    called None = []
    called (Some s) = record { by = e.by; time = t; number = n; step = s } ∷ []

abbrev pub mark_of : ℕ → ℕ → Entry → List Mark
mark_of t n e = if is_mark e.did then record { time = t; number = n; did = e.did } ∷ [] else []

abbrev pub run_of : ℕ → Did → List Run
run_of t (did.Begin w (started.Run k)) = record { slot = w.0; task = k.0; from = t; to = None } ∷ []
run_of t _ = []

-- a run as it began
abbrev pub begun : Run → Run
begun r = record r { to = None }

-- when an entry is drawn behind which the tables are these, or that ends this history
abbrev pub time_in : Tables → Bool → ℕ
time_in t true = t.moment
time_in t false = t.steps

abbrev pub time_of : Config → Bool → List Entry → ℕ
time_of c true h = (state c h).now
time_of c false h = length h

abbrev pub earlier : Option ℕ → ℕ → Option ℕ
earlier None t = Some t
earlier (Some f) t = Some f

-- what is drawn of a history, by what is drawn of each entry
abbrev pub gathered : {A : Type 0} → (ℕ → ℕ → Entry → List A) → Config → Window → List Entry → List A
gathered f c w [] = []
gathered f c w (e ∷ h) = gathered f c w h ++ (if is_within w (suc (length h)) then f (time_of c w.by_ticks (e ∷ h)) (suc (length h)) e else [])

-- the first time that is drawn
abbrev pub first_time : Config → Window → List Entry → Option ℕ
first_time c w [] = None
first_time c w (e ∷ h) = if is_within w (suc (length h)) then earlier (first_time c w h) (time_of c w.by_ticks (e ∷ h)) else first_time c w h

-- an entry of this number was noted at this time
pub record IsNoted (e : Entry) (n t : ℕ) (old new : Drawing) : Type 0 where
  pub auditor : new.auditor ≡ old.auditor
  pub window : new.window ≡ old.window
  pub calls : new.calls.items ≡ old.calls.items ++ call_of t n e
  pub marks : new.marks.items ≡ old.marks.items ++ mark_of t n e
  pub runs : map begun new.runs.items ≡ map begun old.runs.items ++ run_of t e.did
  pub first : new.first ≡ earlier old.first t

-- it was told this history, and shows the callers' steps, the marks and the runs within its window
pub record IsDrawn (d : Drawing) (h : List Entry) : Type 0 where
  pub judged : Judged d.auditor h
  pub calls : d.calls.items ≡ gathered call_of (settings d.auditor) d.window h
  pub marks : d.marks.items ≡ gathered mark_of (settings d.auditor) d.window h
  pub runs : map begun d.runs.items ≡ gathered (λ t n e. run_of t e.did) (settings d.auditor) d.window h
  pub first : d.first ≡ first_time (settings d.auditor) d.window h

-- a picture's text begins so
abbrev pub picture_head : List ℕ
picture_head = codes "<svg xmlns=\"http://www.w3.org/2000/svg\""

abbrev pub IsPicture : List ℕ → Type 0
IsPicture out = (more : List ℕ) × (out ≡ picture_head ++ more)

-- a picture is written just where some entry is drawn
abbrev pub Says : Drawing → List ℕ → Bool → Type 0
Says d out true = (is_some d.first ≡ true) × IsPicture out
Says d out false = (is_some d.first ≡ false) × (out ≡ [])
