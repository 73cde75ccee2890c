-- What comes late never begins: a task that is submitted once the pool is shut down, and one that is queued once it is
-- stopped.
use Rattle.std.proofs.Common.{◌≡◌, ℕ, ◌≤◌, max, Bool, true, false, List, [], ◌∷◌, ◌++◌, Some, arith, sym, ◌∙◌}
use Rattle.std.specs.Prelude.{nat_lt, nat_le, ◌||◌, unwrap_or}
use Rattle.std.proofs.lemmas.Bool.Decides.{nat_tests}
use Rattle.tp_types.specs.declared.configs.Config.{Config}
use Rattle.tp_types.specs.declared.tasks.Place.{Place}
use Rattle.tp_types.specs.declared.tasks.Place.TheVariants as at
use Rattle.tp_record.specs.declared.entries.Entry.{Entry}
use Rattle.tp_record.specs.declared.entries.Did.{Did}
use Rattle.tp_record.specs.Lists.{said_of, is_it}
use Rattle.tp_record.specs.Effects.{moved, reaches}
use Rattle.tp_record.specs.Fields.{rank, submitted, place, swept, is_cancelled, is_queued_place}
use Rattle.tp_record.specs.Words.{begun_by, is_begun, is_stop, queued_by}
use Rattle.tp_laws.proofs.Model.Given.{Told}
use Rattle.tp_laws.specs.Agrees.{is_gone_place}
use Rattle.tp_laws.proofs.Fits.{fits_place, fits_given, fits_rank, rank_given}
use Rattle.tp_laws.proofs.Fits.{told_front}
use Rattle.tp_laws.proofs.WordsTasks.{is_submitted_below, queued_agrees}
use Rattle.tp_laws.specs.Laws.{NothingBeginsAfterShutdown, StoppedNeverBegins, QueuedLateNeverBegins}
use Rattle.tp_laws.proofs.Ranks.{shut_down_rank, stopped_rank}
use Rattle.tp_laws.proofs.News.{new_gone}
use Rattle.tp_laws.proofs.Begins.{is_early, early_not_begun, new_not_begun}

-- at rank r a task at p never begins: it is refused or gone, or it is queued in a pool that is stopped
abbrev pub is_too_late : ℕ → Place → Bool
is_too_late r at.Refused = true
is_too_late r at.Queued = nat_le 2 r
is_too_late r at.Gone = true
is_too_late r _ = false

late_stays : (d : Did) (n t r : ℕ) (p : Place) (c : Bool) → fits_place d t n p ≡ true → fits_rank d r ≡ true → 1 ≤ r → is_too_late r p ≡ true →
    is_too_late (max (reaches d) r) (unwrap_or (said_of t (moved d)) (swept d c p)) ≡ true
late_stays d n t r p c fits ranks up late = grind (arith, nat_tests)

late_idle : (d : Did) (n t r : ℕ) (p : Place) → fits_place d t n p ≡ true → fits_rank d r ≡ true → 1 ≤ r → is_too_late r p ≡ true →
    is_it (begun_by d) t ≡ false
late_idle d n t r p fits ranks up late = grind (arith, nat_tests)

-- a task that is late and not begun never begins
pub late_for_good : (c : Config) (later h : List Entry) (t : ℕ) → Told c (later ++ h) → 1 ≤ rank h → is_too_late (rank h) (place h t) ≡ true → is_begun h t ≡ false →
    (1 ≤ rank (later ++ h)) × (is_too_late (rank (later ++ h)) (place (later ++ h) t) ≡ true) × (is_begun (later ++ h) t ≡ false)
late_for_good c [] h t told up late idle = (up, late, idle)
late_for_good c (e ∷ later) h t told up late idle =
    let was = late_for_good c later h t told.1 up late idle in
    let front : List Entry = later ++ h in
    let fits : fits_place e.did t (submitted front) (place front t) ≡ true = fits_given c front e.did t told.0 in
    let ranks : fits_rank e.did (rank front) ≡ true = rank_given c front e.did told.0 in (
      (let b : 1 ≤ rank front = was.0 in omega arith),
      late_stays e.did (submitted front) t (rank front) (place front t) (is_cancelled front t) fits ranks was.0 was.1,
      rw (late_idle e.did (submitted front) t (rank front) (place front t) fits ranks was.0 was.1) was.2,
    )

gone_late : (r : ℕ) (p : Place) → is_gone_place p ≡ true → is_too_late r p ≡ true
gone_late r p gone = grind arith

-- nothing submitted once the pool is shut down begins
pub never_after_shutdown : (c : Config) (later h : List Entry) → Told c (later ++ h) → Told c h → 1 ≤ rank h → (t : ℕ) → submitted h ≤ t → is_begun (later ++ h) t ≡ false
never_after_shutdown c later h told front up t far =
    (late_for_good c later h t told up (gone_late (rank h) (place h t) (new_gone c h front t far)) (new_not_begun c h front t far)).2

-- a task that a `stop` finds in the queue never begins, nor one that is put there once the pool is stopped
stopped_late : (d : Did) (t r : ℕ) (p : Place) (c : Bool) → is_stop d ≡ true → is_queued_place p ≡ true →
    is_too_late (max (reaches d) r) (unwrap_or (said_of t (moved d)) (swept d c p)) ≡ true
stopped_late d t r p c stop queued = grind (arith, nat_tests)

stop_rank : (d : Did) (r : ℕ) → is_stop d ≡ true → 1 ≤ max (reaches d) r
stop_rank d r stop = grind (arith, nat_tests)

stop_begins_none : (d : Did) (t : ℕ) (b : Bool) → is_stop d ≡ true → b ≡ false → (is_it (begun_by d) t || b) ≡ false
stop_begins_none d t b stop none = grind (arith, nat_tests)

queued_early : (p : Place) → is_queued_place p ≡ true → is_early p ≡ true
queued_early p queued = grind arith

pub never_after_stop : (c : Config) (later h : List Entry) (e : Entry) → Told c (later ++ e ∷ h) → Told c (e ∷ h) → is_stop e.did ≡ true → (t : ℕ) → is_queued_place (place h t) ≡ true →
    is_begun (later ++ e ∷ h) t ≡ false
never_after_stop c later h e told front stop t queued =
    (late_for_good c later (e ∷ h) t told (stop_rank e.did (rank h) stop) (stopped_late e.did t (rank h) (place h t) (is_cancelled h t) stop queued)
    (stop_begins_none e.did t (is_begun h t) stop (early_not_begun c h front.1 t (queued_early (place h t) queued)))).2

offered_late : (d : Did) (t r : ℕ) (p : Place) (c : Bool) → queued_by d ≡ Some t → 2 ≤ r →
    is_too_late (max (reaches d) r) (unwrap_or (said_of t (moved d)) (swept d c p)) ≡ true
offered_late d t r p c offers up = grind (arith, nat_tests)

offer_begins_none : (d : Did) (t : ℕ) (b : Bool) → queued_by d ≡ Some t → b ≡ false → (is_it (begun_by d) t || b) ≡ false
offer_begins_none d t b offers none = grind (arith, nat_tests)

offered_early : (d : Did) (n t : ℕ) (p : Place) → fits_place d t n p ≡ true → queued_by d ≡ Some t → is_early p ≡ true
offered_early d n t p fits offers = grind (arith, nat_tests)

pub never_queued_late : (c : Config) (later h : List Entry) (e : Entry) → Told c (later ++ e ∷ h) → Told c (e ∷ h) → 2 ≤ rank h → (t : ℕ) → queued_by e.did ≡ Some t →
    is_begun (later ++ e ∷ h) t ≡ false
never_queued_late c later h e told front up t offers =
    (late_for_good c later (e ∷ h) t told (let r : 2 ≤ rank h = up in omega arith) (offered_late e.did t (rank h) (place h t) (is_cancelled h t) offers up)
    (offer_begins_none e.did t (is_begun h t) offers
    (early_not_begun c h front.1 t (offered_early e.did (submitted h) t (place h t) (fits_given c h e.did t front.0) offers)))).2

new_below : (t n : ℕ) → nat_lt t n ≡ false → n ≤ t
new_below t n is = grind (arith, nat_tests)

pub none_after_shutdown : (c : Config) (later h : List Entry) → Told c (later ++ h) → NothingBeginsAfterShutdown later h
none_after_shutdown c later h told down t new =
    let up : 1 ≤ rank h = shut_down_rank h down in
    let front : Told c h = told_front c later h told in
    never_after_shutdown c later h told front up t (new_below t (submitted h) (sym (is_submitted_below c h front t) ∙ new))

pub stopped_never : (c : Config) (later : List Entry) (e : Entry) (h : List Entry) → Told c (later ++ e ∷ h) → StoppedNeverBegins later e h
stopped_never c later e h told stop t waits =
    let front : Told c (e ∷ h) = told_front c later (e ∷ h) told in
    never_after_stop c later h e told front stop t (sym (queued_agrees c h front.1 t) ∙ waits)

pub queued_late_never : (c : Config) (later : List Entry) (e : Entry) (h : List Entry) → Told c (later ++ e ∷ h) → QueuedLateNeverBegins later e h
queued_late_never c later e h told stopped t offers = never_queued_late c later h e told (told_front c later (e ∷ h) told) (stopped_rank h stopped) t offers
