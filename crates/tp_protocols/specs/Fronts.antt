-- How far a submission has come on its path.
use Rattle.std.specs.Prelude.{ℕ, ◌==◌, ◌≡◌, Bool, false, List, [], ◌∷◌, if◌then◌else◌}
use Rattle.tp_record.specs.declared.entries.Entry.{Entry}
use Rattle.tp_record.specs.declared.entries.Did.{Did}
use Rattle.tp_record.specs.declared.entries.Did.TheVariants as did
use Rattle.tp_record.specs.Paths.{Follow, Then, Ends, Astray, Admission, Accepted, RanHere, Discarded, Rejected, follows, is_look_of, is_offer_of, is_second_of, is_grow_of, is_verdict_of, is_caller_end_of, is_opening_of}
use Rattle.tp_protocols.specs.declared.paths.Next.{Next}
use Rattle.tp_protocols.specs.declared.paths.Next.TheVariants as next
use Rattle.tp_protocols.specs.declared.paths.Ending.{Ending}
use Rattle.tp_protocols.specs.declared.paths.Ending.TheVariants as ending

abbrev pub is_submit_of : ℕ → Did → Bool
is_submit_of t (did.Submit u k p l) = t == u.0
is_submit_of t _ = false

-- what follows after an answer, where this was to follow
abbrev pub is_awaited : Follow → Did → Bool
is_awaited (Then fits) d = fits d
is_awaited _ d = false

abbrev pub goes : ℕ → Follow → Did → Follow
goes t f d = if is_awaited f d then follows t d else Astray

-- what follows after these entries, oldest first
abbrev pub after : ℕ → Follow → List Entry → Follow
after t f [] = f
after t f (e ∷ es) = after t (goes t f e.did) es

-- the entries, oldest first, are a front of a path of the submission of t, and this follows
abbrev pub IsFront : ℕ → List Entry → Follow → Type 0
IsFront t es f = after t (Then (is_submit_of t)) es ≡ f

abbrev pub admission_of : Ending → Admission
admission_of ending.Accepted = Accepted
admission_of (ending.RanHere o) = RanHere o
admission_of ending.Discarded = Discarded
admission_of ending.Rejected = Rejected

-- what a submitter's next deed awaits
abbrev pub follow_of : ℕ → Next → Follow
follow_of t next.Look = Then (is_look_of t)
follow_of t next.Offer = Then (is_offer_of t)
follow_of t next.Second = Then (is_second_of t)
follow_of t next.Grow = Then (is_grow_of t)
follow_of t next.Judge = Then (is_verdict_of t)
follow_of t next.RunHere = Then (is_caller_end_of t)
follow_of t (next.Staff w) = Then (is_opening_of w.0)
follow_of t (next.End e) = Ends (admission_of e)
follow_of t next.Astray = Astray
