-- At the task and the slot that an entry names, less is owed after it, where the entry does what is owed.
use Rattle.std.proofs.Common.{◌≡◌, ℕ, suc, ◌≤◌, true, List, ◌∷◌, arith}
use Rattle.std.proofs.lemmas.Bool.Decides.{nat_tests}
use Rattle.tp_types.specs.declared.configs.Config.{Config}
use Rattle.tp_record.specs.declared.entries.Entry.{Entry}
use Rattle.tp_record.specs.declared.entries.Ask.{Ask}
use Rattle.tp_record.specs.declared.entries.Did.{Did}
use Rattle.tp_record.specs.declared.entries.Did.TheVariants as did
use Rattle.tp_record.specs.declared.entries.Looked.TheVariants as looked
use Rattle.tp_record.specs.Fields.{rank}
use Rattle.tp_laws.specs.Room.{lowers}
use Rattle.tp_laws.proofs.Model.Given.{Given}
use Rattle.tp_laws.proofs.Owed.{named_due}

-- after the history h, the entry lowers what is owed at what it names
abbrev pub Falls : Config → ℕ → Ask → List Entry → Did → Type 0
Falls c n a h d = Given c h d → lowers (rank h) d ≡ true → suc (named_due (record { by = n; ask = a; did = d } ∷ h) d) ≤ named_due h d

-- each entry that does what is owed lowers it at what it names
pub entry_falls : (c : Config) (n : ℕ) (a : Ask) (h : List Entry) (d : Did) → Falls c n a h d
entry_falls c n a h (did.Look t (looked.Reserve w)) given low = grind (arith, nat_tests)
entry_falls c n a h _ given low = grind (arith, nat_tests)
