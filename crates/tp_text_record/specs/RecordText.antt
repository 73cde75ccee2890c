-- The text of a record.
use Rattle.std.specs.Prelude.{◌≡◌, ◌==◌, false, ℕ, suc, List, [], ◌∷◌, ◌++◌, length, Option, Some, None, codes, if◌then◌else◌}
use Rattle.std.specs.Fmt.{decimal}
use Rattle.std.specs.List.{AllByRecursion, flat_map}
use Rattle.tp_types.specs.declared.configs.Config.{Config}
use Rattle.tp_types.specs.declared.configs.QueueKind.{QueueKind}
use Rattle.tp_types.specs.Queues.{is_ranked}
use Rattle.tp_record.specs.declared.entries.Entry.{Entry}
use Rattle.tp_text.specs.declared.pools.PoolLine.{PoolLine}
use Rattle.tp_text.specs.EntryLine.{words, entry_words}
use Rattle.tp_text.specs.Fits.{Fits32}
use Rattle.tp_text.specs.Lines.{ended}
use Rattle.tp_text.specs.Pools.{FitsPool, options_text, pool_text}
use Rattle.tp_text.specs.Reads.{spaced}
use Rattle.tp_text_record.specs.declared.versions.Version.{Version}
use Rattle.tp_text_record.specs.declared.versions.Version.TheVariants as version
use Rattle.tp_text_record.specs.EntryFits.{IsStep}

-- a record limit is written where it is not the usual one
abbrev pub written_limit : ℕ → Option ℕ
written_limit n = if n == 4096 then None else Some n

-- the pool line that is written of a configuration
abbrev pub written : Config → PoolLine
written c =
    record {
      core = c.core;
      maximum = c.maximum;
      queue = c.queue;
      keep = c.keep;
      policy = c.policy;
      core_timeout = c.core_timeout;
      limit = written_limit c.record_limit;
    }

-- what may follow a word, behind its space
abbrev pub behind_word : Option (List ℕ) → List ℕ
behind_word None = []
behind_word (Some rest) = 32 ∷ rest

-- what follows the policy in a written pool line
abbrev pub written_options : Config → List ℕ
written_options c = behind_word (options_text (c.core_timeout, written_limit c.record_limit))

-- a configuration that has a pool line: its numbers are in the range of their types
abbrev pub HasPoolLine : Config → Type 0
HasPoolLine c = FitsPool (written c) × Fits32 c.record_limit

-- the first form knows no queue that goes by priority
abbrev pub SuitsQueue : Version → QueueKind → Type 0
SuitsQueue version.One q = is_ranked q ≡ false
SuitsQueue version.Two q = Unit {0}

-- a configuration that has a pool line in this form
abbrev pub FitsConfig : Version → Config → Type 0
FitsConfig v c = HasPoolLine c × SuitsQueue v c.queue

-- the lines of a record text, without their ends

abbrev pub header : Version → List ℕ
header version.One = codes "tprecord 1"
header version.Two = codes "tprecord 2"

abbrev pub pool_line : Config → List ℕ
pool_line c = pool_text (written c)

-- entry n
abbrev pub entry_text : ℕ → Entry → List ℕ
entry_text n e = words (entry_words n e)

-- entries, the first of which has number n
abbrev pub entry_texts : ℕ → List Entry → List (List ℕ)
entry_texts n [] = []
entry_texts n (e ∷ es) = entry_text n e ∷ entry_texts (suc n) es

abbrev pub end_line : ℕ → List ℕ
end_line n = spaced (codes "end") (decimal n)

-- all lines of a record: its configuration and its entries, oldest first. The first line says the form. Behind it a record without
-- priorities has the same lines in both forms, since priority 0 has no words. So one reader and one proof serve both
abbrev pub record_lines : Version → Config → List Entry → List (List ℕ)
record_lines v c es = header v ∷ pool_line c ∷ (entry_texts 1 es ++ end_line (length es) ∷ [])

-- the text of a record in this form
abbrev pub record_text : Version → Config → List Entry → List ℕ
record_text v c es = flat_map ended (record_lines v c es)

-- a record that has a text in this form: its numbers are in the range of their types, and the answer of each entry is of the
-- form of its ask; in the first form its queue does not go by priority, and all priorities are 0. It has no more entries than a number
-- of 32 bits can count: no reader and no writer meets another record
pub record HasText (v : Version) (c : Config) (es : List Entry) : Type 0 where
  pub config : FitsConfig v c
  pub count : Fits32 (length es)
  pub steps : AllByRecursion (IsStep v) es
