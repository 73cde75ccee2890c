-- A record that is judged and explained is judged.
use Rattle.std.proofs.Common.{◌≡◌, List, ℕ}
use Rattle.tp_types.specs.declared.configs.Config.{Config}
use Rattle.tp_record.specs.declared.entries.Entry.{Entry}
use Rattle.tp_audit.specs.Audited.{settings}
use Rattle.tp_text_record.specs.declared.judging.Judging.{Judging}
use Rattle.tp_text_record.specs.declared.reading.Body.{Body}
use Rattle.tp_text_record.specs.declared.versions.Version.{Version}
use Rattle.tp_text_record.specs.Judging.{IsToldBy}
use Rattle.tp_text_record.specs.Reading.{IsTaken}
use Rattle.tp_text_record.proofs.Written.{about_pool, told}
use Rattle.poolrun_commands.specs.declared.explains.Explained.{Explained}

abbrev pub judging_of : Body Explained → Body Judging
judging_of b = record { version = b.version; taker = b.taker.judging; entries = b.entries; is_over = b.is_over }

pub explained_taken : (b : Body Explained) (text : List ℕ) → IsTaken (λ (t : Explained) (v : Version) (c : Config). settings t.judging.auditor ≡ c) (λ (t : Explained) (es : List Entry). IsToldBy t.judging.auditor t.judging.flaw es) b text → IsTaken about_pool told (judging_of b) text
explained_taken b text is = record {
  config = is.config;
  entries = is.entries;
  left = is.left;
  about_pool = is.about_pool;
  taken = is.taken;
  counted = is.counted;
  has_text = is.has_text;
  accepted = is.accepted;
  is_text = is.is_text;
  is_part = is.is_part;
  none_left = is.none_left;
}
