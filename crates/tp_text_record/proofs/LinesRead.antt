-- What is read of a record's text, line by line.
use Rattle.std.proofs.Common.{◌≡◌, ◌≢◌, ◌⊎◌, ℕ, suc, ◌+◌, ◌*◌, ◌<◌, ◌≤◌, ◌%◌, ◌^◌, List, [], ◌∷◌, ◌++◌, length, take, Bool, true, false, Option, Some, None, Result, Ok, Err, IfErr, IfOk, IfSome, is_err, is_ok, if◌then◌else◌, ◌==◌, unwrap_or, refl, sym, ◌∙◌, ap, subst, arith, append_assoc, append-nil, length-append, inl, inr}
use Rattle.std.specs.List.{AllByRecursion, flat_map}
use Rattle.std.specs.Io.KnownBytes.{Consumes, IsAtEnd}
use Rattle.std.proofs.KnownBytes.{Consumes-all, Consumes-trans}
use Rattle.std.proofs.lemmas.Bool.{true≢false}
use Rattle.std.proofs.lemmas.List.Concat.{flat_map-append}
use Rattle.tp_types.specs.declared.configs.Config.{Config}
use Rattle.tp_types.specs.declared.refusals.PoolError.{PoolError}
use Rattle.tp_types.specs.declared.refusals.PoolError.TheVariants.{BadEntry, NoMemory, ReadFailed}
use Rattle.tp_types.specs.Config.{checked}
use Rattle.tp_record.specs.declared.entries.Entry.{Entry}
use Rattle.tp_text.specs.declared.watched.WatchedReader.{WatchedReader}
use Rattle.tp_text.specs.Lines.{HasNoLineFeed, IsLines, ended}
use Rattle.tp_text.specs.Watching.{FailsToRead, TellsReader}
use Rattle.tp_text.proofs.Refusals.{checked_inner, is_outer, outer_err, same_outer}
use Rattle.tp_text.proofs.Watchings.{not_read}
use Rattle.tp_text_record.specs.declared.reading.Body.{Body}
use Rattle.tp_text_record.specs.declared.reading.Reading.{Reading}
use Rattle.tp_text_record.specs.declared.reading.Reading.TheVariants as reading
use Rattle.tp_text_record.specs.declared.reading.Stream.{Stream}
use Rattle.tp_text_record.specs.declared.records.BodyLine.{BodyLine}
use Rattle.tp_text_record.specs.declared.versions.Version.{Version}
use Rattle.tp_text_record.specs.EntryFits.{IsStep}
use Rattle.tp_text_record.specs.ReadRecord.{Begins, FitsBody, IsRefusedText, IsWrongAt, body_text}
use Rattle.tp_text_record.specs.Reading.{AreTooMany, HasRead, HasStreamed, IsRead, IsRefusedBy, IsTaken, OfReader, RefusesLine, StopsAt, lines_to}
use Rattle.tp_text_record.specs.RecordText.{FitsConfig, HasText, end_line, entry_text, entry_texts, header, pool_line, record_lines, record_text}
use Rattle.tp_text_record.proofs.FirstWrong.{Cut, fine_read, has_more, length-lines_to, long_behind, many_lines, missing_behind, no_entry, no_more, not_whole, one_more, refused_at}

-- answers, and what is said of them

pub err_on : {A E : Type 0} (r : Result A E) (P Q : E → Type 0) → ((e : E) → P e → Q e) → IfErr r P → IfErr r Q
err_on (Ok a) P Q on is = tt
err_on (Err e) P Q on is = on e is

pub ok_on : {A E : Type 0} (r : Result A E) (P Q : A → Type 0) → ((a : A) → P a → Q a) → IfOk r P → IfOk r Q
ok_on (Ok a) P Q on is = on a is
ok_on (Err e) P Q on is = tt

pub grown : {A E : Type 0} (r : Result A E) (all old now : List ℕ) → is_err r ≡ false → now ≡ (if is_ok r then all else old) → now ≡ all
grown (Ok a) all old now well is = is
grown (Err e) all old now failed is = absurd (true≢false failed)

-- lines, and what is read on of them

abbrev Single : List (List ℕ) → Type 0
Single ls = AllByRecursion HasNoLineFeed ls

tails : (x y : List ℕ) (xs ys : List (List ℕ)) → x ∷ xs ≡ y ∷ ys → xs ≡ ys
tails x y xs ys e = cc

all_both : (xs ys : List (List ℕ)) → Single xs → Single ys → Single (xs ++ ys)
all_both [] ys a b = b
all_both (x ∷ xs) ys a b = (a.0, all_both xs ys a.1 b)

few_lines : (lines : List (List ℕ)) → length lines ≤ length (flat_map ended lines)
few_lines [] = omega arith
few_lines (l ∷ lines) = omega (arith, few_lines lines, length-append (ended l) (flat_map ended lines), length-append l (10 ∷ []))

parts_on : (lines more : List (List ℕ)) (left bytes piece rest : List ℕ) → bytes ≡ flat_map ended lines ++ left → left ++ piece ≡ flat_map ended more ++ rest → bytes ++ piece ≡ flat_map ended (lines ++ more) ++ rest
parts_on lines more left bytes piece rest whole goes =
    ap (λ x. x ++ piece) whole ∙ append_assoc (flat_map ended lines) left piece ∙ ap (λ x. flat_map ended lines ++ x) goes
    ∙ sym (append_assoc (flat_map ended lines) (flat_map ended more) rest) ∙ ap (λ x. x ++ rest) (sym (flat_map-append ended lines more))

pub refused_pool : (v : Version) (c : Config) (lines : List (List ℕ)) (line : List ℕ) (e : PoolError) → lines ≡ header v ∷ [] → FitsConfig v c → line ≡ pool_line c → (checked c ≡ Err e) ⊎ (e ≡ NoMemory) → RefusesLine lines line e
refused_pool v c lines line e is fits goes (inl refused) = inr (inr (inl (v, c, is, fits, goes, refused)))
refused_pool v c lines line e is fits goes (inr memory) = inl memory

module _ {T : Type 0} (about : T → Version → Config → Type 0) (took : T → List Entry → Type 0) where
  pub pool_read : (b : Body T) (v : Version) (c : Config) (lines : List (List ℕ)) (line : List ℕ) → lines ≡ header v ∷ [] → line ≡ pool_line c → HasRead about took b (header v ∷ pool_line c ∷ []) → HasRead about took b (lines ++ line ∷ [])
  pool_read b v c lines line is goes read = subst (HasRead about took b) (ap (λ l. header v ∷ l ∷ []) (sym goes) ∙ ap (λ ls. ls ++ line ∷ []) (sym is)) read

  -- the number of the next line
  pub next_of : (b : Body T) (lines : List (List ℕ)) (n : ℕ) → HasRead about took b lines → (b.is_over ≡ false → n ≡ b.entries + 3) → (b.is_over ≡ true → n ≡ b.entries + 4) → n ≡ suc (length lines)
  next_of b lines n is still over =
      length-lines_to b.version is.config is.entries b.is_over n (λ no. still no ∙ ap (λ k. k + 3) is.counted) (λ yes. over yes ∙ ap (λ k. k + 4) is.counted) ∙ ap (λ ls. suc (length ls)) (sym is.lines_read)

  pub too_many : (b : Body T) (lines : List (List ℕ)) → HasRead about took b lines → 4294967291 ≤ b.entries → AreTooMany lines
  too_many b lines is many = omega (arith, many, is.counted, many_lines b.version is.config is.entries b.is_over, ap length is.lines_read)

  -- one more entry
  pub entry_read : (b : Body T) (t : T) (lines : List (List ℕ)) (line : List ℕ) (e : Entry) → HasRead about took b lines → b.is_over ≡ false → b.entries + 4 < 2 ^ 32 → IsStep b.version e → line ≡ entry_text (suc b.entries) e
      → ((es : List Entry) → took b.taker es → took t (es ++ e ∷ [])) → ((v : Version) (c : Config) → about b.taker v c → about t v c)
      → HasRead about took (record { version = b.version; taker = t; entries = b.entries + 1; is_over = b.is_over }) (lines ++ line ∷ [])
  entry_read b t lines line e is still few step goes takes same = record {
    config = is.config;
    entries = is.entries ++ e ∷ [];
    about_pool = same b.version is.config is.about_pool;
    taken = takes is.entries is.taken;
    counted = omega (arith, is.counted, length-append is.entries (e ∷ []));
    has_text = has_more b.version is.config is.entries e is.has_text step (omega (arith, few, is.counted));
    accepted = is.accepted;
    lines_read =
        ap (λ ls. ls ++ line ∷ []) (is.lines_read ∙ ap (lines_to b.version is.config is.entries) still)
        ∙ one_more b.version is.config is.entries e line (goes ∙ ap (λ k. entry_text (suc k) e) is.counted) ∙ ap (lines_to b.version is.config (is.entries ++ e ∷ [])) (sym still);
  }

  -- the end
  pub end_read : (b : Body T) (lines : List (List ℕ)) (line : List ℕ) → HasRead about took b lines → b.is_over ≡ false → line ≡ end_line b.entries
      → HasRead about took (record { version = b.version; taker = b.taker; entries = b.entries; is_over = true }) (lines ++ line ∷ [])
  end_read b lines line is still goes = record {
    config = is.config;
    entries = is.entries;
    about_pool = is.about_pool;
    taken = is.taken;
    counted = is.counted;
    has_text = is.has_text;
    accepted = is.accepted;
    lines_read =
        ap (λ ls. ls ++ line ∷ []) (is.lines_read ∙ ap (lines_to b.version is.config is.entries) still)
        ∙ ap (λ l. header b.version ∷ pool_line is.config ∷ (entry_texts 1 is.entries ++ l ∷ [])) (goes ∙ ap end_line is.counted);
  }

  -- neither an entry nor the end
  pub wrong_entry : (b : Body T) (lines : List (List ℕ)) (line : List ℕ) (n : ℕ) → HasRead about took b lines → b.is_over ≡ false → n ≡ suc (length lines) → ((x : BodyLine) → FitsBody b.version x → line ≢ body_text b.entries x) → RefusesLine lines line (BadEntry n)
  wrong_entry b lines line n is still number none =
      inr (inr (inr (
        ap BadEntry number,
        λ begins.
            no_entry b.version is.config is.entries line (λ x fits same. none x fits (same ∙ ap (λ k. body_text k x) (sym is.counted)))
            (subst (λ ls. Begins (ls ++ line ∷ [])) (is.lines_read ∙ ap (lines_to b.version is.config is.entries) still) begins),
      )))

  -- something behind the end
  pub wrong_end : (b : Body T) (lines : List (List ℕ)) (line : List ℕ) (n : ℕ) → HasRead about took b lines → b.is_over ≡ true → n ≡ suc (length lines) → RefusesLine lines line (BadEntry n)
  wrong_end b lines line n is over number =
      inr (inr (inr (
        ap BadEntry number,
        λ begins. no_more b.version is.config is.entries line is.has_text.count (subst (λ ls. Begins (ls ++ line ∷ [])) (is.lines_read ∙ ap (lines_to b.version is.config is.entries) over) begins),
      )))

  -- how far the lines of a text are read
  pub record TakesLines (old new : Reading T) (text rest : List ℕ) : Type 0 where
    pub more : List (List ℕ)
    pub parts : text ≡ flat_map ended more ++ rest
    pub each : AllByRecursion HasNoLineFeed more
    pub read : (lines : List (List ℕ)) → IsRead about took old lines → IsRead about took new (lines ++ more)

  pub no_lines : (r : Reading T) (text : List ℕ) → TakesLines r r text text
  no_lines r text = record { more = []; parts = refl; each = tt; read = λ lines is. subst (IsRead about took r) (sym (append-nil lines)) is }

  pub stops_at : (old mid : Reading T) (text rest line behind : List ℕ) (e : PoolError) (lines : List (List ℕ)) → TakesLines old mid text rest → rest ≡ line ++ 10 ∷ behind → HasNoLineFeed line
      → ((ls : List (List ℕ)) → IsRead about took mid ls → RefusesLine ls line e) → IsRead about took old lines → StopsAt lines text rest e
  stops_at old mid text rest line behind e lines takes goes single refuses is =
      let there = takes.read lines is in record {
        more = takes.more;
        line = line;
        behind = behind;
        parts = takes.parts;
        each = takes.each;
        goes = goes;
        single = single;
        fine = fine_read about took mid (lines ++ takes.more) there;
        refused = refuses (lines ++ takes.more) there;
      }

  -- the text of a record that is over
  pub whole_text : (b : Body T) (text : List ℕ) (is : IsTaken about took b text) → b.is_over ≡ true → text ≡ record_text b.version is.config is.entries
  whole_text b text is over =
      is.is_text ∙ ap (λ x. flat_map ended (lines_to b.version is.config is.entries b.is_over) ++ x) (is.none_left over) ∙ append-nil (flat_map ended (lines_to b.version is.config is.entries b.is_over))
      ∙ ap (λ o. flat_map ended (lines_to b.version is.config is.entries o)) over

  no_record : (r : Reading T) (lines : List (List ℕ)) (left : List ℕ) → IsRead about took r lines → ((b : Body T) → r ≡ reading.Opened b → b.is_over ≡ true → left ≡ [] → ⊥)
      → (v : Version) (c : Config) (es : List Entry) → HasText v c es → lines ≡ record_lines v c es → left ≡ [] → ⊥
  no_record reading.Start lines left is not v c es has same empty = let none : [] ≡ record_lines v c es = sym is ∙ same in cc
  no_record (reading.Formed w) lines left is not v c es has same empty =
      let none : [] ≡ pool_line c ∷ (entry_texts 1 es ++ end_line (length es) ∷ []) = tails (header w) (header v) _ _ (sym is ∙ same) in cc
  no_record (reading.Opened b) lines left is not v c es has same empty = opened b.is_over refl
    where
      opened : (over : Bool) → b.is_over ≡ over → ⊥
      opened true ended = not b refl ended empty
      opened false still = not_whole b.version v is.config c is.entries es is.has_text has (ap (lines_to b.version is.config is.entries) (sym still) ∙ sym is.lines_read ∙ same)

  pub missing_read : (r : Reading T) (text left : List ℕ) (lines : List (List ℕ)) (n : ℕ) → IsRead about took r lines → IsLines text lines left → n ≡ suc (length lines) → ((b : Body T) → r ≡ reading.Opened b → b.is_over ≡ true → left ≡ [] → ⊥) → IsWrongAt text (BadEntry n)
  missing_read r text left lines n is are number not = (suc (length lines), ap BadEntry number, missing_behind text lines left (fine_read about took r lines is) are (no_record r lines left is not))

  pub missing_header : (text left : List ℕ) (lines : List (List ℕ)) → lines ≡ [] → IsLines text lines left → IsWrongAt text (BadEntry 1)
  missing_header text left lines is are = missing_read reading.Start text left lines 1 is are (ap (λ ls. suc (length ls)) (sym is)) (λ b same. cc)

  pub missing_pool : (v : Version) (text left : List ℕ) (lines : List (List ℕ)) → lines ≡ header v ∷ [] → IsLines text lines left → IsWrongAt text (BadEntry 2)
  missing_pool v text left lines is are = missing_read (reading.Formed v) text left lines 2 is are (ap (λ ls. suc (length ls)) (sym is)) (λ b same. cc)

  -- the record is not over, or something is left behind it
  pub some_left : (left : List ℕ) (empty : Bool) → empty ≡ false → empty ≡ (length left == 0) → left ≡ [] → ⊥
  some_left [] empty some is none = true≢false (sym is ∙ some)
  some_left (b ∷ left) empty some is none = cc

  abbrev is_over_of : Reading T → Bool
  is_over_of (reading.Opened b) = b.is_over
  is_over_of r = false

  pub still_opened : (a b : Body T) → reading.Opened a ≡ reading.Opened b → a.is_over ≡ false → b.is_over ≡ true → ⊥
  still_opened a b same still over = true≢false (sym over ∙ ap is_over_of (sym same) ∙ still)

  -- a stream, piece by piece

  pub lines_on : (lines more : List (List ℕ)) (left bytes piece rest : List ℕ) → IsLines bytes lines left → IsLines (left ++ piece) more rest → IsLines (bytes ++ piece) (lines ++ more) rest
  lines_on lines more left bytes piece rest are on = record {
    whole = parts_on lines more left bytes piece rest are.whole on.whole;
    each = all_both lines more are.each on.each;
    last = on.last;
  }

  many_bytes : (lines : List (List ℕ)) (bytes rest : List ℕ) → bytes ≡ flat_map ended lines ++ rest → AreTooMany lines → 1048576 < length bytes
  many_bytes lines bytes rest parts many = omega (arith, many, few_lines lines, ap length parts, length-append (flat_map ended lines) rest)

  -- lines that are refused, whatever comes later
  pub refused_lines : (lines : List (List ℕ)) (left bytes piece rest later : List ℕ) (e : PoolError) → IsLines bytes lines left → StopsAt lines (left ++ piece) rest e → IsRefusedBy (bytes ++ piece) later e
  refused_lines lines left bytes piece rest later e are stops =
      let all : List (List ℕ) = lines ++ stops.more in
      let parts : bytes ++ piece ≡ flat_map ended all ++ rest = parts_on lines stops.more left bytes piece rest are.whole stops.parts in
      let whole : (bytes ++ piece) ++ later ≡ flat_map ended all ++ (rest ++ later) = ap (λ x. x ++ later) parts ∙ append_assoc (flat_map ended all) rest later in
      let cut : Cut (rest ++ later) stops.line (stops.behind ++ later) = record { whole = ap (λ x. x ++ later) stops.goes ∙ append_assoc stops.line (10 ∷ stops.behind) later; single = stops.single } in
      told parts (refused_at ((bytes ++ piece) ++ later) all (rest ++ later) stops.line (stops.behind ++ later) e stops.fine (all_both lines stops.more are.each stops.each) whole cut stops.refused)
    where
      told : bytes ++ piece ≡ flat_map ended (lines ++ stops.more) ++ rest → ((e ≡ ReadFailed) × AreTooMany (lines ++ stops.more)) ⊎ IsRefusedText ((bytes ++ piece) ++ later) e → IsRefusedBy (bytes ++ piece) later e
      told parts (inl many) = inl (many.0, many_bytes (lines ++ stops.more) (bytes ++ piece) rest parts many.1)
      told parts (inr refused) = inr refused

  pub piece_refused : (s : Stream T) (bytes piece rest later : List ℕ) (e : PoolError) → HasStreamed about took s bytes
      → ((lines : List (List ℕ)) → IsRead about took s.reading lines → StopsAt lines (s.left.items ++ piece) rest e) → IsRefusedBy (bytes ++ piece) later e
  piece_refused s bytes piece rest later e is stops = refused_lines is.lines s.left.items bytes piece rest later e is.parts (stops is.lines is.read)

  pub refused_number : (lines : List (List ℕ)) (rest bytes later : List ℕ) (e : PoolError) → IsLines bytes lines rest → (e ≡ ReadFailed) × AreTooMany lines → IsRefusedBy bytes later e
  refused_number lines rest bytes later e are many = inl (many.0, many_bytes lines bytes rest are.whole many.1)

  pub long_line : (r : Reading T) (lines : List (List ℕ)) (rest bytes later : List ℕ) (n : ℕ) → IsRead about took r lines → IsLines bytes lines rest → 256 < length rest → n ≡ suc (length lines) → IsRefusedBy bytes later (BadEntry n)
  long_line r lines rest bytes later n is are long number =
      inr (inr (inr (suc (length lines), ap BadEntry number, long_behind lines rest later bytes (fine_read about took r lines is) are long)))

  pub refused_end : (lines : List (List ℕ)) (left bytes : List ℕ) (e : PoolError) → IsLines bytes lines left → ((e ≡ ReadFailed) × AreTooMany lines) ⊎ IsWrongAt bytes e → IsRefusedBy bytes [] e
  refused_end lines left bytes e are (inl many) = refused_number lines left bytes [] e are many
  refused_end lines left bytes e are (inr wrong) = inr (inr (inr (subst (λ x. IsWrongAt x e) (sym (append-nil bytes)) wrong)))

-- a whole text that is not too long is refused as a text
pub refused_text : (text left : List ℕ) (e : PoolError) (lines : List (List ℕ)) → length text ≤ 1048576 → IsLines text lines left → ((e ≡ ReadFailed) × AreTooMany lines) ⊎ IsWrongAt text e → IsRefusedText text e
refused_text text left e lines short are (inl many) = absurd (omega (arith, short, many.1, few_lines lines, ap length are.whole, length-append (flat_map ended lines) left))
refused_text text left e lines short are (inr wrong) = inr (inr wrong)

pub refused_whole : (text rest : List ℕ) (e : PoolError) → length text ≤ 1048576 → StopsAt [] text rest e → IsRefusedText text e
refused_whole text rest e short stops =
    told (refused_at text stops.more rest stops.line stops.behind e stops.fine stops.each stops.parts (record { whole = stops.goes; single = stops.single }) stops.refused)
  where
    told : ((e ≡ ReadFailed) × AreTooMany stops.more) ⊎ IsRefusedText text e → IsRefusedText text e
    told (inl many) = absurd (omega (arith, short, many.1, few_lines stops.more, ap length stops.parts, length-append (flat_map ended stops.more) rest))
    told (inr refused) = refused

-- a stream that a reader gives

pub known_more : (a b : Option (List ℕ)) (bytes : List ℕ) → Consumes a b bytes → IfSome a (λ xs. bytes ++ unwrap_or b [] ≡ xs)
known_more None b bytes took = tt
known_more (Some xs) None bytes took = absurd took
known_more (Some xs) (Some ys) bytes took = sym took

pub known_end : (a b : Option (List ℕ)) (bytes : List ℕ) → Consumes a b bytes → IsAtEnd b → IfSome a (λ xs. bytes ≡ xs)
known_end a b bytes took ends = Consumes-all a b bytes [] bytes took ends refl

known_nothing : (a : Option (List ℕ)) (bytes : List ℕ) → IfSome a (λ xs. bytes ≡ xs) → IfSome a (λ xs. bytes ++ [] ≡ xs)
known_nothing None bytes known = tt
known_nothing (Some xs) bytes known = append-nil bytes ∙ known

pub refused_by_reader : (input : Option (List ℕ)) (bytes later : List ℕ) (e : PoolError) → IfSome input (λ xs. bytes ++ later ≡ xs) → IsRefusedBy bytes later e → (e ≡ ReadFailed) ⊎ OfReader input (λ text. IsRefusedText text e)
refused_by_reader input bytes later e known (inl many) = inl many.0
refused_by_reader input bytes later e known (inr refused) = inr (bytes ++ later, known, refused)

pub refused_at_end : (a b : Option (List ℕ)) (bytes : List ℕ) (e : PoolError) → Consumes a b bytes → IsAtEnd b → IsRefusedBy bytes [] e → (e ≡ ReadFailed) ⊎ OfReader a (λ text. IsRefusedText text e)
refused_at_end a b bytes e took ends refused = refused_by_reader a bytes [] e (known_nothing a bytes (known_end a b bytes took ends)) refused

-- a text is refused otherwise than a reader or a writer is
pub refused_inner : (A : Type 0) (text : List ℕ) (e : PoolError) → IsRefusedText text e → outer_err {A = A} (Err e) ≡ false
refused_inner A text e (inl memory) = ap is_outer memory
refused_inner A text e (inr (inl pool)) = same_outer (Err e) (checked pool.config) (sym pool.refused) ∙ checked_inner pool.config
refused_inner A text e (inr (inr wrong)) = ap is_outer wrong.1

-- what a reader gave since it was another
module _ {R : Type 0} (known : R → Option (List ℕ)) where
  pub record Gives (before now : WatchedReader R) (bytes : List ℕ) : Type 0 where
    pub taken : Consumes (known before.inner) (known now.inner) bytes
    pub counted : now.given % 2 ^ 64 ≡ (before.given + length bytes) % 2 ^ 64
    pub well : now.failures ≡ before.failures

  -- one more piece
  pub gives_on : (before mid now : WatchedReader R) (bytes piece : List ℕ) (n : ℕ) → Gives before mid bytes → Consumes (known mid.inner) (known now.inner) piece → length piece ≡ n
      → now.given ≡ (mid.given + n) % 2 ^ 64 → now.failures ≡ mid.failures → Gives before now (bytes ++ piece)
  gives_on before mid now bytes piece n gave took many counted well = record {
    taken = Consumes-trans (known before.inner) (known mid.inner) (known now.inner) bytes piece gave.taken took;
    counted = omega (arith, gave.counted, counted, many, length-append bytes piece);
    well = well ∙ gave.well;
  }

  -- nothing more
  pub gives_none : (before mid now : WatchedReader R) (bytes buf : List ℕ) (n : ℕ) → n ≡ 0 → Gives before mid bytes → Consumes (known mid.inner) (known now.inner) (take n buf)
      → now.given ≡ (mid.given + n) % 2 ^ 64 → now.failures ≡ mid.failures → Gives before now bytes
  gives_none before mid now bytes buf n none gave took counted well =
      subst (Gives before now) (append-nil bytes) (gives_on before mid now bytes [] n gave (subst (λ k. Consumes (known mid.inner) (known now.inner) (take k buf)) none took) (sym none) counted well)

-- what was read of a stream, in so many pieces
module _ {R T : Type 0} (known : R → Option (List ℕ)) (about : T → Version → Config → Type 0) (took : T → List Entry → Type 0) where
  pub record Streams (before now : WatchedReader R) (stream : Stream T) (pieces : ℕ) : Type 0 where
    pub bytes : List ℕ
    pub streamed : HasStreamed about took stream bytes
    pub gave : Gives known before now bytes
    pub most : length bytes ≤ 4096 * pieces
    pub least : pieces ≤ length bytes

-- so many bytes came, and the reader has not failed
pub gives_too_much : {R : Type 0} (known : R → Option (List ℕ)) (before now : WatchedReader R) (bytes : List ℕ) → Gives known before now bytes → length bytes < 2 ^ 64 → 1048576 < length bytes → FailsToRead before now
gives_too_much known before now bytes gave fits many = inr (gave.well, record { bytes = length bytes; many = many; counted_once = fits; counted = gave.counted })

pub tells_refused : {R : Type 0} (A : Type 0) (known : R → Option (List ℕ)) (before now : WatchedReader R) (bytes later : List ℕ) (e : PoolError) → Gives known before now bytes → length bytes < 2 ^ 64 → IsRefusedBy bytes later e → TellsReader {A = A} before (Err e) now
tells_refused A known before now bytes later e gave fits (inl many) = (λ is. gives_too_much known before now bytes gave fits many.1, λ other. gave.well)
tells_refused A known before now bytes later e gave fits (inr refused) = (λ is. absurd (not_read {A = A} (Err e) (refused_inner A (bytes ++ later) e refused) is), λ other. gave.well)

pub tells_outcome : {R : Type 0} (A : Type 0) (known : R → Option (List ℕ)) (before now : WatchedReader R) (bytes later : List ℕ) (r : Result A PoolError) → Gives known before now bytes → length bytes < 2 ^ 64 → IfErr r (IsRefusedBy bytes later) → TellsReader before r now
tells_outcome A known before now bytes later (Ok a) gave fits is = (λ same. cc, λ other. gave.well)
tells_outcome A known before now bytes later (Err e) gave fits is = tells_refused A known before now bytes later e gave fits is
