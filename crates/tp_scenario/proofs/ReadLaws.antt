-- A text is read line by line.
use Rattle.std.proofs.Common.{◌≡◌, ◌≢◌, ℕ, zero, suc, ◌+◌, ◌<◌, ◌≤◌, ◌^◌, inl, inr, List, [], ◌∷◌, ◌++◌, length, Option, Some, None, Ok, Err, refl, sym, ◌∙◌, ap, subst, arith, append_assoc, append-nil}
use Rattle.std.specs.List.{flat_map}
use Rattle.std.proofs.lemmas.Bool.{cases_eq}
use Rattle.tp_text.specs.declared.pools.PoolLine.{PoolLine}
use Rattle.tp_scenario.specs.declared.forms.LineRead.{LineRead}
use Rattle.tp_scenario.specs.declared.forms.LineRead.TheVariants as read
use Rattle.tp_scenario.specs.declared.forms.PoolRead.TheVariants as head
use Rattle.tp_text.specs.Lines.{HasNoLineFeed, IsLines, ended}
use Rattle.tp_scenario.specs.PoolText.{LinesSaid, LinesSayFrom, ReadsLine, ReadsPoolLine, TextSaid, TextSaysFrom}

-- a byte before a text without a line feed
before_byte : (b : ℕ) (bs : List ℕ) → b ≢ 10 → HasNoLineFeed bs → HasNoLineFeed (b ∷ bs)
before_byte b bs other none zero within = other
before_byte b bs other none (suc i) within = none i (omega arith)

abbrev Lined : List ℕ → Type 0
Lined text = (lines : List (List ℕ)) × (rest : List ℕ) × IsLines text lines rest

-- a byte that ends no line, before lines
byte_before : (b : ℕ) (bs : List ℕ) → b ≢ 10 → (lines : List (List ℕ)) (rest : List ℕ) → IsLines bs lines rest → Lined (b ∷ bs)
byte_before b bs other [] rest are = (
  [],
  b ∷ rest,
  record {
    whole = ap (λ x. b ∷ x) are.whole;
    each = tt;
    last = before_byte b rest other are.last;
  },
)
byte_before b bs other (l ∷ lines) rest are = (
  (b ∷ l) ∷ lines,
  rest,
  record {
    whole = ap (λ x. b ∷ x) are.whole;
    each = (before_byte b l other are.each.0, are.each.1);
    last = are.last;
  },
)

-- a line feed before lines
feed_before : (b : ℕ) (bs : List ℕ) → b ≡ 10 → Lined bs → Lined (b ∷ bs)
feed_before b bs is lined = (
  [] ∷ lined.0,
  lined.1,
  record {
    whole = ap (λ x. x ∷ bs) is ∙ ap (λ x. 10 ∷ x) lined.2.whole;
    each = ((λ i within. absurd (omega arith)), lined.2.each);
    last = lined.2.last;
  },
)

-- every text has lines
pub all_lines : (text : List ℕ) → (lines : List (List ℕ)) × (rest : List ℕ) × IsLines text lines rest
all_lines [] = ([], [], record { whole = refl; each = tt; last = λ i within. absurd (omega arith) })
all_lines (b ∷ bs) =
    elim (cases_eq b 10) [ inl is ↦ feed_before b bs is (all_lines bs) | inr other ↦ byte_before b bs other (all_lines bs).0 (all_lines bs).1 (all_lines bs).2 ]

-- a line and what stands behind it
pub record Cut (text line behind : List ℕ) : Type 0 where
  pub whole : text ≡ line ++ 10 ∷ behind
  pub line_only : HasNoLineFeed line

-- one more line
lines_on : (text line behind rest : List ℕ) (lines : List (List ℕ)) → Cut text line behind → IsLines behind lines rest → IsLines text (line ∷ lines) rest
lines_on text line behind rest lines cut are = record {
  whole = cut.whole ∙ ap (λ x. line ++ 10 ∷ x) are.whole ∙ sym (append_assoc line (10 ∷ []) (flat_map ended lines ++ rest)) ∙ sym (append_assoc (ended line) (flat_map ended lines) rest);
  each = (cut.line_only, are.each);
  last = are.last;
}

-- what stands behind a line is shorter
shorter : (k j : ℕ) (text line behind : List ℕ) → Cut text line behind → j ≡ k + 1 → j + length behind ≤ k + length text
shorter k j text line behind cut next = omega (arith, ap length cut.whole, length-line line behind)
  where
    length-line : (line behind : List ℕ) → suc (length behind) ≤ length (line ++ 10 ∷ behind)
    length-line [] behind = omega arith
    length-line (b ∷ bs) behind = omega (arith, length-line bs behind)

module _ {L : Type 0} (text_of : L → List ℕ) (fits : L → Type 0) where
  -- behind a line that is skipped
  pub lines_skip : (k : ℕ) (text line behind : List ℕ) (said : LinesSaid L) → Cut text line behind → ReadsLine text_of fits line read.Skipped → LinesSayFrom text_of fits (suc k) behind said → LinesSayFrom text_of fits k text said
  lines_skip k text line behind said cut reads say = (line ∷ say.0, say.1, lines_on text line behind say.1 say.0 cut say.2, (read.Skipped, reads, say.3))

  -- behind a line that says something
  pub lines_line : (k : ℕ) (text line behind : List ℕ) (l : L) (before : List L) (bad : Option ℕ) → Cut text line behind → ReadsLine text_of fits line (read.Says l) → LinesSayFrom text_of fits (suc k) behind (before, bad) → LinesSayFrom text_of fits k text (l ∷ before, bad)
  lines_line k text line behind l before bad cut reads say = (line ∷ say.0, say.1, lines_on text line behind say.1 say.0 cut say.2, (read.Says l, reads, (refl, say.3)))

  -- at a bad line
  pub lines_bad : (k : ℕ) (text line behind : List ℕ) → Cut text line behind → ReadsLine text_of fits line read.Bad → LinesSayFrom text_of fits k text ([], Some k)
  lines_bad k text line behind cut reads =
      let more = all_lines behind in (line ∷ more.0, more.1, lines_on text line behind more.1 more.0 cut more.2, (read.Bad, reads, refl))

  -- at the end of a text whose last line is ended
  pub lines_none : (k : ℕ) (text : List ℕ) → length text ≡ 0 → LinesSayFrom text_of fits k text ([], None)
  lines_none k [] empty = ([], [], record { whole = refl; each = tt; last = λ i within. absurd (omega arith) }, refl)
  lines_none k (b ∷ bs) empty = absurd (omega arith)

  -- at a last line without its end
  pub lines_rest : (k : ℕ) (text : List ℕ) → 0 < length text → HasNoLineFeed text → LinesSayFrom text_of fits k text ([], Some k)
  lines_rest k [] some none = absurd (omega arith)
  lines_rest k (b ∷ bs) some none = ([], b ∷ bs, record { whole = refl; each = tt; last = none }, refl)

  -- how far lines are read: what the rest of the text says comes behind what was said so far
  pub record Reading (first : ℕ) (text : List ℕ) (k : ℕ) (rest : List ℕ) (before : List L) : Type 0 where
    pub counted : k + length rest ≤ first + length text
    pub on : (said : LinesSaid L) → LinesSayFrom text_of fits k rest said → LinesSayFrom text_of fits first text (before ++ said.0, said.1)

  pub reading_skip : (first : ℕ) (text : List ℕ) (k j : ℕ) (rest line behind : List ℕ) (before : List L) → Reading first text k rest before → Cut rest line behind → ReadsLine text_of fits line read.Skipped → j ≡ k + 1 → Reading first text j behind before
  reading_skip first text k j rest line behind before so_far cut reads next = record {
    counted = omega (arith, so_far.counted, shorter k j rest line behind cut next);
    on = λ said say. so_far.on said (lines_skip k rest line behind said cut reads (subst (λ n. LinesSayFrom text_of fits n behind said) (omega arith) say));
  }

  pub reading_line : (first : ℕ) (text : List ℕ) (k j : ℕ) (rest line behind : List ℕ) (before : List L) (l : L) → Reading first text k rest before → Cut rest line behind → ReadsLine text_of fits line (read.Says l) → j ≡ k + 1 → Reading first text j behind (before ++ l ∷ [])
  reading_line first text k j rest line behind before l so_far cut reads next = record {
    counted = omega (arith, so_far.counted, shorter k j rest line behind cut next);
    on = λ said say. subst (λ x. LinesSayFrom text_of fits first text (x, said.1)) (sym (append_assoc before (l ∷ []) said.0))
        (so_far.on (l ∷ said.0, said.1) (lines_line k rest line behind l said.0 said.1 cut reads (subst (λ n. LinesSayFrom text_of fits n behind said) (omega arith) say)));
  }

  -- what was said so far is all where no more comes
  pub lines_all : (first : ℕ) (text : List ℕ) (k : ℕ) (rest : List ℕ) (before : List L) (bad : Option ℕ) → Reading first text k rest before → LinesSayFrom text_of fits k rest ([], bad) → LinesSayFrom text_of fits first text (before, bad)
  lines_all first text k rest before bad so_far say = subst (λ x. LinesSayFrom text_of fits first text (x, bad)) (append-nil before) (so_far.on ([], bad) say)

  -- the same where nobody keeps what was said so far
  pub record Searching (first : ℕ) (text : List ℕ) (k : ℕ) (rest : List ℕ) : Type 0 where
    pub before : List L
    pub reading : Reading first text k rest before

  pub searching_on : (first : ℕ) (text : List ℕ) (k j : ℕ) (rest line behind : List ℕ) (r : LineRead L) → Searching first text k rest → Cut rest line behind → ReadsLine text_of fits line r → r ≢ read.Bad → j ≡ k + 1 → Searching first text j behind
  searching_on first text k j rest line behind read.Skipped so_far cut reads good next = record { before = so_far.before; reading = reading_skip first text k j rest line behind so_far.before so_far.reading cut reads next }
  searching_on first text k j rest line behind (read.Says l) so_far cut reads good next = record { before = so_far.before ++ l ∷ []; reading = reading_line first text k j rest line behind so_far.before l so_far.reading cut reads next }
  searching_on first text k j rest line behind read.Bad so_far cut reads good next = absurd (good refl)

  -- up to the pool line

  pub text_skip : (k : ℕ) (text line behind : List ℕ) (s : TextSaid L) → Cut text line behind → ReadsPoolLine line head.Skipped → TextSaysFrom text_of fits (suc k) behind s → TextSaysFrom text_of fits k text s
  text_skip k text line behind s cut reads says = (line ∷ says.0, says.1, lines_on text line behind says.1 says.0 cut says.2, (head.Skipped, reads, says.3))

  pub text_pool : (k : ℕ) (text line behind : List ℕ) (p : PoolLine) (said : LinesSaid L) → Cut text line behind → ReadsPoolLine line (head.Pool p) → LinesSayFrom text_of fits (suc k) behind said → TextSaysFrom text_of fits k text (Ok (p, said))
  text_pool k text line behind p said cut reads say = (line ∷ say.0, say.1, lines_on text line behind say.1 say.0 cut say.2, (head.Pool p, reads, (refl, say.3)))

  pub text_bad : (k : ℕ) (text line behind : List ℕ) → Cut text line behind → ReadsPoolLine line head.Bad → TextSaysFrom text_of fits k text (Err k)
  text_bad k text line behind cut reads =
      let more = all_lines behind in (line ∷ more.0, more.1, lines_on text line behind more.1 more.0 cut more.2, (head.Bad, reads, refl))

  -- how far a text is read up to its pool line
  pub record Opening (text : List ℕ) (k : ℕ) (rest : List ℕ) : Type 0 where
    pub counted : k + length rest ≤ 1 + length text
    pub on : (s : TextSaid L) → TextSaysFrom text_of fits k rest s → TextSaysFrom text_of fits 1 text s

  pub opening_skip : (text : List ℕ) (k j : ℕ) (rest line behind : List ℕ) → Opening text k rest → Cut rest line behind → ReadsPoolLine line head.Skipped → j ≡ k + 1 → Opening text j behind
  opening_skip text k j rest line behind so_far cut reads next = record {
    counted = omega (arith, so_far.counted, shorter k j rest line behind cut next);
    on = λ s says. so_far.on s (text_skip k rest line behind s cut reads (subst (λ n. TextSaysFrom text_of fits n behind s) (omega arith) says));
  }

  -- what stands behind the pool line is short too
  pub opening_few : (text : List ℕ) (k : ℕ) (rest line behind : List ℕ) → Opening text k rest → Cut rest line behind → length text < 4294967295 → (k + 1) + length behind < 2 ^ 32
  opening_few text k rest line behind so_far cut short = omega (arith, so_far.counted, short, shorter k (k + 1) rest line behind cut refl)
