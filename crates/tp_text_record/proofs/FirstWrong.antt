-- Where a text is that of no record.
use Rattle.std.proofs.Common.{◌≡◌, ◌≢◌, ◌⊎◌, ℕ, suc, ◌+◌, ◌<◌, ◌≤◌, ◌^◌, List, [], ◌∷◌, ◌++◌, length, Bool, true, false, Ok, refl, sym, ◌∙◌, ap, subst, arith, append_assoc, append-nil, length-append, inl, inr}
use Rattle.std.specs.List.{AllByRecursion, flat_map}
use Rattle.std.proofs.lemmas.List.{append_cancel_left}
use Rattle.std.proofs.lemmas.List.Concat.{flat_map-append}
use Rattle.tp_types.specs.declared.configs.Config.{Config}
use Rattle.tp_types.specs.declared.configs.Policy.TheVariants.{Abort}
use Rattle.tp_types.specs.declared.configs.QueueKind.TheVariants.{Unbounded}
use Rattle.tp_types.specs.declared.refusals.PoolError.{PoolError}
use Rattle.tp_types.specs.declared.refusals.PoolError.TheVariants.{ReadFailed}
use Rattle.tp_types.specs.Config.{checked}
use Rattle.tp_record.specs.declared.entries.Entry.{Entry}
use Rattle.tp_text.specs.Fits.{Fits32}
use Rattle.tp_text.specs.Lines.{HasNoLineFeed, IsLines, ended}
use Rattle.tp_text.specs.RunText.{IsFront}
use Rattle.tp_text.proofs.LineSplits.{front_line, no_cut, same_cut, same_lines}
use Rattle.tp_text_record.specs.declared.reading.Reading.{Reading}
use Rattle.tp_text_record.specs.declared.reading.Reading.TheVariants as reading
use Rattle.tp_text_record.specs.declared.records.BodyLine.{BodyLine}
use Rattle.tp_text_record.specs.declared.records.BodyLine.TheVariants as body
use Rattle.tp_text_record.specs.declared.versions.Version.{Version}
use Rattle.tp_text_record.specs.declared.versions.Version.TheVariants as version
use Rattle.tp_text_record.specs.EntryFits.{IsStep}
use Rattle.tp_text_record.specs.ReadRecord.{Begins, FitsBody, IsFirstWrong, IsRefusedText, body_text, head}
use Rattle.tp_text_record.specs.Reading.{AreFine, AreTooMany, IsRead, RefusesLine, lines_to}
use Rattle.tp_text_record.specs.RecordText.{FitsConfig, HasText, end_line, entry_text, entry_texts, header, pool_line, record_lines, record_text}
use Rattle.tp_text_record.proofs.BodyLines.{no_end}
use Rattle.tp_text_record.proofs.PoolTexts.{pool_line-injective}
use Rattle.tp_text_record.proofs.RecordLines.{header-injective, header-plain, pool_line-plain, record_lines-single}
use Rattle.tp_text_record.proofs.Short.{header-short, pool_line-short, record_lines-short}

-- a line, its line feed and what stands behind it
pub record Cut (text line behind : List ℕ) : Type 0 where
  pub whole : text ≡ line ++ 10 ∷ behind
  pub single : HasNoLineFeed line

abbrev Single : List (List ℕ) → Type 0
Single ls = AllByRecursion HasNoLineFeed ls

no_line_empty : (l x : List ℕ) → l ++ 10 ∷ x ≡ [] → ⊥
no_line_empty [] x e = cc
no_line_empty (b ∷ l) x e = cc

first_line : (m : List ℕ) (ms : List (List ℕ)) → flat_map ended (m ∷ ms) ≡ m ++ 10 ∷ flat_map ended ms
first_line m ms = append_assoc m (10 ∷ []) (flat_map ended ms)

-- lines with which a text of lines begins are the first of them
front_of : (ls ms : List (List ℕ)) (x : List ℕ) → Single ls → Single ms → flat_map ended ls ++ x ≡ flat_map ended ms → (more : List (List ℕ)) × (ms ≡ ls ++ more)
front_of [] ms x a b e = (ms, refl)
front_of (l ∷ ls) [] x a b e = absurd (no_line_empty l (flat_map ended ls ++ x) (sym (front_line l ls x) ∙ e))
front_of (l ∷ ls) (m ∷ ms) x a b e =
    let p = same_cut l m (flat_map ended ls ++ x) (flat_map ended ms) a.0 b.0 (sym (front_line l ls x) ∙ e ∙ first_line m ms) in
    let q = front_of ls ms x a.1 b.1 p.1 in
    (q.0, ap (λ v. m ∷ v) q.1 ∙ ap (λ v. v ∷ (ls ++ q.0)) (sym p.0))

pub pushed : (ls : List (List ℕ)) (l : List ℕ) → Single ls → HasNoLineFeed l → Single (ls ++ l ∷ [])
pushed [] l a x = (x, tt)
pushed (m ∷ ls) l a x = (a.0, pushed ls l a.1 x)

-- one more line
pub line_on : (text behind line rest : List ℕ) (before : List (List ℕ)) → text ≡ flat_map ended before ++ behind → behind ≡ line ++ 10 ∷ rest → text ≡ flat_map ended (before ++ line ∷ []) ++ rest
line_on text behind line rest before parts goes =
    parts ∙ ap (λ v. flat_map ended before ++ v) (goes ∙ sym (append_assoc line (10 ∷ []) rest) ∙ ap (λ v. v ++ rest) (sym (append-nil (ended line))))
    ∙ sym (append_assoc (flat_map ended before) (flat_map ended (line ∷ [])) rest) ∙ ap (λ v. v ++ rest) (sym (flat_map-append ended before (line ∷ [])))

-- what is known of the lines before a wrong one
pub record Sofar (text : List ℕ) (before : List (List ℕ)) (behind : List ℕ) : Type 0 where
  pub each : AllByRecursion HasNoLineFeed before
  pub parts : text ≡ flat_map ended before ++ behind
  pub begins : Begins before
  pub accepted : (v : Version) (c : Config) → FitsConfig v c → IsFront (head v c) text → checked c ≡ Ok tt

-- a line with which no record goes on
pub wrong_line : (text : List ℕ) (before : List (List ℕ)) (behind line rest : List ℕ) (k : ℕ) → Sofar text before behind → Cut behind line rest → (Begins (before ++ line ∷ []) → ⊥) → k ≡ suc (length before) → IsFirstWrong text k
wrong_line text before behind line rest k so_far cut none number = record {
  before = before;
  behind = behind;
  each = so_far.each;
  parts = so_far.parts;
  number = number;
  begins = so_far.begins;
  wrong = λ other more single goes begins.
      let same = (same_cut other line more rest single cut.single (sym goes ∙ cut.whole)).0 in none (subst (λ v. Begins (before ++ v ∷ [])) same begins);
  no_text = λ v c es has same.
      let front = front_of (before ++ line ∷ []) (record_lines v c es) rest (pushed before line so_far.each cut.single) (record_lines-single v c es has) (sym (line_on text behind line rest before so_far.parts cut.whole) ∙ same) in
      none (record { version = v; config = c; entries = es; has_text = has; more = front.0; whole = front.1 });
  accepted = so_far.accepted;
}

-- a text that ends where a line is missing or has no end
pub missing_line : (text : List ℕ) (before : List (List ℕ)) (behind : List ℕ) (k : ℕ) → Sofar text before behind → HasNoLineFeed behind → ((v : Version) (c : Config) (es : List Entry) → HasText v c es → before ≡ record_lines v c es → behind ≡ [] → ⊥) → k ≡ suc (length before) → IsFirstWrong text k
missing_line text before behind k so_far single none number = record {
  before = before;
  behind = behind;
  each = so_far.each;
  parts = so_far.parts;
  number = number;
  begins = so_far.begins;
  wrong = λ line rest other goes begins. no_cut behind line rest single goes;
  no_text = λ v c es has same.
      let lines : IsLines text before behind = record { whole = so_far.parts; each = so_far.each; last = single } in
      let its : IsLines text (record_lines v c es) [] = record { whole = same ∙ sym (append-nil (record_text v c es)); each = record_lines-single v c es has; last = λ i within. absurd (omega arith) } in
      let p = same_lines text before (record_lines v c es) behind [] lines its in
      none v c es has p.0 p.1;
  accepted = so_far.accepted;
}

heads : (x y : List ℕ) (xs ys : List (List ℕ)) → x ∷ xs ≡ y ∷ ys → x ≡ y
heads x y xs ys e = cc

tails : (x y : List ℕ) (xs ys : List (List ℕ)) → x ∷ xs ≡ y ∷ ys → xs ≡ ys
tails x y xs ys e = cc

-- the two lines that say the pool, and what follows
head_on : (v : Version) (c : Config) (x : List ℕ) → head v c ++ x ≡ header v ++ 10 ∷ (pool_line c ++ 10 ∷ x)
head_on v c x =
    append_assoc (ended (header v)) (ended (pool_line c)) x ∙ append_assoc (header v) (10 ∷ []) (ended (pool_line c) ++ x)
    ∙ ap (λ y. header v ++ 10 ∷ y) (append_assoc (pool_line c) (10 ∷ []) x)

-- some pool

some_config : Config
some_config =
    record {
      core = 1;
      maximum = 1;
      queue = Unbounded;
      keep = 0;
      policy = Abort;
      core_timeout = false;
      record_limit = 4096;
    }

some_text : (v : Version) → HasText v some_config []
unfolding some_config
some_text version.One = record { config = (((omega arith, omega arith, tt, omega arith, tt), omega arith), refl); count = omega arith; steps = tt }
some_text version.Two = record { config = (((omega arith, omega arith, tt, omega arith, tt), omega arith), tt); count = omega arith; steps = tt }

begins_none : Begins []
begins_none = record { version = version.Two; config = some_config; entries = []; has_text = some_text version.Two; more = record_lines version.Two some_config []; whole = refl }

begins_header : (v : Version) → Begins (header v ∷ [])
begins_header v = record { version = v; config = some_config; entries = []; has_text = some_text v; more = pool_line some_config ∷ end_line 0 ∷ []; whole = refl }

-- what a form has a pool line for, it has in the form that is the same
in_form : (v w : Version) (c : Config) → v ≡ w → FitsConfig w c → FitsConfig v c
in_form v w c same fits = subst (λ x. FitsConfig x c) (sym same) fits

-- the form of a record that begins with a header
form_of : (v : Version) (ls : List (List ℕ)) (begins : Begins (header v ∷ ls)) → v ≡ begins.version
form_of v ls begins = sym (header-injective begins.version v (heads (header begins.version) (header v) _ _ begins.whole))

-- the lines behind the header of a record
behind_form : (v : Version) (ls : List (List ℕ)) (begins : Begins (header v ∷ ls)) → pool_line begins.config ∷ (entry_texts 1 begins.entries ++ end_line (length begins.entries) ∷ []) ≡ ls ++ begins.more
behind_form v ls begins = tails (header begins.version) (header v) _ _ begins.whole

-- lines that were read

length-entry_texts : (n : ℕ) (es : List Entry) → length (entry_texts n es) ≡ length es
length-entry_texts n [] = refl
length-entry_texts n (e ∷ es) = ap suc (length-entry_texts (suc n) es)

not_empty : (xs : List (List ℕ)) (y : List ℕ) (ys : List (List ℕ)) → [] ≡ xs ++ y ∷ ys → ⊥
not_empty [] y ys e = cc
not_empty (x ∷ xs) y ys e = cc

-- what stands in a record behind these entries
at_place : (v : Version) (n m k : ℕ) (es fs : List Entry) (line : List ℕ) (more : List (List ℕ)) → AllByRecursion (IsStep v) fs → m ≡ n + length fs → k ≡ n + length es → entry_texts (suc n) fs ++ end_line m ∷ [] ≡ entry_texts (suc n) es ++ line ∷ more
    → (x : BodyLine) × FitsBody v x × (line ≡ body_text k x)
at_place v n m k [] [] line more steps last place e =
    let same : m ≡ k = omega arith in (body.End, tt, sym (heads (end_line m) line _ _ e) ∙ ap end_line same)
at_place v n m k [] (f ∷ fs) line more steps last place e =
    let same : suc n ≡ suc k = omega arith in (body.Entry f, steps.0, sym (heads (entry_text (suc n) f) line _ _ e) ∙ ap (λ x. entry_text x f) same)
at_place v n m k (d ∷ es) [] line more steps last place e =
    absurd (not_empty (entry_texts (suc (suc n)) es) line more (tails (end_line m) (entry_text (suc n) d) [] (entry_texts (suc (suc n)) es ++ line ∷ more) e))
at_place v n m k (d ∷ es) (f ∷ fs) line more steps last place e =
    at_place v (suc n) m k es fs line more steps.1 (omega arith) (omega arith)
    (tails (entry_text (suc n) f) (entry_text (suc n) d) (entry_texts (suc (suc n)) fs ++ end_line m ∷ []) (entry_texts (suc (suc n)) es ++ line ∷ more) e)

-- nothing stands in a record behind its end
at_end : (v : Version) (n m k : ℕ) (es fs : List Entry) (line : List ℕ) (more : List (List ℕ)) → AllByRecursion (IsStep v) fs → n + length fs < 2 ^ 32 → Fits32 k → entry_texts (suc n) fs ++ end_line m ∷ [] ≡ entry_texts (suc n) es ++ end_line k ∷ line ∷ more → ⊥
at_end v n m k [] [] line more steps small fits e = let none = tails (end_line m) (end_line k) [] (line ∷ more) e in cc
at_end v n m k [] (f ∷ fs) line more steps small fits e = no_end (suc n) k f (omega (arith, small)) fits steps.0.0 (heads (entry_text (suc n) f) (end_line k) _ _ e)
at_end v n m k (d ∷ es) [] line more steps small fits e =
    not_empty (entry_texts (suc (suc n)) es) (end_line k) (line ∷ more) (tails (end_line m) (entry_text (suc n) d) [] (entry_texts (suc (suc n)) es ++ end_line k ∷ line ∷ more) e)
at_end v n m k (d ∷ es) (f ∷ fs) line more steps small fits e =
    at_end v (suc n) m k es fs line more steps.1 (omega (arith, small)) fits
    (tails (entry_text (suc n) f) (entry_text (suc n) d) (entry_texts (suc (suc n)) fs ++ end_line m ∷ []) (entry_texts (suc (suc n)) es ++ end_line k ∷ line ∷ more) e)

-- entries alone are no whole record
no_whole : (v : Version) (n m : ℕ) (es fs : List Entry) → AllByRecursion (IsStep v) es → n + length es < 2 ^ 32 → Fits32 m → entry_texts (suc n) es ≡ entry_texts (suc n) fs ++ end_line m ∷ [] → ⊥
no_whole v n m [] fs steps small fits e = not_empty (entry_texts (suc n) fs) (end_line m) [] e
no_whole v n m (d ∷ es) [] steps small fits e = no_end (suc n) m d (omega (arith, small)) fits steps.0.0 (heads (entry_text (suc n) d) (end_line m) _ _ e)
no_whole v n m (d ∷ es) (f ∷ fs) steps small fits e =
    no_whole v (suc n) m es fs steps.1 (omega (arith, small)) fits
    (tails (entry_text (suc n) d) (entry_text (suc n) f) (entry_texts (suc (suc n)) es) (entry_texts (suc (suc n)) fs ++ end_line m ∷ []) e)

pub entry_texts-push : (n : ℕ) (es : List Entry) (e : Entry) → entry_texts (suc n) (es ++ e ∷ []) ≡ entry_texts (suc n) es ++ entry_text (suc (n + length es)) e ∷ []
entry_texts-push n [] e = let same : suc n ≡ suc (n + 0) = omega arith in ap (λ k. entry_text k e ∷ []) same
entry_texts-push n (d ∷ es) e =
    let same : suc (suc n + length es) ≡ suc (n + suc (length es)) = omega arith in
    ap (λ x. entry_text (suc n) d ∷ x) (entry_texts-push (suc n) es e ∙ ap (λ k. entry_texts (suc (suc n)) es ++ entry_text k e ∷ []) same)

steps_push : (v : Version) (es : List Entry) (e : Entry) → AllByRecursion (IsStep v) es → IsStep v e → AllByRecursion (IsStep v) (es ++ e ∷ [])
steps_push v [] e steps step = (step, tt)
steps_push v (d ∷ es) e steps step = (steps.0, steps_push v es e steps.1 step)

begins_pool : (v : Version) (c : Config) → FitsConfig v c → Begins (header v ∷ pool_line c ∷ [])
begins_pool v c fits = record { version = v; config = c; entries = []; has_text = record { config = fits; count = omega arith; steps = tt }; more = end_line 0 ∷ []; whole = refl }

-- two lines behind which the others stand are a pool's of which nothing is refused
one_pool : (v w : Version) (c d : Config) (x y : List (List ℕ)) → FitsConfig v c → FitsConfig w d → checked c ≡ Ok tt → header v ∷ pool_line c ∷ x ≡ header w ∷ pool_line d ∷ y → checked d ≡ Ok tt
one_pool v w c d x y fits other ok same =
    let lines = heads (pool_line c) (pool_line d) x y (tails (header v) (header w) (pool_line c ∷ x) (pool_line d ∷ y) same) in
    subst (λ (z : Config). checked z ≡ Ok tt) (pool_line-injective c d fits.0 other.0 lines) ok

fine_none : AreFine []
fine_none = record { begins = begins_none; accepted = λ v c more fits same. cc }

fine_header : (v : Version) → AreFine (header v ∷ [])
fine_header v = record { begins = begins_header v; accepted = λ w c more fits same. let none = tails (header v) (header w) [] (pool_line c ∷ more) same in cc }

fine_body : (v : Version) (c : Config) (es : List Entry) (over : Bool) → HasText v c es → checked c ≡ Ok tt → AreFine (lines_to v c es over)
fine_body v c es false has ok = record {
  begins = record { version = v; config = c; entries = es; has_text = has; more = end_line (length es) ∷ []; whole = refl };
  accepted = λ w d more fits same. one_pool v w c d (entry_texts 1 es) more has.config fits ok same;
}
fine_body v c es true has ok = record {
  begins = record { version = v; config = c; entries = es; has_text = has; more = []; whole = sym (append-nil (record_lines v c es)) };
  accepted = λ w d more fits same. one_pool v w c d (entry_texts 1 es ++ end_line (length es) ∷ []) more has.config fits ok same;
}

-- what stands behind these lines does not begin with the first lines of a record
abbrev IsNoHead : List (List ℕ) → List ℕ → Type 0
IsNoHead lines behind = (v : Version) (c : Config) (x : List ℕ) → FitsConfig v c → (lines ≡ [] → behind ≡ header v ++ 10 ∷ x → ⊥) × (lines ≡ header v ∷ [] → behind ≡ pool_line c ++ 10 ∷ x → ⊥)

-- then no pool line of the text is refused
accepted_front : (text : List ℕ) (lines : List (List ℕ)) (behind : List ℕ) → AreFine lines → Single lines → text ≡ flat_map ended lines ++ behind → IsNoHead lines behind → (v : Version) (c : Config) → FitsConfig v c → IsFront (head v c) text → checked c ≡ Ok tt
accepted_front text [] behind fine each parts others v c fits front = absurd ((others v c (pool_line c ++ 10 ∷ front.0) fits).0 refl (sym parts ∙ front.1 ∙ head_on v c front.0))
accepted_front text (h ∷ []) behind fine each parts others v c fits front =
    let first = same_cut h (header v) behind (pool_line c ++ 10 ∷ front.0) each.0 (header-plain v).single (sym (parts ∙ front_line h [] behind) ∙ front.1 ∙ head_on v c front.0) in
    absurd ((others v c front.0 fits).1 (ap (λ x. x ∷ []) first.0) first.1)
accepted_front text (h ∷ p ∷ lines) behind fine each parts others v c fits front =
    let first = same_cut h (header v) (flat_map ended (p ∷ lines) ++ behind) (pool_line c ++ 10 ∷ front.0) each.0 (header-plain v).single (sym (parts ∙ front_line h (p ∷ lines) behind) ∙ front.1 ∙ head_on v c front.0) in
    let second = (same_cut p (pool_line c) (flat_map ended lines ++ behind) front.0 each.1.0 (pool_line-plain c fits.0).single (sym (front_line p lines behind) ∙ first.1)).0 in
    fine.accepted v c lines fits (ap (λ x. x ∷ p ∷ lines) first.0 ∙ ap (λ x. header v ∷ x ∷ lines) second)

so_far : (text : List ℕ) (lines : List (List ℕ)) (behind : List ℕ) → AreFine lines → Single lines → text ≡ flat_map ended lines ++ behind → IsNoHead lines behind → Sofar text lines behind
so_far text lines behind fine each parts others = record { each = each; parts = parts; begins = fine.begins; accepted = accepted_front text lines behind fine each parts others }

-- a line with which no record goes on
wrong_behind : (text : List ℕ) (lines : List (List ℕ)) (behind line rest : List ℕ) → AreFine lines → Single lines → text ≡ flat_map ended lines ++ behind → Cut behind line rest → (Begins (lines ++ line ∷ []) → ⊥) → IsFirstWrong text (suc (length lines))
wrong_behind text lines behind line rest fine each parts cut none =
    let no : IsNoHead lines behind = λ v c x fits. (
      λ is goes.
          let same = (same_cut line (header v) rest x cut.single (header-plain v).single (sym cut.whole ∙ goes)).0 in
          none (subst (λ ls. Begins (ls ++ line ∷ [])) (sym is) (subst (λ l. Begins (l ∷ [])) (sym same) (begins_header v))),
      λ is goes.
          let same = (same_cut line (pool_line c) rest x cut.single (pool_line-plain c fits.0).single (sym cut.whole ∙ goes)).0 in
          none (subst (λ ls. Begins (ls ++ line ∷ [])) (sym is) (subst (λ l. Begins (header v ∷ l ∷ [])) (sym same) (begins_pool v c fits))),
    ) in
    wrong_line text lines behind line rest (suc (length lines)) (so_far text lines behind fine each parts no) cut none refl

-- why a line is refused is why the text is
pub refused_at : (text : List ℕ) (lines : List (List ℕ)) (behind line rest : List ℕ) (e : PoolError) → AreFine lines → Single lines → text ≡ flat_map ended lines ++ behind → Cut behind line rest → RefusesLine lines line e
    → ((e ≡ ReadFailed) × AreTooMany lines) ⊎ IsRefusedText text e
refused_at text lines behind line rest e fine each parts cut (inl memory) = inr (inl memory)
refused_at text lines behind line rest e fine each parts cut (inr (inl many)) = inl many
refused_at text lines behind line rest e fine each parts cut (inr (inr (inl pool))) =
    let v : Version = pool.0 in
    let c : Config = pool.1 in
    let goes : behind ≡ pool_line c ++ 10 ∷ rest = cut.whole ∙ ap (λ x. x ++ 10 ∷ rest) pool.4 in
    let whole : text ≡ head v c ++ rest = parts ∙ ap (λ ls. flat_map ended ls ++ behind) pool.2 ∙ front_line (header v) [] behind ∙ ap (λ x. header v ++ 10 ∷ x) goes ∙ sym (head_on v c rest) in
    inr (inr (inl record { version = v; config = c; fits = pool.3; begins = (rest, whole); refused = pool.5 }))
refused_at text lines behind line rest e fine each parts cut (inr (inr (inr wrong))) =
    inr (inr (inr (suc (length lines), wrong.0, wrong_behind text lines behind line rest fine each parts cut wrong.1)))

-- a text that ends where a line is missing, or has no end
pub missing_behind : (text : List ℕ) (lines : List (List ℕ)) (left : List ℕ) → AreFine lines → IsLines text lines left → ((v : Version) (c : Config) (es : List Entry) → HasText v c es → lines ≡ record_lines v c es → left ≡ [] → ⊥) → IsFirstWrong text (suc (length lines))
missing_behind text lines left fine are none =
    let no : IsNoHead lines left = λ v c x fits. (λ is goes. no_cut left (header v) x are.last goes, λ is goes. no_cut left (pool_line c) x are.last goes) in
    missing_line text lines left (suc (length lines)) (so_far text lines left fine are.each are.whole no) are.last none refl

-- a line that has no end so far, and is longer than any of a record

not_within : (line rest later more : List ℕ) → HasNoLineFeed rest → length line < length rest → rest ++ later ≡ line ++ 10 ∷ more → ⊥
not_within [] [] later more none long same = omega (arith, long)
not_within [] (b ∷ rest) later more none long same = none 0 (omega arith) cc
not_within (a ∷ line) [] later more none long same = absurd (omega (arith, long))
not_within (a ∷ line) (b ∷ rest) later more none long same = not_within line rest later more (λ i within. none (suc i) (omega (arith, within))) (omega (arith, long)) cc

all_at : (P : List ℕ → Type 0) (xs : List (List ℕ)) (y : List ℕ) (ys : List (List ℕ)) → AllByRecursion P (xs ++ y ∷ ys) → P y
all_at P [] y ys all = all.0
all_at P (x ∷ xs) y ys all = all_at P xs y ys all.1

next_short : (lines : List (List ℕ)) (line : List ℕ) → Begins (lines ++ line ∷ []) → length line ≤ 256
next_short lines line begins =
    let short = record_lines-short begins.version begins.config begins.entries begins.has_text in
    all_at (λ l. length l ≤ 256) lines line begins.more (subst (λ ls. AllByRecursion (λ l. length l ≤ 256) ls) (begins.whole ∙ append_assoc lines (line ∷ []) begins.more) short)

long_text : (lines : List (List ℕ)) (left later : List ℕ) (text : List ℕ) (v : Version) (c : Config) (es : List Entry) (more : List (List ℕ)) → HasNoLineFeed left → 256 < length left → text ≡ flat_map ended lines ++ (left ++ later) → HasText v c es → record_lines v c es ≡ lines ++ more → text ≡ record_text v c es → ⊥
long_text lines left later text v c es more single long parts has are same =
    let rest : left ++ later ≡ flat_map ended more =
    append_cancel_left (flat_map ended lines) (left ++ later) (flat_map ended more) (sym parts ∙ same ∙ ap (flat_map ended) are ∙ flat_map-append ended lines more) in
    goes_on more rest (subst (λ ls. AllByRecursion (λ l. length l ≤ 256) ls) are (record_lines-short v c es has))
  where
    goes_on : (more : List (List ℕ)) → left ++ later ≡ flat_map ended more → AllByRecursion (λ l. length l ≤ 256) (lines ++ more) → ⊥
    goes_on [] rest short = absurd (omega (arith, long, ap length rest, length-append left later))
    goes_on (m ∷ ms) rest short = not_within m left later (flat_map ended ms) single (omega (arith, long, all_at (λ l. length l ≤ 256) lines m ms short)) (rest ∙ first_line m ms)

pub long_behind : (lines : List (List ℕ)) (left later bytes : List ℕ) → AreFine lines → IsLines bytes lines left → 256 < length left → IsFirstWrong (bytes ++ later) (suc (length lines))
long_behind lines left later bytes fine are long =
    let parts : bytes ++ later ≡ flat_map ended lines ++ (left ++ later) = ap (λ x. x ++ later) are.whole ∙ append_assoc (flat_map ended lines) left later in
    let no : IsNoHead lines (left ++ later) = λ v c x fits. (
      λ is goes. not_within (header v) left later x are.last (omega (arith, long, header-short v)) goes,
      λ is goes. not_within (pool_line c) left later x are.last (omega (arith, long, pool_line-short c fits.0)) goes,
    ) in record {
      before = lines;
      behind = left ++ later;
      each = are.each;
      parts = parts;
      number = refl;
      begins = fine.begins;
      wrong = λ line rest single goes begins. not_within line left later rest are.last (omega (arith, long, next_short lines line begins)) goes;
      no_text = λ v c es has same.
          let front = front_of lines (record_lines v c es) (left ++ later) are.each (record_lines-single v c es has) (sym parts ∙ same) in
          long_text lines left later (bytes ++ later) v c es front.0 are.last long parts has front.1 same;
      accepted = accepted_front (bytes ++ later) lines (left ++ later) fine are.each parts no;
    }

-- the lines behind which something is wrong

-- no pool line
pub no_pool : (v : Version) (line : List ℕ) → ((c : Config) → FitsConfig v c → line ≢ pool_line c) → Begins (header v ∷ line ∷ []) → ⊥
no_pool v line none begins =
    none begins.config (in_form v begins.version begins.config (form_of v (line ∷ []) begins) begins.has_text.config) (sym (heads (pool_line begins.config) line _ _ (behind_form v (line ∷ []) begins)))

-- neither an entry nor the end
pub no_entry : (v : Version) (c : Config) (es : List Entry) (line : List ℕ) → ((x : BodyLine) → FitsBody v x → line ≢ body_text (length es) x) → Begins (lines_to v c es false ++ line ∷ []) → ⊥
no_entry v c es line none begins =
    let its = tails (pool_line begins.config) (pool_line c) _ _ (behind_form v (pool_line c ∷ (entry_texts 1 es ++ line ∷ [])) begins) in
    let form = form_of v (pool_line c ∷ (entry_texts 1 es ++ line ∷ [])) begins in
    let steps = subst (λ x. AllByRecursion (IsStep x) begins.entries) (sym form) begins.has_text.steps in
    let found = at_place v 0 (length begins.entries) (length es) es begins.entries line begins.more steps (omega arith) (omega arith) (its ∙ append_assoc (entry_texts 1 es) (line ∷ []) begins.more) in
    none found.0 found.1 found.2

-- something behind the end
pub no_more : (v : Version) (c : Config) (es : List Entry) (line : List ℕ) → Fits32 (length es) → Begins (lines_to v c es true ++ line ∷ []) → ⊥
no_more v c es line fits begins =
    let its = tails (pool_line begins.config) (pool_line c) _ _ (behind_form v (pool_line c ∷ (entry_texts 1 es ++ end_line (length es) ∷ []) ++ line ∷ []) begins) in
    at_end begins.version 0 (length begins.entries) (length es) es begins.entries line begins.more begins.has_text.steps (omega (arith, begins.has_text.count)) fits
    (its ∙ append_assoc (entry_texts 1 es ++ end_line (length es) ∷ []) (line ∷ []) begins.more ∙ append_assoc (entry_texts 1 es) (end_line (length es) ∷ []) (line ∷ begins.more))

-- no end
pub not_whole : (v w : Version) (c d : Config) (es fs : List Entry) → HasText v c es → HasText w d fs → lines_to v c es false ≡ record_lines w d fs → ⊥
not_whole v w c d es fs has other same =
    no_whole v 0 (length fs) es fs has.steps (omega (arith, has.count)) other.count (tails (pool_line c) (pool_line d) _ _ (tails (header v) (header w) _ _ same))

-- one more entry
pub one_more : (v : Version) (c : Config) (es : List Entry) (e : Entry) (line : List ℕ) → line ≡ entry_text (suc (length es)) e → lines_to v c es false ++ line ∷ [] ≡ lines_to v c (es ++ e ∷ []) false
one_more v c es e line is =
    let same : length es ≡ 0 + length es = omega arith in
    ap (λ ls. header v ∷ pool_line c ∷ ls) (ap (λ l. entry_texts 1 es ++ l ∷ []) (is ∙ ap (λ k. entry_text (suc k) e) same) ∙ sym (entry_texts-push 0 es e))

pub has_more : (v : Version) (c : Config) (es : List Entry) (e : Entry) → HasText v c es → IsStep v e → length es + 1 < 2 ^ 32 → HasText v c (es ++ e ∷ [])
has_more v c es e has step small = record { config = has.config; count = omega (arith, small, length-append es (e ∷ [])); steps = steps_push v es e has.steps step }

-- as many lines and more
pub many_lines : (v : Version) (c : Config) (es : List Entry) (over : Bool) → length es + 2 ≤ length (lines_to v c es over)
many_lines v c es false = omega (arith, length-entry_texts 1 es)
many_lines v c es true = omega (arith, length-entry_texts 1 es, length-append (entry_texts 1 es) (end_line (length es) ∷ []))

pub length-lines_to : (v : Version) (c : Config) (es : List Entry) (over : Bool) (n : ℕ) → (over ≡ false → n ≡ length es + 3) → (over ≡ true → n ≡ length es + 4) → n ≡ suc (length (lines_to v c es over))
length-lines_to v c es false n still ended = omega (arith, still refl, length-entry_texts 1 es)
length-lines_to v c es true n still ended = omega (arith, ended refl, length-entry_texts 1 es, length-append (entry_texts 1 es) (end_line (length es) ∷ []))

-- what was read are lines with which a record begins
module _ {T : Type 0} (about : T → Version → Config → Type 0) (took : T → List Entry → Type 0) where
  pub fine_read : (r : Reading T) (lines : List (List ℕ)) → IsRead about took r lines → AreFine lines
  fine_read reading.Start lines is = subst AreFine (sym is) fine_none
  fine_read (reading.Formed v) lines is = subst AreFine (sym is) (fine_header v)
  fine_read (reading.Opened b) lines is = subst AreFine (sym is.lines_read) (fine_body b.version is.config is.entries b.is_over is.has_text is.accepted)
