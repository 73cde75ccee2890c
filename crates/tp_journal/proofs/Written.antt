-- What a journal writes is the text of its record.
use Rattle.std.proofs.Common.{◌≡◌, ℕ, suc, ◌+◌, ◌-◌, ◌<◌, List, [], ◌∷◌, ◌++◌, length, get_or, take, drop, reverse, codes, Option, sym, ◌∙◌, ap, subst, arith, append_assoc, append-nil, length-append, length-take}
use Rattle.std.proofs.Math.Seq.{drop-append_seam, take-append_seam}
use Rattle.std.proofs.lemmas.Fmt.{decimal_digit}
use Rattle.std.proofs.KnownBytes.{Appends-trans}
use Rattle.std.proofs.lemmas.List.{take_more}
use Rattle.std.proofs.lemmas.List.Concat.{flat_map-append}
use Rattle.std.specs.Io.KnownBytes.{Appends}
use Rattle.std.specs.List.{flat_map}
use Rattle.tp_types.specs.declared.configs.Config.{Config}
use Rattle.tp_record.specs.declared.entries.Entry.{Entry}
use Rattle.tp_glance.specs.Word.{IsFrontOf}
use Rattle.tp_text.specs.EntryLine.{entry_line}
use Rattle.tp_text.specs.Lines.{ended}
use Rattle.tp_text_record.specs.declared.versions.Version.TheVariants as version
use Rattle.tp_text_record.specs.ReadRecord.{head}
use Rattle.tp_text_record.specs.RecordText.{end_line, entry_text, entry_texts, header, pool_line, record_text}
use Rattle.tp_text_record.proofs.EntryTexts.{entry_line-words}
use Rattle.tp_text_record.proofs.FirstWrong.{entry_texts-push}
use Rattle.tp_journal.specs.declared.writers.RecordWriter.{RecordWriter}
use Rattle.tp_journal.specs.Journals.{HasWritten, text_to}
use Rattle.tp_journal.proofs.Fronts.{rest_of_whole}

-- the text of a record without entries is its head, and the last line
pub no_entries : (c : Config) → record_text version.Two c [] ≡ head version.Two c ++ codes "end 0\n"
no_entries c =
    ap (λ d. ended (header version.Two) ++ (ended (pool_line c) ++ (codes "end " ++ ((d ++ 10 ∷ []) ++ [])))) (decimal_digit 0 (omega arith))
    ∙ sym (append_assoc (ended (header version.Two)) (ended (pool_line c)) (codes "end 0\n"))

pub cut_head : (c : Config) (text : List ℕ) → text ≡ record_text version.Two c [] → take (length text - 6) text ≡ head version.Two c
cut_head c text is =
    let whole = is ∙ no_entries c in
    let short : length text - 6 ≡ length (head version.Two c) = omega (arith, ap length whole, length-append (head version.Two c) (codes "end 0\n")) in
    ap (λ n. take n text) short ∙ ap (λ x. take (length (head version.Two c)) x) whole ∙ take-append_seam (head version.Two c) (codes "end 0\n")

-- one line more
pub next_line : (old new : List ℕ) (before : ℕ) (es : List Entry) (n : ℕ) (d : Entry) → old ≡ flat_map ended (entry_texts (suc before) (take n es)) → n < length es
    → new ≡ old ++ entry_line (before + n + 1) (get_or es n d) → new ≡ flat_map ended (entry_texts (suc before) (take (n + 1) es))
next_line old new before es n d so_far within more =
    let e = get_or es n d in
    let taken = take_more es n d within in
    let counted : length (take n es) ≡ n = omega (arith, length-take n es) in
    let number : before + n + 1 ≡ suc (before + length (take n es)) = omega (arith, counted) in
    more
    ∙ ap (λ x. x ++ entry_line (before + n + 1) e) so_far
    ∙ ap (λ x. flat_map ended (entry_texts (suc before) (take n es)) ++ x)
    (entry_line-words (before + n + 1) e ∙ ap (λ k. ended (entry_text k e)) number ∙ sym (append-nil (ended (entry_text (suc (before + length (take n es))) e))))
    ∙ sym (flat_map-append ended (entry_texts (suc before) (take n es)) (entry_text (suc (before + length (take n es))) e ∷ []))
    ∙ ap (flat_map ended) (sym (entry_texts-push before (take n es) e))
    ∙ ap (λ x. flat_map ended (entry_texts (suc before) x)) (sym taken)

-- the lines of more entries are numbered on
texts_of_both : (n k : ℕ) (xs ys : List Entry) → k ≡ n + length xs → entry_texts n (xs ++ ys) ≡ entry_texts n xs ++ entry_texts k ys
texts_of_both n k [] ys at = ap (λ m. entry_texts m ys) (omega (arith, at))
texts_of_both n k (x ∷ xs) ys at = ap (λ texts. entry_text n x ∷ texts) (texts_of_both (suc n) k xs ys (omega (arith, at)))

text_of_both : (c : Config) (xs ys : List Entry) → text_to c xs ++ flat_map ended (entry_texts (suc (length xs)) ys) ≡ text_to c (xs ++ ys)
text_of_both c xs ys =
    sym (flat_map-append ended (header version.Two ∷ pool_line c ∷ entry_texts 1 xs) (entry_texts (suc (length xs)) ys))
    ∙ ap (λ texts. flat_map ended (header version.Two ∷ pool_line c ∷ texts)) (sym (texts_of_both 1 (suc (length xs)) xs ys (omega arith)))

text_of_whole : (c : Config) (es : List Entry) → text_to c es ++ ended (end_line (length es)) ≡ record_text version.Two c es
text_of_whole c es =
    ap (λ x. text_to c es ++ x) (sym (append-nil (ended (end_line (length es)))))
    ∙ sym (flat_map-append ended (header version.Two ∷ pool_line c ∷ entry_texts 1 es) (end_line (length es) ∷ []))

-- the text of a whole record is that of its first entries, and the rest of it
pub rest_of_text : (c : Config) (es whole : List Entry) (n : ℕ) → n ≡ length (text_to c es) → IsFrontOf (reverse es) (reverse whole)
    → text_to c es ++ drop n (record_text version.Two c whole) ≡ record_text version.Two c whole
rest_of_text c es whole n long front =
    let rest = drop (length es) whole in
    let last = ended (end_line (length whole)) in
    let lines = flat_map ended (entry_texts (suc (length es)) rest) in
    let same : record_text version.Two c whole ≡ text_to c es ++ (lines ++ last) =
    sym (text_of_whole c whole)
    ∙ ap (λ x. text_to c x ++ last) (sym (rest_of_whole es whole front))
    ∙ ap (λ x. x ++ last) (sym (text_of_both c es rest))
    ∙ append_assoc (text_to c es) lines last in
    ap (λ x. text_to c es ++ drop n x) same
    ∙ ap (λ k. text_to c es ++ drop k (text_to c es ++ (lines ++ last))) long
    ∙ ap (λ x. text_to c es ++ x) (drop-append_seam (text_to c es) (lines ++ last))
    ∙ sym same

-- the text of no entries is the head
pub head_is : (c : Config) → head version.Two c ≡ text_to c []
head_is c = ap (λ x. ended (header version.Two) ++ x) (sym (append-nil (ended (pool_line c))))

module _ {W : Type 0} (contents : W → Option (List ℕ)) where
  pub head_written : (before after : Option (List ℕ)) (c : Config) → Appends before after (head version.Two c) → Appends before after (text_to c [])
  head_written before after c = subst (Appends before after) (head_is c)

  pub more_written : (before : Option (List ℕ)) (c : Config) (es more : List Entry) (old new : RecordWriter W) → HasWritten contents before c es old
      → Appends (contents old.writer) (contents new.writer) (flat_map ended (entry_texts (suc old.entries) more))
      → new.entries ≡ old.entries + length more → new.bytes ≡ old.bytes + length (flat_map ended (entry_texts (suc old.entries) more)) → HasWritten contents before c (es ++ more) new
  more_written before c es more old new has appends counted long =
      let lines = flat_map ended (entry_texts (suc old.entries) more) in
      let text : text_to c es ++ lines ≡ text_to c (es ++ more) = ap (λ n. text_to c es ++ flat_map ended (entry_texts (suc n) more)) has.counted ∙ text_of_both c es more in
      record {
        counted = counted ∙ ap (λ n. n + length more) has.counted ∙ sym (length-append es more);
        long = omega (arith, long, has.long, ap length text, length-append (text_to c es) lines);
        written =
            subst (Appends before (contents new.writer))
            text
            (Appends-trans before (contents old.writer) (contents new.writer) (text_to c es) lines has.written appends);
      }

  pub whole_written : (before after : Option (List ℕ)) (c : Config) (es : List Entry) (old : RecordWriter W) → HasWritten contents before c es old
      → Appends (contents old.writer) after (ended (end_line old.entries)) → Appends before after (record_text version.Two c es)
  whole_written before after c es old has appends =
      subst (Appends before after)
      (ap (λ n. text_to c es ++ ended (end_line n)) has.counted ∙ text_of_whole c es)
      (Appends-trans before (contents old.writer) after (text_to c es) (ended (end_line old.entries)) has.written appends)
