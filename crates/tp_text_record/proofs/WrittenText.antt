-- The text of a record, written line by line.
use Rattle.std.proofs.Common.{◌≡◌, ℕ, suc, ◌+◌, ◌<◌, List, [], ◌∷◌, ◌++◌, length, get_or, take, Option, sym, ◌∙◌, ap, subst, arith, append_assoc, append-nil, length-take}
use Rattle.std.specs.Io.KnownBytes.{Appends}
use Rattle.std.specs.List.{flat_map}
use Rattle.std.proofs.KnownBytes.{Appends-trans}
use Rattle.std.proofs.lemmas.List.{take_more}
use Rattle.std.proofs.lemmas.List.Concat.{flat_map-append}
use Rattle.tp_types.specs.declared.configs.Config.{Config}
use Rattle.tp_record.specs.declared.entries.Entry.{Entry}
use Rattle.tp_text.specs.EntryLine.{entry_line}
use Rattle.tp_text.specs.Lines.{ended}
use Rattle.tp_text_record.specs.declared.versions.Version.TheVariants as version
use Rattle.tp_text_record.specs.ReadRecord.{head}
use Rattle.tp_text_record.specs.RecordText.{entry_text, entry_texts}
use Rattle.tp_text_record.proofs.EntryTexts.{entry_line-words}
use Rattle.tp_text_record.proofs.FirstWrong.{entry_texts-push}

-- what is written of so many entries
abbrev pub front : Config → List Entry → ℕ → List ℕ
front c es n = head version.Two c ++ flat_map ended (entry_texts 1 (take n es))

pub first_written : (old new : Option (List ℕ)) (c : Config) → Appends old new (head version.Two c) → Appends old new (head version.Two c ++ [])
first_written old new c appends = subst (Appends old new) (sym (append-nil (head version.Two c))) appends

next_texts : (es : List Entry) (n : ℕ) (e : Entry) → take (n + 1) es ≡ take n es ++ e ∷ [] → length (take n es) ≡ n
    → flat_map ended (entry_texts 1 (take n es)) ++ entry_line (n + 1) e ≡ flat_map ended (entry_texts 1 (take (n + 1) es))
next_texts es n e more counted =
    let number : n + 1 ≡ suc (0 + length (take n es)) = omega (arith, counted) in
    ap (λ x. flat_map ended (entry_texts 1 (take n es)) ++ x)
    (entry_line-words (n + 1) e ∙ ap (λ k. ended (entry_text k e)) number ∙ sym (append-nil (ended (entry_text (suc (0 + length (take n es))) e))))
    ∙ sym (flat_map-append ended (entry_texts 1 (take n es)) (entry_text (suc (0 + length (take n es))) e ∷ []))
    ∙ ap (flat_map ended) (sym (entry_texts-push 0 (take n es) e))
    ∙ ap (λ x. flat_map ended (entry_texts 1 x)) (sym more)

pub next_written : (old mid new : Option (List ℕ)) (c : Config) (es : List Entry) (n : ℕ) (d : Entry) → Appends old mid (front c es n) → n < length es → Appends mid new (entry_line (n + 1) (get_or es n d)) → Appends old new (front c es (n + 1))
next_written old mid new c es n d so_far within appends =
    let e = get_or es n d in
    let more = take_more es n d within in
    let counted : length (take n es) ≡ n = omega (arith, length-take n es) in
    subst (Appends old new)
    (append_assoc (head version.Two c) (flat_map ended (entry_texts 1 (take n es))) (entry_line (n + 1) e)
    ∙ ap (λ x. head version.Two c ++ x) (next_texts es n e more counted))
    (Appends-trans old mid new (front c es n) (entry_line (n + 1) e) so_far appends)
