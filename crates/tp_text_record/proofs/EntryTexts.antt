-- The line of an entry is its text and its end.
use Rattle.std.proofs.Common.{◌≡◌, ℕ, List, [], ◌∷◌, ◌++◌, refl, sym, ◌∙◌, ap, append_assoc}
use Rattle.std.specs.Fmt.{decimal}
use Rattle.tp_record.specs.declared.entries.Entry.{Entry}
use Rattle.tp_text.specs.EntryLine.{words, line, entry_line, did_words, entry_words, pass_words}
use Rattle.tp_text.specs.Lines.{ended}

line-words : (w : List ℕ) (ws : List (List ℕ)) → line (w ∷ ws) ≡ ended (words (w ∷ ws))
line-words w [] = refl
line-words w (v ∷ ws) = ap (λ x. w ++ (32 ∷ x)) (line-words v ws) ∙ sym (append_assoc w (32 ∷ words (v ∷ ws)) (10 ∷ []))

-- the line of an entry is its words, each but the first behind a space, and the line's end
pub entry_line-words : (n : ℕ) (e : Entry) → entry_line n e ≡ ended (words (entry_words n e))
entry_line-words n e = line-words (decimal n) (pass_words e.by ++ did_words e.did)
