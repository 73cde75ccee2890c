-- The entries among answers.
use Rattle.std.proofs.Common.{◌≡◌, List, [], ◌∷◌, ◌++◌, reverse, Ok, Err, ◌∙◌, ap, sym}
use Rattle.std.specs.Option.{option_to_list}
use Rattle.std.specs.Result.{result_ok}
use Rattle.std.proofs.lemmas.List.{append-nil, map_push, reverse-append}
use Rattle.tp_record.specs.declared.entries.Entry.{Entry}
use Rattle.tp_text.specs.RunText.{after, after_all}
use Rattle.tp_text.proofs.RunLaws.{after_all-push}
use Rattle.tp_scenario.specs.Answered.{answer_of}
use Rattle.tp_scenario.specs.Plays.{Answered, answers_of, entries_in}

-- the history after an answer, oldest entry first
kept_on : (h : List Entry) (x : Answered) → reverse (after h (answer_of x)) ≡ reverse h ++ option_to_list (result_ok x)
kept_on h (Ok e) = reverse-append (e ∷ []) h
kept_on h (Err r) = sym (append-nil (reverse h))

-- the entries among one more answer
pub entries_on : (xs : List Answered) (x : Answered) → entries_in (xs ++ x ∷ []) ≡ entries_in xs ++ option_to_list (result_ok x)
entries_on xs x =
    ap (λ given. reverse (after_all [] given)) (map_push answer_of xs x)
    ∙ ap reverse (after_all-push [] (answers_of xs) (answer_of x)) ∙ kept_on (after_all [] (answers_of xs)) x
