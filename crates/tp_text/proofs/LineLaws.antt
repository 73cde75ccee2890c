-- Laws of lines.
use Rattle.std.proofs.Common.{◌≡◌, ℕ, List, [], ◌∷◌, ◌++◌, Result, Ok, Err, OnOk, is_ok, map, refl, ap, append_assoc, codes, ◌∙◌, sym, if◌then◌else◌}
use Rattle.std.specs.Fmt.{decimal}
use Rattle.std.specs.List.{flat_map}
use Rattle.std.proofs.lemmas.List.Concat.{flat_map-append}
use Rattle.tp_types.specs.declared.ids.TaskId.{TaskId}
use Rattle.tp_types.specs.declared.states.Counts.{Counts}
use Rattle.tp_record.specs.declared.entries.Entry.{Entry}
use Rattle.tp_text.specs.EntryLine.{behind, did_words, entry_line, line, pass_words}
use Rattle.tp_text.specs.EndLines.{back_line, counts_line, lost_counters, ran_counters, task_text, worker_counters}

-- a line is its first word, the others, each behind a space, and its end
pub line-behind : (w : List ℕ) (ws : List (List ℕ)) → line (w ∷ ws) ≡ w ++ (behind ws ++ 10 ∷ [])
line-behind w [] = refl
line-behind w (v ∷ ws) = ap (λ x. w ++ (32 ∷ x)) (line-behind v ws ∙ sym (append_assoc v (behind ws) (10 ∷ [])))

-- a line of a word and of tasks, task by task
pub line-tasks : (w : List ℕ) (ts : List TaskId) → line (w ∷ map task_text (map (λ t. t.0) ts)) ≡ w ++ (flat_map (λ (t : TaskId). 32 ∷ task_text t.0) ts ++ 10 ∷ [])
line-tasks w [] = refl
line-tasks w (t ∷ ts) = ap (λ v. w ++ (32 ∷ v)) (line-tasks (task_text t.0) ts ∙ sym (append_assoc (task_text t.0) (flat_map (λ (u : TaskId). 32 ∷ task_text u.0) ts) (10 ∷ [])))

-- the end of a line, where there was room for it
pub end_on_ok : {A E : Type 0} (r : Result A E) (line new whole : List ℕ) → new ≡ (if is_ok r then line ++ 10 ∷ [] else line) → line ++ 10 ∷ [] ≡ whole → OnOk r (new ≡ whole)
end_on_ok (Ok x) line new whole is goes = is ∙ goes
end_on_ok (Err x) line new whole is goes = tt

-- a word, words and words make one line
in_steps : (old w : List ℕ) (vs ws : List (List ℕ)) → ((old ++ (w ++ behind vs)) ++ behind ws) ++ 10 ∷ [] ≡ old ++ line (w ∷ (vs ++ ws))
in_steps old w vs ws =
    ap (λ x. x ++ 10 ∷ []) (append_assoc old (w ++ behind vs) (behind ws))
    ∙ append_assoc old ((w ++ behind vs) ++ behind ws) (10 ∷ [])
    ∙ ap (λ x. old ++ (x ++ 10 ∷ [])) (append_assoc w (behind vs) (behind ws) ∙ ap (λ x. w ++ x) (sym (flat_map-append (λ v. 32 ∷ v) vs ws)))
    ∙ ap (λ x. old ++ x) (append_assoc w (behind (vs ++ ws)) (10 ∷ []) ∙ sym (line-behind w (vs ++ ws)))

-- the line of an entry: its number and pass, what was done, and the end
pub entry_in_parts : (n : ℕ) (e : Entry) → entry_line n e ≡ (decimal n ++ behind (pass_words e.by)) ++ (behind (did_words e.did) ++ 10 ∷ [])
entry_in_parts n e = sym (in_steps [] (decimal n) (pass_words e.by) (did_words e.did)) ∙ append_assoc (decimal n ++ behind (pass_words e.by)) (behind (did_words e.did)) (10 ∷ [])

-- one more piece of a line is written
pub more_on_ok : {A E : Type 0} (r : Result A E) (old mid all xs ys : List ℕ) → mid ≡ old ++ xs → OnOk r (all ≡ mid ++ ys) → OnOk r (all ≡ old ++ (xs ++ ys))
more_on_ok (Ok x) old mid all xs ys m a = a ∙ ap (λ zs. zs ++ ys) m ∙ append_assoc old xs ys
more_on_ok (Err x) old mid all xs ys m a = tt

-- the line of an entry is written piece by piece
pub entry_on_ok : {A E : Type 0} (r : Result A E) (n : ℕ) (e : Entry) (old place did all : List ℕ) → place ≡ old ++ (decimal n ++ behind (pass_words e.by)) → did ≡ place ++ behind (did_words e.did)
    → OnOk r (all ≡ did ++ 10 ∷ []) → OnOk r (all ≡ old ++ entry_line n e)
entry_on_ok (Ok x) n e old place did all p d a =
    let front : List ℕ = decimal n ++ behind (pass_words e.by) in
    let back : List ℕ = behind (did_words e.did) in
    a ∙ ap (λ x. x ++ 10 ∷ []) (d ∙ ap (λ x. x ++ back) p) ∙ append_assoc (old ++ front) back (10 ∷ []) ∙ append_assoc old front (back ++ 10 ∷ []) ∙ ap (λ x. old ++ x) (sym (entry_in_parts n e))
entry_on_ok (Err x) n e old place did all p d a = tt

-- the counters in three steps, and the end
pub counts_in_steps : (c : Counts) (old ran lost all : List ℕ) → ran ≡ old ++ (codes "counts" ++ behind (ran_counters c)) → lost ≡ ran ++ behind (lost_counters c) → all ≡ lost ++ behind (worker_counters c) → all ++ 10 ∷ [] ≡ old ++ counts_line c
counts_in_steps c old ran lost all r l a =
    ap (λ x. x ++ 10 ∷ [])
    (a ∙ ap (λ x. x ++ behind (worker_counters c)) (l ∙ ap (λ x. x ++ behind (lost_counters c)) r)
    ∙ append_assoc (old ++ (codes "counts" ++ behind (ran_counters c))) (behind (lost_counters c)) (behind (worker_counters c))
    ∙ ap (λ x. (old ++ (codes "counts" ++ behind (ran_counters c))) ++ x) (sym (flat_map-append (λ v. 32 ∷ v) (lost_counters c) (worker_counters c))))
    ∙ in_steps old (codes "counts") (ran_counters c) (lost_counters c ++ worker_counters c)

-- the tasks that were handed back, and the end
pub back_in_steps : (old back : List ℕ) (ts : List TaskId) → back ≡ old ++ (codes "back" ++ flat_map (λ (t : TaskId). 32 ∷ task_text t.0) ts) → back ++ 10 ∷ [] ≡ old ++ back_line (map (λ t. t.0) ts)
back_in_steps old back ts b =
    ap (λ x. x ++ 10 ∷ []) b
    ∙ append_assoc old (codes "back" ++ flat_map (λ (t : TaskId). 32 ∷ task_text t.0) ts) (10 ∷ [])
    ∙ ap (λ x. old ++ x) (append_assoc (codes "back") (flat_map (λ (t : TaskId). 32 ∷ task_text t.0) ts) (10 ∷ []) ∙ sym (line-tasks (codes "back") ts))
