use Rattle.std.proofs.Common.{◌≡◌, ◌++◌, ◌∷◌, [], ℕ, List, ◌∙◌, sym, ap, subst}
use Rattle.std.specs.Prelude.{codes, string_bytes}
use Rattle.std.specs.Fmt.{decimal}
use Rattle.tp_types.specs.RunState.{state_name}
use Rattle.tp_text.specs.EndLines.{state_at}
use Rattle.tp_story_words.specs.Fronts.{front_head}
use Rattle.tp_story_words.proofs.Written.{first_seven, ok_on, state_named}
use Rattle.tp_story_words.proofs.fronts.head_of.Goals as goal

pub returns-in_ok-more-in-Words : goal.returns-in_ok-more-in-Words
returns-in_ok-more-in-Words c =
    let t = c.args.tables.now in
    let named : c.name-state.result.now ≡ state_name (state_at t.rank) = c.name-state.ensures ∙ ap state_name (sym (state_named t.rank c.from_rank.result (c.from_rank.ensures.rank ∙ c.min.ensures))) in
    let more = c.as_str-more.result.now ++ codes "\n" in
    let rest : List ℕ = codes ", at moment " ++ (decimal t.moment ++ (codes ", " ++ more)) in
    ok_on c.format-in-Words.result _ _
    (λ s is. (
      more,
      subst (λ f. string_bytes s ≡ front_head f t ++ more) (sym c.in-Words.is)
          (is ∙ ap (λ x. codes "after entry " ++ (decimal t.steps ++ (codes ": " ++ (x ++ rest)))) named
          ∙ first_seven (codes "after entry ") (decimal t.steps) (codes ": ") (state_name (state_at t.rank)) (codes ", at moment ") (decimal t.moment) (codes ", ") more),
    ))
    c.format-in-Words.ensures.ok

pub returns-in-Json : goal.returns-in-Json
returns-in-Json c =
    let t = c.args.tables.now in
    let named : c.name-state.result.now ≡ state_name (state_at t.rank) = c.name-state.ensures ∙ ap state_name (sym (state_named t.rank c.from_rank.result (c.from_rank.ensures.rank ∙ c.min.ensures))) in
    let more = codes "\"submitted\":" ++ (decimal c.len-submitted.result ++ (codes ",\"due\":" ++ (decimal t.due ++ codes "}\n"))) in
    let rest : List ℕ = codes "\",\"moment\":" ++ (decimal t.moment ++ (codes "," ++ more)) in
    ok_on c.format-in-Json.result _ _
    (λ s is. (
      more,
      subst (λ f. string_bytes s ≡ front_head f t ++ more) (sym c.in-Json.is)
          (is ∙ ap (λ x. codes "{\"entry\":" ++ (decimal t.steps ++ (codes ",\"state\":\"" ++ (x ++ rest)))) named
          ∙ first_seven (codes "{\"entry\":") (decimal t.steps) (codes ",\"state\":\"") (state_name (state_at t.rank)) (codes "\",\"moment\":") (decimal t.moment) (codes ",") more),
    ))
    c.format-in-Json.ensures.ok
