use Rattle.std.proofs.Common.{◌≡◌, ◌+◌, ◌++◌, ◌∙◌, ap, ap₂, suc, subst, append_assoc, arith, string_bytes}
use Rattle.tp_story_claims.specs.Differences.{AreLines, next_number, parting_head}
use Rattle.tp_story_words.specs.Fronts.{front_head}
use Rattle.tp_story_claims.proofs.differences.parting_text.Goals as goal

pub returns-clause-text : goal.returns-clause-text
returns-clause-text c =
    let f = c.args.form in
    let front = c.args.front.now in
    let lines = string_bytes c.in_ok-lines.lines in
    let said = front_head f front.judge.tables in
    let more = c.in_ok-state.ensures.text.0 in
    let one : c.tables.result.now.steps + 1 ≡ suc c.tables.result.now.steps = omega arith in
    let head : c.into_bytes-text.result.items ≡ parting_head f (next_number front) =
    ap (λ v. v.items) c.into_bytes-text.ensures.value ∙ c.in_ok-parting_line.ensures ∙ ap (parting_head f) one ∙ ap (λ t. parting_head f (suc t.steps)) c.tables.ensures.tables in
    record {
      lines = lines;
      more = more;
      are_lines = subst (λ t. AreLines f (suc t.steps) c.args.first c.args.second lines) c.tables.ensures.tables (subst (λ m. AreLines f m c.args.first c.args.second lines) one c.in_ok-lines.ensures);
      is_text =
          c.in_ok-extend_from_slice-2.ensures.items
          ∙ ap₂ (λ x y. x ++ y) (c.in_ok-extend_from_slice.ensures.items ∙ ap₂ (λ x y. x ++ y) head c.as_bytes.ensures.value) (c.as_slice.ensures.value ∙ c.in_ok-state.ensures.text.1)
          ∙ append_assoc (parting_head f (next_number front)) lines (said ++ more);
    }
