use Rattle.std.proofs.Common.{◌≡◌, ◌<◌, length, refl, subst, None, arith, take}
use Rattle.std.specs.List.{slice_index}
use Rattle.std.proofs.lemmas.Str.{lead_after_ascii}
use Rattle.tp_text.specs.Reads.{IsWord}
use Rattle.tp_text.proofs.WordSplits.{first_at, first_cut}
use Rattle.tp_text.proofs.words.first_word.Goals as goal

pub range_from-requires : goal.range_from-requires
range_from-requires c =
    let at = subst (λ bs. (c.in-Some.end < length bs) × (slice_index bs c.in-Some.end ≡ 32) × IsWord (take c.in-Some.end bs)) c.as_bytes.ensures.value c.in-Some.ensures in
    λ above. (omega (arith, at.0), λ within high. lead_after_ascii c.args.text.now c.in-Some.end c.utf8.text (omega (arith, at.1)) within high)

pub returns-in-None : goal.returns-in-None
returns-in-None c = first_cut c.args.text.now c.args.text.now None (subst IsWord c.as_bytes.ensures.value c.in-None.ensures) refl

pub returns-in-Some : goal.returns-in-Some
returns-in-Some c =
    first_at c.args.text.now c.in-Some.end c.range.result.now c.range_from.result.now
    (subst (λ bs. (c.in-Some.end < length bs) × (slice_index bs c.in-Some.end ≡ 32) × IsWord (take c.in-Some.end bs)) c.as_bytes.ensures.value c.in-Some.ensures) c.range.ensures.value c.range_from.ensures.value
