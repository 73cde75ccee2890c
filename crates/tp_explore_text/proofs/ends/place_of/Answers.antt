use Rattle.std.proofs.Common.{◌≡◌, ◌≢◌, true, false, length, take, refl, ap, ◌∙◌, arith, bytes_eq}
use Rattle.std.proofs.lemmas.Grind.{common_steps}
use Rattle.std.proofs.lemmas.List.Elements.{All-more}
use Rattle.std.proofs.lemmas.Option.{slice_get_read}
use Rattle.std.proofs.lemmas.Slice.Eq.{bytes_eq-Decides}
use Rattle.tp_explore_text.specs.Ends.{text_of}
use Rattle.tp_explore_text.proofs.ends.place_of.Goals as goal

pub returns-then-eq : goal.returns-then-eq
returns-then-eq c =
    let ends = c.args.ends.now in
    let x = c.index-ends-i.result in
    let tested : bytes_eq (text_of x) c.args.text.now ≡ true = grind arith in
    (x, slice_get_read ends (length ends) c.loop-i.i x refl c.loop-i-test.true c.index-ends-i.is, (bytes_eq-Decides (text_of x) c.args.text.now).0 tested)

pub loop-i-preserved : goal.loop-i-preserved
loop-i-preserved c =
    let ends = c.args.ends.now in
    let x = c.index-ends-i.result in
    let tested : bytes_eq (text_of x) c.args.text.now ≡ false = grind arith in
    All-more (λ e. text_of e ≢ c.args.text.now) ends c.loop-i.i x c.loop-i-test.true c.loop-i.invariant
    (λ same. let t : bytes_eq (text_of x) c.args.text.now ≡ true = (bytes_eq-Decides (text_of x) c.args.text.now).1 (ap text_of c.index-ends-i.is ∙ same) in cc)

pub returns : goal.returns
returns c =
    let all : take c.loop-i.i c.args.ends.now ≡ c.args.ends.now = grind (arith, common_steps) in
    rw all at c.loop-i.invariant
