use Rattle.std.proofs.Common.{arith}
use Rattle.tp_text.proofs.TextLaws.{one_more, space_stands_out, clean_by_last}
use Rattle.tp_text.proofs.lines.is_clean.Goals as goal
use Rattle.tp_text.proofs.lines.is_clean.Goals.{else-byte-eq32-via-then-byte-eq32+else-before-eq32, else-byte-eq32-via-else-byte-eq32}

pub returns-then-before-eq32 : goal.returns-then-before-eq32
returns-then-before-eq32 c =
    let out = space_stands_out c.args.line.now c.loop-byte.byte-index c.loop-byte.before c.loop-byte.invariant c.loop-byte-test.true c.if-byte-eq32.true c.if-before-eq32.true in
    ((λ e. cc), (λ clean. absurd (out clean)))

pub loop-byte-preserved : goal.loop-byte-preserved
loop-byte-preserved c =
    one_more c.args.line.now c.loop-byte.byte-index c.loop-byte.before c.loop-byte.invariant (omega arith) c.if-byte-eq13.false
    (elim c.else-byte-eq32.branch [ else-byte-eq32-via-then-byte-eq32+else-before-eq32 w ↦ (λ e. w.if-before-eq32.false) | else-byte-eq32-via-else-byte-eq32 w ↦ (λ e. absurd (w.if-byte-eq32.false e)) ])

pub returns-else-is_empty : goal.returns-else-is_empty
returns-else-is_empty c =
    clean_by_last c.args.line.now c.loop-byte.byte-index c.loop-byte.before c.is_empty.result c.if-line-gt-MAX_LINE_BYTES.false c.loop-byte-test.false c.loop-byte.auto.byte-index-end
    c.if-is_empty.false c.is_empty.ensures c.loop-byte.invariant

pub loop-byte-preserved-then-byte-lt128 : goal.loop-byte-preserved-then-byte-lt128
loop-byte-preserved-then-byte-lt128 c =
    let above = c.if-byte-gt32.true in
    one_more c.args.line.now c.loop-byte.byte-index c.loop-byte.before c.loop-byte.invariant c.if-byte-lt128.true (λ e. omega (arith, e, above)) (λ e. absurd (omega (arith, e, above)))
