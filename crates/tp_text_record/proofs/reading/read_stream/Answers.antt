use Rattle.std.proofs.Common.{◌++◌, ◌<◌, ◌^◌, [], length, length-append, sym, take, unwrap_or, arith}
use Rattle.tp_text_record.proofs.LinesRead.{err_on, gives_none, gives_on, known_end, known_more, ok_on, refused_at_end, refused_by_reader, tells_outcome, tells_refused}
use Rattle.tp_text_record.proofs.reading.read_stream.Goals as goal

pub returns-then-count-eq0-clause-taken : goal.returns-then-count-eq0-clause-taken
returns-then-count-eq0-clause-taken g c =
    let known = g.R.Read.remaining in
    let l = c.loop.invariant in
    let read = c.in-Ok.ensures in
    let gave = gives_none known c.args.reader.now c.loop.reader c.read.new.self l.bytes c.read.new.buf c.in-Ok.count c.if-count-eq0.true l.gave read.bytes.0 read.given read.well in
    let ends = read.bytes.1 c.if-count-eq0.true (omega arith) in
    ok_on c.finish.result _ _ (λ b taken. (l.bytes, known_end (known c.args.reader.now.inner) (known c.read.new.self.inner) l.bytes gave.taken ends, taken c.args.question.now l.bytes l.streamed)) c.finish.ensures.taken

pub returns-then-count-eq0-clause-refused : goal.returns-then-count-eq0-clause-refused
returns-then-count-eq0-clause-refused g c =
    let known = g.R.Read.remaining in
    let l = c.loop.invariant in
    let read = c.in-Ok.ensures in
    let gave = gives_none known c.args.reader.now c.loop.reader c.read.new.self l.bytes c.read.new.buf c.in-Ok.count c.if-count-eq0.true l.gave read.bytes.0 read.given read.well in
    let ends = read.bytes.1 c.if-count-eq0.true (omega arith) in
    err_on c.finish.result _ _ (λ e refused. refused_at_end (known c.args.reader.now.inner) (known c.read.new.self.inner) l.bytes e gave.taken ends (refused c.args.question.now l.bytes l.streamed)) c.finish.ensures.refused

pub returns-then-count-eq0-clause-tells_reader : goal.returns-then-count-eq0-clause-tells_reader
returns-then-count-eq0-clause-tells_reader g c =
    let l = c.loop.invariant in
    let read = c.in-Ok.ensures in
    let gave = gives_none g.R.Read.remaining c.args.reader.now c.loop.reader c.read.new.self l.bytes c.read.new.buf c.in-Ok.count c.if-count-eq0.true l.gave read.bytes.0 read.given read.well in
    let few : length l.bytes < 2 ^ 64 = omega (arith, l.most, c.loop-test.true) in
    tells_outcome _ g.R.Read.remaining c.args.reader.now c.read.new.self l.bytes [] c.finish.result gave few (err_on c.finish.result _ _ (λ e refused. refused c.args.question.now l.bytes l.streamed) c.finish.ensures.refused)

pub returns-in-Err-take-clause-refused : goal.returns-in-Err-take-clause-refused
returns-in-Err-take-clause-refused g c =
    let known = g.R.Read.remaining in
    let l = c.loop.invariant in
    let read = c.in-Ok.ensures in
    let piece = take c.in-Ok.count c.read.new.buf in
    let gave = gives_on known c.args.reader.now c.loop.reader c.read.new.self l.bytes piece c.in-Ok.count l.gave read.bytes.0 (sym read.bound.1) read.given read.well in
    let later = unwrap_or (known c.read.new.self.inner) [] in
    refused_by_reader (known c.args.reader.now.inner) (l.bytes ++ piece) later c.in-Err-take.refusal (known_more (known c.args.reader.now.inner) (known c.read.new.self.inner) (l.bytes ++ piece) gave.taken)
    (c.in-Err-take.ensures.refused l.bytes later l.streamed)

pub returns-in-Err-take-clause-tells_reader : goal.returns-in-Err-take-clause-tells_reader
returns-in-Err-take-clause-tells_reader g c =
    let l = c.loop.invariant in
    let read = c.in-Ok.ensures in
    let piece = take c.in-Ok.count c.read.new.buf in
    let gave = gives_on g.R.Read.remaining c.args.reader.now c.loop.reader c.read.new.self l.bytes piece c.in-Ok.count l.gave read.bytes.0 (sym read.bound.1) read.given read.well in
    let few : length (l.bytes ++ piece) < 2 ^ 64 = omega (arith, l.most, c.loop-test.true, length-append l.bytes piece, read.bound.0, read.bound.1) in
    tells_refused _ g.R.Read.remaining c.args.reader.now c.read.new.self (l.bytes ++ piece) [] c.in-Err-take.refusal gave few (c.in-Err-take.ensures.refused l.bytes [] l.streamed)

pub loop-preserved : goal.loop-preserved
loop-preserved g c =
    let l = c.loop.invariant in
    let read = c.in-Ok.ensures in
    let piece = take c.in-Ok.count c.read.new.buf in
    let some : 0 < c.in-Ok.count = omega (arith, c.if-count-eq0.false) in record {
      bytes = l.bytes ++ piece;
      streamed = c.in_default.ensures.read l.bytes l.streamed;
      gave = gives_on g.R.Read.remaining c.args.reader.now c.loop.reader c.read.new.self l.bytes piece c.in-Ok.count l.gave read.bytes.0 (sym read.bound.1) read.given read.well;
      most = omega (arith, l.most, length-append l.bytes piece, read.bound.0, read.bound.1);
      least = omega (arith, l.least, length-append l.bytes piece, read.bound.1, some);
    }
