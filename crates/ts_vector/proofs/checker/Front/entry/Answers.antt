use Rattle.std.proofs.Common.{arith, refl, []}
use Rattle.std.proofs.lemmas.Result.{err_from_is_err_and}
use Rattle.ts_vector.specs.Decoded.{counted, measured, named, of_lexeme}
use Rattle.ts_vector.specs.Inner.Fields.{behind}
use Rattle.ts_vector.proofs.Decoding.{length_goes, not_next, named_so, placed_so, adds, spoils_then, stops_then}
use Rattle.ts_vector.proofs.Decoding.{stops_short}
use Rattle.ts_vector.proofs.checker.Front.entry.Goals as goal

pub returns-in_err-length-clause-err : goal.returns-in_err-length-clause-err
returns-in_err-length-clause-err c =
    let p = err_from_is_err_and c.from_residual.result c.from_residual.ensures.1 in
    rw (p.1, p.2) (λ n v lt is. c.in_err-length.ensures.err n v lt is.size)

pub returns-in_err-lexeme-clause-err : goal.returns-in_err-lexeme-clause-err
returns-in_err-lexeme-clause-err c =
    let k = c.in_ok-length.length in
    let e = c.in_ok-length.ensures in
    let p = err_from_is_err_and c.from_residual-in_err-lexeme.result c.from_residual-in_err-lexeme.ensures.1 in
    rw (p.1, p.2) (λ n v lt is.
    let size = is.size in
    stops_then (counted n v) (measured n v k) c.args.bytes.now c.in_ok-length.rest.now c.in_err-lexeme.field-0.0
    (length_goes n v k c.args.bytes.now c.in_ok-length.rest.now lt e.ok e.some e.most (omega (arith, e.small)))
    (stops_short (measured n v k) k c.in_ok-length.rest.now
    (of_lexeme n k v) c.in_err-lexeme.field-0.0 c.in_err-lexeme.ensures.err))

pub returns-then-not-is_next-clause-err : goal.returns-then-not-is_next-clause-err
returns-then-not-is_next-clause-err c = λ n v lt is.
    let k = c.in_ok-length.length in
    let e = c.in_ok-length.ensures in
    let size = is.size in
    spoils_then (counted n v) (measured n v k) c.args.bytes.now c.in_ok-length.rest.now _
    (length_goes n v k c.args.bytes.now c.in_ok-length.rest.now lt e.ok e.some e.most (omega (arith, e.small)))
    (not_next n v c.args.self k c.in_ok-lexeme.lexeme.now c.in_ok-length.rest.now c.in_ok-lexeme.after.now is
    c.in_ok-lexeme.ensures.whole c.in_ok-lexeme.ensures.len e.some
    (λ h. let yes = c.is_next.ensures.1 h in let no = c.if-not-is_next.ensures in cc))

pub returns-in_err-number-clause-err : goal.returns-in_err-number-clause-err
returns-in_err-number-clause-err c =
    let k = c.in_ok-length.length in
    let l = c.in_ok-lexeme.lexeme.now in
    let e = c.in_ok-length.ensures in
    let next = c.is_next.ensures.0 (let no = c.if-not-is_next.ensures in cc) in
    let p = err_from_is_err_and c.from_residual-in_err-number.result c.from_residual-in_err-number.ensures.1 in
    rw (p.1, p.2) (λ n v lt is.
    let size = is.size in
    stops_then (counted n v) (named n v l) c.args.bytes.now c.in_ok-lexeme.after.now c.in_err-number.field-0.0
    (named_so n v c.args.self k c.args.bytes.now c.in_ok-length.rest.now l c.in_ok-lexeme.after.now lt is e.ok e.some
    e.most e.small c.in_ok-lexeme.ensures.whole c.in_ok-lexeme.ensures.len next)
    (c.in_err-number.ensures.err n v l (omega (arith, c.in_ok-lexeme.ensures.len))))

pub returns-in_err-rest-clause-err : goal.returns-in_err-rest-clause-err
returns-in_err-rest-clause-err c =
    let k = c.in_ok-length.length in
    let l = c.in_ok-lexeme.lexeme.now in
    let m = c.in_ok-number.number in
    let e = c.in_ok-length.ensures in
    let next = c.is_next.ensures.0 (let no = c.if-not-is_next.ensures in cc) in
    let p = err_from_is_err_and c.from_residual-in_err-rest.result c.from_residual-in_err-rest.ensures.1 in
    rw (p.1, p.2) (λ n v lt is.
    let first = named_so n v c.args.self k c.args.bytes.now c.in_ok-length.rest.now l c.in_ok-lexeme.after.now lt is
    e.ok e.some e.most e.small c.in_ok-lexeme.ensures.whole c.in_ok-lexeme.ensures.len next in
    let placed = placed_so n v c.args.self k c.args.bytes.now c.in_ok-length.rest.now l c.in_ok-lexeme.after.now m
    c.in_ok-number.rest.now is first c.in_ok-number.ensures.ok c.in_ok-number.ensures.few c.in_ok-lexeme.ensures.len
    c.in_ok-number.ensures.small in
    stops_then (counted n v) (behind n v l m []) c.args.bytes.now c.in_ok-number.rest.now c.in_err-rest.field-0.0 placed
    (c.in_err-rest.ensures.err n v l))

pub returns-clause-ok : goal.returns-clause-ok
returns-clause-ok c = λ n v lt is.
    let k = c.in_ok-length.length in
    let l = c.in_ok-lexeme.lexeme.now in
    let m = c.in_ok-number.number in
    let e = c.in_ok-length.ensures in
    let next = c.is_next.ensures.0 (let no = c.if-not-is_next.ensures in cc) in
    let first = named_so n v c.args.self k c.args.bytes.now c.in_ok-length.rest.now l c.in_ok-lexeme.after.now lt is
    e.ok e.some e.most e.small c.in_ok-lexeme.ensures.whole c.in_ok-lexeme.ensures.len next in
    let placed = placed_so n v c.args.self k c.args.bytes.now c.in_ok-length.rest.now l c.in_ok-lexeme.after.now m
    c.in_ok-number.rest.now is first c.in_ok-number.ensures.ok c.in_ok-number.ensures.few c.in_ok-lexeme.ensures.len
    c.in_ok-number.ensures.small in
    adds n v c.args.self k c.args.bytes.now c.in_ok-length.rest.now l c.in_ok-lexeme.after.now m c.in_ok-number.rest.now
    c.in_ok-rest.rest.now _ is placed e.some e.most c.in_ok-lexeme.ensures.len c.in_ok-number.ensures.few next
    c.in_ok-rest.ensures.ok refl refl
