use Rattle.std.proofs.Common.{sym, arith}
use Rattle.posting_code.proofs.Sizing.{exact_bytes, one_byte, five_bytes}
use Rattle.posting_code.proofs.writing.varbyte_size.Goals as goal

pub returns-then-n-lt128 : goal.returns-then-n-lt128
returns-then-n-lt128 c = sym (one_byte c.args.n c.if-n-lt128.true)

pub returns-then-n-lt16384 : goal.returns-then-n-lt16384
returns-then-n-lt16384 c =
    sym (exact_bytes 0 c.args.n c.requires (omega (arith, c.if-n-lt128.false)) (omega (arith, c.if-n-lt16384.true)))

pub returns-then-n-lt2097152 : goal.returns-then-n-lt2097152
returns-then-n-lt2097152 c =
    sym (exact_bytes 1 c.args.n c.requires (omega (arith, c.if-n-lt16384.false)) (omega (arith, c.if-n-lt2097152.true)))

pub returns-then-n-lt268435456 : goal.returns-then-n-lt268435456
returns-then-n-lt268435456 c = sym
    (exact_bytes 2 c.args.n c.requires (omega (arith, c.if-n-lt2097152.false)) (omega (arith, c.if-n-lt268435456.true)))

pub returns-else-n-lt268435456 : goal.returns-else-n-lt268435456
returns-else-n-lt268435456 c = sym (five_bytes c.args.n c.requires (omega (arith, c.if-n-lt268435456.false)))
