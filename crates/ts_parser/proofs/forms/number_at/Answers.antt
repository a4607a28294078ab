use Rattle.std.proofs.Common.{sym, ◌∙◌, ◌-◌, ◌+◌, ◌<◌, ◌^◌, length, take, drop, length-take, length-drop, arith}
use Rattle.std.specs.Char.{is_ascii_digit}
use Rattle.ts_parser.proofs.Fits.{row_fits, sign_room}
use Rattle.ts_parser.proofs.forms.number_at.Goals as goal

pub overflow_add-result : goal.overflow_add-result
overflow_add-result c =
    let u = c.args.u.now in
    let k : c.in_ok-number-in-len1-up.number.length + 1 < 2 ^ 64 = sign_room (take (length u - 1) (drop 1 u))
    c.in_ok-number-in-len1-up.number (length u) (sym c.in_ok-number-in-len1-up.was ∙ c.signed_number.ensures)
    (simp (length-take, length-drop) (omega arith)) (omega arith) in
    omega (arith, k)

pub number_of-requires : goal.number_of-requires
number_of-requires c = let k = row_fits is_ascii_digit is_ascii_digit 46 c.args.u.now in omega (arith, k)
