use Rattle.std.proofs.Common.{◌≡◌, eqb, take}
use Rattle.std.specs.List.{list_all}
use Rattle.page_code.proofs.fields.all_zeros.Given as goal

abbrev pub invariant-loop-byte : goal.invariant-loop-byte
invariant-loop-byte l = list_all (λ b. eqb b 0) (take l.byte-index l.bytes) ≡ eqb l.most 0
