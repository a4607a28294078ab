use Rattle.std.proofs.Common.{refl, arith}
use Rattle.std.proofs.Common.{◌/◌, ◌%◌, ◌*◌, ◌^◌, ◌<◌, ◌≤◌, length, set, ap}
use Rattle.std.specs.Prelude.{bit_or}
use Rattle.std.proofs.lemmas.List.{get_or_read}
use Rattle.ts_match.specs.declared.bit_sets.TheConstants.{WORD}
use Rattle.ts_match.proofs.Words.{set_row}
use Rattle.ts_match.proofs.bit_sets.set.Goals as goal

pub returns-clause-value : goal.returns-clause-value
returns-clause-value c =
    let ws = c.args.bits.now.words.items in
    let p = c.args.place in
    let wide : c.args.count ≤ length c.args.bits.now.words.items = omega (arith, c.args.bits.now.words.ok.0) in
    let l : p / WORD < length c.args.bits.now.words.items = let r = c.requires.within in omega arith in
    set_row c.args.count ws (set ws (p / WORD) (bit_or c.index_mut.result.now (1 * 2 ^ (p % WORD) % 2 ^ 64)))
    c.args.bits.now.rest c.args.bits.now.rest p c.requires.within wide
    (ap (λ w. set ws (p / WORD) (bit_or w (1 * 2 ^ (p % WORD) % 2 ^ 64)))
    (get_or_read ws _ _ l c.index_mut.ensures.value 0)) refl
