use Rattle.std.proofs.Common.{◌≡◌, ℕ, ◌*◌, ◌<◌, refl, length, subst, ◌∙◌, arith}
use Rattle.std.specs.Int.{bit_at}
use Rattle.std.proofs.lemmas.List.{get_or_read}
use Rattle.ts_match.specs.declared.bit_sets.TheConstants.{WORD}
use Rattle.ts_match.proofs.Words.{beyond_words, some_bit}
use Rattle.ts_match.proofs.bit_sets.is_somewhere.Goals as goal

pub returns-then-bits : goal.returns-then-bits
returns-then-bits c =
    let r = c.args.bits.now in (
      λ h. (
        WORD * c.args.count,
        beyond_words c.args.count r.words.items r.rest (WORD * c.args.count) (omega arith) ∙ c.if-bits.true,
      ),
      λ h. refl,
    )

pub returns-then-has_bit : goal.returns-then-has_bit
returns-then-has_bit c =
    let r = c.args.bits.now in
    let l : c.loop-k.k < length c.args.bits.now.words.items = omega (arith, c.args.bits.now.words.ok.0) in
    let e = get_or_read r.words.items _ _ l c.index.ensures 0 in (
      λ h. some_bit c.args.count r.words.items r.rest c.loop-k.k c.loop-k-test.true
          (subst (λ w. (i : ℕ) × (i < WORD) × (bit_at w i ≡ 1)) e (c.has_bit.ensures.some c.if-has_bit.true)),
      λ h. refl,
    )
