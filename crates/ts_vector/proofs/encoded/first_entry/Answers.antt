use Rattle.std.proofs.Common.{◌≡◌, ◌*◌, length, ◌∙◌, ap, arith}
use Rattle.ts_vector.proofs.Told.{whole_of, places_within, places_are, entry_is, entry_valid}
use Rattle.ts_vector.proofs.encoded.first_entry.Goals as goal

pub split_at-requires-2 : goal.split_at-requires-2
split_at-requires-2 c =
    let e = c.requires.0 in
    let n = c.first_number-length.result.0 in
    let r = c.first_number-length.result.1.now in
    let l = c.split_at.result.0.now in
    let s = c.split_at.result.1.now in
    let whole = whole_of c.from.result r l s c.split_at.ensures.front c.split_at.ensures.back in
    let len : length l ≡ n = c.split_at.ensures.front_len ∙ c.from.ensures in
    let m = c.first_number-count.result.0 in
    let t = c.first_number-count.result.1.now in
    omega (
      arith,
      c.from-2.ensures,
      places_within e c.requires.1 c.args.bytes.now c.requires.2 n r c.first_number-length.ensures.value
          c.first_number-length.ensures.fits l s whole len m t c.first_number-count.ensures.value
          c.first_number-count.ensures.fits,
    )

pub returns : goal.returns
returns c = λ e rest is.
    let n = c.first_number-length.result.0 in
    let r = c.first_number-length.result.1.now in
    let l = c.split_at.result.0.now in
    let s = c.split_at.result.1.now in
    let whole = whole_of c.from.result r l s c.split_at.ensures.front c.split_at.ensures.back in
    let len : length l ≡ n = c.split_at.ensures.front_len ∙ c.from.ensures in
    let m = c.first_number-count.result.0 in
    let t = c.first_number-count.result.1.now in
    let ps = c.split_at-2.result.0.now in
    let u = c.split_at-2.result.1.now in
    let count : length ps ≡ 2 * m = c.split_at-2.ensures.front_len ∙ ap (λ k. 2 * k) c.from-2.ensures in
    let split = whole_of (2 * c.from-2.result) t ps u c.split_at-2.ensures.front c.split_at-2.ensures.back in
    let entry =
    entry_is e rest c.args.bytes.now is n r c.first_number-length.ensures.value c.first_number-length.ensures.fits l
    s whole len m t c.first_number-count.ensures.value c.first_number-count.ensures.fits ps u split count in
    let places =
    places_are e rest c.args.bytes.now is n r c.first_number-length.ensures.value c.first_number-length.ensures.fits
    l s whole len m t c.first_number-count.ensures.value c.first_number-count.ensures.fits ps u split count in
    (rw c.from_utf8_unchecked-lexeme.ensures entry, places.1)

pub invariant_of-result : goal.invariant_of-result
invariant_of-result c =
    let e = c.requires.0 in
    let rest = c.requires.1 in
    let is = c.requires.2 in
    let n = c.first_number-length.result.0 in
    let r = c.first_number-length.result.1.now in
    let l = c.split_at.result.0.now in
    let s = c.split_at.result.1.now in
    let whole = whole_of c.from.result r l s c.split_at.ensures.front c.split_at.ensures.back in
    let len : length l ≡ n = c.split_at.ensures.front_len ∙ c.from.ensures in
    let m = c.first_number-count.result.0 in
    let t = c.first_number-count.result.1.now in
    let ps = c.split_at-2.result.0.now in
    let u = c.split_at-2.result.1.now in
    let count : length ps ≡ 2 * m = c.split_at-2.ensures.front_len ∙ ap (λ k. 2 * k) c.from-2.ensures in
    let split = whole_of (2 * c.from-2.result) t ps u c.split_at-2.ensures.front c.split_at-2.ensures.back in
    let entry =
    entry_is e rest c.args.bytes.now is n r c.first_number-length.ensures.value c.first_number-length.ensures.fits l
    s whole len m t c.first_number-count.ensures.value c.first_number-count.ensures.fits ps u split count in
    let places =
    places_are e rest c.args.bytes.now is n r c.first_number-length.ensures.value c.first_number-length.ensures.fits
    l s whole len m t c.first_number-count.ensures.value c.first_number-count.ensures.fits ps u split count in
    rw c.from_utf8_unchecked-lexeme.ensures (entry_valid e l ps is.valid entry places.0)
