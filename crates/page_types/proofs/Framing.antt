-- Zeros, and bytes that are written over them from left to right.
use Rattle.std.proofs.Common.{◌≡◌, ℕ, ◌+◌, ◌-◌, ◌≤◌, List, [], ◌++◌, length, take, drop, replicate, refl, sym, ap, ◌∙◌}
use Rattle.std.proofs.Common.{append_assoc, arith}
use Rattle.std.proofs.lemmas.List.{drop_at, take_at, drop-drop, take-take, drop-take, length-append, length-replicate}
use Rattle.std.proofs.lemmas.List.{drop-replicate, replicate-append-replicate}
use Rattle.byteorder.specs.Numbers.{length-bytes_low_first}
use Rattle.page_types.specs.Numbers.{u16_bytes, u32_bytes, u64_bytes, zeros}
use Rattle.page_types.specs.Encoding.{framed}
use Rattle.page_types.specs.Writing.{overwritten}
use Rattle.page_types.specs.Edits.{edited, spliced, used_in, body_in}
use Rattle.page_types.specs.declared.record.Edit.TheVariants.{Delta}
use Rattle.byteorder.specs.Endian.{little_bytes}

pub length-u16_bytes : (n : ℕ) → length (u16_bytes n) ≡ 2
unfolding u16_bytes
length-u16_bytes n = length-bytes_low_first 0 2 n

pub length-u32_bytes : (n : ℕ) → length (u32_bytes n) ≡ 4
unfolding u32_bytes
length-u32_bytes n = length-bytes_low_first 0 4 n

pub length-u64_bytes : (n : ℕ) → length (u64_bytes n) ≡ 8
unfolding u64_bytes
length-u64_bytes n = length-bytes_low_first 0 8 n

pub length-zeros : (n : ℕ) → length (zeros n) ≡ n
unfolding zeros
length-zeros n = length-replicate n 0

pub drop-zeros : (m n : ℕ) → drop m (zeros n) ≡ zeros (n - m)
unfolding zeros
drop-zeros m n = drop-replicate m n 0

pub zeros-add : (m n : ℕ) → zeros m ++ zeros n ≡ zeros (m + n)
unfolding zeros
zeros-add m n = replicate-append-replicate m n 0

-- bytes over the first of the zeros
pub overwritten-zeros : (front bytes : List ℕ) (at k : ℕ) → length front ≡ at
    → overwritten at bytes (front ++ zeros k) ≡ (front ++ bytes) ++ zeros (k - length bytes)
unfolding overwritten
overwritten-zeros front bytes at k is =
    let kept : take at (front ++ zeros k) ≡ front = take_at front (zeros k) at is in
    let left : drop (at + length bytes) (front ++ zeros k) ≡ zeros (k - length bytes) =
    sym (drop-drop (length bytes) at (front ++ zeros k)) ∙ ap (drop (length bytes)) (drop_at front (zeros k) at is)
    ∙ drop-zeros (length bytes) k in
    ap (λ (t : List ℕ). t ++ (bytes ++ drop (at + length bytes) (front ++ zeros k))) kept
    ∙ ap (λ (t : List ℕ). front ++ (bytes ++ t)) left ∙ sym (append_assoc front bytes (zeros (k - length bytes)))

-- the same, where some zeros are passed over first
pub overwritten-later : (front bytes : List ℕ) (gap at k : ℕ) → length front + gap ≡ at
    → overwritten at bytes (front ++ zeros (gap + k)) ≡ ((front ++ zeros gap) ++ bytes) ++ zeros (k - length bytes)
overwritten-later front bytes gap at k is =
    let split : front ++ zeros (gap + k) ≡ (front ++ zeros gap) ++ zeros k =
    ap (λ (t : List ℕ). front ++ t) (sym (zeros-add gap k)) ∙ sym (append_assoc front (zeros gap) (zeros k)) in
    ap (overwritten at bytes) split ∙ overwritten-zeros (front ++ zeros gap) bytes at k
    (omega (arith, length-append front (zeros gap), length-zeros gap))

-- what a page's writes leave, one after another
pub record Written (front stamp used before new behind : List ℕ) (o0 o1 o2 o3 o4 o5 o6 : List ℕ) : Type 0 where
  pub front_size : length front ≡ 8
  pub stamp_size : length stamp ≡ 8
  pub used_size : length used ≡ 2
  pub start : o0 ≡ zeros 8192
  pub first : o1 ≡ overwritten 0 front o0
  pub second : o2 ≡ overwritten 8 stamp o1
  pub third : o3 ≡ overwritten 16 used o2
  pub fourth : o4 ≡ overwritten 24 before o3
  pub fifth : o5 ≡ overwritten (24 + length before) new o4
  pub sixth : o6 ≡ overwritten (24 + length before + length new) behind o5

pub regrouped : (a b c d e f g z : List ℕ)
    → ((((((a ++ b) ++ c) ++ d) ++ e) ++ f) ++ g) ++ z ≡ a ++ (b ++ (c ++ (d ++ ((e ++ (f ++ g)) ++ z))))
regrouped a b c d e f g z = simp append_assoc

pub written : (front stamp used before new behind o0 o1 o2 o3 o4 o5 o6 : List ℕ)
    → Written front stamp used before new behind o0 o1 o2 o3 o4 o5 o6 → o6 ≡ front ++ (stamp
    ++ (used ++ (zeros 6 ++ ((before ++ (new ++ behind)) ++ zeros (8168 - length (before ++ (new ++ behind)))))))
written front stamp used before new behind o0 o1 o2 o3 o4 o5 o6 w =
    let e1 : o1 ≡ front ++ zeros 8184 = w.first ∙ ap (overwritten 0 front) w.start
    ∙ overwritten-zeros [] front 0 8192 refl ∙ ap (λ n. front ++ zeros n) (omega (arith, w.front_size)) in
    let e2 : o2 ≡ (front ++ stamp) ++ zeros 8176 = w.second ∙ ap (overwritten 8 stamp) e1 ∙ overwritten-zeros front
    stamp 8 8184 w.front_size ∙ ap (λ n. (front ++ stamp) ++ zeros n) (omega (arith, w.stamp_size)) in
    let s2 : length (front ++ stamp) ≡ 16 = omega (arith, length-append front stamp, w.front_size, w.stamp_size) in
    let e3 : o3 ≡ ((front ++ stamp) ++ used) ++ zeros (6 + 8168) =
    w.third ∙ ap (overwritten 16 used) e2 ∙ overwritten-zeros (front ++ stamp) used 16 8176 s2
    ∙ ap (λ n. ((front ++ stamp) ++ used) ++ zeros n) (omega (arith, w.used_size)) in
    let p3 : List ℕ = (front ++ stamp) ++ used in
    let s3 : length ((front ++ stamp) ++ used) ≡ 18 =
    omega (arith, length-append (front ++ stamp) used, s2, w.used_size) in
    let p4 : List ℕ = ((front ++ stamp) ++ used) ++ zeros 6 in
    let s4 : length (((front ++ stamp) ++ used) ++ zeros 6) ≡ 24 =
    omega (arith, length-append ((front ++ stamp) ++ used) (zeros 6), s3, length-zeros 6) in
    let e4 : o4 ≡ ((((front ++ stamp) ++ used) ++ zeros 6) ++ before) ++ zeros (8168 - length before) =
    w.fourth ∙ ap (overwritten 24 before) e3
    ∙ overwritten-later ((front ++ stamp) ++ used) before 6 24 8168 (omega (arith, s3)) in
    let s5 : length ((((front ++ stamp) ++ used) ++ zeros 6) ++ before) ≡ 24 + length before =
    omega (arith, length-append (((front ++ stamp) ++ used) ++ zeros 6) before, s4) in
    let e5 : o5 ≡ (((((front ++ stamp) ++ used) ++ zeros 6) ++ before) ++ new) ++ zeros
    (8168 - length before - length new) = w.fifth ∙ ap (overwritten (24 + length before) new) e4 ∙ overwritten-zeros
    ((((front ++ stamp) ++ used) ++ zeros 6) ++ before) new (24 + length before) (8168 - length before) s5 in
    let s6 : length (((((front ++ stamp) ++ used) ++ zeros 6) ++ before) ++ new) ≡ 24 + length before + length new =
    omega (arith, length-append ((((front ++ stamp) ++ used) ++ zeros 6) ++ before) new, s5) in
    let e6 = w.sixth ∙ ap (overwritten (24 + length before + length new) behind) e5
    ∙ overwritten-zeros (((((front ++ stamp) ++ used) ++ zeros 6) ++ before) ++ new) behind
    (24 + length before + length new) (8168 - length before - length new) s6 in
    let left : 8168 - length before - length new - length behind ≡ 8168 - length (before ++ (new ++ behind)) =
    omega (arith, length-append before (new ++ behind), length-append new behind) in
    e6 ∙ ap (λ n. ((((((front ++ stamp) ++ used) ++ zeros 6) ++ before) ++ new) ++ behind) ++ zeros n) left
    ∙ regrouped front stamp used (zeros 6) before new behind (zeros (8168 - length (before ++ (new ++ behind))))

-- the part of a body before a place, of a list that holds more than the body
pub part_before : (old : List ℕ) (used start : ℕ) → start ≤ used
    → take start (drop 24 old) ≡ take start (take used (drop 24 old))
part_before old used start le = sym (take-take start used (drop 24 old) le)

-- the part after it
pub part_behind : (old : List ℕ) (used at : ℕ) → at ≤ used
    → take (used - at) (drop (24 + at) old) ≡ drop at (take used (drop 24 old))
part_behind old used at le =
    let sum : at + (used - at) ≡ used = omega arith in
    ap (take (used - at)) (sym (drop-drop at 24 old)) ∙ sym (drop-take at (used - at) (drop 24 old))
    ∙ ap (λ n. drop at (take n (drop 24 old))) sum

-- what a write over a part of a slice leaves
pub put_over : (at k : ℕ) (out ys bytes : List ℕ) → k ≡ length bytes → ys ≡ bytes
    → take at out ++ (ys ++ drop k (drop at out)) ≡ overwritten at bytes out
unfolding overwritten
put_over at k out ys bytes is same =
    let P : List ℕ → List ℕ → List ℕ = λ y t. take at out ++ (y ++ t) in
    ap (λ y. P y (drop k (drop at out))) same ∙ ap (P bytes) (drop-drop k at out ∙ ap (λ n. drop (at + n) out) is)

pub zeros_are : (m n : ℕ) (out : List ℕ) → out ≡ replicate m 0 → m ≡ n → out ≡ zeros n
unfolding zeros
zeros_are m n out e is = e ∙ ap (λ k. replicate k 0) is

pub stamp_is : (bytes : List ℕ) (n : ℕ) → bytes ≡ little_bytes 8 n → bytes ≡ u64_bytes n
unfolding u64_bytes
stamp_is bytes n e = e

pub size_is : (bytes : List ℕ) (m n : ℕ) → bytes ≡ little_bytes 2 m → m ≡ n → bytes ≡ u16_bytes n
unfolding u16_bytes
size_is bytes m n e is = e ∙ ap (little_bytes 2) is

-- what the writes of a page leave is that page
pub page_written : (front stamp used before new behind o0 o1 o2 o3 o4 o5 o6 : List ℕ) (number : ℕ)
    → Written front stamp used before new behind o0 o1 o2 o3 o4 o5 o6
    → stamp ≡ u64_bytes number → used ≡ u16_bytes (length (before ++ (new ++ behind)))
    → o6 ≡ framed front number (before ++ (new ++ behind))
unfolding framed
page_written front stamp used before new behind o0 o1 o2 o3 o4 o5 o6 number w s u =
    let tail : List ℕ = zeros 6 ++ ((before ++ (new ++ behind)) ++ zeros (8168 - length (before ++ (new ++ behind)))) in
    let P : List ℕ → List ℕ → List ℕ = λ a b. front ++ (a
    ++ (b ++ (zeros 6 ++ ((before ++ (new ++ behind)) ++ zeros (8168 - length (before ++ (new ++ behind))))))) in
    written front stamp used before new behind o0 o1 o2 o3 o4 o5 o6 w ∙ ap (λ a. P a used) s
    ∙ ap (P (u64_bytes number)) u

-- a delta's page, by the parts of the old bytes
pub delta_put : (front new old out : List ℕ) (number start cut used : ℕ) → start + cut ≤ used
    → out ≡ framed front number (take (24 + start - 24) (drop 24 old)
    ++ (new ++ take (24 + used - (24 + start + cut)) (drop (24 + start + cut) old)))
    → out ≡ framed front number (spliced start cut new (take used (drop 24 old)))
delta_put front new old out number start cut used le e =
    let n1 : 24 + start - 24 ≡ start = omega arith in
    let n2 : 24 + used - (24 + start + cut) ≡ used - (start + cut) = omega arith in
    let n3 : 24 + start + cut ≡ 24 + (start + cut) = omega arith in
    let before : take (24 + start - 24) (drop 24 old) ≡ take start (take used (drop 24 old)) =
    ap (λ n. take n (drop 24 old)) n1 ∙ part_before old used start (omega arith) in
    let behind : take (24 + used - (24 + start + cut)) (drop (24 + start + cut) old)
    ≡ drop (start + cut) (take used (drop 24 old)) =
    ap (λ n. take n (drop (24 + start + cut) old)) n2 ∙ ap (λ n. take (used - (start + cut)) (drop n old)) n3
    ∙ part_behind old used (start + cut) le in
    let P : List ℕ → List ℕ → List ℕ = λ a b. framed front number (a ++ (new ++ b)) in
    e ∙ ap (λ a. P a (take (24 + used - (24 + start + cut)) (drop (24 + start + cut) old))) before
    ∙ ap (P (take start (take used (drop 24 old)))) behind

pub delta_done : (front new slice old out : List ℕ) (number start cut used start' cut' : ℕ) → start' ≡ start
    → cut' ≡ cut → used ≡ used_in old → slice ≡ new
    → out ≡ framed front number (spliced start' cut' slice (take used (drop 24 old)))
    → out ≡ edited number (Delta front start cut new) old
unfolding edited body_in
delta_done front new slice old out number start cut used start' cut' s c u n e = cc
