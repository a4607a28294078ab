-- A page that is read from the page file.
use Rattle.std.proofs.Common.{◌≡◌, ◌≤◌, ◌*◌, ◌-◌, ◌++◌, ℕ, List, length, take, drop, min, replicate, ap, ◌∙◌, arith}
use Rattle.std.proofs.lemmas.List.{take_min, take_all, take-take, take-append-le, length-take, length-drop}
use Rattle.page_types.specs.Numbers.{zeros}
use Rattle.buffer_frames.specs.Applied.{page_or_zeros}

pub page_read : (file buf : List ℕ) (p at n len : ℕ) → length buf ≡ 8192 → at ≡ p * 8192
    → n ≡ min (length buf) (length file - at) → take n buf ≡ take n (drop at file) → len ≡ min n (length buf)
    → take 8192 (take n buf) ++ replicate (8192 - len) 0 ≡ page_or_zeros file p
unfolding page_or_zeros zeros
page_read file buf p at n len full place much same rest =
    ap (λ (l : List ℕ). l ++ replicate (8192 - len) 0)
    (take_all 8192 (take n buf) (omega (arith, length-take n buf)) ∙ whole)
    ∙ ap (λ k. take 8192 (drop (p * 8192) file) ++ replicate k 0) (omega (arith, size, rest, much, full, place))
  where
    upto : n ≡ min 8192 (length (drop at file))
    upto = omega (arith, much, full, length-drop at file)

    whole : take n buf ≡ take 8192 (drop (p * 8192) file)
    whole =
        same ∙ ap (λ k. take k (drop at file)) upto ∙ take_min 8192 (drop at file)
        ∙ ap (λ k. take 8192 (drop k file)) place

    size : length (take 8192 (drop (p * 8192) file)) ≡ min 8192 (length file - p * 8192)
    size = length-take 8192 (drop (p * 8192) file) ∙ ap (min 8192) (length-drop (p * 8192) file)

-- what was read, in the buffer that was cut to it
pub cut_to : (buf t : List ℕ) (n len : ℕ) → n ≤ length buf → length buf ≡ len
    → take n (take len (buf ++ t)) ≡ take n buf
cut_to buf t n len within size = take-take n len (buf ++ t) (omega arith) ∙ take-append-le n buf t within
