-- Bytes that are read or written in parts.
use Rattle.std.proofs.Common.{◌≡◌, ℕ, ◌+◌, ◌-◌, ◌≤◌, List, [], ◌∷◌, ◌++◌, length, take, drop, replicate, refl, sym, ◌∙◌}
use Rattle.std.proofs.Common.{ap, subst, arith, append_assoc, length-append, length-take-le}
use Rattle.std.proofs.Math.Seq.{take-add, take-append-add}
use Rattle.std.proofs.lemmas.List.{take-append-le, drop-drop, take_at, drop_at, append-nil, length-replicate}
use Rattle.disk_trait.specs.Files.{Files, file_bytes, padded, overwritten}
use Rattle.disk_trait.specs.Device.{FileWritten}
use Rattle.disk_trait.specs.declared.device.File.{File}
use Rattle.disk_file.specs.Folder.{HasPut}
use borrow.Rule.Slice.PartMut.{put_mid, post_of}

-- what was read, with a part after it
pub read_more : (got n k : ℕ) (buf part rest : List ℕ) → got ≤ length buf → n ≤ length part
    → take got buf ≡ take got rest → take n part ≡ take n (drop got rest)
    → take (got + n) (put_mid got k buf part) ≡ take (got + n) rest
read_more got n k buf part rest within in_part before is =
    ap (λ i. take (i + n) (take got buf ++ (part ++ post_of got k buf))) (sym (length-take-le got buf within))
    ∙ take-append-add (take got buf) (part ++ post_of got k buf) n
    ∙ ap (λ (l : List ℕ). take got buf ++ l) (take-append-le n part (post_of got k buf) in_part ∙ is)
    ∙ ap (λ (l : List ℕ). l ++ take n (drop got rest)) before ∙ sym (take-add got n rest)

pub within_more : (got n k : ℕ) (buf part : List ℕ) → got ≤ length buf → n ≤ length part
    → got + n ≤ length (put_mid got k buf part)
within_more got n k buf part within in_part =
    omega (
      arith,
      within,
      in_part,
      length-take-le got buf within,
      length-append (take got buf) (part ++ post_of got k buf),
      length-append part (post_of got k buf),
    )

length-padded : (at : ℕ) (old : List ℕ) → at ≤ length (padded at old)
length-padded at old =
    omega (arith, length-append old (replicate (at - length old) 0), length-replicate {A = ℕ} (at - length old) 0)

-- two writes, the second where the first ends
overwritten_then : (at : ℕ) (xs ys old : List ℕ)
    → overwritten (at + length xs) ys (overwritten at xs old) ≡ overwritten at (xs ++ ys) old
overwritten_then at xs ys old =
    let front : List ℕ = take at (padded at old) ++ xs in
    let behind : List ℕ = drop (at + length xs) old in
    let gap : List ℕ = replicate (at + length xs - length (front ++ behind)) 0 in
    let size : length (take at (padded at old) ++ xs) ≡ at + length xs =
    omega (arith, length-append (take at (padded at old)) xs, length-take-le at (padded at old) (length-padded at old))
    in
    let long : at + length xs ≤ length ((take at (padded at old) ++ xs) ++ drop (at + length xs) old) =
    omega (arith, size, length-append (take at (padded at old) ++ xs) (drop (at + length xs) old)) in
    let kept : take (at + length xs) ((front ++ behind) ++ gap) ≡ front =
    take-append-le (at + length xs) (front ++ behind) gap long ∙ take_at front behind (at + length xs) size in
    let left : drop (at + length xs + length ys) (front ++ behind) ≡ drop (at + length (xs ++ ys)) old =
    sym (drop-drop (length ys) (at + length xs) (front ++ behind))
    ∙ ap (drop (length ys)) (drop_at front behind (at + length xs) size)
    ∙ drop-drop (length ys) (at + length xs) old ∙ ap (λ n. drop n old) (omega (arith, length-append xs ys)) in
    ap (λ (l : List ℕ). l ++ ys ++ drop (at + length xs + length ys) (front ++ behind)) kept
    ∙ ap (λ (l : List ℕ). front ++ ys ++ l) left
    ∙ ap (λ (l : List ℕ). l ++ drop (at + length (xs ++ ys)) old) (append_assoc (take at (padded at old)) xs ys)

pub put_then : (f : File) (at : ℕ) (xs ys : List ℕ) (a b c : Files) → HasPut f at xs a b
    → HasPut f (at + length xs) ys b c → HasPut f at (xs ++ ys) a c
put_then f at [] ys a b c x y =
    let same : b ≡ a = x.none refl in
    let place : at + 0 ≡ at = omega arith in
    subst (λ (s : Files). HasPut f at ys s c) same (subst (λ i. HasPut f i ys b c) place y)
put_then f at (x1 ∷ xs) [] a b c x y =
    let same : c ≡ b = y.none refl in
    subst (λ (l : List ℕ). HasPut f at l a c) (sym (append-nil (x1 ∷ xs)))
    (subst (λ (s : Files). HasPut f at (x1 ∷ xs) a s) (sym same) x)
put_then f at (x1 ∷ xs) (y1 ∷ ys) a b c x y =
    let first : FileWritten f at (x1 ∷ xs) a b = x.some (omega arith) in
    let second : FileWritten f (at + length (x1 ∷ xs)) (y1 ∷ ys) b c = y.some (omega arith) in
    record {
      none = λ no. let never : ⊥ = omega (arith, no, length-append (x1 ∷ xs) (y1 ∷ ys)) in absurd never;
      some = λ _. record {
        written = second.written ∙ ap (overwritten (at + length (x1 ∷ xs)) (y1 ∷ ys)) first.written
            ∙ overwritten_then at (x1 ∷ xs) (y1 ∷ ys) (file_bytes f a);
        same = second.same ∙ first.same;
      };
    }

pub put_more : (f : File) (at put n : ℕ) (bytes part : List ℕ) (a b c : Files) → put ≤ length bytes
    → part ≡ drop put bytes → HasPut f at (take put bytes) a b
    → HasPut f (at + put) (take n part) b c → HasPut f at (take (put + n) bytes) a c
put_more f at put n bytes part a b c within is x y =
    let place : at + put ≡ at + length (take put bytes) = omega (arith, length-take-le put bytes within) in
    let rest : HasPut f (at + put) (take n (drop put bytes)) b c =
    subst (λ (l : List ℕ). HasPut f (at + put) (take n l) b c) is y in
    subst (λ (l : List ℕ). HasPut f at l a c) (sym (take-add put n bytes))
    (put_then f at (take put bytes) (take n (drop put bytes)) a b c x
    (subst (λ i. HasPut f i (take n (drop put bytes)) b c) place rest))
