-- A source gives its next piece.
use Rattle.std.proofs.Common.{◌≡◌, ℕ, ◌+◌, ◌-◌, ◌≤◌, List, ◌++◌, length, take, drop, sym, ap, ◌∙◌, arith, length-drop}
use Rattle.std.proofs.Common.{take-append-drop}
use Rattle.std.proofs.lemmas.List.{take_at, drop-drop, length-take-le, take_all}

pub piece_taken : (bytes buf copied : List ℕ) (place n m : ℕ) → copied ≡ take n (take m (drop place bytes))
    → m ≡ length bytes - place → n ≤ m → drop place bytes ≡ take n (copied ++ drop n buf) ++ drop (place + n) bytes
piece_taken bytes buf copied place n m is all le =
    let rest : List ℕ = drop place bytes in
    let whole : take m rest ≡ rest = take_all m rest (omega (arith, length-drop place bytes)) in
    let first : copied ≡ take n rest = is ∙ ap (take n) whole in
    let long : n ≤ length rest = omega (arith, length-drop place bytes) in
    let front : take n (copied ++ drop n buf) ≡ copied =
    take_at copied (drop n buf) n (ap length first ∙ length-take-le n rest long) in
    sym (take-append-drop n rest) ∙ ap (λ (l : List ℕ). l ++ drop n rest) (sym (front ∙ first))
    ∙ ap (λ (l : List ℕ). take n (copied ++ drop n buf) ++ l) (drop-drop n place bytes)
