-- The lines at the front of a text.
use Rattle.std.proofs.Common.{◌≡◌, ◌≢◌, ℕ, ◌<◌, Bool, false, if◌then◌else◌, ◌==◌, List, [], ◌∷◌, ◌++◌, length}
use Rattle.std.proofs.Common.{append_assoc, arith, refl, sym, ◌∙◌, ap, subst}
use Rattle.std.specs.List.{slice_split}
use Rattle.std.specs.Str.Lines.{lines, lines_of_parts, strip_carriage_return}
use Rattle.std.proofs.lemmas.List.{append-nil}
use Rattle.std.proofs.lemmas.List.Splits.{slice_split_at, slice_split_none, length-slice_split}
use Rattle.std.proofs.lemmas.List.Elements.{All-weaker}
use Rattle.std.proofs.lemmas.Bool.{ne_eqb}
use Rattle.shell_script.specs.Lines.{HasNo}

-- the first of the lines
pub first_line : (rest line more : List ℕ) → rest ≡ line ++ 10 ∷ more → HasNo 10 line
    → lines rest ≡ strip_carriage_return line ∷ lines more
first_line rest line more e free =
    let split : slice_split (λ b. b == 10) rest ≡ line ∷ slice_split (λ b. b == 10) more =
    ap (slice_split (λ b. b == 10)) e ∙ slice_split_at (λ b. b == 10) line 10 more
    (All-weaker (λ (b : ℕ). b ≢ 10) (λ b. (b == 10) ≡ false) (λ b ne. ne_eqb b 10 ne) line free) refl in
    ap lines_of_parts split
    ∙ more_parts line (slice_split (λ b. b == 10) more) (omega (arith, length-slice_split (λ b. b == 10) more))
  where
    more_parts : (x : List ℕ) (parts : List (List ℕ)) → 0 < length parts
        → lines_of_parts (x ∷ parts) ≡ strip_carriage_return x ∷ lines_of_parts parts
    more_parts x [] h = absurd (omega arith)
    more_parts x (y ∷ ys) h = refl

-- the last line needs no line end
pub only_line : (rest : List ℕ) → HasNo 10 rest → 0 < length rest → lines rest ≡ rest ∷ []
only_line rest free some =
    let one : List (List ℕ) = rest ∷ [] in
    let pick : Bool → List (List ℕ) = λ b. if b then [] else one in
    ap lines_of_parts (slice_split_none (λ b. b == 10) rest
    (All-weaker (λ (b : ℕ). b ≢ 10) (λ b. (b == 10) ≡ false) (λ b ne. ne_eqb b 10 ne) rest free))
    ∙ ap pick (ne_eqb (length rest) 0 (λ e. omega (arith, some)))

-- whole lines, each with its end
pub data IsRows : List ℕ → List (List ℕ) → Type 0 where
  no_rows : IsRows [] []
  more_rows : (line text : List ℕ) (ls : List (List ℕ)) → HasNo 10 line → IsRows text ls
      → IsRows (line ++ 10 ∷ text) (strip_carriage_return line ∷ ls)

pub rows_then : (text : List ℕ) (ls : List (List ℕ)) → IsRows text ls → (rest : List ℕ)
    → lines (text ++ rest) ≡ ls ++ lines rest
rows_then [] [] no_rows rest = refl
rows_then text ls (more_rows line more ms free rows) rest =
    first_line ((line ++ 10 ∷ more) ++ rest) line (more ++ rest) (append_assoc line (10 ∷ more) rest) free
    ∙ ap (λ z. strip_carriage_return line ∷ z) (rows_then more ms rows rest)

pub rows_alone : (text : List ℕ) (ls : List (List ℕ)) → IsRows text ls → lines text ≡ ls
rows_alone text ls rows = ap lines (sym (append-nil text)) ∙ rows_then text ls rows [] ∙ append-nil ls

pub rows_push : (text : List ℕ) (ls : List (List ℕ)) (line : List ℕ) → IsRows text ls → HasNo 10 line
    → IsRows (text ++ (line ++ 10 ∷ [])) (ls ++ strip_carriage_return line ∷ [])
rows_push [] [] line no_rows free = more_rows line [] [] free no_rows
rows_push text ls line (more_rows first more ms ahead rows) free =
    subst (λ z. IsRows z (strip_carriage_return first ∷ (ms ++ strip_carriage_return line ∷ [])))
    (sym (append_assoc first (10 ∷ more) (line ++ 10 ∷ [])))
    (more_rows first (more ++ (line ++ 10 ∷ [])) (ms ++ strip_carriage_return line ∷ []) ahead
    (rows_push more ms line rows free))
