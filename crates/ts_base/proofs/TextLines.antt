-- The lines of a text, one after another, as `lines` gives them.
use Rattle.std.proofs.Common.{◌≡◌, ℕ, ◌+◌, ◌≤◌, List, [], ◌∷◌, ◌++◌, length, refl, sym, ◌∙◌, ap, Bool, true, false}
use Rattle.std.proofs.Common.{cond, arith, append_assoc}
use Rattle.std.specs.Prelude.{Some, None, ◌==◌}
use Rattle.std.specs.List.{slice_split, onto_first}
use Rattle.std.specs.Iterator.{AlwaysYields}
use Rattle.std.specs.Str.Iter.{lines_steps, lines_rest}
use Rattle.std.specs.Str.Lines.{lines, lines_of_parts}
use Rattle.std.specs.declared.str.Lines.{Lines}
use Rattle.std.proofs.lemmas.List.{append-nil}
use Rattle.std.proofs.lemmas.Iterator.Splits.{YieldsList-from_lines}
use denote.Ref.{Bor}

-- the lines that were given are the first of the text, and the others are left
pub record LinesDone (text : List ℕ) (done : List (List ℕ)) (s : Lines) : Type 0 where
  pub left : List (List ℕ)
  pub whole : lines text ≡ done ++ left
  pub gives : AlwaysYields lines_steps (λ x. x.now) s left

pub lines_start : (text : List ℕ) (s : Lines) → lines_rest s ≡ text → LinesDone text [] s
lines_start text s e = record { left = lines text; whole = refl; gives = (YieldsList-from_lines text e).runs }

-- a line is given
pub record LineGiven (text : List ℕ) (done : List (List ℕ)) (x : List ℕ) (t : Lines) : Type 0 where
  pub more : List (List ℕ)
  pub whole : lines text ≡ done ++ x ∷ more
  pub then : LinesDone text (done ++ x ∷ []) t

given : (text : List ℕ) (done left : List (List ℕ)) (s t : Lines) (x : Bor (List ℕ)) → lines text ≡ done ++ left
    → AlwaysYields lines_steps (λ x. x.now) s left → lines_steps s (Some x) t → LineGiven text done x.now t
given text done [] s t x e h k = absurd (h x t k)
given text done (y ∷ ys) s t x e h k =
    let r = h.1 x t k in
    let whole : lines text ≡ done ++ x.now ∷ ys = e ∙ ap (λ z. done ++ z ∷ ys) (sym r.0) in
    record {
      more = ys;
      whole = whole;
      then = record { left = ys; whole = whole ∙ sym (append_assoc done (x.now ∷ []) ys); gives = r.1 };
    }

pub line_given : (text : List ℕ) (done : List (List ℕ)) (s t : Lines) (x : Bor (List ℕ)) → LinesDone text done s
    → lines_steps s (Some x) t → LineGiven text done x.now t
line_given text done s t x d k = given text done d.left s t x d.whole d.gives k

none_left : (text : List ℕ) (done left : List (List ℕ)) (s t : Lines) → lines text ≡ done ++ left
    → AlwaysYields lines_steps (λ x. x.now) s left → lines_steps s None t → lines text ≡ done
none_left text done [] s t e h k = e ∙ append-nil done
none_left text done (y ∷ ys) s t e h k = absurd (h.0 t k)

pub lines_over : (text : List ℕ) (done : List (List ℕ)) (s t : Lines) → LinesDone text done s → lines_steps s None t
    → lines text ≡ done
lines_over text done s t d k = none_left text done d.left s t d.whole d.gives k

-- ── how many ──
parts_more : (c : ℕ) (ps : List (List ℕ)) → length (lines_of_parts (onto_first c ps)) ≤ length (lines_of_parts ps) + 1
parts_more c [] = omega arith
parts_more c (y ∷ []) = grind arith
parts_more c (y ∷ z ∷ ps) = omega arith

few_more : (c : ℕ) (u : List ℕ) (b : Bool) → length (lines_of_parts
    (cond b ([] ∷ slice_split (λ x. x == 10) u) (onto_first c (slice_split (λ x. x == 10) u)))) ≤ length (lines u) + 1
few_more c u true = by (slice_split (λ x. x == 10) u)
  where
    by : (ps : List (List ℕ)) → length (lines_of_parts ([] ∷ ps)) ≤ length (lines_of_parts ps) + 1
    by [] = omega arith
    by (y ∷ ps) = omega arith
few_more c u false = parts_more c (slice_split (λ x. x == 10) u)

-- a text has no more lines than bytes
pub lines_few : (text : List ℕ) → length (lines text) ≤ length text
lines_few [] = omega arith
lines_few (c ∷ u) = omega (arith, few_more c u (c == 10), lines_few u)
