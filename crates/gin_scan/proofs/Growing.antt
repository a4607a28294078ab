-- A walk along the pending list grows by a page that is read.
use Rattle.std.proofs.Common.{◌≡◌, ◌≢◌, ◌≤◌, ℕ, List, [], ◌∷◌, ◌++◌, length, refl, sym, ◌∙◌, arith}
use Rattle.core_state.specs.Log.{Log}
use Rattle.core_state.specs.Readings.{Read, WasShown, AreReads}
use Rattle.core_moments.specs.Walk.{rightward, Follows}
use Rattle.gin_scan.specs.Reading.{LeadOn}

-- a page that is read of the whole log comes behind what was read
pub reads_more : (R : Log) (from : ℕ) (xs : List Read) (x : Read) → AreReads R from xs → from ≤ x.length
    → x.length ≡ length R → WasShown R x → AreReads R from (xs ++ x ∷ [])
reads_more R from [] x rs a e shown = (a, omega (arith, e), shown, tt)
reads_more R from (y ∷ ys) x rs a e shown =
    (rs.0, rs.1, rs.2, reads_more R y.length ys x rs.3 (omega (arith, rs.1, e)) e shown)

-- reads from one length on are so from an earlier one on
pub reads_since : (R : Log) (a b : ℕ) (xs : List Read) → a ≤ b → AreReads R b xs → AreReads R a xs
reads_since R a b [] le rs = tt
reads_since R a b (x ∷ xs) le rs = (omega (arith, le, rs.0), rs.1, rs.2, rs.3)

-- the page that is next is read
pub lead_more : (p : ℕ) (xs : List Read) (q : ℕ) (x : Read) → LeadOn p xs q → q ≢ 0 → x.page ≡ q
    → LeadOn p (xs ++ x ∷ []) (rightward x.content)
lead_more p [] q x d off e = ((λ z. off (sym d ∙ z)), e ∙ sym d, refl)
lead_more p (y ∷ ys) q x d off e = (d.0, d.1, lead_more (rightward y.content) ys q x d.2 off e)

-- where none is next, all of the list was read
pub follows : (p : ℕ) (xs : List Read) → LeadOn p xs 0 → Follows rightward p xs
follows p [] d = d
follows p (x ∷ xs) d = (d.0, d.1, follows (rightward x.content) xs d.2)
