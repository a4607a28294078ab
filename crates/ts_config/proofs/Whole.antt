-- A phrase has the tokens that the thesaurus sees, and ends with the last of them.
use Rattle.std.proofs.Common.{◌≡◌, ℕ, zero, suc, ◌-◌, ◌<◌, ◌≤◌, List, [], ◌∷◌, ◌++◌, Bool, true, false, cond, length}
use Rattle.std.proofs.Common.{take, refl, sym, ◌∙◌, ap, subst, arith}
use Rattle.std.specs.Prelude.{filter}
use Rattle.ts_parser.specs.declared.iter.Token.{Token}
use Rattle.ts_config.specs.Mappings.{Mapping}
use Rattle.ts_config.specs.Phrases.{is_asked, lists, seen, behind, PhrasesAreWhole}
use Rattle.ts_config.proofs.Seen.{lists_asked, seen_over, seen_ends, seen_takes, behind_over, behind_asked}

module _ (m : Mapping) (p : ℕ) where
  abbrev Whole : ℕ → List Token → Type 0
  Whole n ts = (front : List Token) × (ts ≡ front ++ behind m n ts) × (filter (is_asked m) front ≡ take n (seen m p ts))

  whole_over : (n : ℕ) (t : Token) (ts : List Token) → is_asked m t ≡ false → Whole (suc n) ts → Whole (suc n) (t ∷ ts)
  whole_over n t ts e (front, f, g) =
      let l : 0 < suc n = omega arith in (
        t ∷ front,
        ap (λ xs. t ∷ xs) (f ∙ ap (λ xs. front ++ xs) (sym (behind_over m (suc n) t ts l e))),
        ap (λ b. cond b (t ∷ filter (is_asked m) front) (filter (is_asked m) front)) e ∙ g
            ∙ ap (take (suc n)) (sym (seen_over m p t ts e)),
      )

  whole_takes : (n : ℕ) (t : Token) (ts : List Token) → lists m p t ≡ true → Whole n ts → Whole (suc n) (t ∷ ts)
  whole_takes n t ts e (front, f, g) =
      let l : 0 < suc n = omega arith in
      let one : suc n - 1 ≡ n = omega arith in
      let asked = lists_asked m p t e in
      let left : behind m (suc n) (t ∷ ts) ≡ behind m n ts =
      behind_asked m (suc n) t ts l asked ∙ ap (λ k. behind m k ts) one in (
        t ∷ front,
        ap (λ xs. t ∷ xs) (f ∙ ap (λ xs. front ++ xs) (sym left)),
        ap (λ b. cond b (t ∷ filter (is_asked m) front) (filter (is_asked m) front)) asked ∙ ap (λ xs. t ∷ xs) g
            ∙ ap (take (suc n)) (sym (seen_takes m p t ts e)),
      )

  whole : (n : ℕ) (ts : List Token) → n ≤ length (seen m p ts) → Whole n ts
  whole zero ts l = ([], refl, refl)
  whole (suc n) [] l = absurd (omega (arith, l))
  whole (suc n) (t ∷ ts) l = by (is_asked m t) (lists m p t) refl refl (λ k. whole (suc n) ts k) (λ k. whole n ts k)
    where
      by : (a b : Bool) → is_asked m t ≡ a → lists m p t ≡ b → (suc n ≤ length (seen m p ts) → Whole (suc n) ts)
          → (n ≤ length (seen m p ts) → Whole n ts) → Whole (suc n) (t ∷ ts)
      by false b e f over takes = whole_over n t ts e (over (subst (λ xs. suc n ≤ length xs) (seen_over m p t ts e) l))
      by true true e f over takes =
          let k : suc n ≤ length (t ∷ seen m p ts) = subst (λ xs. suc n ≤ length xs) (seen_takes m p t ts f) l in
          whole_takes n t ts f (takes (omega (arith, k)))
      by true false e f over takes =
          let k : suc n ≤ 0 = subst (λ xs. suc n ≤ length xs) (seen_ends m p t ts e f) l in
          absurd (omega (arith, k))

pub phrases_whole : PhrasesAreWhole
phrases_whole m p n ts l = whole m p n ts l
