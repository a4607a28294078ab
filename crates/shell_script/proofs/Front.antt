-- The first word of a line.
use Rattle.std.proofs.Common.{◌≡◌, ℕ, List, [], ◌∷◌, ◌++◌, arith, sym, ◌∙◌}
use Rattle.std.specs.List.{All}
use Rattle.std.proofs.lemmas.List.{append-nil}
use Rattle.std.proofs.lemmas.List.Elements.{All-head}
use Rattle.ts_base.specs.Bytes.{IsBlank, BeginsWithout}
use Rattle.ts_base.specs.Words.{IsWord, EndsWord, BeginsWithWord}
use Rattle.ts_base.proofs.Fronts.{same_front}
use Rattle.ts_base.proofs.LineWords.{IsDark}

pub stops_word : (rest : List ℕ) → EndsWord rest → BeginsWithout IsDark rest
stops_word [] h = tt
stops_word (b ∷ bs) h = λ k. k h

pub begins_word : (first rest : List ℕ) → IsWord first → BeginsWithout IsBlank (first ++ rest)
begins_word [] rest w = absurd (omega (arith, w.some))
begins_word (b ∷ bs) rest w = All-head IsDark b bs w.dark

-- a line has one first word, and one rest after it
pub one_first_word : (line v w r s : List ℕ) → BeginsWithWord line v r → BeginsWithWord line w s → (v ≡ w) × (r ≡ s)
one_first_word line v w r s h k =
    let gaps = same_front IsBlank h.gap k.gap (v ++ r) (w ++ s) h.blank k.blank (begins_word v r h.is_word)
    (begins_word w s k.is_word) (sym h.text ∙ k.text) in
    same_front IsDark v w r s h.is_word.dark k.is_word.dark (stops_word r h.ends) (stops_word s k.ends) gaps.1

-- a line of blanks alone has no word
pub no_first_word : (line : List ℕ) → All IsBlank line → (first rest : List ℕ) → BeginsWithWord line first rest → ⊥
no_first_word line blank first rest h =
    let same = same_front IsBlank line h.gap [] (first ++ rest) blank h.blank tt (begins_word first rest h.is_word)
    (append-nil line ∙ h.text) in
    none first rest h.is_word same.1
  where
    none : (a b : List ℕ) → IsWord a → [] ≡ a ++ b → ⊥
    none [] b w e = omega (arith, w.some)
    none (x ∷ a) b w e = cc
