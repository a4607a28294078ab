-- What a line of synonyms gives: one thing at most.
use Rattle.std.proofs.Common.{◌≡◌, ℕ, List, [], ◌∷◌, ◌++◌, Bool, true, false, refl, sym, ◌∙◌, ap, subst}
use Rattle.std.specs.Prelude.{All}
use Rattle.ts_base.specs.declared.Found.{Found}
use Rattle.ts_base.specs.Bytes.{IsBlank}
use Rattle.ts_base.specs.Words.{BeginsWithWord}
use Rattle.ts_base.proofs.LineWords.{one_word, no_first_word}
use Rattle.ts_synonym.specs.Synonyms.{cased, HasTwoWords, IsMarked, GivesFor, IsBadPair, IsBadLine}

-- a line has one pair of first words
pub one_pair : (line w r v s : List ℕ) → HasTwoWords line w r → HasTwoWords line v s → (w ≡ v) × (r ≡ s)
one_pair line w r v s h k =
    let firsts = one_word line w v h.behind k.behind h.first k.first in
    let seconds =
    one_word k.behind r s h.rest k.rest (subst (λ z. BeginsWithWord z r h.rest) firsts.1 h.second) k.second in
    (firsts.0, seconds.0)

-- after a first word there are only blanks, so there is no second
pub no_second : (line word behind : List ℕ) → BeginsWithWord line word behind → All IsBlank behind → (w r : List ℕ)
    → ¬ HasTwoWords line w r
no_second line word behind b h w r t =
    let firsts = one_word line word w behind t.behind b t.first in
    no_first_word t.behind r (subst (All IsBlank) firsts.1 h) (t.rest, t.second)

-- nor is there one in a line of blanks
pub no_first : (line : List ℕ) → All IsBlank line → (w r : List ℕ) → ¬ HasTwoWords line w r
no_first line h w r t = no_first_word line w h (t.behind, t.first)

same_front : (a b : List ℕ) → a ++ 42 ∷ [] ≡ b ++ 42 ∷ [] → a ≡ b
same_front [] [] e = refl
same_front [] (c ∷ []) e = cc
same_front [] (c ∷ d ∷ b) e = cc
same_front (c ∷ []) [] e = cc
same_front (c ∷ d ∷ a) [] e = cc
same_front (c ∷ a) (d ∷ b) e =
    let tails : a ++ 42 ∷ [] ≡ b ++ 42 ∷ [] = cc in
    let heads : c ≡ d = cc in
    let rest = same_front a b tails in
    cc

-- a replacement is read in one way
pub one_mark : (r s t : List ℕ) (p q : Bool) → IsMarked r s p → IsMarked r t q → (s ≡ t) × (p ≡ q)
one_mark r s t true true h k = (same_front s t (sym h ∙ k), refl)
one_mark r s t true false h k = absurd (k.1 s h)
one_mark r s t false true h k = absurd (h.1 t k)
one_mark r s t false false h k = (sym h.0 ∙ k.0, refl)

-- the words that a line gives something for are one
pub one_given_word : (sensitive : Bool) (line v w : List ℕ) (f g : Found) → GivesFor sensitive line v f
    → GivesFor sensitive line w g → v ≡ w
one_given_word sensitive line v w f g h k =
    let words = one_pair line h.written h.replacement k.written k.replacement h.words k.words in
    h.word_cased ∙ ap (cased sensitive) words.0 ∙ sym k.word_cased

-- what a line gives is one
pub one_given : (sensitive : Bool) (line v w : List ℕ) (f g : Found) → GivesFor sensitive line v f
    → GivesFor sensitive line w g → f ≡ g
one_given sensitive line v w f g h k =
    let words = one_pair line h.written h.replacement k.written k.replacement h.words k.words in
    let marks = one_mark k.replacement h.text k.text f.prefix g.prefix
    (subst (λ z. IsMarked z h.text f.prefix) words.1 h.marked) k.marked in
    let lexeme : f.lexeme ≡ g.lexeme = h.lexeme_cased ∙ ap (cased sensitive) marks.0 ∙ sym k.lexeme_cased in
    let prefix : f.prefix ≡ g.prefix = marks.1 in
    λ i. record { lexeme = lexeme i; prefix = prefix i }

-- a line of these words is bad only by them
pub no_bad : (line w r : List ℕ) → HasTwoWords line w r → ¬ IsBadPair w r → ¬ IsBadLine line
no_bad line w r t ne b =
    let same = one_pair line b.word b.replacement w r b.words t in
    ne (subst (λ z. IsBadPair z r) same.0 (subst (IsBadPair b.word) same.1 b.why))

-- whatever a line of these words gives, it gives for the first of them
pub given_for_first : (sensitive : Bool) (line w r word : List ℕ) (found : Found) → HasTwoWords line w r
    → GivesFor sensitive line word found → word ≡ cased sensitive w
given_for_first sensitive line w r word found t g =
    let same = one_pair line g.written g.replacement w r g.words t in
    g.word_cased ∙ ap (cased sensitive) same.0
