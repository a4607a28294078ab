-- The words of a line, cut off one after another.
use Rattle.std.proofs.Common.{◌≡◌, ◌≢◌, inl, inr, ⊎_elim, ℕ, ◌<◌, ◌≤◌, List, [], ◌∷◌, ◌++◌, length, get_or, map, refl}
use Rattle.std.proofs.Common.{sym, ◌∙◌, ap, subst, eqb, arith, append_assoc, length-append}
use Rattle.std.specs.Prelude.{◌↔◌, All, IsTrue}
use Rattle.std.proofs.lemmas.List.{map-append, append-nil}
use Rattle.std.proofs.lemmas.List.Elements.{All-nil, All-cons, All-head, All-tail}
use Rattle.std.proofs.lemmas.Bool.Decides.{Decides-eqb}
use Rattle.ts_base.specs.declared.TheConstants.{LONGEST_LEXEME}
use Rattle.ts_base.specs.Bytes.{IsBlank, BeginsWithout}
use Rattle.ts_base.specs.Words.{BeginsWithWord, AreWords}
use Rattle.ts_base.proofs.Fronts.{same_front}
use Rattle.ts_thesaurus.specs.Lines.{IsPassed, AreFit}
use denote.Ref.{Bor}

abbrev pub texts : List (Bor (List ℕ)) → List (List ℕ)
texts words = map (λ (w : Bor (List ℕ)). w.now) words

-- the words so far, and those of what is left, are the words of the text
abbrev pub Cut : List ℕ → List (Bor (List ℕ)) → List ℕ → Type 0
Cut text words rest = (more : List (List ℕ)) → AreWords rest more → AreWords text (texts words ++ more)

pub cut_start : (text : List ℕ) → Cut text [] text
cut_start text more h = h

pub cut_more : (text : List ℕ) (words : List (Bor (List ℕ))) (rest behind : List ℕ) (w : Bor (List ℕ))
    → Cut text words rest → BeginsWithWord rest w.now behind → Cut text (words ++ w ∷ []) behind
cut_more text words rest behind w h b more k =
    subst (AreWords text) (sym (ap (λ z. z ++ more) (map-append (λ (w : Bor (List ℕ)). w.now) words (w ∷ []))
    ∙ append_assoc (texts words) (w.now ∷ []) more)) (h (w.now ∷ more) (behind, b, k))

pub cut_over : (text : List ℕ) (words : List (Bor (List ℕ))) (rest : List ℕ) → Cut text words rest → All IsBlank rest
    → AreWords text (texts words)
cut_over text words rest h k = subst (AreWords text) (append-nil (texts words)) (h [] k)

-- a word that is cut off leaves less
pub behind_shorter : (rest word behind : List ℕ) → BeginsWithWord rest word behind → length behind < length rest
behind_shorter rest word behind b =
    omega (arith, ap length b.text, length-append b.gap (word ++ behind), length-append word behind, b.is_word.some)

pub all_texts : (P : List ℕ → Type 0) (words : List (Bor (List ℕ))) → All (λ (w : Bor (List ℕ)). P w.now) words
    ↔ All P (texts words)
all_texts P [] = ((λ _. All-nil P), (λ _. All-nil (λ (w : Bor (List ℕ)). P w.now)))
all_texts P (w ∷ words) =
    let Q : Bor (List ℕ) → Type 0 = λ w. P w.now in
    let rest = all_texts P words in (
      (λ h. All-cons P w.now (texts words) (All-head Q w words h) (rest.0 (All-tail Q w words h))),
      (λ h. All-cons Q w words (All-head P w.now (texts words) h) (rest.1 (All-tail P w.now (texts words) h))),
    )

pub fit_texts : (words : List (Bor (List ℕ))) → words ≢ []
    → All (λ (w : Bor (List ℕ)). length w.now ≤ LONGEST_LEXEME) words ↔ AreFit (texts words)
fit_texts words some =
    let both = all_texts (λ w. length w ≤ LONGEST_LEXEME) words in
    ((λ h. record { some = filled words some; sized = both.0 h }), (λ h. both.1 h.sized))
  where
    filled : (words : List (Bor (List ℕ))) → words ≢ [] → texts words ≢ []
    filled [] s e = s refl
    filled (w ∷ ws) s e = cc

-- what is after the blanks of a line says whether the line is passed
pub passed_empty : (line gap rest : List ℕ) → All IsBlank gap → line ≡ gap ++ rest → rest ≡ [] → IsPassed line
passed_empty line gap rest b e n = record { gap = gap; rest = rest; split = e; blank = b; over = inl n }

hash_no_blank : (c : ℕ) → c ≡ 35 → ¬ IsBlank c
hash_no_blank c e b = grind arith

pub passed_hash : (line gap rest : List ℕ) → All IsBlank gap → line ≡ gap ++ rest → BeginsWithout IsBlank rest
    → rest ≢ [] → IsTrue (eqb (get_or rest 0 0) 35) ↔ IsPassed line
passed_hash line gap [] b e w ne = absurd (ne refl)
passed_hash line gap (c ∷ rest) b e w ne = (
  (λ t. let same : c ≡ 35 = (Decides-eqb c 35).0 t in
      record { gap = gap; rest = c ∷ rest; split = e; blank = b; over = inr (rest, ap (λ z. z ∷ rest) same) }),
  (λ p. ⊎_elim (λ n. absurd (no_end p n)) (λ h. (Decides-eqb c 35).1 (hashed p h)) p.over),
)
  where
    no_end : (p : IsPassed line) → p.rest ≡ [] → ⊥
    no_end p n =
        let both = same_front IsBlank gap p.gap (c ∷ rest) p.rest b p.blank w (subst (BeginsWithout IsBlank) (sym n) tt)
        (sym e ∙ p.split) in
        let x : c ∷ rest ≡ [] = both.1 ∙ n in
        cc

    hashed : (p : IsPassed line) → ((more : List ℕ) × (p.rest ≡ 35 ∷ more)) → c ≡ 35
    hashed p (more, h) =
        let hash : ¬ IsBlank 35 = hash_no_blank 35 refl in
        let both = same_front IsBlank gap p.gap (c ∷ rest) p.rest b p.blank w
        (subst (BeginsWithout IsBlank) (sym h) hash) (sym e ∙ p.split) in
        let x : c ∷ rest ≡ 35 ∷ more = both.1 ∙ h in
        cc
