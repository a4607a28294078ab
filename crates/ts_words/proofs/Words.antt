-- The first word of a line.
use Rattle.std.proofs.Common.{◌≡◌, ◌⊎◌, inl, inr, ℕ, ◌≤◌, List, length, sym, ◌∙◌, ap, arith}
use Rattle.std.specs.Prelude.{All, Contains, ◌↔◌}
use Rattle.ts_base.specs.Bytes.{IsBlank}
use Rattle.ts_base.specs.Words.{IsFirstWord, lower}
use Rattle.ts_base.proofs.LineWords.{first_word_is_one, no_first_word}
use Rattle.ts_words.specs.StopLists.{Stops, Adds}

-- a line of blanks has none
pub adds_nothing : (line : List ℕ) (words : List (List ℕ)) → All IsBlank line → Adds line words words
adds_nothing line words h = record {
  fit = λ (w, f, l). no_first_word line w h f;
  each = λ word. (λ c. inl c, λ o. back word o);
}
  where
    back : (word : List ℕ) → Contains words word ⊎ Stops word line → Contains words word
    back word (inl c) = c
    back word (inr s) = absurd (no_first_word line s.0 h s.1)

-- the stop word of a line is added
pub adds_word : (line first added : List ℕ) (old new : List (List ℕ)) → IsFirstWord line first → length first ≤ 2046
    → added ≡ lower first
    → ((w : List ℕ) → Contains new w ↔ (Contains old w ⊎ (w ≡ added))) → Adds line old new
adds_word line first added old new f l same h = record {
  fit = λ (w, g, k). omega (arith, l, k, ap length (first_word_is_one line w first g f));
  each = λ word. (λ c. ahead word ((h word).0 c), λ o. (h word).1 (back word o));
}
  where
    ahead : (word : List ℕ) → Contains old word ⊎ (word ≡ added) → Contains old word ⊎ Stops word line
    ahead word (inl c) = inl c
    ahead word (inr e) = inr (first, f, e ∙ same)

    back : (word : List ℕ) → Contains old word ⊎ Stops word line → Contains old word ⊎ (word ≡ added)
    back word (inl c) = inl c
    back word (inr s) = inr (s.2 ∙ ap lower (first_word_is_one line s.0 first s.1 f) ∙ sym same)
