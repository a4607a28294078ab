-- The names that are in a text.
use Rattle.std.proofs.Common.{◌≡◌, ◌⊎◌, inl, inr, ℕ, ◌<◌, if◌then◌else◌, List, [], ◌∷◌, ◌++◌, length, append_assoc, map}
use Rattle.std.proofs.Common.{arith, refl, sym, ◌∙◌, ap, subst}
use Rattle.std.specs.List.{All}
use Rattle.std.proofs.lemmas.List.{append-nil, map_push}
use Rattle.std.proofs.lemmas.List.Elements.{All-nil, All-head, All-tail, All-push}
use Rattle.ts_base.specs.Bytes.{IsBlank}
use Rattle.ts_base.specs.Words.{IsWord, EndsWord, BeginsWithWord}
use Rattle.ts_base.proofs.LineWords.{IsDark}
use Rattle.shell_script.specs.StepsOf.{word_of}
use Rattle.shell_script.specs.Tokens.{ScriptToken, word, IsSpelled}
use Rattle.shell_script.specs.OpeningLines.{IsName}
use Rattle.shell_script.specs.Inner.Fronts.{Fronts}
use Rattle.shell_script.specs.Inner.Parts.{words_from, words_in}
use Rattle.shell_script.proofs.Openings.{blank_true, dark_false, word_before}
use Rattle.shell_script.proofs.Spelling.{front_both, front_whole, no_blank_word}

skip_word : (w rest : List ℕ) → words_from (length w) (w ++ rest) ≡ words_from 0 rest
skip_word [] rest = refl
skip_word (b ∷ w) rest = skip_word w rest

words_at : (gap w rest : List ℕ) → All IsBlank gap → IsWord w → EndsWord rest
    → words_in (gap ++ (w ++ rest)) ≡ w ∷ words_in rest
words_at [] [] rest g k e = absurd (omega (arith, k.some))
words_at [] (b ∷ w) rest g k e =
    let before : word_of (w ++ rest) ≡ w = word_before w rest (All-tail IsDark b w k.dark) e in
    ap (λ x. if x then words_from 0 (w ++ rest) else (b ∷ word_of (w ++ rest)) ∷ words_from (length
    (word_of (w ++ rest))) (w ++ rest)) (dark_false b (All-head IsDark b w k.dark))
    ∙ ap (λ z. (b ∷ z) ∷ words_from (length z) (w ++ rest)) before
    ∙ ap (λ z. (b ∷ w) ∷ z) (skip_word w rest)
words_at (b ∷ gap) w rest g k e =
    let all : List ℕ = gap ++ (w ++ rest) in
    ap (λ x. if x then words_from 0 all else (b ∷ word_of all) ∷ words_from (length (word_of all)) all)
    (blank_true b (All-head IsBlank b gap g))
    ∙ words_at gap w rest (All-tail IsBlank b gap g) k e

-- the first of a text's words, and those after it
pub words_first : (text w rest : List ℕ) → BeginsWithWord text w rest → words_in text ≡ w ∷ words_in rest
words_first text w rest h = ap words_in h.text ∙ words_at h.gap w rest h.blank h.is_word h.ends

pub words_blank : (text : List ℕ) → All IsBlank text → words_in text ≡ []
words_blank [] h = refl
words_blank (b ∷ text) h =
    ap (λ x. if x then words_from 0 text else (b ∷ word_of text) ∷ words_from (length (word_of text)) text)
    (blank_true b (All-head IsBlank b text h))
    ∙ words_blank text (All-tail IsBlank b text h)

-- the names that were read so far
pub record NamesRead (text rest : List ℕ) : Type 0 where
  pub done : List (List ℕ)
  pub named : All IsName done
  pub front : Fronts text (map word done) rest
  pub words : words_in text ≡ done ++ words_in rest

pub names_start : (text : List ℕ) → NamesRead text text
names_start text = record {
  done = [];
  named = All-nil IsName;
  front = record { goes_on = λ ts h. h; came_so = λ us h. (us, refl, h); takes = omega arith };
  words = refl;
}

pub names_more : (text rest w more : List ℕ) → NamesRead text rest → Fronts rest (word w ∷ []) more
    → BeginsWithWord rest w more → IsName w → NamesRead text more
names_more text rest w more r f b n = record {
  done = r.done ++ w ∷ [];
  named = All-push IsName r.done w r.named n;
  front = subst (λ ts. Fronts text ts more) (sym (map_push word r.done w))
      (front_both text rest more (map word r.done) (word w ∷ []) r.front f);
  words =
      r.words ∙ ap (λ z. r.done ++ z) (words_first rest w more b) ∙ sym (append_assoc r.done (w ∷ []) (words_in more));
}

pub names_end : (text rest : List ℕ) → NamesRead text rest → All IsBlank rest → (All IsBlank text → ⊥)
    → (0 < length (words_in text)) × All IsName (words_in text) × IsSpelled text (map word (words_in text))
names_end text rest r blank some =
    let same : words_in text ≡ r.done = r.words ∙ ap (λ z. r.done ++ z) (words_blank rest blank) ∙ append-nil r.done in
    let spelled : IsSpelled text (map word r.done) = front_whole text (map word r.done) rest r.front blank in (
      subst (λ ns. 0 < length ns) (sym same) (full r.done spelled),
      subst (All IsName) (sym same) r.named,
      subst (λ ns. IsSpelled text (map word ns)) (sym same) spelled,
    )
  where
    full : (ns : List (List ℕ)) → IsSpelled text (map word ns) → 0 < length ns
    full [] h = absurd (some h)
    full (n ∷ ns) h = omega arith

-- what is after some of the names
behind_names : (ns ms : List (List ℕ)) (ts : List ScriptToken) → All IsName ns → map word ns ≡ map word ms ++ ts
    → (ts ≡ []) ⊎ ((n : List ℕ) × (us : List ScriptToken) × IsName n × (ts ≡ word n ∷ us))
behind_names [] [] ts h e = inl (sym e)
behind_names (n ∷ ns) [] ts h e = inr (n, map word ns, All-head IsName n ns h, sym e)
behind_names [] (m ∷ ms) ts h e = cc
behind_names (n ∷ ns) (m ∷ ms) ts h e = behind_names ns ms ts (All-tail IsName n ns h) (cc)

-- no name is in front of what is left
pub names_fault : (text rest : List ℕ) → NamesRead text rest → (All IsBlank rest → ⊥)
    → ((n : List ℕ) (ts : List ScriptToken) → IsName n → IsSpelled rest (word n ∷ ts) → ⊥) → (ns : List (List ℕ))
    → 0 < length ns → All IsName ns → IsSpelled text (map word ns) → ⊥
names_fault text rest r some bad ns full h k =
    let o = r.front.came_so (map word ns) k in
    elim (behind_names ns r.done o.0 h o.1) [
      | inl e ↦ some (subst (IsSpelled rest) e o.2)
      | inr (n, us, is, e) ↦ bad n us is (subst (IsSpelled rest) e o.2)
    ]

pub no_names : (text : List ℕ) → All IsBlank text → (ns : List (List ℕ)) → 0 < length ns → All IsName ns
    → IsSpelled text (map word ns) → ⊥
no_names text blank [] full h k = omega (arith, full)
no_names text blank (n ∷ ns) full h k = no_blank_word text blank n (map word ns) k
