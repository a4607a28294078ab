-- A line has one list of tokens.
use Rattle.std.proofs.Common.{◌≡◌, ◌↔◌, inl, inr, ℕ, ◌==◌, ◌<◌, length, length-append, Bool, true, false, cond, List}
use Rattle.std.proofs.Common.{[], ◌∷◌, ◌++◌, append-nil, append_assoc, arith, refl, sym, ◌∙◌, ap, subst}
use Rattle.std.specs.List.{All}
use Rattle.std.proofs.lemmas.Bool.{eqb-true, eqb-false}
use Rattle.std.proofs.lemmas.List.{append_cancel_left}
use Rattle.std.proofs.lemmas.List.Elements.{All-head, All-tail, All-nil, All-append}
use Rattle.ts_base.specs.Bytes.{IsBlank, BeginsWithout}
use Rattle.ts_base.specs.Words.{EndsWord, BeginsWithWord}
use Rattle.ts_base.proofs.Fronts.{same_front}
use Rattle.ts_base.proofs.LineWords.{IsDark}
use Rattle.shell_script.specs.Tokens.{ScriptToken, word, quote, doubled, spelling, IsToken, IsSpelled}
use Rattle.shell_script.specs.Inner.Fronts.{IsQuote, IsNoQuote, IsFirst, Fronts}
use Rattle.shell_script.proofs.Front.{begins_word, stops_word, one_first_word, no_first_word}

-- what begins with no blank, and is not empty
abbrev pub BeginsToken : List ℕ → Type 0
BeginsToken [] = ⊥
BeginsToken (b ∷ bs) = IsBlank b → ⊥

begins_unblank : (x : List ℕ) → BeginsToken x → BeginsWithout IsBlank x
begins_unblank [] s = absurd s
begins_unblank (b ∷ bs) s = s

one_gap : (g h x y : List ℕ) → All IsBlank g → All IsBlank h → BeginsToken x → BeginsToken y → g ++ x ≡ h ++ y
    → (g ≡ h) × (x ≡ y)
one_gap g h x y p q s t e = same_front IsBlank g h x y p q (begins_unblank x s) (begins_unblank y t) e

blank_is_no_quote : (b : ℕ) → IsBlank b → IsQuote b → ⊥
blank_is_no_quote b (inl h) e = omega arith
blank_is_no_quote b (inr h) e = omega arith

no_quote_behind : (r : List ℕ) → EndsWord r → BeginsWithout IsQuote r
no_quote_behind [] m = tt
no_quote_behind (b ∷ r) m = λ e. blank_is_no_quote b m e

-- after the closing quote no quote follows
closes : (r x : List ℕ) → BeginsWithout IsQuote r → r ≡ 39 ∷ x → ⊥
closes r x m e = subst (BeginsWithout IsQuote) e m refl

one_quote : (t u r s : List ℕ) → BeginsWithout IsQuote r → BeginsWithout IsQuote s
    → doubled t ++ 39 ∷ r ≡ doubled u ++ 39 ∷ s → (t ≡ u) × (r ≡ s)
one_quote [] [] r s m n e = (refl, cc)
one_quote [] (c ∷ u) r s m n e = by (c == 39) refl e
  where
    by : (b : Bool) → (c == 39) ≡ b → 39 ∷ r ≡ cond b (39 ∷ 39 ∷ doubled u) (c ∷ doubled u) ++ 39 ∷ s
        → ([] ≡ c ∷ u) × (r ≡ s)
    by true p e = let f : r ≡ 39 ∷ (doubled u ++ 39 ∷ s) = cc in absurd (closes r (doubled u ++ 39 ∷ s) m f)
    by false p e = let f : 39 ≡ c = cc in absurd (eqb-false c 39 p (sym f))
one_quote (c ∷ t) [] r s m n e = by (c == 39) refl e
  where
    by : (b : Bool) → (c == 39) ≡ b → cond b (39 ∷ 39 ∷ doubled t) (c ∷ doubled t) ++ 39 ∷ r ≡ 39 ∷ s
        → (c ∷ t ≡ []) × (r ≡ s)
    by true p e = let f : s ≡ 39 ∷ (doubled t ++ 39 ∷ r) = cc in absurd (closes s (doubled t ++ 39 ∷ r) n f)
    by false p e = let f : c ≡ 39 = cc in absurd (eqb-false c 39 p f)
one_quote (c ∷ t) (d ∷ u) r s m n e = by (λ f. one_quote t u r s m n f) (c == 39) (d == 39) refl refl e
  where
    both : c ≡ d → (t ≡ u) × (r ≡ s) → (c ∷ t ≡ d ∷ u) × (r ≡ s)
    both h k = (ap (λ z. z ∷ t) h ∙ ap (λ z. d ∷ z) k.0, k.1)

    by : (doubled t ++ 39 ∷ r ≡ doubled u ++ 39 ∷ s → (t ≡ u) × (r ≡ s)) → (a b : Bool)
        → (c == 39) ≡ a → (d == 39) ≡ b → cond a (39 ∷ 39 ∷ doubled t) (c ∷ doubled t) ++ 39 ∷ r
        ≡ cond b (39 ∷ 39 ∷ doubled u) (d ∷ doubled u) ++ 39 ∷ s → (c ∷ t ≡ d ∷ u) × (r ≡ s)
    by again true true p q e = let f : doubled t ++ 39 ∷ r ≡ doubled u ++ 39 ∷ s = cc in
        both (eqb-true c 39 p ∙ sym (eqb-true d 39 q)) (again f)
    by again true false p q e = let f : 39 ≡ d = cc in absurd (eqb-false d 39 q (sym f))
    by again false true p q e = let f : c ≡ 39 = cc in absurd (eqb-false c 39 p f)
    by again false false p q e =
        let f : doubled t ++ 39 ∷ r ≡ doubled u ++ 39 ∷ s = cc in let h : c ≡ d = cc in both h (again f)

begins : (t : ScriptToken) (rest : List ℕ) → IsToken t → BeginsToken (spelling t ++ rest)
begins (word []) rest h = absurd (omega (arith, h.0.some))
begins (word (b ∷ w)) rest h = All-head IsDark b w h.0.dark
begins (quote t) rest h = not_blank
  where
    not_blank : IsBlank 39 → ⊥
    not_blank (inl h) = omega arith
    not_blank (inr h) = omega arith

one_token : (t u : ScriptToken) (r s : List ℕ) → IsToken t → IsToken u → EndsWord r → EndsWord s
    → spelling t ++ r ≡ spelling u ++ s → (t ≡ u) × (r ≡ s)
one_token (word v) (word w) r s p q m n e = let k : (v ≡ w) × (r ≡ s) =
    same_front IsDark v w r s p.0.dark q.0.dark (stops_word r m) (stops_word s n) e in (ap word k.0, k.1)
one_token (quote t) (quote u) r s p q m n e =
    let f : (doubled t ++ 39 ∷ []) ++ r ≡ (doubled u ++ 39 ∷ []) ++ s = cc in
    let k : (t ≡ u) × (r ≡ s) = one_quote t u r s (no_quote_behind r m) (no_quote_behind s n)
    (sym (append_assoc (doubled t) (39 ∷ []) r) ∙ f ∙ append_assoc (doubled u) (39 ∷ []) s) in (ap quote k.0, k.1)
one_token (word []) (quote u) r s p q m n e = absurd (omega (arith, p.0.some))
one_token (word (b ∷ v)) (quote u) r s p q m n e = let f : b ≡ 39 = cc in absurd (All-head IsNoQuote b v p.1 f)
one_token (quote t) (word []) r s p q m n e = absurd (omega (arith, q.0.some))
one_token (quote t) (word (b ∷ v)) r s p q m n e = let f : b ≡ 39 = cc in absurd (All-head IsNoQuote b v q.1 f)

no_blank_in : (g x : List ℕ) → BeginsToken x → All IsBlank (g ++ x) → ⊥
no_blank_in [] [] s h = s
no_blank_in [] (b ∷ x) s h = s (All-head IsBlank b x h)
no_blank_in (c ∷ g) x s h = no_blank_in g x s (All-tail IsBlank c (g ++ x) h)

pub one_spelling : (line : List ℕ) (ts us : List ScriptToken) → IsSpelled line ts → IsSpelled line us → ts ≡ us
one_spelling line [] [] h k = refl
one_spelling line [] (u ∷ us) h k =
    absurd (no_blank_in k.0 (spelling u ++ k.1) (begins u k.1 k.3) (subst (All IsBlank) k.4 h))
one_spelling line (t ∷ ts) [] h k =
    absurd (no_blank_in h.0 (spelling t ++ h.1) (begins t h.1 h.3) (subst (All IsBlank) h.4 k))
one_spelling line (t ∷ ts) (u ∷ us) h k =
    let gaps : (h.0 ≡ k.0) × (spelling t ++ h.1 ≡ spelling u ++ k.1) = one_gap h.0 k.0 (spelling t ++ h.1)
    (spelling u ++ k.1) h.2 k.2 (begins t h.1 h.3) (begins u k.1 k.3) (sym h.4 ∙ k.4) in
    let tokens : (t ≡ u) × (h.1 ≡ k.1) = one_token t u h.1 k.1 h.3 k.3 h.5 k.5 gaps.1 in
    let rest : ts ≡ us = one_spelling k.1 ts us (subst (λ z. IsSpelled z ts) tokens.1 h.6) k.6 in
    ap (λ z. z ∷ ts) tokens.0 ∙ ap (λ z. u ∷ z) rest

-- the quoted text that the program has read so far
no_quote_in : (p x y : List ℕ) → All IsNoQuote p → p ≡ x ++ 39 ∷ y → ⊥
no_quote_in [] [] y h e = cc
no_quote_in [] (d ∷ x) y h e = cc
no_quote_in (c ∷ p) [] y h e = All-head IsNoQuote c p h (cc)
no_quote_in (c ∷ p) (d ∷ x) y h e = let r : p ≡ x ++ 39 ∷ y = cc in no_quote_in p x y (All-tail IsNoQuote c p h) r

doubled_append : (s t : List ℕ) → doubled (s ++ t) ≡ doubled s ++ doubled t
doubled_append [] t = refl
doubled_append (c ∷ s) t = by (c == 39) (doubled_append s t)
  where
    by : (b : Bool) → doubled (s ++ t) ≡ doubled s ++ doubled t → cond b (39 ∷ 39 ∷ doubled (s ++ t)) (c
        ∷ doubled (s ++ t)) ≡ cond b (39 ∷ 39 ∷ doubled s) (c ∷ doubled s) ++ doubled t
    by true e = ap (λ z. 39 ∷ 39 ∷ z) e
    by false e = ap (λ z. c ∷ z) e

doubled_plain : (s : List ℕ) → All IsNoQuote s → doubled s ≡ s
doubled_plain [] h = refl
doubled_plain (c ∷ s) h = by (c == 39) refl (doubled_plain s (All-tail IsNoQuote c s h))
  where
    by : (b : Bool) → (c == 39) ≡ b → doubled s ≡ s → cond b (39 ∷ 39 ∷ doubled s) (c ∷ doubled s) ≡ c ∷ s
    by true p e = absurd (All-head IsNoQuote c s h (eqb-true c 39 p))
    by false p e = ap (λ z. c ∷ z) e

-- the text up to the next quote
pub quote_piece : (text q rest piece more : List ℕ) → text ≡ doubled q ++ rest → rest ≡ piece ++ 39 ∷ more
    → All IsNoQuote piece → text ≡ doubled (q ++ piece) ++ 39 ∷ more
quote_piece text q rest piece more e f free =
    e ∙ ap (λ z. doubled q ++ z) (f ∙ ap (λ z. z ++ 39 ∷ more) (sym (doubled_plain piece free))) ∙ sym
    (append_assoc (doubled q) (doubled piece) (39 ∷ more)) ∙ ap (λ z. z ++ 39 ∷ more) (sym (doubled_append q piece))

-- and a second quote after that
pub quote_pair : (text q more next : List ℕ) → text ≡ doubled q ++ 39 ∷ more → more ≡ 39 ∷ next
    → text ≡ doubled (q ++ 39 ∷ []) ++ next
quote_pair text q more next e f =
    e ∙ ap (λ z. doubled q ++ 39 ∷ z) f ∙ sym (append_assoc (doubled q) (39 ∷ 39 ∷ []) next)
    ∙ ap (λ z. z ++ next) (sym (doubled_append q (39 ∷ [])))

pub quote_first : (text q more : List ℕ) → text ≡ doubled q ++ 39 ∷ more → EndsWord more
    → IsFirst (39 ∷ text) (quote q) more
quote_first text q more e m = (tt, ap (λ z. 39 ∷ z) (e ∙ sym (append_assoc (doubled q) (39 ∷ []) more)), m)

quote_inside : (text t r : List ℕ) → 39 ∷ text ≡ spelling (quote t) ++ r → text ≡ doubled t ++ 39 ∷ r
quote_inside text t r e = let f : text ≡ (doubled t ++ 39 ∷ []) ++ r = cc in f ∙ append_assoc (doubled t) (39 ∷ []) r

-- a quote begins no word
no_word_first : (text w r : List ℕ) → IsToken (word w) → 39 ∷ text ≡ w ++ r → ⊥
no_word_first text [] r h e = omega (arith, h.0.some)
no_word_first text (b ∷ w) r h e = let f : b ≡ 39 = cc in All-head IsNoQuote b w h.1 f

-- something is right after the quoted text
pub quote_fault : (text q more : List ℕ) → text ≡ doubled q ++ 39 ∷ more → BeginsWithout IsQuote more
    → (EndsWord more → ⊥) → (t : ScriptToken) (r : List ℕ) → IsFirst (39 ∷ text) t r → ⊥
quote_fault text q more e m bad (word w) r h = no_word_first text w r h.0 h.1
quote_fault text q more e m bad (quote t) r h =
    let same : (q ≡ t) × (more ≡ r) =
    one_quote q t more r m (no_quote_behind r h.2) (sym e ∙ quote_inside text t r h.1) in
    bad (subst EndsWord (sym same.1) h.2)

unclosed : (q p t r : List ℕ) → All IsNoQuote p → BeginsWithout IsQuote r → doubled q ++ p ≡ doubled t ++ 39 ∷ r → ⊥
unclosed [] p t r free m e = no_quote_in p (doubled t) r free e
unclosed (c ∷ q) p [] r free m e = by (c == 39) refl e
  where
    by : (b : Bool) → (c == 39) ≡ b → cond b (39 ∷ 39 ∷ doubled q) (c ∷ doubled q) ++ p ≡ 39 ∷ r → ⊥
    by true h e = let f : r ≡ 39 ∷ (doubled q ++ p) = cc in closes r (doubled q ++ p) m f
    by false h e = let f : c ≡ 39 = cc in eqb-false c 39 h f
unclosed (c ∷ q) p (d ∷ t) r free m e = by (λ f. unclosed q p t r free m f) (c == 39) (d == 39) refl refl e
  where
    by : (doubled q ++ p ≡ doubled t ++ 39 ∷ r → ⊥) → (a b : Bool) → (c == 39) ≡ a → (d == 39) ≡ b
        → cond a (39 ∷ 39 ∷ doubled q) (c ∷ doubled q) ++ p ≡ cond b (39 ∷ 39 ∷ doubled t) (d ∷ doubled t) ++ 39 ∷ r → ⊥
    by again true true h k e = let f : doubled q ++ p ≡ doubled t ++ 39 ∷ r = cc in again f
    by again true false h k e = let f : 39 ≡ d = cc in eqb-false d 39 k (sym f)
    by again false true h k e = let f : c ≡ 39 = cc in eqb-false c 39 h f
    by again false false h k e = let f : doubled q ++ p ≡ doubled t ++ 39 ∷ r = cc in again f

-- the quoted text isn't closed
pub quote_open : (text q rest : List ℕ) → text ≡ doubled q ++ rest → All IsNoQuote rest → (t : ScriptToken) (r : List ℕ)
    → IsFirst (39 ∷ text) t r → ⊥
quote_open text q rest e free (word w) r h = no_word_first text w r h.0 h.1
quote_open text q rest e free (quote t) r h =
    unclosed q rest t r free (no_quote_behind r h.2) (sym e ∙ quote_inside text t r h.1)

less_blank : (b : ℕ) (rest : List ℕ) (us : List ScriptToken) → IsBlank b → IsSpelled (b ∷ rest) us → IsSpelled rest us
less_blank b rest [] h k = All-tail IsBlank b rest k
less_blank b rest (u ∷ us) h k = by k.0 k.2 k.4
  where
    by : (gap : List ℕ) → All IsBlank gap → b ∷ rest ≡ gap ++ (spelling u ++ k.1) → IsSpelled rest (u ∷ us)
    by [] g e = absurd (subst BeginsToken (sym e) (begins u k.1 k.3) h)
    by (c ∷ gap) g e =
        let f : rest ≡ gap ++ (spelling u ++ k.1) = cc in (gap, k.1, All-tail IsBlank c gap g, k.3, f, k.5, k.6)

less_blanks : (gap rest : List ℕ) (us : List ScriptToken) → All IsBlank gap → IsSpelled (gap ++ rest) us
    → IsSpelled rest us
less_blanks [] rest us h k = k
less_blanks (b ∷ gap) rest us h k =
    less_blanks gap rest us (All-tail IsBlank b gap h) (less_blank b (gap ++ rest) us (All-head IsBlank b gap h) k)

-- the token in front of a text that begins with one
front_of : (rest : List ℕ) (u : ScriptToken) (us : List ScriptToken) → BeginsWithout IsBlank rest
    → IsSpelled rest (u ∷ us) → (r : List ℕ) × IsFirst rest u r × IsSpelled r us
front_of rest u us m k = by k.0 k.2 k.4
  where
    by : (gap : List ℕ) → All IsBlank gap → rest ≡ gap ++ (spelling u ++ k.1)
        → (r : List ℕ) × IsFirst rest u r × IsSpelled r us
    by [] g e = (k.1, (k.3, e, k.5), k.6)
    by (c ∷ gap) g e = absurd (subst (BeginsWithout IsBlank) e m (All-head IsBlank c gap g))

-- the token in front of a text that blanks come before
pub first_of : (text gap inner : List ℕ) → All IsBlank gap → text ≡ gap ++ inner
    → BeginsWithout IsBlank inner → (t : ScriptToken) (ts : List ScriptToken) → IsSpelled text (t ∷ ts)
    → (rest : List ℕ) × IsFirst inner t rest × IsSpelled rest ts
first_of text gap inner blank e m t ts k =
    front_of inner t ts m (less_blanks gap inner (t ∷ ts) blank (subst (λ z. IsSpelled z (t ∷ ts)) e k))

some_bytes : (t : ScriptToken) → IsToken t → 0 < length (spelling t)
some_bytes (word w) h = h.0.some
some_bytes (quote t) h = omega arith

pub front_token : (text gap inner : List ℕ) (t : ScriptToken) (rest : List ℕ) → All IsBlank gap → text ≡ gap ++ inner
    → BeginsWithout IsBlank inner → IsFirst inner t rest → Fronts text (t ∷ []) rest
front_token text gap inner t rest blank e m first = record {
  goes_on = λ ts k. (gap, rest, blank, first.0, whole, first.2, k);
  came_so = λ us k. by us k;
  takes = omega (
    arith,
    ap length whole,
    length-append gap (spelling t ++ rest),
    length-append (spelling t) rest,
    some_bytes t first.0,
  );
}
  where
    whole : text ≡ gap ++ (spelling t ++ rest)
    whole = e ∙ ap (λ z. gap ++ z) first.1

    by : (us : List ScriptToken) → IsSpelled text us → (ts : List ScriptToken) × (us ≡ t ∷ ts) × IsSpelled rest ts
    by [] k = absurd (no_blank_in gap (spelling t ++ rest) (begins t rest first.0) (subst (All IsBlank) whole k))
    by (u ∷ us) k =
        let found = first_of text gap inner blank e m u us k in
        let same : (u ≡ t) × (found.0 ≡ rest) =
        one_token u t found.0 rest found.1.0 first.0 found.1.2 first.2 (sym found.1.1 ∙ first.1) in
        (us, ap (λ z. z ∷ us) same.0, subst (λ z. IsSpelled z us) same.1 found.2)

pub front_both : (a b c : List ℕ) (f g : List ScriptToken) → Fronts a f b → Fronts b g c → Fronts a (f ++ g) c
front_both a b c f g p q = record {
  goes_on = λ ts k. subst (IsSpelled a) (sym (append_assoc f g ts)) (p.goes_on (g ++ ts) (q.goes_on ts k));
  came_so = λ us k.
      let o = p.came_so us k in
      let i = q.came_so o.0 o.2 in
      (i.0, o.1 ∙ ap (λ z. f ++ z) i.1 ∙ sym (append_assoc f g i.0), i.2);
  takes = omega (arith, length-append f g, p.takes, q.takes);
}

-- what is after the front
pub front_rest : (text : List ℕ) (front : List ScriptToken) (rest : List ℕ) (ts : List ScriptToken)
    → Fronts text front rest → IsSpelled text (front ++ ts) → IsSpelled rest ts
front_rest text front rest ts h k =
    let o = h.came_so (front ++ ts) k in
    subst (IsSpelled rest) (sym (append_cancel_left front ts o.0 o.1)) o.2

-- nothing but the front is there
pub front_whole : (text : List ℕ) (front : List ScriptToken) (rest : List ℕ) → Fronts text front rest → All IsBlank rest
    → IsSpelled text front
front_whole text front rest h blank = subst (IsSpelled text) (append-nil front) (h.goes_on [] blank)

-- the first token, and the others after it
pub behind_one : (text : List ℕ) (t : ScriptToken) (rest : List ℕ) (u : ScriptToken) (us : List ScriptToken)
    → Fronts text (t ∷ []) rest → IsSpelled text (u ∷ us) → (u ≡ t) × IsSpelled rest us
behind_one text t rest u us h k =
    let o = h.came_so (u ∷ us) k in
    let all : u ∷ us ≡ t ∷ o.0 = o.1 in
    let same : o.0 ≡ us = cc in
    (cc, subst (IsSpelled rest) same o.2)

-- more than one token is there
pub front_fault : (text : List ℕ) (t : ScriptToken) (rest : List ℕ) → Fronts text (t ∷ []) rest → (All IsBlank rest → ⊥)
    → (u : ScriptToken) → IsSpelled text (u ∷ []) → ⊥
front_fault text t rest h some u k = some (behind_one text t rest u [] h k).1

word_of : (v w : List ℕ) → word w ≡ word v → v ≡ w
word_of v w e = cc

-- another word is in front
pub other_word : (text v w rest : List ℕ) (ts : List ScriptToken) → Fronts text (word v ∷ []) rest → (v ≡ w → ⊥)
    → IsSpelled text (word w ∷ ts) → ⊥
other_word text v w rest ts h differ k = differ (word_of v w (behind_one text (word v) rest (word w) ts h k).0)

pub blank_text : (text gap inner : List ℕ) → All IsBlank gap → text ≡ gap ++ inner → BeginsWithout IsBlank inner
    → (length inner ≡ 0) ↔ All IsBlank text
blank_text text gap [] blank e m =
    (λ z. subst (All IsBlank) (sym e) (All-append IsBlank gap [] blank (All-nil IsBlank)), λ h. refl)
blank_text text gap (b ∷ inner) blank e m =
    (λ z. absurd (omega arith), λ h. absurd (no_blank_in gap (b ∷ inner) m (subst (All IsBlank) e h)))

-- a word in front, and what is after it
pub spelled_word : (line w : List ℕ) (ts : List ScriptToken) → IsSpelled line (word w ∷ ts)
    → (rest : List ℕ) × BeginsWithWord line w rest × IsSpelled rest ts
spelled_word line w ts k = (k.1, record { gap = k.0; blank = k.2; is_word = k.3.0; text = k.4; ends = k.5 }, k.6)

-- the first word, without a quote
pub word_front : (text w rest : List ℕ) → BeginsWithWord text w rest → All IsNoQuote w → Fronts text (word w ∷ []) rest
word_front text w rest b free = front_token text b.gap (w ++ rest) (word w) rest b.blank b.text
    (begins_word w rest b.is_word) ((b.is_word, free), refl, b.ends)

-- no word is in front of a blank text
pub no_blank_word : (text : List ℕ) → All IsBlank text → (v : List ℕ) (ts : List ScriptToken)
    → IsSpelled text (word v ∷ ts) → ⊥
no_blank_word text blank v ts k = let found = spelled_word text v ts k in no_first_word text blank v found.0 found.1

-- nor where a quote is in the first word
pub no_quoted_word : (text w rest a b : List ℕ) → BeginsWithWord text w rest → w ≡ a ++ 39 ∷ b
    → (v : List ℕ) (ts : List ScriptToken) → IsSpelled text (word v ∷ ts) → ⊥
no_quoted_word text w rest a b h e v ts k =
    let found = spelled_word text v ts k in
    let same = one_first_word text v w found.0 rest found.1 h in
    no_quote_in v a b k.3.1 (same.0 ∙ e)

-- nor a quoted text
pub no_quoted : (text gap inner : List ℕ) → All IsBlank gap → text ≡ gap ++ inner → BeginsWithout IsBlank inner
    → ((t r : List ℕ) → IsFirst inner (quote t) r → ⊥) → (t : List ℕ) (ts : List ScriptToken)
    → IsSpelled text (quote t ∷ ts) → ⊥
no_quoted text gap inner blank e m bad t ts k =
    let found = first_of text gap inner blank e m (quote t) ts k in
    bad t found.0 found.1

-- a text with no quote in front begins with no quoted text
pub no_quote_first : (text t r : List ℕ) → BeginsWithout IsQuote text → IsFirst text (quote t) r → ⊥
no_quote_first text t r m k = closes text ((doubled t ++ 39 ∷ []) ++ r) m k.1
