-- The form at the front is the first that applies.
use Rattle.std.proofs.Common.{◌≡◌, ℕ, ◌<◌, ◌≤◌, List, [], ◌∷◌, ◌++◌, length, Bool, true, false, if◌then◌else◌, refl}
use Rattle.std.proofs.Common.{sym, ap, ◌∙◌, subst, length-append, append-nil, nat_lt, arith, Option, Some, None}
use Rattle.std.proofs.Common.{is_some}
use Rattle.std.specs.List.{list_all, list_any, join_with_byte}
use Rattle.std.specs.Char.{is_ascii_digit, is_ascii_alphabetic}
use Rattle.std.proofs.lemmas.Bool.{false≢true, and_parts, or_from, or_parts}
use Rattle.ts_parser.specs.declared.kinds.TokenType.{TokenType}
use Rattle.ts_parser.specs.declared.kinds.TokenType.TheVariants.{Asciiword, Word, Numword, Sfloat, Version}
use Rattle.ts_parser.specs.declared.kinds.TokenType.TheVariants.{HwordNumpart, HwordPart, HwordAsciipart, Blank}
use Rattle.ts_parser.specs.declared.kinds.TokenType.TheVariants.{Numhword, Asciihword, Hword, Float, Int, Uint}
use Rattle.ts_parser.specs.declared.iter.Token.{Token}
use Rattle.ts_parser.specs.declared.forms.Form.{Form}
use Rattle.ts_parser.specs.Kinds.{has_parts}
use Rattle.ts_parser.specs.Letters.{IsWordByte, is_word_byte, begins_with}
use Rattle.ts_parser.specs.Numbers.{IsNumber, NumberAt, NoNumber, last_byte}
use Rattle.ts_parser.specs.Words.{IsRun, RunKind, WholeKind, IsChain, NoChain}
use Rattle.ts_parser.specs.TokenList.{token, AreChainParts, StartsForm, Front, number, chain, run, blank}
use Rattle.ts_parser.specs.WordForms.{begins_link, run_len, links_len, run_kind, whole_kind, word_form}
use Rattle.ts_parser.specs.Forms.{form}
use Rattle.ts_parser.specs.TokensOf.{word_or_blank, or_form, form_at, starts_form, blank_len, token_of, parts_from}
use Rattle.ts_parser.specs.TokensOf.{parts_of}
use Rattle.ts_parser.specs.NumberForms.{number_at}
use Rattle.ts_parser.proofs.ByteTests.{tells_word_byte, all_test}
use Rattle.ts_parser.proofs.Refined.{all_weaker}
use Rattle.ts_parser.proofs.NumberLaws.{number_complete, number_sound, NumberIn, no_number, number_none, only_number}
use Rattle.ts_parser.proofs.KindLaws.{run_complete, run_sound, whole_complete, whole_sound}
use Rattle.ts_parser.proofs.Chains.{is_link, links_test, link_inner, is_chain, chain_test, ChainIn, test_chain}
use Rattle.ts_parser.proofs.Chains.{no_chain, chain_none, word_chain, word_run, RunIn, run_in}
use Rattle.ts_parser.proofs.Parts.{parts_complete, parts_sound}
use Rattle.ts_parser.proofs.Blanks.{NoStart, EndsBlank, denies_start, blank_complete, BlankIn, blank_sound}

-- ── what has parts, and what has bytes ──
pub number_no_parts : (k : TokenType) (v : List ℕ) → IsNumber k v → has_parts k ≡ false
number_no_parts Numhword v h = absurd h
number_no_parts Asciihword v h = absurd h
number_no_parts Hword v h = absurd h
number_no_parts k v h = refl

digits_some : (a z : List ℕ) → 0 < length a → 0 < length (a ++ z)
digits_some [] z h = absurd (omega (arith, h))
digits_some (c ∷ a) z h = omega arith

behind_some : (a z : List ℕ) → 0 < length z → 0 < length (a ++ z)
behind_some a z h = let k = length-append a z in omega (arith, k)

pub along : (u v : List ℕ) → u ≡ v → 0 < length v → 0 < length u
along u v e h = let k = ap length e in omega (arith, k)

join_some : (gs : List (List ℕ)) → 3 ≤ length gs → 0 < length (join_with_byte 46 gs)
join_some [] h = absurd (omega (arith, h))
join_some (a ∷ []) h = absurd (omega (arith, h))
join_some (a ∷ b ∷ gs) h = behind_some a (46 ∷ join_with_byte 46 (b ∷ gs)) (omega arith)

pub number_some : (k : TokenType) (v : List ℕ) → IsNumber k v → 0 < length v
number_some Uint v h = h.0
number_some Int v (c, d, s, g, e) = along v (c ∷ d) e (omega arith)
number_some Float v (s, a, b, m, g, h, e) =
    along v (s ++ (a ++ 46 ∷ b)) e (behind_some s (a ++ 46 ∷ b) (behind_some a (46 ∷ b) (omega arith)))
number_some Version v (gs, n, h, e) = along v (join_with_byte 46 gs) e (join_some gs n)
number_some Sfloat v (s, m, x, t, d, q, g, h, i, j, e) = along v (s ++ (m ++ x ∷ (t ++ d))) e
    (behind_some s (m ++ x ∷ (t ++ d)) (behind_some m (x ∷ (t ++ d)) (omega arith)))
number_some Asciiword v h = absurd h
number_some Word v h = absurd h
number_some Numword v h = absurd h
number_some HwordNumpart v h = absurd h
number_some HwordPart v h = absurd h
number_some HwordAsciipart v h = absurd h
number_some Blank v h = absurd h
number_some Numhword v h = absurd h
number_some Asciihword v h = absurd h
number_some Hword v h = absurd h

pub whole_has_parts : (w : List ℕ) → has_parts (whole_kind w) ≡ true
whole_has_parts w = by (list_any is_ascii_digit w) (list_any (λ c. nat_lt 127 c) w)
  where
    by : (a b : Bool) → has_parts (if a then Numhword else (if b then Hword else Asciihword)) ≡ true
    by true b = refl
    by false true = refl
    by false false = refl

pub run_no_parts : (w : List ℕ) → has_parts (run_kind w) ≡ false
run_no_parts w = by (list_all is_ascii_digit w) (list_any is_ascii_digit w) (list_all is_ascii_alphabetic w)
  where
    by : (a b d : Bool)
        → has_parts (if a then Uint else (if b then Numword else (if d then Asciiword else Word))) ≡ false
    by true b d = refl
    by false true d = refl
    by false false true = refl
    by false false false = refl

no_parts : (k : TokenType) (n : ℕ) (w : List ℕ) → has_parts k ≡ false → parts_of k n w ≡ []
no_parts k n w e = rw e refl

the_parts : (k : TokenType) (n : ℕ) (w : List ℕ) → has_parts k ≡ true → parts_of k n w ≡ parts_from 0 n w
the_parts k n w e = rw e refl

pub chain_some : (us : List (List ℕ)) (r : List ℕ) → IsChain us r → 0 < length (join_with_byte 45 us)
chain_some [] r h = absurd (let k = h.more in omega (arith, k))
chain_some (u ∷ []) r h = absurd (let k = h.more in omega (arith, k))
chain_some (u ∷ v ∷ us) r h = behind_some u (45 ∷ join_with_byte 45 (v ∷ us)) (omega arith)

-- ── a front of the rules is the one computed ──
-- the tokens of the front v, if its form is f
pub record FrontIs (before v r : List ℕ) (ts : List Token) : Type 0 where
  pub some : 0 < length v
  pub size : (form_at (last_byte before) (v ++ r)).length ≡ length v
  pub tokens : ts ≡ token_of (form_at (last_byte before) (v ++ r)) (length before)
      ∷ parts_of (form_at (last_byte before) (v ++ r)).kind (length before) v

front_of : (before v r : List ℕ) (k : TokenType) (ps : List Token) → 0 < length v
    → form_at (last_byte before) (v ++ r) ≡ form k (length v) → parts_of k (length before) v ≡ ps
    → FrontIs before v r (token k (length before) (length v) ∷ ps)
front_of before v r k ps s e p = record {
  some = s;
  size = ap (λ (f : Form). f.length) e;
  tokens = ap (λ l. token k (length before) (length v) ∷ l) (sym p)
      ∙ ap (λ (f : Form). token_of f (length before) ∷ parts_of f.kind (length before) v) (sym e);
}

no_number_form : (b : Option ℕ) (u : List ℕ) → number_at b u ≡ None → form_at b u ≡ word_or_blank b u
no_number_form b u e = ap (λ o. or_form o (word_or_blank b u)) e

word_form_at : (b : Option ℕ) (u : List ℕ) → number_at b u ≡ None → begins_with is_word_byte u ≡ true
    → form_at b u ≡ word_form u
word_form_at b u e h = no_number_form b u e ∙ rw h refl

begins_over : (u r : List ℕ) → list_all is_word_byte u ≡ true → 0 < length u → begins_with is_word_byte (u ++ r) ≡ true
begins_over [] r h s = absurd (omega (arith, s))
begins_over (c ∷ u) r h s = (and_parts (is_word_byte c) (list_all is_word_byte u) h).0

link_begins : (z : List ℕ) → begins_link z ≡ true → begins_with is_word_byte z ≡ true
link_begins [] h = absurd (false≢true h)
link_begins (c ∷ z) h = link_begins_by (is_word_byte c) refl
  where
    link_begins_by : (b : Bool) → is_word_byte c ≡ b → is_word_byte c ≡ true
    link_begins_by true e = e
    link_begins_by false e = absurd (false≢true (let k : false ≡ true = rw e at h in k))

chain_begins : (z : List ℕ) → is_chain z ≡ true → begins_with is_word_byte z ≡ true
chain_begins z h = link_begins z (and_parts (begins_link z) (nat_lt (run_len z) (links_len z)) h).0

front_chain : (before v r : List ℕ) (us : List (List ℕ)) (k : TokenType) (ts : List Token) → v ≡ join_with_byte 45 us
    → IsChain us r → NoNumber (last_byte before) (v ++ r) → WholeKind us k → AreChainParts (length before) us ts
    → FrontIs before v r (token k (length before) (length v) ∷ ts)
front_chain before v r us k ts e c n w p =
    let b = last_byte before in
    let j : List ℕ = join_with_byte 45 us in
    let t : is_chain (v ++ r) ≡ true = ap (λ z. is_chain (z ++ r)) e ∙ chain_test us r c in
    let q = whole_complete us k w in
    let f : form_at b (v ++ r) ≡ form k (length v) =
    word_form_at b (v ++ r) (number_none b (v ++ r) n) (chain_begins (v ++ r) t) ∙ ap (λ z. word_form (z ++ r)) e
    ∙ word_chain us r c ∙ ap (λ x. form x (length j)) q ∙ ap (λ z. form k (length z)) (sym e) in
    let h : has_parts k ≡ true = ap has_parts (sym q) ∙ whole_has_parts j in
    front_of before v r k ts (along v j e (chain_some us r c)) f (the_parts k (length before) v h
    ∙ ap (λ z. parts_from 0 (length before) z) e ∙ parts_complete (length before) us ts p (links_test us c.links))

front_run : (before v r : List ℕ) (k : TokenType) → IsRun v r → NoNumber (last_byte before) (v ++ r) → NoChain (v ++ r)
    → RunKind v k → FrontIs before v r (token k (length before) (length v) ∷ [])
front_run before v r k h n c w =
    let b = last_byte before in
    let q = run_complete v k h.some w in
    let a = all_test is_word_byte IsWordByte tells_word_byte v h.inner in
    let f : form_at b (v ++ r) ≡ form k (length v) =
    word_form_at b (v ++ r) (number_none b (v ++ r) n) (begins_over v r a h.some)
    ∙ word_run v r h (chain_none (v ++ r) c) ∙ ap (λ x. form x (length v)) q in
    front_of before v r k [] h.some f (no_parts k (length before) v (ap has_parts (sym q) ∙ run_no_parts v))

blank_form_at : (b : Option ℕ) (u : List ℕ) → starts_form b u ≡ false → form_at b u ≡ form Blank (blank_len b u)
blank_form_at b u h =
    let k = or_parts (begins_with is_word_byte u) (is_some (number_at b u)) h in
    no_number_form b u (none_by (number_at b u) k.1) ∙ (let e = k.0 in rw e refl)
  where
    none_by : (o : Option Form) → is_some o ≡ false → o ≡ None
    none_by None h = refl
    none_by (Some f) h = absurd (false≢true (sym h))

front_blank : (before v r : List ℕ) → 0 < length v → NoStart before v r → EndsBlank before v r
    → FrontIs before v r (token Blank (length before) (length v) ∷ [])
front_blank before [] r s n e = absurd (omega (arith, s))
front_blank before (c ∷ v) r s n e =
    let b = last_byte before in
    let P : List ℕ → Type 0 = λ z. StartsForm z (c ∷ (v ++ r)) in
    let d : starts_form b (c ∷ (v ++ r)) ≡ false =
    denies_start before (c ∷ (v ++ r)) (λ h. n 0 s (subst P (sym (append-nil before)) h)) in
    front_of before (c ∷ v) r Blank [] s
    (blank_form_at b (c ∷ (v ++ r)) d ∙ ap (λ m. form Blank m) (blank_complete before (c ∷ v) r n e)) refl

front_number : (before v r : List ℕ) (k : TokenType) → NumberAt (last_byte before) k v r
    → FrontIs before v r (token k (length before) (length v) ∷ [])
front_number before v r k n =
    let b = last_byte before in
    front_of before v r k [] (number_some k v n.number) (ap (λ o. or_form o (word_or_blank b (v ++ r)))
    (number_complete b k v r n)) (no_parts k (length before) v (number_no_parts k v n.number))

pub front_complete : (before v r : List ℕ) (ts : List Token) → Front before v r ts → FrontIs before v r ts
front_complete before v r _ (number k _ _ n l) = front_number before v r k n
front_complete before v r _ (chain us _ _ k ts e c n w p) = front_chain before v r us k ts e c n w p
front_complete before v r _ (run _ _ k h n c w) = front_run before v r k h n c w
front_complete before v r _ (blank _ _ s n e) = front_blank before v r s n e

-- ── the front computed is one of the rules ──
pub record FrontIn (before u : List ℕ) : Type 0 where
  pub front : List ℕ
  pub rest : List ℕ
  pub tokens : List Token
  pub is : u ≡ front ++ rest
  pub holds : Front before front rest tokens

in_number : (before u : List ℕ) (f : Form) → NumberIn (last_byte before) u f → FrontIn before u
in_number before u f n = record {
  front = n.number;
  rest = n.rest;
  tokens = token f.kind (length before) (length n.number) ∷ [];
  is = n.is;
  holds = number f.kind n.number n.rest n.holds (only_number (last_byte before) f.kind n.number n.rest n.holds);
}

no_number_at : (b : Option ℕ) (u v : List ℕ) → u ≡ v → number_at b u ≡ None → NoNumber b v
no_number_at b u v e n = no_number b v (ap (λ z. number_at b z) (sym e) ∙ n)

parts_in : (n : ℕ) (us : List (List ℕ)) (r : List ℕ) → IsChain us r
    → AreChainParts n us (parts_from 0 n (join_with_byte 45 us))
parts_in n [] r h = absurd (let k = h.more in omega (arith, k))
parts_in n (u ∷ us) r h = parts_sound n u us (links_test (u ∷ us) h.links)

in_chain : (before u : List ℕ) → number_at (last_byte before) u ≡ None → ChainIn u → FrontIn before u
in_chain before u n c =
    let j : List ℕ = join_with_byte 45 c.links in
    let w = whole_sound c.links
    (all_weaker is_link (list_all is_word_byte) link_inner c.links (links_test c.links c.holds.links)) in
    record {
      front = j;
      rest = c.rest;
      tokens = token (whole_kind j) (length before) (length j) ∷ parts_from 0 (length before) j;
      is = c.is;
      holds = chain c.links j c.rest (whole_kind j) (parts_from 0 (length before) j) refl c.holds
          (no_number_at (last_byte before) u (j ++ c.rest) c.is n) w (parts_in (length before) c.links c.rest c.holds);
    }

in_run : (before u : List ℕ) → number_at (last_byte before) u ≡ None → is_chain u ≡ false → RunIn u → FrontIn before u
in_run before u n c h = record {
  front = h.run;
  rest = h.rest;
  tokens = token (run_kind h.run) (length before) (length h.run) ∷ [];
  is = h.is;
  holds = run h.run h.rest (run_kind h.run) h.holds (no_number_at (last_byte before) u (h.run ++ h.rest) h.is n)
      (no_chain (h.run ++ h.rest) (ap is_chain (sym h.is) ∙ c)) (run_sound h.run h.inner);
}

in_word : (before u : List ℕ) (b : Bool) → is_chain u ≡ b → number_at (last_byte before) u ≡ None
    → begins_with is_word_byte u ≡ true → FrontIn before u
in_word before u true e n h = in_chain before u n (test_chain u e)
in_word before u false e n h = in_run before u n e (run_in u h)

blank_some : (b : Option ℕ) (c : ℕ) (u : List ℕ) → starts_form b (c ∷ u) ≡ false → 0 < blank_len b (c ∷ u)
blank_some b c u h = rw h (omega arith)

in_blank : (before : List ℕ) (c : ℕ) (u : List ℕ) → starts_form (last_byte before) (c ∷ u) ≡ false
    → BlankIn before (c ∷ u) → FrontIn before (c ∷ u)
in_blank before c u h k =
    let s = blank_some (last_byte before) c u h in
    let z = k.size in
    record {
      front = k.blank;
      rest = k.rest;
      tokens = token Blank (length before) (length k.blank) ∷ [];
      is = k.is;
      holds = blank k.blank k.rest (omega (arith, s, z)) k.none k.ends;
    }

in_rest : (before : List ℕ) (c : ℕ) (u : List ℕ) (b : Bool) → begins_with is_word_byte (c ∷ u) ≡ b
    → number_at (last_byte before) (c ∷ u) ≡ None → FrontIn before (c ∷ u)
in_rest before c u true e n = in_word before (c ∷ u) (is_chain (c ∷ u)) refl n e
in_rest before c u false e n =
    in_blank before c u (or_from (begins_with is_word_byte (c ∷ u)) (is_some (number_at (last_byte before) (c ∷ u))) e
    (ap is_some n)) (blank_sound before (c ∷ u))

in_front : (before : List ℕ) (c : ℕ) (u : List ℕ) (o : Option Form) → number_at (last_byte before) (c ∷ u) ≡ o
    → FrontIn before (c ∷ u)
in_front before c u (Some f) e = in_number before (c ∷ u) f (number_sound (last_byte before) (c ∷ u) f e)
in_front before c u None e = in_rest before c u (begins_with is_word_byte (c ∷ u)) refl e

-- a text that is not empty has a front
pub front_sound : (before : List ℕ) (c : ℕ) (u : List ℕ) → FrontIn before (c ∷ u)
front_sound before c u = in_front before c u (number_at (last_byte before) (c ∷ u)) refl
