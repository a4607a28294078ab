-- How the code cuts a web text gives its items.
use Rattle.std.proofs.Common.{◌≡◌, ◌≢◌, inl, inr, ℕ, zero, suc, ◌<◌, ◌≤◌, List, [], ◌∷◌, ◌++◌, length, take, get_or}
use Rattle.std.proofs.Common.{refl, sym, subst, ap, ◌∙◌, add-one, All, false, true, Option, Some, None, unwrap_or, Bor}
use Rattle.std.proofs.Common.{lit<, arith}
use Rattle.std.specs.Str.{IsUtf8, IsCharBoundary}
use Rattle.std.proofs.lemmas.Str.{IsCharBoundary-start, IsCharBoundary-after_ascii}
use Rattle.std.proofs.lemmas.Str.Pattern.{IsSplitOnceResult, split_parts}
use Rattle.std.proofs.lemmas.List.{length-append, get_or-take, get_or_default}
use Rattle.std.proofs.lemmas.List.Elements.{All-head, All-tail}
use Rattle.std.proofs.lemmas.Grind.{common_steps}
use Rattle.ts_base.specs.Bytes.{IsWhite, BeginsWithout}
use Rattle.ts_base.proofs.ByteKinds.{white_ascii, white_or}
use Rattle.ts_websearch.specs.Items.{WebItem, quoted, row, hyphen, IsNoQuote, IsRowByte, QuotedText, RowText}
use Rattle.ts_websearch.specs.Items.{IsLoneBefore, AreItems, no_item, white_space, quotation, not_quotation, plain_row}
use Rattle.ts_websearch.specs.Items.{not_row, lone_hyphen}
use Rattle.ts_websearch.specs.Inner.Pieces.{IsNext}

-- ── texts in quotes ──
no_quote : (l : List ℕ) → ((i : ℕ) → i < length l → get_or l i 0 ≢ 34) → All IsNoQuote l
no_quote l h = λ i d k e. h i k (get_or_default l i 0 d k ∙ e)

-- where a text is cut at its first quote, or has none
pub quotation_cut : (text : List ℕ) (cut : Option (Bor (List ℕ) × Bor (List ℕ)))
    (none : Bor (List ℕ) × Bor (List ℕ)) → IsSplitOnceResult 34 text cut → none.0.now ≡ text
    → none.1.now ≡ [] → QuotedText text (unwrap_or cut none).0.now (unwrap_or cut none).1.now
quotation_cut text (Some x) none h e f =
    let p = split_parts 34 text (Some x) h (lit< tt) in
    record { bytes = no_quote x.0.now p.1; ends = inl p.0 }
quotation_cut text None none h e f =
    let p = split_parts 34 text None h (lit< tt) in
    record { bytes = subst (All IsNoQuote) (sym e) (no_quote text p); ends = inr (sym e, f) }

-- what follows is no longer than what was there
pub quoted_within : (u t r : List ℕ) → QuotedText u t r → length r ≤ length u
quoted_within u t r q = elim q.ends [
  | inl e ↦ (let f = ap length e in let g = length-append t (34 ∷ r) in omega arith)
  | inr e ↦ (let f = ap length e.1 in omega arith)
]

-- ── white space ──
-- after white space a text may be cut
pub behind_white : (text : List ℕ) (n : ℕ) → IsUtf8 text → n ≤ length text
    → All IsWhite (take n text) → IsCharBoundary text n
behind_white text zero u le h = IsCharBoundary-start text u
behind_white text (suc m) u le h =
    let lt : m < length text = omega arith in
    let here : m < suc m = omega arith in
    let inside : m < length (take (suc m) text) = grind (arith, common_steps) in
    let white : IsWhite (get_or text m 0) =
    subst IsWhite (get_or-take (suc m) text m 0 here) (h m 0 inside) in
    subst (IsCharBoundary text) (add-one m)
    (IsCharBoundary-after_ascii text m u lt (white_ascii (get_or text m 0) white))

pub behind_gap : (gap u : List ℕ) (is : List WebItem) → All IsWhite gap → AreItems u is
    → AreItems (gap ++ u) is
behind_gap [] u is h a = a
behind_gap (c ∷ gap) u is h a =
    white_space c (gap ++ u) is (All-head IsWhite c gap h)
    (behind_gap gap u is (All-tail IsWhite c gap h) a)

pub only_gap : (text gap u : List ℕ) → text ≡ gap ++ u → All IsWhite gap → u ≡ [] → AreItems text []
only_gap text gap u e h n =
    subst (λ t. AreItems t []) (sym e)
    (behind_gap gap u [] h (subst (λ t. AreItems t []) (sym n) no_item))

-- ── the first item ──
-- what follows a gap has it first
pub behind_gap_next : (text gap u : List ℕ) (i : WebItem) (rest : List ℕ) → text ≡ gap ++ u
    → All IsWhite gap → IsNext u i rest → IsNext text i rest
behind_gap_next text gap u i rest e h n = record {
  goes_on = λ is a.
      subst (λ t. AreItems t (i ∷ is)) (sym e) (behind_gap gap u (i ∷ is) h (n.goes_on is a));
  shorter = (let s = n.shorter in let f = ap length e in let g = length-append gap u in omega arith);
}

pub quotation_next : (u behind t r : List ℕ) → u ≡ 34 ∷ behind → QuotedText behind t r
    → IsNext u (quoted false t) r
quotation_next u behind t r e q = record {
  goes_on = λ is a.
      subst (λ l. AreItems l (quoted false t ∷ is)) (sym e) (quotation behind t r is q a);
  shorter = (let s = quoted_within behind t r q in let f = ap length e in omega arith);
}

pub quotation_negated : (u behind t r : List ℕ) (is : List WebItem) → u ≡ 34 ∷ behind
    → QuotedText behind t r → AreItems r is → AreItems (45 ∷ u) (quoted true t ∷ is)
quotation_negated u behind t r is e q a =
    subst (λ l. AreItems (45 ∷ l) (quoted true t ∷ is)) (sym e) (not_quotation behind t r is q a)

pub hyphen_next : (u behind : List ℕ) (i : WebItem) (r : List ℕ) → u ≡ 45 ∷ behind
    → ((is : List WebItem) → AreItems r is → AreItems (45 ∷ behind) (i ∷ is))
    → length r ≤ length behind → IsNext u i r
hyphen_next u behind i r e g s = record {
  goes_on = λ is a. subst (λ l. AreItems l (i ∷ is)) (sym e) (g is a);
  shorter = (let f = ap length e in omega arith);
}

-- ── rows ──
-- what begins with no mark and no white space begins with a row
pub row_next : (u t r : List ℕ) → RowText u t r → u ≢ [] → BeginsWithout IsWhite u
    → ((rest : List ℕ) → u ≢ 34 ∷ rest) → ((rest : List ℕ) → u ≢ 45 ∷ rest)
    → IsNext u (row false t) r
row_next [] t r h n w q y = absurd (n refl)
row_next (c ∷ u) [] r h n w q y =
    absurd (subst (BeginsWithout IsRowByte) (sym h.whole) h.ends (w, λ e. q u (ap (λ b. b ∷ u) e)))
row_next (c ∷ u) (b ∷ t) r h n w q y =
    let e : c ≡ b = let f = h.whole in cc in
    record {
      goes_on = λ is a.
          subst (λ d. AreItems (c ∷ u) (row false (d ∷ t) ∷ is)) e
          (plain_row c u t r is (λ f. y u (ap (λ d. d ∷ u) f))
          (subst (λ d. RowText (c ∷ u) (d ∷ t) r) (sym e) h) a);
      shorter = (let f = ap length h.whole in let g = length-append (b ∷ t) r in omega arith);
    }

-- after a hyphen
pub row_negated : (u t r : List ℕ) (is : List WebItem) → RowText u t r → 0 < length t → AreItems r is
    → AreItems (45 ∷ u) (row true t ∷ is)
row_negated u [] r is h s a = absurd (let no : ⊥ = omega arith in no)
row_negated [] (b ∷ t) r is h s a = absurd (let f = h.whole in let no : ⊥ = cc in no)
row_negated (c ∷ u) (b ∷ t) r is h s a =
    let e : c ≡ b = let f = h.whole in cc in
    subst (λ d. AreItems (45 ∷ c ∷ u) (row true (d ∷ t) ∷ is)) e
    (not_row c u t r is (subst (λ d. RowText (c ∷ u) (d ∷ t) r) (sym e) h) a)

lone_before : (u : List ℕ) → BeginsWithout IsRowByte u → ((rest : List ℕ) → u ≢ 34 ∷ rest)
    → IsLoneBefore u
lone_before [] d q = tt
lone_before (c ∷ u) d q =
    elim (white_or c) [ inl w ↦ w | inr n ↦ absurd (d (n, λ f. q u (ap (λ b. b ∷ u) f))) ]

pub hyphen_alone : (u t r : List ℕ) (is : List WebItem) → RowText u t r → t ≡ []
    → ((rest : List ℕ) → u ≢ 34 ∷ rest) → AreItems r is → AreItems (45 ∷ u) (hyphen ∷ is)
hyphen_alone u t r is h n q a =
    let f : u ≡ r = h.whole ∙ ap (λ l. l ++ r) n in
    subst (λ l. AreItems (45 ∷ l) (hyphen ∷ is)) (sym f)
    (lone_hyphen r is (lone_before r h.ends (λ rest g. q rest (f ∙ g))) a)

pub row_within : (u t r : List ℕ) → RowText u t r → length r ≤ length u
row_within u t r h = let f = ap length h.whole in let g = length-append t r in omega arith
