-- A web text has one list of items.
use Rattle.std.proofs.Common.{◌≡◌, ◌≢◌, ◌⊎◌, inl, inr, ℕ, zero, suc, ◌<◌, ◌≤◌, List, [], ◌∷◌, ◌++◌, length, refl, sym}
use Rattle.std.proofs.Common.{subst, ap, ◌∙◌, Bool, true, false, arith}
use Rattle.std.proofs.lemmas.List.Elements.{All-nil, All-cons, All-head}
use Rattle.ts_base.specs.Bytes.{IsWhite, BeginsWithout}
use Rattle.ts_base.proofs.ByteKinds.{same_or, white_or}
use Rattle.ts_base.proofs.Fronts.{same_front}
use Rattle.ts_websearch.specs.Items.{WebItem, quoted, row, hyphen, IsNoQuote, IsRowByte, QuotedText, RowText}
use Rattle.ts_websearch.specs.Items.{IsLoneBefore, AreItems, no_item, white_space, quotation, not_quotation, plain_row}
use Rattle.ts_websearch.specs.Items.{not_row, lone_hyphen}
use Rattle.ts_websearch.specs.Laws.{ItemsAreOne}

-- ── kinds of bytes ──
data ByteKind (c : ℕ) : Type 0 where
  white_byte : IsWhite c → ByteKind c
  quote_byte : c ≡ 34 → ByteKind c
  hyphen_byte : c ≡ 45 → ByteKind c
  other_byte : IsRowByte c → c ≢ 45 → ByteKind c

quote_dark : ¬ IsWhite 34
quote_dark h = grind arith

hyphen_dark : ¬ IsWhite 45
hyphen_dark h = grind arith

hyphen_in_row : IsRowByte 45
hyphen_in_row = (hyphen_dark, λ e. let no : ⊥ = omega arith in no)

byte_kind : (c : ℕ) → ByteKind c
byte_kind c = elim (white_or c) [
  | inl w ↦ white_byte w
  | inr d ↦ elim (same_or c 34) [
    | inl e ↦ quote_byte e
    | inr n ↦ elim (same_or c 45) [
      | inl e ↦ hyphen_byte e
      | inr m ↦ other_byte (d, n) m
    ]
  ]
]

row_byte_or : (c : ℕ) → IsRowByte c ⊎ (¬ IsRowByte c)
row_byte_or c = elim (white_or c) [
  | inl w ↦ inr (λ k. k.0 w)
  | inr d ↦ elim (same_or c 34) [ inl e ↦ inr (λ k. k.1 e) | inr n ↦ inl (d, n) ]
]

-- ── a text in quotes ──
record QuotedCut (u : List ℕ) : Type 0 where
  text : List ℕ
  behind : List ℕ
  reads : QuotedText u text behind
  within : length behind ≤ length u

quoted_cut : (u : List ℕ) → QuotedCut u
quoted_cut [] = record {
  text = [];
  behind = [];
  reads = record { bytes = All-nil IsNoQuote; ends = inr (refl, refl) };
  within = omega arith;
}
quoted_cut (c ∷ u) = elim (same_or c 34) [
  | inl e ↦ record {
    text = [];
    behind = u;
    reads = record { bytes = All-nil IsNoQuote; ends = inl (ap (λ d. d ∷ u) e) };
    within = omega arith;
  }
  | inr n ↦ (let q = quoted_cut u in let w = q.within in record {
    text = c ∷ q.text;
    behind = q.behind;
    reads = record {
      bytes = All-cons IsNoQuote c q.text n q.reads.bytes;
      ends = elim q.reads.ends [
        | inl e ↦ inl (ap (λ l. c ∷ l) e)
        | inr e ↦ inr (ap (λ l. c ∷ l) e.0, e.1)
      ];
    };
    within = omega arith;
  })
]

-- what is after the text: the mark and what follows it, or nothing
record Ended (u t r : List ℕ) : Type 0 where
  end : List ℕ
  whole : u ≡ t ++ end
  begins : BeginsWithout IsNoQuote end
  is : (end ≡ 34 ∷ r) ⊎ ((end ≡ []) × (r ≡ []))

nothing_more : (l : List ℕ) → l ≡ l ++ []
nothing_more [] = refl
nothing_more (c ∷ l) = ap (λ k. c ∷ k) (nothing_more l)

ended : (u t r : List ℕ) → QuotedText u t r → Ended u t r
ended u t r q = elim q.ends [
  | inl e ↦ record { end = 34 ∷ r; whole = e; begins = (λ n. n refl); is = inl refl }
  | inr e ↦ record { end = []; whole = e.0 ∙ nothing_more t; begins = tt; is = inr (refl, e.1) }
]

same_rest : (a b r s : List ℕ) → a ≡ b → (a ≡ 34 ∷ r) ⊎ ((a ≡ []) × (r ≡ []))
    → (b ≡ 34 ∷ s) ⊎ ((b ≡ []) × (s ≡ [])) → r ≡ s
same_rest a b r s e (inl f) (inl g) = cc
same_rest a b r s e (inl f) (inr g) = absurd (let h = g.0 in let no : ⊥ = cc in no)
same_rest a b r s e (inr f) (inl g) = absurd (let h = f.0 in let no : ⊥ = cc in no)
same_rest a b r s e (inr f) (inr g) = f.1 ∙ sym g.1

quoted_one : (u t r s q : List ℕ) → QuotedText u t r → QuotedText u s q → (t ≡ s) × (r ≡ q)
quoted_one u t r s q h k =
    let a = ended u t r h in
    let b = ended u s q k in
    let f = same_front IsNoQuote t s a.end b.end h.bytes k.bytes a.begins b.begins
    (sym a.whole ∙ b.whole) in
    (f.0, same_rest a.end b.end r q f.1 a.is b.is)

-- ── a row ──
record RowCut (u : List ℕ) : Type 0 where
  text : List ℕ
  behind : List ℕ
  reads : RowText u text behind
  within : length behind ≤ length u

row_cut : (u : List ℕ) → RowCut u
row_cut [] = record {
  text = [];
  behind = [];
  reads = record { bytes = All-nil IsRowByte; whole = refl; ends = tt };
  within = omega arith;
}
row_cut (c ∷ u) = elim (row_byte_or c) [
  | inl k ↦ (let q = row_cut u in let w = q.within in record {
    text = c ∷ q.text;
    behind = q.behind;
    reads = record {
      bytes = All-cons IsRowByte c q.text k q.reads.bytes;
      whole = ap (λ l. c ∷ l) q.reads.whole;
      ends = q.reads.ends;
    };
    within = omega arith;
  })
  | inr n ↦ record {
    text = [];
    behind = c ∷ u;
    reads = record { bytes = All-nil IsRowByte; whole = refl; ends = n };
    within = omega arith;
  }
]

row_one : (u t r s q : List ℕ) → RowText u t r → RowText u s q → (t ≡ s) × (r ≡ q)
row_one u t r s q h k =
    same_front IsRowByte t s r q h.bytes k.bytes h.ends k.ends (sym h.whole ∙ k.whole)

-- ── what a text goes on as ──
-- one item of a text that is cut off so, and others after it
record Begins (i : List ℕ → WebItem) (R : List ℕ → List ℕ → Type 0) (items : List WebItem) : Type 0 where
  text : List ℕ
  behind : List ℕ
  others : List WebItem
  are : items ≡ i text ∷ others
  reads : R text behind
  rest : AreItems behind others

-- one item, and others after it
record After (i : WebItem) (u : List ℕ) (items : List WebItem) : Type 0 where
  others : List WebItem
  are : items ≡ i ∷ others
  rest : AreItems u others

-- the row that begins with c
abbrev RowFrom : ℕ → List ℕ → List ℕ → List ℕ → Type 0
RowFrom c u t r = RowText (c ∷ u) (c ∷ t) r

first_byte : (c : ℕ) (u t r : List ℕ) → RowFrom c u t r → IsRowByte c
first_byte c u t r h = All-head IsRowByte c t h.bytes

white_on : (c : ℕ) (u : List ℕ) (is : List WebItem) → IsWhite c → AreItems (c ∷ u) is → AreItems u is
white_on c u is w (white_space c2 u2 is2 w2 a) = a
white_on c u is w (quotation u2 t r is2 q a) = absurd (quote_dark w)
white_on c u is w (not_quotation u2 t r is2 q a) = absurd (hyphen_dark w)
white_on c u is w (plain_row c2 u2 t r is2 n q a) = absurd ((first_byte c u t r q).0 w)
white_on c u is w (not_row c2 u2 t r is2 q a) = absurd (hyphen_dark w)
white_on c u is w (lone_hyphen u2 is2 l a) = absurd (hyphen_dark w)

quote_on : (u : List ℕ) (is : List WebItem) → AreItems (34 ∷ u) is
    → Begins (quoted false) (QuotedText u) is
quote_on u is (white_space c2 u2 is2 w a) = absurd (quote_dark w)
quote_on u is (quotation u2 t r is2 q a) =
    record { text = t; behind = r; others = is2; are = refl; reads = q; rest = a }
quote_on u is (plain_row c2 u2 t r is2 n q a) = absurd ((first_byte 34 u t r q).1 refl)

row_on : (c : ℕ) (u : List ℕ) (is : List WebItem) → IsRowByte c → c ≢ 45 → AreItems (c ∷ u) is
    → Begins (λ t. row false (c ∷ t)) (RowFrom c u) is
row_on c u is k n (white_space c2 u2 is2 w a) = absurd (k.0 w)
row_on c u is k n (quotation u2 t r is2 q a) = absurd (k.1 refl)
row_on c u is k n (not_quotation u2 t r is2 q a) = absurd (n refl)
row_on c u is k n (plain_row c2 u2 t r is2 m q a) =
    record { text = t; behind = r; others = is2; are = refl; reads = q; rest = a }
row_on c u is k n (not_row c2 u2 t r is2 q a) = absurd (n refl)
row_on c u is k n (lone_hyphen u2 is2 l a) = absurd (n refl)

hyphen_ends : (is : List WebItem) → AreItems (45 ∷ []) is → After hyphen [] is
hyphen_ends is (white_space c2 u2 is2 w a) = absurd (hyphen_dark w)
hyphen_ends is (plain_row c2 u2 t r is2 n q a) = absurd (n refl)
hyphen_ends is (lone_hyphen u2 is2 l a) = record { others = is2; are = refl; rest = a }

hyphen_white : (c : ℕ) (u : List ℕ) (is : List WebItem) → IsWhite c → AreItems (45 ∷ c ∷ u) is
    → After hyphen (c ∷ u) is
hyphen_white c u is w (white_space c2 u2 is2 w2 a) = absurd (hyphen_dark w2)
hyphen_white c u is w (not_quotation u2 t r is2 q a) = absurd (quote_dark w)
hyphen_white c u is w (plain_row c2 u2 t r is2 n q a) = absurd (n refl)
hyphen_white c u is w (not_row c2 u2 t r is2 q a) = absurd ((first_byte c u t r q).0 w)
hyphen_white c u is w (lone_hyphen u2 is2 l a) = record { others = is2; are = refl; rest = a }

hyphen_quote : (u : List ℕ) (is : List WebItem) → AreItems (45 ∷ 34 ∷ u) is
    → Begins (quoted true) (QuotedText u) is
hyphen_quote u is (white_space c2 u2 is2 w2 a) = absurd (hyphen_dark w2)
hyphen_quote u is (not_quotation u2 t r is2 q a) =
    record { text = t; behind = r; others = is2; are = refl; reads = q; rest = a }
hyphen_quote u is (plain_row c2 u2 t r is2 n q a) = absurd (n refl)
hyphen_quote u is (not_row c2 u2 t r is2 q a) = absurd ((first_byte 34 u t r q).1 refl)
hyphen_quote u is (lone_hyphen u2 is2 l a) = absurd (quote_dark l)

hyphen_row : (c : ℕ) (u : List ℕ) (is : List WebItem) → IsRowByte c → AreItems (45 ∷ c ∷ u) is
    → Begins (λ t. row true (c ∷ t)) (RowFrom c u) is
hyphen_row c u is k (white_space c2 u2 is2 w2 a) = absurd (hyphen_dark w2)
hyphen_row c u is k (not_quotation u2 t r is2 q a) = absurd (k.1 refl)
hyphen_row c u is k (plain_row c2 u2 t r is2 n q a) = absurd (n refl)
hyphen_row c u is k (not_row c2 u2 t r is2 q a) =
    record { text = t; behind = r; others = is2; are = refl; reads = q; rest = a }
hyphen_row c u is k (lone_hyphen u2 is2 l a) = absurd (k.0 l)

-- ── one list ──
record One (G : List WebItem → Type 0) : Type 0 where
  items : List WebItem
  are : G items
  only : (others : List WebItem) → G others → others ≡ items

-- what goes on as G does
carried : (G H : List WebItem → Type 0) → One G → ((is : List WebItem) → G is → H is)
    → ((is : List WebItem) → H is → G is) → One H
carried G H g to from =
    record { items = g.items; are = to g.items g.are; only = λ js h. g.only js (from js h) }

-- an item, and then what has one list
after_one : (i : WebItem) (u : List ℕ) (H : List WebItem → Type 0) → One (AreItems u)
    → ((is : List WebItem) → AreItems u is → H (i ∷ is)) → ((is : List WebItem) → H is → After i u is)
    → One H
after_one i u H g to from = record {
  items = i ∷ g.items;
  are = to g.items g.are;
  only = λ js h. let a = from js h in a.are ∙ ap (λ l. i ∷ l) (g.only a.others a.rest);
}

-- an item that is cut off in one way, and then what has one list
cut_one : (i : List ℕ → WebItem) (R : List ℕ → List ℕ → Type 0) (H : List WebItem → Type 0)
    (t r : List ℕ) → R t r → ((s q : List ℕ) → R s q → (s ≡ t) × (q ≡ r)) → One (AreItems r)
    → ((is : List WebItem) → AreItems r is → H (i t ∷ is))
    → ((is : List WebItem) → H is → Begins i R is) → One H
cut_one i R H t r h one g to from = record {
  items = i t ∷ g.items;
  are = to g.items g.are;
  only = λ js k.
      let b = from js k in
      let e = one b.text b.behind b.reads in
      b.are ∙ ap (λ s. i s ∷ b.others) e.0
      ∙ ap (λ l. i t ∷ l) (g.only b.others (subst (λ v. AreItems v b.others) e.1 b.rest));
}

-- what is no longer than u has one list
abbrev OneUpTo : List ℕ → Type 0
OneUpTo u = (v : List ℕ) → length v ≤ length u → One (AreItems v)

quotation_one : (b : Bool) (u : List ℕ) (H : List WebItem → Type 0) → OneUpTo u
    → ((t r : List ℕ) (is : List WebItem) → QuotedText u t r → AreItems r is → H (quoted b t ∷ is))
    → ((is : List WebItem) → H is → Begins (quoted b) (QuotedText u) is) → One H
quotation_one b u H o to from =
    let q = quoted_cut u in
    cut_one (quoted b) (QuotedText u) H q.text q.behind q.reads
    (λ s p k. quoted_one u s p q.text q.behind k q.reads) (o q.behind q.within)
    (λ is a. to q.text q.behind is q.reads a) from

row_from_one : (c : ℕ) (u t r s q : List ℕ) → RowFrom c u t r → RowFrom c u s q → (t ≡ s) × (r ≡ q)
row_from_one c u t r s q h k =
    let e = row_one (c ∷ u) (c ∷ t) r (c ∷ s) q h k in
    let f : c ∷ t ≡ c ∷ s = e.0 in
    let g : t ≡ s = cc in
    (g, e.1)

row_of_one : (b : Bool) (c : ℕ) (u : List ℕ) (H : List WebItem → Type 0) → IsRowByte c → OneUpTo u
    → ((t r : List ℕ) (is : List WebItem) → RowFrom c u t r → AreItems r is → H (row b (c ∷ t) ∷ is))
    → ((is : List WebItem) → H is → Begins (λ t. row b (c ∷ t)) (RowFrom c u) is) → One H
row_of_one b c u H k o to from =
    let q = row_cut u in
    let h : RowFrom c u q.text q.behind = record {
      bytes = All-cons IsRowByte c q.text k q.reads.bytes;
      whole = ap (λ l. c ∷ l) q.reads.whole;
      ends = q.reads.ends;
    } in
    cut_one (λ t. row b (c ∷ t)) (RowFrom c u) H q.text q.behind h
    (λ s p j. row_from_one c u s p q.text q.behind j h) (o q.behind q.within)
    (λ is a. to q.text q.behind is h a) from

lone_one : (u : List ℕ) → IsLoneBefore u → One (AreItems u)
    → ((is : List WebItem) → AreItems (45 ∷ u) is → After hyphen u is) → One (AreItems (45 ∷ u))
lone_one u l g from =
    after_one hyphen u (AreItems (45 ∷ u)) g (λ is h. lone_hyphen u is l h) from

-- ── by the first byte ──
no_items : (js : List WebItem) → AreItems [] js → js ≡ []
no_items js no_item = refl

none_one : One (AreItems [])
none_one = record { items = []; are = no_item; only = λ js h. no_items js h }

hyphen_row_one : (c : ℕ) (u : List ℕ) → IsRowByte c → OneUpTo u → One (AreItems (45 ∷ c ∷ u))
hyphen_row_one c u k o =
    row_of_one true c u (AreItems (45 ∷ c ∷ u)) k o (λ t r is h a. not_row c u t r is h a)
    (λ is h. hyphen_row c u is k h)

behind_hyphen : (c : ℕ) (u : List ℕ) → ByteKind c → OneUpTo (c ∷ u) → One (AreItems (45 ∷ c ∷ u))
behind_hyphen c u (white_byte w) o =
    lone_one (c ∷ u) w (o (c ∷ u) (omega arith)) (λ is h. hyphen_white c u is w h)
behind_hyphen c u (quote_byte e) o =
    subst (λ d. One (AreItems (45 ∷ d ∷ u))) (sym e)
    (quotation_one true u (AreItems (45 ∷ 34 ∷ u)) (λ v l. o v (omega arith))
    (λ t r is h a. not_quotation u t r is h a) (λ is h. hyphen_quote u is h))
behind_hyphen c u (hyphen_byte e) o =
    hyphen_row_one c u (subst IsRowByte (sym e) hyphen_in_row) (λ v l. o v (omega arith))
behind_hyphen c u (other_byte k n) o = hyphen_row_one c u k (λ v l. o v (omega arith))

hyphen_one : (u : List ℕ) → OneUpTo u → One (AreItems (45 ∷ u))
hyphen_one [] o = lone_one [] tt none_one (λ is h. hyphen_ends is h)
hyphen_one (c ∷ u) o = behind_hyphen c u (byte_kind c) o

first_one : (c : ℕ) (u : List ℕ) → ByteKind c → OneUpTo u → One (AreItems (c ∷ u))
first_one c u (white_byte w) o =
    carried (AreItems u) (AreItems (c ∷ u)) (o u (omega arith)) (λ is h. white_space c u is w h)
    (λ is h. white_on c u is w h)
first_one c u (quote_byte e) o =
    subst (λ d. One (AreItems (d ∷ u))) (sym e)
    (quotation_one false u (AreItems (34 ∷ u)) o (λ t r is h a. quotation u t r is h a)
    (λ is h. quote_on u is h))
first_one c u (hyphen_byte e) o = subst (λ d. One (AreItems (d ∷ u))) (sym e) (hyphen_one u o)
first_one c u (other_byte k n) o =
    row_of_one false c u (AreItems (c ∷ u)) k o (λ t r is h a. plain_row c u t r is n h a)
    (λ is h. row_on c u is k n h)

one_below : (n : ℕ) (u : List ℕ) → length u < n → One (AreItems u)
one_below zero u h = absurd (let no : ⊥ = omega arith in no)
one_below (suc n) [] h = none_one
one_below (suc n) (c ∷ u) h = first_one c u (byte_kind c) (λ v l. one_below n v (omega arith))

pub items_are_one : ItemsAreOne
items_are_one text =
    let o = one_below (suc (length text)) text (omega arith) in
    record { items = o.items; are = o.are; only = o.only }
