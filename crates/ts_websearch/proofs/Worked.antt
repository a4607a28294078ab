-- Worked web texts: their items and rows.
use Rattle.std.proofs.Common.{Some, None, ◌≡◌, ◌≢◌, inl, inr, refl, ℕ, ◌<◌, List, [], ◌∷◌, ◌++◌, Bool, true, false}
use Rattle.std.proofs.Common.{◌&&◌, ltb, codes, All, arith}
use Rattle.std.proofs.lemmas.Bool.{ltb-true}
use Rattle.std.proofs.lemmas.List.Elements.{All-nil, All-cons}
use Rattle.ts_base.specs.Bytes.{BeginsWithout}
use Rattle.ts_base.specs.Words.{lower}
use Rattle.ts_websearch.specs.Items.{WebItem, quoted, row, hyphen, IsNoQuote, IsRowByte, QuotedText, AreItems, no_item}
use Rattle.ts_websearch.specs.Items.{white_space, quotation, not_quotation, plain_row, not_row, lone_hyphen}
use Rattle.ts_query.specs.Queries.{or_joint, and_joint, joined}
use Rattle.ts_websearch.specs.Made.{text_tree, web_query}
use Rattle.ts_websearch.specs.Rows.{IsOperator, AreRows, rows_end, item_more, or_between}

-- ── letters, which are above `"` ──
abbrev are_letters : List ℕ → Bool
are_letters [] = true
are_letters (c ∷ u) = ltb 34 c && are_letters u

both : (a b : Bool) → (a && b) ≡ true → (a ≡ true) × (b ≡ true)
both true b h = (refl, h)
both false b h = absurd (let no : ⊥ = cc in no)

in_row : (c : ℕ) → 34 < c → IsRowByte c
in_row c h = ((λ w. let no : ⊥ = grind arith in no), λ e. let no : ⊥ = omega arith in no)

letters : (t : List ℕ) → are_letters t ≡ true → All IsRowByte t
letters [] h = All-nil IsRowByte
letters (c ∷ t) h =
    let p = both (ltb 34 c) (are_letters t) h in
    All-cons IsRowByte c t (in_row c (ltb-true 34 c p.0)) (letters t p.1)

no_quote : (t : List ℕ) → are_letters t ≡ true → All IsNoQuote t
no_quote [] h = All-nil IsNoQuote
no_quote (c ∷ t) h =
    let p = both (ltb 34 c) (are_letters t) h in
    All-cons IsNoQuote c t (in_row c (ltb-true 34 c p.0)).1 (no_quote t p.1)

-- ── items of letters, before what ends them ──
space_ends : (u : List ℕ) → BeginsWithout IsRowByte (32 ∷ u)
space_ends u k = k.0 (inl refl)

mark_ends : (u : List ℕ) → BeginsWithout IsRowByte (34 ∷ u)
mark_ends u k = k.1 refl

space : (u : List ℕ) (is : List WebItem) → AreItems u is → AreItems (32 ∷ u) is
space u is a = white_space 32 u is (inl refl) a

word : (c : ℕ) (t u : List ℕ) (is : List WebItem) → c ≢ 45 → are_letters (c ∷ t) ≡ true
    → BeginsWithout IsRowByte u → AreItems u is → AreItems (c ∷ (t ++ u)) (row false (c ∷ t) ∷ is)
word c t u is n h e a =
    plain_row c (t ++ u) t u is n (record { bytes = letters (c ∷ t) h; whole = refl; ends = e }) a

not_word : (c : ℕ) (t u : List ℕ) (is : List WebItem) → are_letters (c ∷ t) ≡ true
    → BeginsWithout IsRowByte u → AreItems u is → AreItems (45 ∷ c ∷ (t ++ u)) (row true (c ∷ t) ∷ is)
not_word c t u is h e a =
    not_row c (t ++ u) t u is (record { bytes = letters (c ∷ t) h; whole = refl; ends = e }) a

closed : (t r : List ℕ) → are_letters t ≡ true → QuotedText (t ++ 34 ∷ r) t r
closed t r h = record { bytes = no_quote t h; ends = inl refl }

unclosed : (t : List ℕ) → are_letters t ≡ true → QuotedText t t []
unclosed t h = record { bytes = no_quote t h; ends = inr (refl, refl) }

-- ── items ──
-- `--x -`: the second hyphen is of the row that the first negates
hyphens : AreItems (codes "--x -") (row true (codes "-x") ∷ hyphen ∷ [])
hyphens =
    not_word 45 (codes "x") (codes " -") (hyphen ∷ []) refl (space_ends (codes "-"))
    (space (codes "-") (hyphen ∷ []) (lone_hyphen [] [] tt no_item))

-- `""-"a`: a quoted item ends before the next mark, or at the end
quotations : AreItems (34 ∷ 34 ∷ 45 ∷ 34 ∷ codes "a") (quoted false [] ∷ quoted true (codes "a") ∷ [])
quotations =
    let last = not_quotation (codes "a") (codes "a") [] [] (unclosed (codes "a") refl) no_item in
    quotation (34 ∷ 45 ∷ 34 ∷ codes "a") [] (45 ∷ 34 ∷ codes "a") (quoted true (codes "a") ∷ [])
    (closed [] (45 ∷ 34 ∷ codes "a") refl) last

-- `a-"`: a hyphen within a row is of it, and a mark ends it
rows : AreItems (97 ∷ 45 ∷ 34 ∷ []) (row false (codes "a-") ∷ quoted false [] ∷ [])
rows =
    word 97 (codes "-") (34 ∷ []) (quoted false [] ∷ []) (λ e. let no : ⊥ = omega arith in no) refl
    (mark_ends []) (quotation [] [] [] [] (unclosed [] refl) no_item)

-- `-cat-dog --x`
negated_rows : AreItems (codes "-cat-dog --x")
    (row true (codes "cat-dog") ∷ row true (codes "-x") ∷ [])
negated_rows =
    not_word 99 (codes "at-dog") (codes " --x") (row true (codes "-x") ∷ []) refl
    (space_ends (codes "--x"))
    (space (codes "--x") (row true (codes "-x") ∷ [])
    (not_word 45 (codes "x") [] [] refl tt no_item))

-- what follows the word in the next text
abbrev lone_and_open : List ℕ
lone_and_open = codes " - -" ++ 34 ∷ codes "the"

abbrev lone_and_open_items : List WebItem
lone_and_open_items = hyphen ∷ quoted true (codes "the") ∷ []

lone_then_open : AreItems lone_and_open lone_and_open_items
lone_then_open =
    let opened = 45 ∷ 34 ∷ codes "the" in
    let the = quoted true (codes "the") ∷ [] in
    let last : AreItems opened the =
    not_quotation (codes "the") (codes "the") [] [] (unclosed (codes "the") refl) no_item in
    space (45 ∷ 32 ∷ opened) lone_and_open_items
    (lone_hyphen (32 ∷ opened) the (inl refl) (space opened the last))

-- `"" cat - -"the`: an empty quotation, a word, a lone hyphen, and a quotation without its end
mixed : AreItems (34 ∷ 34 ∷ (codes " cat" ++ lone_and_open))
    (quoted false [] ∷ row false (codes "cat") ∷ lone_and_open_items)
mixed =
    let items = row false (codes "cat") ∷ lone_and_open_items in
    quotation (34 ∷ (codes " cat" ++ lone_and_open)) [] (codes " cat" ++ lone_and_open) items
    (closed [] (codes " cat" ++ lone_and_open) refl)
    (space (codes "cat" ++ lone_and_open) items
    (word 99 (codes "at") lone_and_open lone_and_open_items (λ e. let no : ⊥ = omega arith in no) refl
    (space_ends (codes "- -" ++ 34 ∷ codes "the")) lone_then_open))

-- ── rows ──
abbrev plain : List ℕ → WebItem
plain text = row false text

no_or : (text : List ℕ) (a is : List WebItem) → lower text ≢ codes "or"
    → ¬ IsOperator a (plain text) is
no_or text a is n h = n h.1

some : (i : WebItem) (is : List WebItem) → i ∷ is ≢ []
some i is e = let no : ⊥ = cc in no

-- `cat or or dog`: the first `or` is between two rows, the second begins one
two_ors : AreRows []
    (plain (codes "cat") ∷ plain (codes "or") ∷ plain (codes "or") ∷ plain (codes "dog") ∷ [])
    ((plain (codes "cat") ∷ []) ∷ (plain (codes "or") ∷ plain (codes "dog") ∷ []) ∷ [])
two_ors =
    let cat = plain (codes "cat") in
    let word_or = plain (codes "or") in
    let dog = plain (codes "dog") in
    item_more [] cat (word_or ∷ word_or ∷ dog ∷ []) ((cat ∷ []) ∷ (word_or ∷ dog ∷ []) ∷ [])
    (λ h. h.0 refl)
    (or_between (cat ∷ []) word_or (word_or ∷ dog ∷ []) ((word_or ∷ dog ∷ []) ∷ [])
    (some cat [], refl, some word_or (dog ∷ []))
    (item_more [] word_or (dog ∷ []) ((word_or ∷ dog ∷ []) ∷ []) (λ h. h.0 refl)
    (item_more (word_or ∷ []) dog [] ((word_or ∷ dog ∷ []) ∷ []) (λ h. h.2 refl)
    (rows_end (word_or ∷ dog ∷ [])))))

-- `cat OR -or`: capitals count as small letters, and what is negated is a word
loud_or : AreRows [] (plain (codes "cat") ∷ plain (codes "OR") ∷ row true (codes "or") ∷ [])
    ((plain (codes "cat") ∷ []) ∷ (row true (codes "or") ∷ []) ∷ [])
loud_or =
    let cat = plain (codes "cat") in
    let loud = plain (codes "OR") in
    let not_or = row true (codes "or") in
    item_more [] cat (loud ∷ not_or ∷ []) ((cat ∷ []) ∷ (not_or ∷ []) ∷ []) (λ h. h.0 refl)
    (or_between (cat ∷ []) loud (not_or ∷ []) ((not_or ∷ []) ∷ [])
    (some cat [], refl, some not_or [])
    (item_more [] not_or [] ((not_or ∷ []) ∷ []) (λ h. h.0 refl) (rows_end (not_or ∷ []))))

-- `or cat or`: the first item and the last are words
or_around : AreRows [] (plain (codes "or") ∷ plain (codes "cat") ∷ plain (codes "or") ∷ [])
    ((plain (codes "or") ∷ plain (codes "cat") ∷ plain (codes "or") ∷ []) ∷ [])
or_around =
    let cat = plain (codes "cat") in
    let word_or = plain (codes "or") in
    item_more [] word_or (cat ∷ word_or ∷ []) ((word_or ∷ cat ∷ word_or ∷ []) ∷ []) (λ h. h.0 refl)
    (item_more (word_or ∷ []) cat (word_or ∷ []) ((word_or ∷ cat ∷ word_or ∷ []) ∷ [])
    (no_or (codes "cat") (word_or ∷ []) (word_or ∷ []) (λ e. let no : ⊥ = cc in no))
    (item_more (word_or ∷ cat ∷ []) word_or [] ((word_or ∷ cat ∷ word_or ∷ []) ∷ []) (λ h. h.2 refl)
    (rows_end (word_or ∷ cat ∷ word_or ∷ []))))

-- a quoted `or` is no operator
quoted_or : (a is : List WebItem) → ¬ IsOperator a (quoted false (codes "or")) is
quoted_or a is h = h.1

-- ── queries ──
-- `cat or or dog`: `|` is looser than `&`
two_ors_query : web_query
    ((plain (codes "cat") ∷ []) ∷ (plain (codes "or") ∷ plain (codes "dog") ∷ []) ∷ [])
    ≡ Some (joined or_joint (text_tree false (codes "cat"))
    (joined and_joint (text_tree false (codes "or")) (text_tree false (codes "dog"))))
two_ors_query = refl

-- `cat OR -or`
loud_or_query : web_query ((plain (codes "cat") ∷ []) ∷ (row true (codes "or") ∷ []) ∷ [])
    ≡ Some (joined or_joint (text_tree false (codes "cat")) (text_tree true (codes "or")))
loud_or_query = refl

-- both operators join from the left, and a lone hyphen stands for no text
joined_from_the_left : web_query
    ((plain (codes "a") ∷ hyphen ∷ plain (codes "b") ∷ []) ∷ (plain (codes "c") ∷ []) ∷
    (plain (codes "d") ∷ []) ∷ [])
    ≡ Some (joined or_joint (joined or_joint
    (joined and_joint (joined and_joint (text_tree false (codes "a")) (text_tree false []))
    (text_tree false (codes "b")))
    (text_tree false (codes "c"))) (text_tree false (codes "d")))
joined_from_the_left = refl

-- a text without items is the empty query
empty_query : web_query ([] ∷ []) ≡ None
empty_query = refl
