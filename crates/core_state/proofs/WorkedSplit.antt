-- The rule of Split at a leaf that no division halves: the longest first part that fits stays.
use Rattle.std.proofs.Common.{◌≡◌, ◌≢◌, ◌⊎◌, ℕ, zero, suc, ◌+◌, ◌<◌, ◌≤◌, List, [], ◌∷◌, ◌++◌, length, get_or}
use Rattle.std.proofs.Common.{replicate, refl, sym, ap, ap₂, subst, ◌∙◌, inl, inr, arith}
use Rattle.std.specs.List.{flat_map}
use Rattle.std.proofs.lemmas.List.{length-append, length-replicate}
use Rattle.ts_base.specs.Keys.{Key}
use Rattle.page_types.specs.Numbers.{u16_bytes}
use Rattle.page_types.specs.Keys.{KeyLess}
use Rattle.page_types.specs.Encoding.{key_field, entry_bytes, high_key_bytes, count_of}
use Rattle.page_types.specs.Views.{free_page, entries_in}
use Rattle.page_types.specs.declared.page.Page.{Page}
use Rattle.page_types.specs.declared.page.Entry.{Entry}
use Rattle.page_types.specs.declared.page.EntryChild.{EntryChild}
use Rattle.page_types.specs.declared.page.Postings.TheVariants.{Inline}
use Rattle.page_types.specs.declared.page.Body.{Body}
use Rattle.page_types.specs.declared.page.Body.TheVariants as body
use Rattle.page_types.specs.declared.page.PostChild.{PostChild}
use Rattle.page_types.specs.declared.record.Record.{Record}
use Rattle.page_types.specs.declared.record.Kind.TheVariants as kind
use Rattle.page_types.proofs.Framing.{length-u16_bytes}
use Rattle.core_state.specs.Log.{Log, Pages, In}
use Rattle.core_state.specs.Known.{use_in}
use Rattle.core_state.specs.Changes.{IsNew}
use Rattle.core_state.specs.TreeRules.{EntryHalves, Halves, KeepsHalf, FitsPage, IsSplitPlace, IsDivided, IsSplit}
use Rattle.core_state.specs.declared.answers.PageUse.TheVariants as usage
use Rattle.core_state.proofs.Worked.{meta_page, image}

-- four entries of such sizes, of which the third has the longest key
pub record AreLarge (a b c d : Entry) : Type 0 where
  pub first : length (entry_bytes a) ≡ 61
  pub second : length (entry_bytes b) ≡ 3052
  pub third : length (entry_bytes c) ≡ 3052
  pub fourth : length (entry_bytes d) ≡ 2003
  pub second_key : length b.key ≡ 2047
  pub third_key : length c.key ≡ 2047

-- the last leaf with these entries, and a first part of it
abbrev pub leaf : List Entry → Body
leaf entries = body.EntryLeaf [] entries

abbrev part : List Entry → Entry → Body
part front last = body.EntryLeaf last.key (front ++ last ∷ [])

listed : (e : Entry) (es : List Entry) → length (flat_map entry_bytes (e ∷ es)) ≡ length (entry_bytes e) + length
    (flat_map entry_bytes es)
listed e es = length-append (entry_bytes e) (flat_map entry_bytes es)

none_listed : length (flat_map entry_bytes []) ≡ 0
none_listed = refl

high_size : (k : Key) → 0 < length k → length (high_key_bytes k) ≡ 2 + length k
unfolding key_field
high_size [] some = absurd (omega (arith, some))
high_size (b ∷ bs) some = omega
    (arith, length-append (u16_bytes (length (b ∷ bs))) (b ∷ bs), length-u16_bytes (length (b ∷ bs)))

-- the first parts of four entries
first_parts : (a b c d last : Entry) (front back : List Entry) → back ≢ [] → a ∷ b ∷ c ∷ d ∷ [] ≡ front ++ last ∷ back
    → (part front last ≡ part [] a) ⊎ ((part front last ≡ part (a ∷ []) b) ⊎ (part front last ≡ part (a ∷ b ∷ []) c))
first_parts a b c d last [] back some e = inl (ap (part []) (sym (ap (λ es. get_or es 0 a) e)))
first_parts a b c d last
    (x ∷ []) back some e = inr (inl
    (ap₂ (λ y z. part (y ∷ []) z) (sym (ap (λ es. get_or es 0 a) e)) (sym (ap (λ es. get_or es 1 a) e))))
first_parts a b c d last (x ∷ y ∷ []) back some e =
    let x_is : x ≡ a = sym (ap (λ es. get_or es 0 a) e) in
    let y_is : y ≡ b = sym (ap (λ es. get_or es 1 a) e) in
    let last_is : last ≡ c = sym (ap (λ es. get_or es 2 a) e) in
    inr (inr (ap (λ z. part (z ∷ y ∷ []) last) x_is ∙ ap₂ (λ z w. part (a ∷ z ∷ []) w) y_is last_is))
first_parts a b c d last (x ∷ y ∷ z ∷ []) [] some e = absurd (some refl)
first_parts a b c d last (x ∷ y ∷ z ∷ []) (w ∷ ws) some e =
    let n : 4 ≡ suc (suc (suc (suc (suc (length ws))))) = ap length e in
    absurd (omega (arith, n))
first_parts a b c d last (x ∷ y ∷ z ∷ w ∷ ws) back some e =
    let n : 4 ≡ suc (suc (suc (suc (length (ws ++ last ∷ back))))) = ap length e in
    absurd (omega (arith, n, length-append ws (last ∷ back)))

not_inner : (children : List EntryChild) (high : Key) (entries : List Entry)
    → body.EntryInner children ≡ body.EntryLeaf high entries → ⊥
not_inner children high entries e = cc

not_postings : (high : ℕ) (items : List ℕ) (key : Key) (entries : List Entry)
    → body.PostLeaf high items ≡ body.EntryLeaf key entries → ⊥
not_postings high items key entries e = cc

not_post_inner : (children : List PostChild) (key : Key) (entries : List Entry)
    → body.PostInner children ≡ body.EntryLeaf key entries → ⊥
not_post_inner children key entries e = cc

left_is : (a b c d : Entry) (whole l r : Body) → Halves whole l r → whole ≡ leaf (a ∷ b ∷ c ∷ d ∷ [])
    → (l ≡ part [] a) ⊎ ((l ≡ part (a ∷ []) b) ⊎ (l ≡ part (a ∷ b ∷ []) c))
left_is a b c d whole l r (Halves.of_leaf high last front back some) e = first_parts a b c d last front back some
    (sym (ap entries_in e))
left_is a b c d whole l r (Halves.of_inner mid children h) e = absurd (not_inner children [] _ e)
left_is a b c d whole l r (Halves.of_post_leaf high mid items front back f g h) e = absurd
    (not_postings high items [] _ e)
left_is a b c d whole l r (Halves.of_post_inner mid children h) e = absurd (not_post_inner children [] _ e)

-- three of them don't fit, and two are less than half
three_are_too_many : (a b c d : Entry) → AreLarge a b c d → FitsPage (part (a ∷ b ∷ []) c) → ⊥
three_are_too_many a b c d s fits =
    omega (
      arith,
      fits,
      length-append (high_key_bytes c.key) (flat_map entry_bytes (a ∷ b ∷ c ∷ [])),
      high_size c.key (omega (arith, s.third_key)),
      listed a (b ∷ c ∷ []),
      listed b (c ∷ []),
      listed c [],
      none_listed,
      s.first,
      s.second,
      s.third,
      s.third_key,
    )

pub all_listed : (a b c d : Entry) → AreLarge a b c d → length (flat_map entry_bytes (a ∷ b ∷ c ∷ d ∷ [])) ≡ 8168
all_listed a b c d s = omega (
  arith,
  listed a (b ∷ c ∷ d ∷ []),
  listed b (c ∷ d ∷ []),
  listed c
      (d ∷ []),
  listed d [],
  none_listed,
  s.first,
  s.second,
  s.third,
  s.fourth,
)

two_are_less : (a b c d : Entry) → AreLarge a b c d → KeepsHalf (leaf (a ∷ b ∷ c ∷ d ∷ [])) (part (a ∷ []) b) → ⊥
two_are_less a b c d s keeps = omega
    (arith, keeps, all_listed a b c d s, listed a (b ∷ []), listed b [], none_listed, s.first, s.second)

one_is_less : (a b c d : Entry) → AreLarge a b c d → KeepsHalf (leaf (a ∷ b ∷ c ∷ d ∷ [])) (part [] a) → ⊥
one_is_less a b c d s keeps = omega (arith, keeps, all_listed a b c d s, listed a [], none_listed, s.first)

two_fit : (a b c d : Entry) → AreLarge a b c d → FitsPage (part (a ∷ []) b)
two_fit a b c d s =
    omega (
      arith,
      length-append (high_key_bytes b.key) (flat_map entry_bytes (a ∷ b ∷ [])),
      high_size b.key
          (omega (arith, s.second_key)),
      listed a (b ∷ []),
      listed b [],
      none_listed,
      s.first,
      s.second,
      s.second_key,
    )

no_half : (a b c d : Entry) → AreLarge a b c d → (l r : Body) → Halves (leaf (a ∷ b ∷ c ∷ d ∷ [])) l r
    → KeepsHalf (leaf (a ∷ b ∷ c ∷ d ∷ [])) l → FitsPage l → ⊥
no_half a b c d s l r h keeps fits = elim (left_is a b c d (leaf (a ∷ b ∷ c ∷ d ∷ [])) l r h refl) [
  | inl e ↦ one_is_less a b c d s (subst (KeepsHalf (leaf (a ∷ b ∷ c ∷ d ∷ []))) e keeps)
  | inr f ↦ elim f [
    | inl e ↦ two_are_less a b c d s (subst (KeepsHalf (leaf (a ∷ b ∷ c ∷ d ∷ []))) e keeps)
    | inr e ↦ three_are_too_many a b c d s (subst FitsPage e fits)
  ]
]

no_longer : (a b c d : Entry) → AreLarge a b c d → (l r : Body) → Halves (leaf (a ∷ b ∷ c ∷ d ∷ [])) l r → FitsPage l
    → count_of l ≤ 2
no_longer a b c d s l r h fits = elim (left_is a b c d (leaf (a ∷ b ∷ c ∷ d ∷ [])) l r h refl) [
  | inl e ↦ subst (λ x. count_of x ≤ 2) (sym e) (omega arith)
  | inr f ↦ elim f [
    | inl e ↦ subst (λ x. count_of x ≤ 2) (sym e) (omega arith)
    | inr e ↦ absurd (three_are_too_many a b c d s (subst FitsPage e fits))
  ]
]

-- so two may stay
two_stay : (a b c d : Entry) → AreLarge a b c d → IsSplitPlace (leaf (a ∷ b ∷ c ∷ d ∷ [])) (part (a ∷ []) b)
two_stay a b c d s = IsSplitPlace.longest (λ l r h keeps fits other. no_half a b c d s l r h keeps fits)
    (λ l r h fits. no_longer a b c d s l r h fits)

-- and not one alone
not_one : (a b c d : Entry) → AreLarge a b c d → IsSplitPlace (leaf (a ∷ b ∷ c ∷ d ∷ [])) (part [] a) → ⊥
not_one a b c d s (IsSplitPlace.half keeps) = one_is_less a b c d s keeps
not_one a b c d s (IsSplitPlace.longest none most) =
    let more : 2 ≤ 1 = most (part (a ∷ []) b) (leaf (c ∷ d ∷ []))
    (Halves.of_leaf [] b (a ∷ []) (c ∷ d ∷ []) (λ e. cc)) (two_fit a b c d s) in
    omega (arith, more)

-- the pages before the split and after it
abbrev pub child : ℕ → Key → EntryChild
child page bound = record { page = page; bound = bound }

abbrev before : List Entry → Pages
before entries zero = meta_page
before entries (suc zero) = record { right = 0; stamp = 8; body = body.EntryInner (child 2 [] ∷ []) }
before entries (suc (suc zero)) = record { right = 0; stamp = 8; body = leaf entries }
before entries (suc (suc (suc p))) = free_page

abbrev parent_page : Key → Page
parent_page mid = record { right = 0; stamp = 9; body = body.EntryInner (child 2 mid ∷ child 3 [] ∷ []) }

abbrev left_page : Entry → Entry → Page
left_page a b = record { right = 3; stamp = 9; body = part (a ∷ []) b }

abbrev right_page : Entry → Entry → Page
right_page c d = record { right = 0; stamp = 9; body = leaf (c ∷ d ∷ []) }

abbrev behind : Entry → Entry → Entry → Entry → Pages
behind a b c d zero = meta_page
behind a b c d (suc zero) = parent_page b.key
behind a b c d (suc (suc zero)) = left_page a b
behind a b c d (suc (suc (suc zero))) = right_page c d
behind a b c d (suc (suc (suc (suc p)))) = free_page

abbrev split_record : Entry → Entry → Entry → Entry → Record
split_record a b c d = record {
  number = 9;
  xid = 0;
  kind = kind.Split;
  changes = image 2 (left_page a b) ∷ image 3
      (right_page c d) ∷ image 1 (parent_page b.key) ∷ [];
}

used_below : (entries : List Entry) (q : ℕ) → q < 3 → use_in (before entries) q ≢ usage.Unused
used_below entries zero l e = cc
used_below entries (suc zero) l e = cc
used_below entries (suc (suc zero)) l e = cc
used_below entries (suc (suc (suc q))) l e = absurd (omega (arith, l))

-- the keys rise
record KeysRise (a b c d : Entry) : Type 0 where
  pub first : KeyLess a.key b.key
  pub third : KeyLess b.key c.key
  pub fourth : KeyLess b.key d.key

divided : (a b c d : Entry) → KeysRise a b c d → EntryHalves b.key (leaf (a ∷ b ∷ c ∷ d ∷ [])) (part (a ∷ []) b)
    (leaf (c ∷ d ∷ []))
divided a b c d k = EntryHalves.leaves [] (a ∷ b ∷ []) (c ∷ d ∷ []) (λ e. cc) (λ e. cc) at_most above
  where
    at_most : (e : Entry) → In e (a ∷ b ∷ []) → (KeyLess e.key b.key) ⊎ (e.key ≡ b.key)
    at_most e (inl f) = inl (subst (λ (x : Entry). KeyLess x.key b.key) (sym f) k.first)
    at_most e (inr (inl f)) = inr (ap (λ (x : Entry). x.key) f)
    at_most e (inr (inr f)) = absurd f

    above : (e : Entry) → In e (c ∷ d ∷ []) → KeyLess b.key e.key
    above e (inl f) = subst (λ (x : Entry). KeyLess b.key x.key) (sym f) k.third
    above e (inr (inl f)) = subst (λ (x : Entry). KeyLess b.key x.key) (sym f) k.fourth
    above e (inr (inr f)) = absurd f

-- the rule holds after any log that shows such pages
split_row : (R : Log) (a b c d : Entry) (since : ℕ) → AreLarge a b c d → KeysRise a b c d
    → IsSplit R (before (a ∷ b ∷ c ∷ d ∷ [])) (behind a b c d) (split_record a b c d) since
split_row R a b c d since s k = record {
  here = record {
    page = 2;
    new = 3;
    parent = 1;
    old = record { right = 0; stamp = 8; body = leaf (a ∷ b ∷ c ∷ d ∷ []) };
    was = free_page;
    old_parent = record { right = 0; stamp = 8; body = body.EntryInner (child 2 [] ∷ []) };
    left = part (a ∷ []) b;
    right = leaf (c ∷ d ∷ []);
    parent_after = body.EntryInner (child 2 b.key ∷ child 3 [] ∷ []);
    kind_is = refl;
    pages = refl;
    is_new = IsNew.unused refl (used_below (a ∷ b ∷ c ∷ d ∷ []));
    before_is = refl;
    large = omega (arith, all_listed a b c d s);
    divided = IsDivided.in_entries b.key (divided a b c d k)
        (record { bound = []; front = []; back = []; before = refl; after = refl });
    split_place = two_stay a b c d s;
    after_is = refl;
  };
}

-- there are such entries
abbrev text : ℕ → ℕ → Key
text n byte = 0 ∷ replicate n byte

abbrev ones : ℕ → List ℕ
ones n = replicate n 1

bytes_are : (n byte : ℕ) → length (replicate n byte) ≡ n
bytes_are n byte = length-replicate n byte

abbrev entry : Key → ℕ → Entry
entry key n = record { key = key; postings = Inline (ones n) }

entry_size : (key : Key) (n : ℕ) → length (entry_bytes (entry key n)) ≡ 5 + length key + n
unfolding entry_bytes key_field
entry_size key n = omega (
  arith,
  length-append (u16_bytes (length key) ++ key) (0 ∷ (u16_bytes (length (ones n)) ++ ones n)),
  length-append (u16_bytes (length key)) key,
  length-append (u16_bytes (length (ones n))) (ones n),
  length-u16_bytes (length key),
  length-u16_bytes (length (ones n)),
  bytes_are n 1,
)

are_large : AreLarge (entry (text 1 97) 54) (entry (text 2046 98) 1000) (entry (text 2046 99) 1000)
    (entry (text 997 100) 1000)
are_large = record {
  first = omega (arith, entry_size (text 1 97) 54, bytes_are 1 97);
  second = omega (arith, entry_size (text 2046 98) 1000, bytes_are 2046 98);
  third = omega (arith, entry_size (text 2046 99) 1000, bytes_are 2046 99);
  fourth = omega (arith, entry_size (text 997 100) 1000, bytes_are 997 100);
  second_key = omega (arith, bytes_are 2046 98);
  third_key = omega (arith, bytes_are 2046 99);
}

keys_rise : KeysRise (entry (text 1 97) 54) (entry (text 2046 98) 1000) (entry (text 2046 99) 1000)
    (entry (text 997 100) 1000)
keys_rise = record { first = refl; third = refl; fourth = refl }
