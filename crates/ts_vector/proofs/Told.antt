-- What checked bytes say.
use Rattle.std.proofs.Common.{◌≡◌, ◌≢◌, ℕ, zero, suc, ◌+◌, ◌*◌, ◌/◌, ◌%◌, ◌<◌, ◌≤◌, List, [], ◌∷◌, ◌++◌, length, take}
use Rattle.std.proofs.Common.{drop, refl, sym, ◌∙◌, ap, subst, arith, length-append, append_assoc}
use Rattle.std.specs.Prelude.{All}
use Rattle.std.proofs.lemmas.List.{take-append-drop}
use Rattle.std.specs.List.{flat_map}
use Rattle.std.proofs.lemmas.List.Elements.{All-head, All-tail}
use Rattle.ts_base.specs.Endian.{little_bytes}
use Rattle.ts_base.specs.declared.Weight.{Weight}
use Rattle.ts_base.specs.declared.Weight.TheVariants.{D, C, B, A}
use Rattle.ts_base.specs.Lexemes.{IsBefore}
use Rattle.ts_base.specs.Vectors.{Position, Entry, Vector, IsPosition, IsEntry, IsNormal}
use Rattle.ts_base.specs.Encoding.{weight_number, position_number, position_bytes, entry_bytes, IsEncoding}
use Rattle.ts_base.proofs.LittleBytes.{same_fronts, little_same}
use Rattle.ts_base.proofs.Encoding.{position_number_same, position_number_small, length-positions}
use Rattle.ts_vector.specs.Inner.Fields.{IsChecked}
use Rattle.ts_vector.specs.Inner.Told.{number_told, weight_told, place_told, places_told, lexeme_told, behind_lexeme}
use Rattle.ts_vector.specs.Inner.Told.{place_bytes, behind_places, entry_told, entries_told, ArePlaces, AreEntries}
use Rattle.ts_vector.specs.Inner.Told.{IsFirst}
use Rattle.ts_vector.proofs.Rising.{pairs_tail}
use Rattle.ts_vector.proofs.Merging.{size-cons}

pub number_back : (k : ℕ) (r : List ℕ) → k < 65536 → number_told (little_bytes 2 k ++ r) ≡ k
number_back k r h = omega arith

-- ── a position ──
weight_back : (w : Weight) → weight_told (weight_number w) ≡ w
weight_back D = refl
weight_back C = refl
weight_back B = refl
weight_back A = refl

pub place_back : (p : Position) → IsPosition p → place_told (position_number p) ≡ p
place_back p h =
    let at : position_number p % 16384 ≡ p.at = omega (arith, h.1) in
    let number : position_number p / 16384 ≡ weight_number p.weight = omega (arith, h.1) in
    let weight : weight_told (position_number p / 16384) ≡ p.weight = ap weight_told number ∙ weight_back p.weight in
    λ i. record { at = at i; weight = weight i }

pub places_back : (ps : List Position) → All IsPosition ps → places_told (flat_map position_bytes ps) ≡ ps
places_back [] h = refl
places_back (p ∷ ps) h =
    let valid = All-head IsPosition p ps h in
    let number : number_told (position_bytes p) ≡ position_number p =
    number_back (position_number p) [] (position_number_small p valid) in
    let first : place_told (number_told (position_bytes p)) ≡ p = ap place_told number ∙ place_back p valid in
    let others = places_back ps (All-tail IsPosition p ps h) in
    λ i. first i ∷ others i

-- the first of positions, as it is read
pub record IsNextPlace (bytes : List ℕ) : Type 0 where
  pub place : Position
  pub others : List Position
  pub all : places_told bytes ≡ place ∷ others
  pub valid : IsPosition place
  pub others_valid : All IsPosition others
  pub bytes_of : bytes ≡ position_bytes place ++ flat_map position_bytes others

next_place_of : (bytes : List ℕ) (ps : List Position) → places_told bytes ≡ ps → ArePlaces bytes ps → bytes ≢ []
    → IsNextPlace bytes
next_place_of bytes [] is are some = absurd (some are.bytes_of)
next_place_of bytes (p ∷ ps) is are some = record {
  place = p;
  others = ps;
  all = is;
  valid = All-head IsPosition p ps are.valid;
  others_valid = All-tail IsPosition p ps are.valid;
  bytes_of = are.bytes_of;
}

pub next_place : (bytes : List ℕ) → ArePlaces bytes (places_told bytes) → bytes ≢ [] → IsNextPlace bytes
next_place bytes are some = next_place_of bytes (places_told bytes) refl are some

pub none_told : (bytes : List ℕ) → bytes ≡ [] → places_told bytes ≡ []
none_told bytes e = ap places_told e

pub places_count : (bytes : List ℕ) → ArePlaces bytes (places_told bytes)
    → length bytes ≡ 2 * length (places_told bytes)
places_count bytes are = ap length are.bytes_of ∙ length-positions (places_told bytes)

module _ (bytes : List ℕ) (is : IsNextPlace bytes) where
  pub two_long : 2 ≤ length bytes
  two_long = omega (arith, ap length is.bytes_of)

  module _ (n : ℕ) (r : List ℕ) (split : bytes ≡ little_bytes 2 n ++ r) (fits : n < 65536) where
    place_read : (n ≡ position_number is.place) × (r ≡ flat_map position_bytes is.others)
    place_read = little_same 2 n (position_number is.place) r (flat_map position_bytes is.others) fits
        (position_number_small is.place is.valid) (sym split ∙ is.bytes_of)

    pub number_some : 1 ≤ n % 16384
    number_some = omega (arith, place_read.0, is.valid.0, is.valid.1)

    pub others_told : places_told r ≡ is.others
    others_told = ap places_told place_read.1 ∙ places_back is.others is.others_valid

    pub others_are : ArePlaces r (places_told r)
    others_are = subst (ArePlaces r) (sym others_told) (record { valid = is.others_valid; bytes_of = place_read.1 })

    pub told_first : (p : Position) → n ≡ position_number p → IsPosition p → places_told bytes ≡ p ∷ places_told r
    told_first p e valid =
        let same = position_number_same p is.place valid is.valid (sym e ∙ place_read.0) in
        is.all ∙ (λ i. sym same i ∷ sym others_told i)

-- ── an entry ──
pub whole_of : (n : ℕ) (r l s : List ℕ) → l ≡ take n r → s ≡ drop n r → r ≡ l ++ s
whole_of n r l s e f = sym (take-append-drop n r) ∙ (λ i. sym e i ++ sym f i)

take_front : (xs ys : List ℕ) (k : ℕ) → length xs ≡ k → take k (xs ++ ys) ≡ xs
take_front [] ys zero e = refl
take_front [] ys (suc k) e = absurd (omega arith)
take_front (x ∷ xs) ys zero e = absurd (omega arith)
take_front (x ∷ xs) ys (suc k) e = ap (λ t. x ∷ t) (take_front xs ys k (omega arith))

drop_front : (xs ys : List ℕ) (k : ℕ) → length xs ≡ k → drop k (xs ++ ys) ≡ ys
drop_front [] ys zero e = refl
drop_front [] ys (suc k) e = absurd (omega arith)
drop_front (x ∷ xs) ys zero e = absurd (omega arith)
drop_front (x ∷ xs) ys (suc k) e = drop_front xs ys k (omega arith)

-- a number, as many bytes as its multiple, and the rest
module _ (k : ℕ) (xs ys : List ℕ) (fits : k < 65536) where
  number_here : number_told (little_bytes 2 k ++ (xs ++ ys)) ≡ k
  number_here = number_back k (xs ++ ys) fits

  front_here : (m : ℕ) → length xs ≡ m * k
      → take (m * number_told (little_bytes 2 k ++ (xs ++ ys))) (drop 2 (little_bytes 2 k ++ (xs ++ ys))) ≡ xs
  front_here m e =
      take_front xs ys (m * number_told (little_bytes 2 k ++ (xs ++ ys))) (e ∙ ap (λ n. m * n) (sym number_here))

  back_here : (m : ℕ) → length xs ≡ m * k
      → drop (m * number_told (little_bytes 2 k ++ (xs ++ ys))) (drop 2 (little_bytes 2 k ++ (xs ++ ys))) ≡ ys
  back_here m e =
      drop_front xs ys (m * number_told (little_bytes 2 k ++ (xs ++ ys))) (e ∙ ap (λ n. m * n) (sym number_here))

  lexeme_here : length xs ≡ k → lexeme_told (little_bytes 2 k ++ (xs ++ ys)) ≡ xs
  lexeme_here e = take_front xs ys (number_told (little_bytes 2 k ++ (xs ++ ys))) (e ∙ sym number_here)

  lexeme_gone : length xs ≡ k → behind_lexeme (little_bytes 2 k ++ (xs ++ ys)) ≡ ys
  lexeme_gone e = drop_front xs ys (number_told (little_bytes 2 k ++ (xs ++ ys))) (e ∙ sym number_here)

abbrev entry_tail : Entry → List ℕ → List ℕ
entry_tail e rest = little_bytes 2 (length e.positions) ++ (flat_map position_bytes e.positions ++ rest)

entry_split : (e : Entry) (rest : List ℕ)
    → entry_bytes e ++ rest ≡ little_bytes 2 (length e.lexeme) ++ (e.lexeme ++ entry_tail e rest)
entry_split e rest = ap (λ t. little_bytes 2 (length e.lexeme) ++ t)
    (append_assoc e.lexeme (little_bytes 2 (length e.positions) ++ flat_map position_bytes e.positions) rest)

module _ (e : Entry) (rest : List ℕ) (valid : IsEntry e) where
  lexeme_fits : length e.lexeme < 65536
  lexeme_fits = omega (arith, valid.lexeme.most)

  count_fits : length e.positions < 65536
  count_fits = omega (arith, valid.few)

  tail_told : behind_lexeme (entry_bytes e ++ rest) ≡ entry_tail e rest
  tail_told = ap behind_lexeme (entry_split e rest)
      ∙ lexeme_gone (length e.lexeme) e.lexeme (entry_tail e rest) lexeme_fits refl

  pub entry_back : entry_told (entry_bytes e ++ rest) ≡ e
  entry_back =
      let lexeme : lexeme_told (entry_bytes e ++ rest) ≡ e.lexeme = ap lexeme_told (entry_split e rest)
      ∙ lexeme_here (length e.lexeme) e.lexeme (entry_tail e rest) lexeme_fits refl in
      let bytes : place_bytes (behind_lexeme (entry_bytes e ++ rest)) ≡ flat_map position_bytes e.positions =
      ap place_bytes tail_told ∙ front_here (length e.positions) (flat_map position_bytes e.positions) rest count_fits 2
      (length-positions e.positions) in
      let positions = ap places_told bytes ∙ places_back e.positions valid.positions in
      λ i. record { lexeme = lexeme i; positions = positions i }

  pub rest_back : behind_places (behind_lexeme (entry_bytes e ++ rest)) ≡ rest
  rest_back = ap behind_places tail_told ∙ back_here (length e.positions)
      (flat_map position_bytes e.positions) rest count_fits 2 (length-positions e.positions)

-- ── entries ──
pub entries_back : (v : Vector) → All IsEntry v → entries_told (length v) (flat_map entry_bytes v) ≡ v
entries_back [] h = refl
entries_back (e ∷ v) h =
    let valid = All-head IsEntry e v h in
    let first = entry_back e (flat_map entry_bytes v) valid in
    let others = ap (entries_told (length v)) (rest_back e (flat_map entry_bytes v) valid)
    ∙ entries_back v (All-tail IsEntry e v h) in
    λ i. first i ∷ others i

pub told : (n : ℕ) (bytes : List ℕ) (v : Vector) → AreEntries n bytes v → entries_told n bytes ≡ v
told n bytes v are = ap (λ k. entries_told k bytes) (sym are.counted) ∙ ap (entries_told (length v)) are.bytes_of
    ∙ entries_back v are.normal.entries

pub told_are : (n : ℕ) (bytes : List ℕ) (v : Vector) → AreEntries n bytes v → AreEntries n bytes (entries_told n bytes)
told_are n bytes v are = subst (AreEntries n bytes) (sym (told n bytes v are)) are

pub checked_are : (bytes : List ℕ) (n : ℕ) (entries : List ℕ) → IsChecked bytes n entries
    → AreEntries n entries (entries_told n entries)
checked_are bytes n entries (v, is, count, rest) =
    told_are n entries v (record { normal = is.normal; small = is.small; counted = count; bytes_of = rest })

pub checked_encodes : (bytes : List ℕ) (n : ℕ) (entries : List ℕ) → IsChecked bytes n entries
    → IsEncoding bytes (entries_told n entries)
checked_encodes bytes n entries (v, is, count, rest) =
    subst (IsEncoding bytes)
    (sym (told n entries v (record { normal = is.normal; small = is.small; counted = count; bytes_of = rest }))) is

-- the entries after the first
pub tail_normal : (e : Entry) (v : Vector) → IsNormal (e ∷ v) → IsNormal v
tail_normal e v n = record {
  entries = All-tail IsEntry e v n.entries;
  rising = pairs_tail (λ x y. IsBefore x.lexeme y.lexeme) e v n.rising;
}

-- what is known before an entry is read
pub record IsNextEntry (n : ℕ) (bytes : List ℕ) : Type 0 where
  pub entry : Entry
  pub others : Vector
  pub all : entries_told n bytes ≡ entry ∷ others
  pub first : IsFirst bytes entry (flat_map entry_bytes others)
  pub more : (m : ℕ) → m + 1 ≡ n → AreEntries m (flat_map entry_bytes others) (entries_told m
      (flat_map entry_bytes others)) × (entries_told m (flat_map entry_bytes others) ≡ others)

next_of : (n : ℕ) (bytes : List ℕ) (v : Vector) → entries_told n bytes ≡ v → AreEntries n bytes v → 0 < n
    → IsNextEntry n bytes
next_of n bytes [] is are some = let count = are.counted in absurd (omega arith)
next_of n bytes (e ∷ v) is are some =
    let later : (m : ℕ) → m + 1 ≡ n → AreEntries m (flat_map entry_bytes v) v =
    λ m h. record {
      normal = tail_normal e v are.normal;
      small = let s = are.small in omega (arith, size-cons e v);
      counted = let c = are.counted in omega arith;
      bytes_of = refl;
    } in
    record {
      entry = e;
      others = v;
      all = is;
      first = record { valid = All-head IsEntry e v are.normal.entries; bytes_of = are.bytes_of };
      more = λ m h. (told_are m (flat_map entry_bytes v) v (later m h), told m (flat_map entry_bytes v) v (later m h));
    }

pub next_entry : (n : ℕ) (bytes : List ℕ) → AreEntries n bytes (entries_told n bytes) → 0 < n → IsNextEntry n bytes
next_entry n bytes are some = next_of n bytes (entries_told n bytes) refl are some

-- ── the first entry, as it is read ──

module _ (e : Entry) (rest bytes : List ℕ) (is : IsFirst bytes e rest) where
  pub long : 2 ≤ length bytes
  long = omega (arith, ap length is.bytes_of)

  module _ (n : ℕ) (r : List ℕ) (split : bytes ≡ little_bytes 2 n ++ r) (fits : n < 65536) where
    head : (n ≡ length e.lexeme) × (r ≡ e.lexeme ++ entry_tail e rest)
    head = little_same 2 n (length e.lexeme) r (e.lexeme ++ entry_tail e rest) fits (lexeme_fits e rest is.valid)
        (sym split ∙ is.bytes_of ∙ entry_split e rest)

    pub lexeme_within : n ≤ length r
    lexeme_within = omega (arith, head.0, ap length head.1, length-append e.lexeme (entry_tail e rest))

    module _ (l s : List ℕ) (whole : r ≡ l ++ s) (len : length l ≡ n) where
      lexeme_read : (l ≡ e.lexeme) × (s ≡ entry_tail e rest)
      lexeme_read = same_fronts l e.lexeme s (entry_tail e rest) (len ∙ head.0) (sym whole ∙ head.1)

      pub lexeme_is : l ≡ e.lexeme
      lexeme_is = lexeme_read.0

      pub count_long : 2 ≤ length s
      count_long = omega (arith, ap length lexeme_read.1)

      module _ (m : ℕ) (t : List ℕ) (split' : s ≡ little_bytes 2 m ++ t) (fits' : m < 65536) where
        number_read : (m ≡ length e.positions) × (t ≡ flat_map position_bytes e.positions ++ rest)
        number_read = little_same 2 m (length e.positions) t (flat_map position_bytes e.positions ++ rest) fits'
            (count_fits e rest is.valid) (sym split' ∙ lexeme_read.1)

        pub places_within : 2 * m ≤ length t
        places_within = omega (
          arith,
          number_read.0,
          ap length number_read.1,
          length-append (flat_map position_bytes e.positions) rest,
          length-positions e.positions,
        )

        pub places_are : (ps u : List ℕ) → t ≡ ps ++ u → length ps ≡ 2 * m
            → (ps ≡ flat_map position_bytes e.positions) × (u ≡ rest)
        places_are ps u w k = same_fronts ps (flat_map position_bytes e.positions) u rest
            (omega (arith, k, number_read.0, length-positions e.positions)) (sym w ∙ number_read.1)

        pub entry_is : (ps u : List ℕ) → t ≡ ps ++ u → length ps ≡ 2 * m
            → (record { lexeme = l; positions = places_told ps }) ≡ e
        entry_is ps u w k =
            let positions = ap places_told (places_are ps u w k).0 ∙ places_back e.positions is.valid.positions in
            λ i. record { lexeme = lexeme_is i; positions = positions i }

pub entry_valid : (e : Entry) (l ps : List ℕ) → IsEntry e → (record { lexeme = l; positions = places_told ps }) ≡ e
    → ps ≡ flat_map position_bytes e.positions
    → IsEntry (record { lexeme = l; positions = places_told ps }) × ArePlaces ps (places_told ps)
entry_valid e l ps valid is bytes =
    let positions : places_told ps ≡ e.positions = ap (λ (d : Entry). d.positions) is in (
      subst IsEntry (sym is) valid,
      subst (ArePlaces ps) (sym positions) (record { valid = valid.positions; bytes_of = bytes }),
    )
