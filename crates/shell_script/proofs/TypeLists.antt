-- The types that a text names.
use Rattle.std.proofs.Common.{◌≡◌, ◌≢◌, ◌⊎◌, inl, inr, ℕ, suc, ◌+◌, ◌<◌, ◌==◌, Bool, true, false, cond, if◌then◌else◌}
use Rattle.std.proofs.Common.{List, [], ◌∷◌, ◌++◌, length, length-append, append_assoc, drop, map, arith, refl, sym}
use Rattle.std.proofs.Common.{◌∙◌, ap, subst}
use Rattle.std.specs.Prelude.{Option, Some, None, MatchOption}
use Rattle.std.specs.List.{join_with_byte, flat_map}
use Rattle.std.proofs.lemmas.Bool.{ne_eqb, eqb-true, eqb-false}
use Rattle.std.proofs.lemmas.List.{flat_map_more}
use Rattle.std.proofs.lemmas.List.Elements.{All-nil, All-cons, All-head, All-tail}
use Rattle.ts_parser.specs.declared.kinds.TokenType.{TokenType}
use Rattle.ts_parser.specs.declared.kinds.TokenType.TheVariants.{Asciiword, Word, Numword, Sfloat, Version}
use Rattle.ts_parser.specs.declared.kinds.TokenType.TheVariants.{HwordNumpart, HwordPart, HwordAsciipart, Blank}
use Rattle.ts_parser.specs.declared.kinds.TokenType.TheVariants.{Numhword, Asciihword, Hword, Float, Int, Uint}
use Rattle.ts_parser.specs.Kinds.{type_name}
use Rattle.shell_script.specs.Lines.{HasNo}
use Rattle.shell_script.specs.Inner.Parts.{comma, part_of, type_named, with_type, types_from, types_in, IsTypes}

IsPlain : ℕ → Type 0
IsPlain b = b ≢ comma

-- ── names of types ──
abbrev is_plain : List ℕ → Bool
is_plain [] = true
is_plain (b ∷ bytes) = if b == comma then false else is_plain bytes

plain : (bytes : List ℕ) → is_plain bytes ≡ true → HasNo comma bytes
plain [] e = All-nil (λ (b : ℕ). b ≢ comma)
plain (b ∷ bytes) e = by (b == comma) refl e (plain bytes)
  where
    by : (x : Bool) → (b == comma) ≡ x → cond x false (is_plain bytes) ≡ true
        → (is_plain bytes ≡ true → HasNo comma bytes) → HasNo comma (b ∷ bytes)
    by true f g k = cc
    by false f g k = All-cons (λ (b : ℕ). b ≢ comma) b bytes (eqb-false b comma f) (k g)

name_plain : (k : TokenType) → is_plain (type_name k) ≡ true
name_plain Asciiword = refl
name_plain Word = refl
name_plain Numword = refl
name_plain Sfloat = refl
name_plain Version = refl
name_plain HwordNumpart = refl
name_plain HwordPart = refl
name_plain HwordAsciipart = refl
name_plain Blank = refl
name_plain Numhword = refl
name_plain Asciihword = refl
name_plain Hword = refl
name_plain Float = refl
name_plain Int = refl
name_plain Uint = refl

pub no_comma : (k : TokenType) → HasNo comma (type_name k)
no_comma k = plain (type_name k) (name_plain k)

pub name_named : (k : TokenType) → type_named (type_name k) ≡ Some k
name_named Asciiword = refl
name_named Word = refl
name_named Numword = refl
name_named Sfloat = refl
name_named Version = refl
name_named HwordNumpart = refl
name_named HwordPart = refl
name_named HwordAsciipart = refl
name_named Blank = refl
name_named Numhword = refl
name_named Asciihword = refl
name_named Hword = refl
name_named Float = refl
name_named Int = refl
name_named Uint = refl

pub names_tell : (a b : TokenType) → type_name a ≡ type_name b → a ≡ b
names_tell a b e = let x : Some a ≡ Some b = sym (name_named a) ∙ ap type_named e ∙ name_named b in cc

-- no name is empty
some_bytes : (bytes : List ℕ) → type_named bytes ≢ None → (b : ℕ) × (rest : List ℕ) × (bytes ≡ b ∷ rest)
some_bytes [] h = absurd (h refl)
some_bytes (b ∷ rest) h = (b, rest, refl)

pub name_some : (k : TokenType) → (b : ℕ) × (rest : List ℕ) × (type_name k ≡ b ∷ rest)
name_some k = some_bytes (type_name k) (λ e. let x : Some k ≡ None = sym (name_named k) ∙ e in let y : ⊥ = cc in y)

-- ── parts ──
pub part_before : (p rest : List ℕ) → HasNo comma p → part_of (p ++ comma ∷ rest) ≡ p
part_before [] rest h = refl
part_before (b ∷ p) rest h =
    ap (λ x. if x then [] else b ∷ part_of (p ++ comma ∷ rest)) (ne_eqb b comma (All-head (λ (b : ℕ). b ≢ comma) b p h))
    ∙ ap (λ z. b ∷ z) (part_before p rest (All-tail (λ (b : ℕ). b ≢ comma) b p h))

pub part_whole : (p : List ℕ) → HasNo comma p → part_of p ≡ p
part_whole [] h = refl
part_whole (b ∷ p) h =
    ap (λ x. if x then [] else b ∷ part_of p) (ne_eqb b comma (All-head (λ (b : ℕ). b ≢ comma) b p h))
    ∙ ap (λ z. b ∷ z) (part_whole p (All-tail (λ (b : ℕ). b ≢ comma) b p h))

-- the part is all, or a comma is after it
pub part_cut : (text : List ℕ)
    → (part_of text ≡ text) ⊎ (text ≡ part_of text ++ comma ∷ drop (length (part_of text) + 1) text)
part_cut [] = inl refl
part_cut (b ∷ text) = by (b == comma) refl (part_cut text)
  where
    by : (x : Bool) → (b == comma) ≡ x
        → (part_of text ≡ text) ⊎ (text ≡ part_of text ++ comma ∷ drop (length (part_of text) + 1) text)
        → (cond x [] (b ∷ part_of text) ≡ b ∷ text) ⊎ (b ∷ text
        ≡ cond x [] (b ∷ part_of text) ++ comma ∷ drop (length (cond x [] (b ∷ part_of text)) + 1) (b ∷ text))
    by true e cut = inr (ap (λ c. c ∷ text) (eqb-true b comma e))
    by false e (inl whole) = inl (ap (λ z. b ∷ z) whole)
    by false e (inr cut) = inr (ap (λ z. b ∷ z) cut ∙ ap (λ n. b ∷ (part_of text ++ comma ∷ drop n (b ∷ text)))
        (let z : suc (length (part_of text) + 1) ≡ suc (length (part_of text)) + 1 = omega arith in z))

-- ── lists of types ──
skip_name : (p rest : List ℕ) → types_from (suc (length p)) (p ++ comma ∷ rest) ≡ types_from 0 rest
skip_name [] rest = refl
skip_name (b ∷ p) rest = skip_name p rest

skip_last : (p : List ℕ) → types_from (suc (length p)) p ≡ []
skip_last [] = refl
skip_last (b ∷ p) = skip_last p

types_first : (k : TokenType) (p rest : List ℕ) → type_name k ≡ p → types_in (p ++ comma ∷ rest) ≡ k ∷ types_in rest
types_first k p rest e =
    let some = name_some k in
    let is : p ≡ some.0 ∷ some.1 = sym e ∙ some.2 in
    let free : HasNo comma p = subst (HasNo comma) e (no_comma k) in
    let named : type_named p ≡ Some k = ap type_named (sym e) ∙ name_named k in
    ap (λ z. types_in (z ++ comma ∷ rest)) is
    ∙ ap (λ z. with_type (type_named z) (types_from (length z) (some.1 ++ comma ∷ rest)))
    (ap (λ z. part_of (z ++ comma ∷ rest)) (sym is) ∙ part_before p rest free)
    ∙ ap (λ o. with_type o (types_from (length p) (some.1 ++ comma ∷ rest))) named
    ∙ ap (λ n. k ∷ types_from n (some.1 ++ comma ∷ rest)) (ap length is)
    ∙ ap (λ z. k ∷ z) (skip_name some.1 rest)

types_last : (k : TokenType) (p : List ℕ) → type_name k ≡ p → types_in p ≡ k ∷ []
types_last k p e =
    let some = name_some k in
    let is : p ≡ some.0 ∷ some.1 = sym e ∙ some.2 in
    let free : HasNo comma p = subst (HasNo comma) e (no_comma k) in
    let named : type_named p ≡ Some k = ap type_named (sym e) ∙ name_named k in
    ap types_in is
    ∙ ap (λ z. with_type (type_named z) (types_from (length z) some.1)) (ap part_of (sym is) ∙ part_whole p free)
    ∙ ap (λ o. with_type o (types_from (length p) some.1)) named
    ∙ ap (λ n. k ∷ types_from n some.1) (ap length is)
    ∙ ap (λ z. k ∷ z) (skip_last some.1)

abbrev pub types_text : List TokenType → List ℕ
types_text ks = join_with_byte comma (map type_name ks)

pub types_read : (ks : List TokenType) → types_in (types_text ks) ≡ ks
types_read [] = refl
types_read (k ∷ []) = types_last k (type_name k) refl
types_read (k ∷ j ∷ ks) = types_first k (type_name k) (types_text (j ∷ ks)) refl ∙ ap (λ z. k ∷ z) (types_read (j ∷ ks))

pub types_are : (text : List ℕ) (ks : List TokenType) → text ≡ types_text ks → (types_in text ≡ ks) × IsTypes text
types_are text ks e =
    let same : types_in text ≡ ks = ap types_in e ∙ types_read ks in
    (same, e ∙ ap types_text (sym same))

drop_past : (p rest : List ℕ) → drop (length p + 1) (p ++ comma ∷ rest) ≡ rest
drop_past [] rest = refl
drop_past (x ∷ p) rest = ap (λ m. drop m (x ∷ (p ++ comma ∷ rest)))
    (let z : suc (length p) + 1 ≡ suc (length p + 1) = omega arith in z) ∙ drop_past p rest

drop_all : (p : List ℕ) → drop (length p + 1) p ≡ []
drop_all [] = refl
drop_all (x ∷ p) =
    ap (λ m. drop m (x ∷ p)) (let z : suc (length p) + 1 ≡ suc (length p + 1) = omega arith in z) ∙ drop_all p

-- the first of a text's types, and those after it
pub next_type : (text name rest : List ℕ) (k : TokenType) → IsTypes text → name ≡ part_of text → rest
    ≡ drop (length (part_of text) + 1) text → type_name k ≡ name → (types_in text ≡ k ∷ types_in rest) × IsTypes rest
next_type text name rest k h n r e = by (types_in text) h
  where
    none : (k : TokenType) → type_name k ≡ [] → ⊥
    none k e = let some = name_some k in let x : some.0 ∷ some.1 ≡ [] = sym some.2 ∙ e in let y : ⊥ = cc in y

    by : (ks : List TokenType) → text ≡ types_text ks → (types_in text ≡ k ∷ types_in rest) × IsTypes rest
    by [] e' = absurd (none k (e ∙ n ∙ ap part_of e'))
    by (j ∷ []) e' =
        let part : part_of text ≡ type_name j = ap part_of e' ∙ part_whole (type_name j) (no_comma j) in
        let same : k ≡ j = names_tell k j (e ∙ n ∙ part) in
        let over : rest ≡ [] = r ∙ ap (λ p. drop (length p + 1) text) (part ∙ sym e') ∙ drop_all text in (
          (types_are text (j ∷ []) e').0 ∙ ap (λ z. z ∷ []) (sym same) ∙ ap (λ z. k ∷ types_in z) (sym over),
          over ∙ ap (λ z. types_text (types_in z)) (sym over),
        )
    by (j ∷ i ∷ ks) e' =
        let part : part_of text ≡ type_name j =
        ap part_of e' ∙ part_before (type_name j) (types_text (i ∷ ks)) (no_comma j) in
        let same : k ≡ j = names_tell k j (e ∙ n ∙ part) in
        let left : rest ≡ types_text (i ∷ ks) = r ∙ ap (λ p. drop (length p + 1) text) part
        ∙ ap (λ z. drop (length (type_name j) + 1) z) e' ∙ drop_past (type_name j) (types_text (i ∷ ks)) in (
          (types_are text (j ∷ i ∷ ks) e').0 ∙ ap (λ z. z ∷ i ∷ ks) (sym same)
              ∙ ap (λ z. k ∷ z) (sym (types_are rest (i ∷ ks) left).0),
          (types_are rest (i ∷ ks) left).1,
        )

-- ── where a text is cut ──
pub part_found : (text front rest : List ℕ) → text ≡ front ++ comma ∷ rest → HasNo comma front
    → (front ≡ part_of text) × (rest ≡ drop (length (part_of text) + 1) text)
part_found text front rest e free =
    let part : part_of text ≡ front = ap part_of e ∙ part_before front rest free in (
      sym part,
      sym (ap (λ p. drop (length p + 1) text) part ∙ ap (λ z. drop (length front + 1) z) e ∙ drop_past front rest),
    )

pub part_missed : (text : List ℕ) → HasNo comma text
    → (text ≡ part_of text) × ([] ≡ drop (length (part_of text) + 1) text)
part_missed text free =
    let part : part_of text ≡ text = part_whole text free in
    (sym part, sym (ap (λ p. drop (length p + 1) text) part ∙ drop_all text))

-- a text that names types and is not empty begins with the name of one
pub some_type : (text : List ℕ) → IsTypes text → 0 < length text → (k : TokenType) × (type_name k ≡ part_of text)
some_type text h some = by (types_in text) h
  where
    by : (ks : List TokenType) → text ≡ types_text ks → (k : TokenType) × (type_name k ≡ part_of text)
    by [] e = absurd (let z : length text ≡ 0 = ap length e in omega (arith, z, some))
    by (j ∷ []) e = (j, sym (ap part_of e ∙ part_whole (type_name j) (no_comma j)))
    by (j ∷ i ∷ ks) e = (j, sym (ap part_of e ∙ part_before (type_name j) (types_text (i ∷ ks)) (no_comma j)))

-- ── the types that were read so far ──
abbrev pub type_comma : TokenType → List ℕ
type_comma k = type_name k ++ comma ∷ []

pub record TypesRead (text rest : List ℕ) : Type 0 where
  pub done : List TokenType
  pub whole : text ≡ flat_map type_comma done ++ rest
  -- whatever types the text names, the others are those of the rest
  pub only : (ks : List TokenType) → 0 < length ks → text ≡ types_text ks
      → (more : List TokenType) × (0 < length more) × (rest ≡ types_text more)

pub read_start : (text : List ℕ) → TypesRead text text
read_start text = record { done = []; whole = refl; only = λ ks some e. (ks, some, e) }

pub read_more : (text rest name more : List ℕ) (k : TokenType) → TypesRead text rest → name ≡ part_of rest → more
    ≡ drop (length (part_of rest) + 1) rest → type_name k ≡ name → (length name ≡ length rest → ⊥) → TypesRead text more
read_more text rest name more k r n m e longer = record {
  done = r.done ++ k ∷ [];
  whole = r.whole ∙ ap (λ z. flat_map type_comma r.done ++ z) here ∙ sym (append_assoc (flat_map type_comma r.done)
      (type_comma k) more) ∙ ap (λ z. z ++ more) (flat_map_more type_comma [] r.done k);
  only = λ ks some same. let o = r.only ks some same in behind o.0 o.1 o.2;
}
  where
    cut : rest ≡ part_of rest ++ comma ∷ more
    cut = elim (part_cut rest) [
      | inl whole ↦ absurd (longer (ap length (n ∙ whole)))
      | inr c ↦ c ∙ ap (λ z. part_of rest ++ comma ∷ z) (sym m)
    ]

    here : rest ≡ type_comma k ++ more
    here = cut ∙ ap (λ z. z ++ comma ∷ more) (sym (e ∙ n)) ∙ sym (append_assoc (type_name k) (comma ∷ []) more)

    behind : (ks : List TokenType) → 0 < length ks → rest ≡ types_text ks
        → (ms : List TokenType) × (0 < length ms) × (more ≡ types_text ms)
    behind [] some same = absurd (omega (arith, some))
    behind (j ∷ []) some same =
        absurd (longer (ap length (n ∙ ap part_of same ∙ part_whole (type_name j) (no_comma j) ∙ sym same)))
    behind (j ∷ i ∷ ks) some same =
        (i ∷ ks, omega arith, m ∙ sym (part_found rest (type_name j) (types_text (i ∷ ks)) same (no_comma j)).1)

text_of : (ks : List TokenType) (k : TokenType) → flat_map type_comma ks ++ type_name k ≡ types_text (ks ++ k ∷ [])
text_of [] k = refl
text_of (j ∷ []) k =
    append_assoc (type_comma j) [] (type_name k) ∙ append_assoc (type_name j) (comma ∷ []) ([] ++ type_name k)
text_of (j ∷ i ∷ ks) k = append_assoc (type_name j ++ comma ∷ []) (flat_map type_comma (i ∷ ks)) (type_name k)
    ∙ append_assoc (type_name j) (comma ∷ []) (flat_map type_comma (i ∷ ks) ++ type_name k)
    ∙ ap (λ z. type_name j ++ comma ∷ z) (text_of (i ∷ ks) k)

-- the last type
pub read_last : (text rest name : List ℕ) (k : TokenType) → TypesRead text rest → name ≡ part_of rest
    → type_name k ≡ name → length name ≡ length rest → (ks : List TokenType) × (0 < length ks) × (text ≡ types_text ks)
read_last text rest name k r n e same =
    let whole : rest ≡ type_name k = elim (part_cut rest) [
      | inl whole ↦ sym (e ∙ n ∙ whole)
      | inr c ↦ absurd (let z : length rest
          ≡ length (part_of rest) + suc (length (drop (length (part_of rest) + 1) rest)) = ap length c ∙ length-append
          (part_of rest) (comma ∷ drop (length (part_of rest) + 1) rest) in omega (arith, z, same, ap length n))
    ] in (
      r.done ++ k ∷ [],
      omega (arith, length-append r.done (k ∷ [])),
      r.whole ∙ ap (λ z. flat_map type_comma r.done ++ z) whole ∙ text_of r.done k,
    )

-- no type's name is there
pub read_fault : (text rest name : List ℕ) → TypesRead text rest → name ≡ part_of rest
    → ((k : TokenType) → type_name k ≢ name) → (ks : List TokenType) → 0 < length ks → text ≢ types_text ks
read_fault text rest name r n none ks some e = let o = r.only ks some e in by o.0 o.1 o.2
  where
    by : (ks : List TokenType) → 0 < length ks → rest ≡ types_text ks → ⊥
    by [] some same = omega (arith, some)
    by (j ∷ []) some same = none j (sym (n ∙ ap part_of same ∙ part_whole (type_name j) (no_comma j)))
    by (j ∷ i ∷ ks) some same =
        none j (sym (n ∙ ap part_of same ∙ part_before (type_name j) (types_text (i ∷ ks)) (no_comma j)))

-- the type that was found is the first
pub yields_type : (text name rest : List ℕ) (o : Option TokenType) → IsTypes text → 0 < length text
    → name ≡ part_of text → rest ≡ drop (length (part_of text) + 1) text
    → MatchOption o ((k : TokenType) → type_name k ≢ name) (λ k. type_name k ≡ name)
    → MatchOption o ((types_in text ≡ []) × (types_in rest ≡ [])) (λ k. types_in text ≡ k ∷ types_in rest)
yields_type text name rest None h some n r none = let k = some_type text h some in absurd (none k.0 (k.1 ∙ sym n))
yields_type text name rest (Some k) h some n r e = (next_type text name rest k h n r e).0
