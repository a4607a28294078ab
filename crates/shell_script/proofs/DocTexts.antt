-- The texts of documents' names.
use Rattle.std.proofs.Common.{◌≡◌, ◌≢◌, ℕ, ◌+◌, ◌^◌, ◌<◌, ◌≤◌, List, [], ◌∷◌, ◌++◌}
use Rattle.std.proofs.Common.{get_or, arith, refl, sym, ◌∙◌, ap, subst}
use Rattle.std.specs.Prelude.{Result, Ok, Err}
use Rattle.std.specs.Str.Parse.{AllDigits, IsNumeral, digits_value, ParsesUnsigned}
use Rattle.std.specs.Result.{OkIff}
use Rattle.std.proofs.lemmas.List.Elements.{All-nil, All-cons, All-head, All-tail}
use Rattle.std.proofs.lemmas.Str.Parse.{digit_from_value, without_leading_plus_none}
use Rattle.ts_base.proofs.Fronts.{same_front}
use Rattle.page_types.specs.declared.page.Name.{Name}
use Rattle.shell_script.specs.Lines.{HasNo}
use Rattle.shell_script.specs.Docs.{Doc, IsDecimal, IsDoc}

abbrev IsNot : ℕ → ℕ → Type 0
IsNot byte b = b ≢ byte

-- digits have no byte below the first digit
digits_free : (byte : ℕ) (ds : List ℕ) → byte < 48 → AllDigits 10 ds → HasNo byte ds
digits_free byte [] low h = All-nil (IsNot byte)
digits_free byte (c ∷ ds) low h =
    All-cons (IsNot byte) c ds (λ e. omega (arith, low, e, digit_from_value c h.0)) (digits_free byte ds low h.1)

-- a text is cut in one way at the first byte of a kind
pub one_cut : (byte : ℕ) (a b c d : List ℕ) → HasNo byte a → HasNo byte c → a ++ byte ∷ b ≡ c ++ byte ∷ d
    → (a ≡ c) × (b ≡ d)
one_cut byte a b c d free free' e =
    let o = same_front (IsNot byte) a c (byte ∷ b) (byte ∷ d) free free' (λ n. n refl) (λ n. n refl) e in
    let f : byte ∷ b ≡ byte ∷ d = o.1 in
    (o.0, cc)

pub no_cut : (byte : ℕ) (text a b : List ℕ) → HasNo byte text → text ≡ a ++ byte ∷ b → ⊥
no_cut byte [] [] b h e = cc
no_cut byte [] (c ∷ a) b h e = cc
no_cut byte (x ∷ text) [] b h e = All-head (IsNot byte) x text h (let f : x ≡ byte = cc in f)
no_cut byte (x ∷ text) (c ∷ a) b h e =
    let f : text ≡ a ++ byte ∷ b = cc in no_cut byte text a b (All-tail (IsNot byte) x text h) f

-- what a text that names a document is cut into
pub first_part : (d : Doc) (h : IsDoc d) → HasNo 47 h.page
first_part d h = digits_free 47 h.page (omega arith) h.page_is.numeral.1

pub second_part : (d : Doc) (h : IsDoc d) → HasNo 35 h.slot
second_part d h = digits_free 35 h.slot (omega arith) h.slot_is.numeral.1

pub first_cut : (text page rest : List ℕ) (d : Doc) (h : IsDoc d) → d.text ≡ text → text ≡ page ++ 47 ∷ rest
    → HasNo 47 page
    → (page ≡ h.page) × (rest ≡ h.slot ++ 35 ∷ h.serial)
first_cut text page rest d h is e free =
    one_cut 47 page rest h.page (h.slot ++ 35 ∷ h.serial) free (first_part d h) (sym e ∙ sym is ∙ h.text)

pub second_cut : (rest slot serial : List ℕ) (d : Doc) (h : IsDoc d) → rest ≡ h.slot ++ 35 ∷ h.serial
    → rest ≡ slot ++ 35 ∷ serial → HasNo 35 slot
    → (slot ≡ h.slot) × (serial ≡ h.serial)
second_cut rest slot serial d h is e free = one_cut 35 slot serial h.slot h.serial free (second_part d h) (sym e ∙ is)

pub not_cut : (text : List ℕ) (d : Doc) (h : IsDoc d) → d.text ≡ text → HasNo 47 text → ⊥
not_cut text d h is free = no_cut 47 text h.page (h.slot ++ 35 ∷ h.serial) free (sym is ∙ h.text)

pub rest_not_cut : (text page rest : List ℕ) (d : Doc) (h : IsDoc d) → d.text ≡ text → text ≡ page ++ 47 ∷ rest
    → HasNo 47 page → HasNo 35 rest → ⊥
rest_not_cut text page rest d h is e free none =
    no_cut 35 rest h.slot h.serial none (first_cut text page rest d h is e free).1

-- the parts of a text that names a document
pub record AreParts (text page slot serial : List ℕ) : Type 0 where
  pub rest : List ℕ
  pub first : text ≡ page ++ 47 ∷ rest
  pub first_free : HasNo 47 page
  pub second : rest ≡ slot ++ 35 ∷ serial
  pub second_free : HasNo 35 slot

pub doc_is : (text page slot serial : List ℕ) (n : Name) → AreParts text page slot serial
    → IsDecimal page n.page (2 ^ 32) → IsDecimal slot n.slot (2 ^ 16) → IsDecimal serial n.serial (2 ^ 64)
    → IsDoc (let d : Doc = record { text = text; name = n } in d)
doc_is text page slot serial n p a b c = record {
  page = page;
  slot = slot;
  serial = serial;
  text = p.first ∙ ap (λ z. page ++ 47 ∷ z) p.second;
  page_is = a;
  slot_is = b;
  serial_is = c;
}

pub parts_same : (text page slot serial : List ℕ) (d : Doc) (h : IsDoc d) → d.text ≡ text
    → AreParts text page slot serial
    → (page ≡ h.page) × (slot ≡ h.slot) × (serial ≡ h.serial)
parts_same text page slot serial d h is p =
    let one = first_cut text page p.rest d h is p.first p.first_free in
    let two = second_cut p.rest slot serial d h one.1 p.second p.second_free in
    (one.0, two.0, two.1)

-- a part that is no number
pub bad_page : (text page rest : List ℕ) (d : Doc) (h : IsDoc d) → d.text ≡ text → text ≡ page ++ 47 ∷ rest
    → HasNo 47 page → ((n : ℕ) → IsDecimal page n (2 ^ 32) → ⊥) → ⊥
bad_page text page rest d h is e free bad = bad d.name.page
    (subst (λ z. IsDecimal z d.name.page (2 ^ 32)) (sym (first_cut text page rest d h is e free).0) h.page_is)

pub bad_slot : (text page slot serial : List ℕ) (d : Doc) (h : IsDoc d) → d.text ≡ text → AreParts text page slot serial
    → ((n : ℕ) → IsDecimal slot n (2 ^ 16) → ⊥) → ⊥
bad_slot text page slot serial d h is p bad = bad d.name.slot
    (subst (λ z. IsDecimal z d.name.slot (2 ^ 16)) (sym (parts_same text page slot serial d h is p).1) h.slot_is)

pub bad_serial : (text page slot serial : List ℕ) (d : Doc) (h : IsDoc d) → d.text ≡ text
    → AreParts text page slot serial → ((n : ℕ) → IsDecimal serial n (2 ^ 64) → ⊥) → ⊥
bad_serial text page slot serial d h is p bad = bad d.name.serial
    (subst (λ z. IsDecimal z d.name.serial (2 ^ 64)) (sym (parts_same text page slot serial d h is p).2) h.serial_is)

numbers_same : (ds : List ℕ) (es : List ℕ) (m n bound : ℕ) → ds ≡ es → IsDecimal ds m bound → IsDecimal es n bound
    → m ≡ n
numbers_same ds es m n bound e h k = sym h.value ∙ ap (digits_value 10) e ∙ k.value

-- a text names one document
pub one_doc : (d e : Doc) → IsDoc d → IsDoc e → d.text ≡ e.text → d ≡ e
one_doc d e h k is =
    let p : AreParts e.text h.page h.slot h.serial = record {
      rest = h.slot ++ 35 ∷ h.serial;
      first = sym is ∙ h.text;
      first_free = first_part d h;
      second = refl;
      second_free = second_part d h;
    } in
    let o = parts_same e.text h.page h.slot h.serial e k refl p in
    let a : d.name.page ≡ e.name.page =
    numbers_same h.page k.page d.name.page e.name.page (2 ^ 32) o.0 h.page_is k.page_is in
    let b : d.name.slot ≡ e.name.slot =
    numbers_same h.slot k.slot d.name.slot e.name.slot (2 ^ 16) o.1 h.slot_is k.slot_is in
    let c : d.name.serial ≡ e.name.serial =
    numbers_same h.serial k.serial d.name.serial e.name.serial (2 ^ 64) o.2 h.serial_is k.serial_is in
    by d.text e.text d.name.page e.name.page d.name.slot e.name.slot d.name.serial e.name.serial is a b c
  where
    of : List ℕ → ℕ → ℕ → ℕ → Doc
    of text page slot serial = record { text = text; name = record { page = page; slot = slot; serial = serial } }

    by : (t u : List ℕ) (p q s r m n : ℕ) → t ≡ u → p ≡ q → s ≡ r → m ≡ n → of t p s m ≡ of u q r n
    by t u p q s r m n e f g i =
        ap (λ z. of z p s m) e ∙ ap (λ z. of u z s m) f ∙ ap (λ z. of u q z m) g ∙ ap (λ z. of u q r z) i

-- ── numbers ──
unsigned : {E : Type 0} (k : ℕ) (bs : List ℕ) (r : Result ℕ E) → ParsesUnsigned k 10 bs r → get_or bs 0 0 ≢ 43
    → OkIff r (IsNumeral 10 bs × (digits_value 10 bs < 2 ^ k)) (digits_value 10 bs)
unsigned k bs r h n = subst (λ l. OkIff r (IsNumeral 10 l × (digits_value 10 l < 2 ^ k)) (digits_value 10 l))
    (without_leading_plus_none bs n) h

pub decimal_read : {E : Type 0} (k n : ℕ) (bs : List ℕ) (r : Result ℕ E) → ParsesUnsigned k 10 bs r → get_or bs 0 0 ≢ 43
    → r ≡ Ok n → IsDecimal bs n (2 ^ k)
decimal_read k n bs r h plus is =
    let o = subst (λ x. OkIff x (IsNumeral 10 bs × (digits_value 10 bs < 2 ^ k)) (digits_value 10 bs)) is
    (unsigned k bs r h plus) in
    let value : n ≡ digits_value 10 bs = o.1 in
    record { numeral = o.0.0; value = sym value; below = subst (λ m. m < 2 ^ k) (sym value) o.0.1 }

pub no_decimal : {E : Type 0} (k : ℕ) (e : E) (bs : List ℕ) (r : Result ℕ E) → ParsesUnsigned k 10 bs r
    → get_or bs 0 0 ≢ 43 → r ≡ Err e
    → (n : ℕ) → IsDecimal bs n (2 ^ k) → ⊥
no_decimal k e bs r h plus is n d =
    let o = subst (λ x. OkIff x (IsNumeral 10 bs × (digits_value 10 bs < 2 ^ k)) (digits_value 10 bs)) is
    (unsigned k bs r h plus) in
    o (d.numeral, subst (λ m. m < 2 ^ k) (sym d.value) d.below)

-- a number at most this one
pub decimal_within : (most n : ℕ) (bs : List ℕ) → IsDecimal bs n (2 ^ 64) → n ≤ most → IsDecimal bs n (most + 1)
decimal_within most n bs d within =
    record { numeral = d.numeral; value = d.value; below = omega (arith, within) }

pub past_most : (most n : ℕ) (bs : List ℕ) → IsDecimal bs n (2 ^ 64) → most < n → (m : ℕ) → IsDecimal bs m (most + 1)
    → ⊥
past_most most n bs d past m e =
    let same : n ≡ m = sym d.value ∙ e.value in omega (arith, past, same, e.below)

pub no_decimal_within : {E : Type 0} (most : ℕ) (e : E) (bs : List ℕ) (r : Result ℕ E) → most < 2 ^ 64
    → ParsesUnsigned 64 10 bs r → get_or bs 0 0 ≢ 43 → r ≡ Err e → (n : ℕ) → IsDecimal bs n (most + 1) → ⊥
no_decimal_within most e bs r fits h plus is n d = no_decimal 64 e bs r h plus is n
    (record { numeral = d.numeral; value = d.value; below = omega (arith, fits, d.below) })

-- a numeral begins with a digit
pub begins_numeral : (bs : List ℕ) → IsNumeral 10 bs → (48 ≤ get_or bs 0 0) × (get_or bs 0 0 ≤ 57)
begins_numeral [] h = absurd (omega (arith, h.0))
begins_numeral (c ∷ bs) h = digit_from_value c h.1.0
