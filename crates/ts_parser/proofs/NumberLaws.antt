-- The number at the front is the one that the rules name.
use Rattle.std.proofs.Common.{◌≡◌, ℕ, suc, List, [], ◌∷◌, ◌++◌, length, Bool, true, false, not, refl, sym, ap, ◌∙◌}
use Rattle.std.proofs.Common.{subst, arith, inl, inr, Option, Some, None, IfSome}
use Rattle.std.specs.List.{join_with_byte}
use Rattle.std.specs.Char.{is_ascii_digit}
use Rattle.std.proofs.lemmas.Bool.{false≢true, true≢false}
use Rattle.std.proofs.lemmas.Bool.Decides.{not_from_Decides}
use Rattle.std.proofs.lemmas.Option.{none-some, same_Some}
use Rattle.ts_parser.specs.declared.kinds.TokenType.{TokenType}
use Rattle.ts_parser.specs.declared.kinds.TokenType.TheVariants.{Asciiword, Word, Numword, Sfloat, Version}
use Rattle.ts_parser.specs.declared.kinds.TokenType.TheVariants.{HwordNumpart, HwordPart, HwordAsciipart, Blank}
use Rattle.ts_parser.specs.declared.kinds.TokenType.TheVariants.{Numhword, Asciihword, Hword, Float, Int, Uint}
use Rattle.ts_parser.specs.declared.forms.Form.{Form}
use Rattle.ts_parser.specs.Letters.{IsWordByte, StartsWithout, is_word_byte}
use Rattle.ts_parser.specs.Numbers.{IsSign, IsNumber, MayStart, NumberAt, NoNumber, IsLongest}
use Rattle.ts_parser.specs.NumberForms.{is_sign, is_free, with_sign, number_front, number_at}
use Rattle.ts_parser.specs.Forms.{form}
use Rattle.ts_parser.proofs.ByteTests.{tells_sign, tells_word_byte, denied, digit_no_sign, ends_test, test_ends}
use Rattle.ts_parser.proofs.NumberFronts.{Body, whole_body, float_body, version_body, sfloat_body, body_complete}
use Rattle.ts_parser.proofs.NumberBodies.{BodyAt, body_sound}

-- ── signs ──
unsigned_number : (k : TokenType) (u : List ℕ) → Body false k u → IsNumber k u
unsigned_number _ _ (whole_body d g) = g
unsigned_number _ _ (float_body a b g h) = ([], a, b, inl refl, g, h, refl)
unsigned_number _ _ (version_body gs s n h) = (gs, n, h, refl)
unsigned_number _ _ (sfloat_body m e t d g h s i) = ([], m, e, t, d, inl refl, g, h, s, i, refl)

signed_number : (c : ℕ) (k : TokenType) (u : List ℕ) → IsSign c → Body true k u → IsNumber k (c ∷ u)
signed_number c _ _ s (whole_body d g) = (c, d, s, g, refl)
signed_number c _ _ s (float_body a b g h) = (c ∷ [], a, b, inr (c, s, refl), g, h, refl)
signed_number c _ _ s (version_body gs e n h) = absurd (true≢false e)
signed_number c _ _ s (sfloat_body m e t d g h i j) = (c ∷ [], m, e, t, d, inr (c, s, refl), g, h, i, j, refl)

data Parted (k : TokenType) (v : List ℕ) : Type 0 where
  unsigned_parted : Body false k v → Parted k v
  signed_parted : (c : ℕ) (u : List ℕ) → v ≡ c ∷ u → IsSign c → Body true k u → Parted k v

without_sign : (k : TokenType) (v u : List ℕ) → v ≡ u → Body false k u → Parted k v
without_sign k v u e b = unsigned_parted (let P : List ℕ → Type 0 = λ z. Body false k z in subst P (sym e) b)

parted : (k : TokenType) (v : List ℕ) → IsNumber k v → Parted k v
parted Uint v h = unsigned_parted (whole_body v h)
parted Int v (c, d, s, g, e) = signed_parted c d e s (whole_body d g)
parted Float v (s, a, b, inl e, g, h, i) =
    without_sign Float v (a ++ 46 ∷ b) (i ∙ ap (λ z. z ++ (a ++ 46 ∷ b)) e) (float_body a b g h)
parted Float v (s, a, b, inr (c, j, e), g, h, i) =
    signed_parted c (a ++ 46 ∷ b) (i ∙ ap (λ z. z ++ (a ++ 46 ∷ b)) e) j (float_body a b g h)
parted Version v (gs, n, h, e) = without_sign Version v (join_with_byte 46 gs) e (version_body gs refl n h)
parted Sfloat v (s, m, e, t, d, inl q, g, h, i, j, k) =
    without_sign Sfloat v (m ++ e ∷ (t ++ d)) (k ∙ ap (λ z. z ++ (m ++ e ∷ (t ++ d))) q) (sfloat_body m e t d g h i j)
parted Sfloat v (s, m, e, t, d, inr (c, l, q), g, h, i, j, k) =
    signed_parted c (m ++ e ∷ (t ++ d)) (k ∙ ap (λ z. z ++ (m ++ e ∷ (t ++ d))) q) l (sfloat_body m e t d g h i j)
parted Asciiword v h = absurd h
parted Word v h = absurd h
parted Numword v h = absurd h
parted HwordNumpart v h = absurd h
parted HwordPart v h = absurd h
parted HwordAsciipart v h = absurd h
parted Blank v h = absurd h
parted Numhword v h = absurd h
parted Asciihword v h = absurd h
parted Hword v h = absurd h

-- ── the number of the rules is the one computed ──
front_at_by : (before : Option ℕ) (c : ℕ) (z : List ℕ) (f : Form) (b : Bool) → is_ascii_digit c ≡ b
    → number_front false (c ∷ z) ≡ Some f → number_at before (c ∷ z) ≡ Some f
front_at_by before c z f true e h = rw (digit_no_sign c e) h
front_at_by before c z f false e h = absurd (none-some f (let k : None ≡ Some f = rw e at h in k))

front_at : (before : Option ℕ) (z : List ℕ) (f : Form) → number_front false z ≡ Some f → number_at before z ≡ Some f
front_at before [] f h = absurd (none-some f h)
front_at before (c ∷ z) f h = front_at_by before c z f (is_ascii_digit c) refl h

pub free_test : (before : Option ℕ) → IfSome before (λ c. IsWordByte c → ⊥) → is_free before ≡ true
free_test None h = refl
free_test (Some c) h = rw (denied (is_word_byte c) (tells_word_byte c) h) refl

pub test_free : (before : Option ℕ) → is_free before ≡ true → IfSome before (λ c. IsWordByte c → ⊥)
test_free None h = tt
test_free (Some c) h = test_free_by c (is_word_byte c) refl h
  where
    test_free_by : (c : ℕ) (b : Bool) → is_word_byte c ≡ b → not (is_word_byte c) ≡ true → IsWordByte c → ⊥
    test_free_by c true e h = absurd (false≢true (let k : false ≡ true = rw e at h in k))
    test_free_by c false e h = not_from_Decides (is_word_byte c) (tells_word_byte c) e

may_free : (before : Option ℕ) (c : ℕ) (u v : List ℕ) → v ≡ c ∷ u → IsSign c → MayStart before v → is_free before ≡ true
may_free before c u v e s (inl h) = free_test before h
may_free before c u v e s (inr h) = absurd ((let k : StartsWithout IsSign (c ∷ u) = rw e at h in k) s)

complete_by : (before : Option ℕ) (k : TokenType) (v r : List ℕ) → Parted k v → NumberAt before k v r
    → number_at before (v ++ r) ≡ Some (form k (length v))
complete_by before k v r (unsigned_parted b) n =
    front_at before (v ++ r) (form k (length v)) (body_complete false k v r b (ends_test r n.ends))
complete_by before k v r (signed_parted c u e s b) n =
    let f = may_free before c u v e s n.starts in
    let i : is_sign c ≡ true = (tells_sign c).1 s in
    let one : number_at before (c ∷ (u ++ r)) ≡ with_sign (number_front true (u ++ r)) = rw (i, f) refl in
    let w : with_sign (number_front true (u ++ r)) ≡ Some (form k (suc (length u))) =
    ap with_sign (body_complete true k u r b (ends_test r n.ends)) in
    ap (λ z. number_at before (z ++ r)) e ∙ one ∙ w ∙ ap (λ z. Some (form k (length z))) (sym e)

pub number_complete : (before : Option ℕ) (k : TokenType) (v r : List ℕ) → NumberAt before k v r
    → number_at before (v ++ r) ≡ Some (form k (length v))
number_complete before k v r n = complete_by before k v r (parted k v n.number) n

-- ── and the other way ──
-- a number is at the front of u
pub record NumberIn (before : Option ℕ) (u : List ℕ) (f : Form) : Type 0 where
  pub number : List ℕ
  pub rest : List ℕ
  pub is : u ≡ number ++ rest
  pub size : length number ≡ f.length
  pub holds : NumberAt before f.kind number rest

starts_unsigned : (c : ℕ) (u b r : List ℕ) → is_sign c ≡ false → c ∷ u ≡ b ++ r → StartsWithout IsSign b
starts_unsigned c u [] r h e = tt
starts_unsigned c u (d ∷ b) r h e = not_from_Decides (is_sign d) (tells_sign d) (let k : d ≡ c = cc in ap is_sign k ∙ h)

unsigned_in : (before : Option ℕ) (c : ℕ) (u : List ℕ) (f : Form) → is_sign c ≡ false → BodyAt false (c ∷ u) f
    → NumberIn before (c ∷ u) f
unsigned_in before c u f h b = record {
  number = b.body;
  rest = b.rest;
  is = b.is;
  size = b.size;
  holds = record {
    number = unsigned_number f.kind b.body b.kind;
    starts = inr (starts_unsigned c u b.body b.rest h b.is);
    ends = test_ends b.rest b.ends;
  };
}

signed_in : (before : Option ℕ) (c : ℕ) (u : List ℕ) (g : Form) → IsSign c → is_free before ≡ true → BodyAt true u g
    → NumberIn before (c ∷ u) (form g.kind (suc g.length))
signed_in before c u g s f b = record {
  number = c ∷ b.body;
  rest = b.rest;
  is = ap (λ z. c ∷ z) b.is;
  size = ap suc b.size;
  holds = record {
    number = signed_number c g.kind b.body s b.kind;
    starts = inl (test_free before f);
    ends = test_ends b.rest b.ends;
  };
}

with_sign_in : (before : Option ℕ) (c : ℕ) (u : List ℕ) (f : Form) (o : Option Form) → IsSign c → is_free before ≡ true
    → number_front true u ≡ o → with_sign o ≡ Some f → NumberIn before (c ∷ u) f
with_sign_in before c u f None s b e h = absurd (none-some f h)
with_sign_in before c u f (Some g) s b e h =
    let P : Form → Type 0 = λ q. NumberIn before (c ∷ u) q in
    subst P (same_Some (form g.kind (suc g.length)) f h) (signed_in before c u g s b (body_sound true u g e))

number_in : (before : Option ℕ) (c : ℕ) (u : List ℕ) (f : Form) (a b : Bool) → is_sign c ≡ a → is_free before ≡ b
    → number_at before (c ∷ u) ≡ Some f → NumberIn before (c ∷ u) f
number_in before c u f true true s b h =
    with_sign_in before c u f (number_front true u) ((tells_sign c).0 s) b refl (rw (s, b) at h)
number_in before c u f true false s b h = absurd (none-some f (let k : None ≡ Some f = rw (s, b) at h in k))
number_in before c u f false b s _ h = unsigned_in before c u f s (body_sound false (c ∷ u) f (rw s at h))

pub number_sound : (before : Option ℕ) (u : List ℕ) (f : Form) → number_at before u ≡ Some f → NumberIn before u f
number_sound before [] f h = absurd (none-some f h)
number_sound before (c ∷ u) f h = number_in before c u f (is_sign c) (is_free before) refl refl h

-- ── no number, and the only number ──
pub no_number : (before : Option ℕ) (u : List ℕ) → number_at before u ≡ None → NoNumber before u
no_number before u h k v r e n =
    none-some (form k (length v)) (sym h ∙ ap (λ z. number_at before z) e ∙ number_complete before k v r n)

none_by : (before : Option ℕ) (u : List ℕ) (o : Option Form) → number_at before u ≡ o → NoNumber before u
    → number_at before u ≡ None
none_by before u None e h = e
none_by before u (Some f) e h = let n = number_sound before u f e in absurd (h f.kind n.number n.rest n.is n.holds)

pub number_none : (before : Option ℕ) (u : List ℕ) → NoNumber before u → number_at before u ≡ None
number_none before u h = none_by before u (number_at before u) refl h

pub only_number : (before : Option ℕ) (k : TokenType) (v r : List ℕ) → NumberAt before k v r
    → IsLongest before (v ++ r) v
only_number before k v r n l w q e m =
    let a = number_complete before k v r n in
    let b = number_complete before l w q m in
    let c : Some (form k (length v)) ≡ Some (form l (length w)) = sym a ∙ ap (λ z. number_at before z) e ∙ b in
    let d : length v ≡ length w = ap (λ (f : Form). f.length) (same_Some (form k (length v)) (form l (length w)) c) in
    omega (arith, d)
