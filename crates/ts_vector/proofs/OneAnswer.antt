-- Want of memory aside, a text, items and a join have one answer.
use Rattle.std.proofs.Common.{◌≡◌, ◌≢◌, inl, inr, ℕ, ◌-◌, ◌^◌, ◌≤◌, min, List, [], ◌∷◌, ◌++◌, length, refl, sym, ◌∙◌}
use Rattle.std.proofs.Common.{ap, subst, arith}
use Rattle.std.specs.Prelude.{All, Any, Result, Ok, Err}
use Rattle.std.proofs.lemmas.List.Elements.{All-head, All-tail}
use Rattle.ts_base.specs.Vectors.{Position, Entry, Vector, content_size}
use Rattle.ts_vector.specs.Text.{Written, IsVectorText, FirstLong, AllShort, entries, IsTextOf}
use Rattle.ts_vector.specs.Normal.{IsNormalFormOf}
use Rattle.ts_vector.specs.Changes.{IsBuiltOf, IsGreatest, IsJoinOf, shifted}
use Rattle.ts_vector.specs.Failures.{IsTooLargeText, AreTooLarge, IsTooLargeJoin}
use Rattle.ts_vector.specs.AnswerLaws.{IsTextAnswer, IsBuildAnswer, IsJoinAnswer, TextHasOneAnswer, BuildHasOneAnswer}
use Rattle.ts_vector.specs.AnswerLaws.{JoinHasOneAnswer}
use Rattle.ts_vector.specs.declared.error.VectorError.{VectorError}
use Rattle.ts_vector.specs.declared.error.VectorError.TheVariants.{Syntax, LexemeTooLong, VectorTooLarge, BadBytes}
use Rattle.ts_vector.specs.declared.error.VectorError.TheVariants.{OutOfMemory}
use Rattle.ts_vector.proofs.Forms.{normal_form_one}
use Rattle.ts_vector.proofs.OneList as lists

-- no lexeme is too long, and one is
fit_or_long : (items : List Written) (n : ℕ) → AllShort items → FirstLong items n → ⊥
fit_or_long [] n h l = l
fit_or_long (x ∷ items) n h (inl l) =
    let le : length x.lexeme ≤ 2046 = All-head (λ item. length item.lexeme ≤ 2046) x items h in omega (arith, l.0)
fit_or_long (x ∷ items) n h (inr l) = fit_or_long items n (All-tail (λ item. length item.lexeme ≤ 2046) x items h) l.1

first_long_one : (items : List Written) (m n : ℕ) → FirstLong items m → FirstLong items n → m ≡ n
first_long_one [] m n h k = absurd h
first_long_one (x ∷ items) m n (inl h) (inl k) = h.1 ∙ sym k.1
first_long_one (x ∷ items) m n (inl h) (inr k) = absurd (let z : ⊥ = omega (arith, h.0, k.0) in z)
first_long_one (x ∷ items) m n (inr h) (inl k) = absurd (let z : ⊥ = omega (arith, h.0, k.0) in z)
first_long_one (x ∷ items) m n (inr h) (inr k) = first_long_one items m n h.1 k.1

same_items : (text : List ℕ) (a b : List Written) → IsVectorText text a → IsVectorText text b → a ≡ b
same_items text a b h k = lists.text_has_one_list text a b h k

ok_large : (text : List ℕ) (v : Vector) (n : ℕ) → IsTextOf text v → IsTooLargeText text n → ⊥
ok_large text v n h k =
    let e : h.items ≡ k.items = same_items text h.items k.items h.text_of k.text_of in
    let f : v ≡ k.vector = normal_form_one (entries h.items) v k.vector h.form
    (subst (λ t. IsNormalFormOf (entries t) k.vector) (sym e) k.form) in
    omega (arith, h.small, k.large, k.size, ap content_size f)

ok_long : (text : List ℕ) (v : Vector) (n : ℕ) → IsTextOf text v
    → (items : List Written) × IsVectorText text items × FirstLong items n → ⊥
ok_long text v n h k = fit_or_long k.0 n (subst AllShort (same_items text h.items k.0 h.text_of k.1) h.fit) k.2

long_large : (text : List ℕ) (m n : ℕ) → (items : List Written) × IsVectorText text items × FirstLong items m
    → IsTooLargeText text n → ⊥
long_large text m n h k =
    fit_or_long k.items m k.fit (subst (λ i. FirstLong i m) (same_items text h.0 k.items h.1 k.text_of) h.2)

large_one : (text : List ℕ) (m n : ℕ) → IsTooLargeText text m → IsTooLargeText text n → m ≡ n
large_one text m n h k =
    let e : h.items ≡ k.items = same_items text h.items k.items h.text_of k.text_of in
    let f : h.vector ≡ k.vector = normal_form_one (entries h.items) h.vector k.vector h.form
    (subst (λ t. IsNormalFormOf (entries t) k.vector) (sym e) k.form) in
    h.size ∙ ap content_size f ∙ sym k.size

long_one : (text : List ℕ) (m n : ℕ) → (items : List Written) × IsVectorText text items × FirstLong items m
    → (items : List Written) × IsVectorText text items × FirstLong items n → m ≡ n
long_one text m n h k = first_long_one k.0 m n (subst (λ i. FirstLong i m) (same_items text h.0 k.0 h.1 k.1) h.2) k.2

syntax_ends : (text : List ℕ) (n : ℕ) (items : List Written) → IsTextAnswer text (Err (Syntax n))
    → IsVectorText text items → ⊥
syntax_ends text n items f h = lists.fault_is_outside text n f items h

pub text_has_one_answer : TextHasOneAnswer
text_has_one_answer text = by
  where
    by : (a b : Result Vector VectorError) → a ≢ Err OutOfMemory → b ≢ Err OutOfMemory → IsTextAnswer text a
        → IsTextAnswer text b → a ≡ b
    by (Ok v) (Ok w) na nb h k = ap Ok (lists.text_has_one_value text v w h k)
    by (Ok v) (Err (Syntax n)) na nb h k = absurd (syntax_ends text n h.items k h.text_of)
    by (Ok v) (Err (LexemeTooLong n)) na nb h k = absurd (ok_long text v n h k)
    by (Ok v) (Err (VectorTooLarge n)) na nb h k = absurd (ok_large text v n h k)
    by (Ok v) (Err (BadBytes n)) na nb h k = absurd k
    by (Ok v) (Err OutOfMemory) na nb h k = absurd (nb refl)
    by (Err (Syntax m)) (Ok w) na nb h k = absurd (syntax_ends text m k.items h k.text_of)
    by (Err (Syntax m)) (Err (Syntax n)) na nb h k = ap (λ z. Err (Syntax z)) (lists.fault_has_one_place text m n h k)
    by (Err (Syntax m)) (Err (LexemeTooLong n)) na nb h k = absurd (syntax_ends text m k.0 h k.1)
    by (Err (Syntax m)) (Err (VectorTooLarge n)) na nb h k = absurd (syntax_ends text m k.items h k.text_of)
    by (Err (Syntax m)) (Err (BadBytes n)) na nb h k = absurd k
    by (Err (Syntax m)) (Err OutOfMemory) na nb h k = absurd (nb refl)
    by (Err (LexemeTooLong m)) (Ok w) na nb h k = absurd (ok_long text w m k h)
    by (Err (LexemeTooLong m)) (Err (Syntax n)) na nb h k = absurd (syntax_ends text n h.0 k h.1)
    by (Err (LexemeTooLong m)) (Err (LexemeTooLong n)) na nb h k =
        ap (λ z. Err (LexemeTooLong z)) (long_one text m n h k)
    by (Err (LexemeTooLong m)) (Err (VectorTooLarge n)) na nb h k = absurd (long_large text m n h k)
    by (Err (LexemeTooLong m)) (Err (BadBytes n)) na nb h k = absurd k
    by (Err (LexemeTooLong m)) (Err OutOfMemory) na nb h k = absurd (nb refl)
    by (Err (VectorTooLarge m)) (Ok w) na nb h k = absurd (ok_large text w m k h)
    by (Err (VectorTooLarge m)) (Err (Syntax n)) na nb h k = absurd (syntax_ends text n h.items k h.text_of)
    by (Err (VectorTooLarge m)) (Err (LexemeTooLong n)) na nb h k = absurd (long_large text n m k h)
    by (Err (VectorTooLarge m)) (Err (VectorTooLarge n)) na nb h k =
        ap (λ z. Err (VectorTooLarge z)) (large_one text m n h k)
    by (Err (VectorTooLarge m)) (Err (BadBytes n)) na nb h k = absurd k
    by (Err (VectorTooLarge m)) (Err OutOfMemory) na nb h k = absurd (nb refl)
    by (Err (BadBytes m)) (Ok w) na nb h k = absurd h
    by (Err (BadBytes m)) (Err (Syntax n)) na nb h k = absurd h
    by (Err (BadBytes m)) (Err (LexemeTooLong n)) na nb h k = absurd h
    by (Err (BadBytes m)) (Err (VectorTooLarge n)) na nb h k = absurd h
    by (Err (BadBytes m)) (Err (BadBytes n)) na nb h k = absurd h
    by (Err (BadBytes m)) (Err OutOfMemory) na nb h k = absurd (nb refl)
    by (Err OutOfMemory) (Ok w) na nb h k = absurd (na refl)
    by (Err OutOfMemory) (Err (Syntax n)) na nb h k = absurd (na refl)
    by (Err OutOfMemory) (Err (LexemeTooLong n)) na nb h k = absurd (na refl)
    by (Err OutOfMemory) (Err (VectorTooLarge n)) na nb h k = absurd (na refl)
    by (Err OutOfMemory) (Err (BadBytes n)) na nb h k = absurd (na refl)
    by (Err OutOfMemory) (Err OutOfMemory) na nb h k = absurd (na refl)

-- a vector has one greatest position
below : (v : Vector) (m n : ℕ) → IsGreatest v m → IsGreatest v n → m ≤ n
below v m n h k = elim h.met [
  | inl z ↦ omega arith
  | inr a ↦ under a
]
  where
    under : Any (λ entry. Any (λ p. p.at ≡ m) entry.positions) v → m ≤ n
    under a =
        let bound : All (λ p. p.at ≤ n) a.1.positions =
        subst (λ (e : Entry). All (λ p. p.at ≤ n) e.positions) a.3 (k.bound a.0 a.1 a.2) in
        let inner : Any (λ p. p.at ≡ m) a.1.positions = a.4 in
        let le : inner.1.at ≤ n = subst (λ (p : Position). p.at ≤ n) inner.3 (bound inner.0 inner.1 inner.2) in
        omega (arith, le, inner.4)

greatest_one : (v : Vector) (m n : ℕ) → IsGreatest v m → IsGreatest v n → m ≡ n
greatest_one v m n h k = omega (arith, below v m n h k, below v n m k h)

join_one : (first second v w : Vector) → IsJoinOf first second v → IsJoinOf first second w → v ≡ w
join_one first second v w h k = normal_form_one (first ++ shifted h.0 second) v w h.2
    (subst (λ n. IsNormalFormOf (first ++ shifted n second) w) (greatest_one first k.0 h.0 k.1 h.1) k.2)

join_large : (first second v : Vector) (n : ℕ) → IsJoinOf first second v → IsTooLargeJoin first second n → ⊥
join_large first second v n h k =
    let f : v ≡ k.vector = normal_form_one (first ++ shifted h.0 second) v k.vector h.2 (subst (λ n. IsNormalFormOf
    (first ++ shifted n second) k.vector) (greatest_one first k.greatest h.0 k.is_greatest h.1) k.form) in
    omega (arith, h.3, k.large, k.size, ap content_size f)

large_joins : (first second : Vector) (m n : ℕ) → IsTooLargeJoin first second m → IsTooLargeJoin first second n → m ≡ n
large_joins first second m n h k =
    let f : h.vector ≡ k.vector = normal_form_one (first ++ shifted h.greatest second) h.vector k.vector h.form
    (subst (λ n. IsNormalFormOf (first ++ shifted n second) k.vector)
    (greatest_one first k.greatest h.greatest k.is_greatest h.is_greatest) k.form) in
    h.size ∙ ap content_size f ∙ sym k.size

pub join_has_one_answer : JoinHasOneAnswer
join_has_one_answer first second = by
  where
    by : (a b : Result Vector VectorError) → a ≢ Err OutOfMemory → b ≢ Err OutOfMemory → IsJoinAnswer first second a
        → IsJoinAnswer first second b → a ≡ b
    by (Ok v) (Ok w) na nb h k = ap Ok (join_one first second v w h k)
    by (Ok v) (Err (Syntax n)) na nb h k = absurd k
    by (Ok v) (Err (LexemeTooLong n)) na nb h k = absurd k
    by (Ok v) (Err (VectorTooLarge n)) na nb h k = absurd (join_large first second v n h k)
    by (Ok v) (Err (BadBytes n)) na nb h k = absurd k
    by (Ok v) (Err OutOfMemory) na nb h k = absurd (nb refl)
    by (Err (Syntax m)) (Ok w) na nb h k = absurd h
    by (Err (Syntax m)) (Err (Syntax n)) na nb h k = absurd h
    by (Err (Syntax m)) (Err (LexemeTooLong n)) na nb h k = absurd h
    by (Err (Syntax m)) (Err (VectorTooLarge n)) na nb h k = absurd h
    by (Err (Syntax m)) (Err (BadBytes n)) na nb h k = absurd h
    by (Err (Syntax m)) (Err OutOfMemory) na nb h k = absurd (nb refl)
    by (Err (LexemeTooLong m)) (Ok w) na nb h k = absurd h
    by (Err (LexemeTooLong m)) (Err (Syntax n)) na nb h k = absurd h
    by (Err (LexemeTooLong m)) (Err (LexemeTooLong n)) na nb h k = absurd h
    by (Err (LexemeTooLong m)) (Err (VectorTooLarge n)) na nb h k = absurd h
    by (Err (LexemeTooLong m)) (Err (BadBytes n)) na nb h k = absurd h
    by (Err (LexemeTooLong m)) (Err OutOfMemory) na nb h k = absurd (nb refl)
    by (Err (VectorTooLarge m)) (Ok w) na nb h k = absurd (join_large first second w m k h)
    by (Err (VectorTooLarge m)) (Err (Syntax n)) na nb h k = absurd k
    by (Err (VectorTooLarge m)) (Err (LexemeTooLong n)) na nb h k = absurd k
    by (Err (VectorTooLarge m)) (Err (VectorTooLarge n)) na nb h k =
        ap (λ z. Err (VectorTooLarge z)) (large_joins first second m n h k)
    by (Err (VectorTooLarge m)) (Err (BadBytes n)) na nb h k = absurd k
    by (Err (VectorTooLarge m)) (Err OutOfMemory) na nb h k = absurd (nb refl)
    by (Err (BadBytes m)) (Ok w) na nb h k = absurd h
    by (Err (BadBytes m)) (Err (Syntax n)) na nb h k = absurd h
    by (Err (BadBytes m)) (Err (LexemeTooLong n)) na nb h k = absurd h
    by (Err (BadBytes m)) (Err (VectorTooLarge n)) na nb h k = absurd h
    by (Err (BadBytes m)) (Err (BadBytes n)) na nb h k = absurd h
    by (Err (BadBytes m)) (Err OutOfMemory) na nb h k = absurd (nb refl)
    by (Err OutOfMemory) (Ok w) na nb h k = absurd (na refl)
    by (Err OutOfMemory) (Err (Syntax n)) na nb h k = absurd (na refl)
    by (Err OutOfMemory) (Err (LexemeTooLong n)) na nb h k = absurd (na refl)
    by (Err OutOfMemory) (Err (VectorTooLarge n)) na nb h k = absurd (na refl)
    by (Err OutOfMemory) (Err (BadBytes n)) na nb h k = absurd (na refl)
    by (Err OutOfMemory) (Err OutOfMemory) na nb h k = absurd (na refl)

built_large : (items : List Entry) (v : Vector) (n : ℕ) → IsBuiltOf items v → AreTooLarge items n → ⊥
built_large items v n h k =
    omega (arith, h.small, k.large, ap content_size (normal_form_one items v k.vector h.form k.form))

large_builds : (items : List Entry) (m n : ℕ) → AreTooLarge items m → AreTooLarge items n → m ≡ n
large_builds items m n h k = h.size
    ∙ ap (λ v. min (content_size v) (2 ^ 64 - 1)) (normal_form_one items h.vector k.vector h.form k.form) ∙ sym k.size

pub build_has_one_answer : BuildHasOneAnswer
build_has_one_answer items = by
  where
    by : (a b : Result Vector VectorError) → a ≢ Err OutOfMemory → b ≢ Err OutOfMemory → IsBuildAnswer items a
        → IsBuildAnswer items b → a ≡ b
    by (Ok v) (Ok w) na nb h k = ap Ok (normal_form_one items v w h.form k.form)
    by (Ok v) (Err (Syntax n)) na nb h k = absurd k
    by (Ok v) (Err (LexemeTooLong n)) na nb h k = absurd k
    by (Ok v) (Err (VectorTooLarge n)) na nb h k = absurd (built_large items v n h k)
    by (Ok v) (Err (BadBytes n)) na nb h k = absurd k
    by (Ok v) (Err OutOfMemory) na nb h k = absurd (nb refl)
    by (Err (Syntax m)) (Ok w) na nb h k = absurd h
    by (Err (Syntax m)) (Err (Syntax n)) na nb h k = absurd h
    by (Err (Syntax m)) (Err (LexemeTooLong n)) na nb h k = absurd h
    by (Err (Syntax m)) (Err (VectorTooLarge n)) na nb h k = absurd h
    by (Err (Syntax m)) (Err (BadBytes n)) na nb h k = absurd h
    by (Err (Syntax m)) (Err OutOfMemory) na nb h k = absurd (nb refl)
    by (Err (LexemeTooLong m)) (Ok w) na nb h k = absurd h
    by (Err (LexemeTooLong m)) (Err (Syntax n)) na nb h k = absurd h
    by (Err (LexemeTooLong m)) (Err (LexemeTooLong n)) na nb h k = absurd h
    by (Err (LexemeTooLong m)) (Err (VectorTooLarge n)) na nb h k = absurd h
    by (Err (LexemeTooLong m)) (Err (BadBytes n)) na nb h k = absurd h
    by (Err (LexemeTooLong m)) (Err OutOfMemory) na nb h k = absurd (nb refl)
    by (Err (VectorTooLarge m)) (Ok w) na nb h k = absurd (built_large items w m k h)
    by (Err (VectorTooLarge m)) (Err (Syntax n)) na nb h k = absurd k
    by (Err (VectorTooLarge m)) (Err (LexemeTooLong n)) na nb h k = absurd k
    by (Err (VectorTooLarge m)) (Err (VectorTooLarge n)) na nb h k =
        ap (λ z. Err (VectorTooLarge z)) (large_builds items m n h k)
    by (Err (VectorTooLarge m)) (Err (BadBytes n)) na nb h k = absurd k
    by (Err (VectorTooLarge m)) (Err OutOfMemory) na nb h k = absurd (nb refl)
    by (Err (BadBytes m)) (Ok w) na nb h k = absurd h
    by (Err (BadBytes m)) (Err (Syntax n)) na nb h k = absurd h
    by (Err (BadBytes m)) (Err (LexemeTooLong n)) na nb h k = absurd h
    by (Err (BadBytes m)) (Err (VectorTooLarge n)) na nb h k = absurd h
    by (Err (BadBytes m)) (Err (BadBytes n)) na nb h k = absurd h
    by (Err (BadBytes m)) (Err OutOfMemory) na nb h k = absurd (nb refl)
    by (Err OutOfMemory) (Ok w) na nb h k = absurd (na refl)
    by (Err OutOfMemory) (Err (Syntax n)) na nb h k = absurd (na refl)
    by (Err OutOfMemory) (Err (LexemeTooLong n)) na nb h k = absurd (na refl)
    by (Err OutOfMemory) (Err (VectorTooLarge n)) na nb h k = absurd (na refl)
    by (Err OutOfMemory) (Err (BadBytes n)) na nb h k = absurd (na refl)
    by (Err OutOfMemory) (Err OutOfMemory) na nb h k = absurd (na refl)
