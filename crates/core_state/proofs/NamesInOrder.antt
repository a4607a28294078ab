-- Names by their serials: a list that rises has one order.
use Rattle.std.proofs.Common.{◌≡◌, ◌⊎◌, ◌<◌, ◌≤◌, ◌+◌, ℕ, zero, suc, ◌==◌, cond, Bool, true, false, nat_lt, List, []}
use Rattle.std.proofs.Common.{◌∷◌, ◌++◌, length, map, get_or, refl, sym, ap, ap₂, subst, ◌∙◌, inl, inr, arith}
use Rattle.std.specs.Prelude.{if◌then◌else◌, sum_by}
use Rattle.std.specs.List.{filter, All, flat_map}
use Rattle.std.specs.List.Sorted.{IsNonDecreasingBy}
use Rattle.std.proofs.lemmas.List.Sums.{sum_by-cons}
use Rattle.page_types.specs.declared.page.Name.{Name}
use Rattle.core_state.specs.Log.{In}
use Rattle.core_state.specs.History.{Document, Commit, History, inserts, with_document, by_serial}
use Rattle.core_state.specs.States.{names}
use Rattle.core_state.proofs.RunningOnes.{on_same, on_other, below_or_past}

-- ── how often a serial is in a list ──

abbrev pub one : ℕ → Name → ℕ
one s x = cond (x.serial == s) 1 0

abbrev pub count : ℕ → List Name → ℕ
count s xs = sum_by (one s) xs

pub one_more : (s : ℕ) (x : Name) (xs : List Name) → count s (x ∷ xs) ≡ one s x + count s xs
one_more s x xs = sum_by-cons (one s) x xs

absent : (s : ℕ) (xs : List Name) → ((y : Name) → In y xs → s < y.serial) → count s xs ≡ 0
absent s [] f = refl
absent s (x ∷ xs) f =
    let first : s < x.serial = f x (inl refl) in
    let none : one s x ≡ 0 = on_other x.serial s 1 0 (λ e. omega (arith, first, e)) in
    omega (arith, one_more s x xs, none, absent s xs (λ y i. f y (inr i)))

there_is : (x : Name) (xs : List Name) → 0 < count x.serial (x ∷ xs)
there_is x xs =
    let some : one x.serial x ≡ 1 = on_same x.serial x.serial 1 0 refl in
    omega (arith, one_more x.serial x xs, some)

-- ── lists that rise ──

abbrev pub Rise : List Name → Type 0
Rise [] = Unit {0}
Rise (x ∷ xs) = ((y : Name) → In y xs → x.serial ≤ y.serial) × Rise xs

not_before : (x y : Name) (xs ys : List Name) → Rise (y ∷ ys) → count x.serial (x ∷ xs) ≡ count x.serial (y ∷ ys)
    → x.serial < y.serial → ⊥
not_before x y xs ys rise same lt =
    let none = absent x.serial (y ∷ ys) (λ z i. elim i [
      | inl e ↦ omega (arith, lt, ap (λ (n : Name). n.serial) e)
      | inr j ↦ omega (arith, lt, rise.0 z j)
    ]) in
    omega (arith, same, none, there_is x xs)

-- two that have each serial as often are one, where a serial has one name
pub same_list : (xs ys : List Name) → Rise xs → Rise ys → ((s : ℕ) → count s xs ≡ count s ys)
    → ((x y : Name) → In x xs → In y ys → x.serial ≡ y.serial → x ≡ y) → xs ≡ ys
same_list [] [] a b c d = refl
same_list [] (y ∷ ys) a b c d = absurd (omega (arith, c y.serial, there_is y ys))
same_list (x ∷ xs) [] a b c d = absurd (omega (arith, c x.serial, there_is x xs))
same_list (x ∷ xs) (y ∷ ys) a b c d =
    let serial : x.serial ≡ y.serial = elim (below_or_past x.serial y.serial) [
      | inl lt ↦ absurd (not_before x y xs ys b (c x.serial) lt)
      | inr le ↦ elim (below_or_past y.serial x.serial) [
        | inl lt ↦ absurd (not_before y x ys xs a (sym (c y.serial)) lt)
        | inr ge ↦ omega (arith, le, ge)
      ]
    ] in
    let same : x ≡ y = d x y (inl refl) (inl refl) serial in
    ap₂ (λ (z : Name) (zs : List Name). z ∷ zs) same
    (same_list xs ys a.1 b.1 (λ s. omega (arith, c s, one_more s x xs, one_more s y ys, ap (one s) same))
    (λ p q i j. d p q (inr i) (inr j)))

pub in_at : {A : Type 0} (xs : List A) (y : A) → In y xs → (j : ℕ) × (j < length xs) × (get_or xs j y ≡ y)
in_at [] y i = absurd i
in_at (x ∷ xs) y (inl e) = (zero, omega arith, sym e)
in_at (x ∷ xs) y (inr i) = let r = in_at xs y i in (suc r.0, omega (arith, r.1), r.2)

pub all_in : {A : Type 0} (P : A → Type 0) (xs : List A) → All P xs → (y : A) → In y xs → P y
all_in P xs all y i = let r = in_at xs y i in subst P r.2 (all r.0 y r.1)

pub in_all : {A : Type 0} (P : A → Type 0) (xs : List A) → ((y : A) → In y xs → P y) → All P xs
in_all P [] f k d l = absurd (omega (arith, l))
in_all P (x ∷ xs) f zero d l = f x (inl refl)
in_all P (x ∷ xs) f (suc k) d l = in_all P xs (λ y i. f y (inr i)) k d (omega (arith, l))

pub rise_of : (xs : List Name) → IsNonDecreasingBy (λ (x : Name). x.serial) xs → Rise xs
rise_of [] h = tt
rise_of (x ∷ xs) h = (
  λ y i.
      let r = in_at xs y i in
      let le : x.serial ≤ (get_or xs r.0 y).serial = h 0 (suc r.0) y (omega arith) (omega (arith, r.1)) in
      omega (arith, le, ap (λ (n : Name). n.serial) r.2),
  rise_of xs (λ i j d le l. h (suc i) (suc j) d (omega (arith, le)) (omega (arith, l))),
)

-- ── documents by serial ──

-- a document goes before the first of a greater serial
pub by_place : (P : List Document → Type 0) (d e : Document) (es : List Document)
    → (d.name.serial < e.name.serial → P (d ∷ e ∷ es)) → (e.name.serial ≤ d.name.serial → P (e ∷ with_document d es))
    → P (with_document d (e ∷ es))
by_place P d e es before behind = elim (below_or_past d.name.serial e.name.serial) [
  | inl lt ↦
      let is : nat_lt d.name.serial e.name.serial ≡ true = grind (arith, lt) in
      subst (λ (b : Bool). P (if b then d ∷ e ∷ es else e ∷ with_document d es)) (sym is) (before lt)
  | inr le ↦
      let is : nat_lt d.name.serial e.name.serial ≡ false = grind (arith, le) in
      subst (λ (b : Bool). P (if b then d ∷ e ∷ es else e ∷ with_document d es)) (sym is) (behind le)
]

with_named : (d : Document) (es : List Document) (a : Name) → In a (names (with_document d es))
    → (a ≡ d.name) ⊎ In a (names es)
with_named d [] a = λ i. i
with_named d (e ∷ es) a = by_place (λ (zs : List Document). In a (names zs) → (a ≡ d.name) ⊎ In a (names (e ∷ es))) d e
    es
    (λ lt i. i)
    (λ le i. elim i [
      | inl f ↦ inr (inl f)
      | inr j ↦ elim (with_named d es a j) [ inl f ↦ inl f | inr k ↦ inr (inr k) ]
    ])

with_rise : (d : Document) (es : List Document) → Rise (names es) → Rise (names (with_document d es))
with_rise d [] r = (λ y i. absurd i, tt)
with_rise d (e ∷ es) r = by_place (λ (zs : List Document). Rise (names zs)) d e es
    (λ lt. (
      λ y i. elim i [
        | inl f ↦ omega (arith, lt, ap (λ (n : Name). n.serial) f)
        | inr j ↦ omega (arith, lt, r.0 y j)
      ],
      r,
    ))
    (λ le. (
      λ y i. elim (with_named d es y i) [
        | inl f ↦ omega (arith, le, ap (λ (n : Name). n.serial) f)
        | inr j ↦ r.0 y j
      ],
      with_rise d es r.1,
    ))

pub sorted_rise : (ds : List Document) → Rise (names (by_serial ds))
sorted_rise [] = tt
sorted_rise (d ∷ ds) = with_rise d (by_serial ds) (sorted_rise ds)

swap : (a b c w : ℕ) → w ≡ b + c → a + w ≡ b + (a + c)
swap a b c w h = omega (arith, h)

with_count : (s : ℕ) (d : Document) (es : List Document)
    → count s (names (with_document d es)) ≡ one s d.name + count s (names es)
with_count s d [] = one_more s d.name []
with_count s d (e ∷ es) = by_place
    (λ (zs : List Document). count s (names zs) ≡ one s d.name + count s (names (e ∷ es))) d e es
    (λ lt. one_more s d.name (names (e ∷ es)))
    (λ le. one_more s e.name (names (with_document d es))
    ∙ swap (one s e.name) (one s d.name) (count s (names es)) (count s (names (with_document d es))) (with_count s d es)
    ∙ ap (λ (k : ℕ). one s d.name + k) (sym (one_more s e.name (names es))))

pub sorted_count : (s : ℕ) (ds : List Document) → count s (names (by_serial ds)) ≡ count s (names ds)
sorted_count s [] = refl
sorted_count s (d ∷ ds) =
    with_count s d (by_serial ds) ∙ ap (λ (k : ℕ). one s d.name + k) (sorted_count s ds)
    ∙ sym (one_more s d.name (names ds))

pub with_one : (d : Document) (es : List Document) (a : Document) → In a (with_document d es) → (a ≡ d) ⊎ In a es
with_one d [] a = λ i. i
with_one d (e ∷ es) a = by_place (λ (zs : List Document). In a zs → (a ≡ d) ⊎ In a (e ∷ es)) d e es (λ lt i. i)
    (λ le i. elim i [
      | inl f ↦ inr (inl f)
      | inr j ↦ elim (with_one d es a j) [ inl f ↦ inl f | inr k ↦ inr (inr k) ]
    ])

one_with : (d : Document) (es : List Document) (a : Document) → (a ≡ d) ⊎ In a es → In a (with_document d es)
one_with d [] a i = i
one_with d (e ∷ es) a i = by_place (In a) d e es (λ lt. i) (λ le. elim i [
  | inl f ↦ inr (one_with d es a (inl f))
  | inr j ↦ elim j [ inl f ↦ inl f | inr k ↦ inr (one_with d es a (inr k)) ]
])

pub of_sorted : (ds : List Document) (a : Document) → In a (by_serial ds) → In a ds
of_sorted [] a i = i
of_sorted (d ∷ ds) a i = elim (with_one d (by_serial ds) a i) [ inl e ↦ inl e | inr j ↦ inr (of_sorted ds a j) ]

pub in_sorted : (ds : List Document) (a : Document) → In a ds → In a (by_serial ds)
in_sorted [] a i = i
in_sorted (d ∷ ds) a (inl e) = one_with d (by_serial ds) a (inl e)
in_sorted (d ∷ ds) a (inr i) = one_with d (by_serial ds) a (inr (in_sorted ds a i))

-- ── filters ──

kept_by : {A : Type 0} (p : A → Bool) (x : A) (xs : List A) (a : A) (b : Bool) → p x ≡ b
    → (In a (filter p xs) → In a xs × (p a ≡ true)) → In a (cond b (x ∷ filter p xs) (filter p xs))
    → In a (x ∷ xs) × (p a ≡ true)
kept_by p x xs a true e rest (inl f) = (inl f, ap p f ∙ e)
kept_by p x xs a true e rest (inr j) = let r = rest j in (inr r.0, r.1)
kept_by p x xs a false e rest j = let r = rest j in (inr r.0, r.1)

pub kept_in : {A : Type 0} (p : A → Bool) (xs : List A) (a : A) → In a (filter p xs) → In a xs × (p a ≡ true)
kept_in p [] a i = absurd i
kept_in p (x ∷ xs) a i = kept_by p x xs a (p x) refl (kept_in p xs a) i

by_kept : {A : Type 0} (x a : A) (xs : List A) (b : Bool) → In a xs → In a (cond b (x ∷ xs) xs)
by_kept x a xs true i = inr i
by_kept x a xs false i = i

pub in_kept : {A : Type 0} (p : A → Bool) (xs : List A) (a : A) → In a xs → p a ≡ true → In a (filter p xs)
in_kept p [] a i e = i
in_kept p (x ∷ xs) a (inl f) e =
    subst (λ (b : Bool). In a (cond b (x ∷ filter p xs) (filter p xs))) (sym (ap p (sym f) ∙ e)) (inl f)
in_kept p (x ∷ xs) a (inr i) e = by_kept x a (filter p xs) (p x) (in_kept p xs a i e)

kept_name : (d : Document) (ns : List Name) (ds : List Document) (b : Bool) → ns ≡ names ds
    → cond b (d.name ∷ ns) ns ≡ names (cond b (d ∷ ds) ds)
kept_name d ns ds true e = ap (λ (zs : List Name). d.name ∷ zs) e
kept_name d ns ds false e = e

-- the names that are kept, and the documents of these
pub kept_names : (p : Name → Bool) (q : Document → Bool) (ds : List Document)
    → ((d : Document) → In d ds → p d.name ≡ q d) → filter p (names ds) ≡ names (filter q ds)
kept_names p q [] same = refl
kept_names p q (d ∷ ds) same =
    ap (λ (b : Bool). cond b (d.name ∷ filter p (names ds)) (filter p (names ds))) (same d (inl refl))
    ∙ kept_name d (filter p (names ds)) (filter q ds) (q d) (kept_names p q ds (λ e i. same e (inr i)))

names_both : (xs ys : List Document) → names (xs ++ ys) ≡ names xs ++ names ys
names_both [] ys = refl
names_both (x ∷ xs) ys = ap (λ (zs : List Name). x.name ∷ zs) (names_both xs ys)

-- the names of all commits, one after another
pub joined_names : (C : History)
    → flat_map (λ (xs : List Name). xs) (map (λ (c : Commit). names c.inserted) C) ≡ names (inserts C)
joined_names [] = refl
joined_names (c ∷ C) =
    ap (λ (zs : List Name). names c.inserted ++ zs) (joined_names C) ∙ sym (names_both c.inserted (inserts C))
