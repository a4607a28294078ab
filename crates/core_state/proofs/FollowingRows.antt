-- Rows whose keys rise from row to row, and rows that begin with others.
use Rattle.std.proofs.Common.{◌≡◌, ◌<◌, ◌≤◌, ◌+◌, ℕ, zero, suc, List, [], ◌∷◌, ◌++◌, length, drop, refl, sym, ap}
use Rattle.std.proofs.Common.{subst, subst₂, ◌∙◌, inl, inr, append-nil, length-append, arith}
use Rattle.std.specs.Prelude.{◌↔◌, Some, ⊤}
use Rattle.std.specs.List.{AllByRecursion, slice_get}
use Rattle.ts_base.specs.Keys.{Key}
use Rattle.page_types.specs.Keys.{KeyLess, Rising}
use Rattle.page_types.specs.declared.page.Row.{Row}
use Rattle.core_state.specs.Log.{In}
use Rattle.core_state.specs.Index.{keys_on}
use Rattle.core_state.specs.Inner.PendingRows.{Follow, AreRowsOf, BeginWith}
use Rattle.core_state.proofs.RisingKeys.{rising_front, rising_back, all_both}
use Rattle.core_state.proofs.Trees.Orders.{key_order}

-- what follows in a list
pub drop_at : {A : Type 0} (xs : List A) (k : ℕ) (x : A) → slice_get xs k ≡ Some x → drop k xs ≡ x ∷ drop (suc k) xs
drop_at [] k x e = absurd (cc)
drop_at (y ∷ ys) zero x e = let f : y ≡ x = cc in ap (λ z. z ∷ ys) f
drop_at (y ∷ ys) (suc k) x e = drop_at ys k x e

pub drop_past : {A : Type 0} (xs : List A) (k : ℕ) → length xs ≤ k → drop k xs ≡ []
drop_past [] zero le = refl
drop_past [] (suc k) le = refl
drop_past (x ∷ xs) zero le = absurd (omega (arith, le))
drop_past (x ∷ xs) (suc k) le = drop_past xs k (omega (arith, le))

-- keys of which each is above the one before it rise, and back
all_above : (x y : Key) (ks : List Key) → KeyLess x y → AllByRecursion (KeyLess y) ks → AllByRecursion (KeyLess x) ks
all_above x y [] l a = tt
all_above x y (k ∷ ks) l a = (key_order.trans x y k l a.0, all_above x y ks l a.1)

pub rising_next : (ks : List Key)
    → ((i : ℕ) (x y : Key) → slice_get ks i ≡ Some x → slice_get ks (suc i) ≡ Some y → KeyLess x y)
    → Rising KeyLess ks
rising_next [] h = tt
rising_next (x ∷ []) h = (tt, tt)
rising_next (x ∷ y ∷ ks) h =
    let rest = rising_next (y ∷ ks) (λ i. h (suc i)) in
    let l = h 0 x y refl refl in
    ((l, all_above x y ks l rest.0), rest)

pub next_rising : (ks : List Key) → Rising KeyLess ks → (i : ℕ) (x y : Key) → slice_get ks i ≡ Some x
    → slice_get ks (suc i) ≡ Some y → KeyLess x y
next_rising [] r i x y a b = absurd (cc)
next_rising (k ∷ []) r zero x y a b = absurd (cc)
next_rising (k ∷ m ∷ ks) r zero x y a b =
    let e : k ≡ x = cc in
    let f : m ≡ y = cc in
    subst₂ KeyLess e f r.0.0
next_rising (k ∷ ks) r (suc i) x y a b = next_rising ks r.1 i x y a b

-- keys that follow others
pub follow_none : (before keys : List Key) → length before ≡ 0 → Follow before keys
follow_none before keys none front x y back e f =
    let size = length-append front (x ∷ []) in
    absurd (omega (arith, size, ap length e, none))

pub none_follow : (before keys : List Key) → length keys ≡ 0 → Follow before keys
none_follow before keys none front x y back e f = absurd (omega (arith, ap length f, none))

get_last : (front : List Key) (x : Key) → slice_get (front ++ x ∷ []) (length front) ≡ Some x
get_last [] x = refl
get_last (y ∷ front) x = get_last front x

split_last : (ks : List Key) (k : ℕ) (x : Key) → suc k ≡ length ks → slice_get ks k ≡ Some x
    → (front : List Key) × (ks ≡ front ++ x ∷ [])
split_last [] k x n e = absurd (cc)
split_last (y ∷ []) zero x n e = let f : y ≡ x = cc in ([], ap (λ z. z ∷ []) f)
split_last (y ∷ z ∷ ks) zero x n e = absurd (omega (arith, n))
split_last (y ∷ ks) (suc k) x n e =
    let s = split_last ks k x (omega (arith, n)) e in
    (y ∷ s.0, ap (λ zs. y ∷ zs) s.1)

split_first : (ks : List Key) (y : Key) → slice_get ks 0 ≡ Some y → (back : List Key) × (ks ≡ y ∷ back)
split_first [] y e = absurd (cc)
split_first (k ∷ ks) y e = let f : k ≡ y = cc in (ks, ap (λ z. z ∷ ks) f)

-- by the last key before and the first behind
pub follow_by : (before keys : List Key) (k : ℕ) (x y : Key) → suc k ≡ length before → slice_get before k ≡ Some x
    → slice_get keys 0 ≡ Some y → KeyLess x y → Follow before keys
follow_by before keys k x y n at first l front a b back e f =
    let size : suc k ≡ suc (length front) = n ∙ ap length e ∙ omega (arith, length-append front (a ∷ [])) in
    let place : k ≡ length front = omega (arith, size) in
    let there : Some a ≡ Some x = sym (get_last front a) ∙ ap (slice_get (front ++ a ∷ [])) (sym place)
    ∙ ap (λ zs. slice_get zs k) (sym e) ∙ at in
    let same : x ≡ a = cc in
    let start : Some b ≡ Some y = ap (λ zs. slice_get zs 0) (sym f) ∙ first in
    let same' : y ≡ b = cc in
    subst₂ KeyLess same same' l

pub by_follow : (before keys : List Key) (k : ℕ) (x y : Key) → suc k ≡ length before → slice_get before k ≡ Some x
    → slice_get keys 0 ≡ Some y → Follow before keys → KeyLess x y
by_follow before keys k x y n at first f =
    let s = split_last before k x n at in
    let t = split_first keys y first in
    f s.0 x y t.0 s.1 t.1

follow_tail : (x : Key) (xs ys : List Key) → Follow (x ∷ xs) ys → Follow xs ys
follow_tail x xs ys f front a b back e g = f (x ∷ front) a b back (ap (λ zs. x ∷ zs) e) g

follow_more : (before : List Key) (k : Key) (ks more : List Key) → Follow before (k ∷ ks)
    → Follow before ((k ∷ ks) ++ more)
follow_more before k ks more f front x y back e g =
    let same : k ≡ y = cc in
    subst (KeyLess x) same (f front x k ks e refl)

follow_less : (before ks more : List Key) → Follow before (ks ++ more) → Follow before ks
follow_less before ks more f front x y back e g = f front x y (back ++ more) e (ap (λ zs. zs ++ more) g)

-- keys before others that follow
first_below : (x : Key) (xs : List Key) (y : Key) (back : List Key) → Rising KeyLess (x ∷ xs)
    → Follow (x ∷ xs) (y ∷ back) → KeyLess x y
first_below x [] y back r f = f [] x y back refl refl
first_below x (z ∷ xs) y back r f =
    key_order.trans x z y r.0.0 (first_below z xs y back r.1 (follow_tail x (z ∷ xs) (y ∷ back) f))

all_below : (x : Key) (xs ys : List Key) → Rising KeyLess (x ∷ xs) → Rising KeyLess ys → Follow (x ∷ xs) ys
    → AllByRecursion (KeyLess x) ys
all_below x xs [] r s f = tt
all_below x xs (y ∷ ys) r s f =
    let l = first_below x xs y ys r f in
    (l, all_above x y ys l s.0)

joined : (xs ys : List Key) → Rising KeyLess xs → Rising KeyLess ys → Follow xs ys → Rising KeyLess (xs ++ ys)
joined [] ys r s f = s
joined (x ∷ xs) ys r s f = (
  all_both (KeyLess x) xs ys r.0 (all_below x xs ys r s f),
  joined xs ys r.1 s (follow_tail x xs ys f),
)

last_below : (front : List Key) (x y : Key) (back : List Key) → Rising KeyLess ((front ++ x ∷ []) ++ y ∷ back)
    → KeyLess x y
last_below [] x y back r = r.0.0
last_below (z ∷ front) x y back r = last_below front x y back r.1

joined_follow : (xs ys : List Key) → Rising KeyLess (xs ++ ys) → Follow xs ys
joined_follow xs ys r front x y back e f =
    last_below front x y back (subst₂ (λ (a b : List Key). Rising KeyLess (a ++ b)) e f r)

-- the keys of the last row that has some
abbrev pub kept : List Key → List Key → List Key
kept before [] = before
kept before (k ∷ ks) = k ∷ ks

pub kept_some : (before ks : List Key) → 0 < length ks → kept before ks ≡ ks
kept_some before [] lt = absurd (omega (arith, lt))
kept_some before (k ∷ ks) lt = refl

pub kept_none : (before ks : List Key) → length ks ≤ 0 → kept before ks ≡ before
kept_none before [] le = refl
kept_none before (k ∷ ks) le = absurd (omega (arith, le))

kept_rising : (before ks : List Key) → Rising KeyLess before → Rising KeyLess ks → Rising KeyLess (kept before ks)
kept_rising before [] r s = r
kept_rising before (k ∷ ks) r s = s

-- rows of the item that come after these keys, each row's after those before
abbrev pub RowsFollow : ℕ → List Key → List Row → Type 0
RowsFollow item before [] = ⊤
RowsFollow item before (w ∷ ws) =
    (w.item ≡ item) × Rising KeyLess w.keys × Follow before w.keys × RowsFollow item (kept before w.keys) ws

join_on : (before ks more : List Key) → Rising KeyLess before → Follow before ks
    → Rising KeyLess (kept before ks ++ more) → Rising KeyLess (before ++ (ks ++ more))
join_on before [] more r f h = h
join_on before (k ∷ ks) more r f h =
    joined before ((k ∷ ks) ++ more) r h (follow_more before k ks more f)

join_back : (before ks more : List Key) → Rising KeyLess (before ++ (ks ++ more))
    → Rising KeyLess (kept before ks ++ more)
join_back before [] more h = h
join_back before (k ∷ ks) more h = rising_back KeyLess before ((k ∷ ks) ++ more) h

follow_told : (item : ℕ) (before : List Key) (ws : List Row) → Rising KeyLess before → RowsFollow item before ws
    → ((w : Row) → In w ws → w.item ≡ item) × Rising KeyLess (before ++ keys_on ws)
follow_told item before [] r o = (λ w i. absurd i, subst (Rising KeyLess) (sym (append-nil before)) r)
follow_told item before (w ∷ ws) r o =
    let t = follow_told item (kept before w.keys) ws (kept_rising before w.keys r o.1) o.3 in (
      λ u i. elim i [ inl e ↦ ap (λ (z : Row). z.item) e ∙ o.0 | inr j ↦ t.0 u j ],
      join_on before w.keys (keys_on ws) r o.2 t.1,
    )

follow_back : (item : ℕ) (before : List Key) (ws : List Row) → ((w : Row) → In w ws → w.item ≡ item)
    → Rising KeyLess (before ++ keys_on ws) → RowsFollow item before ws
follow_back item before [] own r = tt
follow_back item before (w ∷ ws) own r = (
  own w (inl refl),
  rising_front KeyLess w.keys (keys_on ws) (rising_back KeyLess before (w.keys ++ keys_on ws) r),
  follow_less before w.keys (keys_on ws) (joined_follow before (w.keys ++ keys_on ws) r),
  follow_back item (kept before w.keys) ws (λ u i. own u (inr i)) (join_back before w.keys (keys_on ws) r),
)

-- rows of the item, by the first of them
pub rows_by_first : (item : ℕ) (w : Row) (ws : List Row) → w.item ≡ item → Rising KeyLess w.keys
    → AreRowsOf item (w ∷ ws) ↔ RowsFollow item w.keys ws
rows_by_first item w ws is rise = (
  λ a. follow_back item w.keys ws (λ u i. a.items u (inr i)) a.rising,
  λ o.
      let t = follow_told item w.keys ws rise o in
      record {
        some_row = λ e. cc;
        items = λ u i. elim i [ inl e ↦ ap (λ (z : Row). z.item) e ∙ is | inr j ↦ t.0 u j ];
        rising = t.1;
      },
)

pub first_of_rows : (item : ℕ) (w : Row) (ws : List Row) → AreRowsOf item (w ∷ ws)
    → (w.item ≡ item) × Rising KeyLess w.keys
first_of_rows item w ws a = (a.items w (inl refl), rising_front KeyLess w.keys (keys_on ws) a.rising)

-- rows begin with others where each is the other's
pub begin_more : (a b : Row) (xs ys : List Row) → a ≡ b → BeginWith (a ∷ xs) (b ∷ ys) ↔ BeginWith xs ys
begin_more a b xs ys e = (
  λ w. let f : xs ≡ ys ++ w.0 = cc in (w.0, f),
  λ w. (w.0, ap (λ (z : Row). z ∷ xs) e ∙ ap (λ (zs : List Row). b ∷ zs) w.1),
)

pub begin_same : (a b : Row) (xs ys : List Row) → BeginWith (a ∷ xs) (b ∷ ys) → a ≡ b
begin_same a b xs ys w = let e : a ∷ xs ≡ b ∷ (ys ++ w.0) = w.1 in cc

pub begin_none : (b : Row) (ys : List Row) → BeginWith [] (b ∷ ys) → ⊥
begin_none b ys w = let e : [] ≡ b ∷ (ys ++ w.0) = w.1 in cc

-- lists by what is left of them
pub drop_same : {A : Type 0} (xs ys : List A) (k : ℕ) (x y : A) → slice_get xs k ≡ Some x → slice_get ys k ≡ Some y
    → x ≡ y → (drop k xs ≡ drop k ys) ↔ (drop (k + 1) xs ≡ drop (k + 1) ys)
drop_same xs ys k x y a b e =
    let next : suc k ≡ k + 1 = omega arith in
    let d = drop_at xs k x a ∙ ap (λ (j : ℕ). x ∷ drop j xs) next in
    let f = drop_at ys k y b ∙ ap (λ (j : ℕ). y ∷ drop j ys) next in (
      λ s. let t = sym d ∙ s ∙ f in cc,
      λ s. d ∙ ap (λ z. z ∷ drop (k + 1) xs) e ∙ ap (λ zs. y ∷ zs) s ∙ sym f,
    )

pub drop_first : {A : Type 0} (xs ys : List A) (k : ℕ) (x y : A) → slice_get xs k ≡ Some x → slice_get ys k ≡ Some y
    → drop k xs ≡ drop k ys → x ≡ y
drop_first xs ys k x y a b s = let t = sym (drop_at xs k x a) ∙ s ∙ drop_at ys k y b in cc

pub begin_drop : (rows front : List Row) (k : ℕ) (a b : Row) → slice_get rows k ≡ Some a → slice_get front k ≡ Some b
    → a ≡ b → BeginWith (drop k rows) (drop k front) ↔ BeginWith (drop (k + 1) rows) (drop (k + 1) front)
begin_drop rows front k a b f g e =
    let next : suc k ≡ k + 1 = omega arith in
    let d = drop_at rows k a f ∙ ap (λ (j : ℕ). a ∷ drop j rows) next in
    let h = drop_at front k b g ∙ ap (λ (j : ℕ). b ∷ drop j front) next in
    let m = begin_more a b (drop (k + 1) rows) (drop (k + 1) front) e in (
      λ w. m.0 (subst₂ BeginWith d h w),
      λ w. subst₂ BeginWith (sym d) (sym h) (m.1 w),
    )

pub begin_first : (rows front : List Row) (k : ℕ) (a b : Row) → slice_get rows k ≡ Some a → slice_get front k ≡ Some b
    → BeginWith (drop k rows) (drop k front) → a ≡ b
begin_first rows front k a b f g w =
    begin_same a b (drop (suc k) rows) (drop (suc k) front)
    (subst₂ BeginWith (drop_at rows k a f) (drop_at front k b g) w)

pub begin_past : (rows front : List Row) (k : ℕ) (b : Row) → length rows ≤ k → slice_get front k ≡ Some b
    → BeginWith (drop k rows) (drop k front) → ⊥
begin_past rows front k b le g w =
    begin_none b (drop (suc k) front) (subst₂ BeginWith (drop_past rows k le) (drop_at front k b g) w)

pub begin_end : (rows front : List Row) (k : ℕ) → length front ≤ k → BeginWith (drop k rows) (drop k front)
begin_end rows front k le =
    subst (BeginWith (drop k rows)) (sym (drop_past front k le)) (drop k rows, refl)
