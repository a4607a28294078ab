-- Where two lists differ first, and lists under one name for each thing.
use Rattle.std.proofs.Common.{◌≡◌, ◌≢◌, ◌+◌, ◌≤◌, ℕ, zero, suc, List, [], ◌∷◌, ◌++◌, length, take, drop, map, refl}
use Rattle.std.proofs.Common.{◌-◌, sym, ap, subst, ◌∙◌, arith, length-drop, Bor}
use Rattle.std.specs.Prelude.{◌↔◌, Some}
use Rattle.std.specs.List.{slice_get}
use Rattle.std.proofs.lemmas.List.{take-append-drop}
use Rattle.page_types.specs.declared.page.Entry.{Entry}
use Rattle.page_types.specs.declared.page.EntryChild.{EntryChild}
use Rattle.page_types.specs.declared.page.PostChild.{PostChild}
use Rattle.core_state.specs.Inner.Members.{Member, IsSameAt, Shared, members_of}
use Rattle.core_state.specs.declared.members.Members.{Members}
use Rattle.core_state.specs.declared.members.Members.TheVariants as by_ref
use Rattle.core_state.proofs.FollowingRows.{drop_at, drop_past}

-- one more is shared
pub front_more : {A : Type 0} (a b : List A) (k : ℕ) (x : A) → take k a ≡ take k b → slice_get a k ≡ Some x
    → slice_get b k ≡ Some x → take (suc k) a ≡ take (suc k) b
front_more [] b k x e f g = absurd (cc)
front_more (p ∷ a) [] k x e f g = absurd (cc)
front_more (p ∷ a) (q ∷ b) zero x e f g = let heads : p ≡ q = cc in ap (λ z. z ∷ []) heads
front_more (p ∷ a) (q ∷ b) (suc k) x e f g =
    let heads : p ≡ q = cc in
    let tails : take k a ≡ take k b = cc in
    ap (λ z. z ∷ take (suc k) a) heads ∙ ap (λ zs. q ∷ zs) (front_more a b k x tails f g)

pub there_below : {A : Type 0} (xs : List A) (k : ℕ) (x : A) → slice_get xs k ≡ Some x → suc k ≤ length xs
there_below [] k x e = absurd (cc)
there_below (y ∷ xs) zero x e = omega arith
there_below (y ∷ xs) (suc k) x e = omega (arith, there_below xs k x e)

pub past_none : {A : Type 0} (xs : List A) (k : ℕ) (x : A) → length xs ≤ k → slice_get xs k ≡ Some x → ⊥
past_none xs k x le e = omega (arith, there_below xs k x e, le)

-- lists that go on alike have the same one next, or both end
pub drop_more : {A : Type 0} (a b : List A) (i j : ℕ) (x : A) → slice_get a i ≡ Some x → slice_get b j ≡ Some x
    → drop (suc i) a ≡ drop (suc j) b → drop i a ≡ drop j b
drop_more a b i j x e f g = drop_at a i x e ∙ ap (λ zs. x ∷ zs) g ∙ sym (drop_at b j x f)

drop_next : {A : Type 0} (xs : List A) (k : ℕ) (x : A) (more : List A) → drop k xs ≡ x ∷ more
    → (slice_get xs k ≡ Some x) × (drop (suc k) xs ≡ more)
drop_next [] zero x more e = absurd (cc)
drop_next [] (suc k) x more e = absurd (cc)
drop_next (y ∷ xs) zero x more e = (let heads : y ≡ x = cc in ap Some heads, cc)
drop_next (y ∷ xs) (suc k) x more e = drop_next xs k x more e

some_at : {A : Type 0} (xs : List A) (k : ℕ) → suc k ≤ length xs → (x : A) × (slice_get xs k ≡ Some x)
some_at [] k lt = absurd (omega (arith, lt))
some_at (y ∷ xs) zero lt = (y, refl)
some_at (y ∷ xs) (suc k) lt = some_at xs k (omega (arith, lt))

pub drop_less : {A : Type 0} (a b : List A) (i j : ℕ) → suc i ≤ length a → drop i a ≡ drop j b
    → IsSameAt a i b j × (drop (suc i) a ≡ drop (suc j) b)
drop_less a b i j lt e =
    let s = some_at a i lt in
    let n = drop_next b j s.0 (drop (suc i) a) (sym e ∙ drop_at a i s.0 s.1) in
    ((s.0, s.1, n.0), sym n.1)

shared_tail : {A : Type 0} (p q : A) (a b : List A) (k : ℕ) → Shared (p ∷ a) (q ∷ b) (suc k) → Shared a b k
shared_tail p q a b k s =
    let front : p ∷ take k a ≡ q ∷ take k b = s.front in
    record {
      within_a = omega (arith, s.within_a);
      within_b = omega (arith, s.within_b);
      front = cc;
      differ = λ x e f. s.differ x e f;
    }

-- lists that go on apart after a front differ there first
pub shared_place : {A : Type 0} (front rest : List A) (y : A) (bs : List A) (k : ℕ)
    → ((x : A) (more : List A) → rest ≡ x ∷ more → x ≢ y) → Shared (front ++ rest) (front ++ y ∷ bs) k
    → k ≡ length front
shared_place [] rest y bs zero apart s = refl
shared_place [] [] y bs (suc k) apart s = absurd (omega (arith, s.within_a))
shared_place [] (x ∷ xs) y bs (suc k) apart s =
    let front : x ∷ take k xs ≡ y ∷ take k bs = s.front in
    let heads : x ≡ y = cc in
    absurd (apart x xs refl heads)
shared_place (p ∷ front) rest y bs zero apart s = absurd (s.differ p refl refl)
shared_place (p ∷ front) rest y bs (suc k) apart s =
    ap suc (shared_place front rest y bs k apart (shared_tail p p (front ++ rest) (front ++ y ∷ bs) k s))

-- a list cut at a place
pub cut_at : {A : Type 0} (xs : List A) (k : ℕ) (x : A) → slice_get xs k ≡ Some x
    → xs ≡ take k xs ++ x ∷ drop (suc k) xs
cut_at xs k x e = sym (take-append-drop k xs) ∙ ap (λ zs. take k xs ++ zs) (drop_at xs k x e)

pub cut_apart : {A : Type 0} (xs : List A) (k : ℕ) → xs ≡ take k xs ++ drop k xs
cut_apart xs k = sym (take-append-drop k xs)

pub get_behind : {A : Type 0} (front : List A) (x : A) (back : List A)
    → slice_get (front ++ x ∷ back) (length front) ≡ Some x
get_behind [] x back = refl
get_behind (p ∷ front) x back = get_behind front x back

pub drop_behind : {A : Type 0} (front : List A) (x : A) (back : List A)
    → drop (suc (length front)) (front ++ x ∷ back) ≡ back
drop_behind [] x back = refl
drop_behind (p ∷ front) x back = drop_behind front x back

pub drop_front : {A : Type 0} (front back : List A) → drop (length front) (front ++ back) ≡ back
drop_front [] back = refl
drop_front (p ∷ front) back = drop_front front back

-- ---- the walks

-- the first k are shared, and they are all of the first list
pub shared_end : {A : Type 0} (a b : List A) (k n : ℕ) → k ≤ length b → take k a ≡ take k b → length a ≤ k → k ≤ n
    → n ≡ length a → Shared a b n
shared_end a b k n within front past le is =
    let same : k ≡ n = omega arith in
    subst (Shared a b) same (record {
      within_a = omega arith;
      within_b = within;
      front = front;
      differ = λ x e f. past_none a k x past e;
    })

pub take_next : {A : Type 0} (a b : List A) (k : ℕ) → take k a ≡ take k b → IsSameAt a k b k
    → (k + 1 ≤ length b) × (take (k + 1) a ≡ take (k + 1) b)
take_next a b k front s =
    let more : suc k ≡ k + 1 = omega arith in (
      omega (arith, there_below b k s.0 s.2),
      ap (λ n. take n a) (sym more) ∙ front_more a b k s.0 front s.1 s.2 ∙ ap (λ n. take n b) more,
    )

-- lists from two places on, k members later
pub go_begin : {A : Type 0} (a b : List A) (i j : ℕ)
    → (drop i a ≡ drop j b) ↔ (drop (i + 0) a ≡ drop (j + 0) b)
go_begin a b i j =
    let left : i + 0 ≡ i = omega arith in
    let right : j + 0 ≡ j = omega arith in (
      λ e. ap (λ n. drop n a) left ∙ e ∙ ap (λ n. drop n b) (sym right),
      λ e. ap (λ n. drop n a) (sym left) ∙ e ∙ ap (λ n. drop n b) right,
    )

pub go_next : {A : Type 0} (a b : List A) (i j k : ℕ) → IsSameAt a (i + k) b (j + k)
    → (drop i a ≡ drop j b) ↔ (drop (i + k) a ≡ drop (j + k) b)
    → (drop i a ≡ drop j b) ↔ (drop (i + (k + 1)) a ≡ drop (j + (k + 1)) b)
go_next a b i j k s h =
    let left : suc (i + k) ≡ i + (k + 1) = omega arith in
    let right : suc (j + k) ≡ j + (k + 1) = omega arith in (
      λ e. ap (λ n. drop n a) (sym left)
          ∙ (drop_less a b (i + k) (j + k) (there_below a (i + k) s.0 s.1) (h.0 e)).1
          ∙ ap (λ n. drop n b) right,
      λ e. h.1 (drop_more a b (i + k) (j + k) s.0 s.1 s.2
          (ap (λ n. drop n a) left ∙ e ∙ ap (λ n. drop n b) (sym right))),
    )

pub go_apart : {A : Type 0} (a b : List A) (i j k : ℕ)
    → (drop i a ≡ drop j b) ↔ (drop (i + k) a ≡ drop (j + k) b) → suc (i + k) ≤ length a → drop i a ≡ drop j b
    → IsSameAt a (i + k) b (j + k)
go_apart a b i j k h lt e = (drop_less a b (i + k) (j + k) lt (h.0 e)).0

pub go_end : {A : Type 0} (a b : List A) (i j k : ℕ)
    → (drop i a ≡ drop j b) ↔ (drop (i + k) a ≡ drop (j + k) b) → length a ≤ i + k → length b ≤ j + k
    → drop i a ≡ drop j b
go_end a b i j k h past end = h.1 (drop_past a (i + k) past ∙ sym (drop_past b (j + k) end))

pub go_sizes : {A : Type 0} (a b : List A) (i j : ℕ) → drop i a ≡ drop j b → length a - i ≡ length b - j
go_sizes a b i j e = sym (length-drop i a) ∙ ap length e ∙ length-drop j b

-- ---- under one name for each

module _ {A B : Type 0} (f : A → B) (one : (x y : A) → f x ≡ f y → x ≡ y) where
  pub map_one : (xs ys : List A) → map f xs ≡ map f ys → xs ≡ ys
  map_one [] [] e = refl
  map_one [] (y ∷ ys) e = absurd (cc)
  map_one (x ∷ xs) [] e = absurd (cc)
  map_one (x ∷ xs) (y ∷ ys) e =
      let heads : f x ≡ f y = cc in
      let tails : map f xs ≡ map f ys = cc in
      ap (λ z. z ∷ xs) (one x y heads) ∙ ap (λ zs. y ∷ zs) (map_one xs ys tails)

  map_take : (k : ℕ) (xs : List A) → map f (take k xs) ≡ take k (map f xs)
  map_take zero xs = refl
  map_take (suc k) [] = refl
  map_take (suc k) (x ∷ xs) = ap (λ zs. f x ∷ zs) (map_take k xs)

  map_drop : (k : ℕ) (xs : List A) → map f (drop k xs) ≡ drop k (map f xs)
  map_drop zero xs = refl
  map_drop (suc k) [] = refl
  map_drop (suc k) (x ∷ xs) = map_drop k xs

  pub map_length : (xs : List A) → length (map f xs) ≡ length xs
  map_length [] = refl
  map_length (x ∷ xs) = ap suc (map_length xs)

  pub map_get : (xs : List A) (k : ℕ) (x : A) → slice_get xs k ≡ Some x → slice_get (map f xs) k ≡ Some (f x)
  map_get [] k x e = absurd (cc)
  map_get (y ∷ xs) zero x e = let same : y ≡ x = cc in ap (λ z. Some (f z)) same
  map_get (y ∷ xs) (suc k) x e = map_get xs k x e

  pub get_map : (xs : List A) (k : ℕ) (y : B) → slice_get (map f xs) k ≡ Some y
      → (x : A) × (slice_get xs k ≡ Some x) × (f x ≡ y)
  get_map [] k y e = absurd (cc)
  get_map (x ∷ xs) zero y e = (x, refl, cc)
  get_map (x ∷ xs) (suc k) y e = get_map xs k y e

  pub same_at : (a b : List A) (i j : ℕ) → IsSameAt a i b j → IsSameAt (map f a) i (map f b) j
  same_at a b i j s = (f s.0, map_get a i s.0 s.1, map_get b j s.0 s.2)

  pub at_same : (a b : List A) (i j : ℕ) → IsSameAt (map f a) i (map f b) j → IsSameAt a i b j
  at_same a b i j s =
      let x = get_map a i s.0 s.1 in
      let y = get_map b j s.0 s.2 in
      (x.0, x.1, y.1 ∙ ap Some (one y.0 x.0 (y.2 ∙ sym x.2)))

  pub shared_of : (a b : List A) (k : ℕ) → Shared (map f a) (map f b) k → Shared a b k
  shared_of a b k s = record {
    within_a = omega (arith, s.within_a, map_length a);
    within_b = omega (arith, s.within_b, map_length b);
    front = map_one (take k a) (take k b) (map_take k a ∙ s.front ∙ sym (map_take k b));
    differ = λ x e g. s.differ (f x) (map_get a k x e) (map_get b k x g);
  }

  pub drop_of : (a b : List A) (i j : ℕ) → drop i (map f a) ≡ drop j (map f b) → drop i a ≡ drop j b
  drop_of a b i j e = map_one (drop i a) (drop j b) (map_drop i a ∙ e ∙ sym (map_drop j b))

  pub of_drop : (a b : List A) (i j : ℕ) → drop i a ≡ drop j b → drop i (map f a) ≡ drop j (map f b)
  of_drop a b i j e = sym (map_drop i a) ∙ ap (map f) e ∙ map_drop j b

-- ---- members

pub entry_one : (x y : Entry) → Member.entry x ≡ Member.entry y → x ≡ y
entry_one x y e = cc

pub child_one : (x y : EntryChild) → Member.child x ≡ Member.child y → x ≡ y
child_one x y e = cc

pub post_one : (x y : PostChild) → Member.post x ≡ Member.post y → x ≡ y
post_one x y e = cc

-- members of two kinds are never the same
pub entries_apart : (es : List Entry) (m : Members) (i j : ℕ) → ((x : Bor (List Entry)) → m ≡ by_ref.Entries x → ⊥)
    → IsSameAt (map Member.entry es) i (members_of m) j → ⊥
entries_apart es (by_ref.Entries x) i j not s = not x refl
entries_apart es (by_ref.Children x) i j not s =
    let u = get_map Member.entry entry_one es i s.0 s.1 in
    let v = get_map Member.child child_one x.now j s.0 s.2 in
    absurd (cc (u.2, v.2))
entries_apart es (by_ref.Posts x) i j not s =
    let u = get_map Member.entry entry_one es i s.0 s.1 in
    let v = get_map Member.post post_one x.now j s.0 s.2 in
    absurd (cc (u.2, v.2))

pub children_apart : (cs : List EntryChild) (m : Members) (i j : ℕ)
    → ((x : Bor (List EntryChild)) → m ≡ by_ref.Children x → ⊥) → IsSameAt (map Member.child cs) i (members_of m) j → ⊥
children_apart cs (by_ref.Entries x) i j not s =
    let u = get_map Member.child child_one cs i s.0 s.1 in
    let v = get_map Member.entry entry_one x.now j s.0 s.2 in
    absurd (cc (u.2, v.2))
children_apart cs (by_ref.Children x) i j not s = not x refl
children_apart cs (by_ref.Posts x) i j not s =
    let u = get_map Member.child child_one cs i s.0 s.1 in
    let v = get_map Member.post post_one x.now j s.0 s.2 in
    absurd (cc (u.2, v.2))

pub posts_apart : (cs : List PostChild) (m : Members) (i j : ℕ) → ((x : Bor (List PostChild)) → m ≡ by_ref.Posts x → ⊥)
    → IsSameAt (map Member.post cs) i (members_of m) j → ⊥
posts_apart cs (by_ref.Entries x) i j not s =
    let u = get_map Member.post post_one cs i s.0 s.1 in
    let v = get_map Member.entry entry_one x.now j s.0 s.2 in
    absurd (cc (u.2, v.2))
posts_apart cs (by_ref.Children x) i j not s =
    let u = get_map Member.post post_one cs i s.0 s.1 in
    let v = get_map Member.child child_one x.now j s.0 s.2 in
    absurd (cc (u.2, v.2))
posts_apart cs (by_ref.Posts x) i j not s = not x refl
