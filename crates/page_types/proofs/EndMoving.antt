-- The ends of lists, where others are in place of some and those after move.
use Rattle.std.proofs.Common.{◌≡◌, ℕ, ◌+◌, ◌-◌, ◌^◌, ◌<◌, ◌≤◌, List, ◌++◌, length, map, take, drop, refl, sym, ap}
use Rattle.std.proofs.Common.{subst, ◌∙◌, append_assoc, arith}
use Rattle.std.specs.List.{splice, slice_range}
use Rattle.std.proofs.lemmas.List.{append-nil, drop_at, take_at, drop-drop, drop_all, take_all, length-append}
use Rattle.std.proofs.lemmas.List.{length-map, length-take-le}
use Rattle.page_types.specs.Inner.Cuts.{EndAt, CanMove, start_at, moved, ends_with}
use Rattle.page_types.proofs.Splicing.{EndAt-behind}

-- the middle of three lists
mid_is : {A : Type 0} (a b c : List A) (k j : ℕ) → length a ≡ k → k + length b ≡ j → slice_range (a ++ (b ++ c)) k j ≡ b
mid_is a b c k j is it = ap (take (j - k)) (drop_at a (b ++ c) k is) ∙ take_at b c (j - k) (omega arith)

-- another one in its place
mid_put : {A : Type 0} (a b c d : List A) (k j : ℕ) → length a ≡ k → k + length b ≡ j
    → splice (a ++ (b ++ c)) k j d ≡ a ++ (d ++ c)
mid_put {A} a b c d k j is it =
    let there : drop j (a ++ (b ++ c)) ≡ c = ap (λ n. drop n (a ++ (b ++ c))) (sym it) ∙ sym (drop-drop (length b) k
    (a ++ (b ++ c))) ∙ ap (drop (length b)) (drop_at a (b ++ c) k is) ∙ drop_at b c (length b) refl in
    let P : List A → List A → List A = λ x y. x ++ (d ++ y) in
    ap (λ x. P x (drop j (a ++ (b ++ c)))) (take_at a (b ++ c) k is) ∙ ap (P a) there

-- the last of three, and another one in its place
last_is : {A : Type 0} (a b c : List A) (j n : ℕ) → length a + length b ≡ j → n ≡ length (a ++ (b ++ c))
    → slice_range (a ++ (b ++ c)) j n ≡ c
last_is {A} a b c j n is it =
    let size : length (a ++ b) ≡ j = length-append a b ∙ is in
    let enough : length c ≤ n - j = omega (arith, length-append a (b ++ c), length-append b c) in
    ap (λ (l : List A). take (n - j) (drop j l)) (sym (append_assoc a b c))
    ∙ ap (take (n - j)) (drop_at (a ++ b) c j size) ∙ take_all (n - j) c enough

last_put : {A : Type 0} (a b c d : List A) (j n : ℕ) → length a + length b ≡ j → n ≡ length (a ++ (b ++ c))
    → splice (a ++ (b ++ c)) j n d ≡ a ++ (b ++ d)
last_put {A} a b c d j n is it =
    let size : length (a ++ b) ≡ j = length-append a b ∙ is in
    let front : take j (a ++ (b ++ c)) ≡ a ++ b = ap (take j) (sym (append_assoc a b c)) ∙ take_at (a ++ b) c j size in
    let P : List A → List A → List A = λ x y. x ++ (d ++ y) in
    ap (λ x. P x (drop n (a ++ (b ++ c)))) front ∙ ap (P (a ++ b)) (drop_all n (a ++ (b ++ c)) (omega (arith, it)))
    ∙ ap (λ (y : List A). (a ++ b) ++ y) (append-nil d) ∙ append_assoc a b d

-- how the ends are put in, and those that began at s and t moved
pub record NewEnds (ends mid later now new : List ℕ) (k m s t size : ℕ) : Type 0 where
  pub in_order : k ≤ m
  pub within : m ≤ length ends
  pub start : s ≡ start_at 0 ends k
  pub behind : t ≡ start_at 0 ends m
  pub replaced : mid ≡ splice ends k m new
  pub first : later ≡ splice mid k (k + length new) (map (moved 0 s) (slice_range mid k (k + length new)))
  pub second : now ≡ splice later (k + length new) (length mid)
      (map (moved t (s + size)) (slice_range later (k + length new) (length mid)))

front_size : (ends : List ℕ) (k m : ℕ) → k ≤ m → m ≤ length ends → length (take k ends) ≡ k
front_size ends k m le small = length-take-le k ends (omega arith)

pub new_stand : (ends mid new : List ℕ) (k m : ℕ) → k ≤ m → m ≤ length ends → mid ≡ splice ends k m new
    → slice_range mid k (k + length new) ≡ new
new_stand ends mid new k m le small is = ap (λ l. slice_range l k (k + length new)) is
    ∙ mid_is (take k ends) new (drop m ends) k (k + length new) (front_size ends k m le small) refl

later_is : (ends mid later new : List ℕ) (f : ℕ → ℕ) (k m : ℕ) → k ≤ m → m ≤ length ends → mid ≡ splice ends k m new
    → later ≡ splice mid k (k + length new) (map f (slice_range mid k (k + length new)))
    → later ≡ take k ends ++ (map f new ++ drop m ends)
later_is ends mid later new f k m le small is it =
    it ∙ ap (λ l. splice mid k (k + length new) (map f l)) (new_stand ends mid new k m le small is)
    ∙ ap (λ l. splice l k (k + length new) (map f new)) is
    ∙ mid_put (take k ends) new (drop m ends) (map f new) k (k + length new) (front_size ends k m le small) refl

-- they are as many as before
same_count : (ends mid new : List ℕ) (f : ℕ → ℕ) (k m count : ℕ) → mid ≡ splice ends k m new → count ≡ length mid
    → count ≡ length (take k ends ++ (map f new ++ drop m ends))
same_count ends mid new f k m count is all =
    omega (
      arith,
      ap length is,
      length-append (take k ends) (new ++ drop m ends),
      length-append new (drop m ends),
      length-append (take k ends) (map f new ++ drop m ends),
      length-append (map f new) (drop m ends),
      length-map new f,
    )

pub old_stand : (ends mid later new : List ℕ) (f : ℕ → ℕ) (k m count : ℕ) → k ≤ m → m ≤ length ends
    → mid ≡ splice ends k m new → count ≡ length mid
    → later ≡ splice mid k (k + length new) (map f (slice_range mid k (k + length new)))
    → slice_range later (k + length new) count ≡ drop m ends
old_stand ends mid later new f k m count le small is all it =
    ap (λ l. slice_range l (k + length new) count) (later_is ends mid later new f k m le small is it)
    ∙ last_is (take k ends) (map f new) (drop m ends) (k + length new) count
    (omega (arith, front_size ends k m le small, length-map new f)) (same_count ends mid new f k m count is all)

pub ends_stand : (ends mid later now new : List ℕ) (k m s t size : ℕ) → NewEnds ends mid later now new k m s t size
    → now ≡ ends_with ends k m new size
ends_stand ends mid later now new k m s t size is =
    let f : ℕ → ℕ = moved 0 s in
    let g : ℕ → ℕ = moved t (s + size) in
    let P : ℕ → ℕ → List ℕ = λ a b. take k ends ++ (map (moved 0 a) new ++ map (moved b (a + size)) (drop m ends)) in
    is.second ∙ ap (λ l. splice later (k + length new) (length mid) (map g l))
    (old_stand ends mid later new f k m (length mid) is.in_order is.within is.replaced refl is.first)
    ∙ ap (λ l. splice l (k + length new) (length mid) (map g (drop m ends)))
    (later_is ends mid later new f k m is.in_order is.within is.replaced is.first)
    ∙ last_put (take k ends) (map f new) (drop m ends) (map g (drop m ends)) (k + length new) (length mid)
    (omega (arith, front_size ends k m is.in_order is.within, length-map new f))
    (same_count ends mid new f k m (length mid) is.replaced refl)
    ∙ ap (λ a. P a t) is.start ∙ ap (P (start_at 0 ends k)) is.behind

-- the new ones can be moved, and those after
pub new_can : (ends new : List ℕ) (k m last size start : ℕ) → EndAt 0 new size → start ≡ start_at 0 ends k
    → start_at 0 ends k + size + (last - start_at 0 ends m) < 2 ^ 64 → CanMove 0 start new
new_can ends new k m last size start at is fits = (size, at, omega arith)

pub old_can : (ends : List ℕ) (k m last size start end : ℕ) → m ≤ length ends
    → EndAt 0 ends last → start ≡ start_at 0 ends k → end ≡ start_at 0 ends m
    → start_at 0 ends k + size + (last - start_at 0 ends m) < 2 ^ 64 → CanMove end (start + size) (drop m ends)
old_can ends k m last size start end small at is it fits =
    (last, subst (λ n. EndAt n (drop m ends) last) (sym it) (EndAt-behind 0 ends last m at small), omega arith)
