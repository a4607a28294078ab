-- An item list that is divided into two.
use Rattle.std.proofs.Common.{◌≡◌, ◌≢◌, ◌<◌, ◌≤◌, ◌-◌, ℕ, suc, List, [], ◌∷◌, ◌++◌, length, take, drop, refl}
use Rattle.std.proofs.Common.{sym, ap}
use Rattle.std.proofs.Common.{subst, ◌∙◌, inl, inr, arith, Result, Ok, Err, append_assoc, Bool, true, eqb}
use Rattle.std.specs.Prelude.{◌↔◌}
use Rattle.std.proofs.lemmas.Bool.{eqb-true}
use Rattle.std.proofs.lemmas.List.{length-append, length-drop, take-append-drop, take_all, append-nil, nil_from_length}
use Rattle.page_types.specs.Items.{varbyte, item_list_from, item_list, AreItemsFrom, items_of, IsItemList}
use Rattle.page_types.specs.ItemReading.{item_at, items_within, last_or}
use Rattle.page_types.proofs.ItemReading.{item_again, whole_again}
use Rattle.page_types.proofs.Varbytes.{some_bytes}
use Rattle.core_state.specs.Log.{In}
use Rattle.core_state.specs.Inner.SplitPages.{DividesList}
use Rattle.core_state.proofs.SharedFronts.{drop_front}
use Rattle.core_state.proofs.TakenItems.{IsLeft, first_read, all_left, above_last, no_items, no_bytes}

abbrev got : ℕ → List ℕ → Result (ℕ × List ℕ) ℕ
got i rest = Ok (i, rest)

abbrev all_got : List ℕ → List ℕ → Result (List ℕ × List ℕ) ℕ
all_got is rest = Ok (is, rest)

-- a list of items is the list of the first and then that of the others
pub list_apart : (last : ℕ) (front back : List ℕ)
    → item_list_from last (front ++ back) ≡ item_list_from last front ++ item_list_from (last_or last front) back
list_apart last [] back = refl
list_apart last (i ∷ is) back =
    ap (λ (xs : List ℕ). varbyte (i - last) ++ xs) (list_apart i is back)
    ∙ sym (append_assoc (varbyte (i - last)) (item_list_from i is) (item_list_from (last_or i is) back))

pub rise_apart : (last : ℕ) (front back : List ℕ) → AreItemsFrom last (front ++ back)
    → AreItemsFrom (last_or last front) back
rise_apart last [] back h = h
rise_apart last (i ∷ is) back h = rise_apart i is back h.2

pub up_to_last : (last : ℕ) (items : List ℕ) → AreItemsFrom last items → last ≤ last_or last items
up_to_last last [] h = omega arith
up_to_last last (i ∷ is) h = omega (arith, h.0, up_to_last i is h.2)

pub in_last : (last : ℕ) (items : List ℕ) → AreItemsFrom last items → (i : ℕ) → In i items → i ≤ last_or last items
in_last last [] h i w = absurd w
in_last last (x ∷ xs) h i (inl e) = omega (arith, e, up_to_last x xs h.2)
in_last last (x ∷ xs) h i (inr w) = in_last x xs h.2 i w

last_there : (last : ℕ) (items : List ℕ) → items ≢ [] → In (last_or last items) items
last_there last [] some = absurd (some refl)
last_there last (x ∷ []) some = inl refl
last_there last (x ∷ y ∷ ys) some = inr (last_there x (y ∷ ys) (λ e. absurd (cc (e))))

-- what is left of a list after the bytes of another
record Cut (last : ℕ) (whole front rest : List ℕ) : Type 0 where
  pub back : List ℕ
  pub joined : whole ≡ front ++ back
  pub left : IsLeft (last_or last front) rest back

cut_list : (last : ℕ) (whole front rest : List ℕ) → AreItemsFrom last whole → AreItemsFrom last front
    → item_list_from last whole ≡ item_list_from last front ++ rest → Cut last whole front rest
cut_list last whole [] rest h k e = record {
  back = whole;
  joined = refl;
  left = record { rise = h; are = sym e };
}
cut_list last [] (f ∷ fs) rest h k e = absurd (omega (
  arith,
  ap length e,
  length-append (varbyte (f - last) ++ item_list_from f fs) rest,
  length-append (varbyte (f - last)) (item_list_from f fs),
  some_bytes (f - last),
))
cut_list last (i ∷ is) (f ∷ fs) rest h k e =
    let one = item_again last i (item_list_from i is) h.0 h.1 in
    let two = item_again last f (item_list_from f fs ++ rest) k.0 k.1 in
    let bytes : varbyte (i - last) ++ item_list_from i is ≡ varbyte (f - last) ++ (item_list_from f fs ++ rest) =
    e ∙ append_assoc (varbyte (f - last)) (item_list_from f fs) rest in
    let both : got i (item_list_from i is) ≡ got f (item_list_from f fs ++ rest) =
    sym one ∙ ap (item_at last) bytes ∙ two in
    let pair : (i, item_list_from i is) ≡ (f, item_list_from f fs ++ rest) = cc in
    let same : i ≡ f = ap (λ (x : ℕ × List ℕ). x.0) pair in
    let tails : item_list_from i is ≡ item_list_from f fs ++ rest = ap (λ (x : ℕ × List ℕ). x.1) pair in
    let more = cut_list f is fs rest (subst (λ (z : ℕ). AreItemsFrom z is) same h.2) k.2
    (ap (λ (z : ℕ). item_list_from z is) (sym same) ∙ tails) in
    record {
      back = more.back;
      joined = ap (λ (z : ℕ). z ∷ is) same ∙ ap (λ (zs : List ℕ). f ∷ zs) more.joined;
      left = more.left;
    }

-- what was read of a whole list
pub last_read : (front is rest : List ℕ) (last : ℕ) → IsItemList front
    → items_within (length front) 0 front ≡ Ok (is, rest) → last ≡ last_or 0 is → last ≡ last_or 0 (items_of front)
last_read front is rest last h e l =
    let both : all_got (items_of front) [] ≡ all_got is rest = sym (whole_again front h) ∙ e in
    let pair : (items_of front, []) ≡ (is, rest) = cc in
    l ∙ ap (λ (x : List ℕ × List ℕ). last_or 0 x.0) (sym pair)

pub not_read : (front : List ℕ) (left : ℕ) → IsItemList front → items_within (length front) 0 front ≡ Err left → ⊥
not_read front left h e =
    let whole : items_within (length front) 0 front ≡ all_got (items_of front) [] = whole_again front h in
    absurd (cc (whole, e))

same_list : (last : ℕ) (xs ys : List ℕ) → AreItemsFrom last xs → AreItemsFrom last ys
    → item_list_from last xs ≡ item_list_from last ys → xs ≡ ys
same_list last xs ys h k e =
    let c = cut_list last xs ys [] h k (e ∙ sym (append-nil (item_list_from last ys))) in
    c.joined ∙ ap (λ (zs : List ℕ). ys ++ zs) (no_items (last_or last ys) [] c.back c.left refl) ∙ append-nil ys

-- ---- by what is read of the three

pub list_told : (mid last : ℕ) (items front back left rest : List ℕ) (first same : ℕ) → IsItemList items
    → IsItemList front → IsItemList back → last ≡ last_or 0 (items_of front) → length front ≢ 0
    → take (length front) items ≡ front → last ≤ mid → item_at last (drop (length front) items) ≡ Ok (first, left)
    → item_at 0 back ≡ Ok (same, rest) → same ≡ first → rest ≡ left → mid < first → DividesList mid items front back
list_told mid last items front back left rest first same h k m l some begins up e f one tails above =
    let bytes : item_list (items_of items) ≡ item_list (items_of front) ++ drop (length front) items =
    sym h.encoding ∙ sym (take-append-drop (length front) items)
    ∙ ap (λ (xs : List ℕ). xs ++ drop (length front) items) (begins ∙ k.encoding) in
    let c = cut_list 0 (items_of items) (items_of front) (drop (length front) items) h.items k.items bytes in
    let at : item_at (last_or 0 (items_of front)) (drop (length front) items) ≡ Ok (first, left) =
    ap (λ (z : ℕ). item_at z (drop (length front) items)) (sym l) ∙ e in
    let a = first_read (last_or 0 (items_of front)) (drop (length front) items) c.back first left c.left at in
    let b = first_read 0 back (items_of back) same rest (all_left back m) f in
    let again : item_list_from first b.behind ≡ item_list_from first a.behind =
    ap (λ (z : ℕ). item_list_from z b.behind) (sym one) ∙ sym b.left.are ∙ tails ∙ a.left.are in
    let behinds : b.behind ≡ a.behind = same_list first b.behind a.behind
    (subst (λ (z : ℕ). AreItemsFrom z b.behind) one b.left.rise) a.left.rise again in
    let backs : items_of back ≡ c.back = b.items_are ∙ ap (λ (z : ℕ). z ∷ b.behind) one
    ∙ ap (λ (zs : List ℕ). first ∷ zs) behinds ∙ sym a.items_are in
    record {
      some_front = λ none. some (ap length (no_bytes 0 front (items_of front) (all_left front k) none));
      some_back = λ none. absurd (cc (none, b.items_are));
      joined = c.joined ∙ ap (λ (zs : List ℕ). items_of front ++ zs) (sym backs);
      up_to = λ i w. let most = in_last 0 (items_of front) k.items i w in omega (arith, most, l, up);
      above = λ i w. elim (subst (In i) (backs ∙ a.items_are) w) [
        | inl e ↦ omega (arith, e, above)
        | inr v ↦ omega (arith, above, above_last first a.behind a.left.rise i v)
      ];
    }

pub record ListRead (mid : ℕ) (items front back : List ℕ) : Type 0 where
  pub some : length front ≢ 0
  pub within : length front ≤ length items
  pub begins : take (length front) items ≡ front
  pub up : last_or 0 (items_of front) ≤ mid
  pub first : ℕ
  pub left : List ℕ
  pub next : item_at (last_or 0 (items_of front)) (drop (length front) items) ≡ Ok (first, left)
  pub start : item_at 0 back ≡ Ok (first, left)
  pub above : mid < first

take_front : {A : Type 0} (xs ys : List A) → take (length xs) (xs ++ ys) ≡ xs
take_front [] ys = refl
take_front (x ∷ xs) ys = ap (λ zs. x ∷ zs) (take_front xs ys)

read_first : (last : ℕ) (items : List ℕ) → AreItemsFrom last items → items ≢ []
    → (first : ℕ) × (behind : List ℕ) × (items ≡ first ∷ behind)
    × (item_at last (item_list_from last items) ≡ Ok (first, item_list_from first behind))
read_first last [] h some = absurd (some refl)
read_first last (i ∷ is) h some = (i, is, refl, item_again last i (item_list_from i is) h.0 h.1)

pub list_back : (mid : ℕ) (items front back : List ℕ) → IsItemList items → IsItemList front → IsItemList back
    → DividesList mid items front back → ListRead mid items front back
list_back mid items front back h k m d =
    let last = last_or 0 (items_of front) in
    let bytes : items ≡ front ++ item_list_from last (items_of back) =
    h.encoding ∙ ap item_list d.joined ∙ list_apart 0 (items_of front) (items_of back)
    ∙ ap (λ (xs : List ℕ). xs ++ item_list_from last (items_of back)) (sym k.encoding) in
    let rise : AreItemsFrom last (items_of back) = rise_apart 0 (items_of front) (items_of back)
    (subst (AreItemsFrom 0) d.joined h.items) in
    let a = read_first last (items_of back) rise d.some_back in
    let b = read_first 0 (items_of back) m.items d.some_back in
    let both : a.0 ∷ a.1 ≡ b.0 ∷ b.1 = sym a.2 ∙ b.2 in
    let firsts : b.0 ≡ a.0 = cc in
    let behinds : b.1 ≡ a.1 = cc in
    let left : got b.0 (item_list_from b.0 b.1) ≡ got a.0 (item_list_from a.0 a.1) =
    ap (λ (z : ℕ). got z (item_list_from z b.1)) firsts
    ∙ ap (λ (zs : List ℕ). got a.0 (item_list_from a.0 zs)) behinds in
    record {
      some = λ none. d.some_front (no_items 0 front (items_of front) (all_left front k) (nil_from_length front none));
      within = omega (arith, ap length bytes, length-append front (item_list_from last (items_of back)));
      begins = ap (take (length front)) bytes ∙ take_front front (item_list_from last (items_of back));
      up = d.up_to last (last_there 0 (items_of front) d.some_front);
      first = a.0;
      left = item_list_from a.0 a.1;
      next = ap (λ (xs : List ℕ). item_at last (drop (length front) xs)) bytes
          ∙ ap (item_at last) (drop_front front (item_list_from last (items_of back))) ∙ a.3;
      start = ap (item_at 0) m.encoding ∙ b.3 ∙ left;
      above = d.above a.0 (subst (In a.0) (sym a.2) (inl refl));
    }

pub rest_of : (xs : List ℕ) (k : ℕ) → take (length xs - k) (drop k xs) ≡ drop k xs
rest_of xs k = take_all (length xs - k) (drop k xs) (omega (arith, length-drop k xs))

-- what is read of a divided list, and of its second part
pub record SameReads (mid first same : ℕ) (left rest : List ℕ) : Type 0 where
  pub one : same ≡ first
  pub tails : rest ≡ left
  pub above : mid < first

pub same_reads : (mid last : ℕ) (items front back left rest : List ℕ) (first same : ℕ)
    → last ≡ last_or 0 (items_of front) → ListRead mid items front back
    → item_at last (drop (length front) items) ≡ Ok (first, left) → item_at 0 back ≡ Ok (same, rest)
    → SameReads mid first same left rest
same_reads mid last items front back left rest first same l b e f =
    let one : got b.first b.left ≡ got first left =
    sym b.next ∙ ap (λ (z : ℕ). item_at z (drop (length front) items)) (sym l) ∙ e in
    let two : got b.first b.left ≡ got same rest = sym b.start ∙ f in
    let x : (b.first, b.left) ≡ (first, left) = cc in
    let y : (b.first, b.left) ≡ (same, rest) = cc in
    let firsts : b.first ≡ first = ap (λ (p : ℕ × List ℕ). p.0) x in
    record {
      one = sym (ap (λ (p : ℕ × List ℕ). p.0) y) ∙ firsts;
      tails = sym (ap (λ (p : ℕ × List ℕ). p.1) y) ∙ ap (λ (p : ℕ × List ℕ). p.1) x;
      above = subst (λ (n : ℕ). mid < n) firsts b.above;
    }

pub not_next : (mid last left : ℕ) (items front back : List ℕ) → last ≡ last_or 0 (items_of front)
    → ListRead mid items front back → item_at last (drop (length front) items) ≡ Err left → ⊥
not_next mid last left items front back l b e =
    let next : item_at last (drop (length front) items) ≡ got b.first b.left =
    ap (λ (z : ℕ). item_at z (drop (length front) items)) l ∙ b.next in
    absurd (cc (next, e))

pub not_first : (mid left : ℕ) (items front back : List ℕ) → ListRead mid items front back
    → item_at 0 back ≡ Err left → ⊥
not_first mid left items front back b e =
    let start : item_at 0 back ≡ got b.first b.left = b.start in absurd (cc (start, e))

-- whether an item is all of a list
pub one_item : (items rest : List ℕ) (first : ℕ) (b : Bool) → IsItemList items → item_at 0 items ≡ Ok (first, rest)
    → b ≡ eqb (length rest) 0 → (b ≡ true) ↔ (length (items_of items) ≡ 1)
one_item items rest first b h e is =
    let a = first_read 0 items (items_of items) first rest (all_left items h) e in (
      λ t. ap length a.items_are ∙ ap (λ (xs : List ℕ). suc (length xs)) (no_items first rest a.behind a.left
          (nil_from_length rest (eqb-true (length rest) 0 (sym is ∙ t)))),
      λ n. is ∙ ap (λ (xs : List ℕ). eqb (length xs) 0) (no_bytes first rest a.behind a.left
          (nil_from_length a.behind (omega (arith, n, ap length a.items_are)))),
    )
