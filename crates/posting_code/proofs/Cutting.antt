-- The places where a list's items can be divided.
use Rattle.std.proofs.Common.{◌≡◌, ◌≢◌, ℕ, suc, ◌+◌, ◌-◌, ◌/◌, ◌<◌, ◌≤◌, List, [], ◌∷◌, ◌++◌, length, take, Option}
use Rattle.std.proofs.Common.{Some, None, Ok, Err, refl, sym, ap, subst, ◌∙◌, append_assoc, arith, inl, inr}
use Rattle.std.specs.Prelude.{IfSome, IfNone, IsNone, ◌↔◌}
use Rattle.std.proofs.lemmas.Bool.{cases_lt}
use Rattle.std.proofs.lemmas.List.{append-nil, length-append, take_at}
use Rattle.page_types.specs.Numbers.{item_limit}
use Rattle.page_types.specs.Items.{varbyte, item_list_from, item_list, AreItemsFrom, AreItems, items_of, IsItemList}
use Rattle.page_types.specs.ItemReading.{item_at, last_or}
use Rattle.page_types.proofs.Varbytes.{some_bytes}
use Rattle.posting_code.specs.Cutting.{IsHalf, IsMost, IsEven, IsCut}
use Rattle.posting_code.specs.Dividing.{IsDivision, AreHalves, KeepsHalf, FitsLeaf, list_cutting}
use Rattle.posting_code.specs.declared.dividing.Keep.TheVariants.{Most}
use Rattle.posting_code.specs.Inner.Searching.{IsFirstFrom, IsLastWithin}
use Rattle.posting_code.specs.Inner.Places.{items_left, IsListAfter}
use Rattle.posting_code.specs.declared.dividing.Halves.{Halves}
use Rattle.posting_code.proofs.Places.{whole_place, next_place, no_place, AreItemsFrom-front, item_list_from-append}
use Rattle.posting_code.proofs.Uniting.{last_or-append}
use Rattle.posting_code.proofs.Sizing.{most_bytes}

-- a place in a list, and what is before it
pub record IsPlace (list : List ℕ) (last : ℕ) (rest : List ℕ) : Type 0 where
  pub front : List ℕ
  pub all : items_of list ≡ front ++ items_left last rest
  pub last_is : last ≡ last_or 0 front
  pub stands : IsListAfter last rest
  pub parts : list ≡ item_list front ++ rest

pub place_starts : (list : List ℕ) → IsItemList list → IsPlace list 0 list
unfolding items_of
place_starts list h = record { front = []; all = refl; last_is = refl; stands = whole_place list h; parts = refl }

pub place_goes_on : (list : List ℕ) (last : ℕ) (rest : List ℕ) (item : ℕ) (after : List ℕ) → IsPlace list last rest
    → item_at last rest ≡ Ok (item, after) → IsPlace list item after
place_goes_on list last rest item after g r =
    let n = next_place last rest item after g.stands r in
    let bytes : rest ≡ varbyte (item - last) ++ after = g.stands.list ∙ ap (item_list_from last) n.left
    ∙ ap (λ (l : List ℕ). varbyte (item - last) ++ l) (sym n.stands.list) in
    let one : varbyte (item - last) ≡ item_list_from last (item ∷ []) = sym (append-nil (varbyte (item - last))) in
    record {
      front = g.front ++ item ∷ [];
      all = g.all ∙ ap (λ (l : List ℕ). g.front ++ l) n.left
          ∙ sym (append_assoc g.front (item ∷ []) (items_left item after));
      last_is = sym (last_or-append 0 g.front (item ∷ []));
      stands = n.stands;
      parts = g.parts ∙ ap (λ (l : List ℕ). item_list g.front ++ l) bytes
          ∙ sym (append_assoc (item_list g.front) (varbyte (item - last)) after)
          ∙ ap (λ (l : List ℕ). (item_list g.front ++ l) ++ after) one
          ∙ ap (λ k. (item_list g.front ++ item_list_from k (item ∷ [])) ++ after) g.last_is
          ∙ ap (λ (l : List ℕ). l ++ after) (sym (item_list_from-append 0 g.front (item ∷ [])));
    }

-- how many bytes are before a place
pub place_size : (list : List ℕ) (last : ℕ) (rest : List ℕ) → (g : IsPlace list last rest)
    → length list - length rest ≡ length (item_list g.front)
place_size list last rest g = omega (arith, ap length g.parts, length-append (item_list g.front) rest)

-- fewer of the first items have fewer bytes
pub front_less : (front more : List ℕ) → length (item_list front) ≤ length (item_list (front ++ more))
front_less front more = omega (
  arith,
  ap length (item_list_from-append 0 front more),
  length-append (item_list front) (item_list_from (last_or 0 front) more),
)

some_list : (x : ℕ) (f : List ℕ) → 0 < length (item_list (x ∷ f))
some_list x f = omega (arith, length-append (varbyte (x - 0)) (item_list_from x f), some_bytes (x - 0))

-- of two first parts of one list one begins the other
pub data Begins (f g : List ℕ) : Type 0 where
  shorter : (more : List ℕ) → g ≡ f ++ more → Begins f g
  longer : (more : List ℕ) → more ≢ [] → f ≡ g ++ more → Begins f g

pub fronts : (f b g c : List ℕ) → f ++ b ≡ g ++ c → Begins f g
fronts [] b g c e = shorter g refl
fronts (x ∷ f) b [] c e = longer (x ∷ f) (λ p. absurd cc) refl
fronts (x ∷ f) b (y ∷ g) c e =
    let heads : x ≡ y = cc in
    let tails : f ++ b ≡ g ++ c = cc in
    elim (fronts f b g c tails) [
      | shorter more p ↦ shorter more (ap (λ k. k ∷ g) (sym heads) ∙ ap (λ l. x ∷ l) p)
      | longer more some p ↦ longer more some (ap (λ l. x ∷ l) p ∙ ap (λ k. k ∷ (g ++ more)) heads)
    ]

-- ---- from so many bytes on

-- no proper first part up to a place reaches so many
pub record IsUnder (least : ℕ) (list : List ℕ) (last : ℕ) (rest : List ℕ) : Type 0 where
  pub place : IsPlace list last rest
  pub under : (f more : List ℕ) → f ++ more ≡ place.front → more ≢ [] → f ≢ [] → length (item_list f) < least

nothing_before : (f more : List ℕ) → f ++ more ≡ [] → f ≡ []
nothing_before [] more e = refl
nothing_before (x ∷ f) more e = absurd cc

pub under_starts : (least : ℕ) (list : List ℕ) → IsItemList list → IsUnder least list 0 list
unfolding place_starts
under_starts least list h = record {
  place = place_starts list h;
  under = λ f more e some_more some_f. absurd (some_f (nothing_before f more e));
}

size_some : (front : List ℕ) → 0 < length (item_list front) → front ≢ []
size_some [] lt e = absurd (omega arith)
size_some (i ∷ front) lt e = absurd cc

-- the parts before one item more
cut_front : (front f more : List ℕ) (item : ℕ) → f ++ more ≡ front ++ item ∷ [] → more ≢ []
    → (rest : List ℕ) × (f ++ rest ≡ front)
cut_front front [] more item e some = (front, refl)
cut_front [] (x ∷ f) [] item e some = absurd (some refl)
cut_front [] (x ∷ []) (y ∷ more) item e some = absurd cc
cut_front [] (x ∷ (z ∷ f)) (y ∷ more) item e some = absurd cc
cut_front (i ∷ front) (x ∷ f) more item e some =
    let heads : x ≡ i = cc in
    let tails : f ++ more ≡ front ++ item ∷ [] = cc in
    let r = cut_front front f more item tails some in
    (r.0, ap (λ k. k ∷ (f ++ r.0)) heads ∙ ap (λ l. i ∷ l) r.1)

pub under_goes_on : (least : ℕ) (list : List ℕ) (last : ℕ) (rest : List ℕ) (item : ℕ) (after : List ℕ)
    → IsUnder least list last rest → item_at last rest ≡ Ok (item, after)
    → (0 < length list - length rest → length list - length rest < least)
    → IsUnder least list item after
unfolding place_goes_on
under_goes_on least list last rest item after g r small = record {
  place = place_goes_on list last rest item after g.place r;
  under = λ f more e some_more some_f. next f (cut_front g.place.front f more item e some_more) some_f;
}
  where
    next : (f : List ℕ) → (more : List ℕ) × (f ++ more ≡ g.place.front) → f ≢ [] → length (item_list f) < least
    next [] p some = absurd (some refl)
    next (x ∷ f) (more, e) some =
        let size = place_size list last rest g.place in
        let part = front_less (x ∷ f) more in
        let bytes = some_list x f in
        omega (
          arith,
          part,
          ap (λ l. length (item_list l)) e,
          size,
          bytes,
          small (omega (arith, part, ap (λ l. length (item_list l)) e, size, bytes)),
        )

pub halves_front : (list : List ℕ) (last : ℕ) (rest : List ℕ) → (g : IsPlace list last rest)
    → take (length list - length rest) list ≡ item_list g.front
halves_front list last rest g =
    ap (λ n. take n list) (place_size list last rest g) ∙ ap (take (length (item_list g.front))) g.parts
    ∙ take_at (item_list g.front) rest (length (item_list g.front)) refl

pub halves_back : (list : List ℕ) (last : ℕ) (rest : List ℕ) (item : ℕ) (after : List ℕ) → IsPlace list last rest
    → item_at last rest ≡ Ok (item, after) → varbyte item ++ after ≡ item_list (items_left last rest)
halves_back list last rest item after g r =
    let n = next_place last rest item after g.stands r in
    let zero_off : item ≡ item - 0 = omega arith in
    ap (λ k. varbyte k ++ after) zero_off ∙ ap (λ (l : List ℕ). varbyte (item - 0) ++ l) n.stands.list
    ∙ ap item_list (sym n.left)

-- a place with an item before it and one after it divides the list
pub divides_at : (list : List ℕ) (last : ℕ) (rest : List ℕ) (item : ℕ) (after : List ℕ)
    → (g : IsPlace list last rest) → item_at last rest ≡ Ok (item, after) → 0 < length list - length rest
    → IsDivision list g.front (items_left last rest)
divides_at list last rest item after g r some =
    let n = next_place last rest item after g.stands r in
    record {
      all = g.all;
      some_front = size_some g.front (omega (arith, place_size list last rest g, some));
      some_back = λ e. clash (items_left item after) (sym n.left ∙ e);
    }
  where
    clash : (l : List ℕ) → item ∷ l ≡ [] → ⊥
    clash l e = absurd cc

no_more : (front : List ℕ) → front ≡ front ++ []
no_more front = sym (append-nil front)

-- where one first part begins another, and has some more after it, or is the same
pub found_first : (least : ℕ) (list : List ℕ) (last : ℕ) (rest : List ℕ) (item : ℕ) (after : List ℕ)
    → (g : IsUnder least list last rest) → item_at last rest ≡ Ok (item, after) → 0 < length list - length rest
    → least ≤ length list - length rest
    → IsFirstFrom least list g.place.front (items_left last rest)
found_first least list last rest item after g r some reaches =
    record {
      divides = divides_at list last rest item after g.place r some;
      reaches = omega (arith, reaches, place_size list last rest g.place);
      first = λ f b d le. by f b d le (fronts f b g.place.front (items_left last rest) (sym d.all ∙ g.place.all));
    }
  where
    by : (f b : List ℕ) → IsDivision list f b → least ≤ length (item_list f) → Begins f g.place.front
        → length g.place.front ≤ length f
    by f b d le (shorter [] e) = omega (arith, ap length e, length-append f [])
    by f b d le (shorter (x ∷ more) e) =
        absurd (omega (arith, le, g.under f (x ∷ more) (sym e) (λ p. absurd cc) d.some_front))
    by f b d le (longer more some_more e) = omega (arith, ap length e, length-append g.place.front more)

pub none_first : (least : ℕ) (list : List ℕ) (last : ℕ) (rest : List ℕ) (left : ℕ) → IsUnder least list last rest
    → item_at last rest ≡ Err left → (f b : List ℕ) → IsDivision list f b → length (item_list f) < least
none_first least list last rest left g r f b d =
    let all : f ++ b ≡ g.place.front = sym d.all ∙ g.place.all ∙ ap (λ (l : List ℕ). g.place.front ++ l)
    (no_place last rest left g.place.stands r) ∙ append-nil g.place.front in
    g.under f b all d.some_back d.some_front

-- ---- up to so many bytes

-- what was found of the first parts before a place
abbrev pub Kept : ℕ → List ℕ → List ℕ → Option Halves → Type 0
Kept most list front None = (f more : List ℕ) → f ++ more ≡ front → more ≢ [] → f ≢ [] → ⊥
Kept most list front (Some h) = (f b : List ℕ) × IsDivision list f b × AreHalves h f b × (length (item_list f) ≤ most)
    × (length front ≤ suc (length f))

pub record IsTried (most : ℕ) (list : List ℕ) (found : Option Halves) (last : ℕ) (rest : List ℕ) : Type 0 where
  pub place : IsPlace list last rest
  pub kept : Kept most list place.front found

pub tried_starts : (most : ℕ) (list : List ℕ) → IsItemList list → IsTried most list None 0 list
unfolding place_starts
tried_starts most list h =
    record { place = place_starts list h; kept = λ f more e some_more some_f. some_f (nothing_before f more e) }

-- a first part that is kept
pub tried_keeps : (most : ℕ) (list : List ℕ) (found : Option Halves) (last : ℕ) (rest : List ℕ) (item : ℕ)
    (after : List ℕ) (h : Halves) → (g : IsTried most list found last rest) → item_at last rest ≡ Ok (item, after)
    → 0 < length list - length rest
    → length list - length rest ≤ most → AreHalves h g.place.front (items_left last rest)
    → IsTried most list (Some h) item after
unfolding place_goes_on
tried_keeps most list found last rest item after h g r some le halves = record {
  place = place_goes_on list last rest item after g.place r;
  kept = (
    g.place.front,
    items_left last rest,
    divides_at list last rest item after g.place r some,
    halves,
    omega (arith, place_size list last rest g.place, le),
    omega (arith, length-append g.place.front (item ∷ [])),
  );
}

empty_front : (front : List ℕ) → length (item_list front) ≤ 0 → front ≡ []
empty_front [] le = refl
empty_front (x ∷ f) le = absurd (omega (arith, some_list x f))

-- the place before all items
pub tried_goes_on : (most : ℕ) (list : List ℕ) (found : Option Halves) (last : ℕ) (rest : List ℕ) (item : ℕ)
    (after : List ℕ) → (g : IsTried most list found last rest) → item_at last rest ≡ Ok (item, after)
    → length list - length rest ≤ 0
    → IsTried most list found item after
unfolding place_goes_on
tried_goes_on most list found last rest item after g r none = record {
  place = place_goes_on list last rest item after g.place r;
  kept = keep found g.kept;
}
  where
    front_none : g.place.front ≡ []
    front_none = empty_front g.place.front (omega (arith, place_size list last rest g.place, none))

    keep : (found : Option Halves) → Kept most list g.place.front found
        → Kept most list (g.place.front ++ item ∷ []) found
    keep None k = λ f more e some_more some_f. let p = cut_front g.place.front f more item e some_more in
        some_f (nothing_before f p.0 (p.1 ∙ front_none))
    keep (Some h) k =
        (k.0, k.1, k.2, k.3, k.4, omega (arith, length-append g.place.front (item ∷ []), ap length front_none))

-- what the search answers
abbrev pub Tells : ℕ → List ℕ → Option Halves → Type 0
Tells most list None = (f b : List ℕ) → IsDivision list f b → most < length (item_list f)
Tells most list (Some h) = (f b : List ℕ) × IsLastWithin most list f b × AreHalves h f b

pub tried_ends : (most : ℕ) (list front : List ℕ) (found : Option Halves) → Kept most list front found → ((f b : List ℕ)
    → IsDivision list f b → length (item_list f) ≤ most → (more : List ℕ) × (more ≢ []) × (f ++ more ≡ front))
    → Tells most list found
tried_ends most list front None k before = λ f b d. above f b d
  where
    above : (f b : List ℕ) → IsDivision list f b → most < length (item_list f)
    above f b d = elim (cases_lt most (length (item_list f))) [
      | inl lt ↦ lt
      | inr le ↦ let p = before f b d le in absurd (k f p.0 p.2 p.1 d.some_front)
    ]
tried_ends most list front (Some h) k before =
    (k.0, k.1, record { divides = k.2; within = k.4; last = λ f b d le. shorter_than f (before f b d le) }, k.3)
  where
    some_length : (more : List ℕ) → more ≢ [] → 1 ≤ length more
    some_length [] some = absurd (some refl)
    some_length (x ∷ more) some = omega arith

    shorter_than : (f : List ℕ) → (more : List ℕ) × (more ≢ []) × (f ++ more ≡ front) → length f ≤ length k.0
    shorter_than f (more, some, e) = omega (arith, ap length e, length-append f more, some_length more some, k.5)

pub ends_past : (most : ℕ) (list : List ℕ) (found : Option Halves) (last : ℕ) (rest : List ℕ)
    → IsTried most list found last rest → most < length list - length rest → Tells most list found
ends_past most list found last rest g lt = tried_ends most list g.place.front found g.kept
    (λ f b d le. by f b d le (fronts f b g.place.front (items_left last rest) (sym d.all ∙ g.place.all)))
  where
    by : (f b : List ℕ) → IsDivision list f b → length (item_list f) ≤ most → Begins f g.place.front
        → (more : List ℕ) × (more ≢ []) × (f ++ more ≡ g.place.front)
    by f b d le (shorter [] e) = absurd
        (omega (arith, le, lt, place_size list last rest g.place, ap (λ l. length (item_list l)) (e ∙ append-nil f)))
    by f b d le (shorter (x ∷ more) e) = (x ∷ more, λ p. absurd cc, sym e)
    by f b d le (longer more some_more e) = absurd (omega (
      arith,
      le,
      lt,
      place_size list last rest g.place,
      ap (λ l. length (item_list l)) e,
      front_less g.place.front more,
    ))

pub ends_all : (most : ℕ) (list : List ℕ) (found : Option Halves) (last : ℕ) (rest : List ℕ) (left : ℕ)
    → IsTried most list found last rest → item_at last rest ≡ Err left → Tells most list found
ends_all most list found last rest left g r =
    let none : g.place.front ++ items_left last rest ≡ g.place.front =
    ap (λ (l : List ℕ). g.place.front ++ l) (no_place last rest left g.place.stands r) ∙ append-nil g.place.front in
    tried_ends most list g.place.front found g.kept (λ f b d le. (b, d.some_back, sym d.all ∙ g.place.all ∙ none))

-- ---- as even as can be, or as much as fits

from_front : (list f b : List ℕ) → IsItemList list → IsDivision list f b → length (item_list f) ≤ length list
from_front list f b h d = omega (arith, ap length h.encoding, ap (λ l. length (item_list l)) d.all, front_less f b)

is_half : (list f b : List ℕ) → IsFirstFrom (length list - length list / 2) list f b → IsHalf (list_cutting list) f b
is_half list f b x = record {
  divides = x.divides;
  keeps = omega (arith, x.reaches);
  least = λ g c d k. x.first g c d (omega (arith, k));
}

is_most : (list f b : List ℕ) → IsLastWithin 8164 list f b → IsMost (list_cutting list) f b
is_most list f b x =
    record { divides = x.divides; fits = omega (arith, x.within); most = λ g c d k. x.last g c d (omega (arith, k)) }

back_size : (h : Halves) (f b : List ℕ) → AreHalves h f b
    → length (item_list b) ≡ length (varbyte h.next) + length h.rest.now
back_size h f b x = ap length (sym x.back_is) ∙ length-append (varbyte h.next) h.rest.now

pub even_half : (list f b : List ℕ) (h : Halves) → IsFirstFrom (length list - length list / 2) list f b
    → AreHalves h f b → 4 + length h.front.now ≤ 8168 → 4 + (length (varbyte h.next) + length h.rest.now) ≤ 8168
    → IsEven (list_cutting list) f b
even_half list f b h x y p q =
    IsEven.half (is_half list f b x) (omega (arith, p, ap length y.front_is)) (omega (arith, q, back_size h f b y))

pub even_none : (list f b : List ℕ) → ((g c : List ℕ) → IsDivision list g c
    → length (item_list g) < length list - length list / 2) → IsLastWithin 8164 list f b
    → IsEven (list_cutting list) f b
even_none list f b none x =
    IsEven.longest (λ g c k p q. absurd (omega (arith, none g c k.divides, k.keeps))) (is_most list f b x)

same_length : (f b g c : List ℕ) → f ++ b ≡ g ++ c → length f ≡ length g → (f ≡ g) × (b ≡ c)
same_length [] b [] c e n = (refl, e)
same_length [] b (y ∷ g) c e n = absurd (omega (arith, n))
same_length (x ∷ f) b [] c e n = absurd (omega (arith, n))
same_length (x ∷ f) b (y ∷ g) c e n =
    let heads : x ≡ y = cc in
    let tails : f ++ b ≡ g ++ c = cc in
    let r = same_length f b g c tails (omega (arith, n)) in
    (ap (λ k. k ∷ f) heads ∙ ap (λ l. y ∷ l) r.0, r.1)

pub even_longest : (list f b g c : List ℕ) (h : Halves) → IsFirstFrom (length list - length list / 2) list f b
    → AreHalves h f b → ((4 + length h.front.now ≤ 8168) × (4 + (length (varbyte h.next) + length h.rest.now) ≤ 8168)
    → ⊥) → IsLastWithin 8164 list g c → IsEven (list_cutting list) g c
even_longest list f b g c h x y large most = IsEven.longest (λ f' b' k p q. other f' b' k p q) (is_most list g c most)
  where
    other : (f' b' : List ℕ) → IsHalf (list_cutting list) f' b' → FitsLeaf f' → FitsLeaf b' → ⊥
    other f' b' k p q =
        let here = is_half list f b x in
        let same = same_length f' b' f b (sym k.divides.all ∙ x.divides.all)
        (omega (arith, k.least f b x.divides here.keeps, here.least f' b' k.divides k.keeps)) in
        large (
          omega (arith, p, ap (λ l. length (item_list l)) same.0, ap length y.front_is),
          omega (arith, q, ap (λ l. length (item_list l)) same.1, back_size h f b y),
        )

pub cut_most : (list f b : List ℕ) (h : Halves) → IsLastWithin 8164 list f b → AreHalves h f b
    → length list - length h.front.now ≤ length h.front.now → IsCut (list_cutting list) f b Most
cut_most list f b h x y le = IsCut.most (is_most list f b x) (omega (arith, le, ap length y.front_is))

pub less_than_half : (list f b : List ℕ) (h : Halves) → IsLastWithin 8164 list f b → AreHalves h f b
    → length h.front.now < length list - length h.front.now → (g c : List ℕ) → IsMost (list_cutting list) g c
    → KeepsHalf list g → ⊥
less_than_half list f b h x y lt g c m k =
    let here = is_most list f b x in
    let same = same_length g c f b (sym m.divides.all ∙ x.divides.all)
    (omega (arith, m.most f b x.divides here.fits, here.most g c m.divides m.fits)) in
    absurd (omega (arith, k, lt, ap length y.front_is, ap (λ l. length (item_list l)) same.0))

some_tail : (f b : List ℕ) → b ≢ [] → f ++ b ≡ [] → ⊥
some_tail [] b some e = some e
some_tail (x ∷ f) b some e = absurd cc

-- the first item alone fits
pub nothing_fits : (list : List ℕ) → IsItemList list
    → ((f b : List ℕ) → IsDivision list f b → 8164 < length (item_list f)) → (f b : List ℕ) → IsDivision list f b → ⊥
nothing_fits list h none [] b d = d.some_front refl
nothing_fits list h none (i ∷ f) b d =
    let large = none (i ∷ []) (f ++ b)
    (record { all = d.all; some_front = λ e. absurd cc; some_back = λ e. some_tail f b d.some_back e }) in
    let items : AreItems (i ∷ (f ++ b)) = subst AreItems d.all h.items in
    absurd (omega (arith, large, length-append (varbyte (i - 0)) [], most_bytes (i - 0) (omega (arith, items.1))))

pub divides_two : (list : List ℕ) → ((f b : List ℕ) → IsDivision list f b → ⊥) → length (items_of list) < 2
divides_two list none = few (items_of list) refl
  where
    few : (is : List ℕ) → items_of list ≡ is → length is < 2
    few [] e = omega arith
    few (i ∷ []) e = omega arith
    few (i ∷ (j ∷ is)) e =
        absurd (none (i ∷ []) (j ∷ is) (record { all = e; some_front = λ p. absurd cc; some_back = λ p. absurd cc }))

pub two_divide : (list f b : List ℕ) → IsDivision list f b → length (items_of list) < 2 → ⊥
two_divide list f b d lt = both f b d.some_front d.some_back (omega (arith, lt, ap length d.all, length-append f b))
  where
    both : (f b : List ℕ) → f ≢ [] → b ≢ [] → length f + length b < 2 → ⊥
    both [] b p q lt = p refl
    both (x ∷ f) [] p q lt = q refl
    both (x ∷ f) (y ∷ b) p q lt = absurd (omega (arith, lt))

-- ---- what is answered

pub next_first : (list : List ℕ) (last : ℕ) (rest : List ℕ) (item : ℕ) (after : List ℕ) → IsPlace list last rest
    → item_at last rest ≡ Ok (item, after) → (is : List ℕ) × (items_left last rest ≡ item ∷ is)
next_first list last rest item after g r = (items_left item after, (next_place last rest item after g.stands r).left)

pub next_bound : (list f b : List ℕ) (h : Halves) → IsItemList list → IsDivision list f b → AreHalves h f b
    → h.next < item_limit
next_bound list f b h items d y =
    let back = AreItemsFrom-front 0 f b (subst AreItems d.all items.items) in
    let first : AreItemsFrom (last_or 0 f) (h.next ∷ y.next_is.0) =
    subst (AreItemsFrom (last_or 0 f)) y.next_is.1 back.1 in
    first.1

pub tells_some : (most : ℕ) (list : List ℕ) (found : Option Halves) → Tells most list found
    → IfSome found (λ h. (f b : List ℕ) × IsLastWithin most list f b × AreHalves h f b)
tells_some most list None t = tt
tells_some most list (Some h) t = t

pub tells_none : (most : ℕ) (list : List ℕ) (found : Option Halves) → Tells most list found
    → IfNone found ((f b : List ℕ) → IsDivision list f b → most < length (item_list f))
tells_none most list None t = t
tells_none most list (Some h) t = tt

pub map_some : (P Q : Halves → Type 0) (r : Option Halves) → ((h : Halves) → P h → Q h) → IfSome r P → IfSome r Q
map_some P Q None f p = tt
map_some P Q (Some h) f p = f h p

pub map_none : (P Q : Type 0) (r : Option Halves) → (P → Q) → IfNone r P → IfNone r Q
map_none P Q None f p = f p
map_none P Q (Some h) f p = tt

even_divides : (list f b : List ℕ) → IsEven (list_cutting list) f b → IsDivision list f b
even_divides list f b (IsEven.half x p q) = x.divides
even_divides list f b (IsEven.longest n m) = m.divides

pub none_few : (list : List ℕ) (r : Option Halves)
    → IfSome r (λ h. (f b : List ℕ) × IsEven (list_cutting list) f b × AreHalves h f b)
    → IfNone r ((f b : List ℕ) → IsDivision list f b → ⊥) → IsNone r ↔ (length (items_of list) < 2)
none_few list None some none = (λ e. divides_two list none, λ lt. refl)
none_few list (Some h) some none =
    (λ e. absurd cc, λ lt. absurd (two_divide list some.0 some.1 (even_divides list some.0 some.1 some.2) lt))
