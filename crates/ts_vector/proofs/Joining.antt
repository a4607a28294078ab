-- Two rising lists of entries become one.
use Rattle.std.proofs.Common.{◌≡◌, ℕ, suc, ◌+◌, ◌<◌, ◌≤◌, ◌⊎◌, inl, inr, List, [], ◌∷◌, ◌++◌, length, map, drop, sym}
use Rattle.std.proofs.Common.{ap, subst, arith, length-append, ◌∙◌, get_or}
use Rattle.std.specs.List.{AllZip}
use Rattle.std.specs.Ordering.{nat_cmp, ordering_reverse}
use Rattle.std.specs.declared.cmp.Ordering.{Ordering}
use Rattle.std.specs.declared.cmp.Ordering.TheVariants.{Less, Equal, Greater}
use Rattle.std.specs.FinMap.{slice_cmp-IsAntisymmetric, nat_cmp-IsAntisymmetric}
use Rattle.std.proofs.Math.Seq.{drop-cons}
use Rattle.std.proofs.Math.ListN.{drop_of_length-le}
use Rattle.std.proofs.lemmas.Bool.{cases_lt}
use Rattle.std.proofs.lemmas.List.{get_or_default}
use Rattle.std.specs.Prelude.{All, AllPairs, Any, Contains}
use Rattle.std.proofs.lemmas.List.Elements.{AllZip-push, All-append, All-push, All-head, All-tail, All-nil}
use Rattle.std.proofs.lemmas.List.Elements.{Contains-push_cases, Contains-get_or}
use Rattle.std.proofs.lemmas.List.Quantifiers.{all_pairs_push}
use Rattle.std.specs.Cmp.Lexicographic.{slice_cmp, nat_list_cmp_total}
use Rattle.ts_base.specs.Lexemes.{IsBefore}
use Rattle.ts_base.specs.Vectors.{Position, Entry, IsPosition, IsNormal, content_size}
use Rattle.ts_vector.specs.Inner.CappedForm.{moved_within, shifted_within}
use Rattle.ts_vector.specs.Inner.Steps.{IsWritten, joined, Merges, Settles, PutsSettled, HeadsStand}
use Rattle.ts_vector.proofs.Rising.{contains_head, contains_later, contains_cases, contains_none, any_of, of_any}
use Rattle.ts_vector.proofs.Rising.{pairs_tail, head_before}
use Rattle.ts_vector.proofs.Sorts.{pairs_map}
use Rattle.ts_vector.proofs.Changed.{moved_written}
use Rattle.ts_vector.proofs.Merging.{Before, HasPlace, any_left, any_right, any_cases, size-append, size-cons}
use Rattle.ts_vector.proofs.Merging.{place_left, place_right, place_back}

-- ── what one of some entries has ──
module _ (P : Entry → Type 0) where
  -- some entry of out, xs or ys
  abbrev OneOf : List Entry → List Entry → List Entry → Type 0
  OneOf out xs ys = Any P out ⊎ (Any P xs ⊎ Any P ys)

  any_none : ¬ Any P []
  any_none h = let x = of_any P [] h in contains_none x.0 x.1

  any_head : (e : Entry) (xs : List Entry) → P e → Any P (e ∷ xs)
  any_head e xs p = any_of P (e ∷ xs) e (contains_head e xs) p

  any_later : (e : Entry) (xs : List Entry) → Any P xs → Any P (e ∷ xs)
  any_later e xs h = let x = of_any P xs h in any_of P (e ∷ xs) x.0 (contains_later e x.0 xs x.1) x.2

  any_split : (e : Entry) (xs : List Entry) → Any P (e ∷ xs) → P e ⊎ Any P xs
  any_split e xs h =
      let x = of_any P (e ∷ xs) h in
      elim (contains_cases e x.0 xs x.1) [ inl s ↦ inl (subst P (sym s) x.2) | inr c ↦ inr (any_of P xs x.0 c x.2) ]

  push_split : (out : List Entry) (e : Entry) → Any P (out ++ e ∷ []) → Any P out ⊎ P e
  push_split out e h = elim (any_cases P out (e ∷ []) h) [
    | inl a ↦ inl a
    | inr b ↦ elim (any_split e [] b) [ inl p ↦ inr p | inr n ↦ absurd (any_none n) ]
  ]

  push_last : (out : List Entry) (e : Entry) → P e → Any P (out ++ e ∷ [])
  push_last out e p = any_right P out (e ∷ []) (any_head e [] p)

  -- what holds of some item holds of one of these, and the other way round
  pub record HaveAll (items out xs ys : List Entry) : Type 0 where
    pub to : Any P items → OneOf out xs ys
    pub from : OneOf out xs ys → Any P items

  module _ (items out : List Entry) where
    take_first : (x : Entry) (xs ys : List Entry) → HaveAll items out (x ∷ xs) ys → HaveAll items (out ++ x ∷ []) xs ys
    take_first x xs ys h = record {
      to = λ n. elim (h.to n) [
        | inl a ↦ inl (any_left P out (x ∷ []) a)
        | inr (inl b) ↦ elim (any_split x xs b) [ inl p ↦ inl (push_last out x p) | inr t ↦ inr (inl t) ]
        | inr (inr c) ↦ inr (inr c)
      ];
      from = λ n. elim n [
        | inl a ↦ elim (push_split out x a) [ inl t ↦ h.from (inl t) | inr p ↦ h.from (inr (inl (any_head x xs p))) ]
        | inr (inl b) ↦ h.from (inr (inl (any_later x xs b)))
        | inr (inr c) ↦ h.from (inr (inr c))
      ];
    }

    take_second : (y : Entry) (xs ys : List Entry) → HaveAll items out xs (y ∷ ys) → HaveAll items (out ++ y ∷ []) xs ys
    take_second y xs ys h = record {
      to = λ n. elim (h.to n) [
        | inl a ↦ inl (any_left P out (y ∷ []) a)
        | inr (inl b) ↦ inr (inl b)
        | inr (inr c) ↦ elim (any_split y ys c) [ inl p ↦ inl (push_last out y p) | inr t ↦ inr (inr t) ]
      ];
      from = λ n. elim n [
        | inl a ↦ elim (push_split out y a) [ inl t ↦ h.from (inl t) | inr p ↦ h.from (inr (inr (any_head y ys p))) ]
        | inr (inl b) ↦ h.from (inr (inl b))
        | inr (inr c) ↦ h.from (inr (inr (any_later y ys c)))
      ];
    }

    take_both : (x y e : Entry) (xs ys : List Entry) → (P x → P e) → (P y → P e) → (P e → P x ⊎ P y)
        → HaveAll items out (x ∷ xs) (y ∷ ys) → HaveAll items (out ++ e ∷ []) xs ys
    take_both x y e xs ys l r back h = record {
      to = λ n. elim (h.to n) [
        | inl a ↦ inl (any_left P out (e ∷ []) a)
        | inr (inl b) ↦ elim (any_split x xs b) [ inl p ↦ inl (push_last out e (l p)) | inr t ↦ inr (inl t) ]
        | inr (inr c) ↦ elim (any_split y ys c) [ inl p ↦ inl (push_last out e (r p)) | inr t ↦ inr (inr t) ]
      ];
      from = λ n. elim n [
        | inl a ↦ elim (push_split out e a) [
          | inl t ↦ h.from (inl t)
          | inr p ↦ elim (back p)
              [ inl q ↦ h.from (inr (inl (any_head x xs q))) | inr q ↦ h.from (inr (inr (any_head y ys q))) ]
        ]
        | inr (inl b) ↦ h.from (inr (inl (any_later x xs b)))
        | inr (inr c) ↦ h.from (inr (inr (any_later y ys c)))
      ];
    }

-- ── out is made of the items but for xs and ys, which come after it ──
pub record Joining (items out xs ys : List Entry) : Type 0 where
  pub rising : AllPairs Before out
  pub first : AllPairs Before xs
  pub second : AllPairs Before ys
  pub below_first : (a b : Entry) → Contains out a → Contains xs b → Before a b
  pub below_second : (a b : Entry) → Contains out a → Contains ys b → Before a b
  pub valid : All IsWritten out
  pub valid_first : All IsWritten xs
  pub valid_second : All IsWritten ys
  pub names : (l : List ℕ) → HaveAll (λ e. e.lexeme ≡ l) items out xs ys
  pub places : (l : List ℕ) (p : Position) → HaveAll (HasPlace l p) items out xs ys
  pub size : content_size out + content_size xs + content_size ys ≤ content_size items

all_of_split : (P : Entry → Type 0) (xs ys : List Entry) → HaveAll P (xs ++ ys) [] xs ys
all_of_split P xs ys = record {
  to = λ n. elim (any_cases P xs ys n) [ inl a ↦ inr (inl a) | inr b ↦ inr (inr b) ];
  from = λ n.
      elim n [ inl z ↦ absurd (any_none P z) | inr (inl a) ↦ any_left P xs ys a | inr (inr b) ↦ any_right P xs ys b ];
}

pub join_start : (xs ys : List Entry) → AllPairs Before xs → AllPairs Before ys → All IsWritten xs → All IsWritten ys
    → Joining (xs ++ ys) [] xs ys
join_start xs ys h k v w = record {
  rising = λ i j d lt le. absurd (omega arith);
  first = h;
  second = k;
  below_first = λ a b c _. absurd (contains_none a c);
  below_second = λ a b c _. absurd (contains_none a c);
  valid = All-nil IsWritten;
  valid_first = v;
  valid_second = w;
  names = λ l. all_of_split (λ e. e.lexeme ≡ l) xs ys;
  places = λ l p. all_of_split (HasPlace l p) xs ys;
  size = omega (arith, size-append xs ys);
}

only_out : (P : Entry → Type 0) (items out : List Entry) → HaveAll P items out [] [] → Any P items → Any P out
only_out P items out h n =
    elim (h.to n) [ inl a ↦ a | inr (inl b) ↦ absurd (any_none P b) | inr (inr c) ↦ absurd (any_none P c) ]

pub join_end : (items out : List Entry) → Joining items out [] [] → Merges items out
join_end items out j = record {
  rising = j.rising;
  valid = j.valid;
  same = record {
    names_to = λ l. only_out (λ e. e.lexeme ≡ l) items out (j.names l);
    names_from = λ l n. (j.names l).from (inl n);
    places_to = λ l p. only_out (HasPlace l p) items out (j.places l p);
    places_from = λ l p n. (j.places l p).from (inl n);
  };
  size = let s = j.size in omega arith;
}

module _ (items out : List Entry) where
  pushed : (e : Entry) → AllPairs Before out → ((a : Entry) → Contains out a → Before a e)
      → AllPairs Before (out ++ e ∷ [])
  pushed e up lower = all_pairs_push Before out e up (λ k d lt. lower (get_or out k d) (Contains-get_or out k d lt))

  below_push : (e : Entry) (zs : List Entry) → ((a b : Entry) → Contains out a → Contains zs b → Before a b)
      → ((b : Entry) → Contains zs b → Before e b)
      → (a b : Entry) → Contains (out ++ e ∷ []) a → Contains zs b → Before a b
  below_push e zs old new a b c k =
      elim (Contains-push_cases out e a c) [ inl t ↦ old a b t k | inr s ↦ subst (λ x. Before x b) s (new b k) ]

  -- the first list's next entry comes before all of the second list
  pub join_first : (x : Entry) (xs ys : List Entry) → Joining items out (x ∷ xs) ys
      → ((b : Entry) → Contains ys b → Before x b) → Joining items (out ++ x ∷ []) xs ys
  join_first x xs ys j over = record {
    rising = pushed x j.rising (λ a c. j.below_first a x c (contains_head x xs));
    first = pairs_tail Before x xs j.first;
    second = j.second;
    below_first = below_push x xs (λ a b c k. j.below_first a b c (contains_later x b xs k))
        (λ b k. head_before Before x b xs j.first k);
    below_second = below_push x ys j.below_second over;
    valid = All-push IsWritten out x j.valid (All-head IsWritten x xs j.valid_first);
    valid_first = All-tail IsWritten x xs j.valid_first;
    valid_second = j.valid_second;
    names = λ l. take_first (λ e. e.lexeme ≡ l) items out x xs ys (j.names l);
    places = λ l p. take_first (HasPlace l p) items out x xs ys (j.places l p);
    size = let s = j.size in omega (arith, size-append out (x ∷ []), size-cons x [], size-cons x xs);
  }

  pub join_second : (y : Entry) (xs ys : List Entry) → Joining items out xs (y ∷ ys)
      → ((b : Entry) → Contains xs b → Before y b) → Joining items (out ++ y ∷ []) xs ys
  join_second y xs ys j over = record {
    rising = pushed y j.rising (λ a c. j.below_second a y c (contains_head y ys));
    first = j.first;
    second = pairs_tail Before y ys j.second;
    below_first = below_push y xs j.below_first over;
    below_second = below_push y ys (λ a b c k. j.below_second a b c (contains_later y b ys k))
        (λ b k. head_before Before y b ys j.second k);
    valid = All-push IsWritten out y j.valid (All-head IsWritten y ys j.valid_second);
    valid_first = j.valid_first;
    valid_second = All-tail IsWritten y ys j.valid_second;
    names = λ l. take_second (λ e. e.lexeme ≡ l) items out y xs ys (j.names l);
    places = λ l p. take_second (HasPlace l p) items out y xs ys (j.places l p);
    size = let s = j.size in omega (arith, size-append out (y ∷ []), size-cons y [], size-cons y ys);
  }

  pub join_both : (x y : Entry) (xs ys : List Entry) → Joining items out (x ∷ xs) (y ∷ ys) → x.lexeme ≡ y.lexeme
      → Joining items (out ++ joined x y ∷ []) xs ys
  join_both x y xs ys j eq =
      let vx = All-head IsWritten x xs j.valid_first in
      let vy = All-head IsWritten y ys j.valid_second in
      record {
        rising = pushed (joined x y) j.rising (λ a c. j.below_first a x c (contains_head x xs));
        first = pairs_tail Before x xs j.first;
        second = pairs_tail Before y ys j.second;
        below_first = below_push (joined x y) xs (λ a b c k. j.below_first a b c (contains_later x b xs k))
            (λ b k. head_before Before x b xs j.first k);
        below_second = below_push (joined x y) ys (λ a b c k. j.below_second a b c (contains_later y b ys k))
            (λ b k. subst (λ l. IsBefore l b.lexeme) (sym eq) (head_before Before y b ys j.second k));
        valid = All-push IsWritten out (joined x y) j.valid (record {
          lexeme = vx.lexeme;
          positions = All-append IsPosition x.positions y.positions vx.positions vy.positions;
        });
        valid_first = All-tail IsWritten x xs j.valid_first;
        valid_second = All-tail IsWritten y ys j.valid_second;
        names = λ l. take_both (λ e. e.lexeme ≡ l) items out x y (joined x y) xs ys (λ h. h) (λ h. eq ∙ h) (λ h. inl h)
            (j.names l);
        places = λ l p. take_both (HasPlace l p) items out x y (joined x y) xs ys (place_left x y eq l p)
            (place_right x y eq l p) (place_back x y eq l p) (j.places l p);
        size = let s = j.size in omega (
          arith,
          size-append out (joined x y ∷ []),
          size-cons (joined x y) [],
          size-cons x xs,
          size-cons y ys,
          length-append x.positions y.positions,
        );
      }

-- the head of a rising list is over all that its bound is under
pub over_all : (x y : Entry) (ys : List Entry) → AllPairs Before (y ∷ ys) → Before x y → (b : Entry)
    → Contains (y ∷ ys) b → Before x b
over_all x y ys up le b c = elim (contains_cases y b ys c) [
  | inl s ↦ subst (Before x) s le
  | inr t ↦ nat_list_cmp_total.trans x.lexeme y.lexeme b.lexeme le (head_before Before y b ys up t)
]

-- ── two vectors, from two places on ──
abbrev pub moved : ℕ → Entry → Entry
moved n e = record { lexeme = e.lexeme; positions = map (moved_within n) e.positions }

-- out has what is before the places i and j
pub record Merged (v w : List Entry) (by i j : ℕ) (out : List Entry) : Type 0 where
  pub first_in : i ≤ length v
  pub second_in : j ≤ length w
  pub made : List Entry
  pub joining : Joining (shifted_within 0 v ++ shifted_within by w) made (shifted_within 0 (drop i v))
      (shifted_within by (drop j w))
  pub settled : AllZip Settles made out

pub up_moved : (n : ℕ) (v : List Entry) → AllPairs Before v → AllPairs Before (shifted_within n v)
up_moved n v up = pairs_map (moved n) (λ a b. IsBefore a.lexeme b.lexeme) v up

pub merged_start : (v w : List Entry) (by : ℕ) → IsNormal v → IsNormal w → Merged v w by 0 0 []
merged_start v w by n m = record {
  first_in = omega arith;
  second_in = omega arith;
  made = [];
  joining = join_start (shifted_within 0 v) (shifted_within by w) (up_moved 0 v n.rising) (up_moved by w m.rising)
      (moved_written 0 v n) (moved_written by w m);
  settled = tt;
}

pub merged_end : (v w : List Entry) (by i j : ℕ) (out : List Entry) → Merged v w by i j out → length v ≤ i
    → length w ≤ j
    → (made : List Entry) × Merges (shifted_within 0 v ++ shifted_within by w) made × AllZip Settles made out
merged_end v w by i j out m le lf =
    let a : drop i v ≡ [] = drop_of_length-le v le in
    let b : drop j w ≡ [] = drop_of_length-le w lf in
    let items = shifted_within 0 v ++ shifted_within by w in (
      m.made,
      join_end items m.made (subst (λ t. Joining items m.made [] (shifted_within by t)) b
          (subst (λ t. Joining items m.made (shifted_within 0 t) (shifted_within by (drop j w))) a m.joining)),
      m.settled,
    )

nothing : Entry
nothing = record { lexeme = []; positions = [] }

-- the rest from a place on
rest_from : (n i : ℕ) (v : List Entry) (d : Entry) → i < length v
    → shifted_within n (drop i v) ≡ moved n (get_or v i d) ∷ shifted_within n (drop (suc i) v)
rest_from n i v d lt = ap (shifted_within n) (drop-cons v i d lt)

-- what is before the head of the rest is before all of it
over_rest : (n j : ℕ) (w : List Entry) (x : Entry) → AllPairs Before (shifted_within n (drop j w))
    → (j < length w → Before x (get_or w j x)) → (b : Entry) → Contains (shifted_within n (drop j w)) b → Before x b
over_rest n j w x up le b c = elim (cases_lt j (length w)) [
  | inl lt ↦
      let e = rest_from n j w x lt in
      over_all x (moved n (get_or w j x)) (shifted_within n (drop (suc j) w)) (subst (AllPairs Before) e up) (le lt) b
      (subst (λ t. Contains t b) e c)
  | inr ge ↦ absurd (contains_none b (subst (λ t. Contains (shifted_within n t) b) (drop_of_length-le w ge) c))
]

module _ (v w : List Entry) (by i j : ℕ) (out new : List Entry) (is : Merged v w by i j out) where
  abbrev both : List Entry
  both = shifted_within 0 v ++ shifted_within by w

  abbrev xs : ℕ → List Entry
  xs k = shifted_within 0 (drop k v)

  abbrev ys : ℕ → List Entry
  ys k = shifted_within by (drop k w)

  pub merged_first : HeadsStand v i w j Less → ((d : Entry) → PutsSettled out (moved 0 (get_or v i d)) new)
      → Merged v w by (i + 1) j new
  merged_first h puts =
      let x = get_or v i nothing in
      let p = puts nothing in
      let old : Joining both is.made (moved 0 x ∷ xs (suc i)) (ys j) =
      subst (λ t. Joining both is.made t (ys j)) (rest_from 0 i v nothing h.0) is.joining in
      let over = over_rest by j w (moved 0 x) is.joining.second (λ lt. subst (λ e. IsBefore x.lexeme e.lexeme)
      (get_or_default w j nothing (moved 0 x) lt) (h.1 nothing lt)) in
      let step = join_first both is.made (moved 0 x) (xs (suc i)) (ys j) old over in
      let next : suc i ≡ i + 1 = omega arith in
      record {
        first_in = let lt = h.0 in omega arith;
        second_in = is.second_in;
        made = is.made ++ moved 0 x ∷ [];
        joining = subst (λ k. Joining both (is.made ++ moved 0 x ∷ []) (xs k) (ys j)) next step;
        settled = subst (AllZip Settles (is.made ++ moved 0 x ∷ [])) (sym p.2)
            (AllZip-push Settles is.made out (moved 0 x) p.0 is.settled p.1);
      }

  pub merged_second : HeadsStand v i w j Greater → ((d : Entry) → PutsSettled out (moved by (get_or w j d)) new)
      → Merged v w by i (j + 1) new
  merged_second h puts =
      let y = get_or w j nothing in
      let p = puts nothing in
      let old : Joining both is.made (xs i) (moved by y ∷ ys (suc j)) =
      subst (λ t. Joining both is.made (xs i) t) (rest_from by j w nothing h.0) is.joining in
      let over = over_rest 0 i v (moved by y) is.joining.first (λ lt. subst (λ e. IsBefore y.lexeme e.lexeme)
      (get_or_default v i nothing (moved by y) lt) (h.1 nothing lt)) in
      let step = join_second both is.made (moved by y) (xs i) (ys (suc j)) old over in
      let next : suc j ≡ j + 1 = omega arith in
      record {
        first_in = is.first_in;
        second_in = let lt = h.0 in omega arith;
        made = is.made ++ moved by y ∷ [];
        joining = subst (λ k. Joining both (is.made ++ moved by y ∷ []) (xs i) (ys k)) next step;
        settled = subst (AllZip Settles (is.made ++ moved by y ∷ [])) (sym p.2)
            (AllZip-push Settles is.made out (moved by y) p.0 is.settled p.1);
      }

  pub merged_both : HeadsStand v i w j Equal
      → ((d : Entry) → PutsSettled out (joined (moved 0 (get_or v i d)) (moved by (get_or w j d))) new)
      → Merged v w by (i + 1) (j + 1) new
  merged_both h puts =
      let x = get_or v i nothing in
      let y = get_or w j nothing in
      let p = puts nothing in
      let e = joined (moved 0 x) (moved by y) in
      let some : Joining both is.made (moved 0 x ∷ xs (suc i)) (ys j) =
      subst (λ t. Joining both is.made t (ys j)) (rest_from 0 i v nothing h.0) is.joining in
      let old : Joining both is.made (moved 0 x ∷ xs (suc i)) (moved by y ∷ ys (suc j)) =
      subst (λ t. Joining both is.made (moved 0 x ∷ xs (suc i)) t) (rest_from by j w nothing h.1) some in
      let step = join_both both is.made (moved 0 x) (moved by y) (xs (suc i)) (ys (suc j)) old (h.2 nothing) in
      let a : suc i ≡ i + 1 = omega arith in
      let b : suc j ≡ j + 1 = omega arith in
      record {
        first_in = let lt = h.0 in omega arith;
        second_in = let lt = h.1 in omega arith;
        made = is.made ++ e ∷ [];
        joining = subst (λ k. Joining both (is.made ++ e ∷ []) (xs (i + 1)) (ys k)) b
            (subst (λ k. Joining both (is.made ++ e ∷ []) (xs k) (ys (suc j))) a step);
        settled =
            subst (AllZip Settles (is.made ++ e ∷ [])) (sym p.2) (AllZip-push Settles is.made out e p.0 is.settled p.1);
      }

-- ── which comes next ──
pub heads : (v : List Entry) (i : ℕ) (w : List Entry) (j : ℕ) (r : Ordering) → i < length v → j < length w
    → ((d : Entry) → r ≡ slice_cmp nat_cmp (get_or v i d).lexeme (get_or w j d).lexeme) → HeadsStand v i w j r
heads v i w j Less lt lf is = (lt, λ d _. sym (is d))
heads v i w j Equal lt lf is = (
  lt,
  lf,
  λ d. slice_cmp-IsAntisymmetric nat_cmp-IsAntisymmetric (get_or v i d).lexeme (get_or w j d).lexeme (sym (is d)),
)
heads v i w j Greater lt lf is = (
  lf,
  λ d _. nat_list_cmp_total.antisymm (get_or w j d).lexeme (get_or v i d).lexeme ∙ ap ordering_reverse (sym (is d)),
)
