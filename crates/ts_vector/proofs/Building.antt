-- A vector that is built: in memory, and with the positions of each lexeme together.
use Rattle.std.proofs.Common.{◌≡◌, ◌≢◌, ℕ, zero, suc, ◌<◌, inl, inr, ◌⊎◌, List, [], ◌∷◌, ◌++◌, length, map, get_or}
use Rattle.std.proofs.Common.{refl, sym, ap, subst, ◌∙◌, arith, replicate}
use Rattle.std.specs.Prelude.{All, Any, Contains, Some, cond}
use Rattle.std.specs.BTreeMap.{insert_entry, is_at}
use Rattle.std.specs.Map.{lookup}
use Rattle.std.specs.Ordering.{match_ordering, is_eq}
use Rattle.std.specs.declared.cmp.Ordering.{Ordering}
use Rattle.std.specs.declared.cmp.Ordering.TheVariants.{Less, Equal, Greater}
use Rattle.std.proofs.Math.ListN.{set}
use Rattle.std.proofs.lemmas.List.{length-set, length-replicate, map_push, get_or_append_left, get_or_push}
use Rattle.std.proofs.lemmas.List.{get_or-set_same, get_or-set_other, length_push}
use Rattle.std.proofs.lemmas.List.Elements.{All-cons, All-nil, All-head, All-tail, All-push, All-weaker, All-contains}
use Rattle.std.proofs.lemmas.List.Elements.{Contains-push, Contains-push_cases, Contains-append_left, Contains-get_or}
use Rattle.std.proofs.lemmas.Bool.Decides.{eqb_tells}
use Rattle.ts_base.specs.Lexemes.{IsLexeme}
use Rattle.ts_base.specs.Vectors.{Position, Entry, IsPosition}
use Rattle.ts_vector.specs.declared.builder.Occurrence.{Occurrence}
use Rattle.ts_vector.specs.Normal.{capped, Names, IsHighest, ListsPositions, IsPlaced, IsNormalFormOf}
use Rattle.ts_vector.specs.Inner.Columns.{entry}
use Rattle.ts_vector.specs.Inner.Steps.{IsWritten, HaveSame}
use Rattle.ts_vector.specs.Inner.Building.{item_of, items_of, AreBuilding, IsEntered, IsNumbered, AreNumbered}
use Rattle.ts_vector.specs.Inner.Building.{AreGrouped, rows_of}
use Rattle.ts_vector.proofs.Rising.{contains_head, contains_later, contains_cases, contains_none, any_of, of_any}
use Rattle.ts_vector.proofs.Merging.{all_of, any_left}
use Rattle.ts_vector.proofs.Inserting.{order, same_of}

-- ── a lexeme more among those that are known ──
-- what was numbered before a lexeme came
numbered_more : (ls : List (List ℕ)) (k : List ℕ) (e : List ℕ × ℕ) → IsNumbered ls e
    → IsNumbered (ls ++ k ∷ []) e
numbered_more ls k e (lt, is) = (let n = length_push ls k in omega arith, get_or_append_left ls (k ∷ []) [] e.1 lt ∙ is)

-- what holds of all entries holds of those that an insertion leaves
inserted_all : (P : List ℕ × ℕ → Type 0) (k : List ℕ) (v : ℕ) → P (k, v) → (es : List (List ℕ × ℕ))
    → All P es → All P (insert_entry order es k v)
inserted_all P k v new [] h = All-cons P (k, v) [] new (All-nil P)
inserted_all P k v new (e ∷ es) h = by (order k e.0) refl (inserted_all P k v new es (All-tail P e es h))
  where
    by : (r : Ordering) → order k e.0 ≡ r → All P (insert_entry order es k v)
        → All P (match_ordering r ((k, v) ∷ e ∷ es) ((e.0, v) ∷ es) (e ∷ insert_entry order es k v))
    by Less q ih = All-cons P (k, v) (e ∷ es) new h
    by Equal q ih = All-cons P (e.0, v) es (subst (λ l. P (l, v)) (same_of k e.0 q) new) (All-tail P e es h)
    by Greater q ih = All-cons P e (insert_entry order es k v) (All-head P e es h) ih

pub numbered_insert : (ls : List (List ℕ)) (k : List ℕ) (es : List (List ℕ × ℕ)) → AreNumbered ls es
    → AreNumbered (ls ++ k ∷ []) (insert_entry order es k (length ls))
numbered_insert ls k es h =
    inserted_all (IsNumbered (ls ++ k ∷ [])) k (length ls)
    (let n = length_push ls k in omega arith, get_or_push ls k [] (length ls) refl) es
    (All-weaker (IsNumbered ls) (IsNumbered (ls ++ k ∷ [])) (numbered_more ls k) es h)

-- the number that a look-up finds
pub number_found : (ls : List (List ℕ)) (k : List ℕ) (n : ℕ) (es : List (List ℕ × ℕ)) → AreNumbered ls es
    → lookup (is_at (order k)) es ≡ Some n → (n < length ls) × (get_or ls n [] ≡ k)
number_found ls k n [] h e = absurd (cc)
number_found ls k n (x ∷ es) h e = by (order k x.0) refl (number_found ls k n es (All-tail (IsNumbered ls) x es h)) e
  where
    here : IsNumbered ls x
    here = All-head (IsNumbered ls) x es h

    by : (r : Ordering) → order k x.0 ≡ r
        → (lookup (is_at (order k)) es ≡ Some n → (n < length ls) × (get_or ls n [] ≡ k))
        → cond (is_eq r) (Some x.1) (lookup (is_at (order k)) es) ≡ Some n
        → (n < length ls) × (get_or ls n [] ≡ k)
    by Less q ih f = ih f
    by Equal q ih f =
        let s : x.1 ≡ n = cc in
        (subst (λ m. m < length ls) s here.0, ap (λ m. get_or ls m []) (sym s) ∙ here.1 ∙ sym (same_of k x.0 q))
    by Greater q ih f = ih f

-- the items that are there stay as they are
items_more : (ls : List (List ℕ)) (l : List ℕ) (os : List Occurrence)
    → All (λ o. o.lexeme < length ls) os → items_of (ls ++ l ∷ []) os ≡ items_of ls os
items_more ls l [] h = refl
items_more ls l (o ∷ os) h =
    let lt = All-head (λ o. o.lexeme < length ls) o os h in
    let e = get_or_append_left ls (l ∷ []) [] o.lexeme lt in
    let t = items_more ls l os (All-tail (λ o. o.lexeme < length ls) o os h) in
    λ i. entry (e i) (o.position ∷ []) ∷ t i

module _ (ls : List (List ℕ)) (os : List Occurrence) (b : AreBuilding ls os) (l : List ℕ)
    (o : Occurrence) (new : List (List ℕ)) (entered : IsEntered ls l o.lexeme new)
    (valid : IsLexeme l) (placed : IsPosition o.position) where
  pub pushed_items : items_of new (os ++ o ∷ []) ≡ items_of ls os ++ entry l (o.position ∷ []) ∷ []
  pushed_items = elim entered [
    | inl (same, lt, is) ↦
        ap (λ w. items_of w (os ++ o ∷ [])) same ∙ map_push (item_of ls) os o
        ∙ (λ i. items_of ls os ++ entry (is i) (o.position ∷ []) ∷ [])
    | inr (more, last) ↦
        let is = get_or_push ls l [] o.lexeme (sym last) in
        ap (λ w. items_of w (os ++ o ∷ [])) more ∙ map_push (item_of (ls ++ l ∷ [])) os o
        ∙ (λ i. items_more ls l os b.within i ++ entry (is i) (o.position ∷ []) ∷ [])
  ]

  used_before : (i : ℕ) → i < length ls → Any (λ x. x.lexeme ≡ i) (os ++ o ∷ [])
  used_before i lt = any_left (λ x. x.lexeme ≡ i) os (o ∷ []) (b.used i lt)

  pub pushed : AreBuilding new (os ++ o ∷ [])
  pushed = elim entered [
    | inl (same, lt, is) ↦ subst (λ w. AreBuilding w (os ++ o ∷ [])) (sym same) (record {
      valid = b.valid;
      within = All-push (λ x. x.lexeme < length ls) os o b.within lt;
      placed = All-push (λ x. IsPosition x.position) os o b.placed placed;
      used = used_before;
    })
    | inr (more, last) ↦ subst (λ w. AreBuilding w (os ++ o ∷ [])) (sym more) (record {
      valid = All-push IsLexeme ls l b.valid valid;
      within =
          let n = length_push ls l in
          All-push (λ x. x.lexeme < length (ls ++ l ∷ [])) os o
          (All-weaker (λ x. x.lexeme < length ls) (λ x. x.lexeme < length (ls ++ l ∷ []))
          (λ x h. omega arith) os b.within)
          (omega arith);
      placed = All-push (λ x. IsPosition x.position) os o b.placed placed;
      used = λ i lt. elim (eqb_tells i (length ls)) [
        | inl e ↦ any_of (λ x. x.lexeme ≡ i) (os ++ o ∷ []) o (Contains-push os o) (last ∙ sym e.1)
        | inr n ↦ used_before i (let m = length_push ls l in let d = n.1 in omega arith)
      ];
    })
  ]

-- ── the positions of each lexeme together ──
nothing : (n i : ℕ) → get_or {A = List Position} (replicate n []) i [] ≡ []
nothing zero i = refl
nothing (suc n) zero = refl
nothing (suc n) (suc i) = nothing n i

pub grouped_start : (n : ℕ) → AreGrouped n [] (replicate n [])
grouped_start n = record {
  count_is = length-replicate n [];
  to = λ o c. absurd (contains_none o c);
  from = λ i p c. absurd (contains_none p (subst (λ ps. Contains ps p) (nothing n i) c));
}

module _ (n : ℕ) (os : List Occurrence) (lists : List (List Position)) (o : Occurrence)
    (g : AreGrouped n os lists) (lt : o.lexeme < n) where
  abbrev more : List (List Position)
  more = set lists o.lexeme (get_or lists o.lexeme [] ++ o.position ∷ [])

  within : o.lexeme < length lists
  within = let c = g.count_is in omega arith

  here : get_or more o.lexeme [] ≡ get_or lists o.lexeme [] ++ o.position ∷ []
  here = get_or-set_same lists o.lexeme (get_or lists o.lexeme [] ++ o.position ∷ []) [] within

  elsewhere : (i : ℕ) → i ≢ o.lexeme → get_or more i [] ≡ get_or lists i []
  elsewhere i d = get_or-set_other lists o.lexeme i (get_or lists o.lexeme [] ++ o.position ∷ []) [] d

  stays : (i : ℕ) (p : Position) → Contains (get_or lists i []) p → Contains (get_or more i []) p
  stays i p c = elim (eqb_tells i o.lexeme) [
    | inl e ↦
        subst (λ j. Contains (get_or more j []) p) (sym e.1) (subst (λ ps. Contains ps p) (sym here)
        (Contains-append_left (get_or lists o.lexeme []) (o.position ∷ []) p
        (subst (λ j. Contains (get_or lists j []) p) e.1 c)))
    | inr d ↦ subst (λ ps. Contains ps p) (sym (elsewhere i d.1)) c
  ]

  comes : (i : ℕ) (p : Position) → Contains (get_or more i []) p
      → Contains (get_or lists i []) p ⊎ ((o.lexeme ≡ i) × (o.position ≡ p))
  comes i p c = elim (eqb_tells i o.lexeme) [
    | inl e ↦
        let k = subst (λ ps. Contains ps p) here (subst (λ j. Contains (get_or more j []) p) e.1 c) in
        elim (Contains-push_cases (get_or lists o.lexeme []) o.position p k) [
          | inl t ↦ inl (subst (λ j. Contains (get_or lists j []) p) (sym e.1) t)
          | inr s ↦ inr (sym e.1, s)
        ]
    | inr d ↦ inl (subst (λ ps. Contains ps p) (elsewhere i d.1) c)
  ]

  pub grouped_more : AreGrouped n (os ++ o ∷ []) more
  grouped_more = record {
    count_is = length-set lists o.lexeme (get_or lists o.lexeme [] ++ o.position ∷ []) ∙ g.count_is;
    to = λ x c. elim (Contains-push_cases os o x c) [
      | inl t ↦ stays x.lexeme x.position (g.to x t)
      | inr s ↦
          subst (λ y. Contains (get_or more y.lexeme []) y.position) s
          (subst (λ ps. Contains ps o.position) (sym here) (Contains-push (get_or lists o.lexeme []) o.position))
    ];
    from = λ i p c. elim (comes i p c) [
      | inl t ↦ any_left (λ x. (x.lexeme ≡ i) × (x.position ≡ p)) os (o ∷ []) (g.from i p t)
      | inr s ↦ any_of (λ x. (x.lexeme ≡ i) × (x.position ≡ p)) (os ++ o ∷ []) o (Contains-push os o) s
    ];
  }

-- ── refs ──
-- the entry at an index, and an index of a entry
row_there : (ls : List (List ℕ)) (lists : List (List Position)) (i : ℕ)
    → length lists ≡ length ls → i < length ls
    → Contains (rows_of ls lists) (entry (get_or ls i []) (get_or lists i []))
row_there [] lists i e lt = absurd (omega arith)
row_there (l ∷ ls) [] i e lt = absurd (omega arith)
row_there (l ∷ ls) (ps ∷ lists) zero e lt = contains_head (entry l ps) (rows_of ls lists)
row_there (l ∷ ls) (ps ∷ lists) (suc i) e lt =
    contains_later (entry l ps) (entry (get_or ls i []) (get_or lists i [])) (rows_of ls lists)
    (row_there ls lists i (omega arith) (omega arith))

row_from : (ls : List (List ℕ)) (lists : List (List Position)) (x : Entry)
    → Contains (rows_of ls lists) x
    → (i : ℕ) × (i < length ls) × (x ≡ entry (get_or ls i []) (get_or lists i []))
row_from [] lists x c = absurd (contains_none x c)
row_from (l ∷ ls) [] x c = absurd (contains_none x c)
row_from (l ∷ ls) (ps ∷ lists) x c = elim (contains_cases (entry l ps) x (rows_of ls lists) c) [
  | inl e ↦ (0, omega arith, sym e)
  | inr t ↦ let r = row_from ls lists x t in (suc r.0, omega (arith, r.1), r.2)
]

pub rows_more : (ls : List (List ℕ)) (lists : List (List Position)) (l : List ℕ) (ps : List Position)
    → length lists ≡ length ls
    → rows_of (ls ++ l ∷ []) (lists ++ ps ∷ []) ≡ rows_of ls lists ++ entry l ps ∷ []
rows_more [] [] l ps e = refl
rows_more [] (qs ∷ lists) l ps e = absurd (omega arith)
rows_more (k ∷ ls) [] l ps e = absurd (omega arith)
rows_more (k ∷ ls) (qs ∷ lists) l ps e =
    ap (λ t. entry k qs ∷ t) (rows_more ls lists l ps (omega arith))

module _ {X Y : Type 0} (f : X → Y) where
  mapped_to : (xs : List X) (x : X) → Contains xs x → Contains (map f xs) (f x)
  mapped_to [] x c = absurd (contains_none x c)
  mapped_to (a ∷ xs) x c = elim (contains_cases a x xs c) [
    | inl e ↦ subst (λ y. Contains (f a ∷ map f xs) (f y)) e (contains_head (f a) (map f xs))
    | inr t ↦ contains_later (f a) (f x) (map f xs) (mapped_to xs x t)
  ]

  mapped_from : (xs : List X) (y : Y) → Contains (map f xs) y → (x : X) × Contains xs x × (f x ≡ y)
  mapped_from [] y c = absurd (contains_none y c)
  mapped_from (a ∷ xs) y c = elim (contains_cases (f a) y (map f xs) c) [
    | inl e ↦ (a, contains_head a xs, e)
    | inr t ↦ let r = mapped_from xs y t in (r.0, contains_later a r.0 xs r.1, r.2)
  ]

-- ── the refs have the items' lexemes at their positions ──
module _ (ls : List (List ℕ)) (os : List Occurrence) (lists : List (List Position))
    (b : AreBuilding ls os) (g : AreGrouped (length ls) os lists) where
  abbrev items : List Entry
  items = items_of ls os

  abbrev refs : List Entry
  refs = rows_of ls lists

  row_of : (o : Occurrence) → Contains os o → Contains refs (entry (get_or ls o.lexeme []) (get_or lists o.lexeme []))
  row_of o c = row_there ls lists o.lexeme g.count_is (All-contains (λ x. x.lexeme < length ls) os o b.within c)

  pub rows_same : HaveSame items refs
  rows_same = record {
    names_to = λ l n.
        let x = of_any (λ x. x.lexeme ≡ l) items n in
        let o = mapped_from (item_of ls) os x.0 x.1 in
        any_of (λ y. y.lexeme ≡ l) refs (entry (get_or ls o.0.lexeme []) (get_or lists o.0.lexeme [])) (row_of o.0 o.1)
        (ap (λ (y : Entry). y.lexeme) o.2 ∙ x.2);
    names_from = λ l n.
        let x = of_any (λ x. x.lexeme ≡ l) refs n in
        let r = row_from ls lists x.0 x.1 in
        let o = of_any (λ y. y.lexeme ≡ r.0) os (b.used r.0 r.1) in
        any_of (λ y. y.lexeme ≡ l) items (item_of ls o.0) (mapped_to (item_of ls) os o.0 o.1)
        (ap (λ j. get_or ls j []) o.2 ∙ sym (ap (λ (y : Entry). y.lexeme) r.2) ∙ x.2);
    places_to = λ l p n.
        let x = of_any (λ x. (x.lexeme ≡ l) × Any (λ q. capped q ≡ p) x.positions) items n in
        let o = mapped_from (item_of ls) os x.0 x.1 in
        let q = of_any (λ q. capped q ≡ p) (o.0.position ∷ [])
        (subst (λ (y : Entry). Any (λ q. capped q ≡ p) y.positions) (sym o.2) x.2.1) in
        let here : capped o.0.position ≡ p = elim (contains_cases o.0.position q.0 [] q.1) [
          | inl e ↦ ap capped e ∙ q.2
          | inr t ↦ absurd (contains_none q.0 t)
        ] in
        any_of (λ y. (y.lexeme ≡ l) × Any (λ q. capped q ≡ p) y.positions) refs
        (entry (get_or ls o.0.lexeme []) (get_or lists o.0.lexeme [])) (row_of o.0 o.1) (
          ap (λ (y : Entry). y.lexeme) o.2 ∙ x.2.0,
          any_of (λ q. capped q ≡ p)
              (get_or lists o.0.lexeme []) o.0.position (g.to o.0 o.1) here,
        );
    places_from = λ l p n.
        let x = of_any (λ x. (x.lexeme ≡ l) × Any (λ q. capped q ≡ p) x.positions) refs n in
        let r = row_from ls lists x.0 x.1 in
        let q = of_any (λ q. capped q ≡ p) (get_or lists r.0 [])
        (subst (λ (y : Entry). Any (λ q. capped q ≡ p) y.positions) r.2 x.2.1) in
        let o = of_any (λ y. (y.lexeme ≡ r.0) × (y.position ≡ q.0)) os (g.from r.0 q.0 q.1) in
        any_of (λ y. (y.lexeme ≡ l) × Any (λ q. capped q ≡ p) y.positions) items (item_of ls o.0)
        (mapped_to (item_of ls) os o.0 o.1) (
          ap (λ j. get_or ls j []) o.2.0 ∙ sym (ap (λ (y : Entry). y.lexeme) r.2) ∙ x.2.0,
          any_of (λ q. capped q ≡ p) (o.0.position ∷ []) o.0.position (contains_head o.0.position [])
              (ap capped o.2.1 ∙ q.2),
        );
  }

  pub rows_written : All IsWritten refs
  rows_written = all_of IsWritten refs (λ x c.
      let r = row_from ls lists x c in
      subst IsWritten (sym r.2) (record {
        lexeme = All-contains IsLexeme ls (get_or ls r.0 []) b.valid (Contains-get_or ls r.0 [] r.1);
        positions = all_of IsPosition (get_or lists r.0 []) (λ q k.
            let o = of_any (λ y. (y.lexeme ≡ r.0) × (y.position ≡ q)) os (g.from r.0 q k) in
            subst IsPosition o.2.1 (All-contains (λ y. IsPosition y.position) os o.0 b.placed o.1));
      }))

-- ── what has the same lexemes at the same positions has the same normal form ──
pub form_of_same : (items refs out : List Entry) → HaveSame items refs → IsNormalFormOf refs out
    → IsNormalFormOf items out
form_of_same items refs out s f = record {
  rising = f.rising;
  only = All-weaker (λ e. Names refs e.lexeme) (λ e. Names items e.lexeme) (λ e. s.names_from e.lexeme) out f.only;
  each = λ l n. f.each l (s.names_to l n);
  placed = All-weaker (IsPlaced refs) (IsPlaced items) (λ e h. (h.0, listed e.lexeme h.0 h.1, h.2)) out f.placed;
}
  where
    highest_to : (l : List ℕ) (p : Position) → IsHighest items l p → IsHighest refs l p
    highest_to l p t = record {
      placed = s.places_to l p t.placed;
      highest = λ w h. t.highest w
          (s.places_from l (record { at = p.at; weight = w }) h);
    }

    highest_from : (l : List ℕ) (p : Position) → IsHighest refs l p → IsHighest items l p
    highest_from l p t = record {
      placed = s.places_from l p t.placed;
      highest = λ w h. t.highest w
          (s.places_to l (record { at = p.at; weight = w }) h);
    }

    listed : (l : List ℕ) (all : List Position) → ListsPositions refs l all → ListsPositions items l all
    listed l all h = record {
      rising = h.rising;
      only = All-weaker (IsHighest refs l) (IsHighest items l) (highest_from l) all h.only;
      each = λ p t. h.each p (highest_to l p t);
    }

-- so the normal form of the refs is that of the items
pub rows_form : (ls : List (List ℕ)) (os : List Occurrence) (lists : List (List Position))
    → AreBuilding ls os → AreGrouped (length ls) os lists → (out : List Entry)
    → IsNormalFormOf (rows_of ls lists) out → IsNormalFormOf (items_of ls os) out
rows_form ls os lists b g out f =
    form_of_same (items_of ls os) (rows_of ls lists) out (rows_same ls os lists b g) f
