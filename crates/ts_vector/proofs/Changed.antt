-- Vectors made of vectors.
use Rattle.std.proofs.Common.{◌≡◌, ℕ, ◌+◌, ◌<◌, ◌≤◌, inl, inr, min, List, [], ◌∷◌, ◌++◌, map, refl, sym, ◌∙◌, subst}
use Rattle.std.proofs.Common.{arith, ◌^◌}
use Rattle.std.specs.Prelude.{All, Any}
use Rattle.std.proofs.lemmas.List.{length-map}
use Rattle.std.proofs.lemmas.List.Elements.{All-nil, All-head, All-tail, All-map, All-weaker}
use Rattle.ts_base.specs.declared.Weight.{Weight}
use Rattle.ts_base.specs.Lexemes.{IsBefore}
use Rattle.ts_base.specs.Vectors.{Position, Entry, Vector, IsPosition, IsEntry, IsNormal, content_size}
use Rattle.ts_vector.specs.declared.error.VectorError.{VectorError}
use Rattle.ts_vector.specs.declared.error.VectorError.TheVariants.{Syntax, LexemeTooLong, VectorTooLarge, BadBytes}
use Rattle.ts_vector.specs.declared.error.VectorError.TheVariants.{OutOfMemory}
use Rattle.ts_vector.specs.Normal.{capped, Names, IsHighest, IsPlaced, IsNormalFormOf}
use Rattle.ts_vector.specs.Inner.Steps.{IsWritten, HaveSame}
use Rattle.ts_vector.specs.Changes.{stripped, weighted, reweighted, moved_position, shifted, IsGreatest, IsJoinOf}
use Rattle.ts_vector.specs.Inner.CappedForm.{moved_within, shifted_within}
use Rattle.ts_vector.specs.Inner.Over.{IsOver}
use Rattle.ts_vector.specs.Failures.{JoinFails}
use Rattle.ts_vector.proofs.Rising.{contains_head, contains_later, contains_cases, contains_none, any_of, of_any}
use Rattle.ts_vector.proofs.Sorts.{pairs_map}
use Rattle.ts_vector.proofs.Merging.{size-cons, any_left, any_right, any_cases}

-- ── entries with other positions ──
strip_entry : (e : Entry) → IsEntry e → IsEntry (record { lexeme = e.lexeme; positions = [] })
strip_entry e h = record {
  lexeme = h.lexeme;
  positions = All-nil IsPosition;
  rising = λ i j d lt le. absurd (omega arith);
  few = omega arith;
}

pub stripped_normal : (v : Vector) → IsNormal v → IsNormal (stripped v)
stripped_normal v n = record {
  entries = All-map IsEntry (λ e. record { lexeme = e.lexeme; positions = [] }) v
      (All-weaker IsEntry (λ e. IsEntry (record { lexeme = e.lexeme; positions = [] })) strip_entry v n.entries);
  rising = pairs_map (λ e. record { lexeme = e.lexeme; positions = [] }) (λ a b. IsBefore a.lexeme b.lexeme) v n.rising;
}

pub stripped_size : (v : Vector) → content_size (stripped v) ≤ content_size v
stripped_size [] = omega arith
stripped_size (e ∷ v) =
    omega (arith, stripped_size v, size-cons e v, size-cons (record { lexeme = e.lexeme; positions = [] }) (stripped v))

module _ (w : Weight) where
  abbrev weigh : Entry → Entry
  weigh e = record { lexeme = e.lexeme; positions = map (weighted w) e.positions }

  weigh_entry : (e : Entry) → IsEntry e → IsEntry (weigh e)
  weigh_entry e h = record {
    lexeme = h.lexeme;
    positions = All-map IsPosition (weighted w) e.positions h.positions;
    rising = pairs_map (weighted w) (λ p q. p.at < q.at) e.positions h.rising;
    few = omega (arith, h.few, length-map e.positions (weighted w));
  }

  pub reweighted_normal : (v : Vector) → IsNormal v → IsNormal (reweighted w v)
  reweighted_normal v n = record {
    entries = All-map IsEntry weigh v (All-weaker IsEntry (λ e. IsEntry (weigh e)) weigh_entry v n.entries);
    rising = pairs_map weigh (λ a b. IsBefore a.lexeme b.lexeme) v n.rising;
  }

  pub reweighted_size : (v : Vector) → content_size (reweighted w v) ≤ content_size v
  reweighted_size [] = omega arith
  reweighted_size (e ∷ v) = omega (
    arith,
    reweighted_size v,
    size-cons e v,
    size-cons (weigh e) (reweighted w v),
    length-map e.positions (weighted w),
  )

-- ── items with the same content have the same normal form ──
module _ (items others : List Entry) (same : HaveSame items others) where
  highest_to : (l : List ℕ) (p : Position) → IsHighest items l p → IsHighest others l p
  highest_to l p h = record {
    placed = same.places_to l p h.placed;
    highest = λ w k. h.highest w (same.places_from l (record { at = p.at; weight = w }) k);
  }

  highest_from : (l : List ℕ) (p : Position) → IsHighest others l p → IsHighest items l p
  highest_from l p h = record {
    placed = same.places_from l p h.placed;
    highest = λ w k. h.highest w (same.places_to l (record { at = p.at; weight = w }) k);
  }

  placed_from : (e : Entry) → IsPlaced others e → IsPlaced items e
  placed_from e (all, h, is) = (
    all,
    record {
      rising = h.rising;
      only = All-weaker (IsHighest others e.lexeme) (IsHighest items e.lexeme) (highest_from e.lexeme) all h.only;
      each = λ p k. h.each p (highest_to e.lexeme p k);
    },
    is,
  )

  pub form_same : (v : Vector) → IsNormalFormOf others v → IsNormalFormOf items v
  form_same v f = record {
    rising = f.rising;
    only = All-weaker (λ e. Names others e.lexeme) (λ e. Names items e.lexeme)
        (λ e n. same.names_from e.lexeme n) v f.only;
    each = λ l n. f.each l (same.names_to l n);
    placed = All-weaker (IsPlaced others) (IsPlaced items) placed_from v f.placed;
  }

-- ── moved positions, kept up to 16383 ──
pub any_map_to : {X Y : Type 0} (P : Y → Type 0) (f : X → Y) (xs : List X) → Any (λ x. P (f x)) xs → Any P (map f xs)
any_map_to P f [] h = absurd (contains_none (of_any (λ x. P (f x)) [] h).0 (of_any (λ x. P (f x)) [] h).1)
any_map_to P f (x ∷ xs) h =
    let y = of_any (λ z. P (f z)) (x ∷ xs) h in
    elim (contains_cases x y.0 xs y.1) [
      | inl e ↦ any_of P (f x ∷ map f xs) (f x) (contains_head (f x) (map f xs)) (subst (λ z. P (f z)) (sym e) y.2)
      | inr t ↦
          let r = of_any P (map f xs) (any_map_to P f xs (any_of (λ z. P (f z)) xs y.0 t y.2)) in
          any_of P (f x ∷ map f xs) r.0 (contains_later (f x) r.0 (map f xs) r.1) r.2
    ]

pub any_map_from : {X Y : Type 0} (P : Y → Type 0) (f : X → Y) (xs : List X) → Any P (map f xs) → Any (λ x. P (f x)) xs
any_map_from P f [] h = absurd (contains_none (of_any P [] h).0 (of_any P [] h).1)
any_map_from P f (x ∷ xs) h =
    let y = of_any P (f x ∷ map f xs) h in
    elim (contains_cases (f x) y.0 (map f xs) y.1) [
      | inl e ↦ any_of (λ z. P (f z)) (x ∷ xs) x (contains_head x xs) (subst P (sym e) y.2)
      | inr t ↦
          let r = of_any (λ z. P (f z)) xs (any_map_from P f xs (any_of P (map f xs) y.0 t y.2)) in
          any_of (λ z. P (f z)) (x ∷ xs) r.0 (contains_later x r.0 xs r.1) r.2
    ]

any_weaker : {X : Type 0} (P Q : X → Type 0) → ((x : X) → P x → Q x) → (xs : List X) → Any P xs → Any Q xs
any_weaker P Q f xs h = let y = of_any P xs h in any_of Q xs y.0 y.1 (f y.0 y.2)

capped_twice : (p : Position) → capped (capped p) ≡ capped p
capped_twice p =
    let e : min (min p.at 16383) 16383 ≡ min p.at 16383 = omega arith in λ i. record { at = e i; weight = p.weight }

module _ (n : ℕ) where
  abbrev move : Entry → Entry
  move e = record { lexeme = e.lexeme; positions = map (moved_position n) e.positions }

  abbrev move_within : Entry → Entry
  move_within e = record { lexeme = e.lexeme; positions = map (moved_within n) e.positions }

  abbrev HasPlace : List ℕ → Position → Entry → Type 0
  HasPlace l p e = (e.lexeme ≡ l) × Any (λ q. capped q ≡ p) e.positions

  place_to : (l : List ℕ) (p : Position) (e : Entry) → HasPlace l p (move e) → HasPlace l p (move_within e)
  place_to l p e (is, a) = (
    is,
    any_map_to (λ q. capped q ≡ p) (moved_within n) e.positions
        (any_weaker (λ q. capped (moved_position n q) ≡ p) (λ q. capped (moved_within n q) ≡ p)
        (λ q k. capped_twice (moved_position n q) ∙ k) e.positions
        (any_map_from (λ q. capped q ≡ p) (moved_position n) e.positions a)),
  )

  place_from : (l : List ℕ) (p : Position) (e : Entry) → HasPlace l p (move_within e) → HasPlace l p (move e)
  place_from l p e (is, a) = (
    is,
    any_map_to (λ q. capped q ≡ p) (moved_position n) e.positions
        (any_weaker (λ q. capped (moved_within n q) ≡ p) (λ q. capped (moved_position n q) ≡ p)
        (λ q k. sym (capped_twice (moved_position n q)) ∙ k) e.positions
        (any_map_from (λ q. capped q ≡ p) (moved_within n) e.positions a)),
  )

  -- an element with the property on the left, or a moved one
  on : (P Q : Entry → Type 0) (v w : Vector) (f g : Entry → Entry) → ((e : Entry) → P e → Q e)
      → ((e : Entry) → P (f e) → Q (g e)) → Any P (v ++ map f w) → Any Q (v ++ map g w)
  on P Q v w f g left right h = elim (any_cases P v (map f w) h) [
    | inl a ↦ any_left Q v (map g w) (any_weaker P Q left v a)
    | inr b ↦ any_right Q v (map g w)
        (any_map_to Q g w (any_weaker (λ e. P (f e)) (λ e. Q (g e)) right w (any_map_from P f w b)))
  ]

  pub moved_same : (v w : Vector) → HaveSame (v ++ shifted n w) (v ++ shifted_within n w)
  moved_same v w = record {
    names_to = λ l. on (λ e. e.lexeme ≡ l) (λ e. e.lexeme ≡ l) v w move move_within (λ e h. h) (λ e h. h);
    names_from = λ l. on (λ e. e.lexeme ≡ l) (λ e. e.lexeme ≡ l) v w move_within move (λ e h. h) (λ e h. h);
    places_to = λ l p. on (HasPlace l p) (HasPlace l p) v w move move_within (λ e h. h) (place_to l p);
    places_from = λ l p. on (HasPlace l p) (HasPlace l p) v w move_within move (λ e h. h) (place_from l p);
  }

  move_position : (p : Position) → IsPosition p → IsPosition (moved_within n p)
  move_position p h = (omega arith, omega arith)

  move_written : (e : Entry) → IsEntry e → IsWritten (move_within e)
  move_written e h = record {
    lexeme = h.lexeme;
    positions = All-map IsPosition (moved_within n) e.positions
        (All-weaker IsPosition (λ p. IsPosition (moved_within n p)) move_position e.positions h.positions);
  }

  pub moved_written : (w : Vector) → IsNormal w → All IsWritten (shifted_within n w)
  moved_written w h =
      All-map IsWritten move_within w (All-weaker IsEntry (λ e. IsWritten (move_within e)) move_written w h.entries)

  pub moved_size : (w : Vector) → content_size (shifted_within n w) ≡ content_size w
  moved_size [] = refl
  moved_size (e ∷ w) = omega (
    arith,
    moved_size w,
    size-cons e w,
    size-cons (move_within e) (shifted_within n w),
    length-map e.positions (moved_within n),
  )

pub normal_written : (v : Vector) → IsNormal v → All IsWritten v
normal_written v n =
    All-weaker IsEntry IsWritten (λ e h. record { lexeme = h.lexeme; positions = h.positions }) v n.entries

unmoved_positions : (ps : List Position) → All IsPosition ps → map (moved_within 0) ps ≡ ps
unmoved_positions [] h = refl
unmoved_positions (p ∷ ps) h =
    let k = All-head IsPosition p ps h in
    let e : min (p.at + 0) 16383 ≡ p.at = omega arith in
    let t = unmoved_positions ps (All-tail IsPosition p ps h) in
    λ i. record { at = e i; weight = p.weight } ∷ t i

-- moved by nothing
pub unmoved : (v : Vector) → All IsEntry v → shifted_within 0 v ≡ v
unmoved [] h = refl
unmoved (e ∷ v) h =
    let p = unmoved_positions e.positions (All-head IsEntry e v h).positions in
    let t = unmoved v (All-tail IsEntry e v h) in
    λ i. record { lexeme = e.lexeme; positions = p i } ∷ t i

-- ── joins ──
module _ (v w : Vector) (n : ℕ) (greatest : IsGreatest v n) (made : Vector)
    (form : IsNormalFormOf (v ++ shifted_within n w) made) where
  pub join_form : IsNormalFormOf (v ++ shifted n w) made
  join_form = form_same (v ++ shifted n w) (v ++ shifted_within n w) (moved_same n v w) made form

  pub is_join : (u : Vector) → u ≡ made → content_size u < 1048576 → IsJoinOf v w u
  is_join u e small = (n, greatest, subst (IsNormalFormOf (v ++ shifted n w)) (sym e) join_form, small)

  pub over_join : content_size made < 2 ^ 64 → (e : VectorError) → IsOver made e → JoinFails v w e
  over_join small (Syntax n) o = o
  over_join small (LexemeTooLong n) o = o
  over_join small (VectorTooLarge b) o = record {
    greatest = n;
    vector = made;
    is_greatest = greatest;
    form = join_form;
    size = let s = o.0 in omega arith;
    large = let s = o.0 in let l = o.1 in omega arith;
  }
  over_join small (BadBytes n) o = o
  over_join small OutOfMemory o = tt
