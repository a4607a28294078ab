-- Where a phrase holds, it holds at a place that is tried.
use Rattle.std.proofs.Common.{◌≡◌, ℕ, ◌+◌, ◌-◌, ◌≤◌, ◌<◌, Bool, true, false, eqb, List, [], ◌∷◌, ◌++◌, length, Some}
use Rattle.std.proofs.Common.{◌⊎◌, inl, inr, refl, sym, ap, subst, ◌∙◌, arith, zero-add}
use Rattle.std.specs.Prelude.{ℤ, pos, ◌+ℤ◌, ◌-ℤ◌, IsTrue, Contains, All, slice_get}
use Rattle.std.specs.List.{list_any}
use Rattle.std.proofs.lemmas.Int.{ints}
use Rattle.std.proofs.lemmas.Bool.{ne_eqb}
use Rattle.std.proofs.lemmas.List.Elements.{Contains-append_left, Contains-append_right, Contains-append_cases}
use Rattle.std.proofs.lemmas.List.Elements.{All-contains, All-weaker, All-head, All-tail}
use Rattle.ts_base.specs.Vectors.{Position, Vector, IsPosition, IsEntry, IsNormal}
use Rattle.ts_query.specs.declared.query.Node.{Node}
use Rattle.ts_query.specs.declared.query.Node.TheVariants.{Leaf, Not, And, Or, Phrase}
use Rattle.ts_query.specs.declared.query.Operand.{Operand}
use Rattle.ts_query.specs.Postfix.{joint_node}
use Rattle.ts_query.specs.Queries.{Joint, Tree, leaf, negated, joined, or_joint, and_joint, phrase_joint, nodes_in}
use Rattle.ts_match.specs.declared.ranges.TheConstants.{FARTHEST}
use Rattle.ts_match.specs.declared.work.Place.{Place}
use Rattle.ts_match.specs.declared.work.Place.TheVariants.{Outside, Within}
use Rattle.ts_match.specs.declared.work.Step.{Step}
use Rattle.ts_match.specs.Meaning.{width, at, places, HoldsSomewhere}
use Rattle.ts_match.specs.Inner.Ranges.{stands_at}
use Rattle.ts_match.specs.Candidates.{offsets, needed, HasNoZero}
use Rattle.ts_match.specs.Plan.{count_in, steps}
use Rattle.ts_match.specs.Inner.Phrases.{HasNumbers, IsPhraseOf, IsStep, HoldsWith, IsNeeded, place_from}
use Rattle.ts_match.specs.Laws.Elements.{Contains-here, Contains-one}
use Rattle.ts_match.proofs.Places.{there, at_start, agree}
use Rattle.ts_match.proofs.Candidates.{Hit, AllFalse, hits, natural, places_above, needed_true}
use Rattle.ts_match.proofs.Tables.{table_at}

abbrev pub leaf_step : ℕ → ℕ → Bool → Step
leaf_step n d b = record { node = Leaf n; place = Within d b }

-- the operand of a leaf that is needed
record NeededLeaf (os : List Operand) (t : Tree) (e n d : ℕ) : Type 0 where
  operand : Operand
  is_operand : slice_get os n ≡ Some operand
  among : Contains {X = Operand × ℕ} (needed t e) (operand, d)

pub number_is : (n d k e : ℕ) (b c : Bool) → leaf_step n d b ≡ leaf_step k e c → n ≡ k
number_is n d k e b c h = let f : Leaf n ≡ Leaf k = ap (λ (s : Step). s.node) h in cc

offset_is : (n d k e : ℕ) (b c : Bool) → leaf_step n d b ≡ leaf_step k e c → d ≡ e
offset_is n d k e b c h = let f : Within d b ≡ Within e c = ap (λ (s : Step). s.place) h in cc

flag_is : (n d k e : ℕ) (b c : Bool) → leaf_step n d b ≡ leaf_step k e c → b ≡ c
flag_is n d k e b c h = let f : Within d b ≡ Within e c = ap (λ (s : Step). s.place) h in cc

leaf_is : (n : ℕ) (m : Node) (p d : Place)
    → Contains {X = Step} (record { node = m; place = p } ∷ []) (record { node = Leaf n; place = d }) → Leaf n ≡ m
leaf_is n m p d c =
    ap (λ (x : Step). x.node) (Contains-one (record { node = m; place = p }) (record { node = Leaf n; place = d }) c)

not_no_leaf : (n : ℕ) → Leaf n ≡ Not → ⊥
not_no_leaf n e = cc

joint_no_leaf : (n : ℕ) (j : Joint) → Leaf n ≡ joint_node j → ⊥
joint_no_leaf n or_joint e = cc
joint_no_leaf n and_joint e = cc
joint_no_leaf n (phrase_joint m) e = cc

needed_within : (os : List Operand) (k i e : ℕ) (b : Bool) (t : Tree) → HasNumbers os k t → (n d : ℕ)
    → Contains (steps k i (Within e b) t) (leaf_step n d true) → NeededLeaf os t e n d × (b ≡ true)
needed_within os k i e b (leaf o) h n d c =
    let q = Contains-one (leaf_step k e b) (leaf_step n d true) c in
    let f : d ≡ e = offset_is n d k e true b q in (
      record {
        operand = o;
        is_operand = ap (slice_get os) (number_is n d k e true b q) ∙ h;
        among = subst (λ x. Contains {X = Operand × ℕ} ((o, e) ∷ []) (o, x)) (sym f) (Contains-here (o, e) []);
      },
      sym (flag_is n d k e true b q),
    )
needed_within os k i e b (negated x) h n d c = elim (Contains-append_cases (steps k i (Within e false) x) (record {
  node = Not;
  place = Within e b;
} ∷ []) (leaf_step n d true) c) [
  | inl a ↦ let r = needed_within os k i e false x h n d a in absurd (let f = r.1 in let z : ⊥ = cc in z)
  | inr a ↦ absurd (not_no_leaf n (leaf_is n Not (Within e b) (Within d true) a))
]
needed_within os k i e b (joined or_joint x y) h n d c =
    let m = k + count_in x in
    elim (Contains-append_cases (steps k i (Within e false) x ++ steps m (i + nodes_in x) (Within e false) y) (record {
      node = Or;
      place = Within e b;
    } ∷ []) (leaf_step n d true) c) [
      | inl a ↦ elim (Contains-append_cases (steps k i (Within e false) x) (steps m (i + nodes_in x) (Within e false) y)
          (leaf_step n d true) a) [
            | inl u ↦ let r = needed_within os k i e false x h.0 n d u in absurd (let f = r.1 in let z : ⊥ = cc in z)
            | inr u ↦ let r = needed_within os m (i + nodes_in x) e false y h.1 n d u in
                absurd (let f = r.1 in let z : ⊥ = cc in z)
          ]
      | inr a ↦ absurd (joint_no_leaf n or_joint (leaf_is n Or (Within e b) (Within d true) a))
    ]
needed_within os k i e b (joined and_joint x y) h n d c =
    let m = k + count_in x in
    elim (Contains-append_cases (steps k i (Within e b) x ++ steps m (i + nodes_in x) (Within e b) y) (record {
      node = And;
      place = Within e b;
    } ∷ []) (leaf_step n d true) c) [
      | inl a ↦ elim (Contains-append_cases (steps k i (Within e b) x) (steps m (i + nodes_in x) (Within e b) y)
          (leaf_step n d true) a) [
            | inl u ↦ let r = needed_within os k i e b x h.0 n d u in (
              record {
                operand = r.0.operand;
                is_operand = r.0.is_operand;
                among = Contains-append_left (needed x e) (needed y e) (r.0.operand, d) r.0.among;
              },
              r.1,
            )
            | inr u ↦ let r = needed_within os m (i + nodes_in x) e b y h.1 n d u in (
              record {
                operand = r.0.operand;
                is_operand = r.0.is_operand;
                among = Contains-append_right (needed x e) (needed y e) (r.0.operand, d) r.0.among;
              },
              r.1,
            )
          ]
      | inr a ↦ absurd (joint_no_leaf n and_joint (leaf_is n And (Within e b) (Within d true) a))
    ]
needed_within os k i e b (joined (phrase_joint z) x y) h n d c =
    let m = k + count_in x in
    let f = e + (width x + z) in
    elim (Contains-append_cases (steps k i (Within e b) x ++ steps m (i + nodes_in x) (Within f b) y) (record {
      node = Phrase z;
      place = Within e b;
    } ∷ []) (leaf_step n d true) c) [
      | inl a ↦ elim (Contains-append_cases (steps k i (Within e b) x) (steps m (i + nodes_in x) (Within f b) y)
          (leaf_step n d true) a) [
            | inl u ↦ let r = needed_within os k i e b x h.0 n d u in (
              record {
                operand = r.0.operand;
                is_operand = r.0.is_operand;
                among = Contains-append_left (needed x e) (needed y f) (r.0.operand, d) r.0.among;
              },
              r.1,
            )
            | inr u ↦ let r = needed_within os m (i + nodes_in x) f b y h.1 n d u in (
              record {
                operand = r.0.operand;
                is_operand = r.0.is_operand;
                among = Contains-append_right (needed x e) (needed y f) (r.0.operand, d) r.0.among;
              },
              r.1,
            )
          ]
      | inr a ↦ absurd (joint_no_leaf n (phrase_joint z) (leaf_is n (Phrase z) (Within e b) (Within d true) a))
    ]

-- the leaf of an operand
pub record LeafOf (os : List Operand) (ss : List Step) (q : Operand × ℕ) : Type 0 where
  pub number : ℕ
  pub flag : Bool
  pub is_operand : slice_get os number ≡ Some q.0
  pub there : Contains ss (leaf_step number q.1 flag)

left_leaf : (os : List Operand) (ss more : List Step) (q : Operand × ℕ) → LeafOf os ss q → LeafOf os (ss ++ more) q
left_leaf os ss more q r = record {
  number = r.number;
  flag = r.flag;
  is_operand = r.is_operand;
  there = Contains-append_left ss more (leaf_step r.number q.1 r.flag) r.there;
}

right_leaf : (os : List Operand) (ss more : List Step) (q : Operand × ℕ) → LeafOf os more q → LeafOf os (ss ++ more) q
right_leaf os ss more q r = record {
  number = r.number;
  flag = r.flag;
  is_operand = r.is_operand;
  there = Contains-append_right ss more (leaf_step r.number q.1 r.flag) r.there;
}

leaves_within : (os : List Operand) (k i e : ℕ) (b : Bool) (t : Tree) → HasNumbers os k t → (q : Operand × ℕ)
    → Contains (offsets t e) q → LeafOf os (steps k i (Within e b) t) q
leaves_within os k i e b (leaf o) h q c =
    let f = Contains-one (o, e) q c in
    subst (λ (x : Operand × ℕ). LeafOf os (leaf_step k e b ∷ []) x) (sym f)
    (record { number = k; flag = b; is_operand = h; there = Contains-here (leaf_step k e b) [] })
leaves_within os k i e b (negated x) h q c = left_leaf os (steps k i (Within e false) x)
    (record { node = Not; place = Within e b } ∷ []) q (leaves_within os k i e false x h q c)
leaves_within os k i e b (joined or_joint x y) h q c =
    let m = k + count_in x in
    left_leaf os (steps k i (Within e false) x ++ steps m (i + nodes_in x) (Within e false) y) (record {
      node = Or;
      place = Within e b;
    } ∷ []) q (elim (Contains-append_cases (offsets x e) (offsets y e) q c) [
      | inl a ↦ left_leaf os (steps k i (Within e false) x) (steps m (i + nodes_in x) (Within e false) y) q
          (leaves_within os k i e false x h.0 q a)
      | inr a ↦ right_leaf os (steps k i (Within e false) x) (steps m (i + nodes_in x) (Within e false) y) q
          (leaves_within os m (i + nodes_in x) e false y h.1 q a)
    ])
leaves_within os k i e b (joined and_joint x y) h q c =
    let m = k + count_in x in
    left_leaf os (steps k i (Within e b) x ++ steps m (i + nodes_in x) (Within e b) y) (record {
      node = And;
      place = Within e b;
    } ∷ []) q (elim (Contains-append_cases (offsets x e) (offsets y e) q c) [
      | inl a ↦ left_leaf os (steps k i (Within e b) x) (steps m (i + nodes_in x) (Within e b) y) q
          (leaves_within os k i e b x h.0 q a)
      | inr a ↦ right_leaf os (steps k i (Within e b) x) (steps m (i + nodes_in x) (Within e b) y) q
          (leaves_within os m (i + nodes_in x) e b y h.1 q a)
    ])
leaves_within os k i e b (joined (phrase_joint z) x y) h q c =
    let m = k + count_in x in
    let f = e + (width x + z) in
    left_leaf os (steps k i (Within e b) x ++ steps m (i + nodes_in x) (Within f b) y) (record {
      node = Phrase z;
      place = Within e b;
    } ∷ []) q (elim (Contains-append_cases (offsets x e) (offsets y f) q c) [
      | inl a ↦ left_leaf os (steps k i (Within e b) x) (steps m (i + nodes_in x) (Within f b) y) q
          (leaves_within os k i e b x h.0 q a)
      | inr a ↦ right_leaf os (steps k i (Within e b) x) (steps m (i + nodes_in x) (Within f b) y) q
          (leaves_within os m (i + nodes_in x) f b y h.1 q a)
    ])

-- a whole phrase is laid out as one that begins at 0 within another, but for its last node
module _ (os : List Operand) (k i on_true on_false z : ℕ) (x y : Tree)
    (h : HasNumbers os k (joined (phrase_joint z) x y)) where
  needed_phrase : (n d : ℕ) → Contains (steps k i (Outside on_true on_false)
      (joined (phrase_joint z) x y)) (leaf_step n d true) → NeededLeaf os (joined (phrase_joint z) x y) 0 n d
  needed_phrase n d c =
      let m = k + count_in x in
      let f = width x + z in
      elim (Contains-append_cases (steps k i (Within 0 true) x ++ steps m (i + nodes_in x) (Within f true) y) (record {
        node = Phrase z;
        place = Outside on_true on_false;
      } ∷ []) (leaf_step n d true) c) [
        | inl a ↦ elim (Contains-append_cases (steps k i (Within 0 true) x) (steps m (i + nodes_in x) (Within f true) y)
            (leaf_step n d true) a) [
              | inl u ↦ let r = (needed_within os k i 0 true x h.0 n d u).0 in
                  record {
                    operand = r.operand;
                    is_operand = r.is_operand;
                    among = Contains-append_left (needed x 0) (needed y (0 + f)) (r.operand, d) r.among;
                  }
              | inr u ↦ let r = (needed_within os m (i + nodes_in x) f true y h.1 n d u).0 in
                  record {
                    operand = r.operand;
                    is_operand = r.is_operand;
                    among = Contains-append_right (needed x 0) (needed y (0 + f)) (r.operand, d)
                        (subst (λ i. Contains (needed y i) (r.operand, d)) (sym (zero-add f)) r.among);
                  }
            ]
        | inr a ↦ absurd
            (joint_no_leaf n (phrase_joint z) (leaf_is n (Phrase z) (Outside on_true on_false) (Within d true) a))
      ]

  pub leaves_phrase : (q : Operand × ℕ) → Contains (offsets (joined (phrase_joint z) x y) 0) q
      → LeafOf os (steps k i (Outside on_true on_false) (joined (phrase_joint z) x y)) q
  leaves_phrase q c =
      let m = k + count_in x in
      let f = width x + z in
      left_leaf os (steps k i (Within 0 true) x ++ steps m (i + nodes_in x) (Within f true) y) (record {
        node = Phrase z;
        place = Outside on_true on_false;
      } ∷ []) q (elim (Contains-append_cases (offsets x 0) (offsets y (0 + f)) q c) [
        | inl a ↦ left_leaf os (steps k i (Within 0 true) x) (steps m (i + nodes_in x) (Within f true) y) q
            (leaves_within os k i 0 true x h.0 q a)
        | inr a ↦ right_leaf os (steps k i (Within 0 true) x) (steps m (i + nodes_in x) (Within f true) y) q
            (leaves_within os m (i + nodes_in x) f true y h.1 q (subst (λ i. Contains (offsets y i) q) (zero-add f) a))
      ])

same_place : (i : ℤ) (w d p : ℕ) → d ≤ FARTHEST → (i -ℤ pos w) +ℤ pos d ≡ pos p
    → (pos (p + FARTHEST - d) -ℤ pos FARTHEST) +ℤ pos w ≡ i
same_place i w d p h e = omega (arith, ints, e)

pub zero_free : (v : Vector) → IsNormal v → HasNoZero v
zero_free v n = All-weaker IsEntry (λ e. All (λ (p : Position). 0 < p.at) e.positions) (λ e i. All-weaker IsPosition
    (λ (p : Position). 0 < p.at) (λ p b. (let a = b.0 in omega arith)) e.positions i.positions) v n.entries

module _ (v : Vector) (os : List Operand) (ss : List Step) (rn : IsNormal v) (rs : All (IsStep (length os)) ss) where
  no_zero : HasNoZero v
  no_zero = zero_free v rn

  near : (n d : ℕ) (b : Bool) → Contains ss (leaf_step n d b) → d ≤ FARTHEST
  near n d b c = (All-contains (IsStep (length os)) ss (leaf_step n d b) rs c).near

  -- an operand that is at its place, seen as a step
  with_leaf : (t : Tree) (i : ℤ) (n d : ℕ) (b : Bool) (o : Operand) → slice_get os n ≡ Some o
      → Contains ss (leaf_step n d b) → IsTrue (at v t i) → there v (i -ℤ pos (width t)) o d ≡ true
      → HoldsWith v os t (leaf_step n d b)
  with_leaf t i n d b o g c a h =
      let q = natural (places o v) ((i -ℤ pos (width t)) +ℤ pos d) h in record {
        number = n;
        offset = d;
        needed = b;
        operand = o;
        p = q.number;
        is_leaf = refl;
        is_operand = g;
        stands = q.among;
        holds = subst (λ j. IsTrue (at v t j)) (sym (same_place i (width t) d q.number (near n d b c) q.is)) a;
      }

  pub with_needed : (t : Tree) (s : Step) → IsPhraseOf os ss t → IsNeeded ss s → HoldsSomewhere v t → HoldsWith v os t s
  with_needed t s p k h =
      let u : Tree = joined (phrase_joint p.distance) p.left p.right in
      let laid : ss ≡ steps p.first p.start (Outside p.on_true p.on_false) u =
      p.laid ∙ ap (steps p.first p.start (Outside p.on_true p.on_false)) p.phrase in
      let numbered : HasNumbers os p.first u = subst (λ x. HasNumbers os p.first x) p.phrase p.numbered in
      let c : Contains ss (leaf_step k.number k.offset true) = subst (λ x. Contains ss x) k.is_leaf k.there in
      let n = needed_phrase os p.first p.start p.on_true p.on_false p.distance p.left p.right numbered k.number k.offset
      (subst (λ (l : List Step). Contains l (leaf_step k.number k.offset true)) laid c) in
      let a : IsTrue (at v u h.0) = subst (λ x. IsTrue (at v x h.0)) p.phrase h.1 in
      let t' =
      needed_true (there v (h.0 -ℤ pos (width u))) u 0 (sym (at_start v u h.0) ∙ a) (n.operand, k.offset) n.among in
      subst (λ x. HoldsWith v os x s) (sym p.phrase)
      (subst (λ x. HoldsWith v os u x) (sym k.is_leaf)
      (with_leaf u h.0 k.number k.offset true n.operand n.is_operand c a t'))

  none_stands : (ps : List ℕ) (d : ℕ) → d ≤ FARTHEST → All (λ n. 0 < n) ps
      → list_any (λ p. eqb (p + FARTHEST) (0 + d)) ps ≡ false
  none_stands [] d h a = refl
  none_stands (p ∷ ps) d h a =
      let q : 0 < p = All-head (λ n. 0 < n) p ps a in
      rw (ne_eqb (p + FARTHEST) (0 + d) (λ e. omega arith)) (none_stands ps d h (All-tail (λ n. 0 < n) p ps a))

  pub record WithSome (t : Tree) : Type 0 where
    pub step : Step
    pub there : Contains ss step
    pub holds : HoldsWith v os t step

  tried : (t : Tree) (i : ℤ) → IsPhraseOf os ss t → IsTrue (at v t i) → Hit (there v (i -ℤ pos (width t))) (offsets t 0)
      ⊎ AllFalse (there v (i -ℤ pos (width t))) (offsets t 0) → WithSome t ⊎ IsTrue (at v t (place_from t 0))
  tried t i p a (inl k) =
      let u : Tree = joined (phrase_joint p.distance) p.left p.right in
      let laid : ss ≡ steps p.first p.start (Outside p.on_true p.on_false) u =
      p.laid ∙ ap (steps p.first p.start (Outside p.on_true p.on_false)) p.phrase in
      let numbered : HasNumbers os p.first u = subst (λ x. HasNumbers os p.first x) p.phrase p.numbered in
      let l = leaves_phrase os p.first p.start p.on_true p.on_false p.distance p.left p.right numbered k.operand
      (subst (λ (x : Tree). Contains (offsets x 0) k.operand) p.phrase k.among) in
      let c : Contains ss (leaf_step l.number k.operand.1 l.flag) =
      subst (λ (x : List Step). Contains x (leaf_step l.number k.operand.1 l.flag)) (sym laid) l.there in
      inl (record {
        step = leaf_step l.number k.operand.1 l.flag;
        there = c;
        holds = with_leaf t i l.number k.operand.1 l.flag k.operand.0 l.is_operand c a k.hit;
      })
  tried t i p a (inr f) =
      let u : Tree = joined (phrase_joint p.distance) p.left p.right in
      let laid : ss ≡ steps p.first p.start (Outside p.on_true p.on_false) u =
      p.laid ∙ ap (steps p.first p.start (Outside p.on_true p.on_false)) p.phrase in
      let numbered : HasNumbers os p.first u = subst (λ x. HasNumbers os p.first x) p.phrase p.numbered in
      let same = agree (there v (i -ℤ pos (width t))) (λ o e. stands_at o v (0 + e)) t 0 (λ k c.
      let l = leaves_phrase os p.first p.start p.on_true p.on_false p.distance p.left p.right numbered k
      (subst (λ (x : Tree). Contains (offsets x 0) k) p.phrase c) in
      let n = near l.number k.1 l.flag
      (subst (λ (x : List Step). Contains x (leaf_step l.number k.1 l.flag)) (sym laid) l.there) in
      f k c ∙ sym (none_stands (places k.0 v) k.1 n (places_above k.0 v no_zero))) in
      inr (subst (λ b. IsTrue b) (at_start v t i ∙ same ∙ sym (table_at v 0 t)) a)

  pub with_some : (t : Tree) → IsPhraseOf os ss t → HoldsSomewhere v t → WithSome t ⊎ IsTrue (at v t (place_from t 0))
  with_some t p h = tried t h.0 p h.1 (hits (there v (h.0 -ℤ pos (width t))) (offsets t 0))
