-- Placed lexemes have one list of groups.
use Rattle.std.proofs.Common.{◌≡◌, ◌≢◌, ℕ, suc, ◌<◌, ◌≤◌, List, [], ◌∷◌, ◌++◌, refl, sym, subst, ap, ◌∙◌, All, AllPairs}
use Rattle.std.proofs.Common.{Bool, true, false, inl, inr, slice_index_or, arith}
use Rattle.std.specs.Prelude.{◌==◌}
use Rattle.std.specs.List.{flat_map}
use Rattle.std.proofs.lemmas.Bool.Decides.{eqb_tells}
use Rattle.std.proofs.lemmas.List.Elements.{All-nil, All-head, All-tail, All-cons}
use Rattle.std.proofs.lemmas.List.Kept.{AllPairs-cons}
use Rattle.ts_config.specs.declared.placed.Placed.{Placed}
use Rattle.ts_make.specs.Groups.{Group, members, IsTogether, AreGroups}
use Rattle.ts_make.specs.Laws.{GroupsAreOne}

abbrev pub group : Placed → List Placed → Group
group p ps = record { position = p.position; first = p; others = ps }

-- a lexeme in front of groups: into the first of them, where that has its position
abbrev pub onto_if : Bool → Placed → Group → List Group → List Group
onto_if true p g gs = group p (members g) ∷ gs
onto_if false p g gs = group p [] ∷ g ∷ gs

abbrev pub onto : Placed → List Group → List Group
onto p [] = group p [] ∷ []
onto p (g ∷ gs) = onto_if (p.position == g.position) p g gs

abbrev pub grouped : List Placed → List Group
grouped [] = []
grouped (p ∷ ps) = onto p (grouped ps)

abbrev pub IsUnder : Group → Group → Type 0
IsUnder g h = g.position < h.position

pub equal_test : (a b : ℕ) → a ≡ b → (a == b) ≡ true
equal_test a b e = elim (eqb_tells a b) [ inl h ↦ h.0 | inr h ↦ absurd (h.1 e) ]

pub other_test : (a b : ℕ) → a ≢ b → (a == b) ≡ false
other_test a b e = elim (eqb_tells a b) [ inl h ↦ absurd (e h.1) | inr h ↦ h.0 ]

pub pairs_tail : {X : Type 0} (R : X → X → Type 0) (x : X) (xs : List X) → AllPairs R (x ∷ xs)
    → AllPairs R xs
pairs_tail R x xs r i j d h k = r (suc i) (suc j) d (omega arith) (omega arith)

pub pairs_head : {X : Type 0} (R : X → X → Type 0) (x : X) (xs : List X) → AllPairs R (x ∷ xs)
    → All (R x) xs
pairs_head R x xs r k d h = r 0 (suc k) d (omega arith) (omega arith)

-- ── groups of a list are those that are found ──
-- the first group, if any, is at another position
abbrev OtherFirst : ℕ → List Group → Type 0
OtherFirst n [] = Unit {0}
OtherFirst n (g ∷ gs) = n ≢ g.position

abbrev group_at : ℕ → Placed → List Placed → Group
group_at n p ps = record { position = n; first = p; others = ps }

onto_other : (n : ℕ) (p : Placed) (gs : List Group) → p.position ≡ n → OtherFirst n gs
    → onto p gs ≡ group_at n p [] ∷ gs
onto_other n p [] e h = ap (λ m. group_at m p [] ∷ []) e
onto_other n p (g ∷ gs) e h =
    ap (λ b. onto_if b p g gs) (other_test p.position g.position (λ f. h (sym e ∙ f)))
    ∙ ap (λ m. group_at m p [] ∷ g ∷ gs) e

onto_same : (n : ℕ) (p q : Placed) (ps : List Placed) (gs : List Group) → p.position ≡ n
    → onto p (group_at n q ps ∷ gs) ≡ group_at n p (q ∷ ps) ∷ gs
onto_same n p q ps gs e =
    ap (λ b. onto_if b p (group_at n q ps) gs) (equal_test p.position n e)
    ∙ ap (λ m. group_at m p (q ∷ ps) ∷ gs) e

first_group : (n : ℕ) (p : Placed) (ps rest : List Placed) (gs : List Group) → p.position ≡ n
    → All (λ q. q.position ≡ n) ps → grouped rest ≡ gs → OtherFirst n gs
    → grouped (p ∷ (ps ++ rest)) ≡ group_at n p ps ∷ gs
first_group n p [] rest gs e t f h = ap (λ l. onto p l) f ∙ onto_other n p gs e h
first_group n p (q ∷ qs) rest gs e t f h =
    ap (λ l. onto p l) (first_group n q qs rest gs (All-head (λ x. x.position ≡ n) q qs t)
    (All-tail (λ x. x.position ≡ n) q qs t) f h)
    ∙ onto_same n p q qs gs e

other_first : (g : Group) (gs : List Group) → All (IsUnder g) gs → OtherFirst g.position gs
other_first g [] r = tt
other_first g (h ∷ hs) r = λ e. let k : g.position < h.position = All-head (IsUnder g) h hs r in
    let no : ⊥ = omega arith in no

found_back : (gs : List Group) → All IsTogether gs → AllPairs (λ g h. g.position < h.position) gs
    → grouped (flat_map members gs) ≡ gs
found_back [] t r = refl
found_back (g ∷ gs) t r =
    let m = All-head IsTogether g gs t in
    first_group g.position g.first g.others (flat_map members gs) gs
    (All-head (λ x. x.position ≡ g.position) g.first g.others m)
    (All-tail (λ x. x.position ≡ g.position) g.first g.others m)
    (found_back gs (All-tail IsTogether g gs t) (pairs_tail IsUnder g gs r))
    (other_first g gs (pairs_head IsUnder g gs r))

-- ── what is found are groups ──
onto_members : (p : Placed) (gs : List Group)
    → flat_map members (onto p gs) ≡ p ∷ flat_map members gs
onto_members p [] = refl
onto_members p (g ∷ gs) =
    elim (p.position == g.position)
    as (λ b. flat_map members (onto_if b p g gs) ≡ p ∷ flat_map members (g ∷ gs)) [
      | true ↦ refl
      | false ↦ refl
    ]

found_members : (ps : List Placed) → flat_map members (grouped ps) ≡ ps
found_members [] = refl
found_members (p ∷ ps) = onto_members p (grouped ps) ∙ ap (λ l. p ∷ l) (found_members ps)

alone_together : (p : Placed) → IsTogether (group p [])
alone_together p =
    All-cons (λ x. x.position ≡ p.position) p [] refl (All-nil (λ x. x.position ≡ p.position))

joined_together : (p : Placed) (g : Group) → p.position ≡ g.position → IsTogether g
    → IsTogether (group p (members g))
joined_together p g e t =
    All-cons (λ x. x.position ≡ p.position) p (members g) refl
    (subst (λ n. All (λ x. x.position ≡ n) (members g)) (sym e) t)

-- what is kept of the groups after a lexeme
record Found (n : ℕ) (gs : List Group) : Type 0 where
  together : All IsTogether gs
  rising : AllPairs (λ g h. g.position < h.position) gs
  above : All (λ g. n ≤ g.position) gs

join_first : (p : Placed) (g : Group) (gs : List Group) → p.position ≡ g.position
    → Found p.position (g ∷ gs) → Found p.position (onto_if true p g gs)
join_first p g gs e f =
    let under : All (IsUnder g) gs = pairs_head IsUnder g gs f.rising in
    record {
      together =
          All-cons IsTogether (group p (members g)) gs
          (joined_together p g e (All-head IsTogether g gs f.together))
          (All-tail IsTogether g gs f.together);
      rising =
          AllPairs-cons IsUnder (group p (members g)) gs
          (λ k d h. subst (λ n. n < (slice_index_or gs k d).position) (sym e) (under k d h))
          (pairs_tail IsUnder g gs f.rising);
      above =
          All-cons (λ x. p.position ≤ x.position) (group p (members g)) gs (omega arith)
          (All-tail (λ x. p.position ≤ x.position) g gs f.above);
    }

begin_first : (p : Placed) (g : Group) (gs : List Group) → p.position ≢ g.position
    → Found p.position (g ∷ gs) → Found p.position (onto_if false p g gs)
begin_first p g gs e f =
    let under : All (IsUnder g) gs = pairs_head IsUnder g gs f.rising in
    let low : p.position ≤ g.position = All-head (λ x. p.position ≤ x.position) g gs f.above in
    let first : p.position < g.position = omega arith in
    record {
      together = All-cons IsTogether (group p []) (g ∷ gs) (alone_together p) f.together;
      rising =
          AllPairs-cons IsUnder (group p []) (g ∷ gs)
          (All-cons (IsUnder (group p [])) g gs first (λ k d h. let m = under k d h in omega arith))
          f.rising;
      above = All-cons (λ x. p.position ≤ x.position) (group p []) (g ∷ gs) (omega arith) f.above;
    }

onto_found : (p : Placed) (gs : List Group) → Found p.position gs → Found p.position (onto p gs)
onto_found p [] f = record {
  together = All-cons IsTogether (group p []) [] (alone_together p) (All-nil IsTogether);
  rising = λ i j d h k. absurd (let no : ⊥ = omega arith in no);
  above =
      All-cons (λ x. p.position ≤ x.position) (group p []) [] (omega arith)
      (All-nil (λ x. p.position ≤ x.position));
}
onto_found p (g ∷ gs) f = elim (eqb_tells p.position g.position) [
  | inl h ↦ subst (λ b. Found p.position (onto_if b p g gs)) (sym h.0) (join_first p g gs h.1 f)
  | inr h ↦ subst (λ b. Found p.position (onto_if b p g gs)) (sym h.0) (begin_first p g gs h.1 f)
]

abbrev IsNotAbove : Placed → Placed → Type 0
IsNotAbove p q = p.position ≤ q.position

found : (ps : List Placed) → AllPairs (λ p q. p.position ≤ q.position) ps → (n : ℕ)
    → All (λ q. n ≤ q.position) ps → Found n (grouped ps)
found [] r n a =
    record {
      together = All-nil IsTogether;
      rising = λ i j d h k. absurd (let no : ⊥ = omega arith in no);
      above =
          All-nil (λ g. n ≤ g.position);
    }
found (p ∷ ps) r n a =
    let f =
    onto_found p (grouped ps)
    (found ps (pairs_tail IsNotAbove p ps r) p.position (pairs_head IsNotAbove p ps r)) in
    let low : n ≤ p.position = All-head (λ q. n ≤ q.position) p ps a in
    record {
      together = f.together;
      rising = f.rising;
      above = λ k d h. let m = f.above k d h in omega arith;
    }

pub same_groups : (placed : List Placed) (gs hs : List Group) → AreGroups placed gs
    → AreGroups placed hs → gs ≡ hs
same_groups placed gs hs a b =
    sym (found_back gs a.together a.rising) ∙ ap grouped (sym a.whole ∙ b.whole)
    ∙ found_back hs b.together b.rising

pub groups_are_one : GroupsAreOne
groups_are_one placed r =
    let f = found placed r 0 (λ k d h. omega arith) in
    record {
      groups = grouped placed;
      are = record { whole = sym (found_members placed); together = f.together; rising = f.rising };
      only = λ gs a. sym (found_back gs a.together a.rising) ∙ ap grouped (sym a.whole);
    }
