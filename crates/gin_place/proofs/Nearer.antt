-- A step after which more are to come brings the end nearer.
use Rattle.std.proofs.Common.{◌≡◌, ◌+◌, ◌-◌, ◌<◌, ◌≤◌, ℕ, List, ◌∷◌, length, refl, sym, ap, subst, ◌∙◌, arith}
use Rattle.std.specs.Prelude.{◌*◌, ◌^◌, Bool, true, false, cond, Some, None}
use Rattle.gin_place.specs.Trees.{tree_of}
use Rattle.gin_place.specs.Stepping.{reads_left, most_reads, reads_below, steps_left}
use Rattle.gin_place.specs.Inner.Stepping.{stage_from}
use Rattle.gin_place.specs.declared.placing.Placing.{Placing}
use Rattle.gin_place.specs.declared.placing.Stage.TheVariants as stage
use Rattle.gin_place.specs.declared.sought.Sought.{Sought}
use Rattle.gin_place.specs.declared.sought.Sought.TheVariants as sought

-- the parts of the measure: items left, whether room is made, the tree, the reads of this way
parts : ℕ → ℕ → ℕ → ℕ → ℕ
parts items room below reads = items * most_reads + room + below + reads

fewer_reads : (i r b l o : ℕ) → 0 < l → l ≤ o → parts i r b (l - 1) < parts i r b o
unfolding parts
fewer_reads i r b l o some most = omega (arith, some, most)

-- a way in a posting tree comes after one in the entry tree
tree_found : (i r o : ℕ) → parts i r 0 (2 ^ 32) < parts i r most_reads o
unfolding parts
tree_found i r o = omega arith

-- some items more are under the key
items_put : (i n r b b' o : ℕ) → 0 < n → n ≤ i → b' ≤ b → parts (i - n) r b' (2 ^ 32) < parts i r b o
unfolding parts
items_put i n r b b' o some most low = omega (arith, some, most, low)

-- room is made from now on
room_made : (i b b' o : ℕ) → b' ≤ b → parts i 0 b' (2 ^ 32) < parts i most_reads b o
unfolding parts
room_made i b b' o low = omega (arith, low)

parts_same : (i r b l i' r' b' l' : ℕ) → i ≡ i' → r ≡ r' → b ≡ b' → l ≡ l' → parts i r b l ≡ parts i' r' b' l'
unfolding parts
parts_same i r b l i' r' b' l' ei er eb el = omega (arith, ei, er, eb, el)

steps_parts : (items : List ℕ) (s : Placing) → steps_left items s
    ≡ parts (length items - s.from) (cond s.making_room 0 most_reads) (reads_below s.stage) (reads_left s.left)
unfolding parts
steps_parts items s = refl

below_same : (t : Sought) (a b c d : ℕ) → reads_below (stage.At t a b) ≡ reads_below (stage.At t c d)
below_same sought.Key a b c d = refl
below_same (sought.Item root item) a b c d = refl

-- a way that begins in the same tree is no higher
below_again : (t : Sought) (a b item : ℕ) (rest : List ℕ)
    → reads_below (stage_from (tree_of t) (item ∷ rest)) ≤ reads_below (stage.At t a b)
below_again sought.Key a b item rest = omega arith
below_again (sought.Item root i) a b item rest = omega arith

module _ (items : List ℕ) (old new : Placing) where
  -- the steps that are left, where these are their parts
  lower : (i r b l i' r' b' l' : ℕ) → length items - old.from ≡ i → cond old.making_room 0 most_reads ≡ r
      → reads_below old.stage ≡ b → reads_left old.left ≡ l → length items - new.from ≡ i'
      → cond new.making_room 0 most_reads ≡ r' → reads_below new.stage ≡ b' → reads_left new.left ≡ l'
      → parts i' r' b' l' < parts i r b l → steps_left items new < steps_left items old
  lower i r b l i' r' b' l' ei er eb el ei' er' eb' el' less =
      let was : steps_left items old ≡ parts i r b l = steps_parts items old ∙ parts_same _ _ _ _ i r b l ei er eb el in
      let now : steps_left items new ≡ parts i' r' b' l' =
      steps_parts items new ∙ parts_same _ _ _ _ i' r' b' l' ei' er' eb' el' in
      subst (λ (x : ℕ). x < steps_left items old) (sym now)
      (subst (λ (x : ℕ). parts i' r' b' l' < x) (sym was) less)

  -- a page was read
  pub down_nearer : (t : Sought) (parent page child left : ℕ) → old.stage ≡ stage.At t parent page → 0 < left
      → left ≤ reads_left old.left
      → new ≡ record old { stage = stage.At t page child; left = Some (left - 1) }
      → steps_left items new < steps_left items old
  down_nearer t parent page child left at some most is =
      lower (length items - old.from) (cond old.making_room 0 most_reads) (reads_below (stage.At t parent page))
      (reads_left old.left) (length items - old.from) (cond old.making_room 0 most_reads)
      (reads_below (stage.At t parent page)) (left - 1) refl refl (ap reads_below at) refl
      (ap (λ (s : Placing). length items - s.from) is)
      (ap (λ (s : Placing). cond s.making_room 0 most_reads) is)
      (ap (λ (s : Placing). reads_below s.stage) is ∙ below_same t page child parent page)
      (ap (λ (s : Placing). reads_left s.left) is)
      (fewer_reads (length items - old.from) (cond old.making_room 0 most_reads)
      (reads_below (stage.At t parent page)) left (reads_left old.left) some most)

  module _ (t : Sought) (parent page item : ℕ) (rest : List ℕ) (at : old.stage ≡ stage.At t parent page)
      (first : new.left ≡ None) where
    -- a way begins in the key's posting tree
    pub tree_nearer : (root : ℕ) → t ≡ sought.Key → new.stage ≡ stage.At (sought.Item root item) 0 root
        → new.from ≡ old.from → new.making_room ≡ old.making_room → steps_left items new < steps_left items old
    tree_nearer root key is from making =
        lower (length items - old.from) (cond old.making_room 0 most_reads) most_reads (reads_left old.left)
        (length items - old.from) (cond old.making_room 0 most_reads) 0 (2 ^ 32) refl refl
        (ap reads_below at ∙ ap (λ (s : Sought). reads_below (stage.At s parent page)) key) refl
        (ap (λ (n : ℕ). length items - n) from) (ap (λ (b : Bool). cond b 0 most_reads) making) (ap reads_below is)
        (ap reads_left first)
        (tree_found (length items - old.from) (cond old.making_room 0 most_reads) (reads_left old.left))

    -- some items more are under the key
    pub put_nearer : (n : ℕ) → 0 < n → old.from + n ≤ length items → new.from ≡ old.from + n
        → new.stage ≡ stage_from (tree_of t) (item ∷ rest) → new.making_room ≡ old.making_room
        → steps_left items new < steps_left items old
    put_nearer n some most from is making =
        let less : length items - new.from ≡ length items - old.from - n = omega (arith, from, most) in
        lower (length items - old.from) (cond old.making_room 0 most_reads) (reads_below (stage.At t parent page))
        (reads_left old.left) (length items - old.from - n) (cond old.making_room 0 most_reads)
        (reads_below (stage_from (tree_of t) (item ∷ rest))) (2 ^ 32) refl refl (ap reads_below at) refl less
        (ap (λ (b : Bool). cond b 0 most_reads) making) (ap reads_below is) (ap reads_left first)
        (items_put (length items - old.from) n (cond old.making_room 0 most_reads)
        (reads_below (stage.At t parent page)) (reads_below (stage_from (tree_of t) (item ∷ rest)))
        (reads_left old.left) some (omega (arith, most)) (below_again t parent page item rest))

    -- room is made from now on
    pub room_nearer : old.making_room ≡ false → new.making_room ≡ true → new.from ≡ old.from
        → new.stage ≡ stage_from (tree_of t) (item ∷ rest) → steps_left items new < steps_left items old
    room_nearer was now from is =
        lower (length items - old.from) most_reads (reads_below (stage.At t parent page)) (reads_left old.left)
        (length items - old.from) 0 (reads_below (stage_from (tree_of t) (item ∷ rest))) (2 ^ 32) refl
        (ap (λ (b : Bool). cond b 0 most_reads) was) (ap reads_below at) refl (ap (λ (n : ℕ). length items - n) from)
        (ap (λ (b : Bool). cond b 0 most_reads) now) (ap reads_below is) (ap reads_left first)
        (room_made (length items - old.from) (reads_below (stage.At t parent page))
        (reads_below (stage_from (tree_of t) (item ∷ rest))) (reads_left old.left)
        (below_again t parent page item rest))
