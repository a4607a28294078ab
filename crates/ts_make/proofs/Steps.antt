-- What one more node does to a maker.
use Rattle.std.proofs.Common.{◌≡◌, ◌≢◌, ℕ, ◌+◌, ◌<◌, List, [], ◌∷◌, ◌++◌, length, refl, sym, subst, ap, ◌∙◌, Bool, true}
use Rattle.std.proofs.Common.{false, true≢false, inl, inr, Some, None, Result, Ok, Err, arith}
use Rattle.std.specs.Prelude.{OnOk, IfErr, ◌==◌}
use Rattle.std.proofs.lemmas.Bool.Decides.{eqb_tells}
use Rattle.ts_base.specs.declared.Weights.{Weights}
use Rattle.ts_config.specs.declared.placed.Placed.{Placed}
use Rattle.ts_config.specs.Mappings.{Mapping}
use Rattle.ts_config.specs.Known.{Known}
use Rattle.ts_config.specs.Placing.{ArePlaced}
use Rattle.ts_config.proofs.Placing.{positions_rise}
use Rattle.ts_query.specs.declared.TheConstants.{NODE_LIMIT}
use Rattle.ts_query.specs.declared.error.QueryError.{QueryError}
use Rattle.ts_query.specs.declared.error.QueryError.TheVariants.{Syntax, DistanceTooLarge, TooManyNodes, LexemeTooLong}
use Rattle.ts_query.specs.declared.error.QueryError.TheVariants.{OutOfMemory}
use Rattle.ts_query.specs.Queries.{Tree, HasNear}
use Rattle.ts_query.specs.Building.{nodes_among}
use Rattle.ts_make.specs.Groups.{Group, AreGroups}
use Rattle.ts_make.specs.Trees.{group_tree, phrase_on, phrase_of}
use Rattle.ts_make.specs.Limits.{IsOnlyPast}
use Rattle.ts_make.specs.Made.{HasGroups, sketched}
use Rattle.ts_make.specs.Removal.{Sketch, stop, sketch_of}
use Rattle.ts_make.specs.Inner.Writing.{joined_from}
use Rattle.ts_make.specs.Making.{nodes_sketched, IsKept, IsMaking, OperandFails}
use Rattle.ts_make.specs.Inner.Making.{part}
use Rattle.ts_make.specs.declared.joining.Way.TheVariants.{Phrase}
use Rattle.ts_make.specs.declared.maker.Part.{Part}
use Rattle.ts_make.specs.declared.maker.QueryMaker.{QueryMaker}
use Rattle.ts_make.proofs.Grouping.{groups_are_one}
use Rattle.ts_make.proofs.Trees.{groups_are_near}
use Rattle.ts_make.proofs.Writing.{past_more, written_groups}
use Rattle.ts_make.proofs.Making.{whole_kept}

-- a maker with these parts, trees and number
pub making : (m : QueryMaker) (ps : List Part) (ts : List Tree) (n : ℕ) (ds : List Sketch)
    → m.parts.items ≡ ps → m.builder ≡ ts → m.removed ≡ n → IsKept ps ts n ds
    → n + nodes_among ts < NODE_LIMIT → IsMaking m ds
making m ps ts n ds a b c k f = record {
  kept = record {
    has_parts = a ∙ k.has_parts;
    has_trees = b ∙ k.has_trees;
    count = ap (λ x. x + nodes_among m.builder) c ∙ ap (λ l. n + nodes_among l) b ∙ k.count;
  };
  few = subst (λ x. x < NODE_LIMIT) k.count f;
}

-- it has removed few nodes
pub removed_few : (m : QueryMaker) (ds : List Sketch) → IsMaking m ds → m.removed < NODE_LIMIT
removed_few m ds h = let k = h.kept.count in let f = h.few in omega arith

-- ── groups ──
module _ (weights : Weights) (prefix : Bool) where
  -- a group or more is one tree
  one_tree : (placed : List Placed) (gs : List Group) (ts : List Tree) → AreGroups placed gs
      → gs ≢ []
      → (t : Tree) × (phrase_of weights prefix gs ≡ Some t) × HasNear t
      × (joined_from Phrase weights prefix None placed ts ≡ t ∷ ts)
  one_tree placed [] ts a n = absurd (n refl)
  one_tree placed (g ∷ gs) ts a n = (
    phrase_on weights prefix g.position (group_tree weights prefix g) gs,
    refl,
    (groups_are_near weights prefix (g ∷ gs)).phrase,
    written_groups Phrase weights prefix placed (g ∷ gs) ts a,
  )

  pub write_value : {T : Type 0} (r : Result T QueryError) (a b : QueryMaker) (placed : List Placed)
      (trees : List Tree) → trees ≡ joined_from Phrase weights prefix None placed a.builder
      → OnOk r (b.parts.items ≡ a.parts.items ++ part true 0 0 ∷ []) → b.builder ≡ trees
      → b.removed ≡ a.removed → OnOk r (a.removed + nodes_among trees < NODE_LIMIT)
      → OnOk r ((groups : List Group) (ds : List Sketch) → AreGroups placed groups → groups ≢ []
      → IsMaking a ds → IsMaking b (sketched (phrase_of weights prefix groups) ∷ ds))
  write_value (Ok x) a b placed trees w p t m f = λ groups ds are some h.
      let o = one_tree placed groups a.builder are some in
      let e : trees ≡ o.0 ∷ a.builder = w ∙ o.3 in
      subst (λ q. IsMaking b (sketched q ∷ ds)) (sym o.1)
      (making b (a.parts.items ++ part true 0 0 ∷ []) (o.0 ∷ a.builder) a.removed
      (sketch_of o.0 ∷ ds) p (t ∙ e) m
      (whole_kept a.parts.items a.builder a.removed ds o.0 o.2 h.kept)
      (subst (λ l. a.removed + nodes_among l < NODE_LIMIT) e f))
  write_value (Err e) a b placed trees w p t m f = tt

  -- with it there are these nodes
  written_nodes : (a : QueryMaker) (placed : List Placed) (groups : List Group) (ds : List Sketch)
      → AreGroups placed groups → groups ≢ [] → IsMaking a ds
      → a.removed + nodes_among (joined_from Phrase weights prefix None placed a.builder)
      ≡ nodes_sketched (sketched (phrase_of weights prefix groups) ∷ ds)
  written_nodes a placed groups ds are some h =
      let o = one_tree placed groups a.builder are some in
      ap (λ l. a.removed + nodes_among l) o.3
      ∙ (whole_kept a.parts.items a.builder a.removed ds o.0 o.2 h.kept).count
      ∙ ap (λ q. nodes_sketched (sketched q ∷ ds)) (sym o.1)

  pub write_refused : (e : QueryError) (a : QueryMaker) (placed : List Placed)
      → IsOnlyPast (nodes_among (joined_from Phrase weights prefix None placed a.builder)) e
      → (groups : List Group) (ds : List Sketch) → AreGroups placed groups → groups ≢ []
      → IsMaking a ds → IsOnlyPast
      (nodes_sketched (sketched (phrase_of weights prefix groups) ∷ ds)) e
  write_refused e a placed h groups ds are some m =
      let n = written_nodes a placed groups ds are some m in
      past_more (nodes_among (joined_from Phrase weights prefix None placed a.builder))
      (nodes_sketched (sketched (phrase_of weights prefix groups) ∷ ds)) e (omega arith) h

  pub write_fails : {T : Type 0} (r : Result T QueryError) (a : QueryMaker) (placed : List Placed)
      (trees : List Tree) → trees ≡ joined_from Phrase weights prefix None placed a.builder
      → IfErr r (IsOnlyPast (a.removed + nodes_among trees))
      → IfErr r (λ e. (groups : List Group) (ds : List Sketch) → AreGroups placed groups
      → groups ≢ [] → IsMaking a ds
      → IsOnlyPast (nodes_sketched (sketched (phrase_of weights prefix groups) ∷ ds)) e)
  write_fails (Ok x) a placed trees w h = tt
  write_fails (Err e) a placed trees w h = λ groups ds are some m.
      subst (λ n. IsOnlyPast n e)
      (ap (λ l. a.removed + nodes_among l) w ∙ written_nodes a placed groups ds are some m) h

-- ── an operand ──
no_groups : (gs : List Group) → AreGroups [] gs → gs ≡ []
no_groups [] a = refl
no_groups (g ∷ gs) a = absurd (let e = a.whole in let no : ⊥ = cc in no)

some_groups : (placed : List Placed) (gs : List Group) → placed ≢ [] → AreGroups placed gs → gs ≢ []
some_groups placed [] n a = λ e. n a.whole
some_groups placed (g ∷ gs) n a = λ e. let no : ⊥ = cc in no

-- a list's length says whether anything is placed
pub none_placed : (l : List Placed) (n : ℕ) (b : Bool) → n ≡ length l → b ≡ (n == 0) → b ≡ true
    → l ≡ []
none_placed [] n b m e h = refl
none_placed (p ∷ ps) n b m e h = elim (eqb_tells n 0) [
  | inl k ↦ absurd (let o = k.1 in let no : ⊥ = omega arith in no)
  | inr k ↦ absurd (true≢false (sym h ∙ e ∙ k.0))
]

pub some_placed : (l : List Placed) (n : ℕ) (b : Bool) → n ≡ length l → b ≡ (n == 0) → b ≡ false
    → l ≢ []
some_placed l n b m e h = λ i. true≢false (sym (ap (λ k. k == 0) (m ∙ ap length i)) ∙ sym e ∙ h)

module _ (known : Known) (mapping : Mapping) (text : List ℕ) where
  pub grouped_of : (placed : List Placed) → ArePlaced known mapping text placed
      → (gs : List Group) × HasGroups known mapping text gs × AreGroups placed gs
  grouped_of placed a =
      let g = groups_are_one placed (positions_rise known mapping text placed a).1 in
      (g.groups, record { placed = placed; are_placed = a; grouped = g.are }, g.are)

  module _ (weights : Weights) (prefix : Bool) where
    pub stopped_value : {T : Type 0} (r : Result T QueryError) (a b : QueryMaker)
        (placed : List Placed) → ArePlaced known mapping text placed → placed ≡ []
        → OnOk r ((ds : List Sketch) → IsMaking a ds → IsMaking b (stop ∷ ds))
        → OnOk r ((groups : List Group) × HasGroups known mapping text groups
        × ((ds : List Sketch) → IsMaking a ds
        → IsMaking b (sketched (phrase_of weights prefix groups) ∷ ds)))
    stopped_value (Ok x) a b placed p n h =
        let g = grouped_of placed p in
        let e = no_groups g.0 (subst (λ l. AreGroups l g.0) n g.2) in (
          g.0,
          g.1,
          λ ds m. subst (λ l. IsMaking b (sketched (phrase_of weights prefix l) ∷ ds))
              (sym e) (h ds m),
        )
    stopped_value (Err e) a b placed p n h = tt

    pub written_value : {T : Type 0} (r : Result T QueryError) (a b : QueryMaker)
        (placed : List Placed) → ArePlaced known mapping text placed → placed ≢ []
        → OnOk r ((groups : List Group) (ds : List Sketch) → AreGroups placed groups → groups ≢ []
        → IsMaking a ds → IsMaking b (sketched (phrase_of weights prefix groups) ∷ ds))
        → OnOk r ((groups : List Group) × HasGroups known mapping text groups
        × ((ds : List Sketch) → IsMaking a ds
        → IsMaking b (sketched (phrase_of weights prefix groups) ∷ ds)))
    written_value (Ok x) a b placed p n h =
        let g = grouped_of placed p in
        (g.0, g.1, λ ds m. h g.0 ds g.2 (some_groups placed g.0 n g.2) m)
    written_value (Err e) a b placed p n h = tt

    fails_of : (a : QueryMaker) (groups : List Group) (ds : List Sketch) (e : QueryError)
        → HasGroups known mapping text groups → IsMaking a ds
        → ((es : List Sketch) → IsMaking a es
        → IsOnlyPast (nodes_sketched (sketched (phrase_of weights prefix groups) ∷ es)) e)
        → OperandFails known mapping text weights prefix a e
    fails_of a groups ds TooManyNodes h m f = (groups, h, f)
    fails_of a groups ds OutOfMemory h m f = tt
    fails_of a groups ds (Syntax at) h m f = f ds m
    fails_of a groups ds (DistanceTooLarge at) h m f = f ds m
    fails_of a groups ds (LexemeTooLong at) h m f = f ds m

    pub stopped_fails : {T : Type 0} (r : Result T QueryError) (a : QueryMaker) (ds : List Sketch)
        (placed : List Placed) → ArePlaced known mapping text placed → placed ≡ [] → IsMaking a ds
        → IfErr r (λ e. (es : List Sketch) → IsMaking a es
        → IsOnlyPast (nodes_sketched (stop ∷ es)) e)
        → IfErr r (OperandFails known mapping text weights prefix a)
    stopped_fails (Ok x) a ds placed p n m h = tt
    stopped_fails (Err e) a ds placed p n m h =
        let g = grouped_of placed p in
        let i = no_groups g.0 (subst (λ l. AreGroups l g.0) n g.2) in
        fails_of a g.0 ds e g.1 m
        (λ es k. subst (λ l. IsOnlyPast
        (nodes_sketched (sketched (phrase_of weights prefix l) ∷ es)) e) (sym i) (h es k))

    pub written_fails : {T : Type 0} (r : Result T QueryError) (a : QueryMaker) (ds : List Sketch)
        (placed : List Placed) → ArePlaced known mapping text placed → placed ≢ [] → IsMaking a ds
        → IfErr r (λ e. (groups : List Group) (es : List Sketch) → AreGroups placed groups
        → groups ≢ [] → IsMaking a es
        → IsOnlyPast (nodes_sketched (sketched (phrase_of weights prefix groups) ∷ es)) e)
        → IfErr r (OperandFails known mapping text weights prefix a)
    written_fails (Ok x) a ds placed p n m h = tt
    written_fails (Err e) a ds placed p n m h =
        let g = grouped_of placed p in
        fails_of a g.0 ds e g.1 m (λ es k. h g.0 es g.2 (some_groups placed g.0 n g.2) k)
