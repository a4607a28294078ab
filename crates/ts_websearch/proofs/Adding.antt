-- What an item, and the end of a row, do to a web query that is made.
use Rattle.std.proofs.Common.{◌≡◌, ℕ, ◌≤◌, List, [], ◌∷◌, ◌++◌, refl, sym, subst, ap, ◌∙◌, Bool, true, false, ◌&&◌}
use Rattle.std.proofs.Common.{◌||◌, Some, None, arith}
use Rattle.std.specs.Prelude.{is_some}
use Rattle.ts_query.specs.declared.error.QueryError.{QueryError}
use Rattle.ts_query.specs.declared.error.QueryError.TheVariants.{Syntax, DistanceTooLarge, TooManyNodes, LexemeTooLong}
use Rattle.ts_query.specs.declared.error.QueryError.TheVariants.{OutOfMemory}
use Rattle.ts_query.specs.Queries.{or_joint, and_joint, Tree, leaf, Query}
use Rattle.ts_query.specs.Tokens.{operand, no_weights}
use Rattle.ts_config.specs.Mappings.{Mapping}
use Rattle.ts_config.specs.Known.{Known}
use Rattle.ts_make.specs.Groups.{Group}
use Rattle.ts_make.specs.Trees.{phrase_of}
use Rattle.ts_make.specs.Limits.{IsOnlyPast}
use Rattle.ts_make.specs.Removal.{Sketch, not_sketch, joint_sketch}
use Rattle.ts_make.specs.Made.{HasGroups, sketched, IsSketched, operand_sketched, not_sketched, joint_sketched}
use Rattle.ts_make.specs.Made.{IsTooManyOf}
use Rattle.ts_make.specs.Making.{with_left, nodes_sketched, IsMaking, OperandFails}
use Rattle.ts_make.specs.Inner.Making.{AreSketched}
use Rattle.ts_make.specs.declared.maker.QueryMaker.{QueryMaker}
use Rattle.ts_make.proofs.Nodes.{query_trees}
use Rattle.ts_make.proofs.Remaking.{sketches_one, Remade, remade_of}
use Rattle.ts_websearch.specs.Items.{WebItem}
use Rattle.ts_websearch.specs.Made.{text_tree, item_tree, row_query, web_query}
use Rattle.ts_websearch.specs.Inner.Stacks.{stack_trees, IsMadeOn, MakingFails, IsWebAt, AddingFails, EndingFails}
use Rattle.ts_websearch.specs.declared.web.WebMaker.{WebMaker}
use Rattle.ts_websearch.proofs.Stacks.{onto_query, row_more, with_row, web_more, added_alone, TopTwo, added_behind}
use Rattle.ts_websearch.proofs.Stacks.{row_tree, web_some, under_ended, under_row, many_by}

module _ (known : Known) (mapping : Mapping) where
  -- ── one item ──
  -- an operand of this text was made, without weights and without a mark
  abbrev pub HasText : QueryMaker → QueryMaker → List ℕ → Type 0
  HasText old new text = (groups : List Group) × HasGroups known mapping text groups
      × ((ds : List Sketch) → IsMaking old ds → IsMaking new
      (sketched (phrase_of no_weights false groups) ∷ ds))

  pub text_made : (old new : QueryMaker) (text : List ℕ) → HasText old new text
      → IsMadeOn known mapping (text_tree false text) old new
  text_made old new text h = (
    sketched (phrase_of no_weights false h.0),
    operand_sketched (operand text no_weights false) h.0 h.1,
    h.2,
  )

  pub text_negated : (old mid new : QueryMaker) (text : List ℕ) → HasText old mid text
      → ((d : Sketch) (ds : List Sketch) → IsMaking mid (d ∷ ds) → IsMaking new (not_sketch d ∷ ds))
      → IsMadeOn known mapping (text_tree true text) old new
  text_negated old mid new text h n =
      let d = sketched (phrase_of no_weights false h.0) in (
        not_sketch d,
        not_sketched (leaf (operand text no_weights false)) d
            (operand_sketched (operand text no_weights false) h.0 h.1),
        λ ds m. n d ds (h.2 ds m),
      )

  pub text_fails : (b : Bool) (old : QueryMaker) (text : List ℕ) (e : QueryError)
      → OperandFails known mapping text no_weights false old e
      → MakingFails known mapping (text_tree b text) old e
  text_fails false old text TooManyNodes h = (
    sketched (phrase_of no_weights false h.0),
    operand_sketched (operand text no_weights false) h.0 h.1,
    h.2,
  )
  text_fails true old text TooManyNodes h =
      let d = sketched (phrase_of no_weights false h.0) in (
        not_sketch d,
        not_sketched (leaf (operand text no_weights false)) d
            (operand_sketched (operand text no_weights false) h.0 h.1),
        λ ds m. let n = h.2 ds m in
            omega arith,
      )
  text_fails b old text OutOfMemory h = tt
  text_fails b old text (Syntax at) h = h
  text_fails b old text (DistanceTooLarge at) h = h
  text_fails b old text (LexemeTooLong at) h = h

  pub negation_fails : (old mid : QueryMaker) (text : List ℕ) (e : QueryError) (ds : List Sketch)
      → IsMaking old ds → HasText old mid text
      → ((d : Sketch) (es : List Sketch) → IsMaking mid (d ∷ es)
      → IsOnlyPast (nodes_sketched (not_sketch d ∷ es)) e)
      → MakingFails known mapping (text_tree true text) old e
  negation_fails old mid text TooManyNodes ds m h n =
      let d = sketched (phrase_of no_weights false h.0) in (
        not_sketch d,
        not_sketched (leaf (operand text no_weights false)) d
            (operand_sketched (operand text no_weights false) h.0 h.1),
        λ es k. n d es (h.2 es k),
      )
  negation_fails old mid text OutOfMemory ds m h n = tt
  negation_fails old mid text (Syntax at) ds m h n =
      n (sketched (phrase_of no_weights false h.0)) ds (h.2 ds m)
  negation_fails old mid text (DistanceTooLarge at) ds m h n =
      n (sketched (phrase_of no_weights false h.0)) ds (h.2 ds m)
  negation_fails old mid text (LexemeTooLong at) ds m h n =
      n (sketched (phrase_of no_weights false h.0)) ds (h.2 ds m)

  -- ── an item more in the row ──
  pub item_alone : (old new : WebMaker) (ended : List (List WebItem)) (row : List WebItem) (i : WebItem)
      → IsWebAt known mapping old ended row → old.row ≡ false
      → IsMadeOn known mapping (item_tree i) old.maker new.maker → new.rows ≡ old.rows
      → new.row ≡ true → IsWebAt known mapping new ended (row ++ i ∷ [])
  item_alone old new ended row i at f m rs r = record {
    has_rows = rs ∙ at.has_rows;
    has_row = r ∙ sym (ap is_some (row_more row i));
    sketches = m.0 ∷ at.sketches;
    making = m.2 at.sketches at.making;
    are =
        subst (λ q. AreSketched known mapping (with_left q (with_left (web_query ended) []))
        (m.0 ∷ at.sketches)) (sym (row_more row i))
        (added_alone known mapping (row_query row) (item_tree i)
        (with_left (web_query ended) []) m.0 at.sketches (sym at.has_row ∙ f) m.1 at.are);
  }

  module _ (old : WebMaker) (mid : QueryMaker) (ended : List (List WebItem)) (row : List WebItem)
      (i : WebItem) (at : IsWebAt known mapping old ended row) (t : old.row ≡ true)
      (m : IsMadeOn known mapping (item_tree i) old.maker mid) where
    top_two : TopTwo known mapping and_joint (row_query row) (item_tree i)
        (with_left (web_query ended) []) m.0 at.sketches
    top_two = added_behind known mapping and_joint (row_query row) (item_tree i)
        (with_left (web_query ended) []) m.0 at.sketches (sym at.has_row ∙ t) m.1 at.are

    -- there are two sketches to be joined
    pub two_sketches : (d : Sketch) × (e : Sketch) × (ds : List Sketch) × IsMaking mid (e ∷ d ∷ ds)
    two_sketches = (
      top_two.first,
      m.0,
      top_two.others,
      subst (λ l. IsMaking mid (m.0 ∷ l)) top_two.split (m.2 at.sketches at.making),
    )

    pub item_behind : (new : WebMaker)
        → ((d e : Sketch) (ds : List Sketch) → IsMaking mid (e ∷ d ∷ ds)
        → IsMaking new.maker (joint_sketch and_joint d e ∷ ds))
        → new.rows ≡ old.rows → new.row ≡ true → IsWebAt known mapping new ended (row ++ i ∷ [])
    unfolding two_sketches top_two
    item_behind new n rs r = record {
      has_rows = rs ∙ at.has_rows;
      has_row = r ∙ sym (ap is_some (row_more row i));
      sketches = joint_sketch and_joint top_two.first m.0 ∷ top_two.others;
      making = n top_two.first m.0 top_two.others two_sketches.3;
      are = subst (λ q. AreSketched known mapping (with_left q (with_left (web_query ended) []))
          (joint_sketch and_joint top_two.first m.0 ∷ top_two.others))
          (sym (row_more row i)) top_two.are;
    }

  -- ── too many with it ──
  -- sketches of the row with the item more
  record Added (q : Query) (t : Tree) (ts : List Tree) (d : Sketch) (ds : List Sketch) : Type 0 where
    sketches : List Sketch
    are : AreSketched known mapping (onto_query and_joint q t ∷ ts) sketches
    most : nodes_sketched (d ∷ ds) ≤ nodes_sketched sketches

  added : (q : Query) (t : Tree) (ts : List Tree) (d : Sketch) (ds : List Sketch)
      → IsSketched known mapping t d → AreSketched known mapping (with_left q ts) ds
      → Added q t ts d ds
  added None t ts d ds h a = record { sketches = d ∷ ds; are = (h, a); most = omega arith }
  added (Some x) t ts d [] h a = absurd a
  added (Some x) t ts d (f ∷ ds) h a =
      record {
        sketches = joint_sketch and_joint f d ∷ ds;
        are =
            (joint_sketched and_joint x t f d a.0 h, a.1);
        most = omega arith;
      }

  -- whatever follows, the nodes of these sketches are among those of the query
  row_many : (ended : List (List WebItem)) (row more : List WebItem) (i : WebItem)
      (others : List (List WebItem)) (ds : List Sketch)
      → AreSketched known mapping (stack_trees ended (row ++ i ∷ [])) ds
      → 32768 ≤ nodes_sketched ds
      → IsTooManyOf known mapping (web_query (ended ++ ((row ++ i ∷ []) ++ more) ∷ others))
  row_many ended [] more i others ds a h =
      many_by known mapping (web_query (ended ++ (i ∷ more) ∷ others))
      (web_some known mapping ended i more others)
      (λ n w. let v = under_row known mapping ended i [] more others n w in
      let e = ap nodes_sketched
      (sketches_one known mapping (stack_trees ended (i ∷ [])) ds v.sketches a v.are) in
      let s = v.most in
      omega arith)
  row_many ended (r ∷ row) more i others ds a h =
      many_by known mapping (web_query (ended ++ (r ∷ ((row ++ i ∷ []) ++ more)) ∷ others))
      (web_some known mapping ended r ((row ++ i ∷ []) ++ more) others)
      (λ n w. let v = under_row known mapping ended r (row ++ i ∷ []) more others n w in
      let e = ap nodes_sketched
      (sketches_one known mapping
      (stack_trees ended (r ∷ (row ++ i ∷ []))) ds v.sketches a v.are) in
      let s = v.most in
      omega arith)

  pub adding_fails : (ended : List (List WebItem)) (row : List WebItem) (i : WebItem) (e : QueryError)
      (ds : List Sketch) → AreSketched known mapping (stack_trees ended (row ++ i ∷ [])) ds
      → IsOnlyPast (nodes_sketched ds) e → AddingFails known mapping ended (row ++ i ∷ []) e
  adding_fails ended row i TooManyNodes ds a h =
      λ more others. row_many ended row more i others ds a h
  adding_fails ended row i OutOfMemory ds a h = λ more others. tt
  adding_fails ended row i (Syntax at) ds a h = λ more others. h
  adding_fails ended row i (DistanceTooLarge at) ds a h = λ more others. h
  adding_fails ended row i (LexemeTooLong at) ds a h = λ more others. h

  pub joining_fails : (old : WebMaker) (mid : QueryMaker) (ended : List (List WebItem))
      (row : List WebItem) (i : WebItem) (e : QueryError) → IsWebAt known mapping old ended row
      → old.row ≡ true
      → IsMadeOn known mapping (item_tree i) old.maker mid
      → ((d f : Sketch) (ds : List Sketch) → IsMaking mid (f ∷ d ∷ ds)
      → IsOnlyPast (nodes_sketched (joint_sketch and_joint d f ∷ ds)) e)
      → AddingFails known mapping ended (row ++ i ∷ []) e
  unfolding two_sketches top_two
  joining_fails old mid ended row i e at t m b =
      let w = top_two old mid ended row i at t m in
      adding_fails ended row i e (joint_sketch and_joint w.first m.0 ∷ w.others)
      (subst (λ q. AreSketched known mapping (with_left q (with_left (web_query ended) []))
      (joint_sketch and_joint w.first m.0 ∷ w.others)) (sym (row_more row i)) w.are)
      (b w.first m.0 w.others (two_sketches old mid ended row i at t m).3)

  pub item_fails : (web : WebMaker) (ended : List (List WebItem)) (row : List WebItem) (i : WebItem)
      (e : QueryError) → IsWebAt known mapping web ended row
      → MakingFails known mapping (item_tree i) web.maker e
      → AddingFails known mapping ended (row ++ i ∷ []) e
  item_fails web ended row i TooManyNodes at f =
      let n = added (row_query row) (item_tree i)
      (with_left (web_query ended) []) f.0 at.sketches f.1 at.are in
      let m = f.2 at.sketches at.making in
      let s = n.most in
      let many : 32768 ≤ nodes_sketched n.sketches = omega arith in
      λ more others. row_many ended row more i others n.sketches
      (subst (λ q. AreSketched known mapping (with_left q (with_left (web_query ended) [])) n.sketches)
      (sym (row_more row i)) n.are) many
  item_fails web ended row i OutOfMemory at f = λ more others. tt
  item_fails web ended row i (Syntax n) at f = λ more others. f
  item_fails web ended row i (DistanceTooLarge n) at f = λ more others. f
  item_fails web ended row i (LexemeTooLong n) at f = λ more others. f

  -- ── the end of a row ──
  -- one of both is nothing
  end_trees : (p q : Query) → (is_some p && is_some q) ≡ false
      → with_left q (with_left p []) ≡ with_left (with_row p q) []
  end_trees p None h = refl
  end_trees None (Some t) h = refl
  end_trees (Some x) (Some t) h = absurd (let no : ⊥ = cc in no)

  pub end_alone : (old new : WebMaker) (ended : List (List WebItem)) (row : List WebItem)
      → IsWebAt known mapping old ended row → (old.rows && old.row) ≡ false → new.maker ≡ old.maker
      → new.rows ≡ is_some (with_row (web_query ended) (row_query row)) → new.row ≡ false
      → IsWebAt known mapping new (ended ++ row ∷ []) []
  end_alone old new ended row at f m rs r = record {
    has_rows = rs ∙ ap is_some (sym (web_more ended row));
    has_row = r;
    sketches = at.sketches;
    making = subst (λ x. IsMaking x at.sketches) (sym m) at.making;
    are =
        subst (λ q. AreSketched known mapping (with_left q []) at.sketches) (sym (web_more ended row))
        (subst (λ l. AreSketched known mapping l at.sketches)
        (end_trees (web_query ended) (row_query row)
        (ap (λ b. b && is_some (row_query row)) (sym at.has_rows) ∙ ap (λ b. old.rows && b)
        (sym at.has_row) ∙ f)) at.are);
  }

  -- two trees, the last of them on top
  record EndTwo (p q : Query) (ds : List Sketch) : Type 0 where
    first : Sketch
    second : Sketch
    split : ds ≡ second ∷ first ∷ []
    are : AreSketched known mapping (with_left (with_row p q) [])
        (joint_sketch or_joint first second ∷ [])

  end_two : (p q : Query) (ds : List Sketch) → (is_some p && is_some q) ≡ true
      → AreSketched known mapping (with_left q (with_left p [])) ds → EndTwo p q ds
  end_two None None ds h a = absurd (let no : ⊥ = cc in no)
  end_two None (Some t) ds h a = absurd (let no : ⊥ = cc in no)
  end_two (Some x) None ds h a = absurd (let no : ⊥ = cc in no)
  end_two (Some x) (Some t) [] h a = absurd a
  end_two (Some x) (Some t) (d ∷ []) h a = absurd a.1
  end_two (Some x) (Some t) (d ∷ f ∷ []) h a =
      record {
        first = f;
        second = d;
        split = refl;
        are =
            (joint_sketched or_joint x t f d a.1.0 a.0, tt);
      }
  end_two (Some x) (Some t) (d ∷ f ∷ g ∷ ds) h a = absurd a.1.1

  module _ (old : WebMaker) (ended : List (List WebItem)) (row : List WebItem)
      (at : IsWebAt known mapping old ended row) (t : (old.rows && old.row) ≡ true) where
    ends : EndTwo (web_query ended) (row_query row) at.sketches
    ends =
        end_two (web_query ended) (row_query row) at.sketches
        (ap (λ b. b && is_some (row_query row)) (sym at.has_rows) ∙ ap (λ b. old.rows && b)
        (sym at.has_row) ∙ t) at.are

    pub two_ended : (d : Sketch) × (e : Sketch) × (ds : List Sketch) × IsMaking old.maker (e ∷ d ∷ ds)
    two_ended = (ends.first, ends.second, [], subst (IsMaking old.maker) ends.split at.making)

    pub end_joined : (new : WebMaker)
        → ((d e : Sketch) (ds : List Sketch) → IsMaking old.maker (e ∷ d ∷ ds)
        → IsMaking new.maker (joint_sketch or_joint d e ∷ ds))
        → new.rows ≡ is_some (with_row (web_query ended) (row_query row)) → new.row ≡ false
        → IsWebAt known mapping new (ended ++ row ∷ []) []
    unfolding ends two_ended
    end_joined new n rs r = record {
      has_rows = rs ∙ ap is_some (sym (web_more ended row));
      has_row = r;
      sketches = joint_sketch or_joint ends.first ends.second ∷ [];
      making = n ends.first ends.second [] two_ended.3;
      are = subst (λ q. AreSketched known mapping (with_left q [])
          (joint_sketch or_joint ends.first ends.second ∷ [])) (sym (web_more ended row)) ends.are;
    }

  -- whatever follows, the operator between the rows is among the nodes of the query
  ended_many : (ended : List (List WebItem)) (row : List WebItem) (others : List (List WebItem))
      (ds : List Sketch) → is_some (row_query row) ≡ true
      → AreSketched known mapping (with_left (with_row (web_query ended) (row_query row)) []) ds
      → 32768 ≤ nodes_sketched ds → IsTooManyOf known mapping (web_query (ended ++ row ∷ others))
  ended_many ended [] others ds t a h = absurd (let no : ⊥ = cc in no)
  ended_many ended (i ∷ is) others ds t a h =
      many_by known mapping (web_query (ended ++ (i ∷ is) ∷ others))
      (web_some known mapping ended i is others)
      (λ n w. let v = under_ended known mapping ended i is others n w in
      let e = ap nodes_sketched
      (sketches_one known mapping
      (onto_query or_joint (web_query ended) (row_tree known mapping i is) ∷ []) ds v.sketches a
      v.are) in
      let s = v.most in
      omega arith)

  second_true : (a b : Bool) → (a && b) ≡ true → b ≡ true
  second_true true b h = h
  second_true false b h = absurd (let no : ⊥ = cc in no)

  pub ending_fails : (old : WebMaker) (ended : List (List WebItem)) (row : List WebItem) (e : QueryError)
      → IsWebAt known mapping old ended row → (old.rows && old.row) ≡ true
      → ((d f : Sketch) (ds : List Sketch) → IsMaking old.maker (f ∷ d ∷ ds)
      → IsOnlyPast (nodes_sketched (joint_sketch or_joint d f ∷ ds)) e)
      → EndingFails known mapping ended row e
  unfolding ends two_ended
  ending_fails old ended row TooManyNodes at t b =
      let n = ends old ended row at t in
      let some : is_some (row_query row) ≡ true = sym at.has_row ∙ second_true old.rows old.row t in
      λ others. ended_many ended row others (joint_sketch or_joint n.first n.second ∷ []) some n.are
      (b n.first n.second [] (two_ended old ended row at t).3)
  ending_fails old ended row OutOfMemory at t b = λ others. tt
  ending_fails old ended row (Syntax n) at t b = let k = ends old ended row at t in
      λ others. b k.first k.second [] (two_ended old ended row at t).3
  ending_fails old ended row (DistanceTooLarge n) at t b = let k = ends old ended row at t in
      λ others. b k.first k.second [] (two_ended old ended row at t).3
  ending_fails old ended row (LexemeTooLong n) at t b = let k = ends old ended row at t in
      λ others. b k.first k.second [] (two_ended old ended row at t).3

  -- the rows that there are after the end of one
  pub rows_behind : (web : WebMaker) (ended : List (List WebItem)) (row : List WebItem)
      → IsWebAt known mapping web ended row
      → (web.rows || web.row) ≡ is_some (with_row (web_query ended) (row_query row))
  rows_behind web ended row at =
      ap (λ b. b || web.row) at.has_rows ∙ ap (λ b. is_some (web_query ended) || b) at.has_row
      ∙ some_of (web_query ended) (row_query row)
    where
      some_of : (p q : Query) → (is_some p || is_some q) ≡ is_some (with_row p q)
      some_of None None = refl
      some_of None (Some t) = refl
      some_of (Some x) None = refl
      some_of (Some x) (Some t) = refl

  -- ── the whole ──
  left_trees : (q : Query) → with_left q [] ≡ query_trees q
  left_trees None = refl
  left_trees (Some t) = refl

  pub web_made : (web : WebMaker) (rows : List (List WebItem)) → IsWebAt known mapping web rows []
      → Remade known mapping (web_query rows) web.maker
  web_made web rows at =
      remade_of known mapping (web_query rows) web.maker at.sketches at.making
      (subst (λ l. AreSketched known mapping l at.sketches) (left_trees (web_query rows)) at.are)
