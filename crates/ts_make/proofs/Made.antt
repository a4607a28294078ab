-- A text has one answer.
use Rattle.std.proofs.Common.{◌≡◌, ◌≢◌, inl, inr, ℕ, suc, ◌≤◌, min, ◌^◌, ◌-◌, List, map, refl, sym, subst, ap, ◌∙◌}
use Rattle.std.proofs.Common.{Some, None, Result, Ok, Err, arith}
use Rattle.ts_base.specs.Vectors.{Vector, content_size}
use Rattle.ts_vector.specs.Normal.{IsNormalFormOf}
use Rattle.ts_vector.specs.Failures.{ItemsFail}
use Rattle.ts_vector.specs.declared.error.VectorError.{VectorError}
use Rattle.ts_vector.specs.declared.error.VectorError.TheVariants as vector_error
use Rattle.ts_vector.proofs.Forms.{normal_form_one}
use Rattle.ts_query.specs.declared.error.QueryError.{QueryError}
use Rattle.ts_query.specs.declared.error.QueryError.TheVariants.{Syntax, DistanceTooLarge, TooManyNodes, LexemeTooLong}
use Rattle.ts_query.specs.declared.error.QueryError.TheVariants.{OutOfMemory}
use Rattle.ts_query.specs.Queries.{Tree, leaf, negated, joined, Query, nodes_in, nodes_of}
use Rattle.ts_query.specs.Refusals.{IsReadAs, IsRefused}
use Rattle.ts_query.proofs.Answer.{one_answer}
use Rattle.ts_config.specs.declared.placed.Placed.{Placed}
use Rattle.ts_config.specs.Mappings.{Mapping}
use Rattle.ts_config.specs.Known.{Known}
use Rattle.ts_config.specs.Placing.{ArePlaced}
use Rattle.ts_config.proofs.Placing.{placed_are_one}
use Rattle.ts_make.specs.Groups.{Group, AreGroups}
use Rattle.ts_make.specs.Trees.{phrase_of}
use Rattle.ts_make.specs.Removal.{Sketch, not_sketch, joint_sketch, sketch_nodes, sketch_of, clean}
use Rattle.ts_make.specs.Made.{made_entry, IsMadeVector, MadeVectorFails, HasGroups, IsJoined, JoinedFails, sketched}
use Rattle.ts_make.specs.Made.{IsSketched, operand_sketched, not_sketched, joint_sketched, IsMadeOf, IsTooManyOf}
use Rattle.ts_make.specs.Made.{RemakingFails, IsMadeQuery, MadeQueryFails}
use Rattle.ts_make.specs.Laws.{SketchesHaveNoFewer, VectorAnswerIsOne, JoinAnswerIsOne, QueryAnswerIsOne}
use Rattle.ts_make.proofs.Grouping.{same_groups}

module _ (known : Known) (mapping : Mapping) (text : List ℕ) where
  -- ── vectors ──
  pub vector_fails : (p : List Placed) (e : VectorError) → ArePlaced known mapping text p
      → ItemsFail (map made_entry p) e → MadeVectorFails known mapping text e
  vector_fails p (vector_error.Syntax n) a f = f
  vector_fails p (vector_error.LexemeTooLong n) a f = f
  vector_fails p (vector_error.VectorTooLarge n) a f = (p, a, f)
  vector_fails p (vector_error.BadBytes n) a f = f
  vector_fails p vector_error.OutOfMemory a f = tt

  vector_one : (v w : Vector) → IsMadeVector known mapping text v
      → IsMadeVector known mapping text w → v ≡ w
  vector_one v w (p, a, b) (q, c, d) =
      normal_form_one (map made_entry p) v w b.form
      (subst (λ l. IsNormalFormOf (map made_entry l) w)
      (placed_are_one known mapping text q p c a) d.form)

  vector_large : (v : Vector) (n : ℕ) → IsMadeVector known mapping text v
      → ¬ MadeVectorFails known mapping text (vector_error.VectorTooLarge n)
  vector_large v n (p, a, b) (q, c, d) =
      let e =
      ap content_size (normal_form_one (map made_entry p) v d.vector b.form
      (subst (λ l. IsNormalFormOf (map made_entry l) d.vector)
      (placed_are_one known mapping text q p c a) d.form)) in
      let f = b.small in
      let g = d.large in
      let no : ⊥ = omega arith in no

  large_one : (m n : ℕ) → MadeVectorFails known mapping text (vector_error.VectorTooLarge m)
      → MadeVectorFails known mapping text (vector_error.VectorTooLarge n) → m ≡ n
  large_one m n (p, a, b) (q, c, d) =
      let e =
      normal_form_one (map made_entry p) b.vector d.vector b.form
      (subst (λ l. IsNormalFormOf (map made_entry l) d.vector)
      (placed_are_one known mapping text q p c a) d.form) in
      b.size ∙ ap (λ v. min (content_size v) (2 ^ 64 - 1)) e ∙ sym d.size

  vector_refused : (v : Vector) (e : VectorError) → e ≢ vector_error.OutOfMemory
      → IsMadeVector known mapping text v → ¬ MadeVectorFails known mapping text e
  vector_refused v (vector_error.Syntax n) m h f = f
  vector_refused v (vector_error.LexemeTooLong n) m h f = f
  vector_refused v (vector_error.VectorTooLarge n) m h f = vector_large v n h f
  vector_refused v (vector_error.BadBytes n) m h f = f
  vector_refused v vector_error.OutOfMemory m h f = m refl

  -- the only refusal is for the size
  refused_large : (e : VectorError) → e ≢ vector_error.OutOfMemory
      → MadeVectorFails known mapping text e → (n : ℕ) × (e ≡ vector_error.VectorTooLarge n)
  refused_large (vector_error.Syntax n) m f = absurd f
  refused_large (vector_error.LexemeTooLong n) m f = absurd f
  refused_large (vector_error.VectorTooLarge n) m f = (n, refl)
  refused_large (vector_error.BadBytes n) m f = absurd f
  refused_large vector_error.OutOfMemory m f = absurd (m refl)

  refusals_one : (d e : VectorError) → d ≢ vector_error.OutOfMemory → e ≢ vector_error.OutOfMemory
      → MadeVectorFails known mapping text d → MadeVectorFails known mapping text e → d ≡ e
  refusals_one d e m n f g =
      let a = refused_large d m f in
      let b = refused_large e n g in
      a.1 ∙ ap vector_error.VectorTooLarge
      (large_one a.0 b.0 (subst (MadeVectorFails known mapping text) a.1 f)
      (subst (MadeVectorFails known mapping text) b.1 g)) ∙ sym b.1

  -- ── groups ──
  pub groups_one : (gs hs : List Group) → HasGroups known mapping text gs
      → HasGroups known mapping text hs → gs ≡ hs
  groups_one gs hs h k =
      same_groups h.placed gs hs h.grouped
      (subst (λ p. AreGroups p hs)
      (placed_are_one known mapping text k.placed h.placed k.are_placed h.are_placed) k.grouped)

  joined_many : (join : List Group → Query) (q : Query) → IsJoined join known mapping text q
      → ¬ JoinedFails join known mapping text TooManyNodes
  joined_many join q h (gs, k, m) =
      let e = ap nodes_of (h.value ∙ ap join (groups_one h.groups gs h.has k)) in
      let f = h.few in
      let no : ⊥ = omega arith in no

  join_refused : (join : List Group → Query) (q : Query) (e : QueryError) → e ≢ OutOfMemory
      → IsJoined join known mapping text q → ¬ JoinedFails join known mapping text e
  join_refused join q (Syntax at) n h f = f
  join_refused join q (DistanceTooLarge at) n h f = f
  join_refused join q (LexemeTooLong at) n h f = f
  join_refused join q TooManyNodes n h f = joined_many join q h f
  join_refused join q OutOfMemory n h f = n refl

  join_many : (join : List Group → Query) (e : QueryError) → e ≢ OutOfMemory
      → JoinedFails join known mapping text e → e ≡ TooManyNodes
  join_many join (Syntax at) n f = absurd f
  join_many join (DistanceTooLarge at) n f = absurd f
  join_many join (LexemeTooLong at) n f = absurd f
  join_many join TooManyNodes n f = refl
  join_many join OutOfMemory n f = absurd (n refl)

-- ── sketches ──
pub sketch_one : (known : Known) (mapping : Mapping) (t : Tree) (d e : Sketch)
    → IsSketched known mapping t d → IsSketched known mapping t e → d ≡ e
sketch_one known mapping (leaf o) d e (operand_sketched o2 gs h) (operand_sketched o3 hs k) =
    ap (λ l. sketched (phrase_of o.weights o.prefix l)) (groups_one known mapping o.lexeme gs hs h k)
sketch_one known mapping (negated x) d e (not_sketched x2 d2 a) (not_sketched x3 e2 b) =
    ap not_sketch (sketch_one known mapping x d2 e2 a b)
sketch_one known mapping (joined j x y) d e (joint_sketched j2 x2 y2 d2 d3 a c)
    (joint_sketched j3 x3 y3 e2 e3 b f) =
    ap (λ l. joint_sketch j l d3) (sketch_one known mapping x d2 e2 a b)
    ∙ ap (λ l. joint_sketch j e2 l) (sketch_one known mapping y d3 e3 c f)

pub made_of_one : (known : Known) (mapping : Mapping) (r p q : Query) → IsMadeOf known mapping r p
    → IsMadeOf known mapping r q → p ≡ q
made_of_one known mapping None p q h k = h ∙ sym k
made_of_one known mapping (Some t) p q (d, a, m, e) (f, b, n, g) =
    e ∙ ap (λ l. (clean l).query) (sketch_one known mapping t d f a b) ∙ sym g

pub made_many : (known : Known) (mapping : Mapping) (r q : Query) → IsMadeOf known mapping r q
    → ¬ IsTooManyOf known mapping r
made_many known mapping None q h f = f
made_many known mapping (Some t) q (d, a, m, e) f = let n = f d a in let no : ⊥ = omega arith in no

pub remaking_many : (known : Known) (mapping : Mapping) (r : Query) (e : QueryError)
    → e ≢ OutOfMemory → RemakingFails known mapping r e → e ≡ TooManyNodes
remaking_many known mapping r (Syntax at) n f = absurd f
remaking_many known mapping r (DistanceTooLarge at) n f = absurd f
remaking_many known mapping r (LexemeTooLong at) n f = absurd f
remaking_many known mapping r TooManyNodes n f = refl
remaking_many known mapping r OutOfMemory n f = absurd (n refl)

-- ── what is read ──
abbrev refusal : QueryError → Result Query QueryError
refusal e = Err e

abbrev answer : Query → Result Query QueryError
answer q = Ok q

abbrev error_in : Result Query QueryError → QueryError
error_in (Ok q) = TooManyNodes
error_in (Err e) = e

abbrev query_in : Result Query QueryError → Query
query_in (Ok q) = q
query_in (Err e) = None

error_of : (d e : QueryError) → refusal d ≡ refusal e → d ≡ e
error_of d e h = ap error_in h

not_refusal : (q : Query) (e : QueryError) → ¬ (answer q ≡ refusal e)
not_refusal q e h = let no : ⊥ = cc in no

module _ (text : List ℕ) where
  read_one : (p q : Query) → IsReadAs text p → IsReadAs text q → p ≡ q
  read_one p q h k =
      ap query_in (one_answer text (Ok p) (Ok q) (not_refusal p OutOfMemory)
      (not_refusal q OutOfMemory) h k)

  read_refused : (p : Query) (e : QueryError) → e ≢ OutOfMemory → IsReadAs text p
      → ¬ IsRefused text e
  read_refused p e n h k =
      not_refusal p e (one_answer text (Ok p) (Err e) (not_refusal p OutOfMemory)
      (λ x. n (error_of e OutOfMemory x)) h k)

  refused_one : (d e : QueryError) → d ≢ OutOfMemory → e ≢ OutOfMemory → IsRefused text d
      → IsRefused text e → d ≡ e
  refused_one d e n m h k =
      error_of d e (one_answer text (Err d) (Err e) (λ x. n (error_of d OutOfMemory x))
      (λ x. m (error_of e OutOfMemory x)) h k)

module _ (known : Known) (mapping : Mapping) (text : List ℕ) where
  made_one : (p q : Query) → IsMadeQuery known mapping text p → IsMadeQuery known mapping text q
      → p ≡ q
  made_one p q (r, h, a) (s, k, b) =
      made_of_one known mapping r p q a
      (subst (λ x. IsMadeOf known mapping x q) (read_one text s r k h) b)

  remade_refused : (p : Query) (e : QueryError) → e ≢ OutOfMemory → IsMadeQuery known mapping text p
      → ¬ ((read : Query) × IsReadAs text read × RemakingFails known mapping read e)
  remade_refused p e n (r, h, a) (s, k, b) =
      made_many known mapping r p a
      (subst (IsTooManyOf known mapping) (read_one text s r k h)
      (subst (RemakingFails known mapping s) (remaking_many known mapping s e n b) b))

  made_refused : (p : Query) (e : QueryError) → e ≢ OutOfMemory → IsMadeQuery known mapping text p
      → ¬ MadeQueryFails known mapping text e
  made_refused p e n h (inl k) = read_refused text h.0 e n h.1 k
  made_refused p e n h (inr k) = remade_refused p e n h k

  faults_one : (d e : QueryError) → d ≢ OutOfMemory → e ≢ OutOfMemory
      → MadeQueryFails known mapping text d → MadeQueryFails known mapping text e → d ≡ e
  faults_one d e n m (inl f) (inl g) = refused_one text d e n m f g
  faults_one d e n m (inl f) (inr g) = absurd (read_refused text g.0 d n g.1 f)
  faults_one d e n m (inr f) (inl g) = absurd (read_refused text f.0 e m f.1 g)
  faults_one d e n m (inr f) (inr g) =
      remaking_many known mapping f.0 d n f.2 ∙ sym (remaking_many known mapping g.0 e m g.2)

-- ── sketches have no fewer nodes ──
pub sketch_of-nodes : (t : Tree) → sketch_nodes (sketch_of t) ≡ nodes_in t
sketch_of-nodes (leaf o) = refl
sketch_of-nodes (negated x) = ap suc (sketch_of-nodes x)
sketch_of-nodes (joined j x y) = let e = sketch_of-nodes x in let f = sketch_of-nodes y in omega arith

some_node : (t : Tree) → 1 ≤ nodes_in t
some_node (leaf o) = omega arith
some_node (negated x) = omega arith
some_node (joined j x y) = omega arith

sketched_some : (q : Query) → 1 ≤ sketch_nodes (sketched q)
sketched_some None = omega arith
sketched_some (Some t) = let e = sketch_of-nodes t in let f = some_node t in omega arith

pub no_fewer : SketchesHaveNoFewer
no_fewer known mapping (leaf o) d (operand_sketched o2 gs h) =
    sketched_some (phrase_of o.weights o.prefix gs)
no_fewer known mapping (negated x) d (not_sketched x2 e a) = let h = no_fewer known mapping x e a in
    omega arith
no_fewer known mapping (joined j x y) d (joint_sketched j2 x2 y2 e f a b) = let h =
    no_fewer known mapping x e a in let k = no_fewer known mapping y f b in omega arith

-- ── the laws ──
pub vector_answer_one : VectorAnswerIsOne
vector_answer_one known mapping text (Ok v) (Ok w) n m h k =
    ap Ok (vector_one known mapping text v w h k)
vector_answer_one known mapping text (Ok v) (Err e) n m h k =
    absurd (vector_refused known mapping text v e (λ x. m (ap Err x)) h k)
vector_answer_one known mapping text (Err e) (Ok v) n m h k =
    absurd (vector_refused known mapping text v e (λ x. n (ap Err x)) k h)
vector_answer_one known mapping text (Err d) (Err e) n m h k =
    ap Err (refusals_one known mapping text d e (λ x. n (ap Err x)) (λ x. m (ap Err x)) h k)

pub join_answer_one : JoinAnswerIsOne
join_answer_one join known mapping text (Ok p) (Ok q) n m h k =
    ap Ok (h.value ∙ ap join (groups_one known mapping text h.groups k.groups h.has k.has)
    ∙ sym k.value)
join_answer_one join known mapping text (Ok p) (Err e) n m h k =
    absurd (join_refused known mapping text join p e (λ x. m (ap Err x)) h k)
join_answer_one join known mapping text (Err e) (Ok p) n m h k =
    absurd (join_refused known mapping text join p e (λ x. n (ap Err x)) k h)
join_answer_one join known mapping text (Err d) (Err e) n m h k =
    ap Err (join_many known mapping text join d (λ x. n (ap Err x)) h
    ∙ sym (join_many known mapping text join e (λ x. m (ap Err x)) k))

pub query_answer_one : QueryAnswerIsOne
query_answer_one known mapping text (Ok p) (Ok q) n m h k =
    ap Ok (made_one known mapping text p q h k)
query_answer_one known mapping text (Ok p) (Err e) n m h k =
    absurd (made_refused known mapping text p e (λ x. m (ap Err x)) h k)
query_answer_one known mapping text (Err e) (Ok p) n m h k =
    absurd (made_refused known mapping text p e (λ x. n (ap Err x)) k h)
query_answer_one known mapping text (Err d) (Err e) n m h k =
    ap Err (faults_one known mapping text d e (λ x. n (ap Err x)) (λ x. m (ap Err x)) h k)
