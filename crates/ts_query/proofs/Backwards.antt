-- The parts of a tree's printed form, from the last to the first.
use Rattle.std.proofs.Common.{◌≡◌, ℕ, suc, ◌+◌, ◌-◌, ◌≤◌, List, [], ◌∷◌, ◌++◌, length, take, drop, get_or, reverse}
use Rattle.std.proofs.Common.{refl, sym, ap, ◌∙◌, append_assoc, Bool, true, false, nat_lt, Some, arith}
use Rattle.std.proofs.lemmas.List.{length-append, reverse-append, append-nil, take-append-drop, length-take-le}
use Rattle.std.proofs.Math.Seq.{take-length, take-append_seam, get_or-append_seam}
use Rattle.ts_query.specs.Queries.{Joint, or_joint, and_joint, phrase_joint, Tree, leaf, negated, joined}
use Rattle.ts_query.specs.Grammar.{level}
use Rattle.ts_query.specs.Postfix.{Item, operand_item, not_item, joint_item, postfix, joint_node, nodes_from, nodes_for}
use Rattle.ts_query.specs.Inner.Parsing.{joint_link}
use Rattle.ts_query.specs.Inner.Built.{operands_from}
use Rattle.ts_query.specs.Inner.Pieces.{in_brackets, pieces_at, tasks_around, around, expansion}
use Rattle.ts_query.specs.declared.query.Node.{Node}
use Rattle.ts_query.specs.declared.query.Node.TheVariants.{Leaf, Not, And, Or, Phrase}
use Rattle.ts_query.specs.declared.print.Piece.{Piece}
use Rattle.ts_query.specs.declared.print.Piece.TheVariants.{Word, Bang, Joint as joint_piece, Open, Close}
use Rattle.ts_query.specs.declared.print.Task.{Task}
use Rattle.ts_query.specs.declared.print.Task.TheVariants.{Subtree, Part}
use Rattle.ts_query.proofs.Built.{push_nodes}
use Rattle.ts_query.proofs.Stacks.{push_not_nil, same_ends}

-- what is left to print, the last part first: a tree where one of a level is wanted, or a part
pub data Job : Type 0 where
  tree_job : Tree → ℕ → Job
  part_job : Piece → Job

abbrev pub task_of : Job → Task
task_of (tree_job t l) = Subtree l
task_of (part_job p) = Part p

abbrev pub tasks_of : List Job → List Task
tasks_of [] = []
tasks_of (j ∷ js) = tasks_of js ++ task_of j ∷ []

abbrev pub items_of_jobs : List Job → List Item
items_of_jobs [] = []
items_of_jobs (tree_job t l ∷ js) = items_of_jobs js ++ postfix t
items_of_jobs (part_job p ∷ js) = items_of_jobs js

abbrev pub pieces_of_jobs : List Job → List Piece
pieces_of_jobs [] = []
pieces_of_jobs (tree_job t l ∷ js) = pieces_of_jobs js ++ pieces_at t l
pieces_of_jobs (part_job p ∷ js) = pieces_of_jobs js ++ p ∷ []

-- some parts were found, and the jobs are left
pub record Printing (t : Tree) (nodes : List Node) (left : ℕ) (tasks : List Task) (pieces : List Piece) : Type 0 where
  pub jobs : List Job
  pub to_do : tasks ≡ tasks_of jobs
  pub before : take left nodes ≡ nodes_from 0 (items_of_jobs jobs)
  pub within : left ≤ length nodes
  pub whole : pieces_of_jobs jobs ++ reverse pieces ≡ pieces_at t 0

-- the last task, and the others
record Popped (jobs : List Job) (rest : List Task) (task : Task) : Type 0 where
  job : Job
  others : List Job
  is : jobs ≡ job ∷ others
  tasks : rest ≡ tasks_of others
  same : task ≡ task_of job

popped : (jobs : List Job) (rest : List Task) (task : Task) → tasks_of jobs ≡ rest ++ task ∷ [] → Popped jobs rest task
popped [] rest task e = absurd (push_not_nil rest task (sym e))
popped (j ∷ js) rest task e = let f = same_ends (tasks_of js) rest (task_of j) task e in
    record { job = j; others = js; is = refl; tasks = sym f.0; same = sym f.1 }

-- ── a part ──
part_popped : (p : Piece) (j : Job) → Part p ≡ task_of j → j ≡ part_job p
part_popped p (tree_job t l) e = absurd (let no : ⊥ = cc in no)
part_popped p (part_job q) e = let f : q ≡ p = cc in ap part_job f

pub print_start : (t : Tree) (nodes : List Node) (tasks : List Task) (pieces : List Piece) → nodes ≡ nodes_for (Some t)
    → tasks ≡ Subtree 0 ∷ [] → pieces ≡ [] → Printing t nodes (length nodes) tasks pieces
print_start t nodes tasks pieces e f g = record {
  jobs = tree_job t 0 ∷ [];
  to_do = f;
  before = take-length nodes ∙ e;
  within = omega arith;
  whole = ap (λ l. pieces_at t 0 ++ reverse l) g ∙ append-nil (pieces_at t 0);
}

pub print_part : (t : Tree) (nodes : List Node) (left : ℕ) (tasks rest : List Task) (pieces more : List Piece)
    (p : Piece) → Printing t nodes left tasks pieces → tasks ≡ rest ++ Part p ∷ [] → more ≡ pieces ++ p ∷ []
    → Printing t nodes left rest more
print_part t nodes left tasks rest pieces more p h e f =
    let k = popped h.jobs rest (Part p) (sym h.to_do ∙ e) in
    let same : k.job ≡ part_job p = part_popped p k.job k.same in
    let is : h.jobs ≡ part_job p ∷ k.others = k.is ∙ ap (λ j. j ∷ k.others) same in
    record {
      jobs = k.others;
      to_do = k.tasks;
      before = h.before ∙ ap (λ l. nodes_from 0 (items_of_jobs l)) is;
      within = h.within;
      whole = ap (λ l. pieces_of_jobs k.others ++ reverse l) f ∙ ap (λ l. pieces_of_jobs k.others ++ l)
          (reverse-append pieces (p ∷ [])) ∙ sym (append_assoc (pieces_of_jobs k.others) (p ∷ []) (reverse pieces))
          ∙ ap (λ l. pieces_of_jobs l ++ reverse pieces) (sym is) ∙ h.whole;
    }

-- ── a tree ──
tasks_of-append : (a b : List Job) → tasks_of (a ++ b) ≡ tasks_of b ++ tasks_of a
tasks_of-append [] b = sym (append-nil (tasks_of b))
tasks_of-append (j ∷ a) b =
    ap (λ l. l ++ task_of j ∷ []) (tasks_of-append a b) ∙ append_assoc (tasks_of b) (tasks_of a) (task_of j ∷ [])

items_of_jobs-append : (a b : List Job) → items_of_jobs (a ++ b) ≡ items_of_jobs b ++ items_of_jobs a
items_of_jobs-append [] b = sym (append-nil (items_of_jobs b))
items_of_jobs-append (tree_job t l ∷ a) b =
    ap (λ x. x ++ postfix t) (items_of_jobs-append a b) ∙ append_assoc (items_of_jobs b) (items_of_jobs a) (postfix t)
items_of_jobs-append (part_job p ∷ a) b = items_of_jobs-append a b

pieces_of_jobs-append : (a b : List Job) → pieces_of_jobs (a ++ b) ≡ pieces_of_jobs b ++ pieces_of_jobs a
pieces_of_jobs-append [] b = sym (append-nil (pieces_of_jobs b))
pieces_of_jobs-append (tree_job t l ∷ a) b = ap (λ x. x ++ pieces_at t l) (pieces_of_jobs-append a b)
    ∙ append_assoc (pieces_of_jobs b) (pieces_of_jobs a) (pieces_at t l)
pieces_of_jobs-append (part_job p ∷ a) b =
    ap (λ x. x ++ p ∷ []) (pieces_of_jobs-append a b) ∙ append_assoc (pieces_of_jobs b) (pieces_of_jobs a) (p ∷ [])

-- the jobs of a tree, in brackets if need be
around_jobs : Bool → List Job → List Job → List Job
around_jobs true inner js = part_job Close ∷ (inner ++ part_job Open ∷ js)
around_jobs false inner js = inner ++ js

wrapped : {X : Type 0} → (a b : List X) (x y : X) → ((a ++ x ∷ []) ++ b) ++ y ∷ [] ≡ a ++ (x ∷ (b ++ y ∷ []))
wrapped a b x y = simp append_assoc

around_tasks : (b : Bool) (inner js : List Job)
    → tasks_of (around_jobs b inner js) ≡ tasks_of js ++ tasks_around b (tasks_of inner)
unfolding around_jobs
around_tasks true inner js = ap (λ l. l ++ Part Close ∷ []) (tasks_of-append inner (part_job Open ∷ js))
    ∙ wrapped (tasks_of js) (tasks_of inner) (Part Open) (Part Close)
around_tasks false inner js = tasks_of-append inner js

around_pieces : (b : Bool) (inner js : List Job)
    → pieces_of_jobs (around_jobs b inner js) ≡ pieces_of_jobs js ++ in_brackets b (pieces_of_jobs inner)
unfolding around_jobs
around_pieces true inner js = ap (λ l. l ++ Close ∷ []) (pieces_of_jobs-append inner (part_job Open ∷ js))
    ∙ wrapped (pieces_of_jobs js) (pieces_of_jobs inner) Open Close
around_pieces false inner js = pieces_of_jobs-append inner js

around_items : (b : Bool) (inner js : List Job)
    → items_of_jobs (around_jobs b inner js) ≡ items_of_jobs js ++ items_of_jobs inner
unfolding around_jobs
around_items true inner js = items_of_jobs-append inner (part_job Open ∷ js)
around_items false inner js = items_of_jobs-append inner js

-- what replaces a tree's job
record Expands (t : Tree) (l : ℕ) (js : List Job) : Type 0 where
  jobs : List Job
  root : Node
  nodes : nodes_from 0 (items_of_jobs js ++ postfix t) ≡ nodes_from 0 (items_of_jobs jobs) ++ root ∷ []
  tasks : tasks_of jobs ≡ tasks_of js ++ expansion root l
  pieces : pieces_of_jobs jobs ≡ pieces_of_jobs js ++ pieces_at t l

link_back : (j : Joint) (l : ℕ) → expansion (joint_node j) l
    ≡ around (level j) l (Subtree (level j) ∷ Part (joint_piece (joint_link j)) ∷ Subtree (level j + 1) ∷ [])
link_back or_joint l = refl
link_back and_joint l = refl
link_back (phrase_joint d) l = refl

one_more : (n : ℕ) → n + 1 ≡ suc n
one_more n = omega arith

inner_pieces : (j : Joint) (x y : Tree) → (pieces_at x (level j) ++ joint_piece (joint_link j) ∷ [])
    ++ pieces_at y (level j + 1) ≡ pieces_at x (level j) ++ joint_piece (joint_link j) ∷ pieces_at y (suc (level j))
inner_pieces j x y = append_assoc (pieces_at x (level j)) (joint_piece (joint_link j) ∷ []) (pieces_at y (level j + 1))
    ∙ ap (λ n. pieces_at x (level j) ++ joint_piece (joint_link j) ∷ pieces_at y n) (one_more (level j))

root_nodes : (is inner : List Item) (i : Item) (jobs : List Item) (n : Node)
    → jobs ≡ is ++ inner → nodes_from (length (operands_from (is ++ inner))) (i ∷ []) ≡ n ∷ []
    → nodes_from 0 (is ++ (inner ++ i ∷ [])) ≡ nodes_from 0 jobs ++ n ∷ []
root_nodes is inner i jobs n e f =
    ap (λ l. nodes_from 0 l) (sym (append_assoc is inner (i ∷ []))) ∙ push_nodes (is ++ inner) i
    ∙ ap (λ l. nodes_from 0 (is ++ inner) ++ l) f ∙ ap (λ l. nodes_from 0 l ++ n ∷ []) (sym e)

expands : (t : Tree) (l : ℕ) (js : List Job) → Expands t l js
expands (leaf o) l js = record {
  jobs = part_job Word ∷ js;
  root = Leaf (length (operands_from (items_of_jobs js)));
  nodes = push_nodes (items_of_jobs js) (operand_item o);
  tasks = refl;
  pieces = refl;
}
expands (negated x) l js =
    let inner = tree_job x 3 ∷ part_job Bang ∷ [] in
    record {
      jobs = around_jobs (nat_lt 3 l) (tree_job x 3 ∷ part_job Bang ∷ []) js;
      root = Not;
      nodes = root_nodes (items_of_jobs js) (postfix x) not_item
          (items_of_jobs (around_jobs (nat_lt 3 l) (tree_job x 3 ∷ part_job Bang ∷ []) js)) Not
          (around_items (nat_lt 3 l) (tree_job x 3 ∷ part_job Bang ∷ []) js) refl;
      tasks = around_tasks (nat_lt 3 l) (tree_job x 3 ∷ part_job Bang ∷ []) js;
      pieces = around_pieces (nat_lt 3 l) (tree_job x 3 ∷ part_job Bang ∷ []) js;
    }
expands (joined j x y) l js =
    let b = nat_lt (level j) l in
    record {
      jobs = around_jobs (nat_lt (level j) l)
          (tree_job y (level j + 1) ∷ part_job (joint_piece (joint_link j)) ∷ tree_job x (level j) ∷ []) js;
      root = joint_node j;
      nodes = root_nodes (items_of_jobs js) (postfix x ++ postfix y) (joint_item j)
          (items_of_jobs (around_jobs (nat_lt (level j) l) (tree_job y (level j + 1)
          ∷ part_job (joint_piece (joint_link j)) ∷ tree_job x (level j) ∷ []) js)) (joint_node j)
          (around_items (nat_lt (level j) l)
          (tree_job y (level j + 1) ∷ part_job (joint_piece (joint_link j)) ∷ tree_job x (level j) ∷ []) js) refl;
      tasks = around_tasks (nat_lt (level j) l) (tree_job y (level j + 1) ∷ part_job (joint_piece (joint_link j))
          ∷ tree_job x (level j) ∷ []) js ∙ ap (λ v. tasks_of js ++ v) (sym (link_back j l));
      pieces = around_pieces (nat_lt (level j) l)
          (tree_job y (level j + 1) ∷ part_job (joint_piece (joint_link j)) ∷ tree_job x (level j) ∷ []) js
          ∙ ap (λ v. pieces_of_jobs js ++ in_brackets (nat_lt (level j) l) v) (inner_pieces j x y);
    }

-- the last of the first nodes
record Last (l : List Node) (left : ℕ) (front : List Node) (n : Node) : Type 0 where
  some : 1 ≤ left
  there : (d : Node) → get_or l (left - 1) d ≡ n
  before : take (left - 1) l ≡ front

snoc_length : (front : List Node) (n : Node) → length (front ++ n ∷ []) ≡ suc (length front)
snoc_length front n = let e = length-append front (n ∷ []) in omega arith

last_of : (l : List Node) (left : ℕ) (front : List Node) (n : Node) → left ≤ length l → take left l ≡ front ++ n ∷ []
    → Last l left front n
last_of l left front n h e =
    let size : left ≡ suc (length front) = let f = ap length e in
    let g = length-take-le left l h in let k = snoc_length front n in omega arith in
    let less : left - 1 ≡ length front = omega arith in
    let all : l ≡ front ++ n ∷ drop left l =
    sym (take-append-drop left l) ∙ ap (λ x. x ++ drop left l) e ∙ append_assoc front (n ∷ []) (drop left l) in
    record {
      some = omega arith;
      there = λ d. ap (λ k. get_or l k d) less ∙ ap (λ x. get_or x (length front) d) all
          ∙ get_or-append_seam front n (drop left l) d;
      before = ap (λ k. take k l) less ∙ ap (λ x. take (length front) x) all ∙ take-append_seam front (n ∷ drop left l);
    }

record Tree_popped (w : ℕ) (j : Job) : Type 0 where
  tree : Tree
  is : j ≡ tree_job tree w

tree_popped : (w : ℕ) (j : Job) → Subtree w ≡ task_of j → Tree_popped w j
tree_popped w (tree_job t l) e = let f : l ≡ w = cc in record { tree = t; is = ap (λ n. tree_job t n) f }
tree_popped w (part_job p) e = absurd (let no : ⊥ = cc in no)

pub record Rooted (t : Tree) (nodes : List Node) (left : ℕ) (rest : List Task) (w : ℕ)
    (pieces : List Piece) : Type 0 where
  pub root : Node
  pub some : 1 ≤ left
  pub there : (d : Node) → get_or nodes (left - 1) d ≡ root
  pub next : (more : List Task) → more ≡ rest ++ expansion root w → Printing t nodes (left - 1) more pieces

pub print_tree : (t : Tree) (nodes : List Node) (left : ℕ) (tasks rest : List Task) (pieces : List Piece) (w : ℕ)
    → Printing t nodes left tasks pieces → tasks ≡ rest ++ Subtree w ∷ [] → Rooted t nodes left rest w pieces
print_tree t nodes left tasks rest pieces w h e =
    let k = popped h.jobs rest (Subtree w) (sym h.to_do ∙ e) in
    let s = tree_popped w k.job k.same in
    let is : h.jobs ≡ tree_job s.tree w ∷ k.others = k.is ∙ ap (λ j. j ∷ k.others) s.is in
    let x = expands s.tree w k.others in
    let l = last_of nodes left (nodes_from 0 (items_of_jobs x.jobs)) x.root h.within
    (h.before ∙ ap (λ v. nodes_from 0 (items_of_jobs v)) is ∙ x.nodes) in
    let within : left - 1 ≤ length nodes = let b = h.within in omega arith in
    record {
      root = x.root;
      some = l.some;
      there = l.there;
      next = λ more f. record {
        jobs = x.jobs;
        to_do = f ∙ ap (λ v. v ++ expansion x.root w) k.tasks ∙ sym x.tasks;
        before = l.before;
        within = within;
        whole =
            ap (λ v. v ++ reverse pieces) x.pieces ∙ ap (λ v. pieces_of_jobs v ++ reverse pieces) (sym is) ∙ h.whole;
      };
    }

-- ── the end, and the measure ──
no_jobs : (jobs : List Job) → tasks_of jobs ≡ [] → jobs ≡ []
no_jobs [] e = refl
no_jobs (j ∷ jobs) e = absurd (push_not_nil (tasks_of jobs) (task_of j) e)

pub print_end : (t : Tree) (nodes : List Node) (left : ℕ) (tasks : List Task) (pieces : List Piece)
    → Printing t nodes left tasks pieces → tasks ≡ [] → reverse pieces ≡ pieces_at t 0
print_end t nodes left tasks pieces h e =
    ap (λ v. pieces_of_jobs v ++ reverse pieces) (sym (no_jobs h.jobs (sym h.to_do ∙ e))) ∙ h.whole

around_few : (b : Bool) (ts : List Task) → length (tasks_around b ts) ≤ length ts + 2
around_few true ts = let e = length-append ts (Part Close ∷ []) in omega arith
around_few false ts = omega arith

pub expansion_few : (n : Node) (w : ℕ) → length (expansion n w) ≤ 5
expansion_few (Leaf k) w = omega arith
expansion_few Not w = let e = around_few (nat_lt 3 w) (Part Bang ∷ Subtree 3 ∷ []) in omega arith
expansion_few And w = around_few (nat_lt 1 w) _
expansion_few Or w = around_few (nat_lt 0 w) _
expansion_few (Phrase d) w = around_few (nat_lt 2 w) _
