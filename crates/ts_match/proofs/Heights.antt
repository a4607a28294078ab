-- The phrases of a plan have room in the bit sets that are made for the plan.
use Rattle.std.proofs.Common.{◌≡◌, ℕ, zero, suc, ◌+◌, ◌-◌, ◌≤◌, ◌<◌, Bool, true, false, List, [], ◌∷◌, ◌++◌, length}
use Rattle.std.proofs.Common.{take, drop, get_or, sym, ap, subst, ◌∙◌, arith, append_assoc, add-one, drop-cons}
use Rattle.std.specs.Prelude.{max, min}
use Rattle.std.specs.List.{slice_range}
use Rattle.std.proofs.lemmas.List.Elements.{All-take, All-drop}
use Rattle.ts_query.specs.declared.query.Node.{Node}
use Rattle.ts_query.specs.declared.query.Node.TheVariants.{Leaf, Not, And, Or, Phrase}
use Rattle.ts_query.specs.declared.query.Operand.{Operand}
use Rattle.ts_query.specs.Queries.{Tree, leaf, negated, joined, or_joint, and_joint, phrase_joint, nodes_in}
use Rattle.ts_match.specs.declared.bit_sets.BitSet.{BitSet}
use Rattle.ts_match.specs.declared.bit_sets.TheConstants.{WIDEST}
use Rattle.ts_match.specs.declared.work.Place.{Place}
use Rattle.ts_match.specs.declared.work.Place.TheVariants.{Outside, Within}
use Rattle.ts_match.specs.declared.work.Step.{Step}
use Rattle.ts_match.specs.Meaning.{width}
use Rattle.ts_match.specs.Plan.{count_in, steps}
use Rattle.ts_match.specs.Inner.Phrases.{IsPhraseOf}
use Rattle.ts_match.specs.Inner.Plan.{offset_of}
use Rattle.ts_match.specs.Inner.BitSets.{words_for}
use Rattle.ts_match.specs.Inner.Heights.{height_behind, height_at, highest, HasRoom, HaveRoom, SameBitSets, HasBitSets}

highest_from : (ss : List Step) (h : ℕ) → h ≤ highest ss h
highest_from [] h = omega arith
highest_from (s ∷ ss) h = omega arith

rises_behind : (n : Node) (a b : ℕ) → a ≤ b → height_behind n a ≤ height_behind n b
rises_behind (Leaf k) a b l = omega arith
rises_behind Not a b l = l
rises_behind And a b l = omega arith
rises_behind Or a b l = omega arith
rises_behind (Phrase m) a b l = omega arith

rises_at : (p : Place) (n : Node) (a b : ℕ) → a ≤ b → height_at p n a ≤ height_at p n b
rises_at (Outside on_true on_false) n a b l = omega arith
rises_at (Within offset needed) n a b l = rises_behind n a b l

-- from a higher stack on it gets no less high
rises : (ss : List Step) (a b : ℕ) → a ≤ b → highest ss a ≤ highest ss b
rises [] a b l = l
rises (s ∷ ss) a b l = let r =
    rises ss (height_at s.place s.node a) (height_at s.place s.node b) (rises_at s.place s.node a b l) in omega arith

from_drop : (i : ℕ) (ss : List Step) (h : ℕ) → highest (drop i ss) 0 ≤ highest ss h
from_drop zero ss h = rises ss 0 h (omega arith)
from_drop (suc i) [] h = omega arith
from_drop (suc i) (s ∷ ss) h = let r = from_drop i ss (height_at s.place s.node h) in omega arith

from_take : (i : ℕ) (ss : List Step) (h : ℕ) → highest (take i ss) h ≤ highest ss h
from_take zero ss h = highest_from ss h
from_take (suc i) [] h = omega arith
from_take (suc i) (s ∷ ss) h = let r = from_take i ss (height_at s.place s.node h) in omega arith

-- a part of the steps needs no more bit sets than all
pub highest_part : (ss : List Step) (a b : ℕ) → highest (slice_range ss a b) 0 ≤ highest ss 0
highest_part ss a b =
    let x = from_take (b - a) (drop a ss) 0 in
    let y = from_drop a ss 0 in
    omega arith

-- one step more of the count
pub highest_more : (ss : List Step) (i : ℕ) (d : Step) (x g h h' g' : ℕ) → i < length ss → h ≤ g
    → h' ≡ height_at (get_or ss i d).place (get_or ss i d).node h → g ≤ g' → h' ≤ g'
    → x ≤ max g (highest (drop i ss) h) → x ≤ max g' (highest (drop (i + 1) ss) h')
highest_more ss i d x g h h' g' l hg e gg hh r =
    let a = height_at (get_or ss i d).place (get_or ss i d).node h in
    let split : highest (drop i ss) h ≡ max h (highest (drop (i + 1) ss) a) =
    ap (λ z. highest z h) (drop-cons ss i d l) ∙ ap (λ k. max h (highest (drop k ss) a)) (sym (add-one i)) in
    let same : highest (drop (i + 1) ss) h' ≡ highest (drop (i + 1) ss) a = ap (highest (drop (i + 1) ss)) e in
    omega arith

-- what is after a part of a phrase has room, and with it the part
record Room (n : ℕ) (part ss : List Step) (h : ℕ) : Type 0 where
  behind : highest ss (h + 1) ≤ n
  room : HaveRoom n ss (h + 1) → HaveRoom n (part ++ ss) h

-- an operator after its two operands
joined_room : (n : ℕ) (part sx sy ss : List Step) (q : Step) (h : ℕ) → part ++ ss ≡ sx ++ (sy ++ (q ∷ ss))
    → height_at q.place q.node (h + 1 + 1) ≡ h + 1 → height_behind q.node (h + 1 + 1) ≡ h + 1
    → HasRoom n q.node (h + 1 + 1) → Room n sx (sy ++ (q ∷ ss)) h → Room n sy (q ∷ ss) (h + 1) → Room n part ss h
joined_room n part sx sy ss q h e at behind has a b = record {
  behind = (let z = b.behind in let s = ap (highest ss) at in omega arith);
  room = λ w. subst (λ l. HaveRoom n l h) (sym e) (a.room (b.room (has, subst (λ i. HaveRoom n ss i) (sym behind) w)));
}

less : (h : ℕ) → h + 1 + 1 - 1 ≡ h + 1
less h = omega arith

room_of : (n k m e : ℕ) (b : Bool) (t : Tree) (ss : List Step) (h : ℕ) → highest (steps k m (Within e b) t ++ ss) h ≤ n
    → Room n (steps k m (Within e b) t) ss h
room_of n k m e b (leaf o) ss h l =
    record { behind = omega arith; room = λ w. (let f = highest_from ss (h + 1) in omega arith, w) }
room_of n k m e b (negated x) ss h l =
    let q : Step = record { node = Not; place = Within e b } in
    let sx = steps k m (Within e false) x in
    let a = append_assoc sx (q ∷ []) ss in
    let r = room_of n k m e false x (q ∷ ss) h (subst (λ z. highest z h ≤ n) a l) in record {
      behind = (let z = r.behind in omega arith);
      room = λ w. subst (λ z. HaveRoom n z h) (sym a) (r.room (omega arith, w));
    }
room_of n k m e b (joined or_joint x y) ss h l =
    let q : Step = record { node = Or; place = Within e b } in
    let sx = steps k m (Within e false) x in
    let sy = steps (k + count_in x) (m + nodes_in x) (Within e false) y in
    let a = append_assoc (sx ++ sy) (q ∷ []) ss ∙ append_assoc sx sy (q ∷ ss) in
    let r = room_of n k m e false x (sy ++ (q ∷ ss)) h (subst (λ z. highest z h ≤ n) a l) in
    joined_room n (sx ++ sy ++ q ∷ []) sx sy ss q h a (less h) (less h) (omega arith) r
    (room_of n (k + count_in x) (m + nodes_in x) e false y (q ∷ ss) (h + 1) r.behind)
room_of n k m e b (joined and_joint x y) ss h l =
    let q : Step = record { node = And; place = Within e b } in
    let sx = steps k m (Within e b) x in
    let sy = steps (k + count_in x) (m + nodes_in x) (Within e b) y in
    let a = append_assoc (sx ++ sy) (q ∷ []) ss ∙ append_assoc sx sy (q ∷ ss) in
    let r = room_of n k m e b x (sy ++ (q ∷ ss)) h (subst (λ z. highest z h ≤ n) a l) in
    joined_room n (sx ++ sy ++ q ∷ []) sx sy ss q h a (less h) (less h) (omega arith) r
    (room_of n (k + count_in x) (m + nodes_in x) e b y (q ∷ ss) (h + 1) r.behind)
room_of n k m e b (joined (phrase_joint d) x y) ss h l =
    let q : Step = record { node = Phrase d; place = Within e b } in
    let f = e + (width x + d) in
    let sx = steps k m (Within e b) x in
    let sy = steps (k + count_in x) (m + nodes_in x) (Within f b) y in
    let a = append_assoc (sx ++ sy) (q ∷ []) ss ∙ append_assoc sx sy (q ∷ ss) in
    let r = room_of n k m e b x (sy ++ (q ∷ ss)) h (subst (λ z. highest z h ≤ n) a l) in
    joined_room n (sx ++ sy ++ q ∷ []) sx sy ss q h a (less h) (less h) (omega arith) r
    (room_of n (k + count_in x) (m + nodes_in x) f b y (q ∷ ss) (h + 1) r.behind)

phrase_room : (n k m on_true on_false d : ℕ) (x y : Tree)
    → highest (steps k m (Outside on_true on_false) (joined (phrase_joint d) x y)) 0 ≤ n
    → HaveRoom n (steps k m (Outside on_true on_false) (joined (phrase_joint d) x y)) 0
phrase_room n k m on_true on_false d x y l =
    let q : Step = record { node = Phrase d; place = Outside on_true on_false } in
    let sx = steps k m (Within 0 true) x in
    let sy = steps (k + count_in x) (m + nodes_in x) (Within (width x + d) true) y in
    let a = append_assoc sx sy (q ∷ []) in
    let r = room_of n k m 0 true x (sy ++ (q ∷ [])) 0 (subst (λ z. highest z 0 ≤ n) a l) in
    let s = room_of n (k + count_in x) (m + nodes_in x) (width x + d) true y (q ∷ []) (0 + 1) r.behind in
    subst (λ z. HaveRoom n z 0) (sym a) (r.room (s.room (omega arith, tt)))

-- so many bit sets are enough for a phrase
pub have_room : (n : ℕ) (os : List Operand) (ss : List Step) (t : Tree) → IsPhraseOf os ss t → highest ss 0 ≤ n
    → HaveRoom n ss 0
have_room n os ss t p l =
    let u : Tree = joined (phrase_joint p.distance) p.left p.right in
    let laid : ss ≡ steps p.first p.start (Outside p.on_true p.on_false) u =
    p.laid ∙ ap (steps p.first p.start (Outside p.on_true p.on_false)) p.phrase in
    subst (λ z. HaveRoom n z 0) (sym laid) (phrase_room n p.first p.start p.on_true p.on_false p.distance p.left p.right
    (subst (λ z. highest z 0 ≤ n) laid l))

-- one step more
pub room_here : (n m : ℕ) (ss : List Step) (i : ℕ) (d : Step) (h : ℕ) → n ≡ m → i < length ss → HaveRoom m (drop i ss) h
    → HasRoom n (get_or ss i d).node h
room_here n m ss i d h e l r =
    (subst (λ z. HaveRoom n z h) (drop-cons ss i d l) (subst (λ k. HaveRoom k (drop i ss) h) (sym e) r)).0

pub room_more : (n : ℕ) (ss : List Step) (i : ℕ) (d : Step) (h h' : ℕ) → i < length ss → HaveRoom n (drop i ss) h
    → h' ≡ height_behind (get_or ss i d).node h → HaveRoom n (drop (i + 1) ss) h'
room_more n ss i d h h' l r e =
    subst (λ z. HaveRoom n (drop (i + 1) ss) z) (sym e)
    (subst (λ k. HaveRoom n (drop k ss) (height_behind (get_or ss i d).node h)) (sym (add-one i))
    (subst (λ z. HaveRoom n z h) (drop-cons ss i d l) r).1)

-- a step makes a stack higher by one at most
behind_node : (n : Node) (h : ℕ) → height_behind n h ≤ h + 1
behind_node (Leaf k) h = omega arith
behind_node Not h = omega arith
behind_node And h = omega arith
behind_node Or h = omega arith
behind_node (Phrase m) h = omega arith

pub near_behind : (p : Place) (n : Node) (h h' : ℕ) → h' ≡ height_at p n h → h' ≤ h + 1
near_behind (Outside on_true on_false) n h h' e = omega arith
near_behind (Within offset needed) n h h' e = let a = behind_node n h in omega arith

-- bit sets for all steps are bit sets for a part of them
pub rows_of_part : (ss : List Step) (stack spare stack' spare' : List BitSet) (a b : ℕ) → HasBitSets ss stack spare
    → SameBitSets stack spare stack' spare' → HasBitSets (slice_range ss a b) stack' spare'
rows_of_part ss stack spare stack' spare' a b h s = record {
  height = (let p = highest_part ss a b in let x = h.height in let y = s.count in omega arith);
  reach = h.reach;
  near = All-take (λ (x : Step). offset_of x.place ≤ h.reach) (b - a) (drop a ss)
      (All-drop (λ (x : Step). offset_of x.place ≤ h.reach) a ss h.near);
  wide = s.wide (words_for (min h.reach WIDEST)) h.wide;
}

pub rows_kept : (ss : List Step) (stack spare stack' spare' : List BitSet) → HasBitSets ss stack spare
    → SameBitSets stack spare stack' spare' → HasBitSets ss stack' spare'
rows_kept ss stack spare stack' spare' h s = record {
  height = (let x = h.height in let y = s.count in omega arith);
  reach = h.reach;
  near = h.near;
  wide = s.wide (words_for (min h.reach WIDEST)) h.wide;
}
