-- The law over walks.
use Rattle.std.specs.Prelude.{◌≡◌, ◌≢◌, ℕ, true, false, List, [], ◌∷◌, ◌++◌, map, take, AllPairs, ⊤}
use Rattle.core_state.specs.Log.{Log, In}
use Rattle.core_state.specs.Documents.{item_at}
use Rattle.core_state.specs.History.{Document, History, IsHistory, docs}
use Rattle.core_state.specs.Changes.{KeyAtMost}
use Rattle.core_state.specs.Legal.{IsLegal, Pin, Keeps}
use Rattle.core_state.specs.Readings.{Read, AreReads}
use Rattle.gin_opclass.specs.Class.{Meaning, JudgeIsSound, Asked}
use Rattle.core_moments.specs.Walk.{Walk, KeyWalk, LeafRead, Sought, IsWalk, reads_of, sought_of, first_key}
use Rattle.core_moments.specs.Judging.{IsKept, HasYes}

-- what a walk looks for in the main part, in key order: all, or each key of the query
pub record AreSought {Q : Type 0} (M : Meaning Q) (q : Q) (sought : List Sought) : Type 0 where
  pub of_all : M.all q ≡ true → sought ≡ Sought.whole ∷ []
  pub each : M.all q ≡ false → (a : Asked) → In a (M.asked q) → In (sought_of a) sought
  pub only : M.all q ≡ false → (s : Sought) → In s sought → (a : Asked) × In a (M.asked q) × (s ≡ sought_of a)
  pub in_order : AllPairs (λ (s t : Sought). KeyAtMost (first_key s) (first_key t)) sought

-- Of the documents that are there after the first n commits, each that satisfies the query is kept,
-- and each that got a yes without its vector satisfies it.
pub record FindsAll {Q : Type 0} (M : Meaning Q) (q : Q) (H : History) (n : ℕ) (w : Walk) : Type 0 where
  pub kept : (d : Document) → In d (docs (take n H)) → M.satisfies q d.vector
      → IsKept M q w (item_at d.name.page d.name.slot)
  pub yes : (d : Document) → In d (docs (take n H)) → HasYes M q w (item_at d.name.page d.name.slot)
      → M.satisfies q d.vector

-- A walk for the query from the pin: its pages were read at lengths of the log from the pin's on.
pub record IsWalkFrom {Q : Type 0} (M : Meaning Q) (q : Q) (R : Log) (pin : Pin) (w : Walk) : Type 0 where
  pub sought : List Sought
  pub are_sought : AreSought M q sought
  pub is_walk : IsWalk sought w
  pub reads : AreReads R pin.length (reads_of w)

-- the law, of a class of queries
abbrev pub MomentsHold : {Q : Type 0} → Meaning Q → Type 0
MomentsHold {Q} M =
    JudgeIsSound M → (R : Log) (pin : Pin) (H : History) (q : Q) (w : Walk) → IsLegal R → Keeps R pin
    → IsHistory R H → IsWalkFrom M q R pin w → FindsAll M q H pin.commits w

-- no page is read twice
abbrev pub ReadOnce : List Read → Type 0
ReadOnce [] = ⊤
ReadOnce (x ∷ xs) = ((y : Read) → In y xs → x.page ≢ y.page) × ReadOnce xs

-- the pages of a key's walk through the entry tree: on the way down, and then the leaves
abbrev pub path_of : KeyWalk → List Read
path_of k = k.down ++ map (λ (l : LeafRead). l.leaf) k.leaves

-- along the pending list, through the entry tree and through each posting tree
pub record ReadsOnce (w : Walk) : Type 0 where
  pub pending : ReadOnce w.pending
  pub paths : (k : KeyWalk) → In k w.keys → ReadOnce (path_of k)
  pub trees : (k : KeyWalk) (l : LeafRead) (t : List Read) → In k w.keys → In l k.leaves → In t l.trees → ReadOnce t

-- a walk from a pin reads no page twice
abbrev pub WalksEnd : Type 0
WalksEnd =
    (R : Log) (pin : Pin) (sought : List Sought) (w : Walk) → IsLegal R → Keeps R pin → IsWalk sought w
    → AreReads R pin.length (reads_of w) → ReadsOnce w
