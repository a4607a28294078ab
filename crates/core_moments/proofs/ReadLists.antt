-- Lists of reads: their lengths, and the reads of one way of a walk.
use Rattle.std.proofs.Common.{◌≡◌, ◌≤◌, ℕ, List, [], ◌∷◌, ◌++◌, map, length, refl, sym, ap, subst, inl, inr, arith}
use Rattle.core_state.specs.Log.{Log, In}
use Rattle.core_state.specs.Readings.{Read, WasShown, AreReads}
use Rattle.core_moments.specs.Walk.{Walk, KeyWalk, LeafRead, reads_of, key_reads, leaf_reads, tree_reads}
use Rattle.core_moments.specs.Law.{path_of}
use Rattle.core_moments.specs.OpenWalk.{last_length}
use Rattle.core_moments.proofs.OpenLists.{first_reads}

pub reads_since : (R : Log) (a b : ℕ) (xs : List Read) → a ≤ b → AreReads R b xs → AreReads R a xs
reads_since R a b [] le r = tt
reads_since R a b (x ∷ xs) le r = (omega (arith, le, r.0), r.1, r.2, r.3)

pub last_reads : (R : Log) (from : ℕ) (xs : List Read) → from ≤ length R → AreReads R from xs
    → (from ≤ last_length from xs) × (last_length from xs ≤ length R)
last_reads R from [] le r = (omega arith, le)
last_reads R from (x ∷ xs) le r =
    let l = last_reads R x.length xs r.1 r.3 in (omega (arith, r.0, l.0), l.1)

pub last_join : (t : ℕ) (xs ys : List Read) → last_length t (xs ++ ys) ≡ last_length (last_length t xs) ys
last_join t [] ys = refl
last_join t (x ∷ xs) ys = last_join x.length xs ys

-- a page more is read
pub reads_then : (R : Log) (from : ℕ) (xs : List Read) (y : Read) → AreReads R from xs
    → last_length from xs ≤ y.length → y.length ≤ length R → WasShown R y → AreReads R from (xs ++ y ∷ [])
reads_then R from [] y r low high shown = (low, high, shown, tt)
reads_then R from (x ∷ xs) y r low high shown = (r.0, r.1, r.2, reads_then R x.length xs y r.3 low high shown)

pub reads_after : (R : Log) (from : ℕ) (xs ys : List Read) → AreReads R from (xs ++ ys) → AreReads R from ys
reads_after R from [] ys r = r
reads_after R from (x ∷ xs) ys r = reads_since R from x.length ys r.0 (reads_after R x.length xs ys r.3)

abbrev pub leaves_in : List LeafRead → List Read
leaves_in ls = map (λ (l : LeafRead). l.leaf) ls

leaves_read : (R : Log) (from : ℕ) (ls : List LeafRead) → AreReads R from (leaf_reads ls)
    → AreReads R from (leaves_in ls)
leaves_read R from [] r = r
leaves_read R from (l ∷ ls) r = (
  r.0,
  r.1,
  r.2,
  leaves_read R l.leaf.length ls
      (reads_after R l.leaf.length (tree_reads l.trees) (leaf_reads ls) r.3),
)

path_read : (R : Log) (from : ℕ) (xs : List Read) (ls : List LeafRead) (rest : List Read)
    → AreReads R from (xs ++ (leaf_reads ls ++ rest)) → AreReads R from (xs ++ leaves_in ls)
path_read R from [] ls rest r = leaves_read R from ls (first_reads R from (leaf_reads ls) rest r)
path_read R from (x ∷ xs) ls rest r = (r.0, r.1, r.2, path_read R x.length xs ls rest r.3)

keys_read : (R : Log) (from : ℕ) (ks : List KeyWalk) (k : KeyWalk) → AreReads R from (key_reads ks) → In k ks
    → AreReads R from (path_of k)
keys_read R from [] k r i = absurd i
keys_read R from (j ∷ ks) k r (inl e) =
    subst (λ (z : KeyWalk). AreReads R from (path_of z)) (sym e) (path_read R from j.down j.leaves (key_reads ks) r)
keys_read R from (j ∷ ks) k r (inr i) =
    keys_read R from ks k
    (reads_after R from (leaf_reads j.leaves) (key_reads ks)
    (reads_after R from j.down (leaf_reads j.leaves ++ key_reads ks) r)) i

-- the reads of one of a walk's ways through the entry tree
pub way_reads : (R : Log) (from : ℕ) (x : Walk) (k : KeyWalk) → In k x.keys → AreReads R from (reads_of x)
    → AreReads R from (path_of k)
way_reads R from x k i r =
    reads_since R from x.meta.length (path_of k) r.0
    (keys_read R x.meta.length x.keys k (reads_after R x.meta.length x.pending (key_reads x.keys) r.3) i)

pub read_between : (R : Log) (from : ℕ) (xs : List Read) → AreReads R from xs → (x : Read) → In x xs
    → (from ≤ x.length) × (x.length ≤ length R)
read_between R from [] r x i = absurd i
read_between R from (y ∷ ys) r x (inl e) =
    let n : x.length ≡ y.length = ap (λ (z : Read). z.length) e in (omega (arith, r.0, n), omega (arith, r.1, n))
read_between R from (y ∷ ys) r x (inr i) =
    let l = read_between R y.length ys r.3 x i in (omega (arith, r.0, l.0), l.1)
