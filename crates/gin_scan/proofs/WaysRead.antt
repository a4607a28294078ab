-- What was read of the tree, with a page more.
use Rattle.std.proofs.Common.{◌≡◌, ℕ, ◌+◌, ◌≤◌, List, [], ◌∷◌, ◌++◌, length, None, Some, refl, sym, ap, subst, ◌∙◌}
use Rattle.std.proofs.Common.{arith, append_assoc, append-nil, length-append, slice_get}
use Rattle.std.specs.List.{flat_map}
use Rattle.std.proofs.lemmas.Option.{same_Some}
use Rattle.core_state.specs.Readings.{Read}
use Rattle.gin_opclass.specs.Class.{Asked}
use Rattle.core_moments.specs.Walk.{Walk, KeyWalk, Sought, leaf_reads, key_reads, reads_of}
use Rattle.core_moments.specs.Law.{path_of}
use Rattle.gin_hits.specs.Rows.{rows_read, AreNoted}
use Rattle.gin_hits.specs.Entries.{entries_read, AreNotedUnder}
use Rattle.gin_scan.specs.Ways.{AreWalks, IsGoingDown, IsGoingAlong, IsGoingInTrees}
use Rattle.core_moments.specs.OpenWalk.{NamedTree, IsOnWay, IsAmongLeaves, IsInTrees}
use Rattle.gin_scan.specs.Reading.{IsUnjudged, ReadsKeysBy}
use Rattle.gin_scan.specs.declared.scan_core.ScanCore.{ScanCore}
use Rattle.gin_scan.proofs.WaySteps.{reads_more}

-- the one walk that is open
pub one_down : (p : ℕ) (w : Sought) (ks : List KeyWalk) → IsGoingDown p w ks
    → (k : KeyWalk) × (ks ≡ k ∷ []) × (k.sought ≡ w) × IsOnWay k p
one_down p w ks (IsGoingDown.on_way k e on) = (k, refl, e, on)

pub one_along : (Is : ℕ → List Read → Type 0) (p : ℕ) (w : Sought) (ks : List KeyWalk) → IsGoingAlong Is p w ks
    → (k : KeyWalk) × (ks ≡ k ∷ []) × (k.sought ≡ w) × IsAmongLeaves Is k p
one_along Is p w ks (IsGoingAlong.among_leaves k e among) = (k, refl, e, among)

pub one_in_trees : (Is : ℕ → List Read → Type 0) (p left extent : ℕ) (trees : List NamedTree) (next : ℕ) (w : Sought)
    (ks : List KeyWalk) → IsGoingInTrees Is p left extent trees next w ks
    → (k : KeyWalk) × (ks ≡ k ∷ []) × (k.sought ≡ w) × (rest : List NamedTree) × (t : IsInTrees Is k p rest next)
    × (trees ≡ t.tree ∷ rest) × (left + length t.last ≡ extent)
one_in_trees Is p left extent trees next w ks (IsGoingInTrees.in_trees k e rest t are sum) =
    (k, refl, e, rest, t, are, sum)

-- a walk whose last part through the tree is this one
abbrev pub with_last : Walk → List KeyWalk → KeyWalk → Walk
with_last w over k = record { meta = w.meta; pending = w.pending; keys = over ++ k ∷ [] }

-- pages more of the last part are pages more of the walk
pub walk_reads : (w : Walk) (over : List KeyWalk) (k k' : KeyWalk) (xs : List Read) → w.keys ≡ over ++ k ∷ []
    → k'.down ++ leaf_reads k'.leaves ≡ (k.down ++ leaf_reads k.leaves) ++ xs
    → reads_of (with_last w over k') ≡ reads_of w ++ xs
walk_reads w over k k' xs e more =
    ap (λ (rs : List Read). w.meta ∷ (w.pending ++ rs))
    (reads_more over k k' xs more ∙ ap (λ (ks : List KeyWalk). key_reads ks ++ xs) (sym e))
    ∙ ap (λ (rs : List Read). w.meta ∷ rs) (sym (append_assoc w.pending (key_reads w.keys) xs))

module _ (WereRead : Walk → Type 0) (IsOver : KeyWalk → Type 0) (asked : List Asked) (sought : List Sought)
    (s s' : ScanCore) (key left left' : ℕ) (w : Sought) (here : slice_get sought key ≡ Some w)
    (Open Open' : Sought → List KeyWalk → Type 0)
    (r : ReadsKeysBy WereRead IsOver asked sought s key left Open) (k k' : KeyWalk) (xs : List Read)
    (last_is : r.keys.last ≡ k ∷ []) (open_on : Open' w (k' ∷ []))
    (more : k'.down ++ leaf_reads k'.leaves ≡ (k.down ++ leaf_reads k.leaves) ++ xs)
    (path : left' + length (path_of k') ≡ left + length (path_of k)) where
  abbrev next : Walk
  next = with_last r.walk r.keys.over k'

  keys_are : r.walk.keys ≡ r.keys.over ++ k ∷ []
  keys_are = r.keys.walks ∙ ap (λ (ks : List KeyWalk). r.keys.over ++ ks) last_is

  pub next_reads : reads_of next ≡ reads_of r.walk ++ xs
  next_reads = walk_reads r.walk r.keys.over k k' xs keys_are more

  next_keys : AreWalks IsOver sought key Open' next.keys
  next_keys = record {
    done = r.keys.done;
    rest = r.keys.rest;
    parts = r.keys.parts;
    count = r.keys.count;
    over = r.keys.over;
    are_over = r.keys.are_over;
    last = k' ∷ [];
    walks = refl;
    begun = λ t e. subst (λ (u : Sought). Open' u (k' ∷ [])) (same_Some w t (sym here ∙ e)) open_on;
    ended = λ e. absurd (let z : Some w ≡ None = sym here ∙ e in let y : ⊥ = cc in y);
  }

  next_left : left' + length (flat_map path_of (k' ∷ [])) ≡ s.extent
  next_left =
      let old : length (flat_map path_of r.keys.last) ≡ length (path_of k) =
      ap (λ (ks : List KeyWalk). length (flat_map path_of ks)) last_is ∙ ap length (append-nil (path_of k)) in
      let new : length (flat_map path_of (k' ∷ [])) ≡ length (path_of k') = ap length (append-nil (path_of k')) in
      omega (arith, r.left_is, old, new, path)

  few : s.pages_read ≤ length (reads_of r.walk) → s'.pages_read ≤ s.pages_read + length xs
      → s'.pages_read ≤ length (reads_of next)
  few old one = omega (arith, old, one, ap length next_reads, length-append (reads_of r.walk) xs)

  -- what a scan has then read, by what it notes of the page
  pub next_read : WereRead next → s'.pending ≡ s.pending → s'.first_item ≡ s.first_item → s'.extent ≡ s.extent
      → IsUnjudged s' → AreNotedUnder asked (entries_read next.keys) s'.main
      → s'.pages_read ≤ s.pages_read + length xs → ReadsKeysBy WereRead IsOver asked sought s' key left' Open'
  unfolding next_keys
  next_read were pending first extent unjudged noted one = record {
    walk = next;
    so_far = record {
      meta_page = r.so_far.meta_page;
      reads = were;
      noted = subst (AreNoted asked (rows_read r.walk.pending)) (sym pending) r.so_far.noted;
      first = first ∙ r.so_far.first;
      noted_tree = noted;
      unjudged = unjudged;
      pages_read = few r.so_far.pages_read one;
    };
    keys = next_keys;
    left_is = next_left ∙ sym extent;
  }
