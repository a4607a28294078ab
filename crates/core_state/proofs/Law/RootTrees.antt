-- The pages below a root are pages of trees.
use Rattle.std.proofs.Common.{◌≢◌, ◌≡◌, ℕ, zero, suc, [], sym, subst}
use Rattle.core_state.specs.Log.{Log, Pages}
use Rattle.core_state.specs.Index.{Below}
use Rattle.core_state.specs.TreeRules.{IsRoot}
use Rattle.core_state.specs.Inner.PageKinds.{IsTree}
use Rattle.core_state.specs.Inner.Ghosts.{Place, Ghost}
use Rattle.core_state.specs.Inner.Ghosts.Place.{entry, post}
use Rattle.core_state.specs.Inner.Kinds.{Fits}
use Rattle.core_state.proofs.Law.Belows.{place_below}
use Rattle.core_state.proofs.Law.EntryBounds.{entry_below}
use Rattle.core_state.proofs.Law.Invariant.{Inv}

module _ (n L : ℕ) (R : Log) (P : Pages) (g : Ghost) (v : Inv n L R P g) (some : R ≢ []) where
  -- the pages below a root are of its tree
  entry_tree : (q k : ℕ) → g.place q ≡ entry k → IsTree (P q).body
  entry_tree q k e = go k (subst (λ (x : Place). Fits L x (P q)) e (v.kinds q))
    where
      go : (k : ℕ) → Fits L (entry k) (P q) → IsTree (P q).body
      go zero f = subst IsTree (sym f.2) tt
      go (suc h) f = subst IsTree (sym f.1) tt

  post_tree : (q s k : ℕ) → g.place q ≡ post s k → IsTree (P q).body
  post_tree q s k e = go k (subst (λ (x : Place). Fits L x (P q)) e (v.kinds q))
    where
      go : (k : ℕ) → Fits L (post s k) (P q) → IsTree (P q).body
      go zero f = subst IsTree (sym f.2) tt
      go (suc h) f = subst IsTree (sym f.1) tt

  pub root_tree : (root p : ℕ) → IsRoot P root → Below P root p → IsTree (P p).body
  root_tree root p IsRoot.of_entries below =
      let one = v.starts.page_1 some in
      let k = entry_below L P g v.kinds v.entries v.entries_rooted 1 one.0 p one.1 below in
      entry_tree p k.0 k.1
  root_tree root p (IsRoot.of_postings key is) below =
      let h = v.named.is_root is.page root is.entry is.on is.names in
      let k = place_below L P g (record { kinds = v.kinds; posts = v.posts; rooted = v.posts_rooted; named = v.named })
      root h.0 p h.1 below in
      post_tree p root k.0 k.1
