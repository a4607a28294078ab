-- Bounds of the trees, and the names of their leaves, by the invariant.
use Rattle.std.proofs.Common.{◌≡◌, ◌≢◌, ℕ, List, [], ◌∷◌, refl, sym, ap, ◌∙◌}
use Rattle.page_types.specs.declared.page.Body.{Body}
use Rattle.page_types.specs.declared.page.Body.TheVariants as body
use Rattle.core_state.specs.Log.{Log, Pages, Shows}
use Rattle.core_state.specs.Index.{Below}
use Rattle.core_state.specs.TreeRules.{IsRoot}
use Rattle.core_state.specs.Bullets.{TreesAreBounded, LeavesAreNamed}
use Rattle.core_state.specs.Inner.Ghosts.{Ghost, post_place, post_ghost}
use Rattle.core_state.specs.Inner.Ghosts.Place.{entry, post}
use Rattle.core_state.proofs.Showing.{none_yet, shown_one, shown_none}
use Rattle.core_state.proofs.Law.Places.{place_for}
use Rattle.core_state.proofs.Law.Invariant.{Inv}
use Rattle.core_state.proofs.Law.MainPlaces.{PostsHold}
use Rattle.core_state.proofs.Law.Belows.{root_of, place_below, below_place}
use Rattle.core_state.proofs.Law.EntryBounds.{entry_bounded, entry_below}
use Rattle.core_state.proofs.Law.PostBounds.{post_bounded}

-- a page that isn't free is none of an empty log's
pub some_record : (R : Log) (P : Pages) (p : ℕ) (b : Body) → Shows R P → (P p).body ≡ b → b ≢ body.Free → R ≢ []
some_record [] P p b shown e n z = n (sym e ∙ ap (λ (T : Pages). (T p).body) (shown_one [] P none_yet shown shown_none))
some_record (r ∷ R) P p b shown e n z = cc

-- the part of the invariant that speaks of posting trees
pub posts_hold : (n L : ℕ) (R : Log) (P : Pages) (g : Ghost) → Inv n L R P g → PostsHold L P g
posts_hold n L R P g v = record { kinds = v.kinds; posts = v.posts; rooted = v.posts_rooted; named = v.named }

module _ (n L : ℕ) (R : Log) (P : Pages) (g : Ghost) (v : Inv n L R P g) (shown : Shows R P) where
  leaf_place : (p high : ℕ) (is : List ℕ) → (P p).body ≡ body.PostLeaf high is → (r : ℕ) × (g.place p ≡ post r 0)
  leaf_place p high is e = place_for L (g.place p) (P p) (body.PostLeaf high is) (v.kinds p) e

  -- the root above a posting leaf is that of its tree
  pub tree_of : (root page high : ℕ) (is : List ℕ) → IsRoot P root → Below P root page
      → (P page).body ≡ body.PostLeaf high is → g.place page ≡ post root 0
  tree_of root page high is IsRoot.of_entries below e =
      let top = v.starts.page_1 (some_record R P page (body.PostLeaf high is) shown e (λ z. cc)) in
      let place = entry_below L P g v.kinds v.entries v.entries_rooted 1 top.0 page top.1 below in
      let leaf = leaf_place page high is e in
      absurd (clash place.0 leaf.0 (sym place.1 ∙ leaf.1))
    where
      clash : (h r : ℕ) → entry h ≡ post r 0 → ⊥
      clash h r e = cc
  tree_of root page high is (IsRoot.of_postings k named) below e =
      let top = v.named.is_root named.page root named.entry named.on named.names in
      let place = place_below L P g (posts_hold n L R P g v) root top.0 page top.1 below in
      let leaf = leaf_place page high is e in
      leaf.1 ∙ ap (λ (z : ℕ). post z 0) (same leaf.0 root 0 place.0 (sym leaf.1 ∙ place.1))
    where
      same : (a b h i : ℕ) → post a h ≡ post b i → a ≡ b
      same a b h i e = cc

  pub trees_bounded : TreesAreBounded P
  trees_bounded = record {
    entries = entry_bounded L P g v.kinds v.entries v.entries_rooted;
    postings = λ root page high is i r below e m.
        post_bounded P (post_ghost g) v.posts v.posts_rooted root page high is i
        (ap post_place (tree_of root page high is r below e)) (shown page).0 e m;
  }

  -- a leaf's root is named, and isn't the entry tree's
  pub leaves_named : LeavesAreNamed P
  leaves_named p high is e =
      let leaf = leaf_place p high is e in
      let top = root_of L P g (posts_hold n L R P g v) p leaf.0 0 leaf.1 in
      let by = v.named.named leaf.0 top.0 top.1 in
      let first = v.starts.page_1 (some_record R P p (body.PostLeaf high is) shown e (λ z. cc)) in (
        leaf.0,
        IsRoot.of_postings by.1.key (record { page = by.0; entry = by.1; on = by.2; key = refl; names = by.3 }),
        (λ z. clash leaf.0 top.0 first.0 (sym top.1 ∙ ap g.place z ∙ first.1)),
        below_place L P g (posts_hold n L R P g v) p leaf.0 0 leaf.1,
      )
    where
      clash : (r h i : ℕ) → post r h ≡ entry i → ⊥
      clash r h i e = cc
