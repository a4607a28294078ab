-- A page is in one place, by the invariant.
use Rattle.std.proofs.Common.{◌≡◌, ◌≢◌, ℕ, zero, suc, List, [], ◌∷◌, refl, sym, ap, subst, ◌∙◌}
use Rattle.std.specs.Prelude.{Option, Some, None}
use Rattle.page_types.specs.declared.page.Head.{Head}
use Rattle.page_types.specs.declared.page.Body.TheVariants as body
use Rattle.core_state.specs.Log.{Log, Pages, In, Shows}
use Rattle.core_state.specs.Documents.{IsChain}
use Rattle.core_state.specs.Index.{Below}
use Rattle.core_state.specs.TreeRules.{IsRoot}
use Rattle.core_state.specs.Bullets as told
use Rattle.core_state.specs.Bullets.{StandsOnChain, StandsIn, OnePlace}
use Rattle.core_state.specs.Inner.Ghosts.{Place, Ghost}
use Rattle.core_state.specs.Inner.Ghosts.Place.{meta, heap, line, entry, post, overflow_of, private_of}
use Rattle.core_state.specs.Inner.ItemChains.{Chains}
use Rattle.core_state.proofs.Histories.{chain_one}
use Rattle.core_state.proofs.Showing.{none_yet, shown_one, shown_none}
use Rattle.core_state.proofs.Law.Places.{place_for}
use Rattle.core_state.proofs.Law.Invariant.{Inv}
use Rattle.core_state.proofs.Law.Belows.{place_below}
use Rattle.core_state.proofs.Law.EntryBounds.{entry_below}
use Rattle.core_state.proofs.Law.Bounded.{posts_hold}

-- what a ghost's place says of where a page is
abbrev pub place_told : Place → Option told.PagePlace
place_told meta = Some told.PagePlace.meta
place_told heap = Some told.PagePlace.heap
place_told line = Some told.PagePlace.line
place_told (entry h) = Some told.PagePlace.entry_tree
place_told (post r h) = Some (told.PagePlace.posting_tree r)
place_told (overflow_of i) = Some (told.PagePlace.overflow_of i)
place_told (private_of i) = Some (told.PagePlace.private_of i)
place_told _ = None

-- without records page 0 is the metapage's place, and page 1 the entry tree's
abbrev none_told : ℕ → Option told.PagePlace
none_told zero = Some told.PagePlace.meta
none_told (suc zero) = Some told.PagePlace.entry_tree
none_told (suc (suc p)) = None

pub same_some : (a b : told.PagePlace) → Some a ≡ Some b → a ≡ b
same_some a b e = cc

one_of : (x : Option told.PagePlace) (a b : told.PagePlace) → x ≡ Some a → x ≡ Some b → a ≡ b
one_of x a b e f = same_some a b (sym e ∙ f)

no_children : (p q : ℕ) → Below none_yet p q → q ≡ p
no_children p q Below.root = refl
no_children p q (Below.child b i) = absurd i

free_stands : (p : ℕ) (a : told.PagePlace) → StandsIn none_yet p a → none_told p ≡ Some a
free_stands p told.PagePlace.meta e = ap none_told e
free_stands p told.PagePlace.heap e = absurd (clash e.0 e.1)
  where
    clash : (slots : _) → body.Free ≡ body.Heap slots → ⊥
    clash slots e = cc
free_stands p told.PagePlace.entry_tree b = ap none_told (no_children 1 p b)
free_stands p (told.PagePlace.posting_tree r) b = absurd (not_named r b.0 b.1)
  where
    not_named : (r : ℕ) → IsRoot none_yet r → r ≢ 1 → ⊥
    not_named r IsRoot.of_entries n = n refl
    not_named r (IsRoot.of_postings k named) n = named.on
free_stands p (told.PagePlace.overflow_of i) c = absurd (let e = c.4.at in cc)
free_stands p (told.PagePlace.private_of i) c = absurd (let e = c.4.at in cc)
free_stands p told.PagePlace.line c = absurd (none_on c.0 c.1 c.2)
  where
    none_on : (qs : List ℕ) → IsChain none_yet 0 qs → In p qs → ⊥
    none_on [] e m = m
    none_on (q ∷ qs) e m = e.1 (sym e.0)

module _ (n L : ℕ) (R : Log) (P : Pages) (g : Ghost) (v : Inv n L R P g) (some : R ≢ []) where
  on_chain : (from : Head → ℕ) (x : ℕ → Place) → Chains P from (λ i q. g.place q ≡ x i) → (p i : ℕ)
      → StandsOnChain from P p i → g.place p ≡ x i
  on_chain from x C p i c =
      let chain = C.some c.0.item c.1 c.4.at in
      let same = chain_one P (from c.1) c.2 chain.pages c.5 chain.is_chain in
      subst (λ (j : ℕ). g.place p ≡ x j) c.3 ((chain.on p).0 (subst (In p) same c.6))

  in_tree : (r p : ℕ) → IsRoot P r → r ≢ 1 → Below P r p → (h : ℕ) × (g.place p ≡ post r h)
  in_tree r p IsRoot.of_entries other b = absurd (other refl)
  in_tree r p (IsRoot.of_postings k named) other b =
      let top = v.named.is_root named.page r named.entry named.on named.names in
      place_below L P g (posts_hold n L R P g v) r top.0 p top.1 b

  pub stands : (p : ℕ) (a : told.PagePlace) → StandsIn P p a → place_told (g.place p) ≡ Some a
  stands p told.PagePlace.meta e = ap place_told (ap g.place e ∙ v.starts.page_0 some)
  stands p told.PagePlace.heap e = ap place_told (place_for L (g.place p) (P p) (body.Heap e.0) (v.kinds p) e.1)
  stands p told.PagePlace.entry_tree b =
      let top = v.starts.page_1 some in
      ap place_told (entry_below L P g v.kinds v.entries v.entries_rooted 1 top.0 p top.1 b).1
  stands p (told.PagePlace.posting_tree r) b = ap place_told (in_tree r p b.0 b.1 b.2).1
  stands p (told.PagePlace.overflow_of i) c =
      ap place_told (on_chain (λ h. h.overflow) overflow_of v.chained.overflow p i c)
  stands p (told.PagePlace.private_of i) c =
      ap place_told (on_chain (λ h. h.private) private_of v.chained.private p i c)
  stands p told.PagePlace.line c =
      ap place_told ((v.lined.on p).0 (subst (In p) (chain_one P _ c.0 g.line c.1 v.lined.is_line) c.2))

  one_place_here : OnePlace P
  one_place_here p a b e f = one_of (place_told (g.place p)) a b (stands p a e) (stands p b f)

pub one_place : (n L : ℕ) (R : Log) (P : Pages) (g : Ghost) → Inv n L R P g → Shows R P → OnePlace P
one_place n L [] P g v shown =
    subst OnePlace (shown_one [] none_yet P shown_none shown)
    (λ p a b e f. one_of (none_told p) a b (free_stands p a e) (free_stands p b f))
one_place n L (r ∷ R) P g v shown = one_place_here n L (r ∷ R) P g v (λ e. cc)
