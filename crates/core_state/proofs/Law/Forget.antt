-- What was deleted may be forgotten, and more documents may count as dead.
use Rattle.std.proofs.Common.{◌≡◌, ◌≢◌, ◌≤◌, ℕ, zero, suc, [], ◌∷◌, length, refl, sym, ap, subst, ◌∙◌, inl, inr}
use Rattle.page_types.specs.declared.page.Page.{Page}
use Rattle.page_types.specs.declared.page.Head.{Head}
use Rattle.page_types.specs.declared.page.Gone.TheVariants as gone
use Rattle.std.proofs.Math.Path.{fun_ext}
use Rattle.core_state.specs.Log.{Log, Pages}
use Rattle.core_state.specs.Trees.Nodes as nodes
use Rattle.core_state.specs.Trees.Nodes.{Sane}
use Rattle.core_state.proofs.Trees.Orders.{keys, items}
use Rattle.core_state.specs.Trees.Ext.Ext.{least, greatest}
use Rattle.core_state.specs.Trees.TreeNodes.{entry_nodes, post_nodes}
use Rattle.core_state.proofs.Trees.Below.{Rooted}
use Rattle.core_state.proofs.Law.Rooted.{AreRooted}
use Rattle.core_state.specs.Inner.Ghosts.{Place, Ghost, entry_place, post_place, entry_ghost, post_ghost}
use Rattle.core_state.specs.Inner.Ghosts.{forgotten_place, forgotten}
use Rattle.core_state.specs.Inner.Ghosts.Place.{unused, meta, heap, line, past, shifted, left, entry, post, overflow_of}
use Rattle.core_state.specs.Inner.Ghosts.Place.{private_of}
use Rattle.core_state.specs.Inner.ItemChains.{Chains}
use Rattle.core_state.specs.Inner.Kinds.{Fits, PagesStart, IsLined, AreChained}
use Rattle.core_state.specs.Inner.Effects.{AreIndexed}
use Rattle.core_state.specs.Inner.Owners.{RowsOwned, ItemsOwned, TreesNamed}
use Rattle.core_state.proofs.FateSteps.{dead_more}
use Rattle.core_state.proofs.HeadsFollow.{heads_more}
use Rattle.core_state.proofs.Law.Invariant.{Inv}

-- forgetting keeps each place but those of deleted pages
same_back : (x y : Place) → y ≢ past → forgotten_place x ≡ y → x ≡ y
same_back unused y n e = e
same_back meta y n e = e
same_back heap y n e = e
same_back line y n e = e
same_back past y n e = e
same_back shifted y n e = absurd (n (sym e))
same_back (left r) y n e = absurd (n (sym e))
same_back (entry h) y n e = e
same_back (post r h) y n e = e
same_back (overflow_of i) y n e = e
same_back (private_of i) y n e = e

kept : (x y : Place) → forgotten_place y ≡ y → x ≡ y → forgotten_place x ≡ y
kept x y s e = ap forgotten_place e ∙ s

entry_same : (x : Place) → entry_place (forgotten_place x) ≡ entry_place x
entry_same unused = refl
entry_same meta = refl
entry_same heap = refl
entry_same line = refl
entry_same past = refl
entry_same shifted = refl
entry_same (left r) = refl
entry_same (entry h) = refl
entry_same (post r h) = refl
entry_same (overflow_of i) = refl
entry_same (private_of i) = refl

post_back : (x : Place) (r h : ℕ) → post_place (forgotten_place x) ≡ nodes.TreePlace.tree r h
    → post_place x ≡ nodes.TreePlace.tree r h
post_back unused r h e = e
post_back meta r h e = e
post_back heap r h e = e
post_back line r h e = e
post_back past r h e = e
post_back shifted r h e = e
post_back (left s) r h e = absurd (cc)
post_back (entry k) r h e = e
post_back (post s k) r h e = e
post_back (overflow_of i) r h e = e
post_back (private_of i) r h e = e

post_on : (x : Place) (r h : ℕ) → post_place x ≡ nodes.TreePlace.tree r h
    → post_place (forgotten_place x) ≡ nodes.TreePlace.tree r h
post_on unused r h e = e
post_on meta r h e = e
post_on heap r h e = e
post_on line r h e = e
post_on past r h e = e
post_on shifted r h e = e
post_on (left s) r h e = absurd (cc)
post_on (entry k) r h e = e
post_on (post s k) r h e = e
post_on (overflow_of i) r h e = e
post_on (private_of i) r h e = e

post_not_left : (x : Place) (r : ℕ) → post_place (forgotten_place x) ≡ nodes.TreePlace.left r → ⊥
post_not_left unused r e = cc
post_not_left meta r e = cc
post_not_left heap r e = cc
post_not_left line r e = cc
post_not_left past r e = cc
post_not_left shifted r e = cc
post_not_left (left s) r e = cc
post_not_left (entry k) r e = cc
post_not_left (post s k) r e = cc
post_not_left (overflow_of i) r e = cc
post_not_left (private_of i) r e = cc

fits_on : (L M : ℕ) (x : Place) (p : Page) → Fits L x p → Fits M (forgotten_place x) p
fits_on L M unused p f = f
fits_on L M meta p f = f
fits_on L M heap p f = f
fits_on L M line p f = f
fits_on L M past p f = f
fits_on L M shifted p f = (gone.Pending f.0, f.1)
fits_on L M (left r) p f = (gone.PostLeaf f.0 [], f.1)
fits_on L M (entry zero) p f = f
fits_on L M (entry (suc h)) p f = f
fits_on L M (post r zero) p f = f
fits_on L M (post r (suc h)) p f = f
fits_on L M (overflow_of i) p f = f
fits_on L M (private_of i) p f = f

module _ (R : Log) (P : Pages) (g : Ghost) where
  starts_on : PagesStart R P g → PagesStart R P (forgotten g)
  starts_on s = record {
    page_0 = λ n. kept (g.place 0) meta refl (s.page_0 n);
    no_other = λ p e. s.no_other p (same_back (g.place p) meta (λ f. cc) e);
    page_1 = λ n. let r = s.page_1 n in (r.0, kept (g.place 1) (entry r.0) refl r.1);
    lower = λ p q l e. kept (g.place p) unused refl (s.lower p q l (same_back (g.place q) unused (λ f. cc) e));
    stamps = s.stamps;
  }

  lined_on : IsLined R P g → IsLined R P (forgotten g)
  lined_on l = record {
    is_line = l.is_line;
    on = λ p. (
      λ i. kept (g.place p) line refl ((l.on p).0 i),
      λ e. (l.on p).1
          (same_back (g.place p) line (λ f. cc) e),
    );
    some_row = λ p e. l.some_row p (same_back (g.place p) line (λ f. cc) e);
    counted = l.counted;
  }

  chains_on : (from : Head → ℕ) (x : ℕ → Place) → ((i : ℕ) → forgotten_place (x i) ≡ x i) → ((i : ℕ) → x i ≢ past)
      → Chains P from (λ i q. g.place q ≡ x i)
      → Chains P from (λ i q. (forgotten g).place q ≡ x i)
  chains_on from x s n c = record {
    some = λ i h e.
        let k = c.some i h e in
        record {
          pages = k.pages;
          is_chain = k.is_chain;
          on = λ q. (
            λ m. kept (g.place q) (x i) (s i) ((k.on q).0 m),
            λ f. (k.on q).1
                (same_back (g.place q) (x i) (n i) f),
          );
        };
    none = λ i q e f. c.none i q e (same_back (g.place q) (x i) (n i) f);
  }

  chained_on : AreChained P g → AreChained P (forgotten g)
  chained_on c = record {
    overflow = chains_on (λ h. h.overflow) (λ i. overflow_of i) (λ i. refl) (λ i f. cc) c.overflow;
    private = chains_on (λ h. h.private) (λ i. private_of i) (λ i. refl) (λ i f. cc) c.private;
  }

  rows_on : (n : ℕ) → RowsOwned n R P g → RowsOwned n R P (forgotten g)
  rows_on n w = record {
    on_line = λ q x e i. w.on_line q x (same_back (g.place q) line (λ f. cc) e) i;
    private_row = λ q i e. w.private_row q i (same_back (g.place q) (private_of i) (λ f. cc) e);
    private_item = λ q i x e j. w.private_item q i x (same_back (g.place q) (private_of i) (λ f. cc) e) j;
    on_private = λ q i x h e j. w.on_private q i x h (same_back (g.place q) (private_of i) (λ f. cc) e) j;
  }

  items_on : ItemsOwned P g → ItemsOwned P (forgotten g)
  items_on a = record {
    inline = a.inline;
    posted = λ q r i e. a.posted q r i (same_back (g.place q) (post r 0) (λ f. cc) e);
  }

  named_on : TreesNamed P g → TreesNamed P (forgotten g)
  named_on t = record {
    is_root = λ q r e i f. let h = t.is_root q r e i f in (h.0, kept (g.place r) (post r h.0) refl h.1);
    key = t.key;
    named = λ r h e. t.named r h (same_back (g.place r) (post r h) (λ f. cc) e);
  }

  right_on : (r h p right : ℕ) → nodes.RightOk items greatest (post_ghost g) r h p right
      → nodes.RightOk items greatest (post_ghost (forgotten g)) r h p right
  right_on r h p right (inl e) = inl e
  right_on r h p right (inr e) = inr (e.0, post_on (g.place right) r h e.1, e.2)

  kids_on : (r h : ℕ) (lo hi : _) (cs : _) → nodes.Kids items greatest (post_ghost g) r h lo cs hi
      → nodes.Kids items greatest (post_ghost (forgotten g)) r h lo cs hi
  kids_on r h lo hi [] k = k
  kids_on r h lo hi (c ∷ cs) k = (post_on (g.place c.page) r h k.0, k.1, k.2, kids_on r h c.bound hi cs k.3)

  posts_on : Sane items greatest (post_nodes P) (post_ghost g)
      → Sane items greatest (post_nodes P) (post_ghost (forgotten g))
  posts_on s = record {
    leaves = λ p r e.
        let l = s.leaves p r (post_back (g.place p) r 0 e) in
        record {
          right = l.right;
          keys = l.keys;
          node = l.node;
          within = l.within;
          right_ok = right_on r 0 p l.right
              l.right_ok;
        };
    inners = λ p r h e.
        let l = s.inners p r h (post_back (g.place p) r (suc h) e) in
        record {
          right = l.right;
          kids = l.kids;
          node = l.node;
          kids_ok = kids_on r h (g.low_item p) (g.high_item p) l.kids l.kids_ok;
          right_ok = right_on r (suc h) p l.right l.right_ok;
        };
    lefts = λ p r e. absurd (post_not_left (g.place p) r e);
    span = λ p r h e. s.span p r h (post_back (g.place p) r h e);
    apart = λ p q r h e f d. s.apart p q r h (post_back (g.place p) r h e) (post_back (g.place q) r h f) d;
  }

  root_on : (r t : ℕ) → Rooted (post_nodes P) (post_ghost g) r t
      → Rooted (post_nodes P) (post_ghost (forgotten g)) r t
  root_on r t a = record {
    at_root = post_on (g.place r) r t a.at_root;
    parent = λ x h e. elim (a.parent x h (post_back (g.place x) r h e)) [
      | inl z ↦ inl z
      | inr y ↦ inr (y.0, post_on (g.place y.0) r (suc h) y.1, y.2)
    ];
    highest = λ x h e. a.highest x h (post_back (g.place x) r h e);
  }

  posts_rooted_on : AreRooted least greatest (post_nodes P) (post_ghost g)
      → AreRooted least greatest (post_nodes P) (post_ghost (forgotten g))
  posts_rooted_on a = record {
    roots = λ r h e. root_on r h (a.roots r h (post_back (g.place r) r h e));
    low = λ r h e. a.low r h (post_back (g.place r) r h e);
    high = λ r h e. a.high r h (post_back (g.place r) r h e);
    trees = λ p r h e. let k = a.trees p r h (post_back (g.place p) r h e) in (k.0, post_on (g.place r) r k.0 k.1);
    lefts = λ p r e. absurd (post_not_left (g.place p) r e);
  }

-- the entry tree's places are the same
entries_same : (g : Ghost) → entry_ghost (forgotten g) ≡ entry_ghost g
entries_same g = ap (λ (f : ℕ → nodes.TreePlace). record { place = f; low = g.low_key; high = g.high_key })
    (fun_ext (λ p. entry_same (g.place p)))

pub forget : (n L : ℕ) (R : Log) (P : Pages) (g : Ghost) → Inv n L R P g → Inv n (length R) R P (forgotten g)
forget n L R P g v = record {
  kinds = λ p. fits_on L (length R) (g.place p) (P p) (v.kinds p);
  starts = starts_on R P g v.starts;
  lined = lined_on R P g v.lined;
  entries = subst (λ G. Sane keys greatest (entry_nodes P) G) (sym (entries_same g)) v.entries;
  posts = posts_on R P g v.posts;
  named = named_on R P g v.named;
  entries_rooted = subst (λ G. AreRooted least greatest (entry_nodes P) G) (sym (entries_same g)) v.entries_rooted;
  posts_rooted = posts_rooted_on R P g v.posts_rooted;
  chained = chained_on R P g v.chained;
  heads = v.heads;
  rows_owned = rows_on R P g n v.rows_owned;
  items_owned = items_on R P g v.items_owned;
  grouped = v.grouped;
  indexed = v.indexed;
}

module _ (n m : ℕ) (l : n ≤ m) (R : Log) (P : Pages) where
  rows_more : (g : Ghost) → RowsOwned n R P g → RowsOwned m R P g
  rows_more g w = record {
    on_line = w.on_line;
    private_row = w.private_row;
    private_item = w.private_item;
    on_private = λ q i x h e j f. elim (w.on_private q i x h e j f)
        [ inl z ↦ inl (dead_more R n m _ l z) | inr o ↦ inr o ];
  }

  indexed_more : AreIndexed n R P → AreIndexed m R P
  indexed_more x = record {
    stays = λ d was wanted. x.stays d was
        (elim wanted [ inl alive ↦ inl (λ z. alive (dead_more R n m d l z)) | inr row ↦ inr row ]);
    placed = x.placed;
  }

  pub weaken : (L : ℕ) (g : Ghost) → Inv n L R P g → Inv m L R P g
  weaken L g v = record {
    kinds = v.kinds;
    starts = v.starts;
    lined = v.lined;
    entries = v.entries;
    posts = v.posts;
    named = v.named;
    entries_rooted = v.entries_rooted;
    posts_rooted = v.posts_rooted;
    chained = v.chained;
    heads = heads_more n m R P l v.heads;
    rows_owned = rows_more g v.rows_owned;
    items_owned = v.items_owned;
    grouped = v.grouped;
    indexed = indexed_more v.indexed;
  }
