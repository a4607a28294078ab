-- What each kind of record does to the trees, by the fields of the invariant: with the ghosts after it.
use Rattle.std.proofs.Common.{◌≡◌, ◌≢◌, ◌⊎◌, ℕ, zero, suc, [], refl, sym, ap, subst, ◌∙◌, inl, inr}
use Rattle.page_types.specs.declared.page.Page.{Page}
use Rattle.page_types.specs.declared.record.Record.{Record}
use Rattle.page_types.specs.declared.record.Kind.{Kind}
use Rattle.page_types.specs.declared.record.Kind.TheVariants as kind
use Rattle.core_state.specs.Log.{Log, Pages, In, changed}
use Rattle.core_state.specs.TreeRules.{IsAddItems, IsMakeTree, IsAddPostings, IsRoot, IsGrowRoot, IsDeletePost}
use Rattle.core_state.specs.VacuumRules.{MayLeave, IsRemoveItems}
use Rattle.core_state.specs.Known.{use_in}
use Rattle.core_state.specs.Changes.{IsNew}
use Rattle.core_state.specs.Trees.Ext.{Ext}
use Rattle.core_state.specs.Trees.Ext.Ext.{least, at, greatest}
use Rattle.core_state.specs.Trees.Nodes as nodes
use Rattle.core_state.specs.Trees.Nodes.{put}
use Rattle.core_state.specs.Trees.TreeNodes.{entry_nodes, post_nodes}
use Rattle.core_state.specs.Inner.TreePlaces.{EntryPlaces, PostPlaces, IsNoEntryPage, IsNoPostPage, HasMeta}
use Rattle.core_state.specs.Inner.Ghosts.{Place, Ghost, entry_place, post_place, entry_ghost, post_ghost}
use Rattle.core_state.specs.Inner.Ghosts.Place.{left, entry, post}
use Rattle.core_state.specs.Inner.GhostSteps.{made_tree, grown_entries, grown_posts, deleted_leaf}
use Rattle.core_state.specs.Inner.Kinds.{Fits}
use Rattle.core_state.proofs.PageLists.{of_one, one_page}
use Rattle.core_state.proofs.FateSteps.{dead_more}
use Rattle.core_state.proofs.Trees.Members.{of_map}
use Rattle.core_state.proofs.Trees.Orders.{keys, items}
use Rattle.core_state.proofs.Trees.Roots.{IsRootAt, root_at}
use Rattle.core_state.proofs.Trees.Growing.{Stepping, as_step, quiet_here}
use Rattle.core_state.proofs.Trees.EntryViews.{EntryGrows}
use Rattle.core_state.proofs.Trees.PostViews.{PostGrows, PostStep}
use Rattle.core_state.proofs.Trees.Order.{put_else}
use Rattle.core_state.proofs.Trees.PostDelete.{no_entries, delete_post}
use Rattle.core_state.proofs.Trees.EntryRules as entry_rows
use Rattle.core_state.proofs.Trees.PostRules as post_rows
use Rattle.core_state.proofs.Law.Steps.{Before, Left, MayGo, TreesStep}
use Rattle.core_state.proofs.Law.Belows.{post_is}
use Rattle.core_state.proofs.Law.SamePages.{not_first}
use Rattle.core_state.proofs.Law.LooseSteps.{Loose}
use Rattle.core_state.proofs.Law.NewPlaces.{nowhere_loose, new_nowhere}
use Rattle.core_state.proofs.Law.TreeFields.{entry_places, post_places, has_meta, are_named, put_through, put_unseen}

module _ (n : ℕ) (R : Log) (P Q : Pages) (g : Ghost) where
  -- what no removal touches stays
  pub none_gone : (G : nodes.TreeGhost (Ext ℕ)) → PostStep P Q (post_ghost g) G []
      → Stepping items least greatest (post_nodes P) (post_nodes Q) (post_ghost g) G (MayGo n R P)
  none_gone G s = (s.0, λ k stays. s.1 k (λ m. m))

  pub grown : (G : nodes.TreeGhost (Ext ℕ)) → PostGrows P Q (post_ghost g) G
      → Stepping items least greatest (post_nodes P) (post_nodes Q) (post_ghost g) G (MayGo n R P)
  grown G s = as_step items least greatest (post_nodes P) (post_nodes Q) (post_ghost g) G (MayGo n R P) s

module _ (n L : ℕ) (R : Log) (P Q : Pages) (r : Record) (floor since : ℕ) (g : Ghost)
    (b : Before n L R P Q r floor since g) (d : Left n since R P Q r) where
  abbrev pub in_entries : EntryPlaces P (entry_ghost g)
  in_entries = entry_places L P g b.inv.kinds

  abbrev pub in_posts : PostPlaces P since (post_ghost g)
  in_posts = post_places L P g b.inv.kinds R since b.inv.starts b.since_is

  pub not_empty : (k : Kind) → r.kind ≡ k → k ≢ kind.Create → R ≢ []
  not_empty k e c = not_first R r k b.started e c

  pub meta_page : R ≢ [] → HasMeta P
  meta_page some = has_meta L P g b.inv.kinds R b.inv.starts some

  -- the entry tree's root
  root_1 : R ≢ [] → (h : ℕ) × (g.place 1 ≡ entry h) × IsRootAt (entry_ghost g) 1 h
  root_1 some = let k = b.inv.starts.page_1 some in
      (k.0, k.1, root_at (entry_nodes P) (entry_ghost g) b.inv.entries_rooted 1 k.0 (ap entry_place k.1))

  -- a tree in which a record changes no page
  pub quiet_entries : ((q : ℕ) → In q (changed r) → entry_place (g.place q) ≡ nodes.TreePlace.none)
      → EntryGrows P Q (entry_ghost g) (entry_ghost g)
  quiet_entries apart = quiet_here keys least greatest (entry_nodes P) (entry_nodes Q) (entry_ghost g) (changed r)
      (λ q off. ap (λ (T : Page). entry_nodes (λ x. T) q) (d.elsewhere q off)) (λ q m some. absurd (some (apart q m)))

  pub quiet_posts : ((q : ℕ) → In q (changed r) → post_place (g.place q) ≡ nodes.TreePlace.none)
      → PostGrows P Q (post_ghost g) (post_ghost g)
  quiet_posts apart = quiet_here items least greatest (post_nodes P) (post_nodes Q) (post_ghost g) (changed r)
      (λ q off. ap (λ (T : Page). post_nodes (λ x. T) q) (d.elsewhere q off)) (λ q m some. absurd (some (apart q m)))

  -- 13
  pub add_items_trees : IsAddItems R P Q r → TreesStep n R P Q g g
  add_items_trees V =
      let root = root_1 (not_empty kind.AddItems V.here.kind_is (λ e. cc)) in
      record {
        entries = entry_rows.add_items R P Q r (entry_ghost g) b.inv.entries in_entries d.elsewhere root.0 root.2 V;
        posts = grown n R P Q g (post_ghost g)
            (post_rows.add_items R P Q r since (post_ghost g) b.inv.posts in_posts d.elsewhere V);
        key_of = λ s h e. refl;
      }

  -- the other tree's ghosts, with its places seen anew
  pub entries_at : (f : ℕ → nodes.TreePlace) → ◌≡◌ {A = ℕ → nodes.TreePlace} f (λ p. entry_place (g.place p))
      → EntryGrows P Q (entry_ghost g) (entry_ghost g)
      → EntryGrows P Q (entry_ghost g) (record { place = f; low = g.low_key; high = g.high_key })
  entries_at f e s = subst (λ h. EntryGrows P Q (entry_ghost g)
      (record { place = h; low = g.low_key; high = g.high_key })) (sym e) s

  pub posts_at : (f : ℕ → nodes.TreePlace) → ◌≡◌ {A = ℕ → nodes.TreePlace} f (λ p. post_place (g.place p))
      → PostGrows P Q (post_ghost g) (post_ghost g)
      → PostGrows P Q (post_ghost g) (record { place = f; low = g.low_item; high = g.high_item })
  posts_at f e s = subst (λ h. PostGrows P Q (post_ghost g)
      (record { place = h; low = g.low_item; high = g.high_item })) (sym e) s

  -- the page that is taken is in no tree
  pub new_apart : (p : ℕ) → IsNew (use_in P) since p → Loose (g.place p)
  new_apart p x = nowhere_loose (g.place p) (new_nowhere L since R P g b.inv.kinds b.inv.starts b.since_is p x)

  -- 14
  pub make_tree_trees : (V : IsMakeTree R P Q r since) → TreesStep n R P Q g (made_tree g V.here.new V.here.key)
  make_tree_trees V =
      let some = not_empty kind.MakeTree V.here.kind_is (λ e. cc) in
      let fresh = new_apart V.here.new V.here.is_new in
      record {
        entries = entries_at _ (put_unseen entry_place g.place V.here.new (post V.here.new 0) fresh.entry)
            (entry_rows.make_tree R P Q r (entry_ghost g) b.inv.entries in_entries d.elsewhere since V);
        posts = grown n R P Q g (post_ghost (made_tree g V.here.new V.here.key))
            (subst (λ h. PostGrows P Q (post_ghost g)
            (record { place = h; low = put g.low_item V.here.new least; high = put g.high_item V.here.new greatest }))
            (sym (put_through post_place g.place V.here.new (post V.here.new 0)))
            (post_rows.make_tree R P Q r since (post_ghost g) b.inv.posts in_posts d.elsewhere b.inv.posts_rooted
            (meta_page some) V));
        key_of = λ s h e. put_else g.key_of V.here.new V.here.key s
            (λ z. clash s h (sym (ap post_place e) ∙ ap (λ (x : ℕ). post_place (g.place x)) z ∙ fresh.post));
      }
    where
      clash : (s h : ℕ) → nodes.TreePlace.tree s h ≡ nodes.TreePlace.none → ⊥
      clash s h e = cc

  -- 15
  pub add_postings_trees : IsAddPostings R P Q r → TreesStep n R P Q g g
  add_postings_trees V =
      let was = one_page P (changed r) V.here.page V.here.old V.here.pages V.here.before_is in
      record {
        entries = quiet_entries (of_one (λ p. entry_place (g.place p) ≡ nodes.TreePlace.none)
            (changed r) V.here.page V.here.pages
            (in_entries.none_at V.here.page
            (subst IsNoEntryPage (sym (ap (λ (p : Page). p.body) was ∙ V.here.was)) tt)));
        posts = none_gone n R P Q g (post_ghost g)
            (post_rows.add_postings R P Q r since (post_ghost g) b.inv.posts in_posts d.elsewhere b.inv.posts_rooted
            (are_named P g b.inv.named) V);
        key_of = λ s h e. refl;
      }

  -- 18
  pub remove_items_trees : IsRemoveItems R P Q r floor → TreesStep n R P Q g g
  remove_items_trees V =
      let s = post_rows.remove_items R P Q r since (post_ghost g) b.inv.posts in_posts d.elsewhere floor V in
      record {
        entries = entry_rows.remove_items R P Q r (entry_ghost g) b.inv.entries in_entries d.elsewhere floor V;
        posts = (
          s.0,
          λ k stays. s.1 k
              (λ m. stays (let i = of_map at k V.here.removed m in (i.0, i.2, leaves i.0 (V.rest i.0 i.1)))),
        );
        key_of = λ s h e. refl;
      }
    where
      leaves : (i : ℕ) → MayLeave R P floor i → MayLeave R P n i
      leaves i m = record {
        doc = m.doc;
        head = m.head;
        item = m.item;
        has = m.has;
        dead =
            dead_more R floor n m.doc b.floor_is m.dead;
        no_row = m.no_row;
      }

  -- 19
  pub delete_post_trees : (V : IsDeletePost R P Q r) → (t : ℕ) × (g.place V.here.page ≡ post t 0)
      × TreesStep n R P Q g (deleted_leaf g V.here.page V.here.next.page t)
  delete_post_trees V =
      let some = not_empty kind.DeletePost V.here.kind_is (λ e. cc) in
      let s = delete_post R P Q r since (post_ghost g) b.inv.posts in_posts d.elsewhere (meta_page some) V in
      let at_page : g.place V.here.page ≡ post s.0 0 = post_is (g.place V.here.page) s.0 0 s.1 in (
        s.0,
        at_page,
        record {
          entries = entries_at _ (put_unseen entry_place g.place V.here.page (left s.0) (ap entry_place at_page))
              (quiet_entries entry_apart);
          posts = none_gone n R P Q g (post_ghost (deleted_leaf g V.here.page V.here.next.page s.0))
              (subst (λ h. PostStep P Q (post_ghost g)
              (record { place = h; low = put g.low_item V.here.next.page (g.low_item V.here.page); high = g.high_item })
              [])
              (sym (put_through post_place g.place V.here.page (left s.0))) s.2);
          key_of = λ s h e. refl;
        },
      )
    where
      entry_apart : (q : ℕ) → In q (changed r) → entry_place (g.place q) ≡ nodes.TreePlace.none
      entry_apart q m = in_entries.none_at q
          (no_entries R P Q r since (post_ghost g) b.inv.posts in_posts d.elsewhere
          (meta_page (not_empty kind.DeletePost V.here.kind_is (λ e. cc))) V q m)

  -- the pages of a tree show no other tree's
  entry_shows : (h : ℕ) (p : Page) → Fits L (entry h) p → IsNoPostPage p.body × (IsNoEntryPage p.body → ⊥)
  entry_shows zero p f = (subst IsNoPostPage (sym f.2) tt, λ x. subst IsNoEntryPage f.2 x)
  entry_shows (suc h) p f = (subst IsNoPostPage (sym f.1) tt, λ x. subst IsNoEntryPage f.1 x)

  post_shows : (t h : ℕ) (p : Page) → Fits L (post t h) p → IsNoEntryPage p.body × (IsNoPostPage p.body → ⊥)
  post_shows t zero p f = (subst IsNoEntryPage (sym f.2) tt, λ x. subst IsNoPostPage f.2 x)
  post_shows t (suc h) p f = (subst IsNoEntryPage (sym f.1) tt, λ x. subst IsNoPostPage f.1 x)

  -- a root is page 1, or of a posting tree
  root_is : R ≢ [] → (p : ℕ) → IsRoot P p → ((p ≡ 1) × ((h : ℕ) × (g.place 1 ≡ entry h)))
      ⊎ ((h : ℕ) × (g.place p ≡ post p h))
  root_is some p IsRoot.of_entries = inl (refl, b.inv.starts.page_1 some)
  root_is some p (IsRoot.of_postings k named) = inr (b.inv.named.is_root named.page p named.entry named.on named.names)

  -- 16
  grow_entries : (V : IsGrowRoot R P Q r since) → V.here.root ≡ 1 → (h : ℕ) → g.place 1 ≡ entry h → R ≢ []
      → TreesStep n R P Q g (grown_entries g V.here.new h)
  grow_entries V one h at_1 some =
      let shows = entry_shows h (P V.here.root)
      (subst (λ (x : Place). Fits L x (P V.here.root)) (ap g.place one ∙ at_1) (b.inv.kinds V.here.root)) in
      let fresh = new_apart V.here.new V.here.is_new in
      let apart_1 : 1 ≢ V.here.new =
      λ z. clash (sym (ap entry_place at_1) ∙ ap (λ (x : ℕ). entry_place (g.place x)) z ∙ fresh.entry) in
      record {
        entries = subst (λ f. EntryGrows P Q (entry_ghost g)
            (record { place = f; low = put g.low_key V.here.new least; high = put g.high_key V.here.new greatest }))
            (sym (put_through entry_place (put g.place V.here.new (entry h)) 1 (entry (suc h))
            ∙ ap (λ f. put f 1 (nodes.TreePlace.tree 1 (suc h)))
            (put_through entry_place g.place V.here.new (entry h))))
            (entry_rows.grow_root R P Q r (entry_ghost g) b.inv.entries in_entries d.elsewhere h
            (root_at (entry_nodes P) (entry_ghost g) b.inv.entries_rooted 1 h (ap entry_place at_1)) since V
            (meta_page some) one shows.1);
        posts = grown n R P Q g (post_ghost (grown_entries g V.here.new h))
            (posts_at _ (put_unseen post_place (put g.place V.here.new (entry h)) 1 (entry (suc h))
            (ap post_place (put_else g.place V.here.new (entry h) 1 apart_1 ∙ at_1))
            ∙ put_unseen post_place g.place V.here.new (entry h) fresh.post)
            (post_rows.grow_other R P Q r since (post_ghost g) b.inv.posts in_posts d.elsewhere V shows.0));
        key_of = λ s k e. refl;
      }
    where
      clash : nodes.TreePlace.tree 1 h ≡ nodes.TreePlace.none → ⊥
      clash e = cc

  grow_posts : (V : IsGrowRoot R P Q r since) → (h : ℕ) → g.place V.here.root ≡ post V.here.root h → R ≢ []
      → TreesStep n R P Q g (grown_posts g V.here.root V.here.new h)
  grow_posts V h at_root some =
      let shows = post_shows V.here.root h (P V.here.root)
      (subst (λ (x : Place). Fits L x (P V.here.root)) at_root (b.inv.kinds V.here.root)) in
      let fresh = new_apart V.here.new V.here.is_new in
      let apart_root : V.here.root ≢ V.here.new =
      λ z. clash (sym (ap post_place at_root) ∙ ap (λ (x : ℕ). post_place (g.place x)) z ∙ fresh.post) in
      record {
        entries = entries_at _ (put_unseen entry_place (put g.place V.here.new (post V.here.root h)) V.here.root
            (post V.here.root (suc h))
            (ap entry_place (put_else g.place V.here.new (post V.here.root h) V.here.root apart_root ∙ at_root))
            ∙ put_unseen entry_place g.place V.here.new (post V.here.root h) fresh.entry)
            (entry_rows.grow_other R P Q r (entry_ghost g) b.inv.entries in_entries d.elsewhere since V shows.0);
        posts = grown n R P Q g (post_ghost (grown_posts g V.here.root V.here.new h))
            (subst (λ f. PostGrows P Q (post_ghost g)
            (record { place = f; low = put g.low_item V.here.new least; high = put g.high_item V.here.new greatest }))
            (sym (put_through post_place (put g.place V.here.new (post V.here.root h)) V.here.root
            (post V.here.root (suc h))
            ∙ ap (λ f. put f V.here.root (nodes.TreePlace.tree V.here.root (suc h)))
            (put_through post_place g.place V.here.new (post V.here.root h))))
            (post_rows.grow_root R P Q r since (post_ghost g) b.inv.posts in_posts d.elsewhere h V
            (root_at (post_nodes P) (post_ghost g) b.inv.posts_rooted V.here.root h (ap post_place at_root))
            (meta_page some) shows.1));
        key_of = λ s k e. refl;
      }
    where
      clash : nodes.TreePlace.tree V.here.root h ≡ nodes.TreePlace.none → ⊥
      clash e = cc

  pub grow_root_trees : (V : IsGrowRoot R P Q r since)
      → ((h : ℕ) × (V.here.root ≡ 1) × (g.place 1 ≡ entry h) × TreesStep n R P Q g (grown_entries g V.here.new h))
      ⊎ ((h : ℕ) × (g.place V.here.root ≡ post V.here.root h)
      × TreesStep n R P Q g (grown_posts g V.here.root V.here.new h))
  grow_root_trees V =
      let some = not_empty kind.GrowRoot V.here.kind_is (λ e. cc) in
      elim (root_is some V.here.root V.rest) [
        | inl k ↦ inl (k.1.0, k.0, k.1.1, grow_entries V k.0 k.1.0 k.1.1 some)
        | inr k ↦ inr (k.0, k.1, grow_posts V k.0 k.1 some)
      ]
