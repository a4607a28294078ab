-- What a division does to the trees, by the fields of the invariant: with the ghosts after it.
use Rattle.std.proofs.Common.{◌≡◌, ◌≢◌, ◌⊎◌, ℕ, refl, sym, ap, subst, ◌∙◌, inl, inr}
use Rattle.ts_base.specs.Keys.{Key}
use Rattle.page_types.specs.declared.page.Page.{Page}
use Rattle.page_types.specs.declared.page.Body.{Body}
use Rattle.page_types.specs.declared.record.Record.{Record}
use Rattle.page_types.specs.declared.record.Kind.TheVariants as kind
use Rattle.core_state.specs.Log.{Log, Pages, changed}
use Rattle.core_state.specs.Changes.{made_with}
use Rattle.core_state.specs.TreeRules.{EntryHalves, PostHalves, EntryParent, PostParent, IsDivided, IsSplit}
use Rattle.core_state.specs.Trees.Nodes as nodes
use Rattle.core_state.specs.Trees.Nodes.{put}
use Rattle.core_state.specs.Trees.TreeNodes.{bound, child_bound}
use Rattle.core_state.specs.Inner.TreePlaces.{IsNoEntryPage, IsNoPostPage}
use Rattle.core_state.specs.Inner.Ghosts.{Ghost, entry_place, post_place, entry_ghost, post_ghost}
use Rattle.core_state.specs.Inner.Ghosts.Place.{entry, post}
use Rattle.core_state.specs.Inner.GhostSteps.{split_entries, split_posts}
use Rattle.core_state.proofs.PageLists.{of_three, three_pages}
use Rattle.core_state.proofs.Trees.Members.{off_three}
use Rattle.core_state.proofs.Trees.EntryViews.{EntryGrows, new_not_zero}
use Rattle.core_state.proofs.Trees.PostViews.{PostGrows}
use Rattle.core_state.proofs.Trees.EntrySplit as entry_split
use Rattle.core_state.proofs.Trees.PostSplit as post_split
use Rattle.core_state.proofs.Law.Steps.{Before, Left, TreesStep}
use Rattle.core_state.proofs.Law.Belows.{post_is}
use Rattle.core_state.proofs.Law.LooseSteps.{Loose}
use Rattle.core_state.proofs.Law.TreeFields.{entry_is, put_through, put_unseen}
use Rattle.core_state.proofs.Law.TreeCases.{in_entries, in_posts, not_empty, meta_page, new_apart, quiet_entries}
use Rattle.core_state.proofs.Law.TreeCases.{quiet_posts, entries_at, posts_at, grown}

-- what is divided is a page of the tree in which it is divided
entry_whole : (mid : Key) (whole left right : Body) → EntryHalves mid whole left right → IsNoPostPage whole
entry_whole mid whole left right (EntryHalves.leaves high es fs a b c d) = tt
entry_whole mid whole left right (EntryHalves.inners last cs ds a b) = tt

post_whole : (mid : ℕ) (whole left right : Body) → PostHalves mid whole left right → IsNoEntryPage whole
post_whole mid whole left right (PostHalves.leaves high all is js a b c d e) = tt
post_whole mid whole left right (PostHalves.inners last cs ds a b) = tt

module _ (n L : ℕ) (R : Log) (P Q : Pages) (r : Record) (floor since : ℕ) (g : Ghost)
    (b : Before n L R P Q r floor since g) (d : Left n since R P Q r) (V : IsSplit R P Q r since) where
  abbrev page : ℕ
  page = V.here.page

  abbrev new : ℕ
  new = V.here.new

  abbrev parent : ℕ
  parent = V.here.parent

  -- a page of the entry tree, or of a posting tree, is divided
  abbrev pub SplitsEntries : Type 0
  SplitsEntries = (mid : Key) × (h : ℕ) × (g.place page ≡ entry h)
      × TreesStep n R P Q g (split_entries g page new h (bound mid))

  abbrev pub SplitsPosts : Type 0
  SplitsPosts = (mid : ℕ) × (t : ℕ) × (h : ℕ) × (g.place page ≡ post t h)
      × TreesStep n R P Q g (split_posts g page new t h (child_bound mid))

  was : (P page ≡ V.here.old) × (P new ≡ V.here.was) × (P parent ≡ V.here.old_parent)
  was = three_pages P (changed r) page new parent V.here.old V.here.was V.here.old_parent V.here.pages V.here.before_is

  is : (Q page ≡ made_with r new V.here.left) × (Q new ≡ made_with r V.here.old.right V.here.right)
      × (Q parent ≡ made_with r V.here.old_parent.right V.here.parent_after)
  is = three_pages Q (changed r) page new parent _ _ _ V.here.pages V.here.after_is

  was_page : (P page).body ≡ V.here.old.body
  was_page = ap (λ (p : Page). p.body) was.0

  was_parent : (P parent).body ≡ V.here.old_parent.body
  was_parent = ap (λ (p : Page). p.body) was.2

  now_new : Q new ≡ made_with r (P page).right V.here.right
  now_new = is.1 ∙ ap (λ (p : Page). made_with r p.right V.here.right) (sym was.0)

  now_parent : Q parent ≡ made_with r (P parent).right V.here.parent_after
  now_parent = is.2 ∙ ap (λ (p : Page). made_with r p.right V.here.parent_after) (sym was.2)

  else : (x : ℕ) → x ≢ page → x ≢ new → x ≢ parent → Q x ≡ P x
  else x a c e = d.elsewhere x (off_three x page new parent a c e (changed r) V.here.pages)

  fresh : Loose (g.place new)
  fresh = new_apart n L R P Q r floor since g b d new V.here.is_new

  not_zero : new ≢ 0
  not_zero = new_not_zero P
      (meta_page n L R P Q r floor since g b d
      (not_empty n L R P Q r floor since g b d kind.Split V.here.kind_is (λ e. cc))) since new V.here.is_new

  in_entry_tree : (mid : Key) → EntryHalves mid V.here.old.body V.here.left V.here.right
      → EntryParent page new mid V.here.old_parent.body V.here.parent_after → SplitsEntries
  in_entry_tree mid H E =
      let s = entry_split.split_entries P Q r page new parent (entry_ghost g) b.inv.entries
      (in_entries n L R P Q r floor since g b d) fresh.entry not_zero else mid
      V.here.old_parent.body V.here.parent_after E was_parent now_parent V.here.old.body V.here.left V.here.right H
      was_page is.0 now_new (b.shown_after page).0 in (
        mid,
        s.0,
        entry_is (g.place page) 1 s.0 s.1,
        record {
          entries = subst (λ f. EntryGrows P Q (entry_ghost g)
              (record {
                place = f;
                low = put g.low_key new (bound mid);
                high =
                    put (put g.high_key new (g.high_key page)) page (bound mid);
              }))
              (sym (put_through entry_place g.place new (entry s.0))) s.2;
          posts = grown n R P Q g (post_ghost (split_entries g page new s.0 (bound mid)))
              (posts_at n L R P Q r floor since g b d _ (put_unseen post_place g.place new (entry s.0) fresh.post)
              (quiet_posts n L R P Q r floor since g b d
              (of_three (λ q. post_place (g.place q) ≡ nodes.TreePlace.none) (changed r) page new parent V.here.pages
              (no_post page V.here.old.body was_page (entry_whole mid V.here.old.body V.here.left V.here.right H))
              fresh.post
              (no_post parent _ (was_parent ∙ E.before) tt))));
          key_of = λ x k e. refl;
        },
      )
    where
      no_post : (p : ℕ) (c : Body) → (P p).body ≡ c → IsNoPostPage c → post_place (g.place p) ≡ nodes.TreePlace.none
      no_post p c e m = (in_posts n L R P Q r floor since g b d).none_at p (subst IsNoPostPage (sym e) m)

  in_post_tree : (mid : ℕ) → PostHalves mid V.here.old.body V.here.left V.here.right
      → PostParent page new mid V.here.old_parent.body V.here.parent_after → SplitsPosts
  in_post_tree mid H E =
      let s = post_split.split_postings P Q r page new parent since (post_ghost g) b.inv.posts
      (in_posts n L R P Q r floor since g b d) fresh.post not_zero else mid
      V.here.old_parent.body V.here.parent_after E was_parent now_parent V.here.old.body V.here.left V.here.right H
      was_page is.0 now_new (b.shown_after page).0 in (
        mid,
        s.0,
        s.1,
        post_is (g.place page) s.0 s.1 s.2,
        record {
          entries = entries_at n L R P Q r floor since g b d _
              (put_unseen entry_place g.place new (post s.0 s.1) fresh.entry)
              (quiet_entries n L R P Q r floor since g b d
              (of_three (λ q. entry_place (g.place q) ≡ nodes.TreePlace.none) (changed r) page new parent V.here.pages
              (no_entry page V.here.old.body was_page (post_whole mid V.here.old.body V.here.left V.here.right H))
              fresh.entry
              (no_entry parent _ (was_parent ∙ E.before) tt)));
          posts = grown n R P Q g (post_ghost (split_posts g page new s.0 s.1 (child_bound mid)))
              (subst (λ f. PostGrows P Q (post_ghost g)
              (record {
                place = f;
                low = put g.low_item new (child_bound mid);
                high =
                    put (put g.high_item new (g.high_item page)) page (child_bound mid);
              }))
              (sym (put_through post_place g.place new (post s.0 s.1))) s.3);
          key_of = λ x k e. refl;
        },
      )
    where
      no_entry : (p : ℕ) (c : Body) → (P p).body ≡ c → IsNoEntryPage c → entry_place (g.place p) ≡ nodes.TreePlace.none
      no_entry p c e m = (in_entries n L R P Q r floor since g b d).none_at p (subst IsNoEntryPage (sym e) m)

  -- 17
  pub split_trees : SplitsEntries ⊎ SplitsPosts
  split_trees = elim (either V.here.old.body V.here.left V.here.right V.here.old_parent.body V.here.parent_after
      V.here.divided) [
        | inl k ↦ inl (in_entry_tree k.0 k.1 k.2)
        | inr k ↦ inr (in_post_tree k.0 k.1 k.2)
      ]
    where
      either : (whole left right pb pa : Body) → IsDivided page new whole left right pb pa
          → ((mid : Key) × EntryHalves mid whole left right × EntryParent page new mid pb pa)
          ⊎ ((mid : ℕ) × PostHalves mid whole left right × PostParent page new mid pb pa)
      either whole left right pb pa (IsDivided.in_entries mid H E) = inl (mid, H, E)
      either whole left right pb pa (IsDivided.in_postings mid H E) = inr (mid, H, E)
