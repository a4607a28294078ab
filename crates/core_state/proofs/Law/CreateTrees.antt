-- What the first record does to the trees: the entry tree is made.
use Rattle.std.proofs.Common.{◌≡◌, ℕ, [], ◌∷◌, length, refl, sym, ap, subst, ◌∙◌, inl, inr, arith}
use Rattle.page_types.specs.Views.{free_page}
use Rattle.page_types.specs.declared.page.Page.{Page}
use Rattle.page_types.specs.declared.page.Body.TheVariants as body
use Rattle.page_types.specs.declared.record.Record.{Record}
use Rattle.core_state.specs.Log.{Log, Pages, Shows, changed}
use Rattle.core_state.specs.Changes.{made_with}
use Rattle.core_state.specs.TransactionRules.{IsCreate}
use Rattle.core_state.specs.Trees.Ext.Ext.{least, greatest}
use Rattle.core_state.specs.Trees.Nodes as nodes
use Rattle.core_state.specs.Trees.Nodes.{put}
use Rattle.core_state.specs.Trees.TreeNodes.{entry_node, entry_nodes}
use Rattle.core_state.specs.Inner.Ghosts.{Ghost, entry_place, post_place, entry_ghost, post_ghost}
use Rattle.core_state.specs.Inner.Ghosts.Place.{unused, meta, entry}
use Rattle.core_state.specs.Inner.GhostSteps.{created}
use Rattle.core_state.proofs.Showing.{none_yet, shown_one, shown_none}
use Rattle.core_state.proofs.PageLists.{two_pages, same_or_not}
use Rattle.core_state.proofs.Trees.Members.{off_two}
use Rattle.core_state.proofs.Trees.Order.{put_else}
use Rattle.core_state.proofs.Trees.Lists.{make_ghost}
use Rattle.core_state.proofs.Trees.Steps.{Grows}
use Rattle.core_state.proofs.Trees.EntryViews.{EntryGrows}
use Rattle.core_state.proofs.Law.Steps.{Before, Left, TreesStep}
use Rattle.core_state.proofs.Law.Places.{place_for}
use Rattle.core_state.proofs.Law.TreeFields.{put_through, put_unseen}
use Rattle.core_state.proofs.Law.TreeCases.{posts_at, quiet_posts, grown}

-- an empty log shows free pages
pub all_free : (R : Log) (P : Pages) → length R ≡ 0 → Shows R P → (p : ℕ) → P p ≡ free_page
all_free [] P e shown p = ap (λ (T : Pages). T p) (shown_one [] P none_yet shown shown_none)
all_free (r ∷ R) P e shown p = absurd (omega (arith, e))

module _ (n L : ℕ) (R : Log) (P Q : Pages) (r : Record) (floor since : ℕ) (g : Ghost)
    (b : Before n L R P Q r floor since g) (d : Left n since R P Q r) (V : IsCreate R P Q r) where
  pub free : (p : ℕ) → P p ≡ free_page
  free p = all_free R P V.here.empty b.shown p

  -- no page is used
  pub none_used : (p : ℕ) → g.place p ≡ unused
  none_used p = place_for L (g.place p) (P p) body.Free (b.inv.kinds p) (ap (λ (q : Page). q.body) (free p))

  no_entry : (p : ℕ) → entry_place (g.place p) ≡ nodes.TreePlace.none
  no_entry p = ap entry_place (none_used p)

  no_post : (p : ℕ) → post_place (g.place p) ≡ nodes.TreePlace.none
  no_post p = ap post_place (none_used p)

  pub is : (Q 0 ≡ made_with r 0 (body.Meta 0 0 0)) × (Q 1 ≡ made_with r 0 (body.EntryLeaf [] []))
  is = two_pages Q (changed r) 0 1 _ _ V.here.pages V.here.after_is

  places : ◌≡◌ {A = ℕ → nodes.TreePlace} (λ q. entry_place (put (put g.place 0 meta) 1 (entry 0) q))
      (put (λ q. entry_place (g.place q)) 1 (nodes.TreePlace.tree 1 0))
  places = put_through entry_place (put g.place 0 meta) 1 (entry 0)
      ∙ ap (λ f. put f 1 (nodes.TreePlace.tree 1 0)) (put_unseen entry_place g.place 0 meta (no_entry 0))

  made : EntryGrows P Q (entry_ghost g) (make_ghost (entry_ghost g) least greatest 1)
  made = (
    Grows.make 1 (record {
      new = no_entry 1;
      not_zero = λ e. omega (arith, e);
      no_tree = λ x h e. not_tree h (sym (no_entry x) ∙ e);
      no_left = λ x e. not_left (sym (no_entry x) ∙ e);
      keys = [];
      after_new = ap entry_node is.1;
      within = λ k m. absurd m;
      else = λ x one. elim (same_or_not 0 x) [
        | inl e ↦ ap (entry_nodes Q) e ∙ ap entry_node is.0 ∙ sym (ap entry_node (free x))
        | inr zero_not ↦ ap entry_node (d.elsewhere x (off_two x 0 1 zero_not one (changed r) V.here.pages))
      ];
    }) refl,
    λ k. tt,
  )
    where
      not_tree : (h : ℕ) → nodes.TreePlace.none ≡ nodes.TreePlace.tree 1 h → ⊥
      not_tree h e = cc

      not_left : nodes.TreePlace.none ≡ nodes.TreePlace.left 1 → ⊥
      not_left e = cc

  -- 1
  pub create_trees : TreesStep n R P Q g (created g)
  create_trees = record {
    entries = subst (λ f. EntryGrows P Q (entry_ghost g)
        (record { place = f; low = put g.low_key 1 least; high = put g.high_key 1 greatest })) (sym places) made;
    posts = grown n R P Q g (post_ghost (created g)) (posts_at n L R P Q r floor since g b d _
        (put_unseen post_place (put g.place 0 meta) 1 (entry 0)
        (ap post_place (put_else g.place 0 meta 1 (λ e. omega (arith, e))) ∙ no_post 1)
        ∙ put_unseen post_place g.place 0 meta (no_post 0))
        (quiet_posts n L R P Q r floor since g b d (λ q m. no_post q)));
    key_of = λ s h e. refl;
  }
