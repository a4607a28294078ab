-- What the steps of trees ask of pages and places follows from the fields of the invariant.
use Rattle.std.proofs.Common.{◌≡◌, ◌≢◌, ◌⊎◌, ◌≤◌, ℕ, zero, suc, ◌==◌, Bool, true, false, cond, [], length, refl, ap}
use Rattle.std.proofs.Common.{subst, ◌∙◌, arith}
use Rattle.std.proofs.Math.Path.{fun_ext}
use Rattle.page_types.specs.declared.page.Page.{Page}
use Rattle.page_types.specs.declared.page.Body.TheVariants as body
use Rattle.core_state.specs.Log.{Log, Pages}
use Rattle.core_state.specs.Trees.Nodes as nodes
use Rattle.core_state.specs.Trees.Nodes.{put}
use Rattle.core_state.specs.Inner.Ghosts.{Place, Ghost, entry_place, post_place, entry_ghost, post_ghost}
use Rattle.core_state.specs.Inner.Ghosts.Place.{unused, meta, heap, line, past, shifted, left, entry, post, overflow_of}
use Rattle.core_state.specs.Inner.Ghosts.Place.{private_of}
use Rattle.core_state.specs.Inner.Kinds.{Fits, KindsFit, PagesStart}
use Rattle.core_state.specs.Inner.Owners.{TreesNamed}
use Rattle.core_state.specs.Inner.TreePlaces.{EntryPlaces, PostPlaces, IsNoEntryPage, IsNoPostPage, HasMeta, AreNamed}
use Rattle.core_state.proofs.Law.Places.{place_for}
use Rattle.core_state.proofs.Law.NewPlaces.{nowhere_loose, new_nowhere}

-- a place that is in a tree
pub entry_is : (x : Place) (r h : ℕ) → entry_place x ≡ nodes.TreePlace.tree r h → x ≡ entry h
entry_is (entry k) r h e = cc
entry_is unused r h e = absurd (cc)
entry_is meta r h e = absurd (cc)
entry_is heap r h e = absurd (cc)
entry_is line r h e = absurd (cc)
entry_is past r h e = absurd (cc)
entry_is shifted r h e = absurd (cc)
entry_is (left s) r h e = absurd (cc)
entry_is (post s k) r h e = absurd (cc)
entry_is (overflow_of i) r h e = absurd (cc)
entry_is (private_of i) r h e = absurd (cc)

-- a page of another kind is in no tree
no_entry : (L : ℕ) (x : Place) (p : Page) → Fits L x p → IsNoEntryPage p.body → entry_place x ≡ nodes.TreePlace.none
no_entry L (entry zero) p f n = absurd (subst IsNoEntryPage f.2 n)
no_entry L (entry (suc h)) p f n = absurd (subst IsNoEntryPage f.1 n)
no_entry L unused p f n = refl
no_entry L meta p f n = refl
no_entry L heap p f n = refl
no_entry L line p f n = refl
no_entry L past p f n = refl
no_entry L shifted p f n = refl
no_entry L (left r) p f n = refl
no_entry L (post r h) p f n = refl
no_entry L (overflow_of i) p f n = refl
no_entry L (private_of i) p f n = refl

no_post : (L : ℕ) (x : Place) (p : Page) → Fits L x p → IsNoPostPage p.body → post_place x ≡ nodes.TreePlace.none
no_post L (post r zero) p f n = absurd (subst IsNoPostPage f.2 n)
no_post L (post r (suc h)) p f n = absurd (subst IsNoPostPage f.1 n)
no_post L (left r) p f n = absurd (subst IsNoPostPage f.1 n)
no_post L unused p f n = refl
no_post L meta p f n = refl
no_post L heap p f n = refl
no_post L line p f n = refl
no_post L past p f n = refl
no_post L shifted p f n = refl
no_post L (entry h) p f n = refl
no_post L (overflow_of i) p f n = refl
no_post L (private_of i) p f n = refl

module _ (L : ℕ) (P : Pages) (g : Ghost) (K : KindsFit L P g) where
  pub entry_places : EntryPlaces P (entry_ghost g)
  entry_places = record {
    leaf_at = λ p high es e. ap entry_place (place_for L (g.place p) (P p) (body.EntryLeaf high es) (K p) e);
    inner_at = λ p cs e. let x = place_for L (g.place p) (P p) (body.EntryInner cs) (K p) e in
        (x.0, ap entry_place x.1);
    none_at = λ p n. no_entry L (g.place p) (P p) (K p) n;
  }

  pub post_places : (R : Log) (since : ℕ) → PagesStart R P g → (since ≤ L) ⊎ (L ≡ length R)
      → PostPlaces P since (post_ghost g)
  post_places R since T low = record {
    leaf_at = λ p high is e. let x = place_for L (g.place p) (P p) (body.PostLeaf high is) (K p) e in
        (x.0, ap post_place x.1);
    inner_at = λ p cs e. let x = place_for L (g.place p) (P p) (body.PostInner cs) (K p) e in
        (x.0, x.1, ap post_place x.2);
    none_at = λ p n. no_post L (g.place p) (P p) (K p) n;
    new_at = λ p n. (nowhere_loose (g.place p) (new_nowhere L since R P g K T low p n)).post;
  }

  pub has_meta : (R : Log) → PagesStart R P g → R ≢ [] → HasMeta P
  has_meta R T some = subst (λ (x : Place). Fits L x (P 0)) (T.page_0 some) (K 0)

pub are_named : (P : Pages) (g : Ghost) → TreesNamed P g → AreNamed P (post_ghost g)
are_named P g T k r n = let h = T.is_root n.page r n.entry n.on n.names in (h.0, ap post_place h.1)

-- a change at one page, seen through a function
pub put_through : {A B : Type 0} (F : A → B) (f : ℕ → A) (p : ℕ) (x : A)
    → ◌≡◌ {A = ℕ → B} (λ q. F (put f p x q)) (put (λ q. F (f q)) p (F x))
put_through F f p x = fun_ext (λ q. either (p == q) (f q))
  where
    either : (b : Bool) (y : _) → F (cond b x y) ≡ cond b (F x) (F y)
    either true y = refl
    either false y = refl

-- a change to what was there is none
pub put_same : {A : Type 0} (f : ℕ → A) (p : ℕ) (x : A) → f p ≡ x → put f p x ≡ f
put_same f p x e = fun_ext (λ q. at q)
  where
    at : (q : ℕ) → put f p x q ≡ f q
    at q = grind (arith, e)

-- nor does a change show through a function that doesn't say it from what was there
pub put_unseen : {A B : Type 0} (F : A → B) (f : ℕ → A) (p : ℕ) (x : A) → F (f p) ≡ F x
    → ◌≡◌ {A = ℕ → B} (λ q. F (put f p x q)) (λ q. F (f q))
put_unseen F f p x e = put_through F f p x ∙ put_same (λ q. F (f q)) p (F x) e
