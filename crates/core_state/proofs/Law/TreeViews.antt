-- What pages of trees show, before and after a record.
use Rattle.std.proofs.Common.{◌≡◌, ◌≤◌, ℕ, zero, suc, [], refl, sym, ap, subst, ◌∙◌}
use Rattle.page_types.specs.Items.{items_of}
use Rattle.page_types.specs.Views.{entries_of, posting_items_in}
use Rattle.page_types.specs.declared.page.Page.{Page}
use Rattle.page_types.specs.declared.page.Entry.{Entry}
use Rattle.page_types.specs.declared.page.Body.{Body}
use Rattle.page_types.specs.declared.record.Record.{Record}
use Rattle.core_state.specs.Log.{Log, Pages, In}
use Rattle.core_state.specs.VacuumRules.{MayLeave}
use Rattle.core_state.specs.Inner.Ghosts.{Ghost}
use Rattle.core_state.specs.Inner.Ghosts.Place.{entry, post}
use Rattle.core_state.specs.Inner.Kinds.{Fits}
use Rattle.core_state.proofs.FateSteps.{dead_more}
use Rattle.core_state.proofs.Law.MainPlaces.{MainAt}
use Rattle.core_state.proofs.Law.TreeKinds.{EntryWas, EntryNow}

-- no bytes are the list of no items
pub no_items : items_of [] ≡ []
unfolding items_of
no_items = refl

-- content fits a place of a tree on whichever page
pub fits_entry : (L h : ℕ) (p q : Page) → q.body ≡ p.body → Fits L (entry h) p → Fits L (entry h) q
fits_entry L zero p q e f = (f.0, f.1, e ∙ f.2)
fits_entry L (suc h) p q e f = (f.0, e ∙ f.1)

pub fits_post : (L r h : ℕ) (p q : Page) → q.body ≡ p.body → Fits L (post r h) p → Fits L (post r h) q
fits_post L r zero p q e f = (f.0, f.1, e ∙ f.2)
fits_post L r (suc h) p q e f = (f.0, e ∙ f.1)

-- a page of a posting tree has no entries, and one of the entry tree no items
pub post_entries : (L r h : ℕ) (p : Page) → Fits L (post r h) p → entries_of p ≡ []
post_entries L r zero p f = ap (λ (b : Body). entries_of (record { right = 0; stamp = 0; body = b })) f.2
post_entries L r (suc h) p f = ap (λ (b : Body). entries_of (record { right = 0; stamp = 0; body = b })) f.1

pub body_entries : (p : Page) (b : Body) → p.body ≡ b
    → entries_of p ≡ entries_of (record { right = 0; stamp = 0; body = b })
body_entries p b e = ap (λ (c : Body). entries_of (record { right = 0; stamp = 0; body = c })) e

pub body_items : (p : Page) (b : Body) → p.body ≡ b → posting_items_in p.body ≡ posting_items_in b
body_items p b e = ap posting_items_in e

module _ (n : ℕ) (R : Log) (P Q : Pages) (g g' : Ghost) where
  -- entries of a page that is the same
  pub same_was : (q : ℕ) (e : Entry) → entries_of (Q q) ≡ entries_of (P q) → In e (entries_of (Q q))
      → EntryWas P g g' e
  same_was q e s i = EntryWas.was q e (subst (In e) s i) refl refl

  pub same_now : (r : Record) (q : ℕ) (e : Entry) → entries_of (Q q) ≡ entries_of (P q) → In e (entries_of (P q))
      → EntryNow n R P Q r g' e
  same_now r q e s i = EntryNow.now q e (subst (In e) (sym s) i) refl refl

  -- items of a leaf that is the same
  pub leaf_same : (q s i : ℕ) → g.place q ≡ post s 0 → g.key_of s ≡ g'.key_of s
      → posting_items_in (Q q).body ≡ posting_items_in (P q).body → In i (posting_items_in (Q q).body)
      → MainAt P g (g'.key_of s) i
  leaf_same q s i at key e m = MainAt.posted q s at key (subst (In i) e m)

  pub leaf_stays : (q s i : ℕ) → g'.place q ≡ post s 0 → g'.key_of s ≡ g.key_of s
      → posting_items_in (Q q).body ≡ posting_items_in (P q).body → In i (posting_items_in (P q).body)
      → MainAt Q g' (g.key_of s) i
  leaf_stays q s i at key e m = MainAt.posted q s at key (subst (In i) (sym e) m)

  -- what may leave by a smaller floor may by n
  pub may_leave : (floor i : ℕ) → floor ≤ n → MayLeave R P floor i → MayLeave R P n i
  may_leave floor i le m = record {
    doc = m.doc;
    head = m.head;
    item = m.item;
    has = m.has;
    dead = dead_more R floor n m.doc le m.dead;
    no_row =
        m.no_row;
  }

pub same_post : (a b h k : ℕ) → post a h ≡ post b k → (a ≡ b) × (h ≡ k)
same_post a b h k e = (cc, cc)

pub same_entry : (h k : ℕ) → entry h ≡ entry k → h ≡ k
same_entry h k e = cc

pub entry_not_post : (h r k : ℕ) → entry h ≡ post r k → ⊥
entry_not_post h r k e = cc
