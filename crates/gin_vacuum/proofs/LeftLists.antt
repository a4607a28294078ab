-- The lists of a leaf from which dead items are gone, and the trees that it names.
use Rattle.std.proofs.Common.{◌≡◌, ℕ, List, [], ◌∷◌, refl, sym, ap, subst, ◌∙◌, inl, inr}
use Rattle.std.specs.Prelude.{Option, Some, None}
use Rattle.page_types.specs.Items.{items_of}
use Rattle.page_types.specs.Views.{entries_in, list_in}
use Rattle.page_types.specs.declared.page.Page.{Page}
use Rattle.page_types.specs.declared.page.Entry.{Entry}
use Rattle.page_types.specs.declared.page.Postings.{Postings}
use Rattle.page_types.specs.declared.page.Postings.TheVariants.{Inline, Root}
use Rattle.page_types.specs.declared.page.Body.{Body}
use Rattle.core_state.specs.Log.{In}
use Rattle.posting_tree.specs.Removing.{IsEntryLeft, AreEntriesLeft, IsLeafLeft}
use Rattle.gin_vacuum.specs.Inner.Reading.{IsCleaned, body_after}
use Rattle.gin_vacuum.proofs.Removed.{contained, loses}
use Rattle.gin_vacuum.proofs.TreesStay.{entries_were}

module _ (dead : List ℕ) where
  -- ── of the leaf that is left ──

  entry_clean : (e f : Entry) → IsEntryLeft dead e f → (list : List ℕ) (i : ℕ) → f.postings ≡ Inline list → In i dead
      → In i (items_of list) → ⊥
  entry_clean _ _ (IsEntryLeft.listed key old new l) list i is d on =
      let e : list ≡ new = cc in
      ((l.has i).0 (contained i (items_of new) (subst (λ (xs : List ℕ). In i (items_of xs)) e on))).1
      (contained i dead d)
  entry_clean _ _ (IsEntryLeft.tree key root) list i is d on = absurd (let z : ⊥ = cc in z)

  entries_clean : (es fs : List Entry) → AreEntriesLeft dead es fs → (f : Entry) → In f fs → (list : List ℕ) (i : ℕ)
      → f.postings ≡ Inline list → In i dead → In i (items_of list) → ⊥
  entries_clean [] [] a f there list i is d on = there
  entries_clean [] (g ∷ fs) a f there list i is d on = a
  entries_clean (e ∷ es) [] a f there list i is d on = there
  entries_clean (e ∷ es) (g ∷ fs) a f (inl s) list i is d on =
      entry_clean e g a.0 list i (ap (λ (x : Entry). x.postings) (sym s) ∙ is) d on
  entries_clean (e ∷ es) (g ∷ fs) a f (inr there) list i is d on = entries_clean es fs a.1 f there list i is d on

  leaf_clean : (b c : Body) → IsLeafLeft dead b c → (f : Entry) → In f (entries_in c) → (list : List ℕ) (i : ℕ)
      → f.postings ≡ Inline list → In i dead → In i (items_of list) → ⊥
  leaf_clean _ _ (IsLeafLeft.entries high old new all) f there list i is d on =
      entries_clean old new all f there list i is d on
  leaf_clean _ _ (IsLeafLeft.postings high old new l) f there list i is d on = there

  -- an entry that names a tree is there still
  entries_stay : (es fs : List Entry) → AreEntriesLeft dead es fs → (e : Entry) (root : ℕ) → In e es
      → e.postings ≡ Root root → (f : Entry) × In f fs × (f.postings ≡ Root root)
  entries_stay [] fs a e root there is = absurd there
  entries_stay (d ∷ es) [] a e root there is = absurd a
  entries_stay (d ∷ es) (g ∷ fs) a e root (inl s) is =
      (g, inl refl, same d g a.0 (ap (λ (x : Entry). x.postings) (sym s) ∙ is))
    where
      same : (d g : Entry) → IsEntryLeft dead d g → d.postings ≡ Root root → g.postings ≡ Root root
      same _ _ (IsEntryLeft.listed key old new l) is = absurd (let z : ⊥ = cc in z)
      same _ _ (IsEntryLeft.tree key r) is = is
  entries_stay (d ∷ es) (g ∷ fs) a e root (inr there) is =
      let x = entries_stay es fs a.1 e root there is in (x.0, inr x.1, x.2)

  leaf_stay : (b c : Body) → IsLeafLeft dead b c → (e : Entry) (root : ℕ) → In e (entries_in b)
      → e.postings ≡ Root root → (f : Entry) × In f (entries_in c) × (f.postings ≡ Root root)
  leaf_stay _ _ (IsLeafLeft.entries high old new all) e root there is = entries_stay old new all e root there is
  leaf_stay _ _ (IsLeafLeft.postings high old new l) e root there is = absurd there

  -- ── in either case ──

  module _ (page : Page) where
    pub clean_list : (cleaned : Option Page) → IsCleaned dead page cleaned → (f : Entry) (list : List ℕ) (i : ℕ)
        → In f (entries_in (body_after page cleaned)) → f.postings ≡ Inline list → In i dead → In i (items_of list) → ⊥
    clean_list None x f list i there is d on =
        x.none i (inl (
          f,
          there,
          contained i (items_of (list_in f.postings))
              (subst (λ (b : Postings). In i (items_of (list_in b))) (sym is) on),
        )) (contained i dead d)
    clean_list (Some new) x f list i there is d on = leaf_clean page.body new.body x.left.0 f there list i is d on

    pub root_after : (cleaned : Option Page) → IsCleaned dead page cleaned → (e : Entry) (root : ℕ)
        → In e (entries_in page.body) → e.postings ≡ Root root
        → (f : Entry) × In f (entries_in (body_after page cleaned)) × (f.postings ≡ Root root)
    root_after None x e root there is = (e, there, is)
    root_after (Some new) x e root there is = leaf_stay page.body new.body x.left.0 e root there is

    pub root_before : (cleaned : Option Page) → IsCleaned dead page cleaned → (f : Entry) (root : ℕ)
        → In f (entries_in (body_after page cleaned)) → f.postings ≡ Root root
        → (e : Entry) × In e (entries_in page.body) × (e.postings ≡ Root root)
    root_before None x f root there is = (f, there, is)
    root_before (Some new) x f root there is =
        (entries_were page.body new.body (loses dead page.body new.body x.left.0) f there).named root is
