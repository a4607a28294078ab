-- What the walks need of the moments past a pin: the trees, the pending list, and a document with an item.
use Rattle.std.proofs.Common.{◌≡◌, ◌≢◌, ◌⊎◌, ◌≤◌, ◌<◌, ◌+◌, ℕ, List, [], ◌∷◌, map}
use Rattle.ts_base.specs.Vectors.{Vector}
use Rattle.ts_base.specs.Keys.{Key, keys_of}
use Rattle.page_types.specs.Items.{items_of}
use Rattle.page_types.specs.Keys.{KeyLess}
use Rattle.page_types.specs.Views.{entries_of, kept_rows_of, first_of, posting_items_in}
use Rattle.page_types.specs.declared.page.Row.{Row}
use Rattle.page_types.specs.declared.page.Entry.{Entry}
use Rattle.page_types.specs.declared.page.Postings.{Postings}
use Rattle.page_types.specs.declared.page.Postings.TheVariants.{Inline, Root}
use Rattle.core_state.specs.Log.{Pages, In}
use Rattle.core_state.specs.Trees.Nodes.{TreeGhost, AtMost}
use Rattle.core_state.specs.Trees.Nodes.TreePlace.{tree}
use Rattle.core_state.specs.Trees.Ext.{Ext, ext_less}
use Rattle.core_state.specs.Trees.Ext.Ext.{least, at, greatest}
use Rattle.core_state.specs.Trees.TreeNodes.{entry_node, post_node}
use Rattle.core_state.proofs.Trees.Orders.{ext_order, ext_top, key_order, nat_order}
use Rattle.core_state.proofs.Trees.Walk as w
use Rattle.core_state.proofs.Trees.PendWalk as pend
use Rattle.core_state.proofs.Trees.PendWalk.{PendStep}
use Rattle.core_state.proofs.Trees.MainWalk as m
use Rattle.core_state.proofs.Trees.MainWalk.{Run, GrowRun, NeverRemoved, Stands}

abbrev pub postings_of : Postings → m.Postings (Ext ℕ)
postings_of (Inline bytes) = m.Postings.inline (map at (items_of bytes))
postings_of (Root r) = m.Postings.root r

abbrev pub entry_of : Entry → m.Entry (Ext Key) (Ext ℕ)
entry_of e = record { key = at e.key; postings = postings_of e.postings }

-- the trees of the moments of a walk: they change by steps of trees alone
pub record Trees (P : ℕ → Pages) (start end : ℕ) : Type 0 where
  pub g : ℕ → TreeGhost (Ext Key)
  pub gp : ℕ → TreeGhost (Ext ℕ)
  pub entries : GrowRun (ext_order key_order) least greatest (λ t p. entry_node (P t p)) g start end
  pub posts : Run (ext_order nat_order) least greatest (λ t p. post_node (P t p)) gp start end
  pub height : ℕ
  pub root : (g start).place 1 ≡ tree 1 height
  pub root_low : (g start).low 1 ≡ least
  pub roots : (t p : ℕ) (x : Entry) (r : ℕ) → start ≤ t → t ≤ end → In x (entries_of (P t p)) → x.postings ≡ Root r
      → w.IsIn (gp t) r r

-- the pending list of these moments, for the documents with the item i
pub record Pends (P : ℕ → Pages) (start end i : ℕ) : Type 1 where
  pub line : ℕ → List ℕ
  pub Gone : ℕ → ℕ → Type 0
  pub chain : (t : ℕ) → start ≤ t → t ≤ end → pend.IsChain (λ p. (P t p).right) (first_of (P t 0)) (line t)
  pub stays : (t p : ℕ) → start ≤ t → t < end → Gone t p
      → Gone (t + 1) p × (kept_rows_of (P (t + 1) p) ≡ kept_rows_of (P t p)) × ((P (t + 1) p).right ≡ (P t p).right)
  pub steps : (t : ℕ) → start ≤ t → t < end
      → PendStep (λ (row : Row). row.item) (λ j. j ≡ i) (λ u p. kept_rows_of (P u p)) (λ u p. (P u p).right)
      (λ u. first_of (P u 0)) line Gone t

module _ (P : ℕ → Pages) (start end : ℕ) (T : Trees P start end) (i : ℕ) (D : Pends P start end i) (v : Vector) where
  abbrev pub entries_at : ℕ → ℕ → List (m.Entry (Ext Key) (Ext ℕ))
  entries_at t p = map entry_of (entries_of (P t p))

  -- the key x is in the main part with the item, at t
  abbrev pub InMain : Key → ℕ → Type 0
  InMain x t = (q : ℕ) × ((T.g t).place q ≡ tree 1 0) × ext_less KeyLess ((T.g t).low q) (at x)
      × AtMost (ext_order key_order) greatest (at x) ((T.g t).high q)
      × Stands (ext_order key_order) least greatest (ext_top key_order) tt (ext_order nat_order) least greatest
      (ext_top nat_order) tt (λ u p. entry_node (P u p)) T.g (λ u p. post_node (P u p)) T.gp start end T.entries
      T.posts entries_at (at x) (at i) t q

  -- a row with the item on the line of the first moment
  abbrev pub OnLine : ℕ → Row → Type 0
  OnLine p row = In p (D.line start) × In row (kept_rows_of (P start p)) × (row.item ≡ i)

  abbrev pub AllPending : Type 0
  AllPending = (k : Key) → In k (keys_of v) → (p : ℕ) × (row : Row) × OnLine p row × In k row.keys

  abbrev pub IsFirst : Type 0
  IsFirst = (p : ℕ) × (ps : List ℕ) × (row : Row) × (rows : List Row) × (D.line start ≡ p ∷ ps)
      × (kept_rows_of (P start p) ≡ row ∷ rows) × (row.item ≡ i)

  -- what holds of a document that has the item at these moments, with the vector v
  pub record Facts : Type 0 where
    pub some_key : keys_of v ≢ []
    pub indexed : AllPending ⊎ ((x : Key) → In x (keys_of v) → (t : ℕ) → start ≤ t → t ≤ end → InMain x t)
    pub never_removed : NeverRemoved (ext_order nat_order) least greatest (ext_top nat_order) tt
        (λ u p. post_node (P u p)) T.gp start end T.posts (at i)
    pub complete : (p : ℕ) (row : Row) → OnLine p row → IsFirst ⊎ AllPending
    pub own_rows : (p : ℕ) (row : Row) (k : Key) → OnLine p row → In k row.keys → In k (keys_of v)
    pub own_lists : (t p : ℕ) (x : Entry) (bytes : List ℕ) → start ≤ t → t ≤ end → In x (entries_of (P t p))
        → x.postings ≡ Inline bytes → In i (items_of bytes) → In x.key (keys_of v)
    pub own_trees : (t p : ℕ) (x : Entry) (r s q : ℕ) → start ≤ t → t ≤ s → s ≤ end → In x (entries_of (P t p))
        → x.postings ≡ Root r → w.IsIn (T.gp s) r q → In i (posting_items_in (P s q).body) → In x.key (keys_of v)
