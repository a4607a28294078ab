-- One moment: what the invariant says there of a document that has its slot, isn't dead, and is whole.
use Rattle.std.proofs.Common.{◌≡◌, ℕ, List, map, refl, sym, ap, subst, ◌∙◌}
use Rattle.ts_base.specs.Vectors.{Vector}
use Rattle.ts_base.specs.Keys.{Key, keys_of}
use Rattle.page_types.specs.Keys.{KeyLess}
use Rattle.page_types.specs.Views.{rows_of, rows_in, kept_rows_of, kept_rows_in, entries_of, entries_in, first_of}
use Rattle.page_types.specs.declared.page.Page.{Page}
use Rattle.page_types.specs.declared.page.Head.{Head}
use Rattle.page_types.specs.declared.page.Row.{Row}
use Rattle.page_types.specs.declared.page.Entry.{Entry}
use Rattle.page_types.specs.declared.page.Body.{Body}
use Rattle.page_types.specs.declared.page.Body.TheVariants as body
use Rattle.core_state.specs.Log.{Log, Pages, In}
use Rattle.core_state.specs.Documents.{Doc, Has, IsWhole, HasVector, IsDead}
use Rattle.core_state.specs.Index.{Line, Pending}
use Rattle.core_state.specs.Bullets.{Owned}
use Rattle.core_state.specs.VacuumRules.{MayLeave}
use Rattle.core_state.specs.Trees.Nodes.{AtMost}
use Rattle.core_state.specs.Trees.Ext.{ext_less}
use Rattle.core_state.specs.Trees.Ext.Ext.{at, greatest}
use Rattle.core_state.specs.Inner.Ghosts.{Ghost, Place, entry_place, entry_ghost}
use Rattle.core_state.specs.Inner.Ghosts.Place.{line, entry}
use Rattle.core_state.specs.Inner.Kinds.{Fits}
use Rattle.core_state.specs.Inner.Owners.{RowOwned}
use Rattle.core_state.specs.Trees.TreeNodes.{bound, entry_key, entry_body}
use Rattle.core_state.specs.Trees.Nodes.Node.{leaf}
use Rattle.core_state.specs.Trees.Nodes as nodes
use Rattle.core_state.proofs.Histories.{chain_one, whole_one}
use Rattle.core_state.proofs.StaysIndexed.{same_doc}
use Rattle.core_state.proofs.Law.Invariant.{Inv}
use Rattle.core_state.proofs.Law.Places.{place_for}
use Rattle.core_state.proofs.Law.MainPlaces.{PostsHold}
use Rattle.core_state.proofs.Trees.Order.{same_leaf}
use Rattle.core_state.proofs.Trees.Orders.{keys}
use Rattle.core_state.proofs.Trees.Members.{in_map}

-- a live pending page shows its rows
pub live_rows : (L : ℕ) (x : Place) (p : Page) → Fits L x p → x ≡ line → kept_rows_of p ≡ rows_of p
live_rows L x p f e = let b : (rows : List Row) × (p.body ≡ body.Pending rows) = subst
    (λ z. Fits L z p) e f in ap kept_rows_in b.1 ∙ sym (ap rows_in b.1)

module _ (n L : ℕ) (R : Log) (P : Pages) (g : Ghost) (inv : Inv n L R P g) (d : Doc) (v : Vector)
    (there : HasVector P d v) (alive : IsDead R n d → ⊥) where
  -- who has the item is the document, with its vector
  pub same_vector : (e : Doc) (h : Head) (w : Vector) → Has P e h → IsWhole P h w → e.item ≡ d.item → w ≡ v
  same_vector e h w has whole item =
      let one = same_doc P e d h there.0 has there.1 item in
      whole_one P there.0 w v (subst (λ z. IsWhole P z w) one.1 whole) there.2

  pub owned_key : (k : Key) → Owned P k d.item → In k (keys_of v)
  owned_key k o = subst (λ w. In k (keys_of w)) (same_vector o.doc o.head o.vector o.has o.whole o.item) o.key

  pub row_key : (w : Row) (k : Key) → w.item ≡ d.item → RowOwned P w → In k w.keys → In k (keys_of v)
  row_key w k item o i = subst (λ z. In k (keys_of z))
      (same_vector o.doc o.head o.vector o.has o.whole (o.item ∙ item)) (o.keys k i)

  pub stays_put : MayLeave R P n d.item → ⊥
  stays_put m = let one = same_doc P m.doc d m.head there.0 m.has there.1 m.item in alive
      (subst (IsDead R n) one.0 m.dead)

  pub posts_hold : PostsHold L P g
  posts_hold = record { kinds = inv.kinds; posts = inv.posts; rooted = inv.posts_rooted; named = inv.named }

  -- the pending list
  pub one_line : (qs : List ℕ) → Line P qs → qs ≡ g.line
  one_line qs l = chain_one P (first_of (P 0)) qs g.line l inv.lined.is_line

  pub rows_kept : (p : ℕ) → In p g.line → kept_rows_of (P p) ≡ rows_of (P p)
  rows_kept p i = live_rows L (g.place p) (P p) (inv.kinds p) ((inv.lined.on p).0 i)

  pub pending_row : (k : Key) → Pending P k d.item → (p : ℕ) × (row : Row) × In p g.line
      × In row (kept_rows_of (P p)) × (row.item ≡ d.item) × In k row.keys
  pending_row k m =
      let on : In m.linked.page g.line = subst (In m.linked.page)
      (one_line m.linked.line m.linked.is_line) m.linked.on in
      (m.linked.page, m.row, on, subst (In m.row) (sym (rows_kept m.linked.page on)) m.linked.there, m.item, m.key)

  pub line_row_key : (p : ℕ) (row : Row) (k : Key) → In p g.line → In row (kept_rows_of (P p)) → row.item ≡ d.item
      → In k row.keys → In k (keys_of v)
  line_row_key p row k on i item j =
      row_key row k item (inv.rows_owned.on_line p row ((inv.lined.on p).0 on) (subst (In row) (rows_kept p on) i)) j

  -- an entry is on a leaf of the entry tree, within its bounds
  pub leaf_of : (p : ℕ) (e : Entry) → In e (entries_of (P p)) → (high : Key) × (es : List Entry)
      × ((P p).body ≡ body.EntryLeaf high es)
  leaf_of p e i = by (P p).body refl i
    where
      by : (b : Body) → (P p).body ≡ b → In e (entries_in b) → (high : Key) × (es : List Entry)
          × ((P p).body ≡ body.EntryLeaf high es)
      by (body.EntryLeaf high es) f j = (high, es, f)
      by body.Free f j = absurd j
      by (body.Meta a b c) f j = absurd j
      by (body.Heap s) f j = absurd j
      by (body.Overflow s) f j = absurd j
      by (body.Pending s) f j = absurd j
      by (body.EntryInner s) f j = absurd j
      by (body.PostLeaf h s) f j = absurd j
      by (body.PostInner s) f j = absurd j
      by (body.Deleted s) f j = absurd j

  pub entry_at : (p : ℕ) (e : Entry) → In e (entries_of (P p)) → ((entry_ghost g).place p ≡ nodes.TreePlace.tree 1 0)
      × ext_less KeyLess (g.low_key p) (at e.key) × AtMost keys greatest (at e.key) (g.high_key p)
  entry_at p e i =
      let l = leaf_of p e i in
      let placed : g.place p ≡ entry 0 = place_for L (g.place p) (P p) (body.EntryLeaf l.0 l.1) (inv.kinds p) l.2 in
      let ok = inv.entries.leaves p 1 (ap entry_place placed) in
      let node : leaf (P p).right (bound l.0) (map entry_key l.1) ≡ leaf ok.right (g.high_key p) ok.keys = sym
      (ap (entry_body (P p).right) l.2) ∙ ok.node in
      let on : In (at e.key) ok.keys = subst (In (at e.key))
      (same_leaf (P p).right ok.right (bound l.0) (g.high_key p) (map entry_key l.1) ok.keys node).2
      (in_map entry_key e l.1 (subst (λ b. In e (entries_in b)) l.2 i)) in
      let within = ok.within (at e.key) on in
      (ap entry_place placed, within.0, within.1)
