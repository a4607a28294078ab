-- Records that change pages of trees: the case, from how places, entries and items go.
use Rattle.std.proofs.Common.{◌≡◌, ◌≢◌, ◌⊎◌, ◌<◌, ℕ, List, [], ◌∷◌, sym, ap, subst, ◌∙◌, inl, inr}
use Rattle.std.specs.Prelude.{◌↔◌, ⊤}
use Rattle.ts_base.specs.Keys.{Key}
use Rattle.page_types.specs.Items.{items_of}
use Rattle.page_types.specs.Views.{rows_of, entries_of, posting_items_in}
use Rattle.page_types.specs.declared.page.Page.{Page}
use Rattle.page_types.specs.declared.page.Entry.{Entry}
use Rattle.page_types.specs.declared.page.Postings.TheVariants.{Inline, Root}
use Rattle.page_types.specs.declared.record.Record.{Record}
use Rattle.page_types.specs.declared.record.Kind.{Kind}
use Rattle.core_state.specs.Log.{Log, Pages, In}
use Rattle.core_state.specs.Index.{Pending}
use Rattle.core_state.specs.Bullets.{Owned}
use Rattle.core_state.specs.Inner.Ghosts.{Place, Ghost}
use Rattle.core_state.specs.Inner.Ghosts.Place.{unused, meta, line, past, shifted, left, entry, post, overflow_of}
use Rattle.core_state.specs.Inner.Ghosts.Place.{private_of}
use Rattle.core_state.specs.Inner.Kinds.{Fits, PagesStart, AreChained}
use Rattle.core_state.specs.Inner.Owners.{RowsOwned, ItemsOwned, TreesNamed}
use Rattle.core_state.proofs.ChainRows.{LeavesOverflows, LeavesPrivates}
use Rattle.core_state.proofs.Law.MainPlaces.{MainAt}
use Rattle.core_state.proofs.Law.LineEffects.{on_line}
use Rattle.core_state.proofs.Law.Invariant.{Inv}
use Rattle.core_state.proofs.Law.OwnersStay.{PrivateNow, line_stays, rows_stay, items_stay}
use Rattle.core_state.proofs.Law.LineStays.{LineSame, lined_now, line_now, grouped_now, row_was}
use Rattle.core_state.proofs.Law.ChainsStay.{chained_stay}
use Rattle.core_state.proofs.Law.Steps.{Left, TreesStep, Case, Departs}

-- a page of a tree, or one that may be taken
abbrev pub Taken : Place → Type 0
Taken unused = ⊤
Taken past = ⊤
Taken (entry h) = ⊤
Taken (post r h) = ⊤
Taken _ = ⊥

-- a page of a tree, or one that was deleted there
abbrev pub Given : Place → Type 0
Given (entry h) = ⊤
Given (post r h) = ⊤
Given (left r) = ⊤
Given _ = ⊥

-- the page is the same in its place, or has a place of a tree
pub data TreePage (L : ℕ) (P Q : Pages) (g g' : Ghost) (p : ℕ) : Type 0 where
  same : g'.place p ≡ g.place p → Q p ≡ P p → TreePage L P Q g g' p
  taken : Taken (g.place p) → Given (g'.place p) → Fits L (g'.place p) (Q p) → TreePage L P Q g g' p

-- where an entry after the record comes from: it was there; or its list has pairs that were there, and pending ones;
-- or its root is one of its key
pub data EntryWas (P : Pages) (g g' : Ghost) (e : Entry) : Type 0 where
  was : (q : ℕ) (d : Entry) → In d (entries_of (P q)) → d.key ≡ e.key → d.postings ≡ e.postings → EntryWas P g g' e
  listed : (bytes : List ℕ) → e.postings ≡ Inline bytes
      → ((i : ℕ) → In i (items_of bytes) → MainAt P g e.key i ⊎ Pending P e.key i) → EntryWas P g g' e
  rooted : (s h : ℕ) → e.postings ≡ Root s → g'.place s ≡ post s h → g'.key_of s ≡ e.key → EntryWas P g g' e

-- where an entry before the record goes: it stays, or its list's pairs do that may not leave
pub data EntryNow (n : ℕ) (R : Log) (P Q : Pages) (r : Record) (g' : Ghost) (e : Entry) : Type 0 where
  now : (q : ℕ) (d : Entry) → In d (entries_of (Q q)) → d.key ≡ e.key → d.postings ≡ e.postings
      → EntryNow n R P Q r g' e
  listed : (bytes : List ℕ) → e.postings ≡ Inline bytes
      → ((i : ℕ) → In i (items_of bytes) → MainAt Q g' e.key i ⊎ Departs n R P r i) → EntryNow n R P Q r g' e

inline_root : (bytes : List ℕ) (s : ℕ) → Inline bytes ≡ Root s → ⊥
inline_root bytes s e = cc

same_list : (a b : List ℕ) → Inline a ≡ Inline b → a ≡ b
same_list a b e = cc

same_root : (a b : ℕ) → Root a ≡ Root b → a ≡ b
same_root a b e = cc

module _ (n since L : ℕ) (R : Log) (P Q : Pages) (r : Record) (g : Ghost) (v : Inv n L R P g)
    (l : Left n since R P Q r) (g' : Ghost) where
  -- how places, entries and items go
  pub record TreeMoves : Type 0 where
    pub some : R ≢ []
    pub kind : Kind
    pub kind_is : r.kind ≡ kind
    pub overflows : LeavesOverflows kind
    pub privates : LeavesPrivates kind
    pub same_line : g'.line ≡ g.line
    pub each : (p : ℕ) → TreePage L P Q g g' p
    pub page_1 : (h : ℕ) × (g'.place 1 ≡ entry h)
    pub lowest : (p q : ℕ) → q < p → g.place q ≡ unused → g.place p ≡ unused → g'.place p ≡ unused
    pub entry_was : (q : ℕ) (e : Entry) → In e (entries_of (Q q)) → EntryWas P g g' e
    pub entry_now : (q : ℕ) (e : Entry) → In e (entries_of (P q)) → EntryNow n R P Q r g' e
    pub leaf_was : (q s i : ℕ) → g'.place q ≡ post s 0 → In i (posting_items_in (Q q).body)
        → MainAt P g (g'.key_of s) i ⊎ Pending P (g'.key_of s) i
    pub leaf_now : (q s i : ℕ) → g.place q ≡ post s 0 → In i (posting_items_in (P q).body)
        → MainAt Q g' (g.key_of s) i ⊎ Departs n R P r i
    pub root_on : (s h : ℕ) → g.place s ≡ post s h → (k : ℕ) × (g'.place s ≡ post s k)
    pub root_back : (s h : ℕ) → g'.place s ≡ post s h
        → ((k : ℕ) × (g.place s ≡ post s k))
        ⊎ ((q : ℕ) × (e : Entry) × In e (entries_of (Q q)) × (e.postings ≡ Root s))

  module _ (t : TreesStep n R P Q g g') (m : TreeMoves) where
    -- a page in another place is the same in it
    firm : (p : ℕ) (y : Place) → (Taken y → ⊥) → TreePage L P Q g g' p → g.place p ≡ y
        → (g'.place p ≡ y) × (Q p ≡ P p)
    firm p y off (TreePage.same e s) at = (e ∙ at, s)
    firm p y off (TreePage.taken a b f) at = absurd (off (subst Taken at a))

    firm_back : (p : ℕ) (y : Place) → (Given y → ⊥) → TreePage L P Q g g' p → g'.place p ≡ y
        → (g.place p ≡ y) × (Q p ≡ P p)
    firm_back p y off (TreePage.same e s) at = (sym e ∙ at, s)
    firm_back p y off (TreePage.taken a b f) at = absurd (off (subst Given at b))

    on : (p : ℕ) (y : Place) → (Taken y → ⊥) → g.place p ≡ y → (g'.place p ≡ y) × (Q p ≡ P p)
    on p y off at = firm p y off (m.each p) at

    back : (p : ℕ) (y : Place) → (Given y → ⊥) → g'.place p ≡ y → (g.place p ≡ y) × (Q p ≡ P p)
    back p y off at = firm_back p y off (m.each p) at

    fits_now : (p : ℕ) → TreePage L P Q g g' p → Fits L (g'.place p) (Q p)
    fits_now p (TreePage.same e s) = subst (λ (q : Page). Fits L (g'.place p) q) (sym s)
        (subst (λ (x : Place). Fits L x (P p)) (sym e) (v.kinds p))
    fits_now p (TreePage.taken a b f) = f

    starts : PagesStart (r ∷ R) Q g'
    starts = record {
      page_0 = λ k. (on 0 meta (λ z. z) (v.starts.page_0 m.some)).0;
      no_other = λ p e. v.starts.no_other p (back p meta (λ z. z) e).0;
      page_1 = λ k. m.page_1;
      lower = λ p q low e.
          let free = (back q unused (λ z. z) e).0 in
          m.lowest p q low free (v.starts.lower p q low free);
      stamps = l.stamps;
    }

    line_same : LineSame n since L R P Q r g v l g'
    line_same = record {
      some = m.some;
      metapage = (on 0 meta (λ z. z) (v.starts.page_0 m.some)).1;
      line_same = m.same_line;
      back = λ p e. (back p line (λ z. z) e).0;
      on = λ p e. (on p line (λ z. z) e).0;
      pages = λ p e. (on p line (λ z. z) e).1;
    }

    places_same : (p : ℕ) (y : Place) → (Taken y → ⊥) → (Given y → ⊥) → (g.place p ≡ y) ↔ (g'.place p ≡ y)
    places_same p y a b = (λ e. (on p y a e).0, λ e. (back p y b e).0)

    chained : AreChained Q g'
    chained = chained_stay n since L R P Q r g v l g' m.kind m.kind_is m.overflows m.privates
        (λ i q. places_same q (overflow_of i) (λ z. z) (λ z. z))
        (λ i q. places_same q (private_of i) (λ z. z) (λ z. z))

    rows_owned : RowsOwned n (r ∷ R) Q g'
    rows_owned = rows_stay n since L R P Q r g v l g'
        (λ q i e. let at = back q (private_of i) (λ z. z) e in PrivateNow.was at.0 (ap rows_of at.1))
        (λ q w e i. inl (row_was n since L R P Q r g v l g' line_same q w e i))

    -- a pending pair is owned
    pending_owned : (k : Key) (i : ℕ) → Pending P k i → Owned Q k i
    pending_owned k i p =
        let at = on_line R P g p.row v.lined p.linked in
        let o = line_stays n since L R P Q r g v l at.0 p.row ((v.lined.on at.0).0 at.1) at.2 in
        record {
          doc = o.doc;
          head = o.head;
          vector = o.vector;
          item = o.item
              ∙ p.item;
          has = o.has;
          whole = o.whole;
          key = o.keys k p.key;
        }

    either_way : (k : Key) (i : ℕ) → MainAt P g k i ⊎ Pending P k i → MainAt P g k i ⊎ Owned Q k i
    either_way k i (inl a) = inl a
    either_way k i (inr p) = inr (pending_owned k i p)

    item_was : (i : ℕ) (e : Entry) (bytes : List ℕ) → EntryWas P g g' e → e.postings ≡ Inline bytes
        → In i (items_of bytes) → MainAt P g e.key i ⊎ Owned Q e.key i
    item_was i e bytes (EntryWas.was q d in_was key alike) is there = inl (MainAt.listed q d bytes in_was key
        (alike ∙ is) there)
    item_was i e bytes (EntryWas.listed more of all) is there = either_way e.key i
        (all i (subst (λ (b : List ℕ). In i (items_of b)) (same_list bytes more (sym is ∙ of)) there))
    item_was i e bytes (EntryWas.rooted s h of at key) is there = absurd (inline_root bytes s (sym is ∙ of))

    items_owned : ItemsOwned Q g'
    items_owned = items_stay n since L R P Q r g v l g'
        (λ q i e bytes j is there. item_was i e bytes (m.entry_was q e j) is there)
        (λ q s i at there. either_way (g'.key_of s) i (m.leaf_was q s i at there))

    main_of : (k : Key) (i q : ℕ) (e : Entry) (bytes : List ℕ) → EntryNow n R P Q r g' e → e.key ≡ k
        → e.postings ≡ Inline bytes → In i (items_of bytes) → MainAt Q g' k i ⊎ Departs n R P r i
    main_of k i q e bytes (EntryNow.now p d in_now key alike) is_key is there = inl (MainAt.listed p d bytes in_now
        (key ∙ is_key) (alike ∙ is) there)
    main_of k i q e bytes (EntryNow.listed more of all) is_key is there =
        subst (λ (z : Key). MainAt Q g' z i ⊎ Departs n R P r i) is_key
        (all i (subst (λ (b : List ℕ). In i (items_of b)) (same_list bytes more (sym is ∙ of)) there))

    main : (k : Key) (i : ℕ) → MainAt P g k i → MainAt Q g' k i ⊎ Departs n R P r i
    main k i (MainAt.listed q e bytes j key is there) = main_of k i q e bytes (m.entry_now q e j) key is there
    main k i (MainAt.posted q s at key there) = subst (λ (z : Key). MainAt Q g' z i ⊎ Departs n R P r i) key
        (m.leaf_now q s i at there)

    root_was : (s : ℕ) (e : Entry) → EntryWas P g g' e → e.postings ≡ Root s → ((h : ℕ) × (g'.place s ≡ post s h))
        × (g'.key_of s ≡ e.key)
    root_was s e (EntryWas.was q d in_was key alike) is =
        let h = v.named.is_root q s d in_was (alike ∙ is) in
        (m.root_on s h.0 h.1, t.key_of s h.0 h.1 ∙ v.named.key q s d in_was (alike ∙ is) ∙ key)
    root_was s e (EntryWas.listed bytes of all) is = absurd (inline_root bytes s (sym of ∙ is))
    root_was s e (EntryWas.rooted p h of at key) is =
        let same : p ≡ s = same_root p s (sym of ∙ is) in
        ((h, subst (λ (z : ℕ). g'.place z ≡ post z h) same at), subst (λ (z : ℕ). g'.key_of z ≡ e.key) same key)

    named_now : (s q : ℕ) (e : Entry) → EntryNow n R P Q r g' e → e.postings ≡ Root s
        → (p : ℕ) × (d : Entry) × In d (entries_of (Q p)) × (d.postings ≡ Root s)
    named_now s q e (EntryNow.now p d in_now key alike) is = (p, d, in_now, alike ∙ is)
    named_now s q e (EntryNow.listed bytes of all) is = absurd (inline_root bytes s (sym of ∙ is))

    named : TreesNamed Q g'
    named = record {
      is_root = λ q s e j is. (root_was s e (m.entry_was q e j) is).0;
      key = λ q s e j is. (root_was s e (m.entry_was q e j) is).1;
      named = λ s h at. elim (m.root_back s h at) [
        | inl old ↦ let by = v.named.named s old.0 old.1 in named_now s by.0 by.1 (m.entry_now by.0 by.1 by.2) by.3
        | inr new ↦ new
      ];
    }

    -- the case of such a record
    pub tree_case : Case n L R P Q r g g'
    tree_case = record {
      kinds = λ p. fits_now p (m.each p);
      starts = starts;
      lined = lined_now n since L R P Q r g v l g' line_same;
      trees = t;
      named = named;
      chained = chained;
      rows_owned = rows_owned;
      items_owned = items_owned;
      grouped = grouped_now n since L R P Q r g v l g' line_same;
      main = main;
      line = line_now n since L R P Q r g v l g' line_same;
      shifted_stays = λ p e. (on p shifted (λ z. z) e).0;
    }
