-- Who owns a row or a pair owns it after each record that leaves it.
use Rattle.std.proofs.Common.{◌≡◌, ◌≢◌, ◌⊎◌, ℕ, List, [], ◌∷◌, refl, sym, ap, ap₂, subst, ◌∙◌, inl, inr}
use Rattle.std.specs.Prelude.{Some, None}
use Rattle.ts_base.specs.Keys.{Key}
use Rattle.page_types.specs.Items.{items_of}
use Rattle.page_types.specs.Views.{rows_of, entries_of, posting_items_in}
use Rattle.page_types.specs.declared.page.Head.{Head}
use Rattle.page_types.specs.declared.page.Row.{Row}
use Rattle.page_types.specs.declared.page.Entry.{Entry}
use Rattle.page_types.specs.declared.page.Postings.TheVariants.{Inline}
use Rattle.page_types.specs.declared.record.Record.{Record}
use Rattle.core_state.specs.Log.{Log, Pages, In}
use Rattle.core_state.specs.Documents.{IsDead, head_of, doc_at}
use Rattle.core_state.specs.Index.{HasRow, NoPair}
use Rattle.core_state.specs.Bullets.{Owned}
use Rattle.core_state.specs.Inner.Ghosts.{Ghost}
use Rattle.core_state.specs.Inner.Ghosts.Place.{line, post, private_of}
use Rattle.core_state.specs.Inner.Owners.{RowOwned, RowsOwned, ItemsOwned}
use Rattle.core_state.specs.Inner.Grouping.{InLine, AllKeysIn, Grouped, Complete, RowsGrouped, rows_by_page}
use Rattle.core_state.proofs.PageLists.{same_or_not}
use Rattle.core_state.proofs.HeadSteps.{HeadStep}
use Rattle.core_state.proofs.StaysIndexed.{same_doc}
use Rattle.core_state.proofs.Law.MainPlaces.{MainAt}
use Rattle.core_state.proofs.Law.Belows.{at_main}
use Rattle.core_state.proofs.Law.LineEffects.{linked}
use Rattle.core_state.proofs.Law.Invariant.{Inv}
use Rattle.core_state.proofs.Law.Steps.{Left}

some_one : (a b : Head) → Some a ≡ Some b → a ≡ b
some_one a b e = cc

none_some : (a : Head) → None ≡ Some a → ⊥
none_some a e = cc

-- a head after a record was there with its serial, or the slot was free
pub serial_was : (n : ℕ) (R : Log) (P Q : Pages) (r : Record) → HeadStep R P Q r n → (i : ℕ) (h : Head)
    → head_of Q i ≡ Some h
    → ((k : Head) × (head_of P i ≡ Some k) × (h.serial ≡ k.serial)) ⊎ (head_of P i ≡ None)
serial_was n R P Q r (HeadStep.same s) i h e = inl (h, sym (s i) ∙ e, refl)
serial_was n R P Q r (HeadStep.placed d k is free has new rest) i h e = elim (same_or_not d.item i) [
  | inl w ↦ inr (ap (head_of P) w ∙ free)
  | inr w ↦ inl (h, sym (rest i w) ∙ e, refl)
]
serial_was n R P Q r (HeadStep.turned d k k' has now t rest) i h e = elim (same_or_not d.item i) [
  | inl w ↦ inl (
    k,
    ap (head_of P) w ∙ has.at,
    ap (λ (z : Head). z.serial)
        (some_one h k' (sym e ∙ ap (head_of Q) w ∙ now.at)) ∙ t.serial,
  )
  | inr w ↦ inl (h, sym (rest i w) ∙ e, refl)
]
serial_was n R P Q r (HeadStep.freed is each) i h e = elim (each i) [
  | inl s ↦ inl (h, sym s ∙ e, refl)
  | inr f ↦ absurd (none_some h (sym f.is ∙ e))
]

module _ (n since L : ℕ) (R : Log) (P Q : Pages) (r : Record) (g : Ghost) (v : Inv n L R P g)
    (l : Left n since R P Q r) where
  pub owned_stays : (k : Key) (i : ℕ) → (NoPair P i → ⊥) → Owned P k i → Owned Q k i
  owned_stays k i some o = elim (l.whole o.doc o.head o.vector o.has o.whole) [
    | inl now ↦ record {
      doc = o.doc;
      head = now.0;
      vector = o.vector;
      item = o.item;
      has = now.1;
      whole = now.2;
      key = o.key;
    }
    | inr gone ↦ absurd (some (subst (NoPair P) o.item gone.1))
  ]

  -- a pair of the main part
  pub pair_stays : (k : Key) (i : ℕ) → MainAt P g k i → Owned Q k i
  pair_stays k i m = owned_stays k i
      (λ no. no.no_posting k (at_main L P g
      (record { kinds = v.kinds; posts = v.posts; rooted = v.posts_rooted; named = v.named }) k i m)) (owned m)
    where
      owned : MainAt P g k i → Owned P k i
      owned (MainAt.listed q e bytes on key is there) = subst (λ (z : Key). Owned P z i) key
          (v.items_owned.inline q i e bytes on is there)
      owned (MainAt.posted q s at key there) = subst (λ (z : Key). Owned P z i) key
          (v.items_owned.posted q s i at there)

  pub row_stays : (w : Row) → (NoPair P w.item → ⊥) → RowOwned P w → RowOwned Q w
  row_stays w some o = elim (l.whole o.doc o.head o.vector o.has o.whole) [
    | inl now ↦ record {
      doc = o.doc;
      head = now.0;
      vector = o.vector;
      item = o.item;
      has = now.1;
      whole = now.2;
      keys = o.keys;
    }
    | inr gone ↦ absurd (some (subst (NoPair P) o.item gone.1))
  ]

  pub has_row : (q : ℕ) (w : Row) → g.place q ≡ line → In w (rows_of (P q)) → HasRow P w.item
  has_row q w at there = record {
    row = w;
    linked = linked R P g w q v.lined
        ((v.lined.on q).1 at) there;
    item = refl;
  }

  -- a row of the pending list
  pub line_stays : (q : ℕ) (w : Row) → g.place q ≡ line → In w (rows_of (P q)) → RowOwned Q w
  line_stays q w at there = row_stays w (λ no. no.no_row (has_row q w at there)) (v.rows_owned.on_line q w at there)

  -- a row of a private chain
  pub private_stays : (q i : ℕ) (w : Row) (h : Head) → g.place q ≡ private_of i → In w (rows_of (P q))
      → head_of Q i ≡ Some h → IsDead (r ∷ R) n (doc_at i h.serial) ⊎ RowOwned Q w
  private_stays q i w h at there e = elim (serial_was n R P Q r l.turns i h e) [
    | inr free ↦ absurd (v.chained.private.none i q free at)
    | inl was ↦ elim (v.rows_owned.on_private q i w was.0 at there was.1) [
      | inl dead ↦ inl (dead_now was.0 was.2 dead)
      | inr o ↦ elim (l.whole o.doc o.head o.vector o.has o.whole) [
        | inl now ↦ inr (record {
          doc = o.doc;
          head = now.0;
          vector = o.vector;
          item = o.item;
          has = now.1;
          whole =
              now.2;
          keys = o.keys;
        })
        | inr gone ↦
            let item : o.doc.item ≡ i = o.item ∙ v.rows_owned.private_item q i w at there in
            let same = same_doc P o.doc (doc_at i was.0.serial) o.head was.0 o.has
            (record { at = was.1; serial = refl }) item in
            inl (dead_now was.0 was.2 (subst (IsDead R n) same.0 gone.0))
      ]
    ]
  ]
    where
      dead_now : (k : Head) → h.serial ≡ k.serial → IsDead R n (doc_at i k.serial)
          → IsDead (r ∷ R) n (doc_at i h.serial)
      dead_now k s dead = l.dead (doc_at i h.serial) (subst (λ (z : ℕ). IsDead R n (doc_at i z)) (sym s) dead)

  -- a page of a private chain as it was, or with rows that are owned
  pub data PrivateNow (g' : Ghost) (q i : ℕ) : Type 0 where
    was : g.place q ≡ private_of i → rows_of (Q q) ≡ rows_of (P q) → PrivateNow g' q i
    new : rows_of (Q q) ≢ [] → ((w : Row) → In w (rows_of (Q q)) → w.item ≡ i)
        → ((w : Row) → In w (rows_of (Q q)) → RowOwned Q w) → PrivateNow g' q i

  module _ (g' : Ghost) (privates : (q i : ℕ) → g'.place q ≡ private_of i → PrivateNow g' q i) where
    some_now : (q i : ℕ) → PrivateNow g' q i → rows_of (Q q) ≢ []
    some_now q i (PrivateNow.was at e) z = v.rows_owned.private_row q i at (sym e ∙ z)
    some_now q i (PrivateNow.new some own owned) z = some z

    item_now : (q i : ℕ) (w : Row) → PrivateNow g' q i → In w (rows_of (Q q)) → w.item ≡ i
    item_now q i w (PrivateNow.was at e) m = v.rows_owned.private_item q i w at (subst (In w) e m)
    item_now q i w (PrivateNow.new some own owned) m = own w m

    owned_now : (q i : ℕ) (w : Row) (h : Head) → PrivateNow g' q i → In w (rows_of (Q q)) → head_of Q i ≡ Some h
        → IsDead (r ∷ R) n (doc_at i h.serial) ⊎ RowOwned Q w
    owned_now q i w h (PrivateNow.was at e) m f = private_stays q i w h at (subst (In w) e m) f
    owned_now q i w h (PrivateNow.new some own owned) m f = inr (owned w m)

    -- rows stay owned
    pub rows_stay : ((q : ℕ) (w : Row) → g'.place q ≡ line → In w (rows_of (Q q))
        → ((p : ℕ) × (g.place p ≡ line) × In w (rows_of (P p))) ⊎ RowOwned Q w) → RowsOwned n (r ∷ R) Q g'
    rows_stay lines = record {
      on_line = λ q w at m. elim (lines q w at m) [ inl o ↦ line_stays o.0 w o.1 o.2 | inr o ↦ o ];
      private_row = λ q i at. some_now q i (privates q i at);
      private_item = λ q i w at m. item_now q i w (privates q i at) m;
      on_private = λ q i w h at m e. owned_now q i w h (privates q i at) m e;
    }

  -- items stay owned
  pub items_stay : (g' : Ghost)
      → ((q i : ℕ) (e : Entry) (bytes : List ℕ) → In e (entries_of (Q q)) → e.postings ≡ Inline bytes
      → In i (items_of bytes) → MainAt P g e.key i ⊎ Owned Q e.key i)
      → ((q s i : ℕ) → g'.place q ≡ post s 0 → In i (posting_items_in (Q q).body)
      → MainAt P g (g'.key_of s) i ⊎ Owned Q (g'.key_of s) i) → ItemsOwned Q g'
  items_stay g' lists leaves = record {
    inline = λ q i e bytes on is m. elim (lists q i e bytes on is m) [ inl o ↦ pair_stays e.key i o | inr o ↦ o ];
    posted = λ q s i at m. elim (leaves q s i at m) [ inl o ↦ pair_stays (g'.key_of s) i o | inr o ↦ o ];
  }

  -- a document of the line has all its keys there, after the record too
  pub all_keys_stay : (i : ℕ) (ys : List (List Row)) → HasRow P i → AllKeysIn P i ys → AllKeysIn Q i ys
  all_keys_stay i ys some k =
      let h = k.whole in
      elim (l.whole k.doc h.0 k.vector h.1 h.2) [
        | inl now ↦ record { doc = k.doc; vector = k.vector; item = k.item; whole = now; keys = k.keys }
        | inr gone ↦ absurd (gone.1.no_row (subst (HasRow P) (sym k.item) some))
      ]

  row_on : (i : ℕ) (qs : List ℕ) → ((q : ℕ) → In q qs → g.place q ≡ line) → InLine i (rows_by_page P qs) → HasRow P i
  row_on i [] on m = absurd m
  row_on i (q ∷ qs) on (inl w) = subst (HasRow P) w.2 (has_row q w.0 (on q (inl refl)) w.1)
  row_on i (q ∷ qs) on (inr m) = row_on i qs (λ p j. on p (inr j)) m

  -- what is on the line has a linked row
  pub on_line_row : (i : ℕ) → InLine i (rows_by_page P g.line) → HasRow P i
  on_line_row i m = row_on i g.line (λ q j. (v.lined.on q).0 j) m

  pub same_rows : (qs : List ℕ) → ((q : ℕ) → In q qs → rows_of (Q q) ≡ rows_of (P q))
      → rows_by_page Q qs ≡ rows_by_page P qs
  same_rows [] e = refl
  same_rows (q ∷ qs) e = ap₂ ◌∷◌ (e q (inl refl)) (same_rows qs (λ p j. e p (inr j)))

  -- the same rows stay grouped
  pub grouped_stays : ((q : ℕ) → In q g.line → rows_of (Q q) ≡ rows_of (P q)) → RowsGrouped Q g.line
  grouped_stays e =
      let same = sym (same_rows g.line e) in
      record {
        grouped = subst Grouped same v.grouped.grouped;
        complete = subst (Complete Q) same
            (λ i m. elim (v.grouped.complete i m)
            [ inl first ↦ inl first | inr k ↦ inr (all_keys_stay i _ (on_line_row i m) k) ]);
      }
