-- Rules that only later logs meet: a row comes after those of the last pending page, items come to
-- a posting tree, and a root grows.
use Rattle.std.proofs.Common.{◌≡◌, ◌≢◌, ℕ, zero, suc, ◌<◌, List, [], ◌∷◌, ◌++◌, length, refl, sym, ap, subst, ◌∙◌, inl}
use Rattle.std.proofs.Common.{inr, arith}
use Rattle.page_types.specs.Items.{items_of}
use Rattle.page_types.specs.Encoding.{body_bytes}
use Rattle.page_types.specs.Views.{free_page, rows_in}
use Rattle.page_types.specs.declared.page.Page.{Page}
use Rattle.page_types.specs.declared.page.Row.{Row}
use Rattle.page_types.specs.declared.page.Entry as on_page
use Rattle.page_types.specs.declared.page.Postings.TheVariants.{Root}
use Rattle.page_types.specs.declared.page.Body.{Body}
use Rattle.page_types.specs.declared.page.Body.TheVariants as body
use Rattle.page_types.specs.declared.record.Record.{Record}
use Rattle.page_types.specs.declared.record.Kind.TheVariants as kind
use Rattle.core_state.specs.Log.{Log, Pages, In, fate}
use Rattle.core_state.specs.Index.{Pending, HasRow}
use Rattle.core_state.specs.Known.{use_in}
use Rattle.core_state.specs.Changes.{IsNew}
use Rattle.core_state.specs.PendingRules.{IsAddRow}
use Rattle.core_state.specs.TreeRules.{TowardItem, IsAddPostings, OneChild, IsRoot, IsGrowRoot}
use Rattle.core_state.specs.declared.answers.Fate.TheVariants.{Running}
use Rattle.core_state.specs.declared.answers.PageUse.TheVariants as usage
use Rattle.core_state.proofs.Worked as first
use Rattle.core_state.proofs.WorkedPending as rows
use Rattle.core_state.proofs.WorkedSplit as large

-- the first of these pages
abbrev first_page : List Page → Page
first_page (p ∷ ps) = p
first_page [] = free_page

-- 10: the document's row comes after that of another
abbrev other : Row
other = record { item = 4097; keys = rows.cat_key ∷ [] }

abbrev listing : ℕ → List Row → Pages
listing stamp ws zero = rows.meta_page 5 3 3 1
listing stamp ws (suc zero) = first.root_page
listing stamp ws (suc (suc zero)) = rows.heap_page 5 0
listing stamp ws (suc (suc (suc zero))) =
    record { right = 0; stamp = stamp; body = body.Pending ws }
listing stamp ws (suc (suc (suc (suc p)))) = free_page

abbrev row_record : List Row → Record
row_record ws =
    record {
      number = 6;
      xid = 1;
      kind = kind.AddRow 4096 1;
      changes =
          first.image 3 (listing 6 ws 3) ∷ [];
    }

of_other : (w : Row) → In w (other ∷ []) → w.item ≡ 4097
of_other w (inl e) = ap (λ (x : Row). x.item) e
of_other w (inr e) = absurd e

no_own_row : HasRow (listing 5 (other ∷ [])) 4096 → ⊥
no_own_row h =
    let P : Pages = listing 5 (other ∷ []) in
    let at : h.linked.page ≡ 3 =
    rows.one_page P h.linked.line h.linked.page refl h.linked.is_line h.linked.on in
    let there : In h.row (other ∷ []) =
    subst (λ p. In h.row (rows_in (P p).body)) at h.linked.there in
    omega (arith, h.item, of_other h.row there)

row_comes : (R : Log) → fate R 1 ≡ Running
    → IsAddRow R (listing 5 (other ∷ [])) (listing 6 (other ∷ rows.row ∷ []))
    (row_record (other ∷ rows.row ∷ []))
row_comes R runs = record {
  here = record {
    doc = first.doc;
    last = 3;
    rows = other ∷ [];
    row = rows.row;
    old = listing 5 (other ∷ []) 3;
    kind_is = refl;
    pages = refl;
    runs = runs;
    item = refl;
    before_is = refl;
    was = refl;
    after_is = refl;
  };
  rest = record {
    head = rows.head 0;
    has = record { at = refl; serial = refl };
    by = refl;
    vector = first.vector;
    whole = rows.whole (listing 5 (other ∷ [])) 0;
    no_row = no_own_row;
    keys = refl;
    front = [];
    is_last = (refl, (λ e. omega (arith, e)), refl);
  };
}

-- before the other's row it is not valid
abbrev first_item : List Row → ℕ
first_item (w ∷ ws) = w.item
first_item [] = 0

row_in_front : (R : Log)
    → IsAddRow R (listing 5 (other ∷ [])) (listing 6 (rows.row ∷ other ∷ []))
    (row_record (rows.row ∷ other ∷ []))
    → ⊥
row_in_front R x =
    let was : other ∷ [] ≡ x.here.rows =
    ap (λ (ps : List Page). rows_in (first_page ps).body) x.here.before_is
    ∙ ap rows_in x.here.was in
    let then : 4096 ≡ first_item (x.here.rows ++ x.here.row ∷ []) =
    ap (λ (ps : List Page). first_item (rows_in (first_page ps).body)) x.here.after_is in
    let moved : 4096 ≡ 4097 =
    subst (λ (ws : List Row). 4096 ≡ first_item (ws ++ x.here.row ∷ [])) (sym was) then in
    omega (arith, moved)

-- 15: the document's item comes to the tree of its first key
abbrev treed : ℕ → List ℕ → Pages
treed stamp items zero = rows.meta_page 5 3 3 1
treed stamp items (suc zero) =
    rows.leaf_page 7 (record { key = rows.cat_key; postings = Root 4 } ∷ [])
treed stamp items (suc (suc zero)) = rows.heap_page 5 0
treed stamp items (suc (suc (suc zero))) = rows.row_page rows.row
treed stamp items (suc (suc (suc (suc zero)))) =
    record { right = 0; stamp = stamp; body = body.PostLeaf 0 items }
treed stamp items (suc (suc (suc (suc (suc p))))) = free_page

abbrev posting_record : Record
posting_record =
    record {
      number = 9;
      xid = 0;
      kind = kind.AddPostings;
      changes =
          first.image 4 (treed 9 (128 ∷ 32 ∷ []) 4) ∷ [];
    }

has_pending : (stamp : ℕ) (items : List ℕ) → Pending (treed stamp items) rows.cat_key 4096
has_pending stamp items = record {
  row = rows.row;
  linked =
      record {
        line = 3 ∷ [];
        is_line = (refl, (λ e. omega (arith, e)), refl);
        page = 3;
        on =
            inl refl;
        there = inl refl;
      };
  item = refl;
  key = inl refl;
}

each_pending : (i : ℕ) → In i (4096 ∷ []) → Pending (treed 8 []) rows.cat_key i
each_pending i (inl e) = subst (Pending (treed 8 []) rows.cat_key) (sym e) (has_pending 8 [])
each_pending i (inr e) = absurd e

posting_comes : (R : Log) → IsAddPostings R (treed 8 []) (treed 9 (128 ∷ 32 ∷ [])) posting_record
posting_comes R = record {
  here = record {
    page = 4;
    items = 4096 ∷ [];
    high = 0;
    old_list = [];
    new_list = 128 ∷ 32 ∷ [];
    old = treed 8 [] 4;
    kind_is = refl;
    pages = refl;
    within = λ i there. inl refl;
    before_is = refl;
    was = refl;
    added = rows.added;
    after_is = refl;
  };
  rest = record {
    key = rows.cat_key;
    root = 4;
    named =
        record {
          page = 1;
          entry = record { key = rows.cat_key; postings = Root 4 };
          on =
              inl refl;
          key = refl;
          names = refl;
        };
    place = λ i there. TowardItem.here;
    rows = each_pending;
  };
}

abbrev list_on : Body → List ℕ
list_on (body.PostLeaf high items) = items
list_on _ = []

-- where the leaf has it already the record is not valid
posting_again : (R : Log)
    → IsAddPostings R (treed 8 (128 ∷ 32 ∷ [])) (treed 9 (128 ∷ 32 ∷ [])) posting_record → ⊥
posting_again R x =
    let old : 128 ∷ 32 ∷ [] ≡ x.here.old_list =
    ap (λ (ps : List Page). list_on (first_page ps).body) x.here.before_is
    ∙ ap list_on x.here.was in
    let new : 128 ∷ 32 ∷ [] ≡ x.here.new_list =
    ap (λ (ps : List Page). list_on (first_page ps).body) x.here.after_is in
    let fresh = x.here.added.adds in
    let there : In fresh.0 (items_of x.here.new_list) =
    (x.here.added.just fresh.0).1 (inr fresh.1) in
    fresh.2 (subst (λ (is : List ℕ). In fresh.0 (items_of is)) (sym new ∙ old) there)

-- 16: a root with a large body grows
abbrev rooted : List on_page.Entry → Pages
rooted entries zero = first.meta_page
rooted entries (suc zero) = record { right = 0; stamp = 8; body = large.leaf entries }
rooted entries (suc (suc p)) = free_page

abbrev grown : List on_page.Entry → Pages
grown entries zero = first.meta_page
grown entries (suc zero) =
    record { right = 0; stamp = 9; body = body.EntryInner (large.child 2 [] ∷ []) }
grown entries (suc (suc zero)) = record { right = 0; stamp = 9; body = large.leaf entries }
grown entries (suc (suc (suc p))) = free_page

abbrev grow_record : List on_page.Entry → Record
grow_record entries =
    record {
      number = 9;
      xid = 0;
      kind = kind.GrowRoot;
      changes =
          first.image 1 (grown entries 1) ∷ first.image 2 (grown entries 2) ∷ [];
    }

used_below : (entries : List on_page.Entry) (q : ℕ) → q < 2
    → use_in (rooted entries) q ≢ usage.Unused
used_below entries zero l e = cc
used_below entries (suc zero) l e = cc
used_below entries (suc (suc q)) l e = absurd (omega (arith, l))

root_grows : (R : Log) (a b c d : on_page.Entry) (since : ℕ) → large.AreLarge a b c d
    → IsGrowRoot R (rooted (a ∷ b ∷ c ∷ d ∷ [])) (grown (a ∷ b ∷ c ∷ d ∷ []))
    (grow_record (a ∷ b ∷ c ∷ d ∷ [])) since
root_grows R a b c d since s = record {
  here = record {
    root = 1;
    new = 2;
    inner = body.EntryInner (large.child 2 [] ∷ []);
    old = rooted (a ∷ b ∷ c ∷ d ∷ []) 1;
    was = free_page;
    kind_is = refl;
    pages = refl;
    is_new = IsNew.unused refl (used_below (a ∷ b ∷ c ∷ d ∷ []));
    before_is = refl;
    large = omega (arith, large.all_listed a b c d s);
    one_child = OneChild.of_leaf [] (a ∷ b ∷ c ∷ d ∷ []);
    after_is = refl;
  };
  rest = IsRoot.of_entries;
}

-- an empty one doesn't
empty_grows : (R : Log) (since : ℕ) → IsGrowRoot R (rooted []) (grown []) (grow_record []) since → ⊥
empty_grows R since x =
    let size : 0 ≡ length (body_bytes x.here.old.body) =
    ap (λ (ps : List Page). length (body_bytes (first_page ps).body)) x.here.before_is in
    omega (arith, size, x.here.large)
