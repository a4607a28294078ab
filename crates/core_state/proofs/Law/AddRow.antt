-- The case of a row that comes after those of the last pending page.
use Rattle.std.proofs.Common.{◌≡◌, ◌≢◌, ◌⊎◌, ℕ, List, [], ◌∷◌, ◌++◌, refl, sym, ap, subst, ◌∙◌, inl, inr, append-nil}
use Rattle.std.proofs.lemmas.List.{map-append}
use Rattle.page_types.specs.Views.{rows_of, first_of}
use Rattle.page_types.specs.declared.page.Page.{Page}
use Rattle.page_types.specs.declared.page.Row.{Row}
use Rattle.page_types.specs.declared.page.Body.{Body}
use Rattle.page_types.specs.declared.page.Body.TheVariants as body
use Rattle.page_types.specs.declared.record.Record.{Record}
use Rattle.page_types.specs.declared.record.Kind.TheVariants as kind
use Rattle.core_state.specs.Log.{Log, Pages, In, changed, fate}
use Rattle.core_state.specs.Documents.{IsChain, HasVector}
use Rattle.core_state.specs.Index.{IsIndexed}
use Rattle.core_state.specs.Changes.{made_with}
use Rattle.core_state.specs.PendingRules.{IsAddRow}
use Rattle.core_state.specs.declared.answers.Fate.TheVariants.{Running}
use Rattle.core_state.specs.Inner.Effects.{NewRow}
use Rattle.core_state.specs.Inner.Ghosts.{Place, Ghost}
use Rattle.core_state.specs.Inner.Ghosts.Place.{meta, line, private_of}
use Rattle.core_state.specs.Inner.Kinds.{Fits, IsLined}
use Rattle.core_state.specs.Inner.Owners.{RowOwned}
use Rattle.core_state.specs.Inner.Grouping.{rows_by_page, InLine, IsFirst, Grouped, KeyIn, Complete, RowsGrouped}
use Rattle.core_state.specs.Inner.LineSteps.{LineStep}
use Rattle.core_state.proofs.Histories.{chain_one}
use Rattle.core_state.proofs.PageLists.{same_or_not, one_page, in_back, in_either}
use Rattle.core_state.proofs.Chains.{chain_kept}
use Rattle.core_state.proofs.StaysIndexed.{runs_alive}
use Rattle.core_state.proofs.Law.Invariant.{Inv}
use Rattle.core_state.proofs.Law.Steps.{Left, Case, CaseOf}
use Rattle.core_state.proofs.Law.SamePages.{not_first, starts_stay}
use Rattle.core_state.proofs.Law.OwnersStay.{PrivateNow, rows_stay, all_keys_stay, on_line_row, same_rows}
use Rattle.core_state.proofs.Law.LooseSteps.{Loose, PageNow, kinds_now, trees_now, named_now, main_now, items_now}
use Rattle.core_state.proofs.Law.ChainsStay.{chained_stay}
use Rattle.core_state.proofs.Law.Groups.{row_back, row_first, row_key, key_of_row, row_grouped, last_once}

module _ (n L : ℕ) (R : Log) (P Q : Pages) (r : Record) (since : ℕ) (g : Ghost) (v : Inv n L R P g)
    (l : Left n since R P Q r) (some : R ≢ []) (x : IsAddRow R P Q r) where
  abbrev last : ℕ
  last = x.here.last

  abbrev rows_now : List Row
  rows_now = x.here.rows ++ x.here.row ∷ []

  was : P last ≡ x.here.old
  was = one_page P (changed r) last x.here.old x.here.pages x.here.before_is

  now : Q last ≡ made_with r x.here.old.right (body.Pending rows_now)
  now = one_page Q (changed r) last _ x.here.pages x.here.after_is

  rows_was : rows_of (P last) ≡ x.here.rows
  rows_was = ap rows_of was ∙ ap (λ (b : Body). rows_of (record { right = 0; stamp = 0; body = b })) x.here.was

  rows_are : rows_of (Q last) ≡ rows_now
  rows_are = ap rows_of now

  others : (q : ℕ) → q ≢ last → Q q ≡ P q
  others q off = l.elsewhere q (λ i. elim (subst (In q) x.here.pages i) [ inl e ↦ off e | inr z ↦ z ])

  -- the pending list
  the_line : g.line ≡ x.rest.front ++ last ∷ []
  the_line = chain_one P (first_of (P 0)) g.line (x.rest.front ++ last ∷ []) v.lined.is_line x.rest.is_last

  on_line : g.place last ≡ line
  on_line = (v.lined.on last).0 (subst (In last) (sym the_line) (in_back last x.rest.front (last ∷ []) (inl refl)))

  each : (p : ℕ) → PageNow n since L R P Q r g v l g.place g.line p
  each p = elim (same_or_not last p) [
    | inr off ↦ PageNow.same refl (others p off)
    | inl e ↦ subst (PageNow n since L R P Q r g v l g.place g.line) (sym e) (PageNow.loose loose loose
        (subst (λ (y : Place). Fits L y (Q last)) (sym on_line) (rows_now, ap (λ (q : Page). q.body) now)))
  ]
    where
      loose : Loose (g.place last)
      loose = subst Loose (sym on_line) (record { entry = refl; post = refl })

  rights : (q : ℕ) → (Q q).right ≡ (P q).right
  rights q = elim (same_or_not last q) [
    | inr off ↦ ap (λ (p : Page). p.right) (others q off)
    | inl e ↦ subst (λ (z : ℕ). (Q z).right ≡ (P z).right) (sym e)
        (ap (λ (p : Page). p.right) now ∙ sym (ap (λ (p : Page). p.right) was))
  ]

  metapage : Q 0 ≡ P 0
  metapage = others 0 (λ e. let z : meta ≡ line = sym (v.starts.page_0 some) ∙ ap g.place e ∙ on_line in cc)

  not_none : rows_now ≡ [] → ⊥
  not_none e = none x.here.rows e
    where
      none : (ws : List Row) → ws ++ x.here.row ∷ [] ≡ [] → ⊥
      none [] f = cc
      none (w ∷ ws) f = cc

  lined : IsLined (r ∷ R) Q g
  lined = record {
    is_line = subst (λ (z : ℕ). IsChain Q z g.line) (ap first_of (sym metapage))
        (chain_kept P Q (first_of (P 0)) g.line (λ q i. rights q) v.lined.is_line);
    on = v.lined.on;
    some_row = λ p at z. elim (same_or_not last p) [
      | inr off ↦ v.lined.some_row p at (ap rows_of (sym (others p off)) ∙ z)
      | inl e ↦ not_none (sym rows_are ∙ ap (λ (q : ℕ). rows_of (Q q)) (sym e) ∙ z)
    ];
    counted = λ k. let c = v.lined.counted some in (c.0, ap (λ (p : Page). p.body) metapage ∙ c.1);
  }

  item : x.here.row.item ≡ x.here.doc.item
  item = x.here.item

  runs : fate R x.rest.head.inserted_by ≡ Running
  runs = ap (fate R) x.rest.by ∙ x.here.runs

  new_row : NewRow R P x.here.row.item
  new_row = record { doc = x.here.doc; head = x.rest.head; item = sym item; has = x.rest.has; runs = runs }

  line_step : LineStep R P Q g g
  line_step = LineStep.grow [] (sym (append-nil g.line)) (inl (ap first_of metapage)) (λ q i. absurd i)
      (λ q i. elim (same_or_not last q) [
        | inr off ↦ ([], ap rows_of (others q off) ∙ sym (append-nil _), λ w j. absurd j)
        | inl e ↦ (
          x.here.row ∷ [],
          ap (λ (z : ℕ). rows_of (Q z)) e ∙ rows_are ∙ ap (λ (ws : List Row). ws ++ x.here.row ∷ []) (sym rows_was)
              ∙ ap (λ (z : ℕ). rows_of (P z) ++ x.here.row ∷ []) (sym e),
          λ w j. elim j [ inl f ↦ subst (λ (z : Row). NewRow R P z.item) (sym f) new_row | inr z ↦ absurd z ],
        )
      ])

  -- the document is whole after the record too
  whole_now : HasVector Q x.here.doc x.rest.vector
  whole_now = elim (l.whole x.here.doc x.rest.head x.rest.vector x.rest.has x.rest.whole) [
    | inl w ↦ w
    | inr gone ↦ absurd (runs_alive n R P v.heads x.here.doc x.rest.head x.rest.has runs gone.0)
  ]

  row_owned : RowOwned Q x.here.row
  row_owned = record {
    doc = x.here.doc;
    head = whole_now.0;
    vector = x.rest.vector;
    item = sym item;
    has = whole_now.1;
    whole = whole_now.2;
    keys = λ k i. subst (In k) x.rest.keys i;
  }

  privates : (q i : ℕ) → g.place q ≡ private_of i → PrivateNow n since L R P Q r g v l g q i
  privates q i at = PrivateNow.was at
      (ap rows_of (others q (λ e. let z : private_of i ≡ line = sym at ∙ ap g.place e ∙ on_line in cc)))

  lines : (q : ℕ) (w : Row) → g.place q ≡ line → In w (rows_of (Q q))
      → ((p : ℕ) × (g.place p ≡ line) × In w (rows_of (P p))) ⊎ RowOwned Q w
  lines q w at i = elim (same_or_not last q) [
    | inr off ↦ inl (q, at, subst (λ (p : Page). In w (rows_of p)) (others q off) i)
    | inl e ↦ elim (in_either w x.here.rows (x.here.row ∷ [])
        (subst (In w) rows_are (subst (λ (z : ℕ). In w (rows_of (Q z))) e i))) [
          | inl old ↦ inl (last, on_line, subst (In w) (sym rows_was) old)
          | inr (inl f) ↦ inr (subst (RowOwned Q) (sym f) row_owned)
          | inr (inr z) ↦ absurd z
        ]
  ]

  -- the rows by page
  abbrev front_rows : List (List Row)
  front_rows = rows_by_page P x.rest.front

  before_rows : rows_by_page P g.line ≡ front_rows ++ x.here.rows ∷ []
  before_rows = ap (rows_by_page P) the_line ∙ map-append (λ (q : ℕ). rows_of (P q)) x.rest.front (last ∷ [])
      ∙ ap (λ (ws : List Row). front_rows ++ ws ∷ []) rows_was

  behind_rows : rows_by_page Q g.line ≡ front_rows ++ rows_now ∷ []
  behind_rows =
      ap (rows_by_page Q) the_line ∙ map-append (λ (q : ℕ). rows_of (Q q)) x.rest.front (last ∷ [])
      ∙ ap (λ (ys : List (List Row)). ys ++ rows_of (Q last) ∷ []) (same_rows n since L R P Q r g v l x.rest.front
      (λ q i. ap rows_of (others q
      (λ e. last_once P (first_of (P 0)) last x.rest.front x.rest.is_last
      (subst (λ (z : ℕ). In z x.rest.front) e i)))))
      ∙ ap (λ (ws : List Row). front_rows ++ ws ∷ []) rows_are

  no_row : InLine x.here.row.item (front_rows ++ x.here.rows ∷ []) → ⊥
  no_row m = x.rest.no_row
      (on_line_row n since L R P Q r g v l x.here.row.item
      (subst (InLine x.here.row.item) (sym before_rows) m))

  complete : Complete Q (front_rows ++ rows_now ∷ [])
  complete i m = elim (row_back x.here.rows x.here.row front_rows i m) [
    | inr e ↦ inr (record {
      doc = x.here.doc;
      vector = x.rest.vector;
      item = sym item ∙ sym e;
      whole = whole_now;
      keys = λ k j. key_of_row x.here.rows x.here.row k i front_rows (sym e) (subst (In k) (sym x.rest.keys) j);
    })
    | inl old ↦
        let there : InLine i (rows_by_page P g.line) = subst (InLine i) (sym before_rows) old in
        elim (v.grouped.complete i there) [
          | inl first ↦ inl (row_first x.here.rows x.here.row front_rows i (subst (IsFirst i) before_rows first))
          | inr k ↦
              let on = all_keys_stay n since L R P Q r g v l i (rows_by_page P g.line)
              (on_line_row n since L R P Q r g v l i there) k in
              inr (record {
                doc = on.doc;
                vector = on.vector;
                item = on.item;
                whole = on.whole;
                keys = λ key j. row_key x.here.rows x.here.row key i front_rows
                    (subst (KeyIn key i) before_rows (on.keys key j));
              })
        ]
  ]

  grouped : RowsGrouped Q g.line
  grouped = record {
    grouped = subst Grouped (sym behind_rows)
        (row_grouped x.here.rows x.here.row front_rows (subst Grouped before_rows v.grouped.grouped) no_row);
    complete = subst (Complete Q) (sym behind_rows) complete;
  }

  the_case : Case n L R P Q r g g
  the_case = record {
    kinds = kinds_now n since L R P Q r g v l g.place g.line each;
    starts = starts_stay R r P Q g some v.starts l.stamps;
    lined = lined;
    trees = trees_now n since L R P Q r g v l g.place g.line each;
    named = named_now n since L R P Q r g v l g.place g.line each;
    chained = chained_stay n since L R P Q r g v l g (kind.AddRow x.here.doc.item x.here.doc.serial) x.here.kind_is
        tt tt (λ i q. (λ e. e, λ e. e)) (λ i q. (λ e. e, λ e. e));
    rows_owned = rows_stay n since L R P Q r g v l g privates lines;
    items_owned = items_now n since L R P Q r g v l g.place g.line each;
    grouped = grouped;
    main = main_now n since L R P Q r g v l g.place g.line each;
    line = line_step;
    shifted_stays = λ p e. e;
  }

  -- so the document is indexed
  pub indexed_now : IsIndexed Q x.here.doc
  indexed_now = record {
    vector = x.rest.vector;
    whole = whole_now;
    there = inl (λ k m. record {
      row = x.here.row;
      linked = record {
        line = g.line;
        is_line = lined.is_line;
        page = last;
        on = (v.lined.on last).1 on_line;
        there = subst (In x.here.row) (sym rows_are)
            (in_back x.here.row x.here.rows (x.here.row ∷ []) (inl refl));
      };
      item = item;
      key = subst (In k) (sym x.rest.keys) m;
    });
  }

pub add_row_case : CaseOf (λ R P Q r floor since. IsAddRow R P Q r)
add_row_case n L R P Q r floor since g b l x = (
  g,
  the_case n L R P Q r since g b.inv l
      (not_first R r (kind.AddRow x.here.doc.item x.here.doc.serial) b.started x.here.kind_is (λ e. cc)) x,
)
