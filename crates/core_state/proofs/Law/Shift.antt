-- The case of the first pending page that leaves the pending list.
use Rattle.std.proofs.Common.{◌≡◌, ◌≢◌, ◌⊎◌, ◌<◌, ℕ, suc, List, [], ◌∷◌, length, refl, sym, ap, ap₂, subst, ◌∙◌, inl}
use Rattle.std.proofs.Common.{inr, arith}
use Rattle.ts_base.specs.Keys.{keys_of}
use Rattle.page_types.specs.Views.{rows_of, kept_rows_of, first_of, first_in}
use Rattle.page_types.specs.declared.page.Page.{Page}
use Rattle.page_types.specs.declared.page.Row.{Row}
use Rattle.page_types.specs.declared.page.Body.{Body}
use Rattle.page_types.specs.declared.page.Body.TheVariants as body
use Rattle.page_types.specs.declared.page.Gone.TheVariants as gone
use Rattle.page_types.specs.declared.record.Record.{Record}
use Rattle.page_types.specs.declared.record.Kind.TheVariants as kind
use Rattle.core_state.specs.Log.{Log, Pages, In, changed}
use Rattle.core_state.specs.Documents.{IsChain}
use Rattle.core_state.specs.Index.{AllMain}
use Rattle.core_state.specs.Changes.{made_with}
use Rattle.core_state.specs.PendingRules.{IsLastAfter, IsShift}
use Rattle.core_state.specs.Trees.Nodes.{put}
use Rattle.core_state.specs.Inner.Effects.{Moved}
use Rattle.core_state.specs.Inner.Ghosts.{Place, Ghost}
use Rattle.core_state.specs.Inner.Ghosts.Place.{unused, meta, line, shifted, entry, overflow_of, private_of}
use Rattle.core_state.specs.Inner.Kinds.{Fits, IsLined, last_of}
use Rattle.core_state.specs.Inner.Owners.{RowOwned}
use Rattle.core_state.specs.Inner.Grouping.{rows_by_page, InLine, IsFirst, Grouped, AllKeysIn, Complete, RowsGrouped}
use Rattle.core_state.specs.Inner.LineSteps.{LineStep}
use Rattle.core_state.proofs.PageLists.{same_or_not, two_pages}
use Rattle.core_state.proofs.Chains.{chain_kept, none_chain, first_once}
use Rattle.core_state.proofs.Trees.Order.{put_else}
use Rattle.core_state.proofs.Law.Invariant.{Inv}
use Rattle.core_state.proofs.Law.Steps.{Before, Left, Case, CaseOf}
use Rattle.core_state.proofs.Law.SamePages.{not_first}
use Rattle.core_state.proofs.Law.PutPlaces.{put_at, put_back, put_same, starts_move}
use Rattle.core_state.proofs.Law.OwnersStay.{PrivateNow, rows_stay, all_keys_stay, on_line_row, same_rows}
use Rattle.core_state.proofs.Law.LooseSteps.{Loose, PageNow, kinds_now, trees_now, named_now, main_now, items_now}
use Rattle.core_state.proofs.Law.ChainsStay.{chained_stay}
use Rattle.core_state.proofs.Law.Groups.{shift_first, shift_keys}

same_meta : (a b c d e f : ℕ) → body.Meta a b c ≡ body.Meta d e f → (a ≡ d) × (b ≡ e) × (c ≡ f)
same_meta a b c d e f m = (cc, cc, cc)

-- what is after the first page of the line
pub record Behind (P : Pages) (ln : List ℕ) (page last count : ℕ) : Type 0 where
  pub rest : List ℕ
  pub is : ln ≡ page ∷ rest
  pub chain : IsChain P page (page ∷ rest)
  pub size : count ≡ length rest
  pub end : last ≡ last_of (page ∷ rest)

behind : (P : Pages) (ln : List ℕ) (page last count : ℕ) → IsChain P page ln → last ≡ last_of ln
    → suc count ≡ length ln → Behind P ln page last count
behind P [] page last count c e s = absurd (omega (arith, s))
behind P (q ∷ rest) page last count c e s = record {
  rest = rest;
  is = ap (λ (z : ℕ). z ∷ rest) (sym c.0);
  chain = (refl, (λ z. c.1 (sym c.0 ∙ z)), subst (λ (z : ℕ). IsChain P (P z).right rest) (sym c.0) c.2);
  size = omega (arith, s);
  end = e ∙ ap (λ (z : ℕ). last_of (z ∷ rest)) (sym c.0);
}

-- the last page stays the last, or there is none
last_stays : (P : Pages) (page right last new : ℕ) (rest : List ℕ) → IsChain P right rest
    → last ≡ last_of (page ∷ rest) → IsLastAfter right last new → new ≡ last_of rest
last_stays P page right last new rest c e (IsLastAfter.none z) = ap last_of (sym (none_chain P right rest z c))
last_stays P page right last new [] c e (IsLastAfter.same n) = absurd (n c)
last_stays P page right last new (q ∷ rest) c e (IsLastAfter.same n) = e

module _ (n L : ℕ) (R : Log) (P Q : Pages) (r : Record) (floor since : ℕ) (g : Ghost)
    (b : Before n L R P Q r floor since g) (l : Left n since R P Q r) (some : R ≢ []) (x : IsShift R P Q r) where
  abbrev v : Inv n L R P g
  v = b.inv

  abbrev page : ℕ
  page = x.here.page

  was : (P 0 ≡ x.here.meta) × (P page ≡ x.here.old)
  was = two_pages P (changed r) 0 page x.here.meta x.here.old x.here.pages x.here.before_is

  now : (Q 0 ≡ made_with r x.here.meta.right (body.Meta x.here.old.right x.here.new_last x.here.count))
      × (Q page ≡ made_with r x.here.old.right (body.Deleted (gone.Pending x.here.rows)))
  now = two_pages Q (changed r) 0 page _ _ x.here.pages x.here.after_is

  rows_was : rows_of (P page) ≡ x.here.rows
  rows_was = ap rows_of was.1 ∙ ap (λ (c : Body). rows_of (record { right = 0; stamp = 0; body = c })) x.here.was

  first_was : first_of (P 0) ≡ page
  first_was = ap first_of was.0 ∙ ap first_in x.here.first

  the_line : Behind P g.line page x.here.last x.here.count
  the_line =
      let c = v.lined.counted some in
      let m = same_meta _ _ _ _ _ _ (sym c.1 ∙ ap (λ (p : Page). p.body) was.0 ∙ x.here.first) in
      behind P g.line page x.here.last x.here.count (subst (λ (z : ℕ). IsChain P z g.line) first_was v.lined.is_line)
      (sym m.1) (sym m.2)

  abbrev rest : List ℕ
  rest = the_line.rest

  on_line : g.place page ≡ line
  on_line = (v.lined.on page).0 (subst (In page) (sym the_line.is) (inl refl))

  not_zero : page ≢ 0
  not_zero = the_line.chain.1

  others : (q : ℕ) → q ≢ 0 → q ≢ page → Q q ≡ P q
  others q m k = l.elsewhere q
      (λ i. elim (subst (In q) x.here.pages i) [ inl e ↦ m e | inr (inl e) ↦ k e | inr (inr z) ↦ z ])

  not_page : (q : ℕ) → In q rest → q ≢ page
  not_page q i e = first_once P page rest the_line.chain (subst (λ (z : ℕ). In z rest) e i)

  line_of : (q : ℕ) → In q rest → g.place q ≡ line
  line_of q i = (v.lined.on q).0 (subst (In q) (sym the_line.is) (inr i))

  line_not_zero : (q : ℕ) → g.place q ≡ line → q ≢ 0
  line_not_zero q e z = let f : meta ≡ line = sym (v.starts.page_0 some) ∙ ap g.place (sym z) ∙ e in cc

  rest_same : (q : ℕ) → In q rest → Q q ≡ P q
  rest_same q i = others q (line_not_zero q (line_of q i)) (not_page q i)

  -- the ghosts after
  abbrev f : ℕ → Place
  f = put g.place page shifted

  abbrev g' : Ghost
  g' = record g { place = f; line = rest }

  page_not : (y : Place) → line ≢ y → g.place page ≢ y
  page_not y n e = n (sym on_line ∙ e)

  late : L < (Q page).stamp
  late =
      let e : (Q page).stamp ≡ r.number = ap (λ (p : Page). p.stamp) now.1 in
      omega (arith, e, b.number, b.within)

  each : (p : ℕ) → PageNow n since L R P Q r g v l f rest p
  each p = elim (same_or_not page p) [
    | inl e ↦ subst (PageNow n since L R P Q r g v l f rest) (sym e)
        (PageNow.loose (subst Loose (sym on_line) (record { entry = refl; post = refl }))
        (subst Loose (sym here) (record { entry = refl; post = refl }))
        (subst (λ (y : Place). Fits L y (Q page)) (sym here) (x.here.rows, ap (λ (q : Page). q.body) now.1, late)))
    | inr off ↦ elim (same_or_not 0 p) [
      | inr some_page ↦ PageNow.same (put_else g.place page shifted p off) (others p some_page off)
      | inl e ↦
          let at : g.place p ≡ meta = ap g.place e ∙ v.starts.page_0 some in
          let there : f p ≡ meta = put_else g.place page shifted p off ∙ at in
          PageNow.loose (subst Loose (sym at) (record { entry = refl; post = refl }))
          (subst Loose (sym there) (record { entry = refl; post = refl }))
          (subst (λ (y : Place). Fits L y (Q p)) (sym there) (
            x.here.old.right,
            x.here.new_last,
            x.here.count,
            ap (λ (z : ℕ). (Q z).body) e
                ∙ ap (λ (q : Page). q.body) now.0,
          ))
    ]
  ]
    where
      here : f page ≡ shifted
      here = put_at g.place page shifted page refl

  right_was : (P page).right ≡ x.here.old.right
  right_was = ap (λ (p : Page). p.right) was.1

  chain_was : IsChain P x.here.old.right rest
  chain_was = subst (λ (z : ℕ). IsChain P z rest) right_was the_line.chain.2

  first_now : first_of (Q 0) ≡ x.here.old.right
  first_now = ap first_of now.0

  lined : IsLined (r ∷ R) Q g'
  lined = record {
    is_line = subst (λ (z : ℕ). IsChain Q z rest) (sym first_now)
        (chain_kept P Q x.here.old.right rest (λ q i. ap (λ (p : Page). p.right) (rest_same q i)) chain_was);
    on = λ p. (
      λ i. put_else g.place page shifted p (not_page p i) ∙ line_of p i,
      λ e.
          let was_line = put_back g.place page shifted line (λ z. cc) p e in
          elim (subst (In p) the_line.is ((v.lined.on p).1 was_line.1)) [ inl z ↦ absurd (was_line.0 z) | inr i ↦ i ],
    );
    some_row = λ p e z.
        let was_line = put_back g.place page shifted line (λ z. cc) p e in
        v.lined.some_row p was_line.1 (ap rows_of (sym (others p (line_not_zero p was_line.1) was_line.0)) ∙ z);
    counted = λ k. (
      x.here.old.right,
      ap (λ (p : Page). p.body) now.0 ∙ ap₂ (λ (a c : ℕ). body.Meta x.here.old.right a c)
          (last_stays P page x.here.old.right x.here.last x.here.new_last rest chain_was the_line.end x.here.last_is)
          the_line.size,
    );
  }

  moved : (w : Row) → In w (rows_of (P page)) → Moved P w.item
  moved w i =
      let d = x.rest w (subst (In w) rows_was i) in
      record {
        doc = d.0;
        head = d.3.0;
        vector = d.1;
        item = d.2;
        has = d.3.1;
        whole = d.3.2;
        main = subst
            (λ (z : ℕ). AllMain P z d.1) (sym d.2) d.4;
      }

  line_step : LineStep R P Q g g'
  line_step = LineStep.shift page the_line.is (first_now ∙ sym right_was) (put_at g.place page shifted page refl)
      (ap (λ (p : Page). p.right) now.1 ∙ sym right_was)
      (ap kept_rows_of now.1 ∙ sym rows_was) moved (λ q i. ap rows_of (rest_same q i))

  privates : (q i : ℕ) → f q ≡ private_of i → PrivateNow n since L R P Q r g v l g' q i
  privates q i e =
      let at = put_back g.place page shifted (private_of i) (λ z. cc) q e in
      PrivateNow.was at.1 (ap rows_of
      (others q (λ z. let m : meta ≡ private_of i = sym (v.starts.page_0 some) ∙ ap g.place (sym z) ∙ at.1 in cc)
      at.0))

  lines : (q : ℕ) (w : Row) → f q ≡ line → In w (rows_of (Q q))
      → ((p : ℕ) × (g.place p ≡ line) × In w (rows_of (P p))) ⊎ RowOwned Q w
  lines q w e i =
      let at = put_back g.place page shifted line (λ z. cc) q e in
      inl (q, at.1, subst (λ (p : Page). In w (rows_of p)) (others q (line_not_zero q at.1) at.0) i)

  -- the rows by page
  rows_before : rows_by_page P g.line ≡ rows_of (P page) ∷ rows_by_page P rest
  rows_before = ap (rows_by_page P) the_line.is

  was_grouped : Grouped (rows_of (P page) ∷ rows_by_page P rest)
  was_grouped = subst Grouped rows_before v.grouped.grouped

  complete : Complete Q (rows_by_page P rest)
  complete i m = elim (subst (λ (ys : List (List Row)). IsFirst i ys ⊎ AllKeysIn P i ys) rows_before
      (v.grouped.complete i there)) [
        | inl first ↦ inl (shift_first i (rows_of (P page)) (rows_by_page P rest) was_grouped m first)
        | inr k ↦
            let on = all_keys_stay n since L R P Q r g v l i (rows_of (P page) ∷ rows_by_page P rest)
            (on_line_row n since L R P Q r g v l i there) k in
            elim (shift_keys i (rows_of (P page)) (rows_by_page P rest) was_grouped m (keys_of on.vector) on.keys) [
              | inl first ↦ inl first
              | inr all ↦ inr (record {
                doc = on.doc;
                vector = on.vector;
                item = on.item;
                whole = on.whole;
                keys =
                    all;
              })
            ]
      ]
    where
      there : InLine i (rows_by_page P g.line)
      there = subst (InLine i) (sym rows_before) (inr m)

  grouped : RowsGrouped Q rest
  grouped =
      let same = sym (same_rows n since L R P Q r g v l rest (λ q i. ap rows_of (rest_same q i))) in
      record { grouped = subst Grouped same was_grouped.0; complete = subst (Complete Q) same complete }

  the_case : Case n L R P Q r g g'
  the_case = record {
    kinds = kinds_now n since L R P Q r g v l f rest each;
    starts = starts_move R r P Q g page shifted rest some v.starts (page_not unused (λ z. cc))
        (page_not meta (λ z. cc)) (λ h. page_not (entry h) (λ z. cc)) (λ z. cc) (λ z. cc) l.stamps;
    lined = lined;
    trees = trees_now n since L R P Q r g v l f rest each;
    named = named_now n since L R P Q r g v l f rest each;
    chained = chained_stay n since L R P Q r g v l g' kind.Shift x.here.kind_is tt tt
        (λ i q. put_same g.place page shifted (overflow_of i) (page_not (overflow_of i) (λ z. cc)) (λ z. cc) q)
        (λ i q. put_same g.place page shifted (private_of i) (page_not (private_of i) (λ z. cc)) (λ z. cc) q);
    rows_owned = rows_stay n since L R P Q r g v l g' privates lines;
    items_owned = items_now n since L R P Q r g v l f rest each;
    grouped = grouped;
    main = main_now n since L R P Q r g v l f rest each;
    line = line_step;
    shifted_stays = λ p e. elim (same_or_not page p)
        [ inl s ↦ put_at g.place page shifted p s | inr s ↦ put_else g.place page shifted p s ∙ e ];
  }

pub shift_case : CaseOf (λ R P Q r floor since. IsShift R P Q r)
shift_case n L R P Q r floor since g b l x =
    let some = not_first R r kind.Shift b.started x.here.kind_is (λ e. cc) in
    (g' n L R P Q r floor since g b l some x, the_case n L R P Q r floor since g b l some x)
