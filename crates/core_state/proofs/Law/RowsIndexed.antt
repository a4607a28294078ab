-- In every legal log the document of a linked row is indexed.
use Rattle.std.proofs.Common.{◌≡◌, ◌≢◌, ◌⊎◌, ◌++◌, ℕ, suc, List, [], ◌∷◌, length, refl, sym, ap, subst, ◌∙◌, inl, inr}
use Rattle.std.proofs.Common.{arith}
use Rattle.ts_base.specs.Keys.{Key, keys_of}
use Rattle.page_types.specs.Views.{rows_of, first_of, first_in}
use Rattle.page_types.specs.declared.page.Page.{Page}
use Rattle.page_types.specs.declared.page.Row.{Row}
use Rattle.page_types.specs.declared.page.Body.TheVariants as body
use Rattle.page_types.specs.declared.record.Record.{Record}
use Rattle.page_types.specs.declared.record.Kind.{Kind}
use Rattle.page_types.specs.declared.record.Kind.TheVariants as kind
use Rattle.core_state.specs.Log.{Log, Pages, In, Shows, changed, commits, fate}
use Rattle.core_state.specs.Documents.{Doc, Has, IsChain, IsDead, page_of}
use Rattle.core_state.specs.Index.{Line, Pending, HasRow, IsIndexed, rows_on}
use Rattle.core_state.specs.TransactionRules.{IsCreate}
use Rattle.core_state.specs.PendingRules.{IsAddRow, IsLinkPending, IsShift}
use Rattle.core_state.specs.Legal.{Valid, RecordsAreValid}
use Rattle.core_state.specs.Inner.PageKinds.{ChangesLine, Touched}
use Rattle.core_state.specs.Inner.Ghosts.{Ghost}
use Rattle.core_state.specs.Inner.Ghosts.Place.{meta, heap, private_of}
use Rattle.core_state.specs.Inner.Kinds.{last_of}
use Rattle.core_state.specs.Inner.Grouping.{rows_by_page, InLine, StartsPage, IsFirst, KeyIn}
use Rattle.core_state.specs.Inner.LineSteps.{LineStep}
use Rattle.core_state.proofs.Showing.{shown_one}
use Rattle.core_state.proofs.Histories.{chain_one}
use Rattle.core_state.proofs.PageLists.{in_either, in_back, two_pages}
use Rattle.core_state.proofs.RulesByKind.{kind_rule}
use Rattle.core_state.proofs.HeadSteps.{link_turned}
use Rattle.core_state.proofs.Chains.{chain_kept}
use Rattle.core_state.proofs.StaysIndexed.{runs_alive}
use Rattle.core_state.proofs.SteadyPages.{touches, elsewhere}
use Rattle.core_state.proofs.Law.Invariant.{Inv}
use Rattle.core_state.proofs.Law.Places.{place_for}
use Rattle.core_state.proofs.Law.LineEffects.{on_line, linked}
use Rattle.core_state.proofs.Law.LinkPages.{LinkPages, link_pages}
use Rattle.core_state.proofs.Law.RowFrames.{rows_same}
use Rattle.core_state.proofs.Law.RunningStays.{not_create}
use Rattle.core_state.proofs.Law.Steps.{StepHolds, After}
use Rattle.core_state.proofs.Law.Runs.{plain_run, step_over}

-- the rows of pages, page by page
pub on_some : (P : Pages) (qs : List ℕ) (w : Row) → In w (rows_on P qs) → (q : ℕ) × In q qs × In w (rows_of (P q))
on_some P [] w m = absurd m
on_some P (q ∷ qs) w m = elim (in_either w (rows_of (P q)) (rows_on P qs) m) [
  | inl a ↦ (q, inl refl, a)
  | inr c ↦ let k = on_some P qs w c in (k.0, inr k.1, k.2)
]

pub in_line : (P : Pages) (qs : List ℕ) (q : ℕ) (w : Row) → In q qs → In w (rows_of (P q))
    → InLine w.item (rows_by_page P qs)
in_line P [] q w i m = absurd i
in_line P (p ∷ qs) q w (inl e) m = inl (w, subst (λ (z : ℕ). In w (rows_of (P z))) e m, refl)
in_line P (p ∷ qs) q w (inr i) m = inr (in_line P qs q w i m)

pub key_on : (P : Pages) (qs : List ℕ) (k : Key) (i : ℕ) → KeyIn k i (rows_by_page P qs)
    → (q : ℕ) × (w : Row) × In q qs × In w (rows_of (P q)) × (w.item ≡ i) × In k w.keys
key_on P [] k i m = absurd m
key_on P (p ∷ qs) k i (inl m) = (p, m.0, inl refl, m.1, m.2, m.3)
key_on P (p ∷ qs) k i (inr m) = let r = key_on P qs k i m in (r.0, r.1, inr r.2, r.3, r.4, r.5)

first_row : (i : ℕ) (ws : List Row) → StartsPage i ws → (w : Row) × In w ws × (w.item ≡ i)
first_row i [] s = absurd s
first_row i (w ∷ ws) s = (w, inl refl, s)

-- the first of some rows is before those that come after
starts_old : (i : ℕ) (ws xs : List Row) → ws ≢ [] → StartsPage i (ws ++ xs) → StartsPage i ws
starts_old i [] xs some s = absurd (some refl)
starts_old i (w ∷ ws) xs some s = s

-- the document of the item is indexed
abbrev HasIndexed : Pages → ℕ → Type 0
HasIndexed P i = (d : Doc) × (d.item ≡ i) × IsIndexed P d

abbrev pub AreRowsIndexed : Pages → Type 0
AreRowsIndexed P = (i : ℕ) → HasRow P i → HasIndexed P i

-- the kinds that change the list
data LineKind (k : Kind) : Type 0 where
  no_line : (ChangesLine k → ⊥) → LineKind k
  adds_row : (i s : ℕ) → k ≡ kind.AddRow i s → LineKind k
  links : (i s : ℕ) → k ≡ kind.LinkPending i s → LineKind k
  shifts : k ≡ kind.Shift → LineKind k

line_kind : (k : Kind) → LineKind k
line_kind (kind.AddRow i s) = LineKind.adds_row i s refl
line_kind (kind.LinkPending i s) = LineKind.links i s refl
line_kind kind.Shift = LineKind.shifts refl
line_kind _ = LineKind.no_line (λ c. c)

meta_count : (a b c d e f : ℕ) → body.Meta a b c ≡ body.Meta d e f → (a ≡ d) × (c ≡ f)
meta_count a b c d e f m = (cc, cc)

-- an empty list gets the private chain of a document, which is indexed then
module _ (n L : ℕ) (R : Log) (P Q : Pages) (r : Record) (floor since : ℕ) (g : Ghost) (v : Inv n L R P g)
    (a : After n L R P Q r g) (some : R ≢ []) (touch : (p : ℕ) → In p (changed r) → Touched P Q r since p)
    (other : (q : ℕ) → (In q (changed r) → ⊥) → Q q ≡ P q) (x : IsLinkPending R P Q r) (none : g.line ≡ []) where
  abbrev item : ℕ
  item = x.here.doc.item

  abbrev chain : List ℕ
  chain = x.rest.front ++ x.here.end ∷ []

  abbrev pages : ((P (page_of item) ≡ x.here.old) × (Q (page_of item) ≡ x.here.heap_then))
      × LinkPages P Q r (page_of item) x.here.head.private x.here.end x.here.added
  pages = link_pages P Q r (page_of item) x.here.head.private x.here.end x.here.added x.here.old x.here.heap_then
      x.here.others x.here.others_before x.here.others_after x.here.linked x.here.pages x.here.before_is
      x.here.after_is x.rest.is_last

  has : Has P x.here.doc x.here.head
  has = (link_turned R P Q r floor since touch other x).was

  on_chain : (q : ℕ) → In q chain → g.place q ≡ private_of item
  on_chain q i =
      let c = v.chained.private.some item x.here.head has.at in
      (c.on q).0 (subst (In q) (chain_one P x.here.head.private chain c.pages x.rest.is_chain c.is_chain) i)

  not_heap : (q : ℕ) → In q chain → q ≢ page_of item
  not_heap q i e =
      let at = place_for L (g.place (page_of item)) (P (page_of item)) (body.Heap x.here.head_after.slots)
      (v.kinds (page_of item)) (ap (λ (p : Page). p.body) pages.0.0 ∙ x.here.head_after.before) in
      let f : private_of item ≡ heap = sym (on_chain q i) ∙ ap g.place e ∙ at in
      cc

  not_meta : (q : ℕ) → In q chain → q ≢ 0
  not_meta q i e = let f : private_of item ≡ meta = sym (on_chain q i) ∙ ap g.place e ∙ v.starts.page_0 some in cc

  -- the record changes the heap page and the metapage alone
  now : LinkPages P Q r (page_of item) x.here.head.private x.here.end x.here.added
      → ((q : ℕ) → In q chain → Q q ≡ P q) × (first_of (Q 0) ≡ x.here.head.private)
  now (LinkPages.empty count named was is) = (
    λ q i. other q (λ j. elim (subst (In q) named j) [
      | inl e ↦ not_heap q i e
      | inr (inl e) ↦ not_meta q i e
      | inr (inr z) ↦ z
    ]),
    ap first_in is,
  )
  now (LinkPages.behind first last count rows front named was is rows_was rows_is ln) =
      let same = chain_one P (first_of (P 0)) (front ++ last ∷ []) [] ln (subst (Line P) none v.lined.is_line) in
      absurd (subst (In last) same (in_back last front (last ∷ []) (inl refl)))

  same : (q : ℕ) → In q chain → Q q ≡ P q
  same = (now pages.1).0

  is_line : Line Q chain
  is_line = chain_kept P Q (first_of (Q 0)) chain (λ q i. ap (λ (p : Page). p.right) (same q i))
      (subst (λ (z : ℕ). IsChain P z chain) (sym (now pages.1).1) x.rest.is_chain)

  line_is : chain ≡ a.ghost.line
  line_is = chain_one Q (first_of (Q 0)) chain a.ghost.line is_line a.inv.lined.is_line

  item_is : (i : ℕ) → HasRow Q i → item ≡ i
  item_is i k =
      let o = on_line (r ∷ R) Q a.ghost k.row a.inv.lined k.linked in
      let on = subst (In o.0) (sym line_is) o.1 in
      sym (v.rows_owned.private_item o.0 item k.row (on_chain o.0 on) (subst (λ (p : Page). In k.row (rows_of p))
      (same o.0 on) o.2))
      ∙ k.item

  alive : IsDead R n x.here.doc → ⊥
  alive = runs_alive n R P v.heads x.here.doc x.here.head has (ap (fate R) x.here.own.by ∙ x.here.own.runs)

  key_pending : (k : Key) → In k (keys_of x.rest.vector) → Pending Q k item
  key_pending k m =
      let w = x.rest.all_keys k m in
      let o = on_some P chain w.0 w.1 in
      record {
        row = w.0;
        linked = linked (r ∷ R) Q a.ghost w.0 o.0 a.inv.lined (subst (In o.0) line_is o.1)
            (subst (λ (p : Page). In w.0 (rows_of p)) (sym (same o.0 o.1)) o.2);
        item = w.2;
        key = w.3;
      }

  pub link_indexed : (i : ℕ) → HasRow Q i → HasIndexed Q i
  link_indexed i k = (
    x.here.doc,
    item_is i k,
    elim (a.effects.whole x.here.doc x.here.head x.rest.vector has x.rest.whole) [
      | inr gone ↦ absurd (alive gone.0)
      | inl whole ↦ record { vector = x.rest.vector; whole = whole; there = inl key_pending }
    ],
  )

-- one record more
module _ (n L : ℕ) (R : Log) (P Q : Pages) (r : Record) (floor since : ℕ) (g : Ghost) (v : Inv n L R P g)
    (a : After n L R P Q r g) (u : Valid R r floor since) (before : u.before ≡ P) (after : u.after ≡ Q)
    (some : R ≢ []) (shown : Shows R P) (shown' : Shows (r ∷ R) Q) (I : AreRowsIndexed P) where
  touch : (p : ℕ) → In p (changed r) → Touched P Q r since p
  touch = subst (λ (S : Pages). (p : ℕ) → In p (changed r) → Touched S Q r since p) before
      (subst (λ (T : Pages). (p : ℕ) → In p (changed r) → Touched u.before T r since p) after
      (touches R r floor since u))

  other : (q : ℕ) → (In q (changed r) → ⊥) → Q q ≡ P q
  other = subst (λ (S : Pages). (q : ℕ) → (In q (changed r) → ⊥) → Q q ≡ S q) before
      (subst (λ (T : Pages). (q : ℕ) → (In q (changed r) → ⊥) → T q ≡ u.before q) after (elsewhere R r floor since u))

  -- an item that had a row stays indexed
  old_row : (i : ℕ) → HasRow P i → HasRow Q i → HasIndexed Q i
  old_row i k now =
      let d = I i k in
      let x = d.2 in (
        d.0,
        d.1,
        a.inv.indexed.stays d.0
            (record { later = r ∷ []; then = R; goes_on = refl; pages = P; shown = shown; indexed = x })
            (inr (elim (a.effects.whole d.0 x.whole.0 x.vector x.whole.1 x.whole.2) [
              | inl is ↦ (is.0, is.1, subst (HasRow Q) (sym d.1) now)
              | inr gone ↦ absurd (gone.1.no_row (subst (HasRow P) (sym d.1) k))
            ])),
      )

  row_of_first : (i q : ℕ) → In q g.line → StartsPage i (rows_of (P q)) → HasRow P i
  row_of_first i q on s =
      let w = first_row i (rows_of (P q)) s in
      record { row = w.0; linked = linked R P g w.0 q v.lined on w.1; item = w.2 }

  -- the first row of the list was linked, where the list had a page
  first_old : (i : ℕ) (qs : List ℕ) → g.line ≡ qs → qs ≢ [] → LineStep R P Q g a.ghost
      → IsFirst i (rows_by_page Q a.ghost.line) → HasRow P i
  first_old i [] e off s first = absurd (off refl)
  first_old i (q ∷ qs) e off (LineStep.grow chain is f new rows) first =
      let on : In q g.line = subst (In q) (sym e) (inl refl) in
      let form : a.ghost.line ≡ q ∷ (qs ++ chain) = is ∙ ap (λ (l : List ℕ). l ++ chain) e in
      let more = rows q on in
      row_of_first i q on (starts_old i (rows_of (P q)) more.0 (v.lined.some_row q ((v.lined.on q).0 on))
      (subst (StartsPage i) more.1 (subst (λ (l : List ℕ). IsFirst i (rows_by_page Q l)) form first)))
  first_old i (q ∷ qs) e off (LineStep.shift p is f at link kept moved rows) first = go a.ghost.line refl first
    where
      go : (l : List ℕ) → a.ghost.line ≡ l → IsFirst i (rows_by_page Q l) → HasRow P i
      go [] same s = absurd s
      go (p' ∷ ps) same s =
          let on : In p' a.ghost.line = subst (In p') (sym same) (inl refl) in
          row_of_first i p' (subst (In p') (sym is) (inr on)) (subst (StartsPage i) (rows p' on) s)

  -- where it had none, the record is a link
  first_new : (i : ℕ) → g.line ≡ [] → HasRow Q i → LineKind r.kind → HasIndexed Q i
  first_new i none k (LineKind.no_line off) =
      let was = (rows_same n L R P Q r since g v some touch other later off k.row).1 k.linked in
      old_row i (record { row = k.row; linked = was; item = k.item }) k
    where
      later : r.kind ≢ kind.Create
      later = not_create R r floor since u some
  first_new i none k (LineKind.adds_row j s e) =
      let x : IsAddRow R u.before u.after r = kind_rule R u.before u.after r floor since (kind.AddRow j s) e u.rule in
      let ln = subst (λ (S : Pages). Line S (x.rest.front ++ x.here.last ∷ [])) before x.rest.is_last in
      let same = chain_one P (first_of (P 0)) (x.rest.front ++ x.here.last ∷ []) [] ln
      (subst (Line P) none v.lined.is_line) in
      absurd (subst (In x.here.last) same (in_back x.here.last x.rest.front (x.here.last ∷ []) (inl refl)))
  first_new i none k (LineKind.shifts e) =
      let x : IsShift R u.before u.after r = kind_rule R u.before u.after r floor since kind.Shift e u.rule in
      let m = two_pages u.before (changed r) 0 x.here.page x.here.meta x.here.old x.here.pages x.here.before_is in
      let c = v.lined.counted some in
      let count = meta_count x.here.page x.here.last (suc x.here.count) c.0 (last_of g.line) (length g.line)
      (sym x.here.first ∙ ap (λ (p : Page). p.body) (sym m.0) ∙ ap (λ (S : Pages). (S 0).body) before ∙ c.1) in
      absurd (no_count x.here.count (length g.line) count.1 (ap length none))
    where
      no_count : (c l : ℕ) → suc c ≡ l → l ≡ 0 → ⊥
      no_count c l e f = omega (arith, e, f)
  first_new i none k (LineKind.links j s e) =
      let row = subst (λ (S : Pages). Rattle.core_state.specs.Legal.RuleHolds R S Q r floor since) before
      (subst (λ (T : Pages). Rattle.core_state.specs.Legal.RuleHolds R u.before T r floor since) after u.rule) in
      link_indexed n L R P Q r floor since g v a some touch other
      (kind_rule R P Q r floor since (kind.LinkPending j s) e row) none i k

  list_or_none : (qs : List ℕ) → (qs ≡ []) ⊎ (qs ≢ [])
  list_or_none [] = inl refl
  list_or_none (q ∷ qs) = inr (λ e. cc)

  pub rows_indexed_step : AreRowsIndexed Q
  rows_indexed_step i k =
      let o = on_line (r ∷ R) Q a.ghost k.row a.inv.lined k.linked in
      let there : InLine i (rows_by_page Q a.ghost.line) = subst (λ (z : ℕ). InLine z (rows_by_page Q a.ghost.line))
      k.item (in_line Q a.ghost.line o.0 k.row o.1 o.2) in
      elim (a.inv.grouped.complete i there) [
        | inr all ↦ (
          all.doc,
          all.item,
          record {
            vector = all.vector;
            whole = all.whole;
            there = inl (λ key m.
                let w = key_on Q a.ghost.line key i (all.keys key m) in
                record {
                  row = w.1;
                  linked = linked (r ∷ R) Q a.ghost w.1 w.0 a.inv.lined w.2 w.3;
                  item = w.4 ∙ sym all.item;
                  key = w.5;
                });
          },
        )
        | inl first ↦ elim (list_or_none g.line) [
          | inl none ↦ first_new i none k (line_kind r.kind)
          | inr off ↦ old_row i (first_old i g.line refl off a.case.line first) k
        ]
      ]

-- pages of a log without records have no rows
none_indexed : (n L : ℕ) (R : Log) (P : Pages) (g : Ghost) → Inv n L R P g → g.line ≡ [] → AreRowsIndexed P
none_indexed n L R P g v none i k =
    let o = on_line R P g k.row v.lined k.linked in
    absurd (subst (In o.0) none o.1)

line_of_none : (n L : ℕ) (P : Pages) (g : Ghost) → Inv n L [] P g → Shows [] P → g.line ≡ []
line_of_none n L P g v shown =
    chain_one P (first_of (P 0)) g.line [] v.lined.is_line
    (ap (λ (S : Pages). first_of (S 0)) (shown_one [] P Rattle.core_state.proofs.Showing.none_yet shown
    Rattle.core_state.proofs.Showing.shown_none))

-- nor has the first one
made_none : (r : Record) (floor since : ℕ) (u : Valid [] r floor since) (Q : Pages) → u.after ≡ Q
    → first_of (Q 0) ≡ 0
made_none r floor since u Q same =
    let e : r.kind ≡ kind.Create = elim u.started [ inl k ↦ k | inr off ↦ absurd (off refl) ] in
    let x : IsCreate [] u.before u.after r = kind_rule [] u.before u.after r floor since kind.Create e u.rule in
    ap (λ (T : Pages). first_of (T 0)) (sym same)
    ∙ ap first_of (two_pages u.after (changed r) 0 1 _ _ x.here.pages x.here.after_is).0

pub rows_indexed : StepHolds → (R : Log) → RecordsAreValid R → (P : Pages) → Shows R P → AreRowsIndexed P
rows_indexed step [] v P shown =
    let h = plain_run step [] tt P shown in
    none_indexed 0 0 [] P h.0 h.1 (line_of_none 0 0 P h.0 h.1 shown)
rows_indexed step (r ∷ []) v Q shown =
    let h = plain_run step (r ∷ []) v Q shown in
    none_indexed (commits (r ∷ [])) 1 (r ∷ []) Q h.0 h.1 (chain_one Q (first_of (Q 0)) h.0.line [] h.1.lined.is_line
    (made_none r 0 1 v.1 Q (shown_one (r ∷ []) v.1.after Q v.1.shown_after shown)))
rows_indexed step (r ∷ s ∷ S) v Q shown =
    let R : Log = s ∷ S in
    let u = v.1 in
    let h = plain_run step R v.0 u.before u.shown in
    let a = step_over step (commits R) (length R) R r (commits R) (suc (length R)) u (omega arith) (inr refl)
    (omega arith) u.before Q h.0 u.shown shown h.1 in
    rows_indexed_step (commits R) (length R) R u.before Q r (commits R) (suc (length R)) h.0 h.1 a u refl
    (shown_one (r ∷ R) u.after Q u.shown_after shown) (λ e. cc) u.shown shown
    (rows_indexed step (s ∷ S) v.0 u.before u.shown)
