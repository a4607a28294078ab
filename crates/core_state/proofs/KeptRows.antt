-- A row that a record writes was on its page of the pending list, or is of a document of the record's own transaction.
use Rattle.std.proofs.Common.{◌≡◌, ◌≢◌, ◌⊎◌, ℕ, List, [], ◌∷◌, map, refl, sym, ap, subst, ◌∙◌, inl, inr}
use Rattle.std.specs.Prelude.{Some}
use Rattle.page_types.specs.Views.{slots_in, slot_at, rows_in, rows_of}
use Rattle.page_types.specs.declared.page.Page.{Page}
use Rattle.page_types.specs.declared.page.Head.{Head}
use Rattle.page_types.specs.declared.page.Row.{Row}
use Rattle.page_types.specs.declared.page.Body.{Body}
use Rattle.page_types.specs.declared.page.Body.TheVariants as body
use Rattle.page_types.specs.declared.record.Record.{Record}
use Rattle.page_types.specs.declared.record.Kind.{Kind}
use Rattle.page_types.specs.declared.record.Kind.TheVariants as kind
use Rattle.core_state.specs.Log.{Log, Pages, In, changed}
use Rattle.core_state.specs.Documents.{Doc, Has, page_of}
use Rattle.core_state.specs.Index.{Line}
use Rattle.core_state.specs.Changes.{made_with}
use Rattle.core_state.specs.PendingRules.{IsPutPending, IsAddRow, IsLinkHere, IsLinkPending, IsShift}
use Rattle.core_state.specs.Legal.{RuleHolds}
use Rattle.core_state.specs.Inner.PageKinds.{IsHeap, IsOverflow, IsPending, IsMeta, IsTree, IsDeleted, PutsRows}
use Rattle.core_state.specs.Inner.PageKinds.{ChangesLine, IsChanged, Touched}
use Rattle.core_state.proofs.PageLists.{in_either, one_page, two_pages, three_pages}
use Rattle.core_state.proofs.RulesByKind.{kind_rule}
use Rattle.core_state.proofs.HeadSteps.{rows_turned, link_turned}

-- the item's document has its slot, and is of the record's transaction
pub record OwnRow (P : Pages) (r : Record) (i : ℕ) : Type 0 where
  pub doc : Doc
  pub head : Head
  pub item : doc.item ≡ i
  pub has : Has P doc head
  pub by : head.inserted_by ≡ r.xid

-- content of another kind shows no rows
no_rows : (K : Body → Type 0) (b : Body) → ((rows : List Row) → K (body.Pending rows) → ⊥) → K b → (w : Row)
    → In w (rows_in b) → ⊥
no_rows K (body.Pending rows) n k w i = n rows k
no_rows K _ n k w i = i

heap_at : (P : Pages) (a : ℕ) (old : Page) (slots : List _) → P a ≡ old → old.body ≡ body.Heap slots → IsHeap (P a).body
heap_at P a old slots e f = subst IsHeap (sym (ap (λ (q : Page). q.body) e ∙ f)) tt

heap_rows : (b : Body) → IsHeap b → (w : Row) → In w (rows_in b) → ⊥
heap_rows b is w i = no_rows IsHeap b (λ rows f. f) is w i

pending_not_heap : (b : Body) → IsPending b → IsHeap b → ⊥
pending_not_heap (body.Pending rows) is h = h
pending_not_heap _ is h = absurd is

pending_not_deleted : (b : Body) → IsPending b → IsDeleted b → ⊥
pending_not_deleted (body.Pending rows) is h = h
pending_not_deleted _ is h = absurd is

pending_not_meta : (b : Body) → IsPending b → IsMeta b → ⊥
pending_not_meta (body.Pending rows) is h = h
pending_not_meta _ is h = absurd is

module _ (R : Log) (P Q : Pages) (r : Record) (floor since : ℕ) (row : RuleHolds R P Q r floor since) (touch : (p : ℕ)
    → In p (changed r) → Touched P Q r since p)
    (elsewhere : (q : ℕ) → (In q (changed r) → ⊥) → Q q ≡ P q) where
  -- rows that are put on a private chain
  put_rows : (k : Kind) → r.kind ≡ k → PutsRows k → (q : ℕ) → In q (changed r) → (w : Row) → In w (rows_of (Q q))
      → OwnRow P r w.item
  put_rows (kind.PutPending i s) e puts q on w m =
      let x : IsPutPending R P Q r since = kind_rule R P Q r floor since (kind.PutPending i s) e row in
      let h = page_of x.here.doc.item in
      let c = x.here.head_after in
      let g = two_pages Q (changed r) h x.here.new x.here.heap_then (made_with r x.here.head.private
      (body.Pending x.here.rows)) x.here.pages x.here.after_is in
      elim (subst (In q) x.here.pages on) [
        | inl f ↦ absurd (heap_rows (Q h).body (heap_at Q h x.here.heap_then c.new_slots g.0 (ap (λ (p : Page). p.body)
            c.after)) w (subst (λ (z : ℕ). In w (rows_of (Q z))) f m))
        | inr (inl f) ↦ record {
          doc = x.here.doc;
          head = x.here.head;
          item = sym (x.here.items w (subst (In w) (ap rows_of g.1) (subst (λ (z : ℕ). In w (rows_of (Q z))) f m)));
          has = (rows_turned R P Q r floor since touch elsewhere x).was;
          by = x.here.own.by;
        }
        | inr (inr n) ↦ absurd n
      ]
  put_rows _ e puts q on w m = absurd puts

  -- the pages of a link keep their rows
  link_rows : (a to end added : ℕ) (others : List ℕ) (old left : Page) (befores afters : List Page)
      → IsLinkHere r to end added others befores afters → changed r ≡ a ∷ others
      → map P (changed r) ≡ old ∷ befores → map Q (changed r) ≡ left ∷ afters → (q : ℕ) → In q others
      → IsPending (P q).body → rows_of (Q q) ≡ rows_of (P q)
  link_rows a to end added others old left befores afters (IsLinkHere.empty meta count m) e f g q (inl s) is =
      let b = two_pages P (changed r) a 0 old meta e f in
      absurd (pending_not_meta (P q).body is (subst IsMeta (sym (ap (λ (z : ℕ). (P z).body) s
      ∙ ap (λ (p : Page). p.body) b.1 ∙ m)) tt))
  link_rows a to end added others old left befores afters (IsLinkHere.empty meta count m) e f g q (inr n) is = absurd n
  link_rows a to end added others old left befores afters (IsLinkHere.behind meta page first last count rows m some b)
      e f g q (inl s) is =
      let c = three_pages P (changed r) a 0 last old meta page e f in
      absurd (pending_not_meta (P q).body is (subst IsMeta (sym (ap (λ (z : ℕ). (P z).body) s
      ∙ ap (λ (p : Page). p.body) c.1 ∙ m)) tt))
  link_rows a to end added others old left befores afters (IsLinkHere.behind meta page first last count rows m some b)
      e f g q (inr (inl s)) is =
      let c = three_pages P (changed r) a 0 last old meta page e f in
      let d = three_pages Q (changed r) a 0 last left _ _ e g in
      subst (λ (z : ℕ). rows_of (Q z) ≡ rows_of (P z)) (sym s) (ap rows_of d.2 ∙ sym (ap rows_of c.2 ∙ ap rows_in b))
  link_rows a to end added others old left befores afters (IsLinkHere.behind meta page first last count rows m some b)
      e f g q (inr (inr n)) is = absurd n

  -- rows on a page of the pending list
  line_rows : (k : Kind) → r.kind ≡ k → ChangesLine k → (q : ℕ) → In q (changed r) → IsPending (P q).body
      → IsPending (Q q).body → (w : Row) → In w (rows_of (Q q))
      → In w (rows_of (P q)) ⊎ OwnRow P r w.item
  line_rows (kind.AddRow i s) e lists q on is now w m =
      let x : IsAddRow R P Q r = kind_rule R P Q r floor since (kind.AddRow i s) e row in
      let f = one_page P (changed r) x.here.last x.here.old x.here.pages x.here.before_is in
      let g = one_page Q (changed r) x.here.last _ x.here.pages x.here.after_is in
      elim (subst (In q) x.here.pages on) [
        | inr n ↦ absurd n
        | inl same ↦ elim (in_either w x.here.rows (x.here.row ∷ []) (subst (In w) (ap rows_of g)
            (subst (λ (z : ℕ). In w (rows_of (Q z))) same m))) [
              | inl old ↦ inl (subst (λ (z : ℕ). In w (rows_of (P z))) (sym same)
                  (subst (In w) (sym (ap rows_of f ∙ ap rows_in x.here.was)) old))
              | inr (inl new) ↦
                  inr (record {
                    doc = x.here.doc;
                    head = x.rest.head;
                    item = sym x.here.item ∙ ap (λ (z : Row). z.item)
                        (sym new);
                    has = x.rest.has;
                    by = x.rest.by;
                  })
              | inr (inr n) ↦ absurd n
            ]
      ]
  line_rows (kind.LinkPending i s) e lists q on is now w m =
      let x : IsLinkPending R P Q r = kind_rule R P Q r floor since (kind.LinkPending i s) e row in
      let h = page_of x.here.doc.item in
      let t = link_turned R P Q r floor since touch elsewhere x in
      elim (subst (In q) x.here.pages on) [
        | inl f ↦ absurd (pending_not_heap (P q).body is (subst (λ (z : ℕ). IsHeap (P z).body) (sym f)
            (has_heap x.here.doc x.here.head t.was)))
        | inr others ↦ inl (subst (In w) (link_rows h x.here.head.private x.here.end x.here.added x.here.others
            x.here.old x.here.heap_then x.here.others_before x.here.others_after x.here.linked x.here.pages
            x.here.before_is x.here.after_is q others is) m)
      ]
    where
      some_heap : (b : Body) (k : ℕ) (h : Head) → slot_at (slots_in b) k ≡ Some h → IsHeap b
      some_heap (body.Heap slots) k h f = tt
      some_heap body.Free k h f = absurd (cc)
      some_heap (body.Meta first last pages) k h f = absurd (cc)
      some_heap (body.Overflow bytes) k h f = absurd (cc)
      some_heap (body.Pending rows) k h f = absurd (cc)
      some_heap (body.EntryLeaf high es) k h f = absurd (cc)
      some_heap (body.EntryInner cs) k h f = absurd (cc)
      some_heap (body.PostLeaf high is) k h f = absurd (cc)
      some_heap (body.PostInner cs) k h f = absurd (cc)
      some_heap (body.Deleted gone) k h f = absurd (cc)

      has_heap : (d : Doc) (h : Head) → Has P d h → IsHeap (P (page_of d.item)).body
      has_heap d h has = some_heap (P (page_of d.item)).body _ h has.at
  line_rows kind.Shift e lists q on is now w m =
      let x : IsShift R P Q r = kind_rule R P Q r floor since kind.Shift e row in
      let f = two_pages P (changed r) 0 x.here.page x.here.meta x.here.old x.here.pages x.here.before_is in
      let g = two_pages Q (changed r) 0 x.here.page _ _ x.here.pages x.here.after_is in
      elim (subst (In q) x.here.pages on) [
        | inl same ↦ absurd (pending_not_meta (P q).body is (subst IsMeta (sym (ap (λ (z : ℕ). (P z).body) same
            ∙ ap (λ (p : Page). p.body) f.0 ∙ x.here.first)) tt))
        | inr (inl same) ↦ absurd (pending_not_deleted (Q q).body now
            (subst IsDeleted (sym (ap (λ (z : ℕ). (Q z).body) same ∙ ap (λ (p : Page). p.body) g.1)) tt))
        | inr (inr n) ↦ absurd n
      ]
  line_rows _ e lists q on is now w m = absurd lists

  row_in : (q : ℕ) → r.kind ≢ kind.Create → In q (changed r) → IsChanged P Q r since q → (w : Row)
      → In w (rows_of (Q q))
      → (In w (rows_of (P q)) × ((line : List ℕ) → Line P line → In q line)) ⊎ OwnRow P r w.item
  row_in q later on (IsChanged.made k was is) w m = absurd (later k)
  row_in q later on (IsChanged.heads was is at) w m = absurd (heap_rows (Q q).body is w m)
  row_in q later on (IsChanged.chained new is) w m = elim is [
    | inl o ↦ absurd (no_rows IsOverflow (Q q).body
        (λ rows f. f) o w m)
    | inr o ↦ inr (put_rows r.kind refl o.1 q on w m)
  ]
  row_in q later on (IsChanged.grown new works is) w m = absurd (no_rows IsTree (Q q).body (λ rows f. f) is w m)
  row_in q later on (IsChanged.worked was works is) w m =
      absurd (elim is [
        | inl o ↦ no_rows IsTree (Q q).body (λ rows f. f) o w m
        | inr o ↦ no_rows IsDeleted (Q q).body
            (λ rows f. f) o w m
      ])
  row_in q later on (IsChanged.meta was lists is) w m = absurd (no_rows IsMeta (Q q).body (λ rows f. f) is w m)
  row_in q later on (IsChanged.listed was line lists is) w m = elim is [
    | inl o ↦ elim (line_rows r.kind refl lists q on was o w m) [ inl old ↦ inl (old, line) | inr own ↦ inr own ]
    | inr o ↦ absurd (no_rows IsDeleted (Q q).body (λ rows f. f) o.0 w m)
  ]
  row_in q later on (IsChanged.dropped first is) w m = absurd (no_rows IsDeleted (Q q).body (λ rows f. f) is w m)

  pub row_written : r.kind ≢ kind.Create → (q : ℕ) → In q (changed r) → (w : Row) → In w (rows_of (Q q))
      → (In w (rows_of (P q)) × ((line : List ℕ) → Line P line → In q line)) ⊎ OwnRow P r w.item
  row_written later q on w m = row_in q later on (touch q on).change w m
