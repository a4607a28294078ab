-- One record that only adds: a row that it brings to the pending list is of an item that had no linked row.
use Rattle.std.proofs.Common.{◌≡◌, ◌≢◌, ◌⊎◌, ◌<◌, ℕ, suc, List, [], ◌∷◌, ◌++◌, length, drop, refl, sym, ap, subst}
use Rattle.std.proofs.Common.{subst₂}
use Rattle.std.proofs.Common.{◌∙◌, inl, inr, arith, append_assoc}
use Rattle.std.specs.Prelude.{⊤}
use Rattle.page_types.specs.Records.{kind_number}
use Rattle.page_types.specs.Views.{rows_in, rows_of, first_of, first_in, slots_of, slot_at}
use Rattle.page_types.specs.declared.page.Page.{Page}
use Rattle.page_types.specs.declared.page.Row.{Row}
use Rattle.page_types.specs.declared.page.Body.{Body}
use Rattle.page_types.specs.declared.page.Body.TheVariants as body
use Rattle.page_types.specs.declared.record.Record.{Record}
use Rattle.page_types.specs.declared.record.Kind.{Kind}
use Rattle.page_types.specs.declared.record.Kind.TheVariants as kind
use Rattle.core_state.specs.Log.{Log, Pages, In, changed, commits}
use Rattle.core_state.specs.Documents.{IsChain, page_of, slot_of, Has}
use Rattle.core_state.specs.Index.{Line, HasRow}
use Rattle.core_state.specs.Known.{use_by, use_in}
use Rattle.core_state.specs.Changes.{IsNew}
use Rattle.core_state.specs.PendingRules.{IsAddRow, IsLinkPending}
use Rattle.core_state.specs.PagesTold.{IsLastOf}
use Rattle.core_state.specs.Bullets.{PagePlace, StandsIn}
use Rattle.core_state.specs.Bullets.PagePlace.{meta, heap, line, private_of}
use Rattle.core_state.specs.Legal.{IsLegal, Valid}
use Rattle.core_state.specs.declared.answers.PageUse.TheVariants as usage
use Rattle.core_state.specs.Inner.PageKinds.{IsHeap, IsOverflow, IsTree, ChangesLine, IsChanged}
use Rattle.core_state.specs.Inner.Ghosts.Place.{private_of as private_place}
use Rattle.core_state.specs.Inner.ItemChains.{ChainOf}
use Rattle.core_state.proofs.Newest.{legal_less}
use Rattle.core_state.proofs.PageLists.{same_or_not, in_or_not, in_front, in_back, one_page}
use Rattle.core_state.proofs.Histories.{chain_one}
use Rattle.core_state.proofs.RulesByKind.{kind_rule}
use Rattle.core_state.proofs.LawsHold.{bullets, pages}
use Rattle.core_state.proofs.Chains.{chain_kept, none_chain}
use Rattle.core_state.proofs.Law.AllCases.{all_steps}
use Rattle.core_state.proofs.Law.Groups.{last_once}
use Rattle.core_state.proofs.Law.Runs.{Holds}
use Rattle.core_state.proofs.Law.Steps.{Left}
use Rattle.core_state.proofs.Law.NowIndexed.{held_before, leaves}
use Rattle.core_state.proofs.Law.LinkPages.{LinkPages, link_pages, chain_join}
use Rattle.core_maintenance.specs.Keeping.{IsPlacing}
use Rattle.core_maintenance.specs.FreshRows.{RowsAreFresh}

-- what comes after the same list
pub cancel : {A : Type 0} (xs ys zs : List A) → xs ++ ys ≡ xs ++ zs → ys ≡ zs
cancel [] ys zs e = e
cancel (x ∷ xs) ys zs e = cancel xs ys zs (ap (λ l. drop 1 l) e)

pub nothing_more : {A : Type 0} (xs ys : List A) → xs ≡ xs ++ ys → ys ≡ []
nothing_more [] ys e = sym e
nothing_more (x ∷ xs) ys e = nothing_more xs ys (ap (λ l. drop 1 l) e)

-- the metapage, or a page of rows
abbrev IsOfList : Body → Type 0
IsOfList (body.Meta first last count) = ⊤
IsOfList (body.Pending rows) = ⊤
IsOfList _ = ⊥

-- it is of no other kind
record IsNoOther (b : Body) : Type 0 where
  pub no_heap : IsHeap b → ⊥
  pub no_overflow : IsOverflow b → ⊥
  pub no_tree : IsTree b → ⊥
  pub not_free : b ≢ body.Free
  pub used : (stamp : ℕ) → use_by stamp b ≡ usage.Used

no_other : (b : Body) → IsOfList b → IsNoOther b
no_other (body.Meta first last count) is =
    record { no_heap = λ f. f; no_overflow = λ f. f; no_tree = λ f. f; not_free = λ e. cc; used = λ stamp. refl }
no_other (body.Pending rows) is =
    record { no_heap = λ f. f; no_overflow = λ f. f; no_tree = λ f. f; not_free = λ e. cc; used = λ stamp. refl }
no_other _ is = absurd is

not_new : (P : Pages) (since p : ℕ) → IsOfList (P p).body → IsNew (use_in P) since p → ⊥
not_new P since p is (IsNew.unused free low) =
    let f : usage.Used ≡ usage.Unused = sym ((no_other (P p).body is).used (P p).stamp) ∙ free in cc
not_new P since p is (IsNew.deleted stamp gone le) =
    let f : usage.Used ≡ usage.Deleted stamp = sym ((no_other (P p).body is).used (P p).stamp) ∙ gone in cc

-- the kinds that only add: below 12, or 13 to 17
abbrev IsAdding : Kind → Type 0
IsAdding k = (kind_number k < 12) ⊎ IsPlacing k

no_drop : (k : Kind) → IsAdding k → kind_number k ≡ 20 → ⊥
no_drop k (inl low) e = omega (arith, low, e)
no_drop k (inr is) e = omega (arith, is.0, is.1, e)

-- a record that doesn't change the list changes none of its pages
unchanged : (P Q : Pages) (r : Record) (since p : ℕ) → IsAdding r.kind → (ChangesLine r.kind → ⊥)
    → IsOfList (P p).body → IsChanged P Q r since p → ⊥
unchanged P Q r since p adds off is (IsChanged.made k free then) =
    (no_other (P p).body is).not_free (ap (λ (q : Page). q.body) free)
unchanged P Q r since p adds off is (IsChanged.heads old then at) =
    elim old [ inl h ↦ (no_other (P p).body is).no_heap h | inr n ↦ not_new P since p is n ]
unchanged P Q r since p adds off is (IsChanged.chained new then) = not_new P since p is new
unchanged P Q r since p adds off is (IsChanged.grown new works then) = not_new P since p is new
unchanged P Q r since p adds off is (IsChanged.worked old works then) = (no_other (P p).body is).no_tree old
unchanged P Q r since p adds off is (IsChanged.meta old lists then) = off lists
unchanged P Q r since p adds off is (IsChanged.listed old on lists then) = off lists
unchanged P Q r since p adds off is (IsChanged.dropped first then) =
    no_drop r.kind adds (ap kind_number first.kind_is)

module _ (R : Log) (r : Record) (some : R ≢ []) (legal : IsLegal (r ∷ R)) where
  abbrev u : Valid R r (commits R) (suc (length R))
  u = legal.valid.1

  abbrev P : Pages
  P = u.before

  abbrev Q : Pages
  Q = u.after

  less : IsLegal R
  less = legal_less r R legal

  left : Left (commits R) (suc (length R)) R P Q r
  left = leaves all_steps R r legal.valid.0 u

  -- the pages of the list are pages of rows
  is_rows : (qs : List ℕ) → Line P qs → (q : ℕ) → In q qs → (rows : List Row) × ((P q).body ≡ body.Pending rows)
  is_rows qs on q i =
      let list = (pages R P less u.shown).list in
      let row = list.some_row q (subst (In q) (chain_one P _ qs list.pages on list.is_line) i) in
      (row.0 ∷ row.1, row.2)

  meta_is : (first last count : ℕ) × ((P 0).body ≡ body.Meta first last count)
  meta_is = let m = (pages R P less u.shown).list.meta some in (m.0, m.1, _, m.2)

  -- one page stands in one place
  apart : (p : ℕ) (a b : PagePlace) → StandsIn P p a → StandsIn P p b → a ≡ b
  apart = (bullets R P less u.shown).one_place

  -- the list and its pages are the same
  none_come : ((q : ℕ) → IsOfList (P q).body → Q q ≡ P q) → RowsAreFresh P Q
  none_come same qs on g =
      let keeps : (q : ℕ) → In q qs → Q q ≡ P q = λ q i.
      let w = is_rows qs on q i in same q (subst IsOfList (sym w.1) tt) in
      let first : first_of (Q 0) ≡ first_of (P 0) =
      ap first_of (same 0 (subst IsOfList (sym meta_is.3) tt)) in
      let line_now : Line Q qs = subst (λ (z : ℕ). IsChain Q z qs) (sym first)
      (chain_kept P Q (first_of (P 0)) qs (λ q i. ap (λ (x : Page). x.right) (keeps q i)) on) in
      let no_page : g.more ≡ [] = nothing_more qs g.more (chain_one Q _ qs (qs ++ g.more) line_now g.line) in
      let no_row : (q : ℕ) (i : In q qs) → (g.rows q i).0 ≡ [] = λ q i.
      nothing_more (rows_of (P q)) (g.rows q i).0 (sym (ap rows_of (keeps q i)) ∙ (g.rows q i).1) in
      record {
        extra = λ q i w m k. subst (In w) (no_row q i) m;
        more = λ q i w m k. subst (In q) no_page i;
        last = λ q i some_row. absurd (some_row (no_row q i));
        apart = λ q p i w v m j n e. subst (In p) no_page j;
      }

  others : IsAdding r.kind → (ChangesLine r.kind → ⊥) → RowsAreFresh P Q
  others adds off = none_come (λ q is. elim (in_or_not q (changed r)) [
    | inl i ↦ absurd (unchanged P Q r (suc (length R)) q adds off is (left.touched q i).change)
    | inr away ↦ left.elsewhere q away
  ])

  -- a row is added to the last page
  module _ (x : IsAddRow R P Q r) where
    was : P x.here.last ≡ x.here.old
    was = one_page P (changed r) x.here.last x.here.old x.here.pages x.here.before_is

    now : (Q x.here.last).right ≡ (P x.here.last).right
    now = ap (λ (p : Page). p.right) (one_page Q (changed r) x.here.last _ x.here.pages x.here.after_is)
        ∙ ap (λ (p : Page). p.right) (sym was)

    rows_now : rows_of (Q x.here.last) ≡ rows_of (P x.here.last) ++ x.here.row ∷ []
    rows_now = ap rows_of (one_page Q (changed r) x.here.last _ x.here.pages x.here.after_is)
        ∙ ap (λ (ws : List Row). ws ++ x.here.row ∷ []) (sym (ap rows_of was ∙ ap rows_in x.here.was))

    away : (q : ℕ) → q ≢ x.here.last → Q q ≡ P q
    away q off = left.elsewhere q (λ i. elim (subst (In q) x.here.pages i) [ inl e ↦ off e | inr none ↦ none ])

    not_meta : 0 ≢ x.here.last
    not_meta e =
        let f : body.Meta meta_is.0 meta_is.1 meta_is.2 ≡ body.Pending x.here.rows =
        sym meta_is.3 ∙ ap (λ (q : ℕ). (P q).body) e ∙ ap (λ (p : Page). p.body) was ∙ x.here.was in
        cc

    same_or : (q : ℕ) → (q ≡ x.here.last) ⊎ (q ≢ x.here.last)
    same_or q = same_or_not x.here.last q

    rights : (q : ℕ) → (Q q).right ≡ (P q).right
    rights q = elim (same_or q) [
      | inl e ↦ subst (λ (z : ℕ). (Q z).right ≡ (P z).right) (sym e) now
      | inr off ↦ ap (λ (p : Page). p.right) (away q off)
    ]

    added_rows : (q : ℕ) → (q ≡ x.here.last) ⊎ (q ≢ x.here.last) → (extra : List Row)
        → rows_of (Q q) ≡ rows_of (P q) ++ extra → (w : Row) → In w extra → HasRow P w.item → ⊥
    added_rows q (inl e) extra is w m k =
        let same : rows_of (P q) ++ extra ≡ rows_of (P q) ++ x.here.row ∷ [] =
        sym is ∙ subst (λ (z : ℕ). rows_of (Q z) ≡ rows_of (P z) ++ x.here.row ∷ []) (sym e) rows_now in
        elim (subst (In w) (cancel (rows_of (P q)) extra (x.here.row ∷ []) same) m) [
          | inl f ↦ x.rest.no_row (subst (λ (z : Row). HasRow P z.item) f k)
          | inr none ↦ none
        ]
    added_rows q (inr off) extra is w m k =
        subst (In w) (nothing_more (rows_of (P q)) extra (sym (ap rows_of (away q off)) ∙ is)) m

    added : RowsAreFresh P Q
    added qs on g =
        let line_now : Line Q qs = subst (λ (z : ℕ). IsChain Q z qs) (sym (ap first_of (away 0 not_meta)))
        (chain_kept P Q (first_of (P 0)) qs (λ q i. rights q) on) in
        let no_page : g.more ≡ [] = nothing_more qs g.more (chain_one Q _ qs (qs ++ g.more) line_now g.line) in
        record {
          extra = λ q i w m k. added_rows q (same_or q) (g.rows q i).0 (g.rows q i).1 w m k;
          more = λ q i w m k. subst (In q) no_page i;
          last = λ q i some_row. elim (same_or q) [
            | inl e ↦ subst₂ IsLastOf (chain_one P _ (x.rest.front ++ x.here.last ∷ []) qs x.rest.is_last on) (sym e)
                (IsLastOf.some x.rest.front x.here.last)
            | inr off ↦ absurd (some_row (nothing_more (rows_of (P q)) (g.rows q i).0
                (sym (ap rows_of (away q off)) ∙ (g.rows q i).1)))
          ];
          apart = λ q p i w v m j n e. subst (In p) no_page j;
        }

  -- a private chain comes after the last page
  module _ (x : IsLinkPending R P Q r) where
    abbrev item : ℕ
    item = x.here.doc.item

    abbrev a : ℕ
    a = page_of item

    abbrev chain : List ℕ
    chain = x.rest.front ++ x.here.end ∷ []

    abbrev Links : Type 0
    Links = LinkPages P Q r a x.here.head.private x.here.end x.here.added

    linked : ((P a ≡ x.here.old) × (Q a ≡ x.here.heap_then)) × Links
    linked = link_pages P Q r a x.here.head.private x.here.end x.here.added x.here.old x.here.heap_then x.here.others
        x.here.others_before x.here.others_after x.here.linked x.here.pages x.here.before_is x.here.after_is
        x.rest.is_last

    heap_is : (P a).body ≡ body.Heap x.here.head_after.slots
    heap_is = ap (λ (p : Page). p.body) linked.0.0 ∙ x.here.head_after.before

    has : Has P x.here.doc x.here.head
    has = record {
      at = ap (λ (p : Page). slot_at (slots_of p) (slot_of item)) linked.0.0
          ∙ ap (λ (b : Body). slot_at (slots_of (record { right = 0; stamp = 0; body = b })) (slot_of item))
          x.here.head_after.before
          ∙ x.here.head_after.head;
      serial = x.here.head_after.serial;
    }

    -- where pages stand
    on_chain : (q : ℕ) → In q chain → StandsIn P q (private_of item)
    on_chain q i = (x.here.doc, x.here.head, chain, refl, has, x.rest.is_chain, i)

    not_heap : (q : ℕ) (y : PagePlace) → StandsIn P q y → y ≢ heap → q ≢ a
    not_heap q y at off e =
        off (apart q y heap at (x.here.head_after.slots, ap (λ (z : ℕ). (P z).body) e ∙ heap_is))

    not_zero : (q : ℕ) (y : PagePlace) → StandsIn P q y → y ≢ meta → q ≢ 0
    not_zero q y at off e = off (apart q y meta at e)

    -- a page that stands neither on the heap nor on the list
    stays : Links → (q : ℕ) → In q chain → Q q ≡ P q
    stays (LinkPages.empty count ps was now) q i = left.elsewhere q (λ m. elim (subst (In q) ps m) [
      | inl e ↦ not_heap q (private_of item) (on_chain q i) (λ f. cc) e
      | inr (inl e) ↦ not_zero q (private_of item) (on_chain q i) (λ f. cc) e
      | inr (inr none) ↦ none
    ])
    stays (LinkPages.behind first last count rows front ps was now rows_was rows_now is) q i =
        left.elsewhere q (λ m. elim (subst (In q) ps m) [
          | inl e ↦ not_heap q (private_of item) (on_chain q i) (λ f. cc) e
          | inr (inl e) ↦ not_zero q (private_of item) (on_chain q i) (λ f. cc) e
          | inr (inr (inl e)) ↦
              let f : private_of item ≡ line = apart q (private_of item) line (on_chain q i) (
                front ++ last ∷ [],
                is,
                subst (λ (z : ℕ). In z (front ++ last ∷ [])) (sym e)
                    (in_back last front (last ∷ []) (inl refl)),
              ) in
              cc
          | inr (inr (inr none)) ↦ none
        ])

    chain_now : IsChain Q x.here.head.private chain
    chain_now = chain_kept P Q x.here.head.private chain
        (λ q i. ap (λ (p : Page). p.right) (stays linked.1 q i)) x.rest.is_chain

    on_line : (qs : List ℕ) → Line P qs → (q : ℕ) → In q qs → StandsIn P q line
    on_line qs on q i = (qs, on, i)

    line_now : Links → (qs : List ℕ) → Line P qs → Line Q (qs ++ chain)
    line_now (LinkPages.empty count ps was now) qs on =
        let none : qs ≡ [] = none_chain P (first_of (P 0)) qs (ap first_in was) on in
        subst (λ (l : List ℕ). Line Q (l ++ chain)) (sym none)
        (subst (λ (z : ℕ). IsChain Q z chain) (sym (ap first_in now)) chain_now)
    line_now (LinkPages.behind first last count rows front ps was now rows_was rows_now is) qs on =
        let same : qs ≡ front ++ last ∷ [] = chain_one P (first_of (P 0)) qs (front ++ last ∷ []) on is in
        let start : first_of (Q 0) ≡ first_of (P 0) = ap first_in now ∙ sym (ap first_in was) in
        let rights : (q : ℕ) → In q front → (Q q).right ≡ (P q).right = λ q i.
        let at = on_line (front ++ last ∷ []) is q (in_front q front (last ∷ []) i) in
        ap (λ (p : Page). p.right) (left.elsewhere q (λ m. elim (subst (In q) ps m) [
          | inl e ↦ not_heap q line at (λ f. cc) e
          | inr (inl e) ↦ not_zero q line at (λ f. cc) e
          | inr (inr (inl e)) ↦ last_once P (first_of (P 0)) last front is (subst (λ (z : ℕ). In z front) e i)
          | inr (inr (inr none)) ↦ none
        ])) in
        let whole : IsChain Q (first_of (P 0)) (front ++ last ∷ chain) =
        chain_join P Q (first_of (P 0)) last x.here.head.private front chain is rights
        (ap (λ (p : Page). p.right) rows_now) chain_now in
        subst (λ (l : List ℕ). Line Q (l ++ chain)) (sym same)
        (subst (λ (z : ℕ). IsChain Q z ((front ++ last ∷ []) ++ chain)) (sym start)
        (subst (IsChain Q (first_of (P 0))) (sym (append_assoc front (last ∷ []) chain)) whole))

    -- the list's pages keep their rows
    rows_same : Links → (qs : List ℕ) → Line P qs → (q : ℕ) → In q qs → rows_of (Q q) ≡ rows_of (P q)
    rows_same (LinkPages.empty count ps was now) qs on q i =
        absurd (subst (In q) (none_chain P (first_of (P 0)) qs (ap first_in was) on) i)
    rows_same (LinkPages.behind first last count rows front ps was now rows_was rows_now is) qs on q i =
        elim (in_or_not q (changed r)) [
          | inr away ↦ ap rows_of (left.elsewhere q away)
          | inl m ↦ elim (subst (In q) ps m) [
            | inl e ↦ absurd (not_heap q line (on_line qs on q i) (λ f. cc) e)
            | inr (inl e) ↦ absurd (not_zero q line (on_line qs on q i) (λ f. cc) e)
            | inr (inr (inl e)) ↦ subst (λ (z : ℕ). rows_of (Q z) ≡ rows_of (P z)) (sym e)
                (ap rows_of rows_now ∙ sym (ap rows_in rows_was))
            | inr (inr (inr none)) ↦ absurd none
          ]
        ]

    -- a row on a page of the chain is of the item
    of_item : (q : ℕ) → In q chain → (w : Row) → In w (rows_of (P q)) → w.item ≡ item
    of_item q i w m =
        let held : Holds (commits R) (length R) R P = held_before all_steps R r legal.valid.0 u in
        let own : ChainOf P x.here.head.private (λ p. held.0.place p ≡ private_place item) =
        held.1.chained.private.some item x.here.head has.at in
        let same : own.pages ≡ chain =
        chain_one P x.here.head.private own.pages chain own.is_chain x.rest.is_chain in
        held.1.rows_owned.private_item q item w ((own.on q).0 (subst (In q) (sym same) i)) m

    linked_rows : RowsAreFresh P Q
    linked_rows qs on g =
        let same : g.more ≡ chain = cancel qs g.more chain
        (chain_one Q _ (qs ++ g.more) (qs ++ chain) g.line (line_now linked.1 qs on)) in
        let no_row : (q : ℕ) (i : In q qs) → (g.rows q i).0 ≡ [] = λ q i.
        nothing_more (rows_of (P q)) (g.rows q i).0 (sym (rows_same linked.1 qs on q i) ∙ (g.rows q i).1) in
        record {
          extra = λ q i w m k. subst (In w) (no_row q i) m;
          last = λ q i some_row. absurd (some_row (no_row q i));
          apart = λ q p i w v m j n e. subst (In w) (no_row q i) m;
          more = λ q i w m k.
              let on_it : In q chain = subst (In q) same i in
              let there : In w (rows_of (P q)) = subst (λ (p : Page). In w (rows_of p)) (stays linked.1 q on_it) m in
              x.rest.no_row (subst (HasRow P) (of_item q on_it w there) k);
        }

  by_kind : (kd : Kind) → r.kind ≡ kd → IsAdding r.kind → RowsAreFresh P Q
  by_kind (kind.AddRow i s) is adds =
      added (kind_rule R P Q r (commits R) (suc (length R)) (kind.AddRow i s) is u.rule)
  by_kind (kind.LinkPending i s) is adds =
      linked_rows (kind_rule R P Q r (commits R) (suc (length R)) (kind.LinkPending i s) is u.rule)
  by_kind kind.Shift is adds = absurd (no_shift r.kind adds (ap kind_number is))
    where
      no_shift : (k : Kind) → IsAdding k → kind_number k ≡ 12 → ⊥
      no_shift k (inl low) e = omega (arith, low, e)
      no_shift k (inr both) e = omega (arith, both.0, both.1, e)
  by_kind _ is adds = others adds (λ lists. subst ChangesLine is lists)

  pub fresh_step : IsAdding r.kind → RowsAreFresh P Q
  fresh_step adds = by_kind r.kind refl adds
