-- Rows of an own document that are put on a page of their own, added to the pending list, or linked.
use Rattle.std.proofs.Common.{◌≡◌, ◌≢◌, ◌+◌, ℕ, List, [], ◌∷◌, ◌++◌, length, map, refl, sym, ap, subst, subst₂, ◌∙◌}
use Rattle.std.proofs.Common.{inl}
use Rattle.page_types.specs.Keys.{KeyLess, Rising}
use Rattle.page_types.specs.Views.{first_of, first_in}
use Rattle.page_types.specs.declared.page.Page.{Page}
use Rattle.page_types.specs.declared.page.Row.{Row}
use Rattle.page_types.specs.declared.page.Body.{Body}
use Rattle.page_types.specs.declared.page.Body.TheVariants as body
use Rattle.page_types.specs.declared.record.Record.{Record}
use Rattle.page_types.specs.declared.record.Kind.{Kind}
use Rattle.page_types.specs.declared.record.Kind.TheVariants as kind
use Rattle.core_state.specs.Log.{Log, Pages, In, Shows, fate}
use Rattle.core_state.specs.Documents.{Doc, Has, IsChain, page_of}
use Rattle.core_state.specs.Index.{Line, HasRow, rows_on, keys_on, InRows}
use Rattle.core_state.specs.Changes.{made_with}
use Rattle.core_state.specs.PendingRules.{IsLinkHere}
use Rattle.core_state.specs.Legal.{IsLegal, RuleHolds}
use Rattle.core_state.specs.PagesTold.{IsLastOf}
use Rattle.core_state.specs.Allowed.{Sheet, View, IsAllowed, AreMade, sheet_pages}
use Rattle.core_state.specs.Steps.{sheet, MayBy}
use Rattle.core_state.specs.PendingSteps.{CanPutPending, CanAddRow, LinksAtEnd, CanLinkPending}
use Rattle.core_state.specs.declared.answers.Fate.TheVariants.{Unused, Running}
use Rattle.core_state.proofs.PageLists.{in_back}
use Rattle.core_state.proofs.Chains.{chain_behind, none_chain}
use Rattle.core_state.proofs.RisingKeys.{keys_front, rows_kept}
use Rattle.core_state.proofs.LawsHold.{pages}
use Rattle.core_state.proofs.Steps.Seen.{held_page, own_runs_on, still_new, shows}
use Rattle.core_state.proofs.Steps.Heads.{drawn_as, drawn_by, drawn_pages, one_of, two_of, left_all, left_is}
use Rattle.core_state.proofs.Steps.Heads.{head_changes, has_head}
use Rattle.core_state.proofs.Steps.OwnHeads.{held_head, seen_head}

pub put_pending_may : MayBy CanPutPending
put_pending_may v s can R a r Q n l =
    let t = shows CanPutPending v s R a can in
    let P = t.0 in
    let c = t.2 in
    let d : Doc = c.doc in
    let k : Kind = kind.PutPending d.item d.serial in
    let xid : r.xid ≡ s.xid = drawn_by R s r n k c.kind_is in
    let kind_is : r.kind ≡ k = drawn_as R s r n k c.kind_is in
    let named = drawn_pages R s r n _ c.after_is in
    let was = held_page v R a (page_of d.item) c.old c.held in
    let was_new = held_page v R a c.new c.old_rows c.held_rows in
    let left = left_all a.pages Q r s _ l c.after_is in
    let on = own_runs_on v R a P t.1 s.xid c.own in
    let has : Has a.pages d c.head = has_head a.pages d c.old c.head _ c.heap was c.head_after in
    let own = held_head v R a P t.1 s.xid c.own d c.head c.placed_by has in
    let chain = own.1.private c.chain c.is_chain in
    RuleHolds.put_pending (record {
      here = record {
        doc = d;
        head = c.head;
        new = c.new;
        rows = c.rows;
        old = c.old;
        was = c.old_rows;
        heap_then = made_with r c.old.right (body.Heap c.head_after.new_slots);
        kind_is = kind_is;
        pages = named;
        own = record { by = c.placed_by ∙ sym xid; runs = ap (fate R) xid ∙ on.runs };
        is_new = still_new v R a P t.1 v.since c.new c.old_rows c.held_rows c.is_new;
        some_row = c.some_row;
        items = c.items;
        rising = keys_front c.rows (rows_on P c.chain) c.rising;
        before_is = two_of a.pages _ (page_of d.item) c.new c.old c.old_rows named was was_new;
        head_after = head_changes r d c.old c.head _ c.heap c.head_after;
        after_is = two_of Q _ (page_of d.item) c.new _ _ named (left.0
            ∙ left_is r k c.heap c.old.right (body.Heap c.head_after.new_slots) kind_is refl c.head_after.right
            c.head_after.after)
            (left.1.0 ∙ left_is r k c.put c.head.private (body.Pending c.rows) kind_is refl c.right c.content);
      };
      rest = record {
        vector = c.vector;
        whole = own.1.vector c.vector c.whole;
        no_row = on.no_row d own.0 c.no_row;
        keys = c.keys;
        chain = c.chain;
        is_chain = chain.0;
        rising = subst (λ (ws : List Row). Rising KeyLess (keys_on (c.rows ++ ws)))
            (sym (rows_kept P a.pages c.chain chain.1)) c.rising;
      };
    })

same_meta : (a b c d e f : ℕ) → body.Meta a b c ≡ body.Meta d e f → (a ≡ d) × (b ≡ e) × (c ≡ f)
same_meta a b c d e f m = (cc, cc, cc)

-- the last page of a list, where it has one
last_named : (qs : List ℕ) (last : ℕ) → IsLastOf qs last → last ≢ 0 → (front : List ℕ) × (qs ≡ front ++ last ∷ [])
last_named _ _ IsLastOf.none some = absurd (some refl)
last_named _ _ (IsLastOf.some front last) some = (front, refl)

-- no page of a chain is 0
not_on : (P : Pages) (p q : ℕ) (qs : List ℕ) → IsChain P p qs → In q qs → q ≢ 0
not_on P p q qs c i = (chain_behind P q p qs c i).is_chain.1

none_named : (P : Pages) (p : ℕ) (qs : List ℕ) (last : ℕ) → IsChain P p qs → IsLastOf qs last → last ≡ 0 → qs ≡ []
none_named P p _ _ c IsLastOf.none none = refl
none_named P p _ _ c (IsLastOf.some front last) none =
    absurd (not_on P p last (front ++ last ∷ []) c (in_back last front (last ∷ []) (inl refl)) none)

-- the pending list of a log that isn't empty, by what the metapage names
module _ (R : Log) (P : Pages) (legal : IsLegal R) (shown : Shows R P) (some : R ≢ []) (first last count : ℕ)
    (meta : (P 0).body ≡ body.Meta first last count) where
  line_named : (qs : List ℕ) × Line P qs × IsLastOf qs last
  line_named =
      let list = (pages R P legal shown).list in
      let m = list.meta some in
      let same = same_meta _ _ _ _ _ _ (sym meta ∙ m.2) in
      (list.pages, list.is_line, subst (IsLastOf list.pages) (sym same.1) m.3)

  -- its last page
  pub last_on_line : last ≢ 0 → (front : List ℕ) × Line P (front ++ last ∷ [])
  last_on_line off =
      let front = last_named line_named.0 last line_named.2 off in
      (front.0, subst (Line P) front.1 line_named.1)

  first_is : first_of (P 0) ≡ first
  first_is = ap first_in meta

  -- where it has a page it has a first one
  pub some_first : last ≢ 0 → first ≢ 0
  some_first off none =
      let on = last_on_line off in
      let same = none_chain P (first_of (P 0)) (on.0 ++ last ∷ []) (first_is ∙ none) on.1 in
      subst (In last) same (in_back last on.0 (last ∷ []) (inl refl))

  pub no_first : last ≡ 0 → first ≡ 0
  no_first none =
      let same = none_named P (first_of (P 0)) line_named.0 last line_named.1 line_named.2 none in
      sym first_is ∙ subst (Line P) same line_named.1

-- a log in which a transaction runs isn't empty
some_log : (R : Log) (x : ℕ) → fate R x ≡ Running → R ≢ []
some_log R x runs e = let f : Unused ≡ Running = sym (ap (λ (S : Log). fate S x) e) ∙ runs in cc

pub add_row_may : MayBy CanAddRow
add_row_may v s can R a r Q n l =
    let t = shows CanAddRow v s R a can in
    let P = t.0 in
    let c = t.2 in
    let d : Doc = c.doc in
    let k : Kind = kind.AddRow d.item d.serial in
    let xid : r.xid ≡ s.xid = drawn_by R s r n k c.kind_is in
    let kind_is : r.kind ≡ k = drawn_as R s r n k c.kind_is in
    let named = drawn_pages R s r n _ c.after_is in
    let meta = held_page v R a 0 c.meta c.held_meta in
    let was = held_page v R a c.last c.old c.held in
    let left = left_all a.pages Q r s _ l c.after_is in
    let on = own_runs_on v R a P t.1 s.xid c.own in
    let own = seen_head v R a P t.1 s.xid c.own d c.head c.placed_by c.has in
    let line = last_on_line R a.pages a.legal a.shown (some_log R s.xid on.runs) c.first c.last c.count
    (ap (λ (p : Page). p.body) meta ∙ c.meta_is) c.some_last in
    RuleHolds.add_row (record {
      here = record {
        doc = d;
        last = c.last;
        rows = c.rows;
        row = c.row;
        old = c.old;
        kind_is = kind_is;
        pages = named;
        runs = ap (fate R) xid ∙ on.runs;
        item = c.item;
        before_is = one_of a.pages _ c.last c.old named was;
        was = c.was;
        after_is = one_of Q _ c.last _ named
            (left.0 ∙ left_is r k c.new c.old.right (body.Pending (c.rows ++ c.row ∷ [])) kind_is refl c.right
            c.content);
      };
      rest = record {
        head = c.head;
        has = own.1.head;
        by = c.placed_by ∙ sym xid;
        vector = c.vector;
        whole = own.1.vector c.vector c.whole;
        no_row = subst (λ (i : ℕ). HasRow a.pages i → ⊥) (sym c.item)
            (on.no_row d own.0 c.no_row);
        keys = c.keys;
        front = line.0;
        is_last = line.1;
      };
    })

-- what the metapage and the last page of the list are before and after a link
module _ (v : View) (R : Log) (a : IsAllowed v R) (some : R ≢ []) (Q : Pages) (r : Record) (item serial : ℕ)
    (kind_is : r.kind ≡ kind.LinkPending item serial) (to end added : ℕ) where
  abbrev IsLinked : List Sheet → Type 0
  IsLinked list = IsLinkHere r to end added (sheet_pages list) (map a.pages (sheet_pages list))
      (map Q (sheet_pages list))

  -- the body of a page that is held
  held_body : (p : ℕ) (c : Page) (b : Body) → In (sheet p c) v.held → c.body ≡ b → (a.pages p).body ≡ b
  held_body p c b held is = ap (λ (q : Page). q.body) (held_page v R a p c held) ∙ is

  linked_here : (list : List Sheet) → LinksAtEnd v to end added list → AreMade Q r list → IsLinked list
  linked_here _ (LinksAtEnd.empty first count meta meta_then held is right now) made =
      let none = no_first R a.pages a.legal a.shown some first 0 count
      (held_body 0 meta (body.Meta first 0 count) held is) refl in
      let left = made.0 ∙ left_is r (kind.LinkPending item serial) meta_then meta.right
      (body.Meta to end (count + added)) kind_is refl right now in
      subst₂ (λ (x y : Page). IsLinkHere r to end added (0 ∷ []) (x ∷ []) (y ∷ []))
      (sym (held_page v R a 0 meta held)) (sym left)
      (IsLinkHere.empty meta count (is ∙ ap (λ (z : ℕ). body.Meta z 0 count) none))
  linked_here _ (LinksAtEnd.behind first last count rows meta page meta_then page_then held held_page_is is off was
      right now link kept) made =
      let named = some_first R a.pages a.legal a.shown some first last count
      (held_body 0 meta (body.Meta first last count) held is) off in
      let left = made.0 ∙ left_is r (kind.LinkPending item serial) meta_then meta.right
      (body.Meta first end (count + added)) kind_is refl right now in
      let left_page = made.1.0 ∙ left_is r (kind.LinkPending item serial) page_then to (body.Pending rows) kind_is refl
      link kept in
      subst₂ (λ (x y : Page). IsLinkHere r to end added (0 ∷ last ∷ []) (a.pages 0 ∷ x ∷ []) (Q 0 ∷ y ∷ []))
      (sym (held_page v R a last page held_page_is)) (sym left_page)
      (subst₂ (λ (x y : Page). IsLinkHere r to end added (0 ∷ last ∷ []) (x ∷ page ∷ [])
      (y ∷ made_with r to (body.Pending rows) ∷ []))
      (sym (held_page v R a 0 meta held)) (sym left)
      (IsLinkHere.behind meta page first last count rows is named was))

  -- the page behind which the rows come is the list's last
  linked_behind : (list : List Sheet) → LinksAtEnd v to end added list → (last : ℕ)
      → sheet_pages list ≡ 0 ∷ last ∷ [] → (line : List ℕ) × Line a.pages (line ++ last ∷ [])
  linked_behind _ (LinksAtEnd.empty first count meta meta_then held is right now) last e = absurd (cc)
  linked_behind _ (LinksAtEnd.behind first old count rows meta page meta_then page_then held held_page_is is off was
      right now link kept) last e =
      let same : old ≡ last = cc in
      subst (λ (z : ℕ). (line : List ℕ) × Line a.pages (line ++ z ∷ [])) same
      (last_on_line R a.pages a.legal a.shown some first old count
      (held_body 0 meta (body.Meta first old count) held is) off)

some_chain : (P : Pages) (p end : ℕ) (front : List ℕ) → IsChain P p (front ++ end ∷ []) → p ≢ 0
some_chain P p end front c none =
    subst (In end) (none_chain P p (front ++ end ∷ []) none c) (in_back end front (end ∷ []) (inl refl))

some_pages : (front : List ℕ) (end : ℕ) → length (front ++ end ∷ []) ≢ 0
some_pages [] end e = cc
some_pages (p ∷ front) end e = cc

pub link_pending_may : MayBy CanLinkPending
link_pending_may v s can R a r Q n l =
    let t = shows CanLinkPending v s R a can in
    let P = t.0 in
    let c = t.2 in
    let d : Doc = c.doc in
    let k : Kind = kind.LinkPending d.item d.serial in
    let xid : r.xid ≡ s.xid = drawn_by R s r n k c.kind_is in
    let kind_is : r.kind ≡ k = drawn_as R s r n k c.kind_is in
    let named = drawn_pages R s r n _ c.after_is in
    let was = held_page v R a (page_of d.item) c.old c.held in
    let left = left_all a.pages Q r s _ l c.after_is in
    let on = own_runs_on v R a P t.1 s.xid c.own in
    let has : Has a.pages d c.head = has_head a.pages d c.old c.head _ c.heap was c.head_after in
    let own = held_head v R a P t.1 s.xid c.own d c.head c.placed_by has in
    let chain = own.1.private (c.front ++ c.end ∷ []) c.is_chain in
    let added = length (c.front ++ c.end ∷ []) in
    let some = some_log R s.xid on.runs in
    let heap_then = made_with r c.old.right (body.Heap c.head_after.new_slots) in
    let now : Q (page_of d.item) ≡ heap_then = left.0
    ∙ left_is r k c.heap c.old.right (body.Heap c.head_after.new_slots) kind_is refl c.head_after.right
    c.head_after.after in
    RuleHolds.link_pending (record {
      here = record {
        doc = d;
        head = c.head;
        end = c.end;
        added = added;
        old = c.old;
        heap_then = heap_then;
        others = sheet_pages c.list;
        others_before = map a.pages (sheet_pages c.list);
        others_after = map Q (sheet_pages c.list);
        kind_is = kind_is;
        pages = named;
        own = record { by = c.placed_by ∙ sym xid; runs = ap (fate R) xid ∙ on.runs };
        some_page = some_chain P c.head.private c.end c.front c.is_chain;
        some_added = some_pages c.front c.end;
        linked = linked_here v R a some Q r d.item d.serial kind_is c.head.private c.end added c.list c.links left.1;
        before_is = ap (map a.pages) named ∙ ap (λ (p : Page). p ∷ map a.pages (sheet_pages c.list)) was;
        head_after = head_changes r d c.old c.head _ c.heap c.head_after;
        after_is = ap (map Q) named ∙ ap (λ (p : Page). p ∷ map Q (sheet_pages c.list)) now;
      };
      rest = record {
        vector = c.vector;
        whole = own.1.vector c.vector c.whole;
        no_row = on.no_row d own.0 c.no_row;
        front = c.front;
        is_chain = chain.0;
        pages = refl;
        all_keys = λ key i. subst (λ (ws : List Row). InRows ws key d.item)
            (sym (rows_kept P a.pages (c.front ++ c.end ∷ []) chain.1)) (c.all_keys key i);
        is_last = linked_behind v R a some Q r d.item d.serial kind_is c.head.private c.end added c.list c.links;
      };
    })
