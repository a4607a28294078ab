-- What each page that a record changes was before it, and is after it.
use Rattle.std.proofs.Common.{◌≡◌, ◌≢◌, ◌⊎◌, ℕ, suc, List, [], ◌∷◌, ◌++◌, length, map, refl, sym, ap, subst, ◌∙◌, inl}
use Rattle.std.proofs.Common.{inr, arith}
use Rattle.std.specs.Prelude.{Option}
use Rattle.ts_base.specs.Keys.{Key}
use Rattle.page_types.specs.Views.{free_page, slots_in, slots_of, slot_at, first_in, first_of}
use Rattle.page_types.specs.declared.page.Page.{Page}
use Rattle.page_types.specs.declared.page.Head.{Head}
use Rattle.page_types.specs.declared.page.Row.{Row}
use Rattle.page_types.specs.declared.page.Body.{Body}
use Rattle.page_types.specs.declared.page.Body.TheVariants as body
use Rattle.page_types.specs.declared.page.Gone.{Gone}
use Rattle.page_types.specs.declared.record.Record.{Record}
use Rattle.page_types.specs.declared.record.Kind.{Kind}
use Rattle.page_types.specs.declared.record.Kind.TheVariants as kind
use Rattle.core_state.specs.Log.{Log, Pages, In, Shows, changed}
use Rattle.core_state.specs.Documents.{Doc, Has, page_of, slot_of}
use Rattle.core_state.specs.Index.{Line}
use Rattle.core_state.specs.Known.{use_in}
use Rattle.core_state.specs.Changes.{made_with, IsNew, IsHeadChange}
use Rattle.core_state.specs.TransactionRules.{IsCreate}
use Rattle.core_state.specs.HeapRules.{IsPlaceHead, IsPutOverflow, IsMarkDeleted}
use Rattle.core_state.specs.PendingRules.{IsPutPending, IsAddRow, IsLinkHere, IsLinkPending, IsShift}
use Rattle.core_state.specs.TreeRules.{IsAddItems, IsMakeTree, IsAddPostings, OneChild, IsGrowRoot, EntryHalves}
use Rattle.core_state.specs.TreeRules.{PostHalves, IsDivided, IsSplit, IsDeletePost}
use Rattle.core_state.specs.VacuumRules.{ListsLose, IsRemoveItems, IsDropped, IsDropPage, IsFreeSlots}
use Rattle.core_state.specs.Legal.{RuleHolds}
use Rattle.core_state.specs.Inner.PageKinds.{IsHeap, IsOverflow, IsPending, IsMeta, IsTree, IsDeleted, IsPlain}
use Rattle.core_state.specs.Inner.PageKinds.{IsHeadPage, PutsRows, ChangesLine, ChangesTrees, IsFirstOf, IsChanged}
use Rattle.core_state.specs.Inner.PageKinds.{Touched}
use Rattle.core_state.proofs.Showing.{shown_one, none_yet, shown_none}
use Rattle.core_state.proofs.Histories.{chain_one}
use Rattle.core_state.proofs.PageLists.{in_back, of_none, of_one, of_two, of_three, one_page, two_pages, three_pages}
use Rattle.core_state.proofs.PageLists.{unlinked_pages}

-- a body at a page that is known
was_body : (K : Body → Type 0) (P : Pages) (p : ℕ) (old : Page) (b : Body) → P p ≡ old → old.body ≡ b → K b
    → K (P p).body
was_body K P p old b e f k = subst K (sym (ap (λ (q : Page). q.body) e ∙ f)) k

is_body : (K : Body → Type 0) (Q : Pages) (r : Record) (p right : ℕ) (b : Body) → Q p ≡ made_with r right b → K b
    → K (Q p).body
is_body K Q r p right b e k = subst K (sym (ap (λ (q : Page). q.body) e)) k

is_stamp : (Q : Pages) (r : Record) (p right : ℕ) (b : Body) → Q p ≡ made_with r right b → (Q p).stamp ≡ r.number
is_stamp Q r p right b e = ap (λ (q : Page). q.stamp) e

module _ (P Q : Pages) (r : Record) (since : ℕ) where
  -- a page in each of these ways
  to_made : (p right : ℕ) (b : Body) → r.kind ≡ kind.Create → P p ≡ free_page → Q p ≡ made_with r right b → IsPlain b
      → Touched P Q r since p
  to_made p right b h k e is = record {
    stamp = is_stamp Q r p right b e;
    change = IsChanged.made h k
        (is_body IsPlain Q r p right b e is);
  }

  to_heap : (p : ℕ) (old : Page) (right : ℕ) (slots new_slots : List (Option Head)) → P p ≡ old
      → old.body ≡ body.Heap slots → Q p ≡ made_with r right (body.Heap new_slots)
      → IsHeadPage r.kind p → Touched P Q r since p
  to_heap p old right slots new_slots e f g k = record {
    stamp = is_stamp Q r p right (body.Heap new_slots) g;
    change = IsChanged.heads (inl (was_body IsHeap P p old (body.Heap slots) e f tt)) (is_body IsHeap Q r p right
        (body.Heap new_slots) g tt) k;
  }

  to_new_heap : (p right : ℕ) (new_slots : List (Option Head)) → IsNew (use_in P) since p
      → Q p ≡ made_with r right (body.Heap new_slots) → IsHeadPage r.kind p → Touched P Q r since p
  to_new_heap p right new_slots n g k =
      record {
        stamp = is_stamp Q r p right (body.Heap new_slots) g;
        change = IsChanged.heads (inr n)
            (is_body IsHeap Q r p right (body.Heap new_slots) g tt) k;
      }

  to_part : (p right : ℕ) (b : Body) → IsNew (use_in P) since p → Q p ≡ made_with r right b → IsOverflow b
      → Touched P Q r since p
  to_part p right b n e is = record {
    stamp = is_stamp Q r p right b e;
    change = IsChanged.chained n
        (inl (is_body IsOverflow Q r p right b e is));
  }

  to_rows : (k : Kind) (p right : ℕ) (b : Body) → r.kind ≡ k → PutsRows k → IsNew (use_in P) since p
      → Q p ≡ made_with r right b → IsPending b → Touched P Q r since p
  to_rows k p right b h w n e is =
      record {
        stamp = is_stamp Q r p right b e;
        change = IsChanged.chained n (inr (
          is_body IsPending Q r p right b e
              is,
          subst PutsRows (sym h) w,
        ));
      }

  to_grown : (k : Kind) (p right : ℕ) (b : Body) → r.kind ≡ k → ChangesTrees k → IsNew (use_in P) since p
      → Q p ≡ made_with r right b → IsTree b → Touched P Q r since p
  to_grown k p right b f w n e is =
      record {
        stamp = is_stamp Q r p right b e;
        change = IsChanged.grown n (subst ChangesTrees (sym f) w)
            (is_body IsTree Q r p right b e is);
      }

  to_worked : (k : Kind) (p : ℕ) (old : Page) (right : ℕ) (a b : Body) → r.kind ≡ k → ChangesTrees k → P p ≡ old
      → old.body ≡ a → IsTree a → Q p ≡ made_with r right b → IsTree b ⊎ IsDeleted b
      → Touched P Q r since p
  to_worked k p old right a b h w e f was g is = record {
    stamp = is_stamp Q r p right b g;
    change = IsChanged.worked (was_body IsTree P p old a e f was) (subst ChangesTrees (sym h) w)
        (is_body (λ c. IsTree c ⊎ IsDeleted c) Q r p right b g is);
  }

  to_meta : (k : Kind) (p : ℕ) (old : Page) (right : ℕ) (a b : Body) → r.kind ≡ k → ChangesLine k → P p ≡ old
      → old.body ≡ a → IsMeta a → Q p ≡ made_with r right b → IsMeta b
      → Touched P Q r since p
  to_meta k p old right a b h w e f was g is =
      record {
        stamp = is_stamp Q r p right b g;
        change = IsChanged.meta (was_body IsMeta P p old a e f was)
            (subst ChangesLine (sym h) w) (is_body IsMeta Q r p right b g is);
      }

  to_listed : (k : Kind) (p : ℕ) (old : Page) (right : ℕ) (a b : Body) → r.kind ≡ k → ChangesLine k → P p ≡ old
      → old.body ≡ a → IsPending a → ((line : List ℕ) → Line P line → In p line)
      → Q p ≡ made_with r right b → IsPending b ⊎ (IsDeleted b × (k ≡ kind.Shift)) → Touched P Q r since p
  to_listed k p old right a b h w e f was on g is = record {
    stamp = is_stamp Q r p right b g;
    change = IsChanged.listed (was_body IsPending P p old a e f was) on (subst ChangesLine (sym h) w) (elim is [
      | inl i ↦ inl (is_body IsPending Q r p right b g i)
      | inr i ↦ inr (is_body IsDeleted Q r p right b g i.0, h ∙ i.1)
    ]);
  }

  -- the page of a head that changes
  to_head : (d : Doc) (old new : Page) (h h' : Head) → P (page_of d.item) ≡ old → Q (page_of d.item) ≡ new
      → IsHeadChange r d old h h' new → IsHeadPage r.kind (page_of d.item)
      → Touched P Q r since (page_of d.item)
  to_head d old new h h' e g c k = to_heap (page_of d.item) old old.right c.slots c.new_slots e c.before (g ∙ c.after) k

  -- the document whose head changes has it
  pub head_was : (d : Doc) (old new : Page) (h h' : Head) → P (page_of d.item) ≡ old → IsHeadChange r d old h h' new
      → Has P d h
  head_was d old new h h' e c = record {
    at = ap (λ (q : Page). slot_at (slots_of q) (slot_of d.item)) e
        ∙ ap (λ (b : Body). slot_at (slots_in b) (slot_of d.item)) c.before ∙ c.head;
    serial = c.serial;
  }

  -- the last page of the pending list is on it, and so is its first
  last_on : (front : List ℕ) (last : ℕ) → Line P (front ++ last ∷ []) → (line : List ℕ) → Line P line → In last line
  last_on front last a line b = subst (In last) (chain_one P (first_of (P 0)) (front ++ last ∷ []) line a b)
      (in_back last front (last ∷ []) (inl refl))

  first_on : (p : ℕ) → first_of (P 0) ≡ p → p ≢ 0 → (line : List ℕ) → Line P line → In p line
  first_on p e off [] a = absurd (off (sym e ∙ a))
  first_on p e off (q ∷ qs) a = inl (sym e ∙ a.0)

child_bodies : (new : ℕ) (a b : Body) → OneChild new a b → IsTree a × IsTree b
child_bodies new a b (OneChild.of_leaf high es) = (tt, tt)
child_bodies new a b (OneChild.of_inner cs) = (tt, tt)
child_bodies new a b (OneChild.of_post_leaf high is) = (tt, tt)
child_bodies new a b (OneChild.of_post_inner cs) = (tt, tt)

entry_bodies : (mid : Key) (a b c : Body) → EntryHalves mid a b c → IsTree a × IsTree b × IsTree c
entry_bodies mid a b c (EntryHalves.leaves high f k x y z w) = (tt, tt, tt)
entry_bodies mid a b c (EntryHalves.inners l f k x y) = (tt, tt, tt)

post_bodies : (mid : ℕ) (a b c : Body) → PostHalves mid a b c → IsTree a × IsTree b × IsTree c
post_bodies mid a b c (PostHalves.leaves high is f k x y z w v) = (tt, tt, tt)
post_bodies mid a b c (PostHalves.inners l f k x y) = (tt, tt, tt)

-- a divided page, its halves, and its parent before and after
divided_bodies : (page new : ℕ) (a b c d e : Body) → IsDivided page new a b c d e → IsTree a × IsTree b × IsTree c
    × IsTree d × IsTree e
divided_bodies page new a b c d e (IsDivided.in_entries mid h p) =
    let x = entry_bodies mid a b c h in (x.0, x.1, x.2, subst IsTree (sym p.before) tt, subst IsTree (sym p.after) tt)
divided_bodies page new a b c d e (IsDivided.in_postings mid h p) =
    let x = post_bodies mid a b c h in (x.0, x.1, x.2, subst IsTree (sym p.before) tt, subst IsTree (sym p.after) tt)

lists_bodies : (removed : List ℕ) (a b : Body) → ListsLose removed a b → IsTree a × IsTree b
lists_bodies removed a b (ListsLose.entries high old new x) = (tt, tt)
lists_bodies removed a b (ListsLose.postings high old new x) = (tt, tt)

dropped_first : (P : Pages) (k : Kind) (d : Doc) (h h' : Head) (page right : ℕ) (b : Body) (g : Gone)
    → IsDropped h page right b g h' → (P page).body ≡ b → Has P d h → k ≡ kind.DropPage d.item d.serial → page ≢ 0
    → IsFirstOf P k page
dropped_first P k d h h' page right b g (IsDropped.overflow bytes e) f has is off =
    record { doc = d; head = h; has = has; kind_is = is; not_none = off; first = inl (subst IsOverflow (sym f) tt, e) }
dropped_first P k d h h' page right b g (IsDropped.private rows e) f has is off =
    record { doc = d; head = h; has = has; kind_is = is; not_none = off; first = inr (subst IsPending (sym f) tt, e) }

pending_not_meta : (P : Pages) (p first last count : ℕ) (rows : List Row) → (P 0).body ≡ body.Meta first last count
    → (P p).body ≡ body.Pending rows → p ≢ 0
pending_not_meta P p first last count rows e f z = let g : body.Meta first last count ≡ body.Pending rows = sym e
    ∙ ap (λ (q : ℕ). (P q).body) (sym z) ∙ f in cc

-- an empty log shows free pages
pub none_free : (R : Log) (P : Pages) → Shows R P → length R ≡ 0 → (p : ℕ) → P p ≡ free_page
none_free [] P shown e p = ap (λ (S : Pages). S p) (shown_one [] P none_yet shown shown_none)
none_free (r ∷ R) P shown e p = absurd (omega (arith, e))

module _ (R : Log) (P Q : Pages) (r : Record) (floor since : ℕ) (none : length R ≡ 0 → (p : ℕ) → P p ≡ free_page) where
  abbrev T : ℕ → Type 0
  T p = Touched P Q r since p

  -- the kind's document is on its page
  at_page : (k : Kind) (p : ℕ) → r.kind ≡ k → IsHeadPage k p → IsHeadPage r.kind p
  at_page k p e h = subst (λ (z : Kind). IsHeadPage z p) (sym e) h

  create_touched : IsCreate R P Q r → (p : ℕ) → In p (changed r) → T p
  create_touched x =
      let g = two_pages Q (changed r) 0 1 _ _ x.here.pages x.here.after_is in
      of_two T (changed r) 0 1 x.here.pages (to_made P Q r since 0 0 (body.Meta 0 0 0) x.here.kind_is
      (none x.here.empty 0) g.0 tt) (to_made P Q r since 1 0 (body.EntryLeaf [] []) x.here.kind_is
      (none x.here.empty 1) g.1 tt)

  place_touched : IsPlaceHead R P Q r since → (p : ℕ) → In p (changed r) → T p
  place_touched x =
      let a = page_of x.here.doc.item in
      let e = one_page P (changed r) a x.here.old x.here.pages x.here.before_is in
      let g = one_page Q (changed r) a (made_with r x.here.right (body.Heap x.here.new_slots)) x.here.pages
      x.here.after_is in
      let k = at_page (kind.PlaceHead x.here.doc.item x.here.doc.serial) a x.here.kind_is refl in
      of_one T (changed r) a x.here.pages (elim x.here.page [
        | inl o ↦ to_heap P Q r since a x.here.old x.here.right x.here.slots x.here.new_slots e o.0 g k
        | inr o ↦ to_new_heap P Q r since a x.here.right x.here.new_slots o.2 g k
      ])

  put_touched : IsPutOverflow R P Q r since → (p : ℕ) → In p (changed r) → T p
  put_touched x =
      let a = page_of x.here.doc.item in
      let e = two_pages P (changed r) a x.here.new x.here.old x.here.was x.here.pages x.here.before_is in
      let g = two_pages Q (changed r) a x.here.new x.here.heap_then (made_with r x.here.head.overflow
      (body.Overflow x.here.part)) x.here.pages x.here.after_is in
      of_two T (changed r) a x.here.new x.here.pages
      (to_head P Q r since x.here.doc x.here.old x.here.heap_then x.here.head _ e.0 g.0 x.here.head_after
      (at_page (kind.PutOverflow x.here.doc.item x.here.doc.serial) a x.here.kind_is refl))
      (to_part P Q r since x.here.new x.here.head.overflow (body.Overflow x.here.part) x.here.is_new g.1 tt)

  mark_touched : IsMarkDeleted R P Q r → (p : ℕ) → In p (changed r) → T p
  mark_touched x =
      let a = page_of x.here.doc.item in
      let e = one_page P (changed r) a x.here.old x.here.pages x.here.before_is in
      let g = one_page Q (changed r) a x.here.heap_then x.here.pages x.here.after_is in
      of_one T (changed r) a x.here.pages
      (to_head P Q r since x.here.doc x.here.old x.here.heap_then x.here.head _ e g x.here.head_after
      (at_page (kind.MarkDeleted x.here.doc.item x.here.doc.serial) a x.here.kind_is refl))

  rows_touched : IsPutPending R P Q r since → (p : ℕ) → In p (changed r) → T p
  rows_touched x =
      let a = page_of x.here.doc.item in
      let e = two_pages P (changed r) a x.here.new x.here.old x.here.was x.here.pages x.here.before_is in
      let g = two_pages Q (changed r) a x.here.new x.here.heap_then (made_with r x.here.head.private
      (body.Pending x.here.rows)) x.here.pages x.here.after_is in
      of_two T (changed r) a x.here.new x.here.pages
      (to_head P Q r since x.here.doc x.here.old x.here.heap_then x.here.head _ e.0 g.0 x.here.head_after
      (at_page (kind.PutPending x.here.doc.item x.here.doc.serial) a x.here.kind_is refl))
      (to_rows P Q r since (kind.PutPending x.here.doc.item x.here.doc.serial) x.here.new x.here.head.private
      (body.Pending x.here.rows) x.here.kind_is tt x.here.is_new g.1 tt)

  row_touched : IsAddRow R P Q r → (p : ℕ) → In p (changed r) → T p
  row_touched x =
      let e = one_page P (changed r) x.here.last x.here.old x.here.pages x.here.before_is in
      let g = one_page Q (changed r) x.here.last _ x.here.pages x.here.after_is in
      of_one T (changed r) x.here.last x.here.pages
      (to_listed P Q r since (kind.AddRow x.here.doc.item x.here.doc.serial) x.here.last x.here.old x.here.old.right
      (body.Pending x.here.rows) _ x.here.kind_is tt e x.here.was tt
      (last_on P Q r since x.rest.front x.here.last x.rest.is_last) g (inl tt))

  -- the pages of a link, the heap page first
  link_pages : (k : Kind) → r.kind ≡ k → ChangesLine k → (a to end added : ℕ) (others : List ℕ) (old left : Page)
      (befores afters : List Page) → (P a ≡ old → Q a ≡ left → T a) → IsLinkHere r to end added others befores afters
      → ((last : ℕ) → others ≡ 0 ∷ last ∷ [] → (line : List ℕ) × Line P (line ++ last ∷ []))
      → changed r ≡ a ∷ others → map P (changed r) ≡ old ∷ befores → map Q (changed r) ≡ left ∷ afters → (p : ℕ)
      → In p (changed r) → T p
  link_pages k h w a to end added others old left befores afters ta (IsLinkHere.empty meta count m) is_last pages f g =
      let e = two_pages P (changed r) a 0 old meta pages f in
      let g' = two_pages Q (changed r) a 0 left _ pages g in
      of_two T (changed r) a 0 pages (ta e.0 g'.0) (to_meta P Q r since k 0 meta meta.right (body.Meta 0 0 count) _ h w
      e.1 m tt g'.1 tt)
  link_pages k h w a to end added others old left befores afters ta (IsLinkHere.behind meta page first last count rows
      m off b) is_last pages f g =
      let e = three_pages P (changed r) a 0 last old meta page pages f in
      let g' = three_pages Q (changed r) a 0 last left _ _ pages g in
      let line = is_last last refl in
      of_three T (changed r) a 0 last pages (ta e.0 g'.0) (to_meta P Q r since k 0 meta meta.right
      (body.Meta first last count) _ h w e.1 m tt g'.1 tt)
      (to_listed P Q r since k last page to (body.Pending rows) _ h w e.2 b tt (last_on P Q r since line.0 last line.1)
      g'.2 (inl tt))

  link_touched : IsLinkPending R P Q r → (p : ℕ) → In p (changed r) → T p
  link_touched x =
      let a = page_of x.here.doc.item in
      link_pages (kind.LinkPending x.here.doc.item x.here.doc.serial) x.here.kind_is tt a x.here.head.private
      x.here.end x.here.added x.here.others x.here.old x.here.heap_then x.here.others_before x.here.others_after
      (λ e g. to_head P Q r since x.here.doc x.here.old x.here.heap_then x.here.head _ e g x.here.head_after
      (at_page (kind.LinkPending x.here.doc.item x.here.doc.serial) a x.here.kind_is refl))
      x.here.linked x.rest.is_last x.here.pages x.here.before_is x.here.after_is

  shift_touched : IsShift R P Q r → (p : ℕ) → In p (changed r) → T p
  shift_touched x =
      let e = two_pages P (changed r) 0 x.here.page x.here.meta x.here.old x.here.pages x.here.before_is in
      let g = two_pages Q (changed r) 0 x.here.page _ _ x.here.pages x.here.after_is in
      let meta : (P 0).body ≡ body.Meta x.here.page x.here.last (suc x.here.count) = ap (λ (q : Page). q.body) e.0
      ∙ x.here.first in
      let off = pending_not_meta P x.here.page x.here.page x.here.last (suc x.here.count) x.here.rows meta
      (ap (λ (q : Page). q.body) e.1 ∙ x.here.was) in
      of_two T (changed r) 0 x.here.page x.here.pages
      (to_meta P Q r since kind.Shift 0 x.here.meta x.here.meta.right (body.Meta x.here.page x.here.last
      (suc x.here.count)) _ x.here.kind_is tt e.0 x.here.first tt g.0 tt)
      (to_listed P Q r since kind.Shift x.here.page x.here.old x.here.old.right (body.Pending x.here.rows) _
      x.here.kind_is tt e.1 x.here.was tt (first_on P Q r since x.here.page (ap first_in meta) off) g.1
      (inr (tt, refl)))

  items_touched : IsAddItems R P Q r → (p : ℕ) → In p (changed r) → T p
  items_touched x =
      let e = one_page P (changed r) x.here.page x.here.old x.here.pages x.here.before_is in
      let g = one_page Q (changed r) x.here.page _ x.here.pages x.here.after_is in
      of_one T (changed r) x.here.page x.here.pages (to_worked P Q r since kind.AddItems x.here.page x.here.old
      x.here.old.right (body.EntryLeaf x.here.high x.here.entries) _ x.here.kind_is tt e x.here.was tt g (inl tt))

  tree_touched : IsMakeTree R P Q r since → (p : ℕ) → In p (changed r) → T p
  tree_touched x =
      let e = two_pages P (changed r) x.here.page x.here.new x.here.old x.here.was x.here.pages x.here.before_is in
      let g = two_pages Q (changed r) x.here.page x.here.new _ _ x.here.pages x.here.after_is in
      of_two T (changed r) x.here.page x.here.new x.here.pages (to_worked P Q r since kind.MakeTree x.here.page
      x.here.old x.here.old.right _ _ x.here.kind_is tt e.0 x.here.inline tt g.0 (inl tt))
      (to_grown P Q r since kind.MakeTree x.here.new 0 _ x.here.kind_is tt x.here.is_new g.1 tt)

  postings_touched : IsAddPostings R P Q r → (p : ℕ) → In p (changed r) → T p
  postings_touched x =
      let e = one_page P (changed r) x.here.page x.here.old x.here.pages x.here.before_is in
      let g = one_page Q (changed r) x.here.page _ x.here.pages x.here.after_is in
      of_one T (changed r) x.here.page x.here.pages (to_worked P Q r since kind.AddPostings x.here.page x.here.old
      x.here.old.right (body.PostLeaf x.here.high x.here.old_list) _ x.here.kind_is tt e x.here.was tt g (inl tt))

  root_touched : IsGrowRoot R P Q r since → (p : ℕ) → In p (changed r) → T p
  root_touched x =
      let e = two_pages P (changed r) x.here.root x.here.new x.here.old x.here.was x.here.pages x.here.before_is in
      let g = two_pages Q (changed r) x.here.root x.here.new _ _ x.here.pages x.here.after_is in
      let b = child_bodies x.here.new x.here.old.body x.here.inner x.here.one_child in
      of_two T (changed r) x.here.root x.here.new x.here.pages (to_worked P Q r since kind.GrowRoot x.here.root
      x.here.old x.here.old.right x.here.old.body x.here.inner x.here.kind_is tt e.0 refl b.0 g.0 (inl b.1))
      (to_grown P Q r since kind.GrowRoot x.here.new 0 x.here.old.body x.here.kind_is tt x.here.is_new g.1 b.0)

  split_touched : IsSplit R P Q r since → (p : ℕ) → In p (changed r) → T p
  split_touched x =
      let e = three_pages P (changed r) x.here.page x.here.new x.here.parent x.here.old x.here.was x.here.old_parent
      x.here.pages x.here.before_is in
      let g = three_pages Q (changed r) x.here.page x.here.new x.here.parent _ _ _ x.here.pages x.here.after_is in
      let b = divided_bodies x.here.page x.here.new x.here.old.body x.here.left x.here.right x.here.old_parent.body
      x.here.parent_after x.here.divided in
      of_three T (changed r) x.here.page x.here.new x.here.parent x.here.pages
      (to_worked P Q r since kind.Split x.here.page x.here.old x.here.new x.here.old.body x.here.left x.here.kind_is tt
      e.0 refl b.0 g.0 (inl b.1))
      (to_grown P Q r since kind.Split x.here.new x.here.old.right x.here.right x.here.kind_is tt x.here.is_new g.1 b.2)
      (to_worked P Q r since kind.Split x.here.parent x.here.old_parent x.here.old_parent.right x.here.old_parent.body
      x.here.parent_after x.here.kind_is tt e.2 refl b.3 g.2 (inl b.4))

  remove_touched : IsRemoveItems R P Q r floor → (p : ℕ) → In p (changed r) → T p
  remove_touched x =
      let e = one_page P (changed r) x.here.page x.here.old x.here.pages x.here.before_is in
      let g = one_page Q (changed r) x.here.page _ x.here.pages x.here.after_is in
      let b = lists_bodies x.here.removed x.here.old.body x.here.content x.here.lists in
      of_one T (changed r) x.here.page x.here.pages (to_worked P Q r since kind.RemoveItems x.here.page x.here.old
      x.here.old.right x.here.old.body x.here.content x.here.kind_is tt e refl b.0 g (inl b.1))

  delete_touched : IsDeletePost R P Q r → (p : ℕ) → In p (changed r) → T p
  delete_touched x =
      let u = unlinked_pages P Q r x.here.page x.here.parent x.here.old.right x.here.lefts x.here.lefts_before
      x.here.lefts_after x.here.old _ x.here.old_parent _ (changed r)
      x.here.unlinked x.here.pages x.here.before_is x.here.after_is in
      let page = to_worked P Q r since kind.DeletePost x.here.page x.here.old x.here.old.right
      (body.PostLeaf x.here.high []) _ x.here.kind_is tt u.was x.here.empty tt u.is (inr tt) in
      let parent = to_worked P Q r since kind.DeletePost x.here.parent x.here.old_parent x.here.old_parent.right _ _
      x.here.kind_is tt u.parent_was x.here.child tt u.parent_is (inl tt) in
      elim u.leaf [
        | inl none ↦ of_two T (changed r) x.here.page x.here.parent (x.here.pages
            ∙ ap (λ (l : List ℕ). x.here.page ∷ (l ++ x.here.parent ∷ [])) none) page parent
        | inr leaf ↦ of_three T (changed r) x.here.page leaf.0 x.here.parent (x.here.pages
            ∙ ap (λ (l : List ℕ). x.here.page ∷ (l ++ x.here.parent ∷ [])) leaf.1) page
            (to_worked P Q r since kind.DeletePost leaf.0 (P leaf.0) x.here.old.right (body.PostLeaf leaf.2.high
            leaf.2.items) _ x.here.kind_is tt refl leaf.2.was tt leaf.2.after (inl tt)) parent
      ]

  drop_touched : IsDropPage R P Q r floor → (p : ℕ) → In p (changed r) → T p
  drop_touched x =
      let d = x.here.doc in
      let a = page_of d.item in
      let e = two_pages P (changed r) a x.here.page x.here.old x.here.was x.here.pages x.here.before_is in
      let g = two_pages Q (changed r) a x.here.page x.here.heap_then _ x.here.pages x.here.after_is in
      let has = head_was P Q r since d x.here.old x.here.heap_then x.here.head x.here.head_then e.0 x.here.head_after in
      let first = dropped_first P r.kind d x.here.head x.here.head_then x.here.page x.here.was.right x.here.was.body
      x.here.content x.here.dropped (ap (λ (q : Page). q.body) e.1) has x.here.kind_is x.here.not_none in
      of_two T (changed r) a x.here.page x.here.pages
      (to_head P Q r since d x.here.old x.here.heap_then x.here.head x.here.head_then e.0 g.0 x.here.head_after
      (at_page (kind.DropPage d.item d.serial) a x.here.kind_is refl))
      (record {
        stamp = is_stamp Q r x.here.page x.here.was.right (body.Deleted x.here.content) g.1;
        change = IsChanged.dropped first (is_body IsDeleted Q r x.here.page x.here.was.right
            (body.Deleted x.here.content) g.1 tt);
      })

  free_touched : IsFreeSlots R P Q r floor → (p : ℕ) → In p (changed r) → T p
  free_touched x =
      let e = one_page P (changed r) x.here.page x.here.old x.here.pages x.here.before_is in
      let g = one_page Q (changed r) x.here.page _ x.here.pages x.here.after_is in
      of_one T (changed r) x.here.page x.here.pages (to_heap P Q r since x.here.page x.here.old x.here.old.right
      x.here.slots x.here.new_slots e x.here.was g (at_page kind.FreeSlots x.here.page x.here.kind_is tt))

  -- through all kinds
  pub touched : RuleHolds R P Q r floor since → (p : ℕ) → In p (changed r) → T p
  touched (RuleHolds.create x) = create_touched x
  touched (RuleHolds.begin x) = of_none T (changed r) x.here.pages
  touched (RuleHolds.commit x) = of_none T (changed r) x.here.pages
  touched (RuleHolds.abort x) = of_none T (changed r) x.here.pages
  touched (RuleHolds.checkpoint x) = of_none T (changed r) x.here.pages
  touched (RuleHolds.place_head x) = place_touched x
  touched (RuleHolds.put_overflow x) = put_touched x
  touched (RuleHolds.mark_deleted x) = mark_touched x
  touched (RuleHolds.put_pending x) = rows_touched x
  touched (RuleHolds.add_row x) = row_touched x
  touched (RuleHolds.link_pending x) = link_touched x
  touched (RuleHolds.shift x) = shift_touched x
  touched (RuleHolds.add_items x) = items_touched x
  touched (RuleHolds.make_tree x) = tree_touched x
  touched (RuleHolds.add_postings x) = postings_touched x
  touched (RuleHolds.grow_root x) = root_touched x
  touched (RuleHolds.split x) = split_touched x
  touched (RuleHolds.remove_items x) = remove_touched x
  touched (RuleHolds.delete_post x) = delete_touched x
  touched (RuleHolds.drop_page x) = drop_touched x
  touched (RuleHolds.free_slots x) = free_touched x
