-- What is taken of the heads on a heap page.
use Rattle.std.proofs.Common.{◌≡◌, ◌↔◌, ℕ, zero, suc, ◌<◌, ◌≤◌, ◌+◌, Bool, true, false, IsTrue, List, [], ◌∷◌, ◌++◌}
use Rattle.std.proofs.Common.{length, take}
use Rattle.std.proofs.Common.{Some, refl, sym, ap, subst, ◌∙◌, inl, inr, arith, slice_get}
use Rattle.ts_base.specs.Vectors.{Vector}
use Rattle.ts_base.specs.Encoding.{IsEncoding}
use Rattle.page_types.specs.Numbers.{most_short}
use Rattle.page_types.specs.declared.page.Page.{Page}
use Rattle.page_types.specs.declared.page.Head.{Head}
use Rattle.page_types.specs.declared.page.Name.{Name}
use Rattle.core_state.specs.Log.{Log, Pages, In, Shows, fate}
use Rattle.core_state.specs.Documents.{Has, HasBytes, IsWhole, head_of, doc_at, name_of, page_of, slot_of}
use Rattle.core_state.specs.History.{Document, History, IsHistory, docs}
use Rattle.core_state.specs.Legal.{IsLegal, Pin, Keeps}
use Rattle.core_state.proofs.Moments.Timeline.{cut_all}
use Rattle.gin_opclass.specs.Class.{Meaning}
use Rattle.core_moments.specs.Walk.{Walk}
use Rattle.core_moments.specs.Judging.{HasYes}
use Rattle.core_moments.specs.Law.{FindsAll}
use Rattle.gin_scan.specs.Seen.{IsSeen}
use Rattle.gin_scan.specs.Taking.{item_of, IsLongOf, AreTaken, first_items}
use Rattle.gin_scan.specs.Inner.Heads.{name_at, long_at, Takes, TakesIfSeen, TakesDocuments}
use Rattle.gin_scan.specs.declared.scan_core.ScanCore.{ScanCore}
use Rattle.gin_scan.specs.declared.stage.LongVector.{LongVector}
use Rattle.gin_scan.proofs.SeenDocuments.{seen_document, document_seen}
use Rattle.gin_scan.proofs.TakingMore.{none_more, found_more, waits_more}

-- what is at a place is in the list
pub element_in : {A : Type 0} (x : A) (xs : List A) (k : ℕ) → slice_get xs k ≡ Some x → In x xs
element_in x [] k e = absurd (let z : ⊥ = cc in z)
element_in x (y ∷ ys) zero e = inl (let z : y ≡ x = cc in sym z)
element_in x (y ∷ ys) (suc k) e = inr (element_in x ys k e)

-- the items up to one more
one_more : (kept : List (ℕ × Bool)) (n : ℕ) (k : ℕ × Bool) → slice_get kept n ≡ Some k
    → first_items (suc n) kept ≡ first_items n kept ++ k.0 ∷ []
one_more [] n k e = absurd (let z : ⊥ = cc in z)
one_more (l ∷ ls) zero k e = let z : l ≡ k = cc in ap (λ (m : ℕ × Bool). m.0 ∷ []) z
one_more (l ∷ ls) (suc n) k e = ap (λ (is : List ℕ). l.0 ∷ is) (one_more ls n k e)

-- a vector of few bytes is in its head
short_encodes : (P : Pages) (h : Head) (v : Vector) → IsWhole P h v → h.bytes ≤ most_short → IsEncoding h.vector v
short_encodes P h v w few = by w.bytes w.there w.encodes
  where
    by : (bytes : List ℕ) → HasBytes P h bytes → IsEncoding bytes v → IsEncoding h.vector v
    by bytes (HasBytes.short s) e = e
    by bytes (HasBytes.long more qs chain) e = absurd (omega (arith, more, few))

module _ {Q : Type 0} (M : Meaning Q) (q : Q) (R : Log) (P : Pages) (H : History) (pin : Pin) (legal : IsLegal R)
    (keeps : Keeps R pin) (shown : Shows R P) (history : IsHistory R H) (w : Walk)
    (finds : FindsAll M q H pin.commits w)
    (one_serial : (d e : Document) → In d (docs (take pin.commits H)) → In e (docs (take pin.commits H))
    → d.name.serial ≡ e.name.serial → d ≡ e)
    (one_item : (d e : Document) → In d (docs (take pin.commits H)) → In e (docs (take pin.commits H))
    → item_of d ≡ item_of e → d ≡ e) where
  abbrev Taken : List ℕ → List Name → List LongVector → Type 0
  Taken items ns ws = AreTaken (M.satisfies q) R pin H items ns ws

  -- the document of a head that is seen
  record IsOf (i : ℕ) (h : Head) (D : Document) : Type 0 where
    pub there : In D (docs (take pin.commits H))
    pub name : D.name ≡ name_at i h
    pub item : item_of D ≡ i
    pub whole : IsWhole P h D.vector

  long_of : (i : ℕ) (h : Head) (D : Document) → head_of P i ≡ Some h → IsOf i h D → most_short < h.bytes
      → IsLongOf R pin D (long_at i h)
  long_of i h D at o more = record {
    name = sym o.name;
    at = length R;
    since = keeps.within;
    within = omega arith;
    pages = P;
    shown = subst (λ (S : Log). Shows S P) (sym (cut_all R (length R) refl)) shown;
    doc = doc_at i h.serial;
    named = o.name;
    head = h;
    has = record { at = at; serial = refl };
    whole = o.whole;
    long = more;
    first = refl;
    size = refl;
  }

  taken_by : (items : List ℕ) (i : ℕ) (h : Head) (sure : Bool) (D : Document) (old new : ScanCore)
      → Taken items old.names.items old.long.items → (In i items → ⊥) → head_of P i ≡ Some h → IsOf i h D
      → (IsTrue sure → HasYes M q w i) → Takes (M.satisfies q) i h old new sure
      → Taken (items ++ i ∷ []) new.names.items new.long.items
  taken_by items i h true D old new t fresh at o granted (Takes.sure f) =
      let p : M.satisfies q D.vector = finds.yes D o.there (subst (HasYes M q w) (sym o.item) (granted refl)) in
      moved f (found_more (M.satisfies q) R pin H one_serial one_item items old.names.items old.long.items t D o.there
      (λ m. fresh (subst (λ (j : ℕ). In j items) o.item m)) p)
    where
      moved : (new.names.items ≡ old.names.items ++ name_at i h ∷ []) × (new.long ≡ old.long)
          → Taken (items ++ item_of D ∷ []) (old.names.items ++ D.name ∷ []) old.long.items
          → Taken (items ++ i ∷ []) new.names.items new.long.items
      moved f z =
          subst (λ ls. Taken (items ++ i ∷ []) new.names.items ls.items) (sym f.1)
          (subst (λ (ns : List Name). Taken (items ++ i ∷ []) ns old.long.items)
          (ap (λ (n : Name). old.names.items ++ n ∷ []) o.name ∙ sym f.0)
          (subst (λ (j : ℕ). Taken (items ++ j ∷ []) (old.names.items ++ D.name ∷ []) old.long.items) o.item z))
  taken_by items i h false D old new t fresh at o granted (Takes.long more f) =
      subst (λ ns. Taken (items ++ i ∷ []) ns.items new.long.items) (sym f.0)
      (subst (λ (ls : List LongVector). Taken (items ++ i ∷ []) old.names.items ls) (sym f.1)
      (subst (λ (j : ℕ). Taken (items ++ j ∷ []) old.names.items (old.long.items ++ long_at i h ∷ [])) o.item
      (waits_more (M.satisfies q) R pin H one_serial one_item items old.names.items old.long.items t D (long_at i h)
      o.there (λ m. fresh (subst (λ (j : ℕ). In j items) o.item m)) (long_of i h D at o more))))
  taken_by items i h false D old new t fresh at o granted (Takes.found few tells f) =
      let p : M.satisfies q D.vector = (tells.has D.vector (short_encodes P h D.vector o.whole few)).0 refl in
      subst (λ ls. Taken (items ++ i ∷ []) new.names.items ls.items) (sym f.1)
      (subst (λ (ns : List Name). Taken (items ++ i ∷ []) ns old.long.items)
      (ap (λ (n : Name). old.names.items ++ n ∷ []) o.name ∙ sym f.0)
      (subst (λ (j : ℕ). Taken (items ++ j ∷ []) (old.names.items ++ D.name ∷ []) old.long.items) o.item
      (found_more (M.satisfies q) R pin H one_serial one_item items old.names.items old.long.items t D o.there
      (λ m. fresh (subst (λ (j : ℕ). In j items) o.item m)) p)))
  taken_by items i h false D old new t fresh at o granted (Takes.none few tells e) =
      subst (λ (z : ScanCore). Taken (items ++ i ∷ []) z.names.items z.long.items) (sym e)
      (none_more (M.satisfies q) R pin H one_serial one_item items i old.names.items old.long.items t
      (λ d there same p. not_so (subst (λ (z : Document). M.satisfies q z.vector)
      (one_item d D there o.there (same ∙ sym o.item)) p)))
    where
      not_so : M.satisfies q D.vector → ⊥
      not_so p =
          let f : false ≡ true = (tells.has D.vector (short_encodes P h D.vector o.whole few)).1 p in
          let z : ⊥ = cc in z

  -- one kept item more on the page
  pub take_one : (items : List ℕ) (k : ℕ × Bool) (c : Page) (seen : Bool) (old new : ScanCore)
      → Taken items old.names.items old.long.items → (In k.0 items → ⊥) → c ≡ P (page_of k.0)
      → (IsTrue k.1 → HasYes M q w k.0) → (IsTrue seen ↔ IsSeen (fate R) pin.commits c k.0)
      → TakesIfSeen (M.satisfies q) c k seen old new → Taken (items ++ k.0 ∷ []) new.names.items new.long.items
  take_one items k c false old new t fresh page granted seen takes =
      subst (λ (z : ScanCore). Taken (items ++ k.0 ∷ []) z.names.items z.long.items) (sym takes)
      (none_more (M.satisfies q) R pin H one_serial one_item items k.0 old.names.items old.long.items t
      (λ d there same p. unseen d there same))
    where
      unseen : (d : Document) → In d (docs (take pin.commits H)) → item_of d ≡ k.0 → ⊥
      unseen d there same =
          let f = document_seen R P H pin legal keeps shown history d there in
          let at : head_of P k.0 ≡ Some f.0 = subst (λ (i : ℕ). head_of P i ≡ Some f.0) same f.1 in
          let is : IsSeen (fate R) pin.commits (P (page_of k.0)) k.0 = record { head = f.0; at = at; sees = f.2 } in
          let e : false ≡ true = seen.1 (subst (λ (z : Page). IsSeen (fate R) pin.commits z k.0) (sym page) is) in
          let z : ⊥ = cc in z
  take_one items k c true old new t fresh page granted seen takes =
      let is = seen.0 refl in
      let at = subst (λ (z : Page). Rattle.doc_heap.specs.HeapPages.head_on z (slot_of k.0) ≡ Some is.head) page is.at
      in
      let f = seen_document R P H pin legal keeps shown history k.0 is.head at is.sees in
      let item : item_of f.0 ≡ k.0 = named f.0 is.head f.2 in
      taken_by items k.0 is.head k.1 f.0 old new t fresh at
      (record { there = f.1; name = f.2; item = item; whole = f.3 }) granted (takes is.head is.at).takes
    where
      named : (D : Document) (h : Head) → D.name ≡ name_at k.0 h → item_of D ≡ k.0
      named D h e =
          ap (λ (n : Name). Rattle.core_state.specs.Documents.item_at n.page n.slot) e
          ∙ Rattle.gin_scan.proofs.SeenDocuments.item_back k.0

  -- ── all kept items on the page ──

  rest_of : (k : ℕ × Bool) (c : Page) (seen : Bool) (old new : ScanCore)
      → (IsTrue seen → IsSeen (fate R) pin.commits c k.0) → TakesIfSeen (M.satisfies q) c k seen old new
      → new.kept ≡ old.kept
  rest_of k c false old new is takes = ap (λ (z : ScanCore). z.kept) takes
  rest_of k c true old new is takes =
      let s = is refl in ap (λ (z : ScanCore). z.kept) (takes s.head s.at).rest

  pub take_page : (kept : List (ℕ × Bool)) (c : Page) (from : ℕ) (seen : List Bool) (old new : ScanCore)
      → old.kept.items ≡ kept
      → ((k : ℕ × Bool) (n : ℕ) → slice_get kept n ≡ Some k → In k.0 (first_items n kept) → ⊥)
      → ((k : ℕ × Bool) → In k kept → IsTrue k.1 → HasYes M q w k.0)
      → ((j : ℕ) (k : ℕ × Bool) (b : Bool) → slice_get kept (from + j) ≡ Some k → slice_get seen j ≡ Some b
      → (IsTrue b ↔ IsSeen (fate R) pin.commits c k.0) × (c ≡ P (page_of k.0)))
      → Taken (first_items from kept) old.names.items old.long.items
      → TakesDocuments (M.satisfies q) c from seen old new
      → Taken (first_items (from + length seen) kept) new.names.items new.long.items
  take_page kept c from [] old new same fresh granted told t takes =
      subst (λ (z : ScanCore). Taken (first_items (from + 0) kept) z.names.items z.long.items) (sym takes)
      (subst (λ (n : ℕ). Taken (first_items n kept) old.names.items old.long.items) (omega arith) t)
  take_page kept c from (b ∷ seen) old new same fresh granted told t takes =
      let k = takes.0 in
      let at : slice_get kept from ≡ Some k = subst (λ (ks : List (ℕ × Bool)). slice_get ks from ≡ Some k) same takes.1
      in
      let mid = takes.2.0 in
      let here = told 0 k b (subst (λ (n : ℕ). slice_get kept n ≡ Some k) (omega arith) at) refl in
      let one = take_one (first_items from kept) k c b old mid t (fresh k from at) here.1 (granted k
      (element_in k kept from at))
      here.0 takes.2.1 in
      let kept_mid : mid.kept.items ≡ kept
      = ap (λ z. z.items) (rest_of k c b old mid here.0.0 takes.2.1) ∙ same in
      subst (λ (n : ℕ). Taken (first_items n kept) new.names.items new.long.items) (omega arith)
      (take_page kept c (suc from) seen mid new kept_mid fresh granted
      (λ j l d e f. told (suc j) l d (subst (λ (n : ℕ). slice_get kept n ≡ Some l) (omega arith) e) f)
      (subst (λ (is : List ℕ). Taken is mid.names.items mid.long.items) (sym (one_more kept from k at)) one) takes.2.2)
