-- A head that a snapshot sees is that of a document of the snapshot, and each such document has one.
use Rattle.std.proofs.Common.{◌≡◌, ℕ, Some, length, take, refl, sym, ap, subst, ◌∙◌, arith}
use Rattle.ts_base.specs.Vectors.{Vector}
use Rattle.page_types.specs.declared.page.Head.{Head}
use Rattle.page_types.specs.declared.page.Name.{Name}
use Rattle.core_state.specs.Log.{Log, Pages, In, Shows, fate}
use Rattle.core_state.specs.Documents.{Doc, Has, IsWhole, head_of, name_of, doc_at, item_at, page_of, slot_of}
use Rattle.core_state.specs.History.{Document, History, IsHistory, IsStored, docs}
use Rattle.core_state.specs.Legal.{IsLegal, Pin, Keeps}
use Rattle.core_state.specs.Standing.{DocumentsStand, Sees}
use Rattle.core_state.proofs.Histories.{whole_one}
use Rattle.core_state.proofs.LawsHold.{documents}
use Rattle.core_state.proofs.Moments.Timeline.{cut_all}
use Rattle.gin_scan.specs.Inner.Heads.{name_at}
use Rattle.gin_scan.specs.Taking.{item_of}

-- an item is told by its page and its slot
pub item_back : (i : ℕ) → item_at (page_of i) (slot_of i) ≡ i
item_back i = grind arith

item_same : (i j : ℕ) → page_of i ≡ page_of j → slot_of i ≡ slot_of j → i ≡ j
item_same i j e f =
    sym (item_back i) ∙ ap (λ (p : ℕ). item_at p (slot_of i)) e ∙ ap (λ (s : ℕ). item_at (page_of j) s) f ∙ item_back j

some_same : {A : Type 0} (a b : A) → Some a ≡ Some b → a ≡ b
some_same a b e = cc

pub doc_same : (d e : Doc) → name_of d ≡ name_of e → d ≡ e
doc_same d e f =
    let item = item_same d.item e.item (ap (λ (n : Name). n.page) f) (ap (λ (n : Name). n.slot) f) in
    ap (λ (i : ℕ). record { item = i; serial = d.serial }) item
    ∙ ap (λ (s : ℕ). doc_at e.item s) (ap (λ (n : Name). n.serial) f)

document_same : (D E : Document) → D.name ≡ E.name → D.vector ≡ E.vector → D ≡ E
document_same D E e f =
    ap (λ (n : Name). record { name = n; vector = D.vector }) e
    ∙ ap (λ (v : Vector). record { name = E.name; vector = v }) f

module _ (R : Log) (P : Pages) (H : History) (pin : Pin) (legal : IsLegal R) (keeps : Keeps R pin)
    (shown : Shows R P) (history : IsHistory R H) where
  stand : DocumentsStand R P
  stand = documents R P legal shown

  stored : (D : Document) → In D (docs (take pin.commits H)) → IsStored P D
  stored D there =
      stand.snapshot_stays pin keeps H D (length R) P history there keeps.within (omega arith)
      (subst (λ (S : Log). Shows S P) (sym (cut_all R (length R) refl)) shown)

  -- the document of a head that is seen
  pub seen_document : (i : ℕ) (h : Head) → head_of P i ≡ Some h → Sees (fate R) pin.commits h
      → (D : Document) × In D (docs (take pin.commits H)) × (D.name ≡ name_at i h) × IsWhole P h D.vector
  seen_document i h at sees =
      let f = (stand.seen i h H pin.commits at history).1 sees in
      let s = stored f.0 f.1 in
      let doc : s.doc ≡ doc_at i h.serial = doc_same s.doc (doc_at i h.serial) (sym s.name ∙ f.2) in
      let has : Has P (doc_at i h.serial) s.head = subst (λ (d : Doc). Has P d s.head) doc s.has in
      let head : s.head ≡ h = some_same s.head h (sym has.at ∙ at) in
      (f.0, f.1, f.2, subst (λ (k : Head). IsWhole P k f.0.vector) head s.content)

  -- the head of a document
  pub document_seen : (D : Document) → In D (docs (take pin.commits H))
      → (h : Head) × (head_of P (item_of D) ≡ Some h) × Sees (fate R) pin.commits h
      × (D.name ≡ name_at (item_of D) h) × IsWhole P h D.vector
  document_seen D there =
      let s = stored D there in
      let item : item_of D ≡ s.doc.item
      = ap (λ (n : Name). item_at n.page n.slot) s.name ∙ item_back s.doc.item in
      let at : head_of P (item_of D) ≡ Some s.head = ap (head_of P) item ∙ s.has.at in
      let doc : s.doc ≡ doc_at (item_of D) s.head.serial
      = ap (λ (i : ℕ). record { item = i; serial = s.doc.serial }) (sym item)
      ∙ ap (λ (n : ℕ). doc_at (item_of D) n) (sym s.has.serial) in
      let name : D.name ≡ name_at (item_of D) s.head = s.name ∙ ap name_of doc in
      (s.head, at, (stand.seen (item_of D) s.head H pin.commits at history).0 (D, there, name), name, s.content)

  -- two documents of the snapshot with one item are one
  pub one_item : (D E : Document) → In D (docs (take pin.commits H)) → In E (docs (take pin.commits H))
      → item_of D ≡ item_of E → D ≡ E
  one_item D E there here same =
      let d = document_seen D there in
      let e = document_seen E here in
      let head : d.0 ≡ e.0 = some_same d.0 e.0 (sym d.1 ∙ ap (head_of P) same ∙ e.1) in
      let name : D.name ≡ E.name
      = d.3 ∙ ap (λ (i : ℕ). name_at i d.0) same ∙ ap (λ (h : Head). name_at (item_of E) h) head ∙ sym e.3 in
      let vector : D.vector ≡ E.vector
      = whole_one P e.0 D.vector E.vector (subst (λ (h : Head). IsWhole P h D.vector) head d.4) e.4 in
      document_same D E name vector
