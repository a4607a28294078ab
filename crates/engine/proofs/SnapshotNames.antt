-- The names that a state lists are those of the documents of a snapshot.
use Rattle.std.proofs.Common.{◌≡◌, ◌<◌, ◌≤◌, ℕ, refl, sym, ap, subst, ◌∙◌, inl, inr, arith, take}
use Rattle.std.specs.Prelude.{Option, Some, None}
use Rattle.page_types.specs.declared.page.Head.{Head}
use Rattle.core_state.specs.Log.{Log, Pages, In, Shows, fate}
use Rattle.core_state.specs.Documents.{Doc, IsDead, name_of, doc_at, head_of, placed, marked}
use Rattle.core_state.specs.Documents.IsDead.{insert_aborted, delete_counted}
use Rattle.core_state.specs.History.{Document, History, IsHistory, docs}
use Rattle.core_state.specs.Legal.{IsLegal, Pin, Keeps}
use Rattle.core_state.specs.Lives.{IsInsertedBy, IsDeletedBy, IsDeletedIfAny, IsLife}
use Rattle.core_state.specs.Standing.{DocumentsStand, IsThere, Sees, IsInSnapshot}
use Rattle.core_state.specs.States.{StateValue, StateTells, life_of}
use Rattle.core_state.specs.declared.lives.Life.{Life}
use Rattle.core_state.specs.declared.answers.Fate.TheVariants.{Unused, Aborted, Committed}
use Rattle.core_state.proofs.LawsHold.{documents}
use Rattle.core_state.proofs.RunningOnes.{same_or_other, below_or_past}
use Rattle.core_state.proofs.PlacedOnce.{placed_once, one_named, zero_unused, deleted_once, inserted_once}
use Rattle.engine.specs.Causes.{IsListedIn}
use Rattle.engine.specs.Finding.{Name}

-- ── of a legal log, under a snapshot that it keeps ──

module _ (R : Log) (P : Pages) (H : History) (s : StateValue) (pin : Pin) (legal : IsLegal R) (shown : Shows R P)
    (history : IsHistory R H) (told : StateTells R s) (keeps : Keeps R pin) where
  DS : DocumentsStand R P
  DS = documents R P legal shown

  -- a document that is there: who placed it, and what its head says
  pub record Placed (name : Name) : Type 0 where
    pub doc : Doc
    pub named : name_of doc ≡ name
    pub head : Head
    pub at : head_of P doc.item ≡ Some head
    pub serial : head.serial ≡ doc.serial
    pub placed_it : In doc (placed R head.inserted_by)

  doc_again : (d : Doc) (k : ℕ) → k ≡ d.serial → doc_at d.item k ≡ d
  doc_again d k e = ap (doc_at d.item) e

  there_placed : (d : Document) → In d (docs (take pin.commits H)) → Placed d.name
  there_placed d i =
      let st = DS.history_under pin keeps H pin.commits d history (omega arith) i in
      let same = doc_again st.doc st.head.serial st.has.serial in
      record {
        doc = st.doc;
        named = sym st.name;
        head = st.head;
        at = st.has.at;
        serial = st.has.serial;
        placed_it = subst (λ (c : Doc). In c (placed R st.head.inserted_by)) same
            (DS.inserted st.doc.item st.head st.has.at);
      }

  sees_of : (d : Document) → In d (docs (take pin.commits H)) → (w : Placed d.name)
      → Sees (fate R) pin.commits w.head
  sees_of d i w =
      let same = doc_again w.doc w.head.serial w.serial in
      (DS.seen w.doc.item w.head H pin.commits w.at history).0 (d, i, sym w.named ∙ ap name_of (sym same))

  -- a life of the state
  life_told : (name : Name) (o : Option Life) → life_of s name ≡ o → IsLife R name o
  life_told name o is = subst (IsLife R name) is (told.lives name)

  no_end : (name : Name) (o : Option ℕ) → IsDeletedIfAny R name o → ((m : ℕ) → o ≡ Some m → pin.commits < m) → (k : ℕ)
      → k ≤ pin.commits → IsDeletedBy R name k → ⊥
  no_end name None none past k le by = none k by
  no_end name (Some m) ended past k le by =
      omega (arith, past m refl, le, deleted_once R name m k legal ended by)

  end_past : (name : Name) (w : Placed name) (sees : Sees (fate R) pin.commits w.head) (o : Option ℕ)
      → IsDeletedIfAny R name o → (m : ℕ) → o ≡ Some m → pin.commits < m
  end_past name w sees None ended m is = absurd (let z : ⊥ = cc in z)
  end_past name w sees (Some k) ended m is =
      let same : k ≡ m = cc in
      let doc : ended.doc ≡ w.doc = one_named ended.doc w.doc (ended.named ∙ sym w.named) in
      let here : In (doc_at w.doc.item w.head.serial) (marked R ended.xid) =
      subst (λ (c : Doc). In c (marked R ended.xid)) (doc ∙ sym (doc_again w.doc w.head.serial w.serial))
      ended.marked_it in
      elim (same_or_other ended.xid w.head.deleted_by) [
        | inl e ↦ elim (below_or_past pin.commits m) [
          | inl lt ↦ lt
          | inr le ↦ absurd (sees.not_deleted m (ap (fate R) (sym e) ∙ ended.committed ∙ ap Committed same) le)
        ]
        | inr off ↦
            let aborted = DS.others_aborted w.doc.item w.head ended.xid w.at here off in
            let z : Committed k ≡ Aborted = sym ended.committed ∙ aborted in
            absurd (let x : ⊥ = cc in x)
      ]

  -- what is there is listed
  pub there_listed : (d : Document) → In d (docs (take pin.commits H)) → IsListedIn s pin.commits d.name
  there_listed d i = by (life_of s d.name) refl
    where
      w : Placed d.name
      w = there_placed d i

      sees : Sees (fate R) pin.commits w.head
      sees = sees_of d i w

      inserted : IsInsertedBy R d.name sees.number
      inserted = record {
        xid = w.head.inserted_by;
        doc = w.doc;
        named = w.named;
        placed_it = w.placed_it;
        committed = sees.inserted;
      }

      by : (o : Option Life) → life_of s d.name ≡ o → IsListedIn s pin.commits d.name
      by None is = absurd (life_told d.name None is sees.number inserted)
      by (Some life) is =
          let l = life_told d.name (Some life) is in
          record {
            life = life;
            is = is;
            inserted = omega (arith, inserted_once R d.name life.inserted sees.number legal l.0 inserted, sees.within);
            not_deleted = end_past d.name w sees life.deleted l.1;
          }

  -- what is listed is there
  pub listed_there : (name : Name) → IsListedIn s pin.commits name → IsInSnapshot H pin.commits name
  listed_there name l =
      let life = life_told name (Some l.life) l.is in
      let w = life.0 in
      let ends : (k : ℕ) → k ≤ pin.commits → IsDeletedBy R name k → ⊥ = no_end name l.life.deleted life.1 l.not_deleted
      in
      let there : IsThere R pin.commits w.doc = record {
        xid = w.xid;
        number = l.life.inserted;
        placed_by = w.placed_it;
        committed = w.committed;
        alive = alive name l.life.inserted w ends;
      } in
      let has = ((DS.there_under pin keeps).whole w.doc there).1 in
      let head = has.0 in
      let at = has.1.at in
      let same = doc_again w.doc head.serial has.1.serial in
      let one = placed_once R head.inserted_by w.xid w.doc w.doc legal.valid
      (subst (λ (c : Doc). In c (placed R head.inserted_by)) same (DS.inserted w.doc.item head at)) w.placed_it refl in
      let sees : Sees (fate R) pin.commits head = record {
        number = l.life.inserted;
        inserted = ap (fate R) one.0 ∙ w.committed;
        within = l.inserted;
        not_deleted = λ m c le. unended name w.doc w.named head at same ends m c le;
      } in
      let in_snapshot = (DS.seen w.doc.item head H pin.commits at history).1 sees in
      (in_snapshot.0, in_snapshot.1, in_snapshot.2 ∙ ap name_of same ∙ w.named)
    where
      alive : (name : Name) (number : ℕ) (w : IsInsertedBy R name number)
          → ((k : ℕ) → k ≤ pin.commits → IsDeletedBy R name k → ⊥) → IsDead R pin.commits w.doc → ⊥
      alive name number w ends (insert_aborted x a i) =
          let one = placed_once R x w.xid w.doc w.doc legal.valid i w.placed_it refl in
          let z : Aborted ≡ Committed number = sym a ∙ ap (fate R) one.0 ∙ w.committed in
          (let y : ⊥ = cc in y)
      alive name number w ends (delete_counted x k c le i) =
          ends k le (record { xid = x; doc = w.doc; named = w.named; marked_it = i; committed = c })

      unended : (name : Name) (d : Doc) → name_of d ≡ name → (head : Head) → head_of P d.item ≡ Some head
          → doc_at d.item head.serial ≡ d → ((k : ℕ) → k ≤ pin.commits → IsDeletedBy R name k → ⊥) → (m : ℕ)
          → fate R head.deleted_by ≡ Committed m → m ≤ pin.commits → ⊥
      unended name d named head at same ends m c le = elim (DS.deleted d.item head at) [
        | inl none ↦
            let z : Unused ≡ Committed m = sym (zero_unused R legal) ∙ ap (fate R) (sym none) ∙ c in
            (let y : ⊥ = cc in y)
        | inr i ↦ ends m le (record {
          xid = head.deleted_by;
          doc = d;
          named = named;
          marked_it = subst (λ (x : Doc). In x (marked R head.deleted_by)) same i;
          committed = c;
        })
      ]
