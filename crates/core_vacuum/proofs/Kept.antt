-- What a record of the kinds 18 to 21 leaves as it is.
use Rattle.std.proofs.Common.{◌≡◌, ◌≢◌, ◌⊎◌, ℕ, suc, List, [], ◌∷◌, length, refl, sym, ap, ap₂, subst, ◌∙◌}
use Rattle.std.proofs.Common.{inl, inr, arith}
use Rattle.std.specs.Prelude.{Some, None}
use Rattle.ts_base.specs.Keys.{Key}
use Rattle.page_types.specs.Views.{slots_in, slot_at}
use Rattle.page_types.specs.declared.page.Page.{Page}
use Rattle.page_types.specs.declared.page.Head.{Head}
use Rattle.page_types.specs.declared.page.Gone.{Gone}
use Rattle.page_types.specs.declared.page.Body.{Body}
use Rattle.page_types.specs.declared.page.Body.TheVariants as body
use Rattle.page_types.specs.declared.record.Record.{Record}
use Rattle.page_types.specs.declared.record.Kind.{Kind}
use Rattle.page_types.specs.declared.record.Kind.TheVariants as kind
use Rattle.core_state.specs.Log.{Log, Pages, In, Shows, changed, commits}
use Rattle.core_state.specs.Documents.{Doc, Has, IsDead, page_of, slot_of, item_at, head_of, doc_at}
use Rattle.core_state.specs.Index.{Main}
use Rattle.core_state.specs.Changes.{made_with}
use Rattle.core_state.specs.VacuumRules.{MayLeave, IsRemoveItems, IsDropped, IsDropPage, IsFreeSlots}
use Rattle.core_state.specs.Legal.{IsLegal}
use Rattle.core_state.specs.RecordKeeps.{SameRows, RecordKeeps}
use Rattle.core_state.proofs.NeverAgain.{one_doc}
use Rattle.core_state.proofs.Newest.{legal_less}
use Rattle.core_state.proofs.PageLists.{same_or_not, of_one, one_page, two_pages}
use Rattle.core_state.proofs.RulesByKind.{kind_rule}
use Rattle.core_state.proofs.LawsHold.{records, steady}
use Rattle.core_vacuum.specs.Keeping.{IsVacuum, VacuumHolds}
use Rattle.core_vacuum.proofs.Turns.{newest_rule, each_turns}
use Rattle.core_vacuum.proofs.Ways.{named_on, named_back, way_on, way_back, item_way_on}

some_one : (h k : Head) → Some h ≡ Some k → h ≡ k
some_one h k e = cc

dropped_serial : (head : Head) (page right : ℕ) (b : Body) (g : Gone) (then : Head) → IsDropped head page right b g then
    → then.serial ≡ head.serial
dropped_serial head page right _ _ _ (IsDropped.overflow bytes e) = refl
dropped_serial head page right _ _ _ (IsDropped.private rows e) = refl

item_is : (i : ℕ) → item_at (page_of i) (slot_of i) ≡ i
item_is i = omega arith

module _ (R : Log) (r : Record) (P Q : Pages) (some : R ≢ []) (legal : IsLegal (r ∷ R)) (shown : Shows R P)
    (shown' : Shows (r ∷ R) Q) where
  keeps : RecordKeeps R P Q r
  keeps = records R r P Q some legal shown shown'

  abbrev since : ℕ
  since = suc (length R)

  -- the document that may leave, with the head that it has then
  module _ (rows : SameRows P Q) (floor i : ℕ) (m : MayLeave R P floor i) where
    leave_on : (h : Head) → Has Q m.doc h → MayLeave (r ∷ R) Q floor i
    leave_on h has = record {
      doc = m.doc;
      head = h;
      item = m.item;
      has = has;
      dead = (steady R (r ∷ []) (r ∷ R) P Q refl some (legal_less r R legal) legal shown shown').ends_stay.dead_stays
          m.doc floor m.dead;
      no_row = λ k. m.no_row (record { row = k.row; linked = (rows k.row).1 k.linked; item = k.item });
    }

    leave_same : head_of Q m.doc.item ≡ head_of P m.doc.item → MayLeave (r ∷ R) Q floor i
    leave_same e = leave_on m.head (record { at = e ∙ m.has.at; serial = m.has.serial })

  head_same : (d : Doc) (h : Head) → Has P d h → head_of Q d.item ≡ head_of P d.item → Has Q d h
  head_same d h has e = record { at = e ∙ has.at; serial = has.serial }

  -- what each kind adds to what all have
  record Parts : Type 0 where
    rows : SameRows P Q
    pairs : (k : Key) (i : ℕ) → Main P k i → Main Q k i ⊎ MayLeave R P (commits R) i
    no_pair : (k : Key) (i : ℕ) → Main Q k i → Main P k i
    heads : (d : Doc) (h : Head) → Has P d h → (IsDead R (commits R) d → ⊥) → Has Q d h
    leave : (floor i : ℕ) → MayLeave R P floor i → MayLeave (r ∷ R) Q floor i ⊎ (head_of Q i ≡ None)

  removing : r.kind ≡ kind.RemoveItems → Parts
  removing e =
      let k = keeps.removing e in
      let x : IsRemoveItems R P Q r (commits R) =
      kind_rule R P Q r (commits R) since kind.RemoveItems e (newest_rule R P Q r legal shown shown') in
      record {
        rows = k.rows;
        pairs = λ key i m. elim (k.main (commits R) x key i m) [
          | inl on ↦ inl on
          | inr out ↦ inr (x.rest i out)
        ];
        no_pair = k.no_more;
        heads = λ d h has alive. head_same d h has (k.heads d.item);
        leave = λ floor i m. inl (leave_same k.rows floor i m (k.heads m.doc.item));
      }

  deleting : r.kind ≡ kind.DeletePost → Parts
  deleting e =
      let k = keeps.deleting e in
      record {
        rows = k.rows;
        pairs = λ key i m. inl ((k.main key i).0 m);
        no_pair = λ key i. (k.main key i).1;
        heads = λ d h has alive. head_same d h has (k.heads d.item);
        leave = λ floor i m. inl (leave_same k.rows floor i m (k.heads m.doc.item));
      }

  module _ (item serial : ℕ) (e : r.kind ≡ kind.DropPage item serial) where
    drop_rule : IsDropPage R P Q r (commits R)
    drop_rule = kind_rule R P Q r (commits R) since (kind.DropPage item serial) e
        (newest_rule R P Q r legal shown shown')

    abbrev d : Doc
    d = drop_rule.here.doc

    item_same : item ≡ d.item
    item_same = let f : kind.DropPage item serial ≡ kind.DropPage d.item d.serial = sym e ∙ drop_rule.here.kind_is in cc

    -- the head before the record, and after it
    was_head : Has P d drop_rule.here.head
    was_head =
        let h = drop_rule.here in
        let c = h.head_after in
        let was = two_pages P (changed r) (page_of d.item) h.page h.old h.was h.pages h.before_is in
        record {
          at = ap (λ (p : Page). slot_at (slots_in p.body) (slot_of d.item)) was.0
              ∙ ap (λ (b : Body). slot_at (slots_in b) (slot_of d.item)) c.before ∙ c.head;
          serial = c.serial;
        }

    is_head : head_of Q d.item ≡ Some drop_rule.here.head_then
    is_head =
        let h = drop_rule.here in
        let c = h.head_after in
        let is = two_pages Q (changed r) (page_of d.item) h.page h.heap_then
        (made_with r h.was.right (body.Deleted h.content)) h.pages h.after_is in
        ap (λ (p : Page). slot_at (slots_in p.body) (slot_of d.item)) is.0
        ∙ ap (λ (p : Page). slot_at (slots_in p.body) (slot_of d.item)) c.after ∙ c.put.put

    then_serial : drop_rule.here.head_then.serial ≡ d.serial
    then_serial =
        let h = drop_rule.here in
        dropped_serial h.head h.page h.was.right h.was.body h.content h.head_then h.dropped ∙ h.head_after.serial

    dropping : Parts
    dropping =
        let k = keeps.dropping item serial e in
        record {
          rows = k.rows;
          pairs = λ key i m. inl ((k.main key i).0 m);
          no_pair = λ key i. (k.main key i).1;
          heads = λ c h has alive. elim (same_or_not item c.item) [
            | inl s ↦ absurd (alive (subst (IsDead R (commits R))
                (one_doc P d c drop_rule.here.head h was_head has (sym item_same ∙ sym s)) drop_rule.rest.dead))
            | inr off ↦ head_same c h has (k.heads c.item off)
          ];
          leave = λ floor i m. elim (same_or_not item m.doc.item) [
            | inl s ↦
                let one : d ≡ m.doc = one_doc P d m.doc drop_rule.here.head m.head was_head m.has
                (sym item_same ∙ sym s) in
                inl (leave_on k.rows floor i m drop_rule.here.head_then
                (subst (λ (c : Doc). Has Q c drop_rule.here.head_then) one
                (record { at = is_head; serial = then_serial })))
            | inr off ↦ inl (leave_same k.rows floor i m (k.heads m.doc.item off))
          ];
        }

  module _ (e : r.kind ≡ kind.FreeSlots) where
    free_rule : IsFreeSlots R P Q r (commits R)
    free_rule = kind_rule R P Q r (commits R) since kind.FreeSlots e (newest_rule R P Q r legal shown shown')

    -- a document whose slot becomes free is dead
    freed_dead : (c : Doc) (h : Head) → Has P c h → In (page_of c.item) (changed r) → head_of Q c.item ≡ None
        → IsDead R (commits R) c
    freed_dead c h has on none =
        let x = free_rule.here in
        let then = made_with r x.old.right (body.Heap x.new_slots) in
        let was = one_page P (changed r) x.page x.old x.pages x.before_is in
        let is = one_page Q (changed r) x.page then x.pages x.after_is in
        let page : page_of c.item ≡ x.page = page_one (changed r) x.page (page_of c.item) x.pages on in
        let slot = slot_of c.item in
        let old : slot_at x.slots slot ≡ Some h =
        sym (ap (λ (p : ℕ). slot_at (slots_in (P p).body) slot) page
        ∙ ap (λ (p : Page). slot_at (slots_in p.body) slot) was ∙ ap (λ (b : Body). slot_at (slots_in b) slot) x.was)
        ∙ has.at in
        let new : slot_at x.new_slots slot ≡ None =
        sym (ap (λ (p : ℕ). slot_at (slots_in (Q p).body) slot) page
        ∙ ap (λ (p : Page). slot_at (slots_in p.body) slot) is) ∙ none in
        let item : item_at x.page slot ≡ c.item = ap (λ (p : ℕ). item_at p slot) (sym page) ∙ item_is c.item in
        subst (IsDead R (commits R)) (ap₂ doc_at item has.serial) (free_rule.rest slot h old new).dead
      where
        page_one : (ps : List ℕ) (a p : ℕ) → ps ≡ a ∷ [] → In p ps → p ≡ a
        page_one ps a p f i = of_one (λ (q : ℕ). q ≡ a) ps a f refl p i

    freeing : Parts
    freeing =
        let k = keeps.freeing e in
        record {
          rows = k.rows;
          pairs = λ key i m. inl ((k.main key i).0 m);
          no_pair = λ key i. (k.main key i).1;
          heads = λ c h has alive. elim (k.heads c.item) [
            | inl s ↦ head_same c h has s
            | inr f ↦ absurd (alive (freed_dead c h has f.0 f.1))
          ];
          leave = λ floor i m. elim (k.heads m.doc.item) [
            | inl s ↦ inl (leave_same k.rows floor i m s)
            | inr f ↦ inr (subst (λ (z : ℕ). head_of Q z ≡ None) m.item f.1)
          ];
        }

  by_kind : (kd : Kind) → r.kind ≡ kd → IsVacuum kd → Parts
  by_kind kind.Create is w = absurd (omega (arith, w.0))
  by_kind kind.Begin is w = absurd (omega (arith, w.0))
  by_kind (kind.Commit c) is w = absurd (omega (arith, w.0))
  by_kind kind.Abort is w = absurd (omega (arith, w.0))
  by_kind (kind.Checkpoint redo) is w = absurd (omega (arith, w.0))
  by_kind (kind.PlaceHead i s) is w = absurd (omega (arith, w.0))
  by_kind (kind.PutOverflow i s) is w = absurd (omega (arith, w.0))
  by_kind (kind.MarkDeleted i s) is w = absurd (omega (arith, w.0))
  by_kind (kind.PutPending i s) is w = absurd (omega (arith, w.0))
  by_kind (kind.AddRow i s) is w = absurd (omega (arith, w.0))
  by_kind (kind.LinkPending i s) is w = absurd (omega (arith, w.0))
  by_kind kind.Shift is w = absurd (omega (arith, w.0))
  by_kind kind.AddItems is w = absurd (omega (arith, w.0))
  by_kind kind.MakeTree is w = absurd (omega (arith, w.0))
  by_kind kind.AddPostings is w = absurd (omega (arith, w.0))
  by_kind kind.GrowRoot is w = absurd (omega (arith, w.0))
  by_kind kind.Split is w = absurd (omega (arith, w.0))
  by_kind kind.RemoveItems is w = removing is
  by_kind kind.DeletePost is w = deleting is
  by_kind (kind.DropPage i s) is w = dropping i s is
  by_kind kind.FreeSlots is w = freeing is

pub vacuum_holds : VacuumHolds
vacuum_holds R r P Q some legal shown shown' w =
    let turn = each_turns R P Q r legal shown shown' w in
    let x = by_kind R r P Q some legal shown shown' r.kind refl w in
    record {
      rows = x.rows;
      pairs = x.pairs;
      no_pair = x.no_pair;
      names = λ k root. (named_on P Q turn k root, named_back P Q turn k root);
      ways = λ k p q. (way_on P Q turn k p q, way_back P Q turn k p q);
      item_ways = item_way_on P Q turn;
      heads = x.heads;
      leave = x.leave;
    }
