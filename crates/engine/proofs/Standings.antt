-- How the head of a name is to a snapshot, as the state was asked of its xids.
use Rattle.std.proofs.Common.{◌≡◌, ◌≢◌, ◌⊎◌, ℕ, sym, ap, subst, ◌∙◌, inl, inr, ⊎_elim}
use Rattle.std.specs.Prelude.{Option, Some}
use Rattle.page_types.specs.declared.page.Page.{Page}
use Rattle.page_types.specs.declared.page.Head.{Head}
use Rattle.page_types.specs.declared.page.Name.{Name}
use Rattle.page_types.specs.declared.slots.HeadFields.{HeadFields}
use Rattle.core_state.specs.Standing.{Sees}
use Rattle.core_state.specs.States.{StateValue, fate_of}
use Rattle.doc_heap.specs.HeapPages.{head_on}
use Rattle.engine.specs.Causes.{IsPastOf}
use Rattle.engine.specs.Inner.Asked.{HasXids, head_answer}
use Rattle.engine.specs.Inner.Changing.{HasFields, MayBeMarked, MayNotBeMarked}
use Rattle.engine.specs.declared.asks.HeadStanding.{HeadStanding}
use Rattle.engine.specs.declared.asks.Standing.{Standing}
use Rattle.engine.specs.declared.asks.Standing.TheVariants.{Unseen, Seen, Past}
use Rattle.engine.specs.declared.error.DbError.{DbError}
use Rattle.engine.specs.declared.error.DbError.TheVariants.{NoDocument, Conflict}

-- what is asked of a head with these fields
abbrev pub ask_of : HeadFields → ℕ → HeadStanding
ask_of f n = record { inserted_by = f.inserted_by; deleted_by = f.deleted_by; commits = n }

head_one : (a b : Head) (o : Option Head) → o ≡ Some a → o ≡ Some b → a ≡ b
head_one a b o p q = let e : Some a ≡ Some b = sym p ∙ q in cc

module _ (s : StateValue) (n x floor since : ℕ) (name : Name) (page : Page) (f : HeadFields)
    (w : HasFields page name f) where
  xids : HasXids (ask_of f n) w.head
  xids = record {
    inserted = ap (λ (h : Head). h.inserted_by) w.head_is;
    deleted = ap (λ (h : Head). h.deleted_by) w.head_is;
  }

  may_seen : head_answer (ask_of f n) s floor since Seen → MayBeMarked s n x name page
  may_seen a = record {
    head = w.head;
    there = w.there;
    serial = w.serial;
    sees = a.0 w.head xids;
    alone = λ some other past. a.1 (λ e. some (xids.deleted ∙ e)) (subst (IsPastOf s n) xids.deleted past);
  }

  may_own : head_answer (ask_of f n) s floor since (Past x) → MayBeMarked s n x name page
  may_own a = record {
    head = w.head;
    there = w.there;
    serial = w.serial;
    sees = a.0 w.head xids;
    alone = λ some other past. other (xids.deleted ∙ sym a.1);
  }

  -- it may be marked
  pub may_be : (t : Standing) → head_answer (ask_of f n) s floor since t → (t ≡ Seen) ⊎ (t ≡ Past x)
      → MayBeMarked s n x name page
  may_be t a which = ⊎_elim
      (λ (e : t ≡ Seen). may_seen (subst (head_answer (ask_of f n) s floor since) e a))
      (λ (e : t ≡ Past x). may_own (subst (head_answer (ask_of f n) s floor since) e a))
      which

  not_seen : head_answer (ask_of f n) s floor since Unseen → MayNotBeMarked s n x name page NoDocument
  not_seen a h there serial sees =
      let same : w.head ≡ h = head_one w.head h (head_on page name.slot) w.there there in
      a w.head xids (subst (Sees (fate_of s) n) (sym same) sees)

  conflicts : (y : ℕ) → head_answer (ask_of f n) s floor since (Past y) → y ≢ x
      → MayNotBeMarked s n x name page (Conflict y)
  conflicts y a other = record {
    head = w.head;
    there = w.there;
    serial = w.serial;
    sees = a.0 w.head xids;
    marked = xids.deleted ∙ sym a.1;
    some = a.2;
    other = other;
    past = a.3;
  }

  -- it may not
  pub may_not : (t : Standing) (e : DbError) → head_answer (ask_of f n) s floor since t
      → ((t ≡ Unseen) × (e ≡ NoDocument)) ⊎ ((y : ℕ) × (t ≡ Past y) × (y ≢ x) × (e ≡ Conflict y))
      → MayNotBeMarked s n x name page e
  may_not t e a (inl u) =
      subst (MayNotBeMarked s n x name page) (sym u.1) (not_seen (subst (head_answer (ask_of f n) s floor since) u.0 a))
  may_not t e a (inr p) =
      subst (MayNotBeMarked s n x name page) (sym p.3)
      (conflicts p.0 (subst (head_answer (ask_of f n) s floor since) p.1 a) p.2)

-- a head of another serial is none
pub no_fields : (s : StateValue) (n x : ℕ) (name : Name) (page : Page)
    → ((h : Head) → head_on page name.slot ≡ Some h → h.serial ≢ name.serial)
    → MayNotBeMarked s n x name page NoDocument
no_fields s n x name page none h there serial sees = none h there serial
