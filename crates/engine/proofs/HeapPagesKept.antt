-- The old heap pages that a head is tried on are heap pages of the log.
use Rattle.std.proofs.Common.{◌≡◌, ◌⊎◌, ℕ, suc, Bool, true, false, cond, ◌==◌, List, [], ◌∷◌, ◌++◌, ◌+◌}
use Rattle.std.proofs.Common.{length, refl, sym, ap, subst, ◌∙◌, inl, inr, arith}
use Rattle.std.specs.Prelude.{Option, Some, None, ◌&&◌, nat_lt, if◌then◌else◌, max, ⊤}
use Rattle.disk_trait.specs.declared.device.Disk.{Ghosts as Disk}
use Rattle.page_types.specs.declared.record.Record.{Record}
use Rattle.page_types.specs.declared.record.Kind.{Kind}
use Rattle.page_types.specs.declared.record.Kind.TheVariants as kind
use Rattle.core_state.specs.Log.{Log, In, changed, xid_bound}
use Rattle.core_state.specs.Documents.{Doc, doc_at, page_of}
use Rattle.core_state.specs.States as states
use Rattle.core_state.specs.States.{StateValue, heap_pages, with_first, with_pages, with_page, higher, stepped, step_of}
use Rattle.core_state.specs.States.{noted, begun, committed, aborted, ended_all, placed_head, marked_head, transaction}
use Rattle.core_state.specs.States.{last_serial}
use Rattle.core_state.specs.declared.transactions.Transaction.{Transaction}
use Rattle.buffer_frames.specs.Frames.{Stands}
use Rattle.buffer_frames.specs.Journals.{after_owed, owed_abort}
use Rattle.buffer_frames.specs.Opening.{HasStarted}
use Rattle.engine.specs.Db.{DbValue, state_of, state_then}
use Rattle.engine.specs.Going.{Goes, stays, nothing, one}

-- the heap pages that a head is tried on are among those of the state
abbrev pub KnowsHeaps : StateValue → Type 0
KnowsHeaps s = (p : ℕ) → In p (heap_pages s) → In p s.heaps

-- so is the highest
abbrev pub KnowsHighest : StateValue → Type 0
KnowsHighest s = (p : ℕ) → s.highest ≡ Some p → In p s.heaps

-- it frees no slots
abbrev pub NotFreeing : Kind → Type 0
NotFreeing kind.FreeSlots = ⊥
NotFreeing k = ⊤

abbrev pub AreNotFreeing : List Record → Type 0
AreNotFreeing [] = ⊤
AreNotFreeing (r ∷ rs) = NotFreeing r.kind × AreNotFreeing rs

first_or : (o : Option ℕ) (ps : List ℕ) (p : ℕ) → In p (with_first o ps) → (o ≡ Some p) ⊎ In p ps
first_or None ps p i = inr i
first_or (Some q) ps p (inl e) = inl (ap Some (sym e))
first_or (Some q) ps p (inr i) = inr i

or_behind : (o : Option ℕ) (ps : List ℕ) (p : ℕ) → In p ps → In p (with_first o ps)
or_behind None ps p i = i
or_behind (Some q) ps p i = inr i

by_if : (Q : StateValue → Type 0) (b : Bool) (s t : StateValue) → Q s → Q t → Q (if b then s else t)
by_if Q true s t q r = q
by_if Q false s t q r = r

-- ── a page in a rising list ──

put_in : (p q : ℕ) (qs rest : List ℕ) (a b : Bool) → nat_lt p q ≡ a → nat_lt q p ≡ b → In p rest
    → In p (if a then p ∷ q ∷ qs else (if b then q ∷ rest else q ∷ qs))
put_in p q qs rest true b e f i = inl refl
put_in p q qs rest false true e f i = inr i
put_in p q qs rest false false e f i = inl (grind (arith, e, f))

in_with : (p : ℕ) (qs : List ℕ) → In p (with_page p qs)
in_with p [] = inl refl
in_with p (q ∷ qs) = put_in p q qs (with_page p qs) (nat_lt p q) (nat_lt q p) refl refl (in_with p qs)

kept_first : (p q r : ℕ) (qs rest : List ℕ) (a b : Bool) → r ≡ q
    → In r (if a then p ∷ q ∷ qs else (if b then q ∷ rest else q ∷ qs))
kept_first p q r qs rest true b e = inr (inl e)
kept_first p q r qs rest false true e = inl e
kept_first p q r qs rest false false e = inl e

kept_rest : (p q r : ℕ) (qs rest : List ℕ) (a b : Bool) → In r qs → In r rest
    → In r (if a then p ∷ q ∷ qs else (if b then q ∷ rest else q ∷ qs))
kept_rest p q r qs rest true b i j = inr (inr i)
kept_rest p q r qs rest false true i j = inr j
kept_rest p q r qs rest false false i j = inr i

in_still : (p r : ℕ) (qs : List ℕ) → In r qs → In r (with_page p qs)
in_still p r [] i = absurd i
in_still p r (q ∷ qs) (inl e) = kept_first p q r qs (with_page p qs) (nat_lt p q) (nat_lt q p) e
in_still p r (q ∷ qs) (inr i) =
    kept_rest p q r qs (with_page p qs) (nat_lt p q) (nat_lt q p) i (in_still p r qs i)

-- ── a step ──

-- what holds of a state with these fields, and with a document more, holds after each record
module _ (Q : StateValue → Type 0)
    (same : (s t : StateValue) → t.pages ≡ s.pages → t.heaps ≡ s.heaps → t.highest ≡ s.highest → t.current ≡ s.current
    → t.freed ≡ s.freed
    → Q s → Q t)
    (places : (s t : StateValue) (page : ℕ) → t.pages ≡ s.pages → t.heaps ≡ with_page page s.heaps
    → t.highest ≡ higher page s.highest
    → t.current ≡ Some page → t.freed ≡ s.freed → Q s → Q t) where
  by_commit : (n x : ℕ) (o : Option Transaction) (s : StateValue) → Q s → Q (committed n x o s)
  by_commit n x None s q = q
  by_commit n x (Some t) s q = by_if Q (n == suc (length s.deleted)) _ s (same s _ refl refl refl refl refl q) q

  by_abort_of : (x : ℕ) (o : Option Transaction) (s : StateValue) → Q s → Q (aborted x o s)
  by_abort_of x None s q = q
  by_abort_of x (Some t) s q = same s _ refl refl refl refl refl q

  by_abort : (b : Bool) (x : ℕ) (s : StateValue) → Q s
      → Q (cond b (ended_all s) (aborted x (transaction x s.running) s))
  by_abort true x s q = same s _ refl refl refl refl refl q
  by_abort false x s q = by_abort_of x (transaction x s.running) s q

  by_place : (d : Doc) (o : Option Transaction) (s : StateValue) → Q s → Q (placed_head o d s)
  by_place d None s q = q
  by_place d (Some t) s q =
      by_if Q ((d.serial == s.next_serial) && nat_lt d.serial (suc last_serial)) _ s
      (places s _ (page_of d.item) refl refl refl refl refl q) q

  by_mark : (d : Doc) (o : Option Transaction) (s : StateValue) → Q s → Q (marked_head o d s)
  by_mark d None s q = q
  by_mark d (Some t) s q = same s _ refl refl refl refl refl q

  by_step : (k : Kind) (x : ℕ) (ps : List ℕ) (s : StateValue) → ((s t : StateValue) → k ≡ kind.FreeSlots
      → t.pages ≡ s.pages → t.heaps ≡ s.heaps → t.highest ≡ s.highest → t.current ≡ s.current
      → t.freed ≡ with_pages ps s.freed → Q s → Q t)
      → Q s → Q (stepped k x ps s)
  by_step kind.Begin x ps s frees q =
      by_if Q ((x == suc (length s.fates)) && nat_lt x xid_bound) _ s (same s _ refl refl refl refl refl q) q
  by_step (kind.Commit n) x ps s frees q = by_commit n x (transaction x s.running) s q
  by_step kind.Abort x ps s frees q = by_abort (x == 0) x s q
  by_step (kind.Checkpoint redo) x ps s frees q = same s _ refl refl refl refl refl q
  by_step (kind.PlaceHead item serial) x ps s frees q = by_place (doc_at item serial) (transaction x s.running) s q
  by_step (kind.MarkDeleted item serial) x ps s frees q = by_mark (doc_at item serial) (transaction x s.running) s q
  by_step kind.FreeSlots x ps s frees q = frees s _ refl refl refl refl refl refl q
  by_step _ x ps s frees q = q

  by_record : (r : Record) (s : StateValue) → ((s t : StateValue) → r.kind ≡ kind.FreeSlots
      → t.pages ≡ s.pages → t.heaps ≡ s.heaps → t.highest ≡ s.highest → t.current ≡ s.current
      → t.freed ≡ with_pages (changed r) s.freed
      → Q s → Q t) → Q s → Q (step_of r s)
  by_record r s frees q =
      by_step r.kind r.xid (changed r) (noted r s) frees (same s (noted r s) refl refl refl refl refl q)

-- ── the highest ──

higher_is : (page : ℕ) (o : Option ℕ) (p : ℕ) → higher page o ≡ Some p → (p ≡ page) ⊎ (o ≡ Some p)
higher_is page None p e = inl (let f : p ≡ page = cc in f)
higher_is page (Some q) p e =
    let f : max page q ≡ p = cc in
    elim (which page q) [ inl m ↦ inl (sym f ∙ m) | inr m ↦ inr (ap Some (sym m ∙ f)) ]
  where
    which : (a b : ℕ) → (max a b ≡ a) ⊎ (max a b ≡ b)
    which a b = grind arith

highest_same : (s t : StateValue) → t.heaps ≡ s.heaps → t.highest ≡ s.highest → KnowsHighest s → KnowsHighest t
highest_same s t heaps highest knows p is = subst (In p) (sym heaps) (knows p (sym highest ∙ is))

highest_placed : (s t : StateValue) (page : ℕ) → t.heaps ≡ with_page page s.heaps → t.highest ≡ higher page s.highest
    → KnowsHighest s → KnowsHighest t
highest_placed s t page heaps highest knows p is =
    subst (In p) (sym heaps) (elim (higher_is page s.highest p (sym highest ∙ is)) [
      | inl e ↦ subst (λ (q : ℕ). In q (with_page page s.heaps)) (sym e) (in_with page s.heaps)
      | inr old ↦ in_still page p s.heaps (knows p old)
    ])

highest_known : (pages xid_limit : ℕ) (R : Log) → KnowsHighest (states.state_of pages xid_limit R)
highest_known pages xid_limit [] p is = absurd (let z : ⊥ = cc in z)
highest_known pages xid_limit (r ∷ R) p is =
    by_record KnowsHighest (λ s t pages heaps highest current freed q. highest_same s t heaps highest q)
    (λ s t page pages heaps highest current freed q. highest_placed s t page heaps highest q) r
    (states.state_of pages xid_limit R)
    (λ s t k pages heaps highest current freed q. highest_same s t heaps highest q)
    (highest_known pages xid_limit R) p is

-- ── just after an opening ──

module _ {D : Type 0} (device : Disk D) where
  pub heaps_begin : (s : DbValue D) (R : Log) → Stands device s.frames R → HasStarted (state_of s)
      → KnowsHeaps (state_of s)
  heaps_begin s R stands started p i =
      let st = state_of s in
      let log = states.state_of st.pages st.xid_limit R in
      let heaps : st.heaps ≡ log.heaps = ap (λ (t : StateValue). t.heaps) stands.journal.state in
      let highest : st.highest ≡ log.highest = ap (λ (t : StateValue). t.highest) stands.journal.state in
      elim (first_or st.current st.freed p i) [
        | inl e ↦ subst (In p) (sym heaps)
            (highest_known st.pages st.xid_limit R p (sym highest ∙ sym started.0 ∙ e))
        | inr j ↦ absurd (subst (In p) started.1 j)
      ]

-- ── along a path ──

heaps_same : (s t : StateValue) → t.heaps ≡ s.heaps → t.current ≡ s.current → t.freed ≡ s.freed → KnowsHeaps s
    → KnowsHeaps t
heaps_same s t heaps current freed knows p i =
    let j : In p (with_first s.current s.freed) =
    subst (λ (o : Option ℕ). In p (with_first o s.freed)) current
    (subst (λ (ps : List ℕ). In p (with_first t.current ps)) freed i) in
    subst (In p) (sym heaps) (knows p j)

heaps_placed : (s t : StateValue) (page : ℕ) → t.heaps ≡ with_page page s.heaps → t.current ≡ Some page
    → t.freed ≡ s.freed → KnowsHeaps s → KnowsHeaps t
heaps_placed s t page heaps current freed knows p i =
    subst (In p) (sym heaps) (elim (first_or t.current t.freed p i) [
      | inl e ↦
          let same : p ≡ page = (let f : Some page ≡ Some p = sym current ∙ e in cc) in
          subst (λ (q : ℕ). In q (with_page page s.heaps)) (sym same) (in_with page s.heaps)
      | inr j ↦ in_still page p s.heaps (knows p (or_behind s.current s.freed p (subst (In p) freed j)))
    ])

pub heaps_step : (r : Record) (s : StateValue) → NotFreeing r.kind → KnowsHeaps s → KnowsHeaps (step_of r s)
heaps_step r s off =
    by_record KnowsHeaps (λ s t pages heaps highest current freed q. heaps_same s t heaps current freed q)
    (λ s t page pages heaps highest current freed q. heaps_placed s t page heaps current freed q) r s
    (λ s t k pages heaps highest current freed q. absurd (subst NotFreeing k off))

heaps_owed : (owes : Bool) (s : StateValue) → KnowsHeaps s → KnowsHeaps (after_owed owes s)
heaps_owed true s knows = heaps_step (owed_abort (1 + s.records)) s tt knows
heaps_owed false s knows = knows

front_frees : (rs : List Record) (r : Record) → AreNotFreeing (rs ++ r ∷ []) → AreNotFreeing rs × NotFreeing r.kind
front_frees [] r a = (tt, a.0)
front_frees (q ∷ rs) r a = let b = front_frees rs r a.1 in ((a.0, b.0), b.1)

module _ {D : Type 0} (device : Disk D) where
  pub heaps_on : {old new : DbValue D} {rs : List Record} → Goes device old new rs → AreNotFreeing rs
      → KnowsHeaps (state_of old) → KnowsHeaps (state_of new)
  heaps_on stays none knows = knows
  heaps_on (nothing p s) none knows = subst KnowsHeaps (sym s.state.state) (heaps_on p none knows)
  heaps_on (one {mid} {new} {rs} {r} p s) none knows =
      let each = front_frees rs r none in
      subst KnowsHeaps (sym s.state)
      (heaps_step r (state_then mid) each.1
      (heaps_owed mid.frames.journal.owes (state_of mid) (heaps_on p each.0 knows)))

-- ── how many pages a store may have ──

pages_step : (n : ℕ) (r : Record) (s : StateValue) → s.pages ≡ n → (step_of r s).pages ≡ n
pages_step n r s =
    by_record (λ (u : StateValue). u.pages ≡ n) (λ s t pages heaps highest current freed q. pages ∙ q)
    (λ s t page pages heaps highest current freed q. pages ∙ q) r s
    (λ s t k pages heaps highest current freed q. pages ∙ q)

pages_owed : (owes : Bool) (s : StateValue) → (after_owed owes s).pages ≡ s.pages
pages_owed true s = pages_step s.pages (owed_abort (1 + s.records)) s refl
pages_owed false s = refl

module _ {D : Type 0} (device : Disk D) where
  pub pages_on : {old new : DbValue D} {rs : List Record} → Goes device old new rs
      → (state_of new).pages ≡ (state_of old).pages
  pages_on stays = refl
  pages_on (nothing p s) = ap (λ (t : StateValue). t.pages) s.state.state ∙ pages_on p
  pages_on (one {mid} {new} {rs} {r} p s) =
      ap (λ (t : StateValue). t.pages) s.state
      ∙ pages_step (state_of mid).pages r (state_then mid) (pages_owed mid.frames.journal.owes (state_of mid))
      ∙ pages_on p
