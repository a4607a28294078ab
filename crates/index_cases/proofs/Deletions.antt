-- The records of a transaction that deletes a document: what the pass owes of them, and what they leave of a scan.
use Rattle.std.proofs.Common.{◌≡◌, ◌≢◌, ◌⊎◌, ◌+◌, ◌*◌, ◌^◌, ◌-◌, ◌<◌, ◌∙◌, ◌++◌, ℕ, List, [], ◌∷◌, length, refl, sym}
use Rattle.std.proofs.Common.{ap, subst, inl, inr, ⊎_elim, arith, length-drop}
use Rattle.std.specs.Prelude.{Option, Some, None, IsSome}
use Rattle.disk_trait.specs.declared.device.Disk.{Ghosts as Disk}
use Rattle.page_types.specs.Keys.{Rising}
use Rattle.page_types.specs.Numbers.{page_limit}
use Rattle.page_types.specs.Pages.{IsPage}
use Rattle.page_types.specs.declared.page.Page.{Page}
use Rattle.page_types.specs.declared.page.Head.{Head}
use Rattle.page_types.specs.declared.page.Body.TheVariants as body
use Rattle.page_types.specs.declared.record.Kind.{Kind}
use Rattle.page_types.specs.declared.record.Kind.TheVariants as kind
use Rattle.core_state.specs.Log.{Log, In}
use Rattle.core_state.specs.Allowed.{Sheet, Step, Owes, sheet_pages}
use Rattle.core_state.specs.Steady.{IsMaintenance}
use Rattle.core_state.specs.Steps.{sheet}
use Rattle.buffer_frames.specs.Drawing.{HasEncoding}
use Rattle.buffer_frames.specs.Frames.{FramesValue, Stands}
use Rattle.buffer_frames.specs.Opens.{IsLoggedKind}
use Rattle.buffer_frames.specs.Passes.{IsPassOf, xids_of, xid_after, view_of}
use Rattle.buffer_frames.specs.declared.pass.Pass.{Pass}
use Rattle.buffer_frames.proofs.AtHand.{log_length}
use Rattle.doc_heap.specs.HeapPages.{head_on, ChangesSlot}
use Rattle.doc_heap.proofs.SlotLists.{has_head}
use Rattle.engine.proofs.HeadChanges.{some_below, one_left}
use Rattle.index_cases.specs.Deleting.{IsPlain, IsXidThen, IsMarked, IsMark}

-- a step that leaves no page
abbrev pub plain : Kind → ℕ → Step
plain k x = record { kind = k; xid = x; after = [] }

pub plain_encoded : (k : Kind) (x : ℕ) (o : Option ℕ) → IsPlain k x o → HasEncoding (plain k x)
plain_encoded kind.Begin x o is = record { kind = tt; few = omega arith; each = tt; once = tt }
plain_encoded (kind.Commit n) x o is = record { kind = omega (arith, is.0); few = omega arith; each = tt; once = tt }
plain_encoded _ x o is = absurd is

pub plain_logged : (k : Kind) (x : ℕ) (o : Option ℕ) → IsPlain k x o → IsLoggedKind k
plain_logged kind.Begin x o is = tt
plain_logged (kind.Commit n) x o is = tt
plain_logged _ x o is = absurd is

pub plain_begins : (k : Kind) (x : ℕ) (o : Option ℕ) → IsPlain k x o → k ≡ kind.Begin → o ≡ None
plain_begins k x o is e = (subst (λ (j : Kind). IsPlain j x o) e is).1

pub plain_then : (k : Kind) (x value : ℕ) (o : Option ℕ) → IsPlain k x o → IsXidThen k (xid_after k value o)
plain_then kind.Begin x value o is = (value, refl)
plain_then (kind.Commit n) x value o is = refl
plain_then _ x value o is = absurd is

-- the log that a pass has seen is not empty, so the step may come after it
module _ {D : Type 0} (device : Disk D) (f : FramesValue D) (pass : Pass) (of : IsPassOf f pass) (held : List Sheet)
    (step : Step) where
  pub owes : ((p : ℕ) → In p (sheet_pages step.after) → In p (sheet_pages held))
      → Rising (λ (p q : ℕ). p ≢ q) (sheet_pages step.after) → ((x : Sheet) → In x step.after → IsPage x.content)
      → (step.xid ≡ 0) ⊎ ((step.kind ≡ kind.Begin) ⊎ In step.xid (xids_of pass.xid))
      → (IsMaintenance step.kind → ⊥) → step.kind ≢ kind.Abort → (R : Log) → Stands device f R
      → Owes (view_of f pass R held) step
  owes pages once fits own calm ends R s =
      let long : f.journal.state.records ≡ length R = log_length device f.journal R s.journal in
      record {
        started = inl (λ none.
            omega (arith, of.some, of.seen, long, length-drop (length R - pass.seen) R, ap length none));
        pages = pages;
        once = once;
        fits = fits;
        xid = own;
        work = λ is. absurd (calm is);
        not_all = λ is. absurd (ends is);
      }

plain_own : (k : Kind) (x : ℕ) (o : Option ℕ) → IsPlain k x o → (x ≡ 0) ⊎ ((k ≡ kind.Begin) ⊎ In x (xids_of o))
plain_own kind.Begin x o is = inl is.0
plain_own (kind.Commit n) x o is = inr (inr (subst (λ (p : Option ℕ). In x (xids_of p)) (sym is.1) (inl refl)))
plain_own _ x o is = absurd is

plain_calm : (k : Kind) (x : ℕ) (o : Option ℕ) → IsPlain k x o → IsMaintenance k → ⊥
plain_calm kind.Begin x o is work = omega (arith, work.0)
plain_calm (kind.Commit n) x o is work = omega (arith, work.0)
plain_calm _ x o is work = is

plain_ends : (k : Kind) (x : ℕ) (o : Option ℕ) → IsPlain k x o → k ≢ kind.Abort
plain_ends k x o is e = subst (λ (j : Kind). IsPlain j x o) e is

pub plain_owes : {D : Type 0} (device : Disk D) (f : FramesValue D) (pass : Pass) (k : Kind) (x : ℕ) → IsPassOf f pass
    → IsPlain k x pass.xid → (R : Log) → Stands device f R → Owes (view_of f pass R []) (plain k x)
plain_owes device f pass k x of is R s =
    owes device f pass of [] (plain k x) (λ p i. i) tt (λ y i. absurd i) (plain_own k x pass.xid is)
    (plain_calm k x pass.xid is) (plain_ends k x pass.xid is) R s

-- ── a document that is marked ──

-- a page of which a used slot was marked
pub marked_is : (old new : Page) (slot x : ℕ) → IsPage old → IsSome (head_on old slot)
    → ((h : Head) → head_on old slot ≡ Some h → ChangesSlot old slot (Some (record h { deleted_by = x })) new)
    → IsPage new → IsMarked slot new
marked_is old new slot x page some marks is =
    let there = has_head (head_on old slot) some in
    let w = marks there.0 there.1 in
    record {
      is_page = is;
      used = λ free. (
          let e : body.Heap w.new_slots ≡ body.Free = sym (ap (λ (p : Page). p.body) w.after) ∙ free in
          let z : ⊥ = cc in z);
      below = some_below old slot page some;
    }

-- the step with its one page
pub mark_is : (page slot x item serial : ℕ) (new : Page) (s0 s1 : Step) (y : Sheet)
    → s0 ≡ record { kind = kind.MarkDeleted item serial; xid = x; after = [] } → y ≡ sheet page new
    → s1 ≡ record s0 { after = s0.after ++ y ∷ [] } → page < page_limit → IsMarked slot new
    → item ≡ page * 2048 + slot → serial < 2 ^ 64 → IsMark page x s1
mark_is page slot x item serial new s0 s1 y begun is left low marked at fits = record {
  item = item;
  serial = serial;
  new = new;
  low = low;
  fits = (omega (arith, low, marked.below, at), fits);
  is_page = marked.is_page;
  used = marked.used;
  step_is = one_left _ _ x s0 s1 y page new begun refl is left;
}

pub mark_encoded : (page x : ℕ) (step : Step) → IsMark page x step → HasEncoding step
mark_encoded page x step w = subst HasEncoding (sym w.step_is) (record {
  kind = w.fits;
  few = omega arith;
  each = (record { page = w.low; content = w.is_page; used = w.used }, tt);
  once = (tt, tt);
})

pub mark_kind : (page x : ℕ) (step : Step) → IsMark page x step → IsLoggedKind step.kind
mark_kind page x step w = subst (λ (s : Step). IsLoggedKind s.kind) (sym w.step_is) tt

pub mark_begins : (page x : ℕ) (step : Step) → IsMark page x step → step.kind ≢ kind.Begin
mark_begins page x step w e =
    let z : kind.MarkDeleted w.item w.serial ≡ kind.Begin = sym (ap (λ (s : Step). s.kind) w.step_is) ∙ e in
    let y : ⊥ = cc in y

pub mark_owes : {D : Type 0} (device : Disk D) (f : FramesValue D) (pass : Pass) (held : Sheet) (x : ℕ) (step : Step)
    → IsPassOf f pass → pass.xid ≡ Some x → IsMark held.page x step → (R : Log) → Stands device f R
    → Owes (view_of f pass R (held ∷ [])) step
mark_owes device f pass held x step of is w R s =
    subst (λ (t : Step). Owes (view_of f pass R (held ∷ [])) t) (sym w.step_is)
    (owes device f pass of (held ∷ [])
    (record { kind = kind.MarkDeleted w.item w.serial; xid = x; after = sheet held.page w.new ∷ [] })
    (λ p i. i) (tt, tt)
    (λ y i. ⊎_elim (λ (e : y ≡ sheet held.page w.new). subst (λ (z : Sheet). IsPage z.content) (sym e) w.is_page)
    absurd i)
    (inr (inr (subst (λ (o : Option ℕ). In x (xids_of o)) (sym is) (inl refl))))
    (λ work. omega (arith, work.0)) (λ e. let z : ⊥ = cc in z) R s)

pub mark_xid : (page x value : ℕ) (step : Step) (o : Option ℕ) → IsMark page x step
    → xid_after step.kind value o ≡ o
mark_xid page x value step o w = ap (λ (s : Step). xid_after s.kind value o) w.step_is
