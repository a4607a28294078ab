-- Documents are taken one after another.
use Rattle.std.proofs.Common.{◌≡◌, ℕ, suc, ◌+◌, ◌<◌, ◌≤◌, Bool, true, false, List, [], ◌∷◌, ◌++◌, length, refl, sym, ap}
use Rattle.std.proofs.Common.{subst, ◌∙◌, arith}
use Rattle.std.proofs.Common.{Some, None, slice_get}
use Rattle.ts_base.specs.Vectors.{Vector}
use Rattle.page_types.specs.Numbers.{most_short}
use Rattle.page_types.specs.declared.page.Page.{Page}
use Rattle.page_types.specs.declared.page.Head.{Head}
use Rattle.page_types.specs.declared.page.Name.{Name}
use Rattle.core_state.specs.Documents.{page_of, slot_of}
use Rattle.doc_heap.specs.HeapPages.{head_on}
use Rattle.gin_scan.specs.Inner.Heads.{name_at, long_at, TellsOf, Takes, TakesDocument, TakesIfSeen, TakesDocuments}
use Rattle.gin_scan.specs.declared.scan_core.ScanCore.{ScanCore}

abbrev pub name_with : ℕ → ℕ → ℕ → Name
name_with p k n = record { page = p; slot = k; serial = n }

module _ (P : Vector → Type 0) where
  -- one more behind those that were taken
  pub takes_more : (page : Page) (from : ℕ) (xs : List Bool) (b : Bool) (old mid new : ScanCore) (k : ℕ × Bool)
      → TakesDocuments P page from xs old mid → slice_get mid.kept.items (from + length xs) ≡ Some k
      → TakesIfSeen P page k b mid new → TakesDocuments P page from (xs ++ b ∷ []) old new
  takes_more page from [] b old mid new k takes at one = (
    k,
    subst (λ (z : ScanCore). slice_get z.kept.items from ≡ Some k) takes
        (subst (λ (n : ℕ). slice_get mid.kept.items n ≡ Some k) (omega arith) at),
    (new, subst (λ (z : ScanCore). TakesIfSeen P page k b z new) takes one, refl),
  )
  takes_more page from (x ∷ xs) b old mid new k takes at one = (
    takes.0,
    takes.1,
    (
      takes.2.0,
      takes.2.1,
      takes_more page (suc from) xs b takes.2.0 mid new k takes.2.2
          (subst (λ (n : ℕ). slice_get mid.kept.items n ≡ Some k) (omega arith) at) one,
    ),
  )

  -- the document of the head that was found
  pub taken_found : (page : Page) (k : ℕ × Bool) (h : Head) (old new : ScanCore)
      → Some h ≡ head_on page (slot_of k.0) → TakesDocument P k.0 k.1 h old new → TakesIfSeen P page k true old new
  taken_found page k h old new found t g e =
      let same : h ≡ g = one_some h g (found ∙ e) in subst (λ (z : Head). TakesDocument P k.0 k.1 z old new) same t
    where
      one_some : (a b : Head) → Some a ≡ Some b → a ≡ b
      one_some a b f = cc

  -- there is none
  pub taken_none : (page : Page) (k : ℕ × Bool) (old new : ScanCore) → None ≡ head_on page (slot_of k.0)
      → TakesIfSeen P page k true old new
  taken_none page k old new none h e = absurd (let f : None ≡ Some h = none ∙ e in let z : ⊥ = cc in z)

  -- ── one document ──

  pub named_as : (item : ℕ) (h : Head) (p k n : ℕ) → p ≡ page_of item → k ≡ slot_of item → n ≡ h.serial
      → name_with p k n ≡ name_at item h
  named_as item h p k n e f g =
      ap (λ (z : ℕ). name_with z k n) e ∙ ap (λ (z : ℕ). name_with (page_of item) z n) f
      ∙ ap (λ (z : ℕ). name_with (page_of item) (slot_of item) z) g

  pub takes_long : (item : ℕ) (h : Head) (old new : ScanCore) → most_short < h.bytes
      → new.long.items ≡ old.long.items ++ long_at item h ∷ [] → new ≡ record old { long = new.long }
      → TakesDocument P item false h old new
  takes_long item h old new more long same = record {
    takes = Takes.long more (ap (λ (z : ScanCore). z.names) same, long);
    rest = same ∙ ap (λ (ns : _). record old { names = ns; long = new.long })
        (sym (ap (λ (z : ScanCore). z.names) same));
  }

  named_rest : (old new : ScanCore) → new ≡ record old { names = new.names }
      → new ≡ record old { names = new.names; long = new.long }
  named_rest old new same =
      same ∙ ap (λ (ls : _). record old { names = new.names; long = ls })
      (sym (ap (λ (z : ScanCore). z.long) same))

  pub takes_sure : (item : ℕ) (h : Head) (old new : ScanCore)
      → new.names.items ≡ old.names.items ++ name_at item h ∷ [] → new ≡ record old { names = new.names }
      → TakesDocument P item true h old new
  takes_sure item h old new names same = record {
    takes = Takes.sure (names, ap (λ (z : ScanCore). z.long) same);
    rest = named_rest old new same;
  }

  pub takes_name : (item : ℕ) (h : Head) (old new : ScanCore) → h.bytes ≤ most_short → TellsOf P h.vector true
      → new.names.items ≡ old.names.items ++ name_at item h ∷ [] → new ≡ record old { names = new.names }
      → TakesDocument P item false h old new
  takes_name item h old new few tells names same = record {
    takes = Takes.found few tells (names, ap (λ (z : ScanCore). z.long) same);
    rest = named_rest old new same;
  }

  pub takes_none : (item : ℕ) (h : Head) (s : ScanCore) → h.bytes ≤ most_short → TellsOf P h.vector false
      → TakesDocument P item false h s s
  takes_none item h s few tells = record { takes = Takes.none few tells refl; rest = refl }
