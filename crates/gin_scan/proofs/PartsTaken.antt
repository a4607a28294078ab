-- A part of a long vector more is read, or its document is taken once all were.
use Rattle.std.proofs.Common.{◌≡◌, ◌≢◌, ℕ, zero, suc, ◌-◌, ◌<◌, ◌≤◌, Bool, true, false, List, [], ◌∷◌, ◌++◌, length}
use Rattle.std.proofs.Common.{take, drop}
use Rattle.std.proofs.Common.{Some, refl, sym, ap, subst, ◌∙◌, inl, arith, slice_get, append-nil, append_assoc}
use Rattle.std.proofs.Common.{length-append}
use Rattle.disk_trait.specs.declared.device.Disk.{Ghosts as Disk}
use Rattle.page_types.specs.Pages.{IsPage}
use Rattle.page_types.specs.Views.{part_of}
use Rattle.page_types.specs.declared.page.Page.{Page}
use Rattle.core_state.specs.Log.{Log, Pages, In, Shows}
use Rattle.core_state.specs.History.{History, IsHistory}
use Rattle.core_state.specs.Legal.{Pin}
use Rattle.core_state.specs.Readings.{Read}
use Rattle.core_state.proofs.Histories.{legal_history}
use Rattle.core_state.proofs.Moments.Timeline.{cut_all}
use Rattle.gin_opclass.specs.Class.{Meaning}
use Rattle.core_moments.specs.Walk.{rightward}
use Rattle.buffer_frames.specs.Frames.{FramesValue, Lies}
use Rattle.buffer_frames.proofs.FirstLogs.{shown_by}
use Rattle.gin_scan.specs.Causes.{HasPart}
use Rattle.gin_scan.specs.Reading.{ReadsParts, parts_read}
use Rattle.gin_scan.specs.Taking.{AreTaken, first_items}
use Rattle.gin_scan.specs.Held.{ArePages}
use Rattle.gin_scan.specs.Scanning.{HasTaken, HasRead, IsScanOf}
use Rattle.gin_scan.specs.Inner.Parts.{IsReadUp, AddedIf, AddsIfTold}
use Rattle.gin_scan.specs.declared.scan_core.ScanCore.{ScanCore}
use Rattle.gin_scan.specs.declared.stage.LongVector.{LongVector}
use Rattle.gin_scan.specs.declared.stage.Stage.TheVariants as stage
use Rattle.gin_scan.proofs.Growing.{reads_more, lead_more}
use Rattle.gin_scan.proofs.HeldPages.{fewer_pages, chain_pages}
use Rattle.gin_scan.proofs.ListRead.{now, read_now}
use Rattle.gin_scan.proofs.LongTaken.{yes_taken, no_taken}
use Rattle.gin_scan.proofs.LongBegun.{IsBefore}
use Rattle.gin_scan.proofs.PartsRead.{answered, next_overflow}
use Rattle.gin_scan.proofs.PinLaws.{pin_laws}
use Rattle.gin_scan.proofs.StepsTaken.{Known, judged_as}

parts_more : (xs : List Read) (x : Read) → parts_read (xs ++ x ∷ []) ≡ parts_read xs ++ part_of x.content
parts_more [] x = append-nil (part_of x.content)
parts_more (y ∷ ys) x =
    ap (λ (zs : List ℕ). part_of y.content ++ zs) (parts_more ys x)
    ∙ sym (append_assoc (part_of y.content) (parts_read ys) (part_of x.content))

some_left : (n : ℕ) → n ≢ 0 → 1 ≤ n
some_left zero off = absurd (off refl)
some_left (suc n) off = omega arith

-- a list from a place on
from_place : {A : Type 0} (xs : List A) (n m : ℕ) (x : A) → m ≡ suc n → slice_get xs n ≡ Some x
    → drop n xs ≡ x ∷ drop m xs
from_place {A} [] n m x e at = absurd (let z : ⊥ = cc in z)
from_place {A} (y ∷ ys) zero zero x e at = absurd (omega (arith, e))
from_place {A} (y ∷ ys) zero (suc m) x e at =
    let same : y ≡ x = cc in
    ap (λ (z : A). z ∷ ys) same ∙ ap (λ (k : ℕ). x ∷ drop k ys) (let z : 0 ≡ m = omega (arith, e) in z)
from_place {A} (y ∷ ys) (suc n) zero x e at = absurd (omega (arith, e))
from_place {A} (y ∷ ys) (suc n) (suc m) x e at = from_place ys n m x (omega (arith, e)) at

element_at : (xs : List LongVector) (k : ℕ) → k < length xs → (x : LongVector) × (slice_get xs k ≡ Some x)
element_at [] k l = absurd (omega (arith, l))
element_at (x ∷ xs) zero l = (x, refl)
element_at (x ∷ xs) (suc k) l = element_at xs k (omega (arith, l))

module _ {Q D : Type 0} (M : Meaning Q) (q : Q) (device : Disk D) (f : FramesValue D) (R : Log) (pin : Pin)
    (known : Known device f R pin) where
  P : (P : Pages) × Shows R P
  P = shown_by R known.legal.valid

  -- ── a part ──

  part_more : (from : ℕ) (s z : ScanCore) (l : LongVector) (page left : ℕ) (c : Page) → from ≤ length R
      → page ≢ 0 → left ≢ 0 → IsPage c → Lies f page c → z.bytes.items ≡ s.bytes.items ++ part_of c
      → z.extent ≡ s.extent → ReadsParts R from s l page left → ReadsParts R from z l (rightward c) (left - 1)
  part_more from s z l page left c within some more is lies bytes extent r =
      let x = now R page c in record {
        pages = r.pages ++ x ∷ [];
        leads = lead_more l.first r.pages page x r.leads some refl;
        reads = reads_more R from r.pages x r.reads within refl
            (read_now device f R known.told known.up known.stands known.legal P.0 P.1 page c is lies);
        bytes = bytes ∙ ap (λ (bs : List ℕ). bs ++ part_of c) r.bytes ∙ sym (parts_more r.pages x);
        left_is = omega (arith, r.left_is, some_left left more, length-append r.pages (x ∷ []), extent);
      }

  pub part_read : (s s' : ScanCore) (at page left : ℕ) (c : Page) → s.stage ≡ stage.Parts at page left → page ≢ 0
      → left ≢ 0 → IsPage c → Lies f page c → s'.bytes.items ≡ s.bytes.items ++ part_of c
      → s'.pages_read ≤ suc s.pages_read → at < length s.long.items
      → s' ≡ record s {
        bytes = s'.bytes;
        stage = stage.Parts at (rightward c) (left - 1);
        pages_read = s'.pages_read;
      } → IsScanOf M q R pin s → IsScanOf M q R pin s'
  part_read s s' at page left c is some more page_is lies bytes one there same o =
      let had = subst (HasRead M q R pin o.from s) is o.read in
      let z : ScanCore = record s {
        bytes = s'.bytes;
        stage = stage.Parts at (rightward c) (left - 1);
        pages_read = s'.pages_read;
      } in
      let l = element_at s.long.items at there in
      let all = (had.2 l.0 l.1).left_is in
      subst (λ (x : ScanCore). IsScanOf M q R pin x) (sym same) (record {
        from = o.from;
        since = o.since;
        within = o.within;
        below = o.below;
        read = (
          judged_as M q R pin o.from s z refl had.0,
          had.1,
          (λ l e. part_more o.from s z l page left c o.within some more page_is lies bytes refl (had.2 l e)),
          had.3,
          fewer_pages R o.from had.0.walk (first_items (length s.kept.items) s.kept.items) (take at s.long.items)
              (s.pages_read - (s.extent - left)) (s'.pages_read - (s.extent - (left - 1)))
              (omega (arith, one, all, some_left left more)) had.4,
          had.5,
        );
      })

  -- ── all parts ──

  module _ (s s1 : ScanCore) (at page left next : ℕ) (t : AddsIfTold (M.satisfies q) s at s1)
      (up : IsReadUp s at page left) (o : IsScanOf M q R pin s) (after : next ≡ suc at) where
    abbrev Then : ScanCore → Type 0
    Then z =
        (H : History) → IsHistory R H → AreTaken (M.satisfies q) R pin H
        (first_items (length s.kept.items) s.kept.items) z.names.items (drop next s.long.items)

    taken_by : (b : Bool) → t.answer ≡ b → HasTaken M q R pin s (length s.kept.items) at
        → ReadsParts R o.from s t.waits page left → AddedIf s t.waits b s1 → Then s1
    taken_by true is had r added H history =
        let laws = pin_laws R pin H known.legal known.keeps history in
        let old = subst (λ (ls : List LongVector). AreTaken (M.satisfies q) R pin H
        (first_items (length s.kept.items) s.kept.items) s.names.items ls)
        (from_place s.long.items at next t.waits after t.is_there) (had H history) in
        subst (λ ns. AreTaken (M.satisfies q) R pin H (first_items (length s.kept.items) s.kept.items) ns
        (drop next s.long.items)) (sym added.0)
        (yes_taken (M.satisfies q) R pin H laws.one_serial (first_items (length s.kept.items) s.kept.items)
        s.names.items t.waits (drop next s.long.items) old (λ d there long.
        (answered R pin known.legal known.keeps H history d there t.waits long s o.from page left o.since r o.within
        o.below (M.satisfies q) s1 at t refl up).0 is))
    taken_by false is had r added H history =
        let laws = pin_laws R pin H known.legal known.keeps history in
        let old = subst (λ (ls : List LongVector). AreTaken (M.satisfies q) R pin H
        (first_items (length s.kept.items) s.kept.items) s.names.items ls)
        (from_place s.long.items at next t.waits after t.is_there) (had H history) in
        subst (λ (z : ScanCore). AreTaken (M.satisfies q) R pin H (first_items (length s.kept.items) s.kept.items)
        z.names.items (drop next s.long.items)) (sym added)
        (no_taken (M.satisfies q) R pin H laws.one_serial (first_items (length s.kept.items) s.kept.items)
        s.names.items t.waits (drop next s.long.items) old (λ d there long p.
        not_both ((answered R pin known.legal known.keeps H history d there t.waits long s o.from page left o.since r
        o.within o.below (M.satisfies q) s1 at t refl up).1 p) is))
      where
        not_both : t.answer ≡ true → t.answer ≡ false → ⊥
        not_both e g = let z : true ≡ false = sym e ∙ g in let y : ⊥ = cc in y

    names_added : (b : Bool) → AddedIf s t.waits b s1 → s1 ≡ record s { names = s1.names }
    names_added true added = added.1
    names_added false added = added ∙ ap (λ (z : ScanCore). record s { names = z.names }) (sym added)

    pub matched : s.stage ≡ stage.Parts at page left → IsBefore M q R pin s1 next
    matched is =
        let had = subst (HasRead M q R pin o.from s) is o.read in
        let same = names_added t.answer t.added in
        let r = had.2 t.waits t.is_there in
        let then : Then s1 = taken_by t.answer refl had.1 (had.2 t.waits t.is_there) t.added in
        subst (λ (z : ScanCore). IsBefore M q R pin z next) (sym same) (record {
          from = o.from;
          since = o.since;
          within = o.within;
          below = o.below;
          judged = judged_as M q R pin o.from s (record s { names = s1.names }) refl had.0;
          taken = then;
          heads_read = had.3;
          pages = subst (λ (n : ℕ). ArePages R o.from had.0.walk (first_items (length s.kept.items) s.kept.items)
              (take n s.long.items) s.pages_read) (sym after)
              (chain_pages R o.from had.0.walk (first_items (length s.kept.items) s.kept.items) s.long.items at
              (s.pages_read - (s.extent - left)) s.pages_read t.waits r.pages page t.is_there r.leads r.reads
              (omega (arith, r.left_is)) had.4);
          had = had.5;
        })

  -- ── no bad page ──

  -- the page that is next has a part
  pub next_part : (s : ScanCore) (at page left : ℕ) → s.stage ≡ stage.Parts at page left → at < length s.long.items
      → page ≢ 0 → IsScanOf M q R pin s → (X : Pages) → Shows R X → HasPart (X page)
  next_part s at page left is within some o X shown =
      let had = subst (HasRead M q R pin o.from s) is o.read in
      let l = element_at s.long.items at within in
      let H = legal_history R known.legal in
      let waits = subst (In l.0) (sym (from_place s.long.items at (suc at) l.0 refl l.1)) (inl refl) in
      let d = (had.1 H.0 H.1).waits l.0 waits in
      let r = had.2 l.0 l.1 in
      next_overflow R pin known.legal known.keeps H.0 H.1 d.0 d.1.there l.0 d.2 s o.from page left o.since r some
      (length R) X known.keeps.within (omega arith)
      (subst (λ (S : Log). Shows S X) (sym (cut_all R (length R) refl)) shown)
