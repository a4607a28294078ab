-- Where a cleanup is once the first page of the list is gone, and where the list is read anew.
use Rattle.std.proofs.Common.{◌≡◌, ◌<◌, ◌≤◌, ◌-◌, ℕ, zero, suc, List, [], ◌∷◌, length, take, drop, sym, ap, subst}
use Rattle.std.proofs.Common.{◌∙◌}
use Rattle.std.proofs.Common.{arith, length-append}
use Rattle.std.specs.Prelude.{slice_get, Some}
use Rattle.disk_trait.specs.declared.device.Disk.{Ghosts as Disk}
use Rattle.page_types.specs.Views.{first_in, first_of}
use Rattle.page_types.specs.declared.page.Page.{Page}
use Rattle.page_types.specs.declared.record.Kind.{Kind}
use Rattle.page_types.specs.declared.record.Kind.TheVariants as kind
use Rattle.core_state.specs.Log.{Log, Pages, In, Shows, cut}
use Rattle.core_state.specs.Allowed.{Sheet, Step, AreMade, made_by, drawn_body}
use Rattle.core_state.specs.Index.{rows_on}
use Rattle.core_state.proofs.Histories.{chain_one}
use Rattle.core_maintenance.specs.Keeping.{LineGrows, PairsStay, ShiftKeeps}
use Rattle.core_maintenance.specs.FreshRows.{RowsAreFresh}
use Rattle.buffer_frames.specs.Frames.{FramesValue}
use Rattle.buffer_frames.specs.Passes.{Seen}
use Rattle.buffer_frames.specs.declared.pass.Pass.{Pass}
use Rattle.gin_cleanup.specs.Cleaning.{waits_of, IsReadingAt, IsAt, AreGone, IsKeyAt, AreLeft, IsCleaning}
use Rattle.gin_cleanup.specs.Gathered.{KeyItems}
use Rattle.gin_cleanup.specs.Gathering.{Wait, IsBatch, AreApart}
use Rattle.gin_cleanup.specs.NextPage.{IsNext}
use Rattle.gin_cleanup.specs.Inner.Shifting.{IsShiftStep, MayShift, LogsShift, HasTurned, HasGone}
use Rattle.gin_cleanup.specs.declared.cleanup.Cleanup.{Cleanup}
use Rattle.gin_cleanup.specs.declared.cleanup.Stage.{Stage}
use Rattle.gin_cleanup.specs.declared.cleanup.Stage.TheVariants as stage
use Rattle.gin_cleanup.proofs.Cleanings.{no_waits}
use Rattle.gin_cleanup.proofs.Growing.{batch_grows}
use Rattle.gin_cleanup.proofs.LeftGoes.{left_goes}
use Rattle.gin_cleanup.proofs.NextPages.{next_begins}
use Rattle.gin_cleanup.proofs.Shifted.{Ends, over}
use Rattle.gin_cleanup.proofs.Shifting.{shifted}
use Rattle.gin_cleanup.proofs.StillLeft.{left_grows}

-- of a batch without pairs that wait the list may be read anew
pub reads_from : (P : Pages) (left : ℕ) (ns : List ℕ) → IsBatch P left ns [] → (first : ℕ) → first_of (P 0) ≡ first
    → IsReadingAt P left [] [] [] first
reads_from P left ns b first is =
    let x = b.gathered in (
      record {
        line = x.line;
        is_line = x.is_line;
        enough = x.enough;
        whole = x.whole;
        counted = tt;
        pairs = λ w i. absurd i;
        past = λ w v i. absurd i;
      },
      subst (IsNext P left [] x.line []) is (next_begins P x.line x.is_line left x.enough),
    )

-- the numbers from one that is there on
pub drop_at : (ns : List ℕ) (k n : ℕ) → slice_get ns k ≡ Some n → drop k ns ≡ n ∷ drop (suc k) ns
drop_at [] k n e = absurd cc
drop_at (m ∷ ns) zero n e = cc
drop_at (m ∷ ns) (suc k) n e = drop_at ns k n e

module _ {D : Type 0} (device : Disk D) (f : FramesValue D) (p : Pass) (from : ℕ) (began : from ≤ p.seen)
    (old new : Cleanup) (none : old.gathered ≡ []) where
  pub turned : (page : ℕ) → HasTurned page old new → Seen device f p (λ S P. IsReadingAt P old.left [] [] [] page)
      → Seen device f p (λ S P. AreLeft from S P old.left) → IsCleaning device f p from new
  turned page x reads left =
      let empty : waits_of new.gathered (stage.Reading page x.before) ≡ [] =
      no_waits new.gathered page x.before (x.gathered ∙ none) in
      let waits : waits_of new.gathered new.stage ≡ [] = ap (waits_of new.gathered) x.stage_is ∙ empty in
      record {
        began = began;
        at = λ t up R stands legal P shown.
            subst (λ (s : Stage). IsAt P new s) (sym x.stage_is)
            (subst (λ (k : ℕ). IsReadingAt P k new.counts.items (waits_of new.gathered (stage.Reading page x.before))
            x.before.items page) (sym x.left)
            (subst (λ (ns : List ℕ). IsReadingAt P old.left ns (waits_of new.gathered (stage.Reading page x.before))
            x.before.items page) (sym x.counts)
            (subst (λ (ws : List Wait). IsReadingAt P old.left [] ws x.before.items page) (sym empty)
            (subst (λ (bs : List ℕ). IsReadingAt P old.left [] [] bs page) (sym x.before_is)
            (reads t up R stands legal P shown)))));
        gone = subst (AreGone new) (sym x.stage_is) x.gone;
        linked = λ w i. absurd (subst (In w) waits i);
        pairs = λ w i. absurd (subst (In w) waits i);
        placing = subst (IsKeyAt device f p) (sym x.stage_is) tt;
        left = λ t up R stands legal P shown.
            subst (λ (n : ℕ). AreLeft from (cut p.seen R) P n) (sym x.left) (left t up R stands legal P shown);
      }

module _ {D : Type 0} (device : Disk D) (f : FramesValue D) (p : Pass) (from : ℕ) (began : from ≤ p.seen)
    (c new : Cleanup) (at : c.stage ≡ stage.Shifting) (none : c.gathered ≡ []) where
  -- what is so once the first page is gone
  abbrev pub Then : ℕ → Log → Pages → Type 0
  Then right S P =
      IsBatch P (c.left - 1) (drop (suc c.gone) c.counts.items) [] × AreLeft from S P (c.left - 1)
      × (first_of (P 0) ≡ right)

  pub gone_on : (right : ℕ) → HasGone right c new → Seen device f p (Then right) → IsCleaning device f p from new
  gone_on right (HasGone.last x) then =
      turned device f p from began (record c { left = c.left - 1 }) new none right x
      (λ t up R stands legal P shown.
      let y = then t up R stands legal P shown in
      reads_from P (c.left - 1) (drop (suc c.gone) c.counts.items) y.0 right y.2)
      (λ t up R stands legal P shown. (then t up R stands legal P shown).1)
  gone_on right (HasGone.more within is) then =
      let c' : Cleanup = record c { left = c.left - 1; gone = suc c.gone } in
      let empty : waits_of c.gathered stage.Shifting ≡ [] =
      ap (λ (es : KeyItems). waits_of es stage.Shifting) none in
      let waits : waits_of c.gathered c.stage ≡ [] = ap (waits_of c.gathered) at ∙ empty in
      subst (IsCleaning device f p from) (sym is) (record {
        began = began;
        at = λ t up R stands legal P shown.
            subst (λ (s : Stage). IsAt P c' s) (sym at) (then t up R stands legal P shown).0;
        gone = subst (AreGone c') (sym at) (within, none);
        linked = λ w i. absurd (subst (In w) waits i);
        pairs = λ w i. absurd (subst (In w) waits i);
        placing = subst (IsKeyAt device f p) (sym at) tt;
        left = λ t up R stands legal P shown. (then t up R stands legal P shown).1;
      })

module _ {D : Type 0} (device : Disk D)
    (f g : FramesValue D) (p q : Pass) (meta page : Sheet) (s : Step)
    (may : MayShift device f p (page ∷ meta ∷ []) s) (logs : LogsShift device f p (page ∷ meta ∷ []) s g q)
    (step : IsShiftStep meta page s) (number : meta.page ≡ 0) (from : ℕ) (began : from ≤ p.seen) (c : Cleanup)
    (some : 0 < c.left) (noted : ℕ) (at : slice_get c.counts.items c.gone ≡ Some noted) where
  abbrev ns : List ℕ
  ns = drop (suc c.gone) c.counts.items

  -- what is so before it
  abbrev pub Before : Log → Pages → Type 0
  Before S P = IsBatch P c.left (drop c.gone c.counts.items) [] × AreLeft from S P c.left

  one : (S : Log) (Q : Pages) (e : Ends p.seen s S Q) → Shows (e.newest ∷ e.log) Q → LineGrows e.pages e.then
      → RowsAreFresh e.pages e.then → PairsStay e.pages e.then → ShiftKeeps e.then Q → Before e.had e.pages
      → IsBatch Q (c.left - 1) ns [] × AreLeft from (e.newest ∷ e.log) Q (c.left - 1)
      × (first_of (Q 0) ≡ page.content.right)
  one S Q e shows l n stay w x =
      let left : ℕ = c.left - 1 in
      let is : c.left ≡ suc left = omega (arith, some) in
      let had : IsBatch e.pages (suc left) (noted ∷ ns) [] =
      subst (λ (ms : List ℕ). IsBatch e.pages (suc left) ms []) (drop_at c.counts.items c.gone noted at)
      (subst (λ (k : ℕ). IsBatch e.pages k (drop c.gone c.counts.items) []) is x.0) in
      let b = batch_grows.batch e.pages e.then (suc left) (noted ∷ ns) [] had l n stay in
      let y = left_grows from e.had e.later e.log e.pages e.then e.goes_on e.some e.legal e.shown e.adds
      (omega (arith, began, e.size)) (suc left) l (subst (AreLeft from e.had e.pages) is x.1) in
      let same = chain_one e.then (first_of (e.then 0)) b.gathered.line y.line b.gathered.is_line y.is_line in
      let whole = subst (λ (qs : List ℕ). AreApart (rows_on e.then (take (suc left) qs)) (rows_on e.then
      (drop (suc left) qs))) same b.gathered.whole in
      let made : AreMade Q e.newest s.after = (e.leaves).here in
      let here = (subst (AreMade Q e.newest) step.after_is made).0 in
      let meta_now : Q 0 ≡ made_by e.newest step.meta_then =
      subst (λ (k : ℕ). Q k ≡ made_by e.newest step.meta_then) number here in (
        shifted e.then Q left noted ns [] b w,
        left_goes from e.log e.newest e.then Q left
            (omega (arith, began, e.size, ap length e.goes_on, length-append e.later e.had)) shows w y whole,
        ap first_of meta_now
            ∙ ap (λ (k : Kind). first_in (drawn_body k step.meta_then.body)) e.kind_is
            ∙ ap (λ (z : Page). first_in (drawn_body kind.Shift z.body)) (step.meta_is).same,
      )

  pub after_shift : Seen device f p Before
      → Seen device g q (λ S Q. IsBatch Q (c.left - 1) (drop (suc c.gone) c.counts.items) []
      × AreLeft from S Q (c.left - 1) × (first_of (Q 0) ≡ page.content.right))
  after_shift = over device f g p q (page ∷ meta ∷ []) s may logs.cleans.added logs.seen logs.all
      Before (λ S Q. IsBatch Q (c.left - 1) (drop (suc c.gone) c.counts.items) [] × AreLeft from S Q (c.left - 1)
      × (first_of (Q 0) ≡ page.content.right)) one
