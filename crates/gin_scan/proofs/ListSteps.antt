-- Steps along the pending list.
use Rattle.std.proofs.Common.{◌≡◌, ◌≢◌, ℕ, zero, suc, ◌+◌, ◌-◌, ◌*◌, ◌^◌, ◌<◌, ◌≤◌, Bool, true, false, List, []}
use Rattle.std.proofs.Common.{◌∷◌, ◌++◌, length, cond}
use Rattle.std.proofs.Common.{refl, sym, ap, subst, ◌∙◌, arith}
use Rattle.std.proofs.lemmas.List.{length-map}
use Rattle.disk_trait.specs.declared.device.Disk.{Ghosts as Disk}
use Rattle.page_types.specs.Pages.{IsPage}
use Rattle.page_types.specs.Views.{kept_rows_of, first_of}
use Rattle.page_types.specs.declared.page.Page.{Page}
use Rattle.page_types.specs.declared.page.Row.{Row}
use Rattle.core_state.specs.Log.{Log}
use Rattle.core_state.specs.Legal.{Pin}
use Rattle.core_state.specs.Readings.{WasShown, AreReads}
use Rattle.gin_opclass.specs.Class.{Asked, Meaning}
use Rattle.core_moments.specs.Walk.{rightward, sought_of}
use Rattle.buffer_frames.specs.Frames.{FramesValue, Lies}
use Rattle.buffer_frames.specs.Passes.{IsPassOf}
use Rattle.buffer_frames.specs.declared.pass.Pass.{Pass}
use Rattle.buffer_frames.proofs.AtHand.{log_length}
use Rattle.buffer_frames.proofs.FirstLogs.{shown_by}
use Rattle.gin_hits.specs.Rows.{asked_by, lists_of, first_of_rows, AreNoted}
use Rattle.gin_hits.specs.Ordered.{asked_at}
use Rattle.gin_hits.proofs.ToldHits.{lists_length}
use Rattle.gin_scan.specs.Reading.{ReadsList}
use Rattle.gin_scan.specs.Scanning.{AsksFor, IsScan, HasRead, IsScanOf, asked_in, order_in, sought_in, stages_left}
use Rattle.gin_scan.specs.Scanning.{steps_of, steps_left}
use Rattle.gin_scan.specs.Ways.{sought_by}
use Rattle.gin_scan.specs.declared.scan_core.ScanCore.{ScanCore}
use Rattle.gin_scan.specs.declared.stage.Stage.{Stage}
use Rattle.gin_scan.specs.declared.stage.Stage.TheVariants as stage
use Rattle.gin_scan.proofs.Growing.{reads_more}
use Rattle.gin_scan.proofs.ListRead.{now, read_now, meta_read, page_read, list_further}
use Rattle.gin_scan.proofs.StepsTaken.{Known}

-- the log of frames over which there is a pass isn't empty
pub log_some : {D : Type 0} (device : Disk D) (f : FramesValue D) (pass : Pass) (R : Log) (pin : Pin) → IsPassOf f pass
    → Known device f R pin → R ≢ []
log_some device f pass R pin of known e =
    let long = log_length device f.journal R known.stands.journal in
    omega (arith, of.some, of.seen, long, ap length e)

-- what lies in memory was shown
pub was_shown : {D : Type 0} (device : Disk D) (f : FramesValue D) (R : Log) (pin : Pin)
    → Known device f R pin → (p : ℕ) (c : Page) → IsPage c → Lies f p c → WasShown R (now R p c)
was_shown device f R pin known p c is lies =
    let P = shown_by R known.legal.valid in
    read_now device f R known.told known.up known.stands known.legal P.0 P.1 p c is lies

-- a key is asked for each operand of the query
pub keys_asked : {Q : Type 0} (M : Meaning Q) (q : Q) (s : ScanCore) → AsksFor M q s
    → length s.keys.keys.items ≡ length (M.asked q)
keys_asked M q s asks = sym (length-map s.keys.keys.items asked_by) ∙ ap length asks.asked

pub lists_asked : {Q : Type 0} (M : Meaning Q) (q : Q) (s : ScanCore) → IsScan s → AsksFor M q s
    → length (lists_of s.pending) ≡ length (M.asked q)
lists_asked M q s is asks =
    lists_length s.pending ∙ is.pending ∙ keys_asked M q s asks

module _ {D Q : Type 0} (device : Disk D) (M : Meaning Q) (q : Q) (f : FramesValue D) (pass : Pass) (s s' : ScanCore)
    (of : IsPassOf f pass) (is : IsScan s) (asks : AsksFor M q s) (R : Log) (pin : Pin) (known : Known device f R pin)
    (o : IsScanOf M q R pin s) where
  -- the metapage was read
  pub meta_step : (c : Page) → IsPage c → Lies f 0 c → s.stage ≡ stage.Meta → s'.pages_read ≤ suc s.pages_read
      → s' ≡ record s { stage = stage.Pending (first_of c) s.extent; pages_read = s'.pages_read }
      → IsScanOf M q R pin s'
  meta_step c page lies at one same =
      let now_at : s'.stage ≡ stage.Pending (first_of c) s.extent = ap (λ (z : ScanCore). z.stage) same in
      record {
        from = o.from;
        since = o.since;
        within = o.within;
        below = λ P p shown used. subst (λ (n : ℕ). p < n) (sym (ap (λ (z : ScanCore). z.extent) same))
            (o.below P p shown used);
        read = subst (HasRead M q R pin o.from s') (sym now_at)
            (meta_read (AreReads R o.from) (now R 0 c) (M.asked q) s s' refl
            (o.within, omega arith, was_shown device f R pin known 0 c page lies, tt)
            (subst (HasRead M q R pin o.from s) at o.read) (lists_asked M q s is asks) one
            (same ∙ ap (λ (z : Stage). record s { stage = z; pages_read = s'.pages_read }) (sym now_at)));
      }

  -- a page of the list was read
  pub page_step : (page left : ℕ) (c : Page) → IsPage c → Lies f page c → s.stage ≡ stage.Pending page left → page ≢ 0
      → left ≢ 0
      → ((rows : List Row) → AreNoted (asked_in s) rows s.pending
      → AreNoted (asked_in s) (rows ++ kept_rows_of c) s'.pending)
      → s'.first_item ≡ cond s.has_begun s.first_item (first_of_rows (kept_rows_of c))
      → s'.pages_read ≤ suc s.pages_read
      → s' ≡ record s {
        pending = s'.pending;
        has_begun = true;
        first_item = s'.first_item;
        stage = stage.Pending (rightward c) (left - 1);
        pages_read = s'.pages_read;
      } → IsScanOf M q R pin s'
  page_step page left c is_page lies at some more noted first one same =
      let r : ReadsList R o.from (M.asked q) s page left = subst (HasRead M q R pin o.from s) at o.read in
      let now_at : s'.stage ≡ stage.Pending (rightward c) (left - 1) = ap (λ (z : ScanCore). z.stage) same in
      record {
        from = o.from;
        since = o.since;
        within = o.within;
        below = λ P p shown used. subst (λ (n : ℕ). p < n) (sym (ap (λ (z : ScanCore). z.extent) same))
            (o.below P p shown used);
        read = subst (HasRead M q R pin o.from s') (sym now_at)
            (page_read (AreReads R o.from) (now R page c) (M.asked q) s s' page left refl some more r
            (reads_more R o.from (r.meta ∷ r.pending) (now R page c) r.reads o.within refl
            (was_shown device f R pin known page c is_page lies))
            (subst (λ (asked : List Asked). (rows : List Row) → AreNoted asked rows s.pending
            → AreNoted asked (rows ++ kept_rows_of c) s'.pending) asks.asked noted)
            first one
            (same ∙ ap (λ (z : Stage). record s {
              pending = s'.pending;
              has_begun = true;
              first_item = s'.first_item;
              stage = z;
              pages_read = s'.pages_read;
            }) (sym now_at)));
      }

  -- pages go further
  pub further_step : (page more : ℕ) → s.stage ≡ stage.Pending page 0
      → s' ≡ record s { stage = stage.Pending page more; extent = s.extent + more } → IsScanOf M q R pin s'
  further_step page more at same =
      let now_at : s'.stage ≡ stage.Pending page more = ap (λ (z : ScanCore). z.stage) same in
      let far : s'.extent ≡ s.extent + more = ap (λ (z : ScanCore). z.extent) same in
      let r : ReadsList R o.from (M.asked q) s page 0 = subst (HasRead M q R pin o.from s) at o.read in
      record {
        from = o.from;
        since = o.since;
        within = o.within;
        below = λ P p shown used. omega (arith, o.below P p shown used, far);
        read = subst (HasRead M q R pin o.from s') (sym now_at)
            (subst (λ (z : ScanCore). ReadsList R o.from (M.asked q) z page more) (sym same)
            (list_further (AreReads R o.from) (M.asked q) s page more (stage.Pending page more) r));
      }

-- ── the bound on steps ──

pub steps_at : (s : ScanCore) (z : Stage) → s.stage ≡ z → steps_left s ≡ stages_left z * 2 ^ 200 + steps_of s z
steps_at s z e = ap (λ (y : Stage). stages_left y * 2 ^ 200 + steps_of s y) e

pub meta_lower : (s s' : ScanCore) (page : ℕ) → s.stage ≡ stage.Meta → s'.stage ≡ stage.Pending page s.extent
    → s'.extent ≡ s.extent → steps_left s' < steps_left s
meta_lower s s' page at to same =
    let a = steps_at s stage.Meta at in
    let b = steps_at s' (stage.Pending page s.extent) to in
    let c : 2 ^ 32 - s'.extent ≡ 2 ^ 32 - s.extent = ap (λ (n : ℕ). 2 ^ 32 - n) same in
    omega (arith, a, b, c)

pub page_lower : (s s' : ScanCore) (page next left : ℕ) → s.stage ≡ stage.Pending page left
    → s'.stage ≡ stage.Pending next (left - 1) → left ≢ 0 → s'.extent ≡ s.extent → steps_left s' < steps_left s
page_lower s s' page next left at to some same =
    let a = steps_at s (stage.Pending page left) at in
    let b = steps_at s' (stage.Pending next (left - 1)) to in
    let c : 2 ^ 32 - s'.extent ≡ 2 ^ 32 - s.extent = ap (λ (n : ℕ). 2 ^ 32 - n) same in
    omega (arith, a, b, c, one_more left some)
  where
    one_more : (n : ℕ) → n ≢ 0 → 1 ≤ n
    one_more zero off = absurd (off refl)
    one_more (suc n) off = omega arith

pub further_lower : (s s' : ScanCore) (page more : ℕ) → s.stage ≡ stage.Pending page 0
    → s'.stage ≡ stage.Pending page more → s'.extent ≡ s.extent + more → 0 < more → s'.extent < 2 ^ 32
    → steps_left s' < steps_left s
further_lower s s' page more at to far some within =
    omega (arith, steps_at s (stage.Pending page 0) at, steps_at s' (stage.Pending page more) to, far, some, within)

-- the walks through the tree are no more than the keys that are asked, of which a Vec has no more than it may
pub few_sought : (s : ScanCore) → length s.order.items < 2 ^ 63 → length (sought_in s) < 2 ^ 63
few_sought s few = by s.keys.all
  where
    by : (all : Bool) → length (sought_by all (order_in s)) < 2 ^ 63
    by true = omega arith
    by false = omega (
      arith,
      few,
      length-map (order_in s) sought_of,
      length-map s.order.items (asked_at s.keys.keys.items),
    )
