-- Where a batch ends: nothing is at work then.
use Rattle.std.proofs.Common.{◌≡◌, ◌≢◌, ◌≤◌, ◌-◌, ℕ, List, [], length, take, sym, ap}
use Rattle.std.proofs.Common.{subst, ◌∙◌, inl, inr, arith}
use Rattle.std.specs.Prelude.{◌<◌, Vec}
use Rattle.std.specs.declared.alloc.Global.{Global}
use Rattle.disk_trait.specs.declared.device.Disk.{Ghosts as Disk}
use Rattle.page_types.specs.Views.{rows_of}
use Rattle.page_types.specs.declared.page.Row.{Row}
use Rattle.core_state.specs.Log.{Pages, In, cut}
use Rattle.core_state.specs.Legal.{IsLegal}
use Rattle.core_state.proofs.LawsHold.{pages as pages_told}
use Rattle.core_state.proofs.PageLists.{in_front, in_either}
use Rattle.core_state.proofs.Trees.Members.{in_map}
use Rattle.buffer_frames.specs.Frames.{FramesValue}
use Rattle.buffer_frames.specs.Passes.{Seen}
use Rattle.buffer_frames.specs.declared.pass.Pass.{Pass}
use Rattle.buffer_frames.proofs.AtHand.{parts_of}
use Rattle.buffer_frames.proofs.HistoryParts.{legal_before}
use Rattle.gin_cleanup.specs.Cleaning.{waits_in, waits_of, IsReadingAt, IsAt, AreGone, IsCleaning}
use Rattle.gin_cleanup.specs.Gathering.{Wait, IsBatch}
use Rattle.gin_cleanup.specs.NextPage.{IsNext}
use Rattle.gin_cleanup.specs.Inner.Between.{IsBetween}
use Rattle.gin_cleanup.specs.Inner.Noting.{GoesOnWith}
use Rattle.gin_cleanup.specs.declared.cleanup.Cleanup.{Cleanup}
use Rattle.gin_cleanup.specs.declared.cleanup.Stage.{Stage}
use Rattle.gin_cleanup.specs.declared.cleanup.Stage.TheVariants as stage
use Rattle.gin_cleanup.proofs.Reading.{placed_need_not_wait, all_read, ends_before}
use Rattle.gin_cleanup.proofs.RowLists.{counted_few}

module _ {D : Type 0} (device : Disk D) (f : FramesValue D) (p : Pass) (from : ℕ) (c : Cleanup) (page : ℕ)
    (b : Vec ℕ Global) (at : c.stage ≡ stage.Reading page b) (was : IsCleaning device f p from c) where
  abbrev here : List Wait
  here = waits_of c.gathered (stage.Reading page b)

  was_at : Seen device f p (λ S P. IsReadingAt P c.left c.counts.items here b.items page)
  was_at = subst (λ (s : Stage). Seen device f p (λ S P. IsAt P c s)) at was.at

  into : (x : Wait) → In x (waits_in c.gathered) → In x (waits_of c.gathered c.stage)
  into x i =
      subst (λ (s : Stage). In x (waits_of c.gathered s)) (sym at) (in_front x (waits_in c.gathered) [] i)

  -- no key is at work
  less : (P : Pages) → IsBatch P c.left c.counts.items here → IsBatch P c.left c.counts.items (waits_in c.gathered)
  less P batch =
      placed_need_not_wait P c.left c.counts.items here (waits_in c.gathered) batch
      (λ x i. inr (elim (in_either x (waits_in c.gathered) [] i) [ inl j ↦ j | inr j ↦ absurd j ]))

  between : Seen device f p (λ S P. IsBatch P c.left c.counts.items here) → c.counts.items ≢ []
      → IsBetween device f p from c
  between batch some = record {
    began = was.began;
    batch = λ t up R stands legal P shown. less P (batch t up R stands legal P shown);
    gone = subst (AreGone c) at was.gone;
    some = some;
    linked = λ x i. was.linked x (into x i);
    pairs = λ x i. was.pairs x (into x i);
    left = was.left;
  }

  -- all pages that are left were read
  pub all_between : c.left ≤ length c.counts.items → 0 < c.left → IsBetween device f p from c
  all_between all some =
      between
      (λ t up R stands legal P shown.
      let x = was_at t up R stands legal P shown in
      all_read P c.left c.counts.items here x.0
      (omega (arith, all, (counted_few P c.left c.counts.items x.0.line x.0.counted).0)))
      (λ e. omega (arith, all, some, ap length e))

  -- or the first row of the page that is next is of no item on the page before it
  module _ (few : length c.counts.items < c.left) (some : c.counts.items ≢ []) (rows : List Row)
      (on : Seen device f p (λ S P. rows_of (P page) ≡ rows)) (other : GoesOnWith rows b.items → ⊥) where
    ends : Seen device f p (λ S P. IsBatch P c.left c.counts.items here)
    ends t up R stands legal P shown = go (was_at t up R stands legal P shown)
      where
        legal_S : IsLegal (cut p.seen R)
        legal_S =
            legal_before (take (length R - p.seen) R) (cut p.seen R) (subst IsLegal (parts_of p.seen R) legal)

        by : (x : IsReadingAt P c.left c.counts.items here b.items page)
            → IsNext P c.left c.counts.items x.0.line b.items page → IsBatch P c.left c.counts.items here
        by x (IsNext.none all) = absurd (omega (arith, all, few))
        by x (IsNext.first rest none e) = absurd (some none)
        by x (IsNext.later front rest q e size items) =
            ends_before (cut p.seen R) P (pages_told (cut p.seen R) P legal_S shown).list c.left c.counts.items here x.0
            front rest q page e size
            (λ w v vs i is same.
            other (subst (λ (ws : List Row). GoesOnWith ws b.items) (sym is ∙ on t up R stands legal P shown)
            (subst (λ (n : ℕ). In n b.items) same
            (subst (In w.item) (sym items) (in_map (λ (y : Row). y.item) w (rows_of (P q)) i)))))

        go : IsReadingAt P c.left c.counts.items here b.items page → IsBatch P c.left c.counts.items here
        go x = by x x.1

    pub before_between : IsBetween device f p from c
    before_between = between ends some
