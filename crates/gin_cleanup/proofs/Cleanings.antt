-- Where a cleanup stands when it begins, and after calls that log nothing.
use Rattle.std.proofs.Common.{◌≡◌, ◌≢◌, ◌-◌, ℕ, List, [], ◌∷◌, length, take, drop, refl, sym, ap, subst}
use Rattle.std.proofs.Common.{◌∙◌, ◌≤◌, arith}
use Rattle.std.specs.Prelude.{◌+◌, Vec}
use Rattle.std.specs.declared.alloc.Global.{Global}
use Rattle.disk_trait.specs.declared.device.Disk.{Ghosts as Disk}
use Rattle.page_types.specs.Views.{first_in, first_of}
use Rattle.page_types.specs.declared.page.Page.{Page}
use Rattle.page_types.specs.declared.page.Body.TheVariants as body
use Rattle.core_state.specs.Log.{Log, Pages, In, cut}
use Rattle.core_state.specs.Allowed.{Sheet}
use Rattle.core_state.specs.Legal.{IsLegal}
use Rattle.core_state.proofs.LawsHold.{pages as pages_told}
use Rattle.core_maintenance.specs.Keeping.{PairsStay, LineGrows}
use Rattle.core_maintenance.specs.FreshRows.{RowsAreFresh}
use Rattle.buffer_frames.specs.Frames.{FramesValue}
use Rattle.buffer_frames.specs.Passes.{IsPassOf, IsHolding, Seen}
use Rattle.buffer_frames.specs.declared.pass.Pass.{Pass}
use Rattle.buffer_frames.proofs.AtHand.{cut_length, log_length, parts_of}
use Rattle.buffer_frames.proofs.HistoryParts.{legal_before}
use Rattle.gin_place.specs.Going.{WorksOn}
use Rattle.gin_place.specs.Placing.{HasRight}
use Rattle.gin_place.specs.Holding.{ReadsOn}
use Rattle.gin_place.proofs.Kept.{placing_still}
use Rattle.gin_cleanup.specs.Cleaning.{waits_of, IsReadingAt, IsAt, IsKeyAt, AreLeft, IsCleaning}
use Rattle.gin_cleanup.specs.Gathered.{KeyItems}
use Rattle.gin_cleanup.specs.Gathering.{Wait, IsGathered}
use Rattle.gin_cleanup.specs.NextPage.{IsNext}
use Rattle.gin_cleanup.specs.declared.cleanup.Cleanup.{Cleanup}
use Rattle.gin_cleanup.specs.declared.cleanup.Stage.{Stage}
use Rattle.gin_cleanup.specs.declared.cleanup.Stage.TheVariants as stage
use Rattle.gin_cleanup.proofs.Growing.{batch_grows}
use Rattle.gin_cleanup.proofs.Reading.{batch_begins}
use Rattle.gin_cleanup.proofs.NextPages.{next_begins, next_stays}
use Rattle.gin_cleanup.proofs.ListKept.{carried, carried_by}
use Rattle.gin_cleanup.proofs.StillLeft.{left_begins, left_grows}

-- what was read, and the page that is next, stay where the list grows
pub reading_stays : (left : ℕ) (ns : List ℕ) (W : List Wait) (before : List ℕ) (page : ℕ) (P Q : Pages) → LineGrows P Q
    → RowsAreFresh P Q → PairsStay P Q → IsReadingAt P left ns W before page → IsReadingAt Q left ns W before page
reading_stays left ns W before page P Q grows new kept x =
    let y = batch_grows.gathered P Q left ns W x.0 grows new kept in
    (y, next_stays P Q left ns W W before page x.0 y grows new x.1)

pub no_waits : (es : KeyItems) (page : ℕ) (b : Vec ℕ Global) → es ≡ [] → waits_of es (stage.Reading page b) ≡ []
no_waits es page b e = ap (λ (xs : KeyItems). waits_of xs (stage.Reading page b)) e

pub not_empty : (n : ℕ) (R : Log) → 0 + 1 ≤ n → length R ≡ n → R ≢ []
not_empty n R some size e = omega (arith, some, size, ap length e)

same_names : (a b c first last n : ℕ) → body.Meta a b c ≡ body.Meta first last n → (a ≡ first) × (c ≡ n)
same_names a b c first last n e = (cc, cc)

module _ {D : Type 0} (device : Disk D)
    (f g : FramesValue D) (p q : Pass) (h : Sheet) (hold : IsHolding device f p (h ∷ [])) (of : IsPassOf f p)
    (right : HasRight p) (works : WorksOn device f p g q []) (first last n : ℕ) (number : h.page ≡ 0)
    (is : h.content.body ≡ body.Meta first last n) (seen : Seen device f p (λ S P. P h.page ≡ h.content)) where
  -- what the metapage that is held says of the log that the pass has seen
  begins : Seen device f p (λ S P. IsReadingAt P n [] [] [] first × AreLeft p.seen S P n)
  begins t up R stands legal P shown =
      let S : Log = cut p.seen R in
      let legal_S : IsLegal S =
      legal_before (take (length R - p.seen) R) S (subst IsLegal (parts_of p.seen R) legal) in
      let list = (pages_told S P legal_S shown).list in
      let long : f.journal.state.records ≡ length R = log_length device f.journal R stands.journal in
      let size : length S ≡ p.seen = cut_length p.seen R (omega (arith, of.seen, long)) in
      let m = list.meta (not_empty p.seen S (omega (arith, of.some)) size) in
      let page_is : P 0 ≡ h.content =
      subst (λ (x : ℕ). P x ≡ h.content) number (seen t up R stands legal P shown) in
      let names = same_names m.0 m.1 (length list.pages) first last n
      (sym m.2 ∙ ap (λ (c : Page). c.body) page_is ∙ is) in
      let first_is : first_of (P 0) ≡ first = ap first_in m.2 ∙ names.0 in
      let x : IsGathered P n [] [] =
      subst (λ (k : ℕ). IsGathered P k [] []) names.1 (batch_begins P list.pages list.is_line) in (
        (x, subst (IsNext P n [] x.line []) first_is (next_begins P x.line x.is_line n x.enough)),
        left_begins S P list p.seen n shown (sym size) (sym names.1),
      )

  then : Seen device g q (λ S P. IsReadingAt P n [] [] [] first × AreLeft p.seen S P n)
  then = carried_by device f g p q [] (h ∷ []) hold of right works
      (λ S P. IsReadingAt P n [] [] [] first × AreLeft p.seen S P n)
      (λ S P. IsReadingAt P n [] [] [] first × AreLeft p.seen S P n)
      (λ C later S P Q is size legal shown_P shown_Q adds grows new kept x. (
        reading_stays n [] [] [] first P Q grows new kept x.0,
        left_grows p.seen C later S P Q is (not_empty p.seen C (omega (arith, of.some)) size) legal shown_P adds
            (omega (arith, size)) n grows x.1,
      )) begins

  pub begun : (turns : ℕ) (v b : Vec ℕ Global) (es : KeyItems) → v.items ≡ [] → b.items ≡ [] → es ≡ []
      → IsCleaning device g q p.seen
      (record { left = n; counts = v; gone = 0; turns = turns; gathered = es; stage = stage.Reading first b })
  begun turns v b es v_is b_is es_is = record {
    began = works.rises.seen;
    at = λ t up R stands legal P shown.
        subst (λ (ns : List ℕ). IsReadingAt P n ns (waits_of es (stage.Reading first b)) b.items first) (sym v_is)
        (subst (λ (ws : List Wait). IsReadingAt P n [] ws b.items first) (sym (no_waits es first b es_is))
        (subst (λ (bs : List ℕ). IsReadingAt P n [] [] bs first) (sym b_is)
        (then t up R stands legal P shown).0));
    gone = refl;
    linked = λ x i. absurd (subst (In x) (no_waits es first b es_is) i);
    pairs = λ x i. absurd (subst (In x) (no_waits es first b es_is) i);
    placing = tt;
    left = λ t up R stands legal P shown. (then t up R stands legal P shown).1;
  }

module _ {D : Type 0} (device : Disk D)
    (f g : FramesValue D) (p q : Pass) (held : List Sheet) (hold : IsHolding device f p held) (of : IsPassOf f p)
    (right : HasRight p) (reads : ReadsOn device f p g q) where
  at_still : (c : Cleanup) (s : Stage) → Seen device f p (λ S P. IsAt P c s) → Seen device g q (λ S P. IsAt P c s)
  at_still c (stage.Reading page before) =
      carried device f g p q [] held hold of right reads.works
      (λ P. IsAt P c (stage.Reading page before))
      (reading_stays c.left c.counts.items (waits_of c.gathered (stage.Reading page before)) before.items page)
  at_still c (stage.Placing key items placing) =
      carried device f g p q [] held hold of right reads.works
      (λ P. IsAt P c (stage.Placing key items placing))
      (λ P Q grows new kept b. batch_grows.batch P Q c.left c.counts.items
      (waits_of c.gathered (stage.Placing key items placing)) b grows new kept)
  at_still c stage.Shifting =
      carried device f g p q [] held hold of right reads.works (λ P. IsAt P c stage.Shifting)
      (λ P Q grows new kept b. batch_grows.batch P Q c.left (drop c.gone c.counts.items) [] b grows new kept)

  left_still : (from n : ℕ) → from ≤ p.seen → Seen device f p (λ S P. AreLeft from S P n)
      → Seen device g q (λ S P. AreLeft from S P n)
  left_still from n began =
      carried_by device f g p q [] held hold of right reads.works (λ S P. AreLeft from S P n)
      (λ S P. AreLeft from S P n)
      (λ C later S P Q is size legal shown_P shown_Q adds grows new kept x.
      left_grows from C later S P Q is (not_empty p.seen C (omega (arith, of.some)) size) legal shown_P adds
      (omega (arith, began, size)) n grows x)

  key_still : (s : Stage) → IsKeyAt device f p s → IsKeyAt device g q s
  key_still (stage.Placing key items placing) k =
      (k.0, k.1, placing_still device f g p q reads key.items items.items placing k.2)
  key_still (stage.Reading page before) k = tt
  key_still stage.Shifting k = tt

  -- calls that log nothing leave a cleanup where it is
  pub cleaning_still : (from : ℕ) (c : Cleanup) → IsCleaning device f p from c → IsCleaning device g q from c
  cleaning_still from c x = record {
    began = omega (arith, x.began, reads.works.rises.seen);
    at = at_still c c.stage x.at;
    gone = x.gone;
    linked = λ w i. reads.works.pairs.pending w.key w.item (x.linked w i);
    pairs = x.pairs;
    placing = key_still c.stage x.placing;
    left = left_still from c.left x.began x.left;
  }
