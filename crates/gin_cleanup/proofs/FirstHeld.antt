-- The metapage and the first page of the list, which are held.
use Rattle.std.proofs.Common.{◌≡◌, ◌≤◌, ◌-◌, ℕ, List, [], ◌∷◌, ◌++◌, length, take, sym, ap, subst, ◌∙◌, inl}
use Rattle.std.proofs.Common.{arith}
use Rattle.std.specs.Prelude.{◌<◌}
use Rattle.disk_trait.specs.declared.device.Disk.{Ghosts as Disk}
use Rattle.page_types.specs.Views.{first_in, first_of}
use Rattle.page_types.specs.declared.page.Body.TheVariants as body
use Rattle.core_state.specs.Log.{Log, Pages, Shows, cut}
use Rattle.core_state.specs.Legal.{IsLegal}
use Rattle.core_state.specs.States.{StateTells}
use Rattle.core_state.specs.Allowed.{Sheet}
use Rattle.core_state.specs.Index.{Line}
use Rattle.core_state.proofs.Showing.{shown_one}
use Rattle.buffer_frames.specs.Frames.{FramesValue}
use Rattle.buffer_frames.specs.Passes.{IsPassOf, IsHolding, Seen}
use Rattle.buffer_frames.specs.declared.pass.Pass.{Pass}
use Rattle.buffer_frames.proofs.AtHand.{cut_length, cut_whole, log_length, none_held, parts_of}
use Rattle.buffer_frames.proofs.Begun.{same_by_none}
use Rattle.buffer_frames.proofs.FirstLogs.{shown_by}
use Rattle.buffer_frames.proofs.HistoryParts.{legal_before}
use Rattle.gin_place.specs.Causes.{CannotUse}
use Rattle.gin_place.specs.Placing.{HasRight}
use Rattle.gin_place.specs.Going.{WorksOn}
use Rattle.gin_place.proofs.Carrying.{right_on}
use Rattle.gin_cleanup.specs.Cleaning.{IsAt, IsCleaning}
use Rattle.gin_cleanup.specs.Gathering.{IsBatch}
use Rattle.gin_cleanup.specs.Going.{IsRowPage, IsBadList}
use Rattle.gin_cleanup.specs.Inner.Shifting.{IsFirst}
use Rattle.gin_cleanup.specs.declared.cleanup.Cleanup.{Cleanup}
use Rattle.gin_cleanup.specs.declared.cleanup.Stage.{Stage}
use Rattle.gin_cleanup.specs.declared.cleanup.Stage.TheVariants as stage
use Rattle.gin_cleanup.proofs.BadRows.{IsOnList, bad_rows}
use Rattle.gin_cleanup.proofs.ListKept.{carried}

-- a list with a page that is left has a first one
some_first : (P : Pages) (left : ℕ) (ms : List ℕ) → IsBatch P left ms [] → 0 < left → (q : ℕ) × IsFirst P q
some_first P left ms b some = by b.gathered.line b.gathered.is_line b.gathered.enough
  where
    by : (line : List ℕ) → Line P line → left ≤ length line → (q : ℕ) × IsFirst P q
    by [] on enough = absurd (omega (arith, some, enough))
    by (q ∷ rest) on enough = (q, (rest, on))

pub has_first : {D : Type 0} (device : Disk D) (f : FramesValue D) (p : Pass) (from : ℕ) (c : Cleanup) → 0 < c.left
    → c.stage ≡ stage.Shifting → IsCleaning device f p from c → Seen device f p (λ S P. (q : ℕ) × IsFirst P q)
has_first device f p from c some is x t up R stands legal P shown =
    some_first P c.left _ (subst (λ (s : Stage). IsAt P c s) is (x.at t up R stands legal P shown)) some

-- from where a list had a first page until the metapage is held
module _ {D : Type 0} (device : Disk D) (f g : FramesValue D) (p q : Pass) (of : IsPassOf f p) (right : HasRight p)
    (none : p.held ≡ 0) (works : WorksOn device f p g q []) (some : Seen device f p (λ S P. (n : ℕ) × IsFirst P n))
    (meta : Sheet) (first last n : ℕ) (number : meta.page ≡ 0) (names : meta.content.body ≡ body.Meta first last n)
    (hold : IsHolding device g q (meta ∷ [])) (seen : Seen device g q (λ S P. P meta.page ≡ meta.content)) where
  -- it has one still
  first_stays : Seen device g q (λ S P. (m : ℕ) × IsFirst P m)
  first_stays =
      carried device f g p q [] [] (none_held device f p of none) of right works (λ P. (m : ℕ) × IsFirst P m)
      (λ P Q grows new kept x. let l = grows (x.0 ∷ x.1.0) x.1.1 in (x.0, (x.1.0 ++ l.more, l.line))) some

  -- the one that the metapage names
  first_on : Seen device g q (λ S P. IsOnList P first)
  first_on t up R stands legal P shown =
      let x = first_stays t up R stands legal P shown in
      let page_is : P 0 ≡ meta.content =
      subst (λ (k : ℕ). P k ≡ meta.content) number (seen t up R stands legal P shown) in
      let is : first ≡ x.0 = sym (ap first_of page_is ∙ ap first_in names) ∙ x.1.1.0 in
      (x.0 ∷ x.1.0, x.1.1, inl is)

  -- where it has no rows of documents it is a bad one
  pub first_bad : CannotUse g IsRowPage first → IsBadList device g q first
  first_bad =
      bad_rows device g q (meta ∷ []) hold works.is_pass (right_on device f g p q [] right works) first first_on

-- Both are as the log shows them: the pass had seen all of it when the metapage was held, and there is no more.
pub both_seen : {D : Type 0} (device : Disk D) (f g : FramesValue D) (p q : Pass) (page meta : Sheet) → IsPassOf f p
    → Seen device f p (λ S P. StateTells S f.journal.state) → WorksOn device f p g q []
    → IsHolding device g q (page ∷ meta ∷ []) → meta.page ≡ 0
    → Seen device g q (λ S P. (P 0 ≡ meta.content) × (P page.page ≡ page.content))
both_seen device f g p q page meta of told works hold number t up R stands legal P shown =
    let back = works.added.back t up R stands in
    let B : Log = back.0 in
    let S : Log = cut p.seen B in
    let legal_B : IsLegal B = subst IsLegal (same_by_none f.journal.owes B R back.2) legal in
    let legal_S : IsLegal S =
    legal_before (take (length B - p.seen) B) S (subst IsLegal (parts_of p.seen B) legal_B) in
    let had = shown_by S legal_S.valid in
    let records : f.journal.state.records ≡ length S =
    (told t (works.added.was_up up) B back.1 legal_B had.0 had.1).records in
    let long : f.journal.state.records ≡ length B = log_length device f.journal B back.1.journal in
    let size : length S ≡ p.seen = cut_length p.seen B (omega (arith, of.seen, long)) in
    let no_more : g.journal.state.records ≡ f.journal.state.records = works.goes.records in
    let all : q.seen ≡ g.journal.state.records =
    omega (arith, works.is_pass.seen, works.rises.seen, no_more, records, size) in
    let a = hold.allowed t up R stands legal in
    let whole : cut q.seen R ≡ R = cut_whole q.seen R (all ∙ log_length device g.journal R stands.journal) in
    let same = shown_one R a.pages P a.shown (subst (λ (S : Log). Shows S P) whole shown) in (
      subst (λ (k : ℕ). P k ≡ meta.content) number
          (subst (λ (Q : Pages). Q meta.page ≡ meta.content) same (a.held).1.0),
      subst (λ (Q : Pages). Q page.page ≡ page.content) same (a.held).0,
    )
