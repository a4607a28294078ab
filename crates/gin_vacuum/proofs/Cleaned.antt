-- A sweep once dead items have left a leaf, where it had some.
use Rattle.std.proofs.Common.{◌≡◌, ◌≢◌, ℕ, List, [], ◌∷◌, refl, sym, ap, subst, ◌∙◌, inl, inr}
use Rattle.std.specs.Prelude.{Option, Some, None}
use Rattle.disk_trait.specs.declared.device.Disk.{Ghosts as Disk}
use Rattle.page_types.specs.Views.{slots_in, slot_at}
use Rattle.page_types.specs.declared.page.Page.{Page}
use Rattle.page_types.specs.declared.page.Head.{Head}
use Rattle.page_types.specs.declared.page.Body.{Body}
use Rattle.core_state.specs.Log.{Log, Pages, In, Shows, cut}
use Rattle.core_state.specs.Allowed.{Sheet}
use Rattle.core_state.specs.Documents.{head_of, page_of, slot_of}
use Rattle.core_state.specs.Index.{Below}
use Rattle.core_state.specs.Legal.{IsLegal}
use Rattle.core_state.specs.TreeRules.{IsRoot}
use Rattle.core_state.specs.VacuumRules.{MayLeave}
use Rattle.core_state.proofs.PageLists.{same_or_not}
use Rattle.core_vacuum.specs.Keeping.{VacuumHolds}
use Rattle.core_vacuum.proofs.Out.{leave_kept}
use Rattle.posting_tree.specs.Removing.{IsLeafLeft}
use Rattle.buffer_frames.specs.Frames.{FramesValue}
use Rattle.buffer_frames.specs.Passes.{Seen, view_of}
use Rattle.buffer_frames.specs.declared.pass.Pass.{Pass}
use Rattle.gin_vacuum.specs.Vacuum.{AreDead}
use Rattle.gin_vacuum.specs.Sweeping.{IsAt}
use Rattle.gin_vacuum.specs.Inner.Logging.{LogsStep}
use Rattle.gin_vacuum.specs.Inner.Reading.{body_after}
use Rattle.gin_vacuum.specs.Inner.Sweeping.{IsRemoval, HasCleaned}
use Rattle.gin_vacuum.specs.declared.sweeping.Sweeping.{Sweeping}
use Rattle.gin_vacuum.specs.declared.sweeping.Stage.{Stage}
use Rattle.gin_vacuum.proofs.Kept.{at_then}
use Rattle.gin_vacuum.proofs.LoggedOn.{EndsWith, logged_on}
use Rattle.gin_vacuum.proofs.OutOn.{none_some}
use Rattle.gin_vacuum.proofs.Removals.{removal_step}
use Rattle.gin_vacuum.proofs.Removed as removed
use Rattle.gin_vacuum.proofs.StaysOn.{StaysOn, stays_allowed, seen_on}
use Rattle.gin_vacuum.proofs.Swept.{dead_on, leave_more}
use Rattle.gin_vacuum.proofs.TreesStay.{at_stays}

-- ── heads are on no leaf ──

no_slots : (gone : List ℕ) (b c : Body) → IsLeafLeft gone b c → slots_in c ≡ slots_in b
no_slots gone _ _ (IsLeafLeft.entries high old new all) = refl
no_slots gone _ _ (IsLeafLeft.postings high old new left) = refl

-- what is seen of the page once it is left
abbrev pub IsLeftAs : Sheet → Option Page → Pages → Type 0
IsLeftAs held cleaned P =
    ((P held.page).body ≡ body_after held.content cleaned) × ((P held.page).right ≡ held.content.right)

module _ {D : Type 0} (device : Disk D) (law : VacuumHolds) (f g : FramesValue D) (p q : Pass) (dead : List ℕ)
    (held : Sheet) where
  -- ── a record was logged ──

  module _ (new : Page) (x : IsRemoval device f p dead held (Some new))
      (logs : LogsStep device f p (held ∷ []) (removal_step held.page new) g q) where
    module _ (S : Log) (Q P : Pages) (e : EndsWith device f g p q (held ∷ []) (removal_step held.page new) S Q P) where
      stays : StaysOn (cut p.seen S) (e.logged).log P ((e.logged).allowed).pages
      stays =
          stays_allowed (view_of g p S (held ∷ [])) (e.logged).log (e.logged).allowed P e.right e.shown

      at_logged : (m : Sweeping) (t : Stage) → IsAt P dead m t → IsAt Q dead m t
      at_logged m t at =
          at_stays ((e.logged).allowed).pages Q
          (removed.trees_logged law dead (view_of g p S (held ∷ [])) held refl new S Q e.logged e.legal e.shown_then
          (e.right).started x.is_cleaned.left.0 x.is_cleaned.left.1) dead m t
          (at_then (cut p.seen S) (e.logged).log P ((e.logged).allowed).pages stays dead m t at)

      as_logged : IsLeftAs held (Some new) Q
      as_logged = (
        removed.body_then law dead (view_of g p S (held ∷ [])) held refl new S Q e.logged e.legal e.shown_then
            (e.right).started x.is_cleaned.left.0 x.is_cleaned.left.1,
        removed.right_then law dead (view_of g p S (held ∷ [])) held refl new S Q e.logged e.legal e.shown_then
            (e.right).started x.is_cleaned.left.0 x.is_cleaned.left.1,
      )

      page_was : ((e.logged).allowed).pages held.page ≡ held.content
      page_was =
          removed.was law dead (view_of g p S (held ∷ [])) held refl new S Q e.logged e.legal e.shown_then
          (e.right).started x.is_cleaned.left.0 x.is_cleaned.left.1

      same_slots : (n : ℕ) → slots_in (Q n).body ≡ slots_in (((e.logged).allowed).pages n).body
      same_slots n = elim (same_or_not held.page n) [
        | inl same ↦
            ap (λ (k : ℕ). slots_in (Q k).body) same ∙ ap slots_in as_logged.0
            ∙ no_slots dead held.content.body new.body x.is_cleaned.left.0
            ∙ ap (λ (c : Page). slots_in c.body) (sym page_was)
            ∙ ap (λ (k : ℕ). slots_in (((e.logged).allowed).pages k).body) (sym same)
        | inr off ↦
            ap (λ (c : Page). slots_in c.body)
            ((e.logged).leaves.elsewhere n (λ i. elim i [ inl here ↦ off here | inr none ↦ none ]))
      ]

      leave_logged : (floor i : ℕ) → MayLeave (cut p.seen S) P floor i → MayLeave S Q floor i
      leave_logged floor i may =
          let l = e.logged in
          let mid =
          leave_kept (cut p.seen S) l.log P (l.allowed).pages stays.index stays.ends floor i may in
          let keep =
          removed.logged_keeps law dead (view_of g p S (held ∷ [])) held refl new S Q e.logged e.legal e.shown_then
          (e.right).started x.is_cleaned.left.0 x.is_cleaned.left.1 in
          elim (keep.leave floor i mid) [
            | inl m ↦ subst (λ (T : Log). MayLeave T Q floor i) (sym l.log_is) m
            | inr none ↦
                let used : head_of Q i ≡ Some mid.head =
                ap (λ (s : List (Option Head)). slot_at s (slot_of i)) (same_slots (page_of i))
                ∙ subst (λ (j : ℕ). head_of (l.allowed).pages j ≡ Some mid.head) mid.item (mid.has).at in
                absurd (none_some mid.head (head_of Q i) none used)
          ]

    at_step : (m : Sweeping) (t : Stage) → Seen device f p (λ S P. IsAt P dead m t)
        → Seen device g q (λ S P. IsAt P dead m t × IsLeftAs held (Some new) P)
    at_step m t =
        logged_on device f g p q (held ∷ []) (removal_step held.page new) x.is_pass x.right logs
        (λ S P. IsAt P dead m t) (λ S P. IsAt P dead m t × IsLeftAs held (Some new) P)
        (λ S Q P e at. (at_logged S Q P e m t at, as_logged S Q P e))

    dead_step : AreDead device g q dead
    dead_step =
        logged_on device f g p q (held ∷ []) (removal_step held.page new) x.is_pass x.right logs
        (λ S P. (i : ℕ) → In i dead → MayLeave S P p.floor i) (λ S P. (i : ℕ) → In i dead → MayLeave S P q.floor i)
        (λ S Q P e may i on.
        leave_more S Q p.floor q.floor i logs.works.rises.floor (leave_logged S Q P e p.floor i (may i on)))
        x.leave

  -- ── in either case ──

  pub dead_cleaned : (cleaned : Option Page) → IsRemoval device f p dead held cleaned
      → HasCleaned device f p g q held cleaned → AreDead device g q dead
  dead_cleaned None x h = dead_on device f g p q x.right x.is_pass h.works dead (held ∷ []) x.holding x.leave
  dead_cleaned (Some new) x h = dead_step new x h

  -- the page is one of a tree
  module _ (m : Sweeping) (t : Stage)
      (there : (S : Log) (P : Pages) → S ≢ [] → IsLegal S → Shows S P → IsAt P dead m t
      → (root : ℕ) × IsRoot P root × Below P root held.page) where
    pub cleaned_seen : (cleaned : Option Page) → IsRemoval device f p dead held cleaned
        → HasCleaned device f p g q held cleaned → Seen device f p (λ S P. IsAt P dead m t)
        → Seen device g q (λ S P. IsAt P dead m t × IsLeftAs held cleaned P)
    cleaned_seen (Some new) x h at = at_step new x h m t at
    cleaned_seen None x h at =
        seen_on device f g p q (held ∷ []) x.holding x.is_pass x.right h.works.added h.works.rises h.works.is_pass
        (λ S P. IsAt P dead m t × (P held.page ≡ held.content)) (λ S P. IsAt P dead m t × IsLeftAs held None P)
        (λ S S' P Q s both.
        let b = there S P s.some s.legal s.shown both.0 in
        let same : Q held.page ≡ held.content = s.index.trees b.0 held.page b.1 b.2 ∙ both.1 in (
          at_then S S' P Q s dead m t both.0,
          (ap (λ (c : Page). c.body) same, ap (λ (c : Page). c.right) same),
        ))
        (λ t up R stands legal P shown.
        (at t up R stands legal P shown, x.seen t up R stands legal P shown))
