-- Without the kinds 12 to 21 the trees and the main part stay, linked rows stay linked, whole documents stay whole,
-- and dead ones stay as they are and get no more rows.
use Rattle.std.proofs.Common.{◌≡◌, ◌≢◌, ◌⊎◌, ◌++◌, ◌+◌, ℕ, suc, [], ◌∷◌, length, refl, sym, ap, subst, ◌∙◌, inl, inr}
use Rattle.std.proofs.Common.{arith}
use Rattle.ts_base.specs.Vectors.{Vector}
use Rattle.page_types.specs.Views.{rows_of}
use Rattle.page_types.specs.declared.page.Page.{Page}
use Rattle.page_types.specs.declared.page.Head.{Head}
use Rattle.page_types.specs.declared.page.Row.{Row}
use Rattle.page_types.specs.declared.page.Body.{Body}
use Rattle.page_types.specs.declared.page.Body.TheVariants as body
use Rattle.page_types.specs.declared.page.Gone.{Gone}
use Rattle.page_types.specs.declared.record.Record.{Record}
use Rattle.page_types.specs.declared.record.Kind.{Kind}
use Rattle.page_types.specs.declared.record.Kind.TheVariants as kind
use Rattle.core_state.specs.Log.{Log, Pages, In, Shows, changed, commits}
use Rattle.core_state.specs.Documents.{Doc, Has, HasVector, IsDead}
use Rattle.core_state.specs.Index.{IsLinked, Below}
use Rattle.core_state.specs.TreeRules.{IsRoot}
use Rattle.core_state.specs.Legal.{RuleHolds, Valid, RecordsAreValid}
use Rattle.core_state.specs.Steady.{IsIndexWork, LeavesIndex, KeepsHead, IndexStays}
use Rattle.core_state.specs.Inner.PageKinds.{IsHeap, IsOverflow, IsPending, IsTree, IsDeleted, ChangesTrees, IsChanged}
use Rattle.core_state.specs.Inner.PageKinds.{Touched}
use Rattle.core_state.specs.Inner.Ghosts.{Place, Ghost}
use Rattle.core_state.specs.Inner.Ghosts.Place.{line, shifted, overflow_of, private_of}
use Rattle.core_state.specs.Inner.Kinds.{Fits}
use Rattle.core_state.specs.Inner.LineSteps.{LineStep}
use Rattle.core_state.proofs.Showing.{shown_one}
use Rattle.core_state.proofs.PageLists.{in_or_not, in_front}
use Rattle.core_state.proofs.HeadSteps.{HeadStep}
use Rattle.core_state.proofs.HeadsFollow.{heads_more}
use Rattle.core_state.proofs.FateSteps.{dead_more}
use Rattle.core_state.proofs.StaysIndexed.{same_doc, runs_alive}
use Rattle.core_state.proofs.ChainFrames.{RemovesDocs, only_pending, whole_or_removed}
use Rattle.core_state.proofs.KeptTrees.{SameTrees, same_back, below_same, main_same, root_same, tree_stays, trees_stay}
use Rattle.core_state.proofs.KeptHeads.{dead_keeps}
use Rattle.core_state.proofs.SteadyPages.{touches, elsewhere}
use Rattle.core_state.proofs.SteadyEnds.{heads_step, ends_stay_behind}
use Rattle.core_state.proofs.Law.LineEffects.{on_line, linked, row_back}
use Rattle.core_state.proofs.Law.ChainsStay.{overflows, privates}
use Rattle.core_state.proofs.Law.RootTrees.{root_tree}
use Rattle.core_state.proofs.Law.Invariant.{Inv}
use Rattle.core_state.proofs.Law.Steps.{After, StepHolds}
use Rattle.core_state.proofs.Law.Runs.{plain_run, step_over}
use Rattle.core_state.proofs.Law.RunningStays.{not_create, some_behind, keeps_same, keeps_on}

-- the kinds below 12
trees_late : (k : Kind) → ChangesTrees k → IsIndexWork k
trees_late kind.AddItems c = (omega arith, omega arith)
trees_late kind.MakeTree c = (omega arith, omega arith)
trees_late kind.AddPostings c = (omega arith, omega arith)
trees_late kind.GrowRoot c = (omega arith, omega arith)
trees_late kind.Split c = (omega arith, omega arith)
trees_late kind.RemoveItems c = (omega arith, omega arith)
trees_late kind.DeletePost c = (omega arith, omega arith)
trees_late _ c = absurd c

removes_late : (k : Kind) → RemovesDocs k → IsIndexWork k
removes_late (kind.DropPage i s) c = (omega arith, omega arith)
removes_late kind.FreeSlots c = (omega arith, omega arith)
removes_late _ c = absurd c

shift_late : (k : Kind) → k ≡ kind.Shift → IsIndexWork k
shift_late k e = subst IsIndexWork (sym e) (omega arith, omega arith)

-- deleted content is of no other kind
deleted_not : (K : Body → Type 0) (b : Body) → ((g : Gone) → K (body.Deleted g) → ⊥) → K b → IsDeleted b → ⊥
deleted_not K (body.Deleted g) off k is = off g k
deleted_not K _ off k is = is

-- a page of rows that is deleted
pending_gone : (P Q : Pages) (r : Record) (since q : ℕ) → IsPending (P q).body → IsDeleted (Q q).body
    → IsChanged P Q r since q → (r.kind ≡ kind.Shift) ⊎ RemovesDocs r.kind
pending_gone P Q r since q was is (IsChanged.made k free after) =
    absurd (subst IsPending (ap (λ (x : Page). x.body) free) was)
pending_gone P Q r since q was is (IsChanged.heads old after at) = absurd (deleted_not IsHeap (Q q).body (λ x f. f)
    after is)
pending_gone P Q r since q was is (IsChanged.chained new after) =
    absurd (elim after [
      | inl o ↦ deleted_not IsOverflow (Q q).body (λ x f. f) o is
      | inr o ↦ deleted_not IsPending
          (Q q).body (λ x f. f) o.0 is
    ])
pending_gone P Q r since q was is (IsChanged.grown new works after) = absurd (deleted_not IsTree (Q q).body (λ x f. f)
    after is)
pending_gone P Q r since q was is (IsChanged.worked old works after) = absurd ((only_pending (P q).body was).1 old)
pending_gone P Q r since q was is (IsChanged.meta old lists after) = absurd ((only_pending (P q).body was).3 old)
pending_gone P Q r since q was is (IsChanged.listed old on lists after) = elim after [
  | inl o ↦
      absurd (deleted_not IsPending (Q q).body (λ x f. f) o is)
  | inr o ↦ inl o.1
]
pending_gone P Q r since q was is (IsChanged.dropped first after) = inr (subst RemovesDocs (sym first.kind_is) tt)

-- what stays over records of the kinds below 12
pub record Quiet (R : Log) (P Q : Pages) : Type 0 where
  pub same : SameTrees P Q
  pub trees : (root p : ℕ) → IsRoot P root → Below P root p → Q p ≡ P p
  pub rows : (w : Row) → IsLinked P w → IsLinked Q w
  pub whole : (d : Doc) (v : Vector) → HasVector P d v → HasVector Q d v
  pub dead : (d : Doc) (h : Head) (floor : ℕ) → IsDead R floor d → Has P d h → KeepsHead P Q d h
  pub dead_rows : (d : Doc) (h : Head) (floor : ℕ) → IsDead R floor d → Has P d h → (w : Row) → w.item ≡ d.item
      → IsLinked Q w → IsLinked P w

module _ (n L : ℕ) (R : Log) (P Q : Pages) (r : Record) (floor since : ℕ) (g : Ghost) (v : Inv n L R P g)
    (a : After n L R P Q r g) (row : RuleHolds R P Q r floor since) (H : HeadStep R P Q r floor)
    (touch : (p : ℕ) → In p (changed r) → Touched P Q r since p) (other : (q : ℕ) → (In q (changed r) → ⊥) → Q q ≡ P q)
    (some : R ≢ []) (later : r.kind ≢ kind.Create) (early : IsIndexWork r.kind → ⊥) where
  no_trees : ChangesTrees r.kind → ⊥
  no_trees c = early (trees_late r.kind c)

  no_removal : RemovesDocs r.kind → ⊥
  no_removal c = early (removes_late r.kind c)

  -- the first page of the line isn't deleted
  rows_on : (w : Row) → LineStep R P Q g a.ghost → IsLinked P w → IsLinked Q w
  rows_on w (LineStep.grow chain e f new rows) k =
      let o = on_line R P g w v.lined k in
      let x = rows o.0 o.1 in
      linked (r ∷ R) Q a.ghost w o.0 a.inv.lined (subst (In o.0) (sym e) (in_front o.0 g.line chain o.1))
      (subst (In w) (sym x.1) (in_front w (rows_of (P o.0)) x.0 o.2))
  rows_on w (LineStep.shift p e f at link kept moved rows) k =
      let on : g.place p ≡ line = (v.lined.on p).0 (subst (In p) (sym e) (inl refl)) in
      let old : Fits L line (P p) = subst (λ (x : Place). Fits L x (P p)) on (v.kinds p) in
      let new : Fits L shifted (Q p) = subst (λ (x : Place). Fits L x (Q p)) at (a.inv.kinds p) in
      let was : IsPending (P p).body = subst IsPending (sym old.1) tt in
      let is : IsDeleted (Q p).body = subst IsDeleted (sym new.1) tt in
      absurd (elim (in_or_not p (changed r)) [
        | inr out ↦ deleted_not IsPending (Q p).body (λ x f. f) (subst (λ (x : Page). IsPending x.body)
            (sym (other p out)) was) is
        | inl i ↦ elim (pending_gone P Q r since p was is (touch p i).change) [
          | inl s ↦ early (shift_late r.kind s)
          | inr s ↦ no_removal s
        ]
      ])

  whole_on : (d : Doc) (u : Vector) → HasVector P d u → HasVector Q d u
  whole_on d u h = elim (whole_or_removed R P Q r floor since row touch other H (λ i q. g.place q ≡ overflow_of i)
      (overflows n L R P g v) d h.0 u h.1 h.2) [ inl now ↦ now | inr x ↦ absurd (no_removal x.by) ]

  rows_back_dead : (d : Doc) (h : Head) (level : ℕ) → IsDead R level d → Has P d h → (w : Row) → w.item ≡ d.item
      → IsLinked Q w → IsLinked P w
  rows_back_dead d h level dead has w item k = elim (row_back R (r ∷ R) P Q g a.ghost v.lined a.inv.lined a.case.line w
      k) [
        | inl old ↦ old
        | inr new ↦
            let same = same_doc P new.doc d new.head h new.has has (new.item ∙ item) in
            absurd (runs_alive (n + level) R P (heads_more n (n + level) R P (omega arith) v.heads) new.doc new.head
            new.has new.runs
            (dead_more R level (n + level) new.doc (omega arith) (subst (IsDead R level) (sym same.0) dead)))
      ]

  pub quiet_step : Quiet R P Q
  quiet_step = record {
    same = trees_stay P Q r since touch other no_trees later;
    trees = λ root p is below. tree_stays P Q r since touch other no_trees later p
        (root_tree n L R P g v some root p is below);
    rows = λ w k. rows_on w a.case.line k;
    whole = whole_on;
    dead = λ d h level dead has. dead_keeps R P Q r floor since row touch other g.line (λ i q. g.place q ≡ overflow_of
        i) (λ i q. g.place q ≡ private_of i) (overflows n L R P g v) (privates n L R P g v) n level
        v.heads H d h has dead no_removal;
    dead_rows = rows_back_dead;
  }

quiet_same : (R : Log) (P : Pages) → Quiet R P P
quiet_same R P = record {
  same = record { entries = λ q. refl; children = λ q. refl; postings = λ q. refl };
  trees = λ root p is below. refl;
  rows = λ w k. k;
  whole = λ d v h. h;
  dead = λ d h level dead has. keeps_same P d h has;
  dead_rows = λ d h level dead has w e k. k;
}

trees_on : (P S Q : Pages) → SameTrees P S → SameTrees S Q → SameTrees P Q
trees_on P S Q x y = record {
  entries = λ q. y.entries q ∙ x.entries q;
  children = λ q. y.children q ∙ x.children q;
  postings = λ q. y.postings q ∙ x.postings q;
}

-- one after the other, where what is dead stays dead
quiet_on : (R T : Log) (P S Q : Pages) → ((d : Doc) (level : ℕ) → IsDead R level d → IsDead T level d) → Quiet R P S
    → Quiet T S Q → Quiet R P Q
quiet_on R T P S Q stays x y = record {
  same = trees_on P S Q x.same y.same;
  trees = λ root p is below. y.trees root p (root_same P S x.same root is) (below_same P S x.same root p below)
      ∙ x.trees root p is below;
  rows = λ w k. y.rows w (x.rows w k);
  whole = λ d v h. y.whole d v (x.whole d v h);
  dead = λ d h level dead has. let k = x.dead d h level dead has in keeps_on P S Q d h k
      (y.dead d h level (stays d level dead) k.head);
  dead_rows = λ d h level dead has w e k. x.dead_rows d h level dead has w e (y.dead_rows d h level
      (stays d level dead) (x.dead d h level dead has).head w e k);
}

module _ (step : StepHolds) where
  quiet_one : (S : Log) (r : Record) → RecordsAreValid S → (u : Valid S r (commits S) (suc (length S))) → S ≢ []
      → (IsIndexWork r.kind → ⊥) → Quiet S u.before u.after
  quiet_one S r v u some early =
      let h = plain_run step S v u.before u.shown in
      let a = step_over step (commits S) (length S) S r (commits S) (suc (length S)) u (omega arith) (inr refl)
      (omega arith) u.before u.after h.0 u.shown u.shown_after h.1 in
      quiet_step (commits S) (length S) S u.before u.after r (commits S) (suc (length S)) h.0 h.1 a u.rule
      (heads_step S r (commits S) (suc (length S)) u) (touches S r (commits S) (suc (length S)) u)
      (elsewhere S r (commits S) (suc (length S)) u) some (not_create S r (commits S) (suc (length S)) u some) early

  quiet_behind : (later R : Log) → RecordsAreValid (later ++ R) → R ≢ [] → (P Q : Pages) → Shows R P
      → Shows (later ++ R) Q → LeavesIndex later → Quiet R P Q
  quiet_behind [] R v some P Q shown shown' leaves = subst (Quiet R P) (shown_one R P Q shown shown') (quiet_same R P)
  quiet_behind (r ∷ later) R v some P Q shown shown' leaves =
      subst (Quiet R P) (shown_one (r ∷ (later ++ R)) v.1.after Q v.1.shown_after shown')
      (quiet_on R (later ++ R) P v.1.before v.1.after (λ d level dead. (ends_stay_behind later R v.0).dead_stays d
      level dead) (quiet_behind later R v.0 some P v.1.before shown v.1.shown (λ s i. leaves s (inr i)))
      (quiet_one (later ++ R) r v.0 v.1 (some_behind later R some) (leaves r (inl refl))))

  -- without later records of the kinds 12 to 21
  pub index_stays_behind : (later R : Log) → RecordsAreValid (later ++ R) → R ≢ [] → (P Q : Pages) → Shows R P
      → Shows (later ++ R) Q → LeavesIndex later → IndexStays R (later ++ R) P Q
  index_stays_behind later R v some P Q shown shown' leaves =
      let q = quiet_behind later R v some P Q shown shown' leaves in
      let back = same_back P Q q.same in
      record {
        main = λ k i. (main_same P Q q.same k i, main_same Q P back k i);
        trees = q.trees;
        no_more_trees = λ root p is below. (root_same Q P back root is, below_same Q P back root p below);
        rows = q.rows;
        whole = q.whole;
        dead = q.dead;
        dead_rows = q.dead_rows;
      }
