-- What a session knows by a pin and by the right of maintenance.
use Rattle.std.proofs.Common.{◌≡◌, ◌<◌, ◌≤◌, ℕ, zero, suc, ◌-◌, [], ◌∷◌, ◌++◌, length, drop, refl, sym, ap, subst, ◌∙◌}
use Rattle.std.proofs.Common.{inl, inr, arith}
use Rattle.std.proofs.lemmas.List.{length-append}
use Rattle.std.specs.Prelude.{IfSome}
use Rattle.page_types.specs.declared.record.Record.{Record}
use Rattle.page_types.specs.declared.record.Kind.{Kind}
use Rattle.page_types.specs.declared.record.Kind.TheVariants as kind
use Rattle.core_state.specs.Log.{Log, In, commits, fate, cut}
use Rattle.core_state.specs.Documents.{Doc, IsDead}
use Rattle.core_state.specs.TransactionRules.{IsCommit}
use Rattle.core_state.specs.HeapRules.{IsMarkDeleted}
use Rattle.core_state.specs.Legal.{RecordsAreValid, Keeps}
use Rattle.core_state.specs.Standing.{IsThere}
use Rattle.core_state.specs.Steady.{IsIndexWork, IsMaintenance}
use Rattle.core_state.specs.Steps.{PinHolds, RightHolds}
use Rattle.core_state.specs.declared.answers.Fate.TheVariants.{Running, Aborted, Committed}
use Rattle.core_state.proofs.Newest.{cut_less}
use Rattle.core_state.proofs.RulesByKind.{kind_rule}
use Rattle.core_state.proofs.FateSteps.{HasEnded, FateStep, ends_stay, commits_back, placed_on, marked_back}
use Rattle.core_state.proofs.SteadyEnds.{fates_step, xids_drawn, heads_kept, commits_more}
use Rattle.core_state.proofs.Law.AllCases.{all_steps}
use Rattle.core_state.proofs.Law.CommittedWhole.{whole_under}
use Rattle.core_state.proofs.Steps.Seen.{others_each, steady_facts}

-- the records after a log have numbers above its length
number_behind : (later R : Log) → RecordsAreValid (later ++ R) → (r : Record) → In r later → length R < r.number
number_behind [] R v r i = absurd i
number_behind (s ∷ later) R v r (inl e) =
    let n = v.1.number in
    omega (arith, n, ap (λ (x : Record). x.number) e, length-append later R)
number_behind (s ∷ later) R v r (inr i) = number_behind later R v.0 r i

work_is : (k : Kind) → IsIndexWork k → IsMaintenance k
work_is kind.Create w = tt
work_is (kind.Checkpoint redo) w = tt
work_is _ w = w

pub right_holds : RightHolds
right_holds v at R a P has le some shown =
    (steady_facts v R a P shown some).index_stays (λ r i w.
    let n = number_behind a.later v.seen (subst RecordsAreValid a.goes_on a.legal.valid) r i in
    (others_each v a.later a.others r i).not_work at has (omega (arith, le, n)) (work_is r.kind w))

-- what has committed keeps its number, and a document that is there under a number of commits stays so
module _ (S : Log) (r : Record) (v : RecordsAreValid (r ∷ S)) where
  step : FateStep S r
  step = fates_step S r _ _ (xids_drawn S v.0) v.1

  still_alive : (n : ℕ) (d : Doc) → n ≤ commits S → (t : IsThere S n d) → fate (r ∷ S) t.xid ≡ Committed t.number
      → IsDead (r ∷ S) n d → ⊥
  still_alive n d le t now (IsDead.insert_aborted x e p) =
      let one = ((heads_kept (r ∷ S) v.1.after v v.1.shown_after).once x t.xid d d p
      (placed_on r S t.xid d t.placed_by) refl).0 in
      let f : Aborted ≡ Committed t.number = sym e ∙ ap (fate (r ∷ S)) one ∙ now in
      cc
  still_alive n d le t now (IsDead.delete_counted x k e l m) = elim (commits_back S r (xids_drawn S v.0) step x k e) [
    | inl old ↦ elim (marked_back r S x d m) [
      | inl marks ↦ t.alive (IsDead.delete_counted x k old l marks)
      | inr new ↦
          let row : IsMarkDeleted S v.1.before v.1.after r = kind_rule S v.1.before v.1.after r _ _ _ new.0 v.1.rule in
          let f : Running ≡ Committed k = sym row.here.runs ∙ ap (fate S) new.1 ∙ old in
          cc
    ]
    | inr new ↦
        let row : IsCommit S v.1.before v.1.after r = kind_rule S v.1.before v.1.after r _ _ (kind.Commit k) new.0
        v.1.rule in
        let f : kind.Commit k ≡ kind.Commit (suc (commits S)) = sym new.0 ∙ row.here.kind_is in
        let g : k ≡ suc (commits S) = cc in
        omega (arith, g, l, le)
  ]

  there_step : (n : ℕ) (d : Doc) → n ≤ commits S → IsThere S n d → IsThere (r ∷ S) n d
  there_step n d le t =
      let now = ends_stay S r (xids_drawn S v.0) step t.xid (Committed t.number) t.committed
      (HasEnded.committed t.number) in
      record {
        xid = t.xid;
        number = t.number;
        placed_by = placed_on r S t.xid d t.placed_by;
        committed = now;
        alive = still_alive n d le t now;
      }

commits_behind : (later S : Log) → commits S ≤ commits (later ++ S)
commits_behind [] S = omega arith
commits_behind (r ∷ later) S = omega (arith, commits_behind later S, commits_more r.kind (commits (later ++ S)))

there_behind : (later S : Log) (n : ℕ) (d : Doc) → RecordsAreValid (later ++ S) → n ≤ commits S → IsThere S n d
    → IsThere (later ++ S) n d
there_behind [] S n d v le t = t
there_behind (r ∷ later) S n d v le t =
    there_step (later ++ S) r v n d (omega (arith, le, commits_behind later S)) (there_behind later S n d v.0 le t)

commits_dropped : (m : ℕ) (S : Log) → commits (drop m S) ≤ commits S
commits_dropped zero [] = omega arith
commits_dropped zero (r ∷ S) = omega arith
commits_dropped (suc m) [] = omega arith
commits_dropped (suc m) (r ∷ S) = omega (arith, commits_dropped m S, commits_more r.kind (commits S))

commits_cut : (later S : Log) (n : ℕ) → n ≤ length S → commits (cut n (later ++ S)) ≤ commits S
commits_cut [] S n le = commits_dropped (length S - n) S
commits_cut (r ∷ later) S n le =
    subst (λ (l : Log). commits l ≤ commits S)
    (sym (cut_less n r (later ++ S) (omega (arith, le, length-append later S))))
    (commits_cut later S n le)

pub pin_holds : PinHolds
pin_holds v pin R a d has le t =
    let k : Keeps R pin = subst (λ o. IfSome o (Keeps R)) has a.keeps in
    let counted : pin.commits ≤ commits (cut pin.length (a.later ++ v.seen)) = subst (λ (S : Log). pin.commits
    ≤ commits (cut pin.length S)) a.goes_on k.counted in
    let small : pin.commits ≤ commits v.seen = omega (arith, counted, commits_cut a.later v.seen pin.length le) in
    let now : IsThere R pin.commits d = subst (λ (S : Log). IsThere S pin.commits d) (sym a.goes_on)
    (there_behind a.later v.seen pin.commits d (subst RecordsAreValid a.goes_on a.legal.valid) small t) in
    (now, whole_under all_steps pin R k.each a.pages a.shown now.xid now.number d now.committed now.placed_by now.alive)
