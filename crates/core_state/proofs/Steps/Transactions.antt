-- Transactions that begin, commit and abort.
use Rattle.std.proofs.Common.{◌≡◌, [], ap, subst, ◌∙◌, inl}
use Rattle.page_types.specs.declared.record.Kind.TheVariants as kind
use Rattle.core_state.specs.Log.{In, fate}
use Rattle.core_state.specs.Documents.{placed}
use Rattle.core_state.specs.Legal.{RuleHolds}
use Rattle.core_state.specs.Steps.{CanBegin, CanCommit, CanAbort, MayBy}
use Rattle.core_state.proofs.Steps.Seen.{own_runs_on, own_placed, shows}
use Rattle.core_state.proofs.Steps.Heads.{drawn_as, drawn_by, drawn_pages}

pub begin_may : MayBy CanBegin
begin_may v s can R a r Q n l =
    let c = (shows CanBegin v s R a can).2 in
    RuleHolds.begin (record {
      here = record {
        kind_is = drawn_as R s r n kind.Begin c.kind_is;
        pages = drawn_pages R s r n [] c.after_is;
        next = drawn_by R s r n kind.Begin c.kind_is;
        bound = n.fits c.kind_is;
      };
    })

pub commit_may : MayBy CanCommit
commit_may v s can R a r Q n l =
    let t = shows CanCommit v s R a can in
    let P = t.0 in
    let c = t.2 in
    let xid : r.xid ≡ s.xid = drawn_by R s r n (kind.Commit c.number) c.kind_is in
    let on = own_runs_on v R a P t.1 s.xid c.own in
    RuleHolds.commit (record {
      here = record {
        kind_is = drawn_as R s r n (kind.Commit c.number) c.kind_is;
        pages = drawn_pages R s r n [] c.after_is;
        runs = ap (fate R) xid ∙ on.runs;
      };
      rest = λ d i.
          let j : In d (placed v.seen s.xid) = subst (In d) (ap (placed R) xid ∙ own_placed v R a s.xid c.own) i in
          on.indexed d j (c.indexed d j);
    })

pub abort_may : MayBy CanAbort
abort_may v s can R a r Q n l =
    let t = shows CanAbort v s R a can in
    let c = t.2 in
    let xid : r.xid ≡ s.xid = drawn_by R s r n kind.Abort c.kind_is in
    RuleHolds.abort (record {
      here = record {
        kind_is = drawn_as R s r n kind.Abort c.kind_is;
        pages = drawn_pages R s r n [] c.after_is;
        runs = inl (ap (fate R) xid ∙ (own_runs_on v R a t.0 t.1 s.xid c.own).runs);
      };
    })
