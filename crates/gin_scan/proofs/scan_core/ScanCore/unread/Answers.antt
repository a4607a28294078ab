-- A scan for the keys of a query has begun, or is refused.
use Rattle.std.proofs.Common.{◌≡◌, ℕ, List, [], length, map, replicate, sym, ap, subst, ◌∙◌, arith}
use Rattle.std.proofs.lemmas.Result.{err_from_is_err_and}
use Rattle.gin_hits.specs.Rows.{asked_by}
use Rattle.gin_hits.specs.Ordered.{AreOrdered, asked_at}
use Rattle.gin_scan.specs.Causes.{CannotBegin}
use Rattle.gin_scan.proofs.BegunScans.{is_begun}
use Rattle.gin_scan.proofs.scan_core.ScanCore.unread.Goals as goal

pub returns-in_err-extent : goal.returns-in_err-extent
returns-in_err-extent g c =
    let r = c.from_residual in
    let p = err_from_is_err_and r.result r.ensures.1 in
    let d = c.in_err-extent.ensures.error in
    rw p.1 (record {
      begun = tt;
      took = tt;
      looks = c.look_on.ensures.looks;
      cause = subst (CannotBegin c.args.frames.now) (sym (p.2 ∙ d.1)) d.2;
    })

pub returns-in_err-order : goal.returns-in_err-order
returns-in_err-order g c =
    let p = err_from_is_err_and c.from_residual-in_err-order.result c.from_residual-in_err-order.ensures.1 in
    rw p.1 (record {
      begun = tt;
      took = tt;
      looks = c.look_on.ensures.looks;
      cause = subst (CannotBegin c.args.frames.now) (sym p.2) tt;
    })

pub returns-in_err-pending : goal.returns-in_err-pending
returns-in_err-pending g c =
    let p = err_from_is_err_and c.from_residual-in_err-pending.result c.from_residual-in_err-pending.ensures.1 in
    rw p.1 (record {
      begun = tt;
      took = tt;
      looks = c.look_on.ensures.looks;
      cause = subst (CannotBegin c.args.frames.now) (sym p.2) tt;
    })

pub returns-in_err-main : goal.returns-in_err-main
returns-in_err-main g c =
    let p = err_from_is_err_and c.from_residual-in_err-main.result c.from_residual-in_err-main.ensures.1 in
    rw p.1 (record {
      begun = tt;
      took = tt;
      looks = c.look_on.ensures.looks;
      cause = subst (CannotBegin c.args.frames.now) (sym p.2) tt;
    })

pub returns : goal.returns
returns g c =
    let all : c.args.keys.keys.len ≡ length c.args.keys.keys.items = omega (arith, c.args.keys.keys.ok) in record {
      begun = is_begun c.look_on.new.frames c.new-3.result c.args.keys c.in_ok-order.order c.in_ok-extent.extent
          c.in_ok-pending.pending c.in_ok-main.main c.new-3.ensures.new
          (subst (λ ks. AreOrdered (map asked_by ks) (map (asked_at ks) c.in_ok-order.order.items))
          c.as_slice.ensures.value c.in_ok-order.ensures.ordered) c.in_ok-pending.ensures.any
          (c.in_ok-pending.ensures.by_key ∙ ap (λ (n : ℕ). replicate {A = List ℕ} n []) (c.len.ensures ∙ all))
          c.in_ok-main.ensures.any
          (c.in_ok-main.ensures.by_key ∙ ap (λ (n : ℕ). replicate {A = List ℕ} n []) (c.len-2.ensures ∙ all))
          c.in_ok-extent.ensures.answers;
      took = c.new-3.ensures.took;
      looks = c.look_on.ensures.looks;
      cause = tt;
    }
