use Rattle.std.proofs.Common.{◌≡◌, true, get_or, arith}
use Rattle.core_state.specs.States.{known_by}
use Rattle.core_state.proofs.SplitRecords.{changed_three, split_told, split_back, new_back}
use Rattle.core_state.proofs.splitting.valid_split.Goals as goal

pub returns-then-not-is_new : goal.returns-then-not-is_new
returns-then-not-is_new c =
    let known = known_by c.args.state.now.value in
    let rec = c.args.rec.now in
    let changes = c.as_slice-changes.result.now in
    let p = changed_three rec changes c.index-changes-0.result c.index-changes-1.result c.as_slice-changes.ensures
    (omega arith) in (
      λ e. absurd (cc),
      λ w.
          let yes : c.is_new.result ≡ true = c.is_new.ensures.1 (new_back c.args.since known rec
          (get_or changes 0 c.index-changes-0.result).page (get_or changes 1 c.index-changes-1.result).page p.0
          c.args.before.now c.args.after.now p.1 w) in
          absurd (cc (yes, c.if-not-is_new.true)),
    )

pub returns : goal.returns
returns c =
    let known = known_by c.args.state.now.value in
    let rec = c.args.rec.now in
    let changes = c.as_slice-changes.result.now in
    let page = (get_or changes 0 c.index-changes-0.result).page in
    let new = (get_or changes 1 c.index-changes-1.result).page in
    let before = c.args.before.now in
    let after = c.args.after.now in
    let p = changed_three rec changes c.index-changes-0.result c.index-changes-1.result c.as_slice-changes.ensures
    (omega arith) in (
      λ e. split_told c.args.since known rec page new p.0 before after c.in-Split.is p.1
          (c.is_new.ensures.0 c.if-not-is_new.false) (c.leaves_split.ensures.0 e),
      λ w. c.leaves_split.ensures.1 (split_back c.args.since known rec page new p.0 before after p.1 w),
    )
