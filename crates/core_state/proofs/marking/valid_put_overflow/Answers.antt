use Rattle.std.proofs.Common.{sym, subst, arith}
use Rattle.page_types.specs.Parts.{head_shown}
use Rattle.page_types.specs.declared.page.Page.{Page}
use Rattle.page_types.specs.declared.page.Head.{Head}
use Rattle.core_state.specs.Documents.{Doc}
use Rattle.core_state.specs.States.{known_by, use_of}
use Rattle.core_state.specs.Inner.HeadChanges.{FindsHead, LeavesInSlot}
use Rattle.core_state.proofs.HeadChanges.{PutParts, PutLeft, put_told, put_back, put_left, two_told, first_of_two}
use Rattle.core_state.proofs.HeadChanges.{second_of_two, found_old, none_holds}
use Rattle.core_state.proofs.marking.valid_put_overflow.Goals as goal

pub returns-in_default-page_and_head : goal.returns-in_default-page_and_head
returns-in_default-page_and_head c =
    let n = c.name_of-name.result in
    let before = c.args.before.now in
    let after = c.args.after.now in
    let r = c.args.rec.now in
    let d : Doc = record { item = c.in-PutOverflow.item; serial = c.in-PutOverflow.serial } in
    let known = known_by c.args.state.now.value in (
      λ e. absurd (cc),
      λ w.
          let p : PutParts c.args.since known r n before after =
          put_back c.args.since known r d n before after c.name_of-name.ensures c.in-PutOverflow.is w in
          absurd (none_holds c.page_and_head.result c.in_default-page_and_head.not-Some c.page_and_head.ensures.none
          p.page p.head p.found),
    )

pub returns : goal.returns
returns c =
    let n = c.name_of-name.result in
    let before = c.args.before.now in
    let after = c.args.after.now in
    let r = c.args.rec.now in
    let d : Doc = record { item = c.in-PutOverflow.item; serial = c.in-PutOverflow.serial } in
    let known = known_by c.args.state.now.value in
    let h : Head = head_shown c.in-Some.head in
    let new = c.in-Some.new in
    let f : FindsHead (use_of c.args.state.now.value) c.args.since r n before new h =
    c.in-Some.ensures.some in
    let old = found_old (use_of c.args.state.now.value) c.args.since r n before new h
    c.index-before-0.result f c.index-before-0.is in
    let stays = λ (x : Page). LeavesInSlot r n.slot x (record h { overflow = new }) c.index-after-0.result in (
      λ e. put_told c.args.since known r d n before after c.name_of-name.ensures c.in-PutOverflow.is
          (record {
            head = h;
            page = new;
            heap_then = c.index-after-0.result;
            new = c.index-after-1.result;
            found = f;
            may = c.may_be_put.ensures.0 c.if-not-may_be_put.false;
            after_is = two_told after c.index-after-0.result c.index-after-1.result (omega arith)
                c.index-after-0.is c.index-after-1.is;
            leaves = subst stays (sym old) (c.leaves_in_slot.ensures.0 e);
            part = c.leaves_part.ensures.0 c.if-not-leaves_part.false;
          }),
      λ w.
          let p : PutParts c.args.since known r n before after =
          put_back c.args.since known r d n before after c.name_of-name.ensures c.in-PutOverflow.is w in
          let q : PutLeft known r n new f.old c.index-after-0.result c.index-after-1.result h =
          put_left c.args.since known r n before after new c.index-after-0.result c.index-after-1.result h p f
          (first_of_two after c.index-after-0.result p.heap_then p.new p.after_is c.index-after-0.is)
          (second_of_two after c.index-after-1.result p.heap_then p.new p.after_is c.index-after-1.is) in
          c.leaves_in_slot.ensures.1 (subst stays old q.leaves),
    )
