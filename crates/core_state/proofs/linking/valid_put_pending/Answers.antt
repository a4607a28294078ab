use Rattle.std.proofs.Common.{refl, sym, subst, ◌∙◌, arith}
use Rattle.page_types.specs.Parts.{head_shown}
use Rattle.page_types.specs.declared.page.Page.{Page}
use Rattle.page_types.specs.declared.page.Head.{Head}
use Rattle.core_state.specs.Documents.{Doc}
use Rattle.core_state.specs.States.{known_by, use_of}
use Rattle.core_state.specs.Inner.HeadChanges.{FindsHead, LeavesInSlot}
use Rattle.core_state.proofs.HeadChanges.{two_told, first_of_two, second_of_two, found_old, none_holds}
use Rattle.core_state.proofs.LinkedHeads.{RowParts, RowsLeft, rows_told, rows_back, rows_left}
use Rattle.core_state.proofs.linking.valid_put_pending.Goals as goal

pub returns-in_default-page_and_head : goal.returns-in_default-page_and_head
returns-in_default-page_and_head c =
    let n = c.name_of-name.result in
    let before = c.args.before.now in
    let after = c.args.after.now in
    let r = c.args.rec.now in
    let d : Doc = record { item = c.in-PutPending.item; serial = c.in-PutPending.serial } in
    let known = known_by c.args.state.now.value in (
      λ e. absurd (cc),
      λ w.
          let p : RowParts c.args.since known r n d.item before after =
          rows_back c.args.since known r d n before after c.name_of-name.ensures c.in-PutPending.is w in
          absurd (none_holds c.page_and_head.result c.in_default-page_and_head.not-Some c.page_and_head.ensures.none
          p.page p.head p.found),
    )

pub returns-then-not-leaves_rows : goal.returns-then-not-leaves_rows
returns-then-not-leaves_rows c =
    let n = c.name_of-name.result in
    let before = c.args.before.now in
    let after = c.args.after.now in
    let r = c.args.rec.now in
    let d : Doc = record { item = c.in-PutPending.item; serial = c.in-PutPending.serial } in
    let known = known_by c.args.state.now.value in
    let h : Head = head_shown c.in-Some.head in
    let new = c.in-Some.new in
    let f : FindsHead (use_of c.args.state.now.value) c.args.since r n before new h =
    c.in-Some.ensures.some in (
      λ e. absurd (cc),
      λ w.
          let p : RowParts c.args.since known r n d.item before after =
          rows_back c.args.since known r d n before after c.name_of-name.ensures c.in-PutPending.is w in
          let q : RowsLeft known r n d.item new f.old p.heap_then c.index-after-1.result h =
          rows_left c.args.since known r n d.item before after new p.heap_then c.index-after-1.result h p f refl
          (second_of_two after c.index-after-1.result p.heap_then p.new p.after_is c.index-after-1.is) in
          sym c.if-not-leaves_rows.true ∙ c.leaves_rows.ensures.1 q.rows,
    )

pub returns : goal.returns
returns c =
    let n = c.name_of-name.result in
    let before = c.args.before.now in
    let after = c.args.after.now in
    let r = c.args.rec.now in
    let d : Doc = record { item = c.in-PutPending.item; serial = c.in-PutPending.serial } in
    let known = known_by c.args.state.now.value in
    let h : Head = head_shown c.in-Some.head in
    let new = c.in-Some.new in
    let f : FindsHead (use_of c.args.state.now.value) c.args.since r n before new h =
    c.in-Some.ensures.some in
    let old = found_old (use_of c.args.state.now.value) c.args.since r n before new h
    c.index-before-0.result f c.index-before-0.is in
    let stays = λ (x : Page). LeavesInSlot r n.slot x (record h { private = new }) c.index-after-0.result in (
      λ e. rows_told c.args.since known r d n before after c.name_of-name.ensures c.in-PutPending.is
          (record {
            head = h;
            page = new;
            heap_then = c.index-after-0.result;
            new = c.index-after-1.result;
            found = f;
            placed = c.is_placed_by.ensures.0 c.if-not-is_placed_by.false;
            after_is = two_told after c.index-after-0.result c.index-after-1.result (omega arith)
                c.index-after-0.is c.index-after-1.is;
            leaves = subst stays (sym old) (c.leaves_in_slot.ensures.0 e);
            rows = c.leaves_rows.ensures.0 c.if-not-leaves_rows.false;
          }),
      λ w.
          let p : RowParts c.args.since known r n d.item before after =
          rows_back c.args.since known r d n before after c.name_of-name.ensures c.in-PutPending.is w in
          let q : RowsLeft known r n d.item new f.old c.index-after-0.result c.index-after-1.result h =
          rows_left c.args.since known r n d.item before after new c.index-after-0.result c.index-after-1.result h p f
          (first_of_two after c.index-after-0.result p.heap_then p.new p.after_is c.index-after-0.is)
          (second_of_two after c.index-after-1.result p.heap_then p.new p.after_is c.index-after-1.is) in
          c.leaves_in_slot.ensures.1 (subst stays old q.leaves),
    )
