use Rattle.std.proofs.Common.{◌≡◌, length, take, drop, sym, ap, ◌∙◌, arith, Ok}
use Rattle.std.proofs.lemmas.Bool.{ltb-true, lt-ltb}
use Rattle.page_types.specs.Items.{items_of}
use Rattle.page_types.specs.ItemReading.{item_at, last_or}
use Rattle.core_state.proofs.TakenEntries.{bytes_same, bytes_differ}
use Rattle.core_state.proofs.ListHalves.{last_read, not_read, list_told, list_back, same_reads, not_next}
use Rattle.core_state.proofs.ListHalves.{not_first, rest_of}
use Rattle.core_state.proofs.splitting.divides_list.Goals as goal
use Rattle.core_state.proofs.splitting.divides_list.Goals.{then-k-eq0-via-then-k-eq0}
use Rattle.core_state.proofs.splitting.divides_list.Goals.{then-k-eq0-via-else-k-eq0+then-k-items}
use Rattle.core_state.proofs.splitting.divides_list.Goals.{then-k-eq0-via-else-k-eq0+else-k-items+then-ne}
use Rattle.core_state.proofs.splitting.divides_list.Goals.{then-k-eq0-via-else-k-eq0+else-k-items+else-ne+then-read-mid}
use Rattle.core_state.proofs.splitting.divides_list.Goals.{then-same-first-via-then-same-first}
use Rattle.core_state.proofs.splitting.divides_list.Goals.{then-same-first-via-else-same-first+then-ne-2}

pub returns-in_default : goal.returns-in_default
returns-in_default c = (
  λ e. absurd (cc),
  λ d. absurd (not_read c.args.front.now c.in_default.field-0 c.requires.front c.in_default.ensures.fault),
)

pub returns-then-k-eq0 : goal.returns-then-k-eq0
returns-then-k-eq0 c =
    let items = c.args.items.now in
    let front = c.args.front.now in
    let read = c.in-Ok.ensures.read in
    let l : c.in-Ok.read.last ≡ last_or 0 (items_of front) =
    last_read front read.0 c.in-Ok.read.rest.now c.in-Ok.read.last c.requires.front read.1 read.3 in (
      λ e. absurd (cc),
      λ d.
          let b = list_back c.args.mid items front c.args.back.now c.requires.items c.requires.front
          c.requires.back d in
          elim c.then-k-eq0.branch [
            | then-k-eq0-via-then-k-eq0 w ↦ absurd (b.some w.if-k-eq0.true)
            | then-k-eq0-via-else-k-eq0+then-k-items w ↦ absurd (omega (arith, b.within, w.if-k-items.true))
            | then-k-eq0-via-else-k-eq0+else-k-items+then-ne w ↦
                absurd (bytes_differ (take (length front) items) front w.ne.result w.ne.ensures w.if-ne.true b.begins)
            | then-k-eq0-via-else-k-eq0+else-k-items+else-ne+then-read-mid w ↦
                absurd (omega (arith, b.up, l, w.if-read-mid.true))
          ],
    )

pub returns-in_default-next_item : goal.returns-in_default-next_item
returns-in_default-next_item c =
    let items = c.args.items.now in
    let front = c.args.front.now in
    let read = c.in-Ok.ensures.read in
    let l : c.in-Ok.read.last ≡ last_or 0 (items_of front) =
    last_read front read.0 c.in-Ok.read.rest.now c.in-Ok.read.last c.requires.front read.1 read.3 in (
      λ e. absurd (cc),
      λ d.
          let b = list_back c.args.mid items front c.args.back.now c.requires.items c.requires.front
          c.requires.back d in
          absurd (not_next c.args.mid c.in-Ok.read.last c.in_default-next_item.field-0 items front c.args.back.now l b
          (ap (item_at c.in-Ok.read.last) (sym (rest_of items (length front))) ∙ c.in_default-next_item.ensures.next)),
    )

pub returns-in_default-next_item-2 : goal.returns-in_default-next_item-2
returns-in_default-next_item-2 c =
    let items = c.args.items.now in
    let front = c.args.front.now in (
      λ e. absurd (cc),
      λ d.
          let b = list_back c.args.mid items front c.args.back.now c.requires.items c.requires.front
          c.requires.back d in
          absurd (not_first c.args.mid c.in_default-next_item-2.field-0 items front c.args.back.now b
          c.in_default-next_item-2.ensures.next),
    )

pub returns-then-same-first : goal.returns-then-same-first
returns-then-same-first c =
    let items = c.args.items.now in
    let front = c.args.front.now in
    let read = c.in-Ok.ensures.read in
    let x = c.in-Ok-next_item in
    let y = c.in-Ok-next_item-2 in
    let l : c.in-Ok.read.last ≡ last_or 0 (items_of front) =
    last_read front read.0 c.in-Ok.read.rest.now c.in-Ok.read.last c.requires.front read.1 read.3 in (
      λ e. absurd (cc),
      λ d.
          let b = list_back c.args.mid items front c.args.back.now c.requires.items c.requires.front
          c.requires.back d in
          let s = same_reads c.args.mid c.in-Ok.read.last items front c.args.back.now x.left.now y.rest.now x.first
          y.same l b (ap (item_at c.in-Ok.read.last) (sym (rest_of items (length front))) ∙ x.ensures.next)
          y.ensures.next in
          elim c.then-same-first.branch [
            | then-same-first-via-then-same-first w ↦ absurd (w.if-same-first.true s.one)
            | then-same-first-via-else-same-first+then-ne-2 w ↦
                absurd (bytes_differ y.rest.now x.left.now w.ne-else-same-first.result
                w.ne-else-same-first.ensures w.if-ne-2.true s.tails)
          ],
    )

pub returns : goal.returns
returns c =
    let mid = c.args.mid in
    let items = c.args.items.now in
    let front = c.args.front.now in
    let back = c.args.back.now in
    let read = c.in-Ok.ensures.read in
    let x = c.in-Ok-next_item in
    let y = c.in-Ok-next_item-2 in
    let l : c.in-Ok.read.last ≡ last_or 0 (items_of front) =
    last_read front read.0 c.in-Ok.read.rest.now c.in-Ok.read.last c.requires.front read.1 read.3 in
    let next : item_at c.in-Ok.read.last (drop (length front) items) ≡ Ok (x.first, x.left.now) =
    ap (item_at c.in-Ok.read.last) (sym (rest_of items (length front))) ∙ x.ensures.next in (
      λ e. list_told mid c.in-Ok.read.last items front back x.left.now y.rest.now x.first y.same c.requires.items
          c.requires.front c.requires.back l c.if-k-eq0.false
          (bytes_same (take (length front) items) front c.ne.result c.ne.ensures c.if-ne.false) c.if-read-mid.false
          next y.ensures.next c.if-same-first.false
          (bytes_same y.rest.now x.left.now c.ne-else-same-first.result c.ne-else-same-first.ensures c.if-ne-2.false)
          (ltb-true mid x.first e),
      λ d.
          let b = list_back mid items front back c.requires.items c.requires.front c.requires.back d in
          let s = same_reads mid c.in-Ok.read.last items front back x.left.now y.rest.now x.first y.same l b next
          y.ensures.next in
          lt-ltb mid x.first s.above,
    )
