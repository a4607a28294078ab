use Rattle.std.proofs.Common.{◌≡◌, ◌+◌, ◌^◌, ◌<◌, ◌≤◌, length, List, ℕ, slice_range, ap, ◌∙◌, arith}
use Rattle.std.specs.List.{splice, sum_by}
use Rattle.page_types.specs.Inner.Cuts.{cut_at, start_at, ends_with}
use Rattle.page_types.proofs.Cutting.{length-cut_at}
use Rattle.page_types.proofs.Splicing.{are_places, lists_spliced, lists_total, splice_size}
use Rattle.page_types.proofs.pieces.Pieces.replace.Goals as goal

pub overflow_add-to : goal.overflow_add-to
overflow_add-to c = omega (
  arith,
  length-cut_at 0 c.self.inside.ends.items c.self.inside.bytes.items,
  ap length c.self.view_is,
  c.requires.within,
)

pub start_of-start-requires : goal.start_of-start-requires
start_of-start-requires c =
    let n : length c.self.inside.ends.items ≡ length c.args.self.now =
    omega (arith, length-cut_at 0 c.self.inside.ends.items c.self.inside.bytes.items, ap length c.self.view_is) in
    let within : c.args.from + c.args.count ≤ length c.self.inside.ends.items = omega (arith, c.requires.within) in
    omega (arith, ap length c.deref.ensures.value)

pub start_of-end-requires : goal.start_of-end-requires
start_of-end-requires c =
    let n : length c.self.inside.ends.items ≡ length c.args.self.now =
    omega (arith, length-cut_at 0 c.self.inside.ends.items c.self.inside.bytes.items, ap length c.self.view_is) in
    let within : c.args.from + c.args.count ≤ length c.self.inside.ends.items = omega (arith, c.requires.within) in
    omega (arith, ap length c.deref-2.ensures.value)

pub replace_run-requires-clause-in_order : goal.replace_run-requires-clause-in_order
replace_run-requires-clause-in_order c =
    let n : length c.self.inside.ends.items ≡ length c.args.self.now =
    omega (arith, length-cut_at 0 c.self.inside.ends.items c.self.inside.bytes.items, ap length c.self.view_is) in
    let within : c.args.from + c.args.count ≤ length c.self.inside.ends.items = omega (arith, c.requires.within) in
    let start : c.start_of-start.result ≡ start_at 0 c.self.inside.ends.items c.args.from =
    c.start_of-start.ensures ∙ ap (λ es. start_at 0 es c.args.from) c.deref.ensures.value in
    let end : c.start_of-end.result ≡ start_at 0 c.self.inside.ends.items (c.args.from + c.args.count) =
    c.start_of-end.ensures ∙ ap (λ es. start_at 0 es (c.args.from + c.args.count)) c.deref-2.ensures.value in
    let places = are_places c.self.inside.ends.items c.self.inside.bytes.items c.args.from (c.args.from + c.args.count)
    c.start_of-start.result c.start_of-end.result c.self.invariant (omega arith) within start end in
    places.in_order

pub replace_run-requires-clause-within : goal.replace_run-requires-clause-within
replace_run-requires-clause-within c =
    let n : length c.self.inside.ends.items ≡ length c.args.self.now =
    omega (arith, length-cut_at 0 c.self.inside.ends.items c.self.inside.bytes.items, ap length c.self.view_is) in
    let within : c.args.from + c.args.count ≤ length c.self.inside.ends.items = omega (arith, c.requires.within) in
    let start : c.start_of-start.result ≡ start_at 0 c.self.inside.ends.items c.args.from =
    c.start_of-start.ensures ∙ ap (λ es. start_at 0 es c.args.from) c.deref.ensures.value in
    let end : c.start_of-end.result ≡ start_at 0 c.self.inside.ends.items (c.args.from + c.args.count) =
    c.start_of-end.ensures ∙ ap (λ es. start_at 0 es (c.args.from + c.args.count)) c.deref-2.ensures.value in
    let places = are_places c.self.inside.ends.items c.self.inside.bytes.items c.args.from (c.args.from + c.args.count)
    c.start_of-start.result c.start_of-end.result c.self.invariant (omega arith) within start end in
    places.within

pub returns-in_err-replace_run-clause-short : goal.returns-in_err-replace_run-clause-short
returns-in_err-replace_run-clause-short c =
    let n : length c.self.inside.ends.items ≡ length c.args.self.now =
    omega (arith, length-cut_at 0 c.self.inside.ends.items c.self.inside.bytes.items, ap length c.self.view_is) in
    let within : c.args.from + c.args.count ≤ length c.self.inside.ends.items = omega (arith, c.requires.within) in
    let start : c.start_of-start.result ≡ start_at 0 c.self.inside.ends.items c.args.from =
    c.start_of-start.ensures ∙ ap (λ es. start_at 0 es c.args.from) c.deref.ensures.value in
    let end : c.start_of-end.result ≡ start_at 0 c.self.inside.ends.items (c.args.from + c.args.count) =
    c.start_of-end.ensures ∙ ap (λ es. start_at 0 es (c.args.from + c.args.count)) c.deref-2.ensures.value in
    let places = are_places c.self.inside.ends.items c.self.inside.bytes.items c.args.from (c.args.from + c.args.count)
    c.start_of-start.result c.start_of-end.result c.self.invariant (omega arith) within start end in
    let total = lists_total c.self.inside.ends.items c.self.inside.bytes.items c.args.from
    (c.args.from + c.args.count) c.self.invariant (omega arith) within in
    λ few small. cc (c.in_err-replace_run.ensures.short (omega (
      arith,
      total,
      ap (λ (l : List (List ℕ)). sum_by length (slice_range l c.args.from (c.args.from + c.args.count))) c.self.view_is,
    )))

pub replace_ends-requires-clause-within : goal.replace_ends-requires-clause-within
replace_ends-requires-clause-within c =
    let n : length c.self.inside.ends.items ≡ length c.args.self.now =
    omega (arith, length-cut_at 0 c.self.inside.ends.items c.self.inside.bytes.items, ap length c.self.view_is) in
    let within : c.args.from + c.args.count ≤ length c.self.inside.ends.items = omega (arith, c.requires.within) in
    omega (arith, ap length c.reserve.ensures.items)

pub replace_ends-requires-clause-fits : goal.replace_ends-requires-clause-fits
replace_ends-requires-clause-fits c =
    let n : length c.self.inside.ends.items ≡ length c.args.self.now =
    omega (arith, length-cut_at 0 c.self.inside.ends.items c.self.inside.bytes.items, ap length c.self.view_is) in
    let within : c.args.from + c.args.count ≤ length c.self.inside.ends.items = omega (arith, c.requires.within) in
    let start : c.start_of-start.result ≡ start_at 0 c.self.inside.ends.items c.args.from =
    c.start_of-start.ensures ∙ ap (λ es. start_at 0 es c.args.from) c.deref.ensures.value in
    let end : c.start_of-end.result ≡ start_at 0 c.self.inside.ends.items (c.args.from + c.args.count) =
    c.start_of-end.ensures ∙ ap (λ es. start_at 0 es (c.args.from + c.args.count)) c.deref-2.ensures.value in
    let places = are_places c.self.inside.ends.items c.self.inside.bytes.items c.args.from (c.args.from + c.args.count)
    c.start_of-start.result c.start_of-end.result c.self.invariant (omega arith) within start end in
    let small : length c.replace_run.new.list.items < 2 ^ 64 = omega arith in
    let size = splice_size c.self.inside.bytes.items c.args.bytes.now c.start_of-start.result c.start_of-end.result
    places.in_order places.within in
    rw c.reserve.ensures.items (
      length c.self.inside.bytes.items,
      c.self.invariant,
      omega (arith, size, ap length c.in_ok-replace_run.ensures.ok),
    )

pub invariant_of-self-2 : goal.invariant_of-self-2
invariant_of-self-2 c =
    let n : length c.self.inside.ends.items ≡ length c.args.self.now =
    omega (arith, length-cut_at 0 c.self.inside.ends.items c.self.inside.bytes.items, ap length c.self.view_is) in
    let within : c.args.from + c.args.count ≤ length c.self.inside.ends.items = omega (arith, c.requires.within) in
    let start : c.start_of-start.result ≡ start_at 0 c.self.inside.ends.items c.args.from =
    c.start_of-start.ensures ∙ ap (λ es. start_at 0 es c.args.from) c.deref.ensures.value in
    let end : c.start_of-end.result ≡ start_at 0 c.self.inside.ends.items (c.args.from + c.args.count) =
    c.start_of-end.ensures ∙ ap (λ es. start_at 0 es (c.args.from + c.args.count)) c.deref-2.ensures.value in
    let kept = c.reserve.ensures.items in
    let made = lists_spliced c.self.inside.ends.items c.replace_ends.new.ends.items c.args.ends.now
    c.self.inside.bytes.items c.replace_run.new.list.items c.args.bytes.now c.args.from
    (c.args.from + c.args.count) c.start_of-start.result c.start_of-end.result
    c.self.invariant (omega arith) within c.requires.at start end c.in_ok-replace_run.ensures.ok
    (c.replace_ends.ensures ∙ ap
    (λ es. ends_with es c.args.from (c.args.from + c.args.count) c.args.ends.now (length c.args.bytes.now)) kept) in
    made.ends_at

pub returns-clause-ok : goal.returns-clause-ok
returns-clause-ok c =
    let n : length c.self.inside.ends.items ≡ length c.args.self.now =
    omega (arith, length-cut_at 0 c.self.inside.ends.items c.self.inside.bytes.items, ap length c.self.view_is) in
    let within : c.args.from + c.args.count ≤ length c.self.inside.ends.items = omega (arith, c.requires.within) in
    let start : c.start_of-start.result ≡ start_at 0 c.self.inside.ends.items c.args.from =
    c.start_of-start.ensures ∙ ap (λ es. start_at 0 es c.args.from) c.deref.ensures.value in
    let end : c.start_of-end.result ≡ start_at 0 c.self.inside.ends.items (c.args.from + c.args.count) =
    c.start_of-end.ensures ∙ ap (λ es. start_at 0 es (c.args.from + c.args.count)) c.deref-2.ensures.value in
    let kept = c.reserve.ensures.items in
    let made = lists_spliced c.self.inside.ends.items c.replace_ends.new.ends.items c.args.ends.now
    c.self.inside.bytes.items c.replace_run.new.list.items c.args.bytes.now c.args.from
    (c.args.from + c.args.count) c.start_of-start.result c.start_of-end.result
    c.self.invariant (omega arith) within c.requires.at start end c.in_ok-replace_run.ensures.ok
    (c.replace_ends.ensures ∙ ap
    (λ es. ends_with es c.args.from (c.args.from + c.args.count) c.args.ends.now (length c.args.bytes.now)) kept) in
    made.cuts ∙ ap (λ (l : List (List ℕ)). splice l c.args.from (c.args.from + c.args.count)
    (cut_at 0 c.args.ends.now c.args.bytes.now)) c.self.view_is
