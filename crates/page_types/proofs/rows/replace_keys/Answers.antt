use Rattle.std.proofs.Common.{◌≡◌, ◌+◌, ◌-◌, ◌≤◌, length, sym, ap, subst, ◌∙◌, arith}
use Rattle.page_types.specs.Inner.Cuts.{start_at, ends_with, EndAt}
use Rattle.page_types.proofs.Splicing.{are_places, lists_spliced, splice_size}
use Rattle.page_types.proofs.rows.replace_keys.Goals as goal

pub splice-requires-clause-in_order : goal.splice-requires-clause-in_order
splice-requires-clause-in_order c =
    let within : c.args.k + c.args.count ≤ length c.args.ends.now.items = c.requires.within in
    let start : c.start_of-start.result ≡ start_at 0 c.args.ends.now.items c.args.k =
    c.start_of-start.ensures ∙ ap (λ es. start_at 0 es c.args.k) c.deref.ensures.value in
    let end : c.start_of-end.result ≡ start_at 0 c.args.ends.now.items (c.args.k + c.args.count) =
    c.start_of-end.ensures ∙ ap (λ es. start_at 0 es (c.args.k + c.args.count)) c.deref-2.ensures.value in
    let places = are_places c.args.ends.now.items c.args.all.now c.args.k (c.args.k + c.args.count)
    c.start_of-start.result c.start_of-end.result c.requires.at (omega arith) within start end in
    places.in_order

pub splice-requires-clause-within : goal.splice-requires-clause-within
splice-requires-clause-within c =
    let within : c.args.k + c.args.count ≤ length c.args.ends.now.items = c.requires.within in
    let start : c.start_of-start.result ≡ start_at 0 c.args.ends.now.items c.args.k =
    c.start_of-start.ensures ∙ ap (λ es. start_at 0 es c.args.k) c.deref.ensures.value in
    let end : c.start_of-end.result ≡ start_at 0 c.args.ends.now.items (c.args.k + c.args.count) =
    c.start_of-end.ensures ∙ ap (λ es. start_at 0 es (c.args.k + c.args.count)) c.deref-2.ensures.value in
    let places = are_places c.args.ends.now.items c.args.all.now c.args.k (c.args.k + c.args.count)
    c.start_of-start.result c.start_of-end.result c.requires.at (omega arith) within start end in
    places.within

pub returns-in_err-splice-clause-short : goal.returns-in_err-splice-clause-short
returns-in_err-splice-clause-short c =
    let within : c.args.k + c.args.count ≤ length c.args.ends.now.items = c.requires.within in
    let start : c.start_of-start.result ≡ start_at 0 c.args.ends.now.items c.args.k =
    c.start_of-start.ensures ∙ ap (λ es. start_at 0 es c.args.k) c.deref.ensures.value in
    let end : c.start_of-end.result ≡ start_at 0 c.args.ends.now.items (c.args.k + c.args.count) =
    c.start_of-end.ensures ∙ ap (λ es. start_at 0 es (c.args.k + c.args.count)) c.deref-2.ensures.value in
    λ few fits small. cc (c.in_err-splice.ensures.short (rw (start, end) fits) (rw (start, end) small))

pub overflow_sub-others : goal.overflow_sub-others
overflow_sub-others c =
    let within : c.args.k + c.args.count ≤ length c.args.ends.now.items = c.requires.within in
    let start : c.start_of-start.result ≡ start_at 0 c.args.ends.now.items c.args.k =
    c.start_of-start.ensures ∙ ap (λ es. start_at 0 es c.args.k) c.deref.ensures.value in
    let end : c.start_of-end.result ≡ start_at 0 c.args.ends.now.items (c.args.k + c.args.count) =
    c.start_of-end.ensures ∙ ap (λ es. start_at 0 es (c.args.k + c.args.count)) c.deref-2.ensures.value in
    let places = are_places c.args.ends.now.items c.args.all.now c.args.k (c.args.k + c.args.count)
    c.start_of-start.result c.start_of-end.result c.requires.at (omega arith) within start end in
    places.in_order

pub overflow_sub-others-2 : goal.overflow_sub-others-2
overflow_sub-others-2 c =
    let within : c.args.k + c.args.count ≤ length c.args.ends.now.items = c.requires.within in
    let start : c.start_of-start.result ≡ start_at 0 c.args.ends.now.items c.args.k =
    c.start_of-start.ensures ∙ ap (λ es. start_at 0 es c.args.k) c.deref.ensures.value in
    let end : c.start_of-end.result ≡ start_at 0 c.args.ends.now.items (c.args.k + c.args.count) =
    c.start_of-end.ensures ∙ ap (λ es. start_at 0 es (c.args.k + c.args.count)) c.deref-2.ensures.value in
    let places = are_places c.args.ends.now.items c.args.all.now c.args.k (c.args.k + c.args.count)
    c.start_of-start.result c.start_of-end.result c.requires.at (omega arith) within start end in
    omega (arith, places.within, c.len.ensures)

pub replace_ends-requires-clause-at : goal.replace_ends-requires-clause-at
replace_ends-requires-clause-at c =
    let within : c.args.k + c.args.count ≤ length c.args.ends.now.items = c.requires.within in
    let start : c.start_of-start.result ≡ start_at 0 c.args.ends.now.items c.args.k =
    c.start_of-start.ensures ∙ ap (λ es. start_at 0 es c.args.k) c.deref.ensures.value in
    let end : c.start_of-end.result ≡ start_at 0 c.args.ends.now.items (c.args.k + c.args.count) =
    c.start_of-end.ensures ∙ ap (λ es. start_at 0 es (c.args.k + c.args.count)) c.deref-2.ensures.value in
    let places = are_places c.args.ends.now.items c.args.all.now c.args.k (c.args.k + c.args.count)
    c.start_of-start.result c.start_of-end.result c.requires.at (omega arith) within start end in
    let sizes = splice_size c.args.all.now c.args.keys.now c.start_of-start.result c.start_of-end.result places.in_order
    places.within in
    let low = places.in_order in
    let high = places.within in
    let came : c.len-2.result - (c.len.result - (c.start_of-end.result - c.start_of-start.result)) ≡ length
    c.args.keys.now = omega (arith, sizes, ap length c.in_ok-splice.ensures.ok, c.len-2.ensures, c.len.ensures) in
    subst (EndAt 0 c.args.new.now) (sym came) c.requires.new_at

pub replace_ends-requires-clause-fits : goal.replace_ends-requires-clause-fits
replace_ends-requires-clause-fits c =
    let within : c.args.k + c.args.count ≤ length c.args.ends.now.items = c.requires.within in
    let start : c.start_of-start.result ≡ start_at 0 c.args.ends.now.items c.args.k =
    c.start_of-start.ensures ∙ ap (λ es. start_at 0 es c.args.k) c.deref.ensures.value in
    let end : c.start_of-end.result ≡ start_at 0 c.args.ends.now.items (c.args.k + c.args.count) =
    c.start_of-end.ensures ∙ ap (λ es. start_at 0 es (c.args.k + c.args.count)) c.deref-2.ensures.value in
    let places = are_places c.args.ends.now.items c.args.all.now c.args.k (c.args.k + c.args.count)
    c.start_of-start.result c.start_of-end.result c.requires.at (omega arith) within start end in
    let sizes = splice_size c.args.all.now c.args.keys.now c.start_of-start.result c.start_of-end.result places.in_order
    places.within in
    let low = places.in_order in
    let high = places.within in
    let came : c.len-2.result - (c.len.result - (c.start_of-end.result - c.start_of-start.result)) ≡ length
    c.args.keys.now = omega (arith, sizes, ap length c.in_ok-splice.ensures.ok, c.len-2.ensures, c.len.ensures) in
    rw c.reserve.ensures.items (
      length c.args.all.now,
      c.requires.at,
      omega (arith, sizes, came, c.len-2.ensures, ap length c.in_ok-splice.ensures.ok),
    )

pub returns-clause-ok : goal.returns-clause-ok
returns-clause-ok c =
    let within : c.args.k + c.args.count ≤ length c.args.ends.now.items = c.requires.within in
    let start : c.start_of-start.result ≡ start_at 0 c.args.ends.now.items c.args.k =
    c.start_of-start.ensures ∙ ap (λ es. start_at 0 es c.args.k) c.deref.ensures.value in
    let end : c.start_of-end.result ≡ start_at 0 c.args.ends.now.items (c.args.k + c.args.count) =
    c.start_of-end.ensures ∙ ap (λ es. start_at 0 es (c.args.k + c.args.count)) c.deref-2.ensures.value in
    let places = are_places c.args.ends.now.items c.args.all.now c.args.k (c.args.k + c.args.count)
    c.start_of-start.result c.start_of-end.result c.requires.at (omega arith) within start end in
    let sizes = splice_size c.args.all.now c.args.keys.now c.start_of-start.result c.start_of-end.result places.in_order
    places.within in
    let low = places.in_order in
    let high = places.within in
    let came : c.len-2.result - (c.len.result - (c.start_of-end.result - c.start_of-start.result)) ≡ length
    c.args.keys.now = omega (arith, sizes, ap length c.in_ok-splice.ensures.ok, c.len-2.ensures, c.len.ensures) in
    lists_spliced c.args.ends.now.items c.replace_ends.new.ends.items c.args.new.now c.args.all.now c.splice.new.self
    c.args.keys.now c.args.k (c.args.k + c.args.count) c.start_of-start.result c.start_of-end.result
    c.requires.at (omega arith) within c.requires.new_at start end c.in_ok-splice.ensures.ok
    (c.replace_ends.ensures ∙ ap (λ es. ends_with es c.args.k (c.args.k + c.args.count) c.args.new.now
    (c.len-2.result - (c.len.result - (c.start_of-end.result - c.start_of-start.result)))) c.reserve.ensures.items
    ∙ ap (ends_with c.args.ends.now.items c.args.k (c.args.k + c.args.count) c.args.new.now) came)
