use Rattle.std.proofs.Common.{◌≡◌, ◌≢◌, ℕ, List, [], ◌∷◌, ◌++◌, map, take, Vec, Global, ap, ◌∙◌, arith}
use Rattle.std.proofs.lemmas.List.{length-map}
use Rattle.pending_list.specs.Packing.{page_of_row}
use Rattle.pending_list.proofs.RowLists.{take_of_map, drop_of_map}
use Rattle.pending_list.proofs.PackedRows.{is_fitting, some_left, count_some, packing_goes_on}
use Rattle.pending_list.proofs.packing.pack.Goals as goal

-- the keys' bytes
abbrev bytes_of : Vec ℕ Global → List ℕ
bytes_of key = key.items

pub loop-rest-smaller : goal.loop-rest-smaller
loop-rest-smaller c =
    let rest = c.loop-rest.rest.now in
    let fit = c.fitting.ensures in
    let left : map bytes_of rest ≢ [] =
    some_left bytes_of rest c.is_empty.result c.is_empty.ensures c.loop-rest-test.true in
    let some : c.fitting.result ≢ 0 =
    count_some (map bytes_of rest) c.fitting.result c.loop-rest.invariant.each left
    (is_fitting bytes_of 0 rest c.fitting.result fit.within fit.fits fit.most) in
    omega (arith, some, fit.within, c.split_at.ensures.back_len)

pub loop-rest-preserved : goal.loop-rest-preserved
loop-rest-preserved c =
    let rest = c.loop-rest.rest.now in
    let back = c.split_at.result.1.now in
    let count = c.fitting.result in
    let fit = c.fitting.ensures in
    let left : map bytes_of rest ≢ [] =
    some_left bytes_of rest c.is_empty.result c.is_empty.ensures c.loop-rest-test.true in
    let front_is : map bytes_of c.split_at.result.0.now ≡ take count (map bytes_of rest) =
    ap (map bytes_of) c.split_at.ensures.front ∙ take_of_map bytes_of count rest in
    packing_goes_on c.args.item (map bytes_of c.args.keys.now) c.loop-rest.pages.items c.push_page.new.pages.items
    (map bytes_of rest) (map bytes_of back) count c.loop-rest.invariant left
    (is_fitting bytes_of 0 rest count fit.within fit.fits fit.most)
    (c.in_ok-push_page.ensures ∙ ap (λ (ks : List (List ℕ)). c.loop-rest.pages.items ++ page_of_row c.args.item ks ∷ [])
    front_is) (ap (map bytes_of) c.split_at.ensures.back ∙ drop_of_map bytes_of count rest)
    (omega (arith, length-map rest bytes_of, length-map back bytes_of, c.split_at.ensures.back_len))
