use Rattle.std.proofs.Common.{◌≡◌, ◌<◌, ◌+◌, ◌∷◌, [], ◌++◌, length, map, take, sym, ap, ◌∙◌, arith}
use Rattle.std.proofs.lemmas.List.{map_more, take_more, length-map, length-take}
use Rattle.ts_vector.specs.Inner.Columns.{entry}
use Rattle.ts_vector.specs.Inner.Building.{rows_of}
use Rattle.ts_vector.proofs.Building.{rows_more}
use Rattle.ts_vector.proofs.builder.rows.Goals as goal

pub loop-k-preserved : goal.loop-k-preserved
loop-k-preserved c =
    let ls = c.args.lexemes.now in
    let lists = c.args.lists.now in
    let k = c.loop-k.k in
    let l = c.index-lexemes-k.result in
    let v = c.index-lists-k.result in
    let in_ls : k < length ls = c.loop-k-test.true in
    let in_lists : k < length lists = omega (arith, c.requires) in
    let front = take k ls in
    let fronts = map (λ list. list.items) (take k lists) in
    let more : take (k + 1) ls ≡ front ++ l ∷ [] =
    take_more ls k l in_ls ∙ ap (λ t. front ++ t ∷ []) (sym c.index-lexemes-k.is) in
    let mores : map (λ list. list.items) (take (k + 1) lists) ≡ fronts ++ v.items ∷ [] =
    map_more (λ list. list.items) lists k v in_lists ∙ ap (λ t. fronts ++ t.items ∷ []) (sym c.index-lists-k.is) in
    let same : length fronts ≡ length front =
    omega (arith, length-map (take k lists) (λ list. list.items), length-take k lists, length-take k ls) in
    c.in_ok-push.ensures.ok
    ∙ (λ i. c.loop-k.invariant i ++ entry ((c.as_bytes.ensures.value ∙ c.as_str.ensures.value) i)
    (c.as_slice.ensures.value i) ∷ [])
    ∙ sym (rows_more front fronts l v.items same)
    ∙ sym (λ i. rows_of (more i) (mores i))
