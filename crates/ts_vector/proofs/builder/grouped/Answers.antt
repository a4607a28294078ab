use Rattle.std.proofs.Common.{◌≡◌, ◌<◌, ◌+◌, ◌∷◌, [], ◌++◌, length, map, get_or, take, sym, ap, subst, ◌∙◌, arith}
use Rattle.std.specs.Prelude.{slice_set}
use Rattle.std.proofs.lemmas.List.{map-set, get_or-map, take_more, length-map}
use Rattle.ts_vector.specs.declared.builder.Occurrence.{Occurrence}
use Rattle.ts_vector.specs.Inner.Building.{AreGrouped}
use Rattle.ts_vector.proofs.Building.{grouped_more}
use Rattle.ts_vector.proofs.builder.grouped.Goals as goal

pub loop-occurrence-preserved : goal.loop-occurrence-preserved
loop-occurrence-preserved c =
    let os = c.args.occurrences.now in
    let k = c.loop-occurrence.occurrence-index in
    let o : Occurrence = c.occurrence-item.result in
    let lists = c.loop-occurrence.lists.items in
    let old = map (λ list. list.items) lists in
    let here : o ≡ get_or os k o = c.occurrence-item.is in
    let lt : o.lexeme < c.args.count =
    subst (λ (x : Occurrence). x.lexeme < c.args.count) (sym here) (c.requires k o c.loop-occurrence-test.true) in
    let n = c.loop-occurrence.invariant.count_is in
    let within : o.lexeme < length lists = omega (arith, length-map lists (λ list. list.items)) in
    let v = c.index_mut.result.now in
    let before : get_or old o.lexeme [] ≡ v.items =
    get_or-map (λ list. list.items) lists o.lexeme v [] within ∙ ap (λ w. w.items) (sym c.index_mut.ensures.value) in
    let items : c.push.new.self.items ≡ get_or old o.lexeme [] ++ o.position ∷ [] =
    c.in_ok-push.ensures.items ∙ ap (λ t. t ++ o.position ∷ []) (sym before) in
    let new : map (λ list. list.items) (slice_set lists o.lexeme c.push.new.self)
    ≡ slice_set old o.lexeme (get_or old o.lexeme [] ++ o.position ∷ []) =
    map-set (λ list. list.items) lists o.lexeme c.push.new.self ∙ ap (slice_set old o.lexeme) items in
    let all : take (k + 1) os ≡ take k os ++ o ∷ [] =
    take_more os k o c.loop-occurrence-test.true ∙ ap (λ x. take k os ++ x ∷ []) (sym here) in
    subst (λ t. AreGrouped c.args.count t (map (λ list. list.items) (slice_set lists o.lexeme c.push.new.self)))
    (sym all)
    (subst (AreGrouped c.args.count (take k os ++ o ∷ [])) (sym new)
    (grouped_more c.args.count (take k os) old o c.loop-occurrence.invariant lt))
