use Rattle.std.proofs.Common.{◌≡◌, ◌++◌, map, ap, sym, subst, ◌∙◌, arith, get_or}
use Rattle.std.proofs.lemmas.Grind.{common_steps}
use Rattle.std.proofs.lemmas.List.Sorted.{IsPermutation-refl}
use Rattle.ts_base.specs.Vectors.{Entry}
use Rattle.ts_vector.specs.Inner.CappedForm.{moved_within, shifted_within}
use Rattle.ts_vector.specs.Inner.Columns.{entry}
use Rattle.ts_vector.specs.Inner.Steps.{joined, PutsSettled}
use Rattle.ts_vector.proofs.Settling.{form, form_normal, form_size}
use Rattle.ts_vector.proofs.Joining.{Merged, moved, merged_start, merged_first, merged_second, merged_both, merged_end}
use Rattle.ts_vector.proofs.merge.merged.Goals as goal

pub loop-i-init : goal.loop-i-init
loop-i-init c = subst (Merged c.args.first.now c.args.second.now c.args.by 0 0) (sym c.new-out.ensures)
    (merged_start c.args.first.now c.args.second.now c.args.by c.requires.first c.requires.second)

pub loop-i-preserved-in-Less : goal.loop-i-preserved-in-Less
loop-i-preserved-in-Less c =
    let v = c.args.first.now in
    let i = c.loop-i.i in
    let same : (d : Entry)
    → entry c.lexeme.result.now c.in_ok-positions-in-Less.positions.items ≡ moved 0 (get_or v i d) =
    λ d. let ps = c.in_ok-positions-in-Less.ensures ∙ ap (map (moved_within 0)) (c.positions.ensures d) in
    λ t. record { lexeme = c.lexeme.ensures d t; positions = ps t } in
    merged_first v c.args.second.now c.args.by i c.loop-i.j c.loop-i.out c.put.new.out c.loop-i.invariant
    c.in-Less.ensures
    (λ d. subst (λ e. PutsSettled c.loop-i.out e c.put.new.out) (same d) c.in_ok-put-in-Less.ensures.ok)

pub overflow_add-j : goal.overflow_add-j
overflow_add-j c = omega (arith, c.in-Equal.ensures.1, c.len-seconds.ensures, c.len-seconds.type_inv)

pub loop-i-preserved-in-Equal : goal.loop-i-preserved-in-Equal
loop-i-preserved-in-Equal c =
    let v = c.args.first.now in
    let w = c.args.second.now in
    let i = c.loop-i.i in
    let j = c.loop-i.j in
    let all : c.extend_from_slice.new.self.items ≡ c.in_ok-positions-in-Equal.positions.items
    ++ c.in_ok-others-in-Equal.others.items = grind (arith, common_steps, c.as_slice.ensures.value) in
    let same : (d : Entry) → entry c.lexeme-in-Equal.result.now c.extend_from_slice.new.self.items
    ≡ joined (moved 0 (get_or v i d)) (moved c.args.by (get_or w j d)) =
    λ d.
    let ps = c.in_ok-positions-in-Equal.ensures ∙ ap (map (moved_within 0)) (c.positions-in-Equal.ensures d) in
    let qs = c.in_ok-others-in-Equal.ensures ∙ ap (map (moved_within c.args.by)) (c.positions-in-Equal-2.ensures d) in
    let both = all ∙ (λ t. ps t ++ qs t) in
    λ t. record { lexeme = c.lexeme-in-Equal.ensures d t; positions = both t } in
    merged_both v w c.args.by i j c.loop-i.out c.put-in-Equal.new.out c.loop-i.invariant c.in-Equal.ensures
    (λ d. subst (λ e. PutsSettled c.loop-i.out e c.put-in-Equal.new.out) (same d) c.in_ok-put-in-Equal.ensures.ok)

pub overflow_add-j-in-Greater : goal.overflow_add-j-in-Greater
overflow_add-j-in-Greater c = omega (arith, c.in-Greater.ensures.0, c.len-seconds.ensures, c.len-seconds.type_inv)

pub loop-i-preserved : goal.loop-i-preserved
loop-i-preserved c =
    let w = c.args.second.now in
    let j = c.loop-i.j in
    let same : (d : Entry) → entry c.lexeme-in-Greater.result.now c.in_ok-positions-in-Greater.positions.items
    ≡ moved c.args.by (get_or w j d) =
    λ d. let ps =
    c.in_ok-positions-in-Greater.ensures ∙ ap (map (moved_within c.args.by)) (c.positions-in-Greater.ensures d) in
    λ t. record { lexeme = c.lexeme-in-Greater.ensures d t; positions = ps t } in
    merged_second c.args.first.now w c.args.by c.loop-i.i j c.loop-i.out c.put-in-Greater.new.out c.loop-i.invariant
    c.in-Greater.ensures
    (λ d. subst (λ e. PutsSettled c.loop-i.out e c.put-in-Greater.new.out) (same d) c.in_ok-put-in-Greater.ensures.ok)

pub returns-clause-form : goal.returns-clause-form
returns-clause-form c =
    let v = c.args.first.now in
    let w = c.args.second.now in
    let items = shifted_within 0 v ++ shifted_within c.args.by w in
    let m = merged_end v w c.args.by c.loop-i.i c.loop-i.j c.loop-i.out c.loop-i.invariant
    (omega (arith, c.len-firsts.ensures)) (omega (arith, c.len-seconds.ensures)) in
    form items items m.0 c.loop-i.out (IsPermutation-refl items) m.1 m.2

pub returns-clause-normal : goal.returns-clause-normal
returns-clause-normal c =
    let v = c.args.first.now in
    let w = c.args.second.now in
    let items = shifted_within 0 v ++ shifted_within c.args.by w in
    let m = merged_end v w c.args.by c.loop-i.i c.loop-i.j c.loop-i.out c.loop-i.invariant
    (omega (arith, c.len-firsts.ensures)) (omega (arith, c.len-seconds.ensures)) in
    form_normal items items m.0 c.loop-i.out (IsPermutation-refl items) m.1 m.2

pub returns-clause-size : goal.returns-clause-size
returns-clause-size c =
    let v = c.args.first.now in
    let w = c.args.second.now in
    let items = shifted_within 0 v ++ shifted_within c.args.by w in
    let m = merged_end v w c.args.by c.loop-i.i c.loop-i.j c.loop-i.out c.loop-i.invariant
    (omega (arith, c.len-firsts.ensures)) (omega (arith, c.len-seconds.ensures)) in
    form_size items items m.0 c.loop-i.out (IsPermutation-refl items) m.1 m.2
