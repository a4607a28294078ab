use Rattle.std.proofs.Common.{◌≡◌, ◌∷◌, [], ◌++◌, length, List, ℕ, refl, ap, ◌∙◌, arith}
use Rattle.std.proofs.lemmas.List.{length-append}
use Rattle.page_types.specs.Inner.Cuts.{cut_at}
use Rattle.page_types.specs.Inner.Joins.{row_with}
use Rattle.page_types.proofs.Cutting.{length-cut_at, piece_more}
use Rattle.page_types.proofs.Joining.{joined_grown}
use Rattle.page_types.proofs.rows.Rows.push.Goals as goal

pub invariant_of-self-2 : goal.invariant_of-self-2
invariant_of-self-2 c =
    let ends : c.push_reserved-2.new.self.items ≡ c.self.inside.ends.items ++ c.len-end.result ∷ [] =
    c.push_reserved-2.ensures.items ∙ ap (λ (t : List ℕ). t ++ c.len-end.result ∷ []) c.reserve-2.ensures.items in
    let items : c.push_reserved.new.self.items ≡ c.self.inside.items.items ++ c.args.item ∷ [] =
    c.push_reserved.ensures.items ∙ ap (λ (t : List ℕ). t ++ c.args.item ∷ []) c.reserve.ensures.items in
    let more = piece_more c.self.inside.ends.items c.push_reserved-2.new.self.items c.self.inside.keys c.append.new.self
    c.args.keys.now c.len-end.result c.self.invariant.0 c.in_ok-append.ensures.ok c.len-end.ensures ends in (
      more.ends_at,
      omega (
        arith,
        ap length ends,
        ap length items,
        length-append c.self.inside.ends.items (c.len-end.result ∷ []),
        length-append c.self.inside.items.items (c.args.item ∷ []),
        c.self.invariant.1,
      ),
    )

pub returns-clause-ok : goal.returns-clause-ok
returns-clause-ok c =
    let ends : c.push_reserved-2.new.self.items ≡ c.self.inside.ends.items ++ c.len-end.result ∷ [] =
    c.push_reserved-2.ensures.items ∙ ap (λ (t : List ℕ). t ++ c.len-end.result ∷ []) c.reserve-2.ensures.items in
    let items : c.push_reserved.new.self.items ≡ c.self.inside.items.items ++ c.args.item ∷ [] =
    c.push_reserved.ensures.items ∙ ap (λ (t : List ℕ). t ++ c.args.item ∷ []) c.reserve.ensures.items in
    let more = piece_more c.self.inside.ends.items c.push_reserved-2.new.self.items c.self.inside.keys c.append.new.self
    c.args.keys.now c.len-end.result c.self.invariant.0 c.in_ok-append.ensures.ok c.len-end.ensures ends in
    let sizes : length c.self.inside.items.items ≡ length (cut_at 0 c.self.inside.ends.items c.self.inside.keys) =
    omega (arith, length-cut_at 0 c.self.inside.ends.items c.self.inside.keys, c.self.invariant.1) in
    joined_grown row_with c.self.inside.items.items c.push_reserved.new.self.items
    (cut_at 0 c.self.inside.ends.items c.self.inside.keys) (cut_at 0 c.push_reserved-2.new.self.items
    c.append.new.self) c.args.item c.args.keys.now _ c.args.self.now sizes items more.cuts refl c.self.view_is
