use Rattle.std.proofs.Common.{◌∷◌, [], ◌++◌, ◌≡◌, length, List, ℕ, ap, ◌∙◌, arith}
use Rattle.page_types.proofs.Cutting.{piece_more}
use Rattle.page_types.proofs.pieces.Pieces.push.Goals as goal

pub invariant_of-self-2 : goal.invariant_of-self-2
invariant_of-self-2 c =
    let end : c.len-end.result ≡ length c.extend_from_slice.new.self.items = omega (arith, c.len-end.ensures) in
    (piece_more c.self.inside.ends.items c.push_reserved.new.self.items c.self.inside.bytes.items
    c.extend_from_slice.new.self.items c.args.piece.now c.len-end.result c.self.invariant
    c.in_ok-extend_from_slice.ensures.items end (c.push_reserved.ensures.items
    ∙ ap (λ (t : List ℕ). t ++ c.len-end.result ∷ []) c.reserve.ensures.items)).ends_at

pub returns-clause-ok : goal.returns-clause-ok
returns-clause-ok c =
    let end : c.len-end.result ≡ length c.extend_from_slice.new.self.items = omega (arith, c.len-end.ensures) in
    (piece_more c.self.inside.ends.items c.push_reserved.new.self.items
    c.self.inside.bytes.items c.extend_from_slice.new.self.items c.args.piece.now
    c.len-end.result c.self.invariant c.in_ok-extend_from_slice.ensures.items end
    (c.push_reserved.ensures.items ∙ ap (λ (t : List ℕ). t ++ c.len-end.result ∷ []) c.reserve.ensures.items)).cuts
    ∙ ap (λ (t : List (List ℕ)). t ++ c.args.piece.now ∷ []) c.self.view_is
