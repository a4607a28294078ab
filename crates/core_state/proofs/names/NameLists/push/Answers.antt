use Rattle.std.proofs.Common.{◌∷◌, [], ◌++◌, ◌≡◌, ◌≤◌, ◌+◌, length, ap, ◌∙◌, arith}
use Rattle.std.specs.Vec.{vec_len, vec_capacity}
use Rattle.std.specs.Prelude.{is_ok}
use Rattle.page_types.proofs.Cutting.{piece_more}
use Rattle.core_state.specs.Inner.Lists.{Listed}
use Rattle.core_state.proofs.Taken.{when_true}
use Rattle.core_state.proofs.names.NameLists.push.Goals as goal

pub invariant_of-self : goal.invariant_of-self
invariant_of-self c =
    let room : vec_len c.self.inside.names + length c.args.names.now ≤ vec_capacity c.self.inside.names = omega
    (arith, c.requires.list, c.requires.names, ap (λ (v : Listed). v.names_left) c.self.view_is) in
    let items : c.extend_from_slice.new.self.items ≡ c.self.inside.names.items ++ c.args.names.now =
    when_true (is_ok c.extend_from_slice.result) c.extend_from_slice.new.self.items
    (c.self.inside.names.items ++ c.args.names.now) c.self.inside.names.items
    (c.extend_from_slice.ensures.succeeds room) c.extend_from_slice.ensures.items in
    let end : c.len-end.result ≡ length c.extend_from_slice.new.self.items = omega (arith, c.len-end.ensures) in
    (piece_more c.self.inside.ends.items c.push_reserved.new.self.items c.self.inside.names.items
    c.extend_from_slice.new.self.items c.args.names.now c.len-end.result c.self.invariant items end
    c.push_reserved.ensures.items).ends_at

pub returns : goal.returns
returns c =
    let room : vec_len c.self.inside.names + length c.args.names.now ≤ vec_capacity c.self.inside.names = omega
    (arith, c.requires.list, c.requires.names, ap (λ (v : Listed). v.names_left) c.self.view_is) in
    let items : c.extend_from_slice.new.self.items ≡ c.self.inside.names.items ++ c.args.names.now =
    when_true (is_ok c.extend_from_slice.result) c.extend_from_slice.new.self.items
    (c.self.inside.names.items ++ c.args.names.now) c.self.inside.names.items
    (c.extend_from_slice.ensures.succeeds room) c.extend_from_slice.ensures.items in
    let end : c.len-end.result ≡ length c.extend_from_slice.new.self.items = omega (arith, c.len-end.ensures) in
    (piece_more c.self.inside.ends.items c.push_reserved.new.self.items c.self.inside.names.items
    c.extend_from_slice.new.self.items c.args.names.now c.len-end.result c.self.invariant items end
    c.push_reserved.ensures.items).cuts
    ∙ ap (λ (v : Listed). v.lists ++ c.args.names.now ∷ []) c.self.view_is
