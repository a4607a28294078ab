use Rattle.std.proofs.Common.{◌≡◌, ◌++◌, [], ◌∷◌, ◌∙◌, arith, rules}
use Rattle.std.proofs.lemmas.Grind.{common_steps}
use Rattle.page_types.specs.Items.{item_list}
use Rattle.posting_code.specs.Dividing.{list_cutting}
use Rattle.posting_tree.proofs.Cuts.{cut_divides}
use Rattle.posting_tree.proofs.LeafParts.{leaf_cut, leaf_ends, next_item, own_difference}
use Rattle.posting_tree.proofs.splitting.leaf_parts.Goals as goal

pub encode_items-requires : goal.encode_items-requires
encode_items-requires c =
    let list = c.args.list.now in
    let w = c.in-Some.ensures.some in
    next_item list w.0 w.1 c.in-Some.halves c.requires.list
    (cut_divides (list_cutting list) w.0 w.1 c.args.keep w.2) w.3

pub returns-clause-cut : goal.returns-clause-cut
returns-clause-cut c =
    let list = c.args.list.now in
    let w = c.in-Some.ensures.some in
    let made : c.from_vec.result ≡ item_list (c.in-Some.halves.next ∷ []) ++ c.in-Some.halves.rest.now =
    first_of (search rules, grind (arith, common_steps)) in
    leaf_cut c.args.high list w.0 w.1 c.in_ok-front.front c.from_vec.result c.in-Some.halves.last c.args.keep
    c.requires.list w.2 (cut_divides (list_cutting list) w.0 w.1 c.args.keep w.2)
    (c.in_ok-front.ensures ∙ w.3.front_is) w.3.last_is
    (own_difference c.in-Some.halves.next c.in-Some.halves.rest.now (item_list w.1) c.from_vec.result made w.3.back_is)

pub returns-clause-ends : goal.returns-clause-ends
returns-clause-ends c =
    let list = c.args.list.now in
    let w = c.in-Some.ensures.some in
    leaf_ends list w.0 w.1 c.in_ok-front.front c.in-Some.halves.last c.requires.list
    (cut_divides (list_cutting list) w.0 w.1 c.args.keep w.2) (c.in_ok-front.ensures ∙ w.3.front_is) w.3.last_is
