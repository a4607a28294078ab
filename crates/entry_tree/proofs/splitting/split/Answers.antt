use Rattle.entry_tree.proofs.SplitParts.{front_part, back_part}
use Rattle.entry_tree.proofs.SplitPages.{parts_made, pages_made}
use Rattle.entry_tree.proofs.splitting.split.Goals as goal

pub returns-in-Ok : goal.returns-in-Ok
returns-in-Ok c =
    let page = c.args.page.now in
    let k = c.place_of_cut-k.result in
    let cut = c.place_of_cut-k.ensures.cut in
    let left = front_part page.body c.in_ok-first.first c.cut_key.result.now k c.cut_key.ensures
    c.in_ok-first.ensures in
    let right = back_part page.body c.in-Ok.second c.upper.result.now k c.member_count.result c.upper.ensures
    c.member_count.ensures c.in-Ok.ensures in
    record {
      parts = parts_made page c.args.new k c.args.keep c.in_ok-first.first c.in-Ok.second left right cut;
      are_pages = λ some lt.
          pages_made page c.args.new k c.args.keep c.in_ok-first.first c.in-Ok.second c.requires.page
          c.requires.entries c.place_of_cut-k.ensures.place left right cut some lt;
    }
