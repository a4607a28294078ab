use Rattle.std.proofs.lemmas.List.{get_or_read}
use Rattle.buffer_frames.specs.declared.home.Home.TheVariants.{Free}
use Rattle.buffer_frames.proofs.HomesTaken.{taken_where}
use Rattle.buffer_frames.proofs.home.take_page.Goals as goal

pub returns-clause-taken : goal.returns-clause-taken
returns-clause-taken c =
    let mid = c.make_home.new.homes.items in
    let there = c.in_ok-make_home.ensures.there in
    taken_where c.take_home.result c.args.homes.now.items mid c.args.page c.index_mut.result.now c.take_home.new.home
    c.requires c.make_home.ensures.same c.make_home.ensures.longer there
    (get_or_read mid c.args.page c.index_mut.result.now there c.index_mut.ensures.value Free) c.take_home.ensures.taken
