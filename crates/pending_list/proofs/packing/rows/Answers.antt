use Rattle.std.proofs.Common.{map}
use Rattle.std.proofs.lemmas.List.Elements.{All-from_recursion}
use Rattle.page_types.specs.Pages.{IsPage}
use Rattle.pending_list.proofs.PackedRows.{packed_pages}
use Rattle.pending_list.proofs.packing.rows.Goals as goal

pub returns-clause-are_pages : goal.returns-clause-are_pages
returns-clause-are_pages c =
    let keys = c.requires.keys in
    All-from_recursion IsPage c.pack.new.pages.items
    (packed_pages c.args.item (map (λ key. key.items) c.args.keys.now) c.pack.new.pages.items c.in_ok-pack.ensures
    c.requires.item keys.some keys.each keys.rising)
