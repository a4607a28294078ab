use Rattle.std.proofs.Common.{◌<◌, ◌≤◌, length, refl, sym, subst, arith}
use Rattle.std.proofs.lemmas.Option.{none-some, slice_get_within}
use Rattle.page_types.specs.Numbers.{most_body}
use Rattle.page_types.specs.Pages.{IsPage}
use Rattle.page_types.specs.Encoding.{body_bytes}
use Rattle.page_types.specs.Views.{entries_in}
use Rattle.entry_tree.specs.Adding.{list_entry}
use Rattle.entry_tree.specs.Rooting.{rooted}
use Rattle.entry_tree.proofs.RootedPages.{rooted_size, rooted_page, list_within, list_short}
use Rattle.entry_tree.proofs.rooting.root_at.Goals as goal

pub overflow_sub-body_length : goal.overflow_sub-body_length
overflow_sub-body_length c =
    let within = list_within c.args.page.now.body c.args.place c.entry_at.result.0.now c.entry_at.result.1.now
    c.requires.leaf c.entry_at.ensures in
    omega (arith, within, c.body_length.ensures)

pub returns-then-body_length-list-gt-MOST_BODY_BYTES : goal.returns-then-body_length-list-gt-MOST_BODY_BYTES
returns-then-body_length-list-gt-MOST_BODY_BYTES c =
    let content = c.args.page.now.body in
    let key = c.entry_at.result.0.now in
    let list = c.entry_at.result.1.now in
    let size = rooted_size content c.args.place c.args.root key list c.requires.leaf c.entry_at.ensures in
    let more = c.if-body_length-list-gt-MOST_BODY_BYTES.true in
    let long : most_body < length (body_bytes (rooted content c.args.place c.args.root)) =
    omega (arith, size, c.body_length.ensures, more) in
    let few : length list < 2 = omega (arith, c.body_length.ensures, c.requires.fits, more) in
    record {
      rooted = tt;
      none = (λ e. long, λ l. refl);
      short = λ e k l at. list_short (entries_in content) c.args.place key list k l c.entry_at.ensures at few;
      is_page = tt;
    }

pub leaf_with-requires-clause-place : goal.leaf_with-requires-clause-place
leaf_with-requires-clause-place c =
    slice_get_within (entries_in c.args.page.now.body) c.args.place
    (list_entry c.entry_at.result.0.now c.entry_at.result.1.now) c.entry_at.ensures

pub returns : goal.returns
returns c =
    let page = c.args.page.now in
    let size = rooted_size page.body c.args.place c.args.root c.entry_at.result.0.now c.entry_at.result.1.now
    c.requires.leaf c.entry_at.ensures in
    let fits : length (body_bytes (rooted page.body c.args.place c.args.root)) ≤ most_body =
    omega (arith, size, c.body_length.ensures, c.if-body_length-list-gt-MOST_BODY_BYTES.false) in
    let made = c.in_ok-leaf_with.ensures in
    record {
      rooted = made;
      none = (λ e. absurd (none-some _ (sym e)), λ l. absurd (omega (arith, l, fits)));
      short = λ e. absurd (none-some _ (sym e));
      is_page = λ is within. subst IsPage (sym made)
          (rooted_page page c.args.place c.args.root is c.requires.leaf within fits);
    }
