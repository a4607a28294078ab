-- Items that are added under a key or to a posting tree, and a page of rows that leaves the pending list.
use Rattle.std.proofs.Common.{◌≡◌, ◌++◌, ◌∷◌, refl, ◌∙◌}
use Rattle.page_types.specs.declared.page.Body.TheVariants as body
use Rattle.page_types.specs.declared.page.Gone.TheVariants as gone
use Rattle.page_types.specs.declared.page.Postings.TheVariants.{Inline}
use Rattle.page_types.specs.declared.record.Kind.TheVariants as kind
use Rattle.core_state.specs.TreeRules.{IsRoot}
use Rattle.core_state.specs.Legal.{RuleHolds}
use Rattle.core_state.specs.Steps.{MayBy}
use Rattle.core_state.proofs.Steps.Seen.{held_page, shows}
use Rattle.core_state.proofs.Steps.Heads.{drawn_as, drawn_pages, one_of, two_of, left_all, left_is}
use Rattle.core_maintenance.specs.MovingSteps.{CanShift, CanAddItems, CanAddPostings}
use Rattle.core_maintenance.proofs.Found.{right_keeps_found}

pub shift_may : MayBy CanShift
shift_may v s can R a r Q n l =
    let t = shows CanShift v s R a can in
    let c = t.2 in
    let kind_is : r.kind ≡ kind.Shift = drawn_as R s r n kind.Shift c.kind_is in
    let named = drawn_pages R s r n _ c.after_is in
    let meta = held_page v R a 0 c.meta c.held_meta in
    let was = held_page v R a c.page c.old c.held in
    let left = left_all a.pages Q r s _ l c.after_is in
    let stay = right_keeps_found v R a t.0 c.may t.1 in
    let meta_then = body.Meta c.old.right c.new_last c.count in
    let then = body.Deleted (gone.Pending c.rows) in
    RuleHolds.shift (record {
      here = record {
        page = c.page;
        last = c.last;
        count = c.count;
        new_last = c.new_last;
        rows = c.rows;
        meta = c.meta;
        old = c.old;
        kind_is = kind_is;
        pages = named;
        before_is = two_of a.pages _ 0 c.page c.meta c.old named meta was;
        first = c.meta_is;
        was = c.was;
        last_is = c.last_is;
        after_is = two_of Q _ 0 c.page _ _ named
            (left.0 ∙ left_is r kind.Shift c.meta_then c.meta.right meta_then kind_is refl c.meta_right c.meta_content)
            (left.1.0 ∙ left_is r kind.Shift c.new c.old.right then kind_is refl c.right c.content);
      };
      rest = λ w i. stay.all_main w.item (c.moved w i);
    })

pub add_items_may : MayBy CanAddItems
add_items_may v s can R a r Q n l =
    let t = shows CanAddItems v s R a can in
    let c = t.2 in
    let kind_is : r.kind ≡ kind.AddItems = drawn_as R s r n kind.AddItems c.kind_is in
    let named = drawn_pages R s r n _ c.after_is in
    let was = held_page v R a c.page c.old c.held in
    let left = left_all a.pages Q r s _ l c.after_is in
    let stay = right_keeps_found v R a t.0 c.may t.1 in
    let then = body.EntryLeaf c.high (c.front ++ record { key = c.key; postings = Inline c.new_list } ∷ c.back) in
    RuleHolds.add_items (record {
      here = record {
        page = c.page;
        key = c.key;
        items = c.items;
        high = c.high;
        entries = c.entries;
        front = c.front;
        back = c.back;
        old_list = c.old_list;
        new_list = c.new_list;
        old = c.old;
        kind_is = kind_is;
        pages = named;
        within = c.within;
        before_is = one_of a.pages _ c.page c.old named was;
        was = c.was;
        entry = c.entry;
        above = c.above;
        below = c.below;
        added = c.added;
        short = c.short;
        after_is = one_of Q _ c.page _ named
            (left.0 ∙ left_is r kind.AddItems c.new c.old.right then kind_is refl c.right c.content);
      };
      rest = record {
        place = stay.toward c.key c.page c.rest.place;
        rows = λ i j. stay.pending c.key i (c.rest.rows i j);
      };
    })

pub add_postings_may : MayBy CanAddPostings
add_postings_may v s can R a r Q n l =
    let t = shows CanAddPostings v s R a can in
    let c = t.2 in
    let kind_is : r.kind ≡ kind.AddPostings = drawn_as R s r n kind.AddPostings c.kind_is in
    let named = drawn_pages R s r n _ c.after_is in
    let was = held_page v R a c.page c.old c.held in
    let left = left_all a.pages Q r s _ l c.after_is in
    let stay = right_keeps_found v R a t.0 c.may t.1 in
    let x = c.rest in
    RuleHolds.add_postings (record {
      here = record {
        page = c.page;
        items = c.items;
        high = c.high;
        old_list = c.old_list;
        new_list = c.new_list;
        old = c.old;
        kind_is = kind_is;
        pages = named;
        within = c.within;
        before_is = one_of a.pages _ c.page c.old named was;
        was = c.was;
        added = c.added;
        after_is = one_of Q _ c.page _ named
            (left.0
            ∙ left_is r kind.AddPostings c.new c.old.right (body.PostLeaf c.high c.new_list) kind_is refl c.right
            c.content);
      };
      rest = record {
        key = x.key;
        root = x.root;
        named = stay.named x.key x.root x.named;
        place = λ i j. stay.toward_item x.root i c.page (IsRoot.of_postings x.key x.named) (x.place i j);
        rows = λ i j. stay.pending x.key i (x.rows i j);
      };
    })
