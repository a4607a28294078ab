use Rattle.std.proofs.Common.{refl, sym, subst}
use Rattle.std.proofs.lemmas.Option.{none-some, slice_get_within}
use Rattle.page_types.specs.Views.{entry_children_in}
use Rattle.page_types.specs.declared.page.Body.{Body}
use Rattle.page_types.specs.declared.page.Body.TheVariants as body
use Rattle.core_state.specs.Log.{In}
use Rattle.core_state.specs.TreeRules.{EntryParent}
use Rattle.entry_tree.proofs.AdoptedPages.{adopted_page, is_parent, named_there}
use Rattle.entry_tree.proofs.adopting.adopt.Goals as goal

pub returns-in_default-place_of-clause-none : goal.returns-in_default-place_of-clause-none
returns-in_default-place_of-clause-none c = (
  λ e b on same.
      c.in_default-place_of.ensures.none b
      (subst (λ (content : Body). In b (entry_children_in content)) c.in-EntryInner.is on) same,
  λ h. refl,
)

pub put_one_more-requires-clause-there : goal.put_one_more-requires-clause-there
put_one_more-requires-clause-there c =
    let there = c.in-Some.ensures.some in
    slice_get_within c.in-EntryInner.children c.in-Some.place there.0 there.1

pub put_one_more-requires-clause-copy : goal.put_one_more-requires-clause-copy
put_one_more-requires-clause-copy c = c.in_ok-more.ensures.cases

pub returns-in-Ok : goal.returns-in-Ok
returns-in-Ok c =
    let parent = c.args.parent.now in
    let there = c.in-Some.ensures.some in
    let more = c.put_one_more.new.more in
    record {
      adopted = subst (λ (b : Body). EntryParent c.args.page c.args.new c.args.mid.now b (body.EntryInner more))
          (sym c.in-EntryInner.is)
          (is_parent c.in-EntryInner.children more c.in-Some.place c.args.page c.args.new c.args.mid.now there.0
          there.1 there.2 c.in-Ok.ensures);
      same = refl;
      none = (
        λ e. absurd (none-some _ (sym e)),
        λ h. absurd (named_there c.in-EntryInner.children c.in-Some.place c.args.page there.0 there.1 there.2
            (λ b on. h b (subst (λ (x : Body). In b (entry_children_in x)) (sym c.in-EntryInner.is) on))),
      );
      is_page = λ w div is room lt.
          adopted_page parent (record parent { body = body.EntryInner more }) c.args.page c.args.new c.args.mid.now w
          refl div is room lt;
    }
