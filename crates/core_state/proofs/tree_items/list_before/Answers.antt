use Rattle.std.proofs.Common.{◌≡◌, ◌+◌, [], suc, sym, ap, ◌∙◌, subst, arith, Bool}
use Rattle.std.proofs.lemmas.Bool.{not-false}
use Rattle.std.specs.Prelude.{Some}
use Rattle.std.specs.Cmp.Lexicographic.{bytes_decides}
use Rattle.page_types.specs.Parts.{postings_shown}
use Rattle.core_state.specs.Inner.TreeItems.{HadList}
use Rattle.core_state.proofs.TakenEntries.{had_within, entry_is}
use Rattle.core_state.proofs.tree_items.list_before.Goals as goal

pub returns-then-comes-clause-some : goal.returns-then-comes-clause-some
returns-then-comes-clause-some c =
    subst (λ (b : Bool). HadList c.args.old.now c.args.k c.args.key.now b [] c.args.k) (sym c.if-comes.true)
    HadList.comes

pub returns-then-k-len-clause-none : goal.returns-then-k-len-clause-none
returns-then-k-len-clause-none c = λ list next h.
    let within = had_within c.args.old.now c.args.k c.args.key.now c.args.comes list next c.if-comes.false h in
    omega (arith, within, c.if-k-len.true, c.len.ensures)

pub returns-clause-some : goal.returns-clause-some
returns-clause-some c =
    let x = c.in_ok-was.was' in
    let key : x.key.now ≡ c.args.key.now =
    (bytes_decides x.key.now c.args.key.now).0 (not-false _ (sym c.ne.ensures ∙ c.if-ne.false)) in
    let entry = entry_is x c.args.key.now c.in-Inline.list.now key (ap postings_shown c.in-Inline.is) in
    subst (λ (b : Bool). HadList c.args.old.now c.args.k c.args.key.now b c.in-Inline.list.now (c.args.k + 1))
    (sym c.if-comes.false)
    (HadList.was c.in-Inline.list.now (c.args.k + 1) (c.in_ok-was.ensures.some ∙ ap Some entry) (omega arith))
