use Rattle.std.proofs.Common.{◌≡◌, ◌≤◌, length, sym, ap, ◌∙◌, arith, inl, inr}
use Rattle.std.proofs.lemmas.Bool.{false≢true}
use Rattle.page_types.specs.Parts.{entry_shown}
use Rattle.page_types.specs.declared.page.Entry.{Entry}
use Rattle.core_vacuum.proofs.GoneItems.{none_goes, one_more, all_go, some_goes, same_key, same_entry, is_entry}
use Rattle.core_vacuum.proofs.removing.entries_go.Goals as goal
use Rattle.core_vacuum.proofs.removing.entries_go.Goals.{then-less, else-less}

pub loop-k-init : goal.loop-k-init
loop-k-init c = none_goes c.args.old.now c.args.new.now

pub returns-then-not-entry_goes : goal.returns-then-not-entry_goes
returns-then-not-entry_goes c = (
  λ e. absurd (false≢true e),
  λ w. sym c.if-not-entry_goes.true ∙ c.entry_goes.ensures.1
      (w.each c.loop-k.k (entry_shown c.in-Some.was) (entry_shown c.in-Some-get.left) c.in-Some.ensures.some
      c.in-Some-get.ensures.some),
)

pub loop-k-preserved : goal.loop-k-preserved
loop-k-preserved c =
    let e = entry_shown c.in-Some.was in
    let f = entry_shown c.in-Some-get.left in
    let goes = c.entry_goes.ensures.0 c.if-not-entry_goes.false in
    one_more c.args.old.now c.args.new.now c.loop-k.k c.loop-k.less c.if-less.less e f c.loop-k.invariant
    c.in-Some.ensures.some c.in-Some-get.ensures.some goes
    (λ t. elim c.if-less.branch [
      | then-less w ↦ inl w.if-less.true
      | else-less w ↦ inr (λ same. false≢true (sym (w.is_changed-less.ensures.1
          (ap (λ (x : Entry). x.postings) same)) ∙ sym w.less-is ∙ t))
    ])
    (λ t. elim c.if-less.branch [
      | then-less w ↦ absurd (false≢true (sym t ∙ w.less-is ∙ w.if-less.true))
      | else-less w ↦ (
        w.if-less.false,
        same_entry e f (same_key e f goes) (w.is_changed-less.ensures.0 (sym w.less-is ∙ t)),
      )
    ])

pub returns : goal.returns
returns c =
    let size : length c.args.new.now ≡ length c.args.old.now =
    omega (arith, c.len.ensures, c.len-2.ensures, c.if-len.false) in
    let end : length c.args.old.now ≤ c.loop-k.k = omega (arith, c.len-k-end.ensures, c.loop-k-test.false) in (
      all_go c.args.old.now c.args.new.now c.loop-k.k c.loop-k.less size end c.loop-k.invariant,
      some_goes c.args.old.now c.args.new.now c.loop-k.k c.loop-k.less end c.loop-k.invariant,
    )

pub returns-then-len : goal.returns-then-len
returns-then-len c = (
  λ e. absurd (false≢true e),
  λ w. absurd (c.if-len.true (c.len.ensures ∙ w.same_length ∙ sym c.len-2.ensures)),
)

pub returns-in_default : goal.returns-in_default
returns-in_default c =
    absurd (omega (arith, c.loop-k-test.true, c.len-k-end.ensures, c.in_default.ensures.none))

pub returns-in_default-get : goal.returns-in_default-get
returns-in_default-get c = absurd (omega (
  arith,
  c.loop-k-test.true,
  c.len-k-end.ensures,
  c.len.ensures,
  c.len-2.ensures,
  c.if-len.false,
  c.in_default-get.ensures.none,
))

pub entry_goes-requires : goal.entry_goes-requires
entry_goes-requires c = record {
  old = is_entry c.args.old.now c.loop-k.k (entry_shown c.in-Some.was) c.requires.old.each c.in-Some.ensures.some;
  new = is_entry c.args.new.now c.loop-k.k (entry_shown c.in-Some-get.left) c.requires.new.each
      c.in-Some-get.ensures.some;
}
