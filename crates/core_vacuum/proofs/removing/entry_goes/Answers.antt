use Rattle.std.proofs.Common.{◌≡◌, sym, ap, ◌∙◌}
use Rattle.std.proofs.lemmas.Bool.{false≢true}
use Rattle.std.proofs.lemmas.Slice.Eq.{bytes_eq-Decides}
use Rattle.std.proofs.lemmas.Bool.Decides.{Decides-eqb}
use Rattle.std.specs.Prelude.{not}
use Rattle.page_types.specs.declared.page.Postings.TheVariants.{Root}
use Rattle.page_types.specs.Parts.{postings_shown, entry_shown}
use Rattle.core_vacuum.specs.Inner.Removing.{EntryGoes}
use Rattle.core_vacuum.proofs.GoneItems.{same_key, same_entry, list_of, lists_go, roots_go, list_stays, root_stays}
use Rattle.core_vacuum.proofs.GoneItems.{bytes_same}
use Rattle.core_vacuum.proofs.removing.entry_goes.Goals as goal

pub returns-in-Inline-Inline : goal.returns-in-Inline-Inline
returns-in-Inline-Inline c =
    let old = ap postings_shown c.in-Inline-Inline.is-0 in
    let new = ap postings_shown c.in-Inline-Inline.is-1 in (
      λ e. EntryGoes.less c.in-Inline-Inline.list.now c.in-Inline-Inline.left.now
          (bytes_same c.args.old.key.now c.args.new.key.now c.ne.result c.ne.ensures c.if-ne.false) old new
          (c.are_among.ensures.0 e),
      λ w. c.are_among.ensures.1 (lists_go (entry_shown c.args.old) (entry_shown c.args.new)
          c.in-Inline-Inline.list.now c.in-Inline-Inline.left.now old new w),
    )

pub returns-then-ne : goal.returns-then-ne
returns-then-ne c = (
  λ e. absurd (false≢true e),
  λ w. absurd (false≢true (sym (c.ne.ensures ∙ ap not ((bytes_eq-Decides c.args.old.key.now c.args.new.key.now).1
      (same_key (entry_shown c.args.old) (entry_shown c.args.new) w))) ∙ c.if-ne.true)),
)

pub are_among-requires : goal.are_among-requires
are_among-requires c = record {
  new = list_of (entry_shown c.args.new) c.in-Inline-Inline.left.now c.requires.new
      (ap postings_shown c.in-Inline-Inline.is-1);
  old = list_of (entry_shown c.args.old) c.in-Inline-Inline.list.now c.requires.old
      (ap postings_shown c.in-Inline-Inline.is-0);
}

pub returns-in-Root-Root : goal.returns-in-Root-Root
returns-in-Root-Root c =
    let e = entry_shown c.args.old in
    let f = entry_shown c.args.new in
    let a = c.in-Root-Root.root in
    let b = c.in-Root-Root.left in
    let old : e.postings ≡ Root a = ap postings_shown c.in-Root-Root.is-0 in
    let new : f.postings ≡ Root b = ap postings_shown c.in-Root-Root.is-1 in (
      λ t. EntryGoes.same (same_entry e f
          (bytes_same c.args.old.key.now c.args.new.key.now c.ne.result c.ne.ensures c.if-ne.false)
          (old ∙ ap Root ((Decides-eqb a b).0 t) ∙ sym new)),
      λ w. (Decides-eqb a b).1 (roots_go e f a b old new w),
    )

pub returns-in_default : goal.returns-in_default
returns-in_default c = (
  λ e. absurd (false≢true e),
  λ w. absurd (list_stays (entry_shown c.args.old) (entry_shown c.args.new) c.in_default.field-0-0.now
      c.in_default.field-0-1 (ap postings_shown c.in_default.is-0) (ap postings_shown c.in_default.is-1) w),
)

pub returns-in_default-2 : goal.returns-in_default-2
returns-in_default-2 c = (
  λ e. absurd (false≢true e),
  λ w. absurd (root_stays (entry_shown c.args.old) (entry_shown c.args.new) c.in_default.field-0-0
      c.in_default.field-0-1.now (ap postings_shown c.in_default.is-0) (ap postings_shown c.in_default.is-1) w),
)
