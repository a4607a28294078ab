use Rattle.std.proofs.Common.{◌≡◌, ◌+◌, suc, drop, length, refl, sym, ap, ◌∙◌, arith}
use Rattle.std.specs.Prelude.{Some}
use Rattle.std.specs.List.{slice_get}
use Rattle.page_types.specs.Parts.{entry_shown, postings_shown}
use Rattle.page_types.specs.declared.page.Postings.TheVariants.{Inline, Root}
use Rattle.core_state.specs.Inner.Members.{Member, Shared}
use Rattle.core_state.proofs.HeadChanges.{none_holds}
use Rattle.core_state.proofs.SharedFronts.{shared_of, drop_of, of_drop, map_length, entry_one, past_none, there_below}
use Rattle.core_state.proofs.TakenEntries.{list_entry, entry_is, inline_ref, bytes_same, bytes_differ}
use Rattle.core_state.proofs.RootedLeaves.{root_entry, root_told, root_was, root_at, root_back, was_found, root_found}
use Rattle.core_state.proofs.RootedLeaves.{root_is, root_ref}
use Rattle.core_state.proofs.tree_pages.becomes_root.Goals as goal
use Rattle.core_state.proofs.tree_pages.becomes_root.Goals.{then-k-len-via-then-k-len}
use Rattle.core_state.proofs.tree_pages.becomes_root.Goals.{then-k-len-via-else-k-len+then-page-root}
use Rattle.core_state.proofs.tree_pages.becomes_root.Goals.{then-k-len-via-else-k-len+else-page-root+then-ne}
use Rattle.core_state.proofs.tree_pages.becomes_root.Goals.{
  then-k-len-via-else-k-len+else-page-root+else-ne+then-ne-2,
}

pub returns-in_default : goal.returns-in_default
returns-in_default c =
    let list = c.args.list.now in
    let root = c.args.root in
    let old = c.args.old.now in
    let new = c.args.new.now in
    let k = c.shared-k.result in
    let s : Shared old new k = shared_of Member.entry entry_one old new k c.shared-k.ensures in (
      λ e. absurd (cc),
      λ w. absurd (past_none old k (list_entry w.key list)
          (none_holds c.get.result c.in_default.not-Some c.get.ensures.none) (root_was list root old new k s w)),
    )

pub returns-in_default-get : goal.returns-in_default-get
returns-in_default-get c =
    let list = c.args.list.now in
    let root = c.args.root in
    let old = c.args.old.now in
    let new = c.args.new.now in
    let k = c.shared-k.result in
    let s : Shared old new k = shared_of Member.entry entry_one old new k c.shared-k.ensures in (
      λ e. absurd (cc),
      λ w. absurd (past_none new k (root_entry w.key root)
          (none_holds c.get-2.result c.in_default-get.not-Some c.get-2.ensures.none) (root_at list root old new k s w)),
    )

pub returns-in_default-postings : goal.returns-in_default-postings
returns-in_default-postings c =
    let list = c.args.list.now in
    let root = c.args.root in
    let old = c.args.old.now in
    let new = c.args.new.now in
    let k = c.shared-k.result in
    let s : Shared old new k = shared_of Member.entry entry_one old new k c.shared-k.ensures in (
      λ e. absurd (cc),
      λ w. absurd (inline_ref c.in-Some.was.postings list c.in_default-postings.not-Inline
          (was_found list root old new k s w c.in-Some.was c.in-Some.ensures.some).1),
    )

pub returns-in_default-postings-2 : goal.returns-in_default-postings-2
returns-in_default-postings-2 c =
    let list = c.args.list.now in
    let root = c.args.root in
    let old = c.args.old.now in
    let new = c.args.new.now in
    let k = c.shared-k.result in
    let s : Shared old new k = shared_of Member.entry entry_one old new k c.shared-k.ensures in (
      λ e. absurd (cc),
      λ w. absurd (root_ref c.in-Some-get.entry.postings root c.in_default-postings-2.not-Root
          (root_found list root old new k s w c.in-Some-get.entry c.in-Some-get.ensures.some).1),
    )

pub returns-then-k-len : goal.returns-then-k-len
returns-then-k-len c =
    let list = c.args.list.now in
    let root = c.args.root in
    let old = c.args.old.now in
    let new = c.args.new.now in
    let k = c.shared-k.result in
    let s : Shared old new k = shared_of Member.entry entry_one old new k c.shared-k.ensures in
    let x = c.in-Some.was in
    let y = c.in-Some-get.entry in (
      λ e. absurd (cc),
      λ w.
          let a = was_found list root old new k s w x c.in-Some.ensures.some in
          let b = root_found list root old new k s w y c.in-Some-get.ensures.some in
          let lists : Inline c.in-Inline.items.now ≡ Inline list = ap postings_shown (sym c.in-Inline.is) ∙ a.1 in
          let roots : Root c.in-Root.page ≡ Root root = ap postings_shown (sym c.in-Root.is) ∙ b.1 in
          elim c.then-k-len.branch [
            | then-k-len-via-then-k-len v ↦
                absurd (omega (
                  arith,
                  v.if-k-len.true,
                  c.len.ensures,
                  there_below old k (list_entry w.key list) (root_was list root old new k s w),
                ))
            | then-k-len-via-else-k-len+then-page-root v ↦ absurd (v.if-page-root.true (cc (roots)))
            | then-k-len-via-else-k-len+else-page-root+then-ne v ↦
                absurd (bytes_differ c.in-Inline.items.now list v.ne.result v.ne.ensures v.if-ne.true (cc (lists)))
            | then-k-len-via-else-k-len+else-page-root+else-ne+then-ne-2 v ↦
                absurd (bytes_differ x.key.now y.key.now v.ne-else-ne.result v.ne-else-ne.ensures v.if-ne-2.true
                (a.0 ∙ sym b.0))
          ],
    )

pub go_on-requires-clause-b : goal.go_on-requires-clause-b
go_on-requires-clause-b c =
    let list = c.args.list.now in
    let root = c.args.root in
    let old = c.args.old.now in
    let new = c.args.new.now in
    let k = c.shared-k.result in
    let s : Shared old new k = shared_of Member.entry entry_one old new k c.shared-k.ensures in
    omega (
      arith,
      there_below new k (entry_shown c.in-Some-get.entry) c.in-Some-get.ensures.some,
      map_length Member.entry entry_one new,
    )

pub returns : goal.returns
returns c =
    let list = c.args.list.now in
    let root = c.args.root in
    let old = c.args.old.now in
    let new = c.args.new.now in
    let k = c.shared-k.result in
    let s : Shared old new k = shared_of Member.entry entry_one old new k c.shared-k.ensures in
    let x = c.in-Some.was in
    let y = c.in-Some-get.entry in
    let key = x.key.now in
    let items : c.in-Inline.items.now ≡ list =
    bytes_same c.in-Inline.items.now list c.ne.result c.ne.ensures c.if-ne.false in
    let keys : key ≡ y.key.now = bytes_same key y.key.now c.ne-else-ne.result c.ne-else-ne.ensures c.if-ne-2.false in
    let had : slice_get old k ≡ Some (list_entry key list) = c.in-Some.ensures.some
    ∙ ap Some (entry_is x key list refl (ap postings_shown c.in-Inline.is ∙ ap Inline items)) in
    let has : slice_get new k ≡ Some (root_entry key root) = c.in-Some-get.ensures.some
    ∙ ap Some (root_is y key root (sym keys) (ap postings_shown c.in-Root.is ∙ ap Root c.if-page-root.false)) in
    let more : k + 1 ≡ suc k = omega arith in (
      λ e. root_told list root old new k key s had has
          (ap (λ n. drop n old) (sym more)
          ∙ drop_of Member.entry entry_one old new (k + 1) (k + 1) (c.go_on.ensures.0 e) ∙ ap (λ n. drop n new) more),
      λ w. c.go_on.ensures.1 (of_drop Member.entry entry_one old new (k + 1) (k + 1)
          (ap (λ n. drop n old) more ∙ root_back list root old new k s w ∙ ap (λ n. drop n new) (sym more))),
    )
