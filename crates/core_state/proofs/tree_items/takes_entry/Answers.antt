use Rattle.std.proofs.Common.{◌≡◌, ◌+◌, ◌≤◌, suc, ltb, Bool, drop, length, refl, sym, ap, ap₂, ◌∙◌, arith}
use Rattle.std.specs.Prelude.{Some}
use Rattle.std.specs.List.{slice_get}
use Rattle.page_types.specs.Parts.{entry_shown, postings_shown}
use Rattle.core_state.specs.Inner.Members.{Member, Shared}
use Rattle.core_state.specs.Inner.TreeItems.{HadList, TakesEntry}
use Rattle.core_state.proofs.HeadChanges.{none_holds}
use Rattle.core_state.proofs.SharedFronts.{shared_of, drop_of, of_drop, map_length, entry_one, past_none, there_below}
use Rattle.core_state.proofs.TakenEntries.{list_entry, entry_told, entry_at, entry_had, entry_back, EntryTaken}
use Rattle.core_state.proofs.TakenEntries.{entry_is}
use Rattle.core_state.proofs.TakenEntries.{entry_found, inline_ref, listed_items, had_items, had_next}
use Rattle.core_state.proofs.tree_items.takes_entry.Goals as goal
use Rattle.core_state.proofs.tree_items.takes_entry.Goals.{then-not-is_up_to-via-then-not-is_up_to}
use Rattle.core_state.proofs.tree_items.takes_entry.Goals.{then-not-is_up_to-via-else-not-is_up_to+then-not-takes}

pub returns-in_default : goal.returns-in_default
returns-in_default c =
    let high = c.args.high.now in
    let old = c.args.old.now in
    let new = c.args.new.now in
    let k = c.shared-k.result in
    let s : Shared old new k = shared_of Member.entry entry_one old new k c.shared-k.ensures in (
      λ e. absurd (cc),
      λ w. absurd (past_none new k (list_entry w.key w.new_list)
          (none_holds c.get.result c.in_default.not-Some c.get.ensures.none)
          (entry_at high old new c.requires.new w k s)),
    )

pub returns-in_default-postings : goal.returns-in_default-postings
returns-in_default-postings c =
    let high = c.args.high.now in
    let old = c.args.old.now in
    let new = c.args.new.now in
    let k = c.shared-k.result in
    let s : Shared old new k = shared_of Member.entry entry_one old new k c.shared-k.ensures in
    let x = c.in-Some.entry in (
      λ e. absurd (cc),
      λ w. absurd (inline_ref x.postings w.new_list c.in_default-postings.not-Inline
          (entry_found high old new c.requires.new w k s x c.in-Some.ensures.some).1),
    )

pub returns-in_default-list_before : goal.returns-in_default-list_before
returns-in_default-list_before c =
    let high = c.args.high.now in
    let old = c.args.old.now in
    let new = c.args.new.now in
    let k = c.shared-k.result in
    let s : Shared old new k = shared_of Member.entry entry_one old new k c.shared-k.ensures in
    let x = c.in-Some.entry in
    let list = c.in-Inline.list.now in
    let key = x.key.now in
    let at : slice_get new k ≡ Some (list_entry key list) =
    c.in-Some.ensures.some ∙ ap Some (entry_is x key list refl (ap postings_shown c.in-Inline.is)) in
    let comes : Bool = ltb c.len-2.result c.len.result in
    let is : comes ≡ ltb (length old) (length new) = ap₂ ltb c.len-2.ensures c.len.ensures in (
      λ e. absurd (cc),
      λ w.
          let had = entry_had high old new c.requires.new w k s key
          (entry_found high old new c.requires.new w k s x c.in-Some.ensures.some).0 comes is in
          absurd (none_holds c.list_before.result c.in_default-list_before.not-Some c.list_before.ensures.none had.0
          had.1 had.2),
    )

pub takes-requires-clause-old : goal.takes-requires-clause-old
takes-requires-clause-old c =
    let high = c.args.high.now in
    let old = c.args.old.now in
    let new = c.args.new.now in
    let k = c.shared-k.result in
    let s : Shared old new k = shared_of Member.entry entry_one old new k c.shared-k.ensures in
    let x = c.in-Some.entry in
    let list = c.in-Inline.list.now in
    let key = x.key.now in
    let at : slice_get new k ≡ Some (list_entry key list) =
    c.in-Some.ensures.some ∙ ap Some (entry_is x key list refl (ap postings_shown c.in-Inline.is)) in
    let comes : Bool = ltb c.len-2.result c.len.result in
    let is : comes ≡ ltb (length old) (length new) = ap₂ ltb c.len-2.ensures c.len.ensures in
    let was = c.in-Some-list_before.was.now in
    let next = c.in-Some-list_before.next in
    let had : HadList old k key comes was next = c.in-Some-list_before.ensures.some in
    had_items old k key comes was next c.requires.old had

pub takes-requires-clause-new : goal.takes-requires-clause-new
takes-requires-clause-new c =
    let high = c.args.high.now in
    let old = c.args.old.now in
    let new = c.args.new.now in
    let k = c.shared-k.result in
    let s : Shared old new k = shared_of Member.entry entry_one old new k c.shared-k.ensures in
    let x = c.in-Some.entry in
    let list = c.in-Inline.list.now in
    let key = x.key.now in
    let at : slice_get new k ≡ Some (list_entry key list) =
    c.in-Some.ensures.some ∙ ap Some (entry_is x key list refl (ap postings_shown c.in-Inline.is)) in
    let comes : Bool = ltb c.len-2.result c.len.result in
    let is : comes ≡ ltb (length old) (length new) = ap₂ ltb c.len-2.ensures c.len.ensures in
    listed_items new k key list c.requires.new at

pub returns-then-not-is_up_to : goal.returns-then-not-is_up_to
returns-then-not-is_up_to c =
    let high = c.args.high.now in
    let old = c.args.old.now in
    let new = c.args.new.now in
    let k = c.shared-k.result in
    let s : Shared old new k = shared_of Member.entry entry_one old new k c.shared-k.ensures in
    let x = c.in-Some.entry in
    let list = c.in-Inline.list.now in
    let key = x.key.now in
    let at : slice_get new k ≡ Some (list_entry key list) =
    c.in-Some.ensures.some ∙ ap Some (entry_is x key list refl (ap postings_shown c.in-Inline.is)) in
    let comes : Bool = ltb c.len-2.result c.len.result in
    let is : comes ≡ ltb (length old) (length new) = ap₂ ltb c.len-2.ensures c.len.ensures in
    let was = c.in-Some-list_before.was.now in
    let next = c.in-Some-list_before.next in
    let had : HadList old k key comes was next = c.in-Some-list_before.ensures.some in (
      λ e. absurd (cc),
      λ w.
          let b : EntryTaken high old new c.requires.new w k key list was next =
          entry_back high old new c.requires.new w k s key list was comes next at is had in
          elim c.then-not-is_up_to.branch [
            | then-not-is_up_to-via-then-not-is_up_to v ↦ sym v.if-not-is_up_to.true ∙ c.is_up_to.ensures.1 b.within
            | then-not-is_up_to-via-else-not-is_up_to+then-not-takes v ↦
                sym v.if-not-takes.true ∙ v.takes.ensures.1 b.takes
          ],
    )

pub go_on-requires-clause-a : goal.go_on-requires-clause-a
go_on-requires-clause-a c =
    let high = c.args.high.now in
    let old = c.args.old.now in
    let new = c.args.new.now in
    let k = c.shared-k.result in
    let s : Shared old new k = shared_of Member.entry entry_one old new k c.shared-k.ensures in
    let x = c.in-Some.entry in
    let list = c.in-Inline.list.now in
    let key = x.key.now in
    let at : slice_get new k ≡ Some (list_entry key list) =
    c.in-Some.ensures.some ∙ ap Some (entry_is x key list refl (ap postings_shown c.in-Inline.is)) in
    let comes : Bool = ltb c.len-2.result c.len.result in
    let is : comes ≡ ltb (length old) (length new) = ap₂ ltb c.len-2.ensures c.len.ensures in
    let was = c.in-Some-list_before.was.now in
    let next = c.in-Some-list_before.next in
    let had : HadList old k key comes was next = c.in-Some-list_before.ensures.some in
    omega (arith, had_next old new k key comes was next s had, map_length Member.entry entry_one old)

pub go_on-requires-clause-b : goal.go_on-requires-clause-b
go_on-requires-clause-b c =
    let high = c.args.high.now in
    let old = c.args.old.now in
    let new = c.args.new.now in
    let k = c.shared-k.result in
    let s : Shared old new k = shared_of Member.entry entry_one old new k c.shared-k.ensures in
    let x = c.in-Some.entry in
    let list = c.in-Inline.list.now in
    let key = x.key.now in
    let at : slice_get new k ≡ Some (list_entry key list) =
    c.in-Some.ensures.some ∙ ap Some (entry_is x key list refl (ap postings_shown c.in-Inline.is)) in
    let comes : Bool = ltb c.len-2.result c.len.result in
    let is : comes ≡ ltb (length old) (length new) = ap₂ ltb c.len-2.ensures c.len.ensures in
    omega (arith, there_below new k (list_entry key list) at, map_length Member.entry entry_one new)

pub returns : goal.returns
returns c =
    let high = c.args.high.now in
    let old = c.args.old.now in
    let new = c.args.new.now in
    let k = c.shared-k.result in
    let s : Shared old new k = shared_of Member.entry entry_one old new k c.shared-k.ensures in
    let x = c.in-Some.entry in
    let list = c.in-Inline.list.now in
    let key = x.key.now in
    let at : slice_get new k ≡ Some (list_entry key list) =
    c.in-Some.ensures.some ∙ ap Some (entry_is x key list refl (ap postings_shown c.in-Inline.is)) in
    let comes : Bool = ltb c.len-2.result c.len.result in
    let is : comes ≡ ltb (length old) (length new) = ap₂ ltb c.len-2.ensures c.len.ensures in
    let was = c.in-Some-list_before.was.now in
    let next = c.in-Some-list_before.next in
    let had : HadList old k key comes was next = c.in-Some-list_before.ensures.some in
    let more : k + 1 ≡ suc k = omega arith in (
      λ e. entry_told high key old new k list was comes next s at had
          (drop_of Member.entry entry_one old new next (k + 1) (c.go_on.ensures.0 e) ∙ ap (λ n. drop n new) more)
          (c.is_up_to.ensures.0 c.if-not-is_up_to.false) (c.takes.ensures.0 c.if-not-takes.false),
      λ w.
          let b : EntryTaken high old new c.requires.new w k key list was next =
          entry_back high old new c.requires.new w k s key list was comes next at is had in
          c.go_on.ensures.1 (of_drop Member.entry entry_one old new next (k + 1)
          (b.same ∙ ap (λ n. drop n new) (sym more))),
    )
