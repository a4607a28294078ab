-- No page of the list is bad in a legal log.
use Rattle.std.proofs.Common.{◌≡◌, ◌≢◌, ℕ, zero, suc, List, [], ◌∷◌, ◌++◌, length, refl, sym, ap, subst, ◌∙◌, arith}
use Rattle.std.specs.Prelude.{◌<◌, Some}
use Rattle.disk_trait.specs.declared.device.Disk.{Ghosts as Disk}
use Rattle.page_types.specs.Views.{rows_in, slots_in, slot_at, first_of}
use Rattle.page_types.specs.declared.page.Page.{Page}
use Rattle.page_types.specs.declared.page.Head.{Head}
use Rattle.page_types.specs.declared.page.Body.{Body}
use Rattle.page_types.specs.declared.page.Body.TheVariants as body
use Rattle.core_state.specs.Log.{Log, Pages, In}
use Rattle.core_state.specs.Allowed.{Sheet}
use Rattle.core_state.specs.Documents.{Doc, Has, head_of, slot_of}
use Rattle.core_state.specs.Index.{Line, IsLinked}
use Rattle.core_state.specs.PagesTold.{ListStands}
use Rattle.core_state.proofs.Histories.{chain_one}
use Rattle.core_state.proofs.LawsHold.{pages as pages_told}
use Rattle.core_state.proofs.PageLists.{in_front}
use Rattle.core_state.proofs.Steps.Seen.{seen_shown}
use Rattle.core_maintenance.proofs.Lists.{right_keeps_line}
use Rattle.buffer_frames.specs.Frames.{FramesValue, Behind}
use Rattle.buffer_frames.specs.Passes.{IsPassOf, IsHolding, Seen, view_of}
use Rattle.buffer_frames.specs.declared.pass.Pass.{Pass}
use Rattle.buffer_frames.proofs.AtHand.{log_length}
use Rattle.gin_place.specs.Placing.{HasRight}
use Rattle.gin_place.specs.Causes.{CannotUse}
use Rattle.gin_place.proofs.Lawful.{usable}
use Rattle.gin_place.proofs.Owing.{right_of}
use Rattle.gin_cleanup.specs.Going.{IsRowPage, IsBadList}

-- the page is on the list
abbrev pub IsOnList : Pages → ℕ → Type 0
IsOnList P q = (line : List ℕ) × Line P line × In q line

-- no document has the item 0, where page 0 is the metapage
no_zero : (P : Pages) (a b c : ℕ) (d : Doc) (h : Head) → (P 0).body ≡ body.Meta a b c → Has P d h → d.item ≡ 0 → ⊥
no_zero P a b c d h meta has none =
    let at : head_of P 0 ≡ Some h = subst (λ (i : ℕ). head_of P i ≡ Some h) none has.at in
    let two = subst (λ (x : Body). slot_at (slots_in x) (slot_of 0) ≡ Some h) meta at in
    let z : ⊥ = cc in z

above : (n : ℕ) → (n ≡ 0 → ⊥) → 0 < n
above zero off = absurd (off refl)
above (suc n) off = omega arith

-- a page of the list has rows of documents
pub row_page : (R : Log) (P : Pages) → R ≢ [] → ListStands R P → (q : ℕ) → IsOnList P q → IsRowPage (P q)
row_page R P some list q on =
    let at : In q list.pages =
    subst (In q) (chain_one P (first_of (P 0)) on.0 list.pages on.1 list.is_line) on.2 in
    let row = list.some_row q at in
    let meta = list.meta some in (
      row.0 ∷ row.1,
      row.2,
      λ w i.
          let linked : IsLinked P w = record {
            line = list.pages;
            is_line = list.is_line;
            page = q;
            on = at;
            there = subst (In w) (sym (ap rows_in row.2)) i;
          } in
          let d = list.indexed w.item (record { row = w; linked = linked; item = refl }) in
          above w.item
          (λ none. no_zero P meta.0 meta.1 (length list.pages) d.0 d.2.whole.0 meta.2 d.2.whole.1 (d.1 ∙ none)),
    )

used : (c : Page) → IsRowPage c → c.body ≢ body.Free
used c x free = let two : body.Pending x.0 ≡ body.Free = sym x.1 ∙ free in let z : ⊥ = cc in z

module _ {D : Type 0} (device : Disk D) (f : FramesValue D) (p : Pass)
    (held : List Sheet) (hold : IsHolding device f p held) (of : IsPassOf f p) (right : HasRight p) (q : ℕ)
    (on : Seen device f p (λ S P. IsOnList P q)) where
  never_rows : CannotUse f IsRowPage q → Behind device f (λ (R : Log). ⊥)
  never_rows cannot t up R stands legal =
      let v = view_of f p R held in
      let a = hold.allowed t up R stands legal in
      let S = seen_shown v R a in
      let l = on t up R stands legal S.0 S.1 in
      let g = right_keeps_line v R a S.0 (right_of device f p held R of right stands) S.1 l.0 l.1 in
      let long : f.journal.state.records ≡ length R = log_length device f.journal R stands.journal in
      let some : R ≢ [] = λ e. omega (arith, of.some, of.seen, long, ap length e) in
      let page = row_page R a.pages some (pages_told R a.pages legal a.shown).list q
      (l.0 ++ g.more, g.line, in_front q l.0 g.more l.2) in
      usable device f R t up stands legal a.pages a.shown IsRowPage q page (used (a.pages q) page) cannot

  -- so one that can't be used is the cause of a refusal
  pub bad_rows : CannotUse f IsRowPage q → IsBadList device f p q
  bad_rows cannot = IsBadList.rows cannot (never_rows cannot)
