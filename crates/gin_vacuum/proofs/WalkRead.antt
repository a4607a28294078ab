-- A walk over the pending list begins, reads a page, and ends.
use Rattle.std.proofs.Common.{◌≡◌, ◌≢◌, ◌⊎◌, ◌≤◌, ◌-◌, ℕ, suc, List, [], ◌∷◌, length, take, drop, refl, sym, ap, subst}
use Rattle.std.proofs.Common.{◌∙◌, inl, inr, arith}
use Rattle.std.specs.Prelude.{◌<◌, Bool, true, false, Result, Ok, IfOk}
use Rattle.std.specs.declared.alloc.AllocError.{AllocError}
use Rattle.disk_trait.specs.declared.device.Disk.{Ghosts as Disk}
use Rattle.page_types.specs.Views.{rows_of, rows_in, first_of, first_in}
use Rattle.page_types.specs.declared.page.Page.{Page}
use Rattle.page_types.specs.declared.page.Row.{Row}
use Rattle.page_types.specs.declared.page.Body.TheVariants as body
use Rattle.core_state.specs.Log.{Log, Pages, In, Shows, cut}
use Rattle.core_state.specs.Allowed.{Sheet}
use Rattle.core_state.specs.Documents.{IsChain, IsDead}
use Rattle.core_state.specs.Index.{IsLinked, HasRow}
use Rattle.core_state.specs.Legal.{IsLegal}
use Rattle.core_state.specs.PagesTold.{PagesHold}
use Rattle.core_state.specs.Steady.{SteadyHold}
use Rattle.core_state.specs.VacuumRules.{MayLeave}
use Rattle.core_state.proofs.PageLists.{in_or_not}
use Rattle.core_maintenance.specs.Keeping.{LineHolds}
use Rattle.buffer_frames.specs.Frames.{FramesValue}
use Rattle.buffer_frames.specs.Passes.{IsPassOf, IsHolding, Seen}
use Rattle.buffer_frames.specs.declared.pass.Pass.{Pass}
use Rattle.buffer_frames.proofs.AtHand.{none_held, parts_of, cut_length}
use Rattle.gin_place.specs.Holding.{ReadsOn}
use Rattle.gin_place.specs.Placing.{HasRight}
use Rattle.gin_place.proofs.Carrying.{right_on}
use Rattle.gin_vacuum.specs.Vacuum.{HasDeadHead, HaveDeadHeads}
use Rattle.gin_vacuum.specs.Unlinked.{HadRow, AreUnlinked, IsRowPage}
use Rattle.gin_vacuum.specs.Inner.Unlinked.{HaveItem, HaveMet, AreOthers, IsDeadSince, IsWalked}
use Rattle.gin_vacuum.specs.Inner.Unlinked.{IsWalkAt, IsWalk, HasNoted}
use Rattle.gin_vacuum.specs.declared.unlinked.Walk.{Walk}
use Rattle.gin_vacuum.proofs.SeenOn.{cut_legal}
use Rattle.gin_vacuum.proofs.FoundDead.{dead_more, dead_then}
use Rattle.gin_vacuum.proofs.RowsAhead.{ahead_first, none_ahead, page_on, next_after, ahead_after}
use Rattle.gin_vacuum.proofs.WalkStill.{walk_still, since_still, seen_more}

some_log : (n : ℕ) (R : Log) → 0 < n → length R ≡ n → R ≢ []
some_log n R some size e = omega (arith, some, size, ap length e)

same_names : (a b c first last n : ℕ) → body.Meta a b c ≡ body.Meta first last n → (a ≡ first) × (c ≡ n)
same_names a b c first last n e = (cc, cc)

-- ---- it begins ----

cut_whole : (n : ℕ) (S : Log) → length S ≡ n → cut n S ≡ S
cut_whole n S size =
    let none : length S - n ≡ 0 = omega (arith, size) in
    ap (λ (k : ℕ). drop k S) none

-- a dead document is one that was dead now
pub since_now : (n floor i : ℕ) (S : Log) (P : Pages) → Shows S P → length S ≡ n → HasDeadHead S P floor i
    → IsDeadSince S P n floor i
since_now n floor i S P shown size h =
    let whole : cut n S ≡ S = cut_whole n S size in
    record {
      doc = h.doc;
      head = h.head;
      item = h.item;
      was = record {
        pages = P;
        head = h.head;
        shown = subst (λ (T : Log). Shows T P) (sym whole) shown;
        has = h.has;
        dead = subst (λ (T : Log). IsDead T floor h.doc) (sym whole) h.dead;
      };
      has = h.has;
    }

-- what the metapage says of the list
pub first_walked : PagesHold → (from floor first last n : ℕ) (dead : List ℕ) (S : Log) (P : Pages) → IsLegal S
    → Shows S P → S ≢ [] → (P 0).body ≡ body.Meta first last n
    → ((i : ℕ) → In i dead → IsDeadSince S P from floor i) → IsWalked from floor dead first n [] S P
first_walked told from floor first last n dead S P legal shown some is since =
    let list = (told S P legal shown).list in
    let m = list.meta some in
    let names = same_names m.0 m.1 (length list.pages) first last n (sym m.2 ∙ is) in
    let first_is : first_of (P 0) ≡ first = ap first_in m.2 ∙ names.0 in
    record {
      since = since;
      next = record {
        front = [];
        rest = list.pages;
        line = list.is_line;
        chain = subst (λ (x : ℕ). IsChain P x list.pages) first_is list.is_line;
      };
      ahead = λ w on k. inr (ahead_first P list.pages list.is_line first n first_is (sym names.1) w k);
      had = λ i on. absurd on;
    }

-- ---- a page is read ----

module _ (steady : SteadyHold) (from floor : ℕ) (dead : List ℕ) (page left : ℕ) (met : List ℕ) (S : Log) (P : Pages)
    (legal : IsLegal S) (shown : Shows S P) (some_from : 0 < from) (within : from ≤ length S) (some : page ≢ 0)
    (rows : List Row) (is : (P page).body ≡ body.Pending rows) (met' : List ℕ) (more : HaveMet rows dead met met')
    (x : IsWalked from floor dead page (suc left) met S P) where
  on_page : rows_of (P page) ≡ rows
  on_page = ap rows_in is

  -- a row on the page is linked, and was when the walk began
  linked : (w : Row) → In w rows → IsLinked P w
  linked w i =
      let l = page_on P page x.next some in
      record { line = l.0; is_line = l.1; page = page; on = l.2; there = subst (In w) (sym on_page) i }

  had_row : (i : ℕ) → In i dead → HaveItem rows i → HadRow S from i × HasRow P i
  had_row i on h =
      let y = x.since i on in
      let C : Log = cut from S in
      let size : length C ≡ from = cut_length from S within in
      let facts = steady C (take (length S - from) S) S y.was.pages P (parts_of from S) (some_log from C some_from size)
      (cut_legal from S legal) legal y.was.shown shown in
      let k = linked h.0 h.1 in (
        record {
          pages = y.was.pages;
          shown = y.was.shown;
          row = record {
            row = h.0;
            linked = facts.dead_rows y.doc y.head floor y.was.dead y.has h.0 (h.2 ∙ sym y.item) k;
            item = h.2;
          };
        },
        record { row = h.0; linked = k; item = h.2 },
      )

  pub next_walked : IsWalked from floor dead (P page).right left met' S P
  next_walked = record {
    since = x.since;
    next = next_after P page x.next some;
    ahead = λ w on k. elim (x.ahead w on k) [
      | inl m ↦ inl ((more w.item).1 (inl m))
      | inr a ↦ elim (ahead_after P page x.next some left w a) [
        | inl i ↦ inl ((more w.item).1 (inr (on, (w, subst (In w) on_page i, refl))))
        | inr b ↦ inr b
      ]
    ];
    had = λ i on. elim ((more i).0 on) [ inl m ↦ x.had i m | inr m ↦ had_row i m.0 m.1 ];
  }

-- ---- it ends ----

module _ {D : Type 0} (device : Disk D) (steady : SteadyHold) (f : FramesValue D) (p : Pass) (of : IsPassOf f p)
    (from floor : ℕ) (dead : List ℕ) (page left : ℕ) (met items : List ℕ) (end : (page ≡ 0) ⊎ (left ≡ 0))
    (others : AreOthers dead met items) (x : IsWalkAt device f p from floor dead page left met) where
  may_leave : (S : Log) (P : Pages) → IsLegal S → Shows S P → length S ≡ p.seen
      → IsWalked from floor dead page left met S P → (i : ℕ) → In i items → MayLeave S P p.floor i
  may_leave S P legal shown size w i on =
      let o = (others i).0 on in
      let y = w.since i o.0 in
      record {
        doc = y.doc;
        head = y.head;
        item = y.item;
        has = y.has;
        dead = dead_more S floor p.floor y.doc x.under
            (dead_then steady S P legal shown from floor x.some (omega (arith, size, x.began)) y.doc y.was);
        no_row = λ k. elim (w.ahead k.row (subst (λ (n : ℕ). In n dead) (sym k.item) o.0) k.linked) [
          | inl m ↦ o.1 (subst (λ (n : ℕ). In n met) k.item m)
          | inr a ↦ none_ahead P page left k.row end a
        ];
      }

  pub unlinked : AreUnlinked device f p from dead items
  unlinked = record {
    leave = seen_more device steady f p of (IsWalked from floor dead page left met)
        (λ S P. (i : ℕ) → In i items → MayLeave S P p.floor i) may_leave x.walked;
    those = λ i on. ((others i).0 on).0;
    others = seen_more device steady f p of (IsWalked from floor dead page left met)
        (λ S P. (i : ℕ) → In i dead → In i items ⊎ (HadRow S from i × HasRow P i))
        (λ S P legal shown size w i on. elim (in_or_not i met) [
          | inl m ↦ inr (w.had i m)
          | inr off ↦ inl ((others i).1 (on, off))
        ])
        x.walked;
  }

-- of no dead items none is left out
pub none_unlinked : {D : Type 0} (device : Disk D) (f : FramesValue D) (p : Pass) (from : ℕ)
    → AreUnlinked device f p from [] []
none_unlinked device f p from = record {
  leave = λ t up R stands legal P shown i on. absurd on;
  those = λ i on. on;
  others = λ t up R stands legal P shown i on. absurd on;
}

-- ---- as a pass sees it ----

record RowsNoted (content : Page) (dead : List ℕ) (old new : Walk) : Type 0 where
  pub rows : List Row
  pub is : content.body ≡ body.Pending rows
  pub more : HaveMet rows dead old.met.items new.met.items
  pub page : new.page ≡ content.right
  pub left : suc new.left ≡ old.left

rows_noted : (content : Page) (dead : List ℕ) (old new : Walk) → HasNoted content dead old new true
    → RowsNoted content dead old new
rows_noted content dead old new (HasNoted.rows rows is more page left) =
    record { rows = rows; is = is; more = more; page = page; left = left }

module _ {D : Type 0} (device : Disk D) (steady : SteadyHold) (line : LineHolds) (f g h : FramesValue D) (p q r : Pass)
    (x : Sheet) (of : IsPassOf f p) (right : HasRight p) (none : p.held ≡ 0) (to : ReadsOn device f p g q)
    (hold : IsHolding device g q (x ∷ [])) (back : ReadsOn device g q h r)
    (seen : Seen device g q (λ S P. P x.page ≡ x.content)) where
  right_then : HasRight q
  right_then = right_on device f g p q [] right to.works

  -- a page of the list was held, its rows were read, and it was given back
  pub walk_read : (page : ℕ) → x.page ≡ page → page ≢ 0 → (rows : List Row) → x.content.body ≡ body.Pending rows
      → (from floor : ℕ) (dead : List ℕ) (left : ℕ) (met met' : List ℕ) → HaveMet rows dead met met'
      → IsWalkAt device f p from floor dead page (suc left) met
      → IsWalkAt device h r from floor dead x.content.right left met'
  walk_read page number some rows is from floor dead left met met' more was =
      let then = walk_still device steady line f g p q [] (none_held device f p of none) of right to.works from floor
      dead page (suc left) met was in
      let now : IsWalkAt device g q from floor dead x.content.right left met' = record {
        some = then.some;
        began = then.began;
        under = then.under;
        those = λ i on. elim ((more i).0 on) [ inl m ↦ then.those i m | inr m ↦ m.0 ];
        walked = λ t up R stands legal P shown.
            let at : P page ≡ x.content = subst (λ (n : ℕ). P n ≡ x.content) number
            (seen t up R stands legal P shown) in
            subst (λ (c : Page). IsWalked from floor dead c.right left met' (cut q.seen R) P) at
            (seen_more device steady g q to.works.is_pass
            (IsWalked from floor dead page (suc left) met)
            (λ S P'. (P' page).body ≡ body.Pending rows → IsWalked from floor dead (P' page).right left met' S P')
            (λ S P' legal' shown' size w at'.
            next_walked steady from floor dead page left met S P' legal' shown' then.some
            (omega (arith, size, then.began)) some rows at' met' more w) then.walked t up R stands legal P shown
            (ap (λ (c : Page). c.body) at ∙ is));
      } in
      walk_still device steady line g h q r (x ∷ []) hold to.works.is_pass right_then back.works from floor dead
      x.content.right left met' now

  -- the metapage was held and given back
  pub walk_begun : PagesHold → x.page ≡ 0 → (first last n : ℕ) → x.content.body ≡ body.Meta first last n
      → (dead : List ℕ) → HaveDeadHeads device f p dead → IsWalkAt device h r p.seen p.floor dead first n []
  walk_begun told number first last n is dead heads =
      let from : ℕ = p.seen in
      let floor : ℕ = p.floor in
      let then : Seen device f p (λ S P. (i : ℕ) → In i dead → IsDeadSince S P from floor i) =
      seen_more device steady f p of (λ S P. (i : ℕ) → In i dead → HasDeadHead S P floor i)
      (λ S P. (i : ℕ) → In i dead → IsDeadSince S P from floor i)
      (λ S P legal shown size had i on. since_now from floor i S P shown size (had i on)) heads in
      let on : Seen device g q (λ S P. (i : ℕ) → In i dead → IsDeadSince S P from floor i) =
      since_still device steady f g p q [] (none_held device f p of none) of right to.works from floor dead
      (omega arith) (omega (arith, of.some)) then in
      let now : IsWalkAt device g q from floor dead first n [] = record {
        some = omega (arith, of.some);
        began = to.works.rises.seen;
        under = to.works.rises.floor;
        those = λ i on. absurd on;
        walked = λ t up R stands legal P shown.
            let at : P 0 ≡ x.content = subst (λ (m : ℕ). P m ≡ x.content) number
            (seen t up R stands legal P shown) in
            seen_more device steady g q to.works.is_pass
            (λ S P'. (i : ℕ) → In i dead → IsDeadSince S P' from floor i)
            (λ S P'. (P' 0).body ≡ body.Meta first last n → IsWalked from floor dead first n [] S P')
            (λ S P' legal' shown' size since at'.
            first_walked told from floor first last n dead S P' legal' shown'
            (some_log q.seen S (omega (arith, (to.works.is_pass).some)) size) at' since) on t up R stands legal P shown
            (ap (λ (c : Page). c.body) at ∙ is);
      } in
      walk_still device steady line g h q r (x ∷ []) hold to.works.is_pass right_then back.works from floor dead first n
      [] now

  -- so it is of the walk
  pub walk_noted : (old new : Walk) → x.page ≡ old.page → old.page ≢ 0 → (content : Page) → content ≡ x.content
      → (dead : List ℕ) → HasNoted content dead old new true → (from floor : ℕ) → IsWalk device f p from floor dead old
      → IsWalk device h r from floor dead new
  walk_noted old new number some content same dead noted from floor was =
      let n = rows_noted content dead old new noted in
      subst (λ (m : ℕ). IsWalkAt device h r from floor dead m new.left new.met.items)
      (sym (n.page ∙ ap (λ (c : Page). c.right) same))
      (walk_read old.page number some n.rows (ap (λ (c : Page). c.body) (sym same) ∙ n.is) from floor dead new.left
      old.met.items new.met.items n.more
      (subst (λ (m : ℕ). IsWalkAt device f p from floor dead old.page m old.met.items) (sym n.left) was))

-- what was noted of a page, by what is answered
pub noted_true : (r : Result Bool AllocError) (content : Page) (dead : List ℕ) (old new : Walk) → r ≡ Ok true
    → IfOk r (HasNoted content dead old new) → HasNoted content dead old new true
noted_true r content dead old new is noted =
    subst (λ (x : Result Bool AllocError). IfOk x (HasNoted content dead old new)) is noted

none_noted : (content : Page) (dead : List ℕ) (old new : Walk) → HasNoted content dead old new false
    → IsRowPage content → ⊥
none_noted content dead old new (HasNoted.none off) page = off page.0 page.1

pub no_rows : (r : Result Bool AllocError) (content : Page) (dead : List ℕ) (old new : Walk) → r ≡ Ok false
    → IfOk r (HasNoted content dead old new) → IsRowPage content → ⊥
no_rows r content dead old new is noted =
    none_noted content dead old new
    (subst (λ (x : Result Bool AllocError). IfOk x (HasNoted content dead old new)) is noted)

pub one_less : (content : Page) (dead : List ℕ) (old new : Walk) → HasNoted content dead old new true
    → suc new.left ≡ old.left
one_less content dead old new noted = (rows_noted content dead old new noted).left
