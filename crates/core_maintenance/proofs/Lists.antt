-- The pending list grows at its end alone over records that only add.
use Rattle.std.proofs.Common.{◌≡◌, ◌≢◌, ◌⊎◌, ◌<◌, ℕ, suc, List, [], ◌∷◌, ◌++◌, length, refl, sym, ap, subst, subst₂}
use Rattle.std.proofs.Common.{◌∙◌, inl, inr, arith, append_assoc}
use Rattle.page_types.specs.Records.{kind_number}
use Rattle.page_types.specs.Views.{rows_of}
use Rattle.page_types.specs.declared.page.Page.{Page}
use Rattle.page_types.specs.declared.page.Row.{Row}
use Rattle.page_types.specs.declared.page.Body.{Body}
use Rattle.page_types.specs.declared.page.Body.TheVariants as body
use Rattle.page_types.specs.declared.page.Gone.TheVariants as gone
use Rattle.page_types.specs.declared.record.Record.{Record}
use Rattle.page_types.specs.declared.record.Kind.{Kind}
use Rattle.page_types.specs.declared.record.Kind.TheVariants as kind
use Rattle.core_state.specs.Log.{Log, Pages, In, changed, commits}
use Rattle.core_state.specs.Index.{Line}
use Rattle.core_state.specs.Legal.{IsLegal, Valid}
use Rattle.core_state.specs.Inner.PageKinds.{IsHeap, IsOverflow, IsPending, IsMeta, IsTree, ChangesLine, IsChanged}
use Rattle.core_state.specs.Inner.Ghosts.{Place}
use Rattle.core_state.specs.Inner.Ghosts.Place.{line, shifted}
use Rattle.core_state.specs.Inner.Kinds.{Fits}
use Rattle.core_state.specs.Inner.LineSteps.{LineStep}
use Rattle.core_state.proofs.Showing.{shown_one}
use Rattle.core_state.proofs.PageLists.{in_or_not, in_front}
use Rattle.core_state.proofs.Histories.{chain_one}
use Rattle.core_state.proofs.Law.AllCases.{all_steps}
use Rattle.core_state.proofs.Law.Steps.{After}
use Rattle.core_state.proofs.Law.Runs.{Holds, step_over}
use Rattle.core_state.proofs.Law.RowFrames.{is_line, line_same}
use Rattle.core_state.proofs.Law.RunningStays.{not_create}
use Rattle.core_state.proofs.Law.NowIndexed.{held_before, leaves}
use Rattle.core_maintenance.specs.Keeping.{IsPlacing, ListStays, PlacingKeepsList, LineGrows, LineHolds, RightKeepsLine}
use Rattle.core_maintenance.proofs.Right.{others_early}
use Rattle.core_maintenance.proofs.Pairs.{holds_after}

-- the kinds that take a page of rows away: Shift and DropPage
abbrev Takes : Kind → Type 0
Takes k = (kind_number k ≡ 12) ⊎ (kind_number k ≡ 20)

-- a page of rows that is deleted
module _ (P Q : Pages) (r : Record) (since q : ℕ) (rows now : List Row) (was : (P q).body ≡ body.Pending rows)
    (is : (Q q).body ≡ body.Deleted (gone.Pending now)) where
  not_was : (K : Body → Type 0) → (K (body.Pending rows) → ⊥) → K (P q).body → ⊥
  not_was K off k = off (subst K was k)

  not_now : (K : Body → Type 0) → (K (body.Deleted (gone.Pending now)) → ⊥) → K (Q q).body → ⊥
  not_now K off k = off (subst K is k)

  taken : IsChanged P Q r since q → Takes r.kind
  taken (IsChanged.made k free then) =
      let f : body.Free ≡ body.Pending rows = sym (ap (λ (p : Page). p.body) free) ∙ was in absurd (cc)
  taken (IsChanged.heads old then at) = absurd (not_now IsHeap (λ f. f) then)
  taken (IsChanged.chained new then) = elim then [
    | inl o ↦ absurd (not_now IsOverflow (λ f. f) o)
    | inr o ↦ absurd (not_now IsPending (λ f. f) o.0)
  ]
  taken (IsChanged.grown new works then) = absurd (not_now IsTree (λ f. f) then)
  taken (IsChanged.worked old works then) = absurd (not_was IsTree (λ f. f) old)
  taken (IsChanged.meta old lists then) = absurd (not_was IsMeta (λ f. f) old)
  taken (IsChanged.listed old on lists then) = elim then [
    | inl o ↦ absurd (not_now IsPending (λ f. f) o)
    | inr o ↦ inl (ap kind_number o.1)
  ]
  taken (IsChanged.dropped first then) = inr (ap kind_number first.kind_is)

  not_taken : (kind_number r.kind < 12) ⊎ IsPlacing r.kind → Takes r.kind → ⊥
  not_taken (inl low) (inl e) = omega (arith, low, e)
  not_taken (inl low) (inr e) = omega (arith, low, e)
  not_taken (inr m) (inl e) = omega (arith, m.0, m.1, e)
  not_taken (inr m) (inr e) = omega (arith, m.0, m.1, e)

-- one record more
module _ (R : Log) (r : Record) (legal : IsLegal (r ∷ R)) (is : (kind_number r.kind < 12) ⊎ IsPlacing r.kind) where
  abbrev n : ℕ
  n = commits R

  abbrev L : ℕ
  L = length R

  abbrev u : Valid R r n (suc L)
  u = legal.valid.1

  abbrev P : Pages
  P = u.before

  abbrev Q : Pages
  Q = u.after

  held : Holds n L R P
  held = held_before all_steps R r legal.valid.0 u

  after : After n L R P Q r held.0
  after = step_over all_steps n L R r n (suc L) u (omega arith) (inr refl) (omega arith) P Q held.0 u.shown
      u.shown_after held.1

  -- the first page isn't taken away
  none_goes : (p : ℕ) (qs : List ℕ) → held.0.line ≡ p ∷ qs → after.ghost.place p ≡ shifted → ⊥
  none_goes p qs e at =
      let on : held.0.place p ≡ line = (held.1.lined.on p).0 (subst (In p) (sym e) (inl refl)) in
      let old : Fits L line (P p) = subst (λ (x : Place). Fits L x (P p)) on (held.1.kinds p) in
      let new : Fits L shifted (Q p) = subst (λ (x : Place). Fits L x (Q p)) at (after.inv.kinds p) in
      let left = leaves all_steps R r legal.valid.0 u in
      elim (in_or_not p (changed r)) [
        | inl i ↦ not_taken P Q r (suc L) p old.0 new.0 old.1 new.1 is
            (taken P Q r (suc L) p old.0 new.0 old.1 new.1 (left.touched p i).change)
        | inr off ↦
            let f : body.Pending old.0 ≡ body.Deleted (gone.Pending new.0) =
            sym old.1 ∙ ap (λ (x : Page). x.body) (sym (left.elsewhere p off)) ∙ new.1 in
            cc
      ]

  grows : LineStep R P Q held.0 after.ghost → LineGrows P Q
  grows (LineStep.grow more e first new rows) qs on =
      let same : held.0.line ≡ qs = chain_one P _ held.0.line qs held.1.lined.is_line on in
      record {
        more = more;
        line = subst (Line Q) (e ∙ ap (λ (l : List ℕ). l ++ more) same) after.inv.lined.is_line;
        rows = λ q i. let x = rows q (subst (In q) (sym same) i) in (x.0, x.1);
      }
  grows (LineStep.shift p e first at link kept moved rows) qs on =
      absurd (none_goes p after.ghost.line e at)

  pub line_step : LineGrows P Q
  line_step = grows after.case.line

no_more : {A : Type 0} (xs : List A) → xs ++ [] ≡ xs
no_more {A} [] = refl
no_more {A} (x ∷ xs) = ap (λ (l : List A). x ∷ l) (no_more xs)

pub same : (P : Pages) → LineGrows P P
same P qs on = record {
  more = [];
  line = subst (Line P) (sym (no_more qs)) on;
  rows = λ q i. ([], sym (no_more (rows_of (P q))));
}

pub joined : (P Q S : Pages) → LineGrows P Q → LineGrows Q S → LineGrows P S
joined P Q S a b qs on =
    let x = a qs on in
    let y = b (qs ++ x.more) x.line in
    record {
      more = x.more ++ y.more;
      line = subst (Line S) (append_assoc qs x.more y.more) y.line;
      rows = λ q i.
          let f = x.rows q i in
          let g = y.rows q (in_front q qs x.more i) in
          (f.0 ++ g.0, g.1 ∙ ap (λ (ws : List Row). ws ++ g.0) f.1 ∙ append_assoc (rows_of (P q)) f.0 g.0);
    }

pub line_holds : LineHolds
line_holds = holds_after (λ r. (kind_number r.kind < 12) ⊎ IsPlacing r.kind) LineGrows same joined
    (λ R r P Q some legal shown shown' is.
    subst₂ LineGrows (shown_one R legal.valid.1.before P legal.valid.1.shown shown)
    (shown_one (r ∷ R) legal.valid.1.after Q legal.valid.1.shown_after shown') (line_step R r legal is))

pub right_keeps_line : RightKeepsLine
right_keeps_line v R a P h shown =
    line_holds v.seen a.later R P a.pages a.goes_on h.started a.legal shown a.shown
    (λ r i. inl (others_early v R a h r i))

-- the kinds 13 to 17 don't change the list
placing_quiet : (k : Kind) → IsPlacing k → ChangesLine k → ⊥
placing_quiet (kind.AddRow item serial) is c = omega (arith, is.0)
placing_quiet (kind.LinkPending item serial) is c = omega (arith, is.0)
placing_quiet kind.Shift is c = omega (arith, is.0)
placing_quiet _ is c = c

list_step : (R : Log) (r : Record) (legal : IsLegal (r ∷ R)) → R ≢ [] → IsPlacing r.kind
    → ListStays legal.valid.1.before legal.valid.1.after
list_step R r legal some is qs on =
    let u = legal.valid.1 in
    let g = held_before all_steps R r legal.valid.0 u in
    let l = leaves all_steps R r legal.valid.0 u in
    let later = not_create R r (commits R) (suc (length R)) u some in
    let quiet = placing_quiet r.kind is in
    let same : g.0.line ≡ qs = chain_one u.before _ g.0.line qs g.1.lined.is_line on in (
      subst (Line u.after) same (is_line (commits R) (length R) R u.before u.after r (suc (length R)) g.0 g.1 some
          l.touched l.elsewhere later quiet),
      λ q i. line_same (commits R) (length R) R u.before u.after r (suc (length R)) g.0 g.1 some l.touched l.elsewhere
          later quiet q (subst (In q) (sym same) i),
    )

pub placing_keeps_list : PlacingKeepsList
placing_keeps_list = holds_after (λ r. IsPlacing r.kind) ListStays
    (λ P qs on. (on, λ q i. refl))
    (λ P Q S a b qs on.
    let x = a qs on in
    let y = b qs x.0 in
    (y.0, λ q i. y.1 q i ∙ x.1 q i))
    (λ R r P Q some legal shown shown' is.
    subst₂ ListStays (shown_one R legal.valid.1.before P legal.valid.1.shown shown)
    (shown_one (r ∷ R) legal.valid.1.after Q legal.valid.1.shown_after shown') (list_step R r legal some is))
