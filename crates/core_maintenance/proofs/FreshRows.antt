-- Over records that only add, each row that comes to the pending list is of an item that had no linked row.
use Rattle.std.proofs.Common.{◌≡◌, ◌≢◌, ◌⊎◌, ◌<◌, ℕ, List, [], ◌∷◌, ◌++◌, refl, sym, ap, subst, subst₂, ◌∙◌, inl, inr}
use Rattle.std.proofs.Common.{append_assoc, append-nil, drop}
use Rattle.page_types.specs.Records.{kind_number}
use Rattle.page_types.specs.Views.{rows_of}
use Rattle.page_types.specs.declared.page.Row.{Row}
use Rattle.page_types.specs.declared.record.Record.{Record}
use Rattle.core_state.specs.Log.{Log, Pages, In, Shows}
use Rattle.core_state.specs.Index.{Line, IsLinked, HasRow}
use Rattle.core_state.specs.PagesTold.{IsLastOf}
use Rattle.core_state.specs.Legal.{IsLegal}
use Rattle.core_state.proofs.Showing.{shown_one}
use Rattle.core_state.proofs.PageLists.{in_front, in_back, in_either}
use Rattle.core_state.proofs.Histories.{chain_one}
use Rattle.core_state.proofs.ChainLengths.{chain_once}
use Rattle.core_state.proofs.Trees.Behind.{Once}
use Rattle.core_maintenance.specs.Keeping.{IsPlacing, LineGrows, ListGrows}
use Rattle.core_maintenance.specs.FreshRows.{AreFresh, RowsAreFresh, FreshHolds, RightKeepsFresh}
use Rattle.core_maintenance.proofs.Right.{others_early}
use Rattle.core_maintenance.proofs.Pairs.{holds_after, pairs_hold}
use Rattle.core_maintenance.proofs.Lists as lists
use Rattle.core_maintenance.proofs.FreshSteps.{cancel, nothing_more, fresh_step}

-- the list grows by such rows, and linked rows stay so
record Grows (P Q : Pages) : Type 0 where
  pub list : LineGrows P Q
  pub fresh : RowsAreFresh P Q
  pub rows : (w : Row) → IsLinked P w → IsLinked Q w

has_row : (P Q : Pages) (i : ℕ) → ((w : Row) → IsLinked P w → IsLinked Q w) → HasRow P i → HasRow Q i
has_row P Q i stay k = record { row = k.row; linked = stay k.row k.linked; item = k.item }

same : (P : Pages) → Grows P P
same P = record {
  list = lists.same P;
  fresh = λ qs on g.
      let none : g.more ≡ [] = nothing_more qs g.more (chain_one P _ qs (qs ++ g.more) on g.line) in
      let no_row : (q : ℕ) (i : In q qs) → (g.rows q i).0 ≡ [] = λ q i.
      nothing_more (rows_of (P q)) (g.rows q i).0 (g.rows q i).1 in
      record {
        extra = λ q i w m k. subst (In w) (no_row q i) m;
        more = λ q i w m k. subst (In q) none i;
        last = λ q i some. absurd (some (no_row q i));
        apart = λ q p i w v m j n e. subst (In p) none j;
      };
  rows = λ w k. k;
}

some_or_none : (ws : List Row) → (ws ≡ []) ⊎ (ws ≢ [])
some_or_none [] = inl refl
some_or_none (w ∷ ws) = inr (λ e. cc)

-- the last of a list with something after these is after them
last_after : (xs ys front : List ℕ) (last : ℕ) → ys ≢ [] → xs ++ ys ≡ front ++ last ∷ [] → In last ys
last_after [] ys front last some e = subst (In last) (sym e) (in_back last front (last ∷ []) (inl refl))
last_after (x ∷ xs) ys [] last some e = absurd (some (nothing xs ys (ap (λ (l : List ℕ). drop 1 l) e)))
  where
    nothing : (us vs : List ℕ) → us ++ vs ≡ [] → vs ≡ []
    nothing [] vs f = f
    nothing (c ∷ us) vs f = absurd (cc)
last_after (x ∷ xs) ys (f ∷ front) last some e = last_after xs ys front last some (ap (λ (l : List ℕ). drop 1 l) e)

twice : (q : ℕ) (xs ys : List ℕ) → Once (xs ++ ys) → In q xs → In q ys → ⊥
twice q [] ys o k m = k
twice q (x ∷ xs) ys o (inl e) m = o.0 (subst (λ (z : ℕ). In z (xs ++ ys)) e (in_back q xs ys m))
twice q (x ∷ xs) ys o (inr k) m = twice q xs ys o.1 k m

-- so nothing is after these where one of them is the last
pub none_after : (xs ys : List ℕ) (q : ℕ) → Once (xs ++ ys) → In q xs → IsLastOf (xs ++ ys) q → ys ≡ []
none_after xs [] q once i last = refl
none_after xs (p ∷ ls) q once i last = absurd (twice q xs (p ∷ ls) once i (of (xs ++ p ∷ ls) q refl last))
  where
    empty : (us : List ℕ) → [] ≡ us ++ p ∷ ls → ⊥
    empty [] f = cc
    empty (u ∷ us) f = cc

    of : (l : List ℕ) (c : ℕ) → l ≡ xs ++ p ∷ ls → IsLastOf l c → In c (p ∷ ls)
    of _ _ e IsLastOf.none = absurd (empty xs e)
    of _ _ e (IsLastOf.some front last) = last_after xs (p ∷ ls) front last (λ f. cc) (sym e)

module _ (P Q S : Pages) (a : Grows P Q) (b : Grows Q S) (qs : List ℕ) (on : Line P qs) (g : ListGrows P S qs) where
  x : ListGrows P Q qs
  x = a.list qs on

  y : ListGrows Q S (qs ++ x.more)
  y = b.list (qs ++ x.more) x.line

  f : AreFresh P Q qs x
  f = a.fresh qs on x

  h : AreFresh Q S (qs ++ x.more) y
  h = b.fresh (qs ++ x.more) x.line y

  more : g.more ≡ x.more ++ y.more
  more = cancel qs g.more (x.more ++ y.more)
      (chain_one S _ (qs ++ g.more) ((qs ++ x.more) ++ y.more) g.line y.line ∙ append_assoc qs x.more y.more)

  to : (q : ℕ) → In q qs → In q (qs ++ x.more)
  to q i = in_front q qs x.more i

  extra : (q : ℕ) (i : In q qs) → (g.rows q i).0 ≡ (x.rows q i).0 ++ (y.rows q (to q i)).0
  extra q i = cancel (rows_of (P q)) (g.rows q i).0 ((x.rows q i).0 ++ (y.rows q (to q i)).0)
      (sym (g.rows q i).1 ∙ (y.rows q (to q i)).1 ∙ ap (λ (ws : List Row). ws ++ (y.rows q (to q i)).0) (x.rows q i).1
      ∙ append_assoc (rows_of (P q)) (x.rows q i).0 (y.rows q (to q i)).0)

  had : (w : Row) → HasRow P w.item → HasRow Q w.item
  had w k = has_row P Q w.item a.rows k

  -- a row that came before the second step is linked there
  linked_extra : (q : ℕ) (i : In q qs) (w : Row) → In w (x.rows q i).0 → HasRow Q w.item
  linked_extra q i w m = record {
    row = w;
    linked = record {
      line = qs ++ x.more;
      is_line = x.line;
      page = q;
      on = to q i;
      there = subst (In w) (sym (x.rows q i).1) (in_back w (rows_of (P q)) (x.rows q i).0 m);
    };
    item = refl;
  }

  linked_more : (p : ℕ) → In p x.more → (w : Row) → In w (rows_of (Q p)) → HasRow Q w.item
  linked_more p j w m = record {
    row = w;
    linked = record { line = qs ++ x.more; is_line = x.line; page = p; on = in_back p qs x.more j; there = m };
    item = refl;
  }

  fresh_more : (q : ℕ) → In q g.more → (w : Row) → In w (rows_of (S q)) → HasRow P w.item → ⊥
  fresh_more q i w m k = elim (in_either q x.more y.more (subst (In q) more i)) [
    | inr new ↦ h.more q new w m (had w k)
    | inl old ↦
        let j : In q (qs ++ x.more) = in_back q qs x.more old in
        elim (in_either w (rows_of (Q q)) (y.rows q j).0 (subst (In w) (y.rows q j).1 m)) [
          | inl there ↦ f.more q old w there k
          | inr new ↦ h.extra q j w new (had w k)
        ]
  ]

  fresh_extra : (q : ℕ) (i : In q qs) (w : Row) → In w (g.rows q i).0 → HasRow P w.item → ⊥
  fresh_extra q i w m k =
      elim (in_either w (x.rows q i).0 (y.rows q (to q i)).0 (subst (In w) (extra q i) m)) [
        | inl old ↦ f.extra q i w old k
        | inr new ↦ h.extra q (to q i) w new (had w k)
      ]

  last_is : (q : ℕ) (i : In q qs) → (g.rows q i).0 ≢ [] → IsLastOf qs q
  last_is q i some = elim (some_or_none (x.rows q i).0) [
    | inr first ↦ f.last q i first
    | inl none ↦
        let last = h.last q (to q i)
        (λ e. some (extra q i ∙ ap (λ (ws : List Row). ws ++ (y.rows q (to q i)).0) none ∙ e)) in
        let no_page : x.more ≡ [] = none_after qs x.more q (chain_once Q _ (qs ++ x.more) x.line) i last in
        subst (λ (l : List ℕ). IsLastOf l q) (ap (λ (l : List ℕ). qs ++ l) no_page ∙ append-nil qs) last
  ]

  -- a page of the list gets rows in the second step, and comes before one that came in the first
  not_both : (q p : ℕ) (i : In q qs) (w v : Row) → In w (y.rows q (to q i)).0 → In p x.more
      → In v (rows_of (Q p)) → w.item ≢ v.item
  not_both q p i w v m j n e =
      h.extra q (to q i) w m (subst (HasRow Q) (sym e) (linked_more p j v n))

  -- two pages don't both get rows in one step
  one_page : (q p : ℕ) (i : In q qs) (w v : Row) → In w (y.rows q (to q i)).0 → (j : In p x.more)
      → In v (y.rows p (in_back p qs x.more j)).0 → ⊥
  one_page q p i w v m j n =
      let last = h.last q (to q i) (λ z. subst (In w) z m) in
      subst (In p) (none_after qs x.more q (chain_once Q _ (qs ++ x.more) x.line) i last) j

  apart : (q p : ℕ) (i : In q qs) (w v : Row) → In w (g.rows q i).0 → In p g.more → In v (rows_of (S p))
      → w.item ≢ v.item
  apart q p i w v m j n e =
      elim (in_either w (x.rows q i).0 (y.rows q (to q i)).0 (subst (In w) (extra q i) m)) [
        | inl old ↦ elim (in_either p x.more y.more (subst (In p) more j)) [
          | inr new ↦ h.more p new v n (subst (HasRow Q) e (linked_extra q i w old))
          | inl was ↦
              let k : In p (qs ++ x.more) = in_back p qs x.more was in
              elim (in_either v (rows_of (Q p)) (y.rows p k).0 (subst (In v) (y.rows p k).1 n)) [
                | inl there ↦ f.apart q p i w v old was there e
                | inr come ↦ h.extra p k v come (subst (HasRow Q) e (linked_extra q i w old))
              ]
        ]
        | inr late ↦ elim (in_either p x.more y.more (subst (In p) more j)) [
          | inr new ↦ h.apart q p (to q i) w v late new n e
          | inl was ↦
              let k : In p (qs ++ x.more) = in_back p qs x.more was in
              elim (in_either v (rows_of (Q p)) (y.rows p k).0 (subst (In v) (y.rows p k).1 n)) [
                | inl there ↦ not_both q p i w v late was there e
                | inr come ↦ one_page q p i w v late was come
              ]
        ]
      ]

  fresh_on : AreFresh P S qs g
  fresh_on = record { extra = fresh_extra; more = fresh_more; last = last_is; apart = apart }

joined : (P Q S : Pages) → Grows P Q → Grows Q S → Grows P S
joined P Q S a b = record {
  list = lists.joined P Q S a.list b.list;
  fresh = λ qs on g. fresh_on P Q S a b qs on g;
  rows = λ w k. b.rows w (a.rows w k);
}

step : (R : Log) (r : Record) (P Q : Pages) → R ≢ [] → IsLegal (r ∷ R) → Shows R P → Shows (r ∷ R) Q
    → (kind_number r.kind < 12) ⊎ IsPlacing r.kind → Grows P Q
step R r P Q some legal shown shown' adds =
    let u = legal.valid.1 in
    let was = shown_one R u.before P u.shown shown in
    let now = shown_one (r ∷ R) u.after Q u.shown_after shown' in
    record {
      list = subst₂ LineGrows was now (lists.line_step R r legal adds);
      fresh = subst₂ RowsAreFresh was now (fresh_step R r some legal adds);
      rows = (pairs_hold R (r ∷ []) (r ∷ R) P Q refl some legal shown shown' (λ s i. elim i [
        | inl e ↦ subst (λ (x : Record). (kind_number x.kind < 12) ⊎ IsPlacing x.kind) (sym e) adds
        | inr none ↦ absurd none
      ])).rows;
    }

pub fresh_holds : FreshHolds
fresh_holds R later R' P Q on some legal shown shown' each =
    (holds_after (λ r. (kind_number r.kind < 12) ⊎ IsPlacing r.kind) Grows same joined step R later R' P Q on some
    legal shown shown' each).fresh

pub right_keeps_fresh : RightKeepsFresh
right_keeps_fresh v R a P h shown =
    fresh_holds v.seen a.later R P a.pages a.goes_on h.started a.legal shown a.shown
    (λ r i. inl (others_early v R a h r i))
