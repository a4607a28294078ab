-- What was gathered stays so where others log, and where items come into the trees.
use Rattle.std.proofs.Common.{◌≡◌, ◌≢◌, ◌⊎◌, ◌≤◌, ℕ, zero, suc, List, [], ◌∷◌, ◌++◌, length, take, drop, refl, sym, ap}
use Rattle.std.proofs.Common.{ap₂, subst, ◌∙◌, inl, inr, arith, append_assoc, append-nil}
use Rattle.std.proofs.lemmas.List.{take-append-drop, take-append-le, drop-append-le, length-append}
use Rattle.ts_base.specs.Keys.{Key}
use Rattle.page_types.specs.Views.{rows_of}
use Rattle.page_types.specs.declared.page.Row.{Row}
use Rattle.core_state.specs.Log.{Pages, In}
use Rattle.core_state.specs.Index.{Line, HasRow, Main, rows_on}
use Rattle.core_state.specs.PagesTold.{IsLastOf}
use Rattle.core_state.proofs.PageLists.{in_front, in_back, in_either}
use Rattle.core_state.proofs.ChainLengths.{chain_once}
use Rattle.core_state.proofs.Trees.Behind.{Once}
use Rattle.core_maintenance.specs.Keeping.{ListGrows}
use Rattle.core_maintenance.specs.FreshRows.{AreFresh}
use Rattle.core_maintenance.proofs.FreshRows.{none_after}
use Rattle.gin_cleanup.specs.Gathering.{noted_rows, past_rows, unread_rows, AreApart, AreCounted, IsGathered}
use Rattle.gin_cleanup.specs.Gathering.{Wait, wait, IsBatch}
use Rattle.gin_cleanup.specs.Batches.{BatchGrows}
use Rattle.gin_cleanup.proofs.RowLists.{in_take, in_drop, page_of_row, row_on_page, noted_on, count_le}
use Rattle.gin_cleanup.proofs.RowLists.{counted_few}

module _ (P Q : Pages) (qs : List ℕ) (on : Line P qs) (g : ListGrows P Q qs) (f : AreFresh P Q qs g) where
  has_row : (q : ℕ) (w : Row) → In q qs → In w (rows_of (P q)) → HasRow P w.item
  has_row q w i m = record {
    row = w;
    linked = record { line = qs; is_line = on; page = q; on = i; there = m };
    item = refl;
  }

  once : Once qs
  once = chain_once P _ qs on

  -- a row on a page of the list is an old one, or came
  data Source (q : ℕ) (w : Row) : Type 0 where
    stood : In q qs → In w (rows_of (P q)) → Source q w
    grown : (i : In q qs) → In w (g.rows q i).0 → Source q w
    paged : In q g.more → In w (rows_of (Q q)) → Source q w

  source : (q : ℕ) (w : Row) → In q qs ⊎ In q g.more → In w (rows_of (Q q)) → Source q w
  source q w (inr i) m = Source.paged i m
  source q w (inl i) m =
      elim (in_either w (rows_of (P q)) (g.rows q i).0 (subst (In w) (g.rows q i).1 m))
      [ inl o ↦ Source.stood i o | inr e ↦ Source.grown i e ]

  -- a row of the old list, and one that came
  fresh_from : (q p : ℕ) (w v : Row) → In q qs → In w (rows_of (P q)) → Source p v → (In p qs → In v (rows_of (P p))
      → w.item ≢ v.item) → w.item ≢ v.item
  fresh_from q p w v i m (Source.stood j n) both = both j n
  fresh_from q p w v i m (Source.grown j n) both = λ e. f.extra p j v n (subst (HasRow P) e (has_row q w i m))
  fresh_from q p w v i m (Source.paged j n) both = λ e. f.more p j v n (subst (HasRow P) e (has_row q w i m))

  module _ (left : ℕ) (enough : left ≤ length qs) where
    front : take left (qs ++ g.more) ≡ take left qs
    front = take-append-le left qs g.more enough

    behind : drop left (qs ++ g.more) ≡ drop left qs ++ g.more
    behind = drop-append-le left qs g.more enough

    -- the last page alone gets rows, and nothing is after it
    ends : (q : ℕ) (i : In q qs) → In q (take left qs) → (w : Row) → In w (g.rows q i).0 → drop left qs ≡ []
    ends q i t w m =
        let last : IsLastOf qs q = f.last q i (λ z. subst (In w) z m) in
        let same = take-append-drop left qs in
        none_after (take left qs) (drop left qs) q (subst Once (sym same) once) t
        (subst (λ (l : List ℕ). IsLastOf l q) (sym same) last)

    -- rows on the first pages and on later ones
    crossing : AreApart (rows_on P (take left qs)) (rows_on P (drop left qs)) → (q p : ℕ) (w v : Row)
        → In q (take left qs) → (i : In q qs) → In w (rows_of (P q)) ⊎ In w (g.rows q i).0
        → In p (drop left qs) ⊎ In p g.more → In v (rows_of (Q p)) → w.item ≢ v.item
    crossing whole q p w v t i (inl o) (inl k) n =
        fresh_from q p w v i o (source p v (inl (in_drop left p qs k)) n)
        (λ j x. whole w v (row_on_page P (take left qs) q w t o) (row_on_page P (drop left qs) p v k x))
    crossing whole q p w v t i (inl o) (inr k) n = λ e. f.more p k v n (subst (HasRow P) e (has_row q w i o))
    crossing whole q p w v t i (inr x) (inl k) n = absurd (subst (In p) (ends q i t w x) k)
    crossing whole q p w v t i (inr x) (inr k) n = f.apart q p i w v x k n

    whole_on : AreApart (rows_on P (take left qs)) (rows_on P (drop left qs))
        → AreApart (rows_on Q (take left (qs ++ g.more))) (rows_on Q (drop left (qs ++ g.more)))
    whole_on whole w v m n =
        let a = page_of_row Q (take left qs) w (subst (λ (l : List ℕ). In w (rows_on Q l)) front m) in
        let b = page_of_row Q (drop left qs ++ g.more) v (subst (λ (l : List ℕ). In v (rows_on Q l)) behind n) in
        let i = in_take left a.0 qs a.1 in
        crossing whole a.0 b.0 w v a.1 i (in_either w (rows_of (P a.0)) (g.rows a.0 i).0 (subst (In w) (g.rows a.0 i).1
        a.2)) (in_either b.0 (drop left qs) g.more b.1) b.2

  -- a page with one after it gets no row
  pub no_extra : (front rest : List ℕ) (q p : ℕ) → qs ≡ front ++ q ∷ p ∷ rest → (i : In q qs) → (g.rows q i).0 ≡ []
  no_extra front rest q p e i = elim (some_or_none (g.rows q i).0) [
    | inl none ↦ none
    | inr some ↦
        let same : qs ≡ (front ++ q ∷ []) ++ p ∷ rest = e ∙ sym (append_assoc front (q ∷ []) (p ∷ rest)) in
        let none = none_after (front ++ q ∷ []) (p ∷ rest) q (subst Once same once)
        (in_back q front (q ∷ []) (inl refl)) (subst (λ (l : List ℕ). IsLastOf l q) same (f.last q i some)) in
        absurd (not_none none)
  ]
    where
      not_none : p ∷ rest ≡ [] → ⊥
      not_none z = cc

      some_or_none : (ws : List Row) → (ws ≡ []) ⊎ (ws ≢ [])
      some_or_none [] = inl refl
      some_or_none (w ∷ ws) = inr (λ z. cc)

  -- what was counted on the pages from some place on
  counted_on : (left : ℕ) (ns front rest : List ℕ) → qs ≡ front ++ rest → left ≤ length rest
      → AreCounted P left ns rest → AreCounted Q left ns (rest ++ g.more)
  counted_on left [] front rest e enough c = tt
  counted_on left (n ∷ ns) front [] e enough c = absurd c
  counted_on zero (n ∷ ns) front (q ∷ rest) e enough c = absurd c
  counted_on (suc zero) (n ∷ ns) front (q ∷ rest) e enough c =
      let i : In q qs = subst (In q) (sym e) (in_back q front (q ∷ rest) (inl refl)) in (
        omega (arith, c.0, ap length (g.rows q i).1, length-append (rows_of (P q)) (g.rows q i).0),
        counted_on zero ns (front ++ q ∷ []) rest (e ∙ sym (append_assoc front (q ∷ []) rest)) (omega arith) c.1,
      )
  counted_on (suc (suc left)) (n ∷ ns) front (q ∷ []) e enough c = absurd (omega (arith, enough))
  counted_on (suc (suc left)) (n ∷ ns) front (q ∷ p ∷ rest) e enough c =
      let i : In q qs = subst (In q) (sym e) (in_back q front (q ∷ p ∷ rest) (inl refl)) in
      let none = no_extra front rest q p e i in (
        c.0 ∙ sym (ap length ((g.rows q i).1 ∙ ap (λ (ws : List Row). rows_of (P q) ++ ws) none
            ∙ append-nil (rows_of (P q)))),
        counted_on (suc left) ns (front ++ q ∷ []) (p ∷ rest) (e ∙ sym (append_assoc front (q ∷ []) (p ∷ rest)))
            (omega (arith, enough)) c.1,
      )

  -- the noted rows are the same
  noted_same : (left : ℕ) (ns rest : List ℕ) → ((q : ℕ) → In q rest → In q qs) → AreCounted P left ns rest
      → noted_rows Q ns (rest ++ g.more) ≡ noted_rows P ns rest
  noted_same left [] rest sub c = refl
  noted_same left (n ∷ ns) [] sub c = absurd c
  noted_same zero (n ∷ ns) (q ∷ rest) sub c = absurd c
  noted_same (suc left) (n ∷ ns) (q ∷ rest) sub c =
      let i : In q qs = sub q (inl refl) in
      ap (λ (ws : List Row). take n ws ++ noted_rows Q ns (rest ++ g.more)) (g.rows q i).1
      ∙ ap₂ (λ (us vs : List Row). us ++ vs)
      (take-append-le n (rows_of (P q)) (g.rows q i).0 (count_le P (suc left) n q c.0))
      (noted_same left ns rest (λ p j. sub p (inr j)) c.1)

  -- a row that came later to a page that was read did so before, or comes now
  past_source : (left : ℕ) (ns rest : List ℕ) → ((q : ℕ) → In q rest → In q qs) → AreCounted P left ns rest → (v : Row)
      → In v (past_rows Q ns (rest ++ g.more))
      → In v (past_rows P ns rest) ⊎ ((q : ℕ) × (i : In q qs) × In v (g.rows q i).0)
  past_source left [] rest sub c v m = inl m
  past_source left (n ∷ ns) [] sub c v m = absurd c
  past_source zero (n ∷ ns) (q ∷ rest) sub c v m = absurd c
  past_source (suc left) (n ∷ ns) (q ∷ rest) sub c v m =
      let i : In q qs = sub q (inl refl) in
      elim (in_either v (drop n (rows_of (Q q))) (past_rows Q ns (rest ++ g.more)) m) [
        | inl here ↦
            let same : drop n (rows_of (Q q)) ≡ drop n (rows_of (P q)) ++ (g.rows q i).0 =
            ap (λ (ws : List Row). drop n ws) (g.rows q i).1
            ∙ drop-append-le n (rows_of (P q)) (g.rows q i).0 (count_le P (suc left) n q c.0) in
            elim (in_either v (drop n (rows_of (P q))) (g.rows q i).0 (subst (In v) same here)) [
              | inl old ↦ inl (in_front v (drop n (rows_of (P q))) (past_rows P ns rest) old)
              | inr new ↦ inr (q, i, new)
            ]
        | inr there ↦ elim (past_source left ns rest (λ p j. sub p (inr j)) c.1 v there) [
          | inl old ↦ inl (in_back v (drop n (rows_of (P q))) (past_rows P ns rest) old)
          | inr new ↦ inr new
        ]
      ]

  -- where the main part keeps its pairs, all of it stays
  module _ (main : (k : Key) (i : ℕ) → Main P k i → Main Q k i) (left : ℕ) (ns : List ℕ) (W : List Wait)
      (enough : left ≤ length qs) (whole : AreApart (rows_on P (take left qs)) (rows_on P (drop left qs)))
      (counted : AreCounted P left ns qs)
      (pairs : (w : Row) → In w (noted_rows P ns qs) → (k : Key) → In k w.keys → Main P k w.item ⊎ In (wait k w.item) W)
      (past : AreApart (noted_rows P ns qs) (past_rows P ns qs)) where
    noted : (w : Row) → In w (noted_rows Q ns (qs ++ g.more)) → In w (noted_rows P ns qs)
    noted w m = subst (In w) (noted_same left ns qs (λ q i. i) counted) m

    noted_row : (w : Row) → In w (noted_rows P ns qs) → HasRow P w.item
    noted_row w m = let p = noted_on P ns qs w m in has_row p.0 w (in_take (length ns) p.0 qs p.1) p.2

    pub stays_gathered : IsGathered Q left ns W
    stays_gathered = record {
      line = qs ++ g.more;
      is_line = g.line;
      enough = omega (arith, enough, length-append qs g.more);
      whole = whole_on left enough whole;
      counted = counted_on left ns [] qs refl enough counted;
      pairs = λ w m k i. elim (pairs w (noted w m) k i) [ inl old ↦ inl (main k w.item old) | inr later ↦ inr later ];
      past = λ w v m n. elim (past_source left ns qs (λ q i. i) counted v n) [
        | inl old ↦ past w v (noted w m) old
        | inr new ↦ λ e. f.extra new.0 new.1 v new.2 (subst (HasRow P) e (noted_row w (noted w m)))
      ];
    }

    -- and a batch stays one
    pub stays_batch : AreApart (noted_rows P ns qs) (unread_rows P ns qs) → IsBatch Q left ns W
    unfolding stays_gathered
    stays_batch apart = record {
      gathered = stays_gathered;
      apart = λ w v m n.
          let few = counted_few P left ns qs counted in
          let b = page_of_row Q (drop (length ns) qs ++ g.more) v (subst (λ (l : List ℕ). In v (rows_on Q l))
          (drop-append-le (length ns) qs g.more few.1) n) in
          let a = noted_on P ns qs w (noted w m) in
          let i = in_take (length ns) a.0 qs a.1 in
          elim (in_either b.0 (drop (length ns) qs) g.more b.1) [
            | inr new ↦ λ e. f.more b.0 new v b.2 (subst (HasRow P) e (noted_row w (noted w m)))
            | inl old ↦ fresh_from a.0 b.0 w v i a.2 (source b.0 v (inl (in_drop (length ns) b.0 qs old)) b.2)
                (λ j x. apart w v (noted w m) (row_on_page P (drop (length ns) qs) b.0 v old x))
          ];
    }

pub batch_grows : BatchGrows
batch_grows = record {
  gathered = λ P Q left ns W x grows fresh pairs.
      let g = grows x.line x.is_line in
      stays_gathered P Q x.line x.is_line g (fresh x.line x.is_line g) pairs.main left ns W x.enough x.whole x.counted
      x.pairs x.past;
  batch = λ P Q left ns W b grows fresh pairs.
      let x = b.gathered in
      let g = grows x.line x.is_line in
      stays_batch P Q x.line x.is_line g (fresh x.line x.is_line g) pairs.main left ns W x.enough x.whole x.counted
      x.pairs x.past b.apart;
}
