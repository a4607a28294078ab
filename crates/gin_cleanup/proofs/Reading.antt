-- One page more is read, and where a batch may end: at the last page that was on the list at the beginning, or
-- before a page whose first row is of no item on the page before it.
use Rattle.std.proofs.Common.{◌≡◌, ◌≢◌, ◌<◌, ℕ, zero, suc, List, [], ◌∷◌, ◌++◌, length, take, drop, refl, sym, ap}
use Rattle.std.proofs.Common.{subst, ◌∙◌, inl, inr, arith, append_assoc, append-nil}
use Rattle.std.proofs.lemmas.List.{take_all, drop_all}
use Rattle.ts_base.specs.Keys.{Key}
use Rattle.page_types.specs.Views.{rows_in, rows_of}
use Rattle.page_types.specs.declared.page.Row.{Row}
use Rattle.core_state.specs.Log.{Log, Pages, In}
use Rattle.core_state.specs.Index.{rows_on}
use Rattle.core_state.specs.PagesTold.{HasRowOn, StartsWith, ListStands}
use Rattle.core_state.proofs.PageLists.{in_back, in_either}
use Rattle.core_state.proofs.Histories.{chain_one}
use Rattle.gin_cleanup.specs.Gathering.{noted_rows, past_rows, unread_rows, AreApart, AreCounted, IsGathered}
use Rattle.gin_cleanup.specs.Gathering.{Wait, wait, IsBatch}
use Rattle.gin_cleanup.specs.Batches.{BatchBegins, PlacedNeedNotWait}
use Rattle.gin_cleanup.proofs.RowLists.{page_of_row, row_on_page, noted_on, no_past}

module _ (P : Pages) (q : ℕ) (rest : List ℕ) where
  -- as many rows as are on page q
  abbrev m : ℕ
  m = length (rows_of (P q))

  counted_more : (left : ℕ) (ns front : List ℕ) → length front ≡ length ns → length ns < left
      → AreCounted P left ns (front ++ q ∷ rest) → AreCounted P left (ns ++ m ∷ []) (front ++ q ∷ rest)
  counted_more zero [] [] e few c = absurd (omega (arith, few))
  counted_more (suc zero) [] [] e few c = (omega arith, tt)
  counted_more (suc (suc left)) [] [] e few c = (refl, tt)
  counted_more left [] (f ∷ front) e few c = absurd (omega (arith, e))
  counted_more left (n ∷ ns) [] e few c = absurd (omega (arith, e))
  counted_more zero (n ∷ ns) (f ∷ front) e few c = absurd c
  counted_more (suc left) (n ∷ ns) (f ∷ front) e few c =
      (c.0, counted_more left ns front (omega (arith, e)) (omega (arith, few)) c.1)

  noted_more : (ns front : List ℕ) → length front ≡ length ns
      → noted_rows P (ns ++ m ∷ []) (front ++ q ∷ rest) ≡ noted_rows P ns (front ++ q ∷ rest) ++ rows_of (P q)
  noted_more [] [] e = append-nil (take m (rows_of (P q))) ∙ take_all m (rows_of (P q)) (omega arith)
  noted_more [] (f ∷ front) e = absurd (omega (arith, e))
  noted_more (n ∷ ns) [] e = absurd (omega (arith, e))
  noted_more (n ∷ ns) (f ∷ front) e =
      ap (λ (ws : List Row). take n (rows_of (P f)) ++ ws) (noted_more ns front (omega (arith, e)))
      ∙ sym (append_assoc (take n (rows_of (P f))) (noted_rows P ns (front ++ q ∷ rest)) (rows_of (P q)))

  past_more : (ns front : List ℕ) → length front ≡ length ns
      → past_rows P (ns ++ m ∷ []) (front ++ q ∷ rest) ≡ past_rows P ns (front ++ q ∷ rest)
  past_more [] [] e = append-nil (drop m (rows_of (P q))) ∙ drop_all m (rows_of (P q)) (omega arith)
  past_more [] (f ∷ front) e = absurd (omega (arith, e))
  past_more (n ∷ ns) [] e = absurd (omega (arith, e))
  past_more (n ∷ ns) (f ∷ front) e =
      ap (λ (ws : List Row). drop n (rows_of (P f)) ++ ws) (past_more ns front (omega (arith, e)))

pub batch_begins : BatchBegins
batch_begins P qs on = record {
  line = qs;
  is_line = on;
  enough = omega arith;
  whole = λ w v i j. absurd (subst (λ (l : List ℕ). In v (rows_on P l)) (drop_all (length qs) qs (omega arith)) j);
  counted = tt;
  pairs = λ w i. absurd i;
  past = λ w v i j. absurd i;
}

-- The next page is read: all its rows are noted, and their pairs wait.
pub read_more : (P : Pages) (left : ℕ) (ns : List ℕ) (W V : List Wait) (x : IsGathered P left ns W)
    (front rest : List ℕ) (q : ℕ) → x.line ≡ front ++ q ∷ rest → length front ≡ length ns → length ns < left
    → ((x : Wait) → In x W → In x V)
    → ((w : Row) → In w (rows_of (P q)) → (k : Key) → In k w.keys → In (wait k w.item) V)
    → IsGathered P left (ns ++ length (rows_of (P q)) ∷ []) V
read_more P left ns W V x front rest q e size few keeps new =
    let counted = subst (AreCounted P left ns) e x.counted in
    let noted : noted_rows P (ns ++ length (rows_of (P q)) ∷ []) x.line ≡ noted_rows P ns x.line ++ rows_of (P q) =
    subst (λ (l : List ℕ). noted_rows P (ns ++ length (rows_of (P q)) ∷ []) l ≡ noted_rows P ns l ++ rows_of (P q))
    (sym e) (noted_more P q rest ns front size) in
    let past : past_rows P (ns ++ length (rows_of (P q)) ∷ []) x.line ≡ [] =
    subst (λ (l : List ℕ). past_rows P (ns ++ length (rows_of (P q)) ∷ []) l ≡ []) (sym e)
    (past_more P q rest ns front size ∙ no_past P left ns (front ++ q ∷ rest) counted few) in
    record {
      line = x.line;
      is_line = x.is_line;
      enough = x.enough;
      whole = x.whole;
      counted = subst (AreCounted P left (ns ++ length (rows_of (P q)) ∷ [])) (sym e)
          (counted_more P q rest left ns front size few counted);
      pairs = λ w i k j. elim (in_either w (noted_rows P ns x.line) (rows_of (P q)) (subst (In w) noted i)) [
        | inl old ↦ elim (x.pairs w old k j) [ inl main ↦ inl main | inr later ↦ inr (keeps (wait k w.item) later) ]
        | inr come ↦ inr (new w come k j)
      ];
      past = λ w v i n. absurd (subst (In v) past n);
    }

-- pairs that are in the main part need not wait
pub placed_need_not_wait : PlacedNeedNotWait
placed_need_not_wait P left ns W V b placed =
    let x = b.gathered in
    record {
      gathered = record {
        line = x.line;
        is_line = x.is_line;
        enough = x.enough;
        whole = x.whole;
        counted = x.counted;
        pairs = λ w i k j. elim (x.pairs w i k j) [
          | inl main ↦ inl main
          | inr later ↦ placed (wait k w.item) later
        ];
        past = x.past;
      };
      apart = b.apart;
    }

-- all pages that were on the list at the beginning were read
pub all_read : (P : Pages) (left : ℕ) (ns : List ℕ) (W : List Wait) → IsGathered P left ns W
    → length ns ≡ left → IsBatch P left ns W
all_read P left ns W x e = record {
  gathered = x;
  apart = λ w v i n.
      let a = noted_on P ns x.line w i in
      x.whole w v (row_on_page P (take left x.line) a.0 w
      (subst (λ (z : ℕ). In a.0 (take z x.line)) e a.1) a.2)
      (subst (λ (z : ℕ). In v (rows_on P (drop z x.line))) e n);
}

-- The next page begins with a row of another item than those on the page before it.
module _ (R : Log) (P : Pages) (list : ListStands R P) where
  some_on : (y : ℕ) (ys : List ℕ) (i : ℕ) → In y list.pages → StartsWith P (y ∷ ys) i → HasRowOn P (y ∷ []) i
  some_on y ys i on s =
      let row = list.some_row y on in
      let here : rows_of (P y) ≡ row.0 ∷ row.1 = ap rows_in row.2 in
      let same : row.0 ∷ (row.1 ++ rows_on P ys) ≡ s.0 ∷ s.1 =
      sym (ap (λ (ws : List Row). ws ++ rows_on P ys) here) ∙ s.2 in
      let first : row.0 ≡ s.0 = head_same row.0 s.0 (row.1 ++ rows_on P ys) s.1 same in (
        row.0,
        row_on_page P (y ∷ []) y row.0 (inl refl) (subst (In row.0) (sym here) (inl refl)),
        ap (λ (w : Row). w.item) first ∙ s.3,
      )
    where
      head_same : (a b : Row) (xs ys : List Row) → a ∷ xs ≡ b ∷ ys → a ≡ b
      head_same a b xs ys e = cc

  on_more : (a b : List ℕ) (i : ℕ) → HasRowOn P b i → HasRowOn P (a ++ b) i
  on_more a b i h =
      let p = page_of_row P b h.0 h.1 in
      (h.0, row_on_page P (a ++ b) p.0 h.0 (in_back p.0 a b p.1) p.2, h.2)

  -- an item with a row on one of these pages, and one from q on, has one on the last of these
  reach : (i : ℕ) (p : ℕ) (back : List ℕ) → HasRowOn P back i → (before xs : List ℕ) (a : ℕ)
      → list.pages ≡ before ++ (xs ++ p ∷ back) → In a (xs ++ p ∷ []) → HasRowOn P (a ∷ []) i → HasRowOn P (p ∷ []) i
  reach i p back later before [] a e (inl f) h = subst (λ (z : ℕ). HasRowOn P (z ∷ []) i) f h
  reach i p back later before [] a e (inr n) h = absurd n
  reach i p back later before (x ∷ xs) a e (inr m) h =
      reach i p back later (before ++ x ∷ []) xs a (e ∙ sym (append_assoc before (x ∷ []) (xs ++ p ∷ back))) m h
  reach i p back later before (x ∷ []) a e (inl f) h =
      let next : StartsWith P (p ∷ back) i = list.together before (p ∷ back) x i e
      (subst (λ (z : ℕ). HasRowOn P (z ∷ []) i) f h) (on_more (p ∷ []) back i later) in
      some_on p back i (subst (In p) (sym e) (in_back p before (x ∷ p ∷ back) (inr (inl refl)))) next
  reach i p back later before (x ∷ y ∷ xs) a e (inl f) h =
      let next : StartsWith P (y ∷ (xs ++ p ∷ back)) i = list.together before (y ∷ (xs ++ p ∷ back)) x i e
      (subst (λ (z : ℕ). HasRowOn P (z ∷ []) i) f h)
      (subst (λ (l : List ℕ). HasRowOn P (y ∷ l) i) (append_assoc xs (p ∷ []) back)
      (on_more (y ∷ (xs ++ p ∷ [])) back i later)) in
      let there : HasRowOn P (y ∷ []) i = some_on y (xs ++ p ∷ back) i
      (subst (In y) (sym e) (in_back y before (x ∷ y ∷ (xs ++ p ∷ back)) (inr (inl refl)))) next in
      reach i p back later (before ++ x ∷ []) (y ∷ xs) y
      (e ∙ sym (append_assoc before (x ∷ []) (y ∷ (xs ++ p ∷ back)))) (inl refl) there

  pub ends_before : (left : ℕ) (ns : List ℕ) (W : List Wait) (x : IsGathered P left ns W)
      (front rest : List ℕ) (p q : ℕ) → x.line ≡ front ++ p ∷ q ∷ rest → suc (length front) ≡ length ns
      → ((w v : Row) (vs : List Row) → In w (rows_of (P p)) → rows_of (P q) ≡ v ∷ vs → w.item ≢ v.item)
      → IsBatch P left ns W
  ends_before left ns W x front rest p q e size test = record { gathered = x; apart = apart }
    where
      line_is : list.pages ≡ front ++ p ∷ q ∷ rest
      line_is = chain_one P _ list.pages x.line list.is_line x.is_line ∙ e

      -- the pages that were read, and the others
      read : (fs : List ℕ) (n : ℕ) → suc (length fs) ≡ n → take n (fs ++ p ∷ q ∷ rest) ≡ fs ++ p ∷ []
      read [] n f = subst (λ (z : ℕ). take z (p ∷ q ∷ rest) ≡ p ∷ []) f refl
      read (y ∷ fs) zero f = absurd (omega (arith, f))
      read (y ∷ fs) (suc n) f = ap (λ (l : List ℕ). y ∷ l) (read fs n (omega (arith, f)))

      unread : (fs : List ℕ) (n : ℕ) → suc (length fs) ≡ n → drop n (fs ++ p ∷ q ∷ rest) ≡ q ∷ rest
      unread [] n f = subst (λ (z : ℕ). drop z (p ∷ q ∷ rest) ≡ q ∷ rest) f refl
      unread (y ∷ fs) zero f = absurd (omega (arith, f))
      unread (y ∷ fs) (suc n) f = unread fs n (omega (arith, f))

      on_first : (i : ℕ) → HasRowOn P (p ∷ []) i → HasRowOn P (q ∷ rest) i → ⊥
      on_first i here later =
          let next : StartsWith P (q ∷ rest) i = list.together front (q ∷ rest) p i line_is here later in
          let at : In q list.pages = subst (In q) (sym line_is) (in_back q front (p ∷ q ∷ rest) (inr (inl refl))) in
          let row = list.some_row q at in
          let here_rows : rows_of (P q) ≡ row.0 ∷ row.1 = ap rows_in row.2 in
          let first : row.0 ≡ next.0 = head_same row.0 next.0 (row.1 ++ rows_on P rest) next.1
          (sym (ap (λ (ws : List Row). ws ++ rows_on P rest) here_rows) ∙ next.2) in
          let on_p = page_of_row P (p ∷ []) here.0 here.1 in
          test here.0 row.0 row.1 (on_page on_p.0 on_p.1 on_p.2) here_rows
          (here.2 ∙ sym next.3 ∙ ap (λ (w : Row). w.item) (sym first))
        where
          head_same : (a b : Row) (xs ys : List Row) → a ∷ xs ≡ b ∷ ys → a ≡ b
          head_same a b xs ys f = cc

          on_page : (z : ℕ) → In z (p ∷ []) → In here.0 (rows_of (P z)) → In here.0 (rows_of (P p))
          on_page z (inl f) m = subst (λ (u : ℕ). In here.0 (rows_of (P u))) f m
          on_page z (inr n) m = absurd n

      apart : AreApart (noted_rows P ns x.line) (unread_rows P ns x.line)
      apart w v i n same =
          let a = noted_on P ns x.line w i in
          let on : In a.0 (front ++ p ∷ []) = subst (In a.0)
          (ap (λ (l : List ℕ). take (length ns) l) e ∙ read front (length ns) size) a.1 in
          let later : HasRowOn P (q ∷ rest) w.item = (
            v,
            subst (λ (l : List ℕ). In v (rows_on P l))
                (ap (λ (l : List ℕ). drop (length ns) l) e ∙ unread front (length ns) size) n,
            sym same,
          ) in
          let here = reach w.item p (q ∷ rest) later [] front a.0 line_is on
          (w, row_on_page P (a.0 ∷ []) a.0 w (inl refl) a.2, refl) in
          on_first w.item here later
