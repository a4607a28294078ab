-- A batch of which nothing waits: its first page may be shifted, and what stays is such a batch.
use Rattle.std.proofs.Common.{◌≡◌, ◌≤◌, ℕ, zero, suc, List, [], ◌∷◌, ◌++◌, length, take, drop, refl, sym, ap, ap₂}
use Rattle.std.proofs.Common.{subst, ◌∙◌, inl, inr, arith}
use Rattle.std.proofs.lemmas.List.{take_all}
use Rattle.ts_base.specs.Keys.{Key}
use Rattle.page_types.specs.Views.{rows_of}
use Rattle.page_types.specs.declared.page.Page.{Page}
use Rattle.page_types.specs.declared.page.Row.{Row}
use Rattle.core_state.specs.Log.{Log, Pages, In}
use Rattle.core_state.specs.Index.{Main, Pending, rows_on}
use Rattle.core_state.specs.PagesTold.{ListStands}
use Rattle.core_state.proofs.PageLists.{in_front, in_back}
use Rattle.core_state.proofs.Histories.{chain_one}
use Rattle.core_maintenance.specs.MovingSteps.{IsAllMain}
use Rattle.core_maintenance.specs.Keeping.{ShiftKeeps}
use Rattle.gin_cleanup.specs.Gathering.{noted_rows, past_rows, IsCount, AreCounted}
use Rattle.gin_cleanup.specs.Gathering.{Wait, IsBatch}
use Rattle.gin_cleanup.proofs.RowLists.{in_take, in_drop, noted_on, row_is}

module _ (R : Log) (P : Pages) (list : ListStands R P) (left : ℕ) (ns : List ℕ) (b : IsBatch P left ns []) where
  abbrev line : List ℕ
  line = b.gathered.line

  -- a pending pair of an item with a noted row is in the main part
  in_main : (w : Row) → In w (noted_rows P ns line) → (k : Key) → Pending P k w.item → Main P k w.item
  in_main w i k p =
      let on : In p.linked.page line = subst (In p.linked.page)
      (chain_one P _ p.linked.line line p.linked.is_line b.gathered.is_line) p.linked.on in
      elim (row_is P ns line p.linked.page p.row on p.linked.there) [
        | inl noted ↦ elim (b.gathered.pairs p.row noted k p.key) [
          | inl main ↦ subst (Main P k) p.item main
          | inr none ↦ absurd none
        ]
        | inr (inl past) ↦ absurd (b.gathered.past w p.row i past (sym p.item))
        | inr (inr unread) ↦ absurd (b.apart w p.row i unread (sym p.item))
      ]

  -- so the item's document has all its keys there
  pub all_main : (w : Row) → In w (noted_rows P ns line) → IsAllMain P w.item
  all_main w i =
      let a = noted_on P ns line w i in
      let d = list.indexed w.item (record {
        row = w;
        linked = record {
          line = line;
          is_line = b.gathered.is_line;
          page = a.0;
          on = in_take (length ns) a.0 line a.1;
          there = a.2;
        };
        item = refl;
      }) in (
        d.0,
        d.2.vector,
        d.1,
        d.2.whole,
        elim d.2.there [
          | inr main ↦ λ k m. subst (Main P k) d.1 (main k m)
          | inl pending ↦ λ k m. in_main w i k (subst (Pending P k) d.1 (pending k m))
        ],
      )

-- the first page, where it has no more rows than were noted
pub ready : (R : Log) (P : Pages) → ListStands R P → (left n q : ℕ) (ns rest : List ℕ)
    (b : IsBatch P left (n ∷ ns) []) → b.gathered.line ≡ q ∷ rest → length (rows_of (P q)) ≤ n
    → (w : Row) → In w (rows_of (P q)) → IsAllMain P w.item
ready R P list left n q ns rest b e all w i =
    all_main R P list left (n ∷ ns) b w (subst (λ (l : List ℕ). In w (noted_rows P (n ∷ ns) l)) (sym e)
    (in_front w (take n (rows_of (P q))) (noted_rows P ns rest)
    (subst (In w) (sym (take_all n (rows_of (P q)) all)) i)))

-- the rows on pages that are the same
same_on : (P Q : Pages) (qs : List ℕ) → ((q : ℕ) → In q qs → Q q ≡ P q) → rows_on Q qs ≡ rows_on P qs
same_on P Q [] same = refl
same_on P Q (q ∷ qs) same = ap₂ (λ (us vs : List Row). us ++ vs) (ap rows_of (same q (inl refl)))
    (same_on P Q qs (λ p i. same p (inr i)))

same_noted : (P Q : Pages) (ns qs : List ℕ) → ((q : ℕ) → In q qs → Q q ≡ P q) → noted_rows Q ns qs ≡ noted_rows P ns qs
same_noted P Q [] qs same = refl
same_noted P Q (n ∷ ns) [] same = refl
same_noted P Q (n ∷ ns) (q ∷ qs) same = ap₂ (λ (us vs : List Row). us ++ vs)
    (ap (λ (c : Page). take n (rows_of c)) (same q (inl refl)))
    (same_noted P Q ns qs (λ p i. same p (inr i)))

same_past : (P Q : Pages) (ns qs : List ℕ) → ((q : ℕ) → In q qs → Q q ≡ P q) → past_rows Q ns qs ≡ past_rows P ns qs
same_past P Q [] qs same = refl
same_past P Q (n ∷ ns) [] same = refl
same_past P Q (n ∷ ns) (q ∷ qs) same = ap₂ (λ (us vs : List Row). us ++ vs)
    (ap (λ (c : Page). drop n (rows_of c)) (same q (inl refl)))
    (same_past P Q ns qs (λ p i. same p (inr i)))

same_count : (P Q : Pages) (left n q : ℕ) → Q q ≡ P q → IsCount P left n q → IsCount Q left n q
same_count P Q zero n q e c = c
same_count P Q (suc zero) n q e c = subst (λ (ws : List Row). n ≤ length ws) (sym (ap rows_of e)) c
same_count P Q (suc (suc left)) n q e c = c ∙ sym (ap (λ (ws : List Row). length ws) (ap rows_of e))

same_counted : (P Q : Pages) (left : ℕ) (ns qs : List ℕ) → ((q : ℕ) → In q qs → Q q ≡ P q) → AreCounted P left ns qs
    → AreCounted Q left ns qs
same_counted P Q left [] qs same c = tt
same_counted P Q left (n ∷ ns) [] same c = absurd c
same_counted P Q zero (n ∷ ns) (q ∷ qs) same c = absurd c
same_counted P Q (suc left) (n ∷ ns) (q ∷ qs) same c =
    (same_count P Q (suc left) n q (same q (inl refl)) c.0, same_counted P Q left ns qs (λ p i. same p (inr i)) c.1)

-- what stays once the first page is shifted
pub shifted : (P Q : Pages) (left n : ℕ) (ns : List ℕ) (W : List Wait) → IsBatch P (suc left) (n ∷ ns) W
    → ShiftKeeps P Q → IsBatch Q left ns W
shifted P Q left n ns W b s =
    let x = b.gathered in
    let e : x.line ≡ s.page ∷ s.rest = chain_one P _ x.line (s.page ∷ s.rest) x.is_line s.line in
    let counted = subst (AreCounted P (suc left) (n ∷ ns)) e x.counted in
    let same_part : (k : ℕ) (q : ℕ) → In q (take k s.rest) → Q q ≡ P q = λ k q i. s.same q (in_take k q s.rest i) in
    let same_rest : (k : ℕ) (q : ℕ) → In q (drop k s.rest) → Q q ≡ P q = λ k q i. s.same q (in_drop k q s.rest i) in
    let noted : (w : Row) → In w (noted_rows Q ns s.rest) → In w (noted_rows P (n ∷ ns) x.line) = λ w i.
    subst (λ (l : List ℕ). In w (noted_rows P (n ∷ ns) l)) (sym e)
    (in_back w (take n (rows_of (P s.page))) (noted_rows P ns s.rest)
    (subst (In w) (same_noted P Q ns s.rest s.same) i)) in
    record {
      gathered = record {
        line = s.rest;
        is_line = s.line_then;
        enough = omega (arith, x.enough, ap length e);
        whole = λ w v i j. x.whole w v
            (subst (λ (l : List ℕ). In w (rows_on P (take (suc left) l))) (sym e)
            (in_back w (rows_of (P s.page)) (rows_on P (take left s.rest))
            (subst (In w) (same_on P Q (take left s.rest) (same_part left)) i)))
            (subst (λ (l : List ℕ). In v (rows_on P (drop (suc left) l))) (sym e)
            (subst (In v) (same_on P Q (drop left s.rest) (same_rest left)) j));
        counted = same_counted P Q left ns s.rest s.same counted.1;
        pairs = λ w i k m. elim (x.pairs w (noted w i) k m)
            [ inl main ↦ inl ((s.main k w.item).0 main) | inr later ↦ inr later ];
        past = λ w v i j. x.past w v (noted w i)
            (subst (λ (l : List ℕ). In v (past_rows P (n ∷ ns) l)) (sym e)
            (in_back v (drop n (rows_of (P s.page))) (past_rows P ns s.rest)
            (subst (In v) (same_past P Q ns s.rest s.same) j)));
      };
      apart = λ w v i j. b.apart w v (noted w i)
          (subst (λ (l : List ℕ). In v (rows_on P (drop (suc (length ns)) l))) (sym e)
          (subst (In v) (same_on P Q (drop (length ns) s.rest) (same_rest (length ns))) j));
    }
