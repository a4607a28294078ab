-- The pending list loses its first page by a Shift, and nothing else changes.
use Rattle.std.proofs.Common.{◌≡◌, ◌≢◌, ◌⊎◌, ℕ, suc, List, [], ◌∷◌, length, refl, sym, ap, subst, subst₂, ◌∙◌, inl, inr}
use Rattle.std.proofs.Common.{arith}
use Rattle.page_types.specs.Views.{slots_in, slot_at, rows_of, entries_in, first_of, first_in, posting_items_in}
use Rattle.page_types.specs.declared.page.Page.{Page}
use Rattle.page_types.specs.declared.page.Head.{Head}
use Rattle.page_types.specs.declared.page.Row.{Row}
use Rattle.page_types.specs.declared.page.Body.{Body}
use Rattle.page_types.specs.declared.page.Body.TheVariants as body
use Rattle.page_types.specs.declared.page.Gone.{Gone}
use Rattle.page_types.specs.declared.page.Gone.TheVariants as gone
use Rattle.page_types.specs.declared.record.Record.{Record}
use Rattle.page_types.specs.declared.record.Kind.TheVariants as kind
use Rattle.std.specs.Prelude.{Option}
use Rattle.core_state.specs.Log.{Log, Pages, In, changed}
use Rattle.core_state.specs.Documents.{IsChain, page_of, slot_of}
use Rattle.core_state.specs.Index.{IsLinked, Below, children_in}
use Rattle.core_state.specs.PendingRules.{IsShift}
use Rattle.core_state.specs.TreeRules.{IsRoot}
use Rattle.core_state.specs.Bullets.PagePlace.{entry_tree, posting_tree}
use Rattle.core_state.specs.PagesTold.{IsOfPlace, PagesTold}
use Rattle.core_state.specs.Inner.PageKinds.{IsTree}
use Rattle.core_state.proofs.Showing.{shown_one, others_stay}
use Rattle.core_state.proofs.Newest.{legal_less}
use Rattle.core_state.proofs.RulesByKind.{kind_rule}
use Rattle.core_state.proofs.PageLists.{same_or_not, two_pages}
use Rattle.core_state.proofs.Histories.{chain_one}
use Rattle.core_state.proofs.Chains.{chain_kept, chain_behind, first_once}
use Rattle.core_state.proofs.KeptTrees.{SameTrees, same_back, below_same, main_same, root_same}
use Rattle.core_state.proofs.LawsHold.{pages}
use Rattle.core_maintenance.specs.Keeping.{ShiftKeeps, ShiftHolds}

same_count : (a b c d e f : ℕ) → body.Meta a b c ≡ body.Meta d e f → c ≡ f
same_count a b c d e f m = cc

entry_is : (b : Body) → IsOfPlace entry_tree b → IsTree b
entry_is b (inl x) = subst IsTree (sym x.2) tt
entry_is b (inr x) = subst IsTree (sym x.1) tt

post_is : (root : ℕ) (b : Body) → IsOfPlace (posting_tree root) b → IsTree b
post_is root b (inl x) = subst IsTree (sym x.2) tt
post_is root b (inr x) = subst IsTree (sym x.1) tt

-- what is below a root is a page of a tree
tree_page : (R : Log) (P : Pages) → PagesTold R P → R ≢ [] → (root p : ℕ) → IsRoot P root → Below P root p
    → IsTree (P p).body
tree_page R P told some root p is below = elim (same_or_not 1 root) [
  | inl e ↦ entry_is (P p).body (told.kinds.kinds some p entry_tree (subst (λ (z : ℕ). Below P z p) e below))
  | inr off ↦ post_is root (P p).body (told.kinds.kinds some p (posting_tree root) (is, off, below))
]

-- a list of pages with one at least begins with its first
first_page : (P : Pages) (p count : ℕ) (qs : List ℕ) → IsChain P p qs → length qs ≡ suc count
    → (rest : List ℕ) × IsChain P p (p ∷ rest)
first_page P p count [] c e = absurd (omega (arith, e))
first_page P p count (q ∷ rest) c e = (rest, subst (λ (z : ℕ). IsChain P p (z ∷ rest)) (sym c.0) c)

module _ (R : Log) (P Q : Pages) (r : Record) (told : PagesTold R P) (some : R ≢ []) (x : IsShift R P Q r)
    (elsewhere : (q : ℕ) → (In q (changed r) → ⊥) → Q q ≡ P q) where
  abbrev page : ℕ
  page = x.here.page

  was : (P 0 ≡ x.here.meta) × (P page ≡ x.here.old)
  was = two_pages P (changed r) 0 page x.here.meta x.here.old x.here.pages x.here.before_is

  meta_was : (P 0).body ≡ body.Meta page x.here.last (suc x.here.count)
  meta_was = ap (λ (p : Page). p.body) was.0 ∙ x.here.first

  page_was : (P page).body ≡ body.Pending x.here.rows
  page_was = ap (λ (p : Page). p.body) was.1 ∙ x.here.was

  meta_now : (Q 0).body ≡ body.Meta x.here.old.right x.here.new_last x.here.count
  meta_now = ap (λ (p : Page). p.body) (two_pages Q (changed r) 0 page _ _ x.here.pages x.here.after_is).0

  page_now : (Q page).body ≡ body.Deleted (gone.Pending x.here.rows)
  page_now = ap (λ (p : Page). p.body) (two_pages Q (changed r) 0 page _ _ x.here.pages x.here.after_is).1

  others : (q : ℕ) → q ≢ 0 → q ≢ page → Q q ≡ P q
  others q m k = elsewhere q
      (λ i. elim (subst (In q) x.here.pages i) [ inl e ↦ m e | inr (inl e) ↦ k e | inr (inr z) ↦ z ])

  -- neither page has anything to be seen by such a view
  module _ {A : Type 0} (view : Body → List A) (meta : (a b c : ℕ) → view (body.Meta a b c) ≡ [])
      (pending : (ws : List Row) → view (body.Pending ws) ≡ [])
      (deleted : (g : Gone) → view (body.Deleted g) ≡ []) where
    view_same : (q : ℕ) → view (Q q).body ≡ view (P q).body
    view_same q = elim (same_or_not 0 q) [
      | inl e ↦ subst (λ (z : ℕ). view (Q z).body ≡ view (P z).body) (sym e)
          (ap view meta_now ∙ meta _ _ _ ∙ sym (ap view meta_was ∙ meta _ _ _))
      | inr off ↦ elim (same_or_not page q) [
        | inl e ↦ subst (λ (z : ℕ). view (Q z).body ≡ view (P z).body) (sym e)
            (ap view page_now ∙ deleted _ ∙ sym (ap view page_was ∙ pending _))
        | inr away ↦ ap (λ (p : Page). view p.body) (others q off away)
      ]
    ]

  trees : SameTrees P Q
  trees = record {
    entries = view_same entries_in (λ a b c. refl) (λ ws. refl) (λ g. refl);
    children = view_same children_in (λ a b c. refl) (λ ws. refl) (λ g. refl);
    postings = view_same posting_items_in (λ a b c. refl) (λ ws. refl) (λ g. refl);
  }

  back : SameTrees Q P
  back = same_back P Q trees

  not_tree : (p q : ℕ) (b : Body) → (P q).body ≡ b → (IsTree b → ⊥) → IsTree (P p).body → p ≢ q
  not_tree p q b is off tree e = off (subst IsTree (ap (λ (z : ℕ). (P z).body) e ∙ is) tree)

  tree_stays : (root p : ℕ) → IsRoot P root → Below P root p → Q p ≡ P p
  tree_stays root p is below =
      let tree = tree_page R P told some root p is below in
      others p (not_tree p 0 _ meta_was (λ t. t) tree) (not_tree p page _ page_was (λ t. t) tree)

  -- the list, and what is left of it
  list : (rest : List ℕ) × IsChain P page (page ∷ rest)
  list =
      let begins : first_of (P 0) ≡ page = ap first_in meta_was in
      let m = told.list.meta some in
      first_page P page x.here.count told.list.pages
      (subst (λ (z : ℕ). IsChain P z told.list.pages) begins told.list.is_line)
      (same_count _ _ _ _ _ _ (sym m.2 ∙ meta_was))

  abbrev rest : List ℕ
  rest = list.0

  rest_same : (q : ℕ) → In q rest → Q q ≡ P q
  rest_same q i = others q (chain_behind P q page (page ∷ rest) list.1 (inr i)).is_chain.1
      (λ e. first_once P page rest list.1 (subst (λ (z : ℕ). In z rest) e i))

  line_then : IsChain Q (first_of (Q 0)) rest
  line_then =
      let next : (P page).right ≡ first_of (Q 0) = ap (λ (p : Page). p.right) was.1 ∙ sym (ap first_in meta_now) in
      subst (λ (z : ℕ). IsChain Q z rest) next
      (chain_kept P Q (P page).right rest (λ q i. ap (λ (p : Page). p.right) (rest_same q i)) list.1.2)

  line : IsChain P (first_of (P 0)) (page ∷ rest)
  line = subst (λ (z : ℕ). IsChain P z (page ∷ rest)) (sym (ap first_in meta_was)) list.1

  rows_stay : (w : Row) → IsLinked P w → IsLinked Q w ⊎ In w (rows_of (P page))
  rows_stay w k = elim (subst (In k.page) (chain_one P _ k.line (page ∷ rest) k.is_line line) k.on) [
    | inl e ↦ inr (subst (λ (z : ℕ). In w (rows_of (P z))) e k.there)
    | inr i ↦ inl (record {
      line = rest;
      is_line = line_then;
      page = k.page;
      on = i;
      there = subst (λ (p : Page). In w (rows_of p)) (sym (rest_same k.page i)) k.there;
    })
  ]

  no_more : (w : Row) → IsLinked Q w → IsLinked P w
  no_more w k =
      let i = subst (In k.page) (chain_one Q _ k.line rest k.is_line line_then) k.on in
      record {
        line = page ∷ rest;
        is_line = line;
        page = k.page;
        on = inr i;
        there = subst (λ (p : Page). In w (rows_of p)) (rest_same k.page i) k.there;
      }

  shift_keeps : ShiftKeeps P Q
  shift_keeps = record {
    page = page;
    rest = rest;
    line = line;
    line_then = line_then;
    same = rest_same;
    rows = rows_stay;
    no_more = no_more;
    heads = λ i. ap (λ (hs : List (Option Head)). slot_at hs (slot_of i))
        (view_same slots_in (λ a b c. refl) (λ ws. refl) (λ g. refl) (page_of i));
    main = λ k i. (main_same P Q trees k i, main_same Q P back k i);
    trees = record {
      pages = tree_stays;
      no_more = λ root p is below. (root_same Q P back root is, below_same Q P back root p below);
    };
  }

pub shift_holds : ShiftHolds
shift_holds R r P Q legal shown shown' e =
    let u = legal.valid.1 in
    let some : R ≢ [] = elim u.started [
      | inl make ↦ let f : kind.Create ≡ kind.Shift = sym make ∙ e in absurd (cc)
      | inr more ↦ more
    ] in
    let x : IsShift R u.before u.after r = kind_rule R u.before u.after r _ _ kind.Shift e u.rule in
    subst₂ ShiftKeeps (shown_one R u.before P u.shown shown) (shown_one (r ∷ R) u.after Q u.shown_after shown')
    (shift_keeps R u.before u.after r (pages R u.before (legal_less r R legal) u.shown) some x
    (λ q off. others_stay R r u.before u.after u.shown u.shown_after q off))
