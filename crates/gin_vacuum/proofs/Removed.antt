-- The trees after a record by which items leave a leaf.
use Rattle.std.proofs.Common.{◌≡◌, ◌≢◌, ℕ, zero, suc, List, [], ◌∷◌, length, length-append, refl, sym, ap}
use Rattle.std.proofs.Common.{subst}
use Rattle.std.proofs.Common.{◌∙◌, inl, inr, arith}
use Rattle.std.specs.List.{Contains}
use Rattle.page_types.specs.Items.{items_of}
use Rattle.page_types.specs.declared.page.Page.{Page}
use Rattle.page_types.specs.declared.page.Entry.{Entry}
use Rattle.page_types.specs.declared.page.Body.{Body}
use Rattle.page_types.specs.declared.record.Record.{Record}
use Rattle.page_types.specs.declared.record.Kind.{Kind}
use Rattle.page_types.specs.declared.record.Kind.TheVariants as kind
use Rattle.core_state.specs.Log.{Log, Pages, In, Shows}
use Rattle.core_state.specs.Index.{Below}
use Rattle.core_state.specs.TreeRules.{IsRoot}
use Rattle.core_state.specs.Legal.{IsLegal}
use Rattle.core_state.specs.Allowed.{Sheet, View, Step, AreHeld, made_by, drawn_body}
use Rattle.core_state.specs.Steps.{sheet}
use Rattle.core_state.proofs.LawsHold.{pages}
use Rattle.core_state.proofs.Newest.{legal_less}
use Rattle.core_state.proofs.PageLists.{same_or_not}
use Rattle.core_vacuum.specs.Keeping.{IsVacuum, VacuumKeeps, VacuumHolds}
use Rattle.posting_code.specs.Uniting.{IsLeft}
use Rattle.entry_tree.specs.Adding.{list_entry, tree_entry}
use Rattle.posting_tree.specs.Removing.{IsEntryLeft, AreEntriesLeft, IsLeafLeft}
use Rattle.buffer_frames.specs.Passes.{IsLogged}
use Rattle.gin_vacuum.proofs.EntryPages.{leaf_below}
use Rattle.gin_vacuum.proofs.TreesStay.{EntryWas, Loses, PageStays, TreesStay, page_same, children_same}

pub in_list : (i : ℕ) (is : List ℕ) → Contains is i → In i is
in_list i [] c = absurd (omega (arith, c.1))
in_list i (j ∷ is) (zero, lt, e) = inl (sym e)
in_list i (j ∷ is) (suc k, lt, e) = inr (in_list i is (k, omega arith, e))

pub contained : (i : ℕ) (is : List ℕ) → In i is → Contains is i
contained i [] on = absurd on
contained i (j ∷ is) (inl e) = (zero, omega arith, sym e)
contained i (j ∷ is) (inr on) = let c = contained i is on in (suc c.0, omega (arith, c.1), c.2)

nothing : (xs : List ℕ) → length xs ≡ 0 → xs ≡ []
nothing [] e = refl
nothing (x ∷ xs) e = absurd (let z : ⊥ = omega (arith, e) in z)

module _ (gone : List ℕ) where
  left_list : (old new : List ℕ) → IsLeft old gone new → (i : ℕ) → In i (items_of new) → In i (items_of old)
  left_list old new l i on = in_list i (items_of old) ((l.has i).0 (contained i (items_of new) on)).0

  entry_was : (e f : Entry) → IsEntryLeft gone e f → (es : List Entry) → EntryWas (e ∷ es) f
  entry_was _ _ (IsEntryLeft.listed key old new l) es = record {
    listed = λ list i is on.
        let e : list ≡ new = cc in (
          list_entry key old,
          old,
          inl refl,
          refl,
          left_list old new l i (subst (λ (xs : List ℕ). In i (items_of xs)) e on),
        );
    named = λ root is. absurd (let z : ⊥ = cc in z);
  }
  entry_was _ _ (IsEntryLeft.tree key root) es = record {
    listed = λ list i is on. absurd (let z : ⊥ = cc in z);
    named = λ other is. (tree_entry key root, inl refl, is);
  }

  was_later : (e : Entry) (es : List Entry) (f : Entry) → EntryWas es f → EntryWas (e ∷ es) f
  was_later e es f w = record {
    listed = λ list i is on. let x = w.listed list i is on in (x.0, x.1, inr x.2, x.3, x.4);
    named = λ root is. let x = w.named root is in (x.0, inr x.1, x.2);
  }

  entries_were : (es fs : List Entry) → AreEntriesLeft gone es fs → (f : Entry) → In f fs → EntryWas es f
  entries_were [] [] a f i = absurd i
  entries_were [] (g ∷ fs) a f i = absurd a
  entries_were (e ∷ es) [] a f i = absurd i
  entries_were (e ∷ es) (g ∷ fs) a f (inl s) = subst (EntryWas (e ∷ es)) (sym s) (entry_was e g a.0 es)
  entries_were (e ∷ es) (g ∷ fs) a f (inr i) = was_later e es f (entries_were es fs a.1 f i)

  pub loses : (b c : Body) → IsLeafLeft gone b c → Loses b c
  loses _ _ (IsLeafLeft.entries high old new all) = Loses.entries high old new (entries_were old new all)
  loses _ _ (IsLeafLeft.postings high old new l) =
      Loses.postings high old new (left_list old new l)
      (λ e. nothing new (let z = l.short in let n = ap length e in omega (arith, z, n)))

-- the page has lost items, and each other one is the same
module _ (law : VacuumHolds) (R : Log) (r : Record) (P Q : Pages) (some : R ≢ []) (legal : IsLegal (r ∷ R))
    (shown : Shows R P) (shown' : Shows (r ∷ R) Q) (is : r.kind ≡ kind.RemoveItems) (page : ℕ)
    (there : PageStays (P page) (Q page)) (elsewhere : (q : ℕ) → q ≢ page → Q q ≡ P q) where
  each : (q : ℕ) → PageStays (P q) (Q q)
  each q = elim (same_or_not page q) [
    | inl e ↦ subst (λ (n : ℕ). PageStays (P n) (Q n)) (sym e) there
    | inr off ↦ page_same (P q) (Q q) (elsewhere q off)
  ]

  below_back : (root q : ℕ) → Below Q root q → Below P root q
  below_back root _ Below.root = Below.root
  below_back root q (Below.child {p = p} b i) =
      Below.child (below_back root p b) (subst (In q) (children_same (P p).body (Q p).body (each p).loses) i)

  pub keeps : VacuumKeeps R r P Q
  keeps = law R r P Q some legal shown shown' (subst IsVacuum (sym is) (omega arith, omega arith))

  root_back : (root : ℕ) → IsRoot Q root → IsRoot P root
  root_back _ IsRoot.of_entries = IsRoot.of_entries
  root_back root (IsRoot.of_postings k n) = IsRoot.of_postings k ((keeps.names k root).1 n)

  pub trees_removed : TreesStay P Q
  trees_removed = record {
    main = keeps.no_pair;
    page = λ root p on b. each p;
    more = λ root p on b. (root_back root on, below_back root p b);
    below = leaf_below R P (pages R P (legal_less r R legal) shown) some;
    below_then = leaf_below (r ∷ R) Q (pages (r ∷ R) Q legal shown') (λ e. cc);
    named = λ k root. (keeps.names k root).0;
  }

abbrev step_of : ℕ → Page → Step
step_of page new = record { kind = kind.RemoveItems; xid = 0; after = sheet page new ∷ [] }

-- so it is once the step is logged by a session that holds the page
module _ (law : VacuumHolds) (gone : List ℕ) (v : View) (held : Sheet) (holds : v.held ≡ held ∷ []) (new : Page)
    (S : Log)
    (Q : Pages) (l : IsLogged v (step_of held.page new) S Q) (legal : IsLegal S) (shown : Shows S Q)
    (some : v.seen ≢ []) (left : IsLeafLeft gone held.content.body new.body)
    (same : new ≡ record held.content { body = new.body }) where
  abbrev P : Pages
  P = l.allowed.pages

  kind_is : l.newest.kind ≡ kind.RemoveItems
  kind_is = l.drawn.kind

  pub was : P held.page ≡ held.content
  was = (subst (AreHeld P) holds l.allowed.held).0

  made : Q held.page ≡ made_by l.newest new
  made = l.leaves.here.0

  pub body_then : (Q held.page).body ≡ new.body
  body_then = ap (λ (c : Page). c.body) made ∙ ap (λ (k : Kind). drawn_body k new.body) kind_is

  pub right_then : (Q held.page).right ≡ held.content.right
  right_then = ap (λ (c : Page). c.right) made ∙ ap (λ (c : Page). c.right) same

  there : PageStays (P held.page) (Q held.page)
  there = record {
    right = right_then ∙ sym (ap (λ (c : Page). c.right) was);
    loses = subst (λ (b : Body). Loses b (Q held.page).body) (sym (ap (λ (c : Page). c.body) was))
        (subst (Loses held.content.body) (sym body_then) (loses gone held.content.body new.body left));
  }

  some_log : l.log ≢ []
  some_log none =
      some (empty v.seen (omega
      (arith, ap length none, ap length l.allowed.goes_on, length-append l.allowed.later v.seen)))
    where
      empty : (T : Log) → length T ≡ 0 → T ≡ []
      empty [] e = refl
      empty (r ∷ T) e = absurd (let z : ⊥ = omega (arith, e) in z)

  pub trees_logged : TreesStay P Q
  trees_logged =
      trees_removed law l.log l.newest P Q some_log (subst IsLegal l.log_is legal) l.allowed.shown
      (subst (λ (T : Log). Shows T Q) l.log_is shown) kind_is held.page there
      (λ q off. l.leaves.elsewhere q (λ i. elim i [ inl e ↦ off e | inr none ↦ none ]))

  pub logged_keeps : VacuumKeeps l.log l.newest P Q
  logged_keeps =
      keeps law l.log l.newest P Q some_log (subst IsLegal l.log_is legal) l.allowed.shown
      (subst (λ (T : Log). Shows T Q) l.log_is shown) kind_is held.page there
      (λ q off. l.leaves.elsewhere q (λ i. elim i [ inl e ↦ off e | inr none ↦ none ]))
