-- A record of a kind that changes no tree leaves the pages of trees, and makes none; so the main part stays.
use Rattle.std.proofs.Common.{◌≡◌, ◌≢◌, ◌⊎◌, ℕ, List, [], refl, sym, ap, subst, ◌∙◌, inl, inr}
use Rattle.ts_base.specs.Keys.{Key}
use Rattle.page_types.specs.Views.{entries_in, entries_of, posting_items_in}
use Rattle.page_types.specs.declared.page.Page.{Page}
use Rattle.page_types.specs.declared.page.Entry.{Entry}
use Rattle.page_types.specs.declared.page.Body.{Body}
use Rattle.page_types.specs.declared.page.Body.TheVariants as body
use Rattle.page_types.specs.declared.record.Record.{Record}
use Rattle.page_types.specs.declared.record.Kind.TheVariants as kind
use Rattle.core_state.specs.Log.{Pages, In, changed}
use Rattle.core_state.specs.Index.{children_in, Below, Under, Main}
use Rattle.core_state.specs.TreeRules.{IsRoot}
use Rattle.core_state.specs.Known.{use_in}
use Rattle.core_state.specs.Changes.{IsNew}
use Rattle.core_state.specs.Inner.PageKinds.{IsHeap, IsOverflow, IsPending, IsMeta, IsTree, IsDeleted, ChangesTrees}
use Rattle.core_state.specs.Inner.PageKinds.{IsChanged, Touched}
use Rattle.core_state.proofs.PageLists.{in_or_not}
use Rattle.core_state.proofs.LivePages.{new_was}

heap_no_tree : (b : Body) → IsHeap b → IsTree b → ⊥
heap_no_tree (body.Heap slots) is t = t
heap_no_tree _ is t = absurd is

overflow_no_tree : (b : Body) → IsOverflow b → IsTree b → ⊥
overflow_no_tree (body.Overflow bytes) is t = t
overflow_no_tree _ is t = absurd is

pending_no_tree : (b : Body) → IsPending b → IsTree b → ⊥
pending_no_tree (body.Pending rows) is t = t
pending_no_tree _ is t = absurd is

meta_no_tree : (b : Body) → IsMeta b → IsTree b → ⊥
meta_no_tree (body.Meta first last pages) is t = t
meta_no_tree _ is t = absurd is

deleted_no_tree : (b : Body) → IsDeleted b → IsTree b → ⊥
deleted_no_tree (body.Deleted gone) is t = t
deleted_no_tree _ is t = absurd is

new_no_tree : (P : Pages) (since q : ℕ) → IsNew (use_in P) since q → IsTree (P q).body → ⊥
new_no_tree P since q n t = elim (new_was P since q n) [
  | inl free ↦ subst IsTree free t
  | inr old ↦
      subst IsTree old.0.1 t
]

tree_or_not : (b : Body) → IsTree b ⊎ (IsTree b → ⊥)
tree_or_not (body.EntryLeaf high es) = inl tt
tree_or_not (body.EntryInner cs) = inl tt
tree_or_not (body.PostLeaf high is) = inl tt
tree_or_not (body.PostInner cs) = inl tt
tree_or_not _ = inr (λ t. t)

entries_none : (b : Body) → (IsTree b → ⊥) → entries_in b ≡ []
entries_none (body.EntryLeaf high es) off = absurd (off tt)
entries_none _ off = refl

children_none : (b : Body) → (IsTree b → ⊥) → children_in b ≡ []
children_none (body.EntryInner cs) off = absurd (off tt)
children_none (body.PostInner cs) off = absurd (off tt)
children_none _ off = refl

postings_none : (b : Body) → (IsTree b → ⊥) → posting_items_in b ≡ []
postings_none (body.PostLeaf high is) off = absurd (off tt)
postings_none _ off = refl

-- the pages show the same entries, children and postings
pub record SameTrees (P Q : Pages) : Type 0 where
  pub entries : (q : ℕ) → entries_of (Q q) ≡ entries_of (P q)
  pub children : (q : ℕ) → children_in (Q q).body ≡ children_in (P q).body
  pub postings : (q : ℕ) → posting_items_in (Q q).body ≡ posting_items_in (P q).body

pub same_back : (P Q : Pages) → SameTrees P Q → SameTrees Q P
same_back P Q s = record {
  entries = λ q. sym (s.entries q);
  children = λ q. sym (s.children q);
  postings = λ q. sym (s.postings q);
}

module _ (P Q : Pages) (s : SameTrees P Q) where
  pub below_same : (r q : ℕ) → Below P r q → Below Q r q
  below_same r q Below.root = Below.root
  below_same r q (Below.child {p} b i) = Below.child (below_same r p b) (subst (In q) (sym (s.children p)) i)

  under_same : (e : Entry) (i : ℕ) → Under P e i → Under Q e i
  under_same e i (Under.inline bytes f m) = Under.inline bytes f m
  under_same e i (Under.posted r q f b m) = Under.posted r q f (below_same r q b) (subst (In i) (sym (s.postings q)) m)

  pub main_same : (k : Key) (i : ℕ) → Main P k i → Main Q k i
  main_same k i m = record {
    page = m.page;
    entry = m.entry;
    on = subst (In m.entry) (sym (s.entries m.page)) m.on;
    key = m.key;
    under = under_same m.entry i m.under;
  }

  pub root_same : (root : ℕ) → IsRoot P root → IsRoot Q root
  root_same root IsRoot.of_entries = IsRoot.of_entries
  root_same root (IsRoot.of_postings k n) =
      IsRoot.of_postings k (record {
        page = n.page;
        entry = n.entry;
        on = subst (In n.entry) (sym (s.entries n.page))
            n.on;
        key = n.key;
        names = n.names;
      })

module _ (P Q : Pages) (r : Record) (since : ℕ) (touch : (p : ℕ) → In p (changed r) → Touched P Q r since p)
    (elsewhere : (q : ℕ) → (In q (changed r) → ⊥) → Q q ≡ P q) (quiet : ChangesTrees r.kind → ⊥)
    (later : r.kind ≢ kind.Create) where
  changed_no_tree : (q : ℕ) → IsChanged P Q r since q → (IsTree (P q).body → ⊥) × (IsTree (Q q).body → ⊥)
  changed_no_tree q (IsChanged.made k was is) = absurd (later k)
  changed_no_tree q (IsChanged.heads was is at) = (
    λ t. elim was [
      | inl h ↦ heap_no_tree (P q).body h t
      | inr n ↦
          new_no_tree P since q n t
    ],
    heap_no_tree (Q q).body is,
  )
  changed_no_tree q (IsChanged.chained new is) = (
    new_no_tree P since q new,
    λ t. elim is [
      | inl o ↦ overflow_no_tree (Q q).body o t
      | inr o ↦ pending_no_tree
          (Q q).body o.0 t
    ],
  )
  changed_no_tree q (IsChanged.grown new works is) = absurd (quiet works)
  changed_no_tree q (IsChanged.worked was works is) = absurd (quiet works)
  changed_no_tree q (IsChanged.meta was lists is) = (meta_no_tree (P q).body was, meta_no_tree (Q q).body is)
  changed_no_tree q (IsChanged.listed was on lists is) = (
    pending_no_tree (P q).body was,
    λ t. elim is [
      | inl o ↦ pending_no_tree (Q q).body o t
      | inr o ↦ deleted_no_tree
          (Q q).body o.0 t
    ],
  )
  changed_no_tree q (IsChanged.dropped first is) = (
    λ t. elim first.first [ inl o ↦ overflow_no_tree (P q).body o.0 t | inr o ↦ pending_no_tree (P q).body o.0 t ],
    deleted_no_tree (Q q).body is,
  )

  -- a page stays, or is of no tree before and after
  either : (q : ℕ) → (Q q ≡ P q) ⊎ ((IsTree (P q).body → ⊥) × (IsTree (Q q).body → ⊥))
  either q = elim (in_or_not q (changed r)) [
    | inl i ↦ inr (changed_no_tree q (touch q i).change)
    | inr off ↦
        inl (elsewhere q off)
  ]

  -- a page of a tree stays
  pub tree_stays : (q : ℕ) → IsTree (P q).body → Q q ≡ P q
  tree_stays q t = elim (either q) [ inl e ↦ e | inr n ↦ absurd (n.0 t) ]

  view_stays : {A : Type 0} (view : Body → List A) → ((b : Body) → (IsTree b → ⊥) → view b ≡ []) → (q : ℕ)
      → view (Q q).body ≡ view (P q).body
  view_stays view none q = elim (either q) [
    | inl e ↦ ap (λ (x : Page). view x.body) e
    | inr n ↦ none (Q q).body n.1
        ∙ sym (none (P q).body n.0)
  ]

  pub trees_stay : SameTrees P Q
  trees_stay = record {
    entries = view_stays entries_in entries_none;
    children = view_stays children_in children_none;
    postings = view_stays posting_items_in postings_none;
  }
