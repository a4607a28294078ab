-- The roots that the first entries of a leaf name.
use Rattle.std.proofs.Common.{◌≡◌, ◌≤◌, ◌+◌, ℕ, List, [], ◌∷◌, ◌++◌, length, take, refl, sym, ap, subst, ◌∙◌}
use Rattle.std.proofs.Common.{inl, inr, arith, length-append, Some}
use Rattle.std.proofs.lemmas.List.{take_all}
use Rattle.std.specs.List.{slice_get}
use Rattle.page_types.specs.declared.page.Entry.{Entry}
use Rattle.page_types.specs.declared.page.Postings.TheVariants.{Root}
use Rattle.page_types.specs.Parts.{postings_shown}
use Rattle.page_types.specs.declared.entries.PostingsRef.{PostingsRef}
use Rattle.page_types.specs.declared.entries.PostingsRef.TheVariants as by_ref
use Rattle.page_types.proofs.Cutting.{take_get}
use Rattle.core_state.proofs.PageLists.{in_front, in_back, in_either}
use Rattle.gin_vacuum.specs.Inner.Reading.{AreRoots}

-- what is shown as a root is one
pub shown_root : (p : PostingsRef) (root : ℕ) → postings_shown p ≡ Root root → p ≡ by_ref.Root root
shown_root (by_ref.Inline items) root e = absurd (let z : ⊥ = cc in z)
shown_root (by_ref.Root r) root e = let same : r ≡ root = cc in ap by_ref.Root same

pub roots_none : (es : List Entry) → AreRoots (take 0 es) []
roots_none es = record { all = λ e root i is. absurd i; named = λ root i. absurd i; few = omega arith }

-- one entry more, which names a tree, or has a list
more_root : (es : List Entry) (roots : List ℕ) (e : Entry) (root : ℕ) → AreRoots es roots → e.postings ≡ Root root
    → AreRoots (es ++ e ∷ []) (roots ++ root ∷ [])
more_root es roots e root a is = record {
  all = λ d r i names. elim (in_either d es (e ∷ []) i) [
    | inl j ↦ in_front r roots (root ∷ []) (a.all d r j names)
    | inr j ↦ elim j [
      | inl same ↦
          let two : Root root ≡ Root r = sym is ∙ ap (λ (x : Entry). x.postings) (sym same) ∙ names in
          in_back r roots (root ∷ []) (inl (let z : r ≡ root = cc in z))
      | inr none ↦ absurd none
    ]
  ];
  named = λ r i. elim (in_either r roots (root ∷ []) i) [
    | inl j ↦ let n = a.named r j in (n.0, in_front n.0 es (e ∷ []) n.1, n.2)
    | inr j ↦ elim j [
      | inl same ↦ (e, in_back e es (e ∷ []) (inl refl), is ∙ ap Root (sym same))
      | inr none ↦ absurd none
    ]
  ];
  few = omega (arith, a.few, length-append roots (root ∷ []), length-append es (e ∷ []));
}

more_list : (es : List Entry) (roots : List ℕ) (e : Entry) → AreRoots es roots
    → ((root : ℕ) → e.postings ≡ Root root → ⊥) → AreRoots (es ++ e ∷ []) roots
more_list es roots e a not = record {
  all = λ d r i names. elim (in_either d es (e ∷ []) i) [
    | inl j ↦ a.all d r j names
    | inr j ↦ elim j [
      | inl same ↦ absurd (not r (ap (λ (x : Entry). x.postings) (sym same) ∙ names))
      | inr none ↦ absurd none
    ]
  ];
  named = λ r i. let n = a.named r i in (n.0, in_front n.0 es (e ∷ []) n.1, n.2);
  few = omega (arith, a.few, length-append es (e ∷ []));
}

pub roots_more : (es : List Entry) (k : ℕ) (roots more : List ℕ) (e : Entry) (root : ℕ) → AreRoots (take k es) roots
    → slice_get es k ≡ Some e → e.postings ≡ Root root → more ≡ roots ++ root ∷ [] → AreRoots (take (k + 1) es) more
roots_more es k roots more e root a at is made =
    subst (λ (ds : List Entry). AreRoots ds more) (sym (take_get es k e at))
    (subst (AreRoots (take k es ++ e ∷ [])) (sym made) (more_root (take k es) roots e root a is))

pub roots_same : (es : List Entry) (k : ℕ) (roots : List ℕ) (e : Entry) → AreRoots (take k es) roots
    → slice_get es k ≡ Some e → ((root : ℕ) → e.postings ≡ Root root → ⊥) → AreRoots (take (k + 1) es) roots
roots_same es k roots e a at not =
    subst (λ (ds : List Entry). AreRoots ds roots) (sym (take_get es k e at)) (more_list (take k es) roots e a not)

pub roots_all : (es : List Entry) (k : ℕ) (roots : List ℕ) → length es ≤ k → AreRoots (take k es) roots
    → AreRoots es roots
roots_all es k roots le a = subst (λ (ds : List Entry). AreRoots ds roots) (take_all k es le) a
