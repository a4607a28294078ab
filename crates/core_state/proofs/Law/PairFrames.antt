-- Where the pairs of the main part go, by what pages show of entries, children and items.
use Rattle.std.proofs.Common.{◌≡◌, ◌⊎◌, ℕ, List, sym, subst, ◌∙◌, inl, inr}
use Rattle.ts_base.specs.Keys.{Key}
use Rattle.page_types.specs.Items.{items_of}
use Rattle.page_types.specs.Views.{entries_of, posting_items_in}
use Rattle.page_types.specs.declared.page.Entry.{Entry}
use Rattle.page_types.specs.declared.page.Postings.TheVariants.{Inline, Root}
use Rattle.core_state.specs.Log.{Pages, In}
use Rattle.core_state.specs.Index.{children_in, Below, Under, Main}

same_list : (a b : List ℕ) → Inline a ≡ Inline b → a ≡ b
same_list a b e = cc

inline_root : (a : List ℕ) (r : ℕ) → Inline a ≡ Root r → ⊥
inline_root a r e = cc

module _ (P Q : Pages) (Lost : ℕ → Type 0) where
  -- an entry stays, or loses items of its list
  pub data EntryGoes (e : Entry) : Type 0 where
    same : (q : ℕ) (f : Entry) → In f (entries_of (Q q)) → f.key ≡ e.key → f.postings ≡ e.postings → EntryGoes e
    less : (q : ℕ) (f : Entry) (a c : List ℕ) → In f (entries_of (Q q)) → f.key ≡ e.key → e.postings ≡ Inline a
        → f.postings ≡ Inline c → ((i : ℕ) → In i (items_of a) → In i (items_of c) ⊎ Lost i)
        → EntryGoes e

  pub record PairsGo : Type 0 where
    pub entries : (q : ℕ) (e : Entry) → In e (entries_of (P q)) → EntryGoes e
    pub children : (p q : ℕ) → In q (children_in (P p).body) → In q (children_in (Q p).body)
    pub items : (q i : ℕ) → In i (posting_items_in (P q).body) → In i (posting_items_in (Q q).body) ⊎ Lost i

  module _ (v : PairsGo) where
    below_goes : (r q : ℕ) → Below P r q → Below Q r q
    below_goes r q Below.root = Below.root
    below_goes r q (Below.child {p} b i) = Below.child (below_goes r p b) (v.children p q i)

    pub main_goes : (k : Key) (i : ℕ) → Main P k i → Main Q k i ⊎ Lost i
    main_goes k i m = go m.under (v.entries m.page m.entry m.on)
      where
        go : Under P m.entry i → EntryGoes m.entry → Main Q k i ⊎ Lost i
        go (Under.inline bytes is there) (EntryGoes.same q f on key alike) = inl (record {
          page = q;
          entry = f;
          on = on;
          key = key ∙ m.key;
          under = Under.inline bytes (alike ∙ is) there;
        })
        go (Under.inline bytes is there) (EntryGoes.less q f a c on key ea fc all) =
            elim (all i (subst (λ (b : List ℕ). In i (items_of b)) (same_list bytes a (sym is ∙ ea)) there)) [
              | inr lost ↦ inr lost
              | inl stays ↦ inl (record
                  { page = q; entry = f; on = on; key = key ∙ m.key; under = Under.inline c fc stays })
            ]
        go (Under.posted r p is b there) (EntryGoes.same q f on key alike) = elim (v.items p i there) [
          | inr lost ↦ inr lost
          | inl stays ↦ inl (record {
            page = q;
            entry = f;
            on = on;
            key = key ∙ m.key;
            under = Under.posted r p (alike ∙ is) (below_goes r p b) stays;
          })
        ]
        go (Under.posted r p is b there) (EntryGoes.less q f a c on key ea fc all) =
            absurd (inline_root a r (sym ea ∙ is))
