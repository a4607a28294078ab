-- Chains after a change of their first pages.
use Rattle.std.proofs.Common.{◌≡◌, ◌≢◌, ◌⊎◌, ◌<◌, ℕ, suc, List, [], ◌∷◌, ◌++◌, length, refl, sym, ap, subst, ◌∙◌, inl}
use Rattle.std.proofs.Common.{inr, arith}
use Rattle.std.specs.Prelude.{◌↔◌, Some, None}
use Rattle.page_types.specs.declared.page.Page.{Page}
use Rattle.page_types.specs.declared.page.Head.{Head}
use Rattle.core_state.specs.Log.{Pages, In}
use Rattle.core_state.specs.Documents.{IsChain, parts, head_of}
use Rattle.core_state.specs.Inner.ItemChains.{ChainOf, Chains}
use Rattle.core_state.proofs.Histories.{chain_one}
use Rattle.core_state.proofs.PageLists.{same_or_not}
use Rattle.page_types.specs.Views.{part_of}

-- a chain whose pages keep their right links
pub chain_kept : (P Q : Pages) (p : ℕ) (qs : List ℕ) → ((q : ℕ) → In q qs → (Q q).right ≡ (P q).right) → IsChain P p qs
    → IsChain Q p qs
chain_kept P Q p [] same c = c
chain_kept P Q p (q ∷ qs) same c = (
  c.0,
  c.1,
  subst (λ (z : ℕ). IsChain Q z qs) (sym (same q (inl refl)))
      (chain_kept P Q (P q).right qs (λ z i. same z (inr i)) c.2),
)

-- the parts on pages that stay
pub parts_kept : (P Q : Pages) (qs : List ℕ) → ((q : ℕ) → In q qs → Q q ≡ P q) → parts Q qs ≡ parts P qs
parts_kept P Q [] same = refl
parts_kept P Q (q ∷ qs) same =
    ap (λ (x : Page). part_of x ++ parts Q qs) (same q (inl refl)) ∙ ap (λ (l : List ℕ). part_of (P q) ++ l)
    (parts_kept P Q qs (λ z i. same z (inr i)))

-- the chain after one of its pages
pub record Rest (P : Pages) (p : ℕ) (qs : List ℕ) : Type 0 where
  pub back : List ℕ
  pub is_chain : IsChain P p (p ∷ back)
  pub shorter : length back < length qs

pub chain_behind : (P : Pages) (p a : ℕ) (qs : List ℕ) → IsChain P a qs → In p qs → Rest P p qs
chain_behind P p a [] c i = absurd i
chain_behind P p a (q ∷ qs) c (inl e) = record {
  back = qs;
  is_chain = (
    refl,
    (λ z. c.1 (sym e ∙ z)),
    subst (λ (z : ℕ). IsChain P (P z).right qs) (sym e) c.2,
  );
  shorter = omega arith;
}
chain_behind P p a (q ∷ qs) c (inr i) = let r = chain_behind P p (P q).right qs c.2 i in record {
  back = r.back;
  is_chain = r.is_chain;
  shorter = omega (arith, r.shorter);
}

-- the first page of a chain comes but once
pub first_once : (P : Pages) (p : ℕ) (qs : List ℕ) → IsChain P p (p ∷ qs) → In p qs → ⊥
first_once P p qs c i =
    let r = chain_behind P p (P p).right qs c.2 i in
    let same : p ∷ r.back ≡ p ∷ qs = chain_one P p (p ∷ r.back) (p ∷ qs) r.is_chain c in
    let size : suc (length r.back) ≡ suc (length qs) = ap length same in
    omega (arith, size, r.shorter)

-- the chain from page 0 on is empty
pub none_chain : (P : Pages) (p : ℕ) (qs : List ℕ) → p ≡ 0 → IsChain P p qs → qs ≡ []
none_chain P p [] e c = refl
none_chain P p (q ∷ qs) e c = absurd (c.1 (sym c.0 ∙ e))

module _ (P Q : Pages) (p p' : ℕ) (On On' : ℕ → Type 0) where
  -- the chain stays
  pub same_chain : ChainOf P p On → p' ≡ p → ((q : ℕ) → On q → (Q q).right ≡ (P q).right) → ((q : ℕ) → On q ↔ On' q)
      → ChainOf Q p' On'
  same_chain c e rights same = record {
    pages = c.pages;
    is_chain = subst (λ (z : ℕ). IsChain Q z c.pages) (sym e) (chain_kept P Q p c.pages
        (λ q i. rights q ((c.on q).0 i)) c.is_chain);
    on = λ q. (λ i. (same q).0 ((c.on q).0 i), λ o. (c.on q).1 ((same q).1 o));
  }

  -- a page comes in front
  pub longer_chain : ChainOf P p On → p' ≢ 0 → (Q p').right ≡ p → ((q : ℕ) → On q → (Q q).right ≡ (P q).right)
      → ((q : ℕ) → ((q ≡ p') ⊎ On q) ↔ On' q) → ChainOf Q p' On'
  longer_chain c off link rights same = record {
    pages = p' ∷ c.pages;
    is_chain = (
      refl,
      off,
      subst (λ (z : ℕ). IsChain Q z c.pages) (sym link) (chain_kept P Q p c.pages
          (λ q i. rights q ((c.on q).0 i)) c.is_chain),
    );
    on = λ q. (
      λ i. elim i [ inl e ↦ (same q).0 (inl e) | inr m ↦ (same q).0 (inr ((c.on q).0 m)) ],
      λ o. elim ((same q).1 o) [ inl e ↦ inl e | inr m ↦ inr ((c.on q).1 m) ],
    );
  }

  -- the first page goes
  pub shorter_chain : ChainOf P p On → p ≢ 0 → p' ≡ (P p).right → ((q : ℕ) → q ≢ p → On q → (Q q).right ≡ (P q).right)
      → ((q : ℕ) → (On q × (q ≢ p)) ↔ On' q) → ChainOf Q p' On'
  shorter_chain c off link rights same = go c.pages c.is_chain c.on
    where
      go : (qs : List ℕ) → IsChain P p qs → ((q : ℕ) → In q qs ↔ On q) → ChainOf Q p' On'
      go [] is on = absurd (off is)
      go (a ∷ qs) is on =
          let first : p ≡ a = is.0 in
          let whole : IsChain P p (p ∷ qs) = (
            refl,
            off,
            subst (λ (z : ℕ). IsChain P (P z).right qs) (sym first)
                is.2,
          ) in
          let other : (q : ℕ) → In q qs → q ≢ p = λ q i e. first_once P p qs whole (subst (λ (z : ℕ). In z qs) e i) in
          record {
            pages = qs;
            is_chain = subst (λ (z : ℕ). IsChain Q z qs) (sym link) (chain_kept P Q (P p).right qs
                (λ q i. rights q (other q i) ((on q).0 (inr i))) whole.2);
            on = λ q. (
              λ i. (same q).0 ((on q).0 (inr i), other q i),
              λ o.
                  let b = (same q).1 o in
                  elim ((on q).1 b.0) [ inl e ↦ absurd (b.1 (e ∙ sym first)) | inr m ↦ m ],
            );
          }

  -- no page is on it
  pub no_chain : p' ≡ 0 → ((q : ℕ) → On' q → ⊥) → ChainOf Q p' On'
  no_chain e off = record { pages = []; is_chain = e; on = λ q. (λ i. absurd i, λ o. absurd (off q o)) }

-- a head's chain as it was before a record, or none where the slot was free
pub data HeadBefore (P : Pages) (from : Head → ℕ) (i : ℕ) (h' : Head) : Type 0 where
  was : (h : Head) → head_of P i ≡ Some h → from h' ≡ from h → HeadBefore P from i h'
  new : head_of P i ≡ None → from h' ≡ 0 → HeadBefore P from i h'

-- a free slot was free before, or had no chain
pub data FreeBefore (P : Pages) (from : Head → ℕ) (i : ℕ) : Type 0 where
  was : head_of P i ≡ None → FreeBefore P from i
  freed : (h : Head) → head_of P i ≡ Some h → from h ≡ 0 → FreeBefore P from i

module _ (P Q : Pages) (from : Head → ℕ) (On On' : ℕ → ℕ → Type 0) (C : Chains P from On) where
  one_some : (i : ℕ) (h' : Head) → HeadBefore P from i h' → ((q : ℕ) → On i q → (Q q).right ≡ (P q).right)
      → ((q : ℕ) → On i q ↔ On' i q) → ChainOf Q (from h') (On' i)
  one_some i h' (HeadBefore.was h at e) rights same = same_chain P Q (from h) (from h') (On i) (On' i) (C.some i h at)
      e rights same
  one_some i h' (HeadBefore.new free e) rights same = no_chain P Q 0 (from h') (On i) (On' i) e (λ q o. C.none i q free
      ((same q).1 o))

  one_none : (i q : ℕ) → FreeBefore P from i → On i q ↔ On' i q → On' i q → ⊥
  one_none i q (FreeBefore.was free) same o = C.none i q free (same.1 o)
  one_none i q (FreeBefore.freed h at e) same o =
      let c = C.some i h at in
      subst (In q) (none_chain P (from h) c.pages e c.is_chain) ((c.on q).1 (same.1 o))

  -- all chains stay
  pub chains_kept : ((i : ℕ) (h' : Head) → head_of Q i ≡ Some h' → HeadBefore P from i h')
      → ((i : ℕ) → head_of Q i ≡ None → FreeBefore P from i)
      → ((i q : ℕ) → On i q → (Q q).right ≡ (P q).right) → ((i q : ℕ) → On i q ↔ On' i q) → Chains Q from On'
  chains_kept somes nones rights same = record {
    some = λ i h' at. one_some i h' (somes i h' at) (rights i) (same i);
    none = λ i q free. one_none i q (nones i free) (same i q);
  }

  -- the chain of one item changes
  pub chains_turned : (j : ℕ) (k' : Head) → head_of Q j ≡ Some k' → ((i : ℕ) → i ≢ j → head_of Q i ≡ head_of P i)
      → ChainOf Q (from k') (On' j)
      → ((i q : ℕ) → i ≢ j → On i q → (Q q).right ≡ (P q).right) → ((i q : ℕ) → i ≢ j → On i q ↔ On' i q)
      → Chains Q from On'
  chains_turned j k' now others chain rights same = record {
    some = λ i h' at. elim (same_or_not j i) [
      | inl e ↦ turned_some i h' e at
      | inr n ↦ one_some i h' (HeadBefore.was h' (sym (others i n) ∙ at) refl) (λ q. rights i q n) (λ q. same i q n)
    ];
    none = λ i q free. elim (same_or_not j i) [
      | inl e ↦ absurd (some_none k' (sym now ∙ ap (head_of Q) (sym e) ∙ free))
      | inr n ↦ one_none i q (FreeBefore.was (sym (others i n) ∙ free)) (same i q n)
    ];
  }
    where
      some_none : (k : Head) → Some k ≡ None → ⊥
      some_none k e = cc

      some_one : (a b : Head) → Some a ≡ Some b → a ≡ b
      some_one a b e = cc

      turned_some : (i : ℕ) (h' : Head) → i ≡ j → head_of Q i ≡ Some h' → ChainOf Q (from h') (On' i)
      turned_some i h' e at =
          let one : k' ≡ h' = some_one k' h' (sym now ∙ ap (head_of Q) (sym e) ∙ at) in
          subst (λ (h : Head). ChainOf Q (from h) (On' i)) one (subst (λ (z : ℕ). ChainOf Q (from k') (On' z)) (sym e)
          chain)
