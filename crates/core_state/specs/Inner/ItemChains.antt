-- The pages on the chains of items: `On i q` says that page q is on the item's chain.
use Rattle.std.specs.Prelude.{◌≡◌, ◌↔◌, ℕ, List, Some, None}
use Rattle.page_types.specs.declared.page.Head.{Head}
use Rattle.core_state.specs.Log.{Pages, In}
use Rattle.core_state.specs.Documents.{IsChain, head_of}
use Rattle.core_state.specs.Index.{Line}
use Rattle.core_state.specs.Inner.PageKinds.{IsOverflow, IsPending}

-- the chain from page p on has just these pages
pub record ChainOf (P : Pages) (p : ℕ) (On : ℕ → Type 0) : Type 0 where
  pub pages : List ℕ
  pub is_chain : IsChain P p pages
  pub on : (q : ℕ) → In q pages ↔ On q

-- each head has its chain, where `from` names its first page; the item of a free slot has none
pub record Chains (P : Pages) (from : Head → ℕ) (On : ℕ → ℕ → Type 0) : Type 0 where
  pub some : (i : ℕ) (h : Head) → head_of P i ≡ Some h → ChainOf P (from h) (On i)
  pub none : (i q : ℕ) → head_of P i ≡ None → On i q → ⊥

-- the pages of overflow chains have such content, and each has one item
pub record AreOverflows (P : Pages) (On : ℕ → ℕ → Type 0) : Type 0 where
  pub chains : Chains P (λ h. h.overflow) On
  pub fits : (i q : ℕ) → On i q → IsOverflow (P q).body
  pub one : (i j q : ℕ) → On i q → On j q → i ≡ j

-- the pages of private chains have rows, each has one item, and none is on the pending list
pub record ArePrivates (P : Pages) (line : List ℕ) (On : ℕ → ℕ → Type 0) : Type 0 where
  pub chains : Chains P (λ h. h.private) On
  pub fits : (i q : ℕ) → On i q → IsPending (P q).body
  pub one : (i j q : ℕ) → On i q → On j q → i ≡ j
  pub is_line : Line P line
  pub apart : (i q : ℕ) → On i q → In q line → ⊥
