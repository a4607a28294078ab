-- Rows on the pages of the pending list that a walk has not read.
use Rattle.std.proofs.Common.{◌≡◌, ◌≢◌, ◌⊎◌, ℕ, zero, suc, List, [], ◌∷◌, ◌++◌, length, take, refl, sym, ap, subst, ◌∙◌}
use Rattle.std.proofs.Common.{inl, inr, append_assoc, append-nil}
use Rattle.page_types.specs.Views.{rows_of, first_of}
use Rattle.page_types.specs.declared.page.Row.{Row}
use Rattle.core_state.specs.Log.{Pages, In}
use Rattle.core_state.specs.Documents.{IsChain}
use Rattle.core_state.specs.Index.{Line, IsLinked}
use Rattle.core_state.proofs.Histories.{chain_one}
use Rattle.core_state.proofs.PageLists.{in_front, in_back}
use Rattle.core_maintenance.specs.Keeping.{LineGrows}
use Rattle.gin_vacuum.specs.Inner.Unlinked.{IsAhead, IsNextOn}

in_take : {A : Type 0} (n : ℕ) (x : A) (xs : List A) → In x (take n xs) → In x xs
in_take zero x xs i = absurd i
in_take (suc n) x [] i = absurd i
in_take (suc n) x (y ∷ xs) (inl e) = inl e
in_take (suc n) x (y ∷ xs) (inr i) = inr (in_take n x xs i)

in_take_more : {A : Type 0} (n : ℕ) (x : A) (xs ys : List A) → In x (take n xs) → In x (take n (xs ++ ys))
in_take_more zero x xs ys i = absurd i
in_take_more (suc n) x [] ys i = absurd i
in_take_more (suc n) x (y ∷ xs) ys (inl e) = inl e
in_take_more (suc n) x (y ∷ xs) ys (inr i) = inr (in_take_more n x xs ys i)

in_take_all : {A : Type 0} (x : A) (xs : List A) → In x xs → In x (take (length xs) xs)
in_take_all x [] i = absurd i
in_take_all x (y ∷ xs) (inl e) = inl e
in_take_all x (y ∷ xs) (inr i) = inr (in_take_all x xs i)

-- the chain from one of its pages on
chain_from : (P : Pages) (first : ℕ) (front : List ℕ) (q : ℕ) (rest : List ℕ) → IsChain P first (front ++ q ∷ rest)
    → IsChain P q (q ∷ rest)
chain_from P first [] q rest c = (refl, c.1, c.2)
chain_from P first (x ∷ front) q rest c = chain_from P (P x).right front q rest c.2

-- all rows are ahead of the list's first page
pub ahead_first : (P : Pages) (line : List ℕ) → Line P line → (first n : ℕ) → first_of (P 0) ≡ first → n ≡ length line
    → (w : Row) → IsLinked P w → IsAhead P first n w
ahead_first P line is first n f e w k =
    let same : line ≡ k.line = chain_one P (first_of (P 0)) line k.line is k.is_line in
    record {
      rest = k.line;
      chain = subst (λ (x : ℕ). IsChain P x k.line) f k.is_line;
      at = k.page;
      on = subst (λ (m : ℕ). In k.page (take m k.line)) (sym (e ∙ ap (λ (xs : List ℕ). length xs) same))
          (in_take_all k.page k.line k.on);
      there = k.there;
    }

-- no row is ahead where no page is left
pub none_ahead : (P : Pages) (page left : ℕ) (w : Row) → (page ≡ 0) ⊎ (left ≡ 0) → IsAhead P page left w → ⊥
none_ahead P page left w (inl none) a = by a.rest a.chain (in_take left a.at a.rest a.on)
  where
    by : (rest : List ℕ) → IsChain P page rest → In a.at rest → ⊥
    by [] chain on = absurd on
    by (q ∷ rest) chain on = absurd (chain.1 (sym chain.0 ∙ none))
none_ahead P page left w (inr none) a =
    let on : In a.at (take 0 a.rest) = subst (λ (n : ℕ). In a.at (take n a.rest)) none a.on in absurd on

module _ (P : Pages) (page : ℕ) (x : IsNextOn P page) (some : page ≢ 0) where
  -- the page is on the list
  pub page_on : (line : List ℕ) × Line P line × In page line
  page_on = by x.rest x.line x.chain
    where
      by : (rest : List ℕ) → Line P (x.front ++ rest) → IsChain P page rest
          → (line : List ℕ) × Line P line × In page line
      by [] line chain = absurd (some chain)
      by (q ∷ rest) line chain = (x.front ++ q ∷ rest, line, in_back page x.front (q ∷ rest) (inl chain.0))

  -- and so is the one to which it leads
  pub next_after : IsNextOn P (P page).right
  next_after = by x.rest x.line x.chain
    where
      by : (rest : List ℕ) → Line P (x.front ++ rest) → IsChain P page rest → IsNextOn P (P page).right
      by [] line chain = absurd (some chain)
      by (q ∷ rest) line chain = record {
        front = x.front ++ q ∷ [];
        rest = rest;
        line = subst (Line P) (sym (append_assoc x.front (q ∷ []) rest)) line;
        chain = subst (λ (n : ℕ). IsChain P (P n).right rest) (sym chain.0) chain.2;
      }

  -- a row is on it, or ahead of that one
  pub ahead_after : (left : ℕ) (w : Row) → IsAhead P page (suc left) w
      → In w (rows_of (P page)) ⊎ IsAhead P (P page).right left w
  ahead_after left w a = by a.rest a.chain a.on
    where
      by : (rest : List ℕ) → IsChain P page rest → In a.at (take (suc left) rest)
          → In w (rows_of (P page)) ⊎ IsAhead P (P page).right left w
      by [] chain on = absurd (some chain)
      by (q ∷ rest) chain (inl e) = inl (subst (λ (n : ℕ). In w (rows_of (P n))) (e ∙ sym chain.0) a.there)
      by (q ∷ rest) chain (inr i) = inr (record {
        rest = rest;
        chain = subst (λ (n : ℕ). IsChain P (P n).right rest) (sym chain.0) chain.2;
        at = a.at;
        on = i;
        there = a.there;
      })

module _ (P Q : Pages) (grows : LineGrows P Q) (page : ℕ) (x : IsNextOn P page) where
  -- the page is on the list still
  pub next_grows : IsNextOn Q page
  next_grows = by x.rest x.line x.chain
    where
      by : (rest : List ℕ) → Line P (x.front ++ rest) → IsChain P page rest → IsNextOn Q page
      by [] line chain =
          let g = grows (x.front ++ []) line in
          record {
            front = (x.front ++ []) ++ g.more;
            rest = [];
            line = subst (Line Q) (sym (append-nil ((x.front ++ []) ++ g.more))) g.line;
            chain = chain;
          }
      by (q ∷ rest) line chain =
          let g = grows (x.front ++ q ∷ rest) line in
          let on : Line Q (x.front ++ q ∷ (rest ++ g.more)) =
          subst (Line Q) (append_assoc x.front (q ∷ rest) g.more) g.line in
          record {
            front = x.front;
            rest = q ∷ (rest ++ g.more);
            line = on;
            chain = subst (λ (n : ℕ). IsChain Q n (q ∷ (rest ++ g.more))) (sym chain.0)
                (chain_from Q (first_of (Q 0)) x.front q (rest ++ g.more) on);
          }

  -- and the rows ahead of it are so still
  pub ahead_grows : (left : ℕ) (w : Row) → IsAhead P page left w → IsAhead Q page left w
  ahead_grows left w a = by x.rest x.line x.chain (chain_one P page a.rest x.rest a.chain x.chain)
    where
      by : (rest : List ℕ) → Line P (x.front ++ rest) → IsChain P page rest → a.rest ≡ rest → IsAhead Q page left w
      by [] line chain same = absurd (subst (In a.at) same (in_take left a.at a.rest a.on))
      by (q ∷ rest) line chain same =
          let g = grows (x.front ++ q ∷ rest) line in
          let on : Line Q (x.front ++ q ∷ (rest ++ g.more)) =
          subst (Line Q) (append_assoc x.front (q ∷ rest) g.more) g.line in
          let i : In a.at (x.front ++ q ∷ rest) =
          in_back a.at x.front (q ∷ rest) (subst (In a.at) same (in_take left a.at a.rest a.on)) in
          let rows = g.rows a.at i in
          record {
            rest = q ∷ (rest ++ g.more);
            chain = subst (λ (n : ℕ). IsChain Q n (q ∷ (rest ++ g.more))) (sym chain.0)
                (chain_from Q (first_of (Q 0)) x.front q (rest ++ g.more) on);
            at = a.at;
            on = in_take_more left a.at (q ∷ rest) g.more
                (subst (λ (qs : List ℕ). In a.at (take left qs)) same a.on);
            there = subst (In w) (sym rows.1) (in_front w (rows_of (P a.at)) rows.0 a.there);
          }
