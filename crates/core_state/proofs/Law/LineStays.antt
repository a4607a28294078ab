-- Records that change neither the metapage nor a page of the pending list.
use Rattle.std.proofs.Common.{◌≡◌, ◌≢◌, ℕ, List, [], ◌∷◌, length, sym, ap, subst, ◌∙◌, inl, append-nil}
use Rattle.page_types.specs.Views.{rows_of, first_of}
use Rattle.page_types.specs.declared.page.Page.{Page}
use Rattle.page_types.specs.declared.page.Row.{Row}
use Rattle.page_types.specs.declared.page.Body.TheVariants as body
use Rattle.page_types.specs.declared.record.Record.{Record}
use Rattle.core_state.specs.Log.{Log, Pages, In}
use Rattle.core_state.specs.Documents.{IsChain}
use Rattle.core_state.specs.Index.{Line}
use Rattle.core_state.specs.Inner.Ghosts.{Ghost}
use Rattle.core_state.specs.Inner.Ghosts.Place.{line}
use Rattle.core_state.specs.Inner.Kinds.{IsLined, last_of}
use Rattle.core_state.specs.Inner.Grouping.{RowsGrouped}
use Rattle.core_state.specs.Inner.LineSteps.{LineStep}
use Rattle.core_state.proofs.Chains.{chain_kept}
use Rattle.core_state.proofs.Law.Invariant.{Inv}
use Rattle.core_state.proofs.Law.OwnersStay.{grouped_stays}
use Rattle.core_state.proofs.Law.Steps.{Left}

module _ (n since L : ℕ) (R : Log) (P Q : Pages) (r : Record) (g : Ghost) (v : Inv n L R P g)
    (l : Left n since R P Q r) (g' : Ghost) where
  -- the metapage, and the pages of the pending list, are the same, and no page comes to them
  pub record LineSame : Type 0 where
    pub some : R ≢ []
    pub metapage : Q 0 ≡ P 0
    pub line_same : g'.line ≡ g.line
    pub back : (p : ℕ) → g'.place p ≡ line → g.place p ≡ line
    pub on : (p : ℕ) → g.place p ≡ line → g'.place p ≡ line
    pub pages : (p : ℕ) → g.place p ≡ line → Q p ≡ P p

  module _ (s : LineSame) where
    page_same : (q : ℕ) → In q g.line → Q q ≡ P q
    page_same q i = s.pages q ((v.lined.on q).0 i)

    is_line : Line Q g.line
    is_line =
        let start : first_of (P 0) ≡ first_of (Q 0) = ap first_of (sym s.metapage) in
        chain_kept P Q (first_of (Q 0)) g.line (λ q i. ap (λ (x : Page). x.right) (page_same q i))
        (subst (λ (z : ℕ). IsChain P z g.line) start v.lined.is_line)

    pub lined_now : IsLined (r ∷ R) Q g'
    lined_now = record {
      is_line = subst (Line Q) (sym s.line_same) is_line;
      on = λ p. (
        λ i. s.on p ((v.lined.on p).0 (subst (In p) s.line_same i)),
        λ e. subst (In p) (sym s.line_same) ((v.lined.on p).1 (s.back p e)),
      );
      some_row = λ p e z. v.lined.some_row p (s.back p e) (ap rows_of (sym (s.pages p (s.back p e))) ∙ z);
      counted = λ k.
          let c = v.lined.counted s.some in (
            c.0,
            ap (λ (x : Page). x.body) s.metapage ∙ c.1
                ∙ ap (λ (qs : List ℕ). body.Meta c.0 (last_of qs) (length qs)) (sym s.line_same),
          );
    }

    pub line_now : LineStep R P Q g g'
    line_now = LineStep.grow [] (s.line_same ∙ sym (append-nil g.line)) (inl (ap first_of s.metapage))
        (λ q i. absurd i)
        (λ q i. ([], ap rows_of (page_same q i) ∙ sym (append-nil _), λ w j. absurd j))

    pub grouped_now : RowsGrouped Q g'.line
    grouped_now = subst (RowsGrouped Q) (sym s.line_same)
        (grouped_stays n since L R P Q r g v l (λ q i. ap rows_of (page_same q i)))

    -- a row of the pending list was one
    pub row_was : (q : ℕ) (w : Row) → g'.place q ≡ line → In w (rows_of (Q q))
        → (p : ℕ) × (g.place p ≡ line) × In w (rows_of (P p))
    row_was q w e i = let at = s.back q e in (q, at, subst (λ (x : Page). In w (rows_of x)) (s.pages q at) i)
