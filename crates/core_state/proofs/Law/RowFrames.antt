-- A record of a kind that doesn't change the pending list leaves the linked rows as they are.
use Rattle.std.proofs.Common.{◌≡◌, ◌≢◌, ℕ, [], sym, ap, subst, ◌∙◌, inl, inr}
use Rattle.page_types.specs.Views.{first_of, rows_of}
use Rattle.page_types.specs.declared.page.Page.{Page}
use Rattle.page_types.specs.declared.page.Body.{Body}
use Rattle.page_types.specs.declared.page.Body.TheVariants as body
use Rattle.page_types.specs.declared.record.Record.{Record}
use Rattle.page_types.specs.declared.record.Kind.TheVariants as kind
use Rattle.core_state.specs.Log.{Log, Pages, In, changed}
use Rattle.core_state.specs.Documents.{IsChain}
use Rattle.core_state.specs.Index.{Line, IsLinked}
use Rattle.core_state.specs.RecordKeeps.{SameRows}
use Rattle.core_state.specs.Inner.PageKinds.{IsHeap, IsOverflow, IsPending, IsMeta, IsTree, ChangesLine, IsFirstOf}
use Rattle.core_state.specs.Inner.PageKinds.{IsChanged, Touched}
use Rattle.core_state.specs.Inner.Ghosts.{Place, Ghost}
use Rattle.core_state.specs.Inner.Ghosts.Place.{meta, line, private_of}
use Rattle.core_state.specs.Inner.Kinds.{Fits}
use Rattle.core_state.proofs.PageLists.{in_or_not}
use Rattle.core_state.proofs.Histories.{chain_one}
use Rattle.core_state.proofs.Chains.{chain_kept}
use Rattle.core_state.proofs.ChainFrames.{only_pending, not_new, first_in}
use Rattle.core_state.proofs.Law.Invariant.{Inv}

-- the metapage is of no other kind
only_meta : (b : Body) → IsMeta b → (IsHeap b → ⊥) × (IsTree b → ⊥) × (IsOverflow b → ⊥) × (IsPending b → ⊥)
only_meta (body.Meta first last count) is = (λ f. f, λ f. f, λ f. f, λ f. f)
only_meta _ is = absurd is

module _ (n L : ℕ) (R : Log) (P Q : Pages) (r : Record) (since : ℕ) (g : Ghost) (v : Inv n L R P g) (some : R ≢ [])
    (touch : (p : ℕ) → In p (changed r) → Touched P Q r since p) (other : (q : ℕ) → (In q (changed r) → ⊥)
    → Q q ≡ P q)
    (later : r.kind ≢ kind.Create) (quiet : ChangesLine r.kind → ⊥) where
  is_meta : IsMeta (P 0).body
  is_meta =
      let f : Fits L meta (P 0) = subst (λ (x : Place). Fits L x (P 0)) (v.starts.page_0 some) (v.kinds 0) in
      subst IsMeta (sym f.3) tt

  meta_changed : IsChanged P Q r since 0 → ⊥
  meta_changed (IsChanged.made k was is) = later k
  meta_changed (IsChanged.heads was is at) = elim was [
    | inl h ↦ (only_meta (P 0).body is_meta).0 h
    | inr new ↦ not_new IsMeta P since 0 (λ f. f) (λ x f. f) is_meta new
  ]
  meta_changed (IsChanged.chained new is) = not_new IsMeta P since 0 (λ f. f) (λ x f. f) is_meta new
  meta_changed (IsChanged.grown new works is) = not_new IsMeta P since 0 (λ f. f) (λ x f. f) is_meta new
  meta_changed (IsChanged.worked was works is) = (only_meta (P 0).body is_meta).1 was
  meta_changed (IsChanged.meta was lists is) = quiet lists
  meta_changed (IsChanged.listed was of lists is) = quiet lists
  meta_changed (IsChanged.dropped first is) = elim first.first [
    | inl o ↦ (only_meta (P 0).body is_meta).2 o.0
    | inr o ↦ (only_meta (P 0).body is_meta).3 o.0
  ]

  is_pending : (q : ℕ) → In q g.line → IsPending (P q).body
  is_pending q on =
      let f : Fits L line (P q) = subst (λ (x : Place). Fits L x (P q)) ((v.lined.on q).0 on) (v.kinds q) in
      subst IsPending (sym f.1) tt

  -- the first page of a head's private chain isn't on the line
  not_private : (q : ℕ) → In q g.line → IsFirstOf P r.kind q → ⊥
  not_private q on f = elim f.first [
    | inl o ↦ (only_pending (P q).body (is_pending q on)).2 o.0
    | inr o ↦
        let c = v.chained.private.some f.doc.item f.head f.has.at in
        let there = first_in P q c.pages f.not_none (subst (λ (z : ℕ). IsChain P z c.pages) o.1 c.is_chain) in
        let clash : line ≡ private_of f.doc.item = sym ((v.lined.on q).0 on) ∙ (c.on q).0 there in
        cc
  ]

  line_changed : (q : ℕ) → In q g.line → IsChanged P Q r since q → ⊥
  line_changed q on (IsChanged.made k was is) = later k
  line_changed q on (IsChanged.heads was is at) = elim was [
    | inl h ↦ (only_pending (P q).body (is_pending q on)).0 h
    | inr new ↦ not_new IsPending P since q (λ f. f) (λ x f. f) (is_pending q on) new
  ]
  line_changed q on (IsChanged.chained new is) =
      not_new IsPending P since q (λ f. f) (λ x f. f) (is_pending q on) new
  line_changed q on (IsChanged.grown new works is) =
      not_new IsPending P since q (λ f. f) (λ x f. f) (is_pending q on) new
  line_changed q on (IsChanged.worked was works is) = (only_pending (P q).body (is_pending q on)).1 was
  line_changed q on (IsChanged.meta was lists is) = quiet lists
  line_changed q on (IsChanged.listed was of lists is) = quiet lists
  line_changed q on (IsChanged.dropped first is) = not_private q on first

  page_same : (q : ℕ) → (IsChanged P Q r since q → ⊥) → Q q ≡ P q
  page_same q off = elim (in_or_not q (changed r)) [
    | inl i ↦ absurd (off (touch q i).change)
    | inr out ↦ other q out
  ]

  pub line_same : (q : ℕ) → In q g.line → Q q ≡ P q
  line_same q on = page_same q (line_changed q on)

  pub is_line : Line Q g.line
  is_line = chain_kept P Q (first_of (Q 0)) g.line (λ q i. ap (λ (x : Page). x.right) (line_same q i))
      (subst (λ (z : ℕ). IsChain P z g.line) (ap first_of (sym (page_same 0 meta_changed))) v.lined.is_line)

  pub rows_same : SameRows P Q
  rows_same w = (on, back)
    where
      on : IsLinked P w → IsLinked Q w
      on k =
          let m = subst (In k.page) (chain_one P _ k.line g.line k.is_line v.lined.is_line) k.on in
          record {
            line = g.line;
            is_line = is_line;
            page = k.page;
            on = m;
            there = subst (λ (x : Page). In w (rows_of x)) (sym (line_same k.page m)) k.there;
          }

      back : IsLinked Q w → IsLinked P w
      back k =
          let m = subst (In k.page) (chain_one Q _ k.line g.line k.is_line is_line) k.on in
          record {
            line = g.line;
            is_line = v.lined.is_line;
            page = k.page;
            on = m;
            there = subst (λ (x : Page). In w (rows_of x)) (line_same k.page m) k.there;
          }
