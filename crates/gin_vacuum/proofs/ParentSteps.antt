-- The way from the root of a posting tree to the parent of an empty leaf.
use Rattle.std.proofs.Common.{◌≡◌, ◌≢◌, ◌<◌, ◌≤◌, ℕ, zero, suc, List, [], ◌∷◌, ◌++◌, refl, sym, ap, subst, ◌∙◌}
use Rattle.std.proofs.Common.{inl, inr, arith}
use Rattle.std.specs.Prelude.{Option, Some, None}
use Rattle.std.specs.Option.{unwrap_or}
use Rattle.page_types.specs.declared.page.Page.{Page}
use Rattle.page_types.specs.declared.page.PostChild.{PostChild}
use Rattle.page_types.specs.declared.page.Body.{Body}
use Rattle.page_types.specs.declared.page.Body.TheVariants as body
use Rattle.core_state.specs.Log.{Log, Pages, In, Shows}
use Rattle.ts_base.specs.Keys.{Key}
use Rattle.core_state.specs.Index.{IsNamed}
use Rattle.core_state.specs.Legal.{IsLegal}
use Rattle.core_state.specs.PageChoice.{IsLeast, AreBelow}
use Rattle.core_state.specs.States.{StateValue, StateTells}
use Rattle.core_state.specs.TreeRules.{TowardItem}
use Rattle.core_state.proofs.LawsHold.{pages}
use Rattle.core_state.proofs.Trees.Members.{in_middle}
use Rattle.core_maintenance.specs.Leading.{IsHighPost, WaysHold}
use Rattle.posting_tree.specs.Finding.{IsFound, IsFoundIn}
use Rattle.posting_tree.specs.declared.finding.Found.{Found}
use Rattle.posting_tree.specs.declared.finding.Found.TheVariants as found
use Rattle.gin_vacuum.specs.Sweeping.{IsAt, IsHighLeft}
use Rattle.gin_vacuum.specs.Stepping.{IsPlaceOf}
use Rattle.gin_vacuum.specs.declared.deleting.Empty.{Empty}
use Rattle.gin_vacuum.specs.declared.sweeping.Sweeping.{Sweeping}
use Rattle.gin_vacuum.specs.declared.sweeping.Stage.TheVariants as stage
use Rattle.gin_vacuum.proofs.TreeRuns.{used_below, high_post, low_post, high_left}
use Rattle.gin_vacuum.proofs.TreesStay.{there_in}

same_inner : (xs ys : List PostChild) → body.PostInner xs ≡ body.PostInner ys → xs ≡ ys
same_inner xs ys e = cc

inner_used : (cs : List PostChild) (b : Body) → b ≡ body.PostInner cs → b ≡ body.Free → ⊥
inner_used cs b is free = let two : body.PostInner cs ≡ body.Free = sym is ∙ free in let z : ⊥ = cc in z

-- the first child whose bound isn't below an item is one
first_one : (i : ℕ) (front back front' back' : List PostChild) (c c' : PostChild)
    → front ++ c ∷ back ≡ front' ++ c' ∷ back' → ((b : PostChild) → In b front → b.bound < i) → i ≤ c.bound
    → ((b : PostChild) → In b front' → b.bound < i) → i ≤ c'.bound → c ≡ c'
first_one i [] back [] back' c c' e low up low' up' = cc
first_one i [] back (d ∷ front') back' c c' e low up low' up' =
    let same : c ≡ d = cc in
    let l = low' d (inl refl) in
    absurd (omega (arith, l, up, ap (λ (x : PostChild). x.bound) same))
first_one i (d ∷ front) back [] back' c c' e low up low' up' =
    let same : d ≡ c' = cc in
    let l = low d (inl refl) in
    absurd (omega (arith, l, up', ap (λ (x : PostChild). x.bound) same))
first_one i (d ∷ front) back (d' ∷ front') back' c c' e low up low' up' =
    let rest : front ++ c ∷ back ≡ front' ++ c' ∷ back' = cc in
    first_one i front back front' back' c c' rest (λ b j. low b (inr j)) up (λ b j. low' b (inr j)) up'

-- the child that is found
down_of : (right : ℕ) (b : Body) (item child : ℕ) → IsFoundIn right b item (found.Down child)
    → (front back : List PostChild) × (c : PostChild) × (b ≡ body.PostInner (front ++ c ∷ back))
    × ((d : PostChild) → In d front → d.bound < item) × (item ≤ c.bound) × (c.page ≡ child)
down_of right b item _ (IsFoundIn.down front back c is low up) = (front, back, c, is, low, up, refl)

not_leaf : (high : ℕ) (list : List ℕ) (cs : List PostChild) (b : Body) → b ≡ body.PostLeaf high list
    → b ≡ body.PostInner cs → ⊥
not_leaf high list cs b is on =
    let two : body.PostLeaf high list ≡ body.PostInner cs = sym is ∙ on in let z : ⊥ = cc in z

-- nothing else is found where a child is
pub only_down : (right : ℕ) (b : Body) (item : ℕ) (r : Found) (child : ℕ) → IsFoundIn right b item r
    → IsFoundIn right b item (found.Down child) → (c : ℕ) × (r ≡ found.Down c)
only_down right b item _ child (IsFoundIn.here high list is up on) f =
    let d = down_of right b item child f in absurd (not_leaf high list (d.0 ++ d.2 ∷ d.1) b is d.3)
only_down right b item _ child (IsFoundIn.absent high list is up off) f =
    let d = down_of right b item child f in absurd (not_leaf high list (d.0 ++ d.2 ∷ d.1) b is d.3)
only_down right b item _ child (IsFoundIn.down front back c is low up) f = (c.page, refl)
only_down right b item _ child (IsFoundIn.past_leaf high list is off) f =
    let d = down_of right b item child f in absurd (not_leaf high list (d.0 ++ d.2 ∷ d.1) b is d.3)
only_down right b item _ child (IsFoundIn.past_inner cs is low) f =
    let d = down_of right b item child f in
    let l = low d.2 (subst (In d.2) (sym (same_inner cs (d.0 ++ d.2 ∷ d.1) (sym is ∙ d.3))) (in_middle d.0 d.2 d.1)) in
    absurd (omega (arith, l, d.5))

module _ (P : Pages) (i : ℕ) where
  -- a way goes on to the child
  way_on : (p q : ℕ) (front back : List PostChild) (c : PostChild) → TowardItem P i p q
      → (P q).body ≡ body.PostInner (front ++ c ∷ back) → ((b : PostChild) → In b front → b.bound < i) → i ≤ c.bound
      → TowardItem P i p c.page
  way_on p _ front back c TowardItem.here is low up = TowardItem.down front back c is low up TowardItem.here
  way_on p q front back c (TowardItem.down f b d on below above rest) is low up =
      TowardItem.down f b d on below above (way_on d.page q front back c rest is low up)

  -- and the rest of it is the way from there
  way_rest : (p q : ℕ) (front back : List PostChild) (c : PostChild) → TowardItem P i p q → p ≢ q
      → (P p).body ≡ body.PostInner (front ++ c ∷ back) → ((b : PostChild) → In b front → b.bound < i) → i ≤ c.bound
      → TowardItem P i c.page q
  way_rest p _ front back c TowardItem.here off is low up = absurd (off refl)
  way_rest p q front back c (TowardItem.down f b d on below above rest) off is low up =
      let one = first_one i f b front back d c (same_inner _ _ (sym on ∙ is)) below above low up in
      subst (λ (x : PostChild). TowardItem P i x.page q) one rest

  child_there : (p q : ℕ) → TowardItem P i p q → p ≢ q
      → ((child : ℕ) × IsFound (P p) i (found.Down child)) × ((P p).body ≢ body.Free)
  child_there p _ TowardItem.here off = absurd (off refl)
  child_there p q (TowardItem.down front back c is low up rest) off =
      ((c.page, IsFoundIn.down front back c is low up), inner_used (front ++ c ∷ back) (P p).body is)

-- an inner page is there where a parent is sought
pub parent_there : (P : Pages) (dead : List ℕ) (m : Sweeping) (e : Empty) (page : ℕ) (left : Option ℕ)
    → IsAt P dead m (stage.Parent e page left)
    → IsPlaceOf (stage.Parent e page left) (P page) × ((P page).body ≢ body.Free)
parent_there P dead m e page left at = child_there P e.high page e.page at.7 at.8

-- the page found is the empty leaf, or the next on the way
high_lower : (P : Pages) (page : ℕ) (front back : List PostChild) (c : PostChild)
    → (P page).body ≡ body.PostInner (front ++ c ∷ back) → (h : ℕ) → IsHighPost P h page
    → (i : ℕ) × (h ≡ suc i) × IsHighPost P i c.page
high_lower P page front back c is zero high =
    absurd (low_post P page high (P page).body refl (front ++ c ∷ back) is)
high_lower P page front back c is (suc h) high =
    let x = high_post P h page high in
    let e : x.0 ≡ front ++ c ∷ back = same_inner _ _ (sym x.1 ∙ is) in
    (h, refl, x.2 c (subst (In c) (sym e) (in_middle front c back)))

module _ (S : Log) (P : Pages) (some : S ≢ []) (legal : IsLegal S) (shown : Shows S P) (ways : WaysHold)
    (s : StateValue) (tells : StateTells S s) (extent left : ℕ) (least : IsLeast (AreBelow s) extent) (dead : List ℕ)
    (m : Sweeping) (e : Empty) (page : ℕ) (o : Option ℕ) (c : Page) (is : P page ≡ c)
    (at : IsAt P dead m (stage.Parent e page o)) where
  -- the way has fewer pages than may be read
  enough : (h : ℕ) × IsHighPost P h page × (h < unwrap_or o extent)
  enough = go o at.6
    where
      named : (k : Key) × IsNamed P k e.root
      named = ((at.0).at).named e.root (there_in m.roots.items (at.0).before e.root (at.0).root_is)

      go : (o : Option ℕ) → IsHighLeft P e.root page o → (h : ℕ) × IsHighPost P h page × (h < unwrap_or o extent)
      go None same =
          let x = high_left S P (pages S P legal shown) some (ways S P some legal shown) extent
          (used_below S P s extent shown tells least) named.0 e.root named.1 in
          (x.0, subst (IsHighPost P x.0) (sym same) x.1, x.2)
      go (Some k) enough = enough

  pub at_next : suc left ≡ unwrap_or o extent → (child : ℕ) → IsFound c e.high (found.Down child) → child ≢ e.page
      → IsAt P dead (record m { stage = stage.Parent e child (Some left) }) (stage.Parent e child (Some left))
  at_next lower child f off =
      let d = down_of c.right c.body e.high child f in
      let inner : (P page).body ≡ body.PostInner (d.0 ++ d.2 ∷ d.1) = ap (λ (x : Page). x.body) is ∙ d.3 in
      let h = enough in
      let h' = high_lower P page d.0 d.1 d.2 inner h.0 h.1 in (
        at.0,
        at.1,
        at.2,
        at.3,
        subst (TowardItem P e.high e.root) d.6 (way_on P e.high e.root page d.0 d.1 d.2 at.4 inner d.4 d.5),
        at.5,
        (h'.0, subst (IsHighPost P h'.0) d.6 h'.2, omega (arith, h.2, h'.1, lower)),
        subst (λ (x : ℕ). TowardItem P e.high x e.page) d.6
            (way_rest P e.high page e.page d.0 d.1 d.2 at.7 at.8 inner d.4 d.5),
        off,
      )
