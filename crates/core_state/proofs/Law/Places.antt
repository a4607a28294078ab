-- The kind of a page says its place.
use Rattle.std.proofs.Common.{◌≡◌, ◌⊎◌, ◌<◌, ℕ, zero, suc, refl, sym, ap, subst, inl, inr}
use Rattle.page_types.specs.declared.page.Page.{Page}
use Rattle.page_types.specs.declared.page.Body.{Body}
use Rattle.page_types.specs.declared.page.Body.TheVariants as body
use Rattle.core_state.specs.Inner.Ghosts.{Place}
use Rattle.core_state.specs.Inner.Ghosts.Place.{unused, meta, heap, line, past, shifted, left, entry, post, overflow_of}
use Rattle.core_state.specs.Inner.Ghosts.Place.{private_of}
use Rattle.core_state.specs.Inner.Kinds.{Fits}

-- x is a place for this content with this stamp
abbrev pub IsFor : ℕ → ℕ → Place → Body → Type 0
IsFor L stamp x body.Free = x ≡ unused
IsFor L stamp x (body.Meta first last count) = x ≡ meta
IsFor L stamp x (body.Heap slots) = x ≡ heap
IsFor L stamp x (body.Overflow bytes) = (i : ℕ) × (x ≡ overflow_of i)
IsFor L stamp x (body.Pending rows) = (x ≡ line) ⊎ ((i : ℕ) × (x ≡ private_of i))
IsFor L stamp x (body.EntryLeaf high entries) = x ≡ entry 0
IsFor L stamp x (body.EntryInner children) = (h : ℕ) × (x ≡ entry (suc h))
IsFor L stamp x (body.PostLeaf high items) = (r : ℕ) × (x ≡ post r 0)
IsFor L stamp x (body.PostInner children) = (r : ℕ) × (h : ℕ) × (x ≡ post r (suc h))
IsFor L stamp x (body.Deleted gone) = (x ≡ past) ⊎ (((x ≡ shifted) ⊎ ((r : ℕ) × (x ≡ left r))) × (L < stamp))

is_for : (L : ℕ) (x : Place) (p : Page) → Fits L x p → IsFor L p.stamp x p.body
is_for L unused p f = subst (λ (b : Body). IsFor L p.stamp unused b) (sym (ap (λ (q : Page). q.body) f)) refl
is_for L meta p f = subst (IsFor L p.stamp meta) (sym f.3) refl
is_for L heap p f = subst (IsFor L p.stamp heap) (sym f.1) refl
is_for L line p f = subst (IsFor L p.stamp line) (sym f.1) (inl refl)
is_for L past p f = subst (IsFor L p.stamp past) (sym f.1) (inl refl)
is_for L shifted p f = subst (IsFor L p.stamp shifted) (sym f.1) (inr (inl refl, f.2))
is_for L (left r) p f = subst (IsFor L p.stamp (left r)) (sym f.1) (inr (inr (r, refl), f.2))
is_for L (entry zero) p f = subst (IsFor L p.stamp (entry zero)) (sym f.2) refl
is_for L (entry (suc h)) p f = subst (IsFor L p.stamp (entry (suc h))) (sym f.1) (h, refl)
is_for L (post r zero) p f = subst (IsFor L p.stamp (post r zero)) (sym f.2) (r, refl)
is_for L (post r (suc h)) p f = subst (IsFor L p.stamp (post r (suc h))) (sym f.1) (r, h, refl)
is_for L (overflow_of i) p f = subst (IsFor L p.stamp (overflow_of i)) (sym f.1) (i, refl)
is_for L (private_of i) p f = subst (IsFor L p.stamp (private_of i)) (sym f.1) (inr (i, refl))

-- the place of a page with this content
pub place_for : (L : ℕ) (x : Place) (p : Page) (b : Body) → Fits L x p → p.body ≡ b → IsFor L p.stamp x b
place_for L x p b f e = subst (IsFor L p.stamp x) e (is_for L x p f)
