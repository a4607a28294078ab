-- A parent that loses a child but the last.
use Rattle.std.proofs.Common.{◌≡◌, ◌≢◌, ℕ, zero, suc, ◌+◌, ◌*◌, ◌<◌, ◌≤◌, List, [], ◌∷◌, ◌++◌, length, refl, sym, ap}
use Rattle.std.proofs.Common.{subst, ◌∙◌, arith}
use Rattle.std.specs.Prelude.{Some}
use Rattle.std.specs.List.{AllByRecursion, slice_get, remove}
use Rattle.std.proofs.lemmas.List.{length-append}
use Rattle.std.proofs.lemmas.Option.{same_Some}
use Rattle.page_types.specs.Keys.{Rising}
use Rattle.page_types.specs.Pages.{IsPage, IsBody, IsPostChild, ArePostChildren}
use Rattle.page_types.specs.Encoding.{body_bytes, count_of}
use Rattle.page_types.specs.declared.page.Page.{Page}
use Rattle.page_types.specs.declared.page.PostChild.{PostChild}
use Rattle.page_types.specs.declared.page.Body.{Body}
use Rattle.page_types.specs.declared.page.Body.TheVariants as body
use Rattle.page_types.proofs.BodySizes.{post_children_size}
use Rattle.core_state.specs.Log.{In}
use Rattle.posting_tree.specs.Inner.Searching.{Below}
use Rattle.posting_tree.specs.Unlinking.{IsBeforeLast, IsUnlinked}
use Rattle.posting_tree.proofs.Lists.{not_none, there_in}

-- ---- lists

record IsCutAt {A : Type 0} (xs : List A) (k : ℕ) (x : A) : Type 0 where
  front : List A
  next : A
  back : List A
  whole : xs ≡ front ++ x ∷ next ∷ back
  less : remove xs k ≡ front ++ next ∷ back

cut_at : {A : Type 0} (xs : List A) (k : ℕ) (x : A) → slice_get xs k ≡ Some x → k + 1 < length xs → IsCutAt xs k x
cut_at [] k x e lt = absurd (omega (arith, lt))
cut_at (y ∷ []) k x e lt = absurd (omega (arith, lt))
cut_at (y ∷ z ∷ zs) zero x e lt = record {
  front = [];
  next = z;
  back = zs;
  whole = ap (λ w. w ∷ z ∷ zs) (same_Some y x e);
  less = refl;
}
cut_at (y ∷ z ∷ zs) (suc k) x e lt =
    let r = cut_at (z ∷ zs) k x e (omega (arith, lt)) in
    record {
      front = y ∷ r.front;
      next = r.next;
      back = r.back;
      whole = ap (λ ws. y ∷ ws) r.whole;
      less = ap (λ ws. y ∷ ws) r.less;
    }

middle_is : {A : Type 0} (front back : List A) (x : A) → slice_get (front ++ x ∷ back) (length front) ≡ Some x
middle_is [] back x = refl
middle_is (f ∷ front) back x = middle_is front back x

all_fewer : {A : Type 0} (P : A → Type 0) (front back : List A) (x : A) → AllByRecursion P (front ++ x ∷ back)
    → AllByRecursion P (front ++ back)
all_fewer P [] back x h = h.1
all_fewer P (f ∷ front) back x h = (h.0, all_fewer P front back x h.1)

rising_fewer : {A : Type 0} (R : A → A → Type 0) (front back : List A) (x : A) → Rising R (front ++ x ∷ back)
    → Rising R (front ++ back)
rising_fewer R [] back x h = h.1
rising_fewer R (f ∷ front) back x h = (all_fewer (R f) front back x h.0, rising_fewer R front back x h.1)

-- ---- the child

-- its place
pub placed : (page : ℕ) (children : List PostChild) → (w : IsBeforeLast page children)
    → (k : ℕ) × (k + 1 < length children) × (slice_get children k ≡ Some (record { page = page; bound = w.bound }))
placed page children w = (
  length w.front,
  omega (
    arith,
    ap length w.children_are,
    length-append w.front ((record { page = page; bound = w.bound }) ∷ w.next ∷ w.back),
  ),
  subst (λ (cs : List PostChild). slice_get cs (length w.front) ≡ Some (record { page = page; bound = w.bound }))
      (sym w.children_are) (middle_is w.front (w.next ∷ w.back) (record { page = page; bound = w.bound })),
)

-- none but the last is it, where the first that is it is the last
pub last_alone : (page place : ℕ) (children : List PostChild)
    → ((j : ℕ) (c : PostChild) → j < place → slice_get children j ≡ Some c → c.page ≢ page)
    → length children ≤ place + 1 → IsBeforeLast page children → ⊥
last_alone page place children first le w =
    let p = placed page children w in
    let lt = p.1 in
    first p.0 (record { page = page; bound = w.bound }) (omega (arith, lt, le)) p.2 refl

-- nor where no child is it
pub none_named : (page : ℕ) (children : List PostChild) → ((c : PostChild) → In c children → c.page ≢ page)
    → IsBeforeLast page children → ⊥
none_named page children none w =
    let p = placed page children w in
    let c : PostChild = record { page = page; bound = w.bound } in none c (there_in children p.0 c p.2) refl

pub before_last : (page place bound : ℕ) (children : List PostChild)
    → slice_get children place ≡ Some (record { page = page; bound = bound }) → place + 1 < length children
    → IsBeforeLast page children
before_last page place bound children at lt =
    let r = cut_at children place (record { page = page; bound = bound }) at lt in
    record { bound = bound; front = r.front; next = r.next; back = r.back; children_are = r.whole }

pub unlinked : (page place bound : ℕ) (children fewer : List PostChild)
    → slice_get children place ≡ Some (record { page = page; bound = bound }) → place + 1 < length children
    → fewer ≡ remove children place → IsUnlinked page (body.PostInner children) (body.PostInner fewer)
unfolding before_last
unlinked page place bound children fewer at lt made =
    let r = cut_at children place (record { page = page; bound = bound }) at lt in
    record {
      child = before_last page place bound children at lt;
      before = refl;
      after = ap body.PostInner (made ∙ r.less);
    }

-- the page that is left has an encoding
pub unlinked_page : (p : Page) (page place bound : ℕ) (children fewer : List PostChild) → IsPage p
    → p.body ≡ body.PostInner children → slice_get children place ≡ Some (record { page = page; bound = bound })
    → place + 1 < length children → fewer ≡ remove children place
    → IsPage (record { right = p.right; stamp = p.stamp; body = body.PostInner fewer })
unlinked_page p page place bound children fewer is was at lt made =
    let c : PostChild = record { page = page; bound = bound } in
    let r = cut_at children place c at lt in
    let less : fewer ≡ r.front ++ r.next ∷ r.back = made ∙ r.less in
    let on : ArePostChildren p.right children = subst (IsBody p.right p.stamp) was is.body in
    let here : ArePostChildren p.right (r.front ++ c ∷ r.next ∷ r.back) = subst (ArePostChildren p.right) r.whole on in
    let left : ArePostChildren p.right (r.front ++ r.next ∷ r.back) = record {
      some = not_none r.front r.next r.back;
      each = all_fewer (IsPostChild p.right) r.front (r.next ∷ r.back) c here.each;
      rising = rising_fewer Below r.front (r.next ∷ r.back) c here.rising;
    } in
    let shorter : length fewer + 1 ≡ length children = omega (
      arith,
      ap length less,
      ap length r.whole,
      length-append r.front (r.next ∷ r.back),
      length-append r.front (c ∷ r.next ∷ r.back),
    ) in
    let size : length (body_bytes p.body) ≡ 8 * length children =
    ap (λ (b : Body). length (body_bytes b)) was ∙ post_children_size children in
    record {
      right = is.right;
      stamp = is.stamp;
      body = subst (ArePostChildren p.right) (sym less) left;
      count = omega (arith, shorter, ap count_of was, is.count);
      fits = omega (arith, shorter, size, is.fits, post_children_size fewer);
    }
