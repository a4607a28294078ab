-- What a walk through the tree looks for, as the code has it: a key that is asked, or all, which begin with no bytes.
use Rattle.std.proofs.Common.{◌≡◌, ℕ, zero, suc, Bool, true, false, cond, ◌||◌, List, [], ◌∷◌, map}
use Rattle.std.proofs.Common.{None}
use Rattle.std.proofs.Common.{Some, refl, sym, ap, subst, ◌∙◌, slice_get, option_map}
use Rattle.std.proofs.lemmas.Option.{slice_get-map, same_Some}
use Rattle.page_types.specs.declared.page.Page.{Page}
use Rattle.page_types.specs.declared.page.Entry.{Entry}
use Rattle.page_types.specs.declared.page.Body.{Body}
use Rattle.page_types.specs.declared.page.Body.TheVariants as body
use Rattle.gin_opclass.specs.Class.{Asked}
use Rattle.gin_opclass.specs.declared.QueryKeys.{QueryKeys}
use Rattle.core_moments.specs.Walk as walk
use Rattle.core_moments.specs.Walk.{Sought, first_key, fits, sought_of, is_empty}
use Rattle.core_moments.specs.Judging.{fits_asked}
use Rattle.gin_hits.specs.Rows.{asked_for}
use Rattle.gin_hits.specs.Entries.{entries_with}
use Rattle.gin_hits.specs.Ordered.{asked_at}
use Rattle.gin_scan.specs.Scanning.{sought_for, walked_by}
use Rattle.gin_scan.specs.Ways.{sought_by}
use Rattle.gin_scan.proofs.EndedWalks.{key_of}

-- ── what the code takes ──

one_at : {A : Type 0} (x a : A) (k : ℕ) → slice_get (x ∷ []) k ≡ Some a → x ≡ a
one_at x a zero e = same_Some x a e
one_at x a (suc k) e = absurd (let z : ⊥ = cc in z)

walked : (keys : QueryKeys) (order : List ℕ) (b : Bool) → keys.all ≡ b
    → walked_by keys order ≡ cond b (asked_for [] true ∷ []) (map (asked_at keys.keys.items) order)
walked keys order b e =
    ap (λ (c : Bool). cond c (asked_for [] true ∷ []) (map (asked_at keys.keys.items) order)) e

-- all keys
pub all_at : (keys : QueryKeys) (order : List ℕ) (number : ℕ) → keys.all ≡ true → (a : Asked)
    → slice_get (walked_by keys order) number ≡ Some a → asked_for [] true ≡ a
all_at keys order number all a e =
    one_at (asked_for [] true) a number
    (ap (λ (as' : List Asked). slice_get as' number) (sym (walked keys order true all)) ∙ e)

-- the key with this number
pub key_here : (keys : QueryKeys) (order : List ℕ) (number k : ℕ) → keys.all ≡ false → slice_get order number ≡ Some k
    → (a : Asked) → slice_get (walked_by keys order) number ≡ Some a → asked_at keys.keys.items k ≡ a
key_here keys order number k all at a e =
    same_Some (asked_at keys.keys.items k) a
    (ap (option_map (asked_at keys.keys.items)) (sym at)
    ∙ sym (slice_get-map (asked_at keys.keys.items) order number)
    ∙ ap (λ (as' : List Asked). slice_get as' number) (sym (walked keys order false all)) ∙ e)

-- there is none
pub none_here : (keys : QueryKeys) (order : List ℕ) (number : ℕ) → keys.all ≡ false → slice_get order number ≡ None
    → (a : Asked) → slice_get (walked_by keys order) number ≡ Some a → ⊥
none_here keys order number all at a e =
    let z : None ≡ Some a = ap (option_map (asked_at keys.keys.items)) (sym at)
    ∙ sym (slice_get-map (asked_at keys.keys.items) order number)
    ∙ ap (λ (as' : List Asked). slice_get as' number) (sym (walked keys order false all)) ∙ e in
    let y : ⊥ = cc in y

-- ── what it is for ──

-- the walk and the key tell the same keys and leaves
pub record IsFor (w : Sought) (a : Asked) : Type 0 where
  pub first : first_key w ≡ a.key
  pub entries : (es : List Entry) → entries_with (fits w) es ≡ entries_with (fits_asked a) es
  pub beyond : (c : Page) → walk.beyond w c ≡ walk.beyond (sought_of a) c

or_true : (b : Bool) → (b || true) ≡ true
or_true true = refl
or_true false = refl

-- all keys begin with no bytes
whole_beyond : (c : Page) (b : Body) → c.body ≡ b → walk.beyond Sought.whole c ≡ walk.beyond (Sought.prefix []) c
whole_beyond c b e =
    subst (λ (z : Body). walk.beyond Sought.whole (record { right = c.right; stamp = c.stamp; body = z })
    ≡ walk.beyond (Sought.prefix []) (record { right = c.right; stamp = c.stamp; body = z })) (sym e) (by b)
  where
    by : (b : Body) → walk.beyond Sought.whole (record { right = c.right; stamp = c.stamp; body = b })
        ≡ walk.beyond (Sought.prefix []) (record { right = c.right; stamp = c.stamp; body = b })
    by (body.EntryLeaf high es) = ap (λ (z : Bool). cond z c.right 0) (sym (or_true (is_empty high)))
    by body.Free = refl
    by (body.Deleted g) = refl
    by (body.Meta x y z) = refl
    by (body.Heap x) = refl
    by (body.Overflow x) = refl
    by (body.Pending x) = refl
    by (body.EntryInner x) = refl
    by (body.PostLeaf x y) = refl
    by (body.PostInner x) = refl

pub all_for : IsFor Sought.whole (asked_for [] true)
all_for = record { first = refl; entries = λ es. refl; beyond = λ c. whole_beyond c c.body refl }

pub key_for : (a : Asked) → IsFor (sought_of a) a
key_for a = record { first = key_of a; entries = λ es. refl; beyond = λ c. refl }

-- of each walk
pub is_for : (keys : QueryKeys) (order : List ℕ) (number : ℕ) (w : Sought)
    → slice_get (sought_for keys order) number ≡ Some w
    → (a : Asked) × (slice_get (walked_by keys order) number ≡ Some a) × IsFor w a
is_for keys order number w here = by keys.all refl
  where
    by : (b : Bool) → keys.all ≡ b → (a : Asked) × (slice_get (walked_by keys order) number ≡ Some a) × IsFor w a
    by true e = (
      asked_for [] true,
      ap (λ (as' : List Asked). slice_get as' number) (walked keys order true e)
          ∙ only number (ap (λ (c : Bool). slice_get (sought_by c (map (asked_at keys.keys.items) order)) number)
          (sym e) ∙ here),
      subst (λ (u : Sought). IsFor u (asked_for [] true))
          (one_at Sought.whole w number
          (ap (λ (c : Bool). slice_get (sought_by c (map (asked_at keys.keys.items) order)) number) (sym e) ∙ here))
          all_for,
    )
      where
        only : (k : ℕ) → slice_get (Sought.whole ∷ []) k ≡ Some w
            → slice_get (asked_for [] true ∷ []) k ≡ Some (asked_for [] true)
        only zero f = refl
        only (suc k) f = absurd (let z : ⊥ = cc in z)
    by false e =
        let f : slice_get (map sought_of (map (asked_at keys.keys.items) order)) number ≡ Some w =
        ap (λ (c : Bool). slice_get (sought_by c (map (asked_at keys.keys.items) order)) number) (sym e) ∙ here in
        let g = of_map (map (asked_at keys.keys.items) order) number f in (
          g.0,
          ap (λ (as' : List Asked). slice_get as' number) (walked keys order false e) ∙ g.1,
          subst (λ (u : Sought). IsFor u g.0) g.2 (key_for g.0),
        )
      where
        of_map : (as' : List Asked) (k : ℕ) → slice_get (map sought_of as') k ≡ Some w
            → (a : Asked) × (slice_get as' k ≡ Some a) × (sought_of a ≡ w)
        of_map [] k f = absurd (let z : ⊥ = cc in z)
        of_map (a ∷ as') zero f = (a, refl, same_Some (sought_of a) w f)
        of_map (a ∷ as') (suc k) f = of_map as' k f
