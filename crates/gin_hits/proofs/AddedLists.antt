-- Lists, one a key that is asked, to each of which some items are added.
use Rattle.std.proofs.Common.{◌≡◌, ℕ, zero, suc, ◌+◌, ◌<◌, Bool, List, [], ◌∷◌, ◌++◌, length}
use Rattle.std.proofs.Common.{map, take, set, get_or, Some, refl, sym, ap, ap₂, subst, ◌∙◌, arith, add-one, slice_get}
use Rattle.std.proofs.lemmas.List.{append-nil, length-map, map-set, set-get_or}
use Rattle.std.specs.Prelude.{Vec, option_map}
use Rattle.std.specs.declared.alloc.Global.{Global}
use Rattle.std.proofs.lemmas.Option.{get_or_from_slice_get, slice_get-get_or, slice_get-map, slice_get_read}
use Rattle.gin_opclass.specs.Class.{Asked}
use Rattle.gin_hits.specs.Rows.{asked_by, lists_of}
use Rattle.gin_hits.specs.declared.hits.Hits.{Hits}
use Rattle.gin_hits.proofs.ItemLists.{items_in}

module _ (f : Asked → List ℕ) where
  -- the lists of these keys, each with what is added for its key
  abbrev pub added : List Asked → List (List ℕ) → List (List ℕ)
  added [] ls = ls
  added (a ∷ as') [] = []
  added (a ∷ as') (l ∷ ls) = (l ++ f a) ∷ added as' ls

  -- ── one key more ──

  added_next : (as' : List Asked) (ls : List (List ℕ)) (k : ℕ) (a : Asked) (l : List ℕ)
      → slice_get as' k ≡ Some a → slice_get (added (take k as') ls) k ≡ Some l
      → added (take (suc k) as') ls ≡ set (added (take k as') ls) k (l ++ f a)
  added_next [] ls k a l e g = absurd (let z : ⊥ = cc in z)
  added_next (b ∷ bs) [] zero a l e g = absurd (let z : ⊥ = cc in z)
  added_next (b ∷ bs) [] (suc k) a l e g = absurd (let z : ⊥ = cc in z)
  added_next (b ∷ bs) (x ∷ xs) zero a l e g =
      let key : b ≡ a = cc in
      let list : x ≡ l = cc in
      ap₂ (λ (c : Asked) (y : List ℕ). (y ++ f c) ∷ xs) key list
  added_next (b ∷ bs) (x ∷ xs) (suc k) a l e g =
      ap (λ (ys : List (List ℕ)). (x ++ f b) ∷ ys) (added_next bs xs k a l e g)

  module _ (as' : List Asked) (old now : List (List ℕ)) (k : ℕ) (a : Asked) (l : List ℕ)
      (was : now ≡ added (take k as') old) (key : slice_get as' k ≡ Some a) (list : slice_get now k ≡ Some l) where
    added_here : added (take (k + 1) as') old ≡ set now k (l ++ f a)
    added_here =
        rw add-one (
        added_next as' old k a l key (subst (λ (ls : List (List ℕ)). slice_get ls k ≡ Some l) was list)
        ∙ ap (λ (ls : List (List ℕ)). set ls k (l ++ f a)) (sym was)
        )

    added_some : (is : List ℕ) → f a ≡ is → set now k (l ++ is) ≡ added (take (k + 1) as') old
    added_some is e = ap (λ (js : List ℕ). set now k (l ++ js)) (sym e) ∙ sym added_here

    added_none : f a ≡ [] → now ≡ added (take (k + 1) as') old
    added_none e =
        sym (set-get_or now k l)
        ∙ ap (set now k) (get_or_from_slice_get now k l l list ∙ sym (append-nil l))
        ∙ added_some [] e

  -- ── in vectors ──

  module _ (asked : List (Vec ℕ Global × Bool)) (old : List (List ℕ)) (now : Hits) (k : ℕ)
      (a : Vec ℕ Global × Bool) (lt : k < length asked) (key : a ≡ get_or asked k a)
      (lists : length now.by_key.items ≡ length asked)
      (was : lists_of now ≡ added (take k (map asked_by asked)) old) where
    key_at : slice_get (map asked_by asked) k ≡ Some (asked_by a)
    key_at = slice_get-map asked_by asked k
        ∙ ap (option_map asked_by) (slice_get_read asked (length asked) k a refl lt key)

    list_at : (v : Vec ℕ Global) → v ≡ get_or now.by_key.items k v → slice_get (lists_of now) k ≡ Some v.items
    list_at v e =
        slice_get-map items_in now.by_key.items k
        ∙ ap (option_map items_in)
        (slice_get_read now.by_key.items (length now.by_key.items) k v refl (omega (arith, lt, lists)) e)

    -- the list of the key was changed
    pub step_some : (is : List ℕ) (v w : Vec ℕ Global) (new : Hits) → v ≡ get_or now.by_key.items k v
        → w.items ≡ v.items ++ is → f (asked_by a) ≡ is
        → new.by_key.items ≡ set now.by_key.items k w → lists_of new ≡ added (take (k + 1) (map asked_by asked)) old
    step_some is v w new e items adds same =
        ap (map items_in) same ∙ map-set items_in now.by_key.items k w ∙ ap (set (lists_of now) k) items
        ∙ added_some (map asked_by asked) old (lists_of now) k (asked_by a) v.items was key_at (list_at v e) is adds

    -- it was not, since nothing is added
    pub step_none : f (asked_by a) ≡ [] → lists_of now ≡ added (take (k + 1) (map asked_by asked)) old
    step_none off =
        let short : k < length (lists_of now) = omega (arith, length-map now.by_key.items items_in, lists, lt) in
        added_none (map asked_by asked) old (lists_of now) k (asked_by a) (get_or (lists_of now) k []) was key_at
        (slice_get-get_or (lists_of now) k [] short) off

  -- where each list was made so from others, what is added comes after them
  pub all_added : (g : Asked → List ℕ) (as' : List Asked) → added as' (map g as') ≡ map (λ (a : Asked). g a ++ f a) as'
  all_added g [] = refl
  all_added g (a ∷ as') = ap (λ (xs : List (List ℕ)). (g a ++ f a) ∷ xs) (all_added g as')
