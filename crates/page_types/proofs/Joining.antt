-- Values that are joined of two lists of one length: how many, each of them, and one more.
use Rattle.std.proofs.Common.{◌≡◌, ℕ, zero, suc, ◌+◌, ◌-◌, ◌<◌, ◌≤◌, List, [], ◌∷◌, ◌++◌, length, drop, set, get_or}
use Rattle.std.proofs.Common.{slice_range, Option, Some, None, is_some, true, false, refl, sym, ap, subst, ◌∙◌, arith}
use Rattle.std.proofs.lemmas.Bool.{false≢true}
use Rattle.std.proofs.lemmas.List.{length-drop, length-take-le}
use Rattle.std.proofs.lemmas.Option.{slice_get-get_or}
use Rattle.std.specs.Option.{IfSome, option_map}
use Rattle.std.specs.List.{slice_get, insert, remove, sum_by}
use Rattle.page_types.specs.Inner.Cuts.{cut_at, start_at, EndAt}
use Rattle.page_types.specs.Inner.Joins.{joined, slot_with, row_with, child_with, postings_with, entry_with}
use Rattle.page_types.proofs.Cutting.{piece_at, start_at-later}
use Rattle.page_types.specs.Parts.{head_with}
use Rattle.page_types.specs.Views.{slot_at, vector_in, list_in, with_postings}
use Rattle.page_types.specs.declared.page.Head.{Head}
use Rattle.page_types.specs.declared.page.Entry.{Entry}
use Rattle.page_types.specs.declared.page.Postings.{Postings}
use Rattle.page_types.specs.declared.slots.HeadFields.{HeadFields}

pub length-joined : {A B C : Type 0} (f : A → B → C) (xs : List A) (ys : List B) → length xs ≡ length ys
    → length (joined f xs ys) ≡ length xs
length-joined f [] ys e = refl
length-joined f (x ∷ xs) [] e = absurd (omega arith)
length-joined f (x ∷ xs) (y ∷ ys) e = ap suc (length-joined f xs ys (omega arith))

pub joined-more : {A B C : Type 0} (f : A → B → C) (xs : List A) (ys : List B) (x : A) (y : B) → length xs ≡ length ys
    → joined f (xs ++ x ∷ []) (ys ++ y ∷ []) ≡ joined f xs ys ++ f x y ∷ []
joined-more f [] [] x y e = refl
joined-more f [] (b ∷ ys) x y e = absurd (omega arith)
joined-more f (a ∷ xs) [] x y e = absurd (omega arith)
joined-more f (a ∷ xs) (b ∷ ys) x y e = ap (λ t. f a b ∷ t) (joined-more f xs ys x y (omega arith))

pub joined-get : {A B C : Type 0} (f : A → B → C) (xs : List A) (ys : List B) (k : ℕ) (x : A) (y : B)
    → slice_get xs k ≡ Some x → slice_get ys k ≡ Some y → slice_get (joined f xs ys) k ≡ Some (f x y)
joined-get f [] ys k x y p q = absurd cc
joined-get f (a ∷ xs) [] k x y p q = absurd cc
joined-get {C = C} f (a ∷ xs) (b ∷ ys) zero x y p q = let P : C → Option C = λ c. Some c in cc
joined-get f (a ∷ xs) (b ∷ ys) (suc k) x y p q = joined-get f xs ys k x y p q

-- the slot with this number
pub slot_got : (fields : List (Option HeadFields)) (vectors : List (List ℕ)) (k : ℕ)
    (f : Option HeadFields) (v : List ℕ) → slice_get fields k ≡ Some f → slice_get vectors k ≡ Some v
    → slot_at (joined slot_with fields vectors) k ≡ slot_with f v
slot_got [] vectors k f v p q = absurd cc
slot_got (a ∷ fields) [] k f v p q = absurd cc
slot_got (a ∷ fields) (b ∷ vectors) zero f v p q =
    let e : a ≡ f = cc in let d : b ≡ v = cc in ap (λ x. slot_with x b) e ∙ ap (slot_with f) d
slot_got (a ∷ fields) (b ∷ vectors) (suc k) f v p q = slot_got fields vectors k f v p q

pub slot_get : (slots : List (Option Head)) (k : ℕ) (s : Option Head) → k < length slots → s ≡ slot_at slots k
    → slice_get slots k ≡ Some s
slot_get [] k s lt e = absurd (omega arith)
slot_get (a ∷ slots) zero s lt e = ap (λ (t : Option Head). Some t) (sym e)
slot_get (a ∷ slots) (suc k) s lt e = slot_get slots k s (omega arith) e

pub slot_past : (slots : List (Option Head)) (k : ℕ) → length slots ≤ k → slot_at slots k ≡ None
slot_past [] k le = refl
slot_past (s ∷ slots) zero le = absurd (omega arith)
slot_past (s ∷ slots) (suc k) le = slot_past slots k (omega arith)

-- one more after what was joined
pub joined_grown : {A B C : Type 0} (f : A → B → C) (xs xs' : List A) (ys ys' : List B) (x : A) (y : B) (z : C)
    (old : List C) → length xs ≡ length ys → xs' ≡ xs ++ x ∷ [] → ys' ≡ ys ++ y ∷ [] → f x y ≡ z → joined f xs ys ≡ old
    → joined f xs' ys' ≡ old ++ z ∷ []
joined_grown {A} {B} {C} f xs xs' ys ys' x y z old e p q r s =
    let P : List C → C → List C = λ t c. t ++ c ∷ [] in
    ap (λ t. joined f t ys') p ∙ ap (joined f (xs ++ x ∷ [])) q ∙ joined-more f xs ys x y e ∙ ap (λ t. P t (f x y)) s
    ∙ ap (P old) r

joined-set : {A B C : Type 0} (f : A → B → C) (xs : List A) (ys : List B) (k : ℕ) (x : A) (y : B)
    → length xs ≡ length ys → joined f (set xs k x) (set ys k y) ≡ set (joined f xs ys) k (f x y)
joined-set f [] ys k x y e = refl
joined-set f (a ∷ xs) [] k x y e = absurd (omega arith)
joined-set f (a ∷ xs) (b ∷ ys) zero x y e = refl
joined-set f (a ∷ xs) (b ∷ ys) (suc k) x y e = ap (λ t. f a b ∷ t) (joined-set f xs ys k x y (omega arith))

joined-insert : {A B C : Type 0} (f : A → B → C) (xs : List A) (ys : List B) (k : ℕ) (x : A) (y : B)
    → length xs ≡ length ys → joined f (insert xs k x) (insert ys k y) ≡ insert (joined f xs ys) k (f x y)
joined-insert f xs ys zero x y e = refl
joined-insert f [] [] (suc k) x y e = refl
joined-insert f [] (b ∷ ys) (suc k) x y e = absurd (omega arith)
joined-insert f (a ∷ xs) [] (suc k) x y e = absurd (omega arith)
joined-insert f (a ∷ xs) (b ∷ ys) (suc k) x y e = ap (λ t. f a b ∷ t) (joined-insert f xs ys k x y (omega arith))

joined-remove : {A B C : Type 0} (f : A → B → C) (xs : List A) (ys : List B) (k : ℕ) → length xs ≡ length ys
    → joined f (remove xs k) (remove ys k) ≡ remove (joined f xs ys) k
joined-remove f [] [] k e =
    elim k as (λ k. joined f (remove [] k) (remove [] k) ≡ remove (joined f [] []) k) [ zero ↦ refl | suc k ↦ refl ]
joined-remove f [] (b ∷ ys) k e = absurd (omega arith)
joined-remove f (a ∷ xs) [] k e = absurd (omega arith)
joined-remove f (a ∷ xs) (b ∷ ys) zero e = refl
joined-remove f (a ∷ xs) (b ∷ ys) (suc k) e = ap (λ t. f a b ∷ t) (joined-remove f xs ys k (omega arith))

-- another one at a place of what was joined
pub joined_set : {A B C : Type 0} (f : A → B → C) (xs xs' : List A) (ys ys' : List B) (k : ℕ) (x : A) (y : B) (z : C)
    (old : List C) → length xs ≡ length ys → xs' ≡ set xs k x → ys' ≡ set ys k y → f x y ≡ z → joined f xs ys ≡ old
    → joined f xs' ys' ≡ set old k z
joined_set {A} {B} {C} f xs xs' ys ys' k x y z old e p q r s =
    let P : List C → C → List C = λ t c. set t k c in
    ap (λ t. joined f t ys') p ∙ ap (joined f (set xs k x)) q ∙ joined-set f xs ys k x y e ∙ ap (λ t. P t (f x y)) s
    ∙ ap (P old) r

-- one more at a place
pub joined_inserted : {A B C : Type 0} (f : A → B → C) (xs xs' : List A) (ys ys' : List B) (k : ℕ) (x : A)
    (y : B) (z : C) (old : List C) → length xs ≡ length ys → xs' ≡ insert xs k x → ys' ≡ insert ys k y → f x y ≡ z
    → joined f xs ys ≡ old
    → joined f xs' ys' ≡ insert old k z
joined_inserted {A} {B} {C} f xs xs' ys ys' k x y z old e p q r s =
    let P : List C → C → List C = λ t c. insert t k c in
    ap (λ t. joined f t ys') p ∙ ap (joined f (insert xs k x)) q ∙ joined-insert f xs ys k x y e
    ∙ ap (λ t. P t (f x y)) s ∙ ap (P old) r

-- one less
pub joined_removed : {A B C : Type 0} (f : A → B → C) (xs xs' : List A) (ys ys' : List B) (k : ℕ) (old : List C)
    → length xs ≡ length ys → xs' ≡ remove xs k → ys' ≡ remove ys k → joined f xs ys ≡ old
    → joined f xs' ys' ≡ remove old k
joined_removed {A} {B} {C} f xs xs' ys ys' k old e p q s = ap (λ t. joined f t ys') p ∙ ap (joined f (remove xs k)) q
    ∙ joined-remove f xs ys k e ∙ ap (λ (t : List C). remove t k) s

-- what is no longer than a child's bound is no longer than the bound that lies at its place
pub within_bound : (pages : List ℕ) (bounds : List (List ℕ)) (k n : ℕ) → length pages ≡ length bounds → k < length pages
    → IfSome (slice_get (joined child_with pages bounds) k) (λ c. n ≤ length c.bound) → n ≤ length (get_or bounds k [])
within_bound [] bounds k n e lt h = absurd (omega arith)
within_bound (p ∷ pages) [] k n e lt h = absurd (omega arith)
within_bound (p ∷ pages) (b ∷ bounds) zero n e lt h = h
within_bound (p ∷ pages) (b ∷ bounds) (suc k) n e lt h = within_bound pages bounds k n (omega arith) (omega arith) h

-- the same of the keys of a row, which are a part of all keys
pub within_row : (items ends : List ℕ) (all : List (List ℕ)) (k n m : ℕ) → EndAt 0 ends (length all)
    → length items ≡ length ends → k < length items
    → IfSome (slice_get (joined row_with items (cut_at 0 ends all)) k)
    (λ r. (n ≤ length r.keys) × (m ≤ sum_by length r.keys))
    → (n ≤ start_at 0 ends (k + 1) - start_at 0 ends k)
    × (m ≤ sum_by length (slice_range all (start_at 0 ends k) (start_at 0 ends (k + 1))))
within_row items ends all k n m h same lt small =
    let lt' : k < length ends = omega arith in
    let next : k + 1 ≡ suc k = omega arith in
    let later : start_at 0 ends (k + 1) ≡ get_or ends k 0 = ap (start_at 0 ends) next ∙ start_at-later 0 ends k lt' in
    let piece = piece_at ends all k (start_at 0 ends k) (get_or ends k 0) h lt' refl refl in
    let is =
    joined-get row_with items (cut_at 0 ends all) k (get_or items k 0) _ (slice_get-get_or items k 0 lt) piece.2 in
    let fits = rw is at small in
    let size = length-take-le (get_or ends k 0 - start_at 0 ends k) (drop (start_at 0 ends k) all)
    (omega (arith, length-drop (start_at 0 ends k) all, piece.0, piece.1)) in (
      omega (arith, fits.0, size, later),
      subst (λ t. m ≤ sum_by length (slice_range all (start_at 0 ends k) t)) (sym later) fits.1,
    )

-- the same of the vector in a slot
pub within_vector : (fields : List (Option HeadFields)) (vectors : List (List ℕ)) (k n : ℕ)
    → length fields ≡ length vectors → k < length fields
    → n ≤ length (vector_in (slot_at (joined slot_with fields vectors) k)) → n ≤ length (get_or vectors k [])
within_vector [] vectors k n e lt h = absurd (omega arith)
within_vector (f ∷ fields) [] k n e lt h = absurd (omega arith)
within_vector (None ∷ fields) (v ∷ vectors) zero n e lt h = let small : n ≤ 0 = h in omega arith
within_vector (Some f ∷ fields) (v ∷ vectors) zero n e lt h = h
within_vector (f ∷ fields) (v ∷ vectors) (suc k) n e lt h =
    within_vector fields vectors k n (omega arith) (omega arith) h

-- a head with other fields, where there is one
pub fields_set : (fields : List (Option HeadFields)) (vectors : List (List ℕ)) (k : ℕ) (x : Option HeadFields)
    (f : HeadFields) → length fields ≡ length vectors → slice_get fields k ≡ Some x → is_some x ≡ true
    → joined slot_with (set fields k (Some f)) vectors ≡ set (joined slot_with fields vectors) k
    (option_map (λ h. head_with f h.vector) (slot_at (joined slot_with fields vectors) k))
fields_set [] vectors k x f e got some = absurd cc
fields_set (a ∷ fields) [] k x f e got some = absurd (omega arith)
fields_set (None ∷ fields) (v ∷ vectors) zero x f e got some =
    let n : None ≡ x = cc in absurd (false≢true (ap is_some n ∙ some))
fields_set (Some a ∷ fields) (v ∷ vectors) zero x f e got some = refl
fields_set (a ∷ fields) (v ∷ vectors) (suc k) x f e got some =
    ap (λ t. slot_with a v ∷ t) (fields_set fields vectors k x f (omega arith) got some)

pub fields_free : (fields : List (Option HeadFields)) (vectors : List (List ℕ)) (k : ℕ) (x : Option HeadFields)
    (f : HeadFields) → length fields ≡ length vectors → slice_get fields k ≡ Some x → is_some x ≡ false
    → joined slot_with fields vectors ≡ set (joined slot_with fields vectors) k
    (option_map (λ h. head_with f h.vector) (slot_at (joined slot_with fields vectors) k))
fields_free [] vectors k x f e got none = absurd cc
fields_free (a ∷ fields) [] k x f e got none = absurd (omega arith)
fields_free (None ∷ fields) (v ∷ vectors) zero x f e got none = refl
fields_free (Some a ∷ fields) (v ∷ vectors) zero x f e got none =
    let n : Some a ≡ x = cc in absurd (false≢true (sym none ∙ sym (ap is_some n)))
fields_free (a ∷ fields) (v ∷ vectors) (suc k) x f e got none =
    ap (λ t. slot_with a v ∷ t) (fields_free fields vectors k x f (omega arith) got none)

entries_set : (keys : List (List ℕ)) (ps : List Postings) (k : ℕ) (p : Postings) → length keys ≡ length ps
    → joined entry_with keys (set ps k p) ≡ with_postings (joined entry_with keys ps) k p
entries_set [] ps k p e = refl
entries_set (a ∷ keys) [] k p e = absurd (omega arith)
entries_set (a ∷ keys) (q ∷ ps) zero p e = refl
entries_set (a ∷ keys) (q ∷ ps) (suc k) p e = ap (λ t. entry_with a q ∷ t) (entries_set keys ps k p (omega arith))

-- an entry with other items
pub postings_set : (keys : List (List ℕ)) (roots roots' : List (Option ℕ)) (lists lists' : List (List ℕ))
    (k : ℕ) (r : Option ℕ) (l : List ℕ) (p : Postings) (old : List Entry) → length keys ≡ length roots
    → length lists ≡ length roots → roots' ≡ set roots k r → lists' ≡ set lists k l
    → postings_with r l ≡ p → joined entry_with keys (joined postings_with roots lists) ≡ old
    → joined entry_with keys (joined postings_with roots' lists') ≡ with_postings old k p
postings_set keys roots roots' lists lists' k r l p old e d q s t u =
    let P : List Entry → Postings → List Entry = λ es p. with_postings es k p in
    ap (joined entry_with keys) (joined_set postings_with roots roots' lists lists' k r l p
    (joined postings_with roots lists) (sym d) q s t refl)
    ∙ entries_set keys (joined postings_with roots lists) k p
    (e ∙ sym (length-joined postings_with roots lists (sym d))) ∙ ap (λ es. P es p) u

-- what is no longer than an entry's list is no longer than the list that lies at its place
pub within_list : (keys : List (List ℕ)) (roots : List (Option ℕ)) (lists : List (List ℕ)) (k n : ℕ)
    → length keys ≡ length roots → length lists ≡ length roots → k < length roots
    → IfSome (slice_get (joined entry_with keys (joined postings_with roots lists)) k) (λ e. n
    ≤ length (list_in e.postings)) → n ≤ length (get_or lists k [])
within_list keys [] lists k n e d lt h = absurd (omega arith)
within_list [] (r ∷ roots) lists k n e d lt h = absurd (omega arith)
within_list (a ∷ keys) (r ∷ roots) [] k n e d lt h = absurd (omega arith)
within_list (a ∷ keys) (None ∷ roots) (l ∷ lists) zero n e d lt h = h
within_list (a ∷ keys) (Some r ∷ roots) (l ∷ lists) zero n e d lt h = let small : n ≤ 0 = h in omega arith
within_list (a ∷ keys) (r ∷ roots) (l ∷ lists) (suc k) n e d lt h =
    within_list keys roots lists k n (omega arith) (omega arith) (omega arith) h

-- what was put in and taken out again
pub insert_removed : {A : Type 0} (xs : List A) (k : ℕ) (x : A) → k ≤ length xs → remove (insert xs k x) k ≡ xs
insert_removed xs zero x le = refl
insert_removed [] (suc k) x le = absurd (omega arith)
insert_removed {A} (a ∷ xs) (suc k) x le = ap (λ (t : List A). a ∷ t) (insert_removed xs k x (omega arith))
