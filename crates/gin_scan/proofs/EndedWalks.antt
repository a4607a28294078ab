-- Walks through the tree that have all ended are those of a whole walk for the query.
use Rattle.std.proofs.Common.{◌≡◌, ℕ, zero, suc, ◌<◌, Bool, true, false, List, [], ◌∷◌, ◌++◌}
use Rattle.std.proofs.Common.{length, map}
use Rattle.std.proofs.Common.{None, refl, sym, ap, subst, ◌∙◌, inl, inr, arith, slice_get, slice_index_or}
use Rattle.std.proofs.Common.{All}
use Rattle.std.proofs.Common.{AllPairs, append-nil, length-append}
use Rattle.std.proofs.lemmas.List.Kept.{AllPairs-cons}
use Rattle.core_state.specs.Log.{In}
use Rattle.core_state.specs.Changes.{KeyAtMost}
use Rattle.gin_opclass.specs.Class.{Asked, Meaning}
use Rattle.core_moments.specs.Walk.{Sought, KeyWalk, IsKeyWalk, AreKeyWalks, first_key, sought_of}
use Rattle.core_moments.specs.Law.{AreSought}
use Rattle.gin_hits.specs.Ordered.{AskedLess, AreOrdered}
use Rattle.gin_hits.proofs.MappedLists.{in_map, of_map}
use Rattle.gin_scan.specs.Ways.{AreEach, AreWalks, sought_by}

-- ── lists of pairs ──

pair_at : {A : Type 0} (R : A → A → Type 0) (x : A) (xs : List A) → AllPairs R (x ∷ xs) → (y : A) → In y xs → R x y
pair_at R x xs p y m = by xs y m (λ k d l. p zero (suc k) d (omega arith) (omega (arith, l)))
  where
    by : (ys : List _) (y : _) → In y ys → ((k : ℕ) (d : _) → k < length ys → R x (slice_index_or ys k d)) → R x y
    by [] y m f = absurd m
    by (z ∷ zs) y (inl e) f = subst (R x) (sym e) (f zero z (omega arith))
    by (z ∷ zs) y (inr m) f = by zs y m (λ k d l. f (suc k) d (omega (arith, l)))

tail_pairs : {A : Type 0} (R : A → A → Type 0) (x : A) (xs : List A) → AllPairs R (x ∷ xs) → AllPairs R xs
tail_pairs R x xs p i j d lt within = p (suc i) (suc j) d (omega (arith, lt)) (omega (arith, within))

all_of : {A : Type 0} (P : A → Type 0) (xs : List A) → ((x : A) → In x xs → P x) → All P xs
all_of P [] f i d l = absurd (omega (arith, l))
all_of P (x ∷ xs) f zero d l = f x (inl refl)
all_of P (x ∷ xs) f (suc i) d l = all_of P xs (λ y m. f y (inr m)) i d (omega (arith, l))

pairs_map : {A B : Type 0} (R : A → A → Type 0) (S : B → B → Type 0) (f : A → B)
    → ((a b : A) → R a b → S (f a) (f b)) → (xs : List A) → AllPairs R xs → AllPairs S (map f xs)
pairs_map R S f to [] p = λ i j d lt within. absurd (omega (arith, lt, within))
pairs_map R S f to (x ∷ xs) p =
    AllPairs-cons S (f x) (map f xs)
    (all_of (S (f x)) (map f xs) (λ y m.
    let r = of_map f y xs m in subst (S (f x)) (sym r.2) (to x r.0 (pair_at R x xs p r.0 r.1))))
    (pairs_map R S f to xs (tail_pairs R x xs p))

-- ── what is sought ──

pub key_of : (a : Asked) → first_key (sought_of a) ≡ a.key
key_of a = by a.prefix refl
  where
    by : (b : Bool) → a.prefix ≡ b → first_key (sought_of a) ≡ a.key
    by true e = ap (λ (p : Bool). first_key (sought_of (record a { prefix = p }))) e
    by false e = ap (λ (p : Bool). first_key (sought_of (record a { prefix = p }))) e

at_most : (a b : Asked) → AskedLess a b → KeyAtMost (first_key (sought_of a)) (first_key (sought_of b))
at_most a b l =
    subst (λ (k : List ℕ). KeyAtMost k (first_key (sought_of b))) (sym (key_of a))
    (subst (KeyAtMost a.key) (sym (key_of b)) (elim l [ inl less ↦ inl less | inr same ↦ inr same.0 ]))

-- the keys in their order are what a walk for the query looks for
pub order_sought : {Q : Type 0} (M : Meaning Q) (q : Q) (order : List Asked) → AreOrdered (M.asked q) order
    → (all : Bool) → all ≡ M.all q → AreSought M q (sought_by all order)
order_sought M q order o true e = record {
  of_all = λ f. refl;
  each = λ f a i. absurd (let z : true ≡ false = e ∙ f in let y : ⊥ = cc in y);
  only = λ f s i. absurd (let z : true ≡ false = e ∙ f in let y : ⊥ = cc in y);
  in_order = λ i j d lt within. absurd (omega (arith, lt, within));
}
order_sought M q order o false e = record {
  of_all = λ f. absurd (let z : false ≡ true = e ∙ f in let y : ⊥ = cc in y);
  each = λ f a i. in_map sought_of a order ((o.just a).1 i);
  only = λ f s i. let r = of_map sought_of s order i in (r.0, (o.just r.0).0 r.1, r.2);
  in_order = pairs_map AskedLess (λ (s t : Sought). KeyAtMost (first_key s) (first_key t)) sought_of at_most order
      o.rising;
}

-- ── all walks ──

none_left : (done rest sought : List Sought) → done ++ rest ≡ sought → length done ≡ length sought → rest ≡ []
none_left done [] sought e f = refl
none_left done (s ∷ rest) sought e f =
    absurd (omega (arith, length-append done (s ∷ rest), ap length e, f))

pub past_end : {A : Type 0} (xs : List A) → slice_get xs (length xs) ≡ None
past_end [] = refl
past_end (x ∷ xs) = past_end xs

each_is : (ss : List Sought) (ks : List KeyWalk) → AreEach IsKeyWalk ss ks → AreKeyWalks ss ks
each_is [] [] e = tt
each_is [] (k ∷ ks) e = absurd e
each_is (s ∷ ss) [] e = absurd e
each_is (s ∷ ss) (k ∷ ks) e = (e.0, e.1, each_is ss ks e.2)

-- where as many have ended as are sought, they are the walks for these
pub all_ended : (sought : List Sought) (Open : Sought → List KeyWalk → Type 0) (ks : List KeyWalk)
    → AreWalks IsKeyWalk sought (length sought) Open ks → AreKeyWalks sought ks
all_ended sought Open ks w =
    let rest = none_left w.done w.rest sought w.parts w.count in
    let done : w.done ≡ sought = sym (append-nil w.done) ∙ ap (λ (r : List Sought). w.done ++ r) (sym rest) ∙ w.parts in
    let walks : w.over ≡ ks = sym (append-nil w.over)
    ∙ ap (λ (l : List KeyWalk). w.over ++ l) (sym (w.ended (past_end sought))) ∙ sym w.walks in
    subst (λ (ss : List Sought). AreKeyWalks ss ks) done
    (subst (AreKeyWalks w.done) walks (each_is w.done w.over w.are_over))
