-- So many values, each read after the last: what is read was encoded, and what is encoded is read.
use Rattle.std.proofs.Common.{◌≡◌, ℕ, zero, suc, List, [], ◌∷◌, ◌++◌, length, Result, Ok, refl, sym, ap, subst, ◌∙◌}
use Rattle.std.proofs.Common.{append_assoc}
use Rattle.std.specs.List.{flat_map, AllByRecursion}
use Rattle.std.proofs.lemmas.List.{append-nil}
use Rattle.std.proofs.lemmas.List.Concat.{flat_map-cons}
use Rattle.page_types.specs.Fields.{◌>>=◌}
use Rattle.page_types.specs.Keys.{Rising}
use Rattle.page_types.proofs.FieldReading.{IsBytes, bind_ok, Takes, Takes-then}
use Rattle.page_code.specs.Fields.{Read, each_at}

abbrev pub done : {A : Type 0} → A → Result A ℕ
done x = Ok x

pub ok_is : {A : Type 0} (x y : A) → done x ≡ done y → x ≡ y
ok_is x y e = cc

-- A reader of values that are encoded so, and that fit after what the last one left, with so many after them.
pub record IsReader {A M : Type 0} (read : M → ℕ → List ℕ → Read A) (encode : A → List ℕ)
    (Fits : M → ℕ → A → Type 0) : Type 0 where
  pub takes : (last : M) (k : ℕ) (bytes : List ℕ) (x : A × List ℕ) → IsBytes bytes → read last k bytes ≡ Ok x
      → Takes bytes (encode x.0) x.1 × Fits last k x.0
  pub again : (last : M) (k : ℕ) (x : A) (rest : List ℕ) → Fits last k x → read last k (encode x ++ rest) ≡ Ok (x, rest)

-- each fits after the one before it
abbrev pub AllFit : {A M : Type 0} → (M → ℕ → A → Type 0) → (A → M) → M → List A → Type 0
AllFit Fits mark last [] = Unit {0}
AllFit Fits mark last (x ∷ xs) = Fits last (length xs) x × AllFit Fits mark (mark x) xs

-- values that are read after others
pub record TakesEach {A M : Type 0} (encode : A → List ℕ) (Fits : M → ℕ → A → Type 0) (mark : A → M) (last : M) (k : ℕ)
    (before : List A) (bytes : List ℕ) (all : List A) (rest : List ℕ) : Type 0 where
  pub new : List A
  pub all_are : all ≡ before ++ new
  pub takes : Takes bytes (flat_map encode new) rest
  pub count : length new ≡ k
  pub fit : AllFit Fits mark last new

each_take : {A M : Type 0} (read : M → ℕ → List ℕ → Read A) (encode : A → List ℕ) (Fits : M → ℕ → A → Type 0) (mark : A
    → M) → IsReader read encode Fits → (last : M) (k : ℕ) (before : List A) (bytes : List ℕ) (x : List A × List ℕ)
    → IsBytes bytes → each_at read mark last k before bytes ≡ Ok x
    → TakesEach encode Fits mark last k before bytes x.0 x.1
unfolding each_at
each_take {A} read encode Fits mark r last zero before bytes x fits e =
    let made : List A × List ℕ = (before, bytes) in
    let whole : TakesEach encode Fits mark last zero before bytes made.0 made.1 = record {
      new = [];
      all_are = sym (append-nil before);
      takes = record { parts = refl; rest_fits = fits };
      count = refl;
      fit = tt;
    } in
    subst (λ (y : List A × List ℕ). TakesEach encode Fits mark last zero before bytes y.0 y.1) (ok_is made x e) whole
each_take {A} read encode Fits mark r last (suc k) before bytes x fits e =
    let a = bind_ok (read last k bytes) (λ y. each_at read mark (mark y.0) k (before ++ y.0 ∷ []) y.1) x e in
    let t = r.takes last k bytes a.0 fits a.1 in
    let more = each_take read encode Fits mark r (mark a.0.0) k (before ++ a.0.0 ∷ []) a.0.1 x t.0.rest_fits a.2 in
    let both = Takes-then bytes (encode a.0.0) a.0.1 (flat_map encode more.new) x.1 t.0 more.takes in
    let here : Fits last (length more.new) a.0.0 = subst (λ n. Fits last n a.0.0) (sym more.count) t.1 in
    record {
      new = a.0.0 ∷ more.new;
      all_are = more.all_are ∙ append_assoc before (a.0.0 ∷ []) more.new;
      takes = rw flat_map-cons both;
      count = ap suc more.count;
      fit = (here, more.fit);
    }

each_again : {A M : Type 0} (read : M → ℕ → List ℕ → Read A) (encode : A → List ℕ) (Fits : M → ℕ → A → Type 0)
    (mark : A → M) → IsReader read encode Fits → (last : M) (before xs : List A) (rest : List ℕ)
    → AllFit Fits mark last xs
    → each_at read mark last (length xs) before (flat_map encode xs ++ rest) ≡ Ok (before ++ xs, rest)
unfolding each_at
each_again {A} read encode Fits mark r last before [] rest fit =
    ap (λ (l : List A). Ok (l, rest)) (sym (append-nil before))
each_again {A} read encode Fits mark r last before (x ∷ xs) rest fit =
    let regrouped : flat_map encode (x ∷ xs) ++ rest ≡ encode x ++ (flat_map encode xs ++ rest) = ap
    (λ (t : List ℕ). t ++ rest) (flat_map-cons encode x xs) ∙ append_assoc (encode x) (flat_map encode xs) rest in
    let first = r.again last (length xs) x (flat_map encode xs ++ rest) fit.0 in
    let others = each_again read encode Fits mark r (mark x) (before ++ x ∷ []) xs rest fit.1 in
    ap (each_at read mark last (suc (length xs)) before) regrouped
    ∙ ap (λ (t : Read A). t >>= λ y. each_at read mark (mark y.0) (length xs) (before ++ y.0 ∷ []) y.1) first
    ∙ others ∙ ap (λ (l : List A). Ok (l, rest)) (append_assoc before (x ∷ []) xs)

-- so many values, from the first on
pub record TakesAll {A M : Type 0} (encode : A → List ℕ) (Fits : M → ℕ → A → Type 0) (mark : A → M) (last : M) (k : ℕ)
    (bytes : List ℕ) (xs : List A) (rest : List ℕ) : Type 0 where
  pub takes : Takes bytes (flat_map encode xs) rest
  pub count : length xs ≡ k
  pub fit : AllFit Fits mark last xs

pub all_take : {A M : Type 0} (read : M → ℕ → List ℕ → Read A) (encode : A → List ℕ) (Fits : M → ℕ → A → Type 0)
    (mark : A → M) → IsReader read encode Fits → (last : M) (k : ℕ) (bytes : List ℕ) (x : List A × List ℕ)
    → IsBytes bytes → each_at read mark last k [] bytes ≡ Ok x → TakesAll encode Fits mark last k bytes x.0 x.1
all_take {A} read encode Fits mark r last k bytes x fits e =
    let t = each_take read encode Fits mark r last k [] bytes x fits e in
    let whole : TakesAll encode Fits mark last k bytes t.new x.1 =
    record { takes = t.takes; count = t.count; fit = t.fit } in
    subst (λ (xs : List A). TakesAll encode Fits mark last k bytes xs x.1) (sym t.all_are) whole

pub all_again : {A M : Type 0} (read : M → ℕ → List ℕ → Read A) (encode : A → List ℕ) (Fits : M → ℕ → A → Type 0)
    (mark : A → M) → IsReader read encode Fits → (last : M) (xs : List A) (rest : List ℕ)
    → AllFit Fits mark last xs → each_at read mark last (length xs) [] (flat_map encode xs ++ rest) ≡ Ok (xs, rest)
all_again read encode Fits mark r last xs rest fit = each_again read encode Fits mark r last [] xs rest fit

-- ---- values that fit anywhere, and values that rise

pub each_fits : {A M : Type 0} (P : A → Type 0) (mark : A → M) (last : M) (xs : List A)
    → AllFit (λ _ _ x. P x) mark last xs → AllByRecursion P xs
each_fits P mark last [] h = tt
each_fits P mark last (x ∷ xs) h = (h.0, each_fits P mark (mark x) xs h.1)

pub all_fit : {A M : Type 0} (P : A → Type 0) (mark : A → M) (last : M) (xs : List A) → AllByRecursion P xs
    → AllFit (λ _ _ x. P x) mark last xs
all_fit P mark last [] h = tt
all_fit P mark last (x ∷ xs) h = (h.0, all_fit P mark (mark x) xs h.1)

pub all_above : {A : Type 0} (P Q : A → Type 0) → ((y : A) → P y → Q y) → (ys : List A) → AllByRecursion P ys
    → AllByRecursion Q ys
all_above P Q f [] h = tt
all_above P Q f (y ∷ ys) h = (f y h.0, all_above P Q f ys h.1)

pub chain_above : {A M : Type 0} (P : A → Type 0) (Above : M → A → Type 0) (mark : A → M)
    → ((last : M) (x y : A) → Above last x → Above (mark x) y → Above last y) → (last : M) (xs : List A)
    → AllFit (λ m _ x. P x × Above m x) mark last xs
    → AllByRecursion P xs × AllByRecursion (Above last) xs × Rising (λ x y. Above (mark x) y) xs
chain_above P Above mark trans last [] h = (tt, tt, tt)
chain_above P Above mark trans last (x ∷ xs) h =
    let rest = chain_above P Above mark trans (mark x) xs h.1 in (
      (h.0.0, rest.0),
      (h.0.1, all_above (Above (mark x)) (Above last) (λ y a. trans last x y h.0.1 a) xs rest.1),
      (rest.1, rest.2),
    )

pub above_chain : {A M : Type 0} (P : A → Type 0) (Above : M → A → Type 0) (mark : A → M) (last : M) (xs : List A)
    → AllByRecursion P xs → AllByRecursion (Above last) xs → Rising (λ x y. Above (mark x) y) xs
    → AllFit (λ m _ x. P x × Above m x) mark last xs
above_chain P Above mark last [] p a r = tt
above_chain P Above mark last (x ∷ xs) p a r = ((p.0, a.0), above_chain P Above mark (mark x) xs p.1 r.0 r.1)
