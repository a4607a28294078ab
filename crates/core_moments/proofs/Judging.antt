-- From what a walk has read of a document's item to keeping it, and to a yes without its vector.
use Rattle.std.proofs.Common.{◌≡◌, ◌≢◌, ◌⊎◌, ℕ, Bool, true, false, cond, not, ◌&&◌, ◌||◌, List, [], ◌∷◌, map, refl, sym}
use Rattle.std.proofs.Common.{ap, subst, ap₂, inl, inr}
use Rattle.ts_base.specs.Vectors.{Vector}
use Rattle.core_state.specs.Log.{In}
use Rattle.ts_base.specs.declared.Tri.{Tri}
use Rattle.gin_opclass.specs.Class.{Asked, Meaning, HasKey, SoundValue, SoundValues, JudgeIsSound}
use Rattle.ts_base.specs.declared.Tri.TheVariants.{False, Maybe, True}
use Rattle.core_moments.specs.Walk.{Walk}
use Rattle.core_moments.specs.Judging.{met, pending_has, is_exception, main_read, main_has, values, IsKept, HasYes}

pub known : (b : Bool) → (b ≡ true) ⊎ (b ≡ false)
known true = inl refl
known false = inr refl

true_not_false : (b : Bool) → b ≡ true → b ≡ false → ⊥
true_not_false true e f = cc
true_not_false false e f = cc

pub or_left : (a b : Bool) → a ≡ true → (a || b) ≡ true
or_left true b e = refl
or_left false b e = cc

pub or_right : (a b : Bool) → b ≡ true → (a || b) ≡ true
or_right true b e = refl
or_right false b e = e

-- some element passes, or none
pub any_or_none : {A : Type 0} (p : A → Bool) (xs : List A) → ((x : A) × In x xs × (p x ≡ true))
    ⊎ ((x : A) → In x xs → p x ≡ false)
any_or_none p [] = inr (λ x m. absurd m)
any_or_none {A} p (y ∷ ys) = elim (known (p y)) [
  | inl e ↦ inl (y, inl refl, e)
  | inr e ↦ elim (any_or_none p ys) [
    | inl f ↦ inl (f.0, inr f.1, f.2)
    | inr f ↦ inr (λ x m. elim m [ inl h ↦ subst (λ (z : A). p z ≡ false) (sym h) e | inr n ↦ f x n ])
  ]
]

-- a value for each key asked is sound where True is given to keys that are there, and the other answer is sound
-- where it is given
pub sound_values : (v : Vector) (has : Asked → Bool) (absent : Tri) (as' : List Asked)
    → ((a : Asked) → In a as' → has a ≡ true → HasKey v a)
    → ((a : Asked) → In a as' → has a ≡ false → SoundValue (HasKey v a) absent)
    → SoundValues (HasKey v) as' (values has absent as')
sound_values v has absent [] yes' no' = tt
sound_values v has absent (a ∷ as') yes' no' =
    (one (has a) refl, sound_values v has absent as' (λ b m. yes' b (inr m)) (λ b m. no' b (inr m)))
  where
    one : (b : Bool) → has a ≡ b → SoundValue (HasKey v a) (cond b True absent)
    one true e = yes' a (inl refl) e
    one false e = no' a (inl refl) e

all_false : (has : Asked → Bool) (as' : List Asked) → ((a : Asked) → In a as' → has a ≡ false)
    → values has False as' ≡ map (λ a. False) as'
all_false has [] none = refl
all_false has (a ∷ as') none = ap₂ (λ (t : Tri) (ts : List Tri). t ∷ ts)
    (ap (λ (b : Bool). cond b True False) (none a (inl refl))) (all_false has as' (λ b m. none b (inr m)))

module _ {Q : Type 0} (M : Meaning Q) (S : JudgeIsSound M) (q : Q) (w : Walk) (i : ℕ) (v : Vector) where
  abbrev AllRows : Type 0
  AllRows = (a : Asked) → In a (M.asked q) → HasKey v a → pending_has w i a ≡ true

  -- what the two phases have shown of the document that has the item i, with the vector v
  pub record Shown : Type 0 where
    pub rows_sound : (a : Asked) → In a (M.asked q) → pending_has w i a ≡ true → HasKey v a
    pub main_sound : (a : Asked) → In a (M.asked q) → main_has w i a ≡ true → HasKey v a
    pub not_first : met w i ≡ true → is_exception w i ≡ false → AllRows
    pub split : ((met w i ≡ true) × AllRows)
        ⊎ (((a : Asked) → In a (M.asked q) → HasKey v a → main_has w i a ≡ true)
        × (M.all q ≡ true → main_read w i ≡ true))
    pub read_where_there : (a : Asked) → main_has w i a ≡ true → main_read w i ≡ true

  module _ (X : Shown) where
    by_rows : met w i ≡ true → AllRows → M.satisfies q v → IsKept M q w i
    by_rows m all sat = IsKept.by_pending m
        (λ e. S.no q v _ (sound_values v (pending_has w i) False (M.asked q) X.rows_sound
        (λ a n f h. true_not_false _ (all a n h) f)) e sat)

    pub keeps : M.satisfies q v → IsKept M q w i
    keeps sat = elim X.split [
      | inl both ↦ by_rows both.0 both.1 sat
      | inr main ↦ elim (known (met w i)) [
        | inl m ↦ elim (known (is_exception w i)) [
          | inl e ↦ IsKept.by_main (or_left (is_exception w i) _ e) (not_false main.0)
          | inr e ↦ by_rows m (X.not_first m e) sat
        ]
        | inr n ↦ IsKept.by_main (or_right (is_exception w i) _ (unmet n (read main))) (not_false main.0)
      ]
    ]
      where
        Main : Type 0
        Main = (a : Asked) → In a (M.asked q) → HasKey v a → main_has w i a ≡ true

        not_false : ((a : Asked) → In a (M.asked q) → HasKey v a → main_has w i a ≡ true)
            → M.judged q (values (main_has w i) False (M.asked q)) ≢ False
        not_false main e = S.no q v _
            (sound_values v (main_has w i) False (M.asked q) X.main_sound
            (λ a n f h. true_not_false _ (main a n h) f)) e sat

        unmet : met w i ≡ false → main_read w i ≡ true → (not (met w i) && main_read w i) ≡ true
        unmet e f = ap₂ (λ (a b : Bool). not a && b) e f

        read : ((a : Asked) → In a (M.asked q) → HasKey v a → main_has w i a ≡ true)
            × (M.all q ≡ true → main_read w i ≡ true) → main_read w i ≡ true
        read main = elim (any_or_none (main_has w i) (M.asked q)) [
          | inl f ↦ X.read_where_there f.0 f.2
          | inr none ↦ main.1 (S.whole q
              (subst (λ (ts : List Tri). M.judged q ts ≢ False) (all_false (main_has w i) (M.asked q) none)
              (not_false main.0)))
        ]

    pub yes_holds : HasYes M q w i → M.satisfies q v
    yes_holds (HasYes.by_pending m e) = S.yes q v _
        (sound_values v (pending_has w i) (cond (is_exception w i) Maybe False) (M.asked q) X.rows_sound
        (λ a n f. absent a n f (is_exception w i) refl)) e
      where
        absent : (a : Asked) → In a (M.asked q) → pending_has w i a ≡ false → (b : Bool) → is_exception w i ≡ b
            → SoundValue (HasKey v a) (cond b Maybe False)
        absent a n f true x = tt
        absent a n f false x = λ h. true_not_false _ (X.not_first m x a n h) f
    yes_holds (HasYes.by_main m e) = S.yes q v _
        (sound_values v (main_has w i) Maybe (M.asked q) X.main_sound (λ a n f. tt)) e
