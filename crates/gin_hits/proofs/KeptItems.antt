-- What is kept of one item more.
use Rattle.std.proofs.Common.{◌≡◌, ℕ, ◌+◌, ◌<◌, ◌≤◌, Bool, true, false, List, [], ◌∷◌, ◌++◌, length, take, get_or}
use Rattle.std.proofs.Common.{refl, sym, ap, subst, inl, inr, All, AllPairs}
use Rattle.std.specs.Prelude.{◌↔◌, Option, Result, Ok, Err, OnOk}
use Rattle.std.proofs.lemmas.List.{take_more, take_all}
use Rattle.gin_opclass.specs.Class.{Meaning}
use Rattle.core_moments.specs.Walk.{Walk}
use Rattle.core_state.specs.Log.{In}
use Rattle.gin_hits.specs.Judged.{AreJudged}
use Rattle.gin_hits.specs.Sides.{IsVerdict, TellOfWalk, WasRead, MayBeKept, AreKeptOf}
use Rattle.gin_hits.specs.declared.hits.Hits.{Hits}
use Rattle.gin_hits.specs.declared.judged.Verdict.{Verdict}

module _ {Q : Type 0} (M : Meaning Q) (q : Q) (w : Walk) (i : ℕ) (v : Verdict) (is : IsVerdict M q w i v) where
  -- it is kept
  pub kept_too : (items : List ℕ) (more : List (ℕ × Bool)) → v.kept ≡ true → AreKeptOf M q w items more
      → AreKeptOf M q w (items ++ i ∷ []) (more ++ (i, v.yes) ∷ [])
  kept_too [] more e none =
      inl (is.kept.0 e, (v.yes, [], ap (λ (ks : List (ℕ × Bool)). ks ++ (i, v.yes) ∷ []) none, is.yes e, refl))
  kept_too (j ∷ items) more e (inl f) =
      inl (
        f.0,
        (
          f.1.0,
          f.1.1 ++ (i, v.yes) ∷ [],
          ap (λ (ks : List (ℕ × Bool)). ks ++ (i, v.yes) ∷ []) f.1.2,
          f.1.3,
          kept_too items f.1.1 e f.1.4,
        ),
      )
  kept_too (j ∷ items) more e (inr f) = inr (f.0, kept_too items more e f.1)

  -- it is left out
  pub left_out : (items : List ℕ) (more : List (ℕ × Bool)) → v.kept ≡ false → AreKeptOf M q w items more
      → AreKeptOf M q w (items ++ i ∷ []) more
  left_out [] more e none = inr ((λ k. absurd (let f = is.kept.1 k in let z : ⊥ = cc in z)), none)
  left_out (j ∷ items) more e (inl f) =
      inl (f.0, (f.1.0, f.1.1, f.1.2, f.1.3, left_out items f.1.1 e f.1.4))
  left_out (j ∷ items) more e (inr f) = inr (f.0, left_out items more e f.1)

-- of the first so many items one more is judged
module _ {Q : Type 0} (M : Meaning Q) (q : Q) (w : Walk) (v : Verdict) (items : List ℕ) (k : ℕ) (more : List (ℕ × Bool))
    (lt : k < length items) (is : IsVerdict M q w (get_or items k 0) v) where
  pub next_kept : v.kept ≡ true → AreKeptOf M q w (take k items) more
      → AreKeptOf M q w (take (k + 1) items) (more ++ (get_or items k 0, v.yes) ∷ [])
  next_kept e of' =
      subst (λ (xs : List ℕ). AreKeptOf M q w xs (more ++ (get_or items k 0, v.yes) ∷ []))
      (sym (take_more items k 0 lt))
      (kept_too M q w (get_or items k 0) v is (take k items) more e of')

  pub next_left : v.kept ≡ false → AreKeptOf M q w (take k items) more → AreKeptOf M q w (take (k + 1) items) more
  next_left e of' =
      subst (λ (xs : List ℕ). AreKeptOf M q w xs more) (sym (take_more items k 0 lt))
      (left_out M q w (get_or items k 0) v is (take k items) more e of')

-- all of them are judged
pub all_kept : {Q : Type 0} (M : Meaning Q) (q : Q) (w : Walk) (items : List ℕ) (k : ℕ) (old new : List (ℕ × Bool))
    → length items ≤ k → (more : List (ℕ × Bool)) × (new ≡ old ++ more) × AreKeptOf M q w (take k items) more
    → (more : List (ℕ × Bool)) × (new ≡ old ++ more) × AreKeptOf M q w items more
all_kept M q w items k old new past m =
    (m.0, m.1, subst (λ (is : List ℕ). AreKeptOf M q w is m.0) (take_all k items past) m.2)

-- what is kept of the items that were met
pub judged_by : {Q T E : Type 0} (M : Meaning Q) (q : Q) (all : Bool) (pending main : Hits) (first : Option ℕ)
    (old new : List (ℕ × Bool)) (items given : List ℕ) (r : Result T E) → given ≡ items
    → AllPairs (λ (i j : ℕ). i < j) items → ((i : ℕ) → In i items ↔ MayBeKept all pending main i)
    → OnOk r ((w : Walk) → TellOfWalk (M.asked q) w pending main first → All (WasRead w) given
    → (more : List (ℕ × Bool)) × (new ≡ old ++ more) × AreKeptOf M q w given more)
    → OnOk r (AreJudged M q all pending main first old new)
judged_by M q all pending main first old new items given (Ok x) same rising just kept = record {
  items = items;
  rising = rising;
  just = just;
  kept = λ w told.
      subst (λ (is : List ℕ). All (WasRead w) is → (more : List (ℕ × Bool)) × (new ≡ old ++ more)
      × AreKeptOf M q w is more) same (kept w told);
}
judged_by M q all pending main first old new items given (Err e) same rising just kept = tt
