-- A replay of the events up to a moment.
use Rattle.std.proofs.Common.{◌≡◌, ℕ, zero, suc, ◌+◌, ◌≤◌, ◌<◌, Bool, true, false, cond, leb, List, [], ◌∷◌, ◌++◌}
use Rattle.std.proofs.Common.{length, take, get_or, inl, inr, refl, sym, ap, ◌∙◌, subst, arith, append_assoc}
use Rattle.std.proofs.lemmas.Bool.Decides.{nat_tests}
use Rattle.std.proofs.lemmas.Bool.{cases_lt}
use Rattle.std.proofs.lemmas.List.{take_more}
use Rattle.disk_trait.specs.Events.{changed, content, LeavesAfter, Images, until}
use Rattle.disk_trait.specs.Inner.Tearing.{IsTornBy, IsSyncBy, HasNoSync}
use Rattle.disk_trait.specs.Inner.Standing.{content_left}
use Rattle.disk_trait.proofs.Growing.{content-push}
use Rattle.disk_trait.specs.declared.past.Change.{Change}
use Rattle.disk_trait.specs.declared.past.Change.TheVariants.{Write, Sync}
use Rattle.disk_trait.specs.declared.past.Event.{Event}

-- one of the contents that a crash may leave after these events, of which those past the moment are left out
abbrev pub IsLeftOf : List ℕ → ℕ → List Event → List ℕ → Type 0
IsLeftOf first m es left = Images first (λ d. d ≡ first) (until m es) left

until_on : (m : ℕ) (es : List Event) (e : Event) → e.moment ≤ m → until m (es ++ e ∷ []) ≡ until m es ++ e ∷ []
until_on m [] e le = let yes_test : leb e.moment m ≡ true = grind (arith, nat_tests) in rw yes_test refl
until_on m (x ∷ es) e le = step (leb x.moment m) (until m es) (until m (es ++ e ∷ [])) (until_on m es e le)
  where
    step : (b : Bool) (a c : List Event) → c ≡ a ++ e ∷ [] → cond b (x ∷ c) c ≡ cond b (x ∷ a) a ++ e ∷ []
    step true a c is = ap (λ (l : List Event). x ∷ l) is
    step false a c is = is

pub until_off : (m : ℕ) (es : List Event) (e : Event) → m < e.moment → until m (es ++ e ∷ []) ≡ until m es
until_off m [] e lt = let no_test : leb e.moment m ≡ false = grind (arith, nat_tests) in rw no_test refl
until_off m (x ∷ es) e lt = ap (λ (l : List Event). cond (leb x.moment m) (x ∷ l) l) (until_off m es e lt)

pub images_on : (es : List Event) (now : List ℕ) (may : List ℕ → Type 0) (e : Event) (c : List ℕ)
    → LeavesAfter e.change (content now es) (Images now may es) c → Images now may (es ++ e ∷ []) c
images_on [] now may e c left = left
images_on (x ∷ es) now may e c left = images_on es (changed x.change now) (LeavesAfter x.change now may) e c left

left_by : (e : Change) (now : List ℕ) (may : List ℕ → Type 0) (old new : List ℕ) → (e ≡ Sync → ⊥) → may old
    → IsTornBy e old new → LeavesAfter e now may new
left_by (Write at bytes done) now may old new no_sync is torn = (old, is, torn)
left_by Sync now may old new no_sync is torn = absurd (no_sync refl)

-- what a read gave is left
pub nothing_torn : (first : List ℕ) (m : ℕ) (es : List Event) (left : List ℕ) → left ≡ content first (until m es)
    → IsLeftOf first m es left
nothing_torn first m es left is =
    subst (λ (l : List ℕ). IsLeftOf first m es l) (sym is) (content_left (until m es) first (λ d. d ≡ first) refl)

left_on : (first : List ℕ) (m : ℕ) (es : List Event) (e : Event) (left left' : List ℕ) → e.moment ≤ m → (e.change ≡ Sync
    → ⊥) → IsTornBy e.change left left' → IsLeftOf first m es left → IsLeftOf first m (es ++ e ∷ []) left'
left_on first m es e left left' le no_sync torn so_far =
    let step = left_by e.change (content first (until m es))
    (Images first (λ d. d ≡ first) (until m es)) left left' no_sync so_far torn in
    subst (λ (l : List Event). Images first (λ d. d ≡ first) l left') (sym (until_on m es e le))
    (images_on (until m es) first (λ d. d ≡ first) e left' step)

left_off : (first : List ℕ) (m : ℕ) (es : List Event) (e : Event) (left left' : List ℕ) → m < e.moment → left' ≡ left
    → IsLeftOf first m es left → IsLeftOf first m (es ++ e ∷ []) left'
left_off first m es e left left' lt same so_far =
    subst (λ (l : List ℕ). IsLeftOf first m (es ++ e ∷ []) l) (sym same)
    (subst (λ (l : List Event). Images first (λ d. d ≡ first) l left) (sym (until_off m es e lt)) so_far)

-- an event of those is none of those syncs
none_there : (m : ℕ) (es : List Event) (i : ℕ) (e : Event) → HasNoSync m es → i < length es → e ≡ get_or es i e
    → IsSyncBy m e → ⊥
none_there m [] i e none inside is sync = omega arith
none_there m (x ∷ es) zero e none inside is sync = none.0 (subst (IsSyncBy m) is sync)
none_there m (x ∷ es) (suc i) e none inside is sync = none_there m es i e none.1 (omega arith) is sync

-- one event more
pub left_more : (first : List ℕ) (m : ℕ) (xs es : List Event) (i : ℕ) (e : Event) (left left' : List ℕ) → i < length es
    → e ≡ get_or es i e → HasNoSync m es
    → (e.moment ≤ m → IsTornBy e.change left left') → (m < e.moment → left' ≡ left)
    → IsLeftOf first m (xs ++ take i es) left → IsLeftOf first m (xs ++ take (i + 1) es) left'
left_more first m xs es i e left left' inside is no_sync on off so_far =
    let more : xs ++ take (i + 1) es ≡ xs ++ take i es ++ e ∷ [] =
    ap (λ (l : List Event). xs ++ l) (take_more es i e inside ∙ ap (λ (x : Event). take i es ++ x ∷ []) (sym is))
    ∙ sym (append_assoc xs (take i es) (e ∷ [])) in
    subst (λ (l : List Event). IsLeftOf first m l left') (sym more) (elim (cases_lt m e.moment) [
      | inl past ↦ left_off first m (xs ++ take i es) e left left' past (off past) so_far
      | inr within ↦ left_on first m (xs ++ take i es) e left left' within
          (λ sync. none_there m es i e no_sync inside is (within, sync)) (on within) so_far
    ])

-- one event more in what a read gives
pub content_more : (first : List ℕ) (m : ℕ) (es : List Event) (i : ℕ) (e : Event) (now now' : List ℕ) → i < length es
    → e ≡ get_or es i e
    → (e.moment ≤ m → now' ≡ changed e.change now) → (m < e.moment → now' ≡ now)
    → now ≡ content first (until m (take i es)) → now' ≡ content first (until m (take (i + 1) es))
content_more first m es i e now now' inside is on off so_far =
    let more : take (i + 1) es ≡ take i es ++ e ∷ [] =
    take_more es i e inside ∙ ap (λ (x : Event). take i es ++ x ∷ []) (sym is) in
    rw more (elim (cases_lt m e.moment) [
      | inl past ↦ off past ∙ so_far ∙ ap (content first) (sym (until_off m (take i es) e past))
      | inr within ↦ on within ∙ ap (changed e.change) so_far ∙ sym (content-push first (until m (take i es)) e)
          ∙ ap (content first) (sym (until_on m (take i es) e within))
    ])
