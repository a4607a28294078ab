-- Fates in a list, and running transactions.
use Rattle.std.proofs.Common.{◌≡◌, ◌≢◌, ◌⊎◌, ◌<◌, ◌≤◌, ℕ, zero, suc, Bool, true, false, cond, not, ◌==◌, List, [], ◌∷◌}
use Rattle.std.proofs.Common.{◌++◌, length, get_or, refl, sym, ap, subst, ◌∙◌, inl, inr, arith}
use Rattle.std.specs.Prelude.{Option, Some, None, ⊤}
use Rattle.std.proofs.lemmas.List.{get_or-set_other, get_or_past, get_or_append_left, get_or-append_right, length-set}
use Rattle.std.proofs.lemmas.Grind.{get_or-set_at}
use Rattle.std.proofs.Math.Seq.{get_or-append_seam}
use Rattle.core_state.specs.States.{fate_at, with_fate, all_ended, transaction, without, replaced}
use Rattle.core_state.specs.declared.transactions.Transaction.{Transaction}
use Rattle.core_state.specs.declared.answers.Fate.{Fate}
use Rattle.core_state.specs.declared.answers.Fate.TheVariants.{Unused, Running, Aborted}

pub is_same : (a b : ℕ) → a ≡ b → (a == b) ≡ true
is_same a b e = grind (arith, e)

pub is_other : (a b : ℕ) → a ≢ b → (a == b) ≡ false
is_other a b off = grind (arith, off)

pub same_or_other : (a b : ℕ) → (a ≡ b) ⊎ (a ≢ b)
same_or_other a b = grind arith

pub below_or_past : (k n : ℕ) → (k < n) ⊎ (n ≤ k)
below_or_past k n = grind arith

pub on_same : {A : Type 0} (a b : ℕ) (x y : A) → a ≡ b → cond (a == b) x y ≡ x
on_same a b x y e = ap (λ c. cond c x y) (is_same a b e)

pub on_other : {A : Type 0} (a b : ℕ) (x y : A) → a ≢ b → cond (a == b) x y ≡ y
on_other a b x y off = ap (λ c. cond c x y) (is_other a b off)

within : (fs : List Fate) (k : ℕ) → get_or fs k Unused ≢ Unused → k < length fs
within fs k off = elim (below_or_past k (length fs)) [ inl l ↦ l | inr p ↦ absurd (off (get_or_past fs k Unused p)) ]

-- a fate that is set, of an xid that has begun
pub with_fate_at : (fs : List Fate) (x y : ℕ) (f : Fate) → fate_at fs x ≢ Unused
    → fate_at (with_fate x f fs) y ≡ cond (x == y) f (fate_at fs y)
with_fate_at fs zero y f off = absurd (off refl)
with_fate_at fs (suc k) zero f off = sym (on_other (suc k) 0 f Unused (λ e. omega (arith, e)))
with_fate_at fs (suc k) (suc j) f off = elim (same_or_other k j) [
  | inl e ↦ get_or-set_at fs k j f Unused (sym e) (within fs k off)
      ∙ sym (on_same (suc k) (suc j) f (get_or fs j Unused) (ap suc e))
  | inr d ↦ get_or-set_other fs k j f Unused (λ e. d (sym e))
      ∙ sym (on_other (suc k) (suc j) f (get_or fs j Unused) (λ e. omega (arith, e, d)))
]

pub length-with_fate : (fs : List Fate) (x : ℕ) (f : Fate) → length (with_fate x f fs) ≡ length fs
length-with_fate fs zero f = refl
length-with_fate fs (suc k) f = length-set fs k f

-- the next xid is unused
pub past_fate : (fs : List Fate) → fate_at fs (suc (length fs)) ≡ Unused
past_fate fs = get_or_past fs (length fs) Unused (omega arith)

-- one fate more
pub begun_at : (fs : List Fate) (y : ℕ) → fate_at (fs ++ Running ∷ []) y ≡ cond (suc (length fs) == y) Running
    (fate_at fs y)
begun_at fs zero = sym (on_other (suc (length fs)) 0 Running Unused (λ e. omega (arith, e)))
begun_at fs (suc j) = elim (same_or_other (length fs) j) [
  | inl e ↦ subst (λ i. get_or (fs ++ Running ∷ []) i Unused ≡ Running) e (get_or-append_seam fs Running [] Unused)
      ∙ sym (on_same (suc (length fs)) (suc j) Running (get_or fs j Unused) (ap suc e))
  | inr d ↦ elsewhere j d ∙ sym
      (on_other (suc (length fs)) (suc j) Running (get_or fs j Unused) (λ e. omega (arith, e, d)))
]
  where
    elsewhere : (j : ℕ) → length fs ≢ j → get_or (fs ++ Running ∷ []) j Unused ≡ get_or fs j Unused
    elsewhere j d = elim (below_or_past j (length fs)) [
      | inl l ↦ get_or_append_left fs (Running ∷ []) Unused j l
      | inr p ↦ get_or_past (fs ++ Running ∷ []) j Unused
          (omega (arith, p, d, Rattle.std.proofs.lemmas.List.length-append fs (Running ∷ [])))
          ∙ sym (get_or_past fs j Unused p)
    ]

cond_both : {A : Type 0} (b : Bool) (x : A) → cond b x x ≡ x
cond_both true x = refl
cond_both false x = refl

some_none : {A : Type 0} (x : A) → Some x ≡ None → ⊥
some_none x e = cc

pub first_is : (u : Transaction) (us : List Transaction) (y : ℕ) → u.xid ≡ y → transaction y (u ∷ us) ≡ Some u
first_is u us y e = on_same u.xid y (Some u) (transaction y us) e

pub first_isnt : (u : Transaction) (us : List Transaction) (y : ℕ) → u.xid ≢ y
    → transaction y (u ∷ us) ≡ transaction y us
first_isnt u us y d = on_other u.xid y (Some u) (transaction y us) d

pub none_behind : (u : Transaction) (us : List Transaction) (x : ℕ) → transaction x (u ∷ us) ≡ None
    → (u.xid ≢ x) × (transaction x us ≡ None)
none_behind u us x off = elim (same_or_other u.xid x) [
  | inl e ↦ absurd (some_none u (sym (first_is u us x e) ∙ off))
  | inr d ↦ (d, sym (first_isnt u us x d) ∙ off)
]

-- one transaction more
pub joined_at : (ts : List Transaction) (t : Transaction) (y : ℕ) → transaction t.xid ts ≡ None
    → transaction y (ts ++ t ∷ []) ≡ cond (t.xid == y) (Some t) (transaction y ts)
joined_at [] t y off = refl
joined_at (u ∷ us) t y off =
    let behind = none_behind u us t.xid off in
    elim (same_or_other u.xid y) [
      | inl e ↦ first_is u (us ++ t ∷ []) y e
          ∙ sym (on_other t.xid y (Some t) (transaction y (u ∷ us)) (λ f. behind.0 (e ∙ sym f)) ∙ first_is u us y e)
      | inr d ↦ first_isnt u (us ++ t ∷ []) y d ∙ joined_at us t y behind.1
          ∙ sym (ap (cond (t.xid == y) (Some t)) (first_isnt u us y d))
    ]

without_same : (u : Transaction) (us : List Transaction) (x y : ℕ) → u.xid ≡ x
    → cond (x == y) None (transaction y us) ≡ cond (x == y) None (transaction y (u ∷ us))
without_same u us x y e = elim (same_or_other x y) [
  | inl f ↦ on_same x y None (transaction y us) f ∙ sym (on_same x y None (transaction y (u ∷ us)) f)
  | inr d ↦ sym (ap (cond (x == y) None) (first_isnt u us y (λ f. d (sym e ∙ f))))
]

without_other : (u : Transaction) (us : List Transaction) (x y : ℕ) → u.xid ≢ x
    → transaction y (without x us) ≡ cond (x == y) None (transaction y us)
    → transaction y (u ∷ without x us) ≡ cond (x == y) None (transaction y (u ∷ us))
without_other u us x y off ih = elim (same_or_other u.xid y) [
  | inl e ↦ first_is u (without x us) y e
      ∙ sym (on_other x y None (transaction y (u ∷ us)) (λ f. off (e ∙ sym f)) ∙ first_is u us y e)
  | inr d ↦ first_isnt u (without x us) y d ∙ ih ∙ sym (ap (cond (x == y) None) (first_isnt u us y d))
]

pub first_goes : (u : Transaction) (us : List Transaction) (x : ℕ) → u.xid ≡ x → without x (u ∷ us) ≡ without x us
first_goes u us x e = ap (λ (b : Bool). cond (not b) (u ∷ without x us) (without x us)) (is_same u.xid x e)

pub first_stays : (u : Transaction) (us : List Transaction) (x : ℕ) → u.xid ≢ x
    → without x (u ∷ us) ≡ u ∷ without x us
first_stays u us x d = ap (λ (b : Bool). cond (not b) (u ∷ without x us) (without x us)) (is_other u.xid x d)

-- one less
pub without_at : (ts : List Transaction) (x y : ℕ) → transaction y (without x ts) ≡ cond (x == y) None
    (transaction y ts)
without_at [] x y = sym (cond_both (x == y) None)
without_at (u ∷ us) x y = elim (same_or_other u.xid x) [
  | inl e ↦ ap (transaction y) (first_goes u us x e) ∙ without_at us x y ∙ without_same u us x y e
  | inr d ↦ ap (transaction y) (first_stays u us x d) ∙ without_other u us x y d (without_at us x y)
]

replaced_same : (v : Transaction) (vs : List Transaction) (t : Transaction) (y : ℕ) → v.xid ≡ t.xid
    → transaction y (t ∷ vs) ≡ cond (t.xid == y) (Some t) (transaction y (v ∷ vs))
replaced_same v vs t y e = elim (same_or_other t.xid y) [
  | inl f ↦ first_is t vs y f ∙ sym (on_same t.xid y (Some t) (transaction y (v ∷ vs)) f)
  | inr d ↦ ap (cond (t.xid == y) (Some t)) (sym (first_isnt v vs y (λ f. d (sym e ∙ f))))
]

replaced_other : (v : Transaction) (vs : List Transaction) (t : Transaction) (y : ℕ) → v.xid ≢ t.xid
    → transaction y (replaced t vs) ≡ cond (t.xid == y) (Some t) (transaction y vs)
    → transaction y (v ∷ replaced t vs) ≡ cond (t.xid == y) (Some t) (transaction y (v ∷ vs))
replaced_other v vs t y off ih = elim (same_or_other v.xid y) [
  | inl e ↦ first_is v (replaced t vs) y e
      ∙ sym (on_other t.xid y (Some t) (transaction y (v ∷ vs)) (λ f. off (e ∙ sym f)) ∙ first_is v vs y e)
  | inr d ↦ first_isnt v (replaced t vs) y d ∙ ih ∙ sym (ap (cond (t.xid == y) (Some t)) (first_isnt v vs y d))
]

-- one in place of another
pub replaced_at : (ts : List Transaction) (t u : Transaction) (y : ℕ) → transaction t.xid ts ≡ Some u
    → transaction y (replaced t ts) ≡ cond (t.xid == y) (Some t) (transaction y ts)
replaced_at [] t u y e = absurd (some_none u (sym e))
replaced_at (v ∷ vs) t u y e = elim (same_or_other v.xid t.xid) [
  | inl f ↦ ap (transaction y) (on_same v.xid t.xid (t ∷ vs) (v ∷ replaced t vs) f) ∙ replaced_same v vs t y f
  | inr d ↦ ap (transaction y) (on_other v.xid t.xid (t ∷ vs) (v ∷ replaced t vs) d)
      ∙ replaced_other v vs t y d (replaced_at vs t u y (sym (first_isnt v vs t.xid d) ∙ e))
]

-- these transactions have begun
abbrev pub HaveBegun : List Fate → List Transaction → Type 0
HaveBegun fs [] = ⊤
HaveBegun fs (t ∷ ts) = (fate_at fs t.xid ≢ Unused) × HaveBegun fs ts

-- the fate where all that run are ended
abbrev pub ended_by : Option Transaction → Fate → Fate
ended_by None f = f
ended_by (Some t) f = Aborted

ended_aborted : (o : Option Transaction) → ended_by o Aborted ≡ Aborted
ended_aborted None = refl
ended_aborted (Some t) = refl

aborted_begun : (b : Bool) (f : Fate) → f ≢ Unused → cond b Aborted f ≢ Unused
aborted_begun true f off = λ e. cc
aborted_begun false f off = off

begun_still : (ts : List Transaction) (fs : List Fate) (x : ℕ) → fate_at fs x ≢ Unused → HaveBegun fs ts
    → HaveBegun (with_fate x Aborted fs) ts
begun_still [] fs x off b = tt
begun_still (t ∷ ts) fs x off b = (
  (λ e. aborted_begun (x == t.xid) (fate_at fs t.xid) b.0 (sym (with_fate_at fs x t.xid Aborted off) ∙ e)),
  begun_still ts fs x off b.1,
)

pub all_ended_at : (ts : List Transaction) (fs : List Fate) (y : ℕ) → HaveBegun fs ts
    → fate_at (all_ended ts fs) y ≡ ended_by (transaction y ts) (fate_at fs y)
all_ended_at [] fs y b = refl
all_ended_at (t ∷ ts) fs y b =
    all_ended_at ts (with_fate t.xid Aborted fs) y (begun_still ts fs t.xid b.0 b.1)
    ∙ elim (same_or_other t.xid y) [
      | inl e ↦ ap (ended_by (transaction y ts))
          (with_fate_at fs t.xid y Aborted b.0 ∙ on_same t.xid y Aborted (fate_at fs y) e)
          ∙ ended_aborted (transaction y ts) ∙ sym (ap (λ o. ended_by o (fate_at fs y)) (first_is t ts y e))
      | inr d ↦ ap (ended_by (transaction y ts))
          (with_fate_at fs t.xid y Aborted b.0 ∙ on_other t.xid y Aborted (fate_at fs y) d)
          ∙ sym (ap (λ o. ended_by o (fate_at fs y)) (first_isnt t ts y d))
    ]

pub length-all_ended : (ts : List Transaction) (fs : List Fate) → length (all_ended ts fs) ≡ length fs
length-all_ended [] fs = refl
length-all_ended (t ∷ ts) fs = length-all_ended ts (with_fate t.xid Aborted fs) ∙ length-with_fate fs t.xid Aborted
