use Rattle.std.proofs.Common.{◌≡◌, ◌≢◌, ◌⊎◌, ◌++◌, ◌∷◌, [], ℕ, true, List, None, Some, nat_cmp, sym}
use Rattle.std.proofs.Common.{ap, subst, ◌∙◌, inl, inr}
use Rattle.std.proofs.lemmas.List.{append-nil}
use Rattle.std.proofs.lemmas.Map.Text.{is_eq-slice_cmp}
use Rattle.std.specs.Prelude.{Vec, Result, Ok, Err, OnErr}
use Rattle.std.specs.Cmp.Lexicographic.{slice_cmp, bytes_decides}
use Rattle.std.specs.Map.{lookup}
use Rattle.std.specs.BTreeMap.{insert_entry}
use Rattle.std.specs.Ordering.{is_eq}
use Rattle.std.specs.declared.alloc.Global.{Global}
use Rattle.ts_base.specs.Keys.{Key}
use Rattle.core_state.specs.Log.{In}
use Rattle.gin_cleanup.specs.Gathered.{Has, HaveItems, KeyItems, shown}
use Rattle.gin_cleanup.proofs.Putting.{set_told, set_back, come_told, come_back}
use Rattle.gin_cleanup.proofs.Putting.{none_empty, set_some, insert_some, more_some}
use Rattle.gin_cleanup.proofs.gathered.Gathered.put.Goals as goal

-- the key that a query finds
found : (key : Key) (v : Vec ℕ Global) → is_eq (slice_cmp nat_cmp key v.items) ≡ true → v.items ≡ key
found key v e = sym ((bytes_decides key v.items).0 (sym (is_eq-slice_cmp key v.items) ∙ e))

one : (i j : ℕ) → In i (j ∷ []) → i ≡ j
one i j (inl e) = e
one i j (inr n) = absurd n

on_err : {A E P : Type 0} (r : Result A E) → P → OnErr r P
on_err (Ok x) p = tt
on_err (Err e) p = p

pub returns-in_err-push-clause-err : goal.returns-in_err-push-clause-err
returns-in_err-push-clause-err c =
    let key = c.args.key.now in
    let test = λ (v : Vec ℕ Global). is_eq (slice_cmp nat_cmp key v.items) in
    let old = c.in-Some.items.now in
    let new = c.push.new.self in
    let es = c.self.inside.keys.entries in
    let entries = (c.get_mut.follows.holds new).0 in
    let there : lookup test es ≡ Some old = sym c.in-Some.ensures.value in
    let is : new.items ≡ old.items ++ [] = ◌∙◌ {A = List ℕ} c.in_err-push.ensures.items (sym (append-nil old.items)) in
    on_err c.from_residual.result (λ k i. (
      λ h. subst (λ (x : KeyItems). Has x k i) c.self.view_is (only (set_told key test (found key) old new [] is k i es
          there (subst (λ x. Has (shown x) k i) entries h))),
      λ h. subst (λ x. Has (shown x) k i) (sym entries) (set_back key test (found key) old new [] is k i es there
          (inl (subst (λ (x : KeyItems). Has x k i) (sym c.self.view_is) h))),
    ))
  where
    only : {A B : Type 0} → A ⊎ (B × ⊥) → A
    only (inl a) = a
    only (inr b) = absurd b.1

pub returns-in-Some-clause-ok : goal.returns-in-Some-clause-ok
returns-in-Some-clause-ok c =
    let key = c.args.key.now in
    let item = c.args.item in
    let test = λ (v : Vec ℕ Global). is_eq (slice_cmp nat_cmp key v.items) in
    let old = c.in-Some.items.now in
    let new = c.push.new.self in
    let es = c.self.inside.keys.entries in
    let entries = (c.get_mut.follows.holds new).0 in
    let there : lookup test es ≡ Some old = sym c.in-Some.ensures.value in
    let is : new.items ≡ old.items ++ item ∷ [] = c.in_ok-push.ensures.items in
    λ k i. (
      λ h. elim (set_told key test (found key) old new (item ∷ []) is k i es there
          (subst (λ x. Has (shown x) k i) entries h)) [
            | inl a ↦ inl (subst (λ (x : KeyItems). Has x k i) c.self.view_is a)
            | inr b ↦ inr (b.0, one i item b.1)
          ],
      λ h. subst (λ x. Has (shown x) k i) (sym entries) (set_back key test (found key) old new (item ∷ []) is k i es
          there (elim h [
            | inl a ↦ inl (subst (λ (x : KeyItems). Has x k i) (sym c.self.view_is) a)
            | inr b ↦ inr (b.0, inl b.1)
          ])),
    )

pub returns-clause-ok : goal.returns-clause-ok
returns-clause-ok c =
    let key = c.args.key.now in
    let item = c.args.item in
    let copy = c.in_ok-copy.copy in
    let new = c.in_ok-items.items in
    let cmp = λ (x y : Vec ℕ Global). slice_cmp nat_cmp x.items y.items in
    let es = c.self.inside.keys.entries in
    let copy_is : copy.items ≡ key = c.in_ok-copy.ensures.items in
    let new_is : new.items ≡ item ∷ [] = c.in_ok-items.ensures.items in
    let same = ap (λ m. m.entries) c.get_mut.follows.holds-at-none in
    let none : lookup (λ (x : Vec ℕ Global). is_eq (cmp copy x)) es ≡ None =
    subst (λ (z : Key). lookup (λ (x : Vec ℕ Global). is_eq (slice_cmp nat_cmp z x.items)) es ≡ None) (sym copy_is)
    (sym c.in_default.ensures.value) in
    let entries : c.insert.new.self.entries ≡ insert_entry cmp es copy new =
    c.in_ok-insert.ensures.entries ∙ ap (λ x. insert_entry cmp x copy new) same in
    λ k i. (
      λ h. elim (come_told cmp copy new k i es none (subst (λ x. Has (shown x) k i) entries h)) [
        | inl a ↦ inl (subst (λ (x : KeyItems). Has x k i) c.self.view_is a)
        | inr b ↦ inr (b.0 ∙ copy_is, one i item (subst (In i) new_is b.1))
      ],
      λ h. subst (λ x. Has (shown x) k i) (sym entries) (come_back cmp copy new k i es none (elim h [
        | inl a ↦ inl (subst (λ (x : KeyItems). Has x k i) (sym c.self.view_is) a)
        | inr b ↦ inr (b.0 ∙ sym copy_is, subst (In i) (sym new_is) (inl b.1))
      ])),
    )

pub invariant_of-self : goal.invariant_of-self
invariant_of-self c =
    let key = c.args.key.now in
    let test = λ (v : Vec ℕ Global). is_eq (slice_cmp nat_cmp key v.items) in
    let new = c.push.new.self in
    let es = c.self.inside.keys.entries in
    let same : new.items ≡ c.in-Some.items.now.items = c.in_err-push.ensures.items in
    let some : new.items ≢ [] = subst (λ (xs : List ℕ). xs ≢ []) (sym same)
    (none_empty test c.in-Some.items.now es (sym c.in-Some.ensures.value) c.self.invariant) in
    subst (λ x. HaveItems (shown x)) (sym (c.get_mut.follows.holds new).0) (set_some test new some es c.self.invariant)

pub invariant_of-self-in-Some : goal.invariant_of-self-in-Some
invariant_of-self-in-Some c =
    let key = c.args.key.now in
    let test = λ (v : Vec ℕ Global). is_eq (slice_cmp nat_cmp key v.items) in
    let new = c.push.new.self in
    let es = c.self.inside.keys.entries in
    let more : new.items ≡ c.in-Some.items.now.items ++ c.args.item ∷ [] = c.in_ok-push.ensures.items in
    let some : new.items ≢ [] = subst (λ (xs : List ℕ). xs ≢ []) (sym more)
    (more_some c.in-Some.items.now.items c.args.item) in
    subst (λ x. HaveItems (shown x)) (sym (c.get_mut.follows.holds new).0) (set_some test new some es c.self.invariant)

pub invariant_of-self-2 : goal.invariant_of-self-2
invariant_of-self-2 c =
    let cmp = λ (x y : Vec ℕ Global). slice_cmp nat_cmp x.items y.items in
    let copy = c.in_ok-copy.copy in
    let new = c.in_ok-items.items in
    let es = c.self.inside.keys.entries in
    let new_is : new.items ≡ c.args.item ∷ [] = c.in_ok-items.ensures.items in
    let some : new.items ≢ [] = subst (λ (xs : List ℕ). xs ≢ []) (sym new_is) (more_some [] c.args.item) in
    let same = ap (λ m. m.entries) c.get_mut.follows.holds-at-none in
    let entries : c.insert.new.self.entries ≡ insert_entry cmp es copy new =
    c.in_ok-insert.ensures.entries ∙ ap (λ x. insert_entry cmp x copy new) same in
    subst (λ x. HaveItems (shown x)) (sym entries) (insert_some cmp copy new some es c.self.invariant)

pub invariant_of-self-in_err-items : goal.invariant_of-self-in_err-items
invariant_of-self-in_err-items c =
    subst (λ x. HaveItems (shown x)) (sym (ap (λ m. m.entries) c.get_mut.follows.holds-at-none)) c.self.invariant

pub invariant_of-self-in_err-copy : goal.invariant_of-self-in_err-copy
invariant_of-self-in_err-copy c =
    subst (λ x. HaveItems (shown x)) (sym (ap (λ m. m.entries) c.get_mut.follows.holds-at-none)) c.self.invariant

pub invariant_of-self-in_err-insert : goal.invariant_of-self-in_err-insert
invariant_of-self-in_err-insert c =
    subst (λ x. HaveItems (shown x)) (sym (c.in_err-insert.ensures.err ∙ ap (λ m. m.entries)
    c.get_mut.follows.holds-at-none)) c.self.invariant
