-- Which pages a map has.
use Rattle.std.proofs.Common.{◌≡◌, ◌⊎◌, ◌||◌, ◌==◌, ℕ, Bool, true, false, List, [], ◌∷◌, map, refl, sym, ap, subst, ◌∙◌}
use Rattle.std.proofs.Common.{inl, inr, arith}
use Rattle.std.specs.Prelude.{Option, Some, None, is_some, unwrap_or}
use Rattle.page_types.specs.declared.record.Change.{Change}
use Rattle.page_types.specs.declared.record.Record.{Record}
use Rattle.core_state.specs.Log.{Log, In, changed}
use Rattle.core_state.specs.Legal.{ChangesFrom}
use Rattle.core_state.proofs.RunningOnes.{same_or_other, is_same, is_other}
use Rattle.buffer_frames.specs.Applied.{applied, page_or_zeros}
use Rattle.buffer_frames.specs.Maps.{lookup, HasApplied}
use Rattle.buffer_frames.specs.Inner.Reads.{stands, touches, HasPages}
use Rattle.buffer_frames.specs.declared.page_map.PageMap.{PageMap}

-- a page is among changes where its number is among theirs
stands_in : (p : ℕ) (cs : List Change) → stands p cs ≡ true → In p (map (λ (c : Change). c.page) cs)
stands_in p [] e = absurd cc
stands_in p (c ∷ cs) e = elim (same_or_other c.page p) [
  | inl same ↦ inl (sym same)
  | inr off ↦ inr (stands_in p cs (sym (ap (λ b. b || stands p cs) (is_other c.page p off)) ∙ e))
]

in_stands : (p : ℕ) (cs : List Change) → In p (map (λ (c : Change). c.page) cs) → stands p cs ≡ true
in_stands p [] i = absurd i
in_stands p (c ∷ cs) i = elim i [
  | inl same ↦ ap (λ b. b || stands p cs) (is_same c.page p (sym same))
  | inr later ↦ either (c.page == p) (stands p cs) (in_stands p cs later)
]
  where
    either : (b d : Bool) → d ≡ true → (b || d) ≡ true
    either true d e = refl
    either false d e = e

-- a page is touched where some record changes it
pub touched_from : (R : Log) (p : ℕ) → ChangesFrom 0 R p → touches R p ≡ true
touched_from [] p t = absurd t.1
touched_from (r ∷ R) p t = elim t.1 [
  | inl same ↦ ap (λ b. b || touches R p) (in_stands p r.changes (subst_in same))
  | inr later ↦ either (stands p r.changes) (touches R p) (touched_from R p (t.0, later, t.2, t.3))
]
  where
    subst_in : t.0 ≡ r → In p (changed r)
    subst_in same = subst (λ (x : Record). In p (changed x)) same t.3

    either : (b d : Bool) → d ≡ true → (b || d) ≡ true
    either true d e = refl
    either false d e = e

pub from_touched : (R : Log) (p : ℕ) → touches R p ≡ true → ChangesFrom 0 R p
from_touched [] p e = absurd cc
from_touched (r ∷ R) p e = elim (either (stands p r.changes) (touches R p) e) [
  | inl now ↦ (r, inl refl, omega arith, stands_in p r.changes now)
  | inr later ↦ let t = from_touched R p later in (t.0, inr t.1, t.2, t.3)
]
  where
    either : (b d : Bool) → (b || d) ≡ true → (b ≡ true) ⊎ (d ≡ true)
    either true d e = inl refl
    either false d e = inr e

some_is : (o : Option (List ℕ)) (z b : List ℕ) → is_some o ≡ true → unwrap_or o z ≡ b → o ≡ Some b
some_is None z b e f = absurd cc
some_is (Some x) z b e f = ap Some f

none_is : (o : Option (List ℕ)) → (is_some o ≡ true → ⊥) → o ≡ None
none_is None off = refl
none_is (Some x) off = absurd (off refl)

pub has_applied : (file : List ℕ) (map : PageMap) (R : Log) → HasPages file map R → HasApplied file R map
has_applied file map R has = record {
  changed =
      λ p t. some_is (lookup map p) (page_or_zeros file p) (applied file R p) (has.there p ∙ touched_from R p t)
      (has.bytes p);
  others = λ p off. none_is (lookup map p) (λ e. off (from_touched R p (sym (has.there p) ∙ e)));
}

-- an empty map
pub none_has : (file : List ℕ) (map : PageMap) → ((p : ℕ) → lookup map p ≡ None) → HasPages file map []
unfolding applied
none_has file map none = record {
  bytes = λ p. ap (λ o. unwrap_or o (page_or_zeros file p)) (none p);
  there = λ p. ap is_some (none p);
}
