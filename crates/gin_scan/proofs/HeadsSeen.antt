-- Which heads of kept items are seen, one item after another.
use Rattle.std.proofs.Common.{◌≡◌, ◌↔◌, ℕ, ◌+◌, ◌<◌, ◌≤◌, Bool, true, false, not, IsTrue, List, [], ◌∷◌, ◌++◌, length}
use Rattle.std.proofs.Common.{take, get_or, refl, sym, subst, ◌∙◌}
use Rattle.std.proofs.lemmas.Bool.{false≢true}
use Rattle.std.proofs.lemmas.List.{take_more}
use Rattle.page_types.specs.declared.page.Page.{Page}
use Rattle.page_types.specs.declared.page.Head.{Head}
use Rattle.core_state.specs.Standing.{Sees}
use Rattle.core_state.specs.declared.answers.Fate.{Fate}
use Rattle.core_state.specs.declared.answers.Fate.TheVariants.{Committed}
use Rattle.gin_scan.specs.Seen.{IsSeen, AreSeen}

module _ (fates : ℕ → Fate) (n : ℕ) (p : Page) where
  seen_more : (ks : List (ℕ × Bool)) (bs : List Bool) (k : ℕ × Bool) (b : Bool) → AreSeen fates n p ks bs
      → (IsTrue b ↔ IsSeen fates n p k.0) → AreSeen fates n p (ks ++ k ∷ []) (bs ++ b ∷ [])
  seen_more [] [] k b are is = (is, tt)
  seen_more [] (c ∷ bs) k b are is = absurd are
  seen_more (l ∷ ks) [] k b are is = absurd are
  seen_more (l ∷ ks) (c ∷ bs) k b are is = (are.0, seen_more ks bs k b are.1 is)

  -- of the first so many items one more
  pub seen_next : (ks : List (ℕ × Bool)) (bs : List Bool) (i : ℕ) (d : ℕ × Bool) (b : Bool) → i < length ks
      → AreSeen fates n p (take i ks) bs → (IsTrue b ↔ IsSeen fates n p (get_or ks i d).0)
      → AreSeen fates n p (take (i + 1) ks) (bs ++ b ∷ [])
  seen_next ks bs i d b lt are is =
      subst (λ (xs : List (ℕ × Bool)). AreSeen fates n p xs (bs ++ b ∷ [])) (sym (take_more ks i d lt))
      (seen_more (take i ks) bs (get_or ks i d) b are is)

-- the inserting transaction is among the first commits; the deleting one, of which it is told, is not
pub seen_unless : (fates : ℕ → Fate) (n : ℕ) (h : Head) (deleted : Bool)
    → (m : ℕ) × (fates h.inserted_by ≡ Committed m) × (m ≤ n)
    → IsTrue deleted ↔ ((m : ℕ) × (fates h.deleted_by ≡ Committed m) × (m ≤ n)) → IsTrue (not deleted) ↔ Sees fates n h
seen_unless fates n h true i d =
    (λ t. absurd (false≢true t), λ s. let w = d.0 refl in absurd (s.not_deleted w.0 w.1 w.2))
seen_unless fates n h false i d = (
  λ t. record {
    number = i.0;
    inserted = i.1;
    within = i.2;
    not_deleted = λ m e l. false≢true (d.1 (m, e, l));
  },
  λ s. refl,
)

-- it isn't
pub unseen : (fates : ℕ → Fate) (n : ℕ) (h : Head) (inserted : Bool) → inserted ≡ false
    → IsTrue inserted ↔ ((m : ℕ) × (fates h.inserted_by ≡ Committed m) × (m ≤ n)) → IsTrue inserted ↔ Sees fates n h
unseen fates n h inserted off i = (
  λ t. absurd (false≢true (sym off ∙ t)),
  λ s. i.1 (s.number, s.inserted, s.within),
)
