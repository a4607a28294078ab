-- The tokens that a thesaurus sees, and what is left after some of them.
use Rattle.std.proofs.Common.{◌≡◌, ℕ, zero, suc, ◌+◌, ◌-◌, ◌<◌, ◌≤◌, List, [], ◌∷◌, ◌++◌, Bool, true, false, cond, ◌||◌}
use Rattle.std.proofs.Common.{length, take, refl, sym, ◌∙◌, ap, arith}
use Rattle.std.specs.Prelude.{filter, take_while, nat_lt, nat_eq, get_or, if◌then◌else◌}
use Rattle.std.specs.List.{list_any, prefix_len}
use Rattle.std.proofs.lemmas.Bool.{true≢false}
use Rattle.std.proofs.lemmas.Bool.Decides.{nat_tests}
use Rattle.ts_base.specs.declared.TheConstants.{LONGEST_LEXEME}
use Rattle.ts_parser.specs.declared.iter.Token.{Token}
use Rattle.ts_config.specs.Mappings.{Mapping, list_for}
use Rattle.ts_config.specs.Answers.{asked_for}
use Rattle.ts_config.specs.Phrases.{is_asked, lists, seen, behind}

-- ── who is asked ──
any_some : (f : ℕ → Bool) (ps : List ℕ) → list_any f ps ≡ true → nat_lt 0 (length ps) ≡ true
any_some f [] h = absurd (true≢false (sym h))
any_some f (p ∷ ps) h = let l : 0 < length (p ∷ ps) = omega arith in grind (arith, nat_tests)

pub lists_asked : (m : Mapping) (p : ℕ) (t : Token) → lists m p t ≡ true → is_asked m t ≡ true
lists_asked m p t h = any_some (λ q. nat_eq q p) (asked_for m t) h

pub lists_short : (m : Mapping) (p : ℕ) (t : Token) → lists m p t ≡ true → t.length ≤ LONGEST_LEXEME
lists_short m p t h = by (nat_lt LONGEST_LEXEME t.length) refl h
  where
    by : (b : Bool) → nat_lt LONGEST_LEXEME t.length ≡ b
        → list_any (λ q. nat_eq q p) (if b then [] else list_for m t.kind) ≡ true → t.length ≤ LONGEST_LEXEME
    by true e k = absurd (true≢false (sym k))
    by false e k = grind (arith, nat_tests)

-- each place of a list is in it
pub any_at : (ps : List ℕ) (i d : ℕ) → i < length ps → list_any (λ q. nat_eq q (get_or ps i d)) ps ≡ true
any_at [] i d l = absurd (omega (arith, l))
any_at (p ∷ ps) zero d l =
    let e : nat_eq p p ≡ true = grind (arith, nat_tests) in ap (λ b. b || list_any (λ q. nat_eq q p) ps) e
any_at (p ∷ ps) (suc i) d l = by (nat_eq p (get_or ps i d)) (any_at ps i d (omega (arith, l)))
  where
    by : (b : Bool) → list_any (λ q. nat_eq q (get_or ps i d)) ps ≡ true
        → (b || list_any (λ q. nat_eq q (get_or ps i d)) ps) ≡ true
    by true h = refl
    by false h = h

-- ── what is seen ──
module _ (m : Mapping) (p : ℕ) (t : Token) (ts : List Token) where
  pub seen_over : is_asked m t ≡ false → seen m p (t ∷ ts) ≡ seen m p ts
  seen_over e = ap (λ b. take_while (lists m p) (cond b (t ∷ filter (is_asked m) ts) (filter (is_asked m) ts))) e

  asked_first : is_asked m t ≡ true → seen m p (t ∷ ts) ≡ take_while (lists m p) (t ∷ filter (is_asked m) ts)
  asked_first e = ap (λ b. take_while (lists m p) (cond b (t ∷ filter (is_asked m) ts) (filter (is_asked m) ts))) e

  pub seen_ends : is_asked m t ≡ true → lists m p t ≡ false → seen m p (t ∷ ts) ≡ []
  seen_ends e f = asked_first e
      ∙ ap (λ b. take (cond b (1 + prefix_len (lists m p) (filter (is_asked m) ts)) 0) (t ∷ filter (is_asked m) ts)) f

  pub seen_takes : lists m p t ≡ true → seen m p (t ∷ ts) ≡ t ∷ seen m p ts
  seen_takes f =
      let n = prefix_len (lists m p) (filter (is_asked m) ts) in
      let one : 1 + n ≡ suc n = omega arith in
      asked_first (lists_asked m p t f) ∙ ap (λ b. take (cond b (1 + n) 0) (t ∷ filter (is_asked m) ts)) f
      ∙ ap (λ k. take k (t ∷ filter (is_asked m) ts)) one

-- ── what is after ──
module _ (m : Mapping) where
  pub behind_nil : (n : ℕ) → behind m n [] ≡ []
  behind_nil zero = refl
  behind_nil (suc n) = refl

  pub behind_over : (n : ℕ) (t : Token) (ts : List Token) → 0 < n → is_asked m t ≡ false
      → behind m n (t ∷ ts) ≡ behind m n ts
  behind_over zero t ts l e = absurd (omega (arith, l))
  behind_over (suc n) t ts l e = ap (λ b. if b then behind m n ts else behind m (suc n) ts) e

  pub behind_asked : (n : ℕ) (t : Token) (ts : List Token) → 0 < n → is_asked m t ≡ true
      → behind m n (t ∷ ts) ≡ behind m (n - 1) ts
  behind_asked zero t ts l e = absurd (omega (arith, l))
  behind_asked (suc n) t ts l e =
      let one : n ≡ suc n - 1 = omega arith in
      ap (λ b. if b then behind m n ts else behind m (suc n) ts) e ∙ ap (λ k. behind m k ts) one

  -- the list ends so
  abbrev pub Ends : List Token → List Token → Type 0
  Ends ts rest = (front : List Token) × (ts ≡ front ++ rest)

  pub behind_suffix : (n : ℕ) (ts : List Token) → Ends ts (behind m n ts)
  behind_suffix zero ts = ([], refl)
  behind_suffix (suc n) [] = ([], refl)
  behind_suffix (suc n) (t ∷ ts) = by (is_asked m t) (behind_suffix n ts) (behind_suffix (suc n) ts)
    where
      by : (b : Bool) → Ends ts (behind m n ts) → Ends ts (behind m (suc n) ts)
          → Ends (t ∷ ts) (if b then behind m n ts else behind m (suc n) ts)
      by true (f, e) k = (t ∷ f, ap (λ l. t ∷ l) e)
      by false k (f, e) = (t ∷ f, ap (λ l. t ∷ l) e)

  pub behind_within : (n : ℕ) (t : Token) (ts : List Token) → 0 < n → Ends ts (behind m n (t ∷ ts))
  behind_within zero t ts l = absurd (omega (arith, l))
  behind_within (suc n) t ts l = by (is_asked m t) (behind_suffix n ts) (behind_suffix (suc n) ts)
    where
      by : (b : Bool) → Ends ts (behind m n ts) → Ends ts (behind m (suc n) ts)
          → Ends ts (if b then behind m n ts else behind m (suc n) ts)
      by true h k = h
      by false h k = k
