-- The best rule, one rule after another.
use Rattle.std.proofs.Common.{◌≡◌, ◌≢◌, ◌⊎◌, inl, inr, ⊎_elim, ℕ, ◌+◌, ◌<◌, ◌≤◌, List, [], ◌∷◌, ◌++◌, length, get_or}
use Rattle.std.proofs.Common.{take, map, refl, sym, ◌∙◌, ap, subst, arith, Option, Some, None, option_map, Bool, true}
use Rattle.std.proofs.Common.{false, not, true≢false}
use Rattle.std.specs.Prelude.{bytes_eq}
use Rattle.std.specs.List.{slice_get}
use Rattle.std.proofs.lemmas.Option.{slice_get_within, slice_get-map}
use Rattle.std.proofs.lemmas.List.{map-append, take_more, get_or-map, length-map}
use Rattle.std.proofs.lemmas.Slice.Eq.{bytes_eq-Decides}
use Rattle.ts_base.specs.declared.Found.{Found}
use Rattle.ts_base.specs.Dictionary.{WordAnswer}
use Rattle.ts_thesaurus.specs.declared.rule.KeptRule.{KeptRule}
use Rattle.ts_thesaurus.specs.Rules.{Rule, lexemes_of, FitsFirst, FitsAll, Replacement, IsBest, NoneFits, Continues}
use Rattle.ts_thesaurus.specs.Views.{sample_value, rule_value}
use Rattle.ts_thesaurus.specs.Inner.Best.{Suits, size, IsBestOf, IsBestPlace}
use Rattle.ts_thesaurus.specs.Inner.Walks.{IsBestUpTo}

-- ── lexemes ──
module _ (left right : List Found) (i : ℕ) (d e : Found) (h : i < length left) (k : i < length right) where
  pub same_more : lexemes_of (take i left) ≡ lexemes_of (take i right)
      → not (bytes_eq (get_or left i d).lexeme (get_or right i e).lexeme) ≡ false
      → lexemes_of (take (i + 1) left) ≡ lexemes_of (take (i + 1) right)
  same_more before test =
      let lexeme : (get_or left i d).lexeme ≡ (get_or right i e).lexeme = (bytes_eq-Decides (get_or left i d).lexeme
      (get_or right i e).lexeme).0 (holds (bytes_eq (get_or left i d).lexeme (get_or right i e).lexeme) test) in
      ap lexemes_of (take_more left i d h) ∙ map-append (λ (f : Found). f.lexeme) (take i left) (get_or left i d ∷ [])
      ∙ ap (λ z. z ++ (get_or left i d).lexeme ∷ []) before ∙ ap (λ z. lexemes_of (take i right) ++ z ∷ []) lexeme
      ∙ sym (ap lexemes_of (take_more right i e k)
      ∙ map-append (λ (f : Found). f.lexeme) (take i right) (get_or right i e ∷ []))
    where
      holds : (b : Bool) → not b ≡ false → b ≡ true
      holds true t = refl
      holds false t = sym t

  pub same_not : not (bytes_eq (get_or left i d).lexeme (get_or right i e).lexeme) ≡ true
      → lexemes_of left ≢ lexemes_of right
  same_not test same =
      let lexeme : (get_or left i d).lexeme ≡ (get_or right i e).lexeme =
      sym (get_or-map (λ (f : Found). f.lexeme) left i d [] h) ∙ ap (λ z. get_or z i []) same
      ∙ get_or-map (λ (f : Found). f.lexeme) right i e [] k in
      true≢false (sym test ∙ ap not ((bytes_eq-Decides (get_or left i d).lexeme (get_or right i e).lexeme).1 lexeme))

-- ── the best so far ──
module _ (rules : List KeptRule) (answers : List WordAnswer) (i : ℕ) (rule : KeptRule)
    (at : slice_get rules i ≡ Some rule) where
  same_rule : (other : KeptRule) → slice_get rules i ≡ Some other → rule ≡ other
  same_rule other e = let x : Some rule ≡ Some other = sym at ∙ e in cc

  before_or : (k : ℕ) → k < i + 1 → (k < i) ⊎ (k ≡ i)
  before_or k h = grind arith

  pub best_new : (best : Option ℕ) (longest : ℕ) → IsBestOf rules answers i best longest → Suits answers rule
      → longest ≤ size rule → IsBestOf rules answers (i + 1) (Some i) (size rule)
  best_new best longest b s le = record {
    rule = rule;
    there = at;
    suits = s;
    longest_is = refl;
    others = λ k other h e t.
        ⊎_elim
        (λ before. older best b k other before e t)
        (λ here. inr (
          ap size (sym (same_rule other (subst (λ n. slice_get rules n ≡ Some other) here e))),
          let z : k ≤ i = omega arith in z,
        ))
        (before_or k h);
  }
    where
      older : (best : Option ℕ) → IsBestOf rules answers i best longest → (k : ℕ) (other : KeptRule) → k < i
          → slice_get rules k ≡ Some other → Suits answers other
          → (size other < size rule) ⊎ ((size other ≡ size rule) × (k ≤ i))
      older None b k other h e t = absurd (b.1 k other h e t)
      older (Some p) b k other h e t =
          let o = b.others k other h e t in
          let z : (size other < size rule) ⊎ ((size other ≡ size rule) × (k ≤ i)) =
          ⊎_elim (λ l. inl (omega arith)) (λ s. near s.0) o in
          z
        where
          near : size other ≡ longest → (size other < size rule) ⊎ ((size other ≡ size rule) × (k ≤ i))
          near s = grind arith

  pub best_unfit : (best : Option ℕ) (longest : ℕ) → IsBestOf rules answers i best longest → ¬ Suits answers rule
      → IsBestOf rules answers (i + 1) best longest
  best_unfit None longest b unfit = (
    b.0,
    λ k other h e t. ⊎_elim (λ before. b.1 k other before e t) (λ here. unfit (subst (Suits answers)
        (sym (same_rule other (subst (λ n. slice_get rules n ≡ Some other) here e))) t)) (before_or k h),
  )
  best_unfit (Some p) longest b unfit = record {
    rule = b.rule;
    there = b.there;
    suits = b.suits;
    longest_is = b.longest_is;
    others = λ k other h e t. ⊎_elim (λ before. b.others k other before e t) (λ here. absurd
        (unfit (subst (Suits answers) (sym (same_rule other (subst (λ n. slice_get rules n ≡ Some other) here e))) t)))
        (before_or k h);
  }

  pub best_short : (best : Option ℕ) (longest : ℕ) → IsBestOf rules answers i best longest → size rule < longest
      → IsBestOf rules answers (i + 1) best longest
  best_short None longest b l = let e = b.0 in absurd (omega arith)
  best_short (Some p) longest b l = record {
    rule = b.rule;
    there = b.there;
    suits = b.suits;
    longest_is = b.longest_is;
    others = λ k other h e t.
        ⊎_elim
        (λ before. b.others k other before e t)
        (λ here. inl
        (subst (λ r. size r < longest) (same_rule other (subst (λ n. slice_get rules n ≡ Some other) here e)) l))
        (before_or k h);
  }

-- ── rules as contracts see them ──
abbrev pub viewed : List KeptRule → List Rule
viewed rules = map rule_value rules

pub viewed_at : (rules : List KeptRule) (k : ℕ) (rule : KeptRule) → slice_get rules k ≡ Some rule
    → slice_get (viewed rules) k ≡ Some (rule_value rule)
viewed_at rules k rule e = slice_get-map rule_value rules k ∙ ap (option_map rule_value) e

pub kept_at : (rules : List KeptRule) (k : ℕ) (rule : Rule) → slice_get (viewed rules) k ≡ Some rule
    → (kept : KeptRule) × (slice_get rules k ≡ Some kept) × (rule_value kept ≡ rule)
kept_at rules k rule e = by (slice_get rules k) refl
  where
    by : (o : Option KeptRule) → slice_get rules k ≡ o
        → (kept : KeptRule) × (slice_get rules k ≡ Some kept) × (rule_value kept ≡ rule)
    by None f = let x : None ≡ Some rule =
        sym (ap (option_map rule_value) f) ∙ sym (slice_get-map rule_value rules k) ∙ e in absurd (let y : ⊥ = cc in y)
    by (Some kept) f = let x : Some (rule_value kept) ≡ Some rule = sym (ap (option_map rule_value) f)
        ∙ sym (slice_get-map rule_value rules k) ∙ e in let y : rule_value kept ≡ rule = cc in (kept, f, y)

length-viewed : (rule : KeptRule) → length (rule_value rule).samples ≡ size rule
length-viewed rule = length-map rule.samples.items sample_value

-- the best of all rules is so among those of any length
pub best_up_to : (rules : List KeptRule) (answers : List WordAnswer) (best : Option ℕ) → IsBestPlace rules answers best
    → (n : ℕ) → IsBestUpTo (viewed rules) answers n best
best_up_to rules answers None (longest, b) n = λ k rule e le fits.
    let kept = kept_at rules k rule e in
    b.1 k kept.0 (slice_get_within rules k kept.0 kept.1) kept.1
    (subst (λ r. FitsFirst r.samples answers) (sym kept.2) fits)
best_up_to rules answers (Some place) (longest, b) n = (
  rule_value b.rule,
  viewed_at rules place b.rule b.there,
  b.suits,
  λ k other f le fits.
      let kept = kept_at rules k other f in
      let o = b.others k kept.0 (slice_get_within rules k kept.0 kept.1) kept.1
      (subst (λ r. FitsFirst r.samples answers) (sym kept.2) fits) in
      let sizes : length other.samples ≡ size kept.0 = sym (ap (λ r. length r.samples) kept.2) ∙ length-viewed kept.0 in
      let mine : length (rule_value b.rule).samples ≡ longest = length-viewed b.rule ∙ sym b.longest_is in
      ⊎_elim (λ l. inl (let z : length other.samples < length (rule_value b.rule).samples = omega arith in z))
      (λ s. inr (sizes ∙ s.0 ∙ sym mine, s.1)) o,
)

module _ (rules : List Rule) (answers : List WordAnswer) where
  pub best_none : ((n : ℕ) → IsBestUpTo rules answers n None) → NoneFits rules answers
  best_none all k rule e fits = all (length rule.samples) k rule e (omega arith) fits

  pub best_some : (place : ℕ) (rule : Rule) (r : Replacement) → ((n : ℕ) → IsBestUpTo rules answers n (Some place))
      → slice_get rules place ≡ Some rule
      → r.tokens ≡ length rule.samples → r.words ≡ rule.words → IsBest rules answers r
  best_some place rule r all at tokens words = record {
    place = place;
    rule = rule;
    there = at;
    fits = (let b = all 0 in subst (λ q. FitsFirst q.samples answers) (one b.0 b.1) b.2);
    longest = λ k other f fits.
        let b = all (length other.samples) in
        subst (λ q. (length other.samples < length q.samples)
        ⊎ ((length other.samples ≡ length q.samples) × (k ≤ place))) (one b.0 b.1)
        (b.3 k other f (omega arith) fits);
    tokens = tokens;
    words = words;
  }
    where
      one : (q : Rule) → slice_get rules place ≡ Some q → q ≡ rule
      one q e = let x : Some q ≡ Some rule = sym e ∙ at in cc

pub place_within : (rules : List KeptRule) (answers : List WordAnswer) (place : ℕ)
    → ((n : ℕ) → IsBestUpTo (viewed rules) answers n (Some place)) → place < length rules
place_within rules answers place all =
    let b = all 0 in let k = kept_at rules place b.0 b.1 in slice_get_within rules place k.0 k.1

-- ── going on ──
-- none of the rules before a place goes on
abbrev pub NoneOn : List KeptRule → List WordAnswer → ℕ → Type 0
NoneOn rules answers before = (k : ℕ) (other : KeptRule) → k < before → slice_get rules k ≡ Some other
    → ¬ FitsAll (map sample_value other.samples.items) answers

pub none_on : (rules : List KeptRule) (answers : List WordAnswer) (i : ℕ) (rule : KeptRule)
    → slice_get rules i ≡ Some rule → NoneOn rules answers i
    → ¬ FitsAll (map sample_value rule.samples.items) answers → NoneOn rules answers (i + 1)
none_on rules answers i rule at before unfit k other h e t =
    ⊎_elim
    (λ l. before k other l e t)
    (λ here. unfit (subst (λ r. FitsAll (map sample_value r.samples.items) answers)
    (sym (same_rule rules answers i rule at other (subst (λ n. slice_get rules n ≡ Some other) here e))) t))
    (before_or rules answers i rule at k h)

pub goes_on : (rules : List KeptRule) (answers : List WordAnswer) (i : ℕ) (rule : KeptRule) → slice_get rules i
    ≡ Some rule → FitsAll (map sample_value rule.samples.items) answers → Continues (viewed rules) answers
goes_on rules answers i rule at fits =
    record { place = i; rule = rule_value rule; there = viewed_at rules i rule at; fits = fits }

pub none_goes : (rules : List KeptRule) (answers : List WordAnswer) → NoneOn rules answers (length rules)
    → ¬ Continues (viewed rules) answers
none_goes rules answers none c =
    let kept = kept_at rules c.place c.rule c.there in
    none c.place kept.0 (slice_get_within rules c.place kept.0 kept.1) kept.1
    (subst (λ r. FitsAll r.samples answers) (sym kept.2) c.fits)
