-- The phrase that begins at a token, by the answers that were asked for.
use Rattle.std.proofs.Common.{◌≡◌, ◌⊎◌, inl, inr, ℕ, ◌-◌, ◌<◌, ◌≤◌, List, [], ◌∷◌, ◌++◌, length, true, sym, ◌∙◌, ap}
use Rattle.std.proofs.Common.{subst, arith}
use Rattle.std.specs.Prelude.{Some, None, slice_get}
use Rattle.std.proofs.lemmas.List.{append-nil}
use Rattle.ts_base.specs.declared.Found.{Found}
use Rattle.ts_base.specs.Dictionary.{WordAnswer}
use Rattle.ts_parser.specs.declared.iter.Token.{Token}
use Rattle.ts_thesaurus.specs.Rules.{SampleWord, any_stop, with_lexemes, Rule, FitsFirst, FitsAll, Replacement, IsBest}
use Rattle.ts_thesaurus.specs.Rules.{NoneFits, Continues}
use Rattle.ts_config.specs.Mappings.{Mapping}
use Rattle.ts_config.specs.Phrases.{seen, behind, answers_to, lists, IsPhrase, NoPhrase}
use Rattle.ts_config.specs.Parts.{named_answer}
use Rattle.ts_config.specs.Inner.Looking.{AreSeen}
use Rattle.ts_config.proofs.Seen.{lists_asked, behind_asked}

-- ── rules that fit ──
fits_more : (ss : List SampleWord) (front more : List WordAnswer) → FitsFirst ss front → FitsFirst ss (front ++ more)
fits_more [] front more h = tt
fits_more (s ∷ ss) [] more h = absurd h
fits_more (s ∷ ss) (a ∷ front) more (h, k) = (h, fits_more ss front more k)

fits_or : (ss : List SampleWord) (front more : List WordAnswer) → FitsFirst ss (front ++ more)
    → FitsFirst ss front ⊎ FitsAll ss front
fits_or [] front more h = inl tt
fits_or (s ∷ ss) [] more h = inr tt
fits_or (s ∷ ss) (a ∷ front) more (h, k) = by (fits_or ss front more k)
  where
    by : FitsFirst ss front ⊎ FitsAll ss front → FitsFirst (s ∷ ss) (a ∷ front) ⊎ FitsAll (s ∷ ss) (a ∷ front)
    by (inl f) = inl (h, f)
    by (inr f) = inr (h, f)

module _ (rules : List Rule) (all answers : List WordAnswer) (looked : AreSeen rules all answers) where
  fits_all : (rule : Rule) → FitsFirst rule.samples answers → FitsFirst rule.samples all
  fits_all rule h = subst (FitsFirst rule.samples) (sym looked.split) (fits_more rule.samples answers looked.more h)

  -- where no rule goes on, one that fits them all is there already
  fits_unless : (k : ℕ) (rule : Rule) → slice_get rules k ≡ Some rule → ¬ Continues rules answers
      → FitsFirst rule.samples answers ⊎ FitsAll rule.samples answers → FitsFirst rule.samples answers
  fits_unless k rule e ends (inl f) = f
  fits_unless k rule e ends (inr f) = absurd (ends (record { place = k; rule = rule; there = e; fits = f }))

  -- what fits all answers fits those that were asked for
  fits_back : (k : ℕ) (rule : Rule) → slice_get rules k ≡ Some rule → FitsFirst rule.samples all
      → FitsFirst rule.samples answers
  fits_back k rule e h = by looked.enough
    where
      by : (looked.more ≡ []) ⊎ (¬ Continues rules answers) → FitsFirst rule.samples answers
      by (inl none) = subst (FitsFirst rule.samples) (looked.split ∙ ap (λ l. answers ++ l) none ∙ append-nil answers) h
      by (inr ends) = fits_unless k rule e ends
          (fits_or rule.samples answers looked.more (subst (FitsFirst rule.samples) looked.split h))

  best_whole : (r : Replacement) → IsBest rules answers r → IsBest rules all r
  best_whole r b = record {
    place = b.place;
    rule = b.rule;
    there = b.there;
    fits = fits_all b.rule b.fits;
    longest = λ k other e h. b.longest k other e (fits_back k other e h);
    tokens = b.tokens;
    words = b.words;
  }

  none_whole : NoneFits rules answers → NoneFits rules all
  none_whole n k rule e h = n k rule e (fits_back k rule e h)

-- ── one best rule ──
same_rule : (rules : List Rule) (j k : ℕ) (a b : Rule) → j ≡ k → slice_get rules j ≡ Some a → slice_get rules k ≡ Some b
    → a ≡ b
same_rule rules j k a b e f g = some (sym f ∙ ap (slice_get rules) e ∙ g)
  where
    some : Some a ≡ Some b → a ≡ b
    some h = cc

pub best_one : (rules : List Rule) (answers : List WordAnswer) (r s : Replacement) → IsBest rules answers r
    → IsBest rules answers s → (r.tokens ≡ s.tokens) × (r.words ≡ s.words)
best_one rules answers r s b c = by (b.longest c.place c.rule c.there c.fits) (c.longest b.place b.rule b.there b.fits)
  where
    by : (length c.rule.samples < length b.rule.samples)
        ⊎ ((length c.rule.samples ≡ length b.rule.samples) × (c.place ≤ b.place))
        → (length b.rule.samples < length c.rule.samples)
        ⊎ ((length b.rule.samples ≡ length c.rule.samples) × (b.place ≤ c.place))
        → (r.tokens ≡ s.tokens) × (r.words ≡ s.words)
    by (inl x) (inl y) = absurd (omega (arith, x, y))
    by (inl x) (inr (e, y)) = absurd (omega (arith, x, e))
    by (inr (e, x)) (inl y) = absurd (omega (arith, e, y))
    by (inr (e, x)) (inr (f, y)) =
        let place : b.place ≡ c.place = omega (arith, x, y) in
        let rule : b.rule ≡ c.rule = same_rule rules b.place c.place b.rule c.rule place b.there c.there in
        (b.tokens ∙ ap (λ q. length q.samples) rule ∙ sym c.tokens, b.words ∙ ap (λ q. q.words) rule ∙ sym c.words)

-- ── phrases ──
module _ (m : Mapping) (text : List ℕ) (answer : List ℕ → WordAnswer) (p : ℕ) (rules : List Rule) where
  pub phrase_one : (ts : List Token) (v w : List Found) (a b : List Token) → IsPhrase m text answer p rules ts v a
      → IsPhrase m text answer p rules ts w b → (v ≡ w) × (a ≡ b)
  phrase_one ts v w a b x y =
      let e = best_one rules (answers_to answer text (seen m p ts)) (record { tokens = x.tokens; words = v })
      (record { tokens = y.tokens; words = w }) x.best y.best in
      (e.1, x.left ∙ ap (λ n. behind m n ts) e.0 ∙ sym y.left)

  module _ (t : Token) (ts : List Token) (answers : List WordAnswer)
      (looked : AreSeen rules (answers_to answer text (seen m p (t ∷ ts))) answers) where
    pub phrase_found : (n : ℕ) (words : List Found) (rest : List Token) → IsBest rules answers (record {
      tokens = n;
      words = words;
    }) → 0 < n → lists m p t ≡ true → rest ≡ behind m (n - 1) ts
        → IsPhrase m text answer p rules (t ∷ ts) words rest
    phrase_found n words rest b l e f = record {
      tokens = n;
      some = l;
      best = best_whole rules _ answers looked (record { tokens = n; words = words }) b;
      left = f ∙ sym (behind_asked m n t ts l (lists_asked m p t e));
    }

    pub phrase_none : NoneFits rules answers → NoPhrase m text answer p rules (t ∷ ts)
    phrase_none n words rest h = none_whole rules _ answers looked n h.best.place h.best.rule h.best.there h.best.fits

    pub phrase_empty : (n : ℕ) (words : List Found) → IsBest rules answers (record { tokens = n; words = words })
        → ¬ (0 < n) → NoPhrase m text answer p rules (t ∷ ts)
    phrase_empty n words b l v rest h =
        let r : Replacement = record { tokens = n; words = words } in
        let same = best_one rules _ r (record { tokens = h.tokens; words = v })
        (best_whole rules _ answers looked r b) h.best in
        l (subst (λ k. 0 < k) (sym same.0) h.some)

-- ── no subdictionary ──
never_fits : (text : List ℕ) (s : SampleWord) (ss : List SampleWord) (ts : List Token)
    → ¬ FitsFirst (s ∷ ss) (answers_to (named_answer None) text ts)
never_fits text s ss [] h = h
never_fits text any_stop ss (t ∷ ts) (h, k) = h
never_fits text (with_lexemes l) ss (t ∷ ts) (h, k) = h

pub no_sub : (m : Mapping) (text : List ℕ) (p : ℕ) (rules : List Rule) (ts : List Token)
    → NoPhrase m text (named_answer None) p rules ts
no_sub m text p rules ts words rest h = by h.best.rule.samples h.best.fits h.best.tokens
  where
    by : (ss : List SampleWord) → FitsFirst ss (answers_to (named_answer None) text (seen m p ts))
        → h.tokens ≡ length ss → ⊥
    by [] f e = omega (arith, h.some, e)
    by (s ∷ ss) f e = never_fits text s ss (seen m p ts) f
