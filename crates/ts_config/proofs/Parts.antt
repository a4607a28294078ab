-- A token list has one list of parts.
use Rattle.std.proofs.Common.{◌≡◌, ◌≢◌, inl, inr, ℕ, ◌+◌, ◌<◌, ◌≤◌, List, [], ◌∷◌, ◌++◌, false, length, drop, get_or}
use Rattle.std.proofs.Common.{refl, sym, ◌∙◌, ap, subst}
use Rattle.std.specs.Prelude.{Option, Some, None, slice_get}
use Rattle.std.specs.Option.{option_map}
use Rattle.std.proofs.lemmas.Bool.{true≢false}
use Rattle.std.proofs.lemmas.List.{drop_more, drop_all}
use Rattle.ts_base.specs.declared.Answer.{Answer}
use Rattle.ts_base.specs.declared.Answer.TheVariants.{Unknown, Stop, Lexemes}
use Rattle.ts_base.specs.declared.Found.{Found}
use Rattle.ts_base.specs.Dictionary.{WordAnswer, unknown_word, word_lexemes, answer_value}
use Rattle.ts_parser.specs.declared.iter.Token.{Token}
use Rattle.ts_thesaurus.specs.Rules.{Rule}
use Rattle.ts_config.specs.Rules.{Rules, simple_rules, synonym_rules, porter_rules, thesaurus_rules, answer_by}
use Rattle.ts_config.specs.Rules.{is_thesaurus}
use Rattle.ts_config.specs.Mappings.{Mapping}
use Rattle.ts_config.specs.Known.{NamedRules, Known, rules_named}
use Rattle.ts_config.specs.Answers.{word_of, asked_for}
use Rattle.ts_config.specs.Phrases.{NoPhrase, GivesPhrase}
use Rattle.ts_config.specs.Parts.{named_answer, GivesBy, GivesAny, GivesAt, Decides, AreParts, no_part, part}
use Rattle.ts_config.proofs.Seen.{behind_within}
use Rattle.ts_config.proofs.Replacing.{phrase_one, no_sub}

words_known : (words : List Found) → word_lexemes words ≢ unknown_word
words_known words e = let z : ⊥ = cc in z

-- both give the same, and leave the same
abbrev Same : WordAnswer → WordAnswer → List Token → List Token → Type 0
Same a b r s = (a ≡ b) × (r ≡ s)

module _ (known : Known) (m : Mapping) (text : List ℕ) where
  phrase_same : (answer : List ℕ → WordAnswer) (p : ℕ) (rules : List Rule) (t : Token) (ts : List Token)
      (a b : WordAnswer) (r s : List Token)
      → GivesPhrase m text answer p rules t ts a r → GivesPhrase m text answer p rules t ts b s → Same a b r s
  phrase_same answer p rules t ts a b r s (inl (v, h, e)) (inl (w, k, f)) =
      let same = phrase_one m text answer p rules (t ∷ ts) v w r s h k in (e ∙ ap word_lexemes same.0 ∙ sym f, same.1)
  phrase_same answer p rules t ts a b r s (inl (v, h, e)) (inr (k, f, g)) = absurd (k v r h)
  phrase_same answer p rules t ts a b r s (inr (h, e, f)) (inl (w, k, g)) = absurd (h w s k)
  phrase_same answer p rules t ts a b r s (inr (h, e, f)) (inr (k, g, i)) = (e ∙ sym g, f ∙ sym i)

  gives_same : (o : Option NamedRules) (p : ℕ) (t : Token) (ts : List Token) (a b : WordAnswer) (r s : List Token)
      → GivesAny known m text o p t ts a r → GivesAny known m text o p t ts b s → Same a b r s
  gives_same None p t ts a b r s (e, f) (g, h) = (e ∙ sym g, f ∙ sym h)
  gives_same (Some d) p t ts a b r s x y = by d.rules x y
    where
      by : (rules : Rules) → GivesBy known m text rules p t ts a r → GivesBy known m text rules p t ts b s
          → Same a b r s
      by (simple_rules stops accept) (e, f) (g, h) = (e ∙ sym g, f ∙ sym h)
      by (synonym_rules kept) (e, f) (g, h) = (e ∙ sym g, f ∙ sym h)
      by (porter_rules stops) (e, f) (g, h) = (e ∙ sym g, f ∙ sym h)
      by (thesaurus_rules rules sub) x y = phrase_same (named_answer (rules_named known sub)) p rules t ts a b r s x y

  decides_same : (t : Token) (ts : List Token) (ps : List ℕ) (a b : WordAnswer) (r s : List Token)
      → Decides known m text t ts ps a r → Decides known m text t ts ps b s → Same a b r s
  decides_same t ts [] a b r s (e, f) (g, h) = (e ∙ sym g, f ∙ sym h)
  decides_same t ts (p ∷ ps) a b r s (inl (x, n)) (inl (y, o)) =
      gives_same (slice_get known.dictionaries p) p t ts a b r s x y
  decides_same t ts (p ∷ ps) a b r s (inl (x, n)) (inr (y, k)) =
      absurd (n (gives_same (slice_get known.dictionaries p) p t ts a unknown_word r ts x y).0)
  decides_same t ts (p ∷ ps) a b r s (inr (x, h)) (inl (y, o)) =
      absurd (o (gives_same (slice_get known.dictionaries p) p t ts b unknown_word s ts y x).0)
  decides_same t ts (p ∷ ps) a b r s (inr (x, h)) (inr (y, k)) = decides_same t ts ps a b r s h k

  pub parts_same : (ts : List Token) (xs ys : List WordAnswer) → AreParts known m text ts xs
      → AreParts known m text ts ys → xs ≡ ys
  parts_same _ _ _ no_part no_part = refl
  parts_same _ _ _ (part t ts r a more d h) (part _ _ s b others e k) =
      let same = decides_same t ts (asked_for m t) a b r s d e in
      let rest : more ≡ others =
      parts_same r more others h (subst (λ l. AreParts known m text l others) (sym same.1) k) in
      (λ i. same.0 i ∷ rest i)

  -- ── what is left ──
  abbrev pub IsLeft : List Token → List Token → Type 0
  IsLeft ts r = (front : List Token) × (ts ≡ front ++ r)

  gives_left : (o : Option NamedRules) (p : ℕ) (t : Token) (ts : List Token) (a : WordAnswer) (r : List Token)
      → GivesAny known m text o p t ts a r → IsLeft ts r
  gives_left None p t ts a r (e, f) = ([], sym f)
  gives_left (Some d) p t ts a r x = by d.rules x
    where
      by : (rules : Rules) → GivesBy known m text rules p t ts a r → IsLeft ts r
      by (simple_rules stops accept) (e, f) = ([], sym f)
      by (synonym_rules kept) (e, f) = ([], sym f)
      by (porter_rules stops) (e, f) = ([], sym f)
      by (thesaurus_rules rules sub) (inl (w, h, e)) =
          let k = behind_within m h.tokens t ts h.some in (k.0, k.1 ∙ ap (λ l. k.0 ++ l) (sym h.left))
      by (thesaurus_rules rules sub) (inr (n, e, f)) = ([], sym f)

  pub decides_left : (t : Token) (ts : List Token) (ps : List ℕ) (a : WordAnswer) (r : List Token)
      → Decides known m text t ts ps a r → IsLeft ts r
  decides_left t ts [] a r (e, f) = ([], sym f)
  decides_left t ts (p ∷ ps) a r (inl (x, n)) = gives_left (slice_get known.dictionaries p) p t ts a r x
  decides_left t ts (p ∷ ps) a r (inr (x, h)) = decides_left t ts ps a r h

  -- where nothing is known, nothing is passed over
  pub unknown_left : (o : Option NamedRules) (p : ℕ) (t : Token) (ts : List Token) (r : List Token)
      → GivesAny known m text o p t ts unknown_word r → r ≡ ts
  unknown_left None p t ts r (e, f) = f
  unknown_left (Some d) p t ts r x = by d.rules x
    where
      by : (rules : Rules) → GivesBy known m text rules p t ts unknown_word r → r ≡ ts
      by (simple_rules stops accept) (e, f) = f
      by (synonym_rules kept) (e, f) = f
      by (porter_rules stops) (e, f) = f
      by (thesaurus_rules rules sub) (inl (w, h, e)) = absurd (words_known w (sym e))
      by (thesaurus_rules rules sub) (inr (n, e, f)) = f

  -- ── the dictionary at a place ──
  pub nobody_gives : (o : Option NamedRules) (p : ℕ) (t : Token) (ts : List Token) → None ≡ option_map (λ d. d.rules) o
      → GivesAny known m text o p t ts unknown_word ts
  nobody_gives None p t ts e = (refl, refl)
  nobody_gives (Some d) p t ts e = let z : ⊥ = cc in absurd z

  pub rules_give : (o : Option NamedRules) (rules : Rules) (p : ℕ) (t : Token) (ts : List Token) (a : WordAnswer)
      (r : List Token) → Some rules ≡ option_map (λ d. d.rules) o
      → GivesBy known m text rules p t ts a r → GivesAny known m text o p t ts a r
  rules_give None rules p t ts a r e h = let z : ⊥ = cc in absurd z
  rules_give (Some d) rules p t ts a r e h =
      let same : rules ≡ d.rules = cc in subst (λ q. GivesBy known m text q p t ts a r) same h

  pub word_gives : (rules : Rules) (p : ℕ) (t : Token) (ts : List Token) (a : WordAnswer) → is_thesaurus rules ≡ false
      → a ≡ answer_by rules (word_of text t) → GivesBy known m text rules p t ts a ts
  word_gives (simple_rules stops accept) p t ts a n e = (e, refl)
  word_gives (synonym_rules kept) p t ts a n e = (e, refl)
  word_gives (porter_rules stops) p t ts a n e = (e, refl)
  word_gives (thesaurus_rules rules sub) p t ts a n e = absurd (true≢false n)

  -- a thesaurus goes by the rules of its subdictionary
  pub sub_gives : (o : Option Rules) (sub : Rules) (rules : List Rule) (p : ℕ) (t : Token) (ts : List Token)
      (a : WordAnswer) (r : List Token) → Some sub ≡ o
      → GivesPhrase m text (answer_by sub) p rules t ts a r → GivesPhrase m text (named_answer o) p rules t ts a r
  sub_gives o sub rules p t ts a r e h = subst (λ q. GivesPhrase m text (named_answer q) p rules t ts a r) e h

  module _ (o : Option NamedRules) (r : Rules) (rules : List Rule) (name : List ℕ) (p : ℕ) (t : Token) (ts : List Token)
      (there : Some r ≡ option_map (λ d. d.rules) o) (same : r ≡ thesaurus_rules rules name) where
    -- a thesaurus at the place, and no subdictionary
    pub no_sub_gives : None ≡ rules_named known name → GivesAny known m text o p t ts unknown_word ts
    no_sub_gives e =
        let none = subst (λ q. NoPhrase m text (named_answer q) p rules (t ∷ ts)) e (no_sub m text p rules (t ∷ ts)) in
        rules_give o (thesaurus_rules rules name) p t ts unknown_word ts (ap Some (sym same) ∙ there)
        (inr (none, refl, refl))

    -- and with its subdictionary
    pub sub_found_gives : (sub : Rules) (a : WordAnswer) (rest : List Token) → Some sub ≡ rules_named known name
        → GivesPhrase m text (answer_by sub) p rules t ts a rest
        → GivesAny known m text o p t ts a rest
    sub_found_gives sub a rest e h =
        rules_give o (thesaurus_rules rules name) p t ts a rest (ap Some (sym same) ∙ there)
        (sub_gives (rules_named known name) sub rules p t ts a rest e h)

-- ── dictionary after dictionary ──
pub known_answer : (a : Answer) → a ≢ Unknown → answer_value a ≢ unknown_word
known_answer Unknown n = absurd (n refl)
known_answer Stop n = λ e. let z : ⊥ = cc in z
known_answer (Lexemes found) n = λ e. let z : ⊥ = cc in z

module _ (known : Known) (m : Mapping) (text : List ℕ) (t : Token) (ts : List Token) (places : List ℕ) where
  -- what the dictionaries from a place of the list on decide, all of them decide
  abbrev pub DecidesFrom : ℕ → Type 0
  DecidesFrom i = (given : WordAnswer) (rest : List Token) → Decides known m text t ts (drop i places) given rest
      → Decides known m text t ts places given rest

  module _ (i d : ℕ) (lt : i < length places) (from : DecidesFrom i) where
    pub decides_found : (given : WordAnswer) (rest : List Token)
        → GivesAt known m text (get_or places i d) t ts given rest → given ≢ unknown_word
        → Decides known m text t ts places given rest
    decides_found given rest h n = from given rest
        (subst (λ ps. Decides known m text t ts ps given rest) (sym (drop_more places i d lt)) (inl (h, n)))

    pub decides_on : (rest : List Token) → GivesAt known m text (get_or places i d) t ts unknown_word rest
        → DecidesFrom (i + 1)
    decides_on rest h given behind k =
        let same = unknown_left known m text (slice_get known.dictionaries (get_or places i d))
        (get_or places i d) t ts rest h in
        from given behind (subst (λ ps. Decides known m text t ts ps given behind) (sym (drop_more places i d lt))
        (inr (subst (GivesAt known m text (get_or places i d) t ts unknown_word) same h, k)))

  pub decides_none : (i : ℕ) → length places ≤ i → DecidesFrom i → Decides known m text t ts places unknown_word ts
  decides_none i l from = from unknown_word ts
      (subst (λ ps. Decides known m text t ts ps unknown_word ts) (sym (drop_all i places l)) (refl, refl))
