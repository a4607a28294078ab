-- The rules of lines, line after line.
use Rattle.std.proofs.Common.{◌≡◌, ◌≢◌, inl, inr, ℕ, ◌+◌, ◌-◌, ◌≤◌, List, [], ◌∷◌, ◌++◌, length, refl, sym, ◌∙◌, ap}
use Rattle.std.proofs.Common.{subst, Option, Some, None, arith, length-append}
use Rattle.std.specs.Prelude.{All}
use Rattle.std.specs.List.{slice_get}
use Rattle.std.specs.Str.Lines.{lines}
use Rattle.std.specs.Str.Iter.{lines_steps, lines_rest}
use Rattle.std.specs.declared.str.Lines.{Lines}
use Rattle.std.proofs.lemmas.List.Elements.{All-nil, All-cons}
use Rattle.ts_base.specs.FirstLine.{IsFirstLine}
use Rattle.ts_base.specs.declared.Found.{Found}
use Rattle.ts_base.specs.Dictionary.{WordAnswer, unknown_word, stop_word}
use Rattle.ts_base.proofs.TextLines.{LinesDone, LineGiven, lines_start, line_given, lines_over, lines_few}
use Rattle.ts_base.proofs.FirstLines.{first_behind}
use Rattle.ts_thesaurus.specs.Rules.{Rule, SampleWord}
use Rattle.ts_thesaurus.specs.Lines.{IsPassed, ahead, sample_word, sample_words, HasSample, IsRead, GivesRule}
use Rattle.ts_thesaurus.specs.Lines.{IsBadLine, HasStopSample, HasUnknownSample, IsRefused, AreRules, IsFirstFault}
use Rattle.ts_thesaurus.specs.Lines.{Adds}
use Rattle.ts_base.specs.LineErrors.{error_at}
use Rattle.ts_thesaurus.specs.Faults.{IsFault, IsRefusal}
use Rattle.ts_base.specs.declared.line_error.LineError.{LineError}
use Rattle.ts_base.specs.declared.line_error.LineError.TheVariants.{Bad, StopInSample, UnknownInSample, Memory}
use Rattle.ts_thesaurus.proofs.Sides.{one_sides}
use Rattle.ts_thesaurus.proofs.Samples.{known_word, known_unknown}
use denote.Ref.{Bor}

module _ (answer : List ℕ → WordAnswer) where
  pub rules_pass : (ls : List (List ℕ)) (line : List ℕ) (rules : List Rule) → AreRules answer ls rules → IsPassed line
      → AreRules answer (ls ++ line ∷ []) rules
  rules_pass [] line rules h p = inl (p, h)
  rules_pass (l ∷ ls) line rules (inl h) p = inl (h.0, rules_pass ls line rules h.1 p)
  rules_pass (l ∷ ls) line rules (inr (rule, rest, e, g, h)) p = inr (rule, rest, e, g, rules_pass ls line rest h p)

  pub rules_more : (ls : List (List ℕ)) (line : List ℕ) (rules : List Rule) (rule : Rule) → AreRules answer ls rules
      → GivesRule answer line rule → AreRules answer (ls ++ line ∷ []) (rules ++ rule ∷ [])
  rules_more [] line rules rule h g = inr (rule, [], ap (λ z. z ++ rule ∷ []) h, g, refl)
  rules_more (l ∷ ls) line rules rule (inl h) g = inl (h.0, rules_more ls line rules rule h.1 g)
  rules_more (l ∷ ls) line rules rule (inr (r, rest, e, k, h)) g =
      inr (r, rest ++ rule ∷ [], ap (λ z. z ++ rule ∷ []) e, k, rules_more ls line rest rule h g)

  -- ── no line that has its rule is refused ──
  ahead_parts : (s : Option SampleWord) (ss : Option (List SampleWord)) (all : List SampleWord) → ahead s ss ≡ Some all
      → ((x : SampleWord) × (s ≡ Some x)) × ((xs : List SampleWord) × (ss ≡ Some xs))
  ahead_parts None ss all e = absurd (let y : ⊥ = cc in y)
  ahead_parts (Some s) None all e = absurd (let y : ⊥ = cc in y)
  ahead_parts (Some s) (Some ss) all e = ((s, refl), (ss, refl))

  all_known : (a : WordAnswer)
      → ((word : List ℕ) (x : SampleWord) → sample_word answer word ≡ Some x → word ≢ 63 ∷ [] → answer word ≢ a)
      → (words : List (List ℕ)) (all : List SampleWord) → sample_words answer words ≡ Some all
      → ¬ HasSample answer a words
  all_known a never [] all e h = h
  all_known a never (w ∷ ws) all e (inl h) =
      let p = ahead_parts (sample_word answer w) (sample_words answer ws) all e in never w p.0.0 p.0.1 h.0 h.1
  all_known a never (w ∷ ws) all e (inr h) =
      let p = ahead_parts (sample_word answer w) (sample_words answer ws) all e in all_known a never ws p.1.0 p.1.1 h

  gives_sample : (line : List ℕ) (rule : Rule) (sample : List (List ℕ)) (words : List Found)
      → GivesRule answer line rule → IsRead answer line sample words → sample_words answer sample ≡ Some rule.samples
  gives_sample line rule sample words g r =
      let same = one_sides line g.sample g.read.indexed sample r.indexed g.read.sides r.sides in
      subst (λ z. sample_words answer z ≡ Some rule.samples) same.0 g.samples

  pub passed_not_refused : (line : List ℕ) → IsPassed line → ¬ IsRefused answer line
  passed_not_refused line p (inl b) = b.counts p
  passed_not_refused line p (inr (inl s)) = s.read.counts p
  passed_not_refused line p (inr (inr u)) = u.read.counts p

  pub rule_not_refused : (line : List ℕ) (rule : Rule) → GivesRule answer line rule → ¬ IsRefused answer line
  rule_not_refused line rule g (inl b) = b.unread g.sample rule.words g.read
  rule_not_refused line rule g (inr (inl s)) = all_known stop_word (known_word answer) s.sample rule.samples
      (gives_sample line rule s.sample s.words g s.read) s.stops
  rule_not_refused line rule g (inr (inr u)) = all_known unknown_word (known_unknown answer) u.sample rule.samples
      (gives_sample line rule u.sample u.words g u.read) u.unknown

  pub none_refused : (ls : List (List ℕ)) (rules : List Rule) → AreRules answer ls rules
      → All (λ l. ¬ IsRefused answer l) ls
  none_refused [] rules h = All-nil (λ l. ¬ IsRefused answer l)
  none_refused (l ∷ ls) rules (inl h) =
      All-cons (λ l. ¬ IsRefused answer l) l ls (passed_not_refused l h.0) (none_refused ls rules h.1)
  none_refused (l ∷ ls) rules (inr (rule, rest, e, g, h)) =
      All-cons (λ l. ¬ IsRefused answer l) l ls (rule_not_refused l rule g) (none_refused ls rest h)

  -- ── how far a text is read ──
  pub record Progress (text : List ℕ) (s : Lines) (rules : List Rule) (number : ℕ) : Type 0 where
    pub done : List (List ℕ)
    pub lines : LinesDone text done s
    pub rules_are : AreRules answer done rules
    pub count : number ≡ length done

  pub progress_start : (text : List ℕ) (s : Lines) → lines_rest s ≡ text → Progress text s [] 0
  progress_start text s e = record { done = []; lines = lines_start text s e; rules_are = refl; count = refl }

  at_length : (done more : List (List ℕ)) (x : List ℕ) → slice_get (done ++ x ∷ more) (length done) ≡ Some x
  at_length [] more x = refl
  at_length (d ∷ done) more x = at_length done more x

  module _ (text : List ℕ) (s t : Lines) (old : List Rule) (number : ℕ) (x : Bor (List ℕ))
      (p : Progress text s old number) (k : lines_steps s (Some x) t) where
    given : LineGiven text p.done x.now t
    given = line_given text p.done s t x p.lines k

    -- the number of a line is at most the text's length
    pub number_fits : number + 1 ≤ length text
    number_fits =
        omega (arith, lines_few text, p.count, ap length given.whole, length-append p.done (x.now ∷ given.more))

    first_fault : (Why : List ℕ → Type 0) → IsRefused answer x.now → Why x.now
        → IsFirstFault answer Why (lines text) (number + 1)
    first_fault Why r w = record {
      first = subst (λ n. IsFirstLine (IsRefused answer) (lines text) (n + 1)) (sym p.count)
          (subst (λ ls. IsFirstLine (IsRefused answer) ls (length p.done + 1)) (sym given.whole)
          (first_behind (IsRefused answer) p.done given.more x.now (none_refused p.done old p.rules_are) r));
      line = x.now;
      there =
          (let n : number + 1 - 1 ≡ length p.done = omega (arith, p.count) in
          ap (λ m. slice_get (lines text) m) n ∙ ap (λ ls. slice_get ls (length p.done)) given.whole
          ∙ at_length p.done given.more x.now);
      why = w;
    }

    pub first_refused : (e : LineError) → IsFault answer x.now e
        → IsRefusal answer (lines text) (error_at e (number + 1))
    first_refused Bad f = first_fault (IsBadLine answer) (inl f) f
    first_refused StopInSample f = first_fault (HasStopSample answer) (inr (inl f)) f
    first_refused UnknownInSample f = first_fault (HasUnknownSample answer) (inr (inr f)) f
    first_refused Memory f = tt

    pub progress_more : (new : List Rule) → Adds answer x.now old new → Progress text t new (number + 1)
    progress_more new h = record {
      done = p.done ++ x.now ∷ [];
      lines = given.then;
      rules_are = h.each p.done p.rules_are;
      count = ap (λ n. n + 1) p.count ∙ sym (length-append p.done (x.now ∷ []));
    }

  pub progress_over : (text : List ℕ) (s t : Lines) (rules : List Rule) (number : ℕ) → Progress text s rules number
      → lines_steps s None t → AreRules answer (lines text) rules
  progress_over text s t rules number p k =
      subst (λ ls. AreRules answer ls rules) (sym (lines_over text p.done s t p.lines k)) p.rules_are
