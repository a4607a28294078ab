-- How letters are entered in a tree.
use Rattle.std.proofs.Common.{◌≡◌, ◌≢◌, ℕ, ◌<◌, ◌+◌, ◌⊎◌, inl, inr, ⊎_elim, List, [], ◌∷◌, ◌++◌, length, refl, sym, ◌∙◌}
use Rattle.std.proofs.Common.{ap, subst, arith, Some, None, zero, suc, Bool, true, false, cond, get_or, take, map}
use Rattle.std.specs.List.{slice_get}
use Rattle.std.specs.Prelude.{bytes_eq, string_bytes}
use Rattle.std.specs.Ordering.{nat_cmp}
use Rattle.std.specs.Cmp.Lexicographic.{slice_cmp}
use Rattle.std.specs.String.{string_cmp}
use Rattle.std.specs.BTreeMap.{UpdatesBy, get_by_text}
use Rattle.std.proofs.lemmas.Map.Text.{btree_map_updates_text}
use Rattle.std.proofs.lemmas.Slice.Eq.{bytes_eq-Decides}
use Rattle.std.proofs.Math.ListN.{set}
use Rattle.std.proofs.lemmas.List.{length-append, length-set, map-append, take_more}
use Rattle.ts_thesaurus.specs.declared.tree.State.{State}
use Rattle.ts_thesaurus.specs.Inner.Tree.{Letter, stop_letter, word_letter, end_letter, AddsStep}
use Rattle.ts_thesaurus.specs.Inner.States.{step_of, step_in, steps_of, last_in, last_of, IsEmptyState, LeadsTo}
use Rattle.ts_thesaurus.specs.Inner.States.{AreWithin, Stands, Enters, EntersWords, EntersSamples, EntersSample}
use Rattle.ts_thesaurus.specs.Rules.{SampleWord, any_stop, with_lexemes, lexemes_of}
use Rattle.ts_base.specs.declared.Found.{Found}
use Rattle.ts_thesaurus.specs.declared.rule.Sample.{Sample}
use Rattle.ts_thesaurus.specs.Views.{sample_value}
use Rattle.ts_thesaurus.proofs.Growing.{step_cases}

pub get_set_same : {X : Type 0} (xs : List X) (i : ℕ) (y : X) → i < length xs → slice_get (set xs i y) i ≡ Some y
get_set_same [] i y h = absurd (omega arith)
get_set_same (x ∷ xs) zero y h = refl
get_set_same (x ∷ xs) (suc i) y h = get_set_same xs i y (omega arith)

pub get_set_other : {X : Type 0} (xs : List X) (i j : ℕ) (y : X) → j ≢ i → slice_get (set xs i y) j ≡ slice_get xs j
get_set_other [] i j y ne = refl
get_set_other (x ∷ xs) zero zero y ne = absurd (ne refl)
get_set_other (x ∷ xs) zero (suc j) y ne = refl
get_set_other (x ∷ xs) (suc i) zero y ne = refl
get_set_other (x ∷ xs) (suc i) (suc j) y ne = get_set_other xs i j y (λ e. ne (ap suc e))

pub same_or_other : (a b : ℕ) → (a ≡ b) ⊎ (a ≢ b)
same_or_other a b = grind arith

-- a state after all others from which nothing leads on changes no step
pub blank_steps : (states : List State) (blank : State) → IsEmptyState blank → (s : ℕ) (l : Letter)
    → steps_of (states ++ blank ∷ []) s l ≡ steps_of states s l
blank_steps [] blank b zero l = b.alone l
blank_steps [] blank b (suc s) l = refl
blank_steps (x ∷ states) blank b zero l = refl
blank_steps (x ∷ states) blank b (suc s) l = blank_steps states blank b s l

pub blank_last : (states : List State) (blank : State) → IsEmptyState blank → (s : ℕ)
    → last_of (states ++ blank ∷ []) s ≡ last_of states s
blank_last [] blank b zero = b.last
blank_last [] blank b (suc s) = refl
blank_last (x ∷ states) blank b zero = refl
blank_last (x ∷ states) blank b (suc s) = blank_last states blank b s

module _ (old : List State) (blank before st : State) (p : ℕ) (l : Letter) (h : p < length old) (b : IsEmptyState blank)
    (at : slice_get (old ++ blank ∷ []) p ≡ Some before)
    (leads : LeadsTo before st l (length old)) where
  whole : length (set (old ++ blank ∷ []) p st) ≡ length old + 1
  whole = length-set (old ++ blank ∷ []) p st ∙ length-append old (blank ∷ [])

  here : slice_get (set (old ++ blank ∷ []) p st) p ≡ Some st
  here = get_set_same (old ++ blank ∷ []) p st (let n = length-append old (blank ∷ []) in omega arith)

  added : steps_of (set (old ++ blank ∷ []) p st) p l ≡ Some (length old)
  added = ap (λ o. step_in o l) here ∙ leads.added

  others : (q : ℕ) (k : Letter) → (steps_of (set (old ++ blank ∷ []) p st) q k ≡ steps_of old q k) ⊎ ((q ≡ p) × (k ≡ l))
  others q k = ⊎_elim same other (same_or_other q p)
    where
      other : q ≢ p → (steps_of (set (old ++ blank ∷ []) p st) q k ≡ steps_of old q k) ⊎ ((q ≡ p) × (k ≡ l))
      other ne = inl (ap (λ o. step_in o k) (get_set_other (old ++ blank ∷ []) p q st ne) ∙ blank_steps old blank b q k)

      same : q ≡ p → (steps_of (set (old ++ blank ∷ []) p st) q k ≡ steps_of old q k) ⊎ ((q ≡ p) × (k ≡ l))
      same e = ⊎_elim
          (λ s. inl
          (ap (λ z. steps_of (set (old ++ blank ∷ []) p st) z k) e ∙ ap (λ o. step_in o k) here ∙ s
          ∙ sym (ap (λ o. step_in o k) at) ∙ blank_steps old blank b p k
          ∙ ap (λ z. steps_of old z k) (sym e)))
          (λ s. inr (e, s)) (leads.others k)

  lasts : (s : ℕ) → last_of (set (old ++ blank ∷ []) p st) s ≡ last_of old s
  lasts s = ⊎_elim same other (same_or_other s p)
    where
      other : s ≢ p → last_of (set (old ++ blank ∷ []) p st) s ≡ last_of old s
      other ne = ap last_in (get_set_other (old ++ blank ∷ []) p s st ne) ∙ blank_last old blank b s

      same : s ≡ p → last_of (set (old ++ blank ∷ []) p st) s ≡ last_of old s
      same e =
          ap (λ z. last_of (set (old ++ blank ∷ []) p st) z) e ∙ ap last_in here ∙ leads.last ∙ sym (ap last_in at)
          ∙ blank_last old blank b p
          ∙ ap (λ z. last_of old z) (sym e)

  -- the letter is added
  pub enters_new : steps_of old p l ≡ None → AreWithin old → Enters old (set (old ++ blank ∷ []) p st) p l (length old)
  enters_new free all = record {
    led = added;
    grown = inr (whole, refl, adds);
    last = lasts;
    stands = (
      (let w = whole in omega arith),
      λ q s k e. ⊎_elim
          (λ o. let x = all q s k o in
          let w = whole in let z : s < length (set (old ++ blank ∷ []) p st) = omega arith in z)
          (λ n. let x = n.2 in let w = whole in let z : s < length (set (old ++ blank ∷ []) p st) = omega arith in z)
          (step_cases (steps_of old) (steps_of (set (old ++ blank ∷ []) p st)) (length old) p l adds q s k e),
    );
  }
    where
      adds : AddsStep (steps_of old) (steps_of (set (old ++ blank ∷ []) p st)) (length old) p l
      adds = record { free = free; added = added; others = others }

-- the letter was there
pub enters_old : (states : List State) (p next : ℕ) (l : Letter) → AreWithin states → steps_of states p l ≡ Some next
    → Enters states states p l next
enters_old states p next l all e =
    record { led = e; grown = inl refl; last = λ s. refl; stands = (all p next l e, all) }

-- ── one after another ──
pub words_more : (ws : List (List ℕ)) (old mid new : List State) (p s next : ℕ) (w : List ℕ)
    → EntersWords old mid p ws s → Enters mid new s (word_letter w) next
    → EntersWords old new p (ws ++ w ∷ []) next
words_more [] old mid new p s next w a e = (
  new,
  next,
  subst (λ z. Enters z new p (word_letter w) next) a.0 (subst (λ z. Enters mid new z (word_letter w) next) a.1 e),
  (refl, refl),
)
words_more (v ∷ ws) old mid new p s next w a e = (a.0, a.1, a.2, words_more ws a.0 mid new a.1 s next w a.3 e)

pub samples_more : (xs : List SampleWord) (old mid new : List State) (p s next : ℕ) (x : SampleWord)
    → EntersSamples old mid p xs s → EntersSample mid new s x next
    → EntersSamples old new p (xs ++ x ∷ []) next
samples_more [] old mid new p s next x a e = (
  new,
  next,
  subst (λ z. EntersSample z new p x next) a.0 (subst (λ z. EntersSample mid new z x next) a.1 e),
  (refl, refl),
)
samples_more (y ∷ xs) old mid new p s next x a e = (a.0, a.1, a.2, samples_more xs a.0 mid new a.1 s next x a.3 e)

-- the states that are there afterwards
pub words_stand : (ws : List (List ℕ)) (old new : List State) (p next : ℕ) → EntersWords old new p ws next
    → Stands old p → Stands new next
words_stand [] old new p next a h = subst (λ z. Stands z next) (sym a.0) (subst (Stands old) (sym a.1) h)
words_stand (w ∷ ws) old new p next a h = words_stand ws a.0 new a.1 next a.3 a.2.stands

pub sample_stands : (x : SampleWord) (old new : List State) (p next : ℕ) → EntersSample old new p x next
    → Stands new next
sample_stands any_stop old new p next a = a.stands
sample_stands (with_lexemes ms) old new p next a = a.3.stands

pub samples_stand : (xs : List SampleWord) (old new : List State) (p next : ℕ) → EntersSamples old new p xs next
    → Stands old p → Stands new next
samples_stand [] old new p next a h = subst (λ z. Stands z next) (sym a.0) (subst (Stands old) (sym a.1) h)
samples_stand (x ∷ xs) old new p next a h = samples_stand xs a.0 new a.1 next a.3 (sample_stands x old a.0 p a.1 a.2)

-- ── the code's lists ──
pub map_more : {A B : Type 0} (f : A → B) (xs : List A) (i : ℕ) (x : A) → i < length xs → x ≡ get_or xs i x
    → map f (take (i + 1) xs) ≡ map f (take i xs) ++ f x ∷ []
map_more f xs i x h is = ap (map f) (take_more xs i x h) ∙ map-append f (take i xs) (get_or xs i x ∷ [])
    ∙ ap (λ z. map f (take i xs) ++ f z ∷ []) (sym is)

-- the lexemes up to the next are entered
pub words_next : (found : List Found) (i : ℕ) (word : Found) (old mid new : List State) (p s next : ℕ)
    → i < length found → word ≡ get_or found i word → EntersWords old mid p (lexemes_of (take i found)) s
    → Enters mid new s (word_letter word.lexeme) next → EntersWords old new p (lexemes_of (take (i + 1) found)) next
words_next found i word old mid new p s next h is a e =
    subst (λ z. EntersWords old new p z next) (sym (map_more (λ f. f.lexeme) found i word h is))
    (words_more (lexemes_of (take i found)) old mid new p s next word.lexeme a e)

-- the samples up to the next are entered
pub samples_next : (samples : List Sample) (i : ℕ) (x : Sample) (old mid new : List State) (s next : ℕ)
    → i < length samples → x ≡ get_or samples i x → EntersSamples old mid 0 (map sample_value (take i samples)) s
    → EntersSample mid new s (sample_value x) next
    → EntersSamples old new 0 (map sample_value (take (i + 1) samples)) next
samples_next samples i x old mid new s next h is a e =
    subst (λ z. EntersSamples old new 0 z next) (sym (map_more sample_value samples i x h is))
    (samples_more (map sample_value (take i samples)) old mid new 0 s next (sample_value x) a e)

-- ── a word ──
pub word_leads : (old new : State) (bs : List ℕ) (next : ℕ) → new.stop ≡ old.stop → new.end ≡ old.end
    → new.last ≡ old.last
    → UpdatesBy string_cmp (λ k. slice_cmp nat_cmp bs (string_bytes k)) old.words new.words (Some next)
    → LeadsTo old new (word_letter bs) next
word_leads old new bs next stops ends lasts u = record {
  added = here bs ∙ ap (λ b. cond b (Some next) (get_by_text old.words bs)) ((bytes_eq-Decides bs bs).1 refl);
  others = rest;
  last = lasts;
}
  where
    here : (w : List ℕ) → get_by_text new.words w ≡ cond (bytes_eq bs w) (Some next) (get_by_text old.words w)
    here w = btree_map_updates_text bs old.words new.words (Some next) u w

    rest : (k : Letter) → (step_of new k ≡ step_of old k) ⊎ (k ≡ word_letter bs)
    rest stop_letter = inl stops
    rest end_letter = inl ends
    rest (word_letter w) = by (bytes_eq bs w) refl
      where
        by : (b : Bool) → bytes_eq bs w ≡ b
            → (step_of new (word_letter w) ≡ step_of old (word_letter w)) ⊎ (word_letter w ≡ word_letter bs)
        by true e = inr (ap (λ z. word_letter z) (sym ((bytes_eq-Decides bs w).0 e)))
        by false e = inl (here w ∙ ap (λ b. cond b (Some next) (get_by_text old.words w)) e)
