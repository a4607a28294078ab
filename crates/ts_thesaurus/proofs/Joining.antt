-- The samples of a rule are entered in a tree.
use Rattle.std.proofs.Common.{◌≡◌, ◌≢◌, ℕ, ◌<◌, ◌+◌, ◌⊎◌, inl, inr, ⊎_elim, List, [], ◌∷◌, ◌++◌, length, reverse, refl}
use Rattle.std.proofs.Common.{sym, ◌∙◌, ap, subst, arith, Some, zero, suc}
use Rattle.std.specs.List.{slice_get}
use Rattle.std.proofs.Math.ListN.{set}
use Rattle.std.proofs.lemmas.List.{append-nil, reverse-append, reverse-reverse, length-set}
use Rattle.std.proofs.lemmas.Option.{slice_get_past}
use Rattle.std.proofs.Common.{append_assoc}
use Rattle.ts_thesaurus.specs.declared.tree.State.{State}
use Rattle.ts_thesaurus.specs.Rules.{SampleWord, any_stop, with_lexemes, Rule}
use Rattle.ts_thesaurus.specs.Inner.Tree.{Letter, stop_letter, word_letter, end_letter, Named, tree_root, by_stop}
use Rattle.ts_thesaurus.specs.Inner.Tree.{by_word, by_end, IsTree, AddsStep, IsTreeOf}
use Rattle.ts_thesaurus.specs.Inner.States.{step_of, step_in, steps_of, last_in, last_of, IsEmptyState, Enters}
use Rattle.ts_thesaurus.specs.Inner.States.{EntersWords, EntersSample, EntersSamples, HasRoot, HasTree}
use Rattle.ts_thesaurus.proofs.Naming.{one_name}
use Rattle.ts_thesaurus.proofs.Growing.{name_stays, tree_grows}
use Rattle.ts_thesaurus.proofs.Walking.{reverse_cons}
use Rattle.ts_thesaurus.proofs.Entering.{get_set_same, get_set_other, same_or_other}
use Rattle.ts_thesaurus.proofs.Indexed.{Grows, grows_start, grows_step, BeginsRule, rule_joins}

module _ (r : Rule) (base : List State) where
  -- the base has grown to these states, by beginnings of the rule
  abbrev Grown : List State → Type 0
  Grown states = Grows (BeginsRule r) (steps_of base) (length base) (steps_of states) (length states)

  -- names stay where a letter is entered
  still_named : (old new : List State) (p next s : ℕ) (l : Letter) (xs : List SampleWord) (ls : List (List ℕ))
      → Enters old new p l next → Named (steps_of old) s xs ls → Named (steps_of new) s xs ls
  still_named old new p next s l xs ls e n =
      ⊎_elim
      (λ same. subst (λ z. Named (steps_of z) s xs ls) (sym same) n)
      (λ more. name_stays (steps_of old) (steps_of new) (length old) p l more.2 s xs ls n) e.grown

  -- where the next state's name is that of a beginning of the rule, or within a sample, the tree grows as it may
  letter_entered : (old new : List State) (p next : ℕ) (l : Letter) (ys : List SampleWord) (ms : List (List ℕ))
      → 0 < length base → p < length old → Grown old → Enters old new p l next
      → Named (steps_of new) next ys ms → (ms ≡ [] → BeginsRule r ys) → Grown new
  letter_entered old new p next l ys ms some h g e named allowed = by e.grown
    where
      by : (new ≡ old) ⊎ ((length new ≡ length old + 1) × (next ≡ length old)
          × AddsStep (steps_of old) (steps_of new) (length old) p l) → Grown new
      by (inl same) = subst Grown (sym same) g
      by (inr (size, fresh, adds)) =
          subst (λ n. Grows (BeginsRule r) (steps_of base) (length base) (steps_of new) n) (sym size)
          (grows_step (BeginsRule r) (steps_of base) (length base) (steps_of old) (steps_of new)
          (length old) p l some g adds h
          (λ x xs n.
          let tree : IsTree (steps_of new) (length old + 1) =
          tree_grows (steps_of old) (steps_of new) (length old) p l adds g.tree h in
          let same = one_name (steps_of new) (length old + 1) tree next (length old) ys (x ∷ xs) ms [] fresh named n in
          subst (BeginsRule r) same.0 (allowed same.1)))

  -- ── lexemes ──
  words_entered : (ws : List (List ℕ)) (old new : List State) (p next : ℕ) (xs : List SampleWord) (ls : List (List ℕ))
      → 0 < length base → p < length old → Grown old → EntersWords old new p ws next
      → Named (steps_of old) p xs ls → Grown new × Named (steps_of new) next xs (reverse ws ++ ls) × (next < length new)
  words_entered [] old new p next xs ls some h g (same, here) n = (
    subst Grown (sym same) g,
    subst (λ z. Named (steps_of z) next xs ls) (sym same) (subst (λ z. Named (steps_of old) z xs ls) (sym here) n),
    subst (λ z. next < length z) (sym same) (subst (λ z. z < length old) (sym here) h),
  )
  words_entered (w ∷ ws) old new p next xs ls some h g (mid, s, e, more) n =
      let named : Named (steps_of mid) s xs (w ∷ ls) =
      by_word p s xs ls w (still_named old mid p s p (word_letter w) xs ls e n) e.led in
      let grown =
      letter_entered old mid p s (word_letter w) xs (w ∷ ls) some h g e named (λ z. absurd (let y : ⊥ = cc in y)) in
      let rest = words_entered ws mid new s next xs (w ∷ ls) some e.stands.0 grown more named in
      (rest.0, subst (λ z. Named (steps_of new) next xs z) (reverse_cons (steps_of new) w ws ls) rest.1, rest.2)

  -- ── samples ──
  sample_entered : (x : SampleWord) (old new : List State) (p next : ℕ) (xs : List SampleWord) → 0 < length base
      → p < length old → Grown old → EntersSample old new p x next
      → Named (steps_of old) p xs [] → BeginsRule r (x ∷ xs)
      → Grown new × Named (steps_of new) next (x ∷ xs) [] × (next < length new)
  sample_entered any_stop old new p next xs some h g e n begins =
      let named : Named (steps_of new) next (any_stop ∷ xs) [] =
      by_stop p next xs (still_named old new p next p stop_letter xs [] e n) e.led in
      (letter_entered old new p next stop_letter (any_stop ∷ xs) [] some h g e named (λ z. begins), named, e.stands.0)
  sample_entered (with_lexemes ms) old new p next xs some h g (mid, s, words, e) n begins =
      let inner = words_entered ms old mid p s xs [] some h g words n in
      let whole : Named (steps_of mid) s xs (reverse ms) =
      subst (λ z. Named (steps_of mid) s xs z) (append-nil (reverse ms)) inner.1 in
      let named : Named (steps_of new) next (with_lexemes ms ∷ xs) [] =
      by_end s next xs (reverse ms) ms (still_named mid new s next s end_letter xs (reverse ms) e whole) e.led
      (sym (reverse-reverse ms)) in (
        letter_entered mid new s next end_letter (with_lexemes ms ∷ xs) [] some inner.2 inner.0 e named (λ z. begins),
        named,
        e.stands.0,
      )

  samples_cons : (z : SampleWord) (zs xs : List SampleWord) → reverse zs ++ (z ∷ xs) ≡ reverse (z ∷ zs) ++ xs
  samples_cons z zs xs = sym (ap (λ y. y ++ xs) (reverse-append (z ∷ []) zs) ∙ append_assoc (reverse zs) (z ∷ []) xs)

  samples_entered : (zs : List SampleWord) (old new : List State) (p next : ℕ) (xs : List SampleWord) → 0 < length base
      → p < length old → Grown old → EntersSamples old new p zs next
      → Named (steps_of old) p xs [] → reverse r.samples ≡ reverse zs ++ xs
      → Grown new × Named (steps_of new) next (reverse zs ++ xs) []
  samples_entered [] old new p next xs some h g (same, here) n whole = (
    subst Grown (sym same) g,
    subst (λ z. Named (steps_of z) next xs []) (sym same) (subst (λ z. Named (steps_of old) z xs []) (sym here) n),
  )
  samples_entered (z ∷ zs) old new p next xs some h g (mid, s, e, more) n whole =
      let parts : reverse r.samples ≡ reverse zs ++ (z ∷ xs) = whole ∙ sym (samples_cons z zs xs) in
      let one = sample_entered z old mid p s xs some h g e n (reverse zs, parts) in
      let rest = samples_entered zs mid new s next (z ∷ xs) some one.2 one.0 more one.1 parts in
      (rest.0, subst (λ y. Named (steps_of new) next y []) (samples_cons z zs xs) rest.1)

-- ── the last rules stay ──
words_last : (ws : List (List ℕ)) (old new : List State) (p next : ℕ) → EntersWords old new p ws next → (s : ℕ)
    → last_of new s ≡ last_of old s
words_last [] old new p next e s = ap (λ z. last_of z s) e.0
words_last (w ∷ ws) old new p next e s = words_last ws e.0 new e.1 next e.3 s ∙ e.2.last s

sample_last : (x : SampleWord) (old new : List State) (p next : ℕ) → EntersSample old new p x next → (s : ℕ)
    → last_of new s ≡ last_of old s
sample_last any_stop old new p next e s = e.last s
sample_last (with_lexemes ms) old new p next e s = e.3.last s ∙ words_last ms old e.0 p e.1 e.2 s

samples_last : (xs : List SampleWord) (old new : List State) (p next : ℕ) → EntersSamples old new p xs next → (s : ℕ)
    → last_of new s ≡ last_of old s
samples_last [] old new p next e s = ap (λ z. last_of z s) e.0
samples_last (x ∷ xs) old new p next e s = samples_last xs e.0 new e.1 next e.3 s ∙ sample_last x old e.0 p e.1 e.2 s

-- ── a rule more ──
-- a state that differs in its last rule alone
pub record MarksLast (before st : State) (place : ℕ) : Type 0 where
  pub steps : (l : Letter) → step_of st l ≡ step_of before l
  pub last : st.last ≡ Some place

pub marks : (before : State) (place : ℕ)
    → MarksLast before (record { stop = before.stop; words = before.words; end = before.end; last = Some place }) place
marks before place = record { steps = same; last = refl }
  where
    same : (l : Letter) → step_of (record {
      stop = before.stop;
      words = before.words;
      end = before.end;
      last = Some place;
    }) l ≡ step_of before l
    same stop_letter = refl
    same (word_letter w) = refl
    same end_letter = refl

module _ (states : List State) (e : ℕ) (before st : State) (place : ℕ) (h : e < length states)
    (at : slice_get states e ≡ Some before) (marked : MarksLast before st place) where
  same_steps : steps_of (set states e st) ≡ steps_of states
  same_steps = λ i s l. each s l i
    where
      each : (s : ℕ) (l : Letter) → steps_of (set states e st) s l ≡ steps_of states s l
      each s l = ⊎_elim
          (λ same. ap (λ z. steps_of (set states e st) z l) same ∙ ap (λ o. step_in o l) (get_set_same states e st h)
          ∙ marked.steps l ∙ sym (ap (λ o. step_in o l) at) ∙ ap (λ z. steps_of states z l) (sym same))
          (λ other. ap (λ o. step_in o l) (get_set_other states e s st other))
          (same_or_other s e)

  marked_here : last_of (set states e st) e ≡ Some place
  marked_here = ap last_in (get_set_same states e st h) ∙ marked.last

  marked_other : (s : ℕ) → s ≢ e → last_of (set states e st) s ≡ last_of states s
  marked_other s other = ap last_in (get_set_other states e s st other)

  -- the tree of one rule more
  pub joined : (rules : List Rule) (r : Rule) (old : List State) → 0 < length old → HasTree rules old
      → EntersSamples old states 0 r.samples e → place ≡ length rules
      → HasTree (rules ++ r ∷ []) (set states e st)
  joined rules r old some t enters is =
      let start = grows_start (BeginsRule r) (steps_of old) (length old) t.tree in
      let grown = samples_entered r old r.samples old states 0 e [] some some start enters tree_root
      (sym (append-nil (reverse r.samples))) in
      let named : Named (steps_of states) e (reverse r.samples) [] =
      subst (λ z. Named (steps_of states) e z []) (append-nil (reverse r.samples)) grown.1 in
      let steps = sym same_steps in
      rule_joins rules r (steps_of old) (steps_of (set states e st)) (length old) (length (set states e st)) e
      (last_of old) (last_of (set states e st)) some t
      (subst (λ f. Grows (BeginsRule r) (steps_of old) (length old) f (length (set states e st))) steps
      (subst (λ n. Grows (BeginsRule r) (steps_of old) (length old) (steps_of states) n)
      (sym (length-set states e st)) grown.0))
      (subst (λ f. Named f e (reverse r.samples) []) steps named)
      (marked_here ∙ ap Some is)
      (λ s other. marked_other s other ∙ samples_last r.samples old states 0 e enters s)
      (λ s far. ap last_in (slice_get_past old s far))

-- ── the first states ──
pub no_tree : HasTree [] []
no_tree = record {
  tree = record {
    from = λ p q s l k e f. absurd (let z : ⊥ = cc in z);
    letter = λ p q s l k e f. absurd (let z : ⊥ = cc in z);
    rises = λ p s l e. absurd (let z : ⊥ = cc in z);
    within = λ p s l e. absurd (let z : ⊥ = cc in z);
  };
  each = λ k rule at. absurd (let z : ⊥ = cc in z);
  only = nowhere;
  ends = λ s xs n k rule at. absurd (let z : ⊥ = cc in z);
}
  where
    nowhere : (s : ℕ) (x : SampleWord) (xs : List SampleWord) → Named (steps_of []) s (x ∷ xs) [] → (k : ℕ) × (rule
        : Rule) × (more : List SampleWord) × (slice_get [] k ≡ Some rule) × (reverse rule.samples ≡ more ++ (x ∷ xs))
    nowhere _ _ _ (by_stop p s xs n e) = absurd (let z : ⊥ = cc in z)
    nowhere _ _ _ (by_end p s xs ls ms n e g) = absurd (let z : ⊥ = cc in z)

-- the root alone
pub rooted : (rules : List Rule) (blank : State) → IsEmptyState blank → HasTree rules [] → HasTree rules (blank ∷ [])
rooted rules blank b t =
    subst (λ f. IsTreeOf rules f 1 (last_of (blank ∷ []))) steps
    (subst (λ g. IsTreeOf rules (steps_of []) 1 g) lasts
    (record {
      tree = record {
        from = t.tree.from;
        letter = t.tree.letter;
        rises = t.tree.rises;
        within = λ p s l e. let z = t.tree.within p s l e in omega arith;
      };
      each = t.each;
      only = t.only;
      ends = t.ends;
    }))
  where
    steps : steps_of [] ≡ steps_of (blank ∷ [])
    steps = λ i s l. each s l i
      where
        each : (s : ℕ) (l : Letter) → steps_of [] s l ≡ steps_of (blank ∷ []) s l
        each zero l = sym (b.alone l)
        each (suc s) l = refl

    lasts : last_of [] ≡ last_of (blank ∷ [])
    lasts = λ i s. each s i
      where
        each : (s : ℕ) → last_of [] s ≡ last_of (blank ∷ []) s
        each zero = sym b.last
        each (suc s) = refl

pub root_tree : (rules : List Rule) (old new : List State) → HasRoot old new → HasTree rules old
    → (0 < length new) × HasTree rules new
root_tree rules old new (inl (some, same)) t =
    (subst (λ z. 0 < length z) (sym same) some, subst (HasTree rules) (sym same) t)
root_tree rules old new (inr (none, (blank, b, is))) t = (
  subst (λ z. 0 < length z) (sym is) (let z : 0 < length (blank ∷ []) = omega arith in z),
  subst (HasTree rules) (sym is) (rooted rules blank b (subst (HasTree rules) none t)),
)
