-- The sample words and the indexed words of a line, one after another.
use Rattle.std.proofs.Common.{◌≡◌, ◌≢◌, ◌⊎◌, inl, inr, ⊎_elim, ℕ, ◌+◌, ◌<◌, List, [], ◌∷◌, ◌++◌, length, get_or, take}
use Rattle.std.proofs.Common.{drop, map, Bool, true, false, cond, refl, sym, ◌∙◌, ap, subst, arith, append_assoc}
use Rattle.std.proofs.Common.{add-one, Option, Some, None, ◌≤◌, true≢false}
use Rattle.std.specs.Prelude.{◌==◌}
use Rattle.std.proofs.lemmas.List.{map-append, append-nil, take_more, take-append-drop}
use Rattle.std.proofs.Math.Seq.{drop-cons}
use Rattle.ts_base.specs.declared.Found.{Found}
use Rattle.ts_base.specs.Dictionary.{WordAnswer, unknown_word, stop_word}
use Rattle.ts_thesaurus.specs.Rules.{SampleWord}
use Rattle.ts_thesaurus.specs.Lines.{both, ahead, indexed_word, indexed_words, sample_word, sample_words, HasSample}
use Rattle.ts_thesaurus.proofs.Cuts.{texts}
use Rattle.std.specs.Prelude.{bytes_eq}
use Rattle.std.proofs.lemmas.Slice.Eq.{bytes_eq-Decides}
use Rattle.std.proofs.lemmas.Bool.Decides.{Decides-eqb}
use Rattle.ts_thesaurus.specs.Rules.{any_stop}
use Rattle.ts_thesaurus.specs.Lines.{lexemes_in, as_it_is, sample_of}
use Rattle.ts_thesaurus.specs.Views.{sample_value}
use Rattle.ts_thesaurus.specs.declared.rule.Sample.{Sample}
use Rattle.ts_base.specs.declared.line_error.LineError.{LineError}
use Rattle.ts_base.specs.declared.line_error.LineError.TheVariants.{Bad, StopInSample, UnknownInSample, Memory}
use Rattle.ts_thesaurus.specs.Inner.Reading.{IsWordFault, AreWordsFault, AreSampled, IsKnown}
use denote.Ref.{Bor}

both_assoc : (a b c : Option (List Found)) → both (both a b) c ≡ both a (both b c)
both_assoc None b c = refl
both_assoc (Some a) None c = refl
both_assoc (Some a) (Some b) None = refl
both_assoc (Some a) (Some b) (Some c) = ap (λ z. Some z) (append_assoc a b c)

both_nil : (a : Option (List Found)) → both (Some []) a ≡ a
both_nil None = refl
both_nil (Some a) = refl

nil_both : (a : Option (List Found)) → both a (Some []) ≡ a
nil_both None = refl
nil_both (Some a) = ap (λ z. Some z) (append-nil a)

-- the words up to one, it, and those after it
abbrev at_word : List (Bor (List ℕ)) → ℕ → Bor (List ℕ) → List (List ℕ)
at_word words i d = texts (take i words) ++ (get_or words i d).now ∷ texts (drop (i + 1) words)

texts_at : (words : List (Bor (List ℕ))) (i : ℕ) (d : Bor (List ℕ)) → i < length words → texts words ≡ at_word words i d
texts_at words i d h =
    let parts : words ≡ take i words ++ get_or words i d ∷ drop (i + 1) words =
    sym (take-append-drop i words) ∙ ap (λ z. take i words ++ z) (drop-cons words i d h)
    ∙ ap (λ n. take i words ++ get_or words i d ∷ drop n words) (sym (add-one i)) in
    ap texts parts ∙ map-append (λ (w : Bor (List ℕ)). w.now) (take i words) (get_or words i d ∷ drop (i + 1) words)

texts_more : (words : List (Bor (List ℕ))) (i : ℕ) (d : Bor (List ℕ)) → i < length words
    → texts (take (i + 1) words) ≡ texts (take i words) ++ (get_or words i d).now ∷ []
texts_more words i d h =
    ap texts (take_more words i d h) ∙ map-append (λ (w : Bor (List ℕ)). w.now) (take i words) (get_or words i d ∷ [])

module _ (answer : List ℕ → WordAnswer) where
  indexed_append : (a b : List (List ℕ))
      → indexed_words answer (a ++ b) ≡ both (indexed_words answer a) (indexed_words answer b)
  indexed_append [] b = sym (both_nil (indexed_words answer b))
  indexed_append (w ∷ a) b = ap (both (indexed_word answer w)) (indexed_append a b)
      ∙ sym (both_assoc (indexed_word answer w) (indexed_words answer a) (indexed_words answer b))

  pub indexed_more : (words : List (Bor (List ℕ))) (i : ℕ) (d : Bor (List ℕ)) (all found : List Found)
      → i < length words
      → indexed_words answer (texts (take i words)) ≡ Some all → indexed_word answer (get_or words i d).now ≡ Some found
      → indexed_words answer (texts (take (i + 1) words)) ≡ Some (all ++ found)
  indexed_more words i d all found h e f =
      ap (indexed_words answer) (texts_more words i d h)
      ∙ indexed_append (texts (take i words)) ((get_or words i d).now ∷ [])
      ∙ ap (λ z. both z (both (indexed_word answer (get_or words i d).now) (Some []))) e
      ∙ ap (λ z. both (Some all) z) (nil_both (indexed_word answer (get_or words i d).now) ∙ f)

  pub indexed_none : (words : List (Bor (List ℕ))) (i : ℕ) (d : Bor (List ℕ)) (all : List Found) → i < length words
      → indexed_words answer (texts (take i words)) ≡ Some all → indexed_word answer (get_or words i d).now ≡ None
      → None ≡ indexed_words answer (texts words)
  indexed_none words i d all h e f =
      sym
      (ap (indexed_words answer) (texts_at words i d h)
      ∙ indexed_append (texts (take i words)) ((get_or words i d).now ∷ texts (drop (i + 1) words))
      ∙ ap (λ z. both z
      (both (indexed_word answer (get_or words i d).now) (indexed_words answer (texts (drop (i + 1) words))))) e
      ∙ ap (λ z. both (Some all) (both z (indexed_words answer (texts (drop (i + 1) words))))) f)

  -- ── samples ──
  ahead_more : (s : Option SampleWord) (ss : Option (List SampleWord)) (all : List SampleWord) (x : SampleWord)
      → ahead s ss ≡ Some all
      → (rest : Option (List SampleWord)) → ((inner : List SampleWord) → ss ≡ Some inner
      → rest ≡ Some (inner ++ x ∷ [])) → ahead s rest ≡ Some (all ++ x ∷ [])
  ahead_more None ss all x e rest h = cc
  ahead_more (Some s) None all x e rest h = cc
  ahead_more (Some s) (Some ss) all x e rest h =
      let r = h ss refl in
      let is : s ∷ ss ≡ all = cc in
      ap (ahead (Some s)) r ∙ ap (λ z. Some (z ++ x ∷ [])) is

  samples_push : (ws : List (List ℕ)) (w : List ℕ) (all : List SampleWord) (x : SampleWord)
      → sample_words answer ws ≡ Some all → sample_word answer w ≡ Some x
      → sample_words answer (ws ++ w ∷ []) ≡ Some (all ++ x ∷ [])
  samples_push [] w all x e f =
      let is : [] ≡ all = cc in ap (λ z. ahead z (Some [])) f ∙ ap (λ z. Some (z ++ x ∷ [])) is
  samples_push (v ∷ ws) w all x e f = ahead_more (sample_word answer v) (sample_words answer ws) all x e
      (sample_words answer (ws ++ w ∷ [])) (λ inner h. samples_push ws w inner x h f)

  pub samples_more : (words : List (Bor (List ℕ))) (i : ℕ) (d : Bor (List ℕ)) (all : List SampleWord) (x : SampleWord)
      → i < length words
      → sample_words answer (texts (take i words)) ≡ Some all → sample_word answer (get_or words i d).now ≡ Some x
      → sample_words answer (texts (take (i + 1) words)) ≡ Some (all ++ x ∷ [])
  samples_more words i d all x h e f = ap (sample_words answer) (texts_more words i d h)
      ∙ samples_push (texts (take i words)) (get_or words i d).now all x e f

  module _ (a : WordAnswer) where
    has_cases : (u v : List (List ℕ)) → HasSample answer a (u ++ v) → HasSample answer a u ⊎ HasSample answer a v
    has_cases [] v h = inr h
    has_cases (w ∷ u) v (inl h) = inl (inl h)
    has_cases (w ∷ u) v (inr h) = ⊎_elim (λ x. inl (inr x)) (λ y. inr y) (has_cases u v h)

    has_left : (u v : List (List ℕ)) → HasSample answer a u → HasSample answer a (u ++ v)
    has_left [] v h = absurd h
    has_left (w ∷ u) v (inl h) = inl h
    has_left (w ∷ u) v (inr h) = inr (has_left u v h)

    has_right : (u v : List (List ℕ)) → HasSample answer a v → HasSample answer a (u ++ v)
    has_right [] v h = h
    has_right (w ∷ u) v h = inr (has_right u v h)

    -- a word of the list
    pub has_here : (words : List (Bor (List ℕ))) (i : ℕ) (d : Bor (List ℕ)) → i < length words
        → (get_or words i d).now ≢ 63 ∷ [] → answer (get_or words i d).now ≡ a → HasSample answer a (texts words)
    has_here words i d h ne e = subst (HasSample answer a) (sym (texts_at words i d h))
        (has_right (texts (take i words)) ((get_or words i d).now ∷ texts (drop (i + 1) words)) (inl (ne, e)))

    pub has_more : (words : List (Bor (List ℕ))) (i : ℕ) (d : Bor (List ℕ)) → i < length words
        → HasSample answer a (texts (take i words)) → HasSample answer a (texts (take (i + 1) words))
    has_more words i d h k = subst (HasSample answer a) (sym (texts_more words i d h))
        (has_left (texts (take i words)) ((get_or words i d).now ∷ []) k)

    pub has_new : (words : List (Bor (List ℕ))) (i : ℕ) (d : Bor (List ℕ)) → i < length words → (get_or words i d).now
        ≢ 63 ∷ [] → answer (get_or words i d).now ≡ a → HasSample answer a (texts (take (i + 1) words))
    has_new words i d h ne e = subst (HasSample answer a) (sym (texts_more words i d h))
        (has_right (texts (take i words)) ((get_or words i d).now ∷ []) (inl (ne, e)))

    pub has_not : (words : List (Bor (List ℕ))) (i : ℕ) (d : Bor (List ℕ)) → i < length words
        → ¬ HasSample answer a (texts (take i words))
        → (((get_or words i d).now ≢ 63 ∷ []) → answer (get_or words i d).now ≢ a)
        → ¬ HasSample answer a (texts (take (i + 1) words))
    has_not words i d h before ne k =
        ⊎_elim before (λ l. ⊎_elim (λ p. ne p.0 p.1) (λ z. z) l) (has_cases (texts (take i words))
        ((get_or words i d).now ∷ []) (subst (HasSample answer a) (texts_more words i d h) k))

  -- a word that doesn't begin with `*` is asked
  pub asked_word : (word : List ℕ) → 1 ≤ length word → ((rest : List ℕ) → word ≢ 42 ∷ rest)
      → indexed_word answer word ≡ lexemes_in (answer word)
  asked_word [] h ne = absurd (omega arith)
  asked_word (c ∷ word) h ne = by (c == 42) refl
    where
      by : (b : Bool) → (c == 42) ≡ b
          → cond (c == 42) (as_it_is word) (lexemes_in (answer (c ∷ word))) ≡ lexemes_in (answer (c ∷ word))
      by true e = absurd (ne word (ap (λ z. z ∷ word) ((Decides-eqb c 42).0 e)))
      by false e = ap (λ b. cond b (as_it_is word) (lexemes_in (answer (c ∷ word)))) e

  no_mark : (word : List ℕ) → bytes_eq word (63 ∷ []) ≡ false → word ≢ 63 ∷ []
  no_mark word e same = true≢false (sym ((bytes_eq-Decides word (63 ∷ [])).1 same) ∙ e)

  -- a sample word but `?` stands for its answer
  pub sample_asked : (word : List ℕ) → bytes_eq word (63 ∷ []) ≡ false
      → sample_word answer word ≡ sample_of (answer word)
  sample_asked word e = ap (λ b. cond b (Some any_stop) (sample_of (answer word))) e

  -- a word that stands for something is no stop word
  pub known_word : (word : List ℕ) (x : SampleWord) → sample_word answer word ≡ Some x → word ≢ 63 ∷ []
      → answer word ≢ stop_word
  known_word word x e ne s = by (bytes_eq word (63 ∷ [])) refl
    where
      by : (b : Bool) → bytes_eq word (63 ∷ []) ≡ b → ⊥
      by true t = ne ((bytes_eq-Decides word (63 ∷ [])).0 t)
      by false t =
          let none : None ≡ Some x = sym (ap sample_of s) ∙ sym (sample_asked word t) ∙ e in
          cc

  -- nor is it unknown
  pub known_unknown : (word : List ℕ) (x : SampleWord) → sample_word answer word ≡ Some x → word ≢ 63 ∷ []
      → answer word ≢ unknown_word
  known_unknown word x e ne s = by (bytes_eq word (63 ∷ [])) refl
    where
      by : (b : Bool) → bytes_eq word (63 ∷ []) ≡ b → ⊥
      by true t = ne ((bytes_eq-Decides word (63 ∷ [])).0 t)
      by false t =
          let none : None ≡ Some x = sym (ap sample_of s) ∙ sym (sample_asked word t) ∙ e in
          cc

  module _ (words : List (Bor (List ℕ))) (i : ℕ) (d : Bor (List ℕ)) (h : i < length words) where
    pub sampled_more : (samples : List Sample) (sample : Sample) (known : Bool)
        → AreSampled answer (texts (take i words)) samples known
        → sample_word answer (get_or words i d).now ≡ Some (sample_value sample)
        → AreSampled answer (texts (take (i + 1) words)) (samples ++ sample ∷ []) known
    sampled_more samples sample known a e = record {
      no_stop = has_not stop_word words i d h a.no_stop (known_word (get_or words i d).now (sample_value sample) e);
      so_far = by known a.so_far;
    }
      where
        by : (b : Bool) → IsKnown answer (texts (take i words)) samples b
            → IsKnown answer (texts (take (i + 1) words)) (samples ++ sample ∷ []) b
        by true k = samples_more words i d (map sample_value samples) (sample_value sample) h k e
            ∙ ap (λ z. Some z) (sym (map-append sample_value samples (sample ∷ [])))
        by false k = has_more unknown_word words i d h k

    pub sampled_unknown : (samples : List Sample) (known : Bool)
        → AreSampled answer (texts (take i words)) samples known
        → ((get_or words i d).now ≢ 63 ∷ []) × (answer (get_or words i d).now ≡ unknown_word)
        → AreSampled answer (texts (take (i + 1) words)) samples false
    sampled_unknown samples known a f = record {
      no_stop = has_not stop_word words i d h a.no_stop (λ ne s. let x : stop_word ≡ unknown_word = sym s ∙ f.1 in cc);
      so_far = has_new unknown_word words i d h f.0 f.1;
    }

    -- a fault of a word is one of all the words
    pub sampled_fault : (e : LineError) → IsWordFault answer (get_or words i d).now e
        → AreWordsFault answer (texts words) e
    sampled_fault Bad f = f
    sampled_fault StopInSample f = has_here stop_word words i d h f.0 f.1
    sampled_fault UnknownInSample f = absurd f
    sampled_fault Memory f = tt
