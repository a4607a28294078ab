-- Both sides of a line: there is one reading.
use Rattle.std.proofs.Common.{◌≡◌, ◌≢◌, ℕ, ◌<◌, ◌≤◌, List, [], ◌∷◌, ◌++◌, length, get_or, refl, sym, ◌∙◌, subst, arith}
use Rattle.std.proofs.Common.{Option, Some, None}
use Rattle.std.specs.Prelude.{All, IfSome, IfNone, MatchOption}
use Rattle.std.proofs.lemmas.List.Elements.{All-nil, All-cons, All-head, All-tail, All-from_get_or}
use Rattle.ts_base.specs.declared.TheConstants.{LONGEST_LEXEME}
use Rattle.ts_base.specs.declared.Found.{Found}
use Rattle.ts_base.specs.Words.{AreWords}
use Rattle.ts_base.specs.Dictionary.{WordAnswer}
use Rattle.ts_base.proofs.Fronts.{same_front}
use Rattle.ts_base.proofs.LineWords.{words_are_one}
use Rattle.ts_thesaurus.specs.Lines.{IsCut, HasSides, AreFit, IsPassed, indexed_words, IsRead, IsBadLine}
use Rattle.ts_thesaurus.specs.Inner.Reading.{IsAsked, AreWordsFault}
use Rattle.ts_thesaurus.specs.Faults.{IsFault}
use Rattle.ts_base.specs.declared.line_error.LineError.{LineError}
use Rattle.ts_base.specs.declared.line_error.LineError.TheVariants.{Bad, StopInSample, UnknownInSample, Memory}
use Rattle.ts_thesaurus.proofs.Cuts.{texts, all_texts}
use denote.Ref.{Bor}

abbrev IsOther : ℕ → Type 0
IsOther c = c ≢ 58

no_colon : (left right : List ℕ) → ¬ All IsOther (left ++ 58 ∷ right)
no_colon [] right h = All-head IsOther 58 right h refl
no_colon (c ∷ left) right h = no_colon left right (All-tail IsOther c (left ++ 58 ∷ right) h)

abbrev Parts : List ℕ → Option (Bor (List ℕ) × Bor (List ℕ)) → Type 0
Parts line r = MatchOption r ((i : ℕ) → i < length line → get_or line i 0 ≢ 58)
    (λ x. (line ≡ x.0.now ++ (58 ∷ x.1.now)) × ((i : ℕ) → i < length x.0.now → get_or x.0.now i 0 ≢ 58))

pub cut_some : (line : List ℕ) (r : Option (Bor (List ℕ) × Bor (List ℕ))) → Parts line r
    → IfSome r (λ x. IsCut line x.0.now x.1.now)
cut_some line None h = tt
cut_some line (Some x) h = record { split = h.0; first = All-from_get_or IsOther x.0.now 0 h.1 }

pub cut_none : (line : List ℕ) (r : Option (Bor (List ℕ) × Bor (List ℕ))) → Parts line r
    → IfNone r ((left right : List ℕ) → ¬ IsCut line left right)
cut_none line None h =
    λ left right c. no_colon left right (subst (All IsOther) c.split (All-from_get_or IsOther line 0 h))
cut_none line (Some x) h = tt

one_cut : (line a b c d : List ℕ) → IsCut line a b → IsCut line c d → (a ≡ c) × (b ≡ d)
one_cut line a b c d h k =
    let both =
    same_front IsOther a c (58 ∷ b) (58 ∷ d) h.first k.first (λ n. n refl) (λ n. n refl) (sym h.split ∙ k.split) in
    let e : 58 ∷ b ≡ 58 ∷ d = both.1 in
    let tails : b ≡ d = cc in
    (both.0, tails)

pub one_sides : (line : List ℕ) (a b c d : List (List ℕ)) → HasSides line a b → HasSides line c d → (a ≡ c) × (b ≡ d)
one_sides line a b c d h k =
    let cuts = one_cut line h.left h.right k.left k.right h.cut k.cut in (
      words_are_one k.left a c (subst (λ z. AreWords z a) cuts.0 h.samples) k.samples,
      words_are_one k.right b d (subst (λ z. AreWords z b) cuts.1 h.words) k.words,
    )

words_some : (text : List ℕ) (words : List (List ℕ)) → AreWords text words → All (λ w. 1 ≤ length w) words
words_some text [] h = All-nil (λ w. 1 ≤ length w)
words_some text (w ∷ ws) (rest, b, h) =
    All-cons (λ w. 1 ≤ length w) w ws (let k = b.is_word.some in omega arith) (words_some rest ws h)

all_asked : (words : List (List ℕ)) → All (λ w. 1 ≤ length w) words → All (λ w. length w ≤ LONGEST_LEXEME) words
    → All IsAsked words
all_asked words h k = λ i d l. (h i d l, k i d l)

-- the words of a text that fit may be asked
pub asked_texts : (text : List ℕ) (words : List (Bor (List ℕ))) → AreWords text (texts words) → AreFit (texts words)
    → All (λ (w : Bor (List ℕ)). IsAsked w.now) words
asked_texts text words h k =
    (all_texts IsAsked words).1 (all_asked (texts words) (words_some text (texts words) h) k.sized)

module _ (answer : List ℕ → WordAnswer) (line : List ℕ) (sample indexed : List (List ℕ)) (counts : ¬ IsPassed line)
    (sides : HasSides line sample indexed) where
  -- a line of these words is bad where they can't be read
  pub bad_by : ((words : List Found) → AreFit sample → AreFit indexed → indexed_words answer indexed ≡ Some words → ⊥)
      → IsBadLine answer line
  bad_by why = record {
    counts = counts;
    unread = λ s words r.
        let same = one_sides line s r.indexed sample indexed r.sides sides in
        why words (subst AreFit same.0 r.sample_fit) (subst AreFit same.1 r.indexed_fit)
        (subst (λ z. indexed_words answer z ≡ Some words) same.1 r.given);
  }

  pub read_by : (words : List Found) → AreFit sample → AreFit indexed → indexed_words answer indexed ≡ Some words
      → IsRead answer line sample words
  read_by words s i g =
      record { counts = counts; indexed = indexed; sides = sides; sample_fit = s; indexed_fit = i; given = g }

  pub fault_by : (words : List Found) (e : LineError) → IsRead answer line sample words → AreWordsFault answer sample e
      → IsFault answer line e
  fault_by words Bad r f = absurd f
  fault_by words StopInSample r f = record { sample = sample; words = words; read = r; stops = f }
  fault_by words UnknownInSample r f = record { sample = sample; words = words; read = r; no_stop = f.0; unknown = f.1 }
  fault_by words Memory r f = tt
