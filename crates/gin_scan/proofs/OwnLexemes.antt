-- What the lexemes of an encoded vector say of a query.
use Rattle.std.proofs.Common.{◌≡◌, ℕ, ◌+◌, ◌-◌, ◌*◌, ◌<◌, ◌≤◌, Bool, true, false, ◌||◌, List, [], ◌∷◌}
use Rattle.std.proofs.Common.{length, drop, get_or}
use Rattle.std.proofs.Common.{refl, sym, ap, subst, ◌∙◌, arith, All}
use Rattle.std.specs.List.{flat_map}
use Rattle.std.proofs.lemmas.List.{length-drop}
use Rattle.std.proofs.lemmas.List.Elements.{All-head, All-tail}
use Rattle.ts_base.specs.declared.Tri.{Tri}
use Rattle.ts_base.specs.declared.Tri.TheVariants.{False, Maybe, True}
use Rattle.ts_base.specs.Encoding.{IsEncoding, entry_bytes}
use Rattle.ts_base.specs.Vectors.{Entry, Vector, IsEntry}
use Rattle.gin_opclass.specs.Class.{SoundValue, SoundValues}
use Rattle.ts_query.specs.declared.query.Operand.{Operand}
use Rattle.ts_query.specs.Queries.{Query, operands_of}
use Rattle.ts_match.specs.Judging.{has_lexeme, judged, IsJudged}
use Rattle.ts_match.specs.Laws.JudgeLaw.{NamesSome, judges}
use Rattle.ts_match.specs.Meaning.{names, Holds}
use Rattle.ts_vector.specs.Inner.Told.{number_told, lexeme_told, behind_lexeme, behind_places}
use Rattle.ts_vector.proofs.Told.{entry_back, rest_back}

-- the number in the first two bytes
pub number_is : (bytes : List ℕ) → 2 ≤ length bytes → get_or bytes 1 0 * 256 + get_or bytes 0 0 ≡ number_told bytes
number_is [] le = absurd (omega (arith, le))
number_is (a ∷ []) le = absurd (omega (arith, le))
number_is (a ∷ b ∷ r) le = refl

pub no_number : (bytes : List ℕ) → length bytes < 2 → 0 ≡ number_told bytes
no_number [] lt = refl
no_number (a ∷ []) lt = refl
no_number (a ∷ b ∷ r) lt = absurd (omega (arith, lt))

-- after the first entry there is less
pub shorter : (bytes : List ℕ) → length (behind_places (behind_lexeme bytes)) ≤ length bytes - 2
shorter bytes =
    omega (
      arith,
      length-drop 2 bytes,
      length-drop (number_told bytes) (drop 2 bytes),
      length-drop 2 (behind_lexeme bytes),
      length-drop (2 * number_told (behind_lexeme bytes)) (drop 2 (behind_lexeme bytes)),
    )

-- these bytes are those of the entries of a vector, and of the whole vector the operand names a lexeme where it names
-- one of these
pub record AreLeft (o : Operand) (v : Vector) (rest : List ℕ) : Type 0 where
  pub left : Vector
  pub valid : All IsEntry left
  pub bytes_of : rest ≡ flat_map entry_bytes left
  pub same : has_lexeme o v ≡ has_lexeme o left

pub all_left : (o : Operand) (v : Vector) (entries : List ℕ) → All IsEntry v → entries ≡ flat_map entry_bytes v
    → AreLeft o v entries
all_left o v entries all is = record { left = v; valid = all; bytes_of = is; same = refl }

-- the first of them
module _ (o : Operand) (v : Vector) (rest lexeme after : List ℕ) (some : 0 < length rest)
    (l : lexeme ≡ lexeme_told rest) (a : after ≡ behind_places (behind_lexeme rest)) where
  first_of : (w : Vector) → All IsEntry w → rest ≡ flat_map entry_bytes w → has_lexeme o v ≡ has_lexeme o w
      → (m : Vector) × All IsEntry m × (after ≡ flat_map entry_bytes m)
      × (has_lexeme o v ≡ (names o lexeme || has_lexeme o m))
  first_of [] all is same = absurd (omega (arith, some, ap length is))
  first_of (e ∷ w) all is same =
      let valid = All-head IsEntry e w all in (
        w,
        All-tail IsEntry e w all,
        a ∙ ap (λ (r : List ℕ). behind_places (behind_lexeme r)) is
            ∙ rest_back e (flat_map entry_bytes w) valid,
        same ∙ ap (λ (x : List ℕ). names o x || has_lexeme o w)
            (sym (l ∙ ap lexeme_told is
            ∙ ap (λ (d : Entry). d.lexeme) (entry_back e (flat_map entry_bytes w) valid))),
      )

  pub is_named : AreLeft o v rest → names o lexeme ≡ true → true ≡ has_lexeme o v
  is_named left e =
      let f = first_of left.left left.valid left.bytes_of left.same in
      sym (f.3 ∙ ap (λ (b : Bool). b || has_lexeme o f.0) e)

  pub one_less : AreLeft o v rest → names o lexeme ≡ false → AreLeft o v after
  one_less left e =
      let f = first_of left.left left.valid left.bytes_of left.same in record {
        left = f.0;
        valid = f.1;
        bytes_of = f.2;
        same = f.3 ∙ ap (λ (b : Bool). b || has_lexeme o f.0) e;
      }

-- none is left
none_named : (o : Operand) (w : Vector) (rest : List ℕ) → length rest ≡ 0 → rest ≡ flat_map entry_bytes w
    → false ≡ has_lexeme o w
none_named o [] rest none is = refl
none_named o (e ∷ w) rest none is = absurd (omega (arith, none, ap length is))

pub is_unnamed : (o : Operand) (v : Vector) (rest : List ℕ) → length rest ≡ 0 → AreLeft o v rest
    → false ≡ has_lexeme o v
is_unnamed o v rest none left = none_named o left.left rest none left.bytes_of ∙ sym left.same

-- ── values ──

one_sound : (v : Vector) (os : List Operand) (d : Operand) (t : Tri) → length os ≡ 1
    → SoundValue (NamesSome v (get_or os 0 d)) t → SoundValues (NamesSome v) os (t ∷ [])
one_sound v [] d t n s = absurd (omega (arith, n))
one_sound v (o ∷ []) d t n s = (s, tt)
one_sound v (o ∷ p ∷ os) d t n s = absurd (omega (arith, n))

two_sound : (v : Vector) (os : List Operand) (d e : Operand) (t u : Tri) → length os ≡ 2
    → SoundValue (NamesSome v (get_or os 0 d)) t → SoundValue (NamesSome v (get_or os 1 e)) u
    → SoundValues (NamesSome v) os (t ∷ u ∷ [])
two_sound v [] d e t u n s r = absurd (omega (arith, n))
two_sound v (o ∷ []) d e t u n s r = absurd (omega (arith, n))
two_sound v (o ∷ p ∷ []) d e t u n s r = (s, (r, tt))
two_sound v (o ∷ p ∷ q ∷ os) d e t u n s r = absurd (omega (arith, n))

-- what the judge says then
sound_answer : (q : Query) (v : Vector) (answer : Tri) → IsJudged q v answer → SoundValue (Holds q v) answer
sound_answer q v False is = is.never refl
sound_answer q v Maybe is = tt
sound_answer q v True is = is.yes refl

-- the entries of a vector's encoding
entries_are : (bytes : List ℕ) (v : Vector) → IsEncoding bytes v → drop 4 bytes ≡ flat_map entry_bytes v
entries_are bytes v is = ap (drop 4) is.bytes_of

module _ (q : Query) (bytes entries : List ℕ) (os : List Operand) (is : entries ≡ drop 4 bytes)
    (all : os ≡ operands_of q) (v : Vector) (encodes : IsEncoding bytes v) where
  abbrev IsValue : Operand → Tri → Type 0
  IsValue o t =
      (w : Vector) → All IsEntry w → entries ≡ flat_map entry_bytes w → SoundValue (NamesSome w o) t

  sound : (o : Operand) (t : Tri) → IsValue o t → SoundValue (NamesSome v o) t
  sound o t s = s v encodes.normal.entries (is ∙ entries_are bytes v encodes)

  judged_by : (ts : List Tri) (answer : Tri) → answer ≡ judged q ts → SoundValues (NamesSome v) os ts
      → SoundValue (Holds q v) answer
  judged_by ts answer e s =
      sound_answer q v answer (subst (IsJudged q v) (sym e)
      (judges q v ts (subst (λ (ps : List Operand). SoundValues (NamesSome v) ps ts) all s)))

  pub judged_one : (o : Operand) (t answer : Tri) → length os ≡ 1 → o ≡ get_or os 0 o
      → answer ≡ judged q (t ∷ [])
      → ((w : Vector) → All IsEntry w → entries ≡ flat_map entry_bytes w → SoundValue (NamesSome w o) t)
      → SoundValue (Holds q v) answer
  judged_one o t answer n at e s =
      judged_by (t ∷ []) answer e (one_sound v os o t n
      (subst (λ (p : Operand). SoundValue (NamesSome v p) t) at (sound o t s)))

  pub judged_two : (o p : Operand) (t u answer : Tri) → length os ≡ 2 → o ≡ get_or os 0 o
      → p ≡ get_or os 1 p → answer ≡ judged q (t ∷ u ∷ [])
      → ((w : Vector) → All IsEntry w → entries ≡ flat_map entry_bytes w → SoundValue (NamesSome w o) t)
      → ((w : Vector) → All IsEntry w → entries ≡ flat_map entry_bytes w → SoundValue (NamesSome w p) u)
      → SoundValue (Holds q v) answer
  judged_two o p t u answer n at on e s r =
      judged_by (t ∷ u ∷ []) answer e (two_sound v os o p t u n
      (subst (λ (x : Operand). SoundValue (NamesSome v x) t) at (sound o t s))
      (subst (λ (x : Operand). SoundValue (NamesSome v x) u) on (sound p u r)))
