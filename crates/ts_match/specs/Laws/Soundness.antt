-- The judge of text queries is sound by the keys of vectors.
use Rattle.std.proofs.Common.{◌≡◌, ◌≢◌, ℕ, Bool, true, false, not, List, [], ◌∷◌, ◌++◌, length, map, take, drop, get_or}
use Rattle.std.proofs.Common.{replicate, refl, sym, ap, subst, ◌∙◌, arith}
use Rattle.std.specs.Prelude.{Contains}
use Rattle.std.specs.Cmp.Lexicographic.{bytes_decides}
use Rattle.std.proofs.lemmas.List.{take-append-drop}
use Rattle.ts_base.specs.declared.Tri.{Tri}
use Rattle.ts_base.specs.declared.Tri.TheVariants.{False, Maybe, True}
use Rattle.ts_base.specs.Vectors.{Entry, Vector}
use Rattle.ts_query.specs.declared.query.Operand.{Operand}
use Rattle.ts_query.specs.Queries.{operands_of}
use Rattle.ts_base.specs.Keys.{Key, lexeme_key, placeholder, keys_of}
use Rattle.gin_opclass.specs.Class.{Asked, FitsAsked, HasKey, meaning, SoundValue, SoundValues, JudgeIsSound}
use Rattle.ts_match.specs.Meaning.{names, Holds}
use Rattle.ts_match.specs.Judging.{judged, has_lexeme}
use Rattle.ts_match.specs.Class.{asked_by, asked_of, is_false, reads_all}
use Rattle.ts_match.specs.Laws.Elements.{Contains-one, Contains-map, from_map, passes_in, passes_at}
use Rattle.ts_match.specs.Laws.JudgeLaw.{NamesSome, judges}

abbrev entry_key : Entry → Key
entry_key e = lexeme_key e.lexeme

-- a key fits what an operand asks for exactly where the operand names its lexeme
word_fits : (o : Operand) (l : List ℕ) → o.prefix ≡ false → names o l ≡ true → FitsAsked (asked_by o) (lexeme_key l)
word_fits o l p h = rw p (ap lexeme_key ((bytes_decides l o.lexeme).0 (rw p at h)))

prefix_fits : (o : Operand) (l : List ℕ) → o.prefix ≡ true → names o l ≡ true → FitsAsked (asked_by o) (lexeme_key l)
prefix_fits o l p h =
    let e : o.lexeme ≡ take (length o.lexeme) l = (bytes_decides o.lexeme (take (length o.lexeme) l)).0 (rw p at h) in
    rw p (
      drop (length o.lexeme) l,
      ap lexeme_key (sym (take-append-drop (length o.lexeme) l) ∙ ap (λ x. x ++ drop (length o.lexeme) l) (sym e)),
    )

fits_by : (o : Operand) (l : List ℕ) (b : Bool) → o.prefix ≡ b → names o l ≡ true
    → FitsAsked (asked_by o) (lexeme_key l)
fits_by o l true p h = prefix_fits o l p h
fits_by o l false p h = word_fits o l p h

tail_same : (a b : ℕ) (l m : List ℕ) → a ∷ l ≡ b ∷ m → l ≡ m
tail_same a b l m e = cc

word_named : (o : Operand) (l : List ℕ) → o.prefix ≡ false → FitsAsked (asked_by o) (lexeme_key l) → names o l ≡ true
word_named o l p f =
    let e : lexeme_key l ≡ lexeme_key o.lexeme = rw p at f in
    rw p ((bytes_decides l o.lexeme).1 (tail_same 0 0 l o.lexeme e))

take_front : (p rest : List ℕ) → take (length p) (p ++ rest) ≡ p
take_front [] rest = refl
take_front (x ∷ p) rest = ap (λ l. x ∷ l) (take_front p rest)

prefix_named : (o : Operand) (l : List ℕ) → o.prefix ≡ true → FitsAsked (asked_by o) (lexeme_key l) → names o l ≡ true
prefix_named o l p f =
    let g : (rest : List ℕ) × (lexeme_key l ≡ lexeme_key o.lexeme ++ rest) = rw p at f in
    let e : l ≡ o.lexeme ++ g.0 = tail_same 0 0 l (o.lexeme ++ g.0) g.1 in
    rw p ((bytes_decides o.lexeme (take (length o.lexeme) l)).1
    (sym (ap (take (length o.lexeme)) e ∙ take_front o.lexeme g.0)))

named_by : (o : Operand) (l : List ℕ) (b : Bool) → o.prefix ≡ b → FitsAsked (asked_by o) (lexeme_key l)
    → names o l ≡ true
named_by o l true p f = prefix_named o l p f
named_by o l false p f = word_named o l p f

keys_of_some : (v : Vector) (k : Key) → Contains (map entry_key v) k → Contains (keys_of v) k
keys_of_some [] k h = absurd (omega (arith, h.1))
keys_of_some (e ∷ v) k h = h

has_key : (v : Vector) (o : Operand) → has_lexeme o v ≡ true → HasKey v (asked_by o)
has_key v o h =
    let r = passes_in (λ (e : Entry). names o e.lexeme) v h in (
      entry_key r.element,
      keys_of_some v (entry_key r.element) (Contains-map entry_key v r.element r.there),
      fits_by o r.element.lexeme o.prefix refl r.passes,
    )

-- no prefix and no lexeme fits the placeholder
not_placeholder : (o : Operand) (b : Bool) → o.prefix ≡ b → FitsAsked (asked_by o) placeholder → ⊥
not_placeholder o false p f =
    let e : placeholder ≡ lexeme_key o.lexeme = rw p at f in let a = ap (λ (l : List ℕ). get_or l 0 0) e in omega arith
not_placeholder o true p f =
    let g : (rest : List ℕ) × (placeholder ≡ lexeme_key o.lexeme ++ rest) = rw p at f in
    let a = ap (λ (l : List ℕ). get_or l 0 0) g.1 in omega arith

has_entry : (v : Vector) (o : Operand) (k : Key) → FitsAsked (asked_by o) k → Contains (keys_of v) k
    → has_lexeme o v ≡ true
has_entry [] o k f c = absurd
    (not_placeholder o o.prefix refl (subst (λ (x : Key). FitsAsked (asked_by o) x) (Contains-one placeholder k c) f))
has_entry (e ∷ v) o k f c =
    let r = from_map entry_key (e ∷ v) k c in
    let n = named_by o r.element.lexeme o.prefix refl (subst (λ (x : Key). FitsAsked (asked_by o) x) (sym r.is) f) in
    passes_at (λ (x : Entry). names o x.lexeme) (e ∷ v) r.there.0 r.element r.there.1
    (ap (λ (x : Entry). names o x.lexeme) r.there.2 ∙ n)

lexeme_from : (v : Vector) (o : Operand) → HasKey v (asked_by o) → has_lexeme o v ≡ true
lexeme_from v o h = has_entry v o h.0 h.2 h.1

sound_one : (v : Vector) (o : Operand) (t : Tri) → SoundValue (HasKey v (asked_by o)) t → SoundValue (NamesSome v o) t
sound_one v o False s = λ h. s (has_key v o h)
sound_one v o Maybe s = tt
sound_one v o True s = lexeme_from v o s

sound_all : (v : Vector) (os : List Operand) (ts : List Tri) → SoundValues (HasKey v) (map asked_by os) ts
    → SoundValues (NamesSome v) os ts
sound_all v [] [] s = s
sound_all v [] (t ∷ ts) s = s
sound_all v (o ∷ os) [] s = s
sound_all v (o ∷ os) (t ∷ ts) s = (sound_one v o t s.0, sound_all v os ts s.1)

all_same : (os : List Operand) → map (λ (a : Asked). False) (map asked_by os) ≡ replicate (length os) False
all_same [] = refl
all_same (o ∷ os) = ap (λ l. False ∷ l) (all_same os)

possible : (t : Tri) → t ≢ False → not (is_false t) ≡ true
possible False n = absurd (n refl)
possible Maybe n = refl
possible True n = refl

pub is_sound : JudgeIsSound (meaning asked_of reads_all Holds judged)
is_sound = record {
  yes = λ q v ts s e. (judges q v ts (sound_all v (operands_of q) ts s)).yes e;
  no = λ q v ts s e. (judges q v ts (sound_all v (operands_of q) ts s)).never e;
  whole = λ q n. possible (judged q (replicate (length (operands_of q)) False))
      (λ e. n (ap (judged q) (all_same (operands_of q)) ∙ e));
}
