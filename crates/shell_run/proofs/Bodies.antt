-- The lines of a definition, one after another.
use Rattle.std.proofs.Common.{◌≡◌, ◌⊎◌, inl, inr, ℕ, Bool, List, [], ◌∷◌, ◌++◌, arith, refl, sym, ◌∙◌, ap, subst}
use Rattle.std.specs.Prelude.{Contains, Option, Some}
use Rattle.std.specs.Str.{IsUtf8}
use Rattle.std.specs.List.{All, Any}
use Rattle.std.proofs.lemmas.List.Elements.{All-nil, All-push}
use Rattle.std.proofs.lemmas.List.Quantifiers.{Any-push}
use Rattle.ts_base.specs.Dictionary.{WordAnswer}
use Rattle.ts_base.specs.LineErrors.{IsBadFault}
use Rattle.ts_words.specs.StopLists.{IsBadLine, Stops, IsStopList, Adds}
use Rattle.ts_synonym.specs.Synonyms as synonyms
use Rattle.ts_synonym.specs.Synonyms.{IsSynonymList}
use Rattle.ts_thesaurus.specs.Rules.{Rule}
use Rattle.ts_thesaurus.specs.Lines as phrases
use Rattle.ts_thesaurus.specs.Lines.{AreRules, IsRefused}
use Rattle.ts_thesaurus.specs.Faults.{IsFault}
use Rattle.ts_base.specs.declared.line_error.LineError.{LineError}
use Rattle.ts_base.specs.declared.line_error.LineError.TheVariants.{Bad, StopInSample, UnknownInSample, Memory}
use Rattle.ts_words.proofs.Members.{any_old, any_cases}
use Rattle.ts_config.specs.Mappings.{Mapping, empty_mapping}
use Rattle.ts_config.specs.Rules.{Rules, rules_of, answer_by}
use Rattle.ts_config.specs.Known.{Known, HasDictionary, HasConfiguration, sub_named}
use Rattle.shell_script.specs.Lines.{Line}
use Rattle.shell_script.specs.OpeningLines.{Kind, thesaurus_kind, dictionary_opening, configuration_opening}
use Rattle.shell_script.specs.Replies.{Refusal, no_statement, no_dictionary}
use Rattle.shell_script.specs.Replies.{refused}
use Rattle.shell_run.specs.Defining.{IsNoLine, answer_in, LacksOne, IsBadFor, bytes_of, LineFails, LinesFail, IsDefined}
use Rattle.shell_run.specs.Inner.Definitions.{IsMadeOf, LineBad, LinesBad, MapsFail}
use Rattle.shell_run.specs.declared.dictionaries.RulesOver.{RulesOver}
use Rattle.shell_run.proofs.Taking.{AreMade}
use Rattle.shell_run.specs.Inner.Refusing.{line_refusal}

-- ── lines ──
-- a text that is not bad
pub good_line : (IsBad : List ℕ → Type 0) (l : Line) → IsUtf8 l.bytes → ¬ IsBad l.bytes → ¬ IsNoLine IsBad l
good_line IsBad l u n (inl k) = k u
good_line IsBad l u n (inr b) = n b

-- a line that can only be bad is so, or memory ran out
pub line_bad : (IsBad : List ℕ → Type 0) (text : List ℕ) (l : Line) (error : LineError) → text ≡ l.bytes
    → IsBadFault IsBad text error → LineBad (IsNoLine IsBad) l (line_refusal error l.number)
line_bad IsBad text l Bad same f = inr (refl, inr (subst IsBad same f))
line_bad IsBad text l StopInSample same f = absurd f
line_bad IsBad text l UnknownInSample same f = absurd f
line_bad IsBad text l Memory same f = inl refl

-- ── stop words ──
pub no_stops : (stops : List (List ℕ)) → stops ≡ [] → IsStopList [] stops
no_stops stops e =
    subst (IsStopList []) (sym e) (record {
      fit = All-nil (λ line. ¬ IsBadLine line);
      each = λ word. (λ c. absurd (omega (arith, c.1)), λ a. absurd (omega (arith, a.2)));
    })

pub list_more : (ls : List (List ℕ)) (line : List ℕ) (old new : List (List ℕ)) → IsStopList ls old → Adds line old new
    → IsStopList (ls ++ line ∷ []) new
list_more ls line old new p h = record {
  fit = All-push (λ line. ¬ IsBadLine line) ls line p.fit h.fit;
  each = λ w. (λ c. ahead w ((h.each w).0 c), λ a. (h.each w).1 (back w (any_cases (Stops w) ls line a)));
}
  where
    ahead : (w : List ℕ) → Contains old w ⊎ Stops w line → Any (Stops w) (ls ++ line ∷ [])
    ahead w (inl c) = any_old (Stops w) ls line ((p.each w).0 c)
    ahead w (inr s) = Any-push (Stops w) ls line s

    back : (w : List ℕ) → Any (Stops w) ls ⊎ Stops w line → Contains old w ⊎ Stops w line
    back w (inl a) = inl ((p.each w).1 a)
    back w (inr s) = inr s

-- the stop words of lines, each of which adds its own
pub stops_are : AreMade (λ l old new. IsUtf8 l.bytes × Adds l.bytes old new)
    (λ l old why. LineBad (IsNoLine IsBadLine) l why) (IsNoLine IsBadLine) IsStopList
stops_are = record {
  more = λ l ls old new h m. (good_line IsBadLine l h.0 h.1.fit, list_more ls l.bytes old new m h.1);
  fails = λ l ls old why m f. f;
}

-- ── synonyms ──
pub synonyms_are : (cases : Bool) → AreMade
    (λ l old new. IsUtf8 l.bytes × synonyms.Adds l.bytes old new)
    (λ l old why. LineBad (IsNoLine synonyms.IsBadLine) l why) (IsNoLine synonyms.IsBadLine) (IsSynonymList cases)
synonyms_are cases = record {
  more = λ l ls old new h m. (good_line synonyms.IsBadLine l h.0 h.1.fit, h.1.each cases ls m);
  fails = λ l ls old why m f. f;
}

-- ── phrases ──
-- a fault makes a line a refused one, or memory ran out
pub fault_bad : (answer : List ℕ → WordAnswer) (text : List ℕ) (l : Line) (error : LineError) → text ≡ l.bytes
    → IsFault answer text error → LineBad (IsNoLine (IsRefused answer)) l (line_refusal error l.number)
fault_bad answer text l Bad same f = inr (refl, inr (subst (IsRefused answer) same (inl f)))
fault_bad answer text l StopInSample same f = inr (refl, inr (subst (IsRefused answer) same (inr (inl f))))
fault_bad answer text l UnknownInSample same f = inr (refl, inr (subst (IsRefused answer) same (inr (inr f))))
fault_bad answer text l Memory same f = inl refl

-- what a thesaurus over a dictionary that goes by these rules has of lines
abbrev pub RulesMade : Rules → List (List ℕ) → RulesOver → Type 0
RulesMade sub ls v = (rules_of v.sub.now ≡ sub) × AreRules (answer_by sub) ls v.thesaurus

pub rules_are : (sub : Rules) → AreMade
    (λ l old new. (new.sub ≡ old.sub) × IsUtf8 l.bytes
    × phrases.Adds (answer_by (rules_of old.sub.now)) l.bytes old.thesaurus new.thesaurus)
    (λ l old why. LineBad (IsNoLine (IsRefused (answer_by (rules_of old.sub.now)))) l why)
    (IsNoLine (IsRefused (answer_by sub))) (RulesMade sub)
rules_are sub = record {
  more = λ l ls old new h m.
      let adds : phrases.Adds (answer_by sub) l.bytes old.thesaurus new.thesaurus =
      subst (λ r. phrases.Adds (answer_by r) l.bytes old.thesaurus new.thesaurus) m.0 h.2 in
      (good_line (IsRefused (answer_by sub)) l h.1 adds.fit, (ap (λ s. rules_of s.now) h.0 ∙ m.0, adds.each ls m.1));
  fails = λ l ls old why m f. subst (λ r. LineBad (IsNoLine (IsRefused (answer_by r))) l why) m.0 f;
}

-- ── definitions ──
pub kind_refuses : (known : Known) (number : ℕ) (name : List ℕ) (kind : Kind) (ls : List Line) (why : Refusal)
    → ¬ LacksOne known kind → ¬ HasDictionary known name → LinesBad (λ (l : Line). IsBadFor known kind l) ls why
    → IsDefined known number (dictionary_opening name kind) ls (refused why)
kind_refuses known number name kind ls why s n (inl e) =
    subst (λ w. IsDefined known number (dictionary_opening name kind) ls (refused w)) (sym e) tt
kind_refuses known number name kind ls why s n (inr h) =
    subst (λ w. IsDefined known number (dictionary_opening name kind) ls (refused w)) (sym h.1) (s, inr (n, h.2))

-- the subdictionary's answers
pub answers_in : (o : Option Rules) (rules : Rules) → o ≡ Some rules → answer_in o ≡ answer_by rules
answers_in o rules e = ap answer_in e

pub thesaurus_good : (known : Known) (sub : List ℕ) (rules : Rules) (ls : List Line) (phrases : List Rule)
    → sub_named known sub ≡ Some rules → IsMadeOf (IsNoLine (IsRefused (answer_by rules))) (AreRules
    (answer_by rules)) ls phrases → All (λ (l : Line). ¬ IsBadFor known (thesaurus_kind sub) l) ls
thesaurus_good known sub rules ls phrases e h =
    subst (λ (answer : List ℕ → WordAnswer). All (λ (l : Line). ¬ IsNoLine (IsRefused answer) l) ls)
    (sym (answers_in (sub_named known sub) rules e)) h.good

pub thesaurus_read : (known : Known) (sub : List ℕ) (rules : Rules) (ls : List Line) (phrases : List Rule)
    → sub_named known sub ≡ Some rules → IsMadeOf (IsNoLine (IsRefused (answer_by rules))) (AreRules
    (answer_by rules)) ls phrases → AreRules (answer_in (sub_named known sub)) (bytes_of ls) phrases
thesaurus_read known sub rules ls phrases e h =
    subst (λ (answer : List ℕ → WordAnswer). AreRules answer (bytes_of ls) phrases)
    (sym (answers_in (sub_named known sub) rules e)) h.made

pub thesaurus_refuses : (known : Known) (sub : List ℕ) (rules : Rules) (ls : List Line) (why : Refusal)
    → sub_named known sub ≡ Some rules → LinesBad (IsNoLine (IsRefused (answer_by rules))) ls why
    → LinesBad (λ (l : Line). IsBadFor known (thesaurus_kind sub) l) ls why
thesaurus_refuses known sub rules ls why e h =
    subst (λ (answer : List ℕ → WordAnswer). LinesBad (IsNoLine (IsRefused answer)) ls why)
    (sym (answers_in (sub_named known sub) rules e)) h

-- a line fails with one of two refusals
line_causes : (known : Known) (l : Line) (why : Refusal) → LineFails known l why
    → ((at : ℕ) × (why ≡ no_statement at)) ⊎ (why ≡ no_dictionary)
line_causes known l (no_statement at) f = inl (at, refl)
line_causes known l no_dictionary f = inr refl
line_causes known l why f = absurd f

lines_causes : (known : Known) (old : Mapping) (ls : List Line) (why : Refusal) → LinesFail known old ls why
    → ((at : ℕ) × (why ≡ no_statement at)) ⊎ (why ≡ no_dictionary)
lines_causes known old [] why f = absurd f
lines_causes known old (l ∷ ls) why (inl f) = line_causes known l why f
lines_causes known old (l ∷ ls) why (inr f) = lines_causes known f.0 ls why f.2

pub maps_refuse : (known : Known) (number : ℕ) (name : List ℕ) (ls : List Line) (why : Refusal)
    → ¬ HasConfiguration known name → MapsFail known empty_mapping ls why
    → IsDefined known number (configuration_opening name) ls (refused why)
maps_refuse known number name ls why n (inl e) =
    subst (λ w. IsDefined known number (configuration_opening name) ls (refused w)) (sym e) tt
maps_refuse known number name ls why n (inr h) = elim (lines_causes known empty_mapping ls why h) [
  | inl e ↦ subst (λ w. IsDefined known number (configuration_opening name) ls (refused w)) (sym e.1)
      (inr (n, subst (LinesFail known empty_mapping ls) e.1 h))
  | inr e ↦ subst (λ w. IsDefined known number (configuration_opening name) ls (refused w)) (sym e)
      (n, subst (LinesFail known empty_mapping ls) e h)
]
