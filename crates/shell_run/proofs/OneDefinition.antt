-- Want of memory aside, a definition has one answer.
use Rattle.std.proofs.Common.{◌≡◌, ◌≢◌, ◌⊎◌, inl, inr, ℕ, suc, zero, ◌<◌, true, List, [], ◌∷◌, length, get_or, arith}
use Rattle.std.proofs.Common.{refl, sym, ◌∙◌, ap, subst}
use Rattle.std.specs.Prelude.{Some, bytes_eq}
use Rattle.std.specs.List.{All, Any}
use Rattle.std.proofs.lemmas.List.Elements.{All-head, All-tail}
use Rattle.std.proofs.lemmas.List.Quantifiers.{position-Some}
use Rattle.std.proofs.lemmas.Slice.Eq.{bytes_eq-Decides}
use Rattle.ts_config.specs.Rules.{simple_rules}
use Rattle.ts_config.specs.Mappings.{Mapping, empty_mapping, mapped}
use Rattle.ts_config.specs.Known.{Known, NamedRules, HasDictionary, HasConfiguration, ArePlaces, place_of}
use Rattle.shell_script.specs.Lines.{Line}
use Rattle.shell_script.specs.OpeningLines.{Kind, OpeningLine, dictionary_opening, configuration_opening}
use Rattle.shell_script.specs.Replies.{Refusal, no_statement, no_dictionary, memory}
use Rattle.shell_script.specs.Replies.{Reply, done, refused}
use Rattle.shell_script.proofs.OneMapping.{one_mapping}
use Rattle.shell_run.specs.Defining.{LacksOne, IsBadFor, FirstIs, MapsLine, Maps, LineFails, LinesFail, IsDefined}
use Rattle.shell_run.specs.Defining.{HasOneAnswer}

-- ── dictionaries ──
first_or_none : (IsSuch : Line → Type 0) (ls : List Line) (at : ℕ) → All (λ (l : Line). ¬ IsSuch l) ls
    → FirstIs IsSuch ls at → ⊥
first_or_none IsSuch [] at h f = f
first_or_none IsSuch (l ∷ ls) at h (inl f) = All-head (λ (l : Line). ¬ IsSuch l) l ls h f.0
first_or_none IsSuch (l ∷ ls) at h (inr f) = first_or_none IsSuch ls at (All-tail (λ (l : Line). ¬ IsSuch l) l ls h) f.1

first_one : (IsSuch : Line → Type 0) (ls : List Line) (m n : ℕ) → FirstIs IsSuch ls m → FirstIs IsSuch ls n → m ≡ n
first_one IsSuch [] m n f g = absurd f
first_one IsSuch (l ∷ ls) m n (inl f) (inl g) = f.1 ∙ sym g.1
first_one IsSuch (l ∷ ls) m n (inl f) (inr g) = absurd (g.0 f.0)
first_one IsSuch (l ∷ ls) m n (inr f) (inl g) = absurd (f.0 g.0)
first_one IsSuch (l ∷ ls) m n (inr f) (inr g) = first_one IsSuch ls m n f.1 g.1

-- why a dictionary is refused: the one under it isn't there, its name is, or a line is bad
abbrev DictionaryCause : Known → ℕ → List ℕ → Kind → List Line → Refusal → Type 0
DictionaryCause known number name kind ls why =
    (LacksOne known kind × (why ≡ no_dictionary))
    ⊎ ((¬ LacksOne known kind) × ((at : ℕ) × (why ≡ no_statement at) × ((HasDictionary known name × (at ≡ number))
    ⊎ ((¬ HasDictionary known name) × FirstIs (λ (l : Line). IsBadFor known kind l) ls at))))

-- it is done, or refused for the first cause
abbrev Dictionary : Known → ℕ → List ℕ → Kind → List Line → Reply → Type 0
Dictionary known number name kind ls a =
    ((a ≡ done) × (¬ LacksOne known kind) × (¬ HasDictionary known name)
    × All (λ (l : Line). ¬ IsBadFor known kind l) ls)
    ⊎ ((why : Refusal) × (a ≡ refused why) × DictionaryCause known number name kind ls why)

dictionary : (known : Known) (number : ℕ) (name : List ℕ) (kind : Kind) (ls : List Line) (a : Reply)
    → a ≢ refused memory → IsDefined known number (dictionary_opening name kind) ls a
    → Dictionary known number name kind ls a
dictionary known number name kind ls done m h = inl (refl, h.0, h.1, h.2)
dictionary known number name kind ls (refused (no_statement at)) m h =
    inr (no_statement at, refl, inr (h.0, (at, refl, h.1)))
dictionary known number name kind ls (refused no_dictionary) m h = inr (no_dictionary, refl, inl (h, refl))
dictionary known number name kind ls (refused memory) m h = absurd (m refl)
dictionary known number name kind ls a m h = absurd h

numbers_one : (known : Known) (number : ℕ) (name : List ℕ) (kind : Kind) (ls : List Line) (m n : ℕ)
    → (HasDictionary known name × (m ≡ number)) ⊎ ((¬ HasDictionary known name)
    × FirstIs (λ (l : Line). IsBadFor known kind l) ls m) → (HasDictionary known name × (n ≡ number))
    ⊎ ((¬ HasDictionary known name) × FirstIs (λ (l : Line). IsBadFor known kind l) ls n) → m ≡ n
numbers_one known number name kind ls m n (inl h) (inl k) = h.1 ∙ sym k.1
numbers_one known number name kind ls m n (inl h) (inr k) = absurd (k.0 h.0)
numbers_one known number name kind ls m n (inr h) (inl k) = absurd (h.0 k.0)
numbers_one known number name kind ls m n (inr h) (inr k) =
    first_one (λ (l : Line). IsBadFor known kind l) ls m n h.1 k.1

dictionary_cause_one : (known : Known) (number : ℕ) (name : List ℕ) (kind : Kind) (ls : List Line) (why how : Refusal)
    → DictionaryCause known number name kind ls why → DictionaryCause known number name kind ls how → why ≡ how
dictionary_cause_one known number name kind ls why how (inl h) (inl k) = h.1 ∙ sym k.1
dictionary_cause_one known number name kind ls why how (inl h) (inr k) = absurd (k.0 h.0)
dictionary_cause_one known number name kind ls why how (inr h) (inl k) = absurd (h.0 k.0)
dictionary_cause_one known number name kind ls why how (inr h) (inr k) =
    h.1.1 ∙ ap no_statement (numbers_one known number name kind ls h.1.0 k.1.0 h.1.2 k.1.2) ∙ sym k.1.1

dictionary_done_or_cause : (known : Known) (number : ℕ) (name : List ℕ) (kind : Kind) (ls : List Line) (why : Refusal)
    → (¬ LacksOne known kind) × (¬ HasDictionary known name) × All (λ (l : Line). ¬ IsBadFor known kind l) ls
    → DictionaryCause known number name kind ls why → ⊥
dictionary_done_or_cause known number name kind ls why h (inl k) = h.0 k.0
dictionary_done_or_cause known number name kind ls why h (inr (n, (at, e, inl k))) = h.1 k.0
dictionary_done_or_cause known number name kind ls why h (inr (n, (at, e, inr k))) =
    first_or_none (λ (l : Line). IsBadFor known kind l) ls at h.2 k.1

dictionary_one : (known : Known) (number : ℕ) (name : List ℕ) (kind : Kind) (ls : List Line) (a b : Reply)
    → Dictionary known number name kind ls a → Dictionary known number name kind ls b → a ≡ b
dictionary_one known number name kind ls a b (inl h) (inl k) = h.0 ∙ sym k.0
dictionary_one known number name kind ls a b (inl h) (inr k) =
    absurd (dictionary_done_or_cause known number name kind ls k.0 (h.1, h.2, h.3) k.2)
dictionary_one known number name kind ls a b (inr h) (inl k) =
    absurd (dictionary_done_or_cause known number name kind ls h.0 (k.1, k.2, k.3) h.2)
dictionary_one known number name kind ls a b (inr h) (inr k) =
    h.1 ∙ ap refused (dictionary_cause_one known number name kind ls h.0 k.0 h.2 k.2) ∙ sym k.1

-- ── configurations ──
places_one : (known : Known) (names : List (List ℕ)) (ps qs : List ℕ) → ArePlaces known names ps
    → ArePlaces known names qs → ps ≡ qs
places_one known [] ps qs h k = h ∙ sym k
places_one known (n ∷ names) ps qs h k =
    let same : h.0 ≡ k.0 = (let e : Some h.0 ≡ Some k.0 = sym h.3 ∙ k.3 in cc) in
    h.2 ∙ ap (λ x. x ∷ h.1) same ∙ ap (λ xs. k.0 ∷ xs) (places_one known names h.1 k.1 h.4 k.4) ∙ sym k.2

got_same : {X : Type 0} (xs : List X) (i : ℕ) (d : X) → i < length xs → get_or xs i (get_or xs i d) ≡ get_or xs i d
got_same [] i d l = absurd (omega (arith, l))
got_same (x ∷ xs) zero d l = refl
got_same (x ∷ xs) (suc i) d l = got_same xs i d (omega (arith, l))

-- a name that has a place is a dictionary's
place_found : (known : Known) (name : List ℕ) (p : ℕ) → place_of known name ≡ Some p → HasDictionary known name
place_found known name p e =
    let d : NamedRules = record { name = []; rules = simple_rules [] true } in
    let k = position-Some (λ (x : NamedRules). bytes_eq name x.name) known.dictionaries p d e in (
      p,
      get_or known.dictionaries p d,
      k.0,
      got_same known.dictionaries p d k.0,
      sym ((bytes_eq-Decides name (get_or known.dictionaries p d).name).0 k.1),
    )

no_place_missing : (known : Known) (names : List (List ℕ)) (ps : List ℕ) → ArePlaces known names ps
    → Any (λ (name : List ℕ). ¬ HasDictionary known name) names → ⊥
no_place_missing known [] ps h a = absurd (omega (arith, a.2))
no_place_missing known (n ∷ names) ps h (zero, x, l, e, p) =
    p (subst (HasDictionary known) e (place_found known n h.0 h.3))
no_place_missing known (n ∷ names) ps h (suc i, x, l, e, p) =
    no_place_missing known names h.1 h.4 (i, x, omega (arith, l), e, p)

line_one : (known : Known) (old a b : Mapping) (l : Line) → MapsLine known old l a → MapsLine known old l b → a ≡ b
line_one known old a b l h k =
    let o = one_mapping l.bytes h.types k.types h.names k.names h.line k.line in
    let same : h.places ≡ k.places =
    places_one known h.names h.places k.places h.are (subst (λ ns. ArePlaces known ns k.places) (sym o.1) k.are) in
    h.value ∙ ap (λ ts. mapped ts h.places old) o.0 ∙ ap (λ ps. mapped k.types ps old) same ∙ sym k.value

line_or_fails : (known : Known) (old new : Mapping) (l : Line) (why : Refusal) → MapsLine known old l new
    → LineFails known l why → ⊥
line_or_fails known old new l (no_statement at) h f = f.0 h.types h.names h.line
line_or_fails known old new l no_dictionary h f =
    let o = one_mapping l.bytes h.types f.0 h.names f.1 h.line f.2 in
    no_place_missing known h.names h.places h.are
    (subst (λ ns. Any (λ (name : List ℕ). ¬ HasDictionary known name) ns) (sym o.1) f.3)
line_or_fails known old new l why h f = f

fails_one : (known : Known) (l : Line) (why how : Refusal) → LineFails known l why → LineFails known l how → why ≡ how
fails_one known l (no_statement m) (no_statement n) f g = ap no_statement (f.1 ∙ sym g.1)
fails_one known l (no_statement m) no_dictionary f g = absurd (f.0 g.0 g.1 g.2)
fails_one known l no_dictionary (no_statement n) f g = absurd (g.0 f.0 f.1 f.2)
fails_one known l no_dictionary no_dictionary f g = refl
fails_one known l (no_statement m) how f g = absurd g
fails_one known l no_dictionary how f g = absurd g
fails_one known l why how f g = absurd f

maps_or_fail : (known : Known) (old new : Mapping) (ls : List Line) (why : Refusal) → Maps known old ls new
    → LinesFail known old ls why → ⊥
maps_or_fail known old new [] why h f = f
maps_or_fail known old new (l ∷ ls) why h (inl f) = line_or_fails known old h.0 l why h.1 f
maps_or_fail known old new (l ∷ ls) why h (inr f) = maps_or_fail known h.0 new ls why h.2
    (subst (λ z. LinesFail known z ls why) (line_one known old f.0 h.0 l f.1 h.1) f.2)

lines_fail_one : (known : Known) (old : Mapping) (ls : List Line) (why how : Refusal) → LinesFail known old ls why
    → LinesFail known old ls how → why ≡ how
lines_fail_one known old [] why how f g = absurd f
lines_fail_one known old (l ∷ ls) why how (inl f) (inl g) = fails_one known l why how f g
lines_fail_one known old (l ∷ ls) why how (inl f) (inr g) = absurd (line_or_fails known old g.0 l why g.1 f)
lines_fail_one known old (l ∷ ls) why how (inr f) (inl g) = absurd (line_or_fails known old f.0 l how f.1 g)
lines_fail_one known old (l ∷ ls) why how (inr f) (inr g) = lines_fail_one known f.0 ls why how f.2
    (subst (λ z. LinesFail known z ls how) (line_one known old g.0 f.0 l g.1 f.1) g.2)

abbrev Cause : Known → ℕ → List ℕ → List Line → Refusal → Type 0
Cause known number name ls why = (HasConfiguration known name × (why ≡ no_statement number))
    ⊎ ((¬ HasConfiguration known name) × LinesFail known empty_mapping ls why)

-- it is done, or refused for the first cause
abbrev Configuration : Known → ℕ → List ℕ → List Line → Reply → Type 0
Configuration known number name ls a =
    ((a ≡ done) × (¬ HasConfiguration known name) × ((mapping : Mapping) × Maps known empty_mapping ls mapping))
    ⊎ ((why : Refusal) × (a ≡ refused why) × Cause known number name ls why)

configuration : (known : Known) (number : ℕ) (name : List ℕ) (ls : List Line) (a : Reply) → a ≢ refused memory
    → IsDefined known number (configuration_opening name) ls a → Configuration known number name ls a
configuration known number name ls done m h = inl (refl, h.0, h.1)
configuration known number name ls (refused (no_statement at)) m (inl h) =
    inr (no_statement at, refl, inl (h.0, ap no_statement h.1))
configuration known number name ls (refused (no_statement at)) m (inr h) = inr (no_statement at, refl, inr h)
configuration known number name ls (refused no_dictionary) m h = inr (no_dictionary, refl, inr h)
configuration known number name ls (refused memory) m h = absurd (m refl)
configuration known number name ls a m h = absurd h

cause_one : (known : Known) (number : ℕ) (name : List ℕ) (ls : List Line) (why how : Refusal)
    → Cause known number name ls why → Cause known number name ls how → why ≡ how
cause_one known number name ls why how (inl h) (inl k) = h.1 ∙ sym k.1
cause_one known number name ls why how (inl h) (inr k) = absurd (k.0 h.0)
cause_one known number name ls why how (inr h) (inl k) = absurd (h.0 k.0)
cause_one known number name ls why how (inr h) (inr k) = lines_fail_one known empty_mapping ls why how h.1 k.1

done_or_cause : (known : Known) (number : ℕ) (name : List ℕ) (ls : List Line) (why : Refusal)
    → (¬ HasConfiguration known name) × ((mapping : Mapping) × Maps known empty_mapping ls mapping)
    → Cause known number name ls why → ⊥
done_or_cause known number name ls why h (inl k) = h.0 k.0
done_or_cause known number name ls why h (inr k) = maps_or_fail known empty_mapping h.1.0 ls why h.1.1 k.1

configuration_one : (known : Known) (number : ℕ) (name : List ℕ) (ls : List Line) (a b : Reply)
    → Configuration known number name ls a → Configuration known number name ls b → a ≡ b
configuration_one known number name ls a b (inl h) (inl k) = h.0 ∙ sym k.0
configuration_one known number name ls a b (inl h) (inr k) =
    absurd (done_or_cause known number name ls k.0 (h.1, h.2) k.2)
configuration_one known number name ls a b (inr h) (inl k) =
    absurd (done_or_cause known number name ls h.0 (k.1, k.2) h.2)
configuration_one known number name ls a b (inr h) (inr k) =
    h.1 ∙ ap refused (cause_one known number name ls h.0 k.0 h.2 k.2) ∙ sym k.1

pub definition_one : (known : Known) (number : ℕ) (head : OpeningLine) (ls : List Line)
    → HasOneAnswer known number head ls
definition_one known number (dictionary_opening name kind) ls a b m n h k = dictionary_one known number name kind ls a b
    (dictionary known number name kind ls a m h) (dictionary known number name kind ls b n k)
definition_one known number (configuration_opening name) ls a b m n h k = configuration_one known number name ls a b
    (configuration known number name ls a m h) (configuration known number name ls b n k)
