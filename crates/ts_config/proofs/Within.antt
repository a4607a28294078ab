-- Mappings that have places of dictionaries alone.
use Rattle.std.proofs.Common.{◌≡◌, ℕ, ◌<◌, ◌≤◌, List, [], ◌∷◌, Bool, true, false, cond, length, replicate, refl, sym}
use Rattle.std.proofs.Common.{subst, arith}
use Rattle.std.specs.Prelude.{All, Some, None, position, bytes_eq, nat_lt}
use Rattle.std.specs.List.{position_or_len}
use Rattle.std.proofs.lemmas.Bool.Decides.{nat_tests}
use Rattle.std.proofs.lemmas.List.Elements.{All-nil, All-cons, All-set, All-weaker, All-replicate}
use Rattle.ts_parser.specs.declared.kinds.TokenType.{TokenType}
use Rattle.ts_config.specs.Mappings.{Mapping, type_place, empty_mapping, with_list, mapped}
use Rattle.ts_config.specs.Known.{NamedRules, NamedMapping, Known, first_known, IsWithin, ArePlaces, place_of}
use Rattle.ts_config.specs.Inner.Entries.{AllWithin}
use Rattle.ts_config.specs.declared.TheConstants.{TYPES}
use Rattle.ts_parser.specs.declared.kinds.TokenType.TheVariants.{Blank}

abbrev AreBelow : ℕ → List ℕ → Type 0
AreBelow n places = All (λ p. p < n) places

pub within_empty : (known : Known) → IsWithin known empty_mapping
within_empty known =
    All-replicate (AreBelow (length known.dictionaries)) 15 [] (All-nil (λ p. p < length known.dictionaries))

pub within_list : (known : Known) (mapping : Mapping) (kind : TokenType) (places : List ℕ) → IsWithin known mapping
    → AreBelow (length known.dictionaries) places → IsWithin known (with_list mapping kind places)
within_list known mapping kind places h k =
    All-set (AreBelow (length known.dictionaries)) mapping (type_place kind) places k h

pub within_mapped : (known : Known) (mapping : Mapping) (kinds : List TokenType) (places : List ℕ)
    → IsWithin known mapping → AreBelow (length known.dictionaries) places
    → IsWithin known (mapped kinds places mapping)
within_mapped known mapping [] places h k = h
within_mapped known mapping (kind ∷ kinds) places h k =
    within_mapped known (with_list mapping kind places) kinds places (within_list known mapping kind places h k) k

-- ── names ──
position_below : {X : Type 0} (test : X → Bool) (xs : List X) (p : ℕ) → position test xs ≡ Some p → p < length xs
position_below test xs p e = by (nat_lt (position_or_len test xs) (length xs)) refl e
  where
    by : (b : Bool) → nat_lt (position_or_len test xs) (length xs) ≡ b
        → cond b (Some (position_or_len test xs)) None ≡ Some p → p < length xs
    by true h k = let z : position_or_len test xs ≡ p = cc in
        let l : position_or_len test xs < length xs = grind (arith, nat_tests) in omega (arith, z, l)
    by false h k = let z : ⊥ = cc in absurd z

pub place_below : (known : Known) (name : List ℕ) (p : ℕ) → place_of known name ≡ Some p → p < length known.dictionaries
place_below known name p e = position_below (λ d. bytes_eq name d.name) known.dictionaries p e

pub places_within : (known : Known) (names : List (List ℕ)) (places : List ℕ) → ArePlaces known names places
    → AreBelow (length known.dictionaries) places
places_within known [] places e =
    subst (AreBelow (length known.dictionaries)) (sym e) (All-nil (λ p. p < length known.dictionaries))
places_within known (n ∷ ns) places (p, ps, e, f, h) =
    subst (AreBelow (length known.dictionaries)) (sym e)
    (All-cons (λ q. q < length known.dictionaries) p ps (place_below known n p f) (places_within known ns ps h))

-- one dictionary more leaves the places good
pub within_more : (m n : ℕ) (mapping : Mapping) → m ≤ n → All (AreBelow m) mapping → All (AreBelow n) mapping
within_more m n mapping le h = All-weaker (AreBelow m) (AreBelow n)
    (λ places k. All-weaker (λ p. p < m) (λ p. p < n) (λ p l. omega (arith, l, le)) places k) mapping h

-- the configuration that is there from the start has the dictionary that is
pub within_first : (ds : List NamedRules) (cs : List NamedMapping) → ds ≡ first_known.dictionaries
    → cs ≡ first_known.configurations → AllWithin (record { dictionaries = ds; configurations = cs })
within_first ds cs e f =
    let one : AreBelow 1 (0 ∷ []) = All-cons (λ p. p < 1) 0 [] (omega arith) (All-nil (λ p. p < 1)) in
    let within = within_list first_known (replicate TYPES (0 ∷ [])) Blank []
    (All-replicate (AreBelow 1) 15 (0 ∷ []) one) (All-nil (λ p. p < 1)) in
    let all : AllWithin first_known =
    All-cons (λ c. IsWithin first_known c.mapping) _ [] within (All-nil (λ c. IsWithin first_known c.mapping)) in
    let over : AllWithin (record { dictionaries = ds; configurations = first_known.configurations }) =
    subst (λ l. AllWithin (record { dictionaries = l; configurations = first_known.configurations })) (sym e) all in
    subst (λ l. AllWithin (record { dictionaries = ds; configurations = l })) (sym f) over
