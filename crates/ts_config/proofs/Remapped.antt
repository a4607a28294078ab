-- A list of a configuration that is replaced.
use Rattle.std.proofs.Common.{◌≡◌, ℕ, ◌<◌, List, [], ◌∷◌, Bool, true, false, cond, map, refl, ap, length}
use Rattle.std.specs.Prelude.{All, Some, bytes_eq, string_bytes, String, if◌then◌else◌}
use Rattle.std.specs.Map.{lookup, set_value}
use Rattle.std.specs.declared.alloc.Global.{Global}
use Rattle.std.proofs.lemmas.List.Elements.{All-cons, All-head, All-tail}
use Rattle.ts_parser.specs.declared.kinds.TokenType.{TokenType}
use Rattle.ts_config.specs.Mappings.{Mapping, with_list}
use Rattle.ts_config.specs.Known.{NamedMapping, Known, IsWithin, remapped}
use Rattle.ts_config.specs.Inner.Entries.{named_mapping}
use Rattle.ts_config.proofs.Within.{within_list}

module _ (name : List ℕ) (kind : TokenType) (places : List ℕ) where
  -- what is written for the name that was found
  pub written : (m : Mapping) (es : List (String Global × Mapping))
      → lookup (λ k. bytes_eq name (string_bytes k)) es ≡ Some m
      → map named_mapping (set_value (λ k. bytes_eq name (string_bytes k)) es (with_list m kind places))
      ≡ remapped name kind places (map named_mapping es)
  written m [] h = refl
  written m (e ∷ es) h = by (bytes_eq name (string_bytes e.0)) h (written m es)
    where
      rest : List (String Global × Mapping)
      rest = set_value (λ k. bytes_eq name (string_bytes k)) es (with_list m kind places)

      one : Mapping → NamedMapping
      one n = record { name = string_bytes e.0; mapping = with_list n kind places }

      by : (b : Bool) → cond b (Some e.1) (lookup (λ k. bytes_eq name (string_bytes k)) es) ≡ Some m
          → (lookup (λ k. bytes_eq name (string_bytes k)) es ≡ Some m
          → map named_mapping rest ≡ remapped name kind places (map named_mapping es))
          → map named_mapping (cond b ((e.0, with_list m kind places) ∷ es) (e ∷ rest))
          ≡ (if b then record {
            name = string_bytes e.0;
            mapping = with_list e.1 kind places;
          } ∷ map named_mapping es else named_mapping e ∷ remapped name kind places (map named_mapping es))
      by true h k = let z : m ≡ e.1 = cc in
          ap (λ n. record { name = string_bytes e.0; mapping = with_list n kind places } ∷ map named_mapping es) z
      by false h k = ap (λ cs. named_mapping e ∷ cs) (k h)

  -- the places stay those of dictionaries
  pub remapped_within : (known : Known) (cs : List NamedMapping) → All (λ p. p < length known.dictionaries) places
      → All (λ c. IsWithin known c.mapping) cs
      → All (λ c. IsWithin known c.mapping) (remapped name kind places cs)
  remapped_within known [] k h = h
  remapped_within known (c ∷ cs) k h =
      by (bytes_eq name c.name) (within_list known c.mapping kind places (All-head P c cs h) k)
      (remapped_within known cs k (All-tail P c cs h))
    where
      P : NamedMapping → Type 0
      P c = IsWithin known c.mapping

      by : (b : Bool) → IsWithin known (with_list c.mapping kind places) → All P (remapped name kind places cs)
          → All P (if b then record {
            name = c.name;
            mapping = with_list c.mapping kind places;
          } ∷ cs else c ∷ remapped name kind places cs)
      by true g l =
          All-cons P (record { name = c.name; mapping = with_list c.mapping kind places }) cs g (All-tail P c cs h)
      by false g l = All-cons P c (remapped name kind places cs) (All-head P c cs h) l
