-- The entries of the maps by name, as contracts see them.
use Rattle.std.specs.Prelude.{map, All, string_bytes, String}
use Rattle.std.specs.declared.alloc.Global.{Global}
use Rattle.ts_config.specs.declared.dictionaries.AnyDictionary.{AnyDictionary}
use Rattle.ts_config.specs.declared.configs.Configs.TheInside.{Inside}
use Rattle.ts_config.specs.Rules.{rules_of}
use Rattle.ts_config.specs.Mappings.{Mapping}
use Rattle.ts_config.specs.Known.{NamedRules, NamedMapping, Known, IsWithin}

abbrev pub named_rules : String Global × AnyDictionary → NamedRules
named_rules e = record { name = string_bytes e.0; rules = rules_of e.1 }

abbrev pub named_mapping : String Global × Mapping → NamedMapping
named_mapping e = record { name = string_bytes e.0; mapping = e.1 }

abbrev pub known_of : Inside → Known
known_of c = record {
  dictionaries = map named_rules c.dictionaries.entries;
  configurations = map named_mapping c.configurations.entries;
}

-- each configuration has places of dictionaries alone
abbrev pub AllWithin : Known → Type 0
AllWithin known = All (λ c. IsWithin known c.mapping) known.configurations
