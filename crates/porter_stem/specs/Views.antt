-- The code's rules as those of the tables.
use Rattle.std.specs.Prelude.{Option, Some, None}
use Rattle.porter_stem.specs.Tables as tables
use Rattle.porter_stem.specs.declared.rule.Rule.{Rule}

abbrev pub rule_of : Rule → tables.Rule
rule_of r = record { suffix = r.suffix.now; given = r.given.now; condition = r.condition }

abbrev pub found_of : Option Rule → Option tables.Rule
found_of None = None
found_of (Some r) = Some (rule_of r)
