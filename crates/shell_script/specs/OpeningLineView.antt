-- First lines without where they lie in memory.
use Rattle.shell_script.specs.OpeningLines as openings
use Rattle.shell_script.specs.declared.opening_lines.Kind.{Kind}
use Rattle.shell_script.specs.declared.opening_lines.Kind.TheVariants.{Simple, Porter, Synonym, Thesaurus}
use Rattle.shell_script.specs.declared.opening_lines.OpeningLine.{OpeningLine}
use Rattle.shell_script.specs.declared.opening_lines.OpeningLine.TheVariants.{Dictionary, Configuration}

abbrev pub kind : Kind → openings.Kind
kind (Simple accept) = openings.simple_kind accept
kind Porter = openings.porter_kind
kind (Synonym cases) = openings.synonym_kind cases
kind (Thesaurus sub) = openings.thesaurus_kind sub.now

abbrev pub opening_line : OpeningLine → openings.OpeningLine
opening_line (Dictionary name k) = openings.dictionary_opening name.now (kind k)
opening_line (Configuration name) = openings.configuration_opening name.now
