-- Worked stems, over all steps.
use Rattle.std.specs.Prelude.{◌≡◌, ℕ, List, [], ◌∷◌, map, codes}
use Rattle.porter_stem.specs.Stem.{stem}

-- words, each with its stem
abbrev pub worked_stems : List (List ℕ × List ℕ)
worked_stems =
    (codes "caresses", codes "caress") ∷ (codes "ponies", codes "poni") ∷ (codes "ties", codes "ti")
    ∷ (codes "caress", codes "caress") ∷ (codes "cats", codes "cat") ∷ (codes "feed", codes "feed")
    ∷ (codes "agreed", codes "agre") ∷ (codes "plastered", codes "plaster") ∷ (codes "bled", codes "bled")
    ∷ (codes "motoring", codes "motor") ∷ (codes "sing", codes "sing") ∷ (codes "conflated", codes "conflat")
    ∷ (codes "troubled", codes "troubl") ∷ (codes "sized", codes "size") ∷ (codes "hopping", codes "hop")
    ∷ (codes "tanned", codes "tan") ∷ (codes "falling", codes "fall") ∷ (codes "hissing", codes "hiss")
    ∷ (codes "fizzed", codes "fizz") ∷ (codes "failing", codes "fail") ∷ (codes "filing", codes "file")
    ∷ (codes "happy", codes "happi") ∷ (codes "sky", codes "sky") ∷ (codes "relational", codes "relat")
    ∷ (codes "conditional", codes "condit") ∷ (codes "rational", codes "ration") ∷ (codes "valenci", codes "valenc")
    ∷ (codes "digitizer", codes "digit") ∷ (codes "conformabli", codes "conform") ∷ (codes "radicalli", codes "radic")
    ∷ (codes "vietnamization", codes "vietnam") ∷ (codes "predication", codes "predic")
    ∷ (codes "operator", codes "oper") ∷ (codes "feudalism", codes "feudal") ∷ (codes "decisiveness", codes "decis")
    ∷ (codes "hopefulness", codes "hope") ∷ (codes "formaliti", codes "formal") ∷ (codes "sensitiviti", codes "sensit")
    ∷ (codes "sensibiliti", codes "sensibl")
    ∷ (codes "triplicate", codes "triplic") ∷ (codes "formative", codes "form") ∷ (codes "formalize", codes "formal")
    ∷ (codes "electriciti", codes "electr") ∷ (codes "electrical", codes "electr") ∷ (codes "hopeful", codes "hope")
    ∷ (codes "goodness", codes "good") ∷ (codes "revival", codes "reviv") ∷ (codes "allowance", codes "allow")
    ∷ (codes "inference", codes "infer") ∷ (codes "airliner", codes "airlin") ∷ (codes "gyroscopic", codes "gyroscop")
    ∷ (codes "adjustable", codes "adjust") ∷ (codes "defensible", codes "defens") ∷ (codes "irritant", codes "irrit")
    ∷ (codes "replacement", codes "replac") ∷ (codes "adjustment", codes "adjust") ∷ (codes "dependent", codes "depend")
    ∷ (codes "adoption", codes "adopt") ∷ (codes "homologou", codes "homolog") ∷ (codes "communism", codes "commun")
    ∷ (codes "activate", codes "activ") ∷ (codes "angulariti", codes "angular") ∷ (codes "homologous", codes "homolog")
    ∷ (codes "effective", codes "effect") ∷ (codes "bowdlerize", codes "bowdler") ∷ (codes "probate", codes "probat")
    ∷ (codes "rate", codes "rate") ∷ (codes "cease", codes "ceas") ∷ (codes "controll", codes "control")
    ∷ (codes "roll", codes "roll") ∷ (codes "generalizations", codes "gener") ∷ (codes "s", codes "s") ∷ []

abbrev pub StemsAreWorked : Type 0
StemsAreWorked = map (λ (p : List ℕ × List ℕ). stem p.0) worked_stems ≡ map (λ (p : List ℕ × List ℕ). p.1) worked_stems
