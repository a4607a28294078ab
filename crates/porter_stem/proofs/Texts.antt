-- The stem of a text is a text.
use Rattle.std.proofs.Common.{◌≡◌, ◌≢◌, ℕ, zero, suc, ◌<◌, List, [], ◌∷◌, Bool, true, false, cond, not, ◌&&◌, ◌||◌}
use Rattle.std.proofs.Common.{refl, sym, ap, subst, arith}
use Rattle.std.specs.Prelude.{bytes_eq, codes}
use Rattle.std.specs.List.{list_all}
use Rattle.std.specs.Str.{IsUtf8, IsAscii}
use Rattle.std.proofs.lemmas.Str.{IsUtf8-from_ascii}
use Rattle.std.proofs.lemmas.Bool.Decides.{nat_tests}
use Rattle.ts_base.specs.Dictionary.{unknown_word, stop_word, word_lexemes}
use Rattle.ts_base.specs.Words.{lower}
use Rattle.ts_words.specs.Simple.{is_stop, plain}
use Rattle.porter_stem.specs.Stem.{stem, stemmed, is_small}
use Rattle.porter_stem.specs.Porter.{PorterKnowsAll}
use Rattle.porter_stem.proofs.Small.{stem_small}

small_byte : (c : ℕ) → is_small c ≡ true → c < 128
small_byte c e = grind (arith, nat_tests)

both_true : (a b : Bool) → (a && b) ≡ true → (a ≡ true) × (b ≡ true)
both_true true b e = (refl, e)
both_true false b e = cc

small_ascii : (word : List ℕ) → list_all is_small word ≡ true → IsAscii word
small_ascii [] e i = omega arith
small_ascii (c ∷ word) e zero = small_byte c (both_true (is_small c) (list_all is_small word) e).0
small_ascii (c ∷ word) e (suc i) = small_ascii word (both_true (is_small c) (list_all is_small word) e).1 i

pub stem_utf8 : (word : List ℕ) → IsUtf8 word → IsUtf8 (stem word)
stem_utf8 word u = by (list_all is_small word) refl
  where
    by : (b : Bool) → list_all is_small word ≡ b → IsUtf8 (stem word)
    by true e = IsUtf8-from_ascii (stem word) (small_ascii (stem word) (stem_small word e))
    by false e = subst IsUtf8 (sym (ap (λ b. cond (not b || bytes_eq word (codes "s")) word (stemmed word)) e)) u

pub knows_all : PorterKnowsAll
knows_all stops word = by (is_stop stops (lower word))
  where
    by : (b : Bool) → cond b stop_word (word_lexemes (plain (stem (lower word)) ∷ [])) ≢ unknown_word
    by true e = cc
    by false e = cc
