-- What bytes tell of a vector.
use Rattle.std.proofs.Common.{◌≡◌, ℕ, List, Bool, true, false, sym, subst, ◌∙◌}
use Rattle.std.specs.Prelude.{◌↔◌, IsTrue, Result, Ok, Err, IfOk, IfErr, is_ok}
use Rattle.ts_base.specs.Vectors.{Vector}
use Rattle.ts_base.specs.Encoding.{IsEncoding, EncodingTellsVector}
use Rattle.ts_vector.specs.Decoded.{EncodingFails, BadBytesAreNoEncoding}
use Rattle.ts_vector.specs.declared.error.VectorError.{VectorError}
use Rattle.ts_vector.specs.declared.error.VectorError.TheVariants.{Syntax, LexemeTooLong, VectorTooLarge, BadBytes}
use Rattle.ts_vector.specs.declared.error.VectorError.TheVariants.{OutOfMemory}
use Rattle.gin_scan.specs.Inner.Heads.{TellsOf}

-- bytes that encode a vector of which the answer is known
pub tells_of : (P : Vector → Type 0) (bytes : List ℕ) (w : Vector) (b : Bool) → EncodingTellsVector
    → IsEncoding bytes w → IsTrue b ↔ P w → TellsOf P bytes b
tells_of P bytes w b law e answer = record {
  has = λ v f.
      let same : w ≡ v = law w v e.normal f.normal (sym e.bytes_of ∙ f.bytes_of) in (
        λ is. subst P same (answer.0 is),
        λ holds. answer.1 (subst P (sym same) holds),
      );
  encodes = λ is. (w, e);
}

fails : (bytes : List ℕ) (e : VectorError) → BadBytesAreNoEncoding → EncodingFails bytes e → (v : Vector)
    → IsEncoding bytes v → ⊥
fails bytes (Syntax n) law f v is = f
fails bytes (LexemeTooLong n) law f v is = f
fails bytes (VectorTooLarge n) law f v is = f
fails bytes OutOfMemory law f v is = absurd f
fails bytes (BadBytes n) law f v is = law bytes n f v is

none : IsTrue false → ⊥
none is =
    let f : false ≡ true = is in
    let z : ⊥ = cc in z

-- bytes that encode none
pub tells_none : (P : Vector → Type 0) (bytes : List ℕ) (e : VectorError) → BadBytesAreNoEncoding
    → EncodingFails bytes e → TellsOf P bytes false
tells_none P bytes e law f =
    record { has = λ v is. absurd (fails bytes e law f v is); encodes = λ is. absurd (none is) }

-- whether they encode one at all
pub encodes_some : (bytes : List ℕ) (r : Result Vector VectorError) (b : Bool) → BadBytesAreNoEncoding → b ≡ is_ok r
    → IfOk r (IsEncoding bytes) → IfErr r (EncodingFails bytes) → IsTrue b ↔ ((v : Vector) × IsEncoding bytes v)
encodes_some bytes (Ok w) b law answer is bad = (λ yes. (w, is), λ some. answer)
encodes_some bytes (Err e) b law answer is bad =
    (λ yes. absurd (none (sym answer ∙ yes)), λ some. absurd (fails bytes e law bad some.0 some.1))

-- the lexemes of the vector say that it has the property, and the bytes are looked at for whether they encode one
pub tells_yes : (P : Vector → Type 0) (bytes : List ℕ) (b : Bool)
    → ((v : Vector) → IsEncoding bytes v → P v) → IsTrue b ↔ ((v : Vector) × IsEncoding bytes v) → TellsOf P bytes b
tells_yes P bytes b holds some =
    record { has = λ v f. (λ is. holds v f, λ p. some.1 (v, f)); encodes = some.0 }

-- they say that it hasn't
pub tells_no : (P : Vector → Type 0) (bytes : List ℕ) → ((v : Vector) → IsEncoding bytes v → P v → ⊥)
    → TellsOf P bytes false
tells_no P bytes fails = record {
  has = λ v f. (λ is. absurd (none is), λ p. absurd (fails v f p));
  encodes = λ is. absurd (none is);
}
