-- Why texts and items are refused.
use Rattle.std.proofs.Common.{◌<◌, ◌^◌, ℕ, List, arith}
use Rattle.ts_base.specs.Vectors.{Entry, Vector, content_size}
use Rattle.ts_vector.specs.declared.error.VectorError.{VectorError}
use Rattle.ts_vector.specs.declared.error.VectorError.TheVariants.{Syntax, LexemeTooLong, VectorTooLarge, BadBytes}
use Rattle.ts_vector.specs.declared.error.VectorError.TheVariants.{OutOfMemory}
use Rattle.ts_vector.specs.Normal.{IsNormalFormOf}
use Rattle.ts_vector.specs.Text.{Written, IsVectorText, AllShort, entries}
use Rattle.ts_vector.specs.Failures.{TextFails, ItemsFail}
use Rattle.ts_vector.specs.Inner.Over.{IsOver}

pub over_text : (text : List ℕ) (items : List Written) (v : Vector) → IsVectorText text items → AllShort items
    → IsNormalFormOf (entries items) v → content_size v < 2 ^ 64
    → (e : VectorError) → IsOver v e → TextFails text e
over_text text items v h fit form small (Syntax n) o = absurd o
over_text text items v h fit form small (LexemeTooLong n) o = absurd o
over_text text items v h fit form small (VectorTooLarge n) o = record {
  items = items;
  vector = v;
  text_of = h;
  fit = fit;
  form = form;
  size = let s = o.0 in omega arith;
  large = let s = o.0 in let l = o.1 in omega arith;
}
over_text text items v h fit form small (BadBytes n) o = absurd o
over_text text items v h fit form small OutOfMemory o = tt

pub over_items : (items : List Entry) (v : Vector) → IsNormalFormOf items v → (e : VectorError) → IsOver v e
    → ItemsFail items e
over_items items v form (Syntax n) o = o
over_items items v form (LexemeTooLong n) o = o
over_items items v form (VectorTooLarge n) o = record { vector = v; form = form; size = o.0; large = o.1 }
over_items items v form (BadBytes n) o = o
over_items items v form OutOfMemory o = tt
