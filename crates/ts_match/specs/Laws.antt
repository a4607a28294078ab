-- The proof that the judge is sound. It is here since an `impl` gives it, and an `impl` cites no file of `proofs`.
pub mod Elements
pub mod JudgeLaw
pub mod Soundness
