use Rattle.std.proofs.Common.{◌≡◌, ℕ, zero, suc, ◌+◌, [], ◌∷◌, drop, Option, None, Some, refl, sym, ap, ◌∙◌, arith}
use Rattle.std.specs.Iterator.{YieldsFirst}
use Rattle.ts_base.specs.Vectors.{Entry, Vector}
use Rattle.ts_vector.proofs.encoded.VectorBytes.entries_from.Goals as goal

drop_two : (v : Vector) (k : ℕ) → drop (suc k) v ≡ drop 1 (drop k v)
drop_two [] zero = refl
drop_two [] (suc k) = refl
drop_two (e ∷ v) zero = refl
drop_two (e ∷ v) (suc k) = drop_two v k

drop_more : (v : Vector) (k : ℕ) → drop (k + 1) v ≡ drop 1 (drop k v)
drop_more v k = let e : k + 1 ≡ suc k = omega arith in ap (λ n. drop n v) e ∙ drop_two v k

tail_is : (r : Option Entry) (s t : Vector) → YieldsFirst (λ (l : Vector). l) s r t → t ≡ drop 1 s
tail_is None s t h = h.1 ∙ sym (ap (drop 1) h.0)
tail_is (Some e) s t h = sym (ap (drop 1) h)

pub loop-skipped-preserved : goal.loop-skipped-preserved
loop-skipped-preserved c = record {
  left = tail_is c.next.result c.loop-skipped.entries c.next.new.self c.next.ensures.steps
      ∙ ap (drop 1) c.loop-skipped.invariant.left ∙ sym (drop_more c.args.self.now c.loop-skipped.skipped);
  within = omega arith;
}
