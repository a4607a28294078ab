-- What an operator does to a maker where one of its operands, or both, are gone.
use Rattle.std.proofs.Common.{◌≡◌, ◌+◌, ◌<◌, List, [], ◌∷◌, ◌++◌, ap, ◌∙◌, Bool, true, false, ◌&&◌, Result, Ok, Err}
use Rattle.std.specs.Prelude.{OnOk}
use Rattle.ts_query.specs.declared.TheConstants.{NODE_LIMIT}
use Rattle.ts_query.specs.declared.error.QueryError.{QueryError}
use Rattle.ts_query.specs.Queries.{Joint}
use Rattle.ts_query.specs.Building.{nodes_among}
use Rattle.ts_make.specs.Removal.{Sketch, joint_sketch}
use Rattle.ts_make.specs.Making.{IsKept, IsMaking}
use Rattle.ts_make.specs.Inner.Making.{joined_part}
use Rattle.ts_make.specs.declared.maker.Part.{Part}
use Rattle.ts_make.specs.declared.maker.QueryMaker.{QueryMaker}
use Rattle.ts_make.proofs.Making.{LastTwo, last_two, gone_kept}
use Rattle.ts_make.proofs.Steps.{making}

pub first_gone : (x y : Bool) → x ≡ false → (x && y) ≡ false
first_gone x y h = ap (λ b. b && y) h

pub second_gone : (x y : Bool) → x ≡ true → y ≡ false → (x && y) ≡ false
second_gone x y h g = ap (λ b. b && y) h ∙ g

module _ (j : Joint) (a : QueryMaker) (qs rs : List Part) (x y : Part)
    (y_last : a.parts.items ≡ qs ++ y ∷ []) (x_last : qs ≡ rs ++ x ∷ []) where
  lasts : (d e : Sketch) (ds : List Sketch) → IsMaking a (e ∷ d ∷ ds) → LastTwo rs x y d e ds
  lasts d e ds m = last_two a.parts.items qs rs x y a.builder a.removed d e ds y_last x_last m.kept

  kept_gone : (d e : Sketch) (ds : List Sketch) → (x.there && y.there) ≡ false
      → IsMaking a (e ∷ d ∷ ds)
      → IsKept (rs ++ joined_part j x y ∷ []) a.builder (a.removed + 1) (joint_sketch j d e ∷ ds)
  kept_gone d e ds t m =
      gone_kept j a.parts.items rs x y a.builder a.removed d e ds (lasts d e ds m) m.kept t

  pub gone_value : {T : Type 0} (r : Result T QueryError) (b : QueryMaker) (p : Part)
      → (x.there && y.there) ≡ false → p ≡ joined_part j x y
      → OnOk r (b.parts.items ≡ rs ++ p ∷ []) → b.builder ≡ a.builder → b.removed ≡ a.removed + 1
      → OnOk r (a.removed + 1 + nodes_among a.builder < NODE_LIMIT)
      → OnOk r ((d e : Sketch) (ds : List Sketch) → IsMaking a (e ∷ d ∷ ds)
      → IsMaking b (joint_sketch j d e ∷ ds))
  gone_value (Ok v) b p t i ps bs n f = λ d e ds m.
      making b (rs ++ joined_part j x y ∷ []) a.builder (a.removed + 1) (joint_sketch j d e ∷ ds)
      (ps ∙ ap (λ k. rs ++ k ∷ []) i) bs n (kept_gone d e ds t m) f
  gone_value (Err e) b p t i ps bs n f = tt
