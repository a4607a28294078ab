use Rattle.std.proofs.Common.{◌≡◌, ◌∙◌, Option, Some, None, refl, sym, ap}
use Rattle.std.specs.Option.{is_some, option_map}
use Rattle.store_cases.proofs.heap_tests.has_head.Goals as goal

-- what is shown of a value is there exactly where the value is
shown : {A B : Type 0} (f : A → B) (o : Option A) → is_some (option_map f o) ≡ is_some o
shown f None = refl
shown f (Some a) = refl

pub returns : goal.returns
returns c = λ yes. ap is_some (sym c.head.ensures) ∙ (shown _ c.head.result ∙ (sym c.is_some.ensures ∙ yes))
