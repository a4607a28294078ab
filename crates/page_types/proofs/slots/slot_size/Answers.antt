use Rattle.std.proofs.Common.{length, ap, arith}
use Rattle.std.specs.Option.{option_map}
use Rattle.page_types.specs.Parts.{head_shown}
use Rattle.page_types.specs.Encoding.{slot_bytes}
use Rattle.page_types.proofs.BodySizes.{length-slot_bytes}
use Rattle.page_types.proofs.slots.slot_size.Goals as goal

pub returns-in-Some : goal.returns-in-Some
returns-in-Some c = omega (
  arith,
  ap (λ s. length (slot_bytes (option_map head_shown s))) c.in-Some.is,
  length-slot_bytes (head_shown c.in-Some.head),
)
