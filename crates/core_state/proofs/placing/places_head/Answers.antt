use Rattle.std.proofs.Common.{◌≡◌, false, sym, ◌∙◌, arith}
use Rattle.std.specs.Prelude.{Some, None, is_some}
use Rattle.std.proofs.lemmas.Grind.{common_steps}
use Rattle.page_types.specs.Parts.{head_shown}
use Rattle.page_types.specs.Views.{slot_at}
use Rattle.core_state.proofs.PlacedHeads.{none_of}
use Rattle.core_state.proofs.placing.places_head.Goals as goal

pub returns-then-is_new_head : goal.returns-then-is_new_head
returns-then-is_new_head c =
    let k : c.from-k.result ≡ c.args.slot = cc in
    let gone : is_some c.get-else-k-len.result ≡ false = first_of (cc, grind (arith, common_steps)) in
    let free : slot_at c.args.slots.now c.from-k.result ≡ None = none_of c.get-else-k-len.result
    (slot_at c.args.slots.now c.from-k.result) gone c.get-else-k-len.ensures in
    let there : slot_at c.args.new.now c.from-k.result ≡ Some (head_shown c.in-Some.head) = sym c.in-Some.ensures in (
      λ e. record {
        head = head_shown c.in-Some.head;
        was_free = rw (← k) free;
        in_row = omega arith;
        new_head = c.is_new_head.ensures.0 c.if-is_new_head.true;
        put = record {
          put = rw (← k) there;
          others = λ j off. c.others_stay.ensures.0 e j
              (λ f. off (f ∙ k));
          size = omega arith;
        };
      },
      λ w. c.others_stay.ensures.1 (λ j off. w.put.others j (λ f. off (f ∙ sym k))),
    )
