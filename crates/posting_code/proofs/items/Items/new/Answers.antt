use Rattle.std.proofs.Common.{length, refl, ap, arith}
use Rattle.page_types.specs.Items.{items_of}
use Rattle.page_types.proofs.ItemReading.{whole_take, refused, not_whole}
use Rattle.posting_code.specs.Faults.{fault_in}
use Rattle.posting_code.proofs.Lists.{starts}
use Rattle.posting_code.proofs.items.Items.new.Goals as goal

pub invariant_of-result : goal.invariant_of-result
invariant_of-result c =
    let r = c.in-Ok.ensures.read in
    starts c.args.bytes.now c.in-Ok.whole.count c.in-Ok.whole.last r.0 c.in-Ok.whole.rest.now
    (λ i. omega (arith, c.type_inv.bytes i)) r.1 r.2 r.3

pub returns-in-Ok-clause-ok : goal.returns-in-Ok-clause-ok
returns-in-Ok-clause-ok c =
    let r = c.in-Ok.ensures.read in (
      λ e. (whole_take c.args.bytes.now r.0 c.in-Ok.whole.rest.now (λ i. omega (arith, c.type_inv.bytes i)) r.1).0,
      λ h. refl,
    )

pub returns-in-Ok-clause-items : goal.returns-in-Ok-clause-items
unfolding items_of
returns-in-Ok-clause-items c = refl

pub returns-in-Err-clause-ok : goal.returns-in-Err-clause-ok
returns-in-Err-clause-ok c = (
  λ e. absurd cc,
  λ h. absurd
      (refused c.args.bytes.now c.in-Err.left (not_whole c.args.bytes.now c.in-Err.left c.in-Err.ensures.fault) h),
)

pub returns-in-Err-clause-fault : goal.returns-in-Err-clause-fault
returns-in-Err-clause-fault c =
    ap (fault_in (length c.args.bytes.now)) (not_whole c.args.bytes.now c.in-Err.left c.in-Err.ensures.fault)
