use Rattle.record_code.proofs.Appending.{on_ok, rest_put}
use Rattle.record_code.proofs.writing.put_rest.Goals as goal

pub put_changes-requires : goal.put_changes-requires
put_changes-requires c = (c.args.rec.now.number, rw c.as_slice.ensures (c.requires.changes))

pub returns-clause-ok : goal.returns-clause-ok
returns-clause-ok c =
    on_ok c.put_changes.result c.put_changes.ensures.ok
    (λ e. rest_put c.args.out.now.items c.push.new.self.items c.put_u32.new.out.items c.put_u64.new.out.items
    c.put_fields.new.out.items c.push-2.new.self.items c.put_changes.new.out.items c.args.rec.now c.number_of.result
    c.len.result c.as_slice.result.now c.number_of.ensures
    c.in_ok-push.ensures.items c.in_ok-put_u32.ensures.ok c.in_ok-put_u64.ensures.ok c.in_ok-put_fields.ensures.ok
    c.len.ensures c.in_ok-push-2.ensures.items c.as_slice.ensures e)
