use Rattle.std.proofs.Common.{◌-◌, ℕ, List, ◌++◌, length, ap, ◌∙◌, arith}
use Rattle.page_types.specs.Writing.{overwritten}
use Rattle.page_types.specs.Records.{record_rest, record_bytes}
use Rattle.page_types.proofs.RecordTelling.{length-record_rest}
use Rattle.record_code.proofs.Patching.{sizes, whole_patched}
use Rattle.record_code.proofs.writing.put_record.Goals as goal

pub overflow_sub-size-2 : goal.overflow_sub-size-2
overflow_sub-size-2 c =
    let is =
    c.in_ok-put_rest.ensures.ok ∙ ap (λ (l : List ℕ). l ++ record_rest c.args.rec.now) c.in_ok-put_u32.ensures.ok in
    (sizes c.args.out.now.items (record_rest c.args.rec.now) c.put_rest.new.out.items c.len.result c.len-start.result is
    (c.len.ensures ∙ c.put_rest.new.out.ok.0) (c.len-start.ensures ∙ c.args.out.now.ok.0)).enough

pub overflow_cast-size : goal.overflow_cast-size
overflow_cast-size c =
    let is =
    c.in_ok-put_rest.ensures.ok ∙ ap (λ (l : List ℕ). l ++ record_rest c.args.rec.now) c.in_ok-put_u32.ensures.ok in
    let known = sizes c.args.out.now.items (record_rest c.args.rec.now) c.put_rest.new.out.items c.len.result
    c.len-start.result is (c.len.ensures ∙ c.put_rest.new.out.ok.0) (c.len-start.ensures ∙ c.args.out.now.ok.0) in
    omega (arith, known.size, length-record_rest c.args.rec.now c.requires)

pub put-requires : goal.put-requires
put-requires c =
    let is =
    c.in_ok-put_rest.ensures.ok ∙ ap (λ (l : List ℕ). l ++ record_rest c.args.rec.now) c.in_ok-put_u32.ensures.ok in
    let known = sizes c.args.out.now.items (record_rest c.args.rec.now) c.put_rest.new.out.items c.len.result
    c.len-start.result is (c.len.ensures ∙ c.put_rest.new.out.ok.0) (c.len-start.ensures ∙ c.args.out.now.ok.0) in
    omega (arith, known.room, ap length c.to_le_bytes.ensures, ap length c.as_mut_slice.ensures.value)

pub returns-clause-ok : goal.returns-clause-ok
returns-clause-ok c =
    let is =
    c.in_ok-put_rest.ensures.ok ∙ ap (λ (l : List ℕ). l ++ record_rest c.args.rec.now) c.in_ok-put_u32.ensures.ok in
    let at = c.len-start.ensures ∙ c.args.out.now.ok.0 in
    let known = sizes c.args.out.now.items (record_rest c.args.rec.now) c.put_rest.new.out.items c.len.result
    c.len-start.result is (c.len.ensures ∙ c.put_rest.new.out.ok.0) at in
    whole_patched c.args.rec.now c.args.out.now.items c.to_le_bytes.result
    c.put_rest.new.out.items c.put.new.out c.len-start.result
    (c.len.result - c.len-start.result - 4) c.put_rest.new.out.len is at known.size c.to_le_bytes.ensures
    (c.put.ensures ∙ ap (overwritten c.len-start.result c.to_le_bytes.result) c.as_mut_slice.ensures.value)
    c.put_rest.new.out.ok.0

pub returns-clause-grows : goal.returns-clause-grows
returns-clause-grows c = (record_bytes c.args.rec.now, returns-clause-ok c)
