-- The items that may be kept are judged.
use Rattle.std.proofs.Common.{◌≡◌, ◌∙◌, length, sym, arith}
use Rattle.gin_opclass.specs.Class.{meaning}
use Rattle.gin_hits.proofs.KeptItems.{judged_by}
use Rattle.gin_hits.proofs.judged.judge_met.Goals as goal

pub add_kept-requires : goal.add_kept-requires
add_kept-requires g c =
    let p = c.requires.pending in
    let m = c.requires.main in
    let count : length c.in_ok-judging.judging.values.items ≡ length c.args.pending.now.by_key.items =
    omega (arith, c.in_ok-judging.ensures, c.len.ensures, c.args.pending.now.by_key.ok.0) in record {
      serves = c.requires.serves;
      each = count ∙ p.0;
      pending = (sym count, p.1);
      main = (m.0 ∙ sym p.0 ∙ sym count, m.1);
      any = c.requires.any;
    }

pub returns-clause-judged : goal.returns-clause-judged
returns-clause-judged g c =
    judged_by (meaning g.W.Meaning.asked g.W.Meaning.all g.W.Meaning.satisfies g.W.Meaning.judged) c.args.query.now
    c.args.all c.args.pending.now c.args.main.now c.args.first_item c.args.kept.now.items c.add_kept.new.kept.items
    c.in_ok-items.items.items c.as_slice.result.now c.add_kept.result c.as_slice.ensures.value
    c.in_ok-items.ensures.rising c.in_ok-items.ensures.just c.add_kept.ensures.kept
