use Rattle.std.proofs.Common.{◌≡◌, ◌∙◌, List, length, map, take, refl, ap, arith}
use Rattle.std.proofs.lemmas.List.{length-map, length-set, take_all}
use Rattle.page_types.specs.Parts.{row_shown}
use Rattle.gin_opclass.specs.Class.{Asked}
use Rattle.gin_hits.specs.Rows.{asked_by, lists_of}
use Rattle.gin_hits.specs.declared.hits.Hits.{Hits}
use Rattle.gin_hits.proofs.AddedRows.{added, step_fitting, step_other, fits_told, noted_row}
use Rattle.gin_hits.proofs.hits.Hits.add_row.Goals as goal
use Rattle.gin_hits.proofs.hits.Hits.add_row.Goals.{then-has_fitting+in_ok-push-2, else-has_fitting}

pub loop-k-init : goal.loop-k-init
loop-k-init g c = record { lists = c.requires.lists; any = refl; by_key = refl }

pub loop-k-preserved : goal.loop-k-preserved
loop-k-preserved g c =
    let asked = c.args.asked.now in
    let row = row_shown c.args.row in
    let old = lists_of c.args.self.now in
    let now = c.loop-k.self in
    let k = c.loop-k.k in
    let was = c.loop-k.invariant in
    let a = c.index-asked-k.result in
    let told = fits_told asked row old now k a c.loop-k-test.true c.index-asked-k.is was.lists was.by_key
    c.has_fitting.result c.index-asked-k.result c.as_slice.result.now c.index-asked-k.is
    c.as_slice.ensures.value c.has_fitting.ensures in
    elim c.if-has_fitting.branch [
      | then-has_fitting+in_ok-push-2 w ↦
          let v = w.index_mut.result.now in
          let one = w.push-then-has_fitting.new.self in
          let lists = ap (λ (h : Hits). h.by_key.items) w.self-is in
          record {
            lists = ap length lists ∙ length-set now.by_key.items k one ∙ was.lists;
            any = ap (λ (h : Hits). h.any) w.self-is ∙ was.any;
            by_key = step_fitting asked row old now k a c.loop-k-test.true c.index-asked-k.is was.lists was.by_key v one
                c.if-has_fitting.self w.index_mut.ensures.value w.in_ok-push-2.ensures.items
                (told ∙ w.if-has_fitting.true) lists;
          }
      | else-has_fitting w ↦ record {
        lists = ap (λ (h : Hits). length h.by_key.items) w.self-is ∙ was.lists;
        any = ap (λ (h : Hits). h.any) w.self-is ∙ was.any;
        by_key = ap lists_of w.self-is
            ∙ step_other asked row old now k a c.loop-k-test.true c.index-asked-k.is was.lists was.by_key
            (told ∙ w.if-has_fitting.false);
      }
    ]

pub returns-clause-noted : goal.returns-clause-noted
returns-clause-noted g c =
    let asked = c.args.asked.now in
    let row = row_shown c.args.row in
    let was = c.loop-k.invariant in
    let all : take c.loop-k.k (map asked_by asked) ≡ map asked_by asked
    = take_all c.loop-k.k (map asked_by asked) (omega (arith, length-map asked asked_by, c.loop-k-test.false)) in
    λ rows noted. noted_row (map asked_by asked) rows row c.args.self.now c.loop-k.self
    (ap (λ v. v.items) was.any ∙ c.in_ok-push.ensures.items)
    (was.by_key ∙ ap (λ (as' : List Asked). added as' row (lists_of c.args.self.now)) all) noted
