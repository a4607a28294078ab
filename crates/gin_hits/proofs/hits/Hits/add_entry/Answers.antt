use Rattle.std.proofs.Common.{◌≡◌, ◌≤◌, ◌∙◌, ◌++◌, ℕ, List, length, map, take, refl, sym, ap, subst, arith}
use Rattle.std.proofs.lemmas.List.{length-map, length-set, take_all}
use Rattle.page_types.specs.Items.{items_of}
use Rattle.entry_tree.specs.Adding.{list_entry}
use Rattle.gin_opclass.specs.Class.{Asked}
use Rattle.gin_hits.specs.Rows.{asked_by, lists_of}
use Rattle.gin_hits.specs.declared.hits.Hits.{Hits}
use Rattle.gin_hits.proofs.AddedLists.{added, step_some, step_none}
use Rattle.gin_hits.proofs.AddedEntries.{adds_for, adds_fitting, adds_none, fits_told, last_part, noted_entry}
use Rattle.gin_hits.proofs.hits.Hits.add_entry.Goals as goal
use Rattle.gin_hits.proofs.hits.Hits.add_entry.Goals.{then-fits+in_ok-extend_from_slice, else-fits}

pub loop-k-preserved : goal.loop-k-preserved
loop-k-preserved c =
    let asked = c.args.asked.now in
    let bytes = c.args.list.now in
    let e = list_entry c.args.key.now bytes in
    let old = lists_of c.args.self.now in
    let now = c.loop-k.self in
    let k = c.loop-k.k in
    let was = c.loop-k.invariant in
    let a = c.index-asked-k.result in
    let told = fits_told c.args.key.now a c.fits.result c.as_slice.result.now c.as_slice.ensures.value c.fits.ensures in
    elim c.if-fits.branch [
      | then-fits+in_ok-extend_from_slice w ↦
          let v = w.index_mut.result.now in
          let one = w.extend_from_slice.new.self in
          let lists = ap (λ (h : Hits). h.by_key.items) w.self-is in
          let part = last_part w.as_slice-then-fits.result.now c.args.self.now.any.items (items_of bytes)
          c.len-from.result (w.as_slice-then-fits.ensures.value ∙ ap (λ x. x.items) was.any ∙ c.in_ok-add_list.ensures)
          (omega (arith, c.len-from.ensures, c.args.self.now.any.ok.0)) in
          record {
            lists = ap length lists ∙ length-set now.by_key.items k one ∙ was.lists;
            any = ap (λ (h : Hits). h.any) w.self-is ∙ was.any;
            within = subst (λ (h : Hits). c.len-from.result ≤ length h.any.items) (sym w.self-is) was.within;
            by_key = step_some (adds_for e) asked old now k a c.loop-k-test.true c.index-asked-k.is was.lists was.by_key
                (items_of bytes) v one c.if-fits.self w.index_mut.ensures.value
                (w.in_ok-extend_from_slice.ensures.items ∙ ap (λ (xs : List ℕ). v.items ++ xs) part)
                (adds_fitting e bytes refl (asked_by a) (told ∙ w.if-fits.true)) lists;
          }
      | else-fits w ↦ record {
        lists = ap (λ (h : Hits). length h.by_key.items) w.self-is ∙ was.lists;
        any = ap (λ (h : Hits). h.any) w.self-is ∙ was.any;
        within = subst (λ (h : Hits). c.len-from.result ≤ length h.any.items) (sym w.self-is) was.within;
        by_key = ap lists_of w.self-is
            ∙ step_none (adds_for e) asked old now k a c.loop-k-test.true c.index-asked-k.is was.lists was.by_key
            (adds_none e bytes refl (asked_by a) (told ∙ w.if-fits.false));
      }
    ]

pub returns-clause-noted : goal.returns-clause-noted
returns-clause-noted c =
    let asked = c.args.asked.now in
    let e = list_entry c.args.key.now c.args.list.now in
    let was = c.loop-k.invariant in
    let all : take c.loop-k.k (map asked_by asked) ≡ map asked_by asked
    = take_all c.loop-k.k (map asked_by asked) (omega (arith, length-map asked asked_by, c.loop-k-test.false)) in
    λ es noted. noted_entry (map asked_by asked) es e c.args.list.now c.args.self.now c.loop-k.self refl
    (ap (λ v. v.items) was.any ∙ c.in_ok-add_list.ensures)
    (was.by_key ∙ ap (λ (as' : List Asked). added (adds_for e) as' (lists_of c.args.self.now)) all) noted
