use Rattle.std.proofs.Common.{◌≡◌, ◌∙◌, ap, subst, sym, true, get_or}
use Rattle.std.specs.Prelude.{slice_set}
use Rattle.ts_parser.specs.declared.kinds.TokenType.TheVariants.{Asciiword}
use Rattle.ts_config.specs.Mappings.{with_list}
use Rattle.ts_config.proofs.Mappings.{AreMarked, mapped_next, marked_more}
use Rattle.ts_config.proofs.config.Config.map.Goals as goal
use Rattle.ts_config.proofs.config.Config.map.Goals.{then-not-seen-index+in_ok-from_slice, else-not-seen-index}

pub loop-kind-preserved : goal.loop-kind-preserved
loop-kind-preserved c =
    let m = c.loop-kind.self in
    let index = c.type_index-index.result in
    let places = c.args.places.now in
    let kind = get_or c.args.kinds.now c.loop-kind.kind-index Asciiword in
    let next = mapped_next c.args.kinds.now c.loop-kind.kind-index Asciiword places c.args.self.now m
    c.loop-kind-test.true c.loop-kind.invariant.value in
    let here : slice_set m index places ≡ with_list m kind places =
    ap (λ n. slice_set m n places) c.type_index-index.ensures.place in
    elim c.if-not-seen-index.branch [
      | then-not-seen-index+in_ok-from_slice w ↦
          (let set : c.if-not-seen-index.self ≡ with_list m kind places =
          w.self-is ∙ w.set.ensures ∙ ap (λ l. with_list m kind l) w.in_ok-from_slice.ensures.items in
          record {
            value = set ∙ next;
            marked = subst (λ s. AreMarked s places c.if-not-seen-index.self) (sym w.seen-is)
                (subst (AreMarked (slice_set c.loop-kind.seen index true) places) (here ∙ sym set)
                (marked_more c.loop-kind.seen places m index c.loop-kind.invariant.marked));
          })
      | else-not-seen-index w ↦ record {
        value = w.self-is ∙ sym (c.loop-kind.invariant.marked index w.if-not-seen-index.false) ∙ here ∙ next;
        marked = subst (λ s. AreMarked s places c.if-not-seen-index.self) (sym w.seen-is)
            (subst (AreMarked c.loop-kind.seen places) (sym w.self-is) c.loop-kind.invariant.marked);
      }
    ]
