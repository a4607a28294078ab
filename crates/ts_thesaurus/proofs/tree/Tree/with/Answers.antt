use Rattle.std.proofs.Common.{refl, sym, subst, length, map, arith, Some}
use Rattle.std.proofs.lemmas.List.{length-map}
use Rattle.std.proofs.lemmas.Option.{slice_get_read}
use Rattle.ts_thesaurus.specs.Views.{sample_value, rule_value}
use Rattle.ts_thesaurus.specs.Inner.States.{EntersSamples}
use Rattle.ts_thesaurus.proofs.Entering.{samples_stand}
use Rattle.ts_thesaurus.proofs.Joining.{root_tree, joined, marks}
use Rattle.ts_thesaurus.proofs.tree.Tree.with.Goals as goal

pub enter_samples-requires : goal.enter_samples-requires
enter_samples-requires c =
    let root = root_tree (map rule_value c.args.rules.now) c.args.self.states.items c.in_ok-tree.tree.states.items
    c.in_ok-tree.ensures c.requires in
    (root.0, root.1.tree.within)

pub index_mut-requires : goal.index_mut-requires
index_mut-requires c =
    let root = root_tree (map rule_value c.args.rules.now) c.args.self.states.items c.in_ok-tree.tree.states.items
    c.in_ok-tree.ensures c.requires in
    let stands = samples_stand (map sample_value c.deref.result.now) c.in_ok-tree.tree.states.items
    c.enter_samples.new.self.states.items 0 c.in_ok-end.end c.in_ok-end.ensures (root.0, root.1.tree.within) in
    omega (arith, stands.0, c.enter_samples.new.self.states.ok.0)

pub returns : goal.returns
returns c =
    let rules = map rule_value c.args.rules.now in
    let old = c.in_ok-tree.tree.states.items in
    let states = c.enter_samples.new.self.states.items in
    let before = c.index_mut.result.now in
    let place = length c.args.rules.now in
    let root = root_tree rules c.args.self.states.items old c.in_ok-tree.ensures c.requires in
    let stands = samples_stand (map sample_value c.deref.result.now) old states 0 c.in_ok-end.end c.in_ok-end.ensures
    (root.0, root.1.tree.within) in
    let enters : EntersSamples old states 0 (rule_value c.args.rule.now).samples c.in_ok-end.end =
    subst (λ z. EntersSamples old states 0 (map sample_value z) c.in_ok-end.end) c.deref.ensures.value
    c.in_ok-end.ensures in
    joined states c.in_ok-end.end before
    (record { stop = before.stop; words = before.words; end = before.end; last = Some place }) place stands.0
    (slice_get_read states (length states) c.in_ok-end.end before refl stands.0 c.index_mut.ensures.value)
    (marks before place) rules (rule_value c.args.rule.now) old root.0 root.1 enters
    (sym (length-map c.args.rules.now rule_value))
