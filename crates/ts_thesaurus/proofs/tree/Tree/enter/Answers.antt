use Rattle.std.proofs.Common.{refl, sym, ◌∙◌, ◌<◌, subst, length, arith, ◌∷◌, [], ◌++◌, set, Some, ◌≡◌}
use Rattle.std.specs.List.{slice_get}
use Rattle.std.proofs.lemmas.List.{length-append}
use Rattle.std.proofs.lemmas.Option.{slice_get_read}
use Rattle.ts_thesaurus.specs.Inner.States.{letter_value, LeadsTo, Enters}
use Rattle.ts_thesaurus.proofs.Entering.{enters_new, enters_old}
use Rattle.ts_thesaurus.proofs.tree.Tree.enter.Goals as goal

pub returns-in-Some : goal.returns-in-Some
returns-in-Some c = enters_old c.args.self.now.states.items c.args.state c.in-Some.next
    (letter_value c.args.letter) c.requires.1 (sym c.step.ensures ∙ c.in-Some.is)

pub returns : goal.returns
returns c =
    let old = c.args.self.now.states.items in
    let blank = c.new.result in
    let before = c.index_mut.result.now in
    let st = c.lead.new.self in
    let l = letter_value c.args.letter in
    let items : c.push.new.self.items ≡ old ++ blank ∷ [] = c.in_ok-push.ensures.items in
    let at : slice_get c.push.new.self.items c.args.state ≡ Some before =
    slice_get_read c.push.new.self.items (length c.push.new.self.items) c.args.state before refl
    (subst (λ z. c.args.state < length z) (sym items)
    (let n = length-append old (blank ∷ []) in let h = c.requires.0 in omega arith)) c.index_mut.ensures.value in
    let len : c.len-next.result ≡ length old = omega (arith, c.len-next.ensures, c.args.self.now.states.ok.0) in
    let leads : LeadsTo before st l (length old) = subst (λ n. LeadsTo before st l n) len c.in_ok-lead.ensures in
    let e =
    enters_new old blank before st c.args.state l c.requires.0 c.new.ensures
    (subst (λ z. slice_get z c.args.state ≡ Some before) items at) leads
    (sym c.step.ensures ∙ c.in_default.is) c.requires.1 in
    subst (λ z. Enters old (set z c.args.state st) c.args.state l c.len-next.result) (sym items)
    (subst (λ n. Enters old (set (old ++ blank ∷ []) c.args.state st) c.args.state l n) (sym len) e)
