use Rattle.std.proofs.Common.{◌≡◌, sym, ◌∙◌, ap, subst, true≢false, Some, None}
use Rattle.std.specs.Prelude.{option_map}
use Rattle.std.proofs.lemmas.Result.{err_from_is_err_and}
use Rattle.ts_thesaurus.specs.Lines.{IsPassed, HasSides, AreFit, indexed_words}
use Rattle.ts_thesaurus.specs.Inner.Reading.{AreWordsFault}
use Rattle.ts_thesaurus.proofs.Cuts.{texts}
use Rattle.ts_thesaurus.proofs.Sides.{asked_texts, bad_by, read_by, fault_by}
use Rattle.ts_thesaurus.proofs.line.read_line.Goals as goal

pub returns-then-not-are_fit-clause-fault : goal.returns-then-not-are_fit-clause-fault
returns-then-not-are_fit-clause-fault g c =
    let counts : ¬ IsPassed c.args.line.now = λ p. true≢false (sym (c.is_passed.ensures.1 p) ∙ c.if-is_passed.false) in
    let sides : HasSides c.args.line.now (texts c.in_ok-sample.sample.items) (texts c.in_ok-indexed.indexed.items) =
    record {
      left = c.in-Some.left.now;
      right = c.in-Some.right.now;
      cut = c.in-Some.ensures.some;
      samples = c.in_ok-sample.ensures;
      words = c.in_ok-indexed.ensures;
    } in
    bad_by (g.D.Dictionary.answer c.args.sub.now) c.args.line.now _ _ counts sides
    (λ words s i e. true≢false (sym (c.are_fit.ensures.1 (subst (λ z. AreFit (texts z)) (sym c.deref.ensures.value) s))
    ∙ c.if-not-are_fit.true))

pub returns-then-not-are_fit-2-clause-fault : goal.returns-then-not-are_fit-2-clause-fault
returns-then-not-are_fit-2-clause-fault g c =
    let counts : ¬ IsPassed c.args.line.now = λ p. true≢false (sym (c.is_passed.ensures.1 p) ∙ c.if-is_passed.false) in
    let sides : HasSides c.args.line.now (texts c.in_ok-sample.sample.items) (texts c.in_ok-indexed.indexed.items) =
    record {
      left = c.in-Some.left.now;
      right = c.in-Some.right.now;
      cut = c.in-Some.ensures.some;
      samples = c.in_ok-sample.ensures;
      words = c.in_ok-indexed.ensures;
    } in
    bad_by (g.D.Dictionary.answer c.args.sub.now) c.args.line.now _ _ counts sides
    (λ words s i e. true≢false (sym (c.are_fit-2.ensures.1
    (subst (λ z. AreFit (texts z)) (sym c.deref-2.ensures.value) i)) ∙ c.if-not-are_fit-2.true))

pub indexed_words-requires : goal.indexed_words-requires
indexed_words-requires g c =
    let fit : AreFit (texts c.in_ok-indexed.indexed.items) =
    subst (λ z. AreFit (texts z)) c.deref-2.ensures.value (c.are_fit-2.ensures.0 c.if-not-are_fit-2.false) in
    rw c.deref-3.ensures.value
    (asked_texts c.in-Some.right.now c.in_ok-indexed.indexed.items c.in_ok-indexed.ensures fit)

pub returns-in_default-2-clause-fault : goal.returns-in_default-2-clause-fault
returns-in_default-2-clause-fault g c =
    let counts : ¬ IsPassed c.args.line.now = λ p. true≢false (sym (c.is_passed.ensures.1 p) ∙ c.if-is_passed.false) in
    let sides : HasSides c.args.line.now (texts c.in_ok-sample.sample.items) (texts c.in_ok-indexed.indexed.items) =
    record {
      left = c.in-Some.left.now;
      right = c.in-Some.right.now;
      cut = c.in-Some.ensures.some;
      samples = c.in_ok-sample.ensures;
      words = c.in_ok-indexed.ensures;
    } in
    bad_by (g.D.Dictionary.answer c.args.sub.now) c.args.line.now _ _ counts sides
    (λ words s i e.
    let x : None ≡ Some words =
    sym (ap (option_map (λ v. v.items)) c.in_default-2.is) ∙ c.in_ok-words.ensures
    ∙ ap (λ z. indexed_words (g.D.Dictionary.answer c.args.sub.now) (texts z)) c.deref-3.ensures.value ∙ e in
    cc)

pub sample_words-requires : goal.sample_words-requires
sample_words-requires g c =
    let fit : AreFit (texts c.in_ok-sample.sample.items) =
    subst (λ z. AreFit (texts z)) c.deref.ensures.value (c.are_fit.ensures.0 c.if-not-are_fit.false) in
    rw c.deref-4.ensures.value (asked_texts c.in-Some.left.now c.in_ok-sample.sample.items c.in_ok-sample.ensures fit)

pub returns-in_err-samples-clause-fault : goal.returns-in_err-samples-clause-fault
returns-in_err-samples-clause-fault g c =
    let p = err_from_is_err_and c.from_residual-in_err-samples.result c.from_residual-in_err-samples.ensures.1 in
    let answer = g.D.Dictionary.answer c.args.sub.now in
    let counts : ¬ IsPassed c.args.line.now = λ p. true≢false (sym (c.is_passed.ensures.1 p) ∙ c.if-is_passed.false) in
    let sides : HasSides c.args.line.now (texts c.in_ok-sample.sample.items) (texts c.in_ok-indexed.indexed.items) =
    record {
      left = c.in-Some.left.now;
      right = c.in-Some.right.now;
      cut = c.in-Some.ensures.some;
      samples = c.in_ok-sample.ensures;
      words = c.in_ok-indexed.ensures;
    } in
    let sample_fit : AreFit (texts c.in_ok-sample.sample.items) =
    subst (λ z. AreFit (texts z)) c.deref.ensures.value (c.are_fit.ensures.0 c.if-not-are_fit.false) in
    let indexed_fit : AreFit (texts c.in_ok-indexed.indexed.items) =
    subst (λ z. AreFit (texts z)) c.deref-2.ensures.value (c.are_fit-2.ensures.0 c.if-not-are_fit-2.false) in
    let given : indexed_words answer (texts c.in_ok-indexed.indexed.items) ≡ Some c.in-Some-2.words.items =
    ap (λ z. indexed_words answer (texts z)) (sym c.deref-3.ensures.value) ∙ sym c.in_ok-words.ensures
    ∙ ap (option_map (λ v. v.items)) c.in-Some-2.is in
    let fault : AreWordsFault answer (texts c.in_ok-sample.sample.items) c.in_err-samples.field-0.0 =
    subst (λ z. AreWordsFault answer (texts z) c.in_err-samples.field-0.0) c.deref-4.ensures.value
    c.in_err-samples.ensures.fault in
    rw (p.1, p.2)
    (fault_by answer c.args.line.now _ _ counts sides c.in-Some-2.words.items c.in_err-samples.field-0.0
    (read_by answer c.args.line.now _ _ counts sides c.in-Some-2.words.items sample_fit indexed_fit given) fault)
