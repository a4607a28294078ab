use Rattle.shell_script.proofs.DocTexts.{AreParts, not_cut, rest_not_cut, bad_page, bad_slot, bad_serial}
use Rattle.shell_script.proofs.docs.doc_in.Goals as goal

pub returns-in_default-clause-none : goal.returns-in_default-clause-none
returns-in_default-clause-none c = λ d h is. not_cut c.args.text.now d h is c.in_default.ensures.none

pub returns-in_default-cut_at-clause-none : goal.returns-in_default-cut_at-clause-none
returns-in_default-cut_at-clause-none c = λ d h is.
    rest_not_cut c.args.text.now c.in-Some.first.now c.in-Some.rest.now d h is c.in-Some.ensures.some.0
    c.in-Some.ensures.some.1 c.in_default-cut_at.ensures.none

pub returns-in_default-number_of-clause-none : goal.returns-in_default-number_of-clause-none
returns-in_default-number_of-clause-none c = λ d h is.
    bad_page c.args.text.now c.in-Some.first.now c.in-Some.rest.now d h is c.in-Some.ensures.some.0
    c.in-Some.ensures.some.1 c.in_default-number_of.ensures.none

pub returns-in_default-number_of-2-clause-none : goal.returns-in_default-number_of-2-clause-none
returns-in_default-number_of-2-clause-none c = λ d h is.
    let p : AreParts c.args.text.now c.in-Some.first.now c.in-Some-cut_at.second.now c.in-Some-cut_at.third.now =
    record {
      rest = c.in-Some.rest.now;
      first = c.in-Some.ensures.some.0;
      first_free = c.in-Some.ensures.some.1;
      second = c.in-Some-cut_at.ensures.some.0;
      second_free = c.in-Some-cut_at.ensures.some.1;
    } in
    bad_slot c.args.text.now c.in-Some.first.now c.in-Some-cut_at.second.now c.in-Some-cut_at.third.now d h is p
    c.in_default-number_of-2.ensures.none

pub returns-in_default-number_of-3-clause-none : goal.returns-in_default-number_of-3-clause-none
returns-in_default-number_of-3-clause-none c = λ d h is.
    let p : AreParts c.args.text.now c.in-Some.first.now c.in-Some-cut_at.second.now c.in-Some-cut_at.third.now =
    record {
      rest = c.in-Some.rest.now;
      first = c.in-Some.ensures.some.0;
      first_free = c.in-Some.ensures.some.1;
      second = c.in-Some-cut_at.ensures.some.0;
      second_free = c.in-Some-cut_at.ensures.some.1;
    } in
    bad_serial c.args.text.now c.in-Some.first.now c.in-Some-cut_at.second.now c.in-Some-cut_at.third.now d h is p
    c.in_default-number_of-3.ensures.none
