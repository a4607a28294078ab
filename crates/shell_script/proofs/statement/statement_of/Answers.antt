use Rattle.std.proofs.Common.{◌≡◌, sym, subst}
use Rattle.std.specs.Str.{IsUtf8}
use Rattle.shell_script.specs.Inner.Said.{IsSaidBehind}
use Rattle.shell_script.specs.StatementView.{statement}
use Rattle.shell_script.proofs.Saying.{said_by_label, none_by_label, none_by_no_word, none_plainly}
use Rattle.shell_script.proofs.statement.statement_of.Goals as goal

pub returns-in-None-clause-none : goal.returns-in-None-clause-none
returns-in-None-clause-none c = λ s a k.
    let first = c.args.first.now in
    let same : c.in-Ok.rest.now ≡ c.args.rest.now = c.in-Ok.ensures.cases.0 in
    let no = rw c.in-None.is at c.in_ok-statement.ensures.none in
    none_plainly first c.in-Ok.rest.now c.in_default-session_number.ensures.none no s a
    (subst (λ r. IsSaidBehind first r s a) (sym same) k)

pub returns-in_default-front_word-clause-none : goal.returns-in_default-front_word-clause-none
returns-in_default-front_word-clause-none c = λ s a k.
    let first = c.args.first.now in
    let same : c.in-Ok.rest.now ≡ c.args.rest.now = c.in-Ok.ensures.cases.0 in
    none_by_no_word first c.in-Ok.rest.now c.in-Some.session c.in-Some.ensures.some.1
    c.in_default-front_word.ensures.none s a (subst (λ r. IsSaidBehind first r s a) (sym same) k)

pub returns-in-Some-3-clause-some : goal.returns-in-Some-3-clause-some
returns-in-Some-3-clause-some c =
    let first = c.args.first.now in
    let same : c.in-Ok.rest.now ≡ c.args.rest.now = c.in-Ok.ensures.cases.0 in
    let utf8 : IsUtf8 c.in-Ok.rest.now = subst IsUtf8 (sym same) c.in-Ok.ensures.cases.1 in
    let said = rw c.as_bytes.ensures.value at c.in_ok-statement-2.ensures.some in
    let found = rw c.in-Some-3.is at said in
    subst (λ r. IsSaidBehind first r c.in-Some.session (statement c.in-Some-3.statement)) same
    (said_by_label first c.in-Ok.rest.now c.in-Some-front_word.word.now c.in-Some-front_word.rest.now c.in-Some.session
    (statement c.in-Some-3.statement) utf8 c.in-Some.ensures.some.0 c.in-Some.ensures.some.1
    c.in-Some-front_word.ensures.some found)

pub returns-in-None-2-clause-none : goal.returns-in-None-2-clause-none
returns-in-None-2-clause-none c = λ s a k.
    let first = c.args.first.now in
    let same : c.in-Ok.rest.now ≡ c.args.rest.now = c.in-Ok.ensures.cases.0 in
    let none = rw c.as_bytes.ensures.value at c.in_ok-statement-2.ensures.none in
    let no = rw c.in-None-2.is at none in
    none_by_label first c.in-Ok.rest.now c.in-Some-front_word.word.now c.in-Some-front_word.rest.now
    c.in-Some.session c.in-Some.ensures.some.1 c.in-Some-front_word.ensures.some no s a
    (subst (λ r. IsSaidBehind first r s a) (sym same) k)
