use Rattle.std.proofs.Common.{◌≡◌, codes, sym, subst}
use Rattle.std.specs.Str.{IsUtf8}
use Rattle.shell_script.specs.Tokens.{IsSpelled}
use Rattle.shell_script.specs.OpeningLines.{IsOpeningLine, opening_tokens, dictionary_opening, configuration_opening}
use Rattle.shell_script.specs.OpeningLineView.{kind}
use Rattle.shell_script.proofs.Openings.{bytes_same}
use Rattle.shell_script.proofs.FirstLines.{opening_first, dictionary_outside, dictionary_is, configuration_is}
use Rattle.shell_script.proofs.opening_lines.read_opening_line.Goals as goal

pub returns-in_default-front_word-clause-none : goal.returns-in_default-front_word-clause-none
returns-in_default-front_word-clause-none c = λ h k.
    let same : c.in-Ok.text.now ≡ c.args.line.now = c.in-Ok.ensures.cases.0 in
    let f = opening_first h in
    c.in_default-front_word.ensures.none f.0 f.1
    (subst (IsSpelled c.in-Ok.text.now) f.2 (subst (λ z. IsSpelled z (opening_tokens h)) (sym same) k.spelled))

pub returns-in_default-name_and_kind-clause-none : goal.returns-in_default-name_and_kind-clause-none
returns-in_default-name_and_kind-clause-none c = λ h k.
    let same : c.in-Ok.text.now ≡ c.args.line.now = c.in-Ok.ensures.cases.0 in
    dictionary_outside c.in-Ok.text.now c.in-Some.first.now c.in-Some.rest.now c.in-Some.ensures.some
    (bytes_same c.in-Some.first.now (codes "dictionary") (sym c.if-eq.ensures))
    c.in_default-name_and_kind.ensures.none h
    (subst (λ z. IsOpeningLine z h) (sym same) k)

pub returns-then-eq-clause-some : goal.returns-then-eq-clause-some
returns-then-eq-clause-some c =
    let same : c.in-Ok.text.now ≡ c.args.line.now = c.in-Ok.ensures.cases.0 in
    let utf8 : IsUtf8 c.in-Ok.text.now = subst IsUtf8 (sym same) c.in-Ok.ensures.cases.1 in
    let found = c.in-Some-name_and_kind.ensures.some in
    subst (λ z. IsOpeningLine z (dictionary_opening c.in-Some-name_and_kind.name.now (kind c.in-Some-name_and_kind.kind)))
    same
    (dictionary_is c.in-Ok.text.now c.in-Some.first.now c.in-Some.rest.now c.in-Some-name_and_kind.name.now
    (kind c.in-Some-name_and_kind.kind) utf8 c.in-Some.ensures.some
    (bytes_same c.in-Some.first.now (codes "dictionary") (sym c.if-eq.ensures)) found.0 found.1 found.2)

pub returns-then-eq-2-clause-some : goal.returns-then-eq-2-clause-some
returns-then-eq-2-clause-some c =
    let same : c.in-Ok.text.now ≡ c.args.line.now = c.in-Ok.ensures.cases.0 in
    let utf8 : IsUtf8 c.in-Ok.text.now = subst IsUtf8 (sym same) c.in-Ok.ensures.cases.1 in
    let found = c.in-Some-name_alone.ensures.some in
    subst (λ z. IsOpeningLine z (configuration_opening c.in-Some-name_alone.name.now)) same
    (configuration_is c.in-Ok.text.now c.in-Some.first.now c.in-Some.rest.now
    c.in-Some-name_alone.name.now utf8 c.in-Some.ensures.some
    (bytes_same c.in-Some.first.now (codes "configuration") (sym c.if-eq-2.ensures)) found.0 found.1)
