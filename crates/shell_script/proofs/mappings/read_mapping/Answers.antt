use Rattle.std.proofs.Common.{◌≡◌, ◌∷◌, map, sym, subst}
use Rattle.std.specs.List.{join_with_byte}
use Rattle.ts_parser.specs.Kinds.{type_name}
use Rattle.shell_script.specs.Tokens.{IsSpelled, word}
use Rattle.shell_script.proofs.Exprs.{missed}
use Rattle.shell_script.proofs.FirstLines.{named_behind}
use Rattle.shell_script.proofs.mappings.read_mapping.Goals as goal

pub returns-in_err-first-clause-none : goal.returns-in_err-first-clause-none
returns-in_err-first-clause-none c =
    let same : c.in-Ok.text.now ≡ c.args.line.now = c.in-Ok.ensures.cases.0 in
    missed c.from_residual.result _ (λ ts ns k.
    c.in_err-first.ensures.none (join_with_byte 44 (map type_name ts)) (map word ns)
    (subst (λ z. IsSpelled z (word (join_with_byte 44 (map type_name ts)) ∷ map word ns)) (sym same) k.spelled))

pub returns-in_err-types-clause-none : goal.returns-in_err-types-clause-none
returns-in_err-types-clause-none c =
    let same : c.in-Ok.text.now ≡ c.args.line.now = c.in-Ok.ensures.cases.0 in
    missed c.from_residual-in_err-types.result _ (λ ts ns k.
    let here =
    subst (λ z. IsSpelled z (word (join_with_byte 44 (map type_name ts)) ∷ map word ns)) (sym same) k.spelled in
    c.in_err-types.ensures.none ts k.some_type (sym (named_behind c.in-Ok.text.now c.in_ok-first.first.now
    c.in_ok-first.rest.now (join_with_byte 44 (map type_name ts)) (map word ns) c.in_ok-first.ensures.some here).0))

pub returns-in_err-names-clause-none : goal.returns-in_err-names-clause-none
returns-in_err-names-clause-none c =
    let same : c.in-Ok.text.now ≡ c.args.line.now = c.in-Ok.ensures.cases.0 in
    missed c.from_residual-in_err-names.result _ (λ ts ns k.
    let here =
    subst (λ z. IsSpelled z (word (join_with_byte 44 (map type_name ts)) ∷ map word ns)) (sym same) k.spelled in
    c.in_err-names.ensures.none ns k.some_name k.named (named_behind c.in-Ok.text.now c.in_ok-first.first.now
    c.in_ok-first.rest.now (join_with_byte 44 (map type_name ts)) (map word ns) c.in_ok-first.ensures.some here).1)
