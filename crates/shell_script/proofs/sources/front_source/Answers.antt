use Rattle.std.specs.String.{string_bytes}
use Rattle.shell_script.proofs.Made.{made_front, text_front, no_text, no_source, no_made}
use Rattle.shell_script.proofs.sources.front_source.Goals as goal

pub returns-in_default-2-clause-none : goal.returns-in_default-2-clause-none
returns-in_default-2-clause-none c =
    let no = rw c.in_default-2.is at c.in_ok-text.ensures.none in
    no_text c.args.text.now c.in-Some.rest.now c.in-Some.ensures.some no

pub returns-in-Some-clause-some : goal.returns-in-Some-clause-some
returns-in-Some-clause-some c =
    let found = rw c.in-Some-2.is at c.in_ok-text.ensures.some in (
      tt,
      text_front c.args.text.now c.in-Some.rest.now c.in-Some-2.rest.now
          (string_bytes c.in-Some-2.text) c.in-Some.ensures.some found,
    )

pub returns-in_default-front_name-clause-none : goal.returns-in_default-front_name-clause-none
returns-in_default-front_name-clause-none c =
    no_source c.args.text.now c.in_default.ensures.none c.in_default-front_name.ensures.none

pub returns-in-Some-3-clause-some : goal.returns-in-Some-3-clause-some
returns-in-Some-3-clause-some c =
    let weight = c.front_weight-weight in
    let found = rw c.in-Some-3.is at c.in_ok-text-2.ensures.some in (
      c.in-Some-front_name.ensures.name,
      made_front c.args.text.now c.in-Some-front_name.config.now
          c.in-Some-front_name.rest.now weight.result.1.now c.in-Some-3.rest.now
          (string_bytes c.in-Some-3.text) weight.result.0 c.in-Some-front_name.ensures.front weight.ensures.front found,
    )

pub returns-in-None-clause-none : goal.returns-in-None-clause-none
returns-in-None-clause-none c =
    let weight = c.front_weight-weight in
    let no = rw c.in-None.is at c.in_ok-text-2.ensures.none in
    no_made c.args.text.now c.in-Some-front_name.config.now c.in-Some-front_name.rest.now weight.result.1.now
    weight.result.0 c.in_default.ensures.none c.in-Some-front_name.ensures.front weight.ensures.front
    weight.ensures.first no
