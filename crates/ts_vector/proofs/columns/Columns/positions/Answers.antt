use Rattle.std.proofs.Common.{◌≡◌, length, ap, sym, ◌∙◌, arith}
use Rattle.ts_base.specs.Vectors.{Entry}
use Rattle.ts_vector.specs.declared.columns.Ends.{Ends}
use Rattle.ts_vector.specs.Inner.Columns.{origin, start_from, piece}
use Rattle.std.proofs.Common.{get_or}
use Rattle.ts_vector.proofs.ColumnFacts.{within, cut_at, cut_bounds}
use Rattle.ts_vector.proofs.columns.Columns.positions.Goals as goal

pub bounds-requires : goal.bounds-requires
bounds-requires c =
    let f = c.self.inside in
    omega (
      arith,
      within f.lexemes.items f.positions.items f.ends.items c.args.self.now c.self.view_is c.args.k c.requires,
      ap length c.as_slice.ensures.value,
    )

pub part-requires-clause-start : goal.part-requires-clause-start
part-requires-clause-start c =
    let f = c.self.inside in
    let from : (d : Ends) → c.bounds.result.0 ≡ start_from origin f.ends.items c.args.k d =
    λ d. c.bounds.ensures.start d ∙ ap (λ es. start_from origin es c.args.k d) c.as_slice.ensures.value in
    let to : (d : Ends) → c.bounds.result.1 ≡ get_or f.ends.items c.args.k d =
    λ d. c.bounds.ensures.end d ∙ ap (λ es. get_or es c.args.k d) c.as_slice.ensures.value in
    let b = cut_bounds f.lexemes.items f.positions.items f.ends.items c.args.self.now c.self.view_is c.args.k c.requires
    c.bounds.result.0 c.bounds.result.1 from to c.self.invariant in
    b.2

pub part-requires-clause-end : goal.part-requires-clause-end
part-requires-clause-end c =
    let f = c.self.inside in
    let from : (d : Ends) → c.bounds.result.0 ≡ start_from origin f.ends.items c.args.k d =
    λ d. c.bounds.ensures.start d ∙ ap (λ es. start_from origin es c.args.k d) c.as_slice.ensures.value in
    let to : (d : Ends) → c.bounds.result.1 ≡ get_or f.ends.items c.args.k d =
    λ d. c.bounds.ensures.end d ∙ ap (λ es. get_or es c.args.k d) c.as_slice.ensures.value in
    let b = cut_bounds f.lexemes.items f.positions.items f.ends.items c.args.self.now c.self.view_is c.args.k c.requires
    c.bounds.result.0 c.bounds.result.1 from to c.self.invariant in
    omega (arith, b.3, ap length c.as_slice-2.ensures.value)

pub returns : goal.returns
returns c = λ d.
    let f = c.self.inside in
    let from : (d : Ends) → c.bounds.result.0 ≡ start_from origin f.ends.items c.args.k d =
    λ d. c.bounds.ensures.start d ∙ ap (λ es. start_from origin es c.args.k d) c.as_slice.ensures.value in
    let to : (d : Ends) → c.bounds.result.1 ≡ get_or f.ends.items c.args.k d =
    λ d. c.bounds.ensures.end d ∙ ap (λ es. get_or es c.args.k d) c.as_slice.ensures.value in
    let cut = cut_at f.lexemes.items f.positions.items f.ends.items c.args.self.now c.self.view_is c.args.k c.requires
    c.bounds.result.0 c.bounds.result.1 from to d in
    c.part.ensures ∙ ap (piece c.bounds.result.0.positions c.bounds.result.1.positions) c.as_slice-2.ensures.value
    ∙ sym (ap (λ (e : Entry). e.positions) cut)
