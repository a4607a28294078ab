use Rattle.std.proofs.Common.{◌≡◌, ℕ, List, Result, Ok, ap, sym, subst, ◌∙◌, rules}
use Rattle.std.specs.Prelude.{Some}
use Rattle.std.specs.List.{slice_get}
use Rattle.std.specs.List.Sorted.{IsBinarySearchResult}
use Rattle.std.specs.Ordering.{nat_cmp}
use Rattle.std.proofs.lemmas.List.Sorted.{answers_always}
use Rattle.std.proofs.lemmas.Option.{slice_get-get_or}
use Rattle.core_state.specs.declared.running.Begun.{Begun}
use Rattle.core_state.proofs.BegunOnes.{search_finds, search_misses, ended_runs_not}
use Rattle.core_state.proofs.running.place_of.Goals as goal

pub returns-in-Ok-clause-some : goal.returns-in-Ok-clause-some
returns-in-Ok-clause-some c =
    let bs : List Begun = c.args.begun.now in
    let b : Begun = c.index-begun-i.result in
    let found : IsBinarySearchResult (λ (b : Begun). nat_cmp b.transaction.xid c.args.xid) bs
    (Ok c.in-Ok.i) =
    c.in-Ok.ensures.position (λ (b : Begun). b.transaction.xid)
    (answers_always _ _ _ (λ f a r g called. search rules)) in
    record {
      begun = b;
      at =
          slice_get-get_or bs c.in-Ok.i b c.in-Ok.ensures.bound
          ∙ ap (λ (k : Begun). Some k) (sym c.index-begun-i.is);
      xid =
          ap (λ (k : Begun). k.transaction.xid) c.index-begun-i.is
          ∙ search_finds bs c.args.xid c.in-Ok.i b found;
      runs = ap (λ (k : Begun). k.runs) c.index-begun-i.is ∙ c.if-begun-i.true;
    }

pub returns-in_default-clause-none : goal.returns-in_default-clause-none
returns-in_default-clause-none c =
    let bs : List Begun = c.args.begun.now in
    let b : Begun = c.index-begun-i.result in
    let found : IsBinarySearchResult (λ (b : Begun). nat_cmp b.transaction.xid c.args.xid) bs
    (Ok c.in-Ok.i) =
    c.in-Ok.ensures.position (λ (b : Begun). b.transaction.xid)
    (answers_always _ _ _ (λ f a r g called. search rules)) in
    let at : slice_get bs c.in-Ok.i ≡ Some b =
    slice_get-get_or bs c.in-Ok.i b c.in-Ok.ensures.bound
    ∙ ap (λ (k : Begun). Some k) (sym c.index-begun-i.is) in
    let xid : b.transaction.xid ≡ c.args.xid =
    ap (λ (k : Begun). k.transaction.xid) c.index-begun-i.is
    ∙ search_finds bs c.args.xid c.in-Ok.i b found in
    ended_runs_not bs 0 c.args.xid c.in-Ok.i b c.requires at xid
    (ap (λ (k : Begun). k.runs) c.index-begun-i.is ∙ c.if-begun-i.false)

pub returns-in_default-2-clause-none : goal.returns-in_default-2-clause-none
returns-in_default-2-clause-none c =
    let bs : List Begun = c.args.begun.now in
    let missed : IsBinarySearchResult
    (λ (b : Begun). nat_cmp b.transaction.xid c.args.xid) bs c.binary_search_by_key.result =
    c.binary_search_by_key.ensures.position (λ (b : Begun). b.transaction.xid)
    (answers_always _ _ _ (λ f a r g called. search rules)) in
    search_misses bs c.args.xid c.in_default.field-0 c.requires
    (subst
    (λ (r : Result ℕ ℕ). IsBinarySearchResult
    (λ (b : Begun). nat_cmp b.transaction.xid c.args.xid) bs r) c.in_default.is missed)
