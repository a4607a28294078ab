-- The chains of documents where no record of these kinds changes them, by the places of pages.
use Rattle.std.proofs.Common.{◌≡◌, ℕ, sym, subst, ◌∙◌}
use Rattle.std.specs.Prelude.{◌↔◌}
use Rattle.page_types.specs.declared.record.Record.{Record}
use Rattle.page_types.specs.declared.record.Kind.{Kind}
use Rattle.core_state.specs.Log.{Log, Pages}
use Rattle.core_state.specs.Inner.PageKinds.{IsOverflow, IsPending}
use Rattle.core_state.specs.Inner.ItemChains.{AreOverflows, ArePrivates}
use Rattle.core_state.specs.Inner.Ghosts.{Place, Ghost}
use Rattle.core_state.specs.Inner.Ghosts.Place.{line, overflow_of, private_of}
use Rattle.core_state.specs.Inner.Kinds.{Fits, AreChained}
use Rattle.core_state.proofs.ChainRows.{LeavesOverflows, LeavesPrivates, overflows_stay, privates_stay}
use Rattle.core_state.proofs.Law.Invariant.{Inv}
use Rattle.core_state.proofs.Law.Steps.{Left}

same_overflow : (i j : ℕ) → overflow_of i ≡ overflow_of j → i ≡ j
same_overflow i j e = cc

same_private : (i j : ℕ) → private_of i ≡ private_of j → i ≡ j
same_private i j e = cc

module _ (n L : ℕ) (R : Log) (P : Pages) (g : Ghost) (v : Inv n L R P g) where
  pub overflows : AreOverflows P (λ i q. g.place q ≡ overflow_of i)
  overflows = record {
    chains = v.chained.overflow;
    fits = λ i q e.
        let f : Fits L (overflow_of i) (P q) = subst (λ (x : Place). Fits L x (P q)) e (v.kinds q) in
        subst IsOverflow (sym f.1) tt;
    one = λ i j q e f. same_overflow i j (sym e ∙ f);
  }

  pub privates : ArePrivates P g.line (λ i q. g.place q ≡ private_of i)
  privates = record {
    chains = v.chained.private;
    fits = λ i q e.
        let f : Fits L (private_of i) (P q) = subst (λ (x : Place). Fits L x (P q)) e (v.kinds q) in
        subst IsPending (sym f.1) tt;
    one = λ i j q e f. same_private i j (sym e ∙ f);
    is_line = v.lined.is_line;
    apart = λ i q e on. let f : line ≡ private_of i = sym ((v.lined.on q).0 on) ∙ e in cc;
  }

module _ (n since L : ℕ) (R : Log) (P Q : Pages) (r : Record) (g : Ghost) (v : Inv n L R P g)
    (l : Left n since R P Q r) (g' : Ghost) where
  -- both chains stay with their places
  pub chained_stay : (k : Kind) → r.kind ≡ k → LeavesOverflows k → LeavesPrivates k
      → ((i q : ℕ) → (g.place q ≡ overflow_of i) ↔ (g'.place q ≡ overflow_of i))
      → ((i q : ℕ) → (g.place q ≡ private_of i) ↔ (g'.place q ≡ private_of i)) → AreChained Q g'
  chained_stay k e over own overs owns = record {
    overflow = overflows_stay R P Q r n since l.touched l.elsewhere (λ i q. g.place q ≡ overflow_of i)
        (λ i q. g'.place q ≡ overflow_of i) (overflows n L R P g v)
        (subst LeavesOverflows (sym e) over) overs l.turns;
    private = privates_stay R P Q r n since l.touched l.elsewhere g.line (λ i q. g.place q ≡ private_of i)
        (λ i q. g'.place q ≡ private_of i) (privates n L R P g v)
        (subst LeavesPrivates (sym e) own) owns l.turns;
  }
