-- A log without its newest record.
use Rattle.std.proofs.Common.{◌≡◌, ℕ, suc, ◌-◌, ◌≤◌, ◌∷◌, length, drop, ap, subst, inr, arith}
use Rattle.page_types.specs.declared.record.Record.{Record}
use Rattle.core_state.specs.Log.{Log, commits, cut}
use Rattle.core_state.specs.Laws.{LegalWithoutNewest, KeepsWithoutNewest}

pub legal_less : LegalWithoutNewest
legal_less r R l = record {
  valid = l.valid.0;
  images = l.images.0;
  redo_images = λ s redo i k.
      (l.redo_images s redo (inr i) k).0;
}

-- the first n records are the same where the newest isn't among them
pub cut_less : (n : ℕ) (r : Record) (R : Log) → n ≤ length R → cut n (r ∷ R) ≡ cut n R
cut_less n r R le =
    let e : length (r ∷ R) - n ≡ suc (length R - n) = omega (arith, le) in
    ap (λ k. drop k (r ∷ R)) e

pub keeps_less : KeepsWithoutNewest
keeps_less r R pin le k = record {
  within = le;
  counted = subst (λ (S : Log). pin.commits ≤ commits S) (cut_less pin.length r R le) k.counted;
  each = k.each.0;
}
