-- How many pages a scan holds while it goes through posting trees.
use Rattle.std.proofs.Common.{◌≡◌, ◌≢◌, ℕ, zero, suc, ◌+◌, ◌-◌, ◌*◌, ◌<◌, ◌≤◌, length, refl}
use Rattle.std.proofs.Common.{sym, ap, subst, inl, inr, arith}
use Rattle.std.proofs.Math.Nat.{mul-le-mul_left}
use Rattle.gin_scan.specs.Inner.Ways.{GoesToTree}
use Rattle.gin_scan.specs.Counting.{IsBounded, CountsOn}
use Rattle.gin_scan.specs.declared.scan_core.ScanCore.{ScanCore}
use Rattle.gin_scan.specs.declared.stage.Stage.{Stage}
use Rattle.gin_scan.specs.declared.stage.Stage.TheVariants as stage
use Rattle.gin_scan.proofs.Counted.{counts_by}

-- a page of a tree was read
pub posting_counted : (s new : ScanCore) (key at page p left next read holds holds' : ℕ)
    → s.stage ≡ stage.Posting key at page left next read → new.extent ≡ s.extent → left ≢ 0 → holds' ≤ suc holds
    → (before : ℕ) → IsBounded before s holds s.stage
    → IsBounded before new holds' (stage.Posting key at p (left - 1) next read)
posting_counted s new key at page p left next read holds holds' is extent some one before had =
    let were : holds + left + (s.extent - read)
    ≤ before + suc s.extent + (suc key * s.extent + suc at * s.extent) = subst (IsBounded before s holds) is had in
    let few : holds' + (left - 1) ≤ holds + left = less left some in
    subst (λ (e : ℕ). holds' + (left - 1) + (e - read) ≤ before + suc e + (suc key * e + suc at * e)) (sym extent)
    (omega (arith, were, few))
  where
    less : (n : ℕ) → n ≢ 0 → holds' + (n - 1) ≤ holds + n
    less zero off = absurd (off refl)
    less (suc n) off = omega (arith, one)

-- a tree is over
pub over_counted : (s new : ScanCore) (key at page left next read holds holds' : ℕ) (z : Stage)
    → s.stage ≡ stage.Posting key at page left next read → new ≡ record s { stage = z }
    → GoesToTree s key (suc at) next read z → at < length s.roots.items → holds' ≡ holds
    → CountsOn s holds new holds'
over_counted s new key at page left next read holds holds' z is same goes within one =
    counts_by s new holds holds' (λ before had. omega (arith, had, one, ap (λ (y : ScanCore). y.pages_read) same))
    (λ before had. subst (λ (y : ScanCore). IsBounded before y holds' y.stage) (sym same)
    (by before (subst (IsBounded before s holds) is had) goes))
  where
    by : (before : ℕ)
        → holds + left + (s.extent - read) ≤ before + suc s.extent + (suc key * s.extent + suc at * s.extent)
        → GoesToTree s key (suc at) next read z → IsBounded before (record s { stage = z }) holds' z
    by before were (inl g) =
        subst (IsBounded before (record s { stage = z }) holds') (sym g.2)
        (let are : holds' + s.extent + (s.extent - read)
        ≤ before + suc s.extent + (suc key * s.extent + suc (suc at) * s.extent) = omega (arith, were, one) in are)
    by before were (inr g) =
        let all : length s.roots.items ≡ suc at = omega (arith, g.0, within) in
        subst (IsBounded before (record s { stage = z }) holds') (sym g.1)
        (subst (λ (n : ℕ). holds' + (s.extent - read) ≤ before + suc s.extent + (suc key * s.extent + n * s.extent))
        (sym all) (omega (arith, were, one)))

-- pages go further
pub posting_further_counted : (s new : ScanCore) (key at page more next read holds holds' : ℕ)
    → s.stage ≡ stage.Posting key at page 0 next read
    → new ≡ record s { stage = stage.Posting key at page more next read; extent = s.extent + more } → holds' ≡ holds
    → CountsOn s holds new holds'
posting_further_counted s new key at page more next read holds holds' is same one =
    counts_by s new holds holds' (λ before had. omega (arith, had, one, ap (λ (z : ScanCore). z.pages_read) same))
    (λ before had.
    let were : holds + 0 + (s.extent - read) ≤ before + suc s.extent + (suc key * s.extent + suc at * s.extent) =
    subst (IsBounded before s holds) is had in
    let wider : key * s.extent ≤ key * (s.extent + more) = mul-le-mul_left key (omega arith) in
    let also : at * s.extent ≤ at * (s.extent + more) = mul-le-mul_left at (omega arith) in
    let are : holds' + more + (s.extent + more - read)
    ≤ before + suc (s.extent + more) + (suc key * (s.extent + more) + suc at * (s.extent + more)) =
    omega (arith, were, one, wider, also) in
    subst (λ (z : ScanCore). IsBounded before z holds' z.stage) (sym same) are)
