-- The errors that calls return.
use Rattle.std.proofs.Common.{◌≡◌, Result, Ok, Err, refl}
use Rattle.std.specs.Prelude.{IsErrOf, OnErr}
use Rattle.wal.specs.Causes as logs
use Rattle.wal.specs.declared.error.ReadError.{ReadError}
use Rattle.wal.specs.declared.error.ReadError.TheVariants as wal
use Rattle.buffer_frames.specs.Causes.{NotAStoreWhere}
use Rattle.buffer_frames.specs.Inner.Faults.{fault_of_log}
use Rattle.buffer_frames.specs.declared.error.OpenFault.{OpenFault}
use Rattle.buffer_frames.specs.declared.error.OpenFault.TheVariants as faults

-- a result has one error
pub one_error : {T E : Type 0} (r : Result T E) (y e : E) → r ≡ Err y → IsErrOf r e → y ≡ e
one_error r y e is at = cc

-- what holds of each answer holds of a refusal
pub on_refusal : {T E : Type 0} (P : Type 0) (r : Result T E) → P → OnErr r P
on_refusal P (Ok x) p = tt
on_refusal P (Err e) p = p

-- what a call of the log refuses, the opening refuses so
pub refused_log : (T U : Type 0) (P Q : Type 0) (e : ReadError) → (Q → P) → logs.NotAStoreWhere {T = T} Q (Err e)
    → NotAStoreWhere {T = U} P (Err (fault_of_log e))
refused_log T U P Q wal.DiskFault f h = tt
refused_log T U P Q wal.NotAStore f h = f h
refused_log T U P Q wal.OutOfMemory f h = tt

pub refused_where : (T : Type 0) (P : Type 0) (e : OpenFault) → (e ≡ faults.NotAStore → P)
    → NotAStoreWhere {T = T} P (Err e)
refused_where T P faults.NotAStore f = f refl
refused_where T P faults.DiskFault f = tt
refused_where T P faults.OutOfMemory f = tt
