-- What holds where a call was answered, or refused.
use Rattle.std.proofs.Common.{◌≡◌, Result, Ok, Err, sym, subst}
use Rattle.std.specs.Prelude.{Option, Some, None, IfSome, IfNone, OnOk, OnErr, IfOk, IfErr}

pub on_ok : {T E : Type 0} (r : Result T E) (P Q : Type 0) → (P → Q) → OnOk r P → OnOk r Q
on_ok (Ok x) P Q f p = f p
on_ok (Err e) P Q f p = tt

pub on_err : {T E : Type 0} (r : Result T E) (P Q : Type 0) → (P → Q) → OnErr r P → OnErr r Q
on_err (Ok x) P Q f p = tt
on_err (Err e) P Q f p = f p

pub if_ok : {T E : Type 0} (r : Result T E) (P Q : T → Type 0) → ((x : T) → P x → Q x) → IfOk r P → IfOk r Q
if_ok (Ok x) P Q f p = f x p
if_ok (Err e) P Q f p = tt

pub if_err : {T E : Type 0} (r : Result T E) (P Q : E → Type 0) → ((e : E) → P e → Q e) → IfErr r P → IfErr r Q
if_err (Ok x) P Q f p = tt
if_err (Err e) P Q f p = f e p

pub in_some : {A : Type 0} (o : Option A) (x : A) (P : A → Type 0) → o ≡ Some x → IfSome o P → P x
in_some o x P is p = subst (λ (r : Option _). IfSome r P) is p

pub in_none : {A : Type 0} (o : Option A) (P : Type 0) → o ≡ None → IfNone o P → P
in_none o P is p = subst (λ (r : Option _). IfNone r P) is p

-- nothing is said of an answer where there is none
pub no_ok : {T E : Type 0} (r : Result T E) (y : E) (P : Type 0) → r ≡ Err y → OnOk r P
no_ok r y P is = subst (λ (x : Result _ _). OnOk x P) (sym is) tt

pub none_ok : {T E : Type 0} (r : Result T E) (y : E) (P : T → Type 0) → r ≡ Err y → IfOk r P
none_ok r y P is = subst (λ (x : Result _ _). IfOk x P) (sym is) tt
