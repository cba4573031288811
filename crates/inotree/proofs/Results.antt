-- From what a call says of its `Ok` or of its `Err` to what follows from it.
use Rattle.std.proofs.Common.{◌≡◌, true, false, Result, Ok, Err, OnOk, OnErr, is_err}

pub on_ok : {T E : Type 0} {P Q : Type 0} (r : Result T E) → OnOk r P → (P → Q) → OnOk r Q
on_ok (Ok x) p f = f p
on_ok (Err e) p f = tt

pub on_err : {T E : Type 0} {P Q : Type 0} (r : Result T E) → OnErr r P → (P → Q) → OnErr r Q
on_err (Ok x) p f = tt
on_err (Err e) p f = f p

pub ok_of : {T E : Type 0} {P : Type 0} (r : Result T E) → P → OnOk r P
ok_of (Ok x) p = p
ok_of (Err e) p = tt

pub err_of : {T E : Type 0} {P : Type 0} (r : Result T E) → P → OnErr r P
err_of (Ok x) p = tt
err_of (Err e) p = p

pub at_ok : {T E : Type 0} {P : Type 0} (r : Result T E) → false ≡ is_err r → OnOk r P → P
at_ok (Ok x) e p = p
at_ok (Err x) e p = cc

pub at_err : {T E : Type 0} {P : Type 0} (r : Result T E) → true ≡ is_err r → OnErr r P → P
at_err (Ok x) e p = cc
at_err (Err x) e p = p

pub either : {T E : Type 0} {P Q R : Type 0} (r : Result T E) → OnOk r P → OnErr r Q → (P → R) → (Q → R) → R
either (Ok x) p q f g = f p
either (Err x) p q f g = g q
