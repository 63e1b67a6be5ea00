-- What follows where a call succeeds, or something is there.
use Rattle.std.proofs.Common.{◌≡◌, Option, Some, None, Result, Ok, Err, IfSome, subst, sym}
use Rattle.std.specs.Prelude.{OnOk, OnErr}

pub if_ok : {T E : Type 0} (r : Result T E) (P Q : Type 0) → (P → Q) → OnOk r P → OnOk r Q
if_ok (Ok v) P Q f p = f p
if_ok (Err e) P Q f p = tt

pub if_some : {X : Type 0} (o : Option X) (P Q : X → Type 0) → ((x : X) → P x → Q x) → IfSome o P → IfSome o Q
if_some None P Q f p = tt
if_some (Some x) P Q f p = f x p

pub some_at : {X : Type 0} (o : Option X) (x : X) (P : X → Type 0) → o ≡ Some x → IfSome o P → P x
some_at o x P is p = subst (λ v. IfSome v P) is p

pub some_in : {X : Type 0} (o : Option X) (x : X) (P : X → Type 0) → o ≡ Some x → P x → IfSome o P
some_in o x P is p = subst (λ v. IfSome v P) (sym is) p

pub on_err : {T E : Type 0} (r : Result T E) (P : Type 0) → P → OnErr r P
on_err (Ok v) P p = tt
on_err (Err e) P p = p

pub if_err : {T E : Type 0} (r : Result T E) (P Q : Type 0) → (P → Q) → OnErr r P → OnErr r Q
if_err (Ok v) P Q f p = tt
if_err (Err e) P Q f p = f p

pub if_both : {T E : Type 0} (r : Result T E) (P Q Z : Type 0) → (P → Q → Z) → OnOk r P → OnOk r Q → OnOk r Z
if_both (Ok v) P Q Z f p q = f p q
if_both (Err e) P Q Z f p q = tt
