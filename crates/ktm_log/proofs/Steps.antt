-- Two steps of contents that may be told, one after the other.
use Rattle.std.specs.Prelude.{IfSome, IsSomeAnd}
use Rattle.std.proofs.Common.{Option, None, Some}
use Rattle.ktm_base.specs.Told.{Goes}

pub Goes-two : {S : Type 0} {R T U : S → S → Type 0} (P : S → Type 0) (o m n : Option S) → IfSome o P → Goes R o m → Goes T m n → ((a b c : S) → P a → R a b → T b c → U a c) → Goes U o n
Goes-two P None None None p r t f = tt
Goes-two P None None (Some c) p r t f = t
Goes-two P None (Some b) n p r t f = absurd r
Goes-two P (Some a) None n p r t f = absurd r
Goes-two P (Some a) (Some b) None p r t f = t
Goes-two P (Some a) (Some b) (Some c) p r t f = f a b c p r t

pub IsSomeAnd-two : {S : Type 0} {R T : S → S → Type 0} (P Q : S → Type 0) (o m n : Option S) → IsSomeAnd o P → Goes R o m → Goes T m n → ((a b c : S) → P a → R a b → T b c → Q c) → IsSomeAnd n Q
IsSomeAnd-two P Q None m n p r t f = absurd p
IsSomeAnd-two P Q (Some a) None n p r t f = absurd r
IsSomeAnd-two P Q (Some a) (Some b) None p r t f = absurd t
IsSomeAnd-two P Q (Some a) (Some b) (Some c) p r t f = f a b c p r t

pub IfSome-from_tells : {S : Type 0} (P : S → Type 0) (o : Option S) → IsSomeAnd o P → IfSome o P
IfSome-from_tells P None p = tt
IfSome-from_tells P (Some a) p = p

pub IfSome-both : {S : Type 0} (P Q T : S → Type 0) (o : Option S) → IfSome o P → IfSome o Q → ((s : S) → P s → Q s → T s) → IfSome o T
IfSome-both P Q T None p q f = tt
IfSome-both P Q T (Some s) p q f = f s p q
