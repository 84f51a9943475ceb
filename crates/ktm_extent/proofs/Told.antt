-- Facts on what an object tells, put together and one behind the other.
use Rattle.std.specs.Prelude.{IfSome}
use Rattle.std.proofs.Common.{Option, None, Some}
use Rattle.ktm_base.specs.Told.{Goes}

pub IfSome-two : {S : Type 0} (told : Option S) (P Q R : S → Type 0) → IfSome told P → IfSome told Q → ((s : S) → P s → Q s → R s) → IfSome told R
IfSome-two None P Q R p q f = tt
IfSome-two (Some s) P Q R p q f = f s p q

pub Goes-same : {S : Type 0} (P : S → Type 0) (R : S → S → Type 0) (told : Option S) → IfSome told P → ((s : S) → P s → R s s) → Goes R told told
Goes-same P R None p f = tt
Goes-same P R (Some s) p f = f s p

pub Goes-then : {S : Type 0} {P Q R : S → S → Type 0} (first next last : Option S) → Goes P first next → Goes Q next last → ((a b c : S) → P a b → Q b c → R a c) → Goes R first last
Goes-then None None None p q f = tt
Goes-then None None (Some c) p q f = q
Goes-then None (Some b) last p q f = absurd p
Goes-then (Some a) None last p q f = absurd p
Goes-then (Some a) (Some b) None p q f = q
Goes-then (Some a) (Some b) (Some c) p q f = f a b c p q

pub Goes-weaker : {S : Type 0} {R : S → S → Type 0} (Q : S → S → Type 0) (old new : Option S) → Goes R old new → ((a b : S) → R a b → Q a b) → Goes Q old new
Goes-weaker Q None None r f = tt
Goes-weaker Q None (Some b) r f = r
Goes-weaker Q (Some a) None r f = r
Goes-weaker Q (Some a) (Some b) r f = f a b r

pub Goes-both : {S : Type 0} {R : S → S → Type 0} (P Q : S → Type 0) (T : S → S → Type 0) (old new : Option S) → IfSome old P → IfSome new Q → Goes R old new → ((a b : S) → P a → Q b → R a b → T a b) → Goes T old new
Goes-both P Q T None None p q r f = tt
Goes-both P Q T None (Some b) p q r f = r
Goes-both P Q T (Some a) None p q r f = r
Goes-both P Q T (Some a) (Some b) p q r f = f a b p q r
