-- Facts on what an object tells, carried over a step.
use Rattle.std.specs.Prelude.{IfSome, IsSomeAnd}
use Rattle.std.proofs.Common.{Option, None, Some}
use Rattle.ktm_base.specs.Told.{Goes}

pub Goes-map : {S : Type 0} {R Q : S → S → Type 0} (old new : Option S) (P : S → Type 0) → IfSome old P → Goes R old new → ((a b : S) → P a → R a b → Q a b) → Goes Q old new
Goes-map None None P p r f = tt
Goes-map None (Some b) P p r f = r
Goes-map (Some a) None P p r f = r
Goes-map (Some a) (Some b) P p r f = f a b p r

pub IfSome-step : {S : Type 0} {R : S → S → Type 0} (old new : Option S) (P Q : S → Type 0) → IfSome old P → Goes R old new → ((a b : S) → P a → R a b → Q b) → IfSome new Q
IfSome-step None None P Q p r f = tt
IfSome-step None (Some b) P Q p r f = absurd r
IfSome-step (Some a) None P Q p r f = absurd r
IfSome-step (Some a) (Some b) P Q p r f = f a b p r

pub IfSome-map : {S : Type 0} (told : Option S) (P Q : S → Type 0) → IfSome told P → ((a : S) → P a → Q a) → IfSome told Q
IfSome-map None P Q p f = tt
IfSome-map (Some a) P Q p f = f a p

pub IsSomeAnd-step : {S : Type 0} {R : S → S → Type 0} (old new : Option S) (P Q : S → Type 0) → IsSomeAnd old P → Goes R old new → ((a b : S) → P a → R a b → Q b) → IsSomeAnd new Q
IsSomeAnd-step None new P Q p r f = absurd p
IsSomeAnd-step (Some a) None P Q p r f = absurd r
IsSomeAnd-step (Some a) (Some b) P Q p r f = f a b p r

pub IsSomeAnd-map : {S : Type 0} (told : Option S) (P Q : S → Type 0) → IsSomeAnd told P → ((a : S) → P a → Q a) → IsSomeAnd told Q
IsSomeAnd-map None P Q p f = absurd p
IsSomeAnd-map (Some a) P Q p f = f a p
