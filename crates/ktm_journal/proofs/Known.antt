-- Facts on answers and on what is told, carried over implications.
use Rattle.std.proofs.Common.{Option, None, Some}
use Rattle.ktm_base.specs.Told.{Goes}

pub Goes-then : {S : Type 0} {R T U : S → S → Type 0} (old mid new : Option S) → Goes R old mid → Goes T mid new → ((a b c : S) → R a b → T b c → U a c) → Goes U old new
Goes-then None None None r t f = tt
Goes-then None None (Some c) r t f = t
Goes-then None (Some b) new r t f = absurd r
Goes-then (Some a) None new r t f = absurd r
Goes-then (Some a) (Some b) None r t f = t
Goes-then (Some a) (Some b) (Some c) r t f = f a b c r t
