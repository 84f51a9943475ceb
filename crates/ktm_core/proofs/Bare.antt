-- What a restart records changes no file.
use Rattle.std.proofs.Common.{◌≡◌, ◌+◌, Bool, true, false, All, List, [], ◌∷◌, refl}
use Rattle.std.specs.List.{flat_map}
use Rattle.std.proofs.lemmas.List.Elements.{All-append, All-cons, All-nil}
use Rattle.ktm_base.specs.declared.id.Id.{Id}
use Rattle.txf_laws.specs.Grammatical.{changes_of_event}
use Rattle.ktm_world.specs.declared.event.DonePart.{DonePart}
use Rattle.ktm_world.specs.declared.event.Event.{Event}
use Rattle.ktm_world.specs.declared.event.Event.TheVariants.{Boot, Done}
use Rattle.ktm_world.specs.Durable.{Durable, Recorded, has_undone}
use Rattle.ktm_world.specs.World.{done_if, own_events, own_group}

-- the event changes no file
abbrev IsBare : Event → Type 0
IsBare event = changes_of_event event ≡ []

done-bare : (is : Bool) (id : Id) (done : DonePart) → All IsBare (done_if is id done)
done-bare true id done = All-cons IsBare (Done id done) [] refl (All-nil IsBare)
done-bare false id done = All-nil IsBare

each-bare : (f : Recorded → List Event) → ((t : Recorded) → All IsBare (f t)) → (ts : List Recorded) → All IsBare (flat_map f ts)
each-bare f bare [] = All-nil IsBare
each-bare f bare (t ∷ ts) = All-append IsBare (f t) (flat_map f ts) (bare t) (each-bare f bare ts)

pub own-bare : (s : Durable) → All IsBare (own_group s)
own-bare s =
    All-cons IsBare (Boot (s.boots + 1)) (flat_map own_events s.transactions) refl
    (each-bare own_events
    (λ t. All-append IsBare (done_if (has_undone DonePart.Files t) t.id DonePart.Files) (done_if (has_undone DonePart.Keys t) t.id DonePart.Keys) (done-bare (has_undone DonePart.Files t) t.id DonePart.Files)
    (done-bare (has_undone DonePart.Keys t) t.id DonePart.Keys)) s.transactions)
