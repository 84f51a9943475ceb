-- No spelling of an event begins another one, and an event has one spelling.
use Rattle.std.proofs.Common.{◌≡◌, ℕ, List, [], ◌∷◌, ◌++◌, refl, ap}
use Rattle.ktm_base.specs.declared.id.Id.{Id}
use Rattle.ktm_base.specs.Grammar.{IsU32, Then, Tagged, IsListOf}
use Rattle.ktm_codec.specs.Spans.{Unambiguous, OneSpelling}
use Rattle.ktm_codec.proofs.Forms.{HasOne, unambiguous_u32, unambiguous_tagged, unambiguous_list, other_tags, one_u32, one_then, one_tagged, one_list}
use Rattle.ktm_world.specs.declared.event.Part.{Part}
use Rattle.ktm_world.specs.declared.event.DonePart.{DonePart}
use Rattle.ktm_world.specs.declared.event.Event.{Event}
use Rattle.ktm_world.specs.declared.event.Event.TheVariants.{Boot, MadeRm, Plain, Ready, Single, Held, Decide, Undo}
use Rattle.ktm_world.specs.EventGrammar.{IsIdOf, IsChangeOf, IsPartOf, IsSoleOf, IsDoneOf, IsEventOf, IsGroupOf}
use Rattle.ktm_event.proofs.Tags.{other}
use Rattle.ktm_event.proofs.Pairs.{Both, unambiguous_both}
use Rattle.ktm_event.proofs.Changes.{unambiguous_change, one_change}
use Rattle.ktm_event.proofs.Parts.{IsEnlistedOf, unambiguous_id, unambiguous_enlisted, unambiguous_part, unambiguous_sole, unambiguous_done, one_id, one_enlisted, one_part, one_sole, one_done}

-- a thing of a transaction stands behind its Id
unambiguous_of : {X : Type 0} (Rest : X → List ℕ → Type 0) → Unambiguous Rest → Unambiguous (Both IsIdOf Rest)
unambiguous_of Rest one = unambiguous_both IsIdOf Rest unambiguous_id one

abbrev event_tag : Event → ℕ
event_tag (Boot boot) = 1
event_tag (MadeRm manager) = 2
event_tag (Plain change) = 3
event_tag (Ready transaction part) = 4
event_tag (Single transaction part) = 5
event_tag (Held transaction enlistment manager information) = 6
event_tag (Decide transaction) = 7
event_tag (Undo transaction) = 8
event_tag (Event.Done transaction done) = 9

begins : (event : Event) (bytes : List ℕ) → IsEventOf event bytes → Tagged (event_tag event) (λ rest. Unit {0}) bytes
begins (Boot boot) bytes is = (is.0, is.1, tt)
begins event bytes is = (is.0, is.1, tt)

same_tag : (x y : Event) (a b c d : List ℕ) → IsEventOf x a → IsEventOf y b → a ++ c ≡ b ++ d → event_tag x ≡ event_tag y
same_tag x y a b c d p q e = other_tags (event_tag x) (event_tag y) a b c d (begins x a p) (begins y b q) e

pub unambiguous_event : Unambiguous IsEventOf
unambiguous_event (Boot x) (Boot y) a b c d p q e =
    let (same, bytes) = unambiguous_tagged IsU32 unambiguous_u32 1 x y a b c d p q e in
    (ap Boot same, bytes)
unambiguous_event (MadeRm x) (MadeRm y) a b c d p q e =
    let (same, bytes) = unambiguous_tagged IsIdOf unambiguous_id 2 x y a b c d p q e in
    (ap MadeRm same, bytes)
unambiguous_event (Plain x) (Plain y) a b c d p q e =
    let (same, bytes) = unambiguous_tagged IsChangeOf unambiguous_change 3 x y a b c d p q e in
    (ap Plain same, bytes)
unambiguous_event (Ready t x) (Ready u y) a b c d p q e =
    let (same, bytes) = unambiguous_tagged (Both IsIdOf IsPartOf) (unambiguous_of IsPartOf unambiguous_part) 4 (t, x) (u, y) a b c d p q e in
    (ap (λ (r : Id × Part). Ready r.0 r.1) same, bytes)
unambiguous_event (Single t x) (Single u y) a b c d p q e =
    let (same, bytes) = unambiguous_tagged (Both IsIdOf IsSoleOf) (unambiguous_of IsSoleOf unambiguous_sole) 5 (t, x) (u, y) a b c d p q e in
    (ap (λ (r : Id × Part). Single r.0 r.1) same, bytes)
unambiguous_event (Held t en m i) (Held t' en' m' i') a b c d p q e =
    let (same, bytes) = unambiguous_tagged (Both IsIdOf IsEnlistedOf) (unambiguous_of IsEnlistedOf unambiguous_enlisted) 6 (t, (en, (m, i))) (t', (en', (m', i'))) a b c d p q e in
    (ap (λ (r : Id × (Id × (Id × List ℕ))). Held r.0 r.1.0 r.1.1.0 r.1.1.1) same, bytes)
unambiguous_event (Decide x) (Decide y) a b c d p q e =
    let (same, bytes) = unambiguous_tagged IsIdOf unambiguous_id 7 x y a b c d p q e in
    (ap Decide same, bytes)
unambiguous_event (Undo x) (Undo y) a b c d p q e =
    let (same, bytes) = unambiguous_tagged IsIdOf unambiguous_id 8 x y a b c d p q e in
    (ap Undo same, bytes)
unambiguous_event (Event.Done t x) (Event.Done u y) a b c d p q e =
    let (same, bytes) = unambiguous_tagged (Both IsIdOf IsDoneOf) (unambiguous_of IsDoneOf unambiguous_done) 9 (t, x) (u, y) a b c d p q e in
    (ap (λ (r : Id × DonePart). Event.Done r.0 r.1) same, bytes)
unambiguous_event x y a b c d p q e = absurd (other (same_tag x y a b c d p q e) refl)

pub unambiguous_events : Unambiguous (IsListOf IsEventOf)
unambiguous_events = unambiguous_list IsEventOf unambiguous_event

-- bytes spell one group at most
pub one_group : (a b : List Event) (bytes : List ℕ) → IsGroupOf a bytes → IsGroupOf b bytes → a ≡ b
one_group [] b bytes p q = absurd p
one_group (x ∷ xs) [] bytes p q = absurd q
one_group (x ∷ xs) (y ∷ ys) bytes p q = (unambiguous_events (x ∷ xs) (y ∷ ys) bytes bytes [] [] p q refl).0

one_of : (transaction : Id) (Rest : List ℕ → Type 0) → HasOne Rest → HasOne (Then (IsIdOf transaction) Rest)
one_of transaction Rest one = one_then (IsIdOf transaction) Rest (one_id transaction) one

pub one_event : OneSpelling IsEventOf
one_event (Boot boot) = one_tagged 1 _ (one_u32 boot)
one_event (MadeRm manager) = one_tagged 2 _ (one_id manager)
one_event (Plain change) = one_tagged 3 _ (one_change change)
one_event (Ready transaction part) = one_tagged 4 _ (one_of transaction _ (one_part part))
one_event (Single transaction part) = one_tagged 5 _ (one_of transaction _ (one_sole part))
one_event (Held transaction enlistment manager information) = one_tagged 6 _ (one_of transaction _ (one_enlisted enlistment manager information))
one_event (Decide transaction) = one_tagged 7 _ (one_id transaction)
one_event (Undo transaction) = one_tagged 8 _ (one_id transaction)
one_event (Event.Done transaction done) = one_tagged 9 _ (one_of transaction _ (one_done done))

pub one_spelling : OneSpelling IsGroupOf
one_spelling [] = λ a b all all' p q. absurd p
one_spelling (event ∷ events) = one_list IsEventOf one_event (event ∷ events)
