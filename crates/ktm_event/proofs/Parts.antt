-- No spelling of a part begins another one, and a part has one spelling.
use Rattle.std.proofs.Common.{◌≡◌, ℕ, Option, Some, None, List, [], ◌∷◌, refl, sym, ◌∙◌, ap}
use Rattle.ktm_base.specs.declared.id.Id.{Id}
use Rattle.ktm_base.specs.Grammar.{IsU32, IsTextOf, IsValueOf, Tagged, IsListOf}
use Rattle.ktm_codec.specs.Spans.{Unambiguous, OneSpelling}
use Rattle.ktm_codec.proofs.Forms.{HasOne, unambiguous_u32, unambiguous_text, unambiguous_value, unambiguous_then, unambiguous_tagged, unambiguous_list, other_tags, one_u8, one_u32, one_text, one_value, one_then, one_exact, one_tagged, one_list}
use Rattle.ktm_world.specs.declared.event.Part.{Part}
use Rattle.ktm_world.specs.declared.event.Part.TheVariants.{Enlistment, Changes, Settings}
use Rattle.ktm_world.specs.declared.event.DonePart.{DonePart}
use Rattle.ktm_world.specs.declared.event.DonePart.TheVariants.{Files, Keys}
use Rattle.ktm_world.specs.EventGrammar.{IsIdOf, IsSetTo, IsSettingOf, AreSettingsOf, IsChangeOf, IsRecordOf, IsPartOf, IsSoleOf, IsDoneOf}
use Rattle.ktm_event.specs.Reading.{IsKeyOf}
use Rattle.ktm_event.proofs.Tags.{other}
use Rattle.ktm_event.proofs.Pairs.{Both, unambiguous_both}
use Rattle.ktm_event.proofs.Changes.{unambiguous_change, one_change}

pub unambiguous_id : Unambiguous IsIdOf
unambiguous_id x y a b c d p q e =
    let (boots, numbers, bytes) = unambiguous_then IsU32 IsU32 unambiguous_u32 x.boot y.boot x.number y.number (λ same. unambiguous_u32 x.number y.number) a b c d p.numbers q.numbers e in
    let same : x ≡ y = ap (λ (n : ℕ). record { boot = n; number = x.number }) boots ∙ ap (λ (n : ℕ). record { boot = y.boot; number = n }) numbers in
    (same, bytes)

pub unambiguous_key : Unambiguous IsKeyOf
unambiguous_key x y a b c d p q e = unambiguous_text x y a b c d p.spelled q.spelled e

unambiguous_set_to : Unambiguous IsSetTo
unambiguous_set_to None None a b c d (rest, is, p) (rest', is', q) e = (refl, is ∙ ap (λ (l : List ℕ). 0 ∷ l) (p ∙ sym q) ∙ sym is')
unambiguous_set_to (Some x) (Some y) a b c d p q e =
    let (same, bytes) = unambiguous_tagged IsValueOf unambiguous_value 1 x y a b c d p q e in
    (ap Some same, bytes)
unambiguous_set_to x y a b c d p q e = let tags = other_tags _ _ a b c d p q e in absurd cc

pub unambiguous_setting : Unambiguous IsSettingOf
unambiguous_setting x y a b c d p q e =
    let (keys, values, bytes) = unambiguous_then IsTextOf IsSetTo unambiguous_text x.key y.key x.value y.value (λ same. unambiguous_set_to x.value y.value) a b c d p.parts q.parts e in
    let same : x ≡ y = ap (λ (key : List ℕ). record { key = key; value = x.value }) keys ∙ ap (λ (value : Option (List ℕ)). record { key = y.key; value = value }) values in
    (same, bytes)

pub unambiguous_settings : Unambiguous AreSettingsOf
unambiguous_settings x y a b c d p q e = unambiguous_list IsSettingOf unambiguous_setting x y a b c d p.listed q.listed e

-- an enlistment, its resource manager and its information, as pairs
abbrev pub IsEnlistedOf : Id × (Id × List ℕ) → List ℕ → Type 0
IsEnlistedOf = Both IsIdOf (Both IsIdOf IsTextOf)

pub unambiguous_enlisted : Unambiguous IsEnlistedOf
unambiguous_enlisted = unambiguous_both IsIdOf (Both IsIdOf IsTextOf) unambiguous_id (unambiguous_both IsIdOf IsTextOf unambiguous_id unambiguous_text)

pub unambiguous_part : Unambiguous IsPartOf
unambiguous_part (Enlistment e m i) (Enlistment e' m' i') a b c d p q is =
    let (same, bytes) = unambiguous_tagged IsEnlistedOf unambiguous_enlisted 1 (e, (m, i)) (e', (m', i')) a b c d p q is in
    (ap (λ (r : Id × (Id × List ℕ)). Enlistment r.0 r.1.0 r.1.1) same, bytes)
unambiguous_part (Changes x) (Changes y) a b c d p q is =
    let (same, bytes) = unambiguous_tagged (IsListOf IsChangeOf) (unambiguous_list IsChangeOf unambiguous_change) 2 x y a b c d p q is in
    (ap Changes same, bytes)
unambiguous_part (Settings x) (Settings y) a b c d p q is =
    let (same, bytes) = unambiguous_tagged AreSettingsOf unambiguous_settings 3 x y a b c d p q is in
    (ap Settings same, bytes)
unambiguous_part x y a b c d p q is = absurd (other (other_tags _ _ a b c d p q is) refl)

-- what is spelled as the sole part is spelled as a part
pub sole_is_part : (part : Part) (bytes : List ℕ) → IsSoleOf part bytes → IsPartOf part bytes
sole_is_part (Enlistment e m i) bytes is = absurd is
sole_is_part (Changes changes) bytes is = is
sole_is_part (Settings settings) bytes is = is

pub unambiguous_sole : Unambiguous IsSoleOf
unambiguous_sole x y a b c d p q e = unambiguous_part x y a b c d (sole_is_part x a p) (sole_is_part y b q) e

abbrev done_tag : DonePart → ℕ
done_tag (DonePart.Enlistment enlistment) = 1
done_tag Files = 2
done_tag Keys = 3

done_tagged : (done : DonePart) (bytes : List ℕ) → IsDoneOf done bytes → Tagged (done_tag done) (λ rest. Unit {0}) bytes
done_tagged (DonePart.Enlistment enlistment) bytes (rest, is, id) = (rest, is, tt)
done_tagged Files bytes is = ([], is.value, tt)
done_tagged Keys bytes is = ([], is.value, tt)

pub unambiguous_done : Unambiguous IsDoneOf
unambiguous_done (DonePart.Enlistment x) (DonePart.Enlistment y) a b c d p q e =
    let (same, bytes) = unambiguous_tagged IsIdOf unambiguous_id 1 x y a b c d p q e in
    (ap DonePart.Enlistment same, bytes)
unambiguous_done Files Files a b c d p q e = (refl, p.value ∙ sym q.value)
unambiguous_done Keys Keys a b c d p q e = (refl, p.value ∙ sym q.value)
unambiguous_done x y a b c d p q e =
    let tags = other_tags (done_tag x) (done_tag y) a b c d (done_tagged x a p) (done_tagged y b q) e in
    absurd cc

pub one_id : OneSpelling IsIdOf
one_id id a b all all' p q = one_then (IsU32 id.boot) (IsU32 id.number) (one_u32 id.boot) (one_u32 id.number) a b all all' p.numbers q.numbers

one_set_to : OneSpelling IsSetTo
one_set_to None = one_tagged 0 (λ rest. rest ≡ []) (one_exact [])
one_set_to (Some value) = one_tagged 1 (IsValueOf value) (one_value value)

one_setting : OneSpelling IsSettingOf
one_setting setting a b all all' p q = one_then (IsTextOf setting.key) (IsSetTo setting.value) (one_text setting.key) (one_set_to setting.value) a b all all' p.parts q.parts

one_settings : OneSpelling AreSettingsOf
one_settings settings a b all all' p q = one_list IsSettingOf one_setting settings a b all all' p.listed q.listed

pub one_enlisted : (enlistment manager : Id) (information : List ℕ) → HasOne (IsRecordOf enlistment manager information)
one_enlisted enlistment manager information =
    one_then (IsIdOf enlistment) _ (one_id enlistment) (one_then (IsIdOf manager) (IsTextOf information) (one_id manager) (one_text information))

pub one_part : OneSpelling IsPartOf
one_part (Enlistment enlistment manager information) = one_tagged 1 _ (one_enlisted enlistment manager information)
one_part (Changes changes) = one_tagged 2 _ (one_list IsChangeOf one_change changes)
one_part (Settings settings) = one_tagged 3 _ (one_settings settings)

pub one_sole : OneSpelling IsSoleOf
one_sole part a b all all' p q = one_part part a b all all' (sole_is_part part a p) (sole_is_part part b q)

pub one_done : OneSpelling IsDoneOf
one_done (DonePart.Enlistment enlistment) = one_tagged 1 _ (one_id enlistment)
one_done Files = one_u8 2
one_done Keys = one_u8 3
