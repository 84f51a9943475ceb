-- What a transaction on its way tells: of its own enlistments alone, and of its outcome what is so in the end.
use Rattle.std.proofs.Common.{◌≡◌, ◌&&◌, not, Bool, true, List, [], ◌∷◌, map, filter, Option, Some, None, refl, sym, ◌∙◌, ap, subst, inl, inr}
use Rattle.std.proofs.lemmas.Bool.{and_parts, true≢false}
use Rattle.std.proofs.lemmas.Simd.{map-map}
use Rattle.std.specs.List.{list_any, list_all}
use Rattle.ktm_base.specs.declared.id.Id.{Id}
use Rattle.ktm_base.specs.declared.notify.Notify.{Notify}
use Rattle.ktm_world.specs.declared.event.Event.{Event}
use Rattle.ktm_world.specs.declared.input.PhaseInput.{PhaseInput}
use Rattle.ktm_world.specs.declared.object.Phase.TheVariants.{Ended}
use Rattle.ktm_world.specs.declared.object.TransactionOutcome.{TransactionOutcome}
use Rattle.ktm_world.specs.declared.step.Step.{Step}
use Rattle.ktm_world.specs.declared.step.Who.{Who}
use Rattle.ktm_world.specs.Enlistments.{Enlistment, Sent, asks_pre_prepare, id_of, is_given, is_ordinary, is_superior, is_unfinished, takes_part, tell, with_enlistments}
use Rattle.ktm_world.specs.Phases.{Course, end_notice, ended, in_phase, decided, is_its_superior, owing, telling, unchanged}
use Rattle.ktm_world.specs.Steps.{carried, changing, is_meant, is_one_of, led, run, basis}
use Rattle.ktm_world.specs.Transactions.{same_id}
use Rattle.ktm_steps.specs.Outcomes.{IsTrue}
use Rattle.ktm_steps.proofs.offered.Fading.{fades-run}
use Rattle.ktm_steps.proofs.offered.Outcomes.{outcome_law}
use Rattle.ktm_steps.proofs.offered.Recorded.{bare-facts, is_bare, passes-led}
use Rattle.ktm_steps.proofs.offered.Staying.{stays-led, stays-step, led-keeps}
use Rattle.txf_laws.specs.Contents.{puts_some}
use Rattle.txf_laws.specs.Elements.{IsIn}
use Rattle.txf_laws.proofs.offered.Diamonds.{IsIn-map}
use Rattle.txf_laws.proofs.offered.Elements.{IsIn-filter}
use Rattle.txf_laws.proofs.offered.Lists.{IsIn-cases, IsIn-unmap}
use Rattle.txf_laws.proofs.offered.Tables.{same_id-equal}
use Rattle.txf_laws.specs.Grammatical.{changes_of_event}
use Rattle.ktm_courses.specs.SoundCourse.{is_outcome_of}
use Rattle.ktm_courses.proofs.offered.Outcomes.{known-in}
use Rattle.ktm_world.specs.declared.event.Part.{Part}
use Rattle.ktm_steps.proofs.offered.Ways.{if_cases}

-- ---- names, and what is put

-- an enlistment's Id, and its transaction's
abbrev pub naming : Enlistment → Id × Id
naming e = (e.id, e.transaction)

pub naming-with : (test : Enlistment → Bool) (f : Enlistment → Enlistment) → ((e : Enlistment) → naming (f e) ≡ naming e) → (es : List Enlistment) → map naming (with_enlistments test f es) ≡ map naming es
naming-with test f same [] = refl
naming-with test f same (e ∷ es) = λ i. if_cases (λ x. naming x ≡ naming e) (test e) (f e) e (λ is. same e) (λ is. refl) i ∷ naming-with test f same es i

-- are the contents that an event puts not empty
abbrev pub puts_all : Event → Bool
puts_all event = list_all puts_some (changes_of_event event)

-- ---- a course

-- it names the enlistments of the beginning, and tells of its own transaction, and of an outcome what is so; and what it records puts no empty contents
pub record Says (names : List (Id × Id)) (own : Id) (c : Course) : Type 0 where
  pub id : c.transaction.id ≡ own
  pub named : map naming c.enlistments ≡ names
  pub about : (s : Sent) → IsIn s c.sent → (a : Id) × (s.note.enlistment ≡ Some a) × IsIn (a, own) names
  pub tells : IsTrue c
  pub events : list_all puts_some c.changes ≡ true → list_all puts_all c.events ≡ true

-- ---- names

-- steps name the enlistments as before
named-run : (steps : List Step) (c : Course) → map naming (run steps c).enlistments ≡ map naming c.enlistments
named-run steps c =
    let fades = fades-run steps c in
    ap (map naming) fades.is ∙ map-map naming fades.change c.enlistments
    ∙ same fades.change (λ e. ap naming (fades.each e).lasts) c.enlistments
  where
    same : (f : Enlistment → Enlistment) → ((e : Enlistment) → naming (f e) ≡ naming e) → (es : List Enlistment) → map (λ e. naming (f e)) es ≡ map naming es
    same f is [] = refl
    same f is (e ∷ es) = λ i. is e i ∷ same f is es i

-- ---- who is told

part-own : (id : Id) (e : Enlistment) → takes_part id e ≡ true → e.transaction ≡ id
part-own id e part = same_id-equal e.transaction id (and_parts (same_id e.transaction id) (not (is_superior e)) (and_parts (is_ordinary id e) (not e.is_read_only) part).0).0

superior-own : (id : Id) (e : Enlistment) → (same_id e.transaction id && is_superior e) ≡ true → e.transaction ≡ id
superior-own id e is = same_id-equal e.transaction id (and_parts (same_id e.transaction id) (is_superior e) is).0

-- those that are told are the transaction's own, where the one that calls is
meant-own : (own : Id) (caller : Option Id) (who : Who) (e : Enlistment) → (is_given caller e ≡ true → e.transaction ≡ own) → is_one_of own caller who e ≡ true → e.transaction ≡ own
meant-own own caller Who.Parts e given is = part-own own e is
meant-own own caller Who.Asking e given is = part-own own e (and_parts (takes_part own e) (asks_pre_prepare e) is).0
meant-own own caller Who.Prepared e given is = part-own own e (and_parts (takes_part own e) e.is_prepared (and_parts (takes_part own e && e.is_prepared) e.is_recovered is).0).0
meant-own own caller Who.Recovered e given is = part-own own e (and_parts (takes_part own e) e.is_recovered is).0
meant-own own caller Who.Superior e given is = superior-own own e is
meant-own own caller Who.OtherSuperior e given is = superior-own own e (and_parts (same_id e.transaction own && is_superior e) (not (is_given caller e)) is).0
meant-own own caller Who.Caller e given is = given is

module _ (names : List (Id × Id)) (own : Id) (caller : Option Enlistment) where
  -- an enlistment of the caller's Id is one of its transaction
  abbrev pub Only : Type 0
  Only = (e : Enlistment) → caller ≡ Some e → (t : Id) → IsIn (e.id, t) names → t ≡ own

  -- it is this transaction's course, of these enlistments, and tells of its own alone
  record Tells (c : Course) : Type 0 where
    id : c.transaction.id ≡ own
    caller_is : c.caller ≡ caller
    named : map naming c.enlistments ≡ names
    about : (s : Sent) → IsIn s c.sent → (a : Id) × (s.note.enlistment ≡ Some a) × IsIn (a, own) names

  -- the one that calls is of its transaction
  given-own : Only → (c : Course) → Tells c → (e : Enlistment) → IsIn e c.enlistments → is_given (id_of c.caller) e ≡ true → e.transaction ≡ own
  given-own only c tells e there is = go caller only (subst (λ o. is_given (id_of o) e ≡ true) tells.caller_is is)
    where
      go : (o : Option Enlistment) → ((f : Enlistment) → o ≡ Some f → (t : Id) → IsIn (f.id, t) names → t ≡ own) → is_given (id_of o) e ≡ true → e.transaction ≡ own
      go None only' is' = absurd cc
      go (Some f) only' is' = only' f refl e.transaction (subst (λ id. IsIn (id, e.transaction) names) (same_id-equal e.id f.id is') (subst (IsIn (naming e)) tells.named (IsIn-map naming e c.enlistments there)))

  about-more : (c : Course) (test : Enlistment → Bool) (kind : Notify) (f : Enlistment → Enlistment) → ((e : Enlistment) → IsIn e c.enlistments → test e ≡ true → e.transaction ≡ own) → Tells c
      → (s : Sent) → IsIn s (telling c test kind f).sent → (a : Id) × (s.note.enlistment ≡ Some a) × IsIn (a, own) names
  about-more c test kind f mine tells s there = elim (IsIn-cases s c.sent (map (tell kind) (filter test c.enlistments)) there) [
    | inl old ↦ tells.about s old
    | inr new ↦
        let from = IsIn-unmap (tell kind) s (filter test c.enlistments) new in
        let at = IsIn-filter test c.enlistments from.0 from.2 in (
          from.0.id,
          ap (λ (s : Sent). s.note.enlistment) (sym from.1),
          subst (λ t. IsIn (from.0.id, t) names) (mine from.0 at.0 at.1) (subst (IsIn (naming from.0)) tells.named (IsIn-map naming from.0 c.enlistments at.0)),
        )
  ]

  about-meant : Only → (c : Course) (who : Who) (kind : Notify) (f : Enlistment → Enlistment) → Tells c → (s : Sent) → IsIn s (telling c (is_meant who c) kind f).sent → (a : Id) × (s.note.enlistment ≡ Some a) × IsIn (a, own) names
  about-meant only c who kind f tells = about-more c (is_meant who c) kind f (λ e there is.
      meant-own c.transaction.id (id_of c.caller) who e (λ given. given-own only c tells e there given ∙ sym tells.id) is ∙ tells.id) tells

  about-ended : (c : Course) (outcome : TransactionOutcome) → Tells c → (s : Sent) → IsIn s (ended c outcome).sent → (a : Id) × (s.note.enlistment ≡ Some a) × IsIn (a, own) names
  unfolding ended
  about-ended c outcome tells =
      about-more (in_phase (decided c outcome) Ended) (is_its_superior c) (end_notice outcome) unchanged (λ e there is. superior-own c.transaction.id e is ∙ tells.id) record { id = tells.id; caller_is = tells.caller_is; named = tells.named; about = tells.about }

  about-changing : (c : Course) (o : Option Enlistment) (f : Enlistment → Enlistment) → Tells c → (s : Sent) → IsIn s (changing c o f).sent → (a : Id) × (s.note.enlistment ≡ Some a) × IsIn (a, own) names
  about-changing c None f tells = tells.about
  about-changing c (Some e) f tells = tells.about

  about-step : Only → (step : Step) (c : Course) → Tells c → (s : Sent) → IsIn s (carried step c).sent → (a : Id) × (s.note.enlistment ≡ Some a) × IsIn (a, own) names
  about-step only (Step.Tell who kind) c tells = about-meant only c who kind unchanged tells
  about-step only (Step.Ask who kind owed) c tells = about-meant only c who kind (owing owed) tells
  about-step only (Step.Change answer) c tells = about-changing c c.caller _ tells
  about-step only (Step.End outcome) c tells = about-ended c outcome tells
  about-step only (Step.EndWhereFinished outcome) c tells =
      if_cases (λ d. (s : Sent) → IsIn s d.sent → (a : Id) × (s.note.enlistment ≡ Some a) × IsIn (a, own) names) (list_any (is_unfinished c.transaction.id) c.enlistments) c (ended c outcome) (λ some. tells.about) (λ none. about-ended c outcome tells)
  about-step only _ c tells = tells.about

  tells-step : Only → (step : Step) (c : Course) → Tells c → Tells (carried step c)
  tells-step only step c tells =
      let still = stays-step step c in
      record { id = still.id ∙ tells.id; caller_is = still.caller ∙ tells.caller_is; named = named-run (step ∷ []) c ∙ tells.named; about = about-step only step c tells }

-- ---- rows

-- contents are put by what there is to commit alone
bare-puts : (event : Event) → is_bare event ≡ true → puts_all event ≡ true
bare-puts (Event.Plain change) is = absurd (true≢false (sym is))
bare-puts (Event.Ready id (Part.Changes changes)) is = absurd (true≢false (sym is))
bare-puts (Event.Single id (Part.Changes changes)) is = absurd (true≢false (sym is))
bare-puts _ is = refl

-- by each row it says so, where it has said nothing before
pub says-led : (input : PhaseInput) (c : Course) → c.sent ≡ [] → c.events ≡ [] → is_outcome_of c.transaction.phase c.transaction ≡ true → Only (map naming c.enlistments) c.transaction.id c.caller
    → Says (map naming c.enlistments) c.transaction.id (led input c)
says-led input c silent none is only =
    let tells = led-keeps (Tells (map naming c.enlistments) c.transaction.id c.caller) (tells-step (map naming c.enlistments) c.transaction.id c.caller only) input c record { id = refl; caller_is = refl; named = refl; about = λ s there. absurd (subst (IsIn s) silent there) } in
    record {
      id = tells.id;
      named = tells.named;
      about = tells.about;
      tells = outcome_law.tells input c silent (known-in c.transaction.phase c.transaction is);
      events = λ puts.
          let files = sym (ap (list_all puts_some) (stays-led input c).changes) ∙ puts in
          passes-led puts_all input c none (bare-facts (λ e. puts_all e ≡ true) (basis c) bare-puts (files, files) (refl, refl));
    }
