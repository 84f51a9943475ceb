-- What steps leave of a course as it was: the superior, and what is read when it is recorded.
use Rattle.std.specs.Prelude.{if◌then◌else◌}
use Rattle.std.proofs.Common.{◌≡◌, ◌&&◌, Bool, true, false, List, [], ◌∷◌, map, Option, Some, None, is_some, refl, sym, ◌∙◌, ap, inl, inr}
use Rattle.std.proofs.lemmas.Bool.{cases_Bool}
use Rattle.ktm_base.specs.declared.id.Id.{Id}
use Rattle.ktm_world.specs.declared.step.Answered.{Answered}
use Rattle.ktm_world.specs.declared.step.Answered.TheVariants.{PrePrepared, Prepared, ReadOnly, Finished, Recovered}
use Rattle.ktm_world.specs.Enlistments.{Enlistment, is_superior, superior_of, with_enlistments}
use Rattle.ktm_world.specs.Phases.{Course, superior}
use Rattle.ktm_world.specs.Transactions.{same_id}
use Rattle.ktm_world.specs.Steps.{answered, basis, lasting, lasting_of}

-- a change that keeps what lasts keeps the superior
superior-kept : (id : Id) (f : Enlistment → Enlistment) → ((e : Enlistment) → lasting (f e) ≡ lasting e) → (es : List Enlistment) → lasting_of (superior_of (map f es) id) ≡ lasting_of (superior_of es id)
superior-kept id f same [] = refl
superior-kept id f same (e ∷ es) =
    let test : (same_id (f e).transaction id && is_superior (f e)) ≡ (same_id e.transaction id && is_superior e) = ap (λ (e : Enlistment). same_id e.transaction id && is_superior e) (same e) in
    elim (cases_Bool (same_id e.transaction id && is_superior e)) [
      | inl is ↦ rw (test ∙ is, is) (ap (λ (e : Enlistment). Some e) (same e))
      | inr other ↦ rw (test ∙ other, other) (superior-kept id f same es)
    ]

module _ (f : Enlistment → Enlistment) (same : (e : Enlistment) → lasting (f e) ≡ lasting e) where
  lasting-with : (b : Bool) (e : Enlistment) → lasting (if b then f e else e) ≡ lasting e
  lasting-with true e = same e
  lasting-with false e = refl

  -- enlistments that are changed so leave the superior
  pub superior-with : (test : Enlistment → Bool) (c : Course) → lasting_of (superior (record c { enlistments = with_enlistments test f c.enlistments })) ≡ lasting_of (superior c)
  superior-with test c = superior-kept c.transaction.id (λ e. if test e then f e else e) (λ e. lasting-with (test e) e) c.enlistments

  -- enlistments that are changed so leave what is read of a course when it is recorded
  pub basis-with : (test : Enlistment → Bool) (c : Course) → basis (record c { enlistments = with_enlistments test f c.enlistments }) ≡ basis c
  basis-with test c = ap (λ o. record (basis c) { superior = o }) (superior-with test c)

is_some-lasting : (o : Option Enlistment) → is_some (lasting_of o) ≡ is_some o
is_some-lasting None = refl
is_some-lasting (Some e) = refl

-- it has a superior where it had one
pub has_superior-kept : (c d : Course) → lasting_of (superior d) ≡ lasting_of (superior c) → is_some (superior d) ≡ is_some (superior c)
has_superior-kept c d same = sym (is_some-lasting (superior d)) ∙ ap is_some same ∙ is_some-lasting (superior c)

pub lasting-answered : (answer : Answered) (e : Enlistment) → lasting (answered answer e) ≡ lasting e
lasting-answered PrePrepared e = refl
lasting-answered Prepared e = refl
lasting-answered ReadOnly e = refl
lasting-answered Finished e = refl
lasting-answered Recovered e = refl
