use Rattle.std.proofs.Common.{◌≡◌, ◌∙◌, Bor, None, Option, Some, ap, is_some, refl, subst}
use Rattle.std.specs.Option.{option_copied}
use Rattle.ktm_world.specs.Enlistments.{superior_of}
use Rattle.ktm_enlist.specs.Counts.{AreCounts}
use Rattle.ktm_tm.specs.TmState.{TmState}
use Rattle.ktm_tm.proofs.OnCourse.{seen_is}
use Rattle.ktm_tm.proofs.tm.Tm.seen.Goals as goal

copied : {A : Type 0} (o : Option (Bor A)) → is_some o ≡ is_some (option_copied o)
copied None = refl
copied (Some e) = refl

pub returns : goal.returns
returns c = λ course caller is.
    seen_is c.args.self.now c.args.t.now caller c.args.has_files c.args.has_keys course c.counts-counts.result c.is_some.result is
    (subst (λ (s : TmState). AreCounts c.counts-counts.result c.args.t.now.id s.now.enlistments) c.self.view_is c.counts-counts.ensures)
    (c.is_some.ensures ∙ copied c.superior.result ∙ ap is_some c.superior.ensures ∙ ap (λ (s : TmState). is_some (superior_of s.now.enlistments c.args.t.now.id)) c.self.view_is)
