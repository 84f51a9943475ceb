-- What counts of the enlistments of a transaction.
use Rattle.std.specs.Prelude.{◌≡◌, ℕ, ◌&&◌, ◌||◌, not, Bool, true, List, count_by, is_some}
use Rattle.ktm_base.specs.declared.id.Id.{Id}
use Rattle.ktm_world.specs.Enlistments.{Enlistment, allows_one_phase, asks_pre_prepare, is_superior, takes_part}
use Rattle.ktm_world.specs.Transactions.{same_id}
use Rattle.ktm_enlist.specs.declared.counts.Counts.{Counts}

-- how many of the enlistments that take part in the transaction pass the test
abbrev pub parts : Id → (Enlistment → Bool) → List Enlistment → ℕ
parts id test es = count_by (λ e. takes_part id e && test e) es

-- these are the counts of the enlistments for the transaction
pub record AreCounts (c : Counts) (id : Id) (es : List Enlistment) : Type 0 where
  pub enlistments : c.enlistments ≡ parts id (λ e. true) es
  pub asking : c.asking ≡ parts id asks_pre_prepare es
  pub in_one_phase : c.in_one_phase ≡ parts id allows_one_phase es
  pub owing : c.owing ≡ parts id (λ e. is_some e.owes) es

-- is an enlistment of the transaction live as long as that has not ended
abbrev pub is_live_until_end : Id → Enlistment → Bool
is_live_until_end id e = same_id e.transaction id && (is_superior e || (not e.is_read_only && not e.is_finished))
