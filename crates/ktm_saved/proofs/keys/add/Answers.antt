use Rattle.std.proofs.Common.{◌≡◌, ◌∙◌, ◌++◌, ◌∷◌, [], true, rules}
use Rattle.ktm_keyed.specs.Keyed.{is_rising, put}
use Rattle.ktm_snapshot.specs.Shown.{entry_of}
use Rattle.ktm_saved.proofs.RisingKeys.{put_last}
use Rattle.ktm_saved.proofs.keys.add.Goals as goal

pub returns-clause-added : goal.returns-clause-added
returns-clause-added c = λ is.
    let items = c.args.keys.now.items in
    let entry = entry_of c.args.entry.now in
    let key : c.new-key.result ≡ entry.key = search rules in
    let value : c.new-value.result ≡ entry.value = search rules in
    let rising : is_rising (items ++ entry ∷ []) ≡ true = search rules in
    c.in_ok-put.ensures.ok ∙ (λ i. put items (key i) (value i)) ∙ put_last items entry rising
