-- Lemmas on values under names.
use Rattle.std.proofs.Common.{◌≡◌, List, ℕ, Option, Some, None, refl, sym, ap, ◌∙◌}
use Rattle.std.specs.Option.{option_map}
use Rattle.ktm_links.specs.declared.list.Key.{Key}
use Rattle.ktm_links.specs.Mapped.{NamedItem, at, key_at, without_name}
use Rattle.ktm_links.proofs.offered.Entries.{key_at-at, none_at}
use Rattle.txf_overlay.specs.Maps.{under}

module _ {T : Type 0} where
  pub at-none : (es : List (NamedItem T)) (name : List ℕ) → under es name ≡ None → at es name ≡ None
  at-none es name none = by_cases (at es name) none
    where
      by_cases : (o : Option (Key × T)) → option_map (λ (e : Key × T). e.1) o ≡ None → o ≡ None
      by_cases None none = refl
      by_cases (Some e) none = absurd (cc)

  pub key_at-free : (es : List (NamedItem T)) (name : List ℕ) → at es name ≡ None → key_at es name ≡ None
  key_at-free es name none = key_at-at es name ∙ ap (λ (o : Option (Key × T)). option_map (λ e. e.0) o) none

  -- what is not there is not taken out
  pub without-absent : (es : List (NamedItem T)) (name : List ℕ) → under es name ≡ None → without_name es name ≡ es
  without-absent es name none = sym (none_at es name (sym (key_at-free es name (at-none es name none)))).1
