-- Pieces of a state that are written at the end, one behind the other.
use Rattle.std.proofs.Common.{◌≡◌, ℕ, Bool, true, List, [], ◌∷◌, ◌++◌, length, refl, ◌∙◌, ap, subst, append_assoc}
use Rattle.ktm_base.specs.Grammar.{IsU32, IsU64, IsListOf, Then}
use Rattle.ktm_codec.specs.Spans.{Adds}
use Rattle.ktm_codec.proofs.Adding.{adds_no_items, adds_then, row-push}
use Rattle.ktm_content.specs.Places.{LieOn}
use Rattle.ktm_world.specs.declared.event.Part.{Part}
use Rattle.ktm_world.specs.EventGrammar.{IsPartOf}
use Rattle.ktm_snapshot.specs.Works.{is_work, placed_part}
use Rattle.ktm_snapshot.specs.Pieces.{IsFrontOf, AddsItems, ListIsWritten, StateIsWritten}
use Rattle.ktm_snapshot.specs.StateGrammar.{IsContentsOf, IsMarkOf, IsPlacedPartOf, IsMarkedOf}

module _ {X : Type 0} (Item : X → List ℕ → Type 0) where
  adds_one_more : (Count : List ℕ → Type 0) (xs : List X) (x : X) (a b c : List ℕ) → Adds (IsFrontOf Count Item xs) a b → Adds (Item x) b c → Adds (IsFrontOf Count Item (xs ++ x ∷ [])) a c
  adds_one_more Count xs x a b c front item =
      let (first, second, is, count, row) = front.form in
      record {
        more = front.more ++ item.more;
        is = item.is ∙ ap (λ (l : List ℕ). l ++ item.more) front.is ∙ append_assoc a front.more item.more;
        form = (first, second ++ item.more, ap (λ (l : List ℕ). l ++ item.more) is ∙ append_assoc first second item.more, count, row-push Item xs x second item.more row item.form);
      }

  pub adds_items : (Count : List ℕ → Type 0) → AddsItems Count Item
  adds_items Count = record { begins = λ a b count. adds_no_items Item Count a b count; goes_on = adds_one_more Count }

  pub list_written : (rises : List X → Bool) → ListIsWritten rises Item
  list_written rises xs a b front rising = record { more = front.more; is = front.is; form = record { rising = rising; listed = front.form } }

pub state_written : StateIsWritten
state_written s a b c d e f head nodes entries managers transactions =
    let to_nodes = adds_then _ _ a b c head nodes in
    let to_entries = adds_then _ _ a c d to_nodes entries in
    let to_managers = adds_then _ _ a d e to_entries managers in
    let all = adds_then _ _ a e f to_managers transactions in
    record { more = all.more; is = all.is; form = record { spelled = all.form } }

-- contents, as they lie on pages
pub contents_written : {contents pages : List ℕ} {size : ℕ} {a b c : List ℕ} → size ≡ length contents → LieOn pages contents → Adds (IsU64 size) a b → Adds (IsListOf IsU32 pages) b c → Adds (IsContentsOf contents) a c
contents_written {contents} {pages} {size} {a} {b} {c} same lie first second =
    let both = adds_then (IsU64 size) (IsListOf IsU32 pages) a b c first second in
    record { more = both.more; is = both.is; form = record { pages = pages; lie = lie; spelled = subst (λ (n : ℕ). Then (IsU64 n) (IsListOf IsU32 pages) both.more) same both.form } }

-- a recorded part behind its mark
pub part_written : (is_done : Bool) (recorded : Part) {a b c : List ℕ} → is_work recorded ≡ true → Adds (IsMarkOf is_done) a b → Adds (IsPartOf recorded) b c
    → Adds (IsMarkedOf (record { is_done = is_done; part = placed_part recorded })) a c
part_written is_done recorded {a} {b} {c} work mark part =
    adds_then (IsMarkOf is_done) (IsPlacedPartOf (placed_part recorded)) a b c mark
    (record { more = part.more; is = part.is; form = record { recorded = recorded; work = work; placed = refl; spelled = part.form } })
