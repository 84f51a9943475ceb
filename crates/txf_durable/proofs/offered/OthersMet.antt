-- Changes meet what others hold where they meet what some other transaction holds, or make a node that it holds.
use Rattle.std.proofs.Common.{◌≡◌, ◌&&◌, ◌||◌, Bool, true, false, List, [], Option, refl, ap}
use Rattle.std.proofs.lemmas.Bool.{and_right}
use Rattle.std.proofs.lemmas.List.{append-nil}
use Rattle.std.specs.List.{list_any}
use Rattle.ktm_base.specs.declared.id.Id.{Id}
use Rattle.ktm_world.specs.declared.change.Change.{Change}
use Rattle.ktm_world.specs.Changes.{is_make, node_of}
use Rattle.ktm_world.specs.Durable.{acts_of_all}
use Rattle.ktm_world.specs.Holds.{Act, Holds, deletes, drops_directory, holds_by, is_in, makes, meets, moves_directory, moves_file, opens}
use Rattle.ktm_world.specs.Tree.{Tree}
use Rattle.txf_opens.proofs.Lists.{any_false, any_same}
use Rattle.txf_reserve.proofs.offered.Meeting.{tells_another}
use Rattle.txf_reserve.proofs.offered.SomeOther.{meets-same, tells_and, tells_any, tells_number, tells_or, tells_same, IsSomeAnd}
use Rattle.txf_reserve.specs.Checks.{holds_with, is_number_held, meets_another}
use Rattle.txf_reserve.specs.ReserveState.{ReserveState, holds_in, numbers_of, IsSameHold}
use Rattle.txf_durable.specs.Waiting.{is_met}

-- do changes meet what is held here, or make a node that is
abbrev pub meet_held : Holds → Tree → List Change → Bool
meet_held h tree changes = list_any (meets h) (acts_of_all tree changes) || list_any (λ change. is_make change && is_in h.nodes (node_of change)) changes

pub meet_held-same : (a b : Holds) (tree : Tree) (cs : List Change) → IsSameHold a b → meet_held a tree cs ≡ meet_held b tree cs
meet_held-same a b tree cs same = λ i.
    any_same (meets a) (meets b) (λ act. meets-same a b act same) (acts_of_all tree cs) i
    || any_same (λ c. is_make c && is_in a.nodes (node_of c)) (λ c. is_make c && is_in b.nodes (node_of c)) (λ c. ap (λ x. is_make c && x) (same.nodes (node_of c))) cs i

meets-none : (act : Act) → meets (holds_by [] [] []) act ≡ false
unfolding meets
meets-none (opens file true) = refl
meets-none (opens file false) = refl
meets-none (deletes file at) = refl
meets-none (moves_file file from to) = refl
meets-none (makes at) = refl
meets-none (drops_directory directory at) = refl
meets-none (moves_directory directory from to) = refl

-- what holds nothing is met by nothing
pub meet_held-none : (tree : Tree) (cs : List Change) → meet_held (holds_by [] [] []) tree cs ≡ false
meet_held-none tree cs = λ i.
    any_false (meets (holds_by [] [] [])) meets-none (acts_of_all tree cs) i
    || any_false (λ (c : Change). is_make c && false) (λ c. and_right (is_make c) false refl) cs i

-- with nothing open, changes alone hold
alone : (r : ReserveState) (id : Id) → IsSameHold (holds_with r [] id) (holds_in r id)
alone r id = record {
  nodes = λ n. ap (λ ns. is_in ns n) (append-nil (numbers_of r.nodes id));
  places = λ p. refl;
  uses = λ n. refl;
  dropped = λ n. refl;
  moves = refl;
}

pub tells_met : (who : Option Id) (r : ReserveState) (tree : Tree) (cs : List Change) → IsSomeAnd who (is_met r who tree cs) (λ id. meet_held (holds_in r id) tree cs)
unfolding is_met
tells_met who r tree cs =
    let acts = tells_any who (meets_another r [] who) (λ a id. meets (holds_with r [] id) a) (tells_another who r []) (acts_of_all tree cs) in
    let made = tells_any who (λ (c : Change). is_make c && is_number_held who r.nodes (node_of c)) (λ c id. is_make c && is_in (numbers_of r.nodes id) (node_of c))
    (λ c. tells_and who (is_make c) (is_number_held who r.nodes (node_of c)) (λ id. is_in (numbers_of r.nodes id) (node_of c)) (tells_number who r.nodes (node_of c))) cs in
    tells_same who (is_met r who tree cs) (λ id. list_any (meets (holds_with r [] id)) (acts_of_all tree cs) || list_any (λ c. is_make c && is_in (numbers_of r.nodes id) (node_of c)) cs)
    (λ id. meet_held (holds_in r id) tree cs)
    (λ id. ap (λ b. b || list_any (λ c. is_make c && is_in (numbers_of r.nodes id) (node_of c)) cs)
    (any_same (meets (holds_with r [] id)) (meets (holds_in r id)) (λ act. meets-same (holds_with r [] id) (holds_in r id) act (alone r id)) (acts_of_all tree cs)))
    (tells_or who _ _ _ _ acts made)
