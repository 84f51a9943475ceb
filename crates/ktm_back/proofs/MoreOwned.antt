-- Files and keys, of which more is transactions' own.
use Rattle.std.proofs.Common.{◌≡◌, ◌==◌, ◌&&◌, not, Bool, true, List, [], ◌∷◌, ◌++◌, append_assoc, filter, length, map, sym, ◌∙◌, ap, arith}
use Rattle.std.proofs.lemmas.Bool.{and_parts, ne_eqb, not_from_false, true≢false}
use Rattle.std.proofs.lemmas.List.{append-nil, map-append}
use Rattle.std.proofs.lemmas.List.Elements.{filter-append}
use Rattle.ktm_world.specs.declared.change.Change.{Change}
use Rattle.ktm_world.specs.Changes.{has_changes}
use Rattle.ktm_world.specs.Durable.{Recorded, are_recorded_changes, ends_in_bytes, gives_bytes, is_held, made_files}
use Rattle.ktm_world.specs.Files.{FilesNow, OwnChanges}
use Rattle.ktm_world.specs.Keys.{KeysNow, Own}
use Rattle.std.specs.List.{list_all}
use Rattle.ktm_back.specs.Restoring.{files_with_own, keys_with_own}

-- ---- nothing more, and more twice

pub files-none : (files : FilesNow) → files_with_own files [] ≡ files
files-none files = ap (λ (own : List OwnChanges). record files { table = record files.table { own = own } }) (append-nil files.table.own)

pub files-more : (files : FilesNow) (a b : List OwnChanges) → files_with_own (files_with_own files a) b ≡ files_with_own files (a ++ b)
files-more files a b = ap (λ (own : List OwnChanges). record files { table = record files.table { own = own } }) (append_assoc files.table.own a b)

pub keys-none : (keys : KeysNow) → keys_with_own keys [] ≡ keys
keys-none keys = ap (λ (own : List Own). record keys { own = own }) (append-nil keys.own)

pub keys-more : (keys : KeysNow) (a b : List Own) → keys_with_own (keys_with_own keys a) b ≡ keys_with_own keys (a ++ b)
keys-more keys a b = ap (λ (own : List Own). record keys { own = own }) (append_assoc keys.own a b)

-- ---- what one transaction is given

-- changes that are recorded are some
pub recorded-some : (cs : List Change) → are_recorded_changes cs ≡ true → has_changes cs ≡ true
recorded-some cs recorded = (and_parts (has_changes cs) (ends_in_bytes cs) (and_parts (has_changes cs && ends_in_bytes cs) (list_all (gives_bytes cs) (made_files cs)) recorded).0).0

-- a list with something in it is not empty
pub not-empty : (cs : List Change) → has_changes cs ≡ true → not (length cs == 0) ≡ true
not-empty [] some = absurd (true≢false (sym some))
not-empty (c ∷ cs) some = not_from_false _ (ne_eqb (length (c ∷ cs)) 0 (λ e. omega (arith, e)))

-- ---- what several are given

-- what two lists of transactions are given, one after another
pub back-append : {Y : Type 0} (of : Recorded → Y) (keep : Y → Bool) (ts us : List Recorded)
    → filter keep (map of (filter (λ t. is_held t.stage) ts)) ++ filter keep (map of (filter (λ t. is_held t.stage) us)) ≡ filter keep (map of (filter (λ t. is_held t.stage) (ts ++ us)))
back-append of keep ts us = sym
    (ap (λ (vs : List Recorded). filter keep (map of vs)) (filter-append (λ t. is_held t.stage) ts us)
    ∙ ap (filter keep) (map-append of (filter (λ t. is_held t.stage) ts) (filter (λ t. is_held t.stage) us))
    ∙ filter-append keep (map of (filter (λ t. is_held t.stage) ts)) (map of (filter (λ t. is_held t.stage) us)))
