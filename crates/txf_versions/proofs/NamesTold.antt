-- Lemmas on what a name tells.
use Rattle.std.proofs.Common.{◌≡◌, ℕ, ◌/◌, ◌%◌, ◌&&◌, ◌||◌, Bool, true, false, eqb, ltb, cond, List, [], refl, sym, ap, ◌∙◌, arith}
use Rattle.std.specs.Cmp.{nat_cmp_is}
use Rattle.std.specs.Ordering.{is_lt, nat_cmp, ordering_then}
use Rattle.std.specs.declared.cmp.Ordering.{Ordering}
use Rattle.std.specs.declared.cmp.Ordering.TheVariants.{Less, Equal, Greater}
use Rattle.std.proofs.lemmas.Bool.{and_from, and_parts, eqb-true, eq-eqb}
use Rattle.std.proofs.lemmas.Cmp.{ranked}
use Rattle.ktm_base.specs.declared.id.Id.{Id}
use Rattle.ktm_world.specs.Transactions.{same_id}
use Rattle.ktm_links.specs.Mapped.{Begins, name_cmp}
use Rattle.txf_versions.specs.declared.kept.Older.{Older}
use Rattle.txf_versions.specs.declared.opened.Opened.{Opened}
use Rattle.ktm_links.specs.Numbers.{number_bytes, long_bytes}
use Rattle.txf_versions.specs.Names.{holder_name, own_name, open_name, transaction_bytes, version_bytes}
use Rattle.txf_versions.specs.VersionsState.{comes_before, fixes, is_open_of, is_own, is_version}
use Rattle.ktm_links.proofs.offered.Numbers.{number_from}

-- ---- numbers

word_from : (n m : ℕ) (left right : List ℕ) → number_bytes n left ≡ number_bytes m right → (n ≡ m) × (left ≡ right)
word_from n m left right same = (number_from n m (cc) (cc) (cc) (cc), cc)

halves : (n m : ℕ) → n / 4294967296 ≡ m / 4294967296 → n % 4294967296 ≡ m % 4294967296 → n ≡ m
halves n m high low = omega arith

long_from : (n m : ℕ) (left right : List ℕ) → long_bytes n left ≡ long_bytes m right → (n ≡ m) × (left ≡ right)
long_from n m left right same =
    let high = word_from (n / 4294967296) (m / 4294967296) (number_bytes (n % 4294967296) left) (number_bytes (m % 4294967296) right) same in
    let low = word_from (n % 4294967296) (m % 4294967296) left right high.1 in
    (halves n m high.0 low.0, low.1)

-- ---- transactions and versions
transaction_from : (a b : Id) (left right : List ℕ) → transaction_bytes a left ≡ transaction_bytes b right → (same_id a b ≡ true) × (left ≡ right)
transaction_from a b left right same =
    let boot = word_from a.boot b.boot (number_bytes a.number left) (number_bytes b.number right) same in
    let number = word_from a.number b.number left right boot.1 in (
      and_from (eqb a.boot b.boot) (eqb a.number b.number) (eq-eqb a.boot b.boot boot.0) (eq-eqb a.number b.number number.0),
      number.1,
    )

transaction_to : (a b : Id) (rest : List ℕ) → same_id a b ≡ true → transaction_bytes a rest ≡ transaction_bytes b rest
transaction_to a b rest same =
    let parts = and_parts (eqb a.boot b.boot) (eqb a.number b.number) same in
    rw (eqb-true a.boot b.boot parts.0, eqb-true a.number b.number parts.1) refl

version_from : (f v g w : ℕ) (left right : List ℕ) → version_bytes f v left ≡ version_bytes g w right → ((eqb f g && eqb v w) ≡ true) × (left ≡ right)
version_from f v g w left right same =
    let file = long_from f g (long_bytes v left) (long_bytes w right) same in
    let version = long_from v w left right file.1 in
    (and_from (eqb f g) (eqb v w) (eq-eqb f g file.0) (eq-eqb v w version.0), version.1)

version_to : (f v g w : ℕ) (rest : List ℕ) → (eqb f g && eqb v w) ≡ true → version_bytes f v rest ≡ version_bytes g w rest
version_to f v g w rest same =
    let parts = and_parts (eqb f g) (eqb v w) same in
    rw (eqb-true f g parts.0, eqb-true v w parts.1) refl

-- ---- first opens
pub open_from : (transaction : Id) (file : ℕ) (o : Opened) → own_name o ≡ open_name transaction file → is_open_of transaction file o ≡ true
open_from transaction file o same =
    let own = transaction_from o.transaction transaction (long_bytes o.file []) (long_bytes file []) same in
    let of_file = long_from o.file file [] [] own.1 in
    and_from (same_id o.transaction transaction) (eqb o.file file) own.0 (eq-eqb o.file file of_file.0)

pub open_to : (transaction : Id) (file : ℕ) (o : Opened) → is_open_of transaction file o ≡ true → own_name o ≡ open_name transaction file
open_to transaction file o is =
    let parts = and_parts (same_id o.transaction transaction) (eqb o.file file) is in
    transaction_to o.transaction transaction (long_bytes o.file []) parts.0
    ∙ ap (λ n. transaction_bytes transaction (long_bytes n [])) (eqb-true o.file file parts.1)

pub own_from : (transaction : Id) (o : Opened) → Begins (transaction_bytes transaction []) (own_name o) → is_own transaction o ≡ true
own_from transaction o begins = (transaction_from o.transaction transaction (long_bytes o.file []) begins.after begins.is).0

pub own_to : (transaction : Id) (o : Opened) → is_own transaction o ≡ true → Begins (transaction_bytes transaction []) (own_name o)
own_to transaction o is = record { after = long_bytes o.file []; is = transaction_to o.transaction transaction (long_bytes o.file []) is }

pub fixes_from : (file version : ℕ) (o : Opened) → Begins (version_bytes file version []) (holder_name o) → fixes file version o ≡ true
fixes_from file version o begins = (version_from o.file o.version file version (transaction_bytes o.transaction []) begins.after begins.is).0

pub fixes_to : (file version : ℕ) (o : Opened) → fixes file version o ≡ true → Begins (version_bytes file version []) (holder_name o)
fixes_to file version o is =
    record { after = transaction_bytes o.transaction []; is = version_to o.file o.version file version (transaction_bytes o.transaction []) is }

-- a name by version tells the transaction and the file, too
pub holder_from : (it o : Opened) → holder_name o ≡ holder_name it → is_open_of it.transaction it.file o ≡ true
holder_from it o same =
    let version = version_from o.file o.version it.file it.version (transaction_bytes o.transaction []) (transaction_bytes it.transaction []) same in
    let own = transaction_from o.transaction it.transaction [] [] version.1 in
    let parts = and_parts (eqb o.file it.file) (eqb o.version it.version) version.0 in
    and_from (same_id o.transaction it.transaction) (eqb o.file it.file) own.0 parts.0

-- ---- older versions
pub version_name-from : (file version : ℕ) (v : Older) → version_bytes v.file v.version [] ≡ version_bytes file version [] → is_version file version v ≡ true
version_name-from file version v same = (version_from v.file v.version file version [] [] same).0

pub version_name-to : (file version : ℕ) (v : Older) → is_version file version v ≡ true → version_bytes v.file v.version [] ≡ version_bytes file version []
version_name-to file version v is = version_to v.file v.version file version [] is

-- ---- the order of names
-- the quotients decide, or else the remainders do
bytes_order : (n m q r : ℕ) → n / 256 ≡ q → m / 256 ≡ r → ordering_then (nat_cmp q r) (nat_cmp (n % 256) (m % 256)) ≡ nat_cmp n m
bytes_order n m q r left right = by_order (nat_cmp q r) (nat_cmp (n % 256) (m % 256)) refl refl
  where
    by_order : (o p : Ordering) → o ≡ nat_cmp q r → p ≡ nat_cmp (n % 256) (m % 256) → ordering_then o p ≡ nat_cmp n m
    by_order Less p high low = let less = ranked q r Less high in nat_cmp_is n m Less (omega arith)
    by_order Equal Less high low = let same = ranked q r Equal high in let less = ranked (n % 256) (m % 256) Less low in nat_cmp_is n m Less (omega arith)
    by_order Equal Equal high low = let same = ranked q r Equal high in let equal = ranked (n % 256) (m % 256) Equal low in nat_cmp_is n m Equal (omega arith)
    by_order Equal Greater high low =
        let same = ranked q r Equal high in let more = ranked (n % 256) (m % 256) Greater low in nat_cmp_is n m Greater (omega arith)
    by_order Greater p high low = let more = ranked q r Greater high in nat_cmp_is n m Greater (omega arith)

words_order : (n m q r : ℕ) → n / 4294967296 ≡ q → m / 4294967296 ≡ r
    → ordering_then (nat_cmp q r) (nat_cmp (n % 4294967296) (m % 4294967296)) ≡ nat_cmp n m
words_order n m q r left right = by_order (nat_cmp q r) (nat_cmp (n % 4294967296) (m % 4294967296)) refl refl
  where
    by_order : (o p : Ordering) → o ≡ nat_cmp q r → p ≡ nat_cmp (n % 4294967296) (m % 4294967296) → ordering_then o p ≡ nat_cmp n m
    by_order Less p high low = let less = ranked q r Less high in nat_cmp_is n m Less (omega arith)
    by_order Equal Less high low =
        let same = ranked q r Equal high in let less = ranked (n % 4294967296) (m % 4294967296) Less low in nat_cmp_is n m Less (omega arith)
    by_order Equal Equal high low =
        let same = ranked q r Equal high in let equal = ranked (n % 4294967296) (m % 4294967296) Equal low in nat_cmp_is n m Equal (omega arith)
    by_order Equal Greater high low =
        let same = ranked q r Equal high in let more = ranked (n % 4294967296) (m % 4294967296) Greater low in nat_cmp_is n m Greater (omega arith)
    by_order Greater p high low = let more = ranked q r Greater high in nat_cmp_is n m Greater (omega arith)

then_assoc : (a b c : Ordering) → ordering_then (ordering_then a b) c ≡ ordering_then a (ordering_then b c)
then_assoc Less b c = refl
then_assoc Equal b c = refl
then_assoc Greater b c = refl

joined : (a b c d : Ordering) → ordering_then a b ≡ d → ordering_then a (ordering_then b c) ≡ ordering_then d c
joined a b c d is = sym (then_assoc a b c) ∙ ap (λ o. ordering_then o c) is

-- numbers come first in the order of names
word_order : (n m : ℕ) (left right : List ℕ) → name_cmp (number_bytes n left) (number_bytes m right) ≡ ordering_then (nat_cmp n m) (name_cmp left right)
word_order n m left right =
    let rest : Ordering = name_cmp left right in
    let last : Ordering = nat_cmp (n % 256) (m % 256) in
    let third : Ordering = nat_cmp (n / 256 % 256) (m / 256 % 256) in
    joined (nat_cmp (n / 16777216) (m / 16777216)) (nat_cmp (n / 65536 % 256) (m / 65536 % 256)) (ordering_then third (ordering_then last rest))
    (nat_cmp (n / 65536) (m / 65536)) (bytes_order (n / 65536) (m / 65536) (n / 16777216) (m / 16777216) (omega arith) (omega arith))
    ∙ joined (nat_cmp (n / 65536) (m / 65536)) third (ordering_then last rest) (nat_cmp (n / 256) (m / 256))
    (bytes_order (n / 256) (m / 256) (n / 65536) (m / 65536) (omega arith) (omega arith))
    ∙ joined (nat_cmp (n / 256) (m / 256)) last rest (nat_cmp n m) (bytes_order n m (n / 256) (m / 256) refl refl)

long_order : (n m : ℕ) (left right : List ℕ) → name_cmp (long_bytes n left) (long_bytes m right) ≡ ordering_then (nat_cmp n m) (name_cmp left right)
long_order n m left right =
    word_order (n / 4294967296) (m / 4294967296) (number_bytes (n % 4294967296) left) (number_bytes (m % 4294967296) right)
    ∙ ap (λ o. ordering_then (nat_cmp (n / 4294967296) (m / 4294967296)) o) (word_order (n % 4294967296) (m % 4294967296) left right)
    ∙ joined (nat_cmp (n / 4294967296) (m / 4294967296)) (nat_cmp (n % 4294967296) (m % 4294967296)) (name_cmp left right) (nat_cmp n m)
    (words_order n m (n / 4294967296) (m / 4294967296) refl refl)

is_lt-then : (a b c d : ℕ) → is_lt (ordering_then (nat_cmp a b) (ordering_then (nat_cmp c d) Equal)) ≡ (ltb a b || (eqb a b && ltb c d))
is_lt-then a b c d = by_cases (ltb a b) (eqb a b) (ltb c d) (eqb c d)
  where
    by_cases : (p q r s : Bool)
        → is_lt (ordering_then (cond p Less (cond q Equal Greater)) (ordering_then (cond r Less (cond s Equal Greater)) Equal)) ≡ (p || (q && r))
    by_cases true q r s = refl
    by_cases false true true s = refl
    by_cases false true false true = refl
    by_cases false true false false = refl
    by_cases false false r s = refl

-- versions are in the order of their names
pub before-name : (v w : Older) → is_lt (name_cmp (version_bytes v.file v.version []) (version_bytes w.file w.version [])) ≡ comes_before v w
before-name v w =
    ap is_lt
    (long_order v.file w.file (long_bytes v.version []) (long_bytes w.version [])
    ∙ ap (λ o. ordering_then (nat_cmp v.file w.file) o) (long_order v.version w.version [] []))
    ∙ is_lt-then v.file w.file v.version w.version
