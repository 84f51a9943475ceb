-- Lemmas on the names of open files.
use Rattle.std.proofs.Common.{◌≡◌, ℕ, ◌/◌, ◌%◌, ◌&&◌, true, eqb, List, [], ◌∷◌, Option, Some, None, is_some, refl, ap, ◌∙◌, arith}
use Rattle.std.proofs.lemmas.Bool.{and_parts, and_from, eqb-true, eq-eqb}
use Rattle.ktm_base.specs.declared.id.Id.{Id}
use Rattle.ktm_world.specs.Conflicts.{same_group}
use Rattle.ktm_world.specs.Files.{OpenFile}
use Rattle.ktm_world.specs.Transactions.{is_of}
use Rattle.ktm_links.specs.Mapped.{Begins}
use Rattle.ktm_links.specs.Numbers.{number_bytes, long_bytes}
use Rattle.txf_opens.specs.Names.{boot_of, group_bytes, group_name, kind_of, number_name, number_of, use_name}
use Rattle.ktm_links.proofs.offered.Numbers.{number_from}

-- ---- numbers

halves : (a b : ℕ) → a / 4294967296 ≡ b / 4294967296 → a % 4294967296 ≡ b % 4294967296 → a ≡ b
halves a b high low = omega arith

pub number_tells : (a b : ℕ) (left right : List ℕ) → number_bytes a left ≡ number_bytes b right → a ≡ b
number_tells a b left right same = number_from a b (cc) (cc) (cc) (cc)

pub number_leaves : (a b : ℕ) (left right : List ℕ) → number_bytes a left ≡ number_bytes b right → left ≡ right
number_leaves a b left right same = cc

pub node_tells : (a b : ℕ) (left right : List ℕ) → long_bytes a left ≡ long_bytes b right → a ≡ b
node_tells a b left right same =
    let high = number_tells (a / 4294967296) (b / 4294967296) (number_bytes (a % 4294967296) left) (number_bytes (b % 4294967296) right) same in
    let rest = number_leaves (a / 4294967296) (b / 4294967296) (number_bytes (a % 4294967296) left) (number_bytes (b % 4294967296) right) same in
    halves a b high (number_tells (a % 4294967296) (b % 4294967296) left right rest)

pub node_leaves : (a b : ℕ) (left right : List ℕ) → long_bytes a left ≡ long_bytes b right → left ≡ right
node_leaves a b left right same =
    number_leaves (a % 4294967296) (b % 4294967296) left right
    (number_leaves (a / 4294967296) (b / 4294967296) (number_bytes (a % 4294967296) left) (number_bytes (b % 4294967296) right) same)

-- ---- groups
kind_tells : (a b : Option Id) (left right : List ℕ) → group_bytes a left ≡ group_bytes b right → kind_of a ≡ kind_of b
kind_tells a b left right same = cc

kind_leaves : (a b : Option Id) (left right : List ℕ) → group_bytes a left ≡ group_bytes b right
    → number_bytes (boot_of a) (number_bytes (number_of a) left) ≡ number_bytes (boot_of b) (number_bytes (number_of b) right)
kind_leaves a b left right same = cc

pub group_leaves : (a b : Option Id) (left right : List ℕ) → group_bytes a left ≡ group_bytes b right → left ≡ right
group_leaves a b left right same =
    number_leaves (number_of a) (number_of b) left right
    (number_leaves (boot_of a) (boot_of b) (number_bytes (number_of a) left) (number_bytes (number_of b) right) (kind_leaves a b left right same))

same_group-from : (a b : Option Id) → kind_of a ≡ kind_of b → boot_of a ≡ boot_of b → number_of a ≡ number_of b → same_group a b ≡ true
same_group-from None None kind boot number = refl
same_group-from None (Some b) kind boot number = absurd (omega arith)
same_group-from (Some a) None kind boot number = absurd (omega arith)
same_group-from (Some a) (Some b) kind boot number =
    and_from (eqb a.boot b.boot) (eqb a.number b.number) (eq-eqb a.boot b.boot boot) (eq-eqb a.number b.number number)

pub same_group-true : (a b : Option Id) → same_group a b ≡ true → a ≡ b
same_group-true None None same = refl
same_group-true None (Some b) same = absurd (cc)
same_group-true (Some a) None same = absurd (cc)
same_group-true (Some a) (Some b) same =
    let parts = and_parts (eqb a.boot b.boot) (eqb a.number b.number) same in
    made a.boot a.number b.boot b.number (eqb-true a.boot b.boot parts.0) (eqb-true a.number b.number parts.1)
  where
    made : (boot number boot' number' : ℕ) → boot ≡ boot' → number ≡ number'
        → ◌≡◌ {A = Option Id} (Some (record { boot = boot; number = number })) (Some (record { boot = boot'; number = number' }))
    made boot number boot' number' same_boot same_number = rw (same_boot, same_number) refl

pub group_tells : (a b : Option Id) (left right : List ℕ) → group_bytes a left ≡ group_bytes b right → same_group a b ≡ true
group_tells a b left right same =
    let rest = kind_leaves a b left right same in
    let boot = number_tells (boot_of a) (boot_of b) (number_bytes (number_of a) left) (number_bytes (number_of b) right) rest in
    let number =
    number_tells (number_of a) (number_of b) left right
    (number_leaves (boot_of a) (boot_of b) (number_bytes (number_of a) left) (number_bytes (number_of b) right) rest) in
    same_group-from a b (kind_tells a b left right same) boot number

-- what is of a transaction is of its group
pub is_of-group : (id : Id) (other : Option Id) → is_of id other ≡ same_group (Some id) other
is_of-group id None = refl
is_of-group id (Some other) = refl

-- ---- names tell numbers
pub number_name-tells : (a b : OpenFile) → number_name a ≡ number_name b → a.number ≡ b.number
number_name-tells a b same = number_tells a.number b.number [] [] same

pub group_name-tells : (a b : OpenFile) → group_name a ≡ group_name b → a.number ≡ b.number
group_name-tells a b same = number_name-tells a b (group_leaves a.transaction b.transaction (number_name a) (number_name b) same)

pub use_name-tells : (a b : OpenFile) → use_name a ≡ use_name b → a.number ≡ b.number
use_name-tells a b same = group_name-tells a b (node_leaves a.node b.node (group_name a) (group_name b) same)

-- ---- what names begin with
pub group_begins : (group : Option Id) (o : OpenFile) → Begins (group_bytes group []) (group_name o) → same_group o.transaction group ≡ true
group_begins group o begins = group_tells o.transaction group (number_name o) begins.after begins.is

pub begins_group : (group : Option Id) (o : OpenFile) → same_group o.transaction group ≡ true → Begins (group_bytes group []) (group_name o)
begins_group group o same = record { after = number_name o; is = ap (λ g. group_bytes g (number_name o)) (same_group-true o.transaction group same) }

pub use_begins : (node : ℕ) (group : Option Id) (o : OpenFile) → Begins (long_bytes node (group_bytes group [])) (use_name o)
    → (same_group o.transaction group && eqb o.node node) ≡ true
use_begins node group o begins =
    let same_node = node_tells o.node node (group_name o) (group_bytes group begins.after) begins.is in
    let rest = node_leaves o.node node (group_name o) (group_bytes group begins.after) begins.is in
    and_from (same_group o.transaction group) (eqb o.node node) (group_tells o.transaction group (number_name o) begins.after rest) (eq-eqb o.node node same_node)

pub begins_use : (node : ℕ) (group : Option Id) (o : OpenFile) → (same_group o.transaction group && eqb o.node node) ≡ true
    → Begins (long_bytes node (group_bytes group [])) (use_name o)
begins_use node group o same =
    let parts = and_parts (same_group o.transaction group) (eqb o.node node) same in
    record {
      after = number_name o;
      is =
          ap (λ n. long_bytes n (group_name o)) (eqb-true o.node node parts.1)
          ∙ ap (λ g. long_bytes node (group_bytes g (number_name o))) (same_group-true o.transaction group parts.0);
    }

kind_some : (group : Option Id) → kind_of group ≡ 1 → is_some group ≡ true
kind_some None is = absurd (omega arith)
kind_some (Some id) is = refl

some_kind : (group : Option Id) → is_some group ≡ true → kind_of group ≡ 1
some_kind None is = absurd (cc)
some_kind (Some id) is = refl

pub transacted_begins : (node : ℕ) (o : OpenFile) → Begins (long_bytes node (1 ∷ [])) (use_name o) → (is_some o.transaction && eqb o.node node) ≡ true
transacted_begins node o begins =
    let same_node = node_tells o.node node (group_name o) (1 ∷ begins.after) begins.is in
    let rest = node_leaves o.node node (group_name o) (1 ∷ begins.after) begins.is in
    let kind : kind_of o.transaction ≡ 1 = cc in
    and_from (is_some o.transaction) (eqb o.node node) (kind_some o.transaction kind) (eq-eqb o.node node same_node)

pub begins_transacted : (node : ℕ) (o : OpenFile) → (is_some o.transaction && eqb o.node node) ≡ true → Begins (long_bytes node (1 ∷ [])) (use_name o)
begins_transacted node o same =
    let parts = and_parts (is_some o.transaction) (eqb o.node node) same in
    record {
      after = number_bytes (boot_of o.transaction) (number_bytes (number_of o.transaction) (number_name o));
      is =
          ap (λ n. long_bytes n (group_name o)) (eqb-true o.node node parts.1)
          ∙ ap (λ k. long_bytes node (k ∷ number_bytes (boot_of o.transaction) (number_bytes (number_of o.transaction) (number_name o)))) (some_kind o.transaction parts.0);
    }
