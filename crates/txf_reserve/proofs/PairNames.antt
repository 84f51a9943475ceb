-- Lemmas on the names of pairs.
use Rattle.std.proofs.Common.{◌≡◌, ℕ, ◌/◌, ◌%◌, true, false, eqb, List, [], ◌∷◌, ◌++◌, length, Option, Some, refl, sym, ap, ◌∙◌, arith, append_assoc}
use Rattle.std.proofs.lemmas.Bool.{and_from, eq-eqb}
use Rattle.std.proofs.lemmas.Cmp.{nat_cmp_total, tied_itself}
use Rattle.std.proofs.lemmas.Option.{same_Some}
use Rattle.ktm_base.specs.declared.id.Id.{Id}
use Rattle.ktm_world.specs.Transactions.{is_of, same_id}
use Rattle.ktm_links.specs.Mapped.{Begins, IsNotBelow}
use Rattle.ktm_links.specs.Numbers.{number_bytes}
use Rattle.txf_opens.proofs.Bytes.{is_of-group, number_leaves, number_tells, same_group-true}
use Rattle.txf_reserve.specs.HeldPairs.{id_bytes, key_bytes, key_name, number_from, owner_name}

-- ---- transactions
pub same_ids : (a b : Id) → same_id a b ≡ true → a ≡ b
same_ids a b same = same_Some a b (same_group-true (Some a) (Some b) same)

pub id_self : (a : Id) → same_id a a ≡ true
id_self a = and_from (eqb a.boot a.boot) (eqb a.number a.number) (eq-eqb a.boot a.boot refl) (eq-eqb a.number a.number refl)

pub other_ids : (a b : Id) → same_id a b ≡ false → a ≡ b → ⊥
other_ids a b other same = let yes : same_id a b ≡ true = ap (same_id a) (sym same) ∙ id_self a in absurd (cc)

-- what is of a transaction is its own
pub own_is : (id : Id) (who : Option Id) → is_of id who ≡ true → who ≡ Some id
own_is id who own = sym (same_group-true (Some id) who (sym (is_of-group id who) ∙ own))

-- ---- keys
append_parts : (a a' b b' : List ℕ) → length a ≡ length a' → a ++ b ≡ a' ++ b' → (a ≡ a') × (b ≡ b')
append_parts [] [] b b' same is = (refl, is)
append_parts [] (y ∷ ys) b b' same is = absurd (omega arith)
append_parts (x ∷ xs) [] b b' same is = absurd (omega arith)
append_parts (x ∷ xs) (y ∷ ys) b b' same is =
    let head : x ≡ y = cc in
    let tails : xs ++ b ≡ ys ++ b' = cc in
    let rest = append_parts xs ys b b' (omega arith) tails in
    (ap (λ h. h ∷ xs) head ∙ ap (λ l. y ∷ l) rest.0, rest.1)

length_from : (a b : ℕ) → a / 256 ≡ b / 256 → a % 256 ≡ b % 256 → a ≡ b
length_from a b high low = omega arith

-- a name by the key tells the key, and what comes behind it
pub key_tells : (a b l r : List ℕ) → key_bytes a ++ l ≡ key_bytes b ++ r → (a ≡ b) × (l ≡ r)
key_tells a b l r same =
    let long : length a ≡ length b = length_from (length a) (length b) (cc) (cc) in
    let rest : a ++ l ≡ b ++ r = cc in
    append_parts a b l r long rest

-- the bytes of a transaction tell it, and what comes behind them
pub id_tells : (a b : Id) (l r : List ℕ) → id_bytes a l ≡ id_bytes b r → (a ≡ b) × (l ≡ r)
id_tells a b l r same =
    let boot = number_tells a.boot b.boot (number_bytes a.number l) (number_bytes b.number r) same in
    let rest = number_leaves a.boot b.boot (number_bytes a.number l) (number_bytes b.number r) same in
    let number = number_tells a.number b.number l r rest in
    (made a.boot a.number b.boot b.number boot number, number_leaves a.number b.number l r rest)
  where
    made : (boot number boot' number' : ℕ) → boot ≡ boot' → number ≡ number' → ◌≡◌ {A = Id} (record { boot = boot; number = number }) (record { boot = boot'; number = number' })
    made boot number boot' number' boot_is number_is = rw (boot_is, number_is) refl

pub key_name-tells : (a b : List ℕ) (i j : Id) → key_name a i ≡ key_name b j → (a ≡ b) × (i ≡ j)
key_name-tells a b i j same =
    let parts = key_tells a b (id_bytes i []) (id_bytes j []) same in
    (parts.0, (id_tells i j [] [] parts.1).0)

pub key_begins : (key other : List ℕ) (id : Id) → Begins (key_bytes key) (key_name other id) → other ≡ key
key_begins key other id begins = (key_tells other key (id_bytes id []) begins.after begins.is).0

pub begins_key : (key : List ℕ) (id : Id) → Begins (key_bytes key) (key_name key id)
begins_key key id = record { after = id_bytes id []; is = refl }

pub begins_behind : (key : List ℕ) (id : Id) (after : List ℕ) → Begins (key_bytes key) (key_name key id ++ after)
begins_behind key id after = record { after = id_bytes id [] ++ after; is = append_assoc (key_bytes key) (id_bytes id []) after }

pub owner_begins : (id other : Id) (key : List ℕ) → Begins (id_bytes id []) (owner_name other key) → other ≡ id
owner_begins id other key begins = (id_tells other id key begins.after begins.is).0

-- the number of which these are the bytes
pub number_from-bytes : (n : ℕ) → number_from (n / 16777216) (n / 65536 % 256) (n / 256 % 256) (n % 256) ≡ n
number_from-bytes n = omega arith

-- ---- the order of names

-- a name is below the one right after it
pub not_behind : (n : List ℕ) → IsNotBelow n (n ++ 0 ∷ []) → ⊥
not_behind [] not_below = absurd (let no = not_below in cc)
not_behind (x ∷ n) not_below = not_behind n (rw (tied_itself nat_cmp_total x) at not_below)
