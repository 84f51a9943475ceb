-- What is read behind `ok ` is spelled so, and what is spelled so is read.
use Rattle.std.proofs.Common.{◌≡◌, ◌≢◌, ℕ, zero, suc, ◌/◌, ◌%◌, ◌^◌, ◌<◌, ◌≤◌, List, [], ◌∷◌, ◌++◌, length, length-append, get_or, Option, Some, None, codes, option_map, if◌then◌else◌, refl, sym, ◌∙◌, ap, subst, arith, append_assoc, lit<}
use Rattle.std.proofs.lemmas.Bool.Decides.{nat_tests}
use Rattle.std.proofs.lemmas.Fmt.{length-decimal-le}
use Rattle.std.proofs.lemmas.List.{append-nil, get_or_append_left}
use Rattle.std.proofs.lemmas.Option.{same_Some}
use Rattle.std.specs.Fmt.{decimal}
use Rattle.ktm_base.specs.Bytes.{AreBytes}
use Rattle.ktm_base.specs.declared.notify.Notify.{Notify}
use Rattle.ktm_base.specs.declared.notify.Notify.TheVariants.{PrePrepare, Prepare, Commit, Rollback, PrePrepareComplete, PrepareComplete, CommitComplete, RollbackComplete, Recover, RecoverQuery, Indoubt, SinglePhaseCommit, CommitRequest, LastRecover}
use Rattle.ktm_codec.specs.Guid.{guid_at, guid_spelling}
use Rattle.ktm_codec.specs.Hex.{digit_value, hex_digit, hex_of, hex_or_dash, unhex_or_dash}
use Rattle.ktm_codec.specs.Number.{last_number_at, number_at}
use Rattle.ktm_codec.specs.Steps.{on_some}
use Rattle.ktm_codec.specs.Word.{after_word, word_at}
use Rattle.ktm_codec.proofs.GuidLemmas.{guid_is, guid_again}
use Rattle.ktm_codec.proofs.HexLemmas.{unhex_or_dash_is, unhex_or_dash_again, option_map_some}
use Rattle.ktm_codec.proofs.NumberLemmas.{last_number_is, last_number_again}
use Rattle.ktm_codec.proofs.Steps.{bind_some, at_end_is, on_some_is}
use Rattle.ktm_codec.proofs.WordLemmas.{after_word_is, after_word_again}
use Rattle.ktm_codec.proofs.WordSplits.{word_is}
use Rattle.ktm_world.specs.declared.object.TransactionOutcome.{TransactionOutcome}
use Rattle.ktm_world.specs.declared.reply.Reply.{Reply}
use Rattle.ktm_world.specs.declared.reply.Reply.TheVariants.{Guid, Information, Notification, Contents, Size}
use Rattle.ktm_world.specs.declared.reply.TransactionState.{TransactionState}
use Rattle.ktm_world.specs.Values.{IsGuid, IsSize}
use Rattle.ktm_reply.specs.Kinds.{kind_name}
use Rattle.ktm_reply.specs.Reading.{behind_guid_at, behind_kind_at, information_at, kind_named, outcome_named, part_at, size_at, state_named}
use Rattle.ktm_reply.specs.Spelling.{IsReply, reply_spelling}
use Rattle.ktm_reply.specs.States.{outcome_name, state_name}
use Rattle.ktm_reply.proofs.Found.{nothing}
use Rattle.ktm_reply.proofs.KindLemmas.{kind_is, kind_again, word_of_kind}
use Rattle.ktm_reply.proofs.StateLemmas.{state_is, state_again, outcome_is, outcome_again, word_of_state}
use Rattle.uuid.specs.Text.{digit_place, is_hyphen_place, lower, nibble, hex_digit as uuid_digit}
use Rattle.uuid.proofs.TextLemmas.{by_index_length, by_index_at, nibble_small}

-- a reply with its values in range, and its spelling
abbrev pub Read : List ℕ → Reply → Type 0
Read line x = IsReply x × (line ≡ reply_spelling x)

pub regroup₆ : (a b c d e f : List ℕ) → a ++ b ++ c ++ d ++ e ++ f ≡ a ++ (b ++ (c ++ (d ++ (e ++ f))))
regroup₆ a b c d e f = simp append_assoc

guid_of : (guid : List ℕ) → length guid ≡ 16 → AreBytes guid → IsGuid guid
guid_of guid long bytes = record { long = long; bytes = bytes }

information_is : (guid text : List ℕ) (x : Reply) → IsGuid guid → information_at guid text ≡ Some x → Read (codes "ok " ++ (guid_spelling guid ++ text)) x
unfolding information_at
information_is guid text x valid e =
    bind_some _ (after_word (codes " ") text) x e (λ rest f₁ g₁.
    bind_some _ (state_named (word_at rest).0) x g₁ (λ state f₂ g₂.
    bind_some _ (after_word (codes " ") (word_at rest).1) x g₂ (λ last f₃ g₃.
    bind_some _ (outcome_named last) x g₃ (λ outcome f₄ whole.
    let first = after_word_is (codes " ") text rest f₁ in
    let word = word_is rest in
    let second = state_is (word_at rest).0 state f₂ in
    let third = after_word_is (codes " ") (word_at rest).1 last f₃ in
    let fourth = outcome_is last outcome f₄ in
    let spelled : rest ≡ state_name state ++ (codes " " ++ outcome_name outcome) = word ∙ rw (second, third, fourth) refl in
    let all : codes "ok " ++ (guid_spelling guid ++ text) ≡ reply_spelling (Information guid state outcome) =
    rw (first, spelled) (sym (regroup₆ (codes "ok ") (guid_spelling guid) (codes " ") (state_name state) (codes " ") (outcome_name outcome))) in
    subst (Read (codes "ok " ++ (guid_spelling guid ++ text))) (same_Some _ x whole) (valid, all)))))

behind_guid_is : (guid text : List ℕ) (x : Reply) → IsGuid guid → behind_guid_at guid text ≡ Some x → Read (codes "ok " ++ (guid_spelling guid ++ text)) x
unfolding behind_guid_at
behind_guid_is guid [] x valid e =
    subst (Read (codes "ok " ++ (guid_spelling guid ++ []))) (same_Some (Guid guid) x e) (valid, ap (λ (xs : List ℕ). codes "ok " ++ xs) (append-nil (guid_spelling guid)))
behind_guid_is guid (c ∷ cs) x valid e = information_is guid (c ∷ cs) x valid e

behind_kind_is : (kind : Notify) (text : List ℕ) (x : Reply) → kind ≢ LastRecover → behind_kind_at kind text ≡ Some x → Read (codes "ok " ++ (kind_name kind ++ text)) x
unfolding behind_kind_at
behind_kind_is kind text x other e =
    bind_some _ (after_word (codes " ") text) x e (λ rest f g.
    bind_some _ (guid_at rest) x g (λ guid h end.
    let first = after_word_is (codes " ") text rest f in
    let second = guid_is rest guid.0 guid.1 h in
    let whole = at_end_is (Notification kind (Some guid.0)) x guid.1 end in
    let spelled : rest ≡ guid_spelling guid.0 = second.2 ∙ rw whole.0 (append-nil (guid_spelling guid.0)) in
    let all : codes "ok " ++ (kind_name kind ++ text) ≡ reply_spelling (Notification kind (Some guid.0)) =
    rw (first, spelled) (ap (λ (xs : List ℕ). codes "ok " ++ xs) (sym (append_assoc (kind_name kind) (codes " ") (guid_spelling guid.0)))) in
    subst (Read (codes "ok " ++ (kind_name kind ++ text))) whole.1 ((other, guid_of guid.0 second.0 second.1), all)))

size_is : (text : List ℕ) (x : Reply) → size_at text ≡ Some x → Read (codes "ok " ++ text) x
unfolding size_at
size_is text x e = option_map_some _ (last_number_at 0xFFFF_FFFF_FFFF_FFFF text) x e (λ n f whole.
    let read = last_number_is 0xFFFF_FFFF_FFFF_FFFF text n (lit< tt) f in
    subst (Read (codes "ok " ++ text)) whole (omega (arith, read.0), ap (λ (xs : List ℕ). codes "ok " ++ xs) read.1))

contents_is : (text bytes : List ℕ) (x : Reply) → unhex_or_dash text ≡ Some bytes → Some (Contents bytes) ≡ Some x → Read (codes "ok " ++ text) x
contents_is text bytes x e whole =
    let read = unhex_or_dash_is text bytes e in
    subst (Read (codes "ok " ++ text)) (same_Some (Contents bytes) x whole) (read.0, ap (λ (xs : List ℕ). codes "ok " ++ xs) read.1)

pub part_is : (text : List ℕ) (x : Reply) → part_at text ≡ Some x → Read (codes "ok " ++ text) x
unfolding part_at
part_is text x e =
    on_some_is (guid_at text) (λ guid. behind_guid_at guid.0 guid.1) _ x e (λ guid f g.
    let read = guid_is text guid.0 guid.1 f in
    rw read.2 (behind_guid_is guid.0 guid.1 x (guid_of guid.0 read.0 read.1) g)) (λ e₁.
    on_some_is (kind_named (word_at text).0) (λ kind. behind_kind_at kind (word_at text).1) _ x e₁ (λ kind f g.
    let word = sym (word_is text) in
    let read = kind_is (word_at text).0 kind f in
    let whole : kind_name kind ++ (word_at text).1 ≡ text = rw read.1 at word in
    rw (← whole) (behind_kind_is kind (word_at text).1 x read.0 g)) (λ e₂.
    on_some_is (unhex_or_dash text) (λ bytes. Some (Contents bytes)) (size_at text) x e₂ (λ bytes f g. contents_is text bytes x f g) (λ e₃.
    size_is text x e₃)))

-- a GUID begins with a digit
digit_known : (d : ℕ) → d < 16 → digit_value (uuid_digit lower d) ≡ Some d
digit_known d small = grind (arith, nat_tests)

first_of_guid : (guid : List ℕ) → get_or (guid_spelling guid) 0 0 ≡ uuid_digit lower (nibble guid 0)
first_of_guid guid = by_index_at 36 (λ k. if is_hyphen_place k then 45 else uuid_digit lower (nibble guid (digit_place k))) 0 0 (lit< tt)

pub no_guid : (c : ℕ) (cs : List ℕ) → digit_value c ≡ None → guid_at (c ∷ cs) ≡ None
no_guid c cs e = nothing (guid_at (c ∷ cs)) (λ read f.
    let spelled = (guid_is (c ∷ cs) read.0 read.1 f).2 in
    let long : length (guid_spelling read.0) ≡ 36 = by_index_length 36 _ in
    let same : c ≡ get_or (guid_spelling read.0) 0 0 =
    ap (λ (xs : List ℕ). get_or xs 0 0) spelled ∙ get_or_append_left (guid_spelling read.0) read.1 0 0 (omega arith) in
    let digit = digit_known (nibble read.0 0) (nibble_small read.0 0) in
    let known : digit_value c ≡ Some (nibble read.0 0) = rw (same, first_of_guid read.0) digit in
    cc)

-- its ninth character is a hyphen, which is in no other value
ninth_of_guid : (guid rest : List ℕ) → get_or (guid_spelling guid ++ rest) 8 0 ≡ 45
ninth_of_guid guid rest =
    let long : length (guid_spelling guid) ≡ 36 = by_index_length 36 _ in
    get_or_append_left (guid_spelling guid) rest 0 8 (omega arith)
    ∙ by_index_at 36 (λ k. if is_hyphen_place k then 45 else uuid_digit lower (nibble guid (digit_place k))) 8 0 (lit< tt)

digit_no_hyphen : (d : ℕ) → hex_digit d ≢ 45
digit_no_hyphen d e = grind (arith, nat_tests)

hex_no_hyphen : (bytes : List ℕ) (k : ℕ) → get_or (hex_of bytes) k 0 ≢ 45
hex_no_hyphen [] k e = cc
hex_no_hyphen (b ∷ bs) zero e = digit_no_hyphen (b / 16) e
hex_no_hyphen (b ∷ bs) (suc zero) e = digit_no_hyphen (b % 16) e
hex_no_hyphen (b ∷ bs) (suc (suc k)) e = hex_no_hyphen bs k e

hex_no_ninth : (bytes : List ℕ) → get_or (hex_or_dash bytes) 8 0 ≢ 45
hex_no_ninth [] e = cc
hex_no_ninth (b ∷ bs) e = hex_no_hyphen (b ∷ bs) 8 e

contents_no_guid : (bytes : List ℕ) → guid_at (hex_or_dash bytes) ≡ None
contents_no_guid bytes = nothing (guid_at (hex_or_dash bytes)) (λ read f.
    let spelled = (guid_is (hex_or_dash bytes) read.0 read.1 f).2 in
    hex_no_ninth bytes (ap (λ (xs : List ℕ). get_or xs 8 0) spelled ∙ ninth_of_guid read.0 read.1))

size_no_guid : (n : ℕ) → n < 2 ^ 64 → guid_at (decimal n) ≡ None
size_no_guid n small = nothing (guid_at (decimal n)) (λ read f.
    let spelled = (guid_is (decimal n) read.0 read.1 f).2 in
    let long : length (guid_spelling read.0) ≡ 36 = by_index_length 36 _ in
    let short : length (decimal n) ≤ 20 = length-decimal-le 20 n (lit< tt) (omega arith) small in
    omega (arith, ap length spelled, length-append (guid_spelling read.0) read.1))

-- no value begins with the name of a kind
kind_no_guid : (kind : Notify) (rest : List ℕ) → guid_at (kind_name kind ++ rest) ≡ None
kind_no_guid PrePrepare rest = no_guid _ _ refl
kind_no_guid Prepare rest = no_guid _ _ refl
kind_no_guid Commit rest = no_guid _ _ refl
kind_no_guid Rollback rest = no_guid _ _ refl
kind_no_guid PrePrepareComplete rest = no_guid _ _ refl
kind_no_guid PrepareComplete rest = no_guid _ _ refl
kind_no_guid CommitComplete rest = no_guid _ _ refl
kind_no_guid RollbackComplete rest = no_guid _ _ refl
kind_no_guid Recover rest = no_guid _ _ refl
kind_no_guid RecoverQuery rest = no_guid _ _ refl
kind_no_guid Indoubt rest = no_guid _ _ refl
kind_no_guid SinglePhaseCommit rest = no_guid _ _ refl
kind_no_guid CommitRequest rest = no_guid _ _ refl
kind_no_guid LastRecover rest = no_guid _ _ refl

pub kind_no_value : (kind : Notify) (rest : List ℕ) → (unhex_or_dash (kind_name kind ++ rest) ≡ None) × (size_at (kind_name kind ++ rest) ≡ None)
    × (after_word (codes "\"") (kind_name kind ++ rest) ≡ None)
unfolding size_at last_number_at number_at after_word
kind_no_value PrePrepare rest = (refl, refl, refl)
kind_no_value Prepare rest = (refl, refl, refl)
kind_no_value Commit rest = (refl, refl, refl)
kind_no_value Rollback rest = (refl, refl, refl)
kind_no_value PrePrepareComplete rest = (refl, refl, refl)
kind_no_value PrepareComplete rest = (refl, refl, refl)
kind_no_value CommitComplete rest = (refl, refl, refl)
kind_no_value RollbackComplete rest = (refl, refl, refl)
kind_no_value Recover rest = (refl, refl, refl)
kind_no_value RecoverQuery rest = (refl, refl, refl)
kind_no_value Indoubt rest = (refl, refl, refl)
kind_no_value SinglePhaseCommit rest = (refl, refl, refl)
kind_no_value CommitRequest rest = (refl, refl, refl)
kind_no_value LastRecover rest = (refl, refl, refl)

-- a text that is read otherwise does not begin with the name of a kind
pub no_kind : {X : Type 0} (read : List ℕ → Option X) (text : List ℕ) (x : X) → read text ≡ Some x → ((kind : Notify) (rest : List ℕ) → read (kind_name kind ++ rest) ≡ None)
    → kind_named (word_at text).0 ≡ None
no_kind read text x e never = nothing (kind_named (word_at text).0) (λ kind f.
    let word = sym (word_is text) in
    let whole : kind_name kind ++ (word_at text).1 ≡ text = rw (kind_is (word_at text).0 kind f).1 at word in
    let none : read text ≡ None = ap read (sym whole) ∙ never kind (word_at text).1 in
    cc)

pub guid_part : (guid : List ℕ) → IsGuid guid → part_at (guid_spelling guid) ≡ Some (Guid guid)
unfolding part_at behind_guid_at
guid_part guid valid =
    let read : guid_at (guid_spelling guid) ≡ Some (guid, []) = rw append-nil at (guid_again guid [] valid.long valid.bytes) in
    rw read refl

pub information_part : (guid : List ℕ) (state : TransactionState) (outcome : TransactionOutcome) → IsGuid guid
    → part_at (guid_spelling guid ++ (codes " " ++ (state_name state ++ (codes " " ++ outcome_name outcome)))) ≡ Some (Information guid state outcome)
unfolding part_at behind_guid_at information_at
information_part guid state outcome valid =
    let last = codes " " ++ outcome_name outcome in
    rw (
      guid_again guid (codes " " ++ (state_name state ++ last)) valid.long valid.bytes,
      after_word_again (codes " ") (state_name state ++ last),
      word_of_state state (outcome_name outcome),
      state_again state,
      after_word_again (codes " ") (outcome_name outcome),
      outcome_again outcome,
    ) refl

pub notification_part : (kind : Notify) (guid : List ℕ) → kind ≢ LastRecover → IsGuid guid
    → part_at (kind_name kind ++ (codes " " ++ guid_spelling guid)) ≡ Some (Notification kind (Some guid))
unfolding part_at behind_kind_at
notification_part kind guid other valid =
    let read : guid_at (guid_spelling guid) ≡ Some (guid, []) = rw append-nil at (guid_again guid [] valid.long valid.bytes) in
    rw (
      kind_no_guid kind (codes " " ++ guid_spelling guid),
      word_of_kind kind (guid_spelling guid),
      kind_again kind other,
      after_word_again (codes " ") (guid_spelling guid),
      read,
    ) refl

pub contents_part : (bytes : List ℕ) → AreBytes bytes → part_at (hex_or_dash bytes) ≡ Some (Contents bytes)
unfolding part_at
contents_part bytes valid =
    let read = unhex_or_dash_again bytes valid in
    rw (contents_no_guid bytes, no_kind unhex_or_dash (hex_or_dash bytes) bytes read (λ kind rest. (kind_no_value kind rest).0), read) refl

-- digits are read as bytes where they spell some
abbrev pub size_or_contents : Option (List ℕ) → ℕ → Reply
size_or_contents None size = Size size
size_or_contents (Some bytes) size = Contents bytes

size_last : (digits : Option (List ℕ)) (size : ℕ) → on_some digits (λ bytes. Some (Contents bytes)) (Some (Size size)) ≡ Some (size_or_contents digits size)
size_last None size = refl
size_last (Some bytes) size = refl

pub size_part : (size : ℕ) → IsSize size → part_at (decimal size) ≡ Some (size_or_contents (unhex_or_dash (decimal size)) size)
unfolding part_at size_at
size_part size valid =
    let read = last_number_again 0xFFFF_FFFF_FFFF_FFFF size (lit< tt) (omega arith) in
    rw (size_no_guid size valid, no_kind size_at (decimal size) (Size size) (ap (option_map (λ n. Size n)) read) (λ kind rest. (kind_no_value kind rest).1), read)
    (size_last (unhex_or_dash (decimal size)) size)
