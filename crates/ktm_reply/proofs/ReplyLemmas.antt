-- What is read as a reply is spelled so, and of what is spelled so the first form is read.
use Rattle.std.proofs.Common.{◌≡◌, ◌≢◌, ◌⊎◌, ℕ, ◌≤◌, true, List, [], ◌∷◌, ◌++◌, Option, Some, None, Result, Ok, Err, IfOk, codes, bytes_eq, flat_map, option_map, refl, sym, ◌∙◌, ap, subst, inl, inr, arith, append_assoc, lit<}
use Rattle.std.proofs.lemmas.Bool.{cases_Bool}
use Rattle.std.proofs.lemmas.Option.{same_Some}
use Rattle.std.proofs.lemmas.Slice.Eq.{bytes_eq-Decides}
use Rattle.std.specs.Fmt.{decimal}
use Rattle.std.specs.List.{AllByRecursion}
use Rattle.ktm_base.specs.declared.notify.Notify.TheVariants.{LastRecover}
use Rattle.ktm_codec.specs.Guid.{guid_at, guid_spelling}
use Rattle.ktm_codec.specs.Hex.{hex_or_dash, unhex_or_dash}
use Rattle.ktm_codec.specs.Number.{last_number_at, number_at}
use Rattle.ktm_codec.specs.Steps.{◌>>=◌}
use Rattle.ktm_codec.specs.Word.{after_word, word_from}
use Rattle.ktm_codec.proofs.HexLemmas.{option_map_some}
use Rattle.ktm_codec.proofs.NumberLemmas.{number_is, number_again, last_number_is, last_number_again}
use Rattle.ktm_codec.proofs.Steps.{bind_some, on_some_is}
use Rattle.ktm_codec.proofs.WordLemmas.{after_word_is, after_word_again}
use Rattle.ktm_world.specs.declared.reply.Reply.{Reply}
use Rattle.ktm_world.specs.declared.reply.Reply.TheVariants.{Refused, Done, Guid, Committed, Pending, Information, Notification, Contents, Size, Names, Keys, Restarted, BadImage}
use Rattle.ktm_world.specs.Values.{IsText}
use Rattle.ktm_reply.specs.declared.fault.ReplyFault.{ReplyFault}
use Rattle.ktm_reply.specs.declared.fault.ReplyFault.TheVariants.{NotAReply, NoMemory}
use Rattle.ktm_reply.specs.Kinds.{kind_name}
use Rattle.ktm_reply.specs.Reading.{Gives, bad_image_at, kind_named, part_at, plain_at, refusal_named, reply_at, restarted_at, size_at, texts_at, told_at}
use Rattle.ktm_reply.specs.Refusals.{refusal_name}
use Rattle.ktm_reply.specs.Spelling.{IsFirst, IsReply, place, reply_spelling, spaced}
use Rattle.ktm_reply.specs.States.{outcome_name, state_name}
use Rattle.ktm_reply.proofs.Found.{apart}
use Rattle.ktm_reply.proofs.PartLemmas.{Read, part_is, guid_part, information_part, notification_part, contents_part, kind_no_value, no_guid, no_kind, regroup₆, size_or_contents, size_part}
use Rattle.ktm_reply.proofs.RefusalLemmas.{refusal_is, refusal_again}
use Rattle.ktm_reply.proofs.TextsLemmas.{texts_is, texts_again}

same_text : (text word : List ℕ) → bytes_eq text word ≡ true → codes "ok" ++ text ≡ codes "ok" ++ word
same_text text word e = ap (λ (xs : List ℕ). codes "ok" ++ xs) ((bytes_eq-Decides text word).0 e)

plain_is : (text : List ℕ) (x : Reply) → plain_at text ≡ Some x → Read (codes "ok" ++ text) x
unfolding plain_at
plain_is text x e = elim (cases_Bool (bytes_eq text [])) [
  | inl done ↦ subst (Read (codes "ok" ++ text)) (same_Some Done x (rw done at e)) (tt, same_text text [] done)
  | inr not_done ↦ elim (cases_Bool (bytes_eq text (codes " committed"))) [
    | inl committed ↦ subst (Read (codes "ok" ++ text)) (same_Some Committed x (rw (not_done, committed) at e)) (tt, same_text text (codes " committed") committed)
    | inr not_committed ↦ elim (cases_Bool (bytes_eq text (codes " pending"))) [
      | inl pending ↦ subst (Read (codes "ok" ++ text)) (same_Some Pending x (rw (not_done, not_committed, pending) at e)) (tt, same_text text (codes " pending") pending)
      | inr not_pending ↦ elim (cases_Bool (bytes_eq text (codes " LAST_RECOVER"))) [
        | inl last ↦ subst (Read (codes "ok" ++ text)) (same_Some (Notification LastRecover None) x (rw (not_done, not_committed, not_pending, last) at e))
            (refl, same_text text (codes " LAST_RECOVER") last)
        | inr not_last ↦ cc (rw (not_done, not_committed, not_pending, not_last) at e)
      ]
    ]
  ]
]

told_is : (text : List ℕ) (x : Reply) → told_at text ≡ Some x → Read (codes "ok" ++ text) x
unfolding told_at
told_is text x e =
    on_some_is (plain_at text) (λ reply. Some reply) _ x e (λ reply f g. plain_is text x (f ∙ g)) (λ e₁.
    on_some_is (after_word (codes " \"") text) (λ rest. option_map (λ names. Names names) (texts_at text)) _ x e₁ (λ rest f g.
    option_map_some _ (texts_at text) x g (λ names h whole.
    let read = texts_is text names h in
    subst (Read (codes "ok" ++ text)) whole (read.0, ap (λ (xs : List ℕ). codes "ok" ++ xs) read.1))) (λ e₂.
    on_some_is (after_word (codes " ") text) part_at None x e₂ (λ rest f g.
    let read = part_is rest x g in
    (read.0, ap (λ (xs : List ℕ). codes "ok" ++ xs) (after_word_is (codes " ") text rest f) ∙ read.1)) (λ e₃. cc)))

regroup₄ : (a b c d : List ℕ) → a ++ b ++ c ++ d ≡ a ++ (b ++ (c ++ d))
regroup₄ a b c d = simp append_assoc

restarted_is : (text : List ℕ) (x : Reply) → restarted_at text ≡ Some x → Read (codes "restarted events=" ++ text) x
unfolding restarted_at
restarted_is text x e =
    bind_some _ (number_at 0xFFFF_FFFF_FFFF_FFFF text) x e (λ events f₁ g₁.
    bind_some _ (after_word (codes " indoubt=") events.1) x g₁ (λ rest f₂ g₂.
    bind_some _ (last_number_at 0xFFFF_FFFF rest) x g₂ (λ in_doubt f₃ whole.
    let first = number_is 0xFFFF_FFFF_FFFF_FFFF text events.0 events.1 (lit< tt) f₁ in
    let second = after_word_is (codes " indoubt=") events.1 rest f₂ in
    let third = last_number_is 0xFFFF_FFFF rest in_doubt (lit< tt) f₃ in
    let spelled : codes "restarted events=" ++ text ≡ reply_spelling (Restarted events.0 in_doubt) =
    rw (first.1, second, third.1) (sym (regroup₄ (codes "restarted events=") (decimal events.0) (codes " indoubt=") (decimal in_doubt))) in
    subst (Read (codes "restarted events=" ++ text)) (same_Some (Restarted events.0 in_doubt) x whole) ((omega (arith, first.0), omega (arith, third.0)), spelled))))

bad_image_is : (text : List ℕ) (x : Reply) → bad_image_at text ≡ Some x → Read (codes "BAD_IMAGE " ++ text) x
unfolding bad_image_at
bad_image_is text x e = option_map_some _ (last_number_at 0xFFFF_FFFF_FFFF_FFFF text) x e (λ offset f whole.
    let read = last_number_is 0xFFFF_FFFF_FFFF_FFFF text offset (lit< tt) f in
    subst (Read (codes "BAD_IMAGE " ++ text)) whole (omega (arith, read.0), ap (λ (xs : List ℕ). codes "BAD_IMAGE " ++ xs) read.1))

behind_word : (word line rest : List ℕ) (x : Reply) → after_word word line ≡ Some rest → Read (word ++ rest) x → Read line x
behind_word word line rest x e read = (read.0, after_word_is word line rest e ∙ read.1)

-- what is read is a reply, and is spelled so
pub reply_is : (line : List ℕ) (x : Reply) → reply_at line ≡ Some x → Read line x
unfolding reply_at
reply_is line x e =
    on_some_is (after_word (codes "ok") line) told_at _ x e (λ rest f g. behind_word (codes "ok") line rest x f (told_is rest x g)) (λ e₁.
    on_some_is (after_word (codes "restarted events=") line) restarted_at _ x e₁ (λ rest f g. behind_word (codes "restarted events=") line rest x f (restarted_is rest x g)) (λ e₂.
    on_some_is (after_word (codes "BAD_IMAGE ") line) bad_image_at _ x e₂ (λ rest f g. behind_word (codes "BAD_IMAGE ") line rest x f (bad_image_is rest x g)) (λ e₃.
    option_map_some _ (refusal_named line) x e₃ (λ refusal f whole. subst (Read line) whole (tt, refusal_is line refusal f)))))

-- a part is no word of a reply without values, and no text
no_word_part : (part_at (codes "committed") ≡ None) × (part_at (codes "pending") ≡ None) × (part_at (codes "LAST_RECOVER") ≡ None)
unfolding part_at guid_at kind_named word_from size_at last_number_at number_at
no_word_part = (refl, refl, refl)

no_plain : (part : List ℕ) (x : Reply) → part_at part ≡ Some x → plain_at (codes " " ++ part) ≡ None
unfolding plain_at
no_plain part x e = elim (cases_Bool (bytes_eq part (codes "committed"))) [
  | inl committed ↦ other (codes "committed") committed no_word_part.0
  | inr not_committed ↦ elim (cases_Bool (bytes_eq part (codes "pending"))) [
    | inl pending ↦ other (codes "pending") pending no_word_part.1
    | inr not_pending ↦ elim (cases_Bool (bytes_eq part (codes "LAST_RECOVER"))) [
      | inl last ↦ other (codes "LAST_RECOVER") last no_word_part.2
      | inr not_last ↦ rw (not_committed, not_pending, not_last) refl
    ]
  ]
]
  where
    other : {P : Type 0} (word : List ℕ) → bytes_eq part word ≡ true → part_at word ≡ None → P
    other word same none =
        let gone : part_at part ≡ None = ap part_at ((bytes_eq-Decides part word).0 same) ∙ none in
        cc

mark_no_bytes : (rest : List ℕ) → unhex_or_dash (codes "\"" ++ rest) ≡ None
mark_no_bytes [] = refl
mark_no_bytes (c ∷ cs) = refl

mark_no_part : (rest : List ℕ) → part_at (codes "\"" ++ rest) ≡ None
unfolding part_at size_at last_number_at number_at
mark_no_part rest =
    rw (
      no_guid 34 rest refl,
      no_kind (after_word (codes "\"")) (codes "\"" ++ rest) rest (after_word_again (codes "\"") rest) (λ kind more. (kind_no_value kind more).2),
      mark_no_bytes rest,
    ) refl

told_part : (part : List ℕ) (x : Reply) → part_at part ≡ Some x → told_at (codes " " ++ part) ≡ Some x
unfolding told_at
told_part part x e =
    let space = after_word_again (codes " ") part in
    let no_mark : after_word (codes " \"") (codes " " ++ part) ≡ None =
    apart (λ text. after_word (codes " ") text >>= part_at) (codes " \"") (codes " " ++ part) x (rw space e)
    (λ rest. rw (after_word_again (codes " ") (codes "\"" ++ rest)) (mark_no_part rest)) in
    rw (no_plain part x e, no_mark, space) e

reply_part : (part : List ℕ) (x : Reply) → part_at part ≡ Some x → reply_at (codes "ok " ++ part) ≡ Some x
unfolding reply_at
reply_part part x e = rw (after_word_again (codes "ok") (codes " " ++ part)) (told_part part x e)

reply_names : (t : List ℕ) (more : List (List ℕ)) → AllByRecursion IsText (t ∷ more) → reply_at (codes "ok" ++ flat_map spaced (t ∷ more)) ≡ Some (Names (t ∷ more))
unfolding reply_at told_at plain_at
reply_names t more valid =
    let rest = t ++ 34 ∷ [] ++ flat_map spaced more in
    rw (after_word_again (codes "ok") (flat_map spaced (t ∷ more)), after_word_again (codes " \"") rest, texts_again (t ∷ more) valid) refl

-- the first form with a reply's spelling
abbrev first : Reply → Reply
first (Size size) = size_or_contents (unhex_or_dash (decimal size)) size
first (Names []) = Done
first (Keys []) = Done
first (Keys (key ∷ keys)) = Names (key ∷ keys)
first x = x

no_refusal : (rest : List ℕ) → (refusal_named (codes "ok" ++ rest) ≡ None) × (refusal_named (codes "restarted events=" ++ rest) ≡ None) × (refusal_named (codes "BAD_IMAGE " ++ rest) ≡ None)
unfolding refusal_named
no_refusal rest = (refl, refl, refl)

no_ok : (rest : List ℕ) → (after_word (codes "ok") (codes "restarted events=" ++ rest) ≡ None) × (after_word (codes "ok") (codes "BAD_IMAGE " ++ rest) ≡ None)
    × (after_word (codes "restarted events=") (codes "BAD_IMAGE " ++ rest) ≡ None)
unfolding after_word
no_ok rest = (refl, refl, refl)

-- of what is spelled so the first form is read
reply_again : (x : Reply) → IsReply x → reply_at (reply_spelling x) ≡ Some (first x)
unfolding reply_at told_at plain_at restarted_at bad_image_at
reply_again (Refused refusal) valid =
    let read = refusal_again refusal in
    rw (
      apart refusal_named (codes "ok") (refusal_name refusal) refusal read (λ rest. (no_refusal rest).0),
      apart refusal_named (codes "restarted events=") (refusal_name refusal) refusal read (λ rest. (no_refusal rest).1),
      apart refusal_named (codes "BAD_IMAGE ") (refusal_name refusal) refusal read (λ rest. (no_refusal rest).2),
      read,
    ) refl
reply_again Done valid = rw (after_word_again (codes "ok") []) refl
reply_again (Guid guid) valid = reply_part (guid_spelling guid) (Guid guid) (guid_part guid valid)
reply_again Committed valid = rw (after_word_again (codes "ok") (codes " committed")) refl
reply_again Pending valid = rw (after_word_again (codes "ok") (codes " pending")) refl
reply_again (Information guid state outcome) valid =
    ap reply_at (regroup₆ (codes "ok ") (guid_spelling guid) (codes " ") (state_name state) (codes " ") (outcome_name outcome))
    ∙ reply_part (guid_spelling guid ++ (codes " " ++ (state_name state ++ (codes " " ++ outcome_name outcome)))) (Information guid state outcome) (information_part guid state outcome valid)
reply_again (Notification kind None) valid = rw (valid, after_word_again (codes "ok") (codes " LAST_RECOVER")) refl
reply_again (Notification kind (Some guid)) valid =
    ap (λ (xs : List ℕ). reply_at (codes "ok " ++ xs)) (append_assoc (kind_name kind) (codes " ") (guid_spelling guid))
    ∙ reply_part (kind_name kind ++ (codes " " ++ guid_spelling guid)) (Notification kind (Some guid)) (notification_part kind guid valid.0 valid.1)
reply_again (Contents bytes) valid = reply_part (hex_or_dash bytes) (Contents bytes) (contents_part bytes valid)
reply_again (Size size) valid = reply_part (decimal size) (first (Size size)) (size_part size valid)
reply_again (Names []) valid = rw (after_word_again (codes "ok") []) refl
reply_again (Names (name ∷ names)) valid = reply_names name names valid
reply_again (Keys []) valid = rw (after_word_again (codes "ok") []) refl
reply_again (Keys (key ∷ keys)) valid = reply_names key keys valid
reply_again (Restarted events in_doubt) valid =
    let last = codes " indoubt=" ++ decimal in_doubt in
    ap reply_at (regroup₄ (codes "restarted events=") (decimal events) (codes " indoubt=") (decimal in_doubt))
    ∙ rw (
      (no_ok (decimal events ++ last)).0,
      after_word_again (codes "restarted events=") (decimal events ++ last),
      number_again 0xFFFF_FFFF_FFFF_FFFF events last (lit< tt) (omega arith) refl,
      after_word_again (codes " indoubt=") (decimal in_doubt),
      last_number_again 0xFFFF_FFFF in_doubt (lit< tt) (omega arith),
    ) refl
reply_again (BadImage offset) valid =
    rw (
      (no_ok (decimal offset)).1,
      (no_ok (decimal offset)).2,
      after_word_again (codes "BAD_IMAGE ") (decimal offset),
      last_number_again 0xFFFF_FFFF_FFFF_FFFF offset (lit< tt) (omega arith),
    ) refl

size_place : (digits : Option (List ℕ)) (size : ℕ) → place (size_or_contents digits size) ≤ place (Size size)
size_place None size = omega arith
size_place (Some bytes) size = omega arith

-- the first form is the same one or an earlier one
first_place : (x : Reply) → place (first x) ≤ place x
first_place (Refused refusal) = omega arith
first_place Done = omega arith
first_place (Guid guid) = omega arith
first_place Committed = omega arith
first_place Pending = omega arith
first_place (Information guid state outcome) = omega arith
first_place (Notification kind enlistment) = omega arith
first_place (Contents bytes) = omega arith
first_place (Size size) = size_place (unhex_or_dash (decimal size)) size
first_place (Names []) = omega arith
first_place (Names (name ∷ names)) = omega arith
first_place (Keys []) = omega arith
first_place (Keys (key ∷ keys)) = omega arith
first_place (Restarted events in_doubt) = omega arith
first_place (BadImage offset) = omega arith

size_kept : (digits : Option (List ℕ)) (size : ℕ) → place (Size size) ≤ place (size_or_contents digits size) → size_or_contents digits size ≡ Size size
size_kept None size h = refl
size_kept (Some bytes) size h = absurd (omega arith)

-- where the first form is no earlier one it is the reply itself
first_kept : (x : Reply) → place x ≤ place (first x) → first x ≡ x
first_kept (Refused refusal) h = refl
first_kept Done h = refl
first_kept (Guid guid) h = refl
first_kept Committed h = refl
first_kept Pending h = refl
first_kept (Information guid state outcome) h = refl
first_kept (Notification kind enlistment) h = refl
first_kept (Contents bytes) h = refl
first_kept (Size size) h = size_kept (unhex_or_dash (decimal size)) size h
first_kept (Names []) h = absurd (omega arith)
first_kept (Names (name ∷ names)) h = refl
first_kept (Keys []) h = absurd (omega arith)
first_kept (Keys (key ∷ keys)) h = absurd (omega arith)
first_kept (Restarted events in_doubt) h = refl
first_kept (BadImage offset) h = refl

-- what is read is the first form with its spelling
first_read : (line : List ℕ) (x : Reply) → reply_at line ≡ Some x → IsFirst x
first_read line x e other valid same =
    let read = reply_is line x e in
    let whole : first other ≡ x = same_Some (first other) x (sym (reply_again other valid) ∙ ap reply_at (same ∙ sym read.1) ∙ e) in
    rw (← whole) (first_place other)

read_first : (x : Reply) → IsReply x → IsFirst x → reply_at (reply_spelling x) ≡ Some x
read_first x valid earliest =
    let again = reply_again x valid in
    let read = reply_is (reply_spelling x) (first x) again in
    again ∙ ap Some (first_kept x (earliest (first x) read.0 (sym read.1)))

pub value_of : (r : Result Reply ReplyFault) (line : List ℕ) → Gives r (reply_at line) → IfOk r (λ x. IsReply x × IsFirst x × (reply_spelling x ≡ line))
value_of (Err fault) line gives = tt
value_of (Ok x) line gives =
    let read = reply_is line x gives in
    (read.0, first_read line x gives, sym read.1)

pub exact_of : (r : Result Reply ReplyFault) (line : List ℕ) (x : Reply) → Gives r (reply_at line) → IsReply x → IsFirst x → reply_spelling x ≡ line
    → (r ≡ Ok x) ⊎ (r ≡ Err NoMemory)
exact_of r line x gives valid earliest spelled = exact r (subst (Gives r) (ap reply_at (sym spelled) ∙ read_first x valid earliest) gives)
  where
    exact : (r : Result Reply ReplyFault) → Gives r (Some x) → (r ≡ Ok x) ⊎ (r ≡ Err NoMemory)
    exact (Ok y) gives = inl (cc)
    exact (Err NotAReply) gives = cc
    exact (Err NoMemory) gives = inr refl

pub none_of : (r : Result Reply ReplyFault) (line : List ℕ) → Gives r (reply_at line) → r ≡ Err NotAReply → (x : Reply) → IsReply x → reply_spelling x ≢ line
none_of r line gives fault x valid spelled =
    let none : reply_at line ≡ None = subst (λ (s : Result Reply ReplyFault). Gives s (reply_at line)) fault gives in
    let some = ap reply_at (sym spelled) ∙ reply_again x valid in
    cc
