-- The parts of a line are read as they are spelled.
use Rattle.std.proofs.Common.{◌≡◌, ℕ, ◌/◌, ◌%◌, ◌^◌, ◌<◌, ◌≤◌, true, false, List, [], ◌∷◌, ◌++◌, Some, None, codes, refl, sym, ◌∙◌, ap, subst, inl, inr, arith, append_assoc, nat_eq, lit<}
use Rattle.std.proofs.lemmas.Bool.{cases_Bool}
use Rattle.std.proofs.lemmas.Bool.Decides.{nat_tests}
use Rattle.std.proofs.lemmas.Option.{some_pair_parts}
use Rattle.std.specs.Fmt.{decimal}
use Rattle.ktm_base.specs.declared.id.Label.{Label}
use Rattle.ktm_base.specs.declared.id.Pid.{Pid}
use Rattle.ktm_base.specs.Bytes.{AreBytes}
use Rattle.ktm_codec.proofs.GuidLemmas.{guid_is, guid_again}
use Rattle.ktm_codec.proofs.HexLemmas.{unhex_or_dash_is, unhex_or_dash_again}
use Rattle.ktm_codec.proofs.NumberLemmas.{number_is, number_again}
use Rattle.ktm_codec.proofs.QuotedLemmas.{quoted_is, quoted_again}
use Rattle.ktm_codec.proofs.WordLemmas.{after_word_is, after_word_again}
use Rattle.ktm_codec.proofs.WordSplits.{word_is}
use Rattle.ktm_codec.specs.Guid.{guid_at, guid_spelling}
use Rattle.ktm_codec.specs.Hex.{hex_digit, hex_of, hex_or_dash, unhex_or_dash}
use Rattle.ktm_codec.specs.Number.{number_at, starts_with_digit}
use Rattle.ktm_codec.specs.Quoted.{AreTextBytes, is_text_byte, quoted}
use Rattle.ktm_codec.specs.Word.{after_word, word_at}
use Rattle.ktm_world.specs.declared.command.View.{View}
use Rattle.ktm_world.specs.declared.command.View.TheVariants.{Plain, Transaction}
use Rattle.ktm_world.specs.declared.options.Access.{Access}
use Rattle.ktm_world.specs.declared.options.Access.TheVariants as access
use Rattle.ktm_world.specs.declared.options.ShareMode.{ShareMode}
use Rattle.ktm_world.specs.declared.options.ShareMode.TheVariants as share
use Rattle.ktm_world.specs.declared.options.Disposition.{Disposition}
use Rattle.ktm_world.specs.declared.options.Disposition.TheVariants as disposition
use Rattle.ktm_world.specs.declared.options.Durability.{Durability}
use Rattle.ktm_world.specs.declared.options.Durability.TheVariants as durability
use Rattle.ktm_world.specs.declared.options.EnlistmentKind.{EnlistmentKind}
use Rattle.ktm_world.specs.declared.options.EnlistmentKind.TheVariants as kind
use Rattle.ktm_world.specs.Values.{IsTextByte, IsText, IsPid, IsLabel, IsView, IsGuid}
use Rattle.ktm_codec.proofs.Steps.{bind_some, on_some_is}
use Rattle.ktm_script.specs.Reading.{behind_space, named_at, process_at, label_at, view_at, size_at, text_at, bytes_at, access_at, share_at, disposition_at, durability_at, kind_at, kind_in_transaction_at, modes_at, by_word, accesses, shares, dispositions, durabilities, kinds, form_name, forms, form_at}
use Rattle.ktm_script.specs.Spelling.{space, ◌␣◌, process_spelling, label_spelling, view_spelling, access_spelling, share_spelling, disposition_spelling, durability_spelling, kind_spelling}
use Rattle.ktm_script.specs.declared.form.Form.{Form}
use Rattle.ktm_script.specs.declared.form.Form.TheVariants as form
use Rattle.ktm_script.proofs.Readers.{Reads, ends_part, spaced, both}
use Rattle.ktm_script.proofs.WordLemmas.{is_word, word_again, by_words}

-- digits end where a part does
no_digit : (rest : List ℕ) → ends_part rest ≡ true → starts_with_digit rest ≡ false
no_digit [] ends = refl
no_digit (c ∷ cs) ends =
    let is : c ≡ space = grind (arith, nat_tests) in
    rw is refl

pub reads_number : (most : ℕ) → most < 2 ^ 64 → Reads (λ n. n ≤ most) decimal (number_at most)
reads_number most fits = record {
  found = λ text n rest e. number_is most text n rest fits e;
  every = λ n rest within ends. number_again most n rest fits within (no_digit rest ends);
}

named_is : (letter : List ℕ) (most : ℕ) (text : List ℕ) (n : ℕ) (rest : List ℕ) → most < 2 ^ 64 → named_at letter most text ≡ Some (n, rest)
    → (1 ≤ n) × (n ≤ most) × (text ≡ letter ++ decimal n ++ rest)
unfolding named_at
named_is letter most text n rest fits e = bind_some _ (after_word letter text) (n, rest) e (λ digits f g.
    bind_some _ (number_at most digits) (n, rest) g (λ number h k.
    elim (cases_Bool (nat_eq number.0 0)) [
      | inl none ↦ cc (rw none at k)
      | inr some ↦
          let same = some_pair_parts number.0 n number.1 rest (rw some at k) in
          let word = after_word_is letter text digits f in
          let spelled = number_is most digits number.0 number.1 fits h in
          let above : 1 ≤ number.0 = grind arith in
          (rw (← same.0) above, rw (← same.0) spelled.0, word ∙ rw (← same.0, ← same.1, spelled.1) (sym (append_assoc letter (decimal number.0) number.1)))
    ]))

named_again : (letter : List ℕ) (most n : ℕ) (rest : List ℕ) → most < 2 ^ 64 → 1 ≤ n → n ≤ most → ends_part rest ≡ true
    → named_at letter most (letter ++ decimal n ++ rest) ≡ Some (n, rest)
unfolding named_at
named_again letter most n rest fits above within ends =
    let some : nat_eq n 0 ≡ false = grind arith in
    rw (append_assoc letter (decimal n) rest, after_word_again letter (decimal n ++ rest), number_again most n rest fits within (no_digit rest ends), some) refl

pub reads_process : Reads IsPid process_spelling process_at
unfolding process_at
reads_process = record {
  found = λ text p rest e. bind_some _ (named_at (codes "p") 64 text) (p, rest) e (λ n f g.
      let same = some_pair_parts (record { 0 = n.0 }) p n.1 rest g in
      let read = named_is (codes "p") 64 text n.0 n.1 (lit< tt) f in
      let number : n.0 ≡ p.0 = ap (λ (q : Pid). q.0) same.0 in
      (record { from = rw (← number) read.0; to = rw (← number) read.1 }, rw (← number, ← same.1) read.2));
  every = λ p rest is ends. rw (named_again (codes "p") 64 p.0 rest (lit< tt) is.from is.to ends) refl;
}

pub reads_label : Reads IsLabel (λ l. space ∷ label_spelling l) label_at
unfolding label_at
reads_label = record {
  found = λ text l rest e. bind_some _ (named_at (codes " h") 65535 text) (l, rest) e (λ n f g.
      let same = some_pair_parts (record { 0 = n.0 }) l n.1 rest g in
      let read = named_is (codes " h") 65535 text n.0 n.1 (lit< tt) f in
      let number : n.0 ≡ l.0 = ap (λ (q : Label). q.0) same.0 in
      (record { from = rw (← number) read.0; to = rw (← number) read.1 }, rw (← number, ← same.1) read.2));
  every = λ l rest is ends. rw (named_again (codes " h") 65535 l.0 rest (lit< tt) is.from is.to ends) refl;
}

no_dash : (rest : List ℕ) → after_word (codes " -") (codes " h" ++ rest) ≡ None
unfolding after_word
no_dash rest = refl

pub reads_view : Reads IsView (λ v. space ∷ view_spelling v) view_at
unfolding view_at
reads_view = record {
  found = λ text v rest e.
      let P : View → Type 0 = λ w. IsView w × (text ≡ space ∷ view_spelling w ++ rest) in
      on_some_is (after_word (codes " -") text) _ _ (v, rest) e
      (λ more f g.
      let same = some_pair_parts Plain v more rest g in
      subst P same.0 (tt, after_word_is (codes " -") text more f ∙ ap (λ (xs : List ℕ). codes " -" ++ xs) same.1))
      (λ g. bind_some _ (label_at text) (v, rest) g (λ l f k.
      let same = some_pair_parts (Transaction l.0) v l.1 rest k in
      let read = reads_label.found text l.0 l.1 f in
      subst P same.0 (read.0, read.1 ∙ ap (λ (xs : List ℕ). space ∷ label_spelling l.0 ++ xs) same.1)));
  every = again;
}
  where
    again : (v : View) (rest : List ℕ) → IsView v → ends_part rest ≡ true → view_at (space ∷ view_spelling v ++ rest) ≡ Some (v, rest)
    again Plain rest is ends = rw (after_word_again (codes " -") rest) refl
    again (Transaction l) rest is ends = rw (no_dash (decimal l.0 ++ rest), reads_label.every l rest is ends) refl

pub reads_size : Reads (λ n. n < 2 ^ 64) (λ n. space ∷ decimal n) size_at
unfolding size_at
reads_size =
    let most = spaced (reads_number 0xFFFF_FFFF_FFFF_FFFF (lit< tt)) in
    record {
      found = λ text n rest e. let read = most.found text n rest e in (omega (arith, read.0), read.1);
      every = λ n rest is ends. most.every n rest (omega arith) ends;
    }

byte_is : (c : ℕ) → is_text_byte c ≡ true → IsTextByte c
byte_is c e = record { from = grind (arith, nat_tests); to = grind (arith, nat_tests); other = λ mark. grind (arith, nat_tests) }

byte_again : (c : ℕ) → IsTextByte c → is_text_byte c ≡ true
byte_again c h =
    let from = h.from in
    let to = h.to in
    let other = h.other in
    grind (arith, nat_tests)

text_is : (t : List ℕ) → AreTextBytes t → IsText t
text_is [] h = tt
text_is (c ∷ cs) h = (byte_is c h.0, text_is cs h.1)

text_again : (t : List ℕ) → IsText t → AreTextBytes t
text_again [] h = tt
text_again (c ∷ cs) h = (byte_again c h.0, text_again cs h.1)

pub reads_text : Reads IsText (λ t. space ∷ quoted t) text_at
unfolding text_at
reads_text = spaced (record {
  found = λ text t rest e. let read = quoted_is text t rest e in (text_is t read.0, read.1);
  every = λ t rest is ends. quoted_again t rest (text_again t is);
})

pub reads_guid : Reads IsGuid (λ g. space ∷ guid_spelling g) (behind_space guid_at)
reads_guid = spaced (record {
  found = λ text g rest e. let read = guid_is text g rest e in (record { long = read.0; bytes = read.1 }, read.2);
  every = λ g rest is ends. guid_again g rest is.long is.bytes;
})

digit_no_space : (n : ℕ) → nat_eq (hex_digit n) space ≡ false
digit_no_space n = grind (arith, nat_tests)

hex_of_word : (bytes : List ℕ) → is_word (hex_of bytes) ≡ true
hex_of_word [] = refl
hex_of_word (b ∷ bs) = rw (digit_no_space (b / 16), digit_no_space (b % 16)) (hex_of_word bs)

hex_word : (bytes : List ℕ) → is_word (hex_or_dash bytes) ≡ true
hex_word [] = refl
hex_word (b ∷ bs) = hex_of_word (b ∷ bs)

pub reads_bytes : Reads AreBytes (λ b. space ∷ hex_or_dash b) bytes_at
unfolding bytes_at
reads_bytes = record {
  found = λ text b rest e. bind_some _ (after_word (codes " ") text) (b, rest) e (λ behind f g.
      bind_some _ (unhex_or_dash (word_at behind).0) (b, rest) g (λ read h k.
      let same = some_pair_parts read b (word_at behind).1 rest k in
      let hex = unhex_or_dash_is (word_at behind).0 read h in
      let P : List ℕ → Type 0 = λ x. AreBytes x × (text ≡ space ∷ hex_or_dash x ++ rest) in
      subst P same.0 (
        hex.0,
        after_word_is (codes " ") text behind f ∙ ap (λ (xs : List ℕ). space ∷ xs)
            (word_is behind ∙ ap (λ (xs : List ℕ). xs ++ (word_at behind).1) hex.1 ∙ ap (λ (xs : List ℕ). hex_or_dash read ++ xs) same.1),
      )));
  every = λ b rest is ends. rw (after_word_again (codes " ") (hex_or_dash b ++ rest), word_again (hex_or_dash b) rest (hex_word b) ends, unhex_or_dash_again b is) refl;
}

own_access : (x : Access) → (is_word (access_spelling x) ≡ true) × (by_word access_spelling accesses (access_spelling x) ≡ Some x)
unfolding by_word
own_access access.Read = (refl, refl)
own_access _ = (refl, refl)

pub reads_access : Reads (λ (x : Access). Unit {0}) (λ x. space ∷ access_spelling x) access_at
unfolding access_at
reads_access = by_words access_spelling accesses own_access

own_share : (x : ShareMode) → (is_word (share_spelling x) ≡ true) × (by_word share_spelling shares (share_spelling x) ≡ Some x)
unfolding by_word
own_share share.Nothing = (refl, refl)
own_share _ = (refl, refl)

pub reads_share : Reads (λ (x : ShareMode). Unit {0}) (λ x. space ∷ share_spelling x) share_at
unfolding share_at
reads_share = by_words share_spelling shares own_share

own_disposition : (x : Disposition) → (is_word (disposition_spelling x) ≡ true) × (by_word disposition_spelling dispositions (disposition_spelling x) ≡ Some x)
unfolding by_word
own_disposition disposition.CreateNew = (refl, refl)
own_disposition _ = (refl, refl)

pub reads_disposition : Reads (λ (x : Disposition). Unit {0}) (λ x. space ∷ disposition_spelling x) disposition_at
unfolding disposition_at
reads_disposition = by_words disposition_spelling dispositions own_disposition

own_durability : (x : Durability) → (is_word (durability_spelling x) ≡ true) × (by_word durability_spelling durabilities (durability_spelling x) ≡ Some x)
unfolding by_word
own_durability durability.Volatile = (refl, refl)
own_durability _ = (refl, refl)

pub reads_durability : Reads (λ (x : Durability). Unit {0}) (λ x. space ∷ durability_spelling x) durability_at
unfolding durability_at
reads_durability = by_words durability_spelling durabilities own_durability

own_kind : (x : EnlistmentKind) → (is_word (kind_spelling x) ≡ true) × (by_word kind_spelling kinds (kind_spelling x) ≡ Some x)
unfolding by_word
own_kind kind.Plain = (refl, refl)
own_kind _ = (refl, refl)

pub reads_kind : Reads (λ (x : EnlistmentKind). Unit {0}) (λ x. space ∷ kind_spelling x) kind_at
unfolding kind_at
reads_kind = by_words kind_spelling kinds own_kind

own_form : (x : Form) → (is_word (form_name x) ≡ true) × (by_word form_name forms (form_name x) ≡ Some x)
unfolding by_word
own_form form.CreateTransaction = (refl, refl)
own_form _ = (refl, refl)

pub reads_form : Reads (λ (x : Form). Unit {0}) (λ x. space ∷ form_name x) form_at
unfolding form_at
reads_form = by_words form_name forms own_form

pub reads_kind_in_transaction : Reads (λ (p : Label × EnlistmentKind). IsLabel p.0 × Unit {0}) (λ p. space ∷ (label_spelling p.0 ␣ kind_spelling p.1)) kind_in_transaction_at
unfolding kind_in_transaction_at
reads_kind_in_transaction = both reads_label reads_kind

-- the letters and the word of the modes, behind a space each
abbrev pub modes_spelling : (Access × (ShareMode × Disposition)) → List ℕ
modes_spelling m = space ∷ (access_spelling m.0 ␣ share_spelling m.1.0 ␣ disposition_spelling m.1.1)

pub reads_modes : Reads (λ (m : Access × (ShareMode × Disposition)). Unit {0} × (Unit {0} × Unit {0})) modes_spelling modes_at
unfolding modes_at
reads_modes = both reads_access (both reads_share reads_disposition)
