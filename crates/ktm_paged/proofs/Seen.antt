-- States and groups seen through the bytes of pages.
use Rattle.std.proofs.Common.{◌≡◌, ℕ, suc, true, get_or, List, [], ◌∷◌, map, Option, Some, None, All, refl, sym, ◌∙◌, ap, subst, inl, inr}
use Rattle.std.specs.List.{list_all}
use Rattle.std.proofs.lemmas.Bool.{and_parts, and_from}
use Rattle.std.proofs.lemmas.List.Elements.{All-head, All-tail}
use Rattle.ktm_world.specs.declared.change.Change.{Change}
use Rattle.ktm_world.specs.declared.change.Change.TheVariants.{Make, Put, Cut, Move, Drop}
use Rattle.ktm_world.specs.declared.change.Contents.TheVariants.{Whole, Paged}
use Rattle.ktm_world.specs.declared.event.Event.{Event}
use Rattle.ktm_world.specs.declared.event.Part.{Part}
use Rattle.ktm_world.specs.declared.event.Part.TheVariants.{Enlistment, Changes, Settings}
use Rattle.ktm_world.specs.declared.recorded.Node.{Node}
use Rattle.ktm_world.specs.declared.recorded.RecordedPart.{RecordedPart}
use Rattle.ktm_content.specs.Places.{byte_at}
use Rattle.ktm_world.specs.Durable.{Durable, Recorded, after_event, after_events, event_applies, events_apply}
use Rattle.ktm_world.specs.Logs.{Group}
use Rattle.ktm_world.specs.Tree.{bytes_or_none, numbers_rise}
use Rattle.txf_laws.specs.GoodState.{IsGoodState}
use Rattle.txf_laws.specs.Grammatical.{is_grammatical}
use Rattle.ktm_mapped.specs.Mapped.{mapped_change, mapped_content, mapped_durable, mapped_node, mapped_part, mapped_recorded, mapped_recorded_part}
use Rattle.ktm_mapped.proofs.offered.Applying.{event_applies-mapped}
use Rattle.ktm_mapped.proofs.offered.Events.{after_event-mapped}
use Rattle.ktm_each.specs.Each.{EachFrom, EachOfChange, EachOfDurable, EachOfNode, EachOfPart, EachOfRecorded}
use Rattle.ktm_paged.specs.InBytes.{AreInBytes, IsInBytes}
use Rattle.ktm_paged.specs.Meaning.{meant_event}
use Rattle.ktm_paged.specs.Paged.{GroupApplies, PagedApplies, paged_after, paged_after_all}
use Rattle.ktm_paged.proofs.offered.Meanings.{plain-applies, plain-made}

-- ---- states

map-each : {X Y : Type 0} (f g : X → Y) (xs : List X) → All (λ x. f x ≡ g x) xs → map f xs ≡ map g xs
map-each f g [] same = refl
map-each f g (x ∷ xs) same = λ i. All-head (λ x. f x ≡ g x) x xs same i ∷ map-each f g xs (All-tail (λ x. f x ≡ g x) x xs same) i

module _ (f g : ℕ → ℕ) where
  -- both give the same for the byte
  abbrev Agree : ℕ → ℕ → ℕ → Type 0
  Agree file index byte = f byte ≡ g byte

  bytes-same : (file from : ℕ) (bytes : List ℕ) → EachFrom (Agree file) from bytes → map f bytes ≡ map g bytes
  bytes-same file from [] same = refl
  bytes-same file from (b ∷ bs) same = λ i. same.0 i ∷ bytes-same file (suc from) bs same.1 i

  content-same : (file : ℕ) (content : Option (List ℕ)) → EachFrom (Agree file) 0 (bytes_or_none content) → mapped_content f content ≡ mapped_content g content
  content-same file None same = refl
  content-same file (Some bytes) same = ap Some (bytes-same file 0 bytes same)

  node-same : (node : Node) → EachOfNode Agree node → mapped_node f node ≡ mapped_node g node
  node-same node same = λ i. record node { content = content-same node.number node.content same i }

  change-same : (c : Change) → EachOfChange Agree c → mapped_change f c ≡ mapped_change g c
  change-same (Make node parent kind name) same = refl
  change-same (Put node offset (Whole bytes)) same = λ i. Put node offset (Whole (bytes-same node offset bytes same i))
  change-same (Put node offset (Paged len pages)) same = refl
  change-same (Cut node size pages) same = refl
  change-same (Move node parent name) same = refl
  change-same (Drop node) same = refl

  part-same : (part : Part) → EachOfPart Agree part → mapped_part f part ≡ mapped_part g part
  part-same (Enlistment enlistment manager information) same = refl
  part-same (Changes cs) same = ap Changes (map-each (mapped_change f) (mapped_change g) cs (λ k d low. change-same (get_or cs k d) (same k d low)))
  part-same (Settings settings) same = refl

  recorded-same : (t : Recorded) → EachOfRecorded Agree t → mapped_recorded f t ≡ mapped_recorded g t
  recorded-same t same = λ i. record t { parts = map-each (mapped_recorded_part f) (mapped_recorded_part g) t.parts parts i }
    where
      one : (p : RecordedPart) → EachOfPart Agree p.part → mapped_recorded_part f p ≡ mapped_recorded_part g p
      one p is = λ i. record p { part = part-same p.part is i }

      parts : All (λ p. mapped_recorded_part f p ≡ mapped_recorded_part g p) t.parts
      parts k d low = one (get_or t.parts k d) (same k d low)

  pub durable-same : (s : Durable) → EachOfDurable Agree s → mapped_durable f s ≡ mapped_durable g s
  durable-same s same = λ i. record s {
    tree = map-each (mapped_node f) (mapped_node g) s.tree (λ k d low. node-same (get_or s.tree k d) (same.tree k d low)) i;
    transactions = map-each (mapped_recorded f) (mapped_recorded g) s.transactions (λ k d low. recorded-same (get_or s.transactions k d) (same.transactions k d low)) i;
  }

-- ---- events and groups

module _ (row : List ℕ) where
  pub event-made : (s : Durable) (recorded asked : Event) → numbers_rise s.tree ≡ true → IsInBytes row s recorded asked
      → mapped_durable (byte_at row) (paged_after s recorded) ≡ after_event (mapped_durable (byte_at row) s) asked
  event-made s recorded asked rise (inl same) = sym (ap (after_event (mapped_durable (byte_at row) s)) same ∙ after_event-mapped (byte_at row) refl s (meant_event s.tree recorded))
  event-made s recorded asked rise (inr call) =
      ap (λ e. mapped_durable (byte_at row) (paged_after s e)) call.recorded_is
      ∙ plain-made row s call.change call.call rise call.alike
      ∙ ap (after_event (mapped_durable (byte_at row) s)) (sym call.asked_is)

  pub event-apply : (s : Durable) (recorded asked : Event) → numbers_rise s.tree ≡ true → IsInBytes row s recorded asked
      → event_applies s (meant_event s.tree recorded) ≡ event_applies (mapped_durable (byte_at row) s) asked
  event-apply s recorded asked rise (inl same) = sym (ap (event_applies (mapped_durable (byte_at row) s)) same ∙ event_applies-mapped (byte_at row) refl s (meant_event s.tree recorded))
  event-apply s recorded asked rise (inr call) =
      ap (λ e. event_applies s (meant_event s.tree e)) call.recorded_is
      ∙ plain-applies row s call.change call.call rise call.alike
      ∙ ap (event_applies (mapped_durable (byte_at row) s)) (sym call.asked_is)

  module _ (count : ℕ) (stays : (s : Durable) (event : Event) → IsGoodState s → is_grammatical event ≡ true → PagedApplies count s event → IsGoodState (paged_after s event)) where
    pub group-made : (s : Durable) (events asked : Group) → IsGoodState s → list_all is_grammatical events ≡ true → GroupApplies count s events → AreInBytes row s events asked
        → mapped_durable (byte_at row) (paged_after_all s events) ≡ after_events (mapped_durable (byte_at row) s) asked
    group-made s [] [] good spelled apply are = refl
    group-made s [] (b ∷ bs) good spelled apply are = absurd are
    group-made s (e ∷ es) [] good spelled apply are = absurd are
    group-made s (e ∷ es) (b ∷ bs) good spelled apply are =
        let parts = and_parts (is_grammatical e) (list_all is_grammatical es) spelled in
        group-made (paged_after s e) es bs (stays s e good parts.0 apply.0) parts.1 apply.1 are.1
        ∙ ap (λ t. after_events t bs) (event-made s e b good.files.rise are.0)

    pub group-apply : (s : Durable) (events asked : Group) → IsGoodState s → list_all is_grammatical events ≡ true → GroupApplies count s events → AreInBytes row s events asked
        → events_apply (mapped_durable (byte_at row) s) asked ≡ true
    group-apply s [] [] good spelled apply are = refl
    group-apply s [] (b ∷ bs) good spelled apply are = absurd are
    group-apply s (e ∷ es) [] good spelled apply are = absurd are
    group-apply s (e ∷ es) (b ∷ bs) good spelled apply are =
        let parts = and_parts (is_grammatical e) (list_all is_grammatical es) spelled in
        and_from _ _ (sym (event-apply s e b good.files.rise are.0) ∙ apply.0.applies)
        (subst (λ t. events_apply t bs ≡ true) (event-made s e b good.files.rise are.0) (group-apply (paged_after s e) es bs (stays s e good parts.0 apply.0) parts.1 apply.1 are.1))
