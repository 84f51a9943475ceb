use Rattle.std.proofs.Common.{◌∙◌, ◌++◌, ◌∷◌, [], Ok, ◌+◌, length, ap, sym, subst, arith}
use Rattle.std.proofs.lemmas.Bool.{and_parts}
use Rattle.std.proofs.lemmas.List.{length_push}
use Rattle.std.specs.List.{list_all}
use Rattle.ktm_base.specs.Grammar.{IsU32}
use Rattle.ktm_codec.specs.Spans.{Spans}
use Rattle.ktm_keyed.specs.Keyed.{is_rising}
use Rattle.ktm_snapshot.specs.Pieces.{IsFrontOf}
use Rattle.ktm_snapshot.specs.Shown.{entry_of}
use Rattle.ktm_snapshot.specs.StateGrammar.{IsEntryOf}
use Rattle.ktm_saved.proofs.RisingKeys.{good_list}
use Rattle.ktm_saved.proofs.Lists.{none_good, some_good}
use Rattle.ktm_saved.proofs.keys.read_keys.Goals as goal
use Rattle.ktm_saved.specs.Reading.{are_good_keys}
use Rattle.txf_laws.specs.Contents.{is_good_entry}

pub returns-in_default : goal.returns-in_default
returns-in_default c = none_good is_rising are_good_keys IsEntryOf _ _ ((good_list c.args.bytes.now c.args.at).no_count c.in_default.ensures)

pub keys-init : goal.keys-init
keys-init c =
    let none = c.new-keys.ensures in
    record {
      front = subst (λ xs. Spans (IsFrontOf (IsU32 c.in-Some.count) IsEntryOf xs) c.args.bytes.now c.args.at c.in-Some.start) (sym none) ((good_list c.args.bytes.now c.args.at).begins _ _ c.in-Some.ensures);
      good = ap are_good_keys none;
      counted = ap length none;
    }

pub returns-in_default-entry_at : goal.returns-in_default-entry_at
returns-in_default-entry_at c =
    none_good is_rising are_good_keys IsEntryOf _ _
    ((good_list c.args.bytes.now c.args.at).no_item _ c.keys.keys.items _ c.keys.invariant.front (omega (arith, c.keys.invariant.counted)) c.in_default-entry_at.ensures)

pub returns-then-not-branch : goal.returns-then-not-branch
returns-then-not-branch c =
    let law = good_list c.args.bytes.now c.args.at in
    none_good is_rising are_good_keys IsEntryOf _ _
    (law.falls _ (c.keys.keys.items ++ entry_of c.in-Some-entry_at.entry ∷ []) _ (law.goes_on _ _ _ _ _ c.keys.invariant.front c.in-Some-entry_at.ensures)
    (omega (arith, length_push c.keys.keys.items (entry_of c.in-Some-entry_at.entry), c.keys.invariant.counted)) (sym c.in_ok-add.ensures.good ∙ c.if-not-branch.true))

pub keys-preserved : goal.keys-preserved
keys-preserved c =
    let law = good_list c.args.bytes.now c.args.at in
    let more = c.in_ok-add.ensures.added (ap Ok c.if-not-branch.false) in
    record {
      front = subst (λ xs. Spans (IsFrontOf (IsU32 c.in-Some.count) IsEntryOf xs) c.args.bytes.now c.args.at c.in-Some-entry_at.next) (sym more) (law.goes_on _ _ _ _ _ c.keys.invariant.front c.in-Some-entry_at.ensures);
      good = ap are_good_keys more ∙ sym c.in_ok-add.ensures.good ∙ c.if-not-branch.false;
      counted = ap length more ∙ length_push _ _ ∙ ap (λ n. n + 1) c.keys.invariant.counted;
    }

pub returns : goal.returns
returns c =
    let good = c.keys.invariant.good in
    some_good is_rising are_good_keys IsEntryOf _ _ c.keys.keys.items _
    ((good_list c.args.bytes.now c.args.at).whole _ c.keys.keys.items _ c.keys.invariant.front (omega (arith, c.keys.invariant.counted)) good)
    (and_parts (list_all is_good_entry c.keys.keys.items) (is_rising c.keys.keys.items) good).1
