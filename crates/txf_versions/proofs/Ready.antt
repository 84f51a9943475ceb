-- Lemmas on the room for older versions.
use Rattle.std.proofs.Common.{◌≡◌, ℕ, ◌+◌, ◌-◌, ◌<◌, ◌≤◌, true, List, [], ◌∷◌, ◌++◌, length, filter, find, None, ap, ◌∙◌, arith, length-append}
use Rattle.txf_versions.specs.declared.kept.Older.{Older}
use Rattle.txf_versions.specs.declared.opened.Opened.{Opened}
use Rattle.txf_versions.specs.Parts.{AreReady, IsTaken}
use Rattle.txf_versions.specs.VersionsState.{is_held, is_pinned, is_version, with_older}
use Rattle.txf_versions.proofs.Apart.{any-none_found, length-with, AreApart-filter, AreApart-with}
use Rattle.txf_versions.proofs.Holding.{fewer_yet, held-kept, held-passed, held-push, length-taken, AreAllHeld-with}

pub AreReady-pin : (opens more : List Opened) (o : Opened) (older : List Older) (spare free : ℕ) → AreReady opens older spare free
    → more ≡ opens ++ o ∷ [] → 0 < free
    → AreReady more older spare (free - 1)
AreReady-pin opens more o older spare free ready is some =
    let len = ap length is ∙ length-append opens (o ∷ []) in
    record {
      once = record { held = rw is (held-push opens o older ready.once.held); apart = ready.once.apart };
      room = omega (arith, ready.room, len, some);
    }

-- there is room for a version that is held and not there
pub room-to_keep : (opens : List Opened) (older : List Older) (v : Older) (spare free : ℕ) → AreReady opens older spare free → is_held opens v ≡ true
    → find (is_version v.file v.version) older ≡ None → 0 < spare
room-to_keep opens older v spare free ready is none =
    let less = fewer_yet opens older v ready.once.apart ready.once.held is (any-none_found v.file v.version older none) in omega (arith, ready.room, less)

pub AreReady-keep : (opens : List Opened) (older more : List Older) (v : Older) (spare less free : ℕ) → AreReady opens older spare free
    → is_held opens v ≡ true → find (is_version v.file v.version) older ≡ None → more ≡ with_older older v → less + 1 ≡ spare → AreReady opens more less free
AreReady-keep opens older more v spare less free ready is none more_is less_is =
    let nowhere = any-none_found v.file v.version older none in
    let fewer = fewer_yet opens older v ready.once.apart ready.once.held is nowhere in
    let len = ap length more_is ∙ length-with older v in
    record {
      once =
          record {
            held = rw more_is (AreAllHeld-with opens older v ready.once.held is);
            apart = rw more_is (AreApart-with older v ready.once.apart nowhere);
          };
      room = omega (arith, ready.room, fewer, len, less_is);
    }

-- where the version is pinned still
pub AreReady-still : (opens less : List Opened) (it : Opened) (older : List Older) (spare free : ℕ) → AreReady opens older spare free → IsTaken opens it less
    → is_pinned less it.file it.version ≡ true → AreReady less older spare free
AreReady-still opens less it older spare free ready taken pinned =
    let len = length-taken opens less it taken in
    record {
      once = record { held = held-kept opens less it older taken pinned ready.once.held; apart = ready.once.apart };
      room = omega (arith, ready.room, len);
    }

-- where it is pinned no more, and its bytes are given back
pub AreReady-gone : (opens less : List Opened) (it : Opened) (older left : List Older) (spare more free : ℕ)
    → AreReady opens older spare free → IsTaken opens it less → left ≡ filter (is_held less) older → length older ≤ length left + 1 → spare ≤ more → AreReady less left more free
AreReady-gone opens less it older left spare more free ready taken is one more_is =
    let len = length-taken opens less it taken in
    record {
      once =
          record {
            held = rw is (held-passed less older);
            apart = rw is (AreApart-filter (is_held less) older ready.once.apart);
          };
      room = omega (arith, ready.room, len, one, more_is);
    }
