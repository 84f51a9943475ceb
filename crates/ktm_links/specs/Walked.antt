-- What a contract sees of an entry of a map that is lent.
use Rattle.ktm_links.specs.declared.walk.EntryRef.{EntryRef}
use Rattle.ktm_links.specs.Mapped.{NamedItem}

-- the entry that is lent
abbrev pub entry_seen : {T : Type 0} → EntryRef T → NamedItem T
entry_seen entry = record { name = entry.name.now; key = entry.key; value = entry.value.now }
