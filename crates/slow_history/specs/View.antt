-- The pairs and entries that the values of this crate hold.
use Rattle.std.specs.Prelude.{ℕ, List, map}
use Rattle.std.specs.Option.{option_map}
use Rattle.leveldb_base.specs.History.{Entry}
use Rattle.slow_history.specs.declared.view.Entry.{Entry as DeclaredEntry}
use Rattle.std.specs.Borrow.{Bor}
use Rattle.leveldb_base.specs.Types.{Pair}

-- the pairs that are borrowed
abbrev pub borrowed_pairs : List (Bor (List ℕ) × Bor (List ℕ)) → List Pair
borrowed_pairs pairs = map (λ pair. (pair.0.now, pair.1.now)) pairs

-- the entry that a struct holds
abbrev pub entry_of : DeclaredEntry → Entry
entry_of entry = record {
  sequence = entry.sequence;
  key = entry.key.items;
  value = option_map (λ bytes. bytes.items) entry.value;
}

-- the entries that are borrowed
abbrev pub borrowed_entries : List (Bor DeclaredEntry) → List Entry
borrowed_entries entries = map (λ entry. entry_of entry.now) entries
