-- A readable table of pairs is a readable table of their entries, and there are no others.
use Rattle.std.specs.Prelude.{Contains}
use Rattle.std.specs.List.{AllByRecursion}
use Rattle.std.specs.declared.cmp.Ordering.{Ordering}
use Rattle.std.proofs.Common.{◌≡◌, ⊎_elim, ◌<◌, ℕ, List, [], ◌∷◌, None, refl, subst, sym}
use Rattle.leveldb_base.proofs.HistoryLemmas.{in_cases, in_front, in_none, in_rest}
use Rattle.leveldb_base.specs.Entries.{entries_of_pairs, value_of}
use Rattle.leveldb_base.specs.History.{AreAbove, Entry}
use Rattle.leveldb_base.specs.Types.{Pair}
use Rattle.leveldb_env.specs.Compressor.{Codings, Decodes}
use Rattle.leveldb_table.proofs.TableReaderLemmas.{decodes_one, one_table}
use Rattle.leveldb_table.specs.ReadableTable.{IsNumberedKey, IsReadableTable}
use Rattle.leveldb_table.specs.TableLaws.{DecodesMore}
use Rattle.leveldb_base.specs.Cmp.{internal_accepts}
use Rattle.leveldb_base.specs.KeyTypes.{internal_cmp, user_part}
use Rattle.leveldb_version.proofs.Tables.NewestLemmas.{entries_are}
use Rattle.leveldb_files.proofs.Stores.StoreTablesLemmas.{store_tables_by_more}
use Rattle.leveldb_files.specs.Stores.Batches.{Each}
use Rattle.leveldb_files.specs.Stores.Format.{Meaning}
use Rattle.leveldb_version_set.specs.Repairs.Found.{IsAnyTable, IsReadable}
use Rattle.leveldb_files.specs.Stores.Store.{IsInternalPair, any_user_key}
use Rattle.leveldb_repair.specs.FoundTables.{AreNumberedPairs}

-- ---- keys and entries

-- the entry of a pair whose key has its tag
entry_named : (pair : Pair) → IsNumberedKey pair.0
    → (entry : Entry) × IsInternalPair pair entry × (0 < entry.sequence)
entry_named pair named = (
  record {
    sequence = named.sequence;
    key = named.user;
    value = value_of named.kind pair.1;
  },
  record { kind = named.kind; key = named.key_is; value = refl; fits = named.fits },
  named.from_one,
)

-- and those of pairs
entries_named : (pairs : List Pair) → AllByRecursion (λ pair. IsNumberedKey pair.0) pairs
    → (entries : List Entry) × Each IsInternalPair pairs entries × AreAbove 0 entries
entries_named [] named = ([], tt, λ entry c. absurd (in_none entry c))
entries_named (pair ∷ pairs) named =
    let first = entry_named pair named.0 in let rest = entries_named pairs named.1 in (
      first.0 ∷ rest.0,
      (first.1, rest.1),
      λ entry c. ⊎_elim
          (λ (same : first.0 ≡ entry). subst (λ (e : Entry). 0 < e.sequence) same first.2)
          (λ (later : Contains rest.0 entry). rest.2 entry later)
          (in_cases first.0 entry rest.0 c),
    )

-- pairs whose keys have their tags are those of entries
pub numbered_pairs : (pairs : List Pair) → AllByRecursion (λ pair. IsNumberedKey pair.0) pairs
    → AreNumberedPairs pairs
numbered_pairs pairs named =
    let all = entries_named pairs named in
    let are = entries_are pairs all.0 all.1 in record {
      each = subst (Each IsInternalPair pairs) (sym are) all.1;
      numbered = subst (AreAbove 0) (sym are) all.2;
    }

-- and the keys of entries have their tags
pub numbered_keys : (pairs : List Pair) (entries : List Entry) → Each IsInternalPair pairs entries
    → AreAbove 0 entries → AllByRecursion (λ pair. IsNumberedKey pair.0) pairs
numbered_keys [] entries each above = tt
numbered_keys (pair ∷ pairs) [] each above = absurd each
numbered_keys (pair ∷ pairs) (entry ∷ entries) each above =
    let is = each.0 in (
      record {
        user = entry.key;
        sequence = entry.sequence;
        kind = is.kind;
        key_is = is.key;
        from_one = above entry (in_front entry entries);
        fits = is.fits;
      },
      numbered_keys pairs entries each.1 (λ other c. above other (in_rest entry other entries c)),
    )

-- ---- tables

module _ (cmp : List ℕ → List ℕ → Ordering) where
  module _ (meaning : Meaning) where
    -- a readable table of these pairs is one of their entries
    pub entries_readable : (bytes : List ℕ) (pairs : List Pair)
        → IsReadableTable (Decodes meaning.codings) cmp bytes pairs
        → IsReadable (IsAnyTable cmp meaning) bytes (entries_of_pairs pairs)
    entries_readable bytes pairs is =
        let are = numbered_pairs pairs is.numbered in
        record { pairs = pairs; read = is.table; each = are.each; numbered = are.numbered }

    -- and one of these entries is one of pairs that have them
    pub pairs_readable : (bytes : List ℕ) (entries : List Entry)
        → IsReadable (IsAnyTable cmp meaning) bytes entries
        → (pairs : List Pair) × IsReadableTable (Decodes meaning.codings) cmp bytes pairs
        × (entries_of_pairs pairs ≡ entries)
    pairs_readable bytes entries is = (
      is.pairs,
      record {
        table = is.read;
        numbered = numbered_keys is.pairs entries is.each is.numbered;
      },
      entries_are is.pairs entries is.each,
    )

  -- with more compressors it is one still
  pub readable_by_more : (codings more : Codings) → DecodesMore (Decodes codings) (Decodes more)
      → (bytes : List ℕ) (pairs : List Pair) → IsReadableTable (Decodes codings) cmp bytes pairs
      → IsReadableTable (Decodes more) cmp bytes pairs
  readable_by_more codings more by bytes pairs is = record {
    table = store_tables_by_more (Decodes codings) (Decodes more) by cmp (λ name. None) bytes pairs
        is.table;
    numbered = is.numbered;
  }

  -- of one list of pairs
  pub one_readable_list : (codings : Codings) (bytes : List ℕ) (these those : List Pair)
      → IsReadableTable (Decodes codings) cmp bytes these
      → IsReadableTable (Decodes codings) cmp bytes those → these ≡ those
  one_readable_list codings bytes these those first second =
      one_table (Decodes codings) (internal_cmp cmp) (decodes_one codings)
      (internal_accepts any_user_key) (internal_accepts any_user_key) (λ name. None) (λ name. None)
      user_part user_part bytes these those first.table second.table
