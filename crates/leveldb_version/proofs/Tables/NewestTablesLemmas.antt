-- What a search that ends at the first table with an entry of the key finds, all tables together
-- have.
use Rattle.std.specs.Prelude.{◌≢◌, All, Contains, IsPermutation}
use Rattle.std.proofs.Common.{◌≡◌, ◌⊎◌, inl, inr, ⊎_elim, ℕ, ◌==◌, ◌<◌, ◌≤◌, false, List, [], ◌∷◌, ◌++◌, Option, None, Some, length, map, refl, sym, ◌∙◌, ap, subst, arith}
use Rattle.std.proofs.lemmas.Bool.{cases_lt, eqb-true}
use Rattle.std.proofs.lemmas.List.{same_from_push}
use Rattle.std.proofs.lemmas.List.Elements.{All-contains, Contains-append_left, Contains-push, Contains-push_cases}
use Rattle.std.proofs.lemmas.List.Sorted.{Contains-permutation, IsPermutation-sym}
use Rattle.std.specs.declared.cmp.Ordering.{Ordering}
use Rattle.std.specs.declared.cmp.Ordering.TheVariants.{Less}
use Rattle.leveldb_base.proofs.EntriesLemmas.{in_map, map_in}
use Rattle.leveldb_base.proofs.OrderLemmas.{exact_total}
use Rattle.leveldb_base.specs.Cmp.{IsExactOrder}
use Rattle.leveldb_base.specs.Entries.{FindsNewest, HasNewest, is_absent}
use Rattle.leveldb_base.specs.declared.types.Lookup.{Lookup}
use Rattle.leveldb_base.specs.declared.types.Lookup.TheVariants.{Value, Deleted, Absent}
use Rattle.leveldb_base.specs.History.{Entry}
use Rattle.leveldb_base.specs.KeyTypes.{internal_cmp, user_part}
use Rattle.leveldb_base.specs.Types.{Pair}
use Rattle.leveldb_env.specs.Compressor.{Decodes}
use Rattle.leveldb_env.specs.Env.{Files, bytes_of}
use Rattle.leveldb_table.proofs.TableReaderLemmas.{decodes_one, one_table as one_list}
use Rattle.leveldb_files.proofs.Stores.BatchesLemmas.{each_one}
use Rattle.leveldb_files.proofs.Stores.OneStoreLemmas.{flat_in, in_flat, one_entry}
use Rattle.leveldb_files.proofs.Histories.SafeLemmas.{some_is}
use Rattle.leveldb_version.proofs.Versions.SearchLemmas.{kept_passes, same_or_not}
use Rattle.leveldb_files.proofs.Levels.TablesLemmas.{one_store_table, tables_bounded}
use Rattle.leveldb_files.specs.Stores.Batches.{Each}
use Rattle.leveldb_files.specs.Stores.Format.{IsTableOf, Meaning}
use Rattle.leveldb_files.specs.Levels.Levels.{AreDisjoint, IsBounded, IsInRange, LevelOrder, LiveTable, table_entries}
use Rattle.leveldb_files.specs.Stores.Paths.{table_path}
use Rattle.leveldb_version.specs.Versions.Search.{AreAllTried, AreDisjointLevels, AreTriedFirst, IsTriedBefore}
use Rattle.leveldb_files.specs.Stores.Store.{HasTable, IsInternalPair}
use Rattle.leveldb_files.specs.Levels.Summary.{files_of_level}
use Rattle.leveldb_files.specs.Edits.Edit.{NewFile}

-- ---- tables that are there

same_head : {A : Type 0} {x y : A} {xs ys : List A} → x ∷ xs ≡ y ∷ ys → x ≡ y
same_head e = cc

module _ {cmp : List ℕ → List ℕ → Ordering} (exact : IsExactOrder cmp) (meaning : Meaning) (store : List ℕ) (files : Files) where
  -- of one number there is one table
  module _ (a b : LiveTable) (p : HasTable store cmp (IsTableOf cmp meaning) files a) (q : HasTable store cmp (IsTableOf cmp meaning) files b) (same : a.file.number ≡ b.file.number) where
    one_file : p.file ≡ q.file
    one_file = some_is p.file q.file (sym p.there ∙ ap (λ n. files (table_path store n)) same ∙ q.there)

    one_list_of : p.pairs ≡ q.pairs
    one_list_of =
        let one = one_store_table (Decodes meaning.codings) cmp meaning.filters (decodes_one meaning.codings) (one_list (Decodes meaning.codings) (internal_cmp cmp)) in
        one (bytes_of q.file) p.pairs q.pairs (subst (λ f. IsTableOf cmp meaning (bytes_of f) p.pairs) one_file p.read) q.read

    pub one_number : a.entries ≡ b.entries
    one_number = each_one IsInternalPair one_entry q.pairs a.entries b.entries (subst (λ ps. Each IsInternalPair ps a.entries) one_list_of p.each) q.each

    same_size : a.file.size ≡ b.file.size
    same_size = sym p.size ∙ ap (λ f. length (bytes_of f)) one_file ∙ q.size

    same_smallest : a.file.smallest ≡ b.file.smallest
    same_smallest = ap (λ (pair : Pair). pair.0) (same_head (sym p.smallest.2 ∙ one_list_of ∙ q.smallest.2))

    same_largest : a.file.largest ≡ b.file.largest
    same_largest = ap (λ (pair : Pair). pair.0) (same_from_push p.largest.0 q.largest.0 (a.file.largest, p.largest.1) (b.file.largest, q.largest.1) (sym p.largest.2 ∙ one_list_of ∙ q.largest.2)).1

    pub one_in_level : a.file.level ≡ b.file.level → a.file ≡ b.file
    one_in_level level = λ i. record { level = level i; number = same i; size = same_size i; smallest = same_smallest i; largest = same_largest i }

  module _ (tables : List LiveTable) (each : All (HasTable store cmp (IsTableOf cmp meaning) files) tables) where
    pub there : (table : LiveTable) → Contains tables table → HasTable store cmp (IsTableOf cmp meaning) files table
    there table c = All-contains (HasTable store cmp (IsTableOf cmp meaning) files) tables table each c

    pub bounded : (table : LiveTable) → Contains tables table → IsBounded cmp table
    bounded table c = tables_bounded cmp (exact_total exact) (Decodes meaning.codings) meaning.filters store files table (there table c)

    module _ (all : List NewFile) (files_are : IsPermutation (map (λ table. table.file) tables) all) where
      pub table_of : (file : NewFile) → Contains all file → (table : LiveTable) × Contains tables table × (table.file ≡ file)
      table_of file c = in_map (λ (table : LiveTable). table.file) tables file
          (Contains-permutation all (map (λ table. table.file) tables) file (IsPermutation-sym (map (λ table. table.file) tables) all files_are) c)

      pub file_of : (table : LiveTable) → Contains tables table → Contains all table.file
      file_of table c = Contains-permutation (map (λ table. table.file) tables) all table.file files_are (map_in (λ (one : LiveTable). one.file) tables table c)

      -- the files of a level are apart where the tables are in levels
      pub disjoint_levels : LevelOrder cmp tables → AreDisjointLevels cmp all
      disjoint_levels order level deep = record {
        ordered = λ file c.
            let table = table_of file (kept_passes (λ (f : NewFile). f.level == level) all file c).0 in
            subst (λ (f : NewFile). cmp (user_part f.largest) (user_part f.smallest) ≢ Less) table.2 (bounded table.0 table.1).ordered;
        apart = apart;
      }
        where
          apart : (a b : NewFile) → Contains (files_of_level level all) a → Contains (files_of_level level all) b → (a ≡ b) ⊎ AreDisjoint cmp a b
          apart a b c d =
              let in_a = kept_passes (λ (f : NewFile). f.level == level) all a c in
              let in_b = kept_passes (λ (f : NewFile). f.level == level) all b d in
              let p = table_of a in_a.0 in
              let q = table_of b in_b.0 in
              let at_a : p.0.file.level ≡ level = ap (λ (f : NewFile). f.level) p.2 ∙ eqb-true a.level level in_a.1 in
              let at_b : q.0.file.level ≡ level = ap (λ (f : NewFile). f.level) q.2 ∙ eqb-true b.level level in_b.1 in
              ⊎_elim
              (λ (same : p.0.file.number ≡ q.0.file.number). inl (sym p.2 ∙ one_in_level p.0 q.0 (there p.0 p.1) (there q.0 q.1) same (at_a ∙ sym at_b) ∙ q.2))
              (λ (differ : p.0.file.number ≢ q.0.file.number).
              let below : 0 < p.0.file.level = omega (arith, at_a, deep) in
              inr (subst (λ f. AreDisjoint cmp f b) p.2 (subst (λ f. AreDisjoint cmp p.0.file f) q.2 (order.disjoint p.0 q.0 p.1 q.1 (at_a ∙ sym at_b) below differ))))
              (same_or_not p.0.file.number q.0.file.number)

      -- ---- what the first table with an entry of a key has

      module _ (s : ℕ) (key : List ℕ) where
        -- what the tables of a file find of the key
        abbrev pub FileFinds : NewFile → Lookup (List ℕ) → Type 0
        FileFinds file found = (table : LiveTable) → Contains tables table → table.file ≡ file → FindsNewest table.entries s key found

        in_range : (table : LiveTable) → Contains tables table → (entry : Entry) → Contains table.entries entry → entry.key ≡ key → IsInRange cmp table.file key
        in_range table c entry d k = subst (IsInRange cmp table.file) k ((bounded table c).within entry d)

        -- where none of the files with the key in their range has one, none has
        pub none_found : (tried : List NewFile) → AreAllTried cmp key all tried → ((file : NewFile) → Contains tried file → FileFinds file Absent) → FindsNewest (table_entries tables) s key Absent
        none_found tried are_all none entry c k seen =
            let from = in_flat (λ (t : LiveTable). t.entries) tables entry c in
            none from.0.file (are_all from.0.file (file_of from.0 from.1) (in_range from.0 from.1 entry from.2 k)) from.0 from.1 refl entry from.2 k seen

        module _ (order : LevelOrder cmp tables) (before : List NewFile) (file : NewFile) (tried : AreTriedFirst cmp key all (before ++ file ∷ [])) (none : (one : NewFile) → Contains before one → FileFinds one Absent) where
          module _ {value : Option (List ℕ)} (finds : (table : LiveTable) → Contains tables table → table.file ≡ file
              → HasNewest table.entries s key value) where
            table : (table : LiveTable) × Contains tables table × (table.file ≡ file)
            table = table_of file (Contains-permutation ((before ++ file ∷ []) ++ tried.rest) all file (IsPermutation-sym all ((before ++ file ∷ []) ++ tried.rest) tried.once)
                (Contains-append_left (before ++ file ∷ []) tried.rest file (Contains-push before file)))

            has : HasNewest table.0.entries s key value
            has = finds table.0 table.1 table.2

            -- an entry of another table is this one's too, or older
            not_newer : (other : LiveTable) → Contains tables other → (entry : Entry) → Contains other.entries entry → entry.key ≡ key → entry.sequence ≤ s → Contains table.0.entries entry ⊎ (entry.sequence < has.entry.sequence)
            not_newer other c entry d k seen = ⊎_elim
                (λ (one : Contains (before ++ file ∷ []) other.file). ⊎_elim
                (λ (passed : Contains before other.file). absurd (none other.file passed other c refl entry d k seen))
                (λ (same : file ≡ other.file). inl (mine (ap (λ (f : NewFile). f.number) (table.2 ∙ same))))
                (Contains-push_cases before file other.file one))
                (λ (later : All (λ one. IsTriedBefore one other.file) (before ++ file ∷ [])).
                by (All-contains (λ one. IsTriedBefore one other.file) (before ++ file ∷ []) file later (Contains-push before file)))
                (tried.others other.file (file_of other c) (in_range other c entry d k))
              where
                same_key : entry.key ≡ has.entry.key
                same_key = k ∙ sym has.key_is

                mine : table.0.file.number ≡ other.file.number → Contains table.0.entries entry
                mine same = subst (λ (es : List Entry). Contains es entry) (sym (one_number table.0 other (there table.0 table.1) (there other c) same)) d

                by : IsTriedBefore file other.file → Contains table.0.entries entry ⊎ (entry.sequence < has.entry.sequence)
                by (inl deeper) =
                    let up = ap (λ (f : NewFile). f.level) table.2 in
                    inr (order.deeper table.0 other table.1 c (omega (arith, deeper, up)) entry has.entry d has.newest.there same_key)
                by (inr (zero_file, zero_other, most)) =
                    let number = ap (λ (f : NewFile). f.number) table.2 in
                    ⊎_elim
                    (λ (same : table.0.file.number ≡ other.file.number). inl (mine same))
                    (λ (differ : table.0.file.number ≢ other.file.number).
                    let less : other.file.number < table.0.file.number = below differ (omega (arith, number, most)) in
                    inr (order.newer other table.0 c table.1 zero_other (ap (λ (f : NewFile). f.level) table.2 ∙ zero_file) less entry has.entry d has.newest.there same_key))
                    (same_or_not table.0.file.number other.file.number)
                  where
                    below : table.0.file.number ≢ other.file.number → other.file.number ≤ table.0.file.number → other.file.number < table.0.file.number
                    below differ upto = ⊎_elim (λ (less : other.file.number < table.0.file.number). less) (λ (least : table.0.file.number ≤ other.file.number). absurd (differ (omega (arith, upto, least)))) (cases_lt other.file.number table.0.file.number)

            pub some_found : HasNewest (table_entries tables) s key value
            some_found = record {
              entry = has.entry;
              newest = record {
                there = flat_in (λ (t : LiveTable). t.entries) tables table.0 has.entry table.1 has.newest.there;
                seen = has.newest.seen;
                newest = λ other c k seen.
                    let from = in_flat (λ (t : LiveTable). t.entries) tables other c in
                    ⊎_elim
                    (λ (mine : Contains table.0.entries other). has.newest.newest other mine k seen)
                    (λ (less : other.sequence < has.entry.sequence). omega (arith, less))
                    (not_newer from.0 from.1 other from.2 (k ∙ has.key_is) seen);
              };
              key_is = has.key_is;
              value_is = has.value_is;
              only = λ other newest k.
                  let from = in_flat (λ (t : LiveTable). t.entries) tables other newest.there in
                  let above = newest.newest has.entry (flat_in (λ (t : LiveTable). t.entries) tables table.0 has.entry table.1 has.newest.there) (has.key_is ∙ sym k) has.newest.seen in
                  ⊎_elim
                  (λ (mine : Contains table.0.entries other). has.only other (record {
                    there = mine;
                    seen = newest.seen;
                    newest = λ more c same seen. newest.newest more (flat_in (λ (t : LiveTable). t.entries) tables table.0 more table.1 c) same seen;
                  }) k)
                  (λ (less : other.sequence < has.entry.sequence). absurd (omega (arith, less, above)))
                  (not_newer from.0 from.1 other from.2 k newest.seen);
            }

          -- an entry that the first of them finds, all find
          pub found_in_all : (found : Lookup (List ℕ)) → is_absent found ≡ false → FileFinds file found → FindsNewest (table_entries tables) s key found
          found_in_all Absent some finds = absurd cc
          found_in_all Deleted some finds = some_found {value = None} finds
          found_in_all (Value value) some finds = some_found {value = Some value} finds
