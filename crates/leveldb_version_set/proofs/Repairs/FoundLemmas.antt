-- What is found in a folder is one set: bytes are a log of one list of batches, and a readable
-- table of one list of entries. It goes by the bytes of tables and logs alone.
use Rattle.leveldb_base.specs.History.{Entry}
use Rattle.leveldb_base.specs.Names.{IsFileName}
use Rattle.leveldb_base.specs.Types.{Pair}
use Rattle.leveldb_base.specs.declared.types.FileType.TheVariants.{Log, Table}
use Rattle.leveldb_env.specs.Env.{File, Files, bytes_of, in_folder}
use Rattle.leveldb_mem.proofs.LawsLemmas.{log_laws}
use Rattle.leveldb_mem.specs.WriteBatch.{Batch}
use Rattle.leveldb_mem.specs.WriteBatchLaws.{BatchOf-one}
use Rattle.leveldb_files.proofs.Stores.BatchesLemmas.{each_one}
use Rattle.leveldb_files.proofs.Stores.ManagedLemmas.{SameBytes, found_again}
use Rattle.leveldb_files.proofs.Stores.OneStoreLemmas.{one_entry}
use Rattle.leveldb_files.specs.Stores.Batches.{Each}
use Rattle.leveldb_version_set.specs.Repairs.Found.{AreFound, IsFound, IsFoundLog, IsNoBatchNext, IsNumberedBatch, IsReadable, LogHas, TableHas}
use Rattle.leveldb_version_set.specs.Repairs.Repairing.{SameFound, SameTablesAndLogs}
use Rattle.leveldb_files.specs.Stores.Store.{IsInternalPair, OneTableReading, SameEntries}
use Rattle.std.proofs.Common.{◌++◌, ◌∷◌, ◌≡◌, ◌⊎◌, List, Some, [], inl, inr, refl, subst, sym, ℕ}
use Rattle.std.specs.Prelude.{◌↔◌}

-- ---- one reading

one_numbered : (text : List ℕ) (a b : Batch) → IsNumberedBatch text a → IsNumberedBatch text b
    → a ≡ b
one_numbered text a b p q =
    let same = BatchOf-one text a.first b.first a.items b.items p.record_is q.record_is in
    λ i. record { first = same.0 i; items = same.1 i }

-- two fronts of the same records that are batches, each as long as it can be
one_front : (xs ys rest more : List (List ℕ)) (these those : List Batch)
    → Each IsNumberedBatch xs these → Each IsNumberedBatch ys those → IsNoBatchNext rest
    → IsNoBatchNext more → xs ++ rest ≡ ys ++ more → these ≡ those
one_front [] [] rest more [] [] e f stop halt same = refl
one_front [] [] rest more (a ∷ these) those e f stop halt same = absurd e
one_front [] [] rest more [] (b ∷ those) e f stop halt same = absurd f
one_front [] (y ∷ ys) rest more these [] e f stop halt same = absurd f
one_front [] (y ∷ ys) rest more these (b ∷ those) e f stop halt same =
    absurd (subst IsNoBatchNext same stop b f.0)
one_front (x ∷ xs) [] rest more [] those e f stop halt same = absurd e
one_front (x ∷ xs) [] rest more (a ∷ these) those e f stop halt same =
    absurd (subst IsNoBatchNext (sym same) halt a e.0)
one_front (x ∷ xs) (y ∷ ys) rest more [] those e f stop halt same = absurd e
one_front (x ∷ xs) (y ∷ ys) rest more (a ∷ these) [] e f stop halt same = absurd f
one_front (x ∷ xs) (y ∷ ys) rest more (a ∷ these) (b ∷ those) e f stop halt same =
    let head : x ≡ y = cc in
    let tail : xs ++ rest ≡ ys ++ more = cc in
    let first = one_numbered y a b (subst (λ z. IsNumberedBatch z a) head e.0) f.0 in
    let others = one_front xs ys rest more these those e.1 f.1 stop halt tail in
    λ i. first i ∷ others i

-- the bytes of a log are read as one list of batches
pub one_found_log : (bytes : List ℕ) (these those : List Batch) → IsFoundLog bytes these
    → IsFoundLog bytes those → these ≡ those
one_found_log bytes these those p q =
    one_front p.front q.front p.rest q.rest these those p.each q.each p.stops q.stops
    (log_laws.one bytes (p.front ++ p.rest) (q.front ++ q.rest) p.end q.end p.read q.read).0

-- and those of a table as one list of entries
pub one_readable : (IsTableOf : List ℕ → List Pair → Type 0) → OneTableReading IsTableOf
    → (bytes : List ℕ) (these those : List Entry) → IsReadable IsTableOf bytes these
    → IsReadable IsTableOf bytes those → these ≡ those
one_readable IsTableOf one bytes these those p q =
    each_one IsInternalPair one_entry q.pairs these those
    (subst (λ ps. Each IsInternalPair ps these) (one bytes p.pairs q.pairs p.read q.read) p.each)
    q.each

module _ (store : List ℕ) (IsTableOf : List ℕ → List Pair → Type 0) where
  -- ---- one set

  pub one_found_set : (files : Files) (these those : List Entry)
      → AreFound store IsTableOf files these
      → AreFound store IsTableOf files those ↔ SameEntries these those
  one_found_set files these those found = (
    λ also entry. (
      λ c. (also entry).1 ((found entry).0 c),
      λ c. (found entry).1 ((also entry).0 c),
    ),
    λ same entry. (
      λ c. (found entry).0 ((same entry).1 c),
      λ is. (same entry).0 ((found entry).1 is),
    ),
  )

  -- ---- the same bytes

  -- what is there has an entry as what was there did
  abbrev pub Has : List ℕ → File → Entry → Type 0
  Has name file entry = TableHas store IsTableOf name (bytes_of file) entry
      ⊎ LogHas name (bytes_of file) entry

  pub has_again : (name : List ℕ) (file now : File) (entry : Entry) → bytes_of now ≡ bytes_of file
      → Has name file entry → Has name now entry
  has_again name file now entry same (inl table) =
      inl (subst (λ b. TableHas store IsTableOf name b entry) (sym same) table)
  has_again name file now entry same (inr log) =
      inr (subst (λ b. LogHas name b entry) (sym same) log)

  -- an entry that a file has is found where the file has the same bytes
  pub found_in : (old new : Files) (name : List ℕ) (file : File) (entry : Entry)
      → old (in_folder store name) ≡ Some file
      → SameBytes (old (in_folder store name)) (new (in_folder store name))
      → Has name file entry → IsFound store IsTableOf new entry
  found_in old new name file entry there same has =
      let again = found_again (old (in_folder store name)) (new (in_folder store name)) file same
      there in
      (name, again.now, again.there, has_again name file again.now entry again.bytes has)

  -- the number and type of a name that has an entry
  pub kind_of : (name : List ℕ) (file : File) (entry : Entry) → Has name file entry
      → (n : ℕ) × (IsFileName name n Table ⊎ IsFileName name n Log)
  kind_of name file entry (inl table) = (table.0, inl table.1)
  kind_of name file entry (inr log) = (log.0, inr log.1)

  found_on : (old new : Files) → SameTablesAndLogs store old new → (entry : Entry)
      → IsFound store IsTableOf old entry → IsFound store IsTableOf new entry
  found_on old new same entry is =
      let kind = kind_of is.0 is.1 entry is.3 in
      found_in old new is.0 is.1 entry is.2 (same is.0 kind.0 kind.1) is.3

  pub found_goes_by_bytes : (old new : Files) → SameTablesAndLogs store old new
      → SameFound store IsTableOf old new
  found_goes_by_bytes old new same entry = (
    found_on old new same entry,
    found_on new old (λ name n kind. sym (same name n kind)) entry,
  )
