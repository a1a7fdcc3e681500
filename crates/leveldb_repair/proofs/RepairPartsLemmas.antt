-- What is found while a repair goes on: what there is of its tables is a part of one of found entries, or
-- isn't readable.
use Rattle.std.specs.Prelude.{◌≢◌, Bool, Contains, IfSome}
use Rattle.std.specs.Option.{option_map}
use Rattle.std.proofs.Common.{◌≡◌, ◌≤◌, ◌<◌, ◌+◌, ◌++◌, ◌∙◌, ℕ, List, [], ◌∷◌, Option, None, Some, inl, inr, refl, sym, ap, subst, arith, append_assoc, append-nil}
use Rattle.leveldb_base.proofs.EntriesLemmas.{in_map}
use Rattle.leveldb_base.proofs.NamesLemmas.{made_name}
use Rattle.leveldb_base.specs.BlockHandle.{Handle, handle_bytes}
use Rattle.leveldb_base.specs.Entries.{entries_of_pairs, entry_of_pair}
use Rattle.leveldb_base.specs.History.{Entry}
use Rattle.leveldb_base.specs.KeyTypes.{user_part}
use Rattle.leveldb_base.specs.Names.{file_name}
use Rattle.leveldb_base.specs.Types.{Pair}
use Rattle.leveldb_base.specs.declared.cmp.Cmp.{Ghosts as CmpGhosts}
use Rattle.leveldb_base.specs.declared.types.FileType.TheVariants.{Table}
use Rattle.leveldb_env.specs.Compressor.{Decodes}
use Rattle.leveldb_env.specs.Env.{File, FileCrashesTo, Files, FilesCrashTo, bytes_of}
use Rattle.leveldb_env.specs.declared.filter.FilterPolicy.{Ghosts as FilterGhosts}
use Rattle.leveldb_table.specs.Footer.{filled, footer_bytes, magic}
use Rattle.leveldb_files.proofs.Stores.StoreTablesLemmas.{store_tables_by_more}
use Rattle.leveldb_files.specs.Steps.StoreSteps.{IsKept}
use Rattle.leveldb_files.specs.Stores.Format.{Agrees, IsTableOf, Meaning}
use Rattle.leveldb_files.specs.Stores.Paths.{table_path}
use Rattle.leveldb_version_set.proofs.Repairs.RepairingFoundLemmas.{crash_leaves_found, filters_are_ignored, found_stays}
use Rattle.leveldb_version.proofs.Tables.NewestLemmas.{entries_are}
use Rattle.leveldb_version_set.specs.Repairs.Found.{IsAnyTable, IsFound, IsReadable}
use Rattle.leveldb_version_set.specs.Repairs.Repairing.{SameFound}
use Rattle.leveldb_store.proofs.Compactions.MergedMadeLemmas.{BuildsForStore}
use Rattle.leveldb_store.specs.Tables.BuildTable.{TableChoices}
use Rattle.leveldb_store.specs.Tables.TableParts.{IsBuiltOf, IsSameOrPart, IsTablePart}
use Rattle.leveldb_repair.proofs.RepairAgainLemmas.{bytes_at}
use Rattle.leveldb_repair.proofs.RepairStoreLemmas.{decodes_by}
use Rattle.leveldb_repair.proofs.TablePartsLemmas.{part_front}
use Rattle.leveldb_repair.specs.RepairLaws.{CrashesInsideLeaveFound, MakesUpNoTable, MomentsLeaveFound, OnlyWholeIsReadable}
use Rattle.leveldb_repair.specs.RepairStore.{HasFoundEntry, IsPartlyRepaired}

-- ---- no byte is no table

right_none : (front rest : List ℕ) → [] ≡ front ++ rest → rest ≡ []
right_none [] rest e = sym e
right_none (byte ∷ front) rest e = absurd (let never : [] ≡ byte ∷ (front ++ rest) = e in cc)

no_footer : (front : List ℕ) (meta index : Handle) → [] ≡ front ++ footer_bytes meta index → ⊥
unfolding footer_bytes
no_footer front meta index e =
    let last : magic ≡ [] = right_none (filled 40 (handle_bytes meta ++ handle_bytes index)) magic
    (sym (right_none front (footer_bytes meta index) e)) in cc

-- ---- what is found of them

module _ {C FP : Type 0} {order : CmpGhosts C} {filters : FilterGhosts FP}
    (choices : TableChoices order filters) (builds : BuildsForStore choices) (store : List ℕ)
    (meaning : Meaning) (agrees : Agrees choices.format meaning) (old : Files) where
  abbrev IsAny : List ℕ → List Pair → Type 0
  IsAny = IsAnyTable choices.format.order meaning

  -- a whole table of found entries has no others
  built_found : (bytes : List ℕ) → IsBuiltOf choices (HasFoundEntry choices store meaning old) bytes
      → (entries : List Entry) (entry : Entry) → IsReadable IsAny bytes entries
      → Contains entries entry → IsFound store IsAny old entry
  built_found bytes whole entries entry readable c =
      let f = choices.format in
      let known = subst (λ (o : Option (List ℕ → List ℕ → Bool)).
      IfSome o (λ known. known ≡ (λ key. f.matches (user_part key)))) (sym agrees.filters) refl in
      let table : IsTableOf f.order meaning bytes whole.pairs =
      store_tables_by_more (Decodes f.codings) (Decodes meaning.codings) (decodes_by agrees) f.order
      meaning.filters bytes whole.pairs (builds whole.pairs bytes whole.built meaning.filters known)
      in
      let pairs = (filters_are_ignored f.order meaning bytes whole.pairs readable.pairs table).0
      readable.read in
      let are = entries_are readable.pairs entries readable.each in
      let at = in_map entry_of_pair whole.pairs entry
      (subst (λ (es : List Entry). Contains es entry) (sym are ∙ ap entries_of_pairs pairs) c) in
      subst (IsFound store IsAny old) at.2 (whole.each at.0 at.1)

  module _ (now left : Files) (it : IsPartlyRepaired choices store meaning old now)
      (gone : (path : List ℕ) → now path ≡ None → left path ≡ None)
      (no_other : MakesUpNoTable choices store meaning old now left)
      (whole : OnlyWholeIsReadable choices store meaning old left) where
    -- the bytes that there are of a new table
    abbrev pub meant : ℕ → List ℕ
    meant n = bytes_at (left (table_path store n))

    wasnt_there : (n : ℕ) → it.taken + 2 ≤ n → n < it.next → old (table_path store n) ≡ None
    wasnt_there n from below = by (old (table_path store n)) refl
      where
        by : (file : Option File) → old (table_path store n) ≡ file
            → old (table_path store n) ≡ None
        by None is = is
        by (Some file) is =
            let fits = it.repairing.fits in
            let under = it.repairing.taken_is.below (file_name Table n) n Table
            (made_name Table n (omega (arith, below, fits)))
            (λ none. let never : None ≡ Some file = sym none ∙ is in cc) in
            absurd (omega (arith, under, from))

    found_of : (n : ℕ) (entries : List Entry) (entry : Entry) (file : File)
        → old (table_path store n) ≡ None → left (table_path store n) ≡ Some file
        → IsReadable IsAny (bytes_of file) entries → Contains entries entry
        → IsSameOrPart choices (HasFoundEntry choices store meaning old)
        (old (table_path store n)) (now (table_path store n))
        → IsFound store IsAny old entry
    found_of n entries entry file none there readable c (inl same) = absurd
        (let never : None ≡ Some file =
        sym (gone (table_path store n) (same ∙ none)) ∙ there in cc)
    found_of n entries entry file none there readable c (inr (was, stood, part)) =
        let begins = no_other n was file entries none stood there readable in
        built_found (bytes_of file)
        (whole n file entries none there (part_front choices (HasFoundEntry choices store meaning old)
        (bytes_of was) (bytes_of file) begins.0 begins.1 part) readable)
        entries entry readable c

    pub meant_found : (n : ℕ) (entries : List Entry) (entry : Entry) → it.taken + 2 ≤ n
        → n < it.next → IsReadable IsAny (meant n) entries → Contains entries entry
        → IsFound store IsAny old entry
    meant_found n entries entry from below readable c = by (left (table_path store n)) refl readable
      where
        by : (file : Option File) → left (table_path store n) ≡ file
            → IsReadable IsAny (bytes_at file) entries → IsFound store IsAny old entry
        by None is has = absurd (no_footer has.read.tabled.front has.read.meta has.read.index
            has.read.tabled.ends)
        by (Some file) is has = found_of n entries entry file (wasnt_there n from below) is has c
            (it.parts n from below)

pub moments_leave_found : {C FP : Type 0} {order : CmpGhosts C} {filters : FilterGhosts FP}
    (choices : TableChoices order filters) → BuildsForStore choices → (store : List ℕ)
    → MomentsLeaveFound choices store
moments_leave_found choices builds store meaning old now agrees it whole =
    let IsAny = IsAnyTable choices.format.order meaning in
    found_stays store IsAny it.taken it.next old now it.repairing
    (meant choices builds store meaning agrees old now now it (λ path none. none) same whole)
    (meant_found choices builds store meaning agrees old now now it (λ path none. none) same whole)
    (λ n file entries from below there readable. sym (ap bytes_at there))
  where
    same : MakesUpNoTable choices store meaning old now now
    same n was file entries none stood there readable = ([], all)
      where
        all : bytes_of was ≡ bytes_of file ++ []
        all = ap bytes_at (sym stood ∙ there) ∙ sym (append-nil (bytes_of file))

pub crashes_leave_found : {C FP : Type 0} {order : CmpGhosts C} {filters : FilterGhosts FP}
    (choices : TableChoices order filters) → BuildsForStore choices → (store : List ℕ)
    → CrashesInsideLeaveFound choices store
crashes_leave_found choices builds store meaning old now left agrees it kept leaves no_other whole =
    let IsAny = IsAnyTable choices.format.order meaning in
    crash_leaves_found store IsAny it.taken it.next old now it.repairing
    (meant choices builds store meaning agrees old now left it gone no_other whole) left
    (meant_found choices builds store meaning agrees old now left it gone no_other whole) kept
    leaves (λ n file entries from below there readable. sym (ap bytes_at there))
  where
    gone : (path : List ℕ) → now path ≡ None → left path ≡ None
    gone path none = subst (λ (f : Option File). FileCrashesTo f (left path)) none (leaves path)
