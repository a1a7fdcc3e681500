-- What a look-up through the files of a version finds, and why it fails.
use Rattle.std.specs.Prelude.{All, AllPairs, Contains, IfOk, IsErrAnd, IsPermutation, IsSome, IsTrue}
use Rattle.std.proofs.Common.{◌≡◌, ◌⊎◌, inl, inr, ⊎_elim, ℕ, ◌==◌, ◌<◌, ◌≤◌, ◌^◌, true, false, List, [], ◌∷◌, ◌++◌, Option, None, Some, Result, Ok, Err, length, map, refl, sym, ◌∙◌, ap, append_assoc, get_or, subst, arith}
use Rattle.std.proofs.lemmas.List.{append-nil}
use Rattle.std.proofs.lemmas.List.Elements.{All-contains, All-head, All-nil, All-push, All-tail, Contains-append_left, Contains-append_right, Contains-get_or, Contains-push, Contains-push_cases}
use Rattle.std.proofs.lemmas.List.Quantifiers.{all_pairs_push}
use Rattle.std.proofs.lemmas.List.Sorted.{Contains-permutation, IsPermutation-append_left, IsPermutation-pop_more, IsPermutation-refl, IsPermutation-sym}
use Rattle.std.specs.Option.{option_or}
use Rattle.std.specs.declared.cmp.Ordering.{Ordering}
use Rattle.leveldb_base.proofs.EntriesLemmas.{absent_is, map_in}
use Rattle.leveldb_base.proofs.HistoryLemmas.{in_cases, in_none}
use Rattle.leveldb_base.specs.Cmp.{IsExactOrder}
use Rattle.leveldb_base.specs.Entries.{FindsNewest, is_absent}
use Rattle.leveldb_base.specs.declared.types.Lookup.{Lookup}
use Rattle.leveldb_base.specs.declared.types.Lookup.TheVariants.{Absent}
use Rattle.leveldb_base.specs.KeyTypes.{internal_cmp, sequence_part, user_part}
use Rattle.leveldb_base.specs.declared.cmp.Cmp.{Ghosts as CmpGhosts}
use Rattle.leveldb_base.specs.declared.cmp.internal.InternalKeyCmp.{InternalKeyCmp}
use Rattle.leveldb_base.specs.declared.error.Status.{Status}
use Rattle.leveldb_base.specs.declared.error.StatusCode.TheVariants.{NotSupported}
use Rattle.leveldb_env.specs.declared.env.Env.{Ghosts as EnvGhosts}
use Rattle.leveldb_table.proofs.TableBlockLemmas.{KeepsDisk-refl, KeepsDisk-trans, fails_after, fails_ok, fails_refused, reads_ok, reads_refused, reads_then, same_files}
use Rattle.leveldb_table.specs.TableBlock.{KeepsDisk}
use Rattle.leveldb_files.specs.Stores.Format.{Agrees, IsTableFault, LacksCompressor, Meaning}
use Rattle.leveldb_files.specs.Levels.Levels.{IsInRange, LiveTable, table_entries}
use Rattle.leveldb_files.specs.Stores.Paths.{table_path}
use Rattle.leveldb_version.specs.Versions.Search.{AreAllTried, AreDisjointLevels, AreOpenTablesMatched, AreTriedFirst, AreVersionTables, FindsInLast, FindsInNone, FindsInTable, IsTriedBefore, IsUnreadable, LooksUpNewest, OpensTablesOf, SearchesFiles, SearchesTable, TakesNextFile, file_to_charge, lacks_block, unopened, untagged}
use Rattle.leveldb_files.specs.Levels.Summary.{files_of_level}
use Rattle.leveldb_version.specs.Tables.TableCache.{HasBytesAt, IsOpenOrThere, IsTableUnopened, TableOptions, files_at, path_at, store_of, table_at}
use Rattle.leveldb_version.specs.Versions.Version.{AreInVersionOrder, VersionValue, new_files_of}
use Rattle.leveldb_files.specs.Edits.Edit.{LevelFile, NewFile}
use Rattle.leveldb_files.specs.Edits.VersionSet.{level_file}
use Rattle.leveldb_version.specs.declared.table_cache.TableCache.{TableCache}
use Rattle.leveldb_version.specs.declared.version.GetStats.{GetStats}
use Rattle.leveldb_version.proofs.Tables.NewestTablesLemmas.{disjoint_levels, file_of, found_in_all, none_found, table_of, there}
use Rattle.leveldb_version.proofs.Versions.SearchLemmas.{all_from_contains, is_one, kept_passes, passes_kept, stays_left}
use Rattle.leveldb_version.proofs.Tables.SearchTableLemmas.{table_finds, unread_wants}

-- ---- the file that is charged

-- the first file
abbrev pub first_of : List NewFile → Option LevelFile
first_of [] = None
first_of (file ∷ files) = Some (level_file file)

pub first_more : (files : List NewFile) (file : NewFile) → option_or (first_of files) (Some (level_file file)) ≡ first_of (files ++ file ∷ [])
first_more [] file = refl
first_more (first ∷ files) file = refl

pub charge_more : (files : List NewFile) (file : NewFile) → first_of files ≡ file_to_charge (files ++ file ∷ [])
charge_more [] file = refl
charge_more (first ∷ []) file = refl
charge_more (first ∷ second ∷ files) file = refl

-- ---- after calls that leave the disk as it is

module _ {E C FP F : Type 0} (order : CmpGhosts (InternalKeyCmp C)) (env : EnvGhosts E F) (by : TableOptions C FP) (key : List ℕ) (from mid : E) (old cache : TableCache E C FP F)
    (kept : KeepsDisk env from mid) (path : store_of cache ≡ store_of old) (modelled : IsTrue env.models_disk) where
  bytes_after : (number : ℕ) {bytes : List ℕ} → HasBytesAt (files_at env from) (path_at old number) bytes → HasBytesAt (files_at env mid) (path_at cache number) bytes
  bytes_after number {bytes} has =
      subst (λ files. HasBytesAt files (path_at cache number) bytes) (sym (same_files env kept modelled))
      (subst (λ store. HasBytesAt (files_at env from) (table_path store number) bytes) (sym path) has)

  found_before : (number : ℕ) (found : Lookup (List ℕ)) → FindsInTable order env by key mid cache number found → FindsInTable order env by key from old number found
  found_before number found finds = λ bytes has. finds bytes (bytes_after number has)

  unread_before : (number : ℕ) (status : Status) → IsUnreadable order env by key mid cache number status → IsUnreadable order env by key from old number status
  unread_before number status (unopened why) = unopened
      (subst (λ store. IsTableUnopened by.format (files_at env from) (table_path store number) status) path
      (subst (λ files. IsTableUnopened by.format files (path_at cache number) status) (same_files env kept modelled) why))
  unread_before number status (lacks_block lacks) = lacks_block (λ bytes has. lacks bytes (bytes_after number has))
  unread_before number status (untagged code short) = untagged code (λ bytes has. short bytes (bytes_after number has))

-- ---- files

-- in the last one this is found, and in the others nothing
last_finds : {E C FP F : Type 0} {order : CmpGhosts (InternalKeyCmp C)} (env : EnvGhosts E F) (by : TableOptions C FP) (key : List ℕ) (from : E) (old : TableCache E C FP F) (looked : List NewFile) (file : NewFile) (found : Lookup (List ℕ))
    → FindsInNone order env by key from old looked → FindsInTable order env by key from old file.number found → FindsInLast order env by key from old (looked ++ file ∷ []) found
last_finds {order = order} env by key from old [] file found none finds = finds
last_finds {order = order} env by key from old (one ∷ looked) file found none finds =
    let here = All-head (λ (f : NewFile). FindsInTable order env by key from old f.number Absent) one looked none in
    let rest = last_finds env by key from old looked file found (All-tail (λ (f : NewFile). FindsInTable order env by key from old f.number Absent) one looked none) finds in
    with_more looked here rest
  where
    with_more : (more : List NewFile) → FindsInTable order env by key from old one.number Absent → FindsInLast order env by key from old (more ++ file ∷ []) found → FindsInLast order env by key from old (one ∷ (more ++ file ∷ [])) found
    with_more [] here rest = (here, rest)
    with_more (second ∷ more) here rest = (here, rest)

none_finds : {E C FP F : Type 0} {order : CmpGhosts (InternalKeyCmp C)} (env : EnvGhosts E F) (by : TableOptions C FP) (key : List ℕ) (from : E) (old : TableCache E C FP F) (looked : List NewFile)
    → FindsInNone order env by key from old looked → FindsInLast order env by key from old looked Absent
none_finds {order = order} env by key from old [] none = refl
none_finds {order = order} env by key from old (file ∷ []) none = All-head (λ (f : NewFile). FindsInTable order env by key from old f.number Absent) file [] none
none_finds {order = order} env by key from old (file ∷ second ∷ looked) none = (
  All-head (λ (f : NewFile). FindsInTable order env by key from old f.number Absent) file (second ∷ looked) none,
  none_finds env by key from old (second ∷ looked) (All-tail (λ (f : NewFile). FindsInTable order env by key from old f.number Absent) file (second ∷ looked) none),
)

-- ---- the search

module _ {E C FP F : Type 0} (order : CmpGhosts (InternalKeyCmp C)) (env : EnvGhosts E F) (by : TableOptions C FP) (key : List ℕ) (from : E) (old : TableCache E C FP F) (version : VersionValue C) where
  abbrev cmp : List ℕ → List ℕ → Ordering
  cmp = by.format.order

  abbrev files : List NewFile
  files = new_files_of version

  abbrev numbers : List ℕ
  numbers = map (λ file. file.number) files

  -- the order of the files that were looked in and of those that are left, where those of each
  -- level are apart
  pub record AreInTurn (looked left : List NewFile) : Type 0 where
    pub in_range : All (λ file. IsInRange cmp file (user_part key)) looked
    pub in_order : AllPairs IsTriedBefore looked
    pub before : (one file : NewFile) → Contains looked one → Contains left file → IsTriedBefore one file
    pub others : (file : NewFile) → Contains files file → IsInRange cmp file (user_part key) → Contains looked file ⊎ Contains left file

  -- how far a look-up has come in which nothing is found yet
  pub record SearchedSoFar (first charge : Option LevelFile) (left : List NewFile) (mid : E) (cache : TableCache E C FP F) : Type 0 where
    pub kept : KeepsDisk env from mid
    pub counted : env.failures mid ≡ env.failures from
    pub opens : OpensTablesOf order env by key from old numbers mid cache
    pub was_there : (number : ℕ) → number < 2 ^ 64 → IsSome (table_at cache number) → IsOpenOrThere env from old number
    pub sorted : AreInVersionOrder cmp left
    pub looked : List NewFile
    pub gone : List NewFile
    pub once : IsPermutation files (looked ++ (left ++ gone))
    pub all_there : All (λ file. IsOpenOrThere env from old file.number) looked
    pub first_is : first ≡ first_of looked
    pub charge_is : charge ≡ file_to_charge looked
    pub turns : AreDisjointLevels cmp files → AreInTurn looked left
    pub nothing : AreOpenTablesMatched order env by key from old → FindsInNone order env by key from old looked

  pub not_begun : (left : List NewFile) → left ≡ files → AreInVersionOrder cmp files → SearchedSoFar None None left from old
  not_begun left is sorted = record {
    kept = KeepsDisk-refl env from;
    counted = refl;
    opens = record { path = refl; room = refl; block_room = refl; matches = λ matched. matched.matches; opened = λ number small some. inl some };
    was_there = λ number small some. inl some;
    sorted = subst (AreInVersionOrder cmp) (sym is) sorted;
    looked = [];
    gone = [];
    once = subst (IsPermutation files) (sym (append-nil left ∙ is)) (IsPermutation-refl files);
    all_there = All-nil (λ (file : NewFile). IsOpenOrThere env from old file.number);
    first_is = refl;
    charge_is = refl;
    turns = λ levels. record {
      in_range = All-nil (λ (file : NewFile). IsInRange cmp file (user_part key));
      in_order = λ i j d less within. absurd (omega (arith, within));
      before = λ one file c d. absurd (in_none one c);
      others = λ file c has. inr (subst (λ fs. Contains fs file) (sym is) c);
    };
    nothing = λ matched. All-nil (λ (file : NewFile). FindsInTable order env by key from old file.number Absent);
  }

  module _ {first charge : Option LevelFile} {left : List NewFile} {mid : E} {cache : TableCache E C FP F} (so_far : SearchedSoFar first charge left mid cache) where
    matched_mid : AreOpenTablesMatched order env by key from old → AreOpenTablesMatched order env by key mid cache
    matched_mid matched = record { modelled = matched.modelled; matches = so_far.opens.matches matched }

    left_in : (file : NewFile) → Contains left file → Contains files file
    left_in file c = Contains-permutation (so_far.looked ++ (left ++ so_far.gone)) files file (IsPermutation-sym files (so_far.looked ++ (left ++ so_far.gone)) so_far.once)
        (Contains-append_right so_far.looked (left ++ so_far.gone) file (Contains-append_left left so_far.gone file c))

    left_levels : AreDisjointLevels cmp files → AreDisjointLevels cmp left
    left_levels levels level deep = record {
      ordered = λ file c. (levels level deep).ordered file (more file c);
      apart = λ a b c d. (levels level deep).apart a b (more a c) (more b d);
    }
      where
        more : (file : NewFile) → Contains (files_of_level level left) file → Contains (files_of_level level files) file
        more file c = let kept = kept_passes (λ (f : NewFile). f.level == level) left file c in
            passes_kept (λ (f : NewFile). f.level == level) files file (left_in file kept.0) kept.1

    -- ---- one more file

    module _ {file : NewFile} {left_after : List NewFile} (takes : TakesNextFile cmp (user_part key) left (Some file) left_after) where
      abbrev looked_more : List NewFile
      looked_more = so_far.looked ++ file ∷ []

      file_in : Contains files file
      file_in = left_in file (is_one cmp (user_part key) takes)

      once_more : IsPermutation files (looked_more ++ (left_after ++ (takes.passed ++ so_far.gone)))
      once_more = IsPermutation-pop_more files so_far.looked (left ++ so_far.gone) (left_after ++ (takes.passed ++ so_far.gone)) file so_far.once
          (subst (λ fs. IsPermutation (left ++ so_far.gone) (file ∷ fs)) (append_assoc left_after takes.passed so_far.gone)
          (IsPermutation-append_left so_far.gone left (file ∷ (left_after ++ takes.passed)) takes.once))

      turns_more : AreDisjointLevels cmp files → AreInTurn looked_more left_after
      turns_more levels =
          let turn = so_far.turns levels in
          let next = takes.first (left_levels levels) in
          let one = is_one cmp (user_part key) takes in
          record {
            in_range = All-push (λ (f : NewFile). IsInRange cmp f (user_part key)) so_far.looked file turn.in_range next.0;
            in_order = all_pairs_push IsTriedBefore so_far.looked file turn.in_order (λ k d less. turn.before (get_or so_far.looked k d) file (Contains-get_or so_far.looked k d less) one);
            before = λ a b c d. ⊎_elim
                (λ (earlier : Contains so_far.looked a). turn.before a b earlier (stays_left cmp (user_part key) takes b d))
                (λ (same : file ≡ a). subst (λ f. IsTriedBefore f b) same (All-contains (IsTriedBefore file) left_after b next.1 d))
                (Contains-push_cases so_far.looked file a c);
            others = λ other c has. ⊎_elim
                (λ (earlier : Contains so_far.looked other). inl (Contains-append_left so_far.looked (file ∷ []) other earlier))
                (λ (later : Contains left other). ⊎_elim
                (λ (same : Some file ≡ Some other). inl (subst (Contains looked_more) (let e : file ≡ other = cc in e) (Contains-push so_far.looked file)))
                (λ (after : Contains left_after other). inr after)
                (takes.others (left_levels levels) other later has))
                (turn.others other c has);
          }

      first_more_tried : AreDisjointLevels cmp files → AreTriedFirst cmp (user_part key) files looked_more
      first_more_tried levels =
          let turn = turns_more levels in
          record {
            rest = left_after ++ (takes.passed ++ so_far.gone);
            once = once_more;
            in_range = turn.in_range;
            in_order = turn.in_order;
            others = λ other c has. ⊎_elim
                (λ (earlier : Contains looked_more other). inl earlier)
                (λ (later : Contains left_after other). inr (all_from_contains (λ one. IsTriedBefore one other) looked_more (λ one d. turn.before one other d later)))
                (turn.others other c has);
          }

      open_before : file.number < 2 ^ 64 → IsOpenOrThere env mid cache file.number → IsOpenOrThere env from old file.number
      open_before fits (inl some) = so_far.was_there file.number fits some
      open_before fits (inr is_there) = inr (λ modelled.
          subst (λ fs. IsSome (fs (path_at old file.number))) (same_files env so_far.kept modelled)
          (subst (λ store. IsSome (files_at env mid (table_path store file.number))) so_far.opens.path (is_there modelled)))

      module _ {to : E} {new : TableCache E C FP F} (fits : file.number < 2 ^ 64) where
        opens_more : OpensTablesOf order env by key mid cache (file.number ∷ []) to new → OpensTablesOf order env by key from old numbers to new
        opens_more opens = record {
          path = opens.path ∙ so_far.opens.path;
          room = opens.room ∙ so_far.opens.room;
          block_room = opens.block_room ∙ so_far.opens.block_room;
          matches = λ matched. opens.matches (matched_mid matched);
          opened = λ number small some. ⊎_elim
              (λ (was : IsSome (table_at cache number)). so_far.opens.opened number small was)
              (λ (one : Contains (file.number ∷ []) number). inr (subst (Contains numbers) (only number one) (map_in (λ (f : NewFile). f.number) files file file_in)))
              (opens.opened number small some);
        }
          where
            only : (number : ℕ) → Contains (file.number ∷ []) number → file.number ≡ number
            only number c = ⊎_elim (λ (same : file.number ≡ number). same) (λ (none : Contains [] number). absurd (in_none number none)) (in_cases file.number number [] c)

        -- nothing is found in it
        pub goes_on : SearchesTable order env by key mid cache file.number (Ok Absent) to new → SearchedSoFar (option_or first (Some (level_file file))) first left_after to new
        goes_on search = record {
          kept = KeepsDisk-trans env so_far.kept search.reads.kept_disk;
          counted = search.reads.cause.ok ∙ so_far.counted;
          opens = opens_more search.cache;
          was_there = λ number small some. ⊎_elim
              (λ (was : IsSome (table_at cache number)). so_far.was_there number small was)
              (λ (one : Contains (file.number ∷ []) number). subst (IsOpenOrThere env from old) (only number one) (open_before fits search.there))
              (search.cache.opened number small some);
          sorted = takes.in_order;
          looked = looked_more;
          gone = takes.passed ++ so_far.gone;
          once = once_more;
          all_there = All-push (λ (f : NewFile). IsOpenOrThere env from old f.number) so_far.looked file so_far.all_there (open_before fits search.there);
          first_is = ap (λ o. option_or o (Some (level_file file))) so_far.first_is ∙ first_more so_far.looked file;
          charge_is = so_far.first_is ∙ charge_more so_far.looked file;
          turns = turns_more;
          nothing = λ matched. All-push (λ (f : NewFile). FindsInTable order env by key from old f.number Absent) so_far.looked file (so_far.nothing matched)
              (found_before order env by key from mid old cache so_far.kept so_far.opens.path matched.modelled file.number Absent (search.finds (matched_mid matched)));
        }
          where
            only : (number : ℕ) → Contains (file.number ∷ []) number → file.number ≡ number
            only number c = ⊎_elim (λ (same : file.number ≡ number). same) (λ (none : Contains [] number). absurd (in_none number none)) (in_cases file.number number [] c)

        module _ (exact : IsExactOrder by.format.order) (order_is : order.cmp (record { 0 = by.cmp }) ≡ internal_cmp by.format.order) (tagged : 8 ≤ length key) (sizes : (one : NewFile) → Contains files one → one.size < 2 ^ 64) where
          -- a value or a deletion is found in it
          pub stops_here : (found : Lookup (List ℕ)) → is_absent found ≡ false → (stats : GetStats) → stats.file ≡ first → SearchesTable order env by key mid cache file.number (Ok found) to new → LooksUpNewest order env by key from old version (Ok (found, stats)) to new
          stops_here found some stats charged search = record {
            finds = λ matched meaning agrees tables are.
                found_in_all exact meaning (store_of old) (files_at env from) tables are.each files are.files_are (sequence_part key) (user_part key) are.levels so_far.looked file
                (first_more_tried (disjoint_levels exact meaning (store_of old) (files_at env from) tables are.each files are.files_are are.levels))
                (λ one c table d same. table_finds order env by exact order_is key tagged from old agrees table (there exact meaning (store_of old) (files_at env from) tables are.each table d) (small tables are.files_are table d) Absent
                (subst (λ (f : NewFile). FindsInTable order env by key from old f.number Absent) (sym same) (All-contains (λ (f : NewFile). FindsInTable order env by key from old f.number Absent) so_far.looked one (so_far.nothing matched) c))) found some
                (λ table d same. table_finds order env by exact order_is key tagged from old agrees table (there exact meaning (store_of old) (files_at env from) tables are.each table d) (small tables are.files_are table d) found
                (subst (λ (f : NewFile). FindsInTable order env by key from old f.number found) (sym same) (here matched)));
            goes = λ levels. record {
              looked = looked_more;
              first = first_more_tried levels;
              there = All-push (λ (f : NewFile). IsOpenOrThere env from old f.number) so_far.looked file so_far.all_there (open_before fits search.there);
              finds = λ matched. last_finds env by key from old so_far.looked file found (so_far.nothing matched) (here matched);
              all = λ e. let t : is_absent found ≡ true = ap is_absent e in absurd cc;
              charged = charged ∙ so_far.first_is ∙ charge_more so_far.looked file;
            };
            reads = reads_ok env (KeepsDisk-trans env so_far.kept search.reads.kept_disk) (search.reads.cause.ok ∙ so_far.counted);
            unread = λ matched. fails_ok env (search.reads.cause.ok ∙ so_far.counted);
            stops = λ levels matched. fails_ok env (search.reads.cause.ok ∙ so_far.counted);
            lacks = λ matched meaning agrees tables are. fails_ok env (search.reads.cause.ok ∙ so_far.counted);
            cache = opens_more search.cache;
          }
            where
              here : AreOpenTablesMatched order env by key from old → FindsInTable order env by key from old file.number found
              here matched = found_before order env by key from mid old cache so_far.kept so_far.opens.path matched.modelled file.number found (search.finds (matched_mid matched))

              small : (tables : List LiveTable) → IsPermutation (map (λ table. table.file) tables) files → (table : LiveTable) → Contains tables table → table.file.size < 2 ^ 64
              small tables files_are table c = sizes table.file (Contains-permutation (map (λ table. table.file) tables) files table.file files_are (map_in (λ (one : LiveTable). one.file) tables table c))

          -- it can't be read
          pub stops_unread : (status : Status) (result : Result (Lookup (List ℕ) × GetStats) Status) → IsErrAnd result (λ other. other ≡ status) → SearchesTable order env by key mid cache file.number (Err status) to new → LooksUpNewest order env by key from old version result to new
          stops_unread status result same search = record {
            finds = λ matched meaning agrees tables are. if_refused (λ found. FindsNewest (table_entries tables) (sequence_part key) (user_part key) found.0) result same;
            goes = λ levels. if_refused (λ found. SearchesFiles order env by key from old version found.0 found.1.file) result same;
            reads = reads_refused env result same (reads_then env {Part = λ other. IsTableFault by.format other.code} (Err status) so_far.kept so_far.counted (λ other why. why) search.reads);
            unread = λ matched. fails_refused env result same (fails_after env (Err status) so_far.kept so_far.counted (λ other why. (file, file_in, before matched other why)) (search.unread (matched_mid matched)));
            stops = λ levels matched. fails_refused env result same (fails_after env (Err status) so_far.kept so_far.counted (λ other why. record {
              looked = so_far.looked;
              file = file;
              first = first_more_tried levels;
              nothing = so_far.nothing matched;
              unread = before matched other why;
            }) (search.unread (matched_mid matched)));
            lacks = λ matched meaning agrees tables are. fails_refused env result same (fails_after env (Err status) so_far.kept so_far.counted (λ other why. wants matched agrees tables are other (before matched other why)) (search.unread (matched_mid matched)));
            cache = opens_more search.cache;
          }
            where
              if_refused : (P : Lookup (List ℕ) × GetStats → Type 0) (answer : Result (Lookup (List ℕ) × GetStats) Status) → IsErrAnd answer (λ other. other ≡ status) → IfOk answer P
              if_refused P (Ok found) refused = absurd refused
              if_refused P (Err other) refused = tt

              before : AreOpenTablesMatched order env by key from old → (other : Status) → IsUnreadable order env by key mid cache file.number other → IsUnreadable order env by key from old file.number other
              before matched other why = unread_before order env by key from mid old cache so_far.kept so_far.opens.path matched.modelled file.number other why

              wants : AreOpenTablesMatched order env by key from old → {meaning : Meaning} → Agrees by.format meaning → (tables : List LiveTable) → AreVersionTables order env by key from old version meaning tables → (other : Status) → IsUnreadable order env by key from old file.number other
                  → (other.code ≡ NotSupported) × LacksCompressor by.format meaning
              wants matched {meaning} agrees tables are other why =
                  let table = table_of exact meaning (store_of old) (files_at env from) tables are.each files are.files_are file file_in in
                  let has = there exact meaning (store_of old) (files_at env from) tables are.each table.0 table.1 in
                  let small = sizes file file_in in
                  unread_wants order env by exact order_is key tagged from old agrees table.0 has (subst (λ (f : NewFile). f.size < 2 ^ 64) (sym table.2) small) other (subst (λ (f : NewFile). IsUnreadable order env by key from old f.number other) (sym table.2) why)

    -- ---- no file is left

    module _ (exact : IsExactOrder by.format.order) (order_is : order.cmp (record { 0 = by.cmp }) ≡ internal_cmp by.format.order) (tagged : 8 ≤ length key) (sizes : (one : NewFile) → Contains files one → one.size < 2 ^ 64) where
      pub ends_there : {left_after : List NewFile} → TakesNextFile cmp (user_part key) left None left_after → (stats : GetStats) → stats.file ≡ charge → LooksUpNewest order env by key from old version (Ok (Absent, stats)) mid cache
      ends_there {left_after} takes stats charged = record {
        finds = λ matched meaning agrees tables are.
            none_found exact meaning (store_of old) (files_at env from) tables are.each files are.files_are (sequence_part key) (user_part key) so_far.looked
            (all_tried (disjoint_levels exact meaning (store_of old) (files_at env from) tables are.each files are.files_are are.levels))
            (λ one c table d same. table_finds order env by exact order_is key tagged from old agrees table (there exact meaning (store_of old) (files_at env from) tables are.each table d)
            (sizes table.file (file_of exact meaning (store_of old) (files_at env from) tables are.each files are.files_are table d)) Absent
            (subst (λ (f : NewFile). FindsInTable order env by key from old f.number Absent) (sym same) (All-contains (λ (f : NewFile). FindsInTable order env by key from old f.number Absent) so_far.looked one (so_far.nothing matched) c)));
        goes = λ levels. record {
          looked = so_far.looked;
          first = record {
            rest = left ++ so_far.gone;
            once = so_far.once;
            in_range = (so_far.turns levels).in_range;
            in_order = (so_far.turns levels).in_order;
            others = λ file c has. inl (all_tried levels file c has);
          };
          there = so_far.all_there;
          finds = λ matched. none_finds env by key from old so_far.looked (so_far.nothing matched);
          all = λ e. all_tried levels;
          charged = charged ∙ so_far.charge_is;
        };
        reads = reads_ok env so_far.kept so_far.counted;
        unread = λ matched. fails_ok env so_far.counted;
        stops = λ levels matched. fails_ok env so_far.counted;
        lacks = λ matched meaning agrees tables are. fails_ok env so_far.counted;
        cache = so_far.opens;
      }
        where
          all_tried : AreDisjointLevels cmp files → AreAllTried cmp (user_part key) files so_far.looked
          all_tried levels file c has = ⊎_elim
              (λ (earlier : Contains so_far.looked file). earlier)
              (λ (later : Contains left file). absurd (⊎_elim
              (λ (same : None ≡ Some file). cc)
              (λ (after : Contains left_after file). in_none file (subst (λ fs. Contains fs file) (takes.none_left refl) after))
              (takes.others (left_levels levels) file later has)))
              ((so_far.turns levels).others file c has)

-- ---- whether something is found

module _ {E C FP F : Type 0} (order : CmpGhosts (InternalKeyCmp C)) (env : EnvGhosts E F) (by : TableOptions C FP) (key : List ℕ) (from : E) (old : TableCache E C FP F) (version : VersionValue C)
    {first charge : Option LevelFile} {left : List NewFile} {mid : E} {cache : TableCache E C FP F} (so_far : SearchedSoFar order env by key from old version first charge left mid cache)
    {file : NewFile} {left_after : List NewFile} (takes : TakesNextFile by.format.order (user_part key) left (Some file) left_after) {to : E} {new : TableCache E C FP F} (fits : file.number < 2 ^ 64) where
  pub goes_on_without : (found : Lookup (List ℕ)) → is_absent found ≡ true → (next : Option LevelFile) → next ≡ option_or first (Some (level_file file)) → SearchesTable order env by key mid cache file.number (Ok found) to new
      → SearchedSoFar order env by key from old version next first left_after to new
  goes_on_without found none next is finds =
      subst (λ o. SearchedSoFar order env by key from old version o first left_after to new) (sym is)
      (goes_on order env by key from old version so_far takes fits (subst (λ o. SearchesTable order env by key mid cache file.number (Ok o) to new) (absent_is found none) finds))

  pub stops_with : IsExactOrder by.format.order → order.cmp (record { 0 = by.cmp }) ≡ internal_cmp by.format.order → 8 ≤ length key → ((one : NewFile) → Contains (new_files_of version) one → one.size < 2 ^ 64)
      → (found : Lookup (List ℕ)) → is_absent found ≡ false → (stats : GetStats) → stats.file ≡ first → SearchesTable order env by key mid cache file.number (Ok found) to new → LooksUpNewest order env by key from old version (Ok (found, stats)) to new
  stops_with exact order_is tagged sizes found some stats charged finds =
      stops_here order env by key from old version so_far takes fits exact order_is tagged sizes found some stats charged finds
