-- The readable tables of a folder: the walks over those of the first files, and of all.
use Rattle.std.specs.Prelude.{◌≢◌, All, Any, Contains, IsErrAnd, IsTrue, string_bytes}
use Rattle.std.specs.Global.{Global}
use Rattle.std.proofs.Common.{◌≡◌, ◌∙◌, ◌⊎◌, inl, inr, ⊎_elim, ◌<◌, ◌≤◌, ◌+◌, ℕ, false, List, [], ◌∷◌, ◌++◌, Option, None, Some, Ok, Err, Result, Vec, ap, arith, get_or, length, refl, subst, sym, take}
use Rattle.std.proofs.lemmas.List.{take_all, take_more}
use Rattle.std.proofs.lemmas.List.Elements.{All-cons, All-contains, All-nil, All-push, Contains-append_left, Contains-push, Contains-push_cases}
use Rattle.std.specs.Str.{bytes_eq}
use Rattle.std.specs.declared.cmp.Ordering.{Ordering}
use Rattle.leveldb_base.proofs.EntriesLemmas.{in_map}
use Rattle.leveldb_base.proofs.HistoryLemmas.{in_cases, in_none}
use Rattle.leveldb_base.proofs.NamesLemmas.{made_name, one_reading}
use Rattle.leveldb_base.specs.Entries.{entries_of_pairs}
use Rattle.leveldb_base.specs.Error.{IsOutOfMemory}
use Rattle.leveldb_base.specs.History.{AreRising, Entry}
use Rattle.leveldb_base.specs.KeyTypes.{internal_cmp}
use Rattle.leveldb_base.specs.Names.{IsFileName, file_name}
use Rattle.leveldb_base.specs.Types.{Pair}
use Rattle.leveldb_base.specs.declared.cmp.Cmp.{Ghosts as CmpGhosts}
use Rattle.leveldb_base.specs.declared.cmp.internal.InternalKeyCmp.{InternalKeyCmp}
use Rattle.leveldb_base.specs.declared.error.Status.{Status}
use Rattle.leveldb_base.specs.declared.types.FileType.TheVariants.{Table}
use Rattle.leveldb_env.proofs.EnvLemmas.{bytes_eq-apart}
use Rattle.leveldb_env.specs.Compressor.{Codings, Decodes}
use Rattle.leveldb_env.specs.Env.{File, Files, bytes_of, in_folder}
use Rattle.leveldb_env.specs.declared.env.Env.{Ghosts as EnvGhosts}
use Rattle.leveldb_iter.specs.Merge.{IsPairOf}
use Rattle.leveldb_table.proofs.TableBlockLemmas.{KeepsDisk-refl, KeepsDisk-trans, reads_own, reads_refused, reads_then, same_files}
use Rattle.leveldb_table.specs.OpenTable.{file_of}
use Rattle.leveldb_table.specs.ReadableTable.{IsReadableTable}
use Rattle.leveldb_table.specs.TableBlock.{FailsFor, KeepsDisk, ReadsFile}
use Rattle.leveldb_table.specs.TableLaws.{DecodesMore}
use Rattle.leveldb_files.proofs.Stores.BatchesLemmas.{each_more}
use Rattle.leveldb_files.proofs.Stores.ManagedLemmas.{same_name}
use Rattle.leveldb_files.proofs.Stores.OneStoreLemmas.{flat_in, in_flat}
use Rattle.leveldb_version_set.proofs.Sets.RecoverLemmas.{cause_of_error}
use Rattle.leveldb_files.specs.Stores.Batches.{Each}
use Rattle.leveldb_files.specs.Stores.Format.{Meaning}
use Rattle.leveldb_version_set.specs.Repairs.Found.{IsAnyTable}
use Rattle.leveldb_files.specs.Stores.Paths.{table_path}
use Rattle.leveldb_files.specs.Stores.Store.{IsStoreTable}
use Rattle.leveldb_store.proofs.Openings.OpeningFindLemmas.{listed, no_slash_in_name}
use Rattle.leveldb_store.specs.Openings.Listing.{AreFilesIn, MatchesName}
use Rattle.leveldb_store.specs.Logs.ReplayLog.{HasCauseOr}
use Rattle.leveldb_store.specs.declared.opening.listing.ListedFile.{ListedFile}
use Rattle.leveldb_repair.proofs.FindTableLemmas.{new_after}
use Rattle.leveldb_repair.proofs.FoundLogsLemmas.{each_right}
use Rattle.leveldb_repair.proofs.FoundWalkTableLemmas.{new_found_at}
use Rattle.leveldb_repair.proofs.ReadableLemmas.{entries_readable, numbered_pairs, one_readable_list, pairs_readable, readable_by_more}
use Rattle.leveldb_repair.specs.FoundTables.{AreFoundTables, AreNumberedPairs, FindsTable, FindsTables, IsFoundTable, IsInTable, IsLeftOut, IsListedFile, IsMissingTable, IsNewWalkOver, IsTablePair, IsThereIfTable, IsUndecodedTable, WhyNoTables, entries_of_lists}
use Rattle.leveldb_repair.specs.FoundWalkTable.{IsNewFound, IsNoNewTable}
use Rattle.leveldb_repair.specs.declared.found_walk.files.ReadFiles.{ReadFiles}
use Rattle.leveldb_repair.specs.declared.found_walk.table.FoundTable.{FoundTable}

-- ---- lists of which the elements are related

each_with : {A B : Type 0} (R S : A → B → Type 0) → ((a : A) (b : B) → R a b → S a b)
    → (xs : List A) (ys : List B) → Each R xs ys → Each S xs ys
each_with R S along [] [] each = tt
each_with R S along [] (b ∷ ys) each = absurd each
each_with R S along (a ∷ xs) [] each = absurd each
each_with R S along (a ∷ xs) (b ∷ ys) each =
    (along a b each.0, each_with R S along xs ys each.1)

each_all : {A B : Type 0} (R : A → B → Type 0) (P : B → Type 0)
    → ((a : A) (b : B) → R a b → P b) → (xs : List A) (ys : List B) → Each R xs ys → All P ys
each_all R P along [] [] each = All-nil P
each_all R P along [] (b ∷ ys) each = absurd each
each_all R P along (a ∷ xs) [] each = absurd each
each_all R P along (a ∷ xs) (b ∷ ys) each =
    All-cons P b ys (along a b each.0) (each_all R P along xs ys each.1)

-- ---- the walks over the tables of some files

module _ {E C F K : Type 0} (order : CmpGhosts (InternalKeyCmp C)) (env : EnvGhosts E F)
    (cmp : CmpGhosts C) (by_id : K → Codings) (compressors : K) (compares : C) (store : List ℕ)
    (listing : List ListedFile) (from : E) where
  abbrev files : Files
  files = (env.observed from).disk.files

  abbrev user_order : List ℕ → List ℕ → Ordering
  user_order = cmp.cmp compares

  abbrev codings : Codings
  codings = by_id compressors

  abbrev Why : Status → Type 0
  Why = WhyNoTables env codings user_order store files listing

  -- what is said of one file
  abbrev FindsOne : ListedFile → E → Result (Option (FoundTable E C F)) Status → E → Type 0
  FindsOne file at result to = FindsTable order env cmp codings compares store file at result to

  -- the walk is over these pairs of one of the files, which is a readable table
  abbrev IsWalkOf : E → FoundTable E C F → List Pair → Type 0
  IsWalkOf at it pairs = (file : ListedFile) × Contains listing file
      × IsFoundTable order env cmp codings compares store files at file it pairs

  -- the file is left out, or it has bytes that are a readable table of one of the lists
  abbrev IsSettled : List (List Pair) → ListedFile → Type 0
  IsSettled lists file = IsLeftOut store files codings user_order file
      ⊎ ((found : File) × IsListedFile store files file found × (pairs : List Pair)
      × Contains lists pairs
      × IsReadableTable (Decodes codings) user_order (bytes_of found) pairs)

  -- the walks are over the readable tables among the first files
  pub record HaveWalks (count : ℕ) (walks : List (FoundTable E C F)) (at : E) : Type 0 where
    pub lists : List (List Pair)
    pub each : Each (IsWalkOf at) walks lists
    pub all : (file : ListedFile) → Contains (take count listing) file → IsSettled lists file
    pub there : All (IsThereIfTable store files) (take count listing)

  -- so it is, and no file or lock has changed since
  pub record FindingTables (count : ℕ) (walks : List (FoundTable E C F)) (at : E) : Type 0 where
    pub kept : KeepsDisk env from at
    pub counted : env.failures at ≡ env.failures from
    pub have : IsTrue env.models_disk → HaveWalks count walks at

  pub FindingTables-none : (walks : List (FoundTable E C F)) → walks ≡ []
      → FindingTables 0 walks from
  FindingTables-none walks none = record {
    kept = KeepsDisk-refl env from;
    counted = refl;
    have = λ modelled. subst (λ ws. HaveWalks 0 ws from) (sym none) (record {
      lists = [];
      each = tt;
      all = λ file c. absurd (in_none file c);
      there = All-nil (IsThereIfTable store files);
    });
  }

  -- ---- the end of a call

  cause_or : {T : Type 0} (result : Result T Status) (to : E) → FailsFor env Why from to result
      → HasCauseOr Why (env.failures from) (env.failures to) result
  cause_or (Ok answer) to cause =
      record { later = cause.later; ok = cause.ok; uncounted = tt; cause = tt }
  cause_or {T} (Err status) to cause = cause_of_error {T = T} status
      (λ why. ⊎_elim (λ memory. inl memory) (λ own. inr (own.1, own.0)) why)
      (λ why. ⊎_elim (λ memory. inl (inl memory)) (λ own. inr own.1) why) cause

  abbrev FindsAll : Result (Vec (FoundTable E C F) Global) Status → E → Type 0
  FindsAll result to =
      FindsTables order env cmp by_id compressors compares store listing from result to

  -- it fails
  failed_all : {T : Type 0} {status : Status}
      (result : Result (Vec (FoundTable E C F) Global) Status) (to : E)
      → IsErrAnd result (λ other. other ≡ status) → ReadsFile env {T = T} Why from to (Err status)
      → FindsAll result to
  failed_all (Ok walks) to same reads = absurd same
  failed_all {T} (Err other) to same reads =
      let own = reads_refused env {T = T} (Err other) same reads in
      let kept = own.kept_disk in
      record {
        still = kept.disk;
        locks = kept.locks;
        finds = tt;
        there = tt;
        cause = cause_or (Err other) to own.cause;
      }

  -- ---- one more file

  -- walks are over their tables while no file changes
  walk_after : {at to : E} → KeepsDisk env at to → (it : FoundTable E C F) (pairs : List Pair)
      → IsWalkOf at it pairs → IsWalkOf to it pairs
  walk_after kept it pairs (file, c, is) = (
    file,
    c,
    record {
      kind = is.kind;
      found = is.found;
      is_there = is.is_there;
      readable = is.readable;
      path_is = is.path_is;
      opened = new_after order env cmp codings kept it is.opened;
    },
  )

  settled_more : (lists : List (List Pair)) (pairs : List Pair) (file : ListedFile)
      → IsSettled lists file → IsSettled (lists ++ pairs ∷ []) file
  settled_more lists pairs file (inl out) = inl out
  settled_more lists pairs file (inr (found, is, own, c, readable)) =
      inr (found, is, own, Contains-append_left lists (pairs ∷ []) own c, readable)

  module _ (i : ℕ) {walks : List (FoundTable E C F)} {at : E}
      (so_far : FindingTables i walks at) (file : ListedFile) (inside : i < length listing)
      (is : file ≡ get_or listing i file) where
    same_disk : IsTrue env.models_disk → (env.observed at).disk.files ≡ files
    same_disk modelled = same_files env so_far.kept modelled

    -- each of the first files and of one more is settled
    settled_all : (lists : List (List Pair))
        → ((other : ListedFile) → Contains (take i listing) other → IsSettled lists other)
        → IsSettled lists file
        → (other : ListedFile) → Contains (take (i + 1) listing) other → IsSettled lists other
    settled_all lists all last other c = ⊎_elim
        (λ (before : Contains (take i listing) other). all other before)
        (λ (same : file ≡ other). subst (IsSettled lists) same last)
        (Contains-push_cases (take i listing) file other
        (subst (λ fs. Contains fs other)
        (take_more listing i file inside ∙ ap (λ f. take i listing ++ f ∷ []) (sym is)) c))

    there_more : HaveWalks i walks at → IsThereIfTable store files file
        → All (IsThereIfTable store files) (take (i + 1) listing)
    there_more have one = subst (All (IsThereIfTable store files))
        (sym (take_more listing i file inside ∙ ap (λ f. take i listing ++ f ∷ []) (sym is)))
        (All-push (IsThereIfTable store files) (take i listing) file have.there one)

    -- which is left out
    pub FindingTables-left_out : {to : E} → FindsOne file at (Ok None) to
        → FindingTables (i + 1) walks to
    FindingTables-left_out {to} finds =
        let reads = finds.reads in let cause = reads.cause in
        record {
          kept = KeepsDisk-trans env so_far.kept reads.kept_disk;
          counted = cause.ok ∙ so_far.counted;
          have = λ modelled. (let have = so_far.have modelled in record {
            lists = have.lists;
            each = each_with (IsWalkOf at) (IsWalkOf to) (walk_after reads.kept_disk) walks
                have.lists have.each;
            all = settled_all have.lists have.all (inl
                (subst (λ fs. IsLeftOut store fs codings user_order file) (same_disk modelled)
                (finds.finds modelled)));
            there = there_more have (subst (λ fs. IsThereIfTable store fs file)
                (same_disk modelled) (finds.there modelled));
          });
        }

    -- or a readable table
    module _ {it : FoundTable E C F} {to : E} (finds : FindsOne file at (Ok (Some it)) to) where
      walks_more : IsTrue env.models_disk → HaveWalks (i + 1) (walks ++ it ∷ []) to
      walks_more modelled =
          let reads = finds.reads in
          let have = so_far.have modelled in
          let found = finds.finds modelled in
          let own = subst
          (λ fs. IsFoundTable order env cmp codings compares store fs to file it found.0)
          (same_disk modelled) found.1 in
          record {
            lists = have.lists ++ found.0 ∷ [];
            each = each_more (IsWalkOf to) walks have.lists it found.0
                (each_with (IsWalkOf at) (IsWalkOf to) (walk_after reads.kept_disk) walks
                have.lists have.each) (file, (i, inside, sym is), own);
            all = settled_all (have.lists ++ found.0 ∷ [])
                (λ other c. settled_more have.lists found.0 other (have.all other c))
                (inr (
                  own.found,
                  own.is_there,
                  found.0,
                  Contains-push have.lists found.0,
                  own.readable,
                ));
            there = there_more have (subst (λ fs. IsThereIfTable store fs file)
                (same_disk modelled) (finds.there modelled));
          }

      kept_more : KeepsDisk env from to
      kept_more = let reads = finds.reads in KeepsDisk-trans env so_far.kept reads.kept_disk

      counted_more : env.failures to ≡ env.failures from
      counted_more = let reads = finds.reads in let cause = reads.cause in
          cause.ok ∙ so_far.counted

      pub FindingTables-found : (next : List (FoundTable E C F)) → next ≡ walks ++ it ∷ []
          → FindingTables (i + 1) next to
      FindingTables-found next next_is = record {
        kept = kept_more;
        counted = counted_more;
        have = λ modelled. subst (λ ws. HaveWalks (i + 1) ws to) (sym next_is)
            (walks_more modelled);
      }

      -- for which there is no room
      pub FindsTables-out_of_memory : (result : Result (Vec (FoundTable E C F) Global) Status)
          → IsErrAnd result IsOutOfMemory → FindsAll result to
      FindsTables-out_of_memory (Ok found_walks) out = absurd out
      FindsTables-out_of_memory (Err status) out = failed_all {T = Unit {0}} (Err status) to refl
          (reads_own env {P = IsOutOfMemory} (Err status) kept_more counted_more out
          (λ other memory. inl memory))

    -- ---- it fails

    one_of : (P : Files → ListedFile → Type 0) → IsTrue env.models_disk
        → Any (P (env.observed at).disk.files) (file ∷ []) → Any (P files) listing
    one_of P modelled (k, other, within, same, has) = ⊎_elim
        (λ (own : file ≡ other). (
          i,
          file,
          inside,
          sym is,
          subst (λ fs. P fs file) (same_disk modelled)
              (subst (P (env.observed at).disk.files) (sym own) has),
        ))
        (λ (none : Contains [] other). absurd (in_none other none))
        (in_cases file other [] (k, within, same))

    why_one : (status : Status)
        → WhyNoTables env codings user_order store (env.observed at).disk.files (file ∷ []) status
        → Why status
    why_one status (inl missing) = inl (
      missing.0,
      λ modelled. one_of (λ fs. IsMissingTable store fs) modelled (missing.1 modelled),
    )
    why_one status (inr undecoded) = inr (
      undecoded.0,
      λ modelled. one_of (λ fs. IsUndecodedTable store fs codings user_order status) modelled
          (undecoded.1 modelled),
    )

    pub FindsTables-stopped : {status : Status}
        (result : Result (Vec (FoundTable E C F) Global) Status) {to : E}
        → IsErrAnd result (λ other. other ≡ status) → FindsOne file at (Err status) to
        → FindsAll result to
    FindsTables-stopped {status} result {to} same finds =
        failed_all {T = Option (FoundTable E C F)} result to same
        (reads_then env (Err status) so_far.kept so_far.counted why_one finds.reads)

  -- ---- walks over the lists

  module _ {at : E} (it : FoundTable E C F) (pairs : List Pair) (walk : IsWalkOf at it pairs) where
    abbrev own : IsFoundTable order env cmp codings compares store files at walk.0 it pairs
    own = walk.2

    -- its file isn't one of those tables that are made
    no_new_table : All MatchesName listing → (read : ReadFiles K) → read.store.now ≡ store
        → All (λ (file : ListedFile). file.number < read.below) listing
        → IsNoNewTable env read (file_of it.table)
    no_new_table named read same least n above fits =
        subst (λ s. bytes_eq (table_path s n) (env.name_of (file_of it.table)) ≡ false) (sym same)
        (subst (λ p. bytes_eq (table_path store n) p ≡ false) (sym own.path_is)
        (bytes_eq-apart (table_path store n) (in_folder store (string_bytes walk.0.name)) other))
      where
        other : table_path store n ≢ in_folder store (string_bytes walk.0.name)
        other e =
            let name = string_bytes walk.0.name in
            let less = All-contains (λ (file : ListedFile). file.number < read.below) listing
            walk.0 least walk.1 in
            let one = one_reading name n walk.0.number Table walk.0.kind
            (subst (λ z. IsFileName z n Table) (same_name store (file_name Table n) name e)
            (made_name Table n fits))
            (All-contains MatchesName listing walk.0 named walk.1) in
            omega (arith, one.0, less, above)

    new_over : All MatchesName listing
        → IsNewWalkOver order env cmp by_id compressors compares store listing at it pairs
    new_over named read same_compressors same_store least =
        new_found_at {codings = by_id} {cmp = cmp} {compares = compares}
        {Has = λ bytes. bytes ≡ bytes_of own.found} (at, read) it
        (subst (λ k. IsNewFound order env cmp (by_id k) compares
        (λ bytes. bytes ≡ bytes_of own.found) at it) (sym same_compressors) own.opened)
        (no_new_table named read same_store least) (bytes_of own.found) pairs refl
        (subst (λ k. IsStoreTable (Decodes (by_id k)) user_order (λ name. None)
        (bytes_of own.found) pairs) (sym same_compressors) own.readable.table)

    rising_list : order.cmp (record { 0 = compares }) ≡ internal_cmp user_order
        → AreRising (internal_cmp user_order) pairs
    rising_list order_is =
        let new = own.opened in
        let there = new.there (bytes_of own.found) pairs refl own.readable.table in
        let sorted = there.2.sorted in
        subst (λ (o : List ℕ → List ℕ → Ordering). AreRising o pairs)
        (ap order.cmp new.ordered ∙ order_is)
        (subst (AreRising (order.cmp it.table.cmp)) (sym there.1) sorted.rising)

    numbered_list : AreNumberedPairs pairs
    numbered_list = numbered_pairs pairs own.readable.numbered

  -- ---- exactly the entries of a folder's tables

  module _ (modelled : IsTrue env.models_disk) {walks : List (FoundTable E C F)} {at : E}
      (have : HaveWalks (length listing) walks at) (are : AreFilesIn env store from listing)
      (meaning : Meaning) (more : DecodesMore (Decodes codings) (Decodes meaning.codings)) where
    abbrev IsTableOf : List ℕ → List Pair → Type 0
    IsTableOf = IsAnyTable user_order meaning

    -- an entry of the lists is in a table
    is_in_table : (entry : Entry) → Contains (entries_of_lists have.lists) entry
        → IsInTable store files IsTableOf entry
    is_in_table entry c =
        let pairs = in_flat entries_of_pairs have.lists entry c in
        let walk = each_right (IsWalkOf at) walks have.lists have.each pairs.0 pairs.1 in
        let file = walk.2.0 in
        let is : IsFoundTable order env cmp codings compares store files at file walk.0 pairs.0
        = walk.2.2 in (
          string_bytes file.name,
          is.found,
          is.is_there,
          (
            file.number,
            subst (λ kind. IsFileName (string_bytes file.name) file.number kind) is.kind
                (All-contains MatchesName listing file are.2.named walk.2.1),
            entries_of_pairs pairs.0,
            entries_readable user_order meaning (bytes_of is.found) pairs.0
                (readable_by_more user_order codings meaning.codings more (bytes_of is.found)
                pairs.0 is.readable),
            pairs.2,
          ),
        )

    -- a pair of the lists is in a table
    pair_in_table : (pair : Pair) → IsPairOf have.lists pair
        → IsTablePair store files IsTableOf pair
    pair_in_table pair (k, pairs, within, same, there) =
        let walk = each_right (IsWalkOf at) walks have.lists have.each pairs (k, within, same) in
        let file = walk.2.0 in
        let is : IsFoundTable order env cmp codings compares store files at file walk.0 pairs
        = walk.2.2 in
        let more_readable = readable_by_more user_order codings meaning.codings more
        (bytes_of is.found) pairs is.readable in
        let are_numbered = numbered_pairs pairs is.readable.numbered in (
          string_bytes file.name,
          file.number,
          subst (λ kind. IsFileName (string_bytes file.name) file.number kind) is.kind
              (All-contains MatchesName listing file are.2.named walk.2.1),
          is.found,
          is.is_there,
          (
            entries_of_pairs pairs,
            record {
              pairs = pairs;
              read = more_readable.table;
              each = are_numbered.each;
              numbered = are_numbered.numbered;
            },
          ),
          there,
        )

    -- a table of the folder is among the files
    table_listed : (name : List ℕ) (n : ℕ) → IsFileName name n Table
        → files (in_folder store name) ≢ None
        → (file : ListedFile) × Contains listing file × (file.kind ≡ Table)
        × (string_bytes file.name ≡ name)
    table_listed name n is there =
        let c = listed store files are.0 (are.1 modelled) name (no_slash_in_name name n Table is)
        there in
        let at = in_map (λ (file : ListedFile). string_bytes file.name) listing name
        (are.2.all name n Table c is) in
        let reads : IsFileName name at.0.number at.0.kind =
        subst (λ t. IsFileName t at.0.number at.0.kind) at.2
        (All-contains MatchesName listing at.0 are.2.named at.1) in
        (at.0, at.1, (one_reading name at.0.number n at.0.kind Table reads is).1, at.2)

    -- and so each of its entries is in the lists
    is_found : (entry : Entry) → IsInTable store files IsTableOf entry
        → Contains (entries_of_lists have.lists) entry
    is_found entry (name, file, there, (n, is, entries, readable, c)) =
        let at = table_listed name n is
        (λ none. let never : Some file ≡ None = sym there ∙ none in cc) in
        let same : IsListedFile store files at.0 file
        = ap (λ t. files (in_folder store t)) at.3 ∙ there in
        let read = pairs_readable user_order meaning (bytes_of file) entries readable in
        ⊎_elim
        (λ (out : IsLeftOut store files codings user_order at.0).
        absurd (out at.2 file same meaning.codings more read.0 read.1))
        (λ (in_list : (found : File) × IsListedFile store files at.0 found × (pairs : List Pair)
        × Contains have.lists pairs
        × IsReadableTable (Decodes codings) user_order (bytes_of found) pairs).
        let one : Some in_list.0 ≡ Some file = sym in_list.1 ∙ same in
        let same_file : in_list.0 ≡ file = cc in
        let own = subst
        (λ f. IsReadableTable (Decodes codings) user_order (bytes_of f) in_list.2) same_file
        in_list.4 in
        let list = one_readable_list user_order meaning.codings (bytes_of file) in_list.2 read.0
        (readable_by_more user_order codings meaning.codings more (bytes_of file) in_list.2 own)
        read.1 in
        flat_in entries_of_pairs have.lists in_list.2 entry in_list.3
        (subst (λ es. Contains es entry) (sym (ap entries_of_pairs list ∙ read.2)) c))
        (have.all at.0 (subst (λ fs. Contains fs at.0)
        (sym (take_all (length listing) listing (omega arith))) at.1))

  -- ---- all

  pub FindsTables-done : order.cmp (record { 0 = compares }) ≡ internal_cmp user_order → (i : ℕ)
      {tables : Vec (FoundTable E C F) Global} {at : E} → FindingTables i tables.items at
      → length listing ≤ i → FindsAll (Ok tables) at
  FindsTables-done order_is i {tables} {at} so_far past =
      let kept = so_far.kept in
      let same = so_far.counted in
      record {
        still = kept.disk;
        locks = kept.locks;
        finds = found;
        there = λ modelled. subst (All (IsThereIfTable store files)) (take_all i listing past)
            (let have = so_far.have modelled in have.there);
        cause = record { later = omega (arith, same); ok = same; uncounted = tt; cause = tt };
      }
    where
      found : IsTrue env.models_disk → All MatchesName listing
          → AreFoundTables order env cmp by_id compressors compares store listing from at
          tables.items
      found modelled named =
          let have = so_far.have modelled in
          let whole : HaveWalks (length listing) tables.items at = record {
            lists = have.lists;
            each = have.each;
            all = λ file c. have.all file (subst (λ fs. Contains fs file)
                (take_all (length listing) listing (omega arith)
                ∙ sym (take_all i listing past)) c);
            there = subst (All (IsThereIfTable store files)) (take_all i listing past
                ∙ sym (take_all (length listing) listing (omega arith))) have.there;
          } in
          record {
            lists = have.lists;
            over = each_with (IsWalkOf at)
                (IsNewWalkOver order env cmp by_id compressors compares store listing at)
                (λ it pairs walk. new_over it pairs walk named) tables.items have.lists have.each;
            rising = each_all (IsWalkOf at) (AreRising (internal_cmp user_order))
                (λ it pairs walk. rising_list it pairs walk order_is) tables.items have.lists
                have.each;
            numbered = each_all (IsWalkOf at) AreNumberedPairs
                (λ it pairs walk. numbered_list it pairs walk) tables.items have.lists have.each;
            pairs = λ are meaning more pair is.
                pair_in_table modelled whole are meaning more pair is;
            exactly = λ are meaning more entry. (
              is_in_table modelled whole are meaning more entry,
              is_found modelled whole are meaning more entry,
            );
          }
