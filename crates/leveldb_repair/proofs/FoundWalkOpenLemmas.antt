-- What opening a table that is found gives: a walk over its pairs.
use Rattle.std.specs.Prelude.{IfOk, IsErrAnd, IsSomeAnd, IsTrue}
use Rattle.std.proofs.Common.{◌≡◌, ◌⊎◌, inl, inr, ℕ, ◌+◌, ◌^◌, true, List, [], ◌∷◌, length, map, Option, None, Some, Result, Ok, Err, sym, ◌∙◌, ap, subst, arith}
use Rattle.std.specs.Cmp.{IsTotalOrder}
use Rattle.std.specs.declared.cmp.Ordering.{Ordering}
use Rattle.std.specs.declared.cmp.Ordering.TheVariants.{Less}
use Rattle.leveldb_base.specs.Cmp.{internal_accepts}
use Rattle.leveldb_base.specs.Error.{IsOutOfMemory}
use Rattle.leveldb_base.specs.History.{AreRising, IsBeforeAll}
use Rattle.leveldb_base.specs.KeyTypes.{internal_cmp}
use Rattle.leveldb_base.specs.Types.{Pair}
use Rattle.leveldb_base.specs.declared.cmp.Cmp.{Ghosts as CmpGhosts}
use Rattle.leveldb_base.specs.declared.cmp.internal.InternalKeyCmp.{InternalKeyCmp}
use Rattle.leveldb_base.specs.declared.error.Status.{Status}
use Rattle.leveldb_base.specs.declared.error.StatusCode.TheVariants.{NotSupported}
use Rattle.leveldb_env.specs.Compressor.{Codings, Decodes}
use Rattle.leveldb_env.specs.Env.{File, bytes_of}
use Rattle.leveldb_env.specs.declared.env.Env.{Ghosts as EnvGhosts}
use Rattle.leveldb_env.specs.declared.filter.NoFilterPolicy.{NoFilterPolicy}
use Rattle.leveldb_iter.specs.Walk.{IsSortedIn, key_order}
use Rattle.leveldb_table.proofs.TableBlockLemmas.{FileHas-after, reads_own, reads_refused, reads_then, reads_weaker}
use Rattle.leveldb_table.proofs.TableLemmas.{all_with}
use Rattle.leveldb_table.proofs.TableReaderLemmas.{index_read, parts_there}
use Rattle.leveldb_table.specs.Block.{KeysRise, RiseAfter}
use Rattle.leveldb_table.specs.BlockCache.{HoldsOnlyOf, cache_key}
use Rattle.leveldb_table.specs.Cache.{Cached, value_of}
use Rattle.leveldb_table.specs.OpenTable.{file_of}
use Rattle.leveldb_table.specs.Table.{Part, index_pair}
use Rattle.leveldb_table.specs.TableBlock.{FileHas, IsLackError, ReadsFile}
use Rattle.leveldb_table.specs.TableReader.{HasIndex, HasParts, IsIndexedAs, IsNoIndex, OpenTable, OpensTable, lines_of, pairs_in}
use Rattle.leveldb_table.specs.TableReaderBlocks.{StartsOver}
use Rattle.leveldb_table.specs.TableReaderWalk.{TablePlace}
use Rattle.leveldb_table.specs.declared.block_cache.CachedBlock.{CachedBlock}
use Rattle.leveldb_version.proofs.Versions.SearchLemmas.{all_from_contains}
use Rattle.leveldb_version.proofs.Tables.TableCacheLemmas.{FileHas-at}
use Rattle.leveldb_version.proofs.Tables.TablesInTurnLemmas.{of_all}
use Rattle.leveldb_version.proofs.Versions.VersionLemmas.{internal_total}
use Rattle.leveldb_files.specs.Stores.Store.{IsStoreTable, any_user_key}
use Rattle.leveldb_version.specs.Tables.TableCache.{HasBytesAt, files_at}
use Rattle.leveldb_repair.proofs.FoundWalkTableLemmas.{IsInternalOrder}
use Rattle.leveldb_repair.specs.FoundWalkTable.{IsFoundThere, IsNewFound, OpensFile, OpensFound, OpensFoundAt}
use Rattle.leveldb_repair.specs.declared.found_walk.table.FoundTable.{FoundTable}

-- ---- keys that rise

module _ {cmp : List ℕ → List ℕ → Ordering} (total : IsTotalOrder cmp) where
  before_after : (key last : List ℕ) (pairs : List Pair) → cmp key last ≡ Less
      → RiseAfter cmp (Some last) pairs → IsBeforeAll cmp key pairs
  before_after key last [] less rise = tt
  before_after key last (pair ∷ pairs) less rise =
      let next = total.trans key last pair.0 less rise.0 in
      (next, before_after key pair.0 pairs next rise.1)

  rising_after : (last : List ℕ) (pairs : List Pair) → RiseAfter cmp (Some last) pairs
      → IsBeforeAll cmp last pairs × AreRising cmp pairs
  rising_after last [] rise = (tt, tt)
  rising_after last (pair ∷ pairs) rise =
      ((rise.0, before_after last pair.0 pairs rise.0 rise.1), rising_after pair.0 pairs rise.1)

  -- keys of which each is after the one before it are after all before
  rising_all : (pairs : List Pair) → KeysRise cmp pairs → AreRising cmp pairs
  rising_all [] rise = tt
  rising_all (pair ∷ pairs) rise = rising_after pair.0 pairs rise

none_held : {T : Type 0} (key : List ℕ) (held : T) (pairs : List (List ℕ × T)) → pairs ≡ []
    → value_of key pairs ≡ Some held → ⊥
none_held key held [] none found = cc
none_held key held (pair ∷ pairs) none found = cc

-- the number of bytes that a file has
size_there : (found : Option File) (size : ℕ) (bytes : List ℕ)
    → IsSomeAnd found (λ file. size ≡ length (bytes_of file))
    → IsSomeAnd found (λ file. bytes_of file ≡ bytes) → size ≡ length bytes
size_there None size bytes sized there = absurd sized
size_there (Some file) size bytes sized there = sized ∙ ap length there

none_there : (found : Option File) (bytes : List ℕ) → found ≡ None
    → IsSomeAnd found (λ file. bytes_of file ≡ bytes) → ⊥
none_there None bytes none there = there
none_there (Some file) bytes none there = cc

zero_most : (n : ℕ) → n ≡ 0 → n + 1 ≡ 2 ^ 64 → ⊥
zero_most n zero most = omega (arith, zero, most)

module _ {E C F : Type 0} (order : CmpGhosts (InternalKeyCmp C)) (env : EnvGhosts E F)
    (cmp : CmpGhosts C) (codings : Codings) where
  -- a call that opens none
  pub found_refused : {T : Type 0} (compares : C) (file : F) (size : ℕ) (state later : E)
      {status : Status} (result : Result (FoundTable E C F) Status)
      → IsErrAnd result (λ other. other ≡ status)
      → ReadsFile env {T = T} (IsLackError env codings
      (IsNoIndex codings (order.cmp (record { 0 = compares })) size) state file) state later
      (Err status)
      → OpensFound order env cmp codings compares file size state result later
  found_refused compares file size state later (Ok it) refused reads = absurd refused
  found_refused {T} compares file size state later (Err other) refused reads = record {
    reads = reads_refused env {T = T} (Err other) refused reads;
    file_is = tt;
    ok = tt;
  }

  module _ (laws : IsInternalOrder order)
      (order_is : (c : C) → order.cmp (record { 0 = c }) ≡ internal_cmp (cmp.cmp c))
      (total : (c : C) → IsTotalOrder (cmp.cmp c)) (compares : C) (file : F) (size : ℕ)
      (state : E) (cache : Cached (CachedBlock (InternalKeyCmp C)))
      (empty : cache ≡ record { pairs = []; capacity = 0; given = 0 }) (later : E)
      (gained : Cached (CachedBlock (InternalKeyCmp C))) where
    abbrev Opens : Result (OpenTable (InternalKeyCmp C) NoFilterPolicy F) Status → Type 0
    Opens result = OpensTable env codings
        (IsIndexedAs codings (order.cmp (record { 0 = compares })) size) (λ filters. filters ≡ None)
        (IsNoIndex codings (order.cmp (record { 0 = compares })) size) (record { 0 = compares })
        file state cache result later gained

    -- the table isn't opened
    pub table_refused : {status : Status} (result : Result (FoundTable E C F) Status)
        → IsErrAnd result (λ other. other ≡ status) → Opens (Err status)
        → OpensFound order env cmp codings compares file size state result later
    table_refused {status} result refused opens =
        found_refused {T = OpenTable (InternalKeyCmp C) NoFilterPolicy F} compares file size state
        later result refused (reads_weaker env (Err status) why opens.reads)
      where
        why : (other : Status)
            → ((other.code ≡ NotSupported) × (cache.given + 1 ≡ 2 ^ 64))
            ⊎ IsLackError env codings
            (IsNoIndex codings (order.cmp (record { 0 = compares })) size) state file other
            → IsLackError env codings
            (IsNoIndex codings (order.cmp (record { 0 = compares })) size) state file other
        why other (inl full) = absurd (zero_most cache.given
            (ap (λ (c : Cached (CachedBlock (InternalKeyCmp C))). c.given) empty) full.1)
        why other (inr lacks) = lacks

    module _ (table : OpenTable (InternalKeyCmp C) NoFilterPolicy F) (opens : Opens (Ok table))
      where
        -- there is no memory for the walk
        pub walk_out : {status : Status} (result : Result (FoundTable E C F) Status)
            → IsErrAnd result (λ other. other ≡ status) → IsOutOfMemory status
            → OpensFound order env cmp codings compares file size state result later
        walk_out {status} result refused out =
            found_refused {T = Unit {0}} compares file size state later result refused
            (let reads = opens.reads in let cause = reads.cause in
            reads_own env {P = IsOutOfMemory} (Err status) reads.kept_disk cause.ok out
            (λ other memory. inl memory))

        module _ (core : TablePlace (InternalKeyCmp C)) (starts : StartsOver table core) where
          abbrev It : FoundTable E C F
          It = record { table = table; core = core; blocks = gained }

          module _ (bytes : List ℕ) (pairs : List Pair) (has : FileHas env state file bytes)
              (sized : size ≡ length bytes)
              (is : IsStoreTable (Decodes codings) (cmp.cmp compares) (λ name. None) bytes pairs)
            where
              lines_are : lines_of table ≡ map index_pair is.parts
              lines_are = (index_read is.tabled (subst (λ (o : List ℕ → List ℕ → Ordering).
                  HasIndex codings o bytes (length bytes) (lines_of table) table.footer.meta_index
                  table.footer.index) (order_is compares) (subst (λ n. HasIndex codings
                  (order.cmp (record { 0 = compares })) bytes n (lines_of table)
                  table.footer.meta_index table.footer.index) sized (opens.ok bytes has)))).0

              accepted : (key : List ℕ) → internal_accepts any_user_key key ≡ true
                  → order.accepts (record { 0 = compares }) key ≡ true
              accepted key fit = laws.accepts_is (record { 0 = compares }) key ∙ fit

              parts_are : HasParts codings (order.accepts (record { 0 = compares }))
                  (order.cmp (record { 0 = compares })) bytes is.parts
              parts_are =
                  let there = subst (λ (o : List ℕ → List ℕ → Ordering).
                  HasParts codings (internal_accepts any_user_key) o bytes is.parts)
                  (sym (order_is compares)) (parts_there is) in
                  record {
                    each = there.each;
                    parted = there.parted;
                    sorted = there.sorted;
                    accepted = record {
                      pairs = all_with (λ (p : Pair). internal_accepts any_user_key p.0 ≡ true)
                          (λ (p : Pair). order.accepts (record { 0 = compares }) p.0 ≡ true)
                          (λ pair. accepted pair.0) (pairs_in is.parts) there.accepted.pairs;
                      lines = all_with
                          (λ (p : Part). internal_accepts any_user_key p.index_key ≡ true)
                          (λ (p : Part).
                          order.accepts (record { 0 = compares }) p.index_key ≡ true)
                          (λ part. accepted part.index_key) is.parts there.accepted.lines;
                    };
                  }

              holds : HoldsOnlyOf order codings (order.cmp table.cmp) table.id bytes gained
              holds offset held fits found = absurd (none_held (cache_key table.id offset) held
                  gained.pairs (ap (λ (c : Cached (CachedBlock (InternalKeyCmp C))). c.pairs)
                  opens.id.1 ∙ ap (λ (c : Cached (CachedBlock (InternalKeyCmp C))). c.pairs) empty)
                  found)

              there_new : IsFoundThere order env codings later It bytes is.parts
              there_new = record {
                has = let reads = opens.reads in FileHas-after env reads.kept_disk
                    (subst (λ (f : F). FileHas env state f bytes) (sym opens.file) has);
                parts_are = subst (λ (c : InternalKeyCmp C).
                    HasParts codings (order.accepts c) (order.cmp c) bytes is.parts)
                    (sym opens.order.0) parts_are;
                holds = holds;
                indexed = record {
                  lines = starts.lines ∙ lines_are;
                  ordered = ap order.cmp starts.ordered
                      ∙ ap order.cmp (opens.order.1 ∙ sym opens.order.0);
                };
                sorted = subst (λ (c : InternalKeyCmp C).
                    IsSortedIn (key_order order c) (pairs_in is.parts)) (sym opens.order.0) (record {
                      rising = subst (λ (o : List ℕ → List ℕ → Ordering). AreRising o (pairs_in is.parts))
                          (sym (order_is compares))
                          (rising_all (internal_total (total compares)) (pairs_in is.parts)
                          (subst (KeysRise (internal_cmp (cmp.cmp compares))) is.pairs_are is.sorted));
                      accepted = all_from_contains
                          (λ (p : Pair). order.accepts (record { 0 = compares }) p.0 ≡ true)
                          (pairs_in is.parts) (of_all
                          (λ (p : Pair). order.accepts (record { 0 = compares }) p.0 ≡ true)
                          (pairs_in is.parts) parts_are.accepted.pairs);
                    });
              }

          -- the walk
          pub found_opened : OpensFound order env cmp codings compares file size state (Ok It) later
          found_opened = record {
            reads = record {
              kept_disk = let reads = opens.reads in reads.kept_disk;
              cause = let reads = opens.reads in let cause = reads.cause in record {
                later = cause.later;
                ok = cause.ok;
                uncounted = tt;
                cause = tt;
              };
            };
            file_is = opens.file;
            ok = record {
              ordered = opens.order.0;
              left = starts.position;
              there = λ bytes pairs has is.
                  (is.parts, is.pairs_are, there_new bytes pairs has.0 has.1 is);
            };
          }

  -- ---- at a path

  -- no file is opened
  pub path_refused : (compares : C) (path : List ℕ) (state later : E) {status : Status}
      (result : Result (FoundTable E C F) Status) → IsErrAnd result (λ other. other ≡ status)
      → OpensFile env path state (Err status) later
      → OpensFoundAt order env cmp codings compares path state result later
  path_refused compares path state later (Ok it) refused opens = absurd refused
  path_refused compares path state later {status} (Err other) refused opens = record {
    reads = reads_refused env {T = F × ℕ} (Err other) refused
        (reads_weaker env (Err status) (λ one missing. (
          inl missing.0,
          λ modelled bytes has.
              absurd (none_there (files_at env state path) bytes (missing.1 modelled) has.there),
        ))
        opens.reads);
    path_is = tt;
    ok = tt;
  }

  -- the table in a file that was opened
  pub found_at_path : (compares : C) (path : List ℕ) (state mid : E) (file : F) (size : ℕ)
      (later : E) (result : Result (FoundTable E C F) Status)
      → OpensFile env path state (Ok (file, size)) mid
      → OpensFound order env cmp codings compares file size mid result later
      → OpensFoundAt order env cmp codings compares path state result later
  found_at_path compares path state mid file size later result opens opened = by result opened
    where
      has_mid : {bytes : List ℕ} → IsTrue env.models_disk → HasBytesAt (files_at env state) path bytes
          → FileHas env mid file bytes
      has_mid modelled has = let reads = opens.reads in
          FileHas-at env modelled (opens.ok modelled).0 reads.kept_disk has

      sized : {bytes : List ℕ} → IsTrue env.models_disk → HasBytesAt (files_at env state) path bytes
          → size ≡ length bytes
      sized {bytes} modelled has =
          size_there (files_at env state path) size bytes (opens.ok modelled).1 has.there

      by : (r : Result (FoundTable E C F) Status)
          → OpensFound order env cmp codings compares file size mid r later
          → OpensFoundAt order env cmp codings compares path state r later
      by r opened = record {
        reads = let reads = opens.reads in let cause = reads.cause in
            reads_then env r reads.kept_disk cause.ok (λ status lacks. (
              lacks.0,
              λ modelled bytes has. subst (λ n. IsNoIndex codings
                  (order.cmp (record { 0 = compares })) n bytes status) (sized modelled has)
                  (lacks.1 bytes (has_mid modelled has)),
            )) opened.reads;
        path_is = named r opened.file_is;
        ok = is_new r opened.ok;
      }
        where
          named : (r : Result (FoundTable E C F) Status)
              → IfOk r (λ it. file_of it.table ≡ file)
              → IfOk r (λ it. IsTrue env.models_disk → env.name_of (file_of it.table) ≡ path)
          named (Ok it) same = λ modelled. ap env.name_of same ∙ (opens.ok modelled).0
          named (Err status) same = tt

          is_new : (r : Result (FoundTable E C F) Status)
              → IfOk r (IsNewFound order env cmp codings compares
              (λ bytes. FileHas env mid file bytes × (size ≡ length bytes)) later)
              → IfOk r (IsNewFound order env cmp codings compares
              (λ bytes. IsTrue env.models_disk × HasBytesAt (files_at env state) path bytes) later)
          is_new (Ok it) new = record {
            ordered = new.ordered;
            left = new.left;
            there = λ bytes pairs has is.
                new.there bytes pairs (has_mid has.0 has.1, sized has.0 has.1) is;
          }
          is_new (Err status) new = tt
