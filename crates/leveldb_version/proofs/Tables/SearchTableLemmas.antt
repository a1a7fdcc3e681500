-- What a search for a key in one table finds, and why it fails, in a table that is one by what its
-- ids mean.
use Rattle.std.specs.Prelude.{Contains, IfErr, IfOk, IfSome, IsErrAnd, IsSome, IsSomeAnd, IsTrue}
use Rattle.std.proofs.Common.{◌≡◌, ◌≢◌, ◌⊎◌, inl, inr, ⊎_elim, ℕ, ◌+◌, ◌==◌, ◌<◌, ◌≤◌, ◌^◌, Bool, true, false, List, [], ◌∷◌, length, map, Option, None, Some, Result, Ok, Err, refl, sym, ◌∙◌, ap, subst, arith, if◌then◌else◌}
use Rattle.std.specs.declared.cmp.Ordering.{Ordering}
use Rattle.leveldb_base.proofs.HistoryLemmas.{in_front}
use Rattle.leveldb_base.specs.Cmp.{IsExactOrder}
use Rattle.leveldb_base.specs.Entries.{FindsNewest, found_at}
use Rattle.leveldb_base.specs.declared.types.Lookup.{Lookup}
use Rattle.leveldb_base.specs.History.{Entry}
use Rattle.leveldb_base.specs.KeyTypes.{internal_cmp, sequence_part, user_part}
use Rattle.leveldb_base.specs.Types.{Pair, seek_position}
use Rattle.leveldb_base.specs.declared.cmp.Cmp.{Ghosts as CmpGhosts}
use Rattle.leveldb_base.specs.declared.cmp.internal.InternalKeyCmp.{InternalKeyCmp}
use Rattle.leveldb_base.specs.declared.error.Status.{Status}
use Rattle.leveldb_base.specs.declared.error.StatusCode.TheVariants.{Corruption}
use Rattle.leveldb_env.specs.Compressor.{Coding}
use Rattle.leveldb_env.specs.Env.{File, bytes_of}
use Rattle.leveldb_env.specs.declared.env.Env.{Ghosts as EnvGhosts}
use Rattle.leveldb_table.proofs.TableReaderLemmas.{index_read, opened_pass, opens_well, parts_there}
use Rattle.leveldb_table.proofs.TableBlockLemmas.{fails_ok, fails_own, fails_refused, fails_weaker, reads_ok, reads_own, reads_refused, reads_weaker}
use Rattle.leveldb_table.specs.Table.{index_pair}
use Rattle.leveldb_table.specs.TableBlock.{HasLackCode, IsUndecodedBy}
use Rattle.leveldb_table.specs.TableReader.{lines_of, may_contain}
use Rattle.leveldb_table.specs.TableReaderMoves.{FindsPair, LookUpFromLine, LookUpInTable}
use Rattle.leveldb_table.specs.TableReaderWalk.{Outcome}
use Rattle.leveldb_files.specs.Stores.Format.{Agrees, Format, IsTableFault, IsTableOf, Meaning}
use Rattle.leveldb_files.specs.Levels.Levels.{LiveTable}
use Rattle.leveldb_version.specs.Versions.Search.{AreOpenTablesMatched, FindsInTable, IsUnreadable, OpensTablesOf, SearchesTable, lacks_block, unopened, untagged}
use Rattle.leveldb_files.specs.Stores.Store.{HasTable}
use Rattle.leveldb_version.specs.Tables.TableCache.{GainsOwnBlocks, GetsPair, HasBytesAt, IsNoStoreTable, IsNotOpened, IsOpenOrThere, IsOpenedWith, LacksBlockFor, MatchesFiles, MayFail, StoreTable, TableOptions, UsesTable, blocks_of, empty_cache, files_at, key_matches, missing, no_table, of_none, of_open, of_opened, path_at, renewed, store_of, table_at, tables_of}
use Rattle.leveldb_version.specs.declared.table_cache.TableCache.{TableCache}
use Rattle.leveldb_version.proofs.Tables.NewestLemmas.{SaysNewest, accepted_key, entries_are, says_newest, store_order}
use Rattle.leveldb_version.proofs.Versions.SearchLemmas.{same_or_not}
use Rattle.leveldb_version.proofs.Tables.TableCacheLemmas.{refused_ok}
use Rattle.leveldb_version.proofs.Tables.ReadTableLemmas.{Wants, lacks_part, look_up_finds, look_up_lacks, opens_more}

-- ---- codes

-- what may tell that a block is lacking may be said of a table
pub fault_of : {E F : Type 0} (env : EnvGhosts E F) (format : Format) (status : Status) → HasLackCode env format.codings status → IsTableFault format status.code
fault_of env format status (inl damaged) = inl damaged
fault_of env format status (inr lacks) = by (format.codings lacks.0) refl lacks.2
  where
    by : (o : Option Coding) → format.codings lacks.0 ≡ o → IsUndecodedBy o lacks.0 lacks.1 status → IsTableFault format status.code
    by None is why = inr (inl why.0)
    by (Some coding) is why = inr (inr (record { id = lacks.0; coding = coding; is_set = is; text = lacks.1; none = why.0; fails = why.1 }))

-- ---- bytes that are a table

-- they are opened, unless a compressor is wanting
pub unopened_wants : (format : Format) {bytes : List ℕ} {meaning : Meaning} (agrees : Agrees format meaning) {pairs : List Pair} (is : IsTableOf format.order meaning bytes pairs) (status : Status) → IsNoStoreTable format bytes status → Wants agrees status
unopened_wants format agrees is status none = lacks_part agrees (opens_well is format.policy_name (λ sought. format.matches (user_part sought)) agrees.filters).opens none.1

module _ {C FP F : Type 0} (order : CmpGhosts (InternalKeyCmp C)) (by : TableOptions C FP) (exact : IsExactOrder by.format.order)
    (order_is : order.cmp (record { 0 = by.cmp }) ≡ internal_cmp by.format.order) (key : List ℕ) (tagged : 8 ≤ length key)
    {bytes : List ℕ} {meaning : Meaning} (agrees : Agrees by.format meaning) {pairs : List Pair} (is : IsTableOf by.format.order meaning bytes pairs) where
  module _ (table : StoreTable C FP F) (opened : IsOpenedWith by table bytes) where
    lines_are : lines_of table ≡ map index_pair is.parts
    lines_are = (index_read is.tabled (opens_more agrees opened.opened).indexed).0

    -- a look-up goes by the lines of its data blocks
    along : (out : Outcome) → LookUpInTable order by.format.codings (key_matches by.format) table key bytes out
        → LookUpFromLine by.format.codings (internal_cmp by.format.order) bytes (map index_pair is.parts) (may_contain (key_matches by.format) table) key (seek_position (internal_cmp by.format.order) (map index_pair is.parts) key) out
    along out look_up =
        let same : order.cmp table.cmp ≡ internal_cmp by.format.order = ap order.cmp opened.ordered.0 ∙ order_is in
        let same_index : order.cmp table.index.cmp ≡ internal_cmp by.format.order = ap order.cmp opened.ordered.1 ∙ order_is in
        subst (λ ls. LookUpFromLine by.format.codings (internal_cmp by.format.order) bytes ls (may_contain (key_matches by.format) table) key (seek_position (internal_cmp by.format.order) ls key) out) lines_are
        (subst (λ (o : List ℕ → List ℕ → Ordering). LookUpFromLine by.format.codings (internal_cmp by.format.order) bytes (lines_of table) (may_contain (key_matches by.format) table) key (seek_position o (lines_of table) key) out) same_index
        (subst (λ (o : List ℕ → List ℕ → Ordering). LookUpFromLine by.format.codings o bytes (lines_of table) (may_contain (key_matches by.format) table) key (seek_position (order.cmp table.index.cmp) (lines_of table) key) out) same look_up))

    pub look_up_wants : (status : Status) → LookUpInTable order by.format.codings (key_matches by.format) table key bytes (Err status) → Wants agrees status
    look_up_wants status look_up = look_up_lacks agrees (store_order exact) (parts_there is) (may_contain (key_matches by.format) table) key (accepted_key key tagged) status (along (Err status) look_up)

    pub pair_says : (found : Option Pair) → FindsPair order by.format.codings (key_matches by.format) table key bytes found → SaysNewest pairs key found
    pair_says found finds =
        let parts = parts_there is in
        let at = look_up_finds agrees (store_order exact) parts (may_contain (key_matches by.format) table) key (accepted_key key tagged) finds.position (along (Ok finds.position) finds.look_up) in
        let pass = opened_pass is (opens_more agrees opened.opened) agrees.filters in
        subst (λ ps. SaysNewest ps key found) (sym is.pairs_are) (says_newest exact parts (λ policy. by.format.matches) by.policy table.filters opened.filtered pass key tagged found (finds.is ∙ at))

-- ---- a call that uses the table of a number

-- the room for blocks stays when a cache is renewed
renewed_block_room : {E C FP F : Type 0} (cache : TableCache E C FP F) → (blocks_of (renewed cache)).capacity ≡ (blocks_of cache).capacity
renewed_block_room cache = by ((blocks_of cache).given + 1 == 2 ^ 64)
  where
    by : (b : Bool) → (blocks_of (if b then record cache { tables = empty_cache (tables_of cache).capacity; blocks = empty_cache (blocks_of cache).capacity } else cache)).capacity ≡ (blocks_of cache).capacity
    by true = refl
    by false = refl

own_room : {E C FP F : Type 0} {number : ℕ} (old new : TableCache E C FP F) → GainsOwnBlocks number old new → (blocks_of new).capacity ≡ (blocks_of old).capacity
own_room old new (of_open table there gains) = gains.capacity
own_room old new (of_none none (inl same)) = ap (λ cache. (blocks_of cache).capacity) same
own_room old new (of_none none (inr same)) = ap (λ cache. (blocks_of cache).capacity) same ∙ renewed_block_room old
own_room old new (of_opened none gains) = gains.capacity ∙ renewed_block_room old

-- a table that is there is so as it was
some_before : {T : Type 0} (old new : Option T) → IsSome new → (new ≡ None) ⊎ (new ≡ old) → IsSome old
some_before old None some same = cc
some_before old (Some x) some (inl none) = cc
some_before old (Some x) some (inr same) = subst IsSome same some

module _ {E C FP F : Type 0} (env : EnvGhosts E F) (by : TableOptions C FP) (key : List ℕ) (from : E) (old : TableCache E C FP F) (number : ℕ) where
  -- why it fails
  may_fail : (status : Status) → MayFail env by from old number status → IsTableFault by.format status.code
  may_fail status (inl (none, not)) = fault_of env by.format status not.code
  may_fail status (inr (there, lack)) = fault_of env by.format status lack

module _ {E C FP F : Type 0} {order : CmpGhosts (InternalKeyCmp C)} (env : EnvGhosts E F) (by : TableOptions C FP) (key : List ℕ) (from : E) (old : TableCache E C FP F) (number : ℕ) where
  not_read : AreOpenTablesMatched order env by key from old → (status : Status) → IsNotOpened env by from old number status ⊎ LacksBlockFor order env by key (files_at env from) old number status → IsUnreadable order env by key from old number status
  not_read matched status (inl (none, not)) = unopened (not.cause matched.modelled)
  not_read matched status (inr lacks) = lacks_block lacks

module _ {E C FP F : Type 0} {order : CmpGhosts (InternalKeyCmp C)} (env : EnvGhosts E F) (by : TableOptions C FP) (key : List ℕ) (from : E) (old : TableCache E C FP F) (number : ℕ) {to : E} {new : TableCache E C FP F} where
  used_tables : {T : Type 0} {Why : Status → Type 0} {result : Result T Status} → UsesTable env Why number from old result to new
      → (AreOpenTablesMatched order env by key from old → MatchesFiles order env by (files_at env to) new) → OpensTablesOf order env by key from old (number ∷ []) to new
  used_tables uses matches = record {
    path = uses.path;
    room = uses.room;
    block_room = own_room old new uses.blocks;
    matches = matches;
    opened = λ other small some. ⊎_elim
        (λ (same : number ≡ other). inr (subst (λ n. Contains (number ∷ []) n) same (in_front number [])))
        (λ (differ : number ≢ other). inl (some_before (table_at old other) (table_at new other) some (uses.others other small (λ e. differ (sym e)))))
        (same_or_not number other);
  }

  -- the table isn't looked up in
  pub search_refused : (status : Status) (result : Result (Lookup (List ℕ)) Status) → IsErrAnd result (λ other. other ≡ status)
      → UsesTable env {T = Option Pair} (MayFail env by from old number) number from old (Err status) to new
      → (IsTrue env.models_disk → MatchesFiles order env by (files_at env from) old → GetsPair order env by number key from old (Err status) to new)
      → SearchesTable order env by key from old number result to new
  search_refused status result same uses gets = record {
    finds = λ matched. refused_if (FindsInTable order env by key from old number) result same;
    there = refused_ok (λ other. other ≡ status) (IsOpenOrThere env from old number) result same;
    reads = reads_refused env result same (reads_weaker env (Err status) (may_fail env by key from old number) uses.reads);
    unread = λ matched. fails_refused env result same (fails_weaker env (Err status) (not_read env by key from old number matched) (gets matched.modelled matched.matches).cause);
    cache = used_tables uses (λ matched. (gets matched.modelled matched.matches).matches);
  }
    where
      refused_if : (P : Lookup (List ℕ) → Type 0) (answer : Result (Lookup (List ℕ)) Status) → IsErrAnd answer (λ other. other ≡ status) → IfOk answer P
      refused_if P (Ok value) refused = absurd refused
      refused_if P (Err other) refused = tt

  -- what the pair that it finds says
  pub search_answers : (pair : Option Pair) (result : Result (Lookup (List ℕ)) Status)
      → UsesTable env (MayFail env by from old number) number from old (Ok pair) to new
      → (IsTrue env.models_disk → MatchesFiles order env by (files_at env from) old → GetsPair order env by number key from old (Ok pair) to new)
      → IfOk result (λ value. value ≡ found_at (user_part key) pair) → IfErr result (λ status. (status.code ≡ Corruption) × IsSomeAnd pair (λ it. length it.0 < 8))
      → SearchesTable order env by key from old number result to new
  search_answers pair (Ok value) uses gets is damaged = record {
    finds = λ matched bytes has. let found = (gets matched.modelled matched.matches).finds bytes has in (found.0, found.1, (pair, found.2, is));
    there = uses.there;
    reads = reads_ok env uses.reads.kept_disk uses.reads.cause.ok;
    unread = λ matched. fails_ok env uses.reads.cause.ok;
    cache = used_tables uses (λ matched. (gets matched.modelled matched.matches).matches);
  }
  search_answers pair (Err status) uses gets is damaged = record {
    finds = λ matched. tt;
    there = tt;
    reads = reads_own env {P = λ other. other ≡ status} (Err status) uses.reads.kept_disk uses.reads.cause.ok refl (λ other same. inr (inl (ap (λ (s : Status). s.code) same ∙ damaged.0)));
    unread = λ matched. fails_own env {P = λ other. other ≡ status} (Err status) uses.reads.cause.ok refl (λ other same. inr (untagged (ap (λ (s : Status). s.code) same ∙ damaged.0)
        (λ bytes has. let found = (gets matched.modelled matched.matches).finds bytes has in (found.0, found.1, (pair, found.2, damaged.1)))));
    cache = used_tables uses (λ matched. (gets matched.modelled matched.matches).matches);
  }

-- ---- a table of the store

module _ {E C FP F : Type 0} (order : CmpGhosts (InternalKeyCmp C)) (env : EnvGhosts E F) (by : TableOptions C FP) (exact : IsExactOrder by.format.order) (order_is : order.cmp (record { 0 = by.cmp }) ≡ internal_cmp by.format.order)
    (key : List ℕ) (tagged : 8 ≤ length key) (from : E) (old : TableCache E C FP F) {meaning : Meaning} (agrees : Agrees by.format meaning) (table : LiveTable)
    (has : HasTable (store_of old) by.format.order (IsTableOf by.format.order meaning) (files_at env from) table) (small : table.file.size < 2 ^ 64) where
  has_bytes : HasBytesAt (files_at env from) (path_at old table.file.number) (bytes_of has.file)
  has_bytes = record {
    there = subst (λ (o : Option File). IsSomeAnd o (λ file. bytes_of file ≡ bytes_of has.file)) (sym has.there) refl;
    fits = let size = has.size in omega (arith, size, small);
  }

  -- what is found in it, its entries have
  pub table_finds : (found : Lookup (List ℕ)) → FindsInTable order env by key from old table.file.number found → FindsNewest table.entries (sequence_part key) (user_part key) found
  table_finds found finds =
      let it = finds (bytes_of has.file) has_bytes in
      let says = pair_says order by exact order_is key tagged agrees has.read it.0 it.1 it.2.0 it.2.1 in
      subst (FindsNewest table.entries (sequence_part key) (user_part key)) (sym it.2.2)
      (subst (λ (es : List Entry). FindsNewest es (sequence_part key) (user_part key) (found_at (user_part key) it.2.0)) (entries_are has.pairs table.entries has.each) says.newest)

  -- it can't be read only where a compressor is wanting
  pub unread_wants : (status : Status) → IsUnreadable order env by key from old table.file.number status → Wants agrees status
  unread_wants status (unopened (missing none code)) = absurd (never has.there none)
    where
      never : {o : Option File} {file : File} → o ≡ Some file → o ≡ None → ⊥
      never p q = cc
  unread_wants status (unopened (no_table some lacks)) = unopened_wants by.format agrees has.read status (lacks (bytes_of has.file) has_bytes)
  unread_wants status (lacks_block lacks) = let it = lacks (bytes_of has.file) has_bytes in look_up_wants order by exact order_is key tagged agrees has.read it.0 it.1 status it.2
  unread_wants status (untagged code short) =
      let it = short (bytes_of has.file) has_bytes in
      let says = pair_says order by exact order_is key tagged agrees has.read it.0 it.1 it.2.0 it.2.1 in
      absurd (never it.2.0 says.tagged it.2.2)
    where
      never : (pair : Option Pair) → IfSome pair (λ one. 8 ≤ length one.0) → IsSomeAnd pair (λ one. length one.0 < 8) → ⊥
      never None long less = less
      never (Some one) long less = absurd (omega (arith, long, less))
