-- What the calls of a cache of open tables return and leave.
use Rattle.std.specs.Prelude.{IfErr, IfOk, IfSome, IsErrAnd, IsSome, IsTrue, OnErr, OnOk, is_some, option_copied}
use Rattle.std.proofs.Common.{◌≡◌, ◌≢◌, ◌⊎◌, inl, inr, ⊎_elim, ℕ, ◌<◌, ◌^◌, Bool, true, false, List, Option, None, Some, Result, Ok, Err, Bor, refl, sym, ◌∙◌, ap, subst, arith}
use Rattle.std.proofs.lemmas.Bool.Decides.{eqb_tells}
use Rattle.std.proofs.lemmas.Result.{IfErr-weaker, IfOk-weaker, on_ok_weaker}
use Rattle.std.specs.Cmp.Lexicographic.{same_text}
use Rattle.std.specs.Str.{bytes_eq}
use Rattle.leveldb_base.specs.Error.{IsOutOfMemory}
use Rattle.leveldb_base.specs.Types.{Pair, seek_position}
use Rattle.leveldb_base.specs.declared.cmp.Cmp.{Ghosts as CmpGhosts}
use Rattle.leveldb_base.specs.declared.cmp.internal.InternalKeyCmp.{InternalKeyCmp}
use Rattle.leveldb_base.specs.declared.error.Status.{Status}
use Rattle.leveldb_env.proofs.EnvLemmas.{bytes_eq-apart, bytes_eq-same}
use Rattle.leveldb_env.specs.Compressor.{Codings}
use Rattle.leveldb_env.specs.FilterBlock.{passes}
use Rattle.leveldb_env.specs.declared.env.Env.{Ghosts as EnvGhosts}
use Rattle.leveldb_table.proofs.BlockCacheLemmas.{GainsBlocks-refl, GainsBlocks-weaker, HoldsOnlyOf-after, HoldsOnlyOf-new, HoldsOnlyOf-other, IsNumbered-after, IsNumbered-raised, looked_for_same, others_keep, put_finds}
use Rattle.leveldb_table.proofs.TableBlockLemmas.{KeepsDisk-refl, KeepsDisk-trans, fails_own, fails_weaker, reads_ok, reads_own, reads_refused, reads_then, reads_weaker}
use Rattle.leveldb_table.specs.BlockCache.{GainsBlocks, HoldsOnlyOf, IsBlockOfFile}
use Rattle.leveldb_table.specs.Cache.{Cached, looked_for, others, put_first, value_of}
use Rattle.leveldb_table.specs.OpenTable.{IsFilteredBy, file_of, id_of}
use Rattle.leveldb_table.specs.TableBlock.{FileHas, ForBytesOf, KeepsDisk, ReadsFile}
use Rattle.leveldb_table.specs.TableReader.{lines_of, may_contain}
use Rattle.leveldb_table.specs.TableReaderMoves.{FindsPair, LookUpFromLine, LookUpInTable, LooksUp}
use Rattle.leveldb_table.specs.TableReaderWalk.{Outcome}
use Rattle.leveldb_table.specs.declared.block_cache.CachedBlock.{CachedBlock}
use Rattle.leveldb_files.specs.Stores.Format.{Format}
use Rattle.leveldb_files.specs.Stores.Paths.{table_path}
use Rattle.leveldb_version.proofs.Tables.TableCacheLemmas.{FileHas-at, looked_none, matches_blocks, matches_found, matches_later, matches_looked, matches_put, matches_renewed, on_ok, one_number, put_there, refused_ok, renewed_closes, renewed_room, renewed_store, same_value, some_is}
use Rattle.leveldb_version.specs.Tables.TableCache.{EvictsTable, ForBytesAt, GetsPair, HasBytesAt, IsNotOpened, IsOpenedWith, IsSameOrClosed, LacksBlockFor, MatchesFile, MatchesFiles, MayFail, OpensNumbered, OpensTableAt, SomeTable, StoreTable, TableOptions, UsesTable, blocks_of, files_at, is_opened, kept, key_matches, key_order, none_kept, none_opened, of_none, of_open, of_opened, path_at, renewed, store_of, table_at, table_key, tables_of, was_open}
use Rattle.leveldb_version.specs.declared.table_cache.TableCache.{TableCache}

-- ---- closing a table

-- other numbers have other keys
apart_keys : (other number : ℕ) → other < 2 ^ 64 → number < 2 ^ 64 → other ≢ number → bytes_eq (table_key other) (table_key number) ≡ false
apart_keys other number other_fits fits apart = bytes_eq-apart (table_key other) (table_key number) (λ same. apart (one_number other number other_fits fits same))

module _ {E C FP F : Type 0} (old : TableCache E C FP F) (number : ℕ) (fits : number < 2 ^ 64) (tables : Cached (StoreTable C FP F))
    (is : tables ≡ record (tables_of old) { pairs = others (table_key number) (tables_of old).pairs }) (gone : value_of (table_key number) tables.pairs ≡ None) where
  -- what other keys have stays
  kept_other : (key : List ℕ) → bytes_eq key (table_key number) ≡ false → value_of key tables.pairs ≡ value_of key (tables_of old).pairs
  kept_other key apart = ap (λ (c : Cached (StoreTable C FP F)). value_of key c.pairs) is ∙ others_keep key (table_key number) apart (tables_of old).pairs

  closed : (n : ℕ) → IsSameOrClosed n old (record old { tables = tables })
  closed n =
      (elim (bytes_eq (table_key n) (table_key number)) as (λ b. bytes_eq (table_key n) (table_key number) ≡ b → IsSameOrClosed n old (record old { tables = tables })) [
        | true ↦ λ same. inl (ap (λ k. value_of k tables.pairs) (same_text (table_key n) (table_key number) (sym same)) ∙ gone)
        | false ↦ λ apart. inr (kept_other (table_key n) apart)
      ]) refl

  pub evicted : (found : Bool) → found ≡ is_some (table_at old number) → EvictsTable number old found (record old { tables = tables })
  evicted found found_is = record {
    was_open = found_is;
    tables = is;
    closed = gone;
    others_stay = λ other other_fits apart. kept_other (table_key other) (apart_keys other number other_fits fits apart);
    closes = record {
      path = refl;
      blocks = refl;
      room = ap (λ (c : Cached (StoreTable C FP F)). c.capacity) is;
      found = refl;
      each = λ n n_fits. closed n;
    };
  }

-- ---- what results say

-- what is borrowed is there
pub borrowed_there : {T : Type 0} (found : Option (Bor T)) {o : Option T} {there : Bool} → option_copied found ≡ o → there ≡ is_some found → there ≡ true → IsSome o
borrowed_there None copied is some = absurd (cc)
borrowed_there (Some borrow) copied is some = subst IsSome copied refl

pub borrowed_none : {T : Type 0} (found : Option (Bor T)) {o : Option T} {there : Bool} → option_copied found ≡ o → there ≡ is_some found → there ≡ false → o ≡ None
borrowed_none None copied is none = sym copied
borrowed_none (Some borrow) copied is none = absurd (cc)

-- a refusal that is passed on has the same causes
refused_reads : {E F T U : Type 0} (env : EnvGhosts E F) {Why : Status → Type 0} {from to : E} {found : Result T Status} {status : Status} (result : Result U Status) → found ≡ Err status → IsErrAnd result (λ other. other ≡ status)
    → ReadsFile env Why from to found → ReadsFile env Why from to result
refused_reads env {Why} {from} {to} result is refused reads = reads_refused env result refused (subst (λ r. ReadsFile env Why from to r) is reads)

-- no success is one of a refusal
refused_if_ok : {T : Type 0} (Q : Status → Type 0) (P : T → Type 0) (result : Result T Status) → IsErrAnd result Q → IfOk result P
refused_if_ok Q P (Ok value) refused = absurd refused
refused_if_ok Q P (Err status) refused = tt

either : {T P Q : Type 0} (result : Result T Status) → OnOk result P → OnErr result Q → Q ⊎ P
either (Ok value) is unput = inr is
either (Err status) put is = inl is

-- what holds of each error
if_err : {T : Type 0} {P : Status → Type 0} (result : Result T Status) → ((status : Status) → P status) → IfErr result P
if_err (Ok value) all = tt
if_err (Err status) all = all status

refused_if_err : {T : Type 0} (P : Status → Type 0) {status : Status} (result : Result T Status) → IsErrAnd result (λ other. other ≡ status) → P status → IfErr result P
refused_if_err P (Ok value) refused is = tt
refused_if_err P (Err other) refused is = subst P (sym refused) is

-- where there is room for none, a put changes nothing
pub put_none : {T : Type 0} (key : List ℕ) (value : T) (cache : Cached T) → cache.capacity ≡ 0 → cache ≡ record cache { pairs = put_first cache.capacity key value cache.pairs }
put_none key value cache none = ap (λ n. record cache { pairs = put_first n key value cache.pairs }) (sym none)

-- what another key has after a put, it had
put_other : {T : Type 0} (q : List ℕ) (capacity : ℕ) (key : List ℕ) (value : T) (pairs : List (List ℕ × T)) → bytes_eq q key ≡ false
    → (value_of q (put_first capacity key value pairs) ≡ None) ⊎ (value_of q (put_first capacity key value pairs) ≡ value_of q pairs)
put_other {T} q capacity key value pairs apart =
    (elim (value_of q (put_first capacity key value pairs)) as (λ found. value_of q (put_first capacity key value pairs) ≡ found → (found ≡ None) ⊎ (found ≡ value_of q pairs)) [
      | None ↦ λ none. inl refl
      | Some held ↦ λ there. ⊎_elim (λ before. inr (sym before)) (λ own. absurd (not_own own.0)) (put_finds q capacity key value held pairs there)
    ]) refl
  where
    not_own : q ≡ key → ⊥
    not_own same = let own : bytes_eq q key ≡ true = rw same (bytes_eq-same key) in absurd (cc)

-- where there is room, what was put is found
pub put_found : {T : Type 0} (key k : List ℕ) (value : T) (cache put : Cached T) → k ≡ key → put ≡ record cache { pairs = put_first cache.capacity key value cache.pairs } → 0 < cache.capacity
    → (found : T) → Some found ≡ value_of k put.pairs → found ≡ value
put_found key k value cache put same is room found there =
    same_value (sym (there ∙ ap (λ q. value_of q put.pairs) same ∙ ap (λ c. value_of key c.pairs) is)) (put_there cache.capacity key value cache.pairs room)

-- a look-up that is refused is so where the refusal is passed on
pub looks_refused : {E C FP F : Type 0} {order : CmpGhosts (InternalKeyCmp C)} {env : EnvGhosts E F} {codings : Codings} {matches : FP → List ℕ → List ℕ → Bool} {table : StoreTable C FP F} {key : List ℕ} {from to : E} {blocks after : Cached (CachedBlock (InternalKeyCmp C))}
    {status : Status} (result : Result (Option Pair) Status) → IsErrAnd result (λ other. other ≡ status) → LooksUp order env codings matches table key from blocks (Err status) to after → LooksUp order env codings matches table key from blocks result to after
looks_refused (Ok found) refused looks = absurd refused
looks_refused {order = order} {env} {codings} {matches} {table} {key} {from} {to} {blocks} {after} (Err other) refused looks =
    subst (λ (s : Status). LooksUp order env codings matches table key from blocks (Err s) to after) (sym refused) looks

-- and so is one by a cache that matches the files
pub gets_refused : {E C FP F : Type 0} {order : CmpGhosts (InternalKeyCmp C)} {env : EnvGhosts E F} {by : TableOptions C FP} {number : ℕ} {key : List ℕ} {from to : E} {old new : TableCache E C FP F} {status : Status} (result : Result (Option Pair) Status)
    → IsErrAnd result (λ other. other ≡ status) → GetsPair order env by number key from old (Err status) to new → GetsPair order env by number key from old result to new
gets_refused (Ok found) refused gets = absurd refused
gets_refused {order = order} {env} {by} {number} {key} {from} {to} {old} {new} (Err other) refused gets =
    subst (λ (s : Status). GetsPair order env by number key from old (Err s) to new) (sym refused) gets

-- a pair was found, and then there was no memory for a copy of its key
pub gets_uncopied : {E C FP F : Type 0} {order : CmpGhosts (InternalKeyCmp C)} (env : EnvGhosts E F) {by : TableOptions C FP} {number : ℕ} {key : List ℕ} {from to : E} {old new : TableCache E C FP F} {found : Option Pair} (result : Result (Option Pair) Status)
    → IsErrAnd result IsOutOfMemory → GetsPair order env by number key from old (Ok found) to new → GetsPair order env by number key from old result to new
gets_uncopied env result out gets = record {
  finds = λ bytes has. refused_if_ok IsOutOfMemory _ result out;
  cause = fails_own env {P = IsOutOfMemory} result gets.cause.ok out (λ status memory. inl memory);
  matches = gets.matches;
}

-- a table was used, and then there was no memory for a copy of what was found
pub uses_uncopied : {E C FP F : Type 0} {T U : Type 0} (env : EnvGhosts E F) {Why : Status → Type 0} {number : ℕ} {from to : E} {old new : TableCache E C FP F} {value : U} (result : Result T Status) → IsErrAnd result IsOutOfMemory
    → UsesTable env Why number from old (Ok value) to new → UsesTable env Why number from old result to new
uses_uncopied env {Why} result out uses = record {
  there = refused_ok IsOutOfMemory _ result out;
  reads = reads_own env {Why = Why} {P = IsOutOfMemory} result uses.reads.kept_disk uses.reads.cause.ok out (λ status memory. inl memory);
  used = refused_ok IsOutOfMemory _ result out;
  on_error = if_err result (λ status. kept uses.used);
  others = uses.others;
  path = uses.path;
  room = uses.room;
  blocks = uses.blocks;
}

-- ---- filters of the options

-- the filters of a table let the same keys pass by any meaning of its policy
same_may_contain : {C FP F : Type 0} (format : Format) (policy : FP) (matches : FP → List ℕ → List ℕ → Bool) → matches policy ≡ key_matches format policy → (table : StoreTable C FP F) → IsFilteredBy policy table
    → may_contain matches table ≡ may_contain (key_matches format) table
same_may_contain format policy matches is table filtered =
    (elim table.filters as (λ f. IfSome f (λ reader. reader.policy ≡ policy)
    → (λ (offset : ℕ) (key : List ℕ). elim f [ None ↦ true | Some reader ↦ passes (matches reader.policy) reader.filters offset key ])
    ≡ (λ (offset : ℕ) (key : List ℕ). elim f [ None ↦ true | Some reader ↦ passes (key_matches format reader.policy) reader.filters offset key ])) [
      | None ↦ λ none. refl
      | Some reader ↦ λ own. ap (λ m. λ (offset : ℕ) (key : List ℕ). passes m reader.filters offset key) (ap matches own ∙ is)
    ]) filtered

-- ---- which table is looked up in

-- a table that is there is the one that was looked up in
pub in_open : {E C FP F : Type 0} {order : CmpGhosts (InternalKeyCmp C)} {env : EnvGhosts E F} {codings : Codings} {matches : FP → List ℕ → List ℕ → Bool} {key : List ℕ} {from to : E} {blocks after : Cached (CachedBlock (InternalKeyCmp C))}
    {result : Result (Option Pair) Status} (o : Option (StoreTable C FP F)) {table : StoreTable C FP F} → o ≡ Some table → LooksUp order env codings matches table key from blocks result to after
    → (other : StoreTable C FP F) → o ≡ Some other → LooksUp order env codings matches other key from blocks result to after
in_open {order = order} {env} {codings} {matches} {key} {from} {to} {blocks} {after} {result} o there looks other at = subst (λ t. LooksUp order env codings matches t key from blocks result to after) (same_value there at) looks

module _ {E C FP F : Type 0} (order : CmpGhosts (InternalKeyCmp C)) (env : EnvGhosts E F) (by : TableOptions C FP) (order_is : order.cmp (record { 0 = by.cmp }) ≡ key_order by.format) where
  -- ---- blocks

  -- blocks that a table gains are its file's
  pub own_blocks : {state : E} (table : StoreTable C FP F) {bytes : List ℕ} → IsOpenedWith by table bytes → FileHas env state (file_of table) bytes
      → (offset : ℕ) (held : CachedBlock (InternalKeyCmp C)) → ForBytesOf env state (file_of table) (λ bytes. IsBlockOfFile order by.format.codings (order.cmp table.cmp) bytes offset held)
      → IsBlockOfFile order by.format.codings (key_order by.format) bytes offset held
  own_blocks table {bytes} opened has offset held right =
      subst (λ cmp. IsBlockOfFile order by.format.codings cmp bytes offset held) (ap order.cmp opened.ordered.0 ∙ order_is) (right bytes has)

  -- what is held in the options' order is held in the table's
  pub held_by : (table : StoreTable C FP F) {bytes : List ℕ} (blocks : Cached (CachedBlock (InternalKeyCmp C))) → IsOpenedWith by table bytes
      → HoldsOnlyOf order by.format.codings (key_order by.format) (id_of table) bytes blocks → HoldsOnlyOf order by.format.codings (order.cmp table.cmp) (id_of table) bytes blocks
  held_by table {bytes} blocks opened holds =
      subst (λ cmp. HoldsOnlyOf order by.format.codings cmp (id_of table) bytes blocks) (sym (ap order.cmp opened.ordered.0 ∙ order_is)) holds

  -- ---- look-ups

  module _ (matches : FP → List ℕ → List ℕ → Bool) (matches_is : matches by.policy ≡ key_matches by.format by.policy) where
    look_up_by : (table : StoreTable C FP F) (key bytes : List ℕ) (out : Outcome) → IsFilteredBy by.policy table → LookUpInTable order by.format.codings matches table key bytes out
        → LookUpInTable order by.format.codings (key_matches by.format) table key bytes out
    look_up_by table key bytes out filtered looked =
        subst (λ l. LookUpFromLine by.format.codings (order.cmp table.cmp) bytes (lines_of table) l key (seek_position (order.cmp table.index.cmp) (lines_of table) key) out)
        (same_may_contain by.format by.policy matches matches_is table filtered) looked

    -- a table that is opened finds or lacks what some table does
    some_finds : (table : StoreTable C FP F) {key bytes : List ℕ} → IsOpenedWith by table bytes → (found : Option Pair) → FindsPair order by.format.codings matches table key bytes found
        → SomeTable by bytes (λ (t : StoreTable C FP F). FindsPair order by.format.codings (key_matches by.format) t key bytes found)
    some_finds table {key} {bytes} opened found finds = (table, opened, record { position = finds.position; look_up = look_up_by table key bytes (Ok finds.position) opened.filtered finds.look_up; is = finds.is })

    some_lacks : (table : StoreTable C FP F) (key : List ℕ) {bytes : List ℕ} (out : Outcome) → IsOpenedWith by table bytes → LookUpInTable order by.format.codings matches table key bytes out
        → SomeTable by bytes (λ (t : StoreTable C FP F). LookUpInTable order by.format.codings (key_matches by.format) t key bytes out)
    some_lacks table key {bytes} out opened looked = (table, opened, look_up_by table key bytes out opened.filtered looked)

  module _ (old : TableCache E C FP F) (state : E) (number : ℕ) (fits : number < 2 ^ 64) where
    -- ---- a table that is open

    module _ (table : StoreTable C FP F) (there : table_at old number ≡ Some table) (tables : Cached (StoreTable C FP F)) (tables_are : tables ≡ record (tables_of old) { pairs = looked_for (table_key number) (tables_of old).pairs }) where
      found_as_before : (n : ℕ) → value_of (table_key n) tables.pairs ≡ table_at old n
      found_as_before n = ap (λ (c : Cached (StoreTable C FP F)). value_of (table_key n) c.pairs) tables_are ∙ looked_for_same (table_key n) (table_key number) (tables_of old).pairs

      same_room : tables.capacity ≡ (tables_of old).capacity
      same_room = ap (λ (c : Cached (StoreTable C FP F)). c.capacity) tables_are

      -- it is used for nothing yet
      pub stays_open : OpensTableAt order env by number state old (Ok tt) state (record old { tables = tables })
      stays_open = record {
        uses = record {
          there = inl (some_is there);
          reads = reads_ok env (KeepsDisk-refl env state) refl;
          used = was_open (some_is there) tables_are;
          on_error = tt;
          others = λ other other_fits apart. inr (found_as_before other);
          path = refl;
          room = same_room;
          blocks = of_open table there (GainsBlocks-refl (id_of table) (λ _ _. Unit {0}) (blocks_of old));
        };
        is_open = λ room. some_is (found_as_before number ∙ there);
        stays = λ now_open. record { ok = refl; no_call = refl; cache = ap (λ t. record old { tables = t }) tables_are };
        matches = λ modelled was. matches_looked env by old tables (files_at env state) number tables_are was;
      }

      -- a key is looked up in it
      module _ (matches : FP → List ℕ → List ℕ → Bool) (matches_is : matches by.policy ≡ key_matches by.format by.policy) (key : List ℕ) (result : Result (Option Pair) Status) (found : List ℕ) {to : E} {blocks : Cached (CachedBlock (InternalKeyCmp C))}
          (looks : LooksUp order env by.format.codings matches table key state (blocks_of old) result to blocks) where
        pub uses_open : UsesTable env (MayFail env by state old number) number state old result to (record old { tables = tables; blocks = blocks; key_buffers = found })
        uses_open = record {
          there = on_ok result (inl (some_is there));
          reads = reads_weaker env result (λ status lack. inr (inl (some_is there), lack.0)) looks.reads;
          used = on_ok result (was_open (some_is there) tables_are);
          on_error = if_err result (λ status. kept (was_open (some_is there) tables_are));
          others = λ other other_fits apart. inr (found_as_before other);
          path = refl;
          room = same_room;
          blocks = of_open table there (GainsBlocks-weaker (λ offset held right. tt) looks.gathers);
        }

        module _ (modelled : IsTrue env.models_disk) (was : MatchesFiles order env by (files_at env state) old) where
          open_now : MatchesFile order env by (files_at env state) old number table
          open_now = was.each number table fits there

          has_open : {bytes : List ℕ} → HasBytesAt (files_at env state) (path_at old number) bytes → FileHas env state (file_of table) bytes
          has_open has = FileHas-at env modelled (open_now.path modelled) (KeepsDisk-refl env state) has

          gained_open : MatchesFiles order env by (files_at env state) (record old { blocks = blocks })
          gained_open =
              let gains = looks.gathers in let given = gains.given in let ids = was.ids in
              matches_blocks env by old blocks (files_at env state) was (omega (arith, given, ids)) (omega (arith, given)) (IsNumbered-after open_now.given gains was.numbered) holds
            where
              holds : (n : ℕ) (other : StoreTable C FP F) → n < 2 ^ 64 → table_at old n ≡ Some other → (bytes : List ℕ) → HasBytesAt (files_at env state) (path_at old n) bytes
                  → HoldsOnlyOf order by.format.codings (key_order by.format) (id_of other) bytes blocks
              holds n other n_fits at bytes has =
                  let it = was.each n other n_fits at in
                  let ids = was.ids in let given = it.given in let own_given = open_now.given in
                  ⊎_elim
                  (λ same. (let one = was.apart n number other table n_fits fits at there same.1 in
                  let here = subst (λ m. HasBytesAt (files_at env state) (path_at old m) bytes) one has in
                  subst (λ i. HoldsOnlyOf order by.format.codings (key_order by.format) i bytes blocks) (sym same.1)
                  (HoldsOnlyOf-after (own_blocks table (open_now.opened bytes here) (has_open here)) looks.gathers (open_now.blocks bytes here))))
                  (λ apart. HoldsOnlyOf-other (omega (arith, own_given, ids)) (omega (arith, given, ids)) (λ same. apart.1 (sym same)) looks.gathers (it.blocks bytes has))
                  (eqb_tells (id_of other) (id_of table))

          pub gets_open : GetsPair order env by number key state old result to (record old { tables = tables; blocks = blocks; key_buffers = found })
          gets_open = record {
            finds = λ bytes has.
                (let opened = open_now.opened bytes has in
                IfOk-weaker result (FindsPair order by.format.codings matches table key bytes) (λ found. SomeTable by bytes (λ (t : StoreTable C FP F). FindsPair order by.format.codings (key_matches by.format) t key bytes found))
                (some_finds matches matches_is table opened) (looks.finds bytes (has_open has) (held_by table (blocks_of old) opened (open_now.blocks bytes has))));
            cause = fails_weaker env result (λ status lack. inr (λ bytes has.
                (let opened = open_now.opened bytes has in some_lacks matches matches_is table key (Err status) opened ((lack.1 bytes (has_open has)).1 (held_by table (blocks_of old) opened (open_now.blocks bytes has)))))) looks.reads.cause;
            matches = matches_later env by (record old { tables = tables; blocks = blocks; key_buffers = found }) modelled looks.reads.kept_disk
                (matches_found env by (record old { tables = tables; blocks = blocks }) found (files_at env state)
                (matches_looked env by (record old { blocks = blocks }) tables (files_at env state) number tables_are gained_open));
          }

    -- ---- a table that isn't open

    module _ (none : table_at old number ≡ None) where
      -- a look-up leaves the cache as it is
      same_cache : {tables : Cached (StoreTable C FP F)} → tables ≡ record (tables_of old) { pairs = looked_for (table_key number) (tables_of old).pairs } → record old { tables = tables } ≡ old
      same_cache tables_are = ap (λ t. record old { tables = t }) (tables_are ∙ ap (λ ps. record (tables_of old) { pairs = ps }) (looked_none (table_key number) (tables_of old).pairs none))

      -- so it is opened in the cache as it was
      pub opens_before : {tables : Cached (StoreTable C FP F)} → tables ≡ record (tables_of old) { pairs = looked_for (table_key number) (tables_of old).pairs }
          → {result : Result (StoreTable C FP F) Status} {to : E} {new : TableCache E C FP F} → OpensNumbered env by number state (record old { tables = tables }) result to new → OpensNumbered env by number state old result to new
      opens_before tables_are {result} {to} {new} opens = subst (λ cache. OpensNumbered env by number state cache result to new) (same_cache tables_are) opens

      -- ---- and isn't opened

      module _ {T : Type 0} (result : Result T Status) {status : Status} {to : E} {new : TableCache E C FP F} (refused : IsErrAnd result (λ other. other ≡ status))
          (opens : OpensNumbered env by number state old (Err status) to new) where
        left_has : (P : TableCache E C FP F → Type 0) → P old → P (renewed old) → P new
        left_has P same anew = ⊎_elim (λ is. subst P (sym is) same) (λ is. subst P (sym is) anew) opens.err

        pub reads_unopened : (Why : Status → Type 0) → ((other : Status) → IsNotOpened env by state old number other → Why other) → ReadsFile env Why state to result
        reads_unopened Why why = reads_refused env result refused (reads_weaker env (Err status) (λ other unopened. why other (none, unopened)) opens.reads)

        pub uses_unopened : (Why : Status → Type 0) → ((other : Status) → IsNotOpened env by state old number other → Why other) → UsesTable env Why number state old result to new
        uses_unopened Why why = record {
          there = refused_ok (λ other. other ≡ status) _ result refused;
          reads = reads_unopened Why why;
          used = refused_ok (λ other. other ≡ status) _ result refused;
          on_error = if_err result (λ other. none_opened none opens.err);
          others = λ other other_fits apart. left_has (λ c. IsSameOrClosed other old c) (inr refl) (renewed_closes old other);
          path = left_has (λ c. store_of c ≡ store_of old) refl (renewed_store old);
          room = left_has (λ c. (tables_of c).capacity ≡ (tables_of old).capacity) refl (renewed_room old);
          blocks = of_none none opens.err;
        }

        pub matches_unopened : IsTrue env.models_disk → MatchesFiles order env by (files_at env state) old → MatchesFiles order env by (files_at env to) new
        matches_unopened modelled was = matches_later env by new modelled opens.reads.kept_disk
            (left_has (λ c. MatchesFiles order env by (files_at env state) c) was (matches_renewed env by old (files_at env state) was))

      -- so there is no use of it
      pub opens_unopened : (result : Result Unit Status) {status : Status} {to : E} {new : TableCache E C FP F} → IsErrAnd result (λ other. other ≡ status)
          → OpensNumbered env by number state old (Err status) to new → OpensTableAt order env by number state old result to new
      opens_unopened result {status} refused opens = record {
        uses = uses_unopened result refused opens _ (λ other why. why);
        is_open = refused_ok (λ other. other ≡ status) _ result refused;
        stays = λ now_open. absurd (not_open now_open);
        matches = matches_unopened result refused opens;
      }
        where
          not_open : IsSome (table_at old number) → ⊥
          not_open now_open = absurd (cc)

      pub gets_unopened : {key : List ℕ} (result : Result (Option Pair) Status) {status : Status} {to : E} {new : TableCache E C FP F} → IsErrAnd result (λ other. other ≡ status)
          → OpensNumbered env by number state old (Err status) to new → IsTrue env.models_disk → MatchesFiles order env by (files_at env state) old → GetsPair order env by number key state old result to new
      gets_unopened {key} result {status} refused opens modelled was = record {
        finds = λ bytes has. refused_if_ok (λ other. other ≡ status) _ result refused;
        cause = (reads_unopened result refused opens (λ other. IsNotOpened env by state old number other ⊎ LacksBlockFor order env by key (files_at env state) old number other) (λ other why. inl why)).cause;
        matches = matches_unopened result refused opens modelled was;
      }

      -- ---- and is opened

      module _ (table : StoreTable C FP F) {mid : E} (now : TableCache E C FP F) (opens : OpensNumbered env by number state old (Ok table) mid now) where
        blocks_now : blocks_of now ≡ record (blocks_of (renewed old)) { given = id_of table }
        blocks_now = ap blocks_of opens.cache

        tables_now : tables_of now ≡ tables_of (renewed old)
        tables_now = ap tables_of opens.cache

        put_old : {put : Cached (StoreTable C FP F)} → put ≡ record (tables_of now) { pairs = put_first (tables_of now).capacity (table_key number) table (tables_of now).pairs }
            → put ≡ record (tables_of (renewed old)) { pairs = put_first (tables_of (renewed old)).capacity (table_key number) table (tables_of (renewed old)).pairs }
        put_old is = is ∙ ap (λ (t : Cached (StoreTable C FP F)). record t { pairs = put_first t.capacity (table_key number) table t.pairs }) tables_now

        module _ {after : Cached (CachedBlock (InternalKeyCmp C))} {Right : ℕ → CachedBlock (InternalKeyCmp C) → Type 0} (gains : GainsBlocks (id_of table) Right (blocks_of now) after) where
          gains_raised : GainsBlocks (id_of table) Right (record (blocks_of (renewed old)) { given = id_of table }) after
          gains_raised = subst (λ b. GainsBlocks (id_of table) Right b after) blocks_now gains

          -- ---- what is left, with the table in the cache or not

          module _ (found : List ℕ) (put : Cached (StoreTable C FP F)) (put_is : (put ≡ tables_of now) ⊎ (put ≡ record (tables_of now) { pairs = put_first (tables_of now).capacity (table_key number) table (tables_of now).pairs })) where
            room_after : put.capacity ≡ (tables_of old).capacity
            room_after = ⊎_elim (λ unkept. ap (λ (c : Cached (StoreTable C FP F)). c.capacity) (unkept ∙ tables_now)) (λ is. ap (λ (c : Cached (StoreTable C FP F)). c.capacity) (put_old is)) put_is ∙ renewed_room old

            others_after : (other : ℕ) → other < 2 ^ 64 → other ≢ number → (value_of (table_key other) put.pairs ≡ None) ⊎ (value_of (table_key other) put.pairs ≡ table_at old other)
            others_after other other_fits apart =
                ⊎_elim (λ unkept. (let is = ap (λ (c : Cached (StoreTable C FP F)). value_of (table_key other) c.pairs) (unkept ∙ tables_now) in from_base is))
                (λ put_first_is. (let is = ap (λ (c : Cached (StoreTable C FP F)). value_of (table_key other) c.pairs) (put_old put_first_is) in
                ⊎_elim (λ gone. inl (is ∙ gone)) (λ same. from_base (is ∙ same))
                (put_other (table_key other) (tables_of (renewed old)).capacity (table_key number) table (tables_of (renewed old)).pairs (apart_keys other number other_fits fits apart)))) put_is
              where
                from_base : value_of (table_key other) put.pairs ≡ table_at (renewed old) other → (value_of (table_key other) put.pairs ≡ None) ⊎ (value_of (table_key other) put.pairs ≡ table_at old other)
                from_base is = ⊎_elim (λ gone. inl (is ∙ gone)) (λ same. inr (is ∙ same)) (renewed_closes old other)

            uses_opened : {T : Type 0} {Why : Status → Type 0} {to : E} (result : Result T Status) → ReadsFile env Why state to result
                → OnOk result (put ≡ record (tables_of now) { pairs = put_first (tables_of now).capacity (table_key number) table (tables_of now).pairs })
                → IfErr result (λ status. (IsOutOfMemory status × (put ≡ tables_of now)) ⊎ (put ≡ record (tables_of now) { pairs = put_first (tables_of now).capacity (table_key number) table (tables_of now).pairs }))
                → UsesTable env Why number state old result to (record now { tables = put; blocks = after; key_buffers = found })
            uses_opened result reads used left = record {
              there = on_ok result (inr opens.there);
              reads = reads;
              used = on_ok_weaker result (λ is. is_opened none table opens.id.0 (put_old is)) used;
              on_error = IfErr-weaker result _ _ (λ status. ⊎_elim (λ unkept. none_kept none unkept.0 (unkept.1 ∙ tables_now)) (λ is. kept (is_opened none table opens.id.0 (put_old is)))) left;
              others = others_after;
              path = ap store_of opens.cache ∙ renewed_store old;
              room = room_after;
              blocks = of_opened none (subst (λ id. GainsBlocks id (λ _ _. Unit {0}) (record (blocks_of (renewed old)) { given = id }) after) opens.id.0
                  (GainsBlocks-weaker (λ offset held right. tt) gains_raised));
            }

            -- ---- and it matches

            module _ (modelled : IsTrue env.models_disk) (was : MatchesFiles order env by (files_at env state) old)
                (right : (bytes : List ℕ) → IsOpenedWith by table bytes → FileHas env mid (file_of table) bytes → (offset : ℕ) (held : CachedBlock (InternalKeyCmp C)) → Right offset held → IsBlockOfFile order by.format.codings (key_order by.format) bytes offset held) where
              base_was : MatchesFiles order env by (files_at env state) (renewed old)
              base_was = matches_renewed env by old (files_at env state) was

              given_after : after.given ≡ id_of table
              given_after = gains_raised.given

              -- ids of open tables were given before
              own_id : (n : ℕ) (other : StoreTable C FP F) → n < 2 ^ 64 → table_at (renewed old) n ≡ Some other → id_of other ≢ id_of table
              own_id n other n_fits at same = let given = (base_was.each n other n_fits at).given in let own = opens.id.0 in absurd (omega (arith, given, own, same))

              gained_new : MatchesFiles order env by (files_at env state) (record (renewed old) { blocks = after })
              gained_new =
                  let own = opens.id.0 in let own_fits = opens.id.1 in
                  matches_blocks env by (renewed old) after (files_at env state) base_was (omega (arith, given_after, own_fits)) (omega (arith, given_after, own))
                  (IsNumbered-after (omega arith) gains_raised (IsNumbered-raised (blocks_of (renewed old)) (id_of table) (omega (arith, own)) base_was.numbered))
                  (λ n other n_fits at bytes has. (let it = base_was.each n other n_fits at in let given = it.given in
                  HoldsOnlyOf-other own_fits (omega (arith, given, own, own_fits)) (λ same. own_id n other n_fits at (sym same)) gains_raised (it.blocks bytes has)))

              -- under its id nothing was held
              new_holds : {bytes : List ℕ} → HoldsOnlyOf order by.format.codings (key_order by.format) (id_of table) bytes (blocks_of (renewed old))
              new_holds = let own = opens.id.0 in HoldsOnlyOf-new (blocks_of (renewed old)) opens.id.1 (omega (arith, own)) base_was.numbered

              here : (P : List ℕ → Type 0) → P (path_at old number) → P (path_at (renewed old) number)
              here P is = subst (λ store. P (table_path store number)) (sym (renewed_store old)) is

              matches_it : MatchesFile order env by (files_at env state) (record (renewed old) { blocks = after }) number table
              matches_it = record {
                path = λ modelled. here (λ path. env.name_of (file_of table) ≡ path) (opens.path modelled);
                opened = here (λ path. ForBytesAt (files_at env state) path (IsOpenedWith by table)) (opens.opened modelled);
                blocks = here (λ path. ForBytesAt (files_at env state) path (λ bytes. HoldsOnlyOf order by.format.codings (key_order by.format) (id_of table) bytes after))
                    (λ bytes has. HoldsOnlyOf-after (right bytes (opens.opened modelled bytes has) (FileHas-at env modelled (opens.path modelled) opens.reads.kept_disk has)) gains_raised new_holds);
                given = omega (arith, given_after);
              }

              pub matches_opened : {to : E} → KeepsDisk env state to → MatchesFiles order env by (files_at env to) (record now { tables = put; blocks = after; key_buffers = found })
              matches_opened kept_disk = matches_later env by (record now { tables = put; blocks = after; key_buffers = found }) modelled kept_disk
                  (matches_found env by (record now { tables = put; blocks = after }) found (files_at env state)
                  (subst (λ c. MatchesFiles order env by (files_at env state) (record c { tables = put; blocks = after })) (sym opens.cache) (⊎_elim
                  (λ unkept. subst (λ t. MatchesFiles order env by (files_at env state) (record (renewed old) { tables = t; blocks = after })) (sym (unkept ∙ tables_now)) gained_new)
                  (λ is. matches_put env by (record (renewed old) { blocks = after }) put (files_at env state) number table fits (put_old is) matches_it own_id gained_new) put_is)))

        -- it has no blocks in memory yet
        none_gained : GainsBlocks (id_of table) (λ offset held. ForBytesOf env mid (file_of table) (λ bytes. IsBlockOfFile order by.format.codings (order.cmp table.cmp) bytes offset held)) (blocks_of now) (blocks_of now)
        none_gained = GainsBlocks-refl (id_of table) (λ offset held. ForBytesOf env mid (file_of table) (λ bytes. IsBlockOfFile order by.format.codings (order.cmp table.cmp) bytes offset held)) (blocks_of now)

        -- ---- it is opened, and put into the cache

        pub opened_new : (put : Cached (StoreTable C FP F)) (result : Result Unit Status) → OnOk result (put ≡ record (tables_of now) { pairs = put_first (tables_of now).capacity (table_key number) table (tables_of now).pairs })
            → OnErr result (put ≡ tables_of now) → IfErr result IsOutOfMemory → OpensTableAt order env by number state old result mid (record now { tables = put })
        opened_new put result is unput memory = record {
          uses = uses_opened none_gained now.key_buffers put put_is result (reads result memory) is (left result unput memory);
          is_open = on_ok_weaker result (λ there room. some_is (ap (λ (c : Cached (StoreTable C FP F)). value_of (table_key number) c.pairs) (put_old there)
              ∙ put_there (tables_of (renewed old)).capacity (table_key number) table (tables_of (renewed old)).pairs (let same = renewed_room old in omega (arith, same, room)))) is;
          stays = λ now_open. absurd (not_open now_open);
          matches = λ modelled was. matches_opened none_gained now.key_buffers put put_is modelled was (λ bytes opened has. own_blocks table opened has) opens.reads.kept_disk;
        }
          where
            put_is : (put ≡ tables_of now) ⊎ (put ≡ record (tables_of now) { pairs = put_first (tables_of now).capacity (table_key number) table (tables_of now).pairs })
            put_is = either result is unput

            not_open : IsSome (table_at old number) → ⊥
            not_open now_open = absurd (cc)

            left : (result : Result Unit Status) → OnErr result (put ≡ tables_of now) → IfErr result IsOutOfMemory
                → IfErr result (λ status. (IsOutOfMemory status × (put ≡ tables_of now)) ⊎ (put ≡ record (tables_of now) { pairs = put_first (tables_of now).capacity (table_key number) table (tables_of now).pairs }))
            left (Ok done) unput memory = tt
            left (Err status) unput memory = inl (memory, unput)

            reads : (result : Result Unit Status) → IfErr result IsOutOfMemory → ReadsFile env (IsNotOpened env by state old number) state mid result
            reads (Ok done) memory = reads_ok env opens.reads.kept_disk opens.reads.cause.ok
            reads (Err status) memory = reads_own env {P = IsOutOfMemory} (Err status) opens.reads.kept_disk opens.reads.cause.ok memory (λ other out. inl out)

        -- ---- it is opened, but there is no memory to keep it

        module _ (result : Result (Option Pair) Status) {status : Status} (out : IsOutOfMemory status) (refused : IsErrAnd result (λ other. other ≡ status)) (put : Cached (StoreTable C FP F)) (unkept : put ≡ tables_of now) where
          reads_unkept : (Why : Status → Type 0) → ReadsFile env Why state mid result
          reads_unkept Why = reads_own env {P = λ other. other ≡ status} result opens.reads.kept_disk opens.reads.cause.ok refused (λ other is. inl (subst IsOutOfMemory (sym is) out))

          pub uses_unkept : UsesTable env (MayFail env by state old number) number state old result mid (record now { tables = put })
          uses_unkept = uses_opened none_gained now.key_buffers put (inl unkept) result (reads_unkept (MayFail env by state old number)) (refused_ok (λ other. other ≡ status) _ result refused)
              (refused_if_err (λ status. (IsOutOfMemory status × (put ≡ tables_of now)) ⊎ (put ≡ record (tables_of now) { pairs = put_first (tables_of now).capacity (table_key number) table (tables_of now).pairs })) result refused (inl (out, unkept)))

          pub gets_unkept : {key : List ℕ} → IsTrue env.models_disk → MatchesFiles order env by (files_at env state) old → GetsPair order env by number key state old result mid (record now { tables = put })
          gets_unkept {key} modelled was = record {
            finds = λ bytes has. refused_if_ok (λ other. other ≡ status) _ result refused;
            cause = (reads_unkept (λ other. IsNotOpened env by state old number other ⊎ LacksBlockFor order env by key (files_at env state) old number other)).cause;
            matches = matches_opened none_gained now.key_buffers put (inl unkept) modelled was (λ bytes opened has. own_blocks table opened has) opens.reads.kept_disk;
          }

        -- ---- it is opened and kept, and a key is looked up in it

        module _ (matches : FP → List ℕ → List ℕ → Bool) (matches_is : matches by.policy ≡ key_matches by.format by.policy) (key : List ℕ) (result : Result (Option Pair) Status) (found : List ℕ) {to : E} {after : Cached (CachedBlock (InternalKeyCmp C))}
            (it : StoreTable C FP F) (it_is : it ≡ table) (looks_up : LooksUp order env by.format.codings matches it key mid (blocks_of now) result to after)
            (put : Cached (StoreTable C FP F)) (put_is : put ≡ record (tables_of now) { pairs = put_first (tables_of now).capacity (table_key number) table (tables_of now).pairs }) where
          looks : LooksUp order env by.format.codings matches table key mid (blocks_of now) result to after
          looks = subst (λ t. LooksUp order env by.format.codings matches t key mid (blocks_of now) result to after) it_is looks_up

          kept_to : KeepsDisk env state to
          kept_to = KeepsDisk-trans env opens.reads.kept_disk looks.reads.kept_disk

          pub uses_looked : UsesTable env (MayFail env by state old number) number state old result to (record now { tables = put; blocks = after; key_buffers = found })
          uses_looked = uses_opened looks.gathers found put (inr put_is) result
              (reads_then env result opens.reads.kept_disk opens.reads.cause.ok (λ other lack. inr (inr opens.there, lack.0)) looks.reads)
              (on_ok result put_is) (if_err result (λ status. inr put_is))

          module _ (modelled : IsTrue env.models_disk) (was : MatchesFiles order env by (files_at env state) old) where
            has_mid : {bytes : List ℕ} → HasBytesAt (files_at env state) (path_at old number) bytes → FileHas env mid (file_of table) bytes
            has_mid has = FileHas-at env modelled (opens.path modelled) opens.reads.kept_disk has

            -- under its id nothing was held
            none_held : {bytes : List ℕ} → HasBytesAt (files_at env state) (path_at old number) bytes → HoldsOnlyOf order by.format.codings (order.cmp table.cmp) (id_of table) bytes (blocks_of now)
            none_held {bytes} has =
                held_by table (blocks_of now) (opens.opened modelled bytes has) (subst (λ b. HoldsOnlyOf order by.format.codings (key_order by.format) (id_of table) bytes b) (sym blocks_now)
                (let own = opens.id.0 in HoldsOnlyOf-new (blocks_of (renewed old)) opens.id.1 (omega (arith, own)) (matches_renewed env by old (files_at env state) was).numbered))

            pub gets_looked : GetsPair order env by number key state old result to (record now { tables = put; blocks = after; key_buffers = found })
            gets_looked = record {
              finds = λ bytes has.
                  IfOk-weaker result (FindsPair order by.format.codings matches table key bytes) (λ pair. SomeTable by bytes (λ (t : StoreTable C FP F). FindsPair order by.format.codings (key_matches by.format) t key bytes pair))
                  (some_finds matches matches_is table (opens.opened modelled bytes has)) (looks.finds bytes (has_mid has) (none_held has));
              cause = (reads_then env {Why = λ other. IsNotOpened env by state old number other ⊎ LacksBlockFor order env by key (files_at env state) old number other} result opens.reads.kept_disk opens.reads.cause.ok
                  (λ other lack. inr (λ bytes has. some_lacks matches matches_is table key (Err other) (opens.opened modelled bytes has) ((lack.1 bytes (has_mid has)).1 (none_held has)))) looks.reads).cause;
              matches = matches_opened looks.gathers found put (inr put_is) modelled was (λ bytes opened has. own_blocks table opened has) kept_to;
            }
