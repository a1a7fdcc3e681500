-- What a file that is judged comes to: a line of its index, all lines, and the table.
use Rattle.std.proofs.Common.{◌≡◌, ℕ, Bool, true, false, not, List, length, Option, None, Some, Result, Ok, Err, refl, sym, ◌∙◌, ap}
use Rattle.std.specs.Prelude.{◌↔◌, Contains, IfOk, IsTrue, is_some}
use Rattle.std.specs.declared.cmp.Ordering.{Ordering}
use Rattle.std.proofs.lemmas.Bool.{true≢false}
use Rattle.leveldb_base.specs.BlockHandle.{Handle, handle_bytes}
use Rattle.leveldb_base.specs.Cmp.{IsPreorderOn, bytewise}
use Rattle.leveldb_base.specs.Types.{Pair, pair_at}
use Rattle.leveldb_base.specs.declared.error.Status.{Status}
use Rattle.leveldb_env.specs.Compressor.{Codings, Decodes}
use Rattle.leveldb_env.specs.declared.env.Env.{Ghosts}
use Rattle.leveldb_table.specs.Block.{IsBlock}
use Rattle.leveldb_table.specs.BlockWalk.{BlockPosition, pairs_over, position_over}
use Rattle.leveldb_table.specs.ReadableTable.{AreKeysBetween, ForFileOf, HasUndecodedBlock, IsHandleIn, IsNumberedTable, IsUndecodedAt, IsUndecodedLine, LineHolds, LinesHold, TestsByMore, of_line}
use Rattle.leveldb_table.specs.Table.{HasBlockAt}
use Rattle.leveldb_table.specs.TableBlock.{IsLackError, KeepsDisk, ReadsFile}
use Rattle.leveldb_table.specs.TableReader.{HasIndex}
use Rattle.leveldb_table.proofs.ReadableFileLemmas.{LinesSoFar, line_by_keys, so_far_contains}
use Rattle.leveldb_table.proofs.ReadableTableLemmas.{index_by_more, lines_are_tables}
use Rattle.leveldb_table.proofs.TableBlockLemmas.{FileHas-after, reads_then}
use Rattle.leveldb_table.proofs.TableMoreLemmas.{block_by_more}
use Rattle.leveldb_table.proofs.TableReaderLemmas.{lacks}

-- a test that fails of what isn't so
pub no_test : {P : Type 0} → (P → ⊥) → IsTrue false ↔ P
no_test none = (λ e. absurd (true≢false (sym e)), λ p. absurd (none p))

-- what a test for none says
pub some_if : {T : Type 0} (found : Option T) (none : Bool) → is_some found ≡ not none
    → none ≡ false → (x : T) × (found ≡ Some x)
some_if None none says e = let clash : false ≡ true = says ∙ ap not e in absurd (true≢false (sym
    clash))
some_if (Some x) none says e = (x, refl)

pub none_if : {T : Type 0} (found : Option T) (none : Bool) → is_some found ≡ not none
    → none ≡ true → found ≡ None
none_if None none says e = refl
none_if (Some x) none says e = let clash : true ≡ false = says ∙ ap not e in absurd (true≢false
    clash)

module _ {E F : Type 0} (env : Ghosts E F) (codings : Codings) (accepts : List ℕ
    → Bool) (cmp : List ℕ → List ℕ → Ordering) (file : F) (size : ℕ) where
  -- a line whose block was read is judged by its keys
  pub line_judged : (state : E) (before : Option (List ℕ)) (line : Pair) (handle : Handle) (text :
      List ℕ) (pairs : List Pair) (result : Result Bool Status)
      → IfOk result (λ fit. IsTrue fit ↔ AreKeysBetween accepts cmp before line.0 pairs)
      → line.1 ≡ handle_bytes handle
      → ForFileOf env state file size (λ bytes. HasBlockAt (Decodes codings) bytes handle text)
      → IsBlock cmp text pairs → accepts line.0 ≡ true
      → IfOk result (λ holds. ForFileOf env state file size (λ bytes. TestsByMore codings (λ
      Decodes. LineHolds Decodes accepts cmp bytes before line) holds))
  line_judged state before line handle text pairs (Err status) says named there block accepted = tt
  line_judged state before line handle text pairs (Ok fit) says named there block accepted = λ bytes
      has same more by.
      let holds = line_by_keys {accepts = accepts} {cmp = cmp} {bytes = bytes} {before = before}
      {line = line} codings named more by (there bytes has same) block accepted in
      (λ e. holds.0 (says.0 e), λ h. says.1 (holds.1 h))

  -- a line that fails fails for its block
  pub line_fails : {C : Type 0} {old state new : E} {lines : List Pair} {before : Option (List ℕ)}
      {walk : BlockPosition C} {line : Pair} (result : Result Bool Status)
      → LinesSoFar env codings accepts cmp old file size lines before walk state
      → Some line ≡ pair_at (pairs_over walk) (position_over walk)
      → ReadsFile env (IsLackError env codings (λ bytes status. size ≡ length bytes
      → IsUndecodedLine codings bytes line.1 status) state file) state new result
      → ReadsFile env (IsLackError env codings (λ bytes status. size ≡ length bytes
      → (other : Pair) × Contains lines other × IsUndecodedLine codings bytes other.1 status)
      old file) old new result
  line_fails {line = line} result so_far here reads =
      reads_then env result so_far.kept_disk so_far.counted
      (lacks env codings so_far.kept_disk (λ bytes status. size ≡ length bytes
      → IsUndecodedLine codings bytes line.1 status)
      (λ bytes status has why same. (
        line,
        so_far_contains env codings accepts cmp _ file size _
            so_far here,
        why same,
      ))) reads

  module _ {old mid : E} (kept_disk : KeepsDisk env old mid) where
    -- a block fails that the footer names
    pub block_fails : {new : E} {T : Type 0} (handle : Handle) (result : Result T Status)
        → env.failures mid ≡ env.failures old
        → ForFileOf env old file size (λ bytes. IsHandleIn codings cmp bytes handle)
        → ReadsFile env (IsLackError env codings (λ bytes status. size ≡ length bytes
        → IsUndecodedAt codings bytes handle status) mid file) mid new result
        → ReadsFile env (IsLackError env codings (λ bytes status. size ≡ length bytes
        → HasUndecodedBlock codings cmp bytes status) old file) old new result
    block_fails handle result counted is_in reads =
        reads_then env result kept_disk counted
        (lacks env codings kept_disk (λ bytes status. size ≡ length bytes
        → IsUndecodedAt codings bytes handle status)
        (λ bytes status has why same. (handle, is_in bytes has same, why same))) reads

    -- or one that a line names
    pub lines_fail : {new : E} (lines : List Pair) (meta index : Handle) (result : Result Bool
        Status) → env.failures mid ≡ env.failures old
        → ForFileOf env old file size (λ bytes. HasIndex codings cmp bytes (length bytes) lines meta
        index)
        → ReadsFile env (IsLackError env codings (λ bytes status. size ≡ length bytes
        → (line : Pair) × Contains lines line × IsUndecodedLine codings bytes line.1 status) mid
        file) mid new result
        → ReadsFile env (IsLackError env codings (λ bytes status. size ≡ length bytes
        → HasUndecodedBlock codings cmp bytes status) old file) old new result
    lines_fail lines meta index result counted indexed reads =
        reads_then env result kept_disk counted
        (lacks env codings kept_disk (λ bytes status. size ≡ length bytes
        → (line : Pair) × Contains lines line × IsUndecodedLine codings bytes line.1 status)
        (λ bytes status has why same. let at = why same in (
          at.2.0,
          of_line lines meta index at.0
              (indexed bytes has same) at.1 at.2.1,
          at.2.2,
        ))) reads

    -- a table is judged by the lines of its index
    pub table_judged : IsPreorderOn accepts cmp
        → (lines metas : List Pair) (meta index : Handle) (text : List ℕ) (result : Result Bool
        Status)
        → IfOk result (λ holds. ForFileOf env mid file size (λ bytes. TestsByMore codings (λ
        Decodes. LinesHold Decodes accepts cmp bytes None lines) holds))
        → ForFileOf env old file size (λ bytes. HasIndex codings cmp bytes (length bytes) lines meta
        index) → ForFileOf env old file size (λ bytes. HasBlockAt (Decodes codings) bytes meta
        text) → IsBlock bytewise text metas
        → IfOk result (λ holds. ForFileOf env old file size (λ bytes. TestsByMore codings (λ
        Decodes. (pairs : List Pair) × IsNumberedTable Decodes accepts cmp bytes pairs) holds))
    table_judged order lines metas meta index text (Err status) tests indexed there block = tt
    table_judged order lines metas meta index text (Ok holds) tests indexed there block = λ bytes
        has same more by.
        let says = tests bytes (FileHas-after env kept_disk has) same more by in
        let tables = lines_are_tables order (index_by_more codings more by (indexed bytes has same))
        (block_by_more (Decodes codings) (Decodes more) by bytes meta text (there bytes has
        same)) block in
        (λ e. tables.0 (says.0 e), λ table. says.1 (tables.1 table))
