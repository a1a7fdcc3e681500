-- A file of a folder that is judged, and opened where it is a readable table.
use Rattle.std.specs.Prelude.{◌≢◌, Any, IsErrAnd, IsSomeAnd, IsTrue, string_bytes}
use Rattle.std.proofs.Common.{◌≡◌, ◌∙◌, inl, inr, ◌<◌, ◌^◌, ℕ, Bool, true, false, List, [], ◌∷◌, Option, None, Some, Ok, Err, Result, ap, arith, length, map, refl, subst, sym}
use Rattle.std.specs.declared.cmp.Ordering.{Ordering}
use Rattle.leveldb_base.specs.Error.{IsOutOfMemory}
use Rattle.leveldb_base.specs.KeyTypes.{internal_cmp}
use Rattle.leveldb_base.specs.Types.{Pair}
use Rattle.leveldb_base.specs.declared.cmp.Cmp.{Ghosts as CmpGhosts}
use Rattle.leveldb_base.specs.declared.cmp.internal.InternalKeyCmp.{InternalKeyCmp}
use Rattle.leveldb_base.specs.declared.error.Status.{Status}
use Rattle.leveldb_base.specs.declared.types.FileType.TheVariants.{Table}
use Rattle.leveldb_env.specs.Compressor.{Codings, Decodes}
use Rattle.leveldb_env.specs.Env.{File, Files, bytes_of, in_folder}
use Rattle.leveldb_env.specs.declared.env.Env.{Ghosts as EnvGhosts}
use Rattle.leveldb_table.proofs.TableBlockLemmas.{FileHas-after, KeepsDisk-refl, KeepsDisk-trans, reads_ok, reads_own, reads_refused, reads_then, reads_weaker, same_files}
use Rattle.leveldb_table.proofs.TableReaderLemmas.{tables_indexed}
use Rattle.leveldb_table.specs.ReadableTable.{IsReadableTable, JudgesTable, PathHas}
use Rattle.leveldb_table.specs.Table.{Part, index_pair}
use Rattle.leveldb_table.specs.TableBlock.{KeepsDisk, ReadsFile}
use Rattle.leveldb_table.specs.TableReader.{HasIndex, HasNoIndex}
use Rattle.leveldb_version.proofs.Tables.ReadTableLemmas.{value_of}
use Rattle.leveldb_version.specs.Tables.TableCache.{HasBytesAt, files_at}
use Rattle.leveldb_store.specs.declared.opening.listing.ListedFile.{ListedFile}
use Rattle.leveldb_repair.specs.FoundTables.{FindsTable, IsFoundTable, IsListedFile, IsMissingTable, IsThereIfTable, IsUndecodedTable, SizesFile, WhyNoTables}
use Rattle.leveldb_repair.specs.FoundWalkTable.{IsFoundThere, IsNewFound, OpensFoundAt}
use Rattle.leveldb_repair.specs.declared.found_walk.table.FoundTable.{FoundTable}

-- one file is the file
only : (P : ListedFile → Type 0) (file : ListedFile) → P file → Any P (file ∷ [])
only P file has = (0, file, omega arith, refl, has)

-- ---- a walk that is new stays so

module _ {E C F : Type 0} (order : CmpGhosts (InternalKeyCmp C)) (env : EnvGhosts E F)
    (cmp : CmpGhosts C) (codings : Codings) where
  there_after : {from to : E} → KeepsDisk env from to → (it : FoundTable E C F) (bytes : List ℕ)
      (parts : List Part) → IsFoundThere order env codings from it bytes parts
      → IsFoundThere order env codings to it bytes parts
  there_after kept it bytes parts there = record {
    has = FileHas-after env kept there.has;
    parts_are = there.parts_are;
    holds = there.holds;
    indexed = there.indexed;
    sorted = there.sorted;
  }

  pub new_after : {compares : C} {Has : List ℕ → Type 0} {from to : E} → KeepsDisk env from to
      → (it : FoundTable E C F) → IsNewFound order env cmp codings compares Has from it
      → IsNewFound order env cmp codings compares Has to it
  new_after kept it new = record {
    ordered = new.ordered;
    left = new.left;
    there = λ bytes pairs has is. (let found = new.there bytes pairs has is in
        (found.0, found.1, there_after kept it bytes found.0 found.2));
  }

-- ---- one file

module _ {E C F : Type 0} (order : CmpGhosts (InternalKeyCmp C)) (env : EnvGhosts E F)
    (cmp : CmpGhosts C) (codings : Codings) (compares : C) (store : List ℕ) (file : ListedFile)
    (from : E) where
  abbrev files : Files
  files = (env.observed from).disk.files

  abbrev path : List ℕ
  path = in_folder store (string_bytes file.name)

  abbrev user_order : List ℕ → List ℕ → Ordering
  user_order = cmp.cmp compares

  abbrev Why : Status → Type 0
  Why = WhyNoTables env codings user_order store files (file ∷ [])

  abbrev Finds : Result (Option (FoundTable E C F)) Status → E → Type 0
  Finds result to = FindsTable order env cmp codings compares store file from result to

  -- it fails
  failed : {T : Type 0} {status : Status} (result : Result (Option (FoundTable E C F)) Status)
      (to : E) → IsErrAnd result (λ other. other ≡ status)
      → ReadsFile env {T = T} Why from to (Err status) → Finds result to
  failed (Ok found) to same reads = absurd same
  failed {T} (Err other) to same reads =
      record { finds = tt; there = tt; reads = reads_refused env {T = T} (Err other) same reads }

  -- out of memory
  pub FindsTable-out_of_memory : {status : Status}
      (result : Result (Option (FoundTable E C F)) Status)
      → IsErrAnd result (λ other. other ≡ status) → IsOutOfMemory status → Finds result from
  FindsTable-out_of_memory {status} result same out = failed {T = Unit {0}} result from same
      (reads_own env {P = IsOutOfMemory} (Err status) (KeepsDisk-refl env from) refl out
      (λ other memory. inl memory))

  -- it is no table
  pub FindsTable-other : file.kind ≢ Table → Finds (Ok None) from
  FindsTable-other other = record {
    finds = λ modelled kind found is more by pairs readable. other kind;
    there = λ modelled kind. absurd (other kind);
    reads = reads_ok env (KeepsDisk-refl env from) refl;
  }

  module _ (kind : file.kind ≡ Table) (p : List ℕ) (p_is : p ≡ path) where
    -- it is missing
    pub FindsTable-unsized : {status : Status} (result : Result (Option (FoundTable E C F)) Status)
        (to : E) → IsErrAnd result (λ other. other ≡ status)
        → SizesFile env p from (Err status) to → Finds result to
    FindsTable-unsized {status} result to same sizes = failed {T = ℕ} result to same
        (reads_weaker env (Err status) (λ one missing. inl (
          missing.0,
          λ modelled. only (IsMissingTable store files) file
              (kind, ap files (sym p_is) ∙ missing.1 modelled),
        )) sizes.reads)

    module _ {size : ℕ} {sized : E} (sizes : SizesFile env p from (Ok size) sized) where
      keeps_sized : KeepsDisk env from sized
      keeps_sized = let reads = sizes.reads in reads.kept_disk

      counted_sized : env.failures sized ≡ env.failures from
      counted_sized = let reads = sizes.reads in let cause = reads.cause in cause.ok

      -- the file, where the disk is modelled
      file_there : IsTrue env.models_disk → (found : File) × IsListedFile store files file found
          × (length (bytes_of found) < 2 ^ 64)
      file_there modelled =
          let at = value_of (λ (f : File). size ≡ length (bytes_of f)) (files p)
          (sizes.ok modelled) in (
            at.0,
            ap files (sym p_is) ∙ at.1,
            subst (λ n. n < 2 ^ 64) at.2 sizes.fits,
          )

      there_if : IsTrue env.models_disk → IsThereIfTable store files file
      there_if modelled table = let at = file_there modelled in (at.0, at.1)

      module _ {at : E} (kept : KeepsDisk env from at) (modelled : IsTrue env.models_disk)
          (found : File) (is : IsListedFile store files file found) where
        -- it is there still
        there_at : files_at env at p ≡ Some found
        there_at = ap (λ (fs : Files). fs p) (same_files env kept modelled) ∙ ap files p_is ∙ is

        has_path : PathHas env at p (bytes_of found)
        has_path = record {
          modelled = modelled;
          there = subst (λ (o : Option File). IsSomeAnd o (λ f. bytes_of f ≡ bytes_of found))
              (sym there_at) refl;
        }

        has_bytes : (bytes : List ℕ) → bytes ≡ bytes_of found
            → length (bytes_of found) < 2 ^ 64 → HasBytesAt (files_at env at) p bytes
        has_bytes bytes same fits = record {
          there = subst (λ (o : Option File). IsSomeAnd o (λ f. bytes_of f ≡ bytes))
              (sym there_at) (sym same);
          fits = subst (λ (b : List ℕ). length b < 2 ^ 64) (sym same) fits;
        }

      -- a block of it isn't decoded
      pub FindsTable-unjudged : {status : Status}
          (result : Result (Option (FoundTable E C F)) Status) (to : E) (q : List ℕ) → q ≡ p
          → IsErrAnd result (λ other. other ≡ status)
          → JudgesTable env codings user_order q sized (Err status) to → Finds result to
      FindsTable-unjudged {status} result to q q_is same judges_at =
          let judges = subst
          (λ z. JudgesTable env codings user_order z sized (Err status) to) q_is judges_at in
          failed {T = Bool} result to same
          (reads_then env (Err status) keeps_sized counted_sized (λ one lacks. inr (
            lacks.0,
            λ modelled. (let at = file_there modelled in
                only (IsUndecodedTable store files codings user_order one) file (
                  kind,
                  at.0,
                  at.1,
                  lacks.1 (bytes_of at.0) (has_path keeps_sized modelled at.0 at.1),
                )),
          )) judges.reads)

      module _ {readable : Bool} {judged : E} (q : List ℕ) (q_is : q ≡ p)
          (judges_at : JudgesTable env codings user_order q sized (Ok readable) judged) where
        judges : JudgesTable env codings user_order p sized (Ok readable) judged
        judges = subst (λ z. JudgesTable env codings user_order z sized (Ok readable) judged) q_is
            judges_at

        keeps_judged : KeepsDisk env from judged
        keeps_judged = let reads = judges.reads in KeepsDisk-trans env keeps_sized reads.kept_disk

        counted_judged : env.failures judged ≡ env.failures from
        counted_judged = let reads = judges.reads in let cause = reads.cause in
            cause.ok ∙ counted_sized

        -- it is no readable table
        pub FindsTable-left_out : readable ≡ false → Finds (Ok None) judged
        FindsTable-left_out none = record {
          finds = λ modelled kind found is more by pairs holds.
              (let never : readable ≡ true =
              (judges.ok (bytes_of found) (has_path keeps_sized modelled found is) more by).1
              (pairs, holds) in let both : false ≡ true = sym none ∙ never in cc);
          there = there_if;
          reads = reads_ok env keeps_judged counted_judged;
        }

        module _ (is_readable : readable ≡ true) where
          pairs_there : (modelled : IsTrue env.models_disk) (found : File)
              → IsListedFile store files file found → (pairs : List Pair)
              × IsReadableTable (Decodes codings) user_order (bytes_of found) pairs
          pairs_there modelled found is =
              (judges.ok (bytes_of found) (has_path keeps_sized modelled found is) codings
              (λ id stored text decoded. decoded)).0 is_readable

          -- it isn't opened, which is no fault of its own
          pub FindsTable-unopened : {status : Status}
              (order_is : order.cmp (record { 0 = compares }) ≡ internal_cmp user_order)
              (result : Result (Option (FoundTable E C F)) Status) (to : E) (r : List ℕ) → r ≡ p
              → IsErrAnd result (λ other. other ≡ status)
              → OpensFoundAt order env cmp codings compares r judged (Err status) to
              → Finds result to
          FindsTable-unopened {status} order_is result to r r_is same opens_at =
              let opens = subst
              (λ z. OpensFoundAt order env cmp codings compares z judged (Err status) to) r_is
              opens_at in
              failed {T = FoundTable E C F} result to same
              (reads_then env (Err status) keeps_judged counted_judged (λ one lacks. inr (
                lacks.0,
                λ modelled. (let at = file_there modelled in
                    absurd (indexed modelled at.0 at.1
                    (lacks.1 modelled (bytes_of at.0)
                    (has_bytes keeps_judged modelled at.0 at.1 (bytes_of at.0) refl at.2)).0)),
              )) opens.reads)
            where
              indexed : (modelled : IsTrue env.models_disk) (found : File)
                  → IsListedFile store files file found
                  → HasNoIndex codings (order.cmp (record { 0 = compares })) (bytes_of found)
                  (length (bytes_of found)) → ⊥
              indexed modelled found is none =
                  let table = (pairs_there modelled found is).1.table in
                  none (map index_pair table.parts) table.meta table.index
                  (subst (λ (o : List ℕ → List ℕ → Ordering).
                  HasIndex codings o (bytes_of found) (length (bytes_of found))
                  (map index_pair table.parts) table.meta table.index)
                  (sym order_is) (tables_indexed table.tabled))

          -- it is, and there is a walk over it
          opened : {it : FoundTable E C F} (to : E)
              → OpensFoundAt order env cmp codings compares p judged (Ok it) to
              → Finds (Ok (Some it)) to
          opened {it} to opens = record {
            finds = found;
            there = there_if;
            reads = let reads = opens.reads in let cause = reads.cause in
                reads_ok env (KeepsDisk-trans env keeps_judged reads.kept_disk)
                (cause.ok ∙ counted_judged);
          }
            where
              found : IsTrue env.models_disk → (pairs : List Pair)
                  × IsFoundTable order env cmp codings compares store files to file it pairs
              found modelled =
                  let at = file_there modelled in
                  let has = pairs_there modelled at.0 at.1 in
                  let new = opens.ok in (
                    has.0,
                    record {
                      kind = kind;
                      found = at.0;
                      is_there = at.1;
                      readable = has.1;
                      path_is = opens.path_is modelled ∙ p_is;
                      opened = record {
                        ordered = new.ordered;
                        left = new.left;
                        there = λ bytes pairs same is. new.there bytes pairs
                            (modelled, has_bytes keeps_judged modelled at.0 at.1 bytes same at.2)
                            is;
                      };
                    },
                  )

          pub FindsTable-opened : {it : FoundTable E C F} (to : E) (r : List ℕ) → r ≡ p
              → OpensFoundAt order env cmp codings compares r judged (Ok it) to
              → Finds (Ok (Some it)) to
          FindsTable-opened {it} to r r_is opens_at = opened to (subst
              (λ z. OpensFoundAt order env cmp codings compares z judged (Ok it) to) r_is opens_at)
