-- Walks over tables stay where they are while files change that they can't open.
use Rattle.std.proofs.Common.{◌≡◌, List, Option, None, Some, refl, sym, subst, inl, inr, arith}
use Rattle.std.specs.Prelude.{IsSomeAnd}
use Rattle.leveldb_base.specs.Types.{Pair}
use Rattle.leveldb_base.specs.declared.cmp.Cmp.{Ghosts as CmpGhosts}
use Rattle.leveldb_base.specs.declared.cmp.internal.InternalKeyCmp.{InternalKeyCmp}
use Rattle.leveldb_base.specs.declared.error.Status.{Status}
use Rattle.leveldb_base.specs.declared.error.StatusCode.TheVariants.{NotSupported}
use Rattle.leveldb_env.specs.Compressor.{Codings}
use Rattle.leveldb_env.specs.Env.{File, bytes_of}
use Rattle.leveldb_env.specs.declared.env.Env.{Ghosts as EnvGhosts}
use Rattle.leveldb_env.specs.declared.filter.FilterPolicy.{Ghosts as FilterGhosts}
use Rattle.leveldb_iter.specs.Walk.{KeyOrder}
use Rattle.leveldb_version.proofs.Versions.PairwiseLemmas.{each_more_of}
use Rattle.leveldb_version.proofs.Tables.TableCacheLemmas.{matches_changed}
use Rattle.leveldb_files.specs.Stores.Format.{IsTableFault, LacksCompressor, Meaning}
use Rattle.leveldb_version.specs.Tables.TableCache.{IsSameOrGone, files_at, path_at}
use Rattle.leveldb_version.specs.Tables.TableMoves.{FileTable}
use Rattle.leveldb_version.specs.Edits.VersionEdit.{new_file_of}
use Rattle.leveldb_version.specs.Walks.VersionIter.{AreOpenGiven, AreTablesThere, FailsOr, IsOverTables, reading}
use Rattle.leveldb_version.specs.declared.table_cache.moves.ReadTables.{ReadTables}
use Rattle.leveldb_version.specs.declared.version_iter.VersionIter.{VersionIter}
use Rattle.leveldb_version.specs.Walks.WalksBeside.{ChangesBesideTables, WalksStay, WalksStayBeside}

-- a file that is the same one
same_file : (old new : Option File) → new ≡ old → IsSameOrGone old new
same_file old new e = subst (IsSameOrGone old) (sym e) (itself old)
  where
    itself : (o : Option File) → IsSameOrGone o o
    itself None = tt
    itself (Some file) = refl

module _ {E C FP K F : Type 0} (env : EnvGhosts E F) (cmp : CmpGhosts C) (filters : FilterGhosts FP)
    (codings : K → Codings) (tables : ReadTables E C FP K F) (from to : E)
    (changes : ChangesBesideTables env tables from to) where
  -- a reason in a later world is one in an earlier
  fails_or : (Why : Type 0) (later : E × ReadTables E C FP K F) (status : Status)
      → FailsOr env cmp filters codings Why (to, tables) later status
      → FailsOr env cmp filters codings Why (from, tables) later status
  fails_or Why later status (inl out) = inl out
  fails_or Why later status (inr (inl more)) =
      let counted = changes.later in inr (inl (omega (arith, counted, more)))
  fails_or Why later status (inr (inr (inl most))) = inr (inr (inl most))
  fails_or Why later status (inr (inr (inr why))) = inr (inr (inr why))

module _ {E C FP K F : Type 0} {order : CmpGhosts (InternalKeyCmp C)} {env : EnvGhosts E F}
    {cmp : CmpGhosts C} {filters : FilterGhosts FP} {codings : K → Codings} where
  module _ (tables : ReadTables E C FP K F) (from to : E)
      (changes : ChangesBesideTables env tables from to)
      (given : AreOpenGiven (from, tables)) where
    tables_beside : (it : VersionIter C) (meaning : Meaning) (those : List FileTable)
        → AreTablesThere order env cmp filters codings meaning (from, tables) it those
        → AreTablesThere order env cmp filters codings meaning (to, tables) it those
    tables_beside it meaning those there = record {
      matched = record {
        modelled = there.matched.modelled;
        matches = matches_changed env (reading env cmp filters codings tables) tables.cache.now
            (λ number fits there_is. same_file
            (files_at env from (path_at tables.cache.now number))
            (files_at env to (path_at tables.cache.now number))
            (changes.files there.matched.modelled number fits (given number fits there_is)))
            there.matched.matches;
      };
      agrees = there.agrees;
      each = each_more_of _ _ it.files.now those (λ file table has. (
        has.0,
        has.1,
        record {
          there = record {
            there = subst (λ o. IsSomeAnd o (λ (f : File). bytes_of f ≡ table.bytes))
                (sym (changes.files there.matched.modelled (new_file_of file).number has.0 has.3))
                has.2.there.there;
            fits = has.2.there.fits;
          };
          is = has.2.is;
          parted = has.2.parted;
          last = has.2.last;
        },
        has.3,
      )) there.each;
      indexed = there.indexed;
    }

    over_beside : (it : VersionIter C) (keys : KeyOrder) (pairs : List Pair)
        → IsOverTables order env cmp filters codings (from, tables) it keys pairs
        → IsOverTables order env cmp filters codings (to, tables) it keys pairs
    over_beside it keys pairs over = record {
      meaning = over.meaning;
      tables = over.tables;
      there = tables_beside it over.meaning over.tables over.there;
      keys_are = over.keys_are;
      pairs_are = over.pairs_are;
      sorted = over.sorted;
      parted = over.parted;
      accepted = over.accepted;
    }

    walks_stay : WalksStay order env cmp filters codings tables from to
    unfolding over_beside
    walks_stay = record {
      given = given;
      over = over_beside;
      at = λ it keys pairs position at. record {
        over = over_beside it keys pairs at.over;
        inner = at.inner;
        in_table = at.in_table;
        at = at.at;
      };
      excuses = λ it later status fails. record {
        fault = fails_or env cmp filters codings tables from to changes (IsTableFault (reading env cmp filters codings tables).format status.code)
            later status fails.fault;
        lacks = λ meaning those there. fails_or env cmp filters codings tables from to changes ((status.code ≡ NotSupported)
            × LacksCompressor (reading env cmp filters codings tables).format meaning)
            later status (fails.lacks meaning those (tables_beside it meaning those there));
      };
    }

module _ {E C FP K F : Type 0} (order : CmpGhosts (InternalKeyCmp C)) (env : EnvGhosts E F)
    (cmp : CmpGhosts C) (filters : FilterGhosts FP) (codings : K → Codings) where
  pub walks_stay_beside : WalksStayBeside order env cmp filters codings
  walks_stay_beside tables from to changes given = walks_stay tables from to changes given
